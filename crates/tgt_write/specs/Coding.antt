-- What coding leaves: the words of the trees, and the lent output.
use Rattle.std.specs.Prelude.{ℕ, ◌+◌, max, cond, List, [], ◌∷◌, eqb, get_or, set}
use Rattle.t800.specs.declared.Bio.{Bio}
use Rattle.t800.specs.TagTree.{Coded, value, low, known, low_after, node_bits, known_after}
use Rattle.bio_bytes.specs.Writing.{Output, output, put_bits}
use Rattle.tgt.specs.declared.AfterNode.{AfterNode}

-- ---- a leaf

-- the words and the output after it
pub record LeafCoded : Type 0 where
  pub words : List ℕ
  pub output : Output

abbrev pub leaf_coded : List ℕ → List ℕ → Bio → LeafCoded
leaf_coded ws bytes b = record { words = ws; output = output bytes b }

-- the bits of t800's coding are put
abbrev pub put_coded : Output → Coded → LeafCoded
put_coded o c = record { words = c.words; output = put_bits o c.bits }

-- ---- a node

-- the same after a node, and the low from which the next goes on
pub record NodeCoded : Type 0 where
  pub words : List ℕ
  pub output : Output
  pub low : ℕ

abbrev pub node_coded : List ℕ → List ℕ → AfterNode → NodeCoded
node_coded ws bytes r = record { words = ws; output = output bytes r.bio; low = r.low }

-- the node at `at`, with the threshold t, where its low is at least `from`; `code_path` does this at each node
unfoldable pub code_from : ℕ → ℕ → ℕ → List ℕ → Output → NodeCoded
code_from t at from ws o =
    let v = value ws at in
    let k = known ws at in
    let to = low_after v from t in
    record { words = set (set ws (at + 1) to) (at + 2) (known_after v from k t); output = put_bits o (node_bits v from k t); low = to }

-- A 1 is put unless it was put before, and known is 1; known stands at `at`.
unfoldable pub told : List ℕ → Output → ℕ → LeafCoded
told ws o at = record { words = set ws at 1; output = put_bits o (cond (eqb (get_or ws at 0) 0) (1 ∷ []) []) }

-- l being the parent's low
abbrev pub code_node : ℕ → ℕ → ℕ → List ℕ → Output → NodeCoded
code_node t at l ws o = code_from t at (max l (low ws at)) ws o
