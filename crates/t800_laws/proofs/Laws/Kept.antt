-- What stores leave alone: a state's length, and the words before the stored ones. Setting, coding and reading a path store at its nodes.
use mathlib.Core.Path.{◌≡◌, refl, ◌∙◌}
use mathlib.Core.List.{List, [], ◌∷◌, reverse}
use Prim.Native.Nat.{ℕ, ◌+◌, ◌*◌, ◌≤◌, ◌<◌}
use native.Mathlib.Omega.{arith}
use lib.ListN.{length, get_or, set, length-set}
use lib.Seq.{get_or-set_other}
use lib.Dec.{ltb}
use Rattle.t800.specs.declared.Band.{Band}
use Rattle.t800.specs.declared.Bio.{Bio}
use Rattle.t800.specs.TagTree.{value, set_value, code_path, read_path}
use Rattle.t800.specs.State.{Block, bands, blocks}
use Rattle.t800_laws.proofs.Laws.Tests.{either}
use Rattle.t800_laws.proofs.Laws.Paths.{All, addresses, all_reversed}
use Rattle.t800_laws.proofs.Laws.Layout.{Tree, tree_of, From, AllFrom, bands-from}
use Rattle.t800_laws.proofs.Laws.FirstWords.{same_bands}

-- as long, and the same before word m
pub record Kept (m : ℕ) (ws vs : List ℕ) : Type 0 where
  pub long : length vs ≡ length ws
  pub same : (j : ℕ) → j < m → get_or vs j 0 ≡ get_or ws j 0

-- with the first thirteen words the bands, whatever next layer is then set
pub bands-kept : {ws vs : List ℕ} → Kept 13 ws vs → bands vs ≡ bands ws
bands-kept {ws} {vs} k = (same_bands ws vs (λ j h d. k.same j h)).0

pub bands-kept_then_layer : {ws vs : List ℕ} (t : ℕ) → Kept 13 ws vs → bands (set vs 3 t) ≡ bands ws
bands-kept_then_layer {ws} {vs} t k = (same_bands ws (set vs 3 t) (λ j h d. get_or-set_other vs 3 j t 0 d ∙ k.same j h)).0

-- ---- the blocks of bands, from their first word on; and any block, from word 0 on

pub blocks-from : (bs : List Band) → AllFrom 13 (blocks bs)
unfolding blocks
blocks-from bs = bands-from 13 bs

all_from_0 : (xs : List ℕ) → All (λ a. 0 ≤ a) xs
all_from_0 [] = tt
all_from_0 (x ∷ xs) = (omega arith, all_from_0 xs)

pub path_from_0 : (base : ℕ) (ns : List ℕ) → All (λ a. 0 ≤ a) (addresses base ns)
path_from_0 base ns = all_from_0 (addresses base ns)

pub from_0 : (k : Block) → From 0 k
from_0 k = record { place = omega arith; leaf = λ t. omega arith; path = λ t. path_from_0 (tree_of t k) k.path }

module _ (m : ℕ) where
  pub from_root : (t : Tree) (k : Block) → From m k → All (λ a. m ≤ a) (addresses (tree_of t k) (reverse k.path))
  from_root t k f = all_reversed (λ a. m ≤ a) (tree_of t k) k.path (f.path t)

  -- ---- stores

  pub kept : {ws : List ℕ} → Kept m ws ws
  kept = record { long = refl; same = λ j h. refl }

  pub kept_then : {ws vs us : List ℕ} → Kept m ws vs → Kept m vs us → Kept m ws us
  kept_then a b = record { long = b.long ∙ a.long; same = λ j h. b.same j h ∙ a.same j h }

  pub stored : (ws : List ℕ) (i v : ℕ) → m ≤ i → Kept m ws (set ws i v)
  stored ws i v h = record { long = length-set ws i v; same = λ j l. get_or-set_other ws i j v 0 (omega arith) }

  pub two_stored : (ws : List ℕ) (i j v w : ℕ) → m ≤ i → m ≤ j → Kept m ws (set (set ws i v) j w)
  two_stored ws i j v w h g = kept_then (stored ws i v h) (stored (set ws i v) j w g)

  -- ---- paths

  pub leaf_set : (base : ℕ) (ns : List ℕ) (v : ℕ) (ws : List ℕ) → All (λ a. m ≤ a) (addresses base ns) → Kept m ws (set_value base ns v ws)
  unfolding set_value
  leaf_set base [] v ws h = kept
  leaf_set base (n ∷ ns) v ws h =
      either (Kept m ws) (ltb v (value ws (base + 3 * n))) _ _
      (kept_then (stored ws (base + 3 * n) v h.0) (leaf_set base ns v (set ws (base + 3 * n) v) h.1)) kept

  pub path_coded : (base t : ℕ) (ns : List ℕ) (l : ℕ) (ws : List ℕ) → All (λ a. m ≤ a) (addresses base ns)
      → Kept m ws (code_path base t ns l ws).words
  unfolding code_path
  path_coded base t [] l ws h = kept
  path_coded base t (n ∷ ns) l ws h =
      let g = h.0 in
      kept_then (two_stored ws (base + 3 * n + 1) (base + 3 * n + 2) _ _ (omega arith) (omega arith)) (path_coded base t ns _ _ h.1)

  pub path_read_lem : (src : List ℕ) (base t : ℕ) (ns : List ℕ) (l : ℕ) (ws : List ℕ) (b : Bio) → All (λ a. m ≤ a) (addresses base ns)
      → Kept m ws (read_path src base t ns l ws b).words
  unfolding read_path
  path_read_lem src base t [] l ws b h = kept
  path_read_lem src base t (n ∷ ns) l ws b h =
      let g = h.0 in
      kept_then (two_stored ws (base + 3 * n) (base + 3 * n + 1) _ _ g (omega arith)) (path_read_lem src base t ns _ _ _ h.1)
