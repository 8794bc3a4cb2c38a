-- Blocks one after another, with the lists whole and the places in them running on: `code-is-blocks` (t2_write_bands) says that this is
-- t800's coding of what is left of the lists.
use Rattle.std.specs.Prelude.{ℕ, ◌+◌, ◌≤◌, ◌<◌, ◌≡◌, List, [], ◌∷◌, length, get_or, take, drop}
use Rattle.t800.specs.Segments.{segments_of}
use Rattle.t800.specs.State.{Block}
use Rattle.t800.specs.TagTree.{Coded}
use Rattle.t800.specs.WriteHeader.{code_block}
use Rattle.bio_bytes.specs.Writing.{Output, output, put_bits}
use Rattle.t2_write_block.specs.declared.Run.{Run}
use Rattle.t2_write_lengths.specs.Blocks.{PassesFit}

-- ---- coding

-- words, output, and how many blocks and passes of the lists are done
pub record Running : Type 0 where
  pub words : List ℕ
  pub output : Output
  pub block : ℕ
  pub pass : ℕ

abbrev pub running : List ℕ → List ℕ → Run → Running
running ws bytes r = record { words = ws; output = output bytes r.bio; block = r.block; pass = r.pass }

abbrev pub after_coded : Running → ℕ → Coded → Running
after_coded s c b = record { words = b.words; output = put_bits s.output b.bits; block = s.block + 1; pass = s.pass + c }

-- in layer t, by counts, lengths and marks
unfoldable pub code_next : ℕ → List ℕ → List ℕ → List ℕ → Block → Running → Running
code_next t cs ls ms k s =
    let c = get_or cs s.block 0 in
    after_coded s c (code_block t k c (segments_of (take c (drop s.pass ls)) (take c (drop s.pass ms))) s.words)

unfoldable pub code_all : ℕ → List ℕ → List ℕ → List ℕ → List Block → Running → Running
code_all t cs ls ms [] s = s
code_all t cs ls ms (k ∷ ks) s = code_all t cs ls ms ks (code_next t cs ls ms k s)

-- ---- what the checks before coding establish

-- the block at `at` has a count, its passes have lengths and marks, and they can be coded
pub record NextFits (cs ls ms ws : List ℕ) (at block pass : ℕ) : Type 0 where
  pub counted : block < length cs
  pub many : pass + get_or cs block 0 ≤ length ls
  pub marked : length ms ≡ length ls
  pub passes : PassesFit (get_or ws at 0) (get_or ws (at + 1) 0) (get_or cs block 0) (take (get_or cs block 0) (drop pass ls))
      (take (get_or cs block 0) (drop pass ms))

abbrev pub AllFit : List ℕ → List ℕ → List ℕ → List ℕ → List Block → ℕ → ℕ → Type 0
AllFit cs ls ms ws [] block pass = Unit {0}
AllFit cs ls ms ws (k ∷ ks) block pass = NextFits cs ls ms ws k.at block pass
    × AllFit cs ls ms ws ks (block + 1) (pass + get_or cs block 0)
