-- A packet header in a lent output.
use Rattle.std.specs.Prelude.{ℕ, ◌+◌, List, length}
use Rattle.std.proofs.lemmas.List.Edits.{sets}
use Rattle.t800.specs.Bits.{pack}
use Rattle.t800.specs.TagTree.{Coded}
use Rattle.t800.specs.WriteHeader.{Contribution, code_header}

-- the state's words after it, the output, and the place after it
pub record HeaderCoded : Type 0 where
  pub words : List ℕ
  pub bytes : List ℕ
  pub end : ℕ

abbrev pub header_coded : List ℕ → List ℕ → ℕ → HeaderCoded
header_coded ws bytes end = record { words = ws; bytes = bytes; end = end }

-- from place `start` on, where the output has room
abbrev pub put_at : Coded → ℕ → List ℕ → HeaderCoded
put_at c start bytes = header_coded c.words (sets bytes start (pack c.bits)) (start + length (pack c.bits))

unfoldable pub put_header : Contribution → List ℕ → ℕ → List ℕ → HeaderCoded
put_header p ws start bytes = put_at (code_header p ws) start bytes
