-- An absent packet.
use mathlib.Core.Path.{◌≡◌}
use mathlib.Core.List.{List}
use Prim.Native.Nat.{ℕ, ◌+◌}
use lib.ListN.{set}
use Rattle.t800.specs.declared.Bio.{Bio}
use Rattle.t800.specs.declared.Markers.{Markers}
use Rattle.t800.specs.declared.ReadAnswer.{ReadAnswer}
use Rattle.t800.specs.Base.{wiped}
use Rattle.t800.specs.State.{layer}
use Rattle.t800.specs.MarkerSegments.{MarkerRead}
use Rattle.t800.specs.Reports.{as_words}
use Rattle.t800.specs.Packet.{read_absent, read_result}
use Rattle.t2_read_marks.specs.Marks.{done_answer}

pub absent-is : (ws : List ℕ) (m : Markers) (src reports records : List ℕ) (s : MarkerRead) (b : Bio) (scratch rows : List ℕ)
    (answer : ReadAnswer)
    → scratch ≡ set ws 3 (layer ws + 1) → rows ≡ wiped reports → answer ≡ done_answer m src s b 0 0
    → read_result as_words (set ws 3 (layer ws + 1)) scratch rows records answer ≡ read_absent as_words ws m src reports records s b
unfolding read_absent done_answer
absent-is ws m src reports records s b scratch rows answer p q r =
    λ j. read_result as_words (set ws 3 (layer ws + 1)) (p j) (q j) records (r j)
