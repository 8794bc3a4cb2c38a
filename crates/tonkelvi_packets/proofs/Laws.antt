-- Measuring and writing with a list of answer words of the right length or another.
use Prim.Native.Nat.{ℕ}
use mathlib.Core.Path.{◌≡◌, ap}
use mathlib.Core.Logic.{◌≢◌}
use mathlib.Core.List.{List, [], ◌∷◌}
use lib.ListN.{length}
use borrow.Author.Tests.{eq-eqb, ne_eqb}
use Rattle.t800.specs.declared.Markers.{Markers}
use Rattle.t800.specs.declared.MeasureAnswer.{MeasureAnswer}
use Rattle.t800.specs.declared.WriteAnswer.{WriteAnswer}
use Rattle.t800.specs.WriteHeader.{Contribution}
use Rattle.t800.specs.Packet.{measure, write}
use Rattle.t800.specs.Exports.{measure_exit, measure_call, write_exit, write_call}

module _ (ws scratch : List ℕ) (p : Contribution) (m : Markers) (answer : List ℕ) where
  pub measure-unlisted : (why : ℕ) → why ≡ 3 → length answer ≢ 2 → record { refusal = why; scratch = scratch; answer = answer } ≡ measure_call ws scratch p m answer
  unfolding measure_call
  measure-unlisted why e h = rw (ne_eqb (length answer) 2 h, e)

  pub measure-listed : (r : MeasureAnswer) (s l : List ℕ) → length answer ≡ 2 → record { answer = r; scratch = s }
      ≡ measure ws scratch p m → l ≡ r.header ∷ r.body ∷ []
      → record { refusal = r.refusal; scratch = s; answer = l } ≡ measure_call ws scratch p m answer
  unfolding measure_call
  measure-listed r s l h e g = rw (eq-eqb (length answer) 2 h, g) (ap measure_exit e)

module _ (ws scratch : List ℕ) (p : Contribution) (body : List ℕ) (m : Markers) (number : ℕ) (output answer : List ℕ) where
  pub write-unlisted : (why : ℕ) → why ≡ 3 → length answer ≢ 1 → record { refusal = why; state = ws; scratch = scratch; output = output; answer = answer }
      ≡ write_call ws scratch p body m number output answer
  unfolding write_call
  write-unlisted why e h = rw (ne_eqb (length answer) 1 h, e)

  pub write-listed : (r : WriteAnswer) (vs s o l : List ℕ) → length answer ≡ 1
      → record { answer = r; state = vs; scratch = s; output = o } ≡ write ws scratch p body m number output → l ≡ r.bytes ∷ []
      → record { refusal = r.refusal; state = vs; scratch = s; output = o; answer = l }
      ≡ write_call ws scratch p body m number output answer
  unfolding write_call
  write-listed r vs s o l h e g = rw (eq-eqb (length answer) 1 h, g) (ap write_exit e)
