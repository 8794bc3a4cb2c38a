-- The moves with a list of answer words of the right length or another.
use Prim.Native.Nat.{ℕ}
use mathlib.Core.Path.{◌≡◌, ap}
use mathlib.Core.Logic.{◌≢◌}
use mathlib.Core.List.{List, [], ◌∷◌}
use lib.ListN.{length}
use borrow.Author.Tests.{eq-eqb, ne_eqb}
use Rattle.t800.specs.declared.GatherAnswer.{GatherAnswer}
use Rattle.t800.specs.declared.Markers.{Markers}
use Rattle.t800.specs.declared.WriteAnswer.{WriteAnswer}
use Rattle.t800.specs.Gathered.{gather, spread}
use Rattle.t800.specs.Exports.{gather_exit, gather_call, spread_exit, spread_call}

module _ (row states scratch places : List ℕ) (m : Markers) (headers bodies answer : List ℕ) where
  pub gather-unlisted : (why : ℕ) → why ≡ 3 → length answer ≢ 2
      → record { refusal = why; scratch = scratch; headers = headers; bodies = bodies; answer = answer }
      ≡ gather_call row states scratch places m headers bodies answer
  unfolding gather_call
  gather-unlisted why e h = rw (ne_eqb (length answer) 2 h, e)

  pub gather-listed : (r : GatherAnswer) (s hs bs l : List ℕ) → length answer ≡ 2
      → record { answer = r; scratch = s; headers = hs; bodies = bs } ≡ gather row states scratch places m headers bodies
      → l ≡ r.headers ∷ r.bodies ∷ []
      → record { refusal = r.refusal; scratch = s; headers = hs; bodies = bs; answer = l }
      ≡ gather_call row states scratch places m headers bodies answer
  unfolding gather_call
  gather-listed r s hs bs l h e g = rw (eq-eqb (length answer) 2 h, g) (ap gather_exit e)

module _ (headers bodies states scratch places : List ℕ) (m : Markers) (row answer : List ℕ) where
  pub spread-unlisted : (why : ℕ) → why ≡ 3 → length answer ≢ 1
      → record { refusal = why; scratch = scratch; row = row; answer = answer }
      ≡ spread_call headers bodies states scratch places m row answer
  unfolding spread_call
  spread-unlisted why e h = rw (ne_eqb (length answer) 1 h, e)

  pub spread-listed : (r : WriteAnswer) (s o l : List ℕ) → length answer ≡ 1
      → record { answer = r; scratch = s; row = o } ≡ spread headers bodies states scratch places m row → l ≡ r.bytes ∷ []
      → record { refusal = r.refusal; scratch = s; row = o; answer = l }
      ≡ spread_call headers bodies states scratch places m row answer
  unfolding spread_call
  spread-listed r s o l h e g = rw (eq-eqb (length answer) 1 h, g) (ap spread_exit e)
