-- The starts with a list of bands of nine words or another.
use Prim.Native.Nat.{ℕ}
use mathlib.Core.Path.{◌≡◌, ap, ◌∙◌}
use mathlib.Core.Logic.{◌≢◌}
use mathlib.Core.List.{List}
use lib.ListN.{length}
use borrow.Author.Tests.{eq-eqb, ne_eqb}
use Rattle.t800.specs.declared.Band.{Band}
use Rattle.t800.specs.Start.{StartResult, start}
use Rattle.t800.specs.Exports.{bands_in, start_call}

module _ (r n : ℕ) (bands : List ℕ) (style : ℕ) (planes lent : List ℕ) where
  pub start-unlisted : (why : ℕ) → why ≡ 3 → length bands ≢ 9
      → record { answer = why; state = lent } ≡ start_call r n bands style planes lent
  unfolding start_call
  start-unlisted why e h = rw (ne_eqb (length bands) 9 h, e)

  pub start-listed : (x : StartResult) (bs : List Band) → length bands ≡ 9 → x ≡ start r n bs style planes lent → bs ≡ bands_in bands → x
      ≡ start_call r n bands style planes lent
  unfolding start_call
  start-listed x bs h e f = rw (eq-eqb (length bands) 9 h) (e ∙ ap (λ (ds : List Band). start r n ds style planes lent) f)
