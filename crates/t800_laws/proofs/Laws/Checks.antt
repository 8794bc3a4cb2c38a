-- The first check of a list that holds.
use mathlib.Core.Path.{◌≡◌, refl, sym, ap, ◌∙◌}
use mathlib.Core.Logic.{◌≢◌}
use mathlib.Core.Bool.{Bool, true, false, cond, not}
use mathlib.Core.List.{List, [], ◌∷◌, ◌++◌}
use Prim.Native.Nat.{ℕ}
use lib.Dec.{eqb}
use borrow.Author.Tests.{eqb-true, eqb-false}
use Rattle.t800.specs.Refusals.{Check, first_of}
use Rattle.t800_laws.proofs.Laws.Tests.{if-true, if-false, either}

-- n is none of the numbers, nor 0
abbrev pub NotAmong : ℕ → List Check → Type 0
NotAmong n [] = n ≢ 0
NotAmong n (c ∷ cs) = (n ≢ c.number) × NotAmong n cs

pub not_first : (n : ℕ) (cs : List Check) → NotAmong n cs → first_of cs ≢ n
not_first n [] a = λ e. a (sym e)
not_first n (c ∷ cs) a = either (λ (z : ℕ). z ≢ n) c.holds _ _ (λ e. a.0 (sym e)) (not_first n cs a.1)

pub on_bool {ℓ} : {X : Type ℓ} (b : Bool) → (b ≡ true → X) → (b ≡ false → X) → X
on_bool true f g = f refl
on_bool false f g = g refl

-- no number is 0
abbrev pub Numbered : List Check → Type 0
Numbered [] = Unit {0}
Numbered (c ∷ cs) = (c.number ≢ 0) × Numbered cs

-- the checks cs, and after them ds
module _ (ds : List Check) where
  pub first_later : (cs : List Check) → Numbered cs → first_of cs ≡ 0 → first_of (cs ++ ds) ≡ first_of ds
  first_later [] d e = refl
  first_later (c ∷ cs) d e =
      on_bool c.holds (λ t. absurd (d.0 (sym (if-true c.holds c.number (first_of cs) t) ∙ e)))
      (λ f. if-false c.holds c.number (first_of (cs ++ ds)) f
      ∙ first_later cs d.1 (sym (if-false c.holds c.number (first_of cs) f) ∙ e))

  pub first_earlier : (cs : List Check) → first_of cs ≢ 0 → first_of (cs ++ ds) ≡ first_of cs
  first_earlier [] n = absurd (n refl)
  first_earlier (c ∷ cs) n =
      on_bool c.holds
      (λ t. if-true c.holds c.number (first_of (cs ++ ds)) t ∙ sym (if-true c.holds c.number (first_of cs) t))
      (λ f. if-false c.holds c.number (first_of (cs ++ ds)) f
      ∙ first_earlier cs (λ e. n (if-false c.holds c.number (first_of cs) f ∙ e))
      ∙ sym (if-false c.holds c.number (first_of cs) f))

  pub first_append : (cs : List Check) → Numbered cs → first_of (cs ++ ds) ≡ cond (not (eqb (first_of cs) 0)) (first_of cs) (first_of ds)
  first_append cs d =
      on_bool (eqb (first_of cs) 0) (λ t. first_later cs d (eqb-true (first_of cs) 0 t) ∙ sym (if-false _ _ _ (ap not t)))
      (λ f. first_earlier cs (eqb-false (first_of cs) 0 f) ∙ sym (if-true _ _ _ (ap not f)))
