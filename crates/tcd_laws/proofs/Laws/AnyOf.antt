-- A test of some entry of a list, entry by entry from the front.
use mathlib.Core.Path.{◌≡◌, refl}
use mathlib.Core.Bool.{Bool, true, false, not, ◌||◌}
use mathlib.Core.List.{List, [], ◌∷◌}
use Prim.Native.Nat.{ℕ, ◌+◌, ◌≤◌, ◌<◌}
use lib.ListN.{length, get_or, take}
use lib.Seq.{take_all}
use Rattle.std.specs.List.{list_any}
use Rattle.std.proofs.lemmas.List.Folds.{list_any_more}
use lib.Bits.{bit_or}
use lib.Dec.{eqb, ltb, leb}
use borrow.Author.Tests.{lt-ltb, le-ltb, le-leb, lt-leb}
use Rattle.t800.specs.Base.{any}
use Rattle.t800_laws.proofs.Laws.Tests.{on-lt}
use Rattle.tcd_laws.specs.Parts.{fault}

module _ {ℓ} {A : Type ℓ} (f : A → Bool) where
  -- at the first entry, or past it
  pub any_here : (l : List A) (x : A) (xs : List A) → l ≡ x ∷ xs → f x ≡ true → any f l ≡ true
  unfolding any
  any_here l x xs e h = rw (e, h)

  pub any_later : (l : List A) (x : A) (xs : List A) → l ≡ x ∷ xs → f x ≡ false → any f l ≡ any f xs
  unfolding any
  any_later l x xs e h = rw (e, h)

-- the definition is std's
pub any_is_list_any : {A : Type 0} (f : A → Bool) (l : List A) → any f l ≡ list_any f l
unfolding any
any_is_list_any f [] = refl
any_is_list_any f (x ∷ xs) = rw (any_is_list_any f xs)

pub at_most_or_over : (x most : ℕ) → leb x most ≡ not (ltb most x)
at_most_or_over x most = on-lt most x (λ h. simp (lt-leb x most h, lt-ltb most x h)) (λ h. simp (le-leb x most h, le-ltb most x h))

none_over : (a b : Bool) → bit_or (fault (not a)) (fault (not b)) ≡ fault (not (a || b))
none_over true true = refl
none_over true false = refl
none_over false true = refl
none_over false false = refl

-- a loop's fault over a list: 0 as long as no entry is over
module _ (most : ℕ) (l : List ℕ) where
  pub over_turn : (i faults m : ℕ) → i < length l → faults ≡ fault (not (any (λ x. ltb most x) (take i l))) → m
      ≡ fault (leb (get_or l i 0) most)
      → bit_or faults m ≡ fault (not (any (λ x. ltb most x) (take (i + 1) l)))
  over_turn i faults m h p q =
      let f : ℕ → Bool = λ x. ltb most x in
      let x : ℕ = get_or l i 0 in
      let e : any f (take (i + 1) l) ≡ (any f (take i l) || f x) = simp (any_is_list_any f) (list_any_more f l i 0 h) in
      rw (p, q, at_most_or_over x most, e) (none_over (any f (take i l)) (f x))

  pub over_end : (i faults : ℕ) → length l ≤ i → faults ≡ fault (not (any (λ x. ltb most x) (take i l))) → not (eqb faults 0)
      ≡ any (λ x. ltb most x) l
  over_end i faults h p = rw (p, take_all i l h) (ends (any (λ x. ltb most x) l))
    where
      ends : (t : Bool) → not (eqb (fault (not t)) 0) ≡ t
      ends true = refl
      ends false = refl
