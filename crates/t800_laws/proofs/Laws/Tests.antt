-- Tests on numbers and the branches that they choose, beside those of `borrow.Author.Tests`; and what stands at a place of a list.
use mathlib.Core.Path.{◌≡◌, refl, sym, ◌∙◌}
use mathlib.Core.Logic.{◌≢◌}
use mathlib.Core.Bool.{Bool, true, false, not, cond, ◌&&◌, ◌||◌, true≢false}
use mathlib.Core.List.{List, [], ◌∷◌}
use Prim.Native.Nat.{ℕ, suc, ◌≤◌, ◌<◌}
use native.Mathlib.Decide.{ℕ_discrete}
use native.Mathlib.Omega.{arith}
use lib.ListN.{length, get_or, drop, drop_of_length-le}
use lib.Seq.{drop-cons}
use lib.Dec.{T, eqb, ltb, leb, ltb→lt, nltb→le}
use borrow.Author.Tests.{eq-eqb, ne_eqb, lt-ltb, le-ltb, le-leb, lt-leb}

-- ---- the branch that is chosen

pub if-true {ℓ} : {A : Type ℓ} (b : Bool) (x y : A) → b ≡ true → cond b x y ≡ x
if-true b x y e = rw e

pub if-false {ℓ} : {A : Type ℓ} (b : Bool) (x y : A) → b ≡ false → cond b x y ≡ y
if-false b x y e = rw e

pub if-eq {ℓ} : {A : Type ℓ} (m n : ℕ) (x y : A) → m ≡ n → cond (eqb m n) x y ≡ x
if-eq m n x y e = if-true (eqb m n) x y (eq-eqb m n e)

pub if-ne {ℓ} : {A : Type ℓ} (m n : ℕ) (x y : A) → m ≢ n → cond (eqb m n) x y ≡ y
if-ne m n x y e = if-false (eqb m n) x y (ne_eqb m n e)

pub if-lt {ℓ} : {A : Type ℓ} (m n : ℕ) (x y : A) → m < n → cond (ltb m n) x y ≡ x
if-lt m n x y e = if-true (ltb m n) x y (lt-ltb m n e)

pub if-ge {ℓ} : {A : Type ℓ} (m n : ℕ) (x y : A) → n ≤ m → cond (ltb m n) x y ≡ y
if-ge m n x y e = if-false (ltb m n) x y (le-ltb m n e)

pub if-le {ℓ} : {A : Type ℓ} (m n : ℕ) (x y : A) → m ≤ n → cond (leb m n) x y ≡ x
if-le m n x y e = if-true (leb m n) x y (le-leb m n e)

pub if-gt {ℓ} : {A : Type ℓ} (m n : ℕ) (x y : A) → n < m → cond (leb m n) x y ≡ y
if-gt m n x y e = if-false (leb m n) x y (lt-leb m n e)

-- what holds of both branches holds of the choice
pub either {ℓ} : {A : Type ℓ} (P : A → Type 0) (b : Bool) (x y : A) → P x → P y → P (cond b x y)
either P true x y p q = p
either P false x y p q = q

-- and what holds of each where its test came out so
pub either-by {ℓ} : {A : Type ℓ} (P : A → Type 0) (b : Bool) (x y : A) → (b ≡ true → P x) → (b ≡ false → P y) → P (cond b x y)
either-by P true x y p q = p refl
either-by P false x y p q = q refl

-- ---- cases on two numbers

pub on-eq {ℓ} : {X : Type ℓ} (m n : ℕ) → (m ≡ n → X) → (m ≢ n → X) → X
on-eq m n f g = elim (ℕ_discrete m n) [ yes e ↦ f e | no e ↦ g e ]

by-test {ℓ} : {X : Type ℓ} (b : Bool) → (T b → X) → (T (not b) → X) → X
by-test true f g = f tt
by-test false f g = g tt

pub on-lt {ℓ} : {X : Type ℓ} (m n : ℕ) → (m < n → X) → (n ≤ m → X) → X
on-lt m n f g = by-test (ltb m n) (λ t. f (ltb→lt m n t)) (λ t. g (nltb→le m n t))

pub on-le {ℓ} : {X : Type ℓ} (m n : ℕ) → (m ≤ n → X) → (n < m → X) → X
on-le m n f g = on-lt n m g f

-- ---- tests of several parts, and chains of refusals

pub or_left : (a b : Bool) → (a || b) ≡ false → a ≡ false
or_left true b h = h
or_left false b h = refl

pub or_right : (a b : Bool) → (a || b) ≡ false → b ≡ false
or_right true b h = absurd (true≢false h)
or_right false b h = h

pub and_left : (a b : Bool) → (a && b) ≡ true → a ≡ true
and_left true b h = refl
and_left false b h = h

pub and_right : (a b : Bool) → (a && b) ≡ true → b ≡ true
and_right true b h = h
and_right false b h = absurd (true≢false (sym h))

pub and_second : (a b : Bool) → a ≡ true → (a && b) ≡ false → b ≡ false
and_second true b e h = h
and_second false b e h = absurd (true≢false (sym e))

-- the number n is given where b holds, else x; if that is 0, b doesn't hold
pub not_refused : (b : Bool) (n x : ℕ) → n ≢ 0 → cond b n x ≡ 0 → (b ≡ false) × (x ≡ 0)
not_refused true n x h e = absurd (h e)
not_refused false n x h e = (refl, e)

-- ---- lists

-- what stands at place p and after it
pub drop_head {ℓ} : {A : Type ℓ} (s : List A) (p : ℕ) (x : A) (xs : List A) (d : A) → drop p s ≡ x ∷ xs
    → (p < length s) × (get_or s p d ≡ x) × (drop (suc p) s ≡ xs)
drop_head s p x xs d e =
    on-lt p (length s)
    (λ h. let c : get_or s p d ∷ drop (suc p) s ≡ x ∷ xs = sym (drop-cons s p d h) ∙ e in
    (h, (cc), (cc)))
    (λ h. let n : drop p s ≡ [] = drop_of_length-le s h in
    let z : ◌≡◌ {A = ℕ} 0 1 = cc in absurd (omega arith))
