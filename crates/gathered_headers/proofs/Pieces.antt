-- Pieces of a list cut one behind another and put together again, and checks of which none holds.
use mathlib.Core.Path.{◌≡◌, refl, sym, ap, ◌∙◌, subst}
use mathlib.Core.Logic.{◌≢◌}
use mathlib.Core.Bool.{Bool, true, false, cond, not, ◌&&◌}
use mathlib.Core.List.{List, [], ◌∷◌, ◌++◌, append_assoc}
use Prim.Native.Nat.{ℕ, ◌+◌, ◌≤◌, min}
use native.Mathlib.Omega.{arith}
use lib.ListN.{length, take, drop, length-take, length-drop, take-append-drop}
use lib.Seq.{drop-drop, take_at, drop_at}
use lib.Dec.{T, eqb}
use borrow.Author.Tests.{eqb-true, eqb-false}
use Rattle.t800.specs.Refusals.{Check, first_of}
use Rattle.t800_laws.proofs.Laws.Tests.{either}

-- ---- lists

module _ {ℓ} {A : Type ℓ} where
  joined : (front back : List A) (n : ℕ) → front ++ take n back ++ drop n back ≡ front ++ back
  joined front back n = append_assoc front (take n back) (drop n back) ∙ ap (λ (l : List A). front ++ l) (take-append-drop n back)

  -- two and three pieces behind `front`, and what is left
  pub two_joined : (front row : List A) (a b : ℕ) → front ++ take a row ++ take b (drop a row) ++ drop (a + b) row ≡ front ++ row
  two_joined front row a b =
      let one : List A = front ++ take a row in
      ap (λ (l : List A). one ++ take b (drop a row) ++ l) (sym (drop-drop b a row)) ∙ joined one (drop a row) b ∙ joined front row a

  pub three_joined : (front row : List A) (a b c : ℕ)
      → front ++ take a row ++ take b (drop a row) ++ take c (drop (a + b) row) ++ drop (a + b + c) row ≡ front ++ row
  three_joined front row a b c =
      let two : List A = front ++ take a row ++ take b (drop a row) in
      ap (λ (l : List A). two ++ take c (drop (a + b) row) ++ l) (sym (drop-drop c (a + b) row)) ∙ joined two (drop (a + b) row) c
      ∙ two_joined front row a b

  pub piece_long : (row : List A) (a n : ℕ) → a + n ≤ length row → length (take n (drop a row)) ≡ n
  piece_long row a n h = length-take n (drop a row) ∙ ap (λ (k : ℕ). min n k) (length-drop a row) ∙ omega arith

  -- two pieces in front of others: the first, and what is behind it; behind both
  pub second_front : (a b c : List A) (n k : ℕ) → length a ≡ n → length b ≡ k → take k (drop n (a ++ (b ++ c))) ≡ b
  second_front a b c n k e f = ap (take k) (drop_at a (b ++ c) n e) ∙ take_at b c k f

  pub behind-both : (a b c : List A) (n k : ℕ) → length a ≡ n → length b ≡ k → drop (n + k) (a ++ (b ++ c)) ≡ c
  behind-both a b c n k e f = sym (drop-drop k n (a ++ (b ++ c))) ∙ ap (drop k) (drop_at a (b ++ c) n e) ∙ drop_at b c k f

-- ---- tests

pub T-both : (a b : Bool) → T (a && b) → T a × T b
T-both true b t = (tt, t)
T-both false b t = absurd t

-- the refusal n, if it is one, else x
pub none_refused : (n x : ℕ) → cond (not (eqb n 0)) n x ≡ 0 → (n ≡ 0) × (x ≡ 0)
none_refused n x e = by (eqb n 0) refl e
  where
    by : (t : Bool) → eqb n 0 ≡ t → cond (not t) n x ≡ 0 → (n ≡ 0) × (x ≡ 0)
    by true f e = (eqb-true n 0 f, e)
    by false f e = absurd (eqb-false n 0 f e)

-- a call that answers why, where that isn't 0, and is done where its answer is 0
pub not_why : {A : Type 0} (answer : A → ℕ) (why : ℕ) (done refused : A) → answer refused ≡ why → answer (cond (eqb why 0) done refused) ≡ 0
    → (why ≡ 0) × (cond (eqb why 0) done refused ≡ done)
not_why {A = A} answer why done refused told e = by (eqb why 0) refl e
  where
    by : (t : Bool) → eqb why 0 ≡ t → answer (cond t done refused) ≡ 0 → (why ≡ 0) × (cond t done refused ≡ done)
    by true f e = (eqb-true why 0 f, refl)
    by false f e = absurd (eqb-false why 0 f (sym told ∙ e))

-- what holds of 0 and of the number of each check holds of the first that holds
abbrev pub AllNumbers : (ℕ → Type 0) → List Check → Type 0
AllNumbers P [] = Unit {0}
AllNumbers P (c ∷ cs) = P c.number × AllNumbers P cs

pub first_of_lem : (P : ℕ → Type 0) (cs : List Check) → P 0 → AllNumbers P cs → P (first_of cs)
first_of_lem P [] z a = z
first_of_lem P (c ∷ cs) z a = either P c.holds c.number (first_of cs) a.0 (first_of_lem P cs z a.1)

-- a call that answers why, or 0 where it is done
module _ {A : Type 0} (answer : A → ℕ) (why : ℕ) (done : A) (refused : ℕ → A) (zero_done : answer done ≡ 0)
    (told : answer (refused why) ≡ why)
  where
    abbrev settled : A
    settled = cond (eqb why 0) done (refused why)

    pub answers : (P : ℕ → Type 0) → P 0 → P why → P (answer settled)
    answers P z p =
        either (λ (x : A). P (answer x)) (eqb why 0) done (refused why) (subst P (sym zero_done) z) (subst P (sym told) p)

    pub refuses : answer settled ≢ 0 → settled ≡ refused (answer settled)
    refuses =
        either (λ (x : A). answer x ≢ 0 → x ≡ refused (answer x)) (eqb why 0) done (refused why) (λ n. absurd (n zero_done))
        (λ _. ap refused (sym told))
