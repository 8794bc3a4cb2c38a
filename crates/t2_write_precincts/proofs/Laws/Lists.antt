-- Lists cut at a place: the element there, the part from it on, and what is lent from it on and comes back.
use mathlib.Core.Path.{◌≡◌, refl, sym, ap, ap₂, ◌∙◌}
use mathlib.Core.List.{List, [], ◌∷◌, ◌++◌, flat_map, append-nil, append_assoc}
use Prim.Native.Nat.{ℕ, ◌+◌, ◌-◌, ◌≤◌}
use native.Mathlib.Omega.{arith}
use lib.ListN.{length, take, drop, length-take, length-drop, length-append, take-append-drop, drop_of_length-le}
use lib.Seq.{take_all, take-add, drop-drop}

-- ---- one more

module _ {A : Type 0} (xs : List A) (i : ℕ) (y : A) (ys : List A) (e : drop i xs ≡ y ∷ ys) where
  pub one_more : take (i + 1) xs ≡ take i xs ++ (y ∷ [])
  one_more = take-add i 1 xs ∙ ap (λ (zs : List A). take i xs ++ take 1 zs) e

  pub without_it : drop (i + 1) xs ≡ ys
  without_it = sym (drop-drop 1 i xs) ∙ ap (drop 1) e

  pub place_is : length (take i xs) ≡ i
  place_is = omega (arith, length-take i xs, length-drop i xs, ap length e)

  pub as_parts : xs ≡ take i xs ++ y ∷ ys
  as_parts = sym (take-append-drop i xs) ∙ ap (λ (zs : List A). take i xs ++ zs) e

flat_append : {A : Type 0} (f : A → List ℕ) (xs ys : List A) → flat_map f (xs ++ ys) ≡ flat_map f xs ++ flat_map f ys
unfolding flat_map
flat_append f [] ys = refl
flat_append f (x ∷ xs) ys =
    ap (λ (zs : List ℕ). f x ++ zs) (flat_append f xs ys) ∙ sym (append_assoc (f x) (flat_map f xs) (flat_map f ys))

-- what is got of all, from what is got of those before and of the last one
pub joined : {A : Type 0} (f : A → List ℕ) (all before : List A) (s : A) → all ≡ before ++ (s ∷ []) → (xs ys : List ℕ)
    → xs ≡ flat_map f before → ys ≡ f s → xs ++ ys ≡ flat_map f all
unfolding flat_map
joined f all before s e xs ys x y =
    ap₂ (λ (us vs : List ℕ). us ++ vs) x (y ∙ sym (append-nil (f s)))
    ∙ sym (flat_append f before (s ∷ []))
    ∙ ap (flat_map f) (sym e)

-- ---- a list from a place on

abbrev pub from : ℕ → List ℕ → List ℕ
from n xs = take (length xs - n) (drop n xs)

pub from_is : (n : ℕ) (xs : List ℕ) → from n xs ≡ drop n xs
from_is n xs = take_all (length xs - n) (drop n xs) (omega (arith, length-drop n xs))

-- and the list with others in their place
abbrev pub back : ℕ → List ℕ → List ℕ → List ℕ
back n xs ys = take n xs ++ (ys ++ drop (length xs - n) (drop n xs))

pub back_is : (n : ℕ) (xs ys : List ℕ) → back n xs ys ≡ take n xs ++ ys
back_is n xs ys =
    let h : length (drop n xs) ≤ length xs - n = omega (arith, length-drop n xs) in
    ap (λ (zs : List ℕ). take n xs ++ (ys ++ zs)) (drop_of_length-le (drop n xs) h)
    ∙ ap (λ (zs : List ℕ). take n xs ++ zs) (append-nil ys)

pub back_length : (n : ℕ) (xs ys : List ℕ) → n ≤ length xs → length ys ≡ length (from n xs) → length (back n xs ys) ≡ length xs
back_length n xs ys h e =
    omega (
      arith,
      h,
      e,
      ap length (back_is n xs ys) ∙ length-append (take n xs) ys,
      length-take n xs,
      ap length (from_is n xs) ∙ length-drop n xs,
    )
