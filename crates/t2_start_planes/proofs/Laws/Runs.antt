-- Runs of words stored one after another.
use mathlib.Core.Path.{◌≡◌, sym, ap, ◌∙◌}
use mathlib.Core.List.{List, [], ◌∷◌, ◌++◌, append_assoc, append-nil}
use Prim.Native.Nat.{ℕ, suc, ◌+◌, ◌-◌, ◌≤◌}
use native.Mathlib.Omega.{arith}
use lib.ListN.{length, set, take, drop, length-take, length-drop, drop_of_length-le}
use lib.Seq.{sets, sets-eq, drop-drop}

module _ {ℓ} {A : Type ℓ} where
  sets_append : (l : List A) (i : ℕ) (xs ys : List A) → sets l i (xs ++ ys) ≡ sets (sets l i xs) (i + length xs) ys
  sets_append l i [] ys = let e : i ≡ i + 0 = omega arith in ap (λ (k : ℕ). sets l k ys) e
  sets_append l i (x ∷ xs) ys =
      let e : suc i + length xs ≡ i + suc (length xs) = omega arith in
      sets_append (set l i x) (suc i) xs ys ∙ ap (λ (k : ℕ). sets (sets (set l i x) (suc i) xs) k ys) e

  -- n words, and others after them
  pub sets_after : (l : List A) (i n : ℕ) (xs ys : List A) → length xs ≡ n → sets (sets l i xs) (i + n) ys ≡ sets l i (xs ++ ys)
  sets_after l i n xs ys e = ap (λ (k : ℕ). sets (sets l i xs) (i + k) ys) (sym e) ∙ sym (sets_append l i xs ys)

  -- over the whole list
  pub sets_whole : (l xs : List A) → length xs ≡ length l → sets l 0 xs ≡ xs
  sets_whole l xs e =
      let n : drop (0 + length xs) l ≡ [] = drop_of_length-le l {i = 0 + length xs} (omega arith) in
      sets-eq xs l 0 (omega arith) ∙ ap (λ (r : List A). xs ++ r) n ∙ append-nil xs

  pub part_length : (l : List A) (from to : ℕ) → from ≤ to → to ≤ length l → length (take (to - from) (drop from l)) ≡ to - from
  part_length l from to h k = length-take (to - from) (drop from l) ∙ omega (arith, length-drop from l)

  -- a part that is lent and comes back with other words
  pub part_set : (l xs : List A) (from to : ℕ) → from ≤ to → to ≤ length l → length xs ≡ to - from
      → take from l ++ (xs ++ drop (to - from) (drop from l)) ≡ sets l from xs
  part_set l xs from to h k e =
      let q : from + (to - from) ≡ from + length xs = omega arith in
      ap (λ (z : List A). take from l ++ (xs ++ z)) (drop-drop (to - from) from l ∙ ap (λ (m : ℕ). drop m l) q)
      ∙ sym (append_assoc (take from l) xs (drop (from + length xs) l)) ∙ sym (sets-eq xs l from (omega arith))
