-- Sums of lists, entry by entry and in two parts.
use mathlib.Core.Path.{◌≡◌, refl, ap}
use mathlib.Core.List.{List, [], ◌∷◌}
use Prim.Native.Nat.{ℕ, zero, suc, ◌+◌, ◌≤◌, ◌<◌}
use native.Mathlib.Omega.{arith}
use lib.ListN.{length, get_or, take, drop, drop_of_length-le}
use Rattle.t800.specs.Base.{sum}
use Rattle.t800_laws.proofs.Laws.Lists.{next_entry}

pub sum-turn : (l : List ℕ) (i : ℕ) → i < length l → sum (drop i l) ≡ get_or l i 0 + sum (drop (i + 1) l)
unfolding sum
sum-turn l i h = ap sum (next_entry l i h)

pub sum-end : (l : List ℕ) (i : ℕ) → length l ≤ i → sum (drop i l) ≡ 0
unfolding sum
sum-end l i h = ap sum (drop_of_length-le l {i = i} h)

pub sum-splits : (n : ℕ) (l : List ℕ) → sum l ≡ sum (take n l) + sum (drop n l)
unfolding sum
sum-splits zero l = omega arith
sum-splits (suc n) [] = refl
sum-splits (suc n) (x ∷ l) = let r = sum-splits n l in omega arith
