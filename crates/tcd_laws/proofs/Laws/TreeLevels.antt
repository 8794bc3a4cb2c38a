-- One level of a tree after another, as the loops over levels take them; and how many nodes a tree has at most.
use mathlib.Core.Path.{◌≡◌, sym, ap, ◌∙◌}
use mathlib.Core.Bool.{cond}
use mathlib.Core.List.{List, [], ◌∷◌, ◌++◌}
use Prim.Native.Nat.{ℕ, zero, suc, ◌+◌, ◌-◌, ◌*◌, ◌/◌, ◌≤◌, ◌<◌}
use native.Mathlib.Nat.{mul-le-mul}
use native.Mathlib.Numerals.{add-one}
use native.Mathlib.Omega.{arith}
use lib.ListN.{length, take, drop, set, replicate}
use lib.Seq.{sets, sets-eq, take-append_seam}
use lib.Dec.{leb}
use Rattle.t800.specs.declared.Level.{Level}
use Rattle.t800.specs.TagTree.{levels_from, no_level, levels, nodes_in, nodes}
use Rattle.t800_laws.proofs.Laws.Tests.{if-le, if-gt, either}
use Rattle.t800_laws.proofs.Laws.Levels.{at_most_seven_levels}
use Rattle.tcd_laws.specs.Geometry.{padded}

drop-replicate {ℓ} : {A : Type ℓ} (n k : ℕ) (a : A) → drop k (replicate n a) ≡ replicate (n - k) a
drop-replicate n zero a = let e : n - 0 ≡ n = omega arith in rw e
drop-replicate zero (suc k) a = let e : 0 - suc k ≡ 0 = omega arith in rw e
drop-replicate (suc n) (suc k) a = let e : suc n - suc k ≡ n - k = omega arith in rw e (drop-replicate n k a)

abbrev pub level : ℕ → ℕ → Level
level w h = record { w = w; h = h }

module _ (x y : ℕ) where
  -- at the root, and below it
  pub levels-stop : (n m : ℕ) → n ≡ suc m → x * y ≤ 1 → levels_from n x y ≡ level x y ∷ []
  unfolding levels_from
  levels-stop n m e h = rw e (ap (λ (ls : List Level). level x y ∷ ls) (if-le (x * y) 1 _ _ h))

  pub levels-on : (n m : ℕ) → n ≡ suc m → 1 < x * y → levels_from n x y ≡ level x y ∷ levels_from m ((x + 1) / 2) ((y + 1) / 2)
  unfolding levels_from
  levels-on n m e h = rw e (ap (λ (ls : List Level). level x y ∷ ls) (if-gt (x * y) 1 _ _ h))

-- seven empty levels, over which the tree's are stored one by one
pub levels-over_none : (w h : ℕ) → sets (replicate 7 no_level) 0 (levels w h) ≡ padded (levels w h)
unfolding padded
levels-over_none w h =
    let k : length (levels w h) ≤ 7 = at_most_seven_levels w h in
    let e : 0 + length (levels w h) ≡ length (levels w h) = omega arith in
    sets-eq (levels w h) (replicate 7 no_level) 0 (omega arith)
    ∙ ap (λ (n : ℕ). levels w h ++ drop n (replicate 7 no_level)) e
    ∙ ap (λ (ls : List Level). levels w h ++ ls) (drop-replicate 7 (length (levels w h)) no_level)

pub padded-front : (ls : List Level) → take (length ls) (padded ls) ≡ ls
unfolding padded
padded-front ls = take-append_seam ls (replicate (7 - length ls) no_level)

module _ (x y u v : ℕ) (below : 1 < x * y) (across : u ≡ (x + 1) / 2) (down : v ≡ (y + 1) / 2) where
  parents : (n m : ℕ) → n ≡ suc m → levels_from n x y ≡ level x y ∷ levels_from m u v
  parents n m e = levels-on x y n m e below ∙ rw (across, down)

  pub stored-turn : (tree : List Level) (i : ℕ) → i < 7 → sets (set tree i (level x y)) (i + 1) (levels_from (7 - (i + 1)) u v)
      ≡ sets tree i (levels_from (7 - i) x y)
  stored-turn tree i h =
      ap (λ (j : ℕ). sets (set tree i (level x y)) j (levels_from (7 - (i + 1)) u v)) (add-one i)
      ∙ sym (ap (λ (ls : List Level). sets tree i ls) (parents (7 - i) (7 - (i + 1)) (omega arith)))

  pub counted-turn : (i : ℕ) → i < 7 → i + 1 + length (levels_from (7 - (i + 1)) u v) ≡ i + length (levels_from (7 - i) x y)
  counted-turn i h = let e : length (levels_from (7 - i) x y)
      ≡ suc (length (levels_from (7 - (i + 1)) u v)) = ap length (parents (7 - i) (7 - (i + 1)) (omega arith)) in omega arith

  pub summed_turn : (n sum : ℕ) → 0 < n → sum + x * y + nodes_in (levels_from (n - 1) u v) ≡ sum + nodes_in (levels_from n x y)
  unfolding nodes_in
  summed_turn n sum h = let e : nodes_in (levels_from n x y)
      ≡ x * y + nodes_in (levels_from (n - 1) u v) = ap nodes_in (parents n (n - 1) (omega arith)) in omega arith

pub summed_stop : (x y n sum : ℕ) → 0 < n → x * y ≤ 1 → sum + x * y ≡ sum + nodes_in (levels_from n x y)
unfolding nodes_in
summed_stop x y n sum h k = let e : nodes_in (levels_from n x y)
    ≡ x * y + 0 = ap nodes_in (levels-stop x y n (n - 1) (omega arith) k) in omega arith

-- a level of a tree with sides up to 64
pub area_up_to_4096 : (w h : ℕ) → w ≤ 64 → h ≤ 64 → w * h ≤ 4096
area_up_to_4096 w h k l = mul-le-mul k l

nodes-from_up_to : (f w h : ℕ) → w ≤ 64 → h ≤ 64 → nodes_in (levels_from f w h) ≤ 4096 * f
unfolding levels_from nodes_in
nodes-from_up_to zero w h k l = omega arith
nodes-from_up_to (suc f) w h k l =
    let a = area_up_to_4096 w h k l in
    let r = nodes-from_up_to f ((w + 1) / 2) ((h + 1) / 2) (omega arith) (omega arith) in
    let above : List Level = levels_from f ((w + 1) / 2) ((h + 1) / 2) in
    let e : nodes_in (cond (leb (w * h) 1) [] above) ≤ 4096 * f =
    either (λ (ls : List Level). nodes_in ls ≤ 4096 * f) (leb (w * h) 1) [] above (omega arith) r in
    omega arith

-- far more than there are, and enough that no sum of words wraps
pub nodes-up_to_28672 : (w h : ℕ) → w ≤ 64 → h ≤ 64 → nodes w h ≤ 28672
unfolding nodes levels
nodes-up_to_28672 w h k l = nodes-from_up_to 7 w h k l
