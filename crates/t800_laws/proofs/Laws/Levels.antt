-- For sides 1 to 64 the levels of a tag tree reach one node, within seven (T.800, B.10.2).
use mathlib.Core.Path.{◌≡◌, refl}
use mathlib.Core.Bool.{Bool, true, false, cond}
use mathlib.Core.List.{List, [], ◌∷◌}
use Prim.Native.Nat.{ℕ, zero, suc, ◌+◌, ◌*◌, ◌/◌, ◌^◌, ◌≤◌}
use native.Mathlib.Nat.{mul-le-mul_right}
use native.Mathlib.Omega.{arith}
use lib.ListN.{length}
use lib.Dec.{leb}
use borrow.Author.Tests.{leb-true}
use Rattle.t800.specs.declared.Level.{Level}
use Rattle.t800.specs.TagTree.{levels_from, levels}
use Rattle.t800_laws.proofs.Laws.Tests.{on-lt}

-- the last level is one node across and one down
abbrev pub EndsInOneNode : List Level → Type 0
EndsInOneNode [] = ⊥
EndsInOneNode (l ∷ []) = (l.w ≡ 1) × (l.h ≡ 1)
EndsInOneNode (l ∷ k ∷ ks) = EndsInOneNode (k ∷ ks)

one_of : (w h : ℕ) → 1 ≤ h → w * h ≤ 1 → w ≤ 1
one_of w h h1 a = on-lt 1 w (λ k. absurd (omega (arith, mul-le-mul_right h k))) (λ k. k)

-- sides up to 2 ^ f are halved f times
ends_within_lem : (f w h : ℕ) → 1 ≤ w → w ≤ 2 ^ f → 1 ≤ h → h ≤ 2 ^ f → EndsInOneNode (levels_from (suc f) w h)
unfolding levels_from
ends_within_lem zero w h w1 wf h1 hf = go (leb (w * h) 1)
  where
    go : (t : Bool) → EndsInOneNode (record { w = w; h = h } ∷ cond t [] [])
    go true = omega arith
    go false = omega arith
ends_within_lem (suc f) w h w1 wf h1 hf =
    go (leb (w * h) 1) refl (ends_within_lem f ((w + 1) / 2) ((h + 1) / 2) (omega arith) (omega arith) (omega arith) (omega arith))
  where
    go : (t : Bool) → leb (w * h) 1 ≡ t → EndsInOneNode (levels_from (suc f) ((w + 1) / 2) ((h + 1) / 2))
        → EndsInOneNode (record { w = w; h = h } ∷ cond t [] (levels_from (suc f) ((w + 1) / 2) ((h + 1) / 2)))
    go true e r = let a : w * h ≤ 1 = leb-true (w * h) 1 e in (omega (arith, one_of w h h1 a), omega (arith, one_of h w w1 (omega arith)))
    go false e r = r

pub levels-end_in_one_node : (w h : ℕ) → 1 ≤ w → w ≤ 64 → 1 ≤ h → h ≤ 64 → EndsInOneNode (levels w h)
unfolding levels
levels-end_in_one_node w h w1 w64 h1 h64 = ends_within_lem 6 w h w1 w64 h1 h64

-- never more than the bound
at_most_lem : (f w h : ℕ) → length (levels_from f w h) ≤ f
unfolding levels_from
at_most_lem zero w h = omega arith
at_most_lem (suc f) w h = go (leb (w * h) 1) (at_most_lem f ((w + 1) / 2) ((h + 1) / 2))
  where
    go : (t : Bool) → length (levels_from f ((w + 1) / 2) ((h + 1) / 2)) ≤ f
        → suc (length (cond t [] (levels_from f ((w + 1) / 2) ((h + 1) / 2)))) ≤ suc f
    go true r = omega arith
    go false r = omega arith

pub at_most_seven_levels : (w h : ℕ) → length (levels w h) ≤ 7
unfolding levels
at_most_seven_levels w h = at_most_lem 7 w h
