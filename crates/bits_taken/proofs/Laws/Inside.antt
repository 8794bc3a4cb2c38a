-- Bits that end inside the input: none of them lies past its end.
use mathlib.Core.Path.{◌≡◌, refl, ap, ◌∙◌, subst}
use mathlib.Core.Bool.{true, cond, ◌&&◌}
use mathlib.Core.List.{List}
use Prim.Native.Nat.{ℕ, zero, suc, ◌-◌, ◌*◌, ◌≤◌}
use native.Mathlib.Omega.{arith}
use lib.ListN.{length}
use lib.Dec.{eqb}
use borrow.Author.Tests.{eq-eqb, le-ltb}
use Rattle.t800.specs.declared.Bio.{Bio}
use Rattle.t800.specs.Bits.{get_bit, past_end, read_bit, bits_past_from, bits_past}
use Rattle.t800_laws.proofs.Laws.Tests.{either, if-true, if-false}
use Rattle.bits_taken.specs.Taken.{after_bits, Takes}
use Rattle.bits_taken.proofs.Laws.Taken.{after_inside}

-- a walk that has come to its end
pub there : (b : Bio) → (eqb b.bp b.bp && eqb b.ct b.ct) ≡ true
there b = rw (eq-eqb b.bp b.bp refl, eq-eqb b.ct b.ct refl)

module _ (src : List ℕ) where
  not_flagged : (b : Bio) → (get_bit src b).bio.bp ≤ length src → ◌≡◌ {A = ℕ} (cond (read_bit src b).past 1 0) 0
  unfolding read_bit past_end
  not_flagged b h = if-false (read_bit src b).past 1 0 (le-ltb (length src) (get_bit src b).bio.bp h)

  none_among : (n bound : ℕ) (b : Bio) → (after_bits src n b).bp ≤ length src → bits_past_from src bound b (after_bits src n b) ≡ 0
  unfolding bits_past_from after_bits read_bit
  none_among n zero b h = refl
  none_among zero (suc bound) b h = if-true (eqb b.bp b.bp && eqb b.ct b.ct) 0 _ (there b)
  none_among (suc n) (suc bound) b h =
      let e : Bio = after_bits src n (get_bit src b).bio in
      let rest : bits_past_from src bound (read_bit src b).bio e ≡ 0 = none_among n bound (get_bit src b).bio h in
      either (λ (z : ℕ). z ≡ 0) (eqb b.bp e.bp && eqb b.ct e.ct) 0 _ refl
      (omega (arith, rest, not_flagged b (after_inside src n (get_bit src b).bio h)))

  pub none_past : (n : ℕ) (b e : Bio) → Takes src n b e → e.bp ≤ length src → bits_past src b e ≡ 0
  unfolding bits_past
  none_past n b e t h =
      let inside : (after_bits src t.bits b).bp ≤ length src = subst (λ (c : Bio). c.bp ≤ length src) t.ends h in
      ap (bits_past_from src (8 * (e.bp - b.bp)) b) t.ends ∙ none_among t.bits (8 * (e.bp - b.bp)) b inside
