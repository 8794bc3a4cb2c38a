-- With more bytes behind it, an input's own bytes stand where they stood, and a bit that ends inside it is the same.
use mathlib.Core.Path.{◌≡◌, refl, ap}
use mathlib.Core.Bool.{Bool, true, false, cond}
use mathlib.Core.List.{List, ◌++◌}
use Prim.Native.Nat.{ℕ, ◌≤◌}
use native.Mathlib.Omega.{arith}
use lib.ListN.{length, length-append, get_or-append}
use lib.Dec.{eqb}
use Rattle.t800.specs.declared.Bio.{Bio}
use Rattle.t800.specs.Bits.{byte_in, held_bit, get_bit}
use Rattle.past_end.proofs.SameBits.{Way, Agree, byte_inside}

-- each place stays
abbrev pub staying : (last : ℕ) → Way
staying last = record { to = λ p. p; first = 0; last = last }

pub with_more_lem : (src more : List ℕ) → Agree src (src ++ more) (staying (length src))
with_more_lem src more = record {
  same = λ p _ l. get_or-append src more 0 p l;
  next = λ _ _ _. refl;
  in_reach = omega arith;
  to_in_reach = λ p _ l. omega (arith, length-append src more);
}

-- ---- a bit

module _ (src more : List ℕ) where
  abbrev longer : List ℕ
  longer = src ++ more

  inside_by : (b : Bio) (t : Bool) → (held_bit (cond t (byte_in src b) b)).bio.bp ≤ length src
      → held_bit (cond t (byte_in longer b) b) ≡ held_bit (cond t (byte_in src b) b)
  unfolding held_bit
  inside_by b true h = ap held_bit (byte_inside src more b h)
  inside_by b false h = refl

  pub bit_inside : (b : Bio) → (get_bit src b).bio.bp ≤ length src → get_bit longer b ≡ get_bit src b
  unfolding get_bit
  bit_inside b h = inside_by b (eqb b.ct 0) h
