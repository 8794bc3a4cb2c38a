-- A bit's flag, and bits one after another: over another input, with more input, and how many they are.
use mathlib.Core.Path.{◌≡◌, refl, sym, ap, ◌∙◌, subst}
use mathlib.Core.Logic.{◌≢◌}
use mathlib.Core.Bool.{Bool, true, false, cond}
use mathlib.Core.List.{List, ◌++◌}
use Prim.Native.Nat.{ℕ, zero, suc, ◌+◌, ◌-◌, ◌≤◌, ◌<◌}
use native.Mathlib.Omega.{arith}
use lib.ListN.{length, length-append}
use lib.Dec.{eqb, ltb, leb}
use borrow.Author.Tests.{eqb-false, ltb-false, lt-ltb, le-ltb, le-leb, lt-leb}
use Rattle.t800.specs.declared.Bio.{Bio}
use Rattle.t800.specs.Bits.{Decoded, bio_at, reach, byte_in, held_bit, get_bit, past_end, read_bit}
use Rattle.t800_laws.proofs.Laws.Tests.{on-lt}
use Rattle.bits_taken.specs.Taken.{after_bits, Reached}
use Rattle.bits_taken.proofs.Laws.Taken.{after_sum, after_few}
use Rattle.bits_taken.proofs.Laws.Counting.{bits_up_to, after_rises}
use Rattle.past_end.specs.PastEnd.{byte_of, FlagOfBit, UnflaggedBitStays, OneNumberOfBits}
use Rattle.past_end.proofs.SameBits.{Way, Agree, bits_to, itself, of_decoded, Stays, here, then, bit_stays}
use Rattle.past_end.proofs.MoreBytes.{bit_inside}

-- ---- where a bit is flagged

same_test : (m n k : ℕ) → (m < n → m ≤ k) → (m ≤ k → m < n) → ltb m n ≡ leb m k
same_test m n k f g =
    on-lt m n (λ h. lt-ltb m n h ∙ sym (le-leb m k (f h)))
    (λ h. on-lt k m (λ l. le-ltb m n h ∙ sym (lt-leb m k l)) (λ l. absurd (omega (arith, g l))))

-- a byte that is held has been taken
abbrev HeldTaken : Bio → Type 0
HeldTaken b = b.ct ≢ 0 → 1 ≤ b.bp

taken_by : (src : List ℕ) (b : Bio) (t : Bool) → eqb b.ct 0 ≡ t → HeldTaken b → 1 ≤ (held_bit (cond t (byte_in src b) b)).bio.bp
unfolding held_bit byte_in
taken_by src b true e h = omega arith
taken_by src b false e h = h (eqb-false b.ct 0 e)

bit_taken : (src : List ℕ) (b : Bio) → HeldTaken b → 1 ≤ (get_bit src b).bio.bp
unfolding get_bit
bit_taken src b h = taken_by src b (eqb b.ct 0) refl h

after_taken : (src : List ℕ) (n : ℕ) (b : Bio) → HeldTaken b → HeldTaken (after_bits src n b)
unfolding after_bits
after_taken src zero b h = h
after_taken src (suc n) b h = after_taken src n (get_bit src b).bio (λ _. bit_taken src b h)

flag_by : (src : List ℕ) (b : Bio) (t : Bool) → eqb b.ct 0 ≡ t → HeldTaken b
    → ltb (length src) (held_bit (cond t (byte_in src b) b)).bio.bp ≡ leb (length src) (cond t b.bp (b.bp - 1))
unfolding held_bit byte_in
flag_by src b true e h = same_test (length src) _ b.bp (λ l. omega arith) (λ l. omega arith)
flag_by src b false e h =
    let one = h (eqb-false b.ct 0 e) in same_test (length src) _ (b.bp - 1) (λ l. omega arith) (λ l. omega arith)

pub flag_of_bit : FlagOfBit
unfolding FlagOfBit read_bit past_end get_bit byte_of
flag_of_bit src start n =
    let b : Bio = after_bits src n (bio_at start) in
    flag_by src b (eqb b.ct 0) refl (after_taken src n (bio_at start) (λ h. absurd (h refl)))

-- ---- a bit that isn't flagged

pub unflagged_bit_stays : UnflaggedBitStays
unfolding UnflaggedBitStays read_bit past_end
unflagged_bit_stays src more b e =
    let r : Decoded = get_bit src b in
    let h : r.bio.bp ≤ length src = ltb-false (length src) r.bio.bp e in
    let later : ltb (length (src ++ more)) r.bio.bp ≡ ltb (length src) r.bio.bp = le-ltb (length (src ++ more)) r.bio.bp
    (omega (arith, length-append src more)) ∙ sym e in
    ap (λ (d : Decoded). record { value = d.value; past = ltb (length (src ++ more)) d.bio.bp; bio = d.bio })
    (bit_inside src more b h)
    ∙ ap (λ (t : Bool). record { value = r.value; past = t; bio = r.bio }) later

-- ---- bits one after another

module _ (src other : List ℕ) (w : Way) (agree : Agree src other w) where
  pub after_stays : (n : ℕ) (b : Bio) → Stays w itself b (after_bits src n b) (after_bits other n (bits_to w b))
  unfolding after_bits
  after_stays zero b = here w itself b
  after_stays (suc n) b =
      then w of_decoded itself b (get_bit src b) (get_bit other (bits_to w b)) (λ r. after_bits src n r.bio)
      (λ r. after_bits other n r.bio) (bit_stays src other w agree b) (after_stays n (get_bit src b).bio)

  -- the bits of a header are the other input's too
  pub reached_there : (start : ℕ) (e : Bio) → Reached src start e → w.first ≤ start → e.bp ≤ w.last → w.to start ≤ length other
      → Reached other (w.to start) (bits_to w e)
  reached_there start e reached first h inside =
      let n : ℕ = reached.takes.bits in
      let l = subst (λ (b : Bio). b.bp ≤ w.last) reached.takes.ends h in
      let ends = ap (bits_to w) reached.takes.ends ∙ sym ((after_stays n (bio_at start)).same (first, omega arith) l) in
      record { inside = inside; takes = record { bits = n; few = reached.takes.few; ends = ends } }

-- ---- the number of bits

-- k bits from a place in reach to the same place are none
no_bits_between : (src : List ℕ) (k : ℕ) (b : Bio) → b.ct ≤ 8 → after_bits src k b ≡ b → b.bp < length src + reach → k ≡ 0
no_bits_between src k b few e h =
    let near = subst (λ (c : Bio). c.bp < length src + reach) (sym e) h in
    let rise = subst (λ (c : Bio). bits_up_to b + k ≤ bits_up_to c) e (after_rises src k b few near) in
    omega arith

-- m bits and m + k bits
longer_not_same : (src : List ℕ) (start m k : ℕ) → after_bits src m (bio_at start) ≡ after_bits src (m + k) (bio_at start)
    → (after_bits src m (bio_at start)).bp < length src + reach → k ≡ 0
longer_not_same src start m k e h =
    let b : Bio = after_bits src m (bio_at start) in
    no_bits_between src k b (after_few src m (bio_at start) (omega arith)) (sym (after_sum src m k (bio_at start)) ∙ sym e) h

pub one_number_of_bits : OneNumberOfBits
unfolding OneNumberOfBits
one_number_of_bits src start m n e h =
    let at : ℕ → Bio = λ k. after_bits src k (bio_at start) in
    on-lt m n
    (λ l. let q : m + (n - m) ≡ n = omega arith in
    let near = subst (λ (b : Bio). b.bp < length src + reach) (sym e) h in
    omega (arith, longer_not_same src start m (n - m) (e ∙ ap at (sym q)) near))
    (λ l. let q : n + (m - n) ≡ m = omega arith in
    omega (arith, longer_not_same src start n (m - n) (sym e ∙ ap at (sym q)) h))
