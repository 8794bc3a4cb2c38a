-- Numbers, comma codes and pass counts are read as they were written, and each segment length fits the field that it is written in.
use mathlib.Core.Path.{◌≡◌, refl, sym, ap, ap₂, ◌∙◌}
use mathlib.Core.Bool.{cond}
use mathlib.Core.List.{List, [], ◌∷◌, ◌++◌}
use Prim.Native.Nat.{ℕ, zero, suc, ◌+◌, ◌-◌, ◌*◌, ◌/◌, ◌%◌, ◌^◌, ◌≤◌, ◌<◌}
use native.Mathlib.Nat.{mod-eq_of_lt, pow-suc, add-zero, zero-add, le_trans, le-max_left, le-max_right, le_refl}
use native.Mathlib.Numerals.{one-add}
use native.Mathlib.Omega.{arith}
use lib.ListN.{length, replicate}
use lib.Dec.{leb}
use lib.Pow.{mod-pow-add, pow_mono}
use Rattle.t800.specs.declared.Bio.{Bio}
use Rattle.t800.specs.Base.{halvings, floor_log2}
use Rattle.t800.specs.Bits.{Decoded, bits_of, read_bits_onto, read_bits}
use Rattle.t800.specs.PassCount.{plus, pass_bits, read_passes}
use Rattle.t800.specs.Segments.{Segment, width, bit_length, increment, comma_bits, read_ones, read_comma}
use Rattle.t800_laws.proofs.Laws.Tests.{if-eq, if-ne, if-lt, if-ge, on-lt, if-le, if-gt, on-le}
use Rattle.round_trip.proofs.Trip.Bits.{next_bit, bio_after, Reads, reads_held, reads_split, ones_bounded}

abbrev pub decoded : ℕ → Bio → Decoded
decoded v b = record { value = v; bio = b }

-- ---- numbers

onto_read : (s : List ℕ) (n u v : ℕ) (b e : Bio) → Reads s b (bits_of n v) e → read_bits_onto s n u b ≡ decoded (u * 2 ^ n + v % 2 ^ n) e
unfolding read_bits_onto bits_of
onto_read s zero u v b e r = ap₂ decoded (omega arith) r.1
onto_read s (suc n) u v b e r =
    let i = onto_read s n (2 * u + v / 2 ^ n % 2) v (bio_after s b) e r.2 in
    let q : v % 2 ^ suc n ≡ v / 2 ^ n % 2 * 2 ^ n + v % 2 ^ n = ap (λ (z : ℕ). v % 2 ^ z) (sym (one-add n)) ∙ mod-pow-add v 1 n in
    let w : u * 2 ^ suc n + v % 2 ^ suc n ≡ (2 * u + v / 2 ^ n % 2) * 2 ^ n + v % 2 ^ n = rw (q, pow-suc 2 n) (omega arith) in
    rw (r.1, i, w)

pub number_read : (s : List ℕ) (n v : ℕ) (b e : Bio) → v < 2 ^ n → Reads s b (bits_of n v) e → read_bits s n b ≡ decoded v e
unfolding read_bits
number_read s n v b e h r = onto_read s n 0 v b e r ∙ ap (λ (z : ℕ). decoded z e) (omega (arith, mod-eq_of_lt h))

-- ---- comma codes

ones_read : (s : List ℕ) (n f m : ℕ) (b e : Bio) → n < f → Reads s b (replicate n 1 ++ 0 ∷ []) e → read_ones s f m b ≡ decoded (m + n) e
unfolding read_ones
ones_read s n zero m b e h r = absurd (omega arith)
ones_read s zero (suc f) m b e h r = if-eq (next_bit s b) 0 _ _ r.1 ∙ ap₂ decoded (sym (add-zero m)) r.2.1
ones_read s (suc n) (suc f) m b e h r =
    let i = ones_read s n f (m + 1) (bio_after s b) e (omega arith) r.2 in
    if-ne (next_bit s b) 0 _ _ (omega (arith, r.1)) ∙ i ∙ ap (λ (z : ℕ). decoded z e) (omega arith)

pub comma_read : (s : List ℕ) (n : ℕ) (b e : Bio) → Reads s b (comma_bits n) e → read_comma s b ≡ decoded n e
unfolding read_comma comma_bits
comma_read s n b e r =
    let h = reads_held s b e (replicate n 1 ++ 0 ∷ []) r in
    ones_read s n (8 * length s + 8) 0 b e (omega (arith, ones_bounded s n b e r)) r ∙ ap (λ (z : ℕ). decoded z e) (zero-add n)

-- ---- pass counts

module _ (s : List ℕ) (b e : Bio) where
  one : Reads s b (0 ∷ []) e → read_passes s b ≡ decoded 1 e
  unfolding read_passes
  one r = if-eq (next_bit s b) 0 _ _ r.1 ∙ ap (decoded 1) r.2.1

  two : Reads s b (1 ∷ 0 ∷ []) e → read_passes s b ≡ decoded 2 e
  unfolding read_passes
  two r = if-ne (next_bit s b) 0 _ _ (omega (arith, r.1)) ∙ if-eq (next_bit s (bio_after s b)) 0 _ _ r.2.1 ∙ ap (decoded 2) r.2.2.1

  abbrev b₂ : Bio
  b₂ = bio_after s (bio_after s b)

  -- past the first two ones, with what the bits after them say
  past_two_ones : (xs : List ℕ) → Reads s b (1 ∷ 1 ∷ xs) e → read_passes s b
      ≡ cond (leb (read_bits s 2 b₂).value 2) (plus 3 (read_bits s 2 b₂))
      (cond (leb (read_bits s 5 (read_bits s 2 b₂).bio).value 30) (plus 6 (read_bits s 5 (read_bits s 2 b₂).bio))
      (plus 37 (read_bits s 7 (read_bits s 5 (read_bits s 2 b₂).bio).bio)))
  unfolding read_passes
  past_two_ones xs r = if-ne (next_bit s b) 0 _ _ (omega (arith, r.1)) ∙ if-ne (next_bit s (bio_after s b)) 0 _ _ (omega (arith, r.2.1))

  from_3 : (k : ℕ) → k < 3 → Reads s b (1 ∷ 1 ∷ bits_of 2 k) e → read_passes s b ≡ decoded (3 + k) e
  from_3 k h r =
      let q : read_bits s 2 b₂ ≡ decoded k e = number_read s 2 k b₂ e (omega arith) r.2.2 in
      past_two_ones (bits_of 2 k) r ∙ rw q (if-le k 2 _ _ (omega arith))

  from_6 : (k : ℕ) → k < 31 → Reads s b (1 ∷ 1 ∷ 1 ∷ 1 ∷ bits_of 5 k) e → read_passes s b ≡ decoded (6 + k) e
  unfolding bits_of
  from_6 k h r =
      let d = reads_split s b₂ e (bits_of 2 3) (bits_of 5 k) r.2.2 in
      let q : read_bits s 2 b₂ ≡ decoded 3 d.0 = number_read s 2 3 b₂ d.0 (omega arith) d.1 in
      let p : read_bits s 5 d.0 ≡ decoded k e = number_read s 5 k d.0 e (omega arith) d.2 in
      past_two_ones (1 ∷ 1 ∷ bits_of 5 k) r ∙ rw (q, p) (if-le k 30 _ _ (omega arith))

  from_37 : (k : ℕ) → k < 128 → Reads s b (replicate 9 1 ++ bits_of 7 k) e → read_passes s b ≡ decoded (37 + k) e
  unfolding bits_of
  from_37 k h r =
      let d = reads_split s b₂ e (bits_of 2 3) (bits_of 5 31 ++ bits_of 7 k) r.2.2 in
      let c = reads_split s d.0 e (bits_of 5 31) (bits_of 7 k) d.2 in
      let q : read_bits s 2 b₂ ≡ decoded 3 d.0 = number_read s 2 3 b₂ d.0 (omega arith) d.1 in
      let p : read_bits s 5 d.0 ≡ decoded 31 c.0 = number_read s 5 31 d.0 c.0 (omega arith) c.1 in
      let o : read_bits s 7 c.0 ≡ decoded k e = number_read s 7 k c.0 e (omega arith) c.2 in
      past_two_ones (replicate 7 1 ++ bits_of 7 k) r ∙ rw (q, p, o) refl

  pub passes_read_lem : (n : ℕ) → 1 ≤ n → n ≤ 164 → Reads s b (pass_bits n) e → read_passes s b ≡ decoded n e
  unfolding pass_bits
  passes_read_lem n lo hi r =
      on-le n 1
      (λ h. one (rw (if-le n 1 _ _ h) at r) ∙ is 1 (omega arith))
      (λ h₁. on-le n 2
      (λ h. two (rw (if-gt n 1 _ _ h₁, if-le n 2 _ _ h) at r) ∙ is 2 (omega arith))
      (λ h₂. on-le n 5
      (λ h. from_3 (n - 3) (omega arith) (rw (if-gt n 1 _ _ h₁, if-gt n 2 _ _ h₂, if-le n 5 _ _ h) at r) ∙ is (3 + (n - 3)) (omega arith))
      (λ h₅. on-le n 36
      (λ h. from_6 (n - 6) (omega arith) (rw (if-gt n 1 _ _ h₁, if-gt n 2 _ _ h₂, if-gt n 5 _ _ h₅, if-le n 36 _ _ h) at r)
      ∙ is (6 + (n - 6)) (omega arith))
      (λ h. from_37 (n - 37) (omega arith) (rw (if-gt n 1 _ _ h₁, if-gt n 2 _ _ h₂, if-gt n 5 _ _ h₅, if-gt n 36 _ _ h) at r)
      ∙ is (37 + (n - 37)) (omega arith)))))
    where
      is : (m : ℕ) → m ≡ n → decoded m e ≡ decoded n e
      is m q = ap (λ (z : ℕ). decoded z e) q

-- ---- lengths

halvings-above : (f n : ℕ) → n ≤ f → n < 2 ^ suc (halvings f n)
unfolding halvings
halvings-above zero n h = omega arith
halvings-above (suc f) n h =
    on-lt n 2
    (λ k. rw (if-lt n 2 _ _ k) (omega arith))
    (λ k. rw (if-ge n 2 _ _ k, one-add (halvings f (n / 2)), pow-suc 2 (suc (halvings f (n / 2))))
    (omega (arith, halvings-above f (n / 2) (omega arith))))

below_bit_length : (n : ℕ) → n < 2 ^ bit_length n
unfolding bit_length floor_log2
below_bit_length n = rw one-add (halvings-above n n (le_refl n))

-- each length is below 2 to its field's width
abbrev pub LengthsFit : ℕ → List Segment → Type 0
LengthsFit l [] = Unit {0}
LengthsFit l (g ∷ gs) = (g.bytes < 2 ^ width l g.passes) × LengthsFit l gs

fit_with : (l k : ℕ) (gs : List Segment) → increment l gs ≤ k → LengthsFit (l + k) gs
unfolding increment width
fit_with l k [] h = tt
fit_with l k (g ∷ gs) h =
    let a = le-max_left (bit_length g.bytes - width l g.passes) (increment l gs) in
    let b = le-max_right (bit_length g.bytes - width l g.passes) (increment l gs) in
    (le_trans (below_bit_length g.bytes) (pow_mono (omega (arith, le_trans a h))), fit_with l k gs (le_trans b h))

pub lengths_fit : (l : ℕ) (gs : List Segment) → LengthsFit (l + increment l gs) gs
lengths_fit l gs = fit_with l (increment l gs) gs (le_refl (increment l gs))
