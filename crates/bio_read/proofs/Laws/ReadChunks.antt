-- Several bits read in a step are as many single bits; and what reading keeps.
use mathlib.Core.Path.{◌≡◌, refl, ◌∙◌, sym, ap}
use mathlib.Core.Bool.{Bool, true, false, cond}
use mathlib.Core.List.{List}
use Prim.Native.Nat.{ℕ, zero, suc, ◌+◌, ◌-◌, ◌*◌, ◌/◌, ◌%◌, ◌^◌, ◌≤◌, ◌<◌}
use native.Mathlib.Nat.{suc-add, zero-add, add_comm, mod-lt}
use native.Mathlib.Omega.{arith}
use lib.Dec.{eqb}
use lib.ListN.{length}
use lib.Pow.{mod-pow-add, shr-shr, pow_pos}
use borrow.Author.Tests.{ne_eqb, eqb-false}
use Rattle.t800.specs.declared.Bio.{Bio}
use Rattle.t800.specs.Bits.{Decoded, reach, byte_in, held_bit, get_bit, read_bits_onto, read_bits}
use Rattle.bio_bytes.proofs.Laws.HeldWord.{bio_of, seven_or_eight}
use Rattle.bio_read.specs.Chunks.{refill, held_bits}

-- ---- at most eight bits are held

pub byte_in-ct : (src : List ℕ) (b : Bio) → (7 ≤ (byte_in src b).ct) × ((byte_in src b).ct ≤ 8)
unfolding byte_in
byte_in-ct src b = seven_or_eight (eqb (b.buf * 256 % 65536) 0xff00)

refill_by : (src : List ℕ) (b : Bio) (t : Bool) → eqb b.ct 0 ≡ t → b.ct ≤ 8 → (1 ≤ (cond t (byte_in src b) b).ct)
    × ((cond t (byte_in src b) b).ct ≤ 8)
refill_by src b true e h = let r = byte_in-ct src b in omega arith
refill_by src b false e h = let n = eqb-false b.ct 0 e in omega arith

pub refill-ct : (src : List ℕ) (b : Bio) → b.ct ≤ 8 → (1 ≤ (refill src b).ct) × ((refill src b).ct ≤ 8)
unfolding refill
refill-ct src b h = refill_by src b (eqb b.ct 0) refl h

pub get_bit-is : (src : List ℕ) (b : Bio) → held_bits (refill src b) 1 ≡ get_bit src b
unfolding get_bit held_bit held_bits refill
get_bit-is src b = refl

pub get_bit-ct : (src : List ℕ) (b : Bio) → b.ct ≤ 8 → (get_bit src b).bio.ct ≤ 8
unfolding get_bit held_bit
get_bit-ct src b h = let r = refill_by src b (eqb b.ct 0) refl h in omega arith

onto_ct : (src : List ℕ) (n v : ℕ) (b : Bio) → b.ct ≤ 8 → (read_bits_onto src n v b).bio.ct ≤ 8
unfolding read_bits_onto
onto_ct src zero v b h = h
onto_ct src (suc n) v b h = onto_ct src n (2 * v + (get_bit src b).value) (get_bit src b).bio (get_bit-ct src b h)

pub read_bits-ct : (src : List ℕ) (n : ℕ) (b : Bio) → b.ct ≤ 8 → (read_bits src n b).bio.ct ≤ 8
unfolding read_bits
read_bits-ct src n b h = onto_ct src n 0 b h

-- ---- the place stays in reach of the input

place_by : (src : List ℕ) (b : Bio) (t : Bool) → b.bp ≤ length src + reach → (cond t (byte_in src b) b).bp ≤ length src + reach
unfolding byte_in
place_by src b true h = omega arith
place_by src b false h = h

pub get_bit-place : (src : List ℕ) (b : Bio) → b.bp ≤ length src + reach → (get_bit src b).bio.bp ≤ length src + reach
unfolding get_bit held_bit
get_bit-place src b h = place_by src b (eqb b.ct 0) h

onto_place : (src : List ℕ) (n v : ℕ) (b : Bio) → b.bp ≤ length src + reach → (read_bits_onto src n v b).bio.bp ≤ length src + reach
unfolding read_bits_onto
onto_place src zero v b h = h
onto_place src (suc n) v b h = onto_place src n (2 * v + (get_bit src b).value) (get_bit src b).bio (get_bit-place src b h)

pub read_bits-place : (src : List ℕ) (n : ℕ) (b : Bio) → b.bp ≤ length src + reach → (read_bits src n b).bio.bp ≤ length src + reach
unfolding read_bits
read_bits-place src n b h = onto_place src n 0 b h

-- ---- n bits are a number below 2 ^ n

pub held_bits-below : (b : Bio) (k : ℕ) → (held_bits b k).value < 2 ^ k
unfolding held_bits
held_bits-below b k = mod-lt (b.buf / 2 ^ (b.ct - k)) (pow_pos k)

pub held_bits-ct : (b : Bio) (k : ℕ) → b.ct ≤ 8 → (held_bits b k).bio.ct ≤ 8
unfolding held_bits
held_bits-ct b k h = omega arith

-- ---- k bits at once

abbrev found : ℕ → Bio → Decoded
found v b = record { value = v; bio = b }

-- a bit where one is held
pub get_held : (src : List ℕ) (p u c : ℕ) → get_bit src (bio_of p u (suc c)) ≡ found (u / 2 ^ c % 2) (bio_of p u c)
unfolding get_bit held_bit
get_held src p u c =
    let e : suc c - 1 ≡ c = omega arith in
    let z : suc c ≡ 0 → ⊥ = omega arith in
    simp (ne_eqb (suc c) 0 z, e)

-- the top bit x of k + 1, and the k below it, after v
top_and_rest : (v x q m : ℕ) → (2 * v + x) * q + m ≡ v * (2 * q) + (x * q + m)
top_and_rest v x q m = omega arith

no_bits : (v w : ℕ) → v ≡ v * 2 ^ 0 + w % 2 ^ 0
no_bits v w = let z : w % 2 ^ 0 ≡ 0 = omega arith in rw z (omega arith)

-- k bits where k + r are held
get_all_held : (src : List ℕ) (p u r k v : ℕ) → read_bits_onto src k v (bio_of p u (k + r))
    ≡ found (v * 2 ^ k + u / 2 ^ r % 2 ^ k) (bio_of p u r)
unfolding read_bits_onto
get_all_held src p u r zero v = λ i. found (no_bits v (u / 2 ^ r) i) (bio_of p u (zero-add r i))
get_all_held src p u r (suc k) v =
    let x = u / 2 ^ (k + r) % 2 in
    let y : u / 2 ^ r / 2 ^ k % 2 ≡ x = ap (λ (z : ℕ). z % 2) (shr-shr u r k ∙ ap (λ (z : ℕ). u / 2 ^ z) (add_comm r k)) in
    let e : u / 2 ^ r % 2 ^ suc k ≡ x * 2 ^ k + u / 2 ^ r % 2 ^ k =
    ap (λ (z : ℕ). u / 2 ^ r % 2 ^ z) (omega arith) ∙ mod-pow-add (u / 2 ^ r) 1 k ∙ ap (λ (z : ℕ). z * 2 ^ k + u / 2 ^ r % 2 ^ k) y in
    ap (λ (c : ℕ). read_bits_onto src k (2 * v + (get_bit src (bio_of p u c)).value) (get_bit src (bio_of p u c)).bio) (suc-add k r)
    ∙ ap (λ (g : Decoded). read_bits_onto src k (2 * v + g.value) g.bio) (get_held src p u (k + r))
    ∙ get_all_held src p u r k (2 * v + x)
    ∙ ap (λ (z : ℕ). found z (bio_of p u r)) (top_and_rest v x (2 ^ k) (u / 2 ^ r % 2 ^ k))
    ∙ ap (λ (z : ℕ). found (v * (2 * 2 ^ k) + z) (bio_of p u r)) (sym e)
    ∙ ap (λ (z : ℕ). found (v * z + u / 2 ^ r % 2 ^ suc k) (bio_of p u r)) two
  where
    two : 2 * 2 ^ k ≡ 2 ^ suc k
    two = omega arith

onto_held : (src : List ℕ) (b : Bio) (k v : ℕ) → k ≤ b.ct → read_bits_onto src k v b
    ≡ found (v * 2 ^ k + (held_bits b k).value) (held_bits b k).bio
unfolding held_bits
onto_held src b k v h =
    let e : b.ct ≡ k + (b.ct - k) = omega arith in
    ap (λ (c : ℕ). read_bits_onto src k v (bio_of b.bp b.buf c)) e ∙ get_all_held src b.bp b.buf (b.ct - k) k v

pub held_bits-is : (src : List ℕ) (b : Bio) (k : ℕ) → k ≤ b.ct → held_bits b k ≡ read_bits src k b
unfolding read_bits
held_bits-is src b k h = (λ i. found (after_none i) (held_bits b k).bio) ∙ sym (onto_held src b k 0 h)
  where
    after_none : (held_bits b k).value ≡ 0 * 2 ^ k + (held_bits b k).value
    after_none = omega arith

pub get_bit-read : (src : List ℕ) (b : Bio) → get_bit src b ≡ read_bits src 1 b
unfolding read_bits read_bits_onto
get_bit-read src b = let e : (get_bit src b).value ≡ 0 * 2 + (get_bit src b).value = omega arith in λ i. found (e i) (get_bit src b).bio

-- ---- a turn

onto_split : (src : List ℕ) (k m v : ℕ) (b : Bio) → read_bits_onto src (k + m) v b
    ≡ read_bits_onto src m (read_bits_onto src k v b).value (read_bits_onto src k v b).bio
unfolding read_bits_onto
onto_split src zero m v b = ap (λ (n : ℕ). read_bits_onto src n v b) (zero-add m)
onto_split src (suc k) m v b = ap (λ (n : ℕ). read_bits_onto src n v b) (suc-add k m)
    ∙ onto_split src k m (2 * v + (get_bit src b).value) (get_bit src b).bio

refill-once : (src : List ℕ) (b : Bio) → b.ct ≤ 8 → get_bit src (refill src b) ≡ get_bit src b
unfolding get_bit refill
refill-once src b h =
    let r = refill-ct src b h in
    let z : (refill src b).ct ≡ 0 → ⊥ = omega arith in
    simp (ne_eqb _ _ z)

onto_refilled : (src : List ℕ) (b : Bio) (n v : ℕ) → 0 < n → b.ct ≤ 8 → read_bits_onto src n v (refill src b) ≡ read_bits_onto src n v b
unfolding read_bits_onto
onto_refilled src b zero v l h = absurd (omega arith)
onto_refilled src b (suc n) v l h = ap (λ (g : Decoded). read_bits_onto src n (2 * v + g.value) g.bio) (refill-once src b h)

-- of the loop that reads k bits at a time, where m holds some
pub read-turn : (src : List ℕ) (b m : Bio) (left k v : ℕ) → b.ct ≤ 8 → m ≡ refill src b → 0 < left → k ≤ left → k ≤ m.ct
    → read_bits_onto src (left - k) (v * 2 ^ k + (held_bits m k).value) (held_bits m k).bio ≡ read_bits_onto src left v b
read-turn src b m left k v h e pos l r =
    let q : k + (left - k) ≡ left = omega arith in
    sym (ap (λ (d : Decoded). read_bits_onto src (left - k) d.value d.bio) (onto_held src m k v r))
    ∙ sym (onto_split src k (left - k) v m)
    ∙ ap (λ (n : ℕ). read_bits_onto src n v m) q
    ∙ ap (λ (x : Bio). read_bits_onto src left v x) e
    ∙ onto_refilled src b left v pos h
