-- Several bits written in a step are as many single bits.
use mathlib.Core.Path.{◌≡◌, ◌∙◌, sym, ap, ap₂, subst}
use mathlib.Core.List.{List, [], ◌∷◌, ◌++◌}
use Prim.Native.Nat.{ℕ, zero, suc, ◌+◌, ◌-◌, ◌*◌, ◌/◌, ◌%◌, ◌^◌, ◌≤◌, ◌<◌}
use native.Mathlib.Nat.{suc-add, zero-add, add_comm}
use native.Mathlib.Omega.{arith}
use lib.Pow.{mod-pow-add, pow-add, shr-shr}
use borrow.Author.Tests.{ne_eqb}
use Rattle.t800.specs.declared.Bio.{Bio}
use Rattle.t800.specs.Bits.{bits_of}
use Rattle.bio_bytes.specs.Writing.{Output, output, make_room, hold_bit, put_bit, put_bits, FreeBitsClear}
use Rattle.bio_bytes.proofs.Laws.HeldWord.{bio_of}
use Rattle.bio_write.specs.Chunks.{hold_bits}
use Rattle.bio_write.proofs.Laws.FreeBits.{make_room-clear, put_bits-clear, put_bits-append}

-- a bit where one is free
pub put_held : (o : List ℕ) (p u c x : ℕ) → put_bit (output o (bio_of p u (suc c))) x ≡ output o (bio_of p (u + x * 2 ^ c) c)
unfolding put_bit make_room hold_bit
put_held o p u c x =
    let e : suc c - 1 ≡ c = omega arith in
    let z : suc c ≡ 0 → ⊥ = omega arith in
    simp (ne_eqb (suc c) 0 z, e)

-- the top bit x of k + 1, and the k below it
top_and_rest : (u x m q t : ℕ) → u + x * (q * t) + m * t ≡ u + (x * q + m) * t
top_and_rest u x m q t = omega arith

no_bits : (u v t : ℕ) → u ≡ u + v % 2 ^ 0 * t
no_bits u v t = let z : v % 2 ^ 0 ≡ 0 = omega arith in rw z (omega arith)

-- k bits where k + r are free
put_all_held : (o : List ℕ) (p u r k v : ℕ) → put_bits (output o (bio_of p u (k + r))) (bits_of k v)
    ≡ output o (bio_of p (u + v % 2 ^ k * 2 ^ r) r)
unfolding put_bits bits_of
put_all_held o p u r zero v = λ i. output o (bio_of p (no_bits u v (2 ^ r) i) (zero-add r i))
put_all_held o p u r (suc k) v =
    let x = v / 2 ^ k % 2 in
    let e : v % 2 ^ suc k ≡ x * 2 ^ k + v % 2 ^ k = ap (λ (z : ℕ). v % 2 ^ z) (omega arith) ∙ mod-pow-add v 1 k in
    ap (λ (c : ℕ). put_bits (put_bit (output o (bio_of p u c)) x) (bits_of k v)) (suc-add k r)
    ∙ ap (λ (s : Output). put_bits s (bits_of k v)) (put_held o p u (k + r) x)
    ∙ put_all_held o p (u + x * 2 ^ (k + r)) r k v
    ∙ ap (λ (z : ℕ). output o (bio_of p (u + x * z + v % 2 ^ k * 2 ^ r) r)) (pow-add 2 k r)
    ∙ ap (λ (z : ℕ). output o (bio_of p z r)) (top_and_rest u x (v % 2 ^ k) (2 ^ k) (2 ^ r))
    ∙ ap (λ (z : ℕ). output o (bio_of p (u + z * 2 ^ r) r)) (sym e)

pub hold_bits-is : (o : List ℕ) (b : Bio) (v k : ℕ) → k ≤ b.ct → output o (hold_bits b v k) ≡ put_bits (output o b) (bits_of k v)
unfolding hold_bits
hold_bits-is o b v k h =
    let e : k + (b.ct - k) ≡ b.ct = omega arith in
    sym (put_all_held o b.bp b.buf (b.ct - k) k v) ∙ ap (λ (c : ℕ). put_bits (output o (bio_of b.bp b.buf c)) (bits_of k v)) e

pub hold_bits-clear : (b : Bio) (v k : ℕ) → FreeBitsClear b → k ≤ b.ct → FreeBitsClear (hold_bits b v k)
hold_bits-clear b v k h l =
    subst FreeBitsClear (sym (ap (λ (s : Output). s.bio) (hold_bits-is [] b v k l))) (put_bits-clear (output [] b) (bits_of k v) h)

-- one bit
pub hold_bit-is : (b : Bio) (bit : ℕ) → bit ≤ 1 → hold_bits b bit 1 ≡ hold_bit b bit
unfolding hold_bits hold_bit
hold_bit-is b bit h = let e : bit % 2 ≡ bit = omega arith in rw e

pub put_bit-is : (o : Output) (v bit : ℕ) → bit ≡ v % 2 → put_bit o bit ≡ put_bits o (bits_of 1 v)
unfolding put_bits bits_of
put_bit-is o v bit e = let q : bit ≡ v / 2 ^ 0 % 2 = omega arith in ap (put_bit o) q

-- ---- room is made once

pub make_room-twice : (o : Output) → FreeBitsClear o.bio → make_room (make_room o) ≡ make_room o
unfolding make_room
make_room-twice o h =
    let r = make_room-clear o h in
    let z : (make_room o).bio.ct ≡ 0 → ⊥ = omega arith in
    simp (ne_eqb _ _ z)

pub put_from_room : (o : Output) (x : ℕ) (xs : List ℕ) → FreeBitsClear o.bio → put_bits (make_room o) (x ∷ xs) ≡ put_bits o (x ∷ xs)
unfolding put_bits put_bit
put_from_room o x xs h = ap (λ (s : Output). put_bits (output s.bytes (hold_bit s.bio x)) xs) (make_room-twice o h)

bits_from_room : (o : Output) (v n : ℕ) → 0 < n → FreeBitsClear o.bio → put_bits (make_room o) (bits_of n v) ≡ put_bits o (bits_of n v)
unfolding bits_of
bits_from_room o v zero l h = absurd (omega arith)
bits_from_room o v (suc n) l h = put_from_room o _ _ h

-- ---- a turn

pub bits_of-split : (k m v : ℕ) → bits_of (k + m) v ≡ bits_of k (v / 2 ^ m) ++ bits_of m v
unfolding bits_of
bits_of-split zero m v = ap (λ (n : ℕ). bits_of n v) (zero-add m)
bits_of-split (suc k) m v =
    ap (λ (n : ℕ). bits_of n v) (suc-add k m)
    ∙ ap₂ (λ (d : ℕ) (ds : List ℕ). d % 2 ∷ ds) (ap (λ (n : ℕ). v / 2 ^ n) (add_comm k m) ∙ sym (shr-shr v m k)) (bits_of-split k m v)

-- of the loop that writes k bits at a time, where m has room
pub write-turn : (o : Output) (bytes : List ℕ) (m : Bio) (v left k : ℕ) → FreeBitsClear o.bio → output bytes m ≡ make_room o
    → 0 < left → k ≤ left → k ≤ m.ct
    → put_bits (output bytes (hold_bits m (v / 2 ^ (left - k)) k)) (bits_of (left - k) v) ≡ put_bits o (bits_of left v)
write-turn o bytes m v left k h e pos l r =
    let q : k + (left - k) ≡ left = omega arith in
    ap (λ (s : Output). put_bits s (bits_of (left - k) v)) (hold_bits-is bytes m (v / 2 ^ (left - k)) k r)
    ∙ sym (put_bits-append (output bytes m) (bits_of k (v / 2 ^ (left - k))) (bits_of (left - k) v))
    ∙ ap (put_bits (output bytes m)) (sym (bits_of-split k (left - k) v))
    ∙ ap (λ (n : ℕ). put_bits (output bytes m) (bits_of n v)) q
    ∙ ap (λ (s : Output). put_bits s (bits_of left v)) e
    ∙ bits_from_room o v left pos h
