-- Reading a node over zeros of the held word at once.
use mathlib.Core.Path.{◌≡◌, refl, sym, ap, ◌∙◌, subst}
use mathlib.Core.Bool.{Bool, true, false, cond, ◌&&◌, true≢false}
use mathlib.Core.List.{List}
use Prim.Native.Nat.{ℕ, zero, suc, ◌+◌, ◌-◌, ◌*◌, ◌/◌, ◌%◌, ◌^◌, ◌≤◌, ◌<◌, min}
use native.Mathlib.Nat.{add_comm, mod-lt, div-eq_of_lt, div-eq_of_lt-le, mod-eq_of_lt, zero-div, zero-mod}
use native.Mathlib.Omega.{arith}
use lib.Count.{count_leading_zeros, leading_length}
use lib.Dec.{eqb, ltb}
use lib.Pow.{pow-add, shr-shr, field, mod-mod-pow, pow-lt, pow_pos}
use borrow.Author.Tests.{eq-eqb, lt-ltb, ltb-true, eqb-true}
use Rattle.t800.specs.declared.Bio.{Bio}
use Rattle.t800.specs.Bits.{Decoded, byte_in, held_bit, get_bit}
use Rattle.t800.specs.TagTree.{NodeRead, read_node}
use Rattle.t800_laws.proofs.Laws.Tests.{if-lt, if-ge, if-eq, if-ne, on-lt, on-eq}
use Rattle.bio_bytes.proofs.Laws.HeldWord.{bio_of}
use Rattle.bio_read.proofs.Laws.ReadChunks.{byte_in-ct, get_held}
use Rattle.tgt_read.specs.Reading.{seen, LeadingZeros}

-- ---- the value bounds the bits as the threshold does

cut_by : (src : List ℕ) (d v l : ℕ) (b : Bio) → read_node src d v l b ≡ read_node src (min d (v - l)) v l b
unfolding read_node
cut_by src zero v l b = let e : min 0 (v - l) ≡ 0 = omega arith in rw e
cut_by src (suc d) v l b =
    on-lt l v
    (λ h. let e : min (suc d) (v - l) ≡ suc (min d (v - (l + 1))) = omega arith in
    ap (λ (r : NodeRead). cond (ltb l v) (cond (eqb (get_bit src b).value 0) r (seen l l (get_bit src b).bio)) (seen v l b))
    (cut_by src d v (l + 1) (get_bit src b).bio)
    ∙ ap (λ (k : ℕ). read_node src k v l b) (sym e))
    (λ h. let e : min (suc d) (v - l) ≡ 0 = omega arith in
    if-ge l v _ _ h ∙ ap (λ (k : ℕ). read_node src k v l b) (sym e))

pub cut_short : (src : List ℕ) (t v l : ℕ) (b : Bio) → read_node src (t - l) v l b ≡ read_node src (min v t - l) v l b
cut_short src t v l b = let e : min (t - l) (v - l) ≡ min v t - l = omega arith in cut_by src (t - l) v l b
    ∙ ap (λ (k : ℕ). read_node src k v l b) e

-- ---- a held bit

module _ (src : List ℕ) (d v l p u c : ℕ) (under : l < v) where
  abbrev after_bit : Decoded → NodeRead
  after_bit g = cond (ltb l v) (cond (eqb g.value 0) (read_node src d v (l + 1) g.bio) (seen l l g.bio))
      (seen v l (bio_of p u (suc c)))

  bit_held : read_node src (suc d) v l (bio_of p u (suc c))
      ≡ cond (eqb (u / 2 ^ c % 2) 0) (read_node src d v (l + 1) (bio_of p u c)) (seen l l (bio_of p u c))
  unfolding read_node
  bit_held = ap after_bit (get_held src p u c) ∙ if-lt l v _ _ under

  pub held_zero : u / 2 ^ c % 2 ≡ 0 → read_node src (suc d) v l (bio_of p u (suc c)) ≡ read_node src d v (l + 1) (bio_of p u c)
  held_zero e = bit_held ∙ if-eq _ _ _ _ e

  pub held_one : u / 2 ^ c % 2 ≡ 1 → read_node src (suc d) v l (bio_of p u (suc c)) ≡ seen l l (bio_of p u c)
  held_one e = bit_held ∙ if-ne (u / 2 ^ c % 2) 0 _ _ (omega arith)

-- ---- k zeros of k + r held bits

held_zeros : (src : List ℕ) (d v l p u r k : ℕ) → u / 2 ^ r % 2 ^ k ≡ 0 → l + k ≤ v → read_node src (k + d) v l (bio_of p u (k + r))
    ≡ read_node src d v (l + k) (bio_of p u r)
held_zeros src d v l p u r zero e h =
    let a : zero + d ≡ d = omega arith in
    let b : zero + r ≡ r = omega arith in
    let c : l + 0 ≡ l = omega arith in
    rw (a, b, c)
held_zeros src d v l p u r (suc k) e h =
    let a : suc k + d ≡ suc (k + d) = omega arith in
    let b : suc k + r ≡ suc (k + r) = omega arith in
    let c : l + suc k ≡ l + 1 + k = omega arith in
    let q : 1 + k ≡ suc k = omega arith in
    let top : u / 2 ^ (k + r) % 2 ≡ 0 =
    ap (λ (z : ℕ). u / 2 ^ z % 2) (add_comm k r) ∙ ap (λ (z : ℕ). z % 2) (sym (shr-shr u r k)) ∙ sym (field (u / 2 ^ r) 1 k)
    ∙ ap (λ (z : ℕ). u / 2 ^ r % 2 ^ z / 2 ^ k) q ∙ ap (λ (z : ℕ). z / 2 ^ k) e ∙ zero-div (2 ^ k) in
    let rest : u / 2 ^ r % 2 ^ k ≡ 0 = sym (mod-mod-pow (u / 2 ^ r) 1 k) ∙ ap (λ (z : ℕ). u / 2 ^ r % 2 ^ z % 2 ^ k) q
    ∙ ap (λ (z : ℕ). z % 2 ^ k) e ∙ zero-mod (2 ^ k) in
    rw (a, b, c) (held_zero src (k + d) v l p u (k + r) (omega arith) top ∙ held_zeros src d v (l + 1) p u r k rest (omega arith))

-- k zeros, where at least as many are held
pub past_zeros : (src : List ℕ) (b : Bio) (d v l k : ℕ) → k ≤ b.ct → k ≤ d → l + d ≤ v → b.buf / 2 ^ (b.ct - k) % 2 ^ k ≡ 0
    → read_node src d v l b ≡ read_node src (d - k) v (l + k) (bio_of b.bp b.buf (b.ct - k))
past_zeros src b d v l k h g f e =
    let p : k + (d - k) ≡ d = omega arith in
    let q : k + (b.ct - k) ≡ b.ct = omega arith in
    ap (λ (n : ℕ). read_node src n v l b) (sym p)
    ∙ ap (λ (c : ℕ). read_node src (k + (d - k)) v l (bio_of b.bp b.buf c)) (sym q)
    ∙ held_zeros src (d - k) v l b.bp b.buf (b.ct - k) k e (omega arith)

-- fewer of them
fewer_zeros : (u c z k : ℕ) → k ≤ z → z ≤ c → u / 2 ^ (c - z) % 2 ^ z ≡ 0 → u / 2 ^ (c - k) % 2 ^ k ≡ 0
fewer_zeros u c z k h g e =
    let a : k + (z - k) ≡ z = omega arith in
    let b : c - z + (z - k) ≡ c - k = omega arith in
    ap (λ (n : ℕ). u / 2 ^ n % 2 ^ k) (sym b) ∙ ap (λ (n : ℕ). n % 2 ^ k) (sym (shr-shr u (c - z) (z - k)))
    ∙ sym (field (u / 2 ^ (c - z)) k (z - k))
    ∙ ap (λ (n : ℕ). u / 2 ^ (c - z) % 2 ^ n / 2 ^ (z - k)) a ∙ ap (λ (n : ℕ). n / 2 ^ (z - k)) e ∙ zero-div (2 ^ (z - k))

-- ---- the ends of the search, z zeros leading

module _ (src : List ℕ) (b : Bio) (d v l z : ℕ) (f : l + d ≤ v) (s : LeadingZeros b z) where
  -- zeros to the threshold
  pub seek_end : d ≤ z → read_node src d v l b ≡ seen v (l + d) (bio_of b.bp b.buf (b.ct - d))
  unfolding read_node
  seek_end h =
      let e : d - d ≡ 0 = omega arith in
      past_zeros src b d v l d (omega (arith, s.at_most)) (omega arith) f (fewer_zeros b.buf b.ct z d h s.at_most s.zeros)
      ∙ ap (λ (n : ℕ). read_node src n v (l + d) (bio_of b.bp b.buf (b.ct - d))) e

  -- a 1 before it
  pub seek_one_lem : z < d → z < b.ct → read_node src d v l b ≡ seen (l + z) (l + z) (bio_of b.bp b.buf (b.ct - (z + 1)))
  seek_one_lem h g =
      let a : d - z ≡ suc (d - z - 1) = omega arith in
      let c : b.ct - z ≡ suc (b.ct - z - 1) = omega arith in
      let e : b.ct - z - 1 ≡ b.ct - (z + 1) = omega arith in
      past_zeros src b d v l z s.at_most (omega arith) f s.zeros
      ∙ ap (λ (n : ℕ). read_node src n v (l + z) (bio_of b.bp b.buf (b.ct - z))) a
      ∙ ap (λ (n : ℕ). read_node src (suc (d - z - 1)) v (l + z) (bio_of b.bp b.buf n)) c
      ∙ held_one src (d - z - 1) v (l + z) b.bp b.buf (b.ct - z - 1) (omega arith) (s.one g)
      ∙ ap (λ (n : ℕ). seen (l + z) (l + z) (bio_of b.bp b.buf n)) e

-- ---- whether the search goes on after the held word

pub runs_on_is : (b : Bio) (d : ℕ) → ltb b.ct d && eqb (b.buf % 2 ^ b.ct) 0 ≡ true → (b.ct < d) × (b.buf % 2 ^ b.ct ≡ 0)
runs_on_is b d e = by (ltb b.ct d) (eqb (b.buf % 2 ^ b.ct) 0) refl refl e
  where
    by : (p q : Bool) → ltb b.ct d ≡ p → eqb (b.buf % 2 ^ b.ct) 0 ≡ q → p && q ≡ true → (b.ct < d) × (b.buf % 2 ^ b.ct ≡ 0)
    by true true e f r = (ltb-true _ _ e, eqb-true _ _ f)
    by true false e f r = absurd (true≢false (sym r))
    by false q e f r = absurd (true≢false (sym r))

-- where it doesn't, and its leading zeros are too few, they end with a 1
pub not_on : (b : Bio) (d z : ℕ) → ltb b.ct d && eqb (b.buf % 2 ^ b.ct) 0 ≡ false → LeadingZeros b z → z < d → z < b.ct
not_on b d z e s h =
    on-lt z b.ct (λ l. l)
    (λ l. absurd (true≢false
    (sym (cc (lt-ltb b.ct d (omega (arith, s.at_most)), eq-eqb (b.buf % 2 ^ b.ct) 0 (all (omega (arith, s.at_most))))) ∙ e)))
  where
    all : z ≡ b.ct → b.buf % 2 ^ b.ct ≡ 0
    all q =
        let n : b.ct - z ≡ 0 = omega arith in
        let one : b.buf / 2 ^ 0 ≡ b.buf = omega arith in
        sym (ap (λ (k : ℕ). k % 2 ^ z) one ∙ ap (λ (k : ℕ). b.buf % 2 ^ k) q) ∙ sym (ap (λ (k : ℕ). b.buf / 2 ^ k % 2 ^ z) n) ∙ s.zeros

-- ---- a turn of the loop: the held word has only zeros

same_byte : (src : List ℕ) (b : Bio) → byte_in src (bio_of b.bp b.buf 0) ≡ byte_in src b
unfolding byte_in
same_byte src b = refl

-- with no bit held a byte comes in first
byte_first : (src : List ℕ) (b : Bio) (d v l : ℕ) → 0 < d → l < v → read_node src d v l (bio_of b.bp b.buf 0)
    ≡ read_node src d v l (byte_in src b)
unfolding read_node get_bit
byte_first src b zero v l h g = absurd (omega arith)
byte_first src b (suc d) v l h g =
    let m = byte_in src b in
    let r = byte_in-ct src b in
    let z : m.ct ≡ 0 → ⊥ = omega arith in
    if-lt l v _ _ g
    ∙ ap (λ (c : Bio). cond (eqb (held_bit c).value 0) (read_node src d v (l + 1) (held_bit c).bio) (seen l l (held_bit c).bio))
    (same_byte src b ∙ sym (if-ne m.ct 0 (byte_in src m) m z))
    ∙ sym (if-lt l v _ _ g)

pub seek_turn : (src : List ℕ) (b : Bio) (d v l : ℕ) → l + d ≤ v → b.ct < d → b.buf % 2 ^ b.ct ≡ 0
    → read_node src (d - b.ct) v (l + b.ct) (byte_in src b) ≡ read_node src d v l b
seek_turn src b d v l f h e =
    let z : b.ct - b.ct ≡ 0 = omega arith in
    let one : b.buf / 2 ^ 0 ≡ b.buf = omega arith in
    let zeros : b.buf / 2 ^ (b.ct - b.ct) % 2 ^ b.ct ≡ 0 = rw (z, one) e in
    sym (byte_first src b (d - b.ct) v (l + b.ct) (omega arith) (omega arith))
    ∙ sym (past_zeros src b d v l b.ct (omega arith) (omega arith) f zeros
    ∙ ap (λ (c : ℕ). read_node src (d - b.ct) v (l + b.ct) (bio_of b.bp b.buf c)) z)

-- ---- the zeros that lead

module _ (b : Bio) (few : b.ct ≤ 8) where
  abbrev h : ℕ
  h = b.buf % 2 ^ b.ct

  below : h < 2 ^ b.ct
  below = mod-lt b.buf (pow_pos b.ct)

  -- m bits of it from the top 1 on
  module _ (m : ℕ) (small : h < 2 ^ m) (top : 2 ^ m ≤ 2 * h + 1) where
    at_most_lem : m ≤ b.ct
    at_most_lem = on-lt b.ct m
        (λ l. absurd (on-eq m (suc b.ct) (λ e. omega (arith, below, top, ap (λ (k : ℕ). 2 ^ k) e))
        (λ n. omega (arith, below, top, pow-lt {i = suc b.ct} {j = m} (omega arith))))) (λ l. l)

    leading : LeadingZeros b (b.ct - m)
    leading =
        let back : b.ct - (b.ct - m) ≡ m = omega (arith, at_most_lem) in
        let whole : b.ct - m + m ≡ b.ct = omega (arith, at_most_lem) in
        record {
          at_most = omega arith;
          zeros = ap (λ (k : ℕ). b.buf / 2 ^ k % 2 ^ (b.ct - m)) back ∙ sym (field b.buf (b.ct - m) m)
              ∙ ap (λ (k : ℕ). b.buf % 2 ^ k / 2 ^ m) whole ∙ div-eq_of_lt small;
          one = λ g. ap (λ (k : ℕ). b.buf / 2 ^ k % 2) (ap (λ (k : ℕ). k - 1) back) ∙ top_one (m - 1) (omega arith);
        }
      where
        top_one : (j : ℕ) → m ≡ 1 + j → b.buf / 2 ^ j % 2 ≡ 1
        top_one j e =
            let twice : 2 ^ m ≡ 2 * 2 ^ j = ap (λ (k : ℕ). 2 ^ k) e ∙ pow-add 2 1 j in
            let whole : b.ct - m + m ≡ b.ct = omega (arith, at_most_lem) in
            let low : b.buf % 2 ^ m ≡ h = sym (mod-mod-pow b.buf (b.ct - m) m) ∙ ap (λ (k : ℕ). b.buf % 2 ^ k % 2 ^ m) whole
            ∙ mod-eq_of_lt small in
            sym (field b.buf 1 j) ∙ ap (λ (k : ℕ). b.buf % 2 ^ k / 2 ^ j) (sym e) ∙ ap (λ (n : ℕ). n / 2 ^ j) low
            ∙ div-eq_of_lt-le (2 ^ j) (omega arith) (omega arith)

  -- what the count of a 32-bit word says of the held bits
  pub leading_held : (32 - b.ct ≤ count_leading_zeros 32 h) × LeadingZeros b (count_leading_zeros 32 h - (32 - b.ct))
  leading_held =
      let r = leading_length 32 h (omega (arith, below, pow-lt {i = b.ct} {j = 32} (omega arith))) in
      let m = r.0 in
      let g = at_most_lem m r.2 r.3 in
      let e : b.ct - m ≡ count_leading_zeros 32 h - (32 - b.ct) = omega (arith, r.1) in
      (omega (arith, r.1), subst (LeadingZeros b) e (leading m r.2 r.3))

-- ---- one bit

module _ (src : List ℕ) (v l : ℕ) (b : Bio) (g : Decoded) (under : l < v) (got : g ≡ get_bit src b) where
  pub one_raises : g.value ≡ 0 → seen v (l + 1) g.bio ≡ read_node src 1 v l b
  unfolding read_node
  one_raises z =
      ap (λ (k : Decoded). seen v (l + 1) k.bio) got
      ∙ sym (if-lt l v _ _ under ∙ if-eq (get_bit src b).value 0 _ _ (sym (ap (λ (k : Decoded). k.value) got) ∙ z))

  pub one_reaches : (g.value ≡ 0 → ⊥) → seen l l g.bio ≡ read_node src 1 v l b
  unfolding read_node
  one_reaches z =
      ap (λ (k : Decoded). seen l l k.bio) got
      ∙ sym (if-lt l v _ _ under ∙ if-ne (get_bit src b).value 0 _ _ (λ e. z (ap (λ (k : Decoded). k.value) got ∙ e)))
