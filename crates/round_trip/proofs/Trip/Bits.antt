-- What was packed is read back: over any input that holds the packed bytes from some place on, a reader there takes exactly the bits, the
-- input doesn't end in a byte FF of theirs, and the bytes taken are the packed ones.
use mathlib.Core.Path.{◌≡◌, refl, sym, ap, ◌∙◌, subst}
use mathlib.Core.Logic.{◌≢◌}
use mathlib.Core.Bool.{Bool, true, false, cond}
use mathlib.Core.List.{List, [], ◌∷◌, ◌++◌}
use Prim.Native.Nat.{ℕ, zero, suc, ◌+◌, ◌-◌, ◌*◌, ◌/◌, ◌%◌, ◌^◌, ◌≤◌, ◌<◌, max, min}
use native.Mathlib.Nat.{pow-suc, mul-le-mul_right, le_of_suc-le-suc, add-zero, zero-add}
use native.Mathlib.Omega.{arith}
use lib.ListN.{length, get_or, drop, replicate, get_or-eq_default}
use lib.Dec.{eqb}
use lib.Pow.{pow_pos, high, field, mod-mod-pow}
use borrow.Author.Tests.{eq-eqb, ne_eqb}
use Rattle.t800.specs.declared.Bio.{Bio}
use Rattle.t800.specs.Bits as B
use Rattle.t800.specs.Bits.{reach, Decoded, bio_at, byte_in, held_bit, get_bit, bits_after, last_bytes, pack, in_ff, ends_in_ff, bytes_taken}
use Rattle.t800.specs.Bits.{bits_past}
use Rattle.t800_laws.proofs.Laws.Pack.{AreBits}
use Rattle.t800_laws.proofs.Laws.Tests.{if-eq, if-ne, on-eq, on-lt, drop_head}
use Rattle.bits_taken.specs.Taken.{Takes}
use Rattle.bits_taken.proofs.Laws.Taken.{byte_few, takes_none, one_then}
use Rattle.bits_taken.proofs.Laws.Inside as inside

abbrev bio_with : ℕ → ℕ → ℕ → Bio
bio_with p u c = record { bp = p; buf = u; ct = c }

-- the next bit, and where reading goes on after it
abbrev pub next_bit : List ℕ → Bio → ℕ
next_bit s b = (get_bit s b).value

abbrev pub bio_after : List ℕ → Bio → Bio
bio_after s b = (get_bit s b).bio

-- reading from b gives exactly the bits of the list and ends in e; less than a byte is held
abbrev pub Reads : List ℕ → Bio → List ℕ → Bio → Type 0
Reads s b [] e = (b.ct < 8) × (b ≡ e)
Reads s b (x ∷ xs) e = (b.ct < 8) × (next_bit s b ≡ x) × Reads s (bio_after s b) xs e

pub reads_held : (s : List ℕ) (b e : Bio) (xs : List ℕ) → Reads s b xs e → b.ct < 8
reads_held s b e [] r = r.0
reads_held s b e (x ∷ xs) r = r.0

pub reads_split : (s : List ℕ) (b e : Bio) (xs ys : List ℕ) → Reads s b (xs ++ ys) e → (c : Bio) × Reads s b xs c × Reads s c ys e
reads_split s b e [] ys p = (b, (reads_held s b e ys p, refl), p)
reads_split s b e (x ∷ xs) ys p = let r = reads_split s (bio_after s b) e xs ys p.2 in (r.0, (p.0, p.1, r.1), r.2)

-- ---- packing, with the bits of the open byte as a number

abbrev span : ℕ → ℕ
span c = cond (eqb c 255) 7 8

-- a is what the open byte holds so far, k how many bits are to come in it
unfoldable pack_from : ℕ → ℕ → List ℕ → List ℕ
pack_from a k [] = last_bytes (a * 2 ^ k)
pack_from a zero (x ∷ xs) = a ∷ pack_from x (span a - 1) xs
pack_from a (suc k) (x ∷ xs) = pack_from (a * 2 + x) k xs

span_is : (a : ℕ) → bits_after a ≡ span a
unfolding bits_after
span_is a = refl

pack-from_is : (bs : List ℕ) (a k : ℕ) → B.pack_from (a * 2 ^ k) k bs ≡ pack_from a k bs
unfolding pack_from B.pack_from
pack-from_is [] a k = refl
pack-from_is (x ∷ xs) a zero =
    let e : a * 2 ^ 0 ≡ a = omega arith in
    rw e (ap (λ (z : List ℕ). a ∷ z) (pack-from_is xs x (bits_after a - 1) ∙ ap (λ (z : ℕ). pack_from x (z - 1) xs) (span_is a)))
pack-from_is (x ∷ xs) a (suc k) =
    let e : a * 2 ^ suc k + x * 2 ^ k ≡ (a * 2 + x) * 2 ^ k = rw pow-suc (omega arith) in
    rw e (pack-from_is xs (a * 2 + x) k)

pack-is : (bs : List ℕ) → pack bs ≡ pack_from 0 8 bs
unfolding pack
pack-is bs = pack-from_is bs 0 8

-- the first byte begins with the bits that it holds already
record FirstByte (a k : ℕ) (l : List ℕ) : Type 0 where
  low : ℕ
  rest : List ℕ
  small : low < 2 ^ k
  is : l ≡ (a * 2 ^ k + low) ∷ rest

first_byte : (a k : ℕ) (bs : List ℕ) → AreBits bs → FirstByte a k (pack_from a k bs)
unfolding pack_from last_bytes
first_byte a k [] h = record { low = 0; rest = drop 1 (last_bytes (a * 2 ^ k)); small = pow_pos k; is = rw add-zero }
first_byte a zero (x ∷ xs) h =
    record {
      low = 0;
      rest = pack_from x (span a - 1) xs;
      small = pow_pos 0;
      is = ap (λ (z : ℕ). z ∷ pack_from x (span a - 1) xs) (omega arith);
    }
first_byte a (suc k) (x ∷ xs) h =
    let r = first_byte (a * 2 + x) k xs h.1 in
    record {
      low = x * 2 ^ k + r.low;
      rest = r.rest;
      small = omega (arith, mul-le-mul_right (2 ^ k) (le_of_suc-le-suc h.0), r.small);
      is = r.is ∙ ap (λ (z : ℕ). z ∷ r.rest) (rw pow-suc (omega arith));
    }

-- ---- one bit

-- a bit of the low byte
bit_of : (n i k a : ℕ) {l : ℕ} → i + 1 + k ≡ 8 → n % 256 ≡ a * 2 ^ k + l → l < 2 ^ k → n / 2 ^ k % 2 ≡ a % 2
bit_of n i k a e h s =
    sym (mod-mod-pow (n / 2 ^ k) i 1)
    ∙ ap (λ (z : ℕ). z % 2) (sym (field n (i + 1) k) ∙ ap (λ (z : ℕ). n % 2 ^ z / 2 ^ k) e ∙ ap (λ (z : ℕ). z / 2 ^ k) h ∙ high a k s)

-- of the byte that is held
get_held : (s : List ℕ) (q u k : ℕ) → get_bit s (bio_with q u (suc k)) ≡ record { value = u / 2 ^ k % 2; bio = bio_with q u k }
unfolding get_bit held_bit
get_held s q u k = let e : suc k - 1 ≡ k = omega arith in ap held_bit (if-ne (suc k) 0 _ _ (omega arith)) ∙ rw e

span_shifted : (c : ℕ) → cond (eqb (c * 256) 65280) 7 8 ≡ span c
span_shifted c =
    on-eq c 255
    (λ h. if-eq (c * 256) 65280 _ _ (omega arith) ∙ sym (if-eq c 255 7 8 h))
    (λ h. if-ne (c * 256) 65280 _ _ (omega arith) ∙ sym (if-ne c 255 7 8 h))

byte_in_lem : (s : List ℕ) (q u : ℕ) → q < length s → byte_in s (bio_with q u 0) ≡ bio_with (suc q) (u % 256 * 256 + get_or s q 0) (span (u % 256))
unfolding byte_in
byte_in_lem s q u h =
    let e : u * 256 % 65536 ≡ u % 256 * 256 = omega arith in
    let p : max q (min (q + 1) (length s + reach)) ≡ suc q = omega arith in
    rw (e, span_shifted (u % 256), p)

-- of the next byte
get_next : (s : List ℕ) (q u : ℕ) → q < length s
    → get_bit s (bio_with q u 0)
    ≡ record {
      value = (u % 256 * 256 + get_or s q 0) / 2 ^ (span (u % 256) - 1) % 2;
      bio = bio_with (suc q) (u % 256 * 256 + get_or s q 0) (span (u % 256) - 1);
    }
unfolding get_bit held_bit
get_next s q u h = ap held_bit (byte_in_lem s q u h)

-- a byte whose first bit is x: how many bits are to come, and that it is a byte
new_byte : (c x : ℕ) → x < 2 → (span c - 1 < 8) × ((x + 1) * 2 ^ (span c - 1) ≤ 256)
new_byte c x h = go (eqb c 255)
  where
    go : (b : Bool) → (cond b 7 8 - 1 < 8) × ((x + 1) * 2 ^ (cond b 7 8 - 1) ≤ 256)
    go true = omega arith
    go false = omega arith

-- the last byte, FF or not
last_ff : (c : ℕ) → c ≡ 255 → last_bytes c ≡ c ∷ 0 ∷ []
unfolding last_bytes
last_ff c h = ap (λ (z : List ℕ). c ∷ z) (if-eq c 255 _ _ h)

last_other : (c : ℕ) → c ≢ 255 → last_bytes c ≡ c ∷ []
unfolding last_bytes
last_other c h = ap (λ (z : List ℕ). c ∷ z) (if-ne c 255 _ _ h)

-- ---- all bits

-- reading bs from b ends where nothing is cut short and n bytes are taken
pub record BitsRead (s : List ℕ) (b : Bio) (bs : List ℕ) (n : ℕ) : Type 0 where
  pub end : Bio
  pub reads : Reads s b bs end
  pub whole : ends_in_ff s end ≡ false
  pub taken : bytes_taken s end ≡ n
  pub inside : end.bp ≤ length s

one_more : (s : List ℕ) (b c : Bio) (x : ℕ) (xs : List ℕ) (n m : ℕ) → b.ct < 8 → get_bit s b ≡ record { value = x; bio = c }
    → BitsRead s c xs n → n ≡ m → BitsRead s b (x ∷ xs) m
one_more s b c x xs n m h e g q =
    record {
      end = g.end;
      reads = (h, ap (λ (z : Decoded). z.value) e, rw (ap (λ (z : Decoded). z.bio) e) g.reads);
      whole = g.whole;
      taken = g.taken ∙ q;
      inside = g.inside;
    }

module _ (s t : List ℕ) where
  -- the byte at p, where the bytes from p on are packed
  byte_at : (p a k : ℕ) (bs : List ℕ) → AreBits bs → (a + 1) * 2 ^ k ≤ 256 → drop p s ≡ pack_from a k bs ++ t
      → (l : ℕ) × (get_or s p 0 ≡ a * 2 ^ k + l) × (l < 2 ^ k) × (get_or s p 0 < 256) × (p < length s)
  byte_at p a k bs h w e =
      let r = first_byte a k bs h in
      let f = drop_head s p (a * 2 ^ k + r.low) (r.rest ++ t) 0 (e ∙ ap (λ (z : List ℕ). z ++ t) r.is) in
      (r.low, f.1, r.small, omega (arith, r.small, f.1), f.0)

  no_bits_left : (p u a k : ℕ) → k < 8 → u % 256 ≡ get_or s p 0 → drop p s ≡ pack_from a k [] ++ t
      → BitsRead s (bio_with (suc p) u k) [] (p + length (pack_from a k []))
  unfolding pack_from ends_in_ff bytes_taken in_ff
  no_bits_left p u a k i low e =
      let c : ℕ = a * 2 ^ k in
      on-eq c 255
      (λ h. let g = last_ff c h in
      let f = drop_head s p c (0 ∷ t) 0 (e ∙ ap (λ (z : List ℕ). z ++ t) g) in
      let f₂ = drop_head s (suc p) 0 t 0 f.2 in
      let ff : eqb (u % 256) 255 ≡ true = eq-eqb (u % 256) 255 (low ∙ f.1 ∙ h) in
      record {
        end = bio_with (suc p) u k;
        reads = (omega arith, refl);
        whole = rw ff (ne_eqb (suc p) (length s) (omega (arith, f₂.0)));
        taken = rw (g, ff) (omega arith);
        inside = omega (arith, f.0);
      })
      (λ h. let g = last_other c h in
      let f = drop_head s p c t 0 (e ∙ ap (λ (z : List ℕ). z ++ t) g) in
      let ff : eqb (u % 256) 255 ≡ false = ne_eqb (u % 256) 255 (omega (arith, low, f.1)) in
      record {
        end = bio_with (suc p) u k;
        reads = (omega arith, refl);
        whole = rw ff refl;
        taken = rw (g, ff) (omega (arith, f.0));
        inside = omega (arith, f.0);
      })

  -- a byte is taken, and its first bit is x
  byte_taken : (q u x : ℕ) (xs : List ℕ) → x < 2 → AreBits xs → drop q s ≡ pack_from x (span (u % 256) - 1) xs ++ t
      → (get_bit s (bio_with q u 0) ≡ record { value = x; bio = bio_with (suc q) (u % 256 * 256 + get_or s q 0) (span (u % 256) - 1) })
      × (span (u % 256) - 1 < 8) × ((x + 1) * 2 ^ (span (u % 256) - 1) ≤ 256) × ((u % 256 * 256 + get_or s q 0) % 256 ≡ get_or s q 0)
  byte_taken q u x xs hx h e =
      let k : ℕ = span (u % 256) - 1 in
      let nb : (k < 8) × ((x + 1) * 2 ^ k ≤ 256) = new_byte (u % 256) x hx in
      let f = byte_at q x k xs h nb.1 e in
      let word : ℕ = u % 256 * 256 + get_or s q 0 in
      let m : word % 256 ≡ get_or s q 0 = omega (arith, f.3) in
      let v : word / 2 ^ k % 2 ≡ x = bit_of word (7 - k) k x (omega (arith, nb.0)) (m ∙ f.1) f.2 ∙ omega arith in
      (get_next s q u f.4 ∙ ap (λ (z : ℕ). record { value = z; bio = bio_with (suc q) word k }) v, nb.0, nb.1, m)

  bits_from : (bs : List ℕ) (p u a k : ℕ) → AreBits bs → k < 8 → (a + 1) * 2 ^ k ≤ 256 → u % 256 ≡ get_or s p 0 → drop p s
      ≡ pack_from a k bs ++ t
      → BitsRead s (bio_with (suc p) u k) bs (p + length (pack_from a k bs))
  unfolding pack_from
  bits_from [] p u a k h i w low e = no_bits_left p u a k i low e
  bits_from (x ∷ xs) p u a zero h i w low e =
      let f = drop_head s p a (pack_from x (span a - 1) xs ++ t) 0 e in
      let ua : u % 256 ≡ a = low ∙ f.1 in
      let n = byte_taken (suc p) u x xs h.0 h.1 (rw ua f.2) in
      let g = bits_from xs (suc p) (u % 256 * 256 + get_or s (suc p) 0) x (span (u % 256) - 1) h.1 n.1 n.2 n.3 (rw ua f.2) in
      one_more s (bio_with (suc p) u 0) _ x xs _ _ (omega arith) n.0 g (rw ua (omega arith))
  bits_from (x ∷ xs) p u a (suc k) h i w low e =
      let small : (a * 2 + x + 1) * 2 ^ k ≤ 256 = omega (arith, rw pow-suc at w, mul-le-mul_right (2 ^ k) (le_of_suc-le-suc h.0)) in
      let f = byte_at p (a * 2 + x) k xs h.1 small e in
      let g = bits_from xs p u (a * 2 + x) k h.1 (omega arith) small low e in
      let v : u / 2 ^ k % 2 ≡ x = bit_of u (7 - k) k (a * 2 + x) (omega arith) (low ∙ f.1) f.2 ∙ omega (arith, h.0) in
      one_more s (bio_with (suc p) u (suc k)) _ x xs _ _ (omega arith)
      (get_held s (suc p) u k ∙ ap (λ (z : ℕ). record { value = z; bio = bio_with (suc p) u k }) v) g refl

-- these are as many bits one after another
reads_takes : (s : List ℕ) (bs : List ℕ) (b e : Bio) → Reads s b bs e → Takes s (length bs) b e
reads_takes s [] b e r = subst (Takes s 0 b) r.1 (takes_none s b)
reads_takes s (x ∷ xs) b e r = one_then s (length xs) b e (reads_takes s xs (bio_after s b) e r.2)

pub none_past : (s : List ℕ) (b : Bio) (bs : List ℕ) (n : ℕ) (r : BitsRead s b bs n) → bits_past s b r.end ≡ 0
none_past s b bs n r = inside.none_past s (length bs) b r.end (reads_takes s bs b r.end r.reads) r.inside

pub packed-bits_read : (s t : List ℕ) (x : ℕ) (xs : List ℕ) (p : ℕ) → x < 2 → AreBits xs → drop p s ≡ pack (x ∷ xs) ++ t
    → BitsRead s (bio_at p) (x ∷ xs) (p + length (pack (x ∷ xs)))
unfolding pack_from
packed-bits_read s t x xs p hx h e =
    let q : pack (x ∷ xs) ≡ pack_from x 7 xs = pack-is (x ∷ xs) ∙ ap (λ (z : ℕ). pack_from z 7 xs) (zero-add x) in
    let e₁ : drop p s ≡ pack_from x 7 xs ++ t = e ∙ ap (λ (z : List ℕ). z ++ t) q in
    let n = byte_taken s t p 0 x xs hx h e₁ in
    let g = bits_from s t xs p (0 + get_or s p 0) x 7 h n.1 n.2 n.3 e₁ in
    one_more s (bio_at p) _ x xs _ _ (omega arith) n.0 g (rw q)

-- ---- past the input's end there are only zeros, so that there are no more ones than the input has bits

no_one_past : (s : List ℕ) (b : Bio) → b.ct ≡ 0 → length s ≤ b.bp → next_bit s b ≡ 1 → ⊥
unfolding get_bit held_bit byte_in
no_one_past s b z l e = go (eqb (b.buf * 256 % 65536) 65280) (rw (if-eq b.ct 0 (byte_in s b) b z, get_or-eq_default s 0 l) at e)
  where
    go : (f : Bool) → (b.buf * 256 % 65536 + 0) / 2 ^ (cond f 7 8 - 1) % 2 ≡ 1 → ⊥
    go true h = omega arith
    go false h = omega arith

one_fewer : (s : List ℕ) (b : Bio) → next_bit s b ≡ 1
    → 8 * (length s - (bio_after s b).bp) + (bio_after s b).ct + 1 ≤ 8 * (length s - b.bp) + b.ct
unfolding get_bit held_bit byte_in
one_fewer s b e =
    on-eq b.ct 0
    (λ z. on-lt b.bp (length s)
    (λ h. let m = byte_few (eqb (b.buf * 256 % 65536) 65280) in rw (if-eq b.ct 0 (byte_in s b) b z) (omega arith))
    (λ h. absurd (no_one_past s b z h e)))
    (λ z. rw (if-ne b.ct 0 (byte_in s b) b z) (omega arith))

pub ones_bounded : (s : List ℕ) (n : ℕ) (b e : Bio) → Reads s b (replicate n 1 ++ 0 ∷ []) e → n ≤ 8 * (length s - b.bp) + b.ct
ones_bounded s zero b e r = omega arith
ones_bounded s (suc n) b e r = let i = ones_bounded s n (bio_after s b) e r.2 in let f = one_fewer s b r.1 in omega arith
