-- What is written from the start and flushed is t800's `pack`: byte by byte where the output has room, and nothing else of it changes.
use mathlib.Core.Path.{◌≡◌, refl, sym, ap, ◌∙◌, subst}
use mathlib.Core.Bool.{Bool, true, false, cond}
use mathlib.Core.List.{List, [], ◌∷◌}
use Prim.Native.Nat.{ℕ, zero, suc, ◌+◌, ◌-◌, ◌*◌, ◌%◌, ◌^◌, ◌≤◌, ◌<◌, min}
use native.Mathlib.Omega.{arith}
use lib.Dec.{eqb, ltb}
use lib.ListN.{length, set, length-set}
use lib.Seq.{sets, set_out}
use borrow.Author.Tests.{eq-eqb, ne_eqb, eqb-true, eqb-false, ltb-true, ltb-false}
use Rattle.t800.specs.Bits.{bits_after, last_bytes, pack_from, pack}
use Rattle.t800_laws.proofs.Laws.Pack.{AreBits}
use Rattle.bio_bytes.specs.Writing.{Output, output, empty_at, last_place, place_after, byte_out, make_room, hold_bit, put_bit, put_bits}
use Rattle.bio_bytes.specs.Writing.{flush, FreeBitsClear}
use Rattle.bio_bytes.proofs.Laws.HeldWord.{bio_of}
use Rattle.bio_write.proofs.Laws.FreeBits.{empty_at-clear, put_bit-clear}
use Rattle.bio_write.proofs.Laws.WriteChunks.{put_held}

-- ---- a held byte with free bits that are 0 takes a bit

-- at each of its eight places
byte_takes : (c u x : ℕ) → c < 8 → u % 2 ^ suc c ≡ 0 → x < 2 → (u + x * 2 ^ c) % 256 ≡ u % 256 + x * 2 ^ c
byte_takes zero u x l e h = omega arith
byte_takes (suc zero) u x l e h = omega arith
byte_takes (suc (suc zero)) u x l e h = omega arith
byte_takes (suc (suc (suc zero))) u x l e h = omega arith
byte_takes (suc (suc (suc (suc zero)))) u x l e h = omega arith
byte_takes (suc (suc (suc (suc (suc zero))))) u x l e h = omega arith
byte_takes (suc (suc (suc (suc (suc (suc zero)))))) u x l e h = omega arith
byte_takes (suc (suc (suc (suc (suc (suc (suc zero))))))) u x l e h = omega arith
byte_takes (suc (suc (suc (suc (suc (suc (suc (suc c)))))))) u x l e h = absurd (omega arith)

-- ---- bytes stored from p on

-- the output e is o with the bytes from p on, where it has room for them, and its place is after them
pub record Stores (e : Output) (o : List ℕ) (p : ℕ) (bytes : List ℕ) : Type 0 where
  pub stored : e.bytes ≡ sets o p bytes
  pub place : e.bio.bp ≡ min (p + length bytes) last_place

sets_out : (vs l : List ℕ) (i : ℕ) → length l ≤ i → sets l i vs ≡ l
sets_out [] l i h = refl
sets_out (v ∷ vs) l i h =
    let e = set_out l i v h in
    let n = length-set l i v in
    sets_out vs (set l i v) (suc i) (omega arith) ∙ e

-- a place that doesn't move on lies past the output
sets_after : (vs o : List ℕ) (p : ℕ) (t : Bool) → ltb p last_place ≡ t → length o ≤ last_place → sets o (place_after p) vs ≡ sets o (suc p) vs
unfolding place_after
sets_after vs o p true e l =
    let h = ltb-true p last_place e in
    let q : min (p + 1) last_place ≡ suc p = omega arith in
    ap (λ (i : ℕ). sets o i vs) q
sets_after vs o p false e l =
    let h = ltb-false p last_place e in
    sets_out vs o (min (p + 1) last_place) (omega arith) ∙ sym (sets_out vs o (suc p) (omega arith))

-- one byte, and those after it
stores_cons : (e : Output) (o : List ℕ) (p v : ℕ) (vs : List ℕ) → length o ≤ last_place → Stores e (set o p v) (place_after p) vs
    → Stores e o p (v ∷ vs)
unfolding place_after
stores_cons e o p v vs l s =
    let n = length-set o p v in
    let b = s.place in
    record { stored = s.stored ∙ sets_after vs (set o p v) p (ltb p last_place) refl (omega arith); place = omega arith }

-- ---- the last byte

moved_ff : (u : ℕ) (t : Bool) → eqb (u % 256) 255 ≡ t → eqb (u * 256 % 65536) 0xff00 ≡ t
moved_ff u true e = let h = eqb-true (u % 256) 255 e in eq-eqb (u * 256 % 65536) 0xff00 (omega arith)
moved_ff u false e =
    let h = eqb-false (u % 256) 255 e in
    let m : u * 256 % 65536 ≡ u % 256 * 256 = omega arith in
    rw m (ne_eqb (u % 256 * 256) 0xff00 (omega arith))

flush-by : (o : List ℕ) (p u c : ℕ) (t : Bool) → eqb (u % 256) 255 ≡ t → length o ≤ last_place
    → Stores (flush (output o (bio_of p u c))) o p (u % 256 ∷ cond t (0 ∷ []) [])
unfolding flush byte_out place_after
flush-by o p u c true e l =
    let m = moved_ff u true e in
    let z : u * 256 % 65536 % 256 ≡ 0 = omega arith in
    stores_cons (flush (output o (bio_of p u c))) o p (u % 256) (0 ∷ []) l (record { stored = simp (m, z); place = simp m (omega arith) })
flush-by o p u c false e l =
    let m = moved_ff u false e in
    stores_cons (flush (output o (bio_of p u c))) o p (u % 256) [] l (record { stored = simp m; place = simp m (omega arith) })

flush-stores : (o : List ℕ) (p u c : ℕ) → length o ≤ last_place → Stores (flush (output o (bio_of p u c))) o p (last_bytes (u % 256))
unfolding last_bytes
flush-stores o p u c l = flush-by o p u c (eqb (u % 256) 255) refl l

-- ---- bits

-- a full byte goes out, and the bit x into the next
out_then_held : (o : List ℕ) (p u x : ℕ) (t : Bool) → eqb (u % 256) 255 ≡ t
    → put_bit (output o (bio_of p u 0)) x
    ≡ output (set o p (u % 256)) (bio_of (place_after p) (u * 256 % 65536 + x * 2 ^ (cond t 7 8 - 1)) (cond t 7 8 - 1))
unfolding put_bit make_room byte_out hold_bit
out_then_held o p u x t e = simp (moved_ff u t e)

first_bit : (t : Bool) (u x : ℕ) → x < 2 → (u * 256 % 65536 + x * 2 ^ (cond t 7 8 - 1)) % 256 ≡ x * 2 ^ (cond t 7 8 - 1)
first_bit true u x h = omega arith
first_bit false u x h = omega arith

-- all that is put and flushed is what `pack_from` makes of the held byte and the bits
stores_packed : (bits o : List ℕ) (p u c : ℕ) → FreeBitsClear (bio_of p u c) → AreBits bits → length o ≤ last_place
    → Stores (flush (put_bits (output o (bio_of p u c)) bits)) o p (pack_from (u % 256) c bits)
unfolding put_bits pack_from bits_after
stores_packed [] o p u c h are l = flush-stores o p u c l
stores_packed (x ∷ xs) o p u zero h are l =
    let t = eqb (u % 256) 255 in
    let k = cond t 7 8 - 1 in
    let o' = set o p (u % 256) in
    let p' = place_after p in
    let u' = u * 256 % 65536 + x * 2 ^ k in
    let q = out_then_held o p u x t refl in
    let n = length-set o p (u % 256) in
    let clear = subst (λ (e : Output). FreeBitsClear e.bio) q (put_bit-clear (output o (bio_of p u 0)) x h) in
    let rest = stores_packed xs o' p' u' k clear are.1 (omega arith) in
    let packed = subst (λ (v : ℕ). Stores (flush (put_bits (output o' (bio_of p' u' k)) xs)) o' p' (pack_from v k xs))
    (first_bit t u x are.0) rest in
    stores_cons (flush (put_bits (output o (bio_of p u 0)) (x ∷ xs))) o p (u % 256) (pack_from (x * 2 ^ k) k xs) l (rw q packed)
stores_packed (x ∷ xs) o p u (suc c) h are l =
    let u' = u + x * 2 ^ c in
    let q = put_held o p u c x in
    let few = h.at_most_eight in
    let clear = subst (λ (e : Output). FreeBitsClear e.bio) q (put_bit-clear (output o (bio_of p u (suc c))) x h) in
    let rest = stores_packed xs o p u' c clear are.1 l in
    let packed = subst (λ (v : ℕ). Stores (flush (put_bits (output o (bio_of p u' c)) xs)) o p (pack_from v c xs))
    (byte_takes c u x (omega arith) h.clear are.0) rest in
    rw q packed

-- ---- from the start

-- Bits that are put from the start at p and flushed store `pack bits` from p on, and end after it.
pub flushed_is_packed : (bytes : List ℕ) (p : ℕ) (bits : List ℕ) → AreBits bits → length bytes ≤ last_place
    → Stores (flush (put_bits (output bytes (empty_at p)) bits)) bytes p (pack bits)
unfolding pack
flushed_is_packed bytes p bits are l = stores_packed bits bytes p 0 8 (empty_at-clear p) are l

-- the place after them, if there is one
module _ (bytes : List ℕ) (p : ℕ) (bits : List ℕ) (are : AreBits bits) (l : length bytes ≤ last_place) where
  pub packed-place : p + length (pack bits) ≤ last_place → (flush (put_bits (output bytes (empty_at p)) bits)).bio.bp ≡ p + length (pack bits)
  packed-place h = omega (arith, (flushed_is_packed bytes p bits are l).place)
