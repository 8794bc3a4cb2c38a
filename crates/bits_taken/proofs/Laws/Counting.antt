-- The bits of a header, one after another: where they stand, and how many of them lie past the input's end.
use mathlib.Core.Path.{◌≡◌, refl, sym, ap, ◌∙◌, subst, subst₂}
use mathlib.Core.Logic.{◌≢◌}
use mathlib.Core.Bool.{Bool, true, false, cond, ◌&&◌, true≢false}
use mathlib.Core.List.{List}
use Prim.Native.Nat.{ℕ, zero, suc, ◌+◌, ◌-◌, ◌*◌, ◌%◌, ◌^◌, ◌≤◌, ◌<◌, max, min}
use native.Mathlib.Nat.{le_refl, zero-add, add-zero}
use native.Mathlib.Omega.{arith}
use lib.ListN.{length, get_or, get_or-eq_default}
use lib.Dec.{ltb, eqb}
use borrow.Author.Tests.{lt-ltb, le-ltb, eq-eqb, ne_eqb, eqb-true}
use Rattle.t800.specs.declared.Bio.{Bio}
use Rattle.t800.specs.Bits.{bio_at, reach, byte_in, held_bit, get_bit, in_ff, past_end, read_bit, bits_past_from, bits_past}
use Rattle.t800_laws.proofs.Laws.Tests.{if-true, if-false, if-eq, if-ne, on-eq, on-lt}
use Rattle.bits_taken.specs.Taken.{after_bits, flagged, Reached, stuffed_past}
use Rattle.bits_taken.proofs.Laws.Taken.{byte_few, bit_few, takes_few}
use Rattle.bits_taken.proofs.Laws.Inside.{there}

-- ---- one bit

-- the byte before the next one is FF
abbrev after_ff : Bio → Bool
after_ff b = eqb (b.buf * 256 % 65536) 0xff00

-- after one more bit of the held byte, and after the first bit of the next one
abbrev in_held : Bio → Bio
in_held b = record { bp = b.bp; buf = b.buf; ct = b.ct - 1 }

abbrev in_next : (src : List ℕ) → Bio → Bio
in_next src b = record { bp = b.bp + 1; buf = b.buf * 256 % 65536 + get_or src b.bp 0; ct = cond (after_ff b) 7 8 - 1 }

-- what holds after either holds after a bit
on_bit : (P : Bio → Type 0) (src : List ℕ) (b : Bio) → b.bp < length src + reach → (b.ct ≢ 0 → P (in_held b))
    → (b.ct ≡ 0 → P (in_next src b))
    → P (get_bit src b).bio
unfolding get_bit held_bit byte_in
on_bit P src b h f g =
    let m : max b.bp (min (b.bp + 1) (length src + 2 ^ 40)) ≡ b.bp + 1 = omega arith in
    on-eq b.ct 0 (λ z. rw (if-eq b.ct 0 (byte_in src b) b z, m) (g z)) (λ z. rw (if-ne b.ct 0 (byte_in src b) b z) (f z))

bit_place : (src : List ℕ) (b : Bio) → b.bp < length src + reach → (get_bit src b).bio.bp ≤ b.bp + 1
bit_place src b h = on_bit (λ (c : Bio). c.bp ≤ b.bp + 1) src b h (λ z. omega arith) (λ z. omega arith)

-- rises with every bit, by more than one where a bit is stuffed
abbrev pub bits_up_to : Bio → ℕ
bits_up_to b = 8 * b.bp + (8 - b.ct)

bit_rises : (src : List ℕ) (b : Bio) → b.ct ≤ 8 → b.bp < length src + reach → bits_up_to b < bits_up_to (get_bit src b).bio
bit_rises src b few h =
    on_bit (λ (c : Bio). bits_up_to b < bits_up_to c) src b h (λ z. omega arith) (λ z. omega (arith, byte_few (after_ff b)))

-- ---- n bits one after another, to a place in reach

pub bit_forward : (src : List ℕ) (b : Bio) → b.bp ≤ (get_bit src b).bio.bp
unfolding get_bit held_bit byte_in
bit_forward src b =
    on-eq b.ct 0 (λ z. rw (if-eq b.ct 0 (byte_in src b) b z) (omega arith)) (λ z. rw (if-ne b.ct 0 (byte_in src b) b z) (omega arith))

after_forward : (src : List ℕ) (n : ℕ) (b : Bio) → b.bp ≤ (after_bits src n b).bp
unfolding after_bits
after_forward src zero b = omega arith
after_forward src (suc n) b = omega (arith, bit_forward src b, after_forward src n (get_bit src b).bio)

pub after_rises : (src : List ℕ) (n : ℕ) (b : Bio) → b.ct ≤ 8 → (after_bits src n b).bp < length src + reach
    → bits_up_to b + n ≤ bits_up_to (after_bits src n b)
unfolding after_bits
after_rises src zero b few h = omega arith
after_rises src (suc n) b few h =
    let c : Bio = (get_bit src b).bio in
    let near : b.bp < length src + reach = omega (arith, bit_forward src b, after_forward src n c) in
    omega (arith, bit_rises src b few near, after_rises src n c (omega (arith, bit_few src b few)) h)

-- ---- n bits, too few to leave the reach

abbrev InReach : (src : List ℕ) (n : ℕ) → Bio → Type 0
InReach src n b = b.bp + n ≤ length src + 2 ^ 39

reach-after : (src : List ℕ) (n : ℕ) (b : Bio) → InReach src (suc n) b → InReach src n (get_bit src b).bio
reach-after src n b h = omega (arith, bit_place src b (omega arith))

after_place : (src : List ℕ) (n : ℕ) (b : Bio) → InReach src n b → (after_bits src n b).bp ≤ b.bp + n
unfolding after_bits
after_place src zero b h = omega arith
after_place src (suc n) b h =
    omega (arith, bit_place src b (omega arith), after_place src n (get_bit src b).bio (reach-after src n b h))

-- ---- the count is that of the flagged bits

not_yet : (b e : Bio) → bits_up_to b < bits_up_to e → (eqb b.bp e.bp && eqb b.ct e.ct) ≡ false
not_yet b e h = go (eqb b.bp e.bp) (eqb b.ct e.ct) refl refl
  where
    go : (p c : Bool) → eqb b.bp e.bp ≡ p → eqb b.ct e.ct ≡ c → (p && c) ≡ false
    go true true p c = absurd (omega (arith, eqb-true b.bp e.bp p, eqb-true b.ct e.ct c))
    go true false p c = refl
    go false c p q = refl

counts_flagged : (src : List ℕ) (n bound : ℕ) (b : Bio) → b.ct ≤ 8 → InReach src n b → n ≤ bound
    → bits_past_from src bound b (after_bits src n b) ≡ flagged src n b
unfolding after_bits flagged bits_past_from read_bit
counts_flagged src zero zero b few h m = refl
counts_flagged src zero (suc bound) b few h m = if-true _ _ _ (there b)
counts_flagged src (suc n) zero b few h m = absurd (omega arith)
counts_flagged src (suc n) (suc bound) b few h m =
    let c : Bio = (get_bit src b).bio in
    let small : c.ct ≤ 8 = omega (arith, bit_few src b few) in
    let near = reach-after src n b h in
    let more : bits_up_to b < bits_up_to (after_bits src n c) =
    omega (arith, bit_rises src b few (omega arith), after_rises src n c small (omega (arith, after_place src n c near))) in
    if-false _ _ _ (not_yet b (after_bits src n c) more)
    ∙ ap (λ (k : ℕ). cond (past_end src c) 1 0 + k) (counts_flagged src n bound c small near (omega arith))

-- ---- what the place says of the count

low-byte_moved : (u : ℕ) → u * 256 % 65536 ≡ u % 256 * 256
low-byte_moved u = omega arith

-- whatever was held before
ff_moved_in : (u x : ℕ) → eqb ((u * 256 % 65536 + x) * 256 % 65536) 0xff00 ≡ eqb (x % 256) 255
ff_moved_in u x =
    let held : ℕ = u * 256 % 65536 + x in
    let low : held % 256 ≡ x % 256 = omega arith in
    let moved : held * 256 % 65536 ≡ x % 256 * 256 = low-byte_moved held ∙ ap (λ (y : ℕ). y * 256) low in
    on-eq (x % 256) 255 (λ e. eq-eqb (held * 256 % 65536) 0xff00 (moved ∙ ap (λ (y : ℕ). y * 256) e) ∙ sym (eq-eqb (x % 256) 255 e))
    (λ e. ne_eqb (held * 256 % 65536) 0xff00 (λ q. omega (arith, sym moved ∙ q)) ∙ sym (ne_eqb (x % 256) 255 e))

first_past : (f : Bool) → cond f 7 8 - 1 + cond f 1 0 ≡ 7
first_past true = refl
first_past false = refl

-- so many of a header's bits up to here are flagged
record Counted (src : List ℕ) (start count : ℕ) (b : Bio) : Type 0 where
  from : start ≤ b.bp
  inside : b.bp ≤ length src → (count ≡ 0) × (after_ff b ≡ (ltb start b.bp && eqb (get_or src (b.bp - 1) 0 % 256) 255))
  past : length src < b.bp
      → (1 ≤ count) × (count + b.ct + stuffed_past src start ≡ 8 * (b.bp - length src)) × (after_ff b ≡ false)

module _ (src : List ℕ) (start : ℕ) where
  stuffed_is : (count : ℕ) (b : Bio) → Counted src start count b → b.bp ≡ length src → stuffed_past src start ≡ cond (after_ff b) 1 0
  unfolding stuffed_past
  stuffed_is count b g e =
      ap (λ (p : ℕ). cond (ltb start p && eqb (get_or src (p - 1) 0 % 256) 255) 1 0) (sym e)
      ∙ ap (λ (f : Bool). cond f 1 0) (sym (g.inside (omega arith)).1)

  counted-held : (count : ℕ) (b : Bio) → Counted src start count b → b.ct ≢ 0
      → Counted src start (cond (past_end src (in_held b)) 1 0 + count) (in_held b)
  unfolding past_end
  counted-held count b g z = record {
    from = g.from;
    inside = λ h. let i = g.inside h in (rw (le-ltb (length src) b.bp h) (omega (arith, i.0)), i.1);
    past = λ h. let p = g.past h in rw (lt-ltb (length src) b.bp h) (omega arith, omega (arith, p.1), p.2);
  }

  counted_next : (count : ℕ) (b : Bio) → Counted src start count b → b.ct ≡ 0
      → Counted src start (cond (past_end src (in_next src b)) 1 0 + count) (in_next src b)
  unfolding past_end
  counted_next count b g z = record {
    from = omega (arith, g.from);
    inside = λ h.
        let here : b.bp + 1 - 1 ≡ b.bp = omega arith in (
          rw (le-ltb (length src) (b.bp + 1) h) (omega (arith, (g.inside (omega arith)).0)),
          rw (lt-ltb start (b.bp + 1) (omega (arith, g.from)), here) (ff_moved_in b.buf (get_or src b.bp 0)),
        );
    past = λ h.
        let zero_in : get_or src b.bp 0 ≡ 0 = get_or-eq_default src 0 (omega arith) in
        rw (lt-ltb (length src) (b.bp + 1) h) (
          omega arith,
          on-lt (length src) b.bp (beyond h) (first h),
          ff_moved_in b.buf (get_or src b.bp 0) ∙ ne_eqb (get_or src b.bp 0 % 256) 255 (omega arith),
        );
  }
    where
      first : length src < b.bp + 1 → b.bp ≤ length src
          → 1 + count + (cond (after_ff b) 7 8 - 1) + stuffed_past src start ≡ 8 * (b.bp + 1 - length src)
      first h l =
          let e : b.bp ≡ length src = omega arith in
          omega (arith, (g.inside l).0, stuffed_is count b g e, first_past (after_ff b))

      beyond : length src < b.bp + 1 → length src < b.bp
          → 1 + count + (cond (after_ff b) 7 8 - 1) + stuffed_past src start ≡ 8 * (b.bp + 1 - length src)
      beyond h l = let p = g.past l in rw p.2 (omega (arith, p.1))

  counted-after : (n count : ℕ) (b : Bio) → Counted src start count b → InReach src n b
      → Counted src start (flagged src n b + count) (after_bits src n b)
  unfolding after_bits flagged read_bit
  counted-after zero count b g h = subst (λ (k : ℕ). Counted src start k b) (sym (zero-add count)) g
  counted-after (suc n) count b g h =
      let c : Bio = (get_bit src b).bio in
      let one : ℕ = cond (past_end src c) 1 0 in
      let on : Counted src start (one + count) c =
      on_bit (λ (e : Bio). Counted src start (cond (past_end src e) 1 0 + count) e) src b (omega arith) (counted-held count b g)
      (counted_next count b g) in
      subst (λ (k : ℕ). Counted src start k (after_bits src n c)) (omega arith) (counted-after n (one + count) c on (reach-after src n b h))

  counted-header : (n : ℕ) → start ≤ length src → n ≤ 2 ^ 39
      → Counted src start (flagged src n (bio_at start)) (after_bits src n (bio_at start))
  counted-header n h m =
      subst (λ (k : ℕ). Counted src start k (after_bits src n (bio_at start))) (add-zero (flagged src n (bio_at start)))
      (counted-after n 0 (bio_at start) none (omega arith))
    where
      none : Counted src start 0 (bio_at start)
      none = record {
        from = le_refl start;
        inside = λ g. (refl, rw (le-ltb start start (le_refl start)) refl);
        past = λ g. absurd (omega arith);
      }

  -- ---- the header that begins at `start`

  module _ (e : Bio) (r : Reached src start e) where
    pub header_in_reach : e.bp < length src + reach
    header_in_reach =
        let i = r.inside in
        let m = r.takes.few in
        let p : e.bp ≡ (after_bits src r.takes.bits (bio_at start)).bp = ap (λ (b : Bio). b.bp) r.takes.ends in
        omega (arith, after_place src r.takes.bits (bio_at start) (omega arith))

    pub reached_few : e.ct ≤ 8
    reached_few = takes_few src (2 ^ 39) (bio_at start) e r.takes (omega arith)

    pub counted : bits_past src (bio_at start) e ≡ flagged src r.takes.bits (bio_at start)
    unfolding bits_past
    counted =
        let n : ℕ = r.takes.bits in
        let i = r.inside in
        let m : n ≤ 2 ^ 39 = r.takes.few in
        let few = reached_few in
        let rise : 8 * start + 8 + n ≤ bits_up_to e =
        subst (λ (b : Bio). 8 * start + 8 + n ≤ bits_up_to b) (sym r.takes.ends)
        (after_rises src n (bio_at start) (omega arith) (omega (arith, after_place src n (bio_at start) (omega arith)))) in
        ap (bits_past_from src (8 * (e.bp - start)) (bio_at start)) r.takes.ends
        ∙ counts_flagged src n (8 * (e.bp - start)) (bio_at start) (omega arith) (omega arith) (omega arith)

    counted-here : Counted src start (bits_past src (bio_at start) e) e
    counted-here =
        subst₂ (Counted src start) (sym counted) (sym r.takes.ends) (counted-header r.takes.bits r.inside r.takes.few)

    pub none_past_inside : bits_past src (bio_at start) e ≡ 0 → e.bp ≤ length src
    none_past_inside z = on-lt (length src) e.bp (λ h. absurd (omega (arith, (counted-here.past h).0))) (λ h. h)

    pub some_past : length src < e.bp → bits_past src (bio_at start) e + e.ct + stuffed_past src start ≡ 8 * (e.bp - length src)
    some_past h = (counted-here.past h).1

    pub from_start : start ≤ e.bp
    from_start = counted-here.from

    -- the last bit lies in a byte 0 then
    pub no_ff_past : length src < e.bp → in_ff e ≡ false
    unfolding in_ff
    no_ff_past h =
        ne_eqb (e.buf % 256) 255
        (λ q. true≢false (sym (eq-eqb (e.buf * 256 % 65536) 0xff00 (low-byte_moved e.buf ∙ ap (λ (y : ℕ). y * 256) q))
        ∙ (counted-here.past h).2))
