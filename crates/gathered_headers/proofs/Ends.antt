-- Where the bits of an accepted read end, and the bytes that they take; and a marker that was found, in another input that has its bytes.
use mathlib.Core.Path.{◌≡◌, refl, sym, ◌∙◌, subst}
use mathlib.Core.Logic.{◌≢◌}
use mathlib.Core.Bool.{Bool, true, false, cond, ◌&&◌, true≢false}
use mathlib.Core.List.{List}
use Prim.Native.Nat.{ℕ, ◌+◌, ◌-◌, ◌%◌, ◌≤◌, ◌<◌, min}
use native.Mathlib.Omega.{arith}
use lib.ListN.{length, get_or}
use lib.Dec.{eqb, ltb}
use borrow.Author.Tests.{eqb-false, ne_eqb, le-ltb}
use Rattle.t800.specs.declared.Bio.{Bio}
use Rattle.t800.specs.declared.Markers.{Markers}
use Rattle.t800.specs.Bits.{Decoded, reach, bio_at, byte_in, held_bit, get_bit, in_ff, ends_in_ff, bytes_taken, bits_past}
use Rattle.t800.specs.Reports.{RecordForm}
use Rattle.t800.specs.MarkerSegments.{MarkerRead, read_marker}
use Rattle.t800.specs.Packet.{first_bit, header_of}
use Rattle.t800_laws.proofs.Laws.Tests.{if-eq, if-true, if-false, on-eq, on-lt, and_second}
use Rattle.bits_taken.specs.Taken.{Reached}
use Rattle.bits_taken.proofs.Laws.Counting.{header_in_reach, none_past_inside, from_start, no_ff_past}
use Rattle.past_end.specs.PastEnd.{last_bit}
use Rattle.past_end.proofs.AcceptedReads.{Accepted, not_ended}

-- ---- the end of the bits

-- a first bit 0 isn't in a byte FF
first_not_ff : (src : List ℕ) (start : ℕ) → (get_bit src (bio_at start)).value ≡ 0 → in_ff (get_bit src (bio_at start)).bio ≡ false
unfolding get_bit held_bit byte_in in_ff
first_not_ff src start z = ne_eqb ((0 + get_or src start 0) % 256) 255 (omega arith)

not_ff_not_ended : (src : List ℕ) (e : Bio) → in_ff e ≡ false → ends_in_ff src e ≡ false
unfolding ends_in_ff
not_ff_not_ended src e f = rw f

-- an accepted read doesn't end in FF at the input's end
pub read-end : (form : RecordForm) (state scratch : List ℕ) (m : Markers) (reports : List ℕ) (records : form.Lent) (src : List ℕ)
    → Accepted form state scratch m reports records src → ends_in_ff src (last_bit state m src (form.room records)) ≡ false
read-end form state scratch m reports records src a =
    let first : Decoded = first_bit m src in
    on-eq first.value 0
    (λ z. subst (λ (e : Bio). ends_in_ff src e ≡ false)
    (sym (if-eq first.value 0 first.bio (header_of state m src (form.room records)).bio z))
    (not_ff_not_ended src first.bio (first_not_ff src _ z)))
    (λ n. not_ended form state scratch m reports records src a n)

-- bits from `start` that end at e, not in FF at the input's end: they take bytes of the input only, and all of it where they go past it
pub record Ending (src : List ℕ) (start : ℕ) (e : Bio) : Type 0 where
  pub start-inside : start ≤ length src
  pub from : start ≤ e.bp
  pub in_reach : e.bp < length src + reach
  pub inside : e.bp ≤ length src → (e.bp ≤ bytes_taken src e) × (bytes_taken src e ≤ length src)
  pub in_ff_lem : in_ff e ≡ true → (bytes_taken src e ≡ e.bp + 1) × (e.bp < length src)
  pub behind : length src < e.bp → (bytes_taken src e ≡ length src) × (in_ff e ≡ false) × (bits_past src (bio_at start) e ≢ 0)

inside_by : (p n : ℕ) (t : Bool) → (t && eqb p n) ≡ false → p ≤ n → (p ≤ cond t (p + 1) (min p n)) × (cond t (p + 1) (min p n) ≤ n)
inside_by p n true f h = omega (arith, eqb-false p n f)
inside_by p n false f h = omega arith

pub ending : (src : List ℕ) (start : ℕ) (e : Bio) → Reached src start e → ends_in_ff src e ≡ false → Ending src start e
unfolding ends_in_ff bytes_taken
ending src start e r f = record {
  start-inside = r.inside;
  from = from_start src start e r;
  in_reach = header_in_reach src start e r;
  inside = λ h. inside_by e.bp (length src) (in_ff e) f h;
  in_ff_lem = λ g. (
    if-true (in_ff e) (e.bp + 1) (min e.bp (length src)) g,
    on-lt (length src) e.bp (λ h. absurd (true≢false (sym g ∙ no_ff_past src start e r h)))
        (λ h. omega (arith, eqb-false e.bp (length src) (and_second (in_ff e) (eqb e.bp (length src)) g f))),
  );
  behind = λ h. let g = no_ff_past src start e r h in (
    if-false (in_ff e) (e.bp + 1) (min e.bp (length src)) g ∙ omega arith,
    g,
    λ z. omega (arith, none_past_inside src start e r z),
  );
}

pub taken_between : (src : List ℕ) (start : ℕ) (e : Bio) → Ending src start e
    → (start ≤ bytes_taken src e) × (bytes_taken src e ≤ length src)
taken_between src start e g =
    on-lt (length src) e.bp (λ b. omega (arith, (g.behind b).0, g.start-inside))
    (λ i. omega (arith, (g.inside i).0, (g.inside i).1, g.from))

-- ---- a marker that was found

abbrev marker : (short matches : Bool) (size : ℕ) → MarkerRead
marker short matches size =
    cond short (record { skip = 0; mark = 1 }) (cond matches (record { skip = size; mark = 0 }) (record { skip = 0; mark = 2 }))

same_marker_by : (short matches short' matches' : Bool) (size : ℕ) → (marker short matches size).mark ≡ 0
    → ((marker short matches size).skip ≡ size → (short' ≡ false) × (matches' ≡ matches))
    → marker short' matches' size ≡ marker short matches size
same_marker_by true matches short' matches' size e h = absurd (omega arith)
same_marker_by false true short' matches' size e h = let g = h refl in rw (g.0, g.1)
same_marker_by false false short' matches' size e h = absurd (omega arith)

-- in src at p, and in the other input at q
pub marker_there : (used : Bool) (size second : ℕ) (src other : List ℕ) (p q : ℕ) → (read_marker used size second src p).mark ≡ 0
    → ((read_marker used size second src p).skip ≡ size
    → (q + size ≤ length other) × (get_or other q 0 ≡ get_or src p 0) × (get_or other (q + 1) 0 ≡ get_or src (p + 1) 0))
    → read_marker used size second other q ≡ read_marker used size second src p
unfolding read_marker
marker_there false size second src other p q e h = refl
marker_there true size second src other p q e h =
    same_marker_by (ltb (length src - p) size) (eqb (get_or src p 0) 0xff && eqb (get_or src (p + 1) 0) second)
    (ltb (length other - q) size) (eqb (get_or other q 0) 0xff && eqb (get_or other (q + 1) 0) second) size e
    (λ k. let g = h k in (le-ltb (length other - q) size (omega (arith, g.0)), rw (g.1, g.2)))
