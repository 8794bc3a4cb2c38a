-- The definition of unpacked segments, by places of the whole list.
use Prim.Native.Nat.{ℕ, zero, suc, ◌+◌, ◌-◌, ◌*◌, ◌<◌, ◌≤◌}
use mathlib.Core.Path.{◌≡◌, ap, sym, ◌∙◌, refl}
use mathlib.Core.Bool.{true, false, cond, ◌||◌, not}
use mathlib.Core.List.{[], ◌++◌}
use native.Mathlib.Nat.{add-zero}
use native.Mathlib.Omega.{arith}
use lib.ListN.{length, get_or, take, drop, length-drop}
use lib.Seq.{get_or-drop, drop-drop}
use lib.Dec.{ltb, eqb}
use borrow.Author.Tests.{ltb-false, lt-ltb, le-ltb}
use Rattle.t800.specs.Base.{Bytes}
use Rattle.t800.specs.Refusals.{packed_refusal}
use Rattle.t800.specs.PackedHeaders.{Unpacked, bad_segment, unpacked_from}
use Rattle.t800_laws.proofs.Laws.Tests.{on-lt, if-eq, if-ne, if-true, if-false, or_left, or_right}
use Rattle.t2_unpack_headers.specs.Segments.{field_at, held_at, bad_at, unpacked_at}

abbrev pub told : (refusal : ℕ) (bytes : Bytes) → Unpacked
told refusal bytes = record { refusal = refusal; bytes = bytes }

-- ---- bounds

-- one segment of the definition, with what is behind it
one : (index : ℕ) (segments : Bytes) (later : Unpacked) → Unpacked
one index segments later =
    let field = get_or segments 2 0 * 256 + get_or segments 3 0 in
    cond (eqb (length segments) 0) (told 0 [])
    (cond (bad_segment index segments) (told packed_refusal []) (told later.refusal (take (field - 3) (drop 5 segments) ++ later.bytes)))

any_bound : (a b index : ℕ) (segments : Bytes) → length segments ≤ a → length segments ≤ b
    → unpacked_from a index segments ≡ unpacked_from b index segments
unfolding unpacked_from one
any_bound zero zero index segments h k = refl
any_bound zero (suc b) index segments h k = sym (if-eq (length segments) 0 _ _ (omega arith))
any_bound (suc a) zero index segments h k = if-eq (length segments) 0 _ _ (omega arith)
any_bound (suc a) (suc b) index segments h k =
    let size = 2 + (get_or segments 2 0 * 256 + get_or segments 3 0) in
    let fewer : length (drop size segments) ≡ length segments - size = length-drop size segments in
    ap (one index segments) (any_bound a b (index + 1) (drop size segments) (omega arith) (omega arith))

-- ---- one segment at a place

bad_at_lem : (segments : Bytes) (index at : ℕ) → bad_segment index (drop at segments) ≡ bad_at segments index at
unfolding bad_segment bad_at
bad_at_lem segments index at = simp (length-drop, get_or-drop, add-zero)

-- one segment at a place, with what is behind it
one_at : (segments : Bytes) (index at : ℕ) → at < length segments
    → unpacked_at segments index at
    ≡ cond (bad_at segments index at) (told packed_refusal [])
    (told (unpacked_at segments (index + 1) (at + (2 + field_at segments at))).refusal
    (take (held_at segments at) (drop (at + 5) segments) ++ (unpacked_at segments (index + 1) (at + (2 + field_at segments at))).bytes))
unfolding unpacked_from
one_at segments index at h =
    let rest = drop at segments in
    let n : length rest ≡ length segments - at = length-drop at segments in
    any_bound (length segments) (suc (length segments)) index rest (omega arith) (omega arith)
    ∙ if-ne (length rest) 0 _ _ (omega arith)
    ∙ simp (bad_at_lem, get_or-drop, drop-drop)

pub bad_here : (segments : Bytes) (index at : ℕ) → at < length segments → bad_at segments index at ≡ true
    → unpacked_at segments index at ≡ told packed_refusal []
bad_here segments index at h b = one_at segments index at h ∙ if-true (bad_at segments index at) _ _ b

pub good_here : (segments : Bytes) (index at : ℕ) → at < length segments → bad_at segments index at ≡ false
    → unpacked_at segments index at
    ≡ told (unpacked_at segments (index + 1) (at + (2 + field_at segments at))).refusal
    (take (held_at segments at) (drop (at + 5) segments) ++ (unpacked_at segments (index + 1) (at + (2 + field_at segments at))).bytes)
good_here segments index at h b = one_at segments index at h ∙ if-false (bad_at segments index at) _ _ b

pub none_here : (segments : Bytes) (index at : ℕ) → length segments ≤ at → unpacked_at segments index at ≡ told 0 []
unfolding unpacked_from
none_here segments index at h =
    let n : length (drop at segments) ≡ length segments - at = length-drop at segments in
    any_bound (length segments) 0 index (drop at segments) (omega arith) (omega arith)

-- a segment that is right has its bytes, and one byte of a header at least
pub good_size : (segments : Bytes) (index at : ℕ) → bad_at segments index at ≡ false
    → (2 + field_at segments at ≤ length segments - at) × (4 ≤ field_at segments at)
unfolding bad_at
good_size segments index at b =
    let short = ltb (length segments - at) (2 + field_at segments at) in
    let low = ltb (field_at segments at) 4 in
    let first = not (eqb (get_or segments at 0) 0xff) in
    let second = not (eqb (get_or segments (at + 1) 0) 0x61) in
    let other = not (eqb (get_or segments (at + 4) 0) index) in
    let sizes : (short || low) ≡ false =
    or_left (short || low) first (or_left (short || low || first) second (or_left (short || low || first || second) other b)) in (
      ltb-false (length segments - at) (2 + field_at segments at) (or_left short low sizes),
      ltb-false (field_at segments at) 4 (or_right short low sizes),
    )

-- less than six bytes are no segment
pub too_short : (segments : Bytes) (index at : ℕ) → length segments - at < 6 → bad_at segments index at ≡ true
unfolding bad_at
too_short segments index at h =
    on-lt (length segments - at) (2 + field_at segments at)
    (λ l. simp (lt-ltb (length segments - at) (2 + field_at segments at) l))
    (λ l. simp (le-ltb (length segments - at) (2 + field_at segments at) l, lt-ltb (field_at segments at) 4 (omega arith)))
