-- Right segments from a place on.
use Prim.Native.Nat.{ℕ, ◌+◌, ◌<◌, ◌≤◌}
use mathlib.Core.Path.{◌≡◌, ap, sym, ◌∙◌, refl}
use mathlib.Core.Bool.{false}
use mathlib.Core.List.{[], ◌++◌}
use native.Mathlib.Omega.{arith}
use lib.ListN.{length, take, drop, length-drop}
use lib.Seq.{drop_at, drop-drop, length-take-le}
use Rattle.t800.specs.Base.{Bytes}
use Rattle.t800.specs.PackedHeaders.{Unpacked, unpacked}
use Rattle.t800_laws.proofs.Laws.Checks.{on_bool}
use Rattle.t2_unpack_headers.specs.Segments.{field_at, held_at, bad_at, unpacked_at}
use Rattle.t2_unpack_headers.specs.Cursors.{HoldsAt, CursorAt}
use Rattle.t2_unpack_headers.proofs.Laws.Segments.{told, bad_here, good_here, none_here, good_size}

-- what the segment at a place says of the bytes held from there on
pub record FirstOf (segments : Bytes) (at : ℕ) (bytes : Bytes) : Type 0 where
  pub field : 4 ≤ field_at segments at
  pub size : at + 5 + held_at segments at ≤ length segments
  pub first : bytes ≡ take (held_at segments at) (drop (at + 5) segments) ++ drop (held_at segments at) bytes
  pub later : HoldsAt segments (at + (5 + held_at segments at)) (drop (held_at segments at) bytes)

module _ (segments : Bytes) (at : ℕ) (bytes : Bytes) (h : HoldsAt segments at bytes) where
  not_bad : at < length segments → bad_at segments h.index at ≡ false
  not_bad l =
      on_bool (bad_at segments h.index at)
      (λ b. absurd (omega (arith, sym (ap (λ (u : Unpacked). u.refusal) (bad_here segments h.index at l b)) ∙ h.right)))
      (λ b. b)

  pub first_of_lem : at < length segments → FirstOf segments at bytes
  first_of_lem l =
      let good = not_bad l in
      let held = held_at segments at in
      let sizes = good_size segments h.index at good in
      let next : at + (2 + field_at segments at) ≡ at + (5 + held) = omega (arith, sizes.1) in
      let behind = unpacked_at segments (h.index + 1) (at + (5 + held)) in
      let part = take held (drop (at + 5) segments) in
      let here : unpacked_at segments h.index at ≡ told behind.refusal (part ++ behind.bytes) =
      good_here segments h.index at l good
      ∙ ap (λ (k : ℕ). told (unpacked_at segments (h.index + 1) k).refusal (part ++ (unpacked_at segments (h.index + 1) k).bytes)) next in
      let whole : part ++ behind.bytes ≡ bytes = sym (ap (λ (u : Unpacked). u.bytes) here) ∙ h.holds in
      let long : length part ≡ held = length-take-le held (drop (at + 5) segments) (omega (arith, length-drop (at + 5) segments, sizes)) in
      let rest : behind.bytes ≡ drop held bytes = sym (drop_at part behind.bytes held long) ∙ ap (drop held) whole in
      record {
        field = sizes.1;
        size = omega (arith, sizes);
        first = sym whole ∙ ap (λ (l : Bytes). part ++ l) rest;
        later = record {
          within = omega (arith, sizes);
          index = h.index + 1;
          right = sym (ap (λ (u : Unpacked). u.refusal) here) ∙ h.right;
          holds = rest;
        };
      }

  pub none_behind : length segments ≤ at → bytes ≡ []
  none_behind l = sym h.holds ∙ ap (λ (u : Unpacked). u.bytes) (none_here segments h.index at l)

-- the first cursor
pub first_cursor : (segments : Bytes) → (unpacked segments).refusal ≡ 0 → CursorAt segments (record { at = 0; before = 0 })
unfolding unpacked
first_cursor segments e = record {
  fewer = omega arith;
  here = record { within = omega arith; index = 0; right = e; holds = refl };
}

-- on to the next segment
pub next_cursor : (segments : Bytes) (at before : ℕ) → CursorAt segments (record { at = at; before = before }) → at < length segments
    → CursorAt segments (record { at = at + (5 + held_at segments at); before = before + held_at segments at })
next_cursor segments at before c l =
    let bytes = (unpacked segments).bytes in
    let held = held_at segments at in
    let later = (first_of_lem segments at (drop before bytes) c.here l).later in
    let beyond : drop held (drop before bytes) ≡ drop (before + held) bytes = drop-drop held before bytes in
    record { fewer = omega (arith, c.fewer); here = rw beyond at later }
