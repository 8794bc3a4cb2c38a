-- A look at all segments, one after another.
use Prim.Native.Nat.{ℕ, ◌+◌, ◌-◌, ◌<◌, ◌≤◌}
use mathlib.Core.Path.{◌≡◌, ap, sym, ◌∙◌, refl}
use mathlib.Core.Bool.{false}
use mathlib.Core.List.{◌++◌}
use native.Mathlib.Omega.{arith}
use lib.ListN.{length, take, drop, length-append, length-drop}
use lib.Seq.{length-take-le}
use Rattle.std.proofs.Common.{None, Some, Ok, Err}
use Rattle.t800.specs.declared.Refusal.TheVariants.{Packed}
use Rattle.t800.specs.Base.{Bytes}
use Rattle.t800.specs.PackedHeaders.{Unpacked, unpacked}
use Rattle.t800_laws.proofs.Laws.Checks.{on_bool}
use Rattle.t800_laws.proofs.Laws.Tests.{if-true, if-false}
use Rattle.t2_unpack_headers.specs.Segments.{field_at, held_at, bad_at, size_at, unpacked_at, LookedAt}
use Rattle.t2_unpack_headers.proofs.Laws.Segments.{told, bad_here, good_here, none_here, good_size}

-- the segments before `at` are right, and hold so many bytes
pub record Looking (segments : Bytes) (index at bytes : ℕ) : Type 0 where
  pub within : at ≤ length segments
  pub indices : index ≤ at
  pub fewer : bytes ≤ at
  pub refusal : (unpacked_at segments index at).refusal ≡ (unpacked segments).refusal
  pub all : bytes + length (unpacked_at segments index at).bytes ≡ length (unpacked segments).bytes

pub looking_first : (segments : Bytes) → Looking segments 0 0 0
unfolding unpacked
looking_first segments = record { within = omega arith; indices = omega arith; fewer = omega arith; refusal = refl; all = omega arith }

module _ (segments : Bytes) (index at bytes : ℕ) (h : Looking segments index at bytes) where
  pub looked_none : length segments ≤ at → LookedAt segments (Ok bytes)
  looked_none l =
      let e = none_here segments index at l in
      (sym (sym (ap (λ (u : Unpacked). u.refusal) e) ∙ h.refusal), omega (arith, h.all, ap (λ (u : Unpacked). length u.bytes) e))

  module _ (l : at < length segments) where
    pub looked_bad : None ≡ size_at segments index at → LookedAt segments (Err Packed)
    looked_bad z =
        on_bool (bad_at segments index at)
        (λ b. sym (ap (λ (u : Unpacked). u.refusal) (bad_here segments index at l b)) ∙ h.refusal)
        (λ b. absurd (cc (z, if-false (bad_at segments index at) None (Some (2 + field_at segments at)) b)))

    module _ (size : ℕ) (z : Some size ≡ size_at segments index at) where
      pub right_segment : (size ≡ 2 + field_at segments at) × (6 ≤ size) × (at + size ≤ length segments) × (bad_at segments index at ≡ false)
      right_segment =
          on_bool (bad_at segments index at)
          (λ b. absurd (cc (z, if-true (bad_at segments index at) None (Some (2 + field_at segments at)) b)))
          (λ b.
          let e : size ≡ 2 + field_at segments at =
          cc (z, if-false (bad_at segments index at) None (Some (2 + field_at segments at)) b) in
          let sizes = good_size segments index at b in
          (e, omega (arith, sizes), omega (arith, sizes), b))

      pub looking_next : Looking segments (index + 1) (at + size) (bytes + (size - 5))
      looking_next =
          let r = right_segment in
          let behind = unpacked_at segments (index + 1) (at + size) in
          let part = take (held_at segments at) (drop (at + 5) segments) in
          let here : unpacked_at segments index at ≡ told behind.refusal (part ++ behind.bytes) =
          good_here segments index at l r.3
          ∙ ap (λ (k : ℕ). let u = unpacked_at segments (index + 1) (at + k) in told u.refusal (part ++ u.bytes)) (sym r.0) in
          let long : length part ≡ held_at segments at =
          length-take-le (held_at segments at) (drop (at + 5) segments) (omega (arith, length-drop (at + 5) segments, r)) in
          let lengths : length (unpacked_at segments index at).bytes ≡ length part + length behind.bytes =
          ap (λ (u : Unpacked). length u.bytes) here ∙ length-append part behind.bytes in
          record {
            within = r.2;
            indices = omega (arith, h.indices, r.1);
            fewer = omega (arith, h.fewer, r.1);
            refusal = sym (ap (λ (u : Unpacked). u.refusal) here) ∙ h.refusal;
            all = omega (arith, h.all, lengths, long, r.0, r.1);
          }
