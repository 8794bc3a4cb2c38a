-- The size of a segment by the tests that the code makes, in their order.
use Prim.Native.Nat.{ℕ, ◌+◌, ◌-◌, ◌<◌, ◌≤◌}
use mathlib.Core.Path.{◌≡◌, ap, sym}
use mathlib.Core.Logic.{◌≢◌}
use native.Mathlib.Omega.{arith}
use lib.ListN.{length, get_or}
use borrow.Author.Tests.{eq-eqb, ne_eqb, le-ltb, lt-ltb}
use Rattle.std.proofs.Common.{None, Some}
use Rattle.t800.specs.Base.{Bytes}
use Rattle.t800_laws.proofs.Laws.Tests.{if-true}
use Rattle.t2_unpack_headers.specs.Segments.{field_at, bad_at, size_at}
use Rattle.t2_unpack_headers.proofs.Laws.Segments.{too_short}

module _ (segments : Bytes) (index at : ℕ) where
  pub no_front : length segments - at < 6 → None ≡ size_at segments index at
  no_front h = sym (if-true (bad_at segments index at) _ _ (too_short segments index at h))

  module _ (field : ℕ) (f : field ≡ field_at segments at) where
    pub cut_short : length segments - at < 2 + field → None ≡ size_at segments index at
    unfolding bad_at
    cut_short h = simp (lt-ltb (length segments - at) (2 + field_at segments at) (omega arith))

    module _ (a : 2 + field ≤ length segments - at) where
      pub low_field : field < 4 → None ≡ size_at segments index at
      unfolding bad_at
      low_field h =
          simp (le-ltb (length segments - at) (2 + field_at segments at) (omega arith), lt-ltb (field_at segments at) 4 (omega arith))

      module _ (b : 4 ≤ field) where
        pub no_ff : get_or segments at 0 ≢ 0xff → None ≡ size_at segments index at
        unfolding bad_at
        no_ff h =
            simp (
              le-ltb (length segments - at) (2 + field_at segments at) (omega arith),
              le-ltb (field_at segments at) 4 (omega arith),
              ne_eqb (get_or segments at 0) 0xff h,
            )

        pub no_marker : get_or segments at 0 ≡ 0xff → get_or segments (at + 1) 0 ≢ 0x61 → None ≡ size_at segments index at
        unfolding bad_at
        no_marker m h =
            simp (
              le-ltb (length segments - at) (2 + field_at segments at) (omega arith),
              le-ltb (field_at segments at) 4 (omega arith),
              eq-eqb (get_or segments at 0) 0xff m,
              ne_eqb (get_or segments (at + 1) 0) 0x61 h,
            )

        module _ (m : get_or segments at 0 ≡ 0xff) (n : get_or segments (at + 1) 0 ≡ 0x61) where
          pub other_index : get_or segments (at + 4) 0 ≢ index → None ≡ size_at segments index at
          unfolding bad_at
          other_index h =
              simp (
                le-ltb (length segments - at) (2 + field_at segments at) (omega arith),
                le-ltb (field_at segments at) 4 (omega arith),
                eq-eqb (get_or segments at 0) 0xff m,
                eq-eqb (get_or segments (at + 1) 0) 0x61 n,
                ne_eqb (get_or segments (at + 4) 0) index h,
              )

          pub right_size : get_or segments (at + 4) 0 ≡ index → Some (2 + field) ≡ size_at segments index at
          unfolding bad_at
          right_size h =
              simp (
                le-ltb (length segments - at) (2 + field_at segments at) (omega arith),
                le-ltb (field_at segments at) 4 (omega arith),
                eq-eqb (get_or segments at 0) 0xff m,
                eq-eqb (get_or segments (at + 1) 0) 0x61 n,
                eq-eqb (get_or segments (at + 4) 0) index h,
              )
              (ap (λ (k : ℕ). Some (2 + k)) f)
