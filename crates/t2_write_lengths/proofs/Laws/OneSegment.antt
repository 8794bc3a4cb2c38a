-- A block whose passes make one segment.
use mathlib.Core.Path.{◌≡◌, sym, ap, ◌∙◌}
use mathlib.Core.Bool.{false}
use mathlib.Core.List.{List, [], ◌∷◌, append-nil}
use Prim.Native.Nat.{ℕ, ◌+◌, ◌-◌, ◌≤◌, ◌<◌}
use native.Mathlib.Omega.{arith}
use lib.ListN.{length}
use Rattle.t800.specs.Bits.{bits_of}
use Rattle.t800.specs.Segments.{Segment, segments_of, width, bit_length, increment, length_fields}
use Rattle.t2_segments.specs.Segments.{segment, first_segment, block_too_wide}
use Rattle.t2_segments.proofs.Laws.Segments.{next_segment_lem, no_segment_left, first_not_wide}

pub one_segment_lem : (ls ms : List ℕ) (p b : ℕ) → length ls ≡ length ms → 0 < length ls → segment p b ≡ first_segment ls ms → p
    ≡ length ls → segments_of ls ms ≡ segment p b ∷ []
one_segment_lem ls ms p b e h q k =
    (next_segment_lem ls ms 0 p b e h q).is ∙ ap (λ (ss : List Segment). segment p b ∷ ss) (no_segment_left ls ms (0 + p) (omega arith))

pub one_increment : (lb : ℕ) (s : Segment) → bit_length s.bytes - width lb s.passes ≡ increment lb (s ∷ [])
unfolding increment
one_increment lb s = omega arith

pub one_field : (lb : ℕ) (s : Segment) → bits_of (width lb s.passes) s.bytes ≡ length_fields lb (s ∷ [])
unfolding length_fields
one_field lb s = sym (append-nil (bits_of (width lb s.passes) s.bytes))

pub one_narrow : (before more : ℕ) (s : Segment) → more ≡ increment before (s ∷ []) → block_too_wide before (s ∷ []) ≡ false
    → width (before + more) s.passes ≤ 32
one_narrow before more s e h =
    rw e (first_not_wide (before + increment before (s ∷ [])) (s ∷ []) s [] (λ i. s ∷ []) h).0
