use Prim.Native.Nat.{ℕ, ◌+◌}
use mathlib.Core.Bool.{Bool}
use mathlib.Core.List.{List}
use mathlib.Core.Path.{◌≡◌, ◌∙◌, ap}
use native.Mathlib.Omega.{arith}
use Rattle.t800.specs.Segments.{Segment, segments_of, increment}
use Rattle.t2_segments.specs.Segments.{any_too_wide, block_too_wide}
use Rattle.t2_block_widths.proofs.block_too_wide.Goals as goal

-- a block's length bits, the increment and the widths with both

block-wide-parts : (before more bits : ℕ) (ss : List Segment) (t : Bool) → before ≡ bits → more ≡ increment before ss → t
    ≡ any_too_wide (before + more) ss → t ≡ block_too_wide bits ss
block-wide-parts before more bits ss t p q r = r ∙ ap (λ (z : ℕ). any_too_wide (before + z) ss) q ∙ ap (λ (z : ℕ). block_too_wide z ss) p

pub segment_increment-more-requires : goal.segment_increment-more-requires
segment_increment-more-requires c = c.requires

pub any_field_too_wide-requires : goal.any_field_too_wide-requires
any_field_too_wide-requires c = (c.requires.0, omega arith)

pub returns : goal.returns
returns c =
    let s = c in
    block-wide-parts _ _ _ (segments_of s.args.lengths.now s.args.marks.now) _
    c.length_bits_before-before.ensures c.segment_increment-more.ensures c.any_field_too_wide.ensures
