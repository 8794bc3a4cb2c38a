-- A loop that looks among a block's segments for one that meets a test.
use mathlib.Core.Path.{◌≡◌, sym, ap, ◌∙◌}
use mathlib.Core.Bool.{Bool, true, false}
use mathlib.Core.List.{List}
use Prim.Native.Nat.{ℕ, ◌+◌, ◌≤◌, ◌<◌}
use lib.ListN.{length, drop}
use Rattle.t800.specs.Base.{any}
use Rattle.t800.specs.Segments.{Segment, segments_of}
use Rattle.tcd_laws.proofs.Laws.AnyOf.{any_here, any_later}
use Rattle.t2_segments.specs.Segments.{segment, first_segment}
use Rattle.t2_segments.proofs.Laws.Segments.{Next, next_segment_lem, no_segment_left}

module _ (f : Segment → Bool) (ls ms : List ℕ) where
  -- no segment before pass `at` meets it
  abbrev pub NoneBefore : ℕ → Type 0
  NoneBefore at = (at ≤ length ls) × (any f (segments_of (drop at ls) (drop at ms)) ≡ any f (segments_of ls ms))

  -- a turn, at the segment of p passes and b bytes that begins at pass `at`
  pub record Turn (at p b : ℕ) : Type 0 where
    pub some : 1 ≤ p
    pub enough : at + p ≤ length ls
    pub met : f (segment p b) ≡ true → true ≡ any f (segments_of ls ms)
    pub not_met : f (segment p b) ≡ false → NoneBefore (at + p)

  pub turn : (at p b : ℕ) → length ls ≡ length ms → at < length ls → NoneBefore at → segment p b ≡ first_segment (drop at ls) (drop at ms)
      → Turn at p b
  turn at p b e h k q =
      let n : Next ls ms at p b = next_segment_lem ls ms at p b e h q in
      record {
        some = n.some;
        enough = n.enough;
        met = λ t. sym (any_here f _ _ _ n.is t) ∙ k.1;
        not_met = λ t. (n.enough, sym (any_later f _ _ _ n.is t) ∙ k.1);
      }

  pub none_left : (at : ℕ) → length ls ≤ at → NoneBefore at → false ≡ any f (segments_of ls ms)
  unfolding any
  none_left at h k = sym (ap (λ (ss : List Segment). any f ss) (no_segment_left ls ms at h)) ∙ k.1
