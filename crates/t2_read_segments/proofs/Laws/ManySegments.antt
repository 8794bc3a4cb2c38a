-- A block's segments one after another: how many passes each takes, what it leaves, and what is left after it.
use Rattle.std.proofs.Common.{◌≡◌, ℕ, zero, suc, ◌+◌, ◌-◌, ◌<◌, ◌≤◌, min, cond, eqb, ltb, leb, ◌≢◌, List, length, get_or, drop, set, sym, refl, ap, ◌∙◌, subst, arith, length-set, get_or-set_other, get_or-set_same}
use Rattle.t800.specs.Segments.{term_all, bypass, first_limit, next_limit, width}
use Rattle.t800.specs.State.{Block}
use Rattle.t800.specs.ReadHeader.{current_limit, current_passes, passes_taken}
use Rattle.t800_laws.proofs.Laws.Tests.{either, if-lt, if-ge, if-eq, if-ne, on-eq}
use Rattle.bio_read.proofs.Laws.ReadChunks.{read_bits-ct}
use Rattle.tcd_places.specs.Places.{block_at}
use Rattle.tcd_places.proofs.Laws.Before.{same_word}
use Rattle.t2_read_segments.specs.declared.Segment.{Segment}
use Rattle.t2_read_segments.specs.Segments.{limit_after, current_segment}
use Rattle.t2_read_segments.specs.Reading.{Reading, stopped, next_segment, next_segments, SegmentFits}
use Rattle.t2_read_segments.proofs.Laws.OneSegment.{segment-opens, segment-open}

-- ---- its room

abbrev To109 : ℕ → Type 0
To109 n = (1 ≤ n) × (n ≤ 109)

limit_after_between : (s m : ℕ) → (1 ≤ limit_after s m) × (limit_after s m ≤ 109)
unfolding limit_after first_limit next_limit
limit_after_between s m =
    either To109 (eqb m 0) _ _
    (either To109 (term_all s) 1 _ (omega arith) (either To109 (bypass s) 10 109 (omega arith) (omega arith)))
    (either To109 (term_all s) 1 _ (omega arith)
    (either To109 (bypass s) _ 109 (either To109 (eqb m 2) 1 2 (omega arith) (omega arith)) (omega arith)))

abbrev HasRoom : Segment → Type 0
HasRoom s = (s.used < s.limit) × (s.limit ≤ 109)

pub has_room : (ws : List ℕ) (at : ℕ) (s : Segment) → s ≡ current_segment ws (block_at at) → SegmentFits ws at → HasRoom s
has_room ws at s e f =
    let m : ℕ = get_or ws (at + 2) 0 in
    let l = limit_after_between (get_or ws 2 0) m in
    subst HasRoom (sym e)
    (on-eq m (get_or ws (at + 3) 0)
    (λ q. subst HasRoom (segment-opens ws at (limit_after (get_or ws 2 0) m) q refl) (omega (arith, l.0), l.1))
    (λ q. subst HasRoom (segment-open ws at q) (omega (arith, f.used, q), f.limit)))

pub taken_is : (ws : List ℕ) (at left n : ℕ) (s : Segment) → s ≡ current_segment ws (block_at at) → n ≡ min (s.limit - s.used) left
    → n ≡ passes_taken ws (block_at at) left
unfolding passes_taken current_segment
taken_is ws at left n s e q = q ∙ ap (λ (z : Segment). min (z.limit - z.used) left) e

-- ---- what it leaves

pub fits_same : (q at : ℕ) (ws vs : List ℕ) → drop q ws ≡ drop q vs → q ≤ at + 2 → SegmentFits vs at → SegmentFits ws at
fits_same q at ws vs e h f =
    let a = same_word q (at + 2) ws vs e h in
    let b = same_word q (at + 3) ws vs e (omega arith) in
    record { used = omega (arith, f.used); limit = omega (arith, f.limit) }

pub record Leaves (at : ℕ) (a b : Reading) : Type 0 where
  pub few : b.bio.ct ≤ 8
  pub segment : SegmentFits b.words at

segment-stored : (ws : List ℕ) (at m u : ℕ) → at + 3 < length ws → u ≤ m → m ≤ 109 → SegmentFits (set (set ws (at + 2) m) (at + 3) u) at
segment-stored ws at m u h l k =
    let x : get_or (set (set ws (at + 2) m) (at + 3) u) (at + 2) 0
    ≡ m = get_or-set_other (set ws (at + 2) m) (at + 3) (at + 2) u 0 (omega arith) ∙ get_or-set_same ws (at + 2) m 0 (omega arith) in
    let y : get_or (set (set ws (at + 2) m) (at + 3) u) (at + 3) 0
    ≡ u = get_or-set_same (set ws (at + 2) m) (at + 3) u 0 (omega (arith, length-set ws (at + 2) m)) in
    record { used = omega arith; limit = omega arith }

pub segment-leaves : (src : List ℕ) (i at n : ℕ) (a b : Reading) (s : Segment) → b ≡ next_segment src i (block_at at) n a → s
    ≡ current_segment a.words (block_at at) → a.bio.ct ≤ 8 → at + 3 < length a.words
    → SegmentFits a.words at → s.used + n ≤ s.limit → Leaves at a b
unfolding next_segment current_segment
segment-leaves src i at n a b s e q c h f l =
    let m : ℕ = current_limit a.words (block_at at) in
    let u : ℕ = current_passes a.words (block_at at) in
    let w : ℕ = width (get_or a.words (at + 1) 0) n in
    let r = has_room a.words at s q f in
    let el : s.limit ≡ m = ap (λ (z : Segment). z.limit) q in
    let eu : s.used ≡ u = ap (λ (z : Segment). z.used) q in
    let t = segment-stored a.words at m (u + n) h (omega (arith, l)) (omega (arith, r.1)) in
    let same : Leaves at a (stopped 9 a) = record { few = c; segment = f } in
    subst (Leaves at a) (sym e)
    (either (Leaves at a) (ltb 32 w) _ _ same
    (either (Leaves at a) (leb _ a.count) (stopped 13 a) _ (record { few = c; segment = f })
    (record { few = read_bits-ct src w a.bio c; segment = t })))

-- ---- the next ones

module _ (src : List ℕ) (i at f left n : ℕ) (a b : Reading) (some : 0 < left) (enough : left ≤ f)
    (takes : n ≡ passes_taken a.words (block_at at) left) (is : b ≡ next_segment src i (block_at at) n a) where
  first-is : (g : ℕ) → f ≡ suc g → next_segments src i (block_at at) f left a
      ≡ cond (eqb b.refusal 0) (next_segments src i (block_at at) g (left - n) b) b
  unfolding next_segments
  first-is g e =
      let r : next_segment src i (block_at at) (passes_taken a.words (block_at at) left) a
      ≡ b = sym (is ∙ ap (λ (z : ℕ). next_segment src i (block_at at) z a) takes) in
      ap (λ (z : ℕ). next_segments src i (block_at at) z left a) e ∙ if-lt 0 left _ _ some
      ∙ (λ j. cond (eqb (r j).refusal 0) (next_segments src i (block_at at) g (left - sym takes j) (r j)) (r j))

  pub segments_turn : b.refusal ≡ 0 → next_segments src i (block_at at) (f - 1) (left - n) b ≡ next_segments src i (block_at at) f left a
  segments_turn z = sym (first-is (f - 1) (omega arith) ∙ if-eq b.refusal 0 _ _ z)

  pub segments_stop : b.refusal ≢ 0 → b ≡ next_segments src i (block_at at) f left a
  segments_stop z = sym (first-is (f - 1) (omega arith) ∙ if-ne b.refusal 0 _ _ z)

pub no_segments : (src : List ℕ) (i : ℕ) (k : Block) (f left : ℕ) (a : Reading) → left ≤ 0 → next_segments src i k f left a ≡ a
unfolding next_segments
no_segments src i k zero left a h = refl
no_segments src i k (suc f) left a h = if-ge 0 left _ _ h
