-- Reading a block's segments leaves its length bits and its open segment in range.
use mathlib.Core.Path.{◌≡◌, refl, sym, ap, ◌∙◌, subst}
use mathlib.Core.Logic.{◌≢◌}
use mathlib.Core.Bool.{Bool, true, false, cond, ◌&&◌, ◌||◌}
use mathlib.Core.List.{List}
use Prim.Native.Nat.{ℕ, zero, suc, ◌+◌, ◌-◌, ◌≤◌, ◌<◌}
use native.Mathlib.Omega.{arith}
use lib.ListN.{length, get_or, set, length-set}
use lib.Seq.{get_or-set_same, get_or-set_other}
use lib.Dec.{ltb, leb, eqb}
use borrow.Author.Tests.{eqb-true, ltb-true, ltb-false, eq-eqb, ne_eqb}
use Rattle.t800.specs.Segments.{term_all, bypass, first_limit, next_limit, is_limit, width}
use Rattle.t800.specs.State.{Block, style, length_bits, segment_limit, segment_passes}
use Rattle.t800.specs.ReadHeader.{HeaderRead, opens_segment, current_limit, current_passes, passes_taken, read_segment, read_segments}
use Rattle.t800_laws.proofs.Laws.Tests.{either, either-by, on-eq, and_left, and_right}
use Rattle.reads_in_range.proofs.Ranges.{SegmentIn}

-- ---- limits

module _ (s : ℕ) where
  first_limit_in : is_limit s (first_limit s) ≡ true
  unfolding is_limit
  first_limit_in = rw (eq-eqb (first_limit s) (first_limit s) refl)

  second-of : (a c : Bool) → (a || true || c) ≡ true
  second-of true c = refl
  second-of false c = refl

  third_of : (a b : Bool) → (a || b || true) ≡ true
  third_of true b = refl
  third_of false true = refl
  third_of false false = refl

  after_2_in : is_limit s (next_limit s 2) ≡ true
  unfolding is_limit
  after_2_in = rw (eq-eqb (next_limit s 2) (next_limit s 2) refl) (second-of (eqb (next_limit s 2) (first_limit s)) _)

  after_1_in : is_limit s (next_limit s 1) ≡ true
  unfolding is_limit
  after_1_in =
      rw (eq-eqb (next_limit s 1) (next_limit s 1) refl)
      (third_of (eqb (next_limit s 1) (first_limit s)) (eqb (next_limit s 1) (next_limit s 2)))

  after_other : (m : ℕ) → m ≢ 2 → next_limit s m ≡ next_limit s 1
  unfolding next_limit
  after_other m n = rw (ne_eqb m 2 n)

  next_limit_in : (m : ℕ) → is_limit s (next_limit s m) ≡ true
  next_limit_in m =
      on-eq m 2 (λ e. ap (λ (x : ℕ). is_limit s (next_limit s x)) e ∙ after_2_in)
      (λ n. ap (is_limit s) (after_other m n) ∙ after_1_in)

  some_first : 1 ≤ first_limit s
  unfolding first_limit
  some_first =
      either (λ (x : ℕ). 1 ≤ x) (term_all s) _ _ (omega arith) (either (λ (x : ℕ). 1 ≤ x) (bypass s) _ _ (omega arith) (omega arith))

  some_next : (m : ℕ) → 1 ≤ next_limit s m
  unfolding next_limit
  some_next m =
      let P : ℕ → Type 0 = λ x. 1 ≤ x in
      either P (term_all s) _ _ (omega arith)
      (either P (bypass s) _ _ (either P (eqb m 2) _ _ (omega arith) (omega arith)) (omega arith))

  -- ---- the segment that the next passes go into

  -- none is open, or one with a limit of the style
  pub record Before (ws : List ℕ) (p : ℕ) : Type 0 where
    pub used_in : segment_passes ws p ≤ segment_limit ws p
    pub limit_if : segment_limit ws p ≢ 0 → is_limit s (segment_limit ws p) ≡ true

  before_next : (ws : List ℕ) (p : ℕ) → SegmentIn s ws p → Before ws p
  before_next ws p g = record { used_in = g.used_in; limit_if = λ _. g.limit_in_lem }

  module _ (ws : List ℕ) (k : Block) (is : style ws ≡ s) (b : Before ws k.at) where
    record Room (limit has : ℕ) : Type 0 where
      limit_in_lem : is_limit s limit ≡ true
      some : has < limit

    abbrev old : ℕ
    old = segment_limit ws k.at

    abbrev used : ℕ
    used = segment_passes ws k.at

    opened : ℕ
    opened = cond (eqb old 0) (first_limit (style ws)) (next_limit (style ws) old)

    opened_in : Room opened 0
    unfolding opened
    opened_in =
        either (λ (x : ℕ). Room x 0) (eqb old 0) _ _
        (subst (λ (x : ℕ). Room (first_limit x) 0) (sym is) (record { limit_in_lem = first_limit_in; some = some_first }))
        (subst (λ (x : ℕ). Room (next_limit x old) 0) (sym is) (record { limit_in_lem = next_limit_in old; some = some_next old }))

    current_room : Room (current_limit ws k) (current_passes ws k)
    unfolding current_limit current_passes opens_segment opened
    current_room =
        on-eq old used
        (λ e. rw (eq-eqb old used e) opened_in)
        (λ n.
        let l = b.used_in in
        rw (ne_eqb old used n) (record { limit_in_lem = b.limit_if (omega arith); some = omega arith }))

    module _ (left : ℕ) (some : 1 ≤ left) where
      abbrev n : ℕ
      n = passes_taken ws k left

      some_taken : (1 ≤ n) × (current_passes ws k + n ≤ current_limit ws k)
      unfolding passes_taken
      some_taken = let r = current_room.some in omega arith

  -- ---- one segment, and all

  few_bits : (bits n : ℕ) → width bits n ≤ 32 → bits ≤ 32
  unfolding width
  few_bits bits n h = omega arith

  -- after segments of the block at p: its length bits were in range, and its open segment is
  pub record After (p : ℕ) (ws vs : List ℕ) : Type 0 where
    pub others : (i : ℕ) → i ≢ p + 2 → i ≢ p + 3 → get_or vs i 0 ≡ get_or ws i 0
    pub long : length vs ≡ length ws
    pub bits_in : length_bits ws p ≤ 32
    pub segment : SegmentIn s vs p

  then_after : (p : ℕ) (ws vs us : List ℕ) → After p ws vs → After p vs us → After p ws us
  then_after p ws vs us a b = record {
    others = λ i x y. b.others i x y ∙ a.others i x y;
    long = b.long ∙ a.long;
    bits_in = a.bits_in;
    segment = b.segment;
  }

  module _ (src : List ℕ) (room i : ℕ) (k : Block) where
    segment-after : (left : ℕ) (r : HeaderRead) → 1 ≤ left → style r.words ≡ s → Before r.words k.at
        → k.at + 4 ≤ length r.words → let n = passes_taken r.words k left in (read_segment src room i k n r).refusal ≡ 0
        → After k.at r.words (read_segment src room i k n r).words
    unfolding read_segment
    segment-after left r some is b long =
        let ws : List ℕ = r.words in
        let p : ℕ = k.at in
        let n : ℕ = passes_taken ws k left in
        let w : ℕ = width (length_bits ws p) n in
        let P : HeaderRead → Type 0 = λ a. a.refusal ≡ 0 → After p ws a.words in
        let c = current_room ws k is b in
        let t = some_taken ws k is b left some in
        let limit : ℕ = current_limit ws k in
        let used : ℕ = current_passes ws k + n in
        let one : List ℕ = set ws (p + 2) limit in
        let l : length one ≡ length ws = length-set ws (p + 2) limit in
        let here : get_or (set one (p + 3) used) (p + 3) 0 ≡ used = get_or-set_same one (p + 3) used 0 (omega arith) in
        let before : get_or (set one (p + 3) used) (p + 2) 0 ≡ limit =
        get_or-set_other one (p + 3) (p + 2) used 0 (omega arith) ∙ get_or-set_same ws (p + 2) limit 0 (omega arith) in
        either-by P (ltb 32 w) _ _ (λ _ e. absurd (omega (arith, e)))
        (λ f. either P (leb room (length r.records)) _ _ (λ e. absurd (omega (arith, e)))
        (λ e. record {
          others = λ j x y. get_or-set_other one (p + 3) j used 0 y ∙ get_or-set_other ws (p + 2) j limit 0 x;
          long = length-set one (p + 3) used ∙ l;
          bits_in = few_bits (length_bits ws p) n (ltb-false 32 w f);
          segment = record {
            limit_in_lem = ap (is_limit s) before ∙ c.limit_in_lem;
            some_used = omega (arith, here, t.0);
            used_in = omega (arith, here, before, t.1);
          };
        }))

    pub segments_after_lem : (bound left : ℕ) (r : HeaderRead) → 1 ≤ left → left ≤ bound → style r.words ≡ s → Before r.words k.at
        → 13 ≤ k.at → k.at + 4 ≤ length r.words → (read_segments src room i k bound left r).refusal ≡ 0
        → After k.at r.words (read_segments src room i k bound left r).words
    unfolding read_segments
    segments_after_lem zero left r some few is b from long = λ e. absurd (omega arith)
    segments_after_lem (suc bound) left r some few is b from long =
        let n : ℕ = passes_taken r.words k left in
        let a : HeaderRead = read_segment src room i k n r in
        let t = some_taken r.words k is b left some in
        let one = segment-after left r some is b long in
        either-by (λ (x : HeaderRead). x.refusal ≡ 0 → After k.at r.words x.words) (eqb a.refusal 0 && ltb 0 (left - n)) _ _
        (λ c e.
        let ok : a.refusal ≡ 0 = eqb-true a.refusal 0 (and_left (eqb a.refusal 0) (ltb 0 (left - n)) c) in
        let more : 0 < left - n = ltb-true 0 (left - n) (and_right (eqb a.refusal 0) (ltb 0 (left - n)) c) in
        let first = one ok in
        then_after k.at r.words a.words _ first
        (segments_after_lem bound (left - n) a (omega arith) (omega (arith, t.0))
        (first.others 2 (omega arith) (omega arith) ∙ is) (before_next a.words k.at first.segment) from
        (omega (arith, first.long)) e))
        (λ _ e. one e)
