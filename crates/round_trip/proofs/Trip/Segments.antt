-- A block's segments: by marks that terminate as the style does, the writer's are the book's records; by the limits in its state
-- the reader's
-- are the book's records too, with their lengths.
use mathlib.Core.Path.{◌≡◌, refl, sym, ap, ap₂, ◌∙◌, subst}
use mathlib.Core.Logic.{◌≢◌}
use mathlib.Core.Bool.{or-false, true≢false, beq, Bool, true, false, cond, ◌||◌, not}
use mathlib.Core.List.{List, [], ◌∷◌, ◌++◌, append_assoc, append-nil}
use Prim.Native.Nat.{ℕ, zero, suc, ◌+◌, ◌-◌, ◌^◌, ◌≤◌, ◌<◌, min}
use native.Mathlib.Nat.{zero-add, add-zero}
use native.Mathlib.Omega.{arith}
use lib.ListN.{length, get_or, set, drop, length-set, length-drop, length-append, drop_of_length-le}
use lib.Seq.{get_or-set_same, get_or-set_other}
use lib.Dec.{T, ltb, eqb}
use borrow.Author.Tests.{lt-ltb, le-ltb}
use Rattle.t800.specs.declared.Bio.{Bio}
use Rattle.t800.specs.Base.{any}
use Rattle.t800.specs.Bits.{bits_of}
use Rattle.t800.specs.Segments.{Segment, term_all, bypass, first_limit, next_limit, segments_from, segments_of, width, length_fields}
use Rattle.t800.specs.declared.SegmentRecord.{SegmentRecord}
use Rattle.t800.specs.Reports.{BlockReport, body_bytes}
use Rattle.t800.specs.State.{Block}
use Rattle.t800.specs.ReadHeader.{HeaderRead, opens_segment, current_limit, current_passes, passes_taken, read_segment, read_segments}
use Rattle.t800.specs.Book.{opens_at, records_from, records_of, terminated_at}
use lib.Ieee.Fits.{and_l, and_r}
use Rattle.t800_laws.proofs.Laws.Tests.{on-lt, if-lt, if-ge, if-gt, if-true, if-false}
use Rattle.t800_laws.proofs.Laws.Lists.{last_pass}
use Rattle.t800_laws.proofs.Laws.Starts.{bytes_append, bytes_one}
use Rattle.round_trip.proofs.Trip.Bits.{Reads, reads_split}
use Rattle.round_trip.proofs.Trip.Codes.{number_read, LengthsFit}
use Rattle.round_trip.proofs.Trip.Limits.{opens_in, next_segment_lem, limit_in, passes_in, limit_after, passes_after}

abbrev pub record_with : ℕ → ℕ → ℕ → ℕ → ℕ → SegmentRecord
record_with b f p l before = record { block = b; opens = f; passes = p; bytes = l; start = before }

abbrev pub segment : ℕ → ℕ → Segment
segment p l = record { passes = p; bytes = l }

-- a length field wider than 32 bits
abbrev pub too_wide : ℕ → List Segment → Bool
too_wide lb gs = any (λ (g : Segment). ltb 32 (width lb g.passes)) gs

abbrev pub segments_in : List SegmentRecord → List Segment
segments_in [] = []
segments_in (a ∷ l) = segment a.passes a.bytes ∷ segments_in l

-- ---- the writer's segments

agrees : (a b : Bool) → T (beq a b) → b ≡ a
agrees true true h = refl
agrees true false h = absurd h
agrees false true h = absurd h
agrees false false h = refl

drop_min : (d : ℕ) (ls : List ℕ) → drop d ls ≡ drop (min d (length ls)) ls
drop_min d ls =
    on-lt d (length ls)
    (λ h. let e : d ≡ min d (length ls) = omega arith in ap (λ (z : ℕ). drop z ls) e)
    (λ h. drop_of_length-le ls h ∙ sym (drop_of_length-le ls {i = min d (length ls)} (omega arith)))

module _ (s i : ℕ) where
  pass_ends : (n len l : ℕ) (ls : List ℕ) (m : ℕ) (ms : List ℕ) (x y : ℕ) → not (eqb m 0) ≡ true
      → segments_from n len (l ∷ x ∷ ls) (m ∷ y ∷ ms) ≡ segment (n + 1) (len + l) ∷ segments_from 0 0 (x ∷ ls) (y ∷ ms)
  unfolding segments_from
  pass_ends n len l ls m ms x y e = if-true (not (eqb m 0) || false) _ _ (or-false (not (eqb m 0)) ∙ e)

  pass_goes_on : (n len l : ℕ) (ls : List ℕ) (m : ℕ) (ms : List ℕ) (x y : ℕ) → not (eqb m 0) ≡ false
      → segments_from n len (l ∷ x ∷ ls) (m ∷ y ∷ ms) ≡ segments_from (n + 1) (len + l) (x ∷ ls) (y ∷ ms)
  unfolding segments_from
  pass_goes_on n len l ls m ms x y e = if-false (not (eqb m 0) || false) _ _ (or-false (not (eqb m 0)) ∙ e)

  pass_opens : (p : ℕ) (now : SegmentRecord) (l : ℕ) (ls : List ℕ) → opens_at s p ≡ true → records_from s p now (l ∷ ls)
      ≡ now ∷ records_from s (p + 1) (record_with now.block 1 1 l (now.start + now.bytes)) ls
  unfolding records_from
  pass_opens p now l ls e = if-true (opens_at s p) _ _ e

  pass_stays : (p : ℕ) (now : SegmentRecord) (l : ℕ) (ls : List ℕ) → opens_at s p ≡ false
      → records_from s p now (l ∷ ls)
      ≡ records_from s (p + 1) (record_with now.block now.opens (now.passes + 1) (now.bytes + l) now.start) ls
  unfolding records_from
  pass_stays p now l ls e = if-false (opens_at s p) _ _ e

  -- from the segment that is being made, wherever it starts
  segments_from_lem : (f p n len l before : ℕ) (ls : List ℕ) (m : ℕ) (ms : List ℕ) → length ls ≡ length ms → T (terminated_at s p (m ∷ ms))
      → segments_from n len (l ∷ ls) (m ∷ ms) ≡ segments_in (records_from s (p + 1) (record_with i f (n + 1) (len + l) before) ls)
  unfolding terminated_at records_from
  segments_from_lem f p n len l before [] m [] e h = last_pass n len l m
  segments_from_lem f p n len l before [] m (y ∷ ms) e h = absurd (omega arith)
  segments_from_lem f p n len l before (x ∷ ls) m [] e h = absurd (omega arith)
  segments_from_lem f p n len l before (x ∷ ls) m (y ∷ ms) e h =
      let a : not (eqb m 0)
      ≡ opens_at s (p + 1) = agrees (opens_at s (p + 1)) (not (eqb m 0)) (and_l (beq (opens_at s (p + 1)) (not (eqb m 0))) _ h) in
      let h₂ = and_r (beq (opens_at s (p + 1)) (not (eqb m 0))) (terminated_at s (p + 1) (y ∷ ms)) h in
      go (opens_at s (p + 1)) refl a (segments_from_lem 1 (p + 1) 0 0 x (before + (len + l)) ls y ms (omega arith) h₂)
      (segments_from_lem f (p + 1) (n + 1) (len + l) x before ls y ms (omega arith) h₂)
    where
      go : (o : Bool) → opens_at s (p + 1) ≡ o → not (eqb m 0) ≡ opens_at s (p + 1)
          → segments_from 0 0 (x ∷ ls) (y ∷ ms)
          ≡ segments_in (records_from s (p + 1 + 1) (record_with i 1 (0 + 1) (0 + x) (before + (len + l))) ls)
          → segments_from (n + 1) (len + l) (x ∷ ls) (y ∷ ms)
          ≡ segments_in (records_from s (p + 1 + 1) (record_with i f (n + 1 + 1) (len + l + x) before) ls)
          → segments_from n len (l ∷ x ∷ ls) (m ∷ y ∷ ms)
          ≡ segments_in (records_from s (p + 1) (record_with i f (n + 1) (len + l) before) (x ∷ ls))
      go true o a u w =
          pass_ends n len l ls m ms x y (a ∙ o)
          ∙ ap (λ (z : List Segment). segment (n + 1) (len + l) ∷ z)
          (u ∙ ap (λ (z : ℕ). segments_in (records_from s (p + 1 + 1) (record_with i 1 1 z (before + (len + l))) ls)) (zero-add x))
          ∙ sym (ap segments_in (pass_opens (p + 1) (record_with i f (n + 1) (len + l) before) x ls o))
      go false o a u w =
          pass_goes_on n len l ls m ms x y (a ∙ o) ∙ w
          ∙ sym (ap segments_in (pass_stays (p + 1) (record_with i f (n + 1) (len + l) before) x ls o))

  pub segments_are_records : (before p : ℕ) (ls ms : List ℕ) → length ls ≡ length ms → T (terminated_at s p ms) → segments_of ls ms
      ≡ segments_in (records_of s i before p ls)
  unfolding segments_of records_of segments_from
  segments_are_records before p [] ms e h = refl
  segments_are_records before p (l ∷ ls) [] e h = absurd (omega arith)
  segments_are_records before p (l ∷ ls) (m ∷ ms) e h =
      segments_from_lem (cond (opens_at s p) 1 0) p 0 0 l before ls m ms (omega arith) h
      ∙ ap (λ (z : ℕ). segments_in (records_from s (p + 1) (record_with i (cond (opens_at s p) 1 0) 1 z before) ls)) (zero-add l)

  -- ---- the reader's segments

  -- passes that open nothing go into the record that is being made
  no_opening_run : (d p : ℕ) (f n len before : ℕ) (ls : List ℕ) → ((j : ℕ) → j < d → opens_at s (p + j) ≡ false) → opens_at s (p + d) ≡ true
      → (v : ℕ) × (records_from s p (record_with i f n len before) ls
      ≡ record_with i f (n + min d (length ls)) v before ∷ records_of s i (before + v) (p + min d (length ls)) (drop d ls))
  unfolding records_from records_of
  no_opening_run zero p f n len before [] q o = (len, ap (λ (z : ℕ). record_with i f z len before ∷ []) (omega arith))
  no_opening_run (suc d) p f n len before [] q o = (len, ap (λ (z : ℕ). record_with i f z len before ∷ []) (omega arith))
  no_opening_run zero p f n len before (l ∷ ls) q o =
      let e : p + min 0 (suc (length ls)) ≡ p = omega arith in
      let g : n + min 0 (suc (length ls)) ≡ n = omega arith in
      let z : opens_at s p ≡ true = ap (opens_at s) (sym (add-zero p)) ∙ o in
      (len, pass_opens p (record_with i f n len before) l ls z ∙ rw (e, g, z))
  no_opening_run (suc d) p f n len before (l ∷ ls) q o =
      let r = no_opening_run d (p + 1) f (n + 1) (len + l) before ls (λ j h. ap (opens_at s) (omega arith) ∙ q (suc j) (omega arith))
      (ap (opens_at s) (omega arith) ∙ o) in
      let e : n + 1 + min d (length ls) ≡ n + min (suc d) (suc (length ls)) = omega arith in
      let g : p + 1 + min d (length ls) ≡ p + min (suc d) (suc (length ls)) = omega arith in (
        r.0,
        pass_stays p (record_with i f n len before) l ls (ap (opens_at s) (sym (add-zero p)) ∙ q 0 (omega arith)) ∙ r.1
            ∙ ap₂ (λ (x y : ℕ). record_with i f x r.0 before ∷ records_of s i (before + r.0) y (drop d ls)) e g,
      )

  -- the first record has as many passes as its segment has room for, and the others start behind it
  pub first_record : (before p d : ℕ) (ls : List ℕ) → 1 ≤ length ls → 1 ≤ d → ((j : ℕ) → 1 ≤ j → j < d → opens_at s (p + j) ≡ false)
      → opens_at s (p + d) ≡ true
      → (v : ℕ) × (records_of s i before p ls
      ≡ record_with i (cond (opens_at s p) 1 0) (min d (length ls)) v before ∷ records_of s i (before + v) (p + min d (length ls))
      (drop (min d (length ls)) ls))
  unfolding records_of
  first_record before p d [] h g q o = absurd (omega arith)
  first_record before p zero (l ∷ ls) h g q o = absurd (omega arith)
  first_record before p (suc d) (l ∷ ls) h g q o =
      let r = no_opening_run d (p + 1) (cond (opens_at s p) 1 0) 1 l before ls
      (λ j k. ap (opens_at s) (omega arith) ∙ q (suc j) (omega arith) (omega arith)) (ap (opens_at s) (omega arith) ∙ o) in
      let m : ℕ = min d (length ls) in
      let e : 1 + m ≡ min (suc d) (suc (length ls)) = omega arith in
      let g : p + 1 + m ≡ p + min (suc d) (suc (length ls)) = omega arith in
      let em : suc m ≡ min (suc d) (suc (length ls)) = omega arith in
      let k : drop d ls ≡ drop (min (suc d) (suc (length ls))) (l ∷ ls) = drop_min d ls ∙ ap (λ (z : ℕ). drop z (l ∷ ls)) em in (
        r.0,
        r.1 ∙ ap₂ (λ (x y : ℕ). record_with i (cond (opens_at s p) 1 0) x r.0 before ∷ records_of s i (before + r.0) y (drop d ls)) e g
            ∙ ap (λ (z : List ℕ). record_with i (cond (opens_at s p) 1 0) (min (suc d) (suc (length ls))) r.0 before ∷ records_of s i
            (before + r.0) (p + min (suc d) (suc (length ls))) z) k,
      )

-- ---- reading

abbrev pub read_so_far : List ℕ → Bio → List BlockReport → List SegmentRecord → HeaderRead
read_so_far ws b reps recs = record { refusal = 0; words = ws; bio = b; reports = reps; records = recs }

-- the words of a block's current segment are those after p passes, and no other word changed
pub record SegmentNow (rs us : List ℕ) (s at p : ℕ) : Type 0 where
  pub limit : get_or us (at + 2) 0 ≡ limit_after s p
  pub used : get_or us (at + 3) 0 ≡ passes_after s p
  pub others : (i : ℕ) → i ≢ at + 2 → i ≢ at + 3 → get_or us i 0 ≡ get_or rs i 0
  pub long : length us ≡ length rs

-- the reader's words tell the segment that the next passes go into
module _ (s : ℕ) (k : Block) (rs : List ℕ) (p : ℕ) (st : get_or rs 2 0 ≡ s) (l : get_or rs (k.at + 2) 0 ≡ limit_after s p)
    (u : get_or rs (k.at + 3) 0 ≡ passes_after s p) where
  now_opens : opens_segment rs k ≡ opens_at s p
  unfolding opens_segment opens_at limit_after passes_after
  now_opens = ap₂ eqb l u ∙ sym (next_segment_lem s p).opens_here

  now_limit : current_limit rs k ≡ (next_segment_lem s p).limit
  unfolding current_limit opens_segment limit_after passes_after first_limit next_limit
  now_limit = rw (st, l, u) (next_segment_lem s p).limit_is

  now_used : current_passes rs k ≡ (next_segment_lem s p).has
  unfolding current_passes opens_segment limit_after passes_after
  now_used = rw (l, u) (next_segment_lem s p).has_is

  now_takes : (left : ℕ) → passes_taken rs k left ≡ min ((next_segment_lem s p).limit - (next_segment_lem s p).has) left
  unfolding passes_taken
  now_takes left = ap₂ (λ (x y : ℕ). min (x - y) left) now_limit now_used

-- one segment
segment-read : (src : List ℕ) (room i : ℕ) (k : Block) (n : ℕ) (rs : List ℕ) (b e : Bio) (reps : List BlockReport)
    (recs : List SegmentRecord) (lb v : ℕ)
    → get_or rs (k.at + 1) 0 ≡ lb → width lb n ≤ 32 → v < 2 ^ width lb n → length recs < room → Reads src b (bits_of (width lb n) v) e
    → read_segment src room i k n (read_so_far rs b reps recs)
    ≡ read_so_far (set (set rs (k.at + 2) (current_limit rs k)) (k.at + 3) (current_passes rs k + n)) e reps
    (recs ++ record_with i (cond (opens_segment rs k) 1 0) n v (body_bytes recs) ∷ [])
unfolding read_segment
segment-read src room i k n rs b e reps recs lb v l w f r h =
    rw (l, if-ge 32 (width lb n) _ _ w, if-gt room (length recs) _ _ r, number_read src (width lb n) v b e f h)

pub field_fits : (lb : ℕ) (g : Segment) (gs : List Segment) → too_wide lb (g ∷ gs) ≡ false → (width lb g.passes ≤ 32)
    × (too_wide lb gs ≡ false)
unfolding any
field_fits lb g gs h =
    on-lt 32 (width lb g.passes)
    (λ z. absurd (true≢false (sym (ap (λ (x : Bool). x || too_wide lb gs) (lt-ltb 32 (width lb g.passes) z)) ∙ h)))
    (λ z. (z, sym (ap (λ (x : Bool). x || too_wide lb gs) (le-ltb 32 (width lb g.passes) z)) ∙ h))

pub no_records : (s i before p : ℕ) (ls : List ℕ) → length ls ≡ 0 → records_of s i before p ls ≡ []
unfolding records_of
no_records s i before p [] h = refl
no_records s i before p (l ∷ ls) h = absurd (omega arith)

module _ (src : List ℕ) (room i : ℕ) (k : Block) (s lb : ℕ) (e : Bio) (reps : List BlockReport) (after_first_words : 13 ≤ k.at) where
  opens_is : (q : ℕ) → opens_at s q ≡ opens_in (term_all s) (bypass s) q
  unfolding opens_at
  opens_is q = refl

  limit_is : (q : ℕ) → limit_after s q ≡ limit_in (term_all s) (bypass s) q
  unfolding limit_after
  limit_is q = refl

  used_is : (q : ℕ) → passes_after s q ≡ passes_in (term_all s) (bypass s) q
  unfolding passes_after
  used_is q = refl

  segment-now : (rs : List ℕ) (m u p : ℕ) → k.at + 4 ≤ length rs → m ≡ limit_after s p → u ≡ passes_after s p
      → SegmentNow rs (set (set rs (k.at + 2) m) (k.at + 3) u) s k.at p
  segment-now rs m u p h l w =
      record {
        limit = get_or-set_other (set rs (k.at + 2) m) (k.at + 3) (k.at + 2) u 0 (omega arith)
            ∙ get_or-set_same rs (k.at + 2) m 0 (omega arith) ∙ l;
        used = get_or-set_same (set rs (k.at + 2) m) (k.at + 3) u 0 (omega (arith, length-set rs (k.at + 2) m)) ∙ w;
        others = λ j a b. get_or-set_other (set rs (k.at + 2) m) (k.at + 3) j u 0 b ∙ get_or-set_other rs (k.at + 2) j m 0 a;
        long = length-set (set rs (k.at + 2) m) (k.at + 3) u ∙ length-set rs (k.at + 2) m;
      }

  segment-now_twice : (rs us vs : List ℕ) (p q : ℕ) → SegmentNow rs us s k.at p → SegmentNow us vs s k.at q
      → SegmentNow rs vs s k.at q
  segment-now_twice rs us vs p q a b =
      record { limit = b.limit; used = b.used; others = λ j x y. b.others j x y ∙ a.others j x y; long = b.long ∙ a.long }

  pub record SegmentsRead (f : ℕ) (ls : List ℕ) (before p : ℕ) (rs : List ℕ) (b : Bio) (recs : List SegmentRecord) : Type 0 where
    pub words : List ℕ
    pub reads : read_segments src room i k f (length ls) (read_so_far rs b reps recs)
        ≡ read_so_far words e reps (recs ++ records_of s i before p ls)
    pub segment-now : SegmentNow rs words s k.at (p + length ls)

  -- what holds before a segment is read, behind `before` bytes
  pub record BeforeSegment (ls : List ℕ) (before p : ℕ) (rs : List ℕ) (b : Bio) (recs : List SegmentRecord) : Type 0 where
    pub start_is : before ≡ body_bytes recs
    pub some : 1 ≤ length ls
    pub inside : k.at + 4 ≤ length rs
    pub style-is : get_or rs 2 0 ≡ s
    pub bits : get_or rs (k.at + 1) 0 ≡ lb
    pub limit : get_or rs (k.at + 2) 0 ≡ limit_after s p
    pub used : get_or rs (k.at + 3) 0 ≡ passes_after s p
    pub fits : LengthsFit lb (segments_in (records_of s i before p ls))
    pub widths : too_wide lb (segments_in (records_of s i before p ls)) ≡ false
    pub room_enough : length recs + length (records_of s i before p ls) ≤ room
    pub ahead : Reads src b (length_fields lb (segments_in (records_of s i before p ls))) e

  one_turn : (f n : ℕ) (ls : List ℕ) (rs : List ℕ) (b : Bio) (recs : List SegmentRecord) (us : List ℕ) (c : Bio)
      (recs₂ : List SegmentRecord) → passes_taken rs k (length ls) ≡ n
      → read_segment src room i k n (read_so_far rs b reps recs) ≡ read_so_far us c reps recs₂
      → read_segments src room i k (suc f) (length ls) (read_so_far rs b reps recs)
      ≡ cond (ltb 0 (length ls - n)) (read_segments src room i k f (length ls - n) (read_so_far us c reps recs₂)) (read_so_far us c reps recs₂)
  unfolding read_segments
  one_turn f n ls rs b recs us c recs₂ q h = rw (q, h)

  -- the segment that the next passes go into: how many of them, the first record that they make, and the words after them
  record NextPasses (ls : List ℕ) (before p : ℕ) (rs : List ℕ) : Type 0 where
    passes : ℕ
    bytes : ℕ
    some : 1 ≤ passes
    within : passes ≤ length ls
    first : records_of s i before p ls
        ≡ record_with i (cond (opens_at s p) 1 0) passes bytes before ∷ records_of s i (before + bytes) (p + passes) (drop passes ls)
    taken : passes_taken rs k (length ls) ≡ passes
    limit : current_limit rs k ≡ limit_after s (p + passes)
    used : current_passes rs k + passes ≡ passes_after s (p + passes)

  next_is : (ls : List ℕ) (before p : ℕ) (rs : List ℕ) (b : Bio) (recs : List SegmentRecord) → BeforeSegment ls before p rs b recs
      → NextPasses ls before p rs
  next_is ls before p rs b recs y =
      let t = next_segment_lem s p in
      let d : ℕ = t.limit - t.has in
      let n : ℕ = min d (length ls) in
      let h : 1 ≤ d = omega (arith, t.room) in
      let one : 1 ≤ n = omega (arith, y.some) in
      let all : t.has + n ≤ t.limit = omega (arith, t.room) in
      let c = first_record s i before p d ls y.some h (λ j lo hi. opens_is (p + j) ∙ t.stays_open j lo (omega (arith, t.room)))
      (opens_is (p + d) ∙ t.opens_next) in
      record {
        passes = n;
        bytes = c.0;
        some = one;
        within = omega arith;
        first = c.1;
        taken = now_takes s k rs p y.style-is y.limit y.used (length ls);
        limit = now_limit s k rs p y.style-is y.limit y.used ∙ sym (limit_is (p + n) ∙ t.limit_after_lem n one all);
        used = ap (λ (z : ℕ). z + n) (now_used s k rs p y.style-is y.limit y.used)
            ∙ sym (used_is (p + n) ∙ t.passes_after_lem n one all);
      }

  pub segments_read : (f : ℕ) (ls : List ℕ) (before p : ℕ) (rs : List ℕ) (b : Bio) (recs : List SegmentRecord) → length ls ≤ f
      → BeforeSegment ls before p rs b recs → SegmentsRead f ls before p rs b recs
  unfolding length_fields
  segments_read zero ls before p rs b recs h y = absurd (omega (arith, y.some))
  segments_read (suc f) ls before p rs b recs h y =
      let x = next_is ls before p rs b recs y in
      let n : ℕ = x.passes in
      let v : ℕ = x.bytes in
      let rest : List SegmentRecord = records_of s i (before + v) (p + n) (drop n ls) in
      let fit₂ : (v < 2 ^ width lb n) × LengthsFit lb (segments_in rest) = rw x.first at y.fits in
      let nw = field_fits lb (segment n v) (segments_in rest) (rw x.first at y.widths) in
      let en : length recs + suc (length rest) ≤ room = rw x.first at y.room_enough in
      let ah : Reads src b (bits_of (width lb n) v ++ length_fields lb (segments_in rest)) e =
      subst (λ (z : List SegmentRecord). Reads src b (length_fields lb (segments_in z)) e) x.first y.ahead in
      let sp = reads_split src b e (bits_of (width lb n) v) (length_fields lb (segments_in rest)) ah in
      let us : List ℕ = set (set rs (k.at + 2) (current_limit rs k)) (k.at + 3) (current_passes rs k + n) in
      let one : read_segment src room i k n (read_so_far rs b reps recs)
      ≡ read_so_far us sp.0 reps (recs ++ record_with i (cond (opens_segment rs k) 1 0) n v (body_bytes recs) ∷ [])
      = segment-read src room i k n rs b sp.0 reps recs lb v y.bits nw.0 fit₂.0 (omega arith) sp.1 in
      let now : SegmentRecord = record_with i (cond (opens_at s p) 1 0) n v before in
      let recs₂ : List SegmentRecord = recs ++ now ∷ [] in
      let one₂ : read_segment src room i k n (read_so_far rs b reps recs) ≡ read_so_far us sp.0 reps recs₂
      = one ∙ ap₂ (λ (z : Bool) (m : ℕ). read_so_far us sp.0 reps (recs ++ record_with i (cond z 1 0) n v m ∷ []))
      (now_opens s k rs p y.style-is y.limit y.used) (sym y.start_is) in
      let all : recs₂ ++ rest ≡ recs ++ records_of s i before p ls = append_assoc recs (now ∷ []) rest
      ∙ ap (λ (z : List SegmentRecord). recs ++ z) (sym x.first) in
      let tu = one_turn f n ls rs b recs us sp.0 recs₂ x.taken one₂ in
      let sg : SegmentNow rs us s k.at (p + n) =
      segment-now rs (current_limit rs k) (current_passes rs k + n) (p + n) y.inside x.limit x.used in
      let ld : length (drop n ls) ≡ length ls - n = length-drop n ls in
      on-lt 0 (length ls - n)
      (λ z. let ih = segments_read f (drop n ls) (before + v) (p + n) us sp.0 recs₂ (omega (arith, x.some)) (record {
        start_is = ap₂ ◌+◌ y.start_is (sym (bytes_one now)) ∙ sym (bytes_append recs (now ∷ []));
        some = omega arith;
        inside = rw sg.long y.inside;
        style-is = sg.others 2 (omega arith) (omega arith) ∙ y.style-is;
        bits = sg.others (k.at + 1) (omega arith) (omega arith) ∙ y.bits;
        limit = sg.limit;
        used = sg.used;
        fits = fit₂.1;
        widths = nw.1;
        room_enough = rw (length-append recs (now ∷ [])) (omega arith);
        ahead = sp.2;
      }) in
      let pe : p + n + length (drop n ls) ≡ p + length ls = omega arith in
      record {
        words = ih.words;
        reads = tu ∙ if-lt 0 (length ls - n) _ _ z
            ∙ ap (λ (x : ℕ). read_segments src room i k f x (read_so_far us sp.0 reps recs₂)) (sym ld) ∙ ih.reads
            ∙ ap (read_so_far ih.words e reps) all;
        segment-now = segment-now_twice rs us ih.words (p + n) (p + length ls) sg
            (subst (SegmentNow us ih.words s k.at) pe ih.segment-now);
      })
      (λ z. let nil_rest : rest ≡ [] = no_records s i (before + v) (p + n) (drop n ls) (omega arith) in
      let ee : Reads src sp.0 [] e =
      subst (λ (z : List SegmentRecord). Reads src sp.0 (length_fields lb (segments_in z)) e) nil_rest sp.2 in
      let pe : p + n ≡ p + length ls = omega (arith, x.within) in
      record {
        words = us;
        reads = tu ∙ if-ge 0 (length ls - n) _ _ z
            ∙ ap₂ (λ (x : Bio) (q : List SegmentRecord). read_so_far us x reps q) ee.1
            (sym (append-nil recs₂) ∙ ap (λ (q : List SegmentRecord). recs₂ ++ q) (sym nil_rest) ∙ all);
        segment-now = subst (SegmentNow rs us s k.at) pe sg;
      })
