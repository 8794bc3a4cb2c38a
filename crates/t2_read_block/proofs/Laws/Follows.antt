-- Reading into lent lists is t800's reading: the refusal is the same, and where there is none the lists hold what was read.
use mathlib.Core.Path.{◌≡◌, refl, sym, ap, ◌∙◌, subst}
use mathlib.Core.Logic.{◌≢◌}
use mathlib.Core.Bool.{Bool, true, false, cond, ◌&&◌}
use mathlib.Core.List.{List, [], ◌∷◌, ◌++◌, reverse}
use Prim.Native.Nat.{ℕ, zero, suc, ◌+◌, ◌-◌, ◌*◌, ◌/◌, ◌%◌, ◌^◌, ◌≤◌, ◌<◌}
use native.Mathlib.Omega.{arith}
use lib.Dec.{eqb, ltb, leb}
use lib.ListN.{length, get_or, set, length-set, length-append}
use lib.Seq.{get_or-set_same}
use borrow.Author.Tests.{eq-eqb, ne_eqb, eqb-true, eqb-false, leb-false}
use Rattle.t800.specs.declared.Bio.{Bio}
use Rattle.t800.specs.Base.{overwrite}
use Rattle.t800.specs.Bits.{Decoded, get_bit, read_bits}
use Rattle.t800.specs.PassCount.{read_passes}
use Rattle.t800.specs.TagTree.{PathRead, value, read_path}
use Rattle.t800.specs.Segments.{width, read_comma}
use Rattle.t800.specs.declared.SegmentRecord.{SegmentRecord}
use Rattle.t800.specs.Reports.{BlockReport, absent, report_words, record_words, record_width, body_bytes}
use Rattle.t800.specs.State.{Block, not_yet_planes, length_bits}
use Rattle.t800.specs.WriteHeader.{is_new, length_bits_before}
use Rattle.t800.specs.ReadHeader.{HeaderRead, refused, moved_to, with_report, opens_segment, current_limit, current_passes, passes_taken}
use Rattle.t800.specs.ReadHeader.{read_segment, read_segments, read_zero_planes_from, read_zero_planes, first_report, again_report}
use Rattle.t800.specs.ReadHeader.{read_included, read_new_block, read_old_block, read_block, read_blocks}
use Rattle.t800_laws.proofs.Laws.Tests.{if-eq, if-ne, if-lt, if-ge, on-eq, on-lt}
use Rattle.t800_laws.proofs.Laws.Kept.{from_0, path_from_0, path_read_lem}
use Rattle.t800_laws.proofs.Laws.HeaderSteps.{thresholds_raised}
use Rattle.round_trip.proofs.Trip.Segments.{read_so_far}
use Rattle.t800_laws.proofs.Laws.Starts.{bytes_append, bytes_one}
use Rattle.lists.proofs.Laws.Filled.{record-put, report_put}
use Rattle.lists.specs.Rows.{put_row}
use Rattle.t2_read_codes.specs.CommaCode.{most_ones, read_comma_limited}
use Rattle.t800_laws.proofs.Laws.ReadValues.{passes_between}
use Rattle.t2_read_codes.proofs.Laws.CommaCode.{comma_below, comma_value}
use Rattle.t2_read_segments.specs.Reading.{Reading, stopped, moved_on, reported, next_segment, next_segments}
use Rattle.t2_read_block_parts.specs.Blocks.{passes_read}
use Rattle.t2_read_segments.specs.Reading.{held_by}
use Rattle.t2_read_block_parts.specs.Blocks.{segments_after, next_first, next_again, next_new, next_old, next_block, next_blocks}
use Rattle.t2_read_segments.proofs.Laws.ManySegments.{no_segments}
use Rattle.tcd_places.proofs.Laws.Before.{AllBlocks, Before, same_word}
use Rattle.t2_read_block_parts.proofs.Laws.Kept.{path_keeps}

-- ---- a width above 32

module _ (src : List ℕ) (i : ℕ) (k : Block) (f left : ℕ) (some : 0 < f) (more : 0 < left) where
  wide_next : (a : Reading) → 32 < get_or a.words (k.at + 1) 0 → (next_segments src i k f left a).refusal ≡ 9
  unfolding next_segments next_segment width
  wide_next a h = go f some
    where
      go : (g : ℕ) → 0 < g → (next_segments src i k g left a).refusal ≡ 9
      go zero l = absurd (omega arith)
      go (suc g) l =
          let n : ℕ = passes_taken a.words k left in
          let w : 32 < width (length_bits a.words k.at) n = omega arith in
          let e : next_segment src i k n a ≡ stopped 9 a = if-lt 32 (width (length_bits a.words k.at) n) _ _ w in
          ap (λ (x : Reading). x.refusal)
          (if-lt 0 left _ _ more ∙ ap (λ (c : Reading). cond (eqb c.refusal 0) (next_segments src i k g (left - n) c) c) e)

  wide_read : (room : ℕ) (r : HeaderRead) → 32 < get_or r.words (k.at + 1) 0 → (read_segments src room i k f left r).refusal ≡ 9
  unfolding read_segments read_segment width
  wide_read room r h = go f some
    where
      go : (g : ℕ) → 0 < g → (read_segments src room i k g left r).refusal ≡ 9
      go zero l = absurd (omega arith)
      go (suc g) l =
          let n : ℕ = passes_taken r.words k left in
          let w : 32 < width (length_bits r.words k.at) n = omega arith in
          let e : read_segment src room i k n r ≡ refused 9 = if-lt 32 (width (length_bits r.words k.at) n) _ _ w in
          ap (λ (x : HeaderRead). x.refusal)
          (ap (λ (c : HeaderRead). cond (eqb c.refusal 0 && ltb 0 (left - n)) (read_segments src room i k g (left - n) c) c) e)

cond_both : (s t : Bool) (x y : HeaderRead) → cond (s && t) x y ≡ cond s (cond t x y) y
cond_both true t x y = refl
cond_both false t x y = refl

more_bytes : (m n s : ℕ) → s ≡ m + n → (m % 2 ^ 64 + n) % 2 ^ 64 ≡ s % 2 ^ 64
more_bytes m n s e = omega arith

-- ---- how a reading ends

-- j reports and the records of r over the lists as they were lent, and so many words
pub record Held (reports records : List ℕ) (size j : ℕ) (a : Reading) (r : HeaderRead) : Type 0 where
  pub same : a ≡ held_by reports records r
  pub records_lent_lem : length r.records ≤ length records / record_width
  pub reports_are : length r.reports ≡ j
  pub words_are : length r.words ≡ size

pub record Ends (reports records : List ℕ) (size j : ℕ) (a : Reading) (r : HeaderRead) : Type 0 where
  pub refuses : a.refusal ≡ r.refusal
  pub holds : r.refusal ≡ 0 → Held reports records size j a r

-- the inclusion tree's path lies before the block's words, and these in a list of so many
pub record Apart (size : ℕ) (k : Block) : Type 0 where
  pub incl : Before k.at k.incl_tree (reverse k.path)
  pub inside : k.at + 3 < size

module _ (src reports records : List ℕ) (size : ℕ) where
  abbrev room : ℕ
  room = length records / record_width

  abbrev EndsAt : ℕ → Reading → HeaderRead → Type 0
  EndsAt j a r = Ends reports records size j a r

  refused-both : (j n : ℕ) (a : Reading) (r : HeaderRead) → 0 < n → a.refusal ≡ n → r.refusal ≡ n → EndsAt j a r
  refused-both j n a r h p q = record { refuses = p ∙ sym q; holds = λ z. absurd (omega (arith, z, q)) }

  pub choice : (j : ℕ) (t : Bool) (x y : Reading) (x' y' : HeaderRead) → EndsAt j x x' → EndsAt j y y'
      → EndsAt j (cond t x y) (cond t x' y')
  choice j true x y x' y' p q = p
  choice j false x y x' y' p q = q

  -- from what was read so far, with j reports, g and h end alike, with m reports
  abbrev Alike : ℕ → ℕ → (Reading → Reading) → (HeaderRead → HeaderRead) → Type 0
  Alike j m g h =
      (ws : List ℕ) (b : Bio) (reps : List BlockReport) (recs : List SegmentRecord) → length recs ≤ room → length reps ≡ j
      → length ws ≡ size
      → EndsAt m (g (held_by reports records (read_so_far ws b reps recs))) (h (read_so_far ws b reps recs))

  goes_on : (j m : ℕ) (g : Reading → Reading) (h : HeaderRead → HeaderRead) (a : Reading) (r : HeaderRead) → EndsAt j a r
      → Alike j m g h → EndsAt m (cond (eqb a.refusal 0) (g a) a) (cond (eqb r.refusal 0) (h r) r)
  goes_on j m g h a r e f =
      on-eq r.refusal 0
      (λ z. let held = e.holds z in
      let s : r ≡ read_so_far r.words r.bio r.reports r.records =
      λ q. record { refusal = z q; words = r.words; bio = r.bio; reports = r.reports; records = r.records } in
      let t : a ≡ held_by reports records (read_so_far r.words r.bio r.reports r.records) = held.same
      ∙ ap (held_by reports records) s in
      let k : EndsAt m (g a) (h r) =
      subst (λ (x : Reading). EndsAt m (g x) (h r)) (sym t)
      (subst (λ (y : HeaderRead). EndsAt m (g (held_by reports records (read_so_far r.words r.bio r.reports r.records)))
      (h y)) (sym s) (f r.words r.bio r.reports r.records held.records_lent_lem held.reports_are held.words_are))
      in
      subst (λ (x : Reading). EndsAt m x (cond (eqb r.refusal 0) (h r) r)) (sym (if-eq a.refusal 0 _ _ (e.refuses ∙ z)))
      (subst (EndsAt m (g a)) (sym (if-eq r.refusal 0 _ _ z)) k))
      (λ z. let k : EndsAt m a r = record { refuses = e.refuses; holds = λ y. absurd (z y) } in
      subst (λ (x : Reading). EndsAt m x (cond (eqb r.refusal 0) (h r) r))
      (sym (if-ne a.refusal 0 _ _ (λ y. z (sym e.refuses ∙ y)))) (subst (EndsAt m a) (sym (if-ne r.refusal 0 _ _ z)) k))

  held_here : (j : ℕ) → Alike j j (λ a. a) (λ r. r)
  held_here j ws b reps recs p q w =
      record { refuses = refl; holds = λ _. record { same = refl; records_lent_lem = p; reports_are = q; words_are = w } }

  -- ---- segments

  segment-ends : (j i : ℕ) (k : Block) (n : ℕ) → Alike j j (next_segment src i k n) (read_segment src room i k n)
  unfolding next_segment read_segment
  segment-ends j i k n ws b reps recs p q w =
      let f : ℕ = width (length_bits ws k.at) n in
      choice j (ltb 32 f) _ _ _ _ (refused-both j 9 _ _ (omega arith) refl refl)
      (by f (leb room (length recs)) refl)
    where
      a : Reading
      a = held_by reports records (read_so_far ws b reps recs)

      us : List ℕ
      us = set (set ws (k.at + 2) (current_limit ws k)) (k.at + 3) (current_passes ws k + n)

      rec : ℕ → SegmentRecord
      rec f = record {
        block = i;
        opens = cond (opens_segment ws k) 1 0;
        passes = n;
        bytes = (read_bits src f b).value;
        start = body_bytes recs;
      }

      done : ℕ → Reading
      done f = record {
        words = us;
        reports = a.reports;
        records = put_row a.records (length recs) i (cond (opens_segment ws k) 1 0) n (read_bits src f b).value;
        bio = (read_bits src f b).bio;
        count = length recs + 1;
        room = room;
        bytes = (body_bytes recs % 2 ^ 64 + (read_bits src f b).value) % 2 ^ 64;
        refusal = 0;
      }

      done' : ℕ → HeaderRead
      done' f = read_so_far us (read_bits src f b).bio reps (recs ++ rec f ∷ [])

      by : (f : ℕ) (t : Bool) → leb room (length recs) ≡ t → EndsAt j (cond t (stopped 13 a) (done f)) (cond t (refused 13) (done' f))
      by f true e = refused-both j 13 (stopped 13 a) (refused 13) (omega arith) refl refl
      by f false e =
          let l : length recs < room = leb-false room (length recs) e in
          let c : length recs + 1 ≡ length (recs ++ rec f ∷ []) = sym (length-append recs (rec f ∷ [])) in
          let sum = more_bytes (body_bytes recs) (read_bits src f b).value _
          (bytes_append recs (rec f ∷ []) ∙ ap (λ (n : ℕ). body_bytes recs + n) (bytes_one (rec f))) in
          record {
            refuses = refl;
            holds = λ _. record {
              same = λ x. record {
                words = us;
                reports = a.reports;
                records = record-put records recs (rec f) l x;
                bio = (read_bits src f b).bio;
                count = c x;
                room = room;
                bytes = sum x;
                refusal = 0;
              };
              records_lent_lem = omega arith;
              reports_are = q;
              words_are = length-set (set ws (k.at + 2) (current_limit ws k)) (k.at + 3) (current_passes ws k + n)
                  ∙ length-set ws (k.at + 2) (current_limit ws k) ∙ w;
            };
          }

  segments_rest : (j i : ℕ) (k : Block) (f left : ℕ)
      → (0 < left → Alike j j (next_segments src i k f left) (read_segments src room i k f left))
      → Alike j j (next_segments src i k f left) (λ r. cond (ltb 0 left) (read_segments src room i k f left r) r)
  segments_rest j i k f left more ws b reps recs p q w =
      let r : HeaderRead = read_so_far ws b reps recs in
      let a : Reading = held_by reports records r in
      on-lt 0 left
      (λ l. subst (EndsAt j (next_segments src i k f left a)) (sym (if-lt 0 left (read_segments src room i k f left r) r l))
      (more l ws b reps recs p q w))
      (λ l. subst (EndsAt j (next_segments src i k f left a)) (sym (if-ge 0 left (read_segments src room i k f left r) r l))
      (subst (λ (x : Reading). EndsAt j x r) (sym (no_segments src i k f left a l)) (held_here j ws b reps recs p q w)))

  segments_end : (j i : ℕ) (k : Block) (f left : ℕ) → 0 < left → Alike j j (next_segments src i k f left) (read_segments src room i k f left)
  unfolding next_segments read_segments
  segments_end j i k zero left h ws b reps recs p q w = held_here j ws b reps recs p q w
  segments_end j i k (suc f) left h ws b reps recs p q w =
      let n : ℕ = passes_taken ws k left in
      let a : Reading = held_by reports records (read_so_far ws b reps recs) in
      let c : Reading = next_segment src i k n a in
      let r : HeaderRead = read_segment src room i k n (read_so_far ws b reps recs) in
      let more : Reading = cond (eqb c.refusal 0) (next_segments src i k f (left - n) c) c in
      let e : cond (ltb 0 left) more a ≡ more = if-lt 0 left more a h in
      subst (λ (x : Reading). EndsAt j x
      (cond (eqb r.refusal 0 && ltb 0 (left - n)) (read_segments src room i k f (left - n) r) r)) (sym e)
      (subst (EndsAt j more) (sym (cond_both (eqb r.refusal 0) (ltb 0 (left - n)) (read_segments src room i k f (left - n) r) r))
      (goes_on j j (next_segments src i k f (left - n)) (λ x. cond (ltb 0 (left - n)) (read_segments src room i k f (left - n) x) x) c
      r (segment-ends j i k n ws b reps recs p q w)
      (segments_rest j i k f (left - n) (segments_end j i k f (left - n)))))

  -- ---- an included block

  abbrev report_of : ℕ → ℕ → ℕ → ℕ → BlockReport
  report_of x y v n = record { inclusion = x; zero_planes = y; planes = v; passes = n }

  -- block i's report after those of the blocks before it
  module _ (i : ℕ) (ws : List ℕ) (b : Bio) (reps : List BlockReport) (recs : List SegmentRecord) (r : BlockReport)
      (q : length reps ≡ i) (lent : i < length reports / 4) where
    report_over : put_row (overwrite reports (report_words reps)) i r.inclusion r.zero_planes r.planes r.passes
        ≡ overwrite reports (report_words (reps ++ r ∷ []))
    report_over =
        ap (λ (n : ℕ). put_row (overwrite reports (report_words reps)) n r.inclusion r.zero_planes r.planes r.passes)
        (sym q) ∙ report_put reports reps r (subst (λ (n : ℕ). n < length reports / 4) (sym q) lent)

    reported-is : (us : List ℕ) (e : Bio)
        → reported i r.inclusion r.zero_planes r.planes r.passes
        (moved_on us e (held_by reports records (read_so_far ws b reps recs)))
        ≡ held_by reports records (read_so_far us e (reps ++ r ∷ []) recs)
    reported-is us e =
        λ x. record {
          words = us;
          reports = report_over x;
          records = overwrite records (record_words recs);
          bio = e;
          count = length recs;
          room = room;
          bytes = body_bytes recs % 2 ^ 64;
          refusal = 0;
        }

    one_more : length (reps ++ r ∷ []) ≡ i + 1
    one_more = length-append reps (r ∷ []) ∙ ap (λ (n : ℕ). n + 1) q

    -- after its inclusion and zero planes, with p passes so far and the length bits l
    passes-end : (k : Block) (z : PathRead) (p l : ℕ) → length recs ≤ room → length z.words ≡ size → k.at + 3 < size
        → EndsAt (i + 1) (segments_after src i k (passes_read src k.at p l z.words z.bio)
        (reported i r.inclusion r.zero_planes r.planes r.passes (held_by reports records (read_so_far ws b reps recs))))
        (read_segments src room i k (read_passes src z.bio).value (read_passes src z.bio).value
        (with_report r (moved_to
        (set (set z.words k.at (p + (read_passes src z.bio).value)) (k.at + 1)
        (l + (read_comma src (read_passes src z.bio).bio).value)) (read_comma src (read_passes src z.bio).bio).bio
        (read_so_far ws b reps recs))))
    unfolding passes_read
    passes-end k z p l f w s =
        let n : Decoded = read_passes src z.bio in
        let some = (passes_between src z.bio).0 in
        let c : Decoded = read_comma src n.bio in
        let d : Decoded = read_comma_limited src n.bio in
        let v = comma_value src n.bio in
        let us : List ℕ = set z.words k.at (p + n.value) in
        let lu : length us ≡ size = length-set z.words k.at (p + n.value) ∙ w in
        let own : (m : ℕ) → get_or (set us (k.at + 1) m) (k.at + 1) 0 ≡ m = λ m. get_or-set_same us (k.at + 1) m 0 (omega arith) in
        on-lt d.value most_ones
        (λ h. let e : d ≡ c = comma_below src n.bio h in
        let so : HeaderRead = read_so_far (set us (k.at + 1) (l + c.value)) c.bio (reps ++ r ∷ []) recs in
        let go : EndsAt (i + 1) (next_segments src i k n.value n.value (held_by reports records so))
        (read_segments src room i k n.value n.value so)
        = segments_end (i + 1) i k n.value n.value some (set us (k.at + 1) (l + c.value)) c.bio (reps ++ r ∷ []) recs f
        one_more (length-set us (k.at + 1) (l + c.value) ∙ lu) in
        subst (λ (x : Reading). EndsAt (i + 1) (next_segments src i k n.value n.value x)
        (read_segments src room i k n.value n.value so))
        (sym
        ((λ j. reported i r.inclusion r.zero_planes r.planes r.passes
        (moved_on (set us (k.at + 1) (l + (e j).value)) (e j).bio (held_by reports records (read_so_far ws b reps recs))))
        ∙ reported-is (set us (k.at + 1) (l + c.value)) c.bio)) go)
        (λ h. refused-both (i + 1) 9 _ _ (omega arith)
        (wide_next src i k n.value n.value some some _ (omega (arith, own (l + d.value), h)))
        (wide_read src i k n.value n.value some some room _ (omega (arith, own (l + c.value), h, v))))

  module _ (i : ℕ) (k : Block) (lent : i < length reports / 4) (apart : Apart size k) where
    abbrev tree_read : List ℕ → Bio → PathRead
    tree_read ws b = read_zero_planes_from src k (not_yet_planes + 2) 0 ws b

    -- by whether it is new, and its passes so far
    abbrev included : List ℕ → Bio → List BlockReport → List SegmentRecord → Bool → ℕ → HeaderRead
    included ws b reps recs t passes =
        let z : PathRead = cond t (tree_read ws b) (record { words = ws; bio = b }) in
        let v : ℕ = value z.words (k.zero_tree + 3 * k.leaf) in
        let n : Decoded = read_passes src z.bio in
        let c : Decoded = read_comma src n.bio in
        let r : BlockReport = cond t (report_of 1 v ((k.planes + 2 ^ 32 - v) % 2 ^ 32) n.value) (report_of 2 0 0 n.value) in
        read_segments src room i k n.value n.value
        (with_report r (moved_to
        (set (set z.words k.at (passes + n.value)) (k.at + 1) (cond t 3 (length_bits ws k.at) + c.value)) c.bio
        (read_so_far ws b reps recs)))

    included_is : (ws : List ℕ) (b : Bio) (reps : List BlockReport) (recs : List SegmentRecord)
        → read_included src room i k (read_so_far ws b reps recs)
        ≡ included ws b reps recs (eqb (get_or ws k.at 0) 0) (get_or ws k.at 0)
    unfolding read_included read_zero_planes length_bits_before is_new first_report again_report
    included_is ws b reps recs = refl

    module _ (ws : List ℕ) (b : Bio) (reps : List BlockReport) (recs : List SegmentRecord) (p : length recs ≤ room)
        (q : length reps ≡ i) (w : length ws ≡ size) where
      abbrev before : Reading
      before = held_by reports records (read_so_far ws b reps recs)

      first_ends : get_or ws k.at 0 ≡ 0 → EndsAt (i + 1) (next_first src i k before) (read_included src room i k (read_so_far ws b reps recs))
      unfolding next_first passes_read
      first_ends new =
          let z : PathRead = tree_read ws b in
          let v : ℕ = value z.words (k.zero_tree + 3 * k.leaf) in
          let e : read_included src room i k (read_so_far ws b reps recs) ≡ included ws b reps recs true 0 = included_is ws b reps recs
          ∙ (λ j. included ws b reps recs (eq-eqb (get_or ws k.at 0) 0 new j) (new j)) in
          subst (EndsAt (i + 1) (next_first src i k before)) (sym e)
          (passes-end i ws b reps recs (report_of 1 v ((k.planes + 2 ^ 32 - v) % 2 ^ 32) (read_passes src z.bio).value) q lent k
          z 0 3 p ((thresholds_raised 0 src k (not_yet_planes + 2) 0 ws b (from_0 k)).long ∙ w) apart.inside)

      again_ends : get_or ws k.at 0 ≢ 0 → EndsAt (i + 1) (next_again src i k before) (read_included src room i k (read_so_far ws b reps recs))
      unfolding next_again passes_read
      again_ends old =
          let e : read_included src room i k (read_so_far ws b reps recs)
          ≡ included ws b reps recs false (get_or ws k.at 0) = included_is ws b reps recs
          ∙ (λ j. included ws b reps recs (ne_eqb (get_or ws k.at 0) 0 old j) (get_or ws k.at 0)) in
          subst (EndsAt (i + 1) (next_again src i k before)) (sym e)
          (passes-end i ws b reps recs (report_of 2 0 0 (read_passes src b).value) q lent k (record { words = ws; bio = b })
          (get_or ws k.at 0) (get_or ws (k.at + 1) 0) p w apart.inside)

      absent-ends : (us : List ℕ) (e : Bio) → length us ≡ size
          → EndsAt (i + 1) (reported i 0 0 0 0 (moved_on us e before)) (read_so_far us e (reps ++ absent ∷ []) recs)
      absent-ends us e l =
          subst (λ (x : Reading). EndsAt (i + 1) x (read_so_far us e (reps ++ absent ∷ []) recs))
          (sym (reported-is i ws b reps recs absent q lent us e))
          (held_here (i + 1) us e (reps ++ absent ∷ []) recs p (one_more i ws b reps recs absent q lent) l)

    -- ---- a block, new or old

    new_ends : (t : ℕ) (ws : List ℕ) (b : Bio) (reps : List BlockReport) (recs : List SegmentRecord) → get_or ws k.at 0 ≡ 0
        → length recs ≤ room → length reps ≡ i → length ws ≡ size
        → EndsAt (i + 1) (next_new src t i k (held_by reports records (read_so_far ws b reps recs)))
        (read_new_block src room t i k (read_so_far ws b reps recs))
    unfolding next_new read_new_block
    new_ends t ws b reps recs new p q w =
        let r : PathRead = read_path src k.incl_tree (t + 1) (reverse k.path) 0 ws b in
        let up : List ℕ = reverse k.path in
        let l : length r.words ≡ size = (path_read_lem 0 src k.incl_tree (t + 1) up 0 ws b (path_from_0 k.incl_tree up)).long ∙ w in
        let still : get_or r.words k.at 0
        ≡ 0 = same_word k.at k.at r.words ws
        (path_keeps src k.at k.incl_tree (t + 1) (reverse k.path) 0 ws b apart.incl) (omega arith) ∙ new in
        choice (i + 1) (ltb (value r.words (k.incl_tree + 3 * k.leaf)) (t + 1)) _ _ _ _
        (first_ends r.words r.bio reps recs p q l still) (absent-ends ws b reps recs p q w r.words r.bio l)

    old_ends : (ws : List ℕ) (b : Bio) (reps : List BlockReport) (recs : List SegmentRecord) → get_or ws k.at 0 ≢ 0
        → length recs ≤ room → length reps ≡ i → length ws ≡ size
        → EndsAt (i + 1) (next_old src i k (held_by reports records (read_so_far ws b reps recs)))
        (read_old_block src room i k (read_so_far ws b reps recs))
    unfolding next_old read_old_block
    old_ends ws b reps recs old p q w =
        let bit : Decoded = get_bit src b in
        choice (i + 1) (eqb bit.value 0) _ _ _ _ (absent-ends ws b reps recs p q w ws bit.bio w)
        (again_ends ws bit.bio reps recs p q w old)

    pub block_ends : (t : ℕ) → Alike i (i + 1) (next_block src t i k) (read_block src room t i k)
    unfolding next_block read_block is_new
    block_ends t ws b reps recs p q w = by (eqb (get_or ws k.at 0) 0) refl
      where
        a : Reading
        a = held_by reports records (read_so_far ws b reps recs)

        r : HeaderRead
        r = read_so_far ws b reps recs

        by : (s : Bool) → eqb (get_or ws k.at 0) 0 ≡ s
            → EndsAt (i + 1) (cond s (next_new src t i k a) (next_old src i k a))
            (cond s (read_new_block src room t i k r) (read_old_block src room i k r))
        by true e = new_ends t ws b reps recs (eqb-true (get_or ws k.at 0) 0 e) p q w
        by false e = old_ends ws b reps recs (eqb-false (get_or ws k.at 0) 0 e) p q w

  -- ---- all blocks

  pub blocks_end : (t i : ℕ) (ks : List Block) → AllBlocks (Apart size) ks → i + length ks ≤ length reports / 4
      → Alike i (i + length ks) (next_blocks src t i ks) (read_blocks src room t i ks)
  unfolding next_blocks read_blocks
  blocks_end t i [] h l ws b reps recs p q w = held_here (i + 0) ws b reps recs p (q ∙ omega arith) w
  blocks_end t i (k ∷ ks) h l ws b reps recs p q w =
      let m : i + 1 + length ks ≡ i + suc (length ks) = omega arith in
      subst (λ (n : ℕ). EndsAt n (next_blocks src t i (k ∷ ks) (held_by reports records (read_so_far ws b reps recs)))
      (read_blocks src room t i (k ∷ ks) (read_so_far ws b reps recs))) m
      (goes_on (i + 1) (i + 1 + length ks) (next_blocks src t (i + 1) ks) (read_blocks src room t (i + 1) ks) _ _
      (block_ends i k (omega arith) h.0 t ws b reps recs p q w) (blocks_end t (i + 1) ks h.1 (omega arith)))
