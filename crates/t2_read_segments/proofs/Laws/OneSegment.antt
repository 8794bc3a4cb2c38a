-- One segment: which one it is, and its parts together.
use mir.Val.{bool_byte}
use Rattle.std.proofs.Common.{Bool, true, false, cond, refl, ◌≡◌, ℕ, ◌+◌, ◌%◌, ◌^◌, ◌<◌, ◌≤◌, ◌≢◌, List, get_or, set, sym, ap, ◌∙◌, subst, eq-eqb, ne_eqb}
use Rattle.t800.specs.Bits.{Decoded, read_bits}
use Rattle.t800.specs.Segments.{width}
use Rattle.t800.specs.ReadHeader.{opens_segment, current_limit, current_passes}
use Rattle.t800_laws.proofs.Laws.Tests.{if-lt, if-ge, if-le, if-gt}
use Rattle.lists.specs.Rows.{put_record}
use Rattle.tcd_places.specs.Places.{block_at}
use Rattle.t2_read_segments.specs.declared.Segment.{Segment}
use Rattle.t2_read_segments.specs.Segments.{limit_after, current_segment}
use Rattle.t2_read_segments.specs.Reading.{Reading, stopped, next_segment}

-- ---- the segment that the next passes go into

abbrev segment_is : Bool → ℕ → ℕ → Segment
segment_is o m u = record { opens = o; limit = m; used = u }

pub segment-opens : (ws : List ℕ) (at next : ℕ) → get_or ws (at + 2) 0 ≡ get_or ws (at + 3) 0 → next
    ≡ limit_after (get_or ws 2 0) (get_or ws (at + 2) 0) → segment_is true next 0 ≡ current_segment ws (block_at at)
unfolding current_segment opens_segment current_limit current_passes limit_after
segment-opens ws at next e q = rw (q, eq-eqb (get_or ws (at + 2) 0) (get_or ws (at + 3) 0) e)

pub segment-open : (ws : List ℕ) (at : ℕ) → get_or ws (at + 2) 0 ≢ get_or ws (at + 3) 0
    → segment_is false (get_or ws (at + 2) 0) (get_or ws (at + 3) 0) ≡ current_segment ws (block_at at)
unfolding current_segment opens_segment current_limit current_passes
segment-open ws at e = rw (ne_eqb (get_or ws (at + 2) 0) (get_or ws (at + 3) 0) e)

-- ---- reading it

pub opens_word : (opens : Bool) → bool_byte opens ≡ cond opens 1 0
opens_word true = refl
opens_word false = refl

module _ (src : List ℕ) (i at n : ℕ) (a : Reading) (w : ℕ) (is : w ≡ width (get_or a.words (at + 1) 0) n) where
  pub segment-wide : 32 < w → stopped 9 a ≡ next_segment src i (block_at at) n a
  unfolding next_segment
  segment-wide h = sym (if-lt 32 _ _ _ (subst (λ (z : ℕ). 32 < z) is h))

  pub segment-past_records : w ≤ 32 → a.room ≤ a.count → stopped 13 a ≡ next_segment src i (block_at at) n a
  unfolding next_segment
  segment-past_records h l = sym (if-ge 32 _ _ _ (subst (λ (z : ℕ). z ≤ 32) is h) ∙ if-le _ _ _ _ l)

  abbrev stored : Segment → Decoded → List ℕ → ℕ → Reading
  stored s len rows sum =
      record {
        words = set (set a.words (at + 2) s.limit) (at + 3) (s.used + n);
        reports = a.reports;
        records = rows;
        bio = len.bio;
        count = a.count + 1;
        room = a.room;
        bytes = sum;
        refusal = 0;
      }

  pub segment-read : (s : Segment) (len : Decoded) (opens : ℕ) (rows : List ℕ) (sum : ℕ) → w ≤ 32 → a.count < a.room → s
      ≡ current_segment a.words (block_at at) → len ≡ read_bits src w a.bio
      → opens ≡ cond s.opens 1 0 → rows ≡ put_record a.records a.count i opens n len.value → sum ≡ (a.bytes + len.value) % 2 ^ 64
      → stored s len rows sum ≡ next_segment src i (block_at at) n a
  unfolding next_segment current_segment
  segment-read s len opens rows sum h l p q o u t =
      let e : len ≡ read_bits src (width (get_or a.words (at + 1) 0) n) a.bio = q ∙ ap (λ (z : ℕ). read_bits src z a.bio) is in
      (λ j. stored s len ((u ∙ ap (λ (z : ℕ). put_record a.records a.count i z n len.value) o) j) (t j))
      ∙ (λ j. stored (p j) (e j) (put_record a.records a.count i (cond (p j).opens 1 0) n (e j).value) ((a.bytes + (e j).value) % 2 ^ 64))
      ∙ sym (if-ge 32 _ _ _ (subst (λ (z : ℕ). z ≤ 32) is h) ∙ if-gt _ _ _ _ l)
