use Rattle.std.proofs.Common.{◌≡◌, ℕ, ◌+◌, ◌*◌, ◌/◌, ◌%◌, ◌^◌, ◌<◌, ◌≤◌, List, length, get_or, refl, ap, ◌∙◌, le-ltb, lt-ltb}
use Rattle.t800.specs.declared.SegmentRecord.{SegmentRecord}
use Rattle.t2_records.specs.Segments.{segment_after}
use Rattle.t2_records.proofs.segment_after.Goals as goal

-- the record of the row where there is one, or zeros.

module _ (ws : List ℕ) (i : ℕ) (last : SegmentRecord) (start : ℕ) (sum : start ≡ (last.start + last.bytes) % 2 ^ 64) where
  in_row : i < length ws / 4
      → record {
        block = get_or ws (i * 4) 0;
        opens = get_or ws (i * 4 + 1) 0;
        passes = get_or ws (i * 4 + 2) 0;
        bytes = get_or ws (i * 4 + 3) 0;
        start = start;
      }
      ≡ segment_after ws i last
  unfolding segment_after
  in_row h = rw (lt-ltb i (length ws / 4) h, sum) refl

  past_end : length ws / 4 ≤ i → record { block = 0; opens = 0; passes = 0; bytes = 0; start = start } ≡ segment_after ws i last
  unfolding segment_after
  past_end h = rw (le-ltb i (length ws / 4) h, sum) refl

pub returns-then-i-words : goal.returns-then-i-words
returns-then-i-words c =
    let a = c.args in
    in_row a.words.now a.i a.last _ (ap (λ (n : ℕ). (a.last.start + n) % 2 ^ 64) c.from.ensures) c.if-i-words.true

pub returns : goal.returns
returns c =
    let a = c.args in
    ap (λ (r : SegmentRecord). record r { start = (a.last.start + c.from.result) % 2 ^ 64 }) c.no_segment.ensures
    ∙ past_end a.words.now a.i a.last _ (ap (λ (n : ℕ). (a.last.start + n) % 2 ^ 64) c.from.ensures) c.if-i-words.false
