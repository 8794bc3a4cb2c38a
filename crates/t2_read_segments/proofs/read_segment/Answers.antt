use Rattle.std.proofs.Common.{ℕ, ◌%◌, ◌^◌, ◌+◌, ap, ◌∙◌, arith}
use Rattle.bio_read.specs.Reading.{decoded}
use Rattle.t2_read_segments.specs.declared.Run.{Run}
use Rattle.t2_read_segments.specs.Reading.{reading}
use Rattle.t2_read_segments.proofs.Laws.OneSegment.{opens_word, segment-wide, segment-past_records, segment-read}
use Rattle.t2_read_segments.proofs.read_segment.Goals as goal

pub overflow_cast-words : goal.overflow_cast-words
overflow_cast-words c = omega (arith, c.slice_known-3-1.given (c.args.at + 1))

pub field_width-width-requires : goal.field_width-width-requires
field_width-width-requires c = omega (arith, c.slice_known-3-1.given (c.args.at + 1))

pub returns-then-width-gt32 : goal.returns-then-width-gt32
returns-then-width-gt32 c =
    let s = c in
    λ reports. ap (λ (o : Run). reading s.args.words.now reports s.args.records.now o) c.refuse.ensures
    ∙ segment-wide s.args.src.now s.args.block s.args.at s.args.n
    (reading s.args.words.now reports s.args.records.now s.args.r) _ c.field_width-width.ensures
    c.if-width-gt32.true

pub returns-then-room-count : goal.returns-then-room-count
returns-then-room-count c =
    let s = c in
    λ reports. ap (λ (o : Run). reading s.args.words.now reports s.args.records.now o) c.refuse-then-room-count.ensures
    ∙ segment-past_records s.args.src.now s.args.block s.args.at s.args.n
    (reading s.args.words.now reports s.args.records.now s.args.r) _ c.field_width-width.ensures
    c.if-width-gt32.false c.if-room-count.true

pub returns : goal.returns
returns c =
    let s = c in
    λ reports. segment-read s.args.src.now s.args.block s.args.at s.args.n
    (reading s.args.words.now reports s.args.records.now s.args.r) _
    c.field_width-width.ensures s.args.s
    (decoded c.opj_bio_read-len.result) _ _ _
    c.if-width-gt32.false
    c.if-room-count.false s.requires.3
    c.opj_bio_read-len.ensures
    (c.from-opens.ensures ∙ opens_word _) c.put_record.ensures
    (ap (λ (z : ℕ). (c.args.r.bytes + z) % 2 ^ 64) c.from.ensures)
