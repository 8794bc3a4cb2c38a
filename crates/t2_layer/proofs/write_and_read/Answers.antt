use mathlib.Core.Path.{◌∙◌}
use Rattle.t800.specs.WriteHeader.{contribution}
use Rattle.t2_layer.specs.Layer.{first_layer, lent}
use Rattle.t2_layer.proofs.Layer.{ends_at_writer, ends_at_reader, ends_at_packet, ends_read}
use Rattle.t2_layer.proofs.write_and_read.Goals as goal

pub returns-then-first-ne0 : goal.returns-then-first-ne0
returns-then-first-ne0 c =
    let a = c.args in
    ends_at_writer (first_layer a.count a.bands a.style a.planes.now
    (contribution a.counts.now a.lengths.now a.marks.now) a.body.now a.markers a.number)
    (lent a.writer.now a.reader.now a.scratch.now a.output.now a.reports.now a.records.now) _
    c.start_writer-first.ensures _ c.refused.ensures c.if-first-ne0.true

pub returns-then-second-ne0 : goal.returns-then-second-ne0
returns-then-second-ne0 c =
    let a = c.args in
    ends_at_reader (first_layer a.count a.bands a.style a.planes.now
    (contribution a.counts.now a.lengths.now a.marks.now) a.body.now a.markers a.number)
    (lent a.writer.now a.reader.now a.scratch.now a.output.now a.reports.now a.records.now) _
    c.start_writer-first.ensures
    c.if-first-ne0.false _
    c.start_reader-second.ensures _ c.refused-then-second-ne0.ensures c.if-second-ne0.true

pub returns-then-written-ne0 : goal.returns-then-written-ne0
returns-then-written-ne0 c =
    let a = c.args in
    ends_at_packet (first_layer a.count a.bands a.style a.planes.now
    (contribution a.counts.now a.lengths.now a.marks.now) a.body.now a.markers a.number)
    (lent a.writer.now a.reader.now a.scratch.now a.output.now a.reports.now a.records.now) _
    c.start_writer-first.ensures
    c.if-first-ne0.false _
    c.start_reader-second.ensures
    c.if-second-ne0.false _
    c.write-written.ensures _ c.refused-then-written-ne0.ensures
    c.if-written-ne0.true

pub shape_of-writer : goal.shape_of-writer
shape_of-writer c =
    c.write-written.auto.state
    ∙ c.start_writer-first.auto.state

pub returns : goal.returns
returns c =
    let a = c.args in
    ends_read (first_layer a.count a.bands a.style a.planes.now
    (contribution a.counts.now a.lengths.now a.marks.now) a.body.now a.markers a.number)
    (lent a.writer.now a.reader.now a.scratch.now a.output.now a.reports.now a.records.now) _
    c.start_writer-first.ensures
    c.if-first-ne0.false _
    c.start_reader-second.ensures c.if-second-ne0.false _
    c.write-written.ensures _
    c.read.ensures
    c.if-written-ne0.false
