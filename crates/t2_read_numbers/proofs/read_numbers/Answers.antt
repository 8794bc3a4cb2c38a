use mathlib.Core.Path.{sym, ap, ◌∙◌}
use Rattle.t800.specs.Reports.{as_words}
use Rattle.t800.specs.Packet.{refused_answer, read_result}
use Rattle.t2_read_numbers.proofs.Numbers.{numbers_refused, numbers_read}
use Rattle.t2_read_numbers.proofs.read_numbers.Goals as goal

pub returns-then-not-four_each : goal.returns-then-not-four_each
returns-then-not-four_each c =
    let a = c.args in
    ap (read_result as_words a.state.now a.scratch.now a.reports.now a.work.now)
    (c.refused.ensures ∙ ap refused_answer c.work_refusal.ensures)
    ∙ sym (numbers_refused a.state.now a.scratch.now a.markers a.src.now a.reports.now a.work.now
    a.room (sym c.four_each.ensures ∙ c.if-not-four_each.true))

pub returns : goal.returns
returns c =
    let a = c.args in
    c.read.ensures
    ∙ sym (numbers_read a.state.now a.scratch.now a.markers a.src.now a.reports.now a.work.now a.room
    (sym c.four_each.ensures
    ∙ c.if-not-four_each.false))
