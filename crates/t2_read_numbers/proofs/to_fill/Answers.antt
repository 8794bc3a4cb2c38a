use mathlib.Core.Path.{sym, ◌∙◌}
use Rattle.t2_read_numbers.proofs.Numbers.{fill_found, fill_9, fill_12, fill_13, fill_none}
use Rattle.t2_read_numbers.proofs.to_fill.Goals as goal

pub returns-then-a-eq0 : goal.returns-then-a-eq0
returns-then-a-eq0 c = let s = c in fill_found s.args.a s.args.room c.if-a-eq0.true

pub returns-then-a-from : goal.returns-then-a-from
returns-then-a-from c =
    let s = c in
    fill_9 s.args.a s.args.room c.if-a-eq0.false (c.if-a-from.true ∙ c.from.ensures)

pub returns-then-a-from-2 : goal.returns-then-a-from-2
returns-then-a-from-2 c =
    let s = c in
    fill_12 s.args.a s.args.room c.if-a-eq0.false (λ e. c.if-a-from.false (e ∙ sym c.from.ensures))
    (c.if-a-from-2.true ∙ c.from-2.ensures)

pub returns-then-a-from-3 : goal.returns-then-a-from-3
returns-then-a-from-3 c =
    let s = c in
    fill_13 s.args.a s.args.room c.if-a-eq0.false (λ e. c.if-a-from.false (e ∙ sym c.from.ensures))
    (λ e. c.if-a-from-2.false (e ∙ sym c.from-2.ensures)) (c.if-a-from-3.true ∙ c.from-3.ensures)

pub returns : goal.returns
returns c =
    let s = c in
    fill_none s.args.a s.args.room c.if-a-eq0.false (λ e. c.if-a-from.false (e ∙ sym c.from.ensures))
    (λ e. c.if-a-from-2.false (e ∙ sym c.from-2.ensures)) (λ e. c.if-a-from-3.false (e ∙ sym c.from-3.ensures))
