use Rattle.std.proofs.Common.{sym, ◌∙◌}
use Rattle.t800_laws.proofs.Laws.Tests.{if-eq, if-ne}
use Rattle.t2_read_segments.specs.Segments.{limit_after}
use Rattle.t2_read_segments.proofs.limit_after.Goals as goal

pub returns-then-limit-eq0 : goal.returns-then-limit-eq0
unfolding limit_after
returns-then-limit-eq0 c = c.first_limit.ensures ∙ sym (if-eq _ 0 _ _ c.if-limit-eq0.true)

pub returns : goal.returns
unfolding limit_after
returns c = c.next_limit.ensures ∙ sym (if-ne _ 0 _ _ c.if-limit-eq0.false)
