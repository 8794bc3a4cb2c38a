use mathlib.Core.Path.{sym}
use lib.Seq.{set_out}
use Rattle.bio_bytes.proofs.store.Goals as goal

-- `set` past the end changes nothing.
pub returns-else-at-out : goal.returns-else-at-out
returns-else-at-out c = sym (set_out c.args.out.now c.args.at c.args.byte c.if-at-out.false)
