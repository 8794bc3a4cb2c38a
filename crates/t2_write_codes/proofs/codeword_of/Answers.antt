use mathlib.Core.Path.{sym, subst}
use Rattle.t2_write_codes.specs.PassTable.{IsCodewordOf}
use Rattle.t2_write_codes.proofs.Laws.PassTable.{codeword_at}
use Rattle.t2_write_codes.proofs.codeword_of.Goals as goal

pub returns : goal.returns
returns c =
    let s = c in
    let value = c.from.ensures in
    let len = c.from-2.ensures in
    subst (IsCodewordOf s.args.n) (sym (λ i. record { value = value i; len = len i }))
    (codeword_at s.args.codes.now s.args.n s.requires.0 s.requires.1 s.requires.2)
