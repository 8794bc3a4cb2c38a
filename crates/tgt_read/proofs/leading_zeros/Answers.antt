use mathlib.Core.Path.{sym, subst}
use Prim.Native.Nat.{ℕ, ◌-◌, ◌≤◌}
use lib.Count.{count_leading_zeros}
use Rattle.tgt_read.specs.Reading.{LeadingZeros}
use Rattle.tgt_read.proofs.Laws.Seeking.{leading_held}
use Rattle.tgt_read.proofs.leading_zeros.Goals as goal

pub overflow_sub-result : goal.overflow_sub-result
overflow_sub-result c = let s = c in
    subst (λ (n : ℕ). 32 - s.args.b.ct ≤ count_leading_zeros 32 n) (sym c.held.ensures) (leading_held s.args.b s.requires).0

pub returns : goal.returns
returns c = let s = c in
    subst (λ (n : ℕ). LeadingZeros s.args.b (count_leading_zeros 32 n - (32 - s.args.b.ct))) (sym c.held.ensures)
    (leading_held s.args.b s.requires).1
