use mathlib.Core.Path.{subst}
use Prim.Native.Nat.{ℕ, ◌≤◌, ◌<◌}
use Rattle.t2_read_marks.proofs.Laws.Markers.{not_used, too_few, first_differs, second_differs, both_there}
use Rattle.t2_read_marks.proofs.read_marker.Goals as goal

pub returns-then-not-used : goal.returns-then-not-used
returns-then-not-used c =
    let s = c in
    not_used s.args.used s.args.m.bytes s.args.m.second s.args.src.now s.args.p c.if-not-used.true

pub returns-then-saturating_sub-m : goal.returns-then-saturating_sub-m
returns-then-saturating_sub-m c =
    let s = c in
    too_few s.args.used s.args.m.bytes s.args.m.second s.args.src.now s.args.p
    c.if-not-used.false
    (subst (λ (n : ℕ). n < s.args.m.bytes) c.saturating_sub.ensures c.if-saturating_sub-m.true)

pub returns-then-src-p : goal.returns-then-src-p
returns-then-src-p c =
    let s = c in
    first_differs s.args.used s.args.m.bytes s.args.m.second s.args.src.now s.args.p
    c.if-not-used.false
    (subst (λ (n : ℕ). s.args.m.bytes ≤ n) c.saturating_sub.ensures
    c.if-saturating_sub-m.false) c.if-src-p.true

pub returns-then-src-p-2 : goal.returns-then-src-p-2
returns-then-src-p-2 c =
    let s = c in
    second_differs s.args.used s.args.m.bytes s.args.m.second s.args.src.now s.args.p
    c.if-not-used.false
    (subst (λ (n : ℕ). s.args.m.bytes ≤ n) c.saturating_sub.ensures
    c.if-saturating_sub-m.false) c.if-src-p.false c.if-src-p-2.true

pub returns : goal.returns
returns c =
    let s = c in
    both_there s.args.used s.args.m.bytes s.args.m.second s.args.src.now s.args.p
    c.if-not-used.false
    (subst (λ (n : ℕ). s.args.m.bytes ≤ n) c.saturating_sub.ensures
    c.if-saturating_sub-m.false) c.if-src-p.false c.if-src-p-2.false
