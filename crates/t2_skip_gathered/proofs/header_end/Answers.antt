use mathlib.Core.Path.{◌≡◌, sym, ap, ◌∙◌, subst}
use Prim.Native.Nat.{ℕ, ◌+◌, ◌-◌, ◌≤◌}
use native.Mathlib.Omega.{arith}
use Rattle.std.proofs.Common.{Option, None, Some}
use Rattle.t800.specs.MarkerSegments.{MarkerRead}
use Rattle.t2_read_marks.specs.Marks.{marker_read}
use Rattle.t2_skip_windows.specs.declared.InWindow.{InWindow}
use Rattle.t2_skip_gathered.specs.Headers.{taken_of}
use Rattle.t2_skip_gathered.proofs.Laws.Ending.{place_of, ends_at, taken_at, taken_same, skip_small, taken_up_to, taken_from, ended, end_short, end-found}
use Rattle.t2_skip_gathered.proofs.header_end.Goals as goal

-- how far the bytes found go

near : (at left : ℕ) (s : InWindow) (taken : ℕ) → Some taken ≡ taken_of s.run.bio.buf (place_of at s) left → taken ≤ place_of at s + 1
near at left s taken e =
    let is : taken ≡ taken_at at left s = taken_same (ends_at at left s) (taken_at at left s) taken e in
    subst (λ (n : ℕ). n ≤ place_of at s + 1) (sym is) (taken_up_to at left s)

far : (at left : ℕ) (s : InWindow) (taken : ℕ) → Some taken ≡ taken_of s.run.bio.buf (place_of at s) left → taken + 2 ≤ left
    → place_of at s ≤ taken
far at left s taken e h =
    let is : taken ≡ taken_at at left s = taken_same (ends_at at left s) (taken_at at left s) taken e in
    subst (λ (n : ℕ). place_of at s ≤ n) (sym is) (taken_from at left s (subst (λ (n : ℕ). n + 2 ≤ left) is h))

pub returns-in_err-taken : goal.returns-in_err-taken
returns-in_err-taken c bytes holds all =
    let a = c.args in
    rw c.from_residual.ensures (ended bytes a.window.now a.s a.plain a.at a.eph holds all c.in_err-taken.ensures)

pub overflow_add-taken : goal.overflow_add-taken
overflow_add-taken c =
    let a = c.args in
    omega (arith, near a.at (a.plain - a.at) a.s c.in_ok-taken.taken c.in_ok-taken.ensures, c.requires.4)

pub returns-then-left-taken : goal.returns-then-left-taken
returns-then-left-taken c bytes holds all =
    let a = c.args in
    end_short bytes a.window.now a.s a.plain a.at a.eph holds all c.in_ok-taken.taken c.in_ok-taken.ensures c.if-left-taken.true

pub overflow_sub-index : goal.overflow_sub-index
overflow_sub-index c =
    let a = c.args in
    omega (arith, far a.at (a.plain - a.at) a.s c.in_ok-taken.taken c.in_ok-taken.ensures c.if-left-taken.false)

pub overflow_add-result : goal.overflow_add-result
overflow_add-result c =
    let a = c.args in
    omega (
      arith,
      near a.at (a.plain - a.at) a.s c.in_ok-taken.taken c.in_ok-taken.ensures,
      c.requires.4,
      ap (λ (e : MarkerRead). e.skip) c.read_marker-e.ensures,
      skip_small a.eph 0x92 a.window.now (a.s.run.bio.bp + (c.in_ok-taken.taken - (a.s.base + a.s.run.bio.bp - a.at))),
    )

pub returns : goal.returns
returns c bytes holds all =
    let a = c.args in
    end-found bytes a.window.now a.s a.plain a.at a.eph holds all c.in_ok-taken.taken c.in_ok-taken.ensures
    c.requires.1 c.requires.3 c.if-left-taken.false (marker_read c.read_marker-e.result) c.read_marker-e.ensures
