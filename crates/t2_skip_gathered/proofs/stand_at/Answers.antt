use mathlib.Core.Path.{◌≡◌, sym, ap, ◌∙◌}
use Prim.Native.Nat.{ℕ, ◌+◌, ◌-◌, ◌≤◌}
use native.Mathlib.Omega.{arith}
use lib.ListN.{length}
use Rattle.t800.specs.PackedHeaders.{unpacked}
use Rattle.t2_read_segments.specs.declared.Run.{Run}
use Rattle.t2_unpack_headers.proofs.Laws.Windows.{window_length}
use Rattle.t2_skip_windows.specs.Windows.{window_bytes, most_of_block}
use Rattle.t2_skip_gathered.specs.Headers.{start_run, StandsBefore}
use Rattle.t2_skip_gathered.proofs.stand_at.Goals as goal

before : (at base place : ℕ) (run : Run) → run ≡ start_run place → base + place ≡ at → place + most_of_block ≤ window_bytes
    → StandsBefore at (record { run = run; base = base })
before at base place run e h n =
    let p : run.bio.bp ≡ place = ap (λ (r : Run). r.bio.bp) e in
    record { run = e ∙ ap start_run (sym p); place = omega arith; enough = omega arith }

pub returns-then-place-le-LAST_PLACE : goal.returns-then-place-le-LAST_PLACE
returns-then-place-le-LAST_PLACE c =
    let s = c in
    let a = s.args in
    (s.requires, before a.at a.base (a.at - a.base) c.start_run-run.result c.start_run-run.ensures (omega arith) (omega arith))

pub fill_from-requires : goal.fill_from-requires
fill_from-requires c =
    let s = c in
    let a = s.args in
    (s.requires.right, ap length s.requires.holds ∙ window_length (unpacked a.segments.now).bytes a.base window_bytes)

pub returns : goal.returns
returns c =
    let a = c.args in (
      c.fill_from.ensures,
      before a.at a.at 0 c.start_run-first.result c.start_run-first.ensures (omega arith)
          (omega arith),
    )
