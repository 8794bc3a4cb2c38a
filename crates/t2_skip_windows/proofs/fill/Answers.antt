use mathlib.Core.Path.{◌≡◌, sym, ap, ◌∙◌}
use Prim.Native.Nat.{ℕ}
use native.Mathlib.Omega.{arith}
use lib.ListN.{length}
use Rattle.t800.specs.PackedHeaders.{unpacked}
use Rattle.t2_read_segments.specs.declared.Run.{Run}
use Rattle.t2_unpack_headers.proofs.Laws.Windows.{window_length}
use Rattle.t2_skip_windows.specs.Windows.{run_at, window_bytes}
use Rattle.t2_skip_windows.proofs.fill.Goals as goal

pub fill_from-requires : goal.fill_from-requires
fill_from-requires c =
    let s = c in
    let a = s.args in
    (s.requires.0.right, ap length s.requires.0.holds ∙ window_length (unpacked a.segments.now).bytes a.s.base window_bytes)

pub returns : goal.returns
returns c =
    let a = c.args in
    let e = c.run_at-first.ensures in
    let p : c.run_at-first.result.bio.bp ≡ 0 = ap (λ (r : Run). r.bio.bp) e in (
      c.fill_from.ensures,
      record { run = e ∙ ap (λ (n : ℕ). run_at n a.s.run) (sym p); place = omega (arith, p); enough = omega (arith, p) },
    )
