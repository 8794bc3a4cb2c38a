use mathlib.Core.Path.{ap, ◌∙◌}
use native.Mathlib.Omega.{arith}
use Rattle.t800.specs.PackedHeaders.{unpacked}
use Rattle.t2_unpack_headers.specs.Windows.{window_of}
use Rattle.t2_unpack_headers.proofs.Laws.Cursors.{first_cursor}
use Rattle.t2_skip_windows.proofs.fill_from.Goals as goal

pub copy_headers-requires : goal.copy_headers-requires
copy_headers-requires c = let s = c in (first_cursor s.args.segments.now s.requires.0, omega arith)

pub returns : goal.returns
returns c =
    let s = c in
    let a = s.args in
    record {
      right = s.requires.0;
      holds = c.copy_headers.ensures ∙ ap (window_of (unpacked a.segments.now).bytes a.from) s.requires.1;
    }
