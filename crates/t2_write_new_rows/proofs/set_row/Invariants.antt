use mathlib.Core.Path.{◌≡◌}
use Prim.Native.Nat.{◌+◌, ◌-◌}
use lib.ListN.{length}
use Rattle.tcd_places.specs.Places.{row_blocks}
use Rattle.t2_write_new_rows.specs.Setting.{set_all}
use Rattle.t2_write_new_rows.proofs.set_row.Given as goal

abbrev pub invariant-loop-i : goal.invariant-loop-i
invariant-loop-i l =
    (length l.words ≡ length l.initial.words)
    × (set_all l.layer l.counts (row_blocks l.p l.row 0 (l.n - l.i) l.i) (l.block + l.i) l.words ≡ set_all l.layer l.counts (row_blocks l.p l.row 0 l.n 0) l.block l.initial.words)
