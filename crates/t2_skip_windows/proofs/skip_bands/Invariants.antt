use mathlib.Core.Path.{◌≡◌}
use mathlib.Core.List.{List}
use Prim.Native.Nat.{ℕ, ◌*◌, ◌≤◌}
use lib.ListN.{length, take, drop}
use Rattle.t800.specs.PackedHeaders.{unpacked}
use Rattle.t800.specs.State.{blocks, blocks_at, end_of}
use Rattle.t2_read_bands.specs.Bands.{BandsFit}
use Rattle.t2_skip_windows.specs.declared.InWindow.{InWindow}
use Rattle.t2_skip_windows.specs.Windows.{WindowOn, Somewhere, Skips}
use Rattle.t2_skip_windows.proofs.skip_bands.Given as goal

abbrev pub invariant-loop-i : goal.invariant-loop-i
invariant-loop-i l =
    (WindowOn l.segments l.window l.stand.base)
    × (Somewhere l.block l.words l.stand)
    × (length l.words ≡ length l.initial.words)
    × (length l.window ≡ length l.initial.window)
    × (drop l.start l.words ≡ drop l.start l.initial.words)
    × (l.block ≤ 4096 * l.i)
    × (end_of l.start (drop l.i (take l.n l.bands)) ≤ length l.initial.words)
    × (BandsFit l.initial.words l.start (drop l.i (take l.n l.bands)))
    × ((vs : List ℕ) (o : InWindow)
    → Skips (unpacked l.segments).bytes l.layer l.block (blocks_at l.start (drop l.i (take l.n l.bands))) l.words l.stand vs o
    → Skips (unpacked l.segments).bytes l.layer 0 (blocks (take l.n l.bands)) l.initial.words l.initial.stand vs o)
