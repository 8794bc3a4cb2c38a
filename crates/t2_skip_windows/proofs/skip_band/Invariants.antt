use mathlib.Core.Path.{◌≡◌}
use mathlib.Core.List.{List}
use Prim.Native.Nat.{ℕ, ◌+◌, ◌*◌, ◌<◌}
use lib.ListN.{length, drop}
use Rattle.t800.specs.PackedHeaders.{unpacked}
use Rattle.t800.specs.State.{band_nodes, blocks_in}
use Rattle.tcd_places.specs.Places.{band_blocks}
use Rattle.t2_skip_windows.specs.declared.InWindow.{InWindow}
use Rattle.t2_skip_windows.specs.Windows.{WindowOn, Somewhere, Skips}
use Rattle.t2_skip_windows.proofs.Laws.BandParts.{left}
use Rattle.t2_skip_windows.proofs.skip_band.Given as goal

abbrev pub invariant-loop-i : goal.invariant-loop-i
invariant-loop-i l =
    (WindowOn l.segments l.window l.stand.base)
    × (Somewhere (l.block + l.i) l.words l.stand)
    × (length l.words ≡ length l.initial.words)
    × (length l.window ≡ length l.initial.window)
    × (drop (l.g.start + 6 * band_nodes l.band + 4 * l.i) l.words ≡ drop (l.g.start + 6 * band_nodes l.band + 4 * l.i) l.initial.words)
    × (l.i ≡ l.at.y * l.band.across + l.at.x)
    × (l.i < blocks_in l.band → l.at.x < l.band.across)
    × ((vs : List ℕ) (o : InWindow)
    → Skips (unpacked l.segments).bytes l.layer (l.block + l.i) (left l.g.start l.band l.i) l.words l.stand vs o
    → Skips (unpacked l.segments).bytes l.layer l.block (band_blocks l.g.start l.band) l.initial.words l.initial.stand vs o)
