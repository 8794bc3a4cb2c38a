use mathlib.Core.Path.{◌≡◌}
use lib.ListN.{length}
use Rattle.t2_spread_row.proofs.Laws.Turns.{Underway}
use Rattle.t2_spread_row.proofs.spread_places.Given as goal

abbrev pub invariant-loop-place : goal.invariant-loop-place
invariant-loop-place l =
    (length l.scratch ≡ length l.initial.scratch) × (length l.window ≡ length l.initial.window) × (length l.row ≡ length l.initial.row)
    × Underway l.segments l.bodies l.m l.states l.places l.initial.row l.place-index l.scratch l.window l.row l.g
