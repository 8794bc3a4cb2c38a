use mathlib.Core.Path.{◌≡◌}
use lib.ListN.{length}
use Rattle.t2_gather_row.proofs.Laws.Turns.{Underway}
use Rattle.t2_gather_row.proofs.gather_places.Given as goal

abbrev pub invariant-loop-place : goal.invariant-loop-place
invariant-loop-place l =
    (length l.scratch ≡ length l.initial.scratch) × (length l.headers ≡ length l.initial.headers) × (length l.bodies ≡ length l.initial.bodies)
    × Underway l.row l.m l.states l.places l.initial.headers l.initial.bodies l.place-index l.scratch l.headers l.bodies l.g
