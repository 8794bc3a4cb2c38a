-- A packet without passes put in anywhere in a list behind a start.
use mathlib.Core.Path.{subst}
use mathlib.Core.List.{List, ◌∷◌, ◌++◌, append_assoc}
use Prim.Native.Nat.{ℕ, ◌+◌}
use lib.ListN.{length, take}
use Rattle.empty_packets.specs.LaterPackets.{Accepted, state_behind}
use Rattle.empty_packets.specs.LaterPackets.{started_state, InsertionChangesAtMost}
use Rattle.empty_packets.proofs.Between.{reached_started}
use Rattle.empty_packets.proofs.Between.{reached_list}
use Rattle.empty_packets.proofs.Insertion.{accepted_append, changes_at_most}

pub insertion_changes_at_most : InsertionChangesAtMost
insertion_changes_at_most count given style planes lent started before e between p behind a none nones some =
    let ws : List ℕ = started_state count given style planes lent in
    let r = accepted_append ws before (e ∷ between ++ p ∷ behind)
    (subst (Accepted ws) (append_assoc before (e ∷ between) (p ∷ behind)) a) in
    changes_at_most (take count given) style (0 + length before) (state_behind ws before) e between p behind
    (reached_list (take count given) style 0 ws before (reached_started count given style planes lent started) r.0)
    r.1 none nones some
