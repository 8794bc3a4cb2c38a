use lib.ListN.{drop, get_or, set, take}
use mathlib.Core.List.{List, ◌++◌}
use mathlib.Core.Path.{ap}
use Prim.Native.Nat.{ℕ, ◌+◌, ◌-◌}
use Rattle.t2_settle_states.proofs.settle_layer.Goals as goal

pub returns : goal.returns
returns c =
    let a = c.args in
    ap (λ (part : List ℕ).
    set (take a.wait a.states.now ++ (part ++ drop (a.at - a.wait) (drop a.wait a.states.now))) (a.at + 3)
    (get_or a.scratch.now (a.at + 3) 0))
    c.copy.ensures
