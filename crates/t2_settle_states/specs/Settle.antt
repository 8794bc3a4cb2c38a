-- The states of a layer's precincts, and when they can be settled from the scratch.
use Rattle.std.specs.Prelude.{◌≡◌, [], ◌∷◌, ◌++◌, ℕ, ◌+◌, ◌-◌, ◌≤◌, length, get_or, set, take, drop}
use Rattle.t800.specs.Base.{Words}
use Rattle.t800.specs.State.{layer}

-- Of each precinct, how many words its state and how many passes its packet has: where its state can be settled from its part of the
-- scratch. Without passes the next layer is the only word that differs.
abbrev pub Settles : (words passes scratch states : Words) → Type 0
Settles [] passes scratch states = Unit {0}
Settles (n ∷ words) passes scratch states =
    (13 ≤ n) × (n ≤ length states)
    × (get_or passes 0 0 ≡ 0 → take n scratch ≡ set (take n states) 3 (layer (take n states) + 1))
    × Settles words (drop 1 passes) (drop n scratch) (drop n states)

-- the words from `wait` to `at` from the scratch, and word 3 from `at` on
abbrev pub settle_layer : (scratch states : Words) (wait at : ℕ) → Words
settle_layer scratch states wait at =
    set (take wait states ++ (take (at - wait) (drop wait scratch) ++ drop (at - wait) (drop wait states))) (at + 3)
    (get_or scratch (at + 3) 0)
