-- A precinct's geometry as the code holds it: each tree's levels as an array of seven, and bands whose sides are in range.
use Rattle.std.specs.Prelude.{◌-◌, ◌≤◌, List, [], ◌∷◌, ◌++◌, map, length, replicate}
use Rattle.t800.specs.declared.Level.{Level}
use Rattle.t800.specs.declared.Band.{Band}
use Rattle.t800.specs.TagTree.{no_level, levels}

abbrev pub no_band : Band
no_band = record { across = 0; down = 0; planes = 0 }

-- the levels of a tree, and empty ones up to seven
unfoldable pub padded : List Level → List Level
padded ls = ls ++ replicate (7 - length ls) no_level

-- the levels of each band's trees
unfoldable pub band_levels : List Band → List (List Level)
band_levels bs = map (λ b. padded (levels b.across b.down)) bs

-- both sides are in range
abbrev pub SidesUpTo64 : Band → Type 0
SidesUpTo64 b = (b.across ≤ 64) × (b.down ≤ 64)

-- each band's are
abbrev pub AllUpTo64 : List Band → Type 0
AllUpTo64 [] = Unit {0}
AllUpTo64 (b ∷ bs) = SidesUpTo64 b × AllUpTo64 bs
