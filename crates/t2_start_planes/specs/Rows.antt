-- The zero planes of one row of blocks.
use Rattle.std.specs.Prelude.{ℕ, ◌+◌, ◌-◌, ◌<◌, List, [], ◌∷◌}
use Rattle.t800.specs.TagTree.{set_value}
use Rattle.tgt.specs.Path.{path_over, PathIn}

-- the leaves of a row from column x on, in a tree at `base` of a band with m planes; ps are the blocks' planes
unfoldable pub set_row : ℕ → List ℕ → ℕ → ℕ → ℕ → List ℕ → List ℕ → List ℕ
set_row base row depth m x [] ws = ws
set_row base row depth m x (p ∷ ps) ws = set_row base row depth m (x + 1) ps (set_value base (path_over row depth x) (m - p) ws)

-- the nodes over the first n columns of a row lie in a list of so many words
abbrev pub ColumnsIn : ℕ → ℕ → List ℕ → ℕ → ℕ → Type 0
ColumnsIn size base row depth n = (x : ℕ) → x < n → PathIn size base row depth x
