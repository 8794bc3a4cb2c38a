-- A walk and a climb computed, and why the statement asks for sides up to 64 and for a leaf.
use mathlib.Core.Path.{◌≡◌, refl}
use mathlib.Core.List.{[], ◌∷◌}
use lib.ListN.{take}
use Rattle.t800.specs.TagTree.{levels_from, levels, nodes_in, nodes, parent_from, parent_of, climb_from, path_to_root}
use Rattle.tgt.specs.Walk.{node_on, walk_from, walk_down}

-- the last leaf of 7 × 3, under levels of 4 × 2, 2 × 1 and 1 × 1 nodes
last_of_seven_by_three : (walk_down 7 3 20 ≡ 31 ∷ 30 ∷ 28 ∷ 20 ∷ []) × (path_to_root 7 3 20 ≡ 20 ∷ 28 ∷ 30 ∷ 31 ∷ [])
unfolding levels_from levels nodes_in parent_from parent_of climb_from path_to_root node_on walk_from walk_down
last_of_seven_by_three = (refl, refl)

-- of 65 leaves in a row the seventh level has two nodes, and the walk to the first leaf begins at the first of them
sixty_five : (take 1 (walk_down 65 1 0) ≡ 132 ∷ []) × (nodes 65 1 ≡ 134)
unfolding levels_from levels nodes_in nodes node_on walk_from walk_down
sixty_five = (refl, refl)

-- two leaves are numbered 0 and 1; 2 is the root
no_leaf : (walk_down 2 1 2 ≡ 2 ∷ 2 ∷ []) × (path_to_root 2 1 2 ≡ 2 ∷ [])
unfolding levels_from levels nodes_in parent_from parent_of climb_from path_to_root node_on walk_from walk_down
no_leaf = (refl, refl)
