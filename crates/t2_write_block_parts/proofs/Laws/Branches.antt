-- Which branch codes a block's inclusion and its zero planes.
use mathlib.Core.Path.{◌≡◌, sym}
use mathlib.Core.Logic.{◌≢◌}
use mathlib.Core.Bool.{cond}
use mathlib.Core.List.{List, [], ◌∷◌, reverse}
use Prim.Native.Nat.{ℕ, ◌+◌}
use lib.Dec.{ltb}
use lib.ListN.{get_or}
use Rattle.t800.specs.State.{Block, not_yet_planes}
use Rattle.t800.specs.TagTree.{code_path}
use Rattle.t800.specs.WriteHeader.{is_new, code_inclusion, code_zero_planes}
use Rattle.t800_laws.proofs.Laws.Tests.{if-eq, if-ne}

module _ (ws : List ℕ) (k : Block) where
  pub incl_new : (t c : ℕ) → get_or ws k.at 0 ≡ 0 → code_path k.incl_tree (t + 1) (reverse k.path) 0 ws ≡ code_inclusion t k c ws
  unfolding code_inclusion is_new
  incl_new t c e = sym (if-eq (get_or ws k.at 0) 0 _ _ e)

  pub incl_old : (t c : ℕ) → get_or ws k.at 0 ≢ 0 → record { bits = cond (ltb 0 c) 1 0 ∷ []; words = ws } ≡ code_inclusion t k c ws
  unfolding code_inclusion is_new
  incl_old t c e = sym (if-ne (get_or ws k.at 0) 0 _ _ e)

  pub planes_new : get_or ws k.at 0 ≡ 0 → code_path k.zero_tree not_yet_planes (reverse k.path) 0 ws ≡ code_zero_planes k ws
  unfolding code_zero_planes is_new
  planes_new e = sym (if-eq (get_or ws k.at 0) 0 _ _ e)

  pub planes_old : get_or ws k.at 0 ≢ 0 → record { bits = []; words = ws } ≡ code_zero_planes k ws
  unfolding code_zero_planes is_new
  planes_old e = sym (if-ne (get_or ws k.at 0) 0 _ _ e)
