-- New blocks set one after another, with the list of counts whole and the place in it running on: `set-is-blocks` (t2_write_new_blocks)
-- says that this is t800's setting of what is left of the list.
use Rattle.std.specs.Prelude.{ℕ, ◌+◌, cond, ◌&&◌, List, [], ◌∷◌, ltb, get_or}
use Rattle.t800.specs.State.{Block}
use Rattle.t800.specs.TagTree.{set_value}
use Rattle.t800.specs.WriteHeader.{is_new}

-- a block that is new in layer t is set in its inclusion tree
unfoldable pub set_next : ℕ → Block → ℕ → List ℕ → List ℕ
set_next t k c ws = cond (is_new ws k && ltb 0 c) (set_value k.incl_tree k.path t ws) ws

unfoldable pub set_all : ℕ → List ℕ → List Block → ℕ → List ℕ → List ℕ
set_all t cs [] block ws = ws
set_all t cs (k ∷ ks) block ws = set_all t cs ks (block + 1) (set_next t k (get_or cs block 0) ws)
