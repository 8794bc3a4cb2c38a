-- A row's new blocks set: one more, and what is left then.
use mathlib.Core.Path.{◌≡◌, sym, ap, ◌∙◌}
use mathlib.Core.List.{List}
use Prim.Native.Nat.{ℕ, ◌+◌, ◌-◌, ◌<◌}
use native.Mathlib.Omega.{arith}
use lib.ListN.{get_or}
use Rattle.t800.specs.State.{Block}
use Rattle.tcd_places.specs.declared.Place.{Place}
use Rattle.tcd_places.specs.Places.{block_in, place_at, row_blocks}
use Rattle.tcd_places.proofs.Laws.Rows.{row_turn}
use Rattle.t2_write_new_rows.specs.Setting.{set_next, set_all}

pub sets_then : (n i : ℕ) (p : Place) (row : List ℕ) → i < n → (t block : ℕ) (cs ws vs : List ℕ)
    → vs ≡ set_next t (block_in (place_at p i) row 0) (get_or cs (block + i) 0) ws
    → set_all t cs (row_blocks p row 0 (n - (i + 1)) (i + 1)) (block + (i + 1)) vs
    ≡ set_all t cs (row_blocks p row 0 (n - i) i) (block + i) ws
unfolding set_all
sets_then n i p row h t block cs ws vs e =
    let a : block + (i + 1) ≡ block + i + 1 = omega arith in
    (λ j. set_all t cs (row_blocks p row 0 (n - (i + 1)) (i + 1)) (a j) (e j))
    ∙ sym (ap (λ (ks : List Block). set_all t cs ks (block + i) ws) (row_turn p row 0 n i h))
