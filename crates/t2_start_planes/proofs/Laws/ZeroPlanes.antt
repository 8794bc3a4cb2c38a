-- Zero planes are set band by band, row by row and block by block.
use mathlib.Core.Path.{◌≡◌, refl, sym, ap, ◌∙◌}
use mathlib.Core.Bool.{Bool, false}
use mathlib.Core.List.{List, [], ◌∷◌, ◌++◌}
use Prim.Native.Nat.{ℕ, zero, suc, ◌+◌, ◌-◌, ◌*◌, ◌≤◌, ◌<◌}
use native.Mathlib.Numerals.{add-one}
use native.Mathlib.Omega.{arith}
use lib.ListN.{length, get_or, take, drop}
use lib.Seq.{drop-cons, drop-drop}
use lib.Dec.{ltb}
use Rattle.t800.specs.declared.Band.{Band}
use Rattle.t800.specs.declared.Level.{Level}
use Rattle.t800.specs.Base.{any}
use Rattle.t800.specs.TagTree.{set_value}
use Rattle.t800.specs.State.{Block, block_of, blocks_in, band_nodes, band_length, blocks_from, blocks_at}
use Rattle.t800.specs.Start.{set_zero_planes}
use Rattle.t800_laws.proofs.Laws.Tests.{or_left, or_right}
use Rattle.t800_laws.proofs.Laws.Lists.{length_from, no_planes}
use Rattle.tcd_laws.proofs.Laws.BlockPlanes.{deep_from}
use Rattle.tgt.specs.Path.{row_over, path_over}
use Rattle.tgt.proofs.Laws.Path.{TreeLevels}
use Rattle.t2_start_planes.specs.Rows.{set_row}
use Rattle.t2_start_planes.proofs.Laws.BlockRows.{rows_turn, path_in_row}

-- ---- a list that no entry of which is over

module _ (f : ℕ → Bool) where
  pub none_at : (l : List ℕ) (i : ℕ) → i < length l → any f l ≡ false → f (get_or l i 0) ≡ false
  unfolding any
  none_at [] i h e = absurd (omega arith)
  none_at (x ∷ xs) zero h e = or_left (f x) (any f xs) e
  none_at (x ∷ xs) (suc i) h e = none_at xs i (omega arith) (or_right (f x) (any f xs) e)

  pub none_before : (n : ℕ) (l : List ℕ) → any f l ≡ false → any f (take n l) ≡ false
  unfolding any
  none_before zero l e = refl
  none_before (suc n) [] e = refl
  none_before (suc n) (x ∷ xs) e = rw (or_left (f x) (any f xs) e) (none_before n xs (or_right (f x) (any f xs) e))

  pub none_after : (n : ℕ) (l : List ℕ) → any f l ≡ false → any f (drop n l) ≡ false
  unfolding any
  none_after zero l e = e
  none_after (suc n) [] e = refl
  none_after (suc n) (x ∷ xs) e = none_after n xs (or_right (f x) (any f xs) e)

-- no block of the next band is too deep, and none after it
pub shallow_turn : (l : List Band) (b : Band) (bs : List Band) (ps : List ℕ) (from to : ℕ) → l ≡ b ∷ bs → to ≡ from + blocks_in b
    → deep_from l (drop from ps) ≡ false
    → (any (λ p. ltb b.planes p) (take (to - from) (drop from ps)) ≡ false) × (deep_from bs (drop to ps) ≡ false)
unfolding deep_from
shallow_turn l b bs ps from to e q h =
    let n : to - from ≡ blocks_in b = omega arith in
    let here : Bool = any (λ p. ltb b.planes p) (take (blocks_in b) (drop from ps)) in
    let rest : Bool = deep_from bs (drop (blocks_in b) (drop from ps)) in
    let f = sym (ap (λ (k : List Band). deep_from k (drop from ps)) e) ∙ h in (
      ap (λ (k : ℕ). any (λ p. ltb b.planes p) (take k (drop from ps))) n ∙ or_left here rest f,
      ap (λ (k : ℕ). deep_from bs (drop k ps)) q ∙ ap (deep_from bs) (sym (drop-drop (blocks_in b) from ps)) ∙ or_right here rest f,
    )

-- ---- some blocks, and others after them

set_append : (ks js : List Block) (ps ws : List ℕ) → set_zero_planes (ks ++ js) ps ws
    ≡ set_zero_planes js (drop (length ks) ps) (set_zero_planes ks ps ws)
unfolding set_zero_planes
set_append [] js ps ws = refl
set_append (k ∷ ks) js [] ws = sym (no_planes js ws)
set_append (k ∷ ks) js (p ∷ ps) ws = set_append ks js ps (set_value k.zero_tree k.path (k.planes - p) ws)

-- as many planes count as there are blocks
set_take : (ks : List Block) (ps ws : List ℕ) → set_zero_planes ks (take (length ks) ps) ws ≡ set_zero_planes ks ps ws
unfolding set_zero_planes
set_take [] ps ws = refl
set_take (k ∷ ks) [] ws = refl
set_take (k ∷ ks) (p ∷ ps) ws = set_take ks ps (set_value k.zero_tree k.path (k.planes - p) ws)

-- blocks whose planes stand from `from` on up to `to`
pub part_turn : (ks js : List Block) (ps ws vs : List ℕ) (from to : ℕ) → to ≡ from + length ks → vs
    ≡ set_zero_planes ks (take (to - from) (drop from ps)) ws
    → set_zero_planes js (drop to ps) vs ≡ set_zero_planes (ks ++ js) (drop from ps) ws
part_turn ks js ps ws vs from to e q =
    let n : to - from ≡ length ks = omega arith in
    ap (λ (z : List ℕ). set_zero_planes js (drop to ps) z)
    (q ∙ ap (λ (k : ℕ). set_zero_planes ks (take k (drop from ps)) ws) n ∙ set_take ks (drop from ps) ws)
    ∙ ap (λ (z : List ℕ). set_zero_planes js z (set_zero_planes ks (drop from ps) ws))
    (ap (λ (k : ℕ). drop k ps) e ∙ sym (drop-drop (length ks) from ps))
    ∙ sym (set_append ks js (drop from ps) ws)

-- one band more
pub band_turn : (l : List Band) (b : Band) (bs : List Band) (at : ℕ) (ps ws vs : List ℕ) (from to : ℕ) → l ≡ b ∷ bs → to ≡ from + blocks_in b
    → vs ≡ set_zero_planes (blocks_from at b (blocks_in b) 0) (take (to - from) (drop from ps)) ws
    → set_zero_planes (blocks_at (at + band_length b) bs) (drop to ps) vs ≡ set_zero_planes (blocks_at at l) (drop from ps) ws
unfolding blocks_at
band_turn l b bs at ps ws vs from to e q p =
    part_turn (blocks_from at b (blocks_in b) 0) (blocks_at (at + band_length b) bs) ps ws vs from to
    (q ∙ ap (λ (k : ℕ). from + k) (sym (length_from at b (blocks_in b) 0))) p
    ∙ ap (λ (k : List Band). set_zero_planes (blocks_at at k) (drop from ps) ws) (sym e)

-- ---- a row

-- one column more
pub column_turn : (base : ℕ) (row : List ℕ) (depth m x : ℕ) (ps ws : List ℕ) → x < length ps
    → set_row base row depth m (x + 1) (drop (x + 1) ps) (set_value base (path_over row depth x) (m - get_or ps x 0) ws)
    ≡ set_row base row depth m x (drop x ps) ws
unfolding set_row
column_turn base row depth m x ps ws h =
    let e : drop x ps ≡ get_or ps x 0 ∷ drop (x + 1) ps = rw (add-one, drop-cons ps x 0 h) in
    ap (λ (l : List ℕ). set_row base row depth m x l ws) (sym e)

module _ (at : ℕ) (b : Band) (ls : List Level) (depth : ℕ) (t : TreeLevels b.across b.down ls depth) (y : ℕ)
    (in_column : y < b.down) where
  row_is : (x : ℕ) (ps ws : List ℕ) → x + length ps ≤ b.across
      → set_row (at + 3 * band_nodes b) (row_over ls depth y) depth b.planes x ps ws
      ≡ set_zero_planes (blocks_from at b (length ps) (y * b.across + x)) ps ws
  unfolding set_row set_zero_planes blocks_from
  row_is x [] ws h = refl
  row_is x (p ∷ ps) ws h =
      let base : ℕ = at + 3 * band_nodes b in
      let leaf : ℕ = y * b.across + x in
      let vs : List ℕ = set_value base (block_of at b leaf).path (b.planes - p) ws in
      let q : y * b.across + (x + 1) ≡ leaf + 1 = omega arith in
      ap (λ (ns : List ℕ). set_row base (row_over ls depth y) depth b.planes (x + 1) ps (set_value base ns (b.planes - p) ws))
      (path_in_row b.across b.down ls depth t y x in_column (omega arith))
      ∙ row_is (x + 1) ps vs (omega arith)
      ∙ ap (λ (k : ℕ). set_zero_planes (blocks_from at b (length ps) k) ps vs) q

  -- one row more, whose blocks' planes stand from `from` on up to `to`
  pub row_turn : (ps part ws vs : List ℕ) (from to : ℕ) → from ≡ y * b.across → to ≡ from + b.across → part
      ≡ take (to - from) (drop from ps) → length part ≡ b.across
      → vs ≡ set_row (at + 3 * band_nodes b) (row_over ls depth y) depth b.planes 0 part ws
      → set_zero_planes (blocks_from at b (blocks_in b - (y + 1) * b.across) ((y + 1) * b.across)) (drop to ps) vs
      ≡ set_zero_planes (blocks_from at b (blocks_in b - y * b.across) (y * b.across)) (drop from ps) ws
  row_turn ps part ws vs from to f e p n q =
      let z : y * b.across + 0 ≡ y * b.across = omega arith in
      part_turn (blocks_from at b b.across (y * b.across))
      (blocks_from at b (blocks_in b - (y + 1) * b.across) ((y + 1) * b.across)) ps ws vs from to
      (e ∙ ap (λ (k : ℕ). from + k) (sym (length_from at b b.across (y * b.across))))
      (q ∙ row_is 0 part ws (omega arith) ∙ ap (λ (k : ℕ). set_zero_planes (blocks_from at b (length part) k) part ws) z
      ∙ ap (λ (k : ℕ). set_zero_planes (blocks_from at b k (y * b.across)) part ws) n
      ∙ ap (λ (l : List ℕ). set_zero_planes (blocks_from at b b.across (y * b.across)) l ws) p)
      ∙ ap (λ (ks : List Block). set_zero_planes ks (drop from ps) ws) (sym (rows_turn at b y in_column))
