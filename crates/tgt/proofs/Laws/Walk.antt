-- The walk down to a leaf and the climb from it meet the same nodes.
use mathlib.Core.Path.{◌≡◌, refl, sym, ap, ap₂, ◌∙◌}
use mathlib.Core.List.{List, [], ◌∷◌, ◌++◌, reverse, reverse-append}
use Prim.Native.Nat.{ℕ, zero, suc, ◌+◌, ◌-◌, ◌*◌, ◌/◌, ◌%◌, ◌^◌, ◌≤◌, ◌<◌}
use native.Mathlib.Omega.{arith}
use lib.ListN.{length, get_or, take}
use lib.Seq.{take-length}
use Rattle.t800.specs.declared.Level.{Level}
use Rattle.t800.specs.TagTree.{no_level, nodes_in, levels, nodes, path_to_root}
use Rattle.t800_laws.proofs.Laws.Levels.{EndsInOneNode, levels-end_in_one_node}
use Rattle.t800_laws.proofs.Laws.Paths.{size, Halves, levels-halve, row_below, column_below, path_from, path_by_place}
use Rattle.tgt.specs.Path.{row_from, nodes_over}
use Rattle.tgt.specs.Walk.{node_on, walk_from, walk_down, EveryWalkIsClimb}
use Rattle.tgt.proofs.Laws.Path.{halved_before, node_down, row_length, nodes-are, tree_levels, path_is}

-- ---- the walk is the climb reversed

row_at : (ls : List Level) (n y i : ℕ) → i < length ls
    → get_or (row_from ls n y) i 0 ≡ n + nodes_in (take i ls) + y / 2 ^ i * (get_or ls i no_level).w
unfolding row_from nodes_in
row_at [] n y i h = absurd (omega arith)
row_at (l ∷ ls) n y zero h =
    let e : y ≡ y / 2 ^ 0 = omega arith in
    ap (λ (z : ℕ). n + z * l.w) e ∙ omega arith
row_at (l ∷ ls) n y (suc i) h =
    row_at ls (n + size l) (y / 2) i (omega arith)
    ∙ ap (λ (z : ℕ). n + size l + nodes_in (take i ls) + z * (get_or ls i no_level).w) (halved_before y i)
    ∙ omega arith

walk_is_nodes_reversed : (ls : List Level) (n x y : ℕ) → n ≤ length ls → walk_from ls n x y ≡ reverse (nodes_over (take n (row_from ls 0 y)) x)
unfolding walk_from node_on nodes_over
walk_is_nodes_reversed ls zero x y h = refl
walk_is_nodes_reversed ls (suc n) x y h =
    let row : List ℕ = row_from ls 0 y in
    let e : suc n - 1 ≡ n = omega arith in
    let here : node_on ls n x y ≡ get_or row n 0 + x / 2 ^ n = omega (arith, row_at ls 0 y n (omega arith)) in
    let on = node_down row (suc n) x (omega arith) (omega (arith, row_length ls 0 y)) in
    ap₂ (λ (j : ℕ) (js : List ℕ). j ∷ js) here (walk_is_nodes_reversed ls n x y (omega arith))
    ∙ ap (λ (i : ℕ). (get_or row i 0 + x / 2 ^ i) ∷ reverse (nodes_over (take i row) x)) (sym e)
    ∙ sym on

walk_is_climb_reversed : (w h leaf : ℕ) → leaf < w * h → walk_down w h leaf ≡ reverse (path_to_root w h leaf)
unfolding walk_down
walk_is_climb_reversed w h leaf l =
    let ls : List Level = levels w h in
    let x : ℕ = leaf % w in
    let y : ℕ = leaf / w in
    let row : List ℕ = row_from ls 0 y in
    walk_is_nodes_reversed ls (length ls) x y (omega arith)
    ∙ ap (λ (d : ℕ). reverse (nodes_over (take d row) x)) (sym (row_length ls 0 y))
    ∙ ap (λ (js : List ℕ). reverse (nodes_over js x)) (take-length row)
    ∙ ap reverse (nodes-are ls 0 x y)
    ∙ ap reverse (sym (path_by_place w h leaf l))

-- ---- it begins at the root

-- a path, and its last node, the last of all
record Ends (ls : List Level) (n x y : ℕ) : Type 0 where
  front : List ℕ
  last : ℕ
  are : path_from ls n x y ≡ front ++ (last ∷ [])
  is_last : last + 1 ≡ n + nodes_in ls

-- where the last level has one node
path_ends_at_root : (ls : List Level) (w h n x y : ℕ) → Halves w h ls → EndsInOneNode ls → x < w → y < h → Ends ls n x y
unfolding path_from nodes_in
path_ends_at_root [] w h n x y v e hx hy = absurd e
path_ends_at_root (l ∷ []) w h n x y v e hx hy =
    let one : l.w * l.h ≡ 1 = rw (e.0, e.1) refl in
    let first : y ≡ 0 = omega (arith, v.1, e.1) in
    record { front = []; last = n + y * l.w + x; are = refl; is_last = rw first (omega (arith, v.0, e.0)) }
path_ends_at_root (l ∷ k ∷ ks) w h n x y v e hx hy =
    let r = path_ends_at_root (k ∷ ks) ((w + 1) / 2) ((h + 1) / 2) (n + size l) (x / 2) (y / 2) v.2 e (omega arith) (omega arith) in
    record {
      front = (n + y * l.w + x) ∷ r.front;
      last = r.last;
      are = ap (λ (js : List ℕ). (n + y * l.w + x) ∷ js) r.are;
      is_last = omega (arith, r.is_last);
    }

walk_begins_at_root : (w h leaf : ℕ) → w ≤ 64 → h ≤ 64 → leaf < w * h → take 1 (walk_down w h leaf) ≡ (nodes w h - 1) ∷ []
unfolding nodes levels
walk_begins_at_root w h leaf a b l =
    let hx = column_below leaf w h l in
    let hy = row_below leaf w h l in
    let one = levels-end_in_one_node w h (omega arith) a (omega arith) b in
    let r = path_ends_at_root (levels w h) w h 0 (leaf % w) (leaf / w) (levels-halve 7 w h) one hx hy in
    ap (take 1) (walk_is_climb_reversed w h leaf l)
    ∙ ap (λ (js : List ℕ). take 1 (reverse js)) (path_by_place w h leaf l ∙ r.are)
    ∙ ap (take 1) (reverse-append r.front (r.last ∷ []))
    ∙ ap (λ (j : ℕ). j ∷ []) (omega (arith, r.is_last))

-- ---- all of it

pub every-walk_is_climb : EveryWalkIsClimb
every-walk_is_climb w h leaf others a b l =
    let met = path_is w h (levels w h ++ others) (length (levels w h)) (tree_levels w h others) leaf l in
    record {
      last_first = walk_is_climb_reversed w h leaf l;
      root = walk_begins_at_root w h leaf a b l;
      coded = ap reverse met ∙ sym (walk_is_climb_reversed w h leaf l);
      set = met;
    }
