-- The nodes over a leaf, worked out from levels and place, are those that t800's climb from the leaf meets.
use mathlib.Core.Path.{◌≡◌, refl, sym, ap, ◌∙◌, subst, subst₂}
use mathlib.Core.List.{List, [], ◌∷◌, ◌++◌, reverse, reverse-append}
use Prim.Native.Nat.{ℕ, zero, suc, ◌+◌, ◌-◌, ◌*◌, ◌/◌, ◌%◌, ◌^◌, ◌≤◌, ◌<◌}
use native.Mathlib.Omega.{arith}
use lib.Arith.{digits_lt, digits_div, digits_mod}
use lib.ListN.{length, get_or, take, drop, replicate, length-append, length-replicate}
use lib.Pow.{shr-shr}
use lib.Seq.{length-take-le, drop-cons, get_or-take, take_at, take-append_seam}
use Rattle.t800.specs.declared.Level.{Level}
use Rattle.t800.specs.TagTree.{no_level, levels, nodes, path_to_root}
use Rattle.t800_laws.proofs.Laws.Levels.{at_most_seven_levels}
use Rattle.t800_laws.proofs.Laws.Paths.{All, AllBelow, Halves, levels-halve, path_from, LeafPath, leaf_path, path_by_place}
use Rattle.tgt.specs.Path.{row_from, row_over, nodes_over, path_over, leaf_word, PathIn, SmallLevels}

-- ---- one node more, from the leaf up and from the root down

module _ (row : List ℕ) (depth x i : ℕ) (long : depth ≤ length row) (here : i < depth) where
  pub node_up : nodes_over (drop i (take depth row)) (x / 2 ^ i)
      ≡ (get_or row i 0 + x / 2 ^ i) ∷ nodes_over (drop (i + 1) (take depth row)) (x / 2 ^ (i + 1))
  unfolding nodes_over
  node_up =
      let e : suc i ≡ i + 1 = omega arith in
      let l : i < length (take depth row) = rw (length-take-le depth row long) here in
      ap (λ (ns : List ℕ). nodes_over ns (x / 2 ^ i)) (drop-cons (take depth row) i 0 l)
      ∙ ap (λ (n : ℕ). (n + x / 2 ^ i) ∷ nodes_over (drop (suc i) (take depth row)) (x / 2 ^ i / 2)) (get_or-take depth row i 0 here)
      ∙ ap (λ (z : ℕ). (get_or row i 0 + x / 2 ^ i) ∷ nodes_over (drop (suc i) (take depth row)) z) (shr-shr x i 1)
      ∙ ap (λ (j : ℕ). (get_or row i 0 + x / 2 ^ i) ∷ nodes_over (drop j (take depth row)) (x / 2 ^ (i + 1))) e

pub halved_before : (x i : ℕ) → x / 2 / 2 ^ i ≡ x / 2 ^ suc i
halved_before x i = shr-shr x 1 i ∙ ap (λ (z : ℕ). x / 2 ^ z) (omega arith)

-- the last of i + 1
last_node : (row : List ℕ) (i x : ℕ) → i < length row → nodes_over (take (suc i) row) x
    ≡ nodes_over (take i row) x ++ ((get_or row i 0 + x / 2 ^ i) ∷ [])
unfolding nodes_over
last_node [] i x h = absurd (omega arith)
last_node (n ∷ ns) zero x h = ap (λ (z : ℕ). (n + z) ∷ []) (omega arith)
last_node (n ∷ ns) (suc i) x h =
    ap (λ (js : List ℕ). (n + x) ∷ js)
    (last_node ns i (x / 2) (omega arith) ∙ ap (λ (z : ℕ). nodes_over (take i ns) (x / 2) ++ ((get_or ns i 0 + z) ∷ [])) (halved_before x i))

pub node_down : (row : List ℕ) (i x : ℕ) → 0 < i → i ≤ length row
    → reverse (nodes_over (take i row) x) ≡ (get_or row (i - 1) 0 + x / 2 ^ (i - 1)) ∷ reverse (nodes_over (take (i - 1) row) x)
node_down row i x pos h =
    let e : i ≡ suc (i - 1) = omega arith in
    ap (λ (j : ℕ). reverse (nodes_over (take j row) x)) e
    ∙ ap reverse (last_node row (i - 1) x (omega arith))
    ∙ reverse-append (nodes_over (take (i - 1) row) x) ((get_or row (i - 1) 0 + x / 2 ^ (i - 1)) ∷ [])

-- ---- the nodes of a tree

pub row_length : (ls : List Level) (n y : ℕ) → length (row_from ls n y) ≡ length ls
unfolding row_from
row_length [] n y = refl
row_length (l ∷ ls) n y = ap suc (row_length ls (n + l.w * l.h) (y / 2))

pub nodes-are : (ls : List Level) (n x y : ℕ) → nodes_over (row_from ls n y) x ≡ path_from ls n x y
unfolding row_from nodes_over path_from
nodes-are [] n x y = refl
nodes-are (l ∷ ls) n x y = ap (λ (js : List ℕ). (n + y * l.w + x) ∷ js) (nodes-are ls (n + l.w * l.h) (x / 2) (y / 2))

-- an array of levels that begins with those of a tree of w by h leaves
pub record TreeLevels (w h : ℕ) (ls : List Level) (depth : ℕ) : Type 0 where
  pub are : take depth ls ≡ levels w h
  pub many : length (levels w h) ≡ depth

-- whatever stands after them
pub tree_levels : (w h : ℕ) (rest : List Level) → TreeLevels w h (levels w h ++ rest) (length (levels w h))
tree_levels w h rest = record { are = take-append_seam (levels w h) rest; many = refl }

-- what holds of all of them holds of each
all-at : (P : ℕ → Type 0) (row : List ℕ) (depth x i : ℕ) → i < depth → depth ≤ length row → All P (nodes_over (take depth row) x)
    → P (get_or row i 0 + x / 2 ^ i)
unfolding nodes_over
all-at P [] depth x i h l a = absurd (omega arith)
all-at P (n ∷ ns) zero x i h l a = absurd (omega arith)
all-at P (n ∷ ns) (suc d) x zero h l a = subst (λ (z : ℕ). P (n + z)) (omega arith) a.0
all-at P (n ∷ ns) (suc d) x (suc i) h l a =
    subst (λ (z : ℕ). P (get_or ns i 0 + z)) (halved_before x i) (all-at P ns d (x / 2) i (omega arith) (omega arith) a.1)

-- and the first is the leaf
first_node : (row : List ℕ) (depth x j : ℕ) (js : List ℕ) → depth ≤ length row → nodes_over (take depth row) x ≡ j ∷ js → (0 < depth)
    × (get_or row 0 0 + x ≡ j)
unfolding nodes_over
first_node row zero x j js l e = let n : 0 ≡ suc (length js) = ap length e in absurd (omega arith)
first_node [] (suc d) x j js l e = absurd (omega arith)
first_node (n ∷ ns) (suc d) x j js l e = (omega arith, (cc))

halves_small : (ls : List Level) (w h i : ℕ) → w ≤ 64 → h ≤ 64 → Halves w h ls → ((get_or ls i no_level).w ≤ 64) × ((get_or ls i no_level).h ≤ 64)
halves_small [] w h i a b v = (omega arith, omega arith)
halves_small (l ∷ ls) w h zero a b v = (omega (arith, v.0), omega (arith, v.1))
halves_small (l ∷ ls) w h (suc i) a b v = halves_small ls ((w + 1) / 2) ((h + 1) / 2) i (omega arith) (omega arith) v.2

module _ (w h : ℕ) (ls : List Level) (depth : ℕ) (t : TreeLevels w h ls depth) where
  few : depth ≤ 7
  few = omega (arith, t.many, at_most_seven_levels w h)

  row_is : (y : ℕ) → take depth (row_over ls depth y) ≡ row_from (levels w h) 0 y
  unfolding row_over
  row_is y =
      let e : length (row_from (take depth ls) 0 y) ≡ depth = row_length (take depth ls) 0 y ∙ ap length t.are ∙ t.many in
      take_at (row_from (take depth ls) 0 y) (replicate (7 - depth) 0) depth e ∙ ap (λ (k : List Level). row_from k 0 y) t.are

  pub row_long : (y : ℕ) → length (row_over ls depth y) ≡ 7
  unfolding row_over
  row_long y =
      length-append (row_from (take depth ls) 0 y) (replicate (7 - depth) 0)
      ∙ omega (arith, few, row_length (take depth ls) 0 y ∙ ap length t.are ∙ t.many, length-replicate {A = ℕ} (7 - depth) 0)

  pub path_at : (x y : ℕ) → path_over (row_over ls depth y) depth x ≡ path_from (levels w h) 0 x y
  path_at x y = ap (λ (ns : List ℕ). nodes_over ns x) (row_is y) ∙ nodes-are (levels w h) 0 x y

  -- of a leaf by its number
  pub path_is : (leaf : ℕ) → leaf < w * h → path_over (row_over ls depth (leaf / w)) depth (leaf % w) ≡ path_to_root w h leaf
  path_is leaf l = path_at (leaf % w) (leaf / w) ∙ sym (path_by_place w h leaf l)

  -- `opj_tgt_row` asks this of the levels
  pub small_levels : w ≤ 64 → h ≤ 64 → SmallLevels ls depth
  unfolding levels
  small_levels a b =
      let each : (i : ℕ) → i < depth → ((get_or ls i no_level).w ≤ 64) × ((get_or ls i no_level).h ≤ 64) = λ i l.
      subst (λ (k : Level). (k.w ≤ 64) × (k.h ≤ 64))
      (ap (λ (ks : List Level). get_or ks i no_level) (sym t.are) ∙ get_or-take depth ls i no_level l)
      (halves_small (levels w h) w h i a b (levels-halve 7 w h)) in
      record { at_most_seven = few; across = λ i l. (each i l).0; down = λ i l. (each i l).1 }

  -- ---- in column x, row y

  module _ (x y : ℕ) (in_row : x < w) (in_column : y < h) where
    leaf_in : y * w + x < w * h
    leaf_in = omega (arith, digits_lt in_column in_row)

    pub path_of_leaf : path_over (row_over ls depth y) depth x ≡ path_to_root w h (y * w + x)
    path_of_leaf = subst₂ (λ (i j : ℕ). path_over (row_over ls depth j) depth i ≡ path_to_root w h (y * w + x))
        (digits_mod y in_row) (digits_div y in_row) (path_is (y * w + x) leaf_in)

    -- the nodes that a climb meets from the leaf, each the parent of the one before
    pub climb : LeafPath w h (y * w + x)
    climb = leaf_path w h (y * w + x) leaf_in

    pub path_climbs : path_over (row_over ls depth y) depth x ≡ (y * w + x) ∷ climb.above
    path_climbs = path_of_leaf ∙ climb.is

    pub leaf_word_lem : (base : ℕ) → leaf_word base (row_over ls depth y) x ≡ base + 3 * (y * w + x)
    leaf_word_lem base = ap (λ (n : ℕ). base + 3 * n)
        (first_node (row_over ls depth y) depth x (y * w + x) climb.above (omega (arith, row_long y, few)) path_climbs).1

    -- the tree's words lie in the list
    pub path_in : (size base : ℕ) → base + 3 * nodes w h ≤ size → PathIn size base (row_over ls depth y) depth x
    path_in size base fits =
        record {
          some = (first_node (row_over ls depth y) depth x (y * w + x) climb.above (omega (arith, row_long y, few)) path_climbs).0;
          at_most_seven = few;
          long = omega (arith, row_long y, few);
          inside = λ i l. omega (
            arith,
            fits,
            all-at (λ j. j < nodes w h) (row_over ls depth y) depth x i l (omega (arith, row_long y, few))
                (subst (AllBelow (nodes w h)) (sym path_climbs) climb.below),
          );
        }
