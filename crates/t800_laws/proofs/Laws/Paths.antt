-- The climb from a leaf of a tag tree to the root: its nodes are those over the leaf's column and row on each level; their numbers rise and
-- stay within the tree. Then the same of the nodes' addresses in a list of words, three words a node.
use mathlib.Core.Path.{◌≡◌, refl, sym, ap, ◌∙◌, subst}
use mathlib.Core.Logic.{◌≢◌}
use mathlib.Core.Bool.{cond}
use mathlib.Core.List.{List, [], ◌∷◌, reverse, reverse_aux}
use Prim.Native.Nat.{ℕ, zero, suc, ◌+◌, ◌-◌, ◌*◌, ◌/◌, ◌%◌, ◌≤◌, ◌<◌}
use native.Mathlib.Nat.{le_trans, le_of_eq, mul_comm, zero-mul, mod-lt, div-lt_iff_lt-mul, div-add-mod', zero-add}
use native.Mathlib.Omega.{arith}
use lib.Arith.{digits_lt, digits_div, digits_mod}
use lib.Dec.{leb, eqb}
use lib.ListN.{length}
use Rattle.t800.specs.declared.Level.{Level}
use Rattle.t800.specs.TagTree.{levels_from, levels, nodes_in, nodes, parent_from, parent_of, climb_from, path_to_root}
use Rattle.t800_laws.proofs.Laws.Levels.{at_most_seven_levels}
use Rattle.t800_laws.proofs.Laws.Tests.{if-eq, if-ne, if-lt, if-ge, either, on-lt}

-- ---- lists of numbers

abbrev pub All : (ℕ → Type 0) → List ℕ → Type 0
All P [] = Unit {0}
All P (a ∷ xs) = P a × All P xs

pub all_so : (P Q : ℕ → Type 0) (xs : List ℕ) → ((a : ℕ) → P a → Q a) → All P xs → All Q xs
all_so P Q [] f h = tt
all_so P Q (a ∷ xs) f h = (f a h.0, all_so P Q xs f h.1)

-- a is none of them
abbrev pub NotIn : ℕ → List ℕ → Type 0
NotIn a xs = All (λ b. a ≢ b) xs

-- each higher than the one before, the first at least m
abbrev pub Rising : ℕ → List ℕ → Type 0
Rising m [] = Unit {0}
Rising m (j ∷ js) = (m ≤ j) × Rising (j + 1) js

pub rising_from : (m n : ℕ) (js : List ℕ) → m ≤ n → Rising n js → Rising m js
rising_from m n [] h r = tt
rising_from m n (j ∷ js) h r = (le_trans h r.0, r.1)

abbrev pub AllBelow : ℕ → List ℕ → Type 0
AllBelow m js = All (λ j. j < m) js

-- the ancestors of a, the last its own parent
abbrev pub Ancestors : (ℕ → ℕ) → ℕ → List ℕ → Type 0
Ancestors parent a [] = parent a ≡ a
Ancestors parent a (b ∷ bs) = (b ≡ parent a) × Ancestors parent b bs

-- ---- levels

abbrev pub size : Level → ℕ
size l = l.w * l.h

-- each level halves both sides, rounded up
abbrev pub Halves : ℕ → ℕ → List Level → Type 0
Halves w h [] = Unit {0}
Halves w h (l ∷ ls) = (l.w ≡ w) × (l.h ≡ h) × Halves ((w + 1) / 2) ((h + 1) / 2) ls

pub levels-halve : (f w h : ℕ) → Halves w h (levels_from f w h)
unfolding levels_from
levels-halve zero w h = tt
levels-halve (suc f) w h =
    (refl, refl, either (Halves ((w + 1) / 2) ((h + 1) / 2)) (leb (w * h) 1) _ _ tt (levels-halve f ((w + 1) / 2) ((h + 1) / 2)))

-- the nodes over column x, row y of the first level, from level and place, that level's nodes being numbered from `first` on
unfoldable pub path_from : List Level → (first x y : ℕ) → List ℕ
path_from [] first x y = []
path_from (l ∷ ls) first x y = (first + y * l.w + x) ∷ path_from ls (first + size l) (x / 2) (y / 2)

-- column x, row y of a level whose nodes are numbered from n on
number_in : (n w h x y : ℕ) → x < w → y < h → n + y * w + x < n + w * h
number_in n w h x y hx hy = omega (arith, digits_lt hy hx, mul_comm h w)

half_below : (x w : ℕ) → x < w → x / 2 < (w + 1) / 2
half_below x w h = omega arith

path_rising : (ls : List Level) (w h n x y : ℕ) → Halves w h ls → x < w → y < h → Rising n (path_from ls n x y)
unfolding path_from
path_rising [] w h n x y v hx hy = tt
path_rising (l ∷ ls) w h n x y v hx hy =
    let q = number_in n l.w l.h x y (omega (arith, v.0)) (omega (arith, v.1)) in (
      omega arith,
      rising_from (n + y * l.w + x + 1) (n + size l) (path_from ls (n + size l) (x / 2) (y / 2)) (omega arith)
          (path_rising ls ((w + 1) / 2) ((h + 1) / 2) (n + size l) (x / 2) (y / 2) v.2 (half_below x w hx) (half_below y h hy)),
    )

path_below : (ls : List Level) (w h n x y m : ℕ) → Halves w h ls → x < w → y < h → n + nodes_in ls ≤ m → AllBelow m (path_from ls n x y)
unfolding path_from nodes_in
path_below [] w h n x y m v hx hy b = tt
path_below (l ∷ ls) w h n x y m v hx hy b =
    let q = number_in n l.w l.h x y (omega (arith, v.0)) (omega (arith, v.1)) in (
      omega arith,
      path_below ls ((w + 1) / 2) ((h + 1) / 2) (n + size l) (x / 2) (y / 2) m v.2 (half_below x w hx)
          (half_below y h hy) (omega arith),
    )

-- ---- parents

parent_here : (l k : Level) (ks : List Level) (n x y : ℕ) → x < l.w → y < l.h
    → parent_from (l ∷ k ∷ ks) n (n + y * l.w + x) ≡ n + size l + y / 2 * k.w + x / 2
unfolding parent_from
parent_here l k ks n x y hx hy =
    let j : ℕ = y * l.w + x in
    let e : n + y * l.w + x - n ≡ j = omega arith in
    if-lt (n + y * l.w + x) (n + size l) _ _ (number_in n l.w l.h x y hx hy)
    ∙ rw (e, digits_div y hx, digits_mod y hx)

parent_above : (l k : Level) (ks : List Level) (n j : ℕ) → n + size l ≤ j → parent_from (l ∷ k ∷ ks) n j ≡ parent_from (k ∷ ks) (n + size l) j
unfolding parent_from
parent_above l k ks n j h = if-ge j (n + size l) _ _ h

-- two parent functions that agree from m on have the same ancestors there
ancestors_by : (p q : ℕ → ℕ) (j : ℕ) (js : List ℕ) (m : ℕ) → m ≤ j → Rising m js → ((i : ℕ) → m ≤ i → p i ≡ q i) → Ancestors q j js
    → Ancestors p j js
ancestors_by p q j [] m h a e c = e j h ∙ c
ancestors_by p q j (k ∷ ks) m h a e c =
    (c.0 ∙ sym (e j h), ancestors_by p q k ks m a.0 (rising_from m (k + 1) ks (omega (arith, a.0)) a.1) e c.1)

path_ancestors : (l : Level) (ls : List Level) (w h n x y : ℕ) → Halves w h (l ∷ ls) → x < w → y < h
    → Ancestors (parent_from (l ∷ ls) n) (n + y * l.w + x) (path_from ls (n + size l) (x / 2) (y / 2))
unfolding path_from parent_from
path_ancestors l [] w h n x y v hx hy = refl
path_ancestors l (k ∷ ks) w h n x y v hx hy =
    let w₂ : ℕ = (w + 1) / 2 in
    let h₂ : ℕ = (h + 1) / 2 in
    let m : ℕ = n + size l in
    let j : ℕ = m + y / 2 * k.w + x / 2 in
    let on : List ℕ = path_from ks (m + size k) (x / 2 / 2) (y / 2 / 2) in
    let r = path_rising (k ∷ ks) w₂ h₂ m (x / 2) (y / 2) v.2 (half_below x w hx) (half_below y h hy) in (
      sym (parent_here l k ks n x y (omega (arith, v.0)) (omega (arith, v.1))),
      ancestors_by (parent_from (l ∷ k ∷ ks) n) (parent_from (k ∷ ks) m) j on m r.0
          (rising_from m (j + 1) on (omega (arith, r.0)) r.1) (λ i g. parent_above l k ks n i g)
          (path_ancestors k ks w₂ h₂ m (x / 2) (y / 2) v.2 (half_below x w hx) (half_below y h hy)),
    )

width-pos : (j w h : ℕ) → j < w * h → 0 < w
width-pos j zero h l = absurd (omega (arith, zero-mul h))
width-pos j (suc w) h l = omega arith

pub row_below : (j w h : ℕ) → j < w * h → j / w < h
row_below j w h l = (div-lt_iff_lt-mul (width-pos j w h l)).1 (omega (arith, mul_comm w h))

pub column_below : (j w h : ℕ) → j < w * h → j % w < w
column_below j w h l = mod-lt j (width-pos j w h l)

parent_below : (ls : List Level) (w h n j : ℕ) → Halves w h ls → n ≤ j → j < n + nodes_in ls → parent_from ls n j < n + nodes_in ls
unfolding parent_from nodes_in
parent_below [] w h n j v lo hi = hi
parent_below (l ∷ []) w h n j v lo hi = hi
parent_below (l ∷ k ∷ ks) w h n j v lo hi =
    on-lt j (n + size l)
    (λ b. let d : j - n < size l = omega arith in
    let y : ℕ = (j - n) / l.w in
    let x : ℕ = (j - n) % l.w in
    let hy : y < l.h = row_below (j - n) l.w l.h d in
    let hx : x < l.w = column_below (j - n) l.w l.h d in
    let q = number_in (n + size l) k.w k.h (x / 2) (y / 2) (omega (arith, v.0, v.2.0)) (omega (arith, v.1, v.2.1)) in
    rw (if-lt j (n + size l) _ _ b) (omega arith))
    (λ b. rw (if-ge j (n + size l) _ _ b)
    (omega (arith, parent_below (k ∷ ks) ((w + 1) / 2) ((h + 1) / 2) (n + size l) j v.2 b (omega arith))))

-- ---- the climb from a leaf of a tree of w by h leaves

pub parent_in_tree : (w h j : ℕ) → j < nodes w h → parent_of w h j < nodes w h
unfolding parent_of nodes levels
parent_in_tree w h j l =
    le_trans (parent_below (levels_from 7 w h) w h 0 j (levels-halve 7 w h) (omega arith)
    (le_trans l (le_of_eq (sym (zero-add (nodes_in (levels_from 7 w h)))))))
    (le_of_eq (zero-add (nodes_in (levels_from 7 w h))))

-- ancestors, each higher than the one before, are what a climb meets
climb_meets : (bound w h j : ℕ) (js : List ℕ) → Ancestors (parent_of w h) j js → Rising (j + 1) js → length js < bound
    → climb_from bound w h j ≡ j ∷ js
unfolding climb_from
climb_meets zero w h j js a r l = absurd (omega arith)
climb_meets (suc bound) w h j [] a r l = ap (λ (ks : List ℕ). j ∷ ks) (if-eq (parent_of w h j) j _ _ a)
climb_meets (suc bound) w h j (k ∷ ks) a r l =
    ap (λ (is : List ℕ). j ∷ is)
    (if-ne (parent_of w h j) j _ _ (λ e. omega (arith, a.0, r.0, e))
    ∙ ap (climb_from bound w h) (sym a.0)
    ∙ climb_meets bound w h k ks a.1 r.1 (omega arith))

climb_short : (bound w h n : ℕ) → length (climb_from bound w h n) ≤ bound
unfolding climb_from
climb_short zero w h n = omega arith
climb_short (suc bound) w h n = go (climb_short bound w h (parent_of w h n))
  where
    go : length (climb_from bound w h (parent_of w h n)) ≤ bound
        → suc (length (cond (eqb (parent_of w h n) n) [] (climb_from bound w h (parent_of w h n)))) ≤ suc bound
    go r = either (λ (js : List ℕ). suc (length js) ≤ suc bound) (eqb (parent_of w h n) n) _ _ (omega arith) (omega arith)

pub short_path : (w h leaf : ℕ) → length (path_to_root w h leaf) ≤ 7
unfolding path_to_root
short_path w h leaf = climb_short 7 w h leaf

path_length : (ls : List Level) (n x y : ℕ) → length (path_from ls n x y) ≡ length ls
unfolding path_from
path_length [] n x y = refl
path_length (l ∷ ls) n x y = ap suc (path_length ls (n + size l) (x / 2) (y / 2))

pub record LeafPath (w h leaf : ℕ) : Type 0 where
  pub above : List ℕ
  pub is : path_to_root w h leaf ≡ leaf ∷ above
  pub by_place : leaf ∷ above ≡ path_from (levels w h) 0 (leaf % w) (leaf / w)
  pub rising : Rising (w * h) above
  pub below : AllBelow (nodes w h) (leaf ∷ above)
  pub ancestors : Ancestors (parent_of w h) leaf above

pub leaf_path : (w h leaf : ℕ) → leaf < w * h → LeafPath w h leaf
unfolding path_to_root levels levels_from path_from nodes parent_of
leaf_path w h leaf b =
    let l : Level = record { w = w; h = h } in
    let ls : List Level = cond (leb (w * h) 1) [] (levels_from 6 ((w + 1) / 2) ((h + 1) / 2)) in
    let x : ℕ = leaf % w in
    let y : ℕ = leaf / w in
    let hx : x < w = column_below leaf w h b in
    let hy : y < h = row_below leaf w h b in
    let v : Halves w h (l ∷ ls) = levels-halve 7 w h in
    let e : 0 + y * w + x ≡ leaf = omega (arith, div-add-mod' leaf w) in
    let above : List ℕ = path_from ls (0 + w * h) (x / 2) (y / 2) in
    let rising : Rising (w * h) above = rising_from (w * h) (0 + w * h) above (omega arith)
    (path_rising ls ((w + 1) / 2) ((h + 1) / 2) (0 + w * h) (x / 2) (y / 2) v.2 (half_below x w hx) (half_below y h hy)) in
    let below : AllBelow (nodes_in (l ∷ ls)) ((0 + y * w + x) ∷ above) =
    path_below (l ∷ ls) w h 0 x y (nodes_in (l ∷ ls)) v hx hy (omega arith) in
    let ancestors : Ancestors (parent_from (l ∷ ls) 0) leaf above =
    subst (λ (z : ℕ). Ancestors (parent_from (l ∷ ls) 0) z above) e (path_ancestors l ls w h 0 x y v hx hy) in
    let few : length (l ∷ ls) ≤ 7 = at_most_seven_levels w h in
    record {
      above = above;
      is = climb_meets 7 w h leaf above ancestors (rising_from (leaf + 1) (w * h) above (omega arith) rising)
          (omega (arith, path_length ls (0 + w * h) (x / 2) (y / 2)));
      by_place = ap (λ (z : ℕ). z ∷ above) (sym e);
      rising = rising;
      below = (subst (λ (z : ℕ). z < nodes_in (l ∷ ls)) e below.0, below.1);
      ancestors = ancestors;
    }

-- the climb's nodes from level and place
pub path_by_place : (w h leaf : ℕ) → leaf < w * h → path_to_root w h leaf ≡ path_from (levels w h) 0 (leaf % w) (leaf / w)
path_by_place w h leaf b = let p = leaf_path w h leaf b in p.is ∙ p.by_place

-- ---- addresses: node j of the tree at `base` is the three words from base + 3 j on

abbrev pub addresses : ℕ → List ℕ → List ℕ
addresses base [] = []
addresses base (n ∷ ns) = (base + 3 * n) ∷ addresses base ns

-- word i is none of those of the node at a
abbrev pub Clear : ℕ → ℕ → Type 0
Clear i a = 0 < (a - i) + (i - (a + 2))

-- the nodes at a and b share no word
abbrev pub Apart : ℕ → ℕ → Type 0
Apart a b = 3 ≤ (a - b) + (b - a)

abbrev pub ApartFromAll : ℕ → List ℕ → Type 0
ApartFromAll a xs = All (Apart a) xs

abbrev pub AllApart : List ℕ → Type 0
AllApart [] = Unit {0}
AllApart (a ∷ xs) = ApartFromAll a xs × AllApart xs

pub all_addresses : (P : ℕ → Type 0) (base m : ℕ) (js : List ℕ) → ((j : ℕ) → j < m → P (base + 3 * j)) → AllBelow m js
    → All P (addresses base js)
all_addresses P base m [] f h = tt
all_addresses P base m (j ∷ js) f h = (f j h.0, all_addresses P base m js f h.1)

lower_apart : (base j m : ℕ) (js : List ℕ) → j < m → Rising m js → ApartFromAll (base + 3 * j) (addresses base js)
lower_apart base j m [] l r = tt
lower_apart base j m (k ∷ ks) l r = (omega (arith, r.0), lower_apart base j (k + 1) ks (omega (arith, r.0)) r.1)

pub lower_not_in : (base j m : ℕ) (js : List ℕ) → j < m → Rising m js → NotIn (base + 3 * j) (addresses base js)
lower_not_in base j m [] l r = tt
lower_not_in base j m (k ∷ ks) l r = (omega (arith, r.0), lower_not_in base j (k + 1) ks (omega (arith, r.0)) r.1)

rising_apart : (base m : ℕ) (js : List ℕ) → Rising m js → AllApart (addresses base js)
rising_apart base m [] r = tt
rising_apart base m (j ∷ js) r = (lower_apart base j (j + 1) js (omega arith) r.1, rising_apart base (j + 1) js r.1)

-- each of js apart from each of ks
abbrev EachApart : ℕ → List ℕ → List ℕ → Type 0
EachApart base js ks = All (λ a. ApartFromAll a (addresses base ks)) (addresses base js)

each-cons : (base : ℕ) (js : List ℕ) (k : ℕ) (ks : List ℕ) → ApartFromAll (base + 3 * k) (addresses base js) → EachApart base js ks
    → EachApart base js (k ∷ ks)
each-cons base [] k ks a p = tt
each-cons base (j ∷ js) k ks a p = ((omega (arith, a.0), p.0), each-cons base js k ks a.1 p.1)

each_nil : (base : ℕ) (js : List ℕ) → EachApart base js []
each_nil base [] = tt
each_nil base (j ∷ js) = (tt, each_nil base js)

reverse_onto : (base : ℕ) (js ks : List ℕ) → AllApart (addresses base js) → AllApart (addresses base ks) → EachApart base js ks
    → AllApart (addresses base (reverse_aux js ks))
reverse_onto base [] ks d e a = e
reverse_onto base (j ∷ js) ks d e a = reverse_onto base js (j ∷ ks) d.1 (a.0, e) (each-cons base js j ks d.0 a.1)

pub reversed_apart : (base m : ℕ) (js : List ℕ) → Rising m js → AllApart (addresses base (reverse js))
reversed_apart base m js r = reverse_onto base js [] (rising_apart base m js r) tt (each_nil base js)

pub address_ancestors : (parent q : ℕ → ℕ) (base m j : ℕ) (js : List ℕ) → ((i : ℕ) → i < m → parent (base + 3 * i) ≡ base + 3 * q i)
    → AllBelow m (j ∷ js) → Ancestors q j js
    → Ancestors parent (base + 3 * j) (addresses base js)
address_ancestors parent q base m j [] f b c = f j b.0 ∙ ap (λ (z : ℕ). base + 3 * z) c
address_ancestors parent q base m j (k ∷ ks) f b c =
    (ap (λ (z : ℕ). base + 3 * z) c.0 ∙ sym (f j b.0), address_ancestors parent q base m k ks f b.1 c.1)

-- ---- the same nodes from the root

all_onto : (P : ℕ → Type 0) (base : ℕ) (js ks : List ℕ) → All P (addresses base js) → All P (addresses base ks)
    → All P (addresses base (reverse_aux js ks))
all_onto P base [] ks h g = g
all_onto P base (j ∷ js) ks h g = all_onto P base js (j ∷ ks) h.1 (h.0, g)

pub all_reversed : (P : ℕ → Type 0) (base : ℕ) (js : List ℕ) → All P (addresses base js) → All P (addresses base (reverse js))
all_reversed P base js h = all_onto P base js [] h tt
