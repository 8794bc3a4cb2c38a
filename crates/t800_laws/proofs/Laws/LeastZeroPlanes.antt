-- After a writer's start each node of a zero-plane tree holds the least zero-plane count of the leaves below it (T.800, B.10.2).
use mathlib.Core.Path.{◌≡◌, refl, sym, ap, ◌∙◌, subst, subst₂}
use mathlib.Core.Logic.{◌⊎◌, inl, inr}
use mathlib.Core.List.{List, [], ◌∷◌, ◌++◌}
use Prim.Native.Nat.{ℕ, zero, suc, ◌+◌, ◌-◌, ◌*◌, ◌/◌, ◌%◌, ◌≤◌, ◌<◌}
use native.Mathlib.Nat.{le_trans, le_of_eq, le_refl, div-add-mod', mul_comm}
use native.Mathlib.Omega.{arith}
use lib.Arith.{digits_lt, digits_div, digits_mod}
use lib.ListN.{length, get_or, set, take, get_or-eq_default}
use lib.Seq.{get_or-set_same, get_or-set_other}
use Rattle.t800.specs.declared.Band.{Band}
use Rattle.t800.specs.declared.Level.{Level}
use Rattle.t800.specs.TagTree.{levels_from, levels, nodes_in, nodes, path_to_root, value, set_value}
use Rattle.t800.specs.State.{Block, not_yet_planes, writer, blocks_in, band_nodes, band_length, block_of, blocks_from, blocks_at, blocks}
use Rattle.t800.specs.Start.{fresh_state, set_zero_planes, start}
use Rattle.t800_laws.proofs.Laws.Tests.{on-eq, on-lt}
use Rattle.t800_laws.proofs.Laws.Paths.{All, Ancestors, size, Halves, levels-halve, path_from, path_by_place, row_below, column_below}
use Rattle.t800_laws.proofs.Laws.Paths.{addresses}
use Rattle.t800_laws.proofs.Laws.Layout.{Tree, zero_planes, not_yet, Layout, AllPlaced, NodeFrom, layout_of, blocks-placed}
use Rattle.t800_laws.proofs.Laws.FreshState.{fresh_length, fresh_node}
use Rattle.t800_laws.proofs.Laws.SetLeaf.{lowers, ends, length-set_value, every-word, Ordered, set_value-ordered}
use Rattle.t800_laws.proofs.Laws.Accepted.{start-accepted, NotTooDeep, not_too_deep}

-- ---- the claim

-- a is one of them
abbrev pub In : ℕ → List ℕ → Type 0
In a [] = ⊥
In a (b ∷ bs) = (a ≡ b) ⊎ In a bs

all_in : (P : ℕ → Type 0) (a : ℕ) (xs : List ℕ) → All P xs → In a xs → P a
all_in P a [] h e = elim e [ ]
all_in P a (x ∷ xs) h (inl e) = subst P (sym e) h.0
all_in P a (x ∷ xs) h (inr i) = all_in P a xs h.1 i

-- the zero-plane nodes from a block's leaf to the root, each by its first word
abbrev pub zero_path : Block → List ℕ
zero_path k = addresses k.zero_tree k.path

-- v is at most the zero planes of each block whose leaf lies below node a
abbrev pub AtMostBelow : ℕ → ℕ → List Block → List ℕ → Type 0
AtMostBelow a v [] ps = Unit {0}
AtMostBelow a v (k ∷ ks) [] = Unit {0}
AtMostBelow a v (k ∷ ks) (p ∷ ps) = (In a (zero_path k) → v ≤ k.planes - p) × AtMostBelow a v ks ps

-- one of them has just v
abbrev pub ReachedBelow : ℕ → ℕ → List Block → List ℕ → Type 0
ReachedBelow a v [] ps = ⊥
ReachedBelow a v (k ∷ ks) [] = ⊥
ReachedBelow a v (k ∷ ks) (p ∷ ps) = (In a (zero_path k) × (v ≡ k.planes - p)) ⊎ ReachedBelow a v ks ps

pub record LeastBelow (a v : ℕ) (ks : List Block) (ps : List ℕ) : Type 0 where
  pub at_most_lem : AtMostBelow a v ks ps
  pub reached : ReachedBelow a v ks ps

-- ---- each node has a leaf below it

leaf_below_from : (ls : List Level) (w h n j : ℕ) → Halves w h ls → n ≤ j → j < n + nodes_in ls → (x : ℕ) × (y : ℕ) × (x < w)
    × (y < h) × In j (path_from ls n x y)
unfolding path_from nodes_in
leaf_below_from [] w h n j v lo hi = absurd (omega arith)
leaf_below_from (l ∷ ls) w h n j v lo hi =
    on-lt j (n + size l)
    (λ b. let d : j - n < size l = omega arith in
    let x : ℕ = (j - n) % l.w in
    let y : ℕ = (j - n) / l.w in
    let hx : x < l.w = column_below (j - n) l.w l.h d in
    let hy : y < l.h = row_below (j - n) l.w l.h d in
    let e : j ≡ n + y * l.w + x = omega (arith, div-add-mod' (j - n) l.w) in
    (x, y, omega (arith, v.0), omega (arith, v.1), inl e))
    (λ b. let r = leaf_below_from ls ((w + 1) / 2) ((h + 1) / 2) (n + size l) j v.2 b (omega arith) in
    let x : ℕ = r.0 in
    let y : ℕ = r.1 in
    let ex : x ≡ 2 * x / 2 = omega arith in
    let ey : y ≡ 2 * y / 2 = omega arith in
    (2 * x, 2 * y, omega (arith, r.2), omega (arith, r.3), inr (subst₂ (λ (x y : ℕ). In j (path_from ls (n + size l) x y)) ex ey r.4)))

leaf_below : (w h j : ℕ) → j < nodes w h → (leaf : ℕ) × (leaf < w * h) × In j (path_to_root w h leaf)
unfolding nodes levels
leaf_below w h j b =
    let r = leaf_below_from (levels_from 7 w h) w h 0 j (levels-halve 7 w h) (omega arith) (omega arith) in
    let x : ℕ = r.0 in
    let y : ℕ = r.1 in
    let ex : x ≡ (y * w + x) % w = sym (digits_mod y r.2) in
    let ey : y ≡ (y * w + x) / w = sym (digits_div y r.2) in
    let l : y * w + x < w * h = omega (arith, digits_lt r.3 r.2, mul_comm h w) in (
      y * w + x,
      l,
      subst (In j) (sym (path_by_place w h (y * w + x) l)) (subst₂ (λ (x y : ℕ). In j (path_from (levels_from 7 w h) 0 x y)) ex ey r.4),
    )

in_addresses : (base j : ℕ) (js : List ℕ) → In j js → In (base + 3 * j) (addresses base js)
in_addresses base j [] e = elim e [ ]
in_addresses base j (k ∷ ks) (inl e) = inl (ap (λ (z : ℕ). base + 3 * z) e)
in_addresses base j (k ∷ ks) (inr i) = inr (in_addresses base j ks i)

abbrev SomeBelow : ℕ → List Block → Type 0
SomeBelow a [] = ⊥
SomeBelow a (k ∷ ks) = In a (zero_path k) ⊎ SomeBelow a ks

some_before : (at : ℕ) (b : Band) (n i leaf a : ℕ) (rest : List Block) → i ≤ leaf → leaf < i + n
    → In a (zero_path (block_of at b leaf)) → SomeBelow a (blocks_from at b n i ++ rest)
unfolding blocks_from
some_before at b zero i leaf a rest lo hi h = absurd (omega arith)
some_before at b (suc n) i leaf a rest lo hi h =
    on-eq leaf i
    (λ e. inl (subst (λ (z : ℕ). In a (zero_path (block_of at b z))) e h))
    (λ e. inr (some_before at b n (i + 1) leaf a rest (omega arith) (omega arith) h))

some_after : (a : ℕ) (ks js : List Block) → SomeBelow a js → SomeBelow a (ks ++ js)
some_after a [] js s = s
some_after a (k ∷ ks) js s = inr (some_after a ks js s)

some_below : (at : ℕ) (bs : List Band) (a : ℕ) → NodeFrom zero_planes at bs a → SomeBelow a (blocks_at at bs)
unfolding blocks_at band_nodes blocks_in
some_below at [] a n = n
some_below at (b ∷ bs) a (inl c) =
    let l = leaf_below b.across b.down c.0 c.1 in
    some_before at b (blocks_in b) 0 l.0 a (blocks_at (at + band_length b) bs) (omega arith) (omega (arith, l.1))
    (subst (λ (z : ℕ). In z (zero_path (block_of at b l.0))) (sym c.2)
    (in_addresses (at + 3 * band_nodes b) c.0 (path_to_root b.across b.down l.0) l.2))
some_below at (b ∷ bs) a (inr n) =
    some_after a (blocks_from at b (blocks_in b) 0) (blocks_at (at + band_length b) bs) (some_below (at + band_length b) bs a n)

-- ---- setting the leaves

-- a word above v exists
above_exists : (ws : List ℕ) (a v : ℕ) → v < value ws a → a < length ws
above_exists ws a v h = on-lt a (length ws) (λ l. l) (λ l. absurd (omega (arith, h, get_or-eq_default ws 0 l)))

leaf_at_most : (base n : ℕ) (ns : List ℕ) (v : ℕ) (ws : List ℕ) → value (set_value base (n ∷ ns) v ws) (base + 3 * n) ≤ v
leaf_at_most base n ns v ws =
    let a : ℕ = base + 3 * n in
    on-lt v (value ws a)
    (λ h. rw (lowers base n ns v ws h)
    (every-word (λ z. z ≤ v) base ns v (set ws a v) a (λ _. le_refl v) (le_of_eq (get_or-set_same ws a v 0 (above_exists ws a v h)))))
    (λ h. rw (ends base n ns v ws h) h)

-- a value stays, or lies on the path and is the one that is set
abbrev StaysOrIs : ℕ → ℕ → ℕ → ℕ → List ℕ → Type 0
StaysOrIs before after v a path = (after ≡ before) ⊎ (In a path × (after ≡ v))

stays_or_is : (base : ℕ) (ns : List ℕ) (v : ℕ) (ws : List ℕ) (a : ℕ)
    → StaysOrIs (value ws a) (value (set_value base ns v ws) a) v a (addresses base ns)
unfolding set_value
stays_or_is base [] v ws a = inl refl
stays_or_is base (n ∷ ns) v ws a =
    let j : ℕ = base + 3 * n in
    on-lt v (value ws j)
    (λ h. rw (lowers base n ns v ws h) (go h (stays_or_is base ns v (set ws j v) a)))
    (λ h. rw (ends base n ns v ws h) (inl refl))
  where
    go : v < value ws (base + 3 * n)
        → StaysOrIs (value (set ws (base + 3 * n) v) a) (value (set_value base ns v (set ws (base + 3 * n) v)) a) v a
        (addresses base ns)
        → StaysOrIs (value ws a) (value (set_value base ns v (set ws (base + 3 * n) v)) a) v a (addresses base (n ∷ ns))
    go h (inl e) =
        on-eq a (base + 3 * n)
        (λ q. inr (
          inl q,
          e ∙ ap (λ (z : ℕ). get_or (set ws (base + 3 * n) v) z 0) q
              ∙ get_or-set_same ws (base + 3 * n) v 0 (above_exists ws (base + 3 * n) v h),
        ))
        (λ q. inl (e ∙ get_or-set_other ws (base + 3 * n) a v 0 q))
    go h (inr r) = inr (inr r.0, r.1)

never_rises : (ks : List Block) (ps ws : List ℕ) (a : ℕ) → value (set_zero_planes ks ps ws) a ≤ value ws a
unfolding set_zero_planes
never_rises [] ps ws a = le_refl (value ws a)
never_rises (k ∷ ks) [] ws a = le_refl (value ws a)
never_rises (k ∷ ks) (p ∷ ps) ws a =
    le_trans (never_rises ks ps (set_value k.zero_tree k.path (k.planes - p) ws) a)
    (every-word (λ z. z ≤ value ws a) k.zero_tree k.path (k.planes - p) ws a (λ h. omega arith) (le_refl (value ws a)))

reached_by : (a x y z v : ℕ) (path : List ℕ) {R : Type 0} → StaysOrIs x y v a path → (z ≡ y) ⊎ R → (z ≡ x) ⊎ ((In a path × (z ≡ v)) ⊎ R)
reached_by a x y z v path s (inr r) = inr (inr r)
reached_by a x y z v path (inl q) (inl e) = inl (e ∙ q)
reached_by a x y z v path (inr r) (inl e) = inr (inl (r.0, e ∙ r.1))

stays_or_reached : (ks : List Block) (ps ws : List ℕ) (a : ℕ)
    → (value (set_zero_planes ks ps ws) a ≡ value ws a) ⊎ ReachedBelow a (value (set_zero_planes ks ps ws) a) ks ps
unfolding set_zero_planes
stays_or_reached [] ps ws a = inl refl
stays_or_reached (k ∷ ks) [] ws a = inl refl
stays_or_reached (k ∷ ks) (p ∷ ps) ws a =
    let first : List ℕ = set_value k.zero_tree k.path (k.planes - p) ws in
    reached_by a (value ws a) (value first a) (value (set_zero_planes ks ps first) a) (k.planes - p) (zero_path k)
    (stays_or_is k.zero_tree k.path (k.planes - p) ws a) (stays_or_reached ks ps first a)

-- each leaf has at most its block's zero planes
abbrev LeavesAtMost : List ℕ → List Block → List ℕ → Type 0
LeavesAtMost vs [] ps = Unit {0}
LeavesAtMost vs (k ∷ ks) [] = Unit {0}
LeavesAtMost vs (k ∷ ks) (p ∷ ps) = (value vs (k.zero_tree + 3 * k.leaf) ≤ k.planes - p) × LeavesAtMost vs ks ps

module _ (L : Layout) where
  leaves_at_most : (ks : List Block) (ps ws : List ℕ) → AllPlaced L ks → LeavesAtMost (set_zero_planes ks ps ws) ks ps
  unfolding set_zero_planes
  leaves_at_most [] ps ws f = tt
  leaves_at_most (k ∷ ks) [] ws f = tt
  leaves_at_most (k ∷ ks) (p ∷ ps) ws f =
      let P = f.0.0 in
      let v : ℕ = k.planes - p in
      let here : value (set_value k.zero_tree k.path v ws) (k.zero_tree + 3 * k.leaf) ≤ v
      = subst (λ (z : List ℕ). value (set_value k.zero_tree z v ws) (k.zero_tree + 3 * k.leaf) ≤ v) (sym P.path_is)
      (leaf_at_most k.zero_tree k.leaf P.above v ws) in (
        le_trans (never_rises ks ps (set_value k.zero_tree k.path v ws) (k.zero_tree + 3 * k.leaf)) here,
        leaves_at_most ks ps (set_value k.zero_tree k.path v ws) f.1,
      )

  set_zero_planes-ordered : (ks : List Block) (ps ws : List ℕ) → AllPlaced L ks → length ws ≡ L.size → Ordered L ws
      → Ordered L (set_zero_planes ks ps ws)
  unfolding set_zero_planes
  set_zero_planes-ordered [] ps ws f l o = o
  set_zero_planes-ordered (k ∷ ks) [] ws f l o = o
  set_zero_planes-ordered (k ∷ ks) (p ∷ ps) ws f l o =
      let P = f.0.0 in
      let v : ℕ = k.planes - p in
      set_zero_planes-ordered ks ps (set_value k.zero_tree k.path v ws) f.1 (length-set_value k.zero_tree k.path v ws ∙ l)
      (subst (λ (z : List ℕ). Ordered L (set_value k.zero_tree z v ws)) (sym P.path_is)
      (set_value-ordered L v zero_planes k.zero_tree k.leaf P.above ws l (P.path zero_planes).nodes
      (P.path zero_planes).ancestors o))

  -- no ancestor is larger
  ancestors_at_most : (vs : List ℕ) (m j : ℕ) (js : List ℕ) → Ordered L vs → All (L.Node zero_planes) (j ∷ js)
      → Ancestors L.parent j js → value vs j ≤ m → All (λ a. value vs a ≤ m) (j ∷ js)
  ancestors_at_most vs m j [] o n c h = (h, tt)
  ancestors_at_most vs m j (k ∷ ks) o n c h = (
    h,
    ancestors_at_most vs m k ks o n.1 c.1
        (le_trans (le_of_eq (ap (value vs) c.0)) (le_trans (o zero_planes j n.0) h)),
  )

  at_most_below : (ks : List Block) (ps vs : List ℕ) (a : ℕ) → AllPlaced L ks → Ordered L vs → LeavesAtMost vs ks ps
      → AtMostBelow a (value vs a) ks ps
  at_most_below [] ps vs a f o h = tt
  at_most_below (k ∷ ks) [] vs a f o h = tt
  at_most_below (k ∷ ks) (p ∷ ps) vs a f o h =
      let P = f.0.0 in
      let Q = P.path zero_planes in (
        (λ i. all_in (λ a. value vs a ≤ k.planes - p) a (addresses k.zero_tree (k.leaf ∷ P.above))
            (ancestors_at_most vs (k.planes - p) (k.zero_tree + 3 * k.leaf) (addresses k.zero_tree P.above) o Q.nodes
            Q.ancestors h.0)
            (subst (λ (z : List ℕ). In a (addresses k.zero_tree z)) P.path_is i)),
        at_most_below ks ps vs a f.1 o h.1,
      )

-- ---- a node with a leaf below it isn't "not yet"

below_not_yet : (a v : ℕ) (ks : List Block) (ps : List ℕ) → length ps ≡ length ks → NotTooDeep ks → SomeBelow a ks
    → AtMostBelow a v ks ps → v < not_yet_planes
below_not_yet a v [] ps l r s m = absurd s
below_not_yet a v (k ∷ ks) [] l r s m = absurd (omega arith)
below_not_yet a v (k ∷ ks) (p ∷ ps) l r (inl i) m = omega (arith, m.0 i, r.0)
below_not_yet a v (k ∷ ks) (p ∷ ps) l r (inr s) m = below_not_yet a v ks ps (omega arith) r.1 s m.1

-- ---- the start

pub start-sets_least : (n : ℕ) (given : List Band) (style : ℕ) (planes lent : List ℕ) → (start writer n given style planes lent).answer ≡ 0
    → (a : ℕ) → NodeFrom zero_planes 13 (take n given) a
    → LeastBelow a (value (start writer n given style planes lent).state a) (blocks (take n given)) planes
unfolding writer blocks
start-sets_least n given style planes lent e a node =
    let A = start-accepted writer n given style planes lent e in
    let bs : List Band = take n given in
    let ks : List Block = blocks bs in
    let L : Layout = layout_of bs in
    let f : AllPlaced L ks = blocks-placed bs in
    let ws : List ℕ = fresh_state writer style bs in
    let vs : List ℕ = set_zero_planes ks planes ws in
    let fresh : (t : Tree) (a : ℕ) → L.Node t a → value ws a ≡ not_yet t = λ t a n. (fresh_node writer style bs t a n).0 in
    let o : Ordered L ws = λ t a n. le_of_eq (fresh t (L.parent a) (L.parent_node t a n) ∙ sym (fresh t a n)) in
    let m : AtMostBelow a (value vs a) ks planes =
    at_most_below L ks planes vs a f (set_zero_planes-ordered L ks planes ws f (fresh_length writer style bs) o)
    (leaves_at_most L ks planes ws f) in
    let small = below_not_yet a (value vs a) ks planes A.planes_length (not_too_deep 13 bs A.bands-in) (some_below 13 bs a node) m in
    subst (λ (z : List ℕ). LeastBelow a (value z a) ks planes) (sym A.state)
    (record { at_most_lem = m; reached = go small (fresh zero_planes a node) (stays_or_reached ks planes ws a) })
  where
    go : {v w : ℕ} {R : Type 0} → v < not_yet_planes → w ≡ not_yet_planes → (v ≡ w) ⊎ R → R
    go small e (inl q) = absurd (omega arith)
    go small e (inr r) = r
