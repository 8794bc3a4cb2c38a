-- A node of a tag tree, and a path of them: the reader takes the writer's bits, and the two stay in sync.
use mathlib.Core.Path.{◌≡◌, refl, sym, ap, ◌∙◌}
use mathlib.Core.Bool.{Bool, true, false, cond, and-false}
use mathlib.Core.List.{List, [], ◌∷◌, ◌++◌}
use Prim.Native.Nat.{ℕ, zero, suc, ◌+◌, ◌-◌, ◌≤◌, ◌<◌, max}
use native.Mathlib.Nat.{add-zero, zero-add, suc-add, max-le, min-eq_right, min-le_left, le-max_right, le_trans, le_of_eq}
use native.Mathlib.Omega.{arith}
use lib.ListN.{replicate}
use lib.Dec.{ltb}
use Rattle.t800.specs.declared.Bio.{Bio}
use Rattle.t800.specs.TagTree.{NodeRead, read_node}
use borrow.Author.Tests.{lt-ltb, le-ltb, eq-eqb, ne_eqb}
use Rattle.t800_laws.proofs.Laws.Tests.{if-eq, if-ne, if-lt, if-ge, on-lt}
use Rattle.round_trip.proofs.Trip.Bits.{next_bit, bio_after, Reads, reads_split}
use Rattle.round_trip.proofs.Trip.Nodes.{Node, node, low_out, puts_one, bits_of_node, node_after, bits_of_path, nodes_after}
use Rattle.round_trip.proofs.Trip.Nodes.{node_read, read_one, read_into, NodesRead, read_all, Sync, not_known, is_known, AllSync}
use Rattle.round_trip.proofs.Trip.Nodes.{nil, cons, Increasing}

zero_read : (s : List ℕ) (d v l : ℕ) (b : Bio) → l < v → next_bit s b ≡ 0 → read_node s (suc d) v l b ≡ read_node s d v (l + 1) (bio_after s b)
unfolding read_node
zero_read s d v l b h e = if-lt l v _ _ h ∙ if-eq (next_bit s b) 0 _ _ e

one_read : (s : List ℕ) (d v l : ℕ) (b : Bio) → l < v → next_bit s b ≡ 1 → read_node s (suc d) v l b ≡ node_read l l (bio_after s b)
unfolding read_node
one_read s d v l b h e = if-lt l v _ _ h ∙ if-ne (next_bit s b) 0 _ _ (omega (arith, e))

-- low is at the value already
nothing_read : (s : List ℕ) (d v l : ℕ) (b : Bio) → v ≤ l → read_node s d v l b ≡ node_read v l b
unfolding read_node
nothing_read s zero v l b h = refl
nothing_read s (suc d) v l b h = if-ge l v _ _ h

-- a run of zeros raises low
zeros_raise_low : (s : List ℕ) (n d : ℕ) (b e : Bio) (l v : ℕ) (rest : List ℕ) → l + n ≤ v → Reads s b (replicate n 0 ++ rest) e
    → (c : Bio) × (read_node s (n + d) v l b ≡ read_node s d v (l + n) c) × Reads s c rest e
zeros_raise_low s zero d b e l v rest w h = (b, rw (zero-add, add-zero), h)
zeros_raise_low s (suc n) d b e l v rest w h =
    let i = zeros_raise_low s n d (bio_after s b) e (l + 1) v rest (omega arith) h.2 in
    let step : read_node s (suc n + d) v l b
    ≡ read_node s (n + d) v (l + 1) (bio_after s b) = rw suc-add (zero_read s (n + d) v l b (omega arith) h.1) in
    (i.0, step ∙ i.1 ∙ ap (λ (z : ℕ). read_node s d v z i.0) (omega arith), i.2)

-- a one ends it
one_ends : (s : List ℕ) (d : ℕ) (b e : Bio) (l v : ℕ) → l < v → Reads s b (1 ∷ []) e → read_node s (suc d) v l b ≡ node_read l l e
one_ends s d b e l v w h = one_read s d v l b w h.1 ∙ ap (λ (z : Bio). node_read l l z) h.2.1

at_threshold : (s : List ℕ) (v l : ℕ) (b : Bio) → read_node s 0 v l b ≡ node_read v l b
unfolding read_node
at_threshold s v l b = refl

-- what the writer's closed forms come to
module _ (t l : ℕ) (n : Node) where
  pub puts_one-true : n.known ≡ 0 → low_out t l n < t → puts_one t l n ≡ true
  puts_one-true k h = cc (lt-ltb (low_out t l n) t h, eq-eqb n.known 0 k)

  pub puts_none : t ≤ low_out t l n → puts_one t l n ≡ false
  puts_none h = cc (le-ltb (low_out t l n) t h)

  pub known-puts_none : n.known ≡ 1 → puts_one t l n ≡ false
  known-puts_none k = rw (ne_eqb n.known 0 (omega arith)) (and-false (ltb (low_out t l n) t))

-- the reader has taken the bits e, has the same low, and its node is in sync
pub record NodeStep (mark : ℕ) (s : List ℕ) (t l : ℕ) (b : Bio) (n m : Node) (e : Bio) : Type 0 where
  pub after : (read_one s t l b m).bio ≡ e
  pub low : (read_one s t l b m).low ≡ low_out t l n
  pub sync : Sync mark (node_after t l n) (read_into (read_one s t l b m) m)

-- distances, on plain numbers: `omega` splits at each of their `-`, `min`, `max`
lt_gap : (t v a : ℕ) → v < t → a ≤ v → t - a ≡ (v - a) + suc (t - v - 1)
lt_gap t v a h l = omega arith

ge_gap : (t a : ℕ) → t - a ≡ (max a t - a) + 0
ge_gap t a = omega arith

lt_sum : (v a : ℕ) → a ≤ v → a + (v - a) ≡ v
lt_sum v a l = omega arith

ge_sum : (t a : ℕ) → a + (max a t - a) ≡ max a t
ge_sum t a = omega arith

step_by : (mark : ℕ) (s : List ℕ) (t l : ℕ) (b e : Bio) (n m : Node) (L v : ℕ) → read_one s t l b m ≡ node_read v L e → L ≡ low_out t l n
    → Sync mark (node_after t l n) (node v L m.known) → NodeStep mark s t l b n m e
step_by mark s t l b e n m L v q h y =
    record { after = ap (λ (g : NodeRead). g.bio) q; low = ap (λ (g : NodeRead). g.low) q ∙ h; sync = rw q y }

one_or : (b : Bool) (k : ℕ) → k ≡ 1 → cond b 1 k ≡ 1
one_or true k e = refl
one_or false k e = e

pub node_sync : (mark : ℕ) (s : List ℕ) (t l : ℕ) (b e : Bio) (n m : Node) → t ≤ mark → l ≤ n.value → Sync mark n m
    → Reads s b (bits_of_node t l n) e
    → NodeStep mark s t l b n m e
unfolding read_one node_after bits_of_node
node_sync mark s t l b e n m ht hl (is_known k mv ml nl nv mk) r =
    let L : ℕ = max l m.low in
    let lv : L ≡ n.value = omega arith in
    let w : low_out t l n ≡ n.value = omega arith in
    let z : low_out t l n - max l n.low ≡ 0 = omega arith in
    let y : puts_one t l n ≡ false = known-puts_none t l n k in
    let r₁ : Reads s b [] e = rw (z, y) at r in
    step_by mark s t l b e n m L m.value
    (nothing_read s (t - L) m.value L b (le_of_eq (mv ∙ sym lv)) ∙ ap (λ (c : Bio). node_read m.value L c) r₁.1)
    (lv ∙ sym w)
    (is_known (one_or (ltb (low_out t l n) t) n.known k) mv lv w nv mk)
node_sync mark s t l b e n m ht hl (not_known k mv ml nl nv mk) r =
    let L : ℕ = max l m.low in
    let A : ℕ = max l n.low in
    let Z : ℕ = low_out t l n - A in
    let la : L ≡ A = ap (max l) ml in
    let a≤ : A ≤ n.value = max-le hl nl in
    on-lt n.value t
    (λ h. let w : low_out t l n ≡ n.value = omega arith in
    let d : t - L ≡ Z + suc (t - n.value - 1) = cc (lt_gap t n.value A h a≤) in
    let y : puts_one t l n ≡ true = puts_one-true t l n k (omega arith) in
    let yy : ltb (low_out t l n) t ≡ true = lt-ltb (low_out t l n) t (omega arith) in
    let r₁ : Reads s b (replicate Z 0 ++ (1 ∷ [])) e = rw y at r in
    let g : L + Z ≡ n.value = cc (lt_sum n.value A a≤) in
    let i = zeros_raise_low s Z (suc (t - n.value - 1)) b e L m.value (1 ∷ [])
    (le_trans (le_of_eq g) (le_trans nv (le_of_eq (sym mv)))) r₁ in
    step_by mark s t l b e n m (L + Z) (L + Z)
    (ap (λ (z : ℕ). read_node s z m.value L b) d ∙ i.1
    ∙ one_ends s (t - n.value - 1) i.0 e (L + Z) m.value (rw (g, mv) (le_trans h ht)) i.2) (g ∙ sym w)
    (is_known (rw yy refl) g g w nv mk))
    (λ h. let w : low_out t l n ≡ max A t = ap (max A) (min-eq_right h) in
    let d : t - L ≡ Z + 0 = cc (ge_gap t A) in
    let yy : ltb (low_out t l n) t ≡ false = le-ltb (low_out t l n) t (le_trans (le-max_right A t) (le_of_eq (sym w))) in
    let y : puts_one t l n ≡ false = puts_none t l n (le_trans (le-max_right A t) (le_of_eq (sym w))) in
    let r₁ : Reads s b (replicate Z 0 ++ []) e = rw y at r in
    let g : L + Z ≡ low_out t l n = cc (ge_sum t A) in
    let i = zeros_raise_low s Z 0 b e L m.value [] (rw (g, w, mv) (max-le (le_trans a≤ nv) ht)) r₁ in
    step_by mark s t l b e n m (L + Z) m.value
    (ap (λ (z : ℕ). read_node s z m.value L b) d ∙ i.1 ∙ at_threshold s m.value (L + Z) i.0
    ∙ ap (λ (c : Bio). node_read m.value (L + Z) c) i.2.1) g
    (not_known (rw yy k) mv g (max-le a≤ (min-le_left n.value t)) nv mk))

-- ---- a path

pub sync_low : {mark : ℕ} {n m : Node} → Sync mark n m → n.low ≤ n.value
sync_low (is_known k mv ml nl nv mk) = le_of_eq nl
sync_low (not_known k mv ml nl nv mk) = nl

pub low-out_le : (t l : ℕ) (n : Node) → l ≤ n.value → n.low ≤ n.value → low_out t l n ≤ n.value
low-out_le t l n h k = max-le (max-le h k) (min-le_left n.value t)

pub increasing_from : {k l : ℕ} (ns : List Node) → k ≤ l → Increasing l ns → Increasing k ns
increasing_from [] h c = c
increasing_from (n ∷ ns) h c = (le_trans h c.0, c.1)

pub path_sync : (mark : ℕ) (s : List ℕ) (t l : ℕ) (b e : Bio) {ns ms : List Node} → t ≤ mark → Increasing l ns → AllSync mark ns ms
    → Reads s b (bits_of_path t l ns) e
    → ((read_all s t l b ms).bio ≡ e) × AllSync mark (nodes_after t l ns) (read_all s t l b ms).nodes
unfolding bits_of_path nodes_after read_all
path_sync mark s t l b e ht c nil r = (r.1, nil)
path_sync mark s t l b e ht c (cons {n = n} {m = m} {ns = ns} {ms = ms} y ys) r =
    let p = reads_split s b e (bits_of_node t l n) (bits_of_path t (low_out t l n) ns) r in
    let q = node_sync mark s t l b p.0 n m ht c.0 y p.1 in
    let i = path_sync mark s t (low_out t l n) p.0 e ht (increasing_from ns (low-out_le t l n c.0 (sync_low y)) c.1) ys p.2 in
    let g : read_all s t (read_one s t l b m).low (read_one s t l b m).bio ms
    ≡ read_all s t (low_out t l n) p.0 ms = cc (q.low, q.after) in
    (ap (λ (z : NodesRead). z.bio) g ∙ i.0, cons q.sync (rw (← g) at i.1))
