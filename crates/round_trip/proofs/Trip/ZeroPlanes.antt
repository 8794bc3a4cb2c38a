-- Coding a path with a smaller threshold and then with a larger one is coding it with the larger one; so raising the threshold step by step
-- reads what was coded with the mark as threshold, as zero planes are.
use mathlib.Core.Path.{◌≡◌, refl, sym, ap, ap₂, ◌∙◌}
use mathlib.Core.Bool.{Bool, true, false, cond, ◌&&◌}
use mathlib.Core.List.{List, [], ◌∷◌, ◌++◌, append-nil, append_assoc}
use Prim.Native.Nat.{ℕ, zero, suc, ◌+◌, ◌-◌, ◌≤◌, ◌<◌, min, max, suc-le-suc}
use native.Mathlib.Nat.{sub_self, max-le, min-eq_right, max-eq_left, max-eq_right, min-le_right, le-max_right, le-max_left}
use native.Mathlib.Nat.{le_trans, le_of_eq, le_refl, le-min}
use native.Mathlib.Omega.{arith}
use lib.ListN.{replicate, replicate-append-replicate}
use lib.Dec.{eqb, ltb}
use Rattle.t800.specs.declared.Bio.{Bio}
use borrow.Author.Tests.{lt-ltb, le-ltb}
use Rattle.t800_laws.proofs.Laws.Tests.{if-lt, if-ge, on-lt}
use Rattle.round_trip.proofs.Trip.Bits.{Reads, reads_split}
use Rattle.round_trip.proofs.Trip.NodeSync.{puts_none, known-puts_none, sync_low, low-out_le, increasing_from, path_sync}
use Rattle.round_trip.proofs.Trip.Nodes.{Node, node, low_out, puts_one, bits_of_node, node_after, bits_of_path, nodes_after}
use Rattle.round_trip.proofs.Trip.Nodes.{NodesRead, read_all, leaf_value, raise_from, Sync, not_known, is_known, AllSync, nil}
use Rattle.round_trip.proofs.Trip.Nodes.{cons, Increasing}

-- ---- one node, by what its parts come to

-- its bits, from where low starts, where it ends, and whether a 1 is put
bits_are : (t l : ℕ) (n : Node) (a o : ℕ) (y : Bool) → max l n.low ≡ a → low_out t l n ≡ o → puts_one t l n ≡ y
    → bits_of_node t l n ≡ replicate (o - a) 0 ++ cond y (1 ∷ []) []
unfolding bits_of_node
bits_are t l n a o y p q r = rw (r, q, p)

node_is : (t l : ℕ) (n : Node) (o : ℕ) (y : Bool) → low_out t l n ≡ o → ltb o t ≡ y → node_after t l n
    ≡ node n.value o (cond y 1 n.known)
unfolding node_after
node_is t l n o y q r = rw (q, r)

-- the threshold is not above the parent's low: nothing is put, and low is raised
module _ (i l : ℕ) (n : Node) (h : i ≤ l) where
  blocked_out : low_out i l n ≡ max l n.low
  blocked_out = max-eq_left (le_trans (min-le_right n.value i) (le_trans h (le-max_left l n.low)))

  blocked_puts : puts_one i l n ≡ false
  blocked_puts = puts_none i l n (le_trans h (le_trans (le-max_left l n.low) (le_of_eq (sym blocked_out))))

  blocked_bits : bits_of_node i l n ≡ []
  blocked_bits = bits_are i l n (max l n.low) (max l n.low) false refl blocked_out blocked_puts ∙ rw sub_self

  blocked_node : node_after i l n ≡ node n.value (max l n.low) n.known
  blocked_node = node_is i l n (max l n.low) false blocked_out (le-ltb (max l n.low) i (le_trans h (le-max_left l n.low)))

pub blocked_path : (i l : ℕ) (ns : List Node) → i ≤ l → bits_of_path i l ns ≡ []
unfolding bits_of_path
blocked_path i l [] h = refl
blocked_path i l (n ∷ ns) h =
    rw (blocked_bits i l n h)
    (blocked_path i (low_out i l n) ns (le_trans h (le_trans (le-max_left l n.low) (le_of_eq (sym (blocked_out i l n h))))))

max_max : (l k c : ℕ) → l ≤ k → max k (max l c) ≡ max k c
max_max l k c h = omega arith

-- a later call does not see that a low was raised to something below its own
raised_bits : (j l k : ℕ) (n : Node) → l ≤ k → bits_of_node j k (node n.value (max l n.low) n.known) ≡ bits_of_node j k n
unfolding bits_of_node
raised_bits j l k n h = rw (max_max l k n.low h)

raised_node : (j l k : ℕ) (n : Node) → l ≤ k → node_after j k (node n.value (max l n.low) n.known) ≡ node_after j k n
unfolding node_after
raised_node j l k n h = rw (max_max l k n.low h)

raised_out : (j l k : ℕ) (n : Node) → l ≤ k → low_out j k (node n.value (max l n.low) n.known) ≡ low_out j k n
raised_out j l k n h = rw (max_max l k n.low h)

out_mono : (j l k : ℕ) (n : Node) → l ≤ k → max l n.low ≤ low_out j k n
out_mono j l k n h = omega arith

raised_path : (i j l k : ℕ) (ns : List Node) → i ≤ l → l ≤ k
    → (bits_of_path j k (nodes_after i l ns) ≡ bits_of_path j k ns) × (nodes_after j k (nodes_after i l ns) ≡ nodes_after j k ns)
unfolding bits_of_path nodes_after
raised_path i j l k [] h g = (refl, refl)
raised_path i j l k (n ∷ ns) h g =
    let o : low_out i l n ≡ max l n.low = blocked_out i l n h in
    let m : i ≤ max l n.low = le_trans h (le-max_left l n.low) in
    let r = raised_path i j (max l n.low) (low_out j k n) ns m (out_mono j l k n g) in
    rw (o, blocked_node i l n h, raised_bits j l k n g, raised_node j l k n g, raised_out j l k n g)
    (ap (λ (z : List ℕ). bits_of_node j k n ++ z) r.0, ap (λ (z : List Node). node_after j k n ∷ z) r.1)

-- the value lies below the threshold: the node is settled, and the threshold does not matter
module _ (i l : ℕ) {mark : ℕ} {n m : Node} (h : n.value < i) (hl : l ≤ n.value) (y : Sync mark n m) where
  settled_out : low_out i l n ≡ n.value
  settled_out = omega (arith, sync_low y)

  settled_puts : puts_one i l n ≡ eqb n.known 0
  settled_puts = rw (lt-ltb (low_out i l n) i (le_trans (suc-le-suc (le_of_eq settled_out)) h))

  settled_bits : bits_of_node i l n ≡ replicate (n.value - max l n.low) 0 ++ cond (eqb n.known 0) (1 ∷ []) []
  settled_bits = bits_are i l n (max l n.low) n.value (eqb n.known 0) refl settled_out settled_puts

  settled_node : node_after i l n ≡ node n.value n.value 1
  settled_node = node_is i l n n.value true settled_out (lt-ltb n.value i h)

-- a settled node puts nothing
known_out : (j l v : ℕ) → l ≤ v → low_out j l (node v v 1) ≡ v
known_out j l v h = omega arith

known-bits : (j l v : ℕ) → l ≤ v → bits_of_node j l (node v v 1) ≡ []
known-bits j l v h =
    bits_are j l (node v v 1) v v false (max-eq_right h) (known_out j l v h) (known-puts_none j l (node v v 1) refl) ∙ rw sub_self

known-node : (j l v : ℕ) → l ≤ v → node_after j l (node v v 1) ≡ node v v 1
known-node j l v h = node_is j l (node v v 1) v (ltb v j) (known_out j l v h) refl ∙ ap (λ (z : ℕ). node v v z) (same (ltb v j))
  where
    same : (b : Bool) → ◌≡◌ {A = ℕ} (cond b 1 1) 1
    same true = refl
    same false = refl

-- the value does not lie below the threshold: zeros up to it
module _ (i l : ℕ) (n : Node) (h : i ≤ n.value) where
  abbrev raised : Node
  raised = node n.value (max (max l n.low) i) n.known

  part_out : low_out i l n ≡ max (max l n.low) i
  part_out = ap (max (max l n.low)) (min-eq_right h)

  part_puts : puts_one i l n ≡ false
  part_puts = puts_none i l n (le_trans (le-max_right (max l n.low) i) (le_of_eq (sym part_out)))

  part_bits : bits_of_node i l n ≡ replicate (max (max l n.low) i - max l n.low) 0 ++ []
  part_bits = bits_are i l n (max l n.low) (max (max l n.low) i) false refl part_out part_puts

  part_node : node_after i l n ≡ raised
  part_node = node_is i l n (max (max l n.low) i) false part_out (le-ltb (max (max l n.low) i) i (le-max_right (max l n.low) i))

between_max : (i j l a v : ℕ) → l ≤ a → i ≤ v → i ≤ j → max (max l (max a i)) (min v j) ≡ max a (min v j)
between_max i j l a v p q g = omega arith

between_sum : (a i o : ℕ) → max a i ≤ o → (max a i - a) + (o - max a i) ≡ o - a
between_sum a i o h = omega arith

module _ (i j l : ℕ) (n : Node) (h : i ≤ n.value) (g : i ≤ j) where
  then_out : low_out j l (raised i l n h) ≡ low_out j l n
  then_out = between_max i j l (max l n.low) n.value (le-max_left l n.low) h g

  then_puts : puts_one j l (raised i l n h) ≡ puts_one j l n
  then_puts = ap (λ (z : ℕ). ltb z j && eqb n.known 0) then_out

  then_le : max (max l n.low) i ≤ low_out j l n
  then_le =
      let a : ℕ = max l n.low in
      max-le (le-max_left a (min n.value j)) (le_trans (le-min h g) (le-max_right a (min n.value j)))

  then_bits : bits_of_node i l n ++ bits_of_node j l (raised i l n h) ≡ bits_of_node j l n
  then_bits =
      let a : ℕ = max l n.low in
      let o : ℕ = low_out j l n in
      let x : List ℕ = cond (puts_one j l n) (1 ∷ []) [] in
      let st : max l (max a i) ≡ max a i = max-eq_right (le_trans (le-max_left l n.low) (le-max_left a i)) in
      ap₂ (λ (u w : List ℕ). u ++ w) (part_bits i l n h ∙ append-nil (replicate (max a i - a) 0))
      (bits_are j l (raised i l n h) (max a i) o (puts_one j l n) st then_out then_puts)
      ∙ sym (append_assoc (replicate (max a i - a) 0) (replicate (o - max a i) 0) x)
      ∙ ap (λ (z : List ℕ). z ++ x)
      (replicate-append-replicate (max a i - a) (o - max a i) 0 ∙ ap (λ (k : ℕ). replicate k 0) (between_sum a i o then_le))
      ∙ sym (bits_are j l n a o (puts_one j l n) refl refl refl)

  then_node : node_after j l (raised i l n h) ≡ node_after j l n
  then_node =
      let o : ℕ = low_out j l n in
      node_is j l (raised i l n h) o (ltb o j) then_out refl ∙ sym (node_is j l n o (ltb o j) refl refl)

-- ---- a path

pub lower_then_higher : {mark : ℕ} (i j l : ℕ) {ns ms : List Node} → i ≤ j → Increasing l ns → AllSync mark ns ms
    → (bits_of_path i l ns ++ bits_of_path j l (nodes_after i l ns) ≡ bits_of_path j l ns)
    × (nodes_after j l (nodes_after i l ns) ≡ nodes_after j l ns)
unfolding bits_of_path nodes_after
lower_then_higher i j l g c nil = (refl, refl)
lower_then_higher i j l g c (cons {n = n} {m = m} {ns = ns} {ms = ms} y ys) =
    let v : ℕ = n.value in
    let ih = lower_then_higher i j v g c.1 ys in
    on-lt v i
    (λ h. let p : bits_of_node i l n ≡ bits_of_node j l n = settled_bits i l h c.0 y ∙ sym (settled_bits j l (le_trans h g) c.0 y) in
    rw (
      settled_node i l h c.0 y,
      settled_out i l h c.0 y,
      known-bits j l v c.0,
      known_out j l v c.0,
      known-node j l v c.0,
      settled_out j l (le_trans h g) c.0 y,
      settled_node j l (le_trans h g) c.0 y,
      p,
      append_assoc,
    )
    (ap (λ (z : List ℕ). bits_of_node j l n ++ z) ih.0, ap (λ (z : List Node). node v v 1 ∷ z) ih.1))
    (λ h. let a : ℕ = max (max l n.low) i in
    let r = raised_path i j a (low_out j l n) ns (le-max_right (max l n.low) i) (then_le i j l n h g) in
    rw (
      part_node i l n h,
      part_out i l n h,
      blocked_path i a ns (le-max_right (max l n.low) i),
      append-nil (bits_of_node i l n),
      then_out i j l n h g,
      r.0,
      r.1,
      ← append_assoc (bits_of_node i l n) (bits_of_node j l (raised i l n h)) (bits_of_path j (low_out j l n) ns),
      then_bits i j l n h g,
      then_node i j l n h g,
    )
    (refl, refl))

pub increasing_leaf : (l : ℕ) (ns : List Node) → Increasing l ns → l ≤ leaf_value l ns
increasing_leaf l [] c = le_refl l
increasing_leaf l (n ∷ ns) c = le_trans c.0 (increasing_leaf n.value ns c.1)

-- the leaf's value lies below the threshold: a higher one does the same
pub above_leaf : {mark : ℕ} (i j l : ℕ) {ns ms : List Node} → i ≤ j → Increasing l ns → AllSync mark ns ms → leaf_value l ns < i
    → (bits_of_path i l ns ≡ bits_of_path j l ns) × (nodes_after i l ns ≡ nodes_after j l ns)
unfolding bits_of_path nodes_after
above_leaf i j l g c nil h = (refl, refl)
above_leaf i j l g c (cons {n = n} {m = m} {ns = ns} {ms = ms} y ys) h =
    let v : ℕ = n.value in
    let a : v < i = le_trans (suc-le-suc (increasing_leaf v ns c.1)) h in
    let ih = above_leaf i j v g c.1 ys h in
    rw (
      settled_out i l a c.0 y,
      settled_out j l (le_trans a g) c.0 y,
      settled_node i l a c.0 y,
      settled_node j l (le_trans a g) c.0 y,
      settled_bits i l a c.0 y,
      settled_bits j l (le_trans a g) c.0 y,
      ih.0,
      ih.1,
    )
    (refl, refl)

-- writing changes no value
value_same : (i l : ℕ) (n : Node) → (node_after i l n).value ≡ n.value
unfolding node_after
value_same i l n = refl

increasing_same : (i k l : ℕ) (ns : List Node) → Increasing l ns → Increasing l (nodes_after i k ns)
unfolding nodes_after node_after
increasing_same i k l [] c = c
increasing_same i k l (n ∷ ns) c = (c.0, increasing_same i (low_out i k n) n.value ns c.1)

leaf_same : (i k v : ℕ) (ns : List Node) → leaf_value v (nodes_after i k ns) ≡ leaf_value v ns
unfolding nodes_after node_after
leaf_same i k v [] = refl
leaf_same i k v (n ∷ ns) = leaf_same i (low_out i k n) n.value ns

-- what the reader's leaf says
sync_ge : {mark : ℕ} {n m : Node} → Sync mark n m → n.value ≤ m.value
sync_ge (is_known k mv ml nl nv mk) = le_of_eq (sym mv)
sync_ge (not_known k mv ml nl nv mk) = omega arith

leaf_ge : {mark : ℕ} {ns ms : List Node} (v w : ℕ) → v ≤ w → AllSync mark ns ms → leaf_value v ns ≤ leaf_value w ms
leaf_ge v w h nil = h
leaf_ge v w h (cons {n = n} {m = m} y ys) = leaf_ge n.value m.value (sync_ge y) ys

sync_known : {mark : ℕ} {n m : Node} → n.known ≡ 1 → Sync mark n m → m.value ≡ n.value
sync_known h (is_known k mv ml nl nv mk) = mv
sync_known h (not_known k mv ml nl nv mk) = absurd (omega arith)

leaf_known : {mark : ℕ} (i l v w : ℕ) {ns ms os : List Node} → Increasing l ns → AllSync mark ns ms
    → AllSync mark (nodes_after i l ns) os → leaf_value v ns < i → w ≡ v → leaf_value w os ≡ leaf_value v ns
unfolding nodes_after
leaf_known i l v w c nil nil h e = e
leaf_known i l v w c (cons {n = n} {ns = ns} y ys) (cons {m = o} z zs) h e =
    let a : n.value < i = le_trans (suc-le-suc (increasing_leaf n.value ns c.1)) h in
    let k : (node_after i l n).known ≡ 1 = ap (λ (q : Node). q.known) (settled_node i l a c.0 y) in
    leaf_known i (low_out i l n) n.value o.value (increasing_from ns (low-out_le i l n c.0 (sync_low y)) c.1) ys zs h
    (sync_known k z ∙ value_same i l n)

-- the two leaves lie on the same side of the threshold
pub same_side : (t l : ℕ) {mark : ℕ} {ns ms os : List Node} → Increasing l ns → AllSync mark ns ms
    → AllSync mark (nodes_after t l ns) os → ltb (leaf_value 0 os) t ≡ ltb (leaf_value 0 ns) t
same_side t l {ns = ns} {os = os} c y z =
    on-lt (leaf_value 0 ns) t
    (λ h. ap (λ (q : ℕ). ltb q t) (leaf_known t l 0 0 c y z h refl))
    (λ h. le-ltb (leaf_value 0 os) t (le_trans h (le_trans (le_of_eq (sym (leaf_same t l 0 ns))) (leaf_ge 0 0 (le_refl 0) z)))
    ∙ sym (le-ltb (leaf_value 0 ns) t h))

-- ---- zero planes

-- what raising gives: the leaf's value, where the bits end, and nodes in sync
pub record Raised (mark : ℕ) (r : NodesRead) (v : ℕ) (e : Bio) (ns : List Node) : Type 0 where
  pub leaf_is : leaf_value 0 r.nodes ≡ v
  pub ends : r.bio ≡ e
  pub sync : AllSync mark ns r.nodes

-- one turn that ends
pub raise_stops : (s : List ℕ) (f i : ℕ) (b : Bio) (ms : List Node) → leaf_value 0 (read_all s i 0 b ms).nodes < i
    → raise_from s (suc f) i b ms ≡ read_all s i 0 b ms
unfolding raise_from
raise_stops s f i b ms h = if-lt (leaf_value 0 (read_all s i 0 b ms).nodes) i _ _ h

-- one turn that goes on
pub raise_goes_on : (s : List ℕ) (f i : ℕ) (b : Bio) (ms : List Node) → i ≤ leaf_value 0 (read_all s i 0 b ms).nodes
    → raise_from s (suc f) i b ms ≡ raise_from s f (i + 1) (read_all s i 0 b ms).bio (read_all s i 0 b ms).nodes
unfolding raise_from
raise_goes_on s f i b ms h = if-ge (leaf_value 0 (read_all s i 0 b ms).nodes) i _ _ h

zero_planes_from : (s : List ℕ) (f i : ℕ) (b e : Bio) {mark : ℕ} {ns ms : List Node} → Increasing 0 ns → AllSync mark ns ms
    → leaf_value 0 ns < mark → i ≤ suc (leaf_value 0 ns)
    → suc (leaf_value 0 ns) < i + f → Reads s b (bits_of_path mark 0 ns) e
    → Raised mark (raise_from s f i b ms) (leaf_value 0 ns) e (nodes_after mark 0 ns)
zero_planes_from s zero i b e {mark = mark} c y small le room r = absurd (omega arith)
zero_planes_from s (suc f) i b e {mark = mark} {ns = ns} {ms = ms} c y small le room r =
    let v : ℕ = leaf_value 0 ns in
    on-lt v i
    (λ h. let q = above_leaf i mark 0 (omega arith) c y h in
    let p = path_sync mark s i 0 b e (omega arith) c y (rw (← q.0) at r) in
    let t : leaf_value 0 (read_all s i 0 b ms).nodes ≡ v = leaf_known i 0 0 0 c y p.1 h refl in
    rw (raise_stops s f i b ms (omega arith)) (record { leaf_is = t; ends = p.0; sync = rw (← q.1) p.1 }))
    (λ h. let q = lower_then_higher i mark 0 (omega arith) c y in
    let d = reads_split s b e (bits_of_path i 0 ns) (bits_of_path mark 0 (nodes_after i 0 ns)) (rw (← q.0) at r) in
    let p = path_sync mark s i 0 b d.0 (omega arith) c y d.1 in
    let l : leaf_value 0 (nodes_after i 0 ns) ≡ v = leaf_same i 0 0 ns in
    let t : leaf_value 0 (nodes_after i 0 ns) ≤ leaf_value 0 (read_all s i 0 b ms).nodes = leaf_ge 0 0 (le_refl 0) p.1 in
    let z = zero_planes_from s f (i + 1) d.0 e (increasing_same i 0 0 ns c) p.1 (omega arith) (omega arith) (omega arith) d.2 in
    rw (raise_goes_on s f i b ms (omega arith), p.0) (rw (l, q.1) at z))

-- from 0, where the fuel lets the threshold rise past the mark
pub zero_planes_read : (s : List ℕ) (b e : Bio) {mark : ℕ} {ns ms : List Node} → Increasing 0 ns → AllSync mark ns ms
    → leaf_value 0 ns < mark → Reads s b (bits_of_path mark 0 ns) e
    → Raised mark (raise_from s (mark + 2) 0 b ms) (leaf_value 0 ns) e (nodes_after mark 0 ns)
zero_planes_read s b e {mark = mark} {ns = ns} c y small r = zero_planes_from s (mark + 2) 0 b e c y small (omega arith) (omega arith) r
