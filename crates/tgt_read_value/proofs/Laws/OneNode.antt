-- A tree of one node: raising the threshold reads what one read with the last threshold reads.
use mathlib.Core.Path.{◌≡◌, refl, sym, ap, ◌∙◌, subst}
use mathlib.Core.Bool.{Bool, true, false, cond}
use mathlib.Core.List.{List, [], ◌∷◌, reverse}
use Prim.Native.Nat.{ℕ, zero, suc, ◌+◌, ◌-◌, ◌*◌, ◌/◌, ◌^◌, ◌≤◌, ◌<◌, max, min}
use native.Mathlib.Nat.{suc-add}
use native.Mathlib.Omega.{arith}
use lib.Dec.{eqb, ltb}
use lib.ListN.{length, get_or, set}
use lib.Seq.{lt-length-set, get_or-set_same, get_or-set_other, set-set, set_comm}
use borrow.Author.Tests.{le-ltb, ltb-true, ltb-false}
use Rattle.t800.specs.declared.Bio.{Bio}
use Rattle.t800.specs.Bits.{get_bit}
use Rattle.t800.specs.TagTree.{NodeRead, PathRead, value, low, read_node, read_path}
use Rattle.t800.specs.State.{Block, not_yet_planes}
use Rattle.t800.specs.ReadHeader.{read_zero_planes_from}
use Rattle.t800_laws.proofs.Laws.Tests.{on-lt}
use Rattle.tgt.specs.Path.{nodes_over, path_over}
use Rattle.tgt_read.specs.Reading.{path_read, seen, leaf_of, NodeAfter, read_at}
use Rattle.tgt.proofs.Laws.Path.{node_down}

-- ---- a node read to one threshold, and on to another

module _ (src : List ℕ) where
  -- low has reached the value
  node_done : (d v l : ℕ) (b : Bio) → v ≤ l → read_node src d v l b ≡ seen v l b
  unfolding read_node
  node_done zero v l b h = refl
  node_done (suc d) v l b h = rw (le-ltb l v h)

  -- low reaches the value or the threshold
  low-reaches : (d v l : ℕ) (b : Bio) → min (read_node src d v l b).value (l + d) ≤ (read_node src d v l b).low
  unfolding read_node
  low-reaches zero v l b = omega arith
  low-reaches (suc d) v l b = by (ltb l v) (eqb (get_bit src b).value 0) refl (low-reaches d v (l + 1) (get_bit src b).bio)
    where
      on : NodeRead
      on = read_node src d v (l + 1) (get_bit src b).bio

      after : Bool → Bool → NodeRead
      after p q = cond p (cond q on (seen l l (get_bit src b).bio)) (seen v l b)

      by : (p q : Bool) → ltb l v ≡ p → min on.value (l + 1 + d) ≤ on.low → min (after p q).value (l + suc d) ≤ (after p q).low
      by true true e i = omega arith
      by true false e i = omega arith
      by false q e i = let h = ltb-false l v e in omega arith

  read-on : (d e v l : ℕ) (b : Bio) → let r = read_node src d v l b in read_node src (d + e) v l b
      ≡ read_node src (l + d + e - r.low) r.value r.low r.bio
  unfolding read_node
  read-on zero e v l b = let z : zero + e ≡ l + zero + e - l = omega arith in ap (λ (n : ℕ). read_node src n v l b) z
  read-on (suc d) e v l b = ap (λ (n : ℕ). read_node src n v l b) (suc-add d e)
      ∙ by (ltb l v) (eqb (get_bit src b).value 0) refl (read-on d e v (l + 1) (get_bit src b).bio)
    where
      on : ℕ → NodeRead
      on n = read_node src n v (l + 1) (get_bit src b).bio

      after : Bool → Bool → ℕ → NodeRead
      after p q n = cond p (cond q (on n) (seen l l (get_bit src b).bio)) (seen v l b)

      rest : ℕ → NodeRead → NodeRead
      rest n r = read_node src (n - r.low) r.value r.low r.bio

      by : (p q : Bool) → ltb l v ≡ p → on (d + e) ≡ rest (l + 1 + d + e) (on d) → after p q (d + e) ≡ rest (l + suc d + e) (after p q d)
      by true true h i = let z : l + 1 + d + e ≡ l + suc d + e = omega arith in i ∙ ap (λ (n : ℕ). rest n (on d)) z
      by true false h i = sym (node_done (l + suc d + e - l) l l (get_bit src b).bio (omega arith))
      by false q h i = sym (node_done (l + suc d + e - l) v l b (ltb-false l v h))

  again : (t u v l : ℕ) (b : Bio) → t ≤ u
      → let r = read_node src (t - l) v l b in read_node src (u - r.low) r.value r.low r.bio ≡ read_node src (u - l) v l b
  unfolding read_node
  again t u v l b h =
      on-lt t l
      (λ g. let z : 0 ≡ t - l = omega arith in
      subst (λ (n : ℕ). let r = read_node src n v l b in read_node src (u - r.low) r.value r.low r.bio
      ≡ read_node src (u - l) v l b) z refl)
      (λ g. let r = read_node src (t - l) v l b in
      let y : u ≡ l + (t - l) + (u - t) = omega arith in
      let z : t - l + (u - t) ≡ u - l = omega arith in
      ap (λ (n : ℕ). read_node src (n - r.low) r.value r.low r.bio) y ∙ sym (read-on (t - l) (u - t) v l b)
      ∙ ap (λ (n : ℕ). read_node src n v l b) z)

-- ---- the node's words

module _ (src : List ℕ) (at t : ℕ) (ws : List ℕ) (b : Bio) (room : at + 1 < length ws) where
  abbrev sought : NodeRead
  sought = read_node src (t - max 0 (low ws at)) (value ws at) (max 0 (low ws at)) b

  abbrev stored : List ℕ → NodeRead → NodeAfter
  stored vs r = record { words = set (set vs at r.value) (at + 1) r.low; bio = r.bio; low = r.low }

  stored-again : (r q : NodeRead) → stored (stored ws r).words q ≡ stored ws q
  stored-again r q =
      let n : at + 1 ≡ at → ⊥ = omega arith in
      let e : set (set (set (set ws at r.value) (at + 1) r.low) at q.value) (at + 1) q.low
      ≡ set (set ws at q.value) (at + 1) q.low =
      ap (λ (vs : List ℕ). set vs (at + 1) q.low) (set_comm (set ws at r.value) (at + 1) at r.low q.value n)
      ∙ set-set (set (set ws at r.value) at q.value) (at + 1) r.low q.low
      ∙ ap (λ (vs : List ℕ). set vs (at + 1) q.low) (set-set ws at r.value q.value) in
      λ i. record { words = e i; bio = q.bio; low = q.low }

  -- read once more, up to u
  reread : (u : ℕ) (r : NodeRead) → read_at src u at 0 (stored ws r).words r.bio
      ≡ stored ws (read_node src (u - r.low) r.value r.low r.bio)
  unfolding read_at
  reread u r =
      let vs = (stored ws r).words in
      let n : at ≡ at + 1 → ⊥ = omega arith in
      let e : value vs at ≡ r.value = get_or-set_other (set ws at r.value) (at + 1) at r.low 0 n
      ∙ get_or-set_same ws at r.value 0 (omega arith) in
      let f : low vs at ≡ r.low = get_or-set_same (set ws at r.value) (at + 1) r.low 0 (lt-length-set ws at r.value room) in
      let m : max 0 (low vs at) ≡ r.low = omega arith in
      ap (λ (l : ℕ). stored vs (read_node src (u - l) (value vs at) l r.bio)) m
      ∙ ap (λ (v : ℕ). stored vs (read_node src (u - r.low) v r.low r.bio)) e
      ∙ stored-again r (read_node src (u - r.low) r.value r.low r.bio)

  read_twice : (u : ℕ) → t ≤ u → let k = read_at src t at 0 ws b in read_at src u at 0 k.words k.bio ≡ read_at src u at 0 ws b
  unfolding read_at
  read_twice u h = reread u sought ∙ ap (stored ws) (again src t u (value ws at) (max 0 (low ws at)) b h)

  read-enough : (u : ℕ) → let k = read_at src t at 0 ws b in value k.words at < t → read_at src u at 0 k.words k.bio ≡ k
  unfolding read_at
  read-enough u h =
      let r = sought in
      let n : at ≡ at + 1 → ⊥ = omega arith in
      let e : value (stored ws r).words at ≡ r.value = get_or-set_other (set ws at r.value) (at + 1) at r.low 0 n
      ∙ get_or-set_same ws at r.value 0 (omega arith) in
      let g = low-reaches src (t - max 0 (low ws at)) (value ws at) (max 0 (low ws at)) b in
      reread u r ∙ ap (stored ws) (node_done src (u - r.low) r.value r.low r.bio (omega arith))

-- ---- raising

module _ (src : List ℕ) (k : Block) (single : reverse k.path ≡ k.leaf ∷ []) where
  abbrev at : ℕ
  at = k.zero_tree + 3 * k.leaf

  abbrev path_of : NodeAfter → PathRead
  path_of n = path_read n.words n.bio

  abbrev once : ℕ → List ℕ → Bio → NodeAfter
  once t ws b = read_at src t at 0 ws b

  path_once : (t : ℕ) (ws : List ℕ) (b : Bio) → read_path src k.zero_tree t (reverse k.path) 0 ws b ≡ path_of (once t ws b)
  unfolding read_path read_at
  path_once t ws b = ap (λ (ns : List ℕ). read_path src k.zero_tree t ns 0 ws b) single

  same : (p : Bool) (r : PathRead) → cond p r r ≡ r
  same true r = refl
  same false r = refl

  once_room : (t : ℕ) (ws : List ℕ) (b : Bio) → at + 1 < length ws → at + 1 < length (once t ws b).words
  unfolding read_at
  once_room t ws b h =
      let r = read_node src (t - max 0 (low ws at)) (value ws at) (max 0 (low ws at)) b in
      lt-length-set (set ws at r.value) (at + 1) r.low (lt-length-set ws at r.value h)

  raised : (f t : ℕ) (ws : List ℕ) (b : Bio) → at + 1 < length ws → t + f ≡ not_yet_planes + 1
      → read_zero_planes_from src k (suc f) t ws b ≡ path_of (once (not_yet_planes + 1) ws b)
  unfolding read_zero_planes_from
  raised zero t ws b room e =
      let q : t ≡ not_yet_planes + 1 = omega arith in
      same (ltb (value (read_path src k.zero_tree t (reverse k.path) 0 ws b).words at) t)
      (read_path src k.zero_tree t (reverse k.path) 0 ws b)
      ∙ path_once t ws b
      ∙ ap (λ (u : ℕ). path_of (once u ws b)) q
  raised (suc f) t ws b room e =
      ap (λ (r : PathRead). cond (ltb (value r.words at) t) r (read_zero_planes_from src k (suc f) (t + 1) r.words r.bio))
      (path_once t ws b)
      ∙ by (ltb (value (once t ws b).words at) t) refl
      (raised f (t + 1) (once t ws b).words (once t ws b).bio (once_room t ws b room) (omega arith))
    where
      by : (p : Bool) → ltb (value (once t ws b).words at) t ≡ p
          → read_zero_planes_from src k (suc f) (t + 1) (once t ws b).words (once t ws b).bio
          ≡ path_of (once (not_yet_planes + 1) (once t ws b).words (once t ws b).bio)
          → cond p (path_of (once t ws b)) (read_zero_planes_from src k (suc f) (t + 1) (once t ws b).words (once t ws b).bio)
          ≡ path_of (once (not_yet_planes + 1) ws b)
      by true h i = ap path_of
          (sym (read-enough src at t ws b room (not_yet_planes + 1) (ltb-true _ _ h))
          ∙ read_twice src at t ws b room (not_yet_planes + 1) (omega arith))
      by false h i = i ∙ ap path_of (read_twice src at t ws b room (not_yet_planes + 1) (omega arith))

-- one level

one_over : (row : List ℕ) (x : ℕ) → 1 ≤ length row → reverse (path_over row 1 x) ≡ (get_or row 0 0 + x) ∷ []
unfolding nodes_over
one_over row x long = let z : x / 2 ^ 0 ≡ x = omega arith in node_down row 1 x (omega arith) long
    ∙ ap (λ (y : ℕ). (get_or row 0 0 + y) ∷ []) z

pub raised_at_once : (src : List ℕ) (base : ℕ) (row : List ℕ) (x : ℕ) (ws : List ℕ) (b : Bio) → 1 ≤ length row
    → base + 3 * (get_or row 0 0 + x) + 2 < length ws
    → read_zero_planes_from src (leaf_of base row 1 x) (not_yet_planes + 2) 0 ws b
    ≡ read_path src base (not_yet_planes + 1) (reverse (path_over row 1 x)) 0 ws b
raised_at_once src base row x ws b long room =
    raised src (leaf_of base row 1 x) (one_over row x long) (not_yet_planes + 1) 0 ws b (omega arith) (omega arith)
    ∙ sym (path_once src (leaf_of base row 1 x) (one_over row x long) (not_yet_planes + 1) ws b)
