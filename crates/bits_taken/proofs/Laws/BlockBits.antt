-- How many bits one block takes at most: its zero-plane tree gives one bit a node at each threshold, since the threshold before settled it.
use mathlib.Core.Path.{◌≡◌, sym, ◌∙◌, subst, subst₂}
use mathlib.Core.Logic.{◌≢◌}
use mathlib.Core.List.{List, [], ◌∷◌, reverse}
use Prim.Native.Nat.{ℕ, zero, suc, ◌+◌, ◌-◌, ◌*◌, ◌%◌, ◌≤◌, ◌<◌, max, min}
use native.Mathlib.Omega.{arith}
use lib.ListN.{length, get_or, set, length-set, length-reverse}
use lib.Seq.{get_or-set_same, get_or-set_other}
use lib.Dec.{ltb, eqb}
use borrow.Author.Tests.{ltb-false}
use Rattle.t800.specs.declared.Bio.{Bio}
use Rattle.t800.specs.Bits.{Decoded, byte_in, held_bit, get_bit}
use Rattle.t800.specs.TagTree.{NodeRead, PathRead, value, low, read_node, read_path}
use Rattle.t800.specs.PassCount.{read_passes}
use Rattle.t800.specs.Segments.{read_comma}
use Rattle.t800.specs.State.{Block, passes_so_far}
use Rattle.t800.specs.WriteHeader.{is_new, length_bits_before}
use Rattle.t800.specs.ReadHeader.{HeaderRead, read_zero_planes_from, read_zero_planes, read_included, read_new_block, read_old_block, read_block}
use Rattle.t800_laws.proofs.Laws.Tests.{either, either-by, if-eq, if-ne, if-ge, on-eq, on-lt}
use Rattle.t800_laws.proofs.Laws.Paths.{All, all_so}
use Rattle.t800_laws.proofs.Laws.Kept.{path_from_0, path_read_lem}
use Rattle.t800_laws.proofs.Laws.ReadValues.{passes_between}
use Rattle.bits_taken.specs.Taken.{after_bits, Takes}
use Rattle.bits_taken.proofs.Laws.Taken.{takes_then, takes_more, takes_one, one_then, then_within}
use Rattle.bits_taken.proofs.Laws.Taken.{none_within, one_within, passes_taken_lem, comma_taken, node_taken, planes_long}
use Rattle.bits_taken.proofs.Laws.Taken.{segments_fit, segments_taken}

-- ---- the bytes of so many bits

-- a byte brings at least seven
bit_bytes : (src : List ℕ) (b : Bio) → 7 * (get_bit src b).bio.bp + b.ct ≤ 7 * b.bp + (get_bit src b).bio.ct + 1
unfolding get_bit held_bit byte_in
bit_bytes src b =
    on-eq b.ct 0
    (λ z. rw (if-eq b.ct 0 (byte_in src b) b z)
    (either (λ (n : ℕ). 7 * max b.bp (min (b.bp + 1) (length src + 1099511627776)) + b.ct ≤ 7 * b.bp + (n - 1) + 1)
    (eqb (b.buf * 256 % 65536) 0xff00) 7 8 (omega arith) (omega arith)))
    (λ z. rw (if-ne b.ct 0 (byte_in src b) b z) (omega arith))

after_bytes : (src : List ℕ) (n : ℕ) (b : Bio) → 7 * (after_bits src n b).bp + b.ct ≤ 7 * b.bp + (after_bits src n b).ct + n
unfolding after_bits
after_bytes src zero b = omega arith
after_bytes src (suc n) b = omega (arith, bit_bytes src b, after_bytes src n (get_bit src b).bio)

pub takes_bytes : (src : List ℕ) (n : ℕ) (b e : Bio) → Takes src n b e → 7 * e.bp + b.ct ≤ 7 * b.bp + e.ct + n
takes_bytes src n b e t =
    subst (λ (c : Bio). 7 * c.bp + b.ct ≤ 7 * b.bp + c.ct + n) (sym t.ends)
    (omega (arith, after_bytes src t.bits b, t.few))

-- ---- nodes

-- the nodes of the tree at `base` lie in a list of so many words
abbrev pub NodesInside : (size base : ℕ) → List ℕ → Type 0
NodesInside size base ns = All (λ n. base + 3 * n + 2 < size) ns

-- a node's low has come to the threshold or to its value
abbrev Settled : (t base : ℕ) (ws : List ℕ) (n : ℕ) → Type 0
Settled t base ws n = min t (value ws (base + 3 * n)) ≤ low ws (base + 3 * n)

abbrev stored_at : (base n v l : ℕ) (ws : List ℕ) → List ℕ
stored_at base n v l ws = set (set ws (base + 3 * n) v) (base + 3 * n + 1) l

stored-long : (base n v l : ℕ) (ws : List ℕ) → length (stored_at base n v l ws) ≡ length ws
stored-long base n v l ws = length-set (set ws (base + 3 * n) v) (base + 3 * n + 1) l ∙ length-set ws (base + 3 * n) v

module _ (t base n v l : ℕ) (ws : List ℕ) (inside : base + 3 * n + 2 < length ws) (settles : min t v ≤ l) where
  -- a node that is stored is settled, and the others stay so
  settled_stored : Settled t base (stored_at base n v l ws) n
  settled_stored =
      let here : ℕ = base + 3 * n in
      let first : get_or (stored_at base n v l ws) here 0 ≡ v = get_or-set_other (set ws here v) (here + 1) here l 0 (omega arith)
      ∙ get_or-set_same ws here v 0 (omega arith) in
      let next : get_or (stored_at base n v l ws) (here + 1) 0 ≡ l = get_or-set_same (set ws here v) (here + 1) l 0
      (omega (arith, length-set ws here v)) in
      subst₂ (λ (x y : ℕ). min t x ≤ y) (sym first) (sym next) settles

  settled_other : (m : ℕ) → m ≢ n → Settled t base ws m → Settled t base (stored_at base n v l ws) m
  settled_other m d h =
      let here : ℕ = base + 3 * n in
      let there : ℕ = base + 3 * m in
      let same : (i : ℕ) → i ≢ here → i ≢ here + 1 → get_or ws i 0 ≡ get_or (stored_at base n v l ws) i 0 = λ i p q.
      sym (get_or-set_other (set ws here v) (here + 1) i l 0 q ∙ get_or-set_other ws here i v 0 p) in
      subst₂ (λ (x y : ℕ). min t x ≤ y) (same there (omega arith) (omega arith)) (same (there + 1) (omega arith) (omega arith)) h

  settled_still : (m : ℕ) → Settled t base ws m → Settled t base (stored_at base n v l ws) m
  settled_still m h =
      on-eq m n (λ e. subst (Settled t base (stored_at base n v l ws)) (sym e) settled_stored) (λ d. settled_other m d h)

-- ---- one node

-- at `from`, with so many steps left
record NodeSteps (src : List ℕ) (steps from : ℕ) (b : Bio) (r : NodeRead) : Type 0 where
  takes : Takes src (suc (r.low - from)) b r.bio
  rises : from ≤ r.low
  most : r.low ≤ from + steps
  settles : min (from + steps) r.value ≤ r.low

module _ (src : List ℕ) where
  node_steps : (steps v from : ℕ) (b : Bio) → NodeSteps src steps from b (read_node src steps v from b)
  unfolding read_node
  node_steps zero v from b =
      record { takes = none_within src _ b; rises = omega arith; most = omega arith; settles = omega arith }
  node_steps (suc steps) v from b =
      let P : NodeRead → Type 0 = NodeSteps src (suc steps) from b in
      let d : Decoded = get_bit src b in
      let r : NodeRead = read_node src steps v (from + 1) d.bio in
      let s = node_steps steps v (from + 1) d.bio in
      either-by P (ltb from v) _ _
      (λ _. either P (eqb d.value 0) _ _
      (record {
        takes = takes_more src (suc (suc (r.low - (from + 1)))) (suc (r.low - from)) b r.bio (omega (arith, s.rises))
            (one_then src (suc (r.low - (from + 1))) b r.bio s.takes);
        rises = omega (arith, s.rises);
        most = omega (arith, s.most);
        settles = omega (arith, s.settles);
      })
      (record { takes = one_within src (from - from) b; rises = omega arith; most = omega arith; settles = omega arith }))
      (λ f. record {
        takes = none_within src _ b;
        rises = omega arith;
        most = omega arith;
        settles = omega (arith, ltb-false from v f);
      })

  node_known : (steps v from : ℕ) (b : Bio) → v ≤ from → Takes src 1 b (read_node src steps v from b).bio
  unfolding read_node
  node_known zero v from b l = none_within src 1 b
  node_known (suc steps) v from b l =
      subst (λ (r : NodeRead). Takes src 1 b r.bio) (sym (if-ge from v _ _ l)) (none_within src 1 b)

  -- one bit at most, where it is settled but for the last step
  node_once : (steps v from : ℕ) (b : Bio) → min (from + steps - 1) v ≤ from → Takes src 1 b (read_node src steps v from b).bio
  node_once steps v from b h =
      on-lt from v (λ l. takes_more src steps 1 b _ (omega arith) (node_taken src steps v from b)) (λ l. node_known steps v from b l)

  -- ---- a path

  path_sum : (t parent_low own low count : ℕ) → max parent_low own ≤ low → low ≤ max parent_low own + (t - max parent_low own)
      → suc (low - max parent_low own) + (t - low + count) ≤ t - parent_low + suc count
  path_sum t parent_low own low count h g = omega arith

  -- the low of each node starts at its parent's, so that the steps add up to the threshold
  path_steps : (base t : ℕ) (path : List ℕ) (parent_low : ℕ) (ws : List ℕ) (b : Bio)
      → Takes src (t - parent_low + length path) b (read_path src base t path parent_low ws b).bio
  unfolding read_path
  path_steps base t [] parent_low ws b = none_within src _ b
  path_steps base t (n ∷ ns) parent_low ws b =
      let from : ℕ = max parent_low (low ws (base + 3 * n)) in
      let r : NodeRead = read_node src (t - from) (value ws (base + 3 * n)) from b in
      let s = node_steps (t - from) (value ws (base + 3 * n)) from b in
      then_within src (suc (r.low - from)) (t - r.low + length ns) (t - parent_low + suc (length ns)) b r.bio _ s.takes
      (path_steps base t ns r.low (stored_at base n r.value r.low ws) r.bio)
      (path_sum t parent_low (low ws (base + 3 * n)) r.low (length ns) s.rises s.most)

  -- ---- a path that is settled up to a threshold

  -- the node in front, read up to threshold t
  module _ (base t n parent_low : ℕ) (ws : List ℕ) (b : Bio) (inside : base + 3 * n + 2 < length ws) where
    abbrev from : ℕ
    from = max parent_low (low ws (base + 3 * n))

    abbrev front : NodeRead
    front = read_node src (t - from) (value ws (base + 3 * n)) from b

    abbrev after : List ℕ
    after = stored_at base n front.value front.low ws

    front-settles : (u : ℕ) → u ≤ t → min u front.value ≤ front.low
    front-settles u h = omega (arith, (node_steps (t - from) (value ws (base + 3 * n)) from b).settles)

    still_inside : (ns : List ℕ) → NodesInside (length ws) base ns → NodesInside (length after) base ns
    still_inside ns h = subst (λ (m : ℕ). NodesInside m base ns) (sym (stored-long base n front.value front.low ws)) h

    all_still : (u : ℕ) → u ≤ t → (ns : List ℕ) → All (Settled u base ws) ns → All (Settled u base after) ns
    all_still u h ns a =
        all_so (Settled u base ws) (Settled u base after) ns
        (settled_still u base n front.value front.low ws inside (front-settles u h)) a

  path_still : (base t m : ℕ) (ns : List ℕ) (parent_low : ℕ) (ws : List ℕ) (b : Bio) → NodesInside (length ws) base ns
      → Settled t base ws m → Settled t base (read_path src base t ns parent_low ws b).words m
  unfolding read_path
  path_still base t m [] parent_low ws b inside h = h
  path_still base t m (n ∷ ns) parent_low ws b inside h =
      path_still base t m ns _ _ _ (still_inside base t n parent_low ws b inside.0 ns inside.1)
      (all_still base t n parent_low ws b inside.0 t (omega arith) (m ∷ []) (h, tt)).0

  path_settles : (base t : ℕ) (ns : List ℕ) (parent_low : ℕ) (ws : List ℕ) (b : Bio) → NodesInside (length ws) base ns
      → All (Settled t base (read_path src base t ns parent_low ws b).words) ns
  unfolding read_path
  path_settles base t [] parent_low ws b inside = tt
  path_settles base t (n ∷ ns) parent_low ws b inside =
      let r : NodeRead = front base t n parent_low ws b inside.0 in
      let rest = still_inside base t n parent_low ws b inside.0 ns inside.1 in (
        path_still base t n ns r.low _ r.bio rest
            (settled_stored t base n r.value r.low ws inside.0
            (front-settles base t n parent_low ws b inside.0 t (omega arith))),
        path_settles base t ns r.low _ r.bio rest,
      )

  -- settled up to t, read up to the next threshold
  path_once : (base t : ℕ) (ns : List ℕ) (parent_low : ℕ) (ws : List ℕ) (b : Bio) → NodesInside (length ws) base ns
      → All (Settled t base ws) ns → Takes src (length ns) b (read_path src base (t + 1) ns parent_low ws b).bio
  unfolding read_path
  path_once base t [] parent_low ws b inside h = none_within src 0 b
  path_once base t (n ∷ ns) parent_low ws b inside h =
      let own : ℕ = low ws (base + 3 * n) in
      let r : NodeRead = front base (t + 1) n parent_low ws b inside.0 in
      let settled = h.0 in
      then_within src 1 (length ns) (suc (length ns)) b r.bio _
      (node_once (t + 1 - max parent_low own) (value ws (base + 3 * n)) (max parent_low own) b (omega arith))
      (path_once base t ns r.low _ r.bio (still_inside base (t + 1) n parent_low ws b inside.0 ns inside.1)
      (all_still base (t + 1) n parent_low ws b inside.0 t (omega arith) ns h.1)) (omega arith)

  -- ---- zero planes

  module _ (k : Block) where
    abbrev up : List ℕ
    up = reverse k.path

    planes_each : (bound t : ℕ) (ws : List ℕ) (b : Bio) → NodesInside (length ws) k.zero_tree up
        → All (Settled t k.zero_tree ws) up
        → Takes src (bound * length up) b (read_zero_planes_from src k bound (t + 1) ws b).bio
    unfolding read_zero_planes_from
    planes_each zero t ws b inside h = none_within src _ b
    planes_each (suc bound) t ws b inside h =
        let r : PathRead = read_path src k.zero_tree (t + 1) up 0 ws b in
        let one : Takes src (length up) b r.bio = path_once k.zero_tree t up 0 ws b inside h in
        let long : length r.words ≡ length ws =
        (path_read_lem 0 src k.zero_tree (t + 1) up 0 ws b (path_from_0 k.zero_tree up)).long in
        either (λ (p : PathRead). Takes src (suc bound * length up) b p.bio)
        (ltb (value r.words (k.zero_tree + 3 * k.leaf)) (t + 1)) _ _
        (takes_more src (length up) (suc bound * length up) b r.bio (omega arith) one)
        (then_within src (length up) (bound * length up) (suc bound * length up) b r.bio _ one
        (planes_each bound (t + 1) r.words r.bio (subst (λ (m : ℕ). NodesInside m k.zero_tree up) (sym long) inside)
        (path_settles k.zero_tree (t + 1) up 0 ws b inside)) (omega arith))

    planes_from_start : (bound : ℕ) (ws : List ℕ) (b : Bio) → NodesInside (length ws) k.zero_tree up
        → Takes src (suc bound * length up) b (read_zero_planes_from src k (suc bound) 0 ws b).bio
    unfolding read_zero_planes_from
    planes_from_start bound ws b inside =
        let r : PathRead = read_path src k.zero_tree 0 up 0 ws b in
        let one : Takes src (length up) b r.bio =
        takes_more src (0 - 0 + length up) (length up) b r.bio (omega arith) (path_steps k.zero_tree 0 up 0 ws b) in
        let long : length r.words ≡ length ws = (path_read_lem 0 src k.zero_tree 0 up 0 ws b (path_from_0 k.zero_tree up)).long in
        either (λ (p : PathRead). Takes src (suc bound * length up) b p.bio) (ltb (value r.words (k.zero_tree + 3 * k.leaf)) 0) _ _
        (takes_more src (length up) (suc bound * length up) b r.bio (omega arith) one)
        (then_within src (length up) (bound * length up) (suc bound * length up) b r.bio _ one
        (planes_each bound 0 r.words r.bio (subst (λ (m : ℕ). NodesInside m k.zero_tree up) (sym long) inside)
        (path_settles k.zero_tree 0 up 0 ws b inside)) (omega arith))

    planes_few : (r : HeaderRead) → length k.path ≤ 7 → NodesInside (length r.words) k.zero_tree up
        → Takes src 7007 r.bio (read_zero_planes src k r).bio
    unfolding read_zero_planes
    planes_few r short inside =
        let seven = length-reverse k.path in
        either (λ (p : PathRead). Takes src 7007 r.bio p.bio) (is_new r.words k) _ _
        (takes_more src (1001 * length up) 7007 r.bio _ (omega arith) (planes_from_start 1000 r.words r.bio inside))
        (none_within src 7007 r.bio)

    -- ---- a block that isn't refused

    module _ (room : ℕ) where
      included_few : (i : ℕ) (r : HeaderRead) → length k.path ≤ 7 → NodesInside (length r.words) k.zero_tree up
          → k.at + 4 ≤ length r.words → (read_included src room i k r).refusal ≡ 0
          → Takes src 12304 r.bio (read_included src room i k r).bio
      unfolding read_included
      included_few i r short nodes inside e =
          let z : PathRead = read_zero_planes src k r in
          let passes : Decoded = read_passes src z.bio in
          let inc : Decoded = read_comma src passes.bio in
          let n : ℕ = passes.value in
          let many = passes_between src z.bio in
          let bits : ℕ = length_bits_before r.words k + inc.value in
          let counted : List ℕ = set z.words k.at (passes_so_far r.words k.at + n) in
          let long : length counted ≡ length r.words = length-set z.words k.at _ ∙ planes_long src k r in
          let kept : get_or (set counted (k.at + 1) bits) (k.at + 1) 0 ≡ bits =
          get_or-set_same counted (k.at + 1) bits 0 (omega arith) in
          let fit : get_or (set counted (k.at + 1) bits) (k.at + 1) 0 ≤ 32 = segments_fit src room i k n n _ many.0 e in
          let at_passes : Takes src 7023 r.bio passes.bio =
          takes_then src 7007 16 r.bio z.bio passes.bio (planes_few r short nodes) (passes_taken_lem src z.bio) in
          let at_inc : Takes src 7056 r.bio inc.bio =
          then_within src 7023 (inc.value + 1) 7056 r.bio passes.bio inc.bio at_passes (comma_taken src passes.bio)
          (omega arith) in
          then_within src 7056 (n * 32) 12304 r.bio inc.bio _ at_inc (segments_taken src room i k n n _ e) (omega arith)

      pub block_bits_lem : (t i : ℕ) (r : HeaderRead) → length k.path ≤ 7 → NodesInside (length r.words) k.zero_tree up
          → k.at + 4 ≤ length r.words → t < 65535 → (read_block src room t i k r).refusal ≡ 0
          → Takes src 77846 r.bio (read_block src room t i k r).bio
      unfolding read_block read_new_block read_old_block
      block_bits_lem t i r short nodes inside below =
          let P : HeaderRead → Type 0 = λ s. s.refusal ≡ 0 → Takes src 77846 r.bio s.bio in
          let w : PathRead = read_path src k.incl_tree (t + 1) up 0 r.words r.bio in
          let long : length w.words ≡ length r.words =
          (path_read_lem 0 src k.incl_tree (t + 1) up 0 r.words r.bio (path_from_0 k.incl_tree up)).long in
          let seven = length-reverse k.path in
          let tree : Takes src 65542 r.bio w.bio =
          takes_more src (t + 1 - 0 + length up) 65542 r.bio w.bio (omega arith)
          (path_steps k.incl_tree (t + 1) up 0 r.words r.bio) in
          either P (is_new r.words k) _ _
          (either P (ltb (value w.words (k.incl_tree + 3 * k.leaf)) (t + 1)) _ _
          (λ e. takes_then src 65542 12304 r.bio w.bio _ tree
          (included_few i _ short (subst (λ (m : ℕ). NodesInside m k.zero_tree up) (sym long) nodes) (omega arith) e))
          (λ e. takes_more src 65542 77846 r.bio w.bio (omega arith) tree))
          (either P (eqb (get_bit src r.bio).value 0) _ _ (λ e. one_within src 77845 r.bio)
          (λ e. then_within src 1 12304 77846 r.bio (get_bit src r.bio).bio _ (takes_one src r.bio)
          (included_few i _ short nodes inside e) (omega arith)))
