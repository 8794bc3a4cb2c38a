-- Reading a node in the steps of the code, a path node by node, and a leaf's value by raising the threshold.
use mathlib.Core.Path.{◌≡◌, sym, ap, ◌∙◌}
use mathlib.Core.Bool.{true, false, cond}
use mathlib.Core.List.{List, [], ◌∷◌, reverse}
use Prim.Native.Nat.{ℕ, zero, suc, ◌+◌, ◌-◌, ◌*◌, ◌≤◌, ◌<◌, max, min}
use native.Mathlib.Omega.{arith}
use lib.Dec.{eqb, ltb}
use lib.ListN.{length, set}
use lib.Seq.{set-get_or}
use Rattle.t800.specs.declared.Bio.{Bio}
use Rattle.t800.specs.Bits.{reach, get_bit}
use Rattle.t800.specs.TagTree.{NodeRead, PathRead, value, low, read_node, read_path}
use Rattle.t800.specs.State.{Block, not_yet_planes}
use Rattle.t800.specs.ReadHeader.{read_zero_planes_from}
use Rattle.t800_laws.proofs.Laws.Tests.{either, if-true, if-false}
use Rattle.bio_read.proofs.Laws.ReadChunks.{get_bit-ct, get_bit-place}
use Rattle.tgt_read.specs.Reading.{path_read, LeafAfter, leaf_after, below_in, NodeAfter, read_at}
use Rattle.tgt_read.specs.declared.LeafRead.{LeafRead}
use Rattle.tgt_read.proofs.Laws.Seeking.{cut_short}

-- ---- what a bit keeps, reading keeps: that at most eight bits are held, and that the place is at most one past the input's end

module _ (src : List ℕ) (Kept : Bio → Type 0) (bit : (b : Bio) → Kept b → Kept (get_bit src b).bio) where
  node_keeps : (d v l : ℕ) (b : Bio) → Kept b → Kept (read_node src d v l b).bio
  unfolding read_node
  node_keeps zero v l b h = h
  node_keeps (suc d) v l b h =
      either (λ (r : NodeRead). Kept r.bio) (ltb l v) _ _
      (either (λ (r : NodeRead). Kept r.bio) (eqb (get_bit src b).value 0) _ _
      (node_keeps d v (l + 1) (get_bit src b).bio (bit b h)) (bit b h)) h

  pub path_keeps : (base t : ℕ) (ns : List ℕ) (l : ℕ) (ws : List ℕ) (b : Bio) → Kept b → Kept (read_path src base t ns l ws b).bio
  unfolding read_path
  path_keeps base t [] l ws b h = h
  path_keeps base t (n ∷ ns) l ws b h = path_keeps base t ns _ _ _ (node_keeps _ _ _ b h)

  pub raising_keeps : (k : Block) (f t : ℕ) (ws : List ℕ) (b : Bio) → Kept b → Kept (read_zero_planes_from src k f t ws b).bio
  unfolding read_zero_planes_from
  raising_keeps k zero t ws b h = h
  raising_keeps k (suc f) t ws b h =
      let r = read_path src k.zero_tree t (reverse k.path) 0 ws b in
      let g = path_keeps k.zero_tree t (reverse k.path) 0 ws b h in
      either (λ (p : PathRead). Kept p.bio) (ltb (value r.words (k.zero_tree + 3 * k.leaf)) t) _ _ g
      (raising_keeps k f (t + 1) r.words r.bio g)

pub read_at-ct : (src : List ℕ) (t at l : ℕ) (ws : List ℕ) (b : Bio) → b.ct ≤ 8 → (read_at src t at l ws b).bio.ct ≤ 8
unfolding read_at
read_at-ct src t at l ws b h = node_keeps src (λ c. c.ct ≤ 8) (get_bit-ct src) (t - max l (low ws at)) (value ws at) (max l (low ws at)) b h

module _ (src : List ℕ) (base t : ℕ) (ns : List ℕ) (l : ℕ) (ws : List ℕ) (b : Bio) where
  pub read_path-ct : b.ct ≤ 8 → (read_path src base t ns l ws b).bio.ct ≤ 8
  read_path-ct h = path_keeps src (λ c. c.ct ≤ 8) (get_bit-ct src) base t ns l ws b h

  pub read_path-place : b.bp ≤ length src + reach → (read_path src base t ns l ws b).bio.bp ≤ length src + reach
  read_path-place h = path_keeps src (λ c. c.bp ≤ length src + reach) (get_bit-place src) base t ns l ws b h

module _ (src : List ℕ) (k : Block) (f t : ℕ) (ws : List ℕ) (b : Bio) where
  pub raising_ct : b.ct ≤ 8 → (read_zero_planes_from src k f t ws b).bio.ct ≤ 8
  raising_ct h = raising_keeps src (λ c. c.ct ≤ 8) (get_bit-ct src) k f t ws b h

  pub raising_place : b.bp ≤ length src + reach → (read_zero_planes_from src k f t ws b).bio.bp ≤ length src + reach
  raising_place h = raising_keeps src (λ c. c.bp ≤ length src + reach) (get_bit-place src) k f t ws b h

-- ---- a node

module _ (src : List ℕ) (t at l : ℕ) (ws : List ℕ) (b : Bio) where
  abbrev from : ℕ
  from = max l (low ws at)

  abbrev stored : NodeRead → NodeAfter
  stored r = record { words = set (set ws at r.value) (at + 1) r.low; bio = r.bio; low = r.low }

  -- the bits up to the value or the threshold were read
  pub read-sought : (f : ℕ) (r : NodeRead) → f ≡ from → r ≡ read_node src (min (value ws at) t - f) (value ws at) f b
      → record { words = set (set ws at r.value) (at + 1) r.low; bio = r.bio; low = r.low } ≡ read_at src t at l ws b
  unfolding read_at
  read-sought f r e q = ap stored (q ∙ sym (cut_short src t (value ws at) f b) ∙ ap (λ (g : ℕ). read_node src (t - g) (value ws at) g b) e)

  -- there are none: nothing but low changes
  pub read-nothing : (f : ℕ) → f ≡ from → min (value ws at) t ≤ f → record { words = set ws (at + 1) f; bio = b; low = f }
      ≡ read_at src t at l ws b
  unfolding read_node
  read-nothing f e h =
      let z : min (value ws at) t - f ≡ 0 = omega arith in
      let r : NodeRead = record { value = value ws at; low = f; bio = b } in
      ap (λ (vs : List ℕ). record { words = set vs (at + 1) f; bio = b; low = f }) (sym (set-get_or ws at 0))
      ∙ read-sought f r e (ap (λ (n : ℕ). read_node src n (value ws at) f b) (sym z))

-- ---- a path: its first node, and the rest from there
pub read-turn : (src : List ℕ) (base t n : ℕ) (ns : List ℕ) (l : ℕ) (ws : List ℕ) (b : Bio) (k : NodeAfter) → k
    ≡ read_at src t (base + 3 * n) l ws b
    → read_path src base t ns k.low k.words k.bio ≡ read_path src base t (n ∷ ns) l ws b
unfolding read_path read_at
read-turn src base t n ns l ws b k e = ap (λ (j : NodeAfter). read_path src base t ns j.low j.words j.bio) e

-- ---- a leaf: what an answer says of the path that was read
pub leaf_says : (t at : ℕ) (ws : List ℕ) (r : LeafRead) (p : PathRead) → leaf_after ws r ≡ below_in t at p
    → (path_read ws r.bio ≡ p) × (ltb (value ws at) t ≡ r.below)
leaf_says t at ws r p e = (
  ap (λ (a : LeafAfter). path_read a.words a.bio) e,
  ap (λ (a : LeafAfter). ltb (value a.words at) t) e
      ∙ sym (ap (λ (a : LeafAfter). a.below) e),
)

-- ---- raising the threshold

module _ (src : List ℕ) (k : Block) (t : ℕ) (ws : List ℕ) (b : Bio) (r : PathRead)
    (is : r ≡ read_path src k.zero_tree t (reverse k.path) 0 ws b) (less : t < not_yet_planes + 2) where
  abbrev after : ℕ → PathRead → PathRead
  after f r = cond (ltb (value r.words (k.zero_tree + 3 * k.leaf)) t) r (read_zero_planes_from src k f (t + 1) r.words r.bio)

  raise_by : read_zero_planes_from src k (not_yet_planes + 2 - t) t ws b ≡ after (not_yet_planes + 2 - (t + 1)) r
  unfolding read_zero_planes_from
  raise_by =
      let e : not_yet_planes + 2 - t ≡ suc (not_yet_planes + 2 - (t + 1)) = omega arith in
      ap (λ (f : ℕ). read_zero_planes_from src k f t ws b) e ∙ ap (after (not_yet_planes + 2 - (t + 1))) (sym is)

  pub raise_stop : ltb (value r.words (k.zero_tree + 3 * k.leaf)) t ≡ true → read_zero_planes_from src k (not_yet_planes + 2 - t) t ws b ≡ r
  raise_stop h = raise_by ∙ if-true _ _ _ h

  pub raise_on : ltb (value r.words (k.zero_tree + 3 * k.leaf)) t ≡ false
      → read_zero_planes_from src k (not_yet_planes + 2 - (t + 1)) (t + 1) r.words r.bio
      ≡ read_zero_planes_from src k (not_yet_planes + 2 - t) t ws b
  raise_on h = sym (raise_by ∙ if-false _ _ _ h)

pub raise_end : (src : List ℕ) (k : Block) (t : ℕ) (ws : List ℕ) (b : Bio) → not_yet_planes + 2 ≤ t
    → read_zero_planes_from src k (not_yet_planes + 2 - t) t ws b ≡ path_read ws b
unfolding read_zero_planes_from
raise_end src k t ws b h = let e : not_yet_planes + 2 - t ≡ 0 = omega arith in ap (λ (f : ℕ). read_zero_planes_from src k f t ws b) e
