-- The ranges of the words of nodes and blocks, one by one.
use mathlib.Core.Path.{◌≡◌, refl, sym, ap, ◌∙◌, subst}
use mathlib.Core.Logic.{◌≢◌, inl, inr}
use mathlib.Core.Bool.{Bool, true, false, cond, ◌&&◌, ◌||◌}
use mathlib.Core.List.{List, [], ◌∷◌}
use Prim.Native.Nat.{ℕ, zero, suc, ◌+◌, ◌*◌, ◌≤◌, ◌<◌}
use native.Mathlib.Omega.{arith}
use lib.Dec.{leb, eqb}
use borrow.Author.Tests.{eqb-true, leb-true, eq-eqb, ne_eqb, le-leb}
use Rattle.t800.specs.declared.Band.{Band}
use Rattle.t800.specs.Base.{every}
use Rattle.t800.specs.TagTree.{value, low, known}
use Rattle.t800.specs.Segments.{is_limit}
use Rattle.t800.specs.State.{not_yet_included, not_yet_planes, writer, role, style, layer, blocks_in, band_nodes, band_length}
use Rattle.t800.specs.State.{passes_so_far, length_bits, segment_limit, segment_passes}
use Rattle.t800.specs.Ranges.{node_in_range, block_in_range, band_in_range, band_in_range_with, bands_in_range, bands_in_range_with}
use Rattle.t800_laws.proofs.Laws.Tests.{on-eq, and_left, and_right}
use Rattle.t800_laws.proofs.Laws.Layout.{Tree, inclusion, zero_planes, not_yet, tree_from, NodeFrom, BlockFrom}
use Rattle.tcd_laws.proofs.Laws.ValidStates.{every_true}

-- ---- nodes

pub record NodeIn (most : ℕ) (ws : List ℕ) (a : ℕ) : Type 0 where
  pub value_in : value ws a ≤ most
  pub low-in : low ws a ≤ most
  pub known_in : known ws a ≤ 1

pub node_in_range_lem : (most : ℕ) (ws : List ℕ) (a : ℕ) → NodeIn most ws a → node_in_range ws most a ≡ true
unfolding node_in_range
node_in_range_lem most ws a n =
    rw (le-leb (value ws a) most n.value_in, le-leb (low ws a) most n.low-in, le-leb (known ws a) 1 n.known_in)

node_is_in : (most : ℕ) (ws : List ℕ) (a : ℕ) → node_in_range ws most a ≡ true → NodeIn most ws a
unfolding node_in_range
node_is_in most ws a e =
    let v : Bool = leb (value ws a) most in
    let l : Bool = leb (low ws a) most in
    let k : Bool = leb (known ws a) 1 in
    let f = and_left (v && l) k e in
    record {
      value_in = leb-true (value ws a) most (and_left v l f);
      low-in = leb-true (low ws a) most (and_right v l f);
      known_in = leb-true (known ws a) 1 (and_right (v && l) k e);
    }

-- one of a band's trees
tree_known : (ws : List ℕ) (at : ℕ) (b : Band) → band_in_range ws at b ≡ true
    → (t : Tree) (j : ℕ) → j < band_nodes b → NodeIn (not_yet t) ws (tree_from t at b + 3 * j)
unfolding band_in_range_with
tree_known ws at b e t j h =
    let i : Bool = every (band_nodes b) (λ i. node_in_range ws not_yet_included (at + 3 * i)) in
    let z : Bool = every (band_nodes b) (λ i. node_in_range ws not_yet_planes (at + 3 * band_nodes b + 3 * i)) in
    let k : Bool = every (blocks_in b) (λ i. block_in_range ws (at + 6 * band_nodes b + 4 * i)) in
    let f = and_left (i && z) k e in
    of_tree t (and_left i z f) (and_right i z f)
  where
    of_tree : (t : Tree) → every (band_nodes b) (λ i. node_in_range ws not_yet_included (at + 3 * i)) ≡ true
        → every (band_nodes b) (λ i. node_in_range ws not_yet_planes (at + 3 * band_nodes b + 3 * i)) ≡ true
        → NodeIn (not_yet t) ws (tree_from t at b + 3 * j)
    of_tree inclusion f g =
        node_is_in not_yet_included ws (at + 3 * j) (every_true (band_nodes b) (λ i. node_in_range ws not_yet_included (at + 3 * i)) f j h)
    of_tree zero_planes f g =
        node_is_in not_yet_planes ws (at + 3 * band_nodes b + 3 * j)
        (every_true (band_nodes b) (λ i. node_in_range ws not_yet_planes (at + 3 * band_nodes b + 3 * i)) g j h)

pub node_known : (ws : List ℕ) (at : ℕ) (bs : List Band) → bands_in_range ws at bs ≡ true
    → (t : Tree) (a : ℕ) → NodeFrom t at bs a → NodeIn (not_yet t) ws a
unfolding bands_in_range_with
node_known ws at [] e t a n = absurd n
node_known ws at (b ∷ bs) e t a (inl c) =
    subst (NodeIn (not_yet t) ws) (sym c.2)
    (tree_known ws at b (and_left (band_in_range ws at b) (bands_in_range ws (at + band_length b) bs) e) t c.0 c.1)
node_known ws at (b ∷ bs) e t a (inr n) =
    node_known ws (at + band_length b) bs (and_right (band_in_range ws at b) (bands_in_range ws (at + band_length b) bs) e) t a n

-- ---- blocks

-- the open segment has passes, as many as its limit at most
pub record SegmentIn (s : ℕ) (ws : List ℕ) (p : ℕ) : Type 0 where
  pub limit_in_lem : is_limit s (segment_limit ws p) ≡ true
  pub some_used : 1 ≤ segment_passes ws p
  pub used_in : segment_passes ws p ≤ segment_limit ws p

-- with so many passes at most
pub record BlockIn (s most : ℕ) (ws : List ℕ) (p : ℕ) : Type 0 where
  pub passes_in_lem : passes_so_far ws p ≤ most
  pub none : passes_so_far ws p ≡ 0 → (length_bits ws p ≡ 0) × (segment_limit ws p ≡ 0) × (segment_passes ws p ≡ 0)
  pub some : passes_so_far ws p ≢ 0 → (3 ≤ length_bits ws p) × (length_bits ws p ≤ 32) × (SegmentIn s ws p)

module _ (ws : List ℕ) (p : ℕ) (read : eqb (role ws) 1 ≡ false) where
  abbrev no_passes : Bool
  no_passes = eqb (passes_so_far ws p) 0

  abbrev bits_test : Bool → Bool
  bits_test none = cond none (eqb (length_bits ws p) 0) (leb 3 (length_bits ws p) && leb (length_bits ws p) 32)

  abbrev segment_test : Bool → Bool
  segment_test none = cond none (eqb (segment_limit ws p) 0 && eqb (segment_passes ws p) 0)
      (is_limit (style ws) (segment_limit ws p) && leb 1 (segment_passes ws p) && leb (segment_passes ws p) (segment_limit ws p))

  or_reader : (none : Bool) → (none || eqb (role ws) 1) ≡ none
  or_reader true = refl
  or_reader false = read

  tests : block_in_range ws p ≡ (leb (passes_so_far ws p) (164 * layer ws) && bits_test no_passes && segment_test no_passes)
  unfolding block_in_range writer
  tests = ap (λ (x : Bool). leb (passes_so_far ws p) (164 * layer ws) && bits_test no_passes && segment_test x) (or_reader no_passes)

  pub block_is_in : block_in_range ws p ≡ true → BlockIn (style ws) (164 * layer ws) ws p
  block_is_in e =
      let few : Bool = leb (passes_so_far ws p) (164 * layer ws) in
      let f = sym tests ∙ e in
      let g = and_left (few && bits_test no_passes) (segment_test no_passes) f in
      let bits = and_right few (bits_test no_passes) g in
      let segment = and_right (few && bits_test no_passes) (segment_test no_passes) f in
      record {
        passes_in_lem = leb-true (passes_so_far ws p) (164 * layer ws) (and_left few (bits_test no_passes) g);
        none = λ z.
            let y : no_passes ≡ true = eq-eqb (passes_so_far ws p) 0 z in
            let b = sym (ap bits_test y) ∙ bits in
            let s = sym (ap segment_test y) ∙ segment in (
              eqb-true (length_bits ws p) 0 b,
              eqb-true (segment_limit ws p) 0 (and_left (eqb (segment_limit ws p) 0) (eqb (segment_passes ws p) 0) s),
              eqb-true (segment_passes ws p) 0 (and_right (eqb (segment_limit ws p) 0) (eqb (segment_passes ws p) 0) s),
            );
        some = λ n.
            let y : no_passes ≡ false = ne_eqb (passes_so_far ws p) 0 n in
            let b = sym (ap bits_test y) ∙ bits in
            let s = sym (ap segment_test y) ∙ segment in
            let limit : Bool = is_limit (style ws) (segment_limit ws p) in
            let one : Bool = leb 1 (segment_passes ws p) in
            let all : Bool = leb (segment_passes ws p) (segment_limit ws p) in (
              leb-true 3 (length_bits ws p) (and_left (leb 3 (length_bits ws p)) (leb (length_bits ws p) 32) b),
              leb-true (length_bits ws p) 32 (and_right (leb 3 (length_bits ws p)) (leb (length_bits ws p) 32) b),
              record {
                limit_in_lem = and_left limit one (and_left (limit && one) all s);
                some_used = leb-true 1 (segment_passes ws p) (and_right limit one (and_left (limit && one) all s));
                used_in = leb-true (segment_passes ws p) (segment_limit ws p) (and_right (limit && one) all s);
              },
            );
      }

  pub block_in_range_lem : (most : ℕ) → most ≤ 164 * layer ws → BlockIn (style ws) most ws p → block_in_range ws p ≡ true
  block_in_range_lem most h b =
      tests
      ∙ rw (le-leb (passes_so_far ws p) (164 * layer ws) (omega (arith, b.passes_in_lem)))
      (on-eq (passes_so_far ws p) 0
      (λ z. let k = b.none z in rw (eq-eqb (passes_so_far ws p) 0 z, k.0, k.1, k.2))
      (λ n.
      let k = b.some n in
      rw (
        ne_eqb (passes_so_far ws p) 0 n,
        le-leb 3 (length_bits ws p) k.0,
        le-leb (length_bits ws p) 32 k.1,
        k.2.limit_in_lem,
        le-leb 1 (segment_passes ws p) k.2.some_used,
        le-leb (segment_passes ws p) (segment_limit ws p) k.2.used_in,
      )))

-- ---- all bands

each_true : (n : ℕ) (f : ℕ → Bool) → ((i : ℕ) → i < n → f i ≡ true) → every n f ≡ true
unfolding every
each_true zero f h = refl
each_true (suc n) f h = rw (h n (omega arith), each_true n f (λ i l. h i (omega arith)))

pub bands-in_range : (ws : List ℕ) (at : ℕ) (bs : List Band)
    → ((t : Tree) (a : ℕ) → NodeFrom t at bs a → node_in_range ws (not_yet t) a ≡ true)
    → ((p : ℕ) → BlockFrom at bs p → block_in_range ws p ≡ true) → bands_in_range ws at bs ≡ true
unfolding bands_in_range_with band_in_range_with
bands-in_range ws at [] f g = refl
bands-in_range ws at (b ∷ bs) f g =
    let n : ℕ = band_nodes b in
    rw (
      each_true n (λ i. node_in_range ws not_yet_included (at + 3 * i)) (λ i h. f inclusion (at + 3 * i) (inl (i, h, refl))),
      each_true n (λ i. node_in_range ws not_yet_planes (at + 3 * n + 3 * i)) (λ i h. f zero_planes (at + 3 * n + 3 * i) (inl (i, h, refl))),
      each_true (blocks_in b) (λ i. block_in_range ws (at + 6 * n + 4 * i)) (λ i h. g (at + 6 * n + 4 * i) (inl (i, h, refl))),
    )
    (bands-in_range ws (at + band_length b) bs (λ t a m. f t a (inr m)) (λ p m. g p (inr m)))
