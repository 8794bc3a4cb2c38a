-- A writer's state, whatever the termination marks: its nodes and blocks are in the ranges of refusal 5, and a layer that nothing refuses
-- keeps them there. No low of an inclusion tree is above the next layer.
use mathlib.Core.Path.{◌≡◌, refl, sym, ap₂, ◌∙◌, subst}
use mathlib.Core.Bool.{false, cond, ◌||◌, not, or-true}
use mathlib.Core.List.{List, [], ◌∷◌, reverse}
use Prim.Native.Nat.{ℕ, ◌+◌, ◌*◌, ◌≤◌, ◌<◌, zero-le}
use native.Mathlib.Nat.{le_trans, le_of_eq, le_refl, max-le, min-le_right}
use native.Mathlib.Omega.{arith}
use lib.ListN.{length, get_or, set, take, drop, length-set, length-take, length-drop}
use lib.Seq.{get_or-set_other}
use lib.Dec.{ltb, eqb}
use borrow.Author.Tests.{ltb-false}
use Rattle.t800.specs.Base.{any, sum}
use Rattle.t800.specs.TagTree.{Coded, code_path}
use Rattle.t800.specs.Segments.{Segment, segments_from, segments_of, width, increment}
use Rattle.t800.specs.State.{Block, not_yet_planes, passes_so_far, length_bits, segment_limit, segment_passes}
use Rattle.t800.specs.WriteHeader.{Contribution, is_new, length_bits_before, set_new_blocks, code_inclusion, code_zero_planes, code_passes}
use Rattle.t800.specs.WriteHeader.{code_block, code_blocks, field_too_wide}
use Rattle.t800_laws.proofs.Laws.Tests.{on-eq, if-eq, if-ne, either, or_left, or_right}
use Rattle.t800_laws.proofs.Laws.Paths.{All, ApartFromAll}
use Rattle.t800_laws.proofs.Laws.Layout.{Tree, inclusion, zero_planes, not_yet, tree_of, Layout, Placed, SeparateFromAll, AllPlaced}
use Rattle.t800_laws.proofs.Laws.Layout.{on-tree, root_to_leaf, from_root_nodes}
use Rattle.round_trip.proofs.Trip.Nodes.{Node, low_out, node_after, nodes_after}
use Rattle.round_trip.proofs.Trip.NodeWords.{node_at, nodes_at}
use Rattle.round_trip.proofs.Trip.Trees.{NodesOnly, all_apart, path_coded, coding_keeps}
use Rattle.round_trip.proofs.Trip.Segments.{too_wide, field_fits}
use Rattle.round_trip.proofs.Trip.Changes.{SameBlock, block_stays, BlockOnly, node_stays, other_block_stays, stored}
use Rattle.round_trip.proofs.Trip.Changes.{stored-passes, stored-bits, stored-others, stored-length, ValuesOnly, nodes-only}
use Rattle.round_trip.proofs.Trip.Changes.{low-stays, known-stays, BlockCoded, block_coded, paths_keep}
use Rattle.round_trip.proofs.Trip.SetLeaves.{new_blocks_set}

-- ---- the ranges

-- of the lows, with next layer t
abbrev pub low_bound : ℕ → Tree → ℕ
low_bound t inclusion = t
low_bound t zero_planes = not_yet_planes

pub record NodeRange (mark bound : ℕ) (n : Node) : Type 0 where
  pub value_in : n.value ≤ mark
  pub low-in : n.low ≤ bound
  pub known_in : n.known ≤ 1

pub record WriterBlock (t : ℕ) (ws : List ℕ) (p : ℕ) : Type 0 where
  pub most : passes_so_far ws p ≤ 164 * t
  pub no_bits : passes_so_far ws p ≡ 0 → length_bits ws p ≡ 0
  pub some_bits : 0 < passes_so_far ws p → 3 ≤ length_bits ws p
  pub most_bits : length_bits ws p ≤ 32
  pub no_limit : segment_limit ws p ≡ 0
  pub no_passes_lem : segment_passes ws p ≡ 0

pub record WriterState (L : Layout) (t : ℕ) (ws : List ℕ) : Type 0 where
  pub long : length ws ≡ L.size
  pub nodes : (u : Tree) (a : ℕ) → L.Node u a → NodeRange (not_yet u) (low_bound t u) (node_at ws a)
  pub blocks : (p : ℕ) → L.BlockAt p → WriterBlock t ws p

same_block : (t : ℕ) (ws vs : List ℕ) (p : ℕ) → SameBlock ws vs p → WriterBlock t ws p → WriterBlock t vs p
same_block t ws vs p s b =
    record {
      most = rw s.0 b.most;
      no_bits = λ z. s.1 ∙ b.no_bits (sym s.0 ∙ z);
      some_bits = λ z. rw s.1 (b.some_bits (rw s.0 at z));
      most_bits = rw s.1 b.most_bits;
      no_limit = s.2 ∙ b.no_limit;
      no_passes_lem = s.3 ∙ b.no_passes_lem;
    }

low-bound_up : (t : ℕ) (u : Tree) → low_bound t u ≤ low_bound (t + 1) u
low-bound_up t inclusion = omega arith
low-bound_up t zero_planes = le_refl not_yet_planes

-- the next layer moves
pub later : (L : Layout) (t : ℕ) (ws : List ℕ) → WriterState L t ws → WriterState L (t + 1) ws
later L t ws y =
    record {
      long = y.long;
      nodes = λ u a n. let r = y.nodes u a n in
          record { value_in = r.value_in; low-in = le_trans r.low-in (low-bound_up t u); known_in = r.known_in };
      blocks = λ p b. let z = y.blocks p b in record {
        most = omega (arith, z.most);
        no_bits = z.no_bits;
        some_bits = z.some_bits;
        most_bits = z.most_bits;
        no_limit = z.no_limit;
        no_passes_lem = z.no_passes_lem;
      };
    }

-- ---- leaves are set

pub values_in_range : (L : Layout) (u : Tree) (t : ℕ) (ws vs : List ℕ) → ValuesOnly L u ws vs → WriterState L t ws → WriterState L t vs
values_in_range L u t ws vs o y =
    record {
      long = o.long ∙ y.long;
      nodes = λ x a n. let r = y.nodes x a n in record {
        value_in = le_trans (o.none_rises a) r.value_in;
        low-in = le_trans (le_of_eq (low-stays L u ws vs o x a n)) r.low-in;
        known_in = le_trans (le_of_eq (known-stays L u ws vs o x a n)) r.known_in;
      };
      blocks = λ p b. same_block t ws vs p (block_stays L ws vs (nodes-only L u ws vs o) p b) (y.blocks p b);
    }

-- ---- a path is coded

abbrev NodeRanges : ℕ → ℕ → List Node → Type 0
NodeRanges mark bound [] = Unit {0}
NodeRanges mark bound (n ∷ ns) = NodeRange mark bound n × NodeRanges mark bound ns

node_after_range : (mark bound t l : ℕ) (n : Node) → l ≤ bound → t ≤ bound → NodeRange mark bound n → NodeRange mark bound (node_after t l n)
unfolding node_after
node_after_range mark bound t l n hl ht r =
    record {
      value_in = r.value_in;
      low-in = max-le (max-le hl r.low-in) (le_trans (min-le_right n.value t) ht);
      known_in = either (λ (k : ℕ). k ≤ 1) (ltb (low_out t l n) t) 1 n.known (omega arith) r.known_in;
    }

nodes-after_range : (mark bound t l : ℕ) (ns : List Node) → l ≤ bound → t ≤ bound → NodeRanges mark bound ns
    → NodeRanges mark bound (nodes_after t l ns)
unfolding nodes_after
nodes-after_range mark bound t l [] hl ht r = tt
nodes-after_range mark bound t l (n ∷ ns) hl ht r =
    let o : low_out t l n ≤ bound = max-le (max-le hl r.0.low-in) (le_trans (min-le_right n.value t) ht) in
    (node_after_range mark bound t l n hl ht r.0, nodes-after_range mark bound t (low_out t l n) ns o ht r.1)

path_ranges : (L : Layout) (t : ℕ) (u : Tree) (ws xs : List ℕ) → All (L.Node u) xs → WriterState L t ws
    → NodeRanges (not_yet u) (low_bound t u) (nodes_at ws xs)
path_ranges L t u ws [] h y = tt
path_ranges L t u ws (a ∷ xs) h y = (y.nodes u a h.0, path_ranges L t u ws xs h.1 y)

-- a node of the tree is on the path or apart from it
on_or_apart : (L : Layout) (u : Tree) (mark bound a : ℕ) (vs xs : List ℕ) → L.Node u a → All (L.Node u) xs
    → NodeRanges mark bound (nodes_at vs xs)
    → (ApartFromAll a xs → NodeRange mark bound (node_at vs a)) → NodeRange mark bound (node_at vs a)
on_or_apart L u mark bound a vs [] n h r f = f tt
on_or_apart L u mark bound a vs (b ∷ xs) n h r f =
    on-eq a b
    (λ e. rw e r.0)
    (λ e. on_or_apart L u mark bound a vs xs n h.1 r.1 (λ o. f (L.nodes-apart u u a b n h.0 e, o)))

module _ (L : Layout) (u : Tree) (k : Block) (P : Placed L k) where
  path_in_range : (m t : ℕ) (ws : List ℕ) → t ≤ low_bound m u → WriterState L m ws
      → WriterState L m (code_path (tree_of u k) t (reverse k.path) 0 ws).words
  path_in_range m t ws ht y =
      let o = coding_keeps L u k P t ws y.long in
      let vs : List ℕ = (code_path (tree_of u k) t (reverse k.path) 0 ws).words in
      let xs : List ℕ = root_to_leaf u k in
      let ns = from_root_nodes L u k P in
      let c = path_coded L u k P t ws y.long in
      let after : NodeRanges (not_yet u) (low_bound m u) (nodes_at vs xs) =
      subst (NodeRanges (not_yet u) (low_bound m u)) (sym c.words.nodes)
      (nodes-after_range (not_yet u) (low_bound m u) t 0 (nodes_at ws xs) zero-le ht (path_ranges L m u ws xs ns y)) in
      let node_in : (x : Tree) (a : ℕ) → L.Node x a → NodeRange (not_yet x) (low_bound m x) (node_at vs a)
      = λ x a n. let apart : ApartFromAll a xs
      → NodeRange (not_yet x) (low_bound m x) (node_at vs a) =
      λ f. subst (NodeRange (not_yet x) (low_bound m x)) (sym (c.words.off a f)) (y.nodes x a n) in
      on-tree L x u
      (λ e. on_or_apart L x (not_yet x) (low_bound m x) a vs xs n (subst (λ (w : Tree). All (L.Node w) xs) (sym e) ns)
      (subst (λ (w : Tree). NodeRanges (not_yet w) (low_bound m w) (nodes_at vs xs)) (sym e) after) apart)
      (λ f. apart (all_apart L x u a xs n ns f)) in
      record {
        long = o.long ∙ y.long;
        nodes = node_in;
        blocks = λ p b. same_block m ws vs p (block_stays L ws vs o.off p b) (y.blocks p b);
      }

-- ---- a block is coded

-- nothing refuses its passes in layer t, by lengths and marks
pub record Codable (t : ℕ) (ws : List ℕ) (k : Block) (c : ℕ) (ls ms : List ℕ) : Type 0 where
  pub few : c ≤ 164
  pub most : passes_so_far ws k.at ≤ 164 * t
  pub lengths : length ls ≡ c
  pub marks : length ms ≡ c
  pub fits : too_wide (length_bits_before ws k + increment (length_bits_before ws k) (segments_of ls ms)) (segments_of ls ms) ≡ false

-- passes and length bits decide it
pub same_bits_before : (ws vs : List ℕ) (k : Block) → passes_so_far vs k.at ≡ passes_so_far ws k.at → length_bits vs k.at
    ≡ length_bits ws k.at → length_bits_before vs k ≡ length_bits_before ws k
unfolding length_bits_before is_new
same_bits_before ws vs k p l = ap₂ (λ (x y : ℕ). cond (eqb x 0) 3 y) p l

pub same_codable : (t : ℕ) (ws vs : List ℕ) (k : Block) (c : ℕ) (ls ms : List ℕ) → SameBlock ws vs k.at → Codable t ws k c ls ms
    → Codable t vs k c ls ms
same_codable t ws vs k c ls ms s d =
    record {
      few = d.few;
      most = rw s.0 d.most;
      lengths = d.lengths;
      marks = d.marks;
      fits = rw (same_bits_before ws vs k s.0 s.1) d.fits;
    }

three_bits_before : (ws : List ℕ) (k : Block) (t : ℕ) → WriterBlock t ws k.at → 3 ≤ length_bits_before ws k
unfolding length_bits_before is_new
three_bits_before ws k t b =
    on-eq (passes_so_far ws k.at) 0
    (λ h. rw (if-eq (passes_so_far ws k.at) 0 3 (length_bits ws k.at) h) (omega arith))
    (λ h. rw (if-ne (passes_so_far ws k.at) 0 3 (length_bits ws k.at) h) (b.some_bits (omega arith)))

-- passes make a segment
abbrev pub SomeSegment : List Segment → Type 0
SomeSegment gs = (g : Segment) × (more : List Segment) × (gs ≡ g ∷ more)

some_from : (n bytes l : ℕ) (ls : List ℕ) (m : ℕ) (ms : List ℕ) → length ls ≡ length ms
    → SomeSegment (segments_from n bytes (l ∷ ls) (m ∷ ms))
unfolding segments_from
some_from n bytes l [] m [] e = (record { passes = n + 1; bytes = bytes + l }, [], rw (or-true (not (eqb m 0))))
some_from n bytes l [] m (y ∷ ms) e = absurd (omega arith)
some_from n bytes l (x ∷ ls) m [] e = absurd (omega arith)
some_from n bytes l (x ∷ ls) m (y ∷ ms) e =
    either SomeSegment (not (eqb m 0) || _) _ _
    (record { passes = n + 1; bytes = bytes + l }, segments_from 0 0 (x ∷ ls) (y ∷ ms), refl)
    (some_from (n + 1) (bytes + l) x ls y ms (omega arith))

pub some-segment : (ls ms : List ℕ) → length ls ≡ length ms → 0 < length ls → SomeSegment (segments_of ls ms)
unfolding segments_of
some-segment [] ms e h = absurd (omega arith)
some-segment (l ∷ ls) [] e h = absurd (omega arith)
some-segment (l ∷ ls) (m ∷ ms) e h = some_from 0 0 l ls m ms (omega arith)

-- a field that isn't too wide bounds the length bits
pub bits_fit : (lb : ℕ) (gs : List Segment) → SomeSegment gs → too_wide lb gs ≡ false → lb ≤ 32
unfolding width
bits_fit lb gs s h = omega (arith, (field_fits lb s.0 s.1 (rw s.2 at h)).0)

module _ (L : Layout) (k : Block) (P : Placed L k) (t c : ℕ) (ls ms : List ℕ) where
  abbrev segments : List Segment
  segments = segments_of ls ms

  passes_in_range : (ws : List ℕ) → 0 < c → WriterState L (t + 1) ws → Codable t ws k c ls ms
      → WriterState L (t + 1) (code_passes k c segments ws).words
  unfolding code_passes
  passes_in_range ws c0 y d =
      let at : ℕ = k.at in
      let B : L.BlockAt at = P.block in
      let b : ℕ = length_bits_before ws k in
      let n : ℕ = passes_so_far ws at + c in
      let l : ℕ = b + increment b segments in
      let h : at + 4 ≤ length ws = omega (arith, (L.block_in at B).1, y.long) in
      let vs : List ℕ = stored ws at n l h in
      let only : BlockOnly at ws vs = λ i w x d e. stored-others ws at n l h i w x in
      let v0 : passes_so_far vs at ≡ n = stored-passes ws at n l h in
      let v1 : length_bits vs at ≡ l = stored-bits ws at n l h in
      let some : SomeSegment segments = some-segment ls ms (d.lengths ∙ sym d.marks) (rw d.lengths c0) in
      let hi : l ≤ 32 = bits_fit l segments some d.fits in
      let lo : 3 ≤ l = le_trans (three_bits_before ws k (t + 1) (y.blocks at B)) (omega arith) in
      let z = y.blocks at B in
      let here : WriterBlock (t + 1) vs at = record {
        most = rw v0 (omega (arith, d.most, d.few));
        no_bits = λ q. absurd (omega (arith, v0, q));
        some_bits = λ q. rw v1 lo;
        most_bits = rw v1 hi;
        no_limit = stored-others ws at n l h (at + 2) (omega arith) (omega arith) ∙ z.no_limit;
        no_passes_lem = stored-others ws at n l h (at + 3) (omega arith) (omega arith) ∙ z.no_passes_lem;
      } in
      record {
        long = stored-length ws at n l h ∙ y.long;
        nodes = λ u a m. subst (NodeRange (not_yet u) (low_bound (t + 1) u)) (sym (node_stays L ws vs at B only u a m)) (y.nodes u a m);
        blocks = λ q Q. on-eq q at (λ e. rw e here)
            (λ e. same_block (t + 1) ws vs q (other_block_stays L ws vs at B only q Q e) (y.blocks q Q));
      }

  inclusion_in_range : (ws : List ℕ) → WriterState L (t + 1) ws → WriterState L (t + 1) (code_inclusion t k c ws).words
  unfolding code_inclusion
  inclusion_in_range ws y =
      either (λ (x : Coded). WriterState L (t + 1) x.words) (is_new ws k) _ _
      (path_in_range L inclusion k P (t + 1) (t + 1) ws (omega arith) y) y

  planes_in_range : (ws : List ℕ) → WriterState L (t + 1) ws → WriterState L (t + 1) (code_zero_planes k ws).words
  unfolding code_zero_planes
  planes_in_range ws y =
      either (λ (x : Coded). WriterState L (t + 1) x.words) (is_new ws k) _ _
      (path_in_range L zero_planes k P (t + 1) not_yet_planes ws (le_refl not_yet_planes) y) y

  block_in_range_lem : (ws : List ℕ) → WriterState L (t + 1) ws → Codable t ws k c ls ms
      → WriterState L (t + 1) (code_block t k c segments ws).words
  unfolding code_block
  block_in_range_lem ws y d =
      let ws₁ : List ℕ = (code_inclusion t k c ws).words in
      let ws₂ : List ℕ = (code_zero_planes k ws₁).words in
      let y₁ : WriterState L (t + 1) ws₁ = inclusion_in_range ws y in
      let y₂ : WriterState L (t + 1) ws₂ = planes_in_range ws₁ y₁ in
      let o = paths_keep L k P t c ws y.long in
      let d₂ = same_codable t ws ws₂ k c ls ms (block_stays L ws ws₂ o.off k.at P.block) d in
      on-eq c 0
      (λ e. rw (if-eq c 0 (code_inclusion t k c ws) _ e) y₁)
      (λ e. rw (if-ne c 0 (code_inclusion t k c ws) _ e) (passes_in_range ws₂ (omega arith) y₂ d₂))

-- ---- all blocks are coded

abbrev pub AllCodable : ℕ → List ℕ → List Block → List ℕ → List ℕ → List ℕ → Type 0
AllCodable t ws [] cs ls ms = Unit {0}
AllCodable t ws (k ∷ ks) [] ls ms = Unit {0}
AllCodable t ws (k ∷ ks) (c ∷ cs) ls ms = Codable t ws k c (take c ls) (take c ms) × AllCodable t ws ks cs (drop c ls) (drop c ms)

pub still_codable : (L : Layout) (t : ℕ) (ws vs : List ℕ) (k : Block) (c : ℕ) (ks : List Block) (cs ls ms : List ℕ)
    → BlockCoded L ws vs k c → SeparateFromAll k ks → AllPlaced L ks
    → AllCodable t ws ks cs ls ms → AllCodable t vs ks cs ls ms
still_codable L t ws vs k c [] cs ls ms b o f d = tt
still_codable L t ws vs k c (j ∷ js) [] ls ms b o f d = tt
still_codable L t ws vs k c (j ∷ js) (e ∷ cs) ls ms b o f d = (
  same_codable t ws vs j e (take e ls) (take e ms) (b.others j.at f.0.0.block o.0.1.places) d.0,
  still_codable L t ws vs k c js cs (drop e ls) (drop e ms) b o.1 f.1 d.1,
)

blocks-in_range : (L : Layout) (t : ℕ) (ks : List Block) (cs ls ms ws : List ℕ) → AllPlaced L ks → WriterState L (t + 1) ws
    → AllCodable t ws ks cs ls ms → WriterState L (t + 1) (code_blocks t ks cs ls ms ws).words
unfolding code_blocks
blocks-in_range L t [] cs ls ms ws f y d = y
blocks-in_range L t (k ∷ ks) [] ls ms ws f y d = y
blocks-in_range L t (k ∷ ks) (c ∷ cs) ls ms ws f y d =
    let P = f.0.0 in
    let segments : List Segment = segments_of (take c ls) (take c ms) in
    let vs : List ℕ = (code_block t k c segments ws).words in
    blocks-in_range L t ks cs (drop c ls) (drop c ms) vs f.1 (block_in_range_lem L k P t c (take c ls) (take c ms) ws y d.0)
    (still_codable L t ws vs k c ks cs (drop c ls) (drop c ms) (block_coded L k P c t segments ws y.long) f.0.1 f.1 d.1)

-- ---- a layer

-- nothing refuses it
pub record Acceptable (ws : List ℕ) (ks : List Block) (p : Contribution) : Type 0 where
  pub counts : length p.counts ≡ length ks
  pub lengths : length p.lengths ≡ sum p.counts
  pub marks : length p.marks ≡ sum p.counts
  pub few : any (λ (c : ℕ). ltb 164 c) p.counts ≡ false
  pub fits : field_too_wide ws ks p.counts p.lengths p.marks ≡ false

-- each block's part of it, read off words vs whose blocks are those of ws
pub record CodablePart (t : ℕ) (ws vs : List ℕ) (k : Block) (c : ℕ) (cs ls ms : List ℕ) : Type 0 where
  pub here : Codable t vs k c (take c ls) (take c ms)
  pub lengths : length (drop c ls) ≡ sum cs
  pub marks : length (drop c ms) ≡ sum cs

pub codable_part : (t : ℕ) (ws vs : List ℕ) (k : Block) (ks : List Block) (c : ℕ) (cs ls ms : List ℕ) → SameBlock ws vs k.at
    → passes_so_far ws k.at ≤ 164 * t → length ls ≡ c + sum cs → length ms ≡ c + sum cs
    → ltb 164 c ≡ false → field_too_wide ws (k ∷ ks) (c ∷ cs) ls ms ≡ false → CodablePart t ws vs k c cs ls ms
unfolding field_too_wide
codable_part t ws vs k ks c cs ls ms s most ll lm few fits =
    let segments : List Segment = segments_of (take c ls) (take c ms) in
    let b : ℕ = length_bits_before ws k in
    record {
      here = same_codable t ws vs k c (take c ls) (take c ms) s (record {
        few = ltb-false 164 c few;
        most = most;
        lengths = length-take c ls ∙ omega arith;
        marks = length-take c ms ∙ omega arith;
        fits = or_left (too_wide (b + increment b segments) segments) (field_too_wide ws ks cs (drop c ls) (drop c ms)) fits;
      });
      lengths = length-drop c ls ∙ omega arith;
      marks = length-drop c ms ∙ omega arith;
    }

pub later_fits : (ws : List ℕ) (k : Block) (ks : List Block) (c : ℕ) (cs ls ms : List ℕ) → field_too_wide ws (k ∷ ks) (c ∷ cs) ls ms
    ≡ false → field_too_wide ws ks cs (drop c ls) (drop c ms) ≡ false
unfolding field_too_wide
later_fits ws k ks c cs ls ms h = or_right (any _ (segments_of (take c ls) (take c ms))) (field_too_wide ws ks cs (drop c ls) (drop c ms)) h

pub all_codable : (L : Layout) (t : ℕ) (ws vs : List ℕ) (ks : List Block) (cs ls ms : List ℕ) → AllPlaced L ks → NodesOnly L ws vs
    → ((p : ℕ) → L.BlockAt p → passes_so_far ws p ≤ 164 * t)
    → length ls ≡ sum cs → length ms ≡ sum cs → any (λ (c : ℕ). ltb 164 c) cs ≡ false → field_too_wide ws ks cs ls ms ≡ false
    → AllCodable t vs ks cs ls ms
unfolding sum any
all_codable L t ws vs [] cs ls ms f o most ll lm few fits = tt
all_codable L t ws vs (k ∷ ks) [] ls ms f o most ll lm few fits = tt
all_codable L t ws vs (k ∷ ks) (c ∷ cs) ls ms f o most ll lm few fits =
    let B : L.BlockAt k.at = f.0.0.block in
    let p = codable_part t ws vs k ks c cs ls ms (block_stays L ws vs o k.at B) (most k.at B) ll lm
    (or_left (ltb 164 c) (any (λ (d : ℕ). ltb 164 d) cs) few) fits in (
      p.here,
      all_codable L t ws vs ks cs (drop c ls) (drop c ms) f.1 o most p.lengths p.marks
          (or_right (ltb 164 c) (any (λ (d : ℕ). ltb 164 d) cs) few) (later_fits ws k ks c cs ls ms fits),
    )

-- the blocks of a header: new ones are set, then all are coded
abbrev pub header_blocks : ℕ → List Block → Contribution → List ℕ → Coded
header_blocks t ks p ws = code_blocks t ks p.counts p.lengths p.marks (set_new_blocks t ks p.counts ws)

pub layer-in_range : (L : Layout) (t : ℕ) (ks : List Block) (p : Contribution) (ws : List ℕ) → AllPlaced L ks → WriterState L t ws
    → Acceptable ws ks p → WriterState L (t + 1) (header_blocks t ks p ws).words
layer-in_range L t ks p ws f y q =
    let us : List ℕ = set_new_blocks t ks p.counts ws in
    let o = (new_blocks_set L t ks p.counts ws f y.long (λ a n. (y.nodes inclusion a n).low-in)).0.only in
    blocks-in_range L t ks p.counts p.lengths p.marks us f (later L t us (values_in_range L inclusion t ws us o y))
    (all_codable L t ws us ks p.counts p.lengths p.marks f (nodes-only L inclusion ws us o) (λ a b. (y.blocks a b).most)
    q.lengths q.marks q.few q.fits)

-- word 3, the layer, is no node's and no block's
pub layer-word : (L : Layout) (t v : ℕ) (ws : List ℕ) → WriterState L t ws → WriterState L t (set ws 3 v)
layer-word L t v ws y =
    let w : (i : ℕ) → 13 ≤ i → get_or (set ws 3 v) i 0 ≡ get_or ws i 0 = λ i h. get_or-set_other ws 3 i v 0 (omega arith) in
    record {
      long = length-set ws 3 v ∙ y.long;
      nodes = λ u a n. let h = (L.node_in u a n).0 in let r = y.nodes u a n in record {
        value_in = le_trans (le_of_eq (w a h)) r.value_in;
        low-in = le_trans (le_of_eq (w (a + 1) (omega arith))) r.low-in;
        known_in = le_trans (le_of_eq (w (a + 2) (omega arith))) r.known_in;
      };
      blocks = λ p b. let h = (L.block_in p b).0 in
          same_block t ws (set ws 3 v) p (w p h, w (p + 1) (omega arith), w (p + 2) (omega arith), w (p + 3) (omega arith))
          (y.blocks p b);
    }
