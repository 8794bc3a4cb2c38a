-- Reading blocks keeps nodes and blocks in range, a block's passes within 164 more.
use mathlib.Core.Path.{◌≡◌, refl, sym, ap, ◌∙◌, subst}
use mathlib.Core.Logic.{◌≢◌}
use mathlib.Core.List.{List, [], ◌∷◌, reverse}
use Prim.Native.Nat.{ℕ, ◌+◌, ◌-◌, ◌*◌, ◌≤◌, ◌<◌}
use native.Mathlib.Omega.{arith}
use lib.ListN.{length, get_or, set, length-set}
use lib.Seq.{get_or-set_same, get_or-set_other}
use lib.Dec.{ltb, eqb}
use borrow.Author.Tests.{eqb-true, eqb-false}
use Rattle.t800.specs.Bits.{get_bit}
use Rattle.t800.specs.TagTree.{PathRead, value, read_path}
use Rattle.t800.specs.PassCount.{read_passes}
use Rattle.t800.specs.Segments.{read_comma, is_limit}
use Rattle.t800.specs.State.{Block, passes_so_far}
use Rattle.t800.specs.WriteHeader.{is_new, length_bits_before}
use Rattle.t800.specs.ReadHeader.{HeaderRead, moved_to, read_zero_planes, read_included, read_new_block, read_old_block, read_block}
use Rattle.t800.specs.ReadHeader.{read_blocks}
use Rattle.t800_laws.proofs.Laws.Tests.{either, either-by, on-eq}
use Rattle.t800_laws.proofs.Laws.ReadValues.{passes_between}
use Rattle.t800_laws.proofs.Laws.Layout.{inclusion, Layout, Placed, SeparateFromAll, AllPlaced}
use Rattle.reads_in_range.proofs.Ranges.{BlockIn}
use Rattle.reads_in_range.proofs.Nodes.{Here, Read, none_read, tree_read_lem, planes_read}
use Rattle.reads_in_range.proofs.Segments.{Before, After, segments_after_lem}

-- word i is none of those of the block at p
abbrev Off : ℕ → ℕ → Type 0
Off p i = 0 < (p - i) + (i - (p + 3))

-- a block whose words stay
pub same_block_in : (s most more p : ℕ) (ws vs : List ℕ) → most ≤ more → ((i : ℕ) → p ≤ i → i ≤ p + 3 → get_or vs i 0 ≡ get_or ws i 0)
    → BlockIn s most ws p → BlockIn s more vs p
same_block_in s most more p ws vs h e b =
    let e₀ = e p (omega arith) (omega arith) in
    let e₁ = e (p + 1) (omega arith) (omega arith) in
    let e₂ = e (p + 2) (omega arith) (omega arith) in
    let e₃ = e (p + 3) (omega arith) (omega arith) in
    record {
      passes_in_lem = omega (arith, e₀, b.passes_in_lem);
      none = λ z. let k = b.none (sym e₀ ∙ z) in (e₁ ∙ k.0, e₂ ∙ k.1, e₃ ∙ k.2);
      some = λ n. let k = b.some (λ z. n (e₀ ∙ z)) in (
        omega (arith, e₁, k.0),
        omega (arith, e₁, k.1),
        record {
          limit_in_lem = ap (is_limit s) e₂ ∙ k.2.limit_in_lem;
          some_used = omega (arith, e₃, k.2.some_used);
          used_in = omega (arith, e₂, e₃, k.2.used_in);
        },
      );
    }

module _ (L : Layout) (s most : ℕ) where
  -- ---- words of one block

  here_off : (p : ℕ) → L.BlockAt p → (ws vs : List ℕ) → length vs ≡ length ws → ((i : ℕ) → Off p i → get_or vs i 0 ≡ get_or ws i 0)
      → Here L s ws → Here L s vs
  here_off p b ws vs l e h = record {
    nodes = λ t a n.
        let d = L.node_off_block t a p n b in
        let k = h.nodes t a n in
        record {
          value_in = omega (arith, e a (omega arith), k.value_in);
          low-in = omega (arith, e (a + 1) (omega arith), k.low-in);
          known_in = omega (arith, e (a + 2) (omega arith), k.known_in);
        };
    style-is = e 2 (omega (arith, L.block_in p b)) ∙ h.style-is;
    long = l ∙ h.long;
  }

  -- ---- one block, from ws to vs

  record Done (p : ℕ) (ws vs : List ℕ) : Type 0 where
    here : Here L s vs
    others : (q : ℕ) → L.BlockAt q → q ≢ p → (i : ℕ) → q ≤ i → i ≤ q + 3 → get_or vs i 0 ≡ get_or ws i 0
    own : BlockIn s (most + 164) vs p

  -- not included
  untouched : (p : ℕ) → L.BlockAt p → (ws vs : List ℕ) → Read L s ws vs → BlockIn s most ws p → Done p ws vs
  untouched p b ws vs r k = record {
    here = r.here;
    others = λ q c _. r.blocks q c;
    own = same_block_in s most (most + 164) p ws vs (omega arith) (r.blocks p b) k;
  }

  module _ (src : List ℕ) (room i : ℕ) (k : Block) (P : Placed L k) where
    abbrev p : ℕ
    p = k.at

    bits_before_lem : (ws : List ℕ) → BlockIn s most ws p → 3 ≤ length_bits_before ws k
    unfolding length_bits_before is_new
    bits_before_lem ws b =
        either-by (λ (x : ℕ). 3 ≤ x) (eqb (passes_so_far ws p) 0) _ _ (λ _. omega arith)
        (λ n. (b.some (eqb-false (passes_so_far ws p) 0 n)).0)

    segment-before : (ws vs : List ℕ) → BlockIn s most ws p → get_or vs (p + 2) 0 ≡ get_or ws (p + 2) 0
        → get_or vs (p + 3) 0 ≡ get_or ws (p + 3) 0 → Before s vs p
    segment-before ws vs b e f =
        on-eq (passes_so_far ws p) 0
        (λ z. let k = b.none z in
        record { used_in = omega (arith, e, f, k); limit_if = λ n. absurd (n (e ∙ k.1)) })
        (λ n. let g = (b.some n).2 in
        record { used_in = omega (arith, e, f, g.used_in); limit_if = λ _. ap (is_limit s) e ∙ g.limit_in_lem })

    -- from the words ws, by those after the zero planes and those with passes and length bits, to vs
    module _ (ws zs : List ℕ) (z : Read L s ws zs) (b : BlockIn s most ws p) (passes bits : ℕ)
        (lp : (1 ≤ passes) × (passes ≤ 164)) (lb : 3 ≤ bits) where
      abbrev us : List ℕ
      us = set (set zs p (passes_so_far ws p + passes)) (p + 1) bits

      block_inside : (13 ≤ p) × (p + 4 ≤ L.size)
      block_inside = L.block_in p P.block

      long : length us ≡ length zs
      long = length-set (set zs p (passes_so_far ws p + passes)) (p + 1) bits ∙ length-set zs p (passes_so_far ws p + passes)

      other : (j : ℕ) → j ≢ p → j ≢ p + 1 → get_or us j 0 ≡ get_or zs j 0
      other j x y =
          get_or-set_other (set zs p (passes_so_far ws p + passes)) (p + 1) j bits 0 y
          ∙ get_or-set_other zs p j (passes_so_far ws p + passes) 0 x

      passes_are : get_or us p 0 ≡ passes_so_far ws p + passes
      passes_are =
          get_or-set_other (set zs p (passes_so_far ws p + passes)) (p + 1) p bits 0 (omega arith)
          ∙ get_or-set_same zs p (passes_so_far ws p + passes) 0 (omega (arith, z.here.long, block_inside))

      bits_are : get_or us (p + 1) 0 ≡ bits
      bits_are =
          get_or-set_same (set zs p (passes_so_far ws p + passes)) (p + 1) bits 0
          (omega (arith, z.here.long, block_inside, length-set zs p (passes_so_far ws p + passes)))

      word_2 : get_or us (p + 2) 0 ≡ get_or ws (p + 2) 0
      word_2 = other (p + 2) (omega arith) (omega arith) ∙ z.blocks p P.block (p + 2) (omega arith) (omega arith)

      word_3 : get_or us (p + 3) 0 ≡ get_or ws (p + 3) 0
      word_3 = other (p + 3) (omega arith) (omega arith) ∙ z.blocks p P.block (p + 3) (omega arith) (omega arith)

      here_us : Here L s us
      here_us = here_off p P.block zs us long (λ j o. other j (omega arith) (omega arith)) z.here

      before_segments : Before s us p
      before_segments = segment-before ws us b word_2 word_3

      included_done : (vs : List ℕ) → After s p us vs → Done p ws vs
      included_done vs a =
          let e₀ : get_or vs p 0 ≡ passes_so_far ws p + passes = a.others p (omega arith) (omega arith) ∙ passes_are in
          let e₁ : get_or vs (p + 1) 0 ≡ bits = a.others (p + 1) (omega arith) (omega arith) ∙ bits_are in
          record {
            here = here_off p P.block us vs a.long (λ j o. a.others j (omega arith) (omega arith)) here_us;
            others = λ q c n j x y.
                let d = L.blocks-apart p q P.block c (λ e. n (sym e)) in
                a.others j (omega arith) (omega arith) ∙ other j (omega arith) (omega arith) ∙ z.blocks q c j x y;
            own = record {
              passes_in_lem = omega (arith, e₀, b.passes_in_lem, lp.1);
              none = λ e. absurd (omega (arith, e₀, e, lp.0));
              some = λ _. (omega (arith, e₁, lb), omega (arith, e₁, bits_are, a.bits_in), a.segment);
            };
          }

    -- ---- as the header says

    done_behind : (ws vs us : List ℕ) → Read L s ws vs → Done p vs us → Done p ws us
    done_behind ws vs us r d = record {
      here = d.here;
      others = λ q c n j x y. d.others q c n j x y ∙ r.blocks q c j x y;
      own = d.own;
    }

    included_read : (r : HeaderRead) → Here L s r.words → BlockIn s most r.words p
        → (read_included src room i k r).refusal ≡ 0 → Done p r.words (read_included src room i k r).words
    unfolding read_included
    included_read r h b e =
        let ws : List ℕ = r.words in
        let z = read_zero_planes src k r in
        let passes = read_passes src z.bio in
        let inc = read_comma src passes.bio in
        let bits : ℕ = length_bits_before ws k + inc.value in
        let zr = planes_read L s src k P r h in
        let lp = passes_between src z.bio in
        let lb : 3 ≤ bits = omega (arith, bits_before_lem ws b) in
        let hu = here_us ws z.words zr b passes.value bits lp lb in
        included_done ws z.words zr b passes.value bits lp lb _
        (segments_after_lem s src room i k passes.value passes.value _ lp.0 (omega arith) hu.style-is
        (before_segments ws z.words zr b passes.value bits lp lb) (L.block_in p P.block).0
        (omega (arith, hu.long, (L.block_in p P.block).1)) e)

    new_read : (t : ℕ) (r : HeaderRead) → Here L s r.words → BlockIn s most r.words p → (read_new_block src room t i k r).refusal ≡ 0
        → Done p r.words (read_new_block src room t i k r).words
    unfolding read_new_block
    new_read t r h b =
        let ws : List ℕ = r.words in
        let tree : PathRead = read_path src k.incl_tree (t + 1) (reverse k.path) 0 ws r.bio in
        let q = tree_read_lem L s src k P inclusion (t + 1) ws r.bio h in
        let c = same_block_in s most most p ws tree.words (omega arith) (q.blocks p P.block) b in
        either (λ (a : HeaderRead). a.refusal ≡ 0 → Done p ws a.words)
        (ltb (value tree.words (k.incl_tree + 3 * k.leaf)) (t + 1)) _ _
        (λ e. done_behind ws tree.words _ q (included_read (moved_to tree.words tree.bio r) q.here c e))
        (λ _. untouched p P.block ws tree.words q b)

    old_read : (r : HeaderRead) → Here L s r.words → BlockIn s most r.words p → (read_old_block src room i k r).refusal ≡ 0
        → Done p r.words (read_old_block src room i k r).words
    unfolding read_old_block
    old_read r h b =
        let ws : List ℕ = r.words in
        let bit = get_bit src r.bio in
        either (λ (a : HeaderRead). a.refusal ≡ 0 → Done p ws a.words) (eqb bit.value 0) _ _
        (λ _. untouched p P.block ws ws (none_read L s ws h) b)
        (included_read (moved_to ws bit.bio r) h b)

    block_read : (t : ℕ) (r : HeaderRead) → Here L s r.words → BlockIn s most r.words p → (read_block src room t i k r).refusal ≡ 0
        → Done p r.words (read_block src room t i k r).words
    unfolding read_block
    block_read t r h b =
        either (λ (a : HeaderRead). a.refusal ≡ 0 → Done p r.words a.words) (is_new r.words k) _ _
        (new_read t r h b) (old_read r h b)

  -- ---- all blocks

  -- those that are still to be read
  abbrev Ahead : List ℕ → List Block → Type 0
  Ahead ws [] = Unit {0}
  Ahead ws (k ∷ ks) = BlockIn s most ws k.at × Ahead ws ks

  ahead_of : (ws : List ℕ) (ks : List Block) → AllPlaced L ks → ((p : ℕ) → L.BlockAt p → BlockIn s most ws p) → Ahead ws ks
  ahead_of ws [] ps f = tt
  ahead_of ws (k ∷ ks) ps f = (f k.at ps.0.0.block, ahead_of ws ks ps.1 f)

  still_ahead : (k : Block) (ks : List Block) (ws vs : List ℕ) → Done k.at ws vs → AllPlaced L ks → SeparateFromAll k ks → Ahead ws ks
      → Ahead vs ks
  still_ahead k [] ws vs d ps f a = tt
  still_ahead k (j ∷ js) ws vs d ps f a = (
    same_block_in s most most j.at ws vs (omega arith) (d.others j.at ps.0.0.block (λ e. f.0.0.places (sym e))) a.0,
    still_ahead k js ws vs d ps.1 f.1 a.1,
  )

  pub record AllIn (ws : List ℕ) : Type 0 where
    pub here : Here L s ws
    pub blocks : (p : ℕ) → L.BlockAt p → BlockIn s (most + 164) ws p

  one_more : (p : ℕ) (ws vs : List ℕ) → AllIn ws → Done p ws vs → AllIn vs
  one_more p ws vs a d = record {
    here = d.here;
    blocks = λ q b. on-eq q p (λ e. subst (BlockIn s (most + 164) vs) (sym e) d.own)
        (λ n. same_block_in s (most + 164) (most + 164) q ws vs (omega arith) (d.others q b n) (a.blocks q b));
  }

  blocks-read : (src : List ℕ) (room t i : ℕ) (ks : List Block) (r : HeaderRead) → AllPlaced L ks → AllIn r.words → Ahead r.words ks
      → (read_blocks src room t i ks r).refusal ≡ 0 → AllIn (read_blocks src room t i ks r).words
  unfolding read_blocks
  blocks-read src room t i [] r ps h f = λ _. h
  blocks-read src room t i (k ∷ ks) r ps h f =
      let a : HeaderRead = read_block src room t i k r in
      let d = block_read src room i k ps.0.0 t r h.here f.0 in
      either-by (λ (x : HeaderRead). x.refusal ≡ 0 → AllIn x.words) (eqb a.refusal 0) _ _
      (λ e. let g = d (eqb-true a.refusal 0 e) in
      blocks-read src room t (i + 1) ks a ps.1 (one_more k.at r.words a.words h g)
      (still_ahead k ks r.words a.words g ps.1 ps.0.1 f.1))
      (λ n e. absurd (eqb-false a.refusal 0 n e))

  pub all_read : (src : List ℕ) (room t i : ℕ) (ks : List Block) (r : HeaderRead) → AllPlaced L ks → Here L s r.words
      → ((p : ℕ) → L.BlockAt p → BlockIn s most r.words p) → (read_blocks src room t i ks r).refusal ≡ 0
      → AllIn (read_blocks src room t i ks r).words
  all_read src room t i ks r ps h f =
      blocks-read src room t i ks r ps
      (record {
        here = h;
        blocks = λ p b. same_block_in s most (most + 164) p r.words r.words (omega arith) (λ j x y. refl) (f p b);
      })
      (ahead_of r.words ks ps f)
