-- One block: what coding its paths leaves alone, and its parts together.
use mathlib.Core.Path.{◌≡◌, refl, sym, ap, ◌∙◌, subst}
use mathlib.Core.Logic.{◌≢◌}
use mathlib.Core.List.{List, [], ◌∷◌, ◌++◌, reverse}
use Prim.Native.Nat.{ℕ, ◌+◌, ◌*◌, ◌≤◌}
use native.Mathlib.Omega.{arith}
use lib.Dec.{eqb}
use lib.ListN.{get_or, drop}
use lib.Seq.{drop-set-lt}
use Rattle.t800.specs.Segments.{Segment}
use Rattle.t800.specs.State.{Block, not_yet_planes}
use Rattle.t800.specs.TagTree.{Coded, code_path}
use Rattle.t800.specs.WriteHeader.{is_new, code_inclusion, code_zero_planes, code_passes, code_block}
use Rattle.t800_laws.proofs.Laws.Tests.{either, if-eq, if-ne}
use Rattle.bio_bytes.specs.Writing.{Output, put_bits, FreeBitsClear}
use Rattle.bio_write.proofs.Laws.FreeBits.{put_bits-append, put_bits-clear}
use Rattle.tgt_write.specs.Coding.{LeafCoded, put_coded}
use Rattle.t2_write_lengths.specs.Blocks.{coded, PassesFit}
use Rattle.tcd_places.proofs.Laws.Before.{Before, BlockBefore, same_word}

-- ---- words that stay

-- coding it leaves what stands from q on
path_keeps : (q base t : ℕ) (ns : List ℕ) (l : ℕ) (ws : List ℕ) → Before q base ns → drop q (code_path base t ns l ws).words ≡ drop q ws
unfolding code_path
path_keeps q base t [] l ws h = refl
path_keeps q base t (n ∷ ns) l ws h =
    path_keeps q base t ns _ _ h.1 ∙ drop-set-lt q _ (base + 3 * n + 2) _ h.0
    ∙ drop-set-lt q ws (base + 3 * n + 1) _ (omega (arith, h.0))

module _ (q : ℕ) (k : Block) (ws : List ℕ) where
  pub incl_keeps : (t c : ℕ) → Before q k.incl_tree (reverse k.path) → drop q (code_inclusion t k c ws).words ≡ drop q ws
  unfolding code_inclusion
  incl_keeps t c h = either (λ (d : Coded). drop q d.words ≡ drop q ws) (is_new ws k) _ _
      (path_keeps q k.incl_tree (t + 1) _ 0 ws h) refl

  pub planes_keep : Before q k.zero_tree (reverse k.path) → drop q (code_zero_planes k ws).words ≡ drop q ws
  unfolding code_zero_planes
  planes_keep h = either (λ (d : Coded). drop q d.words ≡ drop q ws) (is_new ws k) _ _
      (path_keeps q k.zero_tree not_yet_planes _ 0 ws h) refl

  passes_keep : (c : ℕ) (segments : List Segment) → k.at + 4 ≤ q → drop q (code_passes k c segments ws).words ≡ drop q ws
  unfolding code_passes
  passes_keep c segments h = drop-set-lt q _ (k.at + 1) _ (omega arith) ∙ drop-set-lt q ws k.at _ (omega arith)

pub block_keeps : (q t c : ℕ) (k : Block) (segments : List Segment) (ws : List ℕ) → BlockBefore q k
    → drop q (code_block t k c segments ws).words ≡ drop q ws
unfolding code_block
block_keeps q t c k segments ws b =
    let i : Coded = code_inclusion t k c ws in
    let z : Coded = code_zero_planes k i.words in
    let e = incl_keeps q k ws t c b.incl in
    either (λ (d : Coded). drop q d.words ≡ drop q ws) (eqb c 0) _ _ e
    (passes_keep q k z.words c segments b.own ∙ planes_keep q k i.words b.zero ∙ e)

-- ---- the words of the block itself

pub still_fit : (q at c : ℕ) (ws vs ls ms : List ℕ) → drop q ws ≡ drop q vs → q ≤ at
    → PassesFit (get_or vs at 0) (get_or vs (at + 1) 0) c ls ms → PassesFit (get_or ws at 0) (get_or ws (at + 1) 0) c ls ms
still_fit q at c ws vs ls ms e h f = rw (same_word q at ws vs e h, same_word q (at + 1) ws vs e (omega arith)) f

-- ---- together

pub coded-clear : (x : LeafCoded) (o : Output) (d : Coded) → x ≡ put_coded o d → FreeBitsClear o.bio → FreeBitsClear x.output.bio
coded-clear x o d e h = subst FreeBitsClear (sym (ap (λ (y : LeafCoded). y.output.bio) e)) (put_bits-clear o d.bits h)

module _ (t c : ℕ) (k : Block) (segments : List Segment) (ws : List ℕ) (o : Output) where
  pub block_absent : (x : LeafCoded) → c ≡ 0 → x ≡ put_coded o (code_inclusion t k c ws) → x ≡ put_coded o (code_block t k c segments ws)
  unfolding code_block
  block_absent x z e = e ∙ ap (put_coded o) (sym (if-eq c 0 _ _ z))

  pub block_is : (x y z : LeafCoded) → c ≢ 0 → x ≡ put_coded o (code_inclusion t k c ws) → y
      ≡ put_coded x.output (code_zero_planes k x.words)
      → z ≡ put_coded y.output (code_passes k c segments y.words) → z ≡ put_coded o (code_block t k c segments ws)
  unfolding code_block
  block_is x y z n p q r =
      let i : Coded = code_inclusion t k c ws in
      let j : Coded = code_zero_planes k i.words in
      let l : Coded = code_passes k c segments j.words in
      let all : Coded = record { bits = i.bits ++ j.bits ++ l.bits; words = l.words } in
      let s : y ≡ put_coded (put_bits o i.bits) j = q ∙ ap (λ (u : LeafCoded). put_coded u.output (code_zero_planes k u.words)) p in
      let v : z ≡ put_coded (put_bits (put_bits o i.bits) j.bits) l = r
      ∙ ap (λ (u : LeafCoded). put_coded u.output (code_passes k c segments u.words)) s in
      v
      ∙ sym (ap (coded l.words)
      (put_bits-append o (i.bits ++ j.bits) l.bits
      ∙ ap (λ (u : Output). put_bits u l.bits) (put_bits-append o i.bits j.bits)))
      ∙ ap (put_coded o) (sym (if-ne c 0 i all n))
