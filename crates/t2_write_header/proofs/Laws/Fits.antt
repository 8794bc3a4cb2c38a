-- What the checks before coding establish of each block.
use mathlib.Core.Path.{◌≡◌, refl, sym, ◌∙◌, subst}
use mathlib.Core.Bool.{true, false}
use mathlib.Core.List.{List, [], ◌∷◌}
use Prim.Native.Nat.{ℕ, ◌+◌, ◌*◌, ◌≤◌, ◌<◌}
use native.Mathlib.Omega.{arith}
use lib.Dec.{ltb, eqb}
use lib.ListN.{length, get_or, take, drop, length-take, length-drop}
use lib.Seq.{drop-drop}
use Rattle.t800.specs.Base.{any, sum}
use Rattle.t800.specs.Segments.{segments_of}
use Rattle.t800.specs.State.{Block, writer, bands, blocks, not_yet_included}
use Rattle.t800.specs.Ranges.{valid_state}
use Rattle.t800.specs.WriteHeader.{Contribution, is_new, length_bits_before, segment_too_long, field_too_wide}
use Rattle.t800_laws.proofs.Laws.Layout.{Layout, AllPlaced, layout_of, blocks-placed}
use Rattle.t800_laws.proofs.Laws.Tests.{either}
use Rattle.tcd_laws.proofs.Laws.ValidStates.{valid_state_lem, block_known, block_bounds}
use Rattle.t2_segments.specs.Segments.{block_too_wide}
use Rattle.t800_laws.proofs.Laws.Lists.{next_entry}
use Rattle.t800_laws.proofs.Laws.Sums.{sum-turn}
use Rattle.t2_refusal_laws.proofs.Laws.NotRefused.{NotRefused, count_up_to_164, none_long_first, none_wide_first}
use Rattle.t2_write_lengths.specs.Blocks.{PassesFit}
use Rattle.t2_write_block.specs.Runs.{AllFit}
use Rattle.tcd_places.proofs.Laws.Before.{AllBlocks}

-- ---- the words of a block in a state that 5 lets pass

abbrev Bounded : List ℕ → Block → Type 0
Bounded ws k = (get_or ws k.at 0 ≤ 164 * not_yet_included) × (get_or ws (k.at + 1) 0 ≤ 32)

placed_bounded : (L : Layout) (ws : List ℕ) (ks : List Block) → AllPlaced L ks
    → ((p : ℕ) → L.BlockAt p → (get_or ws p 0 ≤ 164 * not_yet_included) × (get_or ws (p + 1) 0 ≤ 32)) → AllBlocks (Bounded ws) ks
placed_bounded L ws [] f h = tt
placed_bounded L ws (k ∷ ks) f h = (h k.at f.0.0.block, placed_bounded L ws ks f.1 h)

valid_bounded : (ws : List ℕ) (n : ℕ) → valid_state writer ws n ≡ true → AllBlocks (Bounded ws) (blocks (bands ws))
valid_bounded ws n v =
    let s = valid_state_lem writer ws n v in
    placed_bounded (layout_of (bands ws)) ws (blocks (bands ws)) (blocks-placed (bands ws))
    (λ p b. let r = block_bounds ws p (block_known ws 13 (bands ws) p s.ranges b) in (omega (arith, r.0, s.layer-up_to), r.1))

-- ---- one block

module _ (ws cs ls ms : List ℕ) (k : Block) (block pass : ℕ) (here : block < length cs)
    (passes : pass + sum (drop block cs) ≡ length ls) (marked : length ms ≡ length ls)
    (few : any (λ (c : ℕ). ltb 164 c) cs ≡ false) where
  abbrev c : ℕ
  c = get_or cs block 0

  part : (l : List ℕ) → length l ≡ length ls → length (take c (drop pass l)) ≡ c
  part l e = length-take c (drop pass l) ∙ omega (arith, length-drop pass l, sum-turn cs block here)

  passes_fit : Bounded ws k → segment_too_long (c ∷ drop (block + 1) cs) (drop pass ls) (drop pass ms) ≡ false
      → block_too_wide (length_bits_before ws k) (segments_of (take c (drop pass ls)) (take c (drop pass ms))) ≡ false
      → PassesFit (get_or ws k.at 0) (get_or ws (k.at + 1) 0) c (take c (drop pass ls)) (take c (drop pass ms))
  unfolding length_bits_before is_new
  passes_fit b long wide =
      record {
        many = sym (part ls refl);
        block = record {
          marked = part ms marked ∙ sym (part ls refl);
          few = omega (arith, part ls refl, count_up_to_164 cs block few);
          short = (none_long_first c (drop (block + 1) cs) (drop pass ls) (drop pass ms) long).0;
        };
        sum = omega (arith, b.0, count_up_to_164 cs block few);
        before = either (λ (z : ℕ). z ≤ 32) (eqb (get_or ws k.at 0) 0) 3 (get_or ws (k.at + 1) 0) (omega arith) b.1;
        narrow = wide;
      }

-- ---- all

module _ (ws cs ls ms : List ℕ) (marked : length ms ≡ length ls) (few : any (λ (c : ℕ). ltb 164 c) cs ≡ false) where
  fit_from : (ks : List Block) (block pass : ℕ) → AllBlocks (Bounded ws) ks → block + length ks ≡ length cs
      → pass + sum (drop block cs) ≡ length ls
      → segment_too_long (drop block cs) (drop pass ls) (drop pass ms) ≡ false
      → field_too_wide ws ks (drop block cs) (drop pass ls) (drop pass ms) ≡ false → AllFit cs ls ms ws ks block pass
  fit_from [] block pass b n p long wide = tt
  fit_from (k ∷ ks) block pass b n p long wide =
      let c : ℕ = get_or cs block 0 in
      let here : block < length cs = omega arith in
      let e = next_entry cs block here in
      let s = sum-turn cs block here in
      let long' = subst (λ (z : List ℕ). segment_too_long z (drop pass ls) (drop pass ms) ≡ false) e long in
      let wide' = none_wide_first ws k ks c (drop (block + 1) cs) (drop pass ls) (drop pass ms)
      (subst (λ (z : List ℕ). field_too_wide ws (k ∷ ks) z (drop pass ls) (drop pass ms) ≡ false) e wide) in
      let l = drop-drop c pass ls in
      let m = drop-drop c pass ms in (
        record {
          counted = here;
          many = omega arith;
          marked = marked;
          passes = passes_fit ws cs ls ms k block pass here p marked few b.0 long' wide'.0;
        },
        fit_from ks (block + 1) (pass + c) b.1 (omega arith) (omega arith)
            (sym (λ i. segment_too_long (drop (block + 1) cs) (l i) (m i))
            ∙ (none_long_first c (drop (block + 1) cs) (drop pass ls) (drop pass ms) long').1)
            (sym (λ i. field_too_wide ws ks (drop (block + 1) cs) (l i) (m i)) ∙ wide'.1),
      )

pub all_fit : (ws : List ℕ) (n : ℕ) (p : Contribution) → NotRefused ws n p
    → AllFit p.counts p.lengths p.marks ws (blocks (bands ws)) 0 0
all_fit ws n p r =
    fit_from ws p.counts p.lengths p.marks (r.marks_are ∙ sym r.lengths_are_lem) r.few (blocks (bands ws)) 0 0
    (valid_bounded ws n r.valid)
    (omega (arith, r.counts_are)) (omega (arith, r.lengths_are_lem)) r.none_long r.none_wide
