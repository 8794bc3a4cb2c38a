-- What a packet says that none of 5, 6, 3, 7, 8 and 9 turns away: of its lists, its counts, and its blocks one by one.
use mathlib.Core.Path.{◌≡◌, ◌∙◌}
use mathlib.Core.Logic.{◌≢◌}
use mathlib.Core.Bool.{Bool, true, false, not}
use mathlib.Core.List.{List, [], ◌∷◌}
use Prim.Native.Nat.{ℕ, zero, suc, ◌*◌, ◌≤◌}
use native.Mathlib.Omega.{arith}
use lib.ListN.{length, get_or, take, drop}
use lib.Dec.{ltb, eqb}
use borrow.Author.Tests.{not-false, eqb-false, lt-ltb, le-ltb, ltb-false}
use Rattle.t800.specs.Base.{any, sum}
use Rattle.t800.specs.Segments.{segments_of}
use Rattle.t800.specs.State.{Block, not_yet_included, writer, layer, bands, blocks}
use Rattle.t800.specs.Ranges.{valid_state}
use Rattle.t800.specs.WriteHeader.{Contribution, length_bits_before, contributes, segment_too_long, field_too_wide}
use Rattle.t800.specs.Packet.{wrong_lists}
use Rattle.t800_laws.proofs.Laws.Lists.{lists_right}
use Rattle.t800_laws.proofs.Laws.Contributes.{contributes-by_sum}
use Rattle.t800_laws.proofs.Laws.Tests.{or_left, or_right, not_refused}
use Rattle.t2_segments.specs.Segments.{any_too_long, block_too_wide}
use Rattle.t2_refusal_laws.specs.Refusals.{contribution_refusal, measure_refusal_for}
use Rattle.tcd_laws.proofs.Laws.ValidStates.{blocks-of_valid}

-- ---- counts

pub count_up_to_164 : (cs : List ℕ) (i : ℕ) → any (λ c. ltb 164 c) cs ≡ false → get_or cs i 0 ≤ 164
unfolding any
count_up_to_164 [] i h = omega arith
count_up_to_164 (c ∷ cs) zero h = ltb-false 164 c (or_left (ltb 164 c) (any (λ k. ltb 164 k) cs) h)
count_up_to_164 (c ∷ cs) (suc i) h = count_up_to_164 cs i (or_right (ltb 164 c) (any (λ k. ltb 164 k) cs) h)

pub passes_up_to : (cs : List ℕ) → any (λ c. ltb 164 c) cs ≡ false → sum cs ≤ 164 * length cs
unfolding any sum
passes_up_to [] h = omega arith
passes_up_to (c ∷ cs) h =
    let r = passes_up_to cs (or_right (ltb 164 c) (any (λ k. ltb 164 k) cs) h) in
    let k = ltb-false 164 c (or_left (ltb 164 c) (any (λ k. ltb 164 k) cs) h) in
    omega arith

-- ---- the packet

pub record NotRefused (ws : List ℕ) (n : ℕ) (p : Contribution) : Type 0 where
  pub valid : valid_state writer ws n ≡ true
  pub layer-left : layer ws ≢ not_yet_included
  pub counts_are : length p.counts ≡ length (blocks (bands ws))
  pub lengths_are_lem : length p.lengths ≡ sum p.counts
  pub marks_are : length p.marks ≡ sum p.counts
  pub few : any (λ c. ltb 164 c) p.counts ≡ false
  -- 164 passes for each of 12288 blocks
  pub passes_are : sum p.counts ≤ 2015232
  pub none_long : segment_too_long p.counts p.lengths p.marks ≡ false
  pub none_wide : field_too_wide ws (blocks (bands ws)) p.counts p.lengths p.marks ≡ false

-- as many lengths as passes tell whether there are passes
pub no_passes_lem : (ws : List ℕ) (n : ℕ) (p : Contribution) → NotRefused ws n p → length p.lengths ≡ 0 → contributes p ≡ false
no_passes_lem ws n p r e = contributes-by_sum p ∙ le-ltb 0 (sum p.counts) (omega (arith, r.lengths_are_lem))

pub some_passes : (ws : List ℕ) (n : ℕ) (p : Contribution) → NotRefused ws n p → length p.lengths ≢ 0 → contributes p ≡ true
some_passes ws n p r e = contributes-by_sum p ∙ lt-ltb 0 (sum p.counts) (omega (arith, r.lengths_are_lem))

pub not_refused_for : (ws : List ℕ) (n : ℕ) (p : Contribution) → measure_refusal_for ws n p ≡ 0 → NotRefused ws n p
unfolding measure_refusal_for contribution_refusal
not_refused_for ws n p e =
    let c₁ = not_refused (not (valid_state writer ws n)) 5 _ (omega arith) e in
    let c₂ = not_refused (eqb (layer ws) not_yet_included) 6 _ (omega arith) c₁.1 in
    let c₃ = not_refused (wrong_lists p (length (blocks (bands ws)))) 3 _ (omega arith) c₂.1 in
    let c₄ = not_refused (any (λ (c : ℕ). ltb 164 c) p.counts) 7 _ (omega arith) c₃.1 in
    let c₅ = not_refused (segment_too_long p.counts p.lengths p.marks) 8 _ (omega arith) c₄.1 in
    let c₆ = not_refused (field_too_wide ws (blocks (bands ws)) p.counts p.lengths p.marks) 9 0 (omega arith) c₅.1 in
    let v : valid_state writer ws n ≡ true = not-false (valid_state writer ws n) c₁.0 in
    let l = lists_right p (length (blocks (bands ws))) c₃.0 in
    record {
      valid = v;
      layer-left = eqb-false (layer ws) not_yet_included c₂.0;
      counts_are = l.0;
      lengths_are_lem = l.1;
      marks_are = l.2;
      few = c₄.0;
      passes_are = omega (arith, passes_up_to p.counts c₄.0, l.0, blocks-of_valid writer ws n v);
      none_long = c₅.0;
      none_wide = c₆.0;
    }

-- ---- block by block

pub none_long_first : (c : ℕ) (cs ls ms : List ℕ) → segment_too_long (c ∷ cs) ls ms ≡ false
    → (any_too_long (segments_of (take c ls) (take c ms)) ≡ false) × (segment_too_long cs (drop c ls) (drop c ms) ≡ false)
unfolding segment_too_long
none_long_first c cs ls ms h =
    let here : Bool = any_too_long (segments_of (take c ls) (take c ms)) in
    let rest : Bool = segment_too_long cs (drop c ls) (drop c ms) in
    (or_left here rest h, or_right here rest h)

pub none_wide_first : (ws : List ℕ) (k : Block) (ks : List Block) (c : ℕ) (cs ls ms : List ℕ)
    → field_too_wide ws (k ∷ ks) (c ∷ cs) ls ms ≡ false
    → (block_too_wide (length_bits_before ws k) (segments_of (take c ls) (take c ms)) ≡ false)
    × (field_too_wide ws ks cs (drop c ls) (drop c ms) ≡ false)
unfolding field_too_wide
none_wide_first ws k ks c cs ls ms h =
    let here : Bool = block_too_wide (length_bits_before ws k) (segments_of (take c ls) (take c ms)) in
    let rest : Bool = field_too_wide ws ks cs (drop c ls) (drop c ms) in
    (or_left here rest h, or_right here rest h)
