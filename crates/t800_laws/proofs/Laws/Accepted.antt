-- What an accepted start says of its arguments, the state that it fills, and that its blocks are not too deep.
use mathlib.Core.Path.{◌≡◌, ◌∙◌}
use mathlib.Core.Bool.{Bool, false, cond, ◌||◌, not}
use mathlib.Core.List.{List, [], ◌∷◌, ◌++◌}
use Prim.Native.Nat.{ℕ, zero, suc, ◌+◌, ◌≤◌, ◌<◌}
use native.Mathlib.Nat.{le_trans, le_of_eq}
use native.Mathlib.Omega.{arith}
use lib.ListN.{length, take, length-take}
use lib.Dec.{ltb, eqb}
use borrow.Author.Tests.{ltb-false, eqb-true, eq-eqb, not-false}
use Rattle.t800.specs.declared.Band.{Band}
use Rattle.t800.specs.Base.{any}
use Rattle.t800.specs.State.{Block, not_yet_planes, writer, blocks_in, band_length, blocks_from, blocks_at, blocks, state_length}
use Rattle.t800.specs.Ranges.{bad_shape, bad_style, band_too_deep, block_too_deep}
use Rattle.t800.specs.Start.{fresh_state, set_zero_planes, start_refusal, start, start_with}
use Rattle.t800_laws.proofs.Laws.Tests.{if-true, or_left, or_right, not_refused}

pub record StartAccepted (r n : ℕ) (given : List Band) (s : ℕ) (planes lent : List ℕ) : Type 0 where
  pub shape : bad_shape n (take n given) ≡ false
  pub enough : n ≤ length given
  pub style-in : bad_style s ≡ false
  pub lent_length : length lent ≡ state_length (take n given)
  pub planes_length : length planes ≡ cond (eqb r writer) (length (blocks (take n given))) 0
  pub bands-in : band_too_deep (take n given) ≡ false
  pub blocks-in : block_too_deep (blocks (take n given)) planes ≡ false
  pub state : (start r n given s planes lent).state ≡ set_zero_planes (blocks (take n given)) planes (fresh_state r s (take n given))

pub start-accepted : (r n : ℕ) (given : List Band) (s : ℕ) (planes lent : List ℕ) → (start r n given s planes lent).answer ≡ 0
    → StartAccepted r n given s planes lent
unfolding start_with start_refusal
start-accepted r n given s planes lent e =
    let bs : List Band = take n given in
    let ks : List Block = blocks bs in
    let m : ℕ = cond (eqb r writer) (length ks) 0 in
    let a : Bool = not (eqb (length lent) (state_length bs)) in
    let b : Bool = not (eqb (length planes) m) in
    let c₁ = not_refused (bad_shape n bs || ltb (length given) n) 1 _ (omega arith) e in
    let c₂ = not_refused (bad_style s) 2 _ (omega arith) c₁.1 in
    let c₃ = not_refused (a || b) 3 _ (omega arith) c₂.1 in
    let c₄ = not_refused (band_too_deep bs || block_too_deep ks planes) 4 0 (omega arith) c₃.1 in
    record {
      shape = or_left (bad_shape n bs) (ltb (length given) n) c₁.0;
      enough = ltb-false (length given) n (or_right (bad_shape n bs) (ltb (length given) n) c₁.0);
      style-in = c₂.0;
      lent_length = eqb-true (length lent) (state_length bs) (not-false (eqb (length lent) (state_length bs)) (or_left a b c₃.0));
      planes_length = eqb-true (length planes) m (not-false (eqb (length planes) m) (or_right a b c₃.0));
      bands-in = or_left (band_too_deep bs) (block_too_deep ks planes) c₄.0;
      blocks-in = or_right (band_too_deep bs) (block_too_deep ks planes) c₄.0;
      state = if-true _ _ _ (eq-eqb _ 0 e);
    }

-- as many bands as the count, and at most three
pub all_given : (n : ℕ) (given : List Band) → n ≤ length given → length (take n given) ≡ n
all_given n given h = length-take n given ∙ omega arith

pub few_bands : (n : ℕ) (given : List Band) → bad_shape n (take n given) ≡ false → length (take n given) ≤ 3
unfolding bad_shape
few_bands n given h =
    let c = or_left (eqb n 0 || ltb 3 n) _ h in
    let l : n ≤ 3 = ltb-false 3 n (or_right (eqb n 0) (ltb 3 n) c) in
    le_trans (le_of_eq (length-take n given)) (omega arith)

-- no block has "not yet" planes
abbrev pub NotTooDeep : List Block → Type 0
NotTooDeep [] = Unit {0}
NotTooDeep (k ∷ ks) = (k.planes < not_yet_planes) × NotTooDeep ks

band_not_too_deep : (at : ℕ) (b : Band) (n i : ℕ) (rest : List Block) → b.planes < not_yet_planes → NotTooDeep rest
    → NotTooDeep (blocks_from at b n i ++ rest)
unfolding blocks_from
band_not_too_deep at b zero i rest h g = g
band_not_too_deep at b (suc n) i rest h g = (h, band_not_too_deep at b n (i + 1) rest h g)

pub not_too_deep : (at : ℕ) (bs : List Band) → band_too_deep bs ≡ false → NotTooDeep (blocks_at at bs)
unfolding blocks_at band_too_deep any
not_too_deep at [] h = tt
not_too_deep at (b ∷ bs) h =
    let rest : Bool = any (λ (c : Band). ltb 998 c.planes) bs in
    band_not_too_deep at b (blocks_in b) 0 (blocks_at (at + band_length b) bs)
    (let l = ltb-false 998 b.planes (or_left (ltb 998 b.planes) rest h) in omega arith)
    (not_too_deep (at + band_length b) bs (or_right (ltb 998 b.planes) rest h))
