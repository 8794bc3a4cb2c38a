-- Few bytes and few length bits rule out refusals 8 and 9.
use mathlib.Core.Path.{◌≡◌, refl, ap, ◌∙◌}
use mathlib.Core.Logic.{inl, inr}
use mathlib.Core.Bool.{Bool, true, false, cond, not, ◌&&◌, ◌||◌}
use mathlib.Core.List.{List, [], ◌∷◌}
use Prim.Native.Nat.{ℕ, ◌+◌, ◌-◌, ◌*◌, ◌^◌, ◌≤◌, ◌<◌}
use native.Mathlib.Omega.{arith}
use lib.ListN.{length, take, drop, length-take}
use lib.Dec.{eqb, ltb, leb}
use borrow.Author.Tests.{le-ltb, lt-leb, ltb-true, ltb-false, leb-true}
use Rattle.t800.specs.declared.Band.{Band}
use Rattle.t800.specs.Base.{any, every, sum}
use Rattle.t800.specs.Segments.{Segment, segments_from, segments_of, width, bit_length, increment}
use Rattle.t800.specs.State.{Block, blocks_in, band_nodes, band_length, blocks, length_bits}
use Rattle.t800.specs.WriteHeader.{is_new, length_bits_before, segment_too_long, field_too_wide}
use Rattle.t800_laws.proofs.Laws.Layout.{Layout, AllPlaced, BlockFrom, layout_of, blocks-placed}
use Rattle.t800_laws.proofs.Laws.Tests.{either, or_left, or_right, and_left, and_right}
use Rattle.tcd_laws.proofs.Laws.ValidStates.{every_true}
use Rattle.t2_segments.specs.Segments.{any_too_long, any_too_wide, block_too_wide}
use Rattle.t2_segments.proofs.Laws.Segments.{log_up_to}
use Rattle.t2_narrow.specs.Narrow.{bits_up_to25}
use Rattle.t800_laws.proofs.Laws.Sums.{sum-splits}

-- ---- one block

abbrev Small : List Segment → Type 0
Small [] = Unit {0}
Small (s ∷ ss) = (s.bytes < 2 ^ 24) × (s.passes ≤ 164) × Small ss

small_from : (n bytes : ℕ) (ls ms : List ℕ) → bytes + sum ls < 2 ^ 24 → n + length ls ≤ 164 → Small (segments_from n bytes ls ms)
unfolding segments_from sum
small_from n bytes [] ms h k = tt
small_from n bytes (l ∷ ls) [] h k = tt
small_from n bytes (l ∷ []) (m ∷ ms) h k =
    let ends : Small (record { passes = n + 1; bytes = bytes + l } ∷ []) = (omega arith, omega arith, tt) in
    either Small (not (eqb m 0) || true) (record { passes = n + 1; bytes = bytes + l } ∷ []) [] ends tt
small_from n bytes (l ∷ x ∷ ls) (m ∷ ms) h k =
    let ends : Small (record { passes = n + 1; bytes = bytes + l } ∷ segments_from 0 0 (x ∷ ls) ms) =
    (omega arith, omega arith, small_from 0 0 (x ∷ ls) ms (omega arith) (omega arith)) in
    either Small (not (eqb m 0) || false) (record { passes = n + 1; bytes = bytes + l } ∷ segments_from 0 0 (x ∷ ls) ms)
    (segments_from (n + 1) (bytes + l) (x ∷ ls) ms) ends (small_from (n + 1) (bytes + l) (x ∷ ls) ms (omega arith) (omega arith))

small_segments : (ls ms : List ℕ) → sum ls < 2 ^ 24 → length ls ≤ 164 → Small (segments_of ls ms)
unfolding segments_of
small_segments ls ms h k = small_from 0 0 ls ms (omega arith) (omega arith)

none_long : (ss : List Segment) → Small ss → any_too_long ss ≡ false
unfolding any
none_long [] h = refl
none_long (s ∷ ss) h = rw (lt-leb (2 ^ 31) s.bytes (omega (arith, h.0)), none_long ss h.2)

increment-up_to : (lb : ℕ) (ss : List Segment) → Small ss → increment lb ss ≤ 24 - lb
unfolding increment width bit_length
increment-up_to lb [] h = omega arith
increment-up_to lb (s ∷ ss) h =
    let r = increment-up_to lb ss h.2 in
    let b = log_up_to 23 s.bytes h.0 in
    omega arith

none_wide : (lb : ℕ) (ss : List Segment) → lb ≤ 25 → Small ss → any_too_wide lb ss ≡ false
unfolding any width
none_wide lb [] l h = refl
none_wide lb (s ∷ ss) l h =
    let w = log_up_to 7 s.passes (omega (arith, h.1)) in
    rw (le-ltb 32 (width lb s.passes) (omega arith), none_wide lb ss l h.2)

block_narrow : (before : ℕ) (ss : List Segment) → before ≤ 25 → Small ss → block_too_wide before ss ≡ false
block_narrow before ss b h = none_wide (before + increment before ss) ss (omega (arith, increment-up_to before ss h)) h

-- ---- all blocks

first_few : (c : ℕ) (cs ls ms : List ℕ) → sum ls < 2 ^ 24 → any (λ c. ltb 164 c) (c ∷ cs) ≡ false
    → Small (segments_of (take c ls) (take c ms)) × (sum (drop c ls) < 2 ^ 24) × (any (λ c. ltb 164 c) cs ≡ false)
unfolding any
first_few c cs ls ms h f =
    let s = sum-splits c ls in
    let k = ltb-false 164 c (or_left (ltb 164 c) (any (λ k. ltb 164 k) cs) f) in (
      small_segments (take c ls) (take c ms) (omega arith) (omega (arith, length-take c ls)),
      omega arith,
      or_right (ltb 164 c) (any (λ k. ltb 164 k) cs) f,
    )

few_not_long : (cs ls ms : List ℕ) → sum ls < 2 ^ 24 → any (λ c. ltb 164 c) cs ≡ false → segment_too_long cs ls ms ≡ false
unfolding segment_too_long
few_not_long [] ls ms h f = refl
few_not_long (c ∷ cs) ls ms h f =
    let r = first_few c cs ls ms h f in
    rw (none_long (segments_of (take c ls) (take c ms)) r.0, few_not_long cs (drop c ls) (drop c ms) r.1 r.2)

few_not_wide : (L : Layout) (ws : List ℕ) (ks : List Block) (cs ls ms : List ℕ) → AllPlaced L ks
    → ((p : ℕ) → L.BlockAt p → length_bits ws p ≤ 25)
    → sum ls < 2 ^ 24 → any (λ c. ltb 164 c) cs ≡ false → field_too_wide ws ks cs ls ms ≡ false
unfolding field_too_wide length_bits_before
few_not_wide L ws [] cs ls ms q b h f = refl
few_not_wide L ws (k ∷ ks) [] ls ms q b h f = refl
few_not_wide L ws (k ∷ ks) (c ∷ cs) ls ms q b h f =
    let r = first_few c cs ls ms h f in
    let before = either (λ (z : ℕ). z ≤ 25) (is_new ws k) 3 (length_bits ws k.at) (omega arith) (b k.at q.0.0.block) in
    rw (
      block_narrow (cond (is_new ws k) 3 (length_bits ws k.at)) (segments_of (take c ls) (take c ms)) before r.0,
      few_not_wide L ws ks cs (drop c ls) (drop c ms) q.1 b r.1 r.2,
    )

-- ---- all bands

bits_known : (ws : List ℕ) (at : ℕ) (bs : List Band) (p : ℕ) → bits_up_to25 ws at bs ≡ true → BlockFrom at bs p → length_bits ws p ≤ 25
unfolding bits_up_to25
bits_known ws at [] p e n = absurd n
bits_known ws at (b ∷ bs) p e (inl c) =
    let here : Bool = every (blocks_in b) (λ i. leb (length_bits ws (at + 6 * band_nodes b + 4 * i)) 25) in
    let k = every_true (blocks_in b) (λ i. leb (length_bits ws (at + 6 * band_nodes b + 4 * i)) 25)
    (and_left here (bits_up_to25 ws (at + band_length b) bs) e) c.0 c.1 in
    leb-true (length_bits ws p) 25 (ap (λ (z : ℕ). leb (length_bits ws z) 25) c.2 ∙ k)
bits_known ws at (b ∷ bs) p e (inr n) =
    let here : Bool = every (blocks_in b) (λ i. leb (length_bits ws (at + 6 * band_nodes b + 4 * i)) 25) in
    bits_known ws (at + band_length b) bs p (and_right here (bits_up_to25 ws (at + band_length b) bs) e) n

pub few_neither : (ws : List ℕ) (bs : List Band) (cs ls ms : List ℕ) → (ltb (sum ls) (2 ^ 24) && bits_up_to25 ws 13 bs) ≡ true
    → any (λ c. ltb 164 c) cs ≡ false
    → (segment_too_long cs ls ms ≡ false) × (field_too_wide ws (blocks bs) cs ls ms ≡ false)
few_neither ws bs cs ls ms e f =
    let few = ltb-true (sum ls) (2 ^ 24) (and_left (ltb (sum ls) (2 ^ 24)) (bits_up_to25 ws 13 bs) e) in
    let bits = and_right (ltb (sum ls) (2 ^ 24)) (bits_up_to25 ws 13 bs) e in (
      few_not_long cs ls ms few f,
      few_not_wide (layout_of bs) ws (blocks bs) cs ls ms (blocks-placed bs) (λ p b. bits_known ws 13 bs p bits b) few f,
    )

-- ---- one band more

pub bits_turn : (ws : List ℕ) (at : ℕ) (l : List Band) (b : Band) (bs : List Band) (first size : ℕ) (t : Bool) → l ≡ b ∷ bs → first
    ≡ at + 6 * band_nodes b → size ≡ blocks_in b
    → t ≡ every size (λ i. leb (length_bits ws (first + 4 * i)) 25) → (t && bits_up_to25 ws (first + 4 * size) bs) ≡ bits_up_to25 ws at l
unfolding bits_up_to25 band_length
bits_turn ws at l b bs first size t e p q h =
    let k : first + 4 * size ≡ at + (6 * band_nodes b + 4 * blocks_in b) = omega arith in
    rw (h, k, p, q, e)
