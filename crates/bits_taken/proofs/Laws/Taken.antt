-- How many bits the parts of a header take at most, up to its segments.
use mathlib.Core.Path.{◌≡◌, refl, sym, ap, ◌∙◌, subst}
use mathlib.Core.Bool.{Bool, true, false, cond, ◌&&◌}
use mathlib.Core.List.{List, [], ◌∷◌, ◌++◌, reverse}
use Prim.Native.Nat.{ℕ, zero, suc, ◌+◌, ◌-◌, ◌*◌, ◌%◌, ◌^◌, ◌≤◌, max, min}
use native.Mathlib.Nat.{le_trans, zero-add, suc-add, mul-le-mul_left}
use native.Mathlib.Omega.{arith}
use lib.ListN.{length, set, length-set}
use lib.Dec.{ltb, leb, eqb}
use borrow.Author.Tests.{ltb-false, eqb-true}
use Rattle.t800.specs.declared.Band.{Band}
use Rattle.t800.specs.declared.Bio.{Bio}
use Rattle.t800.specs.Bits.{Decoded, byte_in, held_bit, get_bit, read_bits_onto, read_bits}
use Rattle.t800.specs.TagTree.{NodeRead, PathRead, value, low, read_node, read_path}
use Rattle.t800.specs.PassCount.{read_passes}
use Rattle.t800.specs.Segments.{width, read_ones, read_comma}
use Rattle.t800.specs.State.{Block, not_yet_planes, blocks_in, band_length, blocks_from, blocks_at, blocks, end_of}
use Rattle.t800.specs.State.{length_bits}
use Rattle.t800.specs.WriteHeader.{is_new}
use Rattle.t800.specs.ReadHeader.{HeaderRead, passes_taken, read_segment, read_segments, read_zero_planes_from, read_zero_planes}
use Rattle.t800_laws.proofs.Laws.Tests.{either, either-by, if-eq, if-ne, on-eq, and_left}
use Rattle.t800_laws.proofs.Laws.Paths.{short_path}
use Rattle.t800_laws.proofs.Laws.Layout.{band_length_lem, end_after}
use Rattle.t800_laws.proofs.Laws.Kept.{from_0}
use Rattle.t800_laws.proofs.Laws.HeaderSteps.{thresholds_raised}
use Rattle.bits_taken.specs.Taken.{after_bits, Takes}

-- ---- one bit

pub byte_few : (f : Bool) → cond f 7 8 - 1 ≤ 7
byte_few true = omega arith
byte_few false = omega arith

pub bit_few : (src : List ℕ) (b : Bio) → b.ct ≤ 8 → (get_bit src b).bio.ct ≤ 7
unfolding get_bit held_bit byte_in
bit_few src b h =
    on-eq b.ct 0 (λ z. rw (if-eq b.ct 0 (byte_in src b) b z) (byte_few (eqb (b.buf * 256 % 65536) 0xff00)))
    (λ z. rw (if-ne b.ct 0 (byte_in src b) b z) (omega arith))

bit_inside : (src : List ℕ) (b : Bio) → (get_bit src b).bio.bp ≤ length src → b.bp ≤ length src
unfolding get_bit held_bit byte_in
bit_inside src b h =
    on-eq b.ct 0
    (λ z. let g : max b.bp (min (b.bp + 1) (length src + 2 ^ 40)) ≤ length src = rw (if-eq b.ct 0 (byte_in src b) b z) at h in omega arith)
    (λ z. rw (if-ne b.ct 0 (byte_in src b) b z) at h)

-- ---- bits one after another

pub after_sum : (src : List ℕ) (m n : ℕ) (b : Bio) → after_bits src (m + n) b ≡ after_bits src n (after_bits src m b)
unfolding after_bits
after_sum src zero n b = ap (λ (k : ℕ). after_bits src k b) (zero-add n)
after_sum src (suc m) n b = ap (λ (k : ℕ). after_bits src k b) (suc-add m n) ∙ after_sum src m n (get_bit src b).bio

pub after_few : (src : List ℕ) (n : ℕ) (b : Bio) → b.ct ≤ 8 → (after_bits src n b).ct ≤ 8
unfolding after_bits
after_few src zero b h = h
after_few src (suc n) b h = after_few src n (get_bit src b).bio (omega (arith, bit_few src b h))

pub after_inside : (src : List ℕ) (n : ℕ) (b : Bio) → (after_bits src n b).bp ≤ length src → b.bp ≤ length src
unfolding after_bits
after_inside src zero b h = h
after_inside src (suc n) b h = bit_inside src b (after_inside src n (get_bit src b).bio h)

-- ---- blocks whose words a state of n words has, and with paths of at most seven nodes

pub record Within (n : ℕ) (k : Block) : Type 0 where
  pub short : length k.path ≤ 7
  pub inside : k.at + 4 ≤ n

abbrev pub AllWithin : (n : ℕ) → List Block → Type 0
AllWithin n [] = Unit {0}
AllWithin n (k ∷ ks) = Within n k × AllWithin n ks

within_append : (n : ℕ) (ks js : List Block) → AllWithin n ks → AllWithin n js → AllWithin n (ks ++ js)
within_append n [] js h g = g
within_append n (k ∷ ks) js h g = (h.0, within_append n ks js h.1 g)

band_within : (n at : ℕ) (b : Band) (count leaf : ℕ) → leaf + count ≤ blocks_in b → at + band_length b ≤ n
    → AllWithin n (blocks_from at b count leaf)
unfolding blocks_from
band_within n at b zero leaf h g = tt
band_within n at b (suc count) leaf h g =
    let l = band_length_lem b in (
      record { short = short_path b.across b.down leaf; inside = omega arith },
      band_within n at b count (leaf + 1) (omega arith) g,
    )

bands-within : (n at : ℕ) (bs : List Band) → end_of at bs ≤ n → AllWithin n (blocks_at at bs)
unfolding blocks_at end_of
bands-within n at [] h = tt
bands-within n at (b ∷ bs) h =
    within_append n (blocks_from at b (blocks_in b) 0) (blocks_at (at + band_length b) bs)
    (band_within n at b (blocks_in b) 0 (omega arith) (le_trans (end_after (at + band_length b) bs) h))
    (bands-within n (at + band_length b) bs h)

pub blocks-within : (n : ℕ) (bs : List Band) → end_of 13 bs ≤ n → AllWithin n (blocks bs)
unfolding blocks
blocks-within n bs h = bands-within n 13 bs h

module _ (src : List ℕ) where
  pub takes_none : (b : Bio) → Takes src 0 b b
  unfolding after_bits
  takes_none b = record { bits = 0; few = omega arith; ends = refl }

  pub takes_one : (b : Bio) → Takes src 1 b (get_bit src b).bio
  unfolding after_bits
  takes_one b = record { bits = 1; few = omega arith; ends = refl }

  pub takes_then : (m n : ℕ) (b c e : Bio) → Takes src m b c → Takes src n c e → Takes src (m + n) b e
  takes_then m n b c e t u = record {
    bits = t.bits + u.bits;
    few = omega (arith, t.few, u.few);
    ends = u.ends ∙ ap (after_bits src u.bits) t.ends ∙ sym (after_sum src t.bits u.bits b);
  }

  pub takes_more : (m n : ℕ) (b e : Bio) → m ≤ n → Takes src m b e → Takes src n b e
  takes_more m n b e h t = record { bits = t.bits; few = le_trans t.few h; ends = t.ends }

  pub takes_few : (n : ℕ) (b e : Bio) → Takes src n b e → b.ct ≤ 8 → e.ct ≤ 8
  takes_few n b e t h = subst (λ (c : Bio). c.ct ≤ 8) (sym t.ends) (after_few src t.bits b h)

  pub takes_inside : (n : ℕ) (b e : Bio) → Takes src n b e → e.bp ≤ length src → b.bp ≤ length src
  takes_inside n b e t h = after_inside src t.bits b (subst (λ (c : Bio). c.bp ≤ length src) t.ends h)

  -- at most m bits and then at most n, where that is few enough
  pub then_within : (m n most : ℕ) (b c e : Bio) → Takes src m b c → Takes src n c e → m + n ≤ most → Takes src most b e
  then_within m n most b c e t u h = takes_more (m + n) most b e h (takes_then m n b c e t u)

  pub one_then : (n : ℕ) (b e : Bio) → Takes src n (get_bit src b).bio e → Takes src (suc n) b e
  one_then n b e t = then_within 1 n (suc n) b (get_bit src b).bio e (takes_one b) t (omega arith)

  pub none_within : (n : ℕ) (b : Bio) → Takes src n b b
  none_within n b = takes_more 0 n b b (omega arith) (takes_none b)

  pub one_within : (n : ℕ) (b : Bio) → Takes src (suc n) b (get_bit src b).bio
  one_within n b = takes_more 1 (suc n) b (get_bit src b).bio (omega arith) (takes_one b)

  -- ---- numbers

  onto_taken : (n v : ℕ) (b : Bio) → Takes src n b (read_bits_onto src n v b).bio
  unfolding read_bits_onto
  onto_taken zero v b = takes_none b
  onto_taken (suc n) v b = let r = get_bit src b in one_then n b _ (onto_taken n (2 * v + r.value) r.bio)

  pub bits_taken_lem : (n : ℕ) (b : Bio) → Takes src n b (read_bits src n b).bio
  unfolding read_bits
  bits_taken_lem n b = onto_taken n 0 b

  pub passes_taken_lem : (b : Bio) → Takes src 16 b (read_passes src b).bio
  unfolding read_passes
  passes_taken_lem b =
      let P : Decoded → Type 0 = λ d. Takes src 16 b d.bio in
      let first = get_bit src b in
      let second = get_bit src first.bio in
      let two = read_bits src 2 second.bio in
      let five = read_bits src 5 two.bio in
      let seven = read_bits src 7 five.bio in
      let at_2 : Takes src 2 b second.bio = one_then 1 b second.bio (takes_one first.bio) in
      let at_4 : Takes src 4 b two.bio = takes_then 2 2 b second.bio two.bio at_2 (bits_taken_lem 2 second.bio) in
      let at_9 : Takes src 9 b five.bio = takes_then 4 5 b two.bio five.bio at_4 (bits_taken_lem 5 two.bio) in
      let at_16 : Takes src 16 b seven.bio = takes_then 9 7 b five.bio seven.bio at_9 (bits_taken_lem 7 five.bio) in
      either P (eqb first.value 0) _ _ (one_within 15 b)
      (either P (eqb second.value 0) _ _ (takes_more 2 16 b second.bio (omega arith) at_2)
      (either P (leb two.value 2) _ _ (takes_more 4 16 b two.bio (omega arith) at_4)
      (either P (leb five.value 30) _ _ (takes_more 9 16 b five.bio (omega arith) at_9) at_16)))

  ones_rise : (f n : ℕ) (b : Bio) → n ≤ (read_ones src f n b).value
  unfolding read_ones
  ones_rise zero n b = omega arith
  ones_rise (suc f) n b =
      let r = get_bit src b in
      either (λ (d : Decoded). n ≤ d.value) (eqb r.value 0) _ _ (omega arith) (omega (arith, ones_rise f (n + 1) r.bio))

  pub ones_taken : (f n : ℕ) (b : Bio) → Takes src (suc ((read_ones src f n b).value - n)) b (read_ones src f n b).bio
  unfolding read_ones
  ones_taken zero n b = none_within (suc (n - n)) b
  ones_taken (suc f) n b =
      let r = get_bit src b in
      let more = read_ones src f (n + 1) r.bio in
      let rise : n + 1 ≤ more.value = ones_rise f (n + 1) r.bio in
      either (λ (d : Decoded). Takes src (suc (d.value - n)) b d.bio) (eqb r.value 0) _ _ (one_within (n - n) b)
      (takes_more (suc (suc (more.value - (n + 1)))) (suc (more.value - n)) b more.bio (omega arith)
      (one_then (suc (more.value - (n + 1))) b more.bio (ones_taken f (n + 1) r.bio)))

  pub comma_taken : (b : Bio) → Takes src ((read_comma src b).value + 1) b (read_comma src b).bio
  unfolding read_comma
  comma_taken b =
      let f : ℕ = 8 * length src + 8 in
      let v : ℕ = (read_ones src f 0 b).value in
      takes_more (suc (v - 0)) (v + 1) b (read_ones src f 0 b).bio (omega arith) (ones_taken f 0 b)

  -- ---- tag trees

  pub node_taken : (steps v from : ℕ) (b : Bio) → Takes src steps b (read_node src steps v from b).bio
  unfolding read_node
  node_taken zero v from b = takes_none b
  node_taken (suc steps) v from b =
      let P : NodeRead → Type 0 = λ z. Takes src (suc steps) b z.bio in
      let r = get_bit src b in
      either P (ltb from v) _ _
      (either P (eqb r.value 0) _ _ (one_then steps b _ (node_taken steps v (from + 1) r.bio)) (one_within steps b))
      (none_within (suc steps) b)

  pub path_taken : (base threshold : ℕ) (path : List ℕ) (parent_low : ℕ) (ws : List ℕ) (b : Bio)
      → Takes src (length path * threshold) b (read_path src base threshold path parent_low ws b).bio
  unfolding read_path
  path_taken base threshold [] parent_low ws b = none_within _ b
  path_taken base threshold (n ∷ ns) parent_low ws b =
      let node_at : ℕ = base + 3 * n in
      let from : ℕ = max parent_low (low ws node_at) in
      let r = read_node src (threshold - from) (value ws node_at) from b in
      let after : List ℕ = set (set ws node_at r.value) (node_at + 1) r.low in
      then_within (threshold - from) (length ns * threshold) (suc (length ns) * threshold) b r.bio _
      (node_taken (threshold - from) (value ws node_at) from b) (path_taken base threshold ns r.low after r.bio) (omega arith)

  thresholds_sum : (long t bound : ℕ) → long * t + bound * (long * (t + 1 + bound)) ≤ suc bound * (long * (t + suc bound))
  thresholds_sum long t bound =
      let e : t + suc bound ≡ t + 1 + bound = omega arith in
      let m : long * t ≤ long * (t + 1 + bound) = mul-le-mul_left long (omega arith) in
      rw e (omega arith)

  pub planes_from_taken : (k : Block) (bound t : ℕ) (ws : List ℕ) (b : Bio)
      → Takes src (bound * (length (reverse k.path) * (t + bound))) b (read_zero_planes_from src k bound t ws b).bio
  unfolding read_zero_planes_from
  planes_from_taken k zero t ws b = none_within _ b
  planes_from_taken k (suc bound) t ws b =
      let long : ℕ = length (reverse k.path) in
      let most : ℕ = suc bound * (long * (t + suc bound)) in
      let sum = thresholds_sum long t bound in
      let r = read_path src k.zero_tree t (reverse k.path) 0 ws b in
      let one : Takes src (long * t) b r.bio = path_taken k.zero_tree t (reverse k.path) 0 ws b in
      either (λ (p : PathRead). Takes src most b p.bio) (ltb (value r.words (k.zero_tree + 3 * k.leaf)) t) _ _
      (takes_more (long * t) most b r.bio (omega arith) one)
      (then_within (long * t) (bound * (long * (t + 1 + bound))) most b r.bio _ one
      (planes_from_taken k bound (t + 1) r.words r.bio) sum)

  pub planes_taken : (k : Block) (r : HeaderRead)
      → Takes src (1001 * (length (reverse k.path) * 1001)) r.bio (read_zero_planes src k r).bio
  unfolding read_zero_planes
  planes_taken k r =
      let most : ℕ = 1001 * (length (reverse k.path) * 1001) in
      either (λ (p : PathRead). Takes src most r.bio p.bio) (is_new r.words k) _ _
      (planes_from_taken k 1001 0 r.words r.bio) (none_within most r.bio)

  pub planes_long : (k : Block) (r : HeaderRead) → length (read_zero_planes src k r).words ≡ length r.words
  unfolding read_zero_planes
  planes_long k r =
      either (λ (p : PathRead). length p.words ≡ length r.words) (is_new r.words k) _ _
      (thresholds_raised 0 src k (not_yet_planes + 2) 0 r.words r.bio (from_0 k)).long refl

  -- ---- segments, below those of a read that isn't refused

  module _ (room : ℕ) where
    segment-fits : (i : ℕ) (k : Block) (n : ℕ) (r : HeaderRead) → (read_segment src room i k n r).refusal ≡ 0
        → width (length_bits r.words k.at) n ≤ 32
    unfolding read_segment
    segment-fits i k n r =
        let w : ℕ = width (length_bits r.words k.at) n in
        either-by (λ (s : HeaderRead). s.refusal ≡ 0 → w ≤ 32) (ltb 32 w) _ _ (λ t e. absurd (omega arith)) (λ f e. ltb-false 32 w f)

    pub segment-taken : (i : ℕ) (k : Block) (n : ℕ) (r : HeaderRead) → (read_segment src room i k n r).refusal ≡ 0
        → Takes src 32 r.bio (read_segment src room i k n r).bio
    unfolding read_segment
    segment-taken i k n r =
        let w : ℕ = width (length_bits r.words k.at) n in
        let P : HeaderRead → Type 0 = λ s. s.refusal ≡ 0 → Takes src 32 r.bio s.bio in
        either-by P (ltb 32 w) _ _ (λ t e. absurd (omega arith))
        (λ f. either P (leb room (length r.records)) _ _ (λ e. absurd (omega arith))
        (λ e. takes_more w 32 r.bio (read_bits src w r.bio).bio (ltb-false 32 w f) (bits_taken_lem w r.bio)))

    segment-long : (i : ℕ) (k : Block) (n : ℕ) (r : HeaderRead) → (read_segment src room i k n r).refusal ≡ 0
        → length (read_segment src room i k n r).words ≡ length r.words
    unfolding read_segment
    segment-long i k n r =
        let P : HeaderRead → Type 0 = λ s. s.refusal ≡ 0 → length s.words ≡ length r.words in
        either P (ltb 32 (width (length_bits r.words k.at) n)) _ _ (λ e. absurd (omega arith))
        (either P (leb room (length r.records)) _ _ (λ e. absurd (omega arith)) (λ e. simp length-set))

    -- with the first of the segments, which is read in any case
    pub segments_fit : (i : ℕ) (k : Block) (f left : ℕ) (r : HeaderRead) → 1 ≤ f → (read_segments src room i k f left r).refusal ≡ 0
        → length_bits r.words k.at ≤ 32
    unfolding read_segments width
    segments_fit i k zero left r h = absurd (omega arith)
    segments_fit i k (suc f) left r h =
        let n : ℕ = passes_taken r.words k left in
        let s : HeaderRead = read_segment src room i k n r in
        let fits : s.refusal ≡ 0 → length_bits r.words k.at ≤ 32 = λ e. omega (arith, segment-fits i k n r e) in
        either-by (λ (z : HeaderRead). z.refusal ≡ 0 → length_bits r.words k.at ≤ 32)
        (eqb s.refusal 0 && ltb 0 (left - n)) _ _
        (λ t e. fits (eqb-true s.refusal 0 (and_left (eqb s.refusal 0) (ltb 0 (left - n)) t))) (λ t e. fits e)

    pub segments_taken : (i : ℕ) (k : Block) (f left : ℕ) (r : HeaderRead) → (read_segments src room i k f left r).refusal ≡ 0
        → Takes src (f * 32) r.bio (read_segments src room i k f left r).bio
    unfolding read_segments
    segments_taken i k zero left r = λ e. none_within (0 * 32) r.bio
    segments_taken i k (suc f) left r =
        let n : ℕ = passes_taken r.words k left in
        let s : HeaderRead = read_segment src room i k n r in
        let more : HeaderRead = read_segments src room i k f (left - n) s in
        either-by (λ (z : HeaderRead). z.refusal ≡ 0 → Takes src (suc f * 32) r.bio z.bio)
        (eqb s.refusal 0 && ltb 0 (left - n)) _ _
        (λ t e. then_within 32 (f * 32) (suc f * 32) r.bio s.bio more.bio
        (segment-taken i k n r (eqb-true s.refusal 0 (and_left (eqb s.refusal 0) (ltb 0 (left - n)) t)))
        (segments_taken i k f (left - n) s e) (omega arith))
        (λ t e. takes_more 32 (suc f * 32) r.bio s.bio (omega arith) (segment-taken i k n r e))

    pub segments_long : (i : ℕ) (k : Block) (f left : ℕ) (r : HeaderRead) → (read_segments src room i k f left r).refusal ≡ 0
        → length (read_segments src room i k f left r).words ≡ length r.words
    unfolding read_segments
    segments_long i k zero left r = λ e. refl
    segments_long i k (suc f) left r =
        let n : ℕ = passes_taken r.words k left in
        let s : HeaderRead = read_segment src room i k n r in
        either-by (λ (z : HeaderRead). z.refusal ≡ 0 → length z.words ≡ length r.words)
        (eqb s.refusal 0 && ltb 0 (left - n)) _ _
        (λ t e. segments_long i k f (left - n) s e
        ∙ segment-long i k n r (eqb-true s.refusal 0 (and_left (eqb s.refusal 0) (ltb 0 (left - n)) t)))
        (λ t e. segment-long i k n r e)
