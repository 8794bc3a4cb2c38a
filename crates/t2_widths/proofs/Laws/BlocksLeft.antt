-- Refusals 8 and 9 over the blocks that are left, with the counts, lengths and marks that are left: block by block, and band by band.
use mathlib.Core.Path.{◌≡◌, refl, sym, ap, ap₂, ◌∙◌}
use mathlib.Core.Bool.{Bool, false, ◌||◌}
use mathlib.Core.List.{List, [], ◌∷◌, ◌++◌}
use Prim.Native.Nat.{ℕ, zero, suc, ◌+◌, ◌-◌, ◌*◌, ◌≤◌, ◌<◌}
use native.Mathlib.Omega.{arith}
use lib.ListN.{length, get_or, take, drop, drop_of_length-le}
use lib.Seq.{drop-drop}
use Rattle.t800.specs.declared.Band.{Band}
use Rattle.t800.specs.Base.{sum}
use Rattle.t800.specs.Segments.{segments_of}
use Rattle.t800.specs.State.{Block, blocks_in, band_nodes, band_length, blocks_from, blocks_at}
use Rattle.t800.specs.WriteHeader.{is_new, length_bits_before, segment_too_long, field_too_wide}
use Rattle.t800_laws.proofs.Laws.Tests.{or_left, or_right}
use Rattle.t800_laws.proofs.Laws.Lists.{length_from}
use Rattle.tcd_laws.proofs.Laws.BlockPlanes.{or_group}
use Rattle.t2_segments.specs.Segments.{bits_before, any_too_long, block_too_wide}
use Rattle.t800_laws.proofs.Laws.Lists.{next_entry}
use Rattle.t2_widths.specs.Widths.{wide_from}
use Rattle.t800_laws.proofs.Laws.Sums.{sum-splits}

-- the passes of a block: those from `from` up to `to`
module _ (from to c : ℕ) (e : to ≡ from + c) where
  pub part_is : (l : List ℕ) → take (to - from) (drop from l) ≡ take c (drop from l)
  part_is l = let k : to - from ≡ c = omega arith in ap (λ (z : ℕ). take z (drop from l)) k

  pub after_is : (l : List ℕ) → drop c (drop from l) ≡ drop to l
  after_is l = drop-drop c from l ∙ ap (λ (z : ℕ). drop z l) (sym e)

-- ---- segments too long

module _ (cs ls ms : List ℕ) where
  pub long_turn : (i from to : ℕ) (t : Bool) → i < length cs → to ≡ from + get_or cs i 0
      → t ≡ any_too_long (segments_of (take (to - from) (drop from ls)) (take (to - from) (drop from ms)))
      → segment_too_long (drop i cs) (drop from ls) (drop from ms) ≡ (t || segment_too_long (drop (i + 1) cs) (drop to ls) (drop to ms))
  unfolding segment_too_long
  long_turn i from to t h e a =
      let c : ℕ = get_or cs i 0 in
      ap (λ (z : List ℕ). segment_too_long z (drop from ls) (drop from ms)) (next_entry cs i h)
      ∙ ap₂ (λ (x y : List ℕ). any_too_long (segments_of x y) || segment_too_long (drop (i + 1) cs) (drop c (drop from ls))
      (drop c (drop from ms)))
      (sym (part_is from to c e ls)) (sym (part_is from to c e ms))
      ∙ ap (λ (x : Bool). x || segment_too_long (drop (i + 1) cs) (drop c (drop from ls)) (drop c (drop from ms))) (sym a)
      ∙ ap₂ (λ (x y : List ℕ). t || segment_too_long (drop (i + 1) cs) x y) (after_is from to c e ls) (after_is from to c e ms)

  pub none_long_here : (i from to : ℕ) → i < length cs → to ≡ from + get_or cs i 0
      → segment_too_long (drop i cs) (drop from ls) (drop from ms) ≡ false
      → (any_too_long (segments_of (take (to - from) (drop from ls)) (take (to - from) (drop from ms))) ≡ false)
      × (segment_too_long (drop (i + 1) cs) (drop to ls) (drop to ms) ≡ false)
  none_long_here i from to h e g =
      let here : Bool = any_too_long (segments_of (take (to - from) (drop from ls)) (take (to - from) (drop from ms))) in
      let rest : Bool = segment_too_long (drop (i + 1) cs) (drop to ls) (drop to ms) in
      let k : (here || rest) ≡ false = sym (long_turn i from to here h e refl) ∙ g in
      (or_left here rest k, or_right here rest k)

  pub long_end : (i from : ℕ) → length cs ≤ i → segment_too_long (drop i cs) (drop from ls) (drop from ms) ≡ false
  unfolding segment_too_long
  long_end i from h = rw (drop_of_length-le cs {i = i} h)

-- where none is too long, none is after the first n blocks
pub none_long_after : (n : ℕ) (cs ls ms : List ℕ) → segment_too_long cs ls ms ≡ false
    → segment_too_long (drop n cs) (drop (sum (take n cs)) ls) (drop (sum (take n cs)) ms) ≡ false
unfolding segment_too_long sum
none_long_after zero cs ls ms h = h
none_long_after (suc n) [] ls ms h = refl
none_long_after (suc n) (c ∷ cs) ls ms h =
    ap₂ (λ (x y : List ℕ). segment_too_long (drop n cs) x y) (sym (drop-drop (sum (take n cs)) c ls)) (sym (drop-drop (sum (take n cs)) c ms))
    ∙ none_long_after n cs (drop c ls) (drop c ms)
    (or_right (any_too_long (segments_of (take c ls) (take c ms))) (segment_too_long cs (drop c ls) (drop c ms)) h)

-- ---- fields too wide, block by block

module _ (ws cs ls ms : List ℕ) where
  pub wide_turn : (n i at from to : ℕ) (t : Bool) → i < n → n ≤ length cs → to ≡ from + get_or cs i 0
      → t ≡ block_too_wide (bits_before (get_or ws at 0) (get_or ws (at + 1) 0))
      (segments_of (take (to - from) (drop from ls)) (take (to - from) (drop from ms)))
      → wide_from ws at (n - i) (drop i cs) (drop from ls) (drop from ms)
      ≡ (t || wide_from ws (at + 4) (n - (i + 1)) (drop (i + 1) cs) (drop to ls) (drop to ms))
  unfolding wide_from
  wide_turn n i at from to t h l e a =
      let c : ℕ = get_or cs i 0 in
      let m : ℕ = n - (i + 1) in
      let k : n - i ≡ suc m = omega arith in
      ap₂ (λ (x : ℕ) (z : List ℕ). wide_from ws at x z (drop from ls) (drop from ms)) k (next_entry cs i (omega arith))
      ∙ ap₂ (λ (x y : List ℕ). block_too_wide (bits_before (get_or ws at 0) (get_or ws (at + 1) 0)) (segments_of x y) || wide_from ws
      (at + 4) m (drop (i + 1) cs) (drop c (drop from ls)) (drop c (drop from ms)))
      (sym (part_is from to c e ls)) (sym (part_is from to c e ms))
      ∙ ap (λ (x : Bool). x || wide_from ws (at + 4) m (drop (i + 1) cs) (drop c (drop from ls)) (drop c (drop from ms))) (sym a)
      ∙ ap₂ (λ (x y : List ℕ). t || wide_from ws (at + 4) m (drop (i + 1) cs) x y) (after_is from to c e ls) (after_is from to c e ms)

  pub wide_end : (n i at from : ℕ) → n ≤ i → wide_from ws at (n - i) (drop i cs) (drop from ls) (drop from ms) ≡ false
  unfolding wide_from
  wide_end n i at from h = let k : n - i ≡ 0 = omega arith in rw k

-- ---- band by band

wide_blocks : (ws : List ℕ) (at : ℕ) (b : Band) (n i : ℕ) (cs ls ms : List ℕ) → field_too_wide ws (blocks_from at b n i) cs ls ms
    ≡ wide_from ws (at + 6 * band_nodes b + 4 * i) n cs ls ms
unfolding field_too_wide length_bits_before is_new blocks_from wide_from
wide_blocks ws at b zero i cs ls ms = refl
wide_blocks ws at b (suc n) i [] ls ms = refl
wide_blocks ws at b (suc n) i (c ∷ cs) ls ms =
    let p : ℕ = at + 6 * band_nodes b + 4 * i in
    let k : at + 6 * band_nodes b + 4 * (i + 1) ≡ p + 4 = omega arith in
    ap (λ (t : Bool). block_too_wide (bits_before (get_or ws p 0) (get_or ws (p + 1) 0)) (segments_of (take c ls) (take c ms)) || t)
    (wide_blocks ws at b n (i + 1) cs (drop c ls) (drop c ms) ∙ ap (λ (z : ℕ). wide_from ws z n cs (drop c ls) (drop c ms)) k)

-- a band's blocks
pub wide_band : (ws : List ℕ) (at : ℕ) (b : Band) (first size : ℕ) (cs ls ms : List ℕ) → first ≡ at + 6 * band_nodes b → size ≡ blocks_in b
    → wide_from ws first size cs ls ms ≡ field_too_wide ws (blocks_from at b (blocks_in b) 0) cs ls ms
wide_band ws at b first size cs ls ms p q =
    let k : first ≡ at + 6 * band_nodes b + 4 * 0 = omega arith in
    ap₂ (λ (x y : ℕ). wide_from ws x y cs ls ms) k q ∙ sym (wide_blocks ws at b (blocks_in b) 0 cs ls ms)

no_counts_left : (ws : List ℕ) (ks : List Block) (ls ms : List ℕ) → field_too_wide ws ks [] ls ms ≡ false
unfolding field_too_wide
no_counts_left ws [] ls ms = refl
no_counts_left ws (k ∷ ks) ls ms = refl

-- the blocks js and those after them
wide_splits : (ws : List ℕ) (js ks : List Block) (cs ls ms : List ℕ)
    → field_too_wide ws (js ++ ks) cs ls ms
    ≡ (field_too_wide ws js cs ls ms || field_too_wide ws ks (drop (length js) cs) (drop (sum (take (length js) cs)) ls)
    (drop (sum (take (length js) cs)) ms))
unfolding field_too_wide length_bits_before is_new sum
wide_splits ws [] ks cs ls ms = refl
wide_splits ws (j ∷ js) ks [] ls ms = sym (no_counts_left ws ks ls ms)
wide_splits ws (j ∷ js) ks (c ∷ cs) ls ms =
    let here : Bool = block_too_wide (bits_before (get_or ws j.at 0) (get_or ws (j.at + 1) 0)) (segments_of (take c ls) (take c ms)) in
    let p : ℕ = sum (take (length js) cs) in
    ap (λ (t : Bool). here || t) (wide_splits ws js ks cs (drop c ls) (drop c ms))
    ∙ ap₂ (λ (x y : List ℕ). here ||
    (field_too_wide ws js cs (drop c ls) (drop c ms) || field_too_wide ws ks (drop (length js) cs) x y)) (drop-drop p c ls)
    (drop-drop p c ms)
    ∙ or_group here (field_too_wide ws js cs (drop c ls) (drop c ms))
    (field_too_wide ws ks (drop (length js) cs) (drop (c + p) ls) (drop (c + p) ms))

-- the passes of a band's blocks, which are those from `first` up to `next`
pub passes_here : (cs : List ℕ) (b : Band) (first next p : ℕ) → next ≡ first + blocks_in b → p
    ≡ sum (take (next - first) (drop first cs)) → p ≡ sum (take (blocks_in b) (drop first cs))
passes_here cs b first next p e h = h ∙ ap sum (part_is first next (blocks_in b) e cs)

-- one band more: its blocks are those from `first` up to `next`, with p passes
module _ (cs ls ms : List ℕ) (b : Band) (first next from p : ℕ) (size : next ≡ first + blocks_in b)
    (passes : p ≡ sum (take (blocks_in b) (drop first cs))) where
  pub band_wide_turn : (ws : List ℕ) (at : ℕ) (l bs : List Band) (t : Bool) → l ≡ b ∷ bs
      → t ≡ field_too_wide ws (blocks_from at b (blocks_in b) 0) (drop first cs) (drop from ls) (drop from ms)
      → field_too_wide ws (blocks_at at l) (drop first cs) (drop from ls) (drop from ms)
      ≡ (t || field_too_wide ws (blocks_at (at + band_length b) bs) (drop next cs) (drop (from + p) ls) (drop (from + p) ms))
  unfolding blocks_at
  band_wide_turn ws at l bs t e a =
      let js : List Block = blocks_from at b (blocks_in b) 0 in
      let ks : List Block = blocks_at (at + band_length b) bs in
      let rest : List ℕ = drop first cs in
      ap (λ (z : List Band). field_too_wide ws (blocks_at at z) rest (drop from ls) (drop from ms)) e
      ∙ wide_splits ws js ks rest (drop from ls) (drop from ms)
      ∙ ap (λ (n : ℕ). field_too_wide ws js rest (drop from ls) (drop from ms) || field_too_wide ws ks (drop n rest)
      (drop (sum (take n rest)) (drop from ls)) (drop (sum (take n rest)) (drop from ms))) (length_from at b (blocks_in b) 0)
      ∙ ap (λ (n : ℕ). field_too_wide ws js rest (drop from ls) (drop from ms) || field_too_wide ws ks (drop (blocks_in b) rest)
      (drop n (drop from ls)) (drop n (drop from ms))) (sym passes)
      ∙ ap₂ (λ (x y : List ℕ). field_too_wide ws js rest (drop from ls) (drop from ms) || field_too_wide ws ks (drop (blocks_in b) rest)
      x y) (drop-drop p from ls) (drop-drop p from ms)
      ∙ ap₂ (λ (x : Bool) (y : List ℕ). x || field_too_wide ws ks y (drop (from + p) ls) (drop (from + p) ms)) (sym a)
      (after_is first next (blocks_in b) size cs)

  pub passes_after_band : from + sum (drop first cs) ≡ sum cs → from + p + sum (drop next cs) ≡ sum cs
  passes_after_band h =
      let k : sum (drop (blocks_in b) (drop first cs)) ≡ sum (drop next cs) = ap sum (after_is first next (blocks_in b) size cs) in
      omega (arith, sum-splits (blocks_in b) (drop first cs), passes)

  pub none_long_after_band : segment_too_long (drop first cs) (drop from ls) (drop from ms) ≡ false
      → segment_too_long (drop next cs) (drop (from + p) ls) (drop (from + p) ms) ≡ false
  none_long_after_band h =
      let rest : List ℕ = drop first cs in
      let n : ℕ = blocks_in b in
      sym (ap (λ (z : List ℕ). segment_too_long z (drop (from + p) ls) (drop (from + p) ms)) (after_is first next n size cs))
      ∙ sym (ap₂ (λ (x y : List ℕ). segment_too_long (drop n rest) x y) (drop-drop p from ls) (drop-drop p from ms))
      ∙ ap (λ (z : ℕ). segment_too_long (drop n rest) (drop z (drop from ls)) (drop z (drop from ms))) passes
      ∙ none_long_after n rest (drop from ls) (drop from ms) h

pub no_band_left : (ws : List ℕ) (at : ℕ) (cs ls ms : List ℕ) → field_too_wide ws (blocks_at at []) cs ls ms ≡ false
unfolding blocks_at field_too_wide
no_band_left ws at cs ls ms = refl
