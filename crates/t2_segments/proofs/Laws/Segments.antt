-- A block's segments one after another: the first by itself, those after it, and what a loop over them keeps.
use mathlib.Core.Path.{◌≡◌, refl, sym, ap, ap₂, ◌∙◌, subst}
use mathlib.Core.Bool.{Bool, true, false, cond, not, ◌||◌, or-false}
use mathlib.Core.List.{List, [], ◌∷◌}
use Prim.Native.Nat.{ℕ, zero, suc, ◌+◌, ◌-◌, ◌/◌, ◌^◌, ◌≤◌, ◌<◌, max}
use native.Mathlib.Omega.{arith}
use lib.ListN.{length, get_or, drop, length-drop, drop_of_length-le}
use lib.Seq.{drop-cons, drop-drop}
use lib.Dec.{eqb, ltb, leb}
use borrow.Author.Tests.{lt-ltb, ltb-false, leb-false}
use Rattle.t800.specs.Base.{any, halvings, floor_log2}
use Rattle.t800.specs.Segments.{Segment, segments_from, segments_of, width, bit_length, increment}
use Rattle.t800_laws.proofs.Laws.Lists.{last_pass, next_entry}
use Rattle.t800_laws.proofs.Laws.Tests.{if-true, if-false, either, or_left, or_right}
use Rattle.t2_segments.specs.Segments.{segment, first_from, first_segment, any_too_long, any_too_wide}

-- ---- one pass more

module _ (n b l m : ℕ) (ls ms : List ℕ) where
  pub first_goes_on : eqb m 0 ≡ true → first_from n b (l ∷ ls) (m ∷ ms) ≡ first_from (n + 1) (b + l) ls ms
  unfolding first_from
  first_goes_on e = if-true (eqb m 0) _ _ e

  pub first_ends : eqb m 0 ≡ false → first_from n b (l ∷ ls) (m ∷ ms) ≡ segment (n + 1) (b + l)
  unfolding first_from
  first_ends e = if-false (eqb m 0) _ _ e

first_last : (n b l m : ℕ) → first_from n b (l ∷ []) (m ∷ []) ≡ segment (n + 1) (b + l)
unfolding first_from
first_last n b l m = same (eqb m 0) (segment (n + 1) (b + l))
  where
    same : (t : Bool) (s : Segment) → cond t s s ≡ s
    same true s = refl
    same false s = refl

module _ (n b l x m y : ℕ) (ls ms : List ℕ) where
  pass_ends : eqb m 0 ≡ false → segments_from n b (l ∷ x ∷ ls) (m ∷ y ∷ ms) ≡ segment (n + 1) (b + l) ∷ segments_from 0 0 (x ∷ ls) (y ∷ ms)
  unfolding segments_from
  pass_ends e = if-true (not (eqb m 0) || false) _ _ (or-false (not (eqb m 0)) ∙ ap not e)

  pass_goes_on : eqb m 0 ≡ true → segments_from n b (l ∷ x ∷ ls) (m ∷ y ∷ ms) ≡ segments_from (n + 1) (b + l) (x ∷ ls) (y ∷ ms)
  unfolding segments_from
  pass_goes_on e = if-false (not (eqb m 0) || false) _ _ (or-false (not (eqb m 0)) ∙ ap not e)

-- ---- the first segment and those after it

-- the first takes `more` of the passes that are left
record Split (n b : ℕ) (ls ms : List ℕ) : Type 0 where
  more : ℕ
  some : 1 ≤ more
  enough : more ≤ length ls
  passes_are : (first_from n b ls ms).passes ≡ n + more
  rest : segments_from n b ls ms ≡ first_from n b ls ms ∷ segments_from 0 0 (drop more ls) (drop more ms)

splits : (n b l : ℕ) (ls : List ℕ) (m : ℕ) (ms : List ℕ) → length ls ≡ length ms → Split n b (l ∷ ls) (m ∷ ms)
unfolding segments_from
splits n b l [] m [] e =
    record {
      more = 1;
      some = omega arith;
      enough = omega arith;
      passes_are = ap (λ (s : Segment). s.passes) (first_last n b l m);
      rest = last_pass n b l m ∙ ap (λ (s : Segment). s ∷ []) (sym (first_last n b l m));
    }
splits n b l [] m (y ∷ ms) e = absurd (omega arith)
splits n b l (x ∷ ls) m [] e = absurd (omega arith)
splits n b l (x ∷ ls) m (y ∷ ms) e = go (eqb m 0) refl (splits (n + 1) (b + l) x ls y ms (omega arith))
  where
    go : (t : Bool) → eqb m 0 ≡ t → Split (n + 1) (b + l) (x ∷ ls) (y ∷ ms) → Split n b (l ∷ x ∷ ls) (m ∷ y ∷ ms)
    go true t r =
        record {
          more = suc r.more;
          some = omega arith;
          enough = omega (arith, r.enough);
          passes_are = ap (λ (s : Segment). s.passes) (first_goes_on n b l m (x ∷ ls) (y ∷ ms) t) ∙ r.passes_are ∙ omega arith;
          rest =
              pass_goes_on n b l x m y ls ms t ∙ r.rest
              ∙ ap (λ (s : Segment). s ∷ segments_from 0 0 (drop r.more (x ∷ ls)) (drop r.more (y ∷ ms)))
              (sym (first_goes_on n b l m (x ∷ ls) (y ∷ ms) t));
        }
    go false t r =
        record {
          more = 1;
          some = omega arith;
          enough = omega arith;
          passes_are = ap (λ (s : Segment). s.passes) (first_ends n b l m (x ∷ ls) (y ∷ ms) t);
          rest = pass_ends n b l x m y ls ms t
              ∙ ap (λ (s : Segment). s ∷ segments_from 0 0 (x ∷ ls) (y ∷ ms)) (sym (first_ends n b l m (x ∷ ls) (y ∷ ms) t));
        }

-- the segment of p passes and b bytes that begins at a pass of a block
pub record Next (ls ms : List ℕ) (at p b : ℕ) : Type 0 where
  pub some : 1 ≤ p
  pub enough : at + p ≤ length ls
  pub is : segments_of (drop at ls) (drop at ms) ≡ segment p b ∷ segments_of (drop (at + p) ls) (drop (at + p) ms)

next_of_split : (ls ms : List ℕ) (at p b : ℕ) → segment p b ≡ first_segment (drop at ls) (drop at ms) → at < length ls
    → Split 0 0 (drop at ls) (drop at ms) → Next ls ms at p b
unfolding segments_of first_segment
next_of_split ls ms at p b q h s =
    let n : length (drop at ls) ≡ length ls - at = length-drop at ls in
    let k : p ≡ 0 + s.more = ap (λ (z : Segment). z.passes) q ∙ s.passes_are in
    let j : at + s.more ≡ at + p = omega arith in
    record {
      some = omega (arith, s.some);
      enough = omega (arith, s.enough);
      is =
          s.rest
          ∙ ap (λ (z : Segment). z ∷ segments_from 0 0 (drop s.more (drop at ls)) (drop s.more (drop at ms))) (sym q)
          ∙ ap₂ (λ (x y : List ℕ). segment p b ∷ segments_from 0 0 x y)
          (drop-drop s.more at ls ∙ ap (λ (z : ℕ). drop z ls) j)
          (drop-drop s.more at ms ∙ ap (λ (z : ℕ). drop z ms) j);
    }

pub next_segment_lem : (ls ms : List ℕ) (at p b : ℕ) → length ls ≡ length ms → at < length ls → segment p b
    ≡ first_segment (drop at ls) (drop at ms) → Next ls ms at p b
next_segment_lem ls ms at p b e h q =
    let n₁ : length (drop (suc at) ls) ≡ length ls - suc at = length-drop (suc at) ls in
    let n₂ : length (drop (suc at) ms) ≡ length ms - suc at = length-drop (suc at) ms in
    let l : List ℕ = drop (suc at) ls in
    next_of_split ls ms at p b q h
    (subst (λ (z : List ℕ). Split 0 0 z (drop at ms)) (sym (drop-cons ls at 0 h))
    (subst (λ (z : List ℕ). Split 0 0 (get_or ls at 0 ∷ l) z) (sym (drop-cons ms at 0 (omega arith)))
    (splits 0 0 (get_or ls at 0) l (get_or ms at 0) (drop (suc at) ms) (omega arith))))

pub no_segment_left : (ls ms : List ℕ) (at : ℕ) → length ls ≤ at → segments_of (drop at ls) (drop at ms) ≡ []
unfolding segments_of segments_from
no_segment_left ls ms at h = rw (drop_of_length-le ls {i = at} h)

-- ---- loops over them

-- pass i into the segment
module _ (ls ms : List ℕ) (i p b : ℕ) where
  pass_splits : i < length ls → length ls ≡ length ms → first_from p b (drop i ls) (drop i ms)
      ≡ first_from p b (get_or ls i 0 ∷ drop (i + 1) ls) (get_or ms i 0 ∷ drop (i + 1) ms)
  pass_splits h e =
      ap₂ (λ (x y : List ℕ). first_from p b x y)
      (next_entry ls i h) (next_entry ms i (omega arith))

  pub pass_stays : i < length ls → length ls ≡ length ms → eqb (get_or ms i 0) 0 ≡ true
      → first_from (p + 1) (b + get_or ls i 0) (drop (i + 1) ls) (drop (i + 1) ms) ≡ first_from p b (drop i ls) (drop i ms)
  pass_stays h e t = sym (pass_splits h e ∙ first_goes_on p b (get_or ls i 0) (get_or ms i 0) (drop (i + 1) ls) (drop (i + 1) ms) t)

  pub pass_is_last : i < length ls → length ls ≡ length ms → eqb (get_or ms i 0) 0 ≡ false → segment (p + 1) (b + get_or ls i 0)
      ≡ first_from p b (drop i ls) (drop i ms)
  pass_is_last h e t = sym (pass_splits h e ∙ first_ends p b (get_or ls i 0) (get_or ms i 0) (drop (i + 1) ls) (drop (i + 1) ms) t)

pub no_pass_left : (ls ms : List ℕ) (i p b : ℕ) → length ls ≤ i → segment p b ≡ first_from p b (drop i ls) (drop i ms)
unfolding first_from
no_pass_left ls ms i p b h = rw (drop_of_length-le ls {i = i} h)

pub increment-turn : (lb most : ℕ) (ss : List Segment) (s : Segment) (rest : List Segment) → ss ≡ s ∷ rest
    → max (max most (bit_length s.bytes - width lb s.passes)) (increment lb rest) ≡ max most (increment lb ss)
unfolding increment
increment-turn lb most ss s rest e = rw e (omega arith)

-- what is so of no segment is so neither of the first nor of those after it
pub first_not_long : (ss : List Segment) (s : Segment) (rest : List Segment) → ss ≡ s ∷ rest → any_too_long ss ≡ false
    → (s.bytes < 2 ^ 31) × (any_too_long rest ≡ false)
unfolding any
first_not_long ss s rest e h =
    let k : any_too_long (s ∷ rest) ≡ false = ap any_too_long (sym e) ∙ h in (
      leb-false (2 ^ 31) s.bytes (or_left (leb (2 ^ 31) s.bytes) (any_too_long rest) k),
      or_right (leb (2 ^ 31) s.bytes) (any_too_long rest) k,
    )

pub first_not_wide : (lb : ℕ) (ss : List Segment) (s : Segment) (rest : List Segment) → ss ≡ s ∷ rest → any_too_wide lb ss ≡ false
    → (width lb s.passes ≤ 32) × (any_too_wide lb rest ≡ false)
unfolding any
first_not_wide lb ss s rest e h =
    let k : any_too_wide lb (s ∷ rest) ≡ false = ap (λ (z : List Segment). any_too_wide lb z) (sym e) ∙ h in (
      ltb-false 32 (width lb s.passes) (or_left (ltb 32 (width lb s.passes)) (any_too_wide lb rest) k),
      or_right (ltb 32 (width lb s.passes)) (any_too_wide lb rest) k,
    )

-- ---- logarithms

halvings-up_to : (k f n : ℕ) → n < 2 ^ suc k → halvings f n ≤ k
unfolding halvings
halvings-up_to k zero n h = omega arith
halvings-up_to zero (suc f) n h = let e = if-true (ltb n 2) 0 (1 + halvings f (n / 2)) (lt-ltb n 2 (omega arith)) in omega arith
halvings-up_to (suc k) (suc f) n h =
    let r = halvings-up_to k f (n / 2) (omega arith) in
    either (λ (z : ℕ). z ≤ suc k) (ltb n 2) 0 (1 + halvings f (n / 2)) (omega arith) (omega arith)

pub log_up_to : (k n : ℕ) → n < 2 ^ suc k → floor_log2 n ≤ k
unfolding floor_log2
log_up_to k n h = halvings-up_to k n n h

pub log_up_to_31 : (n : ℕ) → n < 2 ^ 32 → floor_log2 n ≤ 31
log_up_to_31 n h = log_up_to 31 n h

pub length-up_to_31_bits : (bytes : ℕ) → bytes < 2 ^ 31 → bit_length bytes ≤ 31
unfolding bit_length
length-up_to_31_bits bytes h = omega (arith, log_up_to 30 bytes h)

pub increment-up_to_31 : (lb : ℕ) (ss : List Segment) → any_too_long ss ≡ false → increment lb ss ≤ 31
unfolding any increment
increment-up_to_31 lb [] h = omega arith
increment-up_to_31 lb (s ∷ ss) h =
    let r = increment-up_to_31 lb ss (or_right (leb (2 ^ 31) s.bytes) (any_too_long ss) h) in
    let b = length-up_to_31_bits s.bytes (leb-false (2 ^ 31) s.bytes (or_left (leb (2 ^ 31) s.bytes) (any_too_long ss) h)) in
    omega arith
