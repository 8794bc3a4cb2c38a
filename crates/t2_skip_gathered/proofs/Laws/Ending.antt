-- The header's end, looked at through the window.
use mathlib.Core.Path.{◌≡◌, refl, sym, ap, ◌∙◌}
use mathlib.Core.Bool.{Bool, true, false, cond, not, ◌&&◌, true≢false}
use mathlib.Core.List.{List}
use Prim.Native.Nat.{ℕ, ◌+◌, ◌-◌, ◌%◌, ◌≤◌, ◌<◌, min}
use native.Mathlib.Omega.{arith}
use lib.ListN.{length, get_or, drop, length-drop}
use lib.Seq.{get_or-drop}
use lib.Dec.{eqb, ltb}
use borrow.Author.Tests.{le-ltb}
use Rattle.std.proofs.Common.{Option, None, Some}
use Rattle.t800.specs.Bits.{in_ff, ends_in_ff, bytes_taken}
use Rattle.t800.specs.MarkerSegments.{MarkerRead, read_marker, read_eph}
use Rattle.t800_laws.proofs.Laws.Tests.{either, if-lt}
use Rattle.t2_unpack_headers.specs.Windows.{window_of}
use Rattle.t2_unpack_headers.proofs.Laws.Windows.{window_length, window_at}
use Rattle.t2_skip_packet.specs.Parts.{header_bytes}
use Rattle.t2_skip_windows.specs.declared.InWindow.{InWindow}
use Rattle.t2_skip_windows.specs.Windows.{window_bytes, most_of_block}
use Rattle.t2_skip_gathered.specs.Headers.{taken_of, bio_from, EndOf}

-- ---- a marker of two bytes

none_skipped : (used : Bool) (second : ℕ) (src : List ℕ) (p : ℕ) → length src - p < 2 → (read_marker used 2 second src p).skip ≡ 0
unfolding read_marker
none_skipped false second src p h = refl
none_skipped true second src p h = ap (λ (r : MarkerRead). r.skip) (if-lt (length src - p) 2 _ _ h)

pub skip_small : (used : Bool) (second : ℕ) (src : List ℕ) (p : ℕ) → (read_marker used 2 second src p).skip ≤ 2
unfolding read_marker
skip_small used second src p =
    let P : MarkerRead → Type 0 = λ r. r.skip ≤ 2 in
    either P (not used) _ _ (omega arith)
    (either P (ltb (length src - p) 2) _ _ (omega arith)
    (either P (eqb (get_or src p 0) 0xff && eqb (get_or src (p + 1) 0) second) _ _ (omega arith) (omega arith)))

-- at p, and at q of another input that has the same two bytes there
same_marker : (used : Bool) (second : ℕ) (src other : List ℕ) (p q : ℕ) → p + 2 ≤ length src → q + 2 ≤ length other
    → get_or other q 0 ≡ get_or src p 0 → get_or other (q + 1) 0 ≡ get_or src (p + 1) 0
    → read_marker used 2 second other q ≡ read_marker used 2 second src p
unfolding read_marker
same_marker false second src other p q h g e f = refl
same_marker true second src other p q h g e f =
    let here : ltb (length src - p) 2 ≡ false = le-ltb (length src - p) 2 (omega arith) in
    let there : ltb (length other - q) 2 ≡ false = le-ltb (length other - q) 2 (omega arith) in
    rw (here, there, e, f)

-- ---- the end

-- the numbers that the code has: the place of the bits, and the bytes that are left
abbrev pub place_of : (at : ℕ) → InWindow → ℕ
place_of at s = s.base + s.run.bio.bp - at

abbrev pub ends_at : (at left : ℕ) → InWindow → Bool
ends_at at left s = eqb (s.run.bio.buf % 256) 255 && eqb (place_of at s) left

abbrev pub taken_at : (at left : ℕ) → InWindow → ℕ
taken_at at left s = cond (eqb (s.run.bio.buf % 256) 255) (place_of at s + 1) (min (place_of at s) left)

-- what is found of a place
none_taken : (t : Bool) (n : ℕ) → None ≡ cond t None (Some n) → t ≡ true
none_taken true n e = refl
none_taken false n e = absurd (cc)

some_taken : (t : Bool) (n m : ℕ) → Some m ≡ cond t None (Some n) → t ≡ false
some_taken true n m e = absurd (cc)
some_taken false n m e = refl

pub taken_same : (t : Bool) (n m : ℕ) → Some m ≡ cond t None (Some n) → m ≡ n
taken_same true n m e = absurd (cc)
taken_same false n m e = cc

pub taken_up_to : (at left : ℕ) (s : InWindow) → taken_at at left s ≤ place_of at s + 1
taken_up_to at left s =
    either (λ (n : ℕ). n ≤ place_of at s + 1) (eqb (s.run.bio.buf % 256) 255) (place_of at s + 1) (min (place_of at s) left) (omega arith)
    (omega arith)

pub taken_from : (at left : ℕ) (s : InWindow) → taken_at at left s + 2 ≤ left → place_of at s ≤ taken_at at left s
taken_from at left s =
    either (λ (n : ℕ). n + 2 ≤ left → place_of at s ≤ n) (eqb (s.run.bio.buf % 256) 255) (place_of at s + 1) (min (place_of at s) left)
    (λ h. omega arith) (λ h. omega arith)

module _ (bytes window : List ℕ) (s : InWindow) (plain at : ℕ) (eph : Bool) (holds : window ≡ window_of bytes s.base window_bytes)
    (all : plain ≡ length bytes)
  where
    abbrev src : List ℕ
    src = drop at bytes

    abbrev left : ℕ
    left = plain - at

    abbrev taken_here : Option ℕ
    taken_here = taken_of s.run.bio.buf (place_of at s) left

    left_is : left ≡ length src
    left_is = ap (λ (n : ℕ). n - at) all ∙ sym (length-drop at bytes)

    ends_is : ends_at at left s ≡ ends_in_ff src (bio_from at s)
    unfolding ends_in_ff in_ff
    ends_is = ap (λ (n : ℕ). ends_at at n s) left_is

    taken_is : taken_at at left s ≡ bytes_taken src (bio_from at s)
    unfolding bytes_taken in_ff
    taken_is = ap (λ (n : ℕ). taken_at at n s) left_is

    pub ended : None ≡ taken_here → EndOf src eph (bio_from at s) None
    ended e = sym ends_is ∙ none_taken (ends_at at left s) (taken_at at left s) e

    module _ (taken : ℕ) (found : Some taken ≡ taken_here) where
      on : ends_at at left s ≡ false
      on = some_taken (ends_at at left s) (taken_at at left s) taken found

      is : taken ≡ taken_at at left s
      is = taken_same (ends_at at left s) (taken_at at left s) taken found

      ok_is : ends_in_ff src (bio_from at s) ≡ false
      ok_is = sym ends_is ∙ on

      bytes_are : (skip : ℕ) → (read_marker eph 2 0x92 src taken).skip ≡ skip → taken + skip ≡ header_bytes src eph 0 (bio_from at s)
      unfolding header_bytes read_eph
      bytes_are skip e =
          let n : taken ≡ bytes_taken src (bio_from at s) = is ∙ taken_is in
          let zero_less : taken + skip ≡ taken + skip - 0 = omega arith in
          zero_less ∙ ap (λ (k : ℕ). taken + k - 0) (sym e) ∙ ap (λ (k : ℕ). k + (read_marker eph 2 0x92 src k).skip - 0) n

      pub end_short : left < taken + 2 → EndOf src eph (bio_from at s) (Some taken)
      end_short h =
          let n : taken ≡ taken + 0 = omega arith in
          (ok_is, n ∙ bytes_are 0 (none_skipped eph 0x92 src taken (omega (arith, left_is))))

      pub end-found : s.run.bio.bp + most_of_block ≤ window_bytes → at ≤ s.base + s.run.bio.bp → taken + 2 ≤ left → (f : MarkerRead)
          → f ≡ read_marker eph 2 0x92 window (s.run.bio.bp + (taken - place_of at s))
          → EndOf src eph (bio_from at s) (Some (taken + f.skip))
      end-found enough from h f e =
          let q : ℕ = s.run.bio.bp + (taken - place_of at s) in
          let low : place_of at s ≤ taken = rw is (taken_from at left s (rw (← is) h)) in
          let high : taken ≤ place_of at s + 1 = rw is (taken_up_to at left s) in
          let long : length window ≡ window_bytes = ap length holds ∙ window_length bytes s.base window_bytes in
          let byte : (i : ℕ) → i ≤ 1 → get_or window (q + i) 0 ≡ get_or src (taken + i) 0 = λ i k.
          let there : s.base + (q + i) ≡ at + (taken + i) = omega arith in
          ap (λ (l : List ℕ). get_or l (q + i) 0) holds ∙ window_at bytes s.base window_bytes (q + i) (omega arith)
          ∙ ap (λ (n : ℕ). get_or bytes n 0) there ∙ sym (get_or-drop at bytes (taken + i) 0) in
          let first : get_or window q 0 ≡ get_or src taken 0 =
          let z : q + 0 ≡ q = omega arith in
          let y : taken + 0 ≡ taken = omega arith in
          ap (λ (n : ℕ). get_or window n 0) (sym z) ∙ byte 0 (omega arith) ∙ ap (λ (n : ℕ). get_or src n 0) y in
          let m = same_marker eph 0x92 src window taken q (omega (arith, left_is)) (omega (arith, long)) first (byte 1 (omega arith)) in
          (ok_is, bytes_are f.skip (sym (ap (λ (r : MarkerRead). r.skip) (e ∙ m))))
