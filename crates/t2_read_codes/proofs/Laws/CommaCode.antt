-- Runs of ones as they are read, and what a limit on them changes.
use mathlib.Core.Path.{◌≡◌, refl, sym, ap, ◌∙◌, subst}
use mathlib.Core.Bool.{Bool, true, false, cond}
use mathlib.Core.List.{List}
use Prim.Native.Nat.{ℕ, zero, suc, ◌+◌, ◌-◌, ◌*◌, ◌≤◌, ◌<◌, min}
use native.Mathlib.Nat.{suc-add}
use native.Mathlib.Omega.{arith}
use lib.Dec.{eqb, ltb, leb}
use lib.ListN.{length}
use borrow.Author.Tests.{eq-eqb, ne_eqb, leb-true, leb-false, ltb-true, ltb-false}
use Rattle.t800.specs.declared.Bio.{Bio}
use Rattle.t800.specs.Bits.{reach, Decoded, get_bit}
use Rattle.t800.specs.Segments.{read_ones, read_comma}
use Rattle.t800_laws.proofs.Laws.ReadValues.{ones_more}
use Rattle.bio_read.proofs.Laws.ReadChunks.{get_bit-ct, get_bit-place}
use Rattle.t2_read_codes.specs.CommaCode.{most_ones, ones_limit, read_comma_limited}

-- a turn, as the code counts: f - 1 are left
ones_by : (src : List ℕ) (f n : ℕ) (b : Bio) → 0 < f
    → read_ones src f n b
    ≡ cond (eqb (get_bit src b).value 0) (record { value = n; bio = (get_bit src b).bio })
    (read_ones src (f - 1) (n + 1) (get_bit src b).bio)
unfolding read_ones
ones_by src zero n b h = absurd (omega arith)
ones_by src (suc f) n b h = let e : suc f - 1 ≡ f = omega arith in rw e

pub ones_end : (src : List ℕ) (f n : ℕ) (b : Bio) → 0 < f → (get_bit src b).value ≡ 0 → read_ones src f n b
    ≡ record { value = n; bio = (get_bit src b).bio }
ones_end src f n b h z = ones_by src f n b h ∙ simp (eq-eqb _ _ z)

pub ones_on : (src : List ℕ) (f n : ℕ) (b : Bio) → 0 < f → ((get_bit src b).value ≡ 0 → ⊥) → read_ones src f n b
    ≡ read_ones src (f - 1) (n + 1) (get_bit src b).bio
ones_on src f n b h z = ones_by src f n b h ∙ simp (ne_eqb _ _ z)

-- ---- what the run keeps

ct_by : (t : Bool) (x y : Decoded) → x.bio.ct ≤ 8 → y.bio.ct ≤ 8 → (cond t x y).bio.ct ≤ 8
ct_by true x y p q = p
ct_by false x y p q = q

pub ones_ct : (src : List ℕ) (f n : ℕ) (b : Bio) → b.ct ≤ 8 → (read_ones src f n b).bio.ct ≤ 8
unfolding read_ones
ones_ct src zero n b h = h
ones_ct src (suc f) n b h =
    let g = get_bit-ct src b h in
    ct_by (eqb (get_bit src b).value 0) (record { value = n; bio = (get_bit src b).bio }) _ g (ones_ct src f (n + 1) (get_bit src b).bio g)

place_by : (t : Bool) (x y : Decoded) (m : ℕ) → x.bio.bp ≤ m → y.bio.bp ≤ m → (cond t x y).bio.bp ≤ m
place_by true x y m p q = p
place_by false x y m p q = q

pub ones_place : (src : List ℕ) (f n : ℕ) (b : Bio) → b.bp ≤ length src + reach → (read_ones src f n b).bio.bp ≤ length src + reach
unfolding read_ones
ones_place src zero n b h = h
ones_place src (suc f) n b h =
    let g = get_bit-place src b h in
    place_by (eqb (get_bit src b).value 0) (record { value = n; bio = (get_bit src b).bio }) _ (length src + reach) g
    (ones_place src f (n + 1) (get_bit src b).bio g)

between_by : (t : Bool) (x y : Decoded) (n f : ℕ) → x.value ≡ n → (n + 1 ≤ y.value) × (y.value ≤ n + 1 + f)
    → (n ≤ (cond t x y).value) × ((cond t x y).value ≤ n + suc f)
between_by true x y n f p q = omega arith
between_by false x y n f p q = omega arith

-- at least those that were read before, at most f more
pub ones_between : (src : List ℕ) (f n : ℕ) (b : Bio) → (n ≤ (read_ones src f n b).value) × ((read_ones src f n b).value ≤ n + f)
unfolding read_ones
ones_between src zero n b = omega arith
ones_between src (suc f) n b =
    between_by (eqb (get_bit src b).value 0) (record { value = n; bio = (get_bit src b).bio }) _ n f refl
    (ones_between src f (n + 1) (get_bit src b).bio)

-- ---- a run that doesn't end within the bound is no shorter for a larger one

full_by : (t : Bool) (x y z : Decoded) (n m : ℕ) → x.value ≡ n → n < m → (y.value ≡ m → m ≤ z.value) → (cond t x y).value ≡ m
    → m ≤ (cond t x z).value
full_by true x y z n m e l p h = absurd (omega arith)
full_by false x y z n m e l p h = p h

ones_full : (src : List ℕ) (f g n : ℕ) (b : Bio) → (read_ones src f n b).value ≡ n + f → n + f ≤ (read_ones src (f + g) n b).value
unfolding read_ones
ones_full src zero g n b h = let r = ones_between src (zero + g) n b in omega arith
ones_full src (suc f) g n b h =
    let full : (read_ones src f (n + 1) (get_bit src b).bio).value ≡ n + suc f
    → n + suc f ≤ (read_ones src (f + g) (n + 1) (get_bit src b).bio).value =
    λ e. omega (arith, ones_full src f g (n + 1) (get_bit src b).bio (omega (arith, e))) in
    subst (λ (k : ℕ). n + suc f ≤ (read_ones src k n b).value) (sym (suc-add f g))
    (full_by (eqb (get_bit src b).value 0) (record { value = n; bio = (get_bit src b).bio }) _ _ n (n + suc f) refl (omega arith) full h)

-- ---- the limit

-- with m, or k more
module _ (src : List ℕ) (m k : ℕ) (b : Bio) where
  min_by : (t : Bool) → ltb (read_ones src m 0 b).value m ≡ t → (read_ones src m 0 b).value ≡ min (read_ones src (m + k) 0 b).value m
  min_by true e =
      let l = ltb-true (read_ones src m 0 b).value m e in
      let same = ap (λ (d : Decoded). d.value) (ones_more src m k 0 b (omega arith)) in
      omega arith
  min_by false e =
      let l = ltb-false (read_ones src m 0 b).value m e in
      let r = ones_between src m 0 b in
      let full = ones_full src m k 0 b (omega arith) in
      omega arith

  ones_min : (read_ones src m 0 b).value ≡ min (read_ones src (m + k) 0 b).value m
  ones_min = min_by (ltb (read_ones src m 0 b).value m) refl

abbrev Limited : List ℕ → Bio → ℕ → ℕ → Type 0
Limited src b limit bound =
    ((read_ones src limit 0 b).value < most_ones → read_ones src limit 0 b ≡ read_ones src bound 0 b)
    × ((read_ones src limit 0 b).value ≡ min (read_ones src bound 0 b).value most_ones)

limited_by : (src : List ℕ) (b : Bio) (bound : ℕ) (t : Bool) → leb bound most_ones ≡ t → Limited src b (min most_ones bound) bound
limited_by src b bound true e =
    let l = leb-true bound most_ones e in
    let m : min most_ones bound ≡ bound = omega arith in
    let r = ones_between src bound 0 b in
    subst (λ (z : ℕ). Limited src b z bound) (sym m) ((λ _. refl), omega arith)
limited_by src b bound false e =
    let l = leb-false bound most_ones e in
    let m : min most_ones bound ≡ most_ones = omega arith in
    let s : most_ones + (bound - most_ones) ≡ bound = omega arith in
    subst (λ (z : ℕ). Limited src b z bound) (sym m)
    (subst (λ (z : ℕ). Limited src b most_ones z) s
    ((λ h. sym (ones_more src most_ones (bound - most_ones) 0 b h)), ones_min src most_ones (bound - most_ones) b))

-- a run below the limit is `read_comma`'s, with the bits' place
pub comma_below : (src : List ℕ) (b : Bio) → (read_comma_limited src b).value < most_ones → read_comma_limited src b ≡ read_comma src b
unfolding read_comma_limited ones_limit read_comma
comma_below src b h = (limited_by src b (8 * length src + 8) (leb (8 * length src + 8) most_ones) refl).0 h

-- and in any case the count is `read_comma`'s or the limit
pub comma_value : (src : List ℕ) (b : Bio) → (read_comma_limited src b).value ≡ min (read_comma src b).value most_ones
unfolding read_comma_limited ones_limit read_comma
comma_value src b = (limited_by src b (8 * length src + 8) (leb (8 * length src + 8) most_ones) refl).1
