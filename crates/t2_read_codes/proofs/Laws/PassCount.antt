-- `read_passes` by the bits that were read, one after another; and what it keeps.
use mathlib.Core.Path.{◌≡◌, sym, ap, ◌∙◌}
use mathlib.Core.Bool.{Bool, true, false, cond}
use mathlib.Core.List.{List}
use Prim.Native.Nat.{ℕ, ◌+◌, ◌≤◌, ◌<◌}
use lib.Dec.{eqb, leb}
use lib.ListN.{length}
use borrow.Author.Tests.{eq-eqb, ne_eqb, le-leb, lt-leb}
use Rattle.t800.specs.declared.Bio.{Bio}
use Rattle.t800.specs.Bits.{reach, Decoded, get_bit, read_bits}
use Rattle.t800.specs.PassCount.{plus, read_passes}
use Rattle.bio_read.proofs.Laws.ReadChunks.{get_bit-ct, read_bits-ct, get_bit-place, read_bits-place}
use Rattle.t2_read_codes.specs.PassCount.{read_from3}

abbrev pub passes : ℕ → Bio → Decoded
passes n b = record { value = n; bio = b }

-- ---- as the code reads: each from where the one before ended

pub ct_kept : (r d : Decoded) → r ≡ d → d.bio.ct ≤ 8 → r.bio.ct ≤ 8
ct_kept r d e h = rw e h

module _ (src : List ℕ) (b : Bio) (first : Decoded) (e1 : first ≡ get_bit src b) where
  pub passes_1 : first.value ≡ 0 → passes 1 first.bio ≡ read_passes src b
  unfolding read_passes
  passes_1 z = ap (λ (d : Decoded). passes 1 d.bio) e1 ∙ simp (eq-eqb _ _ (sym (ap (λ (d : Decoded). d.value) e1) ∙ z))

  module _ (one1 : first.value ≡ 0 → ⊥) (second : Decoded) (e2 : second ≡ get_bit src first.bio) where
    test1 : eqb (get_bit src b).value 0 ≡ false
    test1 = ne_eqb _ _ (λ q. one1 (ap (λ (d : Decoded). d.value) e1 ∙ q))

    is2 : second ≡ get_bit src (get_bit src b).bio
    is2 = e2 ∙ ap (λ (d : Decoded). get_bit src d.bio) e1

    pub passes_2 : second.value ≡ 0 → passes 2 second.bio ≡ read_passes src b
    unfolding read_passes
    passes_2 z = ap (λ (d : Decoded). passes 2 d.bio) is2 ∙ simp (test1, eq-eqb _ _ (sym (ap (λ (d : Decoded). d.value) is2) ∙ z))

    pub passes_more : (second.value ≡ 0 → ⊥) → read_from3 src second.bio ≡ read_passes src b
    unfolding read_passes read_from3
    passes_more one2 = ap (λ (d : Decoded). read_from3 src d.bio) is2
        ∙ simp (test1, ne_eqb _ _ (λ q. one2 (ap (λ (d : Decoded). d.value) is2 ∙ q)))

module _ (src : List ℕ) (b : Bio) (two : Decoded) (e1 : two ≡ read_bits src 2 b) where
  pub from_3 : two.value ≤ 2 → plus 3 two ≡ read_from3 src b
  unfolding read_from3
  from_3 l = ap (plus 3) e1 ∙ simp (sym (ap (λ (d : Decoded). leb d.value 2) e1) ∙ le-leb _ _ l)

  module _ (ones2 : 2 < two.value) (five : Decoded) (e2 : five ≡ read_bits src 5 two.bio) where
    test2 : leb (read_bits src 2 b).value 2 ≡ false
    test2 = sym (ap (λ (d : Decoded). leb d.value 2) e1) ∙ lt-leb _ _ ones2

    is5 : five ≡ read_bits src 5 (read_bits src 2 b).bio
    is5 = e2 ∙ ap (λ (d : Decoded). read_bits src 5 d.bio) e1

    pub from_6 : five.value ≤ 30 → plus 6 five ≡ read_from3 src b
    unfolding read_from3
    from_6 l = ap (plus 6) is5 ∙ simp (test2, sym (ap (λ (d : Decoded). leb d.value 30) is5) ∙ le-leb _ _ l)

    module _ (ones5 : 30 < five.value) (seven : Decoded) (e3 : seven ≡ read_bits src 7 five.bio) where
      pub from_37 : plus 37 seven ≡ read_from3 src b
      unfolding read_from3
      from_37 =
          ap (plus 37) (e3 ∙ ap (λ (d : Decoded). read_bits src 7 d.bio) is5)
          ∙ simp (test2, sym (ap (λ (d : Decoded). leb d.value 30) is5) ∙ lt-leb _ _ ones5)

-- ---- what it keeps

module _ (P : Decoded → Type 0) where
  either : (t : Bool) (x y : Decoded) → P x → P y → P (cond t x y)
  either true x y p q = p
  either false x y p q = q

  from3_each : (src : List ℕ) (b : Bio) → let two = read_bits src 2 b in let five = read_bits src 5 two.bio in
      P (plus 3 two) → P (plus 6 five) → P (plus 37 (read_bits src 7 five.bio)) → P (read_from3 src b)
  unfolding read_from3
  from3_each src b p3 p6 p37 =
      let two = read_bits src 2 b in
      let five = read_bits src 5 two.bio in
      let seven = read_bits src 7 five.bio in
      either (leb two.value 2) (plus 3 two) _ p3 (either (leb five.value 30) (plus 6 five) (plus 37 seven) p6 p37)

  passes_each : (src : List ℕ) (b : Bio) → let first = get_bit src b in let second = get_bit src first.bio in
      P (passes 1 first.bio) → P (passes 2 second.bio) → P (read_from3 src second.bio) → P (read_passes src b)
  unfolding read_passes read_from3
  passes_each src b p1 p2 p3 =
      let first = get_bit src b in
      let second = get_bit src first.bio in
      either (eqb first.value 0) (passes 1 first.bio) _ p1
      (either (eqb second.value 0) (passes 2 second.bio) (read_from3 src second.bio) p2 p3)

module _ (src : List ℕ) (b : Bio) where
  from3_ct : b.ct ≤ 8 → (read_from3 src b).bio.ct ≤ 8
  from3_ct h =
      let h2 = read_bits-ct src 2 b h in
      let h5 = read_bits-ct src 5 _ h2 in
      from3_each (λ d. d.bio.ct ≤ 8) src b h2 h5 (read_bits-ct src 7 _ h5)

  from3_place : b.bp ≤ length src + reach → (read_from3 src b).bio.bp ≤ length src + reach
  from3_place h =
      let h2 = read_bits-place src 2 b h in
      let h5 = read_bits-place src 5 _ h2 in
      from3_each (λ d. d.bio.bp ≤ length src + reach) src b h2 h5 (read_bits-place src 7 _ h5)

module _ (src : List ℕ) (b : Bio) where
  pub passes_ct : b.ct ≤ 8 → (read_passes src b).bio.ct ≤ 8
  passes_ct h =
      let h1 = get_bit-ct src b h in
      let h2 = get_bit-ct src _ h1 in
      passes_each (λ d. d.bio.ct ≤ 8) src b h1 h2 (from3_ct src _ h2)

  pub passes_place : b.bp ≤ length src + reach → (read_passes src b).bio.bp ≤ length src + reach
  passes_place h =
      let h1 = get_bit-place src b h in
      let h2 = get_bit-place src _ h1 in
      passes_each (λ d. d.bio.bp ≤ length src + reach) src b h1 h2 (from3_place src _ h2)
