-- Which refusal a start gives, and what follows where it gives none.
use mathlib.Core.Path.{◌≡◌, refl, sym, ap, ◌∙◌}
use mathlib.Core.Logic.{◌≢◌}
use mathlib.Core.Bool.{Bool, true, false, cond, not, ◌||◌}
use mathlib.Core.List.{List, [], ◌∷◌}
use Prim.Native.Nat.{ℕ, ◌≤◌}
use native.Mathlib.Omega.{arith}
use lib.ListN.{length, take}
use lib.Dec.{ltb, eqb}
use borrow.Author.Tests.{le-ltb, eq-eqb, ne_eqb}
use Rattle.t800.specs.declared.Band.{Band}
use Rattle.t800.specs.State.{writer, reader, blocks, state_length}
use Rattle.t800.specs.Ranges.{bad_shape, bad_style, band_too_deep, block_too_deep}
use Rattle.t800.specs.Start.{StartResult, fresh_state, set_zero_planes, start_refusal, start, start_with}
use Rattle.t800_laws.proofs.Laws.Tests.{if-true, if-false, on-eq}
use Rattle.t800_laws.proofs.Laws.Lists.{no_planes}
use Rattle.t800_laws.proofs.Laws.FreshState.{fresh_length}
use Rattle.t800_laws.proofs.Laws.Accepted.{StartAccepted, start-accepted}
use Rattle.tcd_laws.specs.Geometry.{AllUpTo64}
use Rattle.tcd_laws.proofs.Laws.Bands.{shape_not_refused}
use Rattle.t2_start_parts.specs.Parts.{answered, begun, planes_wanted}

abbrev pub wrong_list : ℕ → List Band → List ℕ → List ℕ → Bool
wrong_list r bs planes lent = not (eqb (length lent) (state_length bs)) || not (eqb (length planes) (planes_wanted r bs))

abbrev pub too_deep : List Band → List ℕ → Bool
too_deep bs planes = band_too_deep bs || block_too_deep (blocks bs) planes

or-false : (a b : Bool) → a ≡ false → b ≡ false → (a || b) ≡ false
or-false a b p q = rw (p, q)

or-true : (a b : Bool) → a ≡ true → (a || b) ≡ true
or-true a b p = rw p

module _ (r n : ℕ) (given : List Band) (s : ℕ) (planes lent : List ℕ) where
  -- ---- the checks in order

  pub gives_1 : bad_shape n (take n given) ≡ true → start_refusal r n given s planes lent ≡ 1
  unfolding start_refusal
  gives_1 e = if-true _ 1 _ (or-true (bad_shape n (take n given)) (ltb (length given) n) e)

  module _ (three : length given ≡ 3) (shape : bad_shape n (take n given) ≡ false) where
    shaped : (bad_shape n (take n given) || ltb (length given) n) ≡ false
    shaped = or-false (bad_shape n (take n given)) (ltb (length given) n) shape
        (le-ltb (length given) n (omega (arith, (shape_not_refused n given shape).1)))

    pub gives_2 : bad_style s ≡ true → start_refusal r n given s planes lent ≡ 2
    unfolding start_refusal
    gives_2 e = if-false _ 1 _ shaped ∙ if-true _ 2 _ e

    module _ (style : bad_style s ≡ false) where
      pub gives_3 : wrong_list r (take n given) planes lent ≡ true → start_refusal r n given s planes lent ≡ 3
      unfolding start_refusal planes_wanted
      gives_3 e = if-false _ 1 _ shaped ∙ if-false _ 2 _ style ∙ if-true _ 3 _ e

      pub gives_4 : wrong_list r (take n given) planes lent ≡ false → too_deep (take n given) planes ≡ true
          → start_refusal r n given s planes lent ≡ 4
      unfolding start_refusal planes_wanted
      gives_4 e d = if-false _ 1 _ shaped ∙ if-false _ 2 _ style ∙ if-false _ 3 _ e ∙ if-true _ 4 _ d

      pub gives_none : wrong_list r (take n given) planes lent ≡ false → too_deep (take n given) planes ≡ false
          → start_refusal r n given s planes lent ≡ 0
      unfolding start_refusal planes_wanted
      gives_none e d = if-false _ 1 _ shaped ∙ if-false _ 2 _ style ∙ if-false _ 3 _ e ∙ if-false _ 4 _ d

  -- ---- no refusal

  pub accepted : start_refusal r n given s planes lent ≡ 0 → StartAccepted r n given s planes lent
  unfolding start_with
  accepted e = start-accepted r n given s planes lent e

  -- a state that can be filled
  pub room : start_refusal r n given s planes lent ≡ 0 → (n ≤ 3) × AllUpTo64 (take n given) × (length lent ≡ state_length (take n given))
  room e =
      let A = accepted e in
      let h = shape_not_refused n given A.shape in
      (h.1, h.2, A.lent_length)

  pub begun-refused : (why : ℕ) → why ≡ start_refusal r n given s planes lent → why ≢ 0 → answered why lent ≡ begun r n given s planes lent
  unfolding begun
  begun-refused why e h =
      let q : lent ≡ cond (eqb (start_refusal r n given s planes lent) 0) (fresh_state r s (take n given)) lent =
      sym (if-false _ _ _ (ne_eqb _ 0 (λ z. h (e ∙ z)))) in
      λ i. record { answer = e i; state = q i }

  pub begun_fresh : (ws : List ℕ) → start_refusal r n given s planes lent ≡ 0 → ws ≡ fresh_state r s (take n given) → answered 0 ws
      ≡ begun r n given s planes lent
  unfolding begun
  begun_fresh ws e f =
      let q : ws ≡ cond (eqb (start_refusal r n given s planes lent) 0) (fresh_state r s (take n given)) lent = f
      ∙ sym (if-true _ _ _ (eq-eqb _ 0 e)) in
      let a = sym e in
      λ i. record { answer = a i; state = q i }

  -- ---- from there to the whole

  answer_is : (begun r n given s planes lent).answer ≡ start_refusal r n given s planes lent
  unfolding begun
  answer_is = refl

  pub begun-answer : (why : ℕ) (ws : List ℕ) → answered why ws ≡ begun r n given s planes lent → why ≡ start_refusal r n given s planes lent
  begun-answer why ws e = ap (λ (z : StartResult). z.answer) e ∙ answer_is

  begun-state : (why : ℕ) (ws : List ℕ) → answered why ws ≡ begun r n given s planes lent → why ≡ 0 → ws ≡ fresh_state r s (take n given)
  unfolding begun
  begun-state why ws e z = ap (λ (k : StartResult). k.state) e
      ∙ if-true _ _ _ (eq-eqb (start_refusal r n given s planes lent) 0 (sym (begun-answer why ws e) ∙ z))

  refused-too : start_refusal r n given s planes lent ≢ 0 → begun r n given s planes lent ≡ start r n given s planes lent
  unfolding begun start_with
  refused-too h =
      let t = ne_eqb (start_refusal r n given s planes lent) 0 h in
      let q : (begun r n given s planes lent).state ≡ (start r n given s planes lent).state = if-false _ _ _ t ∙ sym (if-false _ _ _ t) in
      λ i. record { answer = start_refusal r n given s planes lent; state = q i }

  pub start-refused : (why : ℕ) (ws : List ℕ) → answered why ws ≡ begun r n given s planes lent → why ≢ 0 → answered why ws
      ≡ start r n given s planes lent
  start-refused why ws e h = e ∙ refused-too (λ z. h (begun-answer why ws e ∙ z))

  pub start-set : (why : ℕ) (ws vs : List ℕ) → answered why ws ≡ begun r n given s planes lent → why ≡ 0
      → vs ≡ set_zero_planes (blocks (take n given)) planes ws → answered 0 vs ≡ start r n given s planes lent
  unfolding start_with
  start-set why ws vs e z f =
      let a : 0 ≡ start_refusal r n given s planes lent = sym z ∙ begun-answer why ws e in
      let q : vs ≡ (start r n given s planes lent).state = f
      ∙ ap (λ (l : List ℕ). set_zero_planes (blocks (take n given)) planes l) (begun-state why ws e z)
      ∙ sym (if-true _ _ _ (eq-eqb (start_refusal r n given s planes lent) 0 (sym a))) in
      λ i. record { answer = a i; state = q i }

-- what a writer's zero planes are set in
pub writer-begun : (n : ℕ) (given : List Band) (s : ℕ) (planes lent : List ℕ) (why : ℕ) (ws : List ℕ)
    → answered why ws ≡ begun writer n given s planes lent → why ≡ 0
    → (n ≤ 3) × AllUpTo64 (take n given) × (length ws ≡ state_length (take n given))
    × (length planes ≡ length (blocks (take n given))) × (block_too_deep (blocks (take n given)) planes ≡ false)
unfolding writer state_length
writer-begun n given s planes lent why ws e z =
    let A = accepted writer n given s planes lent (sym (begun-answer writer n given s planes lent why ws e) ∙ z) in
    let h = shape_not_refused n given A.shape in (
      h.1,
      h.2,
      ap length (begun-state writer n given s planes lent why ws e z)
          ∙ fresh_length writer s (take n given),
      A.planes_length,
      A.blocks-in,
    )

-- a reader's zero planes stay as they are
pub reader-begun : (n : ℕ) (given : List Band) (s : ℕ) (planes lent : List ℕ) → begun reader n given s planes lent
    ≡ start reader n given s planes lent
unfolding reader writer
reader-begun n given s planes lent =
    on-eq (start_refusal reader n given s planes lent) 0
    (λ e. let A = accepted reader n given s planes lent e in
    let f = begun_fresh reader n given s planes lent (fresh_state reader s (take n given)) e refl in
    sym f ∙ start-set reader n given s planes lent 0 (fresh_state reader s (take n given)) (fresh_state reader s (take n given)) f
    refl (none planes A.planes_length))
    (λ h. refused-too reader n given s planes lent h)
  where
    none : (ps : List ℕ) → length ps ≡ 0 → fresh_state reader s (take n given)
        ≡ set_zero_planes (blocks (take n given)) ps (fresh_state reader s (take n given))
    none [] l = sym (no_planes (blocks (take n given)) (fresh_state reader s (take n given)))
    none (p ∷ ps) l = absurd (omega arith)
