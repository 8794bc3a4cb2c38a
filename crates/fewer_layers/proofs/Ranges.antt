-- A state that m layers do not refuse, its next layer below m, is not refused by n layers with n for m in its inclusion trees.
use mathlib.Core.Path.{◌≡◌, refl, sym, ◌∙◌}
use mathlib.Core.Logic.{inl, inr}
use mathlib.Core.Bool.{Bool, true, not, ◌&&◌}
use mathlib.Core.List.{List, [], ◌∷◌}
use Prim.Native.Nat.{ℕ, ◌+◌, ◌*◌, ◌≤◌, ◌<◌}
use native.Mathlib.Nat.{le_refl}
use native.Mathlib.Omega.{arith}
use lib.ListN.{length, get_or}
use lib.Dec.{leb, eqb}
use borrow.Author.Tests.{leb-true, le-leb}
use Rattle.t800.specs.declared.Band.{Band}
use Rattle.t800.specs.Base.{every}
use Rattle.t800.specs.State.{not_yet_planes, writer, role, band_count, style, layer, bands, band_nodes, blocks_in, band_length, state_length}
use Rattle.t800.specs.Ranges.{bad_shape, bad_style, band_too_deep, unused_bands_zero, node_in_range, block_in_range, band_in_range_with}
use Rattle.t800.specs.Ranges.{bands_in_range_with, valid_state_with}
use Rattle.t800_laws.proofs.Laws.Tests.{and_left, and_right}
use Rattle.t800_laws.proofs.Laws.Layout.{Tree, inclusion, zero_planes, NodeFrom, BlockFrom}
use Rattle.t800_laws.proofs.Laws.FirstWords.{same_bands}
use Rattle.t800_laws.proofs.Laws.StateAfter.{every-stays}
use Rattle.fewer_layers.proofs.Replaced.{replaced_words, replaced_word, on_word, replaced-get, replaced-length, value_at, stays_get}
use Rattle.fewer_layers.proofs.Replaced.{first-same, second_stays, third_stays, planes_stay, block_stays}

module _ (m n : ℕ) (more : m ≤ n) (ws : List ℕ) (below : layer ws < m) where
  abbrev bs : List Band
  bs = bands ws

  abbrev vs : List ℕ
  vs = replaced_words m n bs ws

  inclusion_in : (a : ℕ) → NodeFrom inclusion 13 bs a → node_in_range ws m a ≡ true → node_in_range vs n a ≡ true
  unfolding node_in_range
  inclusion_in a v e =
      let value' : Bool = leb (get_or ws a 0) m in
      let low' : Bool = leb (get_or ws (a + 1) 0) m in
      let known' : Bool = leb (get_or ws (a + 2) 0) 1 in
      let vl = and_left (value' && low') known' e in
      let value-up_to = leb-true (get_or ws a 0) m (and_left value' low' vl) in
      let low-up_to = leb-true (get_or ws (a + 1) 0) m (and_right value' low' vl) in
      let up : replaced_word m n (value_at bs a) (get_or ws a 0) ≤ n =
      on_word m n (value_at bs a) (get_or ws a 0) (λ w. w ≤ n) (omega arith) (λ t q. le_refl n) in
      rw (
        replaced-get m n bs ws a (λ t. omega arith),
        stays_get m n bs ws (a + 1) (second_stays bs inclusion a v),
        stays_get m n bs ws (a + 2) (third_stays bs inclusion a v),
        le-leb _ n up,
        le-leb (get_or ws (a + 1) 0) n (omega arith),
        and_right (value' && low') known' e,
      )

  planes_in : (a : ℕ) → NodeFrom zero_planes 13 bs a → node_in_range vs not_yet_planes a ≡ node_in_range ws not_yet_planes a
  unfolding node_in_range
  planes_in a v =
      rw (
        stays_get m n bs ws a (planes_stay bs a v),
        stays_get m n bs ws (a + 1) (second_stays bs zero_planes a v),
        stays_get m n bs ws (a + 2) (third_stays bs zero_planes a v),
      )

  block_in : (p : ℕ) → BlockFrom 13 bs p → block_in_range vs p ≡ block_in_range ws p
  unfolding block_in_range writer
  block_in p v =
      let e : p + 0 ≡ p = omega arith in
      let passes : get_or vs p 0 ≡ get_or ws p 0 = stays_get m n bs ws p (rw e at (block_stays bs p 0 v (omega arith))) in
      rw (
        first-same m n bs ws 0 (omega arith),
        first-same m n bs ws 2 (omega arith),
        first-same m n bs ws 3 (omega arith),
        passes,
        stays_get m n bs ws (p + 1) (block_stays bs p 1 v (omega arith)),
        stays_get m n bs ws (p + 2) (block_stays bs p 2 v (omega arith)),
        stays_get m n bs ws (p + 3) (block_stays bs p 3 v (omega arith)),
      )

  -- the bands from `at` on
  bands-in : (at : ℕ) (rest : List Band) → ((t : Tree) (a : ℕ) → NodeFrom t at rest a → NodeFrom t 13 bs a)
      → ((p : ℕ) → BlockFrom at rest p → BlockFrom 13 bs p) → bands_in_range_with m ws at rest ≡ true
      → bands_in_range_with n vs at rest ≡ true
  unfolding bands_in_range_with band_in_range_with
  bands-in at [] node block e = refl
  bands-in at (b ∷ rest) node block e =
      let c : ℕ = band_nodes b in
      let incl : Bool = every c (λ i. node_in_range ws m (at + 3 * i)) in
      let planes : Bool = every c (λ i. node_in_range ws not_yet_planes (at + 3 * c + 3 * i)) in
      let own : Bool = every (blocks_in b) (λ i. block_in_range ws (at + 6 * c + 4 * i)) in
      let later : Bool = bands_in_range_with m ws (at + band_length b) rest in
      let e₁ = and_left (incl && planes && own) later e in
      let e₂ = and_left (incl && planes) own e₁ in
      rw (
        every-stays c _ (λ i. node_in_range vs n (at + 3 * i))
            (λ i h. inclusion_in (at + 3 * i) (node inclusion (at + 3 * i) (inl (i, h, refl)))) (and_left incl planes e₂),
        every-stays c _ (λ i. node_in_range vs not_yet_planes (at + 3 * c + 3 * i))
            (λ i h q. planes_in (at + 3 * c + 3 * i) (node zero_planes (at + 3 * c + 3 * i) (inl (i, h, refl))) ∙ q)
            (and_right incl planes e₂),
        every-stays (blocks_in b) _ (λ i. block_in_range vs (at + 6 * c + 4 * i))
            (λ i h q. block_in (at + 6 * c + 4 * i) (block (at + 6 * c + 4 * i) (inl (i, h, refl))) ∙ q)
            (and_right (incl && planes) own e₁),
      )
      (bands-in (at + band_length b) rest (λ t a v. node t a (inr v)) (λ p v. block p (inr v)) (and_right (incl && planes && own) later e))

  pub valid_replaced : (r len : ℕ) → valid_state_with m r ws len ≡ true → valid_state_with n r vs len ≡ true
  unfolding valid_state_with
  valid_replaced r len h =
      let same = same_bands ws vs (λ j l d. first-same m n bs ws j l) in
      let first : Bool = eqb (role ws) r && not (bad_shape (band_count ws) bs) && not (bad_style (style ws)) && leb (layer ws) m
      && not (band_too_deep bs) && unused_bands_zero ws && eqb (length ws) (state_length bs) && eqb len (length ws) in
      let ranges : bands_in_range_with m ws 13 bs ≡ true = and_right first (bands_in_range_with m ws 13 bs) h in
      rw (
        same.0,
        same.1,
        first-same m n bs ws 0 (omega arith),
        first-same m n bs ws 1 (omega arith),
        first-same m n bs ws 2 (omega arith),
        first-same m n bs ws 3 (omega arith),
        replaced-length m n bs ws,
        bands-in 13 bs (λ t a v. v) (λ p v. v) ranges ∙ sym ranges,
        le-leb (layer ws) n (omega arith) ∙ sym (le-leb (layer ws) m (omega arith)),
      )
      h
