-- A fresh state of n layers is that of m layers with n for m in its inclusion trees, and so is the state that a start fills.
use mathlib.Core.Path.{◌≡◌, refl, sym, ap, ap₂, ◌∙◌}
use mathlib.Core.Bool.{false, or-false}
use mathlib.Core.List.{List, [], ◌∷◌, ◌++◌}
use Prim.Native.Nat.{ℕ, zero, suc, ◌+◌, ◌-◌, ◌*◌, ◌%◌, ◌≤◌, ◌<◌}
use native.Mathlib.Omega.{arith}
use lib.ListN.{length, take, length-append}
use lib.Dec.{eqb}
use borrow.Author.Tests.{eqb-true, eq-eqb, ne_eqb, lt-ltb, le-ltb, le-leb}
use Rattle.t800.specs.declared.Band.{Band}
use Rattle.t800.specs.State.{Block, not_yet_included, not_yet_planes, band_nodes, blocks_in, band_length, blocks, bands}
use Rattle.t800.specs.TagTree.{set_value}
use Rattle.t800.specs.Start.{fresh_nodes, fresh_blocks, fresh_bands_with, band_words, fresh_state, fresh_state_with, set_zero_planes}
use Rattle.t800.specs.Start.{start_refusal, start_with}
use Rattle.t800.specs.FewerLayers.{is_inclusion_value, replaced_from, replaced, StartsAlike}
use Rattle.t800_laws.proofs.Laws.Checks.{on_bool}
use Rattle.t800_laws.proofs.Laws.Layout.{inclusion, zero_planes, layout_of, AllPlaced, blocks-placed, AllFrom, node_between, band_length_lem}
use Rattle.t800_laws.proofs.Laws.Kept.{Kept, kept, kept_then, leaf_set, blocks-from, bands-kept}
use Rattle.t800_laws.proofs.Laws.FreshState.{length-nodes, length-blocks, fresh_first_words}
use Rattle.t800_laws.proofs.Laws.Accepted.{start-accepted, few_bands}
use Rattle.fewer_layers.proofs.Replaced.{replaced_words, replaced_word, value_at, Stays, value-is_node, first_stays}
use Rattle.fewer_layers.proofs.Replaced.{bands-same, replaced-as}
use Rattle.fewer_layers.proofs.Trees.{leaf_replaced}
use Rattle.fewer_layers.proofs.Headers.{planes_path}

-- ---- where the inclusion trees' values stand, in bands from `at` on

before_no_value : (at : ℕ) (bs : List Band) (i : ℕ) → i < at → is_inclusion_value at bs i ≡ false
before_no_value at bs i h =
    on_bool (is_inclusion_value at bs i)
    (λ t. let l = (node_between inclusion at bs i (value-is_node at bs i t)).0 in absurd (omega arith))
    (λ f. f)

module _ (at : ℕ) (b : Band) (bs : List Band) (i : ℕ) where
  -- in the first band's inclusion tree, and after it
  value-here : at ≤ i → i < at + 3 * band_nodes b → is_inclusion_value at (b ∷ bs) i ≡ eqb ((i - at) % 3) 0
  unfolding is_inclusion_value
  value-here h l =
      let e = band_length_lem b in
      rw (le-leb at i h, lt-ltb i (at + 3 * band_nodes b) l, before_no_value (at + band_length b) bs i (omega arith))
      (or-false (eqb ((i - at) % 3) 0))

  value-later : at + 3 * band_nodes b ≤ i → is_inclusion_value at (b ∷ bs) i ≡ is_inclusion_value (at + band_length b) bs i
  unfolding is_inclusion_value
  value-later h = rw (le-leb at i (omega arith), le-ltb i (at + 3 * band_nodes b) h)

-- ---- the words of a fresh state

module _ (m n : ℕ) (bs : List Band) where
  append-from : (p : ℕ) (xs ys : List ℕ) → replaced_from m n bs p (xs ++ ys)
      ≡ replaced_from m n bs p xs ++ replaced_from m n bs (p + length xs) ys
  unfolding replaced_from
  append-from p [] ys = let e : p ≡ p + 0 = omega arith in ap (λ (z : ℕ). replaced_from m n bs z ys) e
  append-from p (x ∷ xs) ys =
      let e : p + 1 + length xs ≡ p + suc (length xs) = omega arith in
      let rest : List ℕ = replaced_from m n bs (p + 1) xs in
      ap (λ (z : List ℕ). replaced_word m n (value_at bs p) x ∷ z)
      (append-from (p + 1) xs ys ∙ ap (λ (z : ℕ). rest ++ replaced_from m n bs z ys) e)

  -- words that stay
  stay_from : (p : ℕ) (xs : List ℕ) → ((i : ℕ) → p ≤ i → i < p + length xs → Stays bs i) → replaced_from m n bs p xs ≡ xs
  unfolding replaced_from
  stay_from p [] f = refl
  stay_from p (x ∷ xs) f =
      rw (f p (omega arith) (omega arith), stay_from (p + 1) xs (λ i h l. f i (omega arith) (omega arith)))

  -- the nodes of an inclusion tree
  nodes-from : (p c : ℕ) → ((i : ℕ) → p ≤ i → i < p + 3 * c → value_at bs i ≡ eqb ((i - p) % 3) 0)
      → replaced_from m n bs p (fresh_nodes m c) ≡ fresh_nodes n c
  unfolding replaced_from fresh_nodes
  nodes-from p zero f = refl
  nodes-from p (suc c) f =
      let next : (i : ℕ) → p + 1 + 1 + 1 ≤ i → i < p + 1 + 1 + 1 + 3 * c → value_at bs i ≡ eqb ((i - (p + 1 + 1 + 1)) % 3) 0 =
      λ i h l. let e : (i - p) % 3 ≡ (i - (p + 1 + 1 + 1)) % 3 = omega arith in
      f i (omega arith) (omega arith) ∙ ap (λ (z : ℕ). eqb z 0) e in
      rw (
        f p (omega arith) (omega arith) ∙ eq-eqb ((p - p) % 3) 0 (omega arith),
        f (p + 1) (omega arith) (omega arith) ∙ ne_eqb ((p + 1 - p) % 3) 0 (omega arith),
        f (p + 1 + 1) (omega arith) (omega arith) ∙ ne_eqb ((p + 1 + 1 - p) % 3) 0 (omega arith),
        eq-eqb m m refl,
        nodes-from (p + 1 + 1 + 1) c next,
      )

  -- the bands from `at` on
  bands-from : (at : ℕ) (rest : List Band) → ((i : ℕ) → at ≤ i → value_at bs i ≡ is_inclusion_value at rest i)
      → replaced_from m n bs at (fresh_bands_with m rest) ≡ fresh_bands_with n rest
  unfolding replaced_from fresh_bands_with
  bands-from at [] same = refl
  bands-from at (b ∷ rest) same =
      let c : ℕ = band_nodes b in
      let incl : List ℕ = fresh_nodes m c in
      let planes : List ℕ = fresh_nodes not_yet_planes c in
      let own : List ℕ = fresh_blocks (blocks_in b) in
      let later : List ℕ = fresh_bands_with m rest in
      let li : length incl ≡ 3 * c = length-nodes m c in
      let lp : length planes ≡ 3 * c = length-nodes not_yet_planes c in
      let lo : length own ≡ 4 * blocks_in b = length-blocks (blocks_in b) in
      let ltwo : length (incl ++ planes) ≡ 6 * c = length-append incl planes ∙ omega arith in
      let lall : length (incl ++ planes ++ own) ≡ band_length b = length-append (incl ++ planes) own ∙ omega (arith, band_length_lem b) in
      let bl = band_length_lem b in
      let past : (i : ℕ) → at + 3 * c ≤ i → i < at + band_length b → Stays bs i =
      λ i h l. same i (omega arith) ∙ value-later at b rest i h ∙ before_no_value (at + band_length b) rest i l in
      let e : at + length (incl ++ planes ++ own) ≡ at + band_length b = omega arith in
      let join : List ℕ → List ℕ → List ℕ = λ xs ys. xs ++ ys in
      append-from at (incl ++ planes ++ own) later
      ∙ ap₂ join
      (append-from at (incl ++ planes) own
      ∙ ap₂ join
      (append-from at incl planes
      ∙ ap₂ join
      (nodes-from at c (λ i h l. same i h ∙ value-here at b rest i h l))
      (stay_from (at + length incl) planes (λ i h l. past i (omega arith) (omega arith))))
      (stay_from (at + length (incl ++ planes)) own (λ i h l. past i (omega arith) (omega arith))))
      (ap (λ (z : ℕ). replaced_from m n bs z later) e
      ∙ bands-from (at + band_length b) rest (λ i h. same i (omega arith) ∙ value-later at b rest i (omega arith)))

first_thirteen : (r s : ℕ) (bs : List Band) → length (r ∷ length bs ∷ s ∷ 0 ∷ band_words bs 3) ≡ 13
unfolding band_words
first_thirteen r s [] = refl
first_thirteen r s (a ∷ []) = refl
first_thirteen r s (a ∷ b ∷ []) = refl
first_thirteen r s (a ∷ b ∷ c ∷ bs) = refl

module _ (r s : ℕ) (bs : List Band) where
  fresh_replaced : (m n : ℕ) → fresh_state_with n r s bs ≡ replaced_words m n bs (fresh_state_with m r s bs)
  unfolding fresh_state_with
  fresh_replaced m n =
      let first : List ℕ = r ∷ length bs ∷ s ∷ 0 ∷ band_words bs 3 in
      let l : length first ≡ 13 = first_thirteen r s bs in
      let e : 0 + length first ≡ 13 = omega arith in
      let join : List ℕ → List ℕ → List ℕ = λ xs ys. xs ++ ys in
      sym (append-from m n bs 0 first (fresh_bands_with m bs)
      ∙ ap₂ join (stay_from m n bs 0 first (λ i h g. first_stays bs i (omega arith)))
      (ap (λ (z : ℕ). replaced_from m n bs z (fresh_bands_with m bs)) e ∙ bands-from m n bs 13 bs (λ i h. refl)))

  -- as with all layers, for which it is known
  fresh_bands_lem : (m : ℕ) → length bs ≤ 3 → bands (fresh_state_with m r s bs) ≡ bs
  fresh_bands_lem m l =
      ap bands (fresh_replaced not_yet_included m) ∙ bands-same not_yet_included m bs (fresh_state r s bs)
      ∙ (fresh_first_words r s bs l).bands-are

-- ---- a start

-- no leaf of a zero-plane tree stands among the first words
planes_kept : (ks : List Block) (ps ws : List ℕ) → AllFrom 13 ks → Kept 13 ws (set_zero_planes ks ps ws)
unfolding set_zero_planes
planes_kept [] ps ws f = kept 13
planes_kept (k ∷ ks) [] ws f = kept 13
planes_kept (k ∷ ks) (p ∷ ps) ws f =
    kept_then 13 (leaf_set 13 k.zero_tree k.path (k.planes - p) ws (f.0.path zero_planes)) (planes_kept ks ps _ f.1)

module _ (m n : ℕ) (more : m ≤ n) where
  planes_set : (bs : List Band) (ks : List Block) (ps ws : List ℕ) → AllPlaced (layout_of bs) ks
      → set_zero_planes ks ps (replaced_words m n bs ws) ≡ replaced_words m n bs (set_zero_planes ks ps ws)
  unfolding set_zero_planes
  planes_set bs [] ps ws P = refl
  planes_set bs (k ∷ ks) [] ws P = refl
  planes_set bs (k ∷ ks) (p ∷ ps) ws P =
      let z : ℕ = k.planes - p in
      ap (set_zero_planes ks ps) (leaf_replaced m n more bs k.zero_tree k.path z ws (planes_path m bs k P.0.0 (z + 1)))
      ∙ planes_set bs ks ps (set_value k.zero_tree k.path z ws) P.1

  filled-alike : (r s : ℕ) (bs : List Band) (ps : List ℕ) → length bs ≤ 3
      → set_zero_planes (blocks bs) ps (fresh_state_with n r s bs) ≡ replaced m n (set_zero_planes (blocks bs) ps (fresh_state_with m r s bs))
  filled-alike r s bs ps l =
      let ks : List Block = blocks bs in
      let fresh : List ℕ = fresh_state_with m r s bs in
      ap (set_zero_planes ks ps) (fresh_replaced r s bs m n) ∙ planes_set bs ks ps fresh (blocks-placed bs)
      ∙ sym (replaced-as m n bs (set_zero_planes ks ps fresh)
      (bands-kept (planes_kept ks ps fresh (blocks-from bs)) ∙ fresh_bands_lem r s bs m l))

  pub starts_alike : StartsAlike m n
  unfolding StartsAlike start_with
  starts_alike role count given style planes lent =
      let bs : List Band = take count given in
      let why : ℕ = start_refusal role count given style planes lent in
      on_bool (eqb why 0)
      (λ t. let a = start-accepted role count given style planes lent (eqb-true why 0 t) in
      rw t (ap (λ (z : List ℕ). record { answer = why; state = z }) (filled-alike role style bs planes (few_bands count given a.shape))))
      (λ f. rw f)
