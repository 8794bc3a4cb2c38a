-- What a fresh state holds: in each node its tree's "not yet" and two zeros, in each block four zeros, and before them role, bands
-- and style.
use mathlib.Core.Path.{◌≡◌, refl, sym, ap, ap₂, ◌∙◌}
use mathlib.Core.Logic.{inl, inr}
use mathlib.Core.List.{List, [], ◌∷◌, ◌++◌, append_assoc}
use Prim.Native.Nat.{ℕ, zero, suc, ◌+◌, ◌*◌, ◌≤◌, ◌<◌}
use native.Mathlib.Omega.{arith}
use lib.ListN.{length, get_or, drop, length-append}
use lib.Seq.{drop-append_seam, drop-drop, get_or-append-add, get_or-drop}
use Rattle.t800.specs.declared.Band.{Band}
use Rattle.t800.specs.Base.{every}
use Rattle.t800.specs.TagTree.{value, low, known}
use Rattle.t800.specs.State.{not_yet_included, not_yet_planes, band_nodes, blocks_in, band_length, end_of, bands, band_at}
use Rattle.t800.specs.Ranges.{unused_bands_zero}
use Rattle.t800.specs.Start.{fresh_nodes, fresh_blocks, fresh_bands, fresh_bands_with, band_words, fresh_state, fresh_state_with}
use Rattle.t800_laws.proofs.Laws.Layout.{Tree, inclusion, zero_planes, not_yet, NodeFrom, BlockFrom, tree_from, band_length_lem}
use Rattle.t800_laws.proofs.Laws.FirstWords.{FirstWords}

-- ---- lengths

pub length-nodes : (v n : ℕ) → length (fresh_nodes v n) ≡ 3 * n
unfolding fresh_nodes
length-nodes v zero = refl
length-nodes v (suc n) = let i = length-nodes v n in omega arith

pub length-blocks : (n : ℕ) → length (fresh_blocks n) ≡ 4 * n
unfolding fresh_blocks
length-blocks zero = refl
length-blocks (suc n) = let i = length-blocks n in omega arith

length-words : (bs : List Band) (n : ℕ) → length (band_words bs n) ≡ 3 * n
unfolding band_words
length-words bs zero = refl
length-words [] (suc n) = let i = length-words [] n in omega arith
length-words (b ∷ bs) (suc n) = let i = length-words bs n in omega arith

-- one band's words
abbrev band_own : Band → List ℕ
band_own b = fresh_nodes not_yet_included (band_nodes b) ++ fresh_nodes not_yet_planes (band_nodes b) ++ fresh_blocks (blocks_in b)

length-own : (b : Band) → length (band_own b) ≡ band_length b
length-own b =
    let n : ℕ = band_nodes b in
    length-append (fresh_nodes not_yet_included n ++ fresh_nodes not_yet_planes n) (fresh_blocks (blocks_in b))
    ∙ ap₂ (λ (x y : ℕ). x + y)
    (length-append (fresh_nodes not_yet_included n) (fresh_nodes not_yet_planes n)
    ∙ ap₂ (λ (x y : ℕ). x + y) (length-nodes not_yet_included n) (length-nodes not_yet_planes n)) (length-blocks (blocks_in b))
    ∙ (let e : 3 * n + 3 * n + 4 * blocks_in b ≡ band_length b = omega (arith, band_length_lem b) in e)

length-bands : (at : ℕ) (bs : List Band) → at + length (fresh_bands bs) ≡ end_of at bs
unfolding fresh_bands_with end_of
length-bands at [] = omega arith
length-bands at (b ∷ bs) =
    ap (λ (z : ℕ). at + z) (length-append (band_own b) (fresh_bands bs) ∙ ap (λ (z : ℕ). z + length (fresh_bands bs)) (length-own b))
    ∙ (let e : at + (band_length b + length (fresh_bands bs)) ≡ at + band_length b + length (fresh_bands bs) = omega arith in e)
    ∙ length-bands (at + band_length b) bs

pub fresh_length : (r s : ℕ) (bs : List Band) → length (fresh_state r s bs) ≡ end_of 13 bs
unfolding fresh_state_with
fresh_length r s bs =
    let e : length (band_words bs 3 ++ fresh_bands bs) ≡ 9 + length (fresh_bands bs) = length-append (band_words bs 3) (fresh_bands bs)
    ∙ ap (λ (z : ℕ). z + length (fresh_bands bs)) (length-words bs 3) in
    omega (arith, length-bands 13 bs)

-- ---- what stands where

-- node j of n
node_here : (v n j : ℕ) (more : List ℕ) → j < n
    → (get_or (fresh_nodes v n ++ more) (3 * j) 0 ≡ v) × (get_or (fresh_nodes v n ++ more) (3 * j + 1) 0 ≡ 0)
    × (get_or (fresh_nodes v n ++ more) (3 * j + 2) 0 ≡ 0)
unfolding fresh_nodes
node_here v zero j more h = absurd (omega arith)
node_here v (suc n) zero more h = (refl, refl, refl)
node_here v (suc n) (suc j) more h =
    let i = node_here v n j more (omega arith) in
    let l : List ℕ = fresh_nodes v n ++ more in
    let e₀ : 3 * suc j ≡ suc (suc (suc (3 * j))) = omega arith in
    let e₁ : 3 * suc j + 1 ≡ suc (suc (suc (3 * j + 1))) = omega arith in
    let e₂ : 3 * suc j + 2 ≡ suc (suc (suc (3 * j + 2))) = omega arith in
    let word : ℕ → ℕ = λ z. get_or (v ∷ 0 ∷ 0 ∷ l) z 0 in
    (ap word e₀ ∙ i.0, ap word e₁ ∙ i.1, ap word e₂ ∙ i.2)

block_here : (n i : ℕ) (more : List ℕ) → i < 4 * n → get_or (fresh_blocks n ++ more) i 0 ≡ 0
unfolding fresh_blocks
block_here zero i more h = absurd (omega arith)
block_here (suc n) zero more h = refl
block_here (suc n) (suc zero) more h = refl
block_here (suc n) (suc (suc zero)) more h = refl
block_here (suc n) (suc (suc (suc zero))) more h = refl
block_here (suc n) (suc (suc (suc (suc i)))) more h = block_here n i more (omega arith)

-- word i of a list, after n others
word_after : (at : ℕ) (ws xs ys : List ℕ) (n i : ℕ) → length xs ≡ n → drop at ws ≡ xs ++ ys → get_or ws (at + n + i) 0 ≡ get_or ys i 0
word_after at ws xs ys n i l e =
    ap (λ (z : ℕ). get_or ws z 0) (let q : at + n + i ≡ at + (length xs + i) = omega arith in q)
    ∙ sym (get_or-drop at ws (length xs + i) 0) ∙ ap (λ (z : List ℕ). get_or z (length xs + i) 0) e ∙ get_or-append-add xs ys i 0

-- the bands' words after the inclusion tree of the first, and after both its trees
split_first : (b : Band) (bs : List Band) → fresh_bands (b ∷ bs)
    ≡ fresh_nodes not_yet_included (band_nodes b) ++
    (fresh_nodes not_yet_planes (band_nodes b) ++ (fresh_blocks (blocks_in b) ++ fresh_bands bs))
unfolding fresh_bands_with
split_first b bs =
    let n : ℕ = band_nodes b in
    append_assoc (fresh_nodes not_yet_included n ++ fresh_nodes not_yet_planes n) (fresh_blocks (blocks_in b)) (fresh_bands bs)
    ∙ append_assoc (fresh_nodes not_yet_included n) (fresh_nodes not_yet_planes n) (fresh_blocks (blocks_in b) ++ fresh_bands bs)

split_second : (b : Band) (bs : List Band) → fresh_bands (b ∷ bs)
    ≡ fresh_nodes not_yet_included (band_nodes b) ++ fresh_nodes not_yet_planes (band_nodes b) ++
    (fresh_blocks (blocks_in b) ++ fresh_bands bs)
unfolding fresh_bands_with
split_second b bs = append_assoc (fresh_nodes not_yet_included (band_nodes b) ++ fresh_nodes not_yet_planes (band_nodes b))
    (fresh_blocks (blocks_in b)) (fresh_bands bs)

after_own : (at : ℕ) (ws : List ℕ) (b : Band) (bs : List Band) → drop at ws ≡ fresh_bands (b ∷ bs) → drop (at + band_length b) ws
    ≡ fresh_bands bs
unfolding fresh_bands_with
after_own at ws b bs e =
    sym (drop-drop (band_length b) at ws) ∙ ap (drop (band_length b)) e
    ∙ ap (λ (z : ℕ). drop z (band_own b ++ fresh_bands bs)) (sym (length-own b)) ∙ drop-append_seam (band_own b) (fresh_bands bs)

-- a tree's words
tree_words : (t : Tree) (at : ℕ) (ws : List ℕ) (b : Band) (bs : List Band) → drop at ws ≡ fresh_bands (b ∷ bs)
    → (more : List ℕ) × ((i : ℕ) → get_or ws (tree_from t at b + i) 0 ≡ get_or (fresh_nodes (not_yet t) (band_nodes b) ++ more) i 0)
tree_words inclusion at ws b bs e = (
  fresh_nodes not_yet_planes (band_nodes b) ++ (fresh_blocks (blocks_in b) ++ fresh_bands bs),
  λ i. sym (get_or-drop at ws i 0) ∙ ap (λ (z : List ℕ). get_or z i 0) (e ∙ split_first b bs),
)
tree_words zero_planes at ws b bs e = (
  fresh_blocks (blocks_in b) ++ fresh_bands bs,
  λ i. word_after at ws (fresh_nodes not_yet_included (band_nodes b))
      (fresh_nodes not_yet_planes (band_nodes b) ++ (fresh_blocks (blocks_in b) ++ fresh_bands bs)) (3 * band_nodes b) i
      (length-nodes not_yet_included (band_nodes b)) (e ∙ split_first b bs),
)

node_words : (t : Tree) (at : ℕ) (ws : List ℕ) (bs : List Band) (a : ℕ) → drop at ws ≡ fresh_bands bs → NodeFrom t at bs a
    → (value ws a ≡ not_yet t) × (low ws a ≡ 0) × (known ws a ≡ 0)
node_words t at ws [] a e n = absurd n
node_words t at ws (b ∷ bs) a e (inl c) =
    let w = tree_words t at ws b bs e in
    let q = node_here (not_yet t) (band_nodes b) c.0 w.0 c.1 in
    let base : ℕ = tree_from t at b in
    let word : ℕ → ℕ = λ z. get_or ws z 0 in
    let e₁ : a + 1 ≡ base + (3 * c.0 + 1) = omega (arith, c.2) in
    let e₂ : a + 2 ≡ base + (3 * c.0 + 2) = omega (arith, c.2) in
    (ap word c.2 ∙ w.1 (3 * c.0) ∙ q.0, ap word e₁ ∙ w.1 (3 * c.0 + 1) ∙ q.1, ap word e₂ ∙ w.1 (3 * c.0 + 2) ∙ q.2)
node_words t at ws (b ∷ bs) a e (inr n) = node_words t (at + band_length b) ws bs a (after_own at ws b bs e) n

block_words : (at : ℕ) (ws : List ℕ) (bs : List Band) (p : ℕ) → drop at ws ≡ fresh_bands bs → BlockFrom at bs p → (j : ℕ) → j < 4
    → get_or ws (p + j) 0 ≡ 0
block_words at ws [] p e n j h = absurd n
block_words at ws (b ∷ bs) p e (inl c) j h =
    let n : ℕ = band_nodes b in
    let trees : List ℕ = fresh_nodes not_yet_included n ++ fresh_nodes not_yet_planes n in
    let i : ℕ = 4 * c.0 + j in
    let l : length trees ≡ 6 * n = length-append (fresh_nodes not_yet_included n) (fresh_nodes not_yet_planes n)
    ∙ ap₂ (λ (x y : ℕ). x + y) (length-nodes not_yet_included n) (length-nodes not_yet_planes n) ∙ omega arith in
    let q : p + j ≡ at + 6 * n + i = omega (arith, c.2) in
    ap (λ (z : ℕ). get_or ws z 0) q
    ∙ word_after at ws trees (fresh_blocks (blocks_in b) ++ fresh_bands bs) (6 * n) i l (e ∙ split_second b bs)
    ∙ block_here (blocks_in b) i (fresh_bands bs) (omega (arith, c.1))
block_words at ws (b ∷ bs) p e (inr n) j h = block_words (at + band_length b) ws bs p (after_own at ws b bs e) n j h

after_first : (r s : ℕ) (bs : List Band) → drop 13 (fresh_state r s bs) ≡ fresh_bands bs
unfolding fresh_state_with
after_first r s bs = ap (λ (z : ℕ). drop z (band_words bs 3 ++ fresh_bands bs)) (sym (length-words bs 3))
    ∙ drop-append_seam (band_words bs 3) (fresh_bands bs)

pub fresh_node : (r s : ℕ) (bs : List Band) (t : Tree) (a : ℕ) → NodeFrom t 13 bs a
    → (value (fresh_state r s bs) a ≡ not_yet t) × (low (fresh_state r s bs) a ≡ 0) × (known (fresh_state r s bs) a ≡ 0)
fresh_node r s bs t a n = node_words t 13 (fresh_state r s bs) bs a (after_first r s bs) n

pub fresh_block : (r s : ℕ) (bs : List Band) (p : ℕ) → BlockFrom 13 bs p → (j : ℕ) → j < 4 → get_or (fresh_state r s bs) (p + j) 0 ≡ 0
fresh_block r s bs p n j h = block_words 13 (fresh_state r s bs) bs p (after_first r s bs) n j h

pub fresh_first_words : (r s : ℕ) (bs : List Band) → length bs ≤ 3 → FirstWords r bs s 0 (fresh_state r s bs)
unfolding fresh_state_with band_words bands band_at unused_bands_zero every
fresh_first_words r s [] l = record { role-is = refl; bands-are = refl; count_is = refl; style-is = refl; layer-is = refl; unused = refl }
fresh_first_words r s (a ∷ []) l =
    record { role-is = refl; bands-are = refl; count_is = refl; style-is = refl; layer-is = refl; unused = refl }
fresh_first_words r s (a ∷ b ∷ []) l =
    record { role-is = refl; bands-are = refl; count_is = refl; style-is = refl; layer-is = refl; unused = refl }
fresh_first_words r s (a ∷ b ∷ c ∷ []) l =
    record { role-is = refl; bands-are = refl; count_is = refl; style-is = refl; layer-is = refl; unused = refl }
fresh_first_words r s (a ∷ b ∷ c ∷ d ∷ bs) l = absurd (omega arith)
