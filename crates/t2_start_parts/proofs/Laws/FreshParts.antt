-- A fresh state, part by part as the code stores it.
use mathlib.Core.Path.{◌≡◌, refl, sym, ap, ap₂, ◌∙◌}
use mathlib.Core.List.{List, [], ◌∷◌, ◌++◌}
use Prim.Native.Nat.{ℕ, zero, suc, ◌+◌, ◌-◌, ◌*◌, ◌≤◌, ◌<◌}
use native.Mathlib.Omega.{arith}
use lib.ListN.{length, get_or, take, drop, replicate, length-append}
use lib.Seq.{sets}
use Rattle.t800.specs.declared.Band.{Band}
use Rattle.t800.specs.Base.{wiped}
use Rattle.t800.specs.State.{not_yet_included, not_yet_planes, blocks_in, band_nodes, state_length}
use Rattle.t800.specs.Start.{fresh_nodes, fresh_blocks, fresh_bands, fresh_bands_with, band_words, fresh_state, fresh_state_with}
use Rattle.t800_laws.proofs.Laws.FreshState.{length-nodes, length-blocks, fresh_length}
use Rattle.tcd_laws.specs.Geometry.{no_band}
use Rattle.t2_start_planes.proofs.Laws.Runs.{sets_after, sets_whole, part_length, part_set}

-- ---- the words of bands in front

words_turn : (bs : List Band) (i m : ℕ) → band_words (drop i bs) (suc m)
    ≡ (get_or bs i no_band).across ∷ (get_or bs i no_band).down ∷ (get_or bs i no_band).planes ∷ band_words (drop (suc i) bs) m
unfolding band_words
words_turn [] zero m = refl
words_turn [] (suc i) m = refl
words_turn (b ∷ bs) zero m = refl
words_turn (b ∷ bs) (suc i) m = words_turn bs i m

-- band i of three, 0 where there is none
pub put_turn : (ws : List ℕ) (bs : List Band) (i at : ℕ) (b : Band) → i < 3 → b ≡ get_or bs i no_band
    → sets (sets ws at (b.across ∷ b.down ∷ b.planes ∷ [])) (at + 3) (band_words (drop (i + 1) bs) (3 - (i + 1)))
    ≡ sets ws at (band_words (drop i bs) (3 - i))
put_turn ws bs i at b h e =
    let rest : List ℕ = band_words (drop (i + 1) bs) (3 - (i + 1)) in
    let n : 3 - i ≡ suc (3 - (i + 1)) = omega arith in
    let j : suc i ≡ i + 1 = omega arith in
    let c : Band = get_or bs i no_band in
    sets_after ws at 3 (b.across ∷ b.down ∷ b.planes ∷ []) rest refl
    ∙ ap (λ (d : Band). sets ws at (d.across ∷ d.down ∷ d.planes ∷ rest)) e
    ∙ ap (λ (k : ℕ). sets ws at (c.across ∷ c.down ∷ c.planes ∷ band_words (drop k bs) (3 - (i + 1)))) (sym j)
    ∙ ap (λ (xs : List ℕ). sets ws at xs) (sym (ap (λ (k : ℕ). band_words (drop i bs) k) n ∙ words_turn bs i (3 - (i + 1))))

-- ---- a band's own

blocks-are_zeros : (n : ℕ) → fresh_blocks n ≡ replicate (4 * n) 0
unfolding fresh_blocks
blocks-are_zeros zero = refl
blocks-are_zeros (suc n) = let e : 4 * suc n
    ≡ suc (suc (suc (suc (4 * n)))) = omega arith in rw e (ap (λ (z : List ℕ). 0 ∷ 0 ∷ 0 ∷ 0 ∷ z) (blocks-are_zeros n))

-- blocks that are wiped where they stand
pub blocks-wiped : (l part : List ℕ) (from blocks : ℕ) → from + 4 * blocks ≤ length l → part
    ≡ wiped (take (from + 4 * blocks - from) (drop from l))
    → take from l ++ (part ++ drop (from + 4 * blocks - from) (drop from l)) ≡ sets l from (fresh_blocks blocks)
blocks-wiped l part from blocks h e =
    let to : ℕ = from + 4 * blocks in
    let n : length (take (to - from) (drop from l)) ≡ 4 * blocks = part_length l from to (omega arith) (omega arith) ∙ omega arith in
    let p : part ≡ fresh_blocks blocks = e ∙ ap (λ (k : ℕ). replicate k 0) n ∙ sym (blocks-are_zeros blocks) in
    part_set l part from to (omega arith) (omega arith) (ap length p ∙ length-blocks blocks ∙ omega arith)
    ∙ ap (λ (xs : List ℕ). sets l from xs) p

abbrev pub band_own : ℕ → ℕ → List ℕ
band_own n k = fresh_nodes not_yet_included n ++ fresh_nodes not_yet_planes n ++ fresh_blocks k

length-trees : (n : ℕ) → length (fresh_nodes not_yet_included n ++ fresh_nodes not_yet_planes n) ≡ 6 * n
length-trees n =
    length-append (fresh_nodes not_yet_included n) (fresh_nodes not_yet_planes n)
    ∙ ap₂ (λ (x y : ℕ). x + y) (length-nodes not_yet_included n) (length-nodes not_yet_planes n)
    ∙ (let e : 3 * n + 3 * n ≡ 6 * n = omega arith in e)

length-own : (n k : ℕ) → length (band_own n k) ≡ 6 * n + 4 * k
length-own n k = length-append (fresh_nodes not_yet_included n ++ fresh_nodes not_yet_planes n) (fresh_blocks k)
    ∙ ap₂ (λ (x y : ℕ). x + y) (length-trees n) (length-blocks k)

-- both trees and the blocks
pub own_set : (ws : List ℕ) (at n k : ℕ)
    → sets (sets (sets ws at (fresh_nodes not_yet_included n)) (at + 3 * n) (fresh_nodes not_yet_planes n)) (at + 3 * n + 3 * n)
    (fresh_blocks k) ≡ sets ws at (band_own n k)
own_set ws at n k =
    let e : at + 3 * n + 3 * n ≡ at + 6 * n = omega arith in
    ap (λ (z : List ℕ). sets z (at + 3 * n + 3 * n) (fresh_blocks k))
    (sets_after ws at (3 * n) (fresh_nodes not_yet_included n) (fresh_nodes not_yet_planes n) (length-nodes not_yet_included n))
    ∙ ap (λ (j : ℕ). sets (sets ws at (fresh_nodes not_yet_included n ++ fresh_nodes not_yet_planes n)) j (fresh_blocks k)) e
    ∙ sets_after ws at (6 * n) (fresh_nodes not_yet_included n ++ fresh_nodes not_yet_planes n) (fresh_blocks k) (length-trees n)

-- one band more
pub own_turn : (ws : List ℕ) (l : List Band) (b : Band) (bs : List Band) (at n k : ℕ) → l ≡ b ∷ bs → n ≡ band_nodes b → k ≡ blocks_in b
    → sets (sets ws at (band_own n k)) (at + (6 * n + 4 * k)) (fresh_bands bs) ≡ sets ws at (fresh_bands l)
unfolding fresh_bands_with
own_turn ws l b bs at n k e p q =
    sets_after ws at (6 * n + 4 * k) (band_own n k) (fresh_bands bs) (length-own n k)
    ∙ ap₂ (λ (x y : ℕ). sets ws at (band_own x y ++ fresh_bands bs)) p q ∙ ap (λ (z : List Band). sets ws at (fresh_bands z)) (sym e)

-- ---- the whole

nine : (bs : List Band) → length (band_words bs 3) ≡ 9
unfolding band_words
nine [] = refl
nine (a ∷ []) = refl
nine (a ∷ b ∷ []) = refl
nine (a ∷ b ∷ c ∷ bs) = refl

pub state_set : (ws : List ℕ) (r n s : ℕ) (bs : List Band) → length bs ≡ n → length ws ≡ state_length bs
    → sets (sets (sets ws 0 (r ∷ n ∷ s ∷ 0 ∷ [])) 4 (band_words bs 3)) 13 (fresh_bands bs) ≡ fresh_state r s bs
unfolding fresh_state_with state_length
state_set ws r n s bs e h =
    let four : List ℕ = r ∷ n ∷ s ∷ 0 ∷ [] in
    let l : length (four ++ band_words bs 3) ≡ 13 = omega (arith, nine bs) in
    ap (λ (z : List ℕ). sets z 13 (fresh_bands bs)) (sets_after ws 0 4 four (band_words bs 3) refl)
    ∙ sets_after ws 0 13 (four ++ band_words bs 3) (fresh_bands bs) l
    ∙ ap (λ (k : ℕ). sets ws 0 (r ∷ k ∷ s ∷ 0 ∷ band_words bs 3 ++ fresh_bands bs)) (sym e)
    ∙ sets_whole ws (fresh_state r s bs) (fresh_length r s bs ∙ sym h)
