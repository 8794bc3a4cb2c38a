-- Refusal 4 of blocks, band by band: the planes of a band's blocks lie after those of the bands before it.
use mathlib.Core.Path.{◌≡◌, refl, sym, ap, ◌∙◌}
use mathlib.Core.Bool.{Bool, true, false, ◌||◌}
use mathlib.Core.List.{List, [], ◌∷◌, ◌++◌}
use Prim.Native.Nat.{ℕ, zero, suc, ◌+◌, min}
use lib.ListN.{length, take, drop}
use Rattle.std.proofs.lemmas.List.{drop_min, take_min}
use lib.Dec.{ltb}
use Rattle.t800.specs.declared.Band.{Band}
use Rattle.t800.specs.Base.{any}
use Rattle.t800.specs.State.{Block, blocks_in, band_length, blocks_from, blocks_at, blocks}
use Rattle.t800.specs.Ranges.{block_too_deep}
use Rattle.t800_laws.proofs.Laws.Lists.{none_too_deep}

-- what stands for the definition while the bands are gone through: the planes that are left, for the bands that are left
unfoldable pub deep_from : List Band → List ℕ → Bool
deep_from [] ps = false
deep_from (b ∷ bs) ps = any (λ p. ltb b.planes p) (take (blocks_in b) ps) || deep_from bs (drop (blocks_in b) ps)

pub or_group : (a b c : Bool) → (a || (b || c)) ≡ (a || b || c)
or_group true b c = refl
or_group false b c = refl

-- n blocks of one band
of_band : (at : ℕ) (b : Band) (n i : ℕ) (ks : List Block) (ps : List ℕ) → block_too_deep (blocks_from at b n i ++ ks) ps
    ≡ (any (λ p. ltb b.planes p) (take n ps) || block_too_deep ks (drop n ps))
unfolding block_too_deep blocks_from any
of_band at b zero i ks ps = refl
of_band at b (suc n) i ks [] = sym (none_too_deep ks)
of_band at b (suc n) i ks (p ∷ ps) =
    ap (λ (t : Bool). ltb b.planes p || t) (of_band at b n (i + 1) ks ps)
    ∙ or_group (ltb b.planes p) (any (λ p. ltb b.planes p) (take n ps)) (block_too_deep ks (drop n ps))

deep_at : (at : ℕ) (bs : List Band) (ps : List ℕ) → block_too_deep (blocks_at at bs) ps ≡ deep_from bs ps
unfolding blocks_at deep_from block_too_deep
deep_at at [] ps = refl
deep_at at (b ∷ bs) ps =
    of_band at b (blocks_in b) 0 (blocks_at (at + band_length b) bs) ps
    ∙ ap (λ (t : Bool). any (λ p. ltb b.planes p) (take (blocks_in b) ps) || t) (deep_at (at + band_length b) bs (drop (blocks_in b) ps))

pub deep_is : (bs : List Band) (ps : List ℕ) → deep_from bs ps ≡ block_too_deep (blocks bs) ps
unfolding blocks
deep_is bs ps = sym (deep_at 13 bs ps)

-- one band more: the planes of its blocks are the first n that are left
pub deep_turn : (l : List Band) (b : Band) (bs : List Band) (ps : List ℕ) (n : ℕ) (t : Bool) → l ≡ b ∷ bs → n ≡ min (blocks_in b) (length ps)
    → t ≡ any (λ p. ltb b.planes p) (take n ps) → deep_from l ps ≡ (t || deep_from bs (drop n ps))
unfolding deep_from
deep_turn l b bs ps n t e w a = rw (e, a, w, take_min (blocks_in b) ps, drop_min (blocks_in b) ps)
