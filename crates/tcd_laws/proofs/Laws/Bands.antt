-- The bands of a precinct one after another: sides in range, words and blocks.
use mathlib.Core.Path.{◌≡◌, refl, sym, ap, ap₂, ◌∙◌, subst}
use mathlib.Core.Bool.{Bool, false, ◌||◌}
use mathlib.Core.List.{List, [], ◌∷◌, ◌++◌, map}
use Prim.Native.Nat.{ℕ, zero, suc, ◌+◌, ◌*◌, ◌≤◌, ◌<◌}
use native.Mathlib.Nat.{le_refl}
use native.Mathlib.Numerals.{add-one}
use native.Mathlib.Omega.{arith}
use lib.ListN.{length, get_or, take, drop, drop_of_length-le, length-append, length-take}
use lib.Seq.{drop-cons, get_or-take, take-take}
use lib.Dec.{ltb, eqb}
use borrow.Author.Tests.{ltb-false, eqb-false}
use Rattle.t800.specs.declared.Band.{Band}
use Rattle.t800.specs.declared.Level.{Level}
use Rattle.t800.specs.Base.{sum, any}
use Rattle.t800.specs.TagTree.{levels}
use Rattle.t800.specs.State.{Block, block_of, blocks_in, band_nodes, band_length, end_of, blocks_from, blocks_at, blocks}
use Rattle.t800.specs.Ranges.{bad_shape}
use Rattle.t800_laws.proofs.Laws.Tests.{or_left, or_right}
use Rattle.t800_laws.proofs.Laws.Layout.{band_length_lem}
use Rattle.t800_laws.proofs.Laws.Lists.{length_from}
use Rattle.tcd_laws.specs.Geometry.{no_band, padded, band_levels, SidesUpTo64, AllUpTo64}
use Rattle.tcd_laws.proofs.Laws.TreeLevels.{area_up_to_4096, nodes-up_to_28672}

-- ---- an array of three

pub three {ℓ} : {A : Type ℓ} (l : List A) (d : A) → length l ≡ 3 → l ≡ get_or l 0 d ∷ get_or l 1 d ∷ get_or l 2 d ∷ []
three [] d e = absurd (omega arith)
three (a ∷ []) d e = absurd (omega arith)
three (a ∷ b ∷ []) d e = absurd (omega arith)
three (a ∷ b ∷ c ∷ []) d e = refl
three (a ∷ b ∷ c ∷ f ∷ l) d e = absurd (omega arith)

pub levels-of_three : (bs : List Band) (p q r : List Level) → length bs ≡ 3
    → p ≡ padded (levels (get_or bs 0 no_band).across (get_or bs 0 no_band).down)
    → q ≡ padded (levels (get_or bs 1 no_band).across (get_or bs 1 no_band).down)
    → r ≡ padded (levels (get_or bs 2 no_band).across (get_or bs 2 no_band).down) → p ∷ q ∷ r ∷ [] ≡ band_levels bs
unfolding band_levels
levels-of_three bs p q r l x y z = rw (three bs no_band l, x, y, z)

pub band_levels_at : (bs : List Band) (i : ℕ) → i < length bs → get_or (band_levels bs) i []
    ≡ padded (levels (get_or bs i no_band).across (get_or bs i no_band).down)
unfolding band_levels
band_levels_at [] i h = absurd (omega arith)
band_levels_at (b ∷ bs) zero h = refl
band_levels_at (b ∷ bs) (suc i) h = band_levels_at bs i (omega arith)

-- band i of the first n
pub next_band : (bs : List Band) (n i : ℕ) → n ≤ length bs → i < n → drop i (take n bs) ≡ get_or bs i no_band ∷ drop (i + 1) (take n bs)
next_band bs n i h k =
    let l : i < length (take n bs) = simp length-take (omega arith) in
    rw (add-one, drop-cons (take n bs) i no_band l, get_or-take n bs i no_band k)

pub no_more_bands : (bs : List Band) (n i : ℕ) → n ≤ i → drop i (take n bs) ≡ []
no_more_bands bs n i h = drop_of_length-le (take n bs) {i = i} (simp length-take (omega arith))

-- ---- sides in range

pub sides_of : (bs : List Band) (i : ℕ) → i < length bs → AllUpTo64 bs → SidesUpTo64 (get_or bs i no_band)
sides_of [] i h s = absurd (omega arith)
sides_of (b ∷ bs) zero h s = s.0
sides_of (b ∷ bs) (suc i) h s = sides_of bs i (omega arith) s.1

pub sides_of_first : (bs : List Band) (n i : ℕ) → n ≤ length bs → i < n → AllUpTo64 (take n bs) → SidesUpTo64 (get_or bs i no_band)
sides_of_first bs n i h k s =
    let l : i < length (take n bs) = simp length-take (omega arith) in
    subst SidesUpTo64 (get_or-take n bs i no_band k) (sides_of (take n bs) i l s)

sides_of_all : (bs : List Band) → any (λ b. ltb 64 b.across || ltb 64 b.down) bs ≡ false → AllUpTo64 bs
unfolding any
sides_of_all [] e = tt
sides_of_all (b ∷ bs) e =
    let rest : Bool = any (λ b. ltb 64 b.across || ltb 64 b.down) bs in
    let here = or_left (ltb 64 b.across || ltb 64 b.down) rest e in (
      (
        ltb-false 64 b.across (or_left (ltb 64 b.across) (ltb 64 b.down) here),
        ltb-false 64 b.down (or_right (ltb 64 b.across) (ltb 64 b.down) here),
      ),
      sides_of_all bs (or_right (ltb 64 b.across || ltb 64 b.down) rest e),
    )

-- what a shape that isn't refused says
pub shape_not_refused : (n : ℕ) (bs : List Band) → bad_shape n (take n bs) ≡ false → (1 ≤ n) × (n ≤ 3) × AllUpTo64 (take n bs)
unfolding bad_shape
shape_not_refused n bs e =
    let too_wide : Bool = any (λ b. ltb 64 b.across || ltb 64 b.down) (take n (take n bs)) in
    let count = or_left (eqb n 0 || ltb 3 n) too_wide e in
    let t : take n (take n bs) ≡ take n bs = take-take n n bs (le_refl n) in
    let one = eqb-false n 0 (or_left (eqb n 0) (ltb 3 n) count) in
    let most = ltb-false 3 n (or_right (eqb n 0) (ltb 3 n) count) in (
      omega arith,
      most,
      sides_of_all (take n bs)
          (subst (λ (l : List Band). any (λ b. ltb 64 b.across || ltb 64 b.down) l ≡ false) t
          (or_right (eqb n 0 || ltb 3 n) too_wide e)),
    )

-- ---- words and blocks

pub blocks-up_to_4096 : (b : Band) → SidesUpTo64 b → blocks_in b ≤ 4096
unfolding blocks_in
blocks-up_to_4096 b s = area_up_to_4096 b.across b.down s.0 s.1

pub nodes-of_band_up_to : (b : Band) → SidesUpTo64 b → band_nodes b ≤ 28672
unfolding band_nodes
nodes-of_band_up_to b s = nodes-up_to_28672 b.across b.down s.0 s.1

pub band_length_up_to : (b : Band) → SidesUpTo64 b → band_length b ≤ 188416
band_length_up_to b s = omega (arith, band_length_lem b, nodes-of_band_up_to b s, blocks-up_to_4096 b s)

-- m blocks, and n after them
pub blocks-split : (at : ℕ) (b : Band) (m n i : ℕ) → blocks_from at b (m + n) i ≡ blocks_from at b m i ++ blocks_from at b n (i + m)
unfolding blocks_from
blocks-split at b zero n i =
    let e : 0 + n ≡ n = omega arith in
    let q : i + 0 ≡ i = omega arith in
    rw (e, q)
blocks-split at b (suc m) n i =
    let e : suc m + n ≡ suc (m + n) = omega arith in
    let q : i + 1 + m ≡ i + suc m = omega arith in
    rw e (ap (λ (ks : List Block). block_of at b i ∷ ks)
    (blocks-split at b m n (i + 1) ∙ ap (λ (k : ℕ). blocks_from at b m (i + 1) ++ blocks_from at b n k) q))

length_at : (at : ℕ) (bs : List Band) → length (blocks_at at bs) ≡ sum (map blocks_in bs)
unfolding blocks_at sum
length_at at [] = refl
length_at at (b ∷ bs) =
    length-append (blocks_from at b (blocks_in b) 0) (blocks_at (at + band_length b) bs)
    ∙ ap₂ (λ (m n : ℕ). m + n) (length_from at b (blocks_in b) 0) (length_at (at + band_length b) bs)

-- as many blocks as the bands have across × down
pub length-blocks : (bs : List Band) → length (blocks bs) ≡ sum (map blocks_in bs)
unfolding blocks
length-blocks bs = length_at 13 bs

blocks-in_up_to : (bs : List Band) → AllUpTo64 bs → sum (map blocks_in bs) ≤ 4096 * length bs
unfolding sum
blocks-in_up_to [] h = omega arith
blocks-in_up_to (b ∷ bs) h = let r = blocks-in_up_to bs h.1 in let a = blocks-up_to_4096 b h.0 in omega arith

pub blocks-up_to_12288 : (n : ℕ) (bs : List Band) → n ≤ 3 → AllUpTo64 (take n bs) → length (blocks (take n bs)) ≤ 12288
blocks-up_to_12288 n bs h s = omega (arith, length-blocks (take n bs), blocks-in_up_to (take n bs) s, length-take n bs)

pub blocks-turn : (bs : List Band) (n i total : ℕ) → n ≤ length bs → i < n
    → total + blocks_in (get_or bs i no_band) + sum (map blocks_in (drop (i + 1) (take n bs))) ≡ total + sum (map blocks_in (drop i (take n bs)))
unfolding sum
blocks-turn bs n i total h k =
    let e : sum (map blocks_in (drop i (take n bs)))
    ≡ blocks_in (get_or bs i no_band) + sum (map blocks_in (drop (i + 1) (take n bs))) =
    ap (λ (l : List Band). sum (map blocks_in l)) (next_band bs n i h k) in
    omega arith

pub end_turn : (bs : List Band) (n i at : ℕ) → n ≤ length bs → i < n
    → end_of (at + band_length (get_or bs i no_band)) (drop (i + 1) (take n bs)) ≡ end_of at (drop i (take n bs))
unfolding end_of
end_turn bs n i at h k = sym (ap (end_of at) (next_band bs n i h k))
