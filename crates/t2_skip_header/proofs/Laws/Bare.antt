-- What a reading does to the state, the bits, the counts and the refusal doesn't depend on the lists of reports and records.
use mathlib.Core.Path.{◌≡◌, refl, sym, ap, ◌∙◌}
use mathlib.Core.Bool.{Bool, true, false, cond, ◌&&◌}
use mathlib.Core.List.{List, [], ◌∷◌, reverse}
use Prim.Native.Nat.{ℕ, zero, suc, ◌+◌, ◌-◌, ◌*◌, ◌%◌, ◌^◌}
use native.Mathlib.Omega.{arith}
use lib.Dec.{eqb, ltb, leb}
use lib.ListN.{get_or, set}
use Rattle.t800.specs.Bits.{Decoded, get_bit, read_bits, ends_in_ff}
use Rattle.t800.specs.TagTree.{PathRead, value, read_path}
use Rattle.t800.specs.Segments.{width}
use Rattle.t800.specs.State.{Block, layer, bands, blocks, not_yet_planes, length_bits}
use Rattle.t800.specs.WriteHeader.{is_new}
use Rattle.t800.specs.ReadHeader.{opens_segment, current_limit, current_passes, passes_taken, read_zero_planes_from}
use Rattle.t800_laws.proofs.Laws.Tests.{if-ge}
use Rattle.lists.specs.Rows.{put_row}
use Rattle.tgt_read.specs.Reading.{ValueAfter}
use Rattle.t2_read_segments.specs.Reading.{Reading, stopped, moved_on, reported, recorded, next_segment, next_segments}
use Rattle.t2_read_block_parts.specs.Blocks.{passes_read, segments_after, next_first, next_again, next_new, next_old, next_block, next_blocks}
use Rattle.t2_read_header.specs.Header.{next_header}

-- the same with other reports and records
abbrev with_lists : List ℕ → List ℕ → Reading → Reading
with_lists reports records a =
    record {
      words = a.words;
      reports = reports;
      records = records;
      bio = a.bio;
      count = a.count;
      room = a.room;
      bytes = a.bytes;
      refusal = a.refusal;
    }

abbrev pub bare : Reading → Reading
bare = with_lists [] []

bare_either : (t : Bool) (x y : Reading) → bare (cond t x y) ≡ cond t (bare x) (bare y)
bare_either true x y = refl
bare_either false x y = refl

-- a reading b, where it isn't refused, goes on by g
bare_then : (g : Reading → Reading) → ((a : Reading) → bare (g a) ≡ g (bare a)) → (b c : Reading) → bare b ≡ c
    → bare (cond (eqb b.refusal 0) (g b) b) ≡ cond (eqb c.refusal 0) (g c) c
bare_then g h b c e =
    bare_either (eqb b.refusal 0) (g b) b ∙ ap (λ (x : Reading). cond (eqb b.refusal 0) x (bare b)) (h b)
    ∙ ap (λ (x : Reading). cond (eqb x.refusal 0) (g x) x) e

no_row : (n a b c d : ℕ) → put_row [] n a b c d ≡ []
unfolding put_row
no_row n a b c d = if-ge n 0 _ [] (omega arith)

reported-bare : (i x y v p : ℕ) (a : Reading) → bare (reported i x y v p a) ≡ reported i x y v p (bare a)
reported-bare i x y v p a = ap (λ (rows : List ℕ). with_lists rows [] a) (sym (no_row i x y v p))

-- ---- segments

segment-bare : (src : List ℕ) (i : ℕ) (k : Block) (n : ℕ) (a : Reading)
    → bare (next_segment src i k n a) ≡ next_segment src i k n (bare a)
unfolding next_segment
segment-bare src i k n a =
    let ws : List ℕ = a.words in
    let w : ℕ = width (length_bits ws k.at) n in
    let len : Decoded = read_bits src w a.bio in
    let opens : ℕ = cond (opens_segment ws k) 1 0 in
    let after : List ℕ = set (set ws (k.at + 2) (current_limit ws k)) (k.at + 3) (current_passes ws k + n) in
    let done : Reading = recorded i opens n len.value (moved_on after len.bio a) in
    let full : Bool = leb a.room a.count in
    bare_either (ltb 32 w) (stopped 9 a) (cond full (stopped 13 a) done)
    ∙ ap (λ (x : Reading). cond (ltb 32 w) (stopped 9 (bare a)) x)
    (bare_either full (stopped 13 a) done
    ∙ ap (λ (rows : List ℕ). cond full (stopped 13 (bare a)) (with_lists [] rows done)) (sym (no_row a.count i opens n len.value)))

segments_bare : (src : List ℕ) (i : ℕ) (k : Block) (f left : ℕ) (a : Reading)
    → bare (next_segments src i k f left a) ≡ next_segments src i k f left (bare a)
unfolding next_segments
segments_bare src i k zero left a = refl
segments_bare src i k (suc f) left a =
    let n : ℕ = passes_taken a.words k left in
    let b : Reading = next_segment src i k n a in
    bare_either (ltb 0 left) (cond (eqb b.refusal 0) (next_segments src i k f (left - n) b) b) a
    ∙ ap (λ (x : Reading). cond (ltb 0 left) x (bare a))
    (bare_then (next_segments src i k f (left - n)) (segments_bare src i k f (left - n)) b (next_segment src i k n (bare a))
    (segment-bare src i k n a))

-- ---- blocks

after_bare : (src : List ℕ) (i : ℕ) (k : Block) (c : ValueAfter) (a b : Reading) → bare a ≡ b
    → bare (segments_after src i k c a) ≡ segments_after src i k c b
after_bare src i k c a b e = segments_bare src i k c.value c.value (moved_on c.words c.bio a)
    ∙ ap (λ (x : Reading). segments_after src i k c x) e

first_bare : (src : List ℕ) (i : ℕ) (k : Block) (a : Reading) → bare (next_first src i k a) ≡ next_first src i k (bare a)
unfolding next_first
first_bare src i k a =
    let z : PathRead = read_zero_planes_from src k (not_yet_planes + 2) 0 a.words a.bio in
    let v : ℕ = value z.words (k.zero_tree + 3 * k.leaf) in
    let c : ValueAfter = passes_read src k.at 0 3 z.words z.bio in
    after_bare src i k c _ _ (reported-bare i 1 v ((k.planes + 2 ^ 32 - v) % 2 ^ 32) c.value a)

again_bare : (src : List ℕ) (i : ℕ) (k : Block) (a : Reading) → bare (next_again src i k a) ≡ next_again src i k (bare a)
unfolding next_again
again_bare src i k a =
    let c : ValueAfter = passes_read src k.at (get_or a.words k.at 0) (get_or a.words (k.at + 1) 0) a.words a.bio in
    after_bare src i k c _ _ (reported-bare i 2 0 0 c.value a)

pub block_bare : (src : List ℕ) (t i : ℕ) (k : Block) (a : Reading) → bare (next_block src t i k a) ≡ next_block src t i k (bare a)
unfolding next_block next_new next_old
block_bare src t i k a =
    let w : PathRead = read_path src k.incl_tree (t + 1) (reverse k.path) 0 a.words a.bio in
    let bit : Decoded = get_bit src a.bio in
    let new : Reading = moved_on w.words w.bio a in
    let old : Reading = moved_on a.words bit.bio a in
    let below : Bool = ltb (value w.words (k.incl_tree + 3 * k.leaf)) (t + 1) in
    bare_either (is_new a.words k) (cond below (next_first src i k new) (reported i 0 0 0 0 new))
    (cond (eqb bit.value 0) (reported i 0 0 0 0 old) (next_again src i k old))
    ∙ (λ j. cond (is_new a.words k)
    ((bare_either below (next_first src i k new) (reported i 0 0 0 0 new)
    ∙ (λ l. cond below (first_bare src i k new l) (reported-bare i 0 0 0 0 new l))) j)
    ((bare_either (eqb bit.value 0) (reported i 0 0 0 0 old) (next_again src i k old)
    ∙ (λ l. cond (eqb bit.value 0) (reported-bare i 0 0 0 0 old l) (again_bare src i k old l))) j))

blocks-bare : (src : List ℕ) (t i : ℕ) (ks : List Block) (a : Reading)
    → bare (next_blocks src t i ks a) ≡ next_blocks src t i ks (bare a)
unfolding next_blocks
blocks-bare src t i [] a = refl
blocks-bare src t i (k ∷ ks) a =
    bare_then (next_blocks src t (i + 1) ks) (blocks-bare src t (i + 1) ks) (next_block src t i k a) (next_block src t i k (bare a))
    (block_bare src t i k a)

-- ---- the header

pub header_bare : (src : List ℕ) (a : Reading) → bare (next_header src a) ≡ next_header src (bare a)
unfolding next_header
header_bare src a =
    let r : Reading = next_blocks src (layer a.words) 0 (blocks (bands a.words)) a in
    bare_either (eqb r.refusal 0 && ends_in_ff src r.bio) (stopped 12 r) r
    ∙ ap (λ (x : Reading). cond (eqb x.refusal 0 && ends_in_ff src x.bio) (stopped 12 x) x)
    (blocks-bare src (layer a.words) 0 (blocks (bands a.words)) a)
