-- How long a header can be: a block that nothing refuses takes at most `block_bits` bits, and bits take at most as many bytes and two.
use mathlib.Core.Path.{◌≡◌, refl, sym, ap, ◌∙◌}
use mathlib.Core.Bool.{false, cond, ◌&&◌, ◌||◌, not}
use mathlib.Core.List.{List, [], ◌∷◌, ◌++◌, reverse}
use Prim.Native.Nat.{ℕ, zero, suc, ◌+◌, ◌-◌, ◌*◌, ◌^◌, ◌≤◌, ◌<◌, max}
use native.Mathlib.Nat.{mul-le-mul, le_trans, le_refl}
use native.Mathlib.Omega.{arith}
use lib.ListN.{length, get_or, set, replicate, take, drop, length-append, length-replicate, length-reverse}
use lib.Dec.{ltb, leb, eqb}
use Rattle.t800.specs.declared.Band.{Band}
use Rattle.t800.specs.Bits.{bits_of, bits_after, last_bytes, pack_from, pack}
use Rattle.t800.specs.TagTree.{Coded, set_value, low_after, node_bits, known_after, code_path}
use Rattle.t800.specs.PassCount.{pass_bits}
use Rattle.t800.specs.Segments.{Segment, segments_from, segments_of, width, increment, comma_bits, length_fields}
use Rattle.t800.specs.State.{Block, not_yet_included, not_yet_planes, blocks_in, band_length, blocks_from, blocks_at, blocks, passes_so_far}
use Rattle.t800.specs.WriteHeader.{Contribution, is_new, length_bits_before, set_new_blocks, code_inclusion, code_zero_planes, code_passes}
use Rattle.t800.specs.WriteHeader.{code_block, code_blocks}
use Rattle.t800_laws.proofs.Laws.Layout.{Layout, inclusion, Placed, AllPlaced}
use Rattle.t800_laws.proofs.Laws.Paths.{short_path}
use Rattle.t800_laws.proofs.Laws.Tests.{either, on-eq, if-eq, if-ne}
use Rattle.round_trip.proofs.Trip.Segments.{too_wide, field_fits}
use Rattle.round_trip.proofs.Trip.Changes.{ValuesOnly, no_values, values_then, leaf_set, nodes-only, block_stays}
use Rattle.round_trip.proofs.Trip.Changes.{block_coded, paths_keep}
use Rattle.round_trip.proofs.Trip.WriterState.{Codable, same_codable, AllCodable, still_codable, all_codable, Acceptable}
use Rattle.round_trip.proofs.Trip.WriterState.{some-segment, bits_fit, header_blocks}

-- ---- bytes

last_up_to : (byte : ℕ) → length (last_bytes byte) ≤ 2
unfolding last_bytes
last_up_to byte = either (λ (z : List ℕ). length (byte ∷ z) ≤ 2) (eqb byte 255) _ _ (omega arith) (omega arith)

pack-from_up_to : (byte free : ℕ) (bits : List ℕ) → length (pack_from byte free bits) ≤ length bits + 2
unfolding pack_from
pack-from_up_to byte free [] = omega (arith, last_up_to byte)
pack-from_up_to byte zero (b ∷ bs) = let r = pack-from_up_to (b * 2 ^ (bits_after byte - 1)) (bits_after byte - 1) bs in omega arith
pack-from_up_to byte (suc free) (b ∷ bs) = let r = pack-from_up_to (byte + b * 2 ^ free) free bs in omega arith

pub packed-up_to : (bits : List ℕ) → length (pack bits) ≤ length bits + 2
unfolding pack
packed-up_to bits = pack-from_up_to 0 8 bits

-- ---- trees

node_up_to : (v l k t : ℕ) → length (node_bits v l k t) ≤ t + 1
unfolding node_bits low_after
node_up_to v l k t =
    let n : ℕ = low_after v l t - l in
    let one : List ℕ = cond (ltb (low_after v l t) t && eqb k 0) (1 ∷ []) [] in
    let h : length one ≤ 1 = either (λ (z : List ℕ). length z ≤ 1) (ltb (low_after v l t) t && eqb k 0) _ _ (omega arith) (omega arith) in
    omega (arith, length-append (replicate n 0) one, length-replicate {A = ℕ} n 0)

path_up_to : (base t : ℕ) (ns : List ℕ) (l : ℕ) (ws : List ℕ) → length (code_path base t ns l ws).bits ≤ length ns * (t + 1)
unfolding code_path
path_up_to base t [] l ws = omega arith
path_up_to base t (n ∷ ns) l ws =
    let v : ℕ = get_or ws (base + 3 * n) 0 in
    let from : ℕ = max l (get_or ws (base + 3 * n + 1) 0) in
    let k : ℕ = get_or ws (base + 3 * n + 2) 0 in
    let to : ℕ = low_after v from t in
    let vs : List ℕ = set (set ws (base + 3 * n + 1) to) (base + 3 * n + 2) (known_after v from k t) in
    omega (arith, length-append (node_bits v from k t) (code_path base t ns to vs).bits, node_up_to v from k t, path_up_to base t ns to vs)

-- from the root, with a threshold up to m
abbrev path_bits : ℕ → ℕ
path_bits m = 7 * (m + 1)

from_root : (base t m : ℕ) (ns ws : List ℕ) → length ns ≤ 7 → t ≤ m → length (code_path base t (reverse ns) 0 ws).bits ≤ path_bits m
from_root base t m ns ws h l =
    let a : length (reverse ns) ≤ 7 = omega (arith, length-reverse ns) in
    let b : t + 1 ≤ m + 1 = omega arith in
    le_trans (path_up_to base t (reverse ns) 0 ws) (mul-le-mul a b)

-- ---- passes and lengths

bits_of-length : (n v : ℕ) → length (bits_of n v) ≡ n
unfolding bits_of
bits_of-length zero v = refl
bits_of-length (suc n) v = ap suc (bits_of-length n v)

passes_up_to : (n : ℕ) → length (pass_bits n) ≤ 16
unfolding pass_bits
passes_up_to n =
    either (λ (z : List ℕ). length z ≤ 16) (leb n 1) _ _ (omega arith)
    (either (λ (z : List ℕ). length z ≤ 16) (leb n 2) _ _ (omega arith)
    (either (λ (z : List ℕ). length z ≤ 16) (leb n 5) _ _ (omega (arith, bits_of-length 2 (n - 3)))
    (either (λ (z : List ℕ). length z ≤ 16) (leb n 36) _ _
    (omega (arith, length-append (replicate 4 1) (bits_of 5 (n - 6)), length-replicate {A = ℕ} 4 1, bits_of-length 5 (n - 6)))
    (omega (arith, length-append (replicate 9 1) (bits_of 7 (n - 37)), length-replicate {A = ℕ} 9 1, bits_of-length 7 (n - 37))))))

comma_up_to : (n : ℕ) → length (comma_bits n) ≡ n + 1
unfolding comma_bits
comma_up_to n = length-append (replicate n 1) (0 ∷ []) ∙ ap (λ (z : ℕ). z + 1) (length-replicate {A = ℕ} n 1)

fields_up_to : (lb : ℕ) (gs : List Segment) → too_wide lb gs ≡ false → length (length_fields lb gs) ≤ 32 * length gs
unfolding length_fields
fields_up_to lb [] h = omega arith
fields_up_to lb (g ∷ gs) h =
    let f = field_fits lb g gs h in
    omega (
      arith,
      length-append (bits_of (width lb g.passes) g.bytes) (length_fields lb gs),
      bits_of-length (width lb g.passes) g.bytes,
      f.0,
      fields_up_to lb gs f.1,
    )

segments_up_to : (n bytes : ℕ) (ls ms : List ℕ) → length (segments_from n bytes ls ms) ≤ length ls
unfolding segments_from
segments_up_to n bytes [] ms = omega arith
segments_up_to n bytes (l ∷ ls) [] = omega arith
segments_up_to n bytes (l ∷ ls) (m ∷ ms) =
    let a = segments_up_to 0 0 ls ms in
    let b = segments_up_to (n + 1) (bytes + l) ls ms in
    either (λ (z : List Segment). length z ≤ suc (length ls)) (not (eqb m 0) || _) _ _ (omega arith) (omega arith)

-- ---- a block

-- the codeword of its passes, the increment and 164 lengths
abbrev counted_bits : ℕ
counted_bits = 16 + 33 + 32 * 164

abbrev pub block_bits : ℕ
block_bits = path_bits not_yet_included + path_bits not_yet_planes + counted_bits

module _ (L : Layout) (k : Block) (P : Placed L k) (short : length k.path ≤ 7) (t c : ℕ) (layer : t < not_yet_included)
    (ls ms ws : List ℕ) where
  inclusion_up_to : length (code_inclusion t k c ws).bits ≤ path_bits not_yet_included
  unfolding code_inclusion
  inclusion_up_to = either (λ (z : Coded). length z.bits ≤ path_bits not_yet_included) (is_new ws k) _ _
      (from_root k.incl_tree (t + 1) not_yet_included k.path ws short (omega arith)) (omega arith)

  planes_up_to : (vs : List ℕ) → length (code_zero_planes k vs).bits ≤ path_bits not_yet_planes
  unfolding code_zero_planes
  planes_up_to vs = either (λ (z : Coded). length z.bits ≤ path_bits not_yet_planes) (is_new vs k) _ _
      (from_root k.zero_tree not_yet_planes not_yet_planes k.path vs short (le_refl not_yet_planes)) (omega arith)

  counted-up_to : (vs : List ℕ) → 0 < c → Codable t vs k c ls ms → length (code_passes k c (segments_of ls ms) vs).bits ≤ counted_bits
  unfolding code_passes segments_of
  counted-up_to vs some d =
      let gs : List Segment = segments_of ls ms in
      let b : ℕ = length_bits_before vs k in
      let i : ℕ = increment b gs in
      let now = bits_fit (b + i) gs (some-segment ls ms (d.lengths ∙ sym d.marks) (omega (arith, d.lengths))) d.fits in
      omega (
        arith,
        length-append (pass_bits c ++ comma_bits i) (length_fields (b + i) gs),
        length-append (pass_bits c) (comma_bits i),
        passes_up_to c,
        comma_up_to i,
        fields_up_to (b + i) gs d.fits,
        segments_up_to 0 0 ls ms,
        d.lengths,
        d.few,
        now,
      )

  pub block_up_to : length ws ≡ L.size → Codable t ws k c ls ms → length (code_block t k c (segments_of ls ms) ws).bits ≤ block_bits
  unfolding code_block
  block_up_to long d =
      let i : Coded = code_inclusion t k c ws in
      let z : Coded = code_zero_planes k i.words in
      let p : Coded = code_passes k c (segments_of ls ms) z.words in
      let all : Coded = record { bits = i.bits ++ z.bits ++ p.bits; words = p.words } in
      let same = block_stays L ws z.words (paths_keep L k P t c ws long).off k.at P.block in
      on-eq c 0
      (λ e. rw (if-eq c 0 i all e) (omega (arith, inclusion_up_to)))
      (λ e. rw (if-ne c 0 i all e) (omega (
        arith,
        length-append (i.bits ++ z.bits) p.bits,
        length-append i.bits z.bits,
        inclusion_up_to,
        planes_up_to i.words,
        counted-up_to z.words (omega arith) (same_codable t ws z.words k c ls ms same d),
      )))

-- ---- all blocks

abbrev ShortPaths : List Block → Type 0
ShortPaths [] = Unit {0}
ShortPaths (k ∷ ks) = (length k.path ≤ 7) × ShortPaths ks

blocks-up_to : (L : Layout) (t : ℕ) (ks : List Block) (cs ls ms ws : List ℕ) → t < not_yet_included → AllPlaced L ks → ShortPaths ks
    → length ws ≡ L.size → AllCodable t ws ks cs ls ms
    → length (code_blocks t ks cs ls ms ws).bits ≤ block_bits * length ks
unfolding code_blocks
blocks-up_to L t [] cs ls ms ws h f s long d = omega arith
blocks-up_to L t (k ∷ ks) [] ls ms ws h f s long d = omega arith
blocks-up_to L t (k ∷ ks) (c ∷ cs) ls ms ws h f s long d =
    let P = f.0.0 in
    let b : Coded = code_block t k c (segments_of (take c ls) (take c ms)) ws in
    let r : Coded = code_blocks t ks cs (drop c ls) (drop c ms) b.words in
    let o = block_coded L k P c t (segments_of (take c ls) (take c ms)) ws long in
    omega (
      arith,
      length-append b.bits r.bits,
      block_up_to L k P s.0 t c h (take c ls) (take c ms) ws long d.0,
      blocks-up_to L t ks cs (drop c ls) (drop c ms) b.words h f.1 s.1 (o.long ∙ long)
          (still_codable L t ws b.words k c ks cs (drop c ls) (drop c ms) o f.0.1 f.1 d.1),
    )

short_onto : (at : ℕ) (b : Band) (n i : ℕ) (js : List Block) → ShortPaths js → ShortPaths (blocks_from at b n i ++ js)
unfolding blocks_from
short_onto at b zero i js h = h
short_onto at b (suc n) i js h = (short_path b.across b.down i, short_onto at b n (i + 1) js h)

short_paths : (at : ℕ) (bs : List Band) → ShortPaths (blocks_at at bs)
unfolding blocks_at
short_paths at [] = tt
short_paths at (b ∷ bs) = short_onto at b (blocks_in b) 0 (blocks_at (at + band_length b) bs) (short_paths (at + band_length b) bs)

-- ---- a layer

new_values : (L : Layout) (t : ℕ) (ks : List Block) (cs ws : List ℕ) → AllPlaced L ks → ValuesOnly L inclusion ws (set_new_blocks t ks cs ws)
unfolding set_new_blocks
new_values L t [] cs ws f = no_values L inclusion ws
new_values L t (k ∷ ks) [] ws f = no_values L inclusion ws
new_values L t (k ∷ ks) (c ∷ cs) ws f =
    let vs : List ℕ = cond (is_new ws k && ltb 0 c) (set_value k.incl_tree k.path t ws) ws in
    values_then L inclusion ws vs (set_new_blocks t ks cs vs)
    (either (ValuesOnly L inclusion ws) (is_new ws k && ltb 0 c) _ _ (leaf_set L inclusion k f.0.0 t ws) (no_values L inclusion ws))
    (new_values L t ks cs vs f.1)

pub header_up_to_lem : (L : Layout) (t : ℕ) (bs : List Band) (p : Contribution) (ws : List ℕ) → t < not_yet_included
    → AllPlaced L (blocks bs) → length ws ≡ L.size → ((q : ℕ) → L.BlockAt q → passes_so_far ws q ≤ 164 * t)
    → Acceptable ws (blocks bs) p → length (header_blocks t (blocks bs) p ws).bits ≤ block_bits * length (blocks bs)
unfolding blocks
header_up_to_lem L t bs p ws h f long most q =
    let ks : List Block = blocks_at 13 bs in
    let us : List ℕ = set_new_blocks t ks p.counts ws in
    let o = new_values L t ks p.counts ws f in
    blocks-up_to L t ks p.counts p.lengths p.marks us h f (short_paths 13 bs) (o.long ∙ long)
    (all_codable L t ws us ks p.counts p.lengths p.marks f (nodes-only L inclusion ws us o) most q.lengths q.marks
    q.few q.fits)
