-- All that a header is coded as is bits, 0 or 1.
use mathlib.Core.Bool.{cond, ◌&&◌}
use mathlib.Core.List.{List, [], ◌∷◌, ◌++◌, reverse}
use Prim.Native.Nat.{ℕ, zero, suc, ◌+◌, ◌-◌, ◌<◌}
use native.Mathlib.Omega.{arith}
use lib.ListN.{take, drop, replicate}
use lib.Dec.{ltb, leb, eqb}
use Rattle.t800.specs.Bits.{bits_of}
use Rattle.t800.specs.TagTree.{Coded, low_after, node_bits, code_path}
use Rattle.t800.specs.PassCount.{pass_bits}
use Rattle.t800.specs.Segments.{Segment, segments_of, width, increment, comma_bits, length_fields}
use Rattle.t800.specs.State.{Block}
use Rattle.t800.specs.WriteHeader.{is_new, length_bits_before, code_inclusion, code_zero_planes, code_passes, code_block, code_blocks}
use Rattle.t800_laws.proofs.Laws.Tests.{either}
use Rattle.t800_laws.proofs.Laws.Pack.{AreBits}

pub bits_of-bits : (n v : ℕ) → AreBits (bits_of n v)
unfolding bits_of
bits_of-bits zero v = tt
bits_of-bits (suc n) v = (omega arith, bits_of-bits n v)

pub bits_append : (xs ys : List ℕ) → AreBits xs → AreBits ys → AreBits (xs ++ ys)
bits_append [] ys h k = k
bits_append (x ∷ xs) ys h k = (h.0, bits_append xs ys h.1 k)

pub bits_replicate : (n x : ℕ) → x < 2 → AreBits (replicate n x)
bits_replicate zero x h = tt
bits_replicate (suc n) x h = (h, bits_replicate n x h)

pub one_bit : (x : ℕ) → x < 2 → AreBits (x ∷ [])
one_bit x h = (h, tt)

pub bits_node : (v l k t : ℕ) → AreBits (node_bits v l k t)
unfolding node_bits
bits_node v l k t =
    bits_append (replicate (low_after v l t - l) 0) _ (bits_replicate (low_after v l t - l) 0 (omega arith))
    (either AreBits (ltb (low_after v l t) t && eqb k 0) _ _ (one_bit 1 (omega arith)) tt)

pub bits_path : (base t : ℕ) (ns : List ℕ) (l : ℕ) (ws : List ℕ) → AreBits (code_path base t ns l ws).bits
unfolding code_path
bits_path base t [] l ws = tt
bits_path base t (n ∷ ns) l ws = bits_append (node_bits _ _ _ t) _ (bits_node _ _ _ t) (bits_path base t ns _ _)

pub bits_passes : (n : ℕ) → AreBits (pass_bits n)
unfolding pass_bits
bits_passes n =
    let o : 1 < 2 = omega arith in
    let z : 0 < 2 = omega arith in
    either AreBits (leb n 1) _ _ (z, tt)
    (either AreBits (leb n 2) _ _ (o, (z, tt))
    (either AreBits (leb n 5) _ _ (o, (o, bits_of-bits 2 (n - 3)))
    (either AreBits (leb n 36) _ _ (o, (o, (o, (o, bits_of-bits 5 (n - 6)))))
    (bits_append (replicate 9 1) (bits_of 7 (n - 37)) (bits_replicate 9 1 o) (bits_of-bits 7 (n - 37))))))

pub bits_fields : (l : ℕ) (gs : List Segment) → AreBits (length_fields l gs)
unfolding length_fields
bits_fields l [] = tt
bits_fields l (g ∷ gs) =
    bits_append (bits_of (width l g.passes) g.bytes) _ (bits_of-bits (width l g.passes) g.bytes) (bits_fields l gs)

abbrev CodedBits : Coded → Type 0
CodedBits c = AreBits c.bits

pub bits_inclusion : (t : ℕ) (k : Block) (c : ℕ) (ws : List ℕ) → CodedBits (code_inclusion t k c ws)
unfolding code_inclusion
bits_inclusion t k c ws =
    either CodedBits (is_new ws k) _ _ (bits_path k.incl_tree _ (reverse k.path) 0 ws)
    (one_bit (cond (ltb 0 c) 1 0) (either (λ (x : ℕ). x < 2) (ltb 0 c) 1 0 (omega arith) (omega arith)))

pub bits_planes : (k : Block) (ws : List ℕ) → CodedBits (code_zero_planes k ws)
unfolding code_zero_planes
bits_planes k ws = either CodedBits (is_new ws k) _ _ (bits_path k.zero_tree _ (reverse k.path) 0 ws) tt

pub bits_counted : (k : Block) (c : ℕ) (segs : List Segment) (ws : List ℕ) → CodedBits (code_passes k c segs ws)
unfolding code_passes comma_bits
bits_counted k c segs ws =
    let lb : ℕ = length_bits_before ws k in
    let n : ℕ = increment lb segs in
    bits_append (pass_bits c ++ comma_bits n) (length_fields (lb + n) segs)
    (bits_append (pass_bits c) (comma_bits n) (bits_passes c)
    (bits_append (replicate n 1) (0 ∷ []) (bits_replicate n 1 (omega arith)) (one_bit 0 (omega arith)))) (bits_fields (lb + n) segs)

pub bits_block : (t : ℕ) (k : Block) (c : ℕ) (segs : List Segment) (ws : List ℕ) → CodedBits (code_block t k c segs ws)
unfolding code_block
bits_block t k c segs ws =
    let i : Coded = code_inclusion t k c ws in
    let z : Coded = code_zero_planes k i.words in
    either CodedBits (eqb c 0) _ _ (bits_inclusion t k c ws)
    (bits_append (i.bits ++ z.bits) _ (bits_append i.bits z.bits (bits_inclusion t k c ws) (bits_planes k i.words))
    (bits_counted k c segs z.words))

pub bits_blocks : (t : ℕ) (ks : List Block) (cs lens marks ws : List ℕ) → AreBits (code_blocks t ks cs lens marks ws).bits
unfolding code_blocks
bits_blocks t [] cs lens marks ws = tt
bits_blocks t (k ∷ ks) [] lens marks ws = tt
bits_blocks t (k ∷ ks) (c ∷ cs) lens marks ws =
    let b : Coded = code_block t k c (segments_of (take c lens) (take c marks)) ws in
    bits_append b.bits _ (bits_block t k c (segments_of (take c lens) (take c marks)) ws)
    (bits_blocks t ks cs (drop c lens) (drop c marks) b.words)
