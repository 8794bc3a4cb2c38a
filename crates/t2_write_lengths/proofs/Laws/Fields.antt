-- A turn of the loop over a block's length fields.
use mathlib.Core.Path.{◌≡◌, sym}
use mathlib.Core.List.{List, ◌∷◌}
use Prim.Native.Nat.{ℕ}
use Rattle.t800.specs.Bits.{bits_of}
use Rattle.t800.specs.Segments.{Segment, width, length_fields}
use Rattle.bio_bytes.specs.Writing.{Output, put_bits}
use Rattle.bio_write.proofs.Laws.FreeBits.{put_bits-append}

pub fields_turn : (o : Output) (lb : ℕ) (s : Segment) (ss all : List Segment) (k : Output) → all ≡ s ∷ ss → k
    ≡ put_bits o (bits_of (width lb s.passes) s.bytes)
    → put_bits k (length_fields lb ss) ≡ put_bits o (length_fields lb all)
unfolding length_fields
fields_turn o lb s ss all k e h = rw (e, h) (sym (put_bits-append o _ (length_fields lb ss)))
