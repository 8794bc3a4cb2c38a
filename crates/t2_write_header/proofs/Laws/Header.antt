-- A header that nothing refuses: how long it is, and its parts together.
use mathlib.Core.Path.{◌≡◌, sym, ap, ◌∙◌}
use mathlib.Core.Logic.{◌≢◌}
use mathlib.Core.List.{List, ◌∷◌}
use Prim.Native.Nat.{ℕ, ◌+◌, ◌*◌, ◌≤◌, ◌<◌}
use native.Mathlib.Omega.{arith}
use lib.ListN.{length, set}
use lib.Seq.{sets}
use Rattle.t800.specs.declared.Band.{Band}
use Rattle.t800.specs.Bits.{pack}
use Rattle.t800.specs.State.{writer, layer, bands, blocks, state_length, not_yet_included}
use Rattle.t800.specs.TagTree.{Coded}
use Rattle.t800.specs.WriteHeader.{Contribution, set_new_blocks, contributes, code_present, code_absent, code_header}
use Rattle.t800_laws.proofs.Laws.Tests.{either}
use Rattle.t800_laws.proofs.Laws.Contributes.{present_header, absent-header, single-bit_packed}
use Rattle.t800_laws.proofs.Laws.HeaderBits.{bits_blocks}
use Rattle.t800_laws.proofs.Laws.Layout.{layout_of, blocks-placed}
use Rattle.t800_laws.proofs.Laws.Pack.{AreBits}
use Rattle.round_trip.proofs.Trip.HeaderLength.{packed-up_to, block_bits, header_up_to_lem}
use Rattle.round_trip.proofs.Trip.WriterState.{header_blocks}
use Rattle.bio_bytes.specs.Writing.{Output, output, empty_at, last_place, put_bit, put_bits, flush}
use Rattle.bio_write.proofs.Laws.Packed.{flushed_is_packed, packed-place}
use Rattle.tcd_laws.proofs.Laws.ValidStates.{valid_state_lem, block_known, block_bounds}
use Rattle.tgt_write.specs.Coding.{LeafCoded, put_coded}
use Rattle.t2_refusal_laws.proofs.Laws.NotRefused.{NotRefused, no_passes_lem, some_passes}
use Rattle.tcd_laws.proofs.Laws.ValidStates.{blocks-of_valid}
use Rattle.t2_write_header.specs.Header.{header_coded, put_at, put_header}

-- the bits of 12,288 blocks at most, and with the first bit the bytes that they take
abbrev header_bits : ℕ
header_bits = block_bits * 12288

abbrev pub header_bytes : ℕ
header_bytes = header_bits + 3

module _ (ws : List ℕ) (n : ℕ) (p : Contribution) (r : NotRefused ws n p) where
  abbrev all : Coded
  all = header_blocks (layer ws) (blocks (bands ws)) p ws

  pub layer-left : layer ws < not_yet_included
  layer-left = omega (arith, r.layer-left, (valid_state_lem writer ws n r.valid).layer-up_to)

  bits_up_to_lem : length all.bits ≤ header_bits
  unfolding state_length
  bits_up_to_lem =
      let s = valid_state_lem writer ws n r.valid in
      let k = header_up_to_lem (layout_of (bands ws)) (layer ws) (bands ws) p ws layer-left (blocks-placed (bands ws)) s.length-is
      (λ q b. (block_bounds ws q (block_known ws 13 (bands ws) q s.ranges b)).0)
      (record { counts = r.counts_are; lengths = r.lengths_are_lem; marks = r.marks_are; few = r.few; fits = r.none_wide }) in
      omega (arith, k, blocks-of_valid writer ws n r.valid)

  pub header_small : length (pack (code_header p ws).bits) ≤ header_bytes
  unfolding code_header code_present code_absent
  header_small =
      either (λ (x : Coded). length (pack x.bits) ≤ header_bytes) (contributes p) _ _
      (omega (arith, packed-up_to (1 ∷ all.bits), bits_up_to_lem)) (omega (arith, ap length single-bit_packed))

  are_bits : AreBits (1 ∷ all.bits)
  are_bits = (
    omega arith,
    bits_blocks (layer ws) (blocks (bands ws)) p.counts p.lengths p.marks
        (set_new_blocks (layer ws) (blocks (bands ws)) p.counts ws),
  )

  pub without_passes : length p.lengths ≡ 0 → (start : ℕ) (bytes : List ℕ) → put_at (code_absent ws) start bytes
      ≡ put_header p ws start bytes
  unfolding put_header
  without_passes e start bytes =
      ap (λ (c : Coded). put_at c start bytes) (sym (absent-header p ws (no_passes_lem ws n p r e)))

  pub with_passes : length p.lengths ≢ 0 → (start : ℕ) (bytes : List ℕ) → put_at (code_present p ws) start bytes
      ≡ put_header p ws start bytes
  unfolding put_header
  with_passes e start bytes =
      ap (λ (c : Coded). put_at c start bytes) (sym (present_header p ws (some_passes ws n p r e)))

  -- the first bit, the blocks, the last byte, and the next layer
  pub header_is : (start : ℕ) (bytes : List ℕ) (bs : List Band) (o e : Output) (x : LeafCoded) (vs : List ℕ) → start ≤ 6
      → length bytes ≤ last_place → bs ≡ bands ws
      → o ≡ put_bit (output bytes (empty_at start)) 1 → x ≡ put_coded o (header_blocks (layer ws) (blocks bs) p ws) → e
      ≡ flush x.output → vs ≡ set x.words 3 (layer ws + 1)
      → header_coded vs e.bytes e.bio.bp ≡ put_at (code_present p ws) start bytes
  unfolding code_present put_bits
  header_is start bytes bs o e x vs h l n a b' c d =
      let b : x ≡ put_coded o all = b' ∙ ap (λ (z : List Band). put_coded o (header_blocks (layer ws) (blocks z) p ws)) n in
      let bits : List ℕ = 1 ∷ all.bits in
      let done : Output = flush (put_bits (output bytes (empty_at start)) bits) in
      let f : e ≡ done = c ∙ ap (λ (y : LeafCoded). flush y.output) b ∙ ap (λ (y : Output). flush (put_bits y all.bits)) a in
      let g : vs ≡ set all.words 3 (layer ws + 1) = d ∙ ap (λ (y : LeafCoded). set y.words 3 (layer ws + 1)) b in
      let q = (flushed_is_packed bytes start bits are_bits l).stored in
      let place = packed-place bytes start bits are_bits l (omega (arith, packed-up_to bits, bits_up_to_lem)) in
      (λ i. header_coded (g i) (f i).bytes (f i).bio.bp) ∙ (λ i. header_coded (set all.words 3 (layer ws + 1)) (q i) (place i))

-- one byte, and the next layer
pub single-bit_put : (ws : List ℕ) (start : ℕ) (bytes : List ℕ) → header_coded (set ws 3 (layer ws + 1)) (set bytes start 0) (start + 1)
    ≡ put_at (code_absent ws) start bytes
unfolding code_absent
single-bit_put ws start bytes =
    sym (ap (λ (xs : List ℕ). header_coded (set ws 3 (layer ws + 1)) (sets bytes start xs) (start + length xs)) single-bit_packed)
