-- The codewords of 1 to 164 passes are prefix-free (T.800, Table B.4): none begins another, since a reader of the longer one reads
-- the shorter.
use mathlib.Core.Path.{◌≡◌, sym, ap, ◌∙◌, subst}
use mathlib.Core.List.{List, [], ◌∷◌, append-nil, IsPrefix}
use Prim.Native.Nat.{ℕ, ◌≤◌}
use native.Mathlib.Omega.{arith}
use Rattle.t800.specs.Bits.{Decoded, bio_at, pack}
use Rattle.t800.specs.PassCount.{pass_bits}
use Rattle.t800_laws.proofs.Laws.HeaderBits.{bits_passes}
use Rattle.round_trip.proofs.Trip.Bits.{bio_after, Reads, reads_split, packed-bits_read}
use Rattle.round_trip.proofs.Trip.Codes.{passes_read_lem}

-- The codeword of n is read after a bit 0.
pub pass_codewords_prefix_free : (m n : ℕ) → 1 ≤ m → m ≤ 164 → 1 ≤ n → n ≤ 164 → IsPrefix (pass_bits m) (pass_bits n) → m ≡ n
pass_codewords_prefix_free m n m1 m164 n1 n164 p =
    let src : List ℕ = pack (0 ∷ pass_bits n) in
    let all = packed-bits_read src [] 0 (pass_bits n) 0 (omega arith) (bits_passes n) (sym (append-nil src)) in
    let b = bio_after src (bio_at 0) in
    let longer : Reads src b (pass_bits n) all.end = all.reads.2 in
    let parts = reads_split src b all.end (pass_bits m) p.0 (subst (λ (l : List ℕ). Reads src b l all.end) (sym p.1) longer) in
    ap (λ (d : Decoded). d.value) (sym (passes_read_lem src b parts.0 m m1 m164 parts.1) ∙ passes_read_lem src b all.end n n1 n164 longer)
