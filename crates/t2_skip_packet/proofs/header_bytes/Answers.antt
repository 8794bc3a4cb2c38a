use mathlib.Core.Path.{◌≡◌, ap, ◌∙◌}
use mathlib.Core.Bool.{Bool}
use mathlib.Core.List.{List}
use Prim.Native.Nat.{ℕ, ◌+◌, ◌-◌, ◌<◌}
use native.Mathlib.Omega.{arith}
use Rattle.t800.specs.declared.Bio.{Bio}
use Rattle.t800.specs.Bits.{bytes_taken}
use Rattle.t800.specs.MarkerSegments.{MarkerRead, read_marker, read_eph}
use Rattle.bio_read_end.specs.declared.Aligned.{Aligned}
use Rattle.bio_read_end.specs.HeaderEnd.{aligned_at}
use Rattle.t2_read_marks.proofs.Laws.Markers.{skip_inside, taken_up_to}
use Rattle.t2_skip_packet.specs.Parts.{header_bytes}
use Rattle.t2_skip_packet.proofs.header_bytes.Goals as goal

-- at is where the bits end, and e what was found of EPH there

bytes_are : (src : List ℕ) (eph : Bool) (start : ℕ) (b : Bio) (at : ℕ) (e : MarkerRead) → at ≡ bytes_taken src b
    → e ≡ read_marker eph 2 0x92 src at → at + e.skip - start ≡ header_bytes src eph start b
unfolding header_bytes read_eph
bytes_are src eph start b at e p q =
    ap (λ (x : MarkerRead). at + x.skip - start) q ∙ ap (λ (n : ℕ). n + (read_marker eph 2 0x92 src n).skip - start) p

pub overflow_add-taken : goal.overflow_add-taken
unfolding aligned_at
overflow_add-taken c =
    let s = c in
    let src = s.args.src.now in
    let at = c.opj_bio_inalign-end.result.bio.bp in
    omega (
      arith,
      ap (λ (r : Aligned). r.bio.bp) c.opj_bio_inalign-end.ensures,
      taken_up_to src s.args.b,
      s.requires,
      ap (λ (e : MarkerRead). e.skip) c.read_marker-e.ensures,
      skip_inside s.args.eph 2 0x92 src at,
      c,
    )

pub returns-then-taken-start : goal.returns-then-taken-start
unfolding aligned_at
returns-then-taken-start c =
    let s = c in
    let below : c.opj_bio_inalign-end.result.bio.bp + c.read_marker-e.result.skip < s.args.start = c.if-taken-start.true in
    omega (
      arith,
      below,
      bytes_are s.args.src.now s.args.eph s.args.start s.args.b _ _
          (ap (λ (r : Aligned). r.bio.bp) c.opj_bio_inalign-end.ensures) c.read_marker-e.ensures,
    )

pub returns : goal.returns
unfolding aligned_at
returns c =
    let s = c in
    bytes_are s.args.src.now s.args.eph s.args.start s.args.b _ _
    (ap (λ (r : Aligned). r.bio.bp) c.opj_bio_inalign-end.ensures) c.read_marker-e.ensures
