-- A packet without passes is one byte between its markers, written or measured, and moves the next layer alone.
use mathlib.Core.Path.{◌≡◌, refl, ap, ap₂, ◌∙◌}
use mathlib.Core.Bool.{Bool, true, false, cond}
use mathlib.Core.List.{List, [], ◌∷◌, ◌++◌, append-nil}
use Prim.Native.Nat.{ℕ}
use lib.ListN.{length}
use lib.Dec.{eqb}
use borrow.Author.Tests.{eqb-true, eqb-false}
use Rattle.t800.specs.declared.Markers.{Markers}
use Rattle.t800.specs.Base.{Bytes, sum, overwrite}
use Rattle.t800.specs.TagTree.{Coded}
use Rattle.t800.specs.WriteHeader.{Contribution, contributes, code_absent, code_header}
use Rattle.t800.specs.MarkerSegments.{sop_bytes, eph_bytes, with_markers}
use Rattle.t800.specs.Packet.{measure_refusal, MeasureResult, measure_with, packet, write_refusal, WriteResult, write_with}
use Rattle.t800_laws.proofs.Laws.Tests.{either, either-by}
use Rattle.t800_laws.proofs.Laws.Lists.{no_elements}
use Rattle.t800_laws.proofs.Laws.Contributes.{absent-header, absent-front}
use Rattle.round_trip.proofs.Trip.AbsentPacket.{no_passes_lem}
use Rattle.round_trip.proofs.Trip.Calls.{measured, write-zero}
use Rattle.empty_packets.specs.WithoutPasses.{one_byte, in_next_layer, written_as_one_byte, WrittenWithoutPasses, measured_as_one_byte}
use Rattle.empty_packets.specs.WithoutPasses.{MeasuredWithoutPasses}

absent-words : (p : Contribution) (ws : List ℕ) → contributes p ≡ false → (code_header p ws).words ≡ in_next_layer ws
unfolding code_absent
absent-words p ws none = ap (λ (x : Coded). x.words) (absent-header p ws none)

-- as many lengths as passes
no_lengths : (p : Contribution) (ws scratch : List ℕ) → contributes p ≡ false → measure_refusal ws scratch p ≡ 0 → sum p.lengths ≡ 0
unfolding sum
no_lengths p ws scratch none e = ap sum (no_elements p.lengths ((measured ws scratch p e).1.lengths ∙ no_passes_lem p none))

-- ---- writing

pub written_without_passes : WrittenWithoutPasses
unfolding write_with packet
written_without_passes ws scratch p body m number output none =
    let why : ℕ = write_refusal ws scratch p body m number output in
    let P : WriteResult → Type 0 = λ o. o.answer.refusal ≡ 0 → o ≡ written_as_one_byte ws m number output in
    either-by P (eqb why 0) _ _
    (λ h e. let z = write-zero ws scratch p body m number output (eqb-true why 0 h) in
    let empty : body ≡ [] = no_elements body (z.1 ∙ no_lengths p ws scratch none z.0) in
    let made : packet ws p body m number ≡ one_byte m number =
    ap₂ (λ (x y : Bytes). x ++ y) (absent-front p ws m number none) empty ∙ append-nil (one_byte m number) in
    λ i. record {
      answer = record { refusal = 0; bytes = length (made i) };
      state = absent-words p ws none i;
      scratch = absent-words p ws none i;
      output = overwrite output (made i);
    })
    (λ h. either P (eqb why 11) _ _ (λ e. absurd (eqb-false why 0 h e)) (λ e. absurd (eqb-false why 0 h e)))

-- ---- measuring

-- SOP is as long with every number
sop_length : (used : Bool) (header rest : Bytes) (n k : ℕ)
    → length (cond used (sop_bytes n) [] ++ header ++ rest) ≡ length (cond used (sop_bytes k) [] ++ header ++ rest)
unfolding sop_bytes
sop_length true header rest n k = refl
sop_length false header rest n k = refl

same_length : (m : Markers) (n k : ℕ) → length (one_byte m n) ≡ length (one_byte m k)
unfolding with_markers
same_length m n k = sop_length m.sop (0x00 ∷ []) (cond m.eph eph_bytes []) n k

pub measured_without_passes : MeasuredWithoutPasses
unfolding measure_with
measured_without_passes ws scratch p m number none =
    let why : ℕ = measure_refusal ws scratch p in
    either-by (λ (o : MeasureResult). o.answer.refusal ≡ 0 → o ≡ measured_as_one_byte ws m number) (eqb why 0) _ _
    (λ h e. λ i. record {
      answer = record {
        refusal = 0;
        header = (ap length (absent-front p ws m 0 none) ∙ same_length m 0 number) i;
        body = no_lengths p ws scratch none (eqb-true why 0 h) i;
      };
      scratch = absent-words p ws none i;
    })
    (λ h e. absurd (eqb-false why 0 h e))
