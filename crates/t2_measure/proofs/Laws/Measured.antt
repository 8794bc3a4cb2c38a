-- The answers of measuring: what a refusal and what success leaves.
use mathlib.Core.Path.{◌≡◌, sym, ◌∙◌}
use mathlib.Core.Logic.{◌≢◌}
use mathlib.Core.Bool.{cond}
use mathlib.Core.List.{List}
use Prim.Native.Nat.{ℕ}
use lib.ListN.{length}
use lib.Dec.{eqb}
use Rattle.t800.specs.declared.Markers.{Markers}
use Rattle.t800.specs.Base.{sum}
use Rattle.t800.specs.WriteHeader.{Contribution, code_header}
use Rattle.t800.specs.Packet.{measure_refusal, front, MeasureResult, measure, measure_with}
use Rattle.t800_laws.proofs.Laws.Tests.{if-eq, if-ne}
use Rattle.t2_refusal_laws.specs.Refusals.{measure_refusal_for}
use Rattle.t2_refusals.proofs.Laws.ScratchLength.{refusal_by_scratch_length}
use Rattle.t2_write_header.specs.Header.{HeaderCoded}
use Rattle.t2_write_packet.specs.Front.{put_front}

module _ (ws scratch : List ℕ) (p : Contribution) (m : Markers) (why : ℕ) (is : why ≡ measure_refusal_for ws (length scratch) p) where
  refusal_is : why ≡ measure_refusal ws scratch p
  refusal_is = is ∙ sym (refusal_by_scratch_length ws scratch p)

  pub measure-refused : why ≢ 0 → record { answer = record { refusal = why; header = 0; body = 0 }; scratch = scratch }
      ≡ measure ws scratch p m
  unfolding measure_with
  measure-refused h =
      let e = refusal_is in
      let answer : ℕ → MeasureResult = λ k. record { answer = record { refusal = k; header = 0; body = 0 }; scratch = scratch } in
      let done : MeasureResult =
      record {
        answer = record { refusal = 0; header = length (front ws p m 0); body = sum p.lengths };
        scratch = (code_header p ws).words;
      } in
      sym (if-ne why 0 done (answer why) h) ∙ (λ i. cond (eqb (e i) 0) done (answer (e i)))

  pub measure-done : (bytes : List ℕ) (body : ℕ) (h : HeaderCoded) → why ≡ 0 → h ≡ put_front p ws m 0 bytes → body ≡ sum p.lengths
      → record { answer = record { refusal = 0; header = h.end; body = body }; scratch = h.words } ≡ measure ws scratch p m
  unfolding measure_with put_front
  measure-done bytes body h z f b =
      let answer : ℕ → MeasureResult = λ k. record { answer = record { refusal = k; header = 0; body = 0 }; scratch = scratch } in
      let done : MeasureResult =
      record {
        answer = record { refusal = 0; header = length (front ws p m 0); body = sum p.lengths };
        scratch = (code_header p ws).words;
      } in
      (λ i. record { answer = record { refusal = 0; header = (f i).end; body = b i }; scratch = (f i).words })
      ∙ sym (if-eq (measure_refusal ws scratch p) 0 done (answer (measure_refusal ws scratch p)) (sym refusal_is ∙ z))
