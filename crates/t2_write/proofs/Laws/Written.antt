-- The answers of writing: what each refusal and what success leaves.
use mathlib.Core.Path.{◌≡◌, sym, ap, ◌∙◌}
use mathlib.Core.Logic.{◌≢◌}
use mathlib.Core.Bool.{cond, not}
use mathlib.Core.List.{List}
use Prim.Native.Nat.{ℕ}
use native.Mathlib.Omega.{arith}
use lib.ListN.{length, replicate}
use lib.Dec.{eqb, ltb}
use borrow.Author.Tests.{eq-eqb, ne_eqb}
use Rattle.t800.specs.declared.Markers.{Markers}
use Rattle.t800.specs.declared.WriteAnswer.{WriteAnswer}
use Rattle.t800.specs.Base.{sum, overwrite, wiped}
use Rattle.t800.specs.WriteHeader.{Contribution, code_header}
use Rattle.t800.specs.Packet.{measure_checks, measure_refusal, measure_refusal_with, packet, packet_checks, write_refusal}
use Rattle.t800.specs.Packet.{write_refusal_with, WriteResult, write, write_with}
use Rattle.t800_laws.proofs.Laws.Tests.{if-true, if-false, if-ne}
use Rattle.t800_laws.proofs.Laws.Checks.{not_first, first_later, first_earlier, on_bool}
use Rattle.t2_refusal_laws.specs.Refusals.{measure_refusal_for}
use Rattle.t2_refusals.proofs.Laws.ScratchLength.{refusal_by_scratch_length}
use Rattle.t2_put_packet.specs.Put.{PacketPut}

-- ---- refusals

-- what is no refusal of writing alone
measure-not_11 : (ws scratch : List ℕ) (p : Contribution) → measure_refusal ws scratch p ≢ 11
unfolding measure_refusal_with
measure-not_11 ws scratch p = not_first 11 (measure_checks ws scratch p) (omega arith)

module _ (ws scratch : List ℕ) (p : Contribution) (body : List ℕ) (m : Markers) (number : ℕ) (output : List ℕ) where
  abbrev answered : ℕ → ℕ → List ℕ → List ℕ → List ℕ → WriteResult
  answered why bytes state scratch output =
      record { answer = record { refusal = why; bytes = bytes }; state = state; scratch = scratch; output = output }

  abbrev made : List ℕ
  made = packet ws p body m number

  abbrev chosen : ℕ → WriteResult
  chosen why = cond (eqb why 0) (answered 0 (length made) (code_header p ws).words (code_header p ws).words (overwrite output made))
      (cond (eqb why 11) (answered why 0 ws (wiped scratch) (wiped output)) (answered why 0 ws scratch output))

  write-by : (why : ℕ) → why ≡ write_refusal ws scratch p body m number output → chosen why ≡ write ws scratch p body m number output
  unfolding write_with
  write-by why e = ap chosen e

  unchanged : (why : ℕ) → why ≢ 0 → why ≢ 11 → why ≡ write_refusal ws scratch p body m number output
      → answered why 0 ws scratch output ≡ write ws scratch p body m number output
  unchanged why h k e = sym (if-ne why 0 _ _ h ∙ if-ne why 11 _ _ k) ∙ write-by why e

  module _ (why : ℕ) (is : why ≡ measure_refusal_for ws (length scratch) p) where
    why_is : why ≡ measure_refusal ws scratch p
    why_is = is ∙ sym (refusal_by_scratch_length ws scratch p)

    pub write-refused : why ≢ 0 → answered why 0 ws scratch output ≡ write ws scratch p body m number output
    unfolding measure_refusal_with write_refusal_with
    write-refused h =
        unchanged why h (λ e. measure-not_11 ws scratch p (sym why_is ∙ e))
        (why_is ∙ sym (first_earlier (packet_checks ws p body m number output) (measure_checks ws scratch p) (λ e. h (why_is ∙ e))))

    module _ (z : why ≡ 0) where
      abbrev space : ℕ
      space = cond (ltb (length output) (length made)) 11 0

      -- none of measuring's
      then_body : write_refusal ws scratch p body m number output ≡ cond (not (eqb (length body) (sum p.lengths))) 10 space
      unfolding measure_refusal_with write_refusal_with
      then_body = first_later (packet_checks ws p body m number output) (measure_checks ws scratch p) (omega arith) (sym why_is ∙ z)

      pub write-body_refused : (n : ℕ) → n ≡ sum p.lengths → length body ≢ n → answered 10 0 ws scratch output
          ≡ write ws scratch p body m number output
      write-body_refused n e h =
          unchanged 10 (omega arith) (omega arith)
          (sym (then_body ∙ if-true (not (eqb (length body) (sum p.lengths))) 10 space
          (ap not (ne_eqb (length body) (sum p.lengths) (λ q. h (q ∙ sym e))))))

      module _ (n : ℕ) (sums : n ≡ sum p.lengths) (l : length body ≡ n) where
        then_space : write_refusal ws scratch p body m number output ≡ space
        then_space = then_body
            ∙ if-false (not (eqb (length body) (sum p.lengths))) 10 space
            (ap not (eq-eqb (length body) (sum p.lengths) (l ∙ sums)))

        module _ (r : WriteAnswer) (vs os : List ℕ) (q : PacketPut ws p body m number output r vs os) where
          pub write-without_room : (us ys : List ℕ) → r.refusal ≢ 0 → length vs ≡ length scratch → length os ≡ length output
              → us ≡ wiped vs → ys ≡ wiped os
              → record { answer = r; state = ws; scratch = us; output = ys } ≡ write ws scratch p body m number output
          write-without_room us ys z a b u y =
              on_bool (ltb (length output) (length made))
              (λ t. let n = if-true (ltb (length output) (length made)) 11 0 t in
              (λ i. record {
                answer = (q.answer ∙ if-true (ltb (length output) (length made)) _ _ t) i;
                state = ws;
                scratch = (u ∙ ap (λ (x : ℕ). replicate x 0) a) i;
                output = (y ∙ ap (λ (x : ℕ). replicate x 0) b) i;
              }) ∙ write-by 11 (sym (then_space ∙ n)))
              (λ f. absurd (z (ap (λ (x : WriteAnswer). x.refusal) (q.answer ∙ if-false (ltb (length output) (length made)) _ _ f))))

          pub write_done : (us : List ℕ) → r.refusal ≡ 0 → us ≡ vs
              → record { answer = r; state = us; scratch = vs; output = os } ≡ write ws scratch p body m number output
          write_done us z u =
              on_bool (ltb (length output) (length made))
              (λ t. let e : 11 ≡ 0 = sym (ap (λ (x : WriteAnswer). x.refusal)
              (q.answer ∙ if-true (ltb (length output) (length made)) _ _ t)) ∙ z in absurd (omega (arith, e)))
              (λ f. let n = if-false (ltb (length output) (length made)) 11 0 f in
              (λ i. record {
                answer = (q.answer ∙ if-false (ltb (length output) (length made)) _ _ f) i;
                state = (u ∙ q.scratch) i;
                scratch = q.scratch i;
                output = q.output-if z i;
              }) ∙ write-by 0 (sym (then_space ∙ n)))
