-- The answers of a layer call: what each refusal and what success leaves.
use mathlib.Core.Path.{◌≡◌, sym, ap, ◌∙◌}
use mathlib.Core.Logic.{◌≢◌}
use mathlib.Core.List.{List}
use Prim.Native.Nat.{ℕ, ◌<◌}
use native.Mathlib.Omega.{arith}
use lib.ListN.{length, replicate}
use Rattle.t800.specs.declared.LayerAnswer.{LayerAnswer}
use Rattle.t800.specs.Base.{wiped}
use Rattle.t800.specs.Layer.{LayerCall, LayerResult, none_of_it, write_layer}
use Rattle.whole_layer.specs.SingleCalls.{UpTo16, refused_at}
use Rattle.whole_layer.proofs.Refusals.{too_many_here, none_here, wrong_scratch_here, numbers_here}
use Rattle.t2_write_precincts.specs.Layer.{LayerWritten}

abbrev left : LayerAnswer → (states scratch output : List ℕ) → LayerResult
left r states scratch output = record { answer = r; states = states; scratch = scratch; output = output }

module _ (states : List ℕ) (c : LayerCall) where
  pub too_many : (r : LayerAnswer) → 16 < length c.numbers → r ≡ refused_at 14 0
      → left r states c.scratch c.output ≡ write_layer states c
  too_many r h e = ap (λ (a : LayerAnswer). left a states c.scratch c.output) e ∙ sym (too_many_here states c h)

  pub empty_list : (r : LayerAnswer) → length c.numbers ≡ 0 → r ≡ refused_at 0 0
      → left r states c.scratch c.output ≡ write_layer states c
  empty_list r z e = ap (λ (a : LayerAnswer). left a states c.scratch c.output) e ∙ sym (none_here states c z)

  module _ (few : UpTo16 c) where
    pub wrong_scratch_lem : (r : LayerAnswer) (us os : List ℕ) → length c.scratch ≢ length states → r ≡ refused_at 5 0
        → us ≡ wiped c.scratch → os ≡ wiped c.output → left r states us os ≡ write_layer states c
    wrong_scratch_lem r us os n e u o = (λ i. left (e i) states (u i) (o i)) ∙ sym (wrong_scratch_here states c few n)

    module _ (r : LayerAnswer) (xs us os : List ℕ) (q : LayerWritten states c r xs us os) (n : r.refusal ≢ 0) where
      refused : write_layer states c ≡ none_of_it states c r
      refused =
          let k = numbers_here states c in
          let e = k.other_number (λ z. n (ap (λ (a : LayerAnswer). a.refusal) q.answer ∙ z))
          (λ z. absurd (omega (arith, k.fourteen z, few.1))) in
          e ∙ ap (none_of_it states c) (ap (λ (z : LayerResult). z.answer) (sym e) ∙ sym q.answer)

      pub one_refused : (r' : LayerAnswer) (vs ys : List ℕ) → length us ≡ length c.scratch → length os ≡ length c.output → r' ≡ r
          → vs ≡ wiped us → ys ≡ wiped os → left r' xs vs ys ≡ write_layer states c
      one_refused r' vs ys a b e v y =
          (λ i. left (e i) (q.states_kept n i) ((v ∙ ap (λ (k : ℕ). replicate k 0) a) i) ((y ∙ ap (λ (k : ℕ). replicate k 0) b) i))
          ∙ sym refused
