use Prim.Native.Nat.{ℕ}
use mathlib.Core.Bool.{false}
use mathlib.Core.Path.{◌∙◌, ap, refl, sym}
use Rattle.t800.specs.State.{writer}
use Rattle.t800.specs.WriteHeader.{contribution}
use Rattle.tcd_laws.proofs.Laws.ValidStates.{valid_state_lem}
use Rattle.t2_refusal_laws.specs.Refusals.{measure_refusal_for}
use Rattle.t2_refusal_laws.proofs.Laws.WriterState.{scratch_as_long}
use Rattle.t2_refusals.proofs.Laws.RefusalParts.{measure-parts}
use Rattle.t2_refusals.proofs.measure_refusal.Goals as goal

pub returns-then-not-valid_state : goal.returns-then-not-valid_state
unfolding writer
returns-then-not-valid_state c =
    let a = c.args in
    measure-parts a.state.now a.scratch_len (contribution a.counts.now a.lengths.now a.marks.now) false _ _
    (sym c.if-not-valid_state.true ∙ c.valid_state.ensures) refl refl

pub refusal_of_valid-requires : goal.refusal_of_valid-requires
unfolding writer
refusal_of_valid-requires c =
    let a = c.args in (
      scratch_as_long a.state.now a.scratch_len (sym c.valid_state.ensures ∙ c.if-not-valid_state.false),
      c.passes_of.ensures,
    )

pub returns : goal.returns
unfolding writer
returns c =
    let a = c.args in
    let v = sym c.valid_state.ensures ∙ c.if-not-valid_state.false in
    c.refusal_of_valid.ensures
    ∙ ap (λ (n : ℕ). measure_refusal_for a.state.now n (contribution a.counts.now a.lengths.now a.marks.now))
    (sym (valid_state_lem writer a.state.now a.scratch_len v).scratch_is)
