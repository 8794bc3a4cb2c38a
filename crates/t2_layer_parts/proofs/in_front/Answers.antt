use lib.ListN.{length, length-take}
use mathlib.Core.Path.{◌∙◌, ap, sym}
use native.Mathlib.Omega.{arith}
use Rattle.t800.specs.RefusalNumbers.{word_of}
use Rattle.t800.specs.State.{writer}
use Rattle.t800.specs.WriteHeader.{contribution}
use Rattle.tcd_state.specs.Front.{words_in_front}
use Rattle.tcd_state.proofs.Laws.Front.{no_words, some_words, valid_in_front}
use Rattle.t2_refusal_laws.proofs.Laws.Numbers.{number-not_0}
use Rattle.t2_layer_parts.proofs.Laws.Front.{valid_part, counts_add_up, why_is, front-state_refused}
use Rattle.t2_layer_parts.proofs.Laws.Front.{front-refused, body_refused_front, accepted_front, lengths_few}
use Rattle.t2_layer_parts.proofs.in_front.Goals as goal

pub returns-in_default : goal.returns-in_default
unfolding writer
returns-in_default c =
    let a = c.args in
    front-state_refused a.states.now (contribution a.counts.now a.lengths.now a.marks.now) a.bodies
    (no_words (words_in_front writer a.states.now) (sym c.in_default.is ∙ c.state_in_front.ensures))

pub lists_of-lists-requires : goal.lists_of-lists-requires
unfolding writer
lists_of-lists-requires c = omega (arith, some_words (words_in_front writer c.args.states.now) c.in-Some.ensures)

pub slice_bounds-refusal_of_valid-end : goal.slice_bounds-refusal_of_valid-end
unfolding writer
slice_bounds-refusal_of_valid-end c =
    let ws = c.args.states.now in
    let f = some_words (words_in_front writer ws) c.in-Some.ensures in
    let v = valid_in_front writer ws (omega (arith, f)) in
    omega (arith, length-take c.in-Some.words ws, f, v.words_are, v.there)

pub refusal_of_valid-requires : goal.refusal_of_valid-requires
unfolding writer
refusal_of_valid-requires c =
    let a = c.args in
    let f = some_words (words_in_front writer a.states.now) c.in-Some.ensures in (
      valid_part a.states.now _ f.0 f.1,
      λ h. counts_add_up a.states.now a.counts.now (length a.lengths.now) (length a.marks.now) _ c.lists_of-lists.ensures,
    )

pub returns-in-Some-refusal_of_valid : goal.returns-in-Some-refusal_of_valid
unfolding writer
returns-in-Some-refusal_of_valid c =
    let a = c.args in
    let p = contribution a.counts.now a.lengths.now a.marks.now in
    let f = some_words (words_in_front writer a.states.now) c.in-Some.ensures in
    let e = sym (ap word_of c.in-Some-refusal_of_valid.is) ∙ c.refusal_of_valid.ensures in
    front-refused a.states.now p a.bodies _ (why_is a.states.now p _ _ _ f.0 f.1 c.lists_of-lists.ensures e)
    (number-not_0 c.in-Some-refusal_of_valid.why)

pub total-bytes-requires : goal.total-bytes-requires
unfolding writer
total-bytes-requires c =
    let a = c.args in
    let p = contribution a.counts.now a.lengths.now a.marks.now in
    let f = some_words (words_in_front writer a.states.now) c.in-Some.ensures in
    lengths_few a.states.now p _ _ _ f.0 f.1 c.lists_of-lists.ensures c.refusal_of_valid.ensures (ap word_of c.in_default-refusal_of_valid.is)

pub returns-then-bodies-bytes : goal.returns-then-bodies-bytes
unfolding writer
returns-then-bodies-bytes c =
    let a = c.args in
    let p = contribution a.counts.now a.lengths.now a.marks.now in
    let f = some_words (words_in_front writer a.states.now) c.in-Some.ensures in
    body_refused_front a.states.now p _ _ _ f.0 f.1 c.lists_of-lists.ensures c.refusal_of_valid.ensures
    (ap word_of c.in_default-refusal_of_valid.is) a.bodies _ c.total-bytes.ensures c.if-bodies-bytes.true

pub returns : goal.returns
unfolding writer
returns c =
    let a = c.args in
    let p = contribution a.counts.now a.lengths.now a.marks.now in
    let f = some_words (words_in_front writer a.states.now) c.in-Some.ensures in
    accepted_front a.states.now p _ _ _ f.0 f.1 c.lists_of-lists.ensures c.refusal_of_valid.ensures
    (ap word_of c.in_default-refusal_of_valid.is) a.bodies _ c.total-bytes.ensures c.if-bodies-bytes.false
