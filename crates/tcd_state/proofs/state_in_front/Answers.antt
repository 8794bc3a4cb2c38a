use Rattle.std.specs.Prelude.{Some, None}
use lib.Dec.{leb}
use lib.ListN.{length}
use mathlib.Core.Bool.{false, true, cond, ◌&&◌}
use mathlib.Core.List.{List}
use mathlib.Core.Path.{◌∙◌, ap, refl, sym}
use native.Mathlib.Omega.{arith}
use Rattle.t800.specs.declared.Band.{Band}
use Rattle.t800.specs.Ranges.{bands_in_range}
use Rattle.t800.specs.State.{state_length}
use Rattle.tcd_laws.proofs.Laws.FirstWords.{first_bands}
use Rattle.tcd_state.proofs.Laws.RangeParts.{sides_known}
use Rattle.tcd_state.proofs.Laws.Front.{front-too_short, front-parts}
use Rattle.tcd_state.proofs.state_in_front.Goals as goal

pub returns-then-states-lt13 : goal.returns-then-states-lt13
returns-then-states-lt13 c = let a = c.args in front-too_short a.role a.states.now c.if-states-lt13.true

pub returns-then-not-first_words_in_range : goal.returns-then-not-first_words_in_range
returns-then-not-first_words_in_range c =
    let a = c.args in
    front-parts a.role a.states.now false _ (sym c.if-not-first_words_in_range.true ∙ c.first_words_in_range.ensures) refl

pub bands_in_range-requires : goal.bands_in_range-requires
bands_in_range-requires c =
    let a = c.args in
    let first = sym c.first_words_in_range.ensures ∙ c.if-not-first_words_in_range.false in
    let k = sides_known a.role a.states.now _ _ first c.word-n.ensures c.bands_of-bands.ensures in
    (k.0, k.1, omega (arith, c.if-states-lt13.false))

pub returns : goal.returns
returns c =
    let a = c.args in
    let ws = a.states.now in
    let first = sym c.if-not-first_words_in_range.false ∙ c.first_words_in_range.ensures in
    let b = first_bands ws _ _ c.word-n.ensures c.bands_of-bands.ensures in
    front-parts a.role ws true _ first
    (c.bands_in_range.ensures
    ∙ ap (λ (bs : List Band). cond (leb (state_length bs) (length ws) && bands_in_range ws 13 bs) (Some (state_length bs)) None) b)
