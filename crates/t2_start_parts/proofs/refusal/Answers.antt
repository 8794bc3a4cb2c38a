use mathlib.Core.Path.{◌≡◌, ◌∙◌, ap, sym}
use lib.ListN.{length}
use Rattle.t800.specs.Ranges.{bad_style}
use Rattle.tcd_laws.proofs.Laws.Bands.{shape_not_refused}
use Rattle.t2_start_parts.proofs.Laws.Checks.{gives_1, gives_2, gives_3, gives_4, gives_none}
use borrow.Author.Rules.{rules}
use Rattle.t2_start_parts.proofs.refusal.Goals as goal

pub returns-then-bad_shape : goal.returns-then-bad_shape
returns-then-bad_shape c = let s = c.args in
    sym (gives_1 s.role s.count s.bands s.style s.planes.now s.state.now
    (sym c.bad_shape.ensures ∙ c.if-bad_shape.true))

pub returns-then-is_refused : goal.returns-then-is_refused
returns-then-is_refused c =
    let s = c.args in
    let g : length s.bands ≡ 3 = search rules in
    sym (gives_2 s.role s.count s.bands s.style s.planes.now s.state.now g
    (sym c.bad_shape.ensures ∙ c.if-bad_shape.false)
    (ap bad_style (sym c.from-bits.ensures) ∙ sym c.is_refused.ensures ∙ c.if-is_refused.true))

pub wrong_list-requires : goal.wrong_list-requires
wrong_list-requires c = let s = c.args in let h =
    shape_not_refused s.count s.bands (sym c.bad_shape.ensures ∙ c.if-bad_shape.false) in
    (h.1, h.2)

pub returns-then-wrong_list : goal.returns-then-wrong_list
returns-then-wrong_list c =
    let s = c.args in
    let g : length s.bands ≡ 3 = search rules in
    sym (gives_3 s.role s.count s.bands s.style s.planes.now s.state.now g
    (sym c.bad_shape.ensures ∙ c.if-bad_shape.false)
    (ap bad_style (sym c.from-bits.ensures) ∙ sym c.is_refused.ensures ∙ c.if-is_refused.false)
    (sym c.wrong_list.ensures ∙ c.if-wrong_list.true))

pub too_deep-requires : goal.too_deep-requires
too_deep-requires c = let s = c.args in let h =
    shape_not_refused s.count s.bands
    (sym c.bad_shape.ensures ∙ c.if-bad_shape.false) in
    (h.1, h.2)

pub returns-then-too_deep : goal.returns-then-too_deep
returns-then-too_deep c =
    let s = c.args in
    let g : length s.bands ≡ 3 = search rules in
    sym (gives_4 s.role s.count s.bands s.style s.planes.now s.state.now g
    (sym c.bad_shape.ensures
    ∙ c.if-bad_shape.false)
    (ap bad_style (sym c.from-bits.ensures) ∙ sym c.is_refused.ensures ∙ c.if-is_refused.false)
    (sym c.wrong_list.ensures ∙ c.if-wrong_list.false)
    (sym c.too_deep.ensures ∙ c.if-too_deep.true))

pub returns : goal.returns
returns c =
    let s = c.args in
    let g : length s.bands ≡ 3 = search rules in
    sym (gives_none s.role s.count s.bands s.style s.planes.now s.state.now g
    (sym c.bad_shape.ensures
    ∙ c.if-bad_shape.false)
    (ap bad_style (sym c.from-bits.ensures) ∙ sym c.is_refused.ensures ∙ c.if-is_refused.false)
    (sym c.wrong_list.ensures ∙ c.if-wrong_list.false)
    (sym c.too_deep.ensures ∙ c.if-too_deep.false))
