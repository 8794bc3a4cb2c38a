use mathlib.Core.Path.{sym, ◌∙◌}
use Rattle.t2_unpack_headers.proofs.Laws.Sizes.{no_front, cut_short, low_field, no_ff, no_marker, other_index, right_size}
use Rattle.t2_unpack_headers.proofs.size_at.Goals as goal

pub returns-then-left : goal.returns-then-left
returns-then-left c =
    let s = c in
    no_front s.args.segments.now s.args.index s.args.at c.if-left.true

pub returns-then-left-field : goal.returns-then-left-field
returns-then-left-field c =
    let s = c in
    cut_short s.args.segments.now s.args.index s.args.at _ c.field_at-field.ensures.field c.if-left-field.true

pub returns-then-field-lt4 : goal.returns-then-field-lt4
returns-then-field-lt4 c =
    let s = c in
    low_field s.args.segments.now s.args.index s.args.at _ c.field_at-field.ensures.field
    c.if-left-field.false c.if-field-lt4.true

pub returns-then-segments-at : goal.returns-then-segments-at
returns-then-segments-at c =
    let t = c in
    let s = t in
    no_ff s.args.segments.now s.args.index s.args.at _ t.field_at-field.ensures.field t.if-left-field.false
    t.if-field-lt4.false c.if-segments-at.true

pub returns-then-segments-at-ne97 : goal.returns-then-segments-at-ne97
returns-then-segments-at-ne97 c =
    let t = c in
    let s = t in
    no_marker s.args.segments.now s.args.index s.args.at _ t.field_at-field.ensures.field t.if-left-field.false
    t.if-field-lt4.false c.if-segments-at.false c.if-segments-at-ne97.true

pub returns-then-from-index : goal.returns-then-from-index
returns-then-from-index c =
    let t = c in
    let s = t in
    let b = c in
    other_index s.args.segments.now s.args.index s.args.at _ t.field_at-field.ensures.field
    t.if-left-field.false t.if-field-lt4.false b.if-segments-at.false b.if-segments-at-ne97.false
    (λ q. c.if-from-index.true (c.from.ensures ∙ q))

pub returns : goal.returns
returns c =
    let t = c in
    let s = t in
    let b = c in
    right_size s.args.segments.now s.args.index s.args.at _ t.field_at-field.ensures.field
    t.if-left-field.false t.if-field-lt4.false b.if-segments-at.false b.if-segments-at-ne97.false
    (sym c.from.ensures ∙ c.if-from-index.false)
