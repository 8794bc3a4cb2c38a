use mathlib.Core.Path.{sym, ap, ◌∙◌, subst}
use native.Mathlib.Omega.{arith}
use Rattle.t2_read_segments.specs.declared.Run.{Run}
use Rattle.t2_skip_windows.specs.Windows.{WindowOn}
use Rattle.t2_skip_gathered.specs.declared.FirstBit.{FirstBit}
use Rattle.t2_skip_gathered.proofs.Laws.Arrivals.{bit_somewhere, refused-up_to, place_fits, filled-up_to}
use Rattle.t2_skip_gathered.proofs.skip_header.Goals as goal

pub first_bit-first-requires : goal.first_bit-first-requires
first_bit-first-requires c = omega (arith, ap (λ (r : Run). r.bio.ct) c.stand_at-front.ensures.1.run)

pub skip_after-o-requires : goal.skip_after-o-requires
skip_after-o-requires c =
    let s = c in
    let a = s.args in
    let g = c.stand_at-front in
    let b = c.first_bit-first in (
      s.requires.0,
      s.requires.1,
      subst (λ (x : FirstBit). WindowOn a.segments.now g.new.window x.stand.base) (sym b.ensures) g.ensures.0,
      bit_somewhere a.segments.now a.words.now a.at g.result g.new.window g.ensures.0 g.ensures.1 b.result
          b.ensures s.requires.3,
    )

pub returns-then-o-ne0 : goal.returns-then-o-ne0
returns-then-o-ne0 c =
    let s = c in
    let a = s.args in
    let g = c.stand_at-front in
    let b = c.first_bit-first in
    let k = c.skip_after-o in
    refused-up_to a.segments.now a.words.now a.at g.result g.new.window g.ensures.0 g.ensures.1 b.result
    b.ensures s.requires.3 k.new.window k.new.words k.result k.ensures c.if-o-ne0.true

pub fill-requires : goal.fill-requires
fill-requires c =
    let s = c in
    let a = s.args in
    let g = c.stand_at-front in
    let b = c.first_bit-first in
    let k = c.skip_after-o in (
      k.ensures.window_on,
      place_fits a.segments.now a.words.now a.at g.result g.new.window g.ensures.0 g.ensures.1 b.result
          b.ensures s.requires.3 k.new.window k.new.words k.result k.ensures c.if-o-ne0.false,
    )

pub shape_of-window : goal.shape_of-window
shape_of-window c = c.fill.auto.window ∙ c.skip_after-o.auto.window ∙ c.stand_at-front.auto.window

pub returns : goal.returns
returns c =
    let s = c in
    let a = s.args in
    let g = c.stand_at-front in
    let b = c.first_bit-first in
    let k = c.skip_after-o in
    let f = c.fill in
    filled-up_to a.segments.now a.words.now a.at g.result g.new.window g.ensures.0 g.ensures.1 b.result
    b.ensures s.requires.3 k.new.window k.new.words k.result k.ensures f.new.window f.result f.ensures.0
    f.ensures.1

pub stand_at-front-requires : goal.stand_at-front-requires
stand_at-front-requires c = c.requires.2

pub shape_of-words-then-o-ne0 : goal.shape_of-words-then-o-ne0
shape_of-words-then-o-ne0 c = c.skip_after-o.auto.words

pub shape_of-window-then-o-ne0 : goal.shape_of-window-then-o-ne0
shape_of-window-then-o-ne0 c = c.skip_after-o.auto.window ∙ c.stand_at-front.auto.window

pub shape_of-words : goal.shape_of-words
shape_of-words c = c.skip_after-o.auto.words
