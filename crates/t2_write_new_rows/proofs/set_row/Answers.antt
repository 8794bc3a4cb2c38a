use mathlib.Core.Path.{sym, ap, ◌∙◌, subst}
use mathlib.Core.List.{List}
use Prim.Native.Nat.{ℕ, ◌+◌}
use lib.ListN.{length, get_or}
use Rattle.t800.specs.State.{Block}
use Rattle.tcd_places.specs.declared.Place.{Place}
use Rattle.tcd_places.specs.Places.{BlockIn, RowIn, block_in}
use Rattle.tcd_places.proofs.Laws.Rows.{block_in-inside, row_end}
use Rattle.t2_write_new_rows.specs.Setting.{set_next, set_all}
use Rattle.t2_write_new_rows.proofs.Laws.Rows.{sets_then}
use Rattle.t2_write_new_rows.proofs.set_row.Goals as goal

pub set_next-requires : goal.set_next-requires
set_next-requires c =
    let s = c in
    let a = s.args in
    let l = c.loop-i in
    let r = subst (λ (k : ℕ). RowIn k a.p a.row.now a.n) (sym l.invariant.0) s.requires.0 in
    subst (λ (k : Place). BlockIn (length l.words) k a.row.now) (sym c.place_at-place.ensures)
    (block_in-inside (length l.words) a.n l.i a.p a.row.now c.loop-i-test.true r)

pub loop-i-preserved : goal.loop-i-preserved
loop-i-preserved c =
    let s = c in
    let a = s.args in
    let l = c.loop-i in
    let t = c.loop-i-test.true in
    let g = c.set_next in
    let e = g.ensures ∙ ap
    (λ (k : Place). set_next a.layer (block_in k a.row.now 0) (get_or a.counts.now (a.block + l.i) 0) l.words)
    c.place_at-place.ensures in (
      g.auto.words ∙ l.invariant.0,
      sets_then a.n l.i a.p a.row.now t a.layer a.block a.counts.now
          l.words _ e ∙ l.invariant.1,
    )

pub returns : goal.returns
unfolding set_all
returns c =
    let a = c.args in
    let l = c.loop-i in
    sym (ap (λ (ks : List Block). set_all a.layer a.counts.now ks (a.block + l.i) l.words)
    (row_end a.p a.row.now 0 a.n l.i c.loop-i-test.false)) ∙ l.invariant.1
