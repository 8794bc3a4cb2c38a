use mathlib.Core.Path.{refl, sym, ap, ◌∙◌, subst}
use mathlib.Core.List.{List}
use Prim.Native.Nat.{ℕ, ◌*◌}
use native.Mathlib.Omega.{arith}
use lib.ListN.{length}
use Rattle.t800.specs.declared.Band.{Band}
use Rattle.t800.specs.State.{reader, blocks}
use Rattle.tcd_laws.specs.Geometry.{AllUpTo64}
use Rattle.tcd_laws.proofs.Laws.FirstWords.{first_bands}
use Rattle.tcd_laws.proofs.Laws.ValidStates.{valid_state_lem, thirteen_words}
use Rattle.tcd_laws.proofs.Laws.Bands.{blocks-up_to_12288}
use Rattle.t2_read_refusals.proofs.Laws.Refusals.{refusal_5, refusal_6, refusal_3, no_refusal}
use Rattle.t2_read_refusals.proofs.read_refusal.Goals as goal

pub returns-then-not-valid_state : goal.returns-then-not-valid_state
unfolding reader
returns-then-not-valid_state c =
    let s = c in
    refusal_5 s.args.state.now s.args.scratch.now s.args.reports.now
    (sym c.valid_state.ensures ∙ c.if-not-valid_state.true)

pub bounds-state-3 : goal.bounds-state-3
unfolding reader
bounds-state-3 c =
    let s = c in
    let ws = s.args.state.now in
    let e = sym c.valid_state.ensures ∙ c.if-not-valid_state.false in
    let v = valid_state_lem reader ws (length s.args.scratch.now) e in
    omega (arith, thirteen_words ws (length s.args.scratch.now) v)

pub returns-then-state-eq-NOT_YET_INCLUDED : goal.returns-then-state-eq-NOT_YET_INCLUDED
unfolding reader
returns-then-state-eq-NOT_YET_INCLUDED c =
    let s = c in
    refusal_6 s.args.state.now s.args.scratch.now s.args.reports.now
    (sym c.valid_state.ensures ∙ c.if-not-valid_state.false) c.if-state-eq-NOT_YET_INCLUDED.true

pub bands_of-bands-requires : goal.bands_of-bands-requires
unfolding reader
bands_of-bands-requires c =
    let s = c in
    let ws = s.args.state.now in
    let e = sym c.valid_state.ensures ∙ c.if-not-valid_state.false in
    thirteen_words ws (length s.args.scratch.now) (valid_state_lem reader ws (length s.args.scratch.now) e)

pub bounds-state-1 : goal.bounds-state-1
unfolding reader
bounds-state-1 c =
    let s = c in
    let ws = s.args.state.now in
    let e = sym c.valid_state.ensures
    ∙ c.if-not-valid_state.false in
    let v = valid_state_lem reader ws (length s.args.scratch.now) e in
    omega (arith, thirteen_words ws (length s.args.scratch.now) v)

pub overflow_cast-n : goal.overflow_cast-n
unfolding reader
overflow_cast-n c =
    let s = c in
    let ws = s.args.state.now in
    let e = sym c.valid_state.ensures
    ∙ c.if-not-valid_state.false in
    let v = valid_state_lem reader ws (length s.args.scratch.now) e in
    omega (arith, v.three_bands_lem)

pub num_blocks-blocks-requires : goal.num_blocks-blocks-requires
unfolding reader
num_blocks-blocks-requires c =
    let s = c in
    let ws = s.args.state.now in
    let e = sym c.valid_state.ensures
    ∙ c.if-not-valid_state.false in
    let v = valid_state_lem reader ws (length s.args.scratch.now) e in
    (v.three_bands_lem, subst AllUpTo64 (sym (first_bands ws _ _ refl c.bands_of-bands.ensures)) v.sides)

pub overflow_mul-blocks : goal.overflow_mul-blocks
unfolding reader
overflow_mul-blocks c =
    let s = c in
    let ws = s.args.state.now in
    let e = sym c.valid_state.ensures
    ∙ c.if-not-valid_state.false in
    let v = valid_state_lem reader ws (length s.args.scratch.now) e in
    let b = blocks-up_to_12288 _ _ v.three_bands_lem
    (subst AllUpTo64 (sym (first_bands ws _ _ refl c.bands_of-bands.ensures)) v.sides) in
    omega (arith, c.num_blocks-blocks.ensures, b)

pub returns-then-reports-blocks : goal.returns-then-reports-blocks
unfolding reader
returns-then-reports-blocks c =
    let s = c in
    let ws = s.args.state.now in
    let m = c.num_blocks-blocks.ensures
    ∙ ap (λ (bs : List Band). length (blocks bs)) (first_bands ws _ _ refl c.bands_of-bands.ensures) in
    refusal_3 s.args.state.now s.args.scratch.now s.args.reports.now
    (sym c.valid_state.ensures
    ∙ c.if-not-valid_state.false) c.if-state-eq-NOT_YET_INCLUDED.false
    (λ z. c.if-reports-blocks.true (z ∙ ap (λ (n : ℕ). 4 * n) (sym m)))

pub returns : goal.returns
unfolding reader
returns c =
    let s = c in
    let ws = s.args.state.now in
    let m = c.num_blocks-blocks.ensures
    ∙ ap (λ (bs : List Band). length (blocks bs)) (first_bands ws _ _ refl c.bands_of-bands.ensures) in
    no_refusal s.args.state.now s.args.scratch.now s.args.reports.now
    (sym c.valid_state.ensures
    ∙ c.if-not-valid_state.false) c.if-state-eq-NOT_YET_INCLUDED.false
    (c.if-reports-blocks.false ∙ ap (λ (n : ℕ). 4 * n) m)
