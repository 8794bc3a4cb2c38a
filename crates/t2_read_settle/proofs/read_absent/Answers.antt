use mathlib.Core.Path.{sym}
use native.Mathlib.Omega.{arith}
use lib.ListN.{length, length-set}
use Rattle.t800.specs.State.{reader}
use Rattle.tcd_laws.proofs.Laws.ValidStates.{valid_state_lem, thirteen_words}
use Rattle.t2_read_marks.specs.Marks.{marker_read}
use Rattle.t2_read_settle.proofs.Laws.Absent.{absent-is}
use Rattle.t2_read_settle.proofs.read_absent.Goals as goal

pub bounds-state-3 : goal.bounds-state-3
bounds-state-3 c =
    let s = c in
    let ws = s.args.state.now in
    let v = valid_state_lem reader ws (length s.args.scratch.now) s.requires.0 in
    omega (arith, thirteen_words ws (length s.args.scratch.now) v)

pub bounds-state-3-2 : goal.bounds-state-3-2
bounds-state-3-2 c =
    let s = c in
    let ws = s.args.state.now in
    let v = valid_state_lem reader ws (length s.args.scratch.now) s.requires.0 in
    omega (arith, thirteen_words ws (length s.args.scratch.now) v)

pub copy-requires : goal.copy-requires
copy-requires c =
    let s = c in
    let ws = s.args.state.now in
    let v = valid_state_lem reader ws (length s.args.scratch.now) s.requires.0 in
    simp length-set (sym v.scratch_is)

pub returns : goal.returns
returns c =
    let s = c in
    λ records. absent-is s.args.state.now s.args.m s.args.src.now s.args.reports.now records
    (marker_read s.args.s) s.args.b _ _ _ c.copy.ensures
    c.wipe.ensures c.done.ensures
