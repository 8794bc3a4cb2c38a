use mathlib.Core.Path.{◌≡◌, subst}
use native.Mathlib.Omega.{arith}
use lib.ListN.{length}
use Rattle.std.proofs.Common.{Result, Ok, Err}
use Rattle.std.proofs.lemmas.Result.{err_from_is_err_and}
use Rattle.t800.specs.declared.Refusal.{Refusal}
use Rattle.t800.specs.Base.{Words}
use Rattle.t800.specs.Gathered.{Parts}
use Rattle.t2_skip_packet.specs.declared.Parts as Counts
use Rattle.t2_skip_packet.specs.Parts.{SkipsPacket, skipped}
use Rattle.t2_skip_packet.proofs.Laws.Numbers.{refusal_counts}
use Rattle.t2_spread_packet.proofs.Laws.Sizes.{by_reader}
use Rattle.t2_spread_packet.proofs.Laws.Moving.{turned_away, fits, header_inside, moved_back}
use Rattle.t2_spread_packet.proofs.spread_packet.Goals as goal

pub skip_gathered-s-requires : goal.skip_gathered-s-requires
skip_gathered-s-requires c =
    let q = c.requires in
    (q.0, q.1.window_on, q.2, omega (arith, q.1.inside, q.2))

-- the parts that were found

found : (p : Parts) (vs : Words) (r q : Result Counts.Parts Refusal) → SkipsPacket p vs (skipped r) → r ≡ q → SkipsPacket p vs (skipped q)
found p vs r q k e = subst (λ (x : Result Counts.Parts Refusal). SkipsPacket p vs (skipped x)) e k

pub returns-in_err-p : goal.returns-in_err-p
returns-in_err-p c =
    let a = c.args in
    let why = c.in_err-p.field-0.0 in
    let k = found _ _ _ (Err why) c.skip_gathered-s.ensures.0 c.in_err-p.was in
    let r = err_from_is_err_and c.from_residual.result c.from_residual.ensures.1 in
    rw (r.1, r.2) (turned_away a.segments.now a.bodies.now a.m a.words.now a.row.now a.g _ _ (skipped (Err why)) k _ why
    (by_reader (skipped (Err why)) (length a.bodies.now) a.g.row (length a.row.now) (refusal_counts why)))

pub returns-in_err-sizes_fit : goal.returns-in_err-sizes_fit
returns-in_err-sizes_fit c =
    let a = c.args in
    let p = c.in_ok-p.p in
    let k = found _ _ _ (Ok p) c.skip_gathered-s.ensures.0 c.in_ok-p.was in
    let r = err_from_is_err_and c.from_residual-in_err-sizes_fit.result c.from_residual-in_err-sizes_fit.ensures.1 in
    rw (r.1, r.2) (turned_away a.segments.now a.bodies.now a.m a.words.now a.row.now a.g _ _ (skipped (Ok p)) k _
    c.in_err-sizes_fit.field-0.0 c.in_err-sizes_fit.ensures)

pub put_packet-segment-requires : goal.put_packet-segment-requires
put_packet-segment-requires c =
    let a = c.args in
    let p = c.in_ok-p.p in
    let k = found _ _ _ (Ok p) c.skip_gathered-s.ensures.0 c.in_ok-p.was in
    let n = c.in_ok-sizes_fit.ensures in
    let f = fits a.segments.now a.bodies.now a.m a.words.now a.row.now a.g _ c.skip_gathered-s.new.window (skipped (Ok p)) k n in
    let h = header_inside a.segments.now a.bodies.now a.m a.words.now a.row.now a.g _ c.skip_gathered-s.new.window (skipped (Ok p)) k n
    c.requires.1.inside in
    (c.requires.1.segment.cursor, c.requires.1.segment.before, h, f.in_bodies, f.in_row)

pub moved_on-requires : goal.moved_on-requires
moved_on-requires c =
    let a = c.args in
    let p = c.in_ok-p.p in
    let k = found _ _ _ (Ok p) c.skip_gathered-s.ensures.0 c.in_ok-p.was in
    let n = c.in_ok-sizes_fit.ensures in
    let f = fits a.segments.now a.bodies.now a.m a.words.now a.row.now a.g _ c.skip_gathered-s.new.window (skipped (Ok p)) k n in
    let h = header_inside a.segments.now a.bodies.now a.m a.words.now a.row.now a.g _ c.skip_gathered-s.new.window (skipped (Ok p)) k n
    c.requires.1.inside in (
      omega (arith, h, c.requires.2, c.ranges.plain),
      omega (arith, c.requires.3, f.in_bodies),
      omega (arith, f.in_row, c.well_formed),
    )

pub returns : goal.returns
returns c =
    let a = c.args in
    let p = c.in_ok-p.p in
    let k = found _ _ _ (Ok p) c.skip_gathered-s.ensures.0 c.in_ok-p.was in
    moved_back a.segments.now a.bodies.now a.m a.words.now a.row.now a.g _ c.skip_gathered-s.new.window (skipped (Ok p)) k
    c.in_ok-sizes_fit.ensures c.requires.1.inside c.skip_gathered-s.result.base c.skip_gathered-s.ensures.1
    _ _ _ c.put_packet-segment.ensures c.moved_on.ensures
