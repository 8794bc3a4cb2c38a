use mathlib.Core.Path.{sym, ◌∙◌, subst}
use Prim.Native.Nat.{ℕ, ◌+◌, ◌*◌, ◌≤◌}
use native.Mathlib.Omega.{arith}
use lib.ListN.{length}
use Rattle.std.proofs.Common.{Ok, Err}
use Rattle.std.proofs.lemmas.Result.{err_from_is_err_and}
use Rattle.t800.specs.PackedHeaders.{most_bytes, most_segments}
use Rattle.t800.specs.Gathered.{parts_in_row}
use Rattle.t2_pack_headers.specs.Packing.{packed_length}
use Rattle.t2_skip_packet.specs.Parts.{SkipsPacket, skipped}
use Rattle.t2_skip_packet.proofs.Laws.Numbers.{refusal_counts}
use Rattle.t2_gather_packet.proofs.Laws.Sizes.{by_reader, parts_fit}
use Rattle.t2_gather_packet.proofs.Laws.Moving.{header_length, turned_away, gathered}
use Rattle.t2_gather_packet.proofs.gather_packet.Goals as goal

pub returns-in_err-p : goal.returns-in_err-p
returns-in_err-p c =
    let a = c.args in
    let why = c.in_err-p.field-0.0 in
    let k : SkipsPacket (parts_in_row a.words.now a.m a.row.now) c.opj_t2_skip_packet.new.words (skipped (Err why)) =
    c.in_err-p.ensures in
    let r = err_from_is_err_and c.from_residual.result c.from_residual.ensures.1 in
    rw (r.1, r.2) (turned_away a.row.now a.m a.words.now a.headers.now a.bodies.now a.g _ (skipped (Err why)) k _ _ why
    (by_reader (skipped (Err why)) a.g (length a.row.now) (length a.headers.now) (length a.bodies.now) (refusal_counts why)))

pub returns-in_err-sizes_fit : goal.returns-in_err-sizes_fit
returns-in_err-sizes_fit c =
    let a = c.args in
    let r = err_from_is_err_and c.from_residual-in_err-sizes_fit.result c.from_residual-in_err-sizes_fit.ensures.1 in
    rw (r.1, r.2) (turned_away a.row.now a.m a.words.now a.headers.now a.bodies.now a.g _ (skipped (Ok c.in_ok-p.p))
    c.in_ok-p.ensures _ _ c.in_err-sizes_fit.field-0.0 c.in_err-sizes_fit.ensures)

pub overflow_add-end : goal.overflow_add-end
overflow_add-end c =
    let r = c in
    let f = parts_fit (skipped (Ok c.in_ok-p.p)) c.args.g (length c.args.row.now) (length c.args.headers.now)
    (length c.args.bodies.now) (sym c.in_ok-sizes_fit.ensures) in
    omega (arith, r.requires.1)

pub slice_bounds-put_header-end : goal.slice_bounds-put_header-end
slice_bounds-put_header-end c =
    let r = c in
    let f = parts_fit (skipped (Ok c.in_ok-p.p)) c.args.g (length c.args.row.now) (length c.args.headers.now)
    (length c.args.bodies.now) (sym c.in_ok-sizes_fit.ensures) in
    omega arith

pub put_header-requires : goal.put_header-requires
put_header-requires c =
    let r = c in
    let f = parts_fit (skipped (Ok c.in_ok-p.p)) c.args.g (length c.args.row.now) (length c.args.headers.now)
    (length c.args.bodies.now) (sym c.in_ok-sizes_fit.ensures) in
    let a = r.args in
    let n = a.g.headers in
    let p = r.in_ok-p.p in
    subst (λ (k : ℕ). (packed_length (n + k) ≤ length a.headers.now) × (n + k ≤ most_segments * most_bytes))
    (sym (header_length a.row.now p.sop p.header (omega arith)))
    (f.headers_fit, f.few_headers)

pub put_bodies-requires : goal.put_bodies-requires
put_bodies-requires c =
    let r = c in
    let f = parts_fit (skipped (Ok c.in_ok-p.p)) c.args.g (length c.args.row.now) (length c.args.headers.now)
    (length c.args.bodies.now) (sym c.in_ok-sizes_fit.ensures) in
    (f.in_row, f.bodies_fit)

pub overflow_add-result : goal.overflow_add-result
overflow_add-result c =
    let r = c in
    let f = parts_fit (skipped (Ok c.in_ok-p.p)) c.args.g (length c.args.row.now) (length c.args.headers.now)
    (length c.args.bodies.now) (sym c.in_ok-sizes_fit.ensures) in
    omega (arith, r.requires.1)

pub overflow_add-result-2 : goal.overflow_add-result-2
overflow_add-result-2 c =
    let r = c in
    let f = parts_fit (skipped (Ok c.in_ok-p.p)) c.args.g (length c.args.row.now) (length c.args.headers.now)
    (length c.args.bodies.now) (sym c.in_ok-sizes_fit.ensures) in
    omega (arith, r.requires.1)

pub overflow_add-result-3 : goal.overflow_add-result-3
overflow_add-result-3 c =
    let r = c in
    let f = parts_fit (skipped (Ok c.in_ok-p.p)) c.args.g (length c.args.row.now) (length c.args.headers.now)
    (length c.args.bodies.now) (sym c.in_ok-sizes_fit.ensures) in
    omega arith

pub overflow_add-result-4 : goal.overflow_add-result-4
overflow_add-result-4 c =
    let r = c in
    let f = parts_fit (skipped (Ok c.in_ok-p.p)) c.args.g (length c.args.row.now) (length c.args.headers.now)
    (length c.args.bodies.now) (sym c.in_ok-sizes_fit.ensures) in
    omega (arith, r.requires.1)

pub overflow_add-result-5 : goal.overflow_add-result-5
overflow_add-result-5 c =
    let r = c in
    let f = parts_fit (skipped (Ok c.in_ok-p.p)) c.args.g (length c.args.row.now) (length c.args.headers.now)
    (length c.args.bodies.now) (sym c.in_ok-sizes_fit.ensures) in
    omega (arith, r.well_formed)

pub returns : goal.returns
returns c =
    let a = c.args in
    gathered a.row.now a.m a.words.now a.headers.now a.bodies.now a.g _ (skipped (Ok c.in_ok-p.p)) c.in_ok-p.ensures _ _
    c.in_ok-sizes_fit.ensures c.put_header.ensures c.put_bodies.ensures
