use mathlib.Core.Path.{refl, sym, ap}
use Prim.Native.Nat.{◌≤◌}
use native.Mathlib.Omega.{arith}
use Rattle.t800.specs.WriteHeader.{contribution}
use Rattle.t2_refusal_laws.proofs.Laws.Accepted.{accepted, as_long, copy_accepted}
use Rattle.t2_write_packet.specs.Front.{BytesPut}
use Rattle.t2_write_packet.proofs.Laws.Front.{sop_up_to, front-put, header_ends}
use Rattle.t2_write_packet.proofs.put_front.Goals as goal

pub copy-requires : goal.copy-requires
copy-requires c =
    let s = c in
    let a = s.args in
    as_long a.state.now a.scratch.now (contribution a.counts.now a.lengths.now a.marks.now) 0 (sym s.requires) refl

pub encode_header-end-requires : goal.encode_header-end-requires
encode_header-end-requires c =
    let s = c in
    let a = s.args in
    let p = contribution a.counts.now a.lengths.now a.marks.now in (
      copy_accepted a.state.now a.scratch.now p 0 (sym s.requires) refl _
          c.copy.ensures,
      omega (
        arith,
        ap (λ (o : BytesPut). o.end) c.put_sop-start.ensures,
        sop_up_to a.markers.sop a.number,
      ),
    )

pub put_eph-requires : goal.put_eph-requires
put_eph-requires c =
    let s = c in
    let a = s.args in
    let p = contribution a.counts.now a.lengths.now a.marks.now in
    let start : c.put_sop-start.result ≤ 6 =
    omega (
      arith,
      ap (λ (o : BytesPut). o.end)
          c.put_sop-start.ensures,
      sop_up_to a.markers.sop a.number,
    ) in
    omega (
      arith,
      header_ends a.state.now _ p (accepted a.state.now a.scratch.now p 0 (sym s.requires) refl) _ _ _ _
          c.copy.ensures
          start c.encode_header-end.ensures,
    )

pub returns : goal.returns
returns c =
    let a = c.args in
    let p = contribution a.counts.now a.lengths.now a.marks.now in
    front-put p a.state.now a.markers a.number a.output.now _ _ _ _
    c.copy.ensures
    c.put_sop-start.ensures
    c.encode_header-end.ensures c.put_eph.ensures
