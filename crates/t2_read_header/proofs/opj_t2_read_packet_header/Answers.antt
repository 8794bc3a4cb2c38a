use mathlib.Core.Path.{sym, subst}
use lib.ListN.{length}
use Rattle.t800.specs.State.{reader}
use Rattle.tcd_laws.proofs.Laws.ValidStates.{valid_state_lem}
use Rattle.t2_read_header.specs.Header.{ReadsHeader}
use Rattle.t2_read_header.proofs.Laws.HeaderEnd.{header_reads}
use Rattle.t2_read_header.proofs.opj_t2_read_packet_header.Goals as goal

pub returns : goal.returns
returns c =
    let s = c in
    let a = s.args in
    let ws = a.words.now in
    let v = valid_state_lem reader ws (length ws) s.requires.0 in
    subst (ReadsHeader a.src.now a.reports.now a.records.now ws a.b)
    (sym c.read_header.ensures)
    (header_reads a.src.now a.reports.now a.records.now ws a.b v s.requires.2 s.requires.3)
