-- The parts of a packet whose header is gathered are those of the row that has its SOP, header and body one behind another.
use mathlib.Core.Path.{◌≡◌, refl, sym, ap, ◌∙◌, subst}
use mathlib.Core.List.{List, []}
use Prim.Native.Nat.{ℕ, ◌+◌, ◌-◌, ◌≤◌}
use native.Mathlib.Omega.{arith}
use lib.ListN.{length, take, drop}
use Rattle.t800.specs.declared.Bio.{Bio}
use Rattle.t800.specs.declared.Markers.{Markers}
use Rattle.t800.specs.Bits.{bytes_taken}
use Rattle.t800.specs.Reports.{as_found, room_for_all, body_bytes}
use Rattle.t800.specs.MarkerSegments.{MarkerRead, read_marker, read_sop, read_eph}
use Rattle.t800.specs.Packet.{ReadResult}
use Rattle.t800.specs.Gathered.{read_gathered, Parts, reports_for, parts_in_row, parts_gathered}
use Rattle.t800_laws.proofs.Laws.Tests.{if-eq}
use Rattle.bits_taken.specs.Taken.{Reached}
use Rattle.bits_taken.proofs.Laws.Counting.{none_past_inside}
use Rattle.past_end.specs.PastEnd.{last_bit}
use Rattle.past_end.proofs.SameBits.{bits_to}
use Rattle.past_end.proofs.SameMarkers.{sop_inside}
use Rattle.past_end.proofs.AcceptedReads.{told_at, result, accepted, last_reached, told_at-same, same_told}
use Rattle.gathered_headers.specs.Gathered.{gathered_read}
use Rattle.gathered_headers.proofs.Ends.{read-end}
use Rattle.gathered_headers.proofs.HeadersBehind.{further_on, agree, end_there, taken_there, eph_there}
use Rattle.gathered_headers.proofs.SameReading.{eph_alone, sop_there}
use Rattle.gathered_headers.proofs.RowReads.{taken_of}

-- what a read of the row tells of the parts, SOP's bytes skipped
abbrev parts_of_lem : (skip : ℕ) → ReadResult as_found → Parts
parts_of_lem skip r = record {
  refusal = r.answer.refusal;
  state = r.state;
  sop = skip;
  header = r.answer.taken - skip;
  body = body_bytes r.records;
}

-- where no bit lies past the headers' end
pub same_parts_back : (state : List ℕ) (m : Markers) (row headers bodies : List ℕ)
    → let p = parts_gathered state m headers bodies in
    let a = (gathered_read state m headers bodies).answer in
    p.refusal ≡ 0
    → a.sop ≡ 0
    → a.eph ≡ 0
    → a.past ≡ 0
    → take p.sop row ≡ take p.sop bodies
    → take p.header (drop p.sop row) ≡ take p.header headers
    → parts_in_row state m row ≡ p
unfolding parts_in_row parts_gathered read_gathered read_sop read_marker
same_parts_back state m row headers bodies ok sop0 eph0 past0 sops front =
    let n : Markers = eph_alone m in
    let r : ReadResult as_found = result as_found state state n (reports_for state) [] headers in
    let a = accepted as_found state state n (reports_for state) [] headers ok in
    let e : Bio = last_bit state n headers room_for_all in
    let sop : MarkerRead = read_sop m bodies in
    let s : ℕ = sop.skip in
    let at : ℕ = bytes_taken headers e in
    let t : ℕ = r.answer.taken in
    let p : Parts = parts_gathered state m headers bodies in
    let skip : p.sop ≡ s = if-eq r.answer.refusal 0 sop.skip 0 ok in
    let mark : sop.mark ≡ 0 = sym (if-eq r.answer.refusal 0 sop.mark 0 ok) ∙ sop0 in
    let told : r ≡ told_at as_found n headers e r = told_at-same as_found state state n (reports_for state) [] headers a in
    let taken : t ≡ at + (read_eph n headers at).skip = ap (λ (x : ReadResult as_found). x.answer.taken) told in
    let eph : (read_eph n headers at).mark ≡ 0 = sym (ap (λ (x : ReadResult as_found). x.answer.eph) told) ∙ eph0 in
    let reached : Reached headers 0 e = last_reached as_found state state n (reports_for state) [] headers a in
    let end = read-end as_found state state n (reports_for state) [] headers a in
    let inside : e.bp ≤ length headers = none_past_inside headers 0 e reached
    (sym (ap (λ (x : ReadResult as_found). x.answer.past) told) ∙ past0) in
    let up_to : at ≤ t = omega arith in
    let in_headers : t ≤ length headers = (taken_of as_found state state n headers (reports_for state) [] ok).inside in
    let sop' : read_sop m row ≡ sop = sop_there m bodies row mark (subst (λ (k : ℕ). take k row ≡ take k bodies) skip sops) in
    let skip' : (read_sop m row).skip ≡ s = ap (λ (x : MarkerRead). x.skip) sop' in
    let in_row : s ≤ length row = omega (arith, sop_inside m row) in
    let front' : take t (drop s row) ≡ take t headers = subst (λ (k : ℕ). take t (drop k row) ≡ take t headers) skip front in
    let there : Bio = bits_to (further_on s e.bp) e in
    let same : result as_found state state m (reports_for state) [] row ≡ told_at as_found m row there r =
    same_told as_found state state n m (reports_for state) [] headers row (further_on s e.bp)
    (agree headers row s t e reached end inside up_to in_headers in_row front') (omega arith) (omega arith) a (omega arith)
    (λ _. end_there headers row s t e reached end inside up_to in_headers in_row front') in
    let eph' = eph_there headers row s t e reached end inside up_to in_headers in_row front' n m refl eph (sym taken) in
    let k : ℕ = bytes_taken row there in
    let header : k + (read_eph m row k).skip - (read_sop m row).skip ≡ t =
    omega (
      arith,
      taken_there headers row s t e reached end inside up_to in_headers in_row front',
      ap (λ (x : MarkerRead). x.skip) eph',
    ) in
    ap (parts_of_lem (read_sop m row).skip) same
    ∙ (λ i. record {
      refusal = sym ok i;
      state = r.state;
      sop = (skip' ∙ sym skip) i;
      header = header i;
      body = body_bytes r.records;
    })

-- no more header bytes than there are
pub headers-inside : (state : List ℕ) (m : Markers) (headers bodies : List ℕ)
    → let p = parts_gathered state m headers bodies in p.refusal ≡ 0 → p.header ≤ length headers
unfolding parts_gathered read_gathered
headers-inside state m headers bodies ok = (taken_of as_found state state (eph_alone m) headers (reports_for state) [] ok).inside
