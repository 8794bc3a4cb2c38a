-- What an accepted read takes of its row, and a packet's parts in a row and apart.
use mathlib.Core.Path.{◌≡◌, ap, ◌∙◌}
use mathlib.Core.Logic.{◌≢◌}
use mathlib.Core.List.{List, []}
use Prim.Native.Nat.{ℕ, ◌+◌, ◌^◌, ◌≤◌}
use native.Mathlib.Omega.{arith}
use lib.ListN.{length, take, drop}
use Rattle.t800.specs.declared.Bio.{Bio}
use Rattle.t800.specs.declared.Markers.{Markers}
use Rattle.t800.specs.Bits.{bio_at, bytes_taken}
use Rattle.t800.specs.Reports.{RecordForm, as_found, body_bytes}
use Rattle.t800.specs.MarkerSegments.{read_sop}
use Rattle.t800.specs.Packet.{ReadResult, read}
use Rattle.t800.specs.Gathered.{GatheredResult, Parts, reports_for, parts_in_row, parts_gathered}
use Rattle.t800_laws.proofs.Laws.Tests.{on-lt}
use Rattle.bits_taken.specs.Taken.{Reached}
use Rattle.bits_taken.proofs.Laws.Inside.{none_past}
use Rattle.past_end.specs.PastEnd.{last_bit}
use Rattle.past_end.proofs.SameMarkers.{eph_inside}
use Rattle.past_end.proofs.AcceptedReads.{accepted, last_reached, told_at-same}
use Rattle.gathered_headers.specs.Gathered.{SameReading, row_read}
use Rattle.gathered_headers.proofs.Ends.{Ending, ending, read-end, taken_between}
use Rattle.gathered_headers.proofs.SameReading.{same_reading}

-- t bytes of the row, with SOP's and no more than there are, and all of them where bits lie past its end
pub record TakenOf (row : List ℕ) (sop t past : ℕ) : Type 0 where
  pub with_sop_lem : sop ≤ t
  pub inside : t ≤ length row
  pub all_of_it : past ≢ 0 → t ≡ length row

pub taken_of : (form : RecordForm) (state scratch : List ℕ) (m : Markers) (row reports : List ℕ) (records : form.Lent)
    → let r = read form state scratch m row reports records in
    r.answer.refusal ≡ 0 → TakenOf row (read_sop m row).skip r.answer.taken r.answer.past
taken_of form state scratch m row reports records ok =
    let a = accepted form state scratch m reports records row ok in
    let e : Bio = last_bit state m row (form.room records) in
    let s : ℕ = (read_sop m row).skip in
    let at : ℕ = bytes_taken row e in
    let told = told_at-same form state scratch m reports records row a in
    let taken = ap (λ (r : ReadResult form). r.answer.taken) told in
    let past = ap (λ (r : ReadResult form). r.answer.past) told in
    let reached : Reached row s e = last_reached form state scratch m reports records row a in
    let ends : Ending row s e = ending row s e reached (read-end form state scratch m reports records row a) in
    let between = taken_between row s e ends in
    let in_row = eph_inside m row at between.1 in
    record {
      with_sop_lem = omega arith;
      inside = omega arith;
      all_of_it = λ n. on-lt (length row) e.bp (λ b. omega (arith, (ends.behind b).0))
          (λ i. absurd (n (past ∙ none_past row (2 ^ 39) (bio_at s) e reached.takes i)));
    }

-- ---- a packet's parts

abbrev parts_told : GatheredResult as_found → Parts
parts_told r = record {
  refusal = r.answer.refusal;
  state = r.state;
  sop = r.answer.taken;
  header = r.answer.headers;
  body = body_bytes r.records;
}

-- a packet's parts are the same where its header is in front of gathered headers, and its SOP in front of the bodies
pub same_parts : (state : List ℕ) (m : Markers) (row headers bodies : List ℕ)
    → let p = parts_in_row state m row in
    let r = row_read state m row in
    p.refusal ≡ 0
    → r.answer.sop ≡ 0
    → r.answer.eph ≡ 0
    → take p.header headers ≡ take p.header (drop p.sop row)
    → (r.answer.past ≢ 0 → length headers ≡ p.header)
    → take p.sop bodies ≡ take p.sop row
    → parts_gathered state m headers bodies ≡ parts_in_row state m row
unfolding parts_in_row parts_gathered SameReading
same_parts state m row headers bodies ok sop eph front whole sops =
    ap parts_told (same_reading as_found state state m row headers bodies (reports_for state) [] ok sop eph front whole sops)

-- where its row goes on: behind SOP and header, which are all of it where bits lie past its end
pub parts_taken : (state : List ℕ) (m : Markers) (row : List ℕ)
    → let p = parts_in_row state m row in
    let a = (row_read state m row).answer in
    p.refusal ≡ 0 → (p.sop + p.header ≡ a.taken) × (a.past ≢ 0 → p.sop + p.header ≡ length row)
unfolding parts_in_row
parts_taken state m row ok =
    let t = taken_of as_found state state m row (reports_for state) [] ok in
    let e = t.with_sop_lem in
    (omega arith, λ n. omega (arith, t.all_of_it n))
