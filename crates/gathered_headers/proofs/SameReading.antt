-- A read from gathered headers tells what the read of the row tells.
use mathlib.Core.Path.{◌≡◌, refl, sym, ap, ◌∙◌, subst}
use mathlib.Core.Logic.{◌≢◌}
use mathlib.Core.Bool.{false, cond}
use mathlib.Core.List.{List}
use Prim.Native.Nat.{ℕ, ◌+◌, ◌-◌, ◌≤◌}
use native.Mathlib.Omega.{arith}
use lib.ListN.{length, take, get_or, length-take}
use lib.Seq.{get_or-take}
use lib.Dec.{eqb}
use Rattle.t800.specs.declared.Bio.{Bio}
use Rattle.t800.specs.declared.Markers.{Markers}
use Rattle.t800.specs.Bits.{bio_at, bytes_taken, bits_past}
use Rattle.t800.specs.Reports.{RecordForm}
use Rattle.t800.specs.MarkerSegments.{MarkerRead, read_marker, read_sop, read_eph}
use Rattle.t800.specs.Packet.{ReadResult}
use Rattle.t800.specs.Gathered.{GatheredResult, read_gathered}
use Rattle.past_end.specs.PastEnd.{last_bit}
use Rattle.past_end.proofs.SameBits.{Way, bits_to}
use Rattle.past_end.proofs.SameMarkers.{sop_inside, eph_inside}
use Rattle.past_end.proofs.AcceptedReads.{told_at, result, accepted, last_reached, told_at-same, same_told}
use Rattle.gathered_headers.specs.Gathered.{SameReading}
use Rattle.gathered_headers.proofs.Ends.{ending, read-end, taken_between, marker_there}
use Rattle.gathered_headers.proofs.HeadersAlone.{from_on, agree, end_there, taken_there, past_there, eph_there}

-- the markers of a read from gathered headers
abbrev pub eph_alone : Markers → Markers
eph_alone m = record { sop = false; eph = m.eph }

-- an SOP that was found is found wherever its bytes are in front
pub sop_there : (m : Markers) (row src : List ℕ) → (read_sop m row).mark ≡ 0 → take (read_sop m row).skip src ≡ take (read_sop m row).skip row
    → read_sop m src ≡ read_sop m row
unfolding read_sop
sop_there m row src z front =
    marker_there m.sop 6 0x91 row src 0 0 z
    (λ k. let six : take 6 src ≡ take 6 row = subst (λ (n : ℕ). take n src ≡ take n row) k front in
    let byte : (i : ℕ) → i ≤ 5 → get_or src i 0 ≡ get_or row i 0 = λ i l.
    sym (get_or-take 6 src i 0 (omega arith)) ∙ ap (λ (bs : List ℕ). get_or bs i 0) six ∙ get_or-take 6 row i 0 (omega arith) in (
      omega (arith, sym (length-take 6 src) ∙ ap length six ∙ length-take 6 row, k, sop_inside m row),
      byte 0 (omega arith),
      byte 1 (omega arith),
    ))

no_sop_alone : (m : Markers) (src : List ℕ) → read_sop (eph_alone m) src ≡ record { skip = 0; mark = 0 }
unfolding read_sop read_marker
no_sop_alone m src = refl

-- what a read from gathered headers tells, by what the read of the headers alone tells
abbrev gathered_told : (form : RecordForm) → MarkerRead → ReadResult form → GatheredResult form
gathered_told form sop r =
    let a = r.answer in
    record {
      answer = record {
        refusal = a.refusal;
        present = a.present;
        headers = a.taken;
        taken = cond (eqb a.refusal 0) sop.skip 0;
        segments = a.segments;
        sop = cond (eqb a.refusal 0) sop.mark 0;
        eph = a.eph;
        past = a.past;
      };
      state = r.state;
      scratch = r.scratch;
      reports = r.reports;
      records = r.records;
    }

pub same_reading : SameReading
unfolding SameReading read_gathered
same_reading form state scratch m row headers src reports records ok sop0 eph0 front whole sops =
    let a = accepted form state scratch m reports records row ok in
    let e : Bio = last_bit state m row (form.room records) in
    let r : ReadResult form = result form state scratch m reports records row in
    let s : ℕ = (read_sop m row).skip in
    let at : ℕ = bytes_taken row e in
    let t : ℕ = r.answer.taken in
    let told : r ≡ told_at form m row e r = told_at-same form state scratch m reports records row a in
    let taken : t ≡ at + (read_eph m row at).skip = ap (λ (r : ReadResult form). r.answer.taken) told in
    let sop : r.answer.sop ≡ (read_sop m row).mark = ap (λ (r : ReadResult form). r.answer.sop) told in
    let eph : r.answer.eph ≡ (read_eph m row at).mark = ap (λ (r : ReadResult form). r.answer.eph) told in
    let past : r.answer.past ≡ bits_past row (bio_at s) e = ap (λ (r : ReadResult form). r.answer.past) told in
    let reached = last_reached form state scratch m reports records row a in
    let end = read-end form state scratch m reports records row a in
    let between = taken_between row s e (ending row s e reached end) in
    let in_row : t ≤ length row = omega (arith, eph_inside m row at between.1) in
    let up_to : at ≤ t = omega arith in
    let none : (bits_past row (bio_at s) e ≢ 0 → length headers ≡ t - s) = λ n. whole (λ z. n (sym past ∙ z)) in
    let w : Way = from_on s e.bp in
    let there : Bio = bits_to w e in
    let k : ℕ = bytes_taken headers there in
    let no_sop_lem : read_sop (eph_alone m) headers ≡ record { skip = 0; mark = 0 } = no_sop_alone m headers in
    let same : result form state scratch (eph_alone m) reports records headers ≡ told_at form (eph_alone m) headers there r =
    same_told form state scratch m (eph_alone m) reports records row headers w
    (agree row headers s t e reached end up_to in_row front none) (omega arith) (omega (arith, ap (λ (x : MarkerRead). x.skip) no_sop_lem)) a
    (omega arith) (λ _. end_there row headers s t e reached end up_to in_row front none) in
    let sop' = sop_there m row src (sym sop ∙ sop0) sops in
    let eph' : read_eph (eph_alone m) headers k ≡ read_eph m row at =
    eph_there row headers s t e reached end up_to in_row front none m (eph_alone m) refl (sym eph ∙ eph0) (sym taken) in
    let count : k + (read_eph (eph_alone m) headers k).skip ≡ t - s =
    omega (arith, taken_there row headers s t e reached end up_to in_row front none, ap (λ (x : MarkerRead). x.skip) eph', between.0) in
    let past' : bits_past headers (bio_at (read_sop (eph_alone m) headers).skip) there ≡ r.answer.past =
    ap (λ (x : MarkerRead). bits_past headers (bio_at x.skip) there) no_sop_lem
    ∙ past_there row headers s t e reached end up_to in_row front none ∙ sym past in
    ap (gathered_told form (read_sop m src)) same
    ∙ (λ i. record {
      answer = record {
        refusal = sym ok i;
        present = r.answer.present;
        headers = count i;
        taken = (sop' i).skip;
        segments = r.answer.segments;
        sop = (ap (λ (x : MarkerRead). x.mark) sop' ∙ sym sop) i;
        eph = (ap (λ (x : MarkerRead). x.mark) eph' ∙ sym eph) i;
        past = past' i;
      };
      state = r.state;
      scratch = r.scratch;
      reports = r.reports;
      records = r.records;
    })
