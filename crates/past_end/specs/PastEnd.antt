-- Bits that were not in the input (request No. 5): what the flag of a bit and the count of a read say, and that where the count is 0 more
-- input changes nothing but what a marker's own look does.
use Rattle.std.specs.Prelude.{◌≡◌, ◌≢◌, true, false, cond, ◌++◌, ℕ, ◌+◌, ◌-◌, ◌<◌, length, leb, eqb}
use Rattle.t800.specs.declared.Bio.{Bio}
use Rattle.t800.specs.declared.Markers.{Markers}
use Rattle.t800.specs.Base.{Words, Bytes}
use Rattle.t800.specs.Bits.{reach, bio_at, read_bit}
use Rattle.t800.specs.MarkerSegments.{read_sop, read_eph}
use Rattle.t800.specs.Reports.{RecordForm}
use Rattle.t800.specs.Packet.{ReadResult, read, read_result, first_bit, header_of}
use Rattle.t800.specs.Interface.{Interface}
use Rattle.t800.specs.RoundTrip.{with_more}
use Rattle.bits_taken.specs.Taken.{after_bits, flagged}

-- ---- a bit's flag

-- the place of the byte that the next bit comes from: the held one's, or the next one's where no bit of that is left
unfoldable pub byte_of : Bio → ℕ
byte_of b = cond (eqb b.ct 0) b.bp (b.bp - 1)

-- of every bit of a header that begins at `start`: it is flagged exactly where its byte lies past the input's end
unfoldable pub FlagOfBit : Type 0
FlagOfBit =
    (src : Bytes) (start n : ℕ)
    → let b = after_bits src n (bio_at start) in
    (read_bit src b).past ≡ leb (length src) (byte_of b)

-- a bit that isn't flagged is the same with more input
unfoldable pub UnflaggedBitStays : Type 0
UnflaggedBitStays = (src more : Bytes) (b : Bio) → (read_bit src b).past ≡ false → read_bit (src ++ more) b ≡ read_bit src b

-- ---- the count

-- bits that end in reach of the input are told by where they end: no two numbers of them end at the same place
unfoldable pub OneNumberOfBits : Type 0
OneNumberOfBits =
    (src : Bytes) (start m n : ℕ)
    → after_bits src m (bio_at start) ≡ after_bits src n (bio_at start)
    → (after_bits src n (bio_at start)).bp < length src + reach
    → m ≡ n

-- the header at `start` whose bits end at e takes so many of them, of which this many are flagged; and e is in reach
pub record CountsFlags (src : Bytes) (start : ℕ) (e : Bio) (count : ℕ) : Type 0 where
  pub bits : ℕ
  pub ends : e ≡ after_bits src bits (bio_at start)
  pub counts : count ≡ flagged src bits (bio_at start)
  pub in_reach : e.bp < length src + reach

-- where the bits of a packet's header end: after the first, or after the last block's
abbrev pub last_bit : (state : Words) → Markers → (src : Bytes) (room : ℕ) → Bio
last_bit state m src room = cond (eqb (first_bit m src).value 0) (first_bit m src).bio (header_of state m src room).bio

-- in every accepted read, whatever the input
unfoldable pub CountOfReads : Type 1
CountOfReads =
    (form : RecordForm) (state scratch : Words) (m : Markers) (src : Bytes) (reports : Words) (records : form.Lent)
    → let r = read form state scratch m src reports records in
    r.answer.refusal ≡ 0
    → CountsFlags src (read_sop m src).skip (last_bit state m src (form.room records)) r.answer.past

-- ---- more input

-- EPH looked for once more, in this input, behind what was taken
abbrev pub eph_again : (form : RecordForm) → Markers → (src : Bytes) → ReadResult form → ReadResult form
eph_again form m src r =
    let a = r.answer in
    let eph = read_eph m src a.taken in
    read_result form r.state r.scratch r.reports r.records (record {
      refusal = a.refusal;
      present = a.present;
      taken = a.taken + eph.skip;
      segments = a.segments;
      sop = a.sop;
      eph = eph.mark;
      past = a.past;
    })

-- What holds of the result r of a read and the result of the same read with more input, of which src is all. Where r is accepted, took no
-- bit past the end, and its SOP had its six bytes or isn't used: with more input the read answers and leaves the same; but where EPH had too
-- few bytes it is looked for again, and nothing else changes.
abbrev pub SameWithMore : (form : RecordForm) → Markers → (src : Bytes) (r longer : ReadResult form) → Type 0
SameWithMore form m src r longer =
    r.answer.refusal ≡ 0
    → r.answer.past ≡ 0
    → r.answer.sop ≢ 1
    → (r.answer.eph ≢ 1 → longer ≡ r) × (r.answer.eph ≡ 1 → longer ≡ eph_again form m src r)

unfoldable pub MoreInput : Type 1
MoreInput =
    (form : RecordForm) (state scratch : Words) (m : Markers) (src more : Bytes) (reports : Words) (records : form.Lent)
    → SameWithMore form m (src ++ more) (read form state scratch m src reports records)
    (read form state scratch m (src ++ more) reports records)

-- ---- the same of the calls of every interface that meets the definitions

unfoldable pub CountOf : Interface → Type 0
CountOf I =
    (m : I.reads.Made)
    → let c = I.reads.args m in
    let r = I.reads.left m in
    r.answer.refusal ≡ 0
    → CountsFlags c.input (read_sop c.markers c.input).skip
    (last_bit (I.reads.found m) c.markers c.input (I.form.room c.records)) r.answer.past

-- n is the call m with more input
unfoldable pub MoreInputOf : Interface → Type 0
MoreInputOf I =
    (m n : I.reads.Made) (more : Bytes)
    → let c = I.reads.args m in
    I.reads.found n ≡ I.reads.found m
    → I.reads.args n ≡ with_more I.form c more
    → I.reads.asked n ≡ true
    → SameWithMore I.form c.markers (c.input ++ more) (I.reads.left m) (I.reads.left n)
