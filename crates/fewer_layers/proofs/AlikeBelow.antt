-- Below the m-th layer the calls with m layers and with n agree, for m up to n: the theorem, and what it says of the crate's layers.
use mathlib.Core.Path.{◌≡◌, refl, sym, ap, ap₂, ◌∙◌}
use mathlib.Core.Logic.{◌≢◌}
use mathlib.Core.Bool.{Bool, true, not}
use mathlib.Core.List.{List, [], ◌∷◌, ◌++◌}
use Prim.Native.Nat.{ℕ, ◌+◌, ◌*◌, ◌≤◌, ◌<◌}
use native.Mathlib.Omega.{arith}
use lib.ListN.{length, set}
use lib.Dec.{eqb}
use borrow.Author.Tests.{eqb-true, not-true}
use Rattle.t800.specs.declared.Band.{Band}
use Rattle.t800.specs.declared.Bio.{Bio}
use Rattle.t800.specs.declared.Markers.{Markers}
use Rattle.t800.specs.Refusals.{Check, check, first_of, list_refusal, state_refusal, space_refusal}
use Rattle.t800.specs.Reports.{report_width, RecordForm}
use Rattle.t800.specs.TagTree.{Coded}
use Rattle.t800.specs.State.{not_yet_included, writer, reader, layer, bands, blocks}
use Rattle.t800.specs.Ranges.{valid_state_with}
use Rattle.t800.specs.WriteHeader.{Contribution, contributes, code_present, code_absent, code_header}
use Rattle.t800.specs.ReadHeader.{HeaderRead}
use Rattle.t800.specs.MarkerSegments.{MarkerRead, read_sop}
use Rattle.t800.specs.Packet.{state_checks_with, measure_checks_with, measure_refusal_with, front, MeasureResult, measure_with, packet}
use Rattle.t800.specs.Packet.{packet_checks, write_refusal_with, WriteResult, write_with, read_refusal_with, first_bit, header_of, ReadResult}
use Rattle.t800.specs.Packet.{read_absent, read_present, read_with}
use Rattle.t800.specs.FewerLayers.{crate_layers, replaced, replaced_if_accepted, MeasuresAlike, WritesAlike, ReadsAlike, AgreeBelow}
use Rattle.t800_laws.proofs.Laws.Tests.{either}
use Rattle.t800_laws.proofs.Laws.Layout.{blocks-placed}
use Rattle.t800_laws.proofs.Laws.Kept.{Kept, kept, bands-kept_then_layer}
use Rattle.t800_laws.proofs.Laws.HeaderKept.{header_coded_lem, header_read}
use Rattle.fewer_layers.proofs.Replaced.{choice-by, replaced_words, first-same, bands-same, replaced-as, stays_set, first_stays}
use Rattle.fewer_layers.proofs.Headers.{replaced_header, header_replaced, header_read_replaced}
use Rattle.fewer_layers.proofs.Ranges.{valid_replaced}
use Rattle.fewer_layers.proofs.Starts.{starts_alike}
use Rattle.fewer_layers.proofs.Alike.{not_first_refused, width_same, layer-few, layer-more}

module _ (m n : ℕ) (more : m ≤ n) (ws scratch : List ℕ) (below : layer ws < m) where
  abbrev bs : List Band
  bs = bands ws

  abbrev vs : List ℕ
  vs = replaced_words m n bs ws

  abbrev few_valid : (role : ℕ) → Bool
  few_valid role = valid_state_with m role ws (length scratch)

  state_checks_same : (role : ℕ) → few_valid role ≡ true
      → state_checks_with n role vs (length scratch) ≡ state_checks_with m role ws (length scratch)
  state_checks_same role v =
      rw (v, valid_replaced m n more ws below role (length scratch) v, first-same m n bs ws 3 (omega arith), layer-few m n more ws scratch below, layer-more m n more ws scratch below)

  measure-checks_same : (p : Contribution) → few_valid writer ≡ true → measure_checks_with n vs scratch p ≡ measure_checks_with m ws scratch p
  measure-checks_same p v =
      let width = width_same m n more bs (blocks bs) p.counts p.lengths p.marks ws (blocks-placed bs) in
      ap₂ (λ (cs ds : List Check). cs ++ ds) (state_checks_same writer v) (rw (bands-same m n bs ws, width))

  front_same : (p : Contribution) (k : Markers) (number : ℕ) → front vs p k number ≡ front ws p k number
  unfolding front
  front_same p k number = rw (header_replaced m n more ws below p)

  bands-after : (p : Contribution) → bands (code_header p ws).words ≡ bs
  unfolding code_header code_present code_absent
  bands-after p =
      either (λ (x : Coded). bands x.words ≡ bs) (contributes p) _ _ (bands-kept_then_layer (layer ws + 1) (header_coded_lem p ws))
      (bands-kept_then_layer (layer ws + 1) (kept 13))

  -- the words after a header that is written
  after_replaced : (p : Contribution) → (code_header p vs).words ≡ replaced m n (code_header p ws).words
  after_replaced p =
      rw (header_replaced m n more ws below p)
      (sym (replaced-as m n bs (code_header p ws).words (bands-after p)))

  state_as : replaced m n ws ≡ vs
  state_as = replaced-as m n bs ws refl

  -- ---- measuring

  measure-gives : (p : Contribution) (k : Markers) → measure_refusal_with m ws scratch p ≡ state_refusal
      → (measure_with m ws scratch p k).answer.refusal ≡ state_refusal
  unfolding measure_with
  measure-gives p k e = rw e

  measure-valid : (p : Contribution) (k : Markers) → (measure_with m ws scratch p k).answer.refusal ≢ state_refusal
      → few_valid writer ≡ true
  unfolding measure_refusal_with
  measure-valid p k h = not_first_refused (few_valid writer) _ (λ e. h (measure-gives p k e))

  measure-refusal_same : (p : Contribution) → few_valid writer ≡ true
      → measure_refusal_with n vs scratch p ≡ measure_refusal_with m ws scratch p
  unfolding measure_refusal_with
  measure-refusal_same p v = ap first_of (measure-checks_same p v)

  abbrev measured_as : MeasureResult → MeasureResult
  measured_as o = record { answer = o.answer; scratch = replaced_if_accepted m n o.answer.refusal o.scratch }

  measured : (p : Contribution) (k : Markers) → few_valid writer ≡ true
      → measure_with n vs scratch p k ≡ measured_as (measure_with m ws scratch p k)
  unfolding measure_with
  measured p k v =
      let why : ℕ = measure_refusal_with m ws scratch p in
      let same = measure-refusal_same p v in
      choice-by measured_as (eqb why 0) (eqb (measure_refusal_with n vs scratch p) 0) _ _ _ _ (ap (λ (z : ℕ). eqb z 0) same)
      (λ t. rw (front_same p k 0, after_replaced p))
      (λ f. rw (same, f))

  -- ---- writing

  module _ (p : Contribution) (body : List ℕ) (k : Markers) (number : ℕ) (output : List ℕ) where
    write-gives : write_refusal_with m ws scratch p body k number output ≡ state_refusal
        → (write_with m ws scratch p body k number output).answer.refusal ≡ state_refusal
    unfolding write_with
    write-gives e = rw e

    write-valid : (write_with m ws scratch p body k number output).answer.refusal ≢ state_refusal → few_valid writer ≡ true
    unfolding write_refusal_with
    write-valid h = not_first_refused (few_valid writer) _ (λ e. h (write-gives e))

    packet-same : packet vs p body k number ≡ packet ws p body k number
    unfolding packet
    packet-same = rw (front_same p k number)

    write-refusal_same : few_valid writer ≡ true
        → write_refusal_with n vs scratch p body k number output ≡ write_refusal_with m ws scratch p body k number output
    unfolding write_refusal_with
    write-refusal_same v =
        let own : packet_checks vs p body k number output ≡ packet_checks ws p body k number output = rw packet-same in
        ap₂ (λ (cs ds : List Check). first_of (cs ++ ds)) (measure-checks_same p v) own

    abbrev written_as : WriteResult → WriteResult
    written_as o = record {
      answer = o.answer;
      state = replaced m n o.state;
      scratch = replaced_if_accepted m n o.answer.refusal o.scratch;
      output = o.output;
    }

    written : few_valid writer ≡ true
        → write_with n vs scratch p body k number output ≡ written_as (write_with m ws scratch p body k number output)
    unfolding write_with
    written v =
        let why : ℕ = write_refusal_with m ws scratch p body k number output in
        let why₂ : ℕ = write_refusal_with n vs scratch p body k number output in
        let same : why₂ ≡ why = write-refusal_same v in
        choice-by written_as (eqb why 0) (eqb why₂ 0) _ _ _ _ (ap (λ (z : ℕ). eqb z 0) same)
        (λ t. rw (packet-same, after_replaced p))
        (λ f. choice-by written_as (eqb why space_refusal) (eqb why₂ space_refusal) _ _ _ _ (ap (λ (z : ℕ). eqb z space_refusal) same)
        (λ t. rw (same, f, state_as))
        (λ g. rw (same, f, state_as)))

  -- ---- reading

  module _ (form : RecordForm) (k : Markers) (src reports : List ℕ) (records : form.Lent) where
    abbrev few : ReadResult form
    few = read_with m form ws scratch k src reports records

    read-gives : read_refusal_with m ws scratch reports ≡ state_refusal → few.answer.refusal ≡ state_refusal
    unfolding read_with
    read-gives e = rw e

    read-valid : few.answer.refusal ≢ state_refusal → few_valid reader ≡ true
    unfolding read_refusal_with
    read-valid h = not_first_refused (few_valid reader) _ (λ e. h (read-gives e))

    abbrev list_checks : List Band → List Check
    list_checks given = check list_refusal (not (eqb (length reports) (report_width * length (blocks given)))) ∷ []

    read-refusal_same : few_valid reader ≡ true → read_refusal_with n vs scratch reports ≡ read_refusal_with m ws scratch reports
    unfolding read_refusal_with
    read-refusal_same v =
        ap₂ (λ (cs : List Check) (given : List Band). first_of (cs ++ list_checks given)) (state_checks_same reader v) (bands-same m n bs ws)

    abbrev replaced_read : ReadResult form → ReadResult form
    replaced_read o = record {
      answer = o.answer;
      state = replaced m n o.state;
      scratch = replaced_if_accepted m n o.answer.refusal o.scratch;
      reports = o.reports;
      records = o.records;
    }

    abbrev header : HeaderRead
    header = header_of ws k src (form.room records)

    header_same : header_of vs k src (form.room records) ≡ replaced_header m n bs header
    header_same = header_read_replaced m n more ws below src (form.room records) (first_bit k src).bio

    -- the next layer is set, in words with the first words of the state
    layer-set : (us : List ℕ) → Kept 13 ws us
        → set (replaced_words m n bs us) 3 (layer vs + 1) ≡ replaced m n (set us 3 (layer ws + 1))
    layer-set us k₁ =
        let t : ℕ = layer ws + 1 in
        ap (λ (z : ℕ). set (replaced_words m n bs us) 3 (z + 1)) (first-same m n bs ws 3 (omega arith))
        ∙ stays_set m n bs us 3 t (first_stays bs 3 (omega arith))
        ∙ sym (replaced-as m n bs (set us 3 t) (bands-kept_then_layer t k₁))

    absent-as : (sop : MarkerRead) (b : Bio)
        → read_absent form vs k src reports records sop b ≡ replaced_read (read_absent form ws k src reports records sop b)
    unfolding read_absent
    absent-as sop b = rw (layer-set ws (kept 13))

    present_as : (sop : MarkerRead) → header.refusal ≡ 0
        → read_present form vs k src records sop (replaced_header m n bs header) ≡ replaced_read (read_present form ws k src records sop header)
    unfolding read_present
    present_as sop z =
        rw (layer-set header.words (header_read src (form.room records) ws (first_bit k src).bio z))

    read_as : few_valid reader ≡ true → read_with n form vs scratch k src reports records ≡ replaced_read few
    unfolding read_with
    read_as v =
        let why : ℕ = read_refusal_with m ws scratch reports in
        let why₂ : ℕ = read_refusal_with n vs scratch reports in
        let same : why₂ ≡ why = read-refusal_same v in
        let bit : ℕ = (first_bit k src).value in
        choice-by replaced_read (not (eqb why 0)) (not (eqb why₂ 0)) _ _ _ _ (ap (λ (z : ℕ). not (eqb z 0)) same)
        (λ t. rw (same, not-true (eqb why 0) t, state_as))
        (λ f. choice-by replaced_read (eqb bit 0) (eqb bit 0) _ _ _ _ refl
        (λ t. absent-as (read_sop k src) (first_bit k src).bio)
        (λ g. rw header_same
        (choice-by replaced_read (eqb header.refusal 0) (eqb header.refusal 0) _ _ _ _ refl
        (λ t. present_as (read_sop k src) (eqb-true header.refusal 0 t))
        (λ h. rw (h, state_as)))))

-- ---- the theorem

module _ (m n : ℕ) (more : m ≤ n) where
  measures_alike : MeasuresAlike m n
  unfolding MeasuresAlike
  measures_alike ws scratch p k below h =
      let valid = measure-valid m n more ws scratch below p k h in
      ap (λ (z : List ℕ). measure_with n z scratch p k) (state_as m n more ws scratch below)
      ∙ measured m n more ws scratch below p k valid

  writes_alike : WritesAlike m n
  unfolding WritesAlike
  writes_alike ws scratch p body k number output below h =
      let valid = write-valid m n more ws scratch below p body k number output h in
      ap (λ (z : List ℕ). write_with n z scratch p body k number output) (state_as m n more ws scratch below)
      ∙ written m n more ws scratch below p body k number output valid

  reads_alike : ReadsAlike m n
  unfolding ReadsAlike
  reads_alike form ws scratch k src reports records below h =
      let valid = read-valid m n more ws scratch below form k src reports records h in
      ap (λ (z : List ℕ). read_with n form z scratch k src reports records) (state_as m n more ws scratch below)
      ∙ read_as m n more ws scratch below form k src reports records valid

pub fewer_layers_lem : (m n : ℕ) → m ≤ n → AgreeBelow m n
fewer_layers_lem m n more =
    record {
      starts = starts_alike m n more;
      measures = measures_alike m n more;
      writes = writes_alike m n more;
      reads = reads_alike m n more;
    }

pub as_with_crate_layers : AgreeBelow crate_layers not_yet_included
as_with_crate_layers = fewer_layers_lem crate_layers not_yet_included (omega arith)
