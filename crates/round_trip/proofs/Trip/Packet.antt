-- A packet is read as it was written: markers, header, and where the body begins.
use mathlib.Core.Path.{◌≡◌, refl, sym, ap, ap₂, ◌∙◌}
use mathlib.Core.Logic.{◌⊎◌, inl, inr}
use mathlib.Core.Bool.{Bool, true, false, cond, ◌&&◌}
use mathlib.Core.List.{List, [], ◌∷◌, ◌++◌, append_assoc}
use Prim.Native.Nat.{ℕ, suc, ◌+◌, ◌-◌, ◌/◌, ◌%◌, ◌≤◌, ◌<◌}
use native.Mathlib.Nat.{le_refl}
use native.Mathlib.Numerals.{add-one}
use native.Mathlib.Omega.{arith}
use lib.ListN.{length, get_or, set, take, drop, length-append, length-drop, take-append-drop}
use lib.Seq.{drop-append_seam}
use lib.Dec.{T, eqb}
use borrow.Author.Tests.{eq-eqb}
use Rattle.t800.specs.declared.Bio.{Bio}
use Rattle.t800.specs.declared.Markers.{Markers}
use Rattle.t800.specs.Bits.{bio_at, pack, ends_in_ff, bytes_taken, bits_past}
use Rattle.t800.specs.declared.SegmentRecord.{SegmentRecord}
use Rattle.t800.specs.Reports.{BlockReport, report_words, RecordForm}
use Rattle.t800.specs.State.{Block, not_yet_included, blocks, bands, layer}
use Rattle.t800.specs.WriteHeader.{Contribution}
use Rattle.t800.specs.ReadHeader.{HeaderRead, read_blocks, read_header}
use Rattle.t800.specs.MarkerSegments.{sop_bytes, eph_bytes, with_markers, MarkerRead, read_marker, read_sop, read_eph}
use Rattle.t800.specs.Packet.{ReadResult, read_refusal, read_present, read, read_with}
use Rattle.t800.specs.Book.{BlockEntry, Entry, entry, add_counts, terminated_as_style}
use Rattle.t800_laws.proofs.Laws.Tests.{on-lt, if-true, if-ge, drop_head}
use Rattle.t800_laws.proofs.Laws.Layout.{Layout, AllPlaced}
use Rattle.round_trip.proofs.Trip.Bits.{next_bit, bio_after}
use Rattle.round_trip.proofs.Trip.Segments.{read_so_far}
use Rattle.round_trip.proofs.Trip.WriterState.{WriterState, Acceptable, header_blocks}
use Rattle.round_trip.proofs.Trip.FewerRecords.{SameOr13, fewer_records}
use Rattle.round_trip.proofs.Trip.InStep.{InStep}
use Rattle.round_trip.proofs.Trip.Booked.{AllBooked}
use Rattle.round_trip.proofs.Trip.Header.{HeaderReadBack, header_read}

-- ---- markers

abbrev pub found : ℕ → MarkerRead
found n = record { skip = n; mark = 0 }

both : {x y : Bool} → x ≡ true → y ≡ true → (x && y) ≡ true
both p q = rw (p, q)

-- a marker that stands there if it is used
marker_read_lem : (used : Bool) (n second : ℕ) (rest src : List ℕ) (p : ℕ) (t : List ℕ) → suc (suc (length rest)) ≡ n → drop p src
    ≡ cond used (255 ∷ second ∷ rest) [] ++ t
    → read_marker used n second src p ≡ found (length (cond used (255 ∷ second ∷ rest) []))
unfolding read_marker
marker_read_lem false n second rest src p t l e = refl
marker_read_lem true n second rest src p t l e =
    let a = drop_head src p 255 (second ∷ rest ++ t) 0 e in
    let b = drop_head src (suc p) second (rest ++ t) 0 a.2 in
    let len : length src - p ≡ suc (suc (length rest + length t)) = sym (length-drop p src) ∙ ap length e
    ∙ ap (λ (z : ℕ). suc (suc z)) (length-append rest t) in
    let q : get_or src (p + 1) 0 ≡ second = ap (λ (z : ℕ). get_or src z 0) (add-one p) ∙ b.1 in
    if-ge (length src - p) n _ _ (omega arith)
    ∙ if-true (eqb (get_or src p 0) 255 && eqb (get_or src (p + 1) 0) second) _ _
    (both (eq-eqb (get_or src p 0) 255 a.1) (eq-eqb (get_or src (p + 1) 0) second q))
    ∙ ap found (sym l)

sop_read : (m : Markers) (number : ℕ) (src t : List ℕ) → src ≡ cond m.sop (sop_bytes number) [] ++ t → read_sop m src
    ≡ found (length (cond m.sop (sop_bytes number) []))
unfolding read_sop sop_bytes
sop_read m number src t e = marker_read_lem m.sop 6 0x91 (0 ∷ 4 ∷ number / 256 % 256 ∷ number % 256 ∷ []) src 0 t refl e

eph_read : (m : Markers) (src : List ℕ) (p : ℕ) (t : List ℕ) → drop p src ≡ cond m.eph eph_bytes [] ++ t → read_eph m src p
    ≡ found (length (cond m.eph eph_bytes []))
unfolding read_eph eph_bytes
eph_read m src p t e = marker_read_lem m.eph 2 0x92 [] src p t refl e

-- the input begins with a header and its markers: where the header's bytes begin, what follows them, and where EPH ends
pub record Around (m : Markers) (number : ℕ) (src header : List ℕ) : Type 0 where
  pub before : ℕ
  pub sop_is : read_sop m src ≡ found before
  pub tail : List ℕ
  pub at_header : drop before src ≡ header ++ tail
  pub after : ℕ
  pub eph_is : read_eph m src (before + length header) ≡ found after
  pub all : before + length header + after ≡ length (with_markers m number header)

pub around : (m : Markers) (number : ℕ) (src header : List ℕ) → take (length (with_markers m number header)) src
    ≡ with_markers m number header → Around m number src header
unfolding with_markers
around m number src header e =
    let A : List ℕ = cond m.sop (sop_bytes number) [] in
    let C : List ℕ = cond m.eph eph_bytes [] in
    let fr : List ℕ = A ++ header ++ C in
    let tail : List ℕ = drop (length fr) src in
    let whole : src ≡ A ++ header ++ C ++ tail = sym (take-append-drop (length fr) src) ∙ ap (λ (z : List ℕ). z ++ tail) e in
    let from_header : src ≡ A ++ (header ++ (C ++ tail)) = whole ∙ append_assoc (A ++ header) C tail
    ∙ append_assoc A header (C ++ tail) in
    let from_eph : src ≡ A ++ header ++ (C ++ tail) = whole ∙ append_assoc (A ++ header) C tail in
    let at_eph : drop (length A + length header) src
    ≡ C ++ tail = ap₂ (λ (n : ℕ) (z : List ℕ). drop n z) (sym (length-append A header)) from_eph
    ∙ drop-append_seam (A ++ header) (C ++ tail) in
    record {
      before = length A;
      sop_is = sop_read m number src (header ++ (C ++ tail)) from_header;
      tail = C ++ tail;
      at_header = ap (drop (length A)) from_header ∙ drop-append_seam A (header ++ (C ++ tail));
      after = length C;
      eph_is = eph_read m src (length A + length header) tail at_eph;
      all = sym (length-append (A ++ header) C ∙ ap (λ (z : ℕ). z + length C) (length-append A header));
    }

-- ---- the call

header_is : (src : List ℕ) (room : ℕ) (rs : List ℕ) (h : Bio) (t : ℕ) (ks : List Block) (us : List ℕ) (end : Bio)
    (reps : List BlockReport) (recs : List SegmentRecord) → layer rs ≡ t → blocks (bands rs) ≡ ks
    → read_blocks src room t 0 ks (read_so_far rs h [] []) ≡ read_so_far us end reps recs → ends_in_ff src end ≡ false
    → read_header src room rs h ≡ read_so_far us end reps recs
unfolding read_header
header_is src room rs h t ks us end reps recs l k e w = rw (l, k, e, w)

read_is : (form : RecordForm) (rs scratch : List ℕ) (m : Markers) (src reports : List ℕ) (records : form.Lent) (n : ℕ)
    (us : List ℕ) (end : Bio) (reps : List BlockReport) (recs : List SegmentRecord) → read_refusal rs scratch reports ≡ 0
    → read_sop m src ≡ found n → next_bit src (bio_at n) ≡ 1
    → read_header src (form.room records) rs (bio_after src (bio_at n)) ≡ read_so_far us end reps recs
    → read form rs scratch m src reports records ≡ read_present form rs m src records (found n) (read_so_far us end reps recs)
unfolding read_with
read_is form rs scratch m src reports records n us end reps recs e₁ e₂ e₃ e₄ = rw (e₁, e₂, e₃, e₄)

present_is : (form : RecordForm) (rs : List ℕ) (t : ℕ) (m : Markers) (src : List ℕ) (records : form.Lent) (n : ℕ) (us : List ℕ)
    (end : Bio) (reps : List BlockReport) (recs : List SegmentRecord) (at skip : ℕ) → layer rs ≡ t → bytes_taken src end ≡ at
    → read_eph m src at ≡ found skip → bits_past src (bio_at n) end ≡ 0
    → read_present form rs m src records (found n) (read_so_far us end reps recs)
    ≡ record {
      answer = record { refusal = 0; present = 1; taken = at + skip; segments = length recs; sop = 0; eph = 0; past = 0 };
      state = set us 3 (t + 1);
      scratch = set us 3 (t + 1);
      reports = report_words reps;
      records = form.stored records recs;
    }
unfolding read_present
present_is form rs t m src records n us end reps recs at skip l a e z = rw (a, e, z, l)

-- ---- the packet

module _ (L : Layout) (s t : ℕ) (ks : List Block) (f : AllPlaced L ks) (ht : t < not_yet_included) (ws rs : List ℕ)
    (es : List BlockEntry) (c : Contribution) (W : WriterState L t ws) (y : InStep L s ws rs)
    (booked : AllBooked ws ks es) (q : Acceptable ws ks c) (term : T (terminated_as_style s es c.counts c.marks))
    (l : layer rs ≡ t) (kb : blocks (bands rs) ≡ ks) (m : Markers) (number : ℕ) (src : List ℕ) where
  abbrev header : List ℕ
  header = pack (1 ∷ (header_blocks t ks c ws).bits)

  abbrev owed_entry : Entry
  owed_entry = entry s es c.counts c.lengths

  -- the input begins with header and markers, and `room` records are lent
  pub record FrontRead (room : ℕ) : Type 0 where
    pub place : Around m number src header
    pub back : HeaderReadBack L s t src room place.before (length header) ws rs (header_blocks t ks c ws).words ks es c
    pub header_back : read_header src room rs (bio_after src (bio_at place.before))
        ≡ read_so_far back.words back.end owed_entry.reports owed_entry.records

  pub front_read : (room : ℕ) → length owed_entry.records ≤ room → take (length (with_markers m number header)) src
      ≡ with_markers m number header → FrontRead room
  front_read room enough e =
      let a = around m number src header e in
      let h = header_read L s t ks f ht src a.tail room a.before ws rs es c W y booked q term enough a.at_header in
      record {
        place = a;
        back = h;
        header_back = header_is src room rs (bio_after src (bio_at a.before)) t ks h.words h.end owed_entry.reports
            owed_entry.records l kb h.is h.whole;
      }

  pub record PacketRead (form : RecordForm) (records : form.Lent) (r : ReadResult form) : Type 0 where
    pub words : List ℕ
    pub answer : r.answer
        ≡ record {
          refusal = 0;
          present = 1;
          taken = length (with_markers m number header);
          segments = length owed_entry.records;
          sop = 0;
          eph = 0;
          past = 0;
        }
    pub reports : r.reports ≡ report_words owed_entry.reports
    pub records_are : r.records ≡ form.stored records owed_entry.records
    pub state : r.state ≡ set words 3 (t + 1)
    pub in_step : InStep L s (header_blocks t ks c ws).words words
    pub booked_after : AllBooked (header_blocks t ks c ws).words ks (add_counts es c.counts)
    pub reader-first : (j : ℕ) → j < 13 → get_or words j 0 ≡ get_or rs j 0

  pub packet-read : (form : RecordForm) (scratch reports : List ℕ) (records : form.Lent) → read_refusal rs scratch reports ≡ 0
      → length owed_entry.records ≤ form.room records
      → take (length (with_markers m number header)) src ≡ with_markers m number header
      → PacketRead form records (read form rs scratch m src reports records)
  packet-read form scratch reports records why enough e =
      let F = front_read (form.room records) enough e in
      let h = F.back in
      let a = F.place in
      let is = read_is form rs scratch m src reports records a.before h.words h.end owed_entry.reports owed_entry.records
      why a.sop_is h.first_bit F.header_back
      ∙ present_is form rs t m src records a.before h.words h.end owed_entry.reports owed_entry.records
      (a.before + length header) a.after l h.taken a.eph_is h.none_past in
      record {
        words = h.words;
        answer = ap (λ (r : ReadResult form). r.answer) is
            ∙ ap (λ (z : ℕ). record { refusal = 0; present = 1; taken = z; segments = length owed_entry.records; sop = 0; eph = 0; past = 0 })
            a.all;
        reports = ap (λ (r : ReadResult form). r.reports) is;
        records_are = ap (λ (r : ReadResult form). r.records) is;
        state = ap (λ (r : ReadResult form). r.state) is;
        in_step = h.in_step;
        booked_after = h.booked;
        reader-first = h.reader-first;
      }

  -- however few records are lent, reading the header ends in no refusal or in 13
  pub header_refusal : (room : ℕ) → take (length (with_markers m number header)) src ≡ with_markers m number header
      → (before : ℕ) × (read_sop m src ≡ found before) × (next_bit src (bio_at before) ≡ 1)
      × (((read_header src room rs (bio_after src (bio_at before))).refusal ≡ 0) ⊎
      (((read_header src room rs (bio_after src (bio_at before))).refusal ≡ 13) × (room < length owed_entry.records)))
  header_refusal room e =
      on-lt room n
      (λ h. let F = front_read n (le_refl n) e in (
        F.place.before,
        F.place.sop_is,
        F.back.first_bit,
        fewer h F.place.before (ap (λ (x : HeaderRead). x.refusal) F.header_back)
            (fewer_records src room n (omega arith) rs (bio_after src (bio_at F.place.before))),
      ))
      (λ h. let F = front_read room h e in
      (F.place.before, F.place.sop_is, F.back.first_bit, inl (ap (λ (x : HeaderRead). x.refusal) F.header_back)))
    where
      n : ℕ
      n = length owed_entry.records

      fewer : room < n → (before : ℕ) → (read_header src n rs (bio_after src (bio_at before))).refusal ≡ 0
          → SameOr13 (read_header src room rs (bio_after src (bio_at before))) (read_header src n rs (bio_after src (bio_at before)))
          → ((read_header src room rs (bio_after src (bio_at before))).refusal ≡ 0) ⊎
          (((read_header src room rs (bio_after src (bio_at before))).refusal ≡ 13) × (room < n))
      fewer h before z (inl e) = inl (ap (λ (x : HeaderRead). x.refusal) e ∙ z)
      fewer h before z (inr e) = inr (e, h)
