-- The invariant between packets, for whole states: it holds after a start, and each accepted packet and the read of it keep it.
use mathlib.Core.Path.{◌≡◌, refl, sym, ap, ◌∙◌, subst, subst₂}
use mathlib.Core.Logic.{◌≢◌, ◌⊎◌, inl, inr}
use mathlib.Core.Bool.{true, false, not}
use mathlib.Core.List.{List, [], ◌∷◌}
use Prim.Native.Nat.{ℕ, suc, ◌+◌, ◌*◌, ◌≤◌, ◌<◌}
use native.Mathlib.Nat.{le_trans, le_of_eq}
use native.Mathlib.Omega.{arith}
use lib.ListN.{length, set, take, drop, length-take}
use lib.Seq.{take-append-le}
use lib.Dec.{T, eqb}
use borrow.Author.Tests.{eqb-false, eq-eqb, ne_eqb}
use Rattle.t800.specs.declared.Band.{Band}
use Rattle.t800.specs.declared.Markers.{Markers}
use Rattle.t800.specs.declared.ReadAnswer.{ReadAnswer}
use Rattle.t800.specs.declared.Bio.{Bio}
use Rattle.t800.specs.Base.{sum, wiped}
use Rattle.t800.specs.Bits.{bio_at, pack}
use Rattle.t800.specs.TagTree.{Coded}
use Rattle.t800.specs.State.{Block, not_yet_included, blocks, bands, layer, writer, reader}
use Rattle.t800.specs.Ranges.{valid_state}
use Rattle.t800.specs.Start.{fresh_state, start}
use Rattle.t800.specs.WriteHeader.{Contribution, contributes}
use Rattle.t800.specs.MarkerSegments.{with_markers}
use Rattle.t800.specs.MarkerSegments.{MarkerRead, read_sop}
use Rattle.t800.specs.ReadHeader.{read_header}
use Rattle.t800.specs.Packet.{front, ReadResult, read_refusal, read_refusal_with, read_absent, read_present, read, read_with}
use Rattle.t800.specs.Book.{BlockEntry, entry_from, entry, new_book, add_counts, terminated_as_style}
use Rattle.t800.specs.Interface.{WriteCall, write_of, ReadCall, read_of}
use Rattle.t800.specs.RoundTrip.{Owed, ReadsPacket, GivesEntry, with_more}
use Rattle.round_trip.proofs.Trip.Lists.{accepted, owed_for}
use Rattle.t800.specs.Reports.{report_width, RecordForm}
use Rattle.t800_laws.proofs.Laws.Lists.{no_planes}
use Rattle.t800_laws.proofs.Laws.Layout.{Layout, layout_of, blocks-placed, end_after}
use Rattle.t800_laws.proofs.Laws.FirstWords.{FirstWords, next_layer}
use Rattle.t800_laws.proofs.Laws.FreshState.{fresh_first_words}
use Rattle.round_trip.proofs.Trip.WriterState.{header_blocks}
use Rattle.round_trip.proofs.Trip.InStep.{InStep, layer-in_step}
use Rattle.round_trip.proofs.Trip.Booked.{AllBooked, entries_length, layer-booked}
use Rattle.round_trip.proofs.Trip.ValidStates.{reader-valid}
use Rattle.round_trip.proofs.Trip.Packet.{found, PacketRead, packet-read, header_refusal}
use Rattle.round_trip.proofs.Trip.AbsentPacket.{no_passes_lem, no_records, zero_reports, book_stays, single_bit, first_bit_zero}
use Rattle.round_trip.proofs.Trip.AbsentPacket.{absent-packet_read}
use Rattle.round_trip.proofs.Trip.Bits.{next_bit, bio_after}
use Rattle.t800_laws.proofs.Laws.Tests.{either, either-by, if-true, if-false}
use Rattle.t800_laws.proofs.Laws.Checks.{on_bool}
use Rattle.t800_laws.proofs.Laws.Contributes.{absent-front}
use Rattle.round_trip.proofs.Trip.Calls.{is_accepted}
use Rattle.t800_laws.proofs.Laws.Accepted.{start-accepted, few_bands}
use Rattle.round_trip.proofs.Trip.Start.{started_in_step, started_booked}
use Rattle.round_trip.proofs.Trip.WriterInRange.{WriterInvariant, writer-after_start, present_coded, blocks-are}
use Rattle.round_trip.proofs.Trip.WriterInRange.{layer-left, acceptable, state_present, state_absent, writer-after}

-- with bands bs, style s and next layer t: writer's words, reader's words, and the book
pub record Invariant (bs : List Band) (s t : ℕ) (ws rs : List ℕ) (es : List BlockEntry) : Type 0 where
  pub writer-side : WriterInvariant bs s t ws
  pub in_step : InStep (layout_of bs) s ws rs
  pub booked : AllBooked ws (blocks bs) es
  pub reader-first : FirstWords 2 bs s t rs

-- the reader isn't refused with 5
pub reader-in_range : (bs : List Band) (s t : ℕ) (ws rs : List ℕ) (es : List BlockEntry) (n : ℕ) → Invariant bs s t ws rs es → n
    ≡ length rs → valid_state reader rs n ≡ true
reader-in_range bs s t ws rs es n y e = let w = y.writer-side in
    reader-valid bs s t ws rs n y.reader-first w.startable w.layers w.state y.in_step e

-- ---- after a start

pub after_start : (n : ℕ) (given : List Band) (s : ℕ) (planes lent lent' : List ℕ) → (start writer n given s planes lent).answer ≡ 0
    → (start reader n given s [] lent').answer ≡ 0
    → Invariant (take n given) s 0 (start writer n given s planes lent).state (start reader n given s [] lent').state
    (new_book (take n given) planes)
unfolding writer reader
after_start n given s planes lent lent' ew er =
    let bs : List Band = take n given in
    let ks : List Block = blocks bs in
    let w = start-accepted writer n given s planes lent ew in
    let r = start-accepted reader n given s [] lent' er in
    let vs : List ℕ = (start writer n given s planes lent).state in
    subst (λ (v : List ℕ). Invariant bs s 0 vs v (new_book bs planes)) (sym (r.state ∙ no_planes ks (fresh_state 2 s bs)))
    (record {
      writer-side = writer-after_start n given s planes lent ew;
      in_step = subst (λ (v : List ℕ). InStep (layout_of bs) s v (fresh_state 2 s bs)) (sym w.state) (started_in_step bs s planes);
      booked = subst (λ (v : List ℕ). AllBooked v ks (new_book bs planes)) (sym w.state)
          (started_booked bs s planes w.planes_length w.bands-in w.blocks-in);
      reader-first = fresh_first_words 2 s bs (few_bands n given w.shape);
    })

-- ---- a packet

reports_length : (s i before : ℕ) (es : List BlockEntry) (cs ls : List ℕ) → length cs ≡ length es
    → length (entry_from s i before es cs ls).reports ≡ length es
unfolding entry_from
reports_length s i before [] cs ls h = refl
reports_length s i before (e ∷ es) [] ls h = absurd (omega arith)
reports_length s i before (e ∷ es) (c ∷ cs) ls h =
    ap suc (reports_length s (i + 1) (before + sum (take c ls)) es cs (drop c ls) (omega arith))

entry-reports : (s : ℕ) (es : List BlockEntry) (cs ls : List ℕ) → length cs ≡ length es → length (entry s es cs ls).reports ≡ length es
unfolding entry
entry-reports s es cs ls h = reports_length s 0 0 es cs ls h

read-not_refused : (rs scratch reports : List ℕ) → valid_state reader rs (length scratch) ≡ true → layer rs ≢ not_yet_included
    → length reports ≡ report_width * length (blocks (bands rs)) → read_refusal rs scratch reports ≡ 0
unfolding read_refusal_with
read-not_refused rs scratch reports v l r =
    rw (v, ne_eqb (layer rs) not_yet_included l, eq-eqb (length reports) (report_width * length (blocks (bands rs))) r)

front-present : (ws : List ℕ) (c : Contribution) (m : Markers) (number t : ℕ) (ks : List Block) → layer ws ≡ t → blocks (bands ws) ≡ ks
    → contributes c ≡ true → front ws c m number ≡ with_markers m number (pack (1 ∷ (header_blocks t ks c ws).bits))
unfolding front
front-present ws c m number t ks l k n = ap (λ (x : Coded). with_markers m number (pack x.bits)) (present_coded c ws t ks l k n)

-- the same call with more input reads the packet too
reads_with_more : (form : RecordForm) (rs : List ℕ) (o : Owed) (r : ReadCall form) (more : List ℕ) → ReadsPacket form rs o r
    → ReadsPacket form rs o (with_more form r more)
reads_with_more form rs o r more a =
    record {
      same_markers = a.same_markers;
      begins = take-append-le (length o.front) r.input more (long (length o.front) r.input o.front refl a.begins)
          ∙ a.begins;
      scratch_length_lem = a.scratch_length_lem;
      reports_length = a.reports_length;
      records_enough = a.records_enough;
    }
  where
    long : (n : ℕ) (input fr : List ℕ) → length fr ≡ n → take n input ≡ fr → n ≤ length input
    long n input fr e h = let l : length (take n input) ≡ n = ap length h ∙ e in omega (arith, l, length-take n input)

-- an accepted call of the writer, in a state that meets the invariant
module _ (bs : List Band) (s t : ℕ) (ws rs : List ℕ) (es : List BlockEntry) (w : WriteCall) (y : Invariant bs s t ws rs es)
    (a : accepted ws w ≡ true)
    (term : T (terminated_as_style s es w.contribution.counts w.contribution.marks)) where
  abbrev c : Contribution
  c = w.contribution

  abbrev ks : List Block
  ks = blocks bs

  W : WriterInvariant bs s t ws
  W = y.writer-side

  abbrev fr : List ℕ
  fr = with_markers w.markers w.number (pack (1 ∷ (header_blocks t ks c ws).bits))

  front-is : contributes c ≡ true → (owed_for s ws es w).front ≡ fr
  unfolding owed_for
  front-is n = (is_accepted ws w a).front-is
      ∙ front-present ws c w.markers w.number t ks W.first_words_lem.layer-is (blocks-are bs s t ws w W a) n

  front-single : contributes c ≡ false → (owed_for s ws es w).front ≡ single_bit w.markers w.number
  unfolding owed_for
  front-single n = (is_accepted ws w a).front-is ∙ absent-front c ws w.markers w.number n

  counts_are : length c.counts ≡ length es
  counts_are = (acceptable bs s t ws w W a).counts ∙ sym (entries_length ws ks es y.booked)

  pub reports_are : length (owed_for s ws es w).entry.reports ≡ length ks
  unfolding owed_for
  reports_are = entry-reports s es c.counts c.lengths counts_are ∙ entries_length ws ks es y.booked

  -- the call r reads the packet
  module _ (form : RecordForm) (r : ReadCall form) (ask : ReadsPacket form rs (owed_for s ws es w) r) where
    not_refused_yet : read_refusal rs r.scratch r.reports ≡ 0
    not_refused_yet = read-not_refused rs r.scratch r.reports
        (reader-in_range bs s t ws rs es (length r.scratch) y ask.scratch_length_lem)
        (λ e. omega (arith, sym y.reader-first.layer-is ∙ e, layer-left bs s t ws w W a))
        (ask.reports_length ∙ ap (λ (n : ℕ). report_width * n) (reports_are ∙ ap length (sym (ap blocks y.reader-first.bands-are))))

    abbrev Reads : List ℕ → Markers → Type 0
    Reads src m = PacketRead (layout_of bs) s t ks (blocks-placed bs) (layer-left bs s t ws w W a) ws rs es c W.state y.in_step
        y.booked (acceptable bs s t ws w W a) term y.reader-first.layer-is
        (ap blocks y.reader-first.bands-are) w.markers w.number src form r.records
        (read form rs r.scratch m src r.reports r.records)

    -- with passes
    module _ (n : contributes c ≡ true) where
      reads : Reads r.input r.markers
      unfolding owed_for
      reads =
          subst (Reads r.input) (sym ask.same_markers)
          (packet-read (layout_of bs) s t ks (blocks-placed bs) (layer-left bs s t ws w W a) ws rs es c W.state y.in_step
          y.booked (acceptable bs s t ws w W a) term y.reader-first.layer-is
          (ap blocks y.reader-first.bands-are) w.markers w.number r.input form r.scratch r.reports r.records
          not_refused_yet ask.records_enough
          (subst (λ (x : List ℕ). take (length x) r.input ≡ x) (front-is n) ask.begins))

      present_gives : GivesEntry form (owed_for s ws es w) r (read_of form rs r)
      unfolding owed_for
      present_gives =
          let ans = reads.answer in
          record {
            accepts = ap (λ (x : ReadAnswer). x.refusal) ans;
            present = ap (λ (x : ReadAnswer). x.present) ans ∙ sym (if-true (contributes c) 1 0 n);
            taken = ap (λ (x : ReadAnswer). x.taken) ans ∙ ap length (sym (front-is n));
            segments = ap (λ (x : ReadAnswer). x.segments) ans;
            sop_mark = ap (λ (x : ReadAnswer). x.sop) ans;
            eph_mark = ap (λ (x : ReadAnswer). x.eph) ans;
            past = ap (λ (x : ReadAnswer). x.past) ans;
            reports = reads.reports;
            records = reads.records_are;
          }

      after_present : Invariant bs s (t + 1) (write_of ws w).state (read_of form rs r).state (add_counts es c.counts)
      after_present =
          let L : Layout = layout_of bs in
          let vs : List ℕ = (header_blocks t ks c ws).words in
          let q = reads in
          let state = state_present bs s t ws w W a n in
          let l : 13 ≤ length q.words = le_trans (end_after 13 bs) (le_of_eq (sym q.in_step.reader-length)) in
          subst (λ (v : List ℕ). Invariant bs s (t + 1) (write_of ws w).state v (add_counts es c.counts)) (sym q.state)
          (record {
            writer-side = writer-after bs s t ws w W a;
            in_step = subst (λ (v : List ℕ). InStep L s v (set q.words 3 (t + 1))) (sym state)
                (layer-in_step L s vs q.words (t + 1) q.in_step);
            booked = subst (λ (v : List ℕ). AllBooked v ks (add_counts es c.counts)) (sym state)
                (layer-booked L vs (t + 1) ks (add_counts es c.counts) (blocks-placed bs) q.booked_after);
            reader-first = next_layer 2 bs s t (t + 1) rs q.words l q.reader-first y.reader-first;
          })

    -- without
    module _ (n : contributes c ≡ false) where
      reads_none : read_of form rs r
          ≡ record {
            answer = record {
              refusal = 0;
              present = 0;
              taken = length (single_bit w.markers w.number);
              segments = 0;
              sop = 0;
              eph = 0;
              past = 0;
            };
            state = set rs 3 (t + 1);
            scratch = set rs 3 (t + 1);
            reports = wiped r.reports;
            records = r.records;
          }
      unfolding owed_for
      reads_none =
          ap (λ (m : Markers). read form rs r.scratch m r.input r.reports r.records) ask.same_markers
          ∙ absent-packet_read form rs r.scratch t w.markers w.number r.input r.reports r.records
          y.reader-first.layer-is
          (subst (λ (x : List ℕ). take (length x) r.input ≡ x) (front-single n) ask.begins) not_refused_yet

      absent-gives : GivesEntry form (owed_for s ws es w) r (read_of form rs r)
      unfolding owed_for
      absent-gives =
          let none = no_passes_lem c n in
          let ans = ap (λ (x : ReadResult form). x.answer) reads_none in
          let no = no_records s es c.counts c.lengths none in
          record {
            accepts = ap (λ (x : ReadAnswer). x.refusal) ans;
            present = ap (λ (x : ReadAnswer). x.present) ans ∙ sym (if-false (contributes c) 1 0 n);
            taken = ap (λ (x : ReadAnswer). x.taken) ans ∙ ap length (sym (front-single n));
            segments = ap (λ (x : ReadAnswer). x.segments) ans ∙ ap length (sym no);
            sop_mark = ap (λ (x : ReadAnswer). x.sop) ans;
            eph_mark = ap (λ (x : ReadAnswer). x.eph) ans;
            past = ap (λ (x : ReadAnswer). x.past) ans;
            reports = ap (λ (x : ReadResult form). x.reports) reads_none
                ∙ zero_reports s es c.counts c.lengths r.reports none ask.reports_length;
            records = ap (λ (x : ReadResult form). x.records) reads_none
                ∙ sym (form.none_stored r.records) ∙ ap (form.stored r.records) (sym no);
          }

      after_absent : Invariant bs s (t + 1) (write_of ws w).state (read_of form rs r).state (add_counts es c.counts)
      after_absent =
          let L : Layout = layout_of bs in
          let state = state_absent bs s t ws w W a n in
          let l : 13 ≤ length rs = le_trans (end_after 13 bs) (le_of_eq (sym y.in_step.reader-length)) in
          subst₂ (λ (v : List ℕ) (z : List BlockEntry). Invariant bs s (t + 1) (write_of ws w).state v z)
          (sym (ap (λ (x : ReadResult form). x.state) reads_none)) (sym (book_stays es c.counts (no_passes_lem c n) counts_are))
          (record {
            writer-side = writer-after bs s t ws w W a;
            in_step = subst (λ (v : List ℕ). InStep L s v (set rs 3 (t + 1))) (sym state) (layer-in_step L s ws rs (t + 1) y.in_step);
            booked = subst (λ (v : List ℕ). AllBooked v ks es) (sym state) (layer-booked L ws (t + 1) ks es (blocks-placed bs) y.booked);
            reader-first = next_layer 2 bs s t (t + 1) rs rs l (λ j h. refl) y.reader-first;
          })

    pub packet-gives : GivesEntry form (owed_for s ws es w) r (read_of form rs r)
    packet-gives = on_bool (contributes c) present_gives absent-gives

    pub after_packet : Invariant bs s (t + 1) (write_of ws w).state (read_of form rs r).state (add_counts es c.counts)
    after_packet = on_bool (contributes c) after_present after_absent

  -- more input doesn't change what is given
  pub more_gives : (form : RecordForm) (r : ReadCall form) → ReadsPacket form rs (owed_for s ws es w) r → (more : List ℕ)
      → GivesEntry form (owed_for s ws es w) r (read_of form rs (with_more form r more))
  more_gives form r ask more =
      let g = packet-gives form (with_more form r more) (reads_with_more form rs (owed_for s ws es w) r more ask) in
      record {
        accepts = g.accepts;
        present = g.present;
        taken = g.taken;
        segments = g.segments;
        sop_mark = g.sop_mark;
        eph_mark = g.eph_mark;
        past = g.past;
        reports = g.reports;
        records = g.records;
      }

  -- a read of the packet, whatever else is lent: never 9 or 12, and 13 only for want of records
  abbrev pub Harmless : (form : RecordForm) → ReadCall form → ℕ → Type 0
  Harmless form r x = (x ≢ 9) × (x ≢ 12) × (x ≡ 13 → form.room r.records < length (owed_for s ws es w).entry.records)

  pub read-harmless : (form : RecordForm) (r : ReadCall form) → r.markers ≡ w.markers
      → take (length (owed_for s ws es w).front) r.input ≡ (owed_for s ws es w).front
      → Harmless form r (read_of form rs r).answer.refusal
  unfolding read_with read_absent read_present read_refusal_with owed_for
  read-harmless form r marked begins =
      let room : ℕ = form.room r.records in
      let src : List ℕ = r.input in
      let P : ℕ → Type 0 = Harmless form r in
      let Q : ReadResult form → Type 0 = λ x. P x.answer.refusal in
      let zero_is : P 0 = (omega arith, omega arith, λ e. absurd (omega arith)) in
      let early : P (read_refusal rs r.scratch r.reports)
      = either P (not (valid_state reader rs (length r.scratch))) 5 _ (omega arith, omega arith, λ e. absurd (omega arith))
      (either P (eqb (layer rs) not_yet_included) 6 _ (omega arith, omega arith, λ e. absurd (omega arith))
      (either P (not (eqb (length r.reports) (report_width * length (blocks (bands rs))))) 3 0
      (omega arith, omega arith, λ e. absurd (omega arith)) zero_is)) in
      let at : Bio = bio_at (read_sop r.markers src).skip in
      let place : (before : ℕ) → read_sop w.markers src ≡ found before → at ≡ bio_at before = λ before is.
      ap (λ (m : Markers). bio_at (read_sop m src).skip) marked ∙ ap (λ (x : MarkerRead). bio_at x.skip) is in
      let first_zero : contributes c ≡ false → next_bit src at ≡ 0 = λ n.
      let h = first_bit_zero form rs r.scratch t w.markers w.number src r.reports r.records y.reader-first.layer-is
      (subst (λ (x : List ℕ). take (length x) src ≡ x) (front-single n) begins) in
      ap (next_bit src) (place h.0 h.1) ∙ h.2 in
      let late : contributes c ≡ true → P (read_header src room rs (bio_after src at)).refusal = λ n.
      let h = header_refusal (layout_of bs) s t ks (blocks-placed bs) (layer-left bs s t ws w W a) ws rs es c W.state y.in_step
      y.booked (acceptable bs s t ws w W a) term y.reader-first.layer-is
      (ap blocks y.reader-first.bands-are) w.markers w.number src room
      (subst (λ (x : List ℕ). take (length x) src ≡ x) (front-is n) begins) in
      subst (λ (b : Bio). P (read_header src room rs (bio_after src b)).refusal) (sym (place h.0 h.1))
      (by_refusal room (read_header src room rs (bio_after src (bio_at h.0))).refusal h.3) in
      either Q (not (eqb (read_refusal rs r.scratch r.reports) 0)) _ _ early
      (either-by Q (eqb (next_bit src at) 0) _ _ (λ z. zero_is)
      (λ z. either Q (eqb (read_header src room rs (bio_after src at)).refusal 0) _ _ zero_is
      (late (on_bool (contributes c) (λ n. n) (λ n. absurd (eqb-false (next_bit src at) 0 z (first_zero n)))))))
    where
      by_refusal : (room x : ℕ) → (x ≡ 0) ⊎ ((x ≡ 13) × (room < length (entry s es c.counts c.lengths).records))
          → (x ≢ 9) × (x ≢ 12) × (x ≡ 13 → room < length (entry s es c.counts c.lengths).records)
      by_refusal room x (inl e) = (omega arith, omega arith, λ z. absurd (omega arith))
      by_refusal room x (inr e) = (omega (arith, e.0), omega (arith, e.0), λ z. e.1)
