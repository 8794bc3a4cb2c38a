-- What follows for packets: different entries of the book never give the same header bytes; no packet's front is a proper prefix of
-- another's;
-- and a read of a writer's packet is never refused with 9 or 12, and with 13 only for want of records.
use mathlib.Core.Path.{◌≡◌, refl, sym, ap, ap₂, ◌∙◌, subst}
use mathlib.Core.Logic.{◌≢◌, ◌⊎◌, inl, inr}
use mathlib.Core.Bool.{Bool, true, false, cond, ◌&&◌}
use mathlib.Core.List.{List, [], ◌∷◌, ◌++◌}
use Prim.Native.Nat.{ℕ, ◌+◌, ◌-◌, ◌*◌, ◌≤◌, ◌<◌}
use native.Mathlib.Omega.{arith}
use lib.ListN.{length, take, drop, replicate, length-replicate, length-append}
use lib.Seq.{take-append_seam, take-length}
use lib.Dec.{T, eqb}
use lib.Ieee.Fits.{and_l, and_r}
use borrow.Author.Tests.{le-ltb, eq-eqb}
use Rattle.t800.specs.declared.Band.{Band}
use Rattle.t800.specs.Base.{sum, overwrite}
use Rattle.t800.specs.declared.SegmentRecord.{SegmentRecord}
use Rattle.t800.specs.Reports.{BlockReport, report_words, report_width, RecordForm, no_record, as_records}
use Rattle.t800.specs.State.{blocks, writer, reader}
use Rattle.t800.specs.Start.{start_refusal, start, start_with}
use Rattle.t800.specs.Book.{BlockEntry, Entry, report_of, entry_from, entry, new_book, add_counts, terminated_as_style}
use Rattle.t800.specs.Interface.{WriteCall, write_of, ReadCall, read_of}
use Rattle.t800.specs.RoundTrip.{Owed, ReadsPacket, GivesEntry}
use Rattle.round_trip.proofs.Trip.Lists.{WriterCall, measuring, writing, accepted, state_after, owed_for, owed, all_terminated_as_style}
use Rattle.round_trip.proofs.Trip.Lists.{ReaderCall, refused_read, packet_read}
use Rattle.t800_laws.proofs.Laws.Tests.{either, if-eq, if-ne, if-true, if-false, on-eq}
use Rattle.t800_laws.proofs.Laws.Lists.{no_elements, none_too_deep}
use Rattle.round_trip.proofs.Trip.Booked.{entries_length}
use Rattle.round_trip.proofs.Trip.Calls.{refused-keeps, terminated_accepted, terminated_refused, FirstOwed, first_owed}
use Rattle.round_trip.proofs.Trip.Calls.{refused-read_keeps}
use Rattle.t800_laws.proofs.Laws.Accepted.{start-accepted}
use Rattle.round_trip.proofs.Trip.WriterInRange.{acceptable}
use Rattle.round_trip.proofs.Trip.Invariant.{Invariant, after_start, reports_are, packet-gives, after_packet, read-harmless}

-- ---- a writer's state that is reached

-- the book after a list of calls: accepted packets alone change it
unfoldable pub book_after : List ℕ → List BlockEntry → List WriterCall → List BlockEntry
book_after ws book [] = book
book_after ws book (measuring c ∷ cs) = book_after ws book cs
book_after ws book (writing c ∷ cs) =
    book_after (write_of ws c).state (cond (accepted ws c) (add_counts book c.contribution.counts) book) cs

-- after an accepted start and a list of calls that keeps the termination rule
pub record Reached (style : ℕ) (ws : List ℕ) (book : List BlockEntry) : Type 0 where
  pub count : ℕ
  pub given : List Band
  pub planes : List ℕ
  pub lent : List ℕ
  pub calls : List WriterCall
  pub starts : (start writer count given style planes lent).answer ≡ 0
  pub terminated : T (all_terminated_as_style style (start writer count given style planes lent).state
      (new_book (take count given) planes) calls)
  pub state_is : state_after (start writer count given style planes lent).state calls ≡ ws
  pub book_is : book_after (start writer count given style planes lent).state (new_book (take count given) planes) calls ≡ book

-- a writing call that is accepted there and keeps the rule
pub record Writes (style : ℕ) (ws : List ℕ) (book : List BlockEntry) (c : WriteCall) : Type 0 where
  pub accepts : accepted ws c ≡ true
  pub terminated : T (terminated_as_style style book c.contribution.counts c.contribution.marks)

-- a packet's bytes less its body's, and what the book has for it
abbrev pub front_of : List ℕ → WriteCall → List ℕ
front_of ws c = take ((write_of ws c).answer.bytes - sum c.contribution.lengths) (write_of ws c).output

abbrev pub entry_of : ℕ → List BlockEntry → WriteCall → Entry
entry_of style book c = entry style book c.contribution.counts c.contribution.lengths

-- ---- a reader that has read all of it

owed_front : (s : ℕ) (ws : List ℕ) (es : List BlockEntry) (c : WriteCall) → (owed_for s ws es c).front ≡ front_of ws c
unfolding owed_for
owed_front s ws es c = refl

owed_entry_lem : (s : ℕ) (ws : List ℕ) (es : List BlockEntry) (c : WriteCall) → (owed_for s ws es c).entry ≡ entry_of s es c
unfolding owed_for
owed_entry_lem s ws es c = refl

owed_markers : (s : ℕ) (ws : List ℕ) (es : List BlockEntry) (c : WriteCall) → (owed_for s ws es c).markers ≡ c.markers
unfolding owed_for
owed_markers s ws es c = refl

-- an input read with n reports and m records lent
abbrev call_for : List ℕ → WriteCall → List ℕ → ℕ → ℕ → ReadCall as_records
call_for rs c input n m =
    record {
      scratch = replicate (length rs) 0;
      markers = c.markers;
      input = input;
      reports = replicate (report_width * n) 0;
      records = replicate m no_record;
    }

reads_packet : (s : ℕ) (ws rs : List ℕ) (es : List BlockEntry) (c d : WriteCall) (input : List ℕ) (n m : ℕ) → c.markers
    ≡ d.markers → take (length (front_of ws c)) input ≡ front_of ws c
    → length (owed_for s ws es c).entry.reports ≡ n → length (owed_for s ws es c).entry.records ≤ m
    → ReadsPacket as_records rs (owed_for s ws es c) (call_for rs d input n m)
reads_packet s ws rs es c d input n m marked begins reps recs =
    record {
      same_markers = sym marked ∙ sym (owed_markers s ws es c);
      begins = rw (owed_front s ws es c) begins;
      scratch_length_lem = length-replicate {A = ℕ} (length rs) 0;
      reports_length = length-replicate {A = ℕ} (report_width * n) 0 ∙ ap (λ (z : ℕ). report_width * z) (sym reps);
      records_enough = rw (length-replicate m no_record) recs;
    }

module _ (bs : List Band) (s : ℕ) where
  -- one accepted call, and a read of its packet
  reader-follows : (t : ℕ) (ws rs : List ℕ) (es : List BlockEntry) (c : WriteCall) → Invariant bs s t ws rs es → accepted ws c
      ≡ true → T (terminated_as_style s es c.contribution.counts c.contribution.marks)
      → (us : List ℕ) × Invariant bs s (t + 1) (write_of ws c).state us (add_counts es c.contribution.counts)
  reader-follows t ws rs es c y a term =
      let o : Owed = owed_for s ws es c in
      let r : ReadCall as_records = call_for rs c (front_of ws c) (length o.entry.reports) (length o.entry.records) in (
        (read_of as_records rs r).state,
        after_packet bs s t ws rs es c y a term as_records r
            (reads_packet s ws rs es c c (front_of ws c) (length o.entry.reports) (length o.entry.records) refl
            (take-length (front_of ws c)) refl (omega arith)),
      )

  reader-after : (t : ℕ) (ws rs : List ℕ) (es : List BlockEntry) (calls : List WriterCall) → Invariant bs s t ws rs es
      → T (all_terminated_as_style s ws es calls)
      → (u : ℕ) × (us : List ℕ) × Invariant bs s u (state_after ws calls) us (book_after ws es calls)
  unfolding state_after book_after all_terminated_as_style
  reader-after t ws rs es [] y h = (t, rs, y)
  reader-after t ws rs es (measuring c ∷ cs) y h = reader-after t ws rs es cs y h
  reader-after t ws rs es (writing c ∷ cs) y h =
      let q = one (accepted ws c) refl in
      reader-after q.0 (write_of ws c).state q.1 (cond (accepted ws c) (add_counts es c.contribution.counts) es) cs q.2 q.3
    where
      book : Bool → List BlockEntry
      book b = cond b (add_counts es c.contribution.counts) es

      one : (b : Bool) → accepted ws c ≡ b → (u : ℕ) × (us : List ℕ)
          × Invariant bs s u (write_of ws c).state us (book (accepted ws c))
          × T (all_terminated_as_style s (write_of ws c).state (book (accepted ws c)) cs)
      one true a =
          let here : Bool = terminated_as_style s es c.contribution.counts c.contribution.marks in
          let rest : Bool = all_terminated_as_style s (write_of ws c).state (add_counts es c.contribution.counts) cs in
          let h₁ : T (here && rest) = subst T (terminated_accepted s ws es c cs a) h in
          let n = reader-follows t ws rs es c y a (and_l here rest h₁) in
          let e : add_counts es c.contribution.counts ≡ book (accepted ws c) = sym (if-true (accepted ws c) _ _ a) in (
            t + 1,
            n.0,
            subst (Invariant bs s (t + 1) (write_of ws c).state n.0) e n.1,
            subst (λ (z : List BlockEntry). T (all_terminated_as_style s (write_of ws c).state z cs)) e (and_r here rest h₁),
          )
      one false a =
          let w : ws ≡ (write_of ws c).state = sym (refused-keeps ws c a) in
          let e : es ≡ book (accepted ws c) = sym (if-false (accepted ws c) _ _ a) in
          let h₁ : T (all_terminated_as_style s ws es cs) = subst T (terminated_refused s ws es c cs a) h in (
            t,
            rs,
            subst (Invariant bs s t (write_of ws c).state rs) e (subst (λ (v : List ℕ). Invariant bs s t v rs es) w y),
            subst (λ (z : List BlockEntry). T (all_terminated_as_style s (write_of ws c).state z cs)) e
                (subst (λ (v : List ℕ). T (all_terminated_as_style s v es cs)) w h₁),
          )

-- a reader can be started wherever a writer can
reader-starts : (n : ℕ) (given : List Band) (s : ℕ) (planes lent : List ℕ) → (start writer n given s planes lent).answer ≡ 0
    → (start reader n given s [] lent).answer ≡ 0
unfolding start_with start_refusal writer reader
reader-starts n given s planes lent e =
    let w = start-accepted writer n given s planes lent e in
    rw (
      w.shape,
      le-ltb (length given) n w.enough,
      w.style-in,
      eq-eqb _ _ w.lent_length,
      w.bands-in,
      none_too_deep (blocks (take n given)),
    )

reader-in_step : (s : ℕ) (ws : List ℕ) (es : List BlockEntry) → Reached s ws es → (bs : List Band) × (t : ℕ) × (rs : List ℕ)
    × Invariant bs s t ws rs es
reader-in_step s ws es r =
    let bs : List Band = take r.count r.given in
    let ws₀ : List ℕ = (start writer r.count r.given s r.planes r.lent).state in
    let rs₀ : List ℕ = (start reader r.count r.given s [] r.lent).state in
    let es₀ : List BlockEntry = new_book bs r.planes in
    let y = after_start r.count r.given s r.planes r.lent r.lent r.starts
    (reader-starts r.count r.given s r.planes r.lent r.starts) in
    let q = reader-after bs s 0 ws₀ rs₀ es₀ r.calls y r.terminated in (
      bs,
      q.0,
      q.1,
      subst (λ (v : List ℕ). Invariant bs s q.0 v q.1 es) r.state_is
          (subst (Invariant bs s q.0 (state_after ws₀ r.calls) q.1) r.book_is q.2),
    )

-- ---- words tell reports, and lent records records

reports_told : (xs ys : List BlockReport) → report_words xs ≡ report_words ys → xs ≡ ys
unfolding report_words
reports_told [] [] e = refl
reports_told [] (y ∷ ys) e = let z : ◌≡◌ {A = ℕ} 0 1 = cc in absurd (omega arith)
reports_told (x ∷ xs) [] e = let z : ◌≡◌ {A = ℕ} 0 1 = cc in absurd (omega arith)
reports_told (x ∷ xs) (y ∷ ys) e =
    let a : x.inclusion ≡ y.inclusion = cc in
    let b : x.zero_planes ≡ y.zero_planes = cc in
    let c : x.planes ≡ y.planes = cc in
    let d : x.passes ≡ y.passes = cc in
    let r : report_words xs ≡ report_words ys = cc in
    let h : x ≡ y = λ i. record { inclusion = a i; zero_planes = b i; planes = c i; passes = d i } in
    ap₂ (λ (z : BlockReport) (zs : List BlockReport). z ∷ zs) h (reports_told xs ys r)

over_same : (lent xs ys : List SegmentRecord) → length xs ≡ length ys → overwrite lent xs ≡ overwrite lent ys → xs ≡ ys
unfolding overwrite
over_same lent xs ys l e =
    sym (take-append_seam xs (drop (length xs) lent)) ∙ ap (take (length xs)) e
    ∙ ap (λ (n : ℕ). take n (ys ++ drop (length ys) lent)) l ∙ take-append_seam ys (drop (length ys) lent)

-- ---- two packets in one state

-- read by one call, whose input begins with both fronts
module _ (s : ℕ) (ws : List ℕ) (es : List BlockEntry) (R : Reached s ws es) (a b : WriteCall) (A : Writes s ws es a)
    (B : Writes s ws es b) (marked : a.markers ≡ b.markers)
    (begins : take (length (front_of ws a)) (front_of ws b) ≡ front_of ws a) where
  abbrev its_bands : List Band
  its_bands = (reader-in_step s ws es R).0

  abbrev its_layer : ℕ
  its_layer = (reader-in_step s ws es R).1

  abbrev reader_words : List ℕ
  reader_words = (reader-in_step s ws es R).2

  between : Invariant its_bands s its_layer ws reader_words es
  between = (reader-in_step s ws es R).3

  abbrev records_owed : WriteCall → ℕ
  records_owed c = length (owed_for s ws es c).entry.records

  abbrev call : ReadCall as_records
  call = call_for reader_words b (front_of ws b) (length (blocks its_bands)) (records_owed a + records_owed b)

  gives_a : GivesEntry as_records (owed_for s ws es a) call (read_of as_records reader_words call)
  gives_a = packet-gives its_bands s its_layer ws reader_words es a between A.accepts A.terminated as_records call
      (reads_packet s ws reader_words es a b (front_of ws b) (length (blocks its_bands)) (records_owed a + records_owed b) marked begins
      (reports_are its_bands s its_layer ws reader_words es a between A.accepts A.terminated) (omega arith))

  gives_b : GivesEntry as_records (owed_for s ws es b) call (read_of as_records reader_words call)
  gives_b = packet-gives its_bands s its_layer ws reader_words es b between B.accepts B.terminated as_records call
      (reads_packet s ws reader_words es b b (front_of ws b) (length (blocks its_bands)) (records_owed a + records_owed b) refl
      (take-length (front_of ws b)) (reports_are its_bands s its_layer ws reader_words es b between B.accepts B.terminated)
      (omega arith))

  same_length : length (front_of ws a) ≡ length (front_of ws b)
  same_length = ap length (sym (owed_front s ws es a)) ∙ sym gives_a.taken ∙ gives_b.taken ∙ ap length (owed_front s ws es b)

  same_entry : entry_of s es a ≡ entry_of s es b
  same_entry =
      let E : Entry = (owed_for s ws es a).entry in
      let F : Entry = (owed_for s ws es b).entry in
      let p : E.reports ≡ F.reports = reports_told E.reports F.reports (sym gives_a.reports ∙ gives_b.reports) in
      let n : length E.records ≡ length F.records = sym gives_a.segments ∙ gives_b.segments in
      let q : E.records ≡ F.records =
      over_same call.records E.records F.records n (sym gives_a.records ∙ gives_b.records) in
      sym (owed_entry_lem s ws es a) ∙ (λ i. record { reports = p i; records = q i }) ∙ owed_entry_lem s ws es b

-- Two writing calls accepted in the same state with the same markers, each meeting the termination rule: different entries of the
-- book, that
-- is, different counts, block facts or segment lengths, never give the same header bytes.
pub different_entries_differ : (s : ℕ) (ws : List ℕ) (book : List BlockEntry) → Reached s ws book → (a b : WriteCall)
    → Writes s ws book a → Writes s ws book b → a.markers ≡ b.markers
    → entry_of s book a ≢ entry_of s book b → front_of ws a ≢ front_of ws b
different_entries_differ s ws book R a b A B marked differ same =
    differ (same_entry s ws book R a b A B marked
    (subst (λ (z : List ℕ). take (length (front_of ws a)) z ≡ front_of ws a) same (take-length (front_of ws a))))

-- No packet's front is a proper prefix of another's in the same state with the same markers.
pub no_proper_prefix : (s : ℕ) (ws : List ℕ) (book : List BlockEntry) → Reached s ws book → (a b : WriteCall) → Writes s ws book a
    → Writes s ws book b → a.markers ≡ b.markers
    → (rest : List ℕ) → front_of ws a ++ rest ≡ front_of ws b → rest ≡ []
no_proper_prefix s ws book R a b A B marked rest e =
    let l = same_length s ws book R a b A B marked (ap (take (length (front_of ws a))) (sym e) ∙ take-append_seam (front_of ws a) rest) in
    no_elements rest (let n : length (front_of ws a) + length rest ≡ length (front_of ws b) = sym (length-append (front_of ws a) rest)
    ∙ ap length e in omega arith)

-- ---- different counts give different entries

abbrev passes_in : List BlockReport → List ℕ
passes_in [] = []
passes_in (x ∷ xs) = x.passes ∷ passes_in xs

report_passes : (e : BlockEntry) (c : ℕ) → (report_of e c).passes ≡ c
unfolding report_of
report_passes e c =
    on-eq c 0
    (λ h. ap (λ (x : BlockReport). x.passes) (if-eq c 0 _ _ h) ∙ sym h)
    (λ h. ap (λ (x : BlockReport). x.passes) (if-ne c 0 _ _ h)
    ∙ either (λ (x : BlockReport). x.passes ≡ c) (eqb e.passes 0) _ _ refl refl)

counts_in : (s i before : ℕ) (es : List BlockEntry) (cs ls : List ℕ) → length cs ≡ length es
    → passes_in (entry_from s i before es cs ls).reports ≡ cs
unfolding entry_from
counts_in s i before [] [] ls h = refl
counts_in s i before [] (c ∷ cs) ls h = absurd (omega arith)
counts_in s i before (e ∷ es) [] ls h = absurd (omega arith)
counts_in s i before (e ∷ es) (c ∷ cs) ls h =
    ap₂ (λ (x : ℕ) (xs : List ℕ). x ∷ xs) (report_passes e c)
    (counts_in s (i + 1) (before + sum (take c ls)) es cs (drop c ls) (omega arith))

counts_told : (s : ℕ) (es : List BlockEntry) (cs ls : List ℕ) → length cs ≡ length es → passes_in (entry s es cs ls).reports ≡ cs
unfolding entry
counts_told s es cs ls h = counts_in s 0 0 es cs ls h

pub different_counts_differ : (s : ℕ) (ws : List ℕ) (book : List BlockEntry) → Reached s ws book → (a b : WriteCall)
    → Writes s ws book a → Writes s ws book b → a.markers ≡ b.markers
    → a.contribution.counts ≢ b.contribution.counts → front_of ws a ≢ front_of ws b
different_counts_differ s ws book R a b A B marked differ =
    different_entries_differ s ws book R a b A B marked
    (λ e. differ (sym (counts_told s book a.contribution.counts a.contribution.lengths (as_many a A))
    ∙ ap (λ (z : Entry). passes_in z.reports) e
    ∙ counts_told s book b.contribution.counts b.contribution.lengths (as_many b B)))
  where
    as_many : (c : WriteCall) → Writes s ws book c → length c.contribution.counts ≡ length book
    as_many c C =
        let q = reader-in_step s ws book R in
        (acceptable q.0 s q.1 ws c q.3.writer-side C.accepts).counts
        ∙ sym (entries_length ws (blocks q.0) book q.3.booked)

-- ---- refusals of reads

-- a read of the packet o in the state rs, with its markers and an input that begins with it, whatever scratch, reports and records are lent
abbrev pub NeverBroken : (form : RecordForm) → List ℕ → Owed → Type 0
NeverBroken form rs o =
    (c : ReadCall form) → c.markers ≡ o.markers → take (length o.front) c.input ≡ o.front
    → ((read_of form rs c).answer.refusal ≢ 9) × ((read_of form rs c).answer.refusal ≢ 12)
    × ((read_of form rs c).answer.refusal ≡ 13 → form.room c.records < length o.entry.records)

-- after any list of reads, refused ones and reads of the packets in order, the next packet is such
unfoldable pub NextNeverBroken : (form : RecordForm) → List ℕ → List Owed → List (ReaderCall form) → Type 0
NextNeverBroken form rs [] cs = Unit {0}
NextNeverBroken form rs (o ∷ os) [] = NeverBroken form rs o
NextNeverBroken form rs (o ∷ os) (refused_read c ∷ cs) =
    0 < (read_of form rs c).answer.refusal → NextNeverBroken form (read_of form rs c).state (o ∷ os) cs
NextNeverBroken form rs (o ∷ os) (packet_read c ∷ cs) = ReadsPacket form rs o c → NextNeverBroken form (read_of form rs c).state os cs

no_packet : (form : RecordForm) (rs : List ℕ) (os : List Owed) (cs : List (ReaderCall form)) → os ≡ [] → NextNeverBroken form rs os cs
unfolding NextNeverBroken
no_packet form rs os cs e = subst (λ (z : List Owed). NextNeverBroken form rs z cs) (sym e) tt

never_broken : (form : RecordForm) (bs : List Band) (s t : ℕ) (ws rs : List ℕ) (es : List BlockEntry) (reads : List (ReaderCall form))
    (writes : List WriterCall) → Invariant bs s t ws rs es → T (all_terminated_as_style s ws es writes)
    → NextNeverBroken form rs (owed s ws es writes) reads
unfolding NextNeverBroken
never_broken form bs s t ws rs es [] writes y h = go (first_owed s ws es writes h)
  where
    go : (owed s ws es writes ≡ []) ⊎ FirstOwed s ws es writes → NextNeverBroken form rs (owed s ws es writes) []
    go (inl e) = no_packet form rs (owed s ws es writes) [] e
    go (inr f) =
        subst (λ (os : List Owed). NextNeverBroken form rs os []) (sym f.is)
        (λ c marked begins. read-harmless bs s t ws rs es f.call y f.accepts f.terminated form c
        (marked ∙ owed_markers s ws es f.call) begins)
never_broken form bs s t ws rs es (refused_read c ∷ reads) writes y h =
    go (first_owed s ws es writes h) (never_broken form bs s t ws rs es reads writes y h)
  where
    go : (owed s ws es writes ≡ []) ⊎ FirstOwed s ws es writes → NextNeverBroken form rs (owed s ws es writes) reads
        → NextNeverBroken form rs (owed s ws es writes) (refused_read c ∷ reads)
    go (inl e) k = no_packet form rs (owed s ws es writes) (refused_read c ∷ reads) e
    go (inr f) k =
        subst (λ (os : List Owed). NextNeverBroken form rs os (refused_read c ∷ reads)) (sym f.is)
        (λ z. subst (λ (v : List ℕ). NextNeverBroken form v
        (owed_for s ws es f.call ∷ owed s (write_of ws f.call).state (add_counts es f.call.contribution.counts) f.rest)
        reads) (sym (refused-read_keeps form rs c z)) (subst (λ (os : List Owed). NextNeverBroken form rs os reads) f.is k))
never_broken form bs s t ws rs es (packet_read c ∷ reads) writes y h =
    go (first_owed s ws es writes h) (λ v u es₂ later i k. never_broken form bs s (t + 1) v u es₂ reads later i k)
  where
    go : (owed s ws es writes ≡ []) ⊎ FirstOwed s ws es writes
        → ((v u : List ℕ) (es₂ : List BlockEntry) (later : List WriterCall) → Invariant bs s (t + 1) v u es₂
        → T (all_terminated_as_style s v es₂ later) → NextNeverBroken form u (owed s v es₂ later) reads)
        → NextNeverBroken form rs (owed s ws es writes) (packet_read c ∷ reads)
    go (inl e) k = no_packet form rs (owed s ws es writes) (packet_read c ∷ reads) e
    go (inr f) k =
        subst (λ (os : List Owed). NextNeverBroken form rs os (packet_read c ∷ reads)) (sym f.is)
        (λ ask. k (write_of ws f.call).state (read_of form rs c).state (add_counts es f.call.contribution.counts) f.rest
        (after_packet bs s t ws rs es f.call y f.accepts f.terminated form c ask) f.rest-terminated)

-- Reading a packet that the writer made never gives 9 or 12, and 13 only when fewer records are lent than the book's entry has.
pub packets-never_broken : (form : RecordForm) (n : ℕ) (given : List Band) (style : ℕ) (planes lent lent' : List ℕ)
    → (start writer n given style planes lent).answer ≡ 0
    → (start reader n given style [] lent').answer ≡ 0
    → (ws : List WriterCall)
    → T (all_terminated_as_style style (start writer n given style planes lent).state (new_book (take n given) planes) ws)
    → (rs : List (ReaderCall form))
    → NextNeverBroken form (start reader n given style [] lent').state
    (owed style (start writer n given style planes lent).state (new_book (take n given) planes) ws) rs
packets-never_broken form n given style planes lent lent' ew er ws h rs =
    never_broken form (take n given) style 0 (start writer n given style planes lent).state (start reader n given style [] lent').state
    (new_book (take n given) planes) rs ws
    (after_start n given style planes lent lent' ew er) h
