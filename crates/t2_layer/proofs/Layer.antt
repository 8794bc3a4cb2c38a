-- One layer written and read back: what the calls leave, and the round trip of it.
use mathlib.Core.Path.{◌≡◌, refl, sym, ap, ◌∙◌, subst}
use mathlib.Core.Logic.{◌≢◌}
use mathlib.Core.Bool.{Bool, true, false, not, ◌&&◌}
use mathlib.Core.List.{List, [], ◌∷◌}
use Prim.Native.Nat.{ℕ, zero, suc, ◌-◌}
use lib.ListN.{length, take}
use lib.Dec.{T, eqb}
use borrow.Author.Tests.{eq-eqb, ne_eqb}
use Rattle.t800.specs.declared.Band.{Band}
use Rattle.t800.specs.declared.ReadAnswer.{ReadAnswer}
use Rattle.t800.specs.Base.{sum}
use Rattle.t800.specs.State.{writer, reader, blocks, state_length}
use Rattle.t800.specs.Start.{fresh_state, StartResult, start}
use Rattle.t800.specs.Reports.{as_words}
use Rattle.t800.specs.Packet.{WriteResult, write, ReadResult, read_result, refused_answer, read}
use Rattle.t800.specs.Book.{terminated_as_style}
use Rattle.t800.specs.RoundTrip.{Owed, GivesEntry, written, packet_made, accepted, Follows, owed, all_terminated_as_style}
use Rattle.t800.specs.RoundTrip.{ReadsAsOwed, state_after, RoundTrip, WriterInRange}
use Rattle.t800_laws.proofs.Laws.Tests.{if-true, if-false}
use Rattle.theorems.specs.Calls.{calls}
use Rattle.theorems.proofs.Calls.{round_trip_of_calls, writer-of_calls_in_range}
use Rattle.t800_laws.proofs.Laws.Lists.{no_planes}
use Rattle.t800_laws.proofs.Laws.FreshState.{fresh_length}
use Rattle.t800_laws.proofs.Laws.Accepted.{start-accepted}
use Rattle.round_trip.proofs.Trip.Calls as trip
use Rattle.tcd_laws.proofs.Laws.ValidStates.{valid_state_lem}
use Rattle.t2_layer.specs.Layer.{FirstLayer, Lent, book_of, write_call_of, owed_of, read_call_of, write_of_layer, layer_result, layer_by}
use Rattle.t2_layer.specs.Layer.{LayerResult, write_and_read, Premises, LayerReadBack}

-- ---- all that the calls leave

module _ (l : FirstLayer) (b : Lent) (s : StartResult)
    (sm : s ≡ start writer l.count l.bands l.style l.planes b.writer) where
  abbrev reader_start : StartResult
  reader_start = start reader l.count l.bands l.style [] b.reader

  abbrev packet_from : StartResult → WriteResult
  packet_from z = write z.state b.scratch l.contribution l.body l.markers l.number b.output

  abbrev read_from : StartResult → WriteResult → ReadResult as_words
  read_from t p = read as_words t.state p.scratch l.markers p.output b.reports b.records

  by_results : (t : StartResult) (p : WriteResult) (q : ReadResult as_words) → t ≡ reader_start → p ≡ packet_from s → q ≡ read_from t p
      → layer_by b s t p q ≡ write_and_read l b
  unfolding write_and_read
  by_results t p q tm pm qm =
      let whole : p ≡ write_of_layer l b = pm ∙ ap packet_from sm in
      λ i. layer_by b (sm i) (tm i) (whole i) ((qm ∙ (λ j. read_from (tm j) (whole j))) i)

  pub ends_at_writer : (a : ReadAnswer) → a ≡ refused_answer s.answer → s.answer ≢ 0
      → layer_result a s.state b.reader b.scratch b.output b.reports b.records ≡ write_and_read l b
  unfolding layer_by
  ends_at_writer a e n =
      ap (λ (z : ReadAnswer). layer_result z s.state b.reader b.scratch b.output b.reports b.records) e
      ∙ sym (if-true (not (eqb s.answer 0)) _ _ (ap not (ne_eqb s.answer 0 n)))
      ∙ by_results reader_start (packet_from s) (read_from reader_start (packet_from s)) refl refl refl

  module _ (z : s.answer ≡ 0) (t : StartResult) (tm : t ≡ reader_start) where
    pub ends_at_reader : (a : ReadAnswer) → a ≡ refused_answer t.answer → t.answer ≢ 0
        → layer_result a s.state t.state b.scratch b.output b.reports b.records ≡ write_and_read l b
    unfolding layer_by
    ends_at_reader a e n =
        ap (λ (x : ReadAnswer). layer_result x s.state t.state b.scratch b.output b.reports b.records) e
        ∙ sym (if-false (not (eqb s.answer 0)) _ _ (ap not (eq-eqb s.answer 0 z))
        ∙ if-true (not (eqb t.answer 0)) _ _ (ap not (ne_eqb t.answer 0 n)))
        ∙ by_results t (packet_from s) (read_from t (packet_from s)) tm refl refl

    module _ (y : t.answer ≡ 0) (p : WriteResult) (pm : p ≡ packet_from s) where
      pub ends_at_packet : (a : ReadAnswer) → a ≡ refused_answer p.answer.refusal → p.answer.refusal ≢ 0
          → layer_result a p.state t.state p.scratch p.output b.reports b.records ≡ write_and_read l b
      unfolding layer_by
      ends_at_packet a e n =
          ap (λ (x : ReadAnswer). layer_result x p.state t.state p.scratch p.output b.reports b.records) e
          ∙ sym (if-false (not (eqb s.answer 0)) _ _ (ap not (eq-eqb s.answer 0 z))
          ∙ if-false (not (eqb t.answer 0)) _ _ (ap not (eq-eqb t.answer 0 y))
          ∙ if-true (not (eqb p.answer.refusal 0)) _ _ (ap not (ne_eqb p.answer.refusal 0 n)))
          ∙ by_results t p (read_from t p) tm pm refl

      pub ends_read : (q : ReadResult as_words) → q ≡ read_from t p → p.answer.refusal ≡ 0
          → layer_result q.answer p.state q.state q.scratch p.output q.reports q.records ≡ write_and_read l b
      unfolding layer_by
      ends_read q qm x =
          sym (if-false (not (eqb s.answer 0)) _ _ (ap not (eq-eqb s.answer 0 z))
          ∙ if-false (not (eqb t.answer 0)) _ _ (ap not (eq-eqb t.answer 0 y))
          ∙ if-false (not (eqb p.answer.refusal 0)) _ _ (ap not (eq-eqb p.answer.refusal 0 x)))
          ∙ by_results t p q tm pm qm

-- ---- the round trip

begins_with : (k : ℕ) (l : List ℕ) → take (length (take k l)) l ≡ take k l
begins_with zero l = refl
begins_with (suc k) [] = refl
begins_with (suc k) (x ∷ l) = ap (λ (z : List ℕ). x ∷ z) (begins_with k l)

module _ (l : FirstLayer) (b : Lent) (h : Premises l b) where
  abbrev writer_start : StartResult
  writer_start = start writer l.count l.bands l.style l.planes b.writer

  abbrev reader_start' : StartResult
  reader_start' = start reader l.count l.bands l.style [] b.reader

  abbrev result : ReadResult as_words
  result = read as_words reader_start'.state (write_of_layer l b).scratch l.markers (write_of_layer l b).output b.reports b.records

  -- nothing refuses the four calls
  whole : write_and_read l b
      ≡ layer_result result.answer (write_of_layer l b).state result.state result.scratch (write_of_layer l b).output
      result.reports result.records
  whole = sym (ends_read l b writer_start refl h.writer-starts reader_start' refl h.reader-starts (write_of_layer l b) refl result
      refl h.accepted)

  abbrev start-made : (role : ℕ) → List ℕ → List ℕ → (calls.starts role).Made
  start-made role planes lent = record {
    found = lent;
    args = record { count = l.count; bands = l.bands; style = l.style; planes = planes };
    left = start role l.count l.bands l.style planes lent;
    met = refl;
  }

  abbrev write-made : calls.writes.Made
  write-made = record { found = writer_start.state; args = write_call_of l b; left = write_of_layer l b; met = refl }

  abbrev read_made : calls.reads.Made
  read_made = record { found = reader_start'.state; args = read_call_of l b; left = result; met = refl }

  is_accepted : accepted calls write-made ≡ true
  is_accepted = eq-eqb (write_of_layer l b).answer.refusal 0 h.accepted

  one_owed : owed calls l.style (book_of l) (written write-made ∷ []) ≡ owed_of l b ∷ []
  unfolding owed
  one_owed = if-true (accepted calls write-made) _ _ is_accepted

  one_terminated : T (all_terminated_as_style calls l.style (book_of l) (written write-made ∷ []))
  unfolding all_terminated_as_style
  one_terminated =
      subst T (sym (if-true (accepted calls write-made) _ _ is_accepted))
      (and-true (terminated_as_style l.style (book_of l) l.contribution.counts l.contribution.marks) h.terminated)
    where
      and-true : (b : Bool) → T b → T (b && true)
      and-true true t = t
      and-true false t = t

  -- an accepted packet leaves in scratch the state, which is as long as the reader's
  scratch_is : (write_of_layer l b).scratch ≡ (write_of_layer l b).state
  scratch_is =
      let A = trip.is_accepted writer_start.state (write_call_of l b) is_accepted in
      A.scratch ∙ sym A.state

  state_length_lem : length b.writer ≡ length (write_of_layer l b).state
  unfolding WriterInRange state_after Follows
  state_length_lem = (valid_state_lem writer (write_of_layer l b).state (length b.writer)
      (writer-of_calls_in_range (start-made writer l.planes b.writer) h.writer-starts (written write-made ∷ []) (refl, tt))
      ).scratch_is

  scratch_length_lem : length (write_of_layer l b).scratch ≡ length reader_start'.state
  unfolding state_length
  scratch_length_lem =
      let bs : List Band = take l.count l.bands in
      let W = start-accepted writer l.count l.bands l.style l.planes b.writer h.writer-starts in
      let R = start-accepted reader l.count l.bands l.style [] b.reader h.reader-starts in
      ap length scratch_is ∙ sym state_length_lem ∙ W.lent_length
      ∙ sym (ap length (R.state ∙ no_planes (blocks bs) (fresh_state reader l.style bs)) ∙ fresh_length reader l.style bs)

  gives_entry : GivesEntry as_words (owed_of l b) (read_call_of l b) result
  unfolding RoundTrip ReadsAsOwed Follows
  gives_entry =
      let k : ℕ = (write_of_layer l b).answer.bytes - sum l.contribution.lengths in
      (subst (λ (os : List Owed). ReadsAsOwed calls reader_start'.state os (packet_made read_made ∷ [])) one_owed
      (round_trip_of_calls (start-made writer l.planes b.writer) (start-made reader [] b.reader) h.writer-starts
      h.reader-starts refl refl refl (written write-made ∷ []) (refl, tt) one_terminated (packet_made read_made ∷ []))
      refl refl
      (record {
        same_markers = refl;
        begins = begins_with k (write_of_layer l b).output;
        scratch_length_lem = scratch_length_lem;
        reports_length = h.reports_length;
        records_enough = h.records_enough;
      })).0

pub layer-read_back : LayerReadBack
unfolding LayerReadBack
layer-read_back l b h =
    subst (λ (z : LayerResult). GivesEntry as_words (owed_of l b) (read_call_of l b)
    (read_result as_words z.reader z.scratch z.reports z.records z.answer)) (sym (whole l b h)) (gives_entry l b h)
