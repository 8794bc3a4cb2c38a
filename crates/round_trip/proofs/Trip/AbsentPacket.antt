-- A packet without passes: what the book has for it, and what is read of its single bit.
use mathlib.Core.Path.{◌≡◌, refl, sym, ap, ap₂, ◌∙◌}
use mathlib.Core.Bool.{false}
use mathlib.Core.List.{List, [], ◌∷◌, ◌++◌}
use Prim.Native.Nat.{ℕ, zero, suc, ◌+◌, ◌*◌}
use native.Mathlib.Omega.{arith}
use lib.ListN.{length, replicate, set, take}
use borrow.Author.Tests.{ltb-false}
use Rattle.t800.specs.declared.Markers.{Markers}
use Rattle.t800.specs.Base.{sum, wiped}
use Rattle.t800.specs.Bits.{bio_at, bytes_taken, bits_past}
use Rattle.t800.specs.Reports.{report_width, report_words, RecordForm}
use Rattle.t800.specs.State.{layer}
use Rattle.t800.specs.WriteHeader.{Contribution, contributes}
use Rattle.t800.specs.MarkerSegments.{with_markers, read_sop, read_eph}
use Rattle.t800.specs.Packet.{read_refusal, read_absent, read, read_with}
use Rattle.t800.specs.Book.{BlockEntry, report_of, records_of, entry_from, entry, add_counts}
use Rattle.t800_laws.proofs.Laws.Contributes.{contributes-by_sum, single-bit_packed}
use Rattle.round_trip.proofs.Trip.Bits.{next_bit, bio_after, none_past, packed-bits_read}
use Rattle.round_trip.proofs.Trip.Packet.{found, Around, around}

-- ---- the book

pub no_passes_lem : (c : Contribution) → contributes c ≡ false → sum c.counts ≡ 0
no_passes_lem c e = let h = ltb-false 0 (sum c.counts) (sym (contributes-by_sum c) ∙ e) in omega arith

no_records_from : (s i before : ℕ) (es : List BlockEntry) (cs ls : List ℕ) → sum cs ≡ 0 → (entry_from s i before es cs ls).records ≡ []
unfolding entry_from records_of sum
no_records_from s i before [] cs ls h = refl
no_records_from s i before (e ∷ es) [] ls h = refl
no_records_from s i before (e ∷ es) (zero ∷ cs) ls h = no_records_from s (i + 1) (before + sum (take 0 ls)) es cs ls (omega arith)
no_records_from s i before (e ∷ es) (suc c ∷ cs) ls h = absurd (omega arith)

pub no_records : (s : ℕ) (es : List BlockEntry) (cs ls : List ℕ) → sum cs ≡ 0 → (entry s es cs ls).records ≡ []
unfolding entry
no_records s es cs ls h = no_records_from s 0 0 es cs ls h

four_more : (n : ℕ) → ◌≡◌ {A = List ℕ} (0 ∷ 0 ∷ 0 ∷ 0 ∷ replicate (report_width * n) 0) (replicate (report_width * suc n) 0)
four_more n = let e : suc (suc (suc (suc (report_width * n)))) ≡ report_width * suc n = omega arith in ap (λ (z : ℕ). replicate z 0) e

zero_reports_from : (s i before : ℕ) (es : List BlockEntry) (cs ls : List ℕ) → sum cs ≡ 0
    → report_words (entry_from s i before es cs ls).reports ≡ replicate (report_width * length (entry_from s i before es cs ls).reports) 0
unfolding entry_from report_of report_words sum
zero_reports_from s i before [] cs ls h = refl
zero_reports_from s i before (e ∷ es) [] ls h = refl
zero_reports_from s i before (e ∷ es) (zero ∷ cs) ls h =
    let b : ℕ = before + sum (take 0 ls) in
    ap (λ (z : List ℕ). 0 ∷ 0 ∷ 0 ∷ 0 ∷ z) (zero_reports_from s (i + 1) b es cs ls (omega arith))
    ∙ four_more (length (entry_from s (i + 1) b es cs ls).reports)
zero_reports_from s i before (e ∷ es) (suc c ∷ cs) ls h = absurd (omega arith)

pub zero_reports : (s : ℕ) (es : List BlockEntry) (cs ls lent : List ℕ) → sum cs ≡ 0
    → length lent ≡ report_width * length (entry s es cs ls).reports → wiped lent ≡ report_words (entry s es cs ls).reports
unfolding entry
zero_reports s es cs ls lent h l = ap (λ (z : ℕ). replicate z 0) l ∙ sym (zero_reports_from s 0 0 es cs ls h)

pub book_stays : (es : List BlockEntry) (cs : List ℕ) → sum cs ≡ 0 → length cs ≡ length es → add_counts es cs ≡ es
unfolding add_counts sum
book_stays [] cs h l = refl
book_stays (e ∷ es) [] h l = absurd (omega arith)
book_stays (e ∷ es) (zero ∷ cs) h l =
    let same : e.passes + 0 ≡ e.passes = omega arith in
    ap₂ (λ (n : ℕ) (z : List BlockEntry). record { band_planes = e.band_planes; planes = e.planes; passes = n } ∷ z) same
    (book_stays es cs (omega arith) (omega arith))
book_stays (e ∷ es) (suc c ∷ cs) h l = absurd (omega arith)

-- ---- the read

abbrev pub single_bit : Markers → ℕ → List ℕ
single_bit m number = with_markers m number (0 ∷ [])

module _ (form : RecordForm) (rs scratch : List ℕ) (t : ℕ) (m : Markers) (number : ℕ) (src reports : List ℕ) (records : form.Lent)
    (l : layer rs ≡ t) (begins : take (length (single_bit m number)) src ≡ single_bit m number) where
  place : Around m number src (0 ∷ [])
  place = around m number src (0 ∷ []) begins

  bit_read_lem : (next_bit src (bio_at place.before) ≡ 0) × (bytes_taken src (bio_after src (bio_at place.before)) ≡ place.before + 1)
      × (bits_past src (bio_at place.before) (bio_after src (bio_at place.before)) ≡ 0)
  bit_read_lem =
      let g = packed-bits_read src place.tail 0 [] place.before (omega arith) tt
      (place.at_header ∙ ap (λ (z : List ℕ). z ++ place.tail) (sym single-bit_packed)) in (
        g.reads.1,
        ap (bytes_taken src) g.reads.2.1 ∙ g.taken ∙ ap (λ (z : List ℕ). place.before + length z) single-bit_packed,
        ap (bits_past src (bio_at place.before)) g.reads.2.1 ∙ none_past src (bio_at place.before) _ _ g,
      )

  -- its first bit is 0
  pub first_bit_zero : (before : ℕ) × (read_sop m src ≡ found before) × (next_bit src (bio_at before) ≡ 0)
  first_bit_zero = (place.before, place.sop_is, bit_read_lem.0)

  absent-left : (at skip : ℕ) → bytes_taken src (bio_after src (bio_at place.before)) ≡ at → read_eph m src at ≡ found skip
      → read_absent form rs m src reports records (found place.before) (bio_after src (bio_at place.before))
      ≡ record {
        answer = record { refusal = 0; present = 0; taken = at + skip; segments = 0; sop = 0; eph = 0; past = 0 };
        state = set rs 3 (t + 1);
        scratch = set rs 3 (t + 1);
        reports = wiped reports;
        records = records;
      }
  unfolding read_absent
  absent-left at skip a e = rw (a, e, bit_read_lem.2, l)

  read-is_absent : read_refusal rs scratch reports ≡ 0 → read form rs scratch m src reports records
      ≡ read_absent form rs m src reports records (found place.before) (bio_after src (bio_at place.before))
  unfolding read_with
  read-is_absent why = rw (why, place.sop_is, bit_read_lem.0)

  pub absent-packet_read : read_refusal rs scratch reports ≡ 0 → read form rs scratch m src reports records
      ≡ record {
        answer = record { refusal = 0; present = 0; taken = length (single_bit m number); segments = 0; sop = 0; eph = 0; past = 0 };
        state = set rs 3 (t + 1);
        scratch = set rs 3 (t + 1);
        reports = wiped reports;
        records = records;
      }
  absent-packet_read why =
      read-is_absent why ∙ absent-left (place.before + 1) place.after bit_read_lem.1 place.eph_is
      ∙ (λ i. record {
        answer = record { refusal = 0; present = 0; taken = place.all i; segments = 0; sop = 0; eph = 0; past = 0 };
        state = set rs 3 (t + 1);
        scratch = set rs 3 (t + 1);
        reports = wiped reports;
        records = records;
      })
