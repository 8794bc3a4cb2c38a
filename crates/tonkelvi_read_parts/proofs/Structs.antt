-- The records that are stored from the work list are those that t800's `read` leaves in the structs.
use mathlib.Core.Path.{◌≡◌, refl, sym, ap, ◌∙◌}
use mathlib.Core.Logic.{◌≢◌}
use mathlib.Core.Bool.{Bool, true, false, cond, not, ◌||◌, true≢false}
use mathlib.Core.List.{List}
use Prim.Native.Nat.{ℕ, ◌*◌, ◌/◌, ◌^◌, ◌<◌}
use native.Mathlib.Omega.{arith}
use lib.ListN.{length}
use lib.Dec.{eqb}
use borrow.Author.Tests.{eq-eqb, ne_eqb, eqb-true, eqb-false}
use Rattle.t800.specs.declared.Markers.{Markers}
use Rattle.t800.specs.declared.ReadAnswer.{ReadAnswer}
use Rattle.t800.specs.Base.{wiped}
use Rattle.t800.specs.Bits.{Decoded, bio_at, get_bit}
use Rattle.t800.specs.State.{reader, not_yet_included, layer, bands, blocks}
use Rattle.t800.specs.Ranges.{valid_state}
use Rattle.t800.specs.declared.SegmentRecord.{SegmentRecord}
use Rattle.t800.specs.Reports.{report_width, body_bytes, RecordForm, as_records, as_words}
use Rattle.t800.specs.MarkerSegments.{read_sop}
use Rattle.t800.specs.ReadHeader.{HeaderRead, read_header}
use Rattle.t800.specs.Packet.{ReadResult, refused_answer, read_refusal, read_refusal_with, read_absent, read_present, read, read_with, read_result}
use Rattle.t800_laws.proofs.Laws.Tests.{if-true, if-false, either}
use Rattle.t800_laws.proofs.Laws.StateAfter.{read-in_range}
use Rattle.t800_laws.proofs.Laws.Starts.{header_starts, header_bytes_lem}
use Rattle.tcd_laws.proofs.Laws.ValidStates.{blocks-of_valid}
use Rattle.round_trip.proofs.Numbers.{header_number}
use Rattle.t800.specs.Exports.{read_words, ReadExit, read_exit, work_refusal, read_call}
use Rattle.t2_records.specs.Segments.{record_at, filled}
use Rattle.t2_read_numbers.specs.Reading.{read_numbers, to_fill}
use Rattle.tonkelvi_read_parts.specs.Numbers.{NumbersCall, numbers_of, numbers_call}
use Rattle.t2_records.proofs.Stored.{stored-none}
use Rattle.tonkelvi_read_parts.proofs.FromWords.{found_stored, all_stored}
use Rattle.t2_read_numbers.proofs.Numbers.{numbers_refused, numbers_read}

-- ---- how many are stored

-- 5, 6 and 3 store nothing
early_stores_none : (ws scratch reports : List ℕ) (room : ℕ) → read_refusal ws scratch reports ≢ 0
    → to_fill (refused_answer (read_refusal ws scratch reports)) room ≡ 0
unfolding read_refusal_with to_fill
early_stores_none ws scratch reports room =
    either None (not (valid_state reader ws (length scratch))) 5 _ (λ n. refl)
    (either None (eqb (layer ws) not_yet_included) 6 _ (λ n. refl)
    (either None (not (eqb (length reports) (report_width * length (blocks (bands ws))))) 3 0 (λ n. refl) (λ n. absurd (n refl))))
  where
    None : ℕ → Type 0
    None n = n ≢ 0 → to_fill (refused_answer n) room ≡ 0

pub wrong_stores_none : (ws scratch : List ℕ) (room : ℕ) → to_fill (refused_answer (work_refusal ws scratch)) room ≡ 0
unfolding work_refusal to_fill
wrong_stores_none ws scratch room =
    either (λ (n : ℕ). to_fill (refused_answer n) room ≡ 0) (not (valid_state reader ws (length scratch))) 5 _ refl
    (either (λ (n : ℕ). to_fill (refused_answer n) room ≡ 0) (eqb (layer ws) not_yet_included) 6 3 refl refl)

module _ (ws scratch : List ℕ) (m : Markers) (src reports : List ℕ) where
  abbrev why : ℕ
  why = read_refusal ws scratch reports

  abbrev first : Decoded
  first = get_bit src (bio_at (read_sop m src).skip)

  abbrev header : ℕ → HeaderRead
  header n = read_header src n ws first.bio

  abbrev unchanged : (form : RecordForm) → form.Lent → ReadResult form
  unchanged form records = read_result form ws scratch reports records (refused_answer why)

  abbrev absent : (form : RecordForm) → form.Lent → ReadResult form
  absent form records = read_absent form ws m src reports records (read_sop m src) first.bio

  abbrev present : ℕ → (form : RecordForm) → form.Lent → ReadResult form
  present n form records = read_present form ws m src records (read_sop m src) (header n)

  abbrev broken : ℕ → (form : RecordForm) → form.Lent → ReadResult form
  broken n form records =
      read_result form ws (wiped scratch) (wiped reports) (form.cleared records) (refused_answer (header n).refusal)

  -- a read with room for n records
  read_at : ℕ → (form : RecordForm) → form.Lent → ReadResult form
  read_at n form records =
      cond (not (eqb why 0)) (unchanged form records)
      (cond (eqb first.value 0) (absent form records)
      (cond (eqb (header n).refusal 0) (present n form records) (broken n form records)))

  read-is_at : (form : RecordForm) (records : form.Lent)
      → read form ws scratch m src reports records ≡ read_at (form.room records) form records
  unfolding read_with read_at
  read-is_at form records = refl

  -- a header that is refused gives 9, 12 or 13, and all records are stored
  header_stores_all : (n room : ℕ) → eqb (header n).refusal 0 ≡ false → to_fill (refused_answer (header n).refusal) room ≡ room
  unfolding to_fill
  header_stores_all n room fails =
      let k : ℕ = (header n).refusal in
      if-false (eqb k 0) _ _ fails
      ∙ if-true (eqb k 9 || eqb k 12 || eqb k 13) _ _
      (other (eqb k 0) (eqb k 9) (eqb k 13) (eqb k 12) fails (header_number src n ws first.bio).one_of)
    where
      other : (z a b c : Bool) → z ≡ false → (z || a || b || c) ≡ true → (a || c || b) ≡ true
      other true a b c e h = absurd (true≢false e)
      other false true b c e h = refl
      other false false true true e h = refl
      other false false true false e h = refl
      other false false false c e h = or_last c h
        where
          or_last : (c : Bool) → c ≡ true → (c || false) ≡ true
          or_last true e = refl
          or_last false e = e

  -- ---- the read

  -- the result with the records that are stored from its work list
  abbrev pub restored : List SegmentRecord → ReadResult as_words → ReadResult as_records
  restored rs z = read_result as_records z.state z.scratch z.reports
      (filled z.records (to_fill z.answer (length rs)) rs) z.answer

  pub none_stored : (xs : List ℕ) (rs : List SegmentRecord) (k : ℕ) → k ≡ 0 → filled xs k rs ≡ rs
  none_stored xs rs k e = ap (λ (j : ℕ). filled xs j rs) e ∙ stored-none (record_at xs) rs

  module _ (xs : List ℕ) (rs : List SegmentRecord) (as_long : length xs ≡ 4 * length rs) where
    abbrev n : ℕ
    n = length rs

    abbrev Same : ((form : RecordForm) → form.Lent → ReadResult form) → Type 0
    Same z = length (z as_words xs).records ≡ length xs → restored rs (z as_words xs) ≡ z as_records rs

    same_unchanged : why ≢ 0 → Same unchanged
    same_unchanged h l =
        ap (λ (z : List SegmentRecord). read_result as_records ws scratch reports z (refused_answer why))
        (none_stored xs rs _ (early_stores_none ws scratch reports n h))

    same_absent : Same absent
    unfolding read_absent to_fill
    same_absent l = ap (absent as_records) (none_stored xs rs 0 refl)

    header_few : why ≡ 0 → body_bytes (header n).records < 2 ^ 64
    header_few e =
        let v = (read-in_range ws scratch reports e).0 in
        omega (arith, header_bytes_lem src n ws first.bio (blocks-of_valid reader ws (length scratch) v))

    same_present : why ≡ 0 → Same (present n)
    unfolding read_present to_fill
    same_present e l =
        let p : ReadResult as_records = present n as_records rs in
        ap (λ (z : List SegmentRecord). read_result as_records p.state p.scratch p.reports z p.answer)
        (found_stored rs xs (header n).records (header_starts src n ws first.bio) (header_few e) l as_long)

    same_broken : eqb (header n).refusal 0 ≡ false → Same (broken n)
    same_broken c l =
        ap (λ (z : List SegmentRecord). read_result as_records ws (wiped scratch) (wiped reports) z (refused_answer (header n).refusal))
        (ap (λ (k : ℕ). filled (wiped xs) k rs) (header_stores_all n n c) ∙ all_stored rs xs as_long)

    same_by : (t u v : Bool) → eqb why 0 ≡ t → eqb first.value 0 ≡ u → eqb (header n).refusal 0 ≡ v
        → Same (λ form l. cond (not t) (unchanged form l) (cond u (absent form l) (cond v (present n form l) (broken n form l))))
    same_by false u v p q r = same_unchanged (eqb-false why 0 p)
    same_by true true v p q r = same_absent
    same_by true false true p q r = same_present (eqb-true why 0 p)
    same_by true false false p q r = same_broken r

    same_at : Same (read_at n)
    unfolding read_at
    same_at = same_by (eqb why 0) (eqb first.value 0) (eqb (header n).refusal 0) refl refl refl

    words_at_room : read as_words ws scratch m src reports xs ≡ read_at n as_words xs
    words_at_room = let e : length xs / 4 ≡ n = omega arith in read-is_at as_words xs ∙ ap (λ (j : ℕ). read_at j as_words xs) e

    pub stored-is_read : length (read as_words ws scratch m src reports xs).records ≡ length xs
        → restored rs (read as_words ws scratch m src reports xs) ≡ read as_records ws scratch m src reports rs
    stored-is_read l =
        ap (restored rs) words_at_room ∙ same_at (ap (λ (z : ReadResult as_words). length z.records) (sym words_at_room) ∙ l)
        ∙ sym (read-is_at as_records rs)

-- ---- the read on the work list, with its answer words

module _ (ws scratch : List ℕ) (m : Markers) (src reports work : List ℕ) (room : ℕ) (answer : List ℕ) where
  pub read-unlisted : (r : ReadAnswer) → r ≡ refused_answer 3 → length answer ≢ 6
      → record { result = read_result as_words ws scratch reports work r; answer = answer }
      ≡ numbers_call ws scratch m src reports work room answer
  unfolding numbers_call
  read-unlisted r e h = rw (ne_eqb (length answer) 6 h, e)

  pub read-listed : (r : ReadAnswer) (vs s p q l : List ℕ) → length answer ≡ 6 → read_result as_words vs s p q r
      ≡ read_numbers ws scratch m src reports work room → l ≡ read_words r
      → record { result = read_result as_words vs s p q r; answer = l } ≡ numbers_call ws scratch m src reports work room answer
  unfolding numbers_call
  read-listed r vs s p q l h e g = rw (eq-eqb (length answer) 6 h, g) (ap numbers_of e)

-- ---- what the three calls of `tonkelvi_read` give together

-- the result of the first with the records that are stored from its work list
abbrev pub filled_of : List SegmentRecord → NumbersCall → ReadExit
filled_of records z = record {
  refusal = z.result.answer.refusal;
  state = z.result.state;
  scratch = z.result.scratch;
  reports = z.result.reports;
  work = z.result.records;
  records = filled z.result.records (to_fill z.result.answer (length records)) records;
  answer = z.answer;
}

module _ (ws scratch : List ℕ) (m : Markers) (src reports work : List ℕ) (records : List SegmentRecord) (answer : List ℕ) where
  by_lists : (t u : Bool) → eqb (length answer) 6 ≡ t → eqb (length work) (4 * length records) ≡ u → (z : NumbersCall) → z
      ≡ numbers_call ws scratch m src reports work (length records) answer → length z.result.records ≡ length work
      → filled_of records z ≡ read_call ws scratch m src reports work records answer
  unfolding numbers_call read_call to_fill
  by_lists true true t u z e l =
      let k = e ∙ if-true (eqb (length answer) 6) _ _ t
      ∙ ap numbers_of (numbers_read ws scratch m src reports work (length records) u) in
      ap (filled_of records) k
      ∙ ap (λ (y : ReadResult as_records). read_exit y (read as_words ws scratch m src reports work).records)
      (stored-is_read ws scratch m src reports work records (eqb-true (length work) (4 * length records) u)
      (ap (λ (y : NumbersCall). length y.result.records) (sym k) ∙ l))
      ∙ sym (if-true (eqb (length work) (4 * length records)) _ _ u)
      ∙ sym (if-true (eqb (length answer) 6) _ _ t)
  by_lists true false t u z e l =
      ap (filled_of records) (e ∙ if-true (eqb (length answer) 6) _ _ t
      ∙ ap numbers_of (numbers_refused ws scratch m src reports work (length records) u))
      ∙ ap (λ (y : List SegmentRecord). read_exit (read_result as_records ws scratch reports y (refused_answer (work_refusal ws scratch))) work)
      (none_stored ws scratch m src reports work records _ (wrong_stores_none ws scratch (length records)))
      ∙ sym (if-false (eqb (length work) (4 * length records)) _ _ u)
      ∙ sym (if-true (eqb (length answer) 6) _ _ t)
  by_lists false u t v z e l =
      ap (filled_of records) (e ∙ if-false (eqb (length answer) 6) _ _ t)
      ∙ ap (λ (y : List SegmentRecord).
      record { refusal = 3; state = ws; scratch = scratch; reports = reports; work = work; records = y; answer = answer })
      (none_stored ws scratch m src reports work records 0 refl)
      ∙ sym (if-false (eqb (length answer) 6) _ _ t)

  pub filled-is_call : (z₀ z₁ z₃ z₄ z₆ : List ℕ) (a : ReadAnswer) (us : List SegmentRecord) (k : ℕ)
      → record { result = read_result as_words z₀ z₁ z₃ z₄ a; answer = z₆ }
      ≡ numbers_call ws scratch m src reports work (length records) answer → length z₄ ≡ length work → k
      ≡ to_fill a (length records) → us ≡ filled z₄ k records
      → record { refusal = a.refusal; state = z₀; scratch = z₁; reports = z₃; work = z₄; records = us; answer = z₆ }
      ≡ read_call ws scratch m src reports work records answer
  filled-is_call z₀ z₁ z₃ z₄ z₆ a us k e l f g =
      ap (λ (y : List SegmentRecord).
      record { refusal = a.refusal; state = z₀; scratch = z₁; reports = z₃; work = z₄; records = y; answer = z₆ })
      (g ∙ ap (λ (j : ℕ). filled z₄ j records) f)
      ∙ by_lists (eqb (length answer) 6) (eqb (length work) (4 * length records)) refl refl
      (record { result = read_result as_words z₀ z₁ z₃ z₄ a; answer = z₆ }) e l
