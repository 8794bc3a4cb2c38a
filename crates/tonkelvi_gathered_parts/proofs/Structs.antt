-- The records that are stored from the work list are those that t800's `read_gathered` leaves in the structs.
use mathlib.Core.Path.{◌≡◌, refl, sym, ap, ◌∙◌}
use mathlib.Core.Logic.{◌≢◌}
use mathlib.Core.Bool.{Bool, true, false, cond, not}
use mathlib.Core.List.{List, [], ◌∷◌}
use Prim.Native.Nat.{ℕ, ◌*◌}
use native.Mathlib.Omega.{arith}
use lib.ListN.{length}
use lib.Dec.{eqb}
use borrow.Author.Tests.{eq-eqb, ne_eqb, eqb-true}
use Rattle.t800.specs.declared.Markers.{Markers}
use Rattle.t800.specs.declared.ReadAnswer.{ReadAnswer}
use Rattle.t800.specs.declared.ReadGatheredAnswer.{ReadGatheredAnswer}
use Rattle.t800.specs.declared.SegmentRecord.{SegmentRecord}
use Rattle.t800.specs.State.{reader, not_yet_included, layer}
use Rattle.t800.specs.Ranges.{valid_state}
use Rattle.t800.specs.MarkerSegments.{read_sop}
use Rattle.t800.specs.Reports.{as_records, as_words}
use Rattle.t800.specs.Packet.{ReadResult, refused_answer, read, read_result}
use Rattle.t800.specs.Gathered.{told_beside, without_sop, read_gathered}
use Rattle.t800.specs.Exports.{ReadExit, gathered_words, work_refusal, read_gathered_call}
use Rattle.t800_laws.proofs.Laws.Tests.{if-true, if-false, either}
use Rattle.t2_records.specs.Segments.{filled}
use Rattle.t2_read_numbers.specs.Reading.{read_numbers, to_fill}
use Rattle.t2_read_numbers.proofs.Numbers.{numbers_refused, numbers_read}
use Rattle.tonkelvi_read_parts.specs.Numbers.{NumbersCall}
use Rattle.tonkelvi_read_parts.proofs.Structs.{filled_of, none_stored, wrong_stores_none, stored-is_read}
use Rattle.tonkelvi_gathered_parts.specs.Gathered.{gathered_of, gathered_numbers}

-- ---- the read on the work list, with its answer words

module _ (ws scratch : List ℕ) (m : Markers) (headers src reports work : List ℕ) (room : ℕ) (answer : List ℕ) where
  pub gathered_unlisted : (r : ReadAnswer) → r ≡ refused_answer 3 → length answer ≢ 7
      → record { result = read_result as_words ws scratch reports work r; answer = answer }
      ≡ gathered_numbers ws scratch m headers src reports work room answer
  unfolding gathered_numbers
  gathered_unlisted r e h = rw (ne_eqb (length answer) 7 h, e)

  pub gathered_listed : (r : ReadAnswer) (a : ReadGatheredAnswer) (vs s p q l : List ℕ) → length answer ≡ 7
      → read_result as_words vs s p q r ≡ read_numbers ws scratch (without_sop m) headers reports work room
      → a ≡ told_beside (record { sop = m.sop; eph = false }) src r → l ≡ gathered_words a
      → record { result = read_result as_words vs s p q r; answer = l } ≡ gathered_numbers ws scratch m headers src reports work room answer
  unfolding gathered_numbers read_sop
  gathered_listed r a vs s p q l h e t g =
      ap (λ (x : List ℕ). record { result = read_result as_words vs s p q r; answer = x }) (g ∙ ap gathered_words t)
      ∙ ap (gathered_of m src) e ∙ sym (if-true (eqb (length answer) 7) _ _ (eq-eqb (length answer) 7 h))

-- ---- what the three calls of `tonkelvi_read_gathered` give together

-- refused, SOP isn't told
told-refused : (m : Markers) (src : List ℕ) (why : ℕ) → why ≢ 0
    → gathered_words (told_beside m src (refused_answer why)) ≡ 0 ∷ 0 ∷ 0 ∷ 0 ∷ 0 ∷ 0 ∷ 0 ∷ []
told-refused m src why h =
    ap (λ (t : Bool). 0 ∷ 0 ∷ cond t (read_sop m src).skip 0 ∷ 0 ∷ cond t (read_sop m src).mark 0 ∷ 0 ∷ 0 ∷ []) (ne_eqb why 0 h)

work_refused : (ws scratch : List ℕ) → work_refusal ws scratch ≢ 0
unfolding work_refusal
work_refused ws scratch =
    either (λ (n : ℕ). n ≢ 0) (not (valid_state reader ws (length scratch))) 5 _ (omega arith)
    (either (λ (n : ℕ). n ≢ 0) (eqb (layer ws) not_yet_included) 6 3 (omega arith) (omega arith))

module _ (ws scratch : List ℕ) (m : Markers) (headers src reports work : List ℕ) (records : List SegmentRecord) (answer : List ℕ) where
  abbrev n : Markers
  n = without_sop m

  -- with SOP told beside a read of the headers
  abbrev exit_beside : (work : List ℕ) → ReadResult as_records → ReadExit
  exit_beside w r = record {
    refusal = r.answer.refusal;
    state = r.state;
    scratch = r.scratch;
    reports = r.reports;
    work = w;
    records = r.records;
    answer = gathered_words (told_beside m src r.answer);
  }

  abbrev exit_untouched : (why : ℕ) (words : List ℕ) (y : List SegmentRecord) → ReadExit
  exit_untouched why words y =
      record { refusal = why; state = ws; scratch = scratch; reports = reports; work = work; records = y; answer = words }

  by_lists : (t u : Bool) → eqb (length answer) 7 ≡ t → eqb (length work) (4 * length records) ≡ u → (z : NumbersCall)
      → z ≡ gathered_numbers ws scratch m headers src reports work (length records) answer → length z.result.records ≡ length work
      → filled_of records z ≡ read_gathered_call ws scratch m headers src reports work records answer
  unfolding gathered_numbers read_gathered_call read_gathered to_fill
  by_lists true true t u z e l =
      let r : ReadResult as_words = read as_words ws scratch n headers reports work in
      let k = e ∙ if-true (eqb (length answer) 7) _ _ t
      ∙ ap (gathered_of m src) (numbers_read ws scratch n headers reports work (length records) u) in
      ap (filled_of records) k
      ∙ ap (exit_beside r.records)
      (stored-is_read ws scratch n headers reports work records (eqb-true (length work) (4 * length records) u)
      (ap (λ (y : NumbersCall). length y.result.records) (sym k) ∙ l))
      ∙ sym (if-true (eqb (length work) (4 * length records)) _ _ u)
      ∙ sym (if-true (eqb (length answer) 7) _ _ t)
  by_lists true false t u z e l =
      let why : ℕ = work_refusal ws scratch in
      ap (filled_of records) (e ∙ if-true (eqb (length answer) 7) _ _ t
      ∙ ap (gathered_of m src) (numbers_refused ws scratch n headers reports work (length records) u))
      ∙ ap (exit_untouched why (gathered_words (told_beside m src (refused_answer why))))
      (none_stored ws scratch n headers reports work records _ (wrong_stores_none ws scratch (length records)))
      ∙ ap (λ (x : List ℕ). exit_untouched why x records) (told-refused m src why (work_refused ws scratch))
      ∙ sym (if-false (eqb (length work) (4 * length records)) _ _ u)
      ∙ sym (if-true (eqb (length answer) 7) _ _ t)
  by_lists false u t v z e l =
      ap (filled_of records) (e ∙ if-false (eqb (length answer) 7) _ _ t)
      ∙ ap (exit_untouched 3 answer) (none_stored ws scratch n headers reports work records 0 refl)
      ∙ sym (if-false (eqb (length answer) 7) _ _ t)

  pub filled-is_gathered : (z₀ z₁ z₃ z₄ z₆ : List ℕ) (a : ReadAnswer) (us : List SegmentRecord) (k : ℕ)
      → record { result = read_result as_words z₀ z₁ z₃ z₄ a; answer = z₆ }
      ≡ gathered_numbers ws scratch m headers src reports work (length records) answer → length z₄ ≡ length work
      → k ≡ to_fill a (length records) → us ≡ filled z₄ k records
      → record { refusal = a.refusal; state = z₀; scratch = z₁; reports = z₃; work = z₄; records = us; answer = z₆ }
      ≡ read_gathered_call ws scratch m headers src reports work records answer
  filled-is_gathered z₀ z₁ z₃ z₄ z₆ a us k e l f g =
      ap (λ (y : List SegmentRecord).
      record { refusal = a.refusal; state = z₀; scratch = z₁; reports = z₃; work = z₄; records = y; answer = z₆ })
      (g ∙ ap (λ (j : ℕ). filled z₄ j records) f)
      ∙ by_lists (eqb (length answer) 7) (eqb (length work) (4 * length records)) refl refl
      (record { result = read_result as_words z₀ z₁ z₃ z₄ a; answer = z₆ }) e l
