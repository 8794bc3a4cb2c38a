-- Rows put in order over a lent list are the words of the reports or records that were put.
use mathlib.Core.Path.{◌≡◌, refl, sym, ap, ◌∙◌}
use mathlib.Core.List.{List, [], ◌∷◌, ◌++◌}
use Prim.Native.Nat.{ℕ, suc, ◌+◌, ◌*◌, ◌/◌, ◌<◌}
use native.Mathlib.Omega.{arith}
use lib.ListN.{length, drop, length-append, length-drop}
use lib.Seq.{sets-eq, take_at, drop-drop, drop-append-add}
use borrow.Author.Tests.{lt-ltb}
use Rattle.t800.specs.Base.{overwrite}
use Rattle.t800.specs.declared.SegmentRecord.{SegmentRecord}
use Rattle.t800.specs.Reports.{BlockReport, report_width, record_width, report_words, record_words}
use Rattle.t800_laws.proofs.Laws.Lists.{record-words_length}
use Rattle.lists.specs.Rows.{put_row, put_report, put_record}

-- row n over a list whose first n rows are xs
row_over_lem : (lent xs : List ℕ) (n a b c d : ℕ) → length xs ≡ 4 * n → n < length lent / 4 → put_row (overwrite lent xs) n a b c d
    ≡ overwrite lent (xs ++ (a ∷ b ∷ c ∷ d ∷ []))
unfolding put_row overwrite
row_over_lem lent xs n a b c d l h =
    let row : List ℕ = a ∷ b ∷ c ∷ d ∷ [] in
    let ys : List ℕ = drop (length xs) lent in
    let whole : length (xs ++ ys) ≡ length lent = simp (length-append, length-drop) (omega arith) in
    let e₁ : 4 * n + 1 ≡ suc (4 * n) = omega arith in
    let e₂ : 4 * n + 2 ≡ suc (suc (4 * n)) = omega arith in
    let e₃ : 4 * n + 3 ≡ suc (suc (suc (4 * n))) = omega arith in
    let e₄ : 4 * n + 4 ≡ length xs + 4 = omega arith in
    rw (lt-ltb n (length (xs ++ ys) / 4) (omega arith), e₁, e₂, e₃)
    (sets-eq row (xs ++ ys) (4 * n) (omega arith)
    ∙ ap (λ (zs : List ℕ). zs ++ row ++ drop (4 * n + 4) (xs ++ ys)) (take_at xs ys (4 * n) l)
    ∙ ap (λ (zs : List ℕ). xs ++ row ++ zs) (ap (λ (k : ℕ). drop k (xs ++ ys)) e₄ ∙ drop-append-add xs ys 4 ∙ drop-drop 4 (length xs) lent)
    ∙ ap (λ (k : ℕ). xs ++ row ++ drop k lent) (sym (length-append xs row)))

-- ---- records

records_and_one : (rs : List SegmentRecord) (r : SegmentRecord) → record_words (rs ++ (r ∷ []))
    ≡ record_words rs ++ (r.block ∷ r.opens ∷ r.passes ∷ r.bytes ∷ [])
unfolding record_words
records_and_one [] r = refl
records_and_one (s ∷ rs) r = rw (records_and_one rs r)

-- the first rows are the records so far, and one more is lent
pub record-put : (lent : List ℕ) (rs : List SegmentRecord) (r : SegmentRecord) → length rs < length lent / record_width
    → put_record (overwrite lent (record_words rs)) (length rs) r.block r.opens r.passes r.bytes
    ≡ overwrite lent (record_words (rs ++ (r ∷ [])))
record-put lent rs r h =
    row_over_lem lent (record_words rs) (length rs) r.block r.opens r.passes r.bytes (record-words_length rs) h
    ∙ sym (ap (overwrite lent) (records_and_one rs r))

-- ---- reports

pub length-reports : (rs : List BlockReport) → length (report_words rs) ≡ report_width * length rs
unfolding report_words
length-reports [] = refl
length-reports (r ∷ rs) = let i = length-reports rs in omega arith

reports_and_one : (rs : List BlockReport) (r : BlockReport) → report_words (rs ++ (r ∷ []))
    ≡ report_words rs ++ (r.inclusion ∷ r.zero_planes ∷ r.planes ∷ r.passes ∷ [])
unfolding report_words
reports_and_one [] r = refl
reports_and_one (s ∷ rs) r = rw (reports_and_one rs r)

pub report_put : (lent : List ℕ) (rs : List BlockReport) (r : BlockReport) → length rs < length lent / report_width
    → put_report (overwrite lent (report_words rs)) (length rs) r.inclusion r.zero_planes r.planes r.passes
    ≡ overwrite lent (report_words (rs ++ (r ∷ [])))
report_put lent rs r h =
    row_over_lem lent (report_words rs) (length rs) r.inclusion r.zero_planes r.planes r.passes (length-reports rs) h
    ∙ sym (ap (overwrite lent) (reports_and_one rs r))
