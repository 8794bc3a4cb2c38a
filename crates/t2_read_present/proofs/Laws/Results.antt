-- A header that is refused, and one that is read; and where its bits end.
use mathlib.Core.Path.{◌≡◌, sym, ap, ◌∙◌, subst}
use mathlib.Core.Logic.{◌≢◌}
use mathlib.Core.Bool.{true}
use mathlib.Core.List.{List, ◌++◌, append-nil}
use Prim.Native.Nat.{ℕ, ◌+◌, ◌*◌, ◌/◌, ◌≤◌, ◌<◌}
use native.Mathlib.Nat.{le_of_lt}
use native.Mathlib.Omega.{arith}
use lib.ListN.{length, set, replicate, drop_of_length-le}
use Rattle.t800.specs.declared.Bio.{Bio}
use Rattle.t800.specs.declared.Markers.{Markers}
use Rattle.t800.specs.declared.ReadAnswer.{ReadAnswer}
use Rattle.t800.specs.Base.{overwrite, wiped}
use Rattle.t800.specs.Reports.{BlockReport, report_words, report_width, record_width, as_words}
use Rattle.t800.specs.Bits.{bio_at}
use Rattle.t800.specs.State.{reader, layer, bands, blocks, not_yet_included}
use Rattle.t800.specs.Ranges.{valid_state}
use Rattle.t800.specs.MarkerSegments.{MarkerRead}
use Rattle.t800.specs.ReadHeader.{HeaderRead, read_header}
use Rattle.t800.specs.Packet.{refused_answer, read_present, read_result}
use Rattle.t800_laws.proofs.Laws.Tests.{if-eq, if-ne}
use Rattle.bits_taken.specs.Taken.{Takes, Reached}
use Rattle.bits_taken.proofs.Laws.Reached.{first_reached, header_reached}
use Rattle.bits_taken.proofs.Laws.Counting.{header_in_reach, reached_few}
use Rattle.tcd_laws.proofs.Laws.ValidStates.{valid_state_lem, bands-inside, blocks-of_valid}
use Rattle.lists.proofs.Laws.Filled.{length-reports}
use Rattle.t2_read_segments.specs.Reading.{Reading, held_by, BitsIn}
use Rattle.t2_read_header.specs.Header.{ReadsHeader}
use Rattle.t2_read_marks.specs.Marks.{done_answer}
use Rattle.t2_read_present.specs.Answers.{present_or_broken}

over_all : (lent : List ℕ) (rs : List BlockReport) → length lent ≡ 4 * length rs → overwrite lent (report_words rs) ≡ report_words rs
unfolding overwrite
over_all lent rs e =
    ap (λ (l : List ℕ). report_words rs ++ l)
    (drop_of_length-le lent {i = length (report_words rs)} (omega (arith, length-reports rs))) ∙ append-nil (report_words rs)

-- ---- where the first bit stands

module _ (src : List ℕ) (start : ℕ) (b : Bio) (inside : start ≤ length src) (first : Takes src 1 (bio_at start) b) where
  pub first_in_lem : BitsIn src b
  first_in_lem =
      let r = first_reached src start b inside first in
      record { few = reached_few src start b r; place = le_of_lt (header_in_reach src start b r) }

-- ---- the header

module _ (ws scratch : List ℕ) (m : Markers) (src reports records : List ℕ) (s : MarkerRead) (b : Bio) (vs : List ℕ)
    (copied : vs ≡ ws) (a : Reading) (reads : ReadsHeader src reports records vs b a) where
  abbrev room : ℕ
  room = length records / record_width

  abbrev header : HeaderRead
  header = read_header src room ws b

  reads_state : ReadsHeader src reports records ws b a
  reads_state = subst (λ (us : List ℕ). ReadsHeader src reports records us b a) copied reads

  pub broken_is : (xs ys zs : List ℕ) (answer : ReadAnswer) → a.refusal ≢ 0 → length a.words ≡ length scratch
      → length a.reports ≡ length reports → length a.records ≡ length records
      → xs ≡ wiped a.words → ys ≡ wiped a.reports → zs ≡ wiped a.records → answer ≡ refused_answer a.refusal
      → read_result as_words ws xs ys zs answer ≡ present_or_broken ws scratch m src reports records s header
  unfolding present_or_broken
  broken_is xs ys zs answer z kx ky kz ex ey ez ea =
      let f : a.refusal ≡ header.refusal = reads_state.follows.refuses in
      (λ j. read_result as_words ws ((ex ∙ ap (λ (n : ℕ). replicate n 0) kx) j) ((ey ∙ ap (λ (n : ℕ). replicate n 0) ky) j)
      ((ez ∙ ap (λ (n : ℕ). replicate n 0) kz) j) ((ea ∙ ap refused_answer f) j))
      ∙ sym (if-ne header.refusal 0 _ _ (λ y. z (f ∙ y)))

  pub present_is : (xs ys : List ℕ) (answer : ReadAnswer) → a.refusal ≡ 0 → length reports
      ≡ report_width * length (blocks (bands ws)) → xs ≡ set a.words 3 (layer ws + 1) → ys ≡ set a.words 3 (layer ws + 1)
      → answer ≡ done_answer m src s a.bio 1 a.count → read_result as_words xs ys a.reports a.records answer
      ≡ present_or_broken ws scratch m src reports records s header
  unfolding present_or_broken read_present done_answer
  present_is xs ys answer z lent ex ey ea =
      let ok : header.refusal ≡ 0 = sym reads_state.follows.refuses ∙ z in
      let h : a ≡ held_by reports records header = reads_state.follows.holds ok in
      let o : overwrite reports (report_words header.reports)
      ≡ report_words header.reports =
      over_all reports header.reports (lent ∙ ap (λ (n : ℕ). 4 * n) (sym (reads_state.reported ok))) in
      (λ j. read_result as_words (ex j) (ey j) a.reports a.records (ea j))
      ∙ ap (λ (x : Reading). read_result as_words (set x.words 3 (layer ws + 1)) (set x.words 3 (layer ws + 1)) x.reports
      x.records (done_answer m src s x.bio 1 x.count)) h
      ∙ ap (λ (rows : List ℕ). read_result as_words (set header.words 3 (layer ws + 1)) (set header.words 3 (layer ws + 1)) rows
      (held_by reports records header).records (done_answer m src s header.bio 1 (length header.records))) o
      ∙ sym (if-eq header.refusal 0 _ _ ok)

  -- its bits end in reach of the input
  pub bits_reached : (start n : ℕ) → start ≤ length src → Takes src 1 (bio_at start) b → valid_state reader ws n ≡ true
      → layer ws < not_yet_included → a.refusal ≡ 0 → Reached src start a.bio
  bits_reached start n inside first valid below z =
      let ok : header.refusal ≡ 0 = sym reads_state.follows.refuses ∙ z in
      let e : a.bio ≡ header.bio = ap (λ (x : Reading). x.bio) (reads_state.follows.holds ok) in
      let long = bands-inside ws n (valid_state_lem reader ws n valid) in
      subst (Reached src start) (sym e)
      (header_reached src start b inside first room ws (blocks-of_valid reader ws n valid) long below ok)
