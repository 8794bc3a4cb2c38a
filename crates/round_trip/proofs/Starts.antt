-- Where segments start: behind the bytes of those before them, in every accepted read, with fewer than 2^53 bytes in all, and in the book.
use mathlib.Core.Path.{◌≡◌, sym, subst}
use mathlib.Core.Bool.{not}
use mathlib.Core.List.{List, []}
use Prim.Native.Nat.{ℕ}
use native.Mathlib.Omega.{arith}
use lib.ListN.{length, take, drop}
use lib.Seq.{take-append_seam}
use lib.Dec.{eqb}
use borrow.Author.Tests.{not-true, not-false, eqb-true, eqb-false}
use Rattle.t800.specs.declared.SegmentRecord.{SegmentRecord}
use Rattle.t800.specs.Base.{overwrite}
use Rattle.t800.specs.Reports.{body_bytes, as_records}
use Rattle.t800.specs.State.{reader}
use Rattle.t800.specs.ReadHeader.{HeaderRead}
use Rattle.t800.specs.Packet.{read_refusal, first_bit, header_of, ReadResult, read_absent, read_present, read_with}
use Rattle.t800.specs.Starts.{StartsFit, records_told, StartsOfReads, StartsOfBook}
use Rattle.t800_laws.proofs.Laws.Tests.{either, either-by}
use Rattle.t800_laws.proofs.Laws.StateAfter.{read-in_range}
use Rattle.t800_laws.proofs.Laws.Starts.{StartsFrom, starts_are_sums, header_starts, header_bytes_lem}
use Rattle.t800_laws.proofs.Laws.Book.{entry-starts}
use Rattle.tcd_laws.proofs.Laws.ValidStates.{blocks-of_valid}

-- ---- reads

none : StartsFit []
unfolding StartsFrom body_bytes
none = (starts_are_sums [] tt, omega arith)

-- the records at the front of a lent list
front-told : (lent rs : List SegmentRecord) → take (length rs) (overwrite lent rs) ≡ rs
unfolding overwrite
front-told lent rs = take-append_seam rs (drop (length rs) lent)

pub starts_of_reads : StartsOfReads
unfolding StartsOfReads read_with read_absent read_present
starts_of_reads ws scratch m src reports records =
    let P : ReadResult as_records → Type 0 = λ r. r.answer.refusal ≡ 0 → StartsFit (records_told r) in
    let why : ℕ = read_refusal ws scratch reports in
    let h : HeaderRead = header_of ws m src (length records) in
    either-by P (not (eqb why 0)) _ _ (λ t e. absurd (eqb-false why 0 (not-true (eqb why 0) t) e))
    (λ f. let valid = (read-in_range ws scratch reports (eqb-true why 0 (not-false (eqb why 0) f))).0 in
    either P (eqb (first_bit m src).value 0) _ _ (λ e. none)
    (either-by P (eqb h.refusal 0) _ _
    (λ t e. subst StartsFit (sym (front-told records h.records)) (
      starts_are_sums h.records (header_starts src (length records) ws (first_bit m src).bio),
      header_bytes_lem src (length records) ws (first_bit m src).bio (blocks-of_valid reader ws (length scratch) valid),
    ))
    (λ n e. absurd (eqb-false h.refusal 0 n e))))

-- ---- the book

pub starts_of_book : StartsOfBook
unfolding StartsOfBook
starts_of_book s es cs ls = starts_are_sums _ (entry-starts s es cs ls)
