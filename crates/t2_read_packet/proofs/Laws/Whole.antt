-- The parts of a read make t800's.
use mathlib.Core.Path.{◌≡◌, sym, ap, ◌∙◌}
use mathlib.Core.Logic.{◌≢◌}
use mathlib.Core.List.{List}
use Prim.Native.Nat.{ℕ, ◌/◌}
use lib.ListN.{length}
use borrow.Author.Tests.{eq-eqb, ne_eqb}
use Rattle.t800.specs.declared.Markers.{Markers}
use Rattle.t800.specs.declared.ReadAnswer.{ReadAnswer}
use Rattle.t800.specs.Bits.{Decoded, bio_at, get_bit}
use Rattle.t800.specs.MarkerSegments.{MarkerRead, read_marker, read_sop}
use Rattle.t800.specs.ReadHeader.{read_header}
use Rattle.t800.specs.Packet.{ReadResult, refused_answer, read_refusal, read_absent, read, read_with, read_result}
use Rattle.t2_read_present.specs.Answers.{present_or_broken}
use Rattle.t800.specs.Reports.{record_width, as_words}

module _ (ws scratch : List ℕ) (m : Markers) (src reports records : List ℕ) where
  pub unchanged_is : (why : ℕ) (answer : ReadAnswer) → why ≡ read_refusal ws scratch reports → why ≢ 0 → answer ≡ refused_answer why
      → read_result as_words ws scratch reports records answer ≡ read as_words ws scratch m src reports records
  unfolding read_with
  unchanged_is why answer e n a =
      ap (read_result as_words ws scratch reports records) (a ∙ ap refused_answer e)
      ∙ rw (ne_eqb (read_refusal ws scratch reports) 0 (λ z. n (e ∙ z)))

  module _ (none : read_refusal ws scratch reports ≡ 0) (s : MarkerRead) (is : s ≡ read_marker m.sop 6 0x91 src 0)
      (first : Decoded) (bit : first ≡ get_bit src (bio_at s.skip)) where
    sop_is : s ≡ read_sop m src
    unfolding read_sop
    sop_is = is

    first-is : first ≡ get_bit src (bio_at (read_sop m src).skip)
    first-is = bit ∙ ap (λ (f : MarkerRead). get_bit src (bio_at f.skip)) sop_is

    pub read-absent_is : (o : ReadResult as_words) → first.value ≡ 0 → o ≡ read_absent as_words ws m src reports records s first.bio → o
        ≡ read as_words ws scratch m src reports records
    unfolding read_with
    read-absent_is o z e =
        e ∙ (λ j. read_absent as_words ws m src reports records (sop_is j) (first-is j).bio)
        ∙ rw (
          eq-eqb (read_refusal ws scratch reports) 0 none,
          eq-eqb (get_bit src (bio_at (read_sop m src).skip)).value 0 (sym (ap (λ (d : Decoded). d.value) first-is) ∙ z),
        )

    pub read-present_is : (o : ReadResult as_words) → first.value ≢ 0 → o
        ≡ present_or_broken ws scratch m src reports records s (read_header src (length records / record_width) ws first.bio) → o
        ≡ read as_words ws scratch m src reports records
    unfolding read_with present_or_broken
    read-present_is o z e =
        e ∙ (λ j. present_or_broken ws scratch m src reports records (sop_is j)
        (read_header src (length records / record_width) ws (first-is j).bio))
        ∙ rw (
          eq-eqb (read_refusal ws scratch reports) 0 none,
          ne_eqb (get_bit src (bio_at (read_sop m src).skip)).value 0 (λ y. z (ap (λ (d : Decoded). d.value) first-is ∙ y)),
        )
