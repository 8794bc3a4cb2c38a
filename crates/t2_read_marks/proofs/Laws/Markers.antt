-- A marker by the tests of the code, where the bytes taken end, and the answer.
use mathlib.Core.Path.{◌≡◌, sym, ap, ◌∙◌, subst}
use mathlib.Core.Logic.{◌≢◌}
use mathlib.Core.Bool.{Bool, true, false, cond, not, ◌&&◌}
use mathlib.Core.List.{List}
use Prim.Native.Nat.{ℕ, ◌+◌, ◌-◌, ◌≤◌, ◌<◌, max}
use native.Mathlib.Omega.{arith}
use lib.Dec.{eqb}
use lib.ListN.{length, get_or}
use borrow.Author.Tests.{eq-eqb, ne_eqb, lt-ltb, le-ltb}
use Rattle.t800.specs.declared.Bio.{Bio}
use Rattle.t800.specs.declared.Markers.{Markers}
use Rattle.t800.specs.declared.ReadAnswer.{ReadAnswer}
use Rattle.t800.specs.Bits.{bio_at, in_ff, bytes_taken, bits_past}
use Rattle.t800.specs.MarkerSegments.{MarkerRead, read_marker, read_eph}
use Rattle.t800_laws.proofs.Laws.Tests.{either, on-lt, if-lt, if-ge}
use Rattle.t2_read_marks.specs.Marks.{done_answer}

abbrev found : ℕ → ℕ → MarkerRead
found skip mark = record { skip = skip; mark = mark }

module _ (used : Bool) (n second : ℕ) (src : List ℕ) (p : ℕ) where
  pub not_used : used ≡ false → found 0 0 ≡ read_marker used n second src p
  unfolding read_marker
  not_used e = rw e

  pub too_few : used ≡ true → length src - p < n → found 0 1 ≡ read_marker used n second src p
  unfolding read_marker
  too_few e l = rw (e, lt-ltb (length src - p) n l)

  module _ (e : used ≡ true) (l : n ≤ length src - p) where
    pub first_differs : get_or src p 0 ≢ 0xff → found 0 2 ≡ read_marker used n second src p
    unfolding read_marker
    first_differs d = rw (e, le-ltb (length src - p) n l, ne_eqb (get_or src p 0) 0xff d)

    module _ (f : get_or src p 0 ≡ 0xff) where
      pub second_differs : get_or src (p + 1) 0 ≢ second → found 0 2 ≡ read_marker used n second src p
      unfolding read_marker
      second_differs d = rw (e, le-ltb (length src - p) n l, eq-eqb (get_or src p 0) 0xff f, ne_eqb (get_or src (p + 1) 0) second d)

      pub both_there : get_or src (p + 1) 0 ≡ second → found n 0 ≡ read_marker used n second src p
      unfolding read_marker
      both_there d = rw (e, le-ltb (length src - p) n l, eq-eqb (get_or src p 0) 0xff f, eq-eqb (get_or src (p + 1) 0) second d)

  -- what is skipped lies in the input
  pub skip_inside : p + (read_marker used n second src p).skip ≤ max p (length src)
  unfolding read_marker
  skip_inside =
      either P (not used) _ _ (omega arith)
      (on-lt (length src - p) n
      (λ l. subst P (sym (if-lt (length src - p) n (found 0 1) rest l)) (omega arith))
      (λ l. subst P (sym (if-ge (length src - p) n (found 0 1) rest l))
      (either P (eqb (get_or src p 0) 0xff && eqb (get_or src (p + 1) 0) second) (found n 0) (found 0 2) (omega arith) (omega arith))))
    where
      P : MarkerRead → Type 0
      P r = p + r.skip ≤ max p (length src)

      rest : MarkerRead
      rest = cond (eqb (get_or src p 0) 0xff && eqb (get_or src (p + 1) 0) second) (found n 0) (found 0 2)

-- at most the byte after the last that was read
pub taken_up_to : (src : List ℕ) (b : Bio) → bytes_taken src b ≤ b.bp + 1
unfolding bytes_taken
taken_up_to src b = either (λ (n : ℕ). n ≤ b.bp + 1) (in_ff b) _ _ (omega arith) (omega arith)

-- the answer where nothing is refused
pub done_is : (m : Markers) (src : List ℕ) (s : MarkerRead) (b : Bio) (present segments at : ℕ) (e : MarkerRead) (past sop eph : ℕ) → at
    ≡ bytes_taken src b → e ≡ read_marker m.eph 2 0x92 src at → past ≡ bits_past src (bio_at s.skip) b
    → sop ≡ s.mark → eph ≡ e.mark → ◌≡◌ {A = ReadAnswer}
    (record {
      refusal = 0;
      present = present;
      taken = at + e.skip;
      segments = segments;
      sop = sop;
      eph = eph;
      past = past;
    })
    (done_answer m src s b present segments)
unfolding done_answer read_eph
done_is m src s b present segments at e past sop eph p q r x y =
    let f : e ≡ read_marker m.eph 2 0x92 src (bytes_taken src b) = q ∙ ap (read_marker m.eph 2 0x92 src) p in
    λ j. record {
      refusal = 0;
      present = present;
      taken = p j + (f j).skip;
      segments = segments;
      sop = x j;
      eph = (y ∙ ap (λ (k : MarkerRead). k.mark) f) j;
      past = r j;
    }
