-- The bits of a header in gathered headers, all of them there, and the same bits in a row that has the header behind s bytes.
use mathlib.Core.Path.{◌≡◌, refl, sym, ap, ◌∙◌, subst}
use mathlib.Core.Bool.{Bool, true, false, cond, ◌&&◌}
use mathlib.Core.List.{List}
use Prim.Native.Nat.{ℕ, ◌+◌, ◌^◌, ◌≤◌, ◌<◌, min}
use native.Mathlib.Omega.{arith}
use lib.ListN.{length, get_or, take, drop, length-take, length-drop}
use lib.Seq.{get_or-take, get_or-drop}
use lib.Dec.{eqb}
use borrow.Author.Tests.{ne_eqb}
use Rattle.t800.specs.declared.Bio.{Bio}
use Rattle.t800.specs.declared.Markers.{Markers}
use Rattle.t800.specs.Bits.{bio_at, in_ff, ends_in_ff, bytes_taken, bits_past}
use Rattle.t800.specs.MarkerSegments.{read_marker, read_eph}
use Rattle.bits_taken.specs.Taken.{Reached}
use Rattle.bits_taken.proofs.Laws.Inside.{none_past}
use Rattle.past_end.proofs.SameBits.{Way, Agree, bits_to}
use Rattle.past_end.proofs.Flags.{reached_there}
use Rattle.gathered_headers.proofs.Ends.{Ending, ending, marker_there}

-- each place s further on
abbrev pub further_on : (s last : ℕ) → Way
further_on s last = record { to = λ p. s + p; first = 0; last = last }

-- the bits end at e inside the headers, and with EPH t bytes are taken
module _ (headers row : List ℕ) (s t : ℕ) (e : Bio) (reached : Reached headers 0 e) (end : ends_in_ff headers e ≡ false)
    (inside : e.bp ≤ length headers) (with_eph_lem : bytes_taken headers e ≤ t) (in_headers : t ≤ length headers) (in_row : s ≤ length row)
    (front : take t (drop s row) ≡ take t headers)
  where
    abbrev there : Bio
    there = bits_to (further_on s e.bp) e

    ends : Ending headers 0 e
    ends = ending headers 0 e reached end

    row_long : s + t ≤ length row
    row_long = omega (arith, sym (length-take t (drop s row)) ∙ ap length front ∙ length-take t headers, length-drop s row)

    byte_there : (p : ℕ) → p < t → get_or row (s + p) 0 ≡ get_or headers p 0
    byte_there p l =
        sym (get_or-drop s row p 0) ∙ sym (get_or-take t (drop s row) p 0 l) ∙ ap (λ (bs : List ℕ). get_or bs p 0) front
        ∙ get_or-take t headers p 0 l

    pub agree : Agree headers row (further_on s e.bp)
    agree = record {
      same = λ p f l. byte_there p (omega (arith, (ends.inside inside).0));
      next = λ p f l. omega arith;
      in_reach = ends.in_reach;
      to_in_reach = λ p f l. omega (arith, (ends.inside inside).0, row_long);
    }

    reached_row : Reached row s there
    reached_row =
        subst (λ (k : ℕ). Reached row k there) (omega arith)
        (reached_there headers row (further_on s e.bp) agree 0 e reached (omega arith) (omega arith) (omega arith))

    -- ---- what is told of the end

    end_by : (f : Bool) → in_ff e ≡ f → (f && eqb (s + e.bp) (length row)) ≡ false
    end_by true g = let k = ends.in_ff_lem g in ne_eqb (s + e.bp) (length row) (λ q. omega (arith, k.0, row_long))
    end_by false g = refl

    pub end_there : ends_in_ff row there ≡ false
    unfolding ends_in_ff in_ff
    end_there = end_by (in_ff e) refl

    taken_by : (f : Bool) → in_ff e ≡ f
        → cond f (s + e.bp + 1) (min (s + e.bp) (length row)) ≡ s + cond f (e.bp + 1) (min e.bp (length headers))
    taken_by true g = omega arith
    taken_by false g = omega (arith, (ends.inside inside).0, row_long)

    pub taken_there : bytes_taken row there ≡ s + bytes_taken headers e
    unfolding bytes_taken in_ff
    taken_there = taken_by (in_ff e) refl

    pub none_past_there : bits_past row (bio_at s) there ≡ 0
    none_past_there =
        none_past row (2 ^ 39) (bio_at s) there reached_row.takes (omega (arith, (ends.inside inside).0, row_long))

    -- EPH that was found behind the bits, or isn't used
    pub eph_there : (m m' : Markers) → m'.eph ≡ m.eph → (read_eph m headers (bytes_taken headers e)).mark ≡ 0
        → bytes_taken headers e + (read_eph m headers (bytes_taken headers e)).skip ≡ t
        → read_eph m' row (bytes_taken row there) ≡ read_eph m headers (bytes_taken headers e)
    unfolding read_eph
    eph_there m m' same z n =
        let p : ℕ = bytes_taken headers e in
        let next : s + p + 1 ≡ s + (p + 1) = omega arith in
        ap (λ (q : ℕ). read_marker m'.eph 2 0x92 row q) taken_there ∙ ap (λ (u : Bool). read_marker u 2 0x92 row (s + p)) same
        ∙ marker_there m.eph 2 0x92 headers row p (s + p) z (λ k. (
          omega (arith, row_long),
          byte_there p (omega arith),
          ap (λ (j : ℕ). get_or row j 0) next ∙ byte_there (p + 1) (omega arith),
        ))
