-- The bits of a header in a row, and the same bits in gathered headers that begin with it.
use mathlib.Core.Path.{◌≡◌, refl, sym, ap, ◌∙◌, subst}
use mathlib.Core.Logic.{◌≢◌}
use mathlib.Core.Bool.{Bool, true, false, cond, ◌&&◌}
use mathlib.Core.List.{List}
use Prim.Native.Nat.{ℕ, ◌+◌, ◌-◌, ◌^◌, ◌≤◌, ◌<◌, min}
use native.Mathlib.Omega.{arith}
use lib.ListN.{length, get_or, take, drop, length-take, length-drop, get_or-eq_default}
use lib.Seq.{get_or-take, get_or-drop}
use lib.Dec.{eqb}
use borrow.Author.Tests.{ne_eqb, le-ltb, lt-ltb}
use Rattle.t800.specs.declared.Bio.{Bio}
use Rattle.t800.specs.declared.Markers.{Markers}
use Rattle.t800.specs.Bits.{bio_at, in_ff, ends_in_ff, bytes_taken, bits_past}
use Rattle.t800.specs.MarkerSegments.{read_marker, read_eph}
use Rattle.t800_laws.proofs.Laws.Tests.{on-lt}
use Rattle.bits_taken.specs.Taken.{Reached, stuffed_past}
use Rattle.bits_taken.proofs.Laws.Inside.{none_past}
use Rattle.bits_taken.proofs.Laws.Counting.{some_past}
use Rattle.past_end.proofs.SameBits.{Way, Agree, bits_to}
use Rattle.past_end.proofs.Flags.{reached_there}
use Rattle.gathered_headers.proofs.Ends.{Ending, ending, taken_between, marker_there}

-- the places from s on, counted from there
abbrev pub from_on : (s last : ℕ) → Way
from_on s last = record { to = λ p. p - s; first = s; last = last }

-- the bits from s end at e, and with EPH t bytes are taken
module _ (row headers : List ℕ) (s t : ℕ) (e : Bio) (reached : Reached row s e) (end : ends_in_ff row e ≡ false)
    (with_eph_lem : bytes_taken row e ≤ t) (inside : t ≤ length row) (front : take (t - s) headers ≡ take (t - s) (drop s row))
    (whole : bits_past row (bio_at s) e ≢ 0 → length headers ≡ t - s)
  where
    abbrev there : Bio
    there = bits_to (from_on s e.bp) e

    ends : Ending row s e
    ends = ending row s e reached end

    pub headers-long : t - s ≤ length headers
    headers-long = omega (arith, sym (length-take (t - s) headers) ∙ ap length front ∙ length-take (t - s) (drop s row), length-drop s row)

    pub byte_there : (p : ℕ) → s ≤ p → p < t → get_or headers (p - s) 0 ≡ get_or row p 0
    byte_there p h l =
        let n : p - s < t - s = omega arith in
        let q : s + (p - s) ≡ p = omega arith in
        sym (get_or-take (t - s) headers (p - s) 0 n) ∙ ap (λ (bs : List ℕ). get_or bs (p - s) 0) front
        ∙ get_or-take (t - s) (drop s row) (p - s) 0 n ∙ get_or-drop s row (p - s) 0 ∙ ap (λ (k : ℕ). get_or row k 0) q

    -- where bits lie past the row's end, the headers are all the rest of it
    all_taken : length row < e.bp → (t ≡ length row) × (length headers ≡ length row - s)
    all_taken h =
        let b = ends.behind h in
        let n : t ≡ length row = omega (arith, b.0) in
        (n, whole b.2 ∙ ap (λ (k : ℕ). k - s) n)

    pub agree : Agree row headers (from_on s e.bp)
    agree = record {
      same = λ p f l. on-lt p t (byte_there p f)
          (λ g. on-lt (length row) e.bp
          (λ b. let k = all_taken b in
          get_or-eq_default headers 0 (omega (arith, k.1, k.0)) ∙ sym (get_or-eq_default row 0 (omega (arith, k.0))))
          (λ i. absurd (omega (arith, (ends.inside i).0))));
      next = λ p f l. omega arith;
      in_reach = ends.in_reach;
      to_in_reach = λ p f l. on-lt (length row) e.bp
          (λ b. omega (arith, (all_taken b).1, ends.in_reach, ends.start-inside))
          (λ i. omega (arith, (ends.inside i).0, headers-long));
    }

    pub reached_headers : Reached headers 0 there
    reached_headers =
        subst (λ (k : ℕ). Reached headers k there) (omega arith)
        (reached_there row headers (from_on s e.bp) agree s e reached (omega arith) (omega arith) (omega arith))

    -- ---- what is told of the end

    end_by : (f : Bool) → in_ff e ≡ f → (f && eqb (e.bp - s) (length headers)) ≡ false
    end_by true g =
        let k = ends.in_ff_lem g in
        ne_eqb (e.bp - s) (length headers) (λ q. omega (arith, k.0, headers-long, ends.from))
    end_by false g = refl

    pub end_there : ends_in_ff headers there ≡ false
    unfolding ends_in_ff in_ff
    end_there = end_by (in_ff e) refl

    taken_by : (f : Bool) → in_ff e ≡ f
        → cond f (e.bp - s + 1) (min (e.bp - s) (length headers)) ≡ cond f (e.bp + 1) (min e.bp (length row)) - s
    taken_by true g = omega (arith, ends.from)
    taken_by false g =
        on-lt (length row) e.bp (λ b. omega (arith, (all_taken b).1))
        (λ i. omega (arith, (ends.inside i).0, headers-long))

    pub taken_there : bytes_taken headers there ≡ bytes_taken row e - s
    unfolding bytes_taken in_ff
    taken_there = taken_by (in_ff e) refl

    stuffed_there : length row < e.bp → stuffed_past headers 0 ≡ stuffed_past row s
    unfolding stuffed_past
    stuffed_there b =
        let k = all_taken b in
        on-lt s (length row)
        (λ l. let q : get_or headers (length headers - 1) 0 ≡ get_or row (length row - 1) 0 =
        ap (λ (j : ℕ). get_or headers j 0) (omega (arith, k.1)) ∙ byte_there (length row - 1) (omega arith) (omega (arith, k.0)) in
        rw (q, lt-ltb 0 (length headers) (omega (arith, k.1)), lt-ltb s (length row) l))
        (λ l. rw (le-ltb 0 (length headers) (omega (arith, k.1)), le-ltb s (length row) l))

    pub past_there : bits_past headers (bio_at 0) there ≡ bits_past row (bio_at s) e
    past_there =
        on-lt (length row) e.bp
        (λ b. let k = all_taken b in
        omega (
          arith,
          some_past row s e reached b,
          some_past headers 0 there reached_headers (omega (arith, k.1, ends.start-inside)),
          stuffed_there b,
          k.1,
          ends.start-inside,
        ))
        (λ i. none_past headers (2 ^ 39) (bio_at 0) there reached_headers.takes (omega (arith, (ends.inside i).0, headers-long))
        ∙ sym (none_past row (2 ^ 39) (bio_at s) e reached.takes i))

    -- EPH that was found behind the bits, or isn't used
    pub eph_there : (m m' : Markers) → m'.eph ≡ m.eph → (read_eph m row (bytes_taken row e)).mark ≡ 0
        → bytes_taken row e + (read_eph m row (bytes_taken row e)).skip ≡ t
        → read_eph m' headers (bytes_taken headers there) ≡ read_eph m row (bytes_taken row e)
    unfolding read_eph
    eph_there m m' same z n =
        let p : ℕ = bytes_taken row e in
        let from : s ≤ p = (taken_between row s e ends).0 in
        let next : p - s + 1 ≡ p + 1 - s = omega arith in
        ap (λ (q : ℕ). read_marker m'.eph 2 0x92 headers q) taken_there
        ∙ ap (λ (u : Bool). read_marker u 2 0x92 headers (p - s)) same
        ∙ marker_there m.eph 2 0x92 row headers p (p - s) z
        (λ k. (
          omega (arith, headers-long),
          byte_there p from (omega arith),
          ap (λ (j : ℕ). get_or headers j 0) next ∙ byte_there (p + 1) (omega arith) (omega arith),
        ))
