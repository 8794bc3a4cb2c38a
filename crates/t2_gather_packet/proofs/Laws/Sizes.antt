-- The tests of a packet's parts against what is left and what has room, in the code's own numbers.
use Prim.Native.Nat.{ℕ, ◌+◌, ◌-◌, ◌*◌, ◌<◌, ◌≤◌}
use mathlib.Core.Path.{◌≡◌, sym, ap, ◌∙◌}
use mathlib.Core.Logic.{◌≢◌}
use mathlib.Core.Bool.{Bool, true, false, not, ◌||◌}
use native.Mathlib.Omega.{arith}
use borrow.Author.Tests.{lt-ltb, le-ltb, le-leb, lt-leb, eq-eqb, ne_eqb, ltb-false, not-true, not-false}
use lib.Dec.{ltb, leb}
use Rattle.t800.specs.Refusals.{body_refusal, space_refusal, segments_refusal}
use Rattle.t800.specs.PackedHeaders.{most_bytes, most_segments, segments_for}
use Rattle.t800_laws.proofs.Laws.Tests.{on-eq, on-le, or_left, or_right, not_refused}
use Rattle.t2_pack_headers.specs.Packing.{packed_length}
use Rattle.t2_pack_headers.proofs.Laws.Steps.{more_than_all}
use Rattle.t2_skip_packet.specs.Parts.{Skipped}
use Rattle.t2_gather_packet.specs.declared.Moved.{Moved}
use Rattle.t2_gather_packet.specs.Moving.{sizes_refusal, PartsFit}

pub header_too_long : (before header : ℕ) → most_segments * most_bytes < header
    → true ≡ ltb most_segments (segments_for (before + header))
header_too_long before header h =
    sym (sym (more_than_all (before + header)) ∙ lt-ltb (most_segments * most_bytes) (before + header) (omega arith))

-- the test of the first list
pub no_header_room : (room bytes bodies more : ℕ) → room < bytes → false ≡ not (ltb room bytes || ltb bodies more)
no_header_room room bytes bodies more h = simp (lt-ltb room bytes h)

-- and of the second one
pub room_of_both : (room bytes bodies at sop body : ℕ) → bytes ≤ room → at ≤ bodies
    → leb (sop + body) (bodies - at) ≡ not (ltb room bytes || ltb bodies (at + sop + body))
room_of_both room bytes bodies at sop body h k =
    rw (le-ltb room bytes h)
    (on-le (sop + body) (bodies - at)
    (λ l. le-leb (sop + body) (bodies - at) l ∙ sym (ap not (le-ltb bodies (at + sop + body) (omega arith))))
    (λ l. lt-leb (sop + body) (bodies - at) l ∙ sym (ap not (lt-ltb bodies (at + sop + body) (omega arith)))))

-- what a test of the code says of the definition's
pub found : (test result : Bool) → result ≡ not test → result ≡ false → test ≡ true
found test result e t = not-false test (sym e ∙ t)

pub not_found : (test result : Bool) → result ≡ not test → result ≡ true → test ≡ false
not_found test result e t = not-true test (sym e ∙ t)

-- ---- in order

module _ (p : Skipped) (g : Moved) (left headers_room bodies_room : ℕ) where
  abbrev why : ℕ
  why = sizes_refusal p g left headers_room bodies_room

  abbrev cut_short : Bool
  cut_short = ltb left (p.sop + p.header + p.body)

  abbrev too_many : Bool
  too_many = ltb most_segments (segments_for (g.headers + p.header))

  abbrev no_headers : Bool
  no_headers = ltb headers_room (packed_length (g.headers + p.header))

  abbrev no_bodies : Bool
  no_bodies = ltb bodies_room (g.bodies + p.sop + p.body)

  abbrev no_room : Bool
  no_room = no_headers || no_bodies

  pub by_reader : p.refusal ≢ 0 → p.refusal ≡ why
  unfolding sizes_refusal
  by_reader n = simp (ne_eqb p.refusal 0 n)

  pub by_row : p.refusal ≡ 0 → cut_short ≡ true → body_refusal ≡ why
  unfolding sizes_refusal
  by_row z s = simp (eq-eqb p.refusal 0 z, s)

  pub by_segments : p.refusal ≡ 0 → cut_short ≡ false → too_many ≡ true → segments_refusal ≡ why
  unfolding sizes_refusal
  by_segments z s m = simp (eq-eqb p.refusal 0 z, s, m)

  pub by_room : p.refusal ≡ 0 → cut_short ≡ false → too_many ≡ false → no_room ≡ true → space_refusal ≡ why
  unfolding sizes_refusal
  by_room z s m r = simp (eq-eqb p.refusal 0 z, s, m, r)

  pub by_none : p.refusal ≡ 0 → cut_short ≡ false → too_many ≡ false → no_room ≡ false → 0 ≡ why
  unfolding sizes_refusal
  by_none z s m r = simp (eq-eqb p.refusal 0 z, s, m, r)

  pub up_to_all : too_many ≡ false → g.headers + p.header ≤ most_segments * most_bytes
  up_to_all m = ltb-false (most_segments * most_bytes) (g.headers + p.header) (more_than_all (g.headers + p.header) ∙ m)

  pub parts_fit : why ≡ 0 → PartsFit p g left headers_room bodies_room
  unfolding sizes_refusal
  parts_fit e =
      on-eq p.refusal 0
      (λ z.
      let a = not_refused cut_short body_refusal _ (omega arith) (rw (eq-eqb p.refusal 0 z) at e) in
      let b = not_refused too_many segments_refusal _ (omega arith) a.1 in
      let d = not_refused no_room space_refusal _ (omega arith) b.1 in
      record {
        accepted = z;
        in_row = ltb-false left (p.sop + p.header + p.body) a.0;
        few_headers = up_to_all b.0;
        headers_fit = ltb-false headers_room (packed_length (g.headers + p.header)) (or_left no_headers no_bodies d.0);
        bodies_fit = ltb-false bodies_room (g.bodies + p.sop + p.body) (or_right no_headers no_bodies d.0);
      })
      (λ n. absurd (n (by_reader n ∙ e)))
