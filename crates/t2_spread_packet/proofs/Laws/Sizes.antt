-- The tests of a packet's parts against what is left and what has room, in the code's own numbers.
use mathlib.Core.Path.{◌≡◌, sym, ap, ◌∙◌}
use mathlib.Core.Logic.{◌≢◌}
use mathlib.Core.Bool.{Bool, true, false, not}
use Prim.Native.Nat.{ℕ, ◌+◌, ◌-◌, ◌<◌, ◌≤◌}
use native.Mathlib.Omega.{arith}
use lib.Dec.{ltb, leb}
use borrow.Author.Tests.{lt-ltb, le-ltb, le-leb, lt-leb, eq-eqb, ne_eqb, ltb-true, ltb-false, not-true, not-false}
use Rattle.t800.specs.Refusals.{body_refusal, space_refusal}
use Rattle.t800_laws.proofs.Laws.Tests.{on-eq, on-le, not_refused}
use Rattle.t2_skip_packet.specs.Parts.{Skipped}
use Rattle.t2_spread_packet.specs.Moving.{sizes_refusal}

-- what the code's test says of the definition's
more_than : (left n : ℕ) (result : Bool) → result ≡ not (ltb left n) → result ≡ false → left < n
more_than left n result e t = ltb-true left n (not-false (ltb left n) (sym e ∙ t))

up_to : (left n : ℕ) (result : Bool) → result ≡ not (ltb left n) → result ≡ true → n ≤ left
up_to left n result e t = ltb-false left n (not-true (ltb left n) (sym e ∙ t))

-- a packet that nothing turns away
pub record Fits (p : Skipped) (left put room : ℕ) : Type 0 where
  pub accepted : p.refusal ≡ 0
  pub in_bodies : p.sop + p.body ≤ left
  pub in_row : put + (p.sop + p.header + p.body) ≤ room

module _ (p : Skipped) (left put room : ℕ) where
  abbrev why : ℕ
  why = sizes_refusal p left put room

  pub by_reader : p.refusal ≢ 0 → p.refusal ≡ why
  unfolding sizes_refusal
  by_reader n = simp (ne_eqb p.refusal 0 n)

  module _ (z : p.refusal ≡ 0) (short : Bool) (is : short ≡ not (ltb left (p.sop + 0 + p.body))) where
    pub by_bodies : short ≡ false → body_refusal ≡ why
    unfolding sizes_refusal
    by_bodies t =
        let h = more_than left (p.sop + 0 + p.body) short is t in
        simp (eq-eqb p.refusal 0 z, lt-ltb left (p.sop + p.body) (omega arith))

    module _ (here : short ≡ true) (low : put ≤ room) (fits : Bool)
        (says : fits ≡ not (ltb (room - put) (p.sop + p.header + p.body))) where
      pub by_room : fits ≡ false → space_refusal ≡ why
      unfolding sizes_refusal
      by_room t =
          let h = up_to left (p.sop + 0 + p.body) short is here in
          let k = more_than (room - put) (p.sop + p.header + p.body) fits says t in
          simp (
            eq-eqb p.refusal 0 z,
            le-ltb left (p.sop + p.body) (omega arith),
            lt-ltb room (put + (p.sop + p.header + p.body)) (omega arith),
          )

      pub by_none : fits ≡ true → 0 ≡ why
      unfolding sizes_refusal
      by_none t =
          let h = up_to left (p.sop + 0 + p.body) short is here in
          let k = up_to (room - put) (p.sop + p.header + p.body) fits says t in
          simp (
            eq-eqb p.refusal 0 z,
            le-ltb left (p.sop + p.body) (omega arith),
            le-ltb room (put + (p.sop + p.header + p.body)) (omega arith),
          )

  pub fits_if : why ≡ 0 → Fits p left put room
  unfolding sizes_refusal
  fits_if e =
      on-eq p.refusal 0
      (λ z.
      let a = not_refused (ltb left (p.sop + p.body)) body_refusal _ (omega arith) (rw (eq-eqb p.refusal 0 z) at e) in
      let b = not_refused (ltb room (put + (p.sop + p.header + p.body))) space_refusal _ (omega arith) a.1 in
      record { accepted = z; in_bodies = ltb-false left _ a.0; in_row = ltb-false room _ b.0 })
      (λ n. absurd (n (by_reader n ∙ e)))
