-- Before and behind the packets.
use mathlib.Core.Path.{◌≡◌, refl, sym, ap, ◌∙◌}
use mathlib.Core.Logic.{◌≢◌}
use mathlib.Core.Bool.{Bool, true, false, cond, not, ◌||◌}
use mathlib.Core.List.{◌++◌, flat_map}
use Prim.Native.Nat.{ℕ, ◌+◌, ◌-◌, ◌<◌, ◌≤◌}
use native.Mathlib.Omega.{arith}
use lib.ListN.{length, drop, length-drop}
use lib.Seq.{sets, sets-eq}
use lib.Dec.{ltb, eqb}
use borrow.Author.Tests.{eq-eqb, ne_eqb, lt-ltb, le-ltb, not-true, not-false}
use Rattle.std.proofs.Common.{Ok, Err}
use Rattle.t800.specs.declared.Markers.{Markers}
use Rattle.t800.specs.declared.Refusal.{Refusal}
use Rattle.t800.specs.declared.Refusal.TheVariants.{State, Body}
use Rattle.t800.specs.RefusalNumbers.{number_of}
use Rattle.t800.specs.declared.WriteAnswer.{WriteAnswer}
use Rattle.t800.specs.Base.{Words, Bytes, overwrite, wiped}
use Rattle.t800.specs.Refusals.{body_refusal, state_refusal}
use Rattle.t800.specs.PackedHeaders.{unpacked}
use Rattle.t800.specs.Gathered.{bad_states, Spreading, SpreadResult, spread}
use Rattle.t800_laws.proofs.Laws.Tests.{on-eq, on-lt, not_refused}
use Rattle.t2_skip_packet.proofs.Laws.Numbers.{refusal_counts}
use Rattle.t2_unpack_headers.specs.Segments.{LookedAt}
use Rattle.t2_spread_packet.specs.declared.Moved.{Moved}
use Rattle.t2_spread_row.specs.Standing.{all_spread, SpreadsPackets}
use Rattle.t2_spread.specs.Answers.{late_refusal, early_refusal, LooksFirst, spread_result, SpreadsAll}

-- ---- the packets and what they leave

-- a number behind another one
second : (n x : ℕ) → cond (not (eqb n 0)) n x ≡ 0 → (n ≡ 0) × (x ≡ 0)
second n x e =
    on-eq n 0 (λ z. (z, rw (eq-eqb n 0 z) at e)) (λ ne. absurd (ne (rw (ne_eqb n 0 ne) at e)))

-- bytes put from the first place on
from_first : (rs xs : Bytes) → length xs ≤ length rs → sets rs 0 xs ≡ overwrite rs xs
unfolding overwrite
from_first rs xs h =
    let e : 0 + length xs ≡ length xs = omega arith in
    sets-eq xs rs 0 (omega arith) ∙ ap (λ (n : ℕ). xs ++ drop n rs) e

module _ (segments bodies : Bytes) (m : Markers) (states places : Words) (rs : Bytes) (ws : Words) (rs' : Bytes) where
  abbrev done : Spreading
  done = all_spread segments bodies m states places rs

  -- a number of the packets counts first
  late_first : done.refusal ≢ 0 → done.refusal ≡ late_refusal done
  unfolding late_refusal
  late_first n = simp (ne_eqb done.refusal 0 n)

  pub packets-refused : (why : Refusal) → SpreadsPackets segments bodies m states places rs ws rs' (Err why)
      → SpreadsAll segments bodies m states places rs ws rs' (Err why)
  packets-refused why k =
      let n = refusal_counts why in
      record {
        refuses = k.refuses ∙ late_first (λ z. n (k.refuses ∙ z));
        states_are = λ z. absurd (n z);
        row_is = λ z. absurd (n z);
        bytes_are = tt;
      }

  module _ (o : Moved) (all : SpreadsPackets segments bodies m states places rs ws rs' (Ok o)) where
    headers-left : length done.headers ≡ length (unpacked segments).bytes - o.headers
    headers-left = sym (ap length all.stands.headers-left) ∙ length-drop o.headers (unpacked segments).bytes

    bodies_left : length done.bodies ≡ length bodies - o.bodies
    bodies_left = sym (ap length all.stands.bodies_left) ∙ length-drop o.bodies bodies

    late_with : (n : ℕ) → length done.headers + length done.bodies ≡ n → late_refusal done ≡ cond (not (eqb n 0)) body_refusal 0
    unfolding late_refusal
    late_with n e = rw (eq-eqb done.refusal 0 (sym all.refuses), e) refl

    some_left : length done.headers + length done.bodies ≢ 0 → SpreadsAll segments bodies m states places rs ws rs' (Err Body)
    some_left n =
        record {
          refuses = sym (late_with _ refl ∙ ap (λ (b : Bool). cond (not b) body_refusal 0) (ne_eqb (length done.headers + length done.bodies) 0 n));
          states_are = λ z. absurd (refusal_counts Body z);
          row_is = λ z. absurd (refusal_counts Body z);
          bytes_are = tt;
        }

    pub headers_over : o.headers < length (unpacked segments).bytes → SpreadsAll segments bodies m states places rs ws rs' (Err Body)
    headers_over h = some_left (omega (arith, headers-left))

    pub bodies_over : o.bodies < length bodies → SpreadsAll segments bodies m states places rs ws rs' (Err Body)
    bodies_over h = some_left (omega (arith, bodies_left))

    pub spreads_all : (bytes : ℕ) → length (unpacked segments).bytes ≤ o.headers → length bodies ≤ o.bodies → bytes ≡ o.row
        → SpreadsAll segments bodies m states places rs ws rs' (Ok bytes)
    spreads_all bytes h b e =
        let s = all.stands in
        let n : length done.headers + length done.bodies ≡ 0 = omega (arith, headers-left, bodies_left) in
        record {
          refuses = sym (late_with 0 n);
          states_are = λ _. s.states_are;
          row_is = λ _. s.row_put ∙ from_first rs done.row (omega (arith, s.row_bytes, s.row_room));
          bytes_are = e ∙ s.row_bytes;
        }

-- ---- the looks before the packets

module _ (segments : Bytes) (states : Words) (n : ℕ) (places : Words) where
  pub by_segments : (why : Refusal) → LookedAt segments (Err why) → LooksFirst segments states n places (Err why)
  unfolding early_refusal
  by_segments why k =
      let no : (unpacked segments).refusal ≢ 0 = λ z. refusal_counts why (k ∙ z) in
      record { refuses = k ∙ simp (ne_eqb (unpacked segments).refusal 0 no); bytes_if = tt }

  module _ (plain : ℕ) (k : LookedAt segments (Ok plain)) where
    pub by_states : (fit : Bool) → fit ≡ not (bad_states states n places) → fit ≡ false
        → LooksFirst segments states n places (Err State)
    unfolding early_refusal
    by_states fit is t =
        let bad : bad_states states n places ≡ true = not-false (bad_states states n places) (sym is ∙ t) in
        record { refuses = simp (eq-eqb (unpacked segments).refusal 0 k.0, bad); bytes_if = tt }

    pub by_neither : (fit : Bool) → fit ≡ not (bad_states states n places) → fit ≡ true
        → LooksFirst segments states n places (Ok plain)
    unfolding early_refusal
    by_neither fit is t =
        let good : bad_states states n places ≡ false = not-true (bad_states states n places) (sym is ∙ t) in
        record { refuses = simp (eq-eqb (unpacked segments).refusal 0 k.0, good); bytes_if = k.1 }

-- ---- the call

-- 16, 5, and the late number: those before the packets count first
abbrev three_in : (u : ℕ) (bad : Bool) (later : ℕ) → ℕ
three_in u bad later = cond (not (eqb u 0)) u (cond bad state_refusal later)

state_counts : (bad : Bool) (later : ℕ) → cond bad state_refusal 0 ≢ 0 → cond bad state_refusal later ≡ cond bad state_refusal 0
state_counts true later n = refl
state_counts false later n = absurd (n refl)

early_counts : (u : ℕ) (bad : Bool) (later : ℕ) → three_in u bad 0 ≢ 0 → three_in u bad later ≡ three_in u bad 0
early_counts u bad later =
    on-eq u 0 (λ z. rw (eq-eqb u 0 z) (state_counts bad later)) (λ n. rw (ne_eqb u 0 n) (λ _. refl))

late_counts : (u : ℕ) (bad : Bool) (later : ℕ) → u ≡ 0 → bad ≡ false → three_in u bad later ≡ later
late_counts u bad later z f = rw (eq-eqb u 0 z, f)

-- a number that isn't 0 is the answer's, and with 0 the work counts
given : {A : Type 0} (why n : ℕ) (done : A) (refused : ℕ → A) → why ≡ n → n ≢ 0 → cond (eqb why 0) done (refused why) ≡ refused n
given why n done refused e ne = rw (ne_eqb why 0 (λ z. ne (sym e ∙ z))) (ap refused e)

not_given : {A : Type 0} (why : ℕ) (done : A) (refused : ℕ → A) → why ≡ 0 → cond (eqb why 0) done (refused why) ≡ done
not_given why done refused e = rw (eq-eqb why 0 e)

module _ (headers bodies : Bytes) (states scratch places : Words) (m : Markers) (row : Bytes) where
  abbrev spread_whole : Spreading
  spread_whole = all_spread headers bodies m states places row

  abbrev result : SpreadResult
  result = spread headers bodies states scratch places m row

  abbrev refused_with : ℕ → SpreadResult
  refused_with why = spread_result (record { refusal = why; bytes = 0 }) (wiped scratch) (wiped row)

  abbrev bad : Bool
  bad = bad_states states (length scratch) places

  abbrev done_with : Spreading → SpreadResult
  done_with s = spread_result (record { refusal = 0; bytes = length s.row }) (flat_map (λ t. t) s.states) (overwrite row s.row)

  abbrev all_why : ℕ
  all_why = three_in (unpacked headers).refusal bad (late_refusal spread_whole)

  result_is : result ≡ cond (eqb all_why 0) (done_with spread_whole) (refused_with all_why)
  unfolding spread late_refusal
  result_is = refl

  pub early : (why : Refusal) → LooksFirst headers states (length scratch) places (Err why) → refused_with (number_of why) ≡ result
  unfolding early_refusal
  early why looks =
      let ne = refusal_counts why in
      let no : three_in (unpacked headers).refusal bad 0 ≢ 0 = λ z. ne (looks.refuses ∙ z) in
      sym (result_is
      ∙ given all_why (number_of why) (done_with spread_whole) refused_with
      (early_counts (unpacked headers).refusal bad (late_refusal spread_whole) no ∙ sym looks.refuses) ne)

  module _ (plain : ℕ) (looks : LooksFirst headers states (length scratch) places (Ok plain)) where
    pub passed : ((unpacked headers).refusal ≡ 0) × (bad ≡ false)
    unfolding early_refusal
    passed =
        let a = second (unpacked headers).refusal (cond bad state_refusal 0) (sym looks.refuses) in
        (a.0, (not_refused bad state_refusal 0 (omega arith) a.1).0)

    why_is : three_in (unpacked headers).refusal bad (late_refusal spread_whole) ≡ late_refusal spread_whole
    why_is = late_counts (unpacked headers).refusal bad (late_refusal spread_whole) passed.0 passed.1

    module _ (ws : Words) (rs : Bytes) where
      pub late : (why : Refusal) → SpreadsAll headers bodies m states places row ws rs (Err why)
          → refused_with (number_of why) ≡ result
      late why k =
          sym (result_is
          ∙ given all_why (number_of why) (done_with spread_whole) refused_with
          (why_is ∙ sym k.refuses) (refusal_counts why))

      pub whole : (bytes : ℕ) → SpreadsAll headers bodies m states places row ws rs (Ok bytes)
          → spread_result (record { refusal = 0; bytes = bytes }) ws rs ≡ result
      whole bytes k =
          (λ i. spread_result (record { refusal = 0; bytes = k.bytes_are i }) (k.states_are refl i) (k.row_is refl i))
          ∙ sym (result_is
          ∙ not_given all_why (done_with spread_whole) refused_with
          (why_is ∙ sym k.refuses))
