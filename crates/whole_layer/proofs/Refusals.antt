-- Which layer call is refused and with what.
use mathlib.Core.Path.{◌≡◌, refl, sym, ap, ◌∙◌, subst}
use mathlib.Core.Logic.{◌≢◌}
use mathlib.Core.Bool.{true, false, cond, not}
use mathlib.Core.List.{List, [], ◌∷◌, ◌++◌}
use Prim.Native.Nat.{ℕ, ◌+◌, ◌≤◌, ◌<◌}
use native.Mathlib.Nat.{add-zero}
use native.Mathlib.Omega.{arith}
use lib.ListN.{length}
use lib.Dec.{eqb}
use borrow.Author.Tests.{eqb-true, eqb-false, ne_eqb}
use Rattle.t800.specs.declared.Markers.{Markers}
use Rattle.t800.specs.declared.LayerAnswer.{LayerAnswer}
use Rattle.t800.specs.Base.{any, sum}
use Rattle.t800.specs.Refusals.{Check, first_of}
use Rattle.t800.specs.WriteHeader.{Contribution}
use Rattle.t800.specs.State.{not_yet_included, writer, layer, blocks, bands, state_length}
use Rattle.t800.specs.Ranges.{valid_state}
use Rattle.t800.specs.Packet.{state_checks, wrong_lists, measure_checks, measure_refusal, measure_refusal_with, MeasureResult, measure}
use Rattle.t800.specs.Packet.{measure_with, packet_checks, WriteResult, write, write_with, write_checks, write_refusal, write_refusal_with}
use Rattle.t800.specs.Interface.{WriteCall, measure_of}
use Rattle.t800.specs.Layer.{LayerCall, LayerResult, Single, wrote, packets, first_refused, singles_of, layer_untouched, none_of_it, whole_of_it}
use Rattle.t800.specs.Layer.{write_layer}
use Rattle.t800_laws.proofs.Laws.Tests.{if-true, if-false, if-lt, if-ge, if-eq, if-ne, either, either-by, on-eq, on-lt}
use Rattle.t800_laws.proofs.Laws.Tests.{not_refused}
use Rattle.t800_laws.proofs.Laws.Checks.{on_bool, first_later}
use Rattle.tcd_laws.proofs.Laws.ValidStates.{valid_state_lem}
use Rattle.whole_layer.specs.SingleCalls.{UpTo16, refused_at, AllAccepted, LooksAtEach, Next}

-- ---- the list's first refusal

abbrev written : (bytes : ℕ) → LayerAnswer
written bytes = record { refusal = 0; place = 0; bytes = bytes }

none_refused : (place : ℕ) (ss : List Single) (bytes : ℕ) → AllAccepted ss → first_refused place ss bytes ≡ written bytes
unfolding first_refused
none_refused place [] bytes h = refl
none_refused place (s ∷ ss) bytes h = if-eq (wrote s).answer.refusal 0 _ _ h.0 ∙ none_refused (place + 1) ss bytes h.1

first_refused_lem : (place : ℕ) (before : List Single) (s : Single) (later : List Single) (bytes : ℕ) → AllAccepted before
    → (wrote s).answer.refusal ≢ 0
    → first_refused place (before ++ s ∷ later) bytes ≡ refused_at (wrote s).answer.refusal (place + length before)
unfolding first_refused
first_refused_lem place [] s later bytes h n =
    if-ne (wrote s).answer.refusal 0 _ _ n ∙ ap (refused_at (wrote s).answer.refusal) (sym (add-zero place))
first_refused_lem place (b ∷ before) s later bytes h n =
    if-eq (wrote b).answer.refusal 0 _ _ h.0
    ∙ first_refused_lem (place + 1) before s later bytes h.1 n
    ∙ ap (refused_at (wrote s).answer.refusal) (omega arith)

all_accepted : (place : ℕ) (ss : List Single) (bytes : ℕ) → (first_refused place ss bytes).refusal ≡ 0 → AllAccepted ss
unfolding first_refused
all_accepted place [] bytes h = tt
all_accepted place (s ∷ ss) bytes h =
    let later : LayerAnswer = first_refused (place + 1) ss bytes in
    let here : LayerAnswer = refused_at (wrote s).answer.refusal place in
    on-eq (wrote s).answer.refusal 0
    (λ e. (
      e,
      all_accepted (place + 1) ss bytes
          (sym (ap (λ (a : LayerAnswer). a.refusal) (if-eq (wrote s).answer.refusal 0 later here e)) ∙ h),
    ))
    (λ n. absurd (n (sym (ap (λ (a : LayerAnswer). a.refusal) (if-ne (wrote s).answer.refusal 0 later here n)) ∙ h)))

-- ---- the numbers

abbrev Among : ℕ → Type 0
Among n = any (eqb n) (0 ∷ 3 ∷ 5 ∷ 6 ∷ 7 ∷ 8 ∷ 9 ∷ 10 ∷ 11 ∷ 14 ∷ []) ≡ true

-- of a single call
abbrev OfSingle : ℕ → Type 0
OfSingle n = Among n × (eqb n 14 ≡ false)

abbrev AllOfSingle : List Check → Type 0
AllOfSingle [] = Unit {0}
AllOfSingle (c ∷ cs) = OfSingle c.number × AllOfSingle cs

first_of_lem : (cs : List Check) → AllOfSingle cs → OfSingle (first_of cs)
unfolding any
first_of_lem [] h = (refl, refl)
first_of_lem (c ∷ cs) h = either OfSingle c.holds _ _ h.0 (first_of_lem cs h.1)

refusal_number : (ws scratch : List ℕ) (p : Contribution) (body : List ℕ) (m : Markers) (number : ℕ) (output : List ℕ)
    → OfSingle (write_refusal ws scratch p body m number output)
unfolding write_refusal_with any
refusal_number ws scratch p body m number output =
    first_of_lem (write_checks ws scratch p body m number output)
    ((refl, refl), ((refl, refl), ((refl, refl), ((refl, refl), ((refl, refl), ((refl, refl), ((refl, refl), ((refl, refl), tt))))))))

-- a call answers the number that its checks give
pub answers_number : (ws scratch : List ℕ) (p : Contribution) (body : List ℕ) (m : Markers) (number : ℕ) (output : List ℕ)
    → (write ws scratch p body m number output).answer.refusal ≡ write_refusal ws scratch p body m number output
unfolding write_with
answers_number ws scratch p body m number output =
    let why : ℕ = write_refusal ws scratch p body m number output in
    let P : WriteResult → Type 0 = λ r. r.answer.refusal ≡ why in
    either-by P (eqb why 0) _ _ (λ t. sym (eqb-true why 0 t)) (λ f. either P (eqb why 11) _ _ refl refl)

single-number : (s : Single) → OfSingle (wrote s).answer.refusal
single-number s =
    let c : WriteCall = s.call in
    subst OfSingle (sym (answers_number s.state c.scratch c.contribution c.body c.markers c.number c.output))
    (refusal_number s.state c.scratch c.contribution c.body c.markers c.number c.output)

-- ---- parts of a wrong length

module _ (ws scratch : List ℕ) (p : Contribution) (body : List ℕ) (m : Markers) (number : ℕ) (output : List ℕ) where
  words_refused : length ws ≢ state_length (bands ws) → write_refusal ws scratch p body m number output ≡ 5
  unfolding write_refusal_with
  words_refused n =
      on_bool (valid_state writer ws (length scratch)) (λ t. absurd (n (valid_state_lem writer ws (length scratch) t).length-is))
      (λ f. if-true (not (valid_state writer ws (length scratch))) 5 _ (ap not f))

  entries_refused : first_of (state_checks writer ws (length scratch)) ≡ 0 → wrong_lists p (length (blocks (bands ws))) ≡ true
      → write_refusal ws scratch p body m number output ≡ 3
  unfolding write_refusal_with
  entries_refused z w =
      let c₁ = not_refused (not (valid_state writer ws (length scratch))) 5 _ (omega arith) z in
      let c₂ = not_refused (eqb (layer ws) not_yet_included) 6 0 (omega arith) c₁.1 in
      if-false (not (valid_state writer ws (length scratch))) 5 _ c₁.0
      ∙ if-false (eqb (layer ws) not_yet_included) 6 _ c₂.0
      ∙ if-true (wrong_lists p (length (blocks (bands ws)))) 3 _ w

  body_refused : measure_refusal ws scratch p ≡ 0 → length body ≢ sum p.lengths
      → write_refusal ws scratch p body m number output ≡ 10
  unfolding write_refusal_with measure_refusal_with
  body_refused z n =
      first_later (packet_checks ws p body m number output) (measure_checks ws scratch p) (omega arith) z
      ∙ if-true (not (eqb (length body) (sum p.lengths))) 10 _ (ap not (ne_eqb (length body) (sum p.lengths) n))

  measured_zero : (measure ws scratch p m).answer.refusal ≡ 0 → measure_refusal ws scratch p ≡ 0
  unfolding measure_with
  measured_zero =
      let why : ℕ = measure_refusal ws scratch p in
      either-by (λ (r : MeasureResult). r.answer.refusal ≡ 0 → why ≡ 0) (eqb why 0) _ _ (λ t e. eqb-true why 0 t) (λ f e. e)

record Decided (a : LayerAnswer) : Type 0 where
  number : OfSingle a.refusal
  no_bytes : a.refusal ≢ 0 → a ≡ refused_at a.refusal a.place

decided_number : (place : ℕ) (ss : List Single) (bytes : ℕ) → Decided (first_refused place ss bytes)
unfolding first_refused any
decided_number place [] bytes = record { number = (refl, refl); no_bytes = λ n. absurd (n refl) }
decided_number place (s ∷ ss) bytes =
    either Decided (eqb (wrote s).answer.refusal 0) _ _ (decided_number (place + 1) ss bytes)
    (record { number = single-number s; no_bytes = λ n. refl })

-- ---- the calls

-- the number that a single call's checks give
abbrev refusal_of : Single → ℕ
refusal_of s =
    let c = s.call in
    write_refusal s.state c.scratch c.contribution c.body c.markers c.number c.output

module _ (states : List ℕ) (c : LayerCall) where
  abbrev ss : List Single
  ss = singles_of states c

  abbrev decided : LayerAnswer
  decided = first_refused 0 ss (length (packets ss))

  abbrev by_precinct : LayerResult
  by_precinct = cond (eqb decided.refusal 0) (whole_of_it c ss decided) (none_of_it states c decided)

  abbrev some : LayerResult
  some = cond (eqb (length c.scratch) (length states)) by_precinct (none_of_it states c (refused_at 5 0))

  pub too_many_here : 16 < length c.numbers → write_layer states c ≡ layer_untouched states c 14
  unfolding write_layer
  too_many_here h = if-lt 16 (length c.numbers) _ _ h

  pub none_here : length c.numbers ≡ 0 → write_layer states c ≡ layer_untouched states c 0
  unfolding write_layer
  none_here e = if-ge 16 (length c.numbers) _ _ (omega arith) ∙ if-eq (length c.numbers) 0 _ _ e

  some_here : UpTo16 c → write_layer states c ≡ some
  unfolding write_layer
  some_here h = if-ge 16 (length c.numbers) _ _ h.1 ∙ if-ne (length c.numbers) 0 _ _ (omega arith)

  pub wrong_scratch_here : UpTo16 c → length c.scratch ≢ length states → write_layer states c ≡ none_of_it states c (refused_at 5 0)
  wrong_scratch_here h n = some_here h ∙ if-ne (length c.scratch) (length states) _ _ n

  looked_at : UpTo16 c → length c.scratch ≡ length states → write_layer states c ≡ by_precinct
  looked_at h e = some_here h ∙ if-eq (length c.scratch) (length states) _ _ e

  pub refused-here : LooksAtEach states c → (before later : List Single) (s : Single) → Next states c before s later
      → (wrote s).answer.refusal ≢ 0
      → write_layer states c ≡ none_of_it states c (refused_at (wrote s).answer.refusal (length before))
  refused-here l before later s x n =
      let d : decided ≡ refused_at (wrote s).answer.refusal (length before) =
      ap (λ (z : List Single). first_refused 0 z (length (packets ss))) x.0
      ∙ first_refused_lem 0 before s later (length (packets ss)) x.1 n
      ∙ ap (refused_at (wrote s).answer.refusal) (omega arith) in
      looked_at l.0 l.1
      ∙ if-ne decided.refusal 0 _ _ (λ z. n (sym (ap (λ (a : LayerAnswer). a.refusal) d) ∙ z))
      ∙ ap (none_of_it states c) d

  pub refused-by_number : LooksAtEach states c → (before later : List Single) (s : Single) → Next states c before s later → (why : ℕ)
      → why ≢ 0 → refusal_of s ≡ why → write_layer states c ≡ none_of_it states c (refused_at why (length before))
  refused-by_number l before later s n why z e =
      let c' : WriteCall = s.call in
      let w : (wrote s).answer.refusal ≡ why =
      answers_number s.state c'.scratch c'.contribution c'.body c'.markers c'.number c'.output ∙ e in
      refused-here l before later s n (λ q. z (sym w ∙ q)) ∙ ap (λ (x : ℕ). none_of_it states c (refused_at x (length before))) w

  pub accepted_here : UpTo16 c → length c.scratch ≡ length states → AllAccepted ss
      → write_layer states c ≡ whole_of_it c ss (written (length (packets ss)))
  accepted_here h e all =
      let d : decided ≡ written (length (packets ss)) = none_refused 0 ss (length (packets ss)) all in
      looked_at h e ∙ if-eq decided.refusal 0 _ _ (ap (λ (a : LayerAnswer). a.refusal) d) ∙ ap (whole_of_it c ss) d

  -- what an accepted call says
  pub known-accepted : c.numbers ≢ [] → (write_layer states c).answer.refusal ≡ 0
      → UpTo16 c × (length c.scratch ≡ length states) × AllAccepted ss
  known-accepted n z =
      let refusal : LayerResult → ℕ = λ r. r.answer.refusal in
      on-lt 16 (length c.numbers) (λ h. absurd (let q = sym (ap refusal (too_many_here h)) ∙ z in omega (arith, q)))
      (λ h. let u : UpTo16 c = (has_some c.numbers n, h) in
      on-eq (length c.scratch) (length states)
      (λ e. (
        u,
        e,
        all_accepted 0 ss (length (packets ss)) (on-eq decided.refusal 0 (λ d. d)
            (λ d. absurd (d (sym (ap refusal (looked_at u e ∙ if-ne decided.refusal 0 _ _ d)) ∙ z)))),
      ))
      (λ e. absurd (let q = sym (ap refusal (wrong_scratch_here u e)) ∙ z in omega (arith, q))))
    where
      has_some : (xs : List ℕ) → xs ≢ [] → 1 ≤ length xs
      has_some [] h = absurd (h refl)
      has_some (x ∷ xs) h = omega arith

-- ---- the numbers of the calls

-- what the request says of them
pub record Numbers (states : List ℕ) (c : LayerCall) (r : LayerResult) : Type 0 where
  pub number : Among r.answer.refusal
  pub fourteen : r.answer.refusal ≡ 14 → 16 < length c.numbers
  pub other_number : r.answer.refusal ≢ 0 → r.answer.refusal ≢ 14
      → r ≡ none_of_it states c (refused_at r.answer.refusal r.answer.place)

module _ (states : List ℕ) (c : LayerCall) where
  none_numbers : (a : LayerAnswer) → Decided a → a.refusal ≢ 0 → Numbers states c (none_of_it states c a)
  none_numbers a d n =
      record {
        number = d.number.0;
        fourteen = λ e. absurd (eqb-false _ 14 d.number.1 e);
        other_number = λ z m. ap (none_of_it states c) (d.no_bytes n);
      }

  whole_numbers : (a : LayerAnswer) → Decided a → a.refusal ≡ 0 → Numbers states c (whole_of_it c (ss states c) a)
  whole_numbers a d e =
      record { number = d.number.0; fourteen = λ f. absurd (eqb-false _ 14 d.number.1 f); other_number = λ n m. absurd (n e) }

  pub numbers_here : Numbers states c (write_layer states c)
  unfolding any
  numbers_here =
      let P : LayerResult → Type 0 = Numbers states c in
      on-lt 16 (length c.numbers)
      (λ h. subst P (sym (too_many_here states c h))
      (record { number = refl; fourteen = λ e. h; other_number = λ n m. absurd (m refl) }))
      (λ h. on-eq (length c.numbers) 0
      (λ e. subst P (sym (none_here states c e))
      (record { number = refl; fourteen = λ z. absurd (omega (arith, z)); other_number = λ n m. absurd (n refl) }))
      (λ n. let u : UpTo16 c = (omega arith, h) in
      let d = decided_number 0 (ss states c) (length (packets (ss states c))) in
      on-eq (length c.scratch) (length states)
      (λ e. subst P (sym (looked_at states c u e))
      (either-by P (eqb (decided states c).refusal 0) _ _
      (λ t. whole_numbers (decided states c) d (eqb-true _ 0 t))
      (λ f. none_numbers (decided states c) d (eqb-false _ 0 f))))
      (λ e. subst P (sym (wrong_scratch_here states c u e))
      (none_numbers (refused_at 5 0) (record { number = (refl, refl); no_bytes = λ z. refl }) (omega arith)))))

  pub refused-layer_keeps : (write_layer states c).answer.refusal ≢ 0 → (write_layer states c).states ≡ states
  refused-layer_keeps n =
      on-eq (write_layer states c).answer.refusal 14
      (λ e. ap (λ (z : LayerResult). z.states) (too_many_here states c (numbers_here.fourteen e)))
      (λ e. ap (λ (z : LayerResult). z.states) (numbers_here.other_number n e))

  pub wrong_words_here : LooksAtEach states c → (before later : List Single) (s : Single) → Next states c before s later
      → length s.state ≢ state_length (bands s.state) → write_layer states c ≡ none_of_it states c (refused_at 5 (length before))
  wrong_words_here l before later s x n =
      let c' : WriteCall = s.call in
      refused-by_number states c l before later s x 5 (omega arith)
      (words_refused s.state c'.scratch c'.contribution c'.body c'.markers c'.number c'.output n)

  pub wrong_entries_here : LooksAtEach states c → (before later : List Single) (s : Single) → Next states c before s later
      → first_of (state_checks writer s.state (length s.call.scratch)) ≡ 0
      → wrong_lists s.call.contribution (length (blocks (bands s.state))) ≡ true
      → write_layer states c ≡ none_of_it states c (refused_at 3 (length before))
  wrong_entries_here l before later s x z w =
      let c' : WriteCall = s.call in
      refused-by_number states c l before later s x 3 (omega arith)
      (entries_refused s.state c'.scratch c'.contribution c'.body c'.markers c'.number c'.output z w)

  pub wrong_body_here : LooksAtEach states c → (before later : List Single) (s : Single) → Next states c before s later
      → (measure_of s.state s.call).answer.refusal ≡ 0 → length s.call.body ≢ sum s.call.contribution.lengths
      → write_layer states c ≡ none_of_it states c (refused_at 10 (length before))
  wrong_body_here l before later s x z n =
      let c' : WriteCall = s.call in
      refused-by_number states c l before later s x 10 (omega arith)
      (body_refused s.state c'.scratch c'.contribution c'.body c'.markers c'.number c'.output
      (measured_zero s.state c'.scratch c'.contribution c'.body c'.markers c'.number c'.output z) n)
