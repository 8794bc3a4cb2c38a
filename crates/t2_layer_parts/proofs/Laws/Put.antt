-- The packet of the precinct in front: what of the lists it has, and that it is the single call's.
use Rattle.std.specs.Prelude.{Result, Ok, Err}
use mathlib.Core.Path.{◌≡◌, refl, sym, ap, ◌∙◌, subst}
use mathlib.Core.Logic.{◌≢◌}
use mathlib.Core.List.{List, ◌++◌}
use Prim.Native.Nat.{ℕ, ◌≤◌, min}
use native.Mathlib.Omega.{arith}
use lib.ListN.{length, take, drop, length-take}
use lib.Dec.{ltb}
use borrow.Author.Tests.{ltb-false}
use Rattle.t800.specs.declared.Band.{Band}
use Rattle.t800.specs.declared.Markers.{Markers}
use Rattle.t800.specs.declared.Refusal.{Refusal}
use Rattle.t800.specs.declared.WriteAnswer.{WriteAnswer}
use Rattle.t800.specs.RefusalNumbers.{number_of}
use Rattle.t800.specs.Base.{sum, wiped}
use Rattle.t800.specs.State.{writer, bands, blocks, state_length}
use Rattle.t800.specs.WriteHeader.{Contribution, contribution}
use Rattle.t800.specs.Packet.{WriteResult}
use Rattle.t800.specs.Layer.{Rest, Asks, asks, in_front, single, wrote}
use Rattle.t800_laws.proofs.Laws.Tests.{if-eq, if-ne, if-lt, if-ge, on-eq, on-lt, not_refused}
use Rattle.tcd_laws.proofs.Laws.FirstWords.{bands-in_front}
use Rattle.tcd_laws.proofs.Laws.ValidStates.{valid_state_lem}
use Rattle.tcd_state.proofs.Laws.Front.{thirteen_asked}
use Rattle.t2_refusal_laws.specs.Refusals.{measure_refusal_for}
use Rattle.t2_refusal_laws.proofs.Laws.NotRefused.{NotRefused, not_refused_for}
use Rattle.t2_refusal_laws.proofs.Laws.Numbers.{number-not_0}
use Rattle.t2_put_packet.specs.Put.{PacketPut, answer_of}
use Rattle.t2_write.proofs.Laws.Written.{write-refused, write-body_refused, write-without_room, write_done}
use Rattle.t2_layer_parts.specs.declared.Front.{Front}
use Rattle.t2_layer_parts.specs.Front.{asked, state_of, part_of, front_refusal, FrontIs, rest, PutInFront, WrittenInFront}

-- ---- nothing turns it away but want of room

module _ (ws : List ℕ) (p : Contribution) (bodies : ℕ) (z : front_refusal ws p bodies ≡ 0) where
  abbrev why : ℕ
  why = measure_refusal_for (state_of ws p) (length (state_of ws p)) (part_of ws p)

  none_of_measuring : why ≡ 0
  unfolding front_refusal
  none_of_measuring = on-eq why 0 (λ e. e) (λ n. absurd (n (sym (if-ne why 0 _ _ n) ∙ z)))

  pub body_there : (asked ws p).bytes ≤ bodies
  unfolding front_refusal
  body_there =
      ltb-false bodies (asked ws p).bytes
      (not_refused (ltb bodies (asked ws p).bytes) 10 0 (omega arith) (sym (if-eq why 0 _ _ none_of_measuring) ∙ z)).0

  pub part_not_refused : NotRefused (state_of ws p) (length (state_of ws p)) (part_of ws p)
  part_not_refused = not_refused_for (state_of ws p) (length (state_of ws p)) (part_of ws p) none_of_measuring

  -- each list has what is asked of it
  bands-of_part : bands (state_of ws p) ≡ bands ws
  unfolding asks
  bands-of_part = bands-in_front ws (state_length (bands ws)) (thirteen_asked (bands ws))

  pub state_there : (asked ws p).words ≤ length ws
  unfolding asks
  state_there =
      let n : ℕ = state_length (bands ws) in
      omega (
        arith,
        (valid_state_lem writer (state_of ws p) (length (state_of ws p)) part_not_refused.valid).length-is ∙ ap state_length bands-of_part,
        length-take n ws,
      )

  pub counts_there : (asked ws p).blocks ≤ length p.counts
  unfolding asks
  counts_there =
      let n : ℕ = length (blocks (bands ws)) in
      omega (
        arith,
        part_not_refused.counts_are ∙ ap (λ (bs : List Band). length (blocks bs)) bands-of_part,
        length-take n p.counts,
      )

  pub lengths_there : (asked ws p).passes ≤ length p.lengths
  unfolding asks
  lengths_there = omega (
    arith,
    part_not_refused.lengths_are_lem,
    length-take (sum (take (length (blocks (bands ws))) p.counts)) p.lengths,
  )

  pub marks_there : (asked ws p).passes ≤ length p.marks
  unfolding asks
  marks_there = omega (arith, part_not_refused.marks_are, length-take (sum (take (length (blocks (bands ws))) p.counts)) p.marks)

-- ---- the single call

module _ (ws scratch : List ℕ) (p : Contribution) (bodies : List ℕ) (m : Markers) (number : ℕ) (output : List ℕ)
    (l : length scratch ≡ length ws) where
  abbrev lists : Rest
  lists = rest ws scratch p bodies output

  abbrev left : WriteResult
  left = wrote (single m number (in_front lists))

  as_long : length (take (asked ws p).words scratch) ≡ length (state_of ws p)
  as_long = length-take (asked ws p).words scratch ∙ ap (min (asked ws p).words) l ∙ sym (length-take (asked ws p).words ws)

  abbrev measuring : ℕ
  measuring = measure_refusal_for (state_of ws p) (length (state_of ws p)) (part_of ws p)

  is_measuring : measuring ≡ measure_refusal_for (state_of ws p) (length (take (asked ws p).words scratch)) (part_of ws p)
  is_measuring = ap (λ (n : ℕ). measure_refusal_for (state_of ws p) n (part_of ws p)) (sym as_long)

  abbrev body : List ℕ
  body = take (asked ws p).bytes bodies

  sums : (asked ws p).bytes ≡ sum (part_of ws p).lengths
  unfolding asks
  sums = refl

  -- what turns the part away turns the single call away
  pub refused-in_front : (why : ℕ) → why ≡ front_refusal ws p (length bodies) → why ≢ 0 → left.answer.refusal ≡ why
  unfolding front_refusal in_front asks
  refused-in_front why e h =
      on-eq measuring 0
      (λ z. on-lt (length bodies) (asked ws p).bytes
      (λ k. let w : why ≡ 10 = e ∙ if-eq measuring 0 _ _ z ∙ if-lt (length bodies) (asked ws p).bytes 10 0 k in
      sym (ap (λ (r : WriteResult). r.answer.refusal)
      (write-body_refused (state_of ws p) (take (asked ws p).words scratch) (part_of ws p) body m number output measuring is_measuring z
      (asked ws p).bytes sums (λ q. absurd (omega (arith, q, k, length-take (asked ws p).bytes bodies))))) ∙ sym w)
      (λ k. absurd (h (e ∙ if-eq measuring 0 _ _ z ∙ if-ge (length bodies) (asked ws p).bytes 10 0 k))))
      (λ n. let w : why ≡ measuring = e ∙ if-ne measuring 0 _ _ n in
      sym (ap (λ (r : WriteResult). r.answer.refusal)
      (write-refused (state_of ws p) (take (asked ws p).words scratch) (part_of ws p) body m number output measuring is_measuring n)) ∙ sym
      w)

  module _ (z : front_refusal ws p (length bodies) ≡ 0) where
    abbrev zero_of_measuring : measuring ≡ 0
    zero_of_measuring = none_of_measuring ws p (length bodies) z

    whole_body : length body ≡ (asked ws p).bytes
    whole_body = omega (arith, length-take (asked ws p).bytes bodies, body_there ws p (length bodies) z)

    module _ (r : WriteAnswer) (vs os : List ℕ) (q : PacketPut (state_of ws p) (part_of ws p) body m number output r vs os)
        (v : length vs ≡ length (take (asked ws p).words scratch)) (o : length os ≡ length output) where
      done : r.refusal ≡ 0 → record { answer = r; state = vs; scratch = vs; output = os } ≡ left
      unfolding in_front asks
      done e =
          write_done (state_of ws p) (take (asked ws p).words scratch) (part_of ws p) body m number output measuring is_measuring
          zero_of_measuring (asked ws p).bytes sums whole_body r vs os q vs e refl

      no_room : r.refusal ≢ 0 → record { answer = r; state = state_of ws p; scratch = wiped vs; output = wiped os } ≡ left
      unfolding in_front asks
      no_room n =
          write-without_room (state_of ws p) (take (asked ws p).words scratch) (part_of ws p) body m number output measuring is_measuring
          zero_of_measuring (asked ws p).bytes sums whole_body r vs os q (wiped vs) (wiped os) n v o refl refl

      pub put_in_front_lem : PutInFront lists m number r (vs ++ drop (asked ws p).words scratch) os
      unfolding asks
      put_in_front_lem = record {
        answer = on-eq r.refusal 0 (λ e. ap (λ (k : WriteResult). k.answer) (done e)) (λ n. ap (λ (k : WriteResult). k.answer)
            (no_room n));
        scratch_if = λ e. ap (λ (k : WriteResult). k.scratch ++ drop (asked ws p).words scratch) (done e);
        output-if = λ e. ap (λ (k : WriteResult). k.output) (done e);
      }

-- ---- with the sizes that the code has

module _ (ws : List ℕ) (p : Contribution) (bodies : ℕ) (f : Front) (is : FrontIs ws p bodies (Ok f)) where
  pub none_refused : front_refusal ws p bodies ≡ 0
  none_refused = sym is.0

  pub words_asked : f.words ≡ (asked ws p).words
  words_asked = ap (λ (a : Asks). a.words) is.1

  pub blocks-asked : f.blocks ≡ (asked ws p).blocks
  blocks-asked = ap (λ (a : Asks). a.blocks) is.1

  pub passes_asked : f.passes ≡ (asked ws p).passes
  passes_asked = ap (λ (a : Asks). a.passes) is.1

  pub bytes_asked : f.bytes ≡ (asked ws p).bytes
  bytes_asked = ap (λ (a : Asks). a.bytes) is.1

  -- a part from the front on, as the code writes it
  cut : (n k : ℕ) (l : List ℕ) → n ≡ k → take n l ≡ take k l
  cut n k l e = ap (λ (i : ℕ). take i l) e

  pub state_cut : take f.words ws ≡ state_of ws p
  state_cut = cut f.words (asked ws p).words ws words_asked

  pub scratch_cut : (scratch : List ℕ) → take f.words scratch ≡ take (asked ws p).words scratch
  scratch_cut scratch = cut f.words (asked ws p).words scratch words_asked

  pub part_cut : contribution (take f.blocks p.counts) (take f.passes p.lengths) (take f.passes p.marks)
      ≡ part_of ws p
  part_cut = λ i. contribution (cut f.blocks (asked ws p).blocks p.counts blocks-asked i)
      (cut f.passes (asked ws p).passes p.lengths passes_asked i) (cut f.passes (asked ws p).passes p.marks passes_asked i)

  pub body_cut : (body : List ℕ) → take f.bytes body ≡ take (asked ws p).bytes body
  body_cut body = cut f.bytes (asked ws p).bytes body bytes_asked

  pub parts_accepted : (scratch : List ℕ) → length scratch ≡ length ws
      → measure_refusal_for (take f.words ws) (length (take f.words scratch))
      (contribution (take f.blocks p.counts) (take f.passes p.lengths) (take f.passes p.marks)) ≡ 0
  parts_accepted scratch l =
      (λ i. measure_refusal_for (state_cut i) (length (scratch_cut scratch i)) (part_cut i))
      ∙ ap (λ (n : ℕ). measure_refusal_for (state_of ws p) n (part_of ws p))
      (length-take (asked ws p).words scratch ∙ ap (min (asked ws p).words) l ∙ sym (length-take (asked ws p).words ws))
      ∙ none_of_measuring ws p bodies none_refused

module _ (ws : List ℕ) (p : Contribution) (bodies : List ℕ) (f : Front) (is : FrontIs ws p (length bodies) (Ok f))
    (scratch : List ℕ) (l : length scratch ≡ length ws) (m : Markers) (number : ℕ) (output : List ℕ) where
  pub put_parts : (r : WriteAnswer) (vs os : List ℕ)
      → PacketPut (take f.words ws)
      (contribution (take f.blocks p.counts) (take f.passes p.lengths) (take f.passes p.marks))
      (take f.bytes bodies) m number output r vs os
      → length vs ≡ length (take f.words scratch) → length os ≡ length output
      → PutInFront (rest ws scratch p bodies output) m number r (vs ++ drop f.words scratch) os
  put_parts r vs os q v o =
      subst (λ (k : ℕ). PutInFront (rest ws scratch p bodies output) m number r (vs ++ drop k scratch) os) (sym (words_asked ws p (length bodies) f is))
      (put_in_front_lem ws scratch p bodies m number output l (none_refused ws p (length bodies) f is) r vs os
      (subst (λ (b : List ℕ). PacketPut (state_of ws p) (part_of ws p) b m number output r vs os) (body_cut ws p (length bodies) f is
      bodies)
      (subst (λ (x : Contribution). PacketPut (state_of ws p) x (take f.bytes bodies) m number output r vs os)
      (part_cut ws p (length bodies) f is)
      (subst (λ (x : List ℕ). PacketPut x
      (contribution (take f.blocks p.counts) (take f.passes p.lengths) (take f.passes p.marks))
      (take f.bytes bodies) m number output r vs os) (state_cut ws p (length bodies) f is) q)))
      (v ∙ ap length (scratch_cut ws p (length bodies) f is scratch)) o)

-- ---- written

module _ (ws scratch : List ℕ) (p : Contribution) (bodies : List ℕ) (m : Markers) (number : ℕ) (output : List ℕ)
    (l : length scratch ≡ length ws) where
  abbrev lent : Rest
  lent = rest ws scratch p bodies output

  pub refused-as_single : (why : Refusal) (vs os : List ℕ) → FrontIs ws p (length bodies) (Err why)
      → WrittenInFront lent m number (Err why) vs os
  refused-as_single reason vs os is =
      sym (refused-in_front ws scratch p bodies m number output l (number_of reason) is (number-not_0 reason))

  pub written_as_single : (f : Front) → FrontIs ws p (length bodies) (Ok f) → (packet : ℕ) (r : Result ℕ Refusal) (vs os : List ℕ)
      → r ≡ Ok packet → PutInFront lent m number (answer_of r) vs os → WrittenInFront lent m number (Ok (f, packet)) vs os
  unfolding asks
  written_as_single f is packet r vs os e q =
      let z : (answer_of r).refusal ≡ 0 = ap (λ (x : Result ℕ Refusal). (answer_of x).refusal) e in
      record {
        accepted = sym z ∙ ap (λ (a : WriteAnswer). a.refusal) q.answer;
        sizes = is.1;
        bytes = sym (ap (λ (x : Result ℕ Refusal). (answer_of x).bytes) e) ∙ ap (λ (a : WriteAnswer). a.bytes) q.answer;
        scratch = q.scratch_if z;
        output = q.output-if z;
      }
