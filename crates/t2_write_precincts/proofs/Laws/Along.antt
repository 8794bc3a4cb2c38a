-- A layer on its way: what stands in the lists when so many precincts are written, and one more.
use mathlib.Core.Path.{◌≡◌, refl, sym, ap, ap₂, ◌∙◌, subst}
use mathlib.Core.Logic.{◌≢◌}
use mathlib.Core.List.{List, [], ◌∷◌, ◌++◌, map, flat_map, map-append}
use Prim.Native.Nat.{ℕ, suc, ◌+◌, ◌≤◌, ◌<◌}
use native.Mathlib.Numerals.{add-one}
use native.Mathlib.Omega.{arith}
use lib.ListN.{length, get_or, set, take, drop, length-drop, length-set, length-append}
use lib.Seq.{length-take-le, drop-cons, drop-drop, take-add, take_at, drop_at, take-append-add, drop-append-add, take-suc-set}
use Rattle.t800.specs.declared.Markers.{Markers}
use Rattle.t800.specs.WriteHeader.{contribution}
use Rattle.t800.specs.Layer.{Rest, LayerCall, in_front, behind, Single, single, wrote, packet_of, singles, packets, singles_of}
use Rattle.t800.specs.Layer.{none_of_it, write_layer}
use Rattle.whole_layer.specs.SingleCalls.{AllAccepted, LooksAtEach, refused_at}
use Rattle.whole_layer.proofs.Refusals.{refused-here}
use Rattle.t2_layer_parts.specs.declared.Front.{Front}
use Rattle.t2_layer_parts.specs.Front.{rest, Written}
use Rattle.t2_write_precincts.proofs.Laws.Lists.{one_more, without_it, place_is, as_parts, joined}
use Rattle.t2_write_precincts.proofs.Laws.Front.{accepted, words_asked, blocks-asked, passes_asked, bytes_asked, states_there}
use Rattle.t2_write_precincts.proofs.Laws.Front.{counts_there, lengths_there, marks_there, bodies_there, end_is, output-then}
use Rattle.t2_write_precincts.proofs.Laws.Front.{room_there, state_cut, scratch_length_lem, words_of, words_are, passes_of, passes_are}

pub accepted_one_more : (ss : List Single) (s : Single) → AllAccepted ss → (wrote s).answer.refusal ≡ 0 → AllAccepted (ss ++ (s ∷ []))
accepted_one_more [] s h e = (e, tt)
accepted_one_more (r ∷ ss) s h e = (h.0, accepted_one_more ss s h.1 e)

module _ (states : List ℕ) (c : LayerCall) where
  abbrev ss : List Single
  ss = singles_of states c

  -- what is left of the lists behind so many words, blocks, passes, body bytes and bytes of the output
  abbrev pub left : (word block pass byte end : ℕ) (scratch output : List ℕ) → Rest
  left word block pass byte end scratch output =
      let p = c.contribution in
      rest (drop word states) (drop word scratch)
      (contribution (drop block p.counts) (drop pass p.lengths) (drop pass p.marks)) (drop byte c.bodies) (drop end output)

  -- i precincts are written, and none of them is refused
  pub record Along (i word block pass byte end : ℕ) (scratch output words passes : List ℕ) : Type 0 where
    pub here : drop i ss ≡ singles c.markers (drop i c.numbers) (left word block pass byte end scratch output)
    pub none_refused : AllAccepted (take i ss)
    pub states_are : take word states ≡ flat_map (λ s. s.state) (take i ss)
    pub scratch_is : take word scratch ≡ flat_map (λ s. (wrote s).scratch) (take i ss)
    pub output-is : take end output ≡ packets (take i ss)
    pub output-behind : drop end output ≡ drop end c.output
    pub words_of_each : take i words ≡ map words_of (take i ss)
    pub passes_of_each : take i passes ≡ map passes_of (take i ss)
    pub sixteen_words : length words ≡ 16
    pub sixteen_passes : length passes ≡ 16
    pub as_long : length scratch ≡ length states
    pub output-as_long : length output ≡ length c.output
    pub words_in : word ≤ length states
    pub counts_in : block ≤ length c.contribution.counts
    pub lengths_in : pass ≤ length c.contribution.lengths
    pub marks_in : pass ≤ length c.contribution.marks
    pub bodies_in : byte ≤ length c.bodies
    pub output-in : end ≤ length c.output

  pub begins : length c.scratch ≡ length states → (words passes : List ℕ) → length words ≡ 16 → length passes ≡ 16
      → Along 0 0 0 0 0 0 c.scratch c.output words passes
  unfolding flat_map
  begins e words passes w p = record {
    here = refl;
    none_refused = tt;
    states_are = refl;
    scratch_is = refl;
    output-is = refl;
    output-behind = refl;
    words_of_each = refl;
    passes_of_each = refl;
    sixteen_words = w;
    sixteen_passes = p;
    as_long = e;
    output-as_long = refl;
    words_in = omega arith;
    counts_in = omega arith;
    lengths_in = omega arith;
    marks_in = omega arith;
    bodies_in = omega arith;
    output-in = omega arith;
  }

  -- ---- the parts that are written

  module _ {i word block pass byte end : ℕ} {scratch output words passes : List ℕ}
      (a : Along i word block pass byte end scratch output words passes) where
    pub states_front : length (take word states) ≡ word
    states_front = length-take-le word states a.words_in

    pub scratch_front : length (take word scratch) ≡ word
    scratch_front = length-take-le word scratch (omega (arith, a.as_long, a.words_in))

    pub output-front : length (take end output) ≡ end
    output-front = length-take-le end output (omega (arith, a.output-as_long, a.output-in))

  -- ---- a precinct with others behind it

  module _ (i word block pass byte end : ℕ) (scratch output words passes : List ℕ)
      (a : Along i word block pass byte end scratch output words passes) (h : i + 1 < length c.numbers)
      (few : length c.numbers ≤ 16) where
    abbrev number : ℕ
    number = get_or c.numbers i 0

    abbrev l : Rest
    l = left word block pass byte end scratch output

    abbrev first : Single
    first = single c.markers number (in_front l)

    abbrev others : List Single
    others = singles c.markers (drop (i + 1) c.numbers) (behind l (length (packet_of first)))

    first_here : drop i ss ≡ first ∷ others
    unfolding singles
    first_here =
        let k : i < length c.numbers = omega arith in
        let k' : suc i < length c.numbers = omega (arith, add-one i) in
        let e : drop i c.numbers ≡ number ∷ get_or c.numbers (suc i) 0 ∷ drop (suc (suc i)) c.numbers =
        drop-cons c.numbers i 0 k ∙ ap (λ (xs : List ℕ). number ∷ xs) (drop-cons c.numbers (suc i) 0 k') in
        let d : drop (i + 1) c.numbers ≡ get_or c.numbers (suc i) 0 ∷ drop (suc (suc i)) c.numbers =
        ap (λ (n : ℕ). drop n c.numbers) (add-one i) ∙ drop-cons c.numbers (suc i) 0 k' in
        a.here
        ∙ ap (λ (ns : List ℕ). singles c.markers ns l) e
        ∙ ap (λ (ns : List ℕ). first ∷ singles c.markers ns (behind l (length (packet_of first)))) (sym d)

    pub refused-on_the_way : LooksAtEach states c → (why : ℕ) → why ≡ (wrote first).answer.refusal → why ≢ 0
        → write_layer states c ≡ none_of_it states c (refused_at why i)
    refused-on_the_way k why w n =
        refused-here states c k (take i ss) others first (as_parts ss i first others first_here, a.none_refused)
        (λ e. n (w ∙ e))
        ∙ ap₂ (λ (z place : ℕ). none_of_it states c (refused_at z place)) (sym w) (place_is ss i first others first_here)

    module _ (f : Front) (packet : ℕ) (vs os : List ℕ) (w : Written l c.markers number f packet vs os) (lv : length vs ≡ length l.scratch) (lo : length os ≡ length l.output) where
      abbrev m : Markers
      m = c.markers

      abbrev scratch_then_lem : List ℕ
      scratch_then_lem = take word scratch ++ vs

      abbrev output-now : List ℕ
      output-now = take end output ++ os

      scratch_lent : vs ≡ (wrote first).scratch ++ drop f.words l.scratch
      scratch_lent = w.scratch
          ∙ ap (λ (k : ℕ). (wrote first).scratch ++ drop k l.scratch) (sym (words_asked l m number f packet vs os w))

      in_front_lem : take f.words vs ≡ (wrote first).scratch
      in_front_lem =
          ap (take f.words) scratch_lent
          ∙ take_at (wrote first).scratch (drop f.words l.scratch) f.words (scratch_length_lem l m number f packet vs os w)

      scratch_behind : drop f.words vs ≡ drop f.words l.scratch
      scratch_behind =
          ap (drop f.words) scratch_lent
          ∙ drop_at (wrote first).scratch (drop f.words l.scratch) f.words (scratch_length_lem l m number f packet vs os w)

      packet-in_front : take packet os ≡ packet_of first
      packet-in_front =
          ap (take packet) (output-then l m number f packet vs os w)
          ∙ take_at (packet_of first) (drop (length (packet_of first)) l.output) packet (sym (end_is l m number f packet vs os w))

      packet-behind : drop packet os ≡ drop (length (packet_of first)) l.output
      packet-behind =
          ap (drop packet) (output-then l m number f packet vs os w)
          ∙ drop_at (packet_of first) (drop (length (packet_of first)) l.output) packet (sym (end_is l m number f packet vs os w))

      -- the lists from a place on, in both ways
      further : (n k : ℕ) (xs : List ℕ) → drop (n + k) xs ≡ drop k (drop n xs)
      further n k xs = sym (drop-drop k n xs)

      further_scratch : drop (word + f.words) scratch_then_lem ≡ drop f.words vs
      further_scratch =
          ap (λ (n : ℕ). drop (n + f.words) scratch_then_lem) (sym (scratch_front a)) ∙ drop-append-add (take word scratch) vs f.words

      further_output : drop (end + packet) output-now ≡ drop packet os
      further_output =
          ap (λ (n : ℕ). drop (n + packet) output-now) (sym (output-front a)) ∙ drop-append-add (take end output) os packet

      left_then : left (word + f.words) (block + f.blocks) (pass + f.passes) (byte + f.bytes) (end + packet) scratch_then_lem output-now
          ≡ behind l (length (packet_of first))
      unfolding behind
      left_then =
          let p = c.contribution in
          λ j. rest
          ((further word f.words states ∙ ap (λ (n : ℕ). drop n (drop word states)) (words_asked l m number f packet vs os w)) j)
          ((further_scratch ∙ scratch_behind ∙ ap (λ (n : ℕ). drop n (drop word scratch)) (words_asked l m number f packet vs os w)) j)
          (contribution
          ((further block f.blocks p.counts
          ∙ ap (λ (n : ℕ). drop n (drop block p.counts)) (blocks-asked l m number f packet vs os w)) j)
          ((further pass f.passes p.lengths
          ∙ ap (λ (n : ℕ). drop n (drop pass p.lengths)) (passes_asked l m number f packet vs os w)) j)
          ((further pass f.passes p.marks
          ∙ ap (λ (n : ℕ). drop n (drop pass p.marks)) (passes_asked l m number f packet vs os w)) j))
          ((further byte f.bytes c.bodies
          ∙ ap (λ (n : ℕ). drop n (drop byte c.bodies)) (bytes_asked l m number f packet vs os w)) j)
          ((further_output ∙ packet-behind) j)

      one : take (i + 1) ss ≡ take i ss ++ (first ∷ [])
      one = one_more ss i first others first_here

      -- a list that has a number of each precinct, with one more
      one_more_of : (of : Single → ℕ) (ns : List ℕ) → length ns ≡ 16 → take i ns ≡ map of (take i ss) → (n : ℕ) → n ≡ of first
          → take (i + 1) (set ns i n) ≡ map of (take (i + 1) ss)
      one_more_of of ns sixteen before n is =
          ap (λ (k : ℕ). take k (set ns i n)) (add-one i)
          ∙ take-suc-set ns i n (omega (arith, sixteen, h, few))
          ∙ ap₂ (λ (xs : List ℕ) (x : ℕ). xs ++ (x ∷ [])) before is
          ∙ sym (map-append of (take i ss) (first ∷ []))
          ∙ ap (map of) (sym one)

      pub goes_on : Along (i + 1) (word + f.words) (block + f.blocks) (pass + f.passes) (byte + f.bytes) (end + packet) scratch_then_lem
          output-now (set words i f.words) (set passes i f.passes)
      goes_on = record {
        here = without_it ss i first others first_here
            ∙ ap (singles m (drop (i + 1) c.numbers)) (sym left_then);
        none_refused = subst AllAccepted (sym one)
            (accepted_one_more (take i ss) first a.none_refused (accepted l m number f packet vs os w));
        states_are = take-add word f.words states
            ∙ joined (λ s. s.state) (take (i + 1) ss) (take i ss) first one (take word states) (take f.words (drop word states))
            a.states_are
            (state_cut l m number f packet vs os w);
        scratch_is = ap (λ (n : ℕ). take (n + f.words) scratch_then_lem) (sym (scratch_front a))
            ∙ take-append-add (take word scratch) vs f.words
            ∙ joined (λ s. (wrote s).scratch) (take (i + 1) ss) (take i ss) first one (take word scratch) (take f.words vs)
            a.scratch_is in_front_lem;
        output-is = ap (λ (n : ℕ). take (n + packet) output-now) (sym (output-front a))
            ∙ take-append-add (take end output) os packet
            ∙ joined packet_of (take (i + 1) ss) (take i ss) first one (take end output) (take packet os) a.output-is packet-in_front;
        output-behind = further_output ∙ packet-behind
            ∙ ap (λ (n : ℕ). drop n (drop end output)) (sym (end_is l m number f packet vs os w))
            ∙ ap (drop packet) a.output-behind
            ∙ drop-drop packet end c.output;
        words_of_each = one_more_of words_of words a.sixteen_words a.words_of_each f.words (words_are l m number f packet vs os w);
        passes_of_each = one_more_of passes_of passes a.sixteen_passes a.passes_of_each f.passes
            (passes_are l m number f packet vs os w);
        sixteen_words = length-set words i _ ∙ a.sixteen_words;
        sixteen_passes = length-set passes i _ ∙ a.sixteen_passes;
        as_long = omega (
          arith,
          length-append (take word scratch) vs,
          scratch_front a,
          lv,
          length-drop word scratch,
          a.as_long,
          a.words_in,
        );
        output-as_long = omega (
          arith,
          length-append (take end output) os,
          output-front a,
          lo,
          length-drop end output,
          a.output-as_long,
          a.output-in,
        );
        words_in = omega (arith, states_there l m number f packet vs os w, length-drop word states, a.words_in);
        counts_in = omega (arith, counts_there l m number f packet vs os w, length-drop block c.contribution.counts, a.counts_in);
        lengths_in = omega (arith, lengths_there l m number f packet vs os w, length-drop pass c.contribution.lengths, a.lengths_in);
        marks_in = omega (arith, marks_there l m number f packet vs os w, length-drop pass c.contribution.marks, a.marks_in);
        bodies_in = omega (arith, bodies_there l m number f packet vs os w, length-drop byte c.bodies, a.bodies_in);
        output-in = omega (
          arith,
          room_there l m number f packet vs os w lo,
          length-drop end output,
          a.output-as_long,
          a.output-in,
        );
      }
