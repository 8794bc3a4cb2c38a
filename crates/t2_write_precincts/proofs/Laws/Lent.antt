-- The same of the lists as they are lent, from where the packets before end, and back in their place.
use Rattle.std.specs.Prelude.{Ok, Err}
use mathlib.Core.Path.{◌≡◌, sym, ap, ap₂, ◌∙◌, subst}
use mathlib.Core.Logic.{◌≢◌}
use mathlib.Core.List.{List, ◌++◌}
use Prim.Native.Nat.{ℕ, ◌+◌, ◌≤◌, ◌<◌}
use native.Mathlib.Omega.{arith}
use lib.ListN.{length, get_or, set, take, drop, length-drop}
use Rattle.t800.specs.declared.LayerAnswer.{LayerAnswer}
use Rattle.t800.specs.declared.Refusal.{Refusal}
use Rattle.t800.specs.declared.WriteAnswer.{WriteAnswer}
use Rattle.t800.specs.RefusalNumbers.{number_of}
use Rattle.t800.specs.Base.{sum}
use Rattle.t800.specs.WriteHeader.{contribution}
use Rattle.t800.specs.Packet.{write}
use Rattle.t800.specs.Layer.{Rest, LayerCall, LayerResult, none_of_it, write_layer}
use Rattle.whole_layer.specs.SingleCalls.{LooksAtEach, refused_at}
use Rattle.t2_settle_states.specs.Settle.{Settles}
use Rattle.t2_refusal_laws.proofs.Laws.Numbers.{number-not_0}
use Rattle.t2_layer_parts.specs.declared.Front.{Front}
use Rattle.t2_layer_parts.specs.Front.{rest, Written, WrittenInFront}
use Rattle.t2_write_precincts.specs.Layer.{LayerWritten}
use Rattle.t2_write_precincts.proofs.Laws.Lists.{from, from_is, back, back_is, back_length}
use Rattle.t2_write_precincts.proofs.Laws.Along.{left, Along, refused-on_the_way, goes_on}
use Rattle.t2_write_precincts.proofs.Laws.Last.{last_refused, last_leaves, settles, all_fit, all_written}

module _ {states : List ℕ} {c : LayerCall} where
  refused-is : (why place : ℕ) (r : LayerAnswer) (xs us ys : List ℕ) → why ≢ 0 → r ≡ refused_at why place
      → write_layer states c ≡ none_of_it states c (refused_at why place) → xs ≡ states → LayerWritten states c r xs us ys
  refused-is why place r xs us ys n e w x = record {
    answer = e ∙ ap (λ (z : LayerResult). z.answer) (sym w);
    done = λ z. absurd (n (ap (λ (z : LayerAnswer). z.refusal) (sym e) ∙ z));
    states_kept = λ z. x;
  }

  module _ {i word block pass byte end : ℕ} {scratch output words passes : List ℕ}
      (a : Along states c i word block pass byte end scratch output words passes) where
    abbrev lent : Rest
    lent =
        let p = c.contribution in
        rest (from word states) (from word scratch)
        (contribution (from block p.counts) (from pass p.lengths) (from pass p.marks)) (from byte c.bodies) (from end output)

    lent_is : lent ≡ left states c word block pass byte end scratch output
    lent_is =
        let p = c.contribution in
        λ j. rest (from_is word states j) (from_is word scratch j)
        (contribution (from_is block p.counts j) (from_is pass p.lengths j) (from_is pass p.marks j))
        (from_is byte c.bodies j) (from_is end output j)

    pub lent-as_long : length lent.scratch ≡ length lent.states
    lent-as_long =
        omega (
          arith,
          a.as_long,
          ap length (from_is word scratch) ∙ length-drop word scratch,
          ap length (from_is word states) ∙ length-drop word states,
        )

    pub states_length : (vs : List ℕ) → length vs ≡ length lent.states → length (back word states vs) ≡ length states
    states_length vs e = back_length word states vs a.words_in e

    pub scratch_length_lem : (vs : List ℕ) → length vs ≡ length lent.scratch → length (back word scratch vs) ≡ length scratch
    scratch_length_lem vs e = back_length word scratch vs (omega (arith, a.words_in, a.as_long)) e

    pub output-length : (os : List ℕ) → length os ≡ length lent.output → length (back end output os) ≡ length output
    output-length os e = back_length end output os (omega (arith, a.output-in, a.output-as_long)) e

    -- ---- a precinct with others behind it

    module _ (h : i + 1 < length c.numbers) (few : length c.numbers ≤ 16) where
      pub front-refused : LooksAtEach states c → (why : Refusal) (vs os : List ℕ)
          → WrittenInFront lent c.markers (get_or c.numbers i 0) (Err why) vs os
          → (r : LayerAnswer) → r ≡ refused_at (number_of why) i → (us ys : List ℕ) → LayerWritten states c r states us ys
      front-refused k why vs os w r e us ys =
          refused-is (number_of why) i r states us ys (number-not_0 why) e
          (refused-on_the_way states c i word block pass byte end scratch output words passes a h few k (number_of why)
          (subst (λ (l : Rest). WrittenInFront l c.markers (get_or c.numbers i 0) (Err why) vs os) lent_is w) (number-not_0 why))
          (λ j. states)

      pub front-written : (f : Front) (packet : ℕ) (vs os : List ℕ)
          → WrittenInFront lent c.markers (get_or c.numbers i 0) (Ok (f, packet)) vs os
          → length vs ≡ length lent.scratch → length os ≡ length lent.output
          → Along states c (i + 1) (word + f.words) (block + f.blocks) (pass + f.passes) (byte + f.bytes) (end + packet)
          (back word scratch vs) (back end output os) (set words i f.words) (set passes i f.passes)
      front-written f packet vs os w lv lo =
          let ws : List ℕ = set words i f.words in
          let ps : List ℕ = set passes i f.passes in
          let written : Written (left states c word block pass byte end scratch output) c.markers (get_or c.numbers i 0) f packet vs os =
          subst (λ (l : Rest). Written l c.markers (get_or c.numbers i 0) f packet vs os) lent_is w in
          subst (λ (xs : List ℕ). Along states c (i + 1) (word + f.words) (block + f.blocks) (pass + f.passes) (byte + f.bytes)
          (end + packet) xs (back end output os) ws ps) (sym (back_is word scratch vs))
          (subst (λ (ys : List ℕ). Along states c (i + 1) (word + f.words) (block + f.blocks) (pass + f.passes) (byte + f.bytes)
          (end + packet) (take word scratch ++ vs) ys ws ps) (sym (back_is end output os))
          (goes_on states c i word block pass byte end scratch output words passes a h few f packet vs os written
          (lv ∙ ap length (from_is word scratch)) (lo ∙ ap length (from_is end output))))

    -- ---- the last one

    module _ (looks : LooksAtEach states c) (h : i + 1 ≡ length c.numbers) (r : WriteAnswer) (vs us os : List ℕ)
        (w : record { answer = r; state = vs; scratch = us; output = os }
        ≡ write lent.states lent.scratch lent.contribution lent.bodies c.markers (get_or c.numbers i 0) lent.output)
      where
        last_written : record { answer = r; state = vs; scratch = us; output = os }
            ≡ (let l = left states c word block pass byte end scratch output in
            write l.states l.scratch l.contribution l.bodies c.markers (get_or c.numbers i 0) l.output)
        last_written =
            w
            ∙ ap (λ (l : Rest). write l.states l.scratch l.contribution l.bodies c.markers (get_or c.numbers i 0) l.output)
            lent_is

        pub one_refused : r.refusal ≢ 0 → (q : LayerAnswer) → q ≡ refused_at r.refusal i → (ws ys : List ℕ)
            → LayerWritten states c q (back word states vs) ws ys
        one_refused n q e ws ys =
            refused-is r.refusal i q (back word states vs) ws ys n e
            (last_refused states c looks i word block pass byte end scratch output words passes a h r vs us os last_written n)
            (back_is word states vs
            ∙ last_leaves states c looks i word block pass byte end scratch output words passes a h r vs us os last_written n)

        module _ (z : r.refusal ≡ 0) where
          pub last_settles : Settles (take i words) (take i passes) (back word scratch us) (back word states vs)
          last_settles =
              subst (λ (xs : List ℕ). Settles (take i words) (take i passes) xs (back word states vs)) (sym (back_is word scratch us))
              (subst (λ (xs : List ℕ). Settles (take i words) (take i passes) (take word scratch ++ us) xs) (sym (back_is word states vs))
              (settles states c looks i word block pass byte end scratch output words passes a h r vs us os last_written z))

          pub last_fits : length os ≡ length lent.output → end + r.bytes ≤ length c.output
          last_fits e =
              all_fit states c looks i word block pass byte end scratch output words passes a h r vs us os last_written z
              (e ∙ ap length (from_is end output))

          pub layer-written : (xs : List ℕ)
              → xs ≡ take (sum (take i words)) (back word scratch us) ++ drop (sum (take i words)) (back word states vs)
              → LayerWritten states c (record { refusal = 0; place = 0; bytes = end + r.bytes }) xs (back word scratch us) (back end
              output os)
          layer-written xs x =
              let e = all_written states c looks i word block pass byte end scratch output words passes a h r vs us os last_written z xs
              (x
              ∙ ap₂ (λ (p q : List ℕ). take (sum (take i words)) p ++ drop (sum (take i words)) q) (back_is word scratch us)
              (back_is word states vs)) in
              record {
                answer = ap (λ (q : LayerResult). q.answer) e;
                done = λ y.
                    (λ j. record {
                      answer = record { refusal = 0; place = 0; bytes = end + r.bytes };
                      states = xs;
                      scratch = back_is word scratch us j;
                      output = back_is end output os j;
                    })
                    ∙ e;
                states_kept = λ n. absurd (n (λ j. 0));
              }
