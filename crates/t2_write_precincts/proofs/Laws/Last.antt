-- The last precinct of a layer, and all states settled behind it.
use mathlib.Core.Path.{◌≡◌, refl, sym, ap, ap₂, ◌∙◌, subst}
use mathlib.Core.Logic.{◌≢◌}
use mathlib.Core.List.{List, [], ◌∷◌, ◌++◌, map, flat_map, append_assoc}
use Prim.Native.Nat.{ℕ, suc, ◌+◌, ◌≤◌, ◌<◌}
use native.Mathlib.Numerals.{add-one}
use native.Mathlib.Omega.{arith}
use lib.ListN.{length, get_or, set, take, drop, length-drop, length-append, take-append-drop, drop_of_length-le}
use lib.Seq.{drop-cons, drop-drop, take_at, drop_at}
use Rattle.t800.specs.declared.WriteAnswer.{WriteAnswer}
use Rattle.t800.specs.Base.{sum, overwrite}
use Rattle.t800.specs.State.{layer}
use Rattle.t800.specs.Packet.{WriteResult, write}
use Rattle.t800.specs.Layer.{Rest, LayerCall, Single, single, wrote, packet_of, singles, packets, singles_of, none_of_it, write_layer}
use Rattle.t800_laws.proofs.Laws.StateAfter.{refused-write_leaves_state}
use Rattle.whole_layer.specs.SingleCalls.{AllAccepted, LooksAtEach, refused_at}
use Rattle.whole_layer.proofs.Refusals.{refused-here, accepted_here}
use Rattle.whole_layer.proofs.Cuts.{fits, thirteen, state_kept}
use Rattle.whole_layer.proofs.SingleCalls.{bytes_are, output-is}
use Rattle.t2_settle_states.specs.Settle.{Settles}
use Rattle.t2_write_precincts.proofs.Laws.Lists.{place_is, as_parts, joined}
use Rattle.t2_write_precincts.proofs.Laws.Front.{left_same, layer-alone, words_of, passes_of}
use Rattle.t2_write_precincts.proofs.Laws.Along.{accepted_one_more, left, Along, states_front, scratch_front, output-front}

-- ---- accepted calls, one after another

all_same : (ts : List Single) → AllAccepted ts → flat_map (λ s. (wrote s).state) ts ≡ flat_map (λ s. (wrote s).scratch) ts
unfolding flat_map
all_same [] h = refl
all_same (t ∷ ts) h = ap₂ (λ (xs ys : List ℕ). xs ++ ys) (left_same t h.0) (all_same ts h.1)

scratch_as_state : (t : Single) → (wrote t).answer.refusal ≡ 0 → length (wrote t).scratch ≡ length t.state
scratch_as_state t e = ap length (sym (left_same t e)) ∙ state_kept t (fits t e)

words_of_all : (ts : List Single) → sum (map words_of ts) ≡ length (flat_map (λ s. s.state) ts)
unfolding flat_map sum
words_of_all [] = refl
words_of_all (t ∷ ts) =
    ap (λ (n : ℕ). length t.state + n) (words_of_all ts) ∙ sym (length-append t.state (flat_map (λ s. s.state) ts))

settle_all : (ts : List Single) → AllAccepted ts → (xs ys : List ℕ)
    → Settles (map words_of ts) (map passes_of ts) (flat_map (λ s. (wrote s).scratch) ts ++ xs) (flat_map (λ s. s.state) ts ++ ys)
unfolding flat_map
settle_all [] h xs ys = tt
settle_all (t ∷ ts) h xs ys =
    let n : ℕ = length t.state in
    let after : List ℕ = (wrote t).scratch in
    let us : List ℕ = flat_map (λ s. (wrote s).scratch) ts ++ xs in
    let vs : List ℕ = flat_map (λ s. s.state) ts ++ ys in
    let u = append_assoc after (flat_map (λ s. (wrote s).scratch) ts) xs in
    let v = append_assoc t.state (flat_map (λ s. s.state) ts) ys in
    let front : take n ((t.state ++ flat_map (λ s. s.state) ts) ++ ys) ≡ t.state = ap (take n) v ∙ take_at t.state vs n refl in (
      thirteen t.state (fits t h.0).complete,
      omega (arith, ap length v ∙ length-append t.state vs),
      λ z. ap (take n) u ∙ take_at after us n (scratch_as_state t h.0) ∙ layer-alone t h.0 z
          ∙ ap (λ (ws : List ℕ). set ws 3 (layer ws + 1)) (sym front),
      subst (λ (ws : List ℕ). Settles (map words_of ts) (map passes_of ts) ws (drop n ((t.state ++ flat_map (λ s. s.state) ts) ++ ys)))
          (sym (ap (drop n) u ∙ drop_at after us n (scratch_as_state t h.0)))
          (subst (λ (ws : List ℕ). Settles (map words_of ts) (map passes_of ts) us ws) (sym (ap (drop n) v ∙ drop_at t.state vs n refl))
          (settle_all ts h.1 xs ys)),
    )

-- ---- the last one

module _ (states : List ℕ) (c : LayerCall) (looks : LooksAtEach states c) (i word block pass byte end : ℕ)
    (scratch output words passes : List ℕ) (a : Along states c i word block pass byte end scratch output words passes)
    (h : i + 1 ≡ length c.numbers) where
  abbrev ss : List Single
  ss = singles_of states c

  abbrev l : Rest
  l = left states c word block pass byte end scratch output

  abbrev s : Single
  s = single c.markers (get_or c.numbers i 0) l

  last_here : drop i ss ≡ s ∷ []
  unfolding singles
  last_here =
      let k : i < length c.numbers = omega arith in
      let k' : length c.numbers ≤ suc i = omega (arith, add-one i) in
      a.here
      ∙ ap (λ (ns : List ℕ). singles c.markers ns l)
      (drop-cons c.numbers i 0 k ∙ ap (λ (xs : List ℕ). get_or c.numbers i 0 ∷ xs) (drop_of_length-le c.numbers k'))

  parts : ss ≡ take i ss ++ (s ∷ [])
  parts = as_parts ss i s [] last_here

  module _ (r : WriteAnswer) (vs us os : List ℕ) (w : record { answer = r; state = vs; scratch = us; output = os }
      ≡ write l.states l.scratch l.contribution l.bodies c.markers (get_or c.numbers i 0) l.output) where
    number_is : r.refusal ≡ (wrote s).answer.refusal
    number_is = ap (λ (x : WriteResult). x.answer.refusal) w

    module _ (n : r.refusal ≢ 0) where
      no : (wrote s).answer.refusal ≢ 0
      no e = n (number_is ∙ e)

      pub last_refused : write_layer states c ≡ none_of_it states c (refused_at r.refusal i)
      last_refused =
          refused-here states c looks (take i ss) [] s (parts, a.none_refused) no
          ∙ ap₂ (λ (why place : ℕ). none_of_it states c (refused_at why place)) (sym number_is) (place_is ss i s [] last_here)

      pub last_leaves : take word states ++ vs ≡ states
      last_leaves =
          ap (λ (xs : List ℕ). take word states ++ xs)
          (ap (λ (x : WriteResult). x.state) w
          ∙ refused-write_leaves_state l.states l.scratch l.contribution l.bodies c.markers (get_or c.numbers i 0)
          l.output no)
          ∙ take-append-drop word states

    module _ (z : r.refusal ≡ 0) where
      ok : (wrote s).answer.refusal ≡ 0
      ok = sym number_is ∙ z

      all : AllAccepted ss
      all = subst AllAccepted (sym parts) (accepted_one_more (take i ss) s a.none_refused ok)

      pub settles : Settles (take i words) (take i passes) (take word scratch ++ us) (take word states ++ vs)
      settles =
          let ts : List Single = take i ss in
          subst (λ (ns : List ℕ). Settles ns (take i passes) (take word scratch ++ us) (take word states ++ vs)) (sym a.words_of_each)
          (subst (λ (ns : List ℕ). Settles (map words_of ts) ns (take word scratch ++ us) (take word states ++ vs))
          (sym a.passes_of_each)
          (subst (λ (xs : List ℕ). Settles (map words_of ts) (map passes_of ts) (xs ++ us) (take word states ++ vs)) (sym a.scratch_is)
          (subst (λ (xs : List ℕ). Settles (map words_of ts) (map passes_of ts) (flat_map (λ t. (wrote t).scratch) ts ++ us) (xs ++ vs))
          (sym a.states_are) (settle_all ts a.none_refused us vs))))

      words_are : sum (take i words) ≡ word
      words_are =
          ap sum a.words_of_each ∙ words_of_all (take i ss) ∙ ap length (sym a.states_are) ∙ states_front states c a

      out : os ≡ packet_of s ++ drop (length (packet_of s)) l.output
      out = ap (λ (x : WriteResult). x.output) w ∙ output-is s ok

      bytes_of_last : r.bytes ≡ length (packet_of s)
      bytes_of_last = ap (λ (x : WriteResult). x.answer.bytes) w ∙ bytes_are s ok

      all_packets : take end output ++ packet_of s ≡ packets ss
      all_packets = joined packet_of ss (take i ss) s parts (take end output) (packet_of s) a.output-is refl

      bytes : end + r.bytes ≡ length (packets ss)
      bytes =
          omega (arith, ap length (sym all_packets) ∙ length-append (take end output) (packet_of s), output-front states c a, bytes_of_last)

      pub all_fit : length os ≡ length l.output → end + r.bytes ≤ length c.output
      all_fit e =
          omega (
            arith,
            e,
            bytes_of_last,
            ap length out ∙ length-append (packet_of s) (drop (length (packet_of s)) l.output),
            length-drop (length (packet_of s)) l.output,
            length-drop end output,
            a.output-as_long,
            a.output-in,
          )

      whole_output : take end output ++ os ≡ overwrite c.output (packets ss)
      unfolding overwrite
      whole_output =
          ap (λ (xs : List ℕ). take end output ++ xs) out
          ∙ sym (append_assoc (take end output) (packet_of s) (drop (length (packet_of s)) l.output))
          ∙ ap₂ (λ (xs ys : List ℕ). xs ++ ys) all_packets
          (ap (drop (length (packet_of s))) a.output-behind
          ∙ drop-drop (length (packet_of s)) end c.output
          ∙ ap (λ (n : ℕ). drop n c.output) (ap (λ (n : ℕ). end + n) (sym bytes_of_last) ∙ bytes))

      pub all_written : (xs : List ℕ)
          → xs ≡ take (sum (take i words)) (take word scratch ++ us) ++ drop (sum (take i words)) (take word states ++ vs)
          → record {
            answer = record { refusal = 0; place = 0; bytes = end + r.bytes };
            states = xs;
            scratch = take word scratch ++ us;
            output = take end output ++ os;
          } ≡ write_layer states c
      all_written xs x =
          let settled : xs ≡ flat_map (λ t. (wrote t).state) ss =
          x ∙ ap (λ (n : ℕ). take n (take word scratch ++ us) ++ drop n (take word states ++ vs)) words_are
          ∙ ap₂ (λ (p q : List ℕ). p ++ q) (take_at (take word scratch) us word (scratch_front states c a))
          (drop_at (take word states) vs word (states_front states c a))
          ∙ joined (λ t. (wrote t).state) ss (take i ss) s parts (take word scratch) vs
          (a.scratch_is ∙ sym (all_same (take i ss) a.none_refused))
          (ap (λ (q : WriteResult). q.state) w) in
          let put : take word scratch ++ us ≡ flat_map (λ t. (wrote t).scratch) ss =
          joined (λ t. (wrote t).scratch) ss (take i ss) s parts (take word scratch) us a.scratch_is
          (ap (λ (q : WriteResult). q.scratch) w) in
          (λ j. record {
            answer = record { refusal = 0; place = 0; bytes = bytes j };
            states = settled j;
            scratch = put j;
            output = whole_output j;
          })
          ∙ sym (accepted_here states c looks.0 looks.1 all)
