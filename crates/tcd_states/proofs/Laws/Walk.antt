-- A walk from state to state: what is lent from a place on, and the step to the next one.
use Rattle.std.specs.Prelude.{None, Some}
use mathlib.Core.Path.{◌≡◌, sym, ap, ◌∙◌, subst}
use mathlib.Core.Bool.{true, false, not}
use mathlib.Core.List.{List, [], ◌∷◌}
use Prim.Native.Nat.{ℕ, ◌+◌, ◌-◌, ◌≤◌, ◌<◌}
use native.Mathlib.Numerals.{add-one}
use native.Mathlib.Omega.{arith}
use lib.ListN.{length, take, drop, length-drop, drop_of_length-le}
use lib.Seq.{length-take-le, take_all, get_or-drop}
use Rattle.t800.specs.Base.{Words, any}
use Rattle.t800.specs.State.{reader, bands}
use Rattle.t800.specs.Ranges.{valid_state}
use Rattle.t800.specs.Gathered.{states_in, state_at}
use Rattle.t800_laws.proofs.Laws.Tests.{if-true, if-false, on-lt, drop_head}
use Rattle.t800_laws.proofs.Laws.Checks.{on_bool}
use Rattle.tcd_laws.proofs.Laws.AnyOf.{any_here, any_later}
use Rattle.tcd_state.specs.Front.{words_in_front, unless_0}
use Rattle.tcd_state.proofs.Laws.Front.{no_words, some_words, thirteen_asked, ValidInFront, valid_in_front}
use Rattle.tcd_states.specs.States.{start_of, any_out_of_range, AllValid, counted}
use Rattle.tcd_states.proofs.Laws.Starts.{start-turn, start-further, start-inside}
use Rattle.tcd_states.proofs.Laws.Cuts.{asked, first_state, states_joined, states_from_lem, words_left}
use Rattle.tcd_states.proofs.Laws.Valid.{valid_from}

-- words from a place on, as they are lent
abbrev pub from : ℕ → Words → Words
from at ws = take (length ws - at) (drop at ws)

from_is : (at : ℕ) (ws : Words) → from at ws ≡ drop at ws
from_is at ws = take_all (length ws - at) (drop at ws) (omega (arith, length-drop at ws))

module _ (ws : Words) (place at : ℕ) (here : at ≡ start_of (states_in ws) place) where
  pub states_behind : states_in (from at ws) ≡ drop place (states_in ws)
  states_behind = ap states_in (from_is at ws ∙ ap (λ (k : ℕ). drop k ws) here) ∙ states_from_lem ws place

  pub at_inside : at ≤ length ws
  at_inside = omega (arith, here, start-inside (states_in ws) place, ap length (states_joined ws))

  pub valid_behind : AllValid (states_in ws) → AllValid (states_in (from at ws))
  valid_behind v = subst AllValid (sym states_behind) (valid_from (states_in ws) place v)

  -- the first of these states is the one at the place
  pub first_behind : state_at (states_in (from at ws)) 0 ≡ state_at (states_in ws) place
  first_behind =
      let e : place + 0 ≡ place = omega arith in
      ap (λ (ss : List Words). state_at ss 0) states_behind
      ∙ get_or-drop place (states_in ws) 0 []
      ∙ ap (state_at (states_in ws)) e

  pub one_on : at + length (state_at (states_in (from at ws)) 0) ≡ start_of (states_in ws) (place + 1)
  one_on = omega (arith, here, ap length first_behind, start-turn (states_in ws) place)

  pub so_many_on : (n : ℕ) → at + start_of (states_in (from at ws)) n ≡ start_of (states_in ws) (place + n)
  so_many_on n =
      omega (
        arith,
        here,
        ap (λ (ss : List Words). start_of ss n) states_behind,
        start-further (states_in ws) place n,
      )

  pub nothing_behind : length ws ≤ at → length (states_in ws) ≤ place
  nothing_behind h =
      on-lt place (length (states_in ws)) (λ l. absurd (omega (arith, h, here, words_left ws place l))) (λ l. l)

  -- ---- what is found of the state at the place

  module _ (more : at < length ws) where
    abbrev first : Words
    first = take (asked (from at ws)) (from at ws)

    next : drop place (states_in ws) ≡ first ∷ states_in (drop (asked (from at ws)) (from at ws))
    next =
        sym states_behind
        ∙ first_state (from at ws) (omega (arith, more, ap length (from_is at ws), length-drop at ws))

    pub found_out_of_range : None ≡ unless_0 (words_in_front reader (from at ws))
        → any_out_of_range (drop place (states_in ws)) ≡ true
    unfolding any_out_of_range words_in_front
    found_out_of_range e =
        let n : ℕ = asked (from at ws) in
        let z = no_words (words_in_front reader (from at ws)) e in
        on_bool (valid_state reader first (length first))
        (λ v. absurd (omega (arith, z, if-true (valid_state reader first (length first)) n 0 v, thirteen_asked (bands (from at ws)))))
        (λ f. any_here (λ s. not (valid_state reader s (length s))) _ first _ next (ap not f))

    module _ (words : ℕ) (some : Some words ≡ unless_0 (words_in_front reader (from at ws))) where
      is : (words ≡ words_in_front reader (from at ws)) × (1 ≤ words)
      is = some_words (words_in_front reader (from at ws)) some

      pub some_found : 1 ≤ words
      some_found = is.1

      known : ValidInFront reader (from at ws)
      known = valid_in_front reader (from at ws) (omega (arith, is))

      pub one_left : place < length (states_in ws)
      one_left = (drop_head (states_in ws) place _ _ [] next).0

      pub found_on : at + words ≡ start_of (states_in ws) (place + 1)
      found_on =
          omega (
            arith,
            one_on,
            is.0,
            known.words_are,
            ap (λ (ss : List Words). length (state_at ss 0)) (states_behind ∙ next),
            length-take-le (asked (from at ws)) (from at ws) known.there,
          )

      pub found_in_range : any_out_of_range (drop (place + 1) (states_in ws)) ≡ any_out_of_range (drop place (states_in ws))
      unfolding any_out_of_range
      found_in_range =
          let later : drop (place + 1) (states_in ws) ≡ states_in (drop (asked (from at ws)) (from at ws)) =
          ap (λ (k : ℕ). drop k (states_in ws)) (add-one place) ∙ (drop_head (states_in ws) place _ _ [] next).2 in
          ap (any (λ s. not (valid_state reader s (length s)))) later
          ∙ sym (any_later (λ s. not (valid_state reader s (length s))) _ first _ next (ap not known.valid))

-- ---- how many were found

pub one_out_of_range : (ss : List Words) → any_out_of_range ss ≡ true → None ≡ counted ss
unfolding counted
one_out_of_range ss e = sym (if-true (any_out_of_range ss) _ _ e)

pub all_counted : (ss : List Words) (count : ℕ) → count ≤ length ss → length ss ≤ count
    → any_out_of_range (drop count ss) ≡ any_out_of_range ss → Some count ≡ counted ss
unfolding counted any_out_of_range any
all_counted ss count h l e =
    let none : any_out_of_range ss ≡ false = sym e ∙ ap any_out_of_range (drop_of_length-le ss {i = count} l) in
    let n : count ≡ length ss = omega arith in
    ap Some n ∙ sym (if-false (any_out_of_range ss) _ _ none)
