-- A state in a scratch of states that were moved on: found where it was before, since each stays as long.
use mathlib.Core.Path.{◌≡◌, sym, ap, ◌∙◌, subst}
use mathlib.Core.Bool.{true}
use mathlib.Core.List.{List, flat_map}
use Prim.Native.Nat.{ℕ, ◌+◌, ◌-◌, ◌<◌, ◌≤◌}
use native.Mathlib.Omega.{arith}
use lib.ListN.{length, take, drop}
use Rattle.t800.specs.Base.{Words}
use Rattle.t800.specs.State.{reader}
use Rattle.t800.specs.Ranges.{valid_state}
use Rattle.t800.specs.Gathered.{state_at}
use Rattle.tcd_states.specs.declared.Found.{Found}
use Rattle.tcd_states.specs.States.{start_of, AllValid, words_at}
use Rattle.tcd_states.proofs.Laws.Starts.{start-turn, state_inside, words_of_state}

module _ (ss moved : List Words) (starts : (place : ℕ) → start_of moved place ≡ start_of ss place) (place : ℕ) (f : Found)
    (start_is : f.start ≡ start_of ss place) (words_is : f.words ≡ length (state_at ss place)) where
  pub start-kept : f.start ≡ start_of moved place
  start-kept = start_is ∙ sym (starts place)

  pub words_kept : f.words ≡ length (state_at moved place)
  words_kept =
      omega (arith, words_is, start-turn ss place, start-turn moved place, starts place, starts (place + 1))

  module _ (ws : Words) (are : ws ≡ flat_map (λ s. s) moved) (there : place < length moved) where
    pub in_scratch : f.start + f.words ≤ length ws
    in_scratch = omega (arith, start-kept, words_kept, state_inside moved place there, ap length are)

    pub words_are : words_at f ws ≡ state_at moved place
    words_are =
        let n : f.start + f.words - f.start ≡ length (state_at moved place) = omega (arith, words_kept) in
        ap (λ (j : ℕ). take j (drop f.start ws)) n
        ∙ ap (λ (j : ℕ). take (length (state_at moved place)) (drop j ws)) start-kept
        ∙ ap (λ (l : Words). take (length (state_at moved place)) (drop (start_of moved place) l)) are
        ∙ words_of_state moved place there

    pub words_valid : AllValid moved → valid_state reader (words_at f ws) (length (words_at f ws)) ≡ true
    words_valid v = subst (λ (s : Words). valid_state reader s (length s) ≡ true) (sym words_are) (v.valid_at place there)
