-- The state in front of a list of states.
use Rattle.std.specs.Prelude.{ℕ, zero, suc, Option, None, Some, cond, length, take}
use Rattle.t800.specs.Base.{Words}
use Rattle.t800.specs.State.{bands, state_length}
use Rattle.t800.specs.Ranges.{valid_state}

-- as many words as its first words ask, where these are a state that refusal 5 lets pass; else 0
unfoldable pub words_in_front : (role : ℕ) (states : Words) → ℕ
words_in_front role states =
    let n = state_length (bands states) in
    let state = take n states in
    cond (valid_state role state (length state)) n 0

-- as the code says it: no words are `None`
abbrev pub unless_0 : ℕ → Option ℕ
unless_0 zero = None
unless_0 (suc n) = Some (suc n)
