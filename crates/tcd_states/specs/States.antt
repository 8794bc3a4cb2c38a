-- States of readers behind one another: how many there are, where each begins, and an index of that.
use Rattle.std.specs.Prelude.{◌≡◌, Bool, true, cond, not, Option, None, Some, List, map, ℕ, ◌+◌, ◌-◌, ◌*◌, ◌≤◌, ◌<◌, length, get_or, take, drop}
use Rattle.t800.specs.Base.{Words, any, sum}
use Rattle.t800.specs.State.{reader}
use Rattle.t800.specs.Ranges.{valid_state}
use Rattle.t800.specs.Gathered.{state_at}
use Rattle.tcd_states.specs.declared.Found.{Found}

-- where the state at a place begins; from the number of states on, where the last one ends
unfoldable pub start_of : List Words → (place : ℕ) → ℕ
start_of ss place = sum (map length (take place ss))

-- refusal 5 is given for one of them
unfoldable pub any_out_of_range : List Words → Bool
any_out_of_range ss = any (λ s. not (valid_state reader s (length s))) ss

-- refusal 5 is given for none of them
pub record AllValid (ss : List Words) : Type 0 where
  pub valid_at : (place : ℕ) → place < length ss → valid_state reader (state_at ss place) (length (state_at ss place)) ≡ true

-- how many there are, if all are valid
unfoldable pub counted : List Words → Option ℕ
counted ss = cond (any_out_of_range ss) None (Some (length ss))

-- entry i is where the state at place i × stride begins, and there are entries enough for all states
pub record Indexed (ss : List Words) (stride : ℕ) (starts : List ℕ) : Type 0 where
  pub some : 1 ≤ stride
  pub enough : length ss ≤ length starts * stride
  pub entry_at : (i : ℕ) → i * stride < length ss → get_or starts i 0 ≡ start_of ss (i * stride)

-- the words of a state that was found
abbrev pub words_at : Found → (words : Words) → Words
words_at f words = take (f.start + f.words - f.start) (drop f.start words)
