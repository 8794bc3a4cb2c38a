-- The states that a list of words is cut into.
use mathlib.Core.Path.{◌≡◌, refl, sym, ap, ◌∙◌}
use mathlib.Core.Logic.{◌≢◌}
use mathlib.Core.List.{List, [], ◌∷◌, ◌++◌, flat_map}
use Prim.Native.Nat.{ℕ, zero, suc, ◌≤◌, ◌<◌}
use native.Mathlib.Nat.{le_refl}
use native.Mathlib.Omega.{arith}
use lib.ListN.{length, take, drop, length-take, length-drop, take-append-drop, drop_of_length-le}
use lib.Seq.{drop-drop}
use Rattle.t800.specs.Base.{Words, sum}
use Rattle.t800.specs.State.{bands, state_length}
use Rattle.t800.specs.Gathered.{states_from, states_in, state_at}
use Rattle.t800_laws.proofs.Laws.Lists.{no_elements}
use Rattle.t800_laws.proofs.Laws.Tests.{if-eq, if-ne, on-eq, on-le, drop_head}
use Rattle.tcd_state.proofs.Laws.Front.{thirteen_asked}
use Rattle.tcd_states.specs.States.{start_of}
use Rattle.tcd_states.proofs.Laws.Starts.{joined}

-- ---- the first one, and then the others

-- how many words it asks for
abbrev pub asked : Words → ℕ
asked ws = state_length (bands ws)

none_left : (bound : ℕ) (ws : Words) → length ws ≡ 0 → states_from bound ws ≡ []
unfolding states_from
none_left zero ws e = refl
none_left (suc bound) ws e = if-eq (length ws) 0 [] (take (asked ws) ws ∷ states_from bound (drop (asked ws) ws)) e

one_more : (bound : ℕ) (ws : Words) → length ws ≢ 0
    → states_from (suc bound) ws ≡ take (asked ws) ws ∷ states_from bound (drop (asked ws) ws)
unfolding states_from
one_more bound ws h = if-ne (length ws) 0 [] (take (asked ws) ws ∷ states_from bound (drop (asked ws) ws)) h

fewer_behind : (ws : Words) (bound : ℕ) → length ws ≤ suc bound → length (drop (asked ws) ws) ≤ bound
fewer_behind ws bound h = omega (arith, length-drop (asked ws) ws, thirteen_asked (bands ws))

-- any bound that is large enough will do
bound_enough : (b c : ℕ) (ws : Words) → length ws ≤ b → length ws ≤ c → states_from b ws ≡ states_from c ws
bound_enough zero c ws h k = none_left zero ws (omega arith) ∙ sym (none_left c ws (omega arith))
bound_enough (suc b) zero ws h k = none_left (suc b) ws (omega arith) ∙ sym (none_left zero ws (omega arith))
bound_enough (suc b) (suc c) ws h k =
    on-eq (length ws) 0 (λ z. none_left (suc b) ws z ∙ sym (none_left (suc c) ws z))
    (λ n. one_more b ws n
    ∙ ap (λ (ss : List Words). take (asked ws) ws ∷ ss)
    (bound_enough b c (drop (asked ws) ws) (fewer_behind ws b h) (fewer_behind ws c k))
    ∙ sym (one_more c ws n))

pub no_states : (ws : Words) → length ws ≡ 0 → states_in ws ≡ []
unfolding states_in
no_states ws e = none_left (length ws) ws e

pub first_state : (ws : Words) → 1 ≤ length ws → states_in ws ≡ take (asked ws) ws ∷ states_in (drop (asked ws) ws)
unfolding states_in
first_state ws h =
    let rest : Words = drop (asked ws) ws in
    bound_enough (length ws) (suc (length ws)) ws (omega arith) (omega arith)
    ∙ one_more (length ws) ws (omega arith)
    ∙ ap (λ (ss : List Words). take (asked ws) ws ∷ ss)
    (bound_enough (length ws) (length rest) rest (fewer_behind ws (length ws) (omega arith)) (le_refl (length rest)))

-- ---- all of them

all_from : (bound : ℕ) (ws : Words) → length ws ≤ bound → joined (states_from bound ws) ≡ ws
unfolding flat_map
all_from zero ws h = ap joined (none_left zero ws (omega arith)) ∙ sym (no_elements ws (omega arith))
all_from (suc bound) ws h =
    on-eq (length ws) 0 (λ z. ap joined (none_left (suc bound) ws z) ∙ sym (no_elements ws z))
    (λ n. ap joined (one_more bound ws n)
    ∙ ap (λ (l : Words). take (asked ws) ws ++ l) (all_from bound (drop (asked ws) ws) (fewer_behind ws bound h))
    ∙ take-append-drop (asked ws) ws)

pub states_joined : (ws : Words) → joined (states_in ws) ≡ ws
unfolding states_in
states_joined ws = all_from (length ws) ws (le_refl (length ws))

-- ---- those from a place on

drop-as_taken : (n : ℕ) (ws : Words) → drop (length (take n ws)) ws ≡ drop n ws
drop-as_taken n ws =
    on-le n (length ws)
    (λ h. let e : length (take n ws) ≡ n = omega (arith, length-take n ws) in ap (λ (k : ℕ). drop k ws) e)
    (λ h. drop_of_length-le ws {i = length (take n ws)} (omega (arith, length-take n ws))
    ∙ sym (drop_of_length-le ws {i = n} (omega arith)))

pub states_from_lem : (ws : Words) (place : ℕ) → states_in (drop (start_of (states_in ws) place) ws) ≡ drop place (states_in ws)
unfolding start_of sum
states_from_lem ws zero = refl
states_from_lem ws (suc place) =
    on-eq (length ws) 0
    (λ z. ap (λ (ss : List Words). states_in (drop (start_of ss (suc place)) ws)) (no_states ws z)
    ∙ no_states ws z
    ∙ sym (ap (drop (suc place)) (no_states ws z)))
    (λ n. let rest : Words = drop (asked ws) ws in
    let e : states_in ws ≡ take (asked ws) ws ∷ states_in rest = first_state ws (omega arith) in
    ap (λ (ss : List Words). states_in (drop (start_of ss (suc place)) ws)) e
    ∙ ap states_in
    (sym (drop-drop (start_of (states_in rest) place) (length (take (asked ws) ws)) ws)
    ∙ ap (drop (start_of (states_in rest) place)) (drop-as_taken (asked ws) ws))
    ∙ states_from_lem rest place
    ∙ sym (ap (drop (suc place)) e))

-- a place where words are left
module _ (ws : Words) (place : ℕ) (more : start_of (states_in ws) place < length ws) where
  abbrev pub words_from : Words
  words_from = drop (start_of (states_in ws) place) ws

  pub next_state : drop place (states_in ws) ≡ take (asked words_from) words_from ∷ states_in (drop (asked words_from) words_from)
  next_state =
      sym (states_from_lem ws place)
      ∙ first_state words_from (omega (arith, length-drop (start_of (states_in ws) place) ws))

  pub state_left : place < length (states_in ws)
  state_left = (drop_head (states_in ws) place _ _ [] next_state).0

  pub state_is : state_at (states_in ws) place ≡ take (asked words_from) words_from
  state_is = (drop_head (states_in ws) place _ _ [] next_state).1

-- and the other way round
pub words_left : (ws : Words) (place : ℕ) → place < length (states_in ws) → start_of (states_in ws) place < length ws
words_left ws place h =
    on-le (length ws) (start_of (states_in ws) place)
    (λ k. let none : drop place (states_in ws) ≡ [] =
    sym (states_from_lem ws place)
    ∙ no_states (drop (start_of (states_in ws) place) ws) (omega (arith, length-drop (start_of (states_in ws) place) ws)) in
    absurd (omega (arith, ap length none, length-drop place (states_in ws))))
    (λ k. k)
