-- Any lists of words behind one another: where each begins, and one in the place of another as long.
use mathlib.Core.Path.{◌≡◌, refl, sym, ap, ap₂, ◌∙◌}
use mathlib.Core.List.{List, [], ◌∷◌, ◌++◌, flat_map, append_assoc}
use Prim.Native.Nat.{ℕ, zero, suc, ◌+◌, ◌-◌, ◌≤◌, ◌<◌}
use native.Mathlib.Nat.{le_refl}
use native.Mathlib.Numerals.{add-one}
use native.Mathlib.Omega.{arith}
use lib.ListN.{length, set, take, drop, length-append, length-set}
use lib.Seq.{take_at, drop_at, drop-drop, take-set-le, drop-set-lt, get_or-set_same}
use Rattle.t800.specs.Base.{Words, sum}
use Rattle.t800.specs.Gathered.{state_at}
use Rattle.tcd_states.specs.States.{start_of}

-- all of them as one list
abbrev pub joined : List Words → Words
joined ss = flat_map (λ s. s) ss

-- ---- where each begins

starts_nowhere : (place : ℕ) → start_of [] place ≡ 0
unfolding start_of sum
starts_nowhere zero = refl
starts_nowhere (suc place) = refl

next_start : (ss : List Words) (place : ℕ) → start_of ss (suc place) ≡ start_of ss place + length (state_at ss place)
unfolding start_of sum
next_start [] zero = refl
next_start [] (suc place) = refl
next_start (s ∷ ss) zero = omega arith
next_start (s ∷ ss) (suc place) = let e = next_start ss place in omega arith

-- the next one begins where this one ends
pub start-turn : (ss : List Words) (place : ℕ) → start_of ss (place + 1) ≡ start_of ss place + length (state_at ss place)
start-turn ss place = rw (add-one place) (next_start ss place)

-- n places on
pub start-further : (ss : List Words) (place n : ℕ) → start_of ss (place + n) ≡ start_of ss place + start_of (drop place ss) n
unfolding start_of sum
start-further ss zero n =
    let e : 0 + n ≡ n = omega arith in
    rw e (omega arith)
start-further [] (suc place) n =
    let e : suc place + n ≡ suc (place + n) = omega arith in
    rw e (omega (arith, starts_nowhere n))
start-further (s ∷ ss) (suc place) n =
    let e : suc place + n ≡ suc (place + n) = omega arith in
    rw e (let r = start-further ss place n in omega arith)

-- the words before a place and those from it on are all
pub start-and_rest : (ss : List Words) (place : ℕ) → start_of ss place + length (joined (drop place ss)) ≡ length (joined ss)
unfolding start_of sum flat_map
start-and_rest ss zero = omega arith
start-and_rest [] (suc place) = refl
start-and_rest (s ∷ ss) (suc place) =
    let r = start-and_rest ss place in
    omega (arith, length-append s (joined ss))

pub start-inside : (ss : List Words) (place : ℕ) → start_of ss place ≤ length (joined ss)
start-inside ss place = omega (arith, start-and_rest ss place)

pub start-rises : (ss : List Words) (place later : ℕ) → place ≤ later → start_of ss place ≤ start_of ss later
start-rises ss place later h =
    let e : place + (later - place) ≡ later = omega arith in
    omega (arith, start-further ss place (later - place), ap (start_of ss) e)

-- ---- the words of one

length_before : (ss : List Words) (place : ℕ) → length (joined (take place ss)) ≡ start_of ss place
unfolding start_of sum flat_map
length_before ss zero = refl
length_before [] (suc place) = refl
length_before (s ∷ ss) (suc place) =
    length-append s (joined (take place ss)) ∙ ap (λ (n : ℕ). length s + n) (length_before ss place)

split_at_state : (ss : List Words) (place : ℕ) → place < length ss
    → joined ss ≡ joined (take place ss) ++ (state_at ss place ++ joined (drop (suc place) ss))
unfolding flat_map
split_at_state [] place h = absurd (omega arith)
split_at_state (s ∷ ss) zero h = refl
split_at_state (s ∷ ss) (suc place) h =
    ap (λ (l : Words). s ++ l) (split_at_state ss place (omega arith))
    ∙ sym (append_assoc s (joined (take place ss)) (state_at ss place ++ joined (drop (suc place) ss)))

module _ (ss : List Words) (place : ℕ) (h : place < length ss) where
  from_state : drop (start_of ss place) (joined ss) ≡ state_at ss place ++ joined (drop (suc place) ss)
  from_state =
      ap (drop (start_of ss place)) (split_at_state ss place h)
      ∙ drop_at (joined (take place ss)) (state_at ss place ++ joined (drop (suc place) ss)) (start_of ss place) (length_before ss place)

  pub state_inside : start_of ss place + length (state_at ss place) ≤ length (joined ss)
  state_inside =
      omega (
        arith,
        ap length (split_at_state ss place h),
        length-append (joined (take place ss)) (state_at ss place ++ joined (drop (suc place) ss)),
        length-append (state_at ss place) (joined (drop (suc place) ss)),
        length_before ss place,
      )

  pub words_of_state : take (length (state_at ss place)) (drop (start_of ss place) (joined ss)) ≡ state_at ss place
  words_of_state =
      ap (take (length (state_at ss place))) from_state
      ∙ take_at (state_at ss place) (joined (drop (suc place) ss)) (length (state_at ss place)) refl

-- ---- another as long in its place

pub starts_kept : (ss : List Words) (place : ℕ) (new : Words) → length new ≡ length (state_at ss place)
    → (p : ℕ) → start_of (set ss place new) p ≡ start_of ss p
unfolding start_of sum
starts_kept ss place new e zero = refl
starts_kept [] place new e (suc p) = refl
starts_kept (s ∷ ss) zero new e (suc p) = ap (λ (n : ℕ). n + start_of ss p) e
starts_kept (s ∷ ss) (suc place) new e (suc p) = ap (λ (n : ℕ). length s + n) (starts_kept ss place new e p)

module _ (ss : List Words) (place : ℕ) (h : place < length ss) (new : Words) (e : length new ≡ length (state_at ss place)) where
  before_state : take (start_of ss place) (joined ss) ≡ joined (take place ss)
  before_state =
      ap (take (start_of ss place)) (split_at_state ss place h)
      ∙ take_at (joined (take place ss)) (state_at ss place ++ joined (drop (suc place) ss)) (start_of ss place) (length_before ss place)

  behind-state : drop (length new) (drop (start_of ss place) (joined ss)) ≡ joined (drop (suc place) ss)
  behind-state =
      ap (drop (length new)) (from_state ss place h)
      ∙ drop_at (state_at ss place) (joined (drop (suc place) ss)) (length new) (sym e)

  split_with_new : joined (set ss place new) ≡ joined (take place ss) ++ (new ++ joined (drop (suc place) ss))
  split_with_new =
      split_at_state (set ss place new) place (omega (arith, length-set ss place new))
      ∙ ap₂ (λ (xs ys : Words). xs ++ ys) (ap joined (take-set-le place ss place new (le_refl place)))
      (ap₂ (λ (xs ys : Words). xs ++ ys) (get_or-set_same ss place new [] h)
      (ap joined (drop-set-lt (suc place) ss place new (omega arith))))

  -- as code lends these words: from where the state begins to where it ends
  pub state_lent : (end : ℕ) → end ≡ start_of ss place + length new → joined (set ss place new)
      ≡ take (start_of ss place) (joined ss) ++ (new ++ drop (end - start_of ss place) (drop (start_of ss place) (joined ss)))
  state_lent end is =
      let n : end - start_of ss place ≡ length new = omega arith in
      split_with_new
      ∙ ap₂ (λ (xs ys : Words). xs ++ (new ++ ys)) (sym before_state)
      (sym behind-state ∙ ap (λ (k : ℕ). drop k (drop (start_of ss place) (joined ss))) (sym n))

  pub state_replaced : joined (set ss place new)
      ≡ take (start_of ss place) (joined ss) ++ new ++ drop (start_of ss place + length new) (joined ss)
  state_replaced =
      split_with_new
      ∙ ap₂ (λ (xs ys : Words). xs ++ (new ++ ys)) (sym before_state)
      (sym behind-state ∙ drop-drop (length new) (start_of ss place) (joined ss))
      ∙ sym (append_assoc (take (start_of ss place) (joined ss)) new (drop (start_of ss place + length new) (joined ss)))
