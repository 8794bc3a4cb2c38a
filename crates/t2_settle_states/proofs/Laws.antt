-- Words settled up to a place, from one place to the next.
use mathlib.Core.Path.{◌≡◌, refl, sym, ap, ap₂, ◌∙◌, subst}
use mathlib.Core.List.{List, [], ◌∷◌, ◌++◌, append_assoc}
use Prim.Native.Nat.{ℕ, ◌+◌, ◌-◌, ◌≤◌, ◌<◌, min}
use native.Mathlib.Nat.{suc-add, zero-add}
use native.Mathlib.Omega.{arith}
use lib.ListN.{length, get_or, set, take, drop, length-take, length-drop, take-append-drop}
use lib.Seq.{take-add, drop-drop, take_at, drop_at, get_or-take, get_or-drop, get_or-set_same, length-take-le, length_front}
use lib.Seq.{set-append_left}
use Rattle.t800.specs.State.{layer}
use Rattle.t800_laws.proofs.Laws.Lists.{next_entry}
use Rattle.t2_settle_states.specs.Settle.{Settles, settle_layer}

-- ---- one precinct more

-- element i of the first n
pub next_one : (xs : List ℕ) (n i : ℕ) → n ≤ length xs → i < n → drop i (take n xs) ≡ get_or xs i 0 ∷ drop (i + 1) (take n xs)
next_one xs n i h k =
    next_entry (take n xs) i (simp length-take (omega arith))
    ∙ ap (λ (x : ℕ). x ∷ drop (i + 1) (take n xs)) (get_or-take n xs i 0 k)

-- ---- settled up to a place

set_behind : (xs ys : List ℕ) (i v : ℕ) → set (xs ++ ys) (length xs + i) v ≡ xs ++ set ys i v
set_behind [] ys i v = ap (λ (k : ℕ). set ys k v) (zero-add i)
set_behind (x ∷ xs) ys i v =
    ap (λ (k : ℕ). set (x ∷ (xs ++ ys)) k v) (suc-add (length xs) i) ∙ ap (λ (r : List ℕ). x ∷ r) (set_behind xs ys i v)

abbrev pub settled_to : ℕ → (scratch states : List ℕ) → List ℕ
settled_to at scratch states = take at scratch ++ drop at states

module _ (scratch states : List ℕ) (l : length scratch ≡ length states) where
  pub length-settled : (at : ℕ) → length (settled_to at scratch states) ≡ length states
  length-settled at =
      length_front states (take at scratch) at (length-take at scratch ∙ ap (min at) l ∙ sym (length-take at states))

  -- the states in front of `at` and `more` words behind it, each from the scratch
  settled_on : (at more : ℕ)
      → take at scratch ++ (take more (drop at scratch) ++ drop more (drop at states)) ≡ settled_to (at + more) scratch states
  settled_on at more =
      sym (append_assoc (take at scratch) (take more (drop at scratch)) (drop more (drop at states)))
      ∙ ap₂ (λ (xs ys : List ℕ). xs ++ ys) (sym (take-add at more scratch)) (drop-drop more at states)

  -- a copy of the words that wait
  pub waiting_copied : (now part : List ℕ) (wait at : ℕ) → now ≡ settled_to wait scratch states → wait ≤ at → at ≤ length states
      → part ≡ take (at - wait) (drop wait scratch)
      → take wait now ++ (part ++ drop (at - wait) (drop wait now)) ≡ settled_to at scratch states
  waiting_copied now part wait at e h k p =
      let long : length (take wait scratch) ≡ wait = length-take-le wait scratch (omega (arith, l, h, k)) in
      let front : take wait now ≡ take wait scratch =
      ap (take wait) e ∙ take_at (take wait scratch) (drop wait states) wait long in
      let behind : drop wait now ≡ drop wait states = ap (drop wait) e ∙ drop_at (take wait scratch) (drop wait states) wait long in
      let m : wait + (at - wait) ≡ at = omega (arith, h) in
      ap₂ (λ (xs ys : List ℕ). xs ++ ys) front
      (ap₂ (λ (xs ys : List ℕ). xs ++ drop (at - wait) ys) p behind)
      ∙ settled_on wait (at - wait)
      ∙ ap (λ (n : ℕ). settled_to n scratch states) m

  -- a state of which the next layer is the only word that differs
  layer-settled : (at words : ℕ) → 13 ≤ words → words ≤ length (drop at states)
      → take words (drop at scratch) ≡ set (take words (drop at states)) 3 (layer (take words (drop at states)) + 1)
      → set (settled_to at scratch states) (at + 3) (get_or scratch (at + 3) 0) ≡ settled_to (at + words) scratch states
  layer-settled at words h k e =
      let state : List ℕ = take words (drop at states) in
      let rest : List ℕ = drop words (drop at states) in
      let v : ℕ = get_or scratch (at + 3) 0 in
      let here : length (take at scratch) ≡ at =
      length-take-le at scratch (omega (arith, l, h, k, length-drop at states)) in
      let long : 3 < length state = omega (arith, h, k, length-take words (drop at states)) in
      let next : v ≡ layer state + 1 =
      sym (get_or-drop at scratch 3 0) ∙ sym (get_or-take words (drop at scratch) 3 0 (omega (arith, h)))
      ∙ ap (λ (xs : List ℕ). get_or xs 3 0) e ∙ get_or-set_same state 3 (layer state + 1) 0 long in
      ap (λ (n : ℕ). set (settled_to at scratch states) (n + 3) v) (sym here)
      ∙ set_behind (take at scratch) (drop at states) 3 v
      ∙ ap (λ (xs : List ℕ). take at scratch ++ xs)
      (ap (λ (xs : List ℕ). set xs 3 v) (sym (take-append-drop words (drop at states)))
      ∙ set-append_left state rest 3 v long
      ∙ ap (λ (xs : List ℕ). xs ++ rest) (ap (set state 3) next ∙ sym e))
      ∙ settled_on at words

  pub settle_layer_settles : (now : List ℕ) (wait at words : ℕ) → now ≡ settled_to wait scratch states → wait ≤ at → 13 ≤ words
      → words ≤ length (drop at states)
      → take words (drop at scratch) ≡ set (take words (drop at states)) 3 (layer (take words (drop at states)) + 1)
      → settle_layer scratch now wait at ≡ settled_to (at + words) scratch states
  settle_layer_settles now wait at words e h t k s =
      ap (λ (xs : List ℕ). set xs (at + 3) (get_or scratch (at + 3) 0))
      (waiting_copied now (take (at - wait) (drop wait scratch)) wait at e h (omega (arith, t, k, length-drop at states)) refl)
      ∙ layer-settled at words t k s

-- what holds of the states from `at` on holds of those behind the first of them
pub settles_behind : (ws ps scratch states : List ℕ) (at n : ℕ) → Settles ws ps (drop n (drop at scratch)) (drop n (drop at states))
    → Settles ws ps (drop (at + n) scratch) (drop (at + n) states)
settles_behind ws ps scratch states at n s =
    subst (λ (xs : List ℕ). Settles ws ps xs (drop (at + n) states)) (drop-drop n at scratch)
    (subst (λ (ys : List ℕ). Settles ws ps (drop n (drop at scratch)) ys) (drop-drop n at states) s)
