-- States that refusal 5 lets pass.
use Rattle.std.specs.Prelude.{None, Some, nat_lt}
use Rattle.std.specs.List.{list_all}
use mathlib.Core.Path.{◌≡◌, refl, sym, ap, ap₂, ◌∙◌, subst}
use mathlib.Core.Bool.{Bool, true, false, not, ◌&&◌, ◌||◌}
use mathlib.Core.Logic.{◌≢◌}
use mathlib.Core.List.{List, [], ◌∷◌, ◌++◌, flat_map}
use Prim.Native.Nat.{ℕ, zero, suc, ◌+◌, ◌≤◌, ◌<◌}
use native.Mathlib.Omega.{arith}
use lib.ListN.{length, get_or, set, drop, length-drop, length-set, length-append}
use lib.Seq.{length-take-le, get_or-drop, get_or-set_same, get_or-set_other, take_at, drop_at, take-append_seam}
use lib.Dec.{leb, eqb}
use borrow.Author.Tests.{not-false, eqb-true, leb-false, lt-ltb, lt-leb, le-ltb, le-leb, eq-eqb, ne_eqb}
use Rattle.t800.specs.Base.{Words, any}
use Rattle.t800.specs.State.{reader, bands, state_length}
use Rattle.t800.specs.Ranges.{valid_state}
use Rattle.t800.specs.Gathered.{states_in, bad_states, state_at}
use Rattle.t800_laws.proofs.Laws.Tests.{if-true, if-false, on-eq, on-lt, or_left, or_right}
use Rattle.t800_laws.proofs.Laws.Checks.{on_bool}
use Rattle.tcd_laws.proofs.Laws.FirstWords.{bands-in_front}
use Rattle.tcd_laws.proofs.Laws.ValidStates.{valid_state_lem, long_enough}
use Rattle.tcd_state.proofs.Laws.Front.{ValidInFront, front-valid}
use Rattle.tcd_states.specs.States.{any_out_of_range, AllValid, counted}
use Rattle.tcd_states.proofs.Laws.Starts.{joined}
use Rattle.tcd_states.proofs.Laws.Cuts.{asked, no_states, first_state}

abbrev Valid : Words → Type 0
Valid s = valid_state reader s (length s) ≡ true

-- ---- all of a list

pub valid_from : (ss : List Words) (place : ℕ) → AllValid ss → AllValid (drop place ss)
valid_from ss place v =
    record {
      valid_at = λ p h. subst Valid (sym (get_or-drop place ss p [])) (v.valid_at (place + p) (omega (arith, h, length-drop place ss)));
    }

pub valid_with : (ss : List Words) (place : ℕ) (new : Words) → AllValid ss → Valid new → AllValid (set ss place new)
valid_with ss place new v n =
    record {
      valid_at = λ p h.
          let l : p < length ss = omega (arith, h, length-set ss place new) in
          on-eq p place
          (λ e. subst Valid (sym (ap (state_at (set ss place new)) e ∙ get_or-set_same ss place new [] (omega (arith, e, l)))) n)
          (λ e. subst Valid (sym (get_or-set_other ss place p new [] e)) (v.valid_at p l));
    }

none_at : {A : Type 0} (f : A → Bool) (l : List A) (d : A) → any f l ≡ false → (i : ℕ) → i < length l → f (get_or l i d) ≡ false
unfolding any
none_at f [] d e i h = absurd (omega arith)
none_at f (x ∷ l) d e zero h = or_left (f x) (any f l) e
none_at f (x ∷ l) d e (suc i) h = none_at f l d (or_right (f x) (any f l) e) i (omega arith)

pub none_out_of_range : (ss : List Words) → any_out_of_range ss ≡ false → AllValid ss
unfolding any_out_of_range
none_out_of_range ss e =
    record {
      valid_at = λ p h. not-false _ (none_at (λ s. not (valid_state reader s (length s))) ss [] e p h);
    }

-- ---- those in a list of words

-- the state in front
pub first_valid : (ws : Words) → AllValid (states_in ws) → 1 ≤ length ws → ValidInFront reader ws
first_valid ws v h =
    let e = first_state ws h in
    front-valid reader ws (subst Valid (ap (λ (ss : List Words). state_at ss 0) e) (v.valid_at 0 (omega (arith, ap length e))))

pub first_length_lem : (ws : Words) → AllValid (states_in ws) → 1 ≤ length ws → length (state_at (states_in ws) 0) ≡ asked ws
first_length_lem ws v h =
    ap (λ (ss : List Words). length (state_at ss 0)) (first_state ws h)
    ∙ length-take-le (asked ws) ws (first_valid ws v h).there

-- valid states behind one another are cut where they were put together
cut_again : (s : Words) (ss : List Words) → Valid s → states_in (joined ss) ≡ ss → states_in (s ++ joined ss) ≡ s ∷ ss
cut_again s ss v again =
    let ws : Words = s ++ joined ss in
    let k = valid_state_lem reader s (length s) v in
    let l : 13 ≤ length s = long_enough reader s (length s) v in
    let same : bands s ≡ bands ws =
    ap bands (sym (take-append_seam s (joined ss))) ∙ bands-in_front ws (length s) l in
    let n : length s ≡ asked ws = k.length-is ∙ ap state_length same in
    first_state ws (omega (arith, l, length-append s (joined ss)))
    ∙ ap₂ (λ (t : Words) (ts : List Words). t ∷ ts) (take_at s (joined ss) (asked ws) n)
    (ap states_in (drop_at s (joined ss) (asked ws) n) ∙ again)

pub states_of_joined : (ss : List Words) → AllValid ss → states_in (joined ss) ≡ ss
unfolding flat_map
states_of_joined [] v = no_states [] refl
states_of_joined (s ∷ ss) v =
    cut_again s ss (v.valid_at 0 (omega arith)) (states_of_joined ss (record { valid_at = λ p h. v.valid_at (suc p) (omega arith) }))

-- ---- how many

module _ (ss : List Words) where
  pub counted-none : None ≡ counted ss → any_out_of_range ss ≡ true
  unfolding counted
  counted-none e = on_bool (any_out_of_range ss) (λ t. t) (λ f. absurd (let s : None ≡ Some (length ss) = e ∙ if-false (any_out_of_range ss) _ _ f in cc))

  module _ (count : ℕ) (is : Some count ≡ counted ss) where
    pub counted-in_range : any_out_of_range ss ≡ false
    unfolding counted
    counted-in_range = on_bool (any_out_of_range ss) (λ t. absurd (let s : Some count ≡ None = is ∙ if-true (any_out_of_range ss) _ _ t in cc)) (λ f. f)

    pub counted-all : count ≡ length ss
    unfolding counted
    counted-all = let s : Some count ≡ Some (length ss) = is ∙ if-false (any_out_of_range ss) _ _ counted-in_range in cc

-- ---- states that fit

pub all_is : (count : ℕ) (l : List ℕ) → list_all (λ place. nat_lt place count) l ≡ not (any (λ place. leb count place) l)
unfolding any
all_is count [] = refl
all_is count (place ∷ l) = rw (all_is count l) (either_way (nat_lt place count) (leb count place) (any (λ place. leb count place) l) (below_or_not place count))
  where
    below_or_not : (m n : ℕ) → nat_lt m n ≡ not (leb n m)
    below_or_not m n = on-lt m n (λ h. simp (lt-ltb m n h, lt-leb n m h)) (λ h. simp (le-ltb m n h, le-leb n m h))

    either_way : (a b c : Bool) → a ≡ not b → (a && not c) ≡ not (b || c)
    either_way a true c e = rw e refl
    either_way a false c e = rw e refl

pub record StatesFit (ws : Words) (scratch_length : ℕ) (places : Words) : Type 0 where
  pub scratch_is : scratch_length ≡ length ws
  pub all_valid : AllValid (states_in ws)
  pub place_in : (i : ℕ) → i < length places → get_or places i 0 < length (states_in ws)
  pub counted_is : counted (states_in ws) ≡ Some (length (states_in ws))

pub states_fit_lem : (ws : Words) (scratch_length : ℕ) (places : Words) → bad_states ws scratch_length places ≡ false
    → StatesFit ws scratch_length places
unfolding bad_states any_out_of_range counted
states_fit_lem ws n places e =
    let ss : List Words = states_in ws in
    let other : Bool = not (eqb n (length ws)) in
    let out : Bool = any (λ s. not (valid_state reader s (length s))) ss in
    let past : Bool = any (λ place. leb (length ss) place) places in
    let first = or_left (other || out) past e in
    record {
      scratch_is = eqb-true n (length ws) (not-false (eqb n (length ws)) (or_left other out first));
      all_valid = none_out_of_range ss (or_right other out first);
      place_in = λ i h. leb-false (length ss) (get_or places i 0)
          (none_at (λ place. leb (length ss) place) places 0 (or_right (other || out) past e) i h);
      counted_is = if-false out _ _ (or_right other out first);
    }

module _ (ws : Words) (scratch_length : ℕ) (places : Words) where
  pub other_scratch : scratch_length ≢ length ws → false ≡ not (bad_states ws scratch_length places)
  unfolding bad_states
  other_scratch h = sym (rw (ne_eqb scratch_length (length ws) h))

  module _ (e : scratch_length ≡ length ws) where
    pub some_out_of_range : any_out_of_range (states_in ws) ≡ true → false ≡ not (bad_states ws scratch_length places)
    unfolding bad_states any_out_of_range
    some_out_of_range t = sym (rw (eq-eqb scratch_length (length ws) e, t))

    pub fit_by_places : any_out_of_range (states_in ws) ≡ false → (count : ℕ) → count ≡ length (states_in ws)
        → not (any (λ place. leb count place) places) ≡ not (bad_states ws scratch_length places)
    unfolding bad_states any_out_of_range
    fit_by_places f count n = sym (rw (eq-eqb scratch_length (length ws) e, f, n))
