-- The state in front of a list of states, from what the code has found of it.
use Rattle.std.specs.Prelude.{Option, None, Some}
use mathlib.Core.Path.{◌≡◌, refl, sym, ap, ap₂, ◌∙◌, subst}
use mathlib.Core.Logic.{◌≢◌}
use mathlib.Core.Bool.{Bool, true, false, cond, ◌&&◌}
use mathlib.Core.List.{List, [], ◌∷◌}
use Prim.Native.Nat.{ℕ, zero, suc, ◌+◌, ◌*◌, ◌≤◌, ◌<◌}
use native.Mathlib.Nat.{le_refl}
use native.Mathlib.Omega.{arith}
use lib.ListN.{length, get_or, take, length-take}
use lib.Seq.{get_or-take, take_all}
use lib.Dec.{eqb, leb}
use borrow.Author.Tests.{eq-eqb, ne_eqb, le-leb, lt-leb}
use Rattle.t800.specs.declared.Band.{Band}
use Rattle.t800.specs.Base.{every}
use Rattle.t800.specs.State.{not_yet_included, not_yet_planes, blocks_in, band_nodes, band_length, end_of, band_count, bands, state_length}
use Rattle.t800.specs.Ranges.{node_in_range, block_in_range, band_in_range, band_in_range_with, bands_in_range, bands_in_range_with, valid_state}
use Rattle.t800_laws.proofs.Laws.Layout.{band_length_lem, end_after}
use Rattle.t800_laws.proofs.Laws.Tests.{if-true, if-false, on-eq, on-le}
use Rattle.t800_laws.proofs.Laws.Checks.{on_bool}
use Rattle.tcd_laws.specs.Geometry.{AllUpTo64}
use Rattle.tcd_laws.specs.Parts.{first_words_in_range}
use Rattle.tcd_laws.proofs.Laws.FirstWords.{bands-in_front, first_words_in_front}
use Rattle.tcd_laws.proofs.Laws.ValidStates.{valid_state_lem, too_short}
use Rattle.tcd_state.specs.Front.{words_in_front, unless_0}
use Rattle.tcd_state.proofs.Laws.RangeParts.{valid_parts}

pub thirteen_asked : (bs : List Band) → 13 ≤ state_length bs
unfolding state_length
thirteen_asked bs = end_after 13 bs

-- ---- the words as the code says them

pub words_some : (n : ℕ) → 1 ≤ n → unless_0 n ≡ Some n
words_some zero h = absurd (omega arith)
words_some (suc n) h = refl

pub some_words : (n : ℕ) {w : ℕ} → Some w ≡ unless_0 n → (w ≡ n) × (1 ≤ w)
some_words zero e = absurd (cc)
some_words (suc n) {w} e = let k : w ≡ suc n = cc in (k, omega (arith, k))

pub no_words : (n : ℕ) → None ≡ unless_0 n → n ≡ 0
no_words zero e = refl
no_words (suc n) e = absurd (cc)

pub front-too_short : (r : ℕ) (ws : List ℕ) → length ws < 13 → None ≡ unless_0 (words_in_front r ws)
unfolding words_in_front
front-too_short r ws h =
    let state : List ℕ = take (state_length (bands ws)) ws in
    let l : length state < 13 = omega (arith, length-take (state_length (bands ws)) ws) in
    sym (ap unless_0 (if-false (valid_state r state (length state)) (state_length (bands ws)) 0 (sym (too_short r state (length state) l))))

-- ---- the words in front are those of the list

every-same : (n : ℕ) (f g : ℕ → Bool) → ((i : ℕ) → i < n → f i ≡ g i) → every n f ≡ every n g
unfolding every
every-same zero f g h = refl
every-same (suc n) f g h =
    ap₂ (λ (a b : Bool). a && b) (h n (omega arith)) (every-same n f g (λ i k. h i (omega arith)))

module _ (ws : List ℕ) (n : ℕ) (long : 13 ≤ n) where
  same : (i : ℕ) → i < n → get_or (take n ws) i 0 ≡ get_or ws i 0
  same i h = get_or-take n ws i 0 h

  node_in_front : (not_yet at : ℕ) → at + 2 < n → node_in_range (take n ws) not_yet at ≡ node_in_range ws not_yet at
  unfolding node_in_range
  node_in_front not_yet at h = rw (same at (omega arith), same (at + 1) (omega arith), same (at + 2) (omega arith))

  block_in_front : (at : ℕ) → at + 3 < n → block_in_range (take n ws) at ≡ block_in_range ws at
  unfolding block_in_range
  block_in_front at h =
      rw (
        same 0 (omega arith),
        same 2 (omega arith),
        same 3 (omega arith),
        same at (omega arith),
        same (at + 1) (omega arith),
        same (at + 2) (omega arith),
        same (at + 3) (omega arith),
      )

  band_in_front : (at : ℕ) (b : Band) → at + band_length b ≤ n → band_in_range (take n ws) at b ≡ band_in_range ws at b
  unfolding band_in_range_with
  band_in_front at b h =
      let e = band_length_lem b in
      ap₂ (λ (x y : Bool). x && y)
      (ap₂ (λ (x y : Bool). x && y)
      (every-same (band_nodes b) _ _ (λ i k. node_in_front not_yet_included (at + 3 * i) (omega (arith, e, k, h))))
      (every-same (band_nodes b) _ _ (λ i k. node_in_front not_yet_planes (at + 3 * band_nodes b + 3 * i) (omega (arith, e, k, h)))))
      (every-same (blocks_in b) _ _ (λ i k. block_in_front (at + 6 * band_nodes b + 4 * i) (omega (arith, e, k, h))))

  bands-range_in_front : (at : ℕ) (bs : List Band) → end_of at bs ≤ n → bands_in_range (take n ws) at bs ≡ bands_in_range ws at bs
  unfolding bands_in_range_with end_of
  bands-range_in_front at [] h = refl
  bands-range_in_front at (b ∷ bs) h =
      ap₂ (λ (x y : Bool). x && y) (band_in_front at b (omega (arith, h, end_after (at + band_length b) bs)))
      (bands-range_in_front (at + band_length b) bs h)

-- ---- its first words, and then its bands

found : (ws : List ℕ) → (leb (state_length (bands ws)) (length ws) && bands_in_range ws 13 (bands ws))
    ≡ (eqb (length (take (state_length (bands ws)) ws)) (state_length (bands ws))
    && bands_in_range (take (state_length (bands ws)) ws) 13 (bands ws))
unfolding state_length
found ws =
    let n : ℕ = end_of 13 (bands ws) in
    on-le n (length ws)
    (λ h. ap₂ (λ (x y : Bool). x && y)
    (le-leb n (length ws) h ∙ sym (eq-eqb (length (take n ws)) n (omega (arith, h, length-take n ws))))
    (sym (bands-range_in_front ws n (end_after 13 (bands ws)) 13 (bands ws) (le_refl n))))
    (λ h. ap (λ (x : Bool). x && bands_in_range ws 13 (bands ws)) (lt-leb n (length ws) h)
    ∙ ap (λ (x : Bool). x && bands_in_range (take n ws) 13 (bands ws))
    (sym (ne_eqb (length (take n ws)) n (λ z. absurd (omega (arith, z, h, length-take n ws))))))

front-words : (r : ℕ) (ws : List ℕ) (t : Bool) → t ≡ first_words_in_range r ws
    → cond t (cond (leb (state_length (bands ws)) (length ws) && bands_in_range ws 13 (bands ws)) (state_length (bands ws)) 0) 0
    ≡ words_in_front r ws
unfolding words_in_front
front-words r ws t et =
    let n : ℕ = state_length (bands ws) in
    let state : List ℕ = take n ws in
    let w : Bool = eqb (length state) n && bands_in_range state 13 (bands ws) in
    let same_bands : bands state ≡ bands ws = bands-in_front ws n (thirteen_asked (bands ws)) in
    let v : (t && true && w) ≡ valid_state r state (length state) =
    valid_parts r state (length state) t true w (et ∙ sym (first_words_in_front ws n (thirteen_asked (bands ws)) r))
    (sym (eq-eqb (length state) (length state) refl))
    (ap (λ (bs : List Band). eqb (length state) (state_length bs) && bands_in_range state 13 bs) (sym same_bands)) in
    ap (λ (b : Bool). cond t (cond b n 0) 0) (found ws) ∙ both t w n ∙ ap (λ (b : Bool). cond b n 0) v
  where
    both : (t w : Bool) (n : ℕ) → cond t (cond w n 0) 0 ≡ cond (t && true && w) n 0
    both true w n = refl
    both false w n = refl

pub front-parts : (r : ℕ) (ws : List ℕ) (t : Bool) (k : Option ℕ) → t ≡ first_words_in_range r ws
    → k ≡ cond (leb (state_length (bands ws)) (length ws) && bands_in_range ws 13 (bands ws)) (Some (state_length (bands ws))) None
    → cond t k None ≡ unless_0 (words_in_front r ws)
front-parts r ws t k et ek =
    ap (λ (z : Option ℕ). cond t z None) ek
    ∙ both t _ (state_length (bands ws)) (words_some (state_length (bands ws)) (omega (arith, thirteen_asked (bands ws))))
    ∙ ap unless_0 (front-words r ws t et)
  where
    both : (t w : Bool) (n : ℕ) → unless_0 n ≡ Some n → cond t (cond w (Some n) None) None ≡ unless_0 (cond t (cond w n 0) 0)
    both true true n e = sym e
    both true false n e = refl
    both false w n e = refl

-- ---- what it says where it is valid

pub record ValidInFront (r : ℕ) (ws : List ℕ) : Type 0 where
  pub words_are : words_in_front r ws ≡ state_length (bands ws)
  pub valid : valid_state r (take (state_length (bands ws)) ws) (length (take (state_length (bands ws)) ws)) ≡ true
  pub there : state_length (bands ws) ≤ length ws
  pub first_words_lem : 13 ≤ length ws
  pub three_bands_lem : band_count ws ≤ 3
  pub sides : AllUpTo64 (bands ws)

module _ (r : ℕ) (ws : List ℕ) where
  abbrev front : List ℕ
  front = take (state_length (bands ws)) ws

  pub front-valid : valid_state r front (length front) ≡ true → ValidInFront r ws
  unfolding words_in_front
  front-valid v =
      let n : ℕ = state_length (bands ws) in
      let k = valid_state_lem r front (length front) v in
      let same : bands front ≡ bands ws = bands-in_front ws n (thirteen_asked (bands ws)) in
      let l : length front ≡ n = k.length-is ∙ ap state_length same in
      record {
        words_are = if-true (valid_state r front (length front)) n 0 v;
        valid = v;
        there = omega (arith, l, length-take n ws);
        first_words_lem = omega (arith, l, length-take n ws, thirteen_asked (bands ws));
        three_bands_lem = subst (λ (z : ℕ). z ≤ 3) (get_or-take n ws 1 0 (omega (arith, thirteen_asked (bands ws)))) k.three_bands_lem;
        sides = subst AllUpTo64 same k.sides;
      }

  pub valid_in_front : 1 ≤ words_in_front r ws → ValidInFront r ws
  unfolding words_in_front
  valid_in_front h =
      on_bool (valid_state r front (length front)) front-valid
      (λ f. absurd (omega (arith, h, if-false (valid_state r front (length front)) (state_length (bands ws)) 0 f)))

-- ---- the whole list as one state

module _ (r : ℕ) (ws : List ℕ) (k : ℕ) where
  abbrev asked : ℕ
  asked = state_length (bands ws)

  -- a valid state is the one in front, and nothing is behind it
  valid_front : valid_state r ws k ≡ true → (words_in_front r ws ≡ length ws) × (1 ≤ length ws) × (k ≡ length ws)
  unfolding words_in_front
  valid_front v =
      let s = valid_state_lem r ws k v in
      let whole : take asked ws ≡ ws = take_all asked ws (omega (arith, s.length-is)) in
      let again : valid_state r (take asked ws) (length (take asked ws)) ≡ true =
      subst (λ (z : List ℕ). valid_state r z (length z) ≡ true) (sym whole)
      (subst (λ (z : ℕ). valid_state r ws z ≡ true) s.scratch_is v) in (
        if-true (valid_state r (take asked ws) (length (take asked ws))) asked 0 again ∙ sym s.length-is,
        omega (arith, s.length-is, thirteen_asked (bands ws)),
        s.scratch_is,
      )

  pub none_in_front : None ≡ unless_0 (words_in_front r ws) → false ≡ valid_state r ws k
  none_in_front e =
      let z = no_words (words_in_front r ws) e in
      on_bool (valid_state r ws k) (λ v. let f = valid_front v in absurd (omega (arith, z, f.0, f.1))) (λ f. sym f)

  pub words_behind : words_in_front r ws ≢ length ws → false ≡ valid_state r ws k
  words_behind n = on_bool (valid_state r ws k) (λ v. absurd (n (valid_front v).0)) (λ f. sym f)

  nothing_behind : 1 ≤ words_in_front r ws → words_in_front r ws ≡ length ws → eqb k (words_in_front r ws) ≡ valid_state r ws k
  unfolding words_in_front
  nothing_behind n e =
      on_bool (valid_state r (take asked ws) (length (take asked ws)))
      (λ v. let l : asked ≡ length ws = sym (if-true (valid_state r (take asked ws) (length (take asked ws))) asked 0 v) ∙ e in
      let whole : take asked ws ≡ ws = take_all asked ws (omega (arith, l)) in
      let valid : valid_state r ws (length ws) ≡ true = subst (λ (z : List ℕ). valid_state r z (length z) ≡ true) whole v in
      ap (eqb k) e
      ∙ on-eq k (length ws)
      (λ h. eq-eqb k (length ws) h ∙ sym (subst (λ (z : ℕ). valid_state r ws z ≡ true) (sym h) valid))
      (λ h. ne_eqb k (length ws) h
      ∙ on_bool (valid_state r ws k) (λ u. absurd (h (valid_front u).2)) (λ f. sym f)))
      (λ f. absurd (omega (arith, n, if-false (valid_state r (take asked ws) (length (take asked ws))) asked 0 f)))

  pub some_in_front : (n : ℕ) → Some n ≡ unless_0 (words_in_front r ws) → n ≡ length ws → eqb k n ≡ valid_state r ws k
  some_in_front n e l =
      let f = some_words (words_in_front r ws) e in
      ap (eqb k) f.0 ∙ nothing_behind (omega (arith, f.0, f.1)) (sym f.0 ∙ l)
