-- The precinct in front: its blocks, its parts as the code cuts them, and what turns it away.
use Rattle.std.specs.Prelude.{Ok}
use mathlib.Core.Path.{◌≡◌, refl, sym, ap, ◌∙◌, subst}
use mathlib.Core.Logic.{◌≢◌}
use mathlib.Core.Bool.{true, false, cond, ◌||◌}
use mathlib.Core.List.{List, [], map}
use Prim.Native.Nat.{ℕ, zero, suc, ◌+◌, ◌*◌, ◌≤◌, ◌<◌, min}
use native.Mathlib.Omega.{arith}
use lib.ListN.{length, get_or, take, length-take}
use lib.Seq.{get_or-take, take_all}
use lib.Dec.{eqb, ltb}
use borrow.Author.Tests.{lt-ltb, le-ltb, eqb-true}
use Rattle.t800.specs.Base.{sum}
use Rattle.t800.specs.declared.Band.{Band}
use Rattle.t800.specs.State.{writer, band_count, band_at, bands, blocks, blocks_in, state_length}
use Rattle.t800.specs.Ranges.{unused_bands_zero, valid_state}
use Rattle.t800.specs.WriteHeader.{Contribution, contribution}
use Rattle.t800.specs.Layer.{asks}
use Rattle.t800_laws.proofs.Laws.Tests.{if-true, if-false, if-ne, on-le}
use Rattle.t800_laws.proofs.Laws.Checks.{on_bool}
use Rattle.tcd_laws.specs.Parts.{three_bands}
use Rattle.tcd_laws.proofs.Laws.Bands.{length-blocks, blocks-up_to_12288}
use Rattle.tcd_laws.proofs.Laws.FirstWords.{bands-in_front}
use Rattle.tcd_laws.proofs.Laws.ValidStates.{valid_state_lem, every_true}
use Rattle.tcd_state.specs.Front.{words_in_front}
use Rattle.tcd_state.proofs.Laws.Front.{thirteen_asked, valid_in_front}
use Rattle.t2_refusal_laws.specs.Refusals.{measure_refusal_for}
use Rattle.t2_refusal_laws.proofs.Laws.NotRefused.{NotRefused, not_refused_for}
use Rattle.t2_layer_parts.specs.declared.Lists.{Lists}
use Rattle.t2_layer_parts.specs.Front.{lists_of, asked, state_of, part_of, front_refusal, FrontIs}

-- ---- its blocks

module _ (ws : List ℕ) (n : ℕ) (h : 13 ≤ n) (unused : unused_bands_zero (take n ws) ≡ true) where
  none_across : (i : ℕ) → i < 3 → band_count ws ≤ i → get_or ws (4 + 3 * i) 0 ≡ 0
  unfolding unused_bands_zero
  none_across i l u =
      let state : List ℕ = take n ws in
      let past : ltb (3 * i) (3 * band_count state) ≡ false = le-ltb (3 * i) _ (omega (arith, get_or-take n ws 1 0 (omega arith))) in
      sym (get_or-take n ws (4 + 3 * i) 0 (omega arith))
      ∙ eqb-true (get_or state (4 + 3 * i) 0) 0
      (rw past at (every_true 9 (λ j. ltb j (3 * band_count state) || eqb (get_or state (4 + j) 0) 0) unused (3 * i) (omega arith)))

  blocks-of_words : (k : ℕ) → band_count ws ≡ k → k ≤ 3 → sum (map blocks_in (take k (three_bands ws)))
      ≡ get_or ws 4 0 * get_or ws 5 0 + get_or ws 7 0 * get_or ws 8 0 + get_or ws 10 0 * get_or ws 11 0
  unfolding sum blocks_in band_at
  blocks-of_words zero e l =
      rw (none_across 0 (omega arith) (omega arith), none_across 1 (omega arith) (omega arith), none_across 2 (omega arith) (omega arith))
      (omega arith)
  blocks-of_words (suc zero) e l = rw (none_across 1 (omega arith) (omega arith), none_across 2 (omega arith) (omega arith)) (omega arith)
  blocks-of_words (suc (suc zero)) e l = rw (none_across 2 (omega arith) (omega arith)) (omega arith)
  blocks-of_words (suc (suc (suc zero))) e l = omega arith
  blocks-of_words (suc (suc (suc (suc k)))) e l = absurd (omega arith)

module _ (ws : List ℕ) (h : 1 ≤ words_in_front writer ws) where
  pub blocks-in_front : length (blocks (bands ws))
      ≡ get_or ws 4 0 * get_or ws 5 0 + get_or ws 7 0 * get_or ws 8 0 + get_or ws 10 0 * get_or ws 11 0
  unfolding bands
  blocks-in_front =
      let v = valid_in_front writer ws h in
      let n : ℕ = state_length (bands ws) in
      length-blocks (bands ws)
      ∙ blocks-of_words ws n (thirteen_asked (bands ws)) (valid_state_lem writer (take n ws) _ v.valid).unused (band_count ws) refl
      v.three_bands_lem

  pub few_blocks : length (blocks (bands ws)) ≤ 12288
  unfolding bands
  few_blocks = let v = valid_in_front writer ws h in blocks-up_to_12288 (band_count ws) (three_bands ws) v.three_bands_lem v.sides

-- ---- the parts, as the code cuts them

pub take-least : (n : ℕ) (l : List ℕ) → take (min n (length l)) l ≡ take n l
take-least n l =
    on-le n (length l) (λ h. let e : min n (length l) ≡ n = omega arith in ap (λ (k : ℕ). take k l) e)
    (λ h. take_all (min n (length l)) l (omega arith) ∙ sym (take_all n l (omega arith)))

pub take_words : (ws : List ℕ) (n : ℕ) (p : Contribution) → n ≡ words_in_front writer ws → 1 ≤ n → take n ws ≡ state_of ws p
unfolding asks
take_words ws n p e h =
    let v = valid_in_front writer ws (omega (arith, e)) in
    let m : n ≡ state_length (bands ws) = omega (arith, e, v.words_are) in
    ap (λ (k : ℕ). take k ws) m

pub lists_cut : (ws counts : List ℕ) (lengths marks n b passes l m : ℕ) → n ≡ length (blocks (bands ws)) → b ≡ min n (length counts)
    → passes ≡ sum (take b counts) → l ≡ min passes lengths → m ≡ min passes marks
    → ◌≡◌ {A = Lists} (record { counts = b; lengths = l; marks = m; passes = passes })
    (lists_of (length (blocks (bands ws))) counts lengths marks)
lists_cut ws counts lengths marks n b passes l m en eb ep el em =
    let blocked : b ≡ min (length (blocks (bands ws))) (length counts) = omega (arith, en, eb) in
    let summed : passes ≡ sum (take (length (blocks (bands ws))) counts) =
    ep ∙ ap (λ (z : ℕ). sum (take z counts)) blocked ∙ ap sum (take-least (length (blocks (bands ws))) counts) in
    λ i. record {
      counts = blocked i;
      lengths = (el ∙ ap (λ (z : ℕ). min z lengths) summed) i;
      marks = (em ∙ ap (λ (z : ℕ). min z marks) summed) i;
      passes = summed i;
    }

pub counts_add_up : (ws counts : List ℕ) (lengths marks : ℕ) (k : Lists) → k ≡ lists_of (length (blocks (bands ws))) counts lengths marks
    → k.passes ≡ sum (take k.counts counts)
counts_add_up ws counts lengths marks k e =
    ap (λ (z : Lists). z.passes) e
    ∙ ap sum (sym (take-least (length (blocks (bands ws))) counts))
    ∙ ap (λ (z : Lists). sum (take z.counts counts)) (sym e)

module _ (ws : List ℕ) (p : Contribution) (k : Lists)
    (e : k ≡ lists_of (length (blocks (bands ws))) p.counts (length p.lengths) (length p.marks)) where
  pub part_is : contribution (take k.counts p.counts) (take k.lengths p.lengths) (take k.marks p.marks)
      ≡ part_of ws p
  unfolding asks
  part_is =
      let n : ℕ = length (blocks (bands ws)) in
      let passes : ℕ = sum (take n p.counts) in
      (λ i. contribution (take (e i).counts p.counts) (take (e i).lengths p.lengths) (take (e i).marks p.marks))
      ∙ (λ i. contribution (take-least n p.counts i) (take-least passes p.lengths i) (take-least passes p.marks i))

-- ---- what turns it away

module _ (ws : List ℕ) (p : Contribution) (bodies : ℕ) where
  pub front-state_refused : words_in_front writer ws ≡ 0 → 5 ≡ front_refusal ws p bodies
  unfolding words_in_front front_refusal measure_refusal_for asks
  front-state_refused z =
      let n : ℕ = state_length (bands ws) in
      let state : List ℕ = take n ws in
      on_bool (valid_state writer state (length state))
      (λ v. absurd (omega (arith, z, if-true (valid_state writer state (length state)) n 0 v, thirteen_asked (bands ws))))
      (λ f. sym (rw f))

  module _ (why : ℕ) (is : why ≡ measure_refusal_for (state_of ws p) (length (state_of ws p)) (part_of ws p)) where
    by_why : (w : ℕ) → why ≡ w → cond (eqb w 0) (cond (ltb bodies (asked ws p).bytes) 10 0) w ≡ front_refusal ws p bodies
    unfolding front_refusal
    by_why w e = ap (λ (z : ℕ). cond (eqb z 0) (cond (ltb bodies (asked ws p).bytes) 10 0) z) (sym e ∙ is)

    pub front-refused : why ≢ 0 → why ≡ front_refusal ws p bodies
    front-refused h = sym (if-ne why 0 _ _ h) ∙ by_why why refl

    pub front-body_refused : why ≡ 0 → bodies < (asked ws p).bytes → 10 ≡ front_refusal ws p bodies
    front-body_refused z h = sym (if-true (ltb bodies (asked ws p).bytes) 10 0 (lt-ltb bodies (asked ws p).bytes h)) ∙ by_why 0 z

    pub front-accepted : why ≡ 0 → (asked ws p).bytes ≤ bodies → 0 ≡ front_refusal ws p bodies
    front-accepted z h = sym (if-false (ltb bodies (asked ws p).bytes) 10 0 (le-ltb bodies (asked ws p).bytes h)) ∙ by_why 0 z

pub valid_part : (ws : List ℕ) (n : ℕ) → n ≡ words_in_front writer ws → 1 ≤ n → valid_state writer (take n ws) (length (take n ws))
    ≡ true
unfolding asks
valid_part ws n e h =
    let v = valid_in_front writer ws (omega (arith, e)) in
    subst (λ (z : List ℕ). valid_state writer z (length z) ≡ true) (sym (take_words ws n (contribution [] [] []) e h)) v.valid

-- the parts that were lent, and what was found of them
module _ (ws : List ℕ) (p : Contribution) (n : ℕ) (k : Lists) (why : ℕ) (words : n ≡ words_in_front writer ws) (some : 1 ≤ n)
    (lists : k ≡ lists_of (length (blocks (bands ws))) p.counts (length p.lengths) (length p.marks))
    (is : why ≡ measure_refusal_for (take n ws) (length (take n ws))
    (contribution (take k.counts p.counts) (take k.lengths p.lengths) (take k.marks p.marks))) where
  pub why_is : why ≡ measure_refusal_for (state_of ws p) (length (state_of ws p)) (part_of ws p)
  why_is = is ∙ (λ i. measure_refusal_for (take_words ws n p words some i) (length (take_words ws n p words some i)) (part_is ws p k lists i))

  module _ (z : why ≡ 0) where
    not_refused : NotRefused (state_of ws p) (length (state_of ws p)) (part_of ws p)
    not_refused = not_refused_for (state_of ws p) (length (state_of ws p)) (part_of ws p) (sym why_is ∙ z)

    pub lengths_few : length (take k.lengths p.lengths) ≤ 4294967296
    lengths_few =
        let r = not_refused in
        omega (arith, ap (λ (q : Contribution). length q.lengths) (part_is ws p k lists), r.lengths_are_lem, r.passes_are)

    module _ (bodies bytes : ℕ) (sums : bytes ≡ sum (take k.lengths p.lengths)) where
      bytes_asked : bytes ≡ (asked ws p).bytes
      unfolding asks
      bytes_asked = sums ∙ ap (λ (q : Contribution). sum q.lengths) (part_is ws p k lists)

      pub body_refused_front : bodies < bytes → 10 ≡ front_refusal ws p bodies
      body_refused_front h = front-body_refused ws p bodies why why_is z (omega (arith, h, bytes_asked))

      pub accepted_front : bytes ≤ bodies
          → FrontIs ws p bodies (Ok (record { words = n; blocks = k.counts; passes = k.lengths; bytes = bytes }))
      unfolding asks
      accepted_front h =
          let v = valid_in_front writer ws (omega (arith, words)) in
          let r = not_refused in
          let size : ℕ = length (blocks (bands ws)) in
          let passes : ℕ = sum (take size p.counts) in
          let same : bands (state_of ws p) ≡ bands ws = bands-in_front ws (state_length (bands ws)) (thirteen_asked (bands ws)) in
          let blocked : k.counts ≡ size =
          omega (
            arith,
            ap (λ (q : Lists). q.counts) lists,
            length-take size p.counts,
            r.counts_are ∙ ap (λ (bs : List Band). length (blocks bs)) same,
          ) in
          let passed : k.lengths ≡ passes =
          omega (arith, ap (λ (q : Lists). q.lengths) lists, length-take passes p.lengths, r.lengths_are_lem) in (
            front-accepted ws p bodies why why_is z (omega (arith, h, bytes_asked)),
            λ i. record { words = (words ∙ v.words_are) i; blocks = blocked i; passes = passed i; bytes = bytes_asked i },
          )
