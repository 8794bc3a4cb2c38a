use lib.ListN.{drop, get_or, length, length-drop, length-take, take}
use lib.Seq.{get_or-take}
use mathlib.Core.List.{List, ◌∷◌, ◌++◌}
use mathlib.Core.Path.{◌∙◌, ◌≡◌, ap, refl, subst, sym}
use native.Mathlib.Omega.{arith}
use Prim.Native.Nat.{◌+◌, ◌-◌, ◌≤◌, ℕ}
use Rattle.t800.specs.Base.{sum}
use Rattle.t800_laws.proofs.Laws.Sums.{sum-turn, sum-end}
use Rattle.t2_settle_states.specs.Settle.{Settles}
use Rattle.t2_settle_states.proofs.Laws.{next_one, settled_to, length-settled, waiting_copied}
use Rattle.t2_settle_states.proofs.Laws.{settle_layer_settles, settles_behind}
use Rattle.t2_settle_states.proofs.settle_states.Goals as goal
use Rattle.t2_settle_states.proofs.settle_states.Goals.{At-loop-i, In-loop-i, Joined-passes-i-eq0, After-copy, then-passes-i-eq0, else-passes-i-eq0}

as_long : (c : At-loop-i) → length c.loop-i.states ≡ length c.args.states.now
as_long c =
    let s = c in
    ap length c.loop-i.invariant.3 ∙ length-settled s.args.scratch.now s.args.states.now s.requires.2 c.loop-i.wait

-- ---- precinct i

abbrev words_of : In-loop-i → ℕ
words_of c = get_or c.args.words.now c.loop-i.i 0

can-be-settled : (c : In-loop-i) →
    let a = c.args in
    let l = c.loop-i in
    Settles (words_of c ∷ drop (l.i + 1) (take a.n a.words.now))
    (get_or a.passes.now l.i 0 ∷ drop (l.i + 1) (take a.n a.passes.now)) (drop l.at a.scratch.now)
    (drop l.at a.states.now)
can-be-settled c =
    let s = c in
    let a = s.args in
    let l = c.loop-i in
    subst (λ (ps : List ℕ). Settles (words_of c ∷ drop (l.i + 1) (take a.n a.words.now)) ps (drop l.at a.scratch.now)
    (drop l.at a.states.now))
    (next_one a.passes.now a.n l.i s.requires.1 (omega (arith, c.loop-i-test.true)))
    (subst (λ (ws : List ℕ). Settles ws (drop l.i (take a.n a.passes.now)) (drop l.at a.scratch.now)
    (drop l.at a.states.now))
    (next_one a.words.now a.n l.i s.requires.0 (omega (arith, c.loop-i-test.true)))
    l.invariant.4)

words-there : (c : In-loop-i) → c.loop-i.at + words_of c ≤ length c.args.states.now
words-there c =
    let s = c in
    let l = c.loop-i in
    omega (
      arith,
      (can-be-settled c).1,
      length-drop l.at s.args.states.now,
      l.invariant.1,
      s.requires.2,
    )

wait-after : (c : Joined-passes-i-eq0) → c.if-passes-i-eq0.wait ≤ c.loop-i.at + words_of (goal.at.Joined-passes-i-eq0 c).In-loop-i
wait-after c =
    let l = c.loop-i in
    let came = c.if-passes-i-eq0.branch in
    elim came [
      | then-passes-i-eq0 w ↦ omega (arith, w.wait-is)
      | else-passes-i-eq0 w ↦ omega (arith, w.wait-is, l.invariant.0)
    ]

last-copied : (c : After-copy) →
    let a = c.args in
    let l = c.loop-i in
    take l.wait l.states ++ (c.copy.new.to ++ drop (l.at - l.wait) (drop l.wait l.states))
    ≡ settled_to l.at a.scratch.now a.states.now
last-copied c =
    let s = c in
    let l = c.loop-i in
    waiting_copied s.args.scratch.now s.args.states.now s.requires.2 l.states c.copy.new.to l.wait l.at
    l.invariant.3 l.invariant.0 (omega (arith, l.invariant.1, s.requires.2)) c.copy.ensures

pub loop-i-init : goal.loop-i-init
loop-i-init c = (omega arith, omega arith, omega arith, refl, c.requires.3)

pub settle_layer-requires : goal.settle_layer-requires
settle_layer-requires c =
    let s = c in
    let l = c.loop-i in
    let t = c in
    let e = as_long (goal.at.settle_layer-requires c).At-loop-i in (
      omega (arith, l.invariant.0),
      omega (arith, e, (can-be-settled (goal.at.settle_layer-requires c).In-loop-i).0, words-there (goal.at.settle_layer-requires c).In-loop-i),
      s.requires.2 ∙ sym e,
    )

pub overflow_add-wait : goal.overflow_add-wait
overflow_add-wait c =
    let s = c in
    omega (arith, words-there (goal.at.overflow_add-wait c).In-loop-i, s.well_formed.1.0)

pub overflow_add-at : goal.overflow_add-at
overflow_add-at c =
    let s = c in
    omega (arith, words-there (goal.at.overflow_add-at c).In-loop-i, s.well_formed.1.0)

pub loop-i-preserved : goal.loop-i-preserved
loop-i-preserved c =
    let s = c in
    let a = s.args in
    let l = c.loop-i in
    let t = c in
    let z = can-be-settled (goal.at.loop-i-preserved c).In-loop-i in
    let later : c.if-passes-i-eq0.states ≡ settled_to c.if-passes-i-eq0.wait a.scratch.now a.states.now =
    elim c.if-passes-i-eq0.branch [
      | then-passes-i-eq0 w ↦ w.states-is ∙ w.settle_layer.ensures
          ∙ settle_layer_settles a.scratch.now a.states.now s.requires.2 l.states l.wait l.at
          (words_of (goal.at.loop-i-preserved c).In-loop-i) l.invariant.3 l.invariant.0 z.0 z.1 (z.2 w.if-passes-i-eq0.true)
          ∙ ap (λ (n : ℕ). settled_to n a.scratch.now a.states.now) (sym w.wait-is)
      | else-passes-i-eq0 w ↦ w.states-is ∙ l.invariant.3 ∙ ap (λ (n : ℕ). settled_to n a.scratch.now a.states.now) (sym w.wait-is)
    ] in (
      wait-after c,
      omega (arith, words-there (goal.at.loop-i-preserved c).In-loop-i, s.requires.2),
      omega (
        arith,
        sum-turn (take a.n a.words.now) l.i
            (omega (arith, length-take a.n a.words.now, s.requires.0, t.loop-i-test.true)),
        get_or-take a.n a.words.now l.i 0 (omega (arith, t.loop-i-test.true)),
        l.invariant.2,
      ),
      later,
      settles_behind (drop (l.i + 1) (take a.n a.words.now)) (drop (l.i + 1) (take a.n a.passes.now)) a.scratch.now
          a.states.now l.at (words_of (goal.at.loop-i-preserved c).In-loop-i) z.3,
    )

-- ---- the words that wait at last
pub slice_bounds-copy-end-2 : goal.slice_bounds-copy-end-2
slice_bounds-copy-end-2 c =
    let l = c.loop-i in
    omega (arith, as_long (goal.at.slice_bounds-copy-end-2 c).At-loop-i, l.invariant.1, c.requires.2)

pub copy-requires : goal.copy-requires
copy-requires c =
    let s = c in
    let l = c.loop-i in
    omega (
      arith,
      as_long (goal.at.copy-requires c).At-loop-i,
      s.requires.2,
      length-take (l.at - l.wait) (drop l.wait s.args.scratch.now),
      length-take (l.at - l.wait) (drop l.wait l.states),
      length-drop l.wait s.args.scratch.now,
      length-drop l.wait l.states,
    )

pub shape_of-states : goal.shape_of-states
shape_of-states c =
    let s = c in
    let l = c.loop-i in
    ap length (last-copied (goal.at.shape_of-states c).After-copy)
    ∙ length-settled s.args.scratch.now s.args.states.now s.requires.2 l.at

pub returns : goal.returns
returns c =
    let s = c in
    let l = c.loop-i in
    let e : l.at ≡ sum (take s.args.n s.args.words.now) =
    omega (
      arith,
      l.invariant.2,
      sum-end (take s.args.n s.args.words.now) l.i
          (omega (arith, length-take s.args.n s.args.words.now, c.loop-i-test.false)),
    ) in
    last-copied (goal.at.returns c).After-copy ∙ ap (λ (n : ℕ). settled_to n s.args.scratch.now s.args.states.now) e
