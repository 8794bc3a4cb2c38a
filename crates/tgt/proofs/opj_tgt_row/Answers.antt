use mathlib.Core.Path.{◌≡◌, sym, ap, ◌∙◌}
use mathlib.Core.List.{List, [], ◌++◌, append_assoc, append-nil}
use Prim.Native.Nat.{ℕ, suc, ◌+◌, ◌-◌, ◌*◌, ◌/◌, ◌<◌}
use native.Mathlib.Nat.{mul-le-mul}
use native.Mathlib.Omega.{arith}
use lib.ListN.{length, get_or, set, take, drop, replicate, drop_of_length-le, take-append-drop}
use lib.Seq.{length-take-le, drop-cons, drop-drop, drop-set-lt, get_or-take, take-suc-set}
use Rattle.t800.specs.declared.Level.{Level}
use Rattle.t800.specs.TagTree.{no_level}
use Rattle.tgt.specs.Path.{row_from, row_over}
use borrow.Author.Rules.{rules}
use Rattle.tgt.proofs.opj_tgt_row.Goals as goal

-- The invariant: the nodes that are stored, and those of the levels left, are the row.

-- one level more

row_turn : (ls : List Level) (row : List ℕ) (l : Level) (i n y : ℕ) → i < length ls → i < length row → l ≡ get_or ls i no_level
    → take (i + 1) (set row i (n + y * l.w)) ++ row_from (drop (i + 1) ls) (n + l.w * l.h) (y / 2) ≡ take i row ++ row_from (drop i ls) n y
unfolding row_from
row_turn ls row l i n y h g e =
    let q : i + 1 ≡ suc i = omega arith in
    rw (q, drop-cons ls i no_level h, sym e, take-suc-set row i (n + y * l.w) g, append_assoc)

rest-turn : (row : List ℕ) (i v : ℕ) → i < 7 → drop i row ≡ replicate (7 - i) 0 → drop (i + 1) (set row i v) ≡ replicate (7 - (i + 1)) 0
rest-turn row i v h e =
    let q : 7 - i ≡ suc (7 - (i + 1)) = omega arith in
    drop-set-lt (i + 1) row i v (omega arith) ∙ sym (drop-drop 1 i row) ∙ ap (drop 1) e ∙ ap (λ (n : ℕ). drop 1 (replicate {A = ℕ} n 0)) q

pub loop-i-preserved : goal.loop-i-preserved
loop-i-preserved c = let l = c.loop-i in
    let s = c in
    let here = c.loop-i-test.true in
    let few = s.requires.0.at_most_seven in
    let levels = s.args.levels in
    let depth = s.args.depth in
    let g : length levels ≡ 7 = search rules in
    let r : length l.row ≡ 7 = search rules in
    let long : length (take depth levels) ≡ depth = length-take-le depth levels (omega arith) in (
      omega (arith, mul-le-mul (s.requires.0.across l.i here) (s.requires.0.down l.i here)),
      omega arith,
      row_turn (take depth levels) l.row (get_or levels l.i no_level) l.i l.below l.place (omega arith) (omega arith)
          (sym (get_or-take depth levels l.i no_level here)) ∙ l.invariant.2,
      rest-turn l.row l.i (l.below + l.place * (get_or levels l.i no_level).w) (omega arith) l.invariant.3,
    )

pub returns : goal.returns
unfolding row_from row_over
returns c = let l = c.loop-i in
    let s = c in
    let levels = s.args.levels in
    let depth = s.args.depth in
    let g : length levels ≡ 7 = search rules in
    let long : length (take depth levels) ≡ depth = length-take-le depth levels (omega (arith, s.requires.0.at_most_seven)) in
    let e : l.i ≡ depth = omega arith in
    let none : drop l.i (take depth levels) ≡ [] = drop_of_length-le (take depth levels) {i = l.i} (omega arith) in
    let stored : take l.i l.row ≡ row_from (take depth levels) 0 s.args.y =
    sym (append-nil (take l.i l.row))
    ∙ sym (ap (λ (ls : List Level). take l.i l.row ++ row_from ls l.below l.place) none) ∙ l.invariant.2 in
    sym (take-append-drop l.i l.row)
    ∙ ap (λ (ns : List ℕ). ns ++ drop l.i l.row) stored
    ∙ ap (λ (ns : List ℕ). row_from (take depth levels) 0 s.args.y ++ ns) l.invariant.3
    ∙ ap (λ (n : ℕ). row_from (take depth levels) 0 s.args.y ++ replicate {A = ℕ} (7 - n) 0) e
