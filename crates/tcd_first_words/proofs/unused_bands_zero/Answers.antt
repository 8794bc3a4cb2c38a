use Rattle.std.proofs.Common.{ℕ, ◌∙◌, ◌≡◌, ◌||◌, ◌+◌, ◌*◌, Bool, arith, eq-eqb, eqb, get_or, le-ltb, ltb, ne_eqb, sym, true}
use Rattle.tcd_laws.proofs.Laws.Faults.{every_false, every_true}
use borrow.Author.Count.{below_more}
use Rattle.tcd_first_words.proofs.unused_bands_zero.Goals as goal

pub loop-i-preserved : goal.loop-i-preserved
loop-i-preserved c =
    let i = c.loop-i.i in
    let f : ℕ → Bool = λ k. ltb k (3 * c.args.n) || eqb (get_or c.args.state.now (4 + k) 0) 0 in
    below_more (λ k. f k ≡ true) i c.loop-i.invariant
    (simp (le-ltb i (3 * c.args.n) (omega arith), eq-eqb (get_or c.args.state.now (4 + i) 0) 0 (sym c.word.ensures ∙ c.if-word-ne0.false)))

pub returns : goal.returns
returns c = sym (every_true 9 _ (λ k h. c.loop-i.invariant k (omega arith)))

pub returns-then-word-ne0 : goal.returns-then-word-ne0
returns-then-word-ne0 c =
    let i = c.loop-i.i in
    sym (every_false 9 _ i (omega arith)
    (simp (le-ltb i (3 * c.args.n) (omega arith), ne_eqb (get_or c.args.state.now (4 + i) 0) 0 (λ e. c.if-word-ne0.true (c.word.ensures ∙ e)))))
