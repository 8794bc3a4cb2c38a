use Rattle.std.proofs.Common.{ℕ, ◌≡◌, ◌||◌, ◌+◌, ◌*◌, ◌<◌, eqb, get_or, ltb, true}
use Rattle.tcd_first_words.proofs.unused_bands_zero.Given as goal

abbrev pub invariant-loop-i : goal.invariant-loop-i
invariant-loop-i l = (k : ℕ) → k < l.i → (ltb k (3 * l.n) || eqb (get_or l.state (4 + k) 0) 0) ≡ true
