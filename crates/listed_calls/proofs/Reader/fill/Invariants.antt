use Rattle.std.proofs.Common.{◌≡◌, ℕ, ◌+◌, ◌*◌, ◌<◌, ◌≤◌, length, slice_index}
use Rattle.listed_calls.specs.Words.{word_at}
use Rattle.listed_calls.proofs.Reader.fill.Given as goal

abbrev pub invariant-loop-word : goal.invariant-loop-word
invariant-loop-word l = record {
  list : l.self.list.now ≡ l.initial.self.list.now;
  at : l.initial.self.at + 4 * length l.word-items ≤ 18446744073709551615 → l.self.at ≡ l.initial.self.at + 4 * l.word-index;
  words : l.initial.self.at + 4 * length l.word-items ≤ 18446744073709551615 → (k : ℕ) → k < l.word-index → slice_index l.word-items k ≡ word_at l.initial.self.list.now (l.initial.self.at + 4 * k);
}
