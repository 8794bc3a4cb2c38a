use Rattle.std.proofs.Common.{◌≡◌, ℕ, ◌+◌, ◌*◌, ◌<◌, ◌≤◌, ◌↔◌, IsTrue, length, slice_index}
use Rattle.listed_calls.specs.Words.{word_at}
use Rattle.listed_calls.proofs.Reader.has_words.Given as goal

abbrev pub invariant-loop-answer : goal.invariant-loop-answer
invariant-loop-answer l = record {
  list : l.self.list.now ≡ l.initial.self.list.now;
  at : l.initial.self.at + 4 * length l.answers ≤ 18446744073709551615 → l.self.at ≡ l.initial.self.at + 4 * l.answer-index;
  same : l.initial.self.at + 4 * length l.answers ≤ 18446744073709551615 → (IsTrue l.same ↔ ((k : ℕ) → k < l.answer-index → slice_index l.answers k ≡ word_at l.initial.self.list.now (l.initial.self.at + 4 * k)));
}
