-- What the contracts of readers cite.
use Rattle.std.specs.Prelude.{ℕ, ◌+◌, ◌*◌, List, slice_index_or}

-- Four bytes, the highest first; zeros stand beyond the end.
abbrev pub word_at : List ℕ → ℕ → ℕ
word_at list at =
    slice_index_or list at 0 * 16777216 + slice_index_or list (at + 1) 0 * 65536 + slice_index_or list (at + 2) 0 * 256 + slice_index_or list (at + 3) 0
