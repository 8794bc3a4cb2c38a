-- What a read leaves where it does not touch the segment records.
use Rattle.std.specs.Prelude.{ℕ, ◌≡◌, List}
use Rattle.t800.specs.Reports.{as_words}
use Rattle.t800.specs.Packet.{ReadResult}

-- the segment records stay as they are, whatever they hold
abbrev pub WithAnyRecords : (List ℕ → ReadResult as_words) → (List ℕ → ReadResult as_words) → Type 0
WithAnyRecords a b = (records : List ℕ) → a records ≡ b records
