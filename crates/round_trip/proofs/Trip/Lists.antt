-- Lists of the definitions' own calls: what a list of calls of any interface comes down to.
use mathlib.Core.Path.{◌≡◌}
use Prim.Native.Nat.{ℕ, ◌<◌}
use mathlib.Core.Bool.{Bool, true, cond, ◌&&◌}
use mathlib.Core.List.{List, [], ◌∷◌}
use lib.ListN.{length}
use lib.Dec.{eqb}
use Rattle.t800.specs.State.{reader}
use Rattle.t800.specs.Ranges.{valid_state}
use Rattle.t800.specs.Reports.{RecordForm}
use Rattle.t800.specs.Book.{BlockEntry, add_counts, terminated_as_style}
use Rattle.t800.specs.Interface.{WriteCall, write_of, ReadCall, read_of}
use Rattle.t800.specs.RoundTrip as made
use Rattle.t800.specs.RoundTrip.{Owed, ReadsPacket, GivesEntry, with_more}

-- ---- the writer's

pub data WriterCall : Type 0 where
  measuring writing : WriteCall → WriterCall

abbrev pub accepted : List ℕ → WriteCall → Bool
accepted ws c = eqb (write_of ws c).answer.refusal 0

unfoldable pub state_after : List ℕ → List WriterCall → List ℕ
state_after ws [] = ws
state_after ws (measuring c ∷ cs) = state_after ws cs
state_after ws (writing c ∷ cs) = state_after (write_of ws c).state cs

unfoldable pub owed_for : ℕ → List ℕ → List BlockEntry → WriteCall → Owed
owed_for style ws book c = made.owed_for style book c (write_of ws c)

unfoldable pub owed : ℕ → List ℕ → List BlockEntry → List WriterCall → List Owed
owed style ws book [] = []
owed style ws book (measuring c ∷ cs) = owed style ws book cs
owed style ws book (writing c ∷ cs) =
    let yes = owed_for style ws book c ∷ owed style (write_of ws c).state (add_counts book c.contribution.counts) cs in
    let no = owed style (write_of ws c).state book cs in
    cond (accepted ws c) yes no

unfoldable pub all_terminated_as_style : ℕ → List ℕ → List BlockEntry → List WriterCall → Bool
all_terminated_as_style style ws book [] = true
all_terminated_as_style style ws book (measuring c ∷ cs) = all_terminated_as_style style ws book cs
all_terminated_as_style style ws book (writing c ∷ cs) =
    let yes = terminated_as_style style book c.contribution.counts c.contribution.marks
    && all_terminated_as_style style (write_of ws c).state (add_counts book c.contribution.counts) cs in
    let no = all_terminated_as_style style (write_of ws c).state book cs in
    cond (accepted ws c) yes no

-- ---- the reader's

pub data ReaderCall (form : RecordForm) : Type 0 where
  refused_read packet_read : ReadCall form → ReaderCall form

unfoldable pub ReadsAsOwed : (form : RecordForm) → List ℕ → List Owed → List (ReaderCall form) → Type 0
ReadsAsOwed form ws os [] = valid_state reader ws (length ws) ≡ true
ReadsAsOwed form ws os (refused_read c ∷ cs) = 0 < (read_of form ws c).answer.refusal → ReadsAsOwed form (read_of form ws c).state os cs
ReadsAsOwed form ws [] (packet_read c ∷ cs) = Unit {0}
ReadsAsOwed form ws (o ∷ os) (packet_read c ∷ cs) =
    ReadsPacket form ws o c
    → (GivesEntry form o c (read_of form ws c)) × ((more : List ℕ) → GivesEntry form o c (read_of form ws (with_more form c more)))
    × ReadsAsOwed form (read_of form ws c).state os cs
