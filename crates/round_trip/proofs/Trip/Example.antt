-- The round trip says something: fifteen calls over seven layers, measuring and refused ones between, that meet its premises and owe seven
-- packets, one of them without passes, by computing. Two bands, one of them empty, and both markers.
use mathlib.Core.Path.{◌≡◌, refl}
use mathlib.Core.Bool.{true, false}
use mathlib.Core.List.{List, [], ◌∷◌}
use Prim.Native.Nat.{ℕ}
use lib.ListN.{replicate}
use lib.Dec.{T}
use Rattle.t800.specs.declared.Band.{Band}
use Rattle.t800.specs.declared.Markers.{Markers}
use Rattle.t800.specs.State.{writer, reader}
use Rattle.t800.specs.Start.{start}
use Rattle.t800.specs.Reports.{RecordForm}
use Rattle.t800.specs.Book.{BlockEntry, new_book, terminated_at, terminated_as_style}
use Rattle.t800.specs.Interface.{WriteCall, write_of}
use Rattle.t800.specs.RoundTrip.{Owed}
use Rattle.round_trip.proofs.Trip.Lists.{WriterCall, measuring, writing, owed_for, owed, all_terminated_as_style, ReaderCall}
use Rattle.round_trip.proofs.Trip.Lists.{ReadsAsOwed}
use Rattle.t800.proofs.Table.{row_holds}
use Rattle.round_trip.proofs.Trip.RoundTrip.{all_packets_read}

-- two blocks in one band of 9 planes, none in one of 5; style 1, so that segments end after 10, 12, 13, 15, 16 and so on passes
abbrev given : List Band
given = record { across = 2; down = 1; planes = 9 } ∷ record { across = 0; down = 3; planes = 5 } ∷ []

abbrev planes : List ℕ
planes = 7 ∷ 4 ∷ []

abbrev lent : List ℕ
lent = replicate 39 0

abbrev both : Markers
both = record { sop = true; eph = true }

-- counts, lengths, marks; markers, bytes of body and output
abbrev call : List ℕ → List ℕ → List ℕ → Markers → ℕ → ℕ → WriteCall
call cs ls ms m body output = record {
  scratch = replicate 39 0;
  contribution = record { counts = cs; lengths = ls; marks = ms };
  body = replicate body 255;
  markers = m;
  number = 258;
  output = replicate output 0;
}

abbrev calls : List WriterCall
calls =
    writing (call (3 ∷ 0 ∷ []) (5 ∷ 6 ∷ 7 ∷ []) (0 ∷ 0 ∷ 0 ∷ []) both 18 4)
    ∷ measuring (call (3 ∷ 0 ∷ []) (5 ∷ 6 ∷ 7 ∷ []) (0 ∷ 0 ∷ 0 ∷ []) both 0 0)
    ∷ writing (call (3 ∷ 0 ∷ []) (5 ∷ 6 ∷ 7 ∷ []) (0 ∷ 0 ∷ 0 ∷ []) both 18 60)
    ∷ writing (call (1 ∷ []) (5 ∷ []) (0 ∷ []) both 5 60)
    ∷ writing (call (9 ∷ 1 ∷ []) (1 ∷ 1 ∷ 1 ∷ 1 ∷ 1 ∷ 1 ∷ 1 ∷ 40 ∷ 1 ∷ 3 ∷ []) (0 ∷ 0 ∷ 0 ∷ 0 ∷ 0 ∷ 0 ∷ 1 ∷ 0 ∷ 1 ∷ 0 ∷ []) both 51 90)
    ∷ measuring (call (0 ∷ 0 ∷ []) [] [] both 0 0)
    ∷ writing (call (0 ∷ 0 ∷ []) [] [] both 0 20)
    ∷ writing (call (1 ∷ 0 ∷ []) (9 ∷ []) (1 ∷ []) both 8 40)
    ∷ writing (call (2 ∷ 3 ∷ []) (300 ∷ 0 ∷ 2 ∷ 2 ∷ 2 ∷ []) (1 ∷ 0 ∷ 0 ∷ 0 ∷ 0 ∷ []) (record { sop = true; eph = false }) 306 330)
    ∷ writing (call (0 ∷ 1 ∷ []) (0x80000000 ∷ []) (0 ∷ []) both 0 40)
    ∷ writing (call (0 ∷ 1 ∷ []) (70 ∷ []) (0 ∷ []) (record { sop = false; eph = true }) 70 100)
    ∷ writing (call (4 ∷ 2 ∷ []) (1 ∷ 2 ∷ 3 ∷ 4 ∷ 5 ∷ 6 ∷ []) (1 ∷ 1 ∷ 0 ∷ 0 ∷ 0 ∷ 1 ∷ []) (record { sop = false; eph = false }) 21 60)
    ∷ measuring (call (0 ∷ 4 ∷ []) (9 ∷ 9 ∷ 9 ∷ 9 ∷ []) (0 ∷ 0 ∷ 1 ∷ 0 ∷ []) both 0 0)
    ∷ writing (call (0 ∷ 4 ∷ []) (9 ∷ 9 ∷ 9 ∷ 9 ∷ []) (0 ∷ 0 ∷ 1 ∷ 0 ∷ []) both 36 80)
    ∷ writing (call (0 ∷ 5 ∷ []) (0x7fffffff ∷ 0 ∷ 0 ∷ 0 ∷ 0 ∷ []) (1 ∷ 0 ∷ 0 ∷ 0 ∷ 0 ∷ []) both 0 80)
    ∷ []

abbrev state : List ℕ
state = (start writer 2 given 1 planes lent).state

abbrev book : List BlockEntry
book = new_book given planes

starts : ((start writer 2 given 1 planes lent).answer ≡ 0) × ((start reader 2 given 1 [] lent).answer ≡ 0)
unfolding row_holds
starts = (refl, refl)

terminates : T (all_terminated_as_style 1 state book calls)
unfolding row_holds all_terminated_as_style terminated_as_style terminated_at
terminates = tt

-- the refusals of the writing calls, 0 where a packet is made
unfoldable refusals : List ℕ → List WriterCall → List ℕ
refusals ws [] = []
refusals ws (measuring c ∷ cs) = refusals ws cs
refusals ws (writing c ∷ cs) = (write_of ws c).answer.refusal ∷ refusals (write_of ws c).state cs

refused-between : refusals state calls ≡ 11 ∷ 0 ∷ 3 ∷ 0 ∷ 0 ∷ 10 ∷ 0 ∷ 8 ∷ 0 ∷ 0 ∷ 0 ∷ 9 ∷ []
unfolding row_holds refusals
refused-between = refl

-- which of the packets owed are present
unfoldable presents : List Owed → List ℕ
presents [] = []
presents (o ∷ os) = o.present ∷ presents os

seven_owed : presents (owed 1 state book calls) ≡ 1 ∷ 1 ∷ 0 ∷ 1 ∷ 1 ∷ 1 ∷ 1 ∷ []
unfolding row_holds owed owed_for presents
seven_owed = refl

-- so the round trip applies
applies : (form : RecordForm) (rs : List (ReaderCall form))
    → ReadsAsOwed form (start reader 2 given 1 [] lent).state (owed 1 state book calls) rs
applies form rs = all_packets_read form 2 given 1 planes lent lent starts.0 starts.1 calls terminates rs
