-- The round trip over whole lists of the definitions' calls: after an accepted start each packet owed is read as the book has it, and the
-- reader's state stays valid.
use mathlib.Core.Path.{◌≡◌, refl, sym, subst}
use mathlib.Core.Logic.{◌⊎◌, inl, inr}
use mathlib.Core.List.{List, [], ◌∷◌}
use Prim.Native.Nat.{ℕ, ◌+◌}
use lib.ListN.{length, take}
use lib.Dec.{T}
use Rattle.t800.specs.declared.Band.{Band}
use Rattle.t800.specs.State.{writer, reader}
use Rattle.t800.specs.Start.{start}
use Rattle.t800.specs.Reports.{RecordForm}
use Rattle.t800.specs.Book.{BlockEntry, new_book, add_counts}
use Rattle.t800.specs.Interface.{write_of, read_of}
use Rattle.t800.specs.RoundTrip.{Owed}
use Rattle.round_trip.proofs.Trip.Lists.{WriterCall, owed, all_terminated_as_style, ReaderCall, refused_read, packet_read, ReadsAsOwed}
use Rattle.round_trip.proofs.Trip.Calls.{FirstOwed, first_owed, refused-read_keeps}
use Rattle.round_trip.proofs.Trip.Invariant.{Invariant, reader-in_range, after_start, packet-gives, more_gives, after_packet}

pub all_read : (form : RecordForm) (bs : List Band) (s t : ℕ) (ws rs : List ℕ) (es : List BlockEntry) (reads : List (ReaderCall form))
    (writes : List WriterCall) → Invariant bs s t ws rs es → T (all_terminated_as_style s ws es writes)
    → ReadsAsOwed form rs (owed s ws es writes) reads
unfolding ReadsAsOwed
all_read form bs s t ws rs es [] writes y h = reader-in_range bs s t ws rs es (length rs) y refl
all_read form bs s t ws rs es (refused_read c ∷ reads) writes y h =
    λ z. subst (λ (v : List ℕ). ReadsAsOwed form v (owed s ws es writes) reads) (sym (refused-read_keeps form rs c z))
    (all_read form bs s t ws rs es reads writes y h)
all_read form bs s t ws rs es (packet_read c ∷ reads) writes y h =
    go (first_owed s ws es writes h) (λ v u es₂ later i k. all_read form bs s (t + 1) v u es₂ reads later i k)
  where
    go : (owed s ws es writes ≡ []) ⊎ FirstOwed s ws es writes
        → ((v u : List ℕ) (es₂ : List BlockEntry) (later : List WriterCall) → Invariant bs s (t + 1) v u es₂
        → T (all_terminated_as_style s v es₂ later) → ReadsAsOwed form u (owed s v es₂ later) reads)
        → ReadsAsOwed form rs (owed s ws es writes) (packet_read c ∷ reads)
    go (inl e) k = subst (λ (os : List Owed). ReadsAsOwed form rs os (packet_read c ∷ reads)) (sym e) tt
    go (inr f) k =
        subst (λ (os : List Owed). ReadsAsOwed form rs os (packet_read c ∷ reads)) (sym f.is)
        (λ ask. (
          packet-gives bs s t ws rs es f.call y f.accepts f.terminated form c ask,
          more_gives bs s t ws rs es f.call y f.accepts f.terminated form c ask,
          k (write_of ws f.call).state (read_of form rs c).state (add_counts es f.call.contribution.counts) f.rest
              (after_packet bs s t ws rs es f.call y f.accepts f.terminated form c ask) f.rest-terminated,
        ))

pub all_packets_read : (form : RecordForm) (n : ℕ) (given : List Band) (style : ℕ) (planes lent lent' : List ℕ)
    → (start writer n given style planes lent).answer ≡ 0
    → (start reader n given style [] lent').answer ≡ 0
    → (ws : List WriterCall)
    → T (all_terminated_as_style style (start writer n given style planes lent).state (new_book (take n given) planes) ws)
    → (rs : List (ReaderCall form))
    → ReadsAsOwed form (start reader n given style [] lent').state
    (owed style (start writer n given style planes lent).state (new_book (take n given) planes) ws) rs
all_packets_read form n given style planes lent lent' ew er ws h rs =
    all_read form (take n given) style 0 (start writer n given style planes lent).state (start reader n given style [] lent').state
    (new_book (take n given) planes) rs ws
    (after_start n given style planes lent lent' ew er) h
