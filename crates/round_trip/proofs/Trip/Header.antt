-- A packet's header, from states between packets: what is read of it, and the states after it.
use mathlib.Core.Path.{◌≡◌, refl, ◌∙◌}
use mathlib.Core.Bool.{false}
use mathlib.Core.List.{List, [], ◌∷◌, ◌++◌}
use Prim.Native.Nat.{ℕ, ◌+◌, ◌≤◌, ◌<◌}
use native.Mathlib.Nat.{le_trans, le_of_eq, zero-add}
use native.Mathlib.Omega.{arith}
use lib.ListN.{length, get_or, drop}
use lib.Dec.{T}
use Rattle.t800.specs.declared.Bio.{Bio}
use Rattle.t800.specs.Bits.{bio_at, pack, ends_in_ff, bytes_taken, bits_past}
use Rattle.t800.specs.Reports.{body_bytes}
use Rattle.t800.specs.State.{Block, not_yet_included}
use Rattle.t800.specs.WriteHeader.{Contribution, set_new_blocks}
use Rattle.t800.specs.ReadHeader.{read_blocks}
use Rattle.t800.specs.Book.{BlockEntry, entry, entry_from, add_counts, terminated_as_style}
use Rattle.t800_laws.proofs.Laws.Layout.{inclusion, Layout, AllPlaced}
use Rattle.round_trip.proofs.Trip.Bits.{next_bit, bio_after, none_past, packed-bits_read}
use Rattle.round_trip.proofs.Trip.Segments.{read_so_far}
use Rattle.round_trip.proofs.Trip.Changes.{nodes-only, block_stays, blocks-coded}
use Rattle.round_trip.proofs.Trip.SetLeaves.{new_blocks_set}
use Rattle.round_trip.proofs.Trip.WriterState.{WriterState, Acceptable, header_blocks}
use Rattle.round_trip.proofs.Trip.InStep.{InStep, same_in_step}
use Rattle.round_trip.proofs.Trip.Booked.{AllBooked, counts_booked}
use Rattle.round_trip.proofs.Trip.Blocks.{all_ready, blocks-read}
use Rattle.t800_laws.proofs.Laws.HeaderBits.{bits_blocks}

-- the header's blocks read from place p on, with n bytes taken
pub record HeaderReadBack (L : Layout) (s t : ℕ) (src : List ℕ) (room p n : ℕ) (ws rs vs : List ℕ) (ks : List Block)
    (es : List BlockEntry) (c : Contribution) : Type 0 where
  pub words : List ℕ
  pub first_bit : next_bit src (bio_at p) ≡ 1
  pub end : Bio
  pub is : read_blocks src room t 0 ks (read_so_far rs (bio_after src (bio_at p)) [] [])
      ≡ read_so_far words end (entry s es c.counts c.lengths).reports (entry s es c.counts c.lengths).records
  pub whole : ends_in_ff src end ≡ false
  pub taken : bytes_taken src end ≡ p + n
  pub none_past : bits_past src (bio_at p) end ≡ 0
  pub in_step : InStep L s vs words
  pub booked : AllBooked vs ks (add_counts es c.counts)
  pub reader-first : (j : ℕ) → j < 13 → get_or words j 0 ≡ get_or rs j 0

pub header_read : (L : Layout) (s t : ℕ) (ks : List Block) → AllPlaced L ks → t < not_yet_included
    → (src tail : List ℕ) (room p : ℕ) (ws rs : List ℕ) (es : List BlockEntry) (c : Contribution)
    → WriterState L t ws → InStep L s ws rs → AllBooked ws ks es → Acceptable ws ks c
    → T (terminated_as_style s es c.counts c.marks) → length (entry s es c.counts c.lengths).records ≤ room
    → drop p src ≡ pack (1 ∷ (header_blocks t ks c ws).bits) ++ tail
    → HeaderReadBack L s t src room p (length (pack (1 ∷ (header_blocks t ks c ws).bits))) ws rs (header_blocks t ks c ws).words ks es c
unfolding entry body_bytes
header_read L s t ks f ht src tail room p ws rs es c W y b q term enough e =
    let cs : List ℕ = c.counts in
    let us : List ℕ = set_new_blocks t ks cs ws in
    let vs : List ℕ = (header_blocks t ks c ws).words in
    let n = new_blocks_set L t ks cs ws f W.long (λ a m. (W.nodes inclusion a m).low-in) in
    let N = n.0 in
    let off = nodes-only L inclusion ws us N.only in
    let ul : length us ≡ L.size = N.only.long ∙ W.long in
    let set : InStep L s us rs = record {
      sync = N.sync rs y.sync;
      order = N.order y.order;
      blocks = λ a m. same_in_step s ws rs us rs a (block_stays L ws us off a m) (refl, refl, refl, refl) (y.blocks a m);
      writer-length = ul;
      reader-length = y.reader-length;
      style-is = y.style-is;
    } in
    let coded = blocks-coded L t ks cs c.lengths c.marks us f ul in
    let g = packed-bits_read src tail 1 (header_blocks t ks c ws).bits p (omega arith) (bits_blocks t ks cs c.lengths c.marks us) e in
    let ready = all_ready L s t ws us ks es cs c.lengths c.marks ht f N.only b n.1 (λ a m. (W.blocks a m).most)
    q.counts q.lengths q.marks q.few q.fits term in
    let z = blocks-read L s t src room g.end ks es cs c.lengths c.marks 0 0 us rs (bio_after src (bio_at p)) [] [] ht f set
    ready g.reads.2 refl
    (le_trans (le_of_eq (zero-add (length (entry_from s 0 0 es cs c.lengths).records))) enough) in
    record {
      words = z.words;
      first_bit = g.reads.1;
      end = g.end;
      is = z.is;
      whole = g.whole;
      taken = g.taken;
      none_past = none_past src (bio_at p) _ _ g;
      in_step = z.in_step;
      booked = counts_booked L t ws us vs ks es cs f q.counts N.only coded.values coded.passes n.1 b;
      reader-first = z.first;
    }
