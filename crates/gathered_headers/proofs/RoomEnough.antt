-- A header that may have 164 records a block is refused for want of records never: its refusal is at most 12.
use mathlib.Core.Bool.{not, ◌&&◌}
use mathlib.Core.List.{List, [], ◌∷◌, reverse}
use Prim.Native.Nat.{ℕ, zero, suc, ◌+◌, ◌-◌, ◌*◌, ◌≤◌}
use native.Mathlib.Omega.{arith}
use lib.ListN.{length}
use lib.Dec.{ltb, leb, eqb}
use borrow.Author.Tests.{leb-true, eqb-true, not-false}
use Rattle.t800.specs.declared.Bio.{Bio}
use Rattle.t800.specs.declared.Markers.{Markers}
use Rattle.t800.specs.Bits.{get_bit, ends_in_ff}
use Rattle.t800.specs.TagTree.{PathRead, value, read_path}
use Rattle.t800.specs.PassCount.{read_passes}
use Rattle.t800.specs.Segments.{width}
use Rattle.t800.specs.Reports.{RecordForm, room_for_all}
use Rattle.t800.specs.State.{Block, blocks, bands, layer, length_bits, reader}
use Rattle.t800.specs.WriteHeader.{is_new}
use Rattle.t800.specs.ReadHeader.{HeaderRead, passes_taken, read_segment, read_segments, read_zero_planes, read_included, read_new_block}
use Rattle.t800.specs.ReadHeader.{read_old_block, read_block, read_blocks, read_header}
use Rattle.t800.specs.Packet.{ReadResult, read, read_with, read_refusal, read_refusal_with, read_list_checks}
use Rattle.t800.specs.Packet.{read_absent, read_present, first_bit, header_of}
use Rattle.t800_laws.proofs.Laws.Tests.{either, either-by}
use Rattle.t800_laws.proofs.Laws.ReadValues.{passes_between}
use Rattle.t800_laws.proofs.Laws.Starts.{segment-few, block_few}
use Rattle.t800_laws.proofs.Laws.StateAfter.{read-in_range}
use Rattle.tcd_laws.proofs.Laws.ValidStates.{blocks-of_valid}
use Rattle.gathered_headers.proofs.Pieces.{first_of_lem}

-- refused for something else, if at all
abbrev UpTo12 : HeaderRead → Type 0
UpTo12 r = r.refusal ≤ 12

module _ (src : List ℕ) (room : ℕ) where
  -- from r on, so many records fit
  abbrev Fits : HeaderRead → ℕ → Type 0
  Fits r n = length r.records + n ≤ room

  segment-up_to : (i : ℕ) (k : Block) (n : ℕ) (r : HeaderRead) → UpTo12 r → Fits r 1 → UpTo12 (read_segment src room i k n r)
  unfolding read_segment
  segment-up_to i k n r h f =
      either UpTo12 (ltb 32 (width (length_bits r.words k.at) n)) _ _ (omega arith)
      (either-by UpTo12 (leb room (length r.records)) _ _ (λ t. absurd (omega (arith, leb-true room (length r.records) t))) (λ _. h))

  segments_up_to : (i : ℕ) (k : Block) (f left : ℕ) (r : HeaderRead) → UpTo12 r → Fits r f → UpTo12 (read_segments src room i k f left r)
  unfolding read_segments
  segments_up_to i k zero left r h g = h
  segments_up_to i k (suc f) left r h g =
      let n : ℕ = passes_taken r.words k left in
      let s : HeaderRead = read_segment src room i k n r in
      let one = segment-up_to i k n r h (omega arith) in
      either UpTo12 (eqb s.refusal 0 && ltb 0 (left - n)) _ _
      (segments_up_to i k f (left - n) s one (omega (arith, segment-few src room i k n r))) one

  included_up_to : (i : ℕ) (k : Block) (r : HeaderRead) → UpTo12 r → Fits r 164 → UpTo12 (read_included src room i k r)
  unfolding read_included
  included_up_to i k r h g =
      let n : ℕ = (read_passes src (read_zero_planes src k r).bio).value in
      segments_up_to i k n n _ h (omega (arith, (passes_between src (read_zero_planes src k r).bio).1))

  block_up_to : (t i : ℕ) (k : Block) (r : HeaderRead) → UpTo12 r → Fits r 164 → UpTo12 (read_block src room t i k r)
  unfolding read_block read_new_block read_old_block
  block_up_to t i k r h g =
      let w : PathRead = read_path src k.incl_tree (t + 1) (reverse k.path) 0 r.words r.bio in
      either UpTo12 (is_new r.words k) _ _
      (either UpTo12 (ltb (value w.words (k.incl_tree + 3 * k.leaf)) (t + 1)) _ _ (included_up_to i k _ h g) h)
      (either UpTo12 (eqb (get_bit src r.bio).value 0) _ _ h (included_up_to i k _ h g))

  pub blocks-up_to : (t i : ℕ) (ks : List Block) (r : HeaderRead) → UpTo12 r → Fits r (164 * length ks)
      → UpTo12 (read_blocks src room t i ks r)
  unfolding read_blocks
  blocks-up_to t i [] r h g = h
  blocks-up_to t i (k ∷ ks) r h g =
      let s : HeaderRead = read_block src room t i k r in
      let one = block_up_to t i k r h (omega arith) in
      either UpTo12 (eqb s.refusal 0) _ _ (blocks-up_to t (i + 1) ks s one (omega (arith, block_few src room t i k r))) one

  pub header_up_to_lem : (ws : List ℕ) (b : Bio) → 164 * length (blocks (bands ws)) ≤ room → UpTo12 (read_header src room ws b)
  unfolding read_header
  header_up_to_lem ws b h =
      let r : HeaderRead = record { refusal = 0; words = ws; bio = b; reports = []; records = [] } in
      let s : HeaderRead = read_blocks src room (layer ws) 0 (blocks (bands ws)) r in
      either UpTo12 (eqb s.refusal 0 && ends_in_ff src s.bio) _ _ (omega arith)
      (blocks-up_to (layer ws) 0 (blocks (bands ws)) r (omega arith) (omega arith))

-- 5, 6, 3
lists_up_to : (state scratch reports : List ℕ) → read_refusal state scratch reports ≤ 12
unfolding read_refusal_with
lists_up_to state scratch reports =
    first_of_lem (λ (n : ℕ). n ≤ 12) (read_list_checks state scratch reports) (omega arith) (omega arith, (omega arith, (omega arith, tt)))

-- a read with room for all records
pub read-up_to : (form : RecordForm) (state scratch : List ℕ) (m : Markers) (src reports : List ℕ) (records : form.Lent)
    → room_for_all ≤ form.room records → (read form state scratch m src reports records).answer.refusal ≤ 12
unfolding read_with read_absent read_present
read-up_to form state scratch m src reports records room =
    let why : ℕ = read_refusal state scratch reports in
    let r : HeaderRead = header_of state m src (form.room records) in
    let P : ReadResult form → Type 0 = λ o. o.answer.refusal ≤ 12 in
    either-by P (not (eqb why 0)) _ _ (λ _. lists_up_to state scratch reports)
    (λ f. let ok = read-in_range state scratch reports (eqb-true why 0 (not-false (eqb why 0) f)) in
    either P (eqb (first_bit m src).value 0) _ _ (omega arith)
    (either P (eqb r.refusal 0) _ _ (omega arith)
    (header_up_to_lem src (form.room records) state (first_bit m src).bio
    (omega (arith, blocks-of_valid reader state (length scratch) ok.0)))))
