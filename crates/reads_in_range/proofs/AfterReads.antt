-- An accepted read leaves its reader's state in range, and as long.
use mathlib.Core.Path.{◌≡◌, refl, sym, ap, ◌∙◌, subst}
use mathlib.Core.Logic.{◌≢◌}
use mathlib.Core.Bool.{Bool, true, false, not, ◌&&◌}
use mathlib.Core.List.{List, []}
use Prim.Native.Nat.{ℕ, ◌+◌, ◌*◌, ◌≤◌, ◌<◌}
use native.Mathlib.Omega.{arith}
use lib.ListN.{length, get_or, set, length-set}
use lib.Seq.{get_or-set_same, get_or-set_other}
use lib.Dec.{leb, eqb}
use borrow.Author.Tests.{eqb-true, eqb-false, eq-eqb, ne_eqb, le-leb, le-ltb, not-true, not-false}
use Rattle.t800.specs.declared.Band.{Band}
use Rattle.t800.specs.declared.Bio.{Bio}
use Rattle.t800.specs.declared.Markers.{Markers}
use Rattle.t800.specs.Bits.{bio_at, get_bit, ends_in_ff}
use Rattle.t800.specs.MarkerSegments.{read_sop}
use Rattle.t800.specs.State.{not_yet_included, reader, role, band_count, style, layer, bands, blocks, state_length}
use Rattle.t800.specs.Ranges.{bad_shape, bad_style, band_too_deep, unused_bands_zero, bands_in_range, valid_state, valid_state_with}
use Rattle.t800.specs.Reports.{as_found}
use Rattle.t800.specs.ReadHeader.{HeaderRead, read_blocks, read_header}
use Rattle.t800.specs.Packet.{read_refusal, ReadResult, read_absent, read_present, read_with}
use Rattle.t800.specs.Gathered.{parts_in_row, parts_gathered, read_gathered}
use Rattle.t800_laws.proofs.Laws.Tests.{either, either-by, and_left, and_right}
use Rattle.t800_laws.proofs.Laws.Layout.{Tree, not_yet, layout_of, NodeFrom, BlockFrom, node_between, block_between, blocks-placed}
use Rattle.t800_laws.proofs.Laws.FirstWords.{same_bands}
use Rattle.t800_laws.proofs.Laws.Kept.{Kept, kept}
use Rattle.t800_laws.proofs.Laws.HeaderKept.{header_read}
use Rattle.t800_laws.proofs.Laws.StateAfter.{read-in_range}
use Rattle.tcd_laws.proofs.Laws.ValidStates.{ValidState, valid_state_lem, long_enough, block_known}
use Rattle.reads_in_range.specs.InRange.{StaysInRange, ReadsInRange}
use Rattle.reads_in_range.proofs.Ranges.{NodeIn, BlockIn, node_known, node_in_range_lem, block_is_in, block_in_range_lem}
use Rattle.reads_in_range.proofs.Ranges.{bands-in_range}
use Rattle.reads_in_range.proofs.Nodes.{Here}
use Rattle.reads_in_range.proofs.Blocks.{same_block_in, AllIn, all_read}

module _ (ws : List ℕ) (n : ℕ) (valid : valid_state reader ws n ≡ true) where
  abbrev bs : List Band
  bs = bands ws

  abbrev most : ℕ
  most = 164 * layer ws

  known : ValidState reader ws n
  known = valid_state_lem reader ws n valid

  no_writer : eqb (role ws) 1 ≡ false
  unfolding reader
  no_writer = ne_eqb (role ws) 1 (omega (arith, known.role-is))

  -- ---- before the header

  first_in_lem : (p : ℕ) → BlockFrom 13 bs p → BlockIn (style ws) most ws p
  first_in_lem p b = block_is_in ws p no_writer (block_known ws 13 bs p known.ranges b)

  first_here : Here (layout_of bs) (style ws) ws
  unfolding state_length
  first_here = record { nodes = node_known ws 13 bs known.ranges; style-is = refl; long = known.length-is }

  abbrev Inside : List ℕ → Type 0
  Inside vs = AllIn (layout_of bs) (style ws) most vs

  first_all : Inside ws
  first_all = record {
    here = first_here;
    blocks = λ p b. same_block_in (style ws) most (most + 164) p ws ws (omega arith) (λ i x y. refl) (first_in_lem p b);
  }

  -- ---- after it

  after_header : (src : List ℕ) (room : ℕ) (b : Bio) → (read_header src room ws b).refusal ≡ 0 → Inside (read_header src room ws b).words
  unfolding read_header
  after_header src room b =
      let first : HeaderRead = record { refusal = 0; words = ws; bio = b; reports = []; records = [] } in
      let r : HeaderRead = read_blocks src room (layer ws) 0 (blocks bs) first in
      either (λ (x : HeaderRead). x.refusal ≡ 0 → Inside x.words) (eqb r.refusal 0 && ends_in_ff src r.bio) _ _
      (λ e. absurd (omega (arith, e)))
      (all_read (layout_of bs) (style ws) most src room (layer ws) 0 (blocks bs) first (blocks-placed bs) first_here first_in_lem)

  -- ---- with the next layer

  module _ (vs : List ℕ) (k : Kept 13 ws vs) (all : Inside vs) (more : layer ws ≢ not_yet_included) where
    abbrev us : List ℕ
    us = set vs 3 (layer ws + 1)

    other : (i : ℕ) → i ≢ 3 → get_or us i 0 ≡ get_or vs i 0
    other i e = get_or-set_other vs 3 i (layer ws + 1) 0 e

    first_word : (i : ℕ) → i < 13 → i ≢ 3 → get_or us i 0 ≡ get_or ws i 0
    first_word i h e = other i e ∙ k.same i h

    thirteen : 13 ≤ length ws
    thirteen = long_enough reader ws n valid

    layer-is : layer us ≡ layer ws + 1
    layer-is = get_or-set_same vs 3 (layer ws + 1) 0 (omega (arith, k.long, thirteen))

    as_long : length us ≡ length ws
    as_long = length-set vs 3 (layer ws + 1) ∙ k.long

    still_no_writer : eqb (role us) 1 ≡ false
    still_no_writer = ap (λ (x : ℕ). eqb x 1) (first_word 0 (omega arith) (omega arith)) ∙ no_writer

    still_in : (p : ℕ) → BlockFrom 13 bs p → BlockIn (style us) (most + 164) us p
    still_in p b =
        let d = block_between 13 bs p b in
        subst (λ (s : ℕ). BlockIn s (most + 164) us p) (sym (first_word 2 (omega arith) (omega arith)))
        (same_block_in (style ws) (most + 164) (most + 164) p vs us (omega arith) (λ i x y. other i (omega (arith, d.0)))
        (all.blocks p b))

    still_node : (t : Tree) (a : ℕ) → NodeFrom t 13 bs a → NodeIn (not_yet t) us a
    still_node t a m =
        let d = node_between t 13 bs a m in
        let q = all.here.nodes t a m in
        record {
          value_in = omega (arith, other a (omega (arith, d.0)), q.value_in);
          low-in = omega (arith, other (a + 1) (omega (arith, d.0)), q.low-in);
          known_in = omega (arith, other (a + 2) (omega (arith, d.0)), q.known_in);
        }

    ranges : bands_in_range us 13 bs ≡ true
    ranges =
        bands-in_range us 13 bs (λ t a m. node_in_range_lem (not_yet t) us a (still_node t a m))
        (λ p b. block_in_range_lem us p still_no_writer (most + 164) (omega (arith, layer-is)) (still_in p b))

    same : (bands us ≡ bs) × (unused_bands_zero us ≡ unused_bands_zero ws)
    same = same_bands ws us first_word

    shape : bad_shape (band_count ws) bs ≡ false
    unfolding valid_state_with
    shape =
        let a : Bool = eqb (role ws) reader in
        let b : Bool = not (bad_shape (band_count ws) bs) in
        let c : Bool = not (bad_style (style ws)) in
        let d : Bool = leb (layer ws) not_yet_included in
        let e : Bool = not (band_too_deep bs) in
        let f : Bool = unused_bands_zero ws in
        let g : Bool = eqb (length ws) (state_length bs) in
        let h : Bool = eqb n (length ws) in
        let v₁ = and_left (a && b && c && d && e && f && g && h) (bands_in_range ws 13 bs) valid in
        let v₂ = and_left (a && b && c && d && e && f) g (and_left (a && b && c && d && e && f && g) h v₁) in
        let v₃ = and_left (a && b && c && d) e (and_left (a && b && c && d && e) f v₂) in
        not-true (bad_shape (band_count ws) bs) (and_right a b (and_left (a && b) c (and_left (a && b && c) d v₃)))

    no_bad_style : bad_style (style ws) ≡ false
    unfolding bad_style
    no_bad_style = le-ltb 63 (style ws) known.style-up_to

    abbrev tests : (r c s l : ℕ) (cs : List Band) (u : Bool) (k : ℕ) → Bool → Bool
    tests r c s l cs u k g =
        eqb r reader && not (bad_shape c cs) && not (bad_style s) && leb l not_yet_included && not (band_too_deep cs) && u
        && eqb k (state_length cs) && eqb k k && g

    are_tests : valid_state reader us (length us)
        ≡ tests (role us) (band_count us) (style us) (layer us) (bands us) (unused_bands_zero us) (length us) (bands_in_range us 13 (bands us))
    unfolding valid_state_with
    are_tests = refl

    all_met : tests (role ws) (band_count ws) (style ws) (layer ws + 1) bs true (length ws) true ≡ true
    all_met =
        rw (
          eq-eqb (role ws) reader known.role-is,
          shape,
          no_bad_style,
          le-leb (layer ws + 1) not_yet_included (omega (arith, known.layer-up_to, more)),
          known.depth,
          eq-eqb (length ws) (state_length bs) known.length-is,
          eq-eqb (length ws) (length ws) refl,
        )

    pub next_layer_in_range : StaysInRange ws us
    next_layer_in_range = record {
      in_range =
          are_tests
          ∙ (λ i. tests (first_word 0 (omega arith) (omega arith) i) (first_word 1 (omega arith) (omega arith) i)
          (first_word 2 (omega arith) (omega arith) i) (layer-is i) (same.0 i) ((same.1 ∙ known.unused) i) (as_long i)
          (bands_in_range us 13 (same.0 i)))
          ∙ ap (tests (role ws) (band_count ws) (style ws) (layer ws + 1) bs true (length ws)) ranges
          ∙ all_met;
      as_long = as_long;
    }

-- ---- the read

pub reads_in_range_lem : ReadsInRange
unfolding ReadsInRange read_with read_absent read_present
reads_in_range_lem form ws scratch m src reports records =
    let why : ℕ = read_refusal ws scratch reports in
    let start : ℕ = (read_sop m src).skip in
    let first = get_bit src (bio_at start) in
    let header : HeaderRead = read_header src (form.room records) ws first.bio in
    let P : ReadResult form → Type 0 = λ o. o.answer.refusal ≡ 0 → StaysInRange ws o.state in
    either-by P (not (eqb why 0)) _ _ (λ t e. absurd (eqb-false why 0 (not-true (eqb why 0) t) e))
    (λ f. let v = read-in_range ws scratch reports (eqb-true why 0 (not-false (eqb why 0) f)) in
    either P (eqb first.value 0) _ _
    (λ _. next_layer_in_range ws (length scratch) v.0 ws (kept 13) (first_all ws (length scratch) v.0) v.1)
    (either-by P (eqb header.refusal 0) _ _
    (λ t _. let z = eqb-true header.refusal 0 t in
    next_layer_in_range ws (length scratch) v.0 header.words (header_read src (form.room records) ws first.bio z)
    (after_header ws (length scratch) v.0 src (form.room records) first.bio z) v.1)
    (λ n e. absurd (eqb-false header.refusal 0 n e))))

-- ---- one packet of a move

pub row_parts_in_range : (ws : List ℕ) (m : Markers) (row : List ℕ) → (parts_in_row ws m row).refusal ≡ 0
    → StaysInRange ws (parts_in_row ws m row).state
unfolding parts_in_row ReadsInRange
row_parts_in_range ws m row e = reads_in_range_lem as_found ws ws m row _ [] e

pub gathered_parts_in_range : (ws : List ℕ) (m : Markers) (headers bodies : List ℕ) → (parts_gathered ws m headers bodies).refusal ≡ 0
    → StaysInRange ws (parts_gathered ws m headers bodies).state
unfolding parts_gathered read_gathered ReadsInRange
gathered_parts_in_range ws m headers bodies e = reads_in_range_lem as_found ws ws _ headers _ [] e
