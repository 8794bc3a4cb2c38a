-- The parts of a packet, from its first bit and its header.
use mathlib.Core.Path.{◌≡◌, refl, sym, ap, ◌∙◌, subst}
use mathlib.Core.Logic.{◌≢◌}
use mathlib.Core.Bool.{true, false, not}
use mathlib.Core.List.{List, [], ◌++◌, append-nil}
use Prim.Native.Nat.{ℕ, ◌+◌, ◌-◌, ◌*◌, ◌≤◌}
use native.Mathlib.Omega.{arith}
use lib.Dec.{eqb}
use Rattle.std.proofs.Common.{Err}
use lib.ListN.{length, set, length-replicate, drop_of_length-le}
use borrow.Author.Tests.{eq-eqb, ne_eqb}
use Rattle.t800.specs.declared.Markers.{Markers}
use Rattle.t800.specs.declared.Refusal.{Refusal}
use Rattle.t800.specs.declared.Refusal.TheVariants.{Layers}
use Rattle.t800.specs.RefusalNumbers.{number_of}
use Rattle.t800.specs.declared.SegmentRecord.{SegmentRecord}
use Rattle.t800.specs.Base.{overwrite}
use Rattle.t800.specs.Bits.{Decoded, bio_at, get_bit}
use Rattle.t800.specs.MarkerSegments.{MarkerRead, read_marker, read_sop, read_eph}
use Rattle.t800.specs.State.{reader, not_yet_included, layer, bands, blocks}
use Rattle.t800.specs.Ranges.{valid_state}
use Rattle.t800.specs.Reports.{report_width, body_bytes, as_found, room_for_all}
use Rattle.t800.specs.ReadHeader.{HeaderRead}
use Rattle.t800.specs.Packet.{ReadResult, read_refusal, read, read_with, read_absent, read_present, first_bit}
use Rattle.t800.specs.Gathered.{Parts, reports_for, parts_in_row}
use Rattle.t800_laws.proofs.Laws.Tests.{either, if-true, if-false, if-eq, if-ne, on-eq}
use Rattle.tcd_laws.proofs.Laws.ValidStates.{blocks-of_valid}
use Rattle.gathered_headers.proofs.RoomEnough.{header_up_to_lem}
use Rattle.t2_read_refusals.proofs.Laws.Refusals.{refusal_6, no_refusal}
use Rattle.t2_skip_header.specs.declared.Skipped as Header
use Rattle.t2_skip_header.specs.Skipping.{whole_header}
use Rattle.t2_skip_packet.proofs.Laws.Numbers.{refusal_counts}
use Rattle.t2_skip_packet.specs.Parts.{SkipsPacket, skipped, SkipsFrom, header_from, header_bytes}

-- records stored in a list of none are that list
over_none : (rs : List SegmentRecord) → overwrite [] rs ≡ rs
unfolding overwrite
over_none rs =
    ap (λ (l : List SegmentRecord). rs ++ l) (drop_of_length-le [] {i = length rs} (omega arith)) ∙ append-nil rs

-- the parts as they are told of a read
abbrev told : Markers → (src : List ℕ) → ReadResult as_found → Parts
told m src r = record {
  refusal = r.answer.refusal;
  state = r.state;
  sop = (read_sop m src).skip;
  header = r.answer.taken - (read_sop m src).skip;
  body = body_bytes r.records;
}

module _ (ws : List ℕ) (m : Markers) (src : List ℕ) (valid : valid_state reader ws (length ws) ≡ true) where
  abbrev result : ReadResult as_found
  result = read as_found ws ws m src (reports_for ws) []

  abbrev reports_long : length (reports_for ws) ≡ report_width * length (blocks (bands ws))
  reports_long = length-replicate (report_width * length (blocks (bands ws))) 0

  parts_are : parts_in_row ws m src ≡ told m src result
  unfolding parts_in_row
  parts_are = refl

  abbrev why_not : ℕ
  why_not = read_refusal ws ws (reports_for ws)

  -- 6, and nothing is read
  pub no_more_layers : layer ws ≡ not_yet_included → (parts_in_row ws m src).refusal ≡ 6
  unfolding parts_in_row read_with
  no_more_layers e =
      let six : 6 ≡ why_not = refusal_6 ws ws (reports_for ws) valid e in
      let n : eqb why_not 0 ≡ false = ne_eqb why_not 0 (omega (arith, six)) in
      ap (λ (r : ReadResult as_found). r.answer.refusal) (if-true (not (eqb why_not 0)) _ _ (ap not n)) ∙ sym six

  module _ (more : layer ws ≢ not_yet_included) where
    none : eqb why_not 0 ≡ true
    none = eq-eqb why_not 0 (sym (no_refusal ws ws (reports_for ws) valid more reports_long))

    abbrev first : Decoded
    first = first_bit m src

    -- the state after the packet, and its parts, from the header's
    abbrev parts_of : HeaderRead → Parts
    parts_of h = record {
      refusal = 0;
      state = set h.words 3 (layer ws + 1);
      sop = (read_sop m src).skip;
      header = header_bytes src m.eph (read_sop m src).skip h.bio;
      body = body_bytes h.records;
    }

    abbrev header : HeaderRead
    header = whole_header src ws first.bio

    lists_taken : not (eqb why_not 0) ≡ false
    lists_taken = ap not none

    is_absent : first.value ≡ 0 → result ≡ read_absent as_found ws m src (reports_for ws) [] (read_sop m src) first.bio
    unfolding read_with
    is_absent z = if-false _ _ _ lists_taken ∙ if-eq first.value 0 _ _ z

    is_present : first.value ≢ 0 → header.refusal ≡ 0 → result ≡ read_present as_found ws m src [] (read_sop m src) header
    unfolding read_with
    is_present n z = if-false _ _ _ lists_taken ∙ if-ne first.value 0 _ _ n ∙ if-eq header.refusal 0 _ _ z

    is_refused_lem : first.value ≢ 0 → header.refusal ≢ 0 → result.answer.refusal ≡ header.refusal
    unfolding read_with
    is_refused_lem n z =
        ap (λ (r : ReadResult as_found). r.answer.refusal)
        (if-false _ _ _ lists_taken ∙ if-ne first.value 0 _ _ n ∙ if-ne header.refusal 0 _ _ z)

    from_absent : first.value ≡ 0 → header_from src ws first ≡ record { refusal = 0; words = ws; bio = first.bio; reports = []; records = [] }
    unfolding header_from
    from_absent z = if-eq first.value 0 _ _ z

    from_present : first.value ≢ 0 → header_from src ws first ≡ header
    unfolding header_from
    from_present n = if-ne first.value 0 _ _ n

    absent-parts : told m src (read_absent as_found ws m src (reports_for ws) [] (read_sop m src) first.bio)
        ≡ parts_of (record { refusal = 0; words = ws; bio = first.bio; reports = []; records = [] })
    unfolding header_bytes read_absent read_eph body_bytes
    absent-parts = refl

    present_parts : told m src (read_present as_found ws m src [] (read_sop m src) header) ≡ parts_of header
    unfolding header_bytes read_present read_eph
    present_parts = ap (λ (rs : List SegmentRecord). record {
      refusal = 0;
      state = set header.words 3 (layer ws + 1);
      sop = (read_sop m src).skip;
      header = header_bytes src m.eph (read_sop m src).skip header.bio;
      body = body_bytes rs;
    }) (over_none header.records)

    -- ---- by the first bit and the header

    pub refused-alike : (parts_in_row ws m src).refusal ≡ (header_from src ws first).refusal
    unfolding read_absent read_present
    refused-alike =
        ap (λ (p : Parts). p.refusal) parts_are
        ∙ on-eq first.value 0
        (λ z. ap (λ (r : ReadResult as_found). r.answer.refusal) (is_absent z)
        ∙ sym (ap (λ (h : HeaderRead). h.refusal) (from_absent z)))
        (λ n. on-eq header.refusal 0
        (λ z. ap (λ (r : ReadResult as_found). r.answer.refusal) (is_present n z) ∙ sym z)
        (is_refused_lem n)
        ∙ sym (ap (λ (h : HeaderRead). h.refusal) (from_present n)))

    pub parts_by_header : (header_from src ws first).refusal ≡ 0 → parts_in_row ws m src ≡ parts_of (header_from src ws first)
    parts_by_header e =
        parts_are
        ∙ on-eq first.value 0
        (λ z. ap (told m src) (is_absent z) ∙ absent-parts ∙ ap parts_of (sym (from_absent z)))
        (λ n. let z : header.refusal ≡ 0 = sym (ap (λ (h : HeaderRead). h.refusal) (from_present n)) ∙ e in
        ap (told m src) (is_present n z) ∙ present_parts ∙ ap parts_of (sym (from_present n)))

-- ---- what the code finds

module _ (ws : List ℕ) (m : Markers) (src : List ℕ) (valid : valid_state reader ws (length ws) ≡ true) where
  abbrev parts : Parts
  parts = parts_in_row ws m src

  pub layers_refused : (vs : List ℕ) → layer ws ≡ not_yet_included → SkipsPacket parts vs (skipped (Err Layers))
  layers_refused vs e =
      let six = no_more_layers ws m src valid e in
      record { refuses = sym six; holds = λ z. absurd (omega (arith, sym six ∙ z)) }

  module _ (more : layer ws ≢ not_yet_included) (s : MarkerRead) (sop : s ≡ read_marker m.sop 6 0x91 src 0) (first : Decoded)
      (bit : first ≡ get_bit src (bio_at s.skip)) (vs : List ℕ) (h : Header.Skipped) (skips : SkipsFrom src ws first vs h) where
    sop_is : s ≡ read_sop m src
    unfolding read_sop
    sop_is = sop

    first-is : first ≡ first_bit m src
    first-is = bit ∙ ap (λ (f : MarkerRead). get_bit src (bio_at f.skip)) sop_is

    skips_first : SkipsFrom src ws (first_bit m src) vs h
    skips_first = subst (λ (d : Decoded). SkipsFrom src ws d vs h) first-is skips

    abbrev read-header : HeaderRead
    read-header = header_from src ws (first_bit m src)

    alike : parts.refusal ≡ read-header.refusal
    alike = refused-alike ws m src valid more

    pub header_refused : (us : List ℕ) (why : Refusal) → number_of why ≡ h.refusal → SkipsPacket parts us (skipped (Err why))
    header_refused us why e =
        let number = e ∙ skips_first.refuses ∙ sym alike in
        record { refuses = number; holds = λ z. absurd (refusal_counts why (number ∙ z)) }

    pub packet-skipped : (us : List ℕ) (bytes : ℕ) → h.refusal ≡ 0 → us ≡ set vs 3 (layer ws + 1)
        → bytes ≡ header_bytes src m.eph s.skip h.bio
        → SkipsPacket parts us (record { refusal = 0; sop = s.skip; header = bytes; body = h.bytes })
    packet-skipped us bytes z e b =
        let why : read-header.refusal ≡ 0 = sym skips_first.refuses ∙ z in
        let k = skips_first.holds why in
        let p : parts ≡ _ = parts_by_header ws m src valid more why in
        let skip : s.skip ≡ (read_sop m src).skip = ap (λ (f : MarkerRead). f.skip) sop_is in
        record {
          refuses = sym (alike ∙ why);
          holds = λ _. (
            e ∙ ap (λ (l : List ℕ). set l 3 (layer ws + 1)) k.0 ∙ sym (ap (λ (x : Parts). x.state) p),
            skip ∙ sym (ap (λ (x : Parts). x.sop) p),
            b ∙ (λ j. header_bytes src m.eph (skip j) (k.1 j)) ∙ sym (ap (λ (x : Parts). x.header) p),
            k.2 ∙ sym (ap (λ (x : Parts). x.body) p),
          );
        }

-- ---- the header's number

pub header_number : (src ws : List ℕ) (valid : valid_state reader ws (length ws) ≡ true) (first : Decoded) (vs : List ℕ)
    (h : Header.Skipped) → SkipsFrom src ws first vs h → h.refusal ≤ 12
unfolding header_from
header_number src ws valid first vs h k =
    let one = header_up_to_lem src room_for_all ws first.bio (omega (arith, blocks-of_valid reader ws (length ws) valid)) in
    let all : (header_from src ws first).refusal ≤ 12 =
    either (λ (r : HeaderRead). r.refusal ≤ 12) (eqb first.value 0) _ _ (omega arith) one in
    omega (arith, k.refuses, all)
