-- The parts of a packet whose header was skipped in PPT segments.
use mathlib.Core.Path.{◌≡◌, refl, sym, ap, ◌∙◌, subst}
use mathlib.Core.Logic.{◌≢◌}
use mathlib.Core.Bool.{Bool, true, false, cond, not, ◌&&◌}
use mathlib.Core.List.{List, []}
use Prim.Native.Nat.{ℕ, ◌+◌, ◌-◌, ◌%◌, ◌^◌, ◌≤◌, ◌<◌}
use native.Mathlib.Omega.{arith}
use lib.ListN.{length, get_or, set, drop}
use lib.Dec.{eqb}
use borrow.Author.Tests.{eq-eqb, ne_eqb}
use Rattle.t800.specs.declared.Bio.{Bio}
use Rattle.std.proofs.Common.{None, Some, Err}
use Rattle.gathered_headers.proofs.RoomEnough.{blocks-up_to}
use Rattle.t800.specs.declared.Markers.{Markers}
use Rattle.t800.specs.declared.Refusal.{Refusal}
use Rattle.t800.specs.declared.Refusal.TheVariants.{Layers, HeaderEnd}
use Rattle.t800.specs.RefusalNumbers.{number_of}
use Rattle.t800.specs.Bits.{Decoded, bio_at, byte_in, held_bit, get_bit, in_ff, ends_in_ff}
use Rattle.t800.specs.MarkerSegments.{MarkerRead, read_marker, read_sop}
use Rattle.t800.specs.Reports.{room_for_all, body_bytes}
use Rattle.t800.specs.State.{reader, not_yet_included, layer, bands, blocks}
use Rattle.t800.specs.Ranges.{valid_state}
use Rattle.t800.specs.ReadHeader.{HeaderRead, refused, read_blocks, read_header}
use Rattle.t800.specs.Gathered.{Parts, without_sop, read_gathered, parts_in_row, parts_gathered}
use Rattle.t800_laws.proofs.Laws.Tests.{either, if-eq, if-ne, on-eq}
use Rattle.t800_laws.proofs.Laws.Starts.{header_bytes_lem}
use Rattle.tcd_laws.proofs.Laws.ValidStates.{blocks-of_valid}
use Rattle.t2_read_segments.specs.Reading.{BitsIn}
use Rattle.t2_skip_header.specs.declared.Skipped as Header
use Rattle.t2_skip_packet.proofs.Laws.Numbers.{refusal_counts}
use Rattle.t2_skip_packet.specs.Parts.{Skipped, skipped, SkipsPacket, SkipsFrom, header_from}
use Rattle.t2_skip_packet.proofs.Laws.Parts.{layers_refused, header_refused, packet-skipped}
use Rattle.t2_skip_windows.specs.declared.InWindow.{InWindow}
use Rattle.t2_skip_windows.specs.Windows.{Stands}
use Rattle.t2_skip_gathered.specs.Headers.{Arrives, header_up_to, bio_from, EndOf}

-- ---- a packet in a row without SOP, and in gathered headers

module _ (ws : List ℕ) (m : Markers) (src bodies : List ℕ) where
  abbrev row : Parts
  row = parts_in_row ws (without_sop m) src

  abbrev pub parts : Parts
  parts = parts_gathered ws m src bodies

  same_refusal : parts.refusal ≡ row.refusal
  unfolding parts_gathered read_gathered parts_in_row
  same_refusal = refl

  same_state : parts.state ≡ row.state
  unfolding parts_gathered read_gathered parts_in_row
  same_state = refl

  same_body : parts.body ≡ row.body
  unfolding parts_gathered read_gathered parts_in_row
  same_body = refl

  same_header : parts.header ≡ row.header
  unfolding parts_gathered read_gathered parts_in_row read_sop read_marker
  same_header = omega arith

  sop_is : parts.refusal ≡ 0 → parts.sop ≡ (read_sop m bodies).skip
  unfolding parts_gathered read_gathered
  sop_is z = if-eq parts.refusal 0 (read_sop m bodies).skip 0 z

  -- with SOP of the bodies
  skips_beside : (vs : List ℕ) (o : Skipped) (sop : ℕ) → SkipsPacket row vs o → (o.refusal ≡ 0 → sop ≡ (read_sop m bodies).skip)
      → SkipsPacket parts vs (record { refusal = o.refusal; sop = sop; header = o.header; body = o.body })
  skips_beside vs o sop s f = record {
    refuses = s.refuses ∙ sym same_refusal;
    holds = λ z. let h = s.holds (sym same_refusal ∙ z) in (
      h.0 ∙ sym same_state,
      f (s.refuses ∙ sym same_refusal ∙ z) ∙ sym (sop_is z),
      h.2 ∙ sym same_header,
      h.3 ∙ sym same_body,
    );
  }

  -- where it is refused
  pub refused-beside : (vs : List ℕ) (why : ℕ) → why ≢ 0 → SkipsPacket row vs (record { refusal = why; sop = 0; header = 0; body = 0 })
      → SkipsPacket parts vs (record { refusal = why; sop = 0; header = 0; body = 0 })
  refused-beside vs why n s = skips_beside vs (record { refusal = why; sop = 0; header = 0; body = 0 }) 0 s (λ z. absurd (n z))

-- ---- the header from its first bit on

first_not_ff : (src : List ℕ) → (get_bit src (bio_at 0)).value ≡ 0 → in_ff (get_bit src (bio_at 0)).bio ≡ false
unfolding get_bit held_bit byte_in in_ff
first_not_ff src z = ne_eqb ((0 + get_or src 0 0) % 256) 255 (omega arith)

module _ (src ws : List ℕ) where
  abbrev first : Decoded
  first = get_bit src (bio_at 0)

  abbrev read : HeaderRead
  read = header_up_to src ws first

  abbrev started : HeaderRead
  started = record { refusal = 0; words = ws; bio = first.bio; reports = []; records = [] }

  abbrev all : HeaderRead
  all = read_blocks src room_for_all (layer ws) 0 (blocks (bands ws)) started

  abbrev with_end : HeaderRead → HeaderRead
  with_end r = cond (eqb r.refusal 0 && ends_in_ff src r.bio) (refused 12) r

  header_is : header_from src ws first ≡ with_end read
  unfolding header_from read_header ends_in_ff
  header_is =
      on-eq first.value 0
      (λ z. if-eq first.value 0 started _ z
      ∙ sym (ap (λ (t : Bool). cond (t && eqb first.bio.bp (length src)) (refused 12) started) (first_not_ff src z))
      ∙ ap with_end (sym (if-eq first.value 0 started all z)))
      (λ n. if-ne first.value 0 started _ n ∙ ap with_end (sym (if-ne first.value 0 started all n)))

  header_refused_is : read.refusal ≢ 0 → header_from src ws first ≡ read
  header_refused_is n = header_is ∙ ap (λ (t : Bool). cond (t && ends_in_ff src read.bio) (refused 12) read) (ne_eqb read.refusal 0 n)

  header_ends_is : (t : Bool) → read.refusal ≡ 0 → ends_in_ff src read.bio ≡ t → header_from src ws first ≡ cond t (refused 12) read
  header_ends_is t z e =
      header_is ∙ ap (λ (s : Bool). cond (s && ends_in_ff src read.bio) (refused 12) read) (eq-eqb read.refusal 0 z)
      ∙ ap (λ (s : Bool). cond s (refused 12) read) e

  -- its body has fewer than 2^53 bytes
  few_bytes : length (blocks (bands ws)) ≤ 12288 → body_bytes (header_from src ws first).records < 2 ^ 53
  unfolding header_from body_bytes
  few_bytes h =
      on-eq first.value 0
      (λ z. subst (λ (r : HeaderRead). body_bytes r.records < 2 ^ 53) (sym (if-eq first.value 0 started _ z)) (omega arith))
      (λ n. subst (λ (r : HeaderRead). body_bytes r.records < 2 ^ 53) (sym (if-ne first.value 0 started _ n))
      (header_bytes_lem src room_for_all ws first.bio h))

-- ---- what the code finds

module _ (ws : List ℕ) (m : Markers) (bytes bodies : List ℕ) (at : ℕ) (valid : valid_state reader ws (length ws) ≡ true) where
  abbrev over : List ℕ
  over = drop at bytes

  pub layers_gathered : (vs : List ℕ) → layer ws ≡ not_yet_included → SkipsPacket (parts ws m over bodies) vs (skipped (Err Layers))
  layers_gathered vs e = refused-beside ws m over bodies vs 6 (omega arith) (layers_refused ws (without_sop m) over valid vs e)

  module _ (more : layer ws ≢ not_yet_included) (vs : List ℕ) (o : InWindow)
      (arrives : Arrives at vs o (header_up_to over ws (get_bit over (bio_at 0)))) where
    abbrev ended : HeaderRead
    ended = read over ws

    no_sop : MarkerRead
    no_sop = record { skip = 0; mark = 0 }

    no_sop_lem : no_sop ≡ read_marker false 6 0x91 over 0
    unfolding read_marker no_sop
    no_sop_lem = refl

    refused-with : (why : Refusal) → (header_from over ws (first over ws)).refusal ≡ number_of why → (us : List ℕ)
        → SkipsPacket (parts ws m over bodies) us (skipped (Err why))
    unfolding no_sop
    refused-with why e us =
        let h : Header.Skipped = record { bio = bio_at 0; bytes = 0; refusal = number_of why } in
        let s : SkipsFrom over ws (first over ws) vs h = record {
          refuses = sym e;
          holds = λ z. absurd (refusal_counts why (sym e ∙ z));
          bits = record { few = omega arith; place = omega arith };
        } in
        refused-beside ws m over bodies us (number_of why) (refusal_counts why)
        (header_refused ws (without_sop m) over valid more no_sop no_sop_lem (first over ws) refl vs h s us why refl)

    pub blocks-refused : (why : Refusal) → number_of why ≡ o.run.refusal → (us : List ℕ)
        → SkipsPacket (parts ws m over bodies) us (skipped (Err why))
    blocks-refused why is us =
        let n : ended.refusal ≢ 0 = λ z. refusal_counts why (is ∙ arrives.refuses ∙ z) in
        refused-with why
        (ap (λ (r : HeaderRead). r.refusal) (header_refused_is over ws n) ∙ sym arrives.refuses ∙ sym is) us

    pub number_up_to : o.run.refusal ≤ 12
    number_up_to =
        let start : HeaderRead = started over ws in
        let read = blocks-up_to over room_for_all (layer ws) 0 (blocks (bands ws)) start (omega arith)
        (omega (arith, blocks-of_valid reader ws (length ws) valid)) in
        let all : ended.refusal ≤ 12 = either (λ (r : HeaderRead). r.refusal ≤ 12) (eqb (first over ws).value 0) start _ (omega arith) read in
        omega (arith, arrives.refuses, all)

    module _ (on : o.run.refusal ≡ 0) where
      accepted : ended.refusal ≡ 0
      accepted = sym arrives.refuses ∙ on

      stands : Stands at arrives.number vs o ended
      stands = arrives.holds accepted

      bits_are : bio_from at o ≡ ended.bio
      bits_are =
          let p : o.base + o.run.bio.bp - at ≡ ended.bio.bp = omega (arith, stands.place) in
          λ j. record { bp = p j; buf = sym stands.buf j; ct = sym stands.ct j }

      ends_as : (t : Bool) → ends_in_ff over (bio_from at o) ≡ t → ends_in_ff over ended.bio ≡ t
      ends_as t e = sym (ap (λ (b : Bio). ends_in_ff over b) bits_are) ∙ e

      pub end_refused : EndOf over m.eph (bio_from at o) None → (us : List ℕ)
          → SkipsPacket (parts ws m over bodies) us (skipped (Err HeaderEnd))
      end_refused e us =
          refused-with HeaderEnd (ap (λ (r : HeaderRead). r.refusal) (header_ends_is over ws true accepted (ends_as true e))) us

      module _ (header : ℕ) (end : EndOf over m.eph (bio_from at o) (Some header)) where
        pub all_gathered_lem : (us : List ℕ) (sop : MarkerRead) → us ≡ set vs 3 (layer ws + 1)
            → sop ≡ read_marker m.sop 6 0x91 bodies 0
            → SkipsPacket (parts ws m over bodies) us
            (record { refusal = 0; sop = sop.skip; header = header; body = o.run.bytes })
        unfolding read_sop no_sop
        all_gathered_lem us sop set_is found =
            let h : Header.Skipped = record { bio = bio_from at o; bytes = o.run.bytes; refusal = 0 } in
            let is : header_from over ws (first over ws) ≡ ended = header_ends_is over ws false accepted (ends_as false end.0) in
            let few = few_bytes over ws (blocks-of_valid reader ws (length ws) valid) in
            let body : o.run.bytes ≡ body_bytes (header_from over ws (first over ws)).records =
            let same = ap (λ (r : HeaderRead). body_bytes r.records) is in omega (arith, stands.bytes) in
            let s : SkipsFrom over ws (first over ws) vs h = record {
              refuses = sym (ap (λ (r : HeaderRead). r.refusal) is ∙ accepted);
              holds = λ _. (
                sym stands.words ∙ ap (λ (r : HeaderRead). r.words) (sym is),
                bits_are ∙ ap (λ (r : HeaderRead). r.bio) (sym is),
                body,
              );
              bits = subst (BitsIn over) (sym bits_are)
                  (record { few = omega (arith, stands.few); place = omega (arith, stands.near, arrives.few) });
            } in
            skips_beside ws m over bodies us (record { refusal = 0; sop = 0; header = header; body = o.run.bytes }) sop.skip
            (packet-skipped ws (without_sop m) over valid more no_sop no_sop_lem (first over ws) refl vs h s us header refl set_is
            end.1)
            (λ _. ap (λ (r : MarkerRead). r.skip) found)
