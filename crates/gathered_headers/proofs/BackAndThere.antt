-- Moving gathered headers back and moving them in front again.
use mathlib.Core.Path.{◌≡◌, refl, sym, ap, ◌∙◌}
use mathlib.Core.Bool.{false, cond, not, ◌||◌, ◌&&◌}
use mathlib.Core.List.{List, [], ◌∷◌, ◌++◌, append_assoc, append-nil, flat_map}
use Prim.Native.Nat.{ℕ, ◌+◌, ◌≤◌}
use native.Mathlib.Omega.{arith}
use lib.ListN.{length, set, take, drop, length-append, length-take, take-append-drop}
use lib.Seq.{take_at, drop_at, drop-drop}
use lib.Dec.{T, eqb, ltb, eqb→eq}
use borrow.Author.Tests.{eqb-true, eqb-false, le-ltb, ltb-false}
use Rattle.t800.specs.declared.Markers.{Markers}
use Rattle.t800.specs.declared.ReadGatheredAnswer.{ReadGatheredAnswer}
use Rattle.t800.specs.Base.{overwrite}
use Rattle.t800.specs.Refusals.{check, first_of, body_refusal, space_refusal, segments_refusal}
use Rattle.t800.specs.PackedHeaders.{packed, unpacked, segments_for, most_segments}
use Rattle.t800.specs.Gathered.{Parts, state_at, parts_in_row, parts_gathered, Gathering, gather_packet}
use Rattle.t800.specs.Gathered.{gather_packets, Spreading, spread_packet, spread_packets, states_in, gather}
use Rattle.t800.specs.Gathered.{SpreadResult, spread}
use Rattle.t800_laws.proofs.Laws.Tests.{either-by, not_refused}
use Rattle.gathered_headers.specs.Gathered.{gathered_read, in_place_gathered, BackAndThere}
use Rattle.gathered_headers.proofs.Packed.{no_bytes, fewer_segments, shorter_packed}
use Rattle.gathered_headers.proofs.Pieces.{two_joined, piece_long, second_front, behind-both, T-both, none_refused}
use Rattle.gathered_headers.proofs.PartsBack.{same_parts_back, headers-inside}
use Rattle.gathered_headers.proofs.WholeMoves.{other_scratch, front_of, gathers_as, spread_from, spreads}

-- ---- one packet of the way there

abbrev gather_by : (headers_room bodies_room place : ℕ) → Parts → Gathering → Gathering
gather_by headers_room bodies_room place p g =
    let headers = g.headers ++ take p.header (drop p.sop g.row) in
    let bodies = g.bodies ++ take p.sop g.row ++ take p.body (drop (p.sop + p.header) g.row) in
    record {
      refusal = first_of
          (check p.refusal (not (eqb p.refusal 0))
          ∷ check body_refusal (ltb (length g.row) (p.sop + p.header + p.body))
          ∷ check segments_refusal (ltb most_segments (segments_for (length headers)))
          ∷ check space_refusal (ltb headers_room (length (packed headers)) || ltb bodies_room (length bodies))
          ∷ []);
      states = set g.states place p.state;
      row = drop (p.sop + p.header + p.body) g.row;
      headers = headers;
      bodies = bodies;
    }

-- the parts of a packet whose bytes are there, apart and one behind another
module _ (headers bodies : List ℕ) (p : Parts) (ok : p.refusal ≡ 0) (some : p.header ≤ length headers)
    (enough : p.sop + p.body ≤ length bodies)
  where
    abbrev sop_of : List ℕ
    sop_of = take p.sop bodies

    abbrev header_of : List ℕ
    header_of = take p.header headers

    abbrev body_of : List ℕ
    body_of = take p.body (drop p.sop bodies)

    abbrev in_front : (later : List ℕ) → List ℕ
    in_front later = sop_of ++ (header_of ++ (body_of ++ later))

    sop_long : length sop_of ≡ p.sop
    sop_long = length-take p.sop bodies ∙ omega arith

    header_long : length header_of ≡ p.header
    header_long = length-take p.header headers ∙ omega arith

    body_long : length body_of ≡ p.body
    body_long = piece_long bodies p.sop p.body enough

    gather-forth : (headers_room bodies_room place : ℕ) (states : List (List ℕ)) (later hs bs : List ℕ)
        → segments_for (length (hs ++ header_of)) ≤ most_segments
        → length (packed (hs ++ header_of)) ≤ headers_room
        → length (bs ++ sop_of ++ body_of) ≤ bodies_room
        → gather_by headers_room bodies_room place p (record { refusal = 0; states = states; row = in_front later; headers = hs; bodies = bs })
        ≡ record {
          refusal = 0;
          states = set states place p.state;
          row = later;
          headers = hs ++ header_of;
          bodies = bs ++ sop_of ++ body_of;
        }
    gather-forth headers_room bodies_room place states later hs bs few space room =
        let a : take p.sop (in_front later) ≡ sop_of = take_at sop_of (header_of ++ (body_of ++ later)) p.sop sop_long in
        let b : take p.header (drop p.sop (in_front later)) ≡ header_of =
        second_front sop_of header_of (body_of ++ later) p.sop p.header sop_long header_long in
        let d : drop (p.sop + p.header) (in_front later) ≡ body_of ++ later =
        behind-both sop_of header_of (body_of ++ later) p.sop p.header sop_long header_long in
        let c : take p.body (drop (p.sop + p.header) (in_front later)) ≡ body_of =
        ap (take p.body) d ∙ take_at body_of later p.body body_long in
        let e : drop (p.sop + p.header + p.body) (in_front later) ≡ later =
        sym (drop-drop p.body (p.sop + p.header) (in_front later)) ∙ ap (drop p.body) d ∙ drop_at body_of later p.body body_long in
        let there : ltb (length (in_front later)) (p.sop + p.header + p.body) ≡ false =
        le-ltb (length (in_front later)) (p.sop + p.header + p.body) (omega (
          arith,
          length-append sop_of (header_of ++ (body_of ++ later)),
          length-append header_of (body_of ++ later),
          length-append body_of later,
          sop_long,
          header_long,
          body_long,
        )) in
        rw (
          a,
          b,
          c,
          e,
          ok,
          there,
          le-ltb most_segments (segments_for (length (hs ++ header_of))) few,
          le-ltb headers_room (length (packed (hs ++ header_of))) space,
          le-ltb bodies_room (length (bs ++ sop_of ++ body_of)) room,
        )

-- ---- all packets

-- `plain` and `all` are all header bytes and all bodies, for which there is room
module _ (m : Markers) (headers_room bodies_room row_room : ℕ) (plain all : List ℕ) (few : segments_for (length plain) ≤ most_segments)
    (space : length (packed plain) ≤ headers_room) (room : length all ≤ bodies_room)
  where
    -- what was moved back from s on, and ended as `last`, is gathered again
    record Forth (places : List ℕ) (s last : Spreading) : Type 0 where
      rest : List ℕ
      row_is : last.row ≡ s.row ++ rest
      forth : (hs bs : List ℕ) → hs ++ s.headers ≡ plain → bs ++ s.bodies ≡ all
          → gather_packets m headers_room bodies_room places
          (record { refusal = 0; states = s.states; row = rest; headers = hs; bodies = bs })
          ≡ record { refusal = 0; states = last.states; row = []; headers = plain; bodies = all }

    module _ (place : ℕ) (places : List ℕ) (s last : Spreading) where
      abbrev state : List ℕ
      state = state_at s.states place

      abbrev parts : Parts
      parts = parts_gathered state m s.headers s.bodies

      abbrev answer : ReadGatheredAnswer
      answer = (gathered_read state m s.headers s.bodies).answer

      abbrev after : Spreading
      after = spread_packet m row_room place s

      packet-forth : after.refusal ≡ 0 → answer.sop ≡ 0 → answer.eph ≡ 0 → answer.past ≡ 0 → Forth places after last
          → Forth (place ∷ places) s last
      unfolding spread_packet gather_packets gather_packet
      packet-forth ok sop eph past f =
          let headers : List ℕ = s.headers in
          let bodies : List ℕ = s.bodies in
          let p : Parts = parts in
          let one = none_refused p.refusal _ ok in
          let two = not_refused (ltb (length bodies) (p.sop + p.body)) body_refusal _ (omega arith) one.1 in
          let enough : p.sop + p.body ≤ length bodies = ltb-false (length bodies) (p.sop + p.body) two.0 in
          let some : p.header ≤ length headers = headers-inside state m headers bodies one.0 in
          let sb : List ℕ = sop_of headers bodies p one.0 some enough in
          let hd : List ℕ = header_of headers bodies p one.0 some enough in
          let bd : List ℕ = body_of headers bodies p one.0 some enough in
          let row : List ℕ = in_front headers bodies p one.0 some enough f.rest in
          let sops = sop_long headers bodies p one.0 some enough in
          let long = header_long headers bodies p one.0 some enough in
          let same : parts_in_row state m row ≡ p = same_parts_back state m row headers bodies one.0 sop eph past
          (take_at sb (hd ++ (bd ++ f.rest)) p.sop sops) (second_front sb hd (bd ++ f.rest) p.sop p.header sops long) in
          record {
            rest = row;
            row_is = f.row_is ∙ append_assoc (s.row ++ sb ++ hd) bd f.rest ∙ append_assoc (s.row ++ sb) hd (bd ++ f.rest)
                ∙ append_assoc s.row sb (hd ++ (bd ++ f.rest));
            forth = λ hs bs h b.
                let h' : hs ++ hd ++ drop p.header headers ≡ plain =
                append_assoc hs hd (drop p.header headers)
                ∙ ap (λ (l : List ℕ). hs ++ l) (take-append-drop p.header headers) ∙ h in
                let b' : bs ++ sb ++ bd ++ drop (p.sop + p.body) bodies ≡ all =
                two_joined bs bodies p.sop p.body ∙ b in
                let fewer : length (hs ++ hd) ≤ length plain =
                omega (arith, ap length h', length-append (hs ++ hd) (drop p.header headers)) in
                let shorter : length (bs ++ sb ++ bd) ≤ length all =
                omega (arith, ap length b', length-append (bs ++ sb ++ bd) (drop (p.sop + p.body) bodies)) in
                let from : Gathering = record { refusal = 0; states = s.states; row = row; headers = hs; bodies = bs } in
                let once = ap (λ (q : Parts). gather_by headers_room bodies_room place q from) same
                ∙ gather-forth headers bodies p one.0 some enough headers_room bodies_room place s.states f.rest hs bs
                (omega (arith, fewer_segments (length (hs ++ hd)) (length plain) fewer, few))
                (omega (arith, shorter_packed (hs ++ hd) plain fewer, space)) (omega (arith, shorter, room)) in
                ap (λ (a : Gathering). cond (eqb a.refusal 0) (gather_packets m headers_room bodies_room places a) a) once
                ∙ f.forth (hs ++ hd) (bs ++ sb ++ bd) h' b';
          }

    in_place_parts : (place : ℕ) (places : List ℕ) (s : Spreading)
        → T (in_place_gathered m (place ∷ places) s.states s.headers s.bodies)
        → let a = (gathered_read (state_at s.states place) m s.headers s.bodies).answer in
        let after = spread_packet m row_room place s in
        (a.sop ≡ 0) × (a.eph ≡ 0) × (a.past ≡ 0) × T (in_place_gathered m places after.states after.headers after.bodies)
    unfolding in_place_gathered spread_packet parts_gathered
    in_place_parts place places s t =
        let a = (gathered_read (state_at s.states place) m s.headers s.bodies).answer in
        let one = T-both (eqb a.sop 0 && eqb a.eph 0 && eqb a.past 0) _ t in
        let two = T-both (eqb a.sop 0 && eqb a.eph 0) (eqb a.past 0) one.0 in
        let three = T-both (eqb a.sop 0) (eqb a.eph 0) two.0 in
        (eqb→eq a.sop 0 three.0, eqb→eq a.eph 0 three.1, eqb→eq a.past 0 two.1, one.1)

    goes_forth : (places : List ℕ) (s : Spreading)
        → let last = spread_packets m row_room places s in
        last.refusal ≡ 0 → length last.headers + length last.bodies ≡ 0
        → T (in_place_gathered m places s.states s.headers s.bodies) → Forth places s last
    unfolding spread_packets gather_packets
    goes_forth [] s ok none t =
        let no_headers_lem : s.headers ≡ [] = no_bytes s.headers (omega arith) in
        let no_bodies_lem : s.bodies ≡ [] = no_bytes s.bodies (omega arith) in
        record {
          rest = [];
          row_is = sym (append-nil s.row);
          forth = λ hs bs h b.
              let e : hs ≡ plain = sym (append-nil hs) ∙ ap (λ (l : List ℕ). hs ++ l) (sym no_headers_lem) ∙ h in
              let f : bs ≡ all = sym (append-nil bs) ∙ ap (λ (l : List ℕ). bs ++ l) (sym no_bodies_lem) ∙ b in
              λ i. record { refusal = 0; states = s.states; row = []; headers = e i; bodies = f i };
        }
    goes_forth (place ∷ places) s ok none t =
        let a : Spreading = spread_packet m row_room place s in
        let later : Spreading = spread_packets m row_room places a in
        let marks = in_place_parts place places s t in
        either-by (λ (last : Spreading). last.refusal ≡ 0 → length last.headers + length last.bodies ≡ 0
        → Forth (place ∷ places) s last) (eqb a.refusal 0) later a
        (λ z ok none. packet-forth place places s later (eqb-true a.refusal 0 z) marks.0 marks.1 marks.2
        (goes_forth places a ok none marks.3))
        (λ z ok none. absurd (eqb-false a.refusal 0 z ok)) ok none

pub back_and_there : BackAndThere
unfolding BackAndThere
back_and_there headers bodies states scratch places m row ok filled few t work lent_headers lent_bodies same long-headers long-bodies =
    let plain : List ℕ = (unpacked headers).bytes in
    let k = spreads headers bodies states scratch places m row ok in
    let last : Spreading = spread_from headers bodies states scratch places m row plain in
    let from : Spreading = record { refusal = 0; states = states_in states; headers = plain; bodies = bodies; row = [] } in
    let f = goes_forth m (length lent_headers) (length lent_bodies) (length row) plain bodies few (omega (arith, ap length filled))
    long-bodies places from k.packets k.all_of_both t in
    let r : SpreadResult = spread headers bodies states scratch places m row in
    let moved : take r.answer.bytes r.row ≡ f.rest =
    ap (λ (r : SpreadResult). take r.answer.bytes r.row) k.left ∙ front_of row last.row ∙ f.row_is in
    let all : Gathering = record { refusal = 0; states = last.states; row = []; headers = plain; bodies = bodies } in
    ap (λ (l : List ℕ). gather l states work places m lent_headers lent_bodies) moved
    ∙ gathers_as f.rest states work places m lent_headers lent_bodies all
    (other_scratch states (length scratch) (length work) places k.good_states same) (f.forth [] [] refl refl) refl refl
    ∙ ap (λ (hs : List ℕ). record {
      answer = record { refusal = 0; headers = length hs; bodies = length bodies };
      scratch = flat_map (λ s. s) last.states;
      headers = overwrite lent_headers hs;
      bodies = overwrite lent_bodies bodies;
    }) (sym filled)
    ∙ ap (λ (r : SpreadResult). record {
      answer = record { refusal = 0; headers = length headers; bodies = length bodies };
      scratch = r.scratch;
      headers = overwrite lent_headers headers;
      bodies = overwrite lent_bodies bodies;
    }) (sym k.left)
