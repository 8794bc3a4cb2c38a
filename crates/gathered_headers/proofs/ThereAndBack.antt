-- Moving a row's headers in front and moving them back.
use mathlib.Core.Path.{◌≡◌, refl, sym, ap, ◌∙◌, subst}
use mathlib.Core.Logic.{◌≢◌}
use mathlib.Core.Bool.{false, cond, not, ◌&&◌}
use mathlib.Core.List.{List, [], ◌∷◌, ◌++◌, append_assoc, append-nil}
use Prim.Native.Nat.{ℕ, ◌+◌, ◌-◌, ◌≤◌}
use native.Mathlib.Omega.{arith}
use lib.ListN.{length, set, take, drop, length-append, length-drop, length-take}
use lib.Seq.{take_at, drop_at}
use lib.Dec.{T, eqb, ltb, eqb→eq}
use borrow.Author.Tests.{eqb-true, eqb-false, le-ltb, ltb-false}
use Rattle.t800.specs.declared.Markers.{Markers}
use Rattle.t800.specs.Base.{overwrite}
use Rattle.t800.specs.Refusals.{check, first_of, body_refusal, space_refusal}
use Rattle.t800.specs.Reports.{body_bytes}
use Rattle.t800.specs.PackedHeaders.{packed}
use Rattle.t800.specs.Gathered.{Parts, state_at, parts_in_row, parts_gathered, Gathering, gather_packet, gather_packets}
use Rattle.t800.specs.Gathered.{Spreading, spread_packet, spread_packets, states_in, GatherResult, gather, spread}
use Rattle.t800_laws.proofs.Laws.Tests.{either-by, not_refused}
use Rattle.gathered_headers.specs.Gathered.{row_read, in_place, ThereAndBack}
use Rattle.gathered_headers.proofs.Packed.{no_bytes, unpacked-packed}
use Rattle.gathered_headers.proofs.RowReads.{same_parts, parts_taken}
use Rattle.gathered_headers.proofs.WholeMoves.{other_scratch, front_of, gathered, gathers, spreads_as}
use Rattle.gathered_headers.proofs.Pieces.{three_joined, piece_long, second_front, behind-both, T-both, none_refused}

-- ---- one packet of the way back

abbrev spread_by : (room place : ℕ) → Parts → Spreading → Spreading
spread_by room place p s =
    let row = s.row ++ take p.sop s.bodies ++ take p.header s.headers ++ take p.body (drop p.sop s.bodies) in
    record {
      refusal = first_of
          (check p.refusal (not (eqb p.refusal 0))
          ∷ check body_refusal (ltb (length s.bodies) (p.sop + p.body))
          ∷ check space_refusal (ltb room (length row))
          ∷ []);
      states = set s.states place p.state;
      headers = drop p.header s.headers;
      bodies = drop (p.sop + p.body) s.bodies;
      row = row;
    }

-- the parts of a row of which as many bytes are there, in front of other headers and bodies
module _ (row : List ℕ) (p : Parts) (ok : p.refusal ≡ 0) (enough : p.sop + p.header + p.body ≤ length row) where
  abbrev sop_of : List ℕ
  sop_of = take p.sop row

  abbrev header_of : List ℕ
  header_of = take p.header (drop p.sop row)

  abbrev body_of : List ℕ
  body_of = take p.body (drop (p.sop + p.header) row)

  sop_long : length sop_of ≡ p.sop
  sop_long = length-take p.sop row ∙ omega arith

  header_long : length header_of ≡ p.header
  header_long = piece_long row p.sop p.header (omega arith)

  body_long : length body_of ≡ p.body
  body_long = piece_long row (p.sop + p.header) p.body enough

  spread-back : (room place : ℕ) (states : List (List ℕ)) (headers bodies done : List ℕ) → length done + length row ≤ room
      → spread_by room place p
      (record { refusal = 0; states = states; headers = header_of ++ headers; bodies = sop_of ++ (body_of ++ bodies); row = done })
      ≡ record {
        refusal = 0;
        states = set states place p.state;
        headers = headers;
        bodies = bodies;
        row = done ++ sop_of ++ header_of ++ body_of;
      }
  spread-back room place states headers bodies done fits =
      let a : take p.sop (sop_of ++ (body_of ++ bodies)) ≡ sop_of = take_at sop_of (body_of ++ bodies) p.sop sop_long in
      let b : take p.header (header_of ++ headers) ≡ header_of = take_at header_of headers p.header header_long in
      let c : take p.body (drop p.sop (sop_of ++ (body_of ++ bodies))) ≡ body_of =
      second_front sop_of body_of bodies p.sop p.body sop_long body_long in
      let d : drop p.header (header_of ++ headers) ≡ headers = drop_at header_of headers p.header header_long in
      let e : drop (p.sop + p.body) (sop_of ++ (body_of ++ bodies)) ≡ bodies =
      behind-both sop_of body_of bodies p.sop p.body sop_long body_long in
      let made : List ℕ = done ++ sop_of ++ header_of ++ body_of in
      let some : ltb (length (sop_of ++ (body_of ++ bodies))) (p.sop + p.body) ≡ false =
      le-ltb (length (sop_of ++ (body_of ++ bodies))) (p.sop + p.body)
      (omega (arith, length-append sop_of (body_of ++ bodies), length-append body_of bodies, sop_long, body_long)) in
      let room_left : ltb room (length made) ≡ false = le-ltb room (length made)
      (omega (
        arith,
        length-append (done ++ sop_of ++ header_of) body_of,
        length-append (done ++ sop_of) header_of,
        length-append done sop_of,
        sop_long,
        header_long,
        body_long,
      )) in
      rw (a, b, c, d, e, ok, some, room_left)

-- ---- all packets

module _ (m : Markers) (headers_room bodies_room row_room : ℕ) where
  -- What was gathered from g on, and ended as `last`, goes back: header bytes and bodies behind those of g, no header byte of a row without
  -- bytes, and moving back gives g's row.
  record Back (places : List ℕ) (g last : Gathering) : Type 0 where
    headers : List ℕ
    bodies : List ℕ
    headers-are : last.headers ≡ g.headers ++ headers
    bodies_are : last.bodies ≡ g.bodies ++ bodies
    none : length g.row ≡ 0 → length headers ≡ 0
    back : (done : List ℕ) → length done + length g.row ≤ row_room
        → spread_packets m row_room places (record { refusal = 0; states = g.states; headers = headers; bodies = bodies; row = done })
        ≡ record { refusal = 0; states = last.states; headers = []; bodies = []; row = done ++ g.row }

  module _ (place : ℕ) (places : List ℕ) (g last : Gathering) where
    abbrev state : List ℕ
    state = state_at g.states place

    abbrev parts : Parts
    parts = parts_in_row state m g.row

    abbrev after : Gathering
    after = gather_packet m headers_room bodies_room place g

    packet-back : after.refusal ≡ 0 → (row_read state m g.row).answer.sop ≡ 0 → (row_read state m g.row).answer.eph ≡ 0
        → Back places after last → Back (place ∷ places) g last
    unfolding gather_packet spread_packets spread_packet
    packet-back ok sop eph b =
        let row : List ℕ = g.row in
        let p : Parts = parts in
        let n : ℕ = p.sop + p.header + p.body in
        let one = none_refused p.refusal _ ok in
        let two = not_refused (ltb (length row) n) body_refusal _ (omega arith) one.1 in
        let enough : n ≤ length row = ltb-false (length row) n two.0 in
        let sb : List ℕ = sop_of row p one.0 enough in
        let hd : List ℕ = header_of row p one.0 enough in
        let bd : List ℕ = body_of row p one.0 enough in
        let sops = sop_long row p one.0 enough in
        let long = header_long row p one.0 enough in
        let bodies_long = body_long row p one.0 enough in
        let hs : List ℕ = hd ++ b.headers in
        let bs : List ℕ = sb ++ (bd ++ b.bodies) in
        let left : length (drop n row) ≡ length row - n = length-drop n row in
        let past = (parts_taken state m row one.0).1 in
        let alone : (row_read state m row).answer.past ≢ 0 → length hs ≡ p.header = λ z.
        omega (arith, past z, b.none (omega (arith, past z)), length-append hd b.headers, long) in
        let same : parts_gathered state m hs bs ≡ p = same_parts state m row hs bs one.0 sop eph
        (take_at hd b.headers p.header long) alone (take_at sb (bd ++ b.bodies) p.sop sops) in
        record {
          headers = hs;
          bodies = bs;
          headers-are = b.headers-are ∙ append_assoc g.headers hd b.headers;
          bodies_are = b.bodies_are ∙ append_assoc (g.bodies ++ sb) bd b.bodies ∙ append_assoc g.bodies sb (bd ++ b.bodies);
          none = λ z. omega (arith, length-append hd b.headers, long, b.none (omega arith));
          back = λ done fits.
              let from : Spreading = record { refusal = 0; states = g.states; headers = hs; bodies = bs; row = done } in
              let made : List ℕ = done ++ sb ++ hd ++ bd in
              let once = ap (λ (q : Parts). spread_by row_room place q from) same
              ∙ spread-back row p one.0 enough row_room place g.states b.headers b.bodies done fits in
              ap (λ (a : Spreading). cond (eqb a.refusal 0) (spread_packets m row_room places a) a) once
              ∙ b.back made (omega (
                arith,
                length-append (done ++ sb ++ hd) bd,
                length-append (done ++ sb) hd,
                length-append done sb,
                sops,
                long,
                bodies_long,
              ))
              ∙ ap (λ (r : List ℕ). record { refusal = 0; states = last.states; headers = []; bodies = []; row = r })
              (three_joined done row p.sop p.header p.body);
        }

  in_place_parts : (place : ℕ) (places : List ℕ) (g : Gathering) → T (in_place m (place ∷ places) g.states g.row)
      → let a = (row_read (state_at g.states place) m g.row).answer in
      let after = gather_packet m headers_room bodies_room place g in
      (a.sop ≡ 0) × (a.eph ≡ 0) × (after.refusal ≡ 0 → T (in_place m places after.states after.row))
  unfolding in_place gather_packet parts_in_row
  in_place_parts place places g t =
      let state : List ℕ = state_at g.states place in
      let r = row_read state m g.row in
      let p : Parts = parts_in_row state m g.row in
      let one = T-both (eqb r.answer.sop 0 && eqb r.answer.eph 0) _ t in
      let two = T-both (eqb r.answer.sop 0) (eqb r.answer.eph 0) one.0 in (
        eqb→eq r.answer.sop 0 two.0,
        eqb→eq r.answer.eph 0 two.1,
        λ ok. let e = (parts_taken state m g.row (none_refused p.refusal _ ok).0).0 in
            subst (λ (n : ℕ). T (in_place m places (set g.states place r.state) (drop (n + body_bytes r.records) g.row))) (sym e)
            one.1,
      )

  goes_back : (places : List ℕ) (g : Gathering)
      → let last = gather_packets m headers_room bodies_room places g in
      last.refusal ≡ 0 → length last.row ≡ 0 → T (in_place m places g.states g.row) → Back places g last
  unfolding gather_packets in_place spread_packets
  goes_back [] g ok none t = record {
    headers = [];
    bodies = [];
    headers-are = sym (append-nil g.headers);
    bodies_are = sym (append-nil g.bodies);
    none = λ _. refl;
    back = λ done _. ap (λ (r : List ℕ). record { refusal = 0; states = g.states; headers = []; bodies = []; row = r })
        (sym (ap (λ (r : List ℕ). done ++ r) (no_bytes g.row none) ∙ append-nil done));
  }
  goes_back (place ∷ places) g ok none t =
      let a : Gathering = gather_packet m headers_room bodies_room place g in
      let later : Gathering = gather_packets m headers_room bodies_room places a in
      let marks = in_place_parts place places g t in
      either-by (λ (last : Gathering). last.refusal ≡ 0 → length last.row ≡ 0 → Back (place ∷ places) g last) (eqb a.refusal 0)
      later a
      (λ z ok none. let y = eqb-true a.refusal 0 z in
      packet-back place places g later y marks.0 marks.1 (goes_back places a ok none (marks.2 y)))
      (λ z ok none. absurd (eqb-false a.refusal 0 z ok)) ok none

pub there_and_back : ThereAndBack
unfolding ThereAndBack
there_and_back row states scratch places m headers bodies ok t work lent same long =
    let g = gathers row states scratch places m headers bodies ok in
    let last : Gathering = gathered row states scratch places m headers bodies in
    let from : Gathering = record { refusal = 0; states = states_in states; row = row; headers = []; bodies = [] } in
    let b = goes_back m (length headers) (length bodies) (length lent) places from g.packets g.all_of_row t in
    let r : GatherResult = gather row states scratch places m headers bodies in
    let hs : take r.answer.headers r.headers ≡ packed last.headers =
    ap (λ (r : GatherResult). take r.answer.headers r.headers) g.left ∙ front_of headers (packed last.headers) in
    let bs : take r.answer.bodies r.bodies ≡ last.bodies =
    ap (λ (r : GatherResult). take r.answer.bodies r.bodies) g.left ∙ front_of bodies last.bodies in
    let back : Spreading = record { refusal = 0; states = last.states; headers = []; bodies = []; row = row } in
    let move : (headers bodies : List ℕ) → Spreading = λ headers bodies. spread_packets m (length lent) places
    (record { refusal = 0; states = states_in states; headers = headers; bodies = bodies; row = [] }) in
    let there : move last.headers last.bodies ≡ back =
    ap (λ (l : List ℕ). move l last.bodies) b.headers-are ∙ ap (move b.headers) b.bodies_are ∙ b.back [] (omega arith) in
    ap (λ (l : List ℕ). spread l (take r.answer.bodies r.bodies) states work places m lent) hs
    ∙ ap (λ (l : List ℕ). spread (packed last.headers) l states work places m lent) bs
    ∙ spreads_as (packed last.headers) last.bodies states work places m lent last.headers back (unpacked-packed last.headers)
    (other_scratch states (length scratch) (length work) places g.good_states same) there refl refl refl
    ∙ ap (λ (r : GatherResult). record
    { answer = record { refusal = 0; bytes = length row }; scratch = r.scratch; row = overwrite lent row }) (sym g.left)
