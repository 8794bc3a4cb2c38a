-- What stands after a packet, where it isn't turned away.
use Prim.Native.Nat.{ℕ, ◌+◌, ◌-◌, ◌<◌, ◌≤◌}
use mathlib.Core.Path.{◌≡◌, refl, sym, ap, ◌∙◌, subst}
use mathlib.Core.Logic.{◌≢◌}
use mathlib.Core.Bool.{true}
use mathlib.Core.List.{List, ◌++◌, append_assoc}
use native.Mathlib.Omega.{arith}
use lib.ListN.{length, get_or, take, drop, set, length-drop, length-set, drop_of_length-le}
use lib.Seq.{sets, length-sets, drop-drop}
use Rattle.std.proofs.Common.{Result, Ok}
use Rattle.std.proofs.lemmas.Result.{IfOk-at_ok}
use Rattle.t800.specs.declared.Markers.{Markers}
use Rattle.t800.specs.declared.Refusal.{Refusal}
use Rattle.t800.specs.Base.{Words, Bytes}
use Rattle.t800.specs.State.{reader}
use Rattle.t800.specs.Ranges.{valid_state}
use Rattle.t800.specs.PackedHeaders.{segments_for}
use Rattle.t800.specs.Gathered.{Parts, parts_in_row, state_at, states_in, Gathering, gather_packet, gather_packets}
use Rattle.t800_laws.proofs.Laws.Tests.{if-eq, if-ne}
use Rattle.t800_laws.proofs.Laws.Lists.{next_entry}
use Rattle.reads_in_range.specs.InRange.{StaysInRange}
use Rattle.reads_in_range.proofs.AfterReads.{row_parts_in_range}
use Rattle.tcd_states.specs.declared.Found.{Found}
use Rattle.tcd_states.specs.States.{start_of, AllValid, words_at}
use Rattle.tcd_states.proofs.Laws.Starts.{joined, starts_kept, state_lent}
use Rattle.tcd_states.proofs.Laws.InScratch.{start-kept, words_kept, in_scratch, words_are, words_valid}
use Rattle.tcd_states.proofs.Laws.Cuts.{states_joined}
use Rattle.tcd_states.proofs.Laws.Valid.{valid_with}
use Rattle.t2_write_packet.proofs.Laws.Front.{sets_append}
use Rattle.t2_pack_headers.specs.Packing.{packed_length, put_header}
use Rattle.t2_pack_headers.proofs.Laws.Packed.{put_append, put_keeps_length}
use Rattle.t2_skip_packet.specs.Parts.{number_in}
use Rattle.t2_gather_packet.specs.declared.Moved.{Moved}
use Rattle.t2_gather_packet.specs.Moving.{sizes_refusal, counts_of, header_part, PartsFit, GathersPacket}
use Rattle.t2_gather_packet.proofs.Laws.Sizes.{parts_fit}
use Rattle.t2_gather_row.specs.Standing.{GathersAt, Stands, from_start}
use Rattle.t2_gather_row.proofs.Laws.Numbers.{headers-long, bodies_long, same_number}

module _ (ss : List Words) (row hs bs : Bytes) (gs : Gathering) (ws : Words) (hs₁ bs₁ : Bytes) (g : Moved)
    (k : Stands ss row hs bs gs ws hs₁ bs₁ g) where
  -- ---- the lists stay as long

  pub headers-as_long : length hs₁ ≡ length hs
  headers-as_long = ap length k.headers-put ∙ put_keeps_length hs 0 gs.headers

  pub bodies_as_long : length bs₁ ≡ length bs
  bodies_as_long = ap length k.bodies_put ∙ length-sets bs 0 gs.bodies

  module _ (place : ℕ) (h : place < length ss) (f : Found) (start_is : f.start ≡ start_of ss place)
      (words_is : f.words ≡ length (state_at ss place)) where
    abbrev state : Words
    state = state_at gs.states place

    abbrev there : place < length gs.states
    there = omega (arith, k.as_many)

    start-of : f.start ≡ start_of gs.states place
    start-of = start-kept ss gs.states k.same_starts place f start_is words_is

    words_of : f.words ≡ length state
    words_of = words_kept ss gs.states k.same_starts place f start_is words_is

    pub state_in_scratch : f.start + f.words ≤ length ws
    state_in_scratch = in_scratch ss gs.states k.same_starts place f start_is words_is ws k.states_are there

    pub state_is : words_at f ws ≡ state
    state_is = words_are ss gs.states k.same_starts place f start_is words_is ws k.states_are there

    pub state_in_range : valid_state reader (words_at f ws) (length (words_at f ws)) ≡ true
    state_in_range = words_valid ss gs.states k.same_starts place f start_is words_is ws k.states_are there k.all_valid

    -- ---- a packet

    module _ (m : Markers) (ws' : Words) (hs' bs' : Bytes) (o : Result Moved Refusal) (p : GathersAt (drop g.taken row) m f ws hs₁ bs₁ g ws' hs' bs' o)
      where
        abbrev next : Gathering
        next = gather_packet m (length hs) (length bs) place gs

        abbrev parts : Parts
        parts = parts_in_row state m gs.row

        gathers : GathersPacket gs.row m state hs₁ bs₁ g p.after hs' bs' o
        gathers =
            subst (λ (r : Bytes). GathersPacket r m state hs₁ bs₁ g p.after hs' bs' o) k.row_left
            (subst (λ (s : Words). GathersPacket (drop g.taken row) m s hs₁ bs₁ g p.after hs' bs' o) state_is p.packet)

        pub number_is : number_in o ≡ next.refusal
        number_is =
            gathers.refuses
            ∙ (λ i. sizes_refusal (counts_of parts) g (length gs.row) (headers-as_long i) (bodies_as_long i))
            ∙ same_number m (length hs) (length bs) place gs g k.header_bytes_lem k.body_bytes

        module _ (q : Moved) (is : o ≡ Ok q) where
          accepted : number_in o ≡ 0
          accepted = ap number_in is

          moved : q ≡ record {
            taken = g.taken + (parts.sop + parts.header + parts.body);
            headers = g.headers + parts.header;
            bodies = g.bodies + (parts.sop + parts.body);
          }
          moved = IfOk-at_ok _ is gathers.moved

          fit : PartsFit (counts_of parts) g (length gs.row) (length hs₁) (length bs₁)
          fit = parts_fit (counts_of parts) g (length gs.row) (length hs₁) (length bs₁) (sym gathers.refuses ∙ accepted)

          new : p.after ≡ parts.state
          new = gathers.state accepted

          stays : StaysInRange state parts.state
          stays = row_parts_in_range state m gs.row fit.accepted

          moved_states : ws' ≡ joined (set gs.states place parts.state)
          moved_states =
              let end : ℕ = f.start + f.words in
              p.replaced
              ∙ (λ i. take (start-of i) (k.states_are i) ++ (new i ++ drop (end - start-of i) (drop (start-of i) (k.states_are i))))
              ∙ sym (state_lent gs.states place there parts.state stays.as_long end
              (omega (arith, start-of, words_of, stays.as_long)))

          abbrev whole : ℕ
          whole = parts.sop + parts.header + parts.body

          row_behind : drop q.taken row ≡ drop whole gs.row
          row_behind =
              ap (λ (x : Moved). drop x.taken row) moved
              ∙ sym (drop-drop whole g.taken row)
              ∙ ap (drop whole) k.row_left

          headers-behind : hs' ≡ put_header hs 0 (gs.headers ++ header_part (counts_of parts) gs.row)
          headers-behind =
              let n : g.headers ≡ 0 + length gs.headers = omega (arith, k.header_bytes_lem) in
              let part : Bytes = header_part (counts_of parts) gs.row in
              gathers.headers-put accepted
              ∙ (λ i. put_header (k.headers-put i) (n i) part)
              ∙ sym (put_append hs 0 gs.headers part)

          bodies_behind : bs' ≡ sets bs 0 (gs.bodies ++ take parts.sop gs.row
              ++ take parts.body (drop (parts.sop + parts.header) gs.row))
          bodies_behind =
              let n : g.bodies ≡ 0 + length gs.bodies = omega (arith, k.body_bytes) in
              let sop : Bytes = take parts.sop gs.row in
              let body : Bytes = take parts.body (drop (parts.sop + parts.header) gs.row) in
              gathers.bodies_put accepted
              ∙ (λ i. sets (k.bodies_put i) (n i) (sop ++ body))
              ∙ sets_append gs.bodies (sop ++ body) bs 0
              ∙ ap (sets bs 0) (sym (append_assoc gs.bodies sop body))

          pub stands_next : Stands ss row hs bs next ws' hs' bs' q
          unfolding gather_packet
          stands_next =
              let taken_is = ap (λ (x : Moved). x.taken) moved in
              let headers-is = ap (λ (x : Moved). x.headers) moved in
              let bodies_is = ap (λ (x : Moved). x.bodies) moved in
              record {
                states_are = moved_states;
                all_valid = valid_with gs.states place parts.state k.all_valid stays.in_range;
                as_many = length-set gs.states place parts.state ∙ k.as_many;
                same_starts = λ n. starts_kept gs.states place parts.state stays.as_long n ∙ k.same_starts n;
                row_left = row_behind;
                in_row = omega (arith, taken_is, fit.in_row, ap length k.row_left, length-drop g.taken row, k.in_row);
                headers-put = headers-behind;
                header_bytes_lem = headers-is
                    ∙ omega (arith, k.header_bytes_lem, headers-long parts gs.row gs.headers gs.bodies fit.in_row);
                few_headers = omega (arith, headers-is, fit.few_headers);
                headers_room = subst (λ (n : ℕ). packed_length n ≤ length hs) (sym headers-is)
                    (subst (λ (n : ℕ). packed_length (g.headers + parts.header) ≤ n) headers-as_long fit.headers_fit);
                bodies_put = bodies_behind;
                body_bytes = bodies_is
                    ∙ omega (arith, k.body_bytes, bodies_long parts gs.row gs.headers gs.bodies fit.in_row);
                bodies_room = omega (arith, bodies_is, fit.bodies_fit, bodies_as_long);
              }

-- ---- one packet after another

module _ (m : Markers) (a b : ℕ) (places : Words) (i : ℕ) (h : i < length places) (gs : Gathering) where
  abbrev turned : Gathering
  turned = gather_packet m a b (get_or places i 0) gs

  pub packets-end : turned.refusal ≢ 0 → gather_packets m a b (drop i places) gs ≡ turned
  unfolding gather_packets
  packets-end n = ap (λ (l : Words). gather_packets m a b l gs) (next_entry places i h) ∙ if-ne turned.refusal 0 _ _ n

  pub packets-turn : turned.refusal ≡ 0 → gather_packets m a b (drop i places) gs ≡ gather_packets m a b (drop (i + 1) places) turned
  unfolding gather_packets
  packets-turn z = ap (λ (l : Words). gather_packets m a b l gs) (next_entry places i h) ∙ if-eq turned.refusal 0 _ _ z

pub none_left : (m : Markers) (a b : ℕ) (places : Words) (i : ℕ) → length places ≤ i → (gs : Gathering)
    → gather_packets m a b (drop i places) gs ≡ gs
unfolding gather_packets
none_left m a b places i h gs = ap (λ (l : Words). gather_packets m a b l gs) (drop_of_length-le places {i = i} h)

-- before the first one
pub stands_first : (row : Bytes) (states : Words) (hs bs : Bytes) (ws : Words) (g : Moved) → AllValid (states_in states) → ws ≡ states
    → g.taken ≡ 0 → g.headers ≡ 0 → g.bodies ≡ 0 → Stands (states_in states) row hs bs (from_start row states) ws hs bs g
unfolding put_header segments_for
stands_first row states hs bs ws g v e t n d =
    record {
      states_are = e ∙ sym (states_joined states);
      all_valid = v;
      as_many = refl;
      same_starts = λ _. refl;
      row_left = ap (λ (k : ℕ). drop k row) t;
      in_row = omega arith;
      headers-put = refl;
      header_bytes_lem = n;
      few_headers = omega arith;
      headers_room = omega arith;
      bodies_put = refl;
      body_bytes = d;
      bodies_room = omega arith;
    }
