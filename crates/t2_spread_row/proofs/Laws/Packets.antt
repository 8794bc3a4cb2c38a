-- What stands after a packet, where it isn't turned away.
use mathlib.Core.Path.{◌≡◌, refl, sym, ap, ◌∙◌}
use mathlib.Core.Logic.{◌≢◌}
use mathlib.Core.Bool.{true}
use mathlib.Core.List.{List, ◌++◌, append_assoc}
use Prim.Native.Nat.{ℕ, ◌+◌, ◌-◌, ◌<◌, ◌≤◌}
use native.Mathlib.Omega.{arith}
use lib.ListN.{length, get_or, take, drop, set, length-drop, length-set, drop_of_length-le}
use lib.Seq.{sets, length-sets, drop-drop}
use Rattle.std.proofs.Common.{Result, Ok}
use Rattle.std.proofs.lemmas.Result.{IfOk-at_ok}
use Rattle.t800.specs.declared.Markers.{Markers}
use Rattle.t800.specs.declared.Refusal.{Refusal}
use Rattle.t800.specs.Base.{Words, Bytes}
use Rattle.t800.specs.State.{reader}
use Rattle.t800.specs.Ranges.{valid_state}
use Rattle.t800.specs.PackedHeaders.{unpacked}
use Rattle.t800.specs.Gathered.{Parts, parts_gathered, state_at, states_in, Spreading, spread_packet, spread_packets}
use Rattle.t800_laws.proofs.Laws.Tests.{if-eq, if-ne}
use Rattle.t800_laws.proofs.Laws.Lists.{next_entry}
use Rattle.reads_in_range.specs.InRange.{StaysInRange}
use Rattle.reads_in_range.proofs.AfterReads.{gathered_parts_in_range}
use Rattle.gathered_headers.proofs.PartsBack.{headers-inside}
use Rattle.tcd_states.specs.declared.Found.{Found}
use Rattle.tcd_states.specs.States.{start_of, AllValid, words_at}
use Rattle.tcd_states.proofs.Laws.Starts.{joined, starts_kept, state_lent}
use Rattle.tcd_states.proofs.Laws.InScratch.{start-kept, words_kept, in_scratch, words_are, words_valid}
use Rattle.tcd_states.proofs.Laws.Cuts.{states_joined}
use Rattle.tcd_states.proofs.Laws.Valid.{valid_with}
use Rattle.t2_write_packet.proofs.Laws.Front.{sets_append}
use Rattle.t2_unpack_headers.proofs.Laws.Cursors.{first_cursor}
use Rattle.t2_skip_windows.specs.Windows.{WindowOn}
use Rattle.t2_skip_packet.specs.Parts.{number_in}
use Rattle.t2_spread_packet.specs.declared.Moved.{Moved}
use Rattle.t2_spread_packet.specs.Moving.{sizes_refusal, packet_bytes, counts_of}
use Rattle.t2_spread_packet.proofs.Laws.Sizes.{Fits, fits_if}
use Rattle.t2_spread_row.specs.Standing.{SpreadsAt, Stands, first_moved, from_start}
use Rattle.t2_spread_row.proofs.Laws.Numbers.{row_long, same_number}

module _ (ss : List Words) (segments bodies rs : Bytes) (sp : Spreading) (ws : Words) (window rs₁ : Bytes) (g : Moved)
    (k : Stands ss segments bodies rs sp ws window rs₁ g) where
  abbrev plain : Bytes
  plain = (unpacked segments).bytes

  pub row_as_long : length rs₁ ≡ length rs
  row_as_long = ap length k.row_put ∙ length-sets rs 0 sp.row

  module _ (place : ℕ) (h : place < length ss) (f : Found) (start_is : f.start ≡ start_of ss place)
      (words_is : f.words ≡ length (state_at ss place)) where
    abbrev state : Words
    state = state_at sp.states place

    abbrev there : place < length sp.states
    there = omega (arith, k.as_many)

    start-of : f.start ≡ start_of sp.states place
    start-of = start-kept ss sp.states k.same_starts place f start_is words_is

    words_of : f.words ≡ length state
    words_of = words_kept ss sp.states k.same_starts place f start_is words_is

    pub state_in_scratch : f.start + f.words ≤ length ws
    state_in_scratch = in_scratch ss sp.states k.same_starts place f start_is words_is ws k.states_are there

    pub state_is : words_at f ws ≡ state
    state_is = words_are ss sp.states k.same_starts place f start_is words_is ws k.states_are there

    pub state_in_range : valid_state reader (words_at f ws) (length (words_at f ws)) ≡ true
    state_in_range = words_valid ss sp.states k.same_starts place f start_is words_is ws k.states_are there k.all_valid

    -- ---- a packet

    module _ (m : Markers) (ws' : Words) (window' rs' : Bytes) (o : Result Moved Refusal)
        (p : SpreadsAt segments (drop g.bodies bodies) m f ws rs₁ g ws' window' rs' o) where
      abbrev next : Spreading
      next = spread_packet m (length rs) place sp

      abbrev parts : Parts
      parts = parts_gathered state m sp.headers sp.bodies

      -- as the code has it
      abbrev found : Parts
      found = parts_gathered (words_at f ws) m (drop g.headers plain) (drop g.bodies bodies)

      parts_are : found ≡ parts
      parts_are = λ i. parts_gathered (state_is i) m (k.headers-left i) (k.bodies_left i)

      refuses : number_in o ≡ sizes_refusal (counts_of parts) (length sp.bodies) g.row (length rs)
      refuses =
          p.packet.refuses
          ∙ (λ i. sizes_refusal (counts_of (parts_are i)) (length (k.bodies_left i)) g.row (row_as_long i))

      pub number_is : number_in o ≡ next.refusal
      number_is = refuses ∙ same_number m (length rs) place sp g.row k.row_bytes

      module _ (q : Moved) (is : o ≡ Ok q) where
        accepted : number_in o ≡ 0
        accepted = ap number_in is

        fit : Fits (counts_of parts) (length sp.bodies) g.row (length rs)
        fit = fits_if (counts_of parts) (length sp.bodies) g.row (length rs) (sym refuses ∙ accepted)

        new : p.after ≡ parts.state
        new = p.packet.state accepted ∙ ap (λ (x : Parts). x.state) parts_are

        stays : StaysInRange state parts.state
        stays = gathered_parts_in_range state m sp.headers sp.bodies fit.accepted

        moved_states : ws' ≡ joined (set sp.states place parts.state)
        moved_states =
            let end : ℕ = f.start + f.words in
            p.replaced
            ∙ (λ i. take (start-of i) (k.states_are i) ++ (new i ++ drop (end - start-of i) (drop (start-of i) (k.states_are i))))
            ∙ sym (state_lent sp.states place there parts.state stays.as_long end
            (omega (arith, start-of, words_of, stays.as_long)))

        headers-are : q.headers ≡ g.headers + parts.header
        headers-are = IfOk-at_ok _ is p.packet.headers-are ∙ ap (λ (x : Parts). g.headers + x.header) parts_are

        bodies_are : q.bodies ≡ g.bodies + (parts.sop + parts.body)
        bodies_are = IfOk-at_ok _ is p.packet.bodies_are ∙ ap (λ (x : Parts). g.bodies + (x.sop + x.body)) parts_are

        row_is : q.row ≡ g.row + (parts.sop + parts.header + parts.body)
        row_is = IfOk-at_ok _ is p.packet.row_is ∙ ap (λ (x : Parts). g.row + (x.sop + x.header + x.body)) parts_are

        headers-behind : drop q.headers plain ≡ drop parts.header sp.headers
        headers-behind =
            ap (λ (n : ℕ). drop n plain) headers-are
            ∙ sym (drop-drop parts.header g.headers plain)
            ∙ ap (drop parts.header) k.headers-left

        bodies_behind : drop q.bodies bodies ≡ drop (parts.sop + parts.body) sp.bodies
        bodies_behind =
            ap (λ (n : ℕ). drop n bodies) bodies_are
            ∙ sym (drop-drop (parts.sop + parts.body) g.bodies bodies)
            ∙ ap (drop (parts.sop + parts.body)) k.bodies_left

        abbrev sop : Bytes
        sop = take parts.sop sp.bodies

        abbrev header : Bytes
        header = take parts.header sp.headers

        abbrev body : Bytes
        body = take parts.body (drop parts.sop sp.bodies)

        regrouped : sp.row ++ (sop ++ header ++ body) ≡ sp.row ++ sop ++ header ++ body
        regrouped = simp append_assoc

        row_behind : rs' ≡ sets rs 0 (sp.row ++ sop ++ header ++ body)
        row_behind =
            let n : g.row ≡ 0 + length sp.row = omega (arith, k.row_bytes) in
            p.packet.put accepted
            ∙ (λ i. sets (k.row_put i) (n i)
            (packet_bytes (parts_are i).sop (parts_are i).header (parts_are i).body (k.headers-left i) (k.bodies_left i)))
            ∙ sets_append sp.row (sop ++ header ++ body) rs 0
            ∙ ap (sets rs 0) regrouped

        in_headers : parts.header ≤ length sp.headers
        in_headers = headers-inside state m sp.headers sp.bodies fit.accepted

        pub stands_next : Stands ss segments bodies rs next ws' window' rs' q
        unfolding spread_packet
        stands_next = record {
          states_are = moved_states;
          all_valid = valid_with sp.states place parts.state k.all_valid stays.in_range;
          as_many = length-set sp.states place parts.state ∙ k.as_many;
          same_starts = λ n. starts_kept sp.states place parts.state stays.as_long n ∙ k.same_starts n;
          headers-left = headers-behind;
          bodies_left = bodies_behind;
          in_bodies = omega (arith, bodies_are, fit.in_bodies, ap length k.bodies_left, length-drop g.bodies bodies, k.in_bodies);
          row_put = row_behind;
          row_bytes = row_is ∙ omega (arith, k.row_bytes, row_long parts sp.row sp.headers sp.bodies in_headers fit.in_bodies);
          row_room = omega (arith, row_is, fit.in_row);
          headers-at = IfOk-at_ok _ is p.packet.stands;
        }

-- ---- one packet after another

module _ (m : Markers) (room : ℕ) (places : Words) (i : ℕ) (h : i < length places) (sp : Spreading) where
  abbrev turned : Spreading
  turned = spread_packet m room (get_or places i 0) sp

  pub packets-end : turned.refusal ≢ 0 → spread_packets m room (drop i places) sp ≡ turned
  unfolding spread_packets
  packets-end n = ap (λ (l : Words). spread_packets m room l sp) (next_entry places i h) ∙ if-ne turned.refusal 0 _ _ n

  pub packets-turn : turned.refusal ≡ 0 → spread_packets m room (drop i places) sp ≡ spread_packets m room (drop (i + 1) places) turned
  unfolding spread_packets
  packets-turn z = ap (λ (l : Words). spread_packets m room l sp) (next_entry places i h) ∙ if-eq turned.refusal 0 _ _ z

pub none_left : (m : Markers) (room : ℕ) (places : Words) (i : ℕ) → length places ≤ i → (sp : Spreading)
    → spread_packets m room (drop i places) sp ≡ sp
unfolding spread_packets
none_left m room places i h sp = ap (λ (l : Words). spread_packets m room l sp) (drop_of_length-le places {i = i} h)

-- before the first one
pub stands_first : (segments bodies : Bytes) (states : Words) (rs : Bytes) (ws : Words) (window : Bytes) → AllValid (states_in states)
    → ws ≡ states → WindowOn segments window 0
    → Stands (states_in states) segments bodies rs (from_start segments bodies states) ws window rs first_moved
stands_first segments bodies states rs ws window v e w = record {
  states_are = e ∙ sym (states_joined states);
  all_valid = v;
  as_many = refl;
  same_starts = λ _. refl;
  headers-left = refl;
  bodies_left = refl;
  in_bodies = omega arith;
  row_put = refl;
  row_bytes = refl;
  row_room = omega arith;
  headers-at = record {
    inside = omega arith;
    window_on = w;
    segment = record { cursor = first_cursor segments w.right; before = omega arith };
  };
}
