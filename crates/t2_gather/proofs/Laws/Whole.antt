-- A whole move, by its tests in order.
use Prim.Native.Nat.{ℕ, ◌+◌, ◌-◌, ◌*◌, ◌≤◌, ◌<◌}
use mathlib.Core.Path.{◌≡◌, sym, ap, ◌∙◌, subst}
use mathlib.Core.Logic.{◌≢◌}
use mathlib.Core.Bool.{Bool, true, false, cond, not}
use mathlib.Core.List.{[], ◌∷◌, ◌++◌, flat_map}
use native.Mathlib.Omega.{arith}
use lib.ListN.{length, drop, length-drop}
use lib.Seq.{sets-eq}
use lib.Dec.{eqb, ltb}
use borrow.Author.Tests.{eq-eqb, ne_eqb, lt-ltb, le-ltb}
use Rattle.std.proofs.Common.{Ok, Err}
use Rattle.t800.specs.declared.Markers.{Markers}
use Rattle.t800.specs.declared.Refusal.{Refusal}
use Rattle.t800.specs.RefusalNumbers.{number_of}
use Rattle.t2_skip_packet.proofs.Laws.Numbers.{refusal_counts}
use Rattle.t800.specs.declared.GatherAnswer.{GatherAnswer}
use Rattle.t800.specs.Base.{Words, Bytes, overwrite}
use Rattle.t800.specs.Refusals.{check, first_of, body_refusal}
use Rattle.t800.specs.PackedHeaders.{most_bytes, most_segments, packed}
use Rattle.t800.specs.Gathered.{states_in, bad_states, Gathering, GatherResult, gather}
use Rattle.t800_laws.proofs.Laws.Tests.{if-true, if-false, if-eq, if-ne, on-eq, on-lt}
use Rattle.t2_pack_headers.specs.Packing.{packed_length, closed}
use Rattle.t2_pack_headers.proofs.Laws.Packed.{packed-length, put_keeps_length, closed-is_packed}
use Rattle.t2_gather_packet.specs.declared.Moved.{Moved}
use Rattle.t2_gather_row.specs.Standing.{Stands, all_gathered, GathersPackets}
use Rattle.t2_gather.specs.Answers.{gather_result, refused_move}

-- lists as long are wiped alike
pub wiped-alike : (why : ℕ) (ws ws' : Words) (hs hs' bs bs' : Bytes) → length ws' ≡ length ws → length hs' ≡ length hs
    → length bs' ≡ length bs → refused_move why ws' hs' bs' ≡ refused_move why ws hs bs
wiped-alike why ws ws' hs hs' bs bs' w h b = rw (w, h, b)

module _ (row : Bytes) (states scratch places : Words) (m : Markers) (hs bs : Bytes) where
  abbrev moved : GatherResult
  moved = gather row states scratch places m hs bs

  pub bad_states_lem : bad_states states (length scratch) places ≡ true → refused_move 5 scratch hs bs ≡ moved
  unfolding gather
  bad_states_lem t = rw t

  abbrev all : Gathering
  all = all_gathered row m states places hs bs

  -- behind 5
  abbrev late_number : ℕ
  late_number = first_of (check all.refusal (not (eqb all.refusal 0)) ∷ check body_refusal (not (eqb (length all.row) 0)) ∷ [])

  abbrev done : GatherResult
  done =
      gather_result (record { refusal = 0; headers = length (packed all.headers); bodies = length all.bodies })
      (flat_map (λ s. s) all.states) (overwrite hs (packed all.headers)) (overwrite bs all.bodies)

  module _ (good : bad_states states (length scratch) places ≡ false) where
    by_number : moved ≡ cond (eqb late_number 0) done (refused_move late_number scratch hs bs)
    unfolding gather
    by_number = rw good

    -- ---- with what the packets leave

    pub packets-refused : (ws : Words) (hs' bs' : Bytes) (why : Refusal)
        → GathersPackets row m states places hs bs ws hs' bs' (Err why) → refused_move (number_of why) scratch hs bs ≡ moved
    packets-refused ws hs' bs' why k =
        let n : all.refusal ≢ 0 = λ z. refusal_counts why (k.refuses ∙ z) in
        let number : late_number ≡ all.refusal = if-true (not (eqb all.refusal 0)) _ _ (ap not (ne_eqb all.refusal 0 n)) in
        ap (λ (w : ℕ). refused_move w scratch hs bs) (k.refuses ∙ sym number)
        ∙ sym (by_number ∙ if-ne late_number 0 _ _ (λ z. n (sym number ∙ z)))

    module _ (ws : Words) (hs' bs' : Bytes) (g : Moved) (k : GathersPackets row m states places hs bs ws hs' bs' (Ok g)) where
      stands : Stands (states_in states) row hs bs all ws hs' bs' g
      stands = k.stands

      -- what is left of the row alone
      late_is : late_number ≡ cond (not (eqb (length all.row) 0)) body_refusal 0
      late_is = if-false (not (eqb all.refusal 0)) _ _ (ap not (eq-eqb all.refusal 0 (sym k.refuses)))

      row_behind : length all.row ≡ length row - g.taken
      row_behind = sym (ap length stands.row_left) ∙ length-drop g.taken row

      pub row_left-over : g.taken < length row → refused_move body_refusal scratch hs bs ≡ moved
      row_left-over l =
          let number : late_number ≡ body_refusal =
          late_is ∙ if-true (not (eqb (length all.row) 0)) _ _ (ap not (ne_eqb (length all.row) 0 (omega (arith, row_behind)))) in
          ap (λ (w : ℕ). refused_move w scratch hs bs) (sym number)
          ∙ sym (by_number ∙ if-ne late_number 0 _ _ (omega (arith, number)))

      module _ (whole : length row ≤ g.taken) where
        none : late_number ≡ 0
        none =
            late_is ∙ if-false (not (eqb (length all.row) 0)) _ _ (ap not (eq-eqb (length all.row) 0 (omega (arith, row_behind))))

        pub room_to_close : (packed_length g.headers ≤ length hs') × (g.headers ≤ most_segments * most_bytes)
        room_to_close =
            let l = ap length stands.headers-put ∙ put_keeps_length hs 0 all.headers in
            (subst (λ (n : ℕ). packed_length g.headers ≤ n) (sym l) stands.headers_room, stands.few_headers)

        abbrev made : Bytes
        made = packed all.headers

        made_long : packed_length g.headers ≡ length made
        made_long = ap packed_length stands.header_bytes_lem ∙ sym (packed-length all.headers)

        headers-are : closed hs' g.headers ≡ overwrite hs made
        headers-are =
            (λ i. closed (stands.headers-put i) (stands.header_bytes_lem i))
            ∙ closed-is_packed hs all.headers (subst (λ (n : ℕ). n ≤ length hs) made_long stands.headers_room)

        bodies_are : bs' ≡ overwrite bs all.bodies
        unfolding overwrite
        bodies_are =
            let n : 0 + length all.bodies ≡ length all.bodies = omega arith in
            stands.bodies_put
            ∙ sets-eq all.bodies bs 0 (omega (arith, stands.body_bytes, stands.bodies_room))
            ∙ ap (λ (j : ℕ). all.bodies ++ drop j bs) n

        pub all_moved : (hs'' : Bytes) (r : GatherAnswer) → hs'' ≡ closed hs' g.headers
            → r ≡ record { refusal = 0; headers = packed_length g.headers; bodies = g.bodies } → gather_result r ws hs'' bs' ≡ moved
        all_moved hs'' r c a =
            (λ i. gather_result (a i) (stands.states_are i) ((c ∙ headers-are) i) (bodies_are i))
            ∙ (λ i. gather_result (record { refusal = 0; headers = made_long i; bodies = stands.body_bytes i })
            (flat_map (λ s. s) all.states) (overwrite hs made) (overwrite bs all.bodies))
            ∙ sym (by_number ∙ if-eq late_number 0 _ _ none)
