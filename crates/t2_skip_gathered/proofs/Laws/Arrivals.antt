-- Where a header's first bit stands in the window, and where its blocks lead.
use mathlib.Core.Path.{◌≡◌, refl, sym, ap, ◌∙◌, subst}
use mathlib.Core.Logic.{◌≢◌}
use mathlib.Core.Bool.{true}
use mathlib.Core.List.{List, []}
use Prim.Native.Nat.{ℕ, ◌+◌, ◌-◌, ◌^◌, ◌≤◌, ◌<◌}
use native.Mathlib.Nat.{le_refl}
use native.Mathlib.Omega.{arith}
use lib.ListN.{length, drop}
use Rattle.t800.specs.declared.Band.{Band}
use Rattle.t800.specs.Bits.{Decoded, reach, bio_at, get_bit}
use Rattle.t800.specs.Reports.{body_bytes}
use Rattle.t800.specs.State.{reader, layer, bands, blocks}
use Rattle.t800.specs.Ranges.{valid_state}
use Rattle.t800.specs.ReadHeader.{HeaderRead}
use Rattle.t800.specs.PackedHeaders.{unpacked}
use Rattle.t800_laws.proofs.Laws.Tests.{if-eq, if-ne}
use Rattle.tcd_laws.proofs.Laws.ValidStates.{blocks-of_valid}
use Rattle.bits_taken.proofs.Laws.Taken.{takes_one, bit_few}
use Rattle.bits_taken.proofs.Laws.BlockBits.{takes_bytes}
use Rattle.past_end.proofs.SameBits.{Way, bits_to, of_decoded, same_bit}
use Rattle.t2_read_segments.specs.declared.Run.{Run}
use Rattle.t2_skip_windows.specs.declared.InWindow.{InWindow}
use Rattle.t2_skip_windows.specs.Windows.{most_of_block, Ahead, Stands, WindowOn, Somewhere, Skips}
use Rattle.t2_skip_windows.proofs.Laws.Bytes.{into, agree_in}
use Rattle.t2_skip_windows.proofs.Laws.Steps.{stands_ahead}
use Rattle.t2_skip_gathered.specs.declared.FirstBit.{FirstBit}
use Rattle.t2_skip_gathered.specs.Headers.{StandsBefore, first_in, Arrives, blocks_after, SkipsAfter, header_up_to, SkipsUpTo}

-- ---- the first bit

module _ (segments window ws : List ℕ) (at : ℕ) (s : InWindow) (on : WindowOn segments window s.base) (before : StandsBefore at s) where
  abbrev src : List ℕ
  src = drop at (unpacked segments).bytes

  abbrev first : Decoded
  first = get_bit src (bio_at 0)

  there : at + 0 ≡ s.base + s.run.bio.bp
  there = omega (arith, before.place)

  near : 0 + most_of_block < length src + reach
  near = omega arith

  abbrev way : Way
  way = into (unpacked segments).bytes window at s.base 0 s.run.bio.bp on.holds there before.enough near

  first_near : first.bio.bp ≤ 1
  first_near = omega (arith, takes_bytes src 1 (bio_at 0) first.bio (takes_one src (bio_at 0)), bit_few src (bio_at 0) (omega arith))

  first_few : first.bio.ct < 8
  first_few = omega (arith, bit_few src (bio_at 0) (omega arith))

  bits_there : s.run.bio ≡ bits_to way (bio_at 0)
  bits_there =
      let p : s.run.bio.bp ≡ at + 0 - s.base = omega (arith, before.place) in
      ap (λ (r : Run). r.bio) before.run ∙ ap bio_at p

  first_there : get_bit window s.run.bio ≡ of_decoded.gone way first
  first_there =
      ap (get_bit window) bits_there
      ∙ same_bit src window way
      (agree_in (unpacked segments).bytes window at s.base 0 s.run.bio.bp on.holds there before.enough near)
      (bio_at 0) (le_refl 0) (omega (arith, first_near))

  -- after it, nothing else is read
  abbrev pub started : HeaderRead
  started = record { refusal = 0; words = ws; bio = first.bio; reports = []; records = [] }

  pub first_stands : Stands at 0 ws (first_in window s).stand started
  unfolding body_bytes
  first_stands =
      let e = first_there in
      let p : (get_bit window s.run.bio).bio.bp ≡ at + first.bio.bp - s.base = ap (λ (d : Decoded). d.bio.bp) e in
      record {
        words = refl;
        place = omega (arith, before.place);
        buf = sym (ap (λ (d : Decoded). d.bio.buf) e);
        ct = sym (ap (λ (d : Decoded). d.bio.ct) e);
        few = first_few;
        near = omega (arith, first_near);
        reports = refl;
        count = ap (λ (r : Run). r.count) before.run;
        records = omega arith;
        room = ap (λ (r : Run). r.room) before.run;
        bytes = ap (λ (r : Run). r.bytes) before.run;
        accepted = refl;
        goes_on = refl;
      }

  pub first_somewhere : at < 2 ^ 63 → Somewhere 0 ws (first_in window s).stand
  first_somewhere h = record { at = at; reading = started; near = h; stands = first_stands }

  pub same_value : (first_in window s).value ≡ first.value
  same_value = ap (λ (d : Decoded). d.value) first_there

-- ---- the blocks

module _ (segments ws : List ℕ) (s : InWindow) (first : ℕ) where
  pub none_skipped : (window : List ℕ) → WindowOn segments window s.base → first ≡ 0 → SkipsAfter segments ws s first window ws s
  none_skipped window on z = record {
    window_on = on;
    arrives = λ at r st. subst (Arrives at ws s) (sym (if-eq first 0 r _ z))
        (record { refuses = st.goes_on ∙ sym st.accepted; number = 0; few = omega arith; holds = λ _. st });
  }

  pub all_skipped : (window vs : List ℕ) (o : InWindow) (bs : List Band) → valid_state reader ws (length ws) ≡ true → first ≢ 0
      → bs ≡ bands ws → WindowOn segments window o.base
      → Skips (unpacked segments).bytes (layer ws) 0 (blocks bs) ws s vs o → SkipsAfter segments ws s first window vs o
  all_skipped window vs o bs valid n e on f = record {
    window_on = on;
    arrives = λ at r st.
        let k = subst (λ (l : List Band). Skips (unpacked segments).bytes (layer ws) 0 (blocks l) ws s vs o) e f at r st in
        subst (Arrives at vs o) (sym (if-ne first 0 r _ n))
        (record {
          refuses = k.refuses;
          number = 0 + length (blocks (bands ws));
          few = omega (arith, blocks-of_valid reader ws (length ws) valid);
          holds = k.holds;
        });
  }

-- ---- from the first bit on

module _ (segments ws : List ℕ) (at : ℕ) (front : InWindow) (window : List ℕ) (on : WindowOn segments window front.base)
    (before : StandsBefore at front) (bit : FirstBit) (is : bit ≡ first_in window front) (below : at < 2 ^ 63)
  where
    abbrev bytes : List ℕ
    bytes = drop at (unpacked segments).bytes

    pub bit_somewhere : Somewhere 0 ws bit.stand
    bit_somewhere =
        subst (λ (x : FirstBit). Somewhere 0 ws x.stand) (sym is) (first_somewhere segments window ws at front on before below)

    module _ (window' vs : List ℕ) (o : InWindow) (skips : SkipsAfter segments ws bit.stand bit.value window' vs o) where
      abbrev read : HeaderRead
      read = header_up_to bytes ws (get_bit bytes (bio_at 0))

      arrives : Arrives at vs o read
      arrives =
          let r : HeaderRead = started segments window ws at front on before in
          let e : bit.value ≡ (get_bit bytes (bio_at 0)).value = ap (λ (x : FirstBit). x.value) is
          ∙ same_value segments window ws at front on before in
          subst (λ (v : ℕ). Arrives at vs o (blocks_after bytes ws v r)) e
          (skips.arrives at r
          (subst (λ (x : FirstBit). Stands at 0 ws x.stand r) (sym is) (first_stands segments window ws at front on before)))

      pub refused-up_to : o.run.refusal ≢ 0 → SkipsUpTo segments ws at window' vs o
      refused-up_to n = record { window_on = skips.window_on; enough = λ z. absurd (n z); arrives = arrives }

      pub place_fits : o.run.refusal ≡ 0 → o.base + o.run.bio.bp < 2 ^ 64
      place_fits z =
          let st = arrives.holds (sym arrives.refuses ∙ z) in
          omega (arith, st.place, st.near, arrives.few)

      -- the window filled after them
      pub filled-up_to : (window'' : List ℕ) (e : InWindow) → WindowOn segments window'' e.base → Ahead o e
          → SkipsUpTo segments ws at window'' vs e
      filled-up_to window'' e w h = record {
        window_on = w;
        enough = λ _. h.enough;
        arrives = record {
          refuses = ap (λ (x : Run). x.refusal) h.run ∙ arrives.refuses;
          number = arrives.number;
          few = arrives.few;
          holds = λ z. stands_ahead at arrives.number vs o e read h (arrives.holds z);
        };
      }

-- where the header's end is looked at
pub end_near : (at : ℕ) (vs : List ℕ) (o : InWindow) (r : HeaderRead) → Arrives at vs o r → o.run.refusal ≡ 0 → at < 2 ^ 63
    → (at ≤ o.base + o.run.bio.bp) × (o.base + o.run.bio.bp + 5 < 2 ^ 64)
end_near at vs o r a z h =
    let st = a.holds (sym a.refuses ∙ z) in
    (omega (arith, st.place), omega (arith, st.place, st.near, a.few))
