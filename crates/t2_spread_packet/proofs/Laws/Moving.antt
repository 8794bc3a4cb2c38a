-- One packet moved back: what its parts say, and where the move stands behind it.
use mathlib.Core.Path.{◌≡◌, sym, ap, ◌∙◌, subst}
use mathlib.Core.Logic.{◌≢◌}
use Prim.Native.Nat.{ℕ, ◌+◌, ◌≤◌}
use native.Mathlib.Omega.{arith}
use lib.ListN.{length, drop, length-drop}
use lib.Seq.{sets}
use Rattle.std.proofs.Common.{Ok, Err}
use Rattle.t800.specs.declared.Markers.{Markers}
use Rattle.t800.specs.declared.Refusal.{Refusal}
use Rattle.t800.specs.RefusalNumbers.{number_of}
use Rattle.t800.specs.Base.{Words, Bytes}
use Rattle.t800.specs.PackedHeaders.{unpacked}
use Rattle.t800.specs.Gathered.{Parts}
use Rattle.t800_laws.proofs.Laws.Tests.{on-eq}
use Rattle.gathered_headers.proofs.PartsBack.{headers-inside}
use Rattle.t2_unpack_headers.specs.declared.Cursor.{Cursor}
use Rattle.t2_skip_windows.specs.Windows.{WindowOn}
use Rattle.t2_skip_packet.specs.Parts.{Skipped, SkipsPacket}
use Rattle.t2_skip_packet.proofs.Laws.Numbers.{refusal_counts}
use Rattle.t2_spread_packet.specs.declared.Moved.{Moved}
use Rattle.t2_spread_packet.specs.Moving.{sizes_refusal, packet_bytes, counts_of, PacketPut, moved_on, StandsAt, parts}
use Rattle.t2_spread_packet.specs.Moving.{SpreadsPacket}
use Rattle.t2_spread_packet.proofs.Laws.Sizes.{by_reader, Fits, fits_if}

-- the counts of an accepted packet are its parts
skipped_counts : (p : Parts) (vs : Words) (o : Skipped) → SkipsPacket p vs o → p.refusal ≡ 0 → o ≡ counts_of p
skipped_counts p vs o k z =
    let h = k.holds z in
    λ i. record { refusal = k.refuses i; sop = h.1 i; header = h.2 i; body = h.3 i }

-- and of one that is refused only the number counts
same_sizes : (p : Parts) (vs : Words) (o : Skipped) → SkipsPacket p vs o → (left put room : ℕ)
    → sizes_refusal o left put room ≡ sizes_refusal (counts_of p) left put room
same_sizes p vs o k left put room =
    on-eq p.refusal 0
    (λ z. ap (λ (q : Skipped). sizes_refusal q left put room) (skipped_counts p vs o k z))
    (λ n. sym (by_reader o left put room (λ z. n (sym k.refuses ∙ z)))
    ∙ k.refuses
    ∙ by_reader (counts_of p) left put room n)

module _ (segments bodies : Bytes) (m : Markers) (ws : Words) (rs : Bytes) (g : Moved) (vs : Words) (window : Bytes) (found : Skipped)
    (skips : SkipsPacket (parts segments bodies m ws rs g) vs found) where
  abbrev plain : Bytes
  plain = (unpacked segments).bytes

  abbrev here : Parts
  here = parts segments bodies m ws rs g

  why_is : sizes_refusal found (length bodies) g.row (length rs) ≡ sizes_refusal (counts_of here) (length bodies) g.row (length rs)
  why_is = same_sizes here vs found skips (length bodies) g.row (length rs)

  pub turned_away : (rs' : Bytes) (why : Refusal) → number_of why ≡ sizes_refusal found (length bodies) g.row (length rs)
      → SpreadsPacket segments bodies m ws rs g vs window rs' (Err why)
  turned_away rs' why e =
      let no = refusal_counts why in
      record {
        refuses = e ∙ why_is;
        state = λ z. absurd (no z);
        put = λ z. absurd (no z);
        headers-are = tt;
        bodies_are = tt;
        row_is = tt;
        stands = tt;
      }

  module _ (none : 0 ≡ sizes_refusal found (length bodies) g.row (length rs)) where
    pub fits : Fits found (length bodies) g.row (length rs)
    fits = fits_if found (length bodies) g.row (length rs) (sym none)

    accepted : here.refusal ≡ 0
    accepted = sym skips.refuses ∙ fits.accepted

    counts : found ≡ counts_of here
    counts = skipped_counts here vs found skips accepted

    module _ (inside : g.headers ≤ length plain) where
      pub header_inside : g.headers + found.header ≤ length plain
      header_inside =
          omega (
            arith,
            headers-inside ws m (drop g.headers plain) bodies accepted,
            ap (λ (p : Skipped). p.header) counts,
            length-drop g.headers plain,
          )

      pub moved_back : (base : ℕ) → WindowOn segments window base → (rs' : Bytes) (c : Cursor) (o : Moved)
          → PacketPut segments bodies found g rs rs' c → o ≡ moved_on g found base c
          → SpreadsPacket segments bodies m ws rs g vs window rs' (Ok o)
      moved_back base on rs' c o d e =
          record {
            refuses = none ∙ why_is;
            state = λ _. (skips.holds accepted).0;
            put = λ _. d.put ∙ ap (λ (p : Skipped). sets rs g.row
                (packet_bytes p.sop p.header p.body (drop g.headers plain) bodies)) counts;
            headers-are = ap (λ (x : Moved). x.headers) e ∙ ap (λ (p : Skipped). g.headers + p.header) counts;
            bodies_are = ap (λ (x : Moved). x.bodies) e ∙ ap (λ (p : Skipped). g.bodies + (p.sop + p.body)) counts;
            row_is = ap (λ (x : Moved). x.row) e ∙ ap (λ (p : Skipped). g.row + (p.sop + p.header + p.body)) counts;
            stands = subst (StandsAt segments window) (sym e) (record {
              inside = header_inside;
              window_on = on;
              segment = record { cursor = d.segment.cursor; before = omega (arith, d.segment.before) };
            });
          }
