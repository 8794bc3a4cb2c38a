-- What is put of a packet, and what is told of it.
use Prim.Native.Nat.{ℕ, ◌+◌, ◌-◌, ◌≤◌}
use mathlib.Core.Path.{◌≡◌, sym, ap, ◌∙◌}
use mathlib.Core.Logic.{◌≢◌}
use mathlib.Core.List.{◌++◌}
use native.Mathlib.Omega.{arith}
use lib.ListN.{length, take, drop, length-take, length-drop}
use lib.Seq.{sets}
use Rattle.std.proofs.Common.{Ok, Err}
use Rattle.t800.specs.declared.Markers.{Markers}
use Rattle.t800.specs.declared.Refusal.{Refusal}
use Rattle.t800.specs.RefusalNumbers.{number_of}
use Rattle.t800.specs.Base.{Words, Bytes}
use Rattle.t800.specs.Gathered.{Parts, parts_in_row}
use Rattle.t800_laws.proofs.Laws.Tests.{on-eq}
use Rattle.t2_write_packet.specs.Front.{BytesPut, bytes_put, put_bytes}
use Rattle.t2_write_packet.proofs.Laws.Front.{put_append}
use Rattle.t2_pack_headers.specs.Packing.{put_header}
use Rattle.t2_skip_packet.specs.Parts.{Skipped, SkipsPacket}
use Rattle.t2_skip_packet.proofs.Laws.Numbers.{refusal_counts}
use Rattle.t2_gather_packet.specs.declared.Moved.{Moved}
use Rattle.t2_gather_packet.specs.Moving.{sizes_refusal, header_part, body_parts, counts_of, GathersPacket}
use Rattle.t2_gather_packet.proofs.Laws.Sizes.{by_reader, parts_fit}

-- SOP, and the body behind it
pub parts_put : (bs row : Bytes) (at : ℕ) (p : Skipped) (a b : BytesPut) → a ≡ put_bytes (bytes_put bs at) (take p.sop row)
    → b ≡ put_bytes a (take (p.sop + p.header + p.body - (p.sop + p.header)) (drop (p.sop + p.header) row))
    → b.bytes ≡ sets bs at (body_parts p row)
parts_put bs row at p a b x y =
    let start = p.sop + p.header in
    let n : start + p.body - start ≡ p.body = omega arith in
    let sop = take p.sop row in
    let body = take (start + p.body - start) (drop start row) in
    ap (λ (k : BytesPut). k.bytes) (y ∙ ap (λ (k : BytesPut). put_bytes k body) x ∙ put_append (bytes_put bs at) sop body)
    ∙ ap (λ (k : ℕ). sets bs at (sop ++ take k (drop start row))) n

pub header_length : (row : Bytes) (sop header : ℕ) → sop + header ≤ length row
    → length (take (sop + header - sop) (drop sop row)) ≡ header
header_length row sop header h = simp (length-take, length-drop) (omega arith)

-- ---- what is told

module _ (row : Bytes) (m : Markers) (ws : Words) (hs bs : Bytes) (g : Moved) (vs : Words) (p : Skipped)
    (k : SkipsPacket (parts_in_row ws m row) vs p) where
  abbrev parts : Parts
  parts = parts_in_row ws m row

  abbrev why_for : Skipped → ℕ
  why_for q = sizes_refusal q g (length row) (length hs) (length bs)

  counts : parts.refusal ≡ 0 → p ≡ counts_of parts
  counts z =
      let h = k.holds z in
      λ i. record { refusal = k.refuses i; sop = h.1 i; header = h.2 i; body = h.3 i }

  same_refusal : why_for p ≡ why_for (counts_of parts)
  same_refusal =
      on-eq parts.refusal 0
      (λ z. ap why_for (counts z))
      (λ n. sym (by_reader p g (length row) (length hs) (length bs) (λ e. n (sym k.refuses ∙ e)))
      ∙ k.refuses
      ∙ by_reader (counts_of parts) g (length row) (length hs) (length bs) n)

  pub turned_away : (hs' bs' : Bytes) (why : Refusal) → number_of why ≡ why_for p
      → GathersPacket row m ws hs bs g vs hs' bs' (Err why)
  turned_away hs' bs' why e =
      let n = refusal_counts why in
      record {
        refuses = e ∙ same_refusal;
        state = λ z. absurd (n z);
        headers-put = λ z. absurd (n z);
        bodies_put = λ z. absurd (n z);
        moved = tt;
      }

  pub gathered : (hs' bs' : Bytes) → 0 ≡ why_for p
      → hs' ≡ put_header hs g.headers (take (p.sop + p.header - p.sop) (drop p.sop row))
      → bs' ≡ sets bs g.bodies (body_parts p row)
      → GathersPacket row m ws hs bs g vs hs' bs' (Ok (record {
        taken = g.taken + (p.sop + p.header + p.body);
        headers = g.headers + p.header;
        bodies = g.bodies + (p.sop + p.body);
      }))
  gathered hs' bs' e x y =
      let none : parts.refusal ≡ 0 = sym k.refuses ∙ (parts_fit p g (length row) (length hs) (length bs) (sym e)).accepted in
      let same : p ≡ counts_of parts = counts none in
      let n : p.sop + p.header - p.sop ≡ p.header = omega arith in
      record {
        refuses = e ∙ same_refusal;
        state = λ _. (k.holds none).0;
        headers-put = λ _. x ∙ ap (λ (h : ℕ). put_header hs g.headers (take h (drop p.sop row))) n
            ∙ ap (λ (q : Skipped). put_header hs g.headers (header_part q row)) same;
        bodies_put = λ _. y ∙ ap (λ (q : Skipped). sets bs g.bodies (body_parts q row)) same;
        moved = λ i. record {
          taken = g.taken + ((same i).sop + (same i).header + (same i).body);
          headers = g.headers + (same i).header;
          bodies = g.bodies + ((same i).sop + (same i).body);
        };
      }
