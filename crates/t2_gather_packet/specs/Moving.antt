-- One packet of a row gathered, in counts of bytes: what turns it away, and what is put.
use Rattle.std.specs.Prelude.{Result, IfOk, ◌≡◌, ◌||◌, not, [], ◌∷◌, ◌++◌, ℕ, ◌+◌, ◌*◌, ◌≤◌, length, take, drop, ltb, eqb}
use Rattle.std.proofs.lemmas.List.Edits.{sets}
use Rattle.t800.specs.declared.Markers.{Markers}
use Rattle.t800.specs.declared.Refusal.{Refusal}
use Rattle.t800.specs.Base.{Words, Bytes}
use Rattle.t800.specs.Refusals.{check, first_of, body_refusal, space_refusal, segments_refusal}
use Rattle.t800.specs.PackedHeaders.{most_bytes, most_segments, segments_for}
use Rattle.t800.specs.Gathered.{Parts, parts_in_row}
use Rattle.t2_pack_headers.specs.Packing.{packed_length, put_header}
use Rattle.t2_skip_packet.specs.Parts.{Skipped, number_in}
use Rattle.t2_gather_packet.specs.declared.Moved.{Moved}

-- the packet p, where so much has been put and so many bytes of the row are left
unfoldable pub sizes_refusal : Skipped → Moved → (left headers_room bodies_room : ℕ) → ℕ
sizes_refusal p g left headers_room bodies_room =
    first_of
    (check p.refusal (not (eqb p.refusal 0))
    ∷ check body_refusal (ltb left (p.sop + p.header + p.body))
    ∷ check segments_refusal (ltb most_segments (segments_for (g.headers + p.header)))
    ∷ check space_refusal (ltb headers_room (packed_length (g.headers + p.header)) || ltb bodies_room (g.bodies + p.sop + p.body))
    ∷ [])

-- what a packet that isn't turned away has room for
pub record PartsFit (p : Skipped) (g : Moved) (left headers_room bodies_room : ℕ) : Type 0 where
  pub accepted : p.refusal ≡ 0
  pub in_row : p.sop + p.header + p.body ≤ left
  pub few_headers : g.headers + p.header ≤ most_segments * most_bytes
  pub headers_fit : packed_length (g.headers + p.header) ≤ headers_room
  pub bodies_fit : g.bodies + p.sop + p.body ≤ bodies_room

-- the header's bytes, and the others, of the packet in front of a row
abbrev pub header_part : Skipped → (row : Bytes) → Bytes
header_part p row = take p.header (drop p.sop row)

abbrev pub body_parts : Skipped → (row : Bytes) → Bytes
body_parts p row = take p.sop row ++ take p.body (drop (p.sop + p.header) row)

-- the parts of t800 in counts
abbrev pub counts_of : Parts → Skipped
counts_of p = record { refusal = p.refusal; sop = p.sop; header = p.header; body = p.body }

-- row is what is left of it; from the lists ws, hs and bs at entry, and g: vs, hs' and bs' at exit, and o
pub record GathersPacket (row : Bytes) (m : Markers) (ws : Words) (hs bs : Bytes) (g : Moved) (vs : Words) (hs' bs' : Bytes)
    (o : Result Moved Refusal) : Type 0 where
  pub refuses : number_in o
      ≡ sizes_refusal (counts_of (parts_in_row ws m row)) g (length row) (length hs) (length bs)
  pub state : number_in o ≡ 0 → vs ≡ (parts_in_row ws m row).state
  pub headers-put : number_in o ≡ 0
      → hs' ≡ put_header hs g.headers (header_part (counts_of (parts_in_row ws m row)) row)
  pub bodies_put : number_in o ≡ 0
      → bs' ≡ sets bs g.bodies (body_parts (counts_of (parts_in_row ws m row)) row)
  pub moved : IfOk o (λ q.
      let p = parts_in_row ws m row in
      q ≡ record {
        taken = g.taken + (p.sop + p.header + p.body);
        headers = g.headers + p.header;
        bodies = g.bodies + (p.sop + p.body);
      })
