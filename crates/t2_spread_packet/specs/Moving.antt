-- One packet moved back, in counts of bytes: what turns it away, and what is put.
use Rattle.std.specs.Prelude.{Result, IfOk, ◌≡◌, not, [], ◌∷◌, ◌++◌, ℕ, ◌+◌, ◌≤◌, length, take, drop, ltb, eqb}
use Rattle.std.proofs.lemmas.List.Edits.{sets}
use Rattle.t800.specs.declared.Markers.{Markers}
use Rattle.t800.specs.declared.Refusal.{Refusal}
use Rattle.t800.specs.Base.{Words, Bytes}
use Rattle.t800.specs.Refusals.{check, first_of, body_refusal, space_refusal}
use Rattle.t800.specs.PackedHeaders.{unpacked}
use Rattle.t800.specs.Gathered.{Parts, parts_gathered}
use Rattle.t2_unpack_headers.specs.declared.Cursor.{Cursor}
use Rattle.t2_unpack_headers.specs.Cursors.{CursorAt}
use Rattle.t2_skip_windows.specs.Windows.{WindowOn}
use Rattle.t2_skip_packet.specs.Parts.{Skipped, number_in}
use Rattle.t2_spread_packet.specs.declared.Moved.{Moved}

-- the packet p, where so many bytes of the bodies are left, and of so many bytes of the row some are put
unfoldable pub sizes_refusal : Skipped → (left put room : ℕ) → ℕ
sizes_refusal p left put room =
    first_of
    (check p.refusal (not (eqb p.refusal 0))
    ∷ check body_refusal (ltb left (p.sop + p.body))
    ∷ check space_refusal (ltb room (put + (p.sop + p.header + p.body)))
    ∷ [])

-- SOP, header and body, from the header bytes and bodies that are left
abbrev pub packet_bytes : (sop header body : ℕ) (headers bodies : Bytes) → Bytes
packet_bytes sop header body headers bodies = take sop bodies ++ take header headers ++ take body (drop sop bodies)

-- the parts of t800 in counts
abbrev pub counts_of : Parts → Skipped
counts_of p = record { refusal = p.refusal; sop = p.sop; header = p.header; body = p.body }

-- the segment c comes at or before header byte `from`
pub record SegmentOf (segments : Bytes) (from : ℕ) (c : Cursor) : Type 0 where
  pub cursor : CursorAt segments c
  pub before : c.before ≤ from

pub record HeaderPut (segments : Bytes) (from n : ℕ) (rs : Bytes) (at : ℕ) (rs' : Bytes) (c : Cursor) : Type 0 where
  pub put : rs' ≡ sets rs at (take n (drop from (unpacked segments).bytes))
  pub segment : SegmentOf segments from c

pub record PacketPut (segments bodies : Bytes) (p : Skipped) (g : Moved) (rs rs' : Bytes) (c : Cursor) : Type 0 where
  pub put : rs'
      ≡ sets rs g.row (packet_bytes p.sop p.header p.body (drop g.headers (unpacked segments).bytes) bodies)
  pub segment : SegmentOf segments g.headers c

-- behind a packet with these parts
abbrev pub moved_on : Moved → Skipped → (base : ℕ) → Cursor → Moved
moved_on g p base segment = record {
  headers = g.headers + p.header;
  bodies = g.bodies + (p.sop + p.body);
  row = g.row + (p.sop + p.header + p.body);
  base = base;
  segment = segment;
}

-- the header bytes are taken up to one of them, the window has those from `base` on, and the last header's segment comes before the next
pub record StandsAt (segments window : Bytes) (g : Moved) : Type 0 where
  pub inside : g.headers ≤ length (unpacked segments).bytes
  pub window_on : WindowOn segments window g.base
  pub segment : SegmentOf segments g.headers g.segment

-- bodies is what is left of them; from the lists ws and rs at entry, and g: vs, window and rs' at exit, and o
module _ (segments bodies : Bytes) (m : Markers) (ws : Words) (rs : Bytes) (g : Moved) where
  abbrev pub parts : Parts
  parts = parts_gathered ws m (drop g.headers (unpacked segments).bytes) bodies

  pub record SpreadsPacket (vs : Words) (window rs' : Bytes) (o : Result Moved Refusal) : Type 0 where
    pub refuses : number_in o ≡ sizes_refusal (counts_of parts) (length bodies) g.row (length rs)
    pub state : number_in o ≡ 0 → vs ≡ parts.state
    pub put : number_in o ≡ 0
        → rs'
        ≡ sets rs g.row
        (packet_bytes parts.sop parts.header parts.body (drop g.headers (unpacked segments).bytes) bodies)
    pub headers-are : IfOk o (λ q. q.headers ≡ g.headers + parts.header)
    pub bodies_are : IfOk o (λ q. q.bodies ≡ g.bodies + (parts.sop + parts.body))
    pub row_is : IfOk o (λ q. q.row ≡ g.row + (parts.sop + parts.header + parts.body))
    pub stands : IfOk o (λ q. StandsAt segments window q)
