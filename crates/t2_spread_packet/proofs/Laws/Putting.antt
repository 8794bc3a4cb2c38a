-- A packet's bytes put one part after another.
use mathlib.Core.Path.{◌≡◌, ap, ◌∙◌}
use mathlib.Core.List.{◌++◌}
use Prim.Native.Nat.{ℕ, ◌+◌, ◌-◌, ◌≤◌}
use native.Mathlib.Omega.{arith}
use lib.ListN.{length, take, drop, length-append, length-drop}
use lib.Seq.{sets, length-take-le}
use Rattle.t800.specs.Base.{Bytes}
use Rattle.t800.specs.PackedHeaders.{unpacked}
use Rattle.t2_unpack_headers.specs.declared.Cursor.{Cursor}
use Rattle.t2_unpack_headers.specs.Cursors.{Sought}
use Rattle.t2_unpack_headers.specs.Windows.{window_of}
use Rattle.t2_unpack_headers.proofs.Laws.Windows.{window_inside}
use Rattle.t2_write_packet.specs.Front.{BytesPut, bytes_put, put_bytes}
use Rattle.t2_write_packet.proofs.Laws.Front.{sets_append, part_put}
use Rattle.t2_skip_packet.specs.Parts.{Skipped}
use Rattle.t2_spread_packet.specs.declared.Moved.{Moved}
use Rattle.t2_spread_packet.specs.Moving.{HeaderPut, PacketPut}

-- ---- the header

-- the part of the row that is lent for n bytes
pub part_long : (rs : Bytes) (at n : ℕ) → at + n ≤ length rs → length (take (at + n - at) (drop at rs)) ≡ n
part_long rs at n h =
    let e : at + n - at ≡ n = omega arith in
    length-take-le (at + n - at) (drop at rs) (omega (arith, length-drop at rs)) ∙ e

module _ (segments : Bytes) (from n : ℕ) (inside : from + n ≤ length (unpacked segments).bytes) where
  abbrev header : Bytes
  header = take n (drop from (unpacked segments).bytes)

  pub header_long : length header ≡ n
  header_long = length-take-le n (drop from (unpacked segments).bytes) (omega (arith, length-drop from (unpacked segments).bytes))

  pub header_put : (rs : Bytes) (at end : ℕ) (part : Bytes) (k : ℕ) (c : Cursor) → at + n ≤ length rs → end ≡ at + n → k ≡ n
      → part ≡ window_of (unpacked segments).bytes from k → Sought segments from c
      → HeaderPut segments from n rs at (take at rs ++ (part ++ drop (end - at) (drop at rs))) c
  header_put rs at end part k c room e lent copied s =
      let l : length header ≡ n = header_long in
      let p : part ≡ header =
      copied ∙ ap (window_of (unpacked segments).bytes from) lent ∙ window_inside (unpacked segments).bytes from n inside in
      record {
        put = ap (λ (o : BytesPut). o.bytes) (part_put rs at end header part (omega arith) (omega arith) p);
        segment = record { cursor = s.cursor; before = s.before };
      }

-- ---- all three

module _ (segments bodies : Bytes) (p : Skipped) (g : Moved) (rs : Bytes) where
  abbrev plain : Bytes
  plain = (unpacked segments).bytes

  abbrev sop_bytes : Bytes
  sop_bytes = take p.sop bodies

  abbrev body_bytes : Bytes
  body_bytes = take p.body (drop p.sop bodies)

  abbrev header_bytes : Bytes
  header_bytes = take p.header (drop g.headers plain)

  module _ (h : p.sop + p.body ≤ length bodies) (inside : g.headers + p.header ≤ length plain)
      (room : g.row + (p.sop + p.header + p.body) ≤ length rs) where
    pub sop_long : length sop_bytes ≡ p.sop
    sop_long = length-take-le p.sop bodies (omega arith)

    pub sop_room : g.row + length sop_bytes ≤ length rs
    sop_room = omega (arith, sop_long)

    module _ (first : Bytes) (at : ℕ) (a : bytes_put first at ≡ put_bytes (bytes_put rs g.row) sop_bytes) where
      sop_end : at ≡ g.row + length sop_bytes
      sop_end = ap (λ (o : BytesPut). o.end) a

      pub header_room : at + p.header ≤ length rs
      header_room = omega (arith, sop_end, sop_long)

      module _ (second : Bytes) (c : Cursor) (b : HeaderPut segments g.headers p.header first at second c) (end stop : ℕ)
          (e : end ≡ at + p.header) (s : stop ≡ p.sop + p.body) where
        abbrev body_part : Bytes
        body_part = take (stop - p.sop) (drop p.sop bodies)

        body_is : body_part ≡ body_bytes
        body_is = let n : stop - p.sop ≡ p.body = omega arith in ap (λ (k : ℕ). take k (drop p.sop bodies)) n

        body_long : length body_bytes ≡ p.body
        body_long = length-take-le p.body (drop p.sop bodies) (omega (arith, length-drop p.sop bodies))

        pub body_room : end + length body_part ≤ length rs
        body_room = omega (arith, sop_end, sop_long, ap length body_is, body_long)

        pub packet-put : (third : Bytes) (last : ℕ) → bytes_put third last ≡ put_bytes (bytes_put second end) body_part
            → PacketPut segments bodies p g rs third c
        packet-put third last d =
            let one : first ≡ sets rs g.row sop_bytes = ap (λ (o : BytesPut). o.bytes) a in
            let n = header_long segments g.headers p.header inside in
            let two : second ≡ sets rs g.row (sop_bytes ++ header_bytes) =
            b.put ∙ (λ i. sets (one i) (sop_end i) header_bytes) ∙ sets_append sop_bytes header_bytes rs g.row in
            let two_end : end ≡ g.row + length (sop_bytes ++ header_bytes) =
            omega (arith, sop_end, length-append sop_bytes header_bytes) in
            record {
              put = ap (λ (o : BytesPut). o.bytes) d
                  ∙ (λ i. sets (two i) (two_end i) (body_is i))
                  ∙ sets_append (sop_bytes ++ header_bytes) body_bytes rs g.row;
              segment = b.segment;
            }
