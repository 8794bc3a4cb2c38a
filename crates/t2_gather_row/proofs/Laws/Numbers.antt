-- A packet's number by the counts of the code is that of the definition.
use Prim.Native.Nat.{ℕ, ◌+◌, ◌≤◌}
use mathlib.Core.Path.{◌≡◌, refl, sym, ap, ◌∙◌}
use mathlib.Core.Bool.{Bool, true, false, cond, not, ◌||◌}
use mathlib.Core.List.{◌++◌}
use native.Mathlib.Omega.{arith}
use lib.ListN.{length, take, drop, length-append, length-take, length-drop}
use lib.Dec.{ltb, eqb}
use borrow.Author.Tests.{ltb-false}
use Rattle.t800.specs.declared.Markers.{Markers}
use Rattle.t800.specs.Base.{Bytes}
use Rattle.t800.specs.Refusals.{segments_refusal, space_refusal}
use Rattle.t800.specs.PackedHeaders.{most_segments, packed, segments_for}
use Rattle.t800.specs.Gathered.{Parts, state_at, parts_in_row, Gathering, gather_packet}
use Rattle.t2_pack_headers.specs.Packing.{packed_length}
use Rattle.t2_pack_headers.proofs.Laws.Packed.{packed-length}
use Rattle.t2_gather_packet.specs.declared.Moved.{Moved}
use Rattle.t2_gather_packet.specs.Moving.{sizes_refusal, counts_of}

-- a later number counts only where an earlier one isn't given
later_alike : (earlier : Bool) (n x y : ℕ) → (earlier ≡ false → x ≡ y) → cond earlier n x ≡ cond earlier n y
later_alike true n x y e = refl
later_alike false n x y e = e refl

piece_length : (row : Bytes) (at n : ℕ) → at + n ≤ length row → length (take n (drop at row)) ≡ n
piece_length row at n h = simp (length-take, length-drop) (omega arith)

module _ (p : Parts) (row headers bodies : Bytes) (inside : p.sop + p.header + p.body ≤ length row) where
  pub headers-long : length (headers ++ take p.header (drop p.sop row)) ≡ length headers + p.header
  headers-long =
      length-append headers (take p.header (drop p.sop row))
      ∙ ap (λ (n : ℕ). length headers + n) (piece_length row p.sop p.header (omega arith))

  pub bodies_long : length (bodies ++ take p.sop row ++ take p.body (drop (p.sop + p.header) row))
      ≡ length bodies + p.sop + p.body
  bodies_long =
      let sop : Bytes = take p.sop row in
      let body : Bytes = take p.body (drop (p.sop + p.header) row) in
      omega (
        arith,
        length-append (bodies ++ sop) body,
        length-append bodies sop,
        length-take p.sop row,
        piece_length row (p.sop + p.header) p.body inside,
      )

-- 15 and 11, by so many header bytes, bytes of their segments and other bytes
abbrev late_number : (headers_room bodies_room headers segments bodies : ℕ) → ℕ
late_number headers_room bodies_room headers segments bodies =
    cond (ltb most_segments (segments_for headers)) segments_refusal
    (cond (ltb headers_room segments || ltb bodies_room bodies) space_refusal 0)

pub same_number : (m : Markers) (a b place : ℕ) (gs : Gathering) (g : Moved) → g.headers ≡ length gs.headers
    → g.bodies ≡ length gs.bodies
    → sizes_refusal (counts_of (parts_in_row (state_at gs.states place) m gs.row)) g (length gs.row) a b
    ≡ (gather_packet m a b place gs).refusal
unfolding sizes_refusal gather_packet
same_number m a b place gs g hs bs =
    let p : Parts = parts_in_row (state_at gs.states place) m gs.row in
    let headers : Bytes = gs.headers ++ take p.header (drop p.sop gs.row) in
    let bodies : Bytes = gs.bodies ++ take p.sop gs.row ++ take p.body (drop (p.sop + p.header) gs.row) in
    later_alike (not (eqb p.refusal 0)) p.refusal _ _
    (λ _. later_alike (ltb (length gs.row) (p.sop + p.header + p.body)) 10 _ _
    (λ f.
    let inside = ltb-false (length gs.row) (p.sop + p.header + p.body) f in
    let h : g.headers + p.header ≡ length headers = omega (arith, headers-long p gs.row gs.headers gs.bodies inside) in
    let k : g.bodies + p.sop + p.body ≡ length bodies = omega (arith, bodies_long p gs.row gs.headers gs.bodies inside) in
    let s : packed_length (g.headers + p.header) ≡ length (packed headers) = ap packed_length h ∙ sym (packed-length headers) in
    λ i. late_number a b (h i) (s i) (k i)))
