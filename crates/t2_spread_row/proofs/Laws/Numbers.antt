-- A packet's number by the counts of the code is that of the definition.
use mathlib.Core.Path.{◌≡◌, refl, ap}
use mathlib.Core.Bool.{Bool, true, false, cond, not}
use mathlib.Core.List.{◌++◌}
use Prim.Native.Nat.{ℕ, ◌+◌, ◌≤◌}
use native.Mathlib.Omega.{arith}
use lib.ListN.{length, take, drop, length-append, length-take, length-drop}
use lib.Dec.{ltb, eqb}
use borrow.Author.Tests.{eqb-true, ltb-false, not-false}
use Rattle.t800.specs.declared.Markers.{Markers}
use Rattle.t800.specs.Base.{Bytes}
use Rattle.t800.specs.Refusals.{body_refusal, space_refusal}
use Rattle.t800.specs.Gathered.{Parts, state_at, parts_gathered, Spreading, spread_packet}
use Rattle.gathered_headers.proofs.PartsBack.{headers-inside}
use Rattle.t2_spread_packet.specs.Moving.{sizes_refusal, counts_of}

-- a later number counts only where an earlier one isn't given
later_alike : (earlier : Bool) (n x y : ℕ) → (earlier ≡ false → x ≡ y) → cond earlier n x ≡ cond earlier n y
later_alike true n x y e = refl
later_alike false n x y e = e refl

-- the row with a packet more
pub row_long : (p : Parts) (row headers bodies : Bytes) → p.header ≤ length headers → p.sop + p.body ≤ length bodies
    → length (row ++ take p.sop bodies ++ take p.header headers ++ take p.body (drop p.sop bodies))
    ≡ length row + (p.sop + p.header + p.body)
row_long p row headers bodies h k =
    let sop : Bytes = take p.sop bodies in
    let header : Bytes = take p.header headers in
    let body : Bytes = take p.body (drop p.sop bodies) in
    omega (
      arith,
      length-append (row ++ sop ++ header) body,
      length-append (row ++ sop) header,
      length-append row sop,
      length-take p.sop bodies,
      length-take p.header headers,
      length-take p.body (drop p.sop bodies),
      length-drop p.sop bodies,
    )

pub same_number : (m : Markers) (room place : ℕ) (sp : Spreading) (put : ℕ) → put ≡ length sp.row
    → sizes_refusal (counts_of (parts_gathered (state_at sp.states place) m sp.headers sp.bodies)) (length sp.bodies) put room
    ≡ (spread_packet m room place sp).refusal
unfolding sizes_refusal spread_packet
same_number m room place sp put e =
    let ws = state_at sp.states place in
    let p : Parts = parts_gathered ws m sp.headers sp.bodies in
    later_alike (not (eqb p.refusal 0)) p.refusal _ _
    (λ z. later_alike (ltb (length sp.bodies) (p.sop + p.body)) body_refusal _ _
    (λ f.
    let in_headers = headers-inside ws m sp.headers sp.bodies (eqb-true p.refusal 0 (not-false (eqb p.refusal 0) z)) in
    let in_bodies = ltb-false (length sp.bodies) (p.sop + p.body) f in
    let l = row_long p sp.row sp.headers sp.bodies in_headers in_bodies in
    let n : put + (p.sop + p.header + p.body)
    ≡ length (sp.row ++ take p.sop sp.bodies ++ take p.header sp.headers ++ take p.body (drop p.sop sp.bodies)) =
    omega (arith, l) in
    ap (λ (x : ℕ). cond (ltb room x) space_refusal 0) n))
