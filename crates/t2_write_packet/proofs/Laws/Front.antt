-- Bytes put one run after another, and the parts of a packet less its body.
use mathlib.Core.Path.{◌≡◌, sym, ap, ◌∙◌}
use mathlib.Core.Bool.{Bool, true, false, cond, true≢false}
use mathlib.Core.List.{List, [], ◌∷◌, ◌++◌, append_assoc}
use Prim.Native.Nat.{ℕ, suc, ◌+◌, ◌-◌, ◌≤◌}
use native.Mathlib.Omega.{arith}
use lib.ListN.{length, set, take, drop, length-append}
use lib.Seq.{sets, sets-eq, drop-drop}
use lib.Dec.{leb}
use borrow.Author.Tests.{le-leb, lt-leb}
use Rattle.t800.specs.declared.Markers.{Markers}
use Rattle.t800.specs.Bits.{pack}
use Rattle.t800.specs.MarkerSegments.{sop_bytes, eph_bytes, with_markers}
use Rattle.t800.specs.WriteHeader.{Contribution, code_header}
use Rattle.t800.specs.Packet.{front}
use Rattle.t800_laws.proofs.Laws.Tests.{on-le}
use Rattle.t2_write_header.specs.Header.{HeaderCoded, header_coded, put_header}
use Rattle.t2_refusal_laws.proofs.Laws.NotRefused.{NotRefused}
use Rattle.t2_write_header.proofs.Laws.Header.{header_bytes, header_small}
use Rattle.t2_write_packet.specs.Front.{BytesPut, bytes_put, put_bytes, put_front}

pub sets_append : (xs ys l : List ℕ) (i : ℕ) → sets (sets l i xs) (i + length xs) ys ≡ sets l i (xs ++ ys)
sets_append [] ys l i = let e : i + 0 ≡ i = omega arith in ap (λ (k : ℕ). sets l k ys) e
sets_append (x ∷ xs) ys l i = let e : i + suc (length xs)
    ≡ suc i + length xs = omega arith in ap (λ (k : ℕ). sets (sets (set l i x) (suc i) xs) k ys) e
    ∙ sets_append xs ys (set l i x) (suc i)

pub put_append : (o : BytesPut) (xs ys : List ℕ) → put_bytes (put_bytes o xs) ys ≡ put_bytes o (xs ++ ys)
put_append o xs ys =
    let e : o.end + length xs + length ys ≡ o.end + length (xs ++ ys) = omega (arith, length-append xs ys) in
    λ i. bytes_put (sets_append xs ys o.bytes o.end i) (e i)

-- a part of the output is lent for them
pub part_put : (l : List ℕ) (at end : ℕ) (xs part : List ℕ) → at + length xs ≤ length l → end ≡ at + length xs → part ≡ xs
    → bytes_put (take at l ++ (part ++ drop (end - at) (drop at l))) end ≡ put_bytes (bytes_put l at) xs
part_put l at end xs part h e p =
    let n : end - at ≡ length xs = omega arith in
    let q = ap (λ (z : List ℕ). take at l ++ (xs ++ z)) (ap (λ (z : ℕ). drop z (drop at l)) n ∙ drop-drop (length xs) at l)
    ∙ sym (append_assoc (take at l) xs (drop (at + length xs) l)) ∙ sym (sets-eq xs l at h) in
    (λ i. bytes_put (take at l ++ (p i ++ drop (end - at) (drop at l))) end) ∙ (λ i. bytes_put (q i) (e i))

pub room_after : (bytes front body : ℕ) → front ≤ bytes → leb body (bytes - front) ≡ leb (front + body) bytes
room_after bytes front body h =
    on-le body (bytes - front)
    (λ k. le-leb body (bytes - front) k ∙ sym (le-leb (front + body) bytes (omega arith)))
    (λ k. lt-leb body (bytes - front) k ∙ sym (lt-leb (front + body) bytes (omega arith)))

-- a marker that isn't used, and one that is
pub not_used : (used : Bool) (bytes : List ℕ) (at : ℕ) (xs : List ℕ) → used ≡ false → bytes_put bytes at
    ≡ put_bytes (bytes_put bytes at) (cond used xs [])
not_used true bytes at xs h = absurd (true≢false h)
not_used false bytes at xs h = let e : at ≡ at + 0 = omega arith in λ i. bytes_put bytes (e i)

pub used_bytes : (used : Bool) (bytes : List ℕ) (at : ℕ) (after : List ℕ) (end : ℕ) (xs : List ℕ) → used ≡ true → end
    ≡ at + length xs → after ≡ sets bytes at xs
    → bytes_put after end ≡ put_bytes (bytes_put bytes at) (cond used xs [])
used_bytes true bytes at after end xs h e s = λ i. bytes_put (s i) (e i)
used_bytes false bytes at after end xs h e s = absurd (true≢false (sym h))

-- SOP is put or not, and so is EPH
marker_up_to : (used : Bool) (xs : List ℕ) → length xs ≤ 6 → length (cond used xs []) ≤ 6
marker_up_to true xs h = h
marker_up_to false xs h = omega arith

pub sop_up_to : (used : Bool) (number : ℕ) → length (cond used (sop_bytes number) []) ≤ 6
unfolding sop_bytes
sop_up_to used number = marker_up_to used (sop_bytes number) (omega arith)

module _ (p : Contribution) (ws : List ℕ) (m : Markers) (number : ℕ) (bytes : List ℕ) where
  abbrev sop : List ℕ
  sop = cond m.sop (sop_bytes number) []

  abbrev eph : List ℕ
  eph = cond m.eph eph_bytes []

  -- vs is the scratch, once it holds the state
  pub front-put : (vs : List ℕ) (a e : BytesPut) (h : HeaderCoded) → vs ≡ ws → a ≡ put_bytes (bytes_put bytes 0) sop
      → h ≡ put_header p vs a.end a.bytes → e ≡ put_bytes (bytes_put h.bytes h.end) eph
      → header_coded h.words e.bytes e.end ≡ put_front p ws m number bytes
  unfolding put_front put_header front with_markers
  front-put vs a e h v x w z =
      let y : h ≡ put_header p ws a.end a.bytes = w ∙ ap (λ (us : List ℕ). put_header p us a.end a.bytes) v in
      let head : List ℕ = pack (code_header p ws).bits in
      let s : bytes_put h.bytes h.end
      ≡ put_bytes (bytes_put bytes 0) (sop ++ head) = ap (λ (k : HeaderCoded). bytes_put k.bytes k.end) y
      ∙ ap (λ (k : BytesPut). put_bytes k head) x ∙ put_append (bytes_put bytes 0) sop head in
      let t : e ≡ put_bytes (bytes_put bytes 0) (sop ++ head ++ eph) = z ∙ ap (λ (k : BytesPut). put_bytes k eph) s
      ∙ put_append (bytes_put bytes 0) (sop ++ head) eph in
      let n : 0 + length (sop ++ head ++ eph) ≡ length (sop ++ head ++ eph) = omega arith in
      (λ i. header_coded (y i).words (t i).bytes (t i).end)
      ∙ (λ i. header_coded (code_header p ws).words (sets bytes 0 (sop ++ head ++ eph)) (n i))

-- a packet that nothing refuses
module _ (ws : List ℕ) (n : ℕ) (p : Contribution) (r : NotRefused ws n p) where
  pub header_ends : (vs : List ℕ) (start : ℕ) (bytes : List ℕ) (h : HeaderCoded) → vs ≡ ws → start ≤ 6
      → h ≡ put_header p vs start bytes → h.end ≤ header_bytes + 6
  unfolding put_header
  header_ends vs start bytes h v l e =
      omega (
        arith,
        ap (λ (k : HeaderCoded). k.end) (e ∙ ap (λ (us : List ℕ). put_header p us start bytes) v),
        header_small ws n p r,
      )
