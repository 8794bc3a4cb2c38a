-- One more header byte, in the code's own numbers.
use Prim.Native.Nat.{ℕ, ◌+◌, ◌-◌, ◌*◌, ◌/◌, ◌%◌, ◌<◌, ◌≤◌}
use mathlib.Core.Path.{◌≡◌, ap, sym, ◌∙◌}
use mathlib.Core.Logic.{◌≢◌}
use native.Mathlib.Omega.{arith}
use borrow.Author.Tests.{lt-ltb, le-ltb}
use lib.ListN.{length, set, drop, get_or}
use lib.Seq.{sets}
use lib.Dec.{ltb}
use Rattle.t800.specs.Base.{Bytes}
use Rattle.t800.specs.PackedHeaders.{most_bytes, most_segments, segments_for}
use Rattle.t800_laws.proofs.Laws.Lists.{next_entry}
use Rattle.t800_laws.proofs.Laws.Tests.{on-lt, if-eq, if-ne}
use Rattle.t2_pack_headers.specs.declared.Place.{Place}
use Rattle.t2_pack_headers.specs.Packing.{packed_length, opening, place_of, put_byte, put_header, bytes_put}

-- so many bytes are more than the segments take
pub more_than_all : (count : ℕ) → ltb (most_segments * most_bytes) count ≡ ltb most_segments (segments_for count)
unfolding segments_for
more_than_all count =
    on-lt (most_segments * most_bytes) count
    (λ h. lt-ltb (most_segments * most_bytes) count h ∙ sym (lt-ltb most_segments ((count + 65531) / 65532) (omega arith)))
    (λ h. le-ltb (most_segments * most_bytes) count h ∙ sym (le-ltb most_segments ((count + 65531) / 65532) (omega arith)))

put≡ : (out out' : Bytes) (p q : Place) → out ≡ out' → p.count ≡ q.count → p.at ≡ q.at → p.left ≡ q.left
    → bytes_put out p ≡ bytes_put out' q
put≡ out out' p q e c a l = λ i. record { out = e i; place = record { count = c i; at = a i; left = l i } }

module _ (out : Bytes) (n at left byte : ℕ) (p : at ≡ packed_length n) (q : left ≡ segments_for n * most_bytes - n) where
  -- in a segment that is open
  pub later_byte : left ≢ 0
      → bytes_put (set out at byte) (record { count = n + 1; at = at + 1; left = left - 1 })
      ≡ bytes_put (put_byte out n byte) (place_of (n + 1))
  unfolding put_byte segments_for
  later_byte h =
      put≡ _ _ _ _
      (ap (λ (k : ℕ). set out k byte) p ∙ sym (if-ne (n % most_bytes) 0 _ _ (omega arith)))
      (omega arith)
      (omega arith)
      (omega arith)

  -- the first byte of a segment
  pub first_byte : (out' : Bytes) → left ≡ 0 → out' ≡ sets out at (opening (n / most_bytes))
      → bytes_put (set out' (at + 5) byte) (record { count = n + 1; at = at + 5 + 1; left = most_bytes - 1 })
      ≡ bytes_put (put_byte out n byte) (place_of (n + 1))
  unfolding put_byte segments_for
  first_byte out' h e =
      let i : n / most_bytes ≡ (n + 65531) / 65532 = omega arith in
      put≡ _ _ _ _
      (ap (λ (l : Bytes). set l (at + 5) byte) e
      ∙ ap (λ (k : ℕ). set (sets out at (opening k)) (at + 5) byte) i
      ∙ ap (λ (k : ℕ). set (sets out k (opening (segments_for n))) (k + 5) byte) p
      ∙ sym (if-eq (n % most_bytes) 0 _ _ (omega arith)))
      (omega arith)
      (omega arith)
      (omega arith)

-- byte i of the bytes to put, behind the `count` and the i ones put before
pub put_turn : (out : Bytes) (count : ℕ) (bytes : Bytes) (i : ℕ) → i < length bytes
    → put_header (put_byte out (count + i) (get_or bytes i 0)) (count + (i + 1)) (drop (i + 1) bytes) ≡ put_header out (count + i) (drop i bytes)
unfolding put_header
put_turn out count bytes i h =
    ap (λ (k : ℕ). put_header (put_byte out (count + i) (get_or bytes i 0)) k (drop (i + 1) bytes)) (omega arith)
    ∙ sym (ap (put_header out (count + i)) (next_entry bytes i h))

-- the place is right for one more byte, where m bytes fit
pub room_for_next : (p : Place) (n m room : ℕ) → p ≡ place_of n → n < m → packed_length m ≤ room → m ≤ most_segments * most_bytes
    → (p.at ≡ packed_length p.count)
    × (p.left ≡ segments_for p.count * most_bytes - p.count)
    × (packed_length (p.count + 1) ≤ room)
    × (p.count < most_segments * most_bytes)
unfolding segments_for
room_for_next p n m room e h r k =
    let c : p.count ≡ n = ap (λ (q : Place). q.count) e in
    let a : p.at ≡ packed_length n = ap (λ (q : Place). q.at) e in
    let l : p.left ≡ segments_for n * most_bytes - n = ap (λ (q : Place). q.left) e in
    rw c (a, l, omega arith, omega arith)
