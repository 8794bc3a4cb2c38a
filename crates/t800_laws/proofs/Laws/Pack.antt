-- What `pack` makes of bits (T.800, B.10.1): after a byte FF stands a byte below 80, so that no marker, FF 90 or above, can arise
-- within a header, and the last byte isn't FF.
use mathlib.Core.Path.{◌≡◌, refl}
use mathlib.Core.Logic.{◌≢◌}
use mathlib.Core.Bool.{Bool, true, false, cond}
use mathlib.Core.List.{List, [], ◌∷◌}
use Prim.Native.Nat.{ℕ, zero, suc, ◌+◌, ◌-◌, ◌*◌, ◌^◌, ◌<◌, ◌≤◌}
use native.Mathlib.Nat.{pow-suc, mul-le-mul_right, le_of_suc-le-suc}
use native.Mathlib.Omega.{arith}
use lib.Dec.{eqb}
use lib.Pow.{pow_pos}
use borrow.Author.Tests.{eqb-false}
use Rattle.t800.specs.Bits.{bits_after, last_bytes, pack_from, pack}

-- each is 0 or 1
abbrev pub AreBits : List ℕ → Type 0
AreBits [] = Unit {0}
AreBits (b ∷ bs) = (b < 2) × AreBits bs

-- the bytes that may follow x
abbrev pub MayFollow : ℕ → List ℕ → Type 0
MayFollow x [] = x ≢ 0xff
MayFollow x (y ∷ ys) = (x ≡ 0xff → y < 0x80) × MayFollow y ys

abbrev pub NoMarker : List ℕ → Type 0
NoMarker bytes = MayFollow 0 bytes

last_may_follow : (x byte : ℕ) → (x ≡ 255 → byte < 128) → MayFollow x (last_bytes byte)
unfolding last_bytes
last_may_follow x byte h = (h, go (eqb byte 255) refl)
  where
    go : (t : Bool) → eqb byte 255 ≡ t → MayFollow byte (cond t (0 ∷ []) [])
    go true e = ((λ _. omega arith), omega arith)
    go false e = eqb-false byte 255 e

-- `free` bits are free in `byte`, and what they can hold keeps it below 80 after FF
packed-may_follow : (x byte free : ℕ) (bs : List ℕ) → AreBits bs → (x ≡ 255 → byte + 2 ^ free ≤ 128) → MayFollow x (pack_from byte free bs)
unfolding pack_from bits_after
packed-may_follow x byte free [] bits h = last_may_follow x byte (λ e. omega (arith, h e, pow_pos free))
packed-may_follow x byte zero (b ∷ bs) bits h =
    ((λ e. omega (arith, h e)), go (eqb byte 255) refl (λ n f. packed-may_follow byte n f bs bits.1))
  where
    go : (t : Bool) → eqb byte 255 ≡ t → ((n f : ℕ) → (byte ≡ 255 → n + 2 ^ f ≤ 128) → MayFollow byte (pack_from n f bs))
        → MayFollow byte (pack_from (b * 2 ^ (cond t 7 8 - 1)) (cond t 7 8 - 1) bs)
    go true e next = next (b * 64) 6 (λ _. omega (arith, bits.0))
    go false e next = next (b * 128) 7 (λ q. absurd (eqb-false byte 255 e q))
packed-may_follow x byte (suc free) (b ∷ bs) bits h =
    packed-may_follow x (byte + b * 2 ^ free) free bs bits.1
    (λ e. omega (arith, rw pow-suc at (h e), mul-le-mul_right (2 ^ free) (le_of_suc-le-suc bits.0)))

pub packed-no_marker : (bits : List ℕ) → AreBits bits → NoMarker (pack bits)
unfolding pack
packed-no_marker bits h = packed-may_follow 0 0 8 bits h (λ e. absurd (omega arith))
