-- Writing keeps `FreeBitsClear`, and makes room.
use mathlib.Core.Path.{◌≡◌, refl, ◌∙◌, sym, ap}
use mathlib.Core.Bool.{Bool, true, false, cond}
use mathlib.Core.List.{List, [], ◌∷◌, ◌++◌}
use Prim.Native.Nat.{ℕ, ◌+◌, ◌-◌, ◌*◌, ◌%◌, ◌^◌, ◌≤◌}
use native.Mathlib.Nat.{add-mul-mod_self_right, zero-mod}
use native.Mathlib.Omega.{arith}
use lib.Dec.{eqb}
use lib.Pow.{mod-mod-pow}
use borrow.Author.Tests.{eqb-false}
use Rattle.t800.specs.declared.Bio.{Bio}
use Rattle.bio_bytes.specs.Writing.{Output, empty_at, byte_out, make_room, hold_bit, put_bit, put_bits, FreeBitsClear}
use Rattle.bio_bytes.proofs.Laws.HeldWord.{seven_or_eight}

pub empty_at-clear : (p : ℕ) → FreeBitsClear (empty_at p)
empty_at-clear p = record { at_most_eight = omega arith; clear = refl }

-- ---- seven or eight bits follow a byte, and they are free

moved_clear : (t : Bool) (u : ℕ) → u * 256 % 65536 % 2 ^ cond t 7 8 ≡ 0
moved_clear true u = omega arith
moved_clear false u = omega arith

pub byte_out-ct : (o : Output) → (7 ≤ (byte_out o).bio.ct) × ((byte_out o).bio.ct ≤ 8)
unfolding byte_out
byte_out-ct o = seven_or_eight (eqb (o.bio.buf * 256 % 65536) 0xff00)

pub byte_out-clear : (o : Output) → FreeBitsClear (byte_out o).bio
unfolding byte_out
byte_out-clear o = record { at_most_eight = (byte_out-ct o).1; clear = moved_clear (eqb (o.bio.buf * 256 % 65536) 0xff00) o.bio.buf }

-- ---- a bit

-- what is 0 below a place is 0 below the place under it
clear_under : (u n : ℕ) → 1 ≤ n → u % 2 ^ n ≡ 0 → u % 2 ^ (n - 1) ≡ 0
clear_under u n h e =
    let q : 1 + (n - 1) ≡ n = omega arith in
    sym (mod-mod-pow u 1 (n - 1)) ∙ ap (λ (m : ℕ). u % 2 ^ m % 2 ^ (n - 1)) q ∙ ap (λ (z : ℕ). z % 2 ^ (n - 1)) e ∙ zero-mod (2 ^ (n - 1))

hold_bit-clear : (b : Bio) (bit : ℕ) → FreeBitsClear b → 1 ≤ b.ct → FreeBitsClear (hold_bit b bit)
unfolding hold_bit
hold_bit-clear b bit h l =
    let few = h.at_most_eight in
    record {
      at_most_eight = omega arith;
      clear = add-mul-mod_self_right b.buf bit (2 ^ (b.ct - 1))
          ∙ clear_under b.buf b.ct l h.clear;
    }

room_by : (o : Output) (t : Bool) → eqb o.bio.ct 0 ≡ t → FreeBitsClear o.bio
    → FreeBitsClear (cond t (byte_out o) o).bio × (1 ≤ (cond t (byte_out o) o).bio.ct)
room_by o true e h = let r = byte_out-ct o in (byte_out-clear o, omega arith)
room_by o false e h = (h, omega (arith, eqb-false o.bio.ct 0 e))

pub make_room-clear : (o : Output) → FreeBitsClear o.bio → FreeBitsClear (make_room o).bio × (1 ≤ (make_room o).bio.ct)
unfolding make_room
make_room-clear o h = room_by o (eqb o.bio.ct 0) refl h

pub put_bit-clear : (o : Output) (bit : ℕ) → FreeBitsClear o.bio → FreeBitsClear (put_bit o bit).bio
unfolding put_bit
put_bit-clear o bit h = let r = make_room-clear o h in hold_bit-clear (make_room o).bio bit r.0 r.1

-- ---- bits

pub put_bits-clear : (o : Output) (bits : List ℕ) → FreeBitsClear o.bio → FreeBitsClear (put_bits o bits).bio
unfolding put_bits
put_bits-clear o [] h = h
put_bits-clear o (x ∷ xs) h = put_bits-clear (put_bit o x) xs (put_bit-clear o x h)

pub put_bits-append : (o : Output) (xs ys : List ℕ) → put_bits o (xs ++ ys) ≡ put_bits (put_bits o xs) ys
unfolding put_bits
put_bits-append o [] ys = refl
put_bits-append o (x ∷ xs) ys = put_bits-append (put_bit o x) xs ys
