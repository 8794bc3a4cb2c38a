use mathlib.Core.Path.{◌≡◌, refl, sym, ap, ◌∙◌, subst}
use mathlib.Core.List.{List}
use Prim.Native.Nat.{ℕ, ◌-◌, ◌/◌, ◌^◌, ◌≤◌}
use native.Mathlib.Omega.{arith}
use Rattle.t800.specs.declared.Bio.{Bio}
use Rattle.t800.specs.Bits.{bits_of}
use Rattle.bio_bytes.specs.Writing.{Output, output, make_room, put_bits, FreeBitsClear}
use Rattle.bio_write.proofs.Laws.FreeBits.{make_room-clear}
use Rattle.bio_write.proofs.Laws.WriteChunks.{hold_bits-clear, write-turn}
use Rattle.bio_write.proofs.write_chunks.Goals as goal

-- The invariant: what is left to write, after what is there, is the whole.

-- the room that was made

roomy : (o : List ℕ) (b : Bio) (o' : List ℕ) (m : Bio) → FreeBitsClear b → output o' m ≡ make_room (output o b) → FreeBitsClear m
    × (1 ≤ m.ct)
roomy o b o' m h e =
    let r = make_room-clear (output o b) h in
    let q = ap (λ (s : Output). s.bio) e in
    (rw q r.0, rw q r.1)

pub loop-left-init : goal.loop-left-init
loop-left-init c = (c.requires.0, refl, c.requires.1, refl)

pub overflow_sub-left : goal.overflow_sub-left
overflow_sub-left c = let e = c.opj_uint_min-k.ensures in omega arith

pub overflow_shr-v : goal.overflow_shr-v
overflow_shr-v c =
    let l = c.loop-left in
    let e = c.opj_uint_min-k.ensures in
    let r = roomy l.out l.bio _ _ l.invariant.0 c.make_room-m.ensures in
    omega (arith, l.invariant.2, r.1, c.loop-left-test.true)

pub hold_bits-bio-requires : goal.hold_bits-bio-requires
hold_bits-bio-requires c =
    let l = c.loop-left in
    let e = c.opj_uint_min-k.ensures in
    let r = roomy l.out l.bio _ _ l.invariant.0 c.make_room-m.ensures in
    (r.0, omega arith)

pub loop-left-smaller : goal.loop-left-smaller
loop-left-smaller c =
    let l = c.loop-left in
    let e = c.opj_uint_min-k.ensures in
    let r = roomy l.out l.bio _ _ l.invariant.0 c.make_room-m.ensures in
    omega (arith, r.1, c.loop-left-test.true)

pub loop-left-preserved : goal.loop-left-preserved
loop-left-preserved c =
    let l = c.loop-left in
    let m = c.make_room-m in
    let k = c.opj_uint_min-k.result in
    let e = c.opj_uint_min-k.ensures in
    let v = c.args.v in
    let r = roomy l.out l.bio m.new.out m.result l.invariant.0 m.ensures in
    let h = c.hold_bits-bio.ensures in (
      subst FreeBitsClear (sym h) (hold_bits-clear m.result (v / 2 ^ (l.left - k)) k r.0 (omega arith)),
      m.auto.out ∙ l.invariant.1,
      omega (arith, l.invariant.2),
      ap (λ (b : Bio). put_bits (output m.new.out b) (bits_of (l.left - k) v)) h
          ∙ write-turn (output l.out l.bio) m.new.out m.result v l.left k l.invariant.0 m.ensures
          c.loop-left-test.true (omega arith) (omega arith)
          ∙ l.invariant.3,
    )

pub shape_of-out : goal.shape_of-out
shape_of-out c = c.loop-left.invariant.1

pub returns : goal.returns
unfolding put_bits bits_of
returns c =
    let l = c.loop-left in
    let e : l.left ≡ 0 = omega (arith, c.loop-left-test.false) in
    rw e at l.invariant.3
