use mathlib.Core.Path.{◌≡◌, refl, sym, ap, ◌∙◌, subst}
use mathlib.Core.List.{List}
use Prim.Native.Nat.{ℕ, ◌+◌, ◌-◌, ◌*◌, ◌^◌, ◌≤◌, ◌<◌}
use native.Mathlib.Omega.{arith}
use Rattle.t800.specs.declared.Bio.{Bio}
use Rattle.t800.specs.Bits.{Decoded, read_bits_onto, read_bits}
use Rattle.bio_read.specs.Chunks.{refill}
use Rattle.bio_bytes.proofs.Laws.HeldWord.{or_after, after_fits}
use Rattle.bio_read.proofs.Laws.ReadChunks.{refill-ct, held_bits-below, held_bits-ct, read-turn}
use Rattle.bio_read.proofs.read_chunks.Goals as goal

-- The invariant: what is left to read, after what is read, is the whole.

-- a byte came in if it was needed

refilled : (src : List ℕ) (b m : Bio) → b.ct ≤ 8 → m ≡ refill src b → (1 ≤ m.ct) × (m.ct ≤ 8)
refilled src b m h e = rw e (refill-ct src b h)

pub loop-left-init : goal.loop-left-init
unfolding read_bits
loop-left-init c =
    let n = c.args.n in
    let e : n - n ≡ 0 = omega arith in
    (c.requires.0, omega arith, c.requires.1, rw e (omega arith), refl)

pub held_bits-r-requires : goal.held_bits-r-requires
held_bits-r-requires c =
    let l = c.loop-left in
    let e = c.opj_uint_min-k.ensures in
    let r = refilled c.args.src.now l.bio _ l.invariant.0 c.refill-m.ensures in
    (omega arith, r.1)

pub overflow_shl-value : goal.overflow_shl-value
overflow_shl-value c =
    let l = c.loop-left in
    let e = c.opj_uint_min-k.ensures in
    let r = refilled c.args.src.now l.bio _ l.invariant.0
    c.refill-m.ensures in
    omega (arith, r.1)

pub overflow_sub-left : goal.overflow_sub-left
overflow_sub-left c = let e = c.opj_uint_min-k.ensures in omega arith

pub loop-left-smaller : goal.loop-left-smaller
loop-left-smaller c =
    let l = c.loop-left in
    let e = c.opj_uint_min-k.ensures in
    let r = refilled c.args.src.now l.bio _ l.invariant.0
    c.refill-m.ensures in
    omega (arith, r.0, c.loop-left-test.true)

pub loop-left-preserved : goal.loop-left-preserved
loop-left-preserved c =
    let l = c.loop-left in
    let src = c.args.src.now in
    let n = c.args.n in
    let k = c.opj_uint_min-k.result in
    let e = c.opj_uint_min-k.ensures in
    let m = c.refill-m.result in
    let r = refilled src l.bio m l.invariant.0 c.refill-m.ensures in
    let g = c.held_bits-r.result in
    let h = c.held_bits-r.ensures in
    let small : g.value < 2 ^ k = subst (λ (d : Decoded). d.value < 2 ^ k) (sym h) (held_bits-below m k) in
    let q : n - l.left + k ≡ n - (l.left - k) = omega (arith, l.invariant.1) in
    let fit : n - l.left + k ≤ 32 = omega (arith, l.invariant.1, l.invariant.2) in
    let is = or_after l.value g.value (n - l.left) k l.invariant.3 small fit in (
      subst (λ (d : Decoded). d.bio.ct ≤ 8) (sym h) (held_bits-ct m k r.1),
      omega (arith, l.invariant.1),
      l.invariant.2,
      rw is (rw q at (after_fits l.value g.value (n - l.left) k l.invariant.3 small fit)),
      ap (λ (v : ℕ). read_bits_onto src (l.left - k) v g.bio) is
          ∙ ap (λ (d : Decoded). read_bits_onto src (l.left - k) (l.value * 2 ^ k + d.value) d.bio) h
          ∙ read-turn src l.bio m l.left k l.value l.invariant.0 c.refill-m.ensures
          c.loop-left-test.true (omega arith) (omega arith)
          ∙ l.invariant.4,
    )

pub returns : goal.returns
unfolding read_bits_onto
returns c =
    let l = c.loop-left in
    let e : l.left ≡ 0 = omega (arith, c.loop-left-test.false) in
    rw e at l.invariant.4
