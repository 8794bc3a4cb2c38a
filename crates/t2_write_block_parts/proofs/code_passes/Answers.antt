use mathlib.Core.Path.{◌≡◌, sym, subst}
use mathlib.Core.Bool.{false}
use Prim.Native.Nat.{ℕ, ◌≤◌}
use native.Mathlib.Omega.{arith}
use lib.ListN.{length-set}
use Rattle.t800.specs.Segments.{segments_of}
use Rattle.t800.specs.WriteHeader.{is_new, length_bits_before}
use Rattle.bio_bytes.specs.Writing.{output}
use Rattle.t2_segments.specs.Segments.{block_too_wide}
use Rattle.t2_write_lengths.proofs.Laws.Passes.{passes_are}
use Rattle.t2_write_block_parts.proofs.code_passes.Goals as goal

pub put_lengths-r-requires : goal.put_lengths-r-requires
put_lengths-r-requires c =
    let s = c in
    let p = s.requires in
    let b = sym c.length_bits_before-before.ensures in
    let f = p.4 in
    let ss = segments_of s.args.lengths.now s.args.marks.now in (
      p.0,
      p.1,
      p.3,
      f.many,
      f.block,
      subst (λ (k : ℕ). k ≤ 32) b f.before,
      subst (λ (k : ℕ). block_too_wide k ss ≡ false) b f.narrow,
    )

pub bounds-words-at-3 : goal.bounds-words-at-3
bounds-words-at-3 c =
    omega (arith, c.requires.2)

pub bounds-words-at-4 : goal.bounds-words-at-4
bounds-words-at-4 c =
    omega (arith, c.requires.2)

pub bounds-words-at-5 : goal.bounds-words-at-5
bounds-words-at-5 c =
    simp length-set (omega
    (arith, c.requires.2))

pub returns : goal.returns
unfolding length_bits_before is_new
returns c =
    let s = c in
    passes_are (output s.args.out.now s.args.b) s.args.at _ s.args.count
    (segments_of s.args.lengths.now s.args.marks.now) s.args.words.now _
    c.put_lengths-r.ensures
    c.length_bits_before-before.ensures
