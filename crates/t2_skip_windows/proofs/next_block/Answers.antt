use native.Mathlib.Omega.{arith}
use Rattle.t2_skip_windows.proofs.Laws.NextBlock.{bits_in, goes_on, next_skips}
use Rattle.t2_skip_windows.proofs.next_block.Goals as goal

pub skip_block-run-requires : goal.skip_block-run-requires
skip_block-run-requires c =
    let s = c in
    let a = s.args in
    let f = c.fill-ready in (
      bits_in a.segments.now f.new.window a.words.now a.words.now a.s f.result f.result.run a.layer a.block
          a.g.start a.band a.i f.ensures.0 f.ensures.1 s.requires.1 s.requires.2 s.requires.5 s.requires.6 s.requires.8,
      goes_on a.segments.now f.new.window a.words.now a.words.now a.s f.result f.result.run a.layer a.block
          a.g.start a.band a.i f.ensures.0 f.ensures.1 s.requires.1 s.requires.2 s.requires.5 s.requires.6 s.requires.8,
      s.requires.2,
      s.requires.3,
      s.requires.4,
      s.requires.5,
      omega (arith, s.requires.6),
      s.requires.7,
      s.requires.8,
      s.requires.9,
      s.requires.10,
    )

pub returns : goal.returns
returns c =
    let s = c in
    let a = s.args in
    let f = c.fill-ready in
    let b = c.skip_block-run in
    next_skips a.segments.now f.new.window a.words.now b.new.words a.s f.result b.result a.layer a.block
    a.g.start a.band a.i f.ensures.0 f.ensures.1 s.requires.1 s.requires.2 s.requires.5 s.requires.6 s.requires.8 b.ensures
