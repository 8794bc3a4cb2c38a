use mathlib.Core.Path.{◌≡◌, refl, ap, ◌∙◌, subst}
use mathlib.Core.Bool.{Bool, true, false, cond}
use mathlib.Core.List.{List, []}
use Prim.Native.Nat.{ℕ, ◌+◌, ◌-◌, ◌*◌}
use native.Mathlib.Omega.{arith}
use lib.Dec.{eqb}
use Rattle.t800.specs.declared.Band.{Band}
use Rattle.t800.specs.State.{band_nodes, block_of, blocks_from}
use Rattle.tcd_laws.proofs.Laws.Bands.{blocks-up_to_4096}
use Rattle.t2_read_segments.specs.Reading.{Reading, reading, BlockFits, BlocksFit}
use Rattle.t2_read_block_parts.specs.Blocks.{next_block, next_blocks}
use Rattle.t2_skip_header.proofs.Laws.Bare.{bare, block_bare}
use Rattle.t2_skip_windows.proofs.skip_block.Goals as goal

either_way : (c : Bool) (a : Reading) → cond c a a ≡ a
either_way true a = refl
either_way false a = refl

one_block : (src : List ℕ) (t n start : ℕ) (b : Band) (i : ℕ) (a : Reading)
    → next_blocks src t n (blocks_from start b (i + 1 - i) i) a ≡ next_block src t n (block_of start b i) a
unfolding next_blocks blocks_from
one_block src t n start b i a =
    let e : i + 1 - i ≡ 1 = omega arith in
    ap (λ (m : ℕ). next_blocks src t n (blocks_from start b m i) a) e
    ∙ either_way (eqb (next_block src t n (block_of start b i) a).refusal 0) (next_block src t n (block_of start b i) a)

one-fits : (ws : List ℕ) (at i : ℕ) → BlockFits ws at → BlocksFit ws at (i + 1 - i)
one-fits ws at i f j l = let e : at ≡ at + 4 * j = omega arith in subst (BlockFits ws) e f

pub overflow_add-end : goal.overflow_add-end
overflow_add-end c =
    let s = c in
    omega (arith, s.requires.8, blocks-up_to_4096 s.args.band s.requires.2.sides)

pub read_blocks-requires : goal.read_blocks-requires
read_blocks-requires c =
    let s = c in
    let a = s.args in (
      s.requires.0,
      s.requires.1,
      s.requires.2,
      s.requires.3,
      s.requires.4,
      s.requires.5,
      s.requires.6,
      one-fits a.words.now (a.g.start + 6 * band_nodes a.band + 4 * a.i) a.i s.requires.7,
      omega (arith, s.requires.8),
      λ _. (s.requires.9, s.requires.10),
    )

pub returns : goal.returns
returns c =
    let a = c.args in
    let from = reading a.words.now [] [] a.r in
    ap bare (c.read_blocks.ensures ∙ one_block a.window.now a.layer (a.block + a.i) a.g.start a.band a.i _)
    ∙ block_bare a.window.now a.layer (a.block + a.i) (block_of a.g.start a.band a.i) from
