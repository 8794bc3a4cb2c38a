use native.Mathlib.Omega.{arith}
use mathlib.Core.Path.{◌≡◌, refl, ap, ◌∙◌}
use mathlib.Core.List.{List}
use Prim.Native.Nat.{ℕ, ◌+◌, ◌-◌, ◌*◌}
use lib.ListN.{take, drop}
use lib.Seq.{sets}
use Rattle.t800.specs.Start.{band_words}
use Rattle.t2_start_parts.proofs.Laws.FreshParts.{put_turn}
use Rattle.t2_start_parts.proofs.put_bands.Goals as goal

pub loop-i-init : goal.loop-i-init
loop-i-init c = (refl, refl)

pub put_band-requires : goal.put_band-requires
put_band-requires c = omega (arith, c.requires.1, c.loop-i.invariant.0)

pub loop-i-preserved : goal.loop-i-preserved
loop-i-preserved c =
    let s = c.args in
    let l = c.loop-i in
    let rest : List ℕ = band_words (drop (l.i + 1) (take s.n s.bands)) (3 - (l.i + 1)) in
    let next : 4 + 3 * (l.i + 1) ≡ 4 + 3 * l.i + 3 = omega arith in (
      c.put_band.auto.state ∙ l.invariant.0,
      ap (λ (k : ℕ). sets c.put_band.new.state k rest) next
          ∙ ap (λ (z : List ℕ). sets z (4 + 3 * l.i + 3) rest) c.put_band.ensures
          ∙ put_turn l.state (take s.n s.bands) l.i (4 + 3 * l.i) _ (omega arith)
          c.used_band-band.ensures
          ∙ l.invariant.1,
    )

pub shape_of-state : goal.shape_of-state
shape_of-state c = c.loop-i.invariant.0

pub returns : goal.returns
unfolding band_words
returns c = let l = c.loop-i in let e : l.i ≡ 3 = omega arith in rw e at l.invariant.1
