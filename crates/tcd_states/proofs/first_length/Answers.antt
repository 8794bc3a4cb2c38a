use Prim.Native.Nat.{◌≤◌, ℕ}
use mathlib.Core.Path.{◌∙◌, ap, subst, sym}
use Rattle.t800.specs.State.{state_length}
use Rattle.tcd_laws.specs.Geometry.{AllUpTo64}
use Rattle.tcd_laws.proofs.Laws.FirstWords.{first_bands}
use Rattle.tcd_states.proofs.Laws.Valid.{first_valid, first_length_lem}
use Rattle.tcd_states.proofs.first_length.Goals as goal

pub bands_of-bands-requires : goal.bands_of-bands-requires
bands_of-bands-requires c = let s = c in (first_valid s.args.states.now s.requires.0 s.requires.1).first_words_lem

pub state_length-requires : goal.state_length-requires
state_length-requires c =
    let s = c in
    let ws = s.args.states.now in
    let v = first_valid ws s.requires.0 s.requires.1 in (
      subst (λ (n : ℕ). n ≤ 3) (sym c.word-n.ensures) v.three_bands_lem,
      subst AllUpTo64 (sym (first_bands ws _ _ c.word-n.ensures c.bands_of-bands.ensures)) v.sides,
    )

pub returns : goal.returns
returns c =
    let s = c in
    let ws = s.args.states.now in
    c.state_length.ensures
    ∙ ap state_length (first_bands ws _ _ c.word-n.ensures c.bands_of-bands.ensures)
    ∙ sym (first_length_lem ws s.requires.0 s.requires.1)
