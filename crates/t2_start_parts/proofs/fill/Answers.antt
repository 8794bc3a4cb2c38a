use native.Mathlib.Omega.{arith}
use mathlib.Core.Path.{◌≡◌, ◌∙◌, ap}
use mathlib.Core.List.{List}
use Prim.Native.Nat.{ℕ}
use lib.ListN.{length, take}
use lib.Seq.{sets}
use Rattle.t800.specs.State.{state_length}
use Rattle.t800.specs.Start.{band_words, fresh_bands, fresh_state}
use Rattle.t800_laws.proofs.Laws.Layout.{end_after}
use Rattle.t800_laws.proofs.Laws.Accepted.{all_given}
use Rattle.t2_start_parts.proofs.Laws.FreshParts.{state_set}
use borrow.Author.Rules.{rules}
use Rattle.t2_start_parts.proofs.fill.Goals as goal

pub first_words-requires : goal.first_words-requires
unfolding state_length
first_words-requires c = let s = c in omega (arith, s.requires.2, end_after 13 (take s.args.count s.args.bands))

pub put_bands-requires : goal.put_bands-requires
unfolding state_length
put_bands-requires c = let s = c in (
  s.requires.0,
  omega (
    arith,
    c.first_words.auto.state,
    s.requires.2,
    end_after 13 (take s.args.count s.args.bands),
  ),
)

pub returns : goal.returns
returns c =
    let s = c in
    let bs = take s.args.count s.args.bands in
    let g : length s.args.bands ≡ 3 = search rules in
    c.fresh_bands.ensures
    ∙ ap (λ (z : List ℕ). sets z 13 (fresh_bands bs)) c.put_bands.ensures
    ∙ ap (λ (z : List ℕ). sets (sets z 4 (band_words bs 3)) 13 (fresh_bands bs))
    c.first_words.ensures
    ∙ state_set s.args.state.now s.args.role s.args.count c.from.result bs
    (all_given s.args.count s.args.bands (omega (arith, s.requires.0))) s.requires.2
    ∙ ap (λ (k : ℕ). fresh_state s.args.role k bs) c.from.ensures
