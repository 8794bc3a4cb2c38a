use mathlib.Core.Path.{refl, sym, subst}
use mathlib.Core.List.{List}
use Prim.Native.Nat.{◌≤◌}
use native.Mathlib.Omega.{arith}
use lib.ListN.{length}
use Rattle.t800.specs.declared.Band.{Band}
use Rattle.t800.specs.State.{reader, end_of}
use Rattle.tcd_laws.specs.Geometry.{AllUpTo64}
use Rattle.tcd_laws.proofs.Laws.FirstWords.{first_bands}
use Rattle.tcd_laws.proofs.Laws.ValidStates.{valid_state_lem, bands-inside, thirteen_words}
use Rattle.t2_read_bands.specs.Bands.{BandsFit}
use Rattle.t2_read_bands.proofs.Laws.ReadBands.{bands-fit}
use Rattle.t2_skip_gathered.proofs.Laws.Arrivals.{none_skipped, all_skipped}
use Rattle.t2_skip_gathered.proofs.skip_after.Goals as goal

pub returns-then-first-eq0 : goal.returns-then-first-eq0
returns-then-first-eq0 c =
    let s = c in
    let a = s.args in
    none_skipped a.segments.now a.words.now a.s a.first a.window.now s.requires.2 c.if-first-eq0.true

pub bands_of-bands-requires : goal.bands_of-bands-requires
bands_of-bands-requires c =
    let s = c in
    let ws = s.args.words.now in
    thirteen_words ws (length ws) (valid_state_lem reader ws (length ws) s.requires.0)

pub bounds-words-1 : goal.bounds-words-1
bounds-words-1 c =
    let s = c in
    let ws = s.args.words.now in
    omega (arith, thirteen_words ws (length ws) (valid_state_lem reader ws (length ws) s.requires.0))

pub overflow_cast-n : goal.overflow_cast-n
overflow_cast-n c =
    let s = c in
    let ws = s.args.words.now in
    omega (arith, (valid_state_lem reader ws (length ws) s.requires.0).three_bands_lem)

pub bounds-words-3 : goal.bounds-words-3
bounds-words-3 c =
    let s = c in
    let ws = s.args.words.now in
    omega (arith, thirteen_words ws (length ws) (valid_state_lem reader ws (length ws) s.requires.0))

pub skip_bands-requires : goal.skip_bands-requires
skip_bands-requires c =
    let s = c in
    let ws = s.args.words.now in
    let v = valid_state_lem reader ws (length ws) s.requires.0 in
    let e = first_bands ws _ _ refl c.bands_of-bands.ensures in (
      s.requires.2,
      s.requires.3,
      v.three_bands_lem,
      subst AllUpTo64 (sym e) v.sides,
      subst (λ (bs : List Band). end_of 13 bs ≤ length ws) (sym e) (bands-inside ws (length ws) v),
      s.requires.1,
      subst (BandsFit ws 13) (sym e) (bands-fit ws 13 _ s.requires.1 v.ranges),
    )

pub returns : goal.returns
returns c =
    let s = c in
    let a = s.args in
    let ws = a.words.now in
    let f = c.skip_bands in
    all_skipped a.segments.now ws a.s a.first f.new.window f.new.words f.result _ s.requires.0 c.if-first-eq0.false
    (first_bands ws _ _ refl c.bands_of-bands.ensures) f.ensures.0
    f.ensures.1
