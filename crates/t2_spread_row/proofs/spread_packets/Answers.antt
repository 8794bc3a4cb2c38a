use Rattle.std.proofs.Common.{◌∙◌, refl, sym, subst}
use Rattle.std.specs.Option.{IsSome}
use Rattle.t800.specs.Gathered.{states_in}
use Rattle.tcd_states.proofs.Laws.Valid.{states_fit_lem, counted-all}
use Rattle.t2_spread_row.proofs.spread_packets.Goals as goal

pub unwrap-count-requires : goal.unwrap-count-requires
unwrap-count-requires c =
    let fit = states_fit_lem c.args.states.now _ c.args.places.now c.requires.0 in
    subst IsSome (sym (c.count_states.ensures ∙ fit.counted_is)) refl

pub index_states-stride-requires : goal.index_states-stride-requires
index_states-stride-requires c =
    let ws = c.args.states.now in
    let fit = states_fit_lem ws _ c.args.places.now c.requires.0 in
    (fit.all_valid, counted-all (states_in ws) _ (sym c.unwrap-count.ensures ∙ c.count_states.ensures), refl)
