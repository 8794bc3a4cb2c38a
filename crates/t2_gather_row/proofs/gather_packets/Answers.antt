use Rattle.std.proofs.Common.{◌∙◌, refl, sym, subst, rules}
use Rattle.std.specs.Option.{IsSome}
use Rattle.t800.specs.Gathered.{states_in}
use Rattle.tcd_states.proofs.Laws.Valid.{states_fit_lem, counted-all}
use Rattle.t2_gather_row.proofs.gather_packets.Goals as goal

pub unwrap-count-requires : goal.unwrap-count-requires
unwrap-count-requires c =
    let f = states_fit_lem c.args.states.now _ c.args.places.now c.requires.0 in
    subst IsSome (sym (c.count_states.ensures ∙ f.counted_is)) refl

pub index_states-stride-requires : goal.index_states-stride-requires
index_states-stride-requires c =
    let ws = c.args.states.now in
    let f = states_fit_lem ws _ c.args.places.now c.requires.0 in
    (f.all_valid, counted-all (states_in ws) _ (sym c.unwrap-count.ensures ∙ c.count_states.ensures), search rules)

pub gather_places-requires : goal.gather_places-requires
gather_places-requires c = (c.requires.0, c.index_states-stride.ensures.0, c.requires.1)
