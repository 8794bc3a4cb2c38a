use Rattle.std.proofs.Common.{◌∙◌}
use Rattle.std.proofs.lemmas.List.{take_rest}
use Rattle.tcd_laws.proofs.Laws.FirstWords.{three_bands_lem}
use Rattle.tcd_first_words.proofs.bands_of.Goals as goal

pub returns : goal.returns
returns c = rw take_rest at c.bands_in.ensures ∙ three_bands_lem c.args.state.now
