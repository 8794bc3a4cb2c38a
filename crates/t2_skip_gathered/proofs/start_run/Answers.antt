use mathlib.Core.Path.{ap}
use Rattle.t800.specs.declared.Bio.{Bio}
use Rattle.t800.specs.Reports.{room_for_all}
use Rattle.t2_skip_gathered.proofs.start_run.Goals as goal

pub returns : goal.returns
returns c = ap (λ (b : Bio). record { bio = b; count = 0; room = room_for_all; bytes = 0; refusal = 0 }) c.opj_bio_init_dec-bio.ensures
