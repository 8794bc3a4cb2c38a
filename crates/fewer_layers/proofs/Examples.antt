-- Both premises of the calls are needed, by computing on one block: after the crate's last layer its layers give 6, and all layers nothing;
-- an inclusion value above its "not yet" gives 5 with its layers, and nothing with all. A first packet meets both premises.
use mathlib.Core.Path.{◌≡◌, refl, ap}
use mathlib.Core.Logic.{◌≢◌}
use mathlib.Core.Bool.{false}
use mathlib.Core.List.{List, [], ◌∷◌}
use Prim.Native.Nat.{ℕ, ◌+◌, ◌<◌}
use native.Mathlib.Omega.{arith}
use lib.ListN.{replicate, set}
use Rattle.t800.specs.declared.Band.{Band}
use Rattle.t800.specs.declared.Markers.{Markers}
use Rattle.t800.specs.Refusals.{state_refusal, layers_refusal}
use Rattle.t800.specs.Reports.{as_records}
use Rattle.t800.specs.State.{not_yet_included, writer, reader, layer}
use Rattle.t800.specs.Start.{start_with}
use Rattle.t800.specs.WriteHeader.{contribution}
use Rattle.t800.specs.Packet.{measure_with, WriteResult, write_with, read_with}
use Rattle.t800.specs.FewerLayers.{crate_layers, is_inclusion_value, replaced_from, replaced, WritesAlike}
use Rattle.t800.proofs.Table.{row_holds}
use Rattle.fewer_layers.proofs.AlikeBelow.{as_with_crate_layers}

-- one band of one block and 5 planes, style 0
abbrev given : List Band
given = record { across = 1; down = 1; planes = 5 } ∷ []

abbrev lent : List ℕ
lent = replicate 23 0

abbrev plain : Markers
plain = record { sop = false; eph = false }

-- started with the crate's layers
abbrev writer-starts : List ℕ
writer-starts = (start_with crate_layers writer 1 given 0 (5 ∷ []) lent).state

abbrev reader-starts : List ℕ
reader-starts = (start_with crate_layers reader 1 given 0 [] lent).state

-- the refusals of measuring and writing a packet without passes, and of reading one that is absent
abbrev refusals : (layers : ℕ) (written read : List ℕ) → List ℕ
refusals layers written read =
    (measure_with layers written lent (contribution (0 ∷ []) [] []) plain).answer.refusal
    ∷ (write_with layers written lent (contribution (0 ∷ []) [] []) [] plain 0 (replicate 126 0)).answer.refusal
    ∷ (read_with layers as_records read lent plain (0 ∷ []) (replicate 4 0) []).answer.refusal
    ∷ []

abbrev with_all_layers : (written read : List ℕ) → List ℕ
with_all_layers written read =
    refusals not_yet_included (replaced crate_layers not_yet_included written) (replaced crate_layers not_yet_included read)

-- the next layer set to the crate's layers
after_last_layer :
    let written = set writer-starts 3 crate_layers in
    let read = set reader-starts 3 crate_layers in
    (refusals crate_layers written read ≡ layers_refusal ∷ layers_refusal ∷ layers_refusal ∷ [])
    × (with_all_layers written read ≡ 0 ∷ 0 ∷ 0 ∷ [])
unfolding replaced replaced_from is_inclusion_value row_holds
after_last_layer = (refl, refl)

-- the inclusion value set above the crate's layers, at layer 0
value-above :
    let written = set writer-starts 13 (crate_layers + 1) in
    let read = set reader-starts 13 (crate_layers + 1) in
    (refusals crate_layers written read ≡ state_refusal ∷ state_refusal ∷ state_refusal ∷ [])
    × (with_all_layers written read ≡ 0 ∷ 0 ∷ 0 ∷ [])
unfolding replaced replaced_from is_inclusion_value row_holds
value-above = (refl, refl)

-- a first packet, of one pass of 5 bytes
abbrev first_packet : (layers : ℕ) (state : List ℕ) → WriteResult
first_packet layers state = write_with layers state lent (contribution (1 ∷ []) (5 ∷ []) (0 ∷ [])) (replicate 5 7) plain 0 (replicate 6 0)

premises_met : (layer writer-starts < crate_layers) × ((first_packet crate_layers writer-starts).answer.refusal ≢ state_refusal)
unfolding row_holds
premises_met = (omega arith, λ e. absurd (omega (arith, e)))

applies : (first_packet not_yet_included (replaced crate_layers not_yet_included writer-starts)).output
    ≡ (first_packet crate_layers writer-starts).output
unfolding WritesAlike
applies = ap (λ (o : WriteResult). o.output)
    (as_with_crate_layers.writes writer-starts lent _ _ plain 0 (replicate 6 0) premises_met.0 premises_met.1)
