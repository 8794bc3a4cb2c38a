-- A layer's precincts, as the code writes them.
use Rattle.std.specs.Prelude.{◌≡◌, ◌≢◌}
use Rattle.t800.specs.declared.LayerAnswer.{LayerAnswer}
use Rattle.t800.specs.Base.{Words, Bytes}
use Rattle.t800.specs.Layer.{LayerCall, write_layer}

-- Written with the answer r, and the lists then. Where one is refused, scratch and output are left open: the layer's call wipes them.
pub record LayerWritten (states : Words) (c : LayerCall) (r : LayerAnswer) (states_then scratch_then : Words) (output_then : Bytes)
    : Type 0 where
  pub answer : r ≡ (write_layer states c).answer
  pub done : r.refusal ≡ 0
      → record { answer = r; states = states_then; scratch = scratch_then; output = output_then } ≡ write_layer states c
  pub states_kept : r.refusal ≢ 0 → states_then ≡ states
