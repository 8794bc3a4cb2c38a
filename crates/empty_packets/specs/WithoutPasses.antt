-- One packet without passes (request No. 4), written or measured in any state: where nothing is refused its header is a single 0, and no
-- word of the state moves but the next layer.
use Rattle.std.specs.Prelude.{◌≡◌, false, [], ◌∷◌, ℕ, ◌+◌, length, set}
use Rattle.t800.specs.declared.Markers.{Markers}
use Rattle.t800.specs.Base.{Words, Bytes, overwrite}
use Rattle.t800.specs.State.{layer}
use Rattle.t800.specs.WriteHeader.{Contribution, contributes}
use Rattle.t800.specs.MarkerSegments.{with_markers}
use Rattle.t800.specs.Packet.{MeasureResult, measure, WriteResult, write}

-- the whole packet: one byte between its markers, and no body
abbrev pub one_byte : Markers → (number : ℕ) → Bytes
one_byte m number = with_markers m number (0x00 ∷ [])

abbrev pub in_next_layer : (state : Words) → Words
in_next_layer state = set state 3 (layer state + 1)

abbrev pub written_as_one_byte : (state : Words) → Markers → (number : ℕ) (output : Bytes) → WriteResult
written_as_one_byte state m number output = record {
  answer = record { refusal = 0; bytes = length (one_byte m number) };
  state = in_next_layer state;
  scratch = in_next_layer state;
  output = overwrite output (one_byte m number);
}

abbrev pub WrittenWithoutPasses : Type 0
WrittenWithoutPasses =
    (state scratch : Words) (p : Contribution) (body : Bytes) (m : Markers) (number : ℕ) (output : Bytes) → contributes p ≡ false
    → (write state scratch p body m number output).answer.refusal ≡ 0
    → write state scratch p body m number output ≡ written_as_one_byte state m number output

-- the length is that of the written packet, whatever its number
abbrev pub measured_as_one_byte : (state : Words) → Markers → (number : ℕ) → MeasureResult
measured_as_one_byte state m number = record {
  answer = record { refusal = 0; header = length (one_byte m number); body = 0 };
  scratch = in_next_layer state;
}

abbrev pub MeasuredWithoutPasses : Type 0
MeasuredWithoutPasses =
    (state scratch : Words) (p : Contribution) (m : Markers) (number : ℕ) → contributes p ≡ false
    → (measure state scratch p m).answer.refusal ≡ 0
    → measure state scratch p m ≡ measured_as_one_byte state m number
