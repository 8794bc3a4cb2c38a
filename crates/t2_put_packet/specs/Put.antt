-- A packet in a lent scratch and output.
use Rattle.std.specs.Prelude.{◌≡◌, cond, ℕ, length, ltb, Result, Ok, Err}
use Rattle.t800.specs.declared.Markers.{Markers}
use Rattle.t800.specs.declared.Refusal.{Refusal}
use Rattle.t800.specs.declared.WriteAnswer.{WriteAnswer}
use Rattle.t800.specs.Base.{Words, Bytes, overwrite}
use Rattle.t800.specs.RefusalNumbers.{number_of}
use Rattle.t800.specs.Refusals.{space_refusal}
use Rattle.t800.specs.WriteHeader.{Contribution, code_header}
use Rattle.t800.specs.Packet.{packet}

-- 11, or the packet's bytes
abbrev pub answer_with : (room bytes : ℕ) → WriteAnswer
answer_with room bytes = cond (ltb room bytes) (record { refusal = space_refusal; bytes = 0 }) (record { refusal = 0; bytes = bytes })

-- as words
abbrev pub answer_of : Result ℕ Refusal → WriteAnswer
answer_of (Ok bytes) = record { refusal = 0; bytes = bytes }
answer_of (Err why) = record { refusal = number_of why; bytes = 0 }

-- Put with the answer r, and the lists then. Whoever asks for the packet wipes the output if it has no room, so that this is left open.
pub record PacketPut (state : Words) (p : Contribution) (body : Bytes) (m : Markers) (number : ℕ) (output : Bytes) (r : WriteAnswer)
    (scratch_then : Words) (output_then : Bytes) : Type 0 where
  pub answer : r ≡ answer_with (length output) (length (packet state p body m number))
  pub scratch : scratch_then ≡ (code_header p state).words
  pub output-if : r.refusal ≡ 0 → output_then ≡ overwrite output (packet state p body m number)
