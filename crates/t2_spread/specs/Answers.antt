-- What a move back answers: before the packets, by their counts, and behind them.
use Rattle.std.specs.Prelude.{Result, IfOk, ◌≡◌, not, ℕ, ◌+◌, length, eqb}
use mathlib.Core.List.{[], ◌∷◌, flat_map}
use Rattle.t800.specs.declared.Markers.{Markers}
use Rattle.t800.specs.declared.Refusal.{Refusal}
use Rattle.t800.specs.declared.WriteAnswer.{WriteAnswer}
use Rattle.t800.specs.Base.{Words, Bytes, overwrite}
use Rattle.t800.specs.Refusals.{check, first_of, state_refusal, body_refusal}
use Rattle.t800.specs.PackedHeaders.{unpacked}
use Rattle.t800.specs.Gathered.{bad_states, Spreading, SpreadResult}
use Rattle.t2_skip_packet.specs.Parts.{number_in}
use Rattle.t2_spread_row.specs.Standing.{all_spread}

-- of the packets and of what they leave
unfoldable pub late_refusal : Spreading → ℕ
late_refusal s =
    first_of
    (check s.refusal (not (eqb s.refusal 0))
    ∷ check body_refusal (not (eqb (length s.headers + length s.bodies) 0))
    ∷ [])

-- before any packet
unfoldable pub early_refusal : (segments : Bytes) (states : Words) (scratch_length : ℕ) (places : Words) → ℕ
early_refusal segments states scratch_length places =
    first_of
    (check (unpacked segments).refusal (not (eqb (unpacked segments).refusal 0))
    ∷ check state_refusal (bad_states states scratch_length places)
    ∷ [])

pub record LooksFirst (segments : Bytes) (states : Words) (scratch_length : ℕ) (places : Words) (r : Result ℕ Refusal)
    : Type 0 where
  pub refuses : number_in r ≡ early_refusal segments states scratch_length places
  pub bytes_if : IfOk r (λ bytes. bytes ≡ length (unpacked segments).bytes)

abbrev pub spread_result : WriteAnswer → (scratch : Words) (row : Bytes) → SpreadResult
spread_result answer scratch row = record { answer = answer; scratch = scratch; row = row }

pub record SpreadsAll (segments bodies : Bytes) (m : Markers) (states places : Words) (rs : Bytes) (ws : Words) (rs' : Bytes)
    (o : Result ℕ Refusal) : Type 0 where
  pub refuses : number_in o ≡ late_refusal (all_spread segments bodies m states places rs)
  pub states_are : number_in o ≡ 0 → ws ≡ flat_map (λ s. s) (all_spread segments bodies m states places rs).states
  pub row_is : number_in o ≡ 0 → rs' ≡ overwrite rs (all_spread segments bodies m states places rs).row
  pub bytes_are : IfOk o (λ bytes. bytes ≡ length (all_spread segments bodies m states places rs).row)
