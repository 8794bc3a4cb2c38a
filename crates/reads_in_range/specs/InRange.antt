-- A reader's state in range stays in range: refusal 5 isn't given for what an accepted read leaves.
use Rattle.std.specs.Prelude.{◌≡◌, true, length}
use Rattle.t800.specs.declared.Markers.{Markers}
use Rattle.t800.specs.Base.{Words, Bytes}
use Rattle.t800.specs.State.{reader}
use Rattle.t800.specs.Ranges.{valid_state}
use Rattle.t800.specs.Reports.{RecordForm}
use Rattle.t800.specs.Packet.{read}

-- the state vs after a read of ws
pub record StaysInRange (ws vs : Words) : Type 0 where
  pub in_range : valid_state reader vs (length vs) ≡ true
  pub as_long : length vs ≡ length ws

unfoldable pub ReadsInRange : Type 1
ReadsInRange =
    (form : RecordForm) (ws scratch : Words) (m : Markers) (src : Bytes) (reports : Words) (records : form.Lent)
    → let r = read form ws scratch m src reports records in
    r.answer.refusal ≡ 0 → StaysInRange ws r.state
