-- What an accepted read tells where its bits end, with more input.
use mathlib.Core.Path.{◌≡◌}
use mathlib.Core.Logic.{◌≢◌}
use mathlib.Core.List.{List, ◌++◌}
use Prim.Native.Nat.{ℕ, ◌≤◌}
use lib.ListN.{length}
use Rattle.t800.specs.declared.Bio.{Bio}
use Rattle.t800.specs.declared.Markers.{Markers}
use Rattle.t800.specs.Reports.{RecordForm}
use Rattle.t800.specs.MarkerSegments.{read_sop}
use Rattle.t800.specs.Packet.{ReadResult}
use Rattle.bits_taken.specs.Taken.{Reached}
use Rattle.past_end.specs.PastEnd.{eph_again}
use Rattle.past_end.proofs.MoreMarkers.{same_sop}
use Rattle.past_end.proofs.AcceptedReads.{same_or_again, told_at}

-- the bits end inside the input
module _ (form : RecordForm) (m : Markers) (src more : List ℕ) (e : Bio) (r : ReadResult form) (inside : e.bp ≤ length src)
    (reached : Reached src (read_sop m src).skip e) (sop : (read_sop m src).mark ≢ 1)
  where
    abbrev told : ReadResult form
    told = told_at form m src e r

    abbrev longer : ReadResult form
    longer = told_at form m (src ++ more) e r

    pub told_or_again : (told.answer.eph ≢ 1 → longer ≡ told) × (told.answer.eph ≡ 1 → longer ≡ eph_again form m (src ++ more) told)
    told_or_again =
        rw (same_sop m src more sop)
        (same_or_again src more (read_sop m src).skip e reached inside form m r.state r.scratch r.reports r.records r.answer.present
        r.answer.segments (read_sop m src).mark)
