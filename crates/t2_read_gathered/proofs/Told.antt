-- The read of the headers, and SOP beside it, are t800's read from gathered headers.
use mathlib.Core.Path.{◌≡◌, ap, ◌∙◌}
use mathlib.Core.Bool.{false}
use mathlib.Core.List.{List}
use Prim.Native.Nat.{ℕ}
use Rattle.t800.specs.declared.Markers.{Markers}
use Rattle.t800.specs.declared.ReadAnswer.{ReadAnswer}
use Rattle.t800.specs.declared.ReadGatheredAnswer.{ReadGatheredAnswer}
use Rattle.t800.specs.MarkerSegments.{read_sop}
use Rattle.t800.specs.Reports.{RecordForm}
use Rattle.t800.specs.Packet.{ReadResult, read, read_result}
use Rattle.t800.specs.Gathered.{GatheredResult, told_beside, without_sop, gathered_result, read_gathered}

module _ (form : RecordForm) (m : Markers) (src : List ℕ) where
  -- SOP told beside a read of the headers
  abbrev pub beside : ReadResult form → GatheredResult form
  beside r = gathered_result form r.state r.scratch r.reports r.records (told_beside m src r.answer)

  pub beside_sop : (state scratch reports : List ℕ) (records : form.Lent) (a : ReadAnswer) (b : ReadGatheredAnswer) (r : ReadResult form)
      → read_result form state scratch reports records a ≡ r
      → b ≡ told_beside (record { sop = m.sop; eph = false }) src a
      → gathered_result form state scratch reports records b ≡ beside r
  unfolding read_sop
  beside_sop state scratch reports records a b r e told = ap (gathered_result form state scratch reports records) told ∙ ap beside e

  pub read-beside : (state scratch headers reports : List ℕ) (records : form.Lent)
      → beside (read form state scratch (without_sop m) headers reports records)
      ≡ read_gathered form state scratch m headers src reports records
  unfolding read_gathered
  read-beside state scratch headers reports records = λ _. beside (read form state scratch (without_sop m) headers reports records)
