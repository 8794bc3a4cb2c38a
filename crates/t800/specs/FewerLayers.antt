-- What fewer layers change (SCOPE S12): below the m-th layer, a definition with m layers and one with n agree when n stands for m in the
-- inclusion trees. The crate has 999 layers, and below layer 999 its answers are compared through this.
use Rattle.std.specs.Prelude.{◌≡◌, ◌≢◌, Bool, false, cond, ◌&&◌, ◌||◌, List, [], ◌∷◌, ℕ, ◌+◌, ◌-◌, ◌*◌, ◌%◌, ◌<◌, ltb, leb, eqb}
use Rattle.t800.specs.declared.Band.{Band}
use Rattle.t800.specs.declared.Markers.{Markers}
use Rattle.t800.specs.Base.{Words, Bytes}
use Rattle.t800.specs.Refusals.{state_refusal}
use Rattle.t800.specs.Reports.{RecordForm}
use Rattle.t800.specs.State.{band_nodes, band_length, bands, layer}
use Rattle.t800.specs.Start.{StartResult, start_with}
use Rattle.t800.specs.WriteHeader.{Contribution}
use Rattle.t800.specs.Packet.{MeasureResult, measure_with, WriteResult, write_with, read_result, read_with}

-- the crate's, by its "not yet" in both trees
abbrev pub crate_layers : ℕ
crate_layers = 999

-- ---- n for m in the inclusion trees

-- whether a word of a state with these bands is the value of a node of an inclusion tree
unfoldable pub is_inclusion_value : (band_start : ℕ) → List Band → (place : ℕ) → Bool
is_inclusion_value band_start [] place = false
is_inclusion_value band_start (b ∷ bs) place =
    (leb band_start place && ltb place (band_start + 3 * band_nodes b) && eqb ((place - band_start) % 3) 0)
    || is_inclusion_value (band_start + band_length b) bs place

-- the words of a state with these bands from a place on
unfoldable pub replaced_from : (m n : ℕ) → List Band → (place : ℕ) → Words → Words
replaced_from m n bs place [] = []
replaced_from m n bs place (w ∷ ws) = cond (is_inclusion_value 13 bs place && eqb w m) n w ∷ replaced_from m n bs (place + 1) ws

unfoldable pub replaced : (m n : ℕ) (state : Words) → Words
replaced m n state = replaced_from m n (bands state) 0 state

-- a list that an accepted call leaves as the state
abbrev pub replaced_if_accepted : (m n refusal : ℕ) (left : Words) → Words
replaced_if_accepted m n refusal left = cond (eqb refusal 0) (replaced m n left) left

-- ---- the statement, for each call: a start; then measuring, writing and reading below layer m, where m layers do not give 5

unfoldable pub StartsAlike : (m n : ℕ) → Type 0
StartsAlike m n =
    (role count : ℕ) (given : List Band) (style : ℕ) (planes lent : Words)
    → let few = start_with m role count given style planes lent in
    let same : StartResult = record { answer = few.answer; state = replaced_if_accepted m n few.answer few.state } in
    start_with n role count given style planes lent ≡ same

unfoldable pub MeasuresAlike : (m n : ℕ) → Type 0
MeasuresAlike m n =
    (state scratch : Words) (p : Contribution) (markers : Markers)
    → let few = measure_with m state scratch p markers in
    let same : MeasureResult = record {
      answer = few.answer;
      scratch = replaced_if_accepted m n few.answer.refusal few.scratch;
    } in
    layer state < m
    → few.answer.refusal ≢ state_refusal
    → measure_with n (replaced m n state) scratch p markers ≡ same

unfoldable pub WritesAlike : (m n : ℕ) → Type 0
WritesAlike m n =
    (state scratch : Words) (p : Contribution) (body : Bytes) (markers : Markers) (number : ℕ) (output : Bytes)
    → let few = write_with m state scratch p body markers number output in
    let same : WriteResult = record {
      answer = few.answer;
      state = replaced m n few.state;
      scratch = replaced_if_accepted m n few.answer.refusal few.scratch;
      output = few.output;
    } in
    layer state < m
    → few.answer.refusal ≢ state_refusal
    → write_with n (replaced m n state) scratch p body markers number output ≡ same

unfoldable pub ReadsAlike : (m n : ℕ) → Type 1
ReadsAlike m n =
    (form : RecordForm) (state scratch : Words) (markers : Markers) (src : Bytes) (reports : Words) (records : form.Lent)
    → let few = read_with m form state scratch markers src reports records in
    layer state < m
    → few.answer.refusal ≢ state_refusal
    → read_with n form (replaced m n state) scratch markers src reports records
    ≡ read_result form (replaced m n few.state) (replaced_if_accepted m n few.answer.refusal few.scratch) few.reports
    few.records few.answer

pub record AgreeBelow (m n : ℕ) : Type 1 where
  pub starts : StartsAlike m n
  pub measures : MeasuresAlike m n
  pub writes : WritesAlike m n
  pub reads : ReadsAlike m n
