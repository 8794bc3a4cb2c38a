-- What it is for an interface to meet the definitions: its calls, as they were made, answer and leave what the definitions give. Demands 1
-- and 3 are stated of every such interface (Numbers.antt, RoundTrip.antt).
use Rattle.std.specs.Prelude.{◌≡◌, Bool, true, false, List, ℕ, ◌≤◌}
use Rattle.t800.specs.declared.Band.{Band}
use Rattle.t800.specs.declared.Markers.{Markers}
use Rattle.t800.specs.Base.{Words, Bytes}
use Rattle.t800.specs.Start.{StartResult, start}
use Rattle.t800.specs.Reports.{RecordForm}
use Rattle.t800.specs.WriteHeader.{Contribution}
use Rattle.t800.specs.Packet.{MeasureResult, measure, WriteResult, write, ReadResult, read_result, refused_answer, read}

-- ---- the arguments of a call, its state apart

pub record StartCall : Type 0 where
  pub count : ℕ
  pub bands : List Band
  pub style : ℕ
  pub planes : Words

-- a measuring call takes of these what it needs
pub record WriteCall : Type 0 where
  pub scratch : Words
  pub contribution : Contribution
  pub body : Bytes
  pub markers : Markers
  pub number : ℕ
  pub output : Bytes

pub record ReadCall (form : RecordForm) : Type 0 where
  pub scratch : Words
  pub markers : Markers
  pub input : Bytes
  pub reports : Words
  pub records : form.Lent

-- ---- what the definitions give

abbrev pub start_of : (role : ℕ) (lent : Words) → StartCall → StartResult
start_of role lent c = start role c.count c.bands c.style c.planes lent

abbrev pub measure_of : (state : Words) → WriteCall → MeasureResult
measure_of state c = measure state c.scratch c.contribution c.markers

abbrev pub write_of : (state : Words) → WriteCall → WriteResult
write_of state c = write state c.scratch c.contribution c.body c.markers c.number c.output

abbrev pub read_of : (form : RecordForm) (state : Words) → ReadCall form → ReadResult form
read_of form state c = read form state c.scratch c.markers c.input c.reports c.records

-- ---- a refusal that changes no list

abbrev pub start_untouched : (lent : Words) → StartCall → (why : ℕ) → StartResult
start_untouched lent c why = record { answer = why; state = lent }

abbrev pub measure_untouched : (state : Words) → WriteCall → (why : ℕ) → MeasureResult
measure_untouched state c why = record { answer = record { refusal = why; header = 0; body = 0 }; scratch = c.scratch }

abbrev pub write_untouched : (state : Words) → WriteCall → (why : ℕ) → WriteResult
write_untouched state c why =
    record { answer = record { refusal = why; bytes = 0 }; state = state; scratch = c.scratch; output = c.output }

abbrev pub read_untouched : (form : RecordForm) (state : Words) → ReadCall form → (why : ℕ) → ReadResult form
read_untouched form state c why = read_result form state c.scratch c.reports c.records (refused_answer why)

-- ---- interfaces

-- one kind of call in an interface
pub record Calls (Args Result : Type 0) (gives : Words → Args → Result) (untouched : Words → Args → ℕ → Result) : Type 1 where
  -- a call that was made: the state that it found, its other arguments, and what it answered and left
  pub Made : Type 0
  pub found : Made → Words
  pub args : Made → Args
  pub left : Made → Result
  -- whether the lists that this interface adds have the length that it asks, and the number that it gives where they have not
  pub asked : Made → Bool
  pub otherwise : Made → ℕ
  pub meets : (m : Made) → asked m ≡ true → left m ≡ gives (found m) (args m)
  pub refuses : (m : Made) → asked m ≡ false → left m ≡ untouched (found m) (args m) (otherwise m)
  pub numbered : (m : Made) → (1 ≤ otherwise m) × (otherwise m ≤ 13)

pub record Interface : Type 1 where
  pub starts : (role : ℕ) → Calls StartCall StartResult (start_of role) start_untouched
  pub measures : Calls WriteCall MeasureResult measure_of measure_untouched
  pub writes : Calls WriteCall WriteResult write_of write_untouched
  -- the form in which its reads are lent records
  pub form : RecordForm
  pub reads : Calls (ReadCall form) (ReadResult form) (read_of form) (read_untouched form)
