-- Demands 1 and 3 of the exported calls, and where the segments start that an exported read tells of.
use mathlib.Core.Path.{◌≡◌, sym, ap, ◌∙◌, subst}
use mathlib.Core.Bool.{Bool, true, false, not}
use mathlib.Core.List.{List}
use Prim.Native.Nat.{ℕ, ◌≤◌, ◌*◌}
use native.Mathlib.Omega.{arith}
use lib.ListN.{length, get_or}
use lib.Dec.{eqb}
use Rattle.t800.specs.declared.LayerAnswer.{LayerAnswer}
use Rattle.t800.specs.Refusals.{list_refusal}
use Rattle.t800.specs.State.{not_yet_included, reader, layer}
use Rattle.t800.specs.Ranges.{valid_state}
use Rattle.t800.specs.Reports.{record_width, as_records}
use Rattle.t800.specs.Packet.{WriteResult, ReadResult, read_result, refused_answer}
use Rattle.t800.specs.Exports.{start_call, MeasureExit, measure_call, WriteExit, write_call, LayerExit, write_layer_call, ReadExit}
use Rattle.t800.specs.Exports.{work_refusal, read_call}
use Rattle.t800.specs.Interface.{start_of, start_untouched, measure_of, measure_untouched, write_of, write_untouched, read_of, read_untouched}
use Rattle.t800.specs.Interface.{Interface}
use Rattle.t800.specs.Layer.{LayerResult, layer_untouched, write_layer}
use Rattle.t800.specs.Numbers.{Numbers}
use Rattle.t800.specs.RoundTrip.{RoundTrip, WriterInRange}
use Rattle.t800.specs.Starts.{StartsFit, StartsOfReads}
use Rattle.t800_laws.proofs.Laws.Tests.{if-true, if-false, either, and_left, and_right, and_second}
use Rattle.t800_laws.proofs.Laws.Checks.{on_bool}
use Rattle.round_trip.proofs.Numbers.{numbers}
use Rattle.round_trip.proofs.Trip.Interfaces.{round_trip, writer-in_range}
use Rattle.round_trip.proofs.Starts.{starts_of_reads}
use Rattle.past_end.specs.PastEnd.{CountOf, MoreInputOf}
use Rattle.past_end.proofs.Interfaces.{count_of, more_input_of}
use Rattle.whole_layer.specs.SingleCalls.{LayerInterface, WholeLayerOf}
use Rattle.whole_layer.specs.Several.{SeveralRoundTrip, SeveralInRange}
use Rattle.whole_layer.proofs.SingleCalls.{whole_layer_of}
use Rattle.whole_layer.proofs.Several.{several_round_trip, several_in_range}
use Rattle.theorems.specs.Exports.{LayerMade, layer_asked, layer_left}
use Rattle.theorems.specs.Exports.{StartMade, start_asked, start_args, MeasureMade, measure_asked, measure_left, WriteMade}
use Rattle.theorems.specs.Exports.{write_asked, write_left, ReadMade, read_asked, read_args, read_left, read_otherwise, read_told}
use Rattle.theorems.specs.Exports.{StartsOfExports}

-- ---- each kind of call

module _ {role : ℕ} (m : StartMade role) where
  pub start-meets : start_asked m ≡ true → m.left ≡ start_of role m.lent (start_args m)
  unfolding start_call
  start-meets a = m.met ∙ if-true (start_asked m) _ _ a

  pub start-refuses : start_asked m ≡ false → m.left ≡ start_untouched m.lent (start_args m) list_refusal
  unfolding start_call
  start-refuses a = m.met ∙ if-false (start_asked m) _ _ a

module _ (m : MeasureMade) where
  pub measure-meets : measure_asked m ≡ true → measure_left m ≡ measure_of m.state m.call
  unfolding measure_call
  measure-meets a =
      if-true (measure_asked m) _ _ a
      ∙ ap (λ (z : MeasureExit). record {
        answer = record { refusal = z.refusal; header = get_or z.answer 0 0; body = get_or z.answer 1 0 };
        scratch = z.scratch;
      }) (m.met ∙ if-true (measure_asked m) _ _ a)

  pub measure-refuses : measure_asked m ≡ false → measure_left m ≡ measure_untouched m.state m.call list_refusal
  unfolding measure_call
  measure-refuses a =
      if-false (measure_asked m) _ _ a
      ∙ ap (λ (z : MeasureExit). record { answer = record { refusal = z.refusal; header = 0; body = 0 }; scratch = z.scratch })
      (m.met ∙ if-false (measure_asked m) _ _ a)

module _ (m : WriteMade) where
  abbrev by_bytes : ℕ → WriteExit → WriteResult
  by_bytes bytes z =
      record { answer = record { refusal = z.refusal; bytes = bytes }; state = z.state; scratch = z.scratch; output = z.output }

  pub write_meets : write_asked m ≡ true → write_left m ≡ write_of m.state m.call
  unfolding write_call
  write_meets a =
      ap (λ (n : ℕ). by_bytes n m.left) (if-true (write_asked m) (get_or m.left.answer 0 0) 0 a)
      ∙ ap (λ (z : WriteExit). by_bytes (get_or z.answer 0 0) z) (m.met ∙ if-true (write_asked m) _ _ a)

  pub write-refuses : write_asked m ≡ false → write_left m ≡ write_untouched m.state m.call list_refusal
  unfolding write_call
  write-refuses a =
      ap (λ (n : ℕ). by_bytes n m.left) (if-false (write_asked m) (get_or m.left.answer 0 0) 0 a)
      ∙ ap (by_bytes 0) (m.met ∙ if-false (write_asked m) _ _ a)

module _ (m : LayerMade) where
  abbrev layer_result : LayerAnswer → LayerExit → LayerResult
  layer_result answer z = record { answer = answer; states = z.states; scratch = z.scratch; output = z.output }

  abbrev by_layer_answer : (place bytes : ℕ) → LayerExit → LayerResult
  by_layer_answer place bytes z = layer_result (record { refusal = z.refusal; place = place; bytes = bytes }) z

  pub layer-meets : layer_asked m ≡ true → layer_left m ≡ write_layer m.states m.call
  unfolding write_layer_call
  layer-meets a =
      ap (λ (x : LayerAnswer). layer_result x m.left) (if-true (layer_asked m) _ _ a)
      ∙ ap (λ (z : LayerExit). by_layer_answer (get_or z.answer 0 0) (get_or z.answer 1 0) z) (m.met ∙ if-true (layer_asked m) _ _ a)

  pub layer-refuses : layer_asked m ≡ false → layer_left m ≡ layer_untouched m.states m.call list_refusal
  unfolding write_layer_call
  layer-refuses a =
      ap (λ (x : LayerAnswer). layer_result x m.left) (if-false (layer_asked m) _ _ a)
      ∙ ap (by_layer_answer 0 0) (m.met ∙ if-false (layer_asked m) _ _ a)

pub work_numbered : (ws scratch : List ℕ) → (1 ≤ work_refusal ws scratch) × (work_refusal ws scratch ≤ 13)
unfolding work_refusal
work_numbered ws scratch =
    let P : ℕ → Type 0 = λ n. (1 ≤ n) × (n ≤ 13) in
    either P (not (valid_state reader ws (length scratch))) 5 _ (omega arith)
    (either P (eqb (layer ws) not_yet_included) 6 3 (omega arith) (omega arith))

module _ (m : ReadMade) where
  abbrev by_answer : ReadExit → ReadResult as_records
  by_answer z =
      read_result as_records z.state z.scratch z.reports z.records (record {
        refusal = z.refusal;
        present = get_or z.answer 0 0;
        taken = get_or z.answer 1 0;
        segments = get_or z.answer 2 0;
        sop = get_or z.answer 3 0;
        eph = get_or z.answer 4 0;
        past = get_or z.answer 5 0;
      })

  abbrev untold : ReadExit → ReadResult as_records
  untold z = read_result as_records z.state z.scratch z.reports z.records (refused_answer z.refusal)

  abbrev six : Bool
  six = eqb (length m.answer) 6

  abbrev fits : Bool
  fits = eqb (length m.work) (record_width * length m.records)

  pub read_meets : read_asked m ≡ true → read_left m ≡ read_of as_records m.state (read_args m)
  unfolding read_call
  read_meets a =
      let e = and_left six fits a in
      if-true six _ _ e ∙ ap by_answer (m.met ∙ if-true six _ _ e ∙ if-true fits _ _ (and_right six fits a))

  pub read-refuses : read_asked m ≡ false → read_left m ≡ read_untouched as_records m.state (read_args m) (read_otherwise m)
  unfolding read_call
  read-refuses a =
      on_bool six
      (λ e. if-true six _ _ e ∙ ap by_answer (m.met ∙ if-true six _ _ e ∙ if-false fits _ _ (and_second six fits e a))
      ∙ ap (read_untouched as_records m.state (read_args m)) (sym (if-true six _ _ e)))
      (λ e. if-false six _ _ e ∙ ap untold (m.met ∙ if-false six _ _ e)
      ∙ ap (read_untouched as_records m.state (read_args m)) (sym (if-false six _ _ e)))

  pub read-numbered : (1 ≤ read_otherwise m) × (read_otherwise m ≤ 13)
  read-numbered =
      either (λ (n : ℕ). (1 ≤ n) × (n ≤ 13)) six _ _ (work_numbered m.state m.scratch) (omega arith)

  -- a call that the lists' lengths refuse has a number, and any other is t800's read
  told-start : m.left.refusal ≡ 0 → StartsFit (read_told m.left)
  unfolding read_call StartsOfReads
  told-start =
      let P : ReadExit → Type 0 = λ z. z.refusal ≡ 0 → StartsFit (read_told z) in
      on_bool six
      (λ e. on_bool fits
      (λ g. subst P (sym (m.met ∙ if-true six _ _ e ∙ if-true fits _ _ g))
      (starts_of_reads m.state m.scratch m.markers m.input m.reports m.records))
      (λ g. subst P (sym (m.met ∙ if-true six _ _ e ∙ if-false fits _ _ g))
      (λ z. absurd (omega (arith, z, work_numbered m.state m.scratch)))))
      (λ e. subst P (sym (m.met ∙ if-false six _ _ e)) (λ z. absurd (omega (arith, z))))

-- ---- the interface

abbrev pub exports : Interface
exports = record {
  starts = λ role. record {
    Made = StartMade role;
    found = λ m. m.lent;
    args = start_args;
    left = λ m. m.left;
    asked = start_asked;
    otherwise = λ m. list_refusal;
    meets = start-meets;
    refuses = start-refuses;
    numbered = λ m. omega arith;
  };
  measures = record {
    Made = MeasureMade;
    found = λ m. m.state;
    args = λ m. m.call;
    left = measure_left;
    asked = measure_asked;
    otherwise = λ m. list_refusal;
    meets = measure-meets;
    refuses = measure-refuses;
    numbered = λ m. omega arith;
  };
  writes = record {
    Made = WriteMade;
    found = λ m. m.state;
    args = λ m. m.call;
    left = write_left;
    asked = write_asked;
    otherwise = λ m. list_refusal;
    meets = write_meets;
    refuses = write-refuses;
    numbered = λ m. omega arith;
  };
  form = as_records;
  reads = record {
    Made = ReadMade;
    found = λ m. m.state;
    args = read_args;
    left = read_left;
    asked = read_asked;
    otherwise = read_otherwise;
    meets = read_meets;
    refuses = read-refuses;
    numbered = read-numbered;
  };
}

abbrev pub layer_exports : LayerInterface
layer_exports = record {
  single = exports;
  layers = record {
    Made = LayerMade;
    found = λ m. m.states;
    args = λ m. m.call;
    left = layer_left;
    asked = layer_asked;
    otherwise = λ m. list_refusal;
    meets = layer-meets;
    refuses = layer-refuses;
    numbered = λ m. omega arith;
  };
}

pub numbers_of_exports : Numbers exports
numbers_of_exports = numbers exports

pub round_trip_of_exports : RoundTrip exports
round_trip_of_exports = round_trip exports

pub writer-of_exports_in_range : WriterInRange exports
writer-of_exports_in_range = writer-in_range exports

pub count_of_exports : CountOf exports
count_of_exports = count_of exports

pub more_input_of_exports : MoreInputOf exports
more_input_of_exports = more_input_of exports

pub starts_of_exports : StartsOfExports
unfolding StartsOfExports
starts_of_exports m = told-start m

pub whole_layer_of_exports : WholeLayerOf layer_exports
whole_layer_of_exports = whole_layer_of layer_exports

pub layers_of_exports : SeveralRoundTrip layer_exports
layers_of_exports = several_round_trip layer_exports

pub writers_of_exports_in_range : SeveralInRange layer_exports
writers_of_exports_in_range = several_in_range layer_exports
