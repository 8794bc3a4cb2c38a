-- The calls of crate t2 as an interface: each contract in its src/lib.rt is t800's equation, and no list is added. Records are lent as
-- words.
use Rattle.std.specs.Prelude.{◌≡◌, true, ℕ}
use Rattle.std.proofs.Common.{true≢false, suc-le-suc, zero-le}
use Rattle.std.proofs.Math.Nat.{le_refl}
use Rattle.t800.specs.Base.{Words}
use Rattle.t800.specs.Reports.{as_words}
use Rattle.t800.specs.Interface.{start_of, start_untouched, measure_of, measure_untouched, write_of, write_untouched, read_of, read_untouched}
use Rattle.t800.specs.Interface.{Calls, Interface}
use Rattle.t800.specs.Layer.{layer_untouched, write_layer}
use Rattle.whole_layer.specs.SingleCalls.{LayerInterface}

-- a call that was made, with its contract's equation
pub record MadeByEquation {Args Result : Type 0} (gives : Words → Args → Result) : Type 0 where
  pub found : Words
  pub args : Args
  pub left : Result
  pub met : left ≡ gives found args

abbrev pub by_equation : {Args Result : Type 0} (gives : Words → Args → Result) (untouched : Words → Args → ℕ → Result)
    → Calls Args Result gives untouched
by_equation gives untouched = record {
  Made = MadeByEquation gives;
  found = λ m. m.found;
  args = λ m. m.args;
  left = λ m. m.left;
  asked = λ m. true;
  otherwise = λ m. 1;
  meets = λ m a. m.met;
  refuses = λ m a. absurd (true≢false a);
  numbered = λ m. (le_refl 1, suc-le-suc zero-le);
}

abbrev pub calls : Interface
calls = record {
  starts = λ role. by_equation (start_of role) start_untouched;
  measures = by_equation measure_of measure_untouched;
  writes = by_equation write_of write_untouched;
  form = as_words;
  reads = by_equation (read_of as_words) (read_untouched as_words);
}

abbrev pub layer_calls : LayerInterface
layer_calls = record { single = calls; layers = by_equation write_layer layer_untouched }
