-- Demands 1 and 3 of the calls, and what they tell of bits past the input's end.
use Rattle.t800.specs.Numbers.{Numbers}
use Rattle.t800.specs.RoundTrip.{RoundTrip, WriterInRange}
use Rattle.round_trip.proofs.Numbers.{numbers}
use Rattle.round_trip.proofs.Trip.Interfaces.{round_trip, writer-in_range}
use Rattle.past_end.specs.PastEnd.{CountOf, MoreInputOf}
use Rattle.past_end.proofs.Interfaces.{count_of, more_input_of}
use Rattle.whole_layer.specs.SingleCalls.{WholeLayerOf}
use Rattle.whole_layer.specs.Several.{SeveralRoundTrip, SeveralInRange}
use Rattle.whole_layer.proofs.SingleCalls.{whole_layer_of}
use Rattle.whole_layer.proofs.Several.{several_round_trip, several_in_range}
use Rattle.theorems.specs.Calls.{calls, layer_calls}

pub numbers_of_calls : Numbers calls
numbers_of_calls = numbers calls

pub round_trip_of_calls : RoundTrip calls
round_trip_of_calls = round_trip calls

pub writer-of_calls_in_range : WriterInRange calls
writer-of_calls_in_range = writer-in_range calls

pub count_of_calls : CountOf calls
count_of_calls = count_of calls

pub more_input_of_calls : MoreInputOf calls
more_input_of_calls = more_input_of calls

pub whole_layer_of_calls : WholeLayerOf layer_calls
whole_layer_of_calls = whole_layer_of layer_calls

pub layers_of_calls : SeveralRoundTrip layer_calls
layers_of_calls = several_round_trip layer_calls

pub writers_of_calls_in_range : SeveralInRange layer_calls
writers_of_calls_in_range = several_in_range layer_calls
