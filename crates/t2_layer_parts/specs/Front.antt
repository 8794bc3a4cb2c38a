-- The precinct in front of a layer's lists (t800's Layer.antt), in the parts that the code has.
use Rattle.std.specs.Prelude.{◌≡◌, cond, [], ◌++◌, ℕ, min, length, take, drop, eqb, ltb, Result, Ok, Err}
use Rattle.t800.specs.declared.Markers.{Markers}
use Rattle.t800.specs.declared.Refusal.{Refusal}
use Rattle.t800.specs.declared.WriteAnswer.{WriteAnswer}
use Rattle.t800.specs.Base.{Words, Bytes, sum}
use Rattle.t800.specs.RefusalNumbers.{number_of}
use Rattle.t800.specs.Refusals.{body_refusal}
use Rattle.t800.specs.WriteHeader.{Contribution, contribution}
use Rattle.t800.specs.Layer.{Rest, Asks, asks, in_front, single, wrote}
use Rattle.t2_refusal_laws.specs.Refusals.{measure_refusal_for}
use Rattle.t2_layer_parts.specs.declared.Front.{Front}
use Rattle.t2_layer_parts.specs.declared.Lists.{Lists}

-- with so many blocks: what of the lists is there
abbrev pub lists_of : (n : ℕ) (counts : Words) (lengths marks : ℕ) → Lists
lists_of n counts lengths marks = record {
  counts = min n (length counts);
  lengths = min (sum (take n counts)) lengths;
  marks = min (sum (take n counts)) marks;
  passes = sum (take n counts);
}

-- what it asks, as the code has it
abbrev pub asks_of : Front → Asks
asks_of f = record { words = f.words; blocks = f.blocks; passes = f.passes; bytes = f.bytes }

-- what it asks; scratch, bodies and output have no part in that
abbrev pub asked : (states : Words) → Contribution → Asks
asked states p = asks (record { states = states; scratch = []; contribution = p; bodies = []; output = [] })

abbrev pub state_of : (states : Words) → Contribution → Words
state_of states p = take (asked states p).words states

abbrev pub part_of : (states : Words) → Contribution → Contribution
part_of states p =
    let a = asked states p in
    contribution (take a.blocks p.counts) (take a.passes p.lengths) (take a.passes p.marks)

-- all that can turn it away but want of room
unfoldable pub front_refusal : (states : Words) → Contribution → (bodies : ℕ) → ℕ
front_refusal states p bodies =
    let why = measure_refusal_for (state_of states p) (length (state_of states p)) (part_of states p) in
    cond (eqb why 0) (cond (ltb bodies (asked states p).bytes) body_refusal 0) why

-- that, or what it asks
abbrev pub FrontIs : (states : Words) → Contribution → (bodies : ℕ) → Result Front Refusal → Type 0
FrontIs states p bodies (Ok f) = (0 ≡ front_refusal states p bodies) × (asks_of f ≡ asked states p)
FrontIs states p bodies (Err why) = number_of why ≡ front_refusal states p bodies

-- ---- its packet

abbrev pub rest : (states scratch : Words) → Contribution → (bodies output : Bytes) → Rest
rest states scratch p bodies output =
    record { states = states; scratch = scratch; contribution = p; bodies = bodies; output = output }

-- Put with the answer r, and the lists then; without room for it what they hold is left open, since the layer's call wipes them.
pub record PutInFront (l : Rest) (m : Markers) (number : ℕ) (r : WriteAnswer) (scratch_then : Words) (output_then : Bytes) : Type 0 where
  pub answer : r ≡ (wrote (single m number (in_front l))).answer
  pub scratch_if : r.refusal ≡ 0
      → scratch_then ≡ (wrote (single m number (in_front l))).scratch ++ drop (asks l).words l.scratch
  pub output-if : r.refusal ≡ 0 → output_then ≡ (wrote (single m number (in_front l))).output

-- Written with the front f and so many bytes, but that the state isn't settled.
pub record Written (l : Rest) (m : Markers) (number : ℕ) (f : Front) (packet : ℕ) (scratch_then : Words) (output_then : Bytes) : Type 0 where
  pub accepted : 0 ≡ (wrote (single m number (in_front l))).answer.refusal
  pub sizes : asks_of f ≡ asks l
  pub bytes : packet ≡ (wrote (single m number (in_front l))).answer.bytes
  pub scratch : scratch_then ≡ (wrote (single m number (in_front l))).scratch ++ drop (asks l).words l.scratch
  pub output : output_then ≡ (wrote (single m number (in_front l))).output

-- that, or its refusal
abbrev pub WrittenInFront : Rest → Markers → (number : ℕ) → Result (Front × ℕ) Refusal → (scratch_then : Words) → (output_then : Bytes) → Type 0
WrittenInFront l m number (Ok w) scratch_then output_then = Written l m number w.0 w.1 scratch_then output_then
WrittenInFront l m number (Err why) scratch_then output_then = number_of why ≡ (wrote (single m number (in_front l))).answer.refusal
