-- The statement of demand 1 (SCOPE S4 and S14): which number a call gives, and that a refused one leaves the state.
use Rattle.std.specs.Prelude.{◌≡◌, ◌≢◌, ℕ, ◌≤◌, true, false, List, [], ◌∷◌, ◌++◌}
use Rattle.t800.specs.Base.{Words}
use Rattle.t800.specs.Refusals.{Check}
use Rattle.t800.specs.Reports.{RecordForm}
use Rattle.t800.specs.Start.{start_checks}
use Rattle.t800.specs.Packet.{measure_checks, write_checks, read_checks}
use Rattle.t800.specs.Interface.{StartCall, WriteCall, ReadCall, Interface}

abbrev pub NoneHolds : List Check → Type 0
NoneHolds [] = Unit {0}
NoneHolds (c ∷ cs) = (c.holds ≡ false) × NoneHolds cs

pub record NumberIs (checks : List Check) (refusal : ℕ) : Type 0 where
  pub up_to_13 : refusal ≤ 13
  -- 0 exactly where no condition holds
  pub accepts : (refusal ≡ 0 → NoneHolds checks) × (NoneHolds checks → refusal ≡ 0)
  -- a number exactly where its condition holds and no earlier one does
  pub exactly : (earlier later : List Check) (c : Check) → checks ≡ earlier ++ c ∷ later
      → (refusal ≡ c.number → NoneHolds earlier × (c.holds ≡ true)) × (NoneHolds earlier → c.holds ≡ true → refusal ≡ c.number)

-- ---- the checks of each call, in the order of SCOPE S4

abbrev pub start_checks_of : (role : ℕ) (lent : Words) → StartCall → List Check
start_checks_of role lent c = start_checks role c.count c.bands c.style c.planes lent

abbrev pub measure_checks_of : (state : Words) → WriteCall → List Check
measure_checks_of state c = measure_checks state c.scratch c.contribution

abbrev pub write_checks_of : (state : Words) → WriteCall → List Check
write_checks_of state c = write_checks state c.scratch c.contribution c.body c.markers c.number c.output

abbrev pub read_checks_of : (form : RecordForm) (state : Words) → ReadCall form → List Check
read_checks_of form state c = read_checks state c.scratch c.markers c.input c.reports (form.room c.records)

-- ---- of every interface: the numbers, where its own lists have the length asked, and that a refused call leaves the state

unfoldable pub Numbers : Interface → Type 0
Numbers I =
    ((role : ℕ) (m : (I.starts role).Made)
    → ((I.starts role).asked m ≡ true
    → NumberIs (start_checks_of role ((I.starts role).found m) ((I.starts role).args m)) ((I.starts role).left m).answer)
    × (((I.starts role).left m).answer ≢ 0 → ((I.starts role).left m).state ≡ (I.starts role).found m))
    × ((m : I.measures.Made)
    → I.measures.asked m ≡ true
    → NumberIs (measure_checks_of (I.measures.found m) (I.measures.args m)) (I.measures.left m).answer.refusal)
    × ((m : I.writes.Made)
    → (I.writes.asked m ≡ true
    → NumberIs (write_checks_of (I.writes.found m) (I.writes.args m)) (I.writes.left m).answer.refusal)
    × ((I.writes.left m).answer.refusal ≢ 0 → (I.writes.left m).state ≡ I.writes.found m))
    × ((m : I.reads.Made)
    → (I.reads.asked m ≡ true
    → NumberIs (read_checks_of I.form (I.reads.found m) (I.reads.args m)) (I.reads.left m).answer.refusal)
    × ((I.reads.left m).answer.refusal ≢ 0 → (I.reads.left m).state ≡ I.reads.found m))
