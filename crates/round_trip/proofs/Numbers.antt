-- Demand 1 of every interface: the number of a call is that of the first check that holds, and a refused call leaves the state.
use mathlib.Core.Path.{◌≡◌, refl, sym, ap, ◌∙◌, subst}
use mathlib.Core.Logic.{◌≢◌}
use mathlib.Core.Bool.{Bool, true, false, cond, not, ◌||◌}
use mathlib.Core.List.{List, [], ◌∷◌, ◌++◌}
use Prim.Native.Nat.{ℕ, ◌≤◌}
use native.Mathlib.Omega.{arith}
use lib.Dec.{eqb}
use borrow.Author.Tests.{ne_eqb, eqb-true}
use Rattle.t800.specs.declared.Bio.{Bio}
use Rattle.t800.specs.Refusals.{Check, first_of}
use Rattle.t800.specs.Start.{StartResult, start_refusal}
use Rattle.t800.specs.Start.{start_with}
use Rattle.t800.specs.Reports.{RecordForm}
use Rattle.t800.specs.ReadHeader.{HeaderRead}
use Rattle.t800.specs.ReadHeader.{read_header}
use Rattle.t800.specs.Packet.{MeasureResult, measure_refusal, measure_refusal_with, measure_with, WriteResult, write_refusal, write_refusal_with}
use Rattle.t800.specs.Packet.{write_with, ReadResult, read_list_checks}
use Rattle.t800.specs.Packet.{read_refusal, read_refusal_with, header_checks, first_bit, header_of, read_absent, read_present, read_with}
use Rattle.t800.specs.Interface.{StartCall, start_of, WriteCall, measure_of, write_of, ReadCall, read_of, Calls, Interface}
use Rattle.t800.specs.Numbers.{NoneHolds, NumberIs, start_checks_of, measure_checks_of, write_checks_of, read_checks_of, Numbers}
use Rattle.t800_laws.proofs.Laws.Tests.{if-true, if-false, if-eq, if-ne, either, on-eq}
use Rattle.t800_laws.proofs.Laws.HeaderSteps.{header_keeps}
use Rattle.t800_laws.proofs.Laws.StateAfter.{refused-write_leaves_state, refused-read_leaves_state}
use Rattle.t800_laws.proofs.Laws.Checks.{NotAmong, not_first, on_bool, first_append}

-- ---- the first check that holds

-- no number comes twice, none is 0, all are at most 13
abbrev Distinct : List Check → Type 0
Distinct [] = Unit {0}
Distinct (c ∷ cs) = NotAmong c.number cs × (c.number ≤ 13) × Distinct cs

not-zero : (n : ℕ) (cs : List Check) → NotAmong n cs → n ≢ 0
not-zero n [] a = a
not-zero n (c ∷ cs) a = not-zero n cs a.1

first_up_to : (cs : List Check) → Distinct cs → first_of cs ≤ 13
first_up_to [] d = omega arith
first_up_to (c ∷ cs) d = either (λ (z : ℕ). z ≤ 13) c.holds _ _ d.1 (first_up_to cs d.2)

none_then : (cs : List Check) → Distinct cs → first_of cs ≡ 0 → NoneHolds cs
none_then [] d e = tt
none_then (c ∷ cs) d e =
    on_bool c.holds
    (λ t. absurd (not-zero c.number cs d.0 (sym (if-true c.holds c.number (first_of cs) t) ∙ e)))
    (λ f. (f, none_then cs d.2 (sym (if-false c.holds c.number (first_of cs) f) ∙ e)))

then_zero : (cs : List Check) → NoneHolds cs → first_of cs ≡ 0
then_zero [] n = refl
then_zero (c ∷ cs) n = if-false c.holds c.number (first_of cs) n.0 ∙ then_zero cs n.1

among_later : (n : ℕ) (earlier later : List Check) (c : Check) → NotAmong n (earlier ++ c ∷ later) → n ≢ c.number
among_later n [] later c a = a.0
among_later n (e ∷ es) later c a = among_later n es later c a.1

given_then : (earlier later : List Check) (c : Check) → Distinct (earlier ++ c ∷ later) → first_of (earlier ++ c ∷ later) ≡ c.number
    → NoneHolds earlier × (c.holds ≡ true)
given_then [] later c d e =
    on_bool c.holds (λ t. (tt, t))
    (λ f. absurd (not_first c.number later d.0 (sym (if-false c.holds c.number (first_of later) f) ∙ e)))
given_then (b ∷ es) later c d e =
    let rest : List Check = es ++ c ∷ later in
    on_bool b.holds
    (λ t. absurd (among_later b.number es later c d.0 (sym (if-true b.holds b.number (first_of rest) t) ∙ e)))
    (λ f. let r = given_then es later c d.2 (sym (if-false b.holds b.number (first_of rest) f) ∙ e) in ((f, r.0), r.1))

then_given : (earlier later : List Check) (c : Check) → NoneHolds earlier → c.holds ≡ true → first_of (earlier ++ c ∷ later) ≡ c.number
then_given [] later c n t = if-true c.holds c.number (first_of later) t
then_given (b ∷ es) later c n t = if-false b.holds b.number (first_of (es ++ c ∷ later)) n.0 ∙ then_given es later c n.1 t

number_is : (cs : List Check) (n : ℕ) → Distinct cs → n ≡ first_of cs → NumberIs cs n
number_is cs n d e =
    record {
      up_to_13 = rw e (first_up_to cs d);
      accepts = ((λ z. none_then cs d (sym e ∙ z)), (λ h. e ∙ then_zero cs h));
      exactly = λ earlier later c s. (
        (λ z. given_then earlier later c (subst Distinct s d) (sym (ap first_of s) ∙ sym e ∙ z)),
        (λ h t. e ∙ ap first_of s ∙ then_given earlier later c h t),
      );
    }

-- ---- the numbers of the definitions

start-number : (role : ℕ) (lent : List ℕ) (c : StartCall) → (start_of role lent c).answer ≡ first_of (start_checks_of role lent c)
unfolding start_with start_refusal
start-number role lent c = refl

start-stays : (role : ℕ) (lent : List ℕ) (c : StartCall) → (start_of role lent c).answer ≢ 0 → (start_of role lent c).state ≡ lent
unfolding start_with
start-stays role lent c h = if-ne (start_refusal role c.count c.bands c.style c.planes lent) 0 _ lent h

measure-number : (ws : List ℕ) (c : WriteCall) → (measure_of ws c).answer.refusal ≡ first_of (measure_checks_of ws c)
unfolding measure_with measure_refusal_with
measure-number ws c = number (measure_refusal ws c.scratch c.contribution) _ _ refl refl
  where
    number : (why : ℕ) (done other : MeasureResult) → done.answer.refusal ≡ 0 → other.answer.refusal ≡ why
        → (cond (eqb why 0) done other).answer.refusal ≡ why
    number why done other d o = on-eq why 0
        (λ e. ap (λ (z : MeasureResult). z.answer.refusal) (if-eq why 0 done other e) ∙ d ∙ sym e)
        (λ e. ap (λ (z : MeasureResult). z.answer.refusal) (if-ne why 0 done other e) ∙ o)

module _ (ws : List ℕ) (c : WriteCall) where
  abbrev write_why : ℕ
  write_why = write_refusal ws c.scratch c.contribution c.body c.markers c.number c.output

  write-why : (write_of ws c).answer.refusal ≡ write_why
  unfolding write_with
  write-why = number write_why _ _ _ refl refl refl
    where
      number : (why : ℕ) (done no_space unchanged : WriteResult) → done.answer.refusal ≡ 0 → no_space.answer.refusal ≡ why
          → unchanged.answer.refusal ≡ why
          → (cond (eqb why 0) done (cond (eqb why 11) no_space unchanged)).answer.refusal ≡ why
      number why done no_space unchanged d n u = on-eq why 0
          (λ e. ap (λ (z : WriteResult). z.answer.refusal) (if-eq why 0 done _ e) ∙ d ∙ sym e)
          (λ e. ap (λ (z : WriteResult). z.answer.refusal) (if-ne why 0 done _ e)
          ∙ either (λ (z : WriteResult). z.answer.refusal ≡ why) (eqb why 11) no_space unchanged n u)

  write-number : (write_of ws c).answer.refusal ≡ first_of (write_checks_of ws c)
  unfolding write_refusal_with
  write-number = write-why

  write-stays : (write_of ws c).answer.refusal ≢ 0 → (write_of ws c).state ≡ ws
  write-stays =
      refused-write_leaves_state ws c.scratch c.contribution c.body c.markers c.number c.output

-- ---- reading

-- a header gives none of the other numbers
pub record HeaderNumber (r : HeaderRead) : Type 0 where
  pub one_of : (eqb r.refusal 0 || eqb r.refusal 9 || eqb r.refusal 13 || eqb r.refusal 12) ≡ true

same_number : (r z : HeaderRead) → z.refusal ≡ r.refusal → HeaderNumber r → HeaderNumber z
same_number r z e h = record { one_of = rw e h.one_of }

pub header_number : (src : List ℕ) (room : ℕ) (ws : List ℕ) (b : Bio) → HeaderNumber (read_header src room ws b)
header_number src room ws b =
    header_keeps src room HeaderNumber
    (record { one_of = refl })
    (record { one_of = refl })
    (record { one_of = refl })
    (λ vs c r l h. same_number r _ refl h)
    (λ a r h. same_number r _ refl h)
    (λ a r e g h. same_number r _ refl h)
    ws b (record { one_of = refl })

-- its number is that of the check that holds
of_header : (h : ℕ) (present : Bool) → (eqb h 0 || eqb h 9 || eqb h 13 || eqb h 12) ≡ true
    → first_of (header_checks present h) ≡ cond present h 0
of_header h false e = refl
of_header h true e =
    on-eq h 9 (λ q. if-eq h 9 9 _ q ∙ sym q)
    (λ n. if-ne h 9 9 _ n ∙ on-eq h 13 (λ q. if-eq h 13 13 _ q ∙ sym q)
    (λ m. if-ne h 13 13 _ m ∙ on-eq h 12 (λ q. if-eq h 12 12 _ q ∙ sym q)
    (λ l. if-ne h 12 12 _ l ∙ sym (none_of h n m l e))))
  where
    none_of : (h : ℕ) → h ≢ 9 → h ≢ 13 → h ≢ 12 → (eqb h 0 || eqb h 9 || eqb h 13 || eqb h 12) ≡ true → h ≡ 0
    none_of h n m l e = eqb-true h 0 (last (eqb h 0) (rw (ne_eqb h 9 n, ne_eqb h 13 m, ne_eqb h 12 l) at e))
      where
        last : (b : Bool) → (b || false || false || false) ≡ true → b ≡ true
        last true e = refl
        last false e = e

module _ (form : RecordForm) (ws : List ℕ) (c : ReadCall form) where
  abbrev early : ℕ
  early = read_refusal ws c.scratch c.reports

  abbrev first : ℕ
  first = (first_bit c.markers c.input).value

  abbrev header : HeaderRead
  header = header_of ws c.markers c.input (form.room c.records)

  read-why : (read_of form ws c).answer.refusal ≡ cond (not (eqb early 0)) early (cond (not (eqb first 0)) header.refusal 0)
  unfolding read_with read_absent read_present
  read-why = number (not (eqb early 0)) (eqb first 0) (eqb header.refusal 0) refl _ _ _ _ refl refl refl refl
    where
      number : (refused absent done : Bool) → eqb header.refusal 0 ≡ done → (a b c d : ReadResult form) → a.answer.refusal ≡ early
          → b.answer.refusal ≡ 0 → c.answer.refusal ≡ 0 → d.answer.refusal ≡ header.refusal
          → (cond refused a (cond absent b (cond done c d))).answer.refusal ≡ cond refused early (cond (not absent) header.refusal 0)
      number true absent done e a b c d p q s t = p
      number false true done e a b c d p q s t = q
      number false false true e a b c d p q s t = s ∙ sym (eqb-true header.refusal 0 e)
      number false false false e a b c d p q s t = t

  read_number : (read_of form ws c).answer.refusal ≡ first_of (read_checks_of form ws c)
  unfolding read_refusal_with
  read_number =
      let present : Bool = not (eqb first 0) in
      read-why
      ∙ ap (λ (z : ℕ). cond (not (eqb early 0)) early z)
      (sym (of_header header.refusal present (header_number c.input _ ws _).one_of))
      ∙ sym (first_append (header_checks present header.refusal) (read_list_checks ws c.scratch c.reports) (omega arith))

  read_stays : (read_of form ws c).answer.refusal ≢ 0 → (read_of form ws c).state ≡ ws
  read_stays = refused-read_leaves_state form ws c.scratch c.markers c.input c.reports c.records

-- ---- of one kind of call in an interface

module _ {Args Result : Type 0} {gives : List ℕ → Args → Result} {untouched : List ℕ → Args → ℕ → Result}
    (K : Calls Args Result gives untouched) (number : Result → ℕ) where
  number_of : (checks : List ℕ → Args → List Check) → ((ws : List ℕ) (a : Args) → Distinct (checks ws a))
      → ((ws : List ℕ) (a : Args) → number (gives ws a) ≡ first_of (checks ws a))
      → (m : K.Made) → K.asked m ≡ true → NumberIs (checks (K.found m) (K.args m)) (number (K.left m))
  number_of checks d e m a =
      number_is (checks (K.found m) (K.args m)) _ (d (K.found m) (K.args m)) (ap number (K.meets m a) ∙ e (K.found m) (K.args m))

  stays_of : (state : Result → List ℕ) → ((ws : List ℕ) (a : Args) → number (gives ws a) ≢ 0 → state (gives ws a) ≡ ws)
      → ((ws : List ℕ) (a : Args) (why : ℕ) → state (untouched ws a why) ≡ ws)
      → (m : K.Made) → number (K.left m) ≢ 0 → state (K.left m) ≡ K.found m
  stays_of state s u m h =
      on_bool (K.asked m)
      (λ a. let k = K.meets m a in ap state k ∙ s (K.found m) (K.args m) (λ e. h (ap number k ∙ e)))
      (λ a. ap state (K.refuses m a) ∙ u (K.found m) (K.args m) (K.otherwise m))

-- ---- DEMAND 1

pub numbers : (I : Interface) → Numbers I
unfolding Numbers
numbers I = (
  (λ role m. (
    number_of (I.starts role) (λ (z : StartResult). z.answer) (start_checks_of role) (λ ws c. omega arith) (start-number role) m,
    stays_of (I.starts role) (λ (z : StartResult). z.answer) (λ (z : StartResult). z.state) (start-stays role) (λ ws c why. refl) m,
  )),
  number_of I.measures (λ (z : MeasureResult). z.answer.refusal) measure_checks_of (λ ws c. omega arith) measure-number,
  (λ m. (
    number_of I.writes (λ (z : WriteResult). z.answer.refusal) write_checks_of
        (λ ws c. (omega arith, omega arith, (omega arith, omega arith, omega arith))) write-number m,
    stays_of I.writes (λ (z : WriteResult). z.answer.refusal) (λ (z : WriteResult). z.state) write-stays (λ ws c why. refl) m,
  )),
  (λ m. (
    number_of I.reads (λ (z : ReadResult I.form). z.answer.refusal) (read_checks_of I.form) (λ ws c. omega arith)
        (read_number I.form) m,
    stays_of I.reads (λ (z : ReadResult I.form). z.answer.refusal) (λ (z : ReadResult I.form). z.state) (read_stays I.form)
        (λ ws c why. refl) m,
  )),
)
