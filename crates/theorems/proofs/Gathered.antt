-- What is stated of headers gathered in front, of the exported calls.
use mathlib.Core.Path.{◌≡◌, sym, ap, ◌∙◌, subst}
use mathlib.Core.Logic.{◌≢◌}
use mathlib.Core.Bool.{Bool, true}
use mathlib.Core.List.{List, [], ◌∷◌}
use Prim.Native.Nat.{ℕ, ◌*◌, ◌-◌}
use native.Mathlib.Omega.{arith}
use lib.ListN.{length, get_or, take, drop}
use lib.Dec.{eqb}
use borrow.Author.Tests.{eq-eqb}
use Rattle.t800.specs.Base.{overwrite, wiped}
use Rattle.t800.specs.Reports.{record_width, as_records, as_words}
use Rattle.t800.specs.Packet.{ReadResult, read}
use Rattle.t800.specs.Gathered.{GatheredResult, read_gathered, GatherResult, gather, SpreadResult, spread}
use Rattle.t800.specs.Exports.{ReadExit, read_exit, read_call, gathered_words, read_gathered_call, GatherExit, gather_exit}
use Rattle.t800.specs.Exports.{gather_call, SpreadExit, spread_exit, spread_call}
use Rattle.t800_laws.proofs.Laws.Tests.{if-true, if-false}
use Rattle.t800_laws.proofs.Laws.Checks.{on_bool}
use Rattle.gathered_headers.specs.Gathered.{SameReading, ThereAndBack, BackAndThere, GatherRefuses, SpreadRefuses}
use Rattle.gathered_headers.proofs.SameReading.{same_reading}
use Rattle.gathered_headers.proofs.ThereAndBack.{there_and_back}
use Rattle.gathered_headers.proofs.BackAndThere.{back_and_there}
use Rattle.gathered_headers.proofs.Refused.{gather-refuses, spread-refuses}
use Rattle.theorems.specs.Exports.{ReadMade}
use Rattle.theorems.specs.Gathered.{GatheredMade, Gathers, sop_of, SameReadingOfExports, GatherMade, SpreadMade}
use Rattle.theorems.specs.Gathered.{ThereAndBackOfExports, BackAndThereOfExports, GatherRefusesOfExports}
use Rattle.theorems.specs.Gathered.{SpreadRefusesOfExports}
use Rattle.theorems.proofs.Exports.{work_numbered}

-- ---- reading

module _ (m : ReadMade) (n : GatheredMade) (same : Gathers m n) where
  abbrev stream : ReadResult as_records
  stream = read as_records m.state m.scratch m.markers m.input m.reports m.records

  abbrev worked : List ℕ
  worked = (read as_words m.state m.scratch m.markers m.input m.reports m.work).records

  abbrev six : Bool
  six = eqb (length m.answer) 6

  abbrev fits : Bool
  fits = eqb (length m.work) (record_width * length m.records)

  -- an accepted call has lists of the length asked
  read-accepted : m.left.refusal ≡ 0 → (fits ≡ true) × (m.left ≡ read_exit stream worked)
  unfolding read_call
  read-accepted z =
      on_bool six
      (λ s. on_bool fits
      (λ f. (f, m.met ∙ if-true six _ _ s ∙ if-true fits _ _ f))
      (λ f. absurd (omega (
        arith,
        (work_numbered m.state m.scratch).0,
        sym (ap (λ (x : ReadExit). x.refusal) (m.met ∙ if-true six _ _ s ∙ if-false fits _ _ f)) ∙ z,
      ))))
      (λ s. absurd (omega (arith, sym (ap (λ (x : ReadExit). x.refusal) (m.met ∙ if-false six _ _ s)) ∙ z)))

  abbrev gathered : GatheredResult as_records
  gathered = read_gathered as_records m.state m.scratch m.markers n.headers n.input m.reports m.records

  -- n as a call with the other's lists
  given_alike : n.left
      ≡ read_gathered_call m.state m.scratch m.markers n.headers n.input m.reports m.work m.records n.answer
  given_alike =
      n.met ∙ (λ i. read_gathered_call (same.same_state i) (same.same_scratch i) (same.same_markers i) n.headers n.input
      (same.same_reports i) (same.same_work i) (same.same_records i) n.answer)

  abbrev Same : ReadExit → ReadExit → Type 0
  Same z x =
      let a = z.answer in
      let header = get_or a 1 0 - sop_of m in
      (x.refusal ≡ 0) × (x.state ≡ z.state) × (x.scratch ≡ z.scratch) × (x.reports ≡ z.reports) × (x.records ≡ z.records)
      × (x.answer ≡ get_or a 0 0 ∷ header ∷ sop_of m ∷ get_or a 2 0 ∷ get_or a 3 0 ∷ get_or a 4 0 ∷ get_or a 5 0 ∷ [])

  -- what is asked of the read of the stream that left z
  abbrev Premises : ReadExit → Type 0
  Premises z =
      let header = get_or z.answer 1 0 - sop_of m in
      (z.refusal ≡ 0) × (get_or z.answer 3 0 ≡ 0) × (get_or z.answer 4 0 ≡ 0)
      × (take header n.headers ≡ take header (drop (sop_of m) m.input))
      × (get_or z.answer 5 0 ≢ 0 → length n.headers ≡ header)
      × (take (sop_of m) n.input ≡ take (sop_of m) m.input)

  at_read : fits ≡ true → Premises (read_exit stream worked) → Same (read_exit stream worked) n.left
  unfolding read_gathered_call SameReading
  at_read f p =
      let e = same_reading as_records m.state m.scratch m.markers m.input n.headers n.input m.reports m.records
      p.0 p.1 p.2 p.3 p.4 p.5 in
      let seven : eqb (length n.answer) 7 ≡ true = eq-eqb (length n.answer) 7 same.seven_words in
      let q = given_alike ∙ if-true (eqb (length n.answer) 7) _ _ seven ∙ if-true fits _ _ f in (
        ap (λ (x : ReadExit). x.refusal) q ∙ ap (λ (g : GatheredResult as_records). g.answer.refusal) e ∙ p.0,
        ap (λ (x : ReadExit). x.state) q ∙ ap (λ (g : GatheredResult as_records). g.state) e,
        ap (λ (x : ReadExit). x.scratch) q ∙ ap (λ (g : GatheredResult as_records). g.scratch) e,
        ap (λ (x : ReadExit). x.reports) q ∙ ap (λ (g : GatheredResult as_records). g.reports) e,
        ap (λ (x : ReadExit). x.records) q ∙ ap (λ (g : GatheredResult as_records). g.records) e,
        ap (λ (x : ReadExit). x.answer) q ∙ ap (λ (g : GatheredResult as_records). gathered_words g.answer) e,
      )

pub same_reading_of_exports : SameReadingOfExports
unfolding SameReadingOfExports
same_reading_of_exports m n same z sop eph begins past src =
    let r = read-accepted m n same z in
    let k = subst (λ (x : ReadExit). Premises m n same x → Same m n same x n.left) (sym r.1) (at_read m n same r.0)
    (z, sop, eph, begins, past, src) in
    record { accepts = k.0; state = k.1; scratch = k.2; reports = k.3; records = k.4; answer = k.5 }

-- ---- the moves

module _ (g : GatherMade) where
  abbrev two : Bool
  two = eqb (length g.answer) 2

  abbrev moved : GatherResult
  moved = gather g.row g.states g.scratch g.places g.markers g.headers g.bodies

  gather-met : length g.answer ≡ 2 → g.left ≡ gather_exit moved
  unfolding gather_call
  gather-met a = g.met ∙ if-true two _ _ (eq-eqb (length g.answer) 2 a)

  gather-accepted : g.left.refusal ≡ 0 → g.left ≡ gather_exit moved
  unfolding gather_call
  gather-accepted z =
      on_bool two (λ t. g.met ∙ if-true two _ _ t)
      (λ t. absurd (omega (arith, sym (ap (λ (x : GatherExit). x.refusal) (g.met ∙ if-false two _ _ t)) ∙ z)))

module _ (s : SpreadMade) where
  abbrev one : Bool
  one = eqb (length s.answer) 1

  abbrev back : SpreadResult
  back = spread s.headers s.bodies s.states s.scratch s.places s.markers s.row

  spread-met : length s.answer ≡ 1 → s.left ≡ spread_exit back
  unfolding spread_call
  spread-met a = s.met ∙ if-true one _ _ (eq-eqb (length s.answer) 1 a)

  spread-accepted : s.left.refusal ≡ 0 → s.left ≡ spread_exit back
  unfolding spread_call
  spread-accepted z =
      on_bool one (λ t. s.met ∙ if-true one _ _ t)
      (λ t. absurd (omega (arith, sym (ap (λ (x : SpreadExit). x.refusal) (s.met ∙ if-false one _ _ t)) ∙ z)))

pub there_and_back_of_exports : ThereAndBackOfExports
unfolding ThereAndBackOfExports ThereAndBack
there_and_back_of_exports g s same z placed headers bodies long room a =
    let e = gather-accepted g z in
    let G : GatherResult = moved g in
    let hs : s.headers ≡ take G.answer.headers G.headers =
    headers ∙ ap (λ (x : GatherExit). take (get_or x.answer 0 0) x.headers) e in
    let bs : s.bodies ≡ take G.answer.bodies G.bodies =
    bodies ∙ ap (λ (x : GatherExit). take (get_or x.answer 1 0) x.bodies) e in
    let as_given : back s ≡ spread (take G.answer.headers G.headers) (take G.answer.bodies G.bodies) g.states
    s.scratch g.places g.markers s.row =
    λ i. spread (hs i) (bs i) (same.same_states i) s.scratch (same.same_places i) (same.same_markers i) s.row in
    spread-met s a
    ∙ ap spread_exit (as_given ∙ there_and_back g.row g.states g.scratch g.places g.markers g.headers g.bodies
    (sym (ap (λ (x : GatherExit). x.refusal) e) ∙ z) placed s.scratch s.row
    (long ∙ ap (λ (l : List ℕ). length l) same.same_states) room)
    ∙ ap (λ (x : List ℕ).
    record { refusal = 0; scratch = x; row = overwrite s.row g.row; answer = length g.row ∷ [] })
    (sym (ap (λ (x : GatherExit). x.scratch) e))

pub back_and_there_of_exports : BackAndThereOfExports
unfolding BackAndThereOfExports BackAndThere
back_and_there_of_exports s g same z filled few placed row long room_headers room_bodies a =
    let e = spread-accepted s z in
    let S : SpreadResult = back s in
    let rs : g.row ≡ take S.answer.bytes S.row =
    row ∙ ap (λ (x : SpreadExit). take (get_or x.answer 0 0) x.row) e in
    let as_given : moved g ≡ gather (take S.answer.bytes S.row) s.states g.scratch s.places s.markers g.headers
    g.bodies =
    λ i. gather (rs i) (sym same.same_states i) g.scratch (sym same.same_places i) (sym same.same_markers i) g.headers
    g.bodies in
    gather-met g a
    ∙ ap gather_exit (as_given ∙ back_and_there s.headers s.bodies s.states s.scratch s.places s.markers s.row
    (sym (ap (λ (x : SpreadExit). x.refusal) e) ∙ z) filled few placed g.scratch g.headers g.bodies
    (long ∙ sym (ap (λ (l : List ℕ). length l) same.same_states)) room_headers room_bodies)
    ∙ ap (λ (x : List ℕ). record {
      refusal = 0;
      scratch = x;
      headers = overwrite g.headers s.headers;
      bodies = overwrite g.bodies s.bodies;
      answer = length s.headers ∷ length s.bodies ∷ [];
    }) (sym (ap (λ (x : SpreadExit). x.scratch) e))

pub gather-refuses_of_exports : GatherRefusesOfExports
unfolding GatherRefusesOfExports GatherRefuses
gather-refuses_of_exports g a n =
    let e = gather-met g a in
    let why : g.left.refusal ≡ (moved g).answer.refusal = ap (λ (x : GatherExit). x.refusal) e in
    let k = gather-refuses g.row g.states g.scratch g.places g.markers g.headers g.bodies in
    e ∙ ap gather_exit (k.2 (λ z. n (why ∙ z)))
    ∙ ap (λ (r : ℕ). record {
      refusal = r;
      scratch = wiped g.scratch;
      headers = wiped g.headers;
      bodies = wiped g.bodies;
      answer = 0 ∷ 0 ∷ [];
    }) (sym why)

pub spread-refuses_of_exports : SpreadRefusesOfExports
unfolding SpreadRefusesOfExports SpreadRefuses
spread-refuses_of_exports s a n =
    let e = spread-met s a in
    let why : s.left.refusal ≡ (back s).answer.refusal = ap (λ (x : SpreadExit). x.refusal) e in
    let k = spread-refuses s.headers s.bodies s.states s.scratch s.places s.markers s.row in
    e ∙ ap spread_exit (k.3 (λ z. n (why ∙ z)))
    ∙ ap (λ (r : ℕ). record { refusal = r; scratch = wiped s.scratch; row = wiped s.row; answer = 0 ∷ [] }) (sym why)
