use mathlib.Core.Path.{◌≡◌, sym, ap, ◌∙◌}
use mathlib.Core.Bool.{Bool, false, cond}
use mathlib.Core.List.{List}
use Prim.Native.Nat.{ℕ}
use lib.Dec.{eqb}
use borrow.Author.Tests.{eq-eqb, ne_eqb}
use Rattle.t800.specs.declared.ReadAnswer.{ReadAnswer}
use Rattle.t800.specs.declared.ReadGatheredAnswer.{ReadGatheredAnswer}
use Rattle.t800.specs.MarkerSegments.{MarkerRead, read_marker, read_sop}
use Rattle.t800.specs.Gathered.{told_beside}
use Rattle.t2_read_gathered.proofs.told_beside.Goals as goal

-- with these bytes and this mark

abbrev told : ReadAnswer → ℕ → ℕ → ReadGatheredAnswer
told a taken mark = record {
  refusal = a.refusal;
  present = a.present;
  headers = a.taken;
  taken = taken;
  segments = a.segments;
  sop = mark;
  eph = a.eph;
  past = a.past;
}

by_refusal : (a : ReadAnswer) (s : MarkerRead) (t : Bool) → eqb a.refusal 0 ≡ t
    → told a (cond t s.skip 0) (cond t s.mark 0) ≡ told a (cond (eqb a.refusal 0) s.skip 0) (cond (eqb a.refusal 0) s.mark 0)
by_refusal a s t e = ap (λ (x : Bool). told a (cond x s.skip 0) (cond x s.mark 0)) (sym e)

sop_is : (a : ReadAnswer) (used : Bool) (src : List ℕ) (s : MarkerRead) → s ≡ read_marker used 6 0x91 src 0
    → told a (cond (eqb a.refusal 0) s.skip 0) (cond (eqb a.refusal 0) s.mark 0)
    ≡ told_beside (record { sop = used; eph = false }) src a
unfolding read_sop
sop_is a used src s e = ap (λ (x : MarkerRead). told a (cond (eqb a.refusal 0) x.skip 0) (cond (eqb a.refusal 0) x.mark 0)) e

pub returns-then-a-ne0 : goal.returns-then-a-ne0
returns-then-a-ne0 c =
    let a = c.args in
    let s = c.read_marker-s.ensures in
    by_refusal a.a _ false (ne_eqb a.a.refusal 0 c.if-a-ne0.true) ∙ sop_is a.a a.sop a.src.now _ s

pub returns-else-a-ne0 : goal.returns-else-a-ne0
returns-else-a-ne0 c =
    let a = c.args in
    let s = c.read_marker-s.ensures in
    ap (told a.a c.read_marker-s.result.skip) c.from-mark.ensures ∙ by_refusal a.a _ _ (eq-eqb a.a.refusal 0 c.if-a-ne0.false) ∙ sop_is a.a a.sop a.src.now _ s
