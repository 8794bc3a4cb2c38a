-- What accepted, refused and measuring calls do to a state, and the first packet that a list of calls owes.
use mathlib.Core.Path.{◌≡◌, refl, sym, ap, ap₂, ◌∙◌, subst}
use mathlib.Core.Logic.{◌≢◌, ◌⊎◌, inl, inr}
use mathlib.Core.Bool.{Bool, true, false, cond, ◌&&◌, not, true≢false}
use mathlib.Core.List.{List, [], ◌∷◌, ◌++◌, append_assoc}
use Prim.Native.Nat.{ℕ, ◌-◌, ◌<◌}
use native.Mathlib.Omega.{arith}
use lib.ListN.{length, take, drop, length-append}
use lib.Seq.{take-append_seam}
use lib.Dec.{T, ltb, eqb}
use lib.Ieee.Fits.{and_l, and_r}
use borrow.Author.Tests.{eqb-true, eqb-false, not-false}
use Rattle.t800.specs.declared.Markers.{Markers}
use Rattle.t800.specs.Base.{any, sum, overwrite}
use Rattle.t800.specs.Bits.{bio_at, get_bit}
use Rattle.t800.specs.State.{Block, not_yet_included, blocks, bands, layer, writer}
use Rattle.t800.specs.Ranges.{valid_state}
use Rattle.t800.specs.WriteHeader.{Contribution, code_header, segment_too_long, field_too_wide}
use Rattle.t800.specs.ReadHeader.{read_header}
use Rattle.t800.specs.MarkerSegments.{read_sop}
use Rattle.t800.specs.Packet.{wrong_lists, measure_checks, measure_refusal, measure_refusal_with, front, packet, packet_checks, write_refusal}
use Rattle.t800.specs.Packet.{write_refusal_with, WriteResult, write, write_with}
use Rattle.t800.specs.Packet.{read_refusal, read_absent, read_present, ReadResult, read_with}
use Rattle.t800.specs.Book.{BlockEntry, add_counts, terminated_as_style}
use Rattle.t800.specs.Interface.{WriteCall, write_of, ReadCall, read_of}
use Rattle.round_trip.proofs.Trip.Lists.{WriterCall, measuring, writing, accepted, owed_for, owed, all_terminated_as_style}
use Rattle.t800.specs.Reports.{RecordForm}
use Rattle.t800_laws.proofs.Laws.Checks.{first_append}
use Rattle.t800_laws.proofs.Laws.Tests.{not_refused, either, if-true, if-false}
use Rattle.t800_laws.proofs.Laws.Lists.{lists_right}
use Rattle.round_trip.proofs.Trip.WriterState.{Acceptable}

-- ---- writing

pub measured : (ws scratch : List ℕ) (p : Contribution) → measure_refusal ws scratch p ≡ 0 → (layer ws ≢ not_yet_included)
    × Acceptable ws (blocks (bands ws)) p
unfolding measure_refusal_with
measured ws scratch p e =
    let ks : List Block = blocks (bands ws) in
    let c₁ = not_refused (not (valid_state writer ws (length scratch))) 5 _ (omega arith) e in
    let c₂ = not_refused (eqb (layer ws) not_yet_included) 6 _ (omega arith) c₁.1 in
    let c₃ = not_refused (wrong_lists p (length ks)) 3 _ (omega arith) c₂.1 in
    let c₄ = not_refused (any (λ (c : ℕ). ltb 164 c) p.counts) 7 _ (omega arith) c₃.1 in
    let c₅ = not_refused (segment_too_long p.counts p.lengths p.marks) 8 _ (omega arith) c₄.1 in
    let c₆ = not_refused (field_too_wide ws ks p.counts p.lengths p.marks) 9 0 (omega arith) c₅.1 in
    let l = lists_right p (length ks) c₃.0 in
    (eqb-false (layer ws) not_yet_included c₂.0, record { counts = l.0; lengths = l.1; marks = l.2; few = c₄.0; fits = c₆.0 })

-- an accepted call
pub record Accepted (ws : List ℕ) (c : WriteCall) : Type 0 where
  pub layer-left : layer ws ≢ not_yet_included
  pub acceptable : Acceptable ws (blocks (bands ws)) c.contribution
  pub state : (write_of ws c).state ≡ (code_header c.contribution ws).words
  pub scratch : (write_of ws c).scratch ≡ (code_header c.contribution ws).words
  pub front-is : take ((write_of ws c).answer.bytes - sum c.contribution.lengths) (write_of ws c).output
      ≡ front ws c.contribution c.markers c.number

both_zero : (b : Bool) (n x : ℕ) → eqb n 0 ≡ b → cond (not b) n x ≡ 0 → (n ≡ 0) × (x ≡ 0)
both_zero true n x e h = (eqb-true n 0 e, h)
both_zero false n x e h = absurd (eqb-false n 0 e h)

of-false {ℓ} : {A : Type ℓ} (P : A → Type 0) (b : Bool) (x y : A) → b ≡ false → P y → P (cond b x y)
of-false P true x y e p = absurd (true≢false e)
of-false P false x y e p = p

-- the packet less its body
front_cut : (fr body output : List ℕ) (n : ℕ) → length body ≡ n → take (length (fr ++ body) - n) (overwrite output (fr ++ body)) ≡ fr
unfolding overwrite
front_cut fr body output n e =
    let unused : List ℕ = drop (length (fr ++ body)) output in
    let l : length (fr ++ body) - n ≡ length fr = (let q = length-append fr body in omega arith) in
    ap₂ (λ (k : ℕ) (z : List ℕ). take k z) l (append_assoc fr body unused) ∙ take-append_seam fr (body ++ unused)

module _ (ws scratch : List ℕ) (p : Contribution) (body : List ℕ) (m : Markers) (number : ℕ) (output : List ℕ) where
  abbrev why : ℕ
  why = write_refusal ws scratch p body m number output

  -- the two ways that a call goes
  pub write_done : eqb why 0 ≡ true → write ws scratch p body m number output
      ≡ record {
        answer = record { refusal = 0; bytes = length (packet ws p body m number) };
        state = (code_header p ws).words;
        scratch = (code_header p ws).words;
        output = overwrite output (packet ws p body m number);
      }
  unfolding write_with
  write_done e = if-true (eqb why 0) _ _ e

  write-refused : eqb why 0 ≡ false → ((write ws scratch p body m number output).state ≡ ws)
      × ((write ws scratch p body m number output).answer.refusal ≡ why)
  unfolding write_with
  write-refused e =
      let P : WriteResult → Type 0 = λ w. (w.state ≡ ws) × (w.answer.refusal ≡ why) in
      of-false P (eqb why 0) _ _ e (either P (eqb why 11) _ _ (refl, refl) (refl, refl))

  pub write-zero : why ≡ 0 → (measure_refusal ws scratch p ≡ 0) × (length body ≡ sum p.lengths)
  unfolding measure_refusal_with write_refusal_with
  write-zero e =
      let c₁ = both_zero (eqb (measure_refusal ws scratch p) 0) (measure_refusal ws scratch p) _ refl
      (sym (first_append (packet_checks ws p body m number output) (measure_checks ws scratch p) (omega arith)) ∙ e) in
      let c₂ = not_refused (not (eqb (length body) (sum p.lengths))) 10 _ (omega arith) c₁.1 in
      (c₁.0, eqb-true (length body) (sum p.lengths) (not-false (eqb (length body) (sum p.lengths)) c₂.0))

  front-taken : length body ≡ sum p.lengths
      → take (length (packet ws p body m number) - sum p.lengths) (overwrite output (packet ws p body m number))
      ≡ front ws p m number
  unfolding packet
  front-taken e = front_cut (front ws p m number) body output (sum p.lengths) e

module _ (ws : List ℕ) (c : WriteCall) where
  abbrev refusal_of : ℕ
  refusal_of = write_refusal ws c.scratch c.contribution c.body c.markers c.number c.output

  pub is_accepted : accepted ws c ≡ true → Accepted ws c
  is_accepted h = go (eqb refusal_of 0) refl
    where
      go : (b : Bool) → eqb refusal_of 0 ≡ b → Accepted ws c
      go true e =
          let z = write-zero ws c.scratch c.contribution c.body c.markers c.number c.output (eqb-true _ 0 e) in
          let d = write_done ws c.scratch c.contribution c.body c.markers c.number c.output e in
          let a = measured ws c.scratch c.contribution z.0 in
          record {
            layer-left = a.0;
            acceptable = a.1;
            state = ap (λ (w : WriteResult). w.state) d;
            scratch = ap (λ (w : WriteResult). w.scratch) d;
            front-is = ap (λ (w : WriteResult). take (w.answer.bytes - sum c.contribution.lengths) w.output) d
                ∙ front-taken ws c.scratch c.contribution c.body c.markers c.number c.output z.1;
          }
      go false e =
          let r = write-refused ws c.scratch c.contribution c.body c.markers c.number c.output e in
          absurd (true≢false (sym h ∙ ap (λ (z : ℕ). eqb z 0) r.1 ∙ e))

  pub refused-keeps : accepted ws c ≡ false → (write_of ws c).state ≡ ws
  refused-keeps h = go (eqb refusal_of 0) refl
    where
      go : (b : Bool) → eqb refusal_of 0 ≡ b → (write_of ws c).state ≡ ws
      go true e =
          let d = write_done ws c.scratch c.contribution c.body c.markers c.number c.output e in
          absurd (true≢false (sym (ap (λ (w : WriteResult). eqb w.answer.refusal 0) d) ∙ h))
      go false e = (write-refused ws c.scratch c.contribution c.body c.markers c.number c.output e).0

-- ---- a list of writer's calls: the first packet that it owes, or none

pub record FirstOwed (s : ℕ) (ws : List ℕ) (es : List BlockEntry) (cs : List WriterCall) : Type 0 where
  pub call : WriteCall
  pub rest : List WriterCall
  pub is : owed s ws es cs ≡ owed_for s ws es call ∷ owed s (write_of ws call).state (add_counts es call.contribution.counts) rest
  pub accepts : accepted ws call ≡ true
  pub terminated : T (terminated_as_style s es call.contribution.counts call.contribution.marks)
  pub rest-terminated : T (all_terminated_as_style s (write_of ws call).state (add_counts es call.contribution.counts) rest)

module _ (s : ℕ) (ws : List ℕ) (es : List BlockEntry) (c : WriteCall) (cs : List WriterCall) where
  pub owed_accepted : accepted ws c ≡ true → owed s ws es (writing c ∷ cs)
      ≡ owed_for s ws es c ∷ owed s (write_of ws c).state (add_counts es c.contribution.counts) cs
  unfolding owed
  owed_accepted h = if-true (accepted ws c) _ _ h

  owed_refused : accepted ws c ≡ false → owed s ws es (writing c ∷ cs) ≡ owed s ws es cs
  unfolding owed
  owed_refused h = if-false (accepted ws c) _ _ h ∙ ap (λ (z : List ℕ). owed s z es cs) (refused-keeps ws c h)

  pub terminated_accepted : accepted ws c ≡ true
      → all_terminated_as_style s ws es (writing c ∷ cs)
      ≡ (terminated_as_style s es c.contribution.counts c.contribution.marks && all_terminated_as_style s (write_of ws c).state
      (add_counts es c.contribution.counts) cs)
  unfolding all_terminated_as_style
  terminated_accepted h = if-true (accepted ws c) _ _ h

  pub terminated_refused : accepted ws c ≡ false → all_terminated_as_style s ws es (writing c ∷ cs) ≡ all_terminated_as_style s ws es cs
  unfolding all_terminated_as_style
  terminated_refused h = if-false (accepted ws c) _ _ h ∙ ap (λ (z : List ℕ). all_terminated_as_style s z es cs) (refused-keeps ws c h)

pub first_owed : (s : ℕ) (ws : List ℕ) (es : List BlockEntry) (cs : List WriterCall) → T (all_terminated_as_style s ws es cs)
    → (owed s ws es cs ≡ []) ⊎ FirstOwed s ws es cs
unfolding owed all_terminated_as_style
first_owed s ws es [] h = inl refl
first_owed s ws es (measuring c ∷ cs) h = more (first_owed s ws es cs h)
  where
    more : (owed s ws es cs ≡ []) ⊎ FirstOwed s ws es cs → (owed s ws es (measuring c ∷ cs) ≡ []) ⊎ FirstOwed s ws es (measuring c ∷ cs)
    more (inl e) = inl e
    more (inr f) =
        inr
        (record {
          call = f.call;
          rest = f.rest;
          is = f.is;
          accepts = f.accepts;
          terminated = f.terminated;
          rest-terminated = f.rest-terminated;
        })
first_owed s ws es (writing c ∷ cs) h = go (accepted ws c) refl (λ g. first_owed s ws es cs g)
  where
    more : accepted ws c ≡ false → (owed s ws es cs ≡ []) ⊎ FirstOwed s ws es cs
        → (owed s ws es (writing c ∷ cs) ≡ []) ⊎ FirstOwed s ws es (writing c ∷ cs)
    more a (inl e) = inl (owed_refused s ws es c cs a ∙ e)
    more a (inr f) = inr
        (record {
          call = f.call;
          rest = f.rest;
          is = owed_refused s ws es c cs a ∙ f.is;
          accepts = f.accepts;
          terminated = f.terminated;
          rest-terminated = f.rest-terminated;
        })

    go : (b : Bool) → accepted ws c ≡ b → (T (all_terminated_as_style s ws es cs) → (owed s ws es cs ≡ []) ⊎ FirstOwed s ws es cs)
        → (owed s ws es (writing c ∷ cs) ≡ []) ⊎ FirstOwed s ws es (writing c ∷ cs)
    go true a k =
        let here : Bool = terminated_as_style s es c.contribution.counts c.contribution.marks in
        let rest : Bool = all_terminated_as_style s (write_of ws c).state (add_counts es c.contribution.counts) cs in
        let h₁ : T (here && rest) = subst T (terminated_accepted s ws es c cs a) h in
        inr
        (record {
          call = c;
          rest = cs;
          is = owed_accepted s ws es c cs a;
          accepts = a;
          terminated = and_l here rest h₁;
          rest-terminated = and_r here rest h₁;
        })
    go false a k = more a (k (subst T (terminated_refused s ws es c cs a) h))

-- ---- reading

pub refused-read_keeps : (form : RecordForm) (rs : List ℕ) (c : ReadCall form) → 0 < (read_of form rs c).answer.refusal
    → (read_of form rs c).state ≡ rs
unfolding read_with read_absent read_present
refused-read_keeps form rs c =
    let P : ReadResult form → Type 0 = λ r. 0 < r.answer.refusal → r.state ≡ rs in
    let first = get_bit c.input (bio_at (read_sop c.markers c.input).skip) in
    either P (not (eqb (read_refusal rs c.scratch c.reports) 0)) _ _ (λ h. refl)
    (either P (eqb first.value 0) _ _ (λ h. absurd (omega (arith, h)))
    (either P (eqb (read_header c.input (form.room c.records) rs first.bio).refusal 0) _ _
    (λ h. absurd (omega (arith, h))) (λ h. refl)))
