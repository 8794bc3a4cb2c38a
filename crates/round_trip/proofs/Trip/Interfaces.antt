-- Demand 3 of every interface, from the round trip of the definitions: where an interface's own lists have the length that it asks a call
-- leaves what its definition gives, and otherwise it changes nothing.
use mathlib.Core.Path.{◌≡◌, refl, sym, ap, ◌∙◌, subst}
use mathlib.Core.Bool.{Bool, true, false, cond, not, ◌&&◌, ◌||◌}
use mathlib.Core.List.{List, [], ◌∷◌}
use Prim.Native.Nat.{ℕ, ◌<◌, ◌≤◌}
use native.Mathlib.Omega.{arith}
use lib.ListN.{length, take}
use lib.Dec.{T, eqb}
use borrow.Author.Tests.{ne_eqb, le-ltb}
use Rattle.t800.specs.declared.Band.{Band}
use Rattle.t800.specs.Refusals.{check, first_of, shape_refusal, style_refusal, list_refusal, planes_refusal}
use Rattle.t800.specs.State.{writer, reader, blocks, state_length}
use Rattle.t800.specs.Ranges.{bad_shape, bad_style, band_too_deep, block_too_deep, valid_state}
use Rattle.t800.specs.Start.{fresh_state, set_zero_planes, StartResult, start_refusal, start, start_with}
use Rattle.t800.specs.Packet.{WriteResult, ReadResult}
use Rattle.t800.specs.Book.{BlockEntry, add_counts, terminated_as_style}
use Rattle.t800.specs.Interface.{StartCall, write_of, read_of, Interface}
use Rattle.t800.specs.RoundTrip as made
use Rattle.t800.specs.RoundTrip.{Owed, GivesEntry, WriterMade, measured, written, ReaderMade, refused_made, packet_made}
use Rattle.t800.specs.RoundTrip.{Follows, Accepted, book_of, RoundTrip, WriterInRange}
use Rattle.t800_laws.proofs.Laws.Tests.{if-true, if-false}
use Rattle.t800_laws.proofs.Laws.Checks.{on_bool}
use Rattle.t800_laws.proofs.Laws.Accepted.{start-accepted}
use Rattle.round_trip.proofs.Trip.Lists.{WriterCall, writing, state_after, owed_for, owed, all_terminated_as_style}
use Rattle.round_trip.proofs.Trip.Lists.{ReaderCall, refused_read, packet_read, ReadsAsOwed}
use Rattle.round_trip.proofs.Trip.WriterInRange.{calls-in_range}
use Rattle.round_trip.proofs.Trip.RoundTrip.{all_packets_read}

-- ---- starts that say the same

-- bands beyond the count have no part
same_start : (role n : ℕ) (g h : List Band) (style : ℕ) (planes lent : List ℕ) → take n g ≡ take n h → n ≤ length g → n ≤ length h
    → start role n g style planes lent ≡ start role n h style planes lent
unfolding start_with start_refusal
same_start role n g h style planes lent e p q =
    let by : List Band → Bool → StartResult = λ bs short.
    let why = first_of
    (check shape_refusal (bad_shape n bs || short)
    ∷ check style_refusal (bad_style style)
    ∷ check list_refusal
    (not (eqb (length lent) (state_length bs)) || not (eqb (length planes) (cond (eqb role writer) (length (blocks bs)) 0)))
    ∷ check planes_refusal (band_too_deep bs || block_too_deep (blocks bs) planes)
    ∷ []) in
    record { answer = why; state = cond (eqb why 0) (set_zero_planes (blocks bs) planes (fresh_state role style bs)) lent } in
    λ i. by (e i) ((le-ltb (length g) n p ∙ sym (le-ltb (length h) n q)) i)

-- a reader is given no block planes
reader-without_planes : (planes : List ℕ) (blocks : ℕ) → length planes ≡ cond (eqb reader writer) blocks 0 → planes ≡ []
unfolding reader writer
reader-without_planes [] blocks e = refl
reader-without_planes (x ∷ xs) blocks e = absurd (omega (arith, e))

module _ (I : Interface) where
  -- ---- the writer's calls; one that its interface refuses by itself comes down to none

  calls_of : List (WriterMade I) → List WriterCall
  calls_of [] = []
  calls_of (measured m ∷ cs) = calls_of cs
  calls_of (written m ∷ cs) = cond (I.writes.asked m) (writing (I.writes.args m) ∷ calls_of cs) (calls_of cs)

  -- a writing call in the state ws: the definition's, or refused with the state as it was
  pub record Gives (ws : List ℕ) (m : I.writes.Made) : Type 0 where
    pub asked : I.writes.asked m ≡ true
    pub left : I.writes.left m ≡ write_of ws (I.writes.args m)

  pub record Keeps (ws : List ℕ) (m : I.writes.Made) : Type 0 where
    pub asked : I.writes.asked m ≡ false
    pub refused : made.accepted I m ≡ false
    pub state : (I.writes.left m).state ≡ ws

  pub on-write {ℓ} : {X : Type ℓ} (ws : List ℕ) (m : I.writes.Made) → I.writes.found m ≡ ws → (Gives ws m → X) → (Keeps ws m → X) → X
  on-write ws m e f g =
      on_bool (I.writes.asked m)
      (λ a. f (record { asked = a; left = I.writes.meets m a ∙ ap (λ (vs : List ℕ). write_of vs (I.writes.args m)) e }))
      (λ a. let k = I.writes.refuses m a in
      g (record {
        asked = a;
        refused = ap (λ (z : WriteResult). eqb z.answer.refusal 0) k
            ∙ ne_eqb (I.writes.otherwise m) 0 (let n = (I.writes.numbered m).0 in omega arith);
        state = ap (λ (z : WriteResult). z.state) k ∙ e;
      }))

  owed_is : (style : ℕ) (ws : List ℕ) (book : List BlockEntry) (cs : List (WriterMade I)) → Follows I ws cs
      → made.owed I style book cs ≡ owed style ws book (calls_of cs)
  unfolding calls_of Follows made.owed owed owed_for
  owed_is style ws book [] f = refl
  owed_is style ws book (measured m ∷ cs) f = owed_is style ws book cs f.1
  owed_is style ws book (written m ∷ cs) f =
      on-write ws m f.0
      (λ g. let k = g.left in
      let after : List BlockEntry = add_counts book (I.writes.args m).contribution.counts in
      let rest : (b : List BlockEntry) → made.owed I style b cs ≡ owed style (write_of ws (I.writes.args m)).state b (calls_of cs) =
      λ b. owed_is style (write_of ws (I.writes.args m)).state b cs (subst (λ (z : WriteResult). Follows I z.state cs) k f.1) in
      (λ i. cond (eqb (k i).answer.refusal 0) (made.owed_for style book (I.writes.args m) (k i) ∷ rest after i) (rest book i))
      ∙ ap (owed style ws book) (sym (if-true (I.writes.asked m) (writing (I.writes.args m) ∷ calls_of cs) (calls_of cs) g.asked)))
      (λ g. if-false (made.accepted I m) _ _ g.refused
      ∙ owed_is style ws book cs (subst (λ (vs : List ℕ). Follows I vs cs) g.state f.1)
      ∙ ap (owed style ws book) (sym (if-false (I.writes.asked m) (writing (I.writes.args m) ∷ calls_of cs) (calls_of cs) g.asked)))

  terminated_is : (style : ℕ) (ws : List ℕ) (book : List BlockEntry) (cs : List (WriterMade I)) → Follows I ws cs
      → made.all_terminated_as_style I style book cs ≡ all_terminated_as_style style ws book (calls_of cs)
  unfolding calls_of Follows made.all_terminated_as_style all_terminated_as_style
  terminated_is style ws book [] f = refl
  terminated_is style ws book (measured m ∷ cs) f = terminated_is style ws book cs f.1
  terminated_is style ws book (written m ∷ cs) f =
      on-write ws m f.0
      (λ g. let k = g.left in
      let after : List BlockEntry = add_counts book (I.writes.args m).contribution.counts in
      let rest : (b : List BlockEntry) → made.all_terminated_as_style I style b cs
      ≡ all_terminated_as_style style (write_of ws (I.writes.args m)).state b (calls_of cs) =
      λ b. terminated_is style (write_of ws (I.writes.args m)).state b cs
      (subst (λ (z : WriteResult). Follows I z.state cs) k f.1) in
      (λ i. cond (eqb (k i).answer.refusal 0)
      (terminated_as_style style book (I.writes.args m).contribution.counts (I.writes.args m).contribution.marks && rest after i)
      (rest book i))
      ∙ ap (all_terminated_as_style style ws book)
      (sym (if-true (I.writes.asked m) (writing (I.writes.args m) ∷ calls_of cs) (calls_of cs) g.asked)))
      (λ g. if-false (made.accepted I m) _ _ g.refused
      ∙ terminated_is style ws book cs (subst (λ (vs : List ℕ). Follows I vs cs) g.state f.1)
      ∙ ap (all_terminated_as_style style ws book)
      (sym (if-false (I.writes.asked m) (writing (I.writes.args m) ∷ calls_of cs) (calls_of cs) g.asked)))

  after_is : (ws : List ℕ) (cs : List (WriterMade I)) → Follows I ws cs → made.state_after I ws cs ≡ state_after ws (calls_of cs)
  unfolding calls_of Follows made.state_after state_after
  after_is ws [] f = refl
  after_is ws (measured m ∷ cs) f = after_is ws cs f.1
  after_is ws (written m ∷ cs) f =
      on-write ws m f.0
      (λ g. let k = g.left in
      ap (λ (z : WriteResult). made.state_after I z.state cs) k
      ∙ after_is (write_of ws (I.writes.args m)).state cs (subst (λ (z : WriteResult). Follows I z.state cs) k f.1)
      ∙ ap (state_after ws) (sym (if-true (I.writes.asked m) (writing (I.writes.args m) ∷ calls_of cs) (calls_of cs) g.asked)))
      (λ g. ap (λ (vs : List ℕ). made.state_after I vs cs) g.state
      ∙ after_is ws cs (subst (λ (vs : List ℕ). Follows I vs cs) g.state f.1)
      ∙ ap (state_after ws) (sym (if-false (I.writes.asked m) (writing (I.writes.args m) ∷ calls_of cs) (calls_of cs) g.asked)))

  -- ---- the reader's

  read_by : (ws : List ℕ) (m : I.reads.Made) → I.reads.found m ≡ ws → I.reads.asked m ≡ true → I.reads.left m
      ≡ read_of I.form ws (I.reads.args m)
  read_by ws m e a = I.reads.meets m a ∙ ap (λ (vs : List ℕ). read_of I.form vs (I.reads.args m)) e

  reads_are : (ws : List ℕ) (os : List Owed) (rs : List (ReaderMade I))
      → ((cs : List (ReaderCall I.form)) → ReadsAsOwed I.form ws os cs)
      → made.ReadsAsOwed I ws os rs
  unfolding ReadsAsOwed made.ReadsAsOwed
  reads_are ws os [] h = h []
  reads_are ws os (refused_made m ∷ rs) h =
      λ e n. on_bool (I.reads.asked m)
      (λ a. let k = read_by ws m e a in
      subst (λ (z : ReadResult I.form). made.ReadsAsOwed I z.state os rs) (sym k)
      (reads_are (read_of I.form ws (I.reads.args m)).state os rs
      (λ cs. h (refused_read (I.reads.args m) ∷ cs) (subst (λ (z : ReadResult I.form). 0 < z.answer.refusal) k n))))
      (λ a. subst (λ (vs : List ℕ). made.ReadsAsOwed I vs os rs)
      (sym (ap (λ (z : ReadResult I.form). z.state) (I.reads.refuses m a) ∙ e)) (reads_are ws os rs h))
  reads_are ws [] (packet_made m ∷ rs) h = tt
  reads_are ws (o ∷ os) (packet_made m ∷ rs) h =
      λ e a p. let k = read_by ws m e a in let g = h (packet_read (I.reads.args m) ∷ []) p in (
        subst (GivesEntry I.form o (I.reads.args m)) (sym k) g.0,
        (λ more n f b c. subst (GivesEntry I.form o (I.reads.args m)) (sym (read_by ws n f b ∙ ap (read_of I.form ws) c))
            (g.1 more)),
        subst (λ (z : ReadResult I.form). made.ReadsAsOwed I z.state os rs) (sym k)
            (reads_are (read_of I.form ws (I.reads.args m)).state os rs (λ cs. (h (packet_read (I.reads.args m) ∷ cs) p).2)),
      )

  -- ---- starts

  module _ (role : ℕ) where
    -- an accepted start is the definition's
    start-by : (m : (I.starts role).Made) → Accepted I role m → (I.starts role).left m
        ≡ start role ((I.starts role).args m).count ((I.starts role).args m).bands ((I.starts role).args m).style
        ((I.starts role).args m).planes ((I.starts role).found m)
    start-by m e =
        on_bool ((I.starts role).asked m) (λ a. (I.starts role).meets m a)
        (λ a. let z : (I.starts role).otherwise m ≡ 0 =
        sym (ap (λ (x : StartResult). x.answer) ((I.starts role).refuses m a)) ∙ e in
        absurd (let n = ((I.starts role).numbered m).0 in omega arith))

  module _ (w : (I.starts writer).Made) (r : (I.starts reader).Made) (ew : Accepted I writer w) (er : Accepted I reader r)
      (counts : ((I.starts reader).args r).count ≡ ((I.starts writer).args w).count)
      (bands : take ((I.starts reader).args r).count ((I.starts reader).args r).bands
      ≡ take ((I.starts writer).args w).count ((I.starts writer).args w).bands)
      (styles : ((I.starts reader).args r).style ≡ ((I.starts writer).args w).style) where
    abbrev n : ℕ
    n = ((I.starts writer).args w).count

    abbrev given : List Band
    given = ((I.starts writer).args w).bands

    abbrev style : ℕ
    style = ((I.starts writer).args w).style

    writer-is : (I.starts writer).left w ≡ start writer n given style ((I.starts writer).args w).planes ((I.starts writer).found w)
    writer-is = start-by writer w ew

    writer-accepts : (start writer n given style ((I.starts writer).args w).planes ((I.starts writer).found w)).answer ≡ 0
    writer-accepts = sym (ap (λ (z : StartResult). z.answer) writer-is) ∙ ew

    -- the reader's start is one with the writer's bands and no planes
    reader-is : (I.starts reader).left r ≡ start reader n given style [] ((I.starts reader).found r)
    reader-is =
        let c : StartCall = (I.starts reader).args r in
        let lent : List ℕ = (I.starts reader).found r in
        let k = start-by reader r er in
        let A = start-accepted reader c.count c.bands c.style c.planes lent
        (sym (ap (λ (z : StartResult). z.answer) k) ∙ er) in
        let B = start-accepted writer n given style ((I.starts writer).args w).planes ((I.starts writer).found w) writer-accepts in
        k
        ∙ ap (λ (z : List ℕ). start reader c.count c.bands c.style z lent)
        (reader-without_planes c.planes _ A.planes_length)
        ∙ (λ i. start reader (counts i) c.bands (styles i) [] lent)
        ∙ same_start reader n c.bands given style [] lent (ap (λ (z : ℕ). take z c.bands) (sym counts) ∙ bands)
        (subst (λ (z : ℕ). z ≤ length c.bands) counts A.enough) B.enough

    -- of the definitions' calls
    pub calls-read : (cs : List WriterCall) → T (all_terminated_as_style style ((I.starts writer).left w).state (book_of I w) cs)
        → (rs : List (ReaderMade I))
        → made.ReadsAsOwed I ((I.starts reader).left r).state (owed style ((I.starts writer).left w).state (book_of I w) cs) rs
    calls-read cs t rs =
        let planes : List ℕ = ((I.starts writer).args w).planes in
        let first : List ℕ = (start writer n given style planes ((I.starts writer).found w)).state in
        let same : ((I.starts writer).left w).state ≡ first = ap (λ (z : StartResult). z.state) writer-is in
        subst (λ (z : StartResult). made.ReadsAsOwed I z.state (owed style ((I.starts writer).left w).state (book_of I w) cs) rs)
        (sym reader-is)
        (subst (λ (z : List ℕ). made.ReadsAsOwed I (start reader n given style [] ((I.starts reader).found r)).state
        (owed style z (book_of I w) cs) rs) (sym same)
        (reads_are (start reader n given style [] ((I.starts reader).found r)).state (owed style first (book_of I w) cs) rs
        (λ rcs. all_packets_read I.form n given style planes ((I.starts writer).found w) ((I.starts reader).found r) writer-accepts
        (sym (ap (λ (z : StartResult). z.answer) reader-is) ∙ er) cs
        (subst (λ (z : List ℕ). T (all_terminated_as_style style z (book_of I w) cs)) same t) rcs)))

    trip : (ws : List (WriterMade I)) → Follows I ((I.starts writer).left w).state ws
        → T (made.all_terminated_as_style I style (book_of I w) ws) → (rs : List (ReaderMade I))
        → made.ReadsAsOwed I ((I.starts reader).left r).state (made.owed I style (book_of I w) ws) rs
    trip ws f t rs =
        let first : List ℕ = ((I.starts writer).left w).state in
        subst (λ (os : List Owed). made.ReadsAsOwed I ((I.starts reader).left r).state os rs)
        (sym (owed_is style first (book_of I w) ws f))
        (calls-read (calls_of ws) (subst T (terminated_is style first (book_of I w) ws f) t) rs)

-- DEMAND 3
pub round_trip : (I : Interface) → RoundTrip I
unfolding RoundTrip
round_trip I w r ew er counts bands styles ws f t rs = trip I w r ew er counts bands styles ws f t rs

pub calls-stay_in_range : (I : Interface) (w : (I.starts writer).Made) → Accepted I writer w → (cs : List WriterCall)
    → valid_state writer (state_after ((I.starts writer).left w).state cs) (length ((I.starts writer).found w)) ≡ true
calls-stay_in_range I w e cs =
    let c : StartCall = (I.starts writer).args w in
    let lent : List ℕ = (I.starts writer).found w in
    let k = start-by I writer w e in
    subst (λ (z : StartResult). valid_state writer (state_after z.state cs) (length lent) ≡ true) (sym k)
    (calls-in_range c.count c.bands c.style c.planes lent (sym (ap (λ (z : StartResult). z.answer) k) ∙ e) cs)

pub writer-in_range : (I : Interface) → WriterInRange I
unfolding WriterInRange
writer-in_range I w e ws f =
    subst (λ (vs : List ℕ). valid_state writer vs (length ((I.starts writer).found w)) ≡ true)
    (sym (after_is I ((I.starts writer).left w).state ws f)) (calls-stay_in_range I w e (calls_of I ws))
