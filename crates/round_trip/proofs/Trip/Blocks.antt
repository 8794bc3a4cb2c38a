-- All blocks of a packet header are read as they were written.
use mathlib.Core.Path.{◌≡◌, refl, sym, ap₂, ◌∙◌}
use mathlib.Core.Bool.{Bool, false}
use mathlib.Core.List.{List, [], ◌∷◌, ◌++◌, append-nil, append_assoc}
use Prim.Native.Nat.{ℕ, ◌+◌, ◌*◌, ◌≤◌, ◌<◌}
use native.Mathlib.Omega.{arith}
use lib.ListN.{length, get_or, take, drop, length-append}
use lib.Dec.{T, ltb}
use lib.Ieee.Fits.{and_l, and_r}
use Rattle.t800.specs.declared.Bio.{Bio}
use Rattle.t800.specs.Base.{any, sum}
use Rattle.t800.specs.TagTree.{Coded}
use Rattle.t800.specs.Segments.{segments_of}
use Rattle.t800.specs.declared.SegmentRecord.{SegmentRecord}
use Rattle.t800.specs.Reports.{BlockReport, body_bytes}
use Rattle.t800.specs.State.{Block, not_yet_included, passes_so_far}
use Rattle.t800.specs.WriteHeader.{code_block, code_blocks, field_too_wide}
use Rattle.t800.specs.ReadHeader.{HeaderRead, read_block, read_blocks}
use Rattle.t800.specs.Book.{BlockEntry, Entry, report_of, records_of, entry_from, terminated_at, terminated_as_style}
use Rattle.t800_laws.proofs.Laws.Tests.{or_left, or_right}
use Rattle.t800_laws.proofs.Laws.Layout.{inclusion, zero_planes, leaf_of, Layout, SeparateFromAll, AllPlaced, leaf_node}
use Rattle.t800_laws.proofs.Laws.Starts.{bytes_append}
use Rattle.t800_laws.proofs.Laws.Book.{records_bytes}
use Rattle.round_trip.proofs.Trip.Bits.{Reads, reads_split}
use Rattle.round_trip.proofs.Trip.Segments.{read_so_far}
use Rattle.round_trip.proofs.Trip.Changes.{ValuesOnly, nodes-only, block_stays, BlockCoded, block_coded}
use Rattle.round_trip.proofs.Trip.SetLeaves.{Leaves, LayerSet}
use Rattle.round_trip.proofs.Trip.WriterState.{codable_part, later_fits}
use Rattle.round_trip.proofs.Trip.InStep.{InStep}
use Rattle.round_trip.proofs.Trip.Booked.{AllBooked, same_planes}
use Rattle.round_trip.proofs.Trip.Block.{Ready, same_ready, block_read}

abbrev pub AllReady : ℕ → ℕ → List ℕ → List Block → List BlockEntry → List ℕ → List ℕ → List ℕ → Type 0
AllReady s t ws [] [] cs ls ms = Unit {0}
AllReady s t ws [] (e ∷ es) cs ls ms = ⊥
AllReady s t ws (k ∷ ks) [] cs ls ms = ⊥
AllReady s t ws (k ∷ ks) (e ∷ es) [] ls ms = ⊥
AllReady s t ws (k ∷ ks) (e ∷ es) (c ∷ cs) ls ms = Ready s t ws k e c (take c ls) (take c ms)
    × AllReady s t ws ks es cs (drop c ls) (drop c ms)

-- the new blocks of an acceptable layer were set, which made us of ws
pub all_ready : (L : Layout) (s t : ℕ) (ws us : List ℕ) (ks : List Block) (es : List BlockEntry) (cs ls ms : List ℕ)
    → t < not_yet_included → AllPlaced L ks → ValuesOnly L inclusion ws us
    → AllBooked ws ks es → Leaves inclusion (LayerSet t) ws us ks cs → ((p : ℕ) → L.BlockAt p → passes_so_far ws p ≤ 164 * t)
    → length cs ≡ length ks → length ls ≡ sum cs → length ms ≡ sum cs
    → any (λ (c : ℕ). ltb 164 c) cs ≡ false → field_too_wide ws ks cs ls ms ≡ false → T (terminated_as_style s es cs ms)
    → AllReady s t us ks es cs ls ms
unfolding sum any terminated_as_style
all_ready L s t ws us [] [] cs ls ms ht f o b n most lc ll lm few fits term = tt
all_ready L s t ws us [] (e ∷ es) cs ls ms ht f o b n most lc ll lm few fits term = b
all_ready L s t ws us (k ∷ ks) [] cs ls ms ht f o b n most lc ll lm few fits term = b
all_ready L s t ws us (k ∷ ks) (e ∷ es) [] ls ms ht f o b n most lc ll lm few fits term = absurd (omega arith)
all_ready L s t ws us (k ∷ ks) (e ∷ es) (c ∷ cs) ls ms ht f o b n most lc ll lm few fits term =
    let P = f.0.0 in
    let B : L.BlockAt k.at = P.block in
    let K = b.0 in
    let same = block_stays L ws us (nodes-only L inclusion ws us o) k.at B in
    let z = leaf_node L zero_planes k P in
    let p = codable_part t ws us k ks c cs ls ms same (most k.at B) ll lm
    (or_left (ltb 164 c) (any (λ (d : ℕ). ltb 164 d) cs) few) fits in
    let here : Bool = terminated_at s e.passes (take c ms) in
    let rest : Bool = terminated_as_style s es cs (drop c ms) in (
      record {
        passes = same.0 ∙ K.passes;
        planes = same_planes ws us k e.band_planes e.planes
            (o.off (leaf_of zero_planes k) (λ a m q. L.other_tree a (leaf_of zero_planes k) m z (sym q))) K.planes;
        layer-set = λ h. n.0.0 (K.passes ∙ h) (rw (K.new h) ht);
        terminated = and_l here rest term;
        codable = p.here;
      },
      all_ready L s t ws us ks es cs (drop c ls) (drop c ms) ht f.1 o b.1 n.1 most (omega arith) p.lengths p.marks
          (or_right (ltb 164 c) (any (λ (d : ℕ). ltb 164 d) cs) few)
          (later_fits ws k ks c cs ls ms fits) (and_r here rest term),
    )

still_ready : (L : Layout) (s t : ℕ) (ws vs : List ℕ) (k : Block) (c : ℕ) (ks : List Block) (es : List BlockEntry)
    (cs ls ms : List ℕ) → BlockCoded L ws vs k c → SeparateFromAll k ks → AllPlaced L ks
    → AllReady s t ws ks es cs ls ms → AllReady s t vs ks es cs ls ms
still_ready L s t ws vs k c [] [] cs ls ms b o f y = tt
still_ready L s t ws vs k c [] (e ∷ es) cs ls ms b o f y = y
still_ready L s t ws vs k c (j ∷ js) [] cs ls ms b o f y = y
still_ready L s t ws vs k c (j ∷ js) (e ∷ es) [] ls ms b o f y = y
still_ready L s t ws vs k c (j ∷ js) (e ∷ es) (d ∷ cs) ls ms b o f y =
    let P = f.0.0 in (
      same_ready s t ws vs j e d (take d ls) (take d ms) (b.others j.at P.block o.0.1.places)
          (b.values zero_planes (leaf_of zero_planes j) (leaf_node L zero_planes j P))
          (b.values inclusion (leaf_of inclusion j) (leaf_node L inclusion j P)) y.0,
      still_ready L s t ws vs k c js es cs (drop d ls) (drop d ms) b o.1 f.1 y.1,
    )

module _ (L : Layout) (s t : ℕ) (src : List ℕ) (room : ℕ) (end : Bio) where
  pub record BlocksRead (rs vs : List ℕ) (out : HeaderRead) (entry : Entry) (reps : List BlockReport)
      (recs : List SegmentRecord) : Type 0 where
    pub words : List ℕ
    pub is : out ≡ read_so_far words end (reps ++ entry.reports) (recs ++ entry.records)
    pub in_step : InStep L s vs words
    pub first : (j : ℕ) → j < 13 → get_or words j 0 ≡ get_or rs j 0

  first_read : (i : ℕ) (k : Block) (ks : List Block) (r : HeaderRead) (us : List ℕ) (b : Bio) (reps : List BlockReport)
      (recs : List SegmentRecord) → read_block src room t i k r ≡ read_so_far us b reps recs
      → read_blocks src room t i (k ∷ ks) r ≡ read_blocks src room t (i + 1) ks (read_so_far us b reps recs)
  unfolding read_blocks
  first_read i k ks r us b reps recs h = rw h

  pub blocks-read : (ks : List Block) (es : List BlockEntry) (cs ls ms : List ℕ) (i before : ℕ) (ws rs : List ℕ) (b : Bio)
      (reps : List BlockReport) (recs : List SegmentRecord) → t < not_yet_included → AllPlaced L ks
      → InStep L s ws rs → AllReady s t ws ks es cs ls ms → Reads src b (code_blocks t ks cs ls ms ws).bits end
      → before ≡ body_bytes recs → length recs + length (entry_from s i before es cs ls).records ≤ room
      → BlocksRead rs (code_blocks t ks cs ls ms ws).words (read_blocks src room t i ks (read_so_far rs b reps recs))
      (entry_from s i before es cs ls) reps recs
  unfolding code_blocks read_blocks entry_from
  blocks-read [] [] cs ls ms i before ws rs b reps recs ht f y d r begins enough =
      record {
        words = rs;
        is = (λ q. read_so_far rs (r.1 q) (sym (append-nil reps) q) (sym (append-nil recs) q));
        in_step = y;
        first = λ j h. refl;
      }
  blocks-read [] (e ∷ es) cs ls ms i before ws rs b reps recs ht f y d r begins enough = absurd d
  blocks-read (k ∷ ks) [] cs ls ms i before ws rs b reps recs ht f y d r begins enough = absurd d
  blocks-read (k ∷ ks) (e ∷ es) [] ls ms i before ws rs b reps recs ht f y d r begins enough = absurd d
  blocks-read (k ∷ ks) (e ∷ es) (c ∷ cs) ls ms i before ws rs b reps recs ht f y d r begins enough =
      let P = f.0.0 in
      let block : Coded = code_block t k c (segments_of (take c ls) (take c ms)) ws in
      let vs : List ℕ = block.words in
      let rest : Coded = code_blocks t ks cs (drop c ls) (drop c ms) vs in
      let E : Entry = entry_from s (i + 1) (before + sum (take c ls)) es cs (drop c ls) in
      let here : List SegmentRecord = records_of s i before e.passes (take c ls) in
      let q = reads_split src b end block.bits rest.bits r in
      let lenr : length (here ++ E.records) ≡ length here + length E.records = length-append here E.records in
      let x = block_read L s t k P src room i before e c (take c ls) (take c ms) ws rs b q.0 reps recs ht y d.0 q.1 begins
      (omega arith) in
      let reps₁ : List BlockReport = reps ++ report_of e c ∷ [] in
      let recs₁ : List SegmentRecord = recs ++ here in
      let enough₁ : length recs₁ + length E.records ≤ room = rw (length-append recs here) (omega arith) in
      let begins₁ : before + sum (take c ls) ≡ body_bytes recs₁ =
      ap₂ ◌+◌ begins (sym (records_bytes s i before e.passes (take c ls))) ∙ sym (bytes_append recs here) in
      let coded = block_coded L k P c t (segments_of (take c ls) (take c ms)) ws y.writer-length in
      let z = blocks-read ks es cs (drop c ls) (drop c ms) (i + 1) (before + sum (take c ls)) vs x.words q.0 reps₁ recs₁ ht f.1
      x.in_step
      (still_ready L s t ws vs k c ks es cs (drop c ls) (drop c ms) coded f.0.1 f.1 d.1) q.2 begins₁ enough₁ in
      record {
        words = z.words;
        is = first_read i k ks (read_so_far rs b reps recs) x.words q.0 reps₁ recs₁ x.is ∙ z.is
            ∙ ap₂ (λ (u : List BlockReport) (v : List SegmentRecord). read_so_far z.words end u v)
            (append_assoc reps (report_of e c ∷ []) E.reports) (append_assoc recs here E.records);
        in_step = z.in_step;
        first = λ j h. z.first j h ∙ x.first j h;
      }
