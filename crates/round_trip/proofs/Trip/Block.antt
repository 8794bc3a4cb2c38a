-- One block of a packet header is read as it was written: its report and records are the book's, and the two states are in step again.
use mathlib.Core.Path.{◌≡◌, refl, sym, ap, ap₂, ◌∙◌, subst}
use mathlib.Core.Logic.{◌≢◌}
use mathlib.Core.Bool.{Bool, true, false, cond}
use mathlib.Core.List.{List, [], ◌∷◌, ◌++◌, append-nil, reverse}
use Prim.Native.Nat.{ℕ, ◌+◌, ◌-◌, ◌%◌, ◌≤◌, ◌<◌}
use native.Mathlib.Nat.{le_of_eq}
use native.Mathlib.Omega.{arith}
use lib.ListN.{length, get_or, set}
use lib.Dec.{T, ltb}
use borrow.Author.Tests.{eq-eqb, ne_eqb, lt-ltb, le-ltb}
use Rattle.t800.specs.declared.Bio.{Bio}
use Rattle.t800.specs.TagTree.{Coded, value, code_path, read_path}
use Rattle.t800.specs.PassCount.{pass_bits, read_passes}
use Rattle.t800.specs.Segments.{Segment, segments_of, increment, comma_bits, length_fields, read_comma}
use Rattle.t800.specs.declared.SegmentRecord.{SegmentRecord}
use Rattle.t800.specs.Reports.{BlockReport, absent, body_bytes}
use Rattle.t800.specs.State.{Block, not_yet_included, not_yet_planes, passes_so_far}
use Rattle.t800.specs.WriteHeader.{is_new, length_bits_before, code_inclusion, code_zero_planes, code_passes, code_block}
use Rattle.t800.specs.ReadHeader.{HeaderRead, read_segments, read_zero_planes_from, read_zero_planes, first_report, again_report}
use Rattle.t800.specs.ReadHeader.{read_included, read_new_block, read_old_block, read_block}
use Rattle.t800.specs.Book.{BlockEntry, report_of, records_of, terminated_at}
use Rattle.t800_laws.proofs.Laws.Tests.{on-eq, on-lt, if-lt, if-ge, if-true, if-false, if-eq, if-ne}
use Rattle.t800_laws.proofs.Laws.Layout.{inclusion, zero_planes, leaf_of, Layout, Placed, leaf_node}
use Rattle.round_trip.proofs.Trip.Bits.{next_bit, Reads, reads_split}
use Rattle.round_trip.proofs.Trip.Codes.{decoded, passes_read_lem, comma_read, LengthsFit, lengths_fit}
use Rattle.round_trip.proofs.Trip.Trees.{NodesChanged, coding_keeps, path_read_lem, planes_read}
use Rattle.round_trip.proofs.Trip.Limits.{limit_after, passes_after}
use Rattle.round_trip.proofs.Trip.Segments.{read_so_far, segments_in, too_wide, SegmentNow, segments_are_records, no_records}
use Rattle.round_trip.proofs.Trip.Segments.{segments_read}
use Rattle.round_trip.proofs.Trip.Changes.{SameBlock, block_stays, first_stays, inclusion_keeps, planes_keep, stored-passes}
use Rattle.round_trip.proofs.Trip.Changes.{stored-bits, stored-others, stored-length}
use Rattle.round_trip.proofs.Trip.WriterState.{Codable, same_codable, same_bits_before}
use Rattle.round_trip.proofs.Trip.InStep.{InStep, path_in_step, block_in_step}
use Rattle.round_trip.proofs.Trip.Booked.{PlanesBooked, same_planes}

-- what a block must meet before it is coded in layer t with c passes, of these lengths and marks
pub record Ready (s t : ℕ) (ws : List ℕ) (k : Block) (e : BlockEntry) (c : ℕ) (ls ms : List ℕ) : Type 0 where
  pub passes : passes_so_far ws k.at ≡ e.passes
  pub planes : PlanesBooked ws k e.band_planes e.planes
  pub layer-set : e.passes ≡ 0 → ltb (value ws (leaf_of inclusion k)) (t + 1) ≡ ltb 0 c
  pub terminated : T (terminated_at s e.passes ms)
  pub codable : Codable t ws k c ls ms

pub same_ready : (s t : ℕ) (ws vs : List ℕ) (k : Block) (e : BlockEntry) (c : ℕ) (ls ms : List ℕ) → SameBlock ws vs k.at
    → value vs (leaf_of zero_planes k) ≡ value ws (leaf_of zero_planes k)
    → value vs (leaf_of inclusion k) ≡ value ws (leaf_of inclusion k) → Ready s t ws k e c ls ms → Ready s t vs k e c ls ms
same_ready s t ws vs k e c ls ms b z i y =
    record {
      passes = b.0 ∙ y.passes;
      planes = same_planes ws vs k e.band_planes e.planes z y.planes;
      layer-set = λ h. ap (λ (x : ℕ). ltb x (t + 1)) i ∙ y.layer-set h;
      terminated = y.terminated;
      codable = same_codable t ws vs k c ls ms b y.codable;
    }

new_true : (ws : List ℕ) (k : Block) → passes_so_far ws k.at ≡ 0 → is_new ws k ≡ true
unfolding is_new
new_true ws k h = eq-eqb (passes_so_far ws k.at) 0 h

new_false : (ws : List ℕ) (k : Block) → passes_so_far ws k.at ≢ 0 → is_new ws k ≡ false
unfolding is_new
new_false ws k h = ne_eqb (passes_so_far ws k.at) 0 h

no_change : (L : Layout) (rs : List ℕ) → NodesChanged L rs rs
no_change L rs = record { long = refl; off = λ i f. refl }

-- ---- zero planes, where the block is new

module _ (L : Layout) (s : ℕ) (k : Block) (P : Placed L k) (src : List ℕ) where
  record PlanesStep (ws rs : List ℕ) (b e : Bio) (reps : List BlockReport) (recs : List SegmentRecord) : Type 0 where
    words : List ℕ
    is : read_zero_planes src k (read_so_far rs b reps recs) ≡ record { words = words; bio = e }
    in_step : InStep L s (code_zero_planes k ws).words words
    changed : NodesChanged L rs words
    zeros : passes_so_far ws k.at ≡ 0 → value words (leaf_of zero_planes k) ≡ value ws (leaf_of zero_planes k)

  planes_step_lem : (ws rs : List ℕ) (b e : Bio) (reps : List BlockReport) (recs : List SegmentRecord)
      → value ws (leaf_of zero_planes k) < not_yet_planes → InStep L s ws rs
      → Reads src b (code_zero_planes k ws).bits e → PlanesStep ws rs b e reps recs
  unfolding read_zero_planes code_zero_planes
  planes_step_lem ws rs b e reps recs small y r =
      let same : passes_so_far rs k.at ≡ passes_so_far ws k.at = (y.blocks k.at P.block).passes in
      let tree : Coded = code_path k.zero_tree not_yet_planes (reverse k.path) 0 ws in
      let none : Coded = record { bits = []; words = ws } in
      on-eq (passes_so_far ws k.at) 0
      (λ z. let wn = new_true ws k z in
      let rn = new_true rs k (same ∙ z) in
      let r₁ : Reads src b tree.bits e = rw wn at r in
      let q = planes_read L k P ws rs y.writer-length y.reader-length y.sync y.order src b e small r₁ in
      let us : List ℕ = (read_zero_planes_from src k (not_yet_planes + 2) 0 rs b).words in
      record {
        words = us;
        is = rw rn (ap (λ (h : Bio). record { words = us; bio = h }) q.0);
        in_step = subst (λ (w : Bool). InStep L s (cond w tree none).words us) (sym wn)
            (path_in_step L s ws rs tree.words us y (coding_keeps L zero_planes k P not_yet_planes ws y.writer-length) q.2
            q.1);
        changed = q.2;
        zeros = λ _. q.3;
      })
      (λ z. let wn = new_false ws k z in
      let rn = new_false rs k (λ h. z (sym same ∙ h)) in
      let r₁ : Reads src b [] e = rw wn at r in
      record {
        words = rs;
        is = rw rn (ap (λ (h : Bio). record { words = rs; bio = h }) r₁.1);
        in_step = subst (λ (w : Bool). InStep L s (cond w tree none).words rs) (sym wn) y;
        changed = no_change L rs;
        zeros = λ h. absurd (z h);
      })

-- ---- pass count, length bits, segments

passes_in_step : (L : Layout) (s : ℕ) (ws rs us : List ℕ) (at n l : ℕ) → L.BlockAt at → InStep L s ws rs
    → SegmentNow (set (set rs at n) (at + 1) l) us s at n → InStep L s (set (set ws at n) (at + 1) l) us
passes_in_step L s ws rs us at n l b y g =
    let ia = (L.block_in at b).1 in
    let wi : at + 4 ≤ length ws = omega (arith, y.writer-length) in
    let ri : at + 4 ≤ length rs = omega (arith, y.reader-length) in
    let v0 = stored-passes ws at n l wi in
    block_in_step L s ws rs (set (set ws at n) (at + 1) l) us at b y (λ i a a₁ d e. stored-others ws at n l wi i a a₁)
    (λ i a a₁ d e. g.others i d e ∙ stored-others rs at n l ri i a a₁)
    (stored-length ws at n l wi) (g.long ∙ stored-length rs at n l ri)
    (record {
      passes = g.others at (omega arith) (omega arith) ∙ stored-passes rs at n l ri ∙ sym v0;
      bits = g.others (at + 1) (omega arith) (omega arith) ∙ stored-bits rs at n l ri ∙ sym (stored-bits ws at n l wi);
      limit = g.limit ∙ ap (limit_after s) (sym v0);
      used = g.used ∙ ap (passes_after s) (sym v0);
    })

-- block planes by a subtraction that wraps
planes_back : (b p : ℕ) → p ≤ b → b < not_yet_planes → (b + 4294967296 - (b - p)) % 4294967296 ≡ p
planes_back b p h g = omega arith

-- the block's bytes begin behind `before` others
module _ (L : Layout) (s t : ℕ) (k : Block) (P : Placed L k) (src : List ℕ) (room i before : ℕ) (e : BlockEntry) (c : ℕ)
    (ls ms : List ℕ) where
  pub record BlockRead (rs vs : List ℕ) (out : HeaderRead) (end : Bio) (reps : List BlockReport) (recs : List SegmentRecord) : Type 0 where
    pub words : List ℕ
    pub is : out ≡ read_so_far words end (reps ++ report_of e c ∷ []) (recs ++ records_of s i before e.passes ls)
    pub in_step : InStep L s vs words
    pub first : (j : ℕ) → j < 13 → get_or words j 0 ≡ get_or rs j 0

  abbrev segments : List Segment
  segments = segments_of ls ms

  included_is : (rs us : List ℕ) (b b₂ b₃ b₄ : Bio) (reps : List BlockReport) (recs : List SegmentRecord) (inc : ℕ)
      → read_zero_planes src k (read_so_far rs b reps recs) ≡ record { words = us; bio = b₂ }
      → read_passes src b₂ ≡ decoded c b₃ → read_comma src b₃ ≡ decoded inc b₄
      → read_included src room i k (read_so_far rs b reps recs)
      ≡ read_segments src room i k c c
      (read_so_far (set (set us k.at (passes_so_far rs k.at + c)) (k.at + 1) (length_bits_before rs k + inc)) b₄
      (reps ++ cond (is_new rs k) (first_report k (value us (leaf_of zero_planes k)) c) (again_report c) ∷ []) recs)
  unfolding read_included
  included_is rs us b b₂ b₃ b₄ reps recs inc e₁ e₂ e₃ = rw (e₁, e₂, e₃)

  report_is : (ws rs : List ℕ) (z : ℕ) → Ready s t ws k e c ls ms → passes_so_far rs k.at ≡ passes_so_far ws k.at → 0 < c
      → (passes_so_far ws k.at ≡ 0 → z ≡ value ws (leaf_of zero_planes k))
      → cond (is_new rs k) (first_report k z c) (again_report c) ≡ report_of e c
  unfolding first_report again_report report_of
  report_is ws rs z y same c0 zz =
      on-eq (passes_so_far ws k.at) 0
      (λ h. let d = y.planes in
      let e₁ : z ≡ e.band_planes - e.planes = zz h ∙ d.zeros in
      let w : (k.planes + 4294967296 - z) % 4294967296
      ≡ e.planes = rw (e₁, d.band_is) (planes_back e.band_planes e.planes d.within d.not_too_deep) in
      if-true (is_new rs k) _ _ (new_true rs k (same ∙ h))
      ∙ (λ q. record { inclusion = 1; zero_planes = e₁ q; planes = w q; passes = c })
      ∙ sym (if-ne c 0 _ _ (omega arith) ∙ if-eq e.passes 0 _ _ (sym y.passes ∙ h)))
      (λ h. if-false (is_new rs k) _ _ (new_false rs k (λ q. h (sym same ∙ q)))
      ∙ sym (if-ne c 0 _ _ (omega arith) ∙ if-ne e.passes 0 _ _ (λ q. h (y.passes ∙ q))))

  -- a block that is included, after its inclusion
  included_read : (ws rs : List ℕ) (b b₂ end : Bio) (reps : List BlockReport) (recs : List SegmentRecord) → InStep L s ws rs
      → Ready s t ws k e c ls ms → 0 < c
      → Reads src b (code_zero_planes k ws).bits b₂ → Reads src b₂ (code_passes k c segments (code_zero_planes k ws).words).bits end
      → before ≡ body_bytes recs → length recs + length (records_of s i before e.passes ls) ≤ room
      → BlockRead rs (code_passes k c segments (code_zero_planes k ws).words).words
      (read_included src room i k (read_so_far rs b reps recs)) end reps recs
  unfolding code_passes
  included_read ws rs b b₂ end reps recs y d c0 r₁ r₂ begins enough =
      let at : ℕ = k.at in
      let B : L.BlockAt at = P.block in
      let D = d.codable in
      let ws₂ : List ℕ = (code_zero_planes k ws).words in
      let p : ℕ = e.passes in
      let z = planes_step_lem L s k P src ws rs b b₂ reps recs (rw d.planes.zeros (omega (arith, d.planes.not_too_deep))) y r₁ in
      let us : List ℕ = z.words in
      let y₂ = z.in_step in
      let same₂ : SameBlock ws ws₂ at = block_stays L ws ws₂ (planes_keep L k P ws y.writer-length).off at B in
      let w0 : passes_so_far ws₂ at ≡ p = same₂.0 ∙ d.passes in
      let lb : ℕ = length_bits_before ws k in
      let lbw : length_bits_before ws₂ k ≡ lb = same_bits_before ws ws₂ k same₂.0 same₂.1 in
      let bs = y.blocks at B in
      let lbr : length_bits_before rs k ≡ lb = same_bits_before ws rs k bs.passes bs.bits in
      let r0 : passes_so_far rs at ≡ p = bs.passes ∙ d.passes in
      let inc : ℕ = increment lb segments in
      let r₃ : Reads src b₂ (pass_bits c ++ comma_bits inc ++ length_fields (lb + inc) segments) end
      = subst (λ (x : ℕ). Reads src b₂
      (pass_bits c ++ comma_bits (increment x segments) ++ length_fields (x + increment x segments) segments) end) lbw r₂ in
      let q₁ = reads_split src b₂ end (pass_bits c ++ comma_bits inc) (length_fields (lb + inc) segments) r₃ in
      let q₂ = reads_split src b₂ q₁.0 (pass_bits c) (comma_bits inc) q₁.1 in
      let as_book : segments
      ≡ segments_in (records_of s i before p ls) = segments_are_records s i before p ls ms (D.lengths ∙ sym D.marks) d.terminated in
      let l : ℕ = lb + inc in
      let us₃ : List ℕ = set (set us at (p + c)) (at + 1) l in
      let A : BlockReport = cond (is_new rs k) (first_report k (value us (leaf_of zero_planes k)) c) (again_report c) in
      let ia = L.block_in at B in
      let ui : at + 4 ≤ length us = omega (arith, y₂.reader-length, ia.1) in
      let bs₂ = y₂.blocks at B in
      let g = segments_read src room i k s l end (reps ++ report_of e c ∷ []) ia.0 c ls before p us₃ q₁.0 recs (le_of_eq D.lengths)
      (record {
        start_is = begins;
        some = rw D.lengths c0;
        inside = rw (stored-length us at (p + c) l ui) ui;
        style-is = stored-others us at (p + c) l ui 2 (omega (arith, ia.0)) (omega (arith, ia.0)) ∙ y₂.style-is;
        bits = stored-bits us at (p + c) l ui;
        limit = stored-others us at (p + c) l ui (at + 2) (omega arith) (omega arith) ∙ bs₂.limit ∙ ap (limit_after s) w0;
        used = stored-others us at (p + c) l ui (at + 3) (omega arith) (omega arith) ∙ bs₂.used ∙ ap (passes_after s) w0;
        fits = subst (LengthsFit l) as_book (lengths_fit lb segments);
        widths = subst (λ (x : List Segment). too_wide l x ≡ false) as_book D.fits;
        room_enough = enough;
        ahead = subst (λ (x : List Segment). Reads src q₁.0 (length_fields l x) end) as_book q₁.2;
      }) in
      let is₁ = included_is rs us b b₂ q₂.0 q₁.0 reps recs inc z.is (passes_read_lem src b₂ q₂.0 c c0 D.few q₂.1)
      (comma_read src inc q₂.0 q₁.0 q₂.2) in
      let is₂ : read_segments src room i k c c
      (read_so_far (set (set us at (passes_so_far rs at + c)) (at + 1) (length_bits_before rs k + inc)) q₁.0 (reps ++ A ∷ []) recs)
      ≡ read_segments src room i k c (length ls) (read_so_far us₃ q₁.0 (reps ++ report_of e c ∷ []) recs)
      = rw (r0, lbr, report_is ws rs (value us (leaf_of zero_planes k)) d bs.passes c0 z.zeros, D.lengths) in
      let after : InStep L s (set (set ws₂ at (p + c)) (at + 1) l) g.words =
      passes_in_step L s ws₂ us g.words at (p + c) l B y₂
      (subst (SegmentNow us₃ g.words s at) (ap (λ (x : ℕ). p + x) D.lengths) g.segment-now) in
      let vs_is : set (set ws₂ at (p + c)) (at + 1) l
      ≡ set (set ws₂ at (passes_so_far ws₂ at + c)) (at + 1) (length_bits_before ws₂ k + increment (length_bits_before ws₂ k) segments) =
      rw (lbw, w0) in
      subst (λ (v : List ℕ). BlockRead rs v (read_included src room i k (read_so_far rs b reps recs)) end reps recs) vs_is
      (record {
        words = g.words;
        is = is₁ ∙ is₂ ∙ g.reads;
        in_step = after;
        first = λ j h. g.segment-now.others j (omega (arith, ia.0)) (omega (arith, ia.0))
            ∙ stored-others us at (p + c) l ui j (omega (arith, ia.0)) (omega (arith, ia.0))
            ∙ first_stays L rs us z.changed.off j h;
      })

  -- ---- inclusion

  record InclusionRead (ws rs vs : List ℕ) (b end : Bio) (reps : List BlockReport) (recs : List SegmentRecord) : Type 0 where
    words : List ℕ
    in_step : InStep L s vs words
    changed : NodesChanged L rs words
    if_absent : c ≡ 0 → read_block src room t i k (read_so_far rs b reps recs) ≡ read_so_far words end (reps ++ absent ∷ []) recs
    if_included : 0 < c → read_block src room t i k (read_so_far rs b reps recs) ≡ read_included src room i k (read_so_far words end reps recs)

  new_block : (rs : List ℕ) (b : Bio) (reps : List BlockReport) (recs : List SegmentRecord) → is_new rs k ≡ true
      → read_block src room t i k (read_so_far rs b reps recs) ≡ read_new_block src room t i k (read_so_far rs b reps recs)
  unfolding read_block
  new_block rs b reps recs h = if-true (is_new rs k) _ _ h

  old_block : (rs : List ℕ) (b : Bio) (reps : List BlockReport) (recs : List SegmentRecord) → is_new rs k ≡ false
      → read_block src room t i k (read_so_far rs b reps recs) ≡ read_old_block src room i k (read_so_far rs b reps recs)
  unfolding read_block
  old_block rs b reps recs h = if-false (is_new rs k) _ _ h

  new_read : (ws rs : List ℕ) (b end : Bio) (reps : List BlockReport) (recs : List SegmentRecord) → t < not_yet_included
      → InStep L s ws rs → Ready s t ws k e c ls ms → passes_so_far ws k.at ≡ 0
      → Reads src b (code_path k.incl_tree (t + 1) (reverse k.path) 0 ws).bits end
      → InclusionRead ws rs (code_path k.incl_tree (t + 1) (reverse k.path) 0 ws).words b end reps recs
  unfolding read_new_block
  new_read ws rs b end reps recs ht y d z r =
      let q = path_read_lem L inclusion k P ws rs y.writer-length y.reader-length y.sync y.order src (t + 1) b end
      (omega arith) r in
      let us : List ℕ = (read_path src k.incl_tree (t + 1) (reverse k.path) 0 rs b).words in
      let side : ltb (value us (leaf_of inclusion k)) (t + 1) ≡ ltb 0 c = q.3 ∙ d.layer-set (sym d.passes ∙ z) in
      let nb = new_block rs b reps recs (new_true rs k ((y.blocks k.at P.block).passes ∙ z)) in
      record {
        words = us;
        in_step = path_in_step L s ws rs _ us y (coding_keeps L inclusion k P (t + 1) ws y.writer-length) q.2 q.1;
        changed = q.2;
        if_absent = λ h. nb ∙ if-false (ltb (value us (leaf_of inclusion k)) (t + 1)) _ _ (side ∙ le-ltb 0 c (le_of_eq h))
            ∙ ap (λ (x : Bio). read_so_far us x (reps ++ absent ∷ []) recs) q.0;
        if_included = λ h. nb ∙ if-true (ltb (value us (leaf_of inclusion k)) (t + 1)) _ _ (side ∙ lt-ltb 0 c h)
            ∙ ap (λ (x : Bio). read_included src room i k (read_so_far us x reps recs)) q.0;
      }

  old_read : (ws rs : List ℕ) (b end : Bio) (reps : List BlockReport) (recs : List SegmentRecord) → InStep L s ws rs
      → passes_so_far ws k.at ≢ 0
      → Reads src b (cond (ltb 0 c) 1 0 ∷ []) end → InclusionRead ws rs ws b end reps recs
  unfolding read_old_block
  old_read ws rs b end reps recs y z r =
      let ob = old_block rs b reps recs (new_false rs k (λ h. z (sym (y.blocks k.at P.block).passes ∙ h))) in
      record {
        words = rs;
        in_step = y;
        changed = no_change L rs;
        if_absent = λ h. ob ∙ if-eq (next_bit src b) 0 _ _ (r.1 ∙ if-ge 0 c _ _ (le_of_eq h))
            ∙ ap (λ (x : Bio). read_so_far rs x (reps ++ absent ∷ []) recs) r.2.1;
        if_included = λ h. ob ∙ if-ne (next_bit src b) 0 _ _ (omega (arith, r.1 ∙ if-lt 0 c 1 0 h))
            ∙ ap (λ (x : Bio). read_included src room i k (read_so_far rs x reps recs)) r.2.1;
      }

  inclusion_read : (ws rs : List ℕ) (b end : Bio) (reps : List BlockReport) (recs : List SegmentRecord) → t < not_yet_included
      → InStep L s ws rs → Ready s t ws k e c ls ms
      → Reads src b (code_inclusion t k c ws).bits end → InclusionRead ws rs (code_inclusion t k c ws).words b end reps recs
  unfolding code_inclusion
  inclusion_read ws rs b end reps recs ht y d =
      let one : Coded = record { bits = cond (ltb 0 c) 1 0 ∷ []; words = ws } in
      let tree : Coded = code_path k.incl_tree (t + 1) (reverse k.path) 0 ws in
      let goal : Bool → Type 0 = λ w. Reads src b (cond w tree one).bits end
      → InclusionRead ws rs (cond w tree one).words b end reps recs in
      on-eq (passes_so_far ws k.at) 0
      (λ z. subst goal (sym (new_true ws k z)) (λ r. new_read ws rs b end reps recs ht y d z r))
      (λ z. subst goal (sym (new_false ws k z)) (λ r. old_read ws rs b end reps recs y z r))

  -- ---- the block

  absent-is : c ≡ 0 → absent ≡ report_of e c
  unfolding report_of
  absent-is h = sym (if-eq c 0 _ _ h)

  coded-absent : (ws : List ℕ) → c ≡ 0 → code_block t k c segments ws ≡ code_inclusion t k c ws
  unfolding code_block
  coded-absent ws h = if-eq c 0 _ _ h

  abbrev planes_of : List ℕ → Coded
  planes_of ws = code_zero_planes k (code_inclusion t k c ws).words

  coded-included : (ws : List ℕ) → 0 < c → code_block t k c segments ws
      ≡ record {
        bits = (code_inclusion t k c ws).bits ++ (planes_of ws).bits ++ (code_passes k c segments (planes_of ws).words).bits;
        words = (code_passes k c segments (planes_of ws).words).words;
      }
  unfolding code_block
  coded-included ws h = if-ne c 0 _ _ (omega arith)

  pub block_read : (ws rs : List ℕ) (b end : Bio) (reps : List BlockReport) (recs : List SegmentRecord) → t < not_yet_included
      → InStep L s ws rs → Ready s t ws k e c ls ms
      → Reads src b (code_block t k c segments ws).bits end
      → before ≡ body_bytes recs → length recs + length (records_of s i before e.passes ls) ≤ room
      → BlockRead rs (code_block t k c segments ws).words (read_block src room t i k (read_so_far rs b reps recs)) end reps recs
  block_read ws rs b end reps recs ht y d r begins enough =
      let ws₁ : List ℕ = (code_inclusion t k c ws).words in
      let keeps = inclusion_keeps L k P t c ws y.writer-length in
      on-lt 0 c
      (λ h. let coded = coded-included ws h in
      let i₁ : List ℕ = (code_inclusion t k c ws).bits in
      let p₁ : Coded = code_passes k c segments (planes_of ws).words in
      let r₁ : Reads src b (i₁ ++ (planes_of ws).bits ++ p₁.bits) end = subst (λ (x : Coded). Reads src b x.bits end) coded r in
      let q₁ = reads_split src b end (i₁ ++ (planes_of ws).bits) p₁.bits r₁ in
      let q₂ = reads_split src b q₁.0 i₁ (planes_of ws).bits q₁.1 in
      let n = inclusion_read ws rs b q₂.0 reps recs ht y d q₂.1 in
      let d₁ = same_ready s t ws ws₁ k e c ls ms (block_stays L ws ws₁ keeps.off k.at P.block)
      (keeps.values zero_planes (leaf_of zero_planes k) (leaf_node L zero_planes k P))
      (keeps.values inclusion (leaf_of inclusion k) (leaf_node L inclusion k P)) d in
      let f = included_read ws₁ n.words q₂.0 q₁.0 end reps recs n.in_step d₁ h q₂.2 q₁.2 begins enough in
      subst (λ (x : Coded). BlockRead rs x.words (read_block src room t i k (read_so_far rs b reps recs)) end reps recs) (sym coded)
      (record {
        words = f.words;
        is = n.if_included h ∙ f.is;
        in_step = f.in_step;
        first = λ j g. f.first j g
            ∙ first_stays L rs n.words n.changed.off j g;
      }))
      (λ h. let c0 : c ≡ 0 = omega arith in
      let coded = coded-absent ws c0 in
      let n = inclusion_read ws rs b end reps recs ht y d (subst (λ (x : Coded). Reads src b x.bits end) coded r) in
      let none : records_of s i before e.passes ls ≡ [] = no_records s i before e.passes ls (d.codable.lengths ∙ c0) in
      subst (λ (x : Coded). BlockRead rs x.words (read_block src room t i k (read_so_far rs b reps recs)) end reps recs) (sym coded)
      (record {
        words = n.words;
        is = n.if_absent c0
            ∙ ap₂ (λ (x : BlockReport) (l : List SegmentRecord). read_so_far n.words end (reps ++ x ∷ []) l) (absent-is c0)
            (sym (append-nil recs) ∙ ap (λ (l : List SegmentRecord). recs ++ l) (sym none));
        in_step = n.in_step;
        first = first_stays L rs n.words n.changed.off;
      }))
