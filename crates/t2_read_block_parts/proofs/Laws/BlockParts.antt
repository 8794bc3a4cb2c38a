-- The parts of a block as the code reads them make what is read of it.
use mathlib.Core.Path.{◌≡◌, refl, sym, ap, ◌∙◌}
use mathlib.Core.Logic.{◌≢◌}
use mathlib.Core.Bool.{true, false, cond}
use mathlib.Core.List.{List, reverse}
use Prim.Native.Nat.{ℕ, zero, suc, ◌+◌, ◌-◌, ◌%◌, ◌^◌}
use lib.Dec.{eqb, ltb}
use lib.ListN.{get_or, set}
use Rattle.t800.specs.declared.Bio.{Bio}
use Rattle.t800.specs.Bits.{Decoded, get_bit}
use Rattle.t800.specs.PassCount.{read_passes}
use Rattle.t800.specs.TagTree.{PathRead, value, read_path}
use Rattle.t800.specs.State.{Block, not_yet_planes}
use Rattle.t800.specs.WriteHeader.{is_new}
use Rattle.t800.specs.ReadHeader.{opens_segment, current_limit, current_passes, passes_taken, read_zero_planes_from}
use Rattle.t800_laws.proofs.Laws.Tests.{if-true, if-false, if-eq, if-ne}
use Rattle.lists.specs.Rows.{put_row}
use Rattle.tgt.specs.Path.{path_over, leaf_word}
use Rattle.tgt_read.specs.Reading.{LeafAfter, below_in, ValueAfter, value_in, leaf_of}
use Rattle.t2_read_codes.specs.CommaCode.{read_comma_limited}
use Rattle.tcd_places.specs.declared.Place.{Place}
use Rattle.t2_read_segments.specs.declared.Run.{Run}
use Rattle.t2_read_segments.specs.Reading.{Reading, reading, moved_on, reported, next_segment, next_segments}
use Rattle.t2_read_block_parts.specs.Blocks.{passes_read, next_first, next_again, next_new, next_old, next_block}
use Rattle.tcd_places.specs.Places.{block_at, block_in}

-- ---- of a block only its own words count for its segments, and only a tree and a leaf for its zero planes

same_segment : (src : List ℕ) (i : ℕ) (k : Block) (n : ℕ) (a : Reading) → next_segment src i (block_at k.at) n a ≡ next_segment src i k n a
unfolding next_segment opens_segment current_limit current_passes
same_segment src i k n a = refl

same_taken : (ws : List ℕ) (k : Block) (left : ℕ) → passes_taken ws (block_at k.at) left ≡ passes_taken ws k left
unfolding passes_taken opens_segment current_limit current_passes
same_taken ws k left = refl

pub same_segments : (src : List ℕ) (i : ℕ) (k : Block) (f left : ℕ) (a : Reading) → next_segments src i (block_at k.at) f left a
    ≡ next_segments src i k f left a
unfolding next_segments
same_segments src i k zero left a = refl
same_segments src i k (suc f) left a =
    let n : ℕ = passes_taken a.words k left in
    let e : next_segment src i (block_at k.at) (passes_taken a.words (block_at k.at) left) a
    ≡ next_segment src i k n a = ap (λ (m : ℕ). next_segment src i (block_at k.at) m a) (same_taken a.words k left)
    ∙ same_segment src i k n a in
    (λ j. cond (ltb 0 left)
    (cond (eqb (e j).refusal 0) (next_segments src i (block_at k.at) f (left - same_taken a.words k left j) (e j)) (e j)) a)
    ∙ ap (λ (more : Reading). cond (ltb 0 left) (cond (eqb (next_segment src i k n a).refusal 0) more (next_segment src i k n a)) a)
    (same_segments src i k f (left - n) (next_segment src i k n a))

same_planes : (src : List ℕ) (p : Place) (row : List ℕ) (planes f t : ℕ) (ws : List ℕ) (b : Bio)
    → read_zero_planes_from src (leaf_of p.zero row p.depth p.x) f t ws b
    ≡ read_zero_planes_from src (block_in p row planes) f t ws b
unfolding read_zero_planes_from
same_planes src p row planes zero t ws b = refl
same_planes src p row planes (suc f) t ws b =
    let r : PathRead = read_path src p.zero t (reverse (path_over row p.depth p.x)) 0 ws b in
    ap (λ (more : PathRead). cond (ltb (value r.words (leaf_word p.zero row p.x)) t) r more)
    (same_planes src p row planes f (t + 1) r.words r.bio)

-- ---- an included block

-- the reading goes on, with these bits
abbrev run_at : Bio → Reading → Run
run_at b a = record { bio = b; count = a.count; room = a.room; bytes = a.bytes; refusal = 0 }

module _ (src : List ℕ) (i : ℕ) (a : Reading) (c : ValueAfter) (m : Run) (moves : m ≡ run_at c.bio a) (reports : List ℕ)
    (o : Reading) where
  abbrev at_segments : ℕ → Type 0
  at_segments at = o ≡ next_segments src i (block_at at) c.value c.value (reading c.words reports a.records m)

  abbrev goes_on : Block → ValueAfter → List ℕ → Reading
  goes_on k d rows = next_segments src i k d.value d.value (reading d.words rows a.records (run_at d.bio a))

  segments_go_on : (k : Block) → at_segments k.at → o ≡ goes_on k c reports
  segments_go_on k is = is
      ∙ ap (λ (r : Run). next_segments src i (block_at k.at) c.value c.value (reading c.words reports a.records r))
      moves ∙ same_segments src i k c.value c.value _

  pub first-is : (p : Place) (row : List ℕ) (planes : ℕ) (z : ValueAfter) (left : ℕ)
      → z ≡ value_in (leaf_word p.zero row p.x)
      (read_zero_planes_from src (leaf_of p.zero row p.depth p.x) (not_yet_planes + 2) 0 a.words a.bio)
      → c ≡ passes_read src p.at 0 3 z.words z.bio
      → left ≡ (planes + 2 ^ 32 - z.value) % 2 ^ 32
      → reports ≡ put_row a.reports i 1 z.value left c.value
      → at_segments p.at → o ≡ next_first src i (block_in p row planes) a
  unfolding next_first
  first-is p row planes z left ez ec el er is =
      let k : Block = block_in p row planes in
      let y : ValueAfter = value_in (leaf_word p.zero row p.x) (read_zero_planes_from src k (not_yet_planes + 2) 0 a.words a.bio) in
      let fz : z ≡ y = ez ∙ ap (value_in (leaf_word p.zero row p.x))
      (same_planes src p row planes (not_yet_planes + 2) 0 a.words a.bio) in
      let fc : c ≡ passes_read src p.at 0 3 y.words y.bio = ec
      ∙ ap (λ (v : ValueAfter). passes_read src p.at 0 3 v.words v.bio) fz in
      let fl : left ≡ (planes + 2 ^ 32 - y.value) % 2 ^ 32 = el ∙ ap (λ (v : ValueAfter). (planes + 2 ^ 32 - v.value) % 2 ^ 32) fz in
      segments_go_on k is
      ∙ (λ j. goes_on k (fc j) ((er ∙ (λ h. put_row a.reports i 1 (fz h).value (fl h) (fc h).value)) j))

  pub again_is : (at : ℕ) → c ≡ passes_read src at (get_or a.words at 0) (get_or a.words (at + 1) 0) a.words a.bio → reports
      ≡ put_row a.reports i 2 0 0 c.value → at_segments at → o ≡ next_again src i (block_at at) a
  unfolding next_again
  again_is at ec er is = segments_go_on (block_at at) is
      ∙ (λ j. goes_on (block_at at) (ec j) ((er ∙ ap (λ (d : ValueAfter). put_row a.reports i 2 0 0 d.value) ec) j))

-- ---- a block without passes so far

module _ (src : List ℕ) (t i : ℕ) (p : Place) (row : List ℕ) (planes : ℕ) (a : Reading) (w : LeafAfter) (m : Run)
    (reads : w ≡ below_in (t + 1) (leaf_word p.incl row p.x)
    (read_path src p.incl (t + 1) (reverse (path_over row p.depth p.x)) 0 a.words a.bio))
    (moves : m ≡ run_at w.bio a) where
  abbrev path : PathRead
  path = read_path src p.incl (t + 1) (reverse (path_over row p.depth p.x)) 0 a.words a.bio

  stands : (reports : List ℕ) → reading w.words reports a.records m
      ≡ reading path.words reports a.records (run_at path.bio a)
  stands reports = ap (reading w.words reports a.records) moves
      ∙ ap (λ (v : LeafAfter). reading v.words reports a.records (run_at v.bio a)) reads

  pub new_included : (o : Reading) → w.below ≡ true → o
      ≡ next_first src i (block_in p row planes) (reading w.words a.reports a.records m) → o
      ≡ next_new src t i (block_in p row planes) a
  unfolding next_new
  new_included o y e = e ∙ ap (next_first src i (block_in p row planes)) (stands a.reports)
      ∙ sym (if-true _ _ _ (sym (ap (λ (v : LeafAfter). v.below) reads) ∙ y))

  pub new_absent : (reports : List ℕ) → w.below ≡ false → reports ≡ put_row a.reports i 0 0 0 0
      → reading w.words reports a.records m ≡ next_new src t i (block_in p row planes) a
  unfolding next_new
  new_absent reports y e =
      stands reports
      ∙ ap (λ (rows : List ℕ). reading path.words rows a.records (run_at path.bio a)) e
      ∙ sym (if-false _ _ _ (sym (ap (λ (v : LeafAfter). v.below) reads) ∙ y))

-- ---- a block with passes

module _ (src : List ℕ) (i at : ℕ) (a : Reading) (b : Decoded) (m : Run) (reads : b ≡ get_bit src a.bio)
    (moves : m ≡ run_at b.bio a) where
  goes : (reports : List ℕ) → reading a.words reports a.records m
      ≡ reading a.words reports a.records (run_at (get_bit src a.bio).bio a)
  goes reports = ap (reading a.words reports a.records) moves
      ∙ ap (λ (d : Decoded). reading a.words reports a.records (run_at d.bio a)) reads

  pub old_absent : (reports : List ℕ) → b.value ≡ 0 → reports ≡ put_row a.reports i 0 0 0 0
      → reading a.words reports a.records m ≡ next_old src i (block_at at) a
  unfolding next_old
  old_absent reports y e =
      goes reports
      ∙ ap (λ (rows : List ℕ). reading a.words rows a.records (run_at (get_bit src a.bio).bio a)) e
      ∙ sym (if-eq _ 0 _ _ (sym (ap (λ (d : Decoded). d.value) reads) ∙ y))

  pub old_included : (o : Reading) → b.value ≢ 0 → o
      ≡ next_again src i (block_at at) (reading a.words a.reports a.records m) → o ≡ next_old src i (block_at at) a
  unfolding next_old
  old_included o y e = e ∙ ap (next_again src i (block_at at)) (goes a.reports)
      ∙ sym (if-ne _ 0 _ _ (λ z. y (ap (λ (d : Decoded). d.value) reads ∙ z)))

-- ---- either

same_again : (src : List ℕ) (i : ℕ) (k : Block) (a : Reading) → next_again src i (block_at k.at) a ≡ next_again src i k a
unfolding next_again
same_again src i k a = same_segments src i k _ _ _

same_old : (src : List ℕ) (i : ℕ) (k : Block) (a : Reading) → next_old src i (block_at k.at) a ≡ next_old src i k a
unfolding next_old
same_old src i k a =
    let b = moved_on a.words (get_bit src a.bio).bio a in
    ap (λ (included : Reading). cond (eqb (get_bit src a.bio).value 0) (reported i 0 0 0 0 b) included) (same_again src i k b)

module _ (src : List ℕ) (t i : ℕ) (k : Block) (a o : Reading) where
  pub block_new : get_or a.words k.at 0 ≡ 0 → o ≡ next_new src t i k a → o ≡ next_block src t i k a
  unfolding next_block is_new
  block_new z e = e ∙ sym (if-eq _ 0 _ _ z)

  pub block_old : get_or a.words k.at 0 ≢ 0 → o ≡ next_old src i (block_at k.at) a → o ≡ next_block src t i k a
  unfolding next_block is_new
  block_old z e = e ∙ same_old src i k a ∙ sym (if-ne _ 0 _ _ z)

-- ---- pass count and increment

pub passes_stored : (src : List ℕ) (at before bits : ℕ) (ws : List ℕ) (b : Bio) (n more : Decoded) → n ≡ read_passes src b → more
    ≡ read_comma_limited src n.bio
    → ◌≡◌ {A = ValueAfter}
    (record { words = set (set ws at (before + n.value)) (at + 1) (bits + more.value); bio = more.bio; value = n.value })
    (passes_read src at before bits ws b)
unfolding passes_read
passes_stored src at before bits ws b n more p q =
    let e : more ≡ read_comma_limited src (read_passes src b).bio = q ∙ ap (λ (d : Decoded). read_comma_limited src d.bio) p in
    λ j. record { words = set (set ws at (before + (p j).value)) (at + 1) (bits + (e j).value); bio = (e j).bio; value = (p j).value }
