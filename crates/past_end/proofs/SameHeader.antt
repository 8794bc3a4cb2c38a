-- A header that is read without a refusal is read the same over another input that has its bytes, unless that ends with its last FF.
use mathlib.Core.Path.{◌≡◌, refl, sym, subst}
use mathlib.Core.Logic.{◌≢◌}
use mathlib.Core.Bool.{Bool, true, false, cond, ◌&&◌}
use mathlib.Core.List.{List, [], ◌∷◌, ◌++◌, reverse}
use Prim.Native.Nat.{ℕ, zero, suc, ◌+◌, ◌-◌, ◌*◌, ◌≤◌}
use native.Mathlib.Omega.{arith}
use lib.ListN.{length, set, length-append}
use lib.Dec.{eqb, ltb, leb}
use borrow.Author.Tests.{eqb-true, eqb-false, eq-eqb, ne_eqb}
use Rattle.t800.specs.declared.Bio.{Bio}
use Rattle.t800.specs.Refusals.{width_refusal, header_end_refusal, records_refusal}
use Rattle.t800.specs.Bits.{Decoded, get_bit, read_bits, in_ff, ends_in_ff}
use Rattle.t800.specs.TagTree.{PathRead, value, read_path}
use Rattle.t800.specs.PassCount.{read_passes}
use Rattle.t800.specs.Segments.{width, read_comma}
use Rattle.t800.specs.Reports.{BlockReport, absent, body_bytes}
use Rattle.t800.specs.State.{Block, blocks, bands, layer, passes_so_far, length_bits}
use Rattle.t800.specs.WriteHeader.{is_new, length_bits_before}
use Rattle.t800.specs.ReadHeader.{HeaderRead, refused, moved_to, with_report, with_record, opens_segment, current_limit, current_passes}
use Rattle.t800.specs.ReadHeader.{passes_taken, read_segment, read_segments, read_zero_planes, first_report, again_report, read_included}
use Rattle.t800.specs.ReadHeader.{read_new_block, read_old_block, read_block, read_blocks, read_header}
use Rattle.t800_laws.proofs.Laws.Tests.{and_left, and_second}
use Rattle.past_end.proofs.SameBits.{Way, Agree, bits_to, of_decoded, of_path, of_header, Stays, here, then}
use Rattle.past_end.proofs.SameBits.{bit_stays, bits_stay, path_stays, planes_stay, passes_stay, comma_stays}

-- where x isn't refused
abbrev IfAccepted : Way → (b : Bio) (x y : HeaderRead) → Type 0
IfAccepted w b x y = x.refusal ≡ 0 → Stays w of_header b x y

or_refused : (w : Way) (b : Bio) (t : Bool) (why : ℕ) (x y : HeaderRead) → why ≢ 0 → IfAccepted w b x y
    → IfAccepted w b (cond t (refused why) x) (cond t (refused why) y)
or_refused w b true why x y n p e = absurd (n e)
or_refused w b false why x y n p e = p e

choice_of : (w : Way) (b : Bio) (t : Bool) (x x' y y' : HeaderRead) → IfAccepted w b x x' → IfAccepted w b y y'
    → IfAccepted w b (cond t x y) (cond t x' y')
choice_of w b true x x' y y' p q = p
choice_of w b false x x' y y' p q = q

-- where reading may go on with f after x: a refusal of x ends it
kept_refusal : (x f : HeaderRead) (on : Bool) → (on ≡ true → x.refusal ≡ 0) → (cond on f x).refusal ≡ 0 → x.refusal ≡ 0
kept_refusal x f true n e = n refl
kept_refusal x f false n e = e

passed : (t : Bool) (why : ℕ) (x : HeaderRead) → why ≢ 0 → (cond t (refused why) x).refusal ≡ 0
    → (t ≡ false) × (cond t (refused why) x ≡ x) × (x.refusal ≡ 0)
passed true why x n e = absurd (n e)
passed false why x n e = (refl, refl, e)

-- an accepted header doesn't end in FF at the input's end
pub accepted_end : (src : List ℕ) (room : ℕ) (ws : List ℕ) (b : Bio) → (read_header src room ws b).refusal ≡ 0
    → ends_in_ff src (read_header src room ws b).bio ≡ false
unfolding read_header
accepted_end src room ws b e =
    let r : HeaderRead = record { refusal = 0; words = ws; bio = b; reports = []; records = [] } in
    let a : HeaderRead = read_blocks src room (layer ws) 0 (blocks (bands ws)) r in
    let p = passed (eqb a.refusal 0 && ends_in_ff src a.bio) header_end_refusal a (omega arith) e in
    subst (λ (h : HeaderRead). ends_in_ff src h.bio ≡ false) (sym p.1)
    (and_second (eqb a.refusal 0) (ends_in_ff src a.bio) (eq-eqb a.refusal 0 p.2) p.0)

module _ (src other : List ℕ) (w : Way) (agree : Agree src other w) (room : ℕ) where
  abbrev gone : HeaderRead → HeaderRead
  gone = of_header.gone w

  segment-stays : (i : ℕ) (k : Block) (n : ℕ) (r : HeaderRead)
      → IfAccepted w r.bio (read_segment src room i k n r) (read_segment other room i k n (gone r))
  unfolding read_segment
  segment-stays i k n r =
      let n_bits : ℕ = width (length_bits r.words k.at) n in
      let opens : ℕ = cond (opens_segment r.words k) 1 0 in
      let ws : List ℕ = set (set r.words (k.at + 2) (current_limit r.words k)) (k.at + 3) (current_passes r.words k + n) in
      let done : Decoded → HeaderRead = λ len. with_record
      (record { block = i; opens = opens; passes = n; bytes = len.value; start = body_bytes r.records }) (moved_to ws len.bio r) in
      or_refused w r.bio (ltb 32 n_bits) width_refusal _ _ (omega arith)
      (or_refused w r.bio (leb room (length r.records)) records_refusal _ _ (omega arith)
      (λ _. then w of_decoded of_header r.bio (read_bits src n_bits r.bio) (read_bits other n_bits (bits_to w r.bio)) done done
      (bits_stay src other w agree n_bits r.bio) (here w of_header (done (read_bits src n_bits r.bio)))))

  segments_stay : (i : ℕ) (k : Block) (f left : ℕ) (r : HeaderRead)
      → IfAccepted w r.bio (read_segments src room i k f left r) (read_segments other room i k f left (gone r))
  unfolding read_segments
  segments_stay i k zero left r e = here w of_header r
  segments_stay i k (suc f) left r e =
      let n : ℕ = passes_taken r.words k left in
      let on : HeaderRead → Bool = λ a. eqb a.refusal 0 && ltb 0 (left - n) in
      let a : HeaderRead = read_segment src room i k n r in
      let z : a.refusal ≡ 0 = kept_refusal a (read_segments src room i k f (left - n) a) (on a)
      (λ t. eqb-true a.refusal 0 (and_left (eqb a.refusal 0) (ltb 0 (left - n)) t)) e in
      then w of_header of_header r.bio a (read_segment other room i k n (gone r))
      (λ a. cond (on a) (read_segments src room i k f (left - n) a) a)
      (λ a. cond (on a) (read_segments other room i k f (left - n) a) a) (segment-stays i k n r z)
      (choice_of w a.bio (on a) _ _ _ _ (segments_stay i k f (left - n) a) (λ _. here w of_header a) e)

  -- a block that is included, after its zero planes, its pass count, and its increment
  included_stays : (i : ℕ) (k : Block) (r : HeaderRead)
      → IfAccepted w r.bio (read_included src room i k r) (read_included other room i k (gone r))
  unfolding read_included
  included_stays i k r e =
      let ws : PathRead → (passes inc : Decoded) → List ℕ = λ z passes inc.
      set (set z.words k.at (passes_so_far r.words k.at + passes.value)) (k.at + 1) (length_bits_before r.words k + inc.value)
      in
      let report : PathRead → (passes : Decoded) → BlockReport = λ z passes. cond (is_new r.words k)
      (first_report k (value z.words (k.zero_tree + 3 * k.leaf)) passes.value) (again_report passes.value) in
      let from : PathRead → (passes inc : Decoded) → HeaderRead = λ z passes inc.
      with_report (report z passes) (moved_to (ws z passes inc) inc.bio r) in
      let last : List ℕ → PathRead → (passes inc : Decoded) → HeaderRead = λ s z passes inc.
      read_segments s room i k passes.value passes.value (from z passes inc) in
      let z : PathRead = read_zero_planes src k r in
      let passes : Decoded = read_passes src z.bio in
      let inc : Decoded = read_comma src passes.bio in
      then w of_path of_header r.bio z (read_zero_planes other k (gone r))
      (λ z. last src z (read_passes src z.bio) (read_comma src (read_passes src z.bio).bio))
      (λ z. last other z (read_passes other z.bio) (read_comma other (read_passes other z.bio).bio)) (planes_stay src other w agree k r)
      (then w of_decoded of_header z.bio passes (read_passes other (bits_to w z.bio)) (λ p. last src z p (read_comma src p.bio))
      (λ p. last other z p (read_comma other p.bio)) (passes_stay src other w agree z.bio)
      (then w of_decoded of_header passes.bio inc (read_comma other (bits_to w passes.bio)) (last src z passes) (last other z passes)
      (comma_stays src other w agree passes.bio) (segments_stay i k passes.value passes.value (from z passes inc) e)))

  new_block_stays : (layer_now i : ℕ) (k : Block) (r : HeaderRead)
      → IfAccepted w r.bio (read_new_block src room layer_now i k r) (read_new_block other room layer_now i k (gone r))
  unfolding read_new_block
  new_block_stays layer_now i k r e =
      let known : PathRead → Bool = λ p. ltb (value p.words (k.incl_tree + 3 * k.leaf)) (layer_now + 1) in
      let to : PathRead → HeaderRead = λ p. moved_to p.words p.bio r in
      let p : PathRead = read_path src k.incl_tree (layer_now + 1) (reverse k.path) 0 r.words r.bio in
      then w of_path of_header r.bio p
      (read_path other k.incl_tree (layer_now + 1) (reverse k.path) 0 r.words (bits_to w r.bio))
      (λ p. cond (known p) (read_included src room i k (to p)) (with_report absent (to p)))
      (λ p. cond (known p) (read_included other room i k (to p)) (with_report absent (to p)))
      (path_stays src other w agree k.incl_tree (layer_now + 1) (reverse k.path) 0 r.words r.bio)
      (choice_of w p.bio (known p) _ _ _ _ (included_stays i k (to p)) (λ _. here w of_header (with_report absent (to p))) e)

  old_block_stays : (i : ℕ) (k : Block) (r : HeaderRead)
      → IfAccepted w r.bio (read_old_block src room i k r) (read_old_block other room i k (gone r))
  unfolding read_old_block
  old_block_stays i k r e =
      let to : Decoded → HeaderRead = λ d. moved_to r.words d.bio r in
      let d : Decoded = get_bit src r.bio in
      then w of_decoded of_header r.bio d (get_bit other (bits_to w r.bio))
      (λ d. cond (eqb d.value 0) (with_report absent (to d)) (read_included src room i k (to d)))
      (λ d. cond (eqb d.value 0) (with_report absent (to d)) (read_included other room i k (to d))) (bit_stays src other w agree r.bio)
      (choice_of w d.bio (eqb d.value 0) _ _ _ _ (λ _. here w of_header (with_report absent (to d))) (included_stays i k (to d)) e)

  pub block_stays : (layer_now i : ℕ) (k : Block) (r : HeaderRead)
      → IfAccepted w r.bio (read_block src room layer_now i k r) (read_block other room layer_now i k (gone r))
  unfolding read_block
  block_stays layer_now i k r =
      choice_of w r.bio (is_new r.words k) _ _ _ _ (new_block_stays layer_now i k r) (old_block_stays i k r)

  blocks-stay : (layer_now i : ℕ) (ks : List Block) (r : HeaderRead)
      → IfAccepted w r.bio (read_blocks src room layer_now i ks r) (read_blocks other room layer_now i ks (gone r))
  unfolding read_blocks
  blocks-stay layer_now i [] r e = here w of_header r
  blocks-stay layer_now i (k ∷ ks) r e =
      let a : HeaderRead = read_block src room layer_now i k r in
      let z : a.refusal ≡ 0 = kept_refusal a (read_blocks src room layer_now (i + 1) ks a) (eqb a.refusal 0)
      (λ t. eqb-true a.refusal 0 t) e in
      then w of_header of_header r.bio a (read_block other room layer_now i k (gone r))
      (λ a. cond (eqb a.refusal 0) (read_blocks src room layer_now (i + 1) ks a) a)
      (λ a. cond (eqb a.refusal 0) (read_blocks other room layer_now (i + 1) ks a) a) (block_stays layer_now i k r z)
      (choice_of w a.bio (eqb a.refusal 0) _ _ _ _ (blocks-stay layer_now (i + 1) ks a) (λ _. here w of_header a) e)

  -- ---- the header's end

  abbrev end_of : List ℕ → HeaderRead → HeaderRead
  end_of s a = cond (eqb a.refusal 0 && ends_in_ff s a.bio) (refused header_end_refusal) a

  end_stays : (a : HeaderRead) → a.refusal ≡ 0 → ends_in_ff src a.bio ≡ false → ends_in_ff other (bits_to w a.bio) ≡ false
      → Stays w of_header a.bio (end_of src a) (end_of other (gone a))
  end_stays a z off there =
      let f : eqb a.refusal 0 ≡ true = eq-eqb a.refusal 0 z in
      rw (f, off, there) (here w of_header a)

  -- the other input doesn't end with an FF that a ends in
  abbrev NotEnded : HeaderRead → Type 0
  NotEnded a = ends_in_ff other (bits_to w a.bio) ≡ false

  pub header_stays : (ws : List ℕ) (b : Bio) → NotEnded (read_header src room ws b)
      → IfAccepted w b (read_header src room ws b) (read_header other room ws (bits_to w b))
  unfolding read_header
  header_stays ws b there e =
      let r : HeaderRead = record { refusal = 0; words = ws; bio = b; reports = []; records = [] } in
      let a : HeaderRead = read_blocks src room (layer ws) 0 (blocks (bands ws)) r in
      let p = passed (eqb a.refusal 0 && ends_in_ff src a.bio) header_end_refusal a (omega arith) e in
      then w of_header of_header b a (read_blocks other room (layer ws) 0 (blocks (bands ws)) (gone r)) (end_of src) (end_of other)
      (blocks-stay (layer ws) 0 (blocks (bands ws)) r p.2)
      (end_stays a p.2 (and_second (eqb a.refusal 0) (ends_in_ff src a.bio) (eq-eqb a.refusal 0 p.2) p.0)
      (subst NotEnded p.1 there))

-- ---- with more input

-- bits that end inside the input, and not in FF at its end, don't end in FF at a later end
pub not_in_ff : (src more : List ℕ) (b : Bio) → ends_in_ff src b ≡ false → b.bp ≤ length src → ends_in_ff (src ++ more) b ≡ false
unfolding ends_in_ff
not_in_ff src more b e h = go (in_ff b) e
  where
    go : (t : Bool) → (t && eqb b.bp (length src)) ≡ false → (t && eqb b.bp (length (src ++ more))) ≡ false
    go true f = ne_eqb b.bp (length (src ++ more)) (omega (arith, eqb-false b.bp (length src) f, length-append src more))
    go false f = refl
