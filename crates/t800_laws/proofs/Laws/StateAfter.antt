-- What reads and writes leave in the state, for all arguments (SCOPE S4, S5, S8 and S9): one that is accepted moves the next layer by one,
-- one that is refused leaves the state, an absent packet moves nothing but the next layer, and a missing marker refuses nothing.
use mathlib.Core.Path.{◌≡◌, refl, sym, ap, ◌∙◌}
use mathlib.Core.Logic.{◌≢◌}
use mathlib.Core.Bool.{Bool, true, false, cond, ◌&&◌, ◌||◌, not}
use mathlib.Core.List.{List, [], ◌∷◌}
use Prim.Native.Nat.{ℕ, zero, suc, ◌+◌, ◌-◌, ◌*◌, ◌≤◌, ◌<◌}
use native.Mathlib.Nat.{le_trans, mul-le-mul_left}
use native.Mathlib.Omega.{arith}
use lib.ListN.{length, get_or, set, length-set}
use lib.Seq.{get_or-set_same, get_or-set_other}
use lib.Dec.{ltb, leb, eqb}
use borrow.Author.Tests.{eqb-true, eqb-false, leb-true, ne_eqb, le-leb, not-true, not-false}
use Rattle.t800.specs.declared.Band.{Band}
use Rattle.t800.specs.declared.Markers.{Markers}
use Rattle.t800.specs.Base.{every, wiped}
use Rattle.t800.specs.Bits.{bio_at, get_bit}
use Rattle.t800.specs.Segments.{is_limit}
use Rattle.t800.specs.State.{not_yet_included, not_yet_planes, writer, reader, role, band_count, style, layer, bands, blocks_in}
use Rattle.t800.specs.State.{band_nodes, band_length, state_length, passes_so_far, length_bits, segment_limit, segment_passes}
use Rattle.t800.specs.Ranges.{bad_shape, bad_style, band_too_deep, unused_bands_zero, node_in_range, block_in_range, band_in_range_with}
use Rattle.t800.specs.Ranges.{bands_in_range, bands_in_range_with, valid_state, valid_state_with}
use Rattle.t800.specs.Reports.{RecordForm}
use Rattle.t800.specs.TagTree.{Coded}
use Rattle.t800.specs.WriteHeader.{Contribution, contributes, code_present, code_absent, code_header}
use Rattle.t800.specs.ReadHeader.{HeaderRead, read_header}
use Rattle.t800.specs.MarkerSegments.{MarkerRead, read_marker, read_sop}
use Rattle.t800.specs.Packet.{write_refusal, write_refusal_with, WriteResult, write, write_with, read_refusal, read_refusal_with, ReadResult}
use Rattle.t800.specs.Packet.{read_absent}
use Rattle.t800.specs.Packet.{read_result, refused_answer, read_present, read, read_with}
use Rattle.t800_laws.proofs.Laws.Tests.{either, either-by, if-true, if-false, and_left, and_right, not_refused}
use Rattle.t800_laws.proofs.Laws.Layout.{end_after}
use Rattle.t800_laws.proofs.Laws.FirstWords.{same_bands}
use Rattle.t800_laws.proofs.Laws.HeaderKept.{blocks_coded, header_coded_lem, header_read}

-- ---- what a call that gives no 5 says of its state

-- a state in range: its next layer, its length, that of the scratch, and the words of its bands
record InRange (ws : List ℕ) (n : ℕ) : Type 0 where
  up_to_last : layer ws ≤ not_yet_included
  long : length ws ≡ state_length (bands ws)
  scratch_as_long : n ≡ length ws
  bands-in : bands_in_range ws 13 (bands ws) ≡ true

tested : (r : ℕ) (ws : List ℕ) (n : ℕ) → valid_state r ws n ≡ true → InRange ws n
unfolding valid_state_with
tested r ws n h =
    let a : Bool = eqb (role ws) r && not (bad_shape (band_count ws) (bands ws)) && not (bad_style (style ws)) in
    let b : Bool = leb (layer ws) not_yet_included in
    let c : Bool = not (band_too_deep (bands ws)) in
    let d : Bool = unused_bands_zero ws in
    let e : Bool = eqb (length ws) (state_length (bands ws)) in
    let f : Bool = eqb n (length ws) in
    let g : Bool = bands_in_range ws 13 (bands ws) in
    let h₁ = and_left (a && b && c && d && e && f) g h in
    let h₂ = and_left (a && b && c && d && e) f h₁ in
    let h₃ = and_left (a && b && c) d (and_left (a && b && c && d) e h₂) in
    record {
      up_to_last = leb-true (layer ws) not_yet_included (and_right a b (and_left (a && b) c h₃));
      long = eqb-true (length ws) (state_length (bands ws)) (and_right (a && b && c && d) e h₂);
      scratch_as_long = eqb-true n (length ws) (and_right (a && b && c && d && e) f h₁);
      bands-in = and_right (a && b && c && d && e && f) g h;
    }

has_first_words : (ws : List ℕ) (n : ℕ) → InRange ws n → 13 ≤ length ws
unfolding state_length
has_first_words ws n h = rw h.long (end_after 13 (bands ws))

-- a read whose state gives neither 5 nor 6
pub read-in_range : (ws scratch reports : List ℕ) → read_refusal ws scratch reports ≡ 0
    → (valid_state reader ws (length scratch) ≡ true) × (layer ws ≢ not_yet_included)
unfolding read_refusal_with
read-in_range ws scratch reports e =
    let c = not_refused (not (valid_state reader ws (length scratch))) 5 _ (omega arith) e in
    let d = not_refused (eqb (layer ws) not_yet_included) 6 _ (omega arith) c.1 in
    (not-false (valid_state reader ws (length scratch)) c.0, eqb-false (layer ws) not_yet_included d.0)

-- ---- the next layer set to one that is no less: a state in range stays so

pub every-stays : (n : ℕ) (f g : ℕ → Bool) → ((i : ℕ) → i < n → f i ≡ true → g i ≡ true) → every n f ≡ true → every n g ≡ true
unfolding every
every-stays zero f g h e = refl
every-stays (suc n) f g h e =
    rw (
      h n (omega arith) (and_left (f n) (every n f) e),
      every-stays n f g (λ i l. h i (omega arith)) (and_right (f n) (every n f) e),
    )

module _ (ws : List ℕ) (v : ℕ) (long : 13 ≤ length ws) (more : layer ws ≤ v) where
  abbrev moved : List ℕ
  moved = set ws 3 v

  other_words : (i : ℕ) → i ≢ 3 → get_or moved i 0 ≡ get_or ws i 0
  other_words i h = get_or-set_other ws 3 i v 0 h

  layer-moved : layer moved ≡ v
  layer-moved = get_or-set_same ws 3 v 0 (omega arith)

  node_stays : (m a : ℕ) → 13 ≤ a → node_in_range moved m a ≡ node_in_range ws m a
  unfolding node_in_range
  node_stays m a h = rw (other_words a (omega arith), other_words (a + 1) (omega arith), other_words (a + 2) (omega arith))

  block_stays : (a : ℕ) → 13 ≤ a → block_in_range ws a ≡ true → block_in_range moved a ≡ true
  unfolding block_in_range writer
  block_stays a h g =
      let passes : ℕ = passes_so_far ws a in
      let none : Bool = eqb passes 0 in
      let limit : ℕ = segment_limit ws a in
      let used : ℕ = segment_passes ws a in
      let few : Bool = leb passes (164 * layer ws) in
      let bits : Bool = cond none (eqb (length_bits ws a) 0) (leb 3 (length_bits ws a) && leb (length_bits ws a) 32) in
      let segment : Bool = cond (none || eqb (role ws) writer) (eqb limit 0 && eqb used 0)
      (is_limit (style ws) limit && leb 1 used && leb used limit) in
      let before : few ≡ true = and_left few bits (and_left (few && bits) segment g) in
      let after : passes ≤ 164 * v = le_trans (leb-true passes (164 * layer ws) before) (mul-le-mul_left 164 more) in
      let e : leb passes (164 * v) ≡ few = le-leb passes (164 * v) after ∙ sym before in
      rw (
        other_words 0 (omega arith),
        other_words 2 (omega arith),
        layer-moved,
        other_words a (omega arith),
        other_words (a + 1) (omega arith),
        other_words (a + 2) (omega arith),
        other_words (a + 3) (omega arith),
        e,
      )
      g

  bands-stay : (at : ℕ) (bs : List Band) → 13 ≤ at → bands_in_range ws at bs ≡ true → bands_in_range moved at bs ≡ true
  unfolding bands_in_range_with band_in_range_with
  bands-stay at [] h g = refl
  bands-stay at (b ∷ bs) h g =
      let n : ℕ = band_nodes b in
      let incl : Bool = every n (λ i. node_in_range ws not_yet_included (at + 3 * i)) in
      let planes : Bool = every n (λ i. node_in_range ws not_yet_planes (at + 3 * n + 3 * i)) in
      let all : Bool = every (blocks_in b) (λ i. block_in_range ws (at + 6 * n + 4 * i)) in
      let rest : Bool = bands_in_range ws (at + band_length b) bs in
      let g₁ = and_left (incl && planes && all) rest g in
      let g₂ = and_left (incl && planes) all g₁ in
      rw (
        every-stays n _ (λ i. node_in_range moved not_yet_included (at + 3 * i))
            (λ i l e. node_stays not_yet_included (at + 3 * i) (omega arith) ∙ e) (and_left incl planes g₂),
        every-stays n _ (λ i. node_in_range moved not_yet_planes (at + 3 * n + 3 * i))
            (λ i l e. node_stays not_yet_planes (at + 3 * n + 3 * i) (omega arith) ∙ e) (and_right incl planes g₂),
        every-stays (blocks_in b) _ (λ i. block_in_range moved (at + 6 * n + 4 * i))
            (λ i l e. block_stays (at + 6 * n + 4 * i) (omega arith) e) (and_right (incl && planes) all g₁),
      )
      (bands-stay (at + band_length b) bs (omega arith) (and_right (incl && planes && all) rest g))

  stays_in_range : (r n : ℕ) → valid_state r ws n ≡ true → v ≤ not_yet_included → valid_state r moved n ≡ true
  unfolding valid_state_with
  stays_in_range r n h l =
      let same = same_bands ws moved (λ j g ne. other_words j ne) in
      let t = tested r ws n h in
      let bs = bands-stay 13 (bands ws) (omega arith) t.bands-in ∙ sym t.bands-in in
      let ls = le-leb v not_yet_included l ∙ sym (le-leb (layer ws) not_yet_included t.up_to_last) in
      rw (
        same.0,
        same.1,
        other_words 0 (omega arith),
        other_words 1 (omega arith),
        other_words 2 (omega arith),
        layer-moved,
        length-set ws 3 v,
        bs,
        ls,
      )
      h

-- ---- writes

module _ (ws scratch : List ℕ) (p : Contribution) (body : List ℕ) (m : Markers) (number : ℕ) (output : List ℕ) where
  abbrev wrote : WriteResult
  wrote = write ws scratch p body m number output

  pub writing_in_range : write_refusal ws scratch p body m number output ≡ 0 → valid_state writer ws (length scratch) ≡ true
  unfolding write_refusal_with
  writing_in_range e =
      not-false (valid_state writer ws (length scratch)) (not_refused (not (valid_state writer ws (length scratch))) 5 _ (omega arith) e).0

  header_next_layer : 13 ≤ length ws → layer (code_header p ws).words ≡ layer ws + 1
  unfolding code_header code_present code_absent
  header_next_layer long =
      either (λ (x : Coded). layer x.words ≡ layer ws + 1) (contributes p) _ _
      (get_or-set_same (blocks_coded p ws) 3 (layer ws + 1) 0 (omega (arith, (header_coded_lem p ws).long)))
      (get_or-set_same ws 3 (layer ws + 1) 0 (omega arith))

  pub accepted_write_next_layer : wrote.answer.refusal ≡ 0 → layer wrote.state ≡ layer ws + 1
  unfolding write_with
  accepted_write_next_layer =
      let why : ℕ = write_refusal ws scratch p body m number output in
      let P : WriteResult → Type 0 = λ o. o.answer.refusal ≡ 0 → layer o.state ≡ layer ws + 1 in
      either-by P (eqb why 0) _ _
      (λ t e. header_next_layer
      (has_first_words ws (length scratch) (tested writer ws (length scratch) (writing_in_range (eqb-true why 0 t)))))
      (λ f. either P (eqb why 11) _ _ (λ e. absurd (eqb-false why 0 f e)) (λ e. absurd (eqb-false why 0 f e)))

  pub refused-write_leaves_state : wrote.answer.refusal ≢ 0 → wrote.state ≡ ws
  unfolding write_with
  refused-write_leaves_state =
      let why : ℕ = write_refusal ws scratch p body m number output in
      let P : WriteResult → Type 0 = λ o. o.answer.refusal ≢ 0 → o.state ≡ ws in
      either P (eqb why 0) _ _ (λ h. absurd (h refl)) (either P (eqb why 11) _ _ (λ h. refl) (λ h. refl))

-- ---- reads

-- a packet that is absent: only the next layer moves, the state stays in range, no block is reported, no record is touched
pub record LeftByAbsent (form : RecordForm) (ws reports : List ℕ) (records : form.Lent) (o : ReadResult form) : Type 0 where
  pub next_layer : layer o.state ≡ layer ws + 1
  pub other_words_stay : (i : ℕ) → i ≢ 3 → get_or o.state i 0 ≡ get_or ws i 0
  pub length-stays : length o.state ≡ length ws
  pub in_range : valid_state reader o.state (length o.scratch) ≡ true
  pub scratch_is_state : o.scratch ≡ o.state
  pub reports_zero : o.reports ≡ wiped reports
  pub records_stay : o.records ≡ records
  pub no_segments : o.answer.segments ≡ 0

module _ (form : RecordForm) (ws scratch : List ℕ) (m : Markers) (src reports : List ℕ) (records : form.Lent) where
  abbrev result : ReadResult form
  result = read form ws scratch m src reports records

  abbrev why : ℕ
  why = read_refusal ws scratch reports

  -- where the header's bits begin, its first bit, and the rest
  abbrev first_bit : ℕ → ℕ
  first_bit start = (get_bit src (bio_at start)).value

  abbrev header : ℕ → HeaderRead
  header start = read_header src (form.room records) ws (get_bit src (bio_at start)).bio

  pub refused-read_leaves_state : result.answer.refusal ≢ 0 → result.state ≡ ws
  unfolding read_with read_absent read_present
  refused-read_leaves_state =
      let P : ReadResult form → Type 0 = λ o. o.answer.refusal ≢ 0 → o.state ≡ ws in
      let start : ℕ = (read_sop m src).skip in
      either P (not (eqb why 0)) _ _ (λ h. refl)
      (either P (eqb (first_bit start) 0) _ _ (λ h. absurd (h refl))
      (either P (eqb (header start).refusal 0) _ _ (λ h. absurd (h refl)) (λ h. refl)))

  abbrev in_range_first : not (eqb why 0) ≡ false → (valid_state reader ws (length scratch) ≡ true) × (layer ws ≢ not_yet_included)
  in_range_first f = read-in_range ws scratch reports (eqb-true why 0 (not-false (eqb why 0) f))

  abbrev not_given : not (eqb why 0) ≡ true → why ≡ 0 → ⊥
  not_given t = eqb-false why 0 (not-true (eqb why 0) t)

  pub accepted_read_next_layer : result.answer.refusal ≡ 0 → layer result.state ≡ layer ws + 1
  unfolding read_with read_absent read_present
  accepted_read_next_layer =
      let P : ReadResult form → Type 0 = λ o. o.answer.refusal ≡ 0 → layer o.state ≡ layer ws + 1 in
      let start : ℕ = (read_sop m src).skip in
      either-by P (not (eqb why 0)) _ _ (λ t e. absurd (not_given t e))
      (λ f. let long = has_first_words ws (length scratch) (tested reader ws (length scratch) (in_range_first f).0) in
      either P (eqb (first_bit start) 0) _ _ (λ e. get_or-set_same ws 3 (layer ws + 1) 0 (omega arith))
      (either-by P (eqb (header start).refusal 0) _ _
      (λ t e. get_or-set_same (header start).words 3 (layer ws + 1) 0
      (omega (
        arith,
        header_read src (form.room records) ws (get_bit src (bio_at start)).bio
            (eqb-true (header start).refusal 0 t),
      )))
      (λ n e. absurd (eqb-false (header start).refusal 0 n e))))

  pub absent-read : result.answer.refusal ≡ 0 → result.answer.present ≡ 0 → LeftByAbsent form ws reports records result
  unfolding read_with read_absent read_present
  absent-read =
      let P : ReadResult form → Type 0 = λ o. o.answer.refusal ≡ 0 → o.answer.present ≡ 0 → LeftByAbsent form ws reports records o in
      let start : ℕ = (read_sop m src).skip in
      either-by P (not (eqb why 0)) _ _ (λ t e z. absurd (not_given t e))
      (λ f. let v = in_range_first f in
      let t = tested reader ws (length scratch) v.0 in
      let long = has_first_words ws (length scratch) t in
      let up : layer ws + 1 ≤ not_yet_included = omega (arith, v.1, t.up_to_last) in
      either P (eqb (first_bit start) 0) _ _
      (λ e z. record {
        next_layer = layer-moved ws (layer ws + 1) long (omega arith);
        other_words_stay = other_words ws (layer ws + 1) long (omega arith);
        length-stays = length-set ws 3 (layer ws + 1);
        in_range = rw (length-set ws 3 (layer ws + 1), sym t.scratch_as_long)
            (stays_in_range ws (layer ws + 1) long (omega arith) reader (length scratch) v.0 up);
        scratch_is_state = refl;
        reports_zero = refl;
        records_stay = refl;
        no_segments = refl;
      })
      (either-by P (eqb (header start).refusal 0) _ _ (λ t e z. absurd (omega (arith, z)))
      (λ n e. absurd (eqb-false (header start).refusal 0 n e))))

  -- 5, 6 and 3 leave every lent list; 9, 12 and 13 wipe all but the state
  pub refused-before_reading : why ≢ 0 → result ≡ read_result form ws scratch reports records (refused_answer why)
  unfolding read_with
  refused-before_reading h = rw (ne_eqb why 0 h)

  pub refused-in_header : why ≡ 0 → first_bit (read_sop m src).skip ≢ 0 → (header (read_sop m src).skip).refusal ≢ 0
      → result
      ≡ read_result form ws (wiped scratch) (wiped reports) (form.cleared records) (refused_answer (header (read_sop m src).skip).refusal)
  unfolding read_with
  refused-in_header e b h = rw (e, ne_eqb (first_bit (read_sop m src).skip) 0 b, ne_eqb (header (read_sop m src).skip).refusal 0 h)

  -- a first bit 0 is an absent packet
  pub first_bit_0 : why ≡ 0 → first_bit (read_sop m src).skip ≡ 0 → (result.answer.refusal ≡ 0) × (result.answer.present ≡ 0)
  unfolding read_with read_absent
  first_bit_0 e z = rw (e, z) (refl, refl)

  -- ---- the refusal, from where the header's bits begin

  refusal_from : ℕ → ℕ
  refusal_from start = cond (not (eqb why 0)) why (cond (eqb (first_bit start) 0) 0 (header start).refusal)

  refusal_is : result.answer.refusal ≡ refusal_from (read_sop m src).skip
  unfolding read_with read_absent read_present refusal_from
  refusal_is =
      let start : ℕ = (read_sop m src).skip in
      let P : ReadResult form → Type 0 = λ o. o.answer.refusal ≡ refusal_from start in
      let late : ℕ = cond (eqb (first_bit start) 0) 0 (header start).refusal in
      either-by P (not (eqb why 0)) _ _ (λ t. sym (if-true (not (eqb why 0)) why late t))
      (λ f. let on = sym (if-false (not (eqb why 0)) why late f) in
      either-by P (eqb (first_bit start) 0) _ _ (λ t. sym (if-true (eqb (first_bit start) 0) 0 (header start).refusal t) ∙ on)
      (λ g. let rest = sym (if-false (eqb (first_bit start) 0) 0 (header start).refusal g) ∙ on in
      either-by P (eqb (header start).refusal 0) _ _ (λ t. sym (eqb-true (header start).refusal 0 t) ∙ rest) (λ n. rest)))

-- markers have no part in a refusal but by where the header's bits begin
pub refused-by_start : (form : RecordForm) (ws scratch : List ℕ) (m n : Markers) (src reports : List ℕ) (records : form.Lent)
    → (read_sop m src).skip ≡ (read_sop n src).skip
    → (read form ws scratch m src reports records).answer.refusal ≡ (read form ws scratch n src reports records).answer.refusal
unfolding refusal_from
refused-by_start form ws scratch m n src reports records e =
    refusal_is form ws scratch m src reports records ∙ ap (refusal_from form ws scratch m src reports records) e
    ∙ sym (refusal_is form ws scratch n src reports records)

abbrev no_markers : Markers
no_markers = record { sop = false; eph = false }

-- so that a missing marker refuses nothing: whatever EPH is, and where SOP isn't found, a read is refused as it is without markers
pub missing_marker_refuses_nothing : (form : RecordForm) (ws scratch : List ℕ) (m : Markers) (src reports : List ℕ) (records : form.Lent)
    → 0 < (read_sop m src).mark
    → (read form ws scratch m src reports records).answer.refusal ≡ (read form ws scratch no_markers src reports records).answer.refusal
unfolding read_sop read_marker
missing_marker_refuses_nothing form ws scratch m src reports records h =
    let P : MarkerRead → Type 0 = λ s. 0 < s.mark → s.skip ≡ 0 in
    let none : (read_sop m src).skip ≡ 0 =
    either P (not m.sop) _ _ (λ l. refl)
    (either P (ltb (length src - 0) 6) _ _ (λ l. refl)
    (either P (eqb (get_or src 0 0) 0xff && eqb (get_or src (0 + 1) 0) 0x91) _ _ (λ l. absurd (omega (arith, l))) (λ l. refl))) h in
    refused-by_start form ws scratch m no_markers src reports records none
