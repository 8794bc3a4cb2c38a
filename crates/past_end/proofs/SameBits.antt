-- What is read over an input up to a place is read the same over another one that has the same bytes, there or at other places: bits,
-- trees, pass counts and runs of ones.
use mathlib.Core.Path.{◌≡◌, refl, sym, ap, ◌∙◌, subst}
use mathlib.Core.Logic.{◌≢◌}
use mathlib.Core.Bool.{Bool, true, false, cond}
use mathlib.Core.List.{List, [], ◌∷◌, ◌++◌, reverse}
use Prim.Native.Nat.{ℕ, zero, suc, ◌+◌, ◌-◌, ◌*◌, ◌/◌, ◌%◌, ◌^◌, ◌≤◌, ◌<◌, min, max}
use native.Mathlib.Omega.{arith}
use lib.ListN.{length, get_or, set, length-append, get_or-append, get_or-eq_default}
use lib.Dec.{eqb, ltb, leb}
use borrow.Author.Tests.{eqb-false}
use Rattle.t800.specs.declared.Bio.{Bio}
use Rattle.t800.specs.Bits.{Decoded, reach, byte_in, held_bit, get_bit, read_bits_onto, read_bits}
use Rattle.t800.specs.TagTree.{NodeRead, PathRead, value, low, read_node, read_path}
use Rattle.t800.specs.PassCount.{plus, read_passes}
use Rattle.t800.specs.Segments.{read_ones, read_comma}
use Rattle.t800.specs.State.{Block, not_yet_planes}
use Rattle.t800.specs.WriteHeader.{is_new}
use Rattle.t800.specs.ReadHeader.{HeaderRead, read_zero_planes_from, read_zero_planes}
use Rattle.t800_laws.proofs.Laws.Tests.{either-by, on-lt}
use Rattle.t800_laws.proofs.Laws.ReadValues.{ones_more}
use Rattle.bits_taken.proofs.Laws.Taken.{byte_few, bit_few}
use Rattle.bits_taken.proofs.Laws.Counting.{bit_forward}

-- ---- two inputs

-- the places of an input from `first` up to `last`, and where each stands in the other input
pub record Way : Type 0 where
  pub to : ℕ → ℕ
  pub first : ℕ
  pub last : ℕ

-- these bytes of src are in the other input, one behind another, and in reach of both
pub record Agree (src other : List ℕ) (w : Way) : Type 0 where
  pub same : (p : ℕ) → w.first ≤ p → p < w.last → get_or other (w.to p) 0 ≡ get_or src p 0
  pub next : (p : ℕ) → w.first ≤ p → p < w.last → w.to (p + 1) ≡ w.to p + 1
  pub in_reach : w.last < length src + reach
  pub to_in_reach : (p : ℕ) → w.first ≤ p → p < w.last → w.to p < length other + reach

-- what ends with bits, and the same over the other input
pub record Ends (A : Type 0) : Type 0 where
  pub bits : A → Bio
  pub gone : Way → A → A

abbrev pub bits_to : Way → Bio → Bio
bits_to w b = record { bp = w.to b.bp; buf = b.buf; ct = b.ct }

abbrev pub itself : Ends Bio
itself = record { bits = λ b. b; gone = bits_to }

abbrev pub of_decoded : Ends Decoded
of_decoded = record { bits = λ d. d.bio; gone = λ w d. record { value = d.value; bio = bits_to w d.bio } }

abbrev pub of_node : Ends NodeRead
of_node = record { bits = λ n. n.bio; gone = λ w n. record { value = n.value; low = n.low; bio = bits_to w n.bio } }

abbrev pub of_path : Ends PathRead
of_path = record { bits = λ p. p.bio; gone = λ w p. record { words = p.words; bio = bits_to w p.bio } }

abbrev pub of_header : Ends HeaderRead
of_header = record {
  bits = λ r. r.bio;
  gone = λ w r. record
      { refusal = r.refusal; words = r.words; bio = bits_to w r.bio; reports = r.reports; records = r.records };
}

-- at or behind the first place, and less than a byte held
abbrev pub Ready : Way → Bio → Type 0
Ready w b = (w.first ≤ b.bp) × (b.ct < 8)

-- x is read over src from b on, y over the other input. Where x ends up to the last place, it began there and y is the same.
pub record Stays (w : Way) {A : Type 0} (k : Ends A) (b : Bio) (x y : A) : Type 0 where
  pub held : Ready w b → Ready w (k.bits x)
  pub inside : (k.bits x).bp ≤ w.last → b.bp ≤ w.last
  pub same : Ready w b → (k.bits x).bp ≤ w.last → y ≡ k.gone w x

-- nothing read
pub here : (w : Way) {A : Type 0} (k : Ends A) (x : A) → Stays w k (k.bits x) x (k.gone w x)
here w k x = record { held = λ h. h; inside = λ h. h; same = λ _ _. refl }

-- a choice whose test doesn't read
pub choice : (w : Way) {A : Type 0} (k : Ends A) (b : Bio) (t : Bool) (x x' y y' : A) → Stays w k b x x' → Stays w k b y y'
    → Stays w k b (cond t x y) (cond t x' y')
choice w k b true x x' y y' p q = p
choice w k b false x x' y y' p q = q

-- g goes on where x ends
pub then : (w : Way) {A B : Type 0} (k : Ends A) (l : Ends B) (b : Bio) (x y : A) (g g' : A → B) → Stays w k b x y
    → Stays w l (k.bits x) (g x) (g' (k.gone w x)) → Stays w l b (g x) (g' y)
then w k l b x y g g' p q = record {
  held = λ h. q.held (p.held h);
  inside = λ h. p.inside (q.inside h);
  same = λ h e. ap g' (p.same h (q.inside e)) ∙ q.same (p.held h) e;
}

-- ---- ones are inside the input

-- the bits of the input that are left
abbrev bits_left : List ℕ → Bio → ℕ
bits_left src b = 8 * (length src - b.bp) + b.ct

module _ (src : List ℕ) where
  -- the first bit of a byte past the end is 0
  past_zero : (u : ℕ) (t : Bool) → (u * 256 % 65536 + 0) / 2 ^ (cond t 7 8 - 1) % 2 ≡ 0
  past_zero u true = omega arith
  past_zero u false = omega arith

  fewer_by : (b : Bio) (t : Bool) → eqb b.ct 0 ≡ t → (held_bit (cond t (byte_in src b) b)).value ≢ 0
      → bits_left src (held_bit (cond t (byte_in src b) b)).bio + 1 ≤ bits_left src b
  unfolding held_bit byte_in
  fewer_by b true e h =
      let ff : Bool = eqb (b.buf * 256 % 65536) 0xff00 in
      on-lt b.bp (length src) (λ l. omega (arith, byte_few ff))
      (λ l. let z : get_or src b.bp 0 ≡ 0 = get_or-eq_default src 0 l in
      absurd (h (ap (λ (v : ℕ). (b.buf * 256 % 65536 + v) / 2 ^ (cond ff 7 8 - 1) % 2) z ∙ past_zero b.buf ff)))
  fewer_by b false e h = omega (arith, eqb-false b.ct 0 e)

  fewer_left : (b : Bio) → (get_bit src b).value ≢ 0 → bits_left src (get_bit src b).bio + 1 ≤ bits_left src b
  unfolding get_bit
  fewer_left b h = fewer_by b (eqb b.ct 0) refl h

  few_ones : (f n : ℕ) (b : Bio) → (read_ones src f n b).value ≤ n + bits_left src b
  unfolding read_ones
  few_ones zero n b = omega arith
  few_ones (suc f) n b =
      let r : Decoded = get_bit src b in
      either-by (λ (d : Decoded). d.value ≤ n + bits_left src b) (eqb r.value 0) _ _ (λ _. omega arith)
      (λ t. omega (arith, few_ones f (n + 1) r.bio, fewer_left b (eqb-false r.value 0 t)))

  -- so that a larger bound gives the same
  comma_bound : (b : Bio) (more : ℕ) → b.ct < 8 → read_ones src (8 * length src + 8 + more) 0 b ≡ read_comma src b
  unfolding read_comma
  comma_bound b more h = ones_more src (8 * length src + 8) more 0 b (omega (arith, few_ones (8 * length src + 8) 0 b))

-- ---- a pass count from each of its parts on

abbrev after_five : List ℕ → Decoded → Decoded
after_five src five = cond (leb five.value 30) (plus 6 five) (plus 37 (read_bits src 7 five.bio))

abbrev after_two : List ℕ → Decoded → Decoded
after_two src two = cond (leb two.value 2) (plus 3 two) (after_five src (read_bits src 5 two.bio))

abbrev after_second : List ℕ → Decoded → Decoded
after_second src second =
    cond (eqb second.value 0) (record { value = 2; bio = second.bio }) (after_two src (read_bits src 2 second.bio))

abbrev after_first : List ℕ → Decoded → Decoded
after_first src first =
    cond (eqb first.value 0) (record { value = 1; bio = first.bio }) (after_second src (get_bit src first.bio))

module _ (src other : List ℕ) (w : Way) (agree : Agree src other w) where
  -- ---- a bit

  byte_there : (b : Bio) → w.first ≤ b.bp → (byte_in src b).bp ≤ w.last → byte_in other (bits_to w b) ≡ bits_to w (byte_in src b)
  unfolding byte_in
  byte_there b f h =
      let q : ℕ = w.to b.bp in
      let l : b.bp < w.last = omega (arith, agree.in_reach) in
      let e : max q (min (q + 1) (length other + reach)) ≡ q + 1 = omega (arith, agree.to_in_reach b.bp f l) in
      let g : max b.bp (min (b.bp + 1) (length src + reach)) ≡ b.bp + 1 = omega (arith, agree.in_reach) in
      rw (e, g, agree.next b.bp f l, agree.same b.bp f l)

  same_by : (b : Bio) (t : Bool) → w.first ≤ b.bp → (held_bit (cond t (byte_in src b) b)).bio.bp ≤ w.last
      → held_bit (cond t (byte_in other (bits_to w b)) (bits_to w b)) ≡ of_decoded.gone w (held_bit (cond t (byte_in src b) b))
  unfolding held_bit
  same_by b true f h = ap held_bit (byte_there b f h)
  same_by b false f h = refl

  pub same_bit : (b : Bio) → w.first ≤ b.bp → (get_bit src b).bio.bp ≤ w.last
      → get_bit other (bits_to w b) ≡ of_decoded.gone w (get_bit src b)
  unfolding get_bit
  same_bit b f h = same_by b (eqb b.ct 0) f h

  pub bit_stays : (b : Bio) → Stays w of_decoded b (get_bit src b) (get_bit other (bits_to w b))
  bit_stays b =
      let f = bit_forward src b in
      record {
        held = λ h. (omega (arith, h.0), omega (arith, bit_few src b (omega (arith, h.1))));
        inside = λ h. omega arith;
        same = λ h l. same_bit b h.0 l;
      }

  -- ---- bits

  onto_stays : (n v : ℕ) (b : Bio) → Stays w of_decoded b (read_bits_onto src n v b) (read_bits_onto other n v (bits_to w b))
  unfolding read_bits_onto
  onto_stays zero v b = here w of_decoded (record { value = v; bio = b })
  onto_stays (suc n) v b =
      then w of_decoded of_decoded b (get_bit src b) (get_bit other (bits_to w b)) (λ r. read_bits_onto src n (2 * v + r.value) r.bio)
      (λ r. read_bits_onto other n (2 * v + r.value) r.bio) (bit_stays b) (onto_stays n _ (get_bit src b).bio)

  pub bits_stay : (n : ℕ) (b : Bio) → Stays w of_decoded b (read_bits src n b) (read_bits other n (bits_to w b))
  unfolding read_bits
  bits_stay n b = onto_stays n 0 b

  -- ---- trees

  node_stays : (steps v from : ℕ) (b : Bio) → Stays w of_node b (read_node src steps v from b) (read_node other steps v from (bits_to w b))
  unfolding read_node
  node_stays zero v from b = here w of_node (record { value = v; low = from; bio = b })
  node_stays (suc steps) v from b =
      choice w of_node b (ltb from v) _ _ _ _
      (then w of_decoded of_node b (get_bit src b) (get_bit other (bits_to w b))
      (λ r. cond (eqb r.value 0) (read_node src steps v (from + 1) r.bio) (record { value = from; low = from; bio = r.bio }))
      (λ r. cond (eqb r.value 0) (read_node other steps v (from + 1) r.bio) (record { value = from; low = from; bio = r.bio }))
      (bit_stays b)
      (choice w of_node _ (eqb (get_bit src b).value 0) _ _ _ _ (node_stays steps v (from + 1) (get_bit src b).bio) (here w of_node _)))
      (here w of_node (record { value = v; low = from; bio = b }))

  pub path_stays : (base threshold : ℕ) (path : List ℕ) (parent_low : ℕ) (ws : List ℕ) (b : Bio)
      → Stays w of_path b (read_path src base threshold path parent_low ws b) (read_path other base threshold path parent_low ws (bits_to w b))
  unfolding read_path
  path_stays base threshold [] parent_low ws b = here w of_path (record { words = ws; bio = b })
  path_stays base threshold (n ∷ ns) parent_low ws b =
      let at : ℕ = base + 3 * n in
      let from : ℕ = max parent_low (low ws at) in
      let r : NodeRead = read_node src (threshold - from) (value ws at) from b in
      let after : NodeRead → List ℕ = λ r. set (set ws at r.value) (at + 1) r.low in
      then w of_node of_path b r (read_node other (threshold - from) (value ws at) from (bits_to w b))
      (λ r. read_path src base threshold ns r.low (after r) r.bio) (λ r. read_path other base threshold ns r.low (after r) r.bio)
      (node_stays (threshold - from) (value ws at) from b) (path_stays base threshold ns r.low (after r) r.bio)

  planes_from_stay : (k : Block) (bound threshold : ℕ) (ws : List ℕ) (b : Bio)
      → Stays w of_path b (read_zero_planes_from src k bound threshold ws b) (read_zero_planes_from other k bound threshold ws (bits_to w b))
  unfolding read_zero_planes_from
  planes_from_stay k zero threshold ws b = here w of_path (record { words = ws; bio = b })
  planes_from_stay k (suc bound) threshold ws b =
      let known : PathRead → Bool = λ r. ltb (value r.words (k.zero_tree + 3 * k.leaf)) threshold in
      let r : PathRead = read_path src k.zero_tree threshold (reverse k.path) 0 ws b in
      then w of_path of_path b r (read_path other k.zero_tree threshold (reverse k.path) 0 ws (bits_to w b))
      (λ r. cond (known r) r (read_zero_planes_from src k bound (threshold + 1) r.words r.bio))
      (λ r. cond (known r) r (read_zero_planes_from other k bound (threshold + 1) r.words r.bio))
      (path_stays k.zero_tree threshold (reverse k.path) 0 ws b)
      (choice w of_path r.bio (known r) _ _ _ _ (here w of_path r) (planes_from_stay k bound (threshold + 1) r.words r.bio))

  pub planes_stay : (k : Block) (r : HeaderRead)
      → Stays w of_path r.bio (read_zero_planes src k r) (read_zero_planes other k (of_header.gone w r))
  unfolding read_zero_planes
  planes_stay k r =
      choice w of_path r.bio (is_new r.words k) _ _ _ _ (planes_from_stay k (not_yet_planes + 2) 0 r.words r.bio)
      (here w of_path (record { words = r.words; bio = r.bio }))

  -- ---- pass counts

  pub passes_stay : (b : Bio) → Stays w of_decoded b (read_passes src b) (read_passes other (bits_to w b))
  unfolding read_passes
  passes_stay b =
      let first : Decoded = get_bit src b in
      let second : Decoded = get_bit src first.bio in
      let two : Decoded = read_bits src 2 second.bio in
      let five : Decoded = read_bits src 5 two.bio in
      let seven : Decoded = read_bits src 7 five.bio in
      then w of_decoded of_decoded b first (get_bit other (bits_to w b)) (after_first src) (after_first other) (bit_stays b)
      (choice w of_decoded first.bio (eqb first.value 0) _ _ _ _ (here w of_decoded _)
      (then w of_decoded of_decoded first.bio second (get_bit other (bits_to w first.bio)) (after_second src) (after_second other)
      (bit_stays first.bio)
      (choice w of_decoded second.bio (eqb second.value 0) _ _ _ _ (here w of_decoded _)
      (then w of_decoded of_decoded second.bio two (read_bits other 2 (bits_to w second.bio)) (after_two src) (after_two other)
      (bits_stay 2 second.bio)
      (choice w of_decoded two.bio (leb two.value 2) _ _ _ _ (here w of_decoded (plus 3 two))
      (then w of_decoded of_decoded two.bio five (read_bits other 5 (bits_to w two.bio)) (after_five src) (after_five other)
      (bits_stay 5 two.bio)
      (choice w of_decoded five.bio (leb five.value 30) _ _ _ _ (here w of_decoded (plus 6 five))
      (then w of_decoded of_decoded five.bio seven (read_bits other 7 (bits_to w five.bio)) (plus 37) (plus 37)
      (bits_stay 7 five.bio) (here w of_decoded (plus 37 seven))))))))))

  -- ---- runs of ones

  -- with the same bound
  ones_stay : (f n : ℕ) (b : Bio) → Stays w of_decoded b (read_ones src f n b) (read_ones other f n (bits_to w b))
  unfolding read_ones
  ones_stay zero n b = here w of_decoded (record { value = n; bio = b })
  ones_stay (suc f) n b =
      then w of_decoded of_decoded b (get_bit src b) (get_bit other (bits_to w b))
      (λ r. cond (eqb r.value 0) (record { value = n; bio = r.bio }) (read_ones src f (n + 1) r.bio))
      (λ r. cond (eqb r.value 0) (record { value = n; bio = r.bio }) (read_ones other f (n + 1) r.bio)) (bit_stays b)
      (choice w of_decoded _ (eqb (get_bit src b).value 0) _ _ _ _ (here w of_decoded _) (ones_stay f (n + 1) (get_bit src b).bio))

  pub comma_stays : (b : Bio) → Stays w of_decoded b (read_comma src b) (read_comma other (bits_to w b))
  unfolding read_comma
  comma_stays b =
      let m : ℕ = 8 * length src + 8 in
      let n : ℕ = 8 * length other + 8 in
      let s = ones_stay m 0 b in
      let both : n + m ≡ m + n = omega arith in
      record {
        held = s.held;
        inside = s.inside;
        same = λ h l.
            let e : read_ones src (m + n) 0 b ≡ read_ones src m 0 b = comma_bound src b n h.1 in
            let there = subst (λ (d : Decoded). d.bio.bp ≤ w.last) (sym e) l in
            sym (comma_bound other (bits_to w b) m h.1) ∙ ap (λ (f : ℕ). read_ones other f 0 (bits_to w b)) both
            ∙ (ones_stay (m + n) 0 b).same h there ∙ ap (of_decoded.gone w) e;
      }

-- ---- a byte, with more input

module _ (src more : List ℕ) where
  abbrev longer : List ℕ
  longer = src ++ more

  -- a byte inside the input is the same
  pub byte_inside : (b : Bio) → (byte_in src b).bp ≤ length src → byte_in longer b ≡ byte_in src b
  unfolding byte_in
  byte_inside b h =
      let l : b.bp < length src = omega arith in
      let n = length-append src more in
      let e : max b.bp (min (b.bp + 1) (length longer + reach)) ≡ b.bp + 1 = omega arith in
      let f : max b.bp (min (b.bp + 1) (length src + reach)) ≡ b.bp + 1 = omega arith in
      rw (e, f, get_or-append src more 0 b.bp l)
