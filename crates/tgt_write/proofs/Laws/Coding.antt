-- Coding a node in the steps of the code, and a path node by node.
use mathlib.Core.Path.{◌≡◌, refl, sym, ap, ◌∙◌, subst}
use mathlib.Core.Bool.{Bool, true, false, cond, ◌&&◌, true≢false}
use mathlib.Core.List.{List, [], ◌∷◌, ◌++◌, append-nil}
use Prim.Native.Nat.{ℕ, zero, suc, ◌+◌, ◌-◌, ◌*◌, ◌^◌, ◌≤◌, ◌<◌, max, min}
use native.Mathlib.Nat.{suc-add, zero-add}
use native.Mathlib.Omega.{arith}
use mir.Val.{bool_byte}
use lib.Dec.{eqb, ltb, leb}
use lib.ListN.{set, replicate}
use lib.Seq.{get_or-set_other, set-get_or}
use borrow.Author.Tests.{lt-ltb, le-ltb, ltb-true, ltb-false, leb-true, eqb-true}
use Rattle.t800.specs.declared.Bio.{Bio}
use Rattle.t800.specs.TagTree.{code_path, low_after, node_bits, known_after, value, low, known}
use Rattle.t800_laws.proofs.Laws.Tests.{if-ne}
use Rattle.bio_bytes.specs.Writing.{Output, output, byte_out, make_room, put_bit, put_bits, hold_bit, FreeBitsClear}
use Rattle.bio_bytes.proofs.Laws.HeldWord.{bio_of}
use Rattle.bio_write.proofs.Laws.FreeBits.{byte_out-ct, put_bits-append, put_bits-clear}
use Rattle.bio_write.proofs.Laws.WriteChunks.{put_held}
use Rattle.tgt_write.specs.Coding.{LeafCoded, put_coded, NodeCoded, code_from, code_node, told}

-- ---- zeros only take places

zeros_held : (o : List ℕ) (p u r k : ℕ) → put_bits (output o (bio_of p u (k + r))) (replicate k 0) ≡ output o (bio_of p u r)
unfolding put_bits
zeros_held o p u r zero = λ i. output o (bio_of p u (zero-add r i))
zeros_held o p u r (suc k) =
    let e : u + 0 * 2 ^ (k + r) ≡ u = omega arith in
    ap (λ (c : ℕ). put_bits (put_bit (output o (bio_of p u c)) 0) (replicate k 0)) (suc-add k r)
    ∙ ap (λ (s : Output). put_bits s (replicate k 0)) (put_held o p u (k + r) 0)
    ∙ ap (λ (z : ℕ). put_bits (output o (bio_of p z (k + r))) (replicate k 0)) e
    ∙ zeros_held o p u r k

zeros_split : (k m : ℕ) → replicate {A = ℕ} (k + m) 0 ≡ replicate k 0 ++ replicate m 0
zeros_split zero m = ap (λ (n : ℕ). replicate {A = ℕ} n 0) (zero-add m)
zeros_split (suc k) m = ap (λ (n : ℕ). replicate {A = ℕ} n 0) (suc-add k m) ∙ ap (λ (ds : List ℕ). 0 ∷ ds) (zeros_split k m)

-- all of them in the held byte
pub zeros_end : (o : List ℕ) (b : Bio) (left : ℕ) → left ≤ b.ct → output o (bio_of b.bp b.buf (b.ct - left))
    ≡ put_bits (output o b) (replicate left 0)
zeros_end o b left h =
    let e : left + (b.ct - left) ≡ b.ct = omega arith in
    sym (zeros_held o b.bp b.buf (b.ct - left) left)
    ∙ ap (λ (c : ℕ). put_bits (output o (bio_of b.bp b.buf c)) (replicate left 0)) e

room_after : (o : Output) → make_room (byte_out o) ≡ byte_out o
unfolding make_room
room_after o = let r = byte_out-ct o in if-ne (byte_out o).bio.ct 0 (byte_out (byte_out o)) (byte_out o) (omega arith)

-- with no bit free a byte goes out first
byte_first : (o : List ℕ) (p u c d : ℕ) → 0 < d → put_bits (byte_out (output o (bio_of p u c))) (replicate d 0)
    ≡ put_bits (output o (bio_of p u 0)) (replicate d 0)
unfolding put_bits put_bit make_room byte_out
byte_first o p u c zero h = absurd (omega arith)
byte_first o p u c (suc d) h =
    ap (λ (m : Output). put_bits (output m.bytes (hold_bit m.bio 0)) (replicate d 0)) (room_after (output o (bio_of p u c)))

-- a turn of the loop
pub zeros_turn : (o : List ℕ) (b : Bio) (left : ℕ) → b.ct < left → put_bits (byte_out (output o b)) (replicate (left - b.ct) 0)
    ≡ put_bits (output o b) (replicate left 0)
zeros_turn o b left h =
    let e : b.ct + (left - b.ct) ≡ left = omega arith in
    let z : b.ct - b.ct ≡ 0 = omega arith in
    byte_first o b.bp b.buf b.ct (left - b.ct) (omega arith)
    ∙ ap (λ (c : ℕ). put_bits (output o (bio_of b.bp b.buf c)) (replicate (left - b.ct) 0)) (sym z)
    ∙ ap (λ (s : Output). put_bits s (replicate (left - b.ct) 0)) (zeros_end o b b.ct (omega arith))
    ∙ sym (put_bits-append (output o b) (replicate b.ct 0) (replicate (left - b.ct) 0))
    ∙ ap (put_bits (output o b)) (sym (zeros_split b.ct (left - b.ct)))
    ∙ ap (λ (n : ℕ). put_bits (output o b) (replicate n 0)) e

-- ---- a node

pub both : (a b : Bool) → a && b ≡ true → (a ≡ true) × (b ≡ true)
both true b e = (refl, e)
both false b e = absurd (true≢false (sym e))

module _ (t at from : ℕ) (ws : List ℕ) (o : Output) where
  -- storing known again, after a new low
  known-again : (to : ℕ) → set (set ws (at + 1) to) (at + 2) (known ws at) ≡ set ws (at + 1) to
  known-again to =
      let n : at + 2 ≡ at + 1 → ⊥ = omega arith in
      subst (λ (k : ℕ). set (set ws (at + 1) to) (at + 2) k ≡ set ws (at + 1) to) (get_or-set_other ws (at + 1) (at + 2) to 0 n)
      (set-get_or (set ws (at + 1) to) (at + 2) 0)

  -- the threshold is reached: as many zeros as low rises, and no 1
  pub code_to_threshold : (to : ℕ) → to ≡ low_after (value ws at) from t → t ≤ to
      → code_from t at from ws o ≡ record { words = set ws (at + 1) to; output = put_bits o (replicate (to - from) 0); low = to }
  unfolding code_from node_bits known_after
  code_to_threshold to e h =
      rw (sym e, le-ltb to t h, append-nil (replicate {A = ℕ} (to - from) 0), known-again to)

  -- the value is reached below it: the 1 after them
  pub code_to_value : (to : ℕ) (c : LeafCoded) → to ≡ low_after (value ws at) from t → to < t
      → c ≡ told (set ws (at + 1) to) (put_bits o (replicate (to - from) 0)) (at + 2)
      → code_from t at from ws o ≡ record { words = c.words; output = c.output; low = to }
  unfolding code_from node_bits known_after told
  code_to_value to c e h q =
      let n : at + 2 ≡ at + 1 → ⊥ = omega arith in
      rw (
        q,
        sym e,
        lt-ltb to t h,
        get_or-set_other ws (at + 1) (at + 2) to 0 n,
        put_bits-append o (replicate {A = ℕ} (to - from) 0) (cond (eqb (known ws at) 0) (1 ∷ []) []),
      )

  -- low lies at the threshold or above it
  pub code_past : t ≤ from → code_from t at from ws o ≡ record { words = set ws (at + 1) from; output = o; low = from }
  unfolding low_after put_bits
  code_past h =
      let z : from - from ≡ 0 = omega arith in
      code_to_threshold from (omega arith) h
      ∙ ap (λ (n : ℕ). record { words = set ws (at + 1) from; output = put_bits o (replicate n 0); low = from }) z

  -- the value is told
  code_known : from < t → value ws at ≤ from → known ws at ≡ 1 → code_from t at from ws o
      ≡ record { words = set ws (at + 1) from; output = o; low = from }
  unfolding code_from node_bits known_after low_after put_bits
  code_known h g k =
      let e : max from (min (value ws at) t) ≡ from = omega arith in
      let z : from - from ≡ 0 = omega arith in
      let w : set (set ws (at + 1) from) (at + 2) 1
      ≡ set ws (at + 1) from =
      subst (λ (j : ℕ). set (set ws (at + 1) from) (at + 2) j ≡ set ws (at + 1) from) k (known-again from) in
      rw (e, lt-ltb from t h, z, k, w)

  -- the same by its test
  pub code_told : from < t → leb (value ws at) from && eqb (known ws at) 1 ≡ true → code_from t at from ws o
      ≡ record { words = set ws (at + 1) from; output = o; low = from }
  code_told h e = let b = both (leb (value ws at) from) (eqb (known ws at) 1) e in code_known h (leb-true _ _ b.0) (eqb-true _ _ b.1)

pub bit_le : (b : Bool) → cond b 1 0 ≤ 1
bit_le true = omega arith
bit_le false = omega arith

pub bit_is : (b : Bool) → bool_byte b ≡ cond b 1 0
bit_is true = refl
bit_is false = refl

-- one bit, low being one under the threshold and the value not told
module _ (t at : ℕ) (ws : List ℕ) (o : Output) (pos : 1 ≤ t) (untold : known ws at ≡ 0) where
  one_by : (p : Bool) → ltb (value ws at) t ≡ p
      → code_from t at (t - 1) ws o
      ≡ record {
        words = set (set ws (at + 1) (t - cond p 1 0)) (at + 2) (cond p 1 0);
        output = put_bit o (cond p 1 0);
        low = t - cond p 1 0;
      }
  unfolding code_from node_bits known_after low_after put_bits
  one_by true e =
      let v = ltb-true (value ws at) t e in
      let m : max (t - 1) (min (value ws at) t) ≡ t - 1 = omega arith in
      let z : t - 1 - (t - 1) ≡ 0 = omega arith in
      rw (m, z, untold, lt-ltb (t - 1) t (omega arith))
  one_by false e =
      let v = ltb-false (value ws at) t e in
      let m : max (t - 1) (min (value ws at) t) ≡ t = omega arith in
      let z : t - (t - 1) ≡ 1 = omega arith in
      let d : t ≡ t - 0 = omega arith in
      rw (m, z, untold, le-ltb t t (omega arith))
      (λ i. record { words = set (set ws (at + 1) (d i)) (at + 2) 0; output = put_bit o 0; low = d i })

  pub code_one : (bit : ℕ) → bit ≡ cond (ltb (value ws at) t) 1 0
      → code_from t at (t - 1) ws o ≡ record { words = set (set ws (at + 1) (t - bit)) (at + 2) bit; output = put_bit o bit; low = t - bit }
  code_one bit e =
      one_by (ltb (value ws at) t) refl
      ∙ ap (λ (n : ℕ). record { words = set (set ws (at + 1) (t - n)) (at + 2) n; output = put_bit o n; low = t - n }) (sym e)

pub code_from-clear : (t at from : ℕ) (ws : List ℕ) (o : Output) → FreeBitsClear o.bio
    → FreeBitsClear (code_from t at from ws o).output.bio
unfolding code_from
code_from-clear t at from ws o h = put_bits-clear o (node_bits (value ws at) from (known ws at) t) h

-- ---- a path

-- its first node, and the rest from there
pub code_turn : (base t n : ℕ) (ns : List ℕ) (l : ℕ) (ws : List ℕ) (o : Output) (k : NodeCoded) → k ≡ code_node t (base + 3 * n) l ws o
    → put_coded k.output (code_path base t ns k.low k.words) ≡ put_coded o (code_path base t (n ∷ ns) l ws)
unfolding code_path code_from
code_turn base t n ns l ws o k e =
    let at : ℕ = base + 3 * n in
    let j : NodeCoded = code_node t at l ws o in
    ap (λ (j : NodeCoded). put_coded j.output (code_path base t ns j.low j.words)) e
    ∙ (λ i. record {
      words = (code_path base t (n ∷ ns) l ws).words;
      output = sym (put_bits-append o (node_bits (value ws at) (max l (low ws at)) (known ws at) t)
          (code_path base t ns j.low j.words).bits) i;
    })
