-- What a packet that is put leaves, with room for it and without; and the state that becomes the scratch.
use mathlib.Core.Path.{◌≡◌, sym, ap, ◌∙◌}
use mathlib.Core.Bool.{Bool, true, not}
use mathlib.Core.List.{List, ◌++◌}
use Prim.Native.Nat.{ℕ, ◌+◌, ◌≤◌}
use native.Mathlib.Omega.{arith}
use lib.ListN.{length, get_or, set, drop, length-append}
use lib.Seq.{sets, sets-eq, get_or-set_same}
use lib.Dec.{leb, ltb}
use borrow.Author.Tests.{lt-ltb, le-ltb, leb-true, leb-false, not-true}
use Rattle.t800.specs.declared.Markers.{Markers}
use Rattle.t800.specs.Base.{overwrite}
use Rattle.t800.specs.TagTree.{Coded}
use Rattle.t800.specs.State.{layer}
use Rattle.t800.specs.WriteHeader.{Contribution, code_absent, code_header}
use Rattle.t800.specs.Packet.{front, packet}
use Rattle.t800_laws.proofs.Laws.Tests.{if-true, if-false}
use Rattle.t800_laws.proofs.Laws.Contributes.{absent-header}
use Rattle.t2_refusal_laws.proofs.Laws.NotRefused.{NotRefused, no_passes_lem}
use Rattle.t2_write_header.specs.Header.{HeaderCoded}
use Rattle.t2_write_packet.specs.Front.{BytesPut, bytes_put, put_bytes, put_front}
use Rattle.t2_write_packet.proofs.Laws.Front.{put_append}
use Rattle.t2_put_packet.specs.Put.{PacketPut}

pub room_left : (t : Bool) (m n : ℕ) → t ≡ leb m n → t ≡ true → m ≤ n
room_left t m n c k = leb-true m n (sym c ∙ k)

-- ---- put

module _ (ws : List ℕ) (p : Contribution) (body : List ℕ) (m : Markers) (number : ℕ) (output : List ℕ) (h : HeaderCoded)
    (f : h ≡ put_front p ws m number output) where
  abbrev made : List ℕ
  made = packet ws p body m number

  abbrev head : List ℕ
  head = front ws p m number

  bytes_made : length made ≡ length head + length body
  unfolding packet
  bytes_made = length-append head body

  end_is : h.end ≡ length head
  unfolding put_front
  end_is = ap (λ (k : HeaderCoded). k.end) f

  words_are : h.words ≡ (code_header p ws).words
  unfolding put_front
  words_are = ap (λ (k : HeaderCoded). k.words) f

  pub put_without_room : (t : Bool) → t ≡ leb (h.end + length body) (length h.bytes) → not t ≡ true
      → length h.bytes ≡ length output
      → PacketPut ws p body m number output (record { refusal = 11; bytes = 0 }) h.words h.bytes
  put_without_room t r k b = record {
    answer = sym (if-true (ltb (length output) (length made)) _ _
        (lt-ltb (length output) (length made)
        (omega (arith, end_is, bytes_made, leb-false (h.end + length body) (length h.bytes) (sym r ∙ not-true t k), b))));
    scratch = words_are;
    output-if = λ e. absurd (omega (arith, e));
  }

  pub put_done : (o : BytesPut) → h.end + length body ≤ length output → o ≡ put_bytes (bytes_put h.bytes h.end) body
      → PacketPut ws p body m number output (record { refusal = 0; bytes = o.end }) h.words o.bytes
  unfolding put_front packet overwrite
  put_done o k b =
      let n : length made ≡ length head + length body = bytes_made in
      let from : length head ≡ 0 + length head = omega arith in
      let to : 0 + length made ≡ length made = omega arith in
      let q : o ≡ put_bytes (bytes_put output 0) (head ++ body) =
      b ∙ ap (λ (z : HeaderCoded). put_bytes (bytes_put z.bytes z.end) body) f
      ∙ ap (λ (z : ℕ). put_bytes (bytes_put (sets output 0 head) z) body) from ∙ put_append (bytes_put output 0) head body in
      let r : sets output 0 made ≡ overwrite output made = sets-eq made output 0 (omega (arith, end_is, n))
      ∙ ap (λ (z : ℕ). made ++ drop z output) to in
      record {
        answer = (λ i. record { refusal = 0; bytes = (q i).end }) ∙ (λ i. record { refusal = 0; bytes = to i })
            ∙ sym (if-false (ltb (length output) (length made)) _ _
            (le-ltb (length output) (length made) (omega (arith, end_is, n))));
        scratch = words_are;
        output-if = λ e. ap (λ (z : BytesPut). z.bytes) q ∙ r;
      }

-- ---- the state becomes the scratch

pub layer-settled : (ws vs : List ℕ) → 13 ≤ length ws → vs ≡ set ws 3 (layer ws + 1) → set ws 3 (get_or vs 3 0) ≡ vs
layer-settled ws vs l e =
    ap (set ws 3) (ap (λ (xs : List ℕ). get_or xs 3 0) e ∙ get_or-set_same ws 3 (layer ws + 1) 0 (omega arith)) ∙ sym e

-- without passes the next layer is the only word that a header changes
pub layer-alone : (ws : List ℕ) (n : ℕ) (p : Contribution) (vs : List ℕ) → NotRefused ws n p → vs ≡ (code_header p ws).words
    → length p.lengths ≡ 0 → vs ≡ set ws 3 (layer ws + 1)
unfolding code_absent
layer-alone ws n p vs r f e = f ∙ ap (λ (c : Coded). c.words) (absent-header p ws (no_passes_lem ws n p r e))
