-- How many bits a block takes at most, and a header.
use mathlib.Core.Path.{◌≡◌, refl, sym, ◌∙◌, subst}
use mathlib.Core.Bool.{◌&&◌}
use mathlib.Core.List.{List, [], ◌∷◌, reverse}
use Prim.Native.Nat.{ℕ, suc, ◌+◌, ◌-◌, ◌*◌, ◌^◌, ◌≤◌, ◌<◌}
use native.Mathlib.Nat.{mul-le-mul}
use native.Mathlib.Omega.{arith}
use lib.ListN.{length, get_or, set, length-set, length-reverse}
use lib.Seq.{get_or-set_same}
use lib.Dec.{ltb, eqb}
use borrow.Author.Tests.{eqb-true}
use Rattle.t800.specs.declared.Bio.{Bio}
use Rattle.t800.specs.Bits.{Decoded, get_bit, ends_in_ff}
use Rattle.t800.specs.TagTree.{PathRead, value, read_path}
use Rattle.t800.specs.PassCount.{read_passes}
use Rattle.t800.specs.Segments.{read_comma}
use Rattle.t800.specs.State.{Block, blocks, bands, end_of, layer}
use Rattle.t800.specs.State.{passes_so_far}
use Rattle.t800.specs.WriteHeader.{is_new, length_bits_before}
use Rattle.t800.specs.ReadHeader.{HeaderRead, read_zero_planes, read_included}
use Rattle.t800.specs.ReadHeader.{read_new_block, read_old_block, read_block, read_blocks, read_header}
use Rattle.t800_laws.proofs.Laws.Tests.{either, either-by}
use Rattle.t800_laws.proofs.Laws.Kept.{path_from_0, path_read_lem}
use Rattle.t800_laws.proofs.Laws.ReadValues.{passes_between}
use Rattle.bits_taken.specs.Taken.{Takes}
use Rattle.bits_taken.proofs.Laws.Taken.{AllWithin, blocks-within, takes_one, takes_then, takes_more, then_within, none_within}
use Rattle.bits_taken.proofs.Laws.Taken.{one_within, passes_taken_lem, comma_taken, path_taken, planes_taken, planes_long, segments_fit}
use Rattle.bits_taken.proofs.Laws.Taken.{segments_taken, segments_long}

module _ (src : List ℕ) (room : ℕ) where
  pub included_taken : (i : ℕ) (k : Block) (r : HeaderRead) → length k.path ≤ 7 → k.at + 4 ≤ length r.words
      → (read_included src room i k r).refusal ≡ 0
      → Takes src (2 ^ 23) r.bio (read_included src room i k r).bio
  unfolding read_included
  included_taken i k r short inside e =
      let z : PathRead = read_zero_planes src k r in
      let passes : Decoded = read_passes src z.bio in
      let inc : Decoded = read_comma src passes.bio in
      let n : ℕ = passes.value in
      let many = passes_between src z.bio in
      let bits : ℕ = length_bits_before r.words k + inc.value in
      let counted : List ℕ = set z.words k.at (passes_so_far r.words k.at + n) in
      let long : length counted ≡ length r.words = length-set z.words k.at _ ∙ planes_long src k r in
      let kept : get_or (set counted (k.at + 1) bits) (k.at + 1) 0 ≡ bits =
      get_or-set_same counted (k.at + 1) bits 0 (omega arith) in
      let fit : get_or (set counted (k.at + 1) bits) (k.at + 1) 0 ≤ 32 = segments_fit src room i k n n _ many.0 e in
      let seven = length-reverse k.path in
      let planes : ℕ = 1001 * (length (reverse k.path) * 1001) in
      let at_planes : Takes src planes r.bio z.bio = planes_taken src k r in
      let at_passes : Takes src (planes + 16) r.bio passes.bio =
      takes_then src planes 16 r.bio z.bio passes.bio at_planes (passes_taken_lem src z.bio) in
      let at_inc : Takes src (planes + 16 + (inc.value + 1)) r.bio inc.bio =
      takes_then src (planes + 16) (inc.value + 1) r.bio passes.bio inc.bio at_passes (comma_taken src passes.bio) in
      then_within src (planes + 16 + (inc.value + 1)) (n * 32) (2 ^ 23) r.bio inc.bio _ at_inc
      (segments_taken src room i k n n _ e) (omega arith)

  included_long : (i : ℕ) (k : Block) (r : HeaderRead) → (read_included src room i k r).refusal ≡ 0
      → length (read_included src room i k r).words ≡ length r.words
  unfolding read_included
  included_long i k r e =
      let vs : List ℕ = (read_zero_planes src k r).words in
      segments_long src room i k _ _ _ e ∙ simp length-set (planes_long src k r)

  pub block_taken : (t i : ℕ) (k : Block) (r : HeaderRead) → length k.path ≤ 7 → k.at + 4 ≤ length r.words → t < 65535
      → (read_block src room t i k r).refusal ≡ 0
      → Takes src (2 ^ 24) r.bio (read_block src room t i k r).bio
  unfolding read_block read_new_block read_old_block
  block_taken t i k r short inside below =
      let P : HeaderRead → Type 0 = λ s. s.refusal ≡ 0 → Takes src (2 ^ 24) r.bio s.bio in
      let ns : List ℕ = reverse k.path in
      let w : PathRead = read_path src k.incl_tree (t + 1) ns 0 r.words r.bio in
      let long : length w.words ≡ length r.words =
      (path_read_lem 0 src k.incl_tree (t + 1) ns 0 r.words r.bio (path_from_0 k.incl_tree ns)).long in
      let seven = length-reverse k.path in
      let few : length ns * (t + 1) ≤ 7 * 65535 = mul-le-mul {n₂ = 7} {m₂ = 65535} (omega arith) (omega arith) in
      let tree : Takes src (length ns * (t + 1)) r.bio w.bio = path_taken src k.incl_tree (t + 1) ns 0 r.words r.bio in
      either P (is_new r.words k) _ _
      (either P (ltb (value w.words (k.incl_tree + 3 * k.leaf)) (t + 1)) _ _
      (λ e. then_within src (length ns * (t + 1)) (2 ^ 23) (2 ^ 24) r.bio w.bio _ tree
      (included_taken i k _ short (omega arith) e) (omega arith))
      (λ e. takes_more src (length ns * (t + 1)) (2 ^ 24) r.bio w.bio (omega arith) tree))
      (either P (eqb (get_bit src r.bio).value 0) _ _ (λ e. one_within src (2 ^ 24 - 1) r.bio)
      (λ e. then_within src 1 (2 ^ 23) (2 ^ 24) r.bio (get_bit src r.bio).bio _ (takes_one src r.bio)
      (included_taken i k _ short inside e) (omega arith)))

  block_long : (t i : ℕ) (k : Block) (r : HeaderRead) → (read_block src room t i k r).refusal ≡ 0
      → length (read_block src room t i k r).words ≡ length r.words
  unfolding read_block read_new_block read_old_block
  block_long t i k r =
      let P : HeaderRead → Type 0 = λ s. s.refusal ≡ 0 → length s.words ≡ length r.words in
      let ns : List ℕ = reverse k.path in
      let w : PathRead = read_path src k.incl_tree (t + 1) ns 0 r.words r.bio in
      let long : length w.words ≡ length r.words =
      (path_read_lem 0 src k.incl_tree (t + 1) ns 0 r.words r.bio (path_from_0 k.incl_tree ns)).long in
      either P (is_new r.words k) _ _
      (either P (ltb (value w.words (k.incl_tree + 3 * k.leaf)) (t + 1)) _ _ (λ e. included_long i k _ e ∙ long) (λ e. long))
      (either P (eqb (get_bit src r.bio).value 0) _ _ (λ e. refl) (λ e. included_long i k _ e))

  pub blocks-taken : (t i : ℕ) (ks : List Block) (r : HeaderRead) → AllWithin (length r.words) ks → t < 65535
      → (read_blocks src room t i ks r).refusal ≡ 0
      → Takes src (length ks * 2 ^ 24) r.bio (read_blocks src room t i ks r).bio
  unfolding read_blocks
  blocks-taken t i [] r within below = λ e. none_within src _ r.bio
  blocks-taken t i (k ∷ ks) r within below =
      let s : HeaderRead = read_block src room t i k r in
      let most : ℕ = suc (length ks) * 2 ^ 24 in
      let one = block_taken t i k r within.0.short within.0.inside below in
      either-by (λ (z : HeaderRead). z.refusal ≡ 0 → Takes src most r.bio z.bio) (eqb s.refusal 0) _ _
      (λ q e. let a : s.refusal ≡ 0 = eqb-true s.refusal 0 q in
      then_within src (2 ^ 24) (length ks * 2 ^ 24) most r.bio s.bio _ (one a)
      (blocks-taken t (i + 1) ks s (subst (λ (n : ℕ). AllWithin n ks) (sym (block_long t i k r a)) within.1) below e) (omega arith))
      (λ q e. takes_more src (2 ^ 24) most r.bio s.bio (omega arith) (one e))

  pub header_taken : (ws : List ℕ) (b : Bio) → length (blocks (bands ws)) ≤ 12288 → end_of 13 (bands ws) ≤ length ws → layer ws < 65535
      → (read_header src room ws b).refusal ≡ 0
      → Takes src (2 ^ 38) b (read_header src room ws b).bio
  unfolding read_header
  header_taken ws b few inside below =
      let ks : List Block = blocks (bands ws) in
      let r : HeaderRead = record { refusal = 0; words = ws; bio = b; reports = []; records = [] } in
      let s : HeaderRead = read_blocks src room (layer ws) 0 ks r in
      either (λ (z : HeaderRead). z.refusal ≡ 0 → Takes src (2 ^ 38) b z.bio) (eqb s.refusal 0 && ends_in_ff src s.bio) _ _
      (λ e. absurd (omega arith))
      (λ e. takes_more src (length ks * 2 ^ 24) (2 ^ 38) b s.bio (omega arith)
      (blocks-taken (layer ws) 0 ks r (blocks-within (length ws) (bands ws) inside) below e))
