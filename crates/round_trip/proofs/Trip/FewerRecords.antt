-- With fewer records lent a read of a header goes as with more, or ends in refusal 13.
use mathlib.Core.Path.{◌≡◌, refl, ap, ◌∙◌, subst}
use mathlib.Core.Logic.{◌⊎◌, inl, inr}
use mathlib.Core.Bool.{Bool, true, false, cond, ◌&&◌}
use mathlib.Core.List.{List, [], ◌∷◌}
use Prim.Native.Nat.{ℕ, zero, suc, ◌+◌, ◌-◌, ◌≤◌}
use native.Mathlib.Nat.{le_trans}
use lib.ListN.{length}
use lib.Dec.{ltb, eqb}
use borrow.Author.Tests.{lt-leb}
use Rattle.t800.specs.declared.Bio.{Bio}
use Rattle.t800.specs.Bits.{get_bit, ends_in_ff}
use Rattle.t800.specs.Segments.{width}
use Rattle.t800.specs.State.{Block, blocks, bands, layer, length_bits}
use Rattle.t800.specs.WriteHeader.{is_new}
use Rattle.t800.specs.ReadHeader.{HeaderRead, refused, passes_taken, read_segment, read_segments, read_included, read_new_block}
use Rattle.t800.specs.ReadHeader.{read_old_block, read_block, read_blocks, read_header}
use Rattle.t800_laws.proofs.Laws.Tests.{on-le, if-le, if-false}

-- x is read with fewer records, y with more
abbrev pub SameOr13 : HeaderRead → HeaderRead → Type 0
SameOr13 x y = (x ≡ y) ⊎ (x.refusal ≡ 13)

choice : (b : Bool) (x x' y y' : HeaderRead) → SameOr13 x x' → SameOr13 y y' → SameOr13 (cond b x y) (cond b x' y')
choice true x x' y y' p q = p
choice false x x' y y' p q = q

-- reading goes on where a test says so, which it doesn't after a refusal
then : (x y : HeaderRead) (f g : HeaderRead → HeaderRead) (on : HeaderRead → Bool)
    → ((z : HeaderRead) → z.refusal ≡ 13 → on z ≡ false) → SameOr13 x y → ((z : HeaderRead) → SameOr13 (f z) (g z))
    → SameOr13 (cond (on x) (f x) x) (cond (on y) (g y) y)
then x y f g on off (inl e) k =
    subst (λ (z : HeaderRead). SameOr13 (cond (on x) (f x) x) (cond (on z) (g z) z)) e
    (choice (on x) (f x) (g x) x x (k x) (inl refl))
then x y f g on off (inr e) k = inr (ap (λ (z : HeaderRead). z.refusal) (if-false (on x) (f x) x (off x e)) ∙ e)

module _ (src : List ℕ) (room more : ℕ) (h : room ≤ more) where
  segment : (i : ℕ) (k : Block) (n : ℕ) (r : HeaderRead) → SameOr13 (read_segment src room i k n r) (read_segment src more i k n r)
  unfolding read_segment
  segment i k n r =
      let m : ℕ = length r.records in
      choice (ltb 32 (width (length_bits r.words k.at) n)) (refused 9) (refused 9) _ _ (inl refl)
      (on-le room m
      (λ l. inr (ap (λ (z : HeaderRead). z.refusal) (if-le room m (refused 13) _ l)))
      (λ l. inl (rw (lt-leb room m l, lt-leb more m (le_trans l h)))))

  segments : (i : ℕ) (k : Block) (f left : ℕ) (r : HeaderRead)
      → SameOr13 (read_segments src room i k f left r) (read_segments src more i k f left r)
  unfolding read_segments
  segments i k zero left r = inl refl
  segments i k (suc f) left r =
      let n : ℕ = passes_taken r.words k left in
      then (read_segment src room i k n r) (read_segment src more i k n r) (read_segments src room i k f (left - n))
      (read_segments src more i k f (left - n)) (λ z. eqb z.refusal 0 && ltb 0 (left - n))
      (λ z e. ap (λ (x : ℕ). eqb x 0 && ltb 0 (left - n)) e) (segment i k n r) (λ z. segments i k f (left - n) z)

  included : (i : ℕ) (k : Block) (r : HeaderRead) → SameOr13 (read_included src room i k r) (read_included src more i k r)
  unfolding read_included
  included i k r = segments i k _ _ _

  new_block : (t i : ℕ) (k : Block) (r : HeaderRead) → SameOr13 (read_new_block src room t i k r) (read_new_block src more t i k r)
  unfolding read_new_block
  new_block t i k r = choice (ltb _ (t + 1)) _ _ _ _ (included i k _) (inl refl)

  old_block : (i : ℕ) (k : Block) (r : HeaderRead) → SameOr13 (read_old_block src room i k r) (read_old_block src more i k r)
  unfolding read_old_block
  old_block i k r = choice (eqb (get_bit src r.bio).value 0) _ _ _ _ (inl refl) (included i k _)

  block : (t i : ℕ) (k : Block) (r : HeaderRead) → SameOr13 (read_block src room t i k r) (read_block src more t i k r)
  unfolding read_block
  block t i k r = choice (is_new r.words k) _ _ _ _ (new_block t i k r) (old_block i k r)

  all_blocks : (t i : ℕ) (ks : List Block) (r : HeaderRead) → SameOr13 (read_blocks src room t i ks r) (read_blocks src more t i ks r)
  unfolding read_blocks
  all_blocks t i [] r = inl refl
  all_blocks t i (k ∷ ks) r =
      then (read_block src room t i k r) (read_block src more t i k r) (read_blocks src room t (i + 1) ks)
      (read_blocks src more t (i + 1) ks) (λ z. eqb z.refusal 0)
      (λ z e. ap (λ (x : ℕ). eqb x 0) e) (block t i k r) (λ z. all_blocks t (i + 1) ks z)

  pub fewer_records : (ws : List ℕ) (b : Bio) → SameOr13 (read_header src room ws b) (read_header src more ws b)
  unfolding read_header
  fewer_records ws b =
      let r : HeaderRead = record { refusal = 0; words = ws; bio = b; reports = []; records = [] } in
      then (read_blocks src room (layer ws) 0 (blocks (bands ws)) r) (read_blocks src more (layer ws) 0 (blocks (bands ws)) r)
      (λ z. refused 12) (λ z. refused 12) (λ z. eqb z.refusal 0 && ends_in_ff src z.bio)
      (λ z e. ap (λ (x : ℕ). eqb x 0 && ends_in_ff src z.bio) e) (all_blocks (layer ws) 0 (blocks (bands ws)) r) (λ z. inl refl)
