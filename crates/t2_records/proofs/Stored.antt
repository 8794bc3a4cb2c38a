-- Records stored in order: their count, and that they stand over the front of the list.
use Rattle.std.proofs.Common.{◌≡◌, ℕ, zero, suc, ◌+◌, ◌<◌, ◌≤◌, List, [], ◌∷◌, length, get_or, set, refl, ap, ◌∙◌, arith, length-set}
use Rattle.t800.specs.declared.SegmentRecord.{SegmentRecord}
use Rattle.t800.specs.Base.{overwrite}
use Rattle.t800.specs.Reports.{no_record}
use Rattle.t2_records.specs.Segments.{last_of, record_at, stored}

pub last_none : (ws : List ℕ) → last_of ws 0 ≡ no_record
unfolding last_of
last_none ws = refl

pub last_turn : (ws : List ℕ) (i : ℕ) → record_at ws i ≡ last_of ws (i + 1)
unfolding last_of
last_turn ws i = let e : suc i ≡ i + 1 = omega arith in ap (last_of ws) e

module _ (f : ℕ → SegmentRecord) where
  pub stored-none : (rs : List SegmentRecord) → stored f 0 rs ≡ rs
  unfolding stored
  stored-none rs = refl

  pub stored-turn : (n : ℕ) (rs : List SegmentRecord) → set (stored f n rs) n (f n) ≡ stored f (n + 1) rs
  unfolding stored
  stored-turn n rs = let e : suc n ≡ n + 1 = omega arith in ap (λ (m : ℕ). stored f m rs) e

  pub stored-length : (n : ℕ) (rs : List SegmentRecord) → length (stored f n rs) ≡ length rs
  unfolding stored
  stored-length zero rs = refl
  stored-length (suc n) rs = length-set (stored f n rs) n (f n) ∙ stored-length n rs

-- ---- records that are stored in order over the front of a list

stored-cons : (f : ℕ → SegmentRecord) (n : ℕ) (r : SegmentRecord) (rs : List SegmentRecord)
    → stored f (suc n) (r ∷ rs) ≡ f 0 ∷ stored (λ i. f (suc i)) n rs
unfolding stored
stored-cons f zero r rs = refl
stored-cons f (suc n) r rs = ap (λ (l : List SegmentRecord). set l (suc n) (f (suc n))) (stored-cons f n r rs)

pub stored-is_overwritten : (f : ℕ → SegmentRecord) (fs rs : List SegmentRecord) → length fs ≤ length rs
    → ((i : ℕ) → i < length fs → f i ≡ get_or fs i no_record) → stored f (length fs) rs ≡ overwrite rs fs
unfolding stored overwrite
stored-is_overwritten f [] rs l h = refl
stored-is_overwritten f (a ∷ fs) [] l h = absurd (omega arith)
stored-is_overwritten f (a ∷ fs) (r ∷ rs) l h =
    stored-cons f (length fs) r rs
    ∙ (λ j. h 0 (omega arith) j ∷ stored-is_overwritten (λ i. f (suc i)) fs rs (omega arith) (λ i k. h (suc i) (omega arith)) j)
