-- Structs stored from the words of records are these records, where each starts behind the bytes of those before it and these are fewer
-- than 2^64 in all.
use mathlib.Core.Path.{◌≡◌, refl, sym, ap, ◌∙◌}
use mathlib.Core.List.{List, [], ◌∷◌, ◌++◌, append-nil}
use Prim.Native.Nat.{ℕ, zero, suc, ◌+◌, ◌*◌, ◌/◌, ◌%◌, ◌^◌, ◌≤◌, ◌<◌}
use native.Mathlib.Nat.{add-zero}
use native.Mathlib.Omega.{arith}
use lib.ListN.{length, get_or, drop, replicate, length-append, length-replicate, drop_of_length-le}
use Rattle.t800.specs.declared.SegmentRecord.{SegmentRecord}
use Rattle.t800.specs.Base.{overwrite, wiped}
use Rattle.t800.specs.Reports.{record_words, body_bytes, no_record}
use Rattle.t800_laws.proofs.Laws.Tests.{if-lt}
use Rattle.t800_laws.proofs.Laws.Lists.{record-words_length}
use Rattle.t800_laws.proofs.Laws.Starts.{StartsFrom}
use Rattle.t2_records.specs.Segments.{segment_after, last_of, record_at, filled}
use Rattle.t2_records.proofs.Stored.{stored-is_overwritten}

-- ---- the words of record i

words_at_lem : (fs : List SegmentRecord) (tail : List ℕ) (i k : ℕ) → i < length fs → k < 4
    → get_or (record_words fs ++ tail) (i * 4 + k) 0 ≡ get_or (record_words (get_or fs i no_record ∷ [])) k 0
unfolding record_words
words_at_lem [] tail i k l h = absurd (omega arith)
words_at_lem (f ∷ fs) tail zero zero l h = refl
words_at_lem (f ∷ fs) tail zero (suc zero) l h = refl
words_at_lem (f ∷ fs) tail zero (suc (suc zero)) l h = refl
words_at_lem (f ∷ fs) tail zero (suc (suc (suc zero))) l h = refl
words_at_lem (f ∷ fs) tail zero (suc (suc (suc (suc k)))) l h = absurd (omega arith)
words_at_lem (f ∷ fs) tail (suc i) k l h =
    let e : suc i * 4 + k ≡ suc (suc (suc (suc (i * 4 + k)))) = omega arith in
    ap (λ (j : ℕ). get_or (record_words (f ∷ fs) ++ tail) j 0) e ∙ words_at_lem fs tail i k (omega arith) h

-- ---- where they start

first_start : (n : ℕ) (fs : List SegmentRecord) → StartsFrom n fs → 0 < length fs → (get_or fs 0 no_record).start ≡ n
unfolding StartsFrom
first_start n [] h l = absurd (omega arith)
first_start n (f ∷ fs) h l = h.0

next_start : (n : ℕ) (fs : List SegmentRecord) (i : ℕ) → StartsFrom n fs → suc i < length fs
    → (get_or fs (suc i) no_record).start ≡ (get_or fs i no_record).start + (get_or fs i no_record).bytes
unfolding StartsFrom
next_start n [] i h l = absurd (omega arith)
next_start n (f ∷ fs) zero h l =
    first_start (n + f.bytes) fs h.1 (omega arith) ∙ ap (λ (z : ℕ). z + f.bytes) (sym h.0)
next_start n (f ∷ fs) (suc i) h l = next_start (n + f.bytes) fs i h.1 (omega arith)

start-up_to : (n : ℕ) (fs : List SegmentRecord) (i : ℕ) → StartsFrom n fs → i < length fs
    → (get_or fs i no_record).start ≤ n + body_bytes fs
unfolding StartsFrom body_bytes
start-up_to n [] i h l = absurd (omega arith)
start-up_to n (f ∷ fs) zero h l = omega (arith, h.0)
start-up_to n (f ∷ fs) (suc i) h l = omega (arith, start-up_to (n + f.bytes) fs i h.1 (omega arith))

-- ---- the records that are stored

module _ (fs : List SegmentRecord) (tail : List ℕ) (starts : StartsFrom 0 fs) (few : body_bytes fs < 2 ^ 64) where
  abbrev ws : List ℕ
  ws = record_words fs ++ tail

  after_last : (i : ℕ) (last : SegmentRecord) → i < length fs → (last.start + last.bytes) % 2 ^ 64 ≡ (get_or fs i no_record).start
      → segment_after ws i last ≡ get_or fs i no_record
  unfolding segment_after record_words
  after_last i last l e =
      let first : get_or ws (i * 4) 0 ≡ (get_or fs i no_record).block =
      ap (λ (j : ℕ). get_or ws j 0) (sym (add-zero (i * 4))) ∙ words_at_lem fs tail i 0 l (omega arith) in
      if-lt i (length ws / 4) _ _ (omega (arith, length-append (record_words fs) tail, record-words_length fs))
      ∙ (λ j. record {
        block = first j;
        opens = words_at_lem fs tail i 1 l (omega arith) j;
        passes = words_at_lem fs tail i 2 l (omega arith) j;
        bytes = words_at_lem fs tail i 3 l (omega arith) j;
        start = e j;
      })

  record_is : (i : ℕ) → i < length fs → record_at ws i ≡ get_or fs i no_record
  unfolding last_of
  record_is zero l = after_last 0 no_record l (sym (first_start 0 fs starts l))
  record_is (suc i) l =
      let r : SegmentRecord = get_or fs i no_record in
      let next = next_start 0 fs i starts l in
      ap (segment_after ws (suc i)) (record_is i (omega arith))
      ∙ after_last (suc i) r l (omega (arith, start-up_to 0 fs (suc i) starts l))

  stored-from_words : (rs : List SegmentRecord) → length fs ≤ length rs → filled ws (length fs) rs ≡ overwrite rs fs
  stored-from_words rs l = stored-is_overwritten (record_at ws) fs rs l record_is

-- ---- from zeros

no_words : (n : ℕ) → record_words (replicate n no_record) ≡ replicate (4 * n) 0
unfolding record_words
no_words zero = refl
no_words (suc n) =
    let e : suc (suc (suc (suc (4 * n)))) ≡ 4 * suc n = omega arith in
    ap (λ (l : List ℕ). 0 ∷ 0 ∷ 0 ∷ 0 ∷ l) (no_words n) ∙ ap (λ (k : ℕ). replicate k 0) e

no_starts : (n : ℕ) → StartsFrom 0 (replicate n no_record)
unfolding StartsFrom
no_starts zero = tt
no_starts (suc n) = (refl, no_starts n)

no_bytes : (n : ℕ) → body_bytes (replicate n no_record) ≡ 0
unfolding body_bytes
no_bytes zero = refl
no_bytes (suc n) = omega (arith, no_bytes n)

module _ (rs : List SegmentRecord) where
  pub found_stored : (xs : List ℕ) (fs : List SegmentRecord) → StartsFrom 0 fs → body_bytes fs < 2 ^ 64
      → length (overwrite xs (record_words fs)) ≡ length xs → length xs ≡ 4 * length rs
      → filled (overwrite xs (record_words fs)) (length fs) rs ≡ overwrite rs fs
  unfolding overwrite
  found_stored xs fs h few l e =
      let after : List ℕ = drop (length (record_words fs)) xs in
      stored-from_words fs after h few rs (omega (arith, record-words_length fs, length-append (record_words fs) after))

  pub all_stored : (xs : List ℕ) → length xs ≡ 4 * length rs → filled (wiped xs) (length rs) rs ≡ replicate (length rs) no_record
  unfolding overwrite
  all_stored xs e =
      let n : ℕ = length rs in
      let zs : List SegmentRecord = replicate n no_record in
      let k : length zs ≡ n = length-replicate n no_record in
      let words : wiped xs ≡ record_words zs ++ [] =
      ap (λ (m : ℕ). replicate m 0) e ∙ sym (no_words n) ∙ sym (append-nil (record_words zs)) in
      (λ j. filled (words j) (sym k j) rs)
      ∙ stored-from_words zs [] (no_starts n) (omega (arith, no_bytes n)) rs (omega arith)
      ∙ ap (λ (l : List SegmentRecord). zs ++ l) (drop_of_length-le rs {i = length zs} (omega arith)) ∙ append-nil zs
