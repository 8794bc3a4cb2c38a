-- The book's records: how many bytes they have, and that each starts behind the bytes of those before it.
use mathlib.Core.Path.{◌≡◌, refl, sym, subst}
use mathlib.Core.List.{List, [], ◌∷◌}
use Prim.Native.Nat.{ℕ, ◌+◌}
use native.Mathlib.Omega.{arith}
use lib.ListN.{take, drop}
use Rattle.t800.specs.declared.SegmentRecord.{SegmentRecord}
use Rattle.t800.specs.Base.{sum}
use Rattle.t800.specs.Reports.{body_bytes}
use Rattle.t800.specs.Book.{BlockEntry, opens_at, records_from, records_of, entry_from, entry}
use Rattle.t800_laws.proofs.Laws.Tests.{either}
use Rattle.t800_laws.proofs.Laws.Starts.{StartsFrom, starts_append}

-- ---- bytes

records_from_bytes : (s p : ℕ) (now : SegmentRecord) (ls : List ℕ) → body_bytes (records_from s p now ls) ≡ now.bytes + sum ls
unfolding records_from body_bytes sum
records_from_bytes s p now [] = refl
records_from_bytes s p now (l ∷ ls) =
    let next : SegmentRecord = record { block = now.block; opens = 1; passes = 1; bytes = l; start = now.start + now.bytes } in
    let goes_on : SegmentRecord =
    record { block = now.block; opens = now.opens; passes = now.passes + 1; bytes = now.bytes + l; start = now.start } in
    either (λ (rs : List SegmentRecord). body_bytes rs ≡ now.bytes + (l + sum ls)) (opens_at s p) _ _
    (omega (arith, records_from_bytes s (p + 1) next ls))
    (omega (arith, records_from_bytes s (p + 1) goes_on ls))

-- a block's records have the bytes of its passes
pub records_bytes : (s i before p : ℕ) (ls : List ℕ) → body_bytes (records_of s i before p ls) ≡ sum ls
unfolding records_of body_bytes sum
records_bytes s i before p [] = refl
records_bytes s i before p (l ∷ ls) = records_from_bytes s (p + 1) _ ls

-- ---- starts

records_from_start : (s p : ℕ) (now : SegmentRecord) (ls : List ℕ) → StartsFrom now.start (records_from s p now ls)
unfolding records_from StartsFrom
records_from_start s p now [] = (refl, tt)
records_from_start s p now (l ∷ ls) =
    either (StartsFrom now.start) (opens_at s p) _ _
    (refl, records_from_start s (p + 1) _ ls)
    (records_from_start s (p + 1) _ ls)

records_start : (s i before p : ℕ) (ls : List ℕ) → StartsFrom before (records_of s i before p ls)
unfolding records_of StartsFrom
records_start s i before p [] = tt
records_start s i before p (l ∷ ls) = records_from_start s (p + 1) _ ls

entry-from_starts : (s i before : ℕ) (es : List BlockEntry) (cs ls : List ℕ) → StartsFrom before (entry_from s i before es cs ls).records
unfolding entry_from StartsFrom
entry-from_starts s i before [] cs ls = tt
entry-from_starts s i before (e ∷ es) [] ls = tt
entry-from_starts s i before (e ∷ es) (c ∷ cs) ls =
    starts_append before (records_of s i before e.passes (take c ls)) _ (records_start s i before e.passes (take c ls))
    (subst (λ (n : ℕ). StartsFrom (before + n) (entry_from s (i + 1) (before + sum (take c ls)) es cs (drop c ls)).records)
    (sym (records_bytes s i before e.passes (take c ls))) (entry-from_starts s (i + 1) (before + sum (take c ls)) es cs (drop c ls)))

pub entry-starts : (s : ℕ) (es : List BlockEntry) (cs ls : List ℕ) → StartsFrom 0 (entry s es cs ls).records
unfolding entry
entry-starts s es cs ls = entry-from_starts s 0 0 es cs ls
