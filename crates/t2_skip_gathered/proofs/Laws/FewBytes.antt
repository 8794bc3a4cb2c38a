-- The header bytes of segments that are right are few: an index has eight bits, and a length field sixteen.
use mathlib.Core.Path.{◌≡◌, sym, ap, ◌∙◌, subst}
use mathlib.Core.Bool.{Bool, false, ◌||◌, not}
use mathlib.Core.List.{List}
use Prim.Native.Nat.{ℕ, zero, suc, ◌+◌, ◌-◌, ◌*◌, ◌≤◌, ◌<◌}
use native.Mathlib.Omega.{arith}
use lib.ListN.{length, get_or, take, drop, length-append, length-take}
use lib.Seq.{get_or-drop}
use lib.Dec.{ltb, eqb}
use borrow.Author.Tests.{eqb-true, not-false}
use Rattle.t800.specs.PackedHeaders.{Unpacked, bad_segment, unpacked_from, unpacked}
use Rattle.t800_laws.proofs.Laws.Tests.{either-by, or_right}

abbrev AllBytes : List ℕ → Type 0
AllBytes bs = (i : ℕ) → get_or bs i 0 < 256

-- the segment in front has this index, which is a byte
index_below : (index : ℕ) (segments : List ℕ) → bad_segment index segments ≡ false → AllBytes segments → index < 256
unfolding bad_segment
index_below index segments e h =
    let field : ℕ = get_or segments 2 0 * 256 + get_or segments 3 0 in
    let first : Bool = ltb (length segments) (2 + field) || ltb field 4 || not (eqb (get_or segments 0 0) 0xff)
    || not (eqb (get_or segments 1 0) 0x61) in
    let last : Bool = eqb (get_or segments 4 0) index in
    omega (arith, eqb-true (get_or segments 4 0) index (not-false last (or_right first (not last) e)), h 4)

few_from : (bound index : ℕ) (segments : List ℕ) → AllBytes segments → (unpacked_from bound index segments).refusal ≡ 0
    → length (unpacked_from bound index segments).bytes ≤ (256 - index) * 65532
unfolding unpacked_from
few_from zero index segments h = λ e. omega arith
few_from (suc bound) index segments h =
    let field : ℕ = get_or segments 2 0 * 256 + get_or segments 3 0 in
    let P : Unpacked → Type 0 = λ u. u.refusal ≡ 0 → length u.bytes ≤ (256 - index) * 65532 in
    let rest : List ℕ = drop (2 + field) segments in
    let later : Unpacked = unpacked_from bound (index + 1) rest in
    either-by P (eqb (length segments) 0) _ _ (λ _ _. omega arith)
    (λ _. either-by P (bad_segment index segments) _ _ (λ _ e. absurd (omega (arith, e)))
    (λ f e.
    let i = index_below index segments f h in
    let tail : AllBytes rest = λ j. subst (λ (n : ℕ). n < 256) (sym (get_or-drop (2 + field) segments j 0)) (h (2 + field + j)) in
    let more = few_from bound (index + 1) rest tail e in
    let front = length-take (field - 3) (drop 5 segments) in
    let both = length-append (take (field - 3) (drop 5 segments)) later.bytes in
    let n : (256 - index) * 65532 ≡ 65532 + (256 - (index + 1)) * 65532 =
    let d : 256 - index ≡ suc (256 - (index + 1)) = omega arith in ap (λ (k : ℕ). k * 65532) d ∙ omega arith in
    omega (arith, h 2, h 3)))

pub few_bytes : (segments : List ℕ) → AllBytes segments → (unpacked segments).refusal ≡ 0 → length (unpacked segments).bytes ≤ 16776192
unfolding unpacked
few_bytes segments h e = omega (arith, few_from (length segments) 0 segments h e)
