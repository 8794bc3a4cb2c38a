-- The refusals of measuring from what the code has found: each law takes a value for each part, so that a part that is known decides.
use mathlib.Core.Path.{◌≡◌}
use mathlib.Core.Bool.{Bool, true, false, cond, not}
use mathlib.Core.List.{List}
use Prim.Native.Nat.{ℕ, ◌≤◌}
use native.Mathlib.Omega.{arith}
use lib.ListN.{length}
use lib.Dec.{ltb, eqb}
use borrow.Author.Tests.{ne_eqb}
use Rattle.t800.specs.Base.{any, sum}
use Rattle.t800.specs.State.{not_yet_included, writer, layer, bands, blocks}
use Rattle.t800.specs.Ranges.{valid_state}
use Rattle.t800.specs.WriteHeader.{Contribution}
use Rattle.t800.specs.Packet.{wrong_lists}
use Rattle.t800_laws.proofs.Laws.Lists.{lists_right}
use Rattle.t800_laws.proofs.Laws.Tests.{on-eq}
use Rattle.tcd_laws.proofs.Laws.ValidStates.{blocks-of_valid}
use Rattle.t2_widths.specs.Widths.{PassesLeft, segments_refusal}
use Rattle.t2_refusal_laws.specs.Refusals.{contribution_refusal, measure_refusal_for}
use Rattle.t2_refusals.specs.Lists.{wrong_lengths}

-- ---- the lists

pub passes_left : (p : Contribution) (n : ℕ) → wrong_lists p n ≡ false → PassesLeft p.counts p.lengths p.marks
passes_left p n h = let r = lists_right p n h in (omega (arith, r.1), omega (arith, r.1, r.2))

pub wrong_by_lengths : (ws : List ℕ) (k : ℕ) → valid_state writer ws k ≡ true → (p : Contribution) (n passes : ℕ)
    → n ≡ length (blocks (bands ws)) → (length p.counts ≤ 12288 → passes ≡ sum p.counts)
    → wrong_lengths (length p.counts) (length p.lengths) (length p.marks) n passes ≡ wrong_lists p (length (blocks (bands ws)))
unfolding wrong_lengths wrong_lists
wrong_by_lengths ws k v p n passes e f =
    let m : ℕ = length (blocks (bands ws)) in
    on-eq (length p.counts) m
    (λ h. let z : passes ≡ sum p.counts = f (omega (arith, h, blocks-of_valid writer ws k v)) in rw (e, z))
    (λ h. rw (e, ne_eqb (length p.counts) m h))

-- ---- in order

pub contribution-parts : (ws : List ℕ) (p : Contribution) (a b : Bool) (r : ℕ) → a ≡ wrong_lists p (length (blocks (bands ws))) → b
    ≡ any (λ c. ltb 164 c) p.counts
    → r ≡ segments_refusal ws (blocks (bands ws)) p.counts p.lengths p.marks → cond a 3 (cond b 7 r) ≡ contribution_refusal ws p
unfolding contribution_refusal segments_refusal
contribution-parts ws p a b r ea eb er = rw (ea, eb, er)

pub measure-parts : (ws : List ℕ) (n : ℕ) (p : Contribution) (v t : Bool) (r : ℕ) → v ≡ valid_state writer ws n → t
    ≡ eqb (layer ws) not_yet_included → r ≡ contribution_refusal ws p
    → cond (not v) 5 (cond t 6 r) ≡ measure_refusal_for ws n p
unfolding measure_refusal_for contribution_refusal
measure-parts ws n p v t r ev et er = rw (ev, et, er)
