-- The two refusals in order.
use mathlib.Core.Path.{◌≡◌, refl, sym}
use mathlib.Core.Bool.{Bool, true, false, cond, ◌&&◌}
use mathlib.Core.List.{List, [], ◌∷◌}
use Prim.Native.Nat.{ℕ, ◌^◌}
use lib.ListN.{length, drop}
use lib.Seq.{take-nil, drop-nil}
use lib.Dec.{ltb}
use Rattle.t800.specs.declared.Band.{Band}
use Rattle.t800.specs.Base.{any, sum}
use Rattle.t800.specs.Segments.{segments_from, segments_of}
use Rattle.t800.specs.State.{Block, blocks}
use Rattle.t800.specs.WriteHeader.{segment_too_long, field_too_wide}
use Rattle.t800_laws.proofs.Laws.Lists.{no_elements}
use Rattle.t2_narrow.specs.Narrow.{bits_up_to25}
use Rattle.t2_widths.specs.Widths.{segments_refusal}
use Rattle.t2_narrow.proofs.Laws.FewBytes.{few_neither}

pub refusal_parts : (ws : List ℕ) (ks : List Block) (cs ls ms : List ℕ) (a b : Bool) → a ≡ segment_too_long cs ls ms → b
    ≡ field_too_wide ws ks cs ls ms
    → cond a 8 (cond b 9 0) ≡ segments_refusal ws ks cs ls ms
unfolding segments_refusal
refusal_parts ws ks cs ls ms a b p q = rw (p, q)

-- ---- without lengths there is no segment

none_long : (cs ms : List ℕ) → segment_too_long cs [] ms ≡ false
unfolding segment_too_long segments_of segments_from any
none_long [] ms = refl
none_long (c ∷ cs) ms = rw (take-nil {A = ℕ} c, drop-nil {A = ℕ} c) (none_long cs (drop c ms))

none_wide : (ws : List ℕ) (ks : List Block) (cs ms : List ℕ) → field_too_wide ws ks cs [] ms ≡ false
unfolding field_too_wide segments_of segments_from any
none_wide ws [] cs ms = refl
none_wide ws (k ∷ ks) [] ms = refl
none_wide ws (k ∷ ks) (c ∷ cs) ms = rw (take-nil {A = ℕ} c, drop-nil {A = ℕ} c) (none_wide ws ks cs (drop c ms))

pub none_refused : (ws : List ℕ) (ks : List Block) (cs ls ms : List ℕ) → length ls ≡ 0 → 0 ≡ segments_refusal ws ks cs ls ms
none_refused ws ks cs ls ms e =
    rw (no_elements ls e) (refusal_parts ws ks cs [] ms false false (sym (none_long cs ms)) (sym (none_wide ws ks cs ms)))

-- ---- nor is any refused where they are few bytes

pub few_not_refused : (ws : List ℕ) (bs : List Band) (cs ls ms : List ℕ) → (ltb (sum ls) (2 ^ 24) && bits_up_to25 ws 13 bs) ≡ true
    → any (λ c. ltb 164 c) cs ≡ false
    → 0 ≡ segments_refusal ws (blocks bs) cs ls ms
few_not_refused ws bs cs ls ms e f = let r = few_neither ws bs cs ls ms e f in
    refusal_parts ws (blocks bs) cs ls ms false false (sym r.0) (sym r.1)
