-- Setting with a place that runs on is t800's setting of what is left of the list.
use mathlib.Core.Path.{◌≡◌, refl, sym, ap, ◌∙◌}
use mathlib.Core.Bool.{Bool, false, ◌&&◌, ◌||◌, and-false}
use mathlib.Core.List.{List, [], ◌∷◌}
use Prim.Native.Nat.{ℕ, ◌+◌, ◌≤◌}
use native.Mathlib.Omega.{arith}
use lib.ListN.{length, get_or, take, drop}
use lib.Dec.{ltb}
use Rattle.t800.specs.Base.{any}
use Rattle.t800.specs.State.{Block}
use Rattle.t800.specs.WriteHeader.{is_new, set_new_blocks}
use Rattle.t800_laws.proofs.Laws.Tests.{if-false, or_left, or_right}
use Rattle.t800_laws.proofs.Laws.Lists.{next_entry}
use Rattle.t2_write_new_rows.specs.Setting.{set_next, set_all}

pub set_is_blocks : (t : ℕ) (cs : List ℕ) (ks : List Block) (i : ℕ) (ws : List ℕ) → i + length ks ≤ length cs → set_all t cs ks i ws
    ≡ set_new_blocks t ks (drop i cs) ws
unfolding set_all set_next set_new_blocks
set_is_blocks t cs [] i ws h = refl
set_is_blocks t cs (k ∷ ks) i ws h = set_is_blocks t cs ks (i + 1) _ (omega arith)
    ∙ sym (ap (λ (ds : List ℕ). set_new_blocks t (k ∷ ks) ds ws) (next_entry cs i (omega arith)))

-- blocks without passes are not set
pub none_set : (t : ℕ) (cs : List ℕ) (ks : List Block) (i : ℕ) (ws : List ℕ) → i + length ks ≤ length cs
    → any (λ c. ltb 0 c) (take (length ks) (drop i cs)) ≡ false → set_all t cs ks i ws ≡ ws
unfolding any set_all set_next
none_set t cs [] i ws l h = refl
none_set t cs (k ∷ ks) i ws l h =
    let c : ℕ = get_or cs i 0 in
    let rest : List ℕ = take (length ks) (drop (i + 1) cs) in
    let e : take (length (k ∷ ks)) (drop i cs) ≡ c ∷ rest = ap (take (length (k ∷ ks))) (next_entry cs i (omega arith)) in
    let g : (ltb 0 c || any (λ (c : ℕ). ltb 0 c) rest) ≡ false = sym (ap (any (λ (c : ℕ). ltb 0 c)) e) ∙ h in
    let same : set_next t k c ws
    ≡ ws = if-false (is_new ws k && ltb 0 c) _ _
    (ap (λ (b : Bool). is_new ws k && b) (or_left (ltb 0 c) (any (λ (c : ℕ). ltb 0 c) rest) g) ∙ and-false (is_new ws k)) in
    ap (set_all t cs ks (i + 1)) same ∙ none_set t cs ks (i + 1) ws (omega arith) (or_right (ltb 0 c) (any (λ (c : ℕ). ltb 0 c) rest) g)
