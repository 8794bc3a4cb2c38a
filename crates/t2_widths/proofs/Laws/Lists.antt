-- Parts of lists: a block's passes, the passes that are left.
use mathlib.Core.Path.{◌≡◌, refl, sym, subst}
use mathlib.Core.List.{List}
use Prim.Native.Nat.{ℕ, ◌+◌, ◌-◌, ◌≤◌, min}
use native.Mathlib.Omega.{arith}
use lib.ListN.{length, take, drop, length-take, length-drop}
use lib.Seq.{take_all}
use Rattle.t800.specs.Base.{sum}
use Rattle.t2_segments.specs.Segments.{PassLists}
use Rattle.t2_widths.specs.Widths.{PassesLeft}

-- a block's passes
pub part_lists : (ls ms : List ℕ) (from to c : ℕ) → to ≡ from + c → to ≤ length ls → length ls ≡ length ms → c ≤ 4294967295
    → PassLists (take (to - from) (drop from ls)) (take (to - from) (drop from ms))
part_lists ls ms from to c e h l k =
    let a : length (take (to - from) (drop from ls)) ≡ min (to - from) (length (drop from ls)) = length-take (to - from) (drop from ls) in
    let b : length (take (to - from) (drop from ms)) ≡ min (to - from) (length (drop from ms)) = length-take (to - from) (drop from ms) in
    let d : length (drop from ls) ≡ length ls - from = length-drop from ls in
    let f : length (drop from ms) ≡ length ms - from = length-drop from ms in
    (omega arith, omega arith)

-- the passes that are left
pub passes_left_after : (cs ls ms : List ℕ) (first from : ℕ) → from + sum (drop first cs) ≡ sum cs → PassesLeft cs ls ms
    → PassesLeft (drop first cs) (drop from ls) (drop from ms)
passes_left_after cs ls ms first from e h =
    let d : length (drop from ls) ≡ length ls - from = length-drop from ls in
    let f : length (drop from ms) ≡ length ms - from = length-drop from ms in
    (omega (arith, h.0), omega (arith, h.1))

-- a part up to a list's end
pub rest-is : (l : List ℕ) (from : ℕ) → take (length l - from) (drop from l) ≡ drop from l
rest-is l from = take_all (length l - from) (drop from l)
    (let d : length (drop from l) ≡ length l - from = length-drop from l in omega arith)

pub of_rests : (P : List ℕ → List ℕ → List ℕ → Type 0) (cs ls ms : List ℕ) (first from : ℕ)
    → P (drop first cs) (drop from ls) (drop from ms)
    → P (take (length cs - first) (drop first cs)) (take (length ls - from) (drop from ls)) (take (length ms - from) (drop from ms))
of_rests P cs ls ms first from h =
    subst (λ (z : List ℕ). P z (take (length ls - from) (drop from ls)) (take (length ms - from) (drop from ms))) (sym (rest-is cs first))
    (subst (λ (z : List ℕ). P (drop first cs) z (take (length ms - from) (drop from ms))) (sym (rest-is ls from))
    (subst (λ (z : List ℕ). P (drop first cs) (drop from ls) z) (sym (rest-is ms from)) h))

pub on_rests : {A : Type 0} (f : List ℕ → List ℕ → List ℕ → A) (cs ls ms : List ℕ) (first from : ℕ)
    → f (take (length cs - first) (drop first cs)) (take (length ls - from) (drop from ls)) (take (length ms - from) (drop from ms))
    ≡ f (drop first cs) (drop from ls) (drop from ms)
on_rests f cs ls ms first from =
    of_rests (λ (x y z : List ℕ). f x y z ≡ f (drop first cs) (drop from ls) (drop from ms)) cs ls ms first from refl

pub part_length : (l : List ℕ) (k from : ℕ) → length (take k (drop from l)) ≤ length l
part_length l k from = omega (arith, length-take k (drop from l), length-drop from l)
