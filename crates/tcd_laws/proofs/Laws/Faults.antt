-- Loops that gather a fault: it is 0 exactly as long as the test holds at each place passed.
use mathlib.Core.Path.{◌≡◌, refl, ap₂, ◌∙◌}
use mathlib.Core.Bool.{Bool, true, false, cond, ◌&&◌, ◌||◌}
use Prim.Native.Nat.{ℕ, zero, suc, ◌+◌, ◌<◌}
use native.Mathlib.Numerals.{add-one}
use native.Mathlib.Omega.{arith}
use lib.Bits.{bit_or, bit_and, or_comm}
use lib.Dec.{eqb}
use Rattle.t800.specs.Base.{every}
use Rattle.t800_laws.proofs.Laws.Tests.{on-eq}
use Rattle.tcd_laws.specs.Parts.{fault}

pub fault-both : (a b : Bool) → bit_or (fault a) (fault b) ≡ fault (a && b)
fault-both true true = refl
fault-both true false = refl
fault-both false true = refl
fault-both false false = refl

pub fault-either : (a b : Bool) → bit_and (fault a) (fault b) ≡ fault (a || b)
fault-either true true = refl
fault-either true false = refl
fault-either false true = refl
fault-either false false = refl

pub chosen_fault : (t a b : Bool) → cond t (fault a) (fault b) ≡ fault (cond t a b)
chosen_fault true a b = refl
chosen_fault false a b = refl

pub fault-three : (x y z : ℕ) (a b c : Bool) → x ≡ fault a → y ≡ fault b → z ≡ fault c → bit_or (bit_or x y) z ≡ fault (a && b && c)
fault-three x y z a b c p q r = ap₂ bit_or (ap₂ bit_or p q ∙ fault-both a b) r ∙ fault-both (a && b) c

pub fault-is_zero : (t : Bool) → eqb (fault t) 0 ≡ t
fault-is_zero true = refl
fault-is_zero false = refl

-- one place more; `every` takes the last place first
pub faults_turn : (f : ℕ → Bool) (i faults m : ℕ) → faults ≡ fault (every i f) → m ≡ fault (f i) → bit_or faults m ≡ fault (every (i + 1) f)
unfolding every
faults_turn f i faults m p q = rw (p, q, add-one) (or_comm (fault (every i f)) (fault (f i)) ∙ fault-both (f i) (every i f))

-- at the loop's end
pub faults_end : (f : ℕ → Bool) (n i faults : ℕ) → i ≡ n → faults ≡ fault (every i f) → eqb faults 0 ≡ every n f
faults_end f n i faults e p = rw (p, e) (fault-is_zero (every n f))

-- ---- `every`, from its places

pub every_true : (n : ℕ) (f : ℕ → Bool) → ((k : ℕ) → k < n → f k ≡ true) → every n f ≡ true
unfolding every
every_true zero f h = refl
every_true (suc n) f h = rw (h n (omega arith), every_true n f (λ k l. h k (omega arith)))

pub every_false : (n : ℕ) (f : ℕ → Bool) (k : ℕ) → k < n → f k ≡ false → every n f ≡ false
unfolding every
every_false zero f k h e = absurd (omega arith)
every_false (suc n) f k h e = on-eq k n (λ q. let here : f n ≡ false = rw q at e in rw here)
    (λ q. rw (every_false n f k (omega arith) e) (either_way (f n)))
  where
    either_way : (t : Bool) → (t && false) ≡ false
    either_way true = refl
    either_way false = refl
