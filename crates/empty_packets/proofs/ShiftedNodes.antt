-- Nodes of an inclusion tree without a packet and with it, put in at layer t: how they are related, and what thresholds one apart make of
-- their lows.
use mathlib.Core.Path.{◌≡◌, sym, ◌∙◌}
use mathlib.Core.Bool.{Bool, true, false, ◌&&◌, true≢false, and-false}
use Prim.Native.Nat.{ℕ, ◌+◌, ◌-◌, ◌≤◌, ◌<◌, min, max}
use native.Mathlib.Omega.{arith}
use lib.Dec.{ltb, eqb}
use borrow.Author.Tests.{lt-ltb, le-ltb, ne_eqb}
use Rattle.t800.specs.State.{not_yet_included}
use Rattle.t800_laws.proofs.Laws.Tests.{on-lt}
use Rattle.round_trip.proofs.Trip.Nodes.{Node}

-- ---- values, lows and nodes

-- value v without the packet and w with it, from layer t on
pub data Later (t v w : ℕ) : Type 0 where
  one_more : t ≤ v → w ≡ v + 1 → Later t v w
  neither : t ≤ v → v ≡ not_yet_included → w ≡ not_yet_included → Later t v w

-- The node n without the packet and m with it: told before layer t and the same; not coded from there on, which only `may` allows; or one
-- later.
pub data Shifted (t : ℕ) (may : Bool) (n m : Node) : Type 0 where
  same : n.value < t → n.value ≤ n.low → n.low ≤ t → n.known ≡ 1 → m.value ≡ n.value → m.low ≡ n.low → m.known ≡ 1
      → Shifted t may n m
  fresh : may ≡ true → Later t n.value m.value → m.known ≡ n.known → n.low ≤ t → m.low ≡ n.low → Shifted t may n m
  later : Later t n.value m.value → m.known ≡ n.known → t ≤ n.low → m.low ≡ n.low + 1 → Shifted t may n m

-- the lows l and m of a parent of value v
pub data Lows (t v l m : ℕ) : Type 0 where
  equal : l ≤ t → m ≡ l → Lows t v l m
  one_up : t ≤ v → m ≡ l + 1 → Lows t v l m

pub later_from : {t v w : ℕ} → Later t v w → t ≤ v
later_from (one_more h e) = h
later_from (neither h e f) = h

pub may_be_fresh : {t : ℕ} {n m : Node} (may : Bool) → Shifted t false n m → Shifted t may n m
may_be_fresh may (same a b c d e f g) = same a b c d e f g
may_be_fresh may (fresh a b c d e) = absurd (true≢false (sym a))
may_be_fresh may (later a b c d) = later a b c d

-- ---- one node, coded with threshold u and with u + 1

pub least_later : {t v w : ℕ} (u : ℕ) → t < u → u < not_yet_included → Later t v w → (t ≤ min v u) × (min w (u + 1) ≡ min v u + 1)
least_later u h g (one_more a e) = (omega arith, omega arith)
least_later u h g (neither a e f) = (omega arith, omega arith)

pub next_below : (a b u : ℕ) → b ≡ a + 1 → ltb b (u + 1) ≡ ltb a u
next_below a b u e =
    on-lt a u
    (λ h. lt-ltb b (u + 1) (omega arith) ∙ sym (lt-ltb a u h))
    (λ h. le-ltb b (u + 1) (omega arith) ∙ sym (le-ltb a u h))

pub one_less : (a b c d : ℕ) → c ≡ a + 1 → d ≡ b + 1 → c - d ≡ a - b
one_less a b c d e f = rw (e, f) (omega arith)

-- the lows l, l' of the parents and a, b of the nodes, and what value or threshold brings: x, y
abbrev Raised : (t l l' a b x y : ℕ) → Type 0
Raised t l l' a b x y = (t ≤ max (max l a) x) × (max (max l' b) y ≡ max (max l a) x + 1)

pub raised_fresh : (t l l' a b x y : ℕ) → t ≤ x → y ≡ x + 1 → l ≤ t → l' ≡ l → a ≤ t → b ≡ a → Raised t l l' a b x y
raised_fresh t l l' a b x y h e p q r s = rw (e, q, s) (omega arith, omega arith)

pub raised_below : (t l l' a b x y : ℕ) → t ≤ x → y ≡ x + 1 → l' ≡ l + 1 → a ≤ t → b ≡ a → Raised t l l' a b x y
raised_below t l l' a b x y h e q r s = rw (e, q, s) (omega arith, omega arith)

pub raised_equal : (t l l' a b x y : ℕ) → t ≤ x → y ≡ x + 1 → l ≤ t → l' ≡ l → t ≤ a → b ≡ a + 1
    → Raised t l l' a b x y × (max l' b ≡ max l a + 1)
raised_equal t l l' a b x y h e p q r s = rw (e, q, s) ((omega arith, omega arith), omega arith)

pub raised_both : (t l l' a b x y : ℕ) → t ≤ x → y ≡ x + 1 → l' ≡ l + 1 → t ≤ a → b ≡ a + 1
    → Raised t l l' a b x y × (max l' b ≡ max l a + 1)
raised_both t l l' a b x y h e q r s = rw (e, q, s) ((omega arith, omega arith), omega arith)

pub not_raised : (v l a u : ℕ) → v ≤ a → max (max l a) (min v u) ≡ max l a
not_raised v l a u h = omega arith

pub below_both : (a t u : ℕ) → a ≤ t → t < u → (a < u) × (a < u + 1)
below_both a t u h g = (omega arith, omega arith)

pub no_less : (a b : ℕ) → a ≡ b → a - b ≡ 0
no_less a b e = omega arith

pub no_one : (b : Bool) (k : ℕ) → k ≡ 1 → (b && eqb k 0) ≡ false
no_one b k e = rw (ne_eqb k 0 (omega arith)) (and-false b)
