-- Paths of an inclusion tree without a packet and with it, put in at layer t: coded with thresholds one apart their nodes put the same bits and
-- stay related.
use mathlib.Core.Path.{◌≡◌, refl, sym, ap₂, ◌∙◌}
use mathlib.Core.Bool.{Bool, false, cond, ◌&&◌, true≢false}
use mathlib.Core.List.{List, [], ◌∷◌, ◌++◌}
use Prim.Native.Nat.{ℕ, ◌+◌, ◌-◌, ◌≤◌, ◌<◌, max}
use native.Mathlib.Nat.{le_trans, le_of_eq, max-le, le-max_right}
use native.Mathlib.Omega.{arith}
use lib.ListN.{replicate}
use lib.Dec.{ltb, eqb}
use Rattle.t800.specs.State.{not_yet_included}
use Rattle.t800_laws.proofs.Laws.Tests.{if-lt}
use Rattle.round_trip.proofs.Trip.Nodes.{Node, low_out, puts_one, bits_of_node, node_after, bits_of_path, nodes_after, Increasing}
use Rattle.empty_packets.proofs.ShiftedNodes.{Later, Shifted, same, fresh, later, Lows, equal, one_up, later_from, least_later, next_below, one_less, raised_fresh, raised_below, raised_equal, raised_both, not_raised, below_both, no_less, no_one}

-- what coding the nodes n and m from the lows l and l' of their parents comes to
pub record NodeCoded (t u l l' : ℕ) (n m : Node) (may : Bool) : Type 0 where
  pub lows : Lows t n.value (low_out u l n) (low_out (u + 1) l' m)
  pub after : Shifted t false (node_after u l n) (node_after (u + 1) l' m)
  pub bits : may ≡ false → bits_of_node (u + 1) l' m ≡ bits_of_node u l n

module _ (t u : ℕ) (h : t < u) (g : u < not_yet_included) where
  same_bits : (l l' : ℕ) (n m : Node) → low_out (u + 1) l' m - max l' m.low ≡ low_out u l n - max l n.low
      → puts_one (u + 1) l' m ≡ puts_one u l n → bits_of_node (u + 1) l' m ≡ bits_of_node u l n
  unfolding bits_of_node
  same_bits l l' n m a b = ap₂ (λ (k : ℕ) (p : Bool). replicate {A = ℕ} k 0 ++ cond p (1 ∷ []) []) a b

  -- both lows one apart after it
  one_later : (l l' : ℕ) (n m : Node) (may : Bool) → Later t n.value m.value → m.known ≡ n.known → t ≤ low_out u l n
      → low_out (u + 1) l' m ≡ low_out u l n + 1 → (may ≡ false → max l' m.low ≡ max l n.low + 1) → NodeCoded t u l l' n m may
  unfolding node_after
  one_later l l' n m may v k lo up from =
      let below : ltb (low_out (u + 1) l' m) (u + 1) ≡ ltb (low_out u l n) u = next_below (low_out u l n) (low_out (u + 1) l' m) u up in
      record {
        lows = one_up (later_from v) up;
        after = later v (ap₂ (λ (b : Bool) (z : ℕ). cond b 1 z) below k) lo up;
        bits = λ f. same_bits l l' n m (one_less (low_out u l n) (max l n.low) _ _ up (from f))
            (ap₂ (λ (b : Bool) (z : ℕ). b && eqb z 0) below k);
      }

  stays_told : (l l' : ℕ) (n m : Node) (may : Bool) → l ≤ t → l' ≡ l → n.value < t → n.value ≤ n.low → n.low ≤ t → n.known ≡ 1
      → m.value ≡ n.value → m.low ≡ n.low → m.known ≡ 1 → NodeCoded t u l l' n m may
  unfolding node_after
  stays_told l l' n m may hl el v lo hi k ev elo ek =
      let a : low_out u l n ≡ max l n.low = not_raised n.value l n.low u lo in
      let b : low_out (u + 1) l' m ≡ max l' m.low = not_raised m.value l' m.low (u + 1) (rw (ev, elo) lo) in
      let low : low_out (u + 1) l' m ≡ low_out u l n = b ∙ ap₂ max el elo ∙ sym a in
      let top : max l n.low ≤ t = max-le hl hi in
      let up : low_out u l n ≤ t = le_trans (le_of_eq a) top in
      let up' : low_out (u + 1) l' m ≤ t = le_trans (le_of_eq low) up in
      record {
        lows = equal up low;
        after = same v (le_trans (le_trans lo (le-max_right l n.low)) (le_of_eq (sym a))) up
            (if-lt (low_out u l n) u 1 n.known (below_both _ t u up h).0) ev low
            (if-lt (low_out (u + 1) l' m) (u + 1) 1 m.known (below_both _ t u up' h).1);
        bits = λ f. same_bits l l' n m (no_less _ _ b ∙ sym (no_less _ _ a))
            (no_one (ltb (low_out (u + 1) l' m) (u + 1)) m.known ek ∙ sym (no_one (ltb (low_out u l n) u) n.known k));
      }

  node_coded_lem : (may : Bool) (v l l' : ℕ) {n m : Node} → v ≤ n.value → Lows t v l l' → Shifted t may n m → NodeCoded t u l l' n m may
  node_coded_lem may v l l' {n} {m} w (equal a b) (same c d e f p q r) = stays_told l l' n m may a b c d e f p q r
  node_coded_lem may v l l' w (one_up a b) (same c d e f p q r) = absurd (omega arith)
  node_coded_lem may v l l' {n} {m} w (equal a b) (fresh f c d e p) =
      let q = least_later u h g c in
      let r = raised_fresh t l l' n.low m.low _ _ q.0 q.1 a b e p in
      one_later l l' n m may c d r.0 r.1 (λ z. absurd (true≢false (sym f ∙ z)))
  node_coded_lem may v l l' {n} {m} w (one_up a b) (fresh f c d e p) =
      let q = least_later u h g c in
      let r = raised_below t l l' n.low m.low _ _ q.0 q.1 b e p in
      one_later l l' n m may c d r.0 r.1 (λ z. absurd (true≢false (sym f ∙ z)))
  node_coded_lem may v l l' {n} {m} w (equal a b) (later c d e p) =
      let q = least_later u h g c in
      let r = raised_equal t l l' n.low m.low _ _ q.0 q.1 a b e p in
      one_later l l' n m may c d r.0.0 r.0.1 (λ z. r.1)
  node_coded_lem may v l l' {n} {m} w (one_up a b) (later c d e p) =
      let q = least_later u h g c in
      let r = raised_both t l l' n.low m.low _ _ q.0 q.1 b e p in
      one_later l l' n m may c d r.0.0 r.0.1 (λ z. r.1)

-- ---- a path from the root

pub data AllShifted (t : ℕ) (may : Bool) : List Node → List Node → Type 0 where
  nil : AllShifted t may [] []
  cons : {n m : Node} {ns ms : List Node} → Shifted t may n m → AllShifted t may ns ms → AllShifted t may (n ∷ ns) (m ∷ ms)

module _ (t u : ℕ) (h : t < u) (g : u < not_yet_included) where
  pub path_after : (may : Bool) (v l l' : ℕ) {ns ms : List Node} → Increasing v ns → Lows t v l l' → AllShifted t may ns ms
      → AllShifted t false (nodes_after u l ns) (nodes_after (u + 1) l' ms)
  unfolding nodes_after
  path_after may v l l' i o nil = nil
  path_after may v l l' i o (cons {n = n} {m = m} s ss) =
      let c = node_coded_lem t u h g may v l l' i.0 o s in
      cons c.after (path_after may n.value (low_out u l n) (low_out (u + 1) l' m) i.1 c.lows ss)

  pub path_bits_lem : (v l l' : ℕ) {ns ms : List Node} → Increasing v ns → Lows t v l l' → AllShifted t false ns ms
      → bits_of_path (u + 1) l' ms ≡ bits_of_path u l ns
  unfolding bits_of_path
  path_bits_lem v l l' i o nil = refl
  path_bits_lem v l l' i o (cons {n = n} {m = m} s ss) =
      let c = node_coded_lem t u h g false v l l' i.0 o s in
      ap₂ (λ (x y : List ℕ). x ++ y) (c.bits refl)
      (path_bits_lem n.value (low_out u l n) (low_out (u + 1) l' m) i.1 c.lows ss)
