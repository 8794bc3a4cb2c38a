-- Setting, coding and reading a path of a tag tree with n for m in the inclusion trees: the same bits, and n for m in the words after them,
-- where no threshold lies above m.
use mathlib.Core.Path.{◌≡◌, refl, sym, ap, ◌∙◌}
use mathlib.Core.Bool.{Bool, true}
use mathlib.Core.List.{List, [], ◌∷◌}
use Prim.Native.Nat.{ℕ, zero, suc, ◌+◌, ◌-◌, ◌*◌, ◌≤◌, ◌<◌, max}
use native.Mathlib.Omega.{arith}
use lib.ListN.{get_or, set}
use lib.Dec.{ltb, eqb}
use Rattle.t800.specs.declared.Band.{Band}
use Rattle.t800.specs.declared.Bio.{Bio}
use Rattle.t800.specs.Bits.{get_bit}
use Rattle.t800.specs.TagTree.{set_value, Coded, low_after, node_bits, known_after, code_path, NodeRead, read_node, PathRead, read_path}
use Rattle.t800_laws.proofs.Laws.Paths.{All, addresses}
use Rattle.fewer_layers.proofs.Replaced.{choice_of, replaced_word, word_below, same_above, same_min, replaced_words, value_at}
use Rattle.fewer_layers.proofs.Replaced.{replaced-set, replaced-get, Stays, stays_get, stays_set}

-- the node at a, coded or read up to the threshold t
pub record UpTo (m : ℕ) (bs : List Band) (t a : ℕ) : Type 0 where
  pub value : value_at bs a ≡ true → (0 < m) × (t ≤ m)
  pub low : Stays bs (a + 1)
  pub known : Stays bs (a + 2)

abbrev pub AllUpTo : (m : ℕ) → List Band → (t base : ℕ) → List ℕ → Type 0
AllUpTo m bs t base ns = All (UpTo m bs t) (addresses base ns)

-- n for m in the words after coding, and after a read
module _ (m n : ℕ) (bs : List Band) where
  abbrev pub replaced_coded : Coded → Coded
  replaced_coded c = record { bits = c.bits; words = replaced_words m n bs c.words }

  abbrev pub replaced_read : PathRead → PathRead
  replaced_read r = record { words = replaced_words m n bs r.words; bio = r.bio }

module _ (m n : ℕ) (more : m ≤ n) (bs : List Band) where
  abbrev R : List ℕ → List ℕ
  R ws = replaced_words m n bs ws

  value-is : (t a : ℕ) (ws : List ℕ) → UpTo m bs t a → get_or (R ws) a 0 ≡ replaced_word m n (value_at bs a) (get_or ws a 0)
  value-is t a ws u = replaced-get m n bs ws a (λ e. (u.value e).0)

  -- ---- setting

  pub leaf_replaced : (base : ℕ) (ns : List ℕ) (v : ℕ) (ws : List ℕ) → AllUpTo m bs (v + 1) base ns
      → set_value base ns v (R ws) ≡ R (set_value base ns v ws)
  unfolding set_value
  leaf_replaced base [] v ws u = refl
  leaf_replaced base (k ∷ ns) v ws u =
      let a : ℕ = base + 3 * k in
      let below : value_at bs a ≡ true → v < m = λ e. let l = (u.0.value e).1 in omega arith in
      let stored : set (R ws) a v ≡ R (set ws a v) =
      ap (λ (z : ℕ). set (R ws) a z) (sym (word_below m n (value_at bs a) v below)) ∙ sym (replaced-set m n bs ws a v) in
      choice_of R (ltb v (get_or ws a 0)) (ltb v (get_or (R ws) a 0)) _ _ _ _
      (ap (λ (z : ℕ). ltb v z) (value-is (v + 1) a ws u.0) ∙ same_above m n more (value_at bs a) (get_or ws a 0) v below)
      (ap (set_value base ns v) stored ∙ leaf_replaced base ns v (set ws a v) u.1)
      refl

  -- ---- coding

  low_same : (q : Bool) (v from t : ℕ) → (q ≡ true → t ≤ m) → low_after (replaced_word m n q v) from t ≡ low_after v from t
  unfolding low_after
  low_same q v from t f = ap (λ (z : ℕ). max from z) (same_min m n more q v t f)

  bits_same : (q : Bool) (v from known t : ℕ) → (q ≡ true → t ≤ m) → node_bits (replaced_word m n q v) from known t ≡ node_bits v from known t
  unfolding node_bits
  bits_same q v from known t f = rw (low_same q v from t f)

  known_same : (q : Bool) (v from known t : ℕ) → (q ≡ true → t ≤ m)
      → known_after (replaced_word m n q v) from known t ≡ known_after v from known t
  unfolding known_after
  known_same q v from known t f = rw (low_same q v from t f)

  pub path_coded : (base t : ℕ) (ns : List ℕ) (l : ℕ) (ws : List ℕ) → AllUpTo m bs t base ns
      → code_path base t ns l (R ws) ≡ replaced_coded m n bs (code_path base t ns l ws)
  unfolding code_path
  path_coded base t [] l ws u = refl
  path_coded base t (k ∷ ns) l ws u =
      let a : ℕ = base + 3 * k in
      let q : Bool = value_at bs a in
      let v : ℕ = get_or ws a 0 in
      let from : ℕ = max l (get_or ws (a + 1) 0) in
      let known : ℕ = get_or ws (a + 2) 0 in
      let to : ℕ = low_after v from t in
      let told : ℕ = known_after v from known t in
      let up : q ≡ true → t ≤ m = λ e. (u.0.value e).1 in
      rw (
        value-is t a ws u.0,
        stays_get m n bs ws (a + 1) u.0.low,
        stays_get m n bs ws (a + 2) u.0.known,
        bits_same q v from known t up,
        low_same q v from t up,
        known_same q v from known t up,
        stays_set m n bs ws (a + 1) to u.0.low,
        stays_set m n bs (set ws (a + 1) to) (a + 2) told u.0.known,
        path_coded base t ns to (set (set ws (a + 1) to) (a + 2) told) u.1,
      )

  -- ---- reading

  abbrev replaced_node : Bool → NodeRead → NodeRead
  replaced_node q r = record { value = replaced_word m n q r.value; low = r.low; bio = r.bio }

  -- a value that is read lies below the threshold, and so is not m
  node_read_lem : (src : List ℕ) (q : Bool) (steps v from : ℕ) (b : Bio) → (q ≡ true → 0 < steps → from + steps ≤ m)
      → read_node src steps (replaced_word m n q v) from b ≡ replaced_node q (read_node src steps v from b)
  unfolding read_node
  node_read_lem src q zero v from b f = refl
  node_read_lem src q (suc steps) v from b f =
      let below : q ≡ true → from < m = λ e. let l = f e (omega arith) in omega arith in
      let c = get_bit src b in
      choice_of (replaced_node q) (ltb from v) (ltb from (replaced_word m n q v)) _ _ _ _ (same_above m n more q v from below)
      (choice_of (replaced_node q) (eqb c.value 0) (eqb c.value 0) _ _ _ _ refl
      (node_read_lem src q steps v (from + 1) c.bio (λ e h. let l = f e (omega arith) in omega arith))
      (λ i. record { value = sym (word_below m n q from below) i; low = from; bio = c.bio }))
      refl

  pub path_read_lem : (src : List ℕ) (base t : ℕ) (ns : List ℕ) (l : ℕ) (ws : List ℕ) (b : Bio) → AllUpTo m bs t base ns
      → read_path src base t ns l (R ws) b ≡ replaced_read m n bs (read_path src base t ns l ws b)
  unfolding read_path
  path_read_lem src base t [] l ws b u = refl
  path_read_lem src base t (k ∷ ns) l ws b u =
      let a : ℕ = base + 3 * k in
      let q : Bool = value_at bs a in
      let from : ℕ = max l (get_or ws (a + 1) 0) in
      let r : NodeRead = read_node src (t - from) (get_or ws a 0) from b in
      let up : q ≡ true → 0 < t - from → from + (t - from) ≤ m = λ e h. let l = (u.0.value e).1 in omega arith in
      rw (
        value-is t a ws u.0,
        stays_get m n bs ws (a + 1) u.0.low,
        node_read_lem src q (t - from) (get_or ws a 0) from b up,
        sym (replaced-set m n bs ws a r.value),
        stays_set m n bs (set ws a r.value) (a + 1) r.low u.0.low,
        path_read_lem src base t ns r.low (set (set ws a r.value) (a + 1) r.low) r.bio u.1,
      )
