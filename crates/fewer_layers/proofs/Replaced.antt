-- What n for m in the inclusion trees makes of a word, of a store and of a choice; and which words it leaves as they are: the first
-- thirteen, each node's second and third, the zero-plane trees' and the blocks'.
use mathlib.Core.Path.{◌≡◌, refl, sym, ap, ◌∙◌}
use mathlib.Core.Logic.{◌≢◌, inl, inr}
use mathlib.Core.Bool.{Bool, true, false, cond, ◌&&◌, true≢false}
use mathlib.Core.List.{List, [], ◌∷◌}
use Prim.Native.Nat.{ℕ, zero, suc, ◌+◌, ◌-◌, ◌*◌, ◌/◌, ◌%◌, ◌≤◌, ◌<◌, min}
use native.Mathlib.Omega.{arith}
use lib.ListN.{length, get_or, set, get_or-eq_default}
use lib.Dec.{ltb, leb, eqb}
use borrow.Author.Tests.{leb-true, ltb-true, eqb-true, eq-eqb, ne_eqb, lt-ltb, le-ltb}
use Rattle.t800.specs.declared.Band.{Band}
use Rattle.t800.specs.State.{band_nodes, band_length, bands}
use Rattle.t800.specs.FewerLayers.{is_inclusion_value, replaced_from, replaced}
use Rattle.t800_laws.proofs.Laws.Tests.{on-lt, on-eq, and_left, and_right}
use Rattle.t800_laws.proofs.Laws.Checks.{on_bool}
use Rattle.t800_laws.proofs.Laws.FirstWords.{same_bands}
use Rattle.t800_laws.proofs.Laws.Layout.{Tree, inclusion, zero_planes, NodeFrom, BlockFrom, layout_of, second_no_node, third_no_node}

-- ---- a choice between two images under one function

-- each branch is looked at only where it is chosen
pub choice-by {ℓ κ} : {A : Type ℓ} {B : Type κ} (f : A → B) (b c : Bool) (x y : A) (x₁ y₁ : B) → c ≡ b → (b ≡ true → x₁ ≡ f x)
    → (b ≡ false → y₁ ≡ f y) → cond c x₁ y₁ ≡ f (cond b x y)
choice-by f true c x y x₁ y₁ e p q = ap (λ (t : Bool). cond t x₁ y₁) e ∙ p refl
choice-by f false c x y x₁ y₁ e p q = ap (λ (t : Bool). cond t x₁ y₁) e ∙ q refl

pub choice_of {ℓ κ} : {A : Type ℓ} {B : Type κ} (f : A → B) (b c : Bool) (x y : A) (x₁ y₁ : B) → c ≡ b → x₁ ≡ f x → y₁ ≡ f y
    → cond c x₁ y₁ ≡ f (cond b x y)
choice_of f b c x y x₁ y₁ e p q = choice-by f b c x y x₁ y₁ e (λ t. p) (λ t. q)

pub same-choice {ℓ κ} : {A : Type ℓ} {B : Type κ} (f : A → B) (b : Bool) (x y : A) → cond b (f x) (f y) ≡ f (cond b x y)
same-choice f b x y = choice_of f b b x y (f x) (f y) refl refl refl

-- ---- one word

-- n for m where the test says so
abbrev pub replaced_word : (m n : ℕ) → Bool → ℕ → ℕ
replaced_word m n q v = cond (q && eqb v m) n v

module _ (m n : ℕ) (q : Bool) (v : ℕ) where
  pub word_below : (q ≡ true → v < m) → replaced_word m n q v ≡ v
  word_below f = on_bool q (λ t. let l = f t in let e = ne_eqb v m (omega arith) in rw (t, e)) (λ t. rw t)

  -- it is the same word, or n for m
  pub on_word {ℓ} : (P : ℕ → Type ℓ) → P v → (q ≡ true → v ≡ m → P n) → P (replaced_word m n q v)
  on_word P p f = on_bool q
      (λ t. on-eq v m (λ e. rw (t, eq-eqb v m e) (f t e)) (λ e. rw (t, ne_eqb v m e) p))
      (λ t. rw t p)

-- n lies above every number below m, as m does; and not below a threshold up to m, so that the less of the two is that threshold
pub same_above : (m n : ℕ) → m ≤ n → (q : Bool) (v t : ℕ) → (q ≡ true → t < m) → ltb t (replaced_word m n q v) ≡ ltb t v
same_above m n more q v t f =
    on_word m n q v (λ w. ltb t w ≡ ltb t v) refl
    (λ e i. let l = f e in lt-ltb t n (omega arith) ∙ sym (lt-ltb t v (omega arith)))

pub same_below : (m n : ℕ) → m ≤ n → (q : Bool) (v t : ℕ) → (q ≡ true → t ≤ m) → ltb (replaced_word m n q v) t ≡ ltb v t
same_below m n more q v t f =
    on_word m n q v (λ w. ltb w t ≡ ltb v t) refl
    (λ e i. let l = f e in le-ltb n t (omega arith) ∙ sym (le-ltb v t (omega arith)))

pub same_min : (m n : ℕ) → m ≤ n → (q : Bool) (v t : ℕ) → (q ≡ true → t ≤ m) → min (replaced_word m n q v) t ≡ min v t
same_min m n more q v t f = on_word m n q v (λ w. min w t ≡ min v t) refl (λ e i. let l = f e in omega arith)

-- ---- the words of a state with these bands

-- whether word i is the value of a node of an inclusion tree
abbrev pub value_at : List Band → ℕ → Bool
value_at bs i = is_inclusion_value 13 bs i

abbrev pub Stays : List Band → ℕ → Type 0
Stays bs i = value_at bs i ≡ false

module _ (m n : ℕ) (bs : List Band) where
  abbrev pub replaced_words : List ℕ → List ℕ
  replaced_words ws = replaced_from m n bs 0 ws

  length_from : (p : ℕ) (ws : List ℕ) → length (replaced_from m n bs p ws) ≡ length ws
  unfolding replaced_from
  length_from p [] = refl
  length_from p (w ∷ ws) = ap suc (length_from (p + 1) ws)

  pub replaced-length : (ws : List ℕ) → length (replaced_words ws) ≡ length ws
  replaced-length ws = length_from 0 ws

  set_from : (p : ℕ) (ws : List ℕ) (i v : ℕ)
      → replaced_from m n bs p (set ws i v) ≡ set (replaced_from m n bs p ws) i (replaced_word m n (value_at bs (p + i)) v)
  unfolding replaced_from
  set_from p [] i v = refl
  set_from p (w ∷ ws) zero v =
      let e : p + 0 ≡ p = omega arith in
      ap (λ (z : ℕ). replaced_word m n (value_at bs z) v ∷ replaced_from m n bs (p + 1) ws) (sym e)
  set_from p (w ∷ ws) (suc i) v =
      let e : p + 1 + i ≡ p + suc i = omega arith in
      let x : ℕ = replaced_word m n (value_at bs p) w in
      let rest : List ℕ = replaced_from m n bs (p + 1) ws in
      ap (λ (z : List ℕ). x ∷ z)
      (set_from (p + 1) ws i v ∙ ap (λ (z : ℕ). set rest i (replaced_word m n (value_at bs z) v)) e)

  pub replaced-set : (ws : List ℕ) (i v : ℕ) → replaced_words (set ws i v) ≡ set (replaced_words ws) i (replaced_word m n (value_at bs i) v)
  replaced-set ws i v =
      let e : 0 + i ≡ i = omega arith in
      set_from 0 ws i v ∙ ap (λ (z : ℕ). set (replaced_words ws) i (replaced_word m n (value_at bs z) v)) e

  get_from : (p : ℕ) (ws : List ℕ) (i : ℕ) → i < length ws
      → get_or (replaced_from m n bs p ws) i 0 ≡ replaced_word m n (value_at bs (p + i)) (get_or ws i 0)
  unfolding replaced_from
  get_from p [] i h = absurd (omega arith)
  get_from p (w ∷ ws) zero h =
      let e : p + 0 ≡ p = omega arith in
      ap (λ (z : ℕ). replaced_word m n (value_at bs z) w) (sym e)
  get_from p (w ∷ ws) (suc i) h =
      let e : p + 1 + i ≡ p + suc i = omega arith in
      get_from (p + 1) ws i (omega arith) ∙ ap (λ (z : ℕ). replaced_word m n (value_at bs z) (get_or ws i 0)) e

  -- past the end stands 0, which is not m
  pub replaced-get : (ws : List ℕ) (i : ℕ) → (value_at bs i ≡ true → 0 < m)
      → get_or (replaced_words ws) i 0 ≡ replaced_word m n (value_at bs i) (get_or ws i 0)
  replaced-get ws i f =
      on-lt i (length ws)
      (λ h. let e : 0 + i ≡ i = omega arith in
      get_from 0 ws i h ∙ ap (λ (z : ℕ). replaced_word m n (value_at bs z) (get_or ws i 0)) e)
      (λ h. let e : get_or ws i 0 ≡ 0 = get_or-eq_default ws 0 h in
      get_or-eq_default (replaced_words ws) 0 (omega (arith, replaced-length ws))
      ∙ sym (ap (replaced_word m n (value_at bs i)) e ∙ word_below m n (value_at bs i) 0 f))

  -- ---- the words that stay

  pub stays_get : (ws : List ℕ) (i : ℕ) → Stays bs i → get_or (replaced_words ws) i 0 ≡ get_or ws i 0
  stays_get ws i s = replaced-get ws i (λ t. absurd (true≢false (sym t ∙ s))) ∙ rw s

  pub stays_set : (ws : List ℕ) (i v : ℕ) → Stays bs i → set (replaced_words ws) i v ≡ replaced_words (set ws i v)
  stays_set ws i v s = sym (replaced-set ws i v ∙ rw s)

-- ---- where the inclusion trees' values stand

pub value-is_node : (at : ℕ) (bs : List Band) (i : ℕ) → is_inclusion_value at bs i ≡ true → NodeFrom inclusion at bs i
unfolding is_inclusion_value
value-is_node at [] i h = absurd (true≢false (sym h))
value-is_node at (b ∷ bs) i h =
    let from : Bool = leb at i in
    let to : Bool = ltb i (at + 3 * band_nodes b) in
    let third : Bool = eqb ((i - at) % 3) 0 in
    on_bool (from && to && third)
    (λ t. let ft = and_left (from && to) third t in
    let f = leb-true at i (and_left from to ft) in
    let l = ltb-true i (at + 3 * band_nodes b) (and_right from to ft) in
    let z = eqb-true ((i - at) % 3) 0 (and_right (from && to) third t) in
    inl ((i - at) / 3, omega arith, omega arith))
    (λ f. inr (value-is_node (at + band_length b) bs i (rw f at h)))

module _ (bs : List Band) where
  no_node_stays : (i : ℕ) → ((a : ℕ) → NodeFrom inclusion 13 bs a → i ≢ a) → Stays bs i
  no_node_stays i f = on_bool (value_at bs i) (λ t. absurd (f i (value-is_node 13 bs i t) refl)) (λ e. e)

  pub first_stays : (i : ℕ) → i < 13 → Stays bs i
  first_stays i h = no_node_stays i (λ a v. let p = ((layout_of bs).node_in inclusion a v).0 in omega arith)

  pub second_stays : (t : Tree) (a : ℕ) → NodeFrom t 13 bs a → Stays bs (a + 1)
  second_stays t a v = no_node_stays (a + 1) (λ c w. second_no_node (layout_of bs) t inclusion a c v w)

  pub third_stays : (t : Tree) (a : ℕ) → NodeFrom t 13 bs a → Stays bs (a + 2)
  third_stays t a v = no_node_stays (a + 2) (λ c w. third_no_node (layout_of bs) t inclusion a c v w)

  pub planes_stay : (a : ℕ) → NodeFrom zero_planes 13 bs a → Stays bs a
  planes_stay a v = no_node_stays a (λ c w e. (layout_of bs).other_tree c a w v (sym e))

  pub block_stays : (p j : ℕ) → BlockFrom 13 bs p → j < 4 → Stays bs (p + j)
  block_stays p j v h = no_node_stays (p + j) (λ c w. let o = (layout_of bs).node_off_block inclusion c p w v in omega arith)

module _ (m n : ℕ) (bs : List Band) (ws : List ℕ) where
  pub first-same : (i : ℕ) → i < 13 → get_or (replaced_words m n bs ws) i 0 ≡ get_or ws i 0
  first-same i h = stays_get m n bs ws i (first_stays bs i h)

  pub bands-same : bands (replaced_words m n bs ws) ≡ bands ws
  bands-same = (same_bands ws (replaced_words m n bs ws) (λ j h d. first-same j h)).0

-- a state with these bands
pub replaced-as : (m n : ℕ) (bs : List Band) (ws : List ℕ) → bands ws ≡ bs → replaced m n ws ≡ replaced_words m n bs ws
unfolding replaced
replaced-as m n bs ws e = ap (λ (z : List Band). replaced_words m n z ws) e
