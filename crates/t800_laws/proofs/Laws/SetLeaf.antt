-- Setting a leaf of a tag tree (B.10.2): which words it leaves alone, what the leaf then holds, and that no value lies below its
-- parent's if
-- none did before.
use mathlib.Core.Path.{◌≡◌, refl, sym, ap, ◌∙◌}
use mathlib.Core.Logic.{◌≢◌}
use mathlib.Core.List.{List, [], ◌∷◌}
use Prim.Native.Nat.{ℕ, ◌+◌, ◌*◌, ◌≤◌, ◌<◌, min}
use native.Mathlib.Nat.{le_trans, le_of_eq, min-le_left}
use native.Mathlib.Omega.{arith}
use lib.ListN.{length, get_or, set, length-set}
use lib.Seq.{get_or-set_same, get_or-set_other, set_out}
use lib.Dec.{ltb}
use Rattle.t800.specs.TagTree.{value, set_value}
use Rattle.t800_laws.proofs.Laws.Tests.{on-eq, on-lt, if-lt, if-ge, either}
use Rattle.t800_laws.proofs.Laws.Paths.{All, NotIn, Ancestors, addresses}
use Rattle.t800_laws.proofs.Laws.Layout.{Tree, Layout}

-- one step: a larger value is lowered, and the path goes on; or it ends
pub lowers : (base n : ℕ) (ns : List ℕ) (v : ℕ) (ws : List ℕ) → v < value ws (base + 3 * n) → set_value base (n ∷ ns) v ws
    ≡ set_value base ns v (set ws (base + 3 * n) v)
unfolding set_value
lowers base n ns v ws h = if-lt v (value ws (base + 3 * n)) _ _ h

pub ends : (base n : ℕ) (ns : List ℕ) (v : ℕ) (ws : List ℕ) → value ws (base + 3 * n) ≤ v → set_value base (n ∷ ns) v ws ≡ ws
unfolding set_value
ends base n ns v ws h = if-ge v (value ws (base + 3 * n)) _ _ h

pub length-set_value : (base : ℕ) (ns : List ℕ) (v : ℕ) (ws : List ℕ) → length (set_value base ns v ws) ≡ length ws
unfolding set_value
length-set_value base [] v ws = refl
length-set_value base (n ∷ ns) v ws =
    either (λ (z : List ℕ). length z ≡ length ws) (ltb v (value ws (base + 3 * n))) _ _
    (length-set_value base ns v (set ws (base + 3 * n) v) ∙ length-set ws (base + 3 * n) v) refl

-- a word that is no value on the path stays
pub off_path_stays : (base : ℕ) (ns : List ℕ) (v : ℕ) (ws : List ℕ) (i : ℕ) → NotIn i (addresses base ns)
    → get_or (set_value base ns v ws) i 0 ≡ get_or ws i 0
unfolding set_value
off_path_stays base [] v ws i h = refl
off_path_stays base (n ∷ ns) v ws i h =
    either (λ (z : List ℕ). get_or z i 0 ≡ get_or ws i 0) (ltb v (value ws (base + 3 * n))) _ _
    (off_path_stays base ns v (set ws (base + 3 * n) v) i h.1 ∙ get_or-set_other ws (base + 3 * n) i v 0 h.0) refl

-- no word rises, and none that isn't v changes: what holds of v and of each word before holds of each word after
pub every-word : (P : ℕ → Type 0) (base : ℕ) (ns : List ℕ) (v : ℕ) (ws : List ℕ) (i : ℕ) → (v < get_or ws i 0 → P v) → P (get_or ws i 0)
    → P (get_or (set_value base ns v ws) i 0)
unfolding set_value
every-word P base [] v ws i f p = p
every-word P base (n ∷ ns) v ws i f p =
    let a : ℕ = base + 3 * n in
    on-lt v (value ws a)
    (λ h. rw (if-lt v (value ws a) (set_value base ns v (set ws a v)) ws h)
    (on-eq i a
    (λ e. on-lt a (length ws)
    (λ l. let here : get_or (set ws a v) i 0 ≡ v = rw e (get_or-set_same ws a v 0 l) in
    every-word P base ns v (set ws a v) i (λ k. absurd (omega (arith, k, here))) (rw here (f (rw e h))))
    (λ l. let here : get_or (set ws a v) i 0 ≡ get_or ws i 0 = ap (λ (z : List ℕ). get_or z i 0) (set_out ws a v l) in
    every-word P base ns v (set ws a v) i (λ k. f (rw here at k)) (rw here p)))
    (λ e. let here : get_or (set ws a v) i 0 ≡ get_or ws i 0 = get_or-set_other ws a i v 0 e in
    every-word P base ns v (set ws a v) i (λ k. f (rw here at k)) (rw here p))))
    (λ h. rw (if-ge v (value ws a) (set_value base ns v (set ws a v)) ws h) p)

-- the leaf has the value
pub leaf_is_set : (base n : ℕ) (ns : List ℕ) (v : ℕ) (ws : List ℕ) → base + 3 * n < length ws
    → NotIn (base + 3 * n) (addresses base ns) → v < value ws (base + 3 * n)
    → value (set_value base (n ∷ ns) v ws) (base + 3 * n) ≡ v
leaf_is_set base n ns v ws l h lt =
    ap (λ (z : List ℕ). get_or z (base + 3 * n) 0) (lowers base n ns v ws lt)
    ∙ off_path_stays base ns v (set ws (base + 3 * n) v) (base + 3 * n) h ∙ get_or-set_same ws (base + 3 * n) v 0 l

-- ---- order

-- no node's value below its parent's
abbrev pub Ordered : Layout → List ℕ → Type 0
Ordered L ws = (t : Tree) (a : ℕ) → L.Node t a → value ws (L.parent a) ≤ value ws a

module _ (L : Layout) (v : ℕ) where
  -- the same, but that node j may lie above children that were lowered to v
  abbrev OrderedBut : ℕ → List ℕ → Type 0
  OrderedBut j ws = (t : Tree) (a : ℕ) → L.Node t a → (L.parent a ≢ j → value ws (L.parent a) ≤ value ws a)
      × (L.parent a ≡ j → min v (value ws j) ≤ value ws a)

  ordered_but : (j : ℕ) (ws : List ℕ) → Ordered L ws → OrderedBut j ws
  ordered_but j ws o t a n = ((λ _. o t a n), (λ e. omega (arith, rw e at (o t a n))))

  -- node j isn't larger, so that it is in order too
  but_none : (j : ℕ) (ws : List ℕ) → value ws j ≤ v → OrderedBut j ws → Ordered L ws
  but_none j ws h o t a n =
      on-eq (L.parent a) j
      (λ e. rw e (omega (arith, (o t a n).1 e)))
      (λ e. (o t a n).0 e)

  -- node j is lowered, and its parent is next
  but_parent : (j : ℕ) (ws : List ℕ) → j < length ws → v < value ws j → OrderedBut j ws → OrderedBut (L.parent j) (set ws j v)
  but_parent j ws l h o t a n =
      let here : get_or (set ws j v) j 0 ≡ v = get_or-set_same ws j v 0 l in
      on-eq a j
      (λ e. ((λ m. absurd (m (ap L.parent e))), (λ _. le_trans (min-le_left v _) (le_of_eq (sym (rw e here))))))
      (λ e. let same : get_or (set ws j v) a 0 ≡ get_or ws a 0 = get_or-set_other ws j a v 0 e in
      let child : L.parent a ≡ j → v ≤ get_or ws a 0 = λ q. omega (arith, (o t a n).1 q) in (
        (λ m. on-eq (L.parent a) j
            (λ q. omega (arith, child q, ap (λ (z : ℕ). get_or (set ws j v) z 0) q))
            (λ q. omega (arith, (o t a n).0 q, get_or-set_other ws j (L.parent a) v 0 q))),
        (λ m. on-eq (L.parent j) j
            (λ q. le_trans (min-le_left v _) (omega (arith, child (m ∙ q))))
            (λ q. let pj : get_or (set ws j v) (L.parent j) 0 ≡ get_or ws (L.parent j) 0 = get_or-set_other ws j (L.parent j) v 0 q in
            omega (arith, rw m at ((o t a n).0 (λ z. q (sym m ∙ z)))))),
      ))

  keeps_order : (t : Tree) (base n : ℕ) (ns ws : List ℕ) → length ws ≡ L.size → All (L.Node t) (addresses base (n ∷ ns))
      → Ancestors L.parent (base + 3 * n) (addresses base ns)
      → OrderedBut (base + 3 * n) ws → Ordered L (set_value base (n ∷ ns) v ws)
  unfolding set_value
  keeps_order t base n [] ws l b c o =
      let j : ℕ = base + 3 * n in
      let i = (L.node_in t j b.0).1 in
      on-lt v (value ws j)
      (λ h. rw (lowers base n [] v ws h)
      (but_none (L.parent j) (set ws j v) (rw c (le_of_eq (get_or-set_same ws j v 0 (omega arith)))) (but_parent j ws (omega arith) h o)))
      (λ h. rw (ends base n [] v ws h) (but_none j ws h o))
  keeps_order t base n (m ∷ ms) ws l b c o =
      let j : ℕ = base + 3 * n in
      let i = (L.node_in t j b.0).1 in
      on-lt v (value ws j)
      (λ h. rw (lowers base n (m ∷ ms) v ws h)
      (keeps_order t base m ms (set ws j v) (length-set ws j v ∙ l) b.1 c.1 (rw c.0 (but_parent j ws (omega arith) h o))))
      (λ h. rw (ends base n (m ∷ ms) v ws h) (but_none j ws h o))

  pub set_value-ordered : (t : Tree) (base n : ℕ) (ns ws : List ℕ) → length ws ≡ L.size → All (L.Node t) (addresses base (n ∷ ns))
      → Ancestors L.parent (base + 3 * n) (addresses base ns)
      → Ordered L ws → Ordered L (set_value base (n ∷ ns) v ws)
  set_value-ordered t base n ns ws l b c o = keeps_order t base n ns ws l b c (ordered_but (base + 3 * n) ws o)
