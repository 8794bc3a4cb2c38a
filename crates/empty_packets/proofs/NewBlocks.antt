-- Blocks that are new, without passes so far: what holds on their inclusion paths, and which values setting them in layer t changes.
use mathlib.Core.Path.{◌≡◌, refl, sym, ◌∙◌}
use mathlib.Core.Logic.{◌≢◌}
use mathlib.Core.Bool.{true, cond, ◌&&◌}
use mathlib.Core.List.{List, [], ◌∷◌, reverse_aux}
use Prim.Native.Nat.{ℕ, ◌<◌}
use lib.ListN.{get_or}
use lib.Dec.{ltb}
use borrow.Author.Tests.{eqb-true}
use Rattle.t800.specs.TagTree.{set_value}
use Rattle.t800.specs.State.{Block, passes_so_far}
use Rattle.t800.specs.WriteHeader.{is_new, set_new_blocks}
use Rattle.t800_laws.proofs.Laws.Tests.{either, either-by, and_left}
use Rattle.t800_laws.proofs.Laws.Paths.{All, addresses}
use Rattle.t800_laws.proofs.Laws.Layout.{inclusion, Layout, Placed, SeparateFromAll, AllPlaced, root_to_leaf, leaf_to_root}
use Rattle.t800_laws.proofs.Laws.SetLeaf.{off_path_stays, every-word}
use Rattle.round_trip.proofs.Trip.Changes.{block_stays, BlockCoded, ValuesOnly, no_values, leaf_set, nodes-only}

-- ---- the nodes on new blocks' paths

-- Q holds of each node on the inclusion path of a new block
abbrev pub AllOnNew : (ℕ → Type 0) → List ℕ → List Block → Type 0
AllOnNew Q ws [] = Unit {0}
AllOnNew Q ws (k ∷ ks) = (passes_so_far ws k.at ≡ 0 → All Q (root_to_leaf inclusion k)) × AllOnNew Q ws ks

-- each block has as many passes so far
abbrev pub SamePasses : List ℕ → List ℕ → List Block → Type 0
SamePasses ws vs [] = Unit {0}
SamePasses ws vs (k ∷ ks) = (passes_so_far vs k.at ≡ passes_so_far ws k.at) × SamePasses ws vs ks

pub on_new_after : (Q : ℕ → Type 0) (ws vs : List ℕ) (ks : List Block) → SamePasses ws vs ks → AllOnNew Q ws ks → AllOnNew Q vs ks
on_new_after Q ws vs [] p q = tt
on_new_after Q ws vs (k ∷ ks) p q = (λ z. q.0 (sym p.0 ∙ z), on_new_after Q ws vs ks p.1 q.1)

pub on_new_before : (Q : ℕ → Type 0) (ws vs : List ℕ) (ks : List Block) → SamePasses ws vs ks → AllOnNew Q vs ks → AllOnNew Q ws ks
on_new_before Q ws vs [] p q = tt
on_new_before Q ws vs (k ∷ ks) p q = (λ z. q.0 (p.0 ∙ z), on_new_before Q ws vs ks p.1 q.1)

pub blocks-keep_passes : (L : Layout) (ws vs : List ℕ) (ks : List Block) → AllPlaced L ks
    → ((p : ℕ) → L.BlockAt p → passes_so_far vs p ≡ passes_so_far ws p) → SamePasses ws vs ks
blocks-keep_passes L ws vs [] f o = tt
blocks-keep_passes L ws vs (k ∷ ks) f o = (o k.at f.0.0.block, blocks-keep_passes L ws vs ks f.1 o)

pub values_keep_passes : (L : Layout) (ws vs : List ℕ) (ks : List Block) → AllPlaced L ks → ValuesOnly L inclusion ws vs
    → SamePasses ws vs ks
values_keep_passes L ws vs ks f o =
    blocks-keep_passes L ws vs ks f (λ p b. (block_stays L ws vs (nodes-only L inclusion ws vs o) p b).0)

pub coding_keeps_passes : (L : Layout) (ws vs : List ℕ) (k : Block) (c : ℕ) (ks : List Block) → BlockCoded L ws vs k c
    → SeparateFromAll k ks → AllPlaced L ks → SamePasses ws vs ks
coding_keeps_passes L ws vs k c [] b o f = tt
coding_keeps_passes L ws vs k c (j ∷ js) b o f =
    ((b.others j.at f.0.0.block o.0.1.places).0, coding_keeps_passes L ws vs k c js b o.1 f.1)

-- ---- a path from the root, and from the leaf

all_back : (P : ℕ → Type 0) (base : ℕ) (js ks : List ℕ) → All P (addresses base (reverse_aux js ks))
    → All P (addresses base js) × All P (addresses base ks)
all_back P base [] ks h = (tt, h)
all_back P base (j ∷ js) ks h = let r = all_back P base js (j ∷ ks) h in ((r.1.0, r.0), r.1.1)

from_leaf : (P : ℕ → Type 0) (k : Block) → All P (root_to_leaf inclusion k) → All P (leaf_to_root inclusion k)
from_leaf P k h = (all_back P k.incl_tree k.path [] h).0

-- ---- setting them

-- block k of c passes is set where it is new
abbrev pub set_new : ℕ → Block → ℕ → List ℕ → List ℕ
set_new t k c ws = cond (is_new ws k && ltb 0 c) (set_value k.incl_tree k.path t ws) ws

new_set_only : (L : Layout) (k : Block) (P : Placed L k) (t c : ℕ) (ws : List ℕ) → ValuesOnly L inclusion ws (set_new t k c ws)
new_set_only L k P t c ws =
    either (ValuesOnly L inclusion ws) (is_new ws k && ltb 0 c) _ _ (leaf_set L inclusion k P t ws) (no_values L inclusion ws)

-- what holds of t and of each word before holds of each word after
pub every-word_set : (P : ℕ → Type 0) (t : ℕ) (ks : List Block) (cs ws : List ℕ) (i : ℕ) → (t < get_or ws i 0 → P t) → P (get_or ws i 0)
    → P (get_or (set_new_blocks t ks cs ws) i 0)
unfolding set_new_blocks
every-word_set P t [] cs ws i f p = p
every-word_set P t (k ∷ ks) [] ws i f p = p
every-word_set P t (k ∷ ks) (c ∷ cs) ws i f p =
    let Q : ℕ → Type 0 = λ z. (t < z → P t) × P z in
    let r : Q (get_or (set_new t k c ws) i 0) =
    either (λ (z : List ℕ). Q (get_or z i 0)) (is_new ws k && ltb 0 c) _ _
    (every-word Q k.incl_tree k.path t ws i (λ h. ((λ e. f h), f h)) (f, p)) (f, p) in
    every-word_set P t ks cs (set_new t k c ws) i r.0 r.1

new_by_passes : (ws : List ℕ) (k : Block) → is_new ws k ≡ true → passes_so_far ws k.at ≡ 0
unfolding is_new
new_by_passes ws k e = eqb-true (passes_so_far ws k.at) 0 e

-- a word that is no value on a new block's path stays
pub off_new_stays : (L : Layout) (t : ℕ) (ks : List Block) (cs ws : List ℕ) (i : ℕ) → AllPlaced L ks → AllOnNew (λ b. i ≢ b) ws ks
    → get_or (set_new_blocks t ks cs ws) i 0 ≡ get_or ws i 0
unfolding set_new_blocks
off_new_stays L t [] cs ws i f o = refl
off_new_stays L t (k ∷ ks) [] ws i f o = refl
off_new_stays L t (k ∷ ks) (c ∷ cs) ws i f o =
    let vs : List ℕ = set_new t k c ws in
    let only = new_set_only L k f.0.0 t c ws in
    let here : get_or vs i 0 ≡ get_or ws i 0 =
    either-by (λ (z : List ℕ). get_or z i 0 ≡ get_or ws i 0) (is_new ws k && ltb 0 c) _ _
    (λ e. off_path_stays k.incl_tree k.path t ws i
    (from_leaf (λ b. i ≢ b) k (o.0 (new_by_passes ws k (and_left (is_new ws k) (ltb 0 c) e)))))
    (λ e. refl) in
    off_new_stays L t ks cs vs i f.1
    (on_new_after (λ b. i ≢ b) ws vs ks (values_keep_passes L ws vs ks f.1 only) o.1)
    ∙ here
