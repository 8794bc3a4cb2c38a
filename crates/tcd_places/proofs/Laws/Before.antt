-- Paths and blocks whose words lie before a place, and words that stay from a place on.
use mathlib.Core.Path.{◌≡◌, sym, ap, ◌∙◌, subst}
use mathlib.Core.List.{List, [], ◌∷◌, ◌++◌, reverse, reverse_aux}
use Prim.Native.Nat.{ℕ, zero, suc, ◌+◌, ◌-◌, ◌*◌, ◌/◌, ◌^◌, ◌≤◌, ◌<◌}
use native.Mathlib.Omega.{arith}
use lib.ListN.{get_or, take, drop}
use lib.Pow.{shr-shr}
use lib.Seq.{drop-drop, get_or-drop}
use Rattle.t800.specs.State.{Block}
use Rattle.t800_laws.proofs.Laws.Paths.{All, AllBelow}
use Rattle.tgt.specs.Path.{nodes_over, path_over, PathIn}

-- ---- a path

pub path_wider : (m n base : ℕ) (row : List ℕ) (depth x : ℕ) → m ≤ n → PathIn m base row depth x → PathIn n base row depth x
path_wider m n base row depth x h p =
    record { some = p.some; at_most_seven = p.at_most_seven; long = p.long; inside = λ i l. omega (arith, p.inside i l) }

abbrev pub Before : ℕ → ℕ → List ℕ → Type 0
Before q base ns = All (λ n. base + 3 * n + 2 < q) ns

nodes-before : (q base : ℕ) (row : List ℕ) (depth x : ℕ) → ((i : ℕ) → i < depth → base + 3 * (get_or row i 0 + x / 2 ^ i) + 2 < q)
    → Before q base (nodes_over (take depth row) x)
unfolding nodes_over
nodes-before q base row zero x h = tt
nodes-before q base [] (suc d) x h = tt
nodes-before q base (n ∷ ns) (suc d) x h = (
  omega (arith, h 0 (omega arith)),
  nodes-before q base ns d (x / 2)
      (λ i l. subst (λ (z : ℕ). base + 3 * (get_or ns i 0 + z) + 2 < q) (sym (shr-shr x 1 i ∙ ap (λ (z : ℕ). x / 2 ^ z) (omega arith)))
      (h (suc i) (omega arith))),
)

pub below_before : (q base m : ℕ) (ns : List ℕ) → base + 3 * m ≤ q → AllBelow m ns → Before q base ns
below_before q base m [] h a = tt
below_before q base m (n ∷ ns) h a = (omega (arith, a.0), below_before q base m ns h a.1)

onto_before : (q base : ℕ) (js ks : List ℕ) → Before q base js → Before q base ks → Before q base (reverse_aux js ks)
onto_before q base [] ks h g = g
onto_before q base (j ∷ js) ks h g = onto_before q base js (j ∷ ks) h.1 (h.0, g)

pub reversed_before : (q base : ℕ) (js : List ℕ) → Before q base js → Before q base (reverse js)
reversed_before q base js h = onto_before q base js [] h tt

pub path_before : (q base : ℕ) (row : List ℕ) (depth x : ℕ) → PathIn q base row depth x → Before q base (reverse (path_over row depth x))
path_before q base row depth x p = reversed_before q base (path_over row depth x) (nodes-before q base row depth x p.inside)

-- ---- blocks

-- both trees' paths, and the block's own words
pub record BlockBefore (q : ℕ) (k : Block) : Type 0 where
  pub incl : Before q k.incl_tree (reverse k.path)
  pub zero : Before q k.zero_tree (reverse k.path)
  pub own : k.at + 4 ≤ q

abbrev pub From : ℕ → Block → Type 0
From q k = q ≤ k.at

abbrev pub AllBlocks : (Block → Type 0) → List Block → Type 0
AllBlocks P [] = Unit {0}
AllBlocks P (k ∷ ks) = P k × AllBlocks P ks

pub all_append : (P : Block → Type 0) (ks js : List Block) → AllBlocks P ks → AllBlocks P js → AllBlocks P (ks ++ js)
all_append P [] js a b = b
all_append P (k ∷ ks) js a b = (a.0, all_append P ks js a.1 b)

-- ---- words that stay from place q on

pub same_word : (q i : ℕ) (ws vs : List ℕ) → drop q ws ≡ drop q vs → q ≤ i → get_or ws i 0 ≡ get_or vs i 0
same_word q i ws vs e h =
    let s : q + (i - q) ≡ i = omega arith in
    subst (λ (k : ℕ). get_or ws k 0 ≡ get_or vs k 0) s
    (sym (get_or-drop q ws (i - q) 0) ∙ ap (λ (l : List ℕ). get_or l (i - q) 0) e ∙ get_or-drop q vs (i - q) 0)

pub drop-later : (q r : ℕ) (ws vs : List ℕ) → q ≤ r → drop q ws ≡ drop q vs → drop r ws ≡ drop r vs
drop-later q r ws vs h e =
    let s : q + (r - q) ≡ r = omega arith in
    subst (λ (n : ℕ). drop n ws ≡ drop n vs) s (sym (drop-drop (r - q) q ws) ∙ ap (drop (r - q)) e ∙ drop-drop (r - q) q vs)
