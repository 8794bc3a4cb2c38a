-- Blocks whose words lie before place q, and blocks whose trees and words stand from q on: setting the latter may come after coding the
-- former, so that setting band by band is t800's setting of all bands first.
use mathlib.Core.Path.{◌≡◌, refl, sym, ap, ◌∙◌, subst}
use mathlib.Core.Bool.{Bool, true, false, cond, ◌&&◌}
use mathlib.Core.List.{List, [], ◌∷◌, ◌++◌, reverse}
use Prim.Native.Nat.{ℕ, ◌+◌, ◌-◌, ◌*◌, ◌≤◌, ◌<◌, max}
use native.Mathlib.Nat.{zero-add, suc-add}
use native.Mathlib.Omega.{arith}
use lib.Dec.{eqb, ltb}
use lib.ListN.{length, get_or, take, drop, set, get_or-append, length-set, take-append-drop, length-take}
use lib.Seq.{set-append_left, get_or-append-add}
use Rattle.t800.specs.Segments.{Segment, increment, length_fields, comma_bits}
use Rattle.t800.specs.PassCount.{pass_bits}
use Rattle.t800.specs.State.{Block, not_yet_planes}
use Rattle.t800.specs.TagTree.{Coded, code_path, set_value, low_after, node_bits, known_after}
use Rattle.t800.specs.WriteHeader.{is_new, length_bits_before, code_inclusion, code_zero_planes, code_passes, code_block}
use Rattle.t800_laws.proofs.Laws.Kept.{from_0}
use Rattle.t800_laws.proofs.Laws.HeaderKept.{inclusion_coded, planes_coded, block_coded}
use Rattle.t2_write_block.specs.Runs.{Running, after_coded, code_next, code_all}
use Rattle.t2_write_new_rows.specs.Setting.{set_next, set_all}
use Rattle.t2_write_bands.specs.Bands.{new_set}
use Rattle.tcd_places.proofs.Laws.Before.{AllBlocks, Before, BlockBefore}

-- ---- coding in the front part

abbrev onto : List ℕ → Coded → Coded
onto ys d = record { bits = d.bits; words = d.words ++ ys }

either_onto : (n : Bool) (ys : List ℕ) (x y : Coded) → cond n (onto ys x) (onto ys y) ≡ onto ys (cond n x y)
either_onto true ys x y = refl
either_onto false ys x y = refl

front : (xs ys : List ℕ) (i : ℕ) → i < length xs → get_or (xs ++ ys) i 0 ≡ get_or xs i 0
front xs ys i h = get_or-append xs ys 0 i h

path_front : (base t : ℕ) (ns : List ℕ) (l : ℕ) (xs ys : List ℕ) → Before (length xs) base ns → code_path base t ns l (xs ++ ys)
    ≡ onto ys (code_path base t ns l xs)
unfolding code_path
path_front base t [] l xs ys h = refl
path_front base t (n ∷ ns) l xs ys h =
    let at : ℕ = base + 3 * n in
    let v : get_or (xs ++ ys) at 0 ≡ get_or xs at 0 = front xs ys at (omega (arith, h.0)) in
    let o : get_or (xs ++ ys) (at + 1) 0 ≡ get_or xs (at + 1) 0 = front xs ys (at + 1) (omega (arith, h.0)) in
    let k : get_or (xs ++ ys) (at + 2) 0 ≡ get_or xs (at + 2) 0 = front xs ys (at + 2) h.0 in
    let from : ℕ = max l (get_or xs (at + 1) 0) in
    let to : ℕ = low_after (get_or xs at 0) from t in
    let kn : ℕ = known_after (get_or xs at 0) from (get_or xs (at + 2) 0) t in
    let step : ℕ → ℕ → ℕ → Coded = λ a b c.
    let r : Coded = code_path base t ns (low_after a (max l b) t)
    (set (set (xs ++ ys) (at + 1) (low_after a (max l b) t)) (at + 2) (known_after a (max l b) c t)) in
    record { bits = node_bits a (max l b) c t ++ r.bits; words = r.words } in
    let w : set (set (xs ++ ys) (at + 1) to) (at + 2) kn ≡ set (set xs (at + 1) to) (at + 2) kn ++ ys =
    ap (λ (z : List ℕ). set z (at + 2) kn) (set-append_left xs ys (at + 1) to (omega (arith, h.0)))
    ∙ set-append_left (set xs (at + 1) to) ys (at + 2) kn (subst (λ (z : ℕ). at + 2 < z) (sym (length-set xs (at + 1) to)) h.0) in
    let m : length (set (set xs (at + 1) to) (at + 2) kn) ≡ length xs = length-set (set xs (at + 1) to) (at + 2) kn
    ∙ length-set xs (at + 1) to in
    let e = ap (code_path base t ns to) w
    ∙ path_front base t ns to (set (set xs (at + 1) to) (at + 2) kn) ys (subst (λ (z : ℕ). Before z base ns) (sym m) h.1) in
    (λ i. step (v i) (o i) (k i))
    ∙ ap (λ (d : Coded). record { bits = node_bits (get_or xs at 0) from (get_or xs (at + 2) 0) t ++ d.bits; words = d.words }) e

module _ (q : ℕ) (k : Block) (b : BlockBefore q k) (xs ys : List ℕ) (m : length xs ≡ q) where
  new_front : is_new (xs ++ ys) k ≡ is_new xs k
  unfolding is_new
  new_front = ap (λ (z : ℕ). eqb z 0) (front xs ys k.at (omega (arith, b.own)))

  incl_front : (t c : ℕ) → code_inclusion t k c (xs ++ ys) ≡ onto ys (code_inclusion t k c xs)
  unfolding code_inclusion
  incl_front t c =
      (λ i. cond (new_front i)
      (path_front k.incl_tree (t + 1) (reverse k.path) 0 xs ys
      (subst (λ (z : ℕ). Before z k.incl_tree (reverse k.path)) (sym m) b.incl) i)
      (record { bits = cond (ltb 0 c) 1 0 ∷ []; words = xs ++ ys }))
      ∙ either_onto (is_new xs k) ys (code_path k.incl_tree (t + 1) (reverse k.path) 0 xs)
      (record { bits = cond (ltb 0 c) 1 0 ∷ []; words = xs })

  planes_front : code_zero_planes k (xs ++ ys) ≡ onto ys (code_zero_planes k xs)
  unfolding code_zero_planes
  planes_front =
      (λ i. cond (new_front i)
      (path_front k.zero_tree not_yet_planes (reverse k.path) 0 xs ys
      (subst (λ (z : ℕ). Before z k.zero_tree (reverse k.path)) (sym m) b.zero) i) (record { bits = []; words = xs ++ ys }))
      ∙ either_onto (is_new xs k) ys (code_path k.zero_tree not_yet_planes (reverse k.path) 0 xs) (record { bits = []; words = xs })

  bits_front : length_bits_before (xs ++ ys) k ≡ length_bits_before xs k
  unfolding length_bits_before
  bits_front = λ i. cond (new_front i) 3 (front xs ys (k.at + 1) (omega (arith, b.own)) i)

  passes_front : (c : ℕ) (segments : List Segment) → code_passes k c segments (xs ++ ys) ≡ onto ys (code_passes k c segments xs)
  unfolding code_passes
  passes_front c segments =
      let p : ℕ = get_or xs k.at 0 + c in
      let n : ℕ = length_bits_before xs k + increment (length_bits_before xs k) segments in
      let w : set (set (xs ++ ys) k.at p) (k.at + 1) n ≡ set (set xs k.at p) (k.at + 1) n ++ ys =
      ap (λ (z : List ℕ). set z (k.at + 1) n) (set-append_left xs ys k.at p (omega (arith, b.own)))
      ∙ set-append_left (set xs k.at p) ys (k.at + 1) n
      (subst (λ (z : ℕ). k.at + 1 < z) (sym (length-set xs k.at p)) (omega (arith, b.own))) in
      let f : ℕ → ℕ → Coded =
      λ g h. record {
        bits = pass_bits c ++ comma_bits (increment h segments) ++ length_fields (h + increment h segments) segments;
        words = set (set (xs ++ ys) k.at (g + c)) (k.at + 1) (h + increment h segments);
      } in
      (λ i. f (front xs ys k.at (omega (arith, b.own)) i) (bits_front i))
      ∙
      (λ i. record {
        bits = pass_bits c ++ comma_bits (increment (length_bits_before xs k) segments) ++ length_fields n segments;
        words = w i;
      })

block_front : (q : ℕ) (k : Block) (b : BlockBefore q k) (xs ys : List ℕ) (m : length xs ≡ q) (t c : ℕ) (segments : List Segment)
    → code_block t k c segments (xs ++ ys) ≡ onto ys (code_block t k c segments xs)
unfolding code_block
block_front q k b xs ys m t c segments =
    let i : Coded = code_inclusion t k c xs in
    let z : Coded = code_zero_planes k i.words in
    let p : Coded = code_passes k c segments z.words in
    let all : Coded → Coded → Coded → Coded = λ x y w. record { bits = x.bits ++ y.bits ++ w.bits; words = w.words } in
    let chosen : Coded → Coded → Coded → Coded = λ x y w. cond (eqb c 0) x (all x y w) in
    let e = incl_front q k b xs ys m t c in
    let long : length i.words ≡ q = (inclusion_coded 0 t k (from_0 k) c xs).long ∙ m in
    let f = ap (λ (d : Coded). code_zero_planes k d.words) e ∙ planes_front q k b i.words ys long in
    let g = ap (λ (d : Coded). code_passes k c segments d.words) f
    ∙ passes_front q k b z.words ys ((planes_coded 0 t k (from_0 k) i.words).long ∙ long) c segments in
    (λ j. chosen (e j) (f j) (g j)) ∙ either_onto (eqb c 0) ys i (all i z p)

-- ---- setting in the back part

set_back : (xs ys : List ℕ) (i v : ℕ) → set (xs ++ ys) (length xs + i) v ≡ xs ++ set ys i v
set_back [] ys i v = ap (λ (z : ℕ). set ys z v) (zero-add i)
set_back (x ∷ xs) ys i v = ap (λ (z : ℕ). set (x ∷ (xs ++ ys)) z v) (suc-add (length xs) i)
    ∙ ap (λ (zs : List ℕ). x ∷ zs) (set_back xs ys i v)

either_back : (t : Bool) (xs us vs : List ℕ) → cond t (xs ++ us) (xs ++ vs) ≡ xs ++ cond t us vs
either_back true xs us vs = refl
either_back false xs us vs = refl

value-back : (xs ys : List ℕ) (base : ℕ) (ns : List ℕ) (v : ℕ) → length xs ≤ base → set_value base ns v (xs ++ ys)
    ≡ xs ++ set_value (base - length xs) ns v ys
unfolding set_value
value-back xs ys base [] v h = refl
value-back xs ys base (n ∷ ns) v h =
    let e : base + 3 * n ≡ length xs + (base - length xs + 3 * n) = omega arith in
    let g : get_or (xs ++ ys) (base + 3 * n) 0 ≡ get_or ys (base - length xs + 3 * n) 0 = ap (λ (z : ℕ). get_or (xs ++ ys) z 0) e
    ∙ get_or-append-add xs ys (base - length xs + 3 * n) 0 in
    let w : set (xs ++ ys) (base + 3 * n) v ≡ xs ++ set ys (base - length xs + 3 * n) v = ap (λ (z : ℕ). set (xs ++ ys) z v) e
    ∙ set_back xs ys (base - length xs + 3 * n) v in
    (λ i. cond (ltb v (g i)) ((ap (set_value base ns v) w ∙ value-back xs (set ys (base - length xs + 3 * n) v) base ns v h) i) (xs ++ ys))
    ∙ either_back (ltb v (get_or ys (base - length xs + 3 * n) 0)) xs
    (set_value (base - length xs) ns v (set ys (base - length xs + 3 * n) v)) ys

-- the block's inclusion tree and words stand from q on
pub record BlockAfter (q : ℕ) (j : Block) : Type 0 where
  pub incl : q ≤ j.incl_tree
  pub own : q ≤ j.at

abbrev shifted : ℕ → Block → Block
shifted q j = record
    { incl_tree = j.incl_tree - q; zero_tree = j.zero_tree - q; leaf = j.leaf; path = j.path; at = j.at - q; planes = j.planes }

abbrev all_shifted : ℕ → List Block → List Block
all_shifted q [] = []
all_shifted q (j ∷ js) = shifted q j ∷ all_shifted q js

next_back : (t c : ℕ) (j : Block) (xs ys : List ℕ) → BlockAfter (length xs) j → set_next t j c (xs ++ ys)
    ≡ xs ++ set_next t (shifted (length xs) j) c ys
unfolding set_next is_new
next_back t c j xs ys b =
    let e : j.at ≡ length xs + (j.at - length xs) = omega (arith, b.own) in
    let g : get_or (xs ++ ys) j.at 0 ≡ get_or ys (j.at - length xs) 0 = ap (λ (z : ℕ). get_or (xs ++ ys) z 0) e
    ∙ get_or-append-add xs ys (j.at - length xs) 0 in
    (λ i. cond (eqb (g i) 0 && ltb 0 c) (value-back xs ys j.incl_tree j.path t b.incl i) (xs ++ ys))
    ∙ either_back (eqb (get_or ys (j.at - length xs) 0) 0 && ltb 0 c) xs _ ys

all_back : (t : ℕ) (cs : List ℕ) (js : List Block) (i : ℕ) (xs ys : List ℕ) → AllBlocks (BlockAfter (length xs)) js
    → set_all t cs js i (xs ++ ys) ≡ xs ++ set_all t cs (all_shifted (length xs) js) i ys
unfolding set_all
all_back t cs [] i xs ys b = refl
all_back t cs (j ∷ js) i xs ys b = ap (set_all t cs js (i + 1)) (next_back t (get_or cs i 0) j xs ys b.0)
    ∙ all_back t cs js (i + 1) xs _ b.1

-- ---- one after the other, in either order

parts : (q t c i : ℕ) (k : Block) (segments : List Segment) (cs : List ℕ) (js : List Block) (xs ys : List ℕ) → length xs ≡ q
    → BlockBefore q k → AllBlocks (BlockAfter q) js
    → code_block t k c segments (set_all t cs js i (xs ++ ys))
    ≡ record {
      bits = (code_block t k c segments (xs ++ ys)).bits;
      words = set_all t cs js i (code_block t k c segments (xs ++ ys)).words;
    }
parts q t c i k segments cs js xs ys m b a =
    let d : Coded = code_block t k c segments xs in
    let zs : List ℕ = set_all t cs (all_shifted q js) i ys in
    let back : (us : List ℕ) → length us ≡ q → set_all t cs js i (us ++ ys) ≡ us ++ zs = λ us e.
    all_back t cs js i us ys (subst (λ (z : ℕ). AllBlocks (BlockAfter z) js) (sym e) a)
    ∙ ap (λ (z : ℕ). us ++ set_all t cs (all_shifted z js) i ys) e in
    let f : code_block t k c segments (xs ++ ys) ≡ onto ys d = block_front q k b xs ys m t c segments in
    ap (code_block t k c segments) (back xs m)
    ∙ block_front q k b xs zs m t c segments
    ∙ (λ j. record { bits = d.bits; words = sym (back d.words ((block_coded 0 t k (from_0 k) c segments xs).long ∙ m)) j })
    ∙ sym (ap (λ (x : Coded). record { bits = x.bits; words = set_all t cs js i x.words }) f)

pub block_then_set : (q t c i : ℕ) (k : Block) (segments : List Segment) (cs : List ℕ) (js : List Block) (ws : List ℕ)
    → q ≤ length ws → BlockBefore q k → AllBlocks (BlockAfter q) js
    → code_block t k c segments (set_all t cs js i ws)
    ≡ record { bits = (code_block t k c segments ws).bits; words = set_all t cs js i (code_block t k c segments ws).words }
block_then_set q t c i k segments cs js ws h b a =
    let m : length (take q ws) ≡ q = length-take q ws ∙ omega arith in
    subst (λ (vs : List ℕ). code_block t k c segments (set_all t cs js i vs)
    ≡ record { bits = (code_block t k c segments vs).bits; words = set_all t cs js i (code_block t k c segments vs).words })
    (take-append-drop q ws) (parts q t c i k segments cs js (take q ws) (drop q ws) m b a)

next_then_set : (q t i : ℕ) (cs ls ms : List ℕ) (k : Block) (js : List Block) (s : Running) → q ≤ length s.words
    → BlockBefore q k → AllBlocks (BlockAfter q) js
    → code_next t cs ls ms k (new_set t cs js i s) ≡ new_set t cs js i (code_next t cs ls ms k s)
unfolding code_next
next_then_set q t i cs ls ms k js s h b a = ap (after_coded s (get_or cs s.block 0)) (block_then_set q t _ i k _ cs js s.words h b a)

pub next_length : (t : ℕ) (cs ls ms : List ℕ) (k : Block) (s : Running) → length (code_next t cs ls ms k s).words ≡ length s.words
unfolding code_next
next_length t cs ls ms k s = (block_coded 0 t k (from_0 k) _ _ s.words).long

-- a band's blocks coded before or after a later band's new blocks are set
pub code_then_set : (q t i : ℕ) (cs ls ms : List ℕ) (ks js : List Block) (s : Running) → q ≤ length s.words
    → AllBlocks (BlockBefore q) ks → AllBlocks (BlockAfter q) js
    → code_all t cs ls ms ks (new_set t cs js i s) ≡ new_set t cs js i (code_all t cs ls ms ks s)
unfolding code_all
code_then_set q t i cs ls ms [] js s h b a = refl
code_then_set q t i cs ls ms (k ∷ ks) js s h b a =
    ap (code_all t cs ls ms ks) (next_then_set q t i cs ls ms k js s h b.0 a)
    ∙ code_then_set q t i cs ls ms ks js (code_next t cs ls ms k s) (subst (λ (z : ℕ). q ≤ z) (sym (next_length t cs ls ms k s)) h) b.1 a
