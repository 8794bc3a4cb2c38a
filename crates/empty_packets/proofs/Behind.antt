-- The state behind a packet with passes is that of packets all coded block by block: packets without passes leave behind them the lows and
-- knowns on new blocks' inclusion paths alone, and a packet with passes settles these.
use mathlib.Core.Path.{◌≡◌, refl, sym, ap, ap₂, ◌∙◌, subst, subst₂}
use mathlib.Core.Bool.{Bool, true, false, cond, ◌&&◌, and-false}
use mathlib.Core.List.{List, [], ◌∷◌, ◌++◌, reverse}
use Prim.Native.Nat.{ℕ, ◌+◌, ◌<◌}
use native.Mathlib.Omega.{arith}
use lib.ListN.{length, get_or, set, take, drop}
use lib.Seq.{ext_get_or}
use lib.Dec.{ltb}
use borrow.Author.Tests.{ltb-false}
use Rattle.t800.specs.declared.Band.{Band}
use Rattle.t800.specs.Base.{Bits, any}
use Rattle.t800.specs.TagTree.{Coded, value, code_path}
use Rattle.t800.specs.Segments.{Segment, segments_of}
use Rattle.t800.specs.State.{Block, not_yet_included, blocks, passes_so_far}
use Rattle.t800.specs.WriteHeader.{Contribution, is_new, set_new_blocks, code_inclusion, code_block, code_blocks}
use Rattle.t800.specs.WriteHeader.{contributes, code_present, code_header}
use Rattle.t800_laws.proofs.Laws.Tests.{on-eq, if-eq, if-false, or_left, or_right}
use Rattle.t800_laws.proofs.Laws.Paths.{All, all_so}
use Rattle.t800_laws.proofs.Laws.Layout.{inclusion, Layout, Placed, AllPlaced, root_to_leaf, from_root_nodes, layout_of, blocks-placed}
use Rattle.round_trip.proofs.Trip.Nodes.{Node}
use Rattle.round_trip.proofs.Trip.NodeWords.{node_at}
use Rattle.round_trip.proofs.Trip.Trees.{OffLow, off_lows_stay, path_coded}
use Rattle.round_trip.proofs.Trip.Changes.{block_coded, blocks-coded}
use Rattle.round_trip.proofs.Trip.WriterState.{header_blocks}
use Rattle.t800_laws.proofs.Laws.Contributes.{present_header, absent-header}
use Rattle.empty_packets.specs.LaterPackets.{Accepted, state_behind, state_behind_present, block_bits_from, block_bits, others_of}
use Rattle.empty_packets.proofs.Settled.{settled}
use Rattle.empty_packets.proofs.SettledPaths.{Tidied, path_settled, block_tidied}
use Rattle.empty_packets.proofs.BlockParts.{new_inclusion, old_inclusion, other_bits, others_are}
use Rattle.empty_packets.proofs.NewBlocks.{AllOnNew, on_new_after, on_new_before, blocks-keep_passes}
use Rattle.empty_packets.proofs.NewBlocks.{coding_keeps_passes}
use Rattle.empty_packets.proofs.Between.{layer-set, layer-off_passes, setting_keeps_passes, new_blocks_tidied, Reached}
use Rattle.empty_packets.proofs.Between.{absent-is, present_is, block_bits_are, reached_present}
use Rattle.empty_packets.proofs.Between.{reached_header, accepted_here}
use Rattle.empty_packets.proofs.Alike.{Alike, same_alike, alike_at, set_alike, Shared, NoLow, shared_no_low, value-no_low}
use Rattle.empty_packets.proofs.Alike.{passes_same, new_same, rest-alike, block_alike, new_blocks_alike}

-- ---- lows and knowns of a path

-- what holds of all lows and knowns of a path holds of word i, or it is none of them
low-or-off {ℓ} : {X : Type ℓ} (Q : ℕ → Type 0) (i : ℕ) (xs : List ℕ) → All (λ b. Q (b + 1) × Q (b + 2)) xs → (Q i → X)
    → (All (OffLow i) xs → X) → X
low-or-off Q i [] q f g = g tt
low-or-off Q i (b ∷ xs) q f g =
    on-eq i (b + 1) (λ e. f (subst Q (sym e) q.0.0))
    (λ d. on-eq i (b + 2) (λ e. f (subst Q (sym e) q.0.1)) (λ e. low-or-off Q i xs q.1 f (λ h. g ((d, e), h))))

-- settled nodes of the same values are the same
settled_same : (t : ℕ) (ws vs us ys xs : List ℕ) → All (λ b. node_at us b ≡ settled t (value ws b)) xs
    → All (λ b. node_at ys b ≡ settled t (value vs b)) xs → All (λ b. value ws b ≡ value vs b) xs
    → All (λ b. (get_or us (b + 1) 0 ≡ get_or ys (b + 1) 0) × (get_or us (b + 2) 0 ≡ get_or ys (b + 2) 0)) xs
settled_same t ws vs us ys [] p q v = tt
settled_same t ws vs us ys (b ∷ xs) p q v =
    let e : node_at us b ≡ node_at ys b = p.0 ∙ ap (settled t) v.0 ∙ sym q.0 in
    ((ap (λ (n : Node). n.low) e, ap (λ (n : Node). n.known) e), settled_same t ws vs us ys xs p.1 q.1 v.1)

-- ---- one block, in two states

module _ (L : Layout) (S : ℕ → Type 0) (wide : (i : ℕ) → NoLow L i → S i) (k : Block) (P : Placed L k) (t : ℕ) (ws vs : List ℕ)
    (w : Tidied L t ws) (v : Tidied L t vs) where
  abbrev xs : List ℕ
  xs = root_to_leaf inclusion k

  -- the words in S, less the lows and knowns on k's path if it is new
  abbrev Fewer : ℕ → Type 0
  Fewer i = (passes_so_far ws k.at ≡ 0 → All (OffLow i) xs) × S i

  fewer_wide : (i : ℕ) → NoLow L i → Fewer i
  fewer_wide i h = ((λ _. all_so (L.Node inclusion) (OffLow i) xs h (from_root_nodes L inclusion k P)), wide i h)

  module _ (y : Alike Fewer ws vs) where
    inclusion_alike : (c : ℕ) → Alike S (code_inclusion t k c ws).words (code_inclusion t k c vs).words
    inclusion_alike c =
        let p = passes_same L Fewer (λ i h. fewer_wide i (shared_no_low L i h)) ws vs y k.at P.block in
        let us : List ℕ = (code_path k.incl_tree (t + 1) (reverse k.path) 0 ws).words in
        let ys : List ℕ = (code_path k.incl_tree (t + 1) (reverse k.path) 0 vs).words in
        let values : All (λ b. value ws b ≡ value vs b) xs =
        all_so (L.Node inclusion) (λ b. value ws b ≡ value vs b) xs
        (λ b n. y.words b (fewer_wide b (value-no_low L inclusion b n))) (from_root_nodes L inclusion k P) in
        let same = settled_same t ws vs us ys xs (path_settled L k P t ws w) (path_settled L k P t vs v) values in
        on-eq (passes_so_far ws k.at) 0
        (λ z. subst₂ (λ (x u : Coded). Alike S x.words u.words) (sym (new_inclusion t k c ws z))
        (sym (new_inclusion t k c vs (sym p ∙ z)))
        (record {
          long = (path_coded L inclusion k P (t + 1) ws w.long).words.long ∙ y.long
              ∙ sym (path_coded L inclusion k P (t + 1) vs v.long).words.long;
          words = λ i s. low-or-off (λ j. get_or us j 0 ≡ get_or ys j 0) i xs same (λ q. q)
              (λ o. off_lows_stay k.incl_tree (t + 1) (reverse k.path) 0 ws i o ∙ y.words i ((λ _. o), s)
              ∙ sym (off_lows_stay k.incl_tree (t + 1) (reverse k.path) 0 vs i o));
        }))
        (λ z. subst₂ (Alike S) (sym (old_inclusion t k c ws z)) (sym (old_inclusion t k c vs (λ e. z (p ∙ e))))
        (alike_at Fewer S ws vs (λ i s. ((λ e. absurd (z e)), s)) y))

-- ---- all blocks

-- word i is no low and no known word on a new block's path
abbrev OffNewLows : List ℕ → List Block → ℕ → Type 0
OffNewLows ws ks i = AllOnNew (OffLow i) ws ks

off_new_wide : (L : Layout) (ws : List ℕ) (ks : List Block) (i : ℕ) → AllPlaced L ks → NoLow L i → OffNewLows ws ks i
off_new_wide L ws [] i f h = tt
off_new_wide L ws (k ∷ ks) i f h = (
  (λ _. all_so (L.Node inclusion) (OffLow i) (root_to_leaf inclusion k) h (from_root_nodes L inclusion k f.0.0)),
  off_new_wide L ws ks i f.1 h,
)

-- all words are the same behind them, and so are the bits that are no inclusion tree's
blocks-alike : (L : Layout) (t : ℕ) (ks : List Block) (cs ls ms ws vs : List ℕ) → AllPlaced L ks → length cs ≡ length ks → Tidied L t ws
    → Tidied L t vs → Alike (OffNewLows ws ks) ws vs
    → Alike (λ _. Unit {0}) (code_blocks t ks cs ls ms ws).words (code_blocks t ks cs ls ms vs).words
    × (others_of (block_bits_from t ks cs ls ms ws) ≡ others_of (block_bits_from t ks cs ls ms vs))
unfolding code_blocks block_bits_from others_of
blocks-alike L t [] cs ls ms ws vs f e w v y = (y, refl)
blocks-alike L t (k ∷ ks) [] ls ms ws vs f e w v y = absurd (omega arith)
blocks-alike L t (k ∷ ks) (c ∷ cs) ls ms ws vs f e w v y =
    let P = f.0.0 in
    let segments : List Segment = segments_of (take c ls) (take c ms) in
    let ws₁ : List ℕ = (code_block t k c segments ws).words in
    let vs₁ : List ℕ = (code_block t k c segments vs).words in
    let wide : (i : ℕ) → NoLow L i → OffNewLows ws ks i = λ i h. off_new_wide L ws ks i f.1 h in
    let included = inclusion_alike L (OffNewLows ws ks) wide k P t ws vs w v y c in
    let a = block_alike L (OffNewLows ws ks) (λ i h. wide i (shared_no_low L i h)) k P c segments t t ws vs included in
    let new = new_same L (OffNewLows ws (k ∷ ks)) (λ i h. off_new_wide L ws (k ∷ ks) i f (shared_no_low L i h)) k P ws vs y in
    let others : other_bits t k c segments ws ≡ other_bits t k c segments vs =
    ap₂ (λ (x z : List ℕ). x ++ z) (ap (λ (b : Bool). cond b [] (cond (ltb 0 c) 1 0 ∷ [])) new)
    (rest-alike L (OffNewLows ws ks) (λ i h. wide i (shared_no_low L i h)) k P c segments _ _ included).bits in
    let same = coding_keeps_passes L ws ws₁ k c ks (block_coded L k P c t segments ws w.long) f.0.1 f.1 in
    let r = blocks-alike L t ks cs (drop c ls) (drop c ms) ws₁ vs₁ f.1 (omega arith) (block_tidied L k P t c segments ws w)
    (block_tidied L k P t c segments vs v)
    (alike_at (OffNewLows ws ks) (OffNewLows ws₁ ks) ws₁ vs₁ (λ i. on_new_before (OffLow i) ws ws₁ ks same) a) in (
      r.0,
      ap₂ (λ (x : Bits) (z : List Bits). x ∷ z)
          (others_are t k c segments ws ∙ others ∙ sym (others_are t k c segments vs)) r.1,
    )

-- ---- a packet with passes

-- the rule's state, and that of packets all coded block by block
pub record Ahead (bs : List Band) (s t : ℕ) (ws vs : List ℕ) : Type 0 where
  pub rule : Reached bs s t ws
  pub present : Reached bs s t vs
  pub alike : Alike (OffNewLows ws (blocks bs)) ws vs

module _ (bs : List Band) (s t : ℕ) (ws vs : List ℕ) (y : Ahead bs s t ws vs) (p : Contribution)
    (e : length p.counts ≡ length (blocks bs)) (l : t < not_yet_included) where
  abbrev L : Layout
  L = layout_of bs

  abbrev ks : List Block
  ks = blocks bs

  abbrev us : List ℕ
  us = set_new_blocks t ks p.counts ws

  abbrev ys : List ℕ
  ys = set_new_blocks t ks p.counts vs

  header_alike : Alike (λ _. Unit {0}) (header_blocks t ks p ws).words (header_blocks t ks p vs).words
      × (others_of (block_bits_from t ks p.counts p.lengths p.marks us)
      ≡ others_of (block_bits_from t ks p.counts p.lengths p.marks ys))
  header_alike =
      let f = blocks-placed bs in
      let cs : List ℕ = p.counts in
      let a = new_blocks_alike L (OffNewLows ws ks) (λ i h. off_new_wide L ws ks i f h) t ks cs ws vs f y.alike in
      let b = alike_at (OffNewLows ws ks) (OffNewLows us ks) us ys
      (λ i. on_new_before (OffLow i) ws us ks (setting_keeps_passes L t ks cs ws f y.rule.between)) a in
      blocks-alike L t ks cs p.lengths p.marks us ys f e (new_blocks_tidied L t ks cs ws f l y.rule.between)
      (new_blocks_tidied L t ks cs vs f l y.present.between) b

  header_same : (header_blocks t ks p ws).words ≡ (header_blocks t ks p vs).words
  header_same =
      let c = header_alike.0 in
      ext_get_or 0 (header_blocks t ks p ws).words (header_blocks t ks p vs).words c.long (λ i h. c.words i tt)

  pub others_same : others_of (block_bits p ws) ≡ others_of (block_bits p vs)
  others_same =
      ap others_of (block_bits_are bs s t ws y.rule p) ∙ header_alike.1 ∙ ap others_of (sym (block_bits_are bs s t vs y.present p))

  present_same : (code_present p ws).words ≡ (code_present p vs).words
  present_same =
      present_is bs s t ws y.rule p ∙ ap (λ (z : List ℕ). set z 3 (t + 1)) header_same ∙ sym (present_is bs s t vs y.present p)

  with_passes : contributes p ≡ true → (code_header p ws).words ≡ (code_present p vs).words
  with_passes h = ap (λ (x : Coded). x.words) (present_header p ws h) ∙ present_same

-- ---- a packet without passes

none_set : (t : ℕ) (ks : List Block) (cs ws : List ℕ) → any (λ (c : ℕ). ltb 0 c) cs ≡ false → set_new_blocks t ks cs ws ≡ ws
unfolding set_new_blocks any
none_set t [] cs ws h = refl
none_set t (k ∷ ks) [] ws h = refl
none_set t (k ∷ ks) (c ∷ cs) ws h =
    let rest : Bool = any (λ (d : ℕ). ltb 0 d) cs in
    let absent : (is_new ws k && ltb 0 c) ≡ false =
    ap (λ (b : Bool). is_new ws k && b) (or_left (ltb 0 c) rest h) ∙ and-false (is_new ws k) in
    ap (set_new_blocks t ks cs) (if-false (is_new ws k && ltb 0 c) _ _ absent)
    ∙ none_set t ks cs ws (or_right (ltb 0 c) rest h)

-- a block without passes
absent-stays : (t : ℕ) (k : Block) (c : ℕ) (segments : List Segment) (ws : List ℕ) (i : ℕ) → c ≡ 0
    → (passes_so_far ws k.at ≡ 0 → All (OffLow i) (root_to_leaf inclusion k))
    → get_or (code_block t k c segments ws).words i 0 ≡ get_or ws i 0
unfolding code_block
absent-stays t k c segments ws i z o =
    ap (λ (x : Coded). get_or x.words i 0) (if-eq c 0 (code_inclusion t k c ws) _ z)
    ∙ on-eq (passes_so_far ws k.at) 0
    (λ n. ap (λ (x : Coded). get_or x.words i 0) (new_inclusion t k c ws n)
    ∙ off_lows_stay k.incl_tree (t + 1) (reverse k.path) 0 ws i (o n))
    (λ n. ap (λ (x : List ℕ). get_or x i 0) (old_inclusion t k c ws n))

none_stays : (L : Layout) (t : ℕ) (ks : List Block) (cs ls ms ws : List ℕ) (i : ℕ) → AllPlaced L ks → length ws ≡ L.size
    → any (λ (c : ℕ). ltb 0 c) cs ≡ false → OffNewLows ws ks i
    → get_or (code_blocks t ks cs ls ms ws).words i 0 ≡ get_or ws i 0
unfolding code_blocks any
none_stays L t [] cs ls ms ws i f l h o = refl
none_stays L t (k ∷ ks) [] ls ms ws i f l h o = refl
none_stays L t (k ∷ ks) (c ∷ cs) ls ms ws i f l h o =
    let rest : Bool = any (λ (d : ℕ). ltb 0 d) cs in
    let z : c ≡ 0 = (let q = ltb-false 0 c (or_left (ltb 0 c) rest h) in omega arith) in
    let segments : List Segment = segments_of (take c ls) (take c ms) in
    let vs : List ℕ = (code_block t k c segments ws).words in
    let b = block_coded L k f.0.0 c t segments ws l in
    none_stays L t ks cs (drop c ls) (drop c ms) vs i f.1 (b.long ∙ l) (or_right (ltb 0 c) rest h)
    (on_new_after (OffLow i) ws vs ks (coding_keeps_passes L ws vs k c ks b f.0.1 f.1) o.1)
    ∙ absent-stays t k c segments ws i z o.0

module _ (bs : List Band) (s t : ℕ) (ws vs : List ℕ) (y : Ahead bs s t ws vs) (p : Contribution)
    (e : length p.counts ≡ length (blocks bs)) (l : t < not_yet_included) where
  without_passes : contributes p ≡ false → Alike (OffNewLows (set ws 3 (t + 1)) (blocks bs)) (set ws 3 (t + 1)) (code_present p vs).words
  unfolding contributes
  without_passes h =
      let L : Layout = layout_of bs in
      let ks : List Block = blocks bs in
      let f = blocks-placed bs in
      let us : List ℕ = (header_blocks t ks p vs).words in
      let vl = y.present.between.long in
      let none : us ≡ (code_blocks t ks p.counts p.lengths p.marks vs).words =
      ap (λ (z : List ℕ). (code_blocks t ks p.counts p.lengths p.marks z).words) (none_set t ks p.counts vs h) in
      let long : length ws ≡ length us = y.alike.long
      ∙ sym (blocks-coded L t ks p.counts p.lengths p.marks vs f vl).long ∙ ap length (sym none) in
      let wide : (i : ℕ) → Shared L i → OffNewLows ws ks i = λ i h. off_new_wide L ws ks i f (shared_no_low L i h) in
      let same = blocks-keep_passes L ws vs ks f (λ q b. sym (passes_same L (OffNewLows ws ks) wide ws vs y.alike q b)) in
      let later = blocks-keep_passes L ws (set ws 3 (t + 1)) ks f (layer-off_passes L ws (set ws 3 (t + 1)) (layer-set ws (t + 1))) in
      let words : (i : ℕ) → OffNewLows ws ks i → get_or ws i 0 ≡ get_or us i 0 =
      λ i o. y.alike.words i o
      ∙ sym (none_stays L t ks p.counts p.lengths p.marks vs i f vl h (on_new_after (OffLow i) ws vs ks same o))
      ∙ ap (λ (z : List ℕ). get_or z i 0) (sym none) in
      let a = set_alike (OffNewLows ws ks) ws us 3 (t + 1) (record { long = long; words = words }) in
      subst (Alike (OffNewLows (set ws 3 (t + 1)) ks) (set ws 3 (t + 1))) (sym (present_is bs s t vs y.present p))
      (alike_at (OffNewLows ws ks) (OffNewLows (set ws 3 (t + 1)) ks) _ _ (λ i. on_new_before (OffLow i) ws (set ws 3 (t + 1)) ks later) a)

  next_alike : Alike (OffNewLows (code_header p ws).words (blocks bs)) (code_header p ws).words (code_present p vs).words
  next_alike = go (contributes p) refl
    where
      go : (b : Bool) → contributes p ≡ b
          → Alike (OffNewLows (code_header p ws).words (blocks bs)) (code_header p ws).words (code_present p vs).words
      go true h = same_alike _ _ _ (with_passes bs s t ws vs y p e l h)
      go false h =
          let q : (code_header p ws).words ≡ set ws 3 (t + 1) =
          ap (λ (x : Coded). x.words) (absent-header p ws h) ∙ absent-is bs s t ws y.rule in
          subst (λ (z : List ℕ). Alike (OffNewLows z (blocks bs)) z (code_present p vs).words) (sym q) (without_passes h)

  next_ahead : Ahead bs s (t + 1) (code_header p ws).words (code_present p vs).words
  next_ahead = record {
    rule = reached_header bs s t ws y.rule p e l;
    present = reached_present bs s t vs y.present p e l;
    alike = next_alike;
  }

-- ---- packets, with passes or without

pub same_behind : (bs : List Band) (s t : ℕ) (ws vs : List ℕ) (before : List Contribution) (p : Contribution) → Ahead bs s t ws vs
    → Accepted ws (before ++ p ∷ []) → contributes p ≡ true
    → state_behind ws (before ++ p ∷ []) ≡ state_behind_present vs (before ++ p ∷ [])
unfolding Accepted state_behind state_behind_present
same_behind bs s t ws vs [] p y a h =
    let q = accepted_here bs s t ws y.rule p a.0 in
    with_passes bs s t ws vs y p q.0 q.1 h
same_behind bs s t ws vs (b ∷ before) p y a h =
    let q = accepted_here bs s t ws y.rule b a.0 in
    let next = next_ahead bs s t ws vs y b q.0 q.1 in
    same_behind bs s (t + 1) (code_header b ws).words (code_present b vs).words before p next a.1 h

-- at the last of them
pub header_behind : (bs : List Band) (s t : ℕ) (ws vs : List ℕ) (before : List Contribution) (p : Contribution) → Ahead bs s t ws vs
    → Accepted ws (before ++ p ∷ []) → others_of (block_bits p (state_behind ws before)) ≡ others_of (block_bits p (state_behind_present vs before))
unfolding Accepted state_behind state_behind_present
header_behind bs s t ws vs [] p y a =
    let q = accepted_here bs s t ws y.rule p a.0 in
    others_same bs s t ws vs y p q.0 q.1
header_behind bs s t ws vs (b ∷ before) p y a =
    let q = accepted_here bs s t ws y.rule b a.0 in
    let next = next_ahead bs s t ws vs y b q.0 q.1 in
    header_behind bs s (t + 1) (code_header b ws).words (code_present b vs).words before p next a.1
