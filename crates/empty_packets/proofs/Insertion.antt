-- A packet without passes put in a list: the headers of the packets behind it stay but for the next one with passes, of which the inclusion
-- trees' bits may change.
use mathlib.Core.Path.{◌≡◌, refl, sym, ap, ap₂, ◌∙◌, subst, subst₂}
use mathlib.Core.Logic.{inl, inr}
use mathlib.Core.Bool.{true, false}
use mathlib.Core.List.{List, [], ◌∷◌, ◌++◌}
use Prim.Native.Nat.{ℕ, ◌+◌, ◌≤◌, ◌<◌}
use native.Mathlib.Nat.{le_of_eq, le_refl}
use native.Mathlib.Omega.{arith}
use lib.ListN.{length, set}
use Rattle.t800.specs.declared.Band.{Band}
use Rattle.t800.specs.Base.{Bits, any}
use Rattle.t800.specs.TagTree.{Coded}
use Rattle.t800.specs.State.{Block, not_yet_included, blocks}
use Rattle.t800.specs.WriteHeader.{Contribution, set_new_blocks, contributes, code_present, code_absent, code_header}
use Rattle.t800.specs.Packet.{measure_refusal}
use Rattle.t800_laws.proofs.Laws.Tests.{or_left, or_right}
use Rattle.t800_laws.proofs.Laws.Contributes.{present_header, absent-header}
use Rattle.t800_laws.proofs.Laws.Layout.{Layout, layout_of, blocks-placed}
use Rattle.round_trip.proofs.Trip.Nodes.{Node}
use Rattle.round_trip.proofs.Trip.NodeWords.{node_at}
use Rattle.round_trip.proofs.Trip.WriterState.{header_blocks}
use Rattle.empty_packets.specs.LaterPackets.{Accepted, headers, state_behind, block_bits, others_of}
use Rattle.empty_packets.specs.LaterPackets.{ChangesAtMost}
use Rattle.empty_packets.proofs.Between.{ToldOrOpen, layer-set, Reached, absent-is, reached_absent}
use Rattle.empty_packets.proofs.Between.{present_is, present_bits_are, block_bits_are, reached_header, accepted_here}
use Rattle.empty_packets.proofs.BlockParts.{present_joined}
use Rattle.empty_packets.proofs.Alike.{same_alike, both-branches}
use Rattle.empty_packets.proofs.ShiftedNodes.{neither, Shifted, same, fresh}
use Rattle.empty_packets.proofs.ShiftedStates.{Shift, Step, step_then, layer-step}
use Rattle.empty_packets.proofs.ShiftedBlocks.{BlocksNotFresh, not_fresh_kept, blocks_step}
use Rattle.empty_packets.proofs.ShiftedBlocks.{blocks-not_fresh, blocks-bits, blocks-others, new_blocks_step}

-- ---- lists of packets

behind-append : (ws : List ℕ) (ps qs : List Contribution) → state_behind ws (ps ++ qs) ≡ state_behind (state_behind ws ps) qs
unfolding state_behind
behind-append ws [] qs = refl
behind-append ws (p ∷ ps) qs = behind-append (code_header p ws).words ps qs

pub accepted_append : (ws : List ℕ) (ps qs : List Contribution) → Accepted ws (ps ++ qs) → Accepted ws ps × Accepted (state_behind ws ps) qs
unfolding Accepted state_behind
accepted_append ws [] qs a = (tt, a)
accepted_append ws (p ∷ ps) qs a = let r = accepted_append (code_header p ws).words ps qs a.1 in ((a.0, r.0), r.1)

-- ---- one header

absent-bits : (p : Contribution) (ws : List ℕ) → contributes p ≡ false → (code_header p ws).bits ≡ 0 ∷ []
unfolding code_absent
absent-bits p ws e = ap (λ (x : Coded). x.bits) (absent-header p ws e)

-- without passes all headers are alike
absent-headers : (ws vs : List ℕ) (ps : List Contribution) → any contributes ps ≡ false → headers vs ps ≡ headers ws ps
unfolding headers any
absent-headers ws vs [] e = refl
absent-headers ws vs (p ∷ ps) e =
    let none = or_left (contributes p) (any contributes ps) e in
    ap₂ (λ (x : Bits) (y : List Bits). x ∷ y) (absent-bits p vs none ∙ sym (absent-bits p ws none))
    (absent-headers (code_header p ws).words (code_header p vs).words ps (or_right (contributes p) (any contributes ps) e))

-- ---- two states, in layer n without the packet and in the next with it, which was put in at layer t

record OnePacketApart (bs : List Band) (s t n : ℕ) (ws vs : List ℕ) : Type 0 where
  without : Reached bs s n ws
  added : Reached bs s (n + 1) vs
  shift : Shift (layout_of bs) t ws vs
  since : t ≤ n

-- where it is put in
told-or_open : (t : ℕ) (n : Node) → t ≤ not_yet_included → ToldOrOpen t n → Shifted t true n n
told-or_open t n h (inl w) = same w.before_now (le_of_eq (sym w.at_value)) (omega (arith, w.at_value, w.before_now)) w.is_known
    refl refl w.is_known
told-or_open t n h (inr w) = fresh refl (neither (omega (arith, w.no_value)) w.no_value w.no_value) refl w.low-in refl

module _ (bs : List Band) (s t : ℕ) (ws : List ℕ) (y : Reached bs s t ws) where
  put_in : (e : Contribution) → (code_header e ws).words ≡ (code_absent ws).words → t < not_yet_included
      → OnePacketApart bs s t t ws (code_header e ws).words
  put_in e absent left =
      let L : Layout = layout_of bs in
      let here : Shift L t ws ws = record {
        long = y.between.long;
        order = y.between.order;
        agree = same_alike _ ws ws refl;
        nodes = λ a n. told-or_open t (node_at ws a) y.layers (y.between.nodes a n);
      } in
      record {
        without = y;
        added = subst (Reached bs s (t + 1)) (sym absent) (reached_absent bs s t ws y left);
        shift = subst (Shift L t ws) (sym (absent ∙ absent-is bs s t ws y))
            (layer-step L t ws ws ws (set ws 3 (t + 1)) (refl, λ i h. refl) (layer-set ws (t + 1)) here).shift;
        since = le_refl t;
      }

-- ---- a header on both sides

module _ (bs : List Band) (s t n : ℕ) (ws vs : List ℕ) (x : OnePacketApart bs s t n ws vs) (soon : n + 1 < not_yet_included) where
  abbrev L : Layout
  L = layout_of bs

  abbrev ks : List Block
  ks = blocks bs

  absent-step : Step L t ws vs (code_absent ws).words (code_absent vs).words
  absent-step =
      subst₂ (Step L t ws vs) (sym (absent-is bs s n ws x.without)) (sym (absent-is bs s (n + 1) vs x.added))
      (layer-step L t ws vs (set ws 3 (n + 1)) (set vs 3 (n + 1 + 1)) (layer-set ws (n + 1)) (layer-set vs (n + 1 + 1)) x.shift)

  module _ (p : Contribution) where
    new_blocks : Step L t ws vs (set_new_blocks n ks p.counts ws) (set_new_blocks (n + 1) ks p.counts vs)
    new_blocks = new_blocks_step L t n x.since soon ks p.counts ws vs (blocks-placed bs) x.shift

    coded : Step L t ws vs (header_blocks n ks p ws).words (header_blocks (n + 1) ks p vs).words
    coded =
        step_then L t ws vs _ _ _ _ new_blocks
        (blocks_step L t n x.since soon ks p.counts p.lengths p.marks _ _ (blocks-placed bs) new_blocks.shift)

    last_step : Step L t (header_blocks n ks p ws).words (header_blocks (n + 1) ks p vs).words (code_present p ws).words
        (code_present p vs).words
    last_step =
        let ws' : List ℕ = (header_blocks n ks p ws).words in
        let vs' : List ℕ = (header_blocks (n + 1) ks p vs).words in
        subst₂ (Step L t ws' vs') (sym (present_is bs s n ws x.without p)) (sym (present_is bs s (n + 1) vs x.added p))
        (layer-step L t ws' vs' _ _ (layer-set ws' (n + 1)) (layer-set vs' (n + 1 + 1)) coded.shift)

    present_step : Step L t ws vs (code_present p ws).words (code_present p vs).words
    present_step = step_then L t ws vs _ _ _ _ coded last_step

    -- behind it no new block's path has a fresh node
    present_not_fresh : length p.counts ≡ length ks → BlocksNotFresh t (code_present p ws).words (code_present p vs).words ks
    present_not_fresh e =
        not_fresh_kept L t _ _ _ _ ks (blocks-placed bs) last_step
        (blocks-not_fresh L t n x.since soon ks p.counts p.lengths p.marks _ _ (blocks-placed bs) e new_blocks.shift)

    present_bits : BlocksNotFresh t ws vs ks → (code_present p vs).bits ≡ (code_present p ws).bits
    present_bits h =
        present_bits_are bs s (n + 1) vs x.added p
        ∙ ap (λ (z : List ℕ). 1 ∷ z)
        (blocks-bits L t n x.since soon ks p.counts p.lengths p.marks _ _ (blocks-placed bs) new_blocks.shift
        (not_fresh_kept L t ws vs _ _ ks (blocks-placed bs) new_blocks h))
        ∙ sym (present_bits_are bs s n ws x.without p)

    others_same : others_of (block_bits p vs) ≡ others_of (block_bits p ws)
    others_same =
        ap others_of (block_bits_are bs s (n + 1) vs x.added p)
        ∙ blocks-others L t n x.since soon ks p.counts p.lengths p.marks _ _ (blocks-placed bs) new_blocks.shift
        ∙ ap others_of (sym (block_bits_are bs s n ws x.without p))

-- ---- an accepted header on both sides

module _ (bs : List Band) (s t n : ℕ) (ws vs : List ℕ) (x : OnePacketApart bs s t n ws vs) (p : Contribution)
    (a : measure_refusal vs vs p ≡ 0) where
  counts : length p.counts ≡ length (blocks bs)
  counts = (accepted_here bs s (n + 1) vs x.added p a).0

  soon : n + 1 < not_yet_included
  soon = (accepted_here bs s (n + 1) vs x.added p a).1

  header_step : Step (layout_of bs) t ws vs (code_header p ws).words (code_header p vs).words
  unfolding code_header
  header_step =
      both-branches (λ (c d : Coded). Step (layout_of bs) t ws vs c.words d.words) (contributes p) (contributes p) _ _ _ _ refl
      (present_step bs s t n ws vs x soon p) (absent-step bs s t n ws vs x soon)

  header_apart : OnePacketApart bs s t (n + 1) (code_header p ws).words (code_header p vs).words
  header_apart =
      record {
        without = reached_header bs s n ws x.without p counts (omega (arith, soon));
        added = reached_header bs s (n + 1) vs x.added p counts soon;
        shift = header_step.shift;
        since = omega (arith, x.since);
      }

  header_bits_lem : BlocksNotFresh t ws vs (blocks bs) → (code_header p vs).bits ≡ (code_header p ws).bits
  unfolding code_header code_absent
  header_bits_lem h =
      both-branches (λ (c d : Coded). d.bits ≡ c.bits) (contributes p) (contributes p) _ _ _ _ refl
      (present_bits bs s t n ws vs x soon p h) refl

  -- where it is present no new block's path has a fresh node behind it
  header_not_fresh : code_header p ws ≡ code_present p ws → code_header p vs ≡ code_present p vs
      → BlocksNotFresh t (code_header p ws).words (code_header p vs).words (blocks bs)
  header_not_fresh e f =
      subst₂ (λ (c d : Coded). BlocksNotFresh t c.words d.words (blocks bs)) (sym e) (sym f)
      (present_not_fresh bs s t n ws vs x soon p counts)

list_apart : (bs : List Band) (s t n : ℕ) (ws vs : List ℕ) (ps : List Contribution) → OnePacketApart bs s t n ws vs → Accepted vs ps
    → OnePacketApart bs s t (n + length ps) (state_behind ws ps) (state_behind vs ps)
unfolding Accepted state_behind
list_apart bs s t n ws vs [] x a = subst (λ (m : ℕ). OnePacketApart bs s t m ws vs) (omega arith) x
list_apart bs s t n ws vs (p ∷ ps) x a =
    let ws' : List ℕ = (code_header p ws).words in
    let vs' : List ℕ = (code_header p vs).words in
    subst (λ (m : ℕ). OnePacketApart bs s t m (state_behind ws' ps) (state_behind vs' ps)) (omega arith)
    (list_apart bs s t (n + 1) ws' vs' ps (header_apart bs s t n ws vs x p a.0) a.1)

headers-same : (bs : List Band) (s t n : ℕ) (ws vs : List ℕ) (ps : List Contribution) → OnePacketApart bs s t n ws vs
    → BlocksNotFresh t ws vs (blocks bs) → Accepted vs ps → headers vs ps ≡ headers ws ps
unfolding Accepted headers
headers-same bs s t n ws vs [] x h a = refl
headers-same bs s t n ws vs (p ∷ ps) x h a =
    let ws' : List ℕ = (code_header p ws).words in
    let vs' : List ℕ = (code_header p vs).words in
    ap₂ (λ (y : Bits) (z : List Bits). y ∷ z) (header_bits_lem bs s t n ws vs x p a.0 h)
    (headers-same bs s t (n + 1) ws' vs' ps (header_apart bs s t n ws vs x p a.0)
    (not_fresh_kept (layout_of bs) t ws vs ws' vs' (blocks bs) (blocks-placed bs) (header_step bs s t n ws vs x p a.0) h)
    a.1)

-- ---- the list with the packet e and without it

-- p and what follows, on both sides
behind-apart : (bs : List Band) (s t n : ℕ) (ws vs : List ℕ) (p : Contribution) (ps : List Contribution) → OnePacketApart bs s t n ws vs
    → code_header p ws ≡ code_present p ws → code_header p vs ≡ code_present p vs → Accepted vs (p ∷ ps)
    → (others_of (block_bits p vs) ≡ others_of (block_bits p ws)) × (headers (code_header p vs).words ps ≡ headers (code_header p ws).words ps)
unfolding Accepted
behind-apart bs s t n ws vs p ps x e f a = (
  others_same bs s t n ws vs x (soon bs s t n ws vs x p a.0) p,
  headers-same bs s t (n + 1) _ _ ps (header_apart bs s t n ws vs x p a.0) (header_not_fresh bs s t n ws vs x p a.0 e f)
      a.1,
)

behind-one : (ws : List ℕ) (ps : List Contribution) (p : Contribution)
    → state_behind ws (ps ++ p ∷ []) ≡ (code_header p (state_behind ws ps)).words
unfolding state_behind
behind-one ws ps p = behind-append ws ps (p ∷ [])

pub changes_at_most : (bs : List Band) (s t : ℕ) (ws : List ℕ) (e : Contribution) (between : List Contribution) (p : Contribution)
    (behind : List Contribution) → Reached bs s t ws → Accepted ws (e ∷ between ++ p ∷ behind)
    → contributes e ≡ false → any contributes between ≡ false → contributes p ≡ true → ChangesAtMost ws e between p behind
unfolding Accepted
changes_at_most bs s t ws e between p behind y a none nones some =
    let vs : List ℕ = (code_header e ws).words in
    let l = (accepted_here bs s t ws y e a.0).1 in
    let r = accepted_append vs between (p ∷ behind) a.1 in
    let absent = ap (λ (x : Coded). x.words) (absent-header e ws none) in
    let x = list_apart bs s t t ws vs between (put_in bs s t ws y e absent l) r.0 in
    let f = present_header p (state_behind ws between) some in
    let g = present_header p (state_behind vs between) some in
    let q = behind-apart bs s t (t + length between) (state_behind ws between) (state_behind vs between) p behind x f g r.1 in
    record {
      single-bit = absent-bits e ws none;
      between_same = absent-headers ws vs between nones;
      next_changes = record {
        one_bits = present_joined p (state_behind vs between);
        other_bits_lem = present_joined p (state_behind ws between);
        others_same = q.0;
      };
      behind-same = ap (λ (z : List ℕ). headers z behind) (behind-one vs between p) ∙ q.1
          ∙ ap (λ (z : List ℕ). headers z behind) (sym (behind-one ws between p));
    }
