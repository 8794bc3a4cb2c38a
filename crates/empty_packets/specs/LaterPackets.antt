-- What a packet without passes changes behind it (request No. 4). Of the later packets only the next one with passes, and of that one only
-- the inclusion trees' bits; the state behind it is what it would be if packets without passes were coded block by block too.
use Rattle.std.specs.Prelude.{◌≡◌, true, false, cond, List, [], ◌∷◌, ◌++◌, ℕ, length, take, drop}
use Rattle.t800.specs.declared.Band.{Band}
use Rattle.t800.specs.Base.{Words, Bytes, Bits, any}
use Rattle.t800.specs.Segments.{segments_of}
use Rattle.t800.specs.State.{Block, writer, blocks, bands, layer}
use Rattle.t800.specs.Start.{start}
use Rattle.t800.specs.WriteHeader.{Contribution, is_new, set_new_blocks, code_inclusion, code_block, contributes, code_present, code_header}
use Rattle.t800.specs.Packet.{measure_refusal}

-- ---- lists of contributions, each in the state that the one before it left

-- none of 5 to 9 refuses any of them
unfoldable pub Accepted : (state : Words) → List Contribution → Type 0
Accepted state [] = Unit {0}
Accepted state (p ∷ ps) = (measure_refusal state state p ≡ 0) × Accepted (code_header p state).words ps

unfoldable pub headers : (state : Words) → List Contribution → List Bits
headers state [] = []
headers state (p ∷ ps) = (code_header p state).bits ∷ headers (code_header p state).words ps

unfoldable pub state_behind : (state : Words) → List Contribution → Words
state_behind state [] = state
state_behind state (p ∷ ps) = state_behind (code_header p state).words ps

-- with each packet coded block by block
unfoldable pub state_behind_present : (state : Words) → List Contribution → Words
state_behind_present state [] = state
state_behind_present state (p ∷ ps) = state_behind_present (code_present p state).words ps

-- ---- the inclusion trees' bits of a header

-- a block's bits: those of its inclusion tree, and the others behind them
pub record BlockBits : Type 0 where
  pub inclusion_tree : Bits
  pub others : Bits

unfoldable pub block_bits_from : (layer_now : ℕ) → List Block → (counts lengths : Words) (marks : Bytes) (state : Words) → List BlockBits
block_bits_from layer_now [] cs lens marks state = []
block_bits_from layer_now (k ∷ ks) [] lens marks state = []
block_bits_from layer_now (k ∷ ks) (c ∷ cs) lens marks state =
    let tree = cond (is_new state k) (code_inclusion layer_now k c state).bits [] in
    let all = code_block layer_now k c (segments_of (take c lens) (take c marks)) state in
    record { inclusion_tree = tree; others = drop (length tree) all.bits }
    ∷ block_bits_from layer_now ks cs (drop c lens) (drop c marks) all.words

-- of a packet with passes, behind its first bit
unfoldable pub block_bits : Contribution → (state : Words) → List BlockBits
block_bits p state =
    let layer_now = layer state in
    let ks = blocks (bands state) in
    block_bits_from layer_now ks p.counts p.lengths p.marks (set_new_blocks layer_now ks p.counts state)

unfoldable pub joined : List BlockBits → Bits
joined [] = []
joined (b ∷ bs) = b.inclusion_tree ++ b.others ++ joined bs

unfoldable pub others_of : List BlockBits → List Bits
others_of [] = []
others_of (b ∷ bs) = b.others ∷ others_of bs

-- in each of two states the packet's bits are a 1 and its blocks', and they differ in those of inclusion trees at most
pub record SameButInclusionTrees (p : Contribution) (one other : Words) : Type 0 where
  pub one_bits : (code_present p one).bits ≡ 1 ∷ joined (block_bits p one)
  pub other_bits_lem : (code_present p other).bits ≡ 1 ∷ joined (block_bits p other)
  pub others_same : others_of (block_bits p one) ≡ others_of (block_bits p other)

-- ---- the statements, behind an accepted start of a writer

abbrev pub Started : (count : ℕ) (given : List Band) (style : ℕ) (planes lent : Words) → Type 0
Started count given style planes lent = (start writer count given style planes lent).answer ≡ 0

abbrev pub started_state : (count : ℕ) (given : List Band) (style : ℕ) (planes lent : Words) → Words
started_state count given style planes lent = (start writer count given style planes lent).state

-- Behind a packet with passes, whatever came before it, the state is that of packets all coded block by block.
abbrev pub StateAsIfPresent : Type 0
StateAsIfPresent =
    (count : ℕ) (given : List Band) (style : ℕ) (planes lent : Words) → Started count given style planes lent
    → let state = started_state count given style planes lent in
    (before : List Contribution) (p : Contribution) → Accepted state (before ++ p ∷ []) → contributes p ≡ true
    → state_behind state (before ++ p ∷ []) ≡ state_behind_present state (before ++ p ∷ [])

-- At each packet of the two lists, coded block by block, the bits are the same but for those of inclusion trees.
abbrev pub HeaderAsIfPresent : Type 0
HeaderAsIfPresent =
    (count : ℕ) (given : List Band) (style : ℕ) (planes lent : Words) → Started count given style planes lent
    → let state = started_state count given style planes lent in
    (before : List Contribution) (p : Contribution) → Accepted state (before ++ p ∷ [])
    → SameButInclusionTrees p (state_behind state before) (state_behind_present state before)

-- A packet e without passes is put in a list, in the state `state`: others without passes follow it, then p with passes, then any.
pub record ChangesAtMost (state : Words) (e : Contribution) (between : List Contribution) (p : Contribution) (behind : List Contribution)
    : Type 0 where
  pub single-bit : (code_header e state).bits ≡ 0 ∷ []
  pub between_same : headers (code_header e state).words between ≡ headers state between
  -- p has passes, so that its header is coded block by block
  pub next_changes : SameButInclusionTrees p (state_behind (code_header e state).words between) (state_behind state between)
  pub behind-same : headers (state_behind (code_header e state).words (between ++ p ∷ [])) behind
      ≡ headers (state_behind state (between ++ p ∷ [])) behind

-- the list is accepted with e
abbrev pub InsertionChangesAtMost : Type 0
InsertionChangesAtMost =
    (count : ℕ) (given : List Band) (style : ℕ) (planes lent : Words) → Started count given style planes lent
    → (before : List Contribution) (e : Contribution) (between : List Contribution) (p : Contribution) (behind : List Contribution)
    → let state = started_state count given style planes lent in
    Accepted state (before ++ e ∷ between ++ p ∷ behind)
    → contributes e ≡ false → any contributes between ≡ false → contributes p ≡ true
    → ChangesAtMost (state_behind state before) e between p behind
