-- A list from a place on; how long the lists of the definitions are, and what they come to at an empty list or at a last element.
use mathlib.Core.Path.{◌≡◌, refl, ap, ◌∙◌}
use mathlib.Core.Bool.{Bool, false, or-true, not, ◌||◌}
use mathlib.Core.List.{List, [], ◌∷◌}
use Prim.Native.Nat.{ℕ, zero, suc, ◌+◌, ◌*◌, ◌<◌}
use native.Mathlib.Numerals.{add-one}
use native.Mathlib.Omega.{arith}
use lib.ListN.{length, get_or, drop}
use lib.Seq.{drop-cons}
use lib.Dec.{eqb}
use borrow.Author.Tests.{not-false, eqb-true}
use Rattle.t800.specs.declared.Band.{Band}
use Rattle.t800.specs.Base.{sum}
use Rattle.t800.specs.Segments.{segments_from}
use Rattle.t800.specs.declared.SegmentRecord.{SegmentRecord}
use Rattle.t800.specs.Reports.{record_width, record_words}
use Rattle.t800.specs.State.{Block, blocks_from}
use Rattle.t800.specs.Ranges.{block_too_deep}
use Rattle.t800.specs.Start.{set_zero_planes}
use Rattle.t800.specs.WriteHeader.{Contribution}
use Rattle.t800.specs.Packet.{wrong_lists}
use Rattle.t800_laws.proofs.Laws.Tests.{or_left, or_right}

pub no_elements : (xs : List ℕ) → length xs ≡ 0 → xs ≡ []
no_elements [] h = refl
no_elements (x ∷ xs) h = absurd (omega arith)

-- a list from place i on, in the code's numbers
pub next_entry : (l : List ℕ) (i : ℕ) → i < length l → drop i l ≡ get_or l i 0 ∷ drop (i + 1) l
next_entry l i h = drop-cons l i 0 h ∙ rw (add-one i)

pub length_from : (at : ℕ) (b : Band) (n i : ℕ) → length (blocks_from at b n i) ≡ n
unfolding blocks_from
length_from at b zero i = refl
length_from at b (suc n) i = ap suc (length_from at b n (i + 1))

pub record-words_length : (rs : List SegmentRecord) → length (record_words rs) ≡ record_width * length rs
unfolding record_words
record-words_length [] = refl
record-words_length (r ∷ rs) = let i = record-words_length rs in omega arith

pub no_planes : (ks : List Block) (ws : List ℕ) → set_zero_planes ks [] ws ≡ ws
unfolding set_zero_planes
no_planes [] ws = refl
no_planes (k ∷ ks) ws = refl

pub none_too_deep : (ks : List Block) → block_too_deep ks [] ≡ false
unfolding block_too_deep
none_too_deep [] = refl
none_too_deep (k ∷ ks) = refl

pub last_pass : (n len l m : ℕ) → segments_from n len (l ∷ []) (m ∷ []) ≡ record { passes = n + 1; bytes = len + l } ∷ []
unfolding segments_from
last_pass n len l m = rw (or-true (not (eqb m 0)))

-- a contribution whose lists are right
pub lists_right : (p : Contribution) (n : ℕ) → wrong_lists p n ≡ false → (length p.counts ≡ n)
    × (length p.lengths ≡ sum p.counts) × (length p.marks ≡ sum p.counts)
unfolding wrong_lists
lists_right p n h =
    let a : Bool = not (eqb (length p.counts) n) in
    let b : Bool = not (eqb (length p.lengths) (sum p.counts)) in
    let c : Bool = not (eqb (length p.marks) (sum p.counts)) in
    let ab : (a || b) ≡ false = or_left (a || b) c h in (
      eqb-true (length p.counts) n (not-false (eqb (length p.counts) n) (or_left a b ab)),
      eqb-true (length p.lengths) (sum p.counts) (not-false (eqb (length p.lengths) (sum p.counts)) (or_right a b ab)),
      eqb-true (length p.marks) (sum p.counts) (not-false (eqb (length p.marks) (sum p.counts)) (or_right (a || b) c h)),
    )
