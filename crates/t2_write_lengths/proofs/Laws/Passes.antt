-- The parts of a block's passes make t800's.
use mathlib.Core.Path.{◌≡◌, refl, sym, ap, ◌∙◌}
use mathlib.Core.List.{List, ◌++◌}
use Prim.Native.Nat.{ℕ, ◌+◌}
use lib.ListN.{get_or, set}
use Rattle.t800.specs.PassCount.{pass_bits}
use Rattle.t800.specs.Segments.{Segment, increment, comma_bits, length_fields}
use Rattle.t800.specs.State.{Block}
use Rattle.t800.specs.WriteHeader.{is_new, length_bits_before, code_passes}
use Rattle.bio_bytes.specs.Writing.{Output, put_bits}
use Rattle.bio_write.proofs.Laws.FreeBits.{put_bits-append}
use Rattle.tgt_write.specs.Coding.{put_coded}
use Rattle.tcd_places.specs.Places.{block_at}
use Rattle.t2_write_lengths.specs.Lengths.{Lengths, put_lengths}
use Rattle.t2_write_lengths.specs.Blocks.{coded}

abbrev lengths_are : Output → ℕ → Lengths
lengths_are o n = record { output = o; length_bits = n }

pub lengths_are_lem : (o o1 o2 o3 : Output) (before c more : ℕ) (segments : List Segment) → o1 ≡ put_bits o (pass_bits c) → o2
    ≡ put_bits o1 (comma_bits more) → o3 ≡ put_bits o2 (length_fields (before + more) segments)
    → more ≡ increment before segments → lengths_are o3 (before + more) ≡ put_lengths o before c segments
unfolding put_lengths
lengths_are_lem o o1 o2 o3 before c more segments p q r e =
    let f : List ℕ = length_fields (before + more) segments in
    let w : o3 ≡ put_bits o (pass_bits c ++ comma_bits more ++ f) =
    r
    ∙ ap (λ (x : Output). put_bits x f) (q ∙ ap (λ (x : Output). put_bits x (comma_bits more)) p)
    ∙ sym (put_bits-append o (pass_bits c ++ comma_bits more) f
    ∙ ap (λ (x : Output). put_bits x f) (put_bits-append o (pass_bits c) (comma_bits more))) in
    (λ i. lengths_are (w i) (before + more))
    ∙ ap (λ (m : ℕ). lengths_are (put_bits o (pass_bits c ++ comma_bits m ++ length_fields (before + m) segments)) (before + m)) e

pub passes_are : (o : Output) (at before c : ℕ) (segments : List Segment) (ws : List ℕ) (r : Lengths) → r
    ≡ put_lengths o before c segments → before ≡ length_bits_before ws (block_at at)
    → coded (set (set ws at (get_or ws at 0 + c)) (at + 1) r.length_bits) r.output ≡ put_coded o (code_passes (block_at at) c segments ws)
unfolding code_passes put_lengths
passes_are o at before c segments ws r e f =
    ap (λ (k : Lengths). coded (set (set ws at (get_or ws at 0 + c)) (at + 1) k.length_bits) k.output)
    (e ∙ ap (λ (b : ℕ). put_lengths o b c segments) f)

-- nothing of a block counts but the place of its words
pub same_passes : (k : Block) (c : ℕ) (segments : List Segment) (ws : List ℕ) → code_passes (block_at k.at) c segments ws
    ≡ code_passes k c segments ws
unfolding code_passes length_bits_before is_new
same_passes k c segments ws = refl
