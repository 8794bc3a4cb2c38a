-- Coding with places that run on is t800's coding of what is left of the lists.
use mathlib.Core.Path.{◌≡◌, refl, sym, ap, ◌∙◌}
use mathlib.Core.List.{List, [], ◌∷◌}
use Prim.Native.Nat.{ℕ, ◌+◌, ◌≤◌}
use native.Mathlib.Omega.{arith}
use lib.ListN.{length, get_or, take, drop}
use lib.Seq.{drop-drop}
use Rattle.t800.specs.Segments.{segments_of}
use Rattle.t800.specs.State.{Block}
use Rattle.t800.specs.TagTree.{Coded}
use Rattle.t800.specs.WriteHeader.{code_block, code_blocks}
use Rattle.bio_bytes.specs.Writing.{Output, put_bits}
use Rattle.bio_write.proofs.Laws.FreeBits.{put_bits-append}
use Rattle.tgt_write.specs.Coding.{put_coded}
use Rattle.t800_laws.proofs.Laws.Lists.{next_entry}
use Rattle.t2_write_lengths.specs.Blocks.{coded}
use Rattle.t2_write_block.specs.Runs.{Running, code_next, code_all}

-- one block, then those after it
blocks-turn : (t : ℕ) (k : Block) (ks : List Block) (c : ℕ) (cs ls ms ws : List ℕ) (o : Output)
    → put_coded (put_bits o (code_block t k c (segments_of (take c ls) (take c ms)) ws).bits)
    (code_blocks t ks cs (drop c ls) (drop c ms) (code_block t k c (segments_of (take c ls) (take c ms)) ws).words)
    ≡ put_coded o (code_blocks t (k ∷ ks) (c ∷ cs) ls ms ws)
unfolding code_blocks
blocks-turn t k ks c cs ls ms ws o =
    let b : Coded = code_block t k c (segments_of (take c ls) (take c ms)) ws in
    let r : Coded = code_blocks t ks cs (drop c ls) (drop c ms) b.words in
    ap (coded r.words) (sym (put_bits-append o b.bits r.bits))

pub code_is_blocks : (t : ℕ) (cs ls ms : List ℕ) (ks : List Block) (s : Running) → s.block + length ks ≤ length cs
    → coded (code_all t cs ls ms ks s).words (code_all t cs ls ms ks s).output
    ≡ put_coded s.output (code_blocks t ks (drop s.block cs) (drop s.pass ls) (drop s.pass ms) s.words)
unfolding code_all code_next code_blocks put_bits
code_is_blocks t cs ls ms [] s h = refl
code_is_blocks t cs ls ms (k ∷ ks) s h =
    let c : ℕ = get_or cs s.block 0 in
    let u : Running = code_next t cs ls ms k s in
    let p : drop (s.pass + c) ls ≡ drop c (drop s.pass ls) = sym (drop-drop c s.pass ls) in
    let q : drop (s.pass + c) ms ≡ drop c (drop s.pass ms) = sym (drop-drop c s.pass ms) in
    code_is_blocks t cs ls ms ks u (omega arith)
    ∙ (λ i. put_coded u.output (code_blocks t ks (drop (s.block + 1) cs) (p i) (q i) u.words))
    ∙ blocks-turn t k ks c (drop (s.block + 1) cs) (drop s.pass ls) (drop s.pass ms) s.words s.output
    ∙ sym (ap (λ (ds : List ℕ). put_coded s.output (code_blocks t (k ∷ ks) ds (drop s.pass ls) (drop s.pass ms) s.words))
    (next_entry cs s.block (omega arith)))
