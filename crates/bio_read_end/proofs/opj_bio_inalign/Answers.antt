use Prim.Native.Nat.{min}
use borrow.Author.Rules.{rules}
use mathlib.Core.Path.{◌≡◌, sym, ap, ◌∙◌}
use mathlib.Core.Bool.{true, not}
use lib.Dec.{eqb}
use lib.ListN.{length}
use lib.Bits.{and_mask}
use borrow.Author.Tests.{eq-eqb, ne_eqb}
use Rattle.t800.specs.Bits.{in_ff, ends_in_ff, bytes_taken, bio_at}
use Rattle.bio_read_end.specs.HeaderEnd.{aligned_at}
use Rattle.bio_read_end.proofs.opj_bio_inalign.Goals as goal

pub returns-then-b-eq255 : goal.returns-then-b-eq255
unfolding aligned_at ends_in_ff bytes_taken in_ff
returns-then-b-eq255 c =
    let s = c in
    let t = eq-eqb _ _ (sym (and_mask s.args.b.buf 8) ∙ c.if-b-eq255.true) in
    (λ i. record { ok = not (eqb s.args.b.bp (length s.args.src.now)); bio = c.opj_bio_init_dec-next.ensures i }) ∙ simp t

pub returns : goal.returns
unfolding aligned_at ends_in_ff bytes_taken in_ff
returns c =
    let s = c in
    let t = ne_eqb _ _ (λ q. c.if-b-eq255.false (and_mask s.args.b.buf 8 ∙ q)) in
    let least : c.min.result ≡ min s.args.b.bp (length s.args.src.now) = search rules in
    (λ i. record { ok = true; bio = (c.opj_bio_init_dec-bio.ensures ∙ ap bio_at least) i }) ∙ simp t
