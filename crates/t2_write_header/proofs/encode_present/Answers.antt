use mathlib.Core.Path.{◌≡◌, refl, sym, ap, ◌∙◌, subst}
use mathlib.Core.List.{List}
use Prim.Native.Nat.{◌≤◌}
use native.Mathlib.Omega.{arith}
use lib.ListN.{length, get_or, take}
use borrow.Author.Rules.{rules}
use Rattle.t800.specs.Base.{every}
use Rattle.t800.specs.Bits.{bits_of}
use Rattle.t800.specs.PassCount.{pass_bits}
use Rattle.t800.specs.declared.Band.{Band}
use Rattle.t800.specs.declared.Bio.{Bio}
use Rattle.t800.specs.State.{bands, blocks}
use Rattle.bio_bytes.specs.Writing.{Output, output, empty_at, last_place, put_bit, FreeBitsClear}
use Rattle.bio_write.proofs.Laws.FreeBits.{empty_at-clear, put_bit-clear}
use Rattle.t2_write_codes.specs.PassTable.{same_bits, is_codeword, is_pass_table}
use Rattle.t2_write_block.specs.Runs.{AllFit}
use Rattle.t800.specs.WriteHeader.{contribution}
use Rattle.t2_refusal_laws.proofs.Laws.NotRefused.{not_refused_for}
use Rattle.t2_refusal_laws.proofs.Laws.WriterState.{first_words_lem, bands-are, sides_are, length-is}
use Rattle.t2_write_header.proofs.Laws.Fits.{all_fit}
use Rattle.t2_write_header.proofs.Laws.Header.{layer-left, header_is}
use Rattle.t2_write_header.proofs.encode_present.Goals as goal

pub bands_of-bands-requires : goal.bands_of-bands-requires
bands_of-bands-requires c =
    let s = c in
    let a = s.args in
    let ws = a.words.now in
    first_words_lem ws (length ws)
    (not_refused_for ws (length ws) (contribution a.counts.now a.lengths.now a.marks.now) s.requires.0).valid

pub bounds-words-1 : goal.bounds-words-1
bounds-words-1 c =
    let s = c in
    let a = s.args in
    let ws = a.words.now in
    let r = not_refused_for ws (length ws) (contribution a.counts.now a.lengths.now a.marks.now) s.requires.0 in
    omega (arith, first_words_lem ws (length ws) r.valid)

pub overflow_cast-n : goal.overflow_cast-n
overflow_cast-n c =
    let s = c in
    let a = s.args in
    let ws = a.words.now in
    let r = not_refused_for ws (length ws) (contribution a.counts.now a.lengths.now a.marks.now) s.requires.0 in
    let small = c.type_inv.words 1 in omega (arith, first_words_lem ws (length ws) r.valid, small)

pub bounds-words-3 : goal.bounds-words-3
bounds-words-3 c =
    let s = c in
    let a = s.args in
    let ws = a.words.now in
    let r = not_refused_for ws (length ws) (contribution a.counts.now a.lengths.now a.marks.now) s.requires.0 in
    omega (arith, first_words_lem ws (length ws) r.valid)

pub bit_out-first-requires : goal.bit_out-first-requires
bit_out-first-requires c =
    let a = c.args in
    (subst FreeBitsClear (sym c.opj_bio_init_enc-b.ensures) (empty_at-clear a.start), omega arith)

pub invariant_of-by : goal.invariant_of-by
unfolding is_pass_table is_codeword same_bits every bits_of pass_bits
invariant_of-by c =
    let a = c.args in
    let ws = a.words.now in
    let r = not_refused_for ws (length ws) (contribution a.counts.now a.lengths.now a.marks.now) c.requires.0 in
    record { table = tt; early = layer-left ws (length ws) _ r }

pub code_bands-last-requires : goal.code_bands-last-requires
code_bands-last-requires c =
    let s = c in
    let a = s.args in
    let ws = a.words.now in
    let r = not_refused_for ws (length ws) (contribution a.counts.now a.lengths.now a.marks.now) s.requires.0 in
    let n = get_or ws 1 0 in
    let bs = c.bands_of-bands.result in
    let three = c.bands_of-bands.ensures in
    let e : take n bs ≡ bands ws = bands-are ws (length ws) r.valid n bs refl three in
    let sides = sides_are ws (length ws) r.valid n bs refl three in
    let first = c.bit_out-first in
    let clear : FreeBitsClear (empty_at a.start) = empty_at-clear a.start in (
      subst FreeBitsClear (sym (ap (λ (o : Output). o.bio) first.ensures))
          (put_bit-clear (output a.out.now c.opj_bio_init_enc-b.result) _
          (subst FreeBitsClear (sym c.opj_bio_init_enc-b.ensures) clear)),
      sides.0,
      sides.1,
      length-is ws (length ws) r.valid n bs refl three,
      r.counts_are ∙ ap (λ (l : List Band). length (blocks l)) (sym e),
      subst (λ (l : List Band). AllFit a.counts.now a.lengths.now a.marks.now ws (blocks l) 0 0) (sym e)
          (all_fit ws (length ws) _ r),
    )

pub overflow_add-words : goal.overflow_add-words
overflow_add-words c =
    let s = c in
    let a = s.args in
    let ws = a.words.now in
    let r = not_refused_for ws (length ws) (contribution a.counts.now a.lengths.now a.marks.now) s.requires.0 in
    omega (arith, layer-left ws (length ws) _ r)

pub bounds-words-3-2 : goal.bounds-words-3-2
bounds-words-3-2 c =
    let s = c in
    let a = s.args in
    let ws = a.words.now in
    let r = not_refused_for ws (length ws) (contribution a.counts.now a.lengths.now a.marks.now) s.requires.0 in
    omega (
      arith,
      first_words_lem ws (length ws) r.valid,
      c.code_bands-last.auto.words,
    )

pub returns : goal.returns
returns c =
    let s = c in
    let a = s.args in
    let ws = a.words.now in
    let r = not_refused_for ws (length ws) (contribution a.counts.now a.lengths.now a.marks.now) s.requires.0 in
    let n = get_or ws 1 0 in
    let e : take n c.bands_of-bands.result
    ≡ bands ws = bands-are ws (length ws) r.valid n
    c.bands_of-bands.result refl
    c.bands_of-bands.ensures in
    let l : length a.out.now ≤ last_place = search rules in
    let p = contribution a.counts.now a.lengths.now a.marks.now in
    let first = c.bit_out-first in
    let k = c.code_bands-last in
    header_is ws (length ws) p r a.start a.out.now _ _ _ _ _ s.requires.1 l e
    (first.ensures ∙ ap (λ (b : Bio). put_bit (output a.out.now b) 1)
    c.opj_bio_init_enc-b.ensures)
    k.ensures
    c.opj_bio_flush-end.ensures
    refl
