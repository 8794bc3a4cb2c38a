use mathlib.Core.Path.{◌≡◌, refl, sym, ap, ◌∙◌, subst}
use mathlib.Core.Bool.{Bool, true, false, not}
use mathlib.Core.List.{List}
use Prim.Native.Nat.{ℕ, ◌≤◌}
use native.Mathlib.Omega.{arith}
use lib.ListN.{length}
use Rattle.t800.specs.declared.Bio.{Bio}
use Rattle.t800.specs.declared.Band.{Band}
use Rattle.t800.specs.Bits.{ends_in_ff}
use Rattle.t800.specs.State.{reader, layer, blocks, end_of}
use Rattle.tcd_laws.specs.Geometry.{AllUpTo64}
use Rattle.bio_read_end.specs.declared.Aligned.{Aligned}
use Rattle.bio_read_end.specs.HeaderEnd.{aligned_at}
use Rattle.tcd_laws.proofs.Laws.FirstWords.{first_bands}
use Rattle.tcd_laws.proofs.Laws.ValidStates.{valid_state_lem, bands-inside, thirteen_words}
use Rattle.t2_read_segments.specs.declared.Run.{Run}
use Rattle.t2_read_segments.specs.Reading.{Reading, reading, BitsIn}
use Rattle.t2_read_block_parts.specs.Blocks.{next_blocks}
use Rattle.t2_read_bands.specs.Bands.{BandsFit}
use Rattle.t2_read_bands.proofs.Laws.ReadBands.{bands-fit}
use Rattle.t2_read_header.specs.Header.{start_of}
use Rattle.t2_read_header.proofs.Laws.HeaderEnd.{bits_in, header_refused, header_done, header_cut}
use Rattle.t2_read_header.proofs.read_header.Goals as goal

-- what `ok` says of the last byte

ends : (src : List ℕ) (b : Bio) (r : Aligned) (t : Bool) → r ≡ aligned_at src b → r.ok ≡ t → ends_in_ff src b ≡ not t
unfolding aligned_at
ends src b r t e o = flip (ends_in_ff src b) t (sym (ap (λ (x : Aligned). x.ok) e) ∙ o)
  where
    flip : (x y : Bool) → not x ≡ y → x ≡ not y
    flip true y q = ap not q
    flip false y q = ap not q

pub bands_of-bands-requires : goal.bands_of-bands-requires
bands_of-bands-requires c =
    let s = c in
    let ws = s.args.words.now in
    thirteen_words ws (length ws) (valid_state_lem reader ws (length ws) s.requires.0)

pub bounds-words-1 : goal.bounds-words-1
bounds-words-1 c =
    let s = c in
    let a = s.args in
    let ws = a.words.now in
    let v = valid_state_lem reader ws (length ws) s.requires.0 in
    omega (arith, thirteen_words ws (length ws) v)

pub overflow_cast-n : goal.overflow_cast-n
overflow_cast-n c =
    let s = c in
    let a = s.args in
    let ws = a.words.now in
    let v = valid_state_lem reader ws (length ws) s.requires.0 in
    omega (arith, v.three_bands_lem)

pub bounds-words-3 : goal.bounds-words-3
bounds-words-3 c =
    let s = c in
    let a = s.args in
    let ws = a.words.now in
    let v = valid_state_lem reader ws (length ws) s.requires.0 in
    omega (arith, thirteen_words ws (length ws) v)

pub read_bands-run-requires : goal.read_bands-run-requires
read_bands-run-requires c =
    let s = c in
    let a = s.args in
    let ws = a.words.now in
    let v = valid_state_lem reader ws (length ws) s.requires.0 in
    let e = first_bands ws _ _ refl c.bands_of-bands.ensures in (
      s.requires.2,
      refl,
      v.three_bands_lem,
      subst AllUpTo64 (sym e) v.sides,
      subst (λ (bs : List Band). end_of 13 bs ≤ length ws) (sym e) (bands-inside ws (length ws) v),
      s.requires.1,
      subst (BandsFit ws 13) (sym e) (bands-fit ws 13 _ s.requires.1 v.ranges),
    )

pub returns-then-run-ne0 : goal.returns-then-run-ne0
returns-then-run-ne0 c =
    let s = c in
    let a = s.args in
    let ws = a.words.now in
    let v = valid_state_lem reader ws (length ws) s.requires.0 in
    let e = first_bands ws _ _ refl
    c.bands_of-bands.ensures in
    let f = c.read_bands-run in
    let is = f.ensures ∙ ap
    (λ (bs : List Band). next_blocks a.src.now (layer ws) 0 (blocks bs)
    (reading ws a.reports.now a.records.now (start_of a.room a.b))) e in
    header_refused a.src.now (reading ws a.reports.now a.records.now (start_of a.room a.b)) _ is
    c.if-run-ne0.true

pub opj_bio_inalign-end-requires : goal.opj_bio_inalign-end-requires
opj_bio_inalign-end-requires c =
    let s = c in
    let a = s.args in
    let ws = a.words.now in
    let v = valid_state_lem reader ws (length ws) s.requires.0 in
    let e = first_bands ws _ _ refl
    c.bands_of-bands.ensures in
    let f = c.read_bands-run in
    let is = f.ensures ∙ ap
    (λ (bs : List Band). next_blocks a.src.now (layer ws) 0 (blocks bs)
    (reading ws a.reports.now a.records.now (start_of a.room a.b))) e in
    (subst (λ (x : Reading). BitsIn a.src.now x.bio) (sym is)
    (bits_in a.src.now a.reports.now a.records.now ws a.b v a.room s.requires.2)).place

pub returns-then-end : goal.returns-then-end
returns-then-end c =
    let s = c in
    let a = s.args in
    let ws = a.words.now in
    let v = valid_state_lem reader ws (length ws) s.requires.0 in
    let e = first_bands ws _ _ refl
    c.bands_of-bands.ensures in
    let f = c.read_bands-run in
    let is = f.ensures ∙ ap
    (λ (bs : List Band). next_blocks a.src.now (layer ws) 0 (blocks bs)
    (reading ws a.reports.now a.records.now (start_of a.room a.b))) e in
    header_done a.src.now (reading ws a.reports.now a.records.now (start_of a.room a.b)) _ is
    c.if-run-ne0.false
    (ends a.src.now f.result.bio _ true c.opj_bio_inalign-end.ensures c.if-end.true)

pub returns : goal.returns
returns c =
    let s = c in
    let a = s.args in
    let ws = a.words.now in
    let v = valid_state_lem reader ws (length ws) s.requires.0 in
    let e = first_bands ws _ _ refl
    c.bands_of-bands.ensures in
    let f = c.read_bands-run in
    let is = f.ensures ∙ ap
    (λ (bs : List Band). next_blocks a.src.now (layer ws) 0 (blocks bs)
    (reading ws a.reports.now a.records.now (start_of a.room a.b))) e in
    header_cut a.src.now (reading ws a.reports.now a.records.now (start_of a.room a.b)) _ is
    c.if-run-ne0.false _
    (ap (λ (o : Run). reading f.new.words f.new.reports f.new.records o) c.refuse.ensures)
    (ends a.src.now f.result.bio _ false c.opj_bio_inalign-end.ensures c.if-end.false)
