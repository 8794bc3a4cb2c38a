-- All blocks, and the header's end: what was read is t800's header.
use mathlib.Core.Path.{◌≡◌, refl, sym, ap, ◌∙◌, subst}
use mathlib.Core.Logic.{◌≢◌}
use mathlib.Core.Bool.{Bool, true, false, cond, ◌&&◌}
use mathlib.Core.List.{List, []}
use Prim.Native.Nat.{ℕ, ◌+◌, ◌*◌, ◌/◌}
use native.Mathlib.Nat.{zero-add}
use native.Mathlib.Omega.{arith}
use lib.Dec.{eqb}
use lib.ListN.{length}
use borrow.Author.Tests.{eq-eqb, ne_eqb}
use Rattle.t800.specs.declared.Bio.{Bio}
use Rattle.t800.specs.Base.{overwrite}
use Rattle.t800.specs.Bits.{ends_in_ff}
use Rattle.t800.specs.Reports.{report_words, record_words, report_width, record_width, body_bytes}
use Rattle.t800.specs.State.{reader, layer, bands, blocks}
use Rattle.t800.specs.ReadHeader.{HeaderRead, refused, read_blocks, read_header}
use Rattle.t800_laws.proofs.Laws.Tests.{either, on-eq}
use Rattle.round_trip.proofs.Trip.Segments.{read_so_far}
use Rattle.tcd_laws.proofs.Laws.ValidStates.{ValidState, bands-inside}
use Rattle.t2_read_segments.specs.Reading.{Reading, reading, stopped, held_by, BitsIn}
use Rattle.t2_read_block_parts.specs.Blocks.{next_blocks}
use Rattle.t2_read_block_parts.proofs.Laws.Kept.{blocks-keep}
use Rattle.t2_read_block.proofs.Laws.Follows.{Ends, choice, blocks_end}
use Rattle.tcd_places.proofs.Laws.BandBlocks.{bands-before}
use Rattle.t2_read_header.specs.Header.{ReadsHeader, start_of, next_header}
use Rattle.t2_read_header.proofs.Laws.BandBlocks.{bands-apart}

-- ---- the header's end

-- a refused reading isn't tested
and_refused : (n : ℕ) (t : Bool) → n ≢ 0 → (eqb n 0 && t) ≡ false
and_refused n t z = ap (λ (s : Bool). s && t) (ne_eqb n 0 z)

module _ (src : List ℕ) (a c : Reading) (is : c ≡ next_blocks src (layer a.words) 0 (blocks (bands a.words)) a) where
  header_by : (t : Bool) → (eqb c.refusal 0 && ends_in_ff src c.bio) ≡ t → cond t (stopped 12 c) c ≡ next_header src a
  unfolding next_header
  header_by t e = sym (ap (λ (x : Reading). cond (eqb x.refusal 0 && ends_in_ff src x.bio) (stopped 12 x) x) (sym is)
      ∙ ap (λ (s : Bool). cond s (stopped 12 c) c) e)

  pub header_refused : c.refusal ≢ 0 → c ≡ next_header src a
  header_refused z = header_by false (and_refused c.refusal _ z)

  module _ (ok : c.refusal ≡ 0) where
    end_test : (t : Bool) → ends_in_ff src c.bio ≡ t → (eqb c.refusal 0 && ends_in_ff src c.bio) ≡ t
    end_test t e = ap (λ (s : Bool). s && ends_in_ff src c.bio) (eq-eqb c.refusal 0 ok) ∙ e

    pub header_done : ends_in_ff src c.bio ≡ false → c ≡ next_header src a
    header_done e = header_by false (end_test false e)

    pub header_cut : (d : Reading) → d ≡ stopped 12 c → ends_in_ff src c.bio ≡ true → d ≡ next_header src a
    header_cut d q e = q ∙ header_by true (end_test true e)

-- ---- the whole header

module _ (src reports records ws : List ℕ) (b : Bio) (valid : ValidState reader ws (length ws)) where
  abbrev blocks_read : ℕ → Reading
  blocks_read room = next_blocks src (layer ws) 0 (blocks (bands ws)) (reading ws reports records (start_of room b))

  pub bits_in : (room : ℕ) → BitsIn src b → BitsIn src (blocks_read room).bio
  unfolding blocks
  bits_in room h =
      (blocks-keep src (length ws) ws (layer ws) 0 (blocks (bands ws)) (reading ws reports records (start_of room b))
      (bands-before (length ws) 13 (bands ws) (bands-inside ws (length ws) valid)) (record { bits = h; after = refl })).bits

  module _ (lent : length reports ≡ report_width * length (blocks (bands ws))) where
    abbrev room : ℕ
    room = length records / record_width

    abbrev EndsLike : Reading → HeaderRead → Type 0
    EndsLike = Ends reports records (length ws) (0 + length (blocks (bands ws)))

    abbrev read : HeaderRead
    read = read_blocks src room (layer ws) 0 (blocks (bands ws)) (read_so_far ws b [] [])

    start-held : reading ws reports records (start_of room b) ≡ held_by reports records (read_so_far ws b [] [])
    unfolding overwrite report_words record_words body_bytes
    start-held = refl

    all_end : EndsLike (blocks_read room) read
    unfolding blocks
    all_end =
        subst (λ (x : Reading). EndsLike (next_blocks src (layer ws) 0 (blocks (bands ws)) x) read) (sym start-held)
        (blocks_end src reports records (length ws) (layer ws) 0 (blocks (bands ws))
        (bands-apart (length ws) 13 (bands ws) (bands-inside ws (length ws) valid)) (omega arith) ws b [] [] (omega arith) refl refl)

    abbrev ended : Reading → Bool → Reading
    ended c t = cond t (stopped 12 c) c

    abbrev ended' : HeaderRead → Bool → HeaderRead
    ended' r t = cond t (refused 12) r

    abbrev cut : HeaderRead → Bool
    cut r = eqb r.refusal 0 && ends_in_ff src r.bio

    ends_alike : (c : Reading) (r : HeaderRead) → EndsLike c r
        → EndsLike (ended c (eqb c.refusal 0 && ends_in_ff src c.bio)) (ended' r (cut r))
    ends_alike c r e =
        on-eq r.refusal 0
        (λ z. subst (λ (t : Bool). EndsLike (ended c t) (ended' r (cut r)))
        (sym (ap (λ (x : Reading). eqb x.refusal 0 && ends_in_ff src x.bio) (e.holds z).same))
        (choice src reports records (length ws) _ (cut r) (stopped 12 c) c (refused 12) r
        (record { refuses = refl; holds = λ y. absurd (omega (arith, y)) }) e))
        (λ z. subst (λ (t : Bool). EndsLike (ended c t) (ended' r (cut r)))
        (sym (and_refused c.refusal (ends_in_ff src c.bio) (λ y. z (sym e.refuses ∙ y))))
        (subst (λ (t : Bool). EndsLike c (ended' r t)) (sym (and_refused r.refusal (ends_in_ff src r.bio) z)) e))

    header_ends : EndsLike (next_header src (reading ws reports records (start_of room b))) (read_header src room ws b)
    unfolding next_header read_header
    header_ends = ends_alike (blocks_read room) read all_end

    pub header_reads : BitsIn src b → ReadsHeader src reports records ws b (next_header src (reading ws reports records (start_of room b)))
    unfolding next_header
    header_reads h =
        let c : Reading = blocks_read room in
        let k = bits_in room h in
        record {
          follows = record { refuses = header_ends.refuses; holds = λ z. (header_ends.holds z).same };
          bits = either (λ (x : Reading). BitsIn src x.bio) (eqb c.refusal 0 && ends_in_ff src c.bio) (stopped 12 c) c k k;
          reported = λ z. (header_ends.holds z).reports_are ∙ zero-add (length (blocks (bands ws)));
        }
