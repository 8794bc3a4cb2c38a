-- A header read into lists without room is t800's header, but for the reports and the records: the same reading, with lists that are long
-- enough, is.
use mathlib.Core.Path.{◌≡◌, sym, ap, ◌∙◌, subst}
use mathlib.Core.Bool.{true}
use mathlib.Core.List.{List}
use Prim.Native.Nat.{ℕ, ◌*◌, ◌/◌, ◌%◌, ◌^◌}
use native.Mathlib.Omega.{arith}
use lib.ListN.{length, replicate, length-replicate}
use Rattle.t800.specs.declared.Bio.{Bio}
use Rattle.t800.specs.Reports.{report_width, record_width, room_for_all, body_bytes}
use Rattle.t800.specs.State.{reader, bands, blocks}
use Rattle.t800.specs.Ranges.{valid_state}
use Rattle.t800.specs.ReadHeader.{HeaderRead, read_header}
use Rattle.t800_laws.proofs.Laws.Starts.{header_bytes_lem}
use Rattle.tcd_laws.proofs.Laws.ValidStates.{valid_state_lem, blocks-of_valid}
use Rattle.t2_read_segments.specs.Reading.{Reading, reading, BitsIn}
use Rattle.t2_read_header.specs.Header.{ReadsHeader, start_of, next_header}
use Rattle.t2_read_header.proofs.Laws.HeaderEnd.{header_reads}
use Rattle.t2_skip_header.specs.Skipping.{SkipsHeader}
use Rattle.t2_skip_header.proofs.Laws.Bare.{bare, header_bare}

-- a holds what r does, but for the reports and the records
record HoldsBut (src : List ℕ) (a : Reading) (r : HeaderRead) : Type 0 where
  pub refuses : a.refusal ≡ r.refusal
  pub holds : r.refusal ≡ 0 → (a.words ≡ r.words) × (a.bio ≡ r.bio) × (a.bytes ≡ body_bytes r.records % 2 ^ 64)
  pub bits : BitsIn src a.bio

module _ (src ws : List ℕ) (b : Bio) (valid : valid_state reader ws (length ws) ≡ true) (h : BitsIn src b) where
  module _ (room : ℕ) where
    abbrev reports : List ℕ
    reports = replicate (report_width * length (blocks (bands ws))) 0

    abbrev records : List ℕ
    records = replicate (record_width * room) 0

    -- the header, read into these
    abbrev read : ℕ → Reading
    read n = next_header src (reading ws reports records (start_of n b))

    room_is : length records / record_width ≡ room
    room_is = omega (arith, length-replicate {A = ℕ} (record_width * room) 0)

    reads : ReadsHeader src reports records ws b (read (length records / record_width))
    reads = header_reads src reports records ws b (valid_state_lem reader ws (length ws) valid)
        (length-replicate (report_width * length (blocks (bands ws))) 0) h

    read-holds : (n : ℕ) → length records / record_width ≡ n → HoldsBut src (read n) (read_header src n ws b)
    read-holds n e =
        subst (λ (m : ℕ). HoldsBut src (read m) (read_header src m ws b)) e
        (record {
          refuses = reads.follows.refuses;
          holds = λ z. let s = reads.follows.holds z in
              (ap (λ (x : Reading). x.words) s, ap (λ (x : Reading). x.bio) s, ap (λ (x : Reading). x.bytes) s);
          bits = reads.bits;
        })

    -- the same, whatever the lists
    holds_but : (xs ys : List ℕ) (a : Reading) → a ≡ next_header src (reading ws xs ys (start_of room b))
        → HoldsBut src a (read_header src room ws b)
    holds_but xs ys a is =
        let e : bare (read room) ≡ bare a = header_bare src (reading ws reports records (start_of room b))
        ∙ sym (header_bare src (reading ws xs ys (start_of room b))) ∙ ap bare (sym is) in
        let k = read-holds room room_is in
        let f : HoldsBut src (bare (read room)) (read_header src room ws b) =
        record { refuses = k.refuses; holds = k.holds; bits = k.bits } in
        let g : HoldsBut src (bare a) (read_header src room ws b) = subst (λ (x : Reading). HoldsBut src x (read_header src room ws b)) e f in
        record { refuses = g.refuses; holds = g.holds; bits = g.bits }

  pub skips : (xs ys : List ℕ) (a : Reading) → a ≡ next_header src (reading ws xs ys (start_of room_for_all b))
      → SkipsHeader src ws b a.words (record { bio = a.bio; bytes = a.bytes; refusal = a.refusal })
  skips xs ys a is =
      let k = holds_but room_for_all xs ys a is in
      let few = header_bytes_lem src room_for_all ws b (blocks-of_valid reader ws (length ws) valid) in
      record {
        refuses = k.refuses;
        holds = λ z. let s = k.holds z in (s.0, s.1, s.2 ∙ omega (arith, few));
        bits = k.bits;
      }
