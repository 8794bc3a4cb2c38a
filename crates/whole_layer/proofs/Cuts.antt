-- Where an accepted single call's lists end among those of a layer: its state's first words say how long each of them is.
use mathlib.Core.Path.{◌≡◌, sym, ap, ◌∙◌}
use mathlib.Core.List.{List, ◌++◌}
use Prim.Native.Nat.{ℕ, ◌+◌, ◌≤◌}
use native.Mathlib.Omega.{arith}
use lib.ListN.{length, take, drop, length-set, get_or-append}
use lib.Seq.{take-append_seam, drop-append_seam}
use borrow.Author.Tests.{eq-eqb}
use Rattle.t800.specs.declared.Band.{Band}
use Rattle.t800.specs.Base.{sum, overwrite}
use Rattle.t800.specs.TagTree.{Coded}
use Rattle.t800.specs.State.{writer, layer, blocks, bands, state_length}
use Rattle.t800.specs.WriteHeader.{Contribution, contribution, contributes, code_present, code_absent, code_header}
use Rattle.t800.specs.Packet.{WriteResult, write_refusal}
use Rattle.t800.specs.Interface.{WriteCall}
use Rattle.t800.specs.Layer.{Rest, asks, in_front, behind, Single, wrote, packet_of}
use Rattle.t800_laws.proofs.Laws.Tests.{either}
use Rattle.t800_laws.proofs.Laws.Layout.{end_after}
use Rattle.t800_laws.proofs.Laws.FirstWords.{same_bands}
use Rattle.t800_laws.proofs.Laws.Kept.{kept, bands-kept_then_layer}
use Rattle.t800_laws.proofs.Laws.HeaderKept.{blocks_coded, header_coded_lem}
use Rattle.t800_laws.proofs.Laws.StateAfter.{writing_in_range}
use Rattle.tcd_laws.proofs.Laws.ValidStates.{valid_state_lem}
use Rattle.round_trip.proofs.Trip.Calls.{measured, write-zero, write_done}
use Rattle.whole_layer.proofs.Refusals.{answers_number}

-- ---- states that are as long as their first words say

abbrev pub Complete : List ℕ → Type 0
Complete ws = length ws ≡ state_length (bands ws)

pub thirteen : (ws : List ℕ) → Complete ws → 13 ≤ length ws
unfolding state_length
thirteen ws h = rw h (end_after 13 (bands ws))

pub bands-in_front : (ws more : List ℕ) → Complete ws → bands (ws ++ more) ≡ bands ws
bands-in_front ws more h =
    let l : 13 ≤ length ws = thirteen ws h in
    (same_bands ws (ws ++ more) (λ j g n. get_or-append ws more 0 j (omega arith))).0

header_kept : (p : Contribution) (ws : List ℕ) → (length (code_header p ws).words ≡ length ws)
    × (bands (code_header p ws).words ≡ bands ws)
unfolding code_header code_present code_absent
header_kept p ws =
    let t : ℕ = layer ws + 1 in
    either (λ (x : Coded). (length x.words ≡ length ws) × (bands x.words ≡ bands ws)) (contributes p) _ _
    (length-set (blocks_coded p ws) 3 t ∙ (header_coded_lem p ws).long, bands-kept_then_layer t (header_coded_lem p ws))
    (length-set ws 3 t, bands-kept_then_layer t (kept 13))

-- ---- an accepted single call

pub record Fits (s : Single) : Type 0 where
  pub complete : Complete s.state
  pub scratch : length s.call.scratch ≡ length s.state
  pub counts : length s.call.contribution.counts ≡ length (blocks (bands s.state))
  pub lengths : length s.call.contribution.lengths ≡ sum s.call.contribution.counts
  pub marks : length s.call.contribution.marks ≡ sum s.call.contribution.counts
  pub body : length s.call.body ≡ sum s.call.contribution.lengths
  pub left : wrote s
      ≡ record {
        answer = record { refusal = 0; bytes = length (packet_of s) };
        state = (code_header s.call.contribution s.state).words;
        scratch = (code_header s.call.contribution s.state).words;
        output = overwrite s.call.output (packet_of s);
      }

pub fits : (s : Single) → (wrote s).answer.refusal ≡ 0 → Fits s
fits s e =
    let ws : List ℕ = s.state in
    let c : WriteCall = s.call in
    let why : write_refusal ws c.scratch c.contribution c.body c.markers c.number c.output ≡ 0 =
    sym (answers_number ws c.scratch c.contribution c.body c.markers c.number c.output) ∙ e in
    let valid = valid_state_lem writer ws (length c.scratch)
    (writing_in_range ws c.scratch c.contribution c.body c.markers c.number c.output why) in
    let z = write-zero ws c.scratch c.contribution c.body c.markers c.number c.output why in
    let a = (measured ws c.scratch c.contribution z.0).1 in
    record {
      complete = valid.length-is;
      scratch = valid.scratch_is;
      counts = a.counts;
      lengths = a.lengths;
      marks = a.marks;
      body = z.1;
      left = write_done ws c.scratch c.contribution c.body c.markers c.number c.output (eq-eqb _ 0 why);
    }

module _ (s : Single) (f : Fits s) where
  pub state_kept : length (wrote s).state ≡ length s.state
  state_kept =
      ap (λ (r : WriteResult). length r.state) f.left ∙ (header_kept s.call.contribution s.state).0

  pub stays_complete : Complete (wrote s).state
  stays_complete =
      let k = header_kept s.call.contribution s.state in
      ap (λ (r : WriteResult). length r.state) f.left
      ∙ k.0
      ∙ f.complete
      ∙ ap state_length (sym k.1)
      ∙ ap (λ (r : WriteResult). state_length (bands r.state)) (sym f.left)

-- ---- its lists, with others behind them

-- a single call's lists
abbrev pub rest_of : Single → Rest
rest_of s = record {
  states = s.state;
  scratch = s.call.scratch;
  contribution = s.call.contribution;
  bodies = s.call.body;
  output = s.call.output;
}

-- of the output the first has all, and the others what its packet leaves
abbrev pub followed : Rest → Rest → Rest
followed l m = record {
  states = l.states ++ m.states;
  scratch = l.scratch ++ m.scratch;
  contribution = contribution (l.contribution.counts ++ m.contribution.counts)
      (l.contribution.lengths ++ m.contribution.lengths) (l.contribution.marks ++ m.contribution.marks);
  bodies = l.bodies ++ m.bodies;
  output = l.output;
}

take-front : (n : ℕ) (xs ys : List ℕ) → length xs ≡ n → take n (xs ++ ys) ≡ xs
take-front n xs ys e = ap (λ (k : ℕ). take k (xs ++ ys)) (sym e) ∙ take-append_seam xs ys

drop-front : (n : ℕ) (xs ys : List ℕ) → length xs ≡ n → drop n (xs ++ ys) ≡ ys
drop-front n xs ys e = ap (λ (k : ℕ). drop k (xs ++ ys)) (sym e) ∙ drop-append_seam xs ys

module _ (s : Single) (f : Fits s) (m : Rest) where
  abbrev p : Contribution
  p = s.call.contribution

  abbrev all : Rest
  all = followed (rest_of s) m

  words_asked : (asks all).words ≡ length s.state
  unfolding asks
  words_asked = ap state_length (bands-in_front s.state m.states f.complete) ∙ sym f.complete

  blocks-asked : (asks all).blocks ≡ length p.counts
  unfolding asks
  blocks-asked =
      ap (λ (bs : List Band). length (blocks bs)) (bands-in_front s.state m.states f.complete) ∙ sym f.counts

  passes_asked : (asks all).passes ≡ sum p.counts
  unfolding asks
  passes_asked = ap sum (take-front (asks all).blocks p.counts m.contribution.counts (sym blocks-asked))

  bytes_asked : (asks all).bytes ≡ sum p.lengths
  unfolding asks
  bytes_asked = ap sum (take-front (asks all).passes p.lengths m.contribution.lengths (f.lengths ∙ sym passes_asked))

  pub in_front_lem : in_front all ≡ rest_of s
  unfolding in_front
  in_front_lem =
      λ i. record {
        states = take-front (asks all).words s.state m.states (sym words_asked) i;
        scratch = take-front (asks all).words s.call.scratch m.scratch (f.scratch ∙ sym words_asked) i;
        contribution = contribution (take-front (asks all).blocks p.counts m.contribution.counts (sym blocks-asked) i)
            (take-front (asks all).passes p.lengths m.contribution.lengths (f.lengths ∙ sym passes_asked) i)
            (take-front (asks all).passes p.marks m.contribution.marks (f.marks ∙ sym passes_asked) i);
        bodies = take-front (asks all).bytes s.call.body m.bodies (f.body ∙ sym bytes_asked) i;
        output = s.call.output;
      }

  pub left_behind : (bytes : ℕ) → behind all bytes
      ≡ record {
        states = m.states;
        scratch = m.scratch;
        contribution = m.contribution;
        bodies = m.bodies;
        output = drop bytes s.call.output;
      }
  unfolding behind
  left_behind bytes =
      λ i. record {
        states = drop-front (asks all).words s.state m.states (sym words_asked) i;
        scratch = drop-front (asks all).words s.call.scratch m.scratch (f.scratch ∙ sym words_asked) i;
        contribution = contribution (drop-front (asks all).blocks p.counts m.contribution.counts (sym blocks-asked) i)
            (drop-front (asks all).passes p.lengths m.contribution.lengths (f.lengths ∙ sym passes_asked) i)
            (drop-front (asks all).passes p.marks m.contribution.marks (f.marks ∙ sym passes_asked) i);
        bodies = drop-front (asks all).bytes s.call.body m.bodies (f.body ∙ sym bytes_asked) i;
        output = drop bytes s.call.output;
      }
