-- What turns a packet away.
use mathlib.Core.Path.{◌≡◌}
use mathlib.Core.Logic.{◌≢◌}
use mathlib.Core.Bool.{true, false, not}
use mathlib.Core.List.{List}
use Prim.Native.Nat.{ℕ, ◌*◌, ◌<◌}
use native.Mathlib.Omega.{arith}
use lib.Dec.{eqb}
use lib.ListN.{length}
use borrow.Author.Tests.{eq-eqb, ne_eqb, eqb-true, eqb-false, not-false}
use Rattle.t800.specs.State.{not_yet_included, reader, layer, bands, blocks}
use Rattle.t800.specs.Ranges.{valid_state}
use Rattle.t800.specs.Packet.{read_refusal, read_refusal_with}
use Rattle.t800_laws.proofs.Laws.Tests.{not_refused}
use Rattle.tcd_laws.proofs.Laws.ValidStates.{valid_state_lem}
use Rattle.t800.specs.Reports.{report_width}

module _ (ws scratch reports : List ℕ) where
  pub refusal_5 : valid_state reader ws (length scratch) ≡ false → 5 ≡ read_refusal ws scratch reports
  unfolding read_refusal_with
  refusal_5 e = rw e

  module _ (valid : valid_state reader ws (length scratch) ≡ true) where
    pub refusal_6 : layer ws ≡ not_yet_included → 6 ≡ read_refusal ws scratch reports
    unfolding read_refusal_with
    refusal_6 e = rw (valid, eq-eqb (layer ws) not_yet_included e)

    module _ (more : layer ws ≢ not_yet_included) where
      pub refusal_3 : length reports ≢ report_width * length (blocks (bands ws)) → 3 ≡ read_refusal ws scratch reports
      unfolding read_refusal_with
      refusal_3 e = rw (valid, ne_eqb (layer ws) not_yet_included more, ne_eqb (length reports) (report_width * length (blocks (bands ws))) e)

      pub no_refusal : length reports ≡ report_width * length (blocks (bands ws)) → 0 ≡ read_refusal ws scratch reports
      unfolding read_refusal_with
      no_refusal e = rw (valid, ne_eqb (layer ws) not_yet_included more, eq-eqb (length reports) (report_width * length (blocks (bands ws))) e)

  -- a read that isn't turned away
  pub record Accepted : Type 0 where
    pub valid : valid_state reader ws (length scratch) ≡ true
    pub layers : layer ws < not_yet_included
    pub listed : length reports ≡ report_width * length (blocks (bands ws))

  pub accepted : read_refusal ws scratch reports ≡ 0 → Accepted
  unfolding read_refusal_with
  accepted e =
      let m : ℕ = report_width * length (blocks (bands ws)) in
      let c₁ = not_refused (not (valid_state reader ws (length scratch))) 5 _ (omega arith) e in
      let c₂ = not_refused (eqb (layer ws) not_yet_included) 6 _ (omega arith) c₁.1 in
      let c₃ = not_refused (not (eqb (length reports) m)) 3 0 (omega arith) c₂.1 in
      let v = not-false (valid_state reader ws (length scratch)) c₁.0 in
      record {
        valid = v;
        layers = omega (arith, (valid_state_lem reader ws (length scratch) v).layer-up_to, eqb-false (layer ws) not_yet_included c₂.0);
        listed = eqb-true (length reports) m (not-false (eqb (length reports) m) c₃.0);
      }
