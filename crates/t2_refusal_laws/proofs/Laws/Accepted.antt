-- A packet that nothing refuses.
use mathlib.Core.Path.{◌≡◌, sym, ap, ◌∙◌}
use mathlib.Core.List.{List}
use Prim.Native.Nat.{ℕ}
use lib.ListN.{length}
use Rattle.t800.specs.State.{writer}
use Rattle.t800.specs.WriteHeader.{Contribution}
use Rattle.tcd_laws.proofs.Laws.ValidStates.{valid_state_lem}
use Rattle.t2_refusal_laws.specs.Refusals.{measure_refusal_for}
use Rattle.t2_refusal_laws.proofs.Laws.NotRefused.{NotRefused, not_refused_for}

module _ (ws scratch : List ℕ) (p : Contribution) (why : ℕ) (is : why ≡ measure_refusal_for ws (length scratch) p) (z : why ≡ 0) where
  pub accepted : NotRefused ws (length scratch) p
  accepted = not_refused_for ws (length scratch) p (sym is ∙ z)

  pub as_long : length ws ≡ length scratch
  as_long = sym (valid_state_lem writer ws (length scratch) accepted.valid).scratch_is

  -- the scratch, once it holds the state
  pub copy_accepted : (vs : List ℕ) → vs ≡ ws → measure_refusal_for vs (length vs) p ≡ 0
  copy_accepted vs e = (λ i. measure_refusal_for (e i) (length (e i)) p) ∙ ap (λ (n : ℕ). measure_refusal_for ws n p) as_long ∙ sym is ∙ z
