-- Below the m-th layer neither the calls with m layers nor those with n give 6, and field widths agree.
use mathlib.Core.Path.{◌≡◌, refl}
use mathlib.Core.Logic.{◌≢◌}
use mathlib.Core.Bool.{Bool, true, false, cond, not}
use mathlib.Core.List.{List, [], ◌∷◌}
use Prim.Native.Nat.{ℕ, ◌≤◌, ◌<◌}
use native.Mathlib.Omega.{arith}
use lib.ListN.{drop}
use lib.Dec.{eqb}
use borrow.Author.Tests.{ne_eqb}
use Rattle.t800.specs.declared.Band.{Band}
use Rattle.t800.specs.Refusals.{state_refusal}
use Rattle.t800.specs.State.{Block, layer}
use Rattle.t800.specs.WriteHeader.{field_too_wide}
use Rattle.t800_laws.proofs.Laws.Layout.{layout_of, AllPlaced}
use Rattle.fewer_layers.proofs.Replaced.{replaced_words}
use Rattle.fewer_layers.proofs.Headers.{bits_before_same}

-- ---- refusals

-- where 5 is looked for first and is not given
pub not_first_refused : (valid : Bool) (later : ℕ) → cond (not valid) state_refusal later ≢ state_refusal → valid ≡ true
not_first_refused true later h = refl
not_first_refused false later h = absurd (h refl)

pub width_same : (m n : ℕ) (more : m ≤ n) (bs : List Band) (ks : List Block) (cs ls ms ws : List ℕ) → AllPlaced (layout_of bs) ks
    → field_too_wide (replaced_words m n bs ws) ks cs ls ms ≡ field_too_wide ws ks cs ls ms
unfolding field_too_wide
width_same m n more bs [] cs ls ms ws P = refl
width_same m n more bs (k ∷ ks) [] ls ms ws P = refl
width_same m n more bs (k ∷ ks) (c ∷ cs) ls ms ws P =
    rw (bits_before_same m n more bs k ws P.0.0, width_same m n more bs ks cs (drop c ls) (drop c ms) ws P.1)

module _ (m n : ℕ) (more : m ≤ n) (ws scratch : List ℕ) (below : layer ws < m) where
  -- neither gives 6
  pub layer-few : eqb (layer ws) m ≡ false
  layer-few = ne_eqb (layer ws) m (omega arith)

  pub layer-more : eqb (layer ws) n ≡ false
  layer-more = ne_eqb (layer ws) n (omega arith)
