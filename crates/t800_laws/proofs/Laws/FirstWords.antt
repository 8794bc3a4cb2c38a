-- What the first thirteen words of a state say: role, bands, style and next layer. No change after them changes that.
use mathlib.Core.Path.{◌≡◌, refl, ◌∙◌}
use mathlib.Core.Logic.{◌≢◌}
use mathlib.Core.Bool.{true}
use mathlib.Core.List.{List}
use Prim.Native.Nat.{ℕ, ◌≤◌, ◌<◌}
use native.Mathlib.Omega.{arith}
use lib.ListN.{length, get_or, set}
use lib.Seq.{get_or-set_same, get_or-set_other}
use Rattle.t800.specs.declared.Band.{Band}
use Rattle.t800.specs.Base.{every}
use Rattle.t800.specs.State.{role, band_count, style, layer, band_at, bands}
use Rattle.t800.specs.Ranges.{unused_bands_zero}

-- role r, bands bs, style s, next layer t
pub record FirstWords (r : ℕ) (bs : List Band) (s t : ℕ) (ws : List ℕ) : Type 0 where
  pub role-is : role ws ≡ r
  pub bands-are : bands ws ≡ bs
  pub count_is : band_count ws ≡ length bs
  pub style-is : style ws ≡ s
  pub layer-is : layer ws ≡ t
  pub unused : unused_bands_zero ws ≡ true

-- all but the layer
abbrev SameBut3 : List ℕ → List ℕ → Type 0
SameBut3 ws vs = (j : ℕ) → j < 13 → j ≢ 3 → get_or vs j 0 ≡ get_or ws j 0

pub same_bands : (ws vs : List ℕ) → SameBut3 ws vs → (bands vs ≡ bands ws) × (unused_bands_zero vs ≡ unused_bands_zero ws)
unfolding bands band_at unused_bands_zero every
same_bands ws vs e =
    rw (
      e 1 (omega arith) (omega arith),
      e 4 (omega arith) (omega arith),
      e 5 (omega arith) (omega arith),
      e 6 (omega arith) (omega arith),
      e 7 (omega arith) (omega arith),
      e 8 (omega arith) (omega arith),
      e 9 (omega arith) (omega arith),
      e 10 (omega arith) (omega arith),
      e 11 (omega arith) (omega arith),
      e 12 (omega arith) (omega arith),
    )
    (refl, refl)

with_layer : (r : ℕ) (bs : List Band) (s t u : ℕ) (ws vs : List ℕ) → SameBut3 ws vs → layer vs ≡ u → FirstWords r bs s t ws
    → FirstWords r bs s u vs
with_layer r bs s t u ws vs e l h =
    record {
      role-is = e 0 (omega arith) (omega arith) ∙ h.role-is;
      bands-are = (same_bands ws vs e).0 ∙ h.bands-are;
      count_is = e 1 (omega arith) (omega arith) ∙ h.count_is;
      style-is = e 2 (omega arith) (omega arith) ∙ h.style-is;
      layer-is = l;
      unused = (same_bands ws vs e).1 ∙ h.unused;
    }

-- the next layer is set
pub next_layer : (r : ℕ) (bs : List Band) (s t u : ℕ) (ws vs : List ℕ) → 13 ≤ length vs
    → ((j : ℕ) → j < 13 → get_or vs j 0 ≡ get_or ws j 0) → FirstWords r bs s t ws → FirstWords r bs s u (set vs 3 u)
next_layer r bs s t u ws vs l e h =
    with_layer r bs s t u ws (set vs 3 u) (λ j g n. get_or-set_other vs 3 j u 0 n ∙ e j g) (get_or-set_same vs 3 u 0 (omega arith)) h

pub same_first_words : (r : ℕ) (bs : List Band) (s t : ℕ) (ws vs : List ℕ) → ((j : ℕ) → j < 13 → get_or vs j 0 ≡ get_or ws j 0)
    → FirstWords r bs s t ws → FirstWords r bs s t vs
same_first_words r bs s t ws vs e h = with_layer r bs s t t ws vs (λ j g n. e j g) (e 3 (omega arith) ∙ h.layer-is) h
