-- What a state is.
use Prim.Native.Nat.{ℕ, ◌≤◌}
use mathlib.Core.Bool.{Bool, true, false, ◌||◌}
use mathlib.Core.Path.{◌≡◌, refl}
use mathlib.Core.Logic.{◌≢◌}
use mathlib.Core.List.{List, [], ◌∷◌}
use lib.ListN.{length}
use borrow.Author.Tests.{eq-eqb, ne_eqb}
use Rattle.t800.specs.State.{writer, reader, band_count, role, layer, bands, blocks}
use Rattle.t800.specs.Ranges.{valid_state}
use Rattle.t800.specs.Exports.{any_state, describe_call}
use Rattle.tcd_laws.specs.Geometry.{AllUpTo64}
use Rattle.tcd_laws.proofs.Laws.ValidStates.{valid_state_lem, long_enough}

module _ (ws : List ℕ) where
  pub a_writer : valid_state writer ws (length ws) ≡ true → true ≡ any_state ws
  unfolding any_state
  a_writer e = rw e

  pub no_writer : valid_state writer ws (length ws) ≡ false → valid_state reader ws (length ws) ≡ any_state ws
  unfolding any_state
  no_writer e = rw e

  pub any_known : any_state ws ≡ true → (13 ≤ length ws) × (band_count ws ≤ 3) × AllUpTo64 (bands ws)
  unfolding any_state
  any_known e = by_role (valid_state writer ws (length ws)) refl e
    where
      of : (r : ℕ) → valid_state r ws (length ws) ≡ true → (13 ≤ length ws) × (band_count ws ≤ 3) × AllUpTo64 (bands ws)
      of r v = let s = valid_state_lem r ws (length ws) v in (long_enough r ws (length ws) v, s.three_bands_lem, s.sides)

      by_role : (t : Bool) → valid_state writer ws (length ws) ≡ t → (t || valid_state reader ws (length ws)) ≡ true
          → (13 ≤ length ws) × (band_count ws ≤ 3) × AllUpTo64 (bands ws)
      by_role true p e = of writer p
      by_role false p e = of reader e

  module _ (answer : List ℕ) where
    pub describe_unlisted : (why : ℕ) → why ≡ 3 → length answer ≢ 3 → record { refusal = why; answer = answer } ≡ describe_call ws answer
    unfolding describe_call
    describe_unlisted why e h = rw (ne_eqb (length answer) 3 h, e)

    module _ (three : length answer ≡ 3) where
      pub out_of_range : (l : List ℕ) (why : ℕ) → any_state ws ≡ false → l ≡ 0 ∷ 0 ∷ 0 ∷ [] → why ≡ 5
          → record { refusal = why; answer = l } ≡ describe_call ws answer
      unfolding describe_call
      out_of_range l why e g f = rw (eq-eqb (length answer) 3 three, e, g, f)

      pub described : (l : List ℕ) (r y k : ℕ) → any_state ws ≡ true → r ≡ role ws → y ≡ layer ws → k ≡ length (blocks (bands ws)) → l
          ≡ r ∷ y ∷ k ∷ [] → record { refusal = 0; answer = l } ≡ describe_call ws answer
      unfolding describe_call
      described l r y k e er ey ek g = rw (eq-eqb (length answer) 3 three, e, g, er, ey, ek)
