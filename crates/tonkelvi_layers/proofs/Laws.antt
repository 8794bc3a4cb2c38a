-- Writing a layer with a list of answer words of the right length or another.
use Prim.Native.Nat.{ℕ}
use mathlib.Core.Path.{◌≡◌, ap}
use mathlib.Core.Logic.{◌≢◌}
use mathlib.Core.List.{List, [], ◌∷◌}
use lib.ListN.{length}
use borrow.Author.Tests.{eq-eqb, ne_eqb}
use Rattle.t800.specs.declared.LayerAnswer.{LayerAnswer}
use Rattle.t800.specs.Layer.{LayerCall, write_layer}
use Rattle.t800.specs.Exports.{layer_exit, write_layer_call}

module _ (states : List ℕ) (c : LayerCall) (answer : List ℕ) where
  pub layer-unlisted : (why : ℕ) → why ≡ 3 → length answer ≢ 2
      → record { refusal = why; states = states; scratch = c.scratch; output = c.output; answer = answer } ≡ write_layer_call states c answer
  unfolding write_layer_call
  layer-unlisted why e h = rw (ne_eqb (length answer) 2 h, e)

  pub layer-listed : (r : LayerAnswer) (vs s o l : List ℕ) → length answer ≡ 2
      → record { answer = r; states = vs; scratch = s; output = o } ≡ write_layer states c → l ≡ r.place ∷ r.bytes ∷ []
      → record { refusal = r.refusal; states = vs; scratch = s; output = o; answer = l } ≡ write_layer_call states c answer
  unfolding write_layer_call
  layer-listed r vs s o l h e g = rw (eq-eqb (length answer) 2 h, g) (ap layer_exit e)
