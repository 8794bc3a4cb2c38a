-- An index of where states begin: how it is filled, kept and read.
use mathlib.Core.Path.{◌≡◌, sym, ap, ◌∙◌}
use mathlib.Core.List.{List}
use Prim.Native.Nat.{ℕ, ◌+◌, ◌*◌, ◌/◌, ◌≤◌, ◌<◌}
use native.Mathlib.Nat.{mul-le-mul_right, div-mul-le_self, div-lt_iff_lt-mul}
use native.Mathlib.Omega.{arith}
use lib.ListN.{length, get_or, set, length-set}
use lib.Seq.{get_or-set_same, get_or-set_other}
use Rattle.t800.specs.Base.{Words, sum}
use Rattle.t800.specs.Gathered.{state_at}
use Rattle.t800_laws.proofs.Laws.Tests.{on-eq, on-lt}
use Rattle.tcd_states.specs.States.{start_of, Indexed}
use Rattle.tcd_states.proofs.Laws.Starts.{starts_kept}

-- ---- filled from the front

pub record FilledTo (ss : List Words) (stride i : ℕ) (starts : List ℕ) : Type 0 where
  pub entry-before : (j : ℕ) → j < i → get_or starts j 0 ≡ start_of ss (j * stride)

pub none_filled : (ss : List Words) (stride : ℕ) (starts : List ℕ) → FilledTo ss stride 0 starts
none_filled ss stride starts = record { entry-before = λ j h. absurd (omega (arith, h)) }

pub first_entry : (ss : List Words) (stride : ℕ) → 0 ≡ start_of ss (0 * stride)
unfolding start_of sum
first_entry ss stride = let e : 0 * stride ≡ 0 = omega arith in sym (ap (start_of ss) e)

pub one_filled : (ss : List Words) (stride i : ℕ) (starts : List ℕ) (at : ℕ) → i < length starts → at ≡ start_of ss (i * stride)
    → FilledTo ss stride i starts → FilledTo ss stride (i + 1) (set starts i at)
one_filled ss stride i starts at l e f =
    record {
      entry-before = λ j h.
          on-eq j i
          (λ z. ap (λ (k : ℕ). get_or (set starts i at) k 0) z
          ∙ get_or-set_same starts i at 0 l
          ∙ e
          ∙ ap (λ (k : ℕ). start_of ss (k * stride)) (sym z))
          (λ z. get_or-set_other starts i j at 0 z ∙ f.entry-before j (omega (arith, h, z)));
    }

pub all_filled : (ss : List Words) (stride i : ℕ) (starts : List ℕ) → 1 ≤ stride → length starts ≤ i
    → length ss ≤ length starts * stride → FilledTo ss stride i starts → Indexed ss stride starts
all_filled ss stride i starts h l enough f =
    record {
      some = h;
      enough = enough;
      entry_at = λ j k.
          on-lt j (length starts) (λ t. f.entry-before j (omega (arith, t, l)))
          (λ t. absurd (omega (arith, mul-le-mul_right stride t, k, enough)));
    }

-- ---- and read again

module _ (ss : List Words) (stride : ℕ) (starts : List ℕ) (x : Indexed ss stride starts) where
  pub indexed_with : (place : ℕ) (new : Words) → length new ≡ length (state_at ss place) → Indexed (set ss place new) stride starts
  indexed_with place new e =
      record {
        some = x.some;
        enough = omega (arith, x.enough, length-set ss place new);
        entry_at = λ i h.
            x.entry_at i (omega (arith, h, length-set ss place new)) ∙ sym (starts_kept ss place new e (i * stride));
      }

  module _ (place : ℕ) (h : place < length ss) where
    pub entry-there : place / stride < length starts
    entry-there = (div-lt_iff_lt-mul {k = stride} {x = place} {y = length starts} x.some).1 (omega (arith, x.enough))

    pub entry-is : get_or starts (place / stride) 0 ≡ start_of ss (place / stride * stride)
    entry-is = x.entry_at (place / stride) (omega (arith, div-mul-le_self place stride))
