-- The read on the work list: what it gives where the work list has the length asked, and where not.
use mathlib.Core.Path.{◌≡◌}
use mathlib.Core.Logic.{◌≢◌}
use mathlib.Core.Bool.{true, false}
use mathlib.Core.List.{List}
use Prim.Native.Nat.{ℕ, ◌*◌}
use lib.ListN.{length}
use lib.Dec.{eqb}
use borrow.Author.Tests.{eq-eqb, ne_eqb}
use Rattle.t800.specs.declared.Markers.{Markers}
use Rattle.t800.specs.declared.ReadAnswer.{ReadAnswer}
use Rattle.t800.specs.State.{reader, layer, not_yet_included}
use Rattle.t800.specs.Ranges.{valid_state}
use Rattle.t800.specs.Packet.{read}
use Rattle.t800.specs.Reports.{record_width, as_words}
use Rattle.t800.specs.Exports.{work_refusal}
use Rattle.t2_read_numbers.specs.Reading.{wrong_work, read_numbers, to_fill}

-- ---- the numbers before it

module _ (ws scratch : List ℕ) where
  pub wrong_5 : valid_state reader ws (length scratch) ≡ false → 5 ≡ work_refusal ws scratch
  unfolding work_refusal
  wrong_5 e = rw e

  module _ (valid : valid_state reader ws (length scratch) ≡ true) where
    pub wrong_6 : layer ws ≡ not_yet_included → 6 ≡ work_refusal ws scratch
    unfolding work_refusal
    wrong_6 e = rw (valid, eq-eqb (layer ws) not_yet_included e)

    pub wrong_3 : layer ws ≢ not_yet_included → 3 ≡ work_refusal ws scratch
    unfolding work_refusal
    wrong_3 e = rw (valid, ne_eqb (layer ws) not_yet_included e)

-- ---- the read

module _ (ws scratch : List ℕ) (m : Markers) (src reports work : List ℕ) (room : ℕ) where
  pub numbers_refused : eqb (length work) (record_width * room) ≡ false → read_numbers ws scratch m src reports work room
      ≡ wrong_work ws scratch reports work
  unfolding read_numbers
  numbers_refused e = rw e

  pub numbers_read : eqb (length work) (record_width * room) ≡ true → read_numbers ws scratch m src reports work room
      ≡ read as_words ws scratch m src reports work
  unfolding read_numbers
  numbers_read e = rw e

-- ---- how many records are stored

module _ (a : ReadAnswer) (room : ℕ) where
  pub fill_found : a.refusal ≡ 0 → a.segments ≡ to_fill a room
  unfolding to_fill
  fill_found e = rw (eq-eqb a.refusal 0 e)

  module _ (some : a.refusal ≢ 0) where
    pub fill_9 : a.refusal ≡ 9 → room ≡ to_fill a room
    unfolding to_fill
    fill_9 e = rw (ne_eqb a.refusal 0 some, eq-eqb a.refusal 9 e)

    module _ (not_9 : a.refusal ≢ 9) where
      pub fill_12 : a.refusal ≡ 12 → room ≡ to_fill a room
      unfolding to_fill
      fill_12 e = rw (ne_eqb a.refusal 0 some, ne_eqb a.refusal 9 not_9, eq-eqb a.refusal 12 e)

      module _ (not_12 : a.refusal ≢ 12) where
        pub fill_13 : a.refusal ≡ 13 → room ≡ to_fill a room
        unfolding to_fill
        fill_13 e = rw (ne_eqb a.refusal 0 some, ne_eqb a.refusal 9 not_9, ne_eqb a.refusal 12 not_12, eq-eqb a.refusal 13 e)

        pub fill_none : a.refusal ≢ 13 → 0 ≡ to_fill a room
        unfolding to_fill
        fill_none e = rw (ne_eqb a.refusal 0 some, ne_eqb a.refusal 9 not_9, ne_eqb a.refusal 12 not_12, ne_eqb a.refusal 13 e)
