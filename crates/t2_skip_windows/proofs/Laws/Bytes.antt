-- A window and the bytes from a place on: what stands in both is read the same.
use mathlib.Core.Path.{◌≡◌, sym, ap, ◌∙◌}
use mathlib.Core.List.{List}
use Prim.Native.Nat.{ℕ, ◌+◌, ◌-◌, ◌≤◌, ◌<◌}
use native.Mathlib.Omega.{arith}
use lib.ListN.{length, get_or, drop}
use lib.Seq.{get_or-drop}
use Rattle.t800.specs.Bits.{reach}
use Rattle.past_end.proofs.SameBits.{Way, Agree}
use Rattle.t2_unpack_headers.specs.Windows.{window_of}
use Rattle.t2_unpack_headers.proofs.Laws.Windows.{window_length, window_at}
use Rattle.t2_skip_windows.specs.Windows.{window_bytes, most_of_block}

-- over the bytes from `at` on the bits stand at place `here`, and in the window at place `there`, with the bytes of a block ahead
module _ (bytes window : List ℕ) (at base here there : ℕ) (holds : window ≡ window_of bytes base window_bytes)
    (place : at + here ≡ base + there) (ahead : there + most_of_block ≤ window_bytes)
    (near : here + most_of_block < length (drop at bytes) + reach)
  where
    abbrev pub into : Way
    into = record { to = λ p. at + p - base; first = here; last = here + most_of_block }

    abbrev pub out : Way
    out = record { to = λ p. base + p - at; first = there; last = there + most_of_block }

    long : length window ≡ window_bytes
    long = ap length holds ∙ window_length bytes base window_bytes

    byte_in_lem : (p q : ℕ) → q < window_bytes → at + p ≡ base + q → get_or window q 0 ≡ get_or (drop at bytes) p 0
    byte_in_lem p q h e =
        ap (λ (l : List ℕ). get_or l q 0) holds ∙ window_at bytes base window_bytes q h ∙ ap (λ (i : ℕ). get_or bytes i 0) (sym e)
        ∙ sym (get_or-drop at bytes p 0)

    pub agree_in : Agree (drop at bytes) window into
    agree_in = record {
      same = λ p f l. byte_in_lem p (at + p - base) (omega arith) (omega arith);
      next = λ p f l. omega arith;
      in_reach = near;
      to_in_reach = λ p f l. omega (arith, long);
    }

    pub agree_out : Agree window (drop at bytes) out
    agree_out = record {
      same = λ p f l. sym (byte_in_lem (base + p - at) p (omega arith) (omega arith));
      next = λ p f l. omega arith;
      in_reach = omega (arith, long);
      to_in_reach = λ p f l. omega arith;
    }
