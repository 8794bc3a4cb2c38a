-- Refusals 8 and 9 over the blocks that are left.
use Rattle.std.specs.Prelude.{ℕ, zero, suc, ◌+◌, ◌≤◌, ◌≡◌, Bool, false, ◌||◌, List, [], ◌∷◌, length, get_or, take, drop}
use Rattle.t800.specs.Base.{sum}
use Rattle.t800.specs.Segments.{segments_of}
use Rattle.t800.specs.State.{Block}
use Rattle.t800.specs.Refusals.{first_of}
use Rattle.t800.specs.WriteHeader.{contribution}
use Rattle.t800.specs.Packet.{segment_checks}
use Rattle.t2_segments.specs.Segments.{bits_before, block_too_wide}

-- ---- counts, lengths and marks that are left

-- a length and a mark for each pass, or more
abbrev pub PassesLeft : List ℕ → List ℕ → List ℕ → Type 0
PassesLeft cs ls ms = (sum cs ≤ length ls) × (length ls ≡ length ms)

-- n blocks whose words begin at `at`
unfoldable pub wide_from : List ℕ → ℕ → ℕ → List ℕ → List ℕ → List ℕ → Bool
wide_from ws at zero cs ls ms = false
wide_from ws at (suc n) [] ls ms = false
wide_from ws at (suc n) (c ∷ cs) ls ms =
    block_too_wide (bits_before (get_or ws at 0) (get_or ws (at + 1) 0)) (segments_of (take c ls) (take c ms))
    || wide_from ws (at + 4) n cs (drop c ls) (drop c ms)

-- 8, 9
unfoldable pub segments_refusal : List ℕ → List Block → List ℕ → List ℕ → List ℕ → ℕ
segments_refusal ws ks cs ls ms = first_of (segment_checks ws ks (contribution cs ls ms))
