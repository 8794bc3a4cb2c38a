-- A style bit by mask and by division.
use Rattle.std.proofs.Common.{◌≡◌, ℕ, zero, suc, ◌*◌, ◌<◌, not, eqb, arith, eq-eqb, ne_eqb}

-- a word masked by the bit p holds p or 0
pub masked : (word bit p : ℕ) → word ≡ bit * p → 0 < p → bit < 2 → not (eqb word 0) ≡ eqb bit 1
masked word zero p e h l = simp (eq-eqb word 0 (omega arith), ne_eqb 0 1 (omega arith))
masked word (suc zero) p e h l = simp (ne_eqb word 0 (omega arith))
masked word (suc (suc bit)) p e h l = absurd (omega arith)
