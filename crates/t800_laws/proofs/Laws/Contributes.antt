-- Packets with and without passes: which of the two headers is coded, by the sum of the counts; and the one byte of a single 0.
use mathlib.Core.Path.{◌≡◌, refl, sym, ap, ◌∙◌}
use mathlib.Core.Bool.{true, false}
use mathlib.Core.List.{List, [], ◌∷◌}
use Prim.Native.Nat.{ℕ, zero, suc, ◌+◌}
use native.Mathlib.Nat.{zero-add}
use native.Mathlib.Omega.{arith}
use lib.Dec.{ltb}
use borrow.Author.Tests.{lt-ltb}
use Rattle.t800.specs.declared.Markers.{Markers}
use Rattle.t800.specs.Base.{any, sum}
use Rattle.t800.specs.Bits.{last_bytes, pack_from, pack}
use Rattle.t800.specs.TagTree.{Coded}
use Rattle.t800.specs.WriteHeader.{Contribution, contributes, code_present, code_absent, code_header}
use Rattle.t800.specs.MarkerSegments.{with_markers}
use Rattle.t800.specs.Packet.{front}
use Rattle.t800_laws.proofs.Laws.Tests.{if-true, if-false}

some_by_sum : (cs : List ℕ) → any (λ (c : ℕ). ltb 0 c) cs ≡ ltb 0 (sum cs)
unfolding any sum
some_by_sum [] = refl
some_by_sum (zero ∷ cs) = some_by_sum cs ∙ ap (ltb 0) (sym (zero-add (sum cs)))
some_by_sum (suc c ∷ cs) = rw (lt-ltb 0 (suc c) (omega arith), lt-ltb 0 (suc c + sum cs) (omega arith))

pub contributes-by_sum : (p : Contribution) → contributes p ≡ ltb 0 (sum p.counts)
unfolding contributes
contributes-by_sum p = some_by_sum p.counts

pub present_header : (p : Contribution) (ws : List ℕ) → contributes p ≡ true → code_header p ws ≡ code_present p ws
unfolding code_header
present_header p ws e = if-true (contributes p) (code_present p ws) (code_absent ws) e

pub absent-header : (p : Contribution) (ws : List ℕ) → contributes p ≡ false → code_header p ws ≡ code_absent ws
unfolding code_header
absent-header p ws e = if-false (contributes p) (code_present p ws) (code_absent ws) e

pub single-bit_packed : pack (0 ∷ []) ≡ 0 ∷ []
unfolding pack pack_from last_bytes
single-bit_packed = refl

pub absent-front : (p : Contribution) (ws : List ℕ) (m : Markers) (number : ℕ) → contributes p ≡ false
    → front ws p m number ≡ with_markers m number (0 ∷ [])
unfolding front code_absent
absent-front p ws m number e =
    ap (λ (x : Coded). with_markers m number (pack x.bits)) (absent-header p ws e) ∙ ap (with_markers m number) single-bit_packed
