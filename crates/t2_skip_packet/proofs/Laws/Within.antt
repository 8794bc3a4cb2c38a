-- Whether a packet's parts end within so many bytes.
use Prim.Native.Nat.{ℕ, ◌+◌, ◌-◌, ◌<◌, ◌≤◌}
use mathlib.Core.Path.{◌≡◌, sym, ap, ◌∙◌}
use mathlib.Core.Bool.{false, not}
use native.Mathlib.Omega.{arith}
use borrow.Author.Tests.{lt-ltb, le-ltb, le-leb, lt-leb}
use lib.Dec.{ltb, leb}
use Rattle.t800_laws.proofs.Laws.Tests.{on-le}

pub within : (left sop header body : ℕ) → sop ≤ left → header ≤ left - sop
    → leb body (left - sop - header) ≡ not (ltb left (sop + header + body))
within left sop header body h k =
    on-le body (left - sop - header)
    (λ l. le-leb body (left - sop - header) l ∙ sym (ap not (le-ltb left (sop + header + body) (omega arith))))
    (λ l. lt-leb body (left - sop - header) l ∙ sym (ap not (lt-ltb left (sop + header + body) (omega arith))))

pub not_within : (left n : ℕ) → left < n → false ≡ not (ltb left n)
not_within left n h = sym (ap not (lt-ltb left n h))
