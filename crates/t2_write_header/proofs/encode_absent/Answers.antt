use mathlib.Core.Path.{ap, ◌∙◌}
use mathlib.Core.List.{List}
use Prim.Native.Nat.{ℕ, ◌+◌}
use lib.ListN.{get_or, set}
use Rattle.t2_write_header.specs.Header.{header_coded}
use Rattle.t2_write_header.proofs.Laws.Header.{single-bit_put}
use Rattle.t2_write_header.proofs.encode_absent.Goals as goal

pub returns : goal.returns
returns c =
    let a = c.args in
    let ws = a.words.now in
    ap (λ (bytes : List ℕ). header_coded (set ws 3 (get_or ws 3 0 + 1)) bytes (a.start + 1)) c.store.ensures
    ∙ single-bit_put ws a.start a.out.now
