use mathlib.Core.Path.{ap, ◌∙◌}
use Prim.Native.Nat.{ℕ}
use Rattle.t800.specs.Bits.{Decoded}
use Rattle.t2_read_segments.specs.declared.Run.{Run}
use Rattle.t2_skip_gathered.specs.declared.FirstBit.{FirstBit}
use Rattle.t2_skip_gathered.proofs.first_bit.Goals as goal

-- the run that was found with the bit d, at a window's first byte

abbrev found : (run : Run) (base : ℕ) → Decoded → FirstBit
found run base d = record {
  value = d.value;
  stand = record { run = record { bio = d.bio; count = run.count; room = run.room; bytes = run.bytes; refusal = 0 }; base = base };
}

pub returns : goal.returns
returns c =
    let a = c.args in
    let v = c.bit_in-bit.result.value in
    ap (λ (r : Run). record { value = v; stand = record { run = r; base = a.s.base } }) c.moved-after.ensures
    ∙ ap (found a.s.run a.s.base) c.bit_in-bit.ensures
