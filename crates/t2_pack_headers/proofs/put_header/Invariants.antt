use Prim.Native.Nat.{◌+◌}
use mathlib.Core.Path.{◌≡◌}
use lib.ListN.{length, drop}
use Rattle.t2_pack_headers.specs.Packing.{place_of, put_header}
use Rattle.t2_pack_headers.proofs.put_header.Given as goal

abbrev pub invariant-loop-byte : goal.invariant-loop-byte
invariant-loop-byte l =
    (length l.headers ≡ length l.initial.headers) × (l.p ≡ place_of (l.count + l.byte-index))
    × (put_header l.headers (l.count + l.byte-index) (drop l.byte-index l.bytes) ≡ put_header l.initial.headers l.count l.bytes)
