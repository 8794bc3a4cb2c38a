-- Behind a start: the state behind a packet with passes is that of packets all coded block by block, and so is what its header puts outside
-- the inclusion trees.
use mathlib.Core.Path.{refl}
use mathlib.Core.List.{List}
use Prim.Native.Nat.{ℕ}
use lib.ListN.{take}
use Rattle.t800.specs.declared.Band.{Band}
use Rattle.empty_packets.specs.LaterPackets.{Started, started_state, StateAsIfPresent, HeaderAsIfPresent}
use Rattle.empty_packets.proofs.BlockParts.{present_joined}
use Rattle.empty_packets.proofs.Between.{reached_started}
use Rattle.empty_packets.proofs.Alike.{same_alike}
use Rattle.empty_packets.proofs.Behind.{Ahead, same_behind, header_behind}

started_ahead : (count : ℕ) (given : List Band) (style : ℕ) (planes lent : List ℕ) → Started count given style planes lent
    → Ahead (take count given) style 0 (started_state count given style planes lent) (started_state count given style planes lent)
started_ahead count given style planes lent started =
    let y = reached_started count given style planes lent started in
    let ws : List ℕ = started_state count given style planes lent in
    record { rule = y; present = y; alike = same_alike _ ws ws refl }

pub state_as_if_present : StateAsIfPresent
state_as_if_present count given style planes lent started before p a h =
    same_behind (take count given) style 0 _ _ before p (started_ahead count given style planes lent started) a h

pub header_as_if_present : HeaderAsIfPresent
header_as_if_present count given style planes lent started before p a =
    record {
      one_bits = present_joined p _;
      other_bits_lem = present_joined p _;
      others_same = header_behind (take count given) style 0 _ _ before p (started_ahead count given style planes lent started) a;
    }
