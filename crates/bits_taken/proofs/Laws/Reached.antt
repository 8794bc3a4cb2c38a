-- The bits of a header stay in reach of the input: its first one, and all of them.
use mathlib.Core.Path.{◌≡◌}
use mathlib.Core.List.{List}
use Prim.Native.Nat.{ℕ, ◌+◌, ◌^◌, ◌≤◌, ◌<◌}
use native.Mathlib.Omega.{arith}
use lib.ListN.{length}
use Rattle.t800.specs.declared.Bio.{Bio}
use Rattle.t800.specs.Bits.{bio_at}
use Rattle.t800.specs.State.{blocks, bands, end_of, layer}
use Rattle.t800.specs.ReadHeader.{read_header}
use Rattle.bits_taken.specs.Taken.{Takes, Reached}
use Rattle.bits_taken.proofs.Laws.Taken.{takes_then, takes_more}
use Rattle.bits_taken.proofs.Laws.HeaderTaken.{header_taken}

module _ (src : List ℕ) (start : ℕ) (b : Bio) (inside : start ≤ length src) (first : Takes src 1 (bio_at start) b) where
  pub first_reached : Reached src start b
  first_reached = record { inside = inside; takes = takes_more src 1 (2 ^ 39) (bio_at start) b (omega arith) first }

  pub header_reached : (room : ℕ) (ws : List ℕ) → length (blocks (bands ws)) ≤ 12288 → end_of 13 (bands ws) ≤ length ws → layer ws < 65535
      → (read_header src room ws b).refusal ≡ 0 → Reached src start (read_header src room ws b).bio
  header_reached room ws few long below ok =
      let e : Bio = (read_header src room ws b).bio in
      let rest = header_taken src room ws b few long below ok in
      record {
        inside = inside;
        takes = takes_more src (1 + 2 ^ 38) (2 ^ 39) (bio_at start) e (omega arith) (takes_then src 1 (2 ^ 38) (bio_at start) b e first rest);
      }
