-- Header bytes from one on, with zeros behind the last one.
use Rattle.std.specs.Prelude.{ℕ, ◌-◌, ◌≤◌, ◌≡◌, ◌++◌, take, drop, replicate}
use Rattle.t800.specs.Base.{Bytes}

-- n bytes, from byte `from` on
unfoldable pub window_of : (bytes : Bytes) (from n : ℕ) → Bytes
window_of bytes from n = take n (drop from bytes ++ replicate n 0)

-- the first `done` of n bytes are in place, and behind them there are zeros only
pub record PiecesOf (bytes : Bytes) (from n : ℕ) (to : Bytes) (done : ℕ) : Type 0 where
  pub within : done ≤ n
  pub all : take done to ++ replicate (n - done) 0 ≡ window_of bytes from n
