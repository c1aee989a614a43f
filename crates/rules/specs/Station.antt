-- A station: its primary (KACS: real) token's number, the token that it acts for, its stream's pending ('kept') bytes, and whether the stream
-- is broken. Assumes nothing.
use Rattle.std.specs.Prelude.{ℕ, Bool, true, false, List, []}

-- the token that a station acts for (KACS: impersonates), by its number, and the level in force; both are 0 where there is none
pub record Client : Type 0 where
  pub token : ℕ
  pub level : ℕ

unfoldable pub no_client : Client
no_client = record { token = 0; level = 0 }

pub record Station : Type 0 where
  pub token : ℕ
  pub client : Client
  pub pending : List ℕ
  pub is_broken : Bool

unfoldable pub start_station : Station
start_station = record { token = 1; client = no_client; pending = []; is_broken = false }

unfoldable pub with_token : ℕ → Station → Station
with_token n x = record { token = n; client = x.client; pending = x.pending; is_broken = x.is_broken }

unfoldable pub with_client : Client → Station → Station
with_client c x = record { token = x.token; client = c; pending = x.pending; is_broken = x.is_broken }

unfoldable pub with_pending : List ℕ → Station → Station
with_pending bytes x = record { token = x.token; client = x.client; pending = bytes; is_broken = false }

-- nothing pending, and no break: after a request is served, and after a reconnect
unfoldable pub cleared : Station → Station
cleared x = with_pending [] x

unfoldable pub broken_off : Station → Station
broken_off x = record { token = x.token; client = x.client; pending = []; is_broken = true }
