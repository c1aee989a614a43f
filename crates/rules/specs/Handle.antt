-- A handle: a station's right to act on a token. Assumes nothing.
use Rattle.std.specs.Prelude.{ℕ, Bool, ◌&&◌, eqb}

pub record Handle : Type 0 where
  pub station : ℕ
  pub number : ℕ
  pub token : ℕ
  pub mask : ℕ

unfoldable pub no_handle : Handle
no_handle = record { station = 0; number = 0; token = 0; mask = 0 }

-- handle n of station s
unfoldable pub is_handle : ℕ → ℕ → Handle → Bool
is_handle s n h = eqb h.number n && eqb h.station s
