-- Words of 64 bits. Assumes nothing.
use Rattle.std.proofs.Common.{◌≡◌, ℕ, ◌-◌, ◌^◌, ◌%◌, ◌<◌, ◌≤◌, false}
use Rattle.std.specs.Int.Bits.{bit_and}
use Rattle.rules.specs.Bits.{has, without}
use Rattle.rules.proofs.Bits.{has_past, power_past, and_not}

-- bits from 64 on
pub bit_past : (n : ℕ) → 64 ≤ n → 2 ^ n % 2 ^ 64 ≡ 0
bit_past n h = power_past 64 n h

pub none_past : (n w : ℕ) → w < 2 ^ 64 → 64 ≤ n → has n w ≡ false
none_past n w h l = has_past 64 w n h l

pub less : (a b : ℕ) → a < 2 ^ 64 → b < 2 ^ 64 → bit_and a (2 ^ 64 - 1 - b) ≡ without a b
less a b h l = and_not 64 a b h l

pub ruleset words = (bit_past, none_past, less)
