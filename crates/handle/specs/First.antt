-- The first place that passes. Assumes nothing.
use Rattle.std.specs.Prelude.{ℕ, ◌<◌, Bool, true, false, Option, unwrap_or, IfSome}

-- r is the first of n places that passes: what is said of each place, and of whether it passes
pub record FirstOf (says : ℕ → Bool → Type 0) (n : ℕ) (r : Option ℕ) : Type 0 where
  pub here : IfSome r (λ k. (k < n) × says k true)
  pub before : (k : ℕ) → k < unwrap_or r n → says k false
