-- Request 18: evaluate a condition. Nothing changes. Assumes nothing.
use Rattle.std.specs.Prelude.{ℕ, if◌then◌else◌}
use Rattle.rules.specs.Number.{encode}
use Rattle.rules.specs.Mask as Mask
use Rattle.rules.specs.Refusal.{bad_field}
use Rattle.rules.specs.Condition.{Condition, holds, known}
use Rattle.rules.specs.State.{State}
use Rattle.rules.specs.Decision.{Decision, need◌else◌then◌, success, with_handle}

-- 1 where the condition holds of the handle's token, else 0
unfoldable pub evaluate : State → ℕ → ℕ → Condition → Decision
evaluate σ s n c =
    with_handle σ s n Mask.query λ h t.
    need known c else bad_field then
    success σ (encode (if holds t c then 1 else 0))
