-- Requests 1 and 2: open own, close. Neither asks for a right. Assumes nothing.
use Rattle.std.specs.Prelude.{ℕ, []}
use Rattle.rules.specs.Number.{encode}
use Rattle.rules.specs.Mask.{valid_mask}
use Rattle.rules.specs.Refusal.{not_aLive_handle, bad_field, table_full}
use Rattle.rules.specs.Table.{is_live}
use Rattle.rules.specs.State.{State, caller_number, can_add_handle, add_handle, find_handle, drop_handle, released}
use Rattle.rules.specs.Decision.{Decision, need◌else◌then◌, success}

unfoldable pub open_own : State → ℕ → ℕ → Decision
open_own σ s mask =
    need valid_mask mask else bad_field then
    need can_add_handle σ else table_full then
    success (add_handle s (caller_number σ s) mask σ) (encode σ.handles.next)

unfoldable pub close : State → ℕ → ℕ → Decision
close σ s n =
    need is_live (find_handle σ s n) else not_aLive_handle then
    success (released (drop_handle s n σ)) []
