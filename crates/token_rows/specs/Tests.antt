-- A valid token's row as the code tests it. proofs/TokenRow says that the test comes to the rules'. Assumes nothing.
use Rattle.std.specs.Prelude.{◌≡◌, ℕ, ◌+◌, ◌-◌, ◌%◌, ◌^◌, ◌≤◌, Bool, true, not, ◌&&◌, ◌||◌, List, length, take, drop, ◌==◌, bit_and, nat_le, nat_lt, slice_index, slice_index_or}
use Rattle.rules.specs.Basic.{all, same, is_zero}
use Rattle.rules.specs.Privileges.{existing}
use Rattle.rules.specs.Token.{max_groups, max_restricting, max_dacl, primary, impersonation}
use Rattle.rules.specs.Table.{Slot, free, live}
use Rattle.rules.specs.Valid.{group_valid, token_valid}
use Rattle.rules.specs.Head as Head
use Rattle.rules.specs.Memory.{slot_row, slot_dacl, slot_at, token_row, dacl_row, token_at, unpack, head_words, token_words}
use Rattle.lists.specs.Tests.{is_narrow}

-- a test of a record, of a slot that may be free
unfoldable pub slot_test : {A : Type 0} → (A → Bool) → Slot A → Bool
slot_test f free = true
slot_test f (live a) = f a

-- sizes of a token's row, and counts within their limits
pub record Counted (ws bs : List ℕ) : Type 0 where
  pub words : length ws ≡ token_words
  pub bytes : length bs ≡ max_dacl
  pub groups : slice_index_or ws Head.group_count 0 ≤ max_groups
  pub restricting : slice_index_or ws Head.restricting_count 0 ≤ max_restricting
  pub dacl : slice_index_or ws Head.dacl_length 0 ≤ max_dacl

-- the parts of a row that the code lends: the groups and the zeros past them, the restricting SIDs and the zeros past them, the zeros past the DACL

abbrev pub groups_end : ℕ
groups_end = head_words + max_groups

abbrev pub groups_part : List ℕ → List ℕ
groups_part ws = take (head_words + slice_index ws Head.group_count - head_words) (drop head_words ws)

abbrev pub groups_rest : List ℕ → List ℕ
groups_rest ws = take (groups_end - (head_words + slice_index ws Head.group_count)) (drop (head_words + slice_index ws Head.group_count) ws)

abbrev pub sids_part : List ℕ → List ℕ
sids_part ws = take (groups_end + slice_index ws Head.restricting_count - groups_end) (drop groups_end ws)

abbrev pub sids_rest : List ℕ → List ℕ
sids_rest ws = take (token_words - (groups_end + slice_index ws Head.restricting_count)) (drop (groups_end + slice_index ws Head.restricting_count) ws)

abbrev pub dacl_rest : List ℕ → List ℕ → List ℕ
dacl_rest ws bs = take (max_dacl - slice_index ws Head.dacl_length) (drop (slice_index ws Head.dacl_length) bs)

-- the lists end where their counts say, and restricting SIDs are below 2^32
abbrev pub lists_test : List ℕ → List ℕ → Bool
lists_test ws bs = all is_zero (groups_rest ws) && all is_narrow (sids_part ws) && all is_zero (sids_rest ws) && all is_zero (dacl_rest ws bs)

-- it is what the token in it is written as, which is valid
unfoldable pub live_test : List ℕ → List ℕ → Bool
live_test ws bs = same (token_row (token_at ws bs)) ws && same (dacl_row (token_at ws bs)) bs && token_valid (token_at ws bs)

-- it is what its slot is written as, and a token in it is valid
unfoldable pub token_test : List ℕ → List ℕ → Bool
token_test ws bs = same (slot_row (slot_at ws bs)) ws && same (slot_dacl (slot_at ws bs)) bs && slot_test token_valid (slot_at ws bs)

unfoldable pub group_test : ℕ → Bool
group_test w = group_valid (unpack w)

-- bit 63 says that LOGON_ID is there by half, bit 37 that both ENABLED and DENY_ONLY are
abbrev pub carried_to : ℕ → ℕ
carried_to w = (bit_and w 0xC000001400000000 + 0x4000000C00000000) % 2 ^ 64

-- user, type, level, elevation, marks, scope, integrity, privileges
abbrev pub head_test : List ℕ → Bool
head_test ws =
    is_narrow (slice_index ws Head.user)
    && (nat_le primary (slice_index ws Head.type) && nat_le (slice_index ws Head.type) impersonation)
    && nat_le (slice_index ws Head.level) 3
    && (not (slice_index ws Head.type == primary) || slice_index ws Head.level == 0)
    && (nat_le 1 (slice_index ws Head.elevation) && nat_le (slice_index ws Head.elevation) 3)
    && nat_lt (slice_index ws Head.write_restricted) 2
    && nat_lt (slice_index ws Head.user_deny_only) 2
    && is_narrow (slice_index ws Head.scope)
    && nat_le (slice_index ws Head.root) (slice_index ws Head.number)
    && (bit_and (slice_index ws Head.by_default) (slice_index ws Head.present) == slice_index ws Head.by_default
    && bit_and (slice_index ws Head.enabled) (slice_index ws Head.present) == slice_index ws Head.enabled
    && bit_and (slice_index ws Head.present) existing == slice_index ws Head.present
    && bit_and (slice_index ws Head.used) existing == slice_index ws Head.used)
