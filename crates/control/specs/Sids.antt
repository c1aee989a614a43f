-- What the functions over the SID table's section give, for every state that the words hold. Assumes nothing.
use Rattle.std.specs.Prelude.{ℕ, ◌≤◌, ◌≡◌, Bool, true, false, ◌&&◌, List, ◌++◌, eqb, length, drop, if◌then◌else◌}
use Rattle.rules.specs.Number.{got}
use Rattle.rules.specs.Sid.{Sid, packed, read_sid}
use Rattle.rules.specs.SidTable.{is_number, sid_of}
use Rattle.rules.specs.SidRows.{row_sid, write_sids}
use Rattle.rules.specs.State.{State, with_sids}
use Rattle.rules.specs.Valid.{valid}
use Rattle.rules.specs.Memory.{control_words, sids_in}
use Rattle.sid.specs.Numbers.{number_row, can_write_number}
use Rattle.control.specs.Control.{ControlIn}

pub record SidCount (ws : List ℕ) (r : ℕ) : Type 0 where
  pub count : (σ : State) → ControlIn σ ws → r ≡ length σ.sids

pub record SidsCopied (ws r : List ℕ) : Type 0 where
  pub copied : (σ : State) → ControlIn σ ws → r ≡ write_sids σ.sids

pub record SidsSet (xs ws ws' : List ℕ) : Type 0 where
  pub control : (σ : State) (sids : List Sid) → xs ≡ write_sids sids → ControlIn σ ws → ControlIn (with_sids sids σ) ws'

-- ---- a SID written

-- of any words: they are as many as the control words, the number is one of the table's, its row is a SID's, and it has room
abbrev pub can_write_sid : (ws : List ℕ) → ℕ → (out : List ℕ) → Bool
can_write_sid ws n out = eqb (length ws) control_words && can_write_number (sids_in ws) n out

abbrev pub sid_bytes : (ws : List ℕ) → ℕ → List ℕ
sid_bytes ws n = packed (row_sid (number_row (sids_in ws) n))

-- the SID of the number in a valid state
pub record Gives (σ : State) (n : ℕ) (out out' : List ℕ) (r : ℕ) : Type 0 where
  pub size : r ≡ length (packed (sid_of σ.sids n))
  pub bytes : out' ≡ packed (sid_of σ.sids n) ++ drop r out
  -- reading gives the same back
  pub back : read_sid out' ≡ got (sid_of σ.sids n) (drop r out)

pub record SidWritten (ws : List ℕ) (n : ℕ) (out out' : List ℕ) (r : ℕ) : Type 0 where
  pub size : r ≡ (if can_write_sid ws n out then length (sid_bytes ws n) else 0)
  pub bytes : out' ≡ (if can_write_sid ws n out then sid_bytes ws n ++ drop r out else out)
  pub gives : (σ : State) → valid σ ≡ true → ControlIn σ ws → is_number σ.sids n ≡ true → length (packed (sid_of σ.sids n)) ≤ length out → Gives σ n out out' r
  pub none : (σ : State) → valid σ ≡ true → ControlIn σ ws → is_number σ.sids n ≡ false → (r ≡ 0) × (out' ≡ out)
