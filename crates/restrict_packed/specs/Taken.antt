-- Request 15: what the SIDs given come to for the token that is copied. Assumes nothing.
use Rattle.std.specs.Prelude.{ℕ, ◌≡◌, true, List, length, drop}
use Rattle.table.specs.Table.{nth_record}
use Rattle.rules.specs.Basic.{all}
use Rattle.rules.specs.Number.{got}
use Rattle.rules.specs.Token.{Token}
use Rattle.rules.specs.Sid.{Sid}
use Rattle.rules.specs.SidTable.{is_number, fits_table, sids_valid}
use Rattle.rules.specs.SidRows.{sid_words, write_sids}
use Rattle.rules.specs.Given.{Given, entered_all}
use Rattle.rules.specs.Memory.{token_words, token_row}
use Rattle.rules.specs.Request.{times, packed_sid}
use Rattle.rules.specs.Restrict.{restricting_to}
use Rattle.copy.specs.Restricting.{Listed}
use Rattle.copy.specs.declared.asked.Asked.{Asked}
use Rattle.restrict_packed.specs.Gathered.{numbers_in}

-- by the table before, which is t, and a token whose restricting SIDs are in it
pub record TakenFrom (given : List Given) (t : List Sid) (u : Token) (ws : List ℕ) (r : Asked) : Type 0 where
  pub size : r.list.count ≡ length (restricting_to (numbers_in given t) u.limits.restricting)
  pub known : r.known ≡ all (is_number (entered_all given t)) (numbers_in given t)
  pub fits : r.fits ≡ fits_table (entered_all given t)
  pub listed : fits_table (entered_all given t) ≡ true → Listed (restricting_to (numbers_in given t) u.limits.restricting) r.list
  pub words : fits_table (entered_all given t) ≡ true → ws ≡ write_sids (entered_all given t)

pub record SidsTaken (slot own : ℕ) (s : List ℕ) (at count : ℕ) (ts ws ws' : List ℕ) (r : Asked) : Type 0 where
  pub long : length ws' ≡ sid_words
  pub taken : (given : List Given) (later : List ℕ) → times count packed_sid (drop at s) ≡ got given later
      → (t : List Sid) → sids_valid t ≡ true → ws ≡ write_sids t
      → (u : Token) → length u.limits.restricting ≡ own → nth_record token_words slot ts ≡ token_row u → all (is_number t) u.limits.restricting ≡ true
      → TakenFrom given t u ws' r
