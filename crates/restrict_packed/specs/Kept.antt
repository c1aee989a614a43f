-- Request 15: the copy's restricting SIDs, by the marks of those given. Assumes nothing.
use Rattle.std.specs.Prelude.{ℕ, ◌≡◌, Bool, ◌||◌, List, Option, unwrap_or, eqb, length}
use Rattle.table.specs.Table.{nth_record}
use Rattle.rules.specs.Basic.{filter}
use Rattle.rules.specs.Token.{Token}
use Rattle.rules.specs.Memory.{token_words, token_row}
use Rattle.copy.specs.declared.restricting.Sids.{Sids}
use Rattle.copy.specs.Restricting.{so_many, Listed}
use Rattle.restrict_packed.specs.Gathered.{is_marked}

unfoldable pub stays_by : ℕ → List Bool → ℕ → Bool
stays_by count marks sid = eqb count 0 || is_marked marks sid

pub record ListMade (slot own : ℕ) (ts : List ℕ) (count : ℕ) (given : Option Sids) (marks : List Bool) (r : Sids) : Type 0 where
  pub none : own ≡ 0 → r ≡ unwrap_or given (so_many count)
  pub some : (own ≡ 0 → ⊥) → (t : Token) → length t.limits.restricting ≡ own → nth_record token_words slot ts ≡ token_row t
      → Listed (filter (stays_by count marks) t.limits.restricting) r
