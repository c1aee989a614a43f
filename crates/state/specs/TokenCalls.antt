-- What the calls on tokens give: a definition of the rules, for every valid state that the parts hold. Assumes nothing.
use Rattle.std.specs.Prelude.{ℕ, ◌+◌, ◌-◌, ◌*◌, ◌<◌, ◌≤◌, ◌≡◌, Bool, true, Option, List, take, drop, unwrap_or, IfSome, MatchOption}
use Rattle.std.specs.Borrow.{Bor}
use Rattle.rules.specs.Number.{max64}
use Rattle.rules.specs.Token as Rules
use Rattle.rules.specs.State as State
use Rattle.rules.specs.State.{State, token_slots, is_numbered, held, change_token, used, can_add_token, add_token}
use Rattle.rules.specs.Index.{free_index, found_index}
use Rattle.rules.specs.Valid.{valid}
use Rattle.rules.specs.Privileges.{mark_used}
use Rattle.rules.specs.Memory.{token_words, next_token, next_handle, token_row, dacl_row}
use Rattle.privilege.specs.Meaning.{privileges_of}
use Rattle.privilege.specs.declared.privileges.Privileges.{Privileges}
use Rattle.token.specs.Meaning.{identity_of, slots_of}
use Rattle.token.specs.declared.Identity.{Identity}
use Rattle.control.specs.Control.{ControlIn}
use Rattle.state.specs.Parts.{TokensIn}

-- ---- looking

-- find's result
abbrev pub FoundAt : ℕ → List ℕ → ℕ → Type 0
FoundAt n ts r = (bs : List ℕ) → r ≡ found_index (is_numbered n) (slots_of ts bs)

abbrev pub SlotOf : ℕ → List ℕ → Option ℕ → Type 0
SlotOf n ts r = FoundAt n ts (unwrap_or r token_slots) × IfSome r (λ i. i < token_slots)

abbrev pub FreeSlot : List ℕ → Option ℕ → Type 0
FreeSlot ts r = ((bs : List ℕ) → unwrap_or r token_slots ≡ free_index (slots_of ts bs)) × IfSome r (λ i. i < token_slots)

-- slot i's words
abbrev pub lent : ℕ → List ℕ → List ℕ
lent i ts = take (i * token_words + token_words - i * token_words) (drop (i * token_words) ts)

abbrev pub RowAt : ℕ → List ℕ → Option (Bor (List ℕ)) → Type 0
RowAt i ts r = MatchOption r (token_slots ≤ i) (λ ws. (i < token_slots) × (ws.now ≡ lent i ts))

-- the row of the live token of number n
abbrev pub RowOf : ℕ → List ℕ → Option (Bor (List ℕ)) → Type 0
RowOf n ts r = MatchOption r (FoundAt n ts token_slots) (λ ws. (i : ℕ) × FoundAt n ts i × (i < token_slots) × (ws.now ≡ lent i ts))

pub record IdentityGiven (n : ℕ) (ts : List ℕ) (r : Identity) : Type 0 where
  pub identity : (σ : State) → valid σ ≡ true → {ds : List ℕ} → TokensIn σ ts ds → identity_of r ≡ (State.token_of σ n).identity

-- the slot of any number; past the last one there is no token
pub record IdentityAt (slot : ℕ) (ts : List ℕ) (r : Identity) : Type 0 where
  pub given : (n : ℕ) → FoundAt n ts slot → IdentityGiven n ts r

pub record RestrictedGiven (n : ℕ) (ts : List ℕ) (r : Bool) : Type 0 where
  pub restricted : (σ : State) → valid σ ≡ true → {ds : List ℕ} → TokensIn σ ts ds → r ≡ Rules.is_restricted (State.token_of σ n)

pub record ElevationGiven (n : ℕ) (ts : List ℕ) (r : ℕ) : Type 0 where
  pub elevation : (σ : State) → valid σ ≡ true → {ds : List ℕ} → TokensIn σ ts ds → r ≡ (State.token_of σ n).elevation

pub record PrivilegesGiven (n : ℕ) (ts : List ℕ) (r : Privileges) : Type 0 where
  pub privileges : (σ : State) → valid σ ≡ true → {ds : List ℕ} → TokensIn σ ts ds → privileges_of r ≡ (State.token_of σ n).privileges

pub record Held (n s : ℕ) (ts cs : List ℕ) (r : Bool) : Type 0 where
  pub held : (σ : State) → valid σ ≡ true → {ds : List ℕ} → TokensIn σ ts ds → ControlIn σ cs → r ≡ held σ s n

pub record CanAdd (ts cs : List ℕ) (r : Bool) : Type 0 where
  pub below : r ≡ true → next_token cs < max64
  pub can_add : (σ : State) → valid σ ≡ true → {ds : List ℕ} → TokensIn σ ts ds → ControlIn σ cs → r ≡ can_add_token σ

-- ---- changes

-- a new token by its rows, whatever token they are of
pub record RowAdded (ws bs ts ds cs ts' ds' cs' : List ℕ) : Type 0 where
  pub tokens : (u : Rules.Token) → ws ≡ token_row u → bs ≡ dacl_row u → (σ : State) → valid σ ≡ true → TokensIn σ ts ds → TokensIn (add_token u σ) ts' ds'
  pub control : (u : Rules.Token) (σ : State) → ControlIn σ cs → ControlIn (add_token u σ) cs'
  -- what add_handle asks stays
  pub handle_next : next_handle cs' ≡ next_handle cs

-- the token of number n becomes f of it, and its DACL's row stays
pub record WordsChanged (n : ℕ) (f : Rules.Token → Rules.Token) (ts ts' : List ℕ) : Type 0 where
  pub tokens : (σ : State) → valid σ ≡ true → {ds : List ℕ} → TokensIn σ ts ds → TokensIn (change_token n f σ) ts' ds

-- a row gets used bits
pub record Marked (bits : ℕ) (ws ws' : List ℕ) : Type 0 where
  pub row : (t : Rules.Token) → ws ≡ token_row t → ws' ≡ token_row (Rules.with_privileges (mark_used bits t.privileges) t)

pub record Used (n s : ℕ) (ts cs ts' : List ℕ) : Type 0 where
  pub tokens : (σ : State) → valid σ ≡ true → {ds : List ℕ} → TokensIn σ ts ds → ControlIn σ cs → TokensIn (used n s σ) ts' ds
