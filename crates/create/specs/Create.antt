-- What request 3 makes and does, where the groups are all there. Assumes nothing.
use Rattle.std.specs.Prelude.{ℕ, ◌≤◌, ◌≡◌, true, Result, IfOk, List, [], map, length, drop}
use Rattle.rules.specs.Number.{got}
use Rattle.rules.specs.Mask.{all_rights}
use Rattle.rules.specs.Refusal.{table_full}
use Rattle.rules.specs.Privileges.{create_token, granted}
use Rattle.rules.specs.Token.{Token, new_token, primary_of}
use Rattle.rules.specs.Sid.{Sid}
use Rattle.rules.specs.SidTable.{max_sids}
use Rattle.rules.specs.Given.{by_number, GivenGroup, group_in}
use Rattle.rules.specs.State.{State, used}
use Rattle.rules.specs.Memory.{token_words, token_row}
use Rattle.rules.specs.Valid.{valid}
use Rattle.rules.specs.Request.{times, group, sid_number}
use Rattle.rules.specs.Decision.{need◌else◌then◌, can_issue, issued}
use Rattle.rules.specs.Create.{entered, valid_create, create}
use Rattle.handle.specs.declared.Handle.{Handle}
use Rattle.handle.specs.Words.{records_in}
use Rattle.control.specs.Control.{ControlIn}
use Rattle.state.specs.ReleaseFacts.{PartsIn}
use Rattle.state.specs.declared.parts.Parts.{Parts}
use Rattle.answer.specs.declared.refusal.Refusal.{Refusal}
use Rattle.body.specs.declared.fields.CreateFields.{CreateFields}
use Rattle.decide.specs.declared.outcome.Outcome.{Outcome}
use Rattle.decide.specs.Lookup.{refused}
use Rattle.decide.specs.Carried.{Carried}
use Rattle.create.specs.NewGroups.{new_refusal}

-- the new token's row, where every field is good in a table of so many SIDs
pub record RowMade (n known : ℕ) (f : CreateFields ℕ) (s ws : List ℕ) (r : Result (Unit {0}) Refusal) : Type 0 where
  pub long : length ws ≡ token_words
  pub refusal : (sids : List Sid) → length sids ≡ known → (gs : List GivenGroup) (later : List ℕ) → times f.count (group sid_number) (drop f.at s) ≡ got gs later
      → refused r ≡ new_refusal (valid_create sids f.user f.integrity f.present f.by_default (map (group_in sids) gs)) true
  pub made : (sids : List Sid) → length sids ≡ known → (gs : List GivenGroup) (later : List ℕ) → times f.count (group sid_number) (drop f.at s) ≡ got gs later
      → IfOk r (λ u. ws ≡ token_row (new_token n (primary_of n f.user f.session f.integrity) (granted f.present f.by_default) (map entered (map (group_in sids) gs))))

-- how many SIDs stand in the table
pub record KnownSids (cs : List ℕ) (r : ℕ) : Type 0 where
  pub few : r ≤ max_sids
  pub count : (σ : State) → valid σ ≡ true → ControlIn σ cs → length σ.sids ≡ r

-- whatever token without a DACL the row is of
pub record RowCreated (s : ℕ) (ws ts ds : List ℕ) (hs : List Handle) (cs ts' ds' cs' : List ℕ) (r : Result Outcome Refusal) : Type 0 where
  pub carried : (u : Token) → ws ≡ token_row u → u.defaults.dacl ≡ []
      → Carried (λ σ. need can_issue σ else table_full then issued s all_rights u (used create_token s σ)) ts ds hs cs ts' ds' cs' r
  pub refusal : (σ : State) → valid σ ≡ true → PartsIn σ ts ds hs cs → refused r ≡ new_refusal true (can_issue σ)

pub record CreateCarried (station : ℕ) (f : CreateFields ℕ) (s ts ds : List ℕ) (hs : List Handle) (cs ts' ds' cs' : List ℕ) (r : Result Outcome Refusal) : Type 0 where
  pub carried : (gs : List GivenGroup) (later : List ℕ) → times f.count (group sid_number) (drop f.at s) ≡ got gs later
      → Carried (λ σ. create σ station (by_number f.user) f.session f.integrity f.present f.by_default gs) ts ds hs cs ts' ds' cs' r

-- the same of the parts as they are lent
abbrev pub CreateCarriedOut : ℕ → CreateFields ℕ → List ℕ → Parts → Parts → Result Outcome Refusal → Type 0
CreateCarriedOut station f s p q r = CreateCarried station f s p.tokens.now p.dacls.now (records_in p.handles.now) p.control.now q.tokens.now q.dacls.now q.control.now r
