-- What requests 10 and 15 make and do, where the indexes and the SIDs are all there. Assumes nothing.
use Rattle.std.specs.Prelude.{ℕ, ◌≤◌, ◌≡◌, Bool, true, ◌&&◌, ◌||◌, Option, None, Some, Result, IfOk, List, eqb, leb, length, drop, if◌then◌else◌}
use Rattle.table.specs.Table.{nth_record}
use Rattle.rules.specs.Basic.{all}
use Rattle.rules.specs.Number.{got}
use Rattle.rules.specs.Privileges.{remove}
use Rattle.rules.specs.Token.{Token, max_groups, max_restricting}
use Rattle.rules.specs.Sid.{Sid}
use Rattle.rules.specs.SidTable.{is_number, fits_table}
use Rattle.rules.specs.Given.{Given}
use Rattle.rules.specs.State.{State}
use Rattle.rules.specs.Valid.{valid, token_valid}
use Rattle.rules.specs.Memory.{token_words, token_row}
use Rattle.rules.specs.Request.{Reader, times, u32}
use Rattle.rules.specs.Decision.{can_issue}
use Rattle.rules.specs.Restrict.{restricting_to, valid_restrict, restricted, restrict}
use Rattle.handle.specs.declared.Handle.{Handle}
use Rattle.handle.specs.Words.{records_in}
use Rattle.body.specs.declared.fields.RestrictFields.{RestrictFields}
use Rattle.state.specs.declared.parts.Parts.{Parts}
use Rattle.state.specs.ReleaseFacts.{PartsIn}
use Rattle.answer.specs.declared.refusal.Refusal.{Refusal}
use Rattle.answer.specs.declared.refusal.Refusal.TheVariants as refusals
use Rattle.decide.specs.declared.outcome.Outcome.{Outcome}
use Rattle.decide.specs.Lookup.{refused}
use Rattle.decide.specs.declared.located.Located.{Located}
use Rattle.decide.specs.Carried.{Carried}
use Rattle.decide.specs.Issue.{NumbersLeft}
use Rattle.copy.specs.declared.asked.Asked.{Asked}
use Rattle.copy.specs.declared.restricted_row.Source.{Source}
use Rattle.copy.specs.declared.restricting.Sids.{Sids}
use Rattle.copy.specs.Copies.{CopyIssued}
use Rattle.copy.specs.DeniedGroups.{Packed}
use Rattle.copy.specs.Restricting.{Listed}

-- the two lists of a body; p reads a SID
pub record Lists (p : Reader Given) (s : List ℕ) (deny_at deny_count sid_at sid_count : ℕ) (deny : List ℕ) (given : List Given) : Type 0 where
  pub after : List ℕ
  pub denied : times deny_count u32 (drop deny_at s) ≡ got deny after
  pub later : List ℕ
  pub sids : times sid_count p (drop sid_at s) ≡ got given later

-- ---- the token that is copied

pub record IsSource (t : Token) (r : Source) : Type 0 where
  pub groups : length t.groups ≡ r.groups
  pub restricting : length t.limits.restricting ≡ r.restricting
  pub write_restricted : t.limits.write_restricted ≡ r.write_restricted

-- whatever token is in the slot
pub record SourceAt (slot : ℕ) (ts : List ℕ) (r : Source) : Type 0 where
  pub few_groups : r.groups ≤ max_groups
  pub few_restricting : r.restricting ≤ max_restricting
  pub source : (t : Token) → token_valid t ≡ true → nth_record token_words slot ts ≡ token_row t → IsSource t r

-- ---- the copy

abbrev pub mark_word : ℕ → ℕ → ℕ
mark_word mark w = if eqb mark 1 then 1 else w

-- the lists are as they were
unfoldable pub limited_to : (n mark removed : ℕ) → Token → Token
limited_to n mark removed t =
    record { number = n; modified = n; elevation = 1; identity = t.identity; privileges = remove removed t.privileges; groups = t.groups; limits = record { restricting = t.limits.restricting; write_restricted = eqb mark 1 || t.limits.write_restricted; user_deny_only = eqb mark 1 || t.limits.user_deny_only }; defaults = t.defaults; scope = t.scope }

-- the list is that of t's copy
pub record TakesFrom (given : List ℕ) (size : ℕ) (list : Sids) (t : Token) : Type 0 where
  pub groups : length t.groups ≡ size
  pub listed : Listed (restricting_to given t.limits.restricting) list
  pub few : length (restricting_to given t.limits.restricting) ≤ max_restricting

pub record CopyMade (n groups : ℕ) (list : Sids) (mark removed : ℕ) (s : List ℕ) (deny_at deny_count : ℕ) (ws ws' : List ℕ) : Type 0 where
  pub long : length ws' ≡ token_words
  pub made : (deny later : List ℕ) → times deny_count u32 (drop deny_at s) ≡ got deny later
      → (given : List ℕ) (t : Token) → TakesFrom given groups list t → Packed t → ws ≡ token_row t → ws' ≡ token_row (restricted n mark removed deny given t)

-- ---- the request

-- what a copy is refused for, if anything
abbrev pub refusal_by : (ok room : Bool) → Option Refusal
refusal_by ok room = if ok then (if room then None else Some refusals.TableFull) else Some refusals.BadField

-- in the state, with the table that the SIDs given lead to
abbrev pub has_room : ℕ → State → List Sid → Bool
has_room listed σ sids = leb listed max_restricting && can_issue σ && fits_table sids

pub record RestrictChecked (x : Source) (a : Asked) (mark removed : ℕ) (s : List ℕ) (deny_at deny_count : ℕ) (ts : List ℕ) (hs : List Handle) (cs : List ℕ) (r : Result (Unit {0}) Refusal) : Type 0 where
  -- what issuing asks
  pub left : IfOk r (λ u. NumbersLeft cs)
  pub few : IfOk r (λ u. a.list.count ≤ max_restricting)
  pub fits : IfOk r (λ u. a.fits ≡ true)
  pub refusal : (deny later : List ℕ) → times deny_count u32 (drop deny_at s) ≡ got deny later
      → (given : List ℕ) (t : Token) → IsSource t x → a.list.count ≡ length (restricting_to given t.limits.restricting)
      → (sids : List Sid) → a.known ≡ all (is_number sids) given → a.fits ≡ fits_table sids
      → (σ : State) → valid σ ≡ true → {ds : List ℕ} → PartsIn σ ts ds hs cs
      → refused r ≡ refusal_by (valid_restrict sids t mark removed deny given) (has_room a.list.count σ sids)

-- by the next number last but the token
unfoldable pub restricted_as : (mark removed : ℕ) → (deny given : List ℕ) → ℕ → Token → Token
restricted_as mark removed deny given n t = restricted n mark removed deny given t

pub record RestrictedIssued (slot groups : ℕ) (list : Sids) (mark removed : ℕ) (s : List ℕ) (deny_at deny_count station mask : ℕ) (ts ds : List ℕ)
    (hs : List Handle) (cs ts' ds' cs' : List ℕ) (r : Outcome) : Type 0 where
  pub copy : (deny later : List ℕ) → times deny_count u32 (drop deny_at s) ≡ got deny later → (given : List ℕ)
      → ((t : Token) → token_valid t ≡ true → nth_record token_words slot ts ≡ token_row t → TakesFrom given groups list t)
      → CopyIssued (restricted_as mark removed deny given) slot station mask ts ds hs cs ts' ds' cs' r

pub record RestrictCarried (p : Reader Given) (station number mark removed : ℕ) (s : List ℕ) (deny_at deny_count sid_at sid_count : ℕ) (ts ds : List ℕ) (hs : List Handle)
    (cs ts' ds' cs' : List ℕ) (r : Result Outcome Refusal) : Type 0 where
  pub carried : (deny : List ℕ) (given : List Given) → Lists p s deny_at deny_count sid_at sid_count deny given
      → Carried (λ σ. restrict σ station number mark removed deny given) ts ds hs cs ts' ds' cs' r

-- ---- the same of the parts as they are lent, by the fields of a body

abbrev pub RestrictedIssuedOut : (from : Located) (groups : ℕ) (list : Sids) → RestrictFields → List ℕ → (station : ℕ) → Parts → Parts → Outcome → Type 0
RestrictedIssuedOut from groups list f s station p q r =
    RestrictedIssued from.slot groups list f.mark f.removed s f.deny_at f.deny_count station from.handle.mask p.tokens.now p.dacls.now (records_in p.handles.now) p.control.now q.tokens.now q.dacls.now q.control.now r

abbrev pub RestrictCarriedOut : Reader Given → (station : ℕ) → RestrictFields → List ℕ → Parts → Parts → Result Outcome Refusal → Type 0
RestrictCarriedOut reads station f s p q r =
    RestrictCarried reads station f.handle f.mark f.removed s f.deny_at f.deny_count f.sid_at f.sid_count p.tokens.now p.dacls.now (records_in p.handles.now) p.control.now q.tokens.now q.dacls.now q.control.now r
