-- What request 14 makes and does, where its user and the groups are all there. Assumes nothing.
use Rattle.std.specs.Prelude.{ℕ, ◌≡◌, true, Result, IfOk, List, ◌∷◌, map, length, drop}
use Rattle.rules.specs.Number.{got}
use Rattle.rules.specs.Privileges.{granted}
use Rattle.rules.specs.Token.{new_token, primary_of}
use Rattle.rules.specs.Sid.{Sid, is_packed, sid_in}
use Rattle.rules.specs.SidTable.{number_of, fits_table}
use Rattle.rules.specs.Given.{by_sid, GivenGroup, group_sid, group_in, entered_all}
use Rattle.rules.specs.Memory.{token_words, token_row}
use Rattle.rules.specs.Request.{times, group, packed_sid}
use Rattle.rules.specs.Create.{entered, valid_create, create}
use Rattle.handle.specs.declared.Handle.{Handle}
use Rattle.handle.specs.Words.{records_in}
use Rattle.state.specs.declared.parts.Parts.{Parts}
use Rattle.answer.specs.declared.refusal.Refusal.{Refusal}
use Rattle.given.specs.Given.{Capped}
use Rattle.body.specs.declared.fields.CreateFields.{CreateFields}
use Rattle.decide.specs.declared.outcome.Outcome.{Outcome}
use Rattle.decide.specs.Lookup.{refused}
use Rattle.decide.specs.Carried.{Carried}
use Rattle.create.specs.NewGroups.{new_refusal}

-- the new token's row, and the words of the table; t' is the table that has room for all
pub record MadeIn (n : ℕ) (f : CreateFields ℕ) (user : Sid) (gs : List GivenGroup) (t' : List Sid) (ws after : List ℕ) (r : Result (Unit {0}) Refusal) : Type 0 where
  pub refusal : refused r ≡ new_refusal (valid_create t' (number_of t' user) f.integrity f.present f.by_default (map (group_in t') gs)) (fits_table t')
  pub held : IfOk r (λ u. Capped t' after)
  pub row : IfOk r (λ u. ws ≡ token_row (new_token n (primary_of n (number_of t' user) f.session f.integrity) (granted f.present f.by_default) (map entered (map (group_in t') gs))))

-- the user's SID enters first
pub record PackedMade (n : ℕ) (f : CreateFields ℕ) (s before ws after : List ℕ) (r : Result (Unit {0}) Refusal) : Type 0 where
  pub long : length ws ≡ token_words
  pub made : (gs : List GivenGroup) (later : List ℕ) → times f.count (group packed_sid) (drop f.at s) ≡ got gs later → (t : List Sid) → Capped t before → fits_table t ≡ true
      → MadeIn n f (sid_in (drop f.user s)) gs (entered_all (by_sid (sid_in (drop f.user s)) ∷ map group_sid gs) t) ws after r

pub record PackedCreateCarried (station : ℕ) (f : CreateFields ℕ) (s ts ds : List ℕ) (hs : List Handle) (cs ts' ds' cs' : List ℕ) (r : Result Outcome Refusal) : Type 0 where
  pub carried : (gs : List GivenGroup) (later : List ℕ) → times f.count (group packed_sid) (drop f.at s) ≡ got gs later → is_packed (drop f.user s) ≡ true
      → Carried (λ σ. create σ station (by_sid (sid_in (drop f.user s))) f.session f.integrity f.present f.by_default gs) ts ds hs cs ts' ds' cs' r

-- the same of the parts as they are lent
abbrev pub PackedCreateCarriedOut : ℕ → CreateFields ℕ → List ℕ → Parts → Parts → Result Outcome Refusal → Type 0
PackedCreateCarriedOut station f s p q r = PackedCreateCarried station f s p.tokens.now p.dacls.now (records_in p.handles.now) p.control.now q.tokens.now q.dacls.now q.control.now r
