-- Request 10: the copy's restricting SIDs, where those given are all there. Assumes nothing.
use Rattle.std.specs.Prelude.{ℕ, ◌+◌, ◌≤◌, ◌≡◌, Bool, ◌||◌, List, [], ◌∷◌, ◌++◌, length, drop, replicate}
use Rattle.table.specs.Lists.{pad}
use Rattle.table.specs.Table.{nth_record}
use Rattle.rules.specs.Basic.{filter, member, is_empty}
use Rattle.rules.specs.Number.{got}
use Rattle.rules.specs.Token.{Token, max_restricting}
use Rattle.rules.specs.Memory.{token_words, token_row}
use Rattle.rules.specs.Request.{times, u32}
use Rattle.rules.specs.Restrict.{restricting_to}
use Rattle.copy.specs.declared.restricting.Sids.{Sids}

-- so many, of which none is listed
abbrev pub so_many : ℕ → Sids
so_many count = record { count = count; words = replicate max_restricting 0 }

-- r is the list xs
pub record Listed (xs : List ℕ) (r : Sids) : Type 0 where
  pub count : r.count ≡ length xs
  pub words : length xs ≤ max_restricting → r.words ≡ pad max_restricting xs

pub record SidAdded (sid : ℕ) (list r : Sids) : Type 0 where
  pub count : r.count ≡ list.count + 1
  pub listed : (xs : List ℕ) → Listed xs list → Listed (xs ++ (sid ∷ [])) r

abbrev pub is_kept : List ℕ → ℕ → Bool
is_kept given sid = is_empty given || member sid given

-- f says which numbers the test passes
abbrev pub Answers : (ℕ → Bool → Type 0) → (ℕ → Bool) → Type 0
Answers test f = (n : ℕ) (b : Bool) → test n b → b ≡ f n

-- of the token in a slot, which has `own` restricting SIDs, by each test that is one of G's
pub record OwnKept (slot own : ℕ) (ts : List ℕ) (G : (ℕ → Bool) → Type 0) (r : Sids) : Type 0 where
  pub listed : (f : ℕ → Bool) → G f → (t : Token) → length t.limits.restricting ≡ own → nth_record token_words slot ts ≡ token_row t → Listed (filter f t.limits.restricting) r

pub record ListMade (slot own : ℕ) (ts s : List ℕ) (at count : ℕ) (r : Sids) : Type 0 where
  pub listed : (given later : List ℕ) → times count u32 (drop at s) ≡ got given later
      → (t : Token) → length t.limits.restricting ≡ own → nth_record token_words slot ts ≡ token_row t → Listed (restricting_to given t.limits.restricting) r

-- ---- in a row

unfoldable pub with_restricting : List ℕ → Token → Token
with_restricting sids t =
    record { number = t.number; modified = t.modified; elevation = t.elevation; identity = t.identity; privileges = t.privileges; groups = t.groups; limits = record { restricting = sids; write_restricted = t.limits.write_restricted; user_deny_only = t.limits.user_deny_only }; defaults = t.defaults; scope = t.scope }

pub record RestrictedTo (list : Sids) (ws ws' : List ℕ) : Type 0 where
  pub long : length ws' ≡ token_words
  pub made : (sids : List ℕ) → Listed sids list → length sids ≤ max_restricting → (t : Token) → ws ≡ token_row t → ws' ≡ token_row (with_restricting sids t)
