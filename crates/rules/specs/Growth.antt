-- What lasts while a token or a handle lives, between an earlier and a later state: demand 3's 'all along'. Assumes nothing.
use Rattle.std.specs.Prelude.{ℕ, ◌≤◌, ◌<◌, ◌≡◌, Bool, true, false, ◌⊎◌, List, ◌∷◌, ◌++◌, map, get_or, if◌then◌else◌}
use Rattle.rules.specs.Number.{Read, got, bad}
use Rattle.rules.specs.Bits.{within}
use Rattle.rules.specs.Group.{no_group, sid_of, is_deny_only}
use Rattle.rules.specs.Token.{Token, no_root, default_elevation, is_restricted}
use Rattle.rules.specs.Table.{Slot, free, live, Table, lives}
use Rattle.rules.specs.Handle.{Handle}
use Rattle.rules.specs.Sid.{Sid}
use Rattle.rules.specs.State.{State, token_of, find_handle}
use Rattle.rules.specs.Request.{Request, parse}
use Rattle.rules.specs.Duplicate as Duplicate
use Rattle.rules.specs.Link.{partner_of}
use Rattle.rules.specs.Serve.{serve}
use Rattle.rules.specs.Ladder.{status}
use Rattle.rules.specs.Run.{Serving, Outcome, serves, served_by}

-- a is in the list
pub data Mem {A : Type 0} (a : A) : List A → Type 0 where
  here : {x : A} {xs : List A} → a ≡ x → Mem a (x ∷ xs)
  there : {x : A} {xs : List A} → Mem a xs → Mem a (x ∷ xs)

-- the token is live
unfoldable pub Live : Token → State → Type 0
Live t σ = Mem t (lives σ.tokens.slots)

-- the handle is live
unfoldable pub LiveHandle : Handle → State → Type 0
LiveHandle h σ = Mem h (lives σ.handles.slots)

-- u can be the token t at a later time
pub record Follows (t u : Token) : Type 0 where
  pub number : u.number ≡ t.number
  -- user, session, type, level, integrity and root
  pub identity : u.identity ≡ t.identity
  -- present privileges don't grow, used marks stay
  pub present : within u.privileges.present t.privileges.present ≡ true
  pub used : within t.privileges.used u.privileges.used ≡ true
  -- each group keeps its index, its SID and its deny-only mark
  pub sids : map sid_of u.groups ≡ map sid_of t.groups
  pub denied : (i : ℕ) → is_deny_only (get_or t.groups i no_group) ≡ true → is_deny_only (get_or u.groups i no_group) ≡ true
  -- restricting SIDs, the write-restricted mark and the user's deny-only mark stay
  pub limits : u.limits ≡ t.limits
  -- the elevation stays, but that of a token that is neither Full nor Limited
  pub elevation : (u.elevation ≡ t.elevation) ⊎ (t.elevation ≡ default_elevation)

-- the token u was there before, in the table x
pub record Before (x : Table Token) (u : Token) : Type 0 where
  pub token : Token
  pub was : Mem token (lives x.slots)
  pub follows : Follows token u

-- y can be the tokens x at a later time: each of its tokens has a number that x had not yet given, or was there before
pub record Later (x y : Table Token) : Type 0 where
  pub next : x.next ≤ y.next
  pub old : (u : Token) → Mem u (lives y.slots) → u.number < x.next → Before x u

-- y can be the handles x at a later time: each of its handles has a number that x had not yet given, or was there with the same station,
-- token and mask
pub record HandlesLater (x y : Table Handle) : Type 0 where
  pub next : x.next ≤ y.next
  pub old : (h : Handle) → Mem h (lives y.slots) → h.number < x.next → Mem h (lives x.slots)

-- y can be the SID table x at a later time: its SIDs, then more
pub record SidsLater (x y : List Sid) : Type 0 where
  pub more : List Sid
  pub behind : y ≡ x ++ more

-- handle n of station s is h in τ, as it was in σ, and stands for the same token
pub record StillHandle (σ τ : State) (s n : ℕ) (h : Handle) : Type 0 where
  pub found : find_handle τ s n ≡ live h
  pub token : Follows (token_of σ h.token) (token_of τ h.token)

-- ---- a token made from another: its source is the one that request 9, 10 or 15 copies, or the partner that request 17 clones

pub record Source : Type 0 where
  pub token : Token
  -- the copy is anonymous
  pub is_anonymous : Bool

-- the token of a handle
unfoldable pub source_at : State → Bool → Slot Handle → Slot Source
source_at σ b free = free
source_at σ b (live h) = live (record { token = token_of σ h.token; is_anonymous = b })

-- the partner of a handle's token
unfoldable pub partner_at : State → Slot Handle → Slot Source
partner_at σ free = free
partner_at σ (live h) = live (record { token = token_of σ (partner_of σ h.token); is_anonymous = false })

unfoldable pub source_of : State → ℕ → Read Request → Slot Source
source_of σ s bad = free
source_of σ s (got (Request.open_own mask) bytes) = free
source_of σ s (got (Request.close n) bytes) = free
source_of σ s (got (Request.create user session integrity present by_default gs) bytes) = free
source_of σ s (got (Request.query n class capacity) bytes) = free
source_of σ s (got (Request.privileges n es) bytes) = free
source_of σ s (got (Request.groups n es) bytes) = free
source_of σ s (got (Request.scope n v) bytes) = free
source_of σ s (got (Request.defaults n owner group flag dacl) bytes) = free
source_of σ s (got (Request.duplicate n type level mask) bytes) = source_at σ (Duplicate.is_anonymous type level) (find_handle σ s n)
source_of σ s (got (Request.restrict n mark removed deny sids) bytes) = source_at σ false (find_handle σ s n)
source_of σ s (got (Request.install n) bytes) = free
source_of σ s (got (Request.impersonate n) bytes) = free
source_of σ s (got Request.revert bytes) = free
source_of σ s (got (Request.link n m session) bytes) = free
source_of σ s (got (Request.linked n) bytes) = partner_at σ (find_handle σ s n)
source_of σ s (got (Request.evaluate n c) bytes) = free

-- u, just made, and its source: it has no more, and the source's root
pub record FromSource (x : Source) (u : Token) : Type 0 where
  pub present : within u.privileges.present x.token.privileges.present ≡ true
  -- a restricted token's copy is restricted, unless it is anonymous, and its list has nothing that the source's lacked
  pub restricted : x.is_anonymous ≡ false → is_restricted x.token ≡ true → is_restricted u ≡ true
  pub restricting : x.is_anonymous ≡ false → is_restricted x.token ≡ true
      → (n : ℕ) → Mem n u.limits.restricting → Mem n x.token.limits.restricting
  -- it has the source's root, or none where it is anonymous
  pub root : u.identity.root ≡ (if x.is_anonymous then no_root else x.token.identity.root)

-- of a body that is served: a token that it makes from another
unfoldable pub Copying : Serving → Type 0
Copying x =
    (t : Source) (u : Token)
    → source_of x.before x.station (parse x.body) ≡ live t
    → Mem u (lives (serve x.before x.station x.body).state.tokens.slots)
    → x.before.tokens.next ≤ u.number
    → FromSource t u

-- ---- where a root comes from

-- the request makes a token that is its own root
unfoldable pub makes_root : Read Request → Bool
makes_root bad = false
makes_root (got (Request.open_own mask) bytes) = false
makes_root (got (Request.close n) bytes) = false
makes_root (got (Request.create user session integrity present by_default gs) bytes) = true
makes_root (got (Request.query n class capacity) bytes) = false
makes_root (got (Request.privileges n es) bytes) = false
makes_root (got (Request.groups n es) bytes) = false
makes_root (got (Request.scope n v) bytes) = false
makes_root (got (Request.defaults n owner group flag dacl) bytes) = false
makes_root (got (Request.duplicate n type level mask) bytes) = false
makes_root (got (Request.restrict n mark removed deny sids) bytes) = false
makes_root (got (Request.install n) bytes) = false
makes_root (got (Request.impersonate n) bytes) = false
makes_root (got Request.revert bytes) = false
makes_root (got (Request.link n m session) bytes) = false
makes_root (got (Request.linked n) bytes) = false
makes_root (got (Request.evaluate n c) bytes) = false

-- of a body that is served: a token that it makes of none is its own root
unfoldable pub Creating : Serving → Type 0
Creating x =
    (u : Token)
    → makes_root (parse x.body) ≡ true
    → Live u (served_by x).state
    → x.before.tokens.next ≤ u.number
    → u.identity.root ≡ u.number

-- the root n of a token, after what xs serves from σ on: 0, or the root of a token that was there, or the number that was given to a created one
pub data Rooted (σ : State) (xs : List Outcome) (n : ℕ) : Type 0 where
  none : n ≡ no_root → Rooted σ xs n
  old : (t : Token) → Live t σ → t.identity.root ≡ n → Rooted σ xs n
  created : (x : Serving) → Mem (serves x) xs → makes_root (parse x.body) ≡ true → status (served_by x) ≡ 0 → x.before.tokens.next ≡ n → Rooted σ xs n
