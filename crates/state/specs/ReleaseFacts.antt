-- What the changes that free a token give, for every state that the parts hold. Assumes nothing.
use Rattle.std.specs.Prelude.{ℕ, ◌≡◌, Bool, true, ◌⊎◌, Option, is_some, IsNone, List}
use Rattle.rules.specs.Basic.{member}
use Rattle.rules.specs.Growth.{Mem}
use Rattle.rules.specs.Token.{Token, primary}
use Rattle.rules.specs.Table.{is_live, lives}
use Rattle.rules.specs.Valid.{valid}
use Rattle.rules.specs.Station.{Client, no_client}
use Rattle.rules.specs.Acting.{ActsFor}
use Rattle.rules.specs.Linking.{Linked}
use Rattle.rules.specs.Index.{freed_one}
use Rattle.rules.specs.State.{State, find_handle, drop_handle, set_token, set_client, set_pair, references, released}
use Rattle.handle.specs.declared.Handle.{Handle}
use Rattle.control.specs.Control.{ControlIn}
use Rattle.control.specs.Pairs.{pair_of, place_for}
use Rattle.state.specs.Parts.{TokensIn, HandlesIn}
use Rattle.state.specs.Formed.{Formed}
use Rattle.state.specs.HandleFacts.{changed}
use Rattle.state.specs.declared.handles.Change.{Change}

-- the parts that a request works on hold one state; it reads no pending bytes
pub record PartsIn (σ : State) (ts ds : List ℕ) (hs : List Handle) (cs : List ℕ) : Type 0 where
  pub handles : HandlesIn σ hs
  pub control : ControlIn σ cs
  pub tokens : TokensIn σ ts ds

-- a handle, a station or a pair refers to the token
pub record Referred (token : ℕ) (hs : List Handle) (cs : List ℕ) (r : Bool) : Type 0 where
  pub refers : (σ : State) → Formed σ → HandlesIn σ hs → ControlIn σ cs → r ≡ member token (references σ)

pub record TokenFreed (token : ℕ) (ts ds : List ℕ) (hs : List Handle) (cs ts' ds' : List ℕ) : Type 0 where
  pub tokens : (σ : State) → Formed σ → PartsIn σ ts ds hs cs → TokensIn (freed_one token σ) ts' ds'

-- none where there is no such handle
pub record Closed (station number : ℕ) (ts ds : List ℕ) (hs : List Handle) (cs ts' ds' : List ℕ) (r : Option Change) : Type 0 where
  pub parts : (σ : State) → valid σ ≡ true → PartsIn σ ts ds hs cs → is_live (find_handle σ station number) ≡ true
      → PartsIn (released (drop_handle station number σ)) ts' ds' (changed hs r) cs
  pub live : (σ : State) → valid σ ≡ true → HandlesIn σ hs → is_some r ≡ is_live (find_handle σ station number)
  pub none : IsNone r → (ts' ≡ ts) × (ds' ≡ ds)

-- where the number is that of a live primary token
pub record Installed (station number : ℕ) (ts ds : List ℕ) (hs : List Handle) (cs ts' ds' cs' : List ℕ) : Type 0 where
  pub parts : (σ : State) → valid σ ≡ true → PartsIn σ ts ds hs cs
      → (t : Token) → Mem t (lives σ.tokens.slots) → t.number ≡ number → t.identity.type ≡ primary
      → PartsIn (released (set_token station number σ)) ts' ds' hs cs'

abbrev pub client : (token level : ℕ) → Client
client token level = record { token = token; level = level }

-- where it is no token, or one that the station may act for at that level
pub record ActsFrom (station token level : ℕ) (ts ds : List ℕ) (hs : List Handle) (cs ts' ds' cs' : List ℕ) : Type 0 where
  pub parts : (σ : State) → valid σ ≡ true → PartsIn σ ts ds hs cs → (client token level ≡ no_client) ⊎ ActsFor σ (client token level)
      → PartsIn (released (set_client station (client token level) σ)) ts' ds' hs cs'

-- where the tokens are such that they make a pair, and the place is the session's or the lowest free one
pub record PairLinked (place session elevated filtered : ℕ) (ts ds : List ℕ) (hs : List Handle) (cs ts' ds' cs' : List ℕ) : Type 0 where
  pub parts : (σ : State) → valid σ ≡ true → PartsIn σ ts ds hs cs → Linked σ (pair_of session elevated filtered) → place ≡ place_for session σ.pairs
      → PartsIn (released (set_pair (pair_of session elevated filtered) σ)) ts' ds' hs cs'
