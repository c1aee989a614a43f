-- What the parts of request 16 give, for every valid state that the parts hold. Assumes nothing.
use Rattle.std.specs.Prelude.{ℕ, ◌≡◌, Bool, true, ◌&&◌, Result, IfOk, List, eqb}
use Rattle.rules.specs.Mask as Mask
use Rattle.rules.specs.Mask.{permits}
use Rattle.rules.specs.Privileges.{tcb}
use Rattle.rules.specs.Token.{primary}
use Rattle.rules.specs.State as state
use Rattle.rules.specs.State.{State, token_of, find_handle, used, released}
use Rattle.rules.specs.Table.{is_live, lives}
use Rattle.rules.specs.Growth.{Mem}
use Rattle.rules.specs.Valid.{valid}
use Rattle.rules.specs.Link.{linkable, linked}
use Rattle.handle.specs.declared.Handle.{Handle}
use Rattle.token.specs.declared.Identity.{Identity}
use Rattle.control.specs.Pairs.{pair_of, place_for}
use Rattle.control.specs.declared.pairs.Pair.{Pair}
use Rattle.state.specs.Parts.{TokensIn, HandlesIn}
use Rattle.state.specs.ReleaseFacts.{PartsIn}
use Rattle.answer.specs.declared.refusal.Refusal.{Refusal}
use Rattle.decide.specs.Lookup.{refused, handle_refusal}

abbrev pub both_live : State → (s n m : ℕ) → Bool
both_live σ s n m = is_live (find_handle σ s n) && is_live (find_handle σ s m)

abbrev pub both_may : State → (s n m : ℕ) → Bool
both_may σ s n m = permits (state.handle_of σ s n).mask Mask.duplicate && permits (state.handle_of σ s m).mask Mask.duplicate

-- the pair is of the session and of the tokens that the two handles are on
pub record IsNamed (s n m given : ℕ) (hs : List Handle) (p : Pair) : Type 0 where
  pub session : p.session ≡ given
  pub elevated : (σ : State) → valid σ ≡ true → HandlesIn σ hs → p.elevated ≡ (state.handle_of σ s n).token
  pub filtered : (σ : State) → valid σ ≡ true → HandlesIn σ hs → p.filtered ≡ (state.handle_of σ s m).token

pub record PairNamed (s n m session : ℕ) (hs : List Handle) (r : Result Pair Refusal) : Type 0 where
  pub pair : IfOk r (IsNamed s n m session hs)
  pub refusal : (σ : State) → valid σ ≡ true → HandlesIn σ hs → refused r ≡ handle_refusal (both_live σ s n m) (both_may σ s n m)

-- a primary token of the session
abbrev pub of_session : ℕ → Identity → Bool
of_session session i = eqb i.kind primary && eqb i.session session

pub record LinkJudged (p : Pair) (ts : List ℕ) (r : Bool) : Type 0 where
  -- of tokens that have these numbers
  pub judged : (σ : State) → valid σ ≡ true → {ds : List ℕ} → TokensIn σ ts ds → (token_of σ p.elevated).number ≡ p.elevated → (token_of σ p.filtered).number ≡ p.filtered
      → r ≡ linkable p.session (token_of σ p.elevated) (token_of σ p.filtered)

-- where the tokens are live and linkable, and the place is the session's or the lowest free one
pub record LinkApplied (s place : ℕ) (p : Pair) (ts ds : List ℕ) (hs : List Handle) (cs ts' ds' cs' : List ℕ) : Type 0 where
  pub parts : (σ : State) → valid σ ≡ true → PartsIn σ ts ds hs cs
      → Mem (token_of σ p.elevated) (lives σ.tokens.slots) → (token_of σ p.elevated).number ≡ p.elevated
      → Mem (token_of σ p.filtered) (lives σ.tokens.slots) → (token_of σ p.filtered).number ≡ p.filtered
      → linkable p.session (token_of σ p.elevated) (token_of σ p.filtered) ≡ true → place ≡ place_for p.session σ.pairs
      → PartsIn (released (linked (pair_of p.session p.elevated p.filtered) (used tcb s σ))) ts' ds' hs cs'
