-- From what a decision comes to for every state, to what the code did. Assumes nothing.
use Prim.Native.Nat.{ℕ}
use mathlib.Core.Path.{◌≡◌}
use mathlib.Core.Bool.{Bool, true, false, not}
use mathlib.Core.List.{List, ◌∷◌}
use borrow.Author.Tests.{not-true, not-false}
use Rattle.std.specs.Prelude.{Result, Ok, Err}
use Rattle.rules.specs.Refusal as rules
use Rattle.rules.specs.Token.{Token}
use Rattle.rules.specs.State.{State, put_token, change_token, used}
use Rattle.rules.specs.Valid.{valid}
use Rattle.rules.specs.Decision.{Decision, Served, need◌else◌then◌, carried_out}
use Rattle.handle.specs.declared.Handle.{Handle}
use Rattle.state.specs.TokenCalls.{WordsChanged, Used}
use Rattle.state.specs.ReleaseFacts.{PartsIn}
use Rattle.state.proofs.TokenFrames.{with_slots_lem, with_tokens_lem, used_control, used_handles}
use Rattle.answer.specs.Answer.{answer_of, Fit}
use Rattle.answer.specs.Refusal.{refusal_of}
use Rattle.answer.specs.declared.Answer.{Answer}
use Rattle.answer.specs.declared.Answer.TheVariants as answers
use Rattle.answer.specs.declared.refusal.Refusal.{Refusal}
use Rattle.decide.specs.declared.outcome.Outcome.{Outcome}
use Rattle.decide.specs.Carried.{ends, Carried}

-- ---- one check

-- a refusal answers, and leaves the state
abbrev pub stays : State → rules.Refusal → Served
stays σ x = record { state = σ; answer = x.number ∷ x.report }

pub fails : (b : Bool) (σ : State) (x : rules.Refusal) (rest : Decision) → not b ≡ true → carried_out σ (need b else x then rest) ≡ stays σ x
unfolding carried_out
fails b σ x rest e = rw (not-true b e)

pub holds : (b : Bool) (σ : State) (x : rules.Refusal) (rest : Decision) → not b ≡ false → carried_out σ (need b else x then rest) ≡ carried_out σ rest
unfolding carried_out
holds b σ x rest e = rw (not-false b e)

-- ---- the parts after it

module _ {x : State → Decision} {hs : List Handle} {cs ts ds : List ℕ} where
  -- a refusal: nothing changes
  pub refuses : (e : Refusal) → ((σ : State) → valid σ ≡ true → PartsIn σ ts ds hs cs → carried_out σ (x σ) ≡ stays σ (refusal_of e))
      → Carried x ts ds hs cs ts ds cs (Err e)
  refuses e d = record {
    parts = λ σ v p. rw (d σ v p) p;
    answer = λ σ v p. rw (d σ v p);
    fit = λ σ v p. tt;
  }

  -- an effect that changes no handle
  pub ends_with : (a : Answer) {cs' ts' ds' : List ℕ}
      → ((σ : State) → valid σ ≡ true → PartsIn σ ts ds hs cs → Fit ts' ds' a)
      → ((σ : State) → valid σ ≡ true → PartsIn σ ts ds hs cs → PartsIn (carried_out σ (x σ)).state ts' ds' hs cs')
      → ((σ : State) → valid σ ≡ true → PartsIn σ ts ds hs cs → answer_of ts' ds' a ≡ (carried_out σ (x σ)).answer)
      → Carried x ts ds hs cs ts' ds' cs' (Ok (ends a))
  ends_with a g f d = record { parts = f; answer = d; fit = g }

-- a refusal that was found in a token's row
pub as_refused : {x : State → Decision} {hs : List Handle} {cs ts ds cs' ts' ds' : List ℕ} {e : Refusal} → Carried x ts ds hs cs ts' ds' cs' (Ok (ends (answers.Refused e)))
    → Carried x ts ds hs cs ts' ds' cs' (Err e)
as_refused c = record { parts = c.parts; answer = c.answer; fit = c.fit }

-- a used bit is set
pub used_parts : {n s : ℕ} {hs : List Handle} {cs ts ds ts' : List ℕ} (σ : State) → valid σ ≡ true → Used n s ts cs ts' → PartsIn σ ts ds hs cs
    → PartsIn (used n s σ) ts' ds hs cs
used_parts {n} {s} σ v u p =
    record { handles = used_handles p.handles n s; control = used_control p.control n s; tokens = u.tokens σ v p.tokens p.control }

-- a token is changed in its row
pub changed_parts : {n : ℕ} {f : Token → Token} {hs : List Handle} {cs ts ds ts' : List ℕ} (σ : State) → valid σ ≡ true → WordsChanged n f ts ts' → PartsIn σ ts ds hs cs
    → PartsIn (change_token n f σ) ts' ds hs cs
unfolding change_token put_token
changed_parts σ v c p = record { handles = with_tokens_lem p.handles _; control = with_slots_lem p.control _; tokens = c.tokens σ v p.tokens }

-- another decision that comes to the same
pub carried_as : {x y : State → Decision} {hs : List Handle} {cs ts ds cs' ts' ds' : List ℕ} {r : Result Outcome Refusal}
    → ((σ : State) → valid σ ≡ true → PartsIn σ ts ds hs cs → carried_out σ (x σ) ≡ carried_out σ (y σ))
    → Carried y ts ds hs cs ts' ds' cs' r → Carried x ts ds hs cs ts' ds' cs' r
carried_as e c = record {
  parts = λ σ v p. rw (e σ v p) (c.parts σ v p);
  answer = λ σ v p. rw (e σ v p) (c.answer σ v p);
  fit = c.fit;
}
