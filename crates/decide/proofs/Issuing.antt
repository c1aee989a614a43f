-- A new token and a handle on it: the parts after both, and the request that ends so. Assumes nothing.
use Prim.Native.Nat.{ℕ}
use mathlib.Core.Path.{◌≡◌, sym, ap, ap₂, ◌∙◌}
use mathlib.Core.Bool.{Bool, true, false, not, ◌&&◌}
use mathlib.Core.List.{List}
use borrow.Author.Tests.{not-false}
use Rattle.std.specs.Prelude.{Err}
use Rattle.rules.specs.Refusal.{table_full}
use Rattle.rules.specs.State.{State}
use Rattle.rules.specs.Decision.{Decision, need◌else◌then◌, can_issue}
use Rattle.rules.proofs.Logic.{and_l, and_r}
use Rattle.handle.specs.declared.Handle.{Handle}
use Rattle.state.specs.HandleFacts.{HandleRoom}
use Rattle.state.specs.TokenCalls.{CanAdd}
use Rattle.answer.specs.declared.refusal.Refusal.TheVariants as refusal
use Rattle.decide.specs.Carried.{Carried}
use Rattle.decide.specs.Issue.{NumbersLeft, IssueRoom}
use Rattle.decide.proofs.Deciding.{fails, refuses}

pub issue_room : {hs : List Handle} {ts cs : List ℕ} {a b : Bool} → HandleRoom hs cs a → CanAdd ts cs b → IssueRoom ts hs cs (a && b)
unfolding can_issue
issue_room {a = a} {b = b} h t = record {
  room = λ σ v p. ap₂ ◌&&◌ (h.room σ v p.handles p.control) (t.can_add σ v p.tokens p.control);
  left = λ e. record { token = t.below (and_r a b e); handle = h.next (and_l a b e) };
}

pub numbers_left : {hs : List Handle} {ts cs : List ℕ} {r : Bool} → IssueRoom ts hs cs r → not r ≡ false → NumbersLeft cs
numbers_left {r = r} i f = i.left (not-false r f)

pub room_refuses : {hs : List Handle} {cs ts ds : List ℕ} {b : Bool} → IssueRoom ts hs cs b → (rest : State → Decision) → not b ≡ true
    → Carried (λ σ. need can_issue σ else table_full then rest σ) ts ds hs cs ts ds cs (Err refusal.TableFull)
room_refuses i rest f = refuses refusal.TableFull (λ σ v p. fails (can_issue σ) σ table_full (rest σ) (ap not (sym (i.room σ v p)) ∙ f))
