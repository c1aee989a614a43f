-- Request 9: the copy, the test, and how it ends. Assumes nothing.
use Prim.Native.Nat.{ℕ, ◌+◌, ◌*◌, ◌<◌}
use native.Mathlib.Omega.{arith}
use mathlib.Core.Path.{◌≡◌, refl, sym, ap, ◌∙◌}
use mathlib.Core.Bool.{Bool, true, false, not, ◌&&◌, ◌||◌}
use mathlib.Core.List.{List}
use lib.Dec.{eqb, leb}
use lib.ListN.{length, get_or, set, replicate, length-set}
use borrow.Author.Tests.{eq-eqb, ne_eqb}
use Rattle.std.specs.Prelude.{Ok, Err}
use Rattle.table.specs.Lists.{pad}
use Rattle.table.specs.Table.{record_element}
use Rattle.rules.specs.Bits.{within}
use Rattle.rules.specs.Mask as Mask
use Rattle.rules.specs.Privileges.{only_used}
use Rattle.rules.specs.Refusal.{bad_field, table_full}
use Rattle.rules.specs.Token as rules
use Rattle.rules.specs.Token.{max_dacl, new_token, no_limits, no_defaults}
use Rattle.rules.specs.Handle as rules-handle
use Rattle.rules.specs.State as state
use Rattle.rules.specs.State.{State, token_slots}
use Rattle.rules.specs.Valid.{valid}
use Rattle.rules.specs.Head as Head
use Rattle.rules.specs.Memory.{token_words, token_counter, mark, head, token_row, dacl_row}
use Rattle.rules.specs.Decision.{Decision, carried_out, need◌else◌then◌, can_issue, issued}
use Rattle.rules.specs.Duplicate.{retyped, copied, nobody, anonymous_copy, duplicated, valid_level, valid_duplicate, duplicate}
use Rattle.rules.proofs.Logic.{and_l, and_r}
use Rattle.handle.specs.declared.Handle.{Handle}
use Rattle.handle.specs.Meaning.{handle_of}
use Rattle.token.specs.declared.Identity.{Identity}
use Rattle.control.specs.Counters.{NextGiven}
use Rattle.state.specs.TokenCalls.{IdentityAt}
use Rattle.state.specs.ReleaseFacts.{PartsIn}
use Rattle.answer.specs.declared.refusal.Refusal.{Refusal}
use Rattle.answer.specs.declared.refusal.Refusal.TheVariants as refusals
use Rattle.decide.specs.declared.located.Located.{Located}
use Rattle.decide.specs.declared.outcome.Outcome.{Outcome}
use Rattle.decide.specs.Carried.{Carried}
use Rattle.decide.specs.Issue.{IssueRoom, RowIssued}
use Rattle.decide.proofs.Deciding.{fails, holds, refuses, carried_as}
use Rattle.decide.proofs.LookupLaws.{mask_narrow}
use Rattle.decide.specs.Located.{LocatedBy}
use Rattle.decide.proofs.Locating.{locating_refuses}
use Rattle.decide.proofs.Issuing.{room_refuses}
use Rattle.copy.specs.Copies.{RowCopied, Remade, CopyIssued}
use Rattle.copy.specs.Duplicate.{DuplicateJudged, copied_as, duplicated_as}
use Rattle.copy.proofs.Copies.{issues_made, on_located}

-- ---- the copy

pub relabelled : (n type level : ℕ) {ws : List ℕ} → length ws ≡ token_words → Remade (copied n type level) ws (set (set (set (set (set ws Head.number n) Head.modified n) Head.type type) Head.level level) Head.elevation 1)
unfolding copied retyped token_row head
relabelled n type level l = record {
  made = record { row = λ t e. ap (λ (l : List ℕ). set (set (set (set (set l Head.number n) Head.modified n) Head.type type) Head.level level) Head.elevation 1) e };
  long = simp length-set l;
}

abbrev anonymous_row : ℕ → ℕ → List ℕ
anonymous_row n used = set (set (set (set (set (set (replicate token_words 0) Head.number n) Head.modified n) Head.user 7) Head.type 2) Head.elevation 1) Head.used used

module _ {n i s mask : ℕ} {hs : List Handle} {cs ts ds cs' ts' ds' : List ℕ} {r : Outcome} (k : NextGiven token_counter cs n) where
  pub issues_copy : (type level : ℕ) {ws ws' bs : List ℕ} → RowCopied token_words i ts ws → Remade (copied n type level) ws ws' → RowCopied max_dacl i ds bs
      → RowIssued s mask ws' bs ts ds hs cs ts' ds' cs' r → CopyIssued (copied_as type level) i s mask ts ds hs cs ts' ds' cs' r
  unfolding copied_as copied dacl_row
  issues_copy type level w c b e = issues_made (copied_as type level) w.inside k (λ t v q. c.made.row t (w.row ∙ q)) (λ t q. b.row ∙ q) e

  pub issues_anonymous : i < token_slots → {used : ℕ} → used ≡ get_or ts (i * token_words + Head.used) 0
      → RowIssued s mask (anonymous_row n used) (replicate max_dacl 0) ts ds hs cs ts' ds' cs' r → CopyIssued anonymous_copy i s mask ts ds hs cs ts' ds' cs' r
  unfolding anonymous_copy new_token no_limits no_defaults only_used nobody token_row head dacl_row mark pad
  issues_anonymous l eu e = issues_made anonymous_copy l k
      (λ t v q. ap (anonymous_row n) (eu ∙ record_element token_words i Head.used ts 0 (omega arith) ∙ ap (λ (w : List ℕ). get_or w Head.used 0) q)) (λ t q. refl) e

module _ (kind level : ℕ) {i s mask : ℕ} {hs : List Handle} {cs ts ds cs' ts' ds' : List ℕ} {r : Outcome} where
  same_copy : (f : ℕ → rules.Token → rules.Token) → ((m : ℕ) (t : rules.Token) → duplicated_as kind level m t ≡ f m t)
      → CopyIssued f i s mask ts ds hs cs ts' ds' cs' r → CopyIssued (duplicated_as kind level) i s mask ts ds hs cs ts' ds' cs' r
  same_copy f e c = record { carried = λ n at. carried_as (λ σ v p. ap (λ (t : rules.Token). carried_out σ (issued s mask t σ)) (e σ.tokens.next (state.token_of σ n))) (c.carried n at) }

  pub to_primary : kind ≡ 1 → CopyIssued (copied_as 1 0) i s mask ts ds hs cs ts' ds' cs' r → CopyIssued (duplicated_as kind level) i s mask ts ds hs cs ts' ds' cs' r
  unfolding copied_as duplicated_as duplicated
  to_primary k c = same_copy (copied_as 1 0) (λ m t. rw (eq-eqb kind 1 k)) c

  module _ (k : kind ≡ 1 → ⊥) where
    pub to_anonymous : level ≡ 0 → CopyIssued anonymous_copy i s mask ts ds hs cs ts' ds' cs' r → CopyIssued (duplicated_as kind level) i s mask ts ds hs cs ts' ds' cs' r
    unfolding copied_as duplicated_as duplicated
    to_anonymous l c = same_copy anonymous_copy (λ m t. rw (ne_eqb kind 1 k, eq-eqb level 0 l)) c

    pub to_impersonation : (level ≡ 0 → ⊥) → CopyIssued (copied_as 2 level) i s mask ts ds hs cs ts' ds' cs' r → CopyIssued (duplicated_as kind level) i s mask ts ds hs cs ts' ds' cs' r
    unfolding copied_as duplicated_as duplicated
    to_impersonation l c = same_copy (copied_as 2 level) (λ m t. rw (ne_eqb kind 1 k, ne_eqb level 0 l)) c

-- ---- the test

pub judges : (held : ℕ) (i : Identity) (type level mask : ℕ) {v w : Bool} → v ≡ Mask.valid_mask mask → w ≡ within mask held
    → DuplicateJudged held i type level mask ((eqb type 1 || eqb type 2) && leb level 3 && (not (eqb i.kind 2 && eqb type 2) || leb level i.level) && v && w)
unfolding valid_duplicate valid_level
judges held i type level mask {v} {w} ev ew = record {
  narrow = λ t. mask_narrow mask ev (and_r others v (and_l (others && v) w t));
  judged = λ h t m e. by h t m (ap (λ (x : rules.Identity). x.type) e) (ap (λ (x : rules.Identity). x.level) e);
}
  where
    others : Bool
    others = (eqb type 1 || eqb type 2) && leb level 3 && (not (eqb i.kind 2 && eqb type 2) || leb level i.level)

    by : (h : rules-handle.Handle) (t : rules.Token) → held ≡ h.mask → i.kind ≡ t.identity.type → i.level ≡ t.identity.level
        → (others && v && w) ≡ valid_duplicate h t type level mask
    by h t m k l = cc

-- ---- how it ends

abbrev go : (kind level mask s : ℕ) → State → rules-handle.Handle → rules.Token → Decision
go kind level mask s σ h t =
    need valid_duplicate h t kind level mask else bad_field then
    need can_issue σ else table_full then
    issued s mask (duplicated σ.tokens.next kind level t) σ

module _ (kind level mask : ℕ) {s n : ℕ} {hs : List Handle} {ts : List ℕ} where
  pub duplicate_unknown : {e : Refusal} → LocatedBy s n Mask.duplicate hs ts (Err e) → {cs ds : List ℕ} → Carried (λ σ. duplicate σ s n kind level mask) ts ds hs cs ts ds cs (Err e)
  unfolding duplicate
  duplicate_unknown g = locating_refuses g (go kind level mask s)

  module _ {x : Located} (g : LocatedBy s n Mask.duplicate hs ts (Ok x)) (who : Identity) (is : IdentityAt x.slot ts who) {ok : Bool} (q : DuplicateJudged x.handle.mask who kind level mask ok) where
    abbrev rest : State → Decision
    rest σ = go kind level mask s σ (handle_of x.handle) (state.token_of σ x.handle.token)

    -- the test, in the state
    judged : {cs ds : List ℕ} (σ : State) → valid σ ≡ true → PartsIn σ ts ds hs cs → ok ≡ valid_duplicate (handle_of x.handle) (state.token_of σ x.handle.token) kind level mask
    judged σ v p = q.judged (handle_of x.handle) (state.token_of σ x.handle.token) refl ((is.given x.handle.token g.there.slot).identity σ v p.tokens)

    pub duplicate_bad : not ok ≡ true → {cs ds : List ℕ} → Carried (λ σ. duplicate σ s n kind level mask) ts ds hs cs ts ds cs (Err refusals.BadField)
    unfolding duplicate
    duplicate_bad f = on_located g (go kind level mask s) (refuses {x = rest} refusals.BadField
        (λ σ v p. fails (valid_duplicate (handle_of x.handle) (state.token_of σ x.handle.token) kind level mask) σ bad_field _ (ap not (sym (judged σ v p)) ∙ f)))

    module _ (t : not ok ≡ false) {room : Bool} {cs : List ℕ} (i : IssueRoom ts hs cs room) where
      pub duplicate_full : not room ≡ true → {ds : List ℕ} → Carried (λ σ. duplicate σ s n kind level mask) ts ds hs cs ts ds cs (Err refusals.TableFull)
      unfolding duplicate
      duplicate_full f = on_located g (go kind level mask s) (carried_as (λ σ v p.
          holds (valid_duplicate (handle_of x.handle) (state.token_of σ x.handle.token) kind level mask) σ bad_field _ (ap not (sym (judged σ v p)) ∙ t))
          (room_refuses i (λ σ. issued s mask (duplicated σ.tokens.next kind level (state.token_of σ x.handle.token)) σ) f))

      pub duplicates : {ds cs' ts' ds' : List ℕ} {r : Outcome} → not room ≡ false → CopyIssued (duplicated_as kind level) x.slot s mask ts ds hs cs ts' ds' cs' r
          → Carried (λ σ. duplicate σ s n kind level mask) ts ds hs cs ts' ds' cs' (Ok r)
      unfolding duplicate duplicated_as
      duplicates f c = on_located g (go kind level mask s) (carried_as (λ σ v p.
          holds (valid_duplicate (handle_of x.handle) (state.token_of σ x.handle.token) kind level mask) σ bad_field _ (ap not (sym (judged σ v p)) ∙ t)
          ∙ holds (can_issue σ) σ table_full _ (ap not (sym (i.room σ v p)) ∙ f)) (c.carried x.handle.token g.there.slot))
