-- Request 5: how it ends. Assumes nothing.
use Prim.Native.Nat.{ℕ}
use mathlib.Core.Path.{◌≡◌, refl, sym, ap, subst, ◌∙◌}
use mathlib.Core.Bool.{Bool, true, false, ◌||◌}
use mathlib.Core.List.{List, [], ◌∷◌}
use lib.ListN.{drop}
use Rattle.std.specs.Prelude.{Option, Some, None, Ok, Err, if◌then◌else◌}
use Rattle.rules.specs.Number.{Read, got, encode_all}
use Rattle.rules.specs.Entry.{Entry, valid_entries}
use Rattle.rules.specs.Request.{times, entry}
use Rattle.rules.specs.Refusal.{bad_field}
use Rattle.rules.specs.Mask as mask
use Rattle.rules.specs.Privileges.{Privileges}
use Rattle.rules.specs.Token as tokens
use Rattle.rules.specs.Token.{with_privileges, next_modified}
use Rattle.rules.specs.State as state
use Rattle.rules.specs.State.{State, change_token, put_token}
use Rattle.rules.specs.Handle as handles
use Rattle.rules.specs.Memory.{token_row}
use Rattle.rules.specs.AdjustPrivileges.{is_reset, valid_entry, report, adjusted_token, adjust}
use Rattle.rules.specs.Decision.{Decision, carried_out, need◌else◌then◌, success}
use Rattle.privilege.specs.Meaning.{privileges_of}
use Rattle.privilege.specs.declared.privileges.Privileges as Code
use Rattle.handle.specs.declared.Handle.{Handle}
use Rattle.token.specs.Row.{privileges_in, Becomes}
use Rattle.state.specs.TokenCalls.{lent}
use Rattle.state.proofs.InPlace.{back}
use Rattle.state.proofs.TokenScalars.{privileges_in_row}
use Rattle.answer.specs.declared.Answer.{Answer}
use Rattle.answer.specs.declared.Answer.TheVariants as answers
use Rattle.answer.specs.declared.refusal.Refusal.{Refusal}
use Rattle.answer.specs.declared.refusal.Refusal.TheVariants as refusal
use Rattle.decide.specs.declared.located.Located.{Located}
use Rattle.decide.specs.Carried.{ends}
use Rattle.decide.specs.Located.{LocatedBy}
use Rattle.decide.specs.Ending.{token_after, served, RowEnds}
use Rattle.decide.specs.EntriesCarried.{EntriesCarried}
use Rattle.decide.proofs.Deciding.{as_refused}
use Rattle.decide.proofs.Locating.{locating_refuses}
use Rattle.decide.proofs.RowEnding.{Rule, row_ends}
use Rattle.adjust_privileges.specs.declared.privilege_entries.Adjusted.{Adjusted}
use Rattle.adjust_privileges.specs.PrivilegeEntries.{Outcome, done, refused, judged, outcome_of, ending_of, privileges_ending}

-- ---- in the row

module _ (es : Read (List Entry)) {ws : List ℕ} {p : Code.Privileges} (g : p ≡ privileges_in ws) where
  -- what the entries come to for the token of the row
  ending : (o : Option Adjusted) → outcome_of o ≡ judged (privileges_of p) es → (t : tokens.Token) → ws ≡ token_row t → privileges_ending es t ≡ ending_of t (outcome_of o)
  ending o j t e = ap (λ (q : Privileges). ending_of t (judged q es)) (sym (ap privileges_of g ∙ privileges_in_row ws t e)) ∙ ap (ending_of t) (sym j)

  pub bad_entry : outcome_of None ≡ judged (privileges_of p) es → RowEnds (privileges_ending es) ws ws (answers.Refused refusal.BadField)
  bad_entry j = record {
    row = λ t v e. e ∙ ap token_row (sym (ap (token_after t) (ending None j t e)));
    answer = λ t v e ts ds. rw (ending None j t e);
    fit = λ ts ds. tt;
  }

  pub adjusts : (a : Adjusted) → outcome_of (Some a) ≡ judged (privileges_of p) es → {ws₁ ws₂ : List ℕ}
      → Becomes (with_privileges (privileges_of a.privileges)) ws ws₁ → Becomes next_modified ws₁ ws₂
      → RowEnds (privileges_ending es) ws ws₂ (answers.Values a.was_present a.was_enabled)
  adjusts a j b c = record {
    row = λ t v e. c.row (with_privileges (privileges_of a.privileges) t) (b.row t e) ∙ ap token_row (sym (ap (token_after t) (ending (Some a) j t e)));
    answer = λ t v e ts ds. rw (ending (Some a) j t e);
    fit = λ ts ds. tt;
  }

-- ---- the request

-- the rule, once the handle is found
abbrev rest : List Entry → State → handles.Handle → tokens.Token → Decision
rest es σ h t =
    need is_reset es || valid_entries (valid_entry t.privileges) es else bad_field then
    success (change_token h.token (adjusted_token es) σ) (report es t.privileges)

ended_if : (b : Bool) (σ : State) (t : tokens.Token) (p : Privileges) (w v : ℕ)
    → carried_out σ (need b else bad_field then success (put_token (next_modified (with_privileges p t)) σ) (encode_all (w ∷ v ∷ []))) ≡ served σ (ending_of t (if b then done p w v else refused))
unfolding carried_out
ended_if true σ t p w v = refl
ended_if false σ t p w v = refl

rule : (es : List Entry) (later : List ℕ) → Rule (rest es) (privileges_ending (got es later))
unfolding change_token adjusted_token report judged
rule es later σ h = ended_if _ σ (state.token_of σ h.token) _ _ _

same_number : (t : tokens.Token) (z : Outcome) → (token_after t (ending_of t z)).number ≡ t.number
unfolding next_modified with_privileges
same_number t (done p w v) = refl
same_number t refused = refl

same_dacl : (t : tokens.Token) (z : Outcome) → (token_after t (ending_of t z)).defaults.dacl ≡ t.defaults.dacl
unfolding next_modified with_privileges
same_dacl t (done p w v) = refl
same_dacl t refused = refl

module _ {s n : ℕ} {hs : List Handle} (body : List ℕ) (at count : ℕ) {cs ts ds : List ℕ} where
  pub no_handle_lem : {e : Refusal} → LocatedBy s n mask.adjust_privileges hs ts (Err e) → EntriesCarried adjust s n body at count ts ds hs cs ts ds cs (Err e)
  unfolding adjust
  no_handle_lem g = record { carried = λ es later h. locating_refuses g (rest es) }

  module _ {x : Located} (g : LocatedBy s n mask.adjust_privileges hs ts (Ok x)) where
    pub row_adjusted : {ws : List ℕ} {a : Answer} → RowEnds (privileges_ending (times count entry (drop at body))) (lent x.slot ts) ws a
        → EntriesCarried adjust s n body at count ts ds hs cs (back x.slot ws ts) ds cs (Ok (ends a))
    unfolding adjust
    row_adjusted {ws} {a} e = record {
      carried = λ es later h. row_ends g (rest es) (privileges_ending (got es later)) (rule es later)
          (λ t. same_number t (judged t.privileges (got es later))) (λ t. same_dacl t (judged t.privileges (got es later)))
          (subst (λ (l : Read (List Entry)). RowEnds (privileges_ending l) (lent x.slot ts) ws a) h e);
    }

    pub row_refused : {ws : List ℕ} {r : Refusal} → RowEnds (privileges_ending (times count entry (drop at body))) (lent x.slot ts) ws (answers.Refused r)
        → EntriesCarried adjust s n body at count ts ds hs cs (back x.slot ws ts) ds cs (Err r)
    row_refused e = record { carried = λ es later h. as_refused ((row_adjusted e).carried es later h) }
