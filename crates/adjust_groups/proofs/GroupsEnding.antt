-- Request 6: what its entries come to in the token's row, and how it ends. Assumes nothing.
use Prim.Native.Nat.{ℕ, ◌+◌, ◌-◌, min}
use mathlib.Core.Path.{◌≡◌, refl, sym, ap, ap₂, ◌∙◌}
use mathlib.Core.Bool.{Bool, true, false, ◌||◌}
use mathlib.Core.List.{List, [], ◌∷◌, ◌++◌, map}
use lib.ListN.{length, take, drop, get_or, replicate, length-map, take-append-drop}
use Rattle.std.specs.Prelude.{Result, Ok, Err, if◌then◌else◌}
use Rattle.rules.specs.Basic.{all}
use Rattle.rules.specs.Number.{got, encode_all}
use Rattle.rules.specs.Entry.{Entry, valid_entries, apply_all}
use Rattle.rules.specs.Request.{times, entry}
use Rattle.rules.specs.Refusal.{bad_field, protected_group}
use Rattle.rules.specs.Mask as mask
use Rattle.rules.specs.Handle as handles
use Rattle.rules.specs.Group.{Group}
use Rattle.rules.specs.Token.{Token, max_groups, with_groups, next_modified}
use Rattle.rules.specs.Valid.{token_valid}
use Rattle.rules.specs.State.{State, put_token, change_token}
use Rattle.rules.specs.Head as Head
use Rattle.rules.specs.Memory.{head_words, low32, pack, token_row, token_at, identity_at}
use Rattle.rules.specs.AdjustGroups.{is_reset, valid_entry, unprotected, applied, reset_group, adjusted, enabled_bits, enabled_words, report_words, adjusted_token, adjust}
use Rattle.rules.specs.Decision.{Decision, carried_out, need◌else◌then◌, success}
use Rattle.rules.proofs.Logic.{length_change_at}
use Rattle.rules.proofs.Rows.{token_back}
use Rattle.handle.specs.declared.Handle.{Handle}
use Rattle.token.specs.Row.{identity_in, Becomes}
use Rattle.token.specs.declared.Identity.{Identity}
use Rattle.token.proofs.Changing.{group_words, put_group_words, few_groups, group_words_read, group_words_put}
use Rattle.state.specs.TokenCalls.{lent}
use Rattle.state.proofs.InPlace.{back}
use Rattle.answer.specs.declared.Answer.{Answer}
use Rattle.answer.specs.declared.Answer.TheVariants as answers
use Rattle.answer.specs.declared.refusal.Refusal.{Refusal}
use Rattle.answer.specs.declared.refusal.Refusal.TheVariants.{BadField, ProtectedGroup}
use Rattle.decide.specs.declared.located.Located.{Located}
use Rattle.decide.specs.Carried.{ends, Carried}
use Rattle.decide.specs.Located.{LocatedBy}
use Rattle.decide.specs.Ending.{Ending, refused, becomes, token_after, answered, served, RowEnds}
use Rattle.decide.proofs.Deciding.{as_refused}
use Rattle.decide.proofs.Locating.{locating_refuses}
use Rattle.decide.proofs.RowEnding.{Rule, row_ends}
use Rattle.adjust_groups.specs.GroupEntries.{groups_in, may_entry, is_good, is_free, pick, judged, GroupsSwitched, ending, RowSwitched}
use Rattle.decide.specs.EntriesCarried.{EntriesCarried}
use Rattle.adjust_groups.proofs.GroupReport.{report}

-- the result tells which
abbrev result : (b c : Bool) → ℕ → Result ℕ Refusal
result b c w = pick b c (Err BadField) (Err ProtectedGroup) (Ok w)

picked_ok : (b c : Bool) {v w : ℕ} → Ok v ≡ result b c w → v ≡ w
picked_ok true true h = cc
picked_ok true false h = cc
picked_ok false c h = cc

picked_none : (b c : Bool) (w : ℕ) {v : ℕ} → Ok v ≡ result b c w → {A : Type 0} (x y z : A) → pick b c x y z ≡ z
picked_none true true w h x y z = refl
picked_none true false w h x y z = cc
picked_none false c w h x y z = cc

picked_some : (b c : Bool) (w : ℕ) {r : Refusal} → Err r ≡ result b c w → {A : Type 0} (f : Refusal → A) (z : A) → pick b c (f BadField) (f ProtectedGroup) z ≡ f r
picked_some true true w h f z = cc
picked_some true false w h f z = cc
picked_some false c w h f z = cc

-- ---- the row

length_applied : (es : List Entry) (gs : List Group) → length (apply_all applied es gs) ≡ length gs
unfolding apply_all applied
length_applied [] gs = refl
length_applied (e ∷ es) gs = length_applied es (applied e gs) ∙ length_change_at gs e.key _

length_adjusted : (es : List Entry) (gs : List Group) → length (adjusted es gs) ≡ length gs
unfolding adjusted
length_adjusted es gs = by (is_reset es)
  where
    by : (b : Bool) → length (if b then map reset_group gs else apply_all applied es gs) ≡ length gs
    by true = length-map gs reset_group
    by false = length_applied es gs

-- i and n are the identity and the count of groups in the row, and gw the words of its groups, once they are switched
module _ {k n : ℕ} {bytes : List ℕ} (ws : List ℕ) {gw : List ℕ} {i : Identity} {r : Result ℕ Refusal} (ei : i ≡ identity_in ws) (en : n ≡ min (get_or ws Head.group_count 0) max_groups)
    (x : GroupsSwitched i.user k bytes (group_words n ws) gw r) where
  module _ (t : Token) (v : token_valid t ≡ true) (e : ws ≡ token_row t) (es : List Entry) (later : List ℕ) (q : times k entry bytes ≡ got es later) where
    told : {A : Type 0} (a b c : A) → judged i.user (groups_in (group_words n ws)) es a b c ≡ judged t.identity.user t.groups es a b c
    unfolding token_at identity_at
    told a b c =
        let user : i.user ≡ t.identity.user =
        ap (λ (y : Identity). y.user) ei ∙ ap (λ (l : List ℕ). low32 (get_or l Head.user 0)) e ∙ ap (λ (y : Token). y.identity.user) (token_back t v) in
        ap₂ (λ (u : ℕ) (gs : List Group). judged u gs es a b c) user (group_words_read t v e en)

    answer_is : r ≡ judged t.identity.user t.groups es (Err BadField) (Err ProtectedGroup) (Ok (enabled_bits t.groups))
    answer_is =
        x.answer es later q ∙ told _ _ _
        ∙ ap (λ (gs : List Group). judged t.identity.user t.groups es (Err BadField) (Err ProtectedGroup) (Ok (enabled_bits gs))) (group_words_read t v e en)

    words_are : gw ≡ judged t.identity.user t.groups es (group_words n ws) (group_words n ws) (map pack (adjusted es t.groups))
    words_are =
        x.words es later q ∙ told _ _ _
        ∙ ap (λ (gs : List Group). judged t.identity.user t.groups es (group_words n ws) (group_words n ws) (map pack (adjusted es gs))) (group_words_read t v e en)

    module _ {m : Refusal} (f : r ≡ Err m) where
      refused_with : {A : Type 0} (of : Refusal → A) (z : A) → judged t.identity.user t.groups es (of BadField) (of ProtectedGroup) z ≡ of m
      refused_with of z = picked_some (is_good t.groups es) (is_free t.identity.user t.groups es) (enabled_bits t.groups) (sym f ∙ answer_is) of z

      words_kept : put_group_words n gw ws ≡ token_row t
      words_kept =
          ap (λ (l : List ℕ). put_group_words n l ws) (words_are ∙ refused_with (λ m. group_words n ws) _)
          ∙ ap (λ (l : List ℕ). take head_words ws ++ l) (take-append-drop (head_words + n - head_words) (drop head_words ws)) ∙ take-append-drop head_words ws ∙ e

    module _ {p : ℕ} (z : r ≡ Ok p) where
      done_with : {A : Type 0} (a b c : A) → judged t.identity.user t.groups es a b c ≡ c
      done_with a b c = picked_none (is_good t.groups es) (is_free t.identity.user t.groups es) (enabled_bits t.groups) (sym z ∙ answer_is) a b c

      words_switched : put_group_words n gw ws ≡ token_row (with_groups (adjusted es t.groups) t)
      words_switched = group_words_put t v e en (adjusted es t.groups) (length_adjusted es t.groups) (words_are ∙ done_with _ _ _)

      reported : encode_all (p ∷ replicate 15 0) ≡ encode_all (enabled_words report_words t.groups)
      reported =
          let before = picked_ok (is_good t.groups es) (is_free t.identity.user t.groups es) (sym z ∙ answer_is) in
          ap encode_all (ap (λ (w : ℕ). w ∷ replicate 15 0) before ∙ sym (report t.groups (few_groups t v)))

  pub row_refused : {m : Refusal} → r ≡ Err m → RowSwitched k bytes ws (put_group_words n gw ws) (Err m)
  row_refused {m} f = record {
    ends = λ es later q. record {
      row = λ t v e. words_kept t v e es later q f ∙ ap (λ (z : Ending). token_row (token_after t z)) (sym (refused_with t v e es later q f refused _));
      answer = λ t v e ts ds. ap answered (sym (refused_with t v e es later q f refused _));
      fit = λ ts ds. tt;
    };
  }

  pub row_switched : {p : ℕ} → r ≡ Ok p → {ws' : List ℕ} → Becomes next_modified (put_group_words n gw ws) ws' → RowSwitched k bytes ws ws' (Ok (answers.Report p))
  unfolding adjusted_token
  row_switched {p} z m = record {
    ends = λ es later q. record {
      row = λ t v e. m.row _ (words_switched t v e es later q z) ∙ ap (λ (y : Ending). token_row (token_after t y)) (sym (done_with t v e es later q z _ _ _));
      answer = λ t v e ts ds. ap (λ (l : List ℕ). 0 ∷ l) (reported t v e es later q z) ∙ ap answered (sym (done_with t v e es later q z _ _ _));
      fit = λ ts ds. tt;
    };
  }

-- ---- the request

-- the rule, once the handle is found
abbrev rest : List Entry → State → handles.Handle → Token → Decision
rest es σ h t =
    need is_reset es || valid_entries (valid_entry t.groups) es else bad_field then
    need is_reset es || all (unprotected t) es else protected_group then
    success (change_token h.token (adjusted_token es) σ) (encode_all (enabled_words report_words t.groups))

ended_if : (b c : Bool) (σ : State) (u : Token) (w : List ℕ)
    → carried_out σ (need b else bad_field then need c else protected_group then success (put_token u σ) w) ≡ served σ (pick b c (refused BadField) (refused ProtectedGroup) (becomes u w))
unfolding carried_out
ended_if true true σ u w = refl
ended_if true false σ u w = refl
ended_if false c σ u w = refl

rule : (es : List Entry) → Rule (rest es) (ending es)
unfolding change_token unprotected may_entry
rule es σ h = ended_if _ _ σ _ _

-- it leaves the number and the DACL
kept : {A : Type 0} (f : Token → A) (es : List Entry) (t : Token) → f (adjusted_token es t) ≡ f t → f (token_after t (ending es t)) ≡ f t
kept f es t e = by (is_good t.groups es) (is_free t.identity.user t.groups es)
  where
    by : (b c : Bool) → f (token_after t (pick b c (refused BadField) (refused ProtectedGroup) (becomes (adjusted_token es t) (encode_all (enabled_words report_words t.groups))))) ≡ f t
    by true true = e
    by true false = refl
    by false c = refl

module _ {s n : ℕ} {hs : List Handle} (body : List ℕ) (at count : ℕ) {cs ts ds : List ℕ} where
  pub no_handle_lem : {e : Refusal} → LocatedBy s n mask.adjust_groups hs ts (Err e) → EntriesCarried adjust s n body at count ts ds hs cs ts ds cs (Err e)
  unfolding adjust
  no_handle_lem g = record { carried = λ es later h. locating_refuses g (rest es) }

  module _ {y : Located} (g : LocatedBy s n mask.adjust_groups hs ts (Ok y)) where
    carries : {ws : List ℕ} {a : Answer} (es : List Entry) → RowEnds (ending es) (lent y.slot ts) ws a → Carried (λ σ. adjust σ s n es) ts ds hs cs (back y.slot ws ts) ds cs (Ok (ends a))
    unfolding adjust adjusted_token with_groups next_modified
    carries es x = row_ends g (rest es) (ending es) (rule es) (λ t. kept (λ (u : Token). u.number) es t refl) (λ t. kept (λ (u : Token). u.defaults.dacl) es t refl) x

    pub row_adjusted : {ws : List ℕ} {a : Answer} → RowSwitched count (drop at body) (lent y.slot ts) ws (Ok a) → EntriesCarried adjust s n body at count ts ds hs cs (back y.slot ws ts) ds cs (Ok (ends a))
    row_adjusted x = record { carried = λ es later h. carries es (x.ends es later h) }

    pub row_not_adjusted : {ws : List ℕ} {r : Refusal} → RowSwitched count (drop at body) (lent y.slot ts) ws (Err r) → EntriesCarried adjust s n body at count ts ds hs cs (back y.slot ws ts) ds cs (Err r)
    row_not_adjusted x = record { carried = λ es later h. as_refused (carries es (x.ends es later h)) }
