-- Request 8's fields: the judgement by the words of the row, and the changes. Assumes nothing.
use Prim.Native.Nat.{ℕ, zero, suc, ◌+◌, ◌-◌, ◌≤◌, ◌<◌, min}
use native.Mathlib.Numerals.{sub-one}
use native.Mathlib.Omega.{arith}
use mathlib.Core.Path.{◌≡◌, refl, sym, ap, ◌∙◌}
use mathlib.Core.Bool.{Bool, true, false, not, ◌&&◌, ◌||◌}
use mathlib.Core.Logic.{⊎_elim}
use mathlib.Core.List.{List, [], map}
use lib.Dec.{eqb, leb}
use lib.ListN.{length, take, drop, get_or, set, get_or-map}
use lib.Seq.{get_or-take, get_or-drop}
use borrow.Author.Tests.{eqb-true, eq-eqb, ne_eqb, leb-true, lt-ltb, le-ltb, not-true, not-false}
use Rattle.std.specs.Prelude.{Ok, Err, if◌then◌else◌}
use Rattle.rules.specs.Group.{Group, no_group, is_owner}
use Rattle.rules.specs.Token.{Token, max_groups, max_dacl, with_defaults, next_modified}
use Rattle.rules.specs.Valid.{groups_valid, token_valid}
use Rattle.rules.specs.Head as Head
use Rattle.rules.specs.Memory.{head_words, unpack, head, token_row, dacl_row, groups_at, token_at}
use Rattle.rules.specs.AdjustDefaults.{no_change, valid_owner, valid_group, valid_dacl, valid_defaults, or_kept, adjusted, adjusted_token}
use Rattle.rules.proofs.Logic.{and_l, and_r, or_e}
use Rattle.rules.proofs.Facts.{token_facts}
use Rattle.rules.proofs.Rows.{token_back}
use Rattle.token.specs.Row.{Becomes}
use Rattle.answer.specs.declared.refusal.Refusal.TheVariants as refusal
use Rattle.decide.specs.Ending.{Ending, refused, becomes, token_after, answered}
use Rattle.state.proofs.TokenScalars.{empty_size}
use Rattle.adjust_defaults.specs.DefaultDacl.{DaclWritten}
use Rattle.adjust_defaults.specs.Defaults.{OwnerJudged, DefaultsJudged, with_indexes, DefaultsSet, defaults_ending, FieldsEnd}

-- ---- a row's groups

module _ (t : Token) where
  count_in_row : {ws : List ℕ} → ws ≡ token_row t → get_or ws Head.group_count 0 ≡ length t.groups
  unfolding token_row head
  count_in_row e = ap (λ (l : List ℕ). get_or l Head.group_count 0) e

  few_groups : token_valid t ≡ true → length t.groups ≤ max_groups
  unfolding groups_valid
  few_groups v = leb-true (length t.groups) max_groups (and_l _ _ (token_facts t v).groups)

  group_in_row : token_valid t ≡ true → {ws : List ℕ} → ws ≡ token_row t → (k : ℕ) → k < length t.groups → get_or t.groups k no_group ≡ unpack (get_or ws (head_words + k) 0)
  unfolding token_at groups_at unpack no_group
  group_in_row v {ws} e k h =
      let c = count_in_row e in
      let few = few_groups v in
      let row = take max_groups (drop head_words ws) in
      ap (λ (x : Token). get_or x.groups k no_group) (sym (token_back t v))
      ∙ ap (λ (l : List ℕ). get_or (map unpack (take (get_or l Head.group_count 0) (take max_groups (drop head_words l)))) k no_group) (sym e)
      ∙ get_or-map unpack (take (get_or ws Head.group_count 0) row) k 0
      ∙ ap unpack (get_or-take (get_or ws Head.group_count 0) row k 0 (omega arith) ∙ get_or-take max_groups (drop head_words ws) k 0 (omega arith) ∙ get_or-drop head_words ws k 0)

-- ---- an owner index

pub owner_user : (ws : List ℕ) (i : ℕ) → i ≡ 0 → OwnerJudged i ws true
unfolding valid_owner
owner_user ws zero h = record { judged = λ t v e. refl }
owner_user ws (suc k) h = absurd (omega arith)

past : (gs : List Group) (i : ℕ) → (i ≡ 0 → ⊥) → length gs ≤ i - 1 → false ≡ valid_owner gs i
unfolding valid_owner
past gs zero h l = absurd (h refl)
past gs (suc k) h l = rw (le-ltb k (length gs) (omega arith))

-- the count is cut to what a row holds
module _ (ws : List ℕ) (i : ℕ) (h : i ≡ 0 → ⊥) where
  pub owner_past : min (get_or ws Head.group_count 0) max_groups ≤ i - 1 → OwnerJudged i ws false
  owner_past l = record { judged = λ t v e. past t.groups i h (omega (arith, count_in_row t e, few_groups t v)) }

  pub owner_group : (b : Bool) → i - 1 < min (get_or ws Head.group_count 0) max_groups → b ≡ is_owner (unpack (get_or ws (head_words + (i - 1)) 0)) → OwnerJudged i ws b
  unfolding valid_owner
  owner_group b l e = record { judged = λ t v q. by t v q i h (omega arith) e }
    where
      by : (t : Token) → token_valid t ≡ true → ws ≡ token_row t → (i : ℕ) → (i ≡ 0 → ⊥) → i - 1 < get_or ws Head.group_count 0 → b ≡ is_owner (unpack (get_or ws (head_words + (i - 1)) 0)) → b ≡ valid_owner t.groups i
      by t v q zero h l e = absurd (h refl)
      by t v q (suc k) h l e =
          let c = count_in_row t q in
          e ∙ ap (λ (j : ℕ). is_owner (unpack (get_or ws (head_words + j) 0))) (sub-one (suc k))
          ∙ ap is_owner (sym (group_in_row t v q k (omega arith)))
          ∙ rw (lt-ltb k (length t.groups) (omega arith))

pub ruleset owners = (owner_user, owner_past, owner_group)

-- ---- all fields

module _ (ws : List ℕ) (owner group flag size : ℕ) where
  pub judges : (o : Bool) → OwnerJudged owner ws o
      → DefaultsJudged owner group flag size ws
      ((eqb owner no_change || o) && (eqb group no_change || leb group (get_or ws Head.group_count 0)) && (eqb flag 0 && eqb size 0 || eqb flag 1 && leb size max_dacl))
  unfolding valid_defaults valid_group valid_dacl
  judges o j = record {
    judged = λ t v e bytes l. rw (j.judged t v e, count_in_row t e, sym l, empty_size bytes);
    fits = λ h.
        let none = eqb flag 0 && eqb size 0 in
        let some = eqb flag 1 && leb size max_dacl in
        ⊎_elim (λ z. omega (arith, eqb-true size 0 (and_r (eqb flag 0) (eqb size 0) z))) (λ z. leb-true size max_dacl (and_r (eqb flag 1) (leb size max_dacl) z))
        (or_e none some (and_r ((eqb owner no_change || o) && (eqb group no_change || leb group (get_or ws Head.group_count 0))) (none || some) h));
  }

  pub dacl_fits : {r : Bool} → DefaultsJudged owner group flag size ws r → not r ≡ false → size ≤ max_dacl
  dacl_fits {r} j h = j.fits (not-false r h)

-- ---- the changes

pub indexes_set : (owner group : ℕ) {ws : List ℕ} {o g : ℕ} → o ≡ or_kept owner (get_or ws Head.owner 0) → g ≡ or_kept group (get_or (set ws Head.owner o) Head.primary_group 0)
    → Becomes (with_indexes owner group) ws (set (set ws Head.owner o) Head.primary_group g)
unfolding token_row head with_defaults
indexes_set owner group {ws} {o} {g} a b = record {
  row = λ t e.
      ap (set (set ws Head.owner o) Head.primary_group) b
      ∙ ap (λ (n : ℕ). set (set ws Head.owner n) Head.primary_group (or_kept group (get_or (set ws Head.owner n) Head.primary_group 0))) a
      ∙ ap (λ (l : List ℕ). set (set l Head.owner (or_kept owner (get_or l Head.owner 0))) Head.primary_group (or_kept group (get_or (set l Head.owner (or_kept owner (get_or l Head.owner 0))) Head.primary_group 0))) e;
}

module _ (owner group flag : ℕ) {ws ws₁ ws₂ bs : List ℕ} (a : Becomes (with_indexes owner group) ws ws₁) (b : Becomes next_modified ws₁ ws₂) where
  pub dacl_kept : (bytes : List ℕ) → (flag ≡ 1 → ⊥) → DefaultsSet owner group flag bytes ws bs ws₂ bs
  unfolding adjusted_token adjusted with_defaults next_modified dacl_row
  dacl_kept bytes h = record {
    row = record { row = λ t e. rw (ne_eqb flag 1 h) (b.row (with_indexes owner group t) (a.row t e)) };
    dacl = λ t e. rw (ne_eqb flag 1 h) e;
  }

  pub dacl_set : {bytes ws₃ bs' : List ℕ} → flag ≡ 1 → DaclWritten bytes ws₂ ws₃ bs' → DefaultsSet owner group flag bytes ws bs ws₃ bs'
  unfolding adjusted_token adjusted with_defaults next_modified dacl_row
  dacl_set h d = record {
    row = record { row = λ t e. rw (eq-eqb flag 1 h) (d.row.row (next_modified (with_indexes owner group t)) (b.row (with_indexes owner group t) (a.row t e))) };
    dacl = λ t e. rw (eq-eqb flag 1 h) (d.dacl t);
  }

-- ---- both

module _ (owner group flag size : ℕ) (bytes : List ℕ) (l : length bytes ≡ size) (bs : List ℕ) {ws : List ℕ} {b : Bool} (j : DefaultsJudged owner group flag size ws b) where
  ending : {k : Bool} → b ≡ k → (t : Token) → token_valid t ≡ true → ws ≡ token_row t
      → (if k then becomes (adjusted_token owner group flag bytes t) [] else refused refusal.BadField) ≡ defaults_ending owner group flag bytes t
  ending q t v e = ap (λ (k : Bool). if k then becomes (adjusted_token owner group flag bytes t) [] else refused refusal.BadField) (sym q ∙ j.judged t v e bytes l)

  pub made_none : not b ≡ true → FieldsEnd (defaults_ending owner group flag bytes) ws bs ws bs (Err refusal.BadField)
  made_none h =
      let f = not-true b h in
      record {
        ends = record {
          row = λ t v e. e ∙ ap (λ (z : Ending). token_row (token_after t z)) (ending f t v e);
          answer = λ t v e ts ds. ap answered (ending f t v e);
          fit = λ ts ds. tt;
        };
        dacl = λ t v e d. d ∙ ap (λ (z : Ending). dacl_row (token_after t z)) (ending f t v e);
      }

  pub made_so : not b ≡ false → {ws' bs' : List ℕ} → DefaultsSet owner group flag bytes ws bs ws' bs' → (u : Unit {0})
      → FieldsEnd (defaults_ending owner group flag bytes) ws bs ws' bs' (Ok u)
  made_so h m u =
      let f = not-false b h in
      record {
        ends = record {
          row = λ t v e. m.row.row t e ∙ ap (λ (z : Ending). token_row (token_after t z)) (ending f t v e);
          answer = λ t v e ts ds. ap answered (ending f t v e);
          fit = λ ts ds. tt;
        };
        dacl = λ t v e d. m.dacl t d ∙ ap (λ (z : Ending). dacl_row (token_after t z)) (ending f t v e);
      }
