-- The row of a new token: its groups, one after the other, and then its head. Assumes nothing.
use Rattle.std.proofs.Common.{◌≡◌, ℕ, suc, ◌+◌, ◌-◌, ◌<◌, List, [], ◌∷◌, ◌++◌, map, length, set, replicate, sym, refl, ap, ◌∙◌, ap₂, suc-add, zero-add, arith, length-append, length-set}
use mathlib.Core.List.{map-append}
use lib.ListN.{length-map}
use lib.Seq.{append_snoc, set-append_seam, set-append_left}
use Rattle.table.specs.Lists.{pad, length_pad, pad_fits}
use Rattle.rules.specs.Group.{Group}
use Rattle.rules.specs.Token.{max_groups, max_restricting, new_token, no_limits, no_defaults}
use Rattle.rules.specs.Head as Head
use Rattle.rules.specs.Memory.{head_words, token_words, mark, pack, head, token_row}
use Rattle.privilege.specs.Meaning.{privileges_of}
use Rattle.privilege.specs.declared.privileges.Privileges.{Privileges}
use Rattle.token.specs.Meaning.{identity_of}
use Rattle.token.specs.NewRow.{headless, Headed}
use Rattle.token.specs.Row.{privileges_stored}
use Rattle.token.specs.declared.Identity.{Identity}

-- ---- a group more

set_past : (xs ys : List ℕ) (i a : ℕ) → set (xs ++ ys) (length xs + i) a ≡ xs ++ set ys i a
set_past [] ys i a = ap (λ (k : ℕ). set ys k a) (zero-add i)
set_past (x ∷ xs) ys i a = ap (λ (k : ℕ). set (x ∷ (xs ++ ys)) k a) (suc-add (length xs) i) ∙ ap (λ (l : List ℕ). x ∷ l) (set_past xs ys i a)

set_pad : (n : ℕ) (xs : List ℕ) (a : ℕ) → length xs < n → set (pad n xs) (length xs) a ≡ pad n (xs ++ (a ∷ []))
set_pad n xs a h =
    let m : ℕ = n - (length xs + 1) in
    let long : length (xs ++ (a ∷ [])) ≡ length xs + 1 = length-append xs (a ∷ []) in
    let before : n - length xs ≡ suc m = omega arith in
    let after : n - length (xs ++ (a ∷ [])) ≡ m = omega arith in
    ap (λ (l : List ℕ). set l (length xs) a) (pad_fits n xs (omega arith) ∙ ap (λ (k : ℕ). xs ++ replicate k 0) before)
    ∙ set-append_seam xs 0 (replicate m 0) a
    ∙ sym (pad_fits n (xs ++ (a ∷ [])) (omega arith) ∙ ap (λ (k : ℕ). xs ++ (a ∷ []) ++ replicate k 0) after ∙ append_snoc xs a (replicate m 0))

pub length_headless : (gs : List Group) → length (headless gs) ≡ token_words
unfolding headless
length_headless gs = simp (length-append, length_pad)

pub no_groups : replicate token_words 0 ≡ headless []
unfolding headless pad
no_groups = refl

pub one_group : (gs : List Group) (g : Group) {i w : ℕ} → length gs < max_groups → i ≡ head_words + length gs → w ≡ pack g
    → set (headless gs) i w ≡ headless (gs ++ (g ∷ []))
unfolding headless
one_group gs g {i} {w} h e f =
    let ws : List ℕ = map pack gs in
    let long : length ws ≡ length gs = length-map gs pack in
    let sids : List ℕ = pad max_restricting [] in
    let entered : set (pad max_groups ws) (length ws) (pack g) ≡ pad max_groups (map pack (gs ++ (g ∷ []))) =
    set_pad max_groups ws (pack g) (omega arith) ∙ ap (pad max_groups) (sym (map-append pack gs (g ∷ []))) in
    ap₂ (λ (j v : ℕ). set (headless gs) j v) (e ∙ ap (λ (k : ℕ). head_words + k) (sym long)) f
    ∙ set_past (replicate head_words 0) (pad max_groups ws ++ sids) (length ws) (pack g)
    ∙ ap (λ (l : List ℕ). replicate head_words 0 ++ l) (set-append_left (pad max_groups ws) sids (length ws) (pack g) (omega (arith, length_pad max_groups ws)))
    ∙ ap (λ (l : List ℕ). replicate head_words 0 ++ (l ++ sids)) entered

-- ---- the head

module _ (n : ℕ) (i : Identity) (p : Privileges) where
  -- with the privileges not yet stored
  abbrev headed : List ℕ → List ℕ
  headed ws =
      let numbers : List ℕ = set (set ws Head.number n) Head.modified n in
      let identity : List ℕ = set (set (set (set numbers Head.session i.session) Head.user i.user) Head.type i.kind) Head.level i.level in
      set (set identity Head.elevation 1) Head.integrity i.integrity

  pub head_set : {count : ℕ} {ws ws' : List ℕ} → ws' ≡ privileges_stored p (headed ws)
      → Headed n (identity_of i) (privileges_of p) count ws (set (set ws' Head.group_count count) Head.root i.root)
  unfolding headless token_row head new_token no_limits no_defaults mark
  head_set {count} {ws} {ws'} q = record {
    row = λ gs e l. ap₂ (λ (m : ℕ) (x : List ℕ). set (set x Head.group_count m) Head.root i.root) (sym l) (q ∙ ap (λ (x : List ℕ). privileges_stored p (headed x)) e);
    long = λ e. simp length-set (ap length q ∙ simp length-set e);
  }
