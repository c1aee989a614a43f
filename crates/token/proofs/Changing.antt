-- A token that is changed in its row: which words are whose. Assumes nothing.
use Rattle.std.proofs.Common.{◌≡◌, ℕ, ◌+◌, ◌-◌, ◌%◌, ◌^◌, ◌≤◌, min, true, List, ◌++◌, map, length, get_or, take, drop, set, replicate, sym, ap, ◌∙◌, ap₂, append_assoc, arith, take-take, drop_at, leb-true}
use lib.ListN.{length-map}
use Rattle.table.specs.Lists.{pad, pad_fits}
use Rattle.rules.specs.Basic.{all}
use Rattle.rules.specs.Group.{Group}
use Rattle.rules.specs.Token.{Token, max_groups, max_restricting, next_modified, with_privileges, with_groups, with_scope, with_elevation}
use Rattle.rules.specs.Valid.{group_valid, groups_valid, token_valid}
use Rattle.rules.specs.Head as Head
use Rattle.rules.specs.Memory.{head_words, pack, unpack, head, token_row, groups_at, token_at}
use Rattle.rules.proofs.Logic.{and_l}
use Rattle.rules.proofs.Facts.{token_facts}
use Rattle.rules.proofs.Rows.{token_back}
use Rattle.privilege.specs.Meaning.{privileges_of}
use Rattle.privilege.specs.declared.privileges.Privileges.{Privileges}
use Rattle.token.specs.Row.{privileges_stored, Becomes}

module _ {ws : List ℕ} where
  pub modified_stepped : {m : ℕ} → m ≡ (get_or ws Head.modified 0 + 1) % 2 ^ 64 → Becomes next_modified ws (set ws Head.modified m)
  unfolding token_row head next_modified
  modified_stepped q = record { row = λ t e. ap (set ws Head.modified) q ∙ ap (λ (l : List ℕ). set l Head.modified ((get_or l Head.modified 0 + 1) % 2 ^ 64)) e }

  pub privileges_set : (p : Privileges) {ws' : List ℕ} → ws' ≡ privileges_stored p ws → Becomes (with_privileges (privileges_of p)) ws ws'
  unfolding token_row head with_privileges
  privileges_set p q = record { row = λ t e. q ∙ ap (privileges_stored p) e }

  pub scope_set : (v : ℕ) → Becomes (with_scope v) ws (set ws Head.scope v)
  unfolding token_row head with_scope
  scope_set v = record { row = λ t e. ap (λ (l : List ℕ). set l Head.scope v) e }

  pub elevation_set : (v : ℕ) → Becomes (with_elevation v) ws (set ws Head.elevation v)
  unfolding token_row head with_elevation
  elevation_set v = record { row = λ t e. ap (λ (l : List ℕ). set l Head.elevation v) e }

pub ruleset changes = (modified_stepped, privileges_set, scope_set, elevation_set)

-- ---- the words of a token's groups

-- what `&words[HEAD_WORDS..HEAD_WORDS + n]` is, and what `&mut words[HEAD_WORDS..HEAD_WORDS + n]` comes back as
abbrev pub group_words : ℕ → List ℕ → List ℕ
group_words n ws = take (head_words + n - head_words) (drop head_words ws)

abbrev pub put_group_words : ℕ → List ℕ → List ℕ → List ℕ
put_group_words n gw ws = take head_words ws ++ (gw ++ drop (head_words + n - head_words) (drop head_words ws))

after_groups : (t : Token) → length t.groups ≤ max_groups
    → drop (length t.groups) (drop head_words (token_row t)) ≡ replicate (max_groups - length t.groups) 0 ++ pad max_restricting t.limits.restricting
unfolding token_row head
after_groups t few =
    let words = map pack t.groups in
    let long = length-map t.groups pack in
    let zeros : List ℕ = replicate (max_groups - length t.groups) 0 in
    let sids = pad max_restricting t.limits.restricting in
    ap (λ (l : List ℕ). drop (length t.groups) (l ++ sids)) (pad_fits max_groups words (omega arith) ∙ ap (λ (k : ℕ). words ++ replicate (max_groups - k) 0) long)
    ∙ ap (drop (length t.groups)) (append_assoc words zeros sids)
    ∙ drop_at words (zeros ++ sids) (length t.groups) long

-- the count is the same
other_head : (t : Token) (gs : List Group) → length gs ≡ length t.groups → take head_words (token_row t) ≡ head (with_groups gs t)
unfolding token_row head with_groups
other_head t gs l = cc

pub few_groups : (t : Token) → token_valid t ≡ true → length t.groups ≤ max_groups
unfolding groups_valid
few_groups t v = leb-true (length t.groups) max_groups (and_l _ (all group_valid t.groups) (token_facts t v).groups)

module _ {ws : List ℕ} {n : ℕ} (t : Token) (v : token_valid t ≡ true) (e : ws ≡ token_row t) (k : n ≡ min (get_or ws Head.group_count 0) max_groups) where
  counted : head_words + n - head_words ≡ length t.groups
  unfolding token_row head
  counted = let few = few_groups t v in let c : get_or ws Head.group_count 0 ≡ length t.groups = ap (λ (l : List ℕ). get_or l Head.group_count 0) e in omega arith

  pub group_words_read : map unpack (group_words n ws) ≡ t.groups
  unfolding token_at groups_at token_row head
  group_words_read =
      ap (map unpack) (ap₂ (λ (j : ℕ) (l : List ℕ). take j (drop head_words l)) counted e ∙ sym (take-take (length t.groups) max_groups (drop head_words (token_row t)) (few_groups t v)))
      ∙ ap (λ (x : Token). x.groups) (token_back t v)

  pub group_words_put : (gs : List Group) → length gs ≡ length t.groups → {gw : List ℕ} → gw ≡ map pack gs → put_group_words n gw ws ≡ token_row (with_groups gs t)
  unfolding token_row with_groups
  group_words_put gs l {gw} g =
      let few = few_groups t v in
      let long = length-map gs pack in
      let rest = pad max_restricting t.limits.restricting in
      let zeros : List ℕ = replicate (max_groups - length t.groups) 0 in
      let front : take head_words ws ≡ head (with_groups gs t) = ap (take head_words) e ∙ other_head t gs l in
      let back : drop (head_words + n - head_words) (drop head_words ws) ≡ zeros ++ rest =
      ap₂ (λ (j : ℕ) (x : List ℕ). drop j (drop head_words x)) counted e ∙ after_groups t few in
      let padded : map pack gs ++ zeros ≡ pad max_groups (map pack gs) =
      ap (λ (j : ℕ). map pack gs ++ replicate (max_groups - j) 0) {x = length t.groups} {y = length (map pack gs)} (omega arith) ∙ sym (pad_fits max_groups (map pack gs) (omega arith)) in
      ap₂ (λ (x y : List ℕ). x ++ (gw ++ y)) front back
      ∙ ap (λ (x : List ℕ). head (with_groups gs t) ++ (x ++ (zeros ++ rest))) g
      ∙ ap (λ (x : List ℕ). head (with_groups gs t) ++ x) (sym (append_assoc (map pack gs) zeros rest) ∙ ap (λ (x : List ℕ). x ++ rest) padded)
