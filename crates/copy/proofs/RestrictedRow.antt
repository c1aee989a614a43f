-- Request 10's changes in a token's row: a group's word, the head's words. Assumes nothing.
use Prim.Native.Nat.{ℕ, zero, suc, ◌+◌, ◌*◌, ◌/◌, ◌%◌, ◌≤◌, ◌<◌}
use native.Mathlib.Nat.{add_comm}
use native.Mathlib.Omega.{arith}
use mathlib.Core.Path.{◌≡◌, refl, sym, ap, ◌∙◌}
use mathlib.Core.Bool.{Bool, true, false, ◌||◌}
use mathlib.Core.List.{List, [], ◌∷◌, ◌++◌, map}
use lib.Arith.{digits_div, digits_mod}
use lib.Dec.{eqb}
use lib.ListN.{length, take, get_or, set, replicate, length-map, length-set, get_or-append}
use lib.Seq.{get_or-append-add, get_or-take, set-append_left, take-set-lt}
use Rattle.table.specs.Lists.{pad, length_pad, set_append_add}
use Rattle.std.specs.Prelude.{if◌then◌else◌}
use Rattle.rules.specs.Basic.{change_at, word32}
use Rattle.rules.specs.Growth.{Mem, here, there}
use Rattle.rules.specs.Group.{Group, denied}
use Rattle.rules.specs.Privileges as rules
use Rattle.rules.specs.Privileges.{remove}
use Rattle.rules.specs.Token.{Token, max_groups, max_restricting, with_privileges, with_groups}
use Rattle.rules.specs.Head as Head
use Rattle.rules.specs.Memory.{head_words, token_words, mark, pack, unpack, head, token_row}
use Rattle.rules.proofs.Logic.{length_change_at}
use Rattle.privilege.specs.Meaning.{privileges_of}
use Rattle.privilege.specs.declared.privileges.Privileges.{Privileges}
use Rattle.token.specs.Row.{privileges_in, on_word, Becomes}
use Rattle.state.proofs.TokenScalars.{privileges_in_row}
use Rattle.copy.specs.Copies.{Remade}
use Rattle.copy.specs.DeniedGroups.{Packed, deny_in, DeniedAt}
use Rattle.copy.specs.Restrict.{mark_word, limited_to}

-- ---- a padded list

module _ (n : ℕ) (xs : List ℕ) (i : ℕ) (h : i < length xs) (l : i < n) where
  set_pad : (v : ℕ) → set (pad n xs) i v ≡ pad n (set xs i v)
  unfolding pad
  set_pad v = sym (take-set-lt n (xs ++ replicate n 0) i v l) ∙ ap (take n) (set-append_left xs (replicate n 0) i v h)

  pub get_or_pad : get_or (pad n xs) i 0 ≡ get_or xs i 0
  unfolding pad
  get_or_pad = get_or-take n (xs ++ replicate n 0) i 0 l ∙ get_or-append xs (replicate n 0) 0 i h

-- ---- a group's word

unpacked : (g : Group) → g.sid < word32 → unpack (pack g) ≡ g
unfolding unpack pack
unpacked g low =
    let swap : pack g ≡ g.attributes * word32 + g.sid = add_comm g.sid (g.attributes * word32) in
    λ i. record {
      sid = (ap (λ (w : ℕ). w % word32) swap ∙ digits_mod g.attributes low) i;
      attributes = (ap (λ (w : ℕ). w / word32) swap ∙ digits_div g.attributes low) i;
    }

denied_among : (gs : List Group) (i : ℕ) → i < length gs → ((g : Group) → Mem g gs → g.sid < word32)
    → set (map pack gs) i (on_word denied (get_or (map pack gs) i 0)) ≡ map pack (change_at i denied gs)
unfolding change_at
denied_among [] i h p = absurd (omega arith)
denied_among (g ∷ gs) zero h p = ap (λ (x : Group). pack (denied x) ∷ map pack gs) (unpacked g (p g (here refl)))
denied_among (g ∷ gs) (suc i) h p = ap (λ (l : List ℕ). pack g ∷ l) (denied_among gs i (omega arith) (λ x m. p x (there m)))

none : (gs : List Group) (i : ℕ) → length gs ≤ i → gs ≡ change_at i denied gs
unfolding change_at
none [] i h = refl
none (g ∷ gs) zero h = absurd (omega arith)
none (g ∷ gs) (suc i) h = ap (λ (l : List Group). g ∷ l) (none gs i (omega arith))

module _ (t : Token) (i : ℕ) where
  denied_row : i < length t.groups → length t.groups ≤ max_groups → Packed t
      → set (token_row t) (head_words + i) (on_word denied (get_or (token_row t) (head_words + i) 0)) ≡ token_row (deny_in i t)
  unfolding token_row head deny_in with_groups
  denied_row h few p =
      let ws : List ℕ = map pack t.groups in
      let gs = pad max_groups ws in
      let rs = pad max_restricting t.limits.restricting in
      let long = length_pad max_groups ws in
      let many : length ws ≡ length t.groups = length-map t.groups pack in
      let v = on_word denied (get_or ws i 0) in
      ap (λ (w : ℕ). set (head t ++ (gs ++ rs)) (head_words + i) (on_word denied w))
      (get_or-append-add (head t) (gs ++ rs) i 0 ∙ get_or-append gs rs 0 i (omega arith) ∙ get_or_pad max_groups ws i (omega arith) (omega arith))
      ∙ set_append_add (head t) (gs ++ rs) i v
      ∙ ap (λ (l : List ℕ). head t ++ l) (set-append_left gs rs i v (omega arith))
      ∙ ap (λ (l : List ℕ). head t ++ (l ++ rs)) (set_pad max_groups ws i (omega arith) (omega arith) v ∙ ap (pad max_groups) (denied_among t.groups i h p))
      ∙ ap (λ (n : ℕ). set (head t) Head.group_count n ++ (pad max_groups (map pack (change_at i denied t.groups)) ++ rs)) (sym (length_change_at t.groups i denied))

  denied_none : length t.groups ≤ i → t ≡ deny_in i t
  unfolding deny_in with_groups
  denied_none l = ap (λ (gs : List Group). with_groups gs t) (none t.groups i l)

module _ (size index : ℕ) {ws : List ℕ} (long : length ws ≡ token_words) (few : size ≤ max_groups) where
  pub denies : {v : ℕ} → index < size → v ≡ on_word denied (get_or ws (head_words + index) 0) → DeniedAt size index ws (set ws (head_words + index) v)
  denies {v} h e = record {
    long = length-set ws (head_words + index) v ∙ long;
    made = λ t n p q.
        ap (set ws (head_words + index)) e ∙ ap (λ (l : List ℕ). set l (head_words + index) (on_word denied (get_or l (head_words + index) 0))) q
        ∙ denied_row t index (omega arith) (omega arith) p;
  }

  pub denies_none : size ≤ index → DeniedAt size index ws ws
  denies_none h = record { long = long; made = λ t n p q. q ∙ ap token_row (denied_none t index (omega arith)) }

-- ---- the head

mark_set : (x b : Bool) → (if x then 1 else mark b) ≡ mark (x || b)
unfolding mark
mark_set true b = refl
mark_set false b = refl

pub limits : (n m removed : ℕ) {ws ws₁ : List ℕ} {a b : ℕ} {p q : Privileges} → a ≡ mark_word m (get_or ws Head.write_restricted 0) → b ≡ mark_word m (get_or ws Head.user_deny_only 0)
    → p ≡ privileges_in ws → privileges_of q ≡ remove removed (privileges_of p) → Becomes (with_privileges (privileges_of q)) ws ws₁ → length ws₁ ≡ length ws → length ws ≡ token_words
    → Remade (limited_to n m removed) ws (set (set (set (set (set ws₁ Head.number n) Head.modified n) Head.elevation 1) Head.write_restricted a) Head.user_deny_only b)
unfolding limited_to with_privileges token_row head
limits n m removed {ws} ea eb g r w kept long = record {
  made = record {
    row = λ t e.
        let fa = ea ∙ ap (λ (l : List ℕ). mark_word m (get_or l Head.write_restricted 0)) e ∙ mark_set (eqb m 1) t.limits.write_restricted in
        let fb = eb ∙ ap (λ (l : List ℕ). mark_word m (get_or l Head.user_deny_only 0)) e ∙ mark_set (eqb m 1) t.limits.user_deny_only in
        let left = r ∙ ap (remove removed) (ap privileges_of g ∙ privileges_in_row ws t e) in
        let fw = w.row t e ∙ ap (λ (x : rules.Privileges). token_row (with_privileges x t)) left in
        λ i. set (set (set (set (set (fw i) Head.number n) Head.modified n) Head.elevation 1) Head.write_restricted (fa i)) Head.user_deny_only (fb i);
  };
  long = simp length-set (kept ∙ long);
}
