-- Entries that enable and disable, and those that put a privilege set back by the word of what was enabled. Assumes nothing.
use Prim.Native.Nat.{ℕ, ◌+◌, ◌^◌}
use native.Mathlib.Omega.{arith}
use mathlib.Core.Path.{◌≡◌, refl, sym, ap, ap₂, ◌∙◌, subst}
use mathlib.Core.Bool.{Bool, true, false, not, ◌&&◌, ◌||◌, and-true, and-false, or_comm}
use mathlib.Core.Logic.{⊎_elim}
use mathlib.Core.List.{List, [], ◌∷◌, map}
use lib.Bits.{bit_or, or_disjoint}
use lib.Dec.{eqb}
use borrow.Author.Tests.{eqb-true, eq-eqb, ne_eqb}
use Rattle.rules.specs.AdjustPrivileges.{is_reset, valid_entry, applied, adjusted, named, previous}
use Rattle.rules.specs.Basic.{all, member, distinct, is_empty}
use Rattle.rules.specs.Bits.{has, within}
use Rattle.rules.specs.Entry.{key_of, is_only, valid_entries, apply_all, Entry}
use Rattle.rules.specs.Growth.{Mem, here, there}
use Rattle.rules.specs.Privileges.{exists, enable, disable, Privileges}
use Rattle.rules.specs.Restore.{but_used, switches, undoing, Reordered}
use Rattle.rules.proofs.Logic.{and_l, and_r, and_i, or_r, not_both, either, all_mem, mem_all, map_mem, mem_map, mem_none, member_mem, mem_member, distinct_head, distinct_tail}
use Rattle.rules.proofs.Bits.{has_and, has_or, has_none, has_power, or_same, without_same, without_none, same_bits, within_has, and_power}
use Rattle.rules.proofs.Tables.{on_if}

-- ---- entries that enable and disable

by_value : (e : Entry) (v : ℕ) → e.value ≡ v → switches e ≡ switches (record { key = e.key; value = v })
unfolding switches
by_value e v q = ap (λ (x : ℕ). switches (record { key = e.key; value = x })) q

-- one enables, where its value is 2, or else disables
by_switch : (P : Privileges → Type 0) (e : Entry) (p : Privileges) → switches e ≡ true
    → (eqb e.value 2 ≡ true → P (enable (2 ^ e.key) p)) → (eqb e.value 2 ≡ false → P (disable (2 ^ e.key) p)) → P (applied e p)
unfolding applied switches
by_switch P e p h a b =
    on_if P (eqb e.value 2) _ _ a (λ t. on_if P (eqb e.value 4) _ _ (λ u. absurd (not_both h (by_value e 4 (eqb-true e.value 4 u)))) (λ u. b t))

pub not_reset : (es : List Entry) → all switches es ≡ true → is_reset es ≡ false
unfolding is_reset is_only all switches
not_reset [] h = refl
not_reset (e ∷ f ∷ es) h = refl
not_reset (e ∷ []) h =
    let ne : eqb e.value 0x80000000 ≡ false = ne_eqb e.value 0x80000000 (λ q. not_both (and_l (switches e) true h) (by_value e 0x80000000 q)) in
    ap (λ (b : Bool). eqb e.key 0 && b) ne ∙ and-false (eqb e.key 0)

-- what passes request 5's check
pub record Good (p : Privileges) (es : List Entry) : Type 0 where
  pub some : not (is_empty es) ≡ true
  pub each : all (valid_entry p) es ≡ true
  pub apart : distinct (map key_of es) ≡ true

pub good : (p : Privileges) (es : List Entry) → all switches es ≡ true → (is_reset es || valid_entries (valid_entry p) es) ≡ true → Good p es
unfolding valid_entries
good p es s ok = let h : valid_entries (valid_entry p) es ≡ true = rw (not_reset es s) at ok in search (and_l, and_r)

plain : (es : List Entry) (p : Privileges) → all switches es ≡ true → adjusted es p ≡ apply_all applied es p
unfolding adjusted
plain es p s = rw (not_reset es s) refl

-- the words but enabled stay
others_stay : (es : List Entry) (p : Privileges) → all switches es ≡ true → ((apply_all applied es p).present ≡ p.present) × ((apply_all applied es p).by_default ≡ p.by_default)
unfolding apply_all all enable disable
others_stay [] p h = (refl, refl)
others_stay (e ∷ es) p h =
    let r = others_stay es (applied e p) (and_r (switches e) (all switches es) h) in
    let s = by_switch (λ q. (q.present ≡ p.present) × (q.by_default ≡ p.by_default)) e p (and_l (switches e) (all switches es) h) (λ t. (refl, refl)) (λ t. (refl, refl)) in
    (r.0 ∙ s.0, r.1 ∙ s.1)

-- a privilege that is not named stays as it was
unnamed : (k : ℕ) (es : List Entry) (p : Privileges) → all switches es ≡ true → (Mem k (map key_of es) → ⊥) → has k (apply_all applied es p).enabled ≡ has k p.enabled
unfolding apply_all all enable disable key_of
unnamed k [] p h out = refl
unnamed k (e ∷ es) p h out =
    let ne : has k (2 ^ e.key) ≡ false = has_power k e.key ∙ ne_eqb k e.key (λ q. out (here q)) in
    unnamed k es (applied e p) (and_r (switches e) (all switches es) h) (λ m. out (there m))
    ∙ by_switch (λ q. has k q.enabled ≡ has k p.enabled) e p (and_l (switches e) (all switches es) h) (λ t. or_same k p.enabled (2 ^ e.key) ne) (λ t. without_same k p.enabled (2 ^ e.key) ne)

-- one that is named is as its entry asks
as_asked : (e : Entry) (es : List Entry) (p : Privileges) → all switches es ≡ true → distinct (map key_of es) ≡ true → Mem e es → has e.key (apply_all applied es p).enabled ≡ eqb e.value 2
unfolding apply_all all enable disable key_of
as_asked e [] p h d x3 = elim x3 [ ]
as_asked e (f ∷ es) p h d (there m) = as_asked e es (applied f p) (and_r (switches f) (all switches es) h) (distinct_tail f.key (map key_of es) d) m
as_asked e (f ∷ es) p h d (here q) = subst (λ (g : Entry). has g.key (apply_all applied es (applied f p)).enabled ≡ eqb g.value 2) (sym q) first
  where
    itself : has f.key (2 ^ f.key) ≡ true
    itself = has_power f.key f.key ∙ eq-eqb f.key f.key refl

    first : has f.key (apply_all applied es (applied f p)).enabled ≡ eqb f.value 2
    first =
        unnamed f.key es (applied f p) (and_r (switches f) (all switches es) h) (distinct_head f.key (map key_of es) d)
        ∙ by_switch (λ q. has f.key q.enabled ≡ eqb f.value 2) f p (and_l (switches f) (all switches es) h)
        (λ t. has_or f.key p.enabled (2 ^ f.key) ∙ or_r (has f.key p.enabled) _ itself ∙ sym t)
        (λ t. without_none f.key p.enabled (2 ^ f.key) itself ∙ sym t)

-- ---- the named bits

not_member : (k : ℕ) (ks : List ℕ) → (Mem k ks → ⊥) → member k ks ≡ false
not_member k ks out = ⊎_elim (λ h. absurd (out (member_mem k ks h))) (λ h. h) (either (member k ks))

has_named : (es : List Entry) → distinct (map key_of es) ≡ true → (k : ℕ) → has k (named es) ≡ member k (map key_of es)
unfolding named key_of member
has_named [] d k = has_none k
has_named (e ∷ es) d k =
    let w = named es in
    let ks = map key_of es in
    let tail = distinct_tail e.key ks d in
    let apart : has e.key w ≡ false = has_named es tail e.key ∙ not_member e.key ks (distinct_head e.key ks d) in
    let sum : 2 ^ e.key + w ≡ bit_or w (2 ^ e.key) = omega (arith, or_disjoint w (2 ^ e.key) (and_power w e.key false apart)) in
    ap (has k) sum ∙ has_or k w (2 ^ e.key) ∙ ap₂ ◌||◌ (has_named es tail k) (has_power k e.key) ∙ or_comm (member k ks) (eqb k e.key)

-- ---- the entries made from the word of what was enabled

module _ (w : ℕ) where
  undoing_switches : (es : List Entry) → all switches (map (undoing w) es) ≡ true
  unfolding all switches undoing
  undoing_switches [] = refl
  undoing_switches (e ∷ es) = and_i (on_if (λ (v : ℕ). switches (record { key = e.key; value = v }) ≡ true) (has e.key w) _ _ (λ t. refl) (λ t. refl)) (undoing_switches es)

  pub undoing_keys : (es : List Entry) → map key_of (map (undoing w) es) ≡ map key_of es
  unfolding key_of undoing
  undoing_keys [] = refl
  undoing_keys (e ∷ es) = ap (λ (ks : List ℕ). e.key ∷ ks) (undoing_keys es)

  -- where there is an entry, there is one in any order
  undoing_some : (es fs : List Entry) → not (is_empty es) ≡ true → ((e : Entry) → Mem e (map (undoing w) es) → Mem e fs) → not (is_empty fs) ≡ true
  unfolding is_empty
  undoing_some [] fs h k = absurd (not_both h refl)
  undoing_some (e ∷ es) [] h k = absurd (mem_none (k (undoing w e) (here refl)))
  undoing_some (e ∷ es) (f ∷ fs) h k = refl

  undoing_value : (e : Entry) → eqb (undoing w e).value 2 ≡ has e.key w
  unfolding undoing
  undoing_value e = on_if (λ (v : ℕ). eqb v 2 ≡ has e.key w) (has e.key w) _ _ (λ t. sym t) (λ t. sym t)

  -- what was enabled is still present
  undoing_valid : (p q : Privileges) (e : Entry) → valid_entry p e ≡ true → (has e.key w ≡ true → has e.key q.present ≡ true) → valid_entry q (undoing w e) ≡ true
  unfolding valid_entry undoing
  undoing_valid p q e h k =
      and_i (and_l (exists e.key) _ h) (on_if (λ (v : ℕ). (eqb v 0 || eqb v 4 || (eqb v 2 && has e.key q.present)) ≡ true) (has e.key w) _ _ (λ t. k t) (λ t. refl))

same_words : (p q : Privileges) → p.present ≡ q.present → p.enabled ≡ q.enabled → p.by_default ≡ q.by_default → but_used p ≡ but_used q
unfolding but_used
same_words p q a b c = cc

words_same : (p q : Privileges) → but_used p ≡ but_used q → (p.present ≡ q.present) × (p.enabled ≡ q.enabled) × (p.by_default ≡ q.by_default)
unfolding but_used
words_same p q e = (cc, cc, cc)

-- p before the first request, q now: the entries made are valid, and put p's words back
pub record Undone (fs : List Entry) (p q : Privileges) : Type 0 where
  pub valid : (is_reset fs || valid_entries (valid_entry q) fs) ≡ true
  pub words : but_used (adjusted fs q) ≡ but_used p

module _ (es fs : List Entry) (p q : Privileges) (s : all switches es ≡ true) (g : Good p es) (order : Reordered (map (undoing (previous es p.enabled)) es) fs)
    (inside : within p.enabled p.present ≡ true) (now : but_used q ≡ but_used (adjusted es p)) where
  w : ℕ
  w = previous es p.enabled

  fs_switch : all switches fs ≡ true
  unfolding w
  fs_switch = mem_all switches fs (λ f m. all_mem switches (map (undoing w) es) (undoing_switches w es) (order.only f m))

  was : (q.present ≡ (apply_all applied es p).present) × (q.enabled ≡ (apply_all applied es p).enabled) × (q.by_default ≡ (apply_all applied es p).by_default)
  was = words_same q (apply_all applied es p) (now ∙ ap but_used (plain es p s))

  present : q.present ≡ p.present
  present = was.0 ∙ (others_stay es p s).0

  in_word : (k : ℕ) → has k w ≡ (has k p.enabled && member k (map key_of es))
  unfolding w previous
  in_word k = rw (not_reset es s) (has_and k p.enabled (named es) ∙ ap (λ (b : Bool). has k p.enabled && b) (has_named es g.apart k))

  fits : (e : Entry) → Mem e fs → valid_entry q e ≡ true
  unfolding w
  fits f m =
      let r = mem_map (undoing w) es (order.only f m) in
      let k = r.0.key in
      ap (valid_entry q) r.2
      ∙ undoing_valid w p q r.0 (all_mem (valid_entry p) es g.each r.1)
      (λ t. ap (has k) present ∙ within_has p.enabled p.present inside k (and_l (has k p.enabled) _ (sym (in_word k) ∙ t)))

  valid : valid_entries (valid_entry q) fs ≡ true
  unfolding valid_entries w
  valid = and_i (and_i (undoing_some w es fs g.some order.each) (mem_all (valid_entry q) fs fits)) order.once

  bit_back : (k : ℕ) → has k (apply_all applied fs q).enabled ≡ has k p.enabled
  unfolding key_of undoing w
  bit_back k = ⊎_elim at_named at_other (either (member k (map key_of es)))
    where
      at_named : member k (map key_of es) ≡ true → has k (apply_all applied fs q).enabled ≡ has k p.enabled
      at_named t =
          let r = mem_map key_of es (member_mem k (map key_of es) t) in
          let e = r.0 in
          ap (λ (i : ℕ). has i (apply_all applied fs q).enabled) r.2
          ∙ as_asked (undoing w e) fs q fs_switch order.once (order.each _ (map_mem (undoing w) r.1))
          ∙ undoing_value w e ∙ ap (λ (i : ℕ). has i w) (sym r.2) ∙ in_word k ∙ ap (λ (b : Bool). has k p.enabled && b) t ∙ and-true (has k p.enabled)

      at_other : member k (map key_of es) ≡ false → has k (apply_all applied fs q).enabled ≡ has k p.enabled
      at_other t =
          unnamed k fs q fs_switch (λ m. let r = mem_map key_of fs m in not_both (mem_member (subst (Mem k) (undoing_keys w es) (rw r.2 (map_mem key_of (order.only r.0 r.1))))) t)
          ∙ ap (has k) was.1 ∙ unnamed k es p s (λ m. not_both (mem_member m) t)

  pub undone : Undone fs p q
  undone =
      let stay = others_stay fs q fs_switch in
      record {
        valid = or_r (is_reset fs) _ valid;
        words = ap but_used (plain fs q fs_switch) ∙ same_words (apply_all applied fs q) p (stay.0 ∙ present) (same_bits _ _ bit_back) (stay.1 ∙ was.2 ∙ (others_stay es p s).1);
      }
