-- What changes of privilege sets keep: enabled and default stay within present, present never grows, used marks stay. Assumes nothing.
use Prim.Native.Nat.{ℕ, ◌^◌}
use mathlib.Core.Path.{◌≡◌, refl, sym, ap, ◌∙◌}
use mathlib.Core.Bool.{true, not, ◌&&◌, ◌||◌}
use mathlib.Core.List.{List, [], ◌∷◌, map}
use lib.Dec.{eqb}
use borrow.Author.Tests.{eqb-true, ne_eqb}
use Rattle.rules.specs.AdjustPrivileges.{is_reset, valid_entry, applied, adjusted}
use Rattle.rules.specs.Basic.{all, distinct, is_empty}
use Rattle.rules.specs.Bits.{has, within}
use Rattle.rules.specs.Entry.{key_of, valid_entries, apply_all, Entry}
use Rattle.rules.specs.Growth.{Mem, here, there}
use Rattle.rules.specs.Privileges.{existing, exists, enable, disable, remove, reset, mark_used, only_used, Privileges}
use Rattle.rules.specs.Valid.{privileges_valid}
use Rattle.rules.proofs.Logic.{and_l, and_r, and_i, all_mem, mem_by, distinct_head, distinct_tail}
use Rattle.rules.proofs.Bits.{has_without, has_power, within_refl, within_trans, without_within, both_without, within_or, or_within, power_within, none_within}
use Rattle.rules.proofs.Tables.{on_if}

pub record Sound (p : Privileges) : Type 0 where
  pub by_default : within p.by_default p.present ≡ true
  pub enabled : within p.enabled p.present ≡ true
  pub present : within p.present existing ≡ true
  pub used : within p.used existing ≡ true

pub sound : (p : Privileges) → privileges_valid p ≡ true → Sound p
unfolding privileges_valid
sound p h = search (and_l, and_r)

pub order : (p : Privileges) → Sound p → privileges_valid p ≡ true
unfolding privileges_valid
order p s = and_i (and_i (and_i s.by_default s.enabled) s.present) s.used

-- q after p
pub record Fewer (p q : Privileges) : Type 0 where
  pub sound : Sound q
  pub present : within q.present p.present ≡ true
  pub used : within p.used q.used ≡ true

pub fewer_refl : (p : Privileges) → Sound p → Fewer p p
fewer_refl p s = search within_refl

fewer_trans : (p q r : Privileges) → Fewer p q → Fewer q r → Fewer p r
fewer_trans p q r a b = search within_trans

enabled : (w : ℕ) (p : Privileges) → within w p.present ≡ true → Sound p → Fewer p (enable w p)
unfolding enable
enabled w p h s = let inside = within_or p.enabled w p.present s.enabled h in search within_refl

disabled : (w : ℕ) (p : Privileges) → Sound p → Fewer p (disable w p)
unfolding disable
disabled w p s = let inside = within_trans _ p.enabled p.present (without_within p.enabled w) s.enabled in search within_refl

pub removed : (w : ℕ) (p : Privileges) → Sound p → Fewer p (remove w p)
unfolding remove
removed w p s = let present = within_trans _ p.present existing (without_within p.present w) s.present in search (within_refl, without_within, both_without)

was_reset : (p : Privileges) → Sound p → Fewer p (reset p)
unfolding reset
was_reset p s = search within_refl

pub marked : (w : ℕ) (p : Privileges) → within w existing ≡ true → Sound p → Fewer p (mark_used w p)
unfolding mark_used
marked w p h s = search (within_refl, within_or, or_within)

pub emptied : (p : Privileges) → Sound p → Fewer p (only_used p)
unfolding only_used
emptied p s = search (within_refl, none_within)

-- ---- request 5

-- what is asked of it may be asked: an absent one is not enabled
Fits : Privileges → Entry → Type 0
Fits p e = eqb e.value 2 ≡ true → has e.key p.present ≡ true

entry_fits : (p : Privileges) (e : Entry) → valid_entry p e ≡ true → Fits p e
unfolding valid_entry Fits
entry_fits p e h t =
    let x = has e.key p.present in
    sym (ap (λ (a : ℕ). eqb a 0 || eqb a 4 || eqb a 2 && x) (eqb-true e.value 2 t)) ∙ and_r (exists e.key) _ h

once : (e : Entry) (p : Privileges) → Fits p e → Sound p → Fewer p (applied e p)
unfolding applied Fits
once e p h s =
    on_if (Fewer p) (eqb e.value 2) _ _ (λ t. enabled (2 ^ e.key) p (power_within e.key p.present (h t)) s)
    (λ t. on_if (Fewer p) (eqb e.value 4) _ _ (λ u. removed (2 ^ e.key) p s) (λ u. disabled (2 ^ e.key) p s))

-- what an entry about another privilege asks for still fits
still : (e f : Entry) (p : Privileges) → (f.key ≡ e.key → ⊥) → Fits p f → Fits (applied e p) f
unfolding applied Fits enable remove disable
still e f p ne h t =
    let P : Privileges → Type 0 = λ q. has f.key q.present ≡ true in
    on_if P (eqb e.value 2) _ _ (λ u. h t) (λ u. on_if P (eqb e.value 4) _ _
    (λ v. has_without f.key p.present (2 ^ e.key) ∙ and_i (h t) (ap not (has_power f.key e.key ∙ ne_eqb f.key e.key ne)))
    (λ v. h t))

all_fewer : (es : List Entry) (p : Privileges) → ((e : Entry) → Mem e es → Fits p e) → distinct (map key_of es) ≡ true → Sound p → Fewer p (apply_all applied es p)
unfolding apply_all key_of
all_fewer [] p h d s = fewer_refl p s
all_fewer (e ∷ es) p h d s =
    let a = once e p (h e (here refl)) s in
    fewer_trans p (applied e p) (apply_all applied es (applied e p)) a
    (all_fewer es (applied e p) (λ f m. still e f p (λ q. distinct_head e.key (map key_of es) d (mem_by key_of (sym q) m)) (h f (there m))) (distinct_tail e.key (map key_of es) d) a.sound)

pub adjusts : (es : List Entry) (p : Privileges) → (is_reset es || valid_entries (valid_entry p) es) ≡ true → Sound p → Fewer p (adjusted es p)
unfolding adjusted valid_entries
adjusts es p h s =
    on_if (Fewer p) (is_reset es) _ _ (λ t. was_reset p s)
    (λ t. let k : valid_entries (valid_entry p) es ≡ true = rw t at h in
    let all_ok = and_r (not (is_empty es)) (all (valid_entry p) es) (and_l _ (distinct (map key_of es)) k) in
    all_fewer es p (λ e m. entry_fits p e (all_mem (valid_entry p) es all_ok m)) (and_r (not (is_empty es) && all (valid_entry p) es) (distinct (map key_of es)) k) s)
