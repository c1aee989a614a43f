-- The tests and changes of a group's attributes, by the bits of their word. Assumes nothing.
use Rattle.std.proofs.Common.{◌≡◌, ℕ, ◌*◌, ◌/◌, ◌%◌, ◌^◌, ◌<◌, Bool, true, false, not, ◌&&◌, ◌||◌, eqb, ap, refl, sym, ◌∙◌, arith, ne_eqb, lit<}
use Rattle.std.specs.Int.Bits.{bit_and, bit_or}
use Rattle.std.proofs.lemmas.Grind.{common_steps}
use Rattle.std.proofs.lemmas.Nat.Bits.{and_high}
use Rattle.std.proofs.lemmas.Nat.{shr-shr}
use Rattle.rules.specs.Bits.{has, without}
use Rattle.rules.specs.Group.{Group, is_mandatory, is_enabled_by_default, is_enabled, is_owner, is_deny_only, is_logon, is_fixed, with_enabled, denied}
use Rattle.rules.proofs.Bits.{and_power, and_not}
use Rattle.token.specs.Meaning.{group_of}
use Rattle.token.specs.declared.Group as Code

-- one bit
tested : (n w : ℕ) → 0 < 2 ^ n → not (eqb (bit_and w (2 ^ n)) 0) ≡ has n w
tested n w h = pick (has n w) refl
  where
    pick : (b : Bool) → has n w ≡ b → not (eqb (bit_and w (2 ^ n)) 0) ≡ b
    pick true e = ap (λ (k : ℕ). not (eqb k 0)) (and_power w n true e) ∙ ap not (ne_eqb (2 ^ n) 0 (λ z. omega arith))
    pick false e = ap (λ (k : ℕ). not (eqb k 0)) (and_power w n false e)

-- the two highest bits of a word of 32
both : (x y : ℕ) → y ≡ x / 2 → eqb (x % 4 * 2 ^ 30) (3 * 2 ^ 30) ≡ (eqb (x % 2) 1 && eqb (y % 2) 1)
both x y e = grind (arith, common_steps)

module _ (g : Code.Group) where
  pub mandatory : not (eqb (bit_and g.attributes 1) 0) ≡ is_mandatory (group_of g)
  unfolding is_mandatory
  mandatory = tested 0 g.attributes (lit< tt)

  pub by_default : not (eqb (bit_and g.attributes 2) 0) ≡ is_enabled_by_default (group_of g)
  unfolding is_enabled_by_default
  by_default = tested 1 g.attributes (lit< tt)

  pub enabled : not (eqb (bit_and g.attributes 4) 0) ≡ is_enabled (group_of g)
  unfolding is_enabled
  enabled = tested 2 g.attributes (lit< tt)

  pub owner : not (eqb (bit_and g.attributes 8) 0) ≡ is_owner (group_of g)
  unfolding is_owner
  owner = tested 3 g.attributes (lit< tt)

  pub deny_only : not (eqb (bit_and g.attributes 16) 0) ≡ is_deny_only (group_of g)
  unfolding is_deny_only
  deny_only = tested 4 g.attributes (lit< tt)

  pub logon : eqb (bit_and g.attributes 0xC0000000) 0xC0000000 ≡ is_logon (group_of g)
  unfolding is_logon has
  logon = ap (λ (k : ℕ). eqb k 0xC0000000) (and_high g.attributes 2 30) ∙ both (g.attributes / 2 ^ 30) (g.attributes / 2 ^ 31) (sym (shr-shr g.attributes 30 1))

  pub fixed : (user : ℕ) → (is_mandatory (group_of g) || is_logon (group_of g) || eqb g.sid user) ≡ is_fixed user (group_of g)
  unfolding is_fixed
  fixed user = refl

  abbrev with_attributes : ℕ → Group
  with_attributes a = record { sid = g.sid; attributes = a }

  pub turned_on : (b : Bool) → b ≡ true → with_attributes (bit_or g.attributes 4) ≡ with_enabled b (group_of g)
  unfolding with_enabled
  turned_on b h = rw h

  pub turned_off : (b : Bool) {w : ℕ} → b ≡ false → w ≡ without g.attributes 4 → with_attributes w ≡ with_enabled b (group_of g)
  unfolding with_enabled
  turned_off b h e = rw (h, e)

  pub turned_denied : {w : ℕ} → w ≡ without (bit_or g.attributes 0x10) 4 → with_attributes w ≡ denied (group_of g)
  unfolding denied
  turned_denied e = rw e

pub not_four : (a : ℕ) → a < 2 ^ 32 → bit_and a 0xFFFFFFFB ≡ without a 4
not_four a h = and_not 32 a 4 h (lit< tt)

pub ruleset attributes = (mandatory, by_default, enabled, owner, deny_only, logon, fixed, turned_on, turned_off, turned_denied, not_four)
