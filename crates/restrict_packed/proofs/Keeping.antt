-- Request 15: the source's SIDs that stay, by the marks. Assumes nothing.
use Prim.Native.Nat.{ℕ, ◌≤◌, ◌<◌}
use mathlib.Core.Path.{◌≡◌, sym, ap, ap₂, ◌∙◌}
use mathlib.Core.Bool.{Bool, false, ◌&&◌, ◌||◌}
use mathlib.Core.List.{List}
use lib.Dec.{eqb, ltb}
use lib.ListN.{get_or}
use borrow.Author.Tests.{eq-eqb, ne_eqb, lt-ltb, le-ltb}
use Rattle.std.specs.Prelude.{Option, unwrap_or}
use Rattle.copy.specs.declared.restricting.Sids.{Sids}
use Rattle.copy.specs.Restricting.{so_many, Answers, OwnKept}
use Rattle.restrict_packed.specs.Gathered.{numbers_end, is_marked}
use Rattle.restrict_packed.specs.Kept.{stays_by, ListMade}

module _ (sid count : ℕ) (ms : List Bool) where
  pub none_given : count ≡ 0 → eqb count 0 ≡ stays_by count ms sid
  unfolding stays_by
  none_given z = eq-eqb count 0 z ∙ sym (ap (λ (b : Bool). b || is_marked ms sid) (eq-eqb count 0 z))

  module _ (n : count ≡ 0 → ⊥) where
    pub stays_marked : sid < numbers_end → get_or ms sid false ≡ stays_by count ms sid
    unfolding stays_by is_marked
    stays_marked l = sym (ap₂ (λ (a b : Bool). a || (b && get_or ms sid false)) (ne_eqb count 0 n) (lt-ltb sid numbers_end l))

    pub stays_past : numbers_end ≤ sid → ltb sid numbers_end ≡ stays_by count ms sid
    unfolding stays_by is_marked
    stays_past l = le-ltb sid numbers_end l ∙ sym (ap₂ (λ (a b : Bool). a || (b && get_or ms sid false)) (ne_eqb count 0 n) (le-ltb sid numbers_end l))

module _ (slot own : ℕ) {ts : List ℕ} {count : ℕ} {given : Option Sids} {ms : List Bool} {r : Sids} where
  pub lists_given : own ≡ 0 → r ≡ unwrap_or given (so_many count) → ListMade slot own ts count given ms r
  lists_given z e = record { none = λ y. e; some = λ ne. absurd (ne z) }

  pub lists_kept : (own ≡ 0 → ⊥) → {test : ℕ → Bool → Type 0} → OwnKept slot own ts (Answers test) r → Answers test (stays_by count ms) → ListMade slot own ts count given ms r
  lists_kept ne k answers = record { none = λ z. absurd (ne z); some = λ y t n q. k.listed (stays_by count ms) answers t n q }
