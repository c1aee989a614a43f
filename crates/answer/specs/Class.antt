-- The classes' numbers, as the protocol has them. Assumes nothing.
use Rattle.std.specs.Prelude.{ℕ, ◌≡◌, false, ◌&&◌, leb, Result, MatchResult}
use Rattle.answer.specs.declared.class.Single.{Single}
use Rattle.answer.specs.declared.class.Single.TheVariants as single
use Rattle.answer.specs.declared.class.Class.{Class}
use Rattle.answer.specs.declared.class.Class.TheVariants as class
use Rattle.answer.specs.declared.refusal.Refusal.{Refusal}
use Rattle.answer.specs.declared.refusal.Refusal.TheVariants as refusal

abbrev pub single_number : Single → ℕ
single_number single.User = 1
single_number single.Owner = 4
single_number single.PrimaryGroup = 5
single_number single.Type = 7
single_number single.Level = 8
single_number single.Scope = 11
single_number single.Elevation = 12
single_number single.Integrity = 13

abbrev pub class_number : Class → ℕ
class_number (class.Single x) = single_number x
class_number class.Groups = 2
class_number class.Privileges = 3
class_number class.Dacl = 6
class_number class.Statistics = 9
class_number class.Restricting = 10

-- the class of a number from 1 to 13
abbrev pub Decodes : ℕ → Result Class Refusal → Type 0
Decodes n r = MatchResult r (λ c. class_number c ≡ n) (λ e. (e ≡ refusal.BadField) × (leb 1 n && leb n 13 ≡ false))
