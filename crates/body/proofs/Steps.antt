-- The steps of a reader and those of a layout. Assumes nothing.
use Rattle.std.proofs.Common.{ℕ, ◌≡◌, refl, sym, ap, Bool, true, false, List, [], ◌∷◌}
use Rattle.std.specs.Prelude.{Option, Some, None, if◌then◌else◌}
use Rattle.std.specs.Bool.{then_some}
use Rattle.rules.specs.Basic.{is_empty}
use Rattle.rules.specs.Number.{Read, got, bad}
use Rattle.rules.specs.Request.{Reader, ◌>>=◌, follow, end}
use Rattle.number.specs.Rest.{after}
use Rattle.body.specs.Layout.{whole, listed}

module _ {A B : Type 0} (p : Reader A) (f : A → Reader B) (bytes : List ℕ) where
  pub bind_bad : bad ≡ p bytes → ◌>>=◌ p f bytes ≡ bad
  unfolding ◌>>=◌ follow
  bind_bad e = rw (sym e)

  pub bind_got : (a : A) (later : List ℕ) → got a later ≡ p bytes → ◌>>=◌ p f bytes ≡ f a later
  unfolding ◌>>=◌ follow
  bind_got a later e = rw (sym e)

-- a list is skipped, or is not there
module _ {A B : Type 0} (p : Reader (List A)) (f : List A → Reader B) (bytes : List ℕ) where
  pub bind_lost : None ≡ after (p bytes) → ◌>>=◌ p f bytes ≡ bad
  unfolding ◌>>=◌ follow after
  bind_lost e = by (p bytes) e
    where
      by : (x : Read (List A)) → None ≡ after x → follow x f ≡ bad
      by bad d = refl
      by (got xs l) d = cc

  pub bind_list : (later : List ℕ) → Some later ≡ after (p bytes) → ◌>>=◌ p f bytes ≡ f (listed (p bytes)) later
  unfolding ◌>>=◌ follow after listed
  bind_list later e = by (p bytes) e
    where
      by : (x : Read (List A)) → Some later ≡ after x → follow x f ≡ f (listed x) later
      by bad d = cc
      by (got xs l) d = let k : later ≡ l = cc in ap (f xs) (sym k)

-- nothing is left behind the last field
pub end_at : {A : Type 0} (a : A) (bytes : List ℕ) → end a bytes ≡ (if is_empty bytes then got a [] else bad)
unfolding end is_empty
end_at a [] = refl
end_at a (b ∷ bytes) = refl

pub whole_then : {F A : Type 0} (request : F → A) (r : Option F) (ok : Bool) (f : F) → r ≡ then_some ok f → whole request r ≡ (if ok then got (request f) [] else bad)
whole_then request r true f e = rw e
whole_then request r false f e = rw e

pub ruleset steps = (bind_bad, bind_got, bind_lost, bind_list, end_at, whole_then)
