-- What the SIDs of request 10 are asked for: each is a number in the table, and none is new. Assumes nothing.
use Prim.Native.Nat.{ℕ, zero, suc}
use native.Mathlib.Omega.{arith}
use mathlib.Core.Path.{◌≡◌, refl, sym, ap, ◌∙◌}
use mathlib.Core.Bool.{Bool, true, ◌&&◌}
use mathlib.Core.List.{List, [], ◌∷◌, map}
use lib.ListN.{length, drop}
use Rattle.std.specs.List.{list_all}
use Rattle.rules.specs.Basic.{all}
use Rattle.rules.specs.Number.{Read, got, bad}
use Rattle.rules.specs.Sid.{Sid}
use Rattle.rules.specs.SidTable.{is_number}
use Rattle.rules.specs.Given.{Given, by_number, entered_all, number_in}
use Rattle.rules.specs.Request.{follow, give, ◌>>=◌, times, u32, sid_number}
use Rattle.rules.proofs.Facts.{valid_facts}
use Rattle.rules.proofs.SidNumbers.{sids_fit, sids_few, is_by_number, numbers_enter_none}
use Rattle.sid.specs.Numbers.{NumberIn}
use Rattle.control.specs.Sids.{SidCount}
use Rattle.copy.specs.Asked.{NumbersJudged, NumbersAsked}
use Rattle.copy.specs.declared.restricting.Sids.{Sids}
use Rattle.copy.specs.Numbers.{numbers_in}
use Rattle.copy.proofs.NumbersRead.{all_got}

-- ---- by the table's size

pub numbered : (n count : ℕ) (b : Bool) → NumberIn n count b → (sids : List Sid) → length sids ≡ count → b ≡ is_number sids n
numbered n count b d sids l = d.is sids l

pub list_all_lem : {A : Type 0} (f : A → Bool) (xs : List A) → list_all f xs ≡ all f xs
unfolding all
list_all_lem f [] = refl
list_all_lem f (x ∷ xs) = ap (λ (b : Bool). f x && b) (list_all_lem f xs)

-- ---- in a state

pub asks_numbers : (list : Sids) {s : List ℕ} {at count many size : ℕ} {cs ns : List ℕ} {known : Bool} → SidCount cs size → ns ≡ numbers_in many (drop at s) → many ≡ count → NumbersJudged ns size known
    → NumbersAsked list s at count cs (record { list = list; known = known; fits = true })
asks_numbers list {s} {at} {count} n all_of f j = record {
  same = refl;
  known = λ given later e σ v c.
      j.judged σ.sids (sym (n.count σ c)) (omega (arith, n.count σ c, sids_few σ.sids (valid_facts σ v).loose.sids)) ∙ ap (all (is_number σ.sids)) (all_got count (drop at s) all_of f e);
  fits = λ σ v. sym (sids_fit σ.sids (valid_facts σ v).loose.sids);
}

-- ---- numbers, as SIDs given

-- what is read, put through f
abbrev read_map : {A B : Type 0} → (A → B) → Read A → Read B
read_map f (got a later) = got (f a) later
read_map f bad = bad

numbers_map : (count : ℕ) (bytes : List ℕ) → times count sid_number bytes ≡ read_map (map by_number) (times count u32 bytes)
unfolding times sid_number ◌>>=◌ follow give
numbers_map zero bytes = refl
numbers_map (suc n) bytes = by (λ l. numbers_map n l) (u32 bytes)
  where
    on : (v : ℕ) (x : Read (List ℕ)) → follow (read_map (map by_number) x) (λ xs. give (by_number v ∷ xs)) ≡ read_map (map by_number) (follow x (λ xs. give (v ∷ xs)))
    on v (got xs l) = refl
    on v bad = refl

    by : ((l : List ℕ) → times n sid_number l ≡ read_map (map by_number) (times n u32 l)) → (x : Read ℕ) → follow (follow x (λ v. give (by_number v))) (λ y l. follow (times n sid_number l) (λ ys. give (y ∷ ys)))
        ≡ read_map (map by_number) (follow x (λ v l. follow (times n u32 l) (λ vs. give (v ∷ vs))))
    by more (got v l) = ap (λ (x : Read (List Given)). follow x (λ xs. give (by_number v ∷ xs))) (more l) ∙ on v (times n u32 l)
    by more bad = refl

pub numbers_read : (count : ℕ) (bytes : List ℕ) {given : List Given} {later : List ℕ} → times count sid_number bytes ≡ got given later
    → (ns : List ℕ) × (map by_number ns ≡ given) × (times count u32 bytes ≡ got ns later)
numbers_read count bytes {given} {later} e = by (times count u32 bytes) (sym (numbers_map count bytes) ∙ e)
  where
    by : (x : Read (List ℕ)) → read_map (map by_number) x ≡ got given later → (ns : List ℕ) × (map by_number ns ≡ given) × (x ≡ got ns later)
    by (got ns l) h = let e : got (map by_number ns) l ≡ got given later = h in let q : map by_number ns ≡ given = cc in let r : l ≡ later = cc in (ns, q, ap (got ns) r)
    by bad h = let e : ◌≡◌ {A = Read (List Given)} bad (got given later) = h in let z : ◌≡◌ {A = ℕ} 0 1 = cc in absurd (omega arith)

by_number_lem : (ns : List ℕ) → all is_by_number (map by_number ns) ≡ true
unfolding all is_by_number
by_number_lem [] = refl
by_number_lem (n ∷ ns) = by_number_lem ns

-- none enters, and each stays what it is
pub none_enters : (ns : List ℕ) (sids : List Sid) → entered_all (map by_number ns) sids ≡ sids
none_enters ns sids = numbers_enter_none (map by_number ns) sids (by_number_lem ns)

pub number_stays : (sids : List Sid) (ns : List ℕ) → map (number_in sids) (map by_number ns) ≡ ns
unfolding number_in
number_stays sids [] = refl
number_stays sids (n ∷ ns) = ap (λ (l : List ℕ). n ∷ l) (number_stays sids ns)
