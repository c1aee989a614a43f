-- A condition's layout reads exactly what is written: each condition that fits and is no deeper than asked, and nothing else. Assumes nothing.
use Prim.Native.Nat.{ℕ, zero, suc, ◌≤◌}
use native.Mathlib.Omega.{arith}
use mathlib.Core.Path.{◌≡◌, refl, sym, ap, ap₂, subst, ◌∙◌}
use mathlib.Core.Bool.{true, ◌&&◌}
use mathlib.Core.List.{List, [], ◌∷◌, ◌++◌, append_assoc, append-nil}
use lib.Dec.{leb}
use lib.ListN.{get_or}
use borrow.Author.Tests.{leb-true, le-leb}
use Rattle.rules.specs.Basic.{all}
use Rattle.rules.specs.Condition.{Condition, all_of, any_of, negated, privilege_enabled, group_enabled, Conditions, none, more, depth, deepest, max_depth}
use Rattle.rules.specs.Evaluating.{count, written, written_all, fits, all_fit, InForm, ReadExactly}
use Rattle.rules.specs.Number.{Read, got, bad, encode, read_number, max32}
use Rattle.rules.specs.Request.{Reader, follow, ◌>>=◌, give, end, u32, unknown, conditions, list_layout, negated_layout, named_layout, kinds, condition, evaluate_layout, layouts, parse, Request}
use Rattle.rules.specs.Valid.{is_byte}
use Rattle.rules.proofs.Logic.{and_l, and_r}
use Rattle.rules.proofs.Numbers.{Form, read_form, read_encode}
use Rattle.rules.proofs.Widths.{Got, number, Each, at_number}

-- ---- what is written is read

number_back : (n : ℕ) (rest : List ℕ) → leb n max32 ≡ true → u32 (encode n ++ rest) ≡ got n rest
unfolding u32
number_back n rest h = read_encode n max32 rest (leb-true n max32 h)

-- the kind, before what it says
kind_back : (d k : ℕ) (bytes rest : List ℕ) (c : Condition) → leb k max32 ≡ true → get_or (kinds (condition d)) k unknown (bytes ++ rest) ≡ got c rest
    → condition (suc d) ((encode k ++ bytes) ++ rest) ≡ got c rest
unfolding condition ◌>>=◌ follow
kind_back d k bytes rest c h e = rw (append_assoc (encode k) bytes rest, number_back k (bytes ++ rest) h) e

list_back : (make : Conditions → Condition) (p : Reader Condition) (n : ℕ) (bytes rest : List ℕ) (cs : Conditions) → leb n max32 ≡ true
    → conditions n p (bytes ++ rest) ≡ got cs rest → list_layout make p ((encode n ++ bytes) ++ rest) ≡ got (make cs) rest
unfolding list_layout ◌>>=◌ follow give
list_back make p n bytes rest cs h e = rw (append_assoc (encode n) bytes rest, number_back n (bytes ++ rest) h, e)

named_back : (make : ℕ → Condition) (n : ℕ) (rest : List ℕ) → leb n max32 ≡ true → named_layout make (encode n ++ rest) ≡ got (make n) rest
unfolding named_layout ◌>>=◌ follow give
named_back make n rest h = rw (number_back n rest h)

more_back : (p : Reader Condition) (n : ℕ) (bytes after rest : List ℕ) (c : Condition) (cs : Conditions) → p bytes ≡ got c after → conditions n p after ≡ got cs rest
    → conditions (suc n) p bytes ≡ got (more c cs) rest
unfolding conditions follow give
more_back p n bytes after rest c cs e f = rw (e, f)

-- at least one deep
some_deep : (c : Condition) → 1 ≤ depth c
unfolding depth
some_deep (all_of cs) = omega arith
some_deep (any_of cs) = omega arith
some_deep (negated c) = omega (arith, some_deep c)
some_deep (privilege_enabled n) = omega arith
some_deep (group_enabled n) = omega arith

mutual
  unfolding written written_all depth deepest fits all_fit count kinds negated_layout ◌>>=◌ follow conditions give

  read_back : (c : Condition) (d : ℕ) (rest : List ℕ) → depth c ≤ d → fits c ≡ true → condition d (written c ++ rest) ≡ got c rest
  read_back (all_of cs) zero rest h f = absurd (omega arith)
  read_back (all_of cs) (suc d) rest h f =
      kind_back d 1 (encode (count cs) ++ written_all cs) rest (all_of cs) refl
      (list_back all_of (condition d) (count cs) (written_all cs) rest cs (and_l _ (all_fit cs) f) (read_all_back cs d rest (omega arith) (and_r (leb (count cs) max32) _ f)))
  read_back (any_of cs) zero rest h f = absurd (omega arith)
  read_back (any_of cs) (suc d) rest h f =
      kind_back d 2 (encode (count cs) ++ written_all cs) rest (any_of cs) refl
      (list_back any_of (condition d) (count cs) (written_all cs) rest cs (and_l _ (all_fit cs) f) (read_all_back cs d rest (omega arith) (and_r (leb (count cs) max32) _ f)))
  read_back (negated c) zero rest h f = absurd (omega (arith, some_deep (negated c)))
  read_back (negated c) (suc d) rest h f = kind_back d 3 (written c) rest (negated c) refl (rw (read_back c d rest (omega arith) f))
  read_back (privilege_enabled n) zero rest h f = absurd (omega arith)
  read_back (privilege_enabled n) (suc d) rest h f = kind_back d 4 (encode n) rest (privilege_enabled n) refl (named_back privilege_enabled n rest f)
  read_back (group_enabled n) zero rest h f = absurd (omega arith)
  read_back (group_enabled n) (suc d) rest h f = kind_back d 5 (encode n) rest (group_enabled n) refl (named_back group_enabled n rest f)

  read_all_back : (cs : Conditions) (d : ℕ) (rest : List ℕ) → deepest cs ≤ d → all_fit cs ≡ true → conditions (count cs) (condition d) (written_all cs ++ rest) ≡ got cs rest
  read_all_back none d rest h f = refl
  read_all_back (more c cs) d rest h f =
      ap (conditions (suc (count cs)) (condition d)) (append_assoc (written c) (written_all cs) rest)
      ∙ more_back (condition d) (count cs) (written c ++ (written_all cs ++ rest)) (written_all cs ++ rest) rest c cs
      (read_back c d (written_all cs ++ rest) (omega arith) (and_l (fits c) (all_fit cs) f))
      (read_all_back cs d rest (omega arith) (and_r (fits c) (all_fit cs) f))

-- ---- what is read was written

-- a number of 32 bits, and bytes after it
abbrev FormedNumber : List ℕ → Read ℕ → Type 0
FormedNumber bytes bad = Unit {0}
FormedNumber bytes (got n rest) = (bytes ≡ encode n ++ rest) × (n ≤ max32) × (all is_byte rest ≡ true)

abbrev Formed : ℕ → List ℕ → Read Condition → Type 0
Formed d bytes bad = Unit {0}
Formed d bytes (got c rest) = (depth c ≤ d) × (fits c ≡ true) × (bytes ≡ written c ++ rest) × (all is_byte rest ≡ true)

abbrev FormedAll : ℕ → ℕ → List ℕ → Read Conditions → Type 0
FormedAll d n bytes bad = Unit {0}
FormedAll d n bytes (got cs rest) = (deepest cs ≤ d) × (all_fit cs ≡ true) × (count cs ≡ n) × (bytes ≡ written_all cs ++ rest) × (all is_byte rest ≡ true)

-- both of what is said of a number that is read
number_form : (bytes : List ℕ) (r : Read ℕ) → Form bytes r → Got (λ n. n ≤ max32) r → FormedNumber bytes r
unfolding Got
number_form bytes bad f g = tt
number_form bytes (got n rest) f g = (f, g.0, g.1)

formed_number : (bytes : List ℕ) → all is_byte bytes ≡ true → FormedNumber bytes (u32 bytes)
unfolding u32
formed_number bytes b = number_form bytes (read_number max32 bytes) (read_form max32 bytes b) (number max32 bytes b)

-- a part before the rest, joined to what stands before it
joined : (a x rest bytes after : List ℕ) → bytes ≡ a ++ after → after ≡ x ++ rest → bytes ≡ (a ++ x) ++ rest
joined a x rest bytes after e f = e ∙ ap (λ (l : List ℕ). a ++ l) f ∙ sym (append_assoc a x rest)

module _ (d : ℕ) (p : Reader Condition) (inner : (bytes : List ℕ) → all is_byte bytes ≡ true → Formed d bytes (p bytes)) where
  one_more : (n : ℕ) (bytes after : List ℕ) (c : Condition) → Formed d bytes (got c after) → (r : Read Conditions) → FormedAll d n after r → FormedAll d (suc n) bytes (follow r (λ cs. give (more c cs)))
  unfolding follow give deepest all_fit count written_all
  one_more n bytes after c f bad g = tt
  one_more n bytes after c f (got cs rest) g =
      (omega (arith, f.0, g.0), ap₂ ◌&&◌ f.1 g.1, ap suc g.2, joined (written c) (written_all cs) rest bytes after f.2 g.3, g.4)

  first_form : (n : ℕ) → ((bytes : List ℕ) → all is_byte bytes ≡ true → FormedAll d n bytes (conditions n p bytes)) → (bytes : List ℕ) (r : Read Condition) → Formed d bytes r
      → FormedAll d (suc n) bytes (follow r (λ c after. follow (conditions n p after) (λ cs. give (more c cs))))
  unfolding follow
  first_form n later bytes bad f = tt
  first_form n later bytes (got c after) f = one_more n bytes after c f (conditions n p after) (later after f.3)

  conditions_form : (n : ℕ) (bytes : List ℕ) → all is_byte bytes ≡ true → FormedAll d n bytes (conditions n p bytes)
  unfolding conditions give deepest all_fit count written_all
  conditions_form zero bytes h = (omega arith, refl, refl, refl, h)
  conditions_form (suc n) bytes h = first_form n (conditions_form n) bytes (p bytes) (inner bytes h)

  -- what a kind's layout makes of what follows the kind
  abbrev OfKind : ℕ → Reader Condition → Type 0
  OfKind k l = (bytes after : List ℕ) → all is_byte after ≡ true → bytes ≡ encode k ++ after → Formed (suc d) bytes (l after)

  -- a list: the depth, the fit and the bytes are those of what stands inside
  module _ (k : ℕ) (make : Conditions → Condition) (deep : (cs : Conditions) → depth (make cs) ≡ suc (deepest cs))
      (fit : (cs : Conditions) → fits (make cs) ≡ (leb (count cs) max32 && all_fit cs)) (form : (cs : Conditions) → written (make cs) ≡ encode k ++ (encode (count cs) ++ written_all cs)) where
    list_made : (bytes after : List ℕ) → bytes ≡ encode k ++ after → (n : ℕ) (later : List ℕ) → FormedNumber after (got n later) → (r : Read Conditions) → FormedAll d n later r
        → Formed (suc d) bytes (follow r (λ cs. give (make cs)))
    unfolding follow give
    list_made bytes after e n later f bad g = tt
    list_made bytes after e n later f (got cs rest) g = (
      omega (arith, g.0, deep cs),
      fit cs ∙ ap₂ ◌&&◌ (le-leb (count cs) max32 (omega (arith, g.2, f.1))) g.1,
      rw (form cs) (joined (encode k) (encode (count cs) ++ written_all cs) rest bytes after e (joined (encode (count cs)) (written_all cs) rest after later (f.0 ∙ ap (λ (m : ℕ). encode m ++ later) (sym g.2)) g.3)),
      g.4,
    )

    counted : (bytes after : List ℕ) → bytes ≡ encode k ++ after → (r : Read ℕ) → FormedNumber after r
        → Formed (suc d) bytes (follow r (λ n later. follow (conditions n p later) (λ cs. give (make cs))))
    unfolding follow
    counted bytes after e bad f = tt
    counted bytes after e (got n later) f = list_made bytes after e n later f (conditions n p later) (conditions_form n later f.2)

    list_form : OfKind k (list_layout make p)
    unfolding list_layout ◌>>=◌
    list_form bytes after b e = counted bytes after e (u32 after) (formed_number after b)

  negated_form : OfKind 3 (negated_layout p)
  unfolding negated_layout ◌>>=◌ follow give depth fits written
  negated_form bytes after b e = go (p after) (inner after b)
    where
      go : (r : Read Condition) → Formed d after r → Formed (suc d) bytes (follow r (λ c. give (negated c)))
      go bad f = tt
      go (got c rest) f = (omega (arith, f.0), f.1, joined (encode 3) (written c) rest bytes after e f.2, f.3)

  named_form : (k : ℕ) (make : ℕ → Condition) → ((n : ℕ) → depth (make n) ≡ 1) → ((n : ℕ) → fits (make n) ≡ leb n max32) → ((n : ℕ) → written (make n) ≡ encode k ++ encode n)
      → OfKind k (named_layout make)
  unfolding named_layout ◌>>=◌ follow give
  named_form k make deep fit form bytes after b e = go (u32 after) (formed_number after b)
    where
      go : (r : Read ℕ) → FormedNumber after r → Formed (suc d) bytes (follow r (λ n. give (make n)))
      go bad f = tt
      go (got n rest) f = (omega (arith, deep n), fit n ∙ le-leb n max32 f.1, rw (form n) (joined (encode k) (encode n) rest bytes after e f.0), f.2)

  kinds_form : Each OfKind 0 (kinds p)
  unfolding Each kinds unknown depth fits written
  kinds_form = (
    (λ bytes after b e. tt),
    (list_form 1 all_of (λ cs. refl) (λ cs. refl) (λ cs. refl), (list_form 2 any_of (λ cs. refl) (λ cs. refl) (λ cs. refl), (negated_form, (named_form 4 privilege_enabled (λ n. refl) (λ n. refl) (λ n. refl), (named_form 5 group_enabled (λ n. refl) (λ n. refl) (λ n. refl), tt))))),
  )

  of_kind_lem : (bytes : List ℕ) (r : Read ℕ) → FormedNumber bytes r → Formed (suc d) bytes (follow r (λ k. get_or (kinds p) k unknown))
  unfolding follow unknown
  of_kind_lem bytes bad f = tt
  of_kind_lem bytes (got k after) f = at_number OfKind (λ n bytes after b e. tt) 0 (kinds p) k kinds_form bytes after f.2 (subst (λ (m : ℕ). bytes ≡ encode m ++ after) (omega arith) f.0)

condition_form : (d : ℕ) (bytes : List ℕ) → all is_byte bytes ≡ true → Formed d bytes (condition d bytes)
unfolding condition unknown ◌>>=◌
condition_form zero bytes b = tt
condition_form (suc d) bytes b = of_kind_lem d (condition d) (condition_form d) bytes (u32 bytes) (formed_number bytes b)

-- ---- the fields of request 18

-- what ends at the body's end is the condition
ended : (fields : List ℕ) (h n : ℕ) (after : List ℕ) (c : Condition) → FormedNumber fields (got h after) → (r : Read Condition) → Formed max_depth after r
    → follow r (λ x. end (Request.evaluate h x)) ≡ got (Request.evaluate n c) [] → InForm fields n c
unfolding follow end
ended fields h n after c f bad g e = absurd (let z : ◌≡◌ {A = ℕ} 0 1 = cc in omega arith)
ended fields h n after c f (got x (b ∷ rest)) g e = absurd (let z : ◌≡◌ {A = ℕ} 0 1 = cc in omega arith)
ended fields h n after c f (got x []) g e =
    let same : h ≡ n = cc in
    let this : x ≡ c = cc in
    record {
      deep = subst (λ y. depth y ≤ max_depth) this g.0;
      fit = subst (λ y. fits y ≡ true) this g.1;
      handle = omega (arith, f.1);
      bytes = f.0 ∙ ap₂ (λ (m : ℕ) (l : List ℕ). encode m ++ l) same (g.2 ∙ append-nil (written x) ∙ ap written this);
    }

asked : (fields : List ℕ) (n : ℕ) (c : Condition) (r : Read ℕ) → FormedNumber fields r
    → follow r (λ h. ◌>>=◌ (condition max_depth) (λ x. end (Request.evaluate h x))) ≡ got (Request.evaluate n c) [] → InForm fields n c
unfolding follow ◌>>=◌
asked fields n c bad f e = absurd (let z : ◌≡◌ {A = ℕ} 0 1 = cc in omega arith)
asked fields n c (got h after) f e = ended fields h n after c f (condition max_depth after) (condition_form max_depth after f.2) e

by_number_lem : (fields : List ℕ) → parse (18 ∷ fields) ≡ evaluate_layout fields
unfolding parse ◌>>=◌ follow u32 read_number layouts
by_number_lem fields = refl

written_back : (n : ℕ) (c : Condition) → depth c ≤ max_depth → fits c ≡ true → n ≤ max32 → evaluate_layout (encode n ++ written c) ≡ got (Request.evaluate n c) []
unfolding evaluate_layout ◌>>=◌ follow end
written_back n c deep fit small =
    rw (number_back n (written c) (le-leb n max32 small), subst (λ l. condition max_depth l ≡ got c []) (append-nil (written c)) (read_back c max_depth [] deep fit))

pub read_exactly : (fields : List ℕ) (n : ℕ) (c : Condition) → all is_byte fields ≡ true → ReadExactly fields n c
unfolding evaluate_layout ◌>>=◌
read_exactly fields n c b = record {
  form = λ e. asked fields n c (u32 fields) (formed_number fields b) (sym (by_number_lem fields) ∙ e);
  back = λ f. by_number_lem fields ∙ ap evaluate_layout f.bytes ∙ written_back n c f.deep f.fit f.handle;
}
