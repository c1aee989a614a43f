-- What is read is within its field's width: of a body of bytes, every field of the request. Assumes nothing.
use Prim.Native.Nat.{ℕ, zero, suc, ◌+◌, ◌^◌, ◌≤◌}
use native.Mathlib.Omega.{arith}
use mathlib.Core.Path.{◌≡◌, refl, subst}
use mathlib.Core.Bool.{Bool, true}
use mathlib.Core.List.{List, [], ◌∷◌, map}
use lib.ListN.{get_or}
use borrow.Author.Tests.{lt-ltb}
use Rattle.rules.specs.Basic.{all, is_below}
use Rattle.rules.specs.Condition.{Condition, all_of, any_of, negated, privilege_enabled, group_enabled, Conditions, none, more, max_depth}
use Rattle.rules.specs.Entry.{Entry}
use Rattle.rules.specs.Given.{Given, GivenGroup, group_sid}
use Rattle.rules.specs.Sid.{packed, read_sid, valid_sid, Sid}
use Rattle.rules.specs.Growth.{Mem}
use Rattle.rules.specs.Number.{max16, max32, max64, read_number, Read, got, bad}
use Rattle.rules.specs.Request.{Reader, follow, ◌>>=◌, give, end, byte, times, u16, u32, u64, sid_number, packed_sid, group, entry, unknown, conditions, list_layout, negated_layout, named_layout, kinds, condition, number_layout, entries_layout, create_layout, query_layout, scope_layout, defaults_layout, duplicate_layout, restrict_layout, link_layout, evaluate_layout, layouts, parse, Request}
use Rattle.rules.specs.Valid.{is_byte, is32, is64}
use Rattle.rules.proofs.Logic.{and_l, and_r, and_i, all_mem, mem_all, mem_right}
use Rattle.rules.proofs.Numbers.{by_reading}
use Rattle.rules.proofs.Sids.{read_form}
use Rattle.rules.proofs.SidNumbers.{given_valid}

-- ---- what a reader gives, of bytes

unfoldable pub Got : {A : Type 0} → (A → Type 0) → Read A → Type 0
Got P bad = Unit {0}
Got P (got a rest) = P a × (all is_byte rest ≡ true)

record Reads {A : Type 0} (P : A → Type 0) (p : Reader A) : Type 0 where
  gives : (bytes : List ℕ) → all is_byte bytes ≡ true → Got P (p bytes)

module _ {A B : Type 0} {P : A → Type 0} {Q : B → Type 0} where
  followed : (r : Read A) (f : A → Reader B) → Got P r → ((a : A) → P a → Reads Q (f a)) → Got Q (follow r f)
  unfolding follow Got
  followed bad f h k = tt
  followed (got a rest) f h k = (k a h.0).gives rest h.1

  and_then : (p : Reader A) (f : A → Reader B) → Reads P p → ((a : A) → P a → Reads Q (f a)) → Reads Q (◌>>=◌ p f)
  unfolding ◌>>=◌
  and_then p f h k = record { gives = λ bytes b. followed (p bytes) f (h.gives bytes b) k }

gives_it : {A : Type 0} {P : A → Type 0} (a : A) → P a → Reads P (give a)
unfolding give Got
gives_it a h = record { gives = λ bytes b. (h, b) }

ends : {A : Type 0} {P : A → Type 0} (a : A) → P a → Reads P (end a)
unfolding end Got
ends {P = P} a h = record { gives = go }
  where
    go : (bytes : List ℕ) → all is_byte bytes ≡ true → Got P (end a bytes)
    go [] b = (h, b)
    go (x ∷ bytes) b = tt

-- each reader of a list, by its number
unfoldable pub Each : {A : Type 0} → (ℕ → Reader A → Type 0) → ℕ → List (Reader A) → Type 0
Each P k [] = Unit {0}
Each P k (l ∷ ls) = P k l × Each P (suc k) ls

pub at_number : {A : Type 0} (P : ℕ → Reader A → Type 0) → ((n : ℕ) → P n unknown) → (k : ℕ) (ls : List (Reader A)) (n : ℕ) → Each P k ls → P (k + n) (get_or ls n unknown)
unfolding Each
at_number P other k [] n h = other (k + n)
at_number P other k (l ∷ ls) zero h = subst (λ m. P m l) (omega arith) h.0
at_number P other k (l ∷ ls) (suc n) h = subst (λ m. P m (get_or ls n unknown)) (omega arith) (at_number P other (suc k) ls n h.1)

-- ---- numbers

reads : {A : Type 0} {P Q : A → Type 0} (r : Read A) → ((a : A) → P a → Q a) → Got P r → Got Q r
unfolding Got
reads bad f h = tt
reads (got a rest) f h = (f a h.0, h.1)

pub number : (top : ℕ) (bytes : List ℕ) → all is_byte bytes ≡ true → Got (λ n. n ≤ top) (read_number top bytes)
unfolding Got all
number = by_reading (λ top bytes r. all is_byte bytes ≡ true → Got (λ n. n ≤ top) r)
    (λ top bytes h. tt)
    (λ top b bytes l k h. (k, and_r (is_byte b) (all is_byte bytes) h))
    (λ top b n bytes rest l z k f h. (k, (f (and_r (is_byte b) (all is_byte bytes) h)).1))

number32 : Reads (λ n. is32 n ≡ true) u32
unfolding u32 is32
number32 = record { gives = λ bytes b. reads (read_number max32 bytes) (λ n h. lt-ltb n (2 ^ 32) (omega arith)) (number max32 bytes b) }

number64 : Reads (λ n. is64 n ≡ true) u64
unfolding u64 is64
number64 = record { gives = λ bytes b. reads (read_number max64 bytes) (λ n h. lt-ltb n (2 ^ 64) (omega arith)) (number max64 bytes b) }

number16 : Reads (λ n. Unit {0}) u16
unfolding u16
number16 = record { gives = λ bytes b. reads (read_number max16 bytes) (λ n h. tt) (number max16 bytes b) }

a_byte : Reads (λ n. is_byte n ≡ true) byte
unfolding byte Got all
a_byte = record { gives = go }
  where
    go : (bytes : List ℕ) → all is_byte bytes ≡ true → Got (λ n. is_byte n ≡ true) (byte bytes)
    go [] b = tt
    go (x ∷ bytes) b = (and_l (is_byte x) (all is_byte bytes) b, and_r (is_byte x) (all is_byte bytes) b)

-- ---- repeated fields

module _ {A : Type 0} (f : A → Bool) (p : Reader A) (h : Reads (λ a. f a ≡ true) p) where
  many : (n : ℕ) → Reads (λ xs. all f xs ≡ true) (times n p)
  unfolding times all
  many zero = gives_it [] refl
  many (suc n) =
      record {
        gives = λ bytes b.
            followed (p bytes) (λ x rest. follow (times n p rest) (λ xs. give (x ∷ xs))) (h.gives bytes b)
            (λ x k. record { gives = λ rest c. followed (times n p rest) (λ xs. give (x ∷ xs)) ((many n).gives rest c) (λ xs l. gives_it (x ∷ xs) (and_i k l)) });
      }

unfoldable Whatever : {A : Type 0} → A → Type 0
Whatever a = Unit {0}

unfoldable anything : Entry → Bool
anything e = true

-- ---- SIDs

a_number : Reads (λ x. given_valid x ≡ true) sid_number
unfolding sid_number given_valid
a_number = and_then u32 _ number32 λ n h. gives_it _ refl

a_sid : Reads (λ s. valid_sid s ≡ true) read_sid
unfolding Got is_byte is_below
a_sid = record { gives = λ bytes b. go bytes b (read_sid bytes) refl }
  where
    go : (bytes : List ℕ) → all is_byte bytes ≡ true → (r : Read Sid) → read_sid bytes ≡ r → Got (λ s. valid_sid s ≡ true) r
    go bytes b bad e = tt
    go bytes b (got s rest) e = let r = read_form bytes b s rest e in (r.1, mem_all is_byte rest (λ n m. all_mem is_byte bytes b (subst (Mem n) r.0 (mem_right (packed s) m))))

a_packed : Reads (λ x. given_valid x ≡ true) packed_sid
unfolding packed_sid given_valid
a_packed = and_then read_sid _ a_sid λ s h. gives_it _ h

unfoldable given_group : GivenGroup → Bool
given_group g = given_valid g.sid

all_given : (gs : List GivenGroup) → all given_group gs ≡ true → all given_valid (map group_sid gs) ≡ true
unfolding all given_group group_sid
all_given [] h = refl
all_given (g ∷ gs) h = and_i (and_l (given_group g) (all given_group gs) h) (all_given gs (and_r (given_group g) (all given_group gs) h))

-- by how a SID is read
module _ (p : Reader Given) (ok : Reads (λ x. given_valid x ≡ true) p) where
  a_group : Reads (λ g. given_group g ≡ true) (group p)
  unfolding group given_group
  a_group = and_then p _ ok λ s h. and_then u32 _ number32 λ a k. gives_it _ h

an_entry : Reads (λ e. anything e ≡ true) entry
unfolding entry anything
an_entry = and_then u32 _ number32 λ s h. and_then u32 _ number32 λ a k. gives_it _ refl

-- ---- the layouts

-- the fields that are kept are within their widths
unfoldable pub Fits : Request → Type 0
Fits (Request.open_own mask) = Unit {0}
Fits (Request.close h) = Unit {0}
Fits (Request.create user session integrity present by_default gs) = (is64 session ≡ true) × (all given_valid (user ∷ map group_sid gs) ≡ true)
Fits (Request.query h class capacity) = Unit {0}
Fits (Request.privileges h es) = Unit {0}
Fits (Request.groups h es) = Unit {0}
Fits (Request.scope h v) = is32 v ≡ true
Fits (Request.defaults h owner group flag bytes) = all is_byte bytes ≡ true
Fits (Request.duplicate h type level mask) = Unit {0}
Fits (Request.restrict h mark removed deny sids) = all given_valid sids ≡ true
Fits (Request.install h) = Unit {0}
Fits (Request.impersonate h) = Unit {0}
Fits Request.revert = Unit {0}
Fits (Request.link h k session) = Unit {0}
Fits (Request.linked h) = Unit {0}
Fits (Request.evaluate h c) = Unit {0}

in_number : (f : ℕ → Request) → ((n : ℕ) → Fits (f n)) → Reads Fits (number_layout f)
unfolding number_layout
in_number f fit = and_then u32 _ number32 λ n h. ends _ (fit n)

in_entries : (f : ℕ → List Entry → Request) → ((n : ℕ) (es : List Entry) → Fits (f n es)) → Reads Fits (entries_layout f)
unfolding entries_layout
in_entries f fit = and_then u32 _ number32 λ h i. and_then u32 _ number32 λ n j. and_then _ _ (many anything entry an_entry n) λ es k. ends _ (fit h es)

in_create : (p : Reader Given) → Reads (λ x. given_valid x ≡ true) p → Reads Fits (create_layout p)
unfolding create_layout Fits all
in_create sid ok =
    and_then sid _ ok λ user hu. and_then u64 _ number64 λ session hs. and_then u32 _ number32 λ i hi. and_then u64 _ number64 λ p hp.
    and_then u64 _ number64 λ d hd. and_then u32 _ number32 λ n hn. and_then _ _ (many given_group (group sid) (a_group sid ok) n) λ gs hg. ends _ (hs, and_i hu (all_given gs hg))

in_query : Reads Fits query_layout
unfolding query_layout Fits
in_query = and_then u32 _ number32 λ a h. and_then u32 _ number32 λ b i. and_then u32 _ number32 λ c j. ends _ tt

in_scope : Reads Fits scope_layout
unfolding scope_layout Fits
in_scope = and_then u32 _ number32 λ a h. and_then u32 _ number32 λ v i. ends _ i

in_defaults : Reads Fits defaults_layout
unfolding defaults_layout Fits
in_defaults =
    and_then u32 _ number32 λ a h. and_then u16 _ number16 λ o ho. and_then u16 _ number16 λ g hg. and_then u32 _ number32 λ f hf.
    and_then u32 _ number32 λ n hn. and_then _ _ (many is_byte byte a_byte n) λ bytes hb. ends _ hb

in_duplicate : Reads Fits duplicate_layout
unfolding duplicate_layout Fits
in_duplicate = and_then u32 _ number32 λ a h. and_then u32 _ number32 λ b i. and_then u32 _ number32 λ c j. and_then u32 _ number32 λ d k. ends _ tt

in_restrict : (p : Reader Given) → Reads (λ x. given_valid x ≡ true) p → Reads Fits (restrict_layout p)
unfolding restrict_layout Fits
in_restrict p ok =
    and_then u32 _ number32 λ a h. and_then u32 _ number32 λ m hm. and_then u64 _ number64 λ r hr. and_then u32 _ number32 λ n hn. and_then u32 _ number32 λ k hk.
    and_then _ _ (many is32 u32 number32 n) λ deny hd. and_then _ _ (many given_valid p ok k) λ sids hs. ends _ hs

in_link : Reads Fits link_layout
unfolding link_layout Fits
in_link = and_then u32 _ number32 λ a h. and_then u32 _ number32 λ b i. and_then u64 _ number64 λ c j. ends _ tt

in_none : {A : Type 0} {P : A → Type 0} → Reads P unknown
unfolding unknown Got
in_none = record { gives = λ bytes b. tt }

-- ---- conditions

module _ (p : Reader Condition) (h : Reads Whatever p) where
  in_conditions : (n : ℕ) → Reads Whatever (conditions n p)
  unfolding conditions Whatever
  in_conditions zero = gives_it none tt
  in_conditions (suc n) =
      record {
        gives = λ bytes b.
            followed (p bytes) (λ c rest. follow (conditions n p rest) (λ cs. give (more c cs))) (h.gives bytes b)
            (λ c k. record { gives = λ rest d. followed (conditions n p rest) (λ cs. give (more c cs)) ((in_conditions n).gives rest d) (λ cs l. gives_it (more c cs) tt) });
      }

  in_list : (f : Conditions → Condition) → Reads Whatever (list_layout f p)
  unfolding list_layout Whatever
  in_list f = and_then u32 _ number32 λ n k. and_then _ _ (in_conditions n) λ cs l. gives_it (f cs) tt

  in_kinds : Each (λ n l. Reads Whatever l) 0 (kinds p)
  unfolding kinds Each negated_layout named_layout Whatever
  in_kinds =
      let named : (f : ℕ → Condition) → Reads Whatever (named_layout f) = λ f. and_then u32 _ number32 λ n k. gives_it (f n) tt in
      (in_none, (in_list all_of, (in_list any_of, (and_then p _ h (λ c k. gives_it (negated c) tt), (named privilege_enabled, (named group_enabled, tt))))))

a_condition : (d : ℕ) → Reads Whatever (condition d)
unfolding condition
a_condition zero = in_none
a_condition (suc d) = and_then u32 _ number32 λ k h. at_number (λ n l. Reads Whatever l) (λ n. in_none) 0 (kinds (condition d)) k (in_kinds (condition d) (a_condition d))

in_evaluate : Reads Fits evaluate_layout
unfolding evaluate_layout Fits
in_evaluate = and_then u32 _ number32 λ n h. and_then (condition max_depth) _ (a_condition max_depth) λ c k. ends _ tt

-- ---- every request

all_fit : Each (λ n l. Reads Fits l) 0 layouts
unfolding layouts Each Fits
all_fit =
    let one : (n : ℕ) → Unit {0} = λ n. tt in
    let two : (n : ℕ) (es : List Entry) → Unit {0} = λ n es. tt in
    (in_none, (in_number _ one, (in_number _ one, (in_create _ a_number, (in_query, (in_entries _ two, (in_entries _ two, (in_scope, (in_defaults, (in_duplicate, (in_restrict _ a_number, (in_number _ one, (in_number _ one, (ends _ tt, (in_create _ a_packed, (in_restrict _ a_packed, (in_link, (in_number _ one, (in_evaluate, tt)))))))))))))))))))

pub parsed : (body : List ℕ) → all is_byte body ≡ true → Got Fits (parse body)
unfolding parse
parsed body b = (and_then u32 (λ n. get_or layouts n unknown) number32 (λ n h. at_number (λ n l. Reads Fits l) (λ n. in_none) 0 layouts n all_fit)).gives body b
