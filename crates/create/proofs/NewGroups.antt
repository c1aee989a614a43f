-- The groups of a new token: one more, and all of them as the rule has them. Assumes nothing.
use Prim.Native.Nat.{ℕ, ◌+◌, ◌-◌, ◌≤◌, ◌<◌}
use native.Mathlib.Omega.{arith}
use mathlib.Core.Path.{◌≡◌, refl, sym, ap, ap₂, subst, ◌∙◌}
use mathlib.Core.Bool.{Bool, true, false, not, ◌&&◌, ◌||◌, beq, and-false}
use mathlib.Core.List.{List, [], ◌∷◌, ◌++◌, map, append-nil, map-append}
use lib.Dec.{leb}
use lib.ListN.{length, drop, set, replicate, length-set, length-append, length-map}
use lib.Seq.{append_snoc}
use borrow.Author.Tests.{le-leb, lt-leb}
use Rattle.std.specs.Prelude.{None, Some, Ok, Err}
use Rattle.rules.specs.Basic.{all, implies, both_or_neither}
use Rattle.rules.specs.Bits.{has, within}
use Rattle.rules.specs.Number.{Read, got, bad}
use Rattle.rules.specs.Entry.{Entry}
use Rattle.rules.specs.Group as rules
use Rattle.rules.specs.Group.{is_fixed, is_enabled_by_default, is_deny_only, with_enabled}
use Rattle.rules.specs.Token.{max_groups}
use Rattle.rules.specs.Memory.{head_words, token_words, pack}
use Rattle.rules.specs.Sid.{Sid}
use Rattle.rules.specs.Given.{by_number, GivenGroup, number_in, group_in}
use Rattle.rules.specs.Request.{Reader, follow, ◌>>=◌, give, times, u32, entry, sid_number, group}
use Rattle.rules.specs.Create.{givable, valid_pair, entered}
use Rattle.rules.proofs.Logic.{and_i, all_append}
use Rattle.token.specs.NewRow.{headless}
use Rattle.token.proofs.NewRow.{no_groups, one_group}
use Rattle.answer.specs.declared.refusal.Refusal.TheVariants as refusal
use Rattle.body.specs.declared.entry.Entry as code
use Rattle.body.specs.Entries.{entry_of, PairAt}
use Rattle.body.proofs.Pairs.{Long, times_long, times_end, times_lost, times_next, joined}
use Rattle.sid.specs.Numbers.{NumberIn}
use Rattle.create.specs.NewGroups.{new_refusal, fits_pair, fits_group, PairFits, GroupsRead}

-- ---- the test of a pair

both : (x y : Bool) → beq x y ≡ both_or_neither x y
unfolding both_or_neither
both true true = refl
both true false = refl
both false true = refl
both false false = refl

if_so : (x y : Bool) → (not x || y) ≡ implies x y
unfolding implies
if_so true y = refl
if_so false y = refl

pub pair_valid_lem : (user : ℕ) (g : rules.Group) (w low high on fixed deny : Bool) → w ≡ within g.attributes givable
    → low ≡ has 30 g.attributes → high ≡ has 31 g.attributes → on ≡ is_enabled_by_default g → fixed ≡ is_fixed user g → deny ≡ is_deny_only g
    → (w && beq low high && (not fixed || on) && (not deny || not on)) ≡ valid_pair user g
unfolding valid_pair
pair_valid_lem user g w low high on fixed deny ew el eh eo ef ed =
    ap₂ (λ (x y : Bool). x && y)
    (ap₂ (λ (x y : Bool). x && y) (ap₂ (λ (x y : Bool). x && y) ew (both low high ∙ ap₂ both_or_neither el eh)) (if_so fixed on ∙ ap₂ implies ef eo))
    (if_so deny (not on) ∙ ap₂ implies ed (ap not eo))

-- ---- the number's test

pub pair_fits_lem : (user known : ℕ) (g : rules.Group) {v r : Bool} → v ≡ valid_pair user g → NumberIn g.sid known r → PairFits user known g (v && r)
unfolding fits_pair
pair_fits_lem user known g e i = record { fits = λ sids l. ap₂ (λ (x y : Bool). x && y) e (i.is sids l) }

-- ---- what is refused

pub refused_bad : (good room : Bool) → good ≡ false → Some refusal.BadField ≡ new_refusal good room
refused_bad good room h = rw h

pub refused_full : (good room : Bool) → good ≡ true → room ≡ false → Some refusal.TableFull ≡ new_refusal good room
refused_full good room h f = rw (h, f)

pub refused_none : (good room : Bool) → good ≡ true → room ≡ true → None ≡ new_refusal good room
refused_none good room h f = rw (h, f)

-- ---- a test of all

one_passes : {A : Type 0} (good : A → Bool) (one : A) → good one ≡ true → all good (one ∷ []) ≡ true
unfolding all
one_passes good one h = and_i h refl

pub all_more : {A : Type 0} (good : A → Bool) (xs : List A) (one : A) → all good xs ≡ true → good one ≡ true → all good (xs ++ (one ∷ [])) ≡ true
all_more good xs one h f = all_append good xs (one ∷ []) h (one_passes good one f)

one_fails : {A : Type 0} (good : A → Bool) (xs ys : List A) (one : A) → good one ≡ false → all good (xs ++ one ∷ ys) ≡ false
unfolding all
one_fails good [] ys one f = rw f
one_fails good (x ∷ xs) ys one f = rw (one_fails good xs ys one f, and-false (good x))

-- ---- a loop that reads count of them with p: those so far, and that all are those and the ones left

module _ {A : Type 0} (p : Reader A) where
  pub all_long : (n : ℕ) (bytes : List ℕ) {xs : List A} {later : List ℕ} → times n p bytes ≡ got xs later → length xs ≡ n
  all_long n bytes e = subst (Long p n) e (times_long p n bytes)

  behind : (a : A) (x : Read (List A)) (ys : List A) (later : List ℕ) → joined p a x ≡ got ys later → (zs : List A) × (x ≡ got zs later) × (ys ≡ a ∷ zs)
  unfolding follow give
  behind a (got zs l) ys later e = (zs, cc, cc)
  behind a bad ys later e = cc

  module _ (s : List ℕ) (at count : ℕ) where
    pub record Kept (gs : List A) (n from : ℕ) : Type 0 where
      pub counted : length gs ≡ n
      pub rest : (xs : List A) (later : List ℕ) → times count p (drop at s) ≡ got xs later → (ys : List A) × (times (count - n) p (drop from s) ≡ got ys later) × (xs ≡ gs ++ ys)

    pub none_kept : Kept [] 0 at
    none_kept = record { counted = refl; rest = λ xs later t. let z : count - 0 ≡ count = omega arith in (xs, ap (λ (k : ℕ). times k p (drop at s)) z ∙ t, refl) }

    module _ {gs : List A} {n from : ℕ} (i : Kept gs n from) where
      pub kept_end : count ≤ n → (xs : List A) (later : List ℕ) → times count p (drop at s) ≡ got xs later → xs ≡ gs
      kept_end h xs later t =
          let r = i.rest xs later t in
          let none = times_end p (count - n) (drop from s) (omega arith) in
          let q : [] ≡ r.0 = cc in
          r.2 ∙ ap (λ (ys : List A). gs ++ ys) (sym q) ∙ append-nil gs

      module _ (h : n < count) where
        pub kept_lost : bad ≡ p (drop from s) → (xs : List A) (later : List ℕ) → times count p (drop at s) ≡ got xs later → ⊥
        kept_lost e xs later t =
            let r = i.rest xs later t in
            let none = times_lost p (count - n) (drop from s) (omega arith) e in
            cc

        module _ (one : A) (q : ℕ) (e : got one (drop q s) ≡ p (drop from s)) where
          split : (xs : List A) (later : List ℕ) → times count p (drop at s) ≡ got xs later → (zs : List A) × (times (count - n - 1) p (drop q s) ≡ got zs later) × (xs ≡ gs ++ one ∷ zs)
          split xs later t =
              let r = i.rest xs later t in
              let z = behind one (times (count - n - 1) p (drop q s)) r.0 later (sym (times_next p (count - n) (drop from s) (drop q s) one (omega arith) e) ∙ r.1) in
              (z.0, z.1, r.2 ∙ ap (λ (ys : List A). gs ++ ys) z.2)

          pub kept_one : Kept (gs ++ (one ∷ [])) (n + 1) q
          kept_one = record {
            counted = length-append gs (one ∷ []) ∙ ap (λ (m : ℕ). m + 1) i.counted;
            rest = λ xs later t.
                let z = split xs later t in
                let m : count - n - 1 ≡ count - (n + 1) = omega arith in
                (z.0, ap (λ (k : ℕ). times k p (drop q s)) (sym m) ∙ z.1, z.2 ∙ sym (append_snoc gs one z.0));
          }

          -- one that is not good is among them
          pub kept_bad : (good : A → Bool) → good one ≡ false → (xs : List A) (later : List ℕ) → times count p (drop at s) ≡ got xs later → all good xs ≡ false
          kept_bad good f xs later t = let z = split xs later t in ap (all good) z.2 ∙ one_fails good gs z.0 one f

    -- the rule's test, where all of them are there
    module _ (good : A → Bool) (gs : List A) (later : List ℕ) (t : times count p (drop at s) ≡ got gs later) where
      pub too_many : max_groups < count → (leb (length gs) max_groups && all good gs) ≡ false
      too_many h = rw (lt-leb (length gs) max_groups (omega (arith, all_long count (drop at s) t)))

      pub judged_as : count ≤ max_groups → {b : Bool} → all good gs ≡ b → (leb (length gs) max_groups && all good gs) ≡ b
      judged_as h e = rw (le-leb (length gs) max_groups (omega (arith, all_long count (drop at s) t))) e

-- ---- groups by number

abbrev numbered : ℕ → ℕ → GivenGroup
numbered n a = record { sid = by_number n; attributes = a }

-- two numbers are read as a group as they are as an entry
abbrev as_group : Read Entry → Read GivenGroup
as_group (got e later) = got (numbered e.key e.value) later
as_group bad = bad

group_read : (bytes : List ℕ) → as_group (entry bytes) ≡ group sid_number bytes
unfolding entry group sid_number ◌>>=◌ follow give
group_read bytes = first (u32 bytes)
  where
    second : (k : ℕ) (x : Read ℕ) → as_group (follow x (λ v. give (entry_of k v))) ≡ follow x (λ v. give (numbered k v))
    second k (got v later) = refl
    second k bad = refl

    first : (x : Read ℕ) → as_group (follow x (λ k. ◌>>=◌ u32 (λ v. give (entry_of k v)))) ≡ follow (follow x (λ k. give (by_number k))) (λ g. ◌>>=◌ u32 (λ v. give (record { sid = g; attributes = v })))
    first (got k later) = second k (u32 later)
    first bad = refl

-- ---- the loop's state

-- the row with one more
pub row_more : (f : GivenGroup → rules.Group) (gs : List GivenGroup) (one : GivenGroup) {ws : List ℕ} {n w : ℕ} → ws ≡ headless (map entered (map f gs)) → length gs ≡ n → n < max_groups
    → w ≡ pack (entered (f one)) → set ws (head_words + n) w ≡ headless (map entered (map f (gs ++ (one ∷ []))))
row_more f gs one {ws} {n} {w} e c l o =
    let long : length (map entered (map f gs)) ≡ n = length-map (map f gs) entered ∙ length-map gs f ∙ c in
    ap (λ (x : List ℕ). set x (head_words + n) w) e
    ∙ one_group (map entered (map f gs)) (entered (f one)) (omega arith) (ap (λ (m : ℕ). head_words + m) (sym long)) o
    ∙ ap headless (sym (ap (map entered) (map-append f gs (one ∷ [])) ∙ map-append entered (map f gs) (f one ∷ [])))

module _ (user known : ℕ) (s : List ℕ) (at count : ℕ) where
  abbrev SoFar : List GivenGroup → ℕ → ℕ → Type 0
  SoFar = Kept (group sid_number) s at count

  pub record Entering (ws : List ℕ) (n from : ℕ) : Type 0 where
    pub groups : List GivenGroup
    pub long : length ws ≡ token_words
    pub row : (sids : List Sid) → ws ≡ headless (map entered (map (group_in sids) groups))
    pub kept : SoFar groups n from
    pub good : (sids : List Sid) → length sids ≡ known → all (fits_group sids user) groups ≡ true

  pub none_entered : {ws : List ℕ} → ws ≡ replicate token_words 0 → Entering ws 0 at
  unfolding all
  none_entered e = record { groups = []; long = ap length e; row = λ sids. e ∙ no_groups; kept = none_kept (group sid_number) s at count; good = λ sids l. refl }

  pub too_many_groups : {ws : List ℕ} → ws ≡ replicate token_words 0 → max_groups < count → GroupsRead user known s at count ws (Err refusal.BadField)
  too_many_groups e h = record { long = ap length e; refusal = λ sids l gs later t. refused_bad _ true (too_many (group sid_number) s at count (fits_group sids user) gs later t h); given = λ sids l gs later t. tt }

  module _ (few : count ≤ max_groups) {ws : List ℕ} {n from : ℕ} (i : Entering ws n from) where
    pub all_read : count ≤ n → (u : Unit {0}) → GroupsRead user known s at count ws (Ok u)
    all_read h u = record {
      long = i.long;
      refusal = λ sids l gs later t.
          refused_none _ true (judged_as (group sid_number) s at count (fits_group sids user) gs later t few (ap (all (fits_group sids user)) (same gs later t) ∙ i.good sids l)) refl;
      given = λ sids l gs later t. i.row sids ∙ ap (λ (x : List GivenGroup). headless (map entered (map (group_in sids) x))) (sym (same gs later t));
    }
      where
        same : (gs : List GivenGroup) (later : List ℕ) → times count (group sid_number) (drop at s) ≡ got gs later → gs ≡ i.groups
        same = kept_end (group sid_number) s at count i.kept h

    module _ (h : n < count) where
      pub one_missing : PairAt s from None → GroupsRead user known s at count ws (Err refusal.BadField)
      one_missing f = record {
        long = i.long;
        refusal = λ sids l gs later t. absurd (kept_lost (group sid_number) s at count i.kept h (ap as_group f.means ∙ group_read (drop from s)) gs later t);
        given = λ sids l gs later t. tt;
      }

      -- v is the test of the pair
      module _ (e : code.Entry) (f : PairAt s from (Some e)) {v : Bool} (w : PairFits user known (record { sid = e.key; attributes = e.value }) v) where
        there : got (numbered e.key e.value) (drop e.next s) ≡ group sid_number (drop from s)
        there = ap as_group f.means ∙ group_read (drop from s)

        good : (sids : List Sid) → length sids ≡ known → v ≡ fits_group sids user (numbered e.key e.value)
        unfolding fits_group group_in number_in
        good sids l = w.fits sids l

        pub one_bad : v ≡ false → GroupsRead user known s at count ws (Err refusal.BadField)
        one_bad z = record {
          long = i.long;
          refusal = λ sids l gs later t.
              refused_bad _ true (judged_as (group sid_number) s at count (fits_group sids user) gs later t few
              (kept_bad (group sid_number) s at count i.kept h (numbered e.key e.value) e.next there (fits_group sids user) (sym (good sids l) ∙ z) gs later t));
          given = λ sids l gs later t. tt;
        }

        pub one_entered : v ≡ true → {x : ℕ} → x ≡ pack (entered (record { sid = e.key; attributes = e.value })) → Entering (set ws (head_words + n) x) (n + 1) e.next
        unfolding group_in number_in
        one_entered z {x} o = record {
          groups = i.groups ++ (numbered e.key e.value ∷ []);
          long = length-set ws (head_words + n) x ∙ i.long;
          row = λ sids. row_more (group_in sids) i.groups (numbered e.key e.value) (i.row sids) i.kept.counted (omega arith) o;
          kept = kept_one (group sid_number) s at count i.kept h (numbered e.key e.value) e.next there;
          good = λ sids l. all_more (fits_group sids user) i.groups (numbered e.key e.value) (i.good sids l) (sym (good sids l) ∙ z);
        }
