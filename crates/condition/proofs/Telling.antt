-- What is told of the condition, or of the conditions, that are read next, by what was read there. Assumes nothing.
use Rattle.std.proofs.Common.{ℕ, zero, suc, ◌+◌, ◌-◌, ◌≤◌, ◌<◌, ◌≡◌, refl, sym, ap, ◌∙◌, Bool, true, false, not, ◌&&◌, List, map, get_or, arith, ◌⊎◌, inl, inr}
use native.Mathlib.Numerals.{sub-one}
use mathlib.Core.Bool.{and-true, or-false, and_assoc, or_assoc}
use lib.ListN.{get_or-eq_default}
use Rattle.rules.specs.Bits.{has}
use Rattle.rules.specs.Number.{Read, got, bad, read_number, max32}
use Rattle.rules.specs.Privileges.{exists, is_enabled, granted}
use Rattle.rules.specs.Token.{Token, new_token}
use Rattle.rules.specs.Memory.{unpack}
use Rattle.rules.specs.Condition.{Condition, all_of, any_of, negated, privilege_enabled, group_enabled, Conditions, more, has_group, holds, all_hold, any_holds, known, all_known}
use Rattle.rules.specs.Request.{Reader, follow, ◌>>=◌, give, u32, unknown, conditions, list_layout, negated_layout, named_layout, kinds, condition}
use Rattle.condition.specs.declared.Told.{Told}
use Rattle.condition.specs.declared.Asked.{Asked}
use Rattle.condition.specs.Told.{asked, asked_of, outcome, list_outcome, tell, joined, counted}

-- its layout, in a condition at most d deep
abbrev of_kind : ℕ → ℕ → Reader Condition
of_kind d k = get_or (kinds (condition (d - 1))) k unknown

module _ (t : Token) (known0 : Bool) (d : ℕ) (bytes : List ℕ) where
  pub none_deep : d ≡ 0 → bad ≡ tell known0 (outcome t) (condition d bytes)
  unfolding condition unknown tell
  none_deep e = rw e

  module _ (below : d ≡ 0 → ⊥) where
    deeper : condition d bytes ≡ follow (read_number max32 bytes) (of_kind d)
    unfolding condition ◌>>=◌ u32
    deeper = by d below
      where
        by : (n : ℕ) → (n ≡ 0 → ⊥) → condition n bytes ≡ follow (read_number max32 bytes) (of_kind n)
        by zero f = absurd (f refl)
        by (suc n) f = ap (λ (m : ℕ). follow (read_number max32 bytes) (λ k. get_or (kinds (condition m)) k unknown)) (sym (sub-one (suc n)))

    pub no_kind : bad ≡ read_number max32 bytes → bad ≡ tell known0 (outcome t) (condition d bytes)
    unfolding tell follow
    no_kind e = rw (deeper, sym e)

    module _ (k : ℕ) (after : List ℕ) (e : got k after ≡ read_number max32 bytes) where
      -- what is told of what follows the kind is told of the condition
      kind_is : (j : ℕ) → k ≡ j → tell known0 (outcome t) (of_kind d j after) ≡ tell known0 (outcome t) (condition d bytes)
      unfolding follow
      kind_is j q =
          ap (λ (i : ℕ). tell known0 (outcome t) (of_kind d i after)) (sym q)
          ∙ ap (tell known0 (outcome t)) (ap (λ (x : Read ℕ). follow x (of_kind d)) e ∙ sym deeper)

      pub no_such_kind : (k ≡ 1 → ⊥) → (k ≡ 2 → ⊥) → (k ≡ 3 → ⊥) → (k ≡ 4 → ⊥) → (k ≡ 5 → ⊥) → bad ≡ tell known0 (outcome t) (condition d bytes)
      unfolding tell kinds unknown
      no_such_kind n1 n2 n3 n4 n5 = ap (tell known0 (outcome t)) (sym (none k n1 n2 n3 n4 n5)) ∙ kind_is k refl
        where
          none : (j : ℕ) → (j ≡ 1 → ⊥) → (j ≡ 2 → ⊥) → (j ≡ 3 → ⊥) → (j ≡ 4 → ⊥) → (j ≡ 5 → ⊥) → of_kind d j after ≡ bad
          none zero n1 n2 n3 n4 n5 = refl
          none (suc j) n1 n2 n3 n4 n5 =
              let past : 6 ≤ suc j = omega arith in
              ap (λ (p : Reader Condition). p after) (get_or-eq_default (kinds (condition (d - 1))) unknown {n = suc j} past)

      -- ---- a list

      listed : (make : Conditions → Condition) (all : Bool) → ((cs : Conditions) → list_outcome all t cs ≡ outcome t (make cs))
          → tell known0 (list_outcome all t) (counted (d - 1) after) ≡ tell known0 (outcome t) (list_layout make (condition (d - 1)) after)
      unfolding tell counted list_layout ◌>>=◌ follow give
      listed make all same = by (u32 after)
        where
          told : (r : Read Conditions) → tell known0 (list_outcome all t) r ≡ tell known0 (outcome t) (follow r (λ cs. give (make cs)))
          told bad = refl
          told (got cs later) = ap (λ (x : Told). got (record { value = x.value; known = known0 && x.known }) later) (same cs)

          by : (r : Read ℕ) → tell known0 (list_outcome all t) (follow r (λ n. conditions n (condition (d - 1))))
              ≡ tell known0 (outcome t) (follow r (λ n. ◌>>=◌ (conditions n (condition (d - 1))) (λ cs. give (make cs))))
          by bad = refl
          by (got n later) = told (conditions n (condition (d - 1)) later)

      module _ (r : Read Told) where
        pub every : k ≡ 1 → r ≡ tell known0 (list_outcome true t) (counted (d - 1) after) → r ≡ tell known0 (outcome t) (condition d bytes)
        unfolding kinds outcome list_outcome holds known
        every q x = x ∙ listed all_of true (λ cs. refl) ∙ kind_is 1 q

        pub some : k ≡ 2 → r ≡ tell known0 (list_outcome false t) (counted (d - 1) after) → r ≡ tell known0 (outcome t) (condition d bytes)
        unfolding kinds outcome list_outcome holds known
        some q x = x ∙ listed any_of false (λ cs. refl) ∙ kind_is 2 q

      -- ---- a negation

      not_told : Read Told → Read Told
      not_told bad = bad
      not_told (got x later) = got (record { value = not x.value; known = x.known }) later

      negation : k ≡ 3 → (r : Read Told) → r ≡ tell known0 (outcome t) (condition (d - 1) after) → not_told r ≡ tell known0 (outcome t) (condition d bytes)
      unfolding kinds negated_layout ◌>>=◌ not_told tell outcome follow give holds known
      negation q r x = ap not_told x ∙ by (condition (d - 1) after) ∙ kind_is 3 q
        where
          by : (c : Read Condition) → not_told (tell known0 (outcome t) c) ≡ tell known0 (outcome t) (follow c (λ x. give (negated x)))
          by bad = refl
          by (got c later) = refl

      pub negation_bad : k ≡ 3 → bad ≡ tell known0 (outcome t) (condition (d - 1) after) → bad ≡ tell known0 (outcome t) (condition d bytes)
      unfolding not_told
      negation_bad q x = negation q bad x

      pub negation_told : k ≡ 3 → (v l : Bool) (later : List ℕ) → got (record { value = v; known = l }) later ≡ tell known0 (outcome t) (condition (d - 1) after)
          → got (record { value = not v; known = l }) later ≡ tell known0 (outcome t) (condition d bytes)
      unfolding not_told
      negation_told q v l later y = negation q (got (record { value = v; known = l }) later) y

      -- ---- a number

      named : (make : ℕ → Condition) (r : Read ℕ) → r ≡ read_number max32 after → tell known0 (outcome t) (follow r (λ n. give (make n))) ≡ tell known0 (outcome t) (named_layout make after)
      unfolding named_layout ◌>>=◌ u32
      named make r x = ap (λ (y : Read ℕ). tell known0 (outcome t) (follow y (λ n. give (make n)))) x

      pub not_named : (k ≡ 4) ⊎ (k ≡ 5) → bad ≡ read_number max32 after → bad ≡ tell known0 (outcome t) (condition d bytes)
      unfolding kinds tell follow
      not_named (inl q) x = named privilege_enabled bad x ∙ kind_is 4 q
      not_named (inr q) x = named group_enabled bad x ∙ kind_is 5 q

module _ (a : Asked) (known0 : Bool) (d : ℕ) (bytes : List ℕ) (below : d ≡ 0 → ⊥) (k : ℕ) (after : List ℕ) (e : got k after ≡ read_number max32 bytes)
    (n : ℕ) (later : List ℕ) (x : got n later ≡ read_number max32 after) where
  pub one_privilege : k ≡ 4 → (v l : Bool) → v ≡ has n a.enabled → l ≡ exists n
      → got (record { value = v; known = known0 && l }) later ≡ tell known0 (outcome (asked a)) (condition d bytes)
  unfolding kinds outcome holds known asked_of new_token granted is_enabled tell follow give
  one_privilege q v l ev el = rw (ev, el) (named (asked a) known0 d bytes below k after e privilege_enabled (got n later) x ∙ kind_is (asked a) known0 d bytes below k after e 4 q)

  pub one_group : k ≡ 5 → (v : Bool) → v ≡ has_group n (map unpack a.groups.now)
      → got (record { value = v; known = known0 }) later ≡ tell known0 (outcome (asked a)) (condition d bytes)
  unfolding kinds outcome holds known asked_of new_token tell follow give
  one_group q v ev =
      ap (λ (l : Bool). got (record { value = v; known = l }) later) (sym (and-true known0))
      ∙ rw ev (named (asked a) known0 d bytes below k after e group_enabled (got n later) x ∙ kind_is (asked a) known0 d bytes below k after e 5 q)

-- ---- conditions behind their count

-- one outcome in front of the others'
pub front : Bool → Told → Read Told → Read Told
front all o bad = bad
front all o (got x after) = got (record { value = joined all o.value x.value; known = o.known && x.known }) after

joined_first : (all x : Bool) → joined all all x ≡ x
joined_first true x = refl
joined_first false x = refl

joined_last : (all x : Bool) → joined all x all ≡ x
joined_last true x = and-true x
joined_last false x = or-false x

joined_assoc : (all a b c : Bool) → joined all (joined all a b) c ≡ joined all a (joined all b c)
joined_assoc true a b c = and_assoc a b c
joined_assoc false a b c = or_assoc a b c

front_last : (all : Bool) (o : Told) (bytes : List ℕ) → front all o (got (record { value = all; known = true }) bytes) ≡ got o bytes
unfolding front
front_last all o bytes = rw (joined_last all o.value, and-true o.known)

front_front : (all : Bool) (o x : Told) (r : Read Told)
    → front all (record { value = joined all o.value x.value; known = o.known && x.known }) r ≡ front all o (front all x r)
unfolding front
front_front all o x bad = refl
front_front all o x (got y after) = rw (joined_assoc all o.value x.value y.value, and_assoc o.known x.known y.known)

module _ (all : Bool) (t : Token) where
  -- what is told of the conditions that were read, by themselves
  abbrev told_list : Read Conditions → Read Told
  told_list r = tell true (list_outcome all t) r

  front_first : (k : Bool) (r : Read Conditions) → front all (record { value = all; known = k }) (told_list r) ≡ tell k (list_outcome all t) r
  unfolding front tell
  front_first k bad = refl
  front_first k (got cs after) = rw (joined_first all (list_outcome all t cs).value)

  tell_none : (p : Reader Condition) (bytes : List ℕ) → got (record { value = all; known = true }) bytes ≡ told_list (conditions 0 p bytes)
  unfolding tell list_outcome conditions give all_hold any_holds all_known
  tell_none p bytes = by all
    where
      by : (b : Bool) → got (record { value = b; known = true }) bytes ≡ tell true (list_outcome b t) (conditions 0 p bytes)
      by true = refl
      by false = refl

  tell_more : (c : Condition) (r : Read Conditions) → front all (outcome t c) (told_list r) ≡ told_list (follow r (λ cs. give (more c cs)))
  unfolding front tell outcome list_outcome follow give all_hold any_holds all_known
  tell_more c bad = refl
  tell_more c (got cs after) = by all
    where
      by : (b : Bool) → front b (outcome t c) (tell true (list_outcome b t) (got cs after)) ≡ tell true (list_outcome b t) (got (more c cs) after)
      by true = refl
      by false = refl

  module _ (p : Reader Condition) where
    -- one that was read, in front of n more
    front_of : ℕ → Read Condition → Read Told
    front_of n bad = bad
    front_of n (got c after) = front all (outcome t c) (told_list (conditions n p after))

    tell_next : (n : ℕ) (bytes : List ℕ) → 0 < n → front_of (n - 1) (p bytes) ≡ told_list (conditions n p bytes)
    unfolding conditions front_of tell follow
    tell_next zero bytes h = absurd (omega arith)
    tell_next (suc n) bytes h = ap (λ (m : ℕ). front_of m (p bytes)) (sub-one (suc n)) ∙ by (p bytes)
      where
        by : (r : Read Condition) → front_of n r ≡ told_list (follow r (λ c after. follow (conditions n p after) (λ cs. give (more c cs))))
        by bad = refl
        by (got c after) = tell_more c (conditions n p after)

  module _ (k : Bool) (d : ℕ) (bytes : List ℕ) where
    pub no_count : bad ≡ read_number max32 bytes → bad ≡ tell k (list_outcome all t) (counted d bytes)
    unfolding tell counted ◌>>=◌ u32 follow
    no_count e = rw (sym e)

    pub list_begins : (n : ℕ) (after : List ℕ) → got n after ≡ read_number max32 bytes
        → front all (record { value = all; known = k }) (told_list (conditions n (condition d) after)) ≡ tell k (list_outcome all t) (counted d bytes)
    unfolding counted ◌>>=◌ u32 follow
    list_begins n after e = front_first k _ ∙ ap (λ (r : Read ℕ). tell k (list_outcome all t) (follow r (λ m. conditions m (condition d)))) e

  -- what the conditions left come to, behind what the first ones came to
  abbrev pub Rest : ℕ → ℕ → List ℕ → Told → Read Told
  Rest d left bytes o = front all o (told_list (conditions left (condition d) bytes))

  module _ (d count i : ℕ) (bytes : List ℕ) (v k : Bool) (total : Read Told) (inv : Rest d (count - i) bytes (record { value = v; known = k }) ≡ total) where
    abbrev so_far : Told
    so_far = record { value = v; known = k }

    pub list_ends : count ≤ i → got (record { value = v; known = k }) bytes ≡ total
    list_ends h =
        let e : count - i ≡ 0 = omega arith in
        sym (front_last all so_far bytes)
        ∙ ap (front all so_far) (tell_none (condition d) bytes)
        ∙ ap (λ (n : ℕ). Rest d n bytes so_far) (sym e)
        ∙ inv

    module _ (h : i < count) where
      next : front all so_far (front_of (condition d) (count - (i + 1)) (condition d bytes)) ≡ total
      next =
          let e : count - (i + 1) ≡ count - i - 1 = omega arith in
          ap (λ (n : ℕ). front all so_far (front_of (condition d) n (condition d bytes))) e
          ∙ ap (front all so_far) (tell_next (condition d) (count - i) bytes (omega arith))
          ∙ inv

      pub list_bad : bad ≡ tell k (outcome t) (condition d bytes) → bad ≡ total
      unfolding front front_of tell
      list_bad f = by (condition d bytes) f next
        where
          by : (r : Read Condition) → bad ≡ tell k (outcome t) r → front all so_far (front_of (condition d) (count - (i + 1)) r) ≡ total → bad ≡ total
          by bad g e = e
          by (got c after) g e = cc

      -- the list's rest behind one more outcome
      step : Read Told → Read Told
      step bad = bad
      step (got o later) = Rest d (count - (i + 1)) later (record { value = joined all v o.value; known = o.known })

      pub list_goes_on : (x l : Bool) (later : List ℕ) → got (record { value = x; known = l }) later ≡ tell k (outcome t) (condition d bytes) → (b : Bool) → b ≡ joined all v x
          → Rest d (count - (i + 1)) later (record { value = b; known = l }) ≡ total
      unfolding front_of tell step
      list_goes_on x l later f b e =
          ap (λ (y : Bool). Rest d (count - (i + 1)) later (record { value = y; known = l })) e ∙ ap step f ∙ by (condition d bytes) f next
        where
          by : (r : Read Condition) → got (record { value = x; known = l }) later ≡ tell k (outcome t) r → front all so_far (front_of (condition d) (count - (i + 1)) r) ≡ total
              → step (tell k (outcome t) r) ≡ total
          by bad g w = cc
          by (got c after) g w = front_front all so_far (outcome t c) (told_list (conditions (count - (i + 1)) (condition d) after)) ∙ w

pub ruleset tellings = (none_deep, no_kind, no_such_kind, every, some, negation_bad, negation_told, not_named, no_count, list_begins, list_bad, list_goes_on, list_ends)
