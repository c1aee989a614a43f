-- Numbers in the SID table: equal just where the SIDs are, kept by entering, and the table's own. Assumes nothing.
use Prim.Native.Nat.{ℕ, zero, suc, ◌+◌, ◌-◌, ◌≤◌, ◌<◌, ◌^◌}
use native.Mathlib.Omega.{arith}
use mathlib.Core.Path.{◌≡◌, refl, sym, ap, ap₂, ◌∙◌}
use mathlib.Core.Bool.{Bool, true, false, ◌&&◌, not, ◌||◌, or-true, or-false, or_assoc}
use mathlib.Core.Logic.{⊎_elim}
use mathlib.Core.List.{List, [], ◌∷◌, ◌++◌}
use lib.Dec.{eqb, leb, ltb}
use lib.ListN.{length, take, get_or, length-append}
use lib.Seq.{take_all, take_at, take-take}
use borrow.Author.Tests.{ne_eqb, eqb-true, ltb-true, le-leb, lt-leb, leb-true, not-true, lt-ltb}
use Rattle.std.specs.Prelude.{if◌then◌else◌}
use Rattle.rules.specs.Basic.{is_below, all, same}
use Rattle.rules.specs.Sid.{Sid, no_sid, valid_sid, same_sid}
use Rattle.rules.specs.SidTable.{max_sids, number_at, is_number, place_of_number, sid_of, is_in, place_of, number_of, entered, fits_table, nt_sid, start_sids, starts_right, different, sids_valid}
use Rattle.rules.specs.Given.{Given, by_number, by_sid, entered_by, entered_all}
use Rattle.rules.specs.Growth.{Mem, here, there}
use Rattle.rules.proofs.Logic.{and_l, and_r, and_i, or_e, or_l, or_r, not_both, either, all_append}
use Rattle.rules.proofs.Sids.{sid_eq, sid_refl, eq_sid}

-- ---- different SIDs

in_at : (s d : Sid) (ss : List Sid) → is_in s ss ≡ true → (i : ℕ) × (i < length ss) × (s ≡ get_or ss i d)
unfolding is_in
in_at s d [] h = absurd (not_both h refl)
in_at s d (t ∷ ts) h = by (same_sid s t) refl h (in_at s d ts)
  where
    by : (b : Bool) → same_sid s t ≡ b → (b || is_in s ts) ≡ true → (is_in s ts ≡ true → (i : ℕ) × (i < length ts) × (s ≡ get_or ts i d)) → (i : ℕ) × (i < length (t ∷ ts)) × (s ≡ get_or (t ∷ ts) i d)
    by true e k f = (0, omega arith, sid_eq s t e)
    by false e k f = let r = f k in (suc r.0, omega (arith, r.1), r.2)

pub at_in : (d : Sid) (ss : List Sid) (i : ℕ) → i < length ss → is_in (get_or ss i d) ss ≡ true
unfolding is_in
at_in d [] i h = absurd (omega arith)
at_in d (t ∷ ts) zero h = ap (λ (b : Bool). b || is_in t ts) (sid_refl t)
at_in d (t ∷ ts) (suc i) h = ap (λ (b : Bool). same_sid (get_or ts i d) t || b) (at_in d ts i (omega arith)) ∙ or-true (same_sid (get_or ts i d) t)

module _ (d : Sid) where
  pub different_apart : (ss : List Sid) → different ss ≡ true → (i j : ℕ) → i < length ss → j < length ss → get_or ss i d ≡ get_or ss j d → i ≡ j
  unfolding different
  different_apart [] h i j l k e = absurd (omega arith)
  different_apart (s ∷ ss) h zero zero l k e = refl
  different_apart (s ∷ ss) h zero (suc j) l k e =
      absurd (not_both (ap (λ (x : Sid). is_in x ss) e ∙ at_in d ss j (omega arith)) (not-true (is_in s ss) (and_l (not (is_in s ss)) (different ss) h)))
  different_apart (s ∷ ss) h (suc i) zero l k e =
      absurd (not_both (ap (λ (x : Sid). is_in x ss) (sym e) ∙ at_in d ss i (omega arith)) (not-true (is_in s ss) (and_l (not (is_in s ss)) (different ss) h)))
  different_apart (s ∷ ss) h (suc i) (suc j) l k e = ap suc (different_apart ss (and_r (not (is_in s ss)) (different ss) h) i j (omega arith) (omega arith) e)

  pub apart_different : (ss : List Sid) → ((i j : ℕ) → i < length ss → j < length ss → get_or ss i d ≡ get_or ss j d → i ≡ j) → different ss ≡ true
  unfolding different
  apart_different [] h = refl
  apart_different (s ∷ ss) h =
      and_i (by (is_in s ss) refl) (apart_different ss (λ i j l k e. let q : suc i ≡ suc j = h (suc i) (suc j) (omega arith) (omega arith) e in omega arith))
    where
      by : (b : Bool) → is_in s ss ≡ b → not b ≡ true
      by true e = let r = in_at s d ss e in let q : 0 ≡ suc r.0 = h 0 (suc r.0) (omega arith) (omega (arith, r.1)) r.2 in absurd (omega arith)
      by false e = refl

-- every one passes: by place
pub all_by : (f : Sid → Bool) (d : Sid) (ss : List Sid) → ((i : ℕ) → i < length ss → f (get_or ss i d) ≡ true) → all f ss ≡ true
unfolding all
all_by f d [] h = refl
all_by f d (s ∷ ss) h = and_i (h 0 (omega arith)) (all_by f d ss (λ i l. h (suc i) (omega arith)))

pub by_all : (f : Sid → Bool) (d : Sid) (ss : List Sid) → all f ss ≡ true → (i : ℕ) → i < length ss → f (get_or ss i d) ≡ true
unfolding all
by_all f d [] h i l = absurd (omega arith)
by_all f d (s ∷ ss) h zero l = and_l (f s) (all f ss) h
by_all f d (s ∷ ss) h (suc i) l = by_all f d ss (and_r (f s) (all f ss) h) i (omega arith)

-- ---- numbers: equal just where the SIDs are

pub place_in : (s d : Sid) (ss : List Sid) → is_in s ss ≡ true → (place_of s ss < length ss) × (get_or ss (place_of s ss) d ≡ s)
unfolding is_in place_of
place_in s d [] h = absurd (not_both h refl)
place_in s d (t ∷ ts) h = by (same_sid s t) refl h (place_in s d ts)
  where
    by : (b : Bool) → same_sid s t ≡ b → (b || is_in s ts) ≡ true → (is_in s ts ≡ true → (place_of s ts < length ts) × (get_or ts (place_of s ts) d ≡ s))
        → ((if b then 0 else suc (place_of s ts)) < suc (length ts)) × (get_or (t ∷ ts) (if b then 0 else suc (place_of s ts)) d ≡ s)
    by true e k f = (omega arith, sym (sid_eq s t e))
    by false e k f = (omega (arith, (f k).0), (f k).1)

pub absent_place : (s : Sid) (ss : List Sid) → is_in s ss ≡ false → place_of s ss ≡ length ss
unfolding is_in place_of
absent_place s [] h = refl
absent_place s (t ∷ ts) h = by (same_sid s t) h (absent_place s ts)
  where
    by : (b : Bool) → (b || is_in s ts) ≡ false → (is_in s ts ≡ false → place_of s ts ≡ length ts) → (if b then 0 else suc (place_of s ts)) ≡ suc (length ts)
    by true k f = absurd (not_both refl k)
    by false k f = ap suc (f k)

pub number_at_one : (i j : ℕ) → number_at i ≡ number_at j → i ≡ j
unfolding number_at
number_at_one zero zero e = refl
number_at_one zero (suc zero) e = absurd (omega arith)
number_at_one zero (suc (suc j)) e = absurd (omega arith)
number_at_one (suc zero) zero e = absurd (omega arith)
number_at_one (suc zero) (suc zero) e = refl
number_at_one (suc zero) (suc (suc j)) e = absurd (omega arith)
number_at_one (suc (suc i)) zero e = absurd (omega arith)
number_at_one (suc (suc i)) (suc zero) e = absurd (omega arith)
number_at_one (suc (suc i)) (suc (suc j)) e = omega arith

-- equal numbers, equal SIDs (the other way is by substitution)
pub number_one : (s t : Sid) (ss : List Sid) → is_in s ss ≡ true → is_in t ss ≡ true → number_of ss s ≡ number_of ss t → s ≡ t
unfolding number_of
number_one s t ss p q e =
    sym (place_in s s ss p).1 ∙ ap (λ (i : ℕ). get_or ss i s) (number_at_one (place_of s ss) (place_of t ss) e) ∙ (place_in t s ss q).1

pub number_at_is : (i n : ℕ) → i < n → 2 ≤ n → (eqb (number_at i) 7 || eqb (number_at i) 18 || (leb 32 (number_at i) && ltb (number_at i) (30 + n))) ≡ true
unfolding number_at
number_at_is zero n h l = refl
number_at_is (suc zero) n h l = refl
number_at_is (suc (suc i)) n h l = rw (le-leb 32 (32 + i) (omega arith), lt-ltb (32 + i) (30 + n) (omega arith)) (or-true (eqb (32 + i) 7 || eqb (32 + i) 18))

pub number_is : (s : Sid) (ss : List Sid) → 2 ≤ length ss → is_in s ss ≡ true → is_number ss (number_of ss s) ≡ true
unfolding is_number number_of
number_is s ss l h = number_at_is (place_of s ss) (length ss) (place_in s s ss h).0 l

-- ---- one more at the end

pub in_more : (t : Sid) (ss : List Sid) (s : Sid) → is_in t (ss ++ (s ∷ [])) ≡ (is_in t ss || same_sid t s)
unfolding is_in
in_more t [] s = or-false (same_sid t s)
in_more t (u ∷ us) s = ap (λ (b : Bool). same_sid t u || b) (in_more t us s) ∙ sym (or_assoc (same_sid t u) (is_in t us) (same_sid t s))

different_more : (ss : List Sid) (s : Sid) → different ss ≡ true → is_in s ss ≡ false → different (ss ++ (s ∷ [])) ≡ true
unfolding different is_in
different_more [] s h n = refl
different_more (t ∷ ts) s h n =
    and_i (ap not (in_more t ts s ∙ ap₂ ◌||◌ (not_in t ts (and_l (not (is_in t ts)) (different ts) h)) (apart (same_sid s t) refl n)))
    (different_more ts s (and_r (not (is_in t ts)) (different ts) h) (rest (same_sid s t) n))
  where
    not_in : (t : Sid) (ts : List Sid) → not (is_in t ts) ≡ true → is_in t ts ≡ false
    not_in t ts q = flip (is_in t ts) q
      where
        flip : (b : Bool) → not b ≡ true → b ≡ false
        flip true e = sym e
        flip false e = refl

    apart : (b : Bool) → same_sid s t ≡ b → (b || is_in s ts) ≡ false → same_sid t s ≡ false
    apart true e k = absurd (not_both refl k)
    apart false e k = ⊎_elim (λ q. absurd (not_both (eq_sid s t (sym (sid_eq t s q))) e)) (λ q. q) (either (same_sid t s))

    rest : (b : Bool) → (b || is_in s ts) ≡ false → is_in s ts ≡ false
    rest true k = absurd (not_both refl k)
    rest false k = k

starts_more : (ss : List Sid) (s : Sid) → starts_right ss ≡ true → starts_right (ss ++ (s ∷ [])) ≡ true
unfolding starts_right
starts_more [] s h = absurd (not_both h refl)
starts_more (t ∷ []) s h = absurd (not_both h refl)
starts_more (t ∷ u ∷ us) s h = h

-- a table that is in order
module _ (ss : List Sid) (v : sids_valid ss ≡ true) where
  pub sids_fit : fits_table ss ≡ true
  unfolding sids_valid
  sids_fit = and_l _ (starts_right ss) (and_l _ (all valid_sid ss) (and_l _ (different ss) v))

  pub sids_few : length ss ≤ max_sids
  unfolding fits_table
  sids_few = leb-true (length ss) max_sids sids_fit

  pub sids_start : starts_right ss ≡ true
  unfolding sids_valid
  sids_start = and_r (fits_table ss) _ (and_l _ (all valid_sid ss) (and_l _ (different ss) v))

  pub sids_sound : all valid_sid ss ≡ true
  unfolding sids_valid
  sids_sound = and_r (fits_table ss && starts_right ss) _ (and_l _ (different ss) v)

  pub sids_apart : different ss ≡ true
  unfolding sids_valid
  sids_apart = and_r (fits_table ss && starts_right ss && all valid_sid ss) _ v

  pub sid_at_lem : (i : ℕ) → i < length ss → valid_sid (get_or ss i no_sid) ≡ true
  sid_at_lem = by_all valid_sid no_sid ss sids_sound

pub valid_sids : (ss : List Sid) → fits_table ss ≡ true → starts_right ss ≡ true → all valid_sid ss ≡ true → different ss ≡ true → sids_valid ss ≡ true
unfolding sids_valid
valid_sids ss a b c d = and_i (and_i (and_i a b) c) d

-- the start's table
pub start_sids_lem : sids_valid start_sids ≡ true
unfolding sids_valid fits_table start_sids starts_right all valid_sid is_below different is_in same_sid same nt_sid
start_sids_lem = refl

-- two of them from the start
pub two_sids : (ss : List Sid) → starts_right ss ≡ true → (2 ≤ length ss) × (get_or ss 0 no_sid ≡ nt_sid 7) × (get_or ss 1 no_sid ≡ nt_sid 18)
unfolding starts_right
two_sids [] h = absurd (not_both h refl)
two_sids (s ∷ []) h = absurd (not_both h refl)
two_sids (s ∷ t ∷ ss) h =
    (omega arith, sid_eq s (nt_sid 7) (and_l (same_sid s (nt_sid 7)) (same_sid t (nt_sid 18)) h), sid_eq t (nt_sid 18) (and_r (same_sid s (nt_sid 7)) (same_sid t (nt_sid 18)) h))

pub sids_two : (ss : List Sid) → sids_valid ss ≡ true → 2 ≤ length ss
sids_two ss v = (two_sids ss (sids_start ss v)).0

pub start_two : (ss : List Sid) → 2 ≤ length ss → get_or ss 0 no_sid ≡ nt_sid 7 → get_or ss 1 no_sid ≡ nt_sid 18 → starts_right ss ≡ true
unfolding starts_right
start_two [] l a b = absurd (omega arith)
start_two (s ∷ []) l a b = absurd (omega arith)
start_two (s ∷ t ∷ ss) l a b = and_i (eq_sid s (nt_sid 7) a) (eq_sid t (nt_sid 18) b)

-- entering keeps a table valid, if it fits
pub entered_valid : (s : Sid) (ss : List Sid) → sids_valid ss ≡ true → valid_sid s ≡ true → fits_table (entered s ss) ≡ true → sids_valid (entered s ss) ≡ true
unfolding entered all
entered_valid s ss h v = by (is_in s ss) refl
  where
    by : (b : Bool) → is_in s ss ≡ b → fits_table (if b then ss else ss ++ (s ∷ [])) ≡ true → sids_valid (if b then ss else ss ++ (s ∷ [])) ≡ true
    by true e l = h
    by false e l =
        valid_sids (ss ++ (s ∷ [])) l (starts_more ss s (sids_start ss h)) (all_append valid_sid ss (s ∷ []) (sids_sound ss h) (and_i v refl)) (different_more ss s (sids_apart ss h) e)

pub place_more : (t : Sid) (ss us : List Sid) → is_in t ss ≡ true → place_of t (ss ++ us) ≡ place_of t ss
unfolding is_in place_of
place_more t [] us h = absurd (not_both h refl)
place_more t (u ∷ ss) us h = by (same_sid t u) h (place_more t ss us)
  where
    by : (b : Bool) → (b || is_in t ss) ≡ true → (is_in t ss ≡ true → place_of t (ss ++ us) ≡ place_of t ss) → (if b then 0 else suc (place_of t (ss ++ us))) ≡ (if b then 0 else suc (place_of t ss))
    by true k f = refl
    by false k f = ap suc (f k)

-- no number changes
pub entered_keeps : (s t : Sid) (ss : List Sid) → is_in t ss ≡ true → number_of (entered s ss) t ≡ number_of ss t
unfolding entered number_of
entered_keeps s t ss h = by (is_in s ss)
  where
    by : (b : Bool) → number_at (place_of t (if b then ss else ss ++ (s ∷ []))) ≡ number_at (place_of t ss)
    by true = refl
    by false = ap number_at (place_more t ss (s ∷ []) h)

pub entered_in : (s : Sid) (ss : List Sid) → is_in s (entered s ss) ≡ true
unfolding entered
entered_in s ss = by (is_in s ss) refl
  where
    by : (b : Bool) → is_in s ss ≡ b → is_in s (if b then ss else ss ++ (s ∷ [])) ≡ true
    by true e = e
    by false e = in_more s ss s ∙ ap (λ (c : Bool). is_in s ss || c) (sid_refl s) ∙ or-true (is_in s ss)

pub entered_stays : (s t : Sid) (ss : List Sid) → is_in t ss ≡ true → is_in t (entered s ss) ≡ true
unfolding entered
entered_stays s t ss h = by (is_in s ss)
  where
    by : (b : Bool) → is_in t (if b then ss else ss ++ (s ∷ [])) ≡ true
    by true = h
    by false = in_more t ss s ∙ ap (λ (c : Bool). c || same_sid t s) h

pub entered_known : (s : Sid) (ss : List Sid) → is_in s ss ≡ true → entered s ss ≡ ss
unfolding entered
entered_known s ss h = rw h

pub entered_new : (s : Sid) (ss : List Sid) → is_in s ss ≡ false → entered s ss ≡ ss ++ (s ∷ [])
unfolding entered
entered_new s ss h = rw h

pub entered_long : (s : Sid) (ss : List Sid) → length ss ≤ length (entered s ss)
unfolding entered
entered_long s ss = by (is_in s ss)
  where
    by : (b : Bool) → length ss ≤ length (if b then ss else ss ++ (s ∷ []))
    by true = omega arith
    by false = omega (arith, length-append ss (s ∷ []))

pub entered_prefix : (s : Sid) (ss : List Sid) → take (length ss) (entered s ss) ≡ ss
unfolding entered
entered_prefix s ss = by (is_in s ss)
  where
    by : (b : Bool) → take (length ss) (if b then ss else ss ++ (s ∷ [])) ≡ ss
    by true = take_all (length ss) ss (omega arith)
    by false = take_at ss (s ∷ []) (length ss) refl

-- ---- a number in a table is one in a longer table; every one fits 32 bits

pub number_more : (a b : List Sid) (n : ℕ) → length a ≤ length b → is_number a n ≡ true → is_number b n ≡ true
unfolding is_number
number_more a b n l h =
    ⊎_elim (λ p. or_l (eqb n 7 || eqb n 18) (leb 32 n && ltb n (30 + length b)) p)
    (λ p. or_r (eqb n 7 || eqb n 18) (leb 32 n && ltb n (30 + length b)) (and_i (and_l (leb 32 n) (ltb n (30 + length a)) p) (lt-ltb n (30 + length b) (wider p))))
    (or_e (eqb n 7 || eqb n 18) (leb 32 n && ltb n (30 + length a)) h)
  where
    wider : (leb 32 n && ltb n (30 + length a)) ≡ true → n < 30 + length b
    wider p = omega (arith, ltb-true n (30 + length a) (and_r (leb 32 n) _ p))

pub number_below : (ss : List Sid) (n : ℕ) → fits_table ss ≡ true → is_number ss n ≡ true → n < 286
unfolding is_number fits_table
number_below ss n f h =
    ⊎_elim (λ p. ⊎_elim (λ q. omega (arith, eqb-true n 7 q)) (λ q. omega (arith, eqb-true n 18 q)) (or_e (eqb n 7) (eqb n 18) p))
    (λ p. omega (arith, ltb-true n (30 + length ss) (and_r (leb 32 n) _ p), leb-true (length ss) max_sids f)) (or_e (eqb n 7 || eqb n 18) _ h)

pub number_32 : (ss : List Sid) (n : ℕ) → fits_table ss ≡ true → is_number ss n ≡ true → ltb n (2 ^ 32) ≡ true
number_32 ss n f h = lt-ltb n (2 ^ 32) (omega (arith, number_below ss n f h))

-- ---- SIDs as requests give them

-- a packed one is a valid SID
unfoldable pub given_valid : Given → Bool
given_valid (by_number n) = true
given_valid (by_sid s) = valid_sid s

pub entered_by_long : (x : Given) (ss : List Sid) → length ss ≤ length (entered_by x ss)
unfolding entered_by
entered_by_long (by_number n) ss = omega arith
entered_by_long (by_sid s) ss = entered_long s ss

pub entered_by_prefix : (x : Given) (ss : List Sid) → take (length ss) (entered_by x ss) ≡ ss
unfolding entered_by
entered_by_prefix (by_number n) ss = take_all (length ss) ss (omega arith)
entered_by_prefix (by_sid s) ss = entered_prefix s ss

pub entered_by_valid : (x : Given) (ss : List Sid) → sids_valid ss ≡ true → given_valid x ≡ true → fits_table (entered_by x ss) ≡ true → sids_valid (entered_by x ss) ≡ true
unfolding entered_by given_valid
entered_by_valid (by_number n) ss v g f = v
entered_by_valid (by_sid s) ss v g f = entered_valid s ss v g f

pub entered_by_kept : (x : Given) (t : Sid) (ss : List Sid) → is_in t ss ≡ true → (number_of (entered_by x ss) t ≡ number_of ss t) × (is_in t (entered_by x ss) ≡ true)
unfolding entered_by
entered_by_kept (by_number n) t ss h = (refl, h)
entered_by_kept (by_sid s) t ss h = (entered_keeps s t ss h, entered_stays s t ss h)

pub entered_all_long : (xs : List Given) (ss : List Sid) → length ss ≤ length (entered_all xs ss)
unfolding entered_all
entered_all_long [] ss = omega arith
entered_all_long (x ∷ xs) ss = omega (arith, entered_by_long x ss, entered_all_long xs (entered_by x ss))

pub entered_all_prefix : (xs : List Given) (ss : List Sid) → take (length ss) (entered_all xs ss) ≡ ss
unfolding entered_all
entered_all_prefix [] ss = take_all (length ss) ss (omega arith)
entered_all_prefix (x ∷ xs) ss =
    sym (take-take (length ss) (length (entered_by x ss)) (entered_all xs (entered_by x ss)) (entered_by_long x ss))
    ∙ ap (take (length ss)) (entered_all_prefix xs (entered_by x ss)) ∙ entered_by_prefix x ss

pub few_fit : (ss : List Sid) → length ss ≤ max_sids → fits_table ss ≡ true
unfolding fits_table
few_fit ss h = le-leb (length ss) max_sids h

pub many_unfit : (ss : List Sid) → max_sids < length ss → fits_table ss ≡ false
unfolding fits_table
many_unfit ss h = lt-leb (length ss) max_sids h

-- a longer table fits: a shorter one does
pub fits_less : (a b : List Sid) → length a ≤ length b → fits_table b ≡ true → fits_table a ≡ true
unfolding fits_table
fits_less a b l f = le-leb (length a) max_sids (omega (arith, leb-true (length b) max_sids f))

pub all_entered_valid : (xs : List Given) (ss : List Sid) → sids_valid ss ≡ true → all given_valid xs ≡ true → fits_table (entered_all xs ss) ≡ true
    → sids_valid (entered_all xs ss) ≡ true
unfolding entered_all all
all_entered_valid [] ss v g f = v
all_entered_valid (x ∷ xs) ss v g f =
    all_entered_valid xs (entered_by x ss)
    (entered_by_valid x ss v (and_l (given_valid x) (all given_valid xs) g) (fits_less (entered_by x ss) (entered_all xs (entered_by x ss)) (entered_all_long xs (entered_by x ss)) f))
    (and_r (given_valid x) (all given_valid xs) g) f

-- a number once given stands
pub entered_all_kept : (xs : List Given) (s : Sid) (ss : List Sid) → is_in s ss ≡ true → (number_of (entered_all xs ss) s ≡ number_of ss s) × (is_in s (entered_all xs ss) ≡ true)
unfolding entered_all
entered_all_kept [] s ss h = (refl, h)
entered_all_kept (x ∷ xs) s ss h =
    let k = entered_by_kept x s ss h in
    let r = entered_all_kept xs s (entered_by x ss) k.1 in
    (r.0 ∙ k.0, r.1)

pub number_kept : (xs : List Given) (s : Sid) (ss : List Sid) → is_in s ss ≡ true → number_of (entered_all xs ss) s ≡ number_of ss s
number_kept xs s ss h = (entered_all_kept xs s ss h).0

pub stays_in : (xs : List Given) (s : Sid) (ss : List Sid) → is_in s ss ≡ true → is_in s (entered_all xs ss) ≡ true
stays_in xs s ss h = (entered_all_kept xs s ss h).1

-- each packed one has a number then
pub all_entered_in : (xs : List Given) (s : Sid) (ss : List Sid) → Mem (by_sid s) xs → is_in s (entered_all xs ss) ≡ true
unfolding entered_all entered_by
all_entered_in [] s ss x' = elim x' [ ]
all_entered_in (x ∷ xs) s ss (here e) = stays_in xs s (entered_by x ss) (ap (λ (y : Given). is_in s (entered_by y ss)) (sym e) ∙ entered_in s ss)
all_entered_in (x ∷ xs) s ss (there m) = all_entered_in xs s (entered_by x ss) m

unfoldable pub is_by_number : Given → Bool
is_by_number (by_number n) = true
is_by_number (by_sid s) = false

-- numbers enter none
pub numbers_enter_none : (xs : List Given) (ss : List Sid) → all is_by_number xs ≡ true → entered_all xs ss ≡ ss
unfolding entered_all entered_by all is_by_number
numbers_enter_none [] ss h = refl
numbers_enter_none (by_number n ∷ xs) ss h = numbers_enter_none xs ss h
numbers_enter_none (by_sid s ∷ xs) ss h = absurd (not_both h refl)

-- ---- where a number stands

pub place_given : (n : ℕ) → 32 ≤ n → place_of_number n ≡ n - 30
unfolding place_of_number
place_given n l = rw (ne_eqb n 7 (λ e. omega arith), ne_eqb n 18 (λ e. omega arith)) refl

number_given : (n : ℕ) → 32 ≤ n → number_at (n - 30) ≡ n
unfolding number_at
number_given n l = let e : 32 + (n - 32) ≡ n = omega arith in ap number_at {x = n - 30} {y = suc (suc (n - 32))} (omega arith) ∙ e

pub place_number : (i : ℕ) → place_of_number (number_at i) ≡ i
unfolding place_of_number number_at
place_number zero = refl
place_number (suc zero) = refl
place_number (suc (suc i)) = let e : 32 + i - 30 ≡ suc (suc i) = omega arith in place_given (32 + i) (omega arith) ∙ e

pub number_place : (ss : List Sid) (n : ℕ) → is_number ss n ≡ true → number_at (place_of_number n) ≡ n
unfolding is_number place_of_number number_at
number_place ss n h =
    ⊎_elim (λ p. ⊎_elim (λ q. known 7 (eqb-true n 7 q) refl) (λ q. known 18 (eqb-true n 18 q) refl) (or_e (eqb n 7) (eqb n 18) p))
    (λ p. let l : 32 ≤ n = leb-true 32 n (and_l (leb 32 n) (ltb n (30 + length ss)) p) in ap number_at (place_given n l) ∙ number_given n l)
    (or_e (eqb n 7 || eqb n 18) (leb 32 n && ltb n (30 + length ss)) h)
  where
    known : (k : ℕ) → n ≡ k → number_at (place_of_number k) ≡ k → number_at (place_of_number n) ≡ n
    known k e q = ap (λ (x : ℕ). number_at (place_of_number x)) e ∙ q ∙ sym e

-- below the table's length
pub place_below : (ss : List Sid) (n : ℕ) → 2 ≤ length ss → is_number ss n ≡ true → place_of_number n < length ss
unfolding is_number place_of_number
place_below ss n l h =
    ⊎_elim (λ p. ⊎_elim (λ q. known 7 (eqb-true n 7 q) (omega arith)) (λ q. known 18 (eqb-true n 18 q) (omega arith)) (or_e (eqb n 7) (eqb n 18) p))
    (λ p. given (leb-true 32 n (and_l (leb 32 n) (ltb n (30 + length ss)) p)) (ltb-true n (30 + length ss) (and_r (leb 32 n) (ltb n (30 + length ss)) p)))
    (or_e (eqb n 7 || eqb n 18) (leb 32 n && ltb n (30 + length ss)) h)
  where
    known : (k : ℕ) → n ≡ k → place_of_number k < length ss → place_of_number n < length ss
    known k e q = rw e q

    given : 32 ≤ n → n < 30 + length ss → place_of_number n < length ss
    given a b = omega (arith, place_given n a)

-- the SID of a number has that number, and the number of a SID is that SID's
pub sid_of_number : (s : Sid) (ss : List Sid) → is_in s ss ≡ true → sid_of ss (number_of ss s) ≡ s
unfolding sid_of number_of
sid_of_number s ss h = ap (λ (i : ℕ). get_or ss i no_sid) (place_number (place_of s ss)) ∙ (place_in s no_sid ss h).1

pub number_of_sid : (ss : List Sid) (n : ℕ) → sids_valid ss ≡ true → is_number ss n ≡ true → number_of ss (sid_of ss n) ≡ n
unfolding sid_of number_of
number_of_sid ss n v h =
    let l : place_of_number n < length ss = place_below ss n (sids_two ss v) h in
    let p = place_in (get_or ss (place_of_number n) no_sid) no_sid ss (at_in no_sid ss (place_of_number n) l) in
    ap number_at (different_apart no_sid ss (sids_apart ss v) (place_of (get_or ss (place_of_number n) no_sid) ss) (place_of_number n) p.0 l p.1) ∙ number_place ss n h
