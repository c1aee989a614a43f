-- A SID enters where the words hold the first 256 of a list: it is one of these, or there is room behind them, or there is none. Assumes nothing.
use Prim.Native.Nat.{ℕ, zero, suc, ◌+◌, ◌≤◌, ◌<◌}
use native.Mathlib.Omega.{arith}
use mathlib.Core.Path.{◌≡◌, refl, sym, ap, ◌∙◌, subst}
use mathlib.Core.Bool.{Bool, true, false, ◌&&◌, ◌||◌, and-true, and-false}
use mathlib.Core.Logic.{◌⊎◌, inl, inr, ⊎_elim}
use mathlib.Core.List.{List, [], ◌∷◌, ◌++◌, append_assoc, append-nil}
use lib.Dec.{ltb}
use lib.ListN.{length, take, drop, length-take, length-append, take-append-drop}
use lib.Seq.{take_all, take_at}
use borrow.Author.Tests.{ltb-true, ltb-false}
use Rattle.std.specs.Prelude.{if◌then◌else◌, Option, Some, None}
use Rattle.rules.specs.Sid.{Sid, same_sid}
use Rattle.rules.specs.SidTable.{max_sids, number_at, is_in, place_of, number_of, entered, fits_table, sids_valid}
use Rattle.rules.specs.SidRows.{row_sid, write_sids, sids_at}
use Rattle.rules.proofs.Logic.{not_both, either}
use Rattle.rules.proofs.Sids.{sid_refl}
use Rattle.rules.proofs.SidNumbers.{place_in, absent_place, place_more, entered_known, entered_new, entered_valid, entered_in, sids_few, few_fit, many_unfit}
use Rattle.rules.proofs.SidWords.{read_back}
use Rattle.sid.specs.Finding.{EnteredAs, Rowed}
use Rattle.given.specs.Given.{Capped, GivenEntered}

-- ---- lists of SIDs

in_front : (s : Sid) (xs ys : List Sid) → is_in s xs ≡ true → is_in s (xs ++ ys) ≡ true
unfolding is_in
in_front s [] ys h = absurd (not_both h refl)
in_front s (x ∷ xs) ys h = by (same_sid s x) h (in_front s xs ys)
  where
    by : (b : Bool) → (b || is_in s xs) ≡ true → (is_in s xs ≡ true → is_in s (xs ++ ys) ≡ true) → (b || is_in s (xs ++ ys)) ≡ true
    by true k f = refl
    by false k f = f k

-- behind those among which it is not
place_past : (s : Sid) (xs ys : List Sid) → is_in s xs ≡ false → place_of s (xs ++ ys) ≡ length xs + place_of s ys
unfolding is_in place_of
place_past s [] ys h = omega arith
place_past s (x ∷ xs) ys h = by (same_sid s x) h (place_past s xs ys)
  where
    by : (b : Bool) → (b || is_in s xs) ≡ false → (is_in s xs ≡ false → place_of s (xs ++ ys) ≡ length xs + place_of s ys)
        → (if b then 0 else suc (place_of s (xs ++ ys))) ≡ suc (length xs) + place_of s ys
    by true k f = absurd (not_both refl k)
    by false k f = let e = f k in omega arith

-- itself at the front
first_place : (s : Sid) (ys : List Sid) → place_of s (s ∷ ys) ≡ 0
unfolding place_of
first_place s ys = ap (λ (b : Bool). if b then 0 else suc (place_of s ys)) (sid_refl s)

numbers_rise : (i j : ℕ) → 2 ≤ i → i ≤ j → number_at i ≤ number_at j
unfolding number_at
numbers_rise zero j h k = absurd (omega arith)
numbers_rise (suc zero) j h k = absurd (omega arith)
numbers_rise (suc (suc i)) zero h k = absurd (omega arith)
numbers_rise (suc (suc i)) (suc zero) h k = absurd (omega arith)
numbers_rise (suc (suc i)) (suc (suc j)) h k = omega arith

-- ---- the three cases

module _ {x ws ws' : List ℕ} {r : Option ℕ} (rowed : Rowed x) (e : EnteredAs x ws ws' r) (sids : List Sid) (c : Capped sids ws) where
  abbrev s : Sid
  s = row_sid x

  abbrev first : List Sid
  first = take max_sids sids

  abbrev place : ℕ
  place = place_of s first

  split : sids ≡ first ++ drop max_sids sids
  split = sym (take-append-drop max_sids sids)

  table : sids_at ws ≡ first
  table = ap sids_at c.words ∙ read_back first c.sound

  placed : (b : Bool) → fits_table (entered s first) ≡ b → r ≡ (if b then Some place else None)
  placed b f = e.place ∙ ap (λ (t : List Sid). if fits_table (entered s t) then Some (place_of s t) else None) table ∙ ap (λ (b : Bool). if b then Some place else None) f

  written : (b : Bool) → fits_table (entered s first) ≡ b → ws' ≡ (if b then write_sids (entered s first) else ws)
  written b f =
      e.written ∙ ap (λ (t : List Sid). if fits_table (entered s t) then write_sids (entered s t) else ws) table
      ∙ ap (λ (b : Bool). if b then write_sids (entered s first) else ws) f

  few : length first ≤ max_sids
  few = sids_few first c.sound

  -- it is one of them
  module _ (h : is_in s first ≡ true) where
    known : entered s sids ≡ sids
    known = entered_known s sids (subst (λ (t : List Sid). is_in s t ≡ true) (sym split) (in_front s first (drop max_sids sids) h))

    known_fit : fits_table (entered s first) ≡ true
    known_fit = ap fits_table (entered_known s first h) ∙ few_fit first few

    known_held : Capped (entered s sids) ws'
    known_held = record {
      words = written true known_fit ∙ ap write_sids (entered_known s first h) ∙ ap (λ (t : List Sid). write_sids (take max_sids t)) (sym known);
      sound = ap (λ (t : List Sid). sids_valid (take max_sids t)) known ∙ c.sound;
    }

    known_number : number_at place ≡ number_of (entered s sids) s
    unfolding number_of
    known_number = ap number_at (sym (place_more s first (drop max_sids sids) h) ∙ ap (place_of s) (sym split ∙ sym known))

  module _ (h : is_in s first ≡ false) where
    past : place ≡ length first
    past = absent_place s first h

    -- there is room behind them
    module _ (room : length first < max_sids) where
      whole : first ≡ sids
      whole = take_all max_sids sids (omega (arith, room, length-take max_sids sids))

      new : entered s sids ≡ sids ++ (s ∷ [])
      new = entered_new s sids (ap (is_in s) (sym whole) ∙ h)

      longer : length (entered s sids) ≡ suc (length first)
      longer = ap length new ∙ length-append sids (s ∷ []) ∙ omega (arith, ap length whole)

      fits : fits_table (entered s sids) ≡ true
      fits = few_fit (entered s sids) (omega (arith, longer, room))

      new_fit : fits_table (entered s first) ≡ true
      new_fit = ap (λ (t : List Sid). fits_table (entered s t)) whole ∙ fits

      all_of : take max_sids (entered s sids) ≡ entered s sids
      all_of = take_all max_sids (entered s sids) (omega (arith, longer, room))

      new_held : Capped (entered s sids) ws'
      new_held = record {
        words = written true new_fit ∙ ap (λ (t : List Sid). write_sids (entered s t)) whole ∙ ap write_sids (sym all_of);
        sound = ap sids_valid all_of ∙ entered_valid s sids (ap sids_valid (sym whole) ∙ c.sound) rowed.sound fits;
      }

      new_fits : fits_table (entered s sids) ≡ (fits_table sids && true)
      new_fits = fits ∙ sym (ap (λ (b : Bool). b && true) (few_fit sids (omega (arith, room, ap length whole))))

      new_number : number_at place ≡ number_of (entered s sids) s
      unfolding number_of
      new_number = ap number_at (past ∙ ap length whole ∙ sym (ap (place_of s) new ∙ place_past s sids (s ∷ []) (ap (is_in s) (sym whole) ∙ h) ∙ alone))
        where
          alone : length sids + place_of s (s ∷ []) ≡ length sids
          alone = ap (λ (n : ℕ). length sids + n) (first_place s []) ∙ omega arith

    -- there is none
    module _ (full : max_sids ≤ length first) where
      exact : length first ≡ max_sids
      exact = omega (arith, few, full)

      behind : (us : List Sid) → entered s sids ≡ sids ++ us → entered s sids ≡ first ++ (drop max_sids sids ++ us)
      behind us q = q ∙ ap (λ (t : List Sid). t ++ us) split ∙ append_assoc first (drop max_sids sids) us

      -- as it was, or with it behind
      either_way : (us : List Sid) × (entered s sids ≡ sids ++ us)
      either_way =
          ⊎_elim (λ k. ([], entered_known s sids k ∙ sym (append-nil sids))) (λ k. (s ∷ [], entered_new s sids k)) (either (is_in s sids))

      front : take max_sids (entered s sids) ≡ first
      front = ap (take max_sids) (behind either_way.0 either_way.1) ∙ take_at first _ max_sids exact

      unfit : fits_table (entered s first) ≡ false
      unfit = many_unfit (entered s first) (omega (arith, ap length (entered_new s first h), length-append first (s ∷ []), exact))

      none_held : Capped (entered s sids) ws'
      none_held = record { words = written false unfit ∙ c.words ∙ ap write_sids (sym front); sound = ap sids_valid front ∙ c.sound }

      at_end : max_sids ≤ place_of s (entered s sids)
      at_end = omega (arith, ap (place_of s) (behind either_way.0 either_way.1) ∙ place_past s first _ h, exact)

      -- the place is below the length, as it is one of them
      none_fits : fits_table (entered s sids) ≡ (fits_table sids && false)
      none_fits =
          many_unfit (entered s sids) (omega (arith, at_end, (place_in s s (entered s sids) (entered_in s sids)).0)) ∙ sym (and-false (fits_table sids))

      none_number : number_at max_sids ≤ number_of (entered s sids) s
      unfolding number_of
      none_number = numbers_rise max_sids _ (omega arith) at_end

-- ---- the contract

below_or : (a b : ℕ) → (a < b) ⊎ (b ≤ a)
below_or a b = go (ltb a b) refl
  where
    go : (t : Bool) → ltb a b ≡ t → (a < b) ⊎ (b ≤ a)
    go true e = inl (ltb-true a b e)
    go false e = inr (ltb-false a b e)

no_some : {P : Type 0} {n : ℕ} → None ≡ Some n → P
no_some h = cc

cases : (s : Sid) (ss : List Sid) (P : Type 0) → ((h : is_in s ss ≡ true) → P) → ((h : is_in s ss ≡ false) → length ss < max_sids → P) → ((h : is_in s ss ≡ false) → max_sids ≤ length ss → P) → P
cases s ss P a b d = ⊎_elim a (λ h. ⊎_elim (b h) (d h) (below_or (length ss) max_sids)) (either (is_in s ss))

-- what holds of each list of SIDs where there is room
module _ {x ws ws' : List ℕ} {i : ℕ} (rowed : Rowed x) (e : EnteredAs x ws ws' (Some i)) (sids : List Sid) (c : Capped sids ws) where
  some_here : i ≡ place_of (row_sid x) (take max_sids sids)
  some_here = by (fits_table (entered (row_sid x) (take max_sids sids))) (placed rowed e sids c _ refl)
    where
      by : (b : Bool) → Some i ≡ (if b then Some (place_of (row_sid x) (take max_sids sids)) else None) → i ≡ place_of (row_sid x) (take max_sids sids)
      by true q = cc
      by false q = cc

  full_not : {P : Type 0} → (h : is_in (row_sid x) (take max_sids sids) ≡ false) → max_sids ≤ length (take max_sids sids) → P
  full_not h f = no_some (sym (placed rowed e sids c false (unfit rowed e sids c h f)))

  some_held : Capped (entered (row_sid x) sids) ws'
  some_held = cases (row_sid x) (take max_sids sids) _ (known_held rowed e sids c) (new_held rowed e sids c) full_not

  some_fits : fits_table (entered (row_sid x) sids) ≡ (fits_table sids && true)
  some_fits = cases (row_sid x) (take max_sids sids) _ (λ h. ap fits_table (known rowed e sids c h) ∙ sym (and-true (fits_table sids))) (new_fits rowed e sids c) full_not

  some_number : number_at i ≡ number_of (entered (row_sid x) sids) (row_sid x)
  some_number = ap number_at some_here ∙ cases (row_sid x) (take max_sids sids) _ (known_number rowed e sids c) (new_number rowed e sids c) full_not

-- and where there is none
module _ {x ws ws' : List ℕ} (rowed : Rowed x) (e : EnteredAs x ws ws' None) (sids : List Sid) (c : Capped sids ws) where
  none_so : {P : Type 0} → ((h : is_in (row_sid x) (take max_sids sids) ≡ false) → max_sids ≤ length (take max_sids sids) → P) → P
  none_so {P} d =
      cases (row_sid x) (take max_sids sids) P
      (λ h. no_some (placed rowed e sids c true (known_fit rowed e sids c h)))
      (λ h r. no_some (placed rowed e sids c true (new_fit rowed e sids c h r))) d

pub given_some : {x ws ws' : List ℕ} {i n : ℕ} → Rowed x → EnteredAs x ws ws' (Some i) → n ≡ number_at i → GivenEntered (row_sid x) ws ws' (Some n)
given_some r e q = record {
  held = λ sids c. some_held r e sids c;
  fits = λ sids c. some_fits r e sids c;
  number = λ sids c. q ∙ some_number r e sids c;
  none = λ sids c. tt;
  same = tt;
}

none_same : {x ws ws' : List ℕ} → EnteredAs x ws ws' None → ws' ≡ ws
none_same {x} {ws} {ws'} e = by (fits_table (entered (row_sid x) (sids_at ws))) e.place e.written
  where
    by : (b : Bool) → None ≡ (if b then Some (place_of (row_sid x) (sids_at ws)) else None) → ws' ≡ (if b then write_sids (entered (row_sid x) (sids_at ws)) else ws) → ws' ≡ ws
    by true q w = no_some q
    by false q w = w

pub given_none : {x ws ws' : List ℕ} → Rowed x → EnteredAs x ws ws' None → GivenEntered (row_sid x) ws ws' None
given_none r e = record {
  held = λ sids c. none_so r e sids c (none_held r e sids c);
  fits = λ sids c. none_so r e sids c (none_fits r e sids c);
  number = λ sids c. tt;
  none = λ sids c. none_so r e sids c (none_number r e sids c);
  same = none_same e;
}
