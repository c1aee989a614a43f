-- Request 10's restricting SIDs: a list of them, those given, those of the source that stay, and the row that gets them. Assumes nothing.
use Prim.Native.Nat.{ℕ, suc, ◌+◌, ◌-◌, ◌*◌, ◌≤◌, ◌<◌}
use native.Mathlib.Numerals.{add-one}
use native.Mathlib.Omega.{arith}
use mathlib.Core.Path.{◌≡◌, refl, sym, ap, ap₂, ◌∙◌, subst}
use mathlib.Core.Bool.{Bool, true, false, ◌||◌}
use mathlib.Core.List.{List, [], ◌∷◌, ◌++◌, map, append-nil, append_assoc}
use lib.Dec.{eqb}
use lib.ListN.{length, take, drop, get_or, set, replicate, length-append, length-take, length-set}
use lib.Seq.{append_snoc, take-suc, drop-length, take_at, drop_at, set-append_seam}
use borrow.Author.Tests.{eq-eqb, ne_eqb}
use borrow.Rule.Slice.PartMut.{put_mid, Post-is}
use Rattle.std.proofs.lemmas.List.{drop-take, drop-drop, take-take, take_all}
use Rattle.std.specs.List.{list_any}
use Rattle.table.specs.Lists.{pad, length_pad, pad_fits, take_pad}
use Rattle.table.specs.Table.{nth_record}
use Rattle.std.specs.Prelude.{if◌then◌else◌}
use Rattle.rules.specs.Basic.{filter, member, is_empty}
use Rattle.rules.specs.Token.{Token, max_groups, max_restricting}
use Rattle.rules.specs.Head as Head
use Rattle.rules.specs.Memory.{head_words, token_words, pack, head, token_row}
use Rattle.rules.specs.Request.{u32}
use Rattle.rules.specs.Restrict.{restricting_to}
use Rattle.copy.specs.declared.restricting.Sids.{Sids}
use Rattle.copy.specs.Restricting.{so_many, Listed, SidAdded, is_kept, Answers, OwnKept, ListMade, with_restricting, RestrictedTo}
use Rattle.copy.specs.Numbers.{numbers_in}
use Rattle.body.proofs.Pairs.{Long, times_long}
use Rattle.copy.proofs.NumbersRead.{numbers_got}

-- ---- one SID more

-- the first zero becomes one element more
pad_more : (n : ℕ) (xs : List ℕ) (v : ℕ) → length xs < n → set (pad n xs) (length xs) v ≡ pad n (xs ++ (v ∷ []))
pad_more n xs v h =
    let m = n - length xs - 1 in
    let more : length (xs ++ (v ∷ [])) ≡ length xs + 1 = length-append xs (v ∷ []) in
    ap (λ (l : List ℕ). set l (length xs) v) (pad_fits n xs (omega arith))
    ∙ ap (λ (k : ℕ). set (xs ++ replicate k 0) (length xs) v) {x = n - length xs} {y = suc m} (omega arith)
    ∙ set-append_seam xs 0 (replicate m 0) v
    ∙ sym (append_snoc xs v (replicate m 0))
    ∙ ap (λ (k : ℕ). (xs ++ (v ∷ [])) ++ replicate k 0) {x = m} {y = n - length (xs ++ (v ∷ []))} (omega arith)
    ∙ sym (pad_fits n (xs ++ (v ∷ [])) (omega arith))

pub adds : (sid : ℕ) (list : Sids) {ws : List ℕ} → (list.count < max_restricting → ws ≡ set list.words list.count sid) → SidAdded sid list (record { count = list.count + 1; words = ws })
adds sid list {ws} put = record {
  count = refl;
  listed = λ xs l.
      let n = l.count in
      let more : length (xs ++ (sid ∷ [])) ≡ length xs + 1 = length-append xs (sid ∷ []) in
      record {
        count = omega arith;
        words = λ few. put (omega arith) ∙ ap₂ (λ (ws : List ℕ) (k : ℕ). set ws k sid) (l.words (omega arith)) n ∙ pad_more max_restricting xs sid (omega arith);
      };
}

abbrev pub no_sids : Sids
no_sids = record { count = 0; words = replicate max_restricting 0 }

pub none_listed : Listed [] no_sids
unfolding pad
none_listed = record { count = refl; words = λ few. refl }

-- ---- one of the source's

among : (sid : ℕ) (xs : List ℕ) → list_any (λ n. eqb sid n) xs ≡ member sid xs
unfolding member
among sid [] = refl
among sid (x ∷ xs) = ap (λ (b : Bool). eqb sid x || b) (among sid xs)

module _ (sid : ℕ) {given : List ℕ} where
  pub none_given : given ≡ [] → true ≡ is_kept given sid
  unfolding is_empty
  none_given e = rw e

  module _ (first : ℕ) (rest : List ℕ) (e : given ≡ first ∷ rest) where
    pub first_given : sid ≡ first → eqb sid first ≡ is_kept given sid
    unfolding is_empty member
    first_given h = rw e (eq-eqb sid first h ∙ sym (ap (λ (b : Bool). b || member sid rest) (eq-eqb sid first h)))

    pub later_given : (sid ≡ first → ⊥) → {b : Bool} → b ≡ list_any (λ n. eqb sid n) rest → b ≡ is_kept given sid
    unfolding is_empty member
    later_given h f = f ∙ among sid rest ∙ rw e (sym (ap (λ (b : Bool). b || member sid rest) (ne_eqb sid first h)))

-- ---- all of the source's

module _ (f : ℕ → Bool) where
  filter_append : (xs ys : List ℕ) → filter f (xs ++ ys) ≡ filter f xs ++ filter f ys
  unfolding filter
  filter_append [] ys = refl
  filter_append (x ∷ xs) ys = go (f x) (filter_append xs ys)
    where
      go : (b : Bool) → filter f (xs ++ ys) ≡ filter f xs ++ filter f ys
          → (if b then x ∷ filter f (xs ++ ys) else filter f (xs ++ ys)) ≡ (if b then x ∷ filter f xs else filter f xs) ++ filter f ys
      go true e = ap (λ (l : List ℕ). x ∷ l) e
      go false e = e

  -- one element more is looked at
  filter_more : (xs : List ℕ) (i : ℕ) → i < length xs → {v : ℕ} → v ≡ get_or xs i 0 → {b : Bool} → b ≡ f v
      → filter f (take i xs) ++ (if b then v ∷ [] else []) ≡ filter f (take (i + 1) xs)
  unfolding filter
  filter_more xs i h {v} ev eb =
      ap₂ (λ (b : Bool) (w : ℕ). filter f (take i xs) ++ (if b then w ∷ [] else [])) (eb ∙ ap f ev) ev
      ∙ sym (ap (λ (k : ℕ). filter f (take k xs)) (add-one i) ∙ ap (filter f) (take-suc xs i 0 h) ∙ filter_append (take i xs) (get_or xs i 0 ∷ []))

-- where the SIDs stand in a row
abbrev pub sids_at : ℕ
sids_at = head_words + max_groups

pub own_in_row : (t : Token) → drop sids_at (token_row t) ≡ pad max_restricting t.limits.restricting
unfolding token_row head
own_in_row t =
    let gs = pad max_groups (map pack t.groups) in
    let rs = pad max_restricting t.limits.restricting in
    let size : length (head t ++ gs) ≡ sids_at = length-append (head t) gs ∙ ap (λ (k : ℕ). head_words + k) (length_pad max_groups (map pack t.groups)) in
    ap (drop sids_at) (sym (append_assoc (head t) gs rs)) ∙ drop_at (head t ++ gs) rs sids_at size

-- the part of a slot's row that has them
own_in_slot : (slot : ℕ) (ts : List ℕ) (t : Token) → nth_record token_words slot ts ≡ token_row t → length t.limits.restricting ≤ max_restricting
    → take (length t.limits.restricting) (drop (slot * token_words + sids_at) ts) ≡ t.limits.restricting
unfolding nth_record
own_in_slot slot ts t e few =
    let own = t.limits.restricting in
    ap (take (length own)) (sym (drop-drop sids_at (slot * token_words) ts))
    ∙ sym (take-take (length own) max_restricting (drop sids_at (drop (slot * token_words) ts)) few)
    ∙ ap (take (length own)) (sym (drop-take sids_at max_restricting (drop (slot * token_words) ts)) ∙ ap (drop sids_at) e ∙ own_in_row t)
    ∙ take_pad max_restricting own few

-- so far in the loop, by each test that is one of G's
pub record Keeping (G : (ℕ → Bool) → Type 0) (xs : List ℕ) (list : Sids) (i : ℕ) : Type 0 where
  pub few : list.count ≤ i
  pub so_far : (f : ℕ → Bool) → G f → Listed (filter f (take i xs)) list

module _ (G : (ℕ → Bool) → Type 0) {xs : List ℕ} where
  pub keep_begin : Keeping G xs no_sids 0
  unfolding filter
  keep_begin = record { few = omega arith; so_far = λ f e. none_listed }

  module _ {list : Sids} {i : ℕ} (k : Keeping G xs list i) (h : i < length xs) (v : ℕ) (ev : v ≡ get_or xs i 0) {b : Bool} (j : (f : ℕ → Bool) → G f → b ≡ f v) where
    pub keep_one : b ≡ true → {r now : Sids} → SidAdded v list r → now ≡ r → Keeping G xs now (i + 1)
    keep_one y {r} d w = rw w (record {
      few = let few = k.few in let one = d.count in omega arith;
      so_far = λ f e.
          subst (λ (l : List ℕ). Listed l r)
          (ap (λ (b : Bool). filter f (take i xs) ++ (if b then v ∷ [] else [])) (sym y) ∙ filter_more f xs i h ev (j f e))
          (d.listed _ (k.so_far f e));
    })

    pub keep_none : b ≡ false → {now : Sids} → now ≡ list → Keeping G xs now (i + 1)
    keep_none y w = rw w (record {
      few = let few = k.few in omega arith;
      so_far = λ f e.
          subst (λ (l : List ℕ). Listed l list)
          (sym (append-nil (filter f (take i xs)))
          ∙ ap (λ (b : Bool). filter f (take i xs) ++ (if b then v ∷ [] else [])) (sym y) ∙ filter_more f xs i h ev (j f e))
          (k.so_far f e);
    })

  pub keep_end : {slot own : ℕ} {ts : List ℕ} {list : Sids} {i : ℕ} → own ≤ max_restricting → xs ≡ take own (drop (slot * token_words + sids_at) ts)
      → Keeping G xs list i → length xs ≤ i → OwnKept slot own ts G list
  keep_end {slot} {own} {ts} {list} {i} few e k h = record {
    listed = λ f y t n q. subst (λ (l : List ℕ). Listed (filter f l) list)
        (take_all i xs h ∙ e ∙ ap (λ (j : ℕ). take j (drop (slot * token_words + sids_at) ts)) (sym n) ∙ own_in_slot slot ts t q (subst (λ (j : ℕ). j ≤ max_restricting) (sym n) few)) (k.so_far f y);
  }

-- ---- the copy's list

pub given_to : (given own : List ℕ) → length own ≡ 0 → given ≡ restricting_to given own
unfolding restricting_to is_empty
given_to given [] h = refl
given_to given (x ∷ xs) h = absurd (omega arith)

all_stay : (xs : List ℕ) → filter (λ x. true) xs ≡ xs
unfolding filter
all_stay [] = refl
all_stay (x ∷ xs) = ap (λ (l : List ℕ). x ∷ l) (all_stay xs)

pub kept_of : (given own : List ℕ) → (length own ≡ 0 → ⊥) → filter (is_kept given) own ≡ restricting_to given own
unfolding restricting_to is_empty
kept_of given [] h = absurd (h refl)
kept_of [] (x ∷ xs) h = all_stay (x ∷ xs)
kept_of (y ∷ ys) (x ∷ xs) h = refl

-- of too many, their number is all that is asked for
many_listed : {xs : List ℕ} {count : ℕ} → length xs ≡ count → max_restricting < count → Listed xs (so_many count)
many_listed e h = record { count = sym e; words = λ few. absurd (omega arith) }

pub lists_many : (slot own : ℕ) {ts s : List ℕ} {at count : ℕ} {r : Sids} → own ≡ 0 → max_restricting < count → r ≡ so_many count → ListMade slot own ts s at count r
lists_many slot own {ts} {s} {at} {count} {r} z h f = record {
  listed = λ given later e t n q.
      subst (λ (l : Sids). Listed (restricting_to given t.limits.restricting) l) (sym f)
      (many_listed (ap length (sym (given_to given t.limits.restricting (n ∙ z))) ∙ subst (Long u32 count) e (times_long u32 count (drop at s))) h);
}

module _ (slot own : ℕ) {ts s : List ℕ} {at count : ℕ} {ns : List ℕ} (all_of : ns ≡ numbers_in count (drop at s)) {r : Sids} where
  pub lists_given : own ≡ 0 → Listed ns r → ListMade slot own ts s at count r
  lists_given z l = record {
    listed = λ given later e t n q. subst (λ (l : List ℕ). Listed l r) (all_of ∙ numbers_got count (drop at s) e ∙ given_to given t.limits.restricting (n ∙ z)) l;
  }

  -- by a test that answers as the numbers given say
  pub lists_kept : (own ≡ 0 → ⊥) → {test : ℕ → Bool → Type 0} → OwnKept slot own ts (Answers test) r → Answers test (is_kept ns) → ListMade slot own ts s at count r
  lists_kept z g answers = record {
    listed = λ given later e t n q.
        subst (λ (l : List ℕ). Listed l r)
        (ap (λ (l : List ℕ). filter (is_kept l) t.limits.restricting) (all_of ∙ numbers_got count (drop at s) e) ∙ kept_of given t.limits.restricting (λ y. z (sym n ∙ y)))
        (g.listed (is_kept ns) answers t n q);
  }

-- ---- in a row

restricted_row : (t : Token) (sids : List ℕ)
    → set (take sids_at (token_row t) ++ pad max_restricting sids) Head.restricting_count (length sids) ≡ token_row (with_restricting sids t)
unfolding token_row head with_restricting
restricted_row t sids =
    let gs = pad max_groups (map pack t.groups) in
    let rs = pad max_restricting t.limits.restricting in
    let long = length_pad max_groups (map pack t.groups) in
    let size : length (head t ++ gs) ≡ sids_at = length-append (head t) gs ∙ ap (λ (k : ℕ). head_words + k) long in
    ap (λ (l : List ℕ). set (l ++ pad max_restricting sids) Head.restricting_count (length sids))
    (ap (take sids_at) (sym (append_assoc (head t) gs rs)) ∙ take_at (head t ++ gs) rs sids_at size)
    ∙ ap (λ (l : List ℕ). set l Head.restricting_count (length sids)) (append_assoc (head t) gs (pad max_restricting sids))

pub restricts_to : (list : Sids) (ws : List ℕ) → length ws ≡ token_words → length list.words ≡ max_restricting → {ys : List ℕ} → ys ≡ list.words
    → RestrictedTo list ws (set (put_mid sids_at max_restricting ws ys) Head.restricting_count list.count)
restricts_to list ws long size {ys} e =
    let put : put_mid sids_at max_restricting ws ys ≡ take sids_at ws ++ list.words =
    ap₂ (λ (l r : List ℕ). take sids_at ws ++ (l ++ r)) e (Post-is sids_at token_words ws (omega arith) ∙ ap (λ (n : ℕ). drop n ws) (sym long) ∙ drop-length ws)
    ∙ ap (λ (l : List ℕ). take sids_at ws ++ l) (append-nil list.words) in
    subst (λ (l : List ℕ). RestrictedTo list ws (set l Head.restricting_count list.count)) (sym put) (record {
      long = simp (length-set, length-append, length-take) (omega arith);
      made = λ sids l few t q. (λ i. set (take sids_at (q i) ++ l.words few i) Head.restricting_count (l.count i)) ∙ restricted_row t sids;
    })
