-- The lists of numbers that loops make, and what the state's lists come to. Assumes nothing.
use mathlib.Core.Path.{◌≡◌, refl, sym, ap, ap₂, ◌∙◌}
use mathlib.Core.Bool.{Bool, true, false, not, ◌&&◌, ◌||◌, and-true, and_comm}
use mathlib.Core.Logic.{◌⊎◌, inl, inr, ⊎_elim}
use mathlib.Core.List.{List, [], ◌∷◌, ◌++◌, map}
use Prim.Native.Nat.{ℕ, zero, suc, ◌+◌, ◌-◌, ◌*◌, ◌%◌, ◌≤◌, ◌<◌}
use native.Mathlib.Nat.{zero-mul, suc-mul, add_comm, add-sub_cancel_left, not-suc-le-zero}
use native.Mathlib.Numerals.{add-one}
use native.Mathlib.Omega.{arith}
use borrow.Author.Tests.{eqb-false, leb-true, le-leb, ltb-true, lt-ltb}
use lib.Dec.{eqb, leb, ltb}
use lib.ListN.{length, take, drop, get_or, set, length-set, length-drop}
use lib.Seq.{drop-drop, length-take-le, take_all, take-add, take-suc, take-set-le, take-suc-set, drop-set-add}
use Rattle.table.specs.Table.{nth_record}
use Rattle.table.specs.Rows.{read_rows, length_rows, rows_at}
use Rattle.table.specs.Chunks.{rows_long, row_at}
use Rattle.std.specs.Prelude.{if◌then◌else◌}
use Rattle.std.specs.Simd.{first_chunks}
use Rattle.rules.specs.Basic.{all, member, distinct, implies}
use Rattle.rules.specs.Token.{Token, max_dacl, primary}
use Rattle.rules.specs.Table.{Slot, free, live, lives}
use Rattle.rules.specs.Handle.{Handle, no_handle}
use Rattle.rules.specs.State.{handle_slots, station_count, pair_slots, number_of, handle_number, station_token}
use Rattle.rules.specs.Valid.{between, handle_valid}
use Rattle.rules.specs.Head as Head
use Rattle.rules.specs.Memory.{slot_at, token_at, identity_at, handle_at, slot_handle, same_handle, same_handles, station_at, token_words, station_words, pair_words, elevated_word, filtered_word, pending_bytes}
use Rattle.rules.proofs.Logic.{and_r, and_i, or_e, or_l, or_r, either}
use Rattle.token_rows.specs.Tests.{slot_test}
use Rattle.lists.specs.Tests.{station_references, reference_slots, count, is_given, is_apart}
use Rattle.references.specs.Tests.{column_by, first_word, other_word, token_in, client_in, rows_in, pair_column, kept, nonzero, is_kept, Room, Front, Joined, Added, Referred, fields_test}
use Rattle.lists.proofs.Truth.{same_truth, all_cong, all_and, all_map, eqb_same, eqb_flip}
use Rattle.lists.proofs.Cuts.{drop_take}
use Rattle.references.proofs.Loops.{Keeping, keeping_none, keeping_more, keeping_done, Sorting, sorting_first, sorting_second}
use Rattle.lists.proofs.Counts.{count_none, distinct_count}

-- ---- loops over rows: they keep what is not 0 of a column, or write a column behind other elements

module _ (f : List ℕ → ℕ) (w : ℕ) where
  length_column : (n : ℕ) (ws : List ℕ) → length (column_by f w n ws) ≡ n
  unfolding column_by
  length_column zero ws = refl
  length_column (suc n) ws = ap suc (length_column n (drop w ws))

  column_at : (n i : ℕ) (ws : List ℕ) → i < n → get_or (column_by f w n ws) i 0 ≡ f (take w (drop (i * w) ws))
  unfolding column_by
  column_at zero i ws h = absurd (not-suc-le-zero h)
  column_at (suc n) zero ws h = ap (λ (k : ℕ). f (take w (drop k ws))) (sym (zero-mul w))
  column_at (suc n) (suc i) ws h =
      column_at n i (drop w ws) (omega arith)
      ∙ ap (λ l. f (take w l)) (drop-drop (i * w) w ws ∙ ap (λ (k : ℕ). drop k ws) (add_comm w (i * w) ∙ sym (suc-mul i w)))

  pub given_none : (n : ℕ) (ws out : List ℕ) → length out ≡ n → Keeping (λ x. x) (λ x. x) (column_by f w n ws) [] n n out 0 0
  given_none n ws out e = keeping_none _ _ _ _ n n 0 out (length_column n ws) (omega arith) e (omega arith) refl

  -- the rows that are gone over
  module _ {n : ℕ} (ws : List ℕ) {rows : List (List ℕ)} (r : rows ≡ first_chunks w n ws) where
    pub given_more : {out : List ℕ} {m i v j : ℕ} → Keeping (λ x. x) (λ x. x) (column_by f w n ws) [] n n out m i → i < length rows
        → v ≡ f (get_or rows i []) → j ≡ is_kept v → Keeping (λ x. x) (λ x. x) (column_by f w n ws) [] n n (set out m v) (m + j) (i + 1)
    unfolding nth_record
    given_more {i = i} h l e ej =
        let t : i < n = omega (arith, rows_long w n ws r) in
        let a = e ∙ ap f (row_at w n ws r [] l) ∙ sym (column_at n i ws t) in
        keeping_more _ _ _ _ 0 h t a (ej ∙ ap is_kept a)

    pub given_done : {out : List ℕ} {m i : ℕ} → Keeping (λ x. x) (λ x. x) (column_by f w n ws) [] n n out m i → length rows ≤ i → Front n (nonzero (column_by f w n ws)) m out
    given_done h l = keeping_done _ _ _ [] h (omega (arith, rows_long w n ws r))

-- f of every station's row is written behind the first n elements of an array
module _ (f : List ℕ → ℕ) (n : ℕ) (ws before : List ℕ) where
  abbrev added : List ℕ
  added = column_by f station_words station_count ws

  -- after i of them
  pub record Adding (items : List ℕ) (i : ℕ) : Type 0 where
    pub within : i ≤ station_count
    pub fits : n + station_count ≤ reference_slots
    pub long : length items ≡ reference_slots
    pub held : take n items ≡ take n before
    pub behind : take i (drop n items) ≡ take i added

  pub adding_more : {rows : List (List ℕ)} {items : List ℕ} {i v : ℕ} → rows ≡ first_chunks station_words station_count ws → Adding items i → i < length rows
      → v ≡ f (get_or rows i []) → Adding (set items (n + i) v) (i + 1)
  unfolding nth_record
  adding_more {items = items} {i = i} {v = v} r t l e = let h : i < station_count = omega (arith, rows_long station_words station_count ws r) in record {
    within = omega arith;
    fits = t.fits;
    long = length-set items (n + i) v ∙ t.long;
    held = take-set-le n items (n + i) v (omega arith) ∙ t.held;
    behind =
        ap₂ take (add-one i) (drop-set-add n items i v)
        ∙ take-suc-set (drop n items) i v (simp length-drop (omega (arith, t.fits, t.long)))
        ∙ ap₂ (λ l x. l ++ (x ∷ [])) t.behind (e ∙ ap f (row_at station_words station_count ws r [] l) ∙ sym (column_at f station_words station_count i ws h))
        ∙ sym (take-suc added i 0 (omega (arith, length_column f station_words station_count ws)))
        ∙ ap (λ (k : ℕ). take k added) (sym (add-one i));
  }

  pub adding_done : {rows : List (List ℕ)} {items : List ℕ} {i : ℕ} → rows ≡ first_chunks station_words station_count ws → Adding items i → length rows ≤ i → Added f n ws before items
  adding_done {items = items} {i = i} r t l =
      let h : station_count ≤ i = omega (arith, rows_long station_words station_count ws r) in
      let e : i ≡ station_count = omega (arith, t.within) in
      record {
        long = t.long;
        held = t.held;
        behind = ap (λ (k : ℕ). take k (drop n items)) (sym e) ∙ t.behind ∙ take_all i added (omega (arith, length_column f station_words station_count ws));
      }

-- a word of every live pair's row is written behind the first n elements of an array
module _ (k n : ℕ) (ws before : List ℕ) where
  abbrev pair_rows : List (List ℕ)
  pair_rows = rows_in pair_words pair_slots ws

  -- after i of the rows, the array's front has m
  pub record Joining (items : List ℕ) (m i : ℕ) : Type 0 where
    pub first : n + pair_slots ≤ length before
    pub keeping : Keeping (λ row. get_or row elevated_word 0) (λ row. get_or row k 0) pair_rows (take n before) pair_slots (length before) items m i

  pre_long : n + pair_slots ≤ length before → length (take n before) ≡ n
  pre_long h = length-take-le n before (omega arith)

  pub joining_none : n + pair_slots ≤ length before → Joining before n 0
  joining_none h =
      let l = pre_long h in
      record { first = h; keeping = keeping_none _ _ _ _ pair_slots (length before) n before (length_rows _ pair_words 0 pair_slots ws []) (omega arith) refl (omega arith) refl }

  module _ {rows : List (List ℕ)} (r : rows ≡ first_chunks pair_words pair_slots ws) where
    pub joining_more : {items : List ℕ} {m i v j : ℕ} → Joining items m i → i < length rows
        → v ≡ get_or (get_or rows i []) k 0 → j ≡ is_kept (get_or (get_or rows i []) elevated_word 0) → Joining (set items m v) (m + j) (i + 1)
    joining_more {i = i} h l e ej =
        let t : i < pair_slots = omega (arith, rows_long pair_words pair_slots ws r) in
        let row : get_or rows i [] ≡ get_or pair_rows i [] = row_at pair_words pair_slots ws r [] l ∙ sym (rows_at _ pair_words 0 [] pair_slots i ws [] t) in
        record { first = h.first; keeping = keeping_more _ _ _ _ [] h.keeping t (e ∙ ap (λ l. get_or l k 0) row) (ej ∙ ap (λ l. is_kept (get_or l elevated_word 0)) row) }

    pub joining_done : {items : List ℕ} {m i : ℕ} → Joining items m i → length rows ≤ i → Joined (pair_column k ws) n before items m
    joining_done {i = i} t h =
        let l = pre_long t.first in
        let f = t.keeping.few in
        let past : pair_slots ≤ i = omega (arith, rows_long pair_words pair_slots ws r) in
        record { long = t.keeping.long; few = omega (arith, t.keeping.within); front = (keeping_done _ _ _ _ t.keeping past).front }

-- the pairs' references stand behind those that were kept, and behind them the stations'
pub at_referred : {A : Type 0} (t : A → Bool) (k f g : A → ℕ) (d : A) (src : List A) (us : List ℕ) {ok : Bool} {n i m l : ℕ} {fs gs ws es hs ps items : List ℕ}
    → Sorting t k f g d src handle_slots reference_slots ok fs gs n i → handle_slots ≤ i
    → Joined (pair_column elevated_word us) n gs es m → Joined (pair_column filtered_word us) m es hs l
    → Added token_in l ws hs ps → Added client_in (l + station_count) ws ps items
    → Referred (kept k g src ++ pair_column elevated_word us ++ pair_column filtered_word us) (column_by token_in station_words station_count ws) (column_by client_in station_words station_count ws) l items
at_referred t k f g d src us {n = n} {l = l} {fs = fs} {gs = gs} {hs = hs} {items = items} s h x y a b =
    let r : Room handle_slots n fs = (sorting_first t k f g d src s h).room in
    let held : take n gs ≡ kept k g src = (sorting_second t k f g d src s h).front in
    let pairs : take l hs ≡ kept k g src ++ pair_column elevated_word us ++ pair_column filtered_word us =
    y.front ∙ ap (λ xs. xs ++ pair_column filtered_word us) (x.front ∙ ap (λ xs. xs ++ pair_column elevated_word us) held) in
    let e : l + station_references ≡ l + station_count + station_count = omega arith in
    let cut : (xs : List ℕ) → drop l (take (l + station_count) xs) ≡ take station_count (drop l xs) =
    λ xs. drop_take l (l + station_count) xs ∙ ap (λ (j : ℕ). take j (drop l xs)) (add-sub_cancel_left l station_count) in
    record {
      room = record { fits = omega (arith, r.fits, x.few, y.few); long = b.long };
      front =
          ap (λ (j : ℕ). take j items) e
          ∙ take-add (l + station_count) station_count items
          ∙ ap₂ (λ l m. l ++ m) (b.held ∙ take-add l station_count _ ∙ ap₂ (λ l m. l ++ m) (a.held ∙ pairs) a.behind) b.behind;
      primaries = sym (cut items) ∙ ap (drop l) b.held ∙ cut _ ∙ a.behind;
    }

-- ---- what is kept of a list

module _ {A : Type 0} (k f : A → ℕ) where
  all_kept : (p : ℕ → Bool) (s : List A) → all p (kept k f s) ≡ all (λ a. eqb (k a) 0 || p (f a)) s
  unfolding all kept
  all_kept p [] = refl
  all_kept p (a ∷ s) = by (eqb (k a) 0) (all_kept p s)
    where
      by : (b : Bool) → all p (kept k f s) ≡ all (λ a. eqb (k a) 0 || p (f a)) s
          → all p (if◌then◌else◌ b (kept k f s) (f a ∷ kept k f s)) ≡ ((b || p (f a)) && all (λ a. eqb (k a) 0 || p (f a)) s)
      by true ih = ih
      by false ih = ap (λ b. p (f a) && b) ih

  pub kept_map : {B : Type 0} (g : B → A) (s : List B) → kept k f (map g s) ≡ kept (λ b. k (g b)) (λ b. f (g b)) s
  unfolding kept
  kept_map g [] = refl
  kept_map g (b ∷ s) = ap (λ l. if eqb (k (g b)) 0 then l else f (g b) ∷ l) (kept_map g s)

-- a number that is not 0 and below the next: the spec's test and the code's
below_next : (next x : ℕ) → 1 ≤ next → (eqb x 0 || between 1 (next - 1) x) ≡ (eqb x 0 || ltb x next)
unfolding between
below_next next x h =
    same_truth _ _
    (λ e. ⊎_elim (λ z. or_l (eqb x 0) (ltb x next) z) (λ k. or_r (eqb x 0) (ltb x next) (lt-ltb x next (omega (arith, leb-true x (next - 1) (and_r (leb 1 x) _ k))))) (or_e (eqb x 0) _ e))
    (λ e. ⊎_elim (λ z. or_l (eqb x 0) _ z) (λ k. within_next (ltb-true x next k) (either (eqb x 0))) (or_e (eqb x 0) (ltb x next) e))
  where
    within_next : x < next → (eqb x 0 ≡ true) ⊎ (eqb x 0 ≡ false) → (eqb x 0 || (leb 1 x && leb x (next - 1))) ≡ true
    within_next l (inl z) = or_l (eqb x 0) _ z
    within_next l (inr z) = or_r (eqb x 0) _ (and_i (le-leb 1 x (let n = eqb-false x 0 z in omega (arith, n))) (le-leb x (next - 1) (omega arith)))

-- numbers given: distinct, not 0 and below the next
pub given : {A : Type 0} (k : A → ℕ) (next : ℕ) (s : List A)
    → (leb 1 next && (distinct (kept k k s) && all (between 1 (next - 1)) (kept k k s))) ≡ (leb 1 next && all (is_given next (kept k k s)) (kept k k s))
given k next s = by (leb 1 next) refl
  where
    ns : List ℕ
    ns = kept k k s

    by : (b : Bool) → leb 1 next ≡ b → (b && (distinct ns && all (between 1 (next - 1)) ns)) ≡ (b && all (is_given next ns) ns)
    by false e = refl
    by true e =
        ap₂ (λ a b. a && b) (sym (distinct_count ns))
        (all_kept k k (between 1 (next - 1)) s ∙ all_cong _ _ (λ a. below_next next (k a) (leb-true 1 next e)) s ∙ sym (all_kept k k (λ x. ltb x next) s))
        ∙ and_comm (all (λ x. eqb (count x ns) 1) ns) (all (λ x. ltb x next) ns)
        ∙ all_and (λ x. ltb x next) (λ x. eqb (count x ns) 1) ns

-- ---- the tokens' numbers

pub token_numbers_lem : (n : ℕ) (ws bs : List ℕ) → map number_of (lives (read_rows slot_at token_words max_dacl n ws bs)) ≡ nonzero (column_by first_word token_words n ws)
unfolding read_rows column_by kept lives slot_at token_at number_of
token_numbers_lem zero ws bs = refl
token_numbers_lem (suc n) ws bs = by (eqb (get_or (take token_words ws) Head.number 0) 0) (token_numbers_lem n (drop token_words ws) (drop max_dacl bs))
  where
    ps : List (Slot Token)
    ps = read_rows slot_at token_words max_dacl n (drop token_words ws) (drop max_dacl bs)

    by : (b : Bool) → map number_of (lives ps) ≡ nonzero (column_by first_word token_words n (drop token_words ws))
        → map number_of (lives ((if◌then◌else◌ b free (live (token_at (take token_words ws) (take max_dacl bs)))) ∷ ps))
        ≡ (if◌then◌else◌ b (nonzero (column_by first_word token_words n (drop token_words ws))) (get_or (take token_words ws) Head.number 0 ∷ nonzero (column_by first_word token_words n (drop token_words ws))))
    by true ih = ih
    by false ih = ap (λ l. get_or (take token_words ws) Head.number 0 ∷ l) ih

-- no station has a token that is not primary
unfoldable pub primary_in : List ℕ → Token → Bool
primary_in ss t = implies (member t.number ss) (eqb t.identity.type primary)

abbrev is_out : List ℕ → ℕ → Bool
is_out ss x = eqb x 0 || not (member x ss)

other_column : (ss : List ℕ) (n : ℕ) (ws bs : List ℕ) → all (primary_in ss) (lives (read_rows slot_at token_words max_dacl n ws bs)) ≡ all (is_out ss) (column_by other_word token_words n ws)
unfolding read_rows column_by lives slot_at token_at identity_at all primary_in implies
other_column ss zero ws bs = refl
other_column ss (suc n) ws bs =
    by (eqb x 0) (eqb (get_or (take token_words ws) Head.type 0 % 256) primary) refl refl (other_column ss n (drop token_words ws) (drop max_dacl bs))
  where
    x : ℕ
    x = get_or (take token_words ws) Head.number 0

    ps : List (Slot Token)
    ps = read_rows slot_at token_words max_dacl n (drop token_words ws) (drop max_dacl bs)

    rest : Bool
    rest = all (is_out ss) (column_by other_word token_words n (drop token_words ws))

    one : (m c : Bool) → eqb x 0 ≡ false → implies m c ≡ (eqb (if◌then◌else◌ c 0 x) 0 || not (if◌then◌else◌ c (member 0 ss) m))
    one true true e = refl
    one false true e = refl
    one true false e = sym (rw e)
    one false false e = sym (rw e)

    by : (b c : Bool) → eqb x 0 ≡ b → eqb (get_or (take token_words ws) Head.type 0 % 256) primary ≡ c → all (primary_in ss) (lives ps) ≡ rest
        → all (primary_in ss) (lives ((if◌then◌else◌ b free (live (token_at (take token_words ws) (take max_dacl bs)))) ∷ ps)) ≡ (is_out ss (if◌then◌else◌ c 0 x) && rest)
    by true true e f ih = ih
    by true false e f ih = ih ∙ sym (rw e)
    by false true e f ih = rw f (ap₂ (λ a b. a && b) (one (member x ss) true e) ih)
    by false false e f ih = rw f (ap₂ (λ a b. a && b) (one (member x ss) false e) ih)

pub other_numbers : (ss : List ℕ) (n : ℕ) (ws bs : List ℕ)
    → all (primary_in ss) (lives (read_rows slot_at token_words max_dacl n ws bs)) ≡ all (is_apart ss) (nonzero (column_by other_word token_words n ws))
other_numbers ss n ws bs =
    other_column ss n ws bs ∙ sym (all_kept (λ x. x) (λ x. x) (λ x. not (member x ss)) (column_by other_word token_words n ws))
    ∙ all_cong _ _ (λ x. sym (count_none x ss)) (nonzero (column_by other_word token_words n ws))

-- ---- the stations' tokens

pub station_tokens : (n : ℕ) (ws bs : List ℕ) → map station_token (read_rows station_at station_words pending_bytes n ws bs) ≡ column_by token_in station_words n ws
unfolding read_rows column_by station_at station_token
station_tokens zero ws bs = refl
station_tokens (suc n) ws bs = ap (λ l. token_in (take station_words ws) ∷ l) (station_tokens n (drop station_words ws) (drop pending_bytes bs))

-- ---- the handles

pub kept_lives : (f : Handle → ℕ) (hs : List Handle) → map f (lives (map handle_at hs)) ≡ kept handle_number f hs
unfolding kept lives handle_at handle_number
kept_lives f [] = refl
kept_lives f (h ∷ hs) = by (eqb h.number 0) (kept_lives f hs)
  where
    by : (b : Bool) → map f (lives (map handle_at hs)) ≡ kept handle_number f hs
        → map f (lives ((if◌then◌else◌ b free (live h)) ∷ map handle_at hs)) ≡ (if◌then◌else◌ b (kept handle_number f hs) (f h ∷ kept handle_number f hs))
    by true ih = ih
    by false ih = ap (λ l. f h ∷ l) ih

-- a test of the live ones is a test of each slot
pub all_lives : {A : Type 0} (f : A → Bool) (ps : List (Slot A)) → all f (lives ps) ≡ all (slot_test f) ps
unfolding all lives slot_test
all_lives f [] = refl
all_lives f (free ∷ ps) = all_lives f ps
all_lives f (live a ∷ ps) = ap (λ b. f a && b) (all_lives f ps)

same_handles_lem : (hs : List Handle) → same_handles (map slot_handle (map handle_at hs)) hs ≡ all (λ h. same_handle (slot_handle (handle_at h)) h) hs
unfolding same_handles all
same_handles_lem [] = refl
same_handles_lem (h ∷ hs) = ap (λ b. same_handle (slot_handle (handle_at h)) h && b) (same_handles_lem hs)

fields_test_lem : (h : Handle) → (same_handle (slot_handle (handle_at h)) h && slot_test handle_valid (handle_at h)) ≡ fields_test h
unfolding same_handle slot_handle handle_at no_handle slot_test
fields_test_lem h = by (eqb h.number 0) refl
  where
    at : Bool → Slot Handle
    at b = if◌then◌else◌ b free (live h)

    by : (b : Bool) → eqb h.number 0 ≡ b
        → (same_handle (slot_handle (at b)) h && slot_test handle_valid (at b))
        ≡ (if◌then◌else◌ b (eqb h.station 0 && eqb h.token 0 && eqb h.mask 0) (handle_valid h))
    by true e = rw (eqb_flip 0 h.station, eqb_flip 0 h.number, e, eqb_flip 0 h.token, eqb_flip 0 h.mask, and-true, and-true)
    by false e = rw (eqb_same h.station, eqb_same h.number, eqb_same h.token, eqb_same h.mask)

pub fields : (hs : List Handle) → (same_handles (map slot_handle (map handle_at hs)) hs && all handle_valid (lives (map handle_at hs))) ≡ all fields_test hs
fields hs =
    ap₂ (λ a b. a && b) (same_handles_lem hs) (all_lives handle_valid (map handle_at hs) ∙ all_map handle_at (slot_test handle_valid) hs)
    ∙ all_and (λ h. same_handle (slot_handle (handle_at h)) h) (λ h. slot_test handle_valid (handle_at h)) hs
    ∙ all_cong _ fields_test fields_test_lem hs
