-- The tokens that stations act for: the references with a stand-in where there is none, and the tokens' rows that are tested for a station. Assumes nothing.
use mathlib.Core.Path.{◌≡◌, refl, sym, ap, ap₂, ◌∙◌}
use mathlib.Core.Bool.{Bool, true, false, not, ◌&&◌, ◌||◌, and_assoc, and_comm}
use mathlib.Core.List.{List, [], ◌∷◌, ◌++◌, map}
use Prim.Native.Nat.{ℕ, zero, suc, ◌%◌}
use borrow.Author.Tests.{eqb-true}
use lib.Dec.{eqb, leb}
use lib.ListN.{take, drop, get_or}
use Rattle.table.specs.Rows.{read_rows, test_rows}
use Rattle.std.specs.Prelude.{if◌then◌else◌}
use Rattle.rules.specs.Basic.{all, member, filter, non_zero, implies}
use Rattle.rules.specs.Token.{Token, max_dacl, impersonation}
use Rattle.rules.specs.Table.{Slot, free, live, lives}
use Rattle.rules.specs.State.{token_slots, client_token}
use Rattle.rules.specs.Valid.{client_fits}
use Rattle.rules.specs.Head as Head
use Rattle.rules.specs.Memory.{slot_at, token_at, identity_at, station_at, token_words, station_words, primary_word, client_word, level_word, pending_bytes}
use Rattle.references.specs.Tests.{column_by, token_in, client_in, fit_test, client_test}
use Rattle.lists.proofs.Truth.{and_swap, eqb_flip, implies_or, all_append, all_swap}

-- ---- the references

again : (a b c d : Bool) → (b && c) ≡ (b && d) → ((a && b) && (a && c)) ≡ ((a && b) && d)
again true b c d e = e
again false b c d e = refl

-- a station's primary token again adds nothing
module _ (p : ℕ → Bool) where
  stand_ins : (n : ℕ) (ws bs : List ℕ)
      → (all p (column_by token_in station_words n ws) && all p (column_by client_in station_words n ws))
      ≡ (all p (column_by token_in station_words n ws) && all p (non_zero (map client_token (read_rows station_at station_words pending_bytes n ws bs))))
  unfolding read_rows column_by station_at client_token all filter non_zero
  stand_ins zero ws bs = refl
  stand_ins (suc n) ws bs = by (eqb c 0) (stand_ins n (drop station_words ws) (drop pending_bytes bs))
    where
      t : ℕ
      t = get_or (take station_words ws) primary_word 0

      c : ℕ
      c = get_or (take station_words ws) client_word 0

      ts : Bool
      ts = all p (column_by token_in station_words n (drop station_words ws))

      cs : Bool
      cs = all p (column_by client_in station_words n (drop station_words ws))

      ns : List ℕ
      ns = non_zero (map client_token (read_rows station_at station_words pending_bytes n (drop station_words ws) (drop pending_bytes bs)))

      by : (b : Bool) → (ts && cs) ≡ (ts && all p ns)
          → ((p t && ts) && (p (if◌then◌else◌ b t c) && cs)) ≡ ((p t && ts) && all p (if◌then◌else◌ (not b) (c ∷ ns) ns))
      by true ih = again (p t) ts cs (all p ns) ih
      by false ih = and_swap (p t) ts (p c) cs ∙ ap (λ b. (p t && p c) && b) ih ∙ sym (and_swap (p t) ts (p c) (all p ns))

  -- the pairs' tokens es and fs stand before the stations' in the code's list, behind them in the rules'
  pub all_references : (hs es fs : List ℕ) (n : ℕ) (ws bs : List ℕ)
      → all p (hs ++ es ++ fs ++ column_by token_in station_words n ws ++ column_by client_in station_words n ws)
      ≡ all p (hs ++ column_by token_in station_words n ws ++ non_zero (map client_token (read_rows station_at station_words pending_bytes n ws bs)) ++ es ++ fs)
  all_references hs es fs n ws bs =
      apart hs es fs ss cs ∙ and_assoc (all p hs && all p es && all p fs) (all p ss) (all p cs) ∙ ap (λ b. (all p hs && all p es && all p fs) && b) (stand_ins n ws bs)
      ∙ moved (all p hs) (all p es) (all p fs) (all p ss) (all p ns) ∙ sym (apart hs ss ns es fs)
    where
      ss : List ℕ
      ss = column_by token_in station_words n ws

      cs : List ℕ
      cs = column_by client_in station_words n ws

      ns : List ℕ
      ns = non_zero (map client_token (read_rows station_at station_words pending_bytes n ws bs))

      apart : (us vs xs ys zs : List ℕ) → all p (us ++ vs ++ xs ++ ys ++ zs) ≡ (all p us && all p vs && all p xs && all p ys && all p zs)
      apart us vs xs ys zs =
          all_append p (us ++ vs ++ xs ++ ys) zs
          ∙ ap (λ b. b && all p zs) (all_append p (us ++ vs ++ xs) ys ∙ ap (λ b. b && all p ys) (all_append p (us ++ vs) xs ∙ ap (λ b. b && all p xs) (all_append p us vs)))

      moved : (h e f s n : Bool) → ((h && e && f) && (s && n)) ≡ (h && s && n && e && f)
      moved true e f s n = and_comm (e && f) (s && n) ∙ sym (and_assoc (s && n) e f)
      moved false e f s n = refl

member_all : (x : ℕ) (ys : List ℕ) → member x ys ≡ not (all (λ y. not (eqb x y)) ys)
unfolding member all
member_all x [] = refl
member_all x (y ∷ ys) = by (eqb x y) (member_all x ys)
  where
    by : (b : Bool) → member x ys ≡ not (all (λ y. not (eqb x y)) ys) → (b || member x ys) ≡ not (not b && all (λ y. not (eqb x y)) ys)
    by true ih = refl
    by false ih = ih

pub member_references : (x : ℕ) (hs es fs : List ℕ) (n : ℕ) (ws bs : List ℕ)
    → member x (hs ++ es ++ fs ++ column_by token_in station_words n ws ++ column_by client_in station_words n ws)
    ≡ member x (hs ++ column_by token_in station_words n ws ++ non_zero (map client_token (read_rows station_at station_words pending_bytes n ws bs)) ++ es ++ fs)
member_references x hs es fs n ws bs = member_all x _ ∙ ap not (all_references (λ y. not (eqb x y)) hs es fs n ws bs) ∙ sym (member_all x _)

-- ---- the tokens' rows, for a station that acts for token c with level l in force

abbrev fits_as : ℕ → ℕ → Token → Bool
fits_as c l t = implies (eqb c t.number) (eqb t.identity.type impersonation && leb l t.identity.level)

-- number 0 is no token's
none_named : (l n : ℕ) (ws bs : List ℕ) → all (fits_as 0 l) (lives (read_rows slot_at token_words max_dacl n ws bs)) ≡ true
unfolding read_rows lives slot_at token_at identity_at all implies
none_named l zero ws bs = refl
none_named l (suc n) ws bs = by (eqb (get_or (take token_words ws) Head.number 0) 0) refl (none_named l n (drop token_words ws) (drop max_dacl bs))
  where
    ps : List (Slot Token)
    ps = read_rows slot_at token_words max_dacl n (drop token_words ws) (drop max_dacl bs)

    by : (b : Bool) → eqb (get_or (take token_words ws) Head.number 0) 0 ≡ b → all (fits_as 0 l) (lives ps) ≡ true
        → all (fits_as 0 l) (lives ((if◌then◌else◌ b free (live (token_at (take token_words ws) (take max_dacl bs)))) ∷ ps)) ≡ true
    by true e ih = ih
    by false e ih = rw (eqb_flip 0 (get_or (take token_words ws) Head.number 0), e, ih)

rows_fit : (c l : ℕ) → eqb c 0 ≡ false → (n : ℕ) (ws bs : List ℕ)
    → all (fits_as c l) (lives (read_rows slot_at token_words max_dacl n ws bs)) ≡ test_rows {B = ℕ} (λ row none. fit_test c l row) token_words 0 n ws []
unfolding read_rows test_rows lives slot_at token_at identity_at all
rows_fit c l nz zero ws bs = refl
rows_fit c l nz (suc n) ws bs = by (eqb x 0) refl (rows_fit c l nz n (drop token_words ws) (drop max_dacl bs))
  where
    row : List ℕ
    row = take token_words ws

    x : ℕ
    x = get_or row Head.number 0

    ps : List (Slot Token)
    ps = read_rows slot_at token_words max_dacl n (drop token_words ws) (drop max_dacl bs)

    rest : Bool
    rest = test_rows {B = ℕ} (λ row none. fit_test c l row) token_words 0 n (drop token_words ws) []

    by : (b : Bool) → eqb x 0 ≡ b → all (fits_as c l) (lives ps) ≡ rest
        → all (fits_as c l) (lives ((if◌then◌else◌ b free (live (token_at row (take max_dacl bs)))) ∷ ps)) ≡ (fit_test c l row && rest)
    by true e ih =
        let other : eqb c x ≡ false = ap (eqb c) (eqb-true x 0 e) ∙ nz in
        ih ∙ sym (rw other)
    by false e ih =
        ap₂ (λ a b. a && b) (sym (implies_or (eqb c x) (eqb (get_or row Head.type 0 % 256) impersonation && leb l (get_or row Head.level 0 % 256)))) ih

client_row : (ts ds row bs : List ℕ)
    → all (λ t. client_fits t (station_at row bs)) (lives (read_rows slot_at token_words max_dacl token_slots ts ds)) ≡ client_test ts row
unfolding client_fits client_token station_at
client_row ts ds row bs = by (eqb c 0) refl
  where
    c : ℕ
    c = get_or row client_word 0

    l : ℕ
    l = get_or row level_word 0

    by : (b : Bool) → eqb c 0 ≡ b → all (fits_as c l) (lives (read_rows slot_at token_words max_dacl token_slots ts ds))
        ≡ (b || test_rows {B = ℕ} (λ row none. fit_test c l row) token_words 0 token_slots ts [])
    by true e = ap (λ (k : ℕ). all (fits_as k l) (lives (read_rows slot_at token_words max_dacl token_slots ts ds))) (eqb-true c 0 e) ∙ none_named l token_slots ts ds
    by false e = rows_fit c l e token_slots ts ds

client_rows : (ts ds : List ℕ) (n : ℕ) (ws bs : List ℕ)
    → all (λ x. all (λ t. client_fits t x) (lives (read_rows slot_at token_words max_dacl token_slots ts ds))) (read_rows station_at station_words pending_bytes n ws bs)
    ≡ test_rows {B = ℕ} (λ row none. client_test ts row) station_words 0 n ws []
unfolding read_rows test_rows all
client_rows ts ds zero ws bs = refl
client_rows ts ds (suc n) ws bs =
    ap₂ (λ a b. a && b) (client_row ts ds (take station_words ws) (take pending_bytes bs)) (client_rows ts ds n (drop station_words ws) (drop pending_bytes bs))

-- token by token, as the rules say it
pub clients : (ts ds : List ℕ) (n : ℕ) (ws bs : List ℕ)
    → all (λ t. all (client_fits t) (read_rows station_at station_words pending_bytes n ws bs)) (lives (read_rows slot_at token_words max_dacl token_slots ts ds))
    ≡ test_rows {B = ℕ} (λ row none. client_test ts row) station_words 0 n ws []
clients ts ds n ws bs = all_swap client_fits (lives (read_rows slot_at token_words max_dacl token_slots ts ds)) (read_rows station_at station_words pending_bytes n ws bs) ∙ client_rows ts ds n ws bs
