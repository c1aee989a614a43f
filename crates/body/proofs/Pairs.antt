-- What the reader of entries says, and how many entries a count gives. Assumes nothing.
use Prim.Native.Nat.{ℕ, zero, suc, ◌-◌, ◌≤◌, ◌<◌}
use native.Mathlib.Numerals.{sub-one}
use native.Mathlib.Omega.{arith}
use mathlib.Core.Path.{◌≡◌, refl, sym, ap, ◌∙◌}
use mathlib.Core.Bool.{Bool, false, ◌&&◌}
use mathlib.Core.List.{List, [], ◌∷◌}
use lib.Dec.{eqb}
use lib.ListN.{length, drop}
use Rattle.rules.specs.Number.{Read, got, bad, read_number, max32}
use Rattle.rules.specs.Entry.{Entry, is_only}
use Rattle.rules.specs.Request.{Reader, follow, ◌>>=◌, give, times, u32, entry}
use borrow.Author.Tests.{ne_eqb}
use Rattle.std.specs.Prelude.{Option, Some, None, MatchOption}
use Rattle.number.specs.declared.Number.{Number}
use Rattle.number.specs.Meaning.{NumberAt}
use Rattle.body.specs.Entries.{entry_of, pair_of, PairAt, is_just}
use Rattle.body.specs.declared.entry.Entry as code

-- ---- one entry

module _ (bytes : List ℕ) where
  entry_none : bad ≡ read_number max32 bytes → bad ≡ entry bytes
  unfolding entry ◌>>=◌ follow u32
  entry_none e = rw (sym e)

  module _ (k : ℕ) (later : List ℕ) (e : got k later ≡ read_number max32 bytes) where
    entry_half : bad ≡ read_number max32 later → bad ≡ entry bytes
    unfolding entry ◌>>=◌ follow u32
    entry_half f = rw (sym e) (rw (sym f))

    entry_whole : (v : ℕ) (last : List ℕ) → got v last ≡ read_number max32 later → got (entry_of k v) last ≡ entry bytes
    unfolding entry ◌>>=◌ follow u32 give
    entry_whole v last f = rw (sym e) (rw (sym f))

module _ (s : List ℕ) (at : ℕ) where
  pub no_key : NumberAt s at max32 None → PairAt s at None
  no_key f = record { means = entry_none (drop at s) f.means; bounds = tt }

  -- a is what stands at the place, b what stands after it
  module _ (a : Number) (f : NumberAt s at max32 (Some a)) where
    pub no_value : NumberAt s a.next max32 None → PairAt s at None
    no_value h = record { means = entry_half (drop at s) a.value (drop a.next s) f.means h.means; bounds = tt }

    pub key_value : (b : Number) → NumberAt s a.next max32 (Some b) → PairAt s at (Some (record { key = a.value; value = b.value; next = b.next }))
    key_value b h = record {
      means = entry_whole (drop at s) a.value (drop a.next s) f.means b.value (drop b.next s) h.means;
      bounds = (omega (arith, f.bounds, h.bounds), h.bounds.1, f.bounds.2, h.bounds.2);
    }

-- what the reader's answer says, by its case
module _ (s : List ℕ) (at : ℕ) (r : Option code.Entry) (f : PairAt s at r) where
  pub is_none : r ≡ None → bad ≡ entry (drop at s)
  is_none g = ap (pair_of s) (sym g) ∙ f.means

  pub is_pair : (k v q : ℕ) → r ≡ Some (record { key = k; value = v; next = q }) → got (entry_of k v) (drop q s) ≡ entry (drop at s)
  is_pair k v q g = ap (pair_of s) (sym g) ∙ f.means

-- ---- several things

module _ {A : Type 0} (p : Reader A) where
  pub times_end : (n : ℕ) (bytes : List ℕ) → n ≤ 0 → times n p bytes ≡ got [] bytes
  unfolding times give
  times_end zero bytes h = refl
  times_end (suc n) bytes h = absurd (omega arith)

  pub times_lost : (n : ℕ) (bytes : List ℕ) → 0 < n → bad ≡ p bytes → times n p bytes ≡ bad
  unfolding times follow
  times_lost zero bytes h e = absurd (omega arith)
  times_lost (suc n) bytes h e = rw (sym e)

  abbrev pub joined : A → Read (List A) → Read (List A)
  joined a r = follow r (λ xs. give (a ∷ xs))

  pub times_next : (n : ℕ) (bytes later : List ℕ) (a : A) → 0 < n → got a later ≡ p bytes → times n p bytes ≡ joined a (times (n - 1) p later)
  unfolding times follow
  times_next zero bytes later a h e = absurd (omega arith)
  times_next (suc n) bytes later a h e = rw (sym e, sub-one (suc n))

  -- as many as were asked for
  abbrev pub Long : ℕ → Read (List A) → Type 0
  Long n (got xs later) = length xs ≡ n
  Long n bad = Unit {0}

  long_joined : (n : ℕ) (a : A) (r : Read (List A)) → Long n r → Long (suc n) (joined a r)
  unfolding follow give
  long_joined n a (got xs later) e = ap suc e
  long_joined n a bad e = tt

  long_after : (n : ℕ) (r : Read A) → ((bytes : List ℕ) → Long n (times n p bytes)) → Long (suc n) (follow r (λ a later. joined a (times n p later)))
  unfolding follow
  long_after n (got a later) h = long_joined n a (times n p later) (h later)
  long_after n bad h = tt

  pub times_long : (n : ℕ) (bytes : List ℕ) → Long n (times n p bytes)
  unfolding times give
  times_long zero bytes = refl
  times_long (suc n) bytes = long_after n (p bytes) (times_long n)

-- ---- just one entry

other : (k v n : ℕ) (r : Read (List Entry)) → (n ≡ 1 → ⊥) → Long entry n r → false ≡ is_just k v r
unfolding is_just is_only
other k v n (got [] later) h e = refl
other k v n (got (x ∷ []) later) h e = absurd (h (sym e))
other k v n (got (x ∷ y ∷ es) later) h e = refl
other k v n bad h e = refl

module _ (k v : ℕ) (s : List ℕ) (at n : ℕ) where
  pub not_one : (n ≡ 1 → ⊥) → eqb n 1 ≡ is_just k v (times n entry (drop at s))
  not_one h = ne_eqb n 1 h ∙ other k v n (times n entry (drop at s)) h (times_long entry n (drop at s))

  one_bad : n ≡ 1 → PairAt s at None → false ≡ is_just k v (times n entry (drop at s))
  unfolding is_just
  one_bad h f = ap (is_just k v) (sym (times_lost entry n (drop at s) (omega arith) f.means))

  just_one : n ≡ 1 → (e : code.Entry) → PairAt s at (Some e) → (eqb e.key k && eqb e.value v) ≡ is_just k v (times n entry (drop at s))
  unfolding is_just is_only follow give
  just_one h e f =
      ap (λ (l : Read (List Entry)). is_just k v (joined entry (entry_of e.key e.value) l)) (sym (times_end entry (n - 1) (drop e.next s) (omega arith)))
      ∙ ap (is_just k v) (sym (times_next entry n (drop at s) (drop e.next s) (entry_of e.key e.value) (omega arith) f.means))

  -- Q is what the test says of an entry
  pub just_read : n ≡ 1 → (r : Option code.Entry) → PairAt s at r → {b : Bool} {Q : code.Entry → Type 0} → MatchOption r (b ≡ false) Q
      → ((e : code.Entry) → Q e → b ≡ (eqb e.key k && eqb e.value v)) → b ≡ is_just k v (times n entry (drop at s))
  just_read h None f d q = d ∙ one_bad h f
  just_read h (Some e) f d q = q e d ∙ just_one h e f
