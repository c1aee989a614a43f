-- SIDs and groups in a body, by number or packed: what their readers give and leave. Assumes nothing.
use Prim.Native.Nat.{ℕ, ◌+◌, ◌*◌, ◌≤◌}
use native.Mathlib.Omega.{arith}
use mathlib.Core.Path.{◌≡◌, refl, sym, ap, ◌∙◌}
use mathlib.Core.Bool.{Bool, true, false}
use mathlib.Core.List.{List}
use lib.ListN.{length, drop, length-drop}
use lib.Seq.{drop-drop}
use Rattle.std.specs.Prelude.{Option, Some, None}
use Rattle.rules.specs.Number.{Read, got, bad, read_number, max32}
use Rattle.rules.specs.Sid.{is_packed, sid_size, sid_in, read_sid}
use Rattle.rules.specs.Given.{Given, by_number, by_sid, GivenGroup}
use Rattle.rules.specs.Request as rules
use Rattle.rules.specs.Request.{◌>>=◌, follow, give, times, u32, sid_number, packed_sid, group}
use Rattle.rules.proofs.Sids.{whole, long_8}
use Rattle.sid.specs.Reading.{packed_size}
use Rattle.sid.proofs.Reading.{size_none, size_some, size_is}
use Rattle.number.specs.Rest.{after}
use Rattle.number.specs.Reader.{rest_of, left_of, ReadOn, PassedOn}
use Rattle.number.specs.declared.reader.Reader.{Reader}
use Rattle.body.proofs.Lists.{further, pair_of, pairs_passed, alike_passed}

abbrev pub group_of : Given → ℕ → GivenGroup
group_of x a = record { sid = x; attributes = a }

-- ---- by number

module _ (bytes : List ℕ) where
  pub no_number_lem : bad ≡ read_number max32 bytes → bad ≡ sid_number bytes
  unfolding sid_number ◌>>=◌ follow u32
  no_number_lem e = rw (sym e)

  pub number_there : (n : ℕ) (later : List ℕ) → got n later ≡ read_number max32 bytes → got (by_number n) later ≡ sid_number bytes
  unfolding sid_number ◌>>=◌ follow give u32
  number_there n later e = rw (sym e)

  number_after : after (u32 bytes) ≡ after (sid_number bytes)
  unfolding after u32
  number_after = by (u32 bytes) refl
    where
      by : (x : Read ℕ) → x ≡ u32 bytes → after x ≡ after (sid_number bytes)
      by (got n later) e = ap after (number_there n later e)
      by bad e = ap after (no_number_lem e)

pub numbers_passed : {r r' : Reader} {u : Option (Unit {0})} (n : ℕ) → PassedOn (times n (read_number max32)) r r' u → PassedOn (times n sid_number) r r' u
unfolding u32
numbers_passed n h = alike_passed u32 sid_number number_after n h

-- their groups are pairs of numbers
abbrev numbers : ℕ → ℕ → GivenGroup
numbers n a = group_of (by_number n) a

group_after : (bytes : List ℕ) → after (pair_of numbers bytes) ≡ after (group sid_number bytes)
unfolding group sid_number ◌>>=◌ follow give
group_after bytes = by (u32 bytes)
  where
    rest_of_lem : Given → rules.Reader GivenGroup
    rest_of_lem x = λ l. follow (u32 l) (λ a. give (group_of x a))

    by : (x : Read ℕ) → after (follow x (λ n. rest_of_lem (by_number n))) ≡ after (follow (follow x (λ n. give (by_number n))) rest_of_lem)
    by (got n later) = refl
    by bad = refl

pub groups_passed : {r r' : Reader} {u : Option (Unit {0})} (n : ℕ) → PassedOn (times (2 * n) (read_number max32)) r r' u → PassedOn (times n (group sid_number)) r r' u
groups_passed n h = alike_passed (pair_of numbers) (group sid_number) group_after n (pairs_passed numbers n h)

-- ---- packed

module _ (bytes : List ℕ) where
  packed_whole : is_packed bytes ≡ true → got (by_sid (sid_in bytes)) (drop (sid_size bytes) bytes) ≡ packed_sid bytes
  unfolding packed_sid ◌>>=◌ follow give read_sid
  packed_whole h = rw h

  packed_none : is_packed bytes ≡ false → bad ≡ packed_sid bytes
  unfolding packed_sid ◌>>=◌ follow read_sid
  packed_none h = rw h

  -- what begins with one, it is
  pub packed_only : (x : Given) (l : List ℕ) → packed_sid bytes ≡ got x l → (x ≡ by_sid (sid_in bytes)) × (is_packed bytes ≡ true)
  packed_only x l e = by (is_packed bytes) refl
    where
      by : (b : Bool) → is_packed bytes ≡ b → (x ≡ by_sid (sid_in bytes)) × (is_packed bytes ≡ true)
      by true h = (let f = packed_whole h ∙ e in cc, h)
      by false h = let f = packed_none h ∙ e in cc

-- what stands at a place, by its size
module _ (s : List ℕ) (at : ℕ) where
  pub no_sid_lem : None ≡ packed_size (drop at s) → bad ≡ packed_sid (drop at s)
  no_sid_lem e = packed_none (drop at s) (size_none (drop at s) e)

  module _ (n : ℕ) (e : Some n ≡ packed_size (drop at s)) where
    pub sid_packed : is_packed (drop at s) ≡ true
    sid_packed = size_some (drop at s) e

    pub sid_there : got (by_sid (sid_in (drop at s))) (drop (at + n) s) ≡ packed_sid (drop at s)
    sid_there =
        ap (got (by_sid (sid_in (drop at s)))) (sym (drop-drop n at s) ∙ ap (λ (k : ℕ). drop k (drop at s)) (size_is (drop at s) e))
        ∙ packed_whole (drop at s) sid_packed

    pub sid_inside : at + n ≤ length s
    sid_inside = omega (arith, whole (drop at s) sid_packed, long_8 (drop at s) sid_packed, size_is (drop at s) e, length-drop at s)

-- a reader past it
module _ (r : Reader) where
  pub sid_missing : None ≡ packed_size (rest_of r) → (u : Option (Unit {0})) → u ≡ None → PassedOn packed_sid r r u
  unfolding after
  sid_missing e u d = record {
    means = ap (left_of r) d ∙ ap after (no_sid_lem r.body.now r.at e);
    onward = record { body = refl; forward = omega arith; inside = omega arith };
  }

  pub sid_passed : (n : ℕ) → Some n ≡ packed_size (rest_of r) → PassedOn packed_sid r (record r { at = r.at + n }) (Some tt)
  unfolding after
  sid_passed n e = record {
    means = ap after (sid_there r.body.now r.at n e);
    onward = record { body = refl; forward = omega arith; inside = omega (arith, sid_inside r.body.now r.at n e) };
  }

-- ---- groups

module _ (p : rules.Reader Given) (bytes : List ℕ) where
  pub group_none : bad ≡ p bytes → bad ≡ group p bytes
  unfolding group ◌>>=◌ follow
  group_none e = rw (sym e)

  module _ (x : Given) (later : List ℕ) (e : got x later ≡ p bytes) where
    pub group_half : bad ≡ read_number max32 later → bad ≡ group p bytes
    unfolding group ◌>>=◌ follow u32
    group_half f = rw (sym e) (rw (sym f))

    pub group_whole : (a : ℕ) (last : List ℕ) → got a last ≡ read_number max32 later → got (group_of x a) last ≡ group p bytes
    unfolding group ◌>>=◌ follow u32 give
    group_whole a last f = rw (sym e) (rw (sym f))

-- past a SID and past its attributes
module _ (p : rules.Reader Given) {r m : Reader} where
  pub group_lost : PassedOn p r m None → (u : Option (Unit {0})) → u ≡ None → PassedOn (group p) r m u
  unfolding after
  group_lost h u z = record { means = ap (left_of m) z ∙ by (p (rest_of r)) refl h.means; onward = h.onward }
    where
      by : (x : Read Given) → x ≡ p (rest_of r) → None ≡ after x → None ≡ after (group p (rest_of r))
      by bad e d = ap after (group_none p (rest_of r) e)
      by (got g l) e d = cc

  module _ (h : PassedOn p r m (Some tt)) {r' : Reader} where
    pub group_short : ReadOn (read_number max32) max32 m r' None → (u : Option (Unit {0})) → u ≡ None → PassedOn (group p) r r' u
    unfolding after
    group_short f u z = record { means = ap (left_of r') z ∙ by (p (rest_of r)) refl h.means; onward = further h.onward f.onward }
      where
        by : (x : Read Given) → x ≡ p (rest_of r) → Some (rest_of m) ≡ after x → None ≡ after (group p (rest_of r))
        by bad e d = cc
        by (got g l) e d = let k : rest_of m ≡ l = cc in ap after (group_half p (rest_of r) g l e (f.means ∙ ap (read_number max32) k))

    pub group_passed : (a : ℕ) → ReadOn (read_number max32) max32 m r' (Some a) → PassedOn (group p) r r' (Some tt)
    unfolding after
    group_passed a f = record { means = by (p (rest_of r)) refl h.means; onward = further h.onward f.onward }
      where
        by : (x : Read Given) → x ≡ p (rest_of r) → Some (rest_of m) ≡ after x → Some (rest_of r') ≡ after (group p (rest_of r))
        by bad e d = cc
        by (got g l) e d = let k : rest_of m ≡ l = cc in ap after (group_whole p (rest_of r) g l e a (rest_of r') (f.means ∙ ap (read_number max32) k))
