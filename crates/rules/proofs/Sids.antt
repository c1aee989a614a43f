-- Packed SIDs are read back, and stand in one form only; a row is one SID's. Assumes nothing.
use Prim.Native.Nat.{ℕ, zero, suc, ◌+◌, ◌*◌, ◌/◌, ◌%◌, ◌≤◌, ◌<◌, ◌^◌}
use native.Mathlib.Omega.{arith}
use mathlib.Core.Path.{◌≡◌, refl, sym, ap, ap₂, ◌∙◌}
use mathlib.Core.Bool.{Bool, true, false, ◌&&◌}
use mathlib.Core.List.{List, [], ◌∷◌, ◌++◌, append_assoc}
use lib.Dec.{eqb, leb, ltb}
use lib.ListN.{length, take, drop, get_or, length-drop, length-take, length-append, take-append-drop}
use lib.Seq.{drop-drop, take_at, drop_at}
use borrow.Author.Tests.{eq-eqb, eqb-true, ltb-true, le-leb, leb-true, lt-ltb}
use Rattle.std.specs.Prelude.{if◌then◌else◌}
use Rattle.rules.specs.Basic.{word32, is_zero, is_below, all, same}
use Rattle.rules.specs.Number.{got, bad}
use Rattle.rules.specs.Sid.{Sid, max_subs, valid_sid, same_sid, to_bytes, from_bytes, sub_bytes, packed, sid_size, is_packed, subs_in, sid_in, read_sid}
use Rattle.rules.specs.SidRows.{row_words, pairs, halves, sid_row, count_in, row_sid, zero_from, is_row}
use Rattle.rules.proofs.Logic.{and_l, and_r, and_i}
use Rattle.rules.proofs.Same.{same_eq, same_refl}

-- ---- numbers below a bound

pub is_below_lem : (i n : ℕ) → i < n → is_below n i ≡ true
unfolding is_below
is_below_lem i n h = lt-ltb i n h

pub all_64 : (ws : List ℕ) → ((i : ℕ) → get_or ws i 0 < 2 ^ 64) → all (is_below (2 ^ 64)) ws ≡ true
unfolding all is_below
all_64 [] h = refl
all_64 (w ∷ ws) h = and_i (lt-ltb w (2 ^ 64) (h 0)) (all_64 ws (λ i. h (suc i)))

-- ---- numbers in bytes, once for every width

pub length_to_bytes : (k n : ℕ) → length (to_bytes k n) ≡ k
unfolding to_bytes
length_to_bytes zero n = refl
length_to_bytes (suc k) n = ap suc (length_to_bytes k (n / 256))

pub to_bytes_bytes : (k n : ℕ) → all (is_below 256) (to_bytes k n) ≡ true
unfolding to_bytes all is_below
to_bytes_bytes zero n = refl
to_bytes_bytes (suc k) n = and_i (lt-ltb (n % 256) 256 (omega arith)) (to_bytes_bytes k (n / 256))

pub from_to : (k n : ℕ) → n < 256 ^ k → from_bytes (to_bytes k n) ≡ n
unfolding to_bytes from_bytes
from_to zero n h = omega arith
from_to (suc k) n h = ap (λ (m : ℕ). n % 256 + 256 * m) (from_to k (n / 256) (omega arith)) ∙ omega arith

pub to_from : (bs : List ℕ) (k : ℕ) → length bs ≡ k → all (is_below 256) bs ≡ true → to_bytes k (from_bytes bs) ≡ bs
unfolding to_bytes from_bytes all is_below
to_from [] zero l h = refl
to_from [] (suc k) l h = absurd (omega arith)
to_from (b ∷ bs) zero l h = absurd (omega arith)
to_from (b ∷ bs) (suc k) l h =
    let lt : b < 256 = ltb-true b 256 (and_l (ltb b 256) (all (is_below 256) bs) h) in
    let low : (b + 256 * from_bytes bs) % 256 ≡ b = omega arith in
    let high : (b + 256 * from_bytes bs) / 256 ≡ from_bytes bs = omega arith in
    ap₂ (λ (x y : ℕ). x ∷ to_bytes k y) low high ∙ ap (λ (l : List ℕ). b ∷ l) (to_from bs k (omega arith) (and_r (ltb b 256) (all (is_below 256) bs) h))

pub from_bytes_below : (bs : List ℕ) (k : ℕ) → length bs ≡ k → all (is_below 256) bs ≡ true → from_bytes bs < 256 ^ k
unfolding from_bytes all is_below
from_bytes_below [] zero l h = omega arith
from_bytes_below [] (suc k) l h = absurd (omega arith)
from_bytes_below (b ∷ bs) zero l h = absurd (omega arith)
from_bytes_below (b ∷ bs) (suc k) l h =
    omega (arith, ltb-true b 256 (and_l (ltb b 256) (all (is_below 256) bs) h), from_bytes_below bs k (omega arith) (and_r (ltb b 256) (all (is_below 256) bs) h))

pub all_take : (f : ℕ → Bool) (n : ℕ) (xs : List ℕ) → all f xs ≡ true → all f (take n xs) ≡ true
unfolding all
all_take f zero xs h = refl
all_take f (suc n) [] h = refl
all_take f (suc n) (x ∷ xs) h = and_i (and_l (f x) (all f xs) h) (all_take f n xs (and_r (f x) (all f xs) h))

pub all_drop : (f : ℕ → Bool) (n : ℕ) (xs : List ℕ) → all f xs ≡ true → all f (drop n xs) ≡ true
unfolding all
all_drop f zero xs h = h
all_drop f (suc n) [] h = refl
all_drop f (suc n) (x ∷ xs) h = all_drop f n xs (and_r (f x) (all f xs) h)

-- ---- sub-authorities

pub length_sub_bytes : (ns : List ℕ) → length (sub_bytes ns) ≡ 4 * length ns
unfolding sub_bytes
length_sub_bytes [] = refl
length_sub_bytes (n ∷ ns) = length-append (to_bytes 4 n) (sub_bytes ns) ∙ omega (arith, length_to_bytes 4 n, length_sub_bytes ns)

pub length_subs_in : (n : ℕ) (bytes : List ℕ) → length (subs_in n bytes) ≡ n
unfolding subs_in
length_subs_in zero bytes = refl
length_subs_in (suc n) bytes = ap suc (length_subs_in n (drop 4 bytes))

pub subs_back : (ns rest : List ℕ) → all (is_below (2 ^ 32)) ns ≡ true → subs_in (length ns) (sub_bytes ns ++ rest) ≡ ns
unfolding subs_in sub_bytes all is_below
subs_back [] rest h = refl
subs_back (n ∷ ns) rest h =
    let cut : (to_bytes 4 n ++ sub_bytes ns) ++ rest ≡ to_bytes 4 n ++ (sub_bytes ns ++ rest) = append_assoc (to_bytes 4 n) (sub_bytes ns) rest in
    ap₂ (λ (x : ℕ) (l : List ℕ). x ∷ l)
    (ap from_bytes (ap (take 4) cut ∙ take_at (to_bytes 4 n) (sub_bytes ns ++ rest) 4 (length_to_bytes 4 n)) ∙ from_to 4 n (ltb-true n (2 ^ 32) (and_l (ltb n (2 ^ 32)) (all (is_below (2 ^ 32)) ns) h)))
    (ap (subs_in (length ns)) (ap (drop 4) cut ∙ drop_at (to_bytes 4 n) (sub_bytes ns ++ rest) 4 (length_to_bytes 4 n)) ∙ subs_back ns rest (and_r (ltb n (2 ^ 32)) (all (is_below (2 ^ 32)) ns) h))

pub subs_form : (n : ℕ) (bytes : List ℕ) → 4 * n ≤ length bytes → all (is_below 256) bytes ≡ true → sub_bytes (subs_in n bytes) ++ drop (4 * n) bytes ≡ bytes
unfolding subs_in sub_bytes
subs_form zero bytes l h = refl
subs_form (suc n) bytes l h =
    append_assoc (to_bytes 4 (from_bytes (take 4 bytes))) (sub_bytes (subs_in n (drop 4 bytes))) (drop (4 * suc n) bytes)
    ∙ ap₂ (λ (x y : List ℕ). x ++ y)
    (to_from (take 4 bytes) 4 (simp length-take (omega arith)) (all_take (is_below 256) 4 bytes h))
    (ap (λ (x : List ℕ). sub_bytes (subs_in n (drop 4 bytes)) ++ x) (ap (λ (k : ℕ). drop k bytes) {x = 4 * suc n} {y = 4 + 4 * n} (omega arith) ∙ sym (drop-drop (4 * n) 4 bytes))
    ∙ subs_form n (drop 4 bytes) (simp length-drop (omega arith)) (all_drop (is_below 256) 4 bytes h))
    ∙ take-append-drop 4 bytes

pub subs_narrow : (n : ℕ) (bytes : List ℕ) → 4 * n ≤ length bytes → all (is_below 256) bytes ≡ true → all (is_below (2 ^ 32)) (subs_in n bytes) ≡ true
unfolding subs_in all is_below
subs_narrow zero bytes l h = refl
subs_narrow (suc n) bytes l h =
    and_i (lt-ltb (from_bytes (take 4 bytes)) (2 ^ 32) (from_bytes_below (take 4 bytes) 4 (simp length-take (omega arith)) (all_take (is_below 256) 4 bytes h)))
    (subs_narrow n (drop 4 bytes) (simp length-drop (omega arith)) (all_drop (is_below 256) 4 bytes h))

-- ---- a SID

module _ (s : Sid) (v : valid_sid s ≡ true) where
  pub authority_six : length s.authority ≡ 6
  unfolding valid_sid
  authority_six = eqb-true (length s.authority) 6 (and_l _ (all (is_below 256) s.authority) (and_l _ (leb (length s.subs) max_subs) (and_l _ (all (is_below (2 ^ 32)) s.subs) v)))

  pub authority_bytes : all (is_below 256) s.authority ≡ true
  unfolding valid_sid
  authority_bytes = and_r (eqb (length s.authority) 6) _ (and_l _ (leb (length s.subs) max_subs) (and_l _ (all (is_below (2 ^ 32)) s.subs) v))

  pub subs_few : length s.subs ≤ max_subs
  unfolding valid_sid
  subs_few = leb-true (length s.subs) max_subs (and_r (eqb (length s.authority) 6 && all (is_below 256) s.authority) _ (and_l _ (all (is_below (2 ^ 32)) s.subs) v))

  pub subs_32 : all (is_below (2 ^ 32)) s.subs ≡ true
  unfolding valid_sid
  subs_32 = and_r (eqb (length s.authority) 6 && all (is_below 256) s.authority && leb (length s.subs) max_subs) _ v

  -- what is written is read back, and the bytes after it are left
  pub read_packed : (rest : List ℕ) → read_sid (packed s ++ rest) ≡ got s rest
  unfolding read_sid is_packed sid_in sid_size packed
  read_packed rest =
      let cut : (s.authority ++ sub_bytes s.subs) ++ rest ≡ s.authority ++ (sub_bytes s.subs ++ rest) = append_assoc s.authority (sub_bytes s.subs) rest in
      let size : length ((s.authority ++ sub_bytes s.subs) ++ rest) ≡ 6 + 4 * length s.subs + length rest =
      simp (length-append) (omega (arith, authority_six, length_sub_bytes s.subs)) in
      rw (
        le-leb 8 (suc (suc (length ((s.authority ++ sub_bytes s.subs) ++ rest)))) (omega arith),
        le-leb (length s.subs) max_subs subs_few,
        le-leb (8 + 4 * length s.subs) (suc (suc (length ((s.authority ++ sub_bytes s.subs) ++ rest)))) (omega arith),
      )
      (ap₂ got
      (ap₂ (λ (a n : List ℕ). record { authority = a; subs = n })
      (ap (take 6) cut ∙ take_at s.authority (sub_bytes s.subs ++ rest) 6 authority_six)
      (ap (subs_in (length s.subs)) (ap (drop 6) cut ∙ drop_at s.authority (sub_bytes s.subs ++ rest) 6 authority_six) ∙ subs_back s.subs rest subs_32))
      (ap (λ (k : ℕ). drop k (packed s ++ rest)) {x = 8 + 4 * length s.subs} {y = suc (suc (6 + 4 * length s.subs))} (omega arith)
      ∙ drop_at (s.authority ++ sub_bytes s.subs) rest (6 + 4 * length s.subs) (simp length-append (omega (arith, authority_six, length_sub_bytes s.subs)))))

-- one form: what is read is the SID's packed form, before the bytes after it
module _ (bytes : List ℕ) (p : is_packed bytes ≡ true) where
  pub long_8 : 8 ≤ length bytes
  unfolding is_packed
  long_8 = leb-true 8 (length bytes) (and_l _ (eqb (get_or bytes 0 0) 1) (and_l _ (leb (get_or bytes 1 0) max_subs) (and_l _ (leb (sid_size bytes) (length bytes)) p)))

  pub revision_1 : get_or bytes 0 0 ≡ 1
  unfolding is_packed
  revision_1 = eqb-true (get_or bytes 0 0) 1 (and_r (leb 8 (length bytes)) _ (and_l _ (leb (get_or bytes 1 0) max_subs) (and_l _ (leb (sid_size bytes) (length bytes)) p)))

  pub count_15 : get_or bytes 1 0 ≤ max_subs
  unfolding is_packed
  count_15 = leb-true (get_or bytes 1 0) max_subs (and_r (leb 8 (length bytes) && eqb (get_or bytes 0 0) 1) _ (and_l _ (leb (sid_size bytes) (length bytes)) p))

  pub whole : sid_size bytes ≤ length bytes
  unfolding is_packed
  whole = leb-true (sid_size bytes) (length bytes) (and_r (leb 8 (length bytes) && eqb (get_or bytes 0 0) 1 && leb (get_or bytes 1 0) max_subs) _ p)

  pub sid_valid : all (is_below 256) bytes ≡ true → valid_sid (sid_in bytes) ≡ true
  unfolding valid_sid sid_in sid_size
  sid_valid bs =
      and_i (and_i (and_i (eq-eqb (length (take 6 (drop 2 bytes))) 6 (simp (length-take, length-drop) (omega (arith, long_8))))
      (all_take (is_below 256) 6 (drop 2 bytes) (all_drop (is_below 256) 2 bytes bs)))
      (le-leb (length (subs_in (get_or bytes 1 0) (drop 8 bytes))) max_subs (omega (arith, count_15, length_subs_in (get_or bytes 1 0) (drop 8 bytes)))))
      (subs_narrow (get_or bytes 1 0) (drop 8 bytes) (simp length-drop (omega (arith, whole))) (all_drop (is_below 256) 8 bytes bs))

pub packed_form : (bytes : List ℕ) → all (is_below 256) bytes ≡ true → is_packed bytes ≡ true → packed (sid_in bytes) ++ drop (sid_size bytes) bytes ≡ bytes
unfolding packed sid_in sid_size
packed_form [] h p = absurd (omega (arith, long_8 [] p))
packed_form (b ∷ []) h p = absurd (omega (arith, long_8 (b ∷ []) p))
packed_form (b ∷ c ∷ t) h p = form (revision_1 (b ∷ c ∷ t) p) (whole (b ∷ c ∷ t) p) (all_drop (is_below 256) 2 (b ∷ c ∷ t) h)
  where
    form : b ≡ 1 → sid_size (b ∷ c ∷ t) ≤ length (b ∷ c ∷ t) → all (is_below 256) t ≡ true → packed (sid_in (b ∷ c ∷ t)) ++ drop (sid_size (b ∷ c ∷ t)) (b ∷ c ∷ t) ≡ b ∷ c ∷ t
    form e w a =
        let r : drop (8 + 4 * c) (b ∷ c ∷ t) ≡ drop (4 * c) (drop 6 t) =
        ap (λ (k : ℕ). drop k (b ∷ c ∷ t)) {x = 8 + 4 * c} {y = suc (suc (6 + 4 * c))} (omega arith) ∙ sym (drop-drop (4 * c) 6 t) in
        ap₂ (λ (x : ℕ) (y : List ℕ). x ∷ y) (sym e)
        (ap₂ (λ (x : ℕ) (y : List ℕ). x ∷ y) (length_subs_in c (drop 6 t))
        (append_assoc (take 6 t) (sub_bytes (subs_in c (drop 6 t))) (drop (8 + 4 * c) (b ∷ c ∷ t))
        ∙ ap (λ (l : List ℕ). take 6 t ++ l)
        (ap (λ (l : List ℕ). sub_bytes (subs_in c (drop 6 t)) ++ l) r ∙ subs_form c (drop 6 t) (simp length-drop (omega arith)) (all_drop (is_below 256) 6 t a))
        ∙ take-append-drop 6 t))

-- whatever is read is the packed form of a valid SID, and the bytes after it
pub read_form : (bytes : List ℕ) → all (is_below 256) bytes ≡ true → (s : Sid) (rest : List ℕ) → read_sid bytes ≡ got s rest → (packed s ++ rest ≡ bytes) × (valid_sid s ≡ true)
unfolding read_sid
read_form bytes h s rest e = by (is_packed bytes) refl e
  where
    by : (t : Bool) → is_packed bytes ≡ t → (if t then got (sid_in bytes) (drop (sid_size bytes) bytes) else bad) ≡ got s rest → (packed s ++ rest ≡ bytes) × (valid_sid s ≡ true)
    by true p q =
        let a : sid_in bytes ≡ s = cc in
        let r : drop (sid_size bytes) bytes ≡ rest = cc in
        (ap₂ (λ (x : Sid) (y : List ℕ). packed x ++ y) (sym a) (sym r) ∙ packed_form bytes h p, ap valid_sid (sym a) ∙ sid_valid bytes p h)
    by false p q = let z : ◌≡◌ {A = ℕ} 0 1 = cc in absurd (omega arith)

-- ---- a SID's row

pub length_pairs : (k : ℕ) (ns : List ℕ) → length (pairs k ns) ≡ k
unfolding pairs
length_pairs zero ns = refl
length_pairs (suc k) ns = ap suc (length_pairs k (drop 2 ns))

-- nothing left: zeros
pairs_none : (k : ℕ) → all is_zero (pairs k []) ≡ true
unfolding pairs all
pairs_none zero = refl
pairs_none (suc k) = pairs_none k

pub pairs_zero : (k : ℕ) (ns : List ℕ) → all (is_below (2 ^ 32)) ns ≡ true → zero_from (length ns) (pairs k ns) ≡ true
unfolding pairs zero_from all is_below
pairs_zero k [] h = pairs_none k
pairs_zero zero (a ∷ ns) h = refl
pairs_zero (suc k) (a ∷ []) h =
    let l : a < 2 ^ 32 = ltb-true a (2 ^ 32) (and_l (ltb a (2 ^ 32)) true h) in
    and_i (eq-eqb ((a + 0 * word32) / word32) 0 (omega arith)) (pairs_none k)
pairs_zero (suc k) (a ∷ b ∷ ns) h = pairs_zero k ns (and_r (ltb b (2 ^ 32)) (all (is_below (2 ^ 32)) ns) (and_r (ltb a (2 ^ 32)) (all (is_below (2 ^ 32)) (b ∷ ns)) h))

pub pairs_back : (k : ℕ) (ns : List ℕ) → length ns ≤ 2 * k → all (is_below (2 ^ 32)) ns ≡ true → take (length ns) (halves (pairs k ns)) ≡ ns
unfolding pairs halves all is_below
pairs_back k [] l h = refl
pairs_back zero (a ∷ ns) l h = absurd (omega arith)
pairs_back (suc k) (a ∷ []) l h =
    let u : a < 2 ^ 32 = ltb-true a (2 ^ 32) (and_l (ltb a (2 ^ 32)) true h) in
    ap (λ (x : ℕ). x ∷ []) {x = (a + 0 * word32) % word32} {y = a} (omega arith)
pairs_back (suc k) (a ∷ b ∷ ns) l h =
    let u : a < 2 ^ 32 = ltb-true a (2 ^ 32) (and_l (ltb a (2 ^ 32)) (all (is_below (2 ^ 32)) (b ∷ ns)) h) in
    let low : (a + b * word32) % word32 ≡ a = omega arith in
    let high : (a + b * word32) / word32 ≡ b = omega arith in
    ap₂ (λ (x : ℕ) (t : List ℕ). x ∷ t) low (ap₂ (λ (x : ℕ) (t : List ℕ). x ∷ t) high
    (pairs_back k ns (omega arith) (and_r (ltb b (2 ^ 32)) (all (is_below (2 ^ 32)) ns) (and_r (ltb a (2 ^ 32)) (all (is_below (2 ^ 32)) (b ∷ ns)) h))))

-- words that are zero from number n on are pairs of their first n halves
zeros_pairs : (ws : List ℕ) → all is_zero ws ≡ true → pairs (length ws) [] ≡ ws
unfolding pairs all
zeros_pairs [] h = refl
zeros_pairs (w ∷ ws) h = ap₂ (λ (x : ℕ) (t : List ℕ). x ∷ t) (sym (eqb-true w 0 (and_l (eqb w 0) (all is_zero ws) h))) (zeros_pairs ws (and_r (eqb w 0) (all is_zero ws) h))

pub pairs_form : (n : ℕ) (ws : List ℕ) → zero_from n ws ≡ true → pairs (length ws) (take n (halves ws)) ≡ ws
unfolding zero_from halves pairs
pairs_form zero ws h = zeros_pairs ws h
pairs_form (suc n) [] h = refl
pairs_form (suc zero) (w ∷ ws) h =
    let z : w / word32 ≡ 0 = eqb-true (w / word32) 0 (and_l (eqb (w / word32) 0) (all is_zero ws) h) in
    let e : w % word32 + 0 * word32 ≡ w = omega arith in
    ap₂ (λ (x : ℕ) (t : List ℕ). x ∷ t) e (zeros_pairs ws (and_r (eqb (w / word32) 0) (all is_zero ws) h))
pairs_form (suc (suc n)) (w ∷ ws) h =
    let e : w % word32 + w / word32 * word32 ≡ w = omega arith in
    ap₂ (λ (x : ℕ) (t : List ℕ). x ∷ t) e (pairs_form n ws h)

pub halves_32 : (ws : List ℕ) → all (is_below (2 ^ 64)) ws ≡ true → all (is_below (2 ^ 32)) (halves ws) ≡ true
unfolding halves all is_below
halves_32 [] h = refl
halves_32 (w ∷ ws) h =
    let l : w < 2 ^ 64 = ltb-true w (2 ^ 64) (and_l (ltb w (2 ^ 64)) (all (is_below (2 ^ 64)) ws) h) in
    and_i (lt-ltb (w % word32) (2 ^ 32) (omega arith)) (and_i (lt-ltb (w / word32) (2 ^ 32) (omega arith)) (halves_32 ws (and_r (ltb w (2 ^ 64)) (all (is_below (2 ^ 64)) ws) h)))

pub length_halves : (ws : List ℕ) → length (halves ws) ≡ 2 * length ws
unfolding halves
length_halves [] = refl
length_halves (w ∷ ws) = omega (arith, length_halves ws)

from_bytes_header : (n : ℕ) (bs : List ℕ) → from_bytes (1 ∷ n ∷ bs) ≡ 1 + 256 * (n + 256 * from_bytes bs)
unfolding from_bytes
from_bytes_header n bs = refl

is_valid_lem : (a ns : List ℕ) → length a ≡ 6 → all (is_below 256) a ≡ true → length ns ≤ max_subs → all (is_below (2 ^ 32)) ns ≡ true → valid_sid (record { authority = a; subs = ns }) ≡ true
unfolding valid_sid
is_valid_lem a ns p q r u = and_i (and_i (and_i (eq-eqb (length a) 6 p) q) (le-leb (length ns) max_subs r)) u

-- a SID's row is one, and stands for that SID
module _ (s : Sid) (v : valid_sid s ≡ true) where
  header : from_bytes (1 ∷ length s.subs ∷ s.authority) ≡ 1 + 256 * (length s.subs + 256 * from_bytes s.authority)
  header = from_bytes_header (length s.subs) s.authority

  pub row_count : count_in (sid_row s) ≡ length s.subs
  unfolding count_in sid_row
  row_count = omega (arith, header, subs_few s v)

  pub row_is : is_row (sid_row s) ≡ true
  unfolding is_row sid_row
  row_is =
      and_i (and_i (eq-eqb (from_bytes (1 ∷ length s.subs ∷ s.authority) % 256) 1 (omega (arith, header)))
      (le-leb (count_in (sid_row s)) max_subs (omega (arith, row_count, subs_few s v))))
      (ap (λ (n : ℕ). zero_from n (pairs 8 s.subs)) row_count ∙ pairs_zero 8 s.subs (subs_32 s v))

  pub row_back : row_sid (sid_row s) ≡ s
  unfolding row_sid sid_row
  row_back =
      let high : from_bytes (1 ∷ length s.subs ∷ s.authority) / 65536 ≡ from_bytes s.authority = omega (arith, header, subs_few s v) in
      ap₂ (λ (a n : List ℕ). record { authority = a; subs = n })
      (ap (to_bytes 6) high ∙ to_from s.authority 6 (authority_six s v) (authority_bytes s v))
      (ap (λ (n : ℕ). take n (halves (pairs 8 s.subs))) row_count ∙ pairs_back 8 s.subs (omega (arith, subs_few s v)) (subs_32 s v))

-- SIDs with one row are one SID
pub row_one : (s t : Sid) → valid_sid s ≡ true → valid_sid t ≡ true → sid_row s ≡ sid_row t → s ≡ t
row_one s t v u e = sym (row_back s v) ∙ ap row_sid e ∙ row_back t u

-- nine words that pass the test are a valid SID's row
pub row_form : (row : List ℕ) → length row ≡ 9 → all (is_below (2 ^ 64)) row ≡ true → is_row row ≡ true → (sid_row (row_sid row) ≡ row) × (valid_sid (row_sid row) ≡ true)
unfolding is_row sid_row row_sid count_in all is_below
row_form [] l h r = absurd (omega arith)
row_form (w ∷ ws) l h r =
    let p : (eqb (w % 256) 1 && leb (w / 256 % 256) max_subs) ≡ true = and_l _ (zero_from (w / 256 % 256) ws) r in
    form (ltb-true w (2 ^ 64) (and_l (ltb w (2 ^ 64)) (all (is_below (2 ^ 64)) ws) h)) (and_r (ltb w (2 ^ 64)) (all (is_below (2 ^ 64)) ws) h)
    (eqb-true (w % 256) 1 (and_l _ (leb (w / 256 % 256) max_subs) p)) (leb-true (w / 256 % 256) max_subs (and_r (eqb (w % 256) 1) _ p))
    (and_r (eqb (w % 256) 1 && leb (w / 256 % 256) max_subs) (zero_from (w / 256 % 256) ws) r)
  where
    form : w < 2 ^ 64 → all (is_below (2 ^ 64)) ws ≡ true → w % 256 ≡ 1 → w / 256 % 256 ≤ max_subs → zero_from (w / 256 % 256) ws ≡ true
        → (sid_row (row_sid (w ∷ ws)) ≡ w ∷ ws) × (valid_sid (row_sid (w ∷ ws)) ≡ true)
    form b bs e f z =
        let n : ℕ = w / 256 % 256 in
        let size : length ws ≡ 8 = omega arith in
        let many : length (take n (halves ws)) ≡ n = simp length-take (omega (arith, length_halves ws)) in
        let auth : from_bytes (to_bytes 6 (w / 65536)) ≡ w / 65536 = from_to 6 (w / 65536) (omega arith) in (
          ap₂ (λ (x : ℕ) (t : List ℕ). x ∷ t)
              (from_bytes_header (length (take n (halves ws))) (to_bytes 6 (w / 65536)) ∙ omega (arith, many, auth))
              (ap (λ (k : ℕ). pairs k (take n (halves ws))) (sym size) ∙ pairs_form n ws z),
          is_valid_lem (to_bytes 6 (w / 65536)) (take n (halves ws)) (length_to_bytes 6 (w / 65536)) (to_bytes_bytes 6 (w / 65536)) (omega (arith, many)) (all_take (is_below (2 ^ 32)) n (halves ws) (halves_32 ws bs)),
        )

pub length_row : (s : Sid) → length (sid_row s) ≡ row_words
unfolding sid_row
length_row s = ap suc (length_pairs 8 s.subs)

-- ---- the test of equal SIDs passes just where they are equal

pub sid_eq : (s t : Sid) → same_sid s t ≡ true → s ≡ t
unfolding same_sid
sid_eq s t h =
    let a : s.authority ≡ t.authority = same_eq s.authority t.authority (and_l _ (same s.subs t.subs) h) in
    let b : s.subs ≡ t.subs = same_eq s.subs t.subs (and_r (same s.authority t.authority) _ h) in
    ap₂ (λ (x y : List ℕ). record { authority = x; subs = y }) a b

pub sid_refl : (s : Sid) → same_sid s s ≡ true
unfolding same_sid
sid_refl s = and_i (same_refl s.authority) (same_refl s.subs)

pub eq_sid : (s t : Sid) → s ≡ t → same_sid s t ≡ true
eq_sid s t e = ap (same_sid s) (sym e) ∙ sid_refl s
