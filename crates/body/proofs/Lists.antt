-- Lists that are skipped as other things than those that they are. Assumes nothing.
use Prim.Native.Nat.{ℕ, zero, suc, ◌*◌}
use native.Mathlib.Omega.{arith}
use mathlib.Core.Path.{◌≡◌, refl, sym, ap, ◌∙◌}
use mathlib.Core.List.{List}
use Rattle.std.specs.Prelude.{Option}
use Rattle.rules.specs.Number.{Read, got, bad, read_number, max32}
use Rattle.rules.specs.Request as rules
use Rattle.rules.specs.Request.{◌>>=◌, follow, give, times, u32, entry}
use Rattle.number.specs.Rest.{after}
use denote.Ref.{Bor}
use lib.ListN.{length}
use Rattle.number.specs.Reader.{rest_of, Onward, PassedOn}
use Rattle.number.specs.declared.reader.Reader.{Reader}
use Rattle.number.proofs.Reading.{times_none, times_bad, times_suc}

-- a reader goes on and on
pub further : {r m r' : Reader} → Onward r m → Onward m r' → Onward r r'
further x y = record { body = y.body ∙ x.body; forward = omega (arith, x, y); inside = omega (arith, x, y, ap (λ (b : Bor (List ℕ)). length b.now) x.body) }

-- two numbers are read as one thing
abbrev pub pair_of : {A : Type 0} → (ℕ → ℕ → A) → rules.Reader A
pair_of f = ◌>>=◌ u32 (λ a. ◌>>=◌ u32 (λ b. give (f a b)))

module _ {A : Type 0} (f : ℕ → ℕ → A) where
  module _ (n : ℕ) (ih : (bytes : List ℕ) → after (times (2 * n) u32 bytes) ≡ after (times n (pair_of f) bytes)) (bytes : List ℕ) where
    second : (a : ℕ) (l : List ℕ) (y : Read ℕ) → got a l ≡ u32 bytes → y ≡ u32 l
        → after (times (suc (2 * n)) u32 l) ≡ after (times (suc n) (pair_of f) bytes)
    unfolding ◌>>=◌ follow give
    second a l bad d e =
        sym (times_bad u32 (suc (2 * n)) l (omega arith) e) ∙ times_bad (pair_of f) (suc n) bytes (omega arith) (rw (sym d, sym e))
    second a l (got b m) d e =
        sym (times_suc u32 (2 * n) l m b e) ∙ ih m ∙ times_suc (pair_of f) n bytes m (f a b) (rw (sym d, sym e))

    first : (x : Read ℕ) → x ≡ u32 bytes → after (times (suc (suc (2 * n))) u32 bytes) ≡ after (times (suc n) (pair_of f) bytes)
    unfolding ◌>>=◌ follow
    first bad e =
        sym (times_bad u32 (suc (suc (2 * n))) bytes (omega arith) e) ∙ times_bad (pair_of f) (suc n) bytes (omega arith) (rw (sym e))
    first (got a l) e = sym (times_suc u32 (suc (2 * n)) bytes l a e) ∙ second a l (u32 l) e refl

  pairs_after : (n : ℕ) (bytes : List ℕ) → after (times (2 * n) u32 bytes) ≡ after (times n (pair_of f) bytes)
  pairs_after zero bytes = sym (times_none u32 0 bytes (omega arith)) ∙ times_none (pair_of f) 0 bytes (omega arith)
  pairs_after (suc n) bytes =
      let two : 2 * suc n ≡ suc (suc (2 * n)) = omega arith in
      ap (λ (k : ℕ). after (times k u32 bytes)) two ∙ first n (pairs_after n) bytes (u32 bytes) refl

  pub pairs_passed : {r r' : Reader} {u : Option (Unit {0})} (n : ℕ) → PassedOn (times (2 * n) (read_number max32)) r r' u → PassedOn (times n (pair_of f)) r r' u
  unfolding u32
  pairs_passed {r} n h = record { means = h.means ∙ pairs_after n (rest_of r); onward = h.onward }

-- as many entries are twice as many numbers
pub entries_passed : {r r' : Reader} {u : Option (Unit {0})} (n : ℕ) → PassedOn (times (2 * n) (read_number max32)) r r' u → PassedOn (times n entry) r r' u
unfolding entry
entries_passed n h = pairs_passed (λ k v. record { key = k; value = v }) n h

-- two readers that leave the same bytes: so do as many of the one as of the other
module _ {A B : Type 0} (p : rules.Reader A) (q : rules.Reader B) (alike : (bytes : List ℕ) → after (p bytes) ≡ after (q bytes)) where
  module _ (n : ℕ) (ih : (bytes : List ℕ) → after (times n p bytes) ≡ after (times n q bytes)) (bytes : List ℕ) where
    alike_more : (x : Read A) (y : Read B) → x ≡ p bytes → y ≡ q bytes → after x ≡ after y → after (times (suc n) p bytes) ≡ after (times (suc n) q bytes)
    unfolding after
    alike_more bad bad d e f = sym (times_bad p (suc n) bytes (omega arith) d) ∙ times_bad q (suc n) bytes (omega arith) e
    alike_more bad (got b m) d e f = cc
    alike_more (got a l) bad d e f = cc
    alike_more (got a l) (got b m) d e f =
        let g : l ≡ m = cc in
        sym (times_suc p n bytes l a d) ∙ ih l ∙ ap (λ (k : List ℕ). after (times n q k)) g ∙ times_suc q n bytes m b e

  alike_after : (n : ℕ) (bytes : List ℕ) → after (times n p bytes) ≡ after (times n q bytes)
  alike_after zero bytes = sym (times_none p 0 bytes (omega arith)) ∙ times_none q 0 bytes (omega arith)
  alike_after (suc n) bytes = alike_more n (alike_after n) bytes (p bytes) (q bytes) refl refl (alike bytes)

  pub alike_passed : {r r' : Reader} {u : Option (Unit {0})} (n : ℕ) → PassedOn (times n p) r r' u → PassedOn (times n q) r r' u
  alike_passed {r} n h = record { means = h.means ∙ alike_after n (rest_of r); onward = h.onward }
