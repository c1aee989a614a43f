-- Bytes of a body that are written as a DACL. Assumes nothing.
use Prim.Native.Nat.{ℕ, zero, suc, ◌+◌, ◌-◌, ◌≤◌}
use native.Mathlib.Omega.{arith}
use mathlib.Core.Path.{◌≡◌, refl, sym, ap, ap₂, ◌∙◌, subst}
use mathlib.Core.List.{List, [], ◌∷◌, ◌++◌}
use lib.ListN.{length, take, drop, set, replicate, length-take, length-drop}
use Rattle.std.proofs.Common.{length-take-le}
use Rattle.std.proofs.lemmas.List.{drop-replicate, length-replicate}
use Rattle.table.specs.Lists.{pad, pad_fits}
use Rattle.rules.specs.Number.{Read, got, bad}
use Rattle.rules.specs.Request.{follow, give, times, byte}
use Rattle.rules.specs.Token.{max_dacl, with_defaults}
use Rattle.rules.specs.Head as Head
use Rattle.rules.specs.Memory.{head, token_row, dacl_row}
use Rattle.body.specs.Layout.{values_at, There}
use Rattle.body.proofs.Pairs.{Long, times_long}
use Rattle.adjust_defaults.specs.DefaultDacl.{DaclWritten}

-- as many bytes as there are, or not so many
abbrev Part : ℕ → List ℕ → Read (List ℕ) → Type 0
Part n l (got xs later) = (xs ≡ take n l) × (n ≤ length l)
Part n l bad = Unit {0}

next_byte : (n b : ℕ) (l : List ℕ) (r : Read (List ℕ)) → Part n l r → Part (suc n) (b ∷ l) (follow r (λ xs. give (b ∷ xs)))
unfolding follow give
next_byte n b l (got xs later) p = (ap (λ (ys : List ℕ). b ∷ ys) p.0, omega (arith, p.1))
next_byte n b l bad p = tt

bytes_part : (n : ℕ) (l : List ℕ) → Part n l (times n byte l)
unfolding times byte follow give
bytes_part zero l = (refl, omega arith)
bytes_part (suc n) [] = tt
bytes_part (suc n) (b ∷ l) = next_byte n b l (times n byte l) (bytes_part n l)

module _ (s : List ℕ) (at size : ℕ) (h : There byte s at size []) where
  part : (values_at byte s at size ≡ take size (drop at s)) × (size ≤ length (drop at s))
  part = by (times size byte (drop at s)) (values_at byte s at size) h (bytes_part size (drop at s))
    where
      by : (r : Read (List ℕ)) (xs : List ℕ) → r ≡ got xs [] → Part size (drop at s) r → (xs ≡ take size (drop at s)) × (size ≤ length (drop at s))
      by (got ys later) xs e p = (sym (cc) ∙ p.0, p.1)
      by bad xs e p = absurd (let z : ◌≡◌ {A = ℕ} 0 1 = cc in omega arith)

  pub bytes_there : at ≤ length s → at + size ≤ length s
  bytes_there l = omega (arith, part.1, length-drop at s)

  -- as many bytes as there are
  pub there_long : length (values_at byte s at size) ≡ size
  there_long = subst (Long byte size) h (times_long byte size (drop at s))

  pub bytes_written : {ws bs : List ℕ} → bs ≡ pad max_dacl (take size (drop at s)) → DaclWritten (values_at byte s at size) ws (set ws Head.dacl_length size) bs
  unfolding token_row head dacl_row with_defaults
  bytes_written {ws} e = record {
    row = record { row = λ t k. ap (set ws Head.dacl_length) (sym there_long) ∙ ap (λ (l : List ℕ). set l Head.dacl_length (length (values_at byte s at size))) k };
    dacl = λ t. e ∙ ap (pad max_dacl) (sym part.0);
  }

-- ---- a row of zeros, and the bytes over the first of them

over_zeros : (xs out : List ℕ) (n : ℕ) → length xs ≡ n → n ≤ max_dacl → length out ≡ max_dacl → {zs : List ℕ} → zs ≡ replicate (length out) 0 → xs ++ drop n zs ≡ pad max_dacl xs
over_zeros xs out n k h l z =
    ap (λ (b : List ℕ). xs ++ drop n b) z
    ∙ ap (λ (b : List ℕ). xs ++ b) (drop-replicate n (length out) 0)
    ∙ ap₂ (λ (a b : ℕ). xs ++ replicate (a - b) 0) l (sym k)
    ∙ sym (pad_fits max_dacl xs (omega arith))

pub stored : (s : List ℕ) (at n : ℕ) (out : List ℕ) {ys zs : List ℕ} → at + n ≤ length s → n ≤ max_dacl → length out ≡ max_dacl
    → zs ≡ replicate (length out) 0 → ys ≡ take (length (take n zs)) (drop at s) → ys ++ drop n zs ≡ pad max_dacl (take n (drop at s))
stored s at n out {ys} {zs} few h l z e =
    let long : length zs ≡ max_dacl = ap length z ∙ length-replicate (length out) 0 ∙ l in
    ap (λ (b : List ℕ). b ++ drop n zs) (e ∙ ap (λ (m : ℕ). take m (drop at s)) (length-take-le n zs (omega arith)))
    ∙ over_zeros (take n (drop at s)) out n (simp (length-take, length-drop) (omega arith)) h l z
