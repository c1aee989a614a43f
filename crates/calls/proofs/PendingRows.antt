-- A station's row of pending bytes before and after a chunk. Assumes nothing.
use Prim.Native.Nat.{ℕ, zero, suc, ◌+◌, ◌-◌, ◌≤◌}
use native.Mathlib.Omega.{arith}
use mathlib.Core.Path.{◌≡◌, sym, ap, ◌∙◌}
use mathlib.Core.List.{List, [], ◌∷◌, ◌++◌}
use lib.ListN.{length, drop, replicate, length-append, replicate-append-replicate}
use lib.Seq.{drop-nil, drop_at, drop-append-add}
use Rattle.table.specs.Lists.{pad, pad_fits}
use Rattle.rules.specs.Frame.{Framed, part, broken, whole, framed}
use Rattle.rules.specs.Memory.{pending_bytes}
use Rattle.stream.specs.Join.{Stop, stop_on, stopped_from, stopped}

-- ---- lists

drop_zeros : (k n : ℕ) → drop k (replicate {A = ℕ} n 0) ≡ replicate (n - k) 0
drop_zeros zero n = ap (λ (j : ℕ). replicate j 0) {x = n} {y = n - zero} (omega arith)
drop_zeros (suc k) zero = drop-nil (suc k) ∙ ap (λ (j : ℕ). replicate {A = ℕ} j 0) {x = zero} {y = zero - suc k} (omega arith)
drop_zeros (suc k) (suc n) = drop_zeros k n ∙ ap (λ (j : ℕ). replicate {A = ℕ} j 0) {x = n - k} {y = suc n - suc k} (omega arith)

drop_pad : (n k : ℕ) (xs : List ℕ) → length xs ≤ k → k ≤ n → drop k (pad n xs) ≡ replicate (n - k) 0
drop_pad n k xs h l =
    ap (drop k) (pad_fits n xs (omega arith))
    ∙ ap (λ (j : ℕ). drop j (xs ++ replicate (n - length xs) 0)) {x = k} {y = length xs + (k - length xs)} (omega arith)
    ∙ drop-append-add xs (replicate (n - length xs) 0) (k - length xs)
    ∙ drop_zeros (k - length xs) (n - length xs)
    ∙ ap (λ (j : ℕ). replicate {A = ℕ} j 0) {x = n - length xs - (k - length xs)} {y = n - k} (omega arith)

-- ---- what joined is no shorter

longer_on : (k n : ℕ) (more : List ℕ) (go : List ℕ → Stop) → k ≤ length more → k ≤ length (go more).joined → (y : Framed) → k ≤ length (stop_on n more go y).joined
unfolding stop_on
longer_on k n more go h ih part = ih
longer_on k n more go h ih broken = h
longer_on k n more go h ih (whole body) = h

longer : (n k : ℕ) (pending chunk : List ℕ) → k ≤ length pending → k ≤ length (stopped_from n pending chunk).joined
unfolding stopped_from
longer n k pending [] h = h
longer n k pending (b ∷ chunk) h =
    let more = pending ++ (b ∷ []) in
    let l : k ≤ length more = omega (arith, length-append pending (b ∷ [])) in
    longer_on k (n + 1) more (λ bytes. stopped_from (n + 1) bytes chunk) l (longer (n + 1) k more chunk l) (framed more)

pub joined_longer : (pending chunk : List ℕ) → length pending ≤ length (stopped pending chunk).joined
joined_longer pending chunk = longer 0 (length pending) pending chunk (omega arith)

-- ---- the row after a chunk, of which all that joined is count bytes

module _ (pending joined after : List ℕ) (count : ℕ) (h : length pending ≤ length joined) (e : length joined ≡ count) (l : count ≤ pending_bytes)
    (r : after ≡ joined ++ drop count (pad pending_bytes pending)) where
  behind : drop count (pad pending_bytes pending) ≡ replicate (pending_bytes - count) 0
  behind = drop_pad pending_bytes count pending (omega arith) l

  pub row_joined : after ≡ pad pending_bytes joined
  row_joined =
      r ∙ ap (λ (s : List ℕ). joined ++ s) (behind ∙ ap (λ (k : ℕ). replicate (pending_bytes - k) 0) (sym e))
      ∙ sym (pad_fits pending_bytes joined (omega arith))

  pub row_zeroed : replicate count 0 ++ drop count after ≡ replicate pending_bytes 0
  row_zeroed =
      ap (λ (s : List ℕ). replicate count 0 ++ s) (ap (drop count) r ∙ drop_at joined (drop count (pad pending_bytes pending)) count e ∙ behind)
      ∙ replicate-append-replicate count (pending_bytes - count) 0
      ∙ ap (λ (k : ℕ). replicate {A = ℕ} k 0) {x = count + (pending_bytes - count)} {y = pending_bytes} (omega arith)
