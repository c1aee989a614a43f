-- A frame of 1 to 2,048 bytes is read as its body, and no shorter part of it is. Assumes nothing.
use Prim.Native.Nat.{ℕ, zero, suc, ◌+◌, ◌*◌, ◌-◌, ◌/◌, ◌%◌, ◌≤◌, ◌<◌}
use native.Mathlib.Omega.{arith}
use mathlib.Core.Path.{◌≡◌, refl, ap, ◌∙◌}
use mathlib.Core.Logic.{⊎_elim}
use mathlib.Core.List.{List, [], ◌∷◌, ◌++◌}
use lib.ListN.{length, take, length-take, length-append}
use lib.Seq.{take-append-le, take-append-add}
use borrow.Author.Tests.{lt-ltb, le-ltb, lt-leb, ne_eqb}
use Rattle.rules.specs.Number.{encode}
use Rattle.rules.specs.Frame.{max_body, frame, size, second_of, length_of, part, whole, framed_by, framed}
use Rattle.rules.proofs.Numbers.{below_or, encode_one, encode_more}

-- the length of n is read as n, before the bytes after it
pub length_read : (n : ℕ) (bytes : List ℕ) → 1 ≤ n → n ≤ max_body → length_of (encode n ++ bytes) ≡ size n bytes
unfolding length_of second_of
length_read n bytes low high = ⊎_elim
    (λ l. rw (encode_one n l) (simp (ne_eqb n 0 (omega arith), lt-ltb n 128 l)))
    (λ l. rw (encode_more n l) (rw (encode_one (n / 128) (omega arith))
    (simp (ne_eqb (n % 128 + 128) 0 (omega arith), le-ltb (n % 128 + 128) 128 (omega arith), ne_eqb (n / 128) 0 (omega arith), lt-leb 128 (n / 128) (omega arith), le-ltb max_body (n % 128 + 128 - 128 + 128 * (n / 128)) (omega arith))
    (ap (λ (k : ℕ). size k bytes) (omega arith)))))
    (below_or n 128)

pub frame_whole : (body : List ℕ) → 1 ≤ length body → length body ≤ max_body → framed (frame body) ≡ whole body
unfolding framed framed_by frame
frame_whole body low high = rw (length_read (length body) body low high) (rw (le-ltb (length body) (length body) (omega arith)))

-- a body that is not yet whole
part_read : (n : ℕ) (bytes : List ℕ) → 1 ≤ n → n ≤ max_body → length bytes < n → framed (encode n ++ bytes) ≡ part
unfolding framed framed_by
part_read n bytes low high l = rw (length_read n bytes low high) (rw (lt-ltb (length bytes) n l))

-- a length that is not yet whole
length_part : (n k : ℕ) → n ≤ max_body → k < length (encode n) → framed (take k (encode n)) ≡ part
unfolding framed framed_by length_of second_of
length_part n k high l = ⊎_elim
    (λ h. let e = encode_one n h in first k (let j = ap length e in omega arith))
    (λ h. let e : encode n ≡ (n % 128 + 128) ∷ (n / 128) ∷ [] = encode_more n h ∙ ap (λ (s : List ℕ). (n % 128 + 128) ∷ s) (encode_one (n / 128) (omega arith)) in
    rw e (second k (let j = ap length e in omega arith)))
    (below_or n 128)
  where
    first : (k : ℕ) → k < 1 → framed_by (length_of (take k (encode n))) ≡ part
    first zero l = refl
    first (suc k) l = absurd (omega arith)

    second : (k : ℕ) → k < 2 → framed_by (length_of (take k ((n % 128 + 128) ∷ (n / 128) ∷ []))) ≡ part
    second zero l = refl
    second (suc zero) l = simp (ne_eqb (n % 128 + 128) 0 (omega arith), le-ltb (n % 128 + 128) 128 (omega arith))
    second (suc (suc k)) l = absurd (omega arith)

-- each shorter part of a frame is a part: a request is served at its last byte
pub frame_part : (body : List ℕ) (k : ℕ) → 1 ≤ length body → length body ≤ max_body → k < length (frame body) → framed (take k (frame body)) ≡ part
unfolding frame
frame_part body k low high l =
    let n = length body in
    let xs = encode n in
    ⊎_elim
    (λ h. rw (take-append-le k xs body (omega arith)) (length_part n k high h))
    (λ h.
    let j = k - length xs in
    let e : k ≡ length xs + j = omega arith in
    let short : length (take j body) < n = let z = length-append xs body in simp length-take (omega arith) in
    ap (λ (i : ℕ). framed (take i (xs ++ body))) e ∙ ap framed (take-append-add xs body j) ∙ part_read n (take j body) low high short)
    (below_or k (length xs))
