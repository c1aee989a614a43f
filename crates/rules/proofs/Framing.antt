-- Bytes are read as a part, broken or whole as some frame begins with them. Assumes nothing.
use Prim.Native.Nat.{ℕ, ◌+◌, ◌*◌, ◌-◌, ◌/◌, ◌%◌, ◌≤◌, ◌<◌}
use native.Mathlib.Omega.{arith}
use mathlib.Core.Path.{◌≡◌, refl, sym, ap, ap₂, ◌∙◌}
use mathlib.Core.Bool.{Bool, true, false, ◌||◌}
use mathlib.Core.List.{List, [], ◌∷◌, ◌++◌, append-nil, append_assoc}
use lib.Dec.{eqb, leb, ltb}
use lib.ListN.{length, take, replicate, length-append, length-take, length-replicate}
use lib.Seq.{take-append_seam, take-append-add}
use borrow.Author.Tests.{eqb-false, leb-false, ltb-true, ltb-false}
use Rattle.std.specs.Prelude.{if◌then◌else◌}
use Rattle.rules.specs.Basic.{all}
use Rattle.rules.specs.Valid.{is_byte}
use Rattle.rules.specs.Number.{encode}
use Rattle.rules.specs.Frame.{max_body, frame, Length, unread, invalid, size, second_of, length_of, part, broken, whole, framed_by, framed}
use Rattle.rules.specs.Framing.{Begins, Framing}
use Rattle.rules.proofs.Logic.{and_l, or_no}
use Rattle.rules.proofs.Numbers.{encode_one, encode_more}
use Rattle.rules.proofs.Frames.{length_read, frame_whole, frame_part}

-- ---- the length that is read is the one that is written

record Form (xs : List ℕ) (n : ℕ) (ys : List ℕ) : Type 0 where
  low : 1 ≤ n
  high : n ≤ max_body
  form : xs ≡ encode n ++ ys

-- two bytes
two : (a b n : ℕ) → 128 ≤ a → a < 256 → 1 ≤ b → b < 128 → a - 128 + 128 * b ≡ n → encode n ≡ a ∷ b ∷ []
two a b n low high some few e =
    encode_more n (omega arith) ∙ ap (λ (s : List ℕ). (n % 128 + 128) ∷ s) (encode_one (n / 128) (omega arith))
    ∙ ap₂ (λ (i j : ℕ). i ∷ j ∷ []) (omega arith) (omega arith)

second_form : (a : ℕ) (xs : List ℕ) → 128 ≤ a → a < 256 → (n : ℕ) (ys : List ℕ) → second_of a xs ≡ size n ys → Form (a ∷ xs) n ys
unfolding second_of
second_form a [] low high n ys e = absurd (let z : ◌≡◌ {A = ℕ} 0 1 = cc in omega arith)
second_form a (b ∷ xs) low high n ys e = go (eqb b 0 || leb 128 b || ltb max_body (a - 128 + 128 * b)) refl e
  where
    go : (t : Bool) → (eqb b 0 || leb 128 b || ltb max_body (a - 128 + 128 * b)) ≡ t → (if t then invalid else size (a - 128 + 128 * b) xs) ≡ size n ys → Form (a ∷ b ∷ xs) n ys
    go true q e = absurd (let z : ◌≡◌ {A = ℕ} 0 1 = cc in omega arith)
    go false q e =
        let k : a - 128 + 128 * b ≡ n = cc in
        let z : xs ≡ ys = cc in
        let r = or_no (eqb b 0 || leb 128 b) (ltb max_body (a - 128 + 128 * b)) q in
        let r1 = or_no (eqb b 0) (leb 128 b) r.0 in
        let some = eqb-false b 0 r1.0 in
        let few = leb-false 128 b r1.1 in
        let short = ltb-false max_body (a - 128 + 128 * b) r.1 in
        record {
          low = omega arith;
          high = omega arith;
          form = ap (λ (zs : List ℕ). a ∷ b ∷ zs) z ∙ sym (ap (λ (es : List ℕ). es ++ ys) (two a b n low high (omega arith) few k));
        }

size_form : (xs : List ℕ) → all is_byte xs ≡ true → (n : ℕ) (ys : List ℕ) → length_of xs ≡ size n ys → Form xs n ys
unfolding length_of all is_byte
size_form [] w n ys e = absurd (let z : ◌≡◌ {A = ℕ} 0 1 = cc in omega arith)
size_form (a ∷ xs) w n ys e = go (eqb a 0) refl (ltb a 128) refl e
  where
    go : (t : Bool) → eqb a 0 ≡ t → (u : Bool) → ltb a 128 ≡ u → (if t then invalid else if u then size a xs else second_of a xs) ≡ size n ys → Form (a ∷ xs) n ys
    go true p u q e = absurd (let z : ◌≡◌ {A = ℕ} 0 1 = cc in omega arith)
    go false p true q e =
        let k : a ≡ n = cc in
        let z : xs ≡ ys = cc in
        let some = eqb-false a 0 p in
        let few = ltb-true a 128 q in
        record {
          low = omega arith;
          high = omega arith;
          form = ap₂ (λ (i : ℕ) (zs : List ℕ). i ∷ zs) k z ∙ sym (ap (λ (es : List ℕ). es ++ ys) (encode_one n (omega arith)));
        }
    go false p false q e = second_form a xs (ltb-false a 128 q) (ltb-true a 256 (and_l (ltb a 256) _ w)) n ys e

-- ---- a part

Part : List ℕ → Type 0
Part bytes = (rest : List ℕ) × (1 ≤ length rest) × Begins bytes rest

-- no length yet: nothing, or one byte of two
unread_begins : (bytes : List ℕ) → all is_byte bytes ≡ true → length_of bytes ≡ unread → Part bytes
unfolding length_of second_of all is_byte Part frame
unread_begins [] w e =
    (encode 1 ++ (0 ∷ []), let l = length-append (encode 1) (0 ∷ []) in omega arith, record { body = 0 ∷ []; low = omega arith; high = omega arith; framing = refl })
unread_begins (a ∷ xs) w e = go xs (eqb a 0) refl (ltb a 128) refl e
  where
    go : (xs : List ℕ) → (t : Bool) → eqb a 0 ≡ t → (u : Bool) → ltb a 128 ≡ u → (if t then invalid else if u then size a xs else second_of a xs) ≡ unread → Part (a ∷ xs)
    go xs true p u q e = absurd (let z : ◌≡◌ {A = ℕ} 0 1 = cc in omega arith)
    go xs false p true q e = absurd (let z : ◌≡◌ {A = ℕ} 0 1 = cc in omega arith)
    go [] false p false q e =
        let body : List ℕ = replicate a 0 in
        let l = length-replicate {A = ℕ} a 0 in
        let low = ltb-false a 128 q in
        let high = ltb-true a 256 (and_l (ltb a 256) _ w) in (
          1 ∷ body,
          omega arith,
          record {
            body = body;
            low = omega arith;
            high = omega arith;
            framing = sym (ap (λ (es : List ℕ). es ++ body) (two a 1 (length body) low high (omega arith) (omega arith) (omega arith)));
          },
        )
    go (b ∷ ys) false p false q e = neither (eqb b 0 || leb 128 b || ltb max_body (a - 128 + 128 * b)) e
      where
        neither : (t : Bool) → (if t then invalid else size (a - 128 + 128 * b) ys) ≡ unread → Part (a ∷ b ∷ ys)
        neither true e = absurd (let z : ◌≡◌ {A = ℕ} 0 1 = cc in omega arith)
        neither false e = absurd (let z : ◌≡◌ {A = ℕ} 0 1 = cc in omega arith)

-- a length, and too few bytes after it
short_of : (n : ℕ) (ys : List ℕ) → framed_by (size n ys) ≡ part → length ys < n
unfolding framed_by
short_of n ys e = go (ltb (length ys) n) refl e
  where
    go : (t : Bool) → ltb (length ys) n ≡ t → (if t then part else whole ys) ≡ part → length ys < n
    go true q e = ltb-true (length ys) n q
    go false q e = absurd (let z : ◌≡◌ {A = ℕ} 0 1 = cc in omega arith)

size_begins : (bytes : List ℕ) (n : ℕ) (ys : List ℕ) → Form bytes n ys → length ys < n → Part bytes
unfolding Part frame
size_begins bytes n ys f short =
    let rest : List ℕ = replicate (n - length ys) 0 in
    let l = length-replicate {A = ℕ} (n - length ys) 0 in
    let all_of : length (ys ++ rest) ≡ n = let j = length-append ys rest in omega arith in
    let low = f.low in
    let high = f.high in (
      rest,
      omega arith,
      record {
        body = ys ++ rest;
        low = omega arith;
        high = omega arith;
        framing = ap (λ (zs : List ℕ). zs ++ rest) f.form ∙ append_assoc (encode n) ys rest ∙ ap (λ (k : ℕ). encode k ++ (ys ++ rest)) (sym all_of);
      },
    )

part_begins : (bytes : List ℕ) → all is_byte bytes ≡ true → framed bytes ≡ part → Part bytes
unfolding framed framed_by
part_begins bytes w e = go (length_of bytes) refl e
  where
    go : (x : Length) → length_of bytes ≡ x → framed_by x ≡ part → Part bytes
    go unread q e = unread_begins bytes w q
    go invalid q e = absurd (let z : ◌≡◌ {A = ℕ} 0 1 = cc in omega arith)
    go (size n ys) q e = size_begins bytes n ys (size_form bytes w n ys q) (short_of n ys e)

-- ---- what begins a frame

begun : (bytes rest : List ℕ) → 1 ≤ length rest → Begins bytes rest → framed bytes ≡ part
begun bytes rest more x =
    let l = ap length x.framing in
    let j = length-append bytes rest in
    ap framed (sym (take-append_seam bytes rest) ∙ ap (take (length bytes)) x.framing) ∙ frame_part x.body (length bytes) x.low x.high (omega arith)

ended : (bytes : List ℕ) (x : Begins bytes []) → framed bytes ≡ whole x.body
ended bytes x = ap framed (sym (append-nil bytes) ∙ x.framing) ∙ frame_whole x.body x.low x.high

not_broken : (bytes rest : List ℕ) → framed bytes ≡ broken → Begins bytes rest → ⊥
not_broken bytes [] e x = let k = ended bytes x in let z : ◌≡◌ {A = ℕ} 0 1 = cc in omega arith
not_broken bytes (r ∷ rest) e x = let k = begun bytes (r ∷ rest) (omega arith) x in let z : ◌≡◌ {A = ℕ} 0 1 = cc in omega arith

-- ---- whole

record Read (bytes body : List ℕ) : Type 0 where
  n : ℕ
  form : Form bytes n body
  enough : n ≤ length body

whole_read : (bytes : List ℕ) → all is_byte bytes ≡ true → (body : List ℕ) → framed bytes ≡ whole body → Read bytes body
unfolding framed framed_by
whole_read bytes w body e = go (length_of bytes) refl e
  where
    go : (x : Length) → length_of bytes ≡ x → framed_by x ≡ whole body → Read bytes body
    go unread q e = absurd (let z : ◌≡◌ {A = ℕ} 0 1 = cc in omega arith)
    go invalid q e = absurd (let z : ◌≡◌ {A = ℕ} 0 1 = cc in omega arith)
    go (size n ys) q e = at (ltb (length ys) n) refl e
      where
        at : (t : Bool) → ltb (length ys) n ≡ t → (if t then part else whole ys) ≡ whole body → Read bytes body
        at true r e = absurd (let z : ◌≡◌ {A = ℕ} 0 1 = cc in omega arith)
        at false r e =
            let k : ys ≡ body = cc in
            let m = ltb-false (length ys) n r in
            record { n = n; form = size_form bytes w n body (q ∙ ap (size n) k); enough = rw (sym k) m }

ends : (bytes before : List ℕ) (b : ℕ) (body : List ℕ) → all is_byte bytes ≡ true → bytes ≡ before ++ (b ∷ []) → framed before ≡ part → framed bytes ≡ whole body → bytes ≡ frame body
unfolding frame framed
ends bytes before b body w e p q =
    let r = whole_read bytes w body q in
    let n = r.n in
    let low = r.form.low in
    let enough = r.enough in
    let xs = encode n in
    let j = length body - 1 in
    let whole_length : length bytes ≡ length xs + length body = ap length r.form.form ∙ length-append xs body in
    let one_more : length bytes ≡ length before + 1 = ap length e ∙ length-append before (b ∷ []) in
    let k : length before ≡ length xs + j = omega arith in
    let was : before ≡ xs ++ take j body =
    sym (take-append_seam before (b ∷ [])) ∙ ap (take (length before)) (sym e ∙ r.form.form) ∙ ap (λ (i : ℕ). take i (xs ++ body)) k ∙ take-append-add xs body j in
    let short : length (take j body) < n = short_of n (take j body) (sym (ap framed_by (length_read n (take j body) low r.form.high)) ∙ sym (ap framed was) ∙ p) in
    let same : length body ≡ n = let l = length-take j body in omega arith in
    r.form.form ∙ ap (λ (i : ℕ). encode i ++ body) (sym same)

-- all bytes
pub framing : (bytes : List ℕ) → all is_byte bytes ≡ true → Framing bytes
unfolding Part
framing bytes w =
    record {
      is_part = part_begins bytes w;
      partly = begun bytes;
      is_broken = λ e rest x. not_broken bytes rest e x;
      is_whole = λ before b e p body q. ends bytes before b body w e p q;
      wholly = ended bytes;
    }
