-- A pass over entries as the rule has it: all entries judged first, and none of them twice. The loop is Folding's. Assumes nothing.
use Prim.Native.Nat.{ℕ, ◌+◌, ◌^◌, ◌%◌, ◌<◌}
use native.Mathlib.Nat.{add-zero, zero-add, add_assoc}
use native.Mathlib.Omega.{arith}
use mathlib.Core.Path.{◌≡◌, refl, sym, ap, ap₂, ◌∙◌}
use mathlib.Core.Bool.{Bool, true, false, not, ◌&&◌, ◌||◌, and-false, and_assoc}
use mathlib.Core.List.{List, [], ◌∷◌, map}
use lib.Dec.{eqb}
use lib.Bits.{bit_or, or_disjoint}
use borrow.Author.Tests.{not-true, eqb-true, eqb-false, eq-eqb, ne_eqb}
use mathlib.Core.Logic.{⊎_elim}
use Rattle.std.specs.Prelude.{if◌then◌else◌}
use Rattle.rules.specs.Basic.{all, member, distinct, is_empty}
use Rattle.rules.specs.Bits.{has}
use Rattle.rules.specs.Number.{Read, got, bad}
use Rattle.rules.specs.Entry.{Entry, key_of, valid_entries, apply_all}
use Rattle.rules.specs.AdjustPrivileges.{named}
use Rattle.rules.specs.Request.{times, entry}
use Rattle.rules.proofs.Bits.{has_or, has_power, has_none, and_power, power_inside}
use Rattle.rules.proofs.Logic.{and_l, and_r, and_i, either}
use Rattle.body.specs.Entries.{entry_of, fold_all, folded, Progress, going, stopped, turned, passed}
use Rattle.body.proofs.Pairs.{Long, times_long}

-- ---- keys and the word of those named before

-- none of the keys is in the word
abbrev fresh : ℕ → List ℕ → Bool
fresh w [] = true
fresh w (k ∷ ks) = not (has k w) && fresh w ks

fresh_none : (ks : List ℕ) → fresh 0 ks ≡ true
fresh_none [] = refl
fresh_none (k ∷ ks) = ap₂ (λ (x y : Bool). not x && y) (has_none k) (fresh_none ks)

apart : (h q f m : Bool) → (not (h || q) && (f && not m)) ≡ (not h && f && not (q || m))
apart true q f m = refl
apart false true f m = sym (and-false f)
apart false false f m = refl

eqb_swap : (m n : ℕ) → eqb m n ≡ eqb n m
eqb_swap m n = ⊎_elim (λ e. ap₂ eqb (eqb-true m n e) (sym (eqb-true m n e))) (λ e. e ∙ sym (ne_eqb n m (λ h. eqb-false m n e (sym h)))) (either (eqb m n))

-- with one more key in the word, they are not that one either
fresh_with : (w k : ℕ) (ks : List ℕ) → fresh (bit_or w (2 ^ k)) ks ≡ (fresh w ks && not (member k ks))
unfolding member
fresh_with w k [] = refl
fresh_with w k (x ∷ ks) =
    ap₂ (λ (y z : Bool). not y && z) (has_or x w (2 ^ k) ∙ ap (λ (y : Bool). has x w || y) (has_power x k ∙ eqb_swap x k)) (fresh_with w k ks)
    ∙ apart (has x w) (eqb k x) (fresh w ks) (member k ks)

-- the word after some entries
abbrev named_from : ℕ → List Entry → ℕ
named_from w [] = w
named_from w (e ∷ es) = named_from (bit_or w (2 ^ e.key)) es

-- where no key comes twice, it is the sum of their bits
named_sum : (w : ℕ) (es : List Entry) → (fresh w (map key_of es) && distinct (map key_of es)) ≡ true → named_from w es ≡ w + named es
unfolding named key_of distinct
named_sum w [] h = sym (add-zero w)
named_sum w (e ∷ es) h =
    let k = e.key in
    let ks = map key_of es in
    let f = and_l (not (has k w) && fresh w ks) (not (member k ks) && distinct ks) h in
    let d = and_r (not (has k w) && fresh w ks) (not (member k ks) && distinct ks) h in
    let n : (fresh (bit_or w (2 ^ k)) ks && distinct ks) ≡ true =
    and_i (fresh_with w k ks ∙ and_i (and_r (not (has k w)) (fresh w ks) f) (and_l (not (member k ks)) (distinct ks) d)) (and_r (not (member k ks)) (distinct ks) d) in
    named_sum (bit_or w (2 ^ k)) es n
    ∙ ap (λ (y : ℕ). y + named es) (or_disjoint w (2 ^ k) (and_power w k false (not-true (has k w) (and_l (not (has k w)) (fresh w ks) f))))
    ∙ add_assoc w (2 ^ k) (named es)

if_if : {A : Type 0} (a b : Bool) (x y : A) → (if a then (if b then x else y) else y) ≡ (if a && b then x else y)
if_if true b x y = refl
if_if false b x y = refl

regroup : (g h a f m d : Bool) → (g && h && (a && (f && m && d))) ≡ (g && a && (h && f && (m && d)))
regroup false h a f m d = refl
regroup true true a f m d = ap (λ (x : Bool). a && x) (and_assoc f m d)
regroup true false a f m d = sym (and-false a)

not_or : (v n : Bool) → not (not v || n) ≡ (v && not n)
not_or true n = refl
not_or false n = refl

module _ {X : Type 0} (good : Entry → Bool) (make : Entry → X → X) where
  -- ---- one turn, by its test: o no entry was bad so far, v this one is good, n it is named already
  module _ (o v n : Bool) (x : X) (w k a : ℕ) (ev : v ≡ good (entry_of k a)) (en : n ≡ has k w) where
    abbrev so_far : Progress X
    so_far = if o then going x w else stopped

    pub turn_good : (o && v && not n) ≡ true → k < 64 → (x' : X) → x' ≡ make (entry_of k a) x → (b w' : ℕ) → b ≡ 2 ^ k % 2 ^ 64 → w' ≡ bit_or w b
        → going x' w' ≡ turned good make (entry_of k a) so_far
    unfolding turned
    turn_good h l x' ex b w' eb ew =
        let t : (good (entry_of k a) && not (has k w)) ≡ true = ap₂ (λ (y z : Bool). y && not z) (sym ev) (sym en) ∙ ap₂ ◌&&◌ (and_r o v (and_l (o && v) (not n) h)) (and_r (o && v) (not n) h) in
        ap₂ (λ (y : X) (z : ℕ). going y z) ex (ew ∙ ap (bit_or w) (eb ∙ power_inside 64 k l))
        ∙ rw (and_l o v (and_l (o && v) (not n) h), t)

    pub turn_bad : (o && v && not n) ≡ false → stopped ≡ turned good make (entry_of k a) so_far
    unfolding turned
    turn_bad h = by o (ap₂ (λ (y z : Bool). o && y && not z) (sym ev) (sym en) ∙ h)
      where
        by : (b : Bool) → (b && good (entry_of k a) && not (has k w)) ≡ false → stopped ≡ turned good make (entry_of k a) (if b then going x w else stopped)
        by true q = rw q
        by false q = refl

  -- ---- the rule

  stays : (es : List Entry) → fold_all (turned good make) es stopped ≡ stopped
  unfolding fold_all turned
  stays [] = refl
  stays (e ∷ es) = stays es

  from_here : (es : List Entry) (b : Bool) (x : X) (w : ℕ)
      → fold_all (turned good make) es (if b then going x w else stopped) ≡ (if b then fold_all (turned good make) es (going x w) else stopped)
  from_here es true x w = refl
  from_here es false x w = stays es

  abbrev verdict : ℕ → List Entry → Bool
  verdict w es = all good es && (fresh w (map key_of es) && distinct (map key_of es))

  all_turned : (es : List Entry) (x : X) (w : ℕ)
      → fold_all (turned good make) es (going x w) ≡ (if verdict w es then going (apply_all make es x) (named_from w es) else stopped)
  unfolding fold_all apply_all turned all key_of distinct
  all_turned [] x w = refl
  all_turned (e ∷ es) x w =
      let k = e.key in
      let ks = map key_of es in
      let b = good e && not (has k w) in
      let w' = bit_or w (2 ^ k) in
      let z = going (apply_all make es (make e x)) (named_from w' es) in
      from_here es b (make e x) w'
      ∙ ap (λ (y : Progress X). if b then y else stopped) (all_turned es (make e x) w')
      ∙ if_if b (verdict w' es) z stopped
      ∙ ap (λ (t : Bool). if t then z else stopped)
      (ap (λ (f : Bool). b && (all good es && (f && distinct ks))) (fresh_with w k ks)
      ∙ regroup (good e) (not (has k w)) (all good es) (fresh w ks) (not (member k ks)) (distinct ks))

  pub all_passed : (es : List Entry) (x : X) → fold_all (turned good make) es (going x 0)
      ≡ (if all good es && distinct (map key_of es) then going (apply_all make es x) (named es) else stopped)
  all_passed es x =
      let f : (fresh 0 (map key_of es) && distinct (map key_of es)) ≡ distinct (map key_of es) = ap (λ (b : Bool). b && distinct (map key_of es)) (fresh_none (map key_of es)) in
      all_turned es x 0
      ∙ ap (λ (b : Bool). if all good es && b then going (apply_all make es x) (named_from 0 es) else stopped) f
      ∙ if_same (all good es && distinct (map key_of es)) (λ h. ap (going (apply_all make es x)) (named_sum 0 es (f ∙ and_r (all good es) (distinct (map key_of es)) h) ∙ zero-add (named es)))
    where
      if_same : (b : Bool) {y z : Progress X} → (b ≡ true → y ≡ z) → (if b then y else stopped) ≡ (if b then z else stopped)
      if_same true h = h refl
      if_same false h = refl

  -- some entries, every one good, and none twice
  abbrev pub whole : X → Read (List Entry) → Progress X
  whole x (got es later) = if valid_entries good es then going (apply_all make es x) (named es) else stopped
  whole x bad = stopped

  none_left : (b : Bool) → ◌≡◌ {A = Progress X} (if b then stopped else stopped) stopped
  none_left true = refl
  none_left false = refl

  not_empty : (n : ℕ) (x : X) (r : Read (List Entry)) → Long entry n r → (if not (eqb n 0) then passed good make x r else stopped) ≡ whole x r
  unfolding folded valid_entries is_empty
  not_empty n x (got [] later) l = ap (λ (b : Bool). if not b then passed good make x (got [] later) else stopped) (eq-eqb n 0 (sym l))
  not_empty n x (got (e ∷ es) later) l =
      ap (λ (b : Bool). if not b then passed good make x (got (e ∷ es) later) else stopped) (ne_eqb n 0 (omega arith)) ∙ all_passed (e ∷ es) x
  not_empty n x bad l = none_left (not (eqb n 0))

  -- ---- a loop that leaves at the first bad entry

  -- v this one is good, n it is named already
  module _ (v n : Bool) (x : X) (w k a : ℕ) (ev : v ≡ good (entry_of k a)) (en : n ≡ has k w) where
    pub goes_on : (not v || n) ≡ false → k < 64 → (x' : X) → x' ≡ make (entry_of k a) x → (b w' : ℕ) → b ≡ 2 ^ k % 2 ^ 64 → w' ≡ bit_or w b
        → going x' w' ≡ turned good make (entry_of k a) (going x w)
    goes_on h = turn_good true v n x w k a ev en (sym (not_or v n) ∙ ap not h)

    pub stops : (not v || n) ≡ true → stopped ≡ turned good make (entry_of k a) (going x w)
    stops h = turn_bad true v n x w k a ev en (sym (not_or v n) ∙ ap not h)

  -- what comes after is not looked at
  stays_stopped : (r : Read (List Entry)) → folded (turned good make) stopped stopped r ≡ stopped
  unfolding folded
  stays_stopped (got es later) = stays es
  stays_stopped bad = refl

  pub stops_all : (r : Read (List Entry)) {z : Progress X} → folded (turned good make) stopped stopped r ≡ z → stopped ≡ z
  stops_all r e = sym (stays_stopped r) ∙ e

  pub none_whole : (x : X) (n : ℕ) (bytes : List ℕ) → n ≡ 0 → stopped ≡ whole x (times n entry bytes)
  none_whole x n bytes h =
      sym (ap (λ (b : Bool). if not b then passed good make x (times n entry bytes) else stopped) (eq-eqb n 0 h)) ∙ not_empty n x (times n entry bytes) (times_long entry n bytes)

  pub some_whole : (x : X) (n : ℕ) (bytes : List ℕ) → (n ≡ 0 → ⊥) → passed good make x (times n entry bytes) ≡ whole x (times n entry bytes)
  some_whole x n bytes h =
      sym (ap (λ (b : Bool). if not b then passed good make x (times n entry bytes) else stopped) (ne_eqb n 0 h)) ∙ not_empty n x (times n entry bytes) (times_long entry n bytes)
