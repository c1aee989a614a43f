-- Request 18: how it ends. Assumes nothing.
use Rattle.std.proofs.Common.{ℕ, ◌+◌, ◌-◌, ◌≡◌, refl, sym, ap, ap₂, subst, ◌∙◌, Bool, true, false, not, List, [], ◌∷◌, map, take, drop, get_or, arith}
use Rattle.std.specs.Prelude.{Option, Some, None, Result, Ok, Err, min, if◌then◌else◌}
use Rattle.std.specs.Option.{ok_or}
use Rattle.std.specs.Int.{from_bool}
use Rattle.rules.specs.Number.{Read, got, bad, encode}
use Rattle.rules.specs.Mask as mask
use Rattle.rules.specs.Refusal.{bad_field}
use Rattle.rules.specs.Handle as handles
use Rattle.rules.specs.Token.{Token, max_groups, new_token}
use Rattle.rules.specs.Privileges.{granted}
use Rattle.rules.specs.Condition.{Condition, holds, known, max_depth}
use Rattle.rules.specs.Request as requests
use Rattle.rules.specs.Request.{follow, end, condition}
use Rattle.rules.specs.Head as Head
use Rattle.rules.specs.Memory.{token_row, head_words, unpack, token_at, privileges_at}
use Rattle.rules.specs.Valid.{valid, token_valid}
use Rattle.rules.specs.State as state
use Rattle.rules.specs.State.{State, token_slots}
use Rattle.rules.specs.Decision.{Decision, Served, need◌else◌then◌, success, carried_out}
use Rattle.rules.specs.Evaluate.{evaluate}
use Rattle.rules.specs.Serve.{rule, decided}
use Rattle.rules.proofs.Rows.{token_back}
use Rattle.rules.proofs.Evaluating.{holds_alike}
use Rattle.handle.specs.declared.Handle.{Handle}
use Rattle.token.proofs.Changing.{group_words, group_words_read}
use Rattle.state.specs.TokenCalls.{lent}
use Rattle.state.specs.ReleaseFacts.{PartsIn}
use Rattle.state.proofs.InPlace.{in_slot, lent_row}
use Rattle.answer.specs.declared.Answer.TheVariants as answers
use Rattle.answer.specs.declared.refusal.Refusal.{Refusal}
use Rattle.answer.specs.declared.refusal.Refusal.TheVariants as refusal
use Rattle.decide.specs.declared.located.Located.{Located}
use Rattle.decide.specs.declared.outcome.Outcome.{Outcome}
use Rattle.decide.specs.Carried.{ends, Carried}
use Rattle.decide.specs.Located.{LocatedBy}
use Rattle.decide.proofs.Deciding as deciding
use Rattle.decide.proofs.Deciding.{refuses, ends_with, carried_as}
use Rattle.decide.proofs.Locating.{locating_refuses}
use Rattle.decide.proofs.LookupLaws.{goes_on}
use Rattle.condition.specs.declared.Told.{Told}
use Rattle.condition.specs.Told.{asked_of, outcome, read_whole, verdict_of}
use Rattle.evaluate.specs.Evaluate.{asks, asked_in}

-- ---- the row

-- the words that are lent of a row's groups
same_words : (n : ℕ) (ws : List ℕ) → group_words n ws ≡ take n (drop head_words ws)
same_words n ws = let e : head_words + n - head_words ≡ n = omega arith in ap (λ (m : ℕ). take m (drop head_words ws)) e

pub row_evaluated : (bytes ws : List ℕ) {w n : ℕ} {r : Option Told} → w ≡ get_or ws Head.enabled 0 → n ≡ min (get_or ws Head.group_count 0) max_groups
    → r ≡ verdict_of (asked_of w (group_words n ws)) (read_whole bytes) → r ≡ verdict_of (asked_in ws) (read_whole bytes)
row_evaluated bytes ws {w} {n} ew en er =
    er ∙ ap₂ (λ (x : ℕ) (l : List ℕ). verdict_of (asked_of x l) (read_whole bytes)) ew (same_words n ws ∙ ap (λ (m : ℕ). take m (drop head_words ws)) en)

-- the row of a valid token is asked as the token is
row_alike : (t : Token) {ws : List ℕ} → token_valid t ≡ true → ws ≡ token_row t → (c : Condition) → holds (asked_in ws) c ≡ holds t c
unfolding asked_of new_token granted token_at privileges_at
row_alike t {ws} v e = holds_alike (asked_in ws) t enabled groups
  where
    enabled : (asked_in ws).privileges.enabled ≡ t.privileges.enabled
    enabled = ap (λ (l : List ℕ). get_or l Head.enabled 0) e ∙ ap (λ (x : Token). x.privileges.enabled) (token_back t v)

    groups : (asked_in ws).groups ≡ t.groups
    groups = ap (map unpack) (sym (same_words (min (get_or ws Head.group_count 0) max_groups) ws)) ∙ group_words_read t v e refl

-- ---- the condition

-- what a condition is refused for, if anything
abbrev pub refusal_for : Option Told → Option Refusal
refusal_for None = Some refusal.Malformed
refusal_for (Some o) = if o.known then None else Some refusal.BadField

-- it does not depend on the row
pub refused_alike : (t u : Token) (r : Read Condition) → refusal_for (verdict_of t r) ≡ refusal_for (verdict_of u r)
unfolding verdict_of outcome
refused_alike t u bad = refl
refused_alike t u (got c after) = refl

-- it was read, to the last byte
record WasRead (t : Token) (bytes : List ℕ) (o : Told) : Type 0 where
  c : Condition
  is : condition max_depth bytes ≡ got c []
  told : o ≡ outcome t c

was_read : (t : Token) (bytes : List ℕ) (o : Told) → Some o ≡ verdict_of t (read_whole bytes) → WasRead t bytes o
unfolding verdict_of read_whole follow end
was_read t bytes o e = by (condition max_depth bytes) refl e
  where
    by : (r : Read Condition) → condition max_depth bytes ≡ r → Some o ≡ verdict_of t (follow r end) → WasRead t bytes o
    by bad q d = cc
    by (got c []) q d = record { c = c; is = q; told = cc }
    by (got c (b ∷ after)) q d = cc

asks_it : (n : ℕ) (bytes : List ℕ) (c : Condition) → condition max_depth bytes ≡ got c [] → asks n bytes ≡ got (requests.evaluate n c) []
unfolding asks follow end
asks_it n bytes c e = rw e

asks_nothing : (t : Token) (n : ℕ) (bytes : List ℕ) → None ≡ verdict_of t (read_whole bytes) → asks n bytes ≡ bad
unfolding verdict_of read_whole asks follow end
asks_nothing t n bytes e = by (condition max_depth bytes) e
  where
    by : (r : Read Condition) → None ≡ verdict_of t (follow r end) → follow r (λ c. end (requests.evaluate n c)) ≡ bad
    by bad d = refl
    by (got c []) d = cc
    by (got c (b ∷ after)) d = refl

-- ---- the request

-- the rule, once the handle is found
abbrev rest : Condition → State → Token → Decision
rest c σ t =
    need known c else bad_field then
    success σ (encode (if holds t c then 1 else 0))

-- v is what is told of the row in slot i
module _ (s n : ℕ) (bytes : List ℕ) (hs : List Handle) (cs ts ds : List ℕ) (i : ℕ) (v : Option Told) (row : v ≡ verdict_of (asked_in (lent i ts)) (read_whole bytes)) where
  abbrev Comes : Result Outcome Refusal → Type 0
  Comes r = Carried (λ σ. decided σ s (asks n bytes)) ts ds hs cs ts ds cs r

  pub no_condition : v ≡ None → (y : Refusal) → Err y ≡ ok_or v refusal.Malformed → Comes (Err y)
  unfolding decided carried_out
  no_condition e y q =
      let f = q ∙ ap (λ (z : Option Told). ok_or z refusal.Malformed) e in
      let k : y ≡ refusal.Malformed = cc in
      subst (λ (z : Refusal). Comes (Err z)) (sym k)
      (refuses refusal.Malformed (λ σ ok p. rw (asks_nothing (asked_in (lent i ts)) n bytes (sym e ∙ row))))

  -- a condition is decided as its rule says
  module _ (o : Told) (e : v ≡ Some o) where
    read : WasRead (asked_in (lent i ts)) bytes o
    read = was_read (asked_in (lent i ts)) bytes o (sym e ∙ row)

    abbrev c : Condition
    c = read.c

    by_rule : {r : Result Outcome Refusal} → Carried (λ σ. evaluate σ s n c) ts ds hs cs ts ds cs r → Comes r
    unfolding decided rule
    by_rule x = carried_as (λ σ ok p. ap (λ (q : Read requests.Request). carried_out σ (decided σ s q)) (asks_it n bytes c read.is)) x

    pub no_handle : (y : Refusal) → LocatedBy s n mask.query hs ts (Err y) → Comes (Err y)
    unfolding evaluate
    no_handle y g = by_rule (locating_refuses g (λ σ h t. rest c σ t))

    known_is : known c ≡ o.known
    unfolding outcome
    known_is = sym (ap (λ (z : Told). z.known) read.told)

    module _ (x : Located) (g : LocatedBy s n mask.query hs ts (Ok x)) (slot : i ≡ x.slot) where
      module _ (σ : State) (ok : valid σ ≡ true) (p : PartsIn σ ts ds hs cs) where
        abbrev own : Token
        own = state.token_of σ x.handle.token

        own_row : lent i ts ≡ token_row own
        own_row = ap (λ (k : ℕ). lent k ts) slot ∙ lent_row x.handle.token g.there.slot ok p.tokens g.there.inside

        value_is : holds own c ≡ o.value
        unfolding outcome
        value_is =
            sym (ap (λ (z : Told). z.value) read.told ∙ row_alike own (in_slot x.handle.token g.there.slot ok p.tokens g.there.inside).is_valid own_row c)

        of_token : carried_out σ (evaluate σ s n c) ≡ carried_out σ (rest c σ own)
        unfolding evaluate
        of_token =
            goes_on σ s n mask.query (λ h t. rest c σ t) (g.refusal σ ok p.handles p.tokens)
            ∙ ap (λ (h : handles.Handle). carried_out σ (rest c σ (state.token_of σ h.token))) (sym (g.there.handle σ ok p.handles))

      pub unknown : not o.known ≡ true → Comes (Err refusal.BadField)
      unknown f = by_rule (refuses refusal.BadField (λ σ ok p. of_token σ ok p ∙ deciding.fails (known c) σ bad_field _ (ap not known_is ∙ f)))

      pub value : not o.known ≡ false → (w : ℕ) → w ≡ from_bool o.value → Comes (Ok (ends (answers.Value w)))
      unfolding carried_out
      value f w ew = by_rule
          (ends_with (answers.Value w) (λ σ ok p. tt) (λ σ ok p. rw (comes σ ok p) p) (λ σ ok p. sym (ap (λ (z : Served). z.answer) (comes σ ok p))))
        where
          bit : (b : Bool) → (if b then 1 else 0) ≡ from_bool b
          bit true = refl
          bit false = refl

          comes : (σ : State) → valid σ ≡ true → PartsIn σ ts ds hs cs → carried_out σ (evaluate σ s n c) ≡ record { state = σ; answer = 0 ∷ encode w }
          comes σ ok p =
              of_token σ ok p
              ∙ deciding.holds (known c) σ bad_field _ (ap not known_is ∙ f)
              ∙ ap (λ (k : ℕ). record { state = σ; answer = 0 ∷ encode k }) (bit (holds (own σ ok p) c) ∙ ap from_bool (value_is σ ok p) ∙ sym ew)
