-- Present, enabled and default privileges change only by request 5, and the entries made from a report of it put them back, in every list of
-- calls. Assumes nothing.
use Prim.Native.Nat.{ℕ, ◌≤◌}
use native.Mathlib.Omega.{arith}
use mathlib.Core.Path.{◌≡◌, refl, sym, ap, ◌∙◌, subst}
use mathlib.Core.Bool.{true, false, ◌||◌}
use mathlib.Core.Logic.{inl, inr, ⊎_elim}
use mathlib.Core.List.{List, [], ◌∷◌, ◌++◌, map}
use lib.Bits.{and_le_l}
use lib.Dec.{eqb}
use borrow.Author.Tests.{eqb-true, eq-eqb}
use Rattle.rules.specs.AdjustDefaults as AdjustDefaults
use Rattle.rules.specs.AdjustGroups as AdjustGroups
use Rattle.rules.specs.AdjustPrivileges.{is_reset, valid_entry, adjusted, named, previous, report, adjusted_token, adjust}
use Rattle.rules.specs.AdjustScope as AdjustScope
use Rattle.rules.specs.Basic.{distinct}
use Rattle.rules.specs.Bits.{within}
use Rattle.rules.specs.Decision.{carried_out, with_handle, Served}
use Rattle.rules.specs.Entry.{valid_entries, Entry}
use Rattle.rules.specs.Growth.{Mem, Live, here, there}
use Rattle.rules.specs.Handle.{no_handle}
use Rattle.rules.specs.Ladder.{status}
use Rattle.rules.specs.Mask.{permits, adjust_privileges}
use Rattle.rules.specs.Number.{got, encode, encode_all, read_number, max64}
use Rattle.rules.specs.Privileges.{existing, mark_used}
use Rattle.rules.specs.Request.{follow, ◌>>=◌, end, u32, u64, parse, Request}
use Rattle.rules.specs.Restore.{but_used, Asks, Adjusts, PrivilegesKept, report_layout, word_of, was_enabled, undoing, put_back, Reordered, Switches, Restores, PutsBack, CanPutBack}
use Rattle.rules.specs.Run.{Serving, served_by, Outcome, serves, breaks, OneByOne}
use Rattle.rules.specs.Serve.{rule, decided, decision, serve}
use Rattle.rules.specs.State.{State, token_of, change_token, used_on, find_handle, handle_of}
use Rattle.rules.specs.Table.{is_live, or_else}
use Rattle.rules.specs.Token.{Token, with_privileges, with_groups, with_defaults, with_elevation, with_scope, next_modified}
use Rattle.rules.proofs.Logic.{not_both, either, mem_left, mem_right}
use Rattle.rules.proofs.Bits.{within_trans, within_le}
use Rattle.rules.proofs.Numbers.{read_encode}
use Rattle.rules.proofs.Tables.{live_slot}
use Rattle.rules.proofs.Facts.{StateFacts}
use Rattle.rules.proofs.Changes.{Carries, carries_refl, carries_trans}
use Rattle.rules.proofs.PrivilegesKept.{Sound, sound}
use Rattle.rules.proofs.Steps.{Is, token_ok}
use Rattle.rules.proofs.Kept.{changed_is, changed_token, carried_token}
use Rattle.rules.proofs.Ladder.{ladder, none_fails}
use Rattle.rules.proofs.Always.{Onward}
use Rattle.rules.proofs.Carrying.{Lasting, Or, or_lasting, Allowed, served_carries, served_alike}
use Rattle.rules.proofs.Bound.{found_here, token_here}
use Rattle.rules.proofs.Undoing.{not_reset, Good, good, undoing_keys, undone}
use Rattle.rules.proofs.Sending.{can_send}

-- ---- request 5, served

-- what a success of it has passed
record Passed (x : Serving) (h : ℕ) (es : List Entry) : Type 0 where
  known : is_live (find_handle x.before x.station h) ≡ true
  permitted : permits (handle_of x.before x.station h).mask adjust_privileges ≡ true
  allowed : (is_reset es || valid_entries (valid_entry (token_of x.before (handle_of x.before x.station h).token).privileges) es) ≡ true

passed : (x : Serving) (h : ℕ) (es : List Entry) (bytes : List ℕ) → parse x.body ≡ got (Request.privileges h es) bytes → status (served_by x) ≡ 0 → Passed x h es
unfolding served_by decision decided rule adjust with_handle
passed x h es bytes e done =
    let none = rw e at ((ladder x.before x.station x.body).passes done) in
    let a = none_fails _ _ _ none in
    let b = none_fails _ _ _ a.1 in
    record { known = a.0; permitted = b.0; allowed = (none_fails _ _ _ b.1).0 }

module _ (x : Serving) (n : ℕ) (es : List Entry) (o : Onward x) (a : Asks x n es) where
  -- its token
  asked : Is x.before n
  asked = subst (Is x.before) a.token (token_here x.before a.handle o.facts (found_here x.before x.station a.number a.handle a.found).was)

  asked_sound : Sound (token_of x.before n).privileges
  asked_sound = sound _ (token_ok x.before n o.facts asked).privileges

  -- by a handle that has the right, only the entries are left to check
  abbrev May : Type 0
  May = (is_reset es || valid_entries (valid_entry (token_of x.before n).privileges) es) ≡ true

  may : status (served_by x) ≡ 0 → May
  unfolding handle_of or_else
  may done = rw (a.found, a.token) at (passed x a.number es a.bytes a.request done).allowed

  served : May → served_by x ≡ record { state = change_token n (adjusted_token es) x.before; answer = 0 ∷ report es (token_of x.before n).privileges }
  unfolding served_by serve decision decided rule adjust with_handle handle_of is_live or_else carried_out
  served ok = rw (a.request, a.found, a.permitted, a.token, ok) refl

  -- and then it succeeds, and reports what was
  record Adjusted : Type 0 where
    succeeds : status (served_by x) ≡ 0
    is : Is (served_by x).state n
    privileges : (token_of (served_by x).state n).privileges ≡ adjusted es (token_of x.before n).privileges
    answer : (served_by x).answer ≡ 0 ∷ report es (token_of x.before n).privileges

  done : May → Adjusted
  unfolding status adjusted_token next_modified with_privileges
  done ok =
      let e = served ok in
      let g = adjusted_token es in
      record {
        succeeds = ap status e;
        is = subst (λ (y : Served). Is y.state n) (sym e) (changed_is x.before n n g asked);
        privileges =
            ap (λ (y : Served). (token_of y.state n).privileges) e
            ∙ ap (λ (t : Token). t.privileges) (changed_token x.before n g asked refl (subst (λ (y : Served). StateFacts y.state) e o.step.facts));
        answer = ap (λ (y : Served). y.answer) e;
      }

-- ---- nothing else changes present, enabled and default privileges

-- token n keeps its number and its words
unfoldable Words : ℕ → Token → Token → Type 0
Words n t u = t.number ≡ n → (u.number ≡ n) × (but_used u.privileges ≡ but_used t.privileges)

words_last : (n : ℕ) → Lasting (Words n)
unfolding Words but_used used_on with_privileges mark_used
words_last n = record {
  alike = λ t e. (e, refl);
  onward = λ t u v a b e. let p = a e in let q = b p.0 in (q.0, q.1 ∙ p.1);
  marks = λ k t e. (e, refl);
}

adjusts : (x : Serving) (n h : ℕ) (es : List Entry) (bytes : List ℕ) → parse x.body ≡ got (Request.privileges h es) bytes → status (served_by x) ≡ 0
    → (handle_of x.before x.station h).token ≡ n → Adjusts x n
unfolding handle_of
adjusts x n h es bytes e done on =
    let p = passed x h es bytes e done in
    record {
      entries = es;
      asks = record { number = h; handle = _; bytes = bytes; request = e; found = live_slot no_handle _ p.known; token = on; permitted = p.permitted };
      succeeds = done;
    }

-- request 5 is on another token, or adjusts this one
words_allowed : (x : Serving) (n : ℕ) (P : Type 0) → (Adjusts x n → P) → Allowed (Or (Words n) P) x
unfolding Or Words but_used AdjustGroups.adjusted_token AdjustScope.scoped_token AdjustDefaults.adjusted_token with_groups with_defaults with_elevation with_scope next_modified
words_allowed x n P so done r bytes e = record {
  privileges = λ h es q t k.
      ⊎_elim (λ i. inr (so (adjusts x n h es bytes (e ∙ ap (λ (z : Request). got z bytes) q) done (sym k ∙ eqb-true t.number n i))))
      (λ i. inl (λ j. absurd (not_both (eq-eqb t.number n j) i)))
      (either (eqb t.number n));
  groups = λ h es q t k. inl (λ j. (j, refl));
  scope = λ h v q t k. inl (λ j. (j, refl));
  defaults = λ h o g f dacl q t k. inl (λ j. (j, refl));
  link = λ h m session q. (λ t k. inl (λ j. (j, refl)), λ t k. inl (λ j. (j, refl)));
}

pub privileges_kept : (x : Serving) → Onward x → PrivilegesKept x
unfolding PrivilegesKept Words
privileges_kept x o t u mt mu q =
    let n = t.number in
    ⊎_elim (λ k. inl (k refl).1) (λ k. inr k) (served_alike (Words n) (Adjusts x n) (words_last n) x o (words_allowed x n (Adjusts x n) (λ k. k)) t u mt mu q)

-- ---- the entries made from a report

-- the enabled word of it
read_word : (a b : ℕ) → a ≤ max64 → b ≤ max64 → was_enabled (0 ∷ encode_all (a ∷ b ∷ [])) ≡ b
unfolding was_enabled word_of report_layout ◌>>=◌ follow u32 u64 end encode_all read_number
read_word a b ha hb = rw (read_encode a max64 (encode b ++ []) ha, read_encode b max64 [] hb) refl

-- a word of existing privileges, where it is named, fits a u64
fits_64 : (es : List Entry) (a : ℕ) → within a existing ≡ true → is_reset es ≡ false → previous es a ≤ max64
unfolding previous
fits_64 es a h r = rw r (omega (arith, within_le a existing h, and_le_l a (named es)))

module _ (x : Serving) (n : ℕ) (es : List Entry) (o : Onward x) (a : Switches x n es) where
  first : Adjusted x n es o a.asks
  first = done x n es o a.asks (may x n es o a.asks a.succeeds)

  entries : put_back es (served_by x).answer ≡ map (undoing (previous es (token_of x.before n).privileges.enabled)) es
  unfolding put_back report
  entries =
      let p = (token_of x.before n).privileges in
      let s = asked_sound x n es o a.asks in
      let r = not_reset es a.only in
      ap (λ (w : ℕ). map (undoing w) es)
      (ap was_enabled first.answer ∙ read_word (previous es p.present) (previous es p.enabled) (fits_64 es p.present s.present r) (fits_64 es p.enabled (within_trans p.enabled p.present existing s.enabled s.present) r))

  fit : Good (token_of x.before n).privileges es
  fit = good _ es a.only (may x n es o a.asks a.succeeds)

-- the request's own order is one
pub own_order : (x : Serving) (n : ℕ) (es : List Entry) → Onward x → Switches x n es → Reordered (put_back es (served_by x).answer) (put_back es (served_by x).answer)
unfolding put_back
own_order x n es o a = record { only = λ e m. m; each = λ e m. m; once = ap distinct (undoing_keys (was_enabled (served_by x).answer) es) ∙ (fit x n es o a).apart }

pub can_put_back_lem : (x : Serving) → Onward x → CanPutBack x
unfolding CanPutBack put_back
can_put_back_lem x o n es fs a r h in32 = can_send (was_enabled (served_by x).answer) (token_of x.before n).privileges es fs (fit x n es o a) r h in32

-- ---- from one body to a later one

-- token n's words stay
abbrev Stays : ℕ → Token → Token → Type 0
Stays n = Or (Words n) ⊥

stays : (n : ℕ) → Lasting (Stays n)
stays n = or_lasting (Words n) ⊥ (words_last n)

restores : (x y : Serving) (n : ℕ) (es fs : List Entry) → Onward x → Onward y → Switches x n es → Carries (Stays n) (served_by x).state.tokens y.before.tokens
    → Reordered (put_back es (served_by x).answer) fs → Asks y n fs → Restores x y n
unfolding Live Or Words
restores x y n es fs ox oy a kept order b =
    let p = (token_of x.before n).privileges in
    let q = (token_of y.before n).privileges in
    let e = first x n es ox a in
    let k = carried_token (Stays n) (served_by x).state y.before n ox.step.facts kept e.is (asked y n _ oy b) in
    let now : but_used q ≡ but_used (adjusted es p) = ⊎_elim (λ w. (w e.is.number).1 ∙ ap but_used e.privileges) (λ z. absurd z) k in
    let back = undone es fs p q a.only (fit x n es ox a) (subst (λ (gs : List Entry). Reordered gs fs) (entries x n es ox a) order) (asked_sound x n es ox a.asks).enabled now in
    let l = done y n fs oy b back.valid in
    record { succeeds = l.succeeds; live = l.is.was; words = ap but_used l.privileges ∙ back.words }

-- what begins after the first outcomes
beyond : (xs ys : List Outcome) (d e : State) → OneByOne d (xs ++ ys) e → (c : State) × OneByOne c ys e
unfolding OneByOne
beyond [] ys d e o = (d, o)
beyond (breaks s ∷ xs) ys d e o = beyond xs ys d e o
beyond (serves z ∷ xs) ys d e o = beyond xs ys (served_by z).state e o.1

-- where no success of request 5 is on token n, its words stay
between : (n : ℕ) (zs later : List Outcome) (y : Serving) (d e : State) → ((z : Serving) → Mem (serves z) zs → Onward z × (Adjusts z n → ⊥))
    → OneByOne d (zs ++ (serves y ∷ later)) e → Carries (Stays n) d.tokens y.before.tokens
unfolding OneByOne
between n [] later y d e h o = subst (Carries (Stays n) d.tokens) o.0.tokens (carries_refl (Stays n) (stays n).alike d.tokens)
between n (breaks s ∷ zs) later y d e h o = between n zs later y d e (λ z m. h z (there m)) o
between n (serves z ∷ zs) later y d e h o =
    let k = h z (here refl) in
    let one = served_carries (Stays n) (stays n) z k.0 (words_allowed z n ⊥ k.1) in
    carries_trans (Stays n) (stays n).onward (rw o.0.tokens one) (between n zs later y (served_by z).state e (λ z m. h z (there m)) o.1)

pub puts_back_lem : (os : List Outcome) (d e : State) → ((z : Serving) → Mem (serves z) os → Onward z) → OneByOne d os e → PutsBack os
unfolding PutsBack OneByOne
puts_back_lem os d e onward o earlier mid later x y n es fs split a none order b =
    let rest = mid ++ (serves y ∷ later) in
    let known : (z : Serving) → Mem (serves z) (earlier ++ (serves x ∷ rest)) → Onward z = λ z m. onward z (rw split m) in
    let r = beyond earlier (serves x ∷ rest) d e (rw split at o) in
    let kept = between n mid later y (served_by x).state e (λ z m. (known z (mem_right earlier (there (mem_left (serves y ∷ later) m))), none z m)) r.1.1 in
    restores x y n es fs (known x (mem_right earlier (here refl))) (known y (mem_right earlier (there (mem_right mid (here refl))))) a kept order b
