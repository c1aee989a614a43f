-- Every answer fits: on a valid state each is one valid frame of at most 1,024 bytes. Assumes nothing.
use Prim.Native.Nat.{ℕ, zero, suc, ◌+◌, ◌*◌, ◌^◌, ◌≤◌, ◌<◌}
use native.Mathlib.Omega.{arith}
use mathlib.Core.Path.{◌≡◌, refl, ap, subst, sym}
use mathlib.Core.Bool.{Bool, true, false}
use mathlib.Core.Logic.{◌⊎◌, ⊎_elim}
use mathlib.Core.List.{List, [], ◌∷◌, ◌++◌}
use lib.Bits.{bit_and, and_le_l}
use lib.Pow.{pow_mono}
use native.Mathlib.Nat.{pow-suc}
use lib.Dec.{leb}
use lib.ListN.{length, get_or, take, drop, length-append, length-take}
use borrow.Author.Tests.{ltb-true, leb-true}
use Rattle.rules.specs.Given.{Given}
use Rattle.rules.specs.Acting.{ActsFor}
use Rattle.rules.specs.AdjustDefaults as AdjustDefaults
use Rattle.rules.specs.AdjustGroups as AdjustGroups
use Rattle.rules.specs.AdjustGroups.{enabled_bits, report_words, enabled_words}
use Rattle.rules.specs.AdjustPrivileges as AdjustPrivileges
use Rattle.rules.specs.AdjustScope as AdjustScope
use Rattle.rules.specs.Basic.{implies, both_or_neither, all}
use Rattle.rules.specs.Bits.{has, within}
use Rattle.rules.specs.Condition.{Condition, holds}
use Rattle.rules.specs.Create as Create
use Rattle.rules.specs.Create.{valid_integrity}
use Rattle.rules.specs.Decision.{carried_out, with_handle, issued, Decision, need◌else◌then◌, success}
use Rattle.rules.specs.Duplicate as Duplicate
use Rattle.rules.specs.Entry.{Entry}
use Rattle.rules.specs.Evaluate as Evaluate
use Rattle.rules.specs.Frame.{max_answer, frame}
use Rattle.rules.specs.Group.{no_group, is_enabled, is_deny_only, Group}
use Rattle.rules.specs.Growth.{Live, Mem, here, there}
use Rattle.rules.specs.Handle.{Handle}
use Rattle.rules.specs.Impersonate as Impersonate
use Rattle.rules.specs.Install as Install
use Rattle.rules.specs.Link as Link
use Rattle.rules.specs.Number.{encode, encode_all, Read, got, bad}
use Rattle.rules.specs.OpenClose as OpenClose
use Rattle.rules.specs.Privileges.{existing, tcb}
use Rattle.rules.specs.Query as Query
use Rattle.rules.specs.Refusal.{refusal, capacity_below, stream_broken}
use Rattle.rules.specs.Request.{group, parse, Request}
use Rattle.rules.specs.Restrict as Restrict
use Rattle.rules.specs.Run.{after}
use Rattle.rules.specs.Serve.{rule, decided, decision, serve}
use Rattle.rules.specs.State.{with_tokens, client_at, number_of, token_of, held, put_token, change_token, used, handle_of, entering, with_sids, State}
use Rattle.rules.specs.Station.{no_client, Client}
use Rattle.rules.specs.Token.{primary, impersonation, max_groups, sid_at, Token}
use Rattle.rules.specs.Valid.{is32, is64, between, identity_valid, group_valid, limits_valid, defaults_valid}
use Rattle.rules.specs.Ladder.{status}
use Rattle.rules.specs.Throughout.{IsAnswer}
use Rattle.rules.specs.AnyMemory.{statuses_in, statuses}
use Rattle.rules.proofs.Logic.{and_l, and_r, all_mem, map_mem}
use Rattle.rules.proofs.Bits.{within_trans, within_le}
use Rattle.rules.proofs.Numbers.{encode_width}
use Rattle.rules.proofs.Tables.{on_if}
use Rattle.rules.proofs.Facts.{TokenFacts, StateFacts, few_groups, each_group, between_high}
use Rattle.rules.proofs.PrivilegesKept.{sound}
use Rattle.rules.proofs.Steps.{token_ok, Found, found_handle, enter_handle}
use Rattle.rules.proofs.Kept.{in_force_lem}
use Rattle.rules.proofs.Acting.{acting}
use Rattle.rules.proofs.Frames.{frame_whole}
use Rattle.rules.proofs.Rows.{integrity32}

-- a word takes at most ten bytes, a number of 32 bits at most five
pub word : (n : ℕ) → n < 2 ^ 64 → length (encode n) ≤ 10
word n h = encode_width 64 9 n (omega arith) h

-- numbers of w bits, one after the other
pub many : (w k : ℕ) → w ≤ 7 * suc k → (ns : List ℕ) → ((n : ℕ) → Mem n ns → n < 2 ^ w) → length (encode_all ns) ≤ length ns * suc k
unfolding encode_all
many w k h [] f = omega arith
many w k h (n ∷ ns) f =
    let one = encode_width w k n h (f n (here refl)) in
    let rest = many w k h ns (λ m i. f m (there i)) in
    simp length-append (omega arith)

five : (a b c d e : ℕ) → a < 2 ^ 64 → b < 2 ^ 64 → c < 2 ^ 64 → d < 2 ^ 64 → e < 2 ^ 64 → length (encode_all (a ∷ b ∷ c ∷ d ∷ e ∷ [])) ≤ 50
unfolding encode_all
five a b c d e ha hb hc hd he = simp length-append (omega (arith, word a ha, word b hb, word c hc, word d hd, word e he))

four : (a b c d : ℕ) → a < 2 ^ 64 → b < 2 ^ 64 → c < 2 ^ 64 → d < 2 ^ 64 → length (encode_all (a ∷ b ∷ c ∷ d ∷ [])) ≤ 40
unfolding encode_all
four a b c d ha hb hc hd = simp length-append (omega (arith, word a ha, word b hb, word c hc, word d hd))

-- ---- a valid token's numbers

lt64 : (n : ℕ) → is64 n ≡ true → n < 2 ^ 64
unfolding is64
lt64 n h = ltb-true n (2 ^ 64) h

lt32 : (n : ℕ) → is32 n ≡ true → n < 2 ^ 32
unfolding is32
lt32 n h = ltb-true n (2 ^ 32) h

known : (w : ℕ) → within w existing ≡ true → w < 2 ^ 64
known w h = omega (arith, within_le w existing h)

get_or_all : {A : Type 0} (f : A → Bool) (xs : List A) (z : A) (i : ℕ) → f z ≡ true → all f xs ≡ true → f (get_or xs i z) ≡ true
unfolding all
get_or_all f [] z i h k = h
get_or_all f (x ∷ xs) z zero h k = and_l (f x) _ k
get_or_all f (x ∷ xs) z (suc i) h k = get_or_all f xs z i h (and_r (f x) (all f xs) k)

group_numbers_lem : (g : Group) → group_valid g ≡ true → (g.sid < 2 ^ 32) × (g.attributes < 2 ^ 32)
unfolding group_valid
group_numbers_lem g h =
    let sid : is32 g.sid ≡ true = search (and_l, and_r) in
    let attributes : within g.attributes 0xC000001F ≡ true = search (and_l, and_r) in
    (lt32 g.sid sid, omega (arith, within_le g.attributes 0xC000001F attributes))

pair_numbers : (gs : List Group) → all group_valid gs ≡ true → (n : ℕ) → Mem n (Query.pairs gs) → n < 2 ^ 32
unfolding Query.pairs all
pair_numbers [] h n x'' = elim x'' [ ]
pair_numbers (g ∷ gs) h n (here e) = rw e (group_numbers_lem g (and_l (group_valid g) _ h)).0
pair_numbers (g ∷ gs) h n (there (here e)) = rw e (group_numbers_lem g (and_l (group_valid g) _ h)).1
pair_numbers (g ∷ gs) h n (there (there m)) = pair_numbers gs (and_r (group_valid g) (all group_valid gs) h) n m

length_pairs : (gs : List Group) → length (Query.pairs gs) ≡ length gs * 2
unfolding Query.pairs
length_pairs [] = refl
length_pairs (g ∷ gs) = let e = length_pairs gs in omega arith

no_group_lem : group_valid no_group ≡ true
unfolding group_valid no_group is32 within both_or_neither has implies is_deny_only
no_group_lem = refl

-- ---- what a query answers: at most 129 numbers of five bytes, a count and 64 Query.pairs

abbrev most : ℕ
most = 645

infixr 4 ◌and◌
data Short : List (List ℕ) → Type 0 where
  nothing : Short []
  ◌and◌ : {x : List ℕ} {xs : List (List ℕ)} → length x ≤ most → Short xs → Short (x ∷ xs)

pick : (xs : List (List ℕ)) (i : ℕ) → Short xs → length (get_or xs i []) ≤ most
pick [] i h = omega arith
pick (x ∷ xs) zero (◌and◌ h hs) = h
pick (x ∷ xs) (suc i) (◌and◌ h hs) = pick xs i hs

module _ (t : Token) (number : t.number < 2 ^ 64) (f : TokenFacts t) where
  -- the numbers of the classes
  record Numbers : Type 0 where
    user : t.identity.user < 2 ^ 64
    session : t.identity.session < 2 ^ 64
    type : t.identity.type < 2 ^ 64
    level : t.identity.level < 2 ^ 64
    integrity : t.identity.integrity < 2 ^ 64

  numbers : Numbers
  unfolding identity_valid
  numbers =
      let h = f.identity in
      let u : is32 t.identity.user ≡ true = search (and_l, and_r) in
      let s : is64 t.identity.session ≡ true = search (and_l, and_r) in
      let i : valid_integrity t.identity.integrity ≡ true = search (and_l, and_r) in
      let y : between primary impersonation t.identity.type ≡ true = search (and_l, and_r) in
      let l : leb t.identity.level 3 ≡ true = search (and_l, and_r) in
      record {
        user = omega (arith, lt32 t.identity.user u);
        session = lt64 t.identity.session s;
        type = omega (arith, between_high primary impersonation t.identity.type y);
        level = omega (arith, leb-true t.identity.level 3 l);
        integrity = omega (arith, lt32 t.identity.integrity (integrity32 t.identity.integrity i));
      }

  groups_few : length t.groups ≤ max_groups
  groups_few = few_groups t.groups f.groups

  groups_all : all group_valid t.groups ≡ true
  groups_all = each_group t.groups f.groups

  sid_word : (i : ℕ) → sid_at t i < 2 ^ 64
  unfolding sid_at
  sid_word zero = numbers.user
  sid_word (suc k) = omega (arith, (group_numbers_lem (get_or t.groups k no_group) (get_or_all group_valid t.groups no_group k no_group_lem groups_all)).0)

  of_groups : length (encode_all (length t.groups ∷ Query.pairs t.groups)) ≤ most
  of_groups =
      let l = many 32 4 (omega arith) (length t.groups ∷ Query.pairs t.groups) each in
      omega (arith, length_pairs t.groups, groups_few)
    where
      each : (n : ℕ) → Mem n (length t.groups ∷ Query.pairs t.groups) → n < 2 ^ 32
      each n (here e) = omega (arith, groups_few)
      each n (there m) = pair_numbers t.groups groups_all n m

  of_words : length (encode_all (Query.words t.privileges)) ≤ 40
  unfolding Query.words
  of_words =
      let s = sound t.privileges f.privileges in
      let inside : (w : ℕ) → within w t.privileges.present ≡ true → within w existing ≡ true = λ w h. within_trans w _ existing h s.present in
      four _ _ _ _ (known _ s.present) (known _ (inside _ s.enabled)) (known _ (inside _ s.by_default)) (known _ s.used)

  of_numbers : length (encode_all (t.number ∷ t.identity.session ∷ t.modified ∷ t.identity.type ∷ t.identity.root ∷ [])) ≤ 50
  of_numbers = five _ _ _ _ _ number numbers.session (lt64 t.modified f.modified) numbers.type (omega (arith, leb-true t.identity.root t.number f.root))

  of_dacl : length (encode (length t.defaults.dacl) ++ t.defaults.dacl) ≤ 266
  unfolding defaults_valid
  of_dacl =
      let h = f.defaults in
      let few : leb (length t.defaults.dacl) 256 ≡ true = search (and_l, and_r) in
      let l = leb-true (length t.defaults.dacl) 256 few in
      let k = word (length t.defaults.dacl) (omega arith) in
      simp length-append (omega arith)

  of_restricting : length (encode_all (length t.limits.restricting ∷ t.limits.restricting)) ≤ 170
  unfolding limits_valid
  of_restricting =
      let sids = t.limits.restricting in
      let few = leb-true (length sids) 16 (and_l _ (all is32 sids) f.limits) in
      let l = many 64 9 (omega arith) (length sids ∷ sids) (each few (and_r (leb (length sids) 16) _ f.limits)) in
      omega arith
    where
      each : length t.limits.restricting ≤ 16 → all is32 t.limits.restricting ≡ true → (n : ℕ) → Mem n (length t.limits.restricting ∷ t.limits.restricting) → n < 2 ^ 64
      each few ok n (here e) = omega arith
      each few ok n (there m) = omega (arith, lt32 n (all_mem is32 t.limits.restricting ok m))

  pub class_fits : (class : ℕ) → length (Query.class_bytes t class) ≤ most
  unfolding Query.class_bytes Query.classes
  class_fits class =
      let elevation : t.elevation < 2 ^ 64 = omega (arith, between_high 1 3 t.elevation f.elevation) in
      let scope = lt32 t.scope f.scope in
      pick ([] ∷ Query.classes t) class
      ((omega arith) and one _ numbers.user and of_groups and (let l = of_words in omega arith)
      and one _ (sid_word t.defaults.owner) and one _ (sid_word t.defaults.primary_group) and (let l = of_dacl in omega arith)
      and one _ numbers.type and one _ numbers.level and (let l = of_numbers in omega arith) and (let l = of_restricting in omega arith)
      and one _ (omega arith) and one _ elevation and one _ numbers.integrity and nothing)
    where
      one : (n : ℕ) → n < 2 ^ 64 → length (encode n) ≤ most
      one n h = let l = word n h in omega arith

-- ---- what request 6 answers: sixteen words

pub bits_below : (gs : List Group) → enabled_bits gs < 2 ^ length gs
unfolding enabled_bits
bits_below [] = omega arith
bits_below (g ∷ gs) =
    let rest = bits_below gs in
    on_if (λ (b : ℕ). b + 2 * enabled_bits gs < 2 ^ suc (length gs)) (is_enabled g) 1 0 (λ t. omega (arith, pow-suc 2 (length gs))) (λ t. omega (arith, pow-suc 2 (length gs)))

words_below : (k : ℕ) (gs : List Group) (n : ℕ) → Mem n (enabled_words k gs) → n < 2 ^ 64
unfolding enabled_words
words_below zero gs n x' = elim x' [ ]
words_below (suc k) gs n (here e) = let l = bits_below (take 64 gs) in let short : length (take 64 gs) ≤ 64 = simp length-take (omega arith) in omega (arith, pow_mono short)
words_below (suc k) gs n (there m) = words_below k (drop 64 gs) n m

length_words : (k : ℕ) (gs : List Group) → length (enabled_words k gs) ≡ k
unfolding enabled_words
length_words zero gs = refl
length_words (suc k) gs = ap suc (length_words k (drop 64 gs))

words_fit : (gs : List Group) → length (encode_all (enabled_words report_words gs)) ≤ most
words_fit gs = let l = many 64 9 (omega arith) (enabled_words report_words gs) (words_below report_words gs) in omega (arith, length_words report_words gs)

-- ---- what a request answers

-- where its checks pass, its answer is short, and so is each refusal's report
unfoldable Fits : Decision → Type 0
Fits (need◌else◌then◌ b r rest) = (length r.report ≤ most) × (b ≡ true → Fits rest)
Fits (success after bytes) = length bytes ≤ most

fits : (σ : State) (x : Decision) → Fits x → length (carried_out σ x).answer ≤ suc most
unfolding Fits carried_out
fits σ (need◌else◌then◌ true r rest) h = fits σ rest (h.1 refl)
fits σ (need◌else◌then◌ false r rest) h = let l = h.0 in omega arith
fits σ (success after bytes) h = omega arith

module _ (σ : State) (f : StateFacts σ) (s : ℕ) where
  next_handle_lem : length (encode σ.handles.next) ≤ most
  next_handle_lem = let h = f.loose.handles.high in let l = word σ.handles.next (omega arith) in omega arith

  on_handle : (n right : ℕ) (go : Handle → Token → Decision)
      → (Found σ (handle_of σ s n) → Fits (go (handle_of σ s n) (token_of σ (handle_of σ s n).token))) → Fits (with_handle σ s n right go)
  unfolding with_handle Fits refusal
  on_handle n right go k = (omega arith, λ known. (omega arith, λ permitted. k (found_handle σ s n f known)))

  live_64 : (t : Token) → Live t σ → t.number < 2 ^ 64
  unfolding Live number_of
  live_64 t m =
      let below = (f.loose.tokens.given t.number (map_mem number_of m)).1 in
      let high = f.loose.tokens.high in
      omega arith

  number_64 : (n : ℕ) → Found σ (handle_of σ s n) → (token_of σ (handle_of σ s n).token).number < 2 ^ 64
  unfolding Live
  number_64 n k = live_64 (token_of σ (handle_of σ s n).token) k.token.was

  queries : (n class capacity : ℕ) → Fits (Query.query σ s n class capacity)
  unfolding Query.query Fits refusal capacity_below
  queries n class capacity = on_handle n _ _ λ k.
      let t = token_of σ (handle_of σ s n).token in
      let l = class_fits t (number_64 n k) (token_ok σ (handle_of σ s n).token f k.token) class in
      let report = word (length (Query.class_bytes t class)) (omega arith) in
      (omega arith, λ ok. (omega arith, λ enough. l))

  previous_fits : (es : List Entry) (w : ℕ) → w < 2 ^ 64 → length (encode (AdjustPrivileges.previous es w)) ≤ 10
  unfolding AdjustPrivileges.previous
  previous_fits es w h =
      on_if (λ (x : ℕ). length (encode x) ≤ 10) (AdjustPrivileges.is_reset es) w (bit_and w (AdjustPrivileges.named es))
      (λ t. word w h)
      (λ t. word (bit_and w (AdjustPrivileges.named es)) (omega (arith, and_le_l w (AdjustPrivileges.named es))))

  adjusts_privileges : (n : ℕ) (es : List Entry) → Fits (AdjustPrivileges.adjust σ s n es)
  unfolding AdjustPrivileges.adjust AdjustPrivileges.report encode_all Fits refusal
  adjusts_privileges n es = on_handle n _ _ λ k.
      let p = (token_of σ (handle_of σ s n).token).privileges in
      let v = sound p (token_ok σ (handle_of σ s n).token f k.token).privileges in
      let here = previous_fits es p.present (known p.present v.present) in
      let on = previous_fits es p.enabled (known p.enabled (within_trans p.enabled p.present existing v.enabled v.present)) in
      (omega arith, λ ok. simp length-append (omega arith))

  adjusts_groups : (n : ℕ) (es : List Entry) → Fits (AdjustGroups.adjust σ s n es)
  unfolding AdjustGroups.adjust Fits refusal
  adjusts_groups n es = on_handle n _ _ λ k. (omega arith, λ ok. (omega arith, λ may. words_fit (token_of σ (handle_of σ s n).token).groups))

  -- a level up to that of a live token
  level_64 : (t : Token) → Live t σ → (n : ℕ) → n ≤ t.identity.level → n < 2 ^ 64
  unfolding Live
  level_64 t m n h = let k = (numbers t (live_64 t m) (f.loose.each_token t m)).level in omega arith

  impersonates : (n : ℕ) → Fits (Impersonate.impersonate σ s n)
  unfolding Impersonate.impersonate Fits refusal Live
  impersonates n = on_handle n _ _ λ k.
      let t = token_of σ (handle_of σ s n).token in
      let level = Impersonate.in_force σ s t in
      let l = word level (level_64 t k.token.was level (in_force_lem σ s t)) in
      (omega arith, λ ok. (omega arith, λ gate. omega arith))

  -- the number and the level that request 13 answers
  client_64 : (c : Client) → (c ≡ no_client) ⊎ ActsFor σ c → (c.token < 2 ^ 64) × (c.level < 2 ^ 64)
  unfolding no_client
  client_64 c w =
      ⊎_elim (λ e. rw e (omega arith, omega arith))
      (λ a. let below = live_64 a.token a.live in let e = a.number in (omega arith, level_64 a.token a.live c.level a.level))
      w

  reverts : Fits (Impersonate.revert σ s)
  unfolding Impersonate.revert Fits encode_all
  reverts =
      let c = client_at σ s in
      let r = client_64 c (acting σ f.loose s) in
      let a = word c.token r.0 in
      let b = word c.level r.1 in
      simp length-append (omega arith)

  evaluates : (n : ℕ) (c : Condition) → Fits (Evaluate.evaluate σ s n c)
  unfolding Evaluate.evaluate Fits refusal
  evaluates n c = on_handle n _ _ λ k.
      (omega arith, λ ok. on_if (λ (x : ℕ). length (encode x) ≤ most) (holds (token_of σ (handle_of σ s n).token) c) 1 0 (λ t. omega (arith, word 1 (omega arith))) (λ t. omega (arith, word 0 (omega arith))))

  restricts : (n mark removed : ℕ) (deny : List ℕ) (given : List Given) → Fits (Restrict.restrict σ s n mark removed deny given)
  unfolding Restrict.restrict Restrict.restrict_numbered issued entering with_sids Fits refusal
  restricts n mark removed deny given =
      subst Fits (sym (enter_handle given σ s n _ _)) (on_handle n _ _ λ k. (omega arith, λ a. (omega arith, λ b. next_handle_lem)))

  by_rule : (r : Request) → Fits (rule σ s r)
  unfolding rule OpenClose.open_own OpenClose.close Create.create Create.create_numbered entering with_sids AdjustScope.scope AdjustDefaults.adjust Duplicate.duplicate Install.install Link.with_both Link.link Link.get_linked issued used change_token put_token with_tokens Fits refusal
  by_rule (Request.open_own mask) = (omega arith, λ a. (omega arith, λ b. next_handle_lem))
  by_rule (Request.close n) = (omega arith, λ a. omega arith)
  by_rule (Request.create user session integrity present by_default gs) = (omega arith, λ a. (omega arith, λ b. (omega arith, λ c. next_handle_lem)))
  by_rule (Request.query n class capacity) = queries n class capacity
  by_rule (Request.privileges n es) = adjusts_privileges n es
  by_rule (Request.groups n es) = adjusts_groups n es
  by_rule (Request.scope n v) = on_handle n _ _ λ k. (omega arith, λ a. omega arith)
  by_rule (Request.defaults n owner group flag bytes) = on_handle n _ _ λ k. (omega arith, λ a. omega arith)
  by_rule (Request.duplicate n type level mask) = on_handle n _ _ λ k. (omega arith, λ a. (omega arith, λ b. next_handle_lem))
  by_rule (Request.restrict n mark removed deny sids) = restricts n mark removed deny sids
  by_rule (Request.install n) = on_handle n _ _ λ k. (omega arith, λ a. (omega arith, λ b. (omega arith, λ c. omega arith)))
  by_rule (Request.impersonate n) = impersonates n
  by_rule Request.revert = reverts
  by_rule (Request.link n m session) = (omega arith, λ a. (omega arith, λ b. (omega arith, λ c. (omega arith, λ d. (omega arith, λ e. omega arith)))))
  by_rule (Request.linked n) = on_handle n _ _ λ k. (
    omega arith,
    λ a. on_if Fits (held σ s tcb) _ _ (λ t. (omega arith, λ b. next_handle_lem)) (λ t. (omega arith, λ b. next_handle_lem)),
  )
  by_rule (Request.evaluate n c) = evaluates n c

  by_read : (r : Read Request) → Fits (decided σ s r)
  unfolding decided Fits refusal
  by_read bad = (omega arith, λ h. omega arith)
  by_read (got r bytes) = by_rule r

-- ---- frames

some : (σ : State) (x : Decision) → 1 ≤ length (carried_out σ x).answer
unfolding carried_out
some σ (need◌else◌then◌ true r rest) = some σ rest
some σ (need◌else◌then◌ false r rest) = omega arith
some σ (success after bytes) = omega arith

pub frame_fits : (body : List ℕ) → length body ≤ suc most → length (frame body) ≤ max_answer
unfolding frame
frame_fits body h = let l = encode_width 14 1 (length body) (omega arith) (omega arith) in simp length-append (omega arith)

answer : (body : List ℕ) → 1 ≤ length body → length body ≤ suc most → IsAnswer (frame body)
answer body low high = record { body = body; framing = refl; is_frame = frame_whole body low (omega arith); fits = frame_fits body high }

answer_status : (body : List ℕ) → 1 ≤ length body → length body ≤ suc most → statuses (frame body) ≡ get_or body 0 0 ∷ []
unfolding statuses statuses_in
answer_status body low high = rw (frame_whole body low (omega arith)) (first body low)
  where
    first : (xs : List ℕ) → 1 ≤ length xs → take 1 xs ≡ get_or xs 0 0 ∷ []
    first [] l = absurd (omega arith)
    first (x ∷ xs) l = refl

pub serve_answers : (σ : State) (s : ℕ) (body : List ℕ) → StateFacts σ → IsAnswer (frame (serve σ s body).answer)
unfolding serve decision
serve_answers σ s body f = let x = decided σ s (parse body) in answer (carried_out σ x).answer (some σ x) (fits σ x (by_read σ f s (parse body)))

pub serve_status : (σ : State) (s : ℕ) (body : List ℕ) → StateFacts σ → statuses (frame (serve σ s body).answer) ≡ status (serve σ s body) ∷ []
unfolding serve decision status
serve_status σ s body f = let x = decided σ s (parse body) in answer_status (carried_out σ x).answer (some σ x) (fits σ x (by_read σ f s (parse body)))

pub break_answers : IsAnswer (frame (stream_broken ∷ []))
break_answers = answer (stream_broken ∷ []) (omega arith) (omega arith)

pub break_status : statuses (frame (stream_broken ∷ [])) ≡ stream_broken ∷ []
break_status = answer_status (stream_broken ∷ []) (omega arith) (omega arith)
