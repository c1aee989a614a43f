-- On a valid state it is enough to look at the one token that lost a reference, or at the two of a replaced pair: `released` frees no other. Assumes nothing.
use Prim.Native.Nat.{ℕ}
use mathlib.Core.Path.{◌≡◌, refl, sym, ap, ◌∙◌, subst}
use mathlib.Core.Bool.{Bool, true, false}
use mathlib.Core.Logic.{◌⊎◌, inl, inr, ⊎_elim}
use mathlib.Core.List.{List, [], ◌∷◌}
use lib.Dec.{eqb}
use borrow.Author.Tests.{eqb-true, eqb-false}
use Rattle.std.specs.Prelude.{if◌then◌else◌}
use Rattle.rules.specs.Basic.{member, distinct}
use Rattle.rules.specs.Index.{freed_one}
use Rattle.rules.specs.Growth.{Mem, here, there}
use Rattle.rules.specs.Pair.{no_pair, is_of, Pair}
use Rattle.rules.specs.Handle.{is_handle, Handle}
use Rattle.rules.specs.State.{with_tokens, with_handles, with_stations, station_at, change_station, set_token, client_at, set_client, number_of, is_numbered, caller_number, find_handle, drop_handle, with_pairs, has_pair, set_pair, handle_token, station_token, client_token, elevated_token, filtered_token, references, is_referred, released, State}
use Rattle.rules.specs.Station.{start_station, with_token, with_client, Client}
use Rattle.rules.specs.Table.{is_live, or_else, lives, found, with_slots, exchanged, retained, Slot, free, live}
use Rattle.rules.specs.Token.{Token}
use Rattle.rules.proofs.Logic.{not_both, either, change_at_mem, map_mem, mem_by, mem_map, member_mem, mem_member, distinct_head, distinct_tail}
use Rattle.rules.proofs.Tables.{on_if, placed_old, live_slot, numbers, in_freed, distinct_freed}
use Rattle.rules.proofs.Facts.{Loose, StateFacts, is_referred_lem, referred_is}
use Rattle.rules.proofs.Changes.{numbers_of, by_handle, by_station, by_client, by_elevated, by_filtered, by_any, same_map, drop_loose}
use Rattle.rules.proofs.Steps.{◌then◌}

module _ {A : Type 0} (number : A → ℕ) (n : ℕ) (f : A → Bool) where
  retained_all : (ps : List (Slot A)) → ((a : A) → Mem a (lives ps) → f a ≡ true) → retained f ps ≡ ps
  unfolding retained lives
  retained_all [] h = refl
  retained_all (free ∷ ps) h = ap (λ qs. free ∷ qs) (retained_all ps h)
  retained_all (live c ∷ ps) h = rw (h c (here refl)) (ap (λ qs. live c ∷ qs) (retained_all ps (λ a m. h a (there m))))

  retained_one : (ps : List (Slot A)) → distinct (numbers number ps) ≡ true → ((a : A) → Mem a (lives ps) → number a ≡ n → f a ≡ false) → ((a : A) → Mem a (lives ps) → (number a ≡ n → ⊥) → f a ≡ true)
      → retained f ps ≡ exchanged (λ c. eqb (number c) n) free ps
  unfolding retained exchanged lives
  retained_one [] d h g = refl
  retained_one (free ∷ ps) d h g = ap (λ qs. free ∷ qs) (retained_one ps d h g)
  retained_one (live c ∷ ps) d h g =
      on_if (λ (qs : List (Slot A)). retained f (live c ∷ ps) ≡ qs) (eqb (number c) n) (free ∷ ps) (live c ∷ exchanged (λ c. eqb (number c) n) free ps)
      (λ t. let q = eqb-true (number c) n t in
      rw (h c (here refl) q) (ap (λ qs. free ∷ qs) (retained_all ps (λ a m. g a (there m) (λ e. distinct_head (number c) (numbers number ps) d (mem_by number (q ∙ sym e) m))))))
      (λ t. rw (g c (here refl) (eqb-false (number c) n t))
      (ap (λ qs. live c ∷ qs) (retained_one ps (distinct_tail (number c) (numbers number ps) d) (λ a m. h a (there m)) (λ a m. g a (there m)))))

released_apart : (e : State) (n : ℕ) → distinct (numbers_of e) ≡ true → ((t : Token) → Mem t (lives e.tokens.slots) → (t.number ≡ n → ⊥) → Mem t.number (references e)) → released e ≡ freed_one n e
unfolding released freed_one with_tokens with_slots is_numbered number_of
released_apart e n apart h =
    on_if (λ (x : State). released e ≡ x) (member n (references e)) e _
    (λ t. ap (λ ps. with_tokens (with_slots ps e.tokens) e) (retained_all number_of n (is_referred e) e.tokens.slots (λ a m. referred_is e a.number a refl
    (⊎_elim (λ q. subst_mem (eqb-true a.number n q) (member_mem n (references e) t)) (λ q. h a m (eqb-false a.number n q)) (either (eqb a.number n))))))
    (λ t. ap (λ ps. with_tokens (with_slots ps e.tokens) e) (retained_one number_of n (is_referred e) e.tokens.slots apart
    (λ a m q. unreferred a q t) (λ a m q. referred_is e a.number a refl (h a m q))))
  where
    subst_mem : {a b : ℕ} {xs : List ℕ} → a ≡ b → Mem b xs → Mem a xs
    subst_mem q (here e) = here (q ∙ e)
    subst_mem q (there m) = there (subst_mem q m)

    unreferred : (a : Token) → a.number ≡ n → member n (references e) ≡ false → is_referred e a ≡ false
    unreferred a q t = ⊎_elim (λ k. absurd (not_both (mem_member (subst_mem (sym q) (is_referred_lem e a.number a refl k))) t)) (λ k. k) (either (is_referred e a))

pub released_one : (e : State) (n : ℕ) → Loose e → ((t : Token) → Mem t (lives e.tokens.slots) → (t.number ≡ n → ⊥) → Mem t.number (references e)) → released e ≡ freed_one n e
released_one e n l h = released_apart e n l.tokens.apart h

-- no token has the number of the one that was freed
freed_gone : {A : Type 0} (number : A → ℕ) (n : ℕ) (ps : List (Slot A)) → distinct (numbers number ps) ≡ true → {a : A} → Mem a (lives (exchanged (λ c. eqb (number c) n) free ps)) → number a ≡ n → ⊥
unfolding exchanged lives
freed_gone {A = A} number n [] d {a = a} m q = elim m [ ]
freed_gone number n (free ∷ ps) d m q = freed_gone number n ps d m q
freed_gone number n (live c ∷ ps) d {a} m q = go (eqb (number c) n) refl m (λ k. freed_gone number n ps (distinct_tail (number c) (numbers number ps) d) k q)
  where
    go : (t : Bool) → eqb (number c) n ≡ t → Mem a (lives (if t then free ∷ ps else live c ∷ exchanged (λ c. eqb (number c) n) free ps))
        → (Mem a (lives (exchanged (λ c. eqb (number c) n) free ps)) → ⊥) → ⊥
    go true t m ih = distinct_head (number c) (numbers number ps) d (mem_by number (eqb-true (number c) n t ∙ sym q) m)
    go false t (here e) ih = eqb-false (number c) n t (ap number (sym e) ∙ q)
    go false t (there m) ih = ih m

-- what is freed at once may be freed before
retained_freed : {A : Type 0} (f g : A → Bool) → ((a : A) → g a ≡ true → f a ≡ false) → (ps : List (Slot A)) → retained f (exchanged g free ps) ≡ retained f ps
unfolding retained exchanged
retained_freed f g h [] = refl
retained_freed f g h (free ∷ ps) = ap (λ qs. free ∷ qs) (retained_freed f g h ps)
retained_freed f g h (live c ∷ ps) =
    on_if (λ qs. retained f qs ≡ retained f (live c ∷ ps)) (g c) (free ∷ ps) (live c ∷ exchanged g free ps)
    (λ t. rw (h c t) refl) (λ t. ap (λ qs. (if f c then live c else free) ∷ qs) (retained_freed f g h ps))

-- and so of two tokens
pub released_two : (e : State) (a b : ℕ) → Loose e → ((t : Token) → Mem t (lives e.tokens.slots) → (t.number ≡ a → ⊥) → (t.number ≡ b → ⊥) → Mem t.number (references e))
    → released e ≡ freed_one b (freed_one a e)
unfolding released freed_one with_tokens with_slots is_numbered number_of references is_referred
released_two e a b l h =
    on_if (λ (x : State). released e ≡ freed_one b x) (member a (references e)) e _
    (λ t. released_one e b l (λ u m ne.
    ⊎_elim (λ q. subst (λ (k : ℕ). Mem k (references e)) (sym (eqb-true u.number a q)) (member_mem a (references e) t)) (λ q. h u m (eqb-false u.number a q) ne) (either (eqb u.number a))))
    (λ t.
    let ps = e.tokens.slots in
    let freed = with_tokens (with_slots (exchanged (is_numbered a) free ps) e.tokens) e in
    ap (λ qs. with_tokens (with_slots qs e.tokens) e) (sym (retained_freed (is_referred e) (is_numbered a) (λ u q. ap (λ (k : ℕ). member k (references e)) (eqb-true u.number a q) ∙ t) ps))
    ∙ released_apart freed b (distinct_freed number_of (is_numbered a) ps l.tokens.apart)
    (λ u m ne. h u (in_freed number_of (is_numbered a) ps m) (freed_gone number_of a ps l.tokens.apart m) ne))

-- ---- closing a handle, and another primary token or client of a station

module _ {A : Type 0} (f : A → Bool) where
  behind : (p : Slot A) (ps : List (Slot A)) {b : A} → Mem b (lives ps) → Mem b (lives (p ∷ ps))
  unfolding lives
  behind free ps m = m
  behind (live a) ps m = there m

  others : (p : Slot A) (ps : List (Slot A)) {a b : A} → found f ps ≡ live a → Mem b (lives ps) → (b ≡ a) ⊎ Mem b (lives (exchanged f p ps))
  unfolding found exchanged lives
  others p [] {a = a} {b = b} e m = elim m [ ]
  others p (free ∷ ps) e m = others p ps e m
  others p (live c ∷ ps) {a} {b} e m = go (f c) e m (λ q k. others p ps q k)
    where
      go : (t : Bool) → (if t then live c else found f ps) ≡ live a → Mem b (c ∷ lives ps) → (found f ps ≡ live a → Mem b (lives ps) → (b ≡ a) ⊎ Mem b (lives (exchanged f p ps)))
          → (b ≡ a) ⊎ Mem b (lives (if t then p ∷ ps else live c ∷ exchanged f p ps))
      go true e (here q) ih = inl (let r : c ≡ a = cc in q ∙ r)
      go true e (there k) ih = inr (behind p ps k)
      go false e (here q) ih = inr (here q)
      go false e (there k) ih = ⊎_elim (λ q. inl q) (λ k. inr (there k)) (ih e k)

-- a token that is not the closed handle's is still referred to
close_refers : (d : State) (s n : ℕ) (h : Handle) → StateFacts d → find_handle d s n ≡ live h → (t : Token) → Mem t (lives (drop_handle s n d).tokens.slots) → (t.number ≡ h.token → ⊥) → Mem t.number (references (drop_handle s n d))
unfolding drop_handle with_handles with_slots find_handle number_of handle_token
close_refers d s n h f e t m ne =
    let c = drop_handle s n d in
    by_any d (λ a. let r = mem_map handle_token (lives d.handles.slots) a in
    ⊎_elim (λ q. absurd (ne (r.2 ∙ ap handle_token q))) (λ k. by_handle c (mem_by handle_token r.2 k)) (others (is_handle s n) free d.handles.slots e r.1))
    (λ b. by_station c b) (λ i k. by_client c i k) (λ i. by_elevated c i) (λ i. by_filtered c i)
    (f.reached t.number (map_mem number_of m))

-- closing the handle h: only its token can be freed
pub close_frees : (d : State) (s n : ℕ) (h : Handle) → StateFacts d → find_handle d s n ≡ live h → released (drop_handle s n d) ≡ freed_one h.token (drop_handle s n d)
close_frees d s n h f e = released_one (drop_handle s n d) h.token (drop_loose d s n f.loose) (close_refers d s n h f e)

-- another primary token: only the one before can be freed
token_refers : (d : State) (s n : ℕ) → StateFacts d → (t : Token) → Mem t (lives (set_token s n d).tokens.slots) → (t.number ≡ caller_number d s → ⊥) → Mem t.number (references (set_token s n d))
unfolding set_token change_station with_stations with_token caller_number station_at number_of station_token client_token
token_refers d s n f t m ne =
    let c = set_token s n d in
    by_any d (λ a. by_handle c a)
    (λ b. let r = mem_map station_token d.stations b in
    ⊎_elim (λ q. absurd (ne (r.2 ∙ ap station_token q))) (λ k. by_station c (mem_by station_token r.2 k)) (change_at_mem d.stations s (with_token n) start_station r.1))
    (λ i k. by_client c (rw (same_map client_token (with_token n) (λ x. refl) s d.stations) i) k) (λ i. by_elevated c i) (λ i. by_filtered c i)
    (f.reached t.number (map_mem number_of m))

pub token_frees : (d : State) (s n : ℕ) → StateFacts d → Loose (set_token s n d) → released (set_token s n d) ≡ freed_one (caller_number d s) (set_token s n d)
token_frees d s n f l = released_one (set_token s n d) (caller_number d s) l (token_refers d s n f)

-- another client, or none: only the one before can be freed
client_refers : (d : State) (s : ℕ) (c : Client) → StateFacts d → (t : Token) → Mem t (lives (set_client s c d).tokens.slots) → (t.number ≡ (client_at d s).token → ⊥) → Mem t.number (references (set_client s c d))
unfolding set_client change_station with_stations with_client client_at station_at number_of station_token client_token
client_refers d s c f t m ne =
    let e = set_client s c d in
    by_any d (λ a. by_handle e a) (λ b. by_station e (rw (same_map station_token (with_client c) (λ x. refl) s d.stations) b))
    (λ i k. let r = mem_map client_token d.stations i in
    ⊎_elim (λ q. absurd (ne (r.2 ∙ ap client_token q))) (λ j. by_client e (mem_by client_token r.2 j) k) (change_at_mem d.stations s (with_client c) start_station r.1))
    (λ i. by_elevated e i) (λ i. by_filtered e i)
    (f.reached t.number (map_mem number_of m))

pub client_frees : (d : State) (s : ℕ) (c : Client) → StateFacts d → Loose (set_client s c d) → released (set_client s c d) ≡ freed_one (client_at d s).token (set_client s c d)
client_frees d s c f l = released_one (set_client s c d) (client_at d s).token l (client_refers d s c f)

-- another pair of a session: only the tokens of the one before can be freed
unfoldable pub pair_before : State → ℕ → Pair
pair_before d session = or_else no_pair (found (is_of session) d.pairs)

pair_stays : (d : State) (p : Pair) {q : Pair} → Mem q (lives d.pairs) → (q ≡ pair_before d p.session) ⊎ Mem q (lives (set_pair p d).pairs)
unfolding set_pair with_pairs has_pair pair_before
pair_stays d p {q} m =
    let old = found (is_of p.session) d.pairs in
    on_if (λ ps. (q ≡ or_else no_pair old) ⊎ Mem q (lives ps)) (is_live old) _ _
    (λ t. others (is_of p.session) (live p) d.pairs (live_slot no_pair old t) m) (λ t. inr (placed_old p d.pairs m))

pair_refers : (d : State) (p : Pair) → StateFacts d → (t : Token) → Mem t (lives (set_pair p d).tokens.slots) → (t.number ≡ (pair_before d p.session).elevated → ⊥)
    → (t.number ≡ (pair_before d p.session).filtered → ⊥) → Mem t.number (references (set_pair p d))
unfolding set_pair with_pairs number_of elevated_token filtered_token
pair_refers d p f t m ne nf =
    let e = set_pair p d in
    by_any d (λ a. by_handle e a) (λ b. by_station e b) (λ i k. by_client e i k)
    (λ i. let r = mem_map elevated_token (lives d.pairs) i in
    ⊎_elim (λ q. absurd (ne (r.2 ∙ ap elevated_token q))) (λ k. by_elevated e (mem_by elevated_token r.2 k)) (pair_stays d p r.1))
    (λ i. let r = mem_map filtered_token (lives d.pairs) i in
    ⊎_elim (λ q. absurd (nf (r.2 ∙ ap filtered_token q))) (λ k. by_filtered e (mem_by filtered_token r.2 k)) (pair_stays d p r.1))
    (f.reached t.number (map_mem number_of m))

pub pair_frees : (d : State) (p : Pair) → StateFacts d → Loose (set_pair p d)
    → released (set_pair p d) ≡ freed_one (pair_before d p.session).filtered (freed_one (pair_before d p.session).elevated (set_pair p d))
pair_frees d p f l = released_two (set_pair p d) _ _ l (pair_refers d p f)
