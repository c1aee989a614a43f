-- The changes of a state: each keeps it valid, and what lasts of its tokens. Assumes nothing.
use Prim.Native.Nat.{ℕ, zero, suc, ◌<◌, ◌≤◌}
use native.Mathlib.Nat.{le_refl, le_trans}
use native.Mathlib.Omega.{arith}
use mathlib.Core.Path.{◌≡◌, refl, sym, ap, ap₂, ◌∙◌, subst}
use mathlib.Core.Bool.{true, false}
use mathlib.Core.Logic.{◌⊎◌, inl, inr, ⊎_elim}
use mathlib.Core.List.{List, [], ◌∷◌, ◌++◌, map, append-nil, append_assoc}
use lib.ListN.{length, drop, take-append-drop}
use borrow.Author.Tests.{eq-eqb}
use Rattle.rules.specs.Basic.{all, distinct, non_zero, change_at}
use Rattle.rules.specs.Decision.{can_issue}
use Rattle.rules.specs.Growth.{Mem, Live, Follows, Later, HandlesLater, SidsLater}
use Rattle.rules.specs.Given.{Given, entered_all}
use Rattle.rules.specs.Handle.{is_handle, Handle}
use Rattle.rules.specs.Linking.{InPair, Linked}
use Rattle.rules.specs.Number.{max32, max64}
use Rattle.rules.specs.Pair.{is_of, Pair}
use Rattle.rules.specs.Sid.{Sid}
use Rattle.rules.specs.SidTable.{is_number, sids_valid}
use Rattle.rules.specs.State.{token_slots, handle_slots, with_sids, entering, with_tokens, with_handles, with_stations, change_station, set_token, set_client, number_of, is_numbered, put_token, can_add_token, add_token, handle_number, can_add_handle, add_handle, drop_handle, pair_slots, with_pairs, has_pair, set_pair, handle_token, station_token, client_token, elevated_token, filtered_token, references, is_referred, released, State}
use Rattle.rules.specs.Station.{no_client, with_token, with_client, with_pending, cleared, broken_off, Station, Client}
use Rattle.rules.specs.Table.{is_live, lives, with_slots, can_add, added, found, retained, Slot, Table, free, live}
use Rattle.rules.specs.Token.{primary, impersonation, default_elevation, Token, Identity, Limits}
use Rattle.rules.specs.Valid.{handle_valid, stream_valid, session_of, sid_numbers, is_listed}
use Rattle.rules.proofs.Logic.{and_l, all_mem, mem_all, not_both, mem_non_zero, non_zero_mem, mem_left, mem_right, mem_append, length_change_at, mem_change_at, map_mem, mem_by, mem_map}
use Rattle.rules.proofs.Bits.{within_refl, within_trans}
use Rattle.rules.proofs.Tables.{on_if, in_placed, placed_new, length_placed, found_none, in_exchanged, exchanged_new, length_exchanged, distinct_placed, some_free_lem, in_retained, retained_in, number_placed, placed_number, in_freed, number_freed, same_numbers, only_one}
use Rattle.rules.proofs.SidNumbers.{number_more, entered_all_prefix, entered_all_long}
use Rattle.rules.proofs.Facts.{TokenFacts, added_facts, put_facts, freed_facts, retained_facts, Acts, Loose, StateFacts, is_referred_lem, referred_is}

-- ---- what lasts, over any time

-- the elevation stays, or was Default
abbrev pub ElevationStays : Token → Token → Type 0
ElevationStays t u = (u.elevation ≡ t.elevation) ⊎ (t.elevation ≡ default_elevation)

elevation_stays : (t u v : Token) → ElevationStays t u → ElevationStays u v → ElevationStays t v
elevation_stays t u v a b = ⊎_elim (λ e. ⊎_elim (λ q. inl (q ∙ e)) (λ q. inr (sym e ∙ q)) b) (λ e. inr e) a

pub follows_refl : (t : Token) → Follows t t
follows_refl t = let elevation : ElevationStays t t = inl refl in search within_refl

pub follows_trans : (t u v : Token) → Follows t u → Follows u v → Follows t v
follows_trans t u v a b =
    let number = b.number ∙ a.number in
    let identity = b.identity ∙ a.identity in
    let sids = b.sids ∙ a.sids in
    let elevation = elevation_stays t u v a.elevation b.elevation in
    search (within_trans, a.denied, b.denied)

-- what is there after a token was put
put_in : (d : State) (u : Token) {v : Token} → Mem v (lives (put_token u d).tokens.slots) → (v ≡ u) ⊎ Mem v (lives d.tokens.slots)
unfolding put_token with_tokens with_slots
put_in d u {v} m = ⊎_elim (λ e. inl (cc)) (λ k. inr k) (in_exchanged (is_numbered u.number) (live u) d.tokens.slots m)

-- any relation R of a token that was there, in the table x, and the same token later
pub record Carried (R : Token → Token → Type 0) (x : Table Token) (u : Token) : Type 0 where
  pub token : Token
  pub was : Mem token (lives x.slots)
  pub number : u.number ≡ token.number
  pub holds : R token u

-- it holds of every token of y that is no new one
pub record Carries (R : Token → Token → Type 0) (x y : Table Token) : Type 0 where
  pub next : x.next ≤ y.next
  pub old : (u : Token) → Mem u (lives y.slots) → u.number < x.next → Carried R x u

pub carries_trans : (R : Token → Token → Type 0) → ((t u v : Token) → R t u → R u v → R t v) → {x y z : Table Token} → Carries R x y → Carries R y z → Carries R x z
carries_trans R trans a b =
    record {
      next = le_trans a.next b.next;
      old = λ v m h.
          let p = b.old v m (let k = a.next in omega arith) in
          let q = a.old p.token p.was (let e = p.number in omega arith) in
          record { token = q.token; was = q.was; number = p.number ∙ q.number; holds = trans q.token p.token v q.holds p.holds };
    }

-- of a token that is live before and after
pub carried : (R : Token → Token → Type 0) (d e : State) → Loose d → Carries R d.tokens e.tokens → (t u : Token)
    → Mem t (lives d.tokens.slots) → Mem u (lives e.tokens.slots) → u.number ≡ t.number → R t u
unfolding number_of
carried R d e l c t u mt mu q =
    let below = (l.tokens.given t.number (map_mem number_of mt)).1 in
    let b = c.old u mu (omega arith) in
    subst (λ (z : Token). R z u) (only_one number_of d.tokens.slots l.tokens.apart b.was mt (sym b.number ∙ q)) b.holds

module _ (R : Token → Token → Type 0) (alike : (t : Token) → R t t) where
  same : (x : Table Token) (u : Token) → Mem u (lives x.slots) → Carried R x u
  same x u m = record { token = u; was = m; number = refl; holds = alike u }

  pub carries_refl : (x : Table Token) → Carries R x x
  carries_refl x = record { next = le_refl _; old = λ u m h. same x u m }

  -- a token is put in the place of one, a new one is added, some are freed
  pub put_carries : (d : State) (t u : Token) → Mem t (lives d.tokens.slots) → u.number ≡ t.number → R t u → Carries R d.tokens (put_token u d).tokens
  unfolding put_token with_tokens with_slots
  put_carries d t u was e r =
      record { next = le_refl _; old = λ v m h. ⊎_elim (λ q. rw q (record { token = t; was = was; number = e; holds = r })) (same d.tokens v) (put_in d u m) }

  pub add_carries : (d : State) (t : Token) → t.number ≡ d.tokens.next → Carries R d.tokens (add_token t d).tokens
  unfolding add_token with_tokens added
  add_carries d t number =
      record {
        next = omega arith;
        old = λ v m h. ⊎_elim (λ e. absurd (let k = ap (λ (x : Token). x.number) e in omega arith)) (same d.tokens v) (in_placed t d.tokens.slots m);
      }

  pub release_carries : (d : State) → Carries R d.tokens (released d).tokens
  unfolding released with_tokens with_slots
  release_carries d = record { next = le_refl _; old = λ v m h. same d.tokens v (in_retained (is_referred d) d.tokens.slots m).0 }

-- `Later` is this of `Follows`
later_of : {x y : Table Token} → Carries Follows x y → Later x y
later_of c = record { next = c.next; old = λ u m h. let b = c.old u m h in record { token = b.token; was = b.was; follows = b.holds } }

pub of_later : {x y : Table Token} → Later x y → Carries Follows x y
of_later c =
    record { next = c.next; old = λ u m h. let b = c.old u m h in record { token = b.token; was = b.was; number = b.follows.number; holds = b.follows } }

pub later_refl : (x : Table Token) → Later x x
later_refl x = later_of (carries_refl Follows follows_refl x)

pub later_trans : (x y z : Table Token) → Later x y → Later y z → Later x z
later_trans x y z a b = later_of (carries_trans Follows follows_trans (of_later a) (of_later b))

pub handles_refl : (x : Table Handle) → HandlesLater x x
handles_refl x = record { next = le_refl _; old = λ h m k. m }

pub handles_trans : (x y z : Table Handle) → HandlesLater x y → HandlesLater y z → HandlesLater x z
handles_trans x y z a b =
    record { next = le_trans a.next b.next; old = λ h m k. a.old h (b.old h m (let g = a.next in omega arith)) k }

pub sids_refl : (x : List Sid) → SidsLater x x
sids_refl x = record { more = []; behind = sym (append-nil x) }

pub sids_trans : {x y z : List Sid} → SidsLater x y → SidsLater y z → SidsLater x z
sids_trans {x} a b = record { more = a.more ++ b.more; behind = b.behind ∙ ap (λ (l : List Sid). l ++ b.more) a.behind ∙ append_assoc x a.more b.more }

pub sids_entered : (xs : List Given) (x : List Sid) → SidsLater x (entered_all xs x)
sids_entered xs x =
    let y = entered_all xs x in
    record { more = drop (length x) y; behind = sym (take-append-drop (length x) y) ∙ ap (λ (l : List Sid). l ++ drop (length x) y) (entered_all_prefix xs x) }

-- a new handle has the next number, and a dropped one leaves the others as they were
pub handle_later : (d : State) (s n mask : ℕ) → HandlesLater d.handles (add_handle s n mask d).handles
unfolding add_handle with_handles added
handle_later d s n mask =
    record {
      next = omega arith;
      old = λ h m k. ⊎_elim (λ e. absurd (let q = ap (λ (x : Handle). x.number) e in omega arith)) (λ i. i) (in_placed _ d.handles.slots m);
    }

pub drop_later : (d : State) (s n : ℕ) → HandlesLater d.handles (drop_handle s n d).handles
unfolding drop_handle with_handles with_slots
drop_later d s n = record { next = le_refl _; old = λ h m k. in_freed handle_number (is_handle s n) d.handles.slots m }

-- ---- what is referred to

abbrev pub numbers_of : State → List ℕ
numbers_of d = map number_of (lives d.tokens.slots)

-- a handle's token, a station's, the one that it acts for, and those of a linked pair are referred to
pub by_handle : (d : State) {n : ℕ} → Mem n (map handle_token (lives d.handles.slots)) → Mem n (references d)
unfolding references
by_handle d m = mem_left _ (mem_left _ (mem_left _ (mem_left _ m)))

pub by_station : (d : State) {n : ℕ} → Mem n (map station_token d.stations) → Mem n (references d)
unfolding references
by_station d m = mem_left _ (mem_left _ (mem_left _ (mem_right (map handle_token (lives d.handles.slots)) m)))

pub by_client : (d : State) {n : ℕ} → Mem n (map client_token d.stations) → 1 ≤ n → Mem n (references d)
unfolding references
by_client d m h = mem_left _ (mem_left _ (mem_right (map handle_token (lives d.handles.slots) ++ map station_token d.stations) (non_zero_mem _ m h)))

pub by_elevated : (d : State) {n : ℕ} → Mem n (map elevated_token (lives d.pairs)) → Mem n (references d)
unfolding references
by_elevated d m = mem_left _ (mem_right (map handle_token (lives d.handles.slots) ++ map station_token d.stations ++ non_zero (map client_token d.stations)) m)

pub by_filtered : (d : State) {n : ℕ} → Mem n (map filtered_token (lives d.pairs)) → Mem n (references d)
unfolding references
by_filtered d m =
    mem_right (map handle_token (lives d.handles.slots) ++ map station_token d.stations ++ non_zero (map client_token d.stations) ++ map elevated_token (lives d.pairs)) m

-- whatever is referred to is so by one of them
pub by_any : (d : State) {n : ℕ} {P : Type 0} → (Mem n (map handle_token (lives d.handles.slots)) → P) → (Mem n (map station_token d.stations) → P)
    → (Mem n (map client_token d.stations) → 1 ≤ n → P) → (Mem n (map elevated_token (lives d.pairs)) → P) → (Mem n (map filtered_token (lives d.pairs)) → P) → Mem n (references d) → P
unfolding references
by_any d h s c e f m =
    ⊎_elim (λ k. ⊎_elim (λ j. ⊎_elim (λ a. ⊎_elim h s (mem_append _ a)) (λ b. let r = mem_non_zero _ b in c r.0 r.1) (mem_append _ j)) e (mem_append _ k)) f (mem_append _ m)

-- ---- a linked pair over a step

-- its tokens stay Full and Limited where they stay
module _ (d e : State) (l : Loose d) (later : Later d.tokens e.tokens) where
  in_later : {n k s : ℕ} → (k ≡ default_elevation → ⊥) → Mem n (numbers_of e) → (x : InPair d n k s) → (y : InPair e n k s) × (y.token.identity ≡ x.token.identity)
  unfolding number_of Live
  in_later {n} {k} ne m x =
      let r = mem_map number_of (lives e.tokens.slots) m in
      let u = r.0 in
      let f = carried Follows d e l (of_later later) x.token u x.live r.1 (sym r.2 ∙ sym x.number) in (
        record {
          token = u;
          live = r.1;
          number = sym r.2;
          elevation = ⊎_elim (λ q. q ∙ x.elevation) (λ q. absurd (ne (sym x.elevation ∙ q))) f.elevation;
          type = ap (λ (i : Identity). i.type) f.identity ∙ x.type;
          session = ap (λ (i : Identity). i.session) f.identity ∙ x.session;
        },
        f.identity,
      )

  still_linked : {p : Pair} → Mem p.elevated (numbers_of e) → Mem p.filtered (numbers_of e) → Linked d p → Linked e p
  still_linked i j was =
      let a = in_later (λ q. omega arith) i was.elevated in
      let b = in_later (λ q. omega arith) j was.filtered in
      record {
        elevated = a.0;
        filtered = b.0;
        user = ap (λ (i : Identity). i.user) a.1 ∙ was.user ∙ sym (ap (λ (i : Identity). i.user) b.1);
      }

  -- where all that is referred to stays, so do they
  linked_later : ((n : ℕ) → Mem n (references d) → Mem n (numbers_of e)) → (p : Pair) → Mem p (lives d.pairs) → Linked e p
  unfolding elevated_token filtered_token
  linked_later kept p m =
      still_linked (kept _ (by_elevated d (map_mem elevated_token m))) (kept _ (by_filtered d (map_mem filtered_token m))) (l.pairs p m)

-- ---- the SIDs that a token keeps

pub still_listed : (sids : List Sid) (t u : Token) → Follows t u → is_listed sids t ≡ true → is_listed sids u ≡ true
unfolding is_listed sid_numbers
still_listed sids t u f h =
    let same : sid_numbers u ≡ sid_numbers t =
    ap₂ (λ (i : Identity) (x : List ℕ × Limits). i.user ∷ (x.0 ++ x.1.restricting)) f.identity (λ i. (f.sids i, f.limits i)) in
    ap (all (is_number sids)) same ∙ h

-- ---- a token is put in the place of one that it follows

pub put_numbers : (d : State) (u : Token) → numbers_of (put_token u d) ≡ numbers_of d
unfolding put_token with_tokens with_slots is_numbered number_of
put_numbers d u = same_numbers number_of u d.tokens.slots

-- it is there
pub put_there : (d : State) (u : Token) → Mem u.number (numbers_of d) → Mem u (lives (put_token u d).tokens.slots)
unfolding put_token with_tokens with_slots is_numbered number_of
put_there d u m =
    let r = mem_map number_of (lives d.tokens.slots) m in
    exchanged_new (is_numbered u.number) u d.tokens.slots r.1 (eq-eqb r.0.number u.number (sym r.2))

module _ (d : State) (t u : Token) (was : Mem t (lives d.tokens.slots)) (f : Follows t u) where
  pub put_later : Later d.tokens (put_token u d).tokens
  put_later = later_of (put_carries Follows follows_refl d t u was f.number f)

  put_kept : Loose d → (n : ℕ) → Mem n (references d) → Mem n (numbers_of (put_token u d))
  put_kept l n m = rw (put_numbers d u) (l.live n m)

  pub put_loose : TokenFacts u → Loose d → Loose (put_token u d)
  unfolding put_token with_tokens with_slots references is_numbered number_of
  put_loose g l =
      record {
        tokens = put_facts token_slots max64 number_of d.tokens l.tokens u;
        handles = l.handles;
        stations = l.stations;
        each_token = λ v m. ⊎_elim (λ e. rw e g) (l.each_token v) (put_in d u m);
        each_handle = l.each_handle;
        each_station = l.each_station;
        live = put_kept l;
        station_primary = λ v m k.
            ⊎_elim (λ e. ap (λ (x : Token). x.identity.type) e ∙ ap (λ x. x.type) f.identity ∙ l.station_primary t was (subst (λ (x : ℕ). Mem x (map station_token d.stations)) (ap (λ (x : Token). x.number) e ∙ f.number) k))
            (λ m. l.station_primary v m k)
            (put_in d u m);
        clients = λ v m x k e.
            ⊎_elim (λ q. subst (λ i. Acts i x.client) (sym (ap (λ (y : Token). y.identity) q ∙ f.identity)) (l.clients t was x k (e ∙ ap (λ (y : Token). y.number) q ∙ f.number)))
            (λ i. l.clients v i x k e)
            (put_in d u m);
        idle = l.idle;
        pairs_sized = l.pairs_sized;
        sessions = l.sessions;
        pairs = linked_later d (put_token u d) l put_later (put_kept l);
        sids = l.sids;
        listed = λ v m. ⊎_elim (λ e. rw e (still_listed d.sids t u f (l.listed t was))) (l.listed v) (put_in d u m);
      }

  pub put_reached : ((n : ℕ) → Mem n (numbers_of d) → Mem n (references d)) → (n : ℕ) → Mem n (numbers_of (put_token u d)) → Mem n (references (put_token u d))
  unfolding put_token with_tokens with_slots references
  put_reached r n m = r n (rw (put_numbers d u) at m)

-- ---- a new token, whose number is the next one

module _ (d : State) (t : Token) (number : t.number ≡ d.tokens.next) where
  unnumbered : Loose d → Mem t.number (numbers_of d) → ⊥
  unnumbered l m = let k = (l.tokens.given _ m).1 in omega arith

  unacted : Loose d → (x : Station) → Mem x d.stations → client_token x ≡ t.number → ⊥
  unacted l x m e =
      let low = l.tokens.low in
      unnumbered l (subst (λ (n : ℕ). Mem n (numbers_of d)) e (l.live (client_token x) (by_client d (map_mem client_token m) (omega arith))))

  pub add_later : Later d.tokens (add_token t d).tokens
  add_later = later_of (add_carries Follows follows_refl d t number)

  add_kept : Loose d → (n : ℕ) → Mem n (references d) → Mem n (numbers_of (add_token t d))
  unfolding add_token with_tokens added
  add_kept l n m = placed_number number_of t d.tokens.slots (l.live n m)

  pub add_loose : can_add_token d ≡ true → TokenFacts t → is_listed d.sids t ≡ true → Loose d → Loose (add_token t d)
  unfolding add_token with_tokens added references can_add_token number_of
  add_loose room g known l =
      record {
        tokens = added_facts token_slots max64 number_of d.tokens l.tokens t number room;
        handles = l.handles;
        stations = l.stations;
        each_token = λ v m. ⊎_elim (λ e. rw e g) (l.each_token v) (in_placed t d.tokens.slots m);
        each_handle = l.each_handle;
        each_station = l.each_station;
        live = add_kept l;
        station_primary = λ v m k.
            ⊎_elim (λ e. absurd (unnumbered l (subst (λ (x : Token). Mem x.number (numbers_of d)) e (l.live v.number (by_station d k))))) (λ m. l.station_primary v m k) (in_placed t d.tokens.slots m);
        clients = λ v m x k e. ⊎_elim (λ q. absurd (unacted l x k (e ∙ ap (λ (y : Token). y.number) q))) (λ i. l.clients v i x k e) (in_placed t d.tokens.slots m);
        idle = l.idle;
        pairs_sized = l.pairs_sized;
        sessions = l.sessions;
        pairs = linked_later d (add_token t d) l add_later (add_kept l);
        sids = l.sids;
        listed = λ v m. ⊎_elim (λ e. rw e known) (l.listed v) (in_placed t d.tokens.slots m);
      }

-- ---- a new handle

module _ (d : State) (s n mask : ℕ) where
  pub handle_loose : can_add_handle d ≡ true → handle_valid (record { station = s; number = d.handles.next; token = n; mask = mask }) ≡ true → Mem n (numbers_of d) → Loose d → Loose (add_handle s n mask d)
  unfolding add_handle with_handles added references can_add_handle handle_token handle_number
  handle_loose room ok on l =
      let h : Handle = record { station = s; number = d.handles.next; token = n; mask = mask } in
      record {
        tokens = l.tokens;
        handles = added_facts handle_slots max32 handle_number d.handles l.handles h refl room;
        stations = l.stations;
        each_token = l.each_token;
        each_handle = λ k m. ⊎_elim (λ e. rw e ok) (l.each_handle k) (in_placed h d.handles.slots m);
        each_station = l.each_station;
        live = λ k.
            by_any (add_handle s n mask d) (λ a. ⊎_elim (λ e. rw e on) (λ b. l.live k (by_handle d b)) (number_placed handle_token h d.handles.slots a))
            (λ b. l.live k (by_station d b)) (λ c i. l.live k (by_client d c i)) (λ c. l.live k (by_elevated d c)) (λ c. l.live k (by_filtered d c));
        station_primary = l.station_primary;
        clients = l.clients;
        idle = l.idle;
        pairs_sized = l.pairs_sized;
        sessions = l.sessions;
        pairs = linked_later d (add_handle s n mask d) l (later_refl d.tokens) l.live;
        sids = l.sids;
        listed = l.listed;
      }

  -- every token but token n was referred to before
  pub handle_reached : can_add_handle d ≡ true → ((k : ℕ) → Mem k (numbers_of d) → (k ≡ n) ⊎ Mem k (references d)) → (k : ℕ) → Mem k (numbers_of (add_handle s n mask d)) → Mem k (references (add_handle s n mask d))
  unfolding add_handle with_handles added references can_add_handle can_add handle_token
  handle_reached room r k m =
      let h : Handle = record { station = s; number = d.handles.next; token = n; mask = mask } in
      let e = add_handle s n mask d in
      ⊎_elim (λ q. by_handle e (mem_by handle_token q (placed_new h d.handles.slots (and_l _ _ room))))
      (by_any d (λ a. by_handle e (placed_number handle_token h d.handles.slots a)) (λ b. by_station e b) (λ c i. by_client e c i) (λ c. by_elevated e c) (λ c. by_filtered e c))
      (r k m)

-- ---- a handle is dropped, a station gets another token: then tokens may be unreferred

pub drop_loose : (d : State) (s n : ℕ) → Loose d → Loose (drop_handle s n d)
unfolding drop_handle with_handles with_slots references
drop_loose d s n l =
    record {
      tokens = l.tokens;
      handles = freed_facts handle_slots max32 handle_number d.handles l.handles (is_handle s n);
      stations = l.stations;
      each_token = l.each_token;
      each_handle = λ k m. l.each_handle k (in_freed handle_number (is_handle s n) d.handles.slots m);
      each_station = l.each_station;
      live = λ k m. l.live k (by_any (drop_handle s n d) (λ a. by_handle d (number_freed handle_token (is_handle s n) d.handles.slots a)) (by_station d) (λ c i. by_client d c i) (by_elevated d) (by_filtered d) m);
      station_primary = l.station_primary;
      clients = l.clients;
      idle = l.idle;
      pairs_sized = l.pairs_sized;
      sessions = l.sessions;
      pairs = linked_later d (drop_handle s n d) l (later_refl d.tokens) l.live;
      sids = l.sids;
      listed = l.listed;
    }

-- ---- a session gets another pair: then too

no_pair_lem : (d : State) (s : ℕ) → has_pair d s ≡ false → Mem s (map session_of (lives d.pairs)) → ⊥
unfolding has_pair is_live is_of session_of
no_pair_lem d s h m =
    let r = mem_map session_of (lives d.pairs) m in
    go (found (is_of s) d.pairs) refl h r.1 (eq-eqb r.0.session s (sym r.2))
  where
    go : (p : Slot Pair) → found (is_of s) d.pairs ≡ p → is_live p ≡ false → {q : Pair} → Mem q (lives d.pairs) → is_of s q ≡ true → ⊥
    go free e h m t = found_none (is_of s) d.pairs e m t
    go (live p) e h m t = not_both refl h

-- its old pair is gone: sessions stay distinct
set_sessions : (d : State) (p : Pair) → distinct (map session_of (lives d.pairs)) ≡ true → distinct (map session_of (lives (set_pair p d).pairs)) ≡ true
unfolding set_pair with_pairs is_of session_of
set_sessions d p apart =
    on_if (λ (ps : List (Slot Pair)). distinct (map session_of (lives ps)) ≡ true) (has_pair d p.session) _ _
    (λ t. ap distinct (same_numbers session_of p d.pairs) ∙ apart) (λ t. distinct_placed session_of p d.pairs (no_pair_lem d p.session t) apart)

set_in : (d : State) (p : Pair) {q : Pair} → Mem q (lives (set_pair p d).pairs) → (q ≡ p) ⊎ Mem q (lives d.pairs)
unfolding set_pair with_pairs
set_in d p {q} =
    on_if (λ ps. Mem q (lives ps) → (q ≡ p) ⊎ Mem q (lives d.pairs)) (has_pair d p.session) _ _
    (λ t m. ⊎_elim (λ e. inl (cc)) (λ k. inr k) (in_exchanged (is_of p.session) (live p) d.pairs m))
    (λ t m. in_placed p d.pairs m)

-- the token that g names of each pair
set_names : (d : State) (p : Pair) (g : Pair → ℕ) → Mem (g p) (numbers_of d) → ((n : ℕ) → Mem n (map g (lives d.pairs)) → Mem n (numbers_of d))
    → (n : ℕ) → Mem n (map g (lives (set_pair p d).pairs)) → Mem n (numbers_of d)
set_names d p g new old n m =
    let r = mem_map g (lives (set_pair p d).pairs) m in
    ⊎_elim (λ e. subst (λ (k : ℕ). Mem k (numbers_of d)) (sym (r.2 ∙ ap g e)) new) (λ k. old n (mem_by g r.2 k)) (set_in d p r.1)

pub pair_loose : (d : State) (p : Pair) → Linked d p → Loose d → Loose (set_pair p d)
unfolding set_pair with_pairs elevated_token filtered_token number_of Live
pair_loose d p new l =
    let i : Mem p.elevated (numbers_of d) = mem_by number_of (sym new.elevated.number) new.elevated.live in
    let j : Mem p.filtered (numbers_of d) = mem_by number_of (sym new.filtered.number) new.filtered.live in
    record {
      tokens = l.tokens;
      handles = l.handles;
      stations = l.stations;
      each_token = l.each_token;
      each_handle = l.each_handle;
      each_station = l.each_station;
      live = λ n.
          by_any (set_pair p d) (λ h. l.live n (by_handle d h)) (λ s. l.live n (by_station d s)) (λ c i. l.live n (by_client d c i))
          (set_names d p elevated_token i (λ k m. l.live k (by_elevated d m)) n)
          (set_names d p filtered_token j (λ k m. l.live k (by_filtered d m)) n);
      station_primary = l.station_primary;
      clients = l.clients;
      idle = l.idle;
      pairs_sized =
          on_if (λ (ps : List (Slot Pair)). length ps ≡ pair_slots) (has_pair d p.session) _ _
          (λ t. length_exchanged _ (live p) d.pairs ∙ l.pairs_sized) (λ t. length_placed p d.pairs ∙ l.pairs_sized);
      sessions = set_sessions d p l.sessions;
      pairs = λ q m.
          ⊎_elim (λ e. subst (Linked (set_pair p d)) (sym e) (still_linked d (set_pair p d) l (later_refl d.tokens) i j new))
          (linked_later d (set_pair p d) l (later_refl d.tokens) l.live q)
          (set_in d p m);
      sids = l.sids;
      listed = l.listed;
    }

-- ---- SIDs enter the table

pub enter_loose : (d : State) (xs : List Given) → sids_valid (entering xs d).sids ≡ true → Loose d → Loose (entering xs d)
unfolding entering with_sids references is_listed
enter_loose d xs ok l =
    record {
      tokens = l.tokens;
      handles = l.handles;
      stations = l.stations;
      each_token = l.each_token;
      each_handle = l.each_handle;
      each_station = l.each_station;
      live = l.live;
      station_primary = l.station_primary;
      clients = l.clients;
      idle = l.idle;
      pairs_sized = l.pairs_sized;
      sessions = l.sessions;
      pairs = linked_later d (entering xs d) l (later_refl d.tokens) l.live;
      sids = ok;
      listed = λ t m.
          mem_all (is_number _) (sid_numbers t) (λ n k. number_more d.sids _ n (entered_all_long xs d.sids) (all_mem (is_number d.sids) (sid_numbers t) (l.listed t m) k));
    }

-- ---- a change of one station

-- what it leaves alone is the same at all of them
pub same_map : {A : Type 0} (g : Station → A) (f : Station → Station) → ((x : Station) → g (f x) ≡ g x) → (s : ℕ) (xs : List Station) → map g (change_at s f xs) ≡ map g xs
unfolding change_at
same_map g f e s [] = refl
same_map g f e zero (x ∷ xs) = ap (λ a. a ∷ map g xs) (e x)
same_map g f e (suc s) (x ∷ xs) = ap (λ ys. g x ∷ ys) (same_map g f e s xs)

module _ (d : State) (s : ℕ) (f : Station → Station) (ok : (x : Station) → Mem x d.stations → stream_valid (f x) ≡ true) where
  each_station_lem : Loose d → (x : Station) → Mem x (change_at s f d.stations) → stream_valid x ≡ true
  each_station_lem l x m = ⊎_elim (λ r. ap stream_valid r.2 ∙ ok r.0 r.1) (l.each_station x) (mem_change_at d.stations s f m)

-- the clients of the others, and that of the station
each_client : (d : State) (s : ℕ) (f : Station → Station) (P : Client → Type 0) → ((x : Station) → Mem x d.stations → P x.client)
    → ((x : Station) → Mem x d.stations → P (f x).client) → (x : Station) → Mem x (change_at s f d.stations) → P x.client
each_client d s f P old new x m =
    ⊎_elim (λ r. subst (λ (y : Station). P y.client) (sym r.2) (new r.0 r.1)) (old x) (mem_change_at d.stations s f m)

with_token_lem : (n : ℕ) (x : Station) → stream_valid (with_token n x) ≡ stream_valid x
unfolding with_token stream_valid
with_token_lem n x = refl

with_client_lem : (c : Client) (x : Station) → stream_valid (with_client c x) ≡ stream_valid x
unfolding with_client stream_valid
with_client_lem c x = refl

-- another primary token
pub token_loose : (d : State) (s : ℕ) (t : Token) → Mem t (lives d.tokens.slots) → t.identity.type ≡ primary → Loose d → Loose (set_token s t.number d)
unfolding set_token change_station with_stations with_token references number_of station_token client_token
token_loose d s t was p l =
    record {
      tokens = l.tokens;
      handles = l.handles;
      stations = length_change_at d.stations s (with_token t.number) ∙ l.stations;
      each_token = l.each_token;
      each_handle = l.each_handle;
      each_station = each_station_lem d s (with_token t.number) (λ x m. with_token_lem t.number x ∙ l.each_station x m) l;
      live = λ n.
          by_any (set_token s t.number d) (λ a. l.live n (by_handle d a))
          (λ b. ⊎_elim (λ e. rw e (map_mem number_of was)) (λ c. l.live n (by_station d c)) (token_set n b))
          (λ c i. l.live n (by_client d (rw (same_map client_token (with_token t.number) (λ x. refl) s d.stations) at c) i))
          (λ c. l.live n (by_elevated d c)) (λ c. l.live n (by_filtered d c));
      station_primary = λ v m k. ⊎_elim (λ e. ap (λ (y : Token). y.identity.type) (only_one number_of d.tokens.slots l.tokens.apart m was e) ∙ p) (l.station_primary v m) (token_set v.number k);
      clients = λ v m. each_client d s (with_token t.number) (λ c. c.token ≡ v.number → Acts v.identity c) (l.clients v m) (l.clients v m);
      idle = each_client d s (with_token t.number) (λ c. c.token ≡ 0 → c.level ≡ 0) l.idle l.idle;
      pairs_sized = l.pairs_sized;
      sessions = l.sessions;
      pairs = linked_later d (set_token s t.number d) l (later_refl d.tokens) l.live;
      sids = l.sids;
      listed = l.listed;
    }
  where
    token_set : (n : ℕ) → Mem n (map station_token (change_at s (with_token t.number) d.stations)) → (n ≡ number_of t) ⊎ Mem n (map station_token d.stations)
    token_set n m =
        let r = mem_map station_token (change_at s (with_token t.number) d.stations) m in
        ⊎_elim (λ y. inl (r.2 ∙ ap station_token y.2)) (λ c. inr (mem_by station_token r.2 c)) (mem_change_at d.stations s (with_token t.number) r.1)

-- another client, or none
pub record MayAct (d : State) (c : Client) : Type 0 where
  pub fits : (t : Token) → Mem t (lives d.tokens.slots) → c.token ≡ t.number → Acts t.identity c
  pub idle : c.token ≡ 0 → c.level ≡ 0
  pub live : 1 ≤ c.token → Mem c.token (numbers_of d)

pub none_may : (d : State) → Loose d → MayAct d no_client
unfolding no_client number_of
none_may d l =
    record {
      fits = λ t m e. absurd (let low = (l.tokens.given t.number (map_mem number_of m)).0 in omega arith);
      idle = λ e. refl;
      live = λ h. absurd (omega arith);
    }

pub token_may : (d : State) (t : Token) (level : ℕ) → Mem t (lives d.tokens.slots) → t.identity.type ≡ impersonation → level ≤ t.identity.level → Loose d
    → MayAct d (record { token = t.number; level = level })
unfolding number_of
token_may d t level was type h l =
    let c : Client = record { token = t.number; level = level } in
    record {
      fits = λ u m e. subst (λ (x : Token). Acts x.identity c) (only_one number_of d.tokens.slots l.tokens.apart was m e) (record { type = type; level = h });
      idle = λ e. absurd (let low = (l.tokens.given t.number (map_mem number_of was)).0 in omega arith);
      live = λ k. map_mem number_of was;
    }

pub client_loose : (d : State) (s : ℕ) (c : Client) → MayAct d c → Loose d → Loose (set_client s c d)
unfolding set_client change_station with_stations with_client references station_token client_token
client_loose d s c may l =
    let same = same_map station_token (with_client c) (λ x. refl) s d.stations in
    record {
      tokens = l.tokens;
      handles = l.handles;
      stations = length_change_at d.stations s (with_client c) ∙ l.stations;
      each_token = l.each_token;
      each_handle = l.each_handle;
      each_station = each_station_lem d s (with_client c) (λ x m. with_client_lem c x ∙ l.each_station x m) l;
      live = λ n. by_any (set_client s c d) (λ a. l.live n (by_handle d a)) (λ b. l.live n (by_station d (rw same at b))) (client_set n) (λ b. l.live n (by_elevated d b)) (λ b. l.live n (by_filtered d b));
      station_primary = λ v m k. l.station_primary v m (rw same at k);
      clients = λ v m. each_client d s (with_client c) (λ c. c.token ≡ v.number → Acts v.identity c) (l.clients v m) (λ x k. may.fits v m);
      idle = each_client d s (with_client c) (λ c. c.token ≡ 0 → c.level ≡ 0) l.idle (λ x m. may.idle);
      pairs_sized = l.pairs_sized;
      sessions = l.sessions;
      pairs = linked_later d (set_client s c d) l (later_refl d.tokens) l.live;
      sids = l.sids;
      listed = l.listed;
    }
  where
    client_set : (n : ℕ) → Mem n (map client_token (change_at s (with_client c) d.stations)) → 1 ≤ n → Mem n (numbers_of d)
    client_set n m h =
        let r = mem_map client_token (change_at s (with_client c) d.stations) m in
        ⊎_elim (λ y. let q : n ≡ c.token = r.2 ∙ ap client_token y.2 in rw q (may.live (omega arith)))
        (λ k. l.live n (by_client d (mem_by client_token r.2 k) h))
        (mem_change_at d.stations s (with_client c) r.1)

-- a change of a station's stream alone
pub record OnlyStream (f : Station → Station) : Type 0 where
  pub token : (x : Station) → station_token (f x) ≡ station_token x
  pub client : (x : Station) → (f x).client ≡ x.client

pub only_pending : (bytes : List ℕ) → OnlyStream (with_pending bytes)
unfolding with_pending station_token
only_pending bytes = record { token = λ x. refl; client = λ x. refl }

pub only_cleared : OnlyStream cleared
unfolding cleared
only_cleared = only_pending []

pub only_broken : OnlyStream broken_off
unfolding broken_off station_token
only_broken = record { token = λ x. refl; client = λ x. refl }

same_references : (d : State) (s : ℕ) (f : Station → Station) → OnlyStream f → references (change_station s f d) ≡ references d
unfolding change_station with_stations references client_token
same_references d s f only =
    ap₂ (λ (a b : List ℕ). map handle_token (lives d.handles.slots) ++ a ++ non_zero b ++ map elevated_token (lives d.pairs) ++ map filtered_token (lives d.pairs)) (same_map station_token f only.token s d.stations)
    (same_map client_token f (λ x. ap (λ (c : Client). c.token) (only.client x)) s d.stations)

pub stream_facts : (d : State) (s : ℕ) (f : Station → Station) → OnlyStream f → ((x : Station) → Mem x d.stations → stream_valid (f x) ≡ true) → StateFacts d → StateFacts (change_station s f d)
unfolding change_station with_stations client_token
stream_facts d s f only ok k =
    let l = k.loose in
    let same = same_references d s f only in
    record {
      loose = record {
        tokens = l.tokens;
        handles = l.handles;
        stations = length_change_at d.stations s f ∙ l.stations;
        each_token = l.each_token;
        each_handle = l.each_handle;
        each_station = each_station_lem d s f ok l;
        live = λ n m. l.live n (subst (Mem n) same m);
        station_primary = λ v m i. l.station_primary v m (rw (same_map station_token f only.token s d.stations) at i);
        clients = λ v m.
            let P : Client → Type 0 = λ c. c.token ≡ v.number → Acts v.identity c in
            each_client d s f P (l.clients v m) (λ x i. subst P (sym (only.client x)) (l.clients v m x i));
        idle = let P : Client → Type 0 = λ c. c.token ≡ 0 → c.level ≡ 0 in each_client d s f P l.idle (λ x i. subst P (sym (only.client x)) (l.idle x i));
        pairs_sized = l.pairs_sized;
        sessions = l.sessions;
        pairs = linked_later d (change_station s f d) l (later_refl d.tokens) l.live;
        sids = l.sids;
        listed = l.listed;
      };
      reached = λ n m. subst (Mem n) (sym same) (k.reached n m);
    }

-- ---- every token that nothing refers to is freed

release_kept : (d : State) → Loose d → (n : ℕ) → Mem n (references d) → Mem n (numbers_of (released d))
unfolding released with_tokens with_slots
release_kept d l n m =
    let r = mem_map number_of (lives d.tokens.slots) (l.live n m) in mem_by number_of r.2 (retained_in (is_referred d) d.tokens.slots r.1 (referred_is d n r.0 r.2 m))

pub release_later : (d : State) → Later d.tokens (released d).tokens
release_later d = later_of (release_carries Follows follows_refl d)

pub release_facts : (d : State) → Loose d → StateFacts (released d)
unfolding released with_tokens with_slots references
release_facts d l =
    record {
      loose = record {
        tokens = retained_facts token_slots max64 number_of d.tokens l.tokens (is_referred d);
        handles = l.handles;
        stations = l.stations;
        each_token = λ v m. l.each_token v (in_retained (is_referred d) d.tokens.slots m).0;
        each_handle = l.each_handle;
        each_station = l.each_station;
        live = release_kept d l;
        station_primary = λ v m k. l.station_primary v (in_retained (is_referred d) d.tokens.slots m).0 k;
        clients = λ v m. l.clients v (in_retained (is_referred d) d.tokens.slots m).0;
        idle = l.idle;
        pairs_sized = l.pairs_sized;
        sessions = l.sessions;
        pairs = linked_later d (released d) l (release_later d) (release_kept d l);
        sids = l.sids;
        listed = λ v m. l.listed v (in_retained (is_referred d) d.tokens.slots m).0;
      };
      reached = λ n m. let r = mem_map number_of (lives (retained (is_referred d) d.tokens.slots)) m in is_referred_lem d n r.0 r.2 (in_retained (is_referred d) d.tokens.slots r.1).1;
    }

-- ---- a new token, and then a handle on it

pub add_reached : (d : State) (t : Token) → ((k : ℕ) → Mem k (numbers_of d) → Mem k (references d)) → (k : ℕ) → Mem k (numbers_of (add_token t d)) → (k ≡ t.number) ⊎ Mem k (references (add_token t d))
unfolding add_token with_tokens added references number_of
add_reached d t r k m = ⊎_elim (λ e. inl e) (λ i. inr (r k i)) (number_placed number_of t d.tokens.slots m)

pub add_there : (d : State) (t : Token) → can_add_token d ≡ true → Mem t.number (numbers_of (add_token t d))
unfolding add_token with_tokens added can_add_token can_add number_of
add_there d t room = map_mem number_of (placed_new t d.tokens.slots (and_l _ _ room))

pub add_room : (d : State) (t : Token) → can_add_handle d ≡ true → can_add_handle (add_token t d) ≡ true
unfolding add_token with_tokens can_add_handle
add_room d t h = h

pub put_room : (d : State) (u : Token) → can_issue d ≡ true → can_issue (put_token u d) ≡ true
unfolding put_token with_tokens with_slots can_issue can_add_handle can_add_token can_add
put_room d u h = rw (some_free_lem (is_numbered u.number) u d.tokens.slots) h
