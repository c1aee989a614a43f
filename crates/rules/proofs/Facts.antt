-- A valid state, as facts. Assumes nothing.
use Prim.Native.Nat.{ℕ, ◌-◌, ◌≤◌, ◌<◌}
use native.Mathlib.Omega.{arith}
use mathlib.Core.Path.{◌≡◌, refl, sym, ap, ◌∙◌}
use mathlib.Core.Bool.{Bool, true}
use mathlib.Core.Logic.{⊎_elim}
use mathlib.Core.List.{List, map}
use lib.Dec.{eqb, leb}
use lib.ListN.{length}
use borrow.Author.Tests.{eqb-true, eq-eqb, leb-true, le-leb, ltb-true}
use Rattle.rules.specs.Basic.{all, member, distinct}
use Rattle.rules.specs.Group.{Group}
use Rattle.rules.specs.Growth.{Mem, Live}
use Rattle.rules.specs.Handle.{Handle}
use Rattle.rules.specs.Link.{is_of_session}
use Rattle.rules.specs.Linking.{InPair, Linked}
use Rattle.rules.specs.Number.{max32, max64}
use Rattle.rules.specs.Pair.{Pair}
use Rattle.rules.specs.SidTable.{sids_valid}
use Rattle.rules.specs.State.{token_slots, handle_slots, station_count, pair_slots, number_of, is_numbered, no_token, token_of, handle_number, station_token, client_token, references, is_referred, State}
use Rattle.rules.specs.Station.{Station, Client}
use Rattle.rules.specs.Table.{or_else, lives, some_free, with_slots, can_add, added, found, exchanged, retained, Slot, Table, free, live}
use Rattle.rules.specs.Token.{primary, impersonation, default_elevation, full, limited, max_groups, new_token, Token, Identity}
use Rattle.rules.specs.Valid.{is32, is64, between, identity_valid, privileges_valid, group_valid, groups_valid, limits_valid, defaults_valid, token_valid, handle_valid, stream_valid, table_valid, is_token, primary_at_station, client_fits, client_at_stations, level_valid, session_of, pair_fits, pair_valid, pairs_valid, is_listed, valid}
use Rattle.rules.proofs.Logic.{and_l, and_r, and_i, implies_e, implies_i, all_mem, mem_all, map_mem, mem_by, mem_map, member_mem, mem_member}
use Rattle.rules.proofs.Tables.{length_placed, length_exchanged, length_retained, number_placed, number_retained, number_freed, distinct_placed, distinct_retained, distinct_freed, same_numbers, found_in, found_some, only_one}

-- ---- a token

pub few_groups : (gs : List Group) → groups_valid gs ≡ true → length gs ≤ max_groups
unfolding groups_valid
few_groups gs h = leb-true (length gs) max_groups (and_l _ (all group_valid gs) h)

pub each_group : (gs : List Group) → groups_valid gs ≡ true → all group_valid gs ≡ true
unfolding groups_valid
each_group gs h = and_r (leb (length gs) max_groups) _ h

pub record TokenFacts (t : Token) : Type 0 where
  pub modified : is64 t.modified ≡ true
  pub elevation : between 1 3 t.elevation ≡ true
  pub scope : is32 t.scope ≡ true
  pub root : leb t.identity.root t.number ≡ true
  pub identity : identity_valid t.identity ≡ true
  pub privileges : privileges_valid t.privileges ≡ true
  pub groups : groups_valid t.groups ≡ true
  pub limits : limits_valid t.limits ≡ true
  pub defaults : defaults_valid t.groups t.defaults ≡ true

pub token_facts : (t : Token) → token_valid t ≡ true → TokenFacts t
unfolding token_valid
token_facts t h = search (and_l, and_r) depth 9

pub facts_token : (t : Token) → TokenFacts t → token_valid t ≡ true
unfolding token_valid
facts_token t f =
    and_i (and_i (and_i (and_i (and_i (and_i (and_i (and_i f.modified f.elevation) f.scope) f.root) f.identity) f.privileges) f.groups) f.limits) f.defaults

-- ---- a table

pub record TableFacts {A : Type 0} (size top : ℕ) (number : A → ℕ) (x : Table A) : Type 0 where
  pub sized : length x.slots ≡ size
  pub low : 1 ≤ x.next
  pub high : x.next ≤ top
  pub apart : distinct (map number (lives x.slots)) ≡ true
  pub given : (n : ℕ) → Mem n (map number (lives x.slots)) → (1 ≤ n) × (n < x.next)

pub between_low : (a b n : ℕ) → between a b n ≡ true → a ≤ n
unfolding between
between_low a b n h = leb-true a n (and_l (leb a n) (leb n b) h)

pub between_high : (a b n : ℕ) → between a b n ≡ true → n ≤ b
unfolding between
between_high a b n h = leb-true n b (and_r (leb a n) (leb n b) h)

between_i : (a b n : ℕ) → a ≤ n → n ≤ b → between a b n ≡ true
unfolding between
between_i a b n h k = and_i (le-leb a n h) (le-leb n b k)

module _ {A : Type 0} (size top : ℕ) (number : A → ℕ) (x : Table A) where
  pub table_facts : table_valid size top number x ≡ true → TableFacts size top number x
  unfolding table_valid
  table_facts h =
      let ns = map number (lives x.slots) in
      let size : eqb (length x.slots) size ≡ true = search (and_l, and_r) in
      let range : between 1 top x.next ≡ true = search (and_l, and_r) in
      let apart : distinct ns ≡ true = search (and_l, and_r) in
      let given : all (between 1 (x.next - 1)) ns ≡ true = search (and_l, and_r) in
      record {
        sized = eqb-true _ _ size;
        low = between_low 1 top x.next range;
        high = between_high 1 top x.next range;
        apart = apart;
        given = λ n m.
            let g = all_mem (between 1 (x.next - 1)) ns given m in
            let low = between_low 1 top x.next range in
            let g1 = between_low 1 (x.next - 1) n g in
            let g2 = between_high 1 (x.next - 1) n g in
            omega arith;
      }

  pub facts_table : TableFacts size top number x → table_valid size top number x ≡ true
  unfolding table_valid
  facts_table f =
      and_i (and_i (and_i (eq-eqb (length x.slots) size f.sized) (between_i 1 top x.next f.low f.high)) f.apart)
      (mem_all (between 1 (x.next - 1)) (map number (lives x.slots))
      (λ n m. let g = f.given n m in between_i 1 (x.next - 1) n g.0 (let k = g.1 in omega arith)))

-- a new record with the next number, another record with the same number, and fewer records
module _ {A : Type 0} (size top : ℕ) (number : A → ℕ) (x : Table A) (f : TableFacts size top number x) where
  pub added_facts : (a : A) → number a ≡ x.next → can_add top x ≡ true → TableFacts size top number (added a x)
  unfolding added can_add
  added_facts a e room =
      let below = ltb-true x.next top (and_r (some_free x.slots) _ room) in
      record {
        sized = length_placed a x.slots ∙ f.sized;
        low = omega arith;
        high = omega arith;
        apart = distinct_placed number a x.slots (λ m. let k = (f.given _ m).1 in omega arith) f.apart;
        given = λ n m. ⊎_elim (λ q. let l = f.low in omega arith) (λ k. let g = f.given n k in let g0 = g.0 in let g1 = g.1 in omega arith) (number_placed number a x.slots m);
      }

  pub put_facts : (a : A) → TableFacts size top number (with_slots (exchanged (λ c. eqb (number c) (number a)) (live a) x.slots) x)
  unfolding with_slots
  put_facts a =
      let same = same_numbers number a x.slots in
      record {
        sized = length_exchanged _ (live a) x.slots ∙ f.sized;
        low = f.low;
        high = f.high;
        apart = ap distinct same ∙ f.apart;
        given = λ n m. f.given n (rw same at m);
      }

  pub freed_facts : (t : A → Bool) → TableFacts size top number (with_slots (exchanged t free x.slots) x)
  unfolding with_slots
  freed_facts t =
      record {
        sized = length_exchanged t free x.slots ∙ f.sized;
        low = f.low;
        high = f.high;
        apart = distinct_freed number t x.slots f.apart;
        given = λ n m. f.given n (number_freed number t x.slots m);
      }

  pub retained_facts : (t : A → Bool) → TableFacts size top number (with_slots (retained t x.slots) x)
  unfolding with_slots
  retained_facts t =
      record {
        sized = length_retained t x.slots ∙ f.sized;
        low = f.low;
        high = f.high;
        apart = distinct_retained number t x.slots f.apart;
        given = λ n m. f.given n (number_retained number t x.slots m);
      }

-- ---- the state: all but that every token is referred to, and that

-- a station acts for a token of this identity
pub record Acts (i : Identity) (c : Client) : Type 0 where
  pub type : i.type ≡ impersonation
  pub level : c.level ≤ i.level

pub record Loose (d : State) : Type 0 where
  pub tokens : TableFacts token_slots max64 number_of d.tokens
  pub handles : TableFacts handle_slots max32 handle_number d.handles
  pub stations : length d.stations ≡ station_count
  pub each_token : (t : Token) → Mem t (lives d.tokens.slots) → TokenFacts t
  pub each_handle : (h : Handle) → Mem h (lives d.handles.slots) → handle_valid h ≡ true
  pub each_station : (x : Station) → Mem x d.stations → stream_valid x ≡ true
  pub live : (n : ℕ) → Mem n (references d) → Mem n (map number_of (lives d.tokens.slots))
  pub station_primary : (t : Token) → Mem t (lives d.tokens.slots) → Mem t.number (map station_token d.stations) → t.identity.type ≡ primary
  pub clients : (t : Token) → Mem t (lives d.tokens.slots) → (x : Station) → Mem x d.stations → client_token x ≡ t.number → Acts t.identity x.client
  pub idle : (x : Station) → Mem x d.stations → client_token x ≡ 0 → x.client.level ≡ 0
  pub pairs_sized : length d.pairs ≡ pair_slots
  pub sessions : distinct (map session_of (lives d.pairs)) ≡ true
  pub pairs : (p : Pair) → Mem p (lives d.pairs) → Linked d p
  pub sids : sids_valid d.sids ≡ true
  pub listed : (t : Token) → Mem t (lives d.tokens.slots) → is_listed d.sids t ≡ true

pub record StateFacts (d : State) : Type 0 where
  pub loose : Loose d
  pub reached : (n : ℕ) → Mem n (map number_of (lives d.tokens.slots)) → Mem n (references d)

is_token_lem : (d : State) (n : ℕ) → is_token d n ≡ true → Mem n (map number_of (lives d.tokens.slots))
unfolding is_token
is_token_lem d n h = member_mem n (map number_of (lives d.tokens.slots)) h

token_is : (d : State) (n : ℕ) → Mem n (map number_of (lives d.tokens.slots)) → is_token d n ≡ true
unfolding is_token
token_is d n m = mem_member m

is_primary : (d : State) (t : Token) → primary_at_station d t ≡ true → Mem t.number (map station_token d.stations) → t.identity.type ≡ primary
unfolding primary_at_station
is_primary d t h m = eqb-true t.identity.type primary (implies_e (member t.number (map station_token d.stations)) _ h (mem_member m))

primary_is : (d : State) (t : Token) → (Mem t.number (map station_token d.stations) → t.identity.type ≡ primary) → primary_at_station d t ≡ true
unfolding primary_at_station
primary_is d t h = implies_i (member t.number (map station_token d.stations)) _ (λ m. eq-eqb t.identity.type primary (h (member_mem _ _ m)))

is_client : (t : Token) (x : Station) → client_fits t x ≡ true → client_token x ≡ t.number → Acts t.identity x.client
unfolding client_fits
is_client t x h e =
    let k = implies_e (eqb (client_token x) t.number) _ h (eq-eqb (client_token x) t.number e) in
    record {
      type = eqb-true t.identity.type impersonation (and_l _ (leb x.client.level t.identity.level) k);
      level = leb-true x.client.level t.identity.level (and_r (eqb t.identity.type impersonation) _ k);
    }

client_is : (t : Token) (x : Station) → (client_token x ≡ t.number → Acts t.identity x.client) → client_fits t x ≡ true
unfolding client_fits
client_is t x h =
    implies_i (eqb (client_token x) t.number) _ (λ q.
    let a = h (eqb-true (client_token x) t.number q) in
    and_i (eq-eqb t.identity.type impersonation a.type) (le-leb x.client.level t.identity.level a.level))

is_idle : (x : Station) → level_valid x ≡ true → client_token x ≡ 0 → x.client.level ≡ 0
unfolding level_valid
is_idle x h e = eqb-true x.client.level 0 (implies_e (eqb (client_token x) 0) _ h (eq-eqb (client_token x) 0 e))

idle_is : (x : Station) → (client_token x ≡ 0 → x.client.level ≡ 0) → level_valid x ≡ true
unfolding level_valid
idle_is x h = implies_i (eqb (client_token x) 0) _ (λ q. eq-eqb x.client.level 0 (h (eqb-true (client_token x) 0 q)))

-- ---- a linked pair: a dead number stands for a token of elevation Default, so one that fits is live

not_default : (d : State) (n : ℕ) → ((token_of d n).elevation ≡ default_elevation → ⊥) → Live (token_of d n) d × ((token_of d n).number ≡ n)
unfolding token_of or_else no_token new_token is_numbered Live
not_default d n h = go (found (is_numbered n) d.tokens.slots) refl h
  where
    go : (p : Slot Token) → found (is_numbered n) d.tokens.slots ≡ p → ((or_else no_token p).elevation ≡ default_elevation → ⊥)
        → Mem (or_else no_token p) (lives d.tokens.slots) × ((or_else no_token p).number ≡ n)
    go free e h = absurd (h refl)
    go (live t) e h = let r = found_in (is_numbered n) d.tokens.slots e in (r.0, eqb-true t.number n r.1)

-- the token of a live token's number
pub token_at_lem : (d : State) → distinct (map number_of (lives d.tokens.slots)) ≡ true → {t : Token} {n : ℕ} → Mem t (lives d.tokens.slots) → t.number ≡ n → token_of d n ≡ t
unfolding token_of or_else is_numbered number_of
token_at_lem d apart {t} {n} m e = go (found_some number_of n d.tokens.slots (mem_by number_of (sym e) m))
  where
    go : (u : Token) × (found (λ (c : Token). eqb (number_of c) n) d.tokens.slots ≡ live u) → token_of d n ≡ t
    go (u, q) =
        let r = found_in (is_numbered n) d.tokens.slots q in
        rw q (only_one number_of d.tokens.slots apart r.0 m (eqb-true u.number n r.1 ∙ sym e))

-- one of its tokens
fits_pair_lem : (d : State) (n e s : ℕ) → (e ≡ default_elevation → ⊥) → eqb (token_of d n).elevation e ≡ true → is_of_session s (token_of d n) ≡ true
    → (x : InPair d n e s) × (x.token ≡ token_of d n)
unfolding is_of_session
fits_pair_lem d n e s ne h k =
    let t = token_of d n in
    let q = eqb-true t.elevation e h in
    let a = not_default d n (λ z. ne (sym q ∙ z)) in (
      record {
        token = t;
        live = a.0;
        number = a.1;
        elevation = q;
        type = eqb-true t.identity.type primary (and_l _ (eqb t.identity.session s) k);
        session = eqb-true t.identity.session s (and_r (eqb t.identity.type primary) _ k);
      },
      refl,
    )

pair_fits_lem : (d : State) {n e s : ℕ} → distinct (map number_of (lives d.tokens.slots)) ≡ true → (x : InPair d n e s)
    → (eqb (token_of d n).elevation e ≡ true) × (is_of_session s (token_of d n) ≡ true) × (token_of d n ≡ x.token)
unfolding is_of_session Live
pair_fits_lem d {n} {e} {s} apart x =
    let q = token_at_lem d apart x.live x.number in (
      rw q (eq-eqb x.token.elevation e x.elevation),
      rw q (and_i (eq-eqb x.token.identity.type primary x.type) (eq-eqb x.token.identity.session s x.session)),
      q,
    )

is_linked : (d : State) (p : Pair) → pair_valid d p ≡ true → Linked d p
unfolding pair_valid pair_fits
is_linked d p h =
    let t = token_of d p.elevated in
    let u = token_of d p.filtered in
    let a = fits_pair_lem d p.elevated full p.session (λ q. omega arith) (search (and_l, and_r)) (search (and_l, and_r)) in
    let b = fits_pair_lem d p.filtered limited p.session (λ q. omega arith) (search (and_l, and_r)) (search (and_l, and_r)) in
    let same : eqb t.identity.user u.identity.user ≡ true = search (and_l, and_r) in
    record {
      elevated = a.0;
      filtered = b.0;
      user =
          ap (λ (x : Token). x.identity.user) a.1 ∙ eqb-true t.identity.user u.identity.user same
          ∙ sym (ap (λ (x : Token). x.identity.user) b.1);
    }

linked_is : (d : State) (p : Pair) → distinct (map number_of (lives d.tokens.slots)) ≡ true → Linked d p → pair_valid d p ≡ true
unfolding pair_valid pair_fits
linked_is d p apart l =
    let a = pair_fits_lem d apart l.elevated in
    let b = pair_fits_lem d apart l.filtered in
    let user = ap (λ (x : Token). x.identity.user) a.2 ∙ l.user ∙ sym (ap (λ (x : Token). x.identity.user) b.2) in
    and_i (and_i (and_i (and_i a.0 a.1) b.0) b.1) (eq-eqb _ _ user)

pub is_referred_lem : (d : State) (n : ℕ) (t : Token) → n ≡ number_of t → is_referred d t ≡ true → Mem n (references d)
unfolding is_referred number_of
is_referred_lem d n t e h = rw e (member_mem t.number (references d) h)

pub referred_is : (d : State) (n : ℕ) (t : Token) → n ≡ number_of t → Mem n (references d) → is_referred d t ≡ true
unfolding is_referred number_of
referred_is d n t e m = mem_member (rw e at m)

pub valid_facts : (d : State) → valid d ≡ true → StateFacts d
unfolding valid client_at_stations pairs_valid
valid_facts d h =
    let ts = lives d.tokens.slots in
    let tokens : table_valid token_slots max64 number_of d.tokens ≡ true = search (and_l, and_r) depth 16 in
    let handles : table_valid handle_slots max32 handle_number d.handles ≡ true = search (and_l, and_r) depth 16 in
    let stations : eqb (length d.stations) station_count ≡ true = search (and_l, and_r) depth 16 in
    let each : all token_valid ts ≡ true = search (and_l, and_r) depth 16 in
    let each_handle : all handle_valid (lives d.handles.slots) ≡ true = search (and_l, and_r) depth 16 in
    let each_station : all stream_valid d.stations ≡ true = search (and_l, and_r) depth 16 in
    let alive : all (is_token d) (references d) ≡ true = search (and_l, and_r) depth 16 in
    let reached : all (is_referred d) ts ≡ true = search (and_l, and_r) depth 16 in
    let primaries : all (primary_at_station d) ts ≡ true = search (and_l, and_r) depth 16 in
    let acts : all (client_at_stations d) ts ≡ true = search (and_l, and_r) depth 16 in
    let idle : all level_valid d.stations ≡ true = search (and_l, and_r) depth 16 in
    let paired : pairs_valid d ≡ true = search (and_l, and_r) depth 16 in
    let sids : sids_valid d.sids ≡ true = search (and_l, and_r) depth 16 in
    let listed : all (is_listed d.sids) ts ≡ true = search (and_l, and_r) depth 16 in
    let pairs_sized : eqb (length d.pairs) pair_slots ≡ true = search (and_l, and_r) in
    let sessions : distinct (map session_of (lives d.pairs)) ≡ true = search (and_l, and_r) in
    let linked : all (pair_valid d) (lives d.pairs) ≡ true = search (and_l, and_r) in
    record {
      loose = record {
        tokens = table_facts token_slots max64 number_of d.tokens tokens;
        handles = table_facts handle_slots max32 handle_number d.handles handles;
        stations = eqb-true (length d.stations) station_count stations;
        each_token = λ t m. token_facts t (all_mem token_valid ts each m);
        each_handle = λ x m. all_mem handle_valid (lives d.handles.slots) each_handle m;
        each_station = λ x m. all_mem stream_valid d.stations each_station m;
        live = λ n m. is_token_lem d n (all_mem (is_token d) (references d) alive m);
        station_primary = λ t m k. is_primary d t (all_mem (primary_at_station d) ts primaries m) k;
        clients = λ t m x k. is_client t x (all_mem (client_fits t) d.stations (all_mem (client_at_stations d) ts acts m) k);
        idle = λ x m. is_idle x (all_mem level_valid d.stations idle m);
        pairs_sized = eqb-true (length d.pairs) pair_slots pairs_sized;
        sessions = sessions;
        pairs = λ p m. is_linked d p (all_mem (pair_valid d) (lives d.pairs) linked m);
        sids = sids;
        listed = λ t m. all_mem (is_listed d.sids) ts listed m;
      };
      reached = λ n m. let r = mem_map number_of ts m in is_referred_lem d n r.0 r.2 (all_mem (is_referred d) ts reached r.1);
    }

pub facts_valid : (d : State) → StateFacts d → valid d ≡ true
unfolding valid client_at_stations pairs_valid
facts_valid d f =
    let l = f.loose in
    let ts = lives d.tokens.slots in
    and_i (and_i (and_i (and_i (and_i (and_i (and_i (and_i (and_i (and_i (and_i (and_i (and_i
    (facts_table token_slots max64 number_of d.tokens l.tokens)
    (facts_table handle_slots max32 handle_number d.handles l.handles))
    (eq-eqb (length d.stations) station_count l.stations))
    (mem_all token_valid ts (λ t m. facts_token t (l.each_token t m))))
    (mem_all handle_valid (lives d.handles.slots) l.each_handle))
    (mem_all stream_valid d.stations l.each_station))
    (mem_all (is_token d) (references d) (λ n m. token_is d n (l.live n m))))
    (mem_all (is_referred d) ts (λ t m. referred_is d _ t refl (f.reached (number_of t) (map_mem number_of m)))))
    (mem_all (primary_at_station d) ts (λ t m. primary_is d t (l.station_primary t m))))
    (mem_all (client_at_stations d) ts (λ t m. mem_all (client_fits t) d.stations (λ x k. client_is t x (l.clients t m x k)))))
    (mem_all level_valid d.stations (λ x m. idle_is x (l.idle x m))))
    (and_i (and_i (eq-eqb (length d.pairs) pair_slots l.pairs_sized) l.sessions)
    (mem_all (pair_valid d) (lives d.pairs) (λ p m. linked_is d p l.tokens.apart (l.pairs p m)))))
    l.sids)
    (mem_all (is_listed d.sids) ts l.listed)
