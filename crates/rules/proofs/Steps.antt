-- A request that succeeds takes a valid state to a valid one, and what lasts of its tokens and handles lasts. Assumes nothing.
use Prim.Native.Nat.{ℕ, ◌<◌}
use mathlib.Core.Path.{◌≡◌, refl}
use mathlib.Core.Bool.{true, false, not, ◌&&◌}
use mathlib.Core.Logic.{◌⊎◌, inr}
use mathlib.Core.List.{List, map}
use lib.Dec.{eqb}
use borrow.Author.Tests.{eqb-true, lt-ltb}
use Rattle.rules.specs.Basic.{all}
use Rattle.rules.specs.Given.{Given}
use Rattle.rules.specs.SidTable.{fits_table}
use Rattle.rules.specs.Decision.{carried_out, with_handle, can_issue, Decision, need◌else◌then◌, success}
use Rattle.rules.specs.Growth.{Mem, Follows, Later, HandlesLater, SidsLater}
use Rattle.rules.specs.Handle.{no_handle, is_handle, Handle}
use Rattle.rules.specs.Impersonate as Impersonate
use Rattle.rules.specs.Install as Install
use Rattle.rules.specs.Link.{with_both, partner_of}
use Rattle.rules.specs.Linking.{Linked}
use Rattle.rules.specs.Mask.{valid_mask}
use Rattle.rules.specs.Pair.{no_pair, has, partner, Pair}
use Rattle.rules.specs.Privileges.{assign_primary_token, tcb, impersonate}
use Rattle.rules.specs.State.{station_count, with_sids, entering, with_handles, with_stations, station_at, change_station, set_token, set_client, number_of, is_numbered, token_of, caller_number, caller, held, put_token, with_tokens, change_token, used, can_add_token, add_token, find_handle, handle_of, can_add_handle, add_handle, drop_handle, handle_token, station_token, elevated_token, filtered_token, references, with_pairs, pair_of, set_pair, released, State}
use Rattle.rules.specs.Station.{start_station, Client}
use Rattle.rules.specs.Table.{is_live, or_else, lives, found, live}
use Rattle.rules.specs.Token.{primary, Token}
use Rattle.rules.specs.Valid.{handle_valid, is_listed}
use Rattle.rules.proofs.Logic.{and_l, and_r, and_i, get_or_mem, map_mem}
use Rattle.rules.proofs.Tables.{on_if, live_slot, found_in, found_some}
use Rattle.rules.proofs.SidNumbers.{given_valid, all_entered_valid}
use Rattle.rules.proofs.Facts.{TokenFacts, Loose, StateFacts}
use Rattle.rules.proofs.Changes.{later_refl, later_trans, handles_refl, handles_trans, sids_refl, sids_trans, sids_entered, handle_later, drop_later, numbers_of, by_handle, by_station, by_elevated, by_filtered, put_loose, put_later, put_reached, add_loose, add_later, handle_loose, handle_reached, drop_loose, pair_loose, enter_loose, token_loose, MayAct, client_loose, release_facts, release_later, add_reached, add_there, add_room}

pub record Advance (d e : State) : Type 0 where
  pub facts : StateFacts e
  pub later : Later d.tokens e.tokens
  pub handles : HandlesLater d.handles e.handles
  pub sids : SidsLater d.sids e.sids

pub stays : {d : State} → StateFacts d → Advance d d
stays f = record { facts = f; later = later_refl _; handles = handles_refl _; sids = sids_refl _ }

infixr 3 ◌then◌
pub ◌then◌ : {d e f : State} → Advance d e → Advance e f → Advance d f
◌then◌ a b = record { facts = b.facts; later = later_trans _ _ _ a.later b.later; handles = handles_trans _ _ _ a.handles b.handles; sids = sids_trans a.sids b.sids }

-- ---- the token of a number that is given

pub record Is (d : State) (n : ℕ) : Type 0 where
  pub was : Mem (token_of d n) (lives d.tokens.slots)
  pub number : (token_of d n).number ≡ n

pub token_ok : (d : State) (n : ℕ) → StateFacts d → Is d n → TokenFacts (token_of d n)
token_ok d n f i = f.loose.each_token (token_of d n) i.was

pub is_live_lem : (d : State) (n : ℕ) → Mem n (map number_of (lives d.tokens.slots)) → Is d n
unfolding token_of or_else is_numbered number_of
is_live_lem d n m = go (found_some number_of n d.tokens.slots m)
  where
    go : (t : Token) × (found (λ (c : Token). eqb (number_of c) n) d.tokens.slots ≡ live t) → Is d n
    go (t, e) = let r = found_in (is_numbered n) d.tokens.slots e in record { was = rw e r.0; number = rw e (eqb-true t.number n r.1) }

-- a token's partner
pub partner_live : (d : State) (n : ℕ) → StateFacts d → is_live (pair_of d n) ≡ true → Is d (partner_of d n)
unfolding pair_of partner_of partner or_else elevated_token filtered_token
partner_live d n f h =
    let p = or_else no_pair (found (has n) d.pairs) in
    let m = (found_in (has n) d.pairs (live_slot no_pair (found (has n) d.pairs) h)).0 in
    on_if (Is d) (eqb p.elevated n) _ _
    (λ e. is_live_lem d p.filtered (f.loose.live p.filtered (by_filtered d (map_mem filtered_token m))))
    (λ e. is_live_lem d p.elevated (f.loose.live p.elevated (by_elevated d (map_mem elevated_token m))))

pub is_caller : (d : State) (s : ℕ) → StateFacts d → s < station_count → Mem (caller_number d s) (map number_of (lives d.tokens.slots))
unfolding caller_number station_at station_token
is_caller d s f h = f.loose.live (caller_number d s) (by_station d (map_mem station_token (get_or_mem d.stations s start_station (rw f.loose.stations h))))

-- ---- the steps

pub change : (d : State) (n : ℕ) (f : Token → Token) → StateFacts d → Is d n → TokenFacts (f (token_of d n)) → Follows (token_of d n) (f (token_of d n)) → Advance d (change_token n f d)
unfolding change_token put_token with_tokens
change d n f k i g h =
    let t = token_of d n in
    record {
      facts = record { loose = put_loose d t (f t) i.was h g k.loose; reached = put_reached d t (f t) i.was h k.reached };
      later = put_later d t (f t) i.was h;
      handles = handles_refl d.handles;
      sids = sids_refl d.sids;
    }

handle_ok : (s number token mask : ℕ) → s < station_count → valid_mask mask ≡ true → handle_valid (record { station = s; number = number; token = token; mask = mask }) ≡ true
unfolding handle_valid
handle_ok s number token mask h m = and_i (lt-ltb s station_count h) m

-- a handle is added on a token that is there
handle_facts : (d : State) (s n mask : ℕ) → Loose d → ((k : ℕ) → Mem k (numbers_of d) → (k ≡ n) ⊎ Mem k (references d)) → s < station_count → valid_mask mask ≡ true → can_add_handle d ≡ true → Mem n (numbers_of d) → StateFacts (add_handle s n mask d)
handle_facts d s n mask l r h m room on =
    record { loose = handle_loose d s n mask room (handle_ok s d.handles.next n mask h m) on l; reached = handle_reached d s n mask room r }

pub open_step : (d : State) (s n mask : ℕ) → StateFacts d → s < station_count → valid_mask mask ≡ true → can_add_handle d ≡ true → Mem n (numbers_of d) → Advance d (add_handle s n mask d)
unfolding add_handle with_handles
open_step d s n mask f h m room on =
    record { facts = handle_facts d s n mask f.loose (λ k i. inr (f.reached k i)) h m room on; later = later_refl d.tokens; handles = handle_later d s n mask; sids = sids_refl d.sids }

-- a token is made, and a handle on it
pub issue_step : (d : State) (s mask : ℕ) (t : Token) → StateFacts d → s < station_count → valid_mask mask ≡ true → can_issue d ≡ true → t.number ≡ d.tokens.next → TokenFacts t → is_listed d.sids t ≡ true → Advance d (add_handle s t.number mask (add_token t d))
unfolding add_handle with_handles can_issue add_token with_tokens
issue_step d s mask t f h m room e g known =
    let room1 = and_l (can_add_handle d) (can_add_token d) room in
    let room2 = and_r (can_add_handle d) (can_add_token d) room in
    record {
      facts =
          handle_facts (add_token t d) s t.number mask (add_loose d t e room2 g known f.loose) (add_reached d t f.reached) h m (add_room d t room1) (add_there d t room2);
      later = add_later d t e;
      handles = handle_later (add_token t d) s t.number mask;
      sids = sids_refl d.sids;
    }

pub close_step : (d : State) (s n : ℕ) → StateFacts d → Advance d (released (drop_handle s n d))
unfolding drop_handle with_handles released with_tokens
close_step d s n f =
    record { facts = release_facts (drop_handle s n d) (drop_loose d s n f.loose); later = release_later (drop_handle s n d); handles = drop_later d s n; sids = sids_refl d.sids }

pub token_step : (d : State) (s : ℕ) (t : Token) → StateFacts d → Mem t (lives d.tokens.slots) → t.identity.type ≡ primary → Advance d (released (set_token s t.number d))
unfolding set_token change_station with_stations released with_tokens
token_step d s t f m p =
    record {
      facts = release_facts (set_token s t.number d) (token_loose d s t m p f.loose);
      later = release_later (set_token s t.number d);
      handles = handles_refl d.handles;
      sids = sids_refl d.sids;
    }

pub client_step : (d : State) (s : ℕ) (c : Client) → StateFacts d → MayAct d c → Advance d (released (set_client s c d))
unfolding set_client change_station with_stations released with_tokens
client_step d s c f may =
    record {
      facts = release_facts (set_client s c d) (client_loose d s c may f.loose);
      later = release_later (set_client s c d);
      handles = handles_refl d.handles;
      sids = sids_refl d.sids;
    }

pub pair_step : (d : State) (p : Pair) → StateFacts d → Linked d p → Advance d (released (set_pair p d))
unfolding set_pair with_pairs released with_tokens
pair_step d p f l =
    record {
      facts = release_facts (set_pair p d) (pair_loose d p l f.loose);
      later = release_later (set_pair p d);
      handles = handles_refl d.handles;
      sids = sids_refl d.sids;
    }

-- ---- SIDs that a request gives enter the table

-- nothing else changes
pub enter_handle : (xs : List Given) (d : State) (s n right : ℕ) (go : Handle → Token → Decision) → with_handle (entering xs d) s n right go ≡ with_handle d s n right go
unfolding entering with_sids with_handle find_handle handle_of token_of
enter_handle xs d s n right go = refl

pub enter_found : (xs : List Given) (d : State) (s n : ℕ) → find_handle (entering xs d) s n ≡ find_handle d s n
unfolding entering with_sids find_handle
enter_found xs d s n = refl

pub enter_used : (xs : List Given) (d : State) (n s : ℕ) → used n s (entering xs d) ≡ entering xs (used n s d)
unfolding entering with_sids used change_token put_token with_tokens token_of caller_number station_at
enter_used xs d n s = refl

pub enter_step : (d : State) (xs : List Given) → StateFacts d → all given_valid xs ≡ true → fits_table (entering xs d).sids ≡ true → Advance d (entering xs d)
unfolding entering with_sids references
enter_step d xs f ok fits =
    record {
      facts = record { loose = enter_loose d xs (all_entered_valid xs d.sids f.loose.sids ok fits) f.loose; reached = f.reached };
      later = later_refl d.tokens;
      handles = handles_refl d.handles;
      sids = sids_entered xs d.sids;
    }

-- ---- how a request is decided

-- the state that the effect leads to, where the checks pass, has the property
unfoldable pub Ends : (State → Type 0) → Decision → Type 0
Ends P (need◌else◌then◌ b r rest) = b ≡ true → Ends P rest
Ends P (success e bytes) = P e

pub ended : (P : State → Type 0) (d : State) (x : Decision) → P d → Ends P x → P (carried_out d x).state
unfolding carried_out Ends
ended P d (need◌else◌then◌ true r rest) p k = ended P d rest p (k refl)
ended P d (need◌else◌then◌ false r rest) p k = p
ended P d (success e bytes) p k = k

abbrev pub Keeps : State → Decision → Type 0
Keeps d = Ends (Advance d)

-- a handle that is found, and its token
pub record Found (d : State) (h : Handle) : Type 0 where
  pub was : Mem h (lives d.handles.slots)
  pub token : Is d h.token

pub found_handle : (d : State) (s n : ℕ) → StateFacts d → is_live (find_handle d s n) ≡ true → Found d (handle_of d s n)
unfolding handle_of find_handle handle_token
found_handle d s n f known =
    let here = (found_in (is_handle s n) d.handles.slots (live_slot no_handle (found (is_handle s n) d.handles.slots) known)).0 in
    record { was = here; token = is_live_lem d (handle_of d s n).token (f.loose.live (handle_of d s n).token (by_handle d (map_mem handle_token here))) }

-- what begins with it
pub after_handle : (P : State → Type 0) (d : State) (s n right : ℕ) (go : Handle → Token → Decision) → StateFacts d
    → (Found d (handle_of d s n) → Ends P (go (handle_of d s n) (token_of d (handle_of d s n).token))) → Ends P (with_handle d s n right go)
unfolding with_handle Ends
after_handle P d s n right go f k known permitted = k (found_handle d s n f known)

pub after_both : (P : State → Type 0) (d : State) (s n m right : ℕ) (go : Handle → Handle → Decision) → StateFacts d
    → (Found d (handle_of d s n) → Found d (handle_of d s m) → Ends P (go (handle_of d s n) (handle_of d s m))) → Ends P (with_both d s n m right go)
unfolding with_both Ends
after_both P d s n m right go f k known permitted =
    let n_live = is_live (find_handle d s n) in
    let m_live = is_live (find_handle d s m) in
    k (found_handle d s n f (and_l n_live m_live known)) (found_handle d s m f (and_r n_live m_live known))

pub on_handle : (d : State) (s n right : ℕ) (go : Handle → Token → Decision) → StateFacts d
    → (Found d (handle_of d s n) → Keeps d (go (handle_of d s n) (token_of d (handle_of d s n).token))) → Keeps d (with_handle d s n right go)
on_handle d = after_handle (Advance d) d

-- ---- the used marks of requests 11 and 12: what holds in each case holds with them

pub install_marked : (P : State → Type 0) (d : State) (s : ℕ) (t : Token) → P (used assign_primary_token s d) → P (used tcb s (used assign_primary_token s d)) → P (Install.marked s t d)
unfolding Install.marked
install_marked P d s t once twice = on_if P (Install.matches t (caller d s)) _ _ (λ e. once) (λ e. twice)

pub client_marked : (P : State → Type 0) (d : State) (s : ℕ) (t : Token) → P (used impersonate s d) → P d → P (Impersonate.marked s t d)
unfolding Impersonate.marked
client_marked P d s t once none = on_if P (not (Impersonate.alike (caller d s) t) && held d s impersonate) _ _ (λ e. once) (λ e. none)
