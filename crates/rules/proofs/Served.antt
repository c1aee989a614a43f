-- Whole requests are served one by one, in the order of their last bytes, and the answers are theirs and those of the breaks. Assumes nothing.
use Prim.Native.Nat.{ℕ, ◌+◌}
use mathlib.Core.Path.{◌≡◌, refl, sym, ap, ◌∙◌}
use mathlib.Core.Bool.{Bool, true, false}
use mathlib.Core.List.{List, [], ◌∷◌, ◌++◌, map}
use Rattle.std.specs.Prelude.{if◌then◌else◌}
use Rattle.rules.specs.Number.{low_first, encode_in, encode}
use Rattle.rules.specs.Frame.{frame, framed, Framed, part, broken, whole}
use Rattle.rules.specs.Model.{joined, byte_at, step, silent}
use Rattle.rules.specs.Run.{happens, state_of, after_events, Timed, place_of, told_at, timed_to, Event, byte, reconnected, Outcome, outcome_of, outcome_at, outcomes, served_by, answer_to, answered_at, answered_from, SameRights, OneByOne}
use Rattle.rules.specs.State.{State, station_at, with_stations, change_station, station_token, station_client}
use Rattle.rules.specs.Station.{Station, cleared, with_pending, broken_off}
use Rattle.rules.proofs.Changes.{OnlyStream, only_pending, only_cleared, only_broken, same_map}

-- ---- the answers

-- what a byte brings is what its outcome is answered by
joined_tells : (n : ℕ) (p : State) (s : ℕ) (bytes : List ℕ) (x : Framed) (rest : List Timed) → told_at n s (joined p s bytes x) rest ≡ map (answered_at n) (outcome_of p s x) ++ rest
unfolding joined told_at outcome_of answered_at answer_to served_by frame low_first encode_in encode
joined_tells n p s bytes part rest = refl
joined_tells n p s bytes broken rest = refl
joined_tells n p s bytes (whole body) rest = refl

event_tells : (n : ℕ) (p : State) (e : Event) (rest : List Timed) → told_at n (place_of e) (happens p e) rest ≡ map (answered_at n) (outcome_at p e) ++ rest
unfolding happens step byte_at told_at place_of outcome_at
event_tells n p (reconnected s) rest = refl
event_tells n p (byte s b) rest = go (station_at p s).is_broken
  where
    go : (t : Bool) → let bytes = (station_at p s).pending ++ (b ∷ []) in
        told_at n s (if t then silent p else joined p s bytes (framed bytes)) rest ≡ map (answered_at n) (if t then [] else outcome_of p s (framed bytes)) ++ rest
    go true = refl
    go false = let bytes = (station_at p s).pending ++ (b ∷ []) in joined_tells n p s bytes (framed bytes) rest

pub answers_served : (n : ℕ) (es : List Event) (p : State) → timed_to n es p ≡ answered_from n es p
unfolding timed_to answered_from
answers_served n [] p = refl
answers_served n (e ∷ es) p =
    let q = state_of (happens p e) in
    event_tells (n + 1) p e (timed_to (n + 1) es q) ∙ ap (λ rest. map (answered_at (n + 1)) (outcome_at p e) ++ rest) (answers_served (n + 1) es q)

-- ---- one by one

pub rights_refl : (p : State) → SameRights p p
rights_refl p = record { tokens = refl; handles = refl; primary = refl; clients = refl; pairs = refl; sids = refl }

pub rights_trans : {p q r : State} → SameRights p q → SameRights q r → SameRights p r
rights_trans a b = record { tokens = a.tokens ∙ b.tokens; handles = a.handles ∙ b.handles; primary = a.primary ∙ b.primary; clients = a.clients ∙ b.clients; pairs = a.pairs ∙ b.pairs; sids = a.sids ∙ b.sids }

pub rights_sym : {p q : State} → SameRights p q → SameRights q p
rights_sym a = record { tokens = sym a.tokens; handles = sym a.handles; primary = sym a.primary; clients = sym a.clients; pairs = sym a.pairs; sids = sym a.sids }

-- another stream at a station
stream_rights : (p : State) (s : ℕ) (f : Station → Station) → OnlyStream f → SameRights p (change_station s f p)
unfolding change_station with_stations station_client
stream_rights p s f only =
    record {
      tokens = refl;
      handles = refl;
      primary = sym (same_map station_token f only.token s p.stations);
      clients = sym (same_map station_client f only.client s p.stations);
      pairs = refl;
      sids = refl;
    }

pub cleared_rights : (p : State) (s : ℕ) → SameRights p (change_station s cleared p)
cleared_rights p s = stream_rights p s cleared only_cleared

pub broken_rights : (p : State) (s : ℕ) → SameRights p (change_station s broken_off p)
broken_rights p s = stream_rights p s broken_off only_broken

-- after a byte, the rest goes on from what it left
Goes : State → List Outcome → State → Type 0
Goes p xs q = (d z : State) (ys : List Outcome) → SameRights d p → ((c : State) → SameRights c q → OneByOne c ys z) → OneByOne d (xs ++ ys) z

joined_goes : (p : State) (s : ℕ) (bytes : List ℕ) (x : Framed) → Goes p (outcome_of p s x) (state_of (joined p s bytes x))
unfolding Goes joined state_of outcome_of OneByOne served_by
joined_goes p s bytes part d z ys a go = go d (rights_trans a (stream_rights p s (with_pending bytes) (only_pending bytes)))
joined_goes p s bytes broken d z ys a go = go d (rights_trans a (broken_rights p s))
joined_goes p s bytes (whole body) d z ys a go = (rights_trans a (cleared_rights p s), go _ (rights_refl _))

event_goes : (p : State) (e : Event) → Goes p (outcome_at p e) (state_of (happens p e))
unfolding Goes happens step byte_at state_of outcome_at
event_goes p (reconnected s) d z ys a go = go d (rights_trans a (cleared_rights p s))
event_goes p (byte s b) d z ys a go = at (station_at p s).is_broken go
  where
    at : (t : Bool) → let bytes = (station_at p s).pending ++ (b ∷ []) in
        ((c : State) → SameRights c (state_of (if t then silent p else joined p s bytes (framed bytes))) → OneByOne c ys z) → OneByOne d ((if t then [] else outcome_of p s (framed bytes)) ++ ys) z
    at true k = k d a
    at false k = let bytes = (station_at p s).pending ++ (b ∷ []) in joined_goes p s bytes (framed bytes) d z ys a k

events_go : (es : List Event) (d p : State) → SameRights d p → OneByOne d (outcomes es p) (after_events es p)
unfolding outcomes after_events OneByOne Goes
events_go [] d p a = a
events_go (e ∷ es) d p a = let q = state_of (happens p e) in event_goes p e d (after_events es q) (outcomes es q) a (λ c k. events_go es c q k)

pub one_by_one_lem : (es : List Event) (p : State) → OneByOne p (outcomes es p) (after_events es p)
one_by_one_lem es p = events_go es p p (rights_refl p)
