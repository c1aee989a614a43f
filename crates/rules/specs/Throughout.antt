-- What holds throughout a list of calls from any valid state: demand 3, of the model. Assumes nothing.
use Rattle.std.specs.Prelude.{ℕ, ◌≤◌, ◌<◌, ◌≡◌, true, ◌⊎◌, List, ◌++◌, map, length}
use Rattle.rules.specs.Basic.{all}
use Rattle.rules.specs.Bits.{within}
use Rattle.rules.specs.Number.{max32, max64}
use Rattle.rules.specs.Token.{Token}
use Rattle.rules.specs.Handle.{Handle}
use Rattle.rules.specs.Station.{no_client}
use Rattle.rules.specs.Pair.{Pair}
use Rattle.rules.specs.Table.{free, live, lives}
use Rattle.rules.specs.State.{State, station_count, client_at, find_handle}
use Rattle.rules.specs.Frame.{frame, framed, whole, max_answer}
use Rattle.rules.specs.SidTable.{is_number, sid_of}
use Rattle.rules.specs.Valid.{is_listed, valid}
use Rattle.rules.specs.Ladder.{Ladder}
use Rattle.rules.specs.Run.{Call, byte, of_bytes, after, answered, events, after_events, answers_to, timed, timed_to, until_used, Serving, serves, outcomes, answered_from, OneByOne}
use Rattle.rules.specs.Growth.{Mem, Live, LiveHandle, Follows, Later, HandlesLater, SidsLater, StillHandle, Copying, Creating, Rooted}
use Rattle.rules.specs.Acting.{ActsFor, ClientKept}
use Rattle.rules.specs.Linking.{Linked, PairsKept, ElevationKept}
use Rattle.rules.specs.Entering.{SidsEntered}
use Rattle.rules.specs.Evaluating.{Evaluating}
use Rattle.rules.specs.Restore.{PrivilegesKept, PutsBack, CanPutBack}

-- an answer: one valid frame that fits the buffer
pub record IsAnswer (bytes : List ℕ) : Type 0 where
  pub body : List ℕ
  pub framing : bytes ≡ frame body
  pub is_frame : framed bytes ≡ whole body
  pub fits : length bytes ≤ max_answer

-- two lists of calls with the same answers and the same end
pub record Same (cs ds : List Call) (σ : State) : Type 0 where
  pub answers : answered cs σ ≡ answered ds σ
  pub end : after cs σ ≡ after ds σ

pub record Throughout (σ : State) (cs : List Call) : Type 0 where
  -- the end and the answers are those of the used bytes and reconnects, one by one (Model.step)
  pub end : after cs σ ≡ after_events (events cs σ) σ
  pub answers : answered cs σ ≡ answers_to (events cs σ) σ
  -- each answer comes from the call that ends with the byte that brings it, at that byte's station
  pub at_their_bytes : timed 0 cs σ ≡ timed_to 0 (events cs σ) σ
  -- 'whole requests are served one by one under demand 2, in the order of their last bytes, each answered at that byte, and a broken stream is
  -- answered 10 at the byte that breaks it': the answers are those of the bodies and of the breaks, each with its last byte, in that order
  pub served : timed 0 cs σ ≡ answered_from 0 (events cs σ) σ
  pub one_by_one : OneByOne σ (outcomes (events cs σ) σ) (after cs σ)
  pub ladder : (x : Serving) → Mem (serves x) (outcomes (events cs σ) σ) → Ladder x.before x.station x.body
  -- 'two lists alike in the order of reconnects and used bytes, with their stations, give the same answers and the same memory'
  pub alike : (ds : List Call) → events ds σ ≡ events cs σ → Same ds cs σ
  -- 'a piece that is fed until used up': all its bytes are used, and nothing else happens
  pub used_up : (s : ℕ) (a : List ℕ) (buffer_length : ℕ) → s < station_count → max_answer ≤ buffer_length
      → let τ = after cs σ in
      events (until_used (length a) τ s a buffer_length) τ ≡ map (byte s) a
  -- 'cutting a piece that is fed until used up changes nothing'
  pub cutting : (s : ℕ) (a b : List ℕ) (buffer_length : ℕ) → s < station_count → max_answer ≤ buffer_length
      → let τ = after cs σ in
      let first = until_used (length a) τ s a buffer_length in
      Same (until_used (length (a ++ b)) τ s (a ++ b) buffer_length) (first ++ until_used (length b) (after first τ) s b buffer_length) τ
  -- 13 never comes: memory is in order
  pub order : valid (after cs σ) ≡ true
  -- 'a token's present privileges never grow, used marks and deny-only marks (a group's or the user's) stay': of a token that is live
  -- here and after more calls
  pub lasting : (more : List Call) → all of_bytes more ≡ true → (t u : Token) → Live t (after cs σ) → Live u (after (cs ++ more) σ)
      → u.number ≡ t.number → Follows t u
  -- after more calls each token has a number not given here yet, or was here: no number comes twice
  pub numbers : (more : List Call) → all of_bytes more ≡ true → Later (after cs σ).tokens (after (cs ++ more) σ).tokens
  -- no 'request begun under one operator's handle' is 'finished against the token that had taken its place': what a handle's number stands
  -- for here it stands for after more calls, or for nothing, and a number that was given and stands for nothing here never will
  pub bound : (more : List Call) → all of_bytes more ≡ true → (s n : ℕ) (h : Handle) → find_handle (after cs σ) s n ≡ live h
      → (find_handle (after (cs ++ more) σ) s n ≡ free) ⊎ StillHandle (after cs σ) (after (cs ++ more) σ) s n h
  pub closed : (more : List Call) → all of_bytes more ≡ true → (s n : ℕ) → find_handle (after cs σ) s n ≡ free → n < (after cs σ).handles.next
      → find_handle (after (cs ++ more) σ) s n ≡ free
  -- a handle that is live here and after more calls is the same, in its station, its token and its mask
  pub handle_kept : (more : List Call) → all of_bytes more ≡ true → (h k : Handle) → LiveHandle h (after cs σ) → LiveHandle k (after (cs ++ more) σ)
      → k.number ≡ h.number → k ≡ h
  -- 'numbers are given upward and never twice': after more calls each handle has a number not given here yet, or was here
  pub handles : (more : List Call) → all of_bytes more ≡ true → HandlesLater (after cs σ).handles (after (cs ++ more) σ).handles
  -- 'the largest never': of handles and of tokens
  pub handle_numbers : (h : Handle) → LiveHandle h (after cs σ) → (1 ≤ h.number) × (h.number < max32)
  pub token_numbers : (t : Token) → Live t (after cs σ) → (1 ≤ t.number) × (t.number < max64)
  -- a station acts for none, or for a live impersonation token, and the level in force is never above the token's own
  pub acting : (s : ℕ) → let c = client_at (after cs σ) s in (c ≡ no_client) ⊎ ActsFor (after cs σ) c
  -- what a station acts for changes only by its own requests 12 and 13 (between the bodies it stays: `one_by_one`)
  pub clients : (x : Serving) → Mem (serves x) (outcomes (events cs σ) σ) → (s : ℕ) → ClientKept x s
  -- a linked pair's tokens are live, Full and Limited, primary, of its session and of one user
  pub linked : (p : Pair) → Mem p (lives (after cs σ).pairs) → Linked (after cs σ) p
  -- pairs and elevations change only by request 16, and a Full or Limited token stays so (`lasting`)
  pub pairs : (x : Serving) → Mem (serves x) (outcomes (events cs σ) σ) → PairsKept x
  pub elevations : (x : Serving) → Mem (serves x) (outcomes (events cs σ) σ) → ElevationKept x
  -- request 18 changes nothing, and 'the answer is exactly the rule's meaning'
  pub evaluating : (x : Serving) → Mem (serves x) (outcomes (events cs σ) σ) → Evaluating x
  -- a number once given stands for the same SID for ever, and no SID has two numbers
  pub sids : (more : List Call) → all of_bytes more ≡ true → (n : ℕ) → is_number (after cs σ).sids n ≡ true
      → (is_number (after (cs ++ more) σ).sids n ≡ true) × (sid_of (after (cs ++ more) σ).sids n ≡ sid_of (after cs σ).sids n)
  pub one_number : (n m : ℕ) → is_number (after cs σ).sids n ≡ true → is_number (after cs σ).sids m ≡ true
      → sid_of (after cs σ).sids n ≡ sid_of (after cs σ).sids m → n ≡ m
  pub sid_table : (more : List Call) → all of_bytes more ≡ true → SidsLater (after cs σ).sids (after (cs ++ more) σ).sids
  -- 'a refused request enters none', and a success the SIDs that it gives packed, 'in the request's order'
  pub entering : (x : Serving) → Mem (serves x) (outcomes (events cs σ) σ) → SidsEntered x
  -- 'tokens keep numbers', each in the table
  pub listed : (t : Token) → Live t (after cs σ) → is_listed (after cs σ).sids t ≡ true
  -- 'enabled ones stay among the present', and default ones
  pub enabled : (t : Token) → Live t (after cs σ) → within t.privileges.enabled t.privileges.present ≡ true
  pub by_default : (t : Token) → Live t (after cs σ) → within t.privileges.by_default t.privileges.present ≡ true
  -- 'a token made from another begins with no present privilege that its source lacked' (of a clone, the source is the partner), and 'a token made from a restricted one by request 10,
  -- or by 9 unless stripped, is restricted, and its list has nothing that the source's lacked' (15 is the same rule); it has the source's root, or 0 if stripped
  pub copies : (x : Serving) → Mem (serves x) (outcomes (events cs σ) σ) → Copying x
  -- 'every token carries its root': its own number if it is created; its source's, or 0 where it is anonymous (`copies`); it never changes
  -- (`lasting`). So it is 0, or the root of a token that was there, or the number of a created one
  pub creations : (x : Serving) → Mem (serves x) (outcomes (events cs σ) σ) → Creating x
  pub roots : (t : Token) → Live t (after cs σ) → Rooted σ (outcomes (events cs σ) σ) t.identity.root
  -- present, enabled and default privileges of a live token change only by request 5 on it: 'no success of 5 touched that token since'
  pub privileges : (x : Serving) → Mem (serves x) (outcomes (events cs σ) σ) → PrivilegesKept x
  -- 'the entries made from the report, one for each privilege that request named, succeed when served, on any live handle of that token with the
  -- right and for its station, and the token's privilege words but used are those before'; and they can always be sent
  pub puts_back : PutsBack (outcomes (events cs σ) σ)
  pub can_put_back : (x : Serving) → Mem (serves x) (outcomes (events cs σ) σ) → CanPutBack x
  -- no answer is longer than 1,024 bytes
  pub fit : (a : List ℕ) → Mem a (answered cs σ) → IsAnswer a
