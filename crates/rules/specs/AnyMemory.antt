-- What holds of every feed and reconnect on any memory, valid or not. Assumes nothing.
use Rattle.std.specs.Prelude.{ℕ, ◌≤◌, ◌≡◌, true, ◌⊎◌, List, [], ◌∷◌, length, take, drop}
use Rattle.table.specs.Column.{column}
use Rattle.table.specs.Sections.{section}
use Rattle.rules.specs.Refusal.{ranks, stream_broken, no_station, short_buffer, invalid_memory}
use Rattle.rules.specs.State.{station_count}
use Rattle.rules.specs.Frame.{Framed, part, broken, whole, framed, max_answer}
use Rattle.rules.specs.Memory.{Memory, station_words, primary_word, client_word, level_word, counter_section, control_sizes, station_word_at, pairs_in, sids_in, valid}
use Rattle.rules.specs.Run.{Call, of_bytes}
use Rattle.rules.specs.Growth.{Mem}
use Rattle.rules.specs.Calls.{refused_on}
use Rattle.rules.specs.Throughout.{IsAnswer}
use Rattle.rules.specs.WholeList.{done_by}

-- ---- statuses

-- an answer's status is the first number of its body, below 128 and so one byte; where there is no answer there is none
unfoldable pub statuses_in : Framed → List ℕ
statuses_in part = []
statuses_in broken = []
statuses_in (whole body) = take 1 body

unfoldable pub statuses : List ℕ → List ℕ
statuses answer = statuses_in (framed answer)

-- ---- what a refusal leaves alone: all but the streams

-- the next numbers of tokens and of handles
unfoldable pub counters : Memory → List ℕ
counters m = section control_sizes counter_section m.control

-- word k of each station's row
unfoldable pub station_column : ℕ → Memory → List ℕ
station_column k m = column station_words station_count (drop (station_word_at 0 k) m.control)

pub record LeftAlone (m m' : Memory) : Type 0 where
  pub tokens : m'.tokens ≡ m.tokens
  pub dacls : m'.dacls ≡ m.dacls
  pub handles : m'.handles ≡ m.handles
  pub counted : counters m' ≡ counters m
  -- each station's primary token, the token that it acts for and the level in force
  pub primary : station_column primary_word m' ≡ station_column primary_word m
  pub clients : station_column client_word m' ≡ station_column client_word m
  pub levels : station_column level_word m' ≡ station_column level_word m
  pub pairs : pairs_in m'.control ≡ pairs_in m.control
  pub sids : sids_in m'.control ≡ sids_in m.control

-- ---- the claim

pub record AnyMemory (m : Memory) (c : Call) : Type 0 where
  -- 'no answer is longer than 1,024 bytes'
  pub fits : length (done_by m c).answer ≤ max_answer
  -- an answer is one valid frame
  pub is_answer : ((done_by m c).answer ≡ []) ⊎ IsAnswer (done_by m c).answer
  -- 'an answer or a refusal from our list': a status is 10, 0 or a request's refusal
  pub status : (n : ℕ) → Mem n (statuses (done_by m c).answer) → Mem n (stream_broken ∷ 0 ∷ ranks)
  -- 'a refusal from our list': a call is taken, or refused by 11, 12 or 13
  pub listed : Mem (done_by m c).refusal (0 ∷ no_station ∷ short_buffer ∷ invalid_memory ∷ [])
  -- a call that is refused alters, uses and answers nothing
  pub refused : ((done_by m c).refusal ≡ 0 → ⊥) → done_by m c ≡ refused_on (done_by m c).refusal m
  -- 'a refusal alters no token, no handle and no counter', no station's primary token or client, no linked pair and no SID: nor does a part, a break or a
  -- reconnect. Only a request that is answered 0 does
  pub left_alone : (Mem 0 (statuses (done_by m c).answer) → ⊥) → LeftAlone m (done_by m c).after
  -- memory in order stays in order
  pub order : valid m ≡ true → of_bytes c ≡ true → valid (done_by m c).after ≡ true
