-- Every call, on any memory: what it answers fits, a refusal does nothing, and only a request answered 0 alters a right. Assumes nothing.
use Prim.Native.Nat.{ℕ, zero, suc, ◌+◌, ◌*◌, ◌≤◌}
use native.Mathlib.Omega.{arith}
use mathlib.Core.Path.{◌≡◌, refl, sym, ap, ap₂, ◌∙◌, subst}
use mathlib.Core.Bool.{true}
use mathlib.Core.Logic.{◌⊎◌, inl, inr, ⊎_elim}
use mathlib.Core.List.{List, [], ◌∷◌, ◌++◌, map}
use lib.Dec.{leb, ltb}
use lib.ListN.{length, take, drop, get_or, length-map}
use lib.Seq.{drop_at, drop-drop}
use Rattle.table.specs.Table.{flat, length_flat}
use Rattle.table.specs.Column.{column}
use Rattle.rules.specs.Sid.{Sid}
use Rattle.rules.specs.SidRows.{sid_words, write_sids}
use Rattle.rules.specs.Basic.{change_at}
use Rattle.rules.specs.Refusal.{ranks, stream_broken, no_station, short_buffer, invalid_memory}
use Rattle.rules.specs.Table.{Slot, Table}
use Rattle.rules.specs.Token.{Token}
use Rattle.rules.specs.Handle.{Handle}
use Rattle.rules.specs.Station.{Station, cleared, with_pending}
use Rattle.rules.specs.Pair.{Pair}
use Rattle.rules.specs.State.{State, start, station_count, pair_slots, station_at, with_stations, change_station, station_token, station_client}
use Rattle.rules.specs.Serve.{serve}
use Rattle.rules.specs.Frame.{max_answer, frame, length_of, framed_by, framed, Framed, part, broken, whole}
use Rattle.rules.specs.Model.{Result, Step, silent, answers, joined, byte_at, step, fed_on, fed_from, reconnect}
use Rattle.rules.specs.Memory.{Memory, station_words, pair_words, primary_word, client_word, level_word, pairs_in, slot_row, slot_dacl, slot_handle, station_row, slot_pair, sections, control, encode, decode, valid, sids_in}
use Rattle.rules.specs.Run.{Call, feeds, reconnects, returned, of_bytes, SameRights}
use Rattle.rules.specs.Growth.{Mem, here, there}
use Rattle.rules.specs.Calls.{Done, refused_on, written, feed_on, reconnect_on}
use Rattle.rules.specs.Throughout.{IsAnswer}
use Rattle.rules.specs.WholeList.{done_by}
use Rattle.rules.specs.AnyMemory.{statuses_in, statuses, counters, station_column, LeftAlone, AnyMemory}
use Rattle.rules.proofs.Logic.{mem_none}
use Rattle.rules.proofs.Tables.{on_if}
use Rattle.rules.proofs.Facts.{StateFacts, valid_facts, facts_valid}
use Rattle.rules.proofs.Rows.{length_station_row}
use Rattle.rules.proofs.Always.{clears}
use Rattle.rules.proofs.Ladder.{served_status, ladder}
use Rattle.rules.proofs.Answers.{serve_answers, serve_status, break_answers, break_status}
use Rattle.rules.proofs.Served.{rights_refl, rights_sym, rights_trans, cleared_rights, broken_rights}
use Rattle.rules.proofs.Memory.{valid_written, valid_state, written_valid}
use Rattle.rules.proofs.WholeList.{call_done, call_valid, fed_taken}

-- ---- a feed's answer: whatever is pending, a body is served on what is kept without it

changed_twice : {A : Type 0} (s : ℕ) (f g : A → A) (xs : List A) → ((x : A) → f (g x) ≡ f x) → change_at s f (change_at s g xs) ≡ change_at s f xs
unfolding change_at
changed_twice s f g [] e = refl
changed_twice zero f g (x ∷ xs) e = ap (λ y. y ∷ xs) (e x)
changed_twice (suc s) f g (x ∷ xs) e = ap (λ ys. x ∷ ys) (changed_twice s f g xs e)

pending_gone : (p : State) (s : ℕ) (bytes : List ℕ) → change_station s cleared (change_station s (with_pending bytes) p) ≡ change_station s cleared p
unfolding change_station with_stations cleared with_pending
pending_gone p s bytes = ap (λ xs. with_stations xs p) (changed_twice s cleared (with_pending bytes) p.stations (λ x. refl))

-- an answer, or none; without a status 0 it left all but the streams as in c
record Ends (c : State) (a : List ℕ) (q : State) : Type 0 where
  is_answer : (a ≡ []) ⊎ IsAnswer a
  status : (n : ℕ) → Mem n (statuses a) → Mem n (stream_broken ∷ 0 ∷ ranks)
  rights : (Mem 0 (statuses a) → ⊥) → SameRights c q

-- of an answer whose one status is k
one_status : {c q : State} {a : List ℕ} {k : ℕ} → IsAnswer a → statuses a ≡ k ∷ [] → Mem k (stream_broken ∷ 0 ∷ ranks) → ((k ≡ 0 → ⊥) → SameRights c q) → Ends c a q
one_status {k = k} i e l h = record { is_answer = inr i; status = λ n m. only (subst (Mem n) e m); rights = λ z. h (λ t. z (subst (Mem 0) (sym e) (here (sym t)))) }
  where
    only : {n : ℕ} → Mem n (k ∷ []) → Mem n (stream_broken ∷ 0 ∷ ranks)
    only (here t) = rw t l
    only (there m) = absurd (mem_none m)

no_status : {c q : State} → SameRights c q → Ends c [] q
unfolding statuses statuses_in framed framed_by length_of
no_status h = record { is_answer = inl refl; status = λ n m. absurd (mem_none m); rights = λ z. h }

module _ (s : ℕ) (c : State) (f : StateFacts c) where
  unfoldable Next : Step → Type 0
  Next (silent q) = change_station s cleared q ≡ c
  Next (answers a q) = Ends c a q

  -- all but the streams is as in c
  as_cleared : (p : State) → change_station s cleared p ≡ c → SameRights c p
  as_cleared p e = rights_sym (subst (SameRights p) e (cleared_rights p s))

  serves : (p : State) (body : List ℕ) → p ≡ c → Ends c (frame (serve p s body).answer) (serve p s body).state
  serves p body e =
      let g = subst StateFacts (sym e) f in
      one_status (serve_answers p s body g) (serve_status p s body g) (there (served_status p s body))
      (λ z. subst (SameRights c) (sym ((ladder p s body).unchanged z ∙ e)) (rights_refl c))

  joined_next : (p : State) (bytes : List ℕ) (x : Framed) → change_station s cleared p ≡ c → Next (joined p s bytes x)
  unfolding joined Next
  joined_next p bytes part e = pending_gone p s bytes ∙ e
  joined_next p bytes broken e = one_status break_answers break_status (here refl) (λ z. rights_trans (as_cleared p e) (broken_rights p s))
  joined_next p bytes (whole body) e = serves (change_station s cleared p) body e

  step_next : (p : State) (b : ℕ) → change_station s cleared p ≡ c → Next (step p s b)
  unfolding step byte_at Next
  step_next p b e =
      let x = station_at p s in
      let bytes = x.pending ++ (b ∷ []) in
      on_if Next x.is_broken (silent p) (joined p s bytes (framed bytes)) (λ t. e) (λ t. joined_next p bytes (framed bytes) e)

  Fed : Result → Type 0
  Fed r = Ends c r.answer r.after

  fed_ends : (bytes : List ℕ) (n : ℕ) (p : State) → change_station s cleared p ≡ c → Ends c (fed_from n s bytes p).answer (fed_from n s bytes p).after
  unfolding fed_from fed_on Next Fed
  fed_ends [] n p e = no_status (as_cleared p e)
  fed_ends (b ∷ bytes) n p e = go (step p s b) (step_next p b e) (λ q k. fed_ends bytes (n + 1) q k)
    where
      go : (x : Step) → Next x → ((q : State) → change_station s cleared q ≡ c → Fed (fed_from (n + 1) s bytes q)) → Fed (fed_on (n + 1) (λ q. fed_from (n + 1) s bytes q) x)
      go (silent q) k ih = ih q k
      go (answers a q) k ih = k

-- ---- the same rights, written

-- word k of each row says h of what p tells of the station; whatever stands behind the rows
module _ {A : Type 0} (p : Station → A) (h : A → ℕ) (k : ℕ) (word : (x : Station) (l : List ℕ) → get_or (drop k (station_row x ++ l)) 0 0 ≡ h (p x)) (next : (x : Station) (l : List ℕ) → drop station_words (drop k (station_row x ++ l)) ≡ drop k l) where
  same_column : (n : ℕ) (xs ys : List Station) (behind : List ℕ) → map p xs ≡ map p ys
      → column station_words n (drop k (flat station_row xs ++ behind)) ≡ column station_words n (drop k (flat station_row ys ++ behind))
  unfolding column flat station_row
  same_column zero xs ys behind e = refl
  same_column (suc n) [] [] behind e = refl
  same_column (suc n) [] (y ∷ ys) behind e = absurd (let z : ◌≡◌ {A = ℕ} 0 1 = cc in omega arith)
  same_column (suc n) (x ∷ xs) [] behind e = absurd (let z : ◌≡◌ {A = ℕ} 0 1 = cc in omega arith)
  same_column (suc n) (x ∷ xs) (y ∷ ys) behind e =
      let rest = same_column n xs ys behind (cc) in
      let at : List Station → List ℕ = λ zs. flat station_row zs ++ behind in
      ap₂ (λ i is. i ∷ is) (word x (at xs) ∙ ap h (cc) ∙ sym (word y (at ys)))
      (ap (column station_words n) (next x (at xs)) ∙ rest ∙ ap (column station_words n) (sym (next y (at ys))))

same_length : {A : Type 0} (p : Station → A) (xs ys : List Station) → map p xs ≡ map p ys → length xs ≡ length ys
same_length p xs ys e = sym (length-map xs p) ∙ ap length e ∙ length-map ys p

-- the pairs and the SID table stand behind the stations' rows
module _ (a b : ℕ) (xs : List Station) (l : List ℕ) (e : length xs ≡ station_count) where
  behind_rows : drop (station_count * station_words) (flat station_row xs ++ l) ≡ l
  behind_rows = drop_at (flat station_row xs) l (station_count * station_words) (length_flat station_row station_words length_station_row xs ∙ ap (λ (n : ℕ). n * station_words) e)

  pairs_behind : pairs_in (a ∷ b ∷ (flat station_row xs ++ l)) ≡ take (pair_slots * pair_words) l
  pairs_behind = ap (take (pair_slots * pair_words)) behind_rows

  sids_behind : sids_in (a ∷ b ∷ (flat station_row xs ++ l)) ≡ take sid_words (drop (pair_slots * pair_words) l)
  sids_behind =
      ap (take sid_words) (sym (drop-drop (pair_slots * pair_words) (station_count * station_words) (flat station_row xs ++ l)) ∙ ap (drop (pair_slots * pair_words)) behind_rows)

rights_left : {p q : State} → length p.stations ≡ station_count → SameRights p q → LeftAlone (encode p) (encode q)
unfolding encode control sections flat counters station_column station_row station_token station_client
rights_left {p} {q} long h =
    let t = sym h.tokens in
    let behind : State → List ℕ = λ x. flat slot_pair x.pairs ++ (write_sids x.sids ++ []) in
    let same : behind q ≡ behind p = ap₂ (λ (ps : List (Slot Pair)) (ss : List Sid). flat slot_pair ps ++ (write_sids ss ++ [])) (sym h.pairs) (sym h.sids) in
    let long_q = same_length station_token q.stations p.stations (sym h.primary) ∙ long in
    let at : ℕ → List ℕ → List ℕ = λ k l. column station_words station_count (drop k (flat station_row q.stations ++ l)) in
    record {
      tokens = ap (λ (x : Table Token). flat slot_row x.slots) t;
      dacls = ap (λ (x : Table Token). flat slot_dacl x.slots) t;
      handles = ap (λ (x : Table Handle). map slot_handle x.slots) (sym h.handles);
      counted = ap₂ (λ (x : Table Token) (y : Table Handle). x.next ∷ y.next ∷ []) t (sym h.handles);
      primary = ap (at primary_word) same ∙ same_column station_token (λ n. n) primary_word (λ x l. refl) (λ x l. refl) station_count q.stations p.stations (behind p) (sym h.primary);
      clients = ap (at client_word) same ∙ same_column station_client (λ c. c.token) client_word (λ x l. refl) (λ x l. refl) station_count q.stations p.stations (behind p) (sym h.clients);
      levels = ap (at level_word) same ∙ same_column station_client (λ c. c.level) level_word (λ x l. refl) (λ x l. refl) station_count q.stations p.stations (behind p) (sym h.clients);
      pairs =
          pairs_behind q.tokens.next q.handles.next q.stations (behind q) long_q
          ∙ ap (take (pair_slots * pair_words)) same ∙ sym (pairs_behind p.tokens.next p.handles.next p.stations (behind p) long);
      sids =
          sids_behind q.tokens.next q.handles.next q.stations (behind q) long_q
          ∙ ap (λ (l : List ℕ). take sid_words (drop (pair_slots * pair_words) l)) same ∙ sym (sids_behind p.tokens.next p.handles.next p.stations (behind p) long);
    }

-- ---- a call

-- what a call did: a refusal did nothing
record Did (m : Memory) (d : Done) : Type 0 where
  is_answer : (d.answer ≡ []) ⊎ IsAnswer d.answer
  status : (n : ℕ) → Mem n (statuses d.answer) → Mem n (stream_broken ∷ 0 ∷ ranks)
  left_alone : (Mem 0 (statuses d.answer) → ⊥) → LeftAlone m d.after
  listed : Mem d.refusal (0 ∷ no_station ∷ short_buffer ∷ invalid_memory ∷ [])
  refused : (d.refusal ≡ 0 → ⊥) → d ≡ refused_on d.refusal m

module _ (m : Memory) where
  refuses : (n : ℕ) → Mem n (0 ∷ no_station ∷ short_buffer ∷ invalid_memory ∷ []) → Did m (refused_on n m)
  unfolding refused_on
  refuses n i =
      let e = no_status (rights_refl start) in
      record {
        is_answer = e.is_answer;
        status = e.status;
        left_alone = λ z. record { tokens = refl; dacls = refl; handles = refl; counted = refl; primary = refl; clients = refl; levels = refl; pairs = refl; sids = refl };
        listed = i;
        refused = λ k. refl;
      }

  takes : (r : Result) (s : ℕ) → valid m ≡ true → r.refusal ≡ 0 → Ends (change_station s cleared (decode m)) r.answer r.after → Did m (written r)
  unfolding written
  takes r s v e h =
      record {
        is_answer = h.is_answer;
        status = h.status;
        left_alone = λ z. subst (λ (x : Memory). LeftAlone x (encode r.after)) (valid_written m v) (rights_left (valid_facts (decode m) (valid_state m v)).loose.stations (rights_trans (cleared_rights (decode m) s) (h.rights z)));
        listed = here e;
        refused = λ k. absurd (k e);
      }

  no_station_lem : Did m (refused_on no_station m)
  no_station_lem = refuses no_station (there (here refl))

  not_in_order : Did m (refused_on invalid_memory m)
  not_in_order = refuses invalid_memory (there (there (there (here refl))))

  feeding : (s : ℕ) (chunk : List ℕ) (buffer_length : ℕ) → Did m (feed_on m s chunk buffer_length)
  unfolding feed_on
  feeding s chunk buffer_length =
      on_if (Did m) (leb station_count s) _ _ (λ t. no_station_lem)
      (λ t. on_if (Did m) (ltb buffer_length max_answer) _ _ (λ u. refuses short_buffer (there (there (here refl))))
      (λ u. on_if (Did m) (valid m) _ _
      (λ v. let p = decode m in takes (fed_from 0 s chunk p) s v (fed_taken chunk 0 s p) (fed_ends s (change_station s cleared p) (clears p s (valid_facts p (valid_state m v))).facts chunk 0 p refl))
      (λ v. not_in_order)))

  reconnecting : (s : ℕ) → Did m (reconnect_on m s)
  unfolding reconnect_on reconnect
  reconnecting s =
      on_if (Did m) (leb station_count s) _ _ (λ t. no_station_lem)
      (λ t. on_if (Did m) (valid m) _ _ (λ v. rw t (takes _ s v refl (no_status (rights_refl _)))) (λ v. not_in_order))

  did : (c : Call) → Did m (done_by m c)
  unfolding done_by
  did (feeds s chunk buffer_length) = feeding s chunk buffer_length
  did (reconnects s) = reconnecting s

  stays_valid : (c : Call) → valid m ≡ true → of_bytes c ≡ true → valid (done_by m c).after ≡ true
  unfolding written
  stays_valid c v w =
      let p = decode m in
      let ok = valid_state m v in
      let e : done_by m c ≡ written (returned p c) = ap (λ x. done_by x c) (sym (valid_written m v)) ∙ call_done p ok c in
      ap (λ (d : Done). valid d.after) e ∙ written_valid (returned p c).after (facts_valid _ (call_valid p c w (valid_facts p ok)))

short : (a : List ℕ) → (a ≡ []) ⊎ IsAnswer a → length a ≤ max_answer
short a h = ⊎_elim (λ e. rw e (omega arith)) (λ k. k.fits) h

-- every memory and every call
pub any_memory : (m : Memory) (c : Call) → AnyMemory m c
any_memory m c =
    let d = did m c in
    record {
      fits = short (done_by m c).answer d.is_answer;
      is_answer = d.is_answer;
      status = d.status;
      listed = d.listed;
      refused = d.refused;
      left_alone = d.left_alone;
      order = stays_valid m c;
    }
