-- Demand 3 over lent memory: each call does to the memory what the model does to the state that it stands for. Assumes nothing.
use Prim.Native.Nat.{ℕ, ◌+◌}
use native.Mathlib.Omega.{arith}
use mathlib.Core.Path.{◌≡◌, refl, sym, ap, ◌∙◌, subst}
use mathlib.Core.Bool.{Bool, true, false}
use mathlib.Core.List.{List, [], ◌∷◌, map}
use lib.Dec.{leb, ltb}
use Rattle.std.specs.Prelude.{if◌then◌else◌}
use Rattle.rules.specs.Basic.{all}
use Rattle.rules.specs.Refusal.{no_station, short_buffer, invalid_memory}
use Rattle.rules.specs.State.{State, start, station_count}
use Rattle.rules.specs.Token.{Token, start_token}
use Rattle.rules.specs.Table.{placed, lives}
use Rattle.rules.specs.Frame.{max_answer}
use Rattle.rules.specs.Model.{Result, Step, silent, answers, step, refused, fed_on, fed_from, feed, reconnect}
use Rattle.rules.specs.Valid as Valid
use Rattle.rules.specs.Memory.{encode, decode, valid}
use Rattle.rules.specs.Run.{Call, feeds, reconnects, returned, after, of_bytes}
use Rattle.rules.specs.Growth.{Mem, here, there, Live}
use Rattle.rules.specs.Calls.{Done, refused_on, written, start_on, feed_on, reconnect_on}
use Rattle.rules.specs.WholeList.{done_by, memory_after, returns_on, returns_of, WholeList, AfterStart}
use Rattle.rules.proofs.Logic.{and_l, and_r, and_i, mem_none}
use Rattle.rules.proofs.Tables.{on_if}
use Rattle.rules.proofs.Facts.{StateFacts, valid_facts, facts_valid}
use Rattle.rules.proofs.Always.{start_valid, run_step}
use Rattle.rules.proofs.Runs.{cutting}
use Rattle.rules.proofs.Memory.{read_back, written_valid}
use Rattle.rules.proofs.Throughout.{throughout}

-- ---- one call, on the memory of a valid state

module _ (σ : State) (v : Valid.valid σ ≡ true) where
  on_valid : (r : State → Result) → (if valid (encode σ) then written (r (decode (encode σ))) else refused_on invalid_memory (encode σ)) ≡ written (r σ)
  on_valid r = rw (written_valid σ v) (rw (read_back σ v))

  refuses : (n : ℕ) → refused_on n (encode σ) ≡ written (refused n σ)
  unfolding refused_on written refused
  refuses n = refl

  no_station_lem : (s : ℕ) → leb station_count s ≡ true → reconnect σ s ≡ refused no_station σ
  unfolding reconnect
  no_station_lem s e = rw e

  pub call_done : (c : Call) → done_by (encode σ) c ≡ written (returned σ c)
  unfolding done_by returned feed_on feed reconnect_on
  call_done (feeds s chunk buffer_length) = feeding (leb station_count s) (ltb buffer_length max_answer)
    where
      feeding : (a b : Bool) → (if a then refused_on no_station (encode σ) else if b then refused_on short_buffer (encode σ) else if valid (encode σ) then written (fed_from 0 s chunk (decode (encode σ))) else refused_on invalid_memory (encode σ))
          ≡ written (if a then refused no_station σ else if b then refused short_buffer σ else fed_from 0 s chunk σ)
      feeding true b = refuses no_station
      feeding false true = refuses short_buffer
      feeding false false = on_valid (fed_from 0 s chunk)
  call_done (reconnects s) = reconnecting (leb station_count s) refl
    where
      reconnecting : (a : Bool) → leb station_count s ≡ a → (if a then refused_on no_station (encode σ) else if valid (encode σ) then written (reconnect (decode (encode σ)) s) else refused_on invalid_memory (encode σ)) ≡ written (reconnect σ s)
      reconnecting true e = refuses no_station ∙ ap written (sym (no_station_lem s e))
      reconnecting false e = on_valid (λ τ. reconnect τ s)

-- ---- a list of calls, from any valid state

pub call_valid : (σ : State) (c : Call) → of_bytes c ≡ true → StateFacts σ → StateFacts (returned σ c).after
unfolding after all
call_valid σ c w f = (run_step (c ∷ []) σ (and_i w refl) f).facts

memory_is : (cs : List Call) (σ : State) → all of_bytes cs ≡ true → StateFacts σ → memory_after cs (encode σ) ≡ encode (after cs σ)
unfolding memory_after after all written
memory_is [] σ w f = refl
memory_is (c ∷ cs) σ w f =
    ap (λ (d : Done). memory_after cs d.after) (call_done σ (facts_valid σ f) c)
    ∙ memory_is cs (returned σ c).after (and_r (of_bytes c) (all of_bytes cs) w) (call_valid σ c (and_l (of_bytes c) (all of_bytes cs) w) f)

returns_are : (cs : List Call) (σ : State) → all of_bytes cs ≡ true → StateFacts σ → returns_on cs (encode σ) ≡ map written (returns_of cs σ)
unfolding returns_on returns_of all written
returns_are [] σ w f = refl
returns_are (c ∷ cs) σ w f =
    let r = returned σ c in
    ap (λ (d : Done). d ∷ returns_on cs d.after) (call_done σ (facts_valid σ f) c)
    ∙ ap (λ ds. written r ∷ ds) (returns_are cs r.after (and_r (of_bytes c) (all of_bytes cs) w) (call_valid σ c (and_l (of_bytes c) (all of_bytes cs) w) f))

-- ---- no call of the model is refused by 13

Returns : Result → Type 0
Returns r = r.refusal ≡ invalid_memory → ⊥

pub fed_taken : (bytes : List ℕ) (n s : ℕ) (σ : State) → (fed_from n s bytes σ).refusal ≡ 0
unfolding fed_from fed_on
fed_taken [] n s σ = refl
fed_taken (b ∷ bytes) n s σ = on_step (step σ s b) (fed_taken bytes (n + 1) s)
  where
    on_step : (x : Step) → ((τ : State) → (fed_from (n + 1) s bytes τ).refusal ≡ 0) → (fed_on (n + 1) (λ τ. fed_from (n + 1) s bytes τ) x).refusal ≡ 0
    on_step (silent τ) ih = ih τ
    on_step (answers a τ) ih = refl

call_returns : (σ : State) (c : Call) → Returns (returned σ c)
unfolding returned feed reconnect refused Returns
call_returns σ (feeds s chunk buffer_length) =
    on_if Returns (leb station_count s) _ _ (λ t e. omega arith) (λ t. on_if Returns (ltb buffer_length max_answer) _ _ (λ u e. omega arith) (λ u e. let z = fed_taken chunk 0 s σ in omega arith))
call_returns σ (reconnects s) = on_if Returns (leb station_count s) _ _ (λ t e. omega arith) (λ t e. omega arith)

not13 : (cs : List Call) (σ : State) (d : Done) → Mem d (map written (returns_of cs σ)) → d.refusal ≡ invalid_memory → ⊥
unfolding returns_of Returns written
not13 [] σ d m q = mem_none m
not13 (c ∷ cs) σ d (here e) q = call_returns σ c (sym (ap (λ (x : Done). x.refusal) e) ∙ q)
not13 (c ∷ cs) σ d (there m) q = not13 cs (returned σ c).after d m q

-- every list of calls, of bytes, from every valid state
pub whole_list : (σ : State) → Valid.valid σ ≡ true → (cs : List Call) → all of_bytes cs ≡ true → WholeList σ cs
whole_list σ v cs w =
    let f = valid_facts σ v in
    let mine = memory_is cs σ w f in
    record {
      memory = mine;
      returns = returns_are cs σ w f;
      never13 = λ r m. not13 cs σ r (subst (Mem r) (returns_are cs σ w f) m);
      same_memory = λ ds x e. memory_is ds σ x f ∙ ap encode (cutting ds cs σ e).end ∙ sym mine;
      throughout = throughout σ v cs w;
    }

only_first : (t : Token) → Live t start → t ≡ start_token
unfolding Live start placed lives
only_first t (here e) = e
only_first t (there m) = absurd (mem_none m)

pub after_start : (cs : List Call) → all of_bytes cs ≡ true → AfterStart cs
unfolding start_on
after_start cs w = record { begun = λ m h. rw h; whole = whole_list start start_valid cs w; first = only_first }
