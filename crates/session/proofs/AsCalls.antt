-- What the program writes is what the calls of its input answer. Assumes nothing.
use Prim.Native.Nat.{ℕ, zero, suc}
use mathlib.Core.Path.{◌≡◌, refl, sym, ap, ◌∙◌}
use mathlib.Core.Bool.{Bool, true, false}
use mathlib.Core.List.{List, [], ◌∷◌, ◌++◌, append_assoc}
use lib.ListN.{length, drop}
use lib.Dec.{leb}
use Rattle.std.specs.Prelude.{if◌then◌else◌}
use Rattle.rules.specs.Refusal.{no_station}
use Rattle.rules.specs.State.{State, start, station_count}
use Rattle.rules.specs.Frame.{max_answer}
use Rattle.rules.specs.Model.{Result, refused, feed}
use Rattle.rules.specs.Run.{Call, feeds, returned, after, noted, answered, until_used}
use Rattle.rules.proofs.WholeList.{fed_taken}
use Rattle.session.specs.Program as program
use Rattle.session.specs.Program.{Next, chunk, more, stop, Output, nothing, on_fed, fed_in, fed, budget, next, run, written}
use Rattle.session.specs.Blocks.{concat}
use Rattle.session.specs.Turns.{answering}
use Rattle.session.specs.AsCalls.{calls_of, on_next, calls}
use Rattle.session.proofs.Feeding.{on_taken}

concat_noted : (a : List ℕ) (rest : List (List ℕ)) → concat (noted a rest) ≡ a ++ concat rest
unfolding concat noted
concat_noted [] rest = refl
concat_noted (b ∷ a) rest = refl

-- what calls bring, as one output
abbrev brought : List Call → State → Output
brought cs σ = record { bytes = concat (answered cs σ); after = after cs σ }

append_bytes : (cs ds : List Call) (σ : State) → concat (answered (cs ++ ds) σ) ≡ concat (answered cs σ) ++ concat (answered ds (after cs σ))
unfolding answered after concat
append_bytes [] ds σ = refl
append_bytes (c ∷ cs) ds σ =
    let r = returned σ c in
    concat_noted r.answer (answered (cs ++ ds) r.after)
    ∙ ap (λ (xs : List ℕ). r.answer ++ xs) (append_bytes cs ds r.after)
    ∙ sym (append_assoc r.answer (concat (answered cs r.after)) (concat (answered ds (after cs r.after))))
    ∙ ap (λ (xs : List ℕ). xs ++ concat (answered ds (after cs r.after))) (sym (concat_noted r.answer (answered cs r.after)))

-- ---- a chunk

module _ (s : ℕ) where
  -- a station above 7
  no_station_lem : leb station_count s ≡ true → (σ : State) (bytes : List ℕ) → feed σ s bytes max_answer ≡ refused no_station σ
  unfolding feed
  no_station_lem e σ bytes = rw e

  skipped : leb station_count s ≡ true → (k : ℕ) (σ : State) (bytes : List ℕ) → fed_in k σ s bytes ≡ nothing σ
  unfolding fed_in on_fed refused
  skipped e zero σ bytes = refl
  skipped e (suc k) σ [] = refl
  skipped e (suc k) σ (b ∷ bytes) = ap (on_fed (λ r. fed_in k r.after s (drop r.used (b ∷ bytes)))) (no_station_lem e σ (b ∷ bytes))

  refused_brings : leb station_count s ≡ true → (σ : State) (bytes : List ℕ) → nothing σ ≡ brought (feeds s bytes max_answer ∷ []) σ
  unfolding nothing answered after returned refused noted concat
  refused_brings e σ bytes = sym (ap (λ (r : Result). record { bytes = concat (noted r.answer []); after = r.after }) (no_station_lem e σ bytes))

  -- one that is served
  takes : leb station_count s ≡ false → (σ : State) (bytes : List ℕ) → (feed σ s bytes max_answer).refusal ≡ 0
  unfolding feed
  takes e σ bytes = rw e (fed_taken bytes 0 s σ)

  used_up_lem : leb station_count s ≡ false → (k : ℕ) (σ : State) (bytes : List ℕ) → fed_in k σ s bytes ≡ brought (until_used k σ s bytes max_answer) σ
  unfolding fed_in nothing until_used answered after returned concat
  used_up_lem e zero σ bytes = refl
  used_up_lem e (suc k) σ [] = refl
  used_up_lem e (suc k) σ (b ∷ bytes) =
      let r = feed σ s (b ∷ bytes) max_answer in
      let rest = until_used k r.after s (drop r.used (b ∷ bytes)) max_answer in
      on_taken (λ x. fed_in k x.after s (drop x.used (b ∷ bytes))) r (takes e σ (b ∷ bytes))
      ∙ ap (answering r.answer) (used_up_lem e k r.after (drop r.used (b ∷ bytes)))
      ∙ ap (λ (xs : List ℕ). record { bytes = xs; after = after rest r.after }) (sym (concat_noted r.answer (answered rest r.after)))

  chunk_brings : (σ : State) (bytes : List ℕ) → fed σ s bytes ≡ brought (calls_of σ s bytes) σ
  unfolding fed calls_of
  chunk_brings σ bytes = by (leb station_count s) refl
    where
      by : (b : Bool) → leb station_count s ≡ b → fed_in (length bytes) σ s bytes ≡ brought (if b then feeds s bytes max_answer ∷ [] else until_used (length bytes) σ s bytes max_answer) σ
      by true e = skipped e (length bytes) σ bytes ∙ refused_brings e σ bytes
      by false e = used_up_lem e (length bytes) σ bytes

-- ---- the whole

next_answers : (n : ℕ) (σ : State) → ((later : List ℕ) (τ : State) → run n later τ ≡ concat (answered (calls n later τ) τ))
    → (x : Next) → program.on_next σ (run n) [] x ≡ concat (answered (on_next σ (calls n) x) σ)
unfolding program.on_next on_next answered concat
next_answers n σ ih (chunk s bytes later) =
    let cs = calls_of σ s bytes in
    ap (λ (o : Output). o.bytes ++ run n later o.after) (chunk_brings s σ bytes)
    ∙ ap (λ (xs : List ℕ). concat (answered cs σ) ++ xs) (ih later (after cs σ))
    ∙ sym (append_bytes cs (calls n later (after cs σ)) σ)
next_answers n σ ih more = refl
next_answers n σ ih stop = refl

run_answers : (n : ℕ) (input : List ℕ) (σ : State) → run n input σ ≡ concat (answered (calls n input σ) σ)
unfolding run calls answered concat
run_answers zero input σ = refl
run_answers (suc n) input σ = next_answers n σ (run_answers n) (next input)

pub written_answers : (input : List ℕ) → written input ≡ concat (answered (calls budget input start) start)
unfolding written
written_answers input = run_answers budget input start
