-- What one feed brings, in the program's terms. Assumes nothing.
use Prim.Native.Nat.{ℕ, zero, suc, ◌+◌, ◌≤◌, ◌<◌}
use native.Mathlib.Omega.{arith}
use mathlib.Core.Path.{◌≡◌, refl, sym, ap, ap₂, ◌∙◌}
use mathlib.Core.Logic.{⊎_elim}
use mathlib.Core.Bool.{Bool, true, false}
use mathlib.Core.List.{List, [], ◌∷◌}
use lib.ListN.{length, drop, length-drop}
use lib.Dec.{leb, ltb}
use borrow.Author.Tests.{eq-eqb, ne_eqb, le-ltb}
use Rattle.std.specs.Prelude.{if◌then◌else◌}
use Rattle.rules.specs.Basic.{all}
use Rattle.rules.specs.Refusal.{no_station, short_buffer, invalid_memory}
use Rattle.rules.specs.State.{State, station_count}
use Rattle.rules.specs.Frame.{max_answer}
use Rattle.rules.specs.Valid as Valid
use Rattle.rules.specs.Valid.{is_byte}
use Rattle.rules.specs.Model.{Result, Step, silent, answers, step, refused, fed_on, fed_from, feed}
use Rattle.rules.specs.Run.{feeds, returned, after, of_bytes}
use Rattle.rules.specs.Memory.{Memory, decode, valid}
use Rattle.rules.specs.Calls.{Done, refused_on, written, feed_on}
use Rattle.rules.proofs.Logic.{and_i}
use Rattle.rules.proofs.Tables.{on_if}
use Rattle.rules.proofs.Numbers.{below_or}
use Rattle.rules.proofs.Facts.{valid_facts, facts_valid}
use Rattle.rules.proofs.Always.{run_step}
use Rattle.rules.proofs.Memory.{valid_written, valid_state, read_back, written_valid}
use Rattle.session.specs.Program.{Output, nothing, on_fed, fed_in, fed}
use Rattle.session.specs.Turns.{answering}

-- ---- how much a feed uses

-- it uses a byte of a chunk that has one, and no more than there are
record Uses (n : ℕ) (bytes : List ℕ) (r : Result) : Type 0 where
  accepted : r.refusal ≡ 0
  least : n ≤ r.used
  some : 0 < length bytes → n < r.used
  upto : r.used ≤ n + length bytes

fed_uses : (bytes : List ℕ) (n s : ℕ) (σ : State) → Uses n bytes (fed_from n s bytes σ)
unfolding fed_from fed_on
fed_uses [] n s σ = record { accepted = refl; least = omega arith; some = λ h. omega arith; upto = omega arith }
fed_uses (b ∷ bytes) n s σ = on_step (step σ s b) (fed_uses bytes (n + 1) s)
  where
    on_step : (x : Step) → ((τ : State) → Uses (n + 1) bytes (fed_from (n + 1) s bytes τ)) → Uses n (b ∷ bytes) (fed_on (n + 1) (λ τ. fed_from (n + 1) s bytes τ) x)
    on_step (silent τ) ih = let u = ih τ in record { accepted = u.accepted; least = omega arith; some = λ h. omega arith; upto = omega arith }
    on_step (answers a τ) ih = record { accepted = refl; least = omega arith; some = λ h. omega arith; upto = omega arith }

-- of a result, or of what a call did: within the chunk, and forward where it was not refused
pub record Goes (chunk : List ℕ) (refusal used : ℕ) : Type 0 where
  pub inside : used ≤ length chunk
  pub forward : refusal ≡ 0 → 0 < length chunk → 0 < used

fed_goes : (s : ℕ) (chunk : List ℕ) (σ : State) → Goes chunk (fed_from 0 s chunk σ).refusal (fed_from 0 s chunk σ).used
fed_goes s chunk σ = let u = fed_uses chunk 0 s σ in record { inside = omega (arith, u.upto); forward = λ e h. u.some h }

stays_at : (chunk : List ℕ) (n : ℕ) → (n ≡ 0 → ⊥) → Goes chunk n 0
stays_at chunk n z = record { inside = omega arith; forward = λ e h. absurd (z e) }

model_goes : (σ : State) (s : ℕ) (chunk : List ℕ) (buffer_length : ℕ) → let r = feed σ s chunk buffer_length in Goes chunk r.refusal r.used
unfolding feed refused
model_goes σ s chunk buffer_length =
    let P : Result → Type 0 = λ r. Goes chunk r.refusal r.used in
    on_if P (leb station_count s) _ _ (λ t. stays_at chunk no_station (λ e. omega arith))
    (λ t. on_if P (ltb buffer_length max_answer) _ _ (λ u. stays_at chunk short_buffer (λ e. omega arith)) (λ u. fed_goes s chunk σ))

pub call_goes : (m : Memory) (s : ℕ) (chunk : List ℕ) (buffer_length : ℕ) → let d = feed_on m s chunk buffer_length in Goes chunk d.refusal d.used
unfolding feed_on refused_on written
call_goes m s chunk buffer_length =
    let P : Done → Type 0 = λ d. Goes chunk d.refusal d.used in
    on_if P (leb station_count s) _ _ (λ t. stays_at chunk no_station (λ e. omega arith))
    (λ t. on_if P (ltb buffer_length max_answer) _ _ (λ u. stays_at chunk short_buffer (λ e. omega arith))
    (λ u. on_if P (valid m) _ _ (λ v. fed_goes s chunk (decode m)) (λ v. stays_at chunk invalid_memory (λ e. omega arith))))

-- ---- a chunk that is fed until it is used up: one feed, and then the rest

module _ (rest : Result → Output) (r : Result) where
  pub on_taken : r.refusal ≡ 0 → on_fed rest r ≡ answering r.answer (rest r)
  unfolding on_fed
  on_taken e = rw (eq-eqb r.refusal 0 e)

  pub on_refused : (r.refusal ≡ 0 → ⊥) → on_fed rest r ≡ nothing r.after
  unfolding on_fed
  on_refused z = rw (ne_eqb r.refusal 0 z)

on_same : (go on : Result → Output) (r : Result) → (r.refusal ≡ 0 → go r ≡ on r) → on_fed go r ≡ on_fed on r
on_same go on r f = ⊎_elim
    (λ h. let e : r.refusal ≡ 0 = omega arith in on_taken go r e ∙ ap (answering r.answer) (f e) ∙ sym (on_taken on r e))
    (λ h. let z : r.refusal ≡ 0 → ⊥ = λ e. omega arith in on_refused go r z ∙ sym (on_refused on r z))
    (below_or r.refusal 1)

-- what is left of a chunk after a feed
abbrev rest_in : ℕ → ℕ → List ℕ → Result → Output
rest_in k s chunk r = fed_in k r.after s (drop r.used chunk)

abbrev rest : ℕ → List ℕ → Result → Output
rest s chunk r = fed r.after s (drop r.used chunk)

-- more feeds than bytes make no difference
enough : (k j : ℕ) (σ : State) (s : ℕ) (chunk : List ℕ) → length chunk ≤ k → length chunk ≤ j → fed_in k σ s chunk ≡ fed_in j σ s chunk
unfolding fed_in on_fed
enough zero zero σ s chunk h l = refl
enough zero (suc j) σ s [] h l = refl
enough zero (suc j) σ s (b ∷ chunk) h l = absurd (omega arith)
enough (suc k) zero σ s [] h l = refl
enough (suc k) zero σ s (b ∷ chunk) h l = absurd (omega arith)
enough (suc k) (suc j) σ s [] h l = refl
enough (suc k) (suc j) σ s (b ∷ chunk) h l =
    let r = feed σ s (b ∷ chunk) max_answer in
    let g = model_goes σ s (b ∷ chunk) max_answer in
    on_same (rest_in k s (b ∷ chunk)) (rest_in j s (b ∷ chunk)) r (λ e. enough k j r.after s (drop r.used (b ∷ chunk)) (shorter r g k h e) (shorter r g j l e))
  where
    shorter : (r : Result) → Goes (b ∷ chunk) r.refusal r.used → (k : ℕ) → suc (length chunk) ≤ suc k → r.refusal ≡ 0 → length (drop r.used (b ∷ chunk)) ≤ k
    shorter r g k h e = omega (arith, g.forward e (omega arith), length-drop r.used (b ∷ chunk))

fed_once : (σ : State) (s : ℕ) (chunk : List ℕ) → 0 < length chunk → fed σ s chunk ≡ on_fed (rest s chunk) (feed σ s chunk max_answer)
unfolding fed fed_in
fed_once σ s [] h = absurd (omega arith)
fed_once σ s (b ∷ chunk) h =
    let r = feed σ s (b ∷ chunk) max_answer in
    let g = model_goes σ s (b ∷ chunk) max_answer in
    on_same (rest_in (length chunk) s (b ∷ chunk)) (rest s (b ∷ chunk)) r (λ e. enough (length chunk) (length (drop r.used (b ∷ chunk))) r.after s (drop r.used (b ∷ chunk))
    (omega (arith, g.forward e (omega arith), length-drop r.used (b ∷ chunk))) (omega arith))

-- ---- a feed over valid memory

module _ (m : Memory) (v : valid m ≡ true) (s : ℕ) (chunk : List ℕ) (buffer_length : ℕ) where
  refuses : (n : ℕ) → refused_on n m ≡ written (refused n (decode m))
  unfolding refused_on written refused
  refuses n = ap (λ (x : Memory). record { refusal = n; used = 0; answer = []; after = x }) (sym (valid_written m v))

  on_model : feed_on m s chunk buffer_length ≡ written (feed (decode m) s chunk buffer_length)
  unfolding feed_on feed
  on_model = by (leb station_count s) (ltb buffer_length max_answer)
    where
      by : (a b : Bool) → (if a then refused_on no_station m else if b then refused_on short_buffer m else if valid m then written (fed_from 0 s chunk (decode m)) else refused_on invalid_memory m)
          ≡ written (if a then refused no_station (decode m) else if b then refused short_buffer (decode m) else fed_from 0 s chunk (decode m))
      by true b = refuses no_station
      by false true = refuses short_buffer
      by false false = rw v

  pub call_refused : max_answer ≤ buffer_length → ((feed_on m s chunk buffer_length).refusal ≡ 0 → ⊥) → (feed_on m s chunk buffer_length).refusal ≡ no_station
  unfolding feed_on refused_on written
  call_refused fits =
      on_if (λ (d : Done). (d.refusal ≡ 0 → ⊥) → d.refusal ≡ no_station) (leb station_count s) _ _ (λ t z. refl)
      (λ t. rw (le-ltb buffer_length max_answer fits, v) (λ z. absurd (z (fed_uses chunk 0 s (decode m)).accepted)))

  module _ (bytes : all is_byte chunk ≡ true) where
    after_valid : Valid.valid (feed (decode m) s chunk buffer_length).after ≡ true
    unfolding all of_bytes after returned
    after_valid = facts_valid _ (run_step (feeds s chunk buffer_length ∷ []) (decode m) (and_i bytes refl) (valid_facts (decode m) (valid_state m v))).facts

    pub call_valid : valid (feed_on m s chunk buffer_length).after ≡ true
    unfolding written
    call_valid = rw on_model (written_valid (feed (decode m) s chunk buffer_length).after after_valid)

    after_is : decode (feed_on m s chunk buffer_length).after ≡ (feed (decode m) s chunk buffer_length).after
    unfolding written
    after_is = rw on_model (read_back (feed (decode m) s chunk buffer_length).after after_valid)

    module _ (fits : max_answer ≤ buffer_length) (some : 0 < length chunk) where
      long_enough : feed (decode m) s chunk max_answer ≡ feed (decode m) s chunk buffer_length
      unfolding feed
      long_enough = rw (le-ltb buffer_length max_answer fits)

      once : fed (decode m) s chunk ≡ on_fed (rest s chunk) (feed (decode m) s chunk buffer_length)
      once = fed_once (decode m) s chunk some ∙ ap (on_fed (rest s chunk)) long_enough

      pub call_taken : (feed_on m s chunk buffer_length).refusal ≡ 0
          → let d = feed_on m s chunk buffer_length in fed (decode m) s chunk ≡ answering d.answer (fed (decode d.after) s (drop d.used chunk))
      unfolding written
      call_taken e =
          once
          ∙ on_taken (rest s chunk) (feed (decode m) s chunk buffer_length) (sym (ap (λ (d : Done). d.refusal) on_model) ∙ e)
          ∙ sym (ap₂ answering (ap (λ (d : Done). d.answer) on_model) (ap₂ (λ (τ : State) (n : ℕ). fed τ s (drop n chunk)) after_is (ap (λ (d : Done). d.used) on_model)))

      pub call_skipped : ((feed_on m s chunk buffer_length).refusal ≡ 0 → ⊥) → fed (decode m) s chunk ≡ nothing (decode (feed_on m s chunk buffer_length).after)
      unfolding written
      call_skipped z =
          once
          ∙ on_refused (rest s chunk) (feed (decode m) s chunk buffer_length) (λ e. z (ap (λ (d : Done). d.refusal) on_model ∙ e))
          ∙ ap nothing (sym after_is)
