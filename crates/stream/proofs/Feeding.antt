-- What a feed of the model does is what the chunk does to the station's pending bytes: the bytes that join before the last one leave no trace. Assumes nothing.
use Prim.Native.Nat.{ℕ, zero, suc, ◌+◌, ◌<◌}
use native.Mathlib.Omega.{arith}
use mathlib.Core.Path.{◌≡◌, refl, sym, ap, ◌∙◌}
use mathlib.Core.Bool.{true, false}
use mathlib.Core.List.{List, [], ◌∷◌, ◌++◌}
use lib.ListN.{length, get_or}
use Rattle.rules.specs.Basic.{change_at}
use Rattle.rules.specs.Refusal.{stream_broken}
use Rattle.rules.specs.Station.{Station, start_station, with_pending, cleared, broken_off}
use Rattle.rules.specs.State.{State, with_stations, station_at, change_station}
use Rattle.rules.specs.Serve.{serve}
use Rattle.rules.specs.Frame.{Framed, part, broken, whole, framed, frame}
use Rattle.rules.specs.Model.{joined, byte_at, step, Result, fed_on, fed_from}
use Rattle.stream.specs.Join.{Stop, stop_on, stopped_from, stopped}

-- ---- one station changed twice, read back, and changed to what it is

module _ {A : Type 0} where
  twice : (i : ℕ) (f g : A → A) (xs : List A) → change_at i g (change_at i f xs) ≡ change_at i (λ x. g (f x)) xs
  unfolding change_at
  twice i f g [] = refl
  twice zero f g (x ∷ xs) = refl
  twice (suc i) f g (x ∷ xs) = ap (λ ys. x ∷ ys) (twice i f g xs)

  read_back : (i : ℕ) (f : A → A) (xs : List A) (z : A) → i < length xs → get_or (change_at i f xs) i z ≡ f (get_or xs i z)
  unfolding change_at
  read_back i f [] z h = absurd (omega arith)
  read_back zero f (x ∷ xs) z h = refl
  read_back (suc i) f (x ∷ xs) z h = read_back i f xs z (omega arith)

  same : (i : ℕ) (f : A → A) (xs : List A) (z : A) → f (get_or xs i z) ≡ get_or xs i z → change_at i f xs ≡ xs
  unfolding change_at
  same i f [] z e = refl
  same zero f (x ∷ xs) z e = ap (λ y. y ∷ xs) e
  same (suc i) f (x ∷ xs) z e = ap (λ ys. x ∷ ys) (same i f xs z e)

-- ---- a feed

abbrev pub accepted : ℕ → List ℕ → State → Result
accepted used answer σ = record { refusal = 0; used = used; answer = answer; after = σ }

-- a chunk after what is pending at a station
abbrev pub stop_at : State → ℕ → List ℕ → Stop
stop_at σ s chunk = stopped (station_at σ s).pending chunk

module _ (σ : State) (s : ℕ) where
  -- a broken stream eats all
  eaten : (n : ℕ) (chunk : List ℕ) → (station_at σ s).is_broken ≡ true → fed_from n s chunk σ ≡ accepted (n + length chunk) [] σ
  unfolding fed_from fed_on step byte_at
  eaten n [] e = ap (λ (k : ℕ). accepted k [] σ) (omega arith)
  eaten n (b ∷ chunk) e = rw e (eaten (n + 1) chunk e ∙ ap (λ (k : ℕ). accepted k [] σ) (omega arith))

  pub stream_eaten : (chunk : List ℕ) → (station_at σ s).is_broken ≡ true → fed_from 0 s chunk σ ≡ accepted (length chunk) [] σ
  stream_eaten chunk e = eaten 0 chunk e ∙ ap (λ (k : ℕ). accepted k [] σ) (omega arith)

  -- what the bytes that joined come to, as if they had joined at once
  abbrev fed_by : Stop → Result
  fed_by x = fed_on x.used (accepted x.used []) (joined σ s x.joined x.what)

  changed_twice : (f g : Station → Station) → change_station s g (change_station s f σ) ≡ change_station s (λ x. g (f x)) σ
  unfolding change_station with_stations
  changed_twice f g = ap (λ xs. with_stations xs σ) (twice s f g σ.stations)

  -- one byte more, which made the pending bytes
  fed_on_lem : (n : ℕ) (pending more : List ℕ) (go : State → Result) (stop : List ℕ → Stop) → go (change_station s (with_pending more) σ) ≡ fed_by (stop more)
      → (y : Framed) → fed_on n go (joined (change_station s (with_pending pending) σ) s more y) ≡ fed_by (stop_on n more stop y)
  unfolding fed_on joined stop_on with_pending cleared broken_off
  fed_on_lem n pending more go stop ih part = ap go (changed_twice (with_pending pending) (with_pending more)) ∙ ih
  fed_on_lem n pending more go stop ih broken = ap (λ τ. accepted n (frame (stream_broken ∷ [])) τ) (changed_twice (with_pending pending) broken_off)
  fed_on_lem n pending more go stop ih (whole body) =
      ap (λ τ. let r = serve τ s body in accepted n (frame r.answer) r.state) (changed_twice (with_pending pending) cleared)

  module _ (h : s < length σ.stations) where
    fed_pending : (n : ℕ) (pending chunk : List ℕ) → fed_from n s chunk (change_station s (with_pending pending) σ) ≡ fed_by (stopped_from n pending chunk)
    unfolding fed_from fed_on step byte_at joined stopped_from station_at change_station with_stations with_pending
    fed_pending n pending [] = refl
    fed_pending n pending (b ∷ chunk) =
        let τ = change_station s (with_pending pending) σ in
        let more = pending ++ (b ∷ []) in
        ap (λ (x : Station). fed_on (n + 1) (λ υ. fed_from (n + 1) s chunk υ) (byte_at τ s x b)) (read_back s (with_pending pending) σ.stations start_station h)
        ∙ fed_on_lem (n + 1) pending more (λ υ. fed_from (n + 1) s chunk υ) (λ bytes. stopped_from (n + 1) bytes chunk) (fed_pending (n + 1) more chunk) (framed more)

    -- a stream that is not broken
    module _ (intact : (station_at σ s).is_broken ≡ false) (chunk : List ℕ) where
      unchanged : change_station s (with_pending (station_at σ s).pending) σ ≡ σ
      unfolding change_station with_stations with_pending station_at
      unchanged =
          let x = station_at σ s in
          ap (λ xs. with_stations xs σ) (same s (with_pending x.pending) σ.stations start_station (λ i. record { token = x.token; client = x.client; pending = x.pending; is_broken = sym intact i }))

      fed : fed_from 0 s chunk σ ≡ fed_by (stop_at σ s chunk)
      fed = sym (ap (fed_from 0 s chunk) unchanged) ∙ fed_pending 0 (station_at σ s).pending chunk

      -- the chunk ends in a part of a frame
      pub fed_part : (stop_at σ s chunk).what ≡ part → fed_from 0 s chunk σ ≡ accepted (stop_at σ s chunk).used [] (change_station s (with_pending (stop_at σ s chunk).joined) σ)
      unfolding fed_on joined
      fed_part e = fed ∙ rw e

      -- the stream breaks
      pub fed_broken : (stop_at σ s chunk).what ≡ broken → fed_from 0 s chunk σ ≡ accepted (stop_at σ s chunk).used (frame (stream_broken ∷ [])) (change_station s broken_off σ)
      unfolding fed_on joined
      fed_broken e = fed ∙ rw e

      -- a frame is whole: its body is served
      pub fed_whole : (body : List ℕ) → (stop_at σ s chunk).what ≡ whole body
          → fed_from 0 s chunk σ ≡ (let r = serve (change_station s cleared σ) s body in accepted (stop_at σ s chunk).used (frame r.answer) r.state)
      unfolding fed_on joined
      fed_whole body e = fed ∙ rw e
