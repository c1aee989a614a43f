-- What reconnect returns in each case is what the rules say of it. Assumes nothing.
use Prim.Native.Nat.{ℕ, ◌≤◌, ◌<◌}
use mathlib.Core.Path.{◌≡◌, sym, ap, subst, ◌∙◌}
use mathlib.Core.Bool.{Bool, true, false, not}
use mathlib.Core.List.{List}
use borrow.Author.Tests.{le-leb, lt-leb, not-true, not-false}
use Rattle.rules.specs.Refusal.{no_station, invalid_memory}
use Rattle.rules.specs.Station.{cleared}
use Rattle.rules.specs.State.{State, station_count, with_stations, change_station}
use Rattle.rules.specs.Memory.{Memory, encode, decode, valid}
use Rattle.rules.specs.Model.{reconnect}
use Rattle.rules.specs.Calls.{refused_on, written, reconnect_on}
use Rattle.handle.specs.declared.Handle.{Handle}
use Rattle.state.specs.ReleaseFacts.{PartsIn}
use Rattle.valid.specs.Meaning.{memory_of}
use Rattle.valid.specs.Tested.{ValidTested}
use Rattle.std.specs.Prelude.{Ok, Err}
use Rattle.start.specs.declared.refusal.CallRefusal.TheVariants.{NoStation, InvalidMemory}
use Rattle.start.specs.Promise.{ReconnectsWith}
use Rattle.start.specs.Streams.{StreamDropped}
use Rattle.start.proofs.Parts.{written_as, held_parts, held_pending}

-- ---- by cases

module _ (m : Memory) (s : ℕ) where
  no_station_lem : station_count ≤ s → reconnect_on m s ≡ refused_on no_station m
  unfolding reconnect_on
  no_station_lem h = rw (le-leb station_count s h)

  invalid : s < station_count → valid m ≡ false → reconnect_on m s ≡ refused_on invalid_memory m
  unfolding reconnect_on
  invalid h v = rw (lt-leb station_count s h, v)

  reconnects : s < station_count → valid m ≡ true → (reconnect_on m s).after ≡ encode (change_station s cleared (decode m))
  unfolding reconnect_on written reconnect
  reconnects h v = rw (lt-leb station_count s h, v)

  reconnects_0 : s < station_count → valid m ≡ true → (reconnect_on m s).refusal ≡ 0
  unfolding reconnect_on written reconnect
  reconnects_0 h v = rw (lt-leb station_count s h, v)

module _ (s count : ℕ) (items : List Handle) (ts ds cs ps : List ℕ) where
  pub reconnect_no_station : station_count ≤ s → ReconnectsWith s count items ts ds cs ps cs ps (Err NoStation)
  unfolding refused_on
  reconnect_no_station h = record {
    reconnected = λ hs l e. let d = no_station_lem (memory_of ts ds hs cs ps) s h in record { refusal = sym (ap (λ x. x.refusal) d); memory = sym (ap (λ x. x.after) d) };
  }

  module _ (h : s < station_count) (b : Bool) (t : ValidTested count items ts ds cs ps b) where
    pub reconnect_invalid : not b ≡ true → ReconnectsWith s count items ts ds cs ps cs ps (Err InvalidMemory)
    unfolding refused_on
    reconnect_invalid f = record {
      reconnected = λ hs l e.
          let d = invalid (memory_of ts ds hs cs ps) s h (sym (t.means hs l e) ∙ not-true b f) in
          record { refusal = sym (ap (λ x. x.refusal) d); memory = sym (ap (λ x. x.after) d) };
    }

    pub reconnects_with : not b ≡ false → {cs' ps' : List ℕ} → StreamDropped s cs ps cs' ps' → (u : _) → ReconnectsWith s count items ts ds cs ps cs' ps' (Ok u)
    unfolding change_station with_stations
    reconnects_with f {cs'} {ps'} d u = record {
      reconnected = λ hs l e.
          let m : Memory = memory_of ts ds hs cs ps in
          let v : valid m ≡ true = sym (t.means hs l e) ∙ not-false b f in
          let σ : State = decode m in
          let p : PartsIn σ ts ds hs cs = held_parts ts ds hs cs ps v in
          record {
            refusal = sym (reconnects_0 m s h v);
            memory =
                written_as ts ds hs cs' ps' (change_station s cleared σ)
                (record {
                  handles = record { records = p.handles.records };
                  control = d.control σ p.control;
                  tokens = record { words = p.tokens.words; bytes = p.tokens.bytes };
                })
                (d.pending σ (held_pending ts ds hs cs ps v))
                ∙ sym (reconnects m s h v);
          };
    }

    -- the stream that is dropped is that station's
    pub reconnects_by : not b ≡ false → {n : ℕ} {cs₁ ps₁ cs' ps' : List ℕ} → StreamDropped n cs₁ ps₁ cs' ps' → n ≡ s → cs₁ ≡ cs → ps₁ ≡ ps → (u : _) → ReconnectsWith s count items ts ds cs ps cs' ps' (Ok u)
    reconnects_by f {n} {cs₁} {ps₁} {cs'} {ps'} d en ec ep u =
        reconnects_with f
        (subst (λ (x : ℕ). StreamDropped x cs ps cs' ps') en
        (subst (λ (x : List ℕ). StreamDropped n x ps cs' ps') ec
        (subst (λ (x : List ℕ). StreamDropped n cs₁ x cs' ps') ep d)))
        u
