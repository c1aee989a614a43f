-- What `feed_once` and `serve` give, in the terms of the program's states. Assumes nothing.
use Prim.Native.Nat.{ℕ}
use native.Mathlib.Omega.{arith}
use mathlib.Core.Path.{◌≡◌, refl, sym, ap, ◌∙◌}
use mathlib.Core.Bool.{true}
use mathlib.Core.List.{List, [], ◌∷◌}
use lib.ListN.{length, drop, length-drop}
use Rattle.std.specs.Prelude.{Ok}
use Rattle.rules.specs.State.{State}
use Rattle.rules.specs.Memory.{Memory, decode}
use Rattle.calls.specs.declared.Fed.{Fed}
use Rattle.session.specs.Program.{Output, nothing, fed_in, fed}
use Rattle.session.specs.Turns.{Turns}
use Rattle.obriska.specs.Serving.{Onward, Steps, Serves}

-- nothing is left of a chunk
fed_none : (σ : State) (s : ℕ) (bytes : List ℕ) → length bytes ≡ 0 → (fed σ s bytes).after ≡ σ
unfolding fed fed_in nothing
fed_none σ s [] h = refl
fed_none σ s (b ∷ bytes) h = absurd (omega arith)

-- ---- feed_once

module _ (s : ℕ) (bytes : List ℕ) (m m' : Memory) (out out' : List ℕ) (t : Fed) (f : Turns s bytes m m' out out' t) where
  pub skips : (t.refusal ≡ 0 → ⊥) → {E : Type 0} → Steps s bytes m m' (length out) {E = E} (Ok (length bytes))
  unfolding nothing
  skips z = record {
    stays = f.stays;
    used = record {
      inside = omega arith;
      some = λ h. h;
      onward = λ some. record {
        stays = f.stays;
        same = λ v fits. fed_none (decode m') s (drop (length bytes) bytes) (omega (arith, length-drop (length bytes) bytes)) ∙ sym (ap (λ (o : Output). o.after) (f.skipped v fits some z));
      };
    };
  }

-- ---- the loop of `serve`

module _ (s : ℕ) (bytes : List ℕ) (m₀ : Memory) (buffer_length : ℕ) where
  module _ (rest : List ℕ) (m : Memory) (b : Onward s bytes rest m₀ m buffer_length) where
    pub ends : length rest ≡ 0 → Serves s bytes m₀ m buffer_length true
    ends e = record { stays = b.stays; after = λ v h w. sym (fed_none (decode m) s rest e) ∙ b.same v h }
