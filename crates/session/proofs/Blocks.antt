-- How the input is cut into blocks can't be seen in what is written. Assumes nothing.
use Prim.Native.Nat.{ℕ, zero, suc}
use native.Mathlib.Omega.{arith}
use mathlib.Core.Path.{◌≡◌, refl, sym, ap, ◌∙◌}
use mathlib.Core.List.{List, [], ◌∷◌, ◌++◌, append_assoc, append-nil}
use Rattle.rules.specs.State.{State, start}
use Rattle.session.specs.Program.{Next, chunk, more, stop, budget, next, fed, on_next, run, written}
use Rattle.session.specs.Blocks.{joined, concat, reading, run_blocks, written_in_blocks}
use Rattle.session.proofs.Later.{lasts}

module _ (n : ℕ) (rest : List ℕ → List (List ℕ) → State → List ℕ) (same : (held : List ℕ) (blocks : List (List ℕ)) (σ : State) → rest held blocks σ ≡ run n (held ++ concat blocks) σ) where
  -- the last block is held
  last : (held : List ℕ) (σ : State) (x : Next) → on_next σ (λ later. rest later []) [] x ≡ on_next σ (run n) [] x
  unfolding on_next concat
  last held σ (chunk s bytes later) = let o = fed σ s bytes in ap (λ (y : List ℕ). o.bytes ++ y) (same later [] o.after ∙ ap (λ (z : List ℕ). run n z o.after) (append-nil later))
  last held σ more = refl
  last held σ stop = refl

  -- there is more to come, and `waiting` is right where it is needed
  early : (held : List ℕ) (blocks : List (List ℕ)) (σ : State) (waiting : List ℕ) → waiting ≡ run (suc n) (held ++ concat blocks) σ
      → (x : Next) → next held ≡ x → on_next σ (λ later. rest later blocks) waiting x ≡ run (suc n) (held ++ concat blocks) σ
  unfolding on_next run joined
  early held blocks σ waiting w (chunk s bytes later) e =
      let o = fed σ s bytes in
      ap (λ (y : List ℕ). o.bytes ++ y) (same later blocks o.after)
      ∙ sym (ap (on_next σ (run n) []) (lasts (concat blocks) held (λ m. let z : ◌≡◌ {A = ℕ} 0 1 = cc in omega arith) ∙ ap (joined (concat blocks)) e))
  early held blocks σ waiting w more e = w
  early held blocks σ waiting w stop e =
      sym (ap (on_next σ (run n) []) (lasts (concat blocks) held (λ m. let z : ◌≡◌ {A = ℕ} 0 1 = cc in omega arith) ∙ ap (joined (concat blocks)) e))

  reading_is : (blocks : List (List ℕ)) (held : List ℕ) (σ : State) → reading rest held blocks σ ≡ run (suc n) (held ++ concat blocks) σ
  unfolding reading run concat
  reading_is [] held σ = last held σ (next held) ∙ ap (λ (z : List ℕ). run (suc n) z σ) (sym (append-nil held))
  reading_is (block ∷ blocks) held σ =
      early held (block ∷ blocks) σ (reading rest (held ++ block) blocks σ)
      (reading_is blocks (held ++ block) σ ∙ ap (λ (z : List ℕ). run (suc n) z σ) (append_assoc held block (concat blocks))) (next held) refl

blocks_are : (n : ℕ) (held : List ℕ) (blocks : List (List ℕ)) (σ : State) → run_blocks n held blocks σ ≡ run n (held ++ concat blocks) σ
unfolding run_blocks run
blocks_are zero held blocks σ = refl
blocks_are (suc n) held blocks σ = reading_is n (run_blocks n) (blocks_are n) blocks held σ

pub in_blocks : (blocks : List (List ℕ)) → written_in_blocks blocks ≡ written (concat blocks)
unfolding written_in_blocks written
in_blocks blocks = blocks_are budget [] blocks start
