-- The memory that the program starts with. Assumes nothing.
use Prim.Native.Nat.{ℕ, ◌*◌}
use native.Mathlib.Omega.{arith}
use mathlib.Core.Path.{◌≡◌, ap, ◌∙◌}
use mathlib.Core.Bool.{true}
use mathlib.Core.List.{List, map}
use lib.ListN.{length}
use borrow.Author.Tests.{eq-eqb}
use Rattle.rules.specs.Token.{max_dacl}
use Rattle.rules.specs.State.{start, token_slots, station_count}
use Rattle.rules.specs.Frame.{max_answer}
use Rattle.rules.specs.Memory.{token_words, control_words, pending_bytes, sized, encode}
use Rattle.rules.specs.Calls.{start_on}
use Rattle.rules.proofs.Logic.{and_i}
use Rattle.rules.proofs.Memory.{start_written}
use Rattle.handle.specs.Meaning.{handle_of}
use Rattle.handle.specs.Words.{records_in}
use Rattle.handle.specs.declared.Handle.{Handle}
use Rattle.valid.specs.Meaning.{memory_of}
use Rattle.session.specs.Turns.{held, Starts}
use Rattle.session.specs.declared.turn.Memory as program
use Rattle.obriska.specs.Serving.{buffer_bytes, Ready}

module _ (m n : program.Memory) (f : Starts m n)
    (lt : length m.tokens.now ≡ token_slots * token_words) (ld : length m.dacls.now ≡ token_slots * max_dacl)
    (ls : length m.control.now ≡ control_words) (lp : length m.pending.now ≡ station_count * pending_bytes) where
  fits : sized (memory_of m.tokens.now m.dacls.now (records_in n.handles.words) m.control.now m.pending.now) ≡ true
  unfolding sized
  fits = and_i (and_i (and_i (and_i (eq-eqb _ _ lt) (eq-eqb _ _ ld)) (eq-eqb _ _ (ap (λ (hs : List Handle). length (map handle_of hs)) f.handles))) (eq-eqb _ _ ls)) (eq-eqb _ _ lp)

  begun : held n ≡ encode start
  unfolding start_on
  begun = f.memory ∙ rw fits

  pub ready : (b a : List ℕ) → length b ≡ buffer_bytes → length a ≡ max_answer → Ready b a (held n)
  ready b a lb la = record { input = lb; output = omega arith; memory = rw begun start_written }
