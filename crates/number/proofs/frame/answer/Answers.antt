-- `answer` meets its contract: the length, and the body after it. Assumes nothing.
use Prim.Native.Nat.{ℕ, ◌+◌, ◌-◌, ◌≤◌, min}
use native.Mathlib.Omega.{arith}
use mathlib.Core.Path.{◌≡◌, ap, ◌∙◌}
use mathlib.Core.List.{List, ◌++◌}
use lib.ListN.{length, take, drop, length-append}
use borrow.Author.Rules.{rules}
use borrow.Rule.Slice.PartMut.{put_mid}
use Rattle.rules.specs.Number.{encode, encode_all}
use Rattle.rules.specs.Frame.{frame}
use Rattle.number.specs.Over.{over}
use Rattle.number.specs.Answer.{body, answered}
use Rattle.number.proofs.Over.{over_fits, onto, first_fits, both, second_fits}
use Rattle.number.proofs.frame.answer.Goals as goal

-- the fields take m bytes; a is the place after the length
module _ (fs plain o₀ : List ℕ) (m a : ℕ) (em : m ≡ length (encode_all fs)) (ea : a ≡ min (length (encode (m + length plain))) (length o₀)) (fit : length (answered fs plain) ≤ length o₀) where
  counted : m + length plain ≡ length (body fs plain)
  counted = omega (arith, length-append (encode_all fs) plain)

  head : a ≡ length (encode (length (body fs plain)))
  unfolding frame
  head = omega (arith, first_fits (encode (length (body fs plain))) (body fs plain) o₀ fit, ap (λ (k : ℕ). length (encode k)) counted)

  sized : (r : ℕ) → r ≡ length (body fs plain) → a + r ≡ length (answered fs plain)
  unfolding frame
  sized r e = omega (arith, both (encode (length (body fs plain))) (body fs plain) o₀ fit a head)

  -- o holds the length over o₀
  module _ (o : List ℕ) (eo : o ≡ over (encode (m + length plain)) o₀) where
    began : o ≡ over (encode (length (body fs plain))) o₀
    began = eo ∙ ap (λ (k : ℕ). over (encode k) o₀) counted

    room : length (body fs plain) ≤ length (take (length o - a) (drop a o))
    unfolding frame
    room = second_fits (encode (length (body fs plain))) (body fs plain) o₀ fit a head o began

    framed : (ys : List ℕ) → ys ≡ over (body fs plain) (take (length o - a) (drop a o)) → put_mid a (length o - a) o ys ≡ answered fs plain ++ drop (length (answered fs plain)) o₀
    unfolding frame
    framed ys w = onto (encode (length (body fs plain))) (body fs plain) o₀ o ys a head began w ∙ over_fits (answered fs plain) o₀ fit

pub write_body-requires : goal.write_body-requires
write_body-requires c = search (rules, room)

pub returns : goal.returns
returns c = search (rules, sized, framed)
