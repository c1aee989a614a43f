-- The bytes of the input that are held: what `refill` and `advance` do to them. Assumes nothing.
use Prim.Native.Nat.{ℕ, ◌+◌, ◌-◌, ◌≤◌, ◌<◌}
use native.Mathlib.Omega.{arith}
use mathlib.Core.Path.{◌≡◌, refl, sym, ap, ◌∙◌}
use mathlib.Core.Bool.{true}
use mathlib.Core.List.{List, ◌++◌}
use lib.ListN.{length, take, drop, length-drop}
use lib.Seq.{take-take, take_at, length-take-le}
use borrow.Rule.Slice.PartMut.{post_of, put_mid, take_put}
use Rattle.std.specs.Prelude.{Some}
use Rattle.std.specs.declared.ops.ControlFlow.TheVariants.{Break}
use Rattle.std.proofs.lemmas.List.{length-append}
use Rattle.rules.specs.Frame.{max_answer}
use Rattle.rules.specs.Memory.{Memory, valid}
use Rattle.lists.proofs.Cuts.{drop_take}
use Rattle.session.specs.Program.{budget}
use Rattle.session.specs.Input.{Kept}
use Rattle.obriska.specs.declared.Span.{Span}
use Rattle.obriska.specs.declared.Advanced.{Advanced}
use Rattle.obriska.specs.Serving.{held, Room, Refilled, Advances, Runs, turn, Ends}

-- ---- refill

-- b is the buffer, b₁ with the bytes held at its front, ys what then stands after these
module _ (p : Span) (b b₁ ys : List ℕ) (n : ℕ) (k : Kept p.from p.end b b₁ n) (fits : Room p b) (long : length b₁ ≡ length b) where
  abbrev filled : List ℕ
  filled = put_mid n (length b₁ - n) b₁ ys

  moved : take n b₁ ≡ held p b
  moved =
      ap (take n) k.bytes
      ∙ take_at (take n (drop p.from b)) (drop n b) n (length-take-le n (drop p.from b) (omega (arith, k.count, length-drop p.from b)))
      ∙ ap (λ (j : ℕ). take j (drop p.from b)) k.count
      ∙ sym (drop_take p.from p.end b)

  -- j bytes were read
  pub refilled : (j : ℕ) → (j ≡ 0 → ⊥) → j ≤ length ys → length filled ≡ length b₁ → Refilled p b filled (Some (record { from = 0; end = n + j }))
  refilled j some c e = record {
    front = refl;
    kept =
        take-take (p.end - p.from) (n + j) filled (omega (arith, k.count))
        ∙ ap (λ (i : ℕ). take i filled) (sym k.count)
        ∙ take_put n (length b₁ - n) b₁ ys (omega (arith, k.count))
        ∙ moved;
    more = omega (arith, k.count, some);
    inside = omega (arith, k.count, length-take-le n b₁ (omega (arith, k.count)), length-append (take n b₁) (ys ++ post_of n (length b₁ - n) b₁), length-append ys (post_of n (length b₁ - n) b₁));
  }

-- ---- run

-- the last turn
pub stops : (p : Span) (b b' : List ℕ) (m m' : Memory) (buffer_length : ℕ) (a : Advanced) → Advances p b b' m m' buffer_length (Break a)
    → (chunks : ℕ) → chunks < budget → (b₀ : List ℕ) (m₀ : Memory) → Runs b₀ m₀ chunks true b p m → max_answer ≤ buffer_length → valid m ≡ true → Ends b₀ b' m₀ m' (Some (chunks + a.chunks))
stops p b b' m m' buffer_length a f chunks below b₀ m₀ before fits v = record {
  span = a.span;
  runs = turn before fits f;
  most = omega (arith, f.count);
  memory = f.stays v;
}
