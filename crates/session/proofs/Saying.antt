-- What `unread`, `sized` and `next_chunk` give. Assumes nothing.
use Prim.Native.Nat.{ℕ, ◌+◌, ◌-◌, ◌^◌, ◌≤◌, ◌<◌}
use native.Mathlib.Omega.{arith}
use mathlib.Core.Path.{◌≡◌, sym, ap, subst, ◌∙◌}
use mathlib.Core.Bool.{Bool, true, false}
use mathlib.Core.List.{List}
use lib.ListN.{length, drop, length-drop}
use lib.Seq.{drop-drop}
use borrow.Author.Tests.{lt-ltb, le-ltb, ltb-true}
use Rattle.rules.specs.Number.{Read, max32}
use Rattle.rules.proofs.Logic.{and_l}
use Rattle.number.specs.declared.Number.{Number}
use Rattle.std.specs.Prelude.{Option, Some, None}
use Rattle.number.specs.Meaning.{NumberAt}
use Rattle.number.proofs.Reading.{is_bad, is_value, bounds}
use Rattle.session.specs.Program as program
use Rattle.session.specs.Program.{max_chunk, number_bytes, is_cut, no_number, on_number, with_number, of_length}
use Rattle.session.specs.Input.{max_waiting, Bounds, Says}
use Rattle.session.specs.declared.input.Next.{Next}
use Rattle.session.specs.declared.input.Next.TheVariants as next
use Rattle.session.proofs.Later.{Short, read_short}

-- ---- bounds

-- from a place up to five bytes earlier
wider : (size from q few : ℕ) (x : Next) → from ≤ q → q ≤ from + number_bytes → Bounds size q few x → Bounds size from (number_bytes + few) x
wider size from q few (next.Chunk station at n) h k b = (omega (arith, b), b.1, b.2)
wider size from q few next.More h k b = omega arith
wider size from q few next.Stop h k b = tt

weaker : (size from few : ℕ) (x : Next) → Bounds size from number_bytes x → Bounds size from (number_bytes + few) x
weaker size from few (next.Chunk station at n) b = b
weaker size from few next.More b = omega arith
weaker size from few next.Stop b = tt

-- ---- no number

module _ (s : List ℕ) (from : ℕ) where
  pub waits : (b : Bool) → b ≡ is_cut (drop from s) → b ≡ true → Says s from number_bytes (no_number (drop from s)) next.More
  unfolding no_number is_cut
  waits b e t = record {
    means = simp (sym e ∙ t);
    bounds = omega (arith, length-drop from s, ltb-true (length (drop from s)) number_bytes (and_l _ _ (sym e ∙ t)));
  }

  pub stops : (b : Bool) → b ≡ is_cut (drop from s) → b ≡ false → Says s from number_bytes (no_number (drop from s)) next.Stop
  unfolding no_number
  stops b e t = record { means = simp (sym e ∙ t); bounds = tt }

  -- ---- after a number

  module _ (r : Option Number) (f : NumberAt s from max32 r) (go : ℕ → List ℕ → program.Next) (few : ℕ) (x : Next) where
    pub without : r ≡ None → Says s from number_bytes (no_number (drop from s)) x → Says s from (number_bytes + few) (with_number (drop from s) go) x
    unfolding with_number on_number
    without g w = record { means = w.means ∙ ap (on_number (drop from s) go) (is_bad s from max32 r f g); bounds = weaker (length s) from few x w.bounds }

    pub within : (n : Number) → r ≡ Some n → Says s n.next few (go n.value (drop n.next s)) x → Says s from (number_bytes + few) (with_number (drop from s) go) x
    unfolding with_number on_number
    within n g w =
        let e = is_value s from max32 r f n.value n.next g in
        let b = bounds s from max32 r f n.value n.next g in
        let l = subst (λ (y : Read ℕ). Short max32 (drop from s) y) (sym e) (read_short max32 (drop from s)) 4 (omega arith) in
        record {
          means = w.means ∙ ap (on_number (drop from s) go) e;
          bounds = wider (length s) from n.next few x (omega (arith, b)) (omega (arith, b, l, length-drop from s, length-drop n.next s)) w.bounds;
        }

-- ---- a length

module _ (s : List ℕ) (from station : ℕ) (r : Option Number) (f : NumberAt s from max32 r) (n : Number) (g : r ≡ Some n) where
  abbrev Sized : Next → Type 0
  Sized x = Says s from (number_bytes + max_chunk) (with_number (drop from s) (of_length station)) x

  pub too_large : max_chunk < n.value → Sized next.Stop
  unfolding of_length
  too_large h = within s from r f (of_length station) max_chunk next.Stop n g (record { means = simp (lt-ltb max_chunk n.value h); bounds = tt })

  module _ (h : n.value ≤ max_chunk) (m : ℕ) (e : m ≡ length s - n.next) where
    pub too_few : m < n.value → Sized next.More
    unfolding of_length
    too_few l = within s from r f (of_length station) max_chunk next.More n g (record {
      means = simp (le-ltb max_chunk n.value h, lt-ltb (length (drop n.next s)) n.value (omega (arith, length-drop n.next s)));
      bounds = omega arith;
    })

    pub there : n.value ≤ m → Sized (next.Chunk station n.next n.value)
    unfolding of_length
    there l = within s from r f (of_length station) max_chunk (next.Chunk station n.next n.value) n g (record {
      means = simp (le-ltb max_chunk n.value h, le-ltb (length (drop n.next s)) n.value (omega (arith, length-drop n.next s)), drop-drop n.value n.next s);
      bounds = (omega arith, omega (arith, bounds s from max32 r f n.value n.next g), h);
    })

-- a station's number fits
pub fits : (s : List ℕ) (from : ℕ) (r : Option Number) → NumberAt s from max32 r → (n : Number) → r ≡ Some n → n.value < 2 ^ 32
fits s from r f n g = omega (arith, bounds s from max32 r f n.value n.next g)

-- the station, and then what `sized` says
module _ (s : List ℕ) (from : ℕ) (r : Option Number) (f : NumberAt s from max32 r) (x : Next) where
  pub unread_next : r ≡ None → Says s from number_bytes (no_number (drop from s)) x → Says s from max_waiting (program.next (drop from s)) x
  unfolding program.next
  unread_next g w = without s from r f (λ station bytes. with_number bytes (of_length station)) (number_bytes + max_chunk) x g w

  pub sized_next : (n : Number) → r ≡ Some n → Says s n.next (number_bytes + max_chunk) (with_number (drop n.next s) (of_length n.value)) x → Says s from max_waiting (program.next (drop from s)) x
  unfolding program.next
  sized_next n g w = within s from r f (λ station bytes. with_number bytes (of_length station)) (number_bytes + max_chunk) x n g w
