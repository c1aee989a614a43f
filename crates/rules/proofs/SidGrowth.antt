-- A number once given stands for the same SID for ever, and no SID has two numbers. Assumes nothing.
use Prim.Native.Nat.{ℕ, ◌≤◌}
use native.Mathlib.Omega.{arith}
use mathlib.Core.Path.{◌≡◌, sym, ap, ◌∙◌}
use mathlib.Core.Bool.{true}
use mathlib.Core.List.{List}
use lib.ListN.{length, get_or, length-append, get_or-append}
use Rattle.rules.specs.Growth.{SidsLater}
use Rattle.rules.specs.Sid.{Sid, no_sid}
use Rattle.rules.specs.SidTable.{number_at, is_number, place_of_number, sid_of, sids_valid}
use Rattle.rules.proofs.SidNumbers.{different_apart, number_more, number_place, place_below, sids_two, sids_apart}

-- in a longer table
pub number_stays : {x y : List Sid} → SidsLater x y → 2 ≤ length x → (n : ℕ) → is_number x n ≡ true → (is_number y n ≡ true) × (sid_of y n ≡ sid_of x n)
unfolding sid_of
number_stays {x} {y} l two n h =
    let long : length x ≤ length y = rw l.behind (simp length-append (omega arith)) in
    (number_more x y n long h, ap (λ (z : List Sid). get_or z (place_of_number n) no_sid) l.behind ∙ get_or-append x l.more no_sid (place_of_number n) (place_below x n two h))

pub one_number_lem : (sids : List Sid) → sids_valid sids ≡ true → (n m : ℕ) → is_number sids n ≡ true → is_number sids m ≡ true → sid_of sids n ≡ sid_of sids m → n ≡ m
unfolding sid_of
one_number_lem sids v n m h k e =
    let two = sids_two sids v in
    let same = different_apart no_sid sids (sids_apart sids v) (place_of_number n) (place_of_number m) (place_below sids n two h) (place_below sids m two k) e in
    sym (number_place sids n h) ∙ ap number_at same ∙ number_place sids m k
