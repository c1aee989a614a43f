-- The report of request 6: the ENABLED bits of a token's groups fit one word, and the other words are 0. Assumes nothing.
use Prim.Native.Nat.{ℕ, zero, suc, ◌+◌, ◌*◌, ◌^◌, ◌%◌, ◌≤◌}
use native.Mathlib.Omega.{arith}
use mathlib.Core.Path.{◌≡◌, refl, ap, ap₂, ◌∙◌}
use mathlib.Core.Bool.{Bool, true, false}
use mathlib.Core.List.{List, [], ◌∷◌, map}
use lib.Bits.{bit_or}
use lib.Pow.{pow_mono}
use lib.ListN.{length, replicate, length-map, drop_of_length-le}
use lib.Seq.{take_all}
use Rattle.std.specs.Prelude.{reverse, if◌then◌else◌}
use Rattle.std.specs.List.{fold}
use Rattle.std.specs.Int.Bits.{or_zero_r, or_add_and}
use Rattle.std.proofs.lemmas.Nat.{and_mask}
use Rattle.std.proofs.lemmas.Grind.{reverse_onto, fold-append}
use Rattle.rules.specs.Group.{Group, is_enabled}
use Rattle.rules.specs.Token.{max_groups}
use Rattle.rules.specs.Memory.{unpack}
use Rattle.rules.specs.AdjustGroups.{enabled_bits, enabled_words, report_words}
use Rattle.rules.proofs.Answers.{bits_below}

-- ---- the fold from the last group's word down

abbrev bit_of : ℕ → ℕ
bit_of w = if is_enabled (unpack w) then 1 else 0

abbrev one_more : ℕ → ℕ → ℕ
one_more bits w = bit_or (bits * 2 % 2 ^ 64) (bit_of w)

joined : (a : ℕ) (b : Bool) → bit_or (a * 2) (if b then 1 else 0) ≡ (if b then 1 else 0) + 2 * a
joined a true = omega (arith, or_add_and (a * 2) 1, and_mask (a * 2) 1)
joined a false = or_zero_r (a * 2) ∙ omega arith

all_bits_folded : (gw : List ℕ) → length gw ≤ max_groups → fold one_more 0 (reverse gw) ≡ enabled_bits (map unpack gw)
unfolding enabled_bits
all_bits_folded [] h = refl
all_bits_folded (w ∷ gw) h =
    let gs = map unpack gw in
    let s : length gs ≤ 63 = omega (arith, length-map gw unpack) in
    ap (fold one_more 0) (reverse_onto gw w []) ∙ fold-append one_more 0 (reverse gw) (w ∷ []) ∙ ap (λ (x : ℕ). one_more x w) (all_bits_folded gw (omega arith))
    ∙ ap (λ (x : ℕ). bit_or x (bit_of w)) {x = enabled_bits gs * 2 % 2 ^ 64} {y = enabled_bits gs * 2} (omega (arith, bits_below gs, pow_mono s))
    ∙ joined (enabled_bits gs) (is_enabled (unpack w))

pub all_bits : (gw : List ℕ) → length gw ≤ max_groups → {r : ℕ} → r ≡ fold (λ bits w. bit_or (bits * 2 % 2 ^ 64) (if is_enabled (unpack w) then 1 else 0)) 0 (reverse gw)
    → r ≡ enabled_bits (map unpack gw)
all_bits gw h e = e ∙ all_bits_folded gw h

-- ---- the words

zero_words : (k : ℕ) → enabled_words k [] ≡ replicate k 0
unfolding enabled_words enabled_bits
zero_words zero = refl
zero_words (suc k) = ap (λ (l : List ℕ). 0 ∷ l) (zero_words k)

-- no token has a group past the first word
pub report : (gs : List Group) → length gs ≤ max_groups → enabled_words report_words gs ≡ enabled_bits gs ∷ replicate 15 0
unfolding enabled_words
report gs l =
    ap₂ (λ (x : List Group) (y : List Group). enabled_bits x ∷ enabled_words 15 y) (take_all 64 gs l) (drop_of_length-le gs {i = 64} l)
    ∙ ap (λ (y : List ℕ). enabled_bits gs ∷ y) (zero_words 15)
