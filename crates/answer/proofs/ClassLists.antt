-- Classes 2 and 10 of a row, whose words stand for one or two numbers each: stored one after the other. Assumes nothing.
use Prim.Native.Nat.{ℕ, ◌+◌, ◌*◌, ◌/◌, ◌≤◌, ◌<◌}
use native.Mathlib.Omega.{arith}
use mathlib.Core.Path.{◌≡◌, refl, sym, ap, ◌∙◌}
use mathlib.Core.List.{List, [], ◌∷◌, ◌++◌, map, append_assoc}
use lib.ListN.{length, take, get_or, set, replicate, length-set, length-map}
use Rattle.std.proofs.lemmas.List.{length-take, take_more, take_all, take_more_set, map_more}
use Rattle.rules.specs.Token.{max_groups, max_restricting}
use Rattle.rules.specs.Group.{Group}
use Rattle.rules.specs.Query.{pairs}
use Rattle.rules.specs.Basic.{word32}
use Rattle.rules.specs.Memory.{low32, unpack, groups_at, limits_at}
use Rattle.number.specs.Answer.{max_fields}
use Rattle.answer.specs.Classes.{max_sids, group_numbers, sid_numbers}

-- the success, the count and i groups
pub record PairsIn (gs out : List ℕ) (i : ℕ) : Type 0 where
  pub few : length gs ≤ max_groups
  pub long : length out ≡ max_fields
  front : take (2 * i + 2) out ≡ 0 ∷ length gs ∷ pairs (map unpack (take i gs))

-- the success, the count and i restricting SIDs
pub record SidsIn (gs out : List ℕ) (i : ℕ) : Type 0 where
  pub few : length gs ≤ max_restricting
  pub long : length out ≡ max_sids
  front : take (i + 2) out ≡ 0 ∷ length gs ∷ map low32 (take i gs)

pairs_push : (gs : List ℕ) (w : ℕ) → pairs (map unpack (gs ++ (w ∷ []))) ≡ pairs (map unpack gs) ++ (low32 w ∷ w / word32 ∷ [])
unfolding pairs unpack
pairs_push [] w = refl
pairs_push (g ∷ gs) w = ap (λ (l : List ℕ). low32 g ∷ g / word32 ∷ l) (pairs_push gs w)

-- two elements more
two_more : (xs : List ℕ) (k a b : ℕ) → k + 1 < length xs → take (k + 2) (set (set xs k a) (k + 1) b) ≡ take k xs ++ (a ∷ b ∷ [])
two_more xs k a b h =
    ap (λ (j : ℕ). take j (set (set xs k a) (k + 1) b)) {x = k + 2} {y = k + 1 + 1} (omega arith)
    ∙ take_more_set (set xs k a) (k + 1) b (omega (arith, length-set xs k a))
    ∙ ap (λ (l : List ℕ). l ++ (b ∷ [])) (take_more_set xs k a (omega arith))
    ∙ append_assoc (take k xs) (a ∷ []) (b ∷ [])

module _ {gs : List ℕ} where
  pub no_pair_in : length gs ≤ max_groups → PairsIn gs (0 ∷ length gs ∷ replicate (2 * max_groups) 0) 0
  unfolding pairs
  no_pair_in h = record { few = h; long = refl; front = refl }

  pub no_sid_in : length gs ≤ max_restricting → SidsIn gs (0 ∷ length gs ∷ replicate max_restricting 0) 0
  no_sid_in h = record { few = h; long = refl; front = refl }

  module _ {out : List ℕ} {i : ℕ} where
    pub pair_in : PairsIn gs out i → i < length gs → {w : ℕ} → w ≡ get_or gs i 0 → PairsIn gs (set (set out (2 * i + 2) (low32 w)) (2 * i + 3) (w / word32)) (i + 1)
    pair_in s h {w} e = record {
      few = s.few;
      long = length-set (set out (2 * i + 2) (low32 w)) (2 * i + 3) (w / word32) ∙ length-set out (2 * i + 2) (low32 w) ∙ s.long;
      front =
          ap (λ (j : ℕ). take j (set (set out (2 * i + 2) (low32 w)) (2 * i + 3) (w / word32))) {x = 2 * (i + 1) + 2} {y = 2 * i + 2 + 2} (omega arith)
          ∙ ap (λ (k : ℕ). take (2 * i + 2 + 2) (set (set out (2 * i + 2) (low32 w)) k (w / word32))) {x = 2 * i + 3} {y = 2 * i + 2 + 1} (omega arith)
          ∙ two_more out (2 * i + 2) (low32 w) (w / word32) (let l = s.long in let f = s.few in omega arith)
          ∙ ap (λ (l : List ℕ). l ++ (low32 w ∷ w / word32 ∷ [])) s.front
          ∙ ap (λ (l : List ℕ). 0 ∷ length gs ∷ l) (sym (ap (λ (l : List ℕ). pairs (map unpack l)) (take_more gs i 0 h ∙ ap (λ (v : ℕ). take i gs ++ (v ∷ [])) (sym e)) ∙ pairs_push (take i gs) w));
    }

    pub sid_in : SidsIn gs out i → i < length gs → {w : ℕ} → w ≡ get_or gs i 0 → SidsIn gs (set out (i + 2) (low32 w)) (i + 1)
    sid_in s h {w} e = record {
      few = s.few;
      long = length-set out (i + 2) (low32 w) ∙ s.long;
      front =
          ap (λ (j : ℕ). take j (set out (i + 2) (low32 w))) {x = i + 1 + 2} {y = i + 2 + 1} (omega arith)
          ∙ take_more_set out (i + 2) (low32 w) (let l = s.long in let f = s.few in omega arith)
          ∙ ap (λ (l : List ℕ). l ++ (low32 w ∷ [])) s.front
          ∙ ap (λ (l : List ℕ). 0 ∷ length gs ∷ l) (sym (map_more low32 gs i 0 h ∙ ap (λ (v : ℕ). map low32 (take i gs) ++ (low32 v ∷ [])) (sym e)));
    }

    pub few_pairs : PairsIn gs out i → (k : ℕ) → length (take k out) ≤ max_fields
    few_pairs s k = omega (arith, s.long, length-take k out)

    pub few_sids : SidsIn gs out i → (k : ℕ) → length (take k out) ≤ max_fields
    few_sids s k = omega (arith, s.long, length-take k out)

    pub pairs_stored : PairsIn gs out i → length gs ≤ i → i ≤ length gs → (ws : List ℕ) → map unpack gs ≡ groups_at ws → take (2 * length gs + 2) out ≡ 0 ∷ group_numbers ws
    pairs_stored s h k ws e =
        let all : take i gs ≡ gs = take_all i gs h in
        ap (λ (n : ℕ). take (2 * n + 2) out) {x = length gs} {y = i} (omega arith)
        ∙ s.front
        ∙ ap (λ (l : List ℕ). 0 ∷ length gs ∷ pairs (map unpack l)) all
        ∙ ap (λ (n : ℕ). 0 ∷ n ∷ pairs (map unpack gs)) (sym (length-map gs unpack))
        ∙ ap (λ (l : List Group). 0 ∷ length l ∷ pairs l) e

    pub sids_stored : SidsIn gs out i → length gs ≤ i → i ≤ length gs → (ws : List ℕ) → map low32 gs ≡ (limits_at ws).restricting → take (length gs + 2) out ≡ 0 ∷ sid_numbers ws
    sids_stored s h k ws e =
        let all : take i gs ≡ gs = take_all i gs h in
        ap (λ (n : ℕ). take (n + 2) out) {x = length gs} {y = i} (omega arith)
        ∙ s.front
        ∙ ap (λ (l : List ℕ). 0 ∷ length gs ∷ map low32 l) all
        ∙ ap (λ (n : ℕ). 0 ∷ n ∷ map low32 gs) (sym (length-map gs low32))
        ∙ ap (λ (l : List ℕ). 0 ∷ length l ∷ l) e
