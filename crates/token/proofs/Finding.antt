-- The slots of a table of rows, found by the first word of each row, whatever the DACLs are. Assumes nothing.
use Rattle.std.proofs.Common.{◌≡◌, ℕ, zero, suc, ◌+◌, ◌≤◌, Bool, true, false, not, cond, eqb, List, ◌∷◌, length, get_or, take, drop, Option, unwrap_or, sym, refl, ap, ◌∙◌, ap₂, arith, ne_eqb, eqb-true, if◌then◌else◌}
use Rattle.std.specs.List.{position, position_or_len}
use Rattle.std.specs.Simd.{first_chunks}
use Rattle.std.proofs.lemmas.Grind.{common_steps}
use Rattle.std.proofs.lemmas.List.Sums.{prefix_len-le-length}
use Rattle.table.specs.Rows.{read_rows}
use Rattle.rules.specs.Table.{Slot, free, live}
use Rattle.rules.specs.Token.{Token, max_dacl}
use Rattle.rules.specs.State.{token_slots, is_numbered}
use Rattle.rules.specs.Index.{free_index, found_index}
use Rattle.rules.specs.Memory.{token_words, token_at, slot_at}
use Rattle.token.specs.Meaning.{slots_of}

abbrev rows : ℕ → List ℕ → List ℕ → List (Slot Token)
rows n ws bs = read_rows slot_at token_words max_dacl n ws bs

-- the row's first word is x
abbrev begins : ℕ → List ℕ → Bool
begins x row = eqb (get_or row 0 0) x

abbrev chunks : ℕ → List ℕ → List (List ℕ)
chunks n ws = first_chunks token_words n ws

length_chunks : (n : ℕ) (ws : List ℕ) → length (chunks n ws) ≡ n
length_chunks zero ws = refl
length_chunks (suc n) ws = ap suc (length_chunks n (drop token_words ws))

free_rows : (n : ℕ) (ws bs : List ℕ) → position_or_len (begins 0) (chunks n ws) ≡ free_index (rows n ws bs)
unfolding read_rows slot_at free_index
free_rows zero ws bs = refl
free_rows (suc n) ws bs =
    next (begins 0 (take token_words ws)) (token_at (take token_words ws) (take max_dacl bs)) (rows n (drop token_words ws) (drop max_dacl bs)) (free_rows n (drop token_words ws) (drop max_dacl bs))
  where
    next : (b : Bool) (t : Token) (ps : List (Slot Token)) {k : ℕ} → k ≡ free_index ps → cond (not b) (1 + k) 0 ≡ free_index ((if b then free else live t) ∷ ps)
    next true t ps e = refl
    next false t ps e = omega (arith, e)

-- a row whose first word is y: x is found there where y is x and not 0
found_row : (x : ℕ) {y : ℕ} (b : Bool) (t : Token) (ps : List (Slot Token)) → t.number ≡ y → eqb y 0 ≡ b → (x ≡ 0 → ⊥) → {k : ℕ} → k ≡ found_index (is_numbered x) ps
    → cond (not (eqb y x)) (1 + k) 0 ≡ found_index (is_numbered x) ((if b then free else live t) ∷ ps)
unfolding found_index is_numbered
found_row x {y} true t ps e z u {k} h = ap (λ (c : Bool). cond (not c) (1 + k) 0) (ne_eqb y x (λ s. u (sym s ∙ eqb-true y 0 z))) ∙ omega (arith, h)
found_row x {y} false t ps e z u {k} h = pick (eqb y x) ∙ ap₂ (λ (m n : ℕ). if eqb m x then 0 else suc n) (sym e) h
  where
    pick : (b : Bool) → cond (not b) (1 + k) 0 ≡ (if b then 0 else suc k)
    pick true = refl
    pick false = omega arith

found_rows : (x n : ℕ) → (x ≡ 0 → ⊥) → (ws bs : List ℕ) → position_or_len (begins x) (chunks n ws) ≡ found_index (is_numbered x) (rows n ws bs)
unfolding read_rows slot_at token_at found_index
found_rows x zero u ws bs = refl
found_rows x (suc n) u ws bs =
    found_row x (begins 0 (take token_words ws)) (token_at (take token_words ws) (take max_dacl bs)) (rows n (drop token_words ws) (drop max_dacl bs)) refl refl u (found_rows x n u (drop token_words ws) (drop max_dacl bs))

-- no live token has number 0
none_numbered : (n : ℕ) (ws bs : List ℕ) → n ≡ found_index (is_numbered 0) (rows n ws bs)
unfolding read_rows slot_at token_at found_index is_numbered
none_numbered zero ws bs = refl
none_numbered (suc n) ws bs =
    next (begins 0 (take token_words ws)) (token_at (take token_words ws) (take max_dacl bs)) (rows n (drop token_words ws) (drop max_dacl bs)) refl (none_numbered n (drop token_words ws) (drop max_dacl bs))
  where
    next : (b : Bool) (t : Token) (ps : List (Slot Token)) → eqb t.number 0 ≡ b → n ≡ found_index (is_numbered 0) ps → suc n ≡ found_index (is_numbered 0) ((if b then free else live t) ∷ ps)
    next true t ps e h = ap suc h
    next false t ps e h = ap suc h ∙ ap (λ (c : Bool). if c then 0 else suc (found_index (is_numbered 0) ps)) (sym e)

-- ---- what is found by the first words, in a whole table

position_else : (p : List ℕ → Bool) (xs : List (List ℕ)) {n : ℕ} → length xs ≡ n → unwrap_or (position p xs) n ≡ position_or_len p xs
position_else p xs e = grind (arith, common_steps, prefix_len-le-length (λ x. not (p x)) xs)

module _ (ws bs : List ℕ) {r : Option ℕ} where
  pub free_slot_lem : r ≡ position (begins 0) (chunks token_slots ws) → unwrap_or r token_slots ≡ free_index (slots_of ws bs)
  free_slot_lem e =
      ap (λ (o : Option ℕ). unwrap_or o token_slots) e ∙ position_else (begins 0) (chunks token_slots ws) (length_chunks token_slots ws) ∙ free_rows token_slots ws bs

  pub found_slot : {x : ℕ} → (x ≡ 0 → ⊥) → r ≡ position (begins x) (chunks token_slots ws) → unwrap_or r token_slots ≡ found_index (is_numbered x) (slots_of ws bs)
  found_slot {x} u e =
      ap (λ (o : Option ℕ). unwrap_or o token_slots) e ∙ position_else (begins x) (chunks token_slots ws) (length_chunks token_slots ws) ∙ found_rows x token_slots u ws bs

pub no_slot : (ws : List ℕ) {x : ℕ} → x ≤ 0 → ((bs : List ℕ) → token_slots ≡ found_index (is_numbered x) (slots_of ws bs)) × (token_slots ≤ token_slots)
no_slot ws {x} u = (λ bs. none_numbered token_slots ws bs ∙ ap (λ (n : ℕ). found_index (is_numbered n) (slots_of ws bs)) {x = 0} {y = x} (omega arith), omega arith)
