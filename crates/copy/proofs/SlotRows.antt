-- A row of a table, as the chunk of its slot. Assumes nothing.
use Rattle.std.proofs.Common.{◌≡◌, ℕ, suc, ◌*◌, ◌/◌, ◌≤◌, ◌<◌, List, length, get_or, arith, ap, ◌∙◌, length-take, length-drop}
use Rattle.std.proofs.Math.Nat.{suc-mul, mul-div_cancel, mul-le-mul_right}
use Rattle.std.specs.Simd.{first_chunks}
use Rattle.table.specs.Table.{nth_record}
use Rattle.table.specs.Chunks.{chunk_at}
use Rattle.rules.specs.State.{token_slots}
use Rattle.copy.specs.Copies.{RowCopied}

length_record : {A : Type 0} (n i : ℕ) (xs : List A) → length xs ≡ token_slots * n → i < token_slots → length (nth_record n i xs) ≡ n
unfolding nth_record
length_record n i xs l h =
    let room : suc i * n ≤ token_slots * n = mul-le-mul_right n (omega arith) in
    simp (length-take, length-drop) (omega (arith, suc-mul i n))

pub row_copied : {A : Type 0} (n i : ℕ) (xs r : List A) → 0 < n → length xs ≡ token_slots * n → i < token_slots
    → r ≡ get_or (first_chunks n (length xs / n) xs) i r → RowCopied n i xs r
row_copied n i xs r p l h e =
    let row : r ≡ nth_record n i xs = e ∙ ap (λ (k : ℕ). get_or (first_chunks n k xs) i r) (ap (λ (k : ℕ). k / n) l ∙ mul-div_cancel token_slots p) ∙ chunk_at n r token_slots i xs h in
    record { inside = h; row = row; long = ap length row ∙ length_record n i xs l h }
