-- What the model's reading of frames means: bytes are a part, broken or whole as some frame begins with them. Assumes nothing.
use Rattle.std.specs.Prelude.{ℕ, ◌≤◌, ◌≡◌, List, [], ◌∷◌, ◌++◌, length}
use Rattle.rules.specs.Frame.{max_body, frame, framed, part, broken, whole}

-- the frame of a body of 1 to 2,048 bytes is these bytes and the rest
pub record Begins (bytes rest : List ℕ) : Type 0 where
  pub body : List ℕ
  pub low : 1 ≤ length body
  pub high : length body ≤ max_body
  pub framing : bytes ++ rest ≡ frame body

pub record Framing (bytes : List ℕ) : Type 0 where
  -- a part: some frame begins so and goes on; and each beginning of a frame is a part
  pub is_part : framed bytes ≡ part → (rest : List ℕ) × (1 ≤ length rest) × Begins bytes rest
  pub partly : (rest : List ℕ) → 1 ≤ length rest → Begins bytes rest → framed bytes ≡ part
  -- broken: no frame begins so
  pub is_broken : framed bytes ≡ broken → (rest : List ℕ) → Begins bytes rest → ⊥
  -- whole, one byte after a part: the bytes are the body's frame; and a frame is whole
  pub is_whole : (before : List ℕ) (b : ℕ) → bytes ≡ before ++ (b ∷ []) → framed before ≡ part → (body : List ℕ) → framed bytes ≡ whole body → bytes ≡ frame body
  pub wholly : (x : Begins bytes []) → framed bytes ≡ whole x.body
