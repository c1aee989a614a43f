-- What a chunk does to a stream's pending bytes: they join one by one until a frame is whole, the stream breaks or the chunk ends. Assumes nothing.
use Rattle.std.specs.Prelude.{ℕ, ◌+◌, ◌≤◌, ◌≡◌, List, [], ◌∷◌, ◌++◌, length}
use Rattle.rules.specs.Frame.{Framed, part, broken, whole, framed}

-- how many bytes of the chunk were used, the pending bytes with them, and what these come to
pub record Stop : Type 0 where
  pub used : ℕ
  pub joined : List ℕ
  pub what : Framed

-- n bytes are used, the last of which made the pending ones: more of them join a part only
unfoldable pub stop_on : ℕ → List ℕ → (List ℕ → Stop) → Framed → Stop
stop_on n pending go part = go pending
stop_on n pending go broken = record { used = n; joined = pending; what = broken }
stop_on n pending go (whole body) = record { used = n; joined = pending; what = whole body }

-- n bytes are used already
unfoldable pub stopped_from : ℕ → List ℕ → List ℕ → Stop
stopped_from n pending [] = record { used = n; joined = pending; what = part }
stopped_from n pending (b ∷ chunk) =
    let more = pending ++ (b ∷ []) in
    stop_on (n + 1) more (λ bytes. stopped_from (n + 1) bytes chunk) (framed more)

-- pending bytes that are a part of a frame, and a chunk
abbrev pub stopped : List ℕ → List ℕ → Stop
stopped pending chunk = stopped_from 0 pending chunk

-- k bytes more, whatever they are, leave a part of a frame
pub record Sure (pending : List ℕ) (k : ℕ) : Type 0 where
  pub stays : (bytes : List ℕ) → 1 ≤ length bytes → length bytes ≤ k → framed (pending ++ bytes) ≡ part
