-- The bytes of a chunk that join the pending ones, turn by turn. Assumes nothing.
use Prim.Native.Nat.{ℕ, zero, suc, ◌+◌, ◌-◌, ◌≤◌, ◌<◌}
use native.Mathlib.Nat.{add-sub_cancel_left}
use native.Mathlib.Numerals.{add-one}
use native.Mathlib.Omega.{arith}
use mathlib.Core.Path.{◌≡◌, refl, sym, ap, ap₂, subst, ◌∙◌}
use mathlib.Core.List.{List, [], ◌∷◌, ◌++◌, append-nil, append_assoc}
use lib.ListN.{length, take, drop, get_or, set, replicate, length-append, length-take, length-drop, length-replicate, length-set, take-append-drop, drop_of_length-le}
use lib.Seq.{append_snoc, take-suc-set, drop-set-lt, drop-cons, drop-drop, length-take-le, take_all, take-paste, drop-paste, length-paste}
use Rattle.rules.specs.Frame as Frame
use Rattle.rules.specs.Valid.{is_part}
use Rattle.rules.specs.Memory.{pending_bytes}
use Rattle.rules.proofs.Rows.{part_short}
use Rattle.stream.specs.Join.{Stop, stop_on, stopped_from, stopped, Sure}
use Rattle.stream.specs.declared.Framed.{Framed}
use Rattle.stream.specs.declared.Framed.TheVariants as code
use Rattle.stream.specs.declared.Stopped.{Stopped}
use Rattle.stream.specs.Meaning.{framed_of, Starts, FramedAs, stop_of, JoinedAtOnce, Joined}

-- ---- bytes that leave a part for sure

fewer : {pending : List ℕ} {m k : ℕ} → Sure pending m → k ≤ m → Sure pending k
fewer s l = record { stays = λ bytes lo hi. s.stays bytes lo (omega arith) }

after_one : (pending : List ℕ) (b k : ℕ) → Sure pending (suc k) → Sure (pending ++ (b ∷ [])) k
after_one pending b k s = record { stays = λ bytes lo hi. ap Frame.framed (append_snoc pending b bytes) ∙ s.stays (b ∷ bytes) (omega arith) (omega arith) }

sure_fits : (pending : List ℕ) (k : ℕ) → Sure pending k → length pending < pending_bytes → length pending + k < pending_bytes
unfolding is_part
sure_fits pending zero s l = omega arith
sure_fits pending (suc k) s l =
    let zeros : List ℕ = replicate (suc k) 0 in
    let e : length zeros ≡ suc k = length-replicate (suc k) 0 in
    omega (arith, part_short (pending ++ zeros) (ap is_part (s.stays zeros (omega arith) (omega arith))), length-append pending zeros)

-- all at once they do what they do one by one
pass : (k n : ℕ) (pending chunk : List ℕ) → Sure pending k → k ≤ length chunk
    → stopped_from (n + k) (pending ++ take k chunk) (drop k chunk) ≡ stopped_from n pending chunk
unfolding stopped_from stop_on
pass zero n pending chunk s l = ap₂ (λ (i : ℕ) (bytes : List ℕ). stopped_from i bytes chunk) (omega arith) (append-nil pending)
pass (suc k) n pending [] s l = absurd (omega arith)
pass (suc k) n pending (b ∷ chunk) s l =
    let more : List ℕ = pending ++ (b ∷ []) in
    ap₂ (λ (i : ℕ) (bytes : List ℕ). stopped_from i bytes (drop k chunk)) {x = n + suc k} {y = n + 1 + k} (omega arith) (sym (append_snoc pending b (take k chunk)))
    ∙ pass k (n + 1) more chunk (after_one pending b k s) (omega arith)
    ∙ sym (ap (stop_on (n + 1) more (λ bytes. stopped_from (n + 1) bytes chunk)) (s.stays (b ∷ []) (omega arith) (omega arith)))

module _ (chunk row : List ℕ) (count m k : ℕ) (long : length row ≡ pending_bytes) (room : count < pending_bytes)
    (s : Sure (take count row) m) (a : k ≤ m) where
  fits_at_once : count + k < pending_bytes
  fits_at_once =
      let e : length (take count row) ≡ count = length-take-le count row (omega arith) in
      omega (arith, sure_fits (take count row) k (fewer s a) (omega arith))

  pub ends_within : count + k ≤ length row
  ends_within = omega (arith, fits_at_once)

  -- what the lent part comes back as
  pub joined_at_once : (out : List ℕ) → out ≡ take k chunk → 1 ≤ length chunk → k ≤ length chunk - 1
      → JoinedAtOnce chunk row count (take count row ++ (out ++ drop (count + k - count) (drop count row))) k
  joined_at_once out e some b = record {
    sure = fewer s a;
    row =
        ap₂ (λ (x y : List ℕ). take count row ++ (x ++ y)) e
        (ap (λ (i : ℕ). drop i (drop count row)) (add-sub_cancel_left count k) ∙ drop-drop k count row)
        ∙ sym (append_assoc (take count row) (take k chunk) (drop (count + k) row));
    used = omega arith;
    fits = fits_at_once;
  }

-- ---- the turns

-- after i bytes n are pending: what is left of the chunk gives what the whole gives
pub record Joining (chunk before : List ℕ) (count : ℕ) (row : List ℕ) (n i : ℕ) : Type 0 where
  pub within : i ≤ length chunk
  pub long : length row ≡ pending_bytes
  pub room : n < pending_bytes
  pub behind : drop n row ≡ drop n before
  pub left : stopped_from i (take n row) (drop i chunk) ≡ stopped (take count before) chunk

pub joining_none : (chunk row : List ℕ) (count : ℕ) → length row ≡ pending_bytes → count < pending_bytes → Joining chunk row count row count 0
joining_none chunk row count e l = record { within = omega arith; long = e; room = l; behind = refl; left = refl }

-- bytes that join at once
joining_block : {chunk before : List ℕ} {count : ℕ} {row after : List ℕ} {n i k : ℕ}
    → Joining chunk before count row n i → JoinedAtOnce (take (length chunk - i) (drop i chunk)) row n after k → Joining chunk before count after (n + k) (i + k)
joining_block {chunk} {before} {row = row} {after} {n} {i} {k} j a' =
    let rest : List ℕ = drop i chunk in
    let l : length rest ≡ length chunk - i = length-drop i chunk in
    let a : JoinedAtOnce rest row n after k = subst (λ (s : List ℕ). JoinedAtOnce s row n after k) (take_all (length chunk - i) rest (omega arith)) a' in
    let b : n + k ≤ length row = omega arith in
    record {
      within = omega arith;
      long = ap length a.row ∙ length-paste row n rest k b (omega arith) ∙ j.long;
      room = a.fits;
      behind =
          ap (drop (n + k)) a.row ∙ drop-paste row n rest k (omega arith) (omega arith)
          ∙ sym (drop-drop k n row) ∙ ap (drop k) j.behind ∙ drop-drop k n before;
      left =
          ap₂ (stopped_from (i + k)) (ap (take (n + k)) a.row ∙ take-paste row n rest k (omega arith) (omega arith)) (sym (drop-drop k i chunk))
          ∙ pass k i (take n row) rest a.sure (omega arith)
          ∙ j.left;
    }

-- where it stops
stops : {chunk before : List ℕ} {count : ℕ} {row : List ℕ} (r : Stopped) → stop_of row r ≡ stopped (take count before) chunk
    → drop r.count row ≡ drop r.count before → r.used ≤ length chunk → r.count ≤ pending_bytes → Starts r.count r.what
    → Joined chunk before count row r
stops {row = row} r e d u f b = record {
  means = e;
  row = sym (take-append-drop r.count row) ∙ ap₂ (λ (x y : List ℕ). x ++ y) (ap (λ (x : Stop). x.joined) e) d;
  used = u;
  fits = f;
  bounds = b;
}

module _ {chunk before : List ℕ} {count : ℕ} {row : List ℕ} {n i : ℕ} (j : Joining chunk before count row n i) where
  -- at the chunk's end
  pub chunk_ends : length chunk ≤ i → Joined chunk before count row (record { used = i; count = n; what = code.Part })
  unfolding stopped_from
  chunk_ends l =
      stops (record { used = i; count = n; what = code.Part })
      (sym (ap (stopped_from i (take n row)) (drop_of_length-le chunk l)) ∙ j.left) j.behind j.within (omega arith) tt

  -- one byte more
  module _ (more : i < length chunk) where
    abbrev next : List ℕ
    next = set row n (get_or chunk i 0)

    abbrev onward : Frame.Framed → Stop
    onward x = stop_on (i + 1) (take (n + 1) next) (λ bytes. stopped_from (i + 1) bytes (drop (i + 1) chunk)) x

    grown : take (n + 1) next ≡ take n row ++ (get_or chunk i 0 ∷ [])
    grown = ap (λ (k : ℕ). take k next) (add-one n) ∙ take-suc-set row n (get_or chunk i 0) (omega arith)

    kept : drop (n + 1) next ≡ drop (n + 1) before
    kept = drop-set-lt (n + 1) row n (get_or chunk i 0) (omega arith) ∙ sym (drop-drop 1 n row) ∙ ap (drop 1) j.behind ∙ drop-drop 1 n before

    turn : onward (Frame.framed (take (n + 1) next)) ≡ stopped (take count before) chunk
    unfolding stopped_from
    turn =
        ap (λ (s : List ℕ). stop_on (i + 1) s (λ bytes. stopped_from (i + 1) bytes (drop (i + 1) chunk)) (Frame.framed s)) grown
        ∙ sym (ap (stopped_from i (take n row)) (drop-cons chunk i 0 more ∙ ap (λ (k : ℕ). get_or chunk i 0 ∷ drop k chunk) (sym (add-one i))))
        ∙ j.left

    -- what the bytes now come to
    module _ (r : Framed) (f : FramedAs next (n + 1) r) where
      goes_on : r ≡ code.Part → Joining chunk before count next (n + 1) (i + 1)
      unfolding stop_on is_part
      goes_on g =
          let e : Frame.framed (take (n + 1) next) ≡ Frame.part = sym f.means ∙ ap (framed_of next (n + 1)) g in
          let long : length next ≡ pending_bytes = length-set row n (get_or chunk i 0) ∙ j.long in
          record {
            within = omega arith;
            long = long;
            room = omega (arith, part_short (take (n + 1) next) (ap is_part e), length-take-le (n + 1) next (omega arith));
            behind = kept;
            left = sym (ap onward e) ∙ turn;
          }

      halts : (what : Framed)
          → onward (framed_of next (n + 1) what) ≡ stop_of next (record { used = i + 1; count = n + 1; what = what })
          → r ≡ what → Joined chunk before count next (record { used = i + 1; count = n + 1; what = what })
      halts what s g =
          stops (record { used = i + 1; count = n + 1; what = what })
          (sym s ∙ ap onward (ap (framed_of next (n + 1)) (sym g) ∙ f.means) ∙ turn)
          kept (omega arith) (omega arith) (subst (Starts (n + 1)) g f.bounds)

-- what the first count bytes of a row come to, as bytes of their own
framed_first : (row : List ℕ) (count : ℕ) (r : Framed) → count ≤ length row → FramedAs (take count row) (length (take count row)) r → FramedAs row count r
framed_first row count r h f =
    let s : List ℕ = take count row in
    let all : take (length s) s ≡ s = take_all (length s) s (omega arith) in
    record {
      means = by r ∙ f.means ∙ ap Frame.framed all;
      bounds = subst (λ (n : ℕ). Starts n r) (length-take-le count row h) f.bounds;
    }
  where
    by : (x : Framed) → framed_of row count x ≡ framed_of (take count row) (length (take count row)) x
    by code.Part = refl
    by code.Broken = refl
    by (code.Whole start) = ap (λ (s : List ℕ). Frame.whole (drop start s)) (sym (take_all (length (take count row)) (take count row) (omega arith)))

-- a turn: the bytes that join at once, and one byte more
module _ {chunk before : List ℕ} {count : ℕ} {row after : List ℕ} {n i k : ℕ} (j : Joining chunk before count row n i)
    (a : JoinedAtOnce (take (length chunk - i) (drop i chunk)) row n after k) where
  abbrev last : List ℕ
  last = set after (n + k) (get_or chunk (i + k) 0)

  more : i + k < length chunk
  more = let u : k < length (take (length chunk - i) (drop i chunk)) = a.used in omega (arith, simp (length-take, length-drop) at u)

  abbrev block : Joining chunk before count after (n + k) (i + k)
  block = joining_block j a

  module _ (r : Framed) (w : FramedAs (take (n + k + 1) last) (length (take (n + k + 1) last)) r) where
    f : FramedAs last (n + k + 1) r
    f = framed_first last (n + k + 1) r (simp length-set (omega (arith, block.long, block.room))) w

    pub turn_goes_on : r ≡ code.Part → Joining chunk before count last (n + k + 1) (i + k + 1)
    turn_goes_on g = goes_on block more r f g

    -- the stream breaks, or a frame is whole
    pub turn_ends : (r ≡ code.Part → ⊥) → Joined chunk before count last (record { used = i + k + 1; count = n + k + 1; what = r })
    unfolding stop_on
    turn_ends g = by r refl
      where
        by : (what : Framed) → r ≡ what → Joined chunk before count last (record { used = i + k + 1; count = n + k + 1; what = r })
        by code.Part e = absurd (g e)
        by code.Broken e = rw e (halts block more r f code.Broken refl e)
        by (code.Whole start) e = rw e (halts block more r f (code.Whole start) refl e)
