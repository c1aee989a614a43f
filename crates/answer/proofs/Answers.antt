-- The bytes of each answer, and that its frame fits. Assumes nothing.
use Prim.Native.Nat.{ℕ, zero, suc, ◌+◌, ◌*◌, ◌-◌, ◌^◌, ◌≤◌, ◌<◌, min}
use native.Mathlib.Omega.{arith}
use mathlib.Core.Path.{◌≡◌, refl, sym, ap, ap₂, ◌∙◌}
use mathlib.Core.Bool.{true}
use mathlib.Core.List.{List, [], ◌∷◌, ◌++◌, append-nil}
use lib.Seq.{get_or-take, get_or-drop}
use lib.ListN.{length, take, drop, get_or, replicate, length-append}
use Rattle.std.specs.Simd.{first_chunks}
use Rattle.table.specs.Table.{nth_record}
use Rattle.table.specs.Chunks.{chunk_at}
use Rattle.rules.specs.Number.{encode, encode_in, encode_all}
use Rattle.rules.specs.Frame.{frame, max_answer}
use Rattle.rules.specs.Refusal.{refusal, capacity_below}
use Rattle.rules.specs.Token.{Token, max_dacl}
use Rattle.rules.specs.Head as Head
use Rattle.rules.specs.Memory.{token_words, token_at}
use Rattle.rules.specs.Valid.{token_valid}
use Rattle.rules.specs.AdjustGroups.{report_words}
use Rattle.rules.specs.Query.{class_bytes}
use Rattle.rules.proofs.Facts.{token_facts}
use Rattle.rules.proofs.Numbers.{encode_one}
use Rattle.rules.proofs.Answers.{word, class_fits, frame_fits}
use Rattle.number.specs.Answer.{answered}
use Rattle.answer.specs.Classes.{RowOne}
use Rattle.answer.specs.Refusal.{refusal_of, number_of}
use Rattle.answer.specs.declared.refusal.Refusal.{Refusal}
use Rattle.answer.specs.declared.refusal.Refusal.TheVariants as refusals
use Rattle.answer.specs.Answer.{token_in, answer_of, Fit, Room, WroteFrame}
use Rattle.answer.specs.Class.{single_number, class_number}
use Rattle.answer.specs.declared.class.Single.{Single}
use Rattle.answer.specs.declared.class.Class.{Class}
use Rattle.answer.specs.declared.class.Class.TheVariants as classes
use Rattle.answer.specs.declared.Answer.{Answer}
use Rattle.answer.specs.declared.Answer.TheVariants as answer
use Rattle.answer.proofs.Classes.{dacl_bytes}

-- a status is one byte
first_byte : (n : ℕ) (ns : List ℕ) → n < 128 → encode_all (n ∷ ns) ≡ n ∷ encode_all ns
unfolding encode_all
first_byte n ns h = ap (λ (l : List ℕ). l ++ encode_all ns) (encode_one n h)

with_value : (n v : ℕ) → n < 128 → encode_all (n ∷ v ∷ []) ≡ n ∷ encode v
unfolding encode_all
with_value n v h = first_byte n (v ∷ []) h ∙ ap (λ (l : List ℕ). n ∷ l) (append-nil (encode v))

wrote_same : {xs ys o o' : List ℕ} {r : ℕ} → xs ≡ ys → WroteFrame xs o o' r → WroteFrame ys o o' r
wrote_same {o = o} e w = record {
  size = w.size ∙ ap (λ (l : List ℕ). length (frame l)) e;
  bytes = w.bytes ∙ ap (λ (l : List ℕ). frame l ++ drop (length (frame l)) o) e;
}

-- ---- what a writer of numbers and plain bytes leaves

-- fs and ps are the bytes of a body whose frame fits
module _ (body fs ps o : List ℕ) (e : encode_all fs ++ ps ≡ body) (fits : Room body o) where
  enough : length (answered fs ps) ≤ length o
  enough = omega (arith, ap (λ (l : List ℕ). length (frame l)) e)

  framed : (o' : List ℕ) (r : ℕ) → r ≡ length (answered fs ps) → o' ≡ answered fs ps ++ drop (length (answered fs ps)) o → WroteFrame body o o' r
  framed o' r n w = record {
    size = n ∙ ap (λ (l : List ℕ). length (frame l)) e;
    bytes = w ∙ ap (λ (l : List ℕ). frame l ++ drop (length (frame l)) o) e;
  }

-- numbers alone
module _ (ns o : List ℕ) (fits : Room (encode_all ns) o) where
  pub all_room : length (answered ns []) ≤ length o
  all_room = enough (encode_all ns) ns [] o (append-nil (encode_all ns)) fits

  pub all_framed : (o' : List ℕ) (r : ℕ) → r ≡ length (answered ns []) → o' ≡ answered ns [] ++ drop (length (answered ns [])) o → WroteFrame (encode_all ns) o o' r
  all_framed = framed (encode_all ns) ns [] o (append-nil (encode_all ns)) fits

-- other numbers that are the same
module _ (xs ns o : List ℕ) (e : xs ≡ ns) where
  pub same_room : Room (encode_all ns) o → Room (encode_all xs) o
  same_room h = omega (arith, ap (λ (l : List ℕ). length (frame (encode_all l))) e)

  pub same_wrote : {o' : List ℕ} {r : ℕ} → WroteFrame (encode_all xs) o o' r → WroteFrame (encode_all ns) o o' r
  same_wrote w = wrote_same (ap encode_all e) w

-- ---- up to three numbers

words_fit : (ns : List ℕ) → ((i : ℕ) → get_or ns i 0 < 2 ^ 64) → length (encode_all ns) ≤ 10 * length ns
unfolding encode_all
words_fit [] below = omega arith
words_fit (n ∷ ns) below = simp length-append (omega (arith, word n (below 0), words_fit ns (λ i. below (suc i))))

pub put_room : (ns o : List ℕ) → ((i : ℕ) → get_or ns i 0 < 2 ^ 64) → length ns ≤ 3 → max_answer ≤ length o → Room (encode_all ns) o
put_room ns o below few room = omega (arith, frame_fits (encode_all ns) (omega (arith, words_fit ns below)))

-- ---- the report

zeros : (n : ℕ) → length (encode_all (replicate n 0)) ≡ n
unfolding encode_all encode encode_in
zeros zero = refl
zeros (suc n) = ap suc (zeros n)

pub report_fits : (w : ℕ) (o : List ℕ) → w < 2 ^ 64 → max_answer ≤ length o → Room (encode_all (0 ∷ w ∷ replicate (report_words - 1) 0)) o
unfolding encode_all
report_fits w o hw room =
    let l = frame_fits (encode 0 ++ (encode w ++ encode_all (replicate (report_words - 1) 0)))
    (simp length-append (omega (arith, word 0 (omega arith), word w hw, zeros (report_words - 1)))) in
    omega arith

-- ---- a class of a row

module _ (ws bs o : List ℕ) (class x : Class) (ns : List ℕ) (e : class ≡ x) (b : class_bytes (token_at ws bs) (class_number x) ≡ encode_all ns) where
  as_class : encode_all (0 ∷ ns) ≡ 0 ∷ class_bytes (token_at ws bs) (class_number class)
  as_class = first_byte 0 ns (omega arith) ∙ ap (λ (l : List ℕ). 0 ∷ l) (sym (ap (λ (y : Class). class_bytes (token_at ws bs) (class_number y)) e ∙ b))

  pub class_fits_in : Room (0 ∷ class_bytes (token_at ws bs) (class_number class)) o → Room (encode_all (0 ∷ ns)) o
  class_fits_in h = omega (arith, ap (λ (l : List ℕ). length (frame l)) as_class)

  pub class_wrote : {o' : List ℕ} {r : ℕ} → WroteFrame (encode_all (0 ∷ ns)) o o' r → WroteFrame (0 ∷ class_bytes (token_at ws bs) (class_number class)) o o' r
  class_wrote w = wrote_same as_class w

-- a class of one number
pub one_wrote : (ws bs : List ℕ) (class : Class) (x : Single) {m : ℕ} {o o' : List ℕ} {r : ℕ} → class ≡ classes.Single x → RowOne ws (single_number x) m
    → WroteFrame (encode_all (0 ∷ m ∷ [])) o o' r → WroteFrame (0 ∷ class_bytes (token_at ws bs) (class_number class)) o o' r
one_wrote ws bs class x {m} e h w =
    wrote_same
    (with_value 0 m (omega arith) ∙ ap (λ (l : List ℕ). 0 ∷ l) (sym (ap (λ (y : Class). class_bytes (token_at ws bs) (class_number y)) e ∙ h.bytes bs))) w

-- by its number
module _ (ws bs : List ℕ) (class : ℕ) {o o' : List ℕ} {r : ℕ} where
  pub known_wrote : (x : Class) → class_number x ≡ class → WroteFrame (0 ∷ class_bytes (token_at ws bs) (class_number x)) o o' r
      → WroteFrame (0 ∷ class_bytes (token_at ws bs) class) o o' r
  known_wrote x e w = wrote_same (ap (λ (k : ℕ). 0 ∷ class_bytes (token_at ws bs) k) e) w

  pub none_wrote : class_bytes (token_at ws bs) class ≡ [] → WroteFrame (encode_all (0 ∷ [])) o o' r → WroteFrame (0 ∷ class_bytes (token_at ws bs) class) o o' r
  unfolding encode_all
  none_wrote e w = wrote_same (first_byte 0 [] (omega arith) ∙ ap (λ (l : List ℕ). 0 ∷ l) (sym e)) w

-- the DACL: its count, and then its bytes
module _ (ws bs o : List ℕ) (n : ℕ) (l : length bs ≡ max_dacl) (c : n ≡ min (get_or ws Head.dacl_length 0) max_dacl) (fits : Room (0 ∷ class_bytes (token_at ws bs) 6) o) where
  same_dacl : encode_all (0 ∷ n ∷ []) ++ take n bs ≡ 0 ∷ class_bytes (token_at ws bs) 6
  same_dacl = ap (λ (k : List ℕ). k ++ take n bs) (with_value 0 n (omega arith)) ∙ ap (λ (l : List ℕ). 0 ∷ l) (dacl_bytes ws bs n l c)

  pub dacl_room : length (answered (0 ∷ n ∷ []) (take n bs)) ≤ length o
  dacl_room = enough (0 ∷ class_bytes (token_at ws bs) 6) (0 ∷ n ∷ []) (take n bs) o same_dacl fits

  pub dacl_framed : (o' : List ℕ) (r : ℕ) → r ≡ length (answered (0 ∷ n ∷ []) (take n bs)) → o' ≡ answered (0 ∷ n ∷ []) (take n bs) ++ drop (length (answered (0 ∷ n ∷ []) (take n bs))) o
      → WroteFrame (0 ∷ class_bytes (token_at ws bs) 6) o o' r
  dacl_framed = framed (0 ∷ class_bytes (token_at ws bs) 6) (0 ∷ n ∷ []) (take n bs) o same_dacl fits

-- a slot's rows, as chunks of the tables
module _ (ts ds : List ℕ) (rows dacls : List (List ℕ)) (slot m k : ℕ) (e : rows ≡ first_chunks token_words m ts) (f : dacls ≡ first_chunks max_dacl k ds) (h : slot < m) (l : slot < k) where
  slot_token : token_at (get_or rows slot []) (get_or dacls slot []) ≡ token_in ts ds slot
  slot_token =
      ap₂ token_at (ap (λ (x : List (List ℕ)). get_or x slot []) e ∙ chunk_at token_words [] m slot ts h)
      (ap (λ (x : List (List ℕ)). get_or x slot []) f ∙ chunk_at max_dacl [] k slot ds l)

  -- of words that are below 2^64
  pub class_room : (class : ℕ) (o : List ℕ) → ((i : ℕ) → get_or ts i 0 < 2 ^ 64) → token_valid (token_in ts ds slot) ≡ true → max_answer ≤ length o
      → Room (0 ∷ class_bytes (token_at (get_or rows slot []) (get_or dacls slot [])) class) o
  unfolding token_at nth_record
  class_room class o below v room =
      let t = token_in ts ds slot in
      let number : t.number < 2 ^ 64 =
      rw (get_or-take token_words (drop (slot * token_words) ts) 0 0 (omega arith) ∙ get_or-drop (slot * token_words) ts 0 0) (below (slot * token_words + 0)) in
      let w = frame_fits (0 ∷ class_bytes t class) (omega (arith, class_fits t number (token_facts t v) class)) in
      omega (arith, ap (λ (x : Token). length (frame (0 ∷ class_bytes x class))) slot_token)

  pub slot_wrote : (class : ℕ) {o o' : List ℕ} {r : ℕ} → WroteFrame (0 ∷ class_bytes (token_at (get_or rows slot []) (get_or dacls slot [])) class) o o' r
      → WroteFrame (0 ∷ class_bytes (token_in ts ds slot) class) o o' r
  slot_wrote class w = wrote_same (ap (λ (x : Token). 0 ∷ class_bytes x class) slot_token) w

-- ---- a refusal

-- its number is one byte
one_byte : (x : Refusal) → number_of x < 128
unfolding refusal capacity_below
one_byte refusals.Malformed = omega arith
one_byte refusals.NotALiveHandle = omega arith
one_byte refusals.RightMissing = omega arith
one_byte refusals.PrivilegeNotHeld = omega arith
one_byte refusals.BadField = omega arith
one_byte refusals.ProtectedGroup = omega arith
one_byte refusals.InstallMismatch = omega arith
one_byte refusals.RestrictedServer = omega arith
one_byte refusals.TableFull = omega arith
one_byte (refusals.CapacityBelow size) = omega arith
one_byte refusals.StreamBroken = omega arith
one_byte refusals.NotLinked = omega arith

-- only one tells more
no_report : (x : Refusal) → ((size : ℕ) → x ≡ refusals.CapacityBelow size → ⊥) → (refusal_of x).report ≡ []
unfolding refusal
no_report refusals.Malformed u = refl
no_report refusals.NotALiveHandle u = refl
no_report refusals.RightMissing u = refl
no_report refusals.PrivilegeNotHeld u = refl
no_report refusals.BadField u = refl
no_report refusals.ProtectedGroup u = refl
no_report refusals.InstallMismatch u = refl
no_report refusals.RestrictedServer u = refl
no_report refusals.TableFull u = refl
no_report (refusals.CapacityBelow size) u = absurd (u size refl)
no_report refusals.StreamBroken u = refl
no_report refusals.NotLinked u = refl

sized : (size : ℕ) → (refusal_of (refusals.CapacityBelow size)).report ≡ encode size
unfolding capacity_below
sized size = refl

module _ (x : Refusal) {o o' : List ℕ} {n r : ℕ} where
  -- a number alone
  pub untold : ((size : ℕ) → x ≡ refusals.CapacityBelow size → ⊥) → n ≡ number_of x → WroteFrame (encode_all (n ∷ [])) o o' r
      → WroteFrame ((refusal_of x).number ∷ (refusal_of x).report) o o' r
  unfolding encode_all
  untold u e w = wrote_same (first_byte n [] (omega (arith, one_byte x)) ∙ ap₂ (λ (k : ℕ) (l : List ℕ). k ∷ l) e (sym (no_report x u))) w

  -- a number, and the size that the capacity is below
  pub told : (size : ℕ) → x ≡ refusals.CapacityBelow size → n ≡ number_of (refusals.CapacityBelow size) → WroteFrame (encode_all (n ∷ size ∷ [])) o o' r
      → WroteFrame ((refusal_of x).number ∷ (refusal_of x).report) o o' r
  told size q e w =
      wrote_same
      (with_value n size (omega (arith, one_byte (refusals.CapacityBelow size)))
      ∙ ap₂ (λ (k : ℕ) (l : List ℕ). k ∷ l) e (sym (sized size))
      ∙ sym (ap (λ (y : Refusal). (refusal_of y).number ∷ (refusal_of y).report) q)) w

-- ---- each answer

module _ (ws bs : List ℕ) (a : Answer) (o o' : List ℕ) (r : ℕ) where
  meant : (x : Answer) (xs : List ℕ) → a ≡ x → WroteFrame xs o o' r → xs ≡ answer_of ws bs x → WroteFrame (answer_of ws bs a) o o' r
  meant x xs e w b = wrote_same (b ∙ ap (answer_of ws bs) (sym e)) w

  pub numbered : (n : ℕ) → a ≡ answer.Numbered n → Fit ws bs a → WroteFrame (encode_all (n ∷ [])) o o' r → WroteFrame (answer_of ws bs a) o o' r
  unfolding encode_all
  numbered n e fit w = meant (answer.Numbered n) (encode_all (n ∷ [])) e w (first_byte n [] (rw e at fit))

  pub done : a ≡ answer.Done → WroteFrame (encode_all (0 ∷ [])) o o' r → WroteFrame (answer_of ws bs a) o o' r
  unfolding encode_all
  done e w = meant answer.Done (encode_all (0 ∷ [])) e w (first_byte 0 [] (omega arith))

  pub value : (v : ℕ) → a ≡ answer.Value v → WroteFrame (encode_all (0 ∷ v ∷ [])) o o' r → WroteFrame (answer_of ws bs a) o o' r
  value v e w = meant (answer.Value v) (encode_all (0 ∷ v ∷ [])) e w (with_value 0 v (omega arith))

  pub values : (v u : ℕ) → a ≡ answer.Values v u → WroteFrame (encode_all (0 ∷ v ∷ u ∷ [])) o o' r → WroteFrame (answer_of ws bs a) o o' r
  values v u e w = meant (answer.Values v u) (encode_all (0 ∷ v ∷ u ∷ [])) e w (first_byte 0 (v ∷ u ∷ []) (omega arith))

  pub report : (w : ℕ) → a ≡ answer.Report w → WroteFrame (encode_all (0 ∷ w ∷ replicate (report_words - 1) 0)) o o' r → WroteFrame (answer_of ws bs a) o o' r
  report v e w = meant (answer.Report v) (encode_all (0 ∷ v ∷ replicate (report_words - 1) 0)) e w (first_byte 0 (v ∷ replicate (report_words - 1) 0) (omega arith))
