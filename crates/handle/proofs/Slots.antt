-- The slots that the code's handles stand for, as its loops and stores see them. Assumes nothing.
use mathlib.Core.Path.{◌≡◌, refl, sym, ap, ◌∙◌}
use mathlib.Core.Bool.{Bool, true, false, not, ◌&&◌, ◌||◌}
use mathlib.Core.List.{List, [], ◌∷◌, map}
use Prim.Native.Nat.{ℕ, zero, suc, ◌≤◌}
use native.Mathlib.Omega.{arith}
use lib.Dec.{eqb}
use lib.ListN.{length, get_or, set, get_or-map}
use lib.Seq.{set_out, get_or-set_other}
use borrow.Author.Tests.{eqb-true, eqb-false}
use Rattle.std.specs.Prelude.{if◌then◌else◌}
use Rattle.rules.specs.Basic.{member}
use Rattle.rules.specs.Table.{free, live, lives, found}
use Rattle.rules.specs.Index.{free_index, found_index}
use Rattle.rules.specs.Handle as rules
use Rattle.rules.specs.State.{handle_token, handle_slots}
use Rattle.rules.specs.Memory.{handle_at}
use Rattle.rules.proofs.Index.{found_at}
use Rattle.handle.specs.declared.Handle.{Handle}
use Rattle.handle.specs.Meaning.{handle_of, slots_of, none, is_free, is_named, refers_to}
use Rattle.handle.proofs.Rest.{First, Any}

-- ---- what find, free_slot and refers give, element by element

abbrev pub find_index : ℕ → ℕ → List Handle → ℕ
find_index s n hs = found_index (rules.is_handle s n) (slots_of hs)

abbrev pub free_slot : List Handle → ℕ
free_slot hs = free_index (slots_of hs)

abbrev pub is_referred : ℕ → List Handle → Bool
is_referred t hs = member t (map handle_token (lives (slots_of hs)))

pub first_found : (s n : ℕ) → First (is_named s n) (find_index s n)
unfolding found_index handle_at rules.is_handle
first_found s n = record { none = refl; step = λ h hs. by (eqb h.number 0) h hs }
  where
    by : (b : Bool) (h : Handle) (hs : List Handle)
        → found_index (rules.is_handle s n) ((if b then free else live (handle_of h)) ∷ slots_of hs)
        ≡ (if not b && (eqb h.number n && eqb h.station s) then zero else suc (find_index s n hs))
    by true h hs = refl
    by false h hs = refl

pub first_free : First is_free free_slot
unfolding free_index handle_at
first_free = record { none = refl; step = λ h hs. by (eqb h.number 0) h hs }
  where
    by : (b : Bool) (h : Handle) (hs : List Handle)
        → free_index ((if b then free else live (handle_of h)) ∷ slots_of hs) ≡ (if b then zero else suc (free_slot hs))
    by true h hs = refl
    by false h hs = refl

pub some_refers : (t : ℕ) → Any (refers_to t) (is_referred t)
unfolding lives member handle_at handle_token
some_refers t = record { none = refl; step = λ h hs. by (eqb h.number 0) h hs }
  where
    by : (b : Bool) (h : Handle) (hs : List Handle)
        → member t (map handle_token (lives ((if b then free else live (handle_of h)) ∷ slots_of hs)))
        ≡ (not b && eqb t h.token || is_referred t hs)
    by true h hs = refl
    by false h hs = refl

-- ---- a slot freed

-- a slot past the end
pub kept : {hs : List Handle} {i : ℕ} (h : Handle) → length hs ≡ handle_slots → handle_slots ≤ i → hs ≡ set hs i h
kept {hs} {i} h l past = sym (set_out hs i h (omega arith))

freed_none : (hs : List Handle) (k : ℕ) → get_or (set hs k none) k none ≡ none
freed_none [] k = refl
freed_none (h ∷ hs) zero = refl
freed_none (h ∷ hs) (suc k) = freed_none hs k

-- were slot k free, slot i would refer to t
pub refers_beside : (t k : ℕ) (hs : List Handle) (i : ℕ) {h : Handle} {b : Bool} → h ≡ get_or hs i none → b ≡ refers_to t h → (not (eqb i k) && b) ≡ refers_to t (get_or (set hs k none) i none)
refers_beside t k hs i q e = ap (λ b. not (eqb i k) && b) (e ∙ ap (refers_to t) q) ∙ by (eqb i k) refl
  where
    by : (b : Bool) → eqb i k ≡ b → (not b && refers_to t (get_or hs i none)) ≡ refers_to t (get_or (set hs k none) i none)
    by true e = ap (refers_to t) (sym (ap (λ (j : ℕ). get_or (set hs k none) j none) (eqb-true i k e) ∙ freed_none hs k))
    by false e = ap (refers_to t) (sym (get_or-set_other hs k i none none (eqb-false i k e)))

pub map_set : {A B : Type 0} (f : A → B) (xs : List A) (i : ℕ) (x : A) → map f (set xs i x) ≡ set (map f xs) i (f x)
map_set f [] i x = refl
map_set f (y ∷ ys) zero x = refl
map_set f (y ∷ ys) (suc i) x = ap (λ zs. f y ∷ zs) (map_set f ys i x)

-- ---- what stands at those indexes, and what a store there is

-- the handle at the index that find gives
pub found_item : (s n : ℕ) (hs : List Handle) {i : ℕ} → i ≡ find_index s n hs → found (rules.is_handle s n) (slots_of hs) ≡ handle_at (handle_of (get_or hs i none))
unfolding handle_at rules.no_handle
found_item s n hs {i} e =
    found_at (rules.is_handle s n) (slots_of hs)
    ∙ ap (λ (k : ℕ). get_or (slots_of hs) k free) (sym e)
    ∙ get_or-map handle_at (map handle_of hs) i rules.no_handle
    ∙ ap handle_at (get_or-map handle_of hs i none)
