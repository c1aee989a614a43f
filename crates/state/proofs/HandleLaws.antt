-- What is found among the handles, and what a change of one slot is. Assumes nothing.
use Prim.Native.Nat.{ℕ, zero, suc, ◌<◌, ◌≤◌}
use native.Mathlib.Omega.{arith}
use mathlib.Core.Path.{◌≡◌, refl, sym, ap, ap₂, ◌∙◌}
use mathlib.Core.Bool.{Bool, true, false, not, ◌&&◌}
use mathlib.Core.List.{List, [], ◌∷◌, map}
use lib.Dec.{eqb, ltb, leb-suc-suc}
use borrow.Author.Tests.{ltb-true, lt-ltb, eq-eqb}
use lib.ListN.{length, get_or, set, get_or-map, get_or-eq_default, length-map}
use Rattle.std.specs.Prelude.{if◌then◌else◌, Option, is_some, unwrap_or, IfSome}
use Rattle.rules.specs.Number.{max32}
use Rattle.rules.specs.Table.{Slot, free, live, is_live, or_else, some_free, found, can_add, added, with_slots}
use Rattle.rules.specs.Index.{free_index, found_index}
use Rattle.rules.specs.Handle as rules
use Rattle.rules.specs.Valid.{valid}
use Rattle.rules.specs.State as state
use Rattle.rules.specs.State.{State, handle_slots, with_handles, find_handle, can_add_handle, add_handle, drop_handle}
use Rattle.rules.specs.Memory.{handle_counter, sections, slot_handle, handle_at}
use Rattle.rules.proofs.Logic.{and_r, not_both}
use Rattle.rules.proofs.Index.{found_at, placed_set, exchanged_set}
use Rattle.handle.specs.Meaning.{handle_of, slots_of, none}
use Rattle.handle.specs.declared.Handle.{Handle}
use Rattle.handle.proofs.Slots.{find_index, free_slot, found_item, map_set}
use Rattle.control.specs.Counters.{NextGiven, Stepped}
use Rattle.state.specs.Parts.{HandlesIn}
use Rattle.state.specs.HandleFacts.{HandleGiven, HandleRoom, HandleAdded}
use Rattle.state.proofs.FormedLaws.{valid_formed, handles_back}
use Rattle.state.proofs.Slots.{found_live}
use Rattle.state.proofs.TokenLooks.{some_below}

-- ---- one slot

slot_record : (p : Slot rules.Handle) → slot_handle p ≡ or_else rules.no_handle p
unfolding slot_handle or_else
slot_record free = refl
slot_record (live h) = refl

live_numbered : (h : rules.Handle) → is_live (handle_at h) ≡ not (eqb h.number 0)
unfolding handle_at is_live
live_numbered h = by (eqb h.number 0)
  where
    by : (b : Bool) → is_live (if b then free else live h) ≡ not b
    by true = refl
    by false = refl

-- one slot is changed
set_slot : (σ : State) (hs : List Handle) (i : ℕ) {h : Handle} (p : Slot rules.Handle) → HandlesIn σ hs → handle_of h ≡ slot_handle p
    → map handle_of (set hs i h) ≡ map slot_handle (set σ.handles.slots i p)
set_slot σ hs i {h} p k e =
    map_set handle_of hs i h
    ∙ ap₂ (λ (xs : List rules.Handle) (x : rules.Handle). set xs i x) k.records e
    ∙ sym (map_set slot_handle σ.handles.slots i p)

-- ---- the handle of a name: it is given, and dropped

module _ (s n : ℕ) (hs : List Handle) {i : ℕ} (e : i ≡ find_index s n hs) where
  index : (σ : State) → valid σ ≡ true → HandlesIn σ hs → i ≡ found_index (rules.is_handle s n) σ.handles.slots
  index σ v h = e ∙ ap (found_index (rules.is_handle s n)) (handles_back σ (valid_formed σ v) hs h)

  pub handle_given : {r : Handle} → r ≡ get_or hs i none → HandleGiven s n hs r
  unfolding state.handle_of find_handle slot_handle rules.no_handle
  handle_given {r} g = record {
    handle = λ σ v h.
        ap handle_of g
        ∙ sym (get_or-map handle_of hs i none)
        ∙ ap (λ (xs : List rules.Handle). get_or xs i rules.no_handle) h.records
        ∙ get_or-map slot_handle σ.handles.slots i free
        ∙ ap (λ (k : ℕ). slot_handle (get_or σ.handles.slots k free)) (index σ v h)
        ∙ ap slot_handle (sym (found_at (rules.is_handle s n) σ.handles.slots))
        ∙ slot_record (find_handle σ s n);
    live = λ σ v h.
        ap (λ ps. is_live (found (rules.is_handle s n) ps)) (sym (handles_back σ (valid_formed σ v) hs h))
        ∙ ap is_live (found_item s n hs e ∙ ap (λ (x : Handle). handle_at (handle_of x)) (sym g))
        ∙ live_numbered (handle_of r);
  }

  pub no_handle_given : length hs ≡ handle_slots → handle_slots ≤ i → HandleGiven s n hs none
  no_handle_given long l = handle_given (sym (get_or-eq_default hs none (omega arith)))

  -- one that is found is live
  pub found_numbered : length hs ≡ handle_slots → i < handle_slots → {r : Handle} → r ≡ get_or hs i none → r.number ≡ 0 → ⊥
  found_numbered long l {r} g z =
      let at : is_live (found (rules.is_handle s n) (slots_of hs)) ≡ true =
      found_live (rules.is_handle s n) (slots_of hs) (let m : length (slots_of hs) ≡ length hs = length-map (map handle_of hs) handle_at ∙ length-map hs handle_of in let k = e in omega arith) in
      let here : is_live (handle_at (handle_of r)) ≡ true = sym (ap is_live (found_item s n hs e ∙ ap (λ (x : Handle). handle_at (handle_of x)) (sym g))) ∙ at in
      not_both here (live_numbered (handle_of r) ∙ ap not (eq-eqb r.number 0 z))

  pub handle_dropped : (σ : State) → valid σ ≡ true → HandlesIn σ hs → HandlesIn (drop_handle s n σ) (set hs i none)
  unfolding drop_handle with_handles with_slots slot_handle rules.no_handle
  handle_dropped σ v h = record {
    records =
        set_slot σ hs i free h refl
        ∙ ap (λ (k : ℕ). map slot_handle (set σ.handles.slots k free)) (index σ v h)
        ∙ ap (map slot_handle) (sym (exchanged_set (rules.is_handle s n) free σ.handles.slots));
  }

-- ---- a new handle

free_there : {A : Type 0} (ps : List (Slot A)) → ltb (free_index ps) (length ps) ≡ some_free ps
unfolding free_index some_free
free_there [] = refl
free_there (free ∷ ps) = lt-ltb zero (suc (length ps)) (omega arith)
free_there (live a ∷ ps) = leb-suc-suc (suc (free_index ps)) (length ps) ∙ free_there ps

pub handle_room : (hs : List Handle) (o : Option ℕ) {cs : List ℕ} {next : ℕ} → unwrap_or o handle_slots ≡ free_slot hs → IfSome o (λ k. k < handle_slots) → NextGiven handle_counter cs next
    → HandleRoom hs cs (is_some o && ltb next max32)
unfolding can_add_handle can_add
handle_room hs o {cs} {next} e l g = record {
  room = λ σ v h k.
      let f = valid_formed σ v in
      let w : unwrap_or o handle_slots ≡ free_index σ.handles.slots = e ∙ ap free_index (handles_back σ f hs h) in
      ap₂ ◌&&◌ (some_below handle_slots o l ∙ ap₂ ltb w (sym f.handle_slots_long) ∙ free_there σ.handles.slots) (ap (λ (n : ℕ). ltb n max32) (g.next σ k));
  next = λ t. let l : next < max32 = ltb-true next max32 (and_r (is_some o) (ltb next max32) t) in let w = g.word in omega arith;
}

pub handle_added : (s token mask : ℕ) (hs : List Handle) {cs cs' : List ℕ} {i n : ℕ} → i ≡ free_slot hs → NextGiven handle_counter cs n → Stepped handle_counter cs cs'
    → HandleAdded s token mask hs cs cs' (record { slot = i; handle = record { station = s; number = n; token = token; mask = mask } })
unfolding add_handle with_handles added sections slot_handle
handle_added s token mask hs {i = i} e g t = record {
  control = λ σ k. t.control σ (add_handle s token mask σ) refl k;
  handles = λ σ f h k.
      let new : rules.Handle = record { station = s; number = σ.handles.next; token = token; mask = mask } in
      record {
        records =
            set_slot σ hs i (live new) h (ap (λ (n : ℕ). record { station = s; number = n; token = token; mask = mask }) (g.next σ k))
            ∙ ap (λ (k : ℕ). map slot_handle (set σ.handles.slots k (live new))) (e ∙ ap free_index (handles_back σ f hs h))
            ∙ ap (map slot_handle) (sym (placed_set new σ.handles.slots));
      };
  number = g.next;
}
