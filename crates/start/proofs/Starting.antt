-- The start's memory, and what start returns. Assumes nothing.
use Prim.Native.Nat.{ℕ, zero, suc, ◌*◌, ◌<◌, ◌≤◌}
use native.Mathlib.Omega.{arith}
use native.Mathlib.Nat.{suc-mul, add_comm}
use mathlib.Core.Path.{◌≡◌, refl, sym, ap, ap₂, ◌∙◌}
use mathlib.Core.Bool.{Bool, true, false, not}
use mathlib.Core.List.{List, [], ◌++◌, map, append-nil}
use lib.ListN.{length, take, drop, replicate, replicate-append-replicate, drop_of_length-le, length-replicate}
use Rattle.table.specs.Lists.{pad}
use Rattle.table.specs.Table.{flat, nth_record, put_record, record_flat, put_flat}
use Rattle.rules.specs.Privileges as privileges
use Rattle.rules.specs.Privileges.{existing, granted}
use Rattle.rules.specs.Token.{Token, max_dacl, system, primary_of, no_defaults, new_token, start_token}
use Rattle.rules.specs.Table.{Slot, free, live, placed}
use Rattle.rules.specs.Handle.{no_handle}
use Rattle.rules.specs.Station.{start_station}
use Rattle.rules.specs.State.{start, token_slots, handle_slots, station_count}
use Rattle.rules.specs.Memory.{token_words, pending_bytes, token_row, dacl_row, slot_row, slot_dacl, slot_handle, pending_row}
use Rattle.rules.specs.Calls.{refused_on, start_on}
use Rattle.rules.proofs.Rows.{length_slot_row}
use Rattle.privilege.specs.Meaning.{privileges_of}
use Rattle.privilege.specs.declared.privileges.Privileges.{Privileges}
use Rattle.token.specs.NewRow.{Headed}
use Rattle.token.proofs.NewRow.{no_groups}
use Rattle.handle.specs.Meaning.{none, handle_of}
use Rattle.control.specs.Control.{ControlIn}
use Rattle.valid.specs.Meaning.{memory_of}
use Rattle.valid.specs.Tested.{SizesTested}
use Rattle.valid.proofs.Sizes.{sizes_wrong, sizes_right, right_count}
use Rattle.std.specs.Prelude.{Ok, Err}
use Rattle.start.specs.declared.refusal.CallRefusal.TheVariants.{InvalidMemory}
use Rattle.start.specs.Promise.{StartsWith}
use Rattle.start.specs.Initial.{FirstTokens, Begun}
use Rattle.start.proofs.Parts.{written_as}

-- ---- rows of zeros are zeros

flat_zeros : {A : Type 0} (f : A → List ℕ) (w : ℕ) (a : A) → f a ≡ replicate w 0 → (n : ℕ) → flat f (replicate n a) ≡ replicate (n * w) 0
unfolding flat
flat_zeros f w a e zero = ap (λ (k : ℕ). replicate k 0) {x = 0} {y = zero * w} (omega arith)
flat_zeros f w a e (suc n) =
    ap₂ (λ (x y : List ℕ). x ++ y) e (flat_zeros f w a e n)
    ∙ replicate-append-replicate w (n * w) 0
    ∙ ap (λ (k : ℕ). replicate k 0) (add_comm w (n * w) ∙ sym (suc-mul n w))

no_tokens : List (Slot Token)
no_tokens = replicate token_slots free

module _ {zs : List ℕ} (h : zs ≡ replicate (token_slots * token_words) 0) where
  rows_free : zs ≡ flat slot_row no_tokens
  unfolding slot_row no_tokens
  rows_free = h ∙ sym (flat_zeros slot_row token_words free refl token_slots)

  one_there : 0 < length no_tokens
  unfolding no_tokens
  one_there = omega (arith, length-replicate {A = Slot Token} token_slots free)

  -- the first row, and the rows with token 1's stored in its place
  first_row : take token_words zs ≡ replicate token_words 0
  unfolding nth_record slot_row no_tokens
  first_row = ap (nth_record token_words 0) rows_free ∙ record_flat slot_row token_words length_slot_row 0 no_tokens free one_there

  stored_first : put_record token_words 0 (slot_row (live start_token)) zs ≡ flat slot_row start.tokens.slots
  unfolding start placed no_tokens
  stored_first = ap (put_record token_words 0 (slot_row (live start_token))) rows_free ∙ put_flat slot_row token_words length_slot_row 0 (live start_token) no_tokens one_there

-- ---- the memory

none_pending : pending_row start_station ≡ replicate pending_bytes 0
unfolding pending_row start_station pad
none_pending = refl

first_pending : replicate (station_count * pending_bytes) 0 ≡ flat pending_row start.stations
unfolding start
first_pending = sym (flat_zeros pending_row pending_bytes start_station none_pending station_count)

first_handles : map handle_of (replicate handle_slots none) ≡ map slot_handle start.handles.slots
unfolding start slot_handle no_handle
first_handles = refl

-- token 1 has no DACL
first_dacls : flat slot_dacl start.tokens.slots ≡ replicate (token_slots * max_dacl) 0
unfolding start placed flat slot_dacl dacl_row start_token new_token no_defaults pad
first_dacls = flat_zeros slot_dacl max_dacl free refl token_slots

-- and no groups: its row is a head and zeros
pub tokens_begun : (p : Privileges) {zs bs ws : List ℕ} → zs ≡ replicate (token_slots * token_words) 0 → bs ≡ replicate (token_slots * max_dacl) 0
    → privileges_of p ≡ granted existing existing → Headed 1 (primary_of 1 system 999 16384) (privileges_of p) 0 (take token_words zs) ws
    → FirstTokens (ws ++ drop token_words zs) bs
unfolding put_record slot_row start_token
tokens_begun p {zs} {bs} {ws} hz hb e h = record {
  tokens = record {
    words =
        ap (λ (r : List ℕ). put_record token_words 0 r zs)
        (h.row [] (first_row hz ∙ no_groups) refl ∙ ap (λ (q : privileges.Privileges). token_row (new_token 1 (primary_of 1 system 999 16384) q [])) e)
        ∙ stored_first hz;
    bytes = hb ∙ sym first_dacls;
  };
}

pub begun : {ts ds cs ps : List ℕ} → FirstTokens ts ds → ControlIn start cs → ps ≡ replicate (station_count * pending_bytes) 0 → Begun ts ds cs ps
begun {ts} {ds} {cs} {ps} t s e = record {
  memory =
      written_as ts ds (replicate handle_slots none) cs ps start
      (record { handles = record { records = first_handles }; control = s; tokens = t.tokens })
      (record { rows = e ∙ first_pending });
}

-- ---- what start returns

module _ (count : ℕ) (ts ds cs ps : List ℕ) (b : Bool) (t : SizesTested (length ts) (length ds) count (length cs) (length ps) b) where
  pub start_refused : b ≡ false → StartsWith count ts ds cs ps ts ds cs ps (Err InvalidMemory)
  unfolding start_on refused_on
  start_refused f = record { started = λ hs l. let e = sizes_wrong count ts ds cs ps b t (ap not f) hs l in record { refusal = rw e; memory = rw e } }

  pub starts : b ≡ true → {ts' ds' cs' ps' : List ℕ} → Begun ts' ds' cs' ps' → (u : _) → StartsWith count ts ds cs ps ts' ds' cs' ps' (Ok u)
  unfolding start_on
  starts f {ts'} {ds'} {cs'} {ps'} w u =
      let n : count ≡ handle_slots = right_count count ts ds cs ps b t (ap not f) in
      record {
        started = λ hs l.
            let e = sizes_right count ts ds cs ps b t (ap not f) hs l in
            record {
              refusal = rw e;
              memory =
                  ap (λ is. memory_of ts' ds' is cs' ps')
                  (ap (λ is. replicate handle_slots none ++ is) (drop_of_length-le hs {i = handle_slots} (omega arith)) ∙ append-nil (replicate handle_slots none))
                  ∙ w.memory ∙ sym (rw e);
            };
      }

  pub fits_count : b ≡ true → handle_slots ≤ count
  fits_count f = let n : count ≡ handle_slots = right_count count ts ds cs ps b t (ap not f) in omega arith
