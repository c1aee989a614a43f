-- The entries made from a report can always be sent: request 5 with them is read back as it was written, and a frame has room for it.
-- Assumes nothing.
use Prim.Native.Nat.{ℕ, ◌*◌, ◌^◌, ◌≤◌, ◌<◌}
use native.Mathlib.Omega.{arith}
use mathlib.Core.Path.{◌≡◌, refl}
use mathlib.Core.Bool.{true}
use mathlib.Core.List.{List, [], ◌∷◌, ◌++◌, map}
use lib.Dec.{leb}
use lib.ListN.{length, length-append, length-map}
use borrow.Author.Tests.{leb-true}
use Rattle.rules.specs.AdjustPrivileges.{valid_entry}
use Rattle.rules.specs.Bits.{has}
use Rattle.rules.specs.Entry.{key_of, Entry}
use Rattle.rules.specs.Growth.{Mem, here, there}
use Rattle.rules.specs.Number.{got, encode, encode_all, max32}
use Rattle.rules.specs.Privileges.{exists, Privileges}
use Rattle.rules.specs.Request as Request
use Rattle.rules.specs.Request.{follow, ◌>>=◌, give, end, times, u32, entry, entries_layout, layouts, parse}
use Rattle.rules.specs.Restore.{undoing, Reordered, pairs, written, CanSend}
use Rattle.rules.proofs.Logic.{and_l, and_r, all_mem, mem_map, few}
use Rattle.rules.proofs.Numbers.{encode_some, read_encode, all_bytes}
use Rattle.rules.proofs.Tables.{on_if}
use Rattle.rules.proofs.Answers.{many}
use Rattle.rules.proofs.Undoing.{Good}

-- the fields' width
abbrev Small : List Entry → Type 0
Small es = (e : Entry) → Mem e es → (e.key ≤ max32) × (e.value ≤ max32)

read_entries : (es : List Entry) → Small es → times (length es) entry (encode_all (pairs es)) ≡ got es []
unfolding times entry ◌>>=◌ follow give u32 encode_all pairs
read_entries [] h = refl
read_entries (e ∷ es) h =
    let k = h e (here refl) in
    rw (read_encode e.key max32 (encode e.value ++ encode_all (pairs es)) k.0, read_encode e.value max32 (encode_all (pairs es)) k.1, read_entries es (λ f m. h f (there m))) refl

small_pairs : (es : List Entry) → Small es → (n : ℕ) → Mem n (pairs es) → n < 2 ^ 32
unfolding pairs
small_pairs [] h n x'' = elim x'' [ ]
small_pairs (e ∷ es) h n (here q) = let k = (h e (here refl)).0 in omega arith
small_pairs (e ∷ es) h n (there (here q)) = let k = (h e (here refl)).1 in omega arith
small_pairs (e ∷ es) h n (there (there m)) = small_pairs es (λ f i. h f (there i)) n m

length_pairs : (es : List Entry) → length (pairs es) ≡ length es * 2
unfolding pairs
length_pairs [] = refl
length_pairs (e ∷ es) = omega (arith, length_pairs es)

-- few entries with small fields
sends : (h : ℕ) (es : List Entry) → h ≤ max32 → length es ≤ 37 → Small es → CanSend h es
unfolding written parse layouts entries_layout ◌>>=◌ follow end u32 encode_all
sends h es in32 count k = record {
  request = reads;
  bytes = all_bytes (5 ∷ h ∷ length es ∷ pairs es);
  some = starts;
  fits = omega (arith, many 32 4 (omega arith) (5 ∷ h ∷ length es ∷ pairs es) small, length_pairs es);
}
  where
    small : (n : ℕ) → Mem n (5 ∷ h ∷ length es ∷ pairs es) → n < 2 ^ 32
    small n (here q) = omega arith
    small n (there (here q)) = omega arith
    small n (there (there (here q))) = omega arith
    small n (there (there (there m))) = small_pairs es k n m

    reads : parse (encode_all (5 ∷ h ∷ length es ∷ pairs es)) ≡ got (Request.privileges h es) []
    reads =
        rw (read_encode 5 max32 (encode h ++ (encode (length es) ++ encode_all (pairs es))) (omega arith), read_encode h max32 (encode (length es) ++ encode_all (pairs es)) in32, read_encode (length es) max32 (encode_all (pairs es)) (omega arith), read_entries es k) refl

    starts : 1 ≤ length (encode_all (5 ∷ h ∷ length es ∷ pairs es))
    starts = simp length-append (omega (arith, encode_some 5))

-- ---- of distinct privileges that exist

exists_high : (n : ℕ) → exists n ≡ true → n < 37
unfolding exists
exists_high n h = omega (arith, leb-true n 36 (and_r (leb 2 n) (leb n 36) h))

module _ (w : ℕ) (p : Privileges) (es fs : List Entry) (g : Good p es) (order : Reordered (map (undoing w) es) fs) where
  high : (e : Entry) → Mem e es → e.key < 37
  unfolding valid_entry
  high e m = exists_high e.key (and_l (exists e.key) _ (all_mem (valid_entry p) es g.each m))

  small : (f : Entry) → Mem f fs → (f.key < 37) × (f.value ≤ 2)
  unfolding undoing
  small f m =
      let r = mem_map (undoing w) es (order.only f m) in
      rw r.2 (high r.0 r.1, on_if (λ (v : ℕ). v ≤ 2) (has r.0.key w) _ _ (λ t. omega arith) (λ t. omega arith))

  at_most_37 : length fs ≤ 37
  unfolding key_of
  at_most_37 =
      let keys : (n : ℕ) → Mem n (map key_of fs) → n < 37 = λ n m. let r = mem_map key_of fs m in rw r.2 (small r.0 r.1).0 in
      omega (arith, few 37 (map key_of fs) order.once keys, length-map fs key_of)

  pub can_send : (h : ℕ) → h ≤ max32 → CanSend h fs
  can_send h in32 = sends h fs in32 at_most_37 (λ f m. let k = small f m in (omega (arith, k.0), omega (arith, k.1)))
