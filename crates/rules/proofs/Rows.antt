-- One record of the lent memory: how long its rows are, and that a valid token, a handle with a number, a valid station and a linked pair are
-- read back from what they are written as. Assumes nothing.
use Prim.Native.Nat.{ℕ, zero, suc, ◌+◌, ◌-◌, ◌*◌, ◌/◌, ◌%◌, ◌^◌, ◌≤◌, ◌<◌}
use native.Mathlib.Nat.{mod-eq_of_lt, add_comm}
use native.Mathlib.Omega.{arith}
use mathlib.Core.Path.{◌≡◌, refl, sym, ap, ◌∙◌}
use mathlib.Core.Bool.{Bool, true, false, ◌||◌}
use mathlib.Core.List.{List, [], ◌∷◌, map}
use lib.Arith.{digits_div, digits_mod}
use lib.Dec.{eqb, leb, ltb}
use lib.ListN.{length, take, get_or, length-append, length-map}
use lib.Seq.{take_at, drop_at}
use borrow.Author.Tests.{ne_eqb, leb-true, ltb-true, ltb-false}
use Rattle.table.specs.Lists.{All, map_undo, map_same, pad, length_pad, take_pad}
use Rattle.std.specs.Prelude.{if◌then◌else◌}
use Rattle.rules.specs.Basic.{all, word32}
use Rattle.rules.specs.Growth.{Mem, here, there}
use Rattle.rules.specs.Group.{Group, no_group, is_owner}
use Rattle.rules.specs.Token.{Token, max_groups, max_restricting, max_dacl}
use Rattle.rules.specs.Table.{Slot, free, live, lives}
use Rattle.rules.specs.Handle.{Handle, no_handle}
use Rattle.rules.specs.Station.{Station}
use Rattle.rules.specs.Pair.{Pair}
use Rattle.rules.specs.State.{number_of, handle_number}
use Rattle.rules.specs.Create.{valid_integrity}
use Rattle.rules.specs.AdjustDefaults.{valid_owner, valid_group}
use Rattle.rules.specs.Frame.{max_body, Length, unread, invalid, size, second_of, length_of, part, whole, framed_by, framed}
use Rattle.rules.specs.Valid.{is32, between, identity_valid, group_valid, groups_valid, limits_valid, defaults_valid, token_valid, is_part, stream_valid}
use Rattle.rules.specs.Memory.{token_words, station_words, pair_words, pending_bytes, low32, mark, pack, unpack, head, token_row, dacl_row, slot_row, slot_dacl, slot_handle, station_row, pair_row, slot_pair, pending_row, identity_at, privileges_at, groups_at, limits_at, defaults_at, token_at, slot_at, handle_at, station_at, pair_at}
use Rattle.rules.proofs.Logic.{and_l, and_r, or_no, not_both, all_mem, member_mem}
use Rattle.rules.proofs.Tables.{on_if}
use Rattle.rules.proofs.Facts.{token_facts, few_groups}

-- ---- lengths

pub length_token_row : (t : Token) → length (token_row t) ≡ token_words
unfolding token_row head
length_token_row t = simp (length-append, length_pad)

pub length_dacl_row : (t : Token) → length (dacl_row t) ≡ max_dacl
unfolding dacl_row
length_dacl_row t = length_pad max_dacl t.defaults.dacl

pub length_slot_row : (p : Slot Token) → length (slot_row p) ≡ token_words
unfolding slot_row
length_slot_row free = refl
length_slot_row (live t) = length_token_row t

pub length_slot_dacl : (p : Slot Token) → length (slot_dacl p) ≡ max_dacl
unfolding slot_dacl
length_slot_dacl free = refl
length_slot_dacl (live t) = length_dacl_row t

pub length_station_row : (x : Station) → length (station_row x) ≡ station_words
unfolding station_row
length_station_row x = refl

pub length_slot_pair : (p : Slot Pair) → length (slot_pair p) ≡ pair_words
unfolding slot_pair pair_row
length_slot_pair free = refl
length_slot_pair (live p) = refl

pub length_pending_row : (x : Station) → length (pending_row x) ≡ pending_bytes
unfolding pending_row
length_pending_row x = length_pad pending_bytes x.pending

-- ---- every element of a list, and every record of a table

pub each : {A : Type 0} (P : A → Type 0) (xs : List A) → ((x : A) → Mem x xs → P x) → All P xs
each P [] h = tt
each P (x ∷ xs) h = (h x (here refl), each P xs (λ y m. h y (there m)))

each_true : {A : Type 0} (f : A → Bool) (xs : List A) → all f xs ≡ true → All (λ x. f x ≡ true) xs
each_true f xs h = each (λ x. f x ≡ true) xs (λ x m. all_mem f xs h m)

-- a slot is free, or its record has the property
abbrev pub Holds : {A : Type 0} → (A → Type 0) → Slot A → Type 0
Holds P free = Unit {0}
Holds P (live a) = P a

pub each_slot : {A : Type 0} (P : A → Type 0) (ps : List (Slot A)) → ((a : A) → Mem a (lives ps) → P a) → All (Holds P) ps
unfolding lives
each_slot P [] h = tt
each_slot P (free ∷ ps) h = (tt, each_slot P ps h)
each_slot P (live a ∷ ps) h = (h a (here refl), each_slot P ps (λ b m. h b (there m)))

-- ---- fields: cut to their width, marks, groups, indexes

cut : (w top : ℕ) {n : ℕ} → top < w → n ≤ top → n % w ≡ n
cut w top l h = mod-eq_of_lt (omega arith)

cut32 : (n : ℕ) → is32 n ≡ true → low32 n ≡ n
unfolding is32
cut32 n h = mod-eq_of_lt (ltb-true n (2 ^ 32) h)

mark_back : (b : Bool) → eqb (mark b) 1 ≡ b
unfolding mark
mark_back true = refl
mark_back false = refl

group_back : (g : Group) → group_valid g ≡ true → unpack (pack g) ≡ g
unfolding unpack pack group_valid is32
group_back g h =
    let low : g.sid < word32 = ltb-true g.sid (2 ^ 32) (search (and_l, and_r)) in
    let swap : pack g ≡ g.attributes * word32 + g.sid = add_comm g.sid (g.attributes * word32) in
    λ i. record {
      sid = (ap (λ (w : ℕ). w % word32) swap ∙ digits_mod g.attributes low) i;
      attributes = (ap (λ (w : ℕ). w / word32) swap ∙ digits_div g.attributes low) i;
    }

owner_low : (gs : List Group) (i : ℕ) → valid_owner gs i ≡ true → i ≤ length gs
unfolding valid_owner
owner_low gs zero h = omega arith
owner_low gs (suc k) h = omega (arith, ltb-true k (length gs) (and_l _ (is_owner (get_or gs k no_group)) h))

pub integrity32 : (i : ℕ) → valid_integrity i ≡ true → is32 i ≡ true
unfolding valid_integrity all is32
integrity32 i h = all_mem is32 _ refl (member_mem i (0 ∷ 4096 ∷ 8192 ∷ 12288 ∷ 16384 ∷ []) h)

-- ---- a token, part by part

identity_back : (t : Token) → identity_valid t.identity ≡ true → identity_at (token_row t) ≡ t.identity
unfolding identity_at token_row head identity_valid between
identity_back t h =
    let x = t.identity in
    λ i. record {
      user = cut32 x.user (search (and_l, and_r)) i;
      session = x.session;
      type = cut 256 2 (omega arith) (leb-true x.type 2 (search (and_l, and_r))) i;
      level = cut 256 3 (omega arith) (leb-true x.level 3 (search (and_l, and_r))) i;
      integrity = cut32 x.integrity (integrity32 x.integrity (search (and_l, and_r))) i;
      root = x.root;
    }

groups_back : (t : Token) → groups_valid t.groups ≡ true → groups_at (token_row t) ≡ t.groups
unfolding groups_at token_row head groups_valid
groups_back t h =
    let gs = t.groups in
    let ws : List ℕ = map pack gs in
    let few = few_groups gs h in
    let long : length ws ≡ length gs = length-map gs pack in
    ap (λ (l : List ℕ). map unpack (take (length gs) l)) (take_at (pad max_groups ws) (pad max_restricting t.limits.restricting) max_groups (length_pad max_groups ws))
    ∙ ap (λ (n : ℕ). map unpack (take n (pad max_groups ws))) (sym long)
    ∙ ap (map unpack) (take_pad max_groups ws (omega arith))
    ∙ map_undo (λ g. group_valid g ≡ true) pack unpack group_back gs (each_true group_valid gs (and_r (leb (length gs) max_groups) _ h))

limits_back : (t : Token) → limits_valid t.limits ≡ true → limits_at (token_row t) ≡ t.limits
unfolding limits_at token_row head limits_valid
limits_back t h =
    let x = t.limits in
    let sids = x.restricting in
    let ws : List ℕ = map pack t.groups in
    λ i. record {
      restricting =
          (ap (λ (l : List ℕ). map low32 (take (length sids) l)) (drop_at (pad max_groups ws) (pad max_restricting sids) max_groups (length_pad max_groups ws))
          ∙ ap (map low32) (take_pad max_restricting sids (leb-true (length sids) max_restricting (and_l _ (all is32 sids) h)))
          ∙ map_same (λ n. is32 n ≡ true) low32 cut32 sids (each_true is32 sids (and_r (leb (length sids) max_restricting) _ h))) i;
      write_restricted = mark_back x.write_restricted i;
      user_deny_only = mark_back x.user_deny_only i;
    }

defaults_back : (t : Token) → groups_valid t.groups ≡ true → defaults_valid t.groups t.defaults ≡ true → defaults_at (token_row t) (dacl_row t) ≡ t.defaults
unfolding defaults_at token_row head dacl_row defaults_valid valid_group
defaults_back t g h =
    let x = t.defaults in
    let gs = t.groups in
    let few = few_groups gs g in
    λ i. record {
      owner = cut word32 (length gs) (omega arith) (owner_low gs x.owner (search (and_l, and_r))) i;
      primary_group = cut word32 (length gs) (omega arith) (leb-true x.primary_group (length gs) (search (and_l, and_r))) i;
      dacl = take_pad max_dacl x.dacl (leb-true (length x.dacl) max_dacl (search (and_l, and_r))) i;
    }

pub token_back : (t : Token) → token_valid t ≡ true → token_at (token_row t) (dacl_row t) ≡ t
unfolding token_at token_row head privileges_at between
token_back t h =
    let f = token_facts t h in
    λ i. record {
      number = t.number;
      modified = t.modified;
      elevation = cut 256 3 (omega arith) (leb-true t.elevation 3 (and_r (leb 1 t.elevation) _ f.elevation)) i;
      identity = identity_back t f.identity i;
      privileges = t.privileges;
      groups = groups_back t f.groups i;
      limits = limits_back t f.limits i;
      defaults = defaults_back t f.groups f.defaults i;
      scope = cut32 t.scope f.scope i;
    }

-- ---- slots: a live record's number is not 0

live_back : {A : Type 0} {n : ℕ} {a b : A} → 1 ≤ n → a ≡ b → (if eqb n 0 then free else live a) ≡ live b
live_back {n = n} h e = rw (ne_eqb n 0 (omega arith)) (ap live e)

unfoldable pub TokenSlot : Slot Token → Type 0
TokenSlot = Holds (λ t. (token_valid t ≡ true) × (1 ≤ number_of t))

pub slot_back : (p : Slot Token) → TokenSlot p → slot_at (slot_row p) (slot_dacl p) ≡ p
unfolding TokenSlot slot_at slot_row slot_dacl token_row head number_of
slot_back free h = refl
slot_back (live t) h = live_back h.1 (token_back t h.0)

unfoldable pub HandleSlot : Slot Handle → Type 0
HandleSlot = Holds (λ h. 1 ≤ handle_number h)

pub handle_back : (p : Slot Handle) → HandleSlot p → handle_at (slot_handle p) ≡ p
unfolding HandleSlot handle_at slot_handle handle_number no_handle
handle_back free h = refl
handle_back (live a) h = live_back h refl

-- a pair's elevated token is live
unfoldable pub PairSlot : Slot Pair → Type 0
PairSlot = Holds (λ p. 1 ≤ p.elevated)

pub pair_back : (p : Slot Pair) → PairSlot p → pair_at (slot_pair p) [] ≡ p
unfolding PairSlot pair_at slot_pair pair_row
pair_back free h = refl
pair_back (live p) h = live_back h refl

-- ---- stations: a part of a frame is shorter than the longest frame

-- a frame's length is known after two bytes at most, and is at most that of the longest body
Short : List ℕ → Length → Type 0
Short bytes unread = length bytes ≤ 1
Short bytes invalid = Unit {0}
Short bytes (size n body) = (n ≤ max_body) × (length bytes ≤ length body + 2)

second_short : (a : ℕ) (bytes : List ℕ) → Short (a ∷ bytes) (second_of a bytes)
unfolding Short second_of
second_short a [] = omega arith
second_short a (b ∷ bytes) =
    let n = a - 128 + 128 * b in
    on_if (Short (a ∷ b ∷ bytes)) (eqb b 0 || leb 128 b || ltb max_body n) invalid (size n bytes)
    (λ e. tt) (λ e. (ltb-false max_body n (or_no (eqb b 0 || leb 128 b) _ e).1, omega arith))

length_short : (bytes : List ℕ) → Short bytes (length_of bytes)
unfolding Short length_of
length_short [] = omega arith
length_short (a ∷ bytes) =
    on_if (Short (a ∷ bytes)) (eqb a 0) invalid _ (λ e. tt) (λ e.
    on_if (Short (a ∷ bytes)) (ltb a 128) (size a bytes) (second_of a bytes) (λ l. (omega (arith, ltb-true a 128 l), omega arith)) (λ l. second_short a bytes))

short_part : (bytes : List ℕ) (l : Length) → Short bytes l → is_part (framed_by l) ≡ true → length bytes < pending_bytes
unfolding Short is_part framed_by
short_part bytes unread s h = omega arith
short_part bytes invalid s h = absurd (not_both h refl)
short_part bytes (size n body) s h =
    on_if (λ f. is_part f ≡ true → length bytes < pending_bytes) (ltb (length body) n) part (whole body)
    (λ l p. omega (arith, ltb-true (length body) n l, s.0, s.1)) (λ l p. absurd (not_both p refl)) h

pub part_short : (bytes : List ℕ) → is_part (framed bytes) ≡ true → length bytes < pending_bytes
unfolding framed
part_short bytes h = short_part bytes (length_of bytes) (length_short bytes) h

pub station_back : (x : Station) → stream_valid x ≡ true → station_at (station_row x) (pending_row x) ≡ x
unfolding station_at station_row pending_row stream_valid
station_back x h =
    let short = part_short x.pending (search (and_l, and_r)) in
    λ i. record {
      token = x.token;
      client = x.client;
      pending = take_pad pending_bytes x.pending (omega arith) i;
      is_broken = mark_back x.is_broken i;
    }
