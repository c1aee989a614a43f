-- What changes of groups keep: the same SIDs in the same order, owners, deny-only marks, and valid groups. Assumes nothing.
use Prim.Native.Nat.{ℕ, zero, suc}
use mathlib.Core.Path.{◌≡◌, refl, sym, ap, ap₂, ◌∙◌}
use mathlib.Core.Bool.{Bool, true, false, not, ◌&&◌, ◌||◌, or-true}
use mathlib.Core.List.{List, [], ◌∷◌, map}
use lib.Dec.{eqb, leb, ltb}
use lib.Bits.{bit_or}
use lib.ListN.{length, get_or}
use borrow.Author.Tests.{not-true}
use Rattle.rules.specs.AdjustDefaults.{valid_owner, valid_group}
use Rattle.rules.specs.AdjustGroups.{is_reset, is_protected, unprotected, applied, reset_group, adjusted}
use Rattle.std.specs.Prelude.{if◌then◌else◌}
use Rattle.rules.specs.Basic.{implies, both_or_neither, all, change_at}
use Rattle.rules.specs.Bits.{has, without, within}
use Rattle.rules.specs.Create.{givable, valid_pair, entered}
use Rattle.rules.specs.Entry.{apply_all, Entry}
use Rattle.rules.specs.Group.{no_group, is_enabled_by_default, is_enabled, is_owner, is_deny_only, with_enabled, denied, Group, sid_of}
use Rattle.rules.specs.Growth.{Mem, here, there}
use Rattle.rules.specs.Restrict.{denied_all}
use Rattle.rules.specs.Token.{max_groups, Defaults, Token}
use Rattle.rules.specs.Valid.{is32, group_valid, groups_valid, defaults_valid}
use Rattle.rules.proofs.Logic.{and_l, and_r, and_i, or_l, or_r, not_both, not_e, not_i, implies_e, implies_i, all_mem}
use Rattle.rules.proofs.Bits.{has_or, or_same, without_same, without_none, within_has, within_trans, without_within, within_or}
use Rattle.rules.proofs.Tables.{on_if}
use Rattle.rules.proofs.Facts.{each_group}

-- ---- one group

-- g' after g
pub record Alike (g g' : Group) : Type 0 where
  pub order : group_valid g ≡ true → group_valid g' ≡ true
  pub sid : g'.sid ≡ g.sid
  pub owner : is_owner g' ≡ is_owner g
  pub denied : is_deny_only g ≡ true → is_deny_only g' ≡ true

alike_refl : (g : Group) → Alike g g
alike_refl g = record { order = λ h. h; sid = refl; owner = refl; denied = λ h. h }

alike_trans : (f g h : Group) → Alike f g → Alike g h → Alike f h
alike_trans f g h a b = record { order = λ o. b.order (a.order o); sid = b.sid ∙ a.sid; owner = b.owner ∙ a.owner; denied = λ o. b.denied (a.denied o) }

-- other attributes, with the LOGON and OWNER bits as they were
regroup : (g : Group) (w : ℕ) → within w 0xC000001F ≡ true → has 30 w ≡ has 30 g.attributes → has 31 w ≡ has 31 g.attributes → has 3 w ≡ has 3 g.attributes
    → (has 4 g.attributes ≡ true → has 4 w ≡ true) → (has 4 w ≡ true → has 2 w ≡ false) → Alike g (record { sid = g.sid; attributes = w })
unfolding group_valid is_deny_only is_enabled is_owner
regroup g w h b30 b31 b3 b4 b2 =
    record {
      order = λ o.
          let a = g.attributes in
          let sid : is32 g.sid ≡ true = search (and_l, and_r) in
          let is_logon : both_or_neither (has 30 a) (has 31 a) ≡ true = search (and_l, and_r) in
          and_i (and_i (and_i sid h) (ap₂ both_or_neither b30 b31 ∙ is_logon)) (implies_i (has 4 w) _ (λ k. ap not (b2 k)));
      sid = refl;
      owner = b3;
      denied = b4;
    }

attributes_in : (g : Group) → group_valid g ≡ true → within g.attributes 0xC000001F ≡ true
unfolding group_valid
attributes_in g o = search (and_l, and_r)

enabling : (g : Group) → group_valid g ≡ true → is_deny_only g ≡ false → Alike g (with_enabled true g)
unfolding with_enabled is_deny_only has within
enabling g o k =
    let a = g.attributes in
    regroup g (bit_or a 4) (within_or a 4 0xC000001F (attributes_in g o) refl) (or_same 30 a 4 refl) (or_same 31 a 4 refl) (or_same 3 a 4 refl)
    (λ h. or_same 4 a 4 refl ∙ h) (λ h. absurd (not_both h (or_same 4 a 4 refl ∙ k)))

disabling : (g : Group) → group_valid g ≡ true → Alike g (with_enabled false g)
unfolding with_enabled has
disabling g o =
    let a = g.attributes in
    regroup g (without a 4) (within_trans (without a 4) a 0xC000001F (without_within a 4) (attributes_in g o)) (without_same 30 a 4 refl) (without_same 31 a 4 refl) (without_same 3 a 4 refl)
    (λ h. without_same 4 a 4 refl ∙ h) (λ h. without_none 2 a 4 refl)

setting : (g : Group) (b : Bool) → group_valid g ≡ true → (b ≡ true → is_deny_only g ≡ false) → Alike g (with_enabled b g)
setting g true o h = enabling g o (h refl)
setting g false o h = disabling g o

-- the mark itself is the same
denied_kept : (b : Bool) (g : Group) → is_deny_only (with_enabled b g) ≡ is_deny_only g
unfolding with_enabled is_deny_only has
denied_kept true g = or_same 4 g.attributes 4 refl
denied_kept false g = without_same 4 g.attributes 4 refl

denies : (g : Group) → group_valid g ≡ true → Alike g (denied g)
unfolding denied has within
denies g o =
    let a = g.attributes in
    let w = bit_or a 0x10 in
    let same : (n : ℕ) → has n 4 ≡ false → has n 0x10 ≡ false → has n (without w 4) ≡ has n a = λ n p q. without_same n w 4 p ∙ or_same n a 0x10 q in
    regroup g (without w 4) (within_trans (without w 4) w 0xC000001F (without_within w 4) (within_or a 0x10 0xC000001F (attributes_in g o) refl))
    (same 30 refl refl) (same 31 refl refl) (same 3 refl refl)
    (λ h. without_same 4 w 4 refl ∙ has_or 4 a 0x10 ∙ or-true (has 4 a)) (λ h. without_none 2 w 4 refl)

-- a group given to request 3, as it is entered
pub enters : (user : ℕ) (g : Group) → valid_pair user g ≡ true → is32 g.sid ≡ true → group_valid (entered g) ≡ true
unfolding valid_pair entered group_valid is_deny_only is_enabled is_enabled_by_default within has with_enabled
enters user g h w =
    let a = g.attributes in
    let given : within a givable ≡ true = search (and_l, and_r) in
    let is_logon : both_or_neither (has 30 a) (has 31 a) ≡ true = search (and_l, and_r) in
    let deny : implies (has 4 a) (not (has 1 a)) ≡ true = search (and_l, and_r) in
    let bits = within_trans a givable 0xC000001F given refl in
    on_if (λ (x : Group). group_valid x ≡ true) (has 1 a) (record { sid = g.sid; attributes = bit_or a 4 }) g
    (λ t. and_i (and_i (and_i w (within_or a 4 0xC000001F bits refl)) (ap₂ both_or_neither (or_same 30 a 4 refl) (or_same 31 a 4 refl) ∙ is_logon))
    (implies_i (has 4 (bit_or a 4)) _ (λ k. absurd (not_e (has 1 a) (implies_e (has 4 a) (not (has 1 a)) deny (sym (or_same 4 a 4 refl) ∙ k)) t))))
    (λ t. and_i (and_i (and_i w bits) is_logon) (implies_i (has 4 a) _ (λ k. not_i (has 2 a) (λ m. not_both (within_has a givable given 2 m) refl))))

-- ---- lists of groups

pub data Groups : List Group → List Group → Type 0 where
  none : Groups [] []
  more : {g g' : Group} {gs gs' : List Group} → Alike g g' → Groups gs gs' → Groups (g ∷ gs) (g' ∷ gs')

pub groups_refl : (gs : List Group) → Groups gs gs
groups_refl [] = none
groups_refl (g ∷ gs) = more (alike_refl g) (groups_refl gs)

groups_trans : {a b c : List Group} → Groups a b → Groups b c → Groups a c
groups_trans none none = none
groups_trans (more {g = f} {g' = g} x p) (more {g' = h} y q) = more (alike_trans f g h x y) (groups_trans p q)

pub groups_order : {a b : List Group} → Groups a b → all group_valid a ≡ true → all group_valid b ≡ true
unfolding all
groups_order none h = refl
groups_order (more {g = g} {gs = gs} x p) h = and_i (x.order (and_l (group_valid g) (all group_valid gs) h)) (groups_order p (and_r (group_valid g) (all group_valid gs) h))

pub groups_length : {a b : List Group} → Groups a b → length b ≡ length a
groups_length none = refl
groups_length (more x p) = ap suc (groups_length p)

pub groups_sids : {a b : List Group} → Groups a b → map sid_of b ≡ map sid_of a
unfolding sid_of
groups_sids none = refl
groups_sids (more x p) = ap₂ ◌∷◌ x.sid (groups_sids p)

pub groups_denied : {a b : List Group} → Groups a b → (i : ℕ) → is_deny_only (get_or a i no_group) ≡ true → is_deny_only (get_or b i no_group) ≡ true
groups_denied none i h = h
groups_denied (more x p) zero h = x.denied h
groups_denied (more x p) (suc i) h = groups_denied p i h

groups_owner : {a b : List Group} → Groups a b → (i : ℕ) → is_owner (get_or b i no_group) ≡ is_owner (get_or a i no_group)
groups_owner none i = refl
groups_owner (more x p) zero = x.owner
groups_owner (more x p) (suc i) = groups_owner p i

-- the groups, and what names them, stay valid
pub groups_in_order : {a b : List Group} → Groups a b → groups_valid a ≡ true → groups_valid b ≡ true
unfolding groups_valid
groups_in_order {a} p h =
    and_i (ap (λ (n : ℕ). leb n max_groups) (groups_length p) ∙ and_l (leb (length a) max_groups) (all group_valid a) h) (groups_order p (each_group a h))

owners : {a b : List Group} → Groups a b → (k : ℕ) → valid_owner b k ≡ valid_owner a k
unfolding valid_owner
owners p zero = refl
owners p (suc k) = ap₂ (λ (n : ℕ) (x : Bool). ltb k n && x) (groups_length p) (groups_owner p k)

pub groups_defaults : {a b : List Group} → Groups a b → (x : Defaults) → defaults_valid b x ≡ defaults_valid a x
unfolding defaults_valid valid_group
groups_defaults p x = rw (owners p x.owner, groups_length p)

-- ---- the changes

at_index : (f : Group → Group) (gs : List Group) (i : ℕ) → (group_valid (get_or gs i no_group) ≡ true → Alike (get_or gs i no_group) (f (get_or gs i no_group))) → all group_valid gs ≡ true → Groups gs (change_at i f gs)
unfolding change_at all
at_index f [] i h o = none
at_index f (g ∷ gs) zero h o = more (h (and_l _ (all group_valid gs) o)) (groups_refl gs)
at_index f (g ∷ gs) (suc i) h o = more (alike_refl g) (at_index f gs i h (and_r (group_valid g) _ o))

marks : (b : Bool) (gs : List Group) (i j : ℕ) → is_deny_only (get_or (change_at i (with_enabled b) gs) j no_group) ≡ is_deny_only (get_or gs j no_group)
unfolding change_at
marks b [] i j = refl
marks b (g ∷ gs) zero zero = denied_kept b g
marks b (g ∷ gs) zero (suc j) = refl
marks b (g ∷ gs) (suc i) zero = refl
marks b (g ∷ gs) (suc i) (suc j) = marks b gs i j

Fits : List Group → Entry → Type 0
Fits gs e = eqb e.value 1 ≡ true → is_deny_only (get_or gs e.key no_group) ≡ false

all_applied : (es : List Entry) (gs : List Group) → ((e : Entry) → Mem e es → Fits gs e) → all group_valid gs ≡ true → Groups gs (apply_all applied es gs)
unfolding apply_all applied Fits
all_applied [] gs h o = groups_refl gs
all_applied (e ∷ es) gs h o =
    let b = eqb e.value 1 in
    let p : Groups gs (change_at e.key (with_enabled b) gs) = at_index (with_enabled b) gs e.key (λ k. setting (get_or gs e.key no_group) b k (h e (here refl))) o in
    groups_trans p (all_applied es _ (λ f m t. marks b gs e.key f.key ∙ h f (there m) t) (groups_order p o))

deny_only_protected : (user v : ℕ) (g : Group) → is_deny_only g ≡ true → is_protected user v g ≡ true
unfolding is_protected
deny_only_protected user v g h = search (or_l, or_r)

allowed_fits : (t : Token) (e : Entry) → unprotected t e ≡ true → Fits t.groups e
unfolding unprotected Fits
allowed_fits t e h v = let g = get_or t.groups e.key no_group in not-true (is_deny_only g) (not_i _ (λ d. not_e _ h (deny_only_protected _ e.value g d)))

reset_one : (b : Bool) (g : Group) → group_valid g ≡ true → (b ≡ false → is_deny_only g ≡ false) → Alike g (if b then g else with_enabled (is_enabled_by_default g) g)
reset_one true g o h = alike_refl g
reset_one false g o h = setting g (is_enabled_by_default g) o (λ b. h refl)

resets : (gs : List Group) → all group_valid gs ≡ true → Groups gs (map reset_group gs)
unfolding all reset_group
resets [] o = none
resets (g ∷ gs) o = more (reset_one _ g (and_l _ (all group_valid gs) o) (λ t. t)) (resets gs (and_r (group_valid g) _ o))

pub adjusts : (es : List Entry) (t : Token) → (is_reset es || all (unprotected t) es) ≡ true → all group_valid t.groups ≡ true → Groups t.groups (adjusted es t.groups)
unfolding adjusted
adjusts es t h o =
    on_if (Groups t.groups) (is_reset es) _ _ (λ r. resets t.groups o)
    (λ r. let k : all (unprotected t) es ≡ true = rw r at h in all_applied es t.groups (λ e m. allowed_fits t e (all_mem (unprotected t) es k m)) o)

pub all_denied : (is : List ℕ) (gs : List Group) → all group_valid gs ≡ true → Groups gs (denied_all is gs)
unfolding denied_all
all_denied [] gs o = groups_refl gs
all_denied (i ∷ is) gs o =
    let p = at_index denied gs i (denies (get_or gs i no_group)) o in groups_trans p (all_denied is (change_at i denied gs) (groups_order p o))

unfoldable pub sid32 : Group → Bool
sid32 g = is32 g.sid

pub all_entered : (user : ℕ) (gs : List Group) → all (valid_pair user) gs ≡ true → all sid32 gs ≡ true → all group_valid (map entered gs) ≡ true
unfolding all sid32
all_entered user [] h w = refl
all_entered user (g ∷ gs) h w =
    and_i (enters user g (and_l (valid_pair user g) (all (valid_pair user) gs) h) (and_l (sid32 g) (all sid32 gs) w))
    (all_entered user gs (and_r (valid_pair user g) (all (valid_pair user) gs) h) (and_r (sid32 g) (all sid32 gs) w))
