-- Valid tokens, and what lasts of them, for each change that a request makes to a token and each new token. Assumes nothing.
use Prim.Native.Nat.{ℕ, ◌+◌, ◌%◌, ◌^◌, ◌≤◌}
use native.Mathlib.Nat.{mod-lt}
use native.Mathlib.Omega.{arith}
use mathlib.Core.Path.{◌≡◌, refl, ap, ap₂, subst, ◌∙◌}
use mathlib.Core.Bool.{Bool, true, ◌&&◌, ◌||◌}
use mathlib.Core.Logic.{inl, inr, ⊎_elim}
use mathlib.Core.List.{List, [], ◌∷◌, ◌++◌, map, append-nil}
use lib.Dec.{eqb, leb}
use lib.ListN.{length}
use borrow.Author.Tests.{eqb-true, eqb-false, lt-ltb, le-leb, leb-true}
use Rattle.rules.specs.AdjustDefaults as AdjustDefaults
use Rattle.rules.specs.AdjustDefaults.{no_change, valid_owner, valid_group, valid_dacl, valid_defaults, or_kept}
use Rattle.rules.specs.AdjustGroups as AdjustGroups
use Rattle.rules.specs.AdjustPrivileges as AdjustPrivileges
use Rattle.rules.specs.AdjustScope.{scoped_token}
use Rattle.std.specs.Prelude.{if◌then◌else◌}
use Rattle.rules.specs.Basic.{implies, all, member, is_empty}
use Rattle.rules.specs.Bits.{has, within}
use Rattle.rules.specs.Create.{valid_integrity}
use Rattle.rules.specs.Duplicate.{retyped, copied, nobody, anonymous_copy, duplicated}
use Rattle.rules.specs.Entry.{Entry, valid_entries}
use Rattle.rules.specs.Group.{Group, sid_of, is_enabled_by_default, with_enabled}
use Rattle.rules.specs.Growth.{Follows, Mem}
use Rattle.rules.specs.Link.{clone}
use Rattle.rules.specs.Privileges.{existing, mark_used, only_used, Privileges}
use Rattle.rules.specs.Restrict as Restrict
use Rattle.rules.specs.Restrict.{restricting_to, restricted}
use Rattle.rules.specs.Create as Create
use Rattle.rules.specs.Sid.{Sid}
use Rattle.rules.specs.SidTable.{is_number}
use Rattle.rules.specs.State.{used_on}
use Rattle.rules.specs.Token.{max_restricting, max_dacl, primary, impersonation, identification, default_elevation, full, limited, with_elevation, no_limits, no_defaults, new_token, with_privileges, with_groups, with_defaults, with_scope, next_modified, Identity, Limits, Defaults, Token}
use Rattle.rules.specs.Valid.{is_byte, is32, is64, between, identity_valid, privileges_valid, groups_valid, limits_valid, defaults_valid, sid_numbers, is_listed}
use Rattle.rules.proofs.Logic.{and_l, and_r, and_i, or_e, either, all_mem, mem_all, mem_left, mem_right, mem_append}
use Rattle.rules.proofs.Restricting.{from_either}
use Rattle.rules.proofs.Bits.{within_refl, power_within}
use Rattle.rules.proofs.Tables.{on_if}
use Rattle.rules.proofs.Facts.{TokenFacts, between_low, between_high, each_group}
use Rattle.rules.proofs.Changes.{ElevationStays}
use Rattle.rules.proofs.PrivilegesKept as P
use Rattle.rules.proofs.PrivilegesKept.{sound, order, Fewer}
use Rattle.rules.proofs.GroupsKept as G
use Rattle.rules.proofs.GroupsKept.{Groups, groups_sids, groups_denied, groups_in_order, groups_defaults}

-- u is t after a request that may change it
pub record After (t u : Token) : Type 0 where
  pub facts : TokenFacts u
  pub follows : Follows t u

-- ---- other privileges, groups, defaults, scope: the rest is as it was

with_privileges_lem : (t : Token) (q : Privileges) → TokenFacts t → Fewer t.privileges q → After t (with_privileges q t)
unfolding with_privileges
with_privileges_lem t q f k = let new = order q k.sound in let elevation : ElevationStays t (with_privileges q t) = inl refl in record { facts = search; follows = search }

with_groups_lem : (t : Token) (gs : List Group) → TokenFacts t → Groups t.groups gs → After t (with_groups gs t)
unfolding with_groups
with_groups_lem t gs f k =
    let new = groups_in_order k f.groups in
    let named = groups_defaults k t.defaults ∙ f.defaults in
    let elevation : ElevationStays t (with_groups gs t) = inl refl in
    record { facts = search; follows = search (within_refl, groups_sids, groups_denied) }

with_defaults_lem : (t : Token) (x : Defaults) → TokenFacts t → defaults_valid t.groups x ≡ true → After t (with_defaults x t)
unfolding with_defaults
with_defaults_lem t x f k = let elevation : ElevationStays t (with_defaults x t) = inl refl in record { facts = search; follows = search within_refl }

with_scope_lem : (t : Token) (v : ℕ) → TokenFacts t → is32 v ≡ true → After t (with_scope v t)
unfolding with_scope
with_scope_lem t v f k = let elevation : ElevationStays t (with_scope v t) = inl refl in record { facts = search; follows = search within_refl }

elevated_facts : (t : Token) (k : ℕ) → between 1 3 k ≡ true → TokenFacts t → TokenFacts (with_elevation k t)
unfolding with_elevation
elevated_facts t k h f = search

-- a token becomes Full or Limited that is not the other
elevated_after : (t : Token) (k : ℕ) → between 1 3 k ≡ true → ((t.elevation ≡ default_elevation → ⊥) → k ≡ t.elevation) → TokenFacts t → After t (with_elevation k t)
unfolding with_elevation
elevated_after t k h e f =
    let elevation : ElevationStays t (with_elevation k t) =
    ⊎_elim (λ q. inr (eqb-true t.elevation default_elevation q)) (λ q. inl (e (eqb-false t.elevation default_elevation q))) (either (eqb t.elevation default_elevation)) in
    record { facts = elevated_facts t k h f; follows = search within_refl }

pub full_after : (t : Token) → (t.elevation ≡ limited → ⊥) → TokenFacts t → After t (with_elevation full t)
unfolding between
full_after t ne f =
    elevated_after t full refl (λ nd. omega (arith, nd, ne, between_low 1 3 t.elevation f.elevation, between_high 1 3 t.elevation f.elevation)) f

pub limited_after : (t : Token) → (t.elevation ≡ full → ⊥) → TokenFacts t → After t (with_elevation limited t)
unfolding between
limited_after t ne f =
    elevated_after t limited refl (λ nd. omega (arith, nd, ne, between_low 1 3 t.elevation f.elevation, between_high 1 3 t.elevation f.elevation)) f

next_is64 : (n : ℕ) → is64 ((n + 1) % 2 ^ 64) ≡ true
unfolding is64
next_is64 n = lt-ltb _ (2 ^ 64) (mod-lt (n + 1) (omega arith))

and_next : (t u : Token) → After t u → After t (next_modified u)
unfolding next_modified
and_next t u a =
    let new = next_is64 u.modified in
    let f = a.facts in
    let k = a.follows in
    record { facts = search; follows = search k.denied }

-- ---- requests 5 to 8, and the used marks

pub used_after : (t : Token) (n : ℕ) → has n existing ≡ true → TokenFacts t → After t (used_on n t)
unfolding used_on
used_after t n h f = with_privileges_lem t (mark_used (2 ^ n) t.privileges) f (P.marked (2 ^ n) t.privileges (power_within n existing h) (sound _ f.privileges))

pub privileges_after : (t : Token) (es : List Entry) → (AdjustPrivileges.is_reset es || valid_entries (AdjustPrivileges.valid_entry t.privileges) es) ≡ true → TokenFacts t → After t (AdjustPrivileges.adjusted_token es t)
unfolding AdjustPrivileges.adjusted_token
privileges_after t es h f = and_next t _ (with_privileges_lem t _ f (P.adjusts es t.privileges h (sound _ f.privileges)))

pub groups_after : (t : Token) (es : List Entry) → (AdjustGroups.is_reset es || all (AdjustGroups.unprotected t) es) ≡ true → TokenFacts t → After t (AdjustGroups.adjusted_token es t)
unfolding AdjustGroups.adjusted_token
groups_after t es h f = and_next t _ (with_groups_lem t _ f (G.adjusts es t h (each_group t.groups f.groups)))

pub scope_after : (t : Token) (v : ℕ) → is32 v ≡ true → TokenFacts t → After t (scoped_token v t)
unfolding scoped_token
scope_after t v h f = and_next t _ (with_scope_lem t v f h)

-- the new value where it is one, else the old
kept_or : (ok : ℕ → Bool) (new old : ℕ) → (eqb new no_change || ok new) ≡ true → ok old ≡ true → ok (or_kept new old) ≡ true
unfolding or_kept
kept_or ok new old h k =
    on_if (λ (n : ℕ). ok n ≡ true) (eqb new no_change) old new (λ t. k) (λ t. let g : ok new ≡ true = rw t at h in g)

dacl_ok : (flag : ℕ) (bytes old : List ℕ) → valid_dacl flag bytes ≡ true → all is_byte bytes ≡ true → leb (length old) max_dacl ≡ true → all is_byte old ≡ true
    → (leb (length (if eqb flag 1 then bytes else old)) max_dacl ≡ true) × (all is_byte (if eqb flag 1 then bytes else old) ≡ true)
unfolding valid_dacl
dacl_ok flag bytes old h b l k =
    on_if (λ (xs : List ℕ). (leb (length xs) max_dacl ≡ true) × (all is_byte xs ≡ true)) (eqb flag 1) bytes old
    (λ t. (
      ⊎_elim (λ z. absurd (let p = eqb-true flag 0 (and_l (eqb flag 0) (is_empty bytes) z) in let q = eqb-true flag 1 t in omega arith)) (λ z. and_r (eqb flag 1) _ z)
          (or_e (eqb flag 0 && is_empty bytes) (eqb flag 1 && leb (length bytes) max_dacl) h),
      b,
    ))
    (λ t. (l, k))

defaults_in_order : (t : Token) (owner group flag : ℕ) (bytes : List ℕ) (x : Defaults) → valid_defaults t owner group flag bytes ≡ true → all is_byte bytes ≡ true
    → defaults_valid t.groups x ≡ true → defaults_valid t.groups (AdjustDefaults.adjusted owner group flag bytes x) ≡ true
unfolding valid_defaults defaults_valid AdjustDefaults.adjusted
defaults_in_order t owner group flag bytes x h b k =
    let gs = t.groups in
    let owner_ok : (eqb owner no_change || valid_owner gs owner) ≡ true = search (and_l, and_r) in
    let group_ok : (eqb group no_change || valid_group gs group) ≡ true = search (and_l, and_r) in
    let dacl : valid_dacl flag bytes ≡ true = search (and_l, and_r) in
    let owner_was : valid_owner gs x.owner ≡ true = search (and_l, and_r) in
    let group_was : valid_group gs x.primary_group ≡ true = search (and_l, and_r) in
    let size_was : leb (length x.dacl) max_dacl ≡ true = search (and_l, and_r) in
    let dacl_was : all is_byte x.dacl ≡ true = search (and_l, and_r) in
    let d = dacl_ok flag bytes x.dacl dacl b size_was dacl_was in
    and_i (and_i (and_i (kept_or (valid_owner gs) owner x.owner owner_ok owner_was) (kept_or (valid_group gs) group x.primary_group group_ok group_was)) d.0) d.1

pub defaults_after : (t : Token) (owner group flag : ℕ) (bytes : List ℕ) → valid_defaults t owner group flag bytes ≡ true → all is_byte bytes ≡ true → TokenFacts t → After t (AdjustDefaults.adjusted_token owner group flag bytes t)
unfolding AdjustDefaults.adjusted_token
defaults_after t owner group flag bytes h b f =
    and_next t _ (with_defaults_lem t (AdjustDefaults.adjusted owner group flag bytes t.defaults) f (defaults_in_order t owner group flag bytes t.defaults h b f.defaults))

-- ---- new tokens: u, made from t

pub record Made (n : ℕ) (t u : Token) : Type 0 where
  pub number : u.number ≡ n
  pub facts : TokenFacts u
  pub present : within u.privileges.present t.privileges.present ≡ true

-- another type and level that go together
retyped_ok : (i : Identity) (type level : ℕ) → between primary impersonation type ≡ true → leb level 3 ≡ true → implies (eqb type primary) (eqb level 0) ≡ true → identity_valid i ≡ true → identity_valid (retyped type level i) ≡ true
unfolding identity_valid retyped
retyped_ok i type level b l m h =
    let user : is32 i.user ≡ true = search (and_l, and_r) in
    let session : is64 i.session ≡ true = search (and_l, and_r) in
    let integrity : valid_integrity i.integrity ≡ true = search (and_l, and_r) in
    and_i (and_i (and_i (and_i (and_i user session) integrity) b) l) m

-- a copy's number is above its source's, and so above its root
root_ok : (t : Token) (n : ℕ) → t.number ≤ n → TokenFacts t → leb t.identity.root n ≡ true
root_ok t n h f = le-leb t.identity.root n (omega (arith, leb-true t.identity.root t.number f.root))

copied_made : (t : Token) (n type level : ℕ) → t.number ≤ n → is64 n ≡ true → between primary impersonation type ≡ true → leb level 3 ≡ true → implies (eqb type primary) (eqb level 0) ≡ true → TokenFacts t → Made n t (copied n type level t)
unfolding copied between retyped
copied_made t n type level o w b l m f =
    let root = root_ok t n o f in
    let new = retyped_ok t.identity type level b l m f.identity in record { number = refl; facts = search; present = within_refl _ }

pub clone_made : (t : Token) (n : ℕ) → t.number ≤ n → is64 n ≡ true → TokenFacts t → Made n t (clone n t)
unfolding clone with_elevation between implies
clone_made t n o w f =
    let c = copied_made t n impersonation identification o w refl refl refl f in
    record { number = c.number; facts = elevated_facts (copied n impersonation identification t) t.elevation f.elevation c.facts; present = c.present }

no_defaults_lem : (gs : List Group) → defaults_valid gs no_defaults ≡ true
unfolding defaults_valid no_defaults valid_owner valid_group all
no_defaults_lem gs = and_i (and_i (and_i refl (le-leb 0 (length gs) (omega arith))) refl) refl

pub new_facts : (n : ℕ) (i : Identity) (p : Privileges) (gs : List Group) → leb i.root n ≡ true → is64 n ≡ true → identity_valid i ≡ true → privileges_valid p ≡ true → groups_valid gs ≡ true → TokenFacts (new_token n i p gs)
unfolding new_token between is32 limits_valid no_limits all
new_facts n i p gs r w hi hp hg = let none = no_defaults_lem gs in search

stripped_made : (t : Token) (n : ℕ) → is64 n ≡ true → TokenFacts t → Made n t (anonymous_copy n t)
unfolding anonymous_copy new_token nobody identity_valid is32 is64 valid_integrity member between implies groups_valid all
stripped_made t n w f =
    let k = P.emptied t.privileges (sound _ f.privileges) in
    record { number = refl; facts = new_facts n nobody (only_used t.privileges) [] (le-leb 0 n (omega arith)) w refl (order _ k.sound) refl; present = k.present }

pub duplicated_made : (t : Token) (n type level : ℕ) → t.number ≤ n → is64 n ≡ true → leb level 3 ≡ true → TokenFacts t → Made n t (duplicated n type level t)
unfolding duplicated between implies
duplicated_made t n type level o w l f =
    on_if (Made n t) (eqb type primary) _ _ (λ p. copied_made t n primary 0 o w refl refl refl f)
    (λ p. on_if (Made n t) (eqb level 0) _ _ (λ z. stripped_made t n w f) (λ z. copied_made t n impersonation level o w refl l refl f))

limited_ok : (mark : ℕ) (sids : List ℕ) (x : Limits) → leb (length (restricting_to sids x.restricting)) max_restricting ≡ true → all is32 sids ≡ true → limits_valid x ≡ true
    → limits_valid (Restrict.limited mark sids x) ≡ true
unfolding limits_valid Restrict.limited
limited_ok mark sids x h w k =
    let own = and_r (leb (length x.restricting) max_restricting) _ k in
    and_i h (mem_all is32 _ (λ n m. ⊎_elim (all_mem is32 sids w) (all_mem is32 x.restricting own) (from_either sids x.restricting m)))

pub restricted_made : (t : Token) (n mark removed : ℕ) (deny sids : List ℕ) → t.number ≤ n → is64 n ≡ true → leb (length (restricting_to sids t.limits.restricting)) max_restricting ≡ true → all is32 sids ≡ true → TokenFacts t → Made n t (restricted n mark removed deny sids t)
unfolding restricted between
restricted_made t n mark removed deny sids o w l s f =
    let root = root_ok t n o f in
    let k = P.removed removed t.privileges (sound _ f.privileges) in
    let g = G.all_denied deny t.groups (each_group t.groups f.groups) in
    let fewer = order _ k.sound in
    let denied = groups_in_order g f.groups in
    let limited = limited_ok mark sids t.limits l s f.limits in
    let named = groups_defaults g t.defaults ∙ f.defaults in
    record { number = refl; facts = search; present = k.present }

-- ---- the SIDs of a new token are in the table where its source's are, and those given

pub copied_listed : (sids : List Sid) (t : Token) (n type level : ℕ) → is_listed sids t ≡ true → is_listed sids (copied n type level t) ≡ true
unfolding is_listed sid_numbers copied retyped
copied_listed sids t n type level h = h

pub clone_listed : (sids : List Sid) (t : Token) (n : ℕ) → is_listed sids t ≡ true → is_listed sids (clone n t) ≡ true
unfolding is_listed sid_numbers clone with_elevation copied retyped
clone_listed sids t n h = h

stripped_listed : (sids : List Sid) (t : Token) (n : ℕ) → is_listed sids (anonymous_copy n t) ≡ true
unfolding is_listed sid_numbers anonymous_copy new_token nobody no_limits all is_number
stripped_listed sids t n = refl

pub duplicated_listed : (sids : List Sid) (t : Token) (n type level : ℕ) → is_listed sids t ≡ true → is_listed sids (duplicated n type level t) ≡ true
unfolding duplicated
duplicated_listed sids t n type level h =
    let P : Token → Type 0 = λ u. is_listed sids u ≡ true in
    on_if P (eqb type primary) _ _ (λ p. copied_listed sids t n primary 0 h)
    (λ p. on_if P (eqb level 0) _ _ (λ z. stripped_listed sids t n) (λ z. copied_listed sids t n impersonation level h))

pub restricted_listed : (sids : List Sid) (t : Token) (n mark removed : ℕ) (deny given : List ℕ) → TokenFacts t → all (is_number sids) given ≡ true
    → is_listed sids t ≡ true → is_listed sids (restricted n mark removed deny given t) ≡ true
unfolding is_listed sid_numbers restricted Restrict.limited all
restricted_listed sids t n mark removed deny given f w h =
    let own = and_r (is_number sids t.identity.user) _ h in
    let each : (k : ℕ) → Mem k (map sid_of t.groups ++ t.limits.restricting) → is_number sids k ≡ true = λ k m. all_mem (is_number sids) _ own m in
    let same = groups_sids (G.all_denied deny t.groups (each_group t.groups f.groups)) in
    and_i (and_l (is_number sids t.identity.user) _ h)
    (mem_all (is_number sids) _ (λ k m.
    ⊎_elim (λ i. each k (mem_left _ (subst (Mem k) same i)))
    (λ i. ⊎_elim (all_mem (is_number sids) given w) (λ j. each k (mem_right (map sid_of t.groups) j)) (from_either given t.limits.restricting i))
    (mem_append (map sid_of (Restrict.denied_all deny t.groups)) m)))

same_sids : (gs : List Group) → map sid_of (map Create.entered gs) ≡ map sid_of gs
unfolding sid_of Create.entered with_enabled
same_sids [] = refl
same_sids (g ∷ gs) =
    ap₂ (λ (x : ℕ) (xs : List ℕ). x ∷ xs) (on_if (λ (z : Group). z.sid ≡ g.sid) (is_enabled_by_default g) _ _ (λ e. refl) (λ e. refl)) (same_sids gs)

pub created_listed : (sids : List Sid) (n : ℕ) (i : Identity) (p : Privileges) (gs : List Group) → all (is_number sids) (i.user ∷ map sid_of gs) ≡ true
    → is_listed sids (new_token n i p (map Create.entered gs)) ≡ true
unfolding is_listed sid_numbers new_token no_limits
created_listed sids n i p gs h = ap (λ (xs : List ℕ). all (is_number sids) (i.user ∷ xs)) (append-nil _ ∙ same_sids gs) ∙ h
