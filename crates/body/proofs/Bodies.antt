-- Lists in a body, and the user of a create request: what was skipped is what the layout reads. Assumes nothing.
use Prim.Native.Nat.{ℕ, ◌≤◌, max}
use native.Mathlib.Omega.{arith}
use mathlib.Core.Path.{◌≡◌, refl, sym, ap, subst, ◌∙◌}
use mathlib.Core.Bool.{Bool, true, false}
use mathlib.Core.List.{List, [], ◌∷◌}
use denote.Ref.{Bor}
use lib.ListN.{length, drop}
use Rattle.std.specs.Prelude.{Option, Some, None, IfSome, if◌then◌else◌}
use Rattle.std.specs.Bool.{then_some}
use Rattle.rules.specs.Basic.{is_empty}
use Rattle.rules.specs.Number.{Read, got, bad, read_number}
use Rattle.rules.specs.Sid.{is_packed, sid_in}
use Rattle.rules.specs.Given.{Given, by_sid}
use Rattle.rules.specs.Request as rules
use Rattle.rules.specs.Request.{Request, times, end, group, create_layout, packed_sid, ◌>>=◌, follow}
use Rattle.number.specs.Rest.{after}
use Rattle.number.specs.Reader.{rest_of, Onward, ReadOn, PassedOn}
use Rattle.number.specs.declared.reader.Reader.{Reader}
use Rattle.body.specs.declared.fields.CreateFields.{CreateFields}
use Rattle.body.specs.Layout.{whole, listed, ListedTo, Listed, BehindUser, CreateRead, PackedCreateRead}
use Rattle.body.proofs.Lists.{further}
use Rattle.body.proofs.Sids.{packed_only}
use Rattle.body.proofs.Steps.{bind_got, bind_lost, bind_list, end_at, whole_then}

pub same_bytes : {r r' : Reader} → Onward r r' → r'.body.now ≡ r.body.now
same_bytes o = ap (λ (b : Bor (List ℕ)). b.now) o.body

-- where all was there, the fields are these
pub on_some : {F : Type 0} (P : F → Type 0) {r : Option F} {ok : Bool} (f : F) → r ≡ then_some ok f → (ok ≡ true → P f) → IfSome r P
on_some P {r} {ok} f e h = subst (λ x. IfSome x P) (sym e) (by ok h)
  where
    by : (b : Bool) → (b ≡ true → P f) → IfSome (then_some b f) P
    by true k = k refl
    by false k = tt

pub on_none : {F : Type 0} (P : F → Type 0) {r : Option F} → r ≡ None → IfSome r P
on_none P e = subst (λ x. IfSome x P) (sym e) tt

-- ---- lists

module _ {A : Type 0} (p : rules.Reader A) {start r r' : Reader} (n : ℕ) (o : Onward start r) (h : PassedOn (times n p) r r' (Some tt)) where
  pub list_to : ListedTo start p r.at n (rest_of r')
  unfolding listed after
  list_to = record { there = by (times n p (drop r.at start.body.now)) means; inside = o.inside }
    where
      means : Some (rest_of r') ≡ after (times n p (drop r.at start.body.now))
      means = h.means ∙ ap (λ (s : List ℕ). after (times n p (drop r.at s))) (same_bytes o)

      by : (x : Read (List A)) → Some (rest_of r') ≡ after x → x ≡ got (listed x) (rest_of r')
      by (got xs l) e = let k : rest_of r' ≡ l = cc in ap (got xs) (sym k)
      by bad e = cc

  -- before another place, where the body is the same
  pub list_before : ListedTo start p r.at n (drop r'.at start.body.now)
  list_before = subst (ListedTo start p r.at n) (ap (drop r'.at) (same_bytes (further o h.onward))) list_to

  pub list_ends : {ok : Bool} → ok ≡ is_empty (rest_of r') → ok ≡ true → Listed start p r.at n
  unfolding is_empty
  list_ends e d = subst (ListedTo start p r.at n) (none (rest_of r') (sym e ∙ d)) list_to
    where
      none : (l : List ℕ) → is_empty l ≡ true → l ≡ []
      none [] k = refl
      none (b ∷ l) k = cc

-- ---- a layout, step by step

-- a number, and what is read behind it
pub step : {B : Type 0} {limit : ℕ} (f : ℕ → rules.Reader B) {r r' : Reader} {v : ℕ} → ReadOn (read_number limit) limit r r' (Some v)
    → ◌>>=◌ (read_number limit) f (rest_of r) ≡ f v (rest_of r')
step {limit = limit} f {r} {r'} {v} h = bind_got (read_number limit) f (rest_of r) v (rest_of r') h.means

module _ {A B : Type 0} (p : rules.Reader A) (n : ℕ) (f : List A → rules.Reader B) {r r' : Reader} where
  pub list_step : {start : Reader} → Onward start r → PassedOn (times n p) r r' (Some tt)
      → ◌>>=◌ (times n p) f (rest_of r) ≡ f (listed (times n p (drop r.at start.body.now))) (rest_of r')
  list_step {start} o h =
      bind_list (times n p) f (rest_of r) (rest_of r') h.means
      ∙ ap (λ (s : List ℕ). f (listed (times n p (drop r.at s))) (rest_of r')) (same_bytes o)

  pub list_lost : PassedOn (times n p) r r' None → ◌>>=◌ (times n p) f (rest_of r) ≡ bad
  list_lost h = bind_lost (times n p) f (rest_of r) h.means

module _ {F : Type 0} (request : F → Request) {x : Read Request} {r : Option F} where
  pub finish : {ok : Bool} (f : F) (bytes : List ℕ) → r ≡ then_some ok f → ok ≡ is_empty bytes → x ≡ end (request f) bytes → whole request r ≡ x
  finish {ok} f bytes e d q = whole_then request r ok f e ∙ ap (λ (b : Bool). if b then got (request f) [] else bad) d ∙ sym (end_at (request f) bytes) ∙ sym q

  pub refuse : r ≡ None → x ≡ bad → whole request r ≡ x
  refuse e q = ap (whole request) e ∙ sym q

-- ---- the user

module _ {U : Type 0} (p : rules.Reader Given) (of : U → Given) where
  pub no_user : (r : Reader) → bad ≡ p (rest_of r) → (x : Option (CreateFields U)) → x ≡ None → CreateRead p of r x
  unfolding create_layout ◌>>=◌ follow
  no_user r e x z = subst (CreateRead p of r) (sym z) (record { parsed = rw (sym e); there = tt })

  -- behind the user, the rest is read on
  pub with_user : (user : U) {r m : Reader} → Onward r m → got (of user) (rest_of m) ≡ p (rest_of r) → (x : Option (CreateFields U)) → BehindUser p user m x → CreateRead p of r x
  with_user user {r} {m} o e None b = record { parsed = b.parsed (rest_of r) (of user) e; there = tt }
  with_user user {r} {m} o e (Some f) b = record {
    parsed =
        ap (λ (z : U × List ℕ). whole {F = CreateFields U} (λ y. rules.create (of z.0) y.session y.integrity y.present y.by_default (listed (times y.count (group p) (drop y.at z.1)))) (Some f))
        {x = (f.user, r.body.now)} {y = (user, m.body.now)} (pair b.same (sym (same_bytes o)))
        ∙ b.parsed (rest_of r) (of user) e;
    there = record {
      there = ap (λ (s : List ℕ). times f.count (group p) (drop f.at s)) (sym (same_bytes o)) ∙ b.there.there ∙ ap (λ (s : List ℕ). got (listed (times f.count (group p) (drop f.at s))) []) (same_bytes o);
      inside = omega (arith, b.there.inside, o, ap length (same_bytes o));
    };
  }
    where
      pair : {x y : U} {s t : List ℕ} → x ≡ y → s ≡ t → ◌≡◌ {A = U × List ℕ} (x, s) (y, t)
      pair d q = cc

-- the SID of a packed user
pub packed_there : {r m : Reader} → PassedOn packed_sid r m (Some tt) → (got (by_sid (sid_in (rest_of r))) (rest_of m) ≡ packed_sid (rest_of r)) × (is_packed (rest_of r) ≡ true)
unfolding after
packed_there {r} {m} h = by (packed_sid (rest_of r)) refl h.means
  where
    by : (x : Read Given) → packed_sid (rest_of r) ≡ x → Some (rest_of m) ≡ after x → (got (by_sid (sid_in (rest_of r))) (rest_of m) ≡ packed_sid (rest_of r)) × (is_packed (rest_of r) ≡ true)
    by (got g l) e d =
        let k : rest_of m ≡ l = cc in
        let f = packed_only (rest_of r) g l e in
        (cc (k, f.0, e), f.1)
    by bad e d = cc

pub packed_lost : {r m : Reader} → PassedOn packed_sid r m None → bad ≡ packed_sid (rest_of r)
unfolding after
packed_lost {r} h = by (packed_sid (rest_of r)) h.means
  where
    by : (x : Read Given) → None ≡ after x → bad ≡ x
    by (got g l) d = cc
    by bad d = refl

module _ {r : Reader} where
  pub no_packed_user : {m : Reader} → PassedOn packed_sid r m None → (x : Option (CreateFields ℕ)) → x ≡ None → PackedCreateRead r x
  no_packed_user h x z = record {
    read = no_user packed_sid (λ at. by_sid (sid_in (drop at r.body.now))) r (packed_lost h) x z;
    user = on_none (λ f. (is_packed (drop f.user r.body.now) ≡ true) × (f.user ≤ max r.at (length r.body.now))) z;
  }

  pub packed_user : {m : Reader} → PassedOn packed_sid r m (Some tt) → (x : Option (CreateFields ℕ)) → BehindUser packed_sid r.at m x → PackedCreateRead r x
  packed_user h x b = record {
    read = with_user packed_sid (λ at. by_sid (sid_in (drop at r.body.now))) r.at h.onward (packed_there h).0 x b;
    user = by x b.same;
  }
    where
      by : (y : Option (CreateFields ℕ)) → IfSome y (λ f. f.user ≡ r.at) → IfSome y (λ f. (is_packed (drop f.user r.body.now) ≡ true) × (f.user ≤ max r.at (length r.body.now)))
      by None e = tt
      by (Some f) e = (ap (λ (k : ℕ). is_packed (drop k r.body.now)) e ∙ (packed_there h).1, omega (arith, e))
