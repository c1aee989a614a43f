-- Request 15, end by end: what its SIDs come to in a state. Assumes nothing.
use Prim.Native.Nat.{ℕ, zero, suc, ◌≤◌, ◌<◌}
use native.Mathlib.Omega.{arith}
use mathlib.Core.Path.{◌≡◌, refl, sym, ap, ap₂, ◌∙◌, subst}
use mathlib.Core.Bool.{Bool, true, ◌||◌}
use mathlib.Core.Logic.{◌⊎◌, inl, inr, ⊎_elim}
use mathlib.Core.List.{List, [], ◌∷◌, map}
use lib.Dec.{eqb}
use lib.ListN.{length, drop, get_or, length-map}
use lib.Seq.{take_all}
use borrow.Author.Tests.{leb-true}
use Rattle.std.specs.Prelude.{Option, None, Some, is_some, IfSome, unwrap_or, if◌then◌else◌}
use Rattle.rules.specs.Basic.{all, filter}
use Rattle.rules.specs.Growth.{Mem, here, there}
use Rattle.rules.specs.Number.{got}
use Rattle.rules.specs.Group.{sid_of}
use Rattle.rules.specs.Token.{Token}
use Rattle.rules.specs.Table.{Slot, free, live, lives}
use Rattle.rules.specs.Sid.{Sid}
use Rattle.rules.specs.SidTable.{max_sids, is_number, is_in, fits_table, sids_valid}
use Rattle.rules.specs.SidRows.{write_sids}
use Rattle.rules.specs.Given.{Given, by_number, by_sid, entered_all, number_in}
use Rattle.rules.specs.State as state
use Rattle.rules.specs.State.{State, token_slots}
use Rattle.rules.specs.Valid.{sid_numbers, is_listed, valid}
use Rattle.rules.specs.Memory.{token_words, token_row}
use Rattle.rules.specs.Request.{times, packed_sid}
use Rattle.rules.specs.Restrict.{restricting_to}
use Rattle.rules.proofs.Logic.{and_l, and_r, and_i, not_both, all_mem, mem_all, mem_right}
use Rattle.rules.proofs.Facts.{valid_facts}
use Rattle.rules.proofs.SidNumbers.{sids_fit, sids_two, number_is, number_below, entered_all_long}
use Rattle.table.specs.Table.{nth_record}
use Rattle.handle.specs.declared.Handle.{Handle}
use Rattle.control.specs.Sids.{SidsCopied, SidsSet}
use Rattle.state.specs.TokenCalls.{FoundAt}
use Rattle.state.specs.ReleaseFacts.{PartsIn}
use Rattle.state.proofs.InPlace.{in_slot}
use Rattle.state.proofs.TokenScalars.{empty_size}
use Rattle.body.proofs.Pairs.{Long, times_long}
use Rattle.copy.specs.declared.restricted_row.Source.{Source}
use Rattle.copy.specs.declared.restricting.Sids.{Sids}
use Rattle.copy.specs.Restricting.{so_many, Listed, is_kept}
use Rattle.copy.specs.Restrict.{SourceAt}
use Rattle.copy.proofs.RestrictingSids.{given_to, kept_of}
use Rattle.copy.proofs.RestrictEnding as restrict
use Rattle.copy.specs.declared.asked.Asked.{Asked}
use Rattle.restrict_packed.specs.Gathered.{is_known, numbers_in, AllIn, PackedGathered}
use Rattle.restrict_packed.specs.Kept.{stays_by, ListMade}
use Rattle.restrict_packed.specs.Taken.{TakenFrom, SidsTaken}
use Rattle.restrict_packed.proofs.Gathering.{valid_capped}

-- each packed one is a number of the table
known_numbers : (t : List Sid) → 2 ≤ length t → (ys : List Given) → all (is_known t) ys ≡ true → all (is_number t) (map (number_in t) ys) ≡ true
unfolding all is_known number_in
known_numbers t l [] h = refl
known_numbers t l (by_number n ∷ ys) h = absurd (not_both h refl)
known_numbers t l (by_sid s ∷ ys) h = and_i (number_is s t l (and_l (is_in s t) (all (is_known t) ys) h)) (known_numbers t l ys (and_r (is_in s t) (all (is_known t) ys) h))

filter_same : (f g : ℕ → Bool) (xs : List ℕ) → ((x : ℕ) → Mem x xs → f x ≡ g x) → filter f xs ≡ filter g xs
unfolding filter
filter_same f g [] h = refl
filter_same f g (x ∷ xs) h =
    ap₂ (λ (b : Bool) (l : List ℕ). if b then x ∷ l else l) (h x (here refl)) (filter_same f g xs (λ y m. h y (there m)))

either_zero : (n : ℕ) → (n ≡ 0) ⊎ (n ≡ 0 → ⊥)
either_zero zero = inl refl
either_zero (suc n) = inr (λ e. omega arith)

module _ {slot own count : ℕ} {ts ws : List ℕ} {ms : List Bool} {taken : Option Sids} {list : Sids} (m : ListMade slot own ts count taken ms list) {given : List Given} {t : List Sid}
    (size : length given ≡ count) (v : sids_valid t ≡ true) (a : AllIn given t ws ms taken)
    (u : Token) (n : length u.limits.restricting ≡ own) (q : nth_record token_words slot ts ≡ token_row u) (known : all (is_number t) u.limits.restricting ≡ true) where
  abbrev ns : List ℕ
  ns = numbers_in given t

  abbrev own_sids : List ℕ
  own_sids = u.limits.restricting

  long : length ns ≡ count
  long = length-map given (number_in (entered_all given t)) ∙ size

  same_test : (x : ℕ) → Mem x own_sids → stays_by count ms x ≡ is_kept ns x
  unfolding stays_by
  same_test x i =
      ap₂ ◌||◌ (sym (empty_size ns ∙ ap (λ (k : ℕ). eqb k 0) long))
      (a.marked x (number_below t x (sids_fit t v) (all_mem (is_number t) own_sids known i)))

  some_listed : (own ≡ 0 → ⊥) → Listed (restricting_to ns own_sids) list
  some_listed ne =
      subst (λ (l : List ℕ). Listed l list) (filter_same (stays_by count ms) (is_kept ns) own_sids same_test ∙ kept_of ns own_sids (λ z. ne (sym n ∙ z))) (m.some ne u n q)

  -- of those given, so many, and they where all had room
  all_given : (o : Option Sids) → IfSome o (Listed ns) → ((unwrap_or o (so_many count)).count ≡ length ns) × (is_some o ≡ true → Listed ns (unwrap_or o (so_many count)))
  all_given (Some l) h = (h.count, λ r. h)
  all_given None h = (sym long, λ r. cc)

  none_listed : own ≡ 0 → (list.count ≡ length (restricting_to ns own_sids)) × (is_some taken ≡ true → Listed (restricting_to ns own_sids) list)
  none_listed z =
      let same = sym (m.none z) in
      let all = given_to ns own_sids (n ∙ z) in
      let g = all_given taken a.listed in (
        sym (ap (λ (l : Sids). l.count) same) ∙ g.0 ∙ ap length all,
        λ r. subst (λ (l : List ℕ). Listed l list) all (subst (λ (l : Sids). Listed ns l) same (g.1 r)),
      )

  list_size : list.count ≡ length (restricting_to ns own_sids)
  list_size = ⊎_elim (λ z. (none_listed z).0) (λ ne. (some_listed ne).count) (either_zero own)

  is_listed_lem : is_some taken ≡ true → Listed (restricting_to ns own_sids) list
  is_listed_lem r = ⊎_elim (λ z. (none_listed z).1 r) some_listed (either_zero own)

  taken_from : TakenFrom given t u ws (record { list = list; known = true; fits = is_some taken })
  unfolding fits_table
  taken_from = record {
    size = list_size;
    known = sym (known_numbers (entered_all given t) (omega (arith, sids_two t v, entered_all_long given t)) given a.known);
    fits = a.room;
    listed = λ f. is_listed_lem (a.room ∙ f);
    words = λ f. a.held.words ∙ ap write_sids (take_all max_sids (entered_all given t) (leb-true (length (entered_all given t)) max_sids f));
  }

pub takes_all : (slot own : ℕ) {s : List ℕ} {at count many : ℕ} {ts ws ws' : List ℕ} {ms : List Bool} {taken : Option Sids} {list : Sids} {fits : Bool} → many ≡ count
    → PackedGathered s at many ws ws' ms taken → ListMade slot own ts many taken ms list → fits ≡ is_some taken → SidsTaken slot own s at count ts ws ws' (record { list = list; known = true; fits = fits })
takes_all slot own {s} {at} {count} {many} {ts} {ws} {ws'} {ms} {taken} {list} same p m e = subst (λ (b : Bool). SidsTaken slot own s at count ts ws ws' (record { list = list; known = true; fits = b })) (sym e) (record {
  long = p.long;
  taken = λ given later e t v w u n q known.
      taken_from m (subst (Long packed_sid many) (whole e) (times_long packed_sid many (drop at s))) v (p.gathered given later (whole e) t (valid_capped t v w) (sids_fit t v)) u n q known;
})
  where
    whole : {given : List Given} {later : List ℕ} → times count packed_sid (drop at s) ≡ got given later → times many packed_sid (drop at s) ≡ got given later
    whole e = ap (λ (n : ℕ). times n packed_sid (drop at s)) same ∙ e

-- ---- in a state

slot_lives : (ps : List (Slot Token)) (i : ℕ) {t : Token} → get_or ps i free ≡ live t → Mem t (lives ps)
unfolding lives
slot_lives [] i e = let z : ◌≡◌ {A = ℕ} 0 1 = cc in absurd (omega arith)
slot_lives (free ∷ ps) zero e = let z : ◌≡◌ {A = ℕ} 0 1 = cc in absurd (omega arith)
slot_lives (free ∷ ps) (suc i) e = slot_lives ps i e
slot_lives (live u ∷ ps) zero {t} e = let q : t ≡ u = cc in here q
slot_lives (live u ∷ ps) (suc i) e = there (slot_lives ps i e)

-- a token's restricting SIDs are in the table
own_known : (sids : List Sid) (t : Token) → is_listed sids t ≡ true → all (is_number sids) t.limits.restricting ≡ true
unfolding is_listed sid_numbers
own_known sids t h = mem_all (is_number sids) t.limits.restricting (λ n m. all_mem (is_number sids) (sid_numbers t) h (there (mem_right (map sid_of t.groups) m)))

module _ (token : ℕ) {i sid_at sid_count : ℕ} {ts ds body ws ws' : List ℕ} {hs : List Handle} {cs : List ℕ} {x : Source} {r : Asked}
    (found : FoundAt token ts i) (inside : i < token_slots) (c : SourceAt i ts x) (w : SidsCopied cs ws) (m : SidsTaken i x.restricting body sid_at sid_count ts ws ws' r)
    (given : List Given) (later : List ℕ) (e : times sid_count packed_sid (drop sid_at body) ≡ got given later) (σ : State) (v : valid σ ≡ true) (k : PartsIn σ ts ds hs cs) where
  taken : TakenFrom given σ.sids (state.token_of σ token) ws' r
  taken =
      let t = state.token_of σ token in
      let there = in_slot token found v k.tokens inside in
      let facts = (valid_facts σ v).loose in
      m.taken given later e σ.sids facts.sids (w.copied σ k.control) t (c.source t there.is_valid there.words).restricting there.words
      (own_known σ.sids t (facts.listed t (slot_lives σ.tokens.slots i there.there)))

  pub packed_taken : restrict.Taken given σ (state.token_of σ token) r
  packed_taken = let y = taken in record { size = y.size; known = y.known; fits = y.fits; listed = y.listed }

  pub packed_entered : {cs₁ cs' : List ℕ} → SidsSet ws' cs₁ cs' → fits_table (entered_all given σ.sids) ≡ true → restrict.SidsEntered given σ cs₁ cs'
  packed_entered d f = record { control = λ τ z y. d.control τ (entered_all given σ.sids) (taken.words f) y }
