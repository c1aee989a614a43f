-- The tokens that lost a reference are freed, which is what the rules' sweep does. Assumes nothing.
use Prim.Native.Nat.{ℕ, ◌≤◌, ◌<◌}
use native.Mathlib.Omega.{arith}
use mathlib.Core.Path.{◌≡◌, refl, sym, ap, ap₂, ◌∙◌, subst}
use mathlib.Core.Bool.{Bool, true, false, not, ◌||◌}
use mathlib.Core.Logic.{◌⊎◌, ⊎_elim}
use mathlib.Core.List.{List, ◌++◌, map, append_assoc}
use lib.Dec.{ltb}
use lib.ListN.{length, get_or, set, get_or-eq_default}
use lib.Seq.{set_out}
use borrow.Author.Tests.{ltb-false, ne_eqb}
use Rattle.table.specs.Table.{put_record}
use Rattle.std.specs.Prelude.{if◌then◌else◌, None, Some}
use Rattle.rules.specs.Basic.{member, non_zero}
use Rattle.rules.specs.Token.{max_dacl}
use Rattle.rules.specs.Table.{Slot, free, live, or_else, lives, found, exchanged, with_slots}
use Rattle.rules.specs.Station as Station
use Rattle.rules.specs.Station.{no_client}
use Rattle.rules.specs.Acting.{ActsFor}
use Rattle.rules.specs.Growth.{Live}
use Rattle.rules.specs.Index.{free_index, found_index, freed_one}
use Rattle.rules.specs.Pair.{Pair, no_pair, is_of}
use Rattle.rules.specs.Handle as rules
use Rattle.rules.specs.State as state
use Rattle.rules.specs.State.{State, token_slots, handle_slots, pair_slots, with_tokens, with_handles, with_stations, with_pairs, change_station, number_of, is_numbered, set_token, set_client, find_handle, drop_handle, has_pair, set_pair, handle_token, station_token, client_token, elevated_token, filtered_token, references, released}
use Rattle.rules.specs.Memory.{token_words, sections, slot_row, slot_dacl}
use Rattle.rules.proofs.Logic.{member_append, not_both}
use Rattle.rules.proofs.Tables.{on_if, live_slot, length_exchanged, in_freed}
use Rattle.rules.proofs.Index.{found_at, exchanged_set}
use Rattle.rules.proofs.Facts.{Loose, valid_facts}
use Rattle.rules.proofs.Changes.{drop_loose, token_loose, MayAct, none_may, token_may, client_loose, pair_loose}
use Rattle.rules.proofs.Released.{close_frees, token_frees, client_frees, pair_before, pair_frees}
use Rattle.rules.proofs.Control.{pair_index, set_pair_lem}
use Rattle.handle.specs.declared.Handle.{Handle}
use Rattle.handle.specs.Meaning.{none}
use Rattle.handle.specs.Words.{records_in}
use Rattle.handle.proofs.Slots.{find_index, is_referred, kept}
use Rattle.handle.proofs.Words.{records_long}
use Rattle.token.specs.Meaning.{slots_of}
use Rattle.token.proofs.Laws.{put_words, put_dacls}
use Rattle.control.specs.Control.{ControlIn}
use Rattle.control.specs.Stations.{CallerNumber, TokenSet, ClientGiven, ClientSet}
use Rattle.control.specs.Pairs.{pair_of, RowGiven, place_for, PairSet}
use Rattle.control.specs.References.{Refer}
use Rattle.control.specs.declared.stations.Client.{Client}
use Rattle.control.specs.declared.pairs.Pair as Control
use Rattle.control.proofs.Sections.{control_same}
use Rattle.control.proofs.PairRows.{row_held}
use Rattle.state.specs.Parts.{HandlesIn}
use Rattle.state.specs.Formed.{Formed}
use Rattle.state.specs.ReleaseFacts.{PartsIn, Referred, TokenFreed, Closed, Installed, client, ActsFrom, PairLinked}
use Rattle.state.proofs.HandleLaws.{handle_given, no_handle_given, found_numbered, handle_dropped}
use Rattle.state.proofs.Slots.{some_found, free_at}
use Rattle.state.proofs.FormedLaws.{loose_formed, tokens_back, handles_back, pairs_back, tokens_same, handles_same}

-- ---- a token is freed, or stays

regroup : (a b c d e : List ℕ) → a ++ b ++ c ++ d ++ e ≡ a ++ (b ++ c ++ d ++ e)
regroup a b c d e = simp append_assoc

pub referred : {token : ℕ} {hs : List Handle} {cs : List ℕ} {a b : Bool} → a ≡ is_referred token hs → Refer token cs b → Referred token hs cs (a || b)
unfolding references
referred {token} {hs} {cs} by_handle by_control = record {
  refers = λ σ f h k.
      let held = map handle_token (lives σ.handles.slots) in
      ap₂ ◌||◌ (by_handle ∙ ap (λ ps. member token (map handle_token (lives ps))) (handles_back σ f hs h)) (by_control.refer σ k (pairs_back σ f cs k))
      ∙ sym (ap (member token) (regroup held (map station_token σ.stations) (non_zero (map client_token σ.stations)) (map elevated_token (lives σ.pairs)) (map filtered_token (lives σ.pairs)))
      ∙ member_append token held _);
}

module _ {token : ℕ} {hs : List Handle} {cs ts ds : List ℕ} {r : Bool} (k : Referred token hs cs r) where
  pub token_kept : r ≡ true → TokenFreed token ts ds hs cs ts ds
  unfolding freed_one
  token_kept t = record { tokens = λ σ f p. rw (sym (k.refers σ f p.handles p.control) ∙ t) p.tokens }

  module _ {i : ℕ} (unreferred : r ≡ false) (found : (bs : List ℕ) → i ≡ found_index (is_numbered token) (slots_of ts bs)) where
    index : (σ : State) → Formed σ → PartsIn σ ts ds hs cs → exchanged (is_numbered token) free σ.tokens.slots ≡ set σ.tokens.slots i free
    index σ f p =
        exchanged_set (is_numbered token) free σ.tokens.slots
        ∙ ap (λ (k : ℕ). set σ.tokens.slots k free) (sym (found ds ∙ ap (found_index (is_numbered token)) (tokens_back σ f ts ds p.tokens)))

    pub token_freed : {ts' ds' : List ℕ} → i < token_slots → ts' ≡ put_record token_words i (slot_row free) ts → ds' ≡ put_record max_dacl i (slot_dacl free) ds
        → TokenFreed token ts ds hs cs ts' ds'
    unfolding freed_one with_tokens with_slots
    token_freed h ew ed = record {
      tokens = λ σ f p.
          let slots = σ.tokens.slots in
          let low : i < length slots = omega (arith, f.token_slots_long) in
          rw (sym (k.refers σ f p.handles p.control) ∙ unreferred) (rw (index σ f p) (record {
            words = ew ∙ ap (put_record token_words i (slot_row free)) p.tokens.words ∙ put_words slots i low free;
            bytes = ed ∙ ap (put_record max_dacl i (slot_dacl free)) p.tokens.bytes ∙ put_dacls slots i low free;
          }));
    }

    pub token_missing : token_slots ≤ i → TokenFreed token ts ds hs cs ts ds
    unfolding freed_one with_tokens with_slots
    token_missing h = record {
      tokens = λ σ f p.
          let out : set σ.tokens.slots i free ≡ σ.tokens.slots = set_out σ.tokens.slots i free (omega (arith, f.token_slots_long)) in
          rw (sym (k.refers σ f p.handles p.control) ∙ unreferred) (tokens_same (sym (index σ f p ∙ out)) p.tokens);
    }

-- ---- the changes that take a reference away

freed_parts : {token : ℕ} {hs : List Handle} {cs ts ds ts' ds' : List ℕ} (σ : State) → Formed σ → TokenFreed token ts ds hs cs ts' ds' → PartsIn σ ts ds hs cs
    → PartsIn (freed_one token σ) ts' ds' hs cs
unfolding freed_one with_tokens with_slots sections
freed_parts {token} {hs} {cs} σ f k p = record {
  handles = on_if (λ (τ : State). HandlesIn τ hs) (member token (references σ)) σ _ (λ t. p.handles) (λ t. handles_same refl p.handles);
  control = on_if (λ (τ : State). ControlIn τ cs) (member token (references σ)) σ _ (λ t. p.control) (λ t. control_same refl p.control);
  tokens = k.tokens σ f p;
}

freed_formed : (token : ℕ) (σ : State) → Formed σ → Formed (freed_one token σ)
unfolding freed_one with_tokens with_slots number_of
freed_formed token σ f = on_if Formed (member token (references σ)) σ _ (λ t. f) (λ t. record {
  token_slots_long = length_exchanged (is_numbered token) free σ.tokens.slots ∙ f.token_slots_long;
  handle_slots_long = f.handle_slots_long;
  tokens = λ u m. f.tokens u (in_freed number_of (is_numbered token) σ.tokens.slots m);
  handles = f.handles;
  pairs = f.pairs;
})

-- what is freed in the middle state is what the sweep frees
swept : {token : ℕ} {hs : List Handle} {cs ts ds ts' ds' : List ℕ} (σ : State) → Loose σ → released σ ≡ freed_one token σ
    → TokenFreed token ts ds hs cs ts' ds' → PartsIn σ ts ds hs cs → PartsIn (released σ) ts' ds' hs cs
swept {hs = hs} {cs} {ts' = ts'} {ds'} σ l e f p = subst (λ (τ : State). PartsIn τ ts' ds' hs cs) (sym e) (freed_parts σ (loose_formed σ l) f p)

pub closed : (s n : ℕ) (hs : List Handle) {cs ts ds ts' ds' : List ℕ} {i : ℕ} {h : Handle}
    → length hs ≡ handle_slots → i < handle_slots → i ≡ find_index s n hs → h ≡ get_or hs i none → TokenFreed h.token ts ds (set hs i none) cs ts' ds'
    → Closed s n ts ds hs cs ts' ds' (Some (record { slot = i; handle = none }))
unfolding state.handle_of drop_handle with_handles with_slots sections handle_token
closed s n hs {i = i} {h = h} long l e q f = record {
  parts = λ σ v p known.
      let facts = valid_facts σ v in
      let one = close_frees σ s n (state.handle_of σ s n) facts (live_slot rules.no_handle (find_handle σ s n) known) in
      let same : (state.handle_of σ s n).token ≡ h.token = ap handle_token (sym ((handle_given s n hs e q).handle σ v p.handles)) in
      swept (drop_handle s n σ) (drop_loose σ s n facts.loose) (rw same at one) f
      (record { handles = handle_dropped s n hs e σ v p.handles; control = control_same refl p.control; tokens = tokens_same refl p.tokens });
  live = λ σ v k. sym ((handle_given s n hs e q).live σ v k ∙ ap not (ne_eqb h.number 0 (found_numbered s n hs e long l q)));
  none = λ x. cc;
}

pub not_closed : (s n : ℕ) (hs : List Handle) {cs ts ds : List ℕ} → length hs ≡ handle_slots → handle_slots ≡ find_index s n hs → Closed s n ts ds hs cs ts ds None
not_closed s n hs long e =
    let g = no_handle_given s n hs e long (omega arith) in
    record {
      parts = λ σ v p known. absurd (not_both known (g.live σ v p.handles));
      live = λ σ v k. sym (g.live σ v k);
      none = λ x. (refl, refl);
    }

-- a station's reference or a pair's: no slot is freed
no_slot : (ws : List ℕ) {ts ds cs' ts' ds' : List ℕ} {before now : ℕ} → before ≡ now → TokenFreed before ts ds (set (records_in ws) handle_slots none) cs' ts' ds'
    → TokenFreed now ts ds (records_in ws) cs' ts' ds'
no_slot ws {ts} {ds} {cs'} {ts'} {ds'} same f =
    subst (λ (n : ℕ). TokenFreed n ts ds (records_in ws) cs' ts' ds') same (rw (sym (kept {hs = records_in ws} {i = handle_slots} none (records_long handle_slots ws) (omega arith))) at f)

pub installed : (s n : ℕ) (ws : List ℕ) {cs ts ds cs' ts' ds' : List ℕ} {before : ℕ}
    → CallerNumber s cs before → TokenSet s n cs cs' → TokenFreed before ts ds (set (records_in ws) handle_slots none) cs' ts' ds'
    → Installed s n ts ds (records_in ws) cs ts' ds' cs'
unfolding set_token change_station with_stations
installed s n ws g k f = record {
  parts = λ σ v p t m number type.
      let facts = valid_facts σ v in
      let loose : Loose (set_token s n σ) = subst (λ (i : ℕ). Loose (set_token s i σ)) number (token_loose σ s t m type facts.loose) in
      swept (set_token s n σ) loose (token_frees σ s n facts loose) (no_slot ws (g.number σ p.control) f)
      (record { handles = handles_same refl p.handles; control = k.control σ p.control; tokens = tokens_same refl p.tokens });
}

may_act_lem : (σ : State) (c : Station.Client) → Loose σ → (c ≡ no_client) ⊎ ActsFor σ c → MayAct σ c
unfolding Live
may_act_lem σ c l =
    ⊎_elim (λ e. subst (MayAct σ) (sym e) (none_may σ l))
    (λ a. subst (λ (n : ℕ). MayAct σ (client n c.level)) a.number (token_may σ a.token c.level a.live a.type a.level l))

pub acts_from : (s token level : ℕ) (ws : List ℕ) {cs ts ds cs' ts' ds' : List ℕ} {before : Client}
    → ClientGiven s cs before → ClientSet s token level cs cs' → TokenFreed before.token ts ds (set (records_in ws) handle_slots none) cs' ts' ds'
    → ActsFrom s token level ts ds (records_in ws) cs ts' ds' cs'
unfolding set_client change_station with_stations
acts_from s token level ws g k f = record {
  parts = λ σ v p may.
      let facts = valid_facts σ v in
      let c = client token level in
      let loose : Loose (set_client s c σ) = client_loose σ s c (may_act_lem σ c facts.loose may) facts.loose in
      swept (set_client s c σ) loose (client_frees σ s c facts loose) (no_slot ws (ap (λ (x : Station.Client). x.token) (g.client σ p.control)) f)
      (record { handles = handles_same refl p.handles; control = k.control σ p.control; tokens = tokens_same refl p.tokens });
}

-- ---- a session's pair, and the tokens of the one before

module _ (session : ℕ) (ps : List (Slot Pair)) (long : length ps ≡ pair_slots) where
  -- what stood in its place
  place_before : get_or ps (place_for session ps) free ≡ found (is_of session) ps
  place_before = by (ltb (found_index (is_of session) ps) pair_slots) refl
    where
      by : (b : Bool) → ltb (found_index (is_of session) ps) pair_slots ≡ b → get_or ps (if b then found_index (is_of session) ps else free_index ps) free ≡ found (is_of session) ps
      by true e = sym (found_at (is_of session) ps)
      by false e = free_at ps ∙ sym (found_at (is_of session) ps ∙ get_or-eq_default ps free (omega (arith, ltb-false (found_index (is_of session) ps) pair_slots e)))

pub pair_placed : (σ : State) (p : Pair) → length σ.pairs ≡ pair_slots → with_pairs (set σ.pairs (place_for p.session σ.pairs) (live p)) σ ≡ set_pair p σ
unfolding set_pair with_pairs pair_index has_pair
pair_placed σ p long =
    ap (λ ps. with_pairs ps σ)
    (ap (λ (b : Bool). set σ.pairs (if b then found_index (is_of p.session) σ.pairs else free_index σ.pairs) (live p))
    (ap (ltb (found_index (is_of p.session) σ.pairs)) (sym long) ∙ sym (some_found (is_of p.session) σ.pairs))
    ∙ sym (set_pair_lem σ p))

pub linked : (place : ℕ) (q : Control.Pair) (ws : List ℕ) {cs ts ds cs' ts₁ ds₁ ts₂ ds₂ : List ℕ} {before : Control.Pair} → place < pair_slots
    → RowGiven place cs before → PairSet place q cs cs'
    → TokenFreed before.elevated ts ds (set (records_in ws) handle_slots none) cs' ts₁ ds₁ → TokenFreed before.filtered ts₁ ds₁ (set (records_in ws) handle_slots none) cs' ts₂ ds₂
    → PairLinked place q.session q.elevated q.filtered ts ds (records_in ws) cs ts₂ ds₂ cs'
unfolding set_pair with_pairs pair_before elevated_token filtered_token
linked place q ws {cs' = cs'} {ts₂ = ts₂} {ds₂} h g k f₁ f₂ = record {
  parts = λ σ v p new at.
      let facts = valid_facts σ v in
      let pair = pair_of q.session q.elevated q.filtered in
      let long = facts.loose.pairs_sized in
      let τ = set_pair pair σ in
      let loose = pair_loose σ pair new facts.loose in
      let formed = loose_formed τ loose in
      let old = row_held σ p.control h g ∙ ap (or_else no_pair) (ap (λ (i : ℕ). get_or σ.pairs i free) at ∙ place_before q.session σ.pairs long) in
      let parts : PartsIn τ _ _ (records_in ws) cs' = record {
        handles = handles_same refl p.handles;
        control = subst (λ (μ : State). ControlIn μ cs') (ap (λ (i : ℕ). with_pairs (set σ.pairs i (live pair)) σ) at ∙ pair_placed σ pair long) (k.control σ p.control);
        tokens = tokens_same refl p.tokens;
      } in
      let one = freed_parts τ formed (no_slot ws (ap elevated_token old) f₁) parts in
      let two = freed_parts (freed_one _ τ) (freed_formed _ τ formed) (no_slot ws (ap filtered_token old) f₂) one in
      subst (λ (μ : State). PartsIn μ ts₂ ds₂ (records_in ws) cs') (sym (pair_frees σ pair facts loose)) two;
}
