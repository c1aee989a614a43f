-- A word of a station's row, read and stored. Assumes nothing.
use Prim.Native.Nat.{ℕ, ◌+◌, ◌*◌, ◌<◌}
use native.Mathlib.Omega.{arith}
use mathlib.Core.Path.{◌≡◌, refl, sym, ap, ◌∙◌}
use mathlib.Core.Bool.{Bool, true, false}
use mathlib.Core.List.{List}
use mir.Val.{bool_byte}
use lib.Dec.{eqb}
use lib.ListN.{length, get_or, set}
use Rattle.table.specs.Table.{flat, length_flat, record_element, record_flat}
use Rattle.table.specs.Sections.{section_long, section_word}
use Rattle.rules.specs.Station.{Station, start_station, with_token, with_client}
use Rattle.rules.specs.State.{State, station_count, with_stations, station_at, change_station, set_token, client_at, set_client, caller_number}
use Rattle.rules.specs.Memory.{station_words, primary_word, count_word, broken_word, client_word, level_word, station_section, control_sizes, station_word_at, mark, station_row, sections}
use Rattle.rules.proofs.Rows.{length_station_row}
use Rattle.rules.proofs.Control.{row_put}
use Rattle.control.specs.Control.{ControlIn}
use Rattle.control.specs.Stations.{WordGiven, CallerNumber, TokenSet, ClientGiven, ClientSet, StreamGiven, StreamSet}
use Rattle.control.proofs.SectionRows.{RowIn, own_row, row_stored}

-- ---- reading

module _ {ws : List ℕ} (σ : State) (i : ControlIn σ ws) where
  pub station_count_lem : length σ.stations ≡ station_count
  unfolding sections
  station_count_lem = omega (arith, section_long i.words station_section, length_flat station_row station_words length_station_row σ.stations)

  station_word : (s k : ℕ) → s < station_count → k < station_words → get_or ws (station_word_at s k) 0 ≡ get_or (station_row (station_at σ s)) k 0
  unfolding sections station_at
  station_word s k h l =
      section_word i.words station_section (s * station_words + k) 0 (omega arith)
      ∙ record_element station_words s k (flat station_row σ.stations) 0 l
      ∙ ap (λ (row : List ℕ). get_or row k 0) (record_flat station_row station_words length_station_row s σ.stations start_station (omega (arith, station_count_lem)))

pub word_given : (s k : ℕ) (ws : List ℕ) {at : ℕ} → s < station_count → k < station_words → at ≡ station_word_at s k → WordGiven s k ws (get_or ws at 0)
word_given s k ws h l e = record { word = λ σ i. ap (λ (j : ℕ). get_or ws j 0) e ∙ station_word σ i s k h l }

pub caller_number_lem : (s : ℕ) {ws : List ℕ} {r : ℕ} → WordGiven s primary_word ws r → CallerNumber s ws r
unfolding caller_number station_row
caller_number_lem s w = record { number = w.word }

pub client_given : (s : ℕ) {ws : List ℕ} {t l : ℕ} → WordGiven s client_word ws t → WordGiven s level_word ws l → ClientGiven s ws (record { token = t; level = l })
unfolding client_at station_row
client_given s c d = record { client = λ σ i j. record { token = c.word σ i j; level = d.word σ i j } }

is_mark : (b : Bool) → eqb (mark b) 1 ≡ b
unfolding mark
is_mark true = refl
is_mark false = refl

pub stream_given : (s : ℕ) {ws : List ℕ} {n m b : ℕ} → WordGiven s count_word ws n → WordGiven s broken_word ws b → m ≡ n
    → StreamGiven s ws (record { count = m; broken = eqb b 1 })
unfolding station_row
stream_given s c d e = record {
  count = λ σ i. e ∙ c.word σ i;
  broken = λ σ i. ap (λ (w : ℕ). eqb w 1) (d.word σ i) ∙ is_mark (station_at σ s).is_broken;
}

-- ---- storing

-- the words of a state, with another row for station s
abbrev RowOf : State → ℕ → List ℕ → List ℕ → Type 0
RowOf σ s row ws = RowIn station_row station_words control_sizes (sections σ) station_section σ.stations s row ws

module _ (s : ℕ) (h : s < station_count) where
  own : {ws : List ℕ} (σ : State) → ControlIn σ ws → RowOf σ s (station_row (station_at σ s)) ws
  unfolding sections station_at
  own {ws} σ i =
      let n = station_count_lem σ i in
      own_row station_row station_words length_station_row station_section σ.stations s start_station i.words refl (omega arith) (omega arith)
      (omega (arith, length_flat station_row station_words length_station_row σ.stations)) (omega arith)

  row_changed : {row ws : List ℕ} (σ : State) (f : Station → Station) → row ≡ station_row (f (station_at σ s)) → RowOf σ s row ws → ControlIn (change_station s f σ) ws
  unfolding sections change_station with_stations
  row_changed σ f e r = record {
    words = rw (e, row_put station_row station_words length_station_row σ s f r.among) at r.words;
  }

  pub token_set : (n : ℕ) {ws ws' : List ℕ} → ws' ≡ set ws (station_word_at s primary_word) n → TokenSet s n ws ws'
  unfolding set_token station_row with_token
  token_set n {ws} e = record {
    control = λ σ i. rw e (row_changed σ (with_token n) refl (row_stored primary_word n (omega arith) (own σ i)));
  }

  pub client_set : (t l : ℕ) {ws ws₁ ws₂ : List ℕ} → ws₁ ≡ set ws (station_word_at s client_word) t → ws₂ ≡ set ws₁ (station_word_at s level_word) l → ClientSet s t l ws ws₂
  unfolding set_client station_row with_client
  client_set t l d e = record {
    control = λ σ i.
        rw (e, d) (row_changed σ (with_client (record { token = t; level = l })) refl (row_stored level_word l (omega arith) (row_stored client_word t (omega arith) (own σ i))));
  }

  byte_mark : (b : Bool) → bool_byte b ≡ mark b
  unfolding mark
  byte_mark true = refl
  byte_mark false = refl

  pub stream_set : (n : ℕ) (b : Bool) {ws ws₁ ws₂ : List ℕ} → ws₁ ≡ set ws (station_word_at s count_word) n → ws₂ ≡ set ws₁ (station_word_at s broken_word) (bool_byte b)
      → StreamSet s n b ws ws₂
  stream_set n b d e = record {
    control = λ σ f q i.
        rw (e, d, byte_mark b) (row_changed σ f (sym (q (station_at σ s))) (row_stored broken_word (mark b) (omega arith) (row_stored count_word n (omega arith) (own σ i))));
  }
