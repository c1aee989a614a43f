-- A chunk on valid memory: the parts and the station's row after it hold what the model says. Assumes nothing.
use Prim.Native.Nat.{ℕ, ◌+◌, ◌*◌, ◌-◌, ◌≤◌, ◌<◌}
use native.Mathlib.Omega.{arith}
use mathlib.Core.Path.{◌≡◌, refl, sym, ap, ap₂, subst, ◌∙◌}
use mathlib.Core.Bool.{Bool, true, false}
use mathlib.Core.List.{List, [], ◌∷◌, ◌++◌}
use lib.ListN.{length, take, drop, get_or, replicate}
use lib.Seq.{length-take-le}
use Rattle.std.specs.Prelude.{None}
use Rattle.table.specs.Lists.{pad, take_pad}
use Rattle.table.specs.Table.{flat, nth_record, put_record, record_flat, put_back, part_at, put_lent}
use Rattle.rules.specs.Basic.{all, implies, is_empty}
use Rattle.rules.specs.Number.{encode, encode_in, low_first}
use Rattle.rules.specs.Frame as Frame
use Rattle.rules.specs.Frame.{frame, framed, framed_by, length_of}
use Rattle.rules.specs.Refusal.{stream_broken}
use Rattle.rules.specs.Station.{Station, start_station, with_pending, cleared, broken_off}
use Rattle.rules.specs.State.{State, station_count, with_stations, station_at, change_station}
use Rattle.rules.specs.Valid.{is_part, stream_valid, valid}
use Rattle.rules.specs.Memory as Memory
use Rattle.rules.specs.Memory.{pending_bytes, slot_handle, station_row, pending_row, decode}
use Rattle.rules.specs.Model.{fed_from}
use Rattle.rules.specs.Calls.{written, buffer}
use Rattle.rules.proofs.Logic.{and_l, and_r, get_or_mem}
use Rattle.rules.proofs.Facts.{valid_facts, facts_valid}
use Rattle.rules.proofs.Changes.{only_cleared, stream_facts}
use Rattle.rules.proofs.Memory.{valid_state}
use Rattle.rules.proofs.Rows.{length_pending_row, part_short}
use Rattle.rules.proofs.Control.{row_put}
use Rattle.handle.specs.Words.{records_in}
use Rattle.handle.specs.declared.Handle.{Handle}
use Rattle.control.specs.Stations.{StreamGiven, stream_row, StreamSet}
use Rattle.control.specs.declared.stations.Stream.{Stream}
use Rattle.state.specs.declared.parts.Parts.{Parts}
use Rattle.state.specs.HandleFacts.{changed}
use Rattle.state.specs.ReleaseFacts.{PartsIn}
use Rattle.stream.specs.Join.{Stop, stopped}
use Rattle.stream.specs.Meaning.{framed_of, Starts, stop_of, Joined}
use Rattle.stream.specs.declared.Framed.TheVariants as code
use Rattle.stream.specs.declared.Stopped.{Stopped}
use Rattle.stream.proofs.Feeding.{stop_at, stream_eaten, fed_part, fed_broken, fed_whole}
use Rattle.lists.proofs.Cuts.{drop_take}
use Rattle.valid.specs.Meaning.{memory_of}
use Rattle.serve.specs.Served.{Held, BodyServed}
use Rattle.serve.specs.declared.Reply.{Reply}
use Rattle.answer.specs.Answer.{WroteFrame}
use Rattle.calls.specs.Accepted.{quiet, zeroed, body, PartKept, BrokenOff, FrameServed, RowHeld, RowFed, Accepted}
use Rattle.calls.specs.declared.Turn.{Turn}
use Rattle.start.proofs.Dropping.{no_pending}
use Rattle.start.proofs.Parts.{written_as, held_parts, held_pending}
use Rattle.calls.proofs.StreamsKept.{served_rows}
use Rattle.calls.proofs.PendingRows.{joined_longer, row_joined, row_zeroed}

-- ---- a station's stream changed, in a state and in its parts

pub cleared_valid : (σ : State) (s : ℕ) → valid σ ≡ true → valid (change_station s cleared σ) ≡ true
unfolding cleared with_pending stream_valid all is_part framed framed_by length_of implies is_empty
cleared_valid σ s v = facts_valid (change_station s cleared σ) (stream_facts σ s cleared only_cleared (λ x m. refl) (valid_facts σ v))

parts_set : {s n : ℕ} {b : Bool} {hs : List Handle} {cs ts ds cs' : List ℕ} → StreamSet s n b cs cs' → (σ : State) (f : Station → Station)
    → ((x : Station) → station_row (f x) ≡ stream_row n b (station_row x)) → PartsIn σ ts ds hs cs → PartsIn (change_station s f σ) ts ds hs cs'
unfolding change_station with_stations
parts_set w σ f q p = record {
  handles = record { records = p.handles.records };
  control = w.control σ f q p.control;
  tokens = record { words = p.tokens.words; bytes = p.tokens.bytes };
}

parts_cleared : {s : ℕ} {hs : List Handle} {cs ts ds cs' : List ℕ} → StreamSet s 0 false cs cs' → (σ : State) → PartsIn σ ts ds hs cs → PartsIn (change_station s cleared σ) ts ds hs cs'
unfolding station_row cleared with_pending
parts_cleared w σ p = parts_set w σ cleared (λ x. refl) p

pub held_cleared : {s : ℕ} {hs : List Handle} {cs ts ds cs' : List ℕ} → StreamSet s 0 false cs cs' → Held ts ds hs cs → Held ts ds hs cs'
held_cleared {s} w k = record { state = change_station s cleared k.state; is_valid = cleared_valid k.state s k.is_valid; parts = parts_cleared w k.state k.parts }

-- ---- a frame's body is served

pub frame_served : {s start count used : ℕ} {p q : Parts} {cs row out row' out' : List ℕ} {r : Reply} → StreamSet s 0 false cs p.control.now
    → BodyServed s (take (count - start) (drop start row)) p q out out' r → row' ≡ zeroed count row
    → FrameServed s start count used p.tokens.now p.dacls.now (records_in p.handles.now) cs row out q.tokens.now q.dacls.now q.control.now row' out' (record { used = used; answered = r.written; change = r.change })
frame_served {s} w b e = record {
  used = refl;
  emptied = e;
  parts = λ σ v p. b.parts (change_station s cleared σ) (cleared_valid σ s v) (parts_cleared w σ p);
  answer = λ σ v p. b.answer (change_station s cleared σ) (cleared_valid σ s v) (parts_cleared w σ p);
}

-- ---- the stream breaks

pub broken_off_lem : {s count used n : ℕ} {cs row out cs' row' out' : List ℕ} → row' ≡ zeroed count row → StreamSet s 0 true cs cs' → WroteFrame (stream_broken ∷ []) out out' n
    → BrokenOff s count used cs row out cs' row' out' (record { used = used; answered = n; change = None })
unfolding frame encode encode_in low_first
broken_off_lem {used = used} e w a = record {
  turn = ap (λ (k : ℕ). record { used = used; answered = k; change = None }) a.size;
  control = w;
  emptied = e;
  answer = a.bytes;
}

-- ---- what a valid state gives

module _ (σ : State) (v : valid σ ≡ true) where
  station_count_lem : length σ.stations ≡ station_count
  station_count_lem = (valid_facts σ v).loose.stations

  module _ (s : ℕ) (h : s < station_count) where
    inside : s < length σ.stations
    inside = rw station_count_lem h

    stream_valid_lem : stream_valid (station_at σ s) ≡ true
    unfolding station_at
    stream_valid_lem = (valid_facts σ v).loose.each_station (get_or σ.stations s start_station) (get_or_mem σ.stations s start_station inside)

    short : length (station_at σ s).pending < pending_bytes
    unfolding stream_valid
    short = let e = stream_valid_lem in part_short (station_at σ s).pending (search (and_l, and_r))

    -- the station's own row is put back
    row_back : put_record pending_bytes s (pending_row (station_at σ s)) (flat pending_row σ.stations) ≡ flat pending_row σ.stations
    unfolding station_at
    row_back = put_back pending_row pending_bytes length_pending_row s σ.stations start_station inside

    -- a row of zeros is put
    row_emptied : (f : Station → Station) → ((x : Station) → (f x).pending ≡ []) → put_record pending_bytes s (replicate pending_bytes 0) (flat pending_row σ.stations) ≡ flat pending_row (change_station s f σ).stations
    unfolding pending_row cleared with_pending
    row_emptied f e = ap (λ (r : List ℕ). put_record pending_bytes s r (flat pending_row σ.stations)) (sym (no_pending (station_at σ s)) ∙ ap (pad pending_bytes) (sym (e (station_at σ s)))) ∙ row_put pending_row pending_bytes length_pending_row σ s f inside

-- ---- what join asks

module _ {s : ℕ} {hs : List Handle} {cs ts ds row : List ℕ} (k : RowHeld s ts ds hs cs row) where
  pub held_row : Held ts ds hs cs
  held_row = record { state = k.state; is_valid = k.is_valid; parts = k.parts }

  pub count_short : (g : Stream) → s < station_count → StreamGiven s cs g → g.count < pending_bytes
  count_short g h i = rw (i.count k.state k.parts.control) (short k.state k.is_valid s h)

-- what the joined bytes are asked for

module _ {chunk row row₁ : List ℕ} {n : ℕ} {r : Stopped} (j : Joined chunk row n row₁ r) where
  pub count_fits : length row ≡ pending_bytes → length row₁ ≡ length row → r.count ≤ length row₁
  count_fits e l = omega (arith, j.fits)

  pub start_fits : {start : ℕ} → r.what ≡ code.Whole start → start ≤ r.count
  start_fits q = (subst (Starts r.count) q j.bounds).1

-- ---- a chunk

module _ (s : ℕ) (chunk : List ℕ) {hs : List Handle} {cs ts ds row : List ℕ} (g : Stream) (h : s < station_count) (i : StreamGiven s cs g) where
  -- the stream is broken
  pub chunk_eaten : {out : List ℕ} {u : Turn} → g.broken ≡ true → u ≡ quiet (length chunk) → RowFed s chunk ts ds hs cs row out ts ds cs row out u
  unfolding buffer
  chunk_eaten b q = record {
    fed = λ σ v p e. rw (stream_eaten σ s chunk (sym (i.broken σ p.control) ∙ b), q) (record {
      refusal = refl;
      used = refl;
      answered = refl;
      answer = refl;
      parts = p;
      pending = ap (λ (r : List ℕ). put_record pending_bytes s r (flat pending_row σ.stations)) e ∙ row_back σ v s h;
    });
  }

  module _ (intact : g.broken ≡ false) {row₁ : List ℕ} (r : Stopped) (j : Joined chunk row g.count row₁ r) (l : length row₁ ≡ length row) where
    module _ (σ : State) (v : valid σ ≡ true) (p : PartsIn σ ts ds hs cs) (e : row ≡ pending_row (station_at σ s)) where
      unbroken : (station_at σ s).is_broken ≡ false
      unbroken = sym (i.broken σ p.control) ∙ intact

      before : take g.count row ≡ (station_at σ s).pending
      unfolding pending_row
      before = ap₂ (λ (n : ℕ) (x : List ℕ). take n x) (i.count σ p.control) e ∙ take_pad pending_bytes (station_at σ s).pending (omega (arith, short σ v s h))

      stop : stop_of row₁ r ≡ stop_at σ s chunk
      stop = j.means ∙ ap (λ (x : List ℕ). stopped x chunk) before

      joined_bytes : take r.count row₁ ≡ (stop_at σ s chunk).joined
      joined_bytes = ap (λ (x : Stop). x.joined) stop

      joined_count : length (stop_at σ s chunk).joined ≡ r.count
      joined_count = ap length (sym joined_bytes) ∙ length-take-le r.count row₁ (omega (arith, j.fits, ap length e, length_pending_row (station_at σ s)))

      after : row₁ ≡ (stop_at σ s chunk).joined ++ drop r.count (pad pending_bytes (station_at σ s).pending)
      unfolding pending_row
      after = j.row ∙ ap₂ (λ (x y : List ℕ). (stopped x chunk).joined ++ drop r.count y) before e

      joined_row : row₁ ≡ pad pending_bytes (stop_at σ s chunk).joined
      joined_row = row_joined (station_at σ s).pending (stop_at σ s chunk).joined row₁ r.count (joined_longer (station_at σ s).pending chunk) joined_count j.fits after

      zeroed_row : zeroed r.count row₁ ≡ replicate pending_bytes 0
      zeroed_row = row_zeroed (station_at σ s).pending (stop_at σ s chunk).joined row₁ r.count (joined_longer (station_at σ s).pending chunk) joined_count j.fits after

    pub chunk_joins : r.what ≡ code.Part → {used : ℕ} {cs' out : List ℕ} {u : Turn} → PartKept s r.count used cs cs' u → used ≡ r.used
        → RowFed s chunk ts ds hs cs row out ts ds cs' row₁ out u
    unfolding buffer station_row pending_row with_pending
    chunk_joins q w d = record {
      fed = λ σ v p e.
          let t = stop σ v p e in
          rw (fed_part σ s (inside σ v s h) (unbroken σ v p e) chunk (sym (ap (λ x. x.what) t) ∙ ap (framed_of row₁ r.count) q), w.turn) (record {
            refusal = refl;
            used = d ∙ ap (λ x. x.used) t;
            answered = refl;
            answer = refl;
            parts = parts_set w.control σ (with_pending (stop_at σ s chunk).joined) (λ x. ap (λ (n : ℕ). stream_row n false (station_row x)) (joined_count σ v p e)) p;
            pending =
                ap (λ (x : List ℕ). put_record pending_bytes s x (flat pending_row σ.stations)) (joined_row σ v p e)
                ∙ row_put pending_row pending_bytes length_pending_row σ s (with_pending (stop_at σ s chunk).joined) (inside σ v s h);
          });
    }

    -- the parts, the row and the buffer are as they were
    pub part_fed : r.what ≡ code.Part → {ts' ds' cs' row' out out' : List ℕ} {u : Turn} → PartKept s r.count r.used cs cs' u → ts' ≡ ts → ds' ≡ ds → row' ≡ row₁ → out' ≡ out
        → RowFed s chunk ts ds hs cs row out ts' ds' cs' row' out' u
    part_fed q w et ed er eo = rw (et, ed, er, eo) (chunk_joins q w refl)

    pub chunk_breaks : r.what ≡ code.Broken → {out cs' row' out' : List ℕ} {u : Turn} → BrokenOff s r.count r.used cs row₁ out cs' row' out' u
        → RowFed s chunk ts ds hs cs row out ts ds cs' row' out' u
    unfolding buffer frame encode encode_in low_first station_row broken_off
    chunk_breaks q w = record {
      fed = λ σ v p e.
          let t = stop σ v p e in
          rw (fed_broken σ s (inside σ v s h) (unbroken σ v p e) chunk (sym (ap (λ x. x.what) t) ∙ ap (framed_of row₁ r.count) q), w.turn) (record {
            refusal = refl;
            used = ap (λ x. x.used) t;
            answered = refl;
            answer = w.answer;
            parts = parts_set w.control σ broken_off (λ x. refl) p;
            pending =
                ap (λ (x : List ℕ). put_record pending_bytes s x (flat pending_row σ.stations)) (w.emptied ∙ zeroed_row σ v p e)
                ∙ row_emptied σ v s h broken_off (λ x. refl);
          });
    }

    -- the tokens and DACLs are as they were
    pub broken_fed : r.what ≡ code.Broken → {ts' ds' cs' row' out out' : List ℕ} {u : Turn} → BrokenOff s r.count r.used cs row₁ out cs' row' out' u → ts' ≡ ts → ds' ≡ ds
        → RowFed s chunk ts ds hs cs row out ts' ds' cs' row' out' u
    broken_fed q w et ed = rw (et, ed) (chunk_breaks q w)

    pub chunk_serves : (start : ℕ) → r.what ≡ code.Whole start → {out cs' ts' ds' row' out' : List ℕ} {u : Turn}
        → FrameServed s start r.count r.used ts ds hs cs row₁ out ts' ds' cs' row' out' u
        → RowFed s chunk ts ds hs cs row out ts' ds' cs' row' out' u
    unfolding buffer cleared with_pending
    chunk_serves start q w = record {
      fed = λ σ v p e.
          let t = stop σ v p e in
          let b : (stop_at σ s chunk).what ≡ Frame.whole (body start r.count row₁) = sym (ap (λ x. x.what) t) ∙ ap (framed_of row₁ r.count) q ∙ ap Frame.whole (drop_take start r.count row₁) in
          rw (fed_whole σ s (inside σ v s h) (unbroken σ v p e) chunk (body start r.count row₁) b) (record {
            refusal = refl;
            used = w.used ∙ ap (λ x. x.used) t;
            answered = (w.answer σ v p).size;
            answer = (w.answer σ v p).bytes;
            parts = w.parts σ v p;
            pending =
                ap (λ (x : List ℕ). put_record pending_bytes s x (flat pending_row σ.stations)) (w.emptied ∙ zeroed_row σ v p e)
                ∙ row_emptied σ v s h cleared (λ x. refl)
                ∙ sym (served_rows (change_station s cleared σ) s (body start r.count row₁));
          });
    }

-- ---- valid memory

module _ (s : ℕ) (hs : List Handle) (ts ds cs ps : List ℕ) (h : s < station_count) (v : Memory.valid (memory_of ts ds hs cs ps) ≡ true) where
  abbrev held : State
  held = decode (memory_of ts ds hs cs ps)

  abbrev lent : List ℕ
  lent = take (s * pending_bytes + pending_bytes - s * pending_bytes) (drop (s * pending_bytes) ps)

  state_valid : valid held ≡ true
  state_valid = valid_state (memory_of ts ds hs cs ps) v

  lent_row : lent ≡ pending_row (station_at held s)
  unfolding station_at
  lent_row =
      part_at pending_bytes s ps
      ∙ ap (nth_record pending_bytes s) (held_pending ts ds hs cs ps v).rows
      ∙ record_flat pending_row pending_bytes length_pending_row s held.stations start_station (inside held state_valid s h)

  pub lent_long : length lent ≡ pending_bytes
  lent_long = ap length lent_row ∙ length_pending_row (station_at held s)

  pub row_held : RowHeld s ts ds hs cs lent
  row_held = record { state = held; is_valid = state_valid; parts = held_parts ts ds hs cs ps v; pending = lent_row }

  pub accepts : {chunk out cs' ts' ds' row' out' : List ℕ} {u : Turn} → RowFed s chunk ts ds hs cs lent out ts' ds' cs' row' out' u
      → Accepted s chunk ts ds hs cs ps out ts' ds' cs' (take (s * pending_bytes) ps ++ (row' ++ drop (s * pending_bytes + pending_bytes - s * pending_bytes) (drop (s * pending_bytes) ps))) out' u
  unfolding written
  accepts {chunk} {out} {cs'} {ts'} {ds'} {row'} {out'} {u} r =
      let f = r.fed held state_valid (held_parts ts ds hs cs ps v) lent_row in
      record {
        fed = record {
          refusal = f.refusal;
          used = f.used;
          answered = f.answered;
          answer = f.answer;
          memory =
              written_as ts' ds' (changed hs u.change) cs' _ (fed_from 0 s chunk held).after f.parts
              (record { rows = put_lent pending_bytes s ps refl ∙ ap (put_record pending_bytes s row') (held_pending ts ds hs cs ps v).rows ∙ f.pending });
        };
      }
