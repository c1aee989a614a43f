-- A station's stream is dropped: its control words and its row of pending bytes. Assumes nothing.
use Prim.Native.Nat.{ℕ, ◌+◌, ◌*◌, ◌-◌, ◌<◌}
use native.Mathlib.Omega.{arith}
use mathlib.Core.Path.{◌≡◌, refl, sym, ap, ap₂, ◌∙◌}
use mathlib.Core.Bool.{false}
use mathlib.Core.List.{List, ◌++◌, append-nil}
use lib.ListN.{length, take, drop, replicate, length-take, drop_of_length-le}
use Rattle.table.specs.Lists.{pad}
use Rattle.table.specs.Table.{nth_record, put_record, length_flat, put_lent, part_at}
use Rattle.rules.specs.Station.{Station, with_pending, cleared}
use Rattle.rules.specs.State.{station_count, station_at}
use Rattle.rules.specs.Memory.{pending_bytes, station_row, pending_row}
use Rattle.rules.proofs.Rows.{length_pending_row}
use Rattle.rules.proofs.Control.{row_put}
use Rattle.control.specs.Stations.{StreamSet}
use Rattle.start.specs.Streams.{StreamDropped}

-- nothing is pending
pub no_pending : (x : Station) → pending_row (cleared x) ≡ replicate pending_bytes 0
unfolding pending_row cleared with_pending pad
no_pending x = refl

-- a row that was lent and cleared whole
cleared_row : (s : ℕ) (ps : List ℕ) {row : List ℕ} → row ≡ replicate pending_bytes 0 ++ drop pending_bytes (nth_record pending_bytes s ps) → row ≡ replicate pending_bytes 0
unfolding nth_record
cleared_row s ps e = e ∙ ap (λ (ws : List ℕ). replicate pending_bytes 0 ++ ws) (drop_of_length-le (take pending_bytes (drop (s * pending_bytes) ps)) {i = pending_bytes} (simp length-take (omega arith))) ∙ append-nil (replicate pending_bytes 0)

pub stream_dropped : (s : ℕ) (cs ps cs' row : List ℕ) → s < station_count → length ps ≡ station_count * pending_bytes → StreamSet s 0 false cs cs'
    → row ≡ replicate pending_bytes 0 ++ drop pending_bytes (take (s * pending_bytes + pending_bytes - s * pending_bytes) (drop (s * pending_bytes) ps))
    → StreamDropped s cs ps cs' (take (s * pending_bytes) ps ++ (row ++ drop (s * pending_bytes + pending_bytes - s * pending_bytes) (drop (s * pending_bytes) ps)))
unfolding station_row cleared with_pending
stream_dropped s cs ps cs' row h l w e = record {
  control = λ σ i. w.control σ cleared (λ x. refl) i;
  pending = λ σ i. record {
    rows =
        put_lent pending_bytes s ps (cleared_row s ps (e ∙ ap (λ (r : List ℕ). replicate pending_bytes 0 ++ drop pending_bytes r) (part_at pending_bytes s ps)))
        ∙ ap₂ (put_record pending_bytes s) (sym (no_pending (station_at σ s))) i.rows
        ∙ row_put pending_row pending_bytes length_pending_row σ s cleared (omega (arith, ap length i.rows, length_flat pending_row pending_bytes length_pending_row σ.stations));
  };
}
