-- The tables that are kept over a list of entries, and what is found in the end.
use Rattle.std.specs.Prelude.{◌≡◌, ℕ, Bool, true, List, ◌∷◌, Option, Some, None}
use Rattle.std.specs.List.{flat_map}
use Rattle.chorus_ui.specs.declared.ui.Ui.{Ui}
use Rattle.chorus_ui.specs.declared.layout.Layout.{Layout}
use Rattle.chorus_entry.specs.declared.entry.Entry.{Entry}
use Rattle.judge_seats.specs.declared.seating.SeatIn.{SeatIn}
use Rattle.judge_seats.specs.declared.seating.Seating.{Seating}
use Rattle.judge_seats.specs.declared.seating.Seating.TheVariants.{Run, Out}
use Rattle.judge_seats.specs.declared.seating.Tables.{Tables}
use Rattle.judge_seats.specs.Berths.{berth, berth_in}
use Rattle.judge_seats.specs.Seats.{all_stand, first_out, is_out, is_out_in, may_stand, seat_with, seats_in, seats_of, sits_by, sitting, sitting_in}

-- they have what these entries say
pub record Follow (past : List Entry) (t : Tables) : Type 0 where
  pub berths : (q : Ui) → berth_in t.berths q ≡ berth past q
  pub sittings : (s : ℕ) → sitting_in t.sittings s ≡ sitting past s
  pub outs : (s : ℕ) (a : Ui) → is_out_in t.outs s a ≡ is_out past s a
  pub order : t.order.items ≡ seats_of past

-- the tables follow one entry more, behind others that may stand, and this tells whether it may stand there
pub record Takes (l : Layout) (e : Entry) (old new : Tables) (stands : Bool) : Type 0 where
  pub follow : (past : List Entry) → Follow past old → Follow (e ∷ past) new
  pub tells : (past : List Entry) → Follow past old → all_stand l past ≡ true → stands ≡ may_stand l past e

-- each caller with its actor, by the tables
abbrev pub seats_by : Layout → Tables → List SeatIn
seats_by l t = flat_map (λ s. seat_with s (sits_by l (is_out_in t.outs s) (sitting_in t.sittings s))) t.order.items

-- it tells these callers and actors where no entry is out, or the line of the first that is
abbrev pub Tells : Option ℕ → List SeatIn → Seating → Type 0
Tells out seats (Run sat) = (out ≡ None) × (sat.items ≡ seats)
Tells out seats (Out line) = out ≡ Some line

abbrev pub IsSeating : Layout → List Entry → Seating → Type 0
IsSeating l past seating = Tells (first_out l past) (seats_in l past) seating
