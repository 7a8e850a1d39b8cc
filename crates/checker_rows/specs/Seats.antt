-- Seats: what the table has of a caller, and what an entry makes of it.
use Rattle.std.specs.Prelude.{ℕ, ◌≡◌, ◌==◌, nat_eq, nat_lt, Bool, true, false, cond, List, [], ◌∷◌, length, Option, Some, None, unwrap_or}
use Rattle.std.specs.Option.{option_or}
use Rattle.std.specs.HashMap.{HashMap, get}
use Rattle.chorus_entry.specs.declared.entry.Entry.{Entry}
use Rattle.chorus_entry.specs.declared.hand.Hand.{Hand}
use Rattle.chorus_entry.specs.declared.tag.Tag.{Tag}
use Rattle.chorus_entry.specs.declared.tag.Tag.TheVariants.{Request}
use Rattle.chorus_entry.specs.declared.dest.Dest.{Dest}
use Rattle.chorus_entry.specs.declared.dest.Dest.TheVariants as D
use Rattle.chorus_entry.specs.declared.act.Act.{Act}
use Rattle.chorus_entry.specs.declared.act.Act.TheVariants.{Post, Accept, Take, Done, Cancel}
use Rattle.chorus_world.specs.Views.{by}
use Rattle.chorus_world.specs.Posts.{tag_of}
use Rattle.chorus_world.specs.Seats.{posts_after, posts, requests_after, requests, call_after, call, Call, call_by, hand, hand_with, hand_without}
use Rattle.checker_rows.specs.declared.seats.SeatRow.{SeatRow}
use Rattle.checker_rows.specs.declared.seats.Stay.{Stay}
use Rattle.checker_rows.specs.declared.seats.Stay.TheVariants.{Nowhere, At, Apart}

abbrev pub no_seat : SeatRow
no_seat = record { posts = 0; stay = Nowhere; requests = 0; call = None; hand = None; first = None }

abbrev pub seat_in : {S : Type 0} → HashMap ℕ SeatRow S → ℕ → SeatRow
seat_in t s = unwrap_or (get nat_eq t s) no_seat

-- where it posted

abbrev pub stay_at : ℕ → Stay → Stay
stay_at p Nowhere = At p
stay_at p (At q) = cond (q == p) (At q) Apart
stay_at p Apart = Apart

abbrev pub stay_after : ℕ → Act → Stay → Stay
stay_after p (Post m d) s = stay_at p s
stay_after p _ s = s

abbrev pub stay : List Entry → Stay
stay [] = Nowhere
stay (e ∷ mine) = stay_after e.place e.act (stay mine)

abbrev pub stays : ℕ → Stay → Bool
stays p Nowhere = true
stays p (At q) = q == p
stays p Apart = false

-- the message that the act takes or accepts has this tag
abbrev pub HasTag : List Entry → Act → Tag → Type 0
HasTag past (Take q n x) tag = tag ≡ tag_of x past
HasTag past (Accept x q n) tag = tag ≡ tag_of x past
HasTag past _ tag = Unit {0}

-- its hand after an act, where the message that it takes has this tag
abbrev pub hand_by : Tag → Act → Option Hand → Option Hand
hand_by tag (Take q n x) h = hand_with x.seat tag h
hand_by tag (Post m d) h = hand_without m.tag h
hand_by tag _ h = h

-- where the first post of its greatest request number stands among all entries, the oldest first

abbrev pub stands : Dest → ℕ → Option ℕ
stands (D.Port q) i = Some i
stands d i = None

abbrev pub first_with : Tag → Dest → ℕ → ℕ → Option ℕ → Option ℕ
first_with (Request n back) d i greatest first =
    cond (nat_lt greatest n) (stands d i) (cond (n == greatest) (option_or first (stands d i)) first)
first_with _ d i greatest first = first

abbrev pub first_after : Act → ℕ → ℕ → Option ℕ → Option ℕ
first_after (Post m d) i greatest first = first_with m.tag d i greatest first
first_after _ i greatest first = first

abbrev pub first_index : ℕ → List Entry → Option ℕ
first_index s [] = None
first_index s (e ∷ past) =
    cond (e.seat == s) (first_after e.act (length past) (requests (by s past)) (first_index s past))
    (first_index s past)

abbrev pub call_of : ℕ → Option Entry → Option Call
call_of n None = None
call_of n (Some e) = call_by n e.act

-- the row

abbrev pub seat_row : List Entry → ℕ → SeatRow
seat_row past s =
    record {
      posts = posts (by s past);
      stay = stay (by s past);
      requests = requests (by s past);
      call = call (by s past);
      hand = hand past (by s past);
      first = first_index s past;
    }

-- after an entry behind i others, where the message that it takes has this tag
abbrev pub seat_here : Tag → ℕ → Entry → SeatRow → SeatRow
seat_here tag i e r =
    record {
      posts = posts_after e.act r.posts;
      stay = stay_after e.place e.act r.stay;
      requests = requests_after e.act r.requests;
      call = call_after e.act r.call;
      hand = hand_by tag e.act r.hand;
      first = first_after e.act i r.requests r.first;
    }

abbrev pub seat_after : ℕ → Tag → ℕ → Entry → SeatRow → SeatRow
seat_after s tag i e r = cond (e.seat == s) (seat_here tag i e r) r

-- the act changes the row
abbrev pub changes_seat : Act → Bool
changes_seat (Post m d) = true
changes_seat (Take q n x) = true
changes_seat (Done n) = true
changes_seat (Cancel n) = true
changes_seat _ = false

-- the callers after it
abbrev pub SeatsAfter : Tag → ℕ → Entry → (ℕ → SeatRow) → (ℕ → SeatRow) → Type 0
SeatsAfter tag i e old new = (s : ℕ) → new s ≡ seat_after s tag i e (old s)
