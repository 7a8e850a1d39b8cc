use Rattle.std.proofs.Common.{ap, sym, ◌∙◌, nat_eq}
use Rattle.std.proofs.lemmas.Bool.{eqb-true}
use Rattle.std.specs.HashMap.{get}
use Rattle.checker_rows.specs.Seats.{no_seat, seat_after, seat_here, seat_in}
use Rattle.checker_rows.proofs.Keeping.{put_row}
use Rattle.checker_rows.proofs.SeatLemmas.{seat_apart, seat_own, seat_stays}
use Rattle.checker_rows.proofs.seats.follow_seats.Goals as goal

pub returns-then-changes_seat : goal.returns-then-changes_seat
returns-then-changes_seat c =
    let e = c.args.entry.now in
    put_row nat_eq eqb-true no_seat (λ s r. seat_after s c.args.tag.now c.args.index e r) (get nat_eq c.args.seats.now) (get nat_eq c.put_seat.new.seats) e.seat c.seat_here.result c.put_seat.ensures
    (c.seat_here.ensures ∙ (ap (seat_here c.args.tag.now c.args.index e) c.seat_in-row.ensures ∙ sym (seat_own c.args.tag.now c.args.index e (seat_in c.args.seats.now e.seat))))
    (λ q h r. seat_apart q c.args.tag.now c.args.index e h r)

pub returns-else-changes_seat : goal.returns-else-changes_seat
returns-else-changes_seat c = λ s.
    seat_stays s c.args.tag.now c.args.index c.args.entry.now (sym c.changes_seat.ensures ∙ c.if-changes_seat.false) (seat_in c.args.seats.now s)
