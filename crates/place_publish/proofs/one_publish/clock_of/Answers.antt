use Rattle.std.proofs.Common.{◌≤◌, ◌-◌, ◌+◌, ◌<◌, ◌≡◌, take, length, ap, ◌∙◌, arith}
use Rattle.chorus_board.specs.Located.{last_clock_in}
use Rattle.place_publish.proofs.Copies.{rest}
use Rattle.place_publish.proofs.Growing.{slice-at, clock-none, clock-at}
use Rattle.place_publish.proofs.one_publish.clock_of.Goals as goal

pub returns-then-upto-eq0 : goal.returns-then-upto-eq0
returns-then-upto-eq0 c = clock-none c.args.journal.now c.args.upto c.if-upto-eq0.true

pub returns : goal.returns
returns c =
    let one : 1 ≤ c.args.upto = rest c.args.upto c.if-upto-eq0.false in
    let le = c.requires in
    let lt : c.args.upto - 1 < length c.args.journal.now = omega (arith, one, le) in
    let all : c.args.upto - 1 + 1 ≡ c.args.upto = omega (arith, one) in
    clock-at c.args.journal.now (c.args.upto - 1) c.in-Some.entry.now (slice-at c.args.journal.now (c.args.upto - 1) c.in-Some.entry.now lt c.in-Some.ensures.lookup.1)
    ∙ ap (λ n. last_clock_in (take n c.args.journal.now)) all
