use Rattle.std.proofs.Common.{◌≡◌, ◌∙◌, false, true, sym, ap, subst, reverse, take}
use Rattle.judge_seats.specs.Seats.{may_stand, all_stand}
use Rattle.judge_seats.specs.Tables.{Follow}
use Rattle.judge_seats.proofs.Following.{seats_are}
use Rattle.judge_seats.proofs.Ending.{all_of, goes_out, grown, so_long, stands_on}
use Rattle.judge_seats.proofs.Meaning.{stand-none}
use Rattle.judge_seats.proofs.seating.seat_callers.Goals as goal

pub returns-then-not-branch : goal.returns-then-not-branch
returns-then-not-branch c =
    let l = c.args.layout in
    let es = c.args.entries.now in
    let i = c.loop-i.i in
    let e = c.index-entries-i.result in
    let more = grown es i e c.index-entries-i.is c.loop-i-test.true in
    let no : may_stand l (reverse (take i es)) e ≡ false = sym (c.in_ok-take.ensures.tells (reverse (take i es)) c.loop-i.invariant.follow c.loop-i.invariant.stand) ∙ c.if-not-branch.true in
    goes_out l es i e more (so_long es i c.loop-i-test.true) c.loop-i.invariant.stand no

pub loop-i-preserved : goal.loop-i-preserved
loop-i-preserved c =
    let l = c.args.layout in
    let es = c.args.entries.now in
    let i = c.loop-i.i in
    let e = c.index-entries-i.result in
    let more = grown es i e c.index-entries-i.is c.loop-i-test.true in
    let yes : may_stand l (reverse (take i es)) e ≡ true = sym (c.in_ok-take.ensures.tells (reverse (take i es)) c.loop-i.invariant.follow c.loop-i.invariant.stand) ∙ c.if-not-branch.false in
    record {
      follow = subst (λ past. Follow past c.take.new.tables) (sym more) (c.in_ok-take.ensures.follow (reverse (take i es)) c.loop-i.invariant.follow);
      stand = ap (all_stand l) more ∙ stands_on l (reverse (take i es)) e c.loop-i.invariant.stand yes;
    }

pub returns : goal.returns
returns c =
    let l = c.args.layout in
    let es = c.args.entries.now in
    let all = all_of es c.loop-i.i c.loop-i-test.false in
    let follow = subst (λ past. Follow past c.loop-i.tables) all c.loop-i.invariant.follow in (
      stand-none l (reverse es) (ap (all_stand l) (sym all) ∙ c.loop-i.invariant.stand),
      c.in_ok-seats_in.ensures ∙ seats_are l (reverse es) c.loop-i.tables follow,
    )
