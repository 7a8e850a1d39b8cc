use Rattle.std.proofs.Common.{◌∙◌, length, refl, sym, ap, subst, inl, inr, arith}
use Rattle.chorus_net.specs.Sites.{net}
use Rattle.chorus_replay.specs.Performing.{SomeGoes}
use Rattle.chorus_replay.specs.Waiting.{BehindRound, InRound, next_command}
use Rattle.chorus_report.specs.Awaiting.{all_scripts}
use Rattle.chorus_replay.proofs.Going.{counted, may-do, rounds-again, rounds-begin}
use Rattle.chorus_replay.proofs.Rounds.{few-done, round-counted}
use Rattle.chorus_replay.proofs.following.finish.Goals as goal

pub loop-round-init : goal.loop-round-init
loop-round-init c = (rounds-begin c.args.scenario.now c.requires.shape c.requires.keeps c.args.done.now.items (net c.args.sites.now) c.requires.at, inl refl, refl)

pub round-requires-clause-at : goal.round-requires-clause-at
round-requires-clause-at c = c.loop-round.invariant.0

pub returns-in_err-round-clause-mark : goal.returns-in_err-round-clause-mark
returns-in_err-round-clause-mark c = c.in_err-round.ensures.mark ∙ c.loop-round.invariant.2

pub may_any-requires-clause-counted : goal.may_any-requires-clause-counted
may_any-requires-clause-counted c = ap length c.deref.ensures.value ∙ counted c.args.scenario.now c.requires.shape c.requires.keeps BehindRound _ _ c.in_ok-round.ensures.ok

pub may_any-requires-clause-may : goal.may_any-requires-clause-may
may_any-requires-clause-may c = λ k of command next.
    (let scene = c.args.scenario.now in
    may-do scene c.requires.shape c.requires.keeps BehindRound _ _ c.in_ok-round.ensures.ok k of command (ap (λ d. next_command scene d k) (sym c.deref.ensures.value) ∙ next))

pub returns-then-not-may_any-clause-mark : goal.returns-then-not-may_any-clause-mark
returns-then-not-may_any-clause-mark c = c.in_ok-round.ensures.mark ∙ c.loop-round.invariant.2

pub loop-round-preserved : goal.loop-round-preserved
loop-round-preserved c =
    let scene = c.args.scenario.now in
    let n = net c.round.new.sites in
    let some : SomeGoes scene c.round.new.done.items n = subst (λ d. SomeGoes scene d n) c.deref.ensures.value (c.may_any.ensures.some c.if-not-may_any.false) in (
      rounds-again scene c.requires.shape c.requires.keeps c.round.new.done.items n c.in_ok-round.ensures.ok some,
      round-counted scene c.loop-round._round c.loop-round.done.items c.round.new.done.items (net c.loop-round.sites) n c.loop-round.invariant.1 c.in_ok-round.ensures.more some,
      c.in_ok-round.ensures.mark ∙ c.loop-round.invariant.2,
    )

pub unreachable-requires : goal.unreachable-requires
unreachable-requires c =
    let few = few-done c.args.scenario.now c.requires.shape c.requires.keeps (InRound (all_scripts c.args.scenario.now)) _ _ c.loop-round.invariant.0 in
    let over = c.loop-round-test.false in
    elim c.loop-round.invariant.1 [
      | inl e ↦ omega (arith, e, over)
      | inr h ↦ (let le = h.1 in omega (arith, few, over, le))
    ]
