use Rattle.std.proofs.Common.{sym, ap, ◌∙◌, subst}
use Rattle.chorus_calls.specs.Callers.{Seated, raised}
use Rattle.chorus_turn.specs.Journals.{GrowsBy}
use Rattle.law_machine.specs.PlaceState.{PlaceState, greatest_clock}
use Rattle.law_machine.specs.PlaceMachine.{begun}
use Rattle.law_machine.specs.Replies.{reply}
use Rattle.law_history.specs.declared.turns.Input.{Input}
use Rattle.chorus_world.specs.Places.{last_clock}
use Rattle.chorus_place.specs.Calls.{Place, state}
use Rattle.chorus_board.specs.Boards.{name_of}
use Rattle.chorus_serve.specs.Desks.{seen, in_hand}
use Rattle.chorus_serve.specs.Working.{Performs}
use Rattle.chorus_nucleus.specs.SiteTurns.Sites.{entries, mark}
use Rattle.chorus_nucleus.specs.SiteTurns.Drafts.{meant}
use Rattle.chorus_nucleus.specs.SiteTurns.Jobs.{MayAct}
use Rattle.chorus_nucleus.proofs.SiteTurns.Turning.{grown}
use Rattle.chorus_nucleus.proofs.SiteTurns.Published.{stays-published}
use Rattle.chorus_nucleus.proofs.SiteTurns.Steps.{grows-none, turned-mark, may-act, acted, noted-act, unworn, acted-err}
use Rattle.chorus_nucleus.proofs.site_turns.command_turn.ActsJobSite.run.Goals as goal

pub returns-in-Ok-act-clause-done : goal.returns-in-Ok-act-clause-done
returns-in-Ok-act-clause-done g c =
    let d = seen g.E.Ends.links g.E.Ends.packet c.args.state.now.desk in
    let w = c.args.self.now.caller in (
      c.of-before.ensures ∙ c.place-2.ensures,
      c.in-Ok-act.ensures.performed.called.answer ∙ ap (λ k. reply k (begun (state d.place) w)) c.in-Ok.ensures,
      unworn c.act.result (greatest_clock (begun (state d.place) w)) c.in-Ok-act.reply c.in-Ok-act.is c.act.ensures.worn,
    )

pub returns-in-Ok-act-clause-mark : goal.returns-in-Ok-act-clause-mark
returns-in-Ok-act-clause-mark g c =
    turned-mark (Input.Command c.in-Ok.command) (seen g.E.Ends.links g.E.Ends.packet c.args.state.now.desk) (seen g.E.Ends.links g.E.Ends.packet c.act.new.self) (name_of c.args.state.now.board)
    c.args.self.now.caller c.in-Ok-act.ensures.performed.called.ended.state (ap (λ z. (g.E.Ends.links z).name) c.in-Ok-act.ensures.hands.ends)

pub returns-in-Ok-act-clause-entries : goal.returns-in-Ok-act-clause-entries
returns-in-Ok-act-clause-entries g c =
    let d = seen g.E.Ends.links g.E.Ends.packet c.args.state.now.desk in
    let e = seen g.E.Ends.links g.E.Ends.packet c.act.new.self in
    let w = c.args.self.now.caller in
    let z = name_of c.args.state.now.board in
    let may = subst (λ k. MayAct w k (mark d z)) (sym c.in-Ok.ensures) c.requires.accepts.1 in
    subst (λ q. GrowsBy q (entries d) (entries e)) c.requires.accepts.0
    (grown (Input.Command c.in-Ok.command) d e w c.act.new.caller (may-act d z w c.in-Ok.command may) c.in-Ok-act.ensures.performed.called.ended.state)

pub returns-in-Ok-act-clause-remarks : goal.returns-in-Ok-act-clause-remarks
returns-in-Ok-act-clause-remarks g c = λ log j.
    let d = seen g.E.Ends.links g.E.Ends.packet c.args.state.now.desk in
    let e = seen g.E.Ends.links g.E.Ends.packet c.act.new.self in
    let w = c.args.self.now.caller in
    let x : Seated = c.act.new.caller in
    let z = name_of c.args.state.now.board in
    let k = meant c.args.self.now.draft in
    let done = subst (λ q. Performs q c.in-Ok-act.reply d e w x) c.in-Ok.ensures c.in-Ok-act.ensures.performed in
    let may = may-act d z w k c.requires.accepts.1 in
    let hands = c.in-Ok-act.ensures.hands in
    let got = noted-act k c.of-before.result d e w x (c.of-before.ensures ∙ c.place-2.ensures) log
    (acted d e z w x k c.in-Ok-act.reply c.requires.accepts.1 done (ap g.E.Ends.links hands.ends) (ap (in_hand g.E.Ends.packet) hands.hand) hands.worked log (j.0, j.1.0)) in
    let same = turned-mark (Input.Command k) d e z w done.called.ended.state (ap (λ y. (g.E.Ends.links y).name) hands.ends) in
    (got.0, (got.1.0, (got.1.1, stays-published w.seat d e z c.args.state.now.board same (grown (Input.Command k) d e w x may done.called.ended.state) j.1.1)), got.2)

pub returns-in-Err-act-clause-done : goal.returns-in-Err-act-clause-done
returns-in-Err-act-clause-done g c =
    let d = seen g.E.Ends.links g.E.Ends.packet c.args.state.now.desk in
    let w = c.args.self.now.caller in
    let refused = c.in-Err-act.ensures.refused.0 in
    let at = c.clock.ensures ∙ ap (λ (q : Place). last_clock q.journal) c.place-in-Err-act.ensures ∙ ap (λ (z : PlaceState). last_clock z.journal) refused.state in
    let has = c.see-in-Err-act.ensures ∙ ap (λ n. raised n c.act.new.caller) at ∙ ap (raised (last_clock d.place.journal)) c.in-Err-act.ensures.refused.1 in
    acted-err (meant c.args.self.now.draft) c.in-Err-act.fault c.act.result w c.see-in-Err-act.new.self d c.in-Err-act.is has c.act.ensures.worn

pub returns-in-Err-act-clause-entries : goal.returns-in-Err-act-clause-entries
returns-in-Err-act-clause-entries g c =
    grows-none c.args._seat (seen g.E.Ends.links g.E.Ends.packet c.args.state.now.desk) (seen g.E.Ends.links g.E.Ends.packet c.act.new.self) c.in-Err-act.ensures.refused.0.state
