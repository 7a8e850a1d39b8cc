use Rattle.std.proofs.Common.{◌≡◌, sym, ap, ◌∙◌, subst, true}
use Rattle.chorus_ui.specs.Layout.{has_place}
use Rattle.chorus_world.specs.Places.{last_clock}
use Rattle.chorus_place.specs.Calls.{Place}
use Rattle.chorus_board.specs.Boards.{name_of}
use Rattle.chorus_turn.specs.Journals.{GrowsBy}
use Rattle.chorus_serve.specs.Desks.{seen}
use Rattle.chorus_nucleus.specs.SiteTurns.Sites.{entries}
use Rattle.chorus_nucleus.specs.SiteTurns.Jobs.{seen_unless, HasWorked}
use Rattle.chorus_nucleus.specs.SiteTurns.Turning.{NotesFrom}
use Rattle.chorus_nucleus.proofs.SiteTurns.Published.{stays-published}
use Rattle.chorus_nucleus.proofs.SiteTurns.Steps.{served-marks, served-grows, served-goes, served-has, holding}
use Rattle.chorus_nucleus.proofs.site_turns.serve_turn.ServesJobSite.run.Goals as goal

pub returns-clause-done : goal.returns-clause-done
returns-clause-done g c =
    let d = seen g.E.Ends.links g.E.Ends.packet c.args.state.now.desk in
    let e = seen g.E.Ends.links g.E.Ends.packet c.serve-done.new.desk in
    let w = c.args.self.now.caller in
    let x = c.serve-done.new.caller in
    let y = c.see_unless.new.caller in
    let hold = c.is_holding.ensures ∙ holding g.E.Ends.packet c.serve-done.new.desk.hand in
    let at = c.clock-clock.ensures ∙ ap (λ (q : Place). last_clock q.journal) c.place.ensures in
    let shown = subst (λ o. y ≡ seen_unless o c.clock-clock.result x) c.worked_from-self.ensures c.see_unless.ensures in
    let has = served-has c.serve-done.result d e w x y c.clock-clock.result c.is_holding.result at shown hold c.serve-done.ensures.ok c.serve-done.ensures.refused in (
      c.of.ensures ∙ c.place-place.ensures,
      subst (λ o. HasWorked o c.serve-done.result w y d e) (sym c.worked_from-self.ensures) has,
      c.serve-done.ensures.worn,
      c.serve-done.ensures.emptied,
    )

pub returns-clause-mark : goal.returns-clause-mark
returns-clause-mark g c =
    served-marks c.serve-done.result (seen g.E.Ends.links g.E.Ends.packet c.args.state.now.desk) (seen g.E.Ends.links g.E.Ends.packet c.serve-done.new.desk)
    (name_of c.args.state.now.board) c.args.self.now.caller c.serve-done.new.caller c.serve-done.ensures.ok c.serve-done.ensures.refused

pub returns-clause-entries : goal.returns-clause-entries
returns-clause-entries g c =
    let place = subst (λ (q : Place). has_place q.layout q.number ≡ true) c.place-place.ensures c.number-number.ensures.in_layout in
    subst (λ q. GrowsBy q (entries (seen g.E.Ends.links g.E.Ends.packet c.args.state.now.desk)) (entries (seen g.E.Ends.links g.E.Ends.packet c.serve-done.new.desk))) c.requires.accepts
    (served-grows c.serve-done.result (seen g.E.Ends.links g.E.Ends.packet c.args.state.now.desk) (seen g.E.Ends.links g.E.Ends.packet c.serve-done.new.desk) c.args.self.now.caller c.serve-done.new.caller
    place c.serve-done.ensures.ok c.serve-done.ensures.refused)

pub returns-clause-remarks : goal.returns-clause-remarks
returns-clause-remarks g c = λ log j.
    let d = seen g.E.Ends.links g.E.Ends.packet c.args.state.now.desk in
    let e = seen g.E.Ends.links g.E.Ends.packet c.serve-done.new.desk in
    let w = c.args.self.now.caller in
    let z = name_of c.args.state.now.board in
    let place = subst (λ (q : Place). has_place q.layout q.number ≡ true) c.place-place.ensures c.number-number.ensures.in_layout in
    let y = c.see_unless.new.caller in
    let shown = subst (λ o. y ≡ seen_unless o c.clock-clock.result c.serve-done.new.caller) c.worked_from-self.ensures c.see_unless.ensures in
    let got = served-goes c.of.result.value c.serve-done.result d e w c.serve-done.new.caller y c.clock-clock.result c.is_holding.result shown
    (c.is_holding.ensures ∙ holding g.E.Ends.packet c.serve-done.new.desk.hand) (c.of.ensures ∙ c.place-place.ensures) place c.serve-done.ensures.ok c.serve-done.ensures.refused log (j.0, j.1.0) in
    let same = served-marks c.serve-done.result d e z w c.serve-done.new.caller c.serve-done.ensures.ok c.serve-done.ensures.refused in
    let grows = served-grows c.serve-done.result d e w c.serve-done.new.caller place c.serve-done.ensures.ok c.serve-done.ensures.refused in
    (got.0, (got.1.0, (got.1.1, stays-published w.seat d e z c.args.state.now.board same grows j.1.1)), subst (λ o. NotesFrom o c.of.result.value w y got.0) (sym c.worked_from-self.ensures) got.2)
