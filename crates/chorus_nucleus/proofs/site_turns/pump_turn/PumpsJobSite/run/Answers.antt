use Rattle.chorus_serve.specs.Desks.{seen}
use Rattle.chorus_nucleus.proofs.SiteTurns.Published.{own-as, published-as, still-published}
use Rattle.chorus_nucleus.proofs.site_turns.pump_turn.PumpsJobSite.run.Goals as goal

pub publish_for-self-requires-clause-board : goal.publish_for-self-requires-clause-board
publish_for-self-requires-clause-board g c =
    let after = c.run.ensures.remarks c.requires.fits.0 c.requires.fits.1 in
    published-as (seen g.E.Ends.links g.E.Ends.packet c.run.new.state.desk) c.run.new.state.board c.place-place.result.now c.layout-layout.result c.number-number.result c.journal.result.now
    c.place-place.ensures c.layout-layout.ensures c.number-number.ensures.value c.journal.ensures after.1.1.1

pub publish_for-self-requires-clause-own : goal.publish_for-self-requires-clause-own
publish_for-self-requires-clause-own g c =
    let after = c.run.ensures.remarks c.requires.fits.0 c.requires.fits.1 in
    own-as (seen g.E.Ends.links g.E.Ends.packet c.run.new.state.desk) _ c.place-place.result.now c.number-number.result c.journal.result.now c.place-place.ensures c.number-number.ensures.value c.journal.ensures after.1.1.0

pub returns-clause-remarks : goal.returns-clause-remarks
returns-clause-remarks g c = λ log j.
    let got = c.run.ensures.remarks log j in (
      got.0,
      (
        got.1.0,
        (
          got.1.1.0,
          still-published (seen g.E.Ends.links g.E.Ends.packet c.run.new.state.desk) c.publish_for-self.new.board c.place-place.result.now c.layout-layout.result c.number-number.result c.journal.result.now
              c.place-place.ensures c.layout-layout.ensures c.number-number.ensures.value c.journal.ensures c.publish_for-self.ensures.board,
        ),
      ),
      got.2,
    )
