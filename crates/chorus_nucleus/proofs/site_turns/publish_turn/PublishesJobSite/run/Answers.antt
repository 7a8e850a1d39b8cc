use Rattle.chorus_serve.specs.Desks.{seen}
use Rattle.chorus_nucleus.proofs.SiteTurns.Published.{published-as, reader-of}
use Rattle.chorus_nucleus.proofs.site_turns.publish_turn.PublishesJobSite.run.Goals as goal

pub publish_for-requires-clause-board : goal.publish_for-requires-clause-board
publish_for-requires-clause-board g c =
    published-as (seen g.E.Ends.links g.E.Ends.packet c.args.state.now.desk) c.args.state.now.board c.place-place.result.now c.layout-layout.result c.number-number.result c.journal.result.now
    c.place-place.ensures c.layout-layout.ensures c.number-number.ensures.value c.journal.ensures c.requires.fits.1.1.1

pub publish_for-requires-clause-reader : goal.publish_for-requires-clause-reader
publish_for-requires-clause-reader g c =
    reader-of (seen g.E.Ends.links g.E.Ends.packet c.args.state.now.desk) c.args.state.now.board c.args.self.now.reader c.requires.fits.1.1.1 c.requires.accepts
