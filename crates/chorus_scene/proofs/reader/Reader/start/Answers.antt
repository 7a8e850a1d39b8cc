use Rattle.std.proofs.Common.{refl}
use Rattle.chorus_scene.proofs.Opens.{opens}
use Rattle.chorus_scene.proofs.reader.Reader.start.Goals as goal

pub returns-clause-stands : goal.returns-clause-stands
returns-clause-stands c = opens _ (c.in_ok-setup.ensures.tables c.args.layout) refl refl c.new.ensures.items c.new-3.ensures.items c.new-4.ensures.items c.new-5.ensures.items
