use Rattle.std.proofs.Common.{ap, sym, subst}
use Rattle.place_journal.specs.Counting.{MayFollow}
use Rattle.chorus_place.proofs.tables.entry_and_packet.say.Goals as goal

pub append-requires-clause-follows : goal.append-requires-clause-follows
append-requires-clause-follows c =
    subst (MayFollow c.args.journal.now.layout c.args.journal.now.groups) (sym (ap (λ e. e.act) c.next_entry-entry.ensures)) c.requires.follows
