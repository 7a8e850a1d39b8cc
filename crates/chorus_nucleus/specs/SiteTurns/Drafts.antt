-- What a draft means.
use Rattle.chorus_entry.specs.declared.command.Command.{Command}
use Rattle.chorus_entry.specs.declared.command.Command.TheVariants as commands
use Rattle.chorus_nucleus.specs.declared.site_turns.draft.Draft.{Draft}
use Rattle.chorus_nucleus.specs.declared.site_turns.draft.Draft.TheVariants as drafts

abbrev pub meant : Draft → Command
meant (drafts.Whole c) = c.now
meant (drafts.Send dest body) = commands.Send dest.now body.now
meant (drafts.Call port back body) = commands.Call port back body.now
meant (drafts.Reply body) = commands.Reply body.now
