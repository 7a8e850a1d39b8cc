use Rattle.std.proofs.Common.{sym, ◌∙◌}
use Rattle.chorus_explore.proofs.alike_sites.journals.are_same_members.Goals as goal

pub returns : goal.returns
returns c = λ e.
    sym (c.groups-mine.ensures.members c.args.group) ∙ sym c.members.ensures.members
    ∙ c.are_same_names-same.ensures e
    ∙ c.members-2.ensures.members ∙ c.groups-theirs.ensures.members c.args.group
