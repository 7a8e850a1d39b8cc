use Rattle.std.proofs.Common.{[], sym}
use Rattle.chorus_scene.proofs.Tables.{counts_made, counts_none}
use Rattle.chorus_scene.proofs.setup.Setup.has_made.Goals as goal

pub returns : goal.returns
returns c =
    let h = c.requires.tables in
    let u = c.args.ui in
    let l = c.args.layout in
    let known = counts_made l [] c.args.self.now.lines.items c.stride.ensures.shape.turns_from_one (counts_none l) u c.requires.kind c.number-2.ensures.name.number_from_one in
    rw (c.from.ensures, c.count_at-at.ensures.value, c.stride.ensures.value, c.kind.ensures, c.kind-2.ensures, c.site.ensures.value, c.number.ensures.value, c.number-2.ensures.value, h.counts u.kind u.site u.number c.requires.kind c.site.ensures.name.site_from_one c.requires.site) (sym known)
