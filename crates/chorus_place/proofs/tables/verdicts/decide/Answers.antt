use Rattle.std.proofs.Common.{sym, ◌∙◌}
use Rattle.chorus_place.proofs.PlaceTables.Deciding.{decided-table, decided-away, present-of, absent-of}
use Rattle.chorus_place.proofs.tables.verdicts.decide.Goals as goal

pub returns-then-is_some-clause-ports : goal.returns-then-is_some-clause-ports
returns-then-is_some-clause-ports c =
    decided-table c.args.message c.args.port c.args.ports.now c.accept.new.self c.accept.result c.answer_in.result c.accept.ensures.answer
    (present-of _ _ c.get.ensures.value (sym c.is_some.ensures ∙ c.if-is_some.true)) c.accept.ensures.after c.accept.ensures.refused c.answer_in.ensures

pub returns-clause-answer : goal.returns-clause-answer
returns-clause-answer c =
    c.answer_away.ensures
    ∙ decided-away c.args.message c.args.port c.args.only c.args.tried c.args.place c.args.journal.now c.args.hints.now _ c.newest.result
    (absent-of _ _ c.get.ensures.value (sym c.is_some.ensures ∙ c.if-is_some.false)) (sym c.is_deleted.ensures ∙ c.if-is_deleted.false)
    c.newest.ensures.value c.requires.site
