use Rattle.std.proofs.Common.{◌∷◌, [], ◌++◌, List, refl, ◌∙◌, ap}
use Rattle.std.proofs.lemmas.List.{map-append}
use Rattle.std.specs.Global.{Vec}
use Rattle.chorus_entry.specs.declared.entry.Entry.{Entry}
use Rattle.chorus_merge.specs.Steps.{journals_of}
use Rattle.chorus_net.proofs.Renewing.{still-started, with-nothing}
use Rattle.chorus_net.proofs.restarting.restart_place.Goals as goal

pub returns-then-has_nothing-clause-with_place : goal.returns-then-has_nothing-clause-with_place
returns-then-has_nothing-clause-with_place c =
    let old = c.args.closed.now in
    with-nothing c.args.layout c.args.number c.args.place.now old (record { journals = c.push.new.self; rest = old.rest; ports = old.ports; origin = old.origin })
    (record { place = c.requires.is; untouched = c.requires.untouched })
    (c.has_nothing.ensures.entries c.if-has_nothing.true) (c.has_nothing.ensures.packets c.if-has_nothing.true)
    (ap journals_of c.in_ok-push.ensures.items ∙ map-append (λ (j : Vec Entry). j.items) c.args.closed.now.journals.items (c.new.result ∷ [])
    ∙ ap (λ (j : List Entry). journals_of c.args.closed.now.journals.items ++ j ∷ []) c.new.ensures.items)
    refl refl refl

pub returns-then-has_nothing-clause-started : goal.returns-then-has_nothing-clause-started
returns-then-has_nothing-clause-started c =
    still-started c.args.layout c.args.number c.args.place.now (record { place = c.requires.is; untouched = c.requires.untouched })
    (c.has_nothing.ensures.entries c.if-has_nothing.true) (c.has_nothing.ensures.packets c.if-has_nothing.true)
