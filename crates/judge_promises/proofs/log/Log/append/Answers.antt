use Rattle.std.proofs.Common.{◌≡◌, List, [], ◌∷◌, ◌++◌, None, reverse, sym, ◌∙◌, ap, subst}
use Rattle.std.proofs.lemmas.List.{reverse-append}
use Rattle.chorus_entry.specs.declared.entry.Entry.{Entry}
use Rattle.chorus_world.specs.Ports.{fate}
use Rattle.chorus_world.specs.Steps.{State}
use Rattle.chorus_world.specs.Views.{on}
use Rattle.judge_promises.specs.Breaches.{breach_by}
use Rattle.judge_promises.specs.Tables.{Follows}
use Rattle.judge_promises.specs.Terms.{read}
use Rattle.judge_promises.proofs.Taking.{kept-more, make-fits, take-fits}
use Rattle.judge_promises.proofs.Ties.{same-rows}
use Rattle.judge_promises.proofs.log.Log.append.Goals as goal

pub read-requires-clause-makes : goal.read-requires-clause-makes
read-requires-clause-makes c =
    make-fits c.args.self.now.layout c.args.self.now.past c.args.entry c.requires

pub read-requires-clause-takes : goal.read-requires-clause-takes
read-requires-clause-takes c =
    let past = read (reverse c.self.inside.entries.items) in
    let f = same-rows past c.self.inside.tables c.make_room.new.self c.in_ok-make_room.ensures.rows c.self.invariant.1 in
    λ q g o m.
    take-fits c.args.self.now.layout c.args.self.now.past c.args.entry q g c.requires o
    (ap (λ (w : State). fate (on q (read w.past))) (sym c.self.view_is) ∙ (sym (f.ports q) ∙ m))

pub invariant_of-self-2 : goal.invariant_of-self-2
invariant_of-self-2 c =
    let l = c.self.inside.layout in
    let es = c.self.inside.entries.items in
    let past = reverse es in
    let e = c.args.entry in
    let items : c.push_reserved.new.self.items ≡ es ++ e ∷ [] = c.push_reserved.ensures.items ∙ ap (λ (xs : List Entry). xs ++ e ∷ []) c.in_ok-reserve.ensures.items in
    let none : breach_by l past e ≡ None = ap (λ (w : State). breach_by w.layout w.past e) c.self.view_is ∙ c.requires in
    let f = same-rows (read past) c.self.inside.tables c.make_room.new.self c.in_ok-make_room.ensures.rows c.self.invariant.1 in (
      kept-more l es c.push_reserved.new.self.items e c.self.invariant.0 none items,
      subst (λ p. Follows (read p) c.read.new.self) (sym (ap reverse items ∙ reverse-append es (e ∷ []))) (c.in_ok-read.ensures.ok past f),
    )
