use Rattle.std.proofs.Common.{◌≡◌, Some, refl, sym, ◌∙◌, ap, subst, IfSome}
use Rattle.chorus_calls.specs.Callers.{raised}
use Rattle.chorus_turn.specs.Passes.{handed}
use Rattle.chorus_board.specs.Located.{located_on, pair_of, IsOfPlace}
use Rattle.chorus_board.specs.Boards.{entries_seen}
use Rattle.chorus_nucleus.specs.Passes.{Reads, IsCallerOf, home_of, known}
use Rattle.chorus_nucleus.specs.Reading.{Locates}
use Rattle.chorus_nucleus.proofs.Threads.{caller-raised}
use Rattle.chorus_nucleus.proofs.Publishing.{reads-same}
use Rattle.chorus_nucleus.proofs.nucleus.Nucleus.locate.Goals as goal

pub returns-in-Some : goal.returns-in-Some
returns-in-Some c =
    let n = c.args.self.now in
    let is = c.requires.pass in
    let home = home_of n.layout c.args.pass.now.caller in
    let had : c.args.pass.now.sight.reader ≡ Some c.in-Some.own = sym c.take.ensures.value ∙ c.in-Some.is in
    let own : Reads n.layout (handed n.turns) home c.in-Some.own = subst (λ o. IfSome o (λ r. Reads n.layout (handed n.turns) home r)) had is.sight.own in
    let read = c.newest-found.new.self in
    let told = c.newest-found.ensures in
    record {
      pass = record {
        sites = is.sites;
        turner = is.turner;
        caller = subst (IsCallerOf n.layout (known c.args.pass.now)) (sym c.see.ensures) (caller-raised n.layout c.clock.result (known c.args.pass.now) c.args.pass.now.caller is.caller);
        sight = record {
          own = subst (λ w. Reads n.layout (handed n.turns) (home_of n.layout w) read) (sym c.see.ensures) (reads-same n.layout (handed n.turns) home c.in-Some.own read told.on.reader own);
          spare = is.sight.spare;
          rows = is.sight.rows;
          none = is.sight.none;
        };
      };
      knows = refl;
      caller = c.see.ensures ∙ ap (λ k. raised k c.args.pass.now.caller) c.clock.ensures;
      worn = refl;
      found = subst (λ o. Locates n.layout home c.args.port o (Some read) c.newest-found.result) (sym had)
          (told.on.begins, subst (λ k. IsOfPlace k (entries_seen read)) own.place told.of_place, told.located ∙ ap (λ k. pair_of (located_on k (entries_seen read) c.args.port)) own.layout, told.upto);
      full = tt;
      readers = λ q. refl;
    }
