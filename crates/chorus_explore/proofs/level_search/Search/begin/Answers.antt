use Rattle.std.proofs.Common.{false, [], None, refl, sym, ap, reverse, subst}
use Rattle.law_replay.specs.Shown.{race_of}
use Rattle.chorus_explore.specs.declared.level_search.Search.{Search}
use Rattle.chorus_explore.specs.Classes.{StandsFor}
use Rattle.chorus_explore.specs.Searches.{asks_of}
use Rattle.chorus_explore.specs.Stages.{facts_at}
use Rattle.chorus_explore.proofs.Searching.{first-within, root, root-stands}
use Rattle.chorus_explore.proofs.level_search.Search.begin.Goals as goal

pub returns-clause-begun : goal.returns-clause-begun
returns-clause-begun c =
    let scene = c.args.scenario.now in
    let asked = c.args.asked.now in
    let s : Search = record {
      explored = record { findings = c.new.result; judged = c.in_ok-judged.judged; histories = 0; events = 0; is_cut = false; bound = 0 };
      next = c.new-2.result;
      last = None;
      spare = c.new-3.result;
    } in
    let path = sym (ap reverse c.in_ok-stage.ensures.ok.1) in
    c.in_ok-come_to.ensures.come 0 (root scene asked) (subst (λ h. StandsFor (asks_of asked) (race_of scene) 0 h 1 (root scene asked)) path (root-stands scene asked)) []
    (first-within scene asked s c.new.ensures (c.in_ok-judged.ensures.judged (facts_at scene)) refl refl refl refl c.new-2.ensures.items)
