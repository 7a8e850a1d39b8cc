use Rattle.std.proofs.Common.{false, refl}
use Rattle.chorus_explore.specs.declared.level_search.Asked.{Asked}
use Rattle.chorus_explore.proofs.Deciding.{checks-if}
use Rattle.chorus_explore.proofs.checking.check_scenario.Goals as goal

pub returns-clause-checks : goal.returns-clause-checks
returns-clause-checks c =
    let asked : Asked = record { most = c.from.result; claims = c.args.claims; tells = false } in
    checks-if c.args.scenario.now asked c.args.most c.search.result c.from.ensures refl c.search.ensures.over c.search.ensures.carried
