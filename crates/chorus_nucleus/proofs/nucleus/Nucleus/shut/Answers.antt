use Rattle.std.proofs.Common.{refl}
use Rattle.chorus_turn.specs.Passes.{known, handed}
use Rattle.chorus_nucleus.proofs.Leaving.{many, links-are, closed, told}
use Rattle.chorus_nucleus.proofs.nucleus.Nucleus.shut.Goals as goal

pub returns-in-Ok-clause-ok : goal.returns-in-Ok-clause-ok
returns-in-Ok-clause-ok c =
    let ok = c.in-Ok.ensures.ok in
    let l = c.args.self.layout in
    let handed-in = handed c.args.self.turns in
    let ss = c.in-Ok.sites.items in
    let is = c.requires.pass in
    let v = known c.args.pass.turner in
    let w = c.args.pass.caller in
    record {
      worn = refl;
      behind = is.caller.behind;
      left = ok.0;
      shape = is.sites.shape;
      count = many l handed-in ss is.sites v w is.caller ok.1;
      linked = links-are l handed-in ss is.sites v w is.caller ok.1;
      log = ok.1.log;
      told = λ k d at. told l handed-in ss is.sites v w is.caller ok.1 k d at;
      closed = λ rest ends. closed l handed-in ss is.sites v w is.caller ok.1 rest ends;
    }
