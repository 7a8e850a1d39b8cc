use Rattle.std.proofs.Common.{◌≡◌, List, map, ◌∙◌, ap, subst}
use Rattle.chorus_claims.specs.Pieces.{Claim}
use Rattle.chorus_claims.specs.Shapes.{claim_of}
use Rattle.chorus_explore.specs.Checked.{facts_in, verdicts_of}
use Rattle.chorus_check.specs.Ends.{AreChecked}
use Rattle.chorus_check.specs.Texts.{check_text}
use Rattle.chorus_check.specs.Words.{checked_of, claims_of}
use Rattle.chorus_check.proofs.Asking.{lead}
use Rattle.chorus_check.proofs.checking.check_claims.Goals as goal

pub returns-clause-checked : goal.returns-clause-checked
returns-clause-checked c =
    let scene = c.args.scenario.now in
    let e = c.in_ok-explored.explored in
    let vs = verdicts_of e in
    let facts = map facts_in e.judged.items in
    let read : c.in-Ok.claims.items ≡ claims_of c.args.scenario.now = c.in-Ok.ensures ∙ ap (map claim_of) c.claims.ensures in
    let checks = subst (λ (ks : List Claim). AreChecked scene ks c.args.schedules e) (c.deref.ensures.value ∙ read) c.in_ok-explored.ensures.checks in
    record {
      explored = e;
      checks = checks;
      is = c.in-Ok-check_text.ensures ∙ ap (λ texts. check_text c.args.schedules e.events texts c.deref-2.result.now vs facts) c.claims-2.ensures
          ∙ ap (λ ks. check_text c.args.schedules e.events scene.claims ks vs facts) (c.deref-2.ensures.value ∙ read) ∙ ap (λ told. check_text c.args.schedules e.events scene.claims (claims_of scene) vs told) (lead scene (claims_of scene) c.args.schedules e checks);
      comes = c.checked_of.ensures ∙ ap (λ ks. checked_of ks vs) (c.deref-3.ensures.value ∙ read);
    }
