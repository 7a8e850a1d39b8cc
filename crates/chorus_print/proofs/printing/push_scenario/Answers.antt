use Rattle.std.proofs.Common.{◌≡◌, ap, ◌∙◌, ◌++◌, ◌∷◌, [], sym, length, map}
use Rattle.std.specs.Prelude.{codes}
use Rattle.std.specs.List.{flat_map}
use Rattle.chorus_scene.specs.Print.{all_ended, version_text, sites_text, said_texts, script_texts, claim_text, step_text}
use Rattle.chorus_print.proofs.PrintedLines.{length-names_said, printed_parts}
use Rattle.chorus_print.proofs.printing.push_scenario.Goals as goal

pub push_setup-requires : goal.push_setup-requires
push_setup-requires c =
    let s = c.args.scenario.now in
    ap length c.names-names.ensures.names ∙ length-names_said s.layout [] s.setup ∙ ap length (sym c.setup.ensures)

pub returns-clause-text : goal.returns-clause-text
returns-clause-text c =
    let s = c.args.scenario.now in
    let start = c.args.out.now.items in
    let names = c.names-names.result.now in
    let parts : c.push_schedule.new.out.items ≡ ((((start ++ all_ended (version_text s.version ∷ sites_text s.sites ∷ [])) ++ all_ended (said_texts names s.setup)) ++ all_ended (flat_map script_texts s.scripts)) ++ all_ended (map claim_text s.claims)) ++ all_ended (codes "schedule" ∷ map step_text s.schedule) =
    c.in_ok-push_schedule.ensures.ok
    ∙ ap (λ ss. c.push_claims.new.out.items ++ all_ended (codes "schedule" ∷ map step_text ss)) c.schedule.ensures
    ∙ ap (λ o. o ++ all_ended (codes "schedule" ∷ map step_text s.schedule)) (c.in_ok-push_claims.ensures.ok
    ∙ ap (λ ks. c.push_scripts.new.out.items ++ all_ended (map claim_text ks)) c.claims.ensures
    ∙ ap (λ o. o ++ all_ended (map claim_text s.claims)) (c.in_ok-push_scripts.ensures.ok
    ∙ ap (λ ss. c.push_setup.new.out.items ++ all_ended (flat_map script_texts ss)) c.scripts.ensures
    ∙ ap (λ o. o ++ all_ended (flat_map script_texts s.scripts)) (c.in_ok-push_setup.ensures.ok
    ∙ ap (λ ls. c.push_head.new.out.items ++ all_ended (said_texts names ls)) c.setup.ensures
    ∙ ap (λ o. o ++ all_ended (said_texts names s.setup)) (c.in_ok-push_head.ensures.ok
    ∙ ap (λ v. start ++ all_ended (version_text v ∷ sites_text c.sites.result ∷ [])) c.version.ensures.value
    ∙ ap (λ n. start ++ all_ended (version_text s.version ∷ sites_text n ∷ [])) c.sites.ensures)))) in
    c.in_ok-extend_from_slice.ensures.items ∙ printed_parts s start c.push_schedule.new.out.items names c.names-names.ensures.names parts
