use Rattle.std.proofs.Common.{ℕ, ◌≤◌, Option, Some, sym, ◌∙◌, ap, subst}
use Rattle.std.specs.Option.{option_map}
use Rattle.std.proofs.lemmas.Result.{err_from_is_err_and}
use Rattle.chorus_ui.specs.declared.limits.TheConstants.{CLOCK_LIMIT}
use Rattle.chorus_entry.specs.declared.act.Act.{Act}
use Rattle.chorus_entry.specs.declared.command.Command.{Command}
use Rattle.law_network.specs.Calls.{compared}
use Rattle.law_network.specs.Network.{replied}
use Rattle.chorus_net.specs.Sites.{net}
use Rattle.chorus_explore.specs.Tellings.{settles_in}
use Rattle.chorus_explore.proofs.Entering.{exit}
use Rattle.chorus_explore.proofs.race_sites.act_at.Goals as goal

pub returns-in_err-reply-clause-worn : goal.returns-in_err-reply-clause-worn
returns-in_err-reply-clause-worn c clock is =
    let p = err_from_is_err_and c.from_residual-in_err-reply.result c.from_residual-in_err-reply.ensures.1 in
    let w = (c.act.ensures.worn clock).0 (exit c.from_residual-in_err-reply.result c.act.result _ p.0 _ p.1 p.2 c.in_err-reply.was is) in (
      subst (λ (m : ℕ). CLOCK_LIMIT ≤ m) (sym w.1) w.0,
      ap (λ (m : ℕ). Some m) (ap (λ (x : Command). compared c.args.seat x (net c.args.sites.now)) (sym c.in_ok-copied.ensures) ∙ sym w.1),
    )

pub returns-clause-settles : goal.returns-clause-settles
returns-clause-settles c =
    ap (λ (o : Option Act). Some o) c.settles_in.ensures
    ∙ ap (option_map settles_in) c.in_ok-reply.ensures.reply
    ∙ ap (λ (x : Command). option_map settles_in (replied c.args.seat x (net c.args.sites.now))) c.in_ok-copied.ensures
