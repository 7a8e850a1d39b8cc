use Rattle.std.proofs.Common.{ap, sym, ◌∙◌, reverse}
use Rattle.chorus_world.specs.Clients.{is_already}
use Rattle.chorus_world.specs.Posts.{tag_of}
use Rattle.chorus_world.specs.Steps.{State}
use Rattle.chorus_world.specs.Views.{on}
use Rattle.checker_rows.proofs.ClientLemmas.{already_reads}
use Rattle.checker_ledger.proofs.ledger.Ledger.is_already.Goals as goal

pub returns-in-Some : goal.returns-in-Some
returns-in-Some c =
    let past = reverse c.self.inside.entries.items in
    let x = c.args.id in
    let q = c.args.port in
    let tag = ap (λ (w : State). tag_of x w.past) c.self.view_is ∙ (sym c.tag_of.ensures ∙ c.in-Request.is) in
    let kept = sym (c.self.invariant.1.kept q x.seat) ∙ (sym c.kept_in.ensures ∙ c.in-Some.is) in
    sym (already_reads past q x _ _ _ tag kept) ∙ ap (λ (w : State). is_already x w.past (on q w.past)) c.self.view_is

pub returns-in-None : goal.returns-in-None
returns-in-None c =
    let past = reverse c.self.inside.entries.items in
    let x = c.args.id in
    let q = c.args.port in
    let tag = ap (λ (w : State). tag_of x w.past) c.self.view_is ∙ (sym c.tag_of.ensures ∙ c.in-Request.is) in
    let kept = sym (c.self.invariant.1.kept q x.seat) ∙ (sym c.kept_in.ensures ∙ c.in-None.is) in
    sym (already_reads past q x _ _ _ tag kept) ∙ ap (λ (w : State). is_already x w.past (on q w.past)) c.self.view_is
