use Rattle.std.proofs.Common.{◌≡◌, ap, sym, ◌∙◌, reverse}
use Rattle.chorus_world.specs.Posts.{post_of, tag_of}
use Rattle.chorus_world.specs.Steps.{State}
use Rattle.judge_promises.specs.Steps.{tag_in}
use Rattle.judge_promises.specs.Terms.{is_old, read, requests}
use Rattle.judge_promises.proofs.Ties.{brief-tag, old-in}
use Rattle.judge_promises.proofs.log.Log.is_old_request.Goals as goal

pub returns : goal.returns
returns c =
    let x = c.args.id in
    let q = c.args.port in
    let past = read c.args.self.now.past in
    let inside = read (reverse c.self.inside.entries.items) in
    let tag : c.tag_in-tag.result ≡ tag_of x past = c.tag_in-tag.ensures ∙ (ap tag_in c.post_of.ensures ∙ brief-tag (post_of x past)) in
    c.is_old.ensures
    ∙ (old-in inside c.self.inside.tables c.self.invariant.1 q x.seat c.tag_in-tag.result
    ∙ (ap (λ t. is_old t (requests q x.seat inside)) tag
    ∙ ap (λ (w : State). is_old (tag_of x past) (requests q x.seat (read w.past))) c.self.view_is))
