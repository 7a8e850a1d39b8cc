use Rattle.std.proofs.Common.{◌&&◌, not, ap, sym, ◌∙◌}
use Rattle.std.specs.Option.{option_copied_mut}
use Rattle.chorus_entry.specs.MsgId.{same_id}
use Rattle.place_unsettled.specs.Unheard.{is_unheard}
use Rattle.place_unsettled.proofs.Copies.{heard_of}
use Rattle.place_unsettled.proofs.unheard.Unheard.hear.Goals as goal

pub returns : goal.returns
returns c x =
    let found = sym c.get_mut.ensures.value ∙ ap option_copied_mut c.in-Some.is in
    heard_of _ _ c.post_of.result c.args.id c.in-Some.copies.now c.close.new.self c.post_of.ensures found (λ s. ((c.get_mut.follows.holds c.close.new.self).3 s).0) c.close.ensures.open c.close.ensures.within x
    ∙ ap (λ posts. not (same_id c.args.id x) && is_unheard posts x) c.self.view_is
