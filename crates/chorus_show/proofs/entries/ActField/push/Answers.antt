use Rattle.std.proofs.lemmas.Result.{on_ok_weaker}
use Rattle.chorus_show.proofs.Bounds.{choose_within, delete_within}
use Rattle.chorus_show.proofs.entries.ActField.push.Goals as goal

pub returns-in_ok-push_with_two-in-Choose-clause-fits : goal.returns-in_ok-push_with_two-in-Choose-clause-fits
returns-in_ok-push_with_two-in-Choose-clause-fits c =
    on_ok_weaker c.push_each.result
    (choose_within _ _ _ _ _ c.in-Choose.is c.in_ok-push_with_two-in-Choose.ensures.fits c.uis.ensures.uis c.uis.ensures.within)
    c.push_each.ensures.fits

pub returns-in_ok-push_with_one-in-Delete-clause-fits : goal.returns-in_ok-push_with_one-in-Delete-clause-fits
returns-in_ok-push_with_one-in-Delete-clause-fits c =
    on_ok_weaker c.push_each-in-Delete.result
    (delete_within _ _ _ _ c.in-Delete.is c.in_ok-push_with_one-in-Delete.ensures.fits c.ids.ensures)
    c.push_each-in-Delete.ensures.fits
