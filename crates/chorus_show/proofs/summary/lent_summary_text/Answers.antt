use Rattle.std.proofs.Common.{◌≡◌, ◌-◌, ◌∷◌, ◌++◌, [], length, take, sym, ap, ◌∙◌, subst, append_assoc}
use Rattle.chorus_show.specs.Tally.{Tells}
use Rattle.chorus_show.proofs.Counting.{cut_last, none_left, told}
use Rattle.chorus_show.proofs.Lent.{lent}
use Rattle.chorus_show.proofs.summary.lent_summary_text.Goals as goal

pub loop-rest-preserved : goal.loop-rest-preserved
loop-rest-preserved c =
    let done = c.loop-rest.invariant in
    let rest = c.loop-rest.rest.now in
    let entry = c.entry-item.result in
    let whole = done.1 ∙ ap (λ xs. xs ++ done.0) (cut_last rest entry c.in-len1-up.len_at_least c.entry-item.is) ∙ append_assoc (take (length rest - 1) rest) (entry ∷ []) done.0 in
    (entry ∷ done.0, whole, c.in_ok-add_before.ensures.ok (lent done.0) done.2)

pub returns-clause-ok : goal.returns-clause-ok
returns-clause-ok c =
    let done = c.loop-rest.invariant in
    let entries = c.args.entries.now in
    let all : done.0 ≡ entries = sym (done.1 ∙ none_left c.loop-rest.rest.now done.0 c.in_default.len_below) in
    told c.write.result _ _ (lent entries) (subst (λ es. Tells c.loop-rest.summary (lent es)) all done.2) c.write.ensures.ok
