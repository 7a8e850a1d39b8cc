use Rattle.std.proofs.Common.{◌∙◌, ap, arith, unwrap_or, Result, Ok, Err, OnErr}
use Rattle.std.specs.BTreeMap.{is_at}
use Rattle.std.specs.Map.{lookup}
use Rattle.chorus_ui.specs.Name.{name_cmp}
use Rattle.chorus_show.specs.declared.queues.Spot.TheVariants.{Held, Moving}
use Rattle.chorus_show.specs.Tally.{no_queue}
use Rattle.chorus_show.proofs.Waiting.{no_news, fits, covers, total_now, ports_now}
use Rattle.chorus_show.proofs.queues.Queues.add.Goals as goal

on_err : {T E : Type 0} {A : Type 0} (r : Result T E) → A → OnErr r A
on_err (Ok v) a = tt
on_err (Err v) a = a

pub returns-in_default-clause-ok : goal.returns-in_default-clause-ok
returns-in_default-clause-ok c = λ later are. no_news c.args.self.now c.args.entry.now later are c.in_default.ensures

pub overflow_add-self : goal.overflow_add-self
overflow_add-self c =
    let was = c.unwrap_or-later.ensures ∙ ap (λ o. unwrap_or o no_queue) (c.copied.ensures ∙ c.get.ensures.value) in
    omega (arith, fits c.args.self.now c.args.entry.now c.requires.0 c.requires.1 _ c.in-Some.ensures _ was _ c.with_later-queue.ensures Held _ c.requires.1.queued _ c.share.ensures c.requires.2)

pub overflow_sub-self : goal.overflow_sub-self
overflow_sub-self c =
    let was = c.unwrap_or-later.ensures ∙ ap (λ o. unwrap_or o no_queue) (c.copied.ensures ∙ c.get.ensures.value) in
    covers c.args.self.now c.args.entry.now c.requires.0 c.requires.1 _ c.in-Some.ensures _ was _ c.with_later-queue.ensures Held _ c.requires.1.queued _ c.share.ensures _ c.share-2.ensures

pub overflow_add-self-2 : goal.overflow_add-self-2
overflow_add-self-2 c =
    let was = c.unwrap_or-later.ensures ∙ ap (λ o. unwrap_or o no_queue) (c.copied.ensures ∙ c.get.ensures.value) in
    omega (arith, fits c.args.self.now c.args.entry.now c.requires.0 c.requires.1 _ c.in-Some.ensures _ was _ c.with_later-queue.ensures Moving _ c.requires.1.moving _ c.share-3.ensures c.requires.2)

pub overflow_sub-self-2 : goal.overflow_sub-self-2
overflow_sub-self-2 c =
    let was = c.unwrap_or-later.ensures ∙ ap (λ o. unwrap_or o no_queue) (c.copied.ensures ∙ c.get.ensures.value) in
    covers c.args.self.now c.args.entry.now c.requires.0 c.requires.1 _ c.in-Some.ensures _ was _ c.with_later-queue.ensures Moving _ c.requires.1.moving _ c.share-3.ensures _ c.share-4.ensures

pub returns-clause-ok : goal.returns-clause-ok
returns-clause-ok c = λ later are.
    let was = c.unwrap_or-later.ensures ∙ ap (λ o. unwrap_or o no_queue) (c.copied.ensures ∙ c.get.ensures.value) in
    record {
      ports = ports_now c.args.self.now c.args.entry.now later are _ c.in-Some.ensures _ was _ c.with_later-queue.ensures c.insert.new.self c.in_ok-insert.ensures.updates.0;
      queued = total_now c.args.self.now c.args.entry.now later are _ c.in-Some.ensures _ was _ c.with_later-queue.ensures Held _ are.queued _ c.share.ensures _ c.share-2.ensures;
      moving = total_now c.args.self.now c.args.entry.now later are _ c.in-Some.ensures _ was _ c.with_later-queue.ensures Moving _ are.moving _ c.share-3.ensures _ c.share-4.ensures;
    }

pub returns-in_err-insert-clause-err : goal.returns-in_err-insert-clause-err
returns-in_err-insert-clause-err c = on_err c.from_residual.result (λ later are.
    record { ports = λ port. ap (λ es. unwrap_or (lookup (is_at (name_cmp port)) es) no_queue) c.in_err-insert.ensures.err ∙ are.ports port; queued = are.queued; moving = are.moving })
