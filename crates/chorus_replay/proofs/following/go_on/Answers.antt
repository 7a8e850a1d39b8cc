use Rattle.std.proofs.Common.{◌≡◌, ◌≤◌, true, Some, sym, ◌∙◌, ap, subst, arith}
use Rattle.std.proofs.lemmas.Result.{err_from_is_err_and}
use Rattle.chorus_ui.specs.declared.limits.TheConstants.{CLOCK_LIMIT}
use Rattle.chorus_net.specs.Sites.{net}
use Rattle.chorus_replay.specs.Waiting.{may_go_on}
use Rattle.chorus_replay.proofs.Answering.{few-read, next-read, one-more-is}
use Rattle.chorus_replay.proofs.Loops.{exit, act-unworn}
use Rattle.chorus_replay.proofs.following.go_on.Goals as goal

pub returns-in_err-act-clause-worn : goal.returns-in_err-act-clause-worn
returns-in_err-act-clause-worn c clock is =
    let scene = c.args.scenario.now in
    let done = c.args.done.now.items in
    let k = c.args.seat in
    let n = net c.args.sites.now in
    let goes : may_go_on scene done k n ≡ true = ap (λ d. may_go_on scene d k n) (sym c.deref.ensures.value) ∙ sym c.may_go_on.ensures ∙ c.if-not-may_go_on.false in
    let next = next-read scene c.requires.keeps done k c.requires.script n goes c.requires.counted c.scripts.result.now c.index-scripts-index.result c.commands.result.now c.index.result.now
    c.scripts.ensures c.index-scripts-index.is c.commands.ensures c.index.ensures c.index-commands-index.result c.index-commands-index.is in
    let p = err_from_is_err_and c.from_residual-in_err-act.result c.from_residual-in_err-act.ensures.1 in
    let worn = (c.act.ensures.worn clock).0 (exit c.from_residual-in_err-act.result c.act.result _ p.0 _ p.1 p.2 c.in_err-act.was is) in
    record {
      command = c.in_ok-command.command;
      is = next ∙ ap (λ x. Some x) (sym c.in_ok-command.ensures);
      may = goes;
      same = c.in_err-act.ensures.refused.same;
      worn = subst (λ m. CLOCK_LIMIT ≤ m) (sym worn.1) worn.0;
      compares = worn.1;
    }

pub overflow_add-index_mut : goal.overflow_add-index_mut
overflow_add-index_mut c =
    let scene = c.args.scenario.now in
    let done = c.args.done.now.items in
    let k = c.args.seat in
    let n = net c.args.sites.now in
    let goes : may_go_on scene done k n ≡ true = ap (λ d. may_go_on scene d k n) (sym c.deref.ensures.value) ∙ sym c.may_go_on.ensures ∙ c.if-not-may_go_on.false in
    let few = few-read scene c.requires.keeps done k c.requires.script n goes c.requires.counted c.scripts.result.now c.index-scripts-index.result c.commands.result.now c.index_mut.result.now
    c.scripts.ensures c.index-scripts-index.is c.commands.ensures c.index_mut.ensures.value in
    omega (arith, few)

pub returns-clause-ok : goal.returns-clause-ok
returns-clause-ok c =
    let scene = c.args.scenario.now in
    let done = c.args.done.now.items in
    let k = c.args.seat in
    let n = net c.args.sites.now in
    let goes : may_go_on scene done k n ≡ true = ap (λ d. may_go_on scene d k n) (sym c.deref.ensures.value) ∙ sym c.may_go_on.ensures ∙ c.if-not-may_go_on.false in
    let next = next-read scene c.requires.keeps done k c.requires.script n goes c.requires.counted c.scripts.result.now c.index-scripts-index.result c.commands.result.now c.index.result.now
    c.scripts.ensures c.index-scripts-index.is c.commands.ensures c.index.ensures c.index-commands-index.result c.index-commands-index.is in
    record {
      command = c.in_ok-command.command;
      is = next ∙ ap (λ x. Some x) (sym c.in_ok-command.ensures);
      may = goes;
      happens = c.in_ok-act.ensures.ok;
      unworn = act-unworn c.act.result c.in_ok-act.field-0 _ c.in_ok-act.was c.act.ensures.worn;
      done = one-more-is scene done k c.requires.script c.requires.counted c.index_mut.result.now c.index_mut.ensures.value;
    }
