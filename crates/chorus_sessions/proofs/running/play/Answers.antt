use Rattle.std.proofs.Common.{◌∙◌, List, length, map, reverse, ap, subst, sym}
use Rattle.std.proofs.lemmas.List.{with_items_is}
use Rattle.chorus_sessions.specs.declared.session.Session.{Session}
use Rattle.chorus_sessions.specs.Playing.{left_by, HaveEnded}
use Rattle.chorus_sessions.specs.Sessions.{hand_of, AreSessions, IsKeeper}
use Rattle.chorus_sessions.proofs.Comings.{all-back, back-goes, have-run, keeper-goes, kept-goes}
use Rattle.chorus_sessions.proofs.Playing.{ended-behind, has-played, whole-settled}
use Rattle.chorus_sessions.proofs.running.play.Goals as goal

pub returns-in_err-hands-clause-back : goal.returns-in_err-hands-clause-back
returns-in_err-hands-clause-back g c = all-back 0 _ (keeper-goes c.args.nucleus.now 0 0 c.args.pass.now c.make_ports.new.pass c.make_ports.ensures.goes c.requires.keeper)

pub returns-in_err-sessions-clause-back : goal.returns-in_err-sessions-clause-back
returns-in_err-sessions-clause-back g c = all-back 0 _ (keeper-goes c.args.nucleus.now 0 0 c.args.pass.now c.make_ports.new.pass c.make_ports.ensures.goes c.requires.keeper)

pub enter_all-all_came-requires-clause-keeper : goal.enter_all-all_came-requires-clause-keeper
enter_all-all_came-requires-clause-keeper g c κs within = keeper-goes c.args.nucleus.now 0 0 c.args.pass.now c.make_ports.new.pass c.make_ports.ensures.goes c.requires.keeper

pub retire_all-requires-clause-keeper : goal.retire_all-requires-clause-keeper
retire_all-requires-clause-keeper g c =
    let before = c.enter_all-all_came.new.sessions in
    let after = c.run_to_the_end-ran.new.sessions in
    let n = c.args.nucleus.now in
    let same = c.run_to_the_end-ran.auto.sessions in
    let written = with_items_is before after (same ∙ c.deref_mut.ensures.len) in
    let long = sym (same ∙ ap (λ (ps : List Session). length ps) c.deref_mut.ensures.value) in
    subst (λ (ps : List Session). IsKeeper (length ps) 0 c.run_to_the_end-ran.new.pass) (sym written)
    (subst (λ k. IsKeeper k 0 c.run_to_the_end-ran.new.pass) long
    (keeper-goes n (length before.items) 0 c.enter_all-all_came.new.pass c.run_to_the_end-ran.new.pass c.run_to_the_end-ran.ensures.pass c.enter_all-all_came.ensures.keeper))

pub retire_all-requires-clause-sessions : goal.retire_all-requires-clause-sessions
retire_all-requires-clause-sessions g c =
    let before = c.enter_all-all_came.new.sessions in
    let after = c.run_to_the_end-ran.new.sessions in
    let n = c.args.nucleus.now in
    let same = c.run_to_the_end-ran.auto.sessions in
    let written = with_items_is before after (same ∙ c.deref_mut.ensures.len) in
    subst (λ (ps : List Session). AreSessions n ps) (sym written) (have-run n c.deref_mut.result.now after same c.run_to_the_end-ran.ensures.sessions)

pub returns-in_err-make_ports-clause-back : goal.returns-in_err-make_ports-clause-back
returns-in_err-make_ports-clause-back g c = all-back 0 _ (keeper-goes c.args.nucleus.now 0 0 c.args.pass.now c.make_ports.new.pass c.make_ports.ensures.goes c.requires.keeper)

pub returns-clause-back : goal.returns-clause-back
returns-clause-back g c = back-goes c.args.nucleus.now c.retire_all.new.pass c.settle-is_settled.new.pass c.settle-is_settled.ensures.goes c.retire_all.ensures.back

pub returns-clause-kept : goal.returns-clause-kept
returns-clause-kept g c = kept-goes c.args.nucleus.now c.retire_all.new.pass c.settle-is_settled.new.pass c.retire_all.new.hands.items c.settle-is_settled.ensures.goes c.retire_all.ensures.kept

pub returns-clause-played : goal.returns-clause-played
returns-clause-played g c =
    let n = c.args.nucleus.now in
    let before = c.enter_all-all_came.new.sessions in
    let after = c.run_to_the_end-ran.new.sessions in
    let same = c.run_to_the_end-ran.auto.sessions in
    let written = with_items_is before after (same ∙ c.deref_mut.ensures.len) in
    let value = c.deref_mut.ensures.value in
    has-played g.B.Behaviour.in_actor n g.B.Behaviour.ran g.B.Behaviour.finished c.args.ports.now c.args.behaviours.now c.retire_all.new.hands.items c.behind.result
    c.args.pass.now c.make_ports.new.pass c.enter_all-all_came.new.pass c.run_to_the_end-ran.new.pass c.retire_all.new.pass c.settle-is_settled.new.pass before.items after
    c.requires.new c.in_ok-make_ports.ensures.made c.enter_all-all_came.ensures.gave (c.enter_all-all_came.ensures.came c.in_ok-ending.ensures.came) c.run_to_the_end-ran.ensures.pumps
    (ended-behind g.B.Behaviour.in_actor n g.B.Behaviour.ran g.B.Behaviour.finished c.args.behaviours.now before.items after c.in_ok-ending.ending c.behind.result c.settle-is_settled.result c.behind.ensures
    (subst (λ (ps : List Session). HaveEnded c.in_ok-ending.ending g.B.Behaviour.ran g.B.Behaviour.finished n c.args.behaviours.now ps after) value c.in_ok-ending.ensures.done))
    (same ∙ ap (λ (ps : List Session). length ps) value) c.retire_all.ensures.gave
    (c.retire_all.ensures.hands ∙ ap (λ (ps : List Session). map hand_of (reverse ps)) written) (c.retire_all.ensures.notes ∙ ap (λ (ps : List Session). map left_by (reverse ps)) written)
    c.settle-is_settled.ensures.pumps c.settle-is_settled.ensures.goes.same.1

pub returns-clause-even : goal.returns-clause-even
returns-clause-even g c whole = c.settle-is_settled.ensures.even (whole-settled c.in_ok-ending.ending c.behind.result c.settle-is_settled.result c.behind.ensures whole)
