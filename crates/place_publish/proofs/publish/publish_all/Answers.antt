use Rattle.std.proofs.Common.{length, rules, refl, sym, ◌∙◌, ap, subst, arith}
use Rattle.std.proofs.Math.Seq.{take-length}
use mathlib.Core.List.{IsPrefix}
use Rattle.chorus_board.specs.Boards.{entries_published}
use Rattle.place_publish.specs.Publishing.{IsUpTo}
use Rattle.place_publish.proofs.Growing.{of-place, locates-all, after-publish, grows-publish}
use Rattle.place_publish.proofs.publish.publish_all.Goals as goal

pub publish_first-requires : goal.publish_first-requires
publish_first-requires g c =
    let at = subst (λ b. IsUpTo c.args.layout c.args.number c.args.journal.now (length c.args.journal.now) b) (sym c.published.ensures.board) c.requires.upto in
    let all = take-length c.args.journal.now in
    record {
      within = omega arith;
      may = record {
        port = search rules;
        in_layout = search rules;
        longer = (at.is.begun.0, at.is.begun.1 ∙ sym all);
        count = ap length (sym all);
        last = refl;
        of_place = of-place c.args.layout c.args.number c.args.journal.now c.published.new.self (length c.args.journal.now) at.is c.requires.own;
        located = locates-all c.args.layout c.args.number c.args.journal.now c.published.new.self c.nothing.result.ui c.nothing.result.place c.nothing.result.hop c.nothing.ensures.hop at;
      };
    }

pub returns-clause-board : goal.returns-clause-board
returns-clause-board g c =
    let at = subst (λ b. IsUpTo c.args.layout c.args.number c.args.journal.now (length c.args.journal.now) b) (sym c.published.ensures.board) c.requires.upto in
    let same = c.publish_first.ensures.board in
    after-publish c.args.layout c.args.number c.args.journal.now c.published.new.self c.publish_first.new.board (length c.args.journal.now) (length c.args.journal.now) c.publish_first.result at (omega arith)
    (same.1 ∙ at.is.layout, same.2 ∙ at.is.of_place) (omega arith) c.publish_first.ensures.published c.publish_first.ensures.unshown c.publish_first.ensures.begun

pub returns-clause-grows : goal.returns-clause-grows
returns-clause-grows g c =
    let at = subst (λ b. IsUpTo c.args.layout c.args.number c.args.journal.now (length c.args.journal.now) b) (sym c.published.ensures.board) c.requires.upto in
    subst (λ b. IsPrefix (entries_published b) (entries_published c.publish_first.new.board)) c.published.ensures.board
    (grows-publish c.args.layout c.args.number c.args.journal.now c.published.new.self c.publish_first.new.board (length c.args.journal.now) c.publish_first.result at.is
    at.low c.publish_first.ensures.published c.publish_first.ensures.unshown)
