use Rattle.std.proofs.Common.{◌≡◌, ◌+◌, take, reverse, slice_get, Some, None, refl, sym, ◌∙◌, ap, arith}
use Rattle.chorus_ui.specs.Layout.{can_make_port}
use Rattle.place_publish.specs.Lessons.{lesson}
use Rattle.place_publish.proofs.Lessons.{lesson-listed}
use Rattle.place_publish.proofs.Growing.{slice-at, prefix-take, length-take, begun-low, of-place, step-none, locates, after-publish, upto-publish, grows-publish}
use Rattle.place_publish.proofs.publish.publish_entry.Goals as goal

pub returns-in_default-lesson_of-clause-upto : goal.returns-in_default-lesson_of-clause-upto
returns-in_default-lesson_of-clause-upto g c =
    let at : slice_get c.args.journal.now c.args.index ≡ Some c.in-Some.entry.now = slice-at c.args.journal.now c.args.index c.in-Some.entry.now c.requires.within c.in-Some.ensures.lookup.1 in
    let none : lesson c.args.layout (reverse (take c.args.index c.args.journal.now)) c.in-Some.entry.now ≡ None = sym c.lesson_of.ensures ∙ c.in_default-lesson_of.is in
    step-none c.args.layout c.args.number c.args.journal.now c.args.board.now c.args.index c.in-Some.entry.now c.requires.upto at none

pub publish_first-requires : goal.publish_first-requires
publish_first-requires g c =
    let at : slice_get c.args.journal.now c.args.index ≡ Some c.in-Some.entry.now = slice-at c.args.journal.now c.args.index c.in-Some.entry.now c.requires.within c.in-Some.ensures.lookup.1 in
    let some : lesson c.args.layout (reverse (take c.args.index c.args.journal.now)) c.in-Some.entry.now ≡ Some c.in-Some-lesson_of.lesson = sym c.lesson_of.ensures ∙ c.in-Some-lesson_of.is in
    let listed = lesson-listed c.args.layout (reverse (take c.args.index c.args.journal.now)) c.in-Some.entry.now c.in-Some-lesson_of.lesson some in
    let lt = c.requires.within in
    record {
      within = omega (arith, lt);
      may = record {
        port = listed.0;
        in_layout = ap (λ l. can_make_port l c.in-Some-lesson_of.lesson.ui) c.requires.upto.is.layout ∙ listed.1;
        longer = prefix-take _ c.args.journal.now (c.args.index + 1) c.requires.upto.is.begun
            (begun-low c.args.layout c.args.number c.args.journal.now c.args.board.now c.args.index c.in-Some.entry.now c.in-Some-lesson_of.lesson c.requires.upto at some);
        count = length-take (c.args.index + 1) c.args.journal.now (omega (arith, lt));
        last = refl;
        of_place = of-place c.args.layout c.args.number c.args.journal.now c.args.board.now (c.args.index + 1) c.requires.upto.is c.requires.own;
        located = locates c.args.layout c.args.number c.args.journal.now c.args.board.now c.args.index c.in-Some.entry.now c.in-Some-lesson_of.lesson c.requires.upto at some;
      };
    }

pub returns-clause-board : goal.returns-clause-board
returns-clause-board g c =
    let lt = c.requires.within in
    let is = c.requires.upto.is in
    let same = c.publish_first.ensures.board in
    after-publish c.args.layout c.args.number c.args.journal.now c.args.board.now c.publish_first.new.board c.args.index (c.args.index + 1) c.publish_first.result c.requires.upto (omega arith)
    (same.1 ∙ is.layout, same.2 ∙ is.of_place) (omega (arith, lt)) c.publish_first.ensures.published c.publish_first.ensures.unshown c.publish_first.ensures.begun

pub returns-clause-upto : goal.returns-clause-upto
returns-clause-upto g c =
    let lt = c.requires.within in
    let is = c.requires.upto.is in
    let same = c.publish_first.ensures.board in
    upto-publish c.args.layout c.args.number c.args.journal.now c.publish_first.new.board (c.args.index + 1) c.publish_first.result
    (same.1 ∙ is.layout, same.2 ∙ is.of_place) (omega (arith, lt)) c.publish_first.ensures.published c.publish_first.ensures.begun

pub returns-clause-grows : goal.returns-clause-grows
returns-clause-grows g c =
    let low = c.requires.upto.low in
    grows-publish c.args.layout c.args.number c.args.journal.now c.args.board.now c.publish_first.new.board (c.args.index + 1) c.publish_first.result c.requires.upto.is
    (omega (arith, low)) c.publish_first.ensures.published c.publish_first.ensures.unshown
