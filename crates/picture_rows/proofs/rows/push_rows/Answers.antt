use Rattle.std.proofs.Common.{◌∷◌, ◌∙◌, reverse, take, arith}
use Rattle.picture_rows.specs.Shapes.{arrow_text, ground_text, marks_text}
use Rattle.picture_rows.proofs.Drawn.{layer_all, layer_next, layer_none, notes_taken, tables_all, tables_next, tables_room}
use Rattle.picture_rows.proofs.Kept.{arrow_behind_is, ground_behind_is, marks_behind_is}
use Rattle.picture_rows.proofs.LinesLeft.{all_left, behind_line, first_within, left_is, lines_long, next_left}
use Rattle.picture_rows.proofs.Noted.{note_is, notes_next}
use Rattle.picture_rows.proofs.rows.push_rows.Goals as goal

pub loop-entry-init : goal.loop-entry-init
loop-entry-init c = (
  record {
    ground = layer_none (ground_text c.args.columns.now) c.args.entries.now _;
    arrows = layer_none (arrow_text c.args.columns.now) c.args.entries.now _;
    marks = layer_none (marks_text c.args.columns.now) c.args.entries.now _;
    tables = c.requires.empty;
    bodies = c.new-bodies.ensures;
  },
  all_left _ _ c.requires.within c.requires.lines,
)

pub add-requires-clause-few : goal.add-requires-clause-few
add-requires-clause-few c = (tables_room _ _ _ c.loop-entry.invariant.0.tables c.loop-entry-test.true c.requires.few).0

pub add-requires-clause-waits : goal.add-requires-clause-waits
add-requires-clause-waits c = (tables_room _ _ _ c.loop-entry.invariant.0.tables c.loop-entry-test.true c.requires.few).1

pub push_marks-requires-clause-line : goal.push_marks-requires-clause-line
push_marks-requires-clause-line c =
    let left = c.loop-entry.invariant.1 in
    let less = c.loop-entry-test.true in
    (c.next_line.ensures c.entry-item.result (behind_line _ _ _ _ left c.entry-item.result less c.entry-item.is)
    (first_within _ _ _ _ left c.entry-item.result less c.entry-item.is) (left_is _ _ _ _ left c.entry-item.result less c.entry-item.is)).0

pub loop-entry-preserved : goal.loop-entry-preserved
loop-entry-preserved c =
    let left = c.loop-entry.invariant.1 in
    let drawn = c.loop-entry.invariant.0 in
    let e = c.entry-item.result in
    let less = c.loop-entry-test.true in
    let is = c.entry-item.is in
    let cs = c.args.columns.now in
    let es = c.args.entries.now in
    let past = reverse (take c.loop-entry.entry-index es) in
    let edge = c.in_ok-edge.ensures.right in
    let before = c.in_ok-before.ensures.before in
    let cut = c.next_line.ensures e (behind_line _ _ _ _ left e less is) (first_within _ _ _ _ left e less is) (left_is _ _ _ _ left e less is) in
    let said = c.note-note.ensures ∙ note_is _ (e ∷ past) e.act (notes_next _ _ past e drawn.bodies c.in_ok-add.ensures) in (
      record {
        ground = layer_next es _ e less is (ground_text cs) _ _ _ _ drawn.ground c.in_ok-push_ground.ensures (ground_behind_is _ cs _ past e _ edge drawn.tables before);
        arrows = layer_next es _ e less is (arrow_text cs) _ _ _ _ drawn.arrows c.in_ok-push_arrow.ensures (arrow_behind_is _ cs _ past e _ edge drawn.tables before);
        marks =
            layer_next es _ e less is (marks_text cs) _ _ _ _ drawn.marks c.in_ok-push_marks.ensures
            (marks_behind_is _ cs _ past e _ edge drawn.tables before _ said);
        tables = tables_next es _ e less is _ _ drawn.tables c.in_ok-before.ensures.grows;
        bodies = notes_taken es _ e less is _ _ drawn.bodies c.in_ok-add.ensures;
      },
      next_left _ _ _ _ left e less is _ cut.1,
    )

pub returns-clause-ground : goal.returns-clause-ground
returns-clause-ground c = layer_all (ground_text c.args.columns.now) c.args.entries.now _ _ _ c.loop-entry.invariant.0.ground c.loop-entry-test.false

pub returns-clause-arrows : goal.returns-clause-arrows
returns-clause-arrows c = layer_all (arrow_text c.args.columns.now) c.args.entries.now _ _ _ c.loop-entry.invariant.0.arrows c.loop-entry-test.false

pub returns-clause-marks : goal.returns-clause-marks
returns-clause-marks c = layer_all (marks_text c.args.columns.now) c.args.entries.now _ _ _ c.loop-entry.invariant.0.marks c.loop-entry-test.false

pub returns-clause-tables : goal.returns-clause-tables
returns-clause-tables c = tables_all _ _ _ c.loop-entry.invariant.0.tables c.loop-entry-test.false

pub returns-clause-lines : goal.returns-clause-lines
returns-clause-lines c =
    let long = lines_long _ _ _ _ c.loop-entry.invariant.1 c.loop-entry-test.false in
    omega (arith, long)
