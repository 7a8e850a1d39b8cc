use Rattle.std.proofs.Common.{length, ◌+◌, ◌-◌, drop, arith}
use Rattle.std.proofs.lemmas.List.{take_all, length-drop}
use Rattle.chorus_scene.proofs.Lines.{cut_at, cut_none, first_some, first_none}
use Rattle.chorus_scene.proofs.reading.first_line.Goals as goal

pub returns-in-Some-clause-first : goal.returns-in-Some-clause-first
returns-in-Some-clause-first c =
    let text = c.args.text.now in
    let end = c.in-Some.end in
    let found = c.in-Some.ensures in
    let at = cut_at 10 text end found.0.high (λ j below. found.0.before j (omega arith) below) found.1 in
    rw (take_all (length text - (end + 1)) (drop (end + 1) text) (omega (arith, length-drop (end + 1) text))) (first_some text _ _ c.requires at).0

pub returns-in-None-clause-first : goal.returns-in-None-clause-first
returns-in-None-clause-first c =
    first_none c.args.text.now _ c.requires (cut_none 10 c.args.text.now (λ j below. c.in-None.ensures j (omega arith) below))
