use Rattle.chorus_scene.specs.Reader.{state_of}
use Rattle.chorus_scene.proofs.Next.{next_is}
use Rattle.chorus_scene.proofs.reader.Reader.line.Goals as goal

pub returns-clause-gives : goal.returns-clause-gives
returns-clause-gives c =
    let s = state_of c.args.self.now in
    rw (next_is s c.args.bytes.now c.cut.result.0.now _ c.in-Some.word (cc) (cc) c.in_default.not-Head c.cut.ensures (cc) (cc)) c.word_line.ensures.gives
