use Rattle.std.proofs.Common.{◌≡◌, ◌*◌, ◌+◌, ◌-◌, take, drop, ◌∙◌}
use Rattle.std.proofs.lemmas.Result.{IfOk-weaker}
use Rattle.chorus_lossy.specs.Line.{chunk_at}
use Rattle.chorus_lossy.proofs.Running.{cut}
use Rattle.chorus_lossy.proofs.line.chunk_at.Goals as goal

pub returns : goal.returns
returns c =
    let bytes = c.args.bytes.now in
    let begin = c.args.number * 64 in
    let len = c.min-len.result in
    IfOk-weaker c.new.result (λ chunk. chunk ≡ take (begin + len - begin) (drop begin bytes)) (λ chunk. chunk ≡ chunk_at bytes c.args.number)
    (λ chunk is. is ∙ cut bytes begin len c.min-len.ensures) c.new.ensures
