use Rattle.std.proofs.Common.{arith}
use Rattle.chorus_ends.proofs.Packets.{put-behind, put-none}
use Rattle.chorus_ends.proofs.memory.put_behind.Goals as goal

pub returns-in-Ok-clause-put : goal.returns-in-Ok-clause-put
returns-in-Ok-clause-put c =
    put-behind (λ l. l.items) c.args.sent.now.items c.args.place c.index_mut.result.now c.push.new.self (omega arith) c.index_mut.ensures.value c.args.packet c.in-Ok.ensures.items

pub returns-in-Err-clause-same : goal.returns-in-Err-clause-same
returns-in-Err-clause-same c = put-none (λ l. l.items) c.args.sent.now.items c.args.place c.index_mut.result.now c.push.new.self (omega arith) c.index_mut.ensures.value c.in-Err.ensures.items
