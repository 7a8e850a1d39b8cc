use Rattle.law_choose.proofs.Found.{receives-told-what-waited}
use Rattle.law_choose.proofs.looks.a_receive_tells_what_waited.Goals as goal

pub returns : goal.returns
returns c = receives-told-what-waited
