use Rattle.std.proofs.Common.{Some, ◌-◌}
use Rattle.std.specs.Option.{option_copied}
use Rattle.std.proofs.lemmas.List.{map-set}
use Rattle.chorus_claims.proofs.letters.Letters.with.Goals as goal

pub returns : goal.returns
returns c = rw c.from.ensures (map-set option_copied c.args.self.now.words (c.args.letter - 65) (Some c.args.word))
