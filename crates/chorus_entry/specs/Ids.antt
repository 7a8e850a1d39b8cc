-- A list of message ids.
use Rattle.std.specs.Prelude.{Bool, List}
use Rattle.std.specs.Cmp.{IsEquivalence}
use Rattle.std.specs.Cmp.Lexicographic.{pointwise, lists_equiv}
use Rattle.std.specs.Cmp.Rules.{comparing}
use Rattle.std.proofs.Common.{rules}
use Rattle.chorus_entry.specs.declared.id.MsgId.{MsgId}
use Rattle.chorus_entry.specs.MsgId.{same_id}

-- the two lists are one
abbrev pub same_ids : List MsgId → List MsgId → Bool
same_ids = pointwise same_id

pub same_ids-equivalence : IsEquivalence same_ids
same_ids-equivalence = lists_equiv (search (comparing, rules))
