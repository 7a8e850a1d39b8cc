-- What a take appends: the acts of its entries in order, as its reply tells them.
use Rattle.std.specs.Prelude.{Bool, true, false, List, [], ◌∷◌, map, Option, Some}
use Rattle.chorus_ui.specs.declared.ui.Ui.{Ui}
use Rattle.chorus_entry.specs.declared.entry.Entry.{Entry}
use Rattle.chorus_entry.specs.declared.tag.Tag.{Tag}
use Rattle.chorus_entry.specs.declared.act.Act.{Act}
use Rattle.chorus_calls.specs.declared.client.Settle.{Settle}
use Rattle.chorus_calls.specs.declared.client.Settle.TheVariants as settles
use Rattle.law_machine.specs.declared.reply.Reply.{Reply}

-- behind the Take of a reply: whether it ended the caller's call
abbrev pub settled_acts : Tag → Option Settle → List Act
settled_acts (Tag.Reply client number) (Some settles.Done) = Act.Done number ∷ []
settled_acts (Tag.Reply client number) (Some settles.Late) = Act.Late number ∷ []
settled_acts _ _ = []

abbrev pub taken_acts : Ui → Reply → List Act
taken_acts q (Reply.Taken position m settled) = Act.Take q position m.id ∷ settled_acts m.tag settled
taken_acts q Reply.Empty = Act.Empty q ∷ []
taken_acts q Reply.NotHere = Act.NotHere q ∷ []
taken_acts q _ = []

-- a take has such a reply
abbrev pub answers_take : Reply → Bool
answers_take (Reply.Taken position m settled) = true
answers_take Reply.Empty = true
answers_take Reply.NotHere = true
answers_take _ = false

abbrev pub acts_of : List Entry → List Act
acts_of es = map (λ (e : Entry). e.act) es
