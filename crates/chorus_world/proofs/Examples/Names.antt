-- The names of the examples: two sites of one place each, two actors, two ports of the first one, and entries.
use Rattle.std.proofs.Common.{ℕ}
use Rattle.chorus_ui.specs.declared.kind.Kind.TheVariants as kinds
use Rattle.chorus_ui.specs.declared.ui.Ui.{Ui}
use Rattle.chorus_ui.specs.declared.layout.Layout.{Layout}
use Rattle.chorus_entry.specs.declared.entry.Entry.{Entry}
use Rattle.chorus_entry.specs.declared.id.MsgId.{MsgId}
use Rattle.chorus_entry.specs.declared.act.Act.{Act}

abbrev pub two_sites : Layout
two_sites = record { sites = 2; turns = 1 }

abbrev pub actor : Ui
actor = record { site = 1; kind = kinds.Actor; number = 1 }

abbrev pub away : Ui
away = record { site = 2; kind = kinds.Actor; number = 1 }

abbrev pub port : Ui
port = record { site = 1; kind = kinds.Port; number = 1 }

abbrev pub other : Ui
other = record { site = 1; kind = kinds.Port; number = 2 }

abbrev pub group : Ui
group = record { site = 1; kind = kinds.Group; number = 1 }

-- the messages that seat 0 posts first, second and third, and a copy of the third
abbrev pub first : MsgId
first = record { seat = 0; number = 1; copy = 0 }

abbrev pub second : MsgId
second = record { seat = 0; number = 2; copy = 0 }

abbrev pub third : MsgId
third = record { seat = 0; number = 3; copy = 0 }

abbrev pub copied : ℕ → MsgId
copied n = record third { copy = n }

-- an entry of seat 0 at the first place
abbrev pub now : ℕ → Act → Entry
now t a = record { clock = t; place = 1; seat = 0; act = a }
