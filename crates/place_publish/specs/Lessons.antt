-- What an entry teaches of a port.
-- here are the entries before it, the newest first; l is a layout.
use Rattle.std.specs.Prelude.{ℕ, if◌then◌else◌, List, Option, Some, None}
use Rattle.chorus_ui.specs.declared.layout.Layout.{Layout}
use Rattle.chorus_ui.specs.Layout.{names_port}
use Rattle.chorus_ui.specs.declared.ui.Ui.{Ui}
use Rattle.chorus_entry.specs.declared.act.Act.{Act}
use Rattle.chorus_entry.specs.declared.act.Act.TheVariants.{Told, Depart, Arrive}
use Rattle.chorus_entry.specs.declared.answer.Answer.{Answer}
use Rattle.chorus_entry.specs.declared.answer.Answer.TheVariants as A
use Rattle.chorus_entry.specs.declared.entry.Entry.{Entry}
use Rattle.chorus_world.specs.declared.place.Sent.{Sent}
use Rattle.chorus_world.specs.declared.place.Location.{Location}
use Rattle.chorus_world.specs.Places.{find_sent, sent}
use Rattle.chorus_board.specs.Located.{told_of}
use Rattle.place_publish.specs.declared.lesson.Lesson.{Lesson}

abbrev pub port_in : Option Sent → Option Ui
port_in None = None
port_in (Some m) = Some m.port

-- what an answer about the port teaches
abbrev pub lesson_told : Option Ui → Answer → Option Lesson
lesson_told (Some q) (A.Stale to hop) = Some (record { ui = q; place = to; hop = hop })
lesson_told (Some q) (A.Elsewhere to hop) = Some (record { ui = q; place = to; hop = hop })
lesson_told _ _ = None

-- the place and the hop that an answer names as newer
abbrev pub newer : Answer → Option (ℕ × ℕ)
newer (A.Stale to hop) = Some (to, hop)
newer (A.Elsewhere to hop) = Some (to, hop)
newer _ = None

-- what an act at the place p teaches
abbrev pub lesson_in : ℕ → List Entry → Act → Option Lesson
lesson_in p here (Arrive q hop) = Some (record { ui = q; place = p; hop = hop })
lesson_in p here (Depart q to a hop) = Some (record { ui = q; place = to; hop = hop })
lesson_in p here (Told x a) = lesson_told (port_in (find_sent x (sent here))) a
lesson_in p here _ = None

-- it counts where the layout can make the port
abbrev pub counted : Layout → Option Lesson → Option Lesson
counted l None = None
counted l (Some t) = if names_port l t.ui then Some t else None

abbrev pub lesson : Layout → List Entry → Entry → Option Lesson
lesson l here e = counted l (lesson_in e.place here e.act)

-- what the lesson tells of the port q
abbrev pub told_in : Option Lesson → Ui → Option Location
told_in None q = None
told_in (Some t) q = told_of q t.ui t.place t.hop
