-- The parts of a step.
use Rattle.std.specs.Prelude.{ℕ, ◌+◌, ◌-◌, max, ◌∷◌}
use Rattle.chorus_entry.specs.declared.act.Act.{Act}
use Rattle.chorus_entry.specs.declared.entry.Entry.{Entry}
use Rattle.chorus_world.specs.Places.{last_clock}
use Rattle.chorus_calls.specs.Callers.{Seated}
use Rattle.place_journal.specs.Counting.{JournalState, groups_with}

-- the clock of the caller's next entry
abbrev pub next_clock : JournalState → Seated → ℕ
next_clock journal caller = max (last_clock journal.past) caller.last + 1

abbrev pub next_entry : ℕ → Act → Seated → JournalState → Entry
next_entry p act caller journal = record { clock = next_clock journal caller; place = p; seat = caller.seat; act = act }

-- the journal with that entry
abbrev pub after_entry : ℕ → Act → Seated → JournalState → JournalState
after_entry p act caller journal =
    record {
      layout = journal.layout;
      past = next_entry p act caller journal ∷ journal.past;
      groups = groups_with act journal.groups;
      spare = journal.spare - 1;
    }
