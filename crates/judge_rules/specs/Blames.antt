-- What is said of an entry that may not come next: the line, the rule, the condition and the earlier line.
use Rattle.std.specs.Prelude.{ℕ, ◌+◌, nat_lt, List, [], ◌∷◌, length, if◌then◌else◌}
use Rattle.chorus_ui.specs.declared.layout.Layout.{Layout}
use Rattle.chorus_ui.specs.Layout.{has_place}
use Rattle.chorus_entry.specs.declared.entry.Entry.{Entry}
use Rattle.chorus_entry.specs.Kinds.{has_kinds}
use Rattle.chorus_checker.specs.Rules.{act_number}
use Rattle.chorus_world.specs.Views.{at, views}
use Rattle.chorus_world.specs.Places.{just_taken, last_clock}
use Rattle.chorus_world.specs.Steps.{is_timely, may_stand_behind}
use Rattle.judge_rules.specs.declared.about.About.TheVariants.{Nothing, At}
use Rattle.judge_rules.specs.declared.blame.Blame.{Blame}
use Rattle.judge_rules.specs.declared.blame.TheConstants.{REPLY_RULE}
use Rattle.judge_rules.specs.declared.failing.Failed.{Failed}
use Rattle.judge_rules.specs.About.{about_line}
use Rattle.judge_rules.specs.Conditions.{Condition, conditions, first_failing, that}

-- of rule 0: its place is one of the layout, and its clock above the last one there
abbrev pub timely : Layout → List Entry → Entry → List Condition
timely l past e =
    that (has_place l e.place) Nothing ∷ that (nat_lt (last_clock (at e.place past)) e.clock) (At e.place) ∷ []

-- the line of an entry behind these
abbrev pub line_behind : List Entry → ℕ
line_behind past = length past + 2

abbrev pub blamed : List Entry → ℕ → Failed → Blame
blamed past rule f =
    record { line = line_behind past; rule = rule; condition = f.number; about = about_line past f.about }

-- of a take, behind which at its place neither a done nor a late stands: its line, and that of what does
abbrev pub reply_blamed : List Entry → ℕ → Blame
reply_blamed past p =
    record { line = about_line past (At p); rule = REPLY_RULE; condition = 1; about = line_behind past }

-- by the act: its names are of the kinds that they should be; a reply that was just taken is followed; and what it needs
abbrev pub act_blamed : Layout → List Entry → Entry → Blame
act_blamed l past e =
    if has_kinds e.act then
    (if may_stand_behind (just_taken past (at e.place past)) e.act then
    blamed past (act_number e.act) (first_failing 2 (conditions l past e.place e.seat e.act))
    else reply_blamed past e.place)
    else blamed past (act_number e.act) (record { number = 1; about = Nothing })

abbrev pub blame : Layout → List Entry → Entry → Blame
blame l past e =
    if is_timely l (views past e.place e.seat e.act) e then act_blamed l past e
    else blamed past 0 (first_failing 1 (timely l past e))
