-- Which entry of a list is the first that breaks a promise, and which one.
use Rattle.std.specs.Prelude.{ℕ, ◌+◌, Bool, true, ◌&&◌, is_none, List, [], ◌∷◌, Option, Some, None, if◌then◌else◌}
use Rattle.std.specs.Option.{option_or}
use Rattle.chorus_ui.specs.declared.layout.Layout.{Layout}
use Rattle.chorus_entry.specs.declared.entry.Entry.{Entry}
use Rattle.chorus_checker.specs.Rules.{act_number}
use Rattle.judge_promises.specs.declared.breach.Breach.{Breach}
use Rattle.judge_promises.specs.Conditions.{conditions, timely}
use Rattle.judge_promises.specs.Terms.{is_read, read}

-- the first that does not hold, of these that are numbered from n on, by this rule
abbrev pub failing : ℕ → ℕ → List Bool → Option Breach
failing rule n [] = None
failing rule n (holds ∷ more) =
    if holds then failing rule (n + 1) more else Some (record { rule = rule; condition = n })

-- what an entry that is read breaks, behind those that are read
abbrev pub breach : Layout → List Entry → Entry → Option Breach
breach l past e =
    option_or (failing 0 1 (timely l past e)) (failing (act_number e.act) 1 (conditions l past e.place e.seat e.act))

-- what the entry breaks, behind these
abbrev pub breach_by : Layout → List Entry → Entry → Option Breach
breach_by l past e = if is_read e.act then breach l (read past) e else None

-- the list keeps the promises: no entry of it breaks one
abbrev pub keeps_promises : Layout → List Entry → Bool
keeps_promises l [] = true
keeps_promises l (e ∷ past) = is_none (breach_by l past e) && keeps_promises l past
