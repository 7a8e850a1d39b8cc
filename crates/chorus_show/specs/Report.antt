-- The report of a list of entries: its journal text and its summary text, in which a line for each script that is stuck
-- stands before the end.
use Rattle.std.specs.Prelude.{ℕ, List, ◌++◌, codes, decimal}
use Rattle.std.specs.List.{flat_map}
use Rattle.chorus_entry.specs.declared.entry.Entry.{Entry}
use Rattle.chorus_show.specs.declared.stuck.Stuck.{Stuck}
use Rattle.chorus_show.specs.Journal.{journal_text}
use Rattle.chorus_show.specs.Summary.{summary_lines, summary_text}

abbrev pub report : List Entry → List ℕ
report entries = journal_text entries ++ summary_text entries

abbrev pub stuck_line : Stuck → List ℕ
stuck_line s = codes "stuck " ++ decimal s.script ++ codes " " ++ decimal s.command ++ codes "\n"

-- what stands behind the entries
abbrev pub summary_with : List Stuck → List Entry → List ℕ
summary_with stuck entries = summary_lines entries ++ (flat_map stuck_line stuck ++ codes "end\n")

abbrev pub report_with : List Stuck → List Entry → List ℕ
report_with stuck entries = journal_text entries ++ summary_with stuck entries
