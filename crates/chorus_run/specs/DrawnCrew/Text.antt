-- The text of what was counted.
use Rattle.std.specs.Prelude.{ℕ, zero, suc, ◌+◌, List, [], ◌∷◌, ◌++◌, codes, decimal}
use Rattle.chorus_ui.specs.Text.{name_text}
use Rattle.chorus_show.specs.Phrases.{phrase}
use Rattle.chorus_crew.specs.declared.handler.Handled.{Handled}
use Rattle.chorus_run.specs.declared.drawn_crew.names.TheConstants.{CREW_PORTS}
use Rattle.chorus_run.specs.declared.drawn_crew.draws.Tally.{Tally}
use Rattle.chorus_run.specs.DrawnCrew.Names.{crew_port}
use Rattle.chorus_run.specs.DrawnCrew.Sends.{tally}

-- the line `port s.p.1 COUNT TOTAL`
abbrev pub port_line : ℕ → Tally → List ℕ
port_line site t =
    phrase (codes "port") (name_text (crew_port site) ∷ decimal t.count ∷ decimal t.total ∷ []) ++ 10 ∷ []

-- what was counted at a port
abbrev pub counted : Handled → Tally
counted h = record { count = h.count; total = h.total }

-- the lines of the ports from that of site s on
abbrev pub handled_lines : ℕ → List Handled → List ℕ
handled_lines s [] = []
handled_lines s (h ∷ handled) = port_line s (counted h) ++ handled_lines (s + 1) handled

-- all of them, and the line `end`
abbrev pub handled_text : List Handled → List ℕ
handled_text handled = handled_lines 1 handled ++ (codes "end" ++ 10 ∷ [])

-- Of what was sent: the lines of the first so many ports
abbrev pub port_lines : ℕ → ℕ → ℕ → List ℕ
port_lines first commands zero = []
port_lines first commands (suc n) = port_lines first commands n ++ port_line (n + 1) (tally first commands (n + 1))

-- all of them, and the line `end`
unfoldable pub crew_text : ℕ → ℕ → List ℕ
crew_text first commands = port_lines first commands CREW_PORTS ++ (codes "end" ++ 10 ∷ [])
