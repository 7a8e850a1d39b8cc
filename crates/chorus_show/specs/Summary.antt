-- The summary text: what the entries of a journal come to.
use Rattle.std.specs.Prelude.{ℕ, ◌-◌, Bool, true, false, ◌&&◌, ◌==◌, not, is_some, if◌then◌else◌, Option, Some, None, List, [], ◌∷◌, ◌++◌, length, codes, sum_by, count_by}
use Rattle.std.specs.Option.{option_or}
use Rattle.chorus_ui.specs.declared.ui.Ui.{Ui}
use Rattle.chorus_ui.specs.Name.{same_ui}
use Rattle.chorus_entry.specs.declared.act.Act.{Act}
use Rattle.chorus_entry.specs.declared.act.Act.TheVariants.{Make, Post, Accept, Full, Already, ClientsFull, Stale, Early, NoPort, Elsewhere, NoMember, Take, Depart, Arrive, Delete, Gone}
use Rattle.chorus_entry.specs.declared.entry.Entry.{Entry}
use Rattle.chorus_show.specs.declared.queues.Spot.{Spot}
use Rattle.chorus_show.specs.declared.queues.Spot.TheVariants.{Held, Moving, Ended}
use Rattle.chorus_show.specs.Journal.{count_line}

-- the acts that are counted
abbrev pub is_post : Act → Bool
is_post (Post m d) = true
is_post _ = false

abbrev pub is_accept : Act → Bool
is_accept (Accept x q pos) = true
is_accept _ = false

abbrev pub is_take : Act → Bool
is_take (Take q pos x) = true
is_take _ = false

abbrev pub is_stale : Act → Bool
is_stale (Stale x q tried to hop) = true
is_stale _ = false

abbrev pub is_depart : Act → Bool
is_depart (Depart q to a hop) = true
is_depart _ = false

abbrev pub is_delete : Act → Bool
is_delete (Delete q discarded) = true
is_delete _ = false

-- what settles a message other than that it was accepted
abbrev pub is_refusal : Act → Bool
is_refusal (Full x q len) = true
is_refusal (Early x q hop) = true
is_refusal (NoPort x q) = true
is_refusal (Already x q) = true
is_refusal (ClientsFull x q) = true
is_refusal (Elsewhere x q to hop) = true
is_refusal (NoMember x g) = true
is_refusal (Gone x q) = true
is_refusal _ = false

-- the port takes a message into its queue, and a message is received from it
abbrev pub accepts : Ui → Act → Bool
accepts port (Accept x q pos) = same_ui q port
accepts port _ = false

abbrev pub gives : Ui → Act → Bool
gives port (Take q pos x) = same_ui q port
gives port _ = false

abbrev pub count : (Act → Bool) → List Entry → ℕ
count test entries = count_by (λ e. test e.act) entries

-- accepted less taken, and 0 where more were taken
abbrev pub waiting : List Entry → Ui → ℕ
waiting entries port = count (accepts port) entries - count (gives port) entries

-- the port that an act puts somewhere, and where
abbrev pub put_by : Act → Option (Ui × Spot)
put_by (Make q a n) = Some (q, Held)
put_by (Depart q to a hop) = Some (q, Moving)
put_by (Arrive q hop) = Some (q, Held)
put_by (Delete q discarded) = Some (q, Ended)
put_by _ = None

abbrev pub spot_in : Ui → Option (Ui × Spot) → Option Spot
spot_in port None = None
spot_in port (Some put) = if same_ui put.0 port then Some put.1 else None

-- where the port is after the last entry: where the last of the acts that put it somewhere puts it
abbrev pub last_spot : Ui → List Entry → Option Spot
last_spot port [] = None
last_spot port (e ∷ es) = option_or (last_spot port es) (spot_in port (put_by e.act))

abbrev pub spot_number : Spot → ℕ
spot_number Held = 0
spot_number Moving = 1
spot_number Ended = 2

abbrev pub same_spot : Spot → Spot → Bool
same_spot s t = spot_number s == spot_number t

-- the port that is put there and nowhere later
abbrev pub port_left : Spot → Option (Ui × Spot) → List Entry → List Ui
port_left spot None later = []
port_left spot (Some put) later =
    if same_spot put.1 spot && not (is_some (last_spot put.0 later)) then put.0 ∷ [] else []

-- the ports that are there after the last entry, each once
abbrev pub ports_at : Spot → List Entry → List Ui
ports_at spot [] = []
ports_at spot (e ∷ es) = port_left spot (put_by e.act) es ++ ports_at spot es

-- accepted less taken over the ports that are there
abbrev pub waiting_at : Spot → List Entry → ℕ
waiting_at spot entries = sum_by (waiting entries) (ports_at spot entries)

-- the ids in an entry that deletes a port
abbrev pub ids_discarded : Act → ℕ
ids_discarded (Delete q discarded) = length discarded
ids_discarded _ = 0

abbrev pub discarded : List Entry → ℕ
discarded entries = sum_by (λ e. ids_discarded e.act) entries

-- there exactly where the journal deletes a port
abbrev pub discarded_line : List Entry → List ℕ
discarded_line entries = if count is_delete entries == 0 then [] else count_line (codes "discarded") (discarded entries)

-- the messages that were posted, accepted and taken, and those that wait
abbrev pub message_lines : List Entry → List ℕ
message_lines entries =
    count_line (codes "posted") (count is_post entries)
    ++ count_line (codes "accepted") (count is_accept entries)
    ++ count_line (codes "taken") (count is_take entries)
    ++ count_line (codes "queued") (waiting_at Held entries)
    ++ count_line (codes "moving") (waiting_at Moving entries)

-- what went another way
abbrev pub other_lines : List Entry → List ℕ
other_lines entries =
    count_line (codes "refused") (count is_refusal entries)
    ++ count_line (codes "stale") (count is_stale entries)
    ++ count_line (codes "departs") (count is_depart entries)

abbrev pub summary_lines : List Entry → List ℕ
summary_lines entries =
    codes "summary\n" ++ message_lines entries ++ discarded_line entries ++ other_lines entries

abbrev pub summary_text : List Entry → List ℕ
summary_text entries = summary_lines entries ++ codes "end\n"
