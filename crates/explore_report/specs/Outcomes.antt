-- What a history comes to, told from its end: the journals, each with the oldest entry first, and the records that are
-- held. x is an id, js are journals, ps the ports that are held, q is the name of a port.
use Rattle.std.specs.Prelude.{ℕ, Bool, false, ◌||◌, List, [], ◌∷◌, ◌++◌, if◌then◌else◌, reverse, Option, Some, None}
use Rattle.std.specs.List.{flat_map}
use Rattle.std.specs.Option.{option_or}
use Rattle.chorus_ui.specs.declared.ui.Ui.{Ui}
use Rattle.chorus_ui.specs.Name.{same_ui}
use Rattle.chorus_entry.specs.declared.answer.Answer.{Answer}
use Rattle.chorus_entry.specs.declared.entry.Entry.{Entry}
use Rattle.chorus_entry.specs.declared.id.MsgId.{MsgId}
use Rattle.chorus_entry.specs.declared.record.PortRecord.{PortRecord}
use Rattle.chorus_world.specs.Messages.{verdict}
use Rattle.chorus_world.specs.GroupLaws.{copies_by}
use Rattle.chorus_world.specs.declared.place.Sent.{Sent}
use Rattle.law_network.specs.declared.placed.Placed.{Placed}
use Rattle.law_explore.specs.Outcome.{Judged, Stale, is_stale_at, made_in, port_fact}
use Rattle.explore_report.specs.Facts.{fact_line}

-- Messages.

abbrev pub verdict_among : MsgId → List (List Entry) → Option Answer
verdict_among x [] = None
verdict_among x (j ∷ js) = option_or (verdict x (reverse j)) (verdict_among x js)

abbrev pub is_stale_among : MsgId → List (List Entry) → Bool
is_stale_among x [] = false
is_stale_among x (j ∷ js) = is_stale_at x (reverse j) || is_stale_among x js

abbrev pub stale_line : MsgId → Bool → List ℕ
stale_line x is_stale = if is_stale then fact_line (Stale x) else []

abbrev pub lines_about : List (List Entry) → MsgId → List ℕ
lines_about js x = fact_line (Judged x (verdict_among x js)) ++ stale_line x (is_stale_among x js)

-- those of copies
abbrev pub sent_lines : List (List Entry) → List Sent → List ℕ
sent_lines js copies = flat_map (λ (m : Sent). lines_about js m.id) copies

abbrev pub chosen_lines : MsgId → List (List Entry) → List Entry → List ℕ
chosen_lines x js journal = flat_map (λ (e : Entry). sent_lines js (copies_by x e.act)) journal

-- those of the message, and behind them those of its copies
abbrev pub message_lines : List (List Entry) → MsgId → List ℕ
message_lines js x = lines_about js x ++ flat_map (chosen_lines x js) js

-- Ports.

abbrev pub held_among : Ui → List Placed → Option PortRecord
held_among q [] = None
held_among q (p ∷ ps) = if same_ui p.port.ui q then Some p.port else held_among q ps

abbrev pub held_line : Option PortRecord → List ℕ
held_line None = []
held_line (Some port) = fact_line (port_fact port)

-- those that the journal makes, where they are held
abbrev pub made_lines : List Placed → List Entry → List ℕ
made_lines ps journal =
    flat_map (λ (e : Entry). flat_map (λ (q : Ui). held_line (held_among q ps)) (made_in e.act)) journal
