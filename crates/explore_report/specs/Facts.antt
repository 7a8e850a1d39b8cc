-- The lines of facts.
-- k is the number of a script, i that of a command, x is an id, q a port.
use Rattle.std.specs.Prelude.{ℕ, List, [], ◌∷◌, ◌++◌, map, codes, decimal, Option, Some, None}
use Rattle.std.specs.List.{flat_map}
use Rattle.chorus_ui.specs.Text.{name_text}
use Rattle.chorus_entry.specs.declared.act.Act.{Act}
use Rattle.chorus_entry.specs.declared.act.Act.TheVariants.{Take, Depart}
use Rattle.chorus_entry.specs.declared.answer.Answer.{Answer}
use Rattle.chorus_entry.specs.declared.answer.Answer.TheVariants.{Accepted, Early, Elsewhere}
use Rattle.chorus_entry.specs.declared.id.MsgId.{MsgId}
use Rattle.chorus_entry.specs.declared.message.Message.{Message}
use Rattle.chorus_show.specs.Lines.{act_text, answer_text}
use Rattle.chorus_show.specs.Phrases.{phrase, id_text}
use Rattle.law_explore.specs.Outcome.{Fact, Answered, Judged, Stale, Held, Stuck, Settled, Open, Copied, Moving, Members, Calls, Holds, Next, Outcome}
use Rattle.law_explore.specs.Outcome as facts

-- an act without the numbers that only tell when
abbrev pub plain_act_text : Act → List ℕ
plain_act_text (Take q position x) = phrase (codes "take") (name_text q ∷ id_text x ∷ [])
plain_act_text (Depart q to actor hop) = phrase (codes "depart") (name_text q ∷ decimal to ∷ name_text actor ∷ [])
plain_act_text act = act_text act

-- an answer without them; none is `chosen`
abbrev pub plain_answer_text : Answer → List ℕ
plain_answer_text (Accepted position) = codes "accepted"
plain_answer_text (Early hop) = codes "early"
plain_answer_text (Elsewhere to hop) = codes "elsewhere"
plain_answer_text answer = answer_text answer

abbrev pub verdict_text : Option Answer → List ℕ
verdict_text None = codes "chosen"
verdict_text (Some answer) = plain_answer_text answer

-- a line, ended by LF
abbrev pub fact_line : Fact → List ℕ
fact_line (Answered k i act) = phrase (codes "answer") (decimal k ∷ decimal i ∷ plain_act_text act ∷ []) ++ 10 ∷ []
fact_line (Judged x verdict) = phrase (codes "verdict") (id_text x ∷ verdict_text verdict ∷ []) ++ 10 ∷ []
fact_line (Stale x) = phrase (codes "stale") (id_text x ∷ []) ++ 10 ∷ []
fact_line (Held q actor waiting) =
    phrase (codes "port") (name_text q ∷ name_text actor ∷ map id_text waiting) ++ 10 ∷ []
fact_line (Stuck k i) = phrase (codes "stuck") (decimal k ∷ decimal i ∷ []) ++ 10 ∷ []
fact_line (Settled k i act settles) =
    phrase (codes "answer") (decimal k ∷ decimal i ∷ plain_act_text act ∷ act_text settles ∷ []) ++ 10 ∷ []
fact_line (Open x) = phrase (codes "open") (id_text x ∷ []) ++ 10 ∷ []
fact_line (Copied x q) = phrase (codes "copy") (id_text x ∷ name_text q ∷ []) ++ 10 ∷ []
fact_line (facts.Accepted q ids) = phrase (codes "accepted") (name_text q ∷ map id_text ids) ++ 10 ∷ []
fact_line (Moving q actor) = phrase (codes "moving") (name_text q ∷ name_text actor ∷ []) ++ 10 ∷ []
fact_line (Members g qs) = phrase (codes "members") (name_text g ∷ map name_text qs) ++ 10 ∷ []
fact_line (Calls k n) = phrase (codes "outstanding") (decimal k ∷ decimal n ∷ []) ++ 10 ∷ []
fact_line (Holds k client n) = phrase (codes "hand") (decimal k ∷ decimal client ∷ decimal n ∷ []) ++ 10 ∷ []
fact_line (Next k i) = phrase (codes "next") (decimal k ∷ decimal i ∷ []) ++ 10 ∷ []

-- the ids of the messages
abbrev pub waiting_in : List Message → List MsgId
waiting_in ms = map (λ (m : Message). m.id) ms

abbrev pub outcome_lines : Outcome → List ℕ
outcome_lines facts = flat_map fact_line facts
