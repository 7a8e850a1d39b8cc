-- Two lists of facts that differ have two texts: so have two outcomes, and two moments.
-- fs and gs are facts, k is the number of a script, i that of a command, x is an id, q a port.
use Rattle.std.specs.Prelude.{◌≡◌, IfSome, List}
use Rattle.std.specs.List.{All}
use Rattle.chorus_ui.specs.Name.{IsName}
use Rattle.chorus_entry.specs.declared.act.Act.{Act}
use Rattle.chorus_entry.specs.declared.act.Act.TheVariants as acts
use Rattle.chorus_show.specs.Bounds.{AreIds, AreNames, Is32, IsAct, IsAnswer, IsId}
use Rattle.law_explore.specs.Outcome as facts
use Rattle.law_explore.specs.Outcome.{Answered, Calls, Copied, Fact, Held, Judged, Members, Moving, Next, Open, Settled, Stale, Stuck, plain_act, plain_answer}
use Rattle.explore_report.specs.Facts.{outcome_lines}

-- a reply that was taken, and what ended the call or came late
abbrev pub IsTake : Act → Type 0
IsTake (acts.Take q position x) = IsName q × IsId x × (position ≡ 0)
IsTake act = ⊥

abbrev pub IsSettling : Act → Type 0
IsSettling (acts.Done number) = Is32 number
IsSettling (acts.Late number) = Is32 number
IsSettling act = ⊥

-- A fact as it is told, without the numbers that only tell when; its own numbers are within their types, and its names
-- are names.
abbrev pub IsPlain : Fact → Type 0
IsPlain (Answered k i act) = Is32 k × Is32 i × IsAct act × (plain_act act ≡ act)
IsPlain (Judged x verdict) = IsId x × IfSome verdict (λ answer. IsAnswer answer × (plain_answer answer ≡ answer))
IsPlain (Stale x) = IsId x
IsPlain (Held q actor waiting) = IsName q × IsName actor × AreIds waiting
IsPlain (Stuck k i) = Is32 k × Is32 i
IsPlain (Settled k i act settles) = Is32 k × Is32 i × IsTake act × IsSettling settles
IsPlain (Open x) = IsId x
IsPlain (Copied x q) = IsId x × IsName q
IsPlain (facts.Accepted q messages) = IsName q × AreIds messages
IsPlain (Moving q actor) = IsName q × IsName actor
IsPlain (Members g qs) = IsName g × AreNames qs
IsPlain (Calls k number) = Is32 k × Is32 number
IsPlain (facts.Holds k client number) = Is32 k × Is32 client × Is32 number
IsPlain (Next k i) = Is32 k × Is32 i

abbrev pub TextsTellOutcomes : Type 0
TextsTellOutcomes =
    (fs gs : List Fact) → All IsPlain fs → All IsPlain gs → outcome_lines fs ≡ outcome_lines gs → fs ≡ gs
