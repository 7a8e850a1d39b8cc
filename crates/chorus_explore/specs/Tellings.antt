-- What is told of scripts: how far they are, how they were answered, and what they posted.
-- k is the number of a script, i that of a command, told is what answered, the latest first, p is how far a script is; asks
-- says whether claims are asked, which see more than outcomes tell.
use Rattle.std.specs.Prelude.{ℕ, ◌+◌, Bool, true, false, List, [], ◌∷◌, length, reverse, Option, Some, None}
use Rattle.std.specs.List.{flat_map, filter_map}
use Rattle.chorus_entry.specs.declared.act.Act as acts
use Rattle.chorus_entry.specs.declared.act.Act.TheVariants as variants
use Rattle.chorus_entry.specs.declared.id.MsgId.{MsgId}
use Rattle.chorus_entry.specs.declared.tag.Tag.{Tag}
use Rattle.chorus_entry.specs.declared.tag.Tag.TheVariants as tags
use Rattle.chorus_calls.specs.declared.client.Settle.{Settle}
use Rattle.chorus_calls.specs.declared.client.Settle.TheVariants.{Done, Late}
use Rattle.law_machine.specs.declared.reply.Reply.{Reply}
use Rattle.law_machine.specs.declared.reply.Reply.TheVariants.{Taken}
use Rattle.law_explore.specs.Merging.{Telling}
use Rattle.law_explore.specs.Races.{Told}
use Rattle.law_explore.specs.Outcome.{Fact, Answered, Settled, plain_act, posted}
use Rattle.law_explore.specs.Moment.{answer_with}
use Rattle.chorus_explore.specs.declared.race_sites.Progress.{Progress}
use Rattle.explore_report.specs.Facts.{fact_line}

-- how a command was answered: an outcome does not tell whether a reply that it took ended the script's call
abbrev pub answer_by : Bool → ℕ → ℕ → Told → Fact
answer_by false k i it = Answered k i (plain_act it.act)
answer_by true k i it = answer_with k i it.act it.settles

abbrev pub answers_by : Bool → ℕ → ℕ → List Told → List Fact
answers_by asks k i [] = []
answers_by asks k i (it ∷ told) = answer_by asks k i it ∷ answers_by asks k (i + 1) told

-- The number of answers, their lines, and the messages that were posted. The number stands in front, so that the next
-- line is known by what is told.
abbrev pub told_of : Bool → ℕ → List Told → List ℕ × List MsgId
told_of asks k told =
    (length told ∷ flat_map fact_line (answers_by asks k 1 (reverse told)), filter_map posted (reverse told))

-- of all scripts, from script k on
abbrev pub tells_from : Bool → ℕ → List (List Told) → List (List ℕ × List MsgId)
tells_from asks k [] = []
tells_from asks k (told ∷ rest) = told_of asks k told ∷ tells_from asks (k + 1) rest

abbrev pub tells_of : Bool → Telling
tells_of asks = record { asks = asks; texts = tells_from asks 1 }

-- the same, as a script keeps it
abbrev pub kept_of : Progress → List ℕ × List MsgId
kept_of p = (p.next ∷ p.answers.items, p.posts.items)

-- As it is written down: with the act, and what a reply that was taken settled.

abbrev pub answered_line : Bool → ℕ → ℕ → acts.Act → Option acts.Act → List ℕ
answered_line true k i act (Some settles) = fact_line (Settled k i act settles)
answered_line asks k i act settles = fact_line (Answered k i act)

abbrev pub settle_act : Tag → Option Settle → Option acts.Act
settle_act (tags.Reply client number) (Some Done) = Some (variants.Done number)
settle_act (tags.Reply client number) (Some Late) = Some (variants.Late number)
settle_act tag settled = None

abbrev pub settles_in : Reply → Option acts.Act
settles_in (Taken position message settled) = settle_act message.tag settled
settles_in _ = None
