-- The words that lines begin with, and where they may stand.
use Rattle.std.specs.Prelude.{ℕ, Bool, true, false, List, Option, Some, None, option_map, nat_le, if◌then◌else◌, codes}
use Rattle.std.specs.Str.{bytes_eq}
use Rattle.chorus_lines.specs.declared.word.Target.TheVariants as targets
use Rattle.chorus_lines.specs.declared.word.Verb.{Verb}
use Rattle.chorus_lines.specs.declared.word.Verb.TheVariants as verbs
use Rattle.chorus_lines.specs.declared.word.Word.{Word}
use Rattle.chorus_lines.specs.declared.word.Word.TheVariants as words
use Rattle.chorus_lines.specs.declared.word.Section.{Section}
use Rattle.chorus_lines.specs.declared.word.Section.TheVariants as sections

-- the word of a command; delete is one from version 2 on
unfoldable pub verb_of : ℕ → List ℕ → Option Verb
verb_of version text =
    if bytes_eq text (codes "send") then Some (verbs.Send targets.Port)
    else if bytes_eq text (codes "all") then Some (verbs.Send targets.All)
    else if bytes_eq text (codes "one") then Some (verbs.Send targets.One)
    else if bytes_eq text (codes "at") then Some verbs.At
    else if bytes_eq text (codes "call") then Some verbs.Call
    else if bytes_eq text (codes "retry") then Some verbs.Retry
    else if bytes_eq text (codes "cancel") then Some verbs.Cancel
    else if bytes_eq text (codes "reply") then Some verbs.Reply
    else if bytes_eq text (codes "take") then Some verbs.Take
    else if bytes_eq text (codes "move") then Some verbs.Move
    else if bytes_eq text (codes "newport") then Some verbs.NewPort
    else if bytes_eq text (codes "newgroup") then Some verbs.NewGroup
    else if bytes_eq text (codes "join") then Some verbs.Join
    else if bytes_eq text (codes "leave") then Some verbs.Leave
    else if bytes_eq text (codes "delete") then (if nat_le 2 version then Some verbs.Delete else None)
    else None

-- the word of a line; claim and await are from version 3 on
unfoldable pub word_of : ℕ → List ℕ → Option Word
word_of version text =
    if bytes_eq text (codes "chorus") then Some words.Chorus
    else if bytes_eq text (codes "sites") then Some words.Sites
    else if bytes_eq text (codes "port") then Some words.Port
    else if bytes_eq text (codes "group") then Some words.Group
    else if bytes_eq text (codes "member") then Some words.Member
    else if bytes_eq text (codes "script") then Some words.Script
    else if bytes_eq text (codes "schedule") then Some words.Schedule
    else if bytes_eq text (codes "step") then Some words.Step
    else if bytes_eq text (codes "deliver") then Some words.Deliver
    else if bytes_eq text (codes "drain") then Some words.Drain
    else if bytes_eq text (codes "end") then Some words.End
    else if bytes_eq text (codes "claim") then (if nat_le 3 version then Some words.Claim else None)
    else if bytes_eq text (codes "await") then (if nat_le 3 version then Some words.Await else None)
    else option_map words.Command (verb_of version text)

-- the words that may stand where a text has come so far
abbrev pub may_stand : Section → Word → Bool
may_stand sections.Sites words.Sites = true
may_stand sections.Setup words.Port = true
may_stand sections.Setup words.Group = true
may_stand sections.Setup words.Member = true
may_stand sections.Setup words.Script = true
may_stand sections.Setup words.Claim = true
may_stand sections.Setup words.Schedule = true
may_stand sections.Scripts words.Script = true
may_stand sections.Scripts (words.Command verb) = true
may_stand sections.Scripts words.Await = true
may_stand sections.Scripts words.Claim = true
may_stand sections.Scripts words.Schedule = true
may_stand sections.Claims words.Claim = true
may_stand sections.Claims words.Schedule = true
may_stand sections.Schedule words.Step = true
may_stand sections.Schedule words.Deliver = true
may_stand sections.Schedule words.Drain = true
may_stand sections.Schedule words.End = true
may_stand _ _ = false
