-- The rules of an audit in words.
use Rattle.std.specs.Prelude.{ℕ, ◌≡◌, ◌==◌, if◌then◌else◌, List, codes}
use Rattle.chorus_entry.specs.declared.act.Act.{Act}
use Rattle.chorus_checker.specs.Rules.{act_number}
use Rattle.chorus_show.specs.Lines.{act_text}
use Rattle.chorus_show.specs.Reading.{first, parts}

abbrev pub rule_words : ℕ → List ℕ
rule_words rule =
    if rule == 0 then codes "the place is none of the layout, or the clock is not above its last one"
    else if rule == 1 then codes "make stands only where the port is its place's next one, with room for 1 to 64"
    else if rule == 2 then codes "make-full stands only where the place has made all its ports"
    else if rule == 3 then codes "no-actor stands only where the layout has no such actor"
    else if rule == 4 then codes "no-site stands only where the layout has no such site"
    else if rule == 5 then codes "post stands only where the id is the caller's next one, and its tag fits"
    else if rule == 6 then codes "accept stands only where the port is held with room and the message is due"
    else if rule == 7 then codes "full stands only where the port is held with no room and the message is due"
    else if rule == 8 then codes "already stands only where the port is held and took this request, or a later one"
    else if rule == 9 then codes "clients-full stands only where the port is held and remembers 64 other clients"
    else if rule == 10 then codes "stale stands only where the message is due and the port left by a later hop"
    else if rule == 11 then codes "early stands only where the message is due and the port is on its way there"
    else if rule == 12 then codes "no-port stands only where the message is due and there is no such port"
    else if rule == 13 then codes "elsewhere stands only where the message is for one site and the port at another"
    else if rule == 14 then codes "no-member stands only where the post is next and its group has no member for it"
    else if rule == 15 then codes "choose stands only where the post is next and these are the members for it"
    else if rule == 16 then codes "try stands only where the message is next to go and the port is located there"
    else if rule == 17 then codes "told stands only where this was decided on what the place tried"
    else if rule == 18 then codes "heard stands only where this became of what the place posted to a group"
    else if rule == 19 then codes "take stands only where the port is held and this message waits first"
    else if rule == 20 then codes "done stands only behind the take of the reply to the caller's call"
    else if rule == 21 then codes "late stands only behind the take of a reply that ends no call of the caller"
    else if rule == 22 then codes "empty stands only where the port is held and nothing waits in it"
    else if rule == 23 then codes "not-here names a port, and does not stand behind the take of a reply"
    else if rule == 24 then codes "rehome stands only where the port is held and the actor is of this site"
    else if rule == 25 then codes "depart stands only where the port is held, and hop, place and actor are its next"
    else if rule == 26 then codes "arrive stands only where the port is on its way by this hop"
    else if rule == 27 then codes "group stands only where the group is its site's next one, at its first place"
    else if rule == 28 then codes "groups-full stands only where the site has made all its groups"
    else if rule == 29 then codes "join stands only where the group is made here, has room and lacks the port"
    else if rule == 30 then codes "leave stands only where the group is made here and has the port"
    else if rule == 31 then codes "no-group stands only where there is no such group"
    else if rule == 32 then codes "there stands only where the group is made here and has the port"
    else if rule == 33 then codes "not-there stands only where the group is made here and lacks the port"
    else if rule == 34 then codes "members-full stands only where the group is made here and has 32 members"
    else if rule == 35 then codes "outstanding stands only where this call of the caller is outstanding"
    else if rule == 36 then codes "no-call stands only where no call of the caller is outstanding"
    else if rule == 37 then codes "no-request stands only where the caller holds no request"
    else if rule == 38 then codes "cancel stands only where this call of the caller is outstanding"
    else if rule == 39 then codes "delete stands only where the port is held and these messages wait in it"
    else if rule == 40 then codes "gone stands only where the message is due and the port was deleted there"
    else codes "no line that may stand here"

-- the words of a rule begin with the word of the act that it refuses
abbrev pub EachRuleNamesItsAct : Type 0
EachRuleNamesItsAct = (a : Act) → first (parts 32 (rule_words (act_number a))) ≡ first (parts 32 (act_text a))
