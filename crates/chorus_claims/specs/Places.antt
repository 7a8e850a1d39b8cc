-- What stands at each word of a claim, and what is asked of the word there.
-- p is a place, w the word there, sites the number of sites, commands how many commands each script has.
use Rattle.std.specs.Prelude.{ℕ, ◌-◌, ◌^◌, ◌==◌, nat_lt, nat_le, if◌then◌else◌, Bool, true, false, not, ◌&&◌, ◌||◌, List, [], ◌∷◌, length, get_or, Option, Some, None, is_some, codes}
use Rattle.std.specs.List.{list_any}
use Rattle.std.specs.Str.{bytes_eq}
use Rattle.chorus_ui.specs.Decimals.{is_decimal}
use Rattle.chorus_ui.specs.Text.{parse_name}
use Rattle.chorus_ui.specs.Name.{Name}
use Rattle.chorus_ui.specs.NameKind.{is_port, is_actor, is_group}
use Rattle.chorus_ui.specs.declared.limits.TheConstants.{ACTORS_PER_SITE_LIMIT}
use Rattle.chorus_lines.specs.Text.{is_empty, number_in}
use Rattle.chorus_claims.specs.Words.{parts, is_any, is_mark, is_rest, letter_in}
use Rattle.chorus_claims.specs.declared.spelling.Id.{Id}
use Rattle.chorus_claims.specs.declared.place.Place.{Place}
use Rattle.chorus_claims.specs.declared.place.Place.TheVariants.{Start, Script, Command, Act, Verdict, Answer, Only, Copied, Member, Port, Actor, Accepts, Messages, Moving, Mover, Group, Members, Caller, Call, Holder, Goer, NextCommand, Untested, Ended, Nowhere}
use Rattle.chorus_claims.specs.declared.place.Kind.{Kind}
use Rattle.chorus_claims.specs.declared.place.Kind.TheVariants as kinds

-- the facts of a message: verdict ID ANSWER .., stale ID, open ID, copy ID PORT
unfoldable pub message_place : List ℕ → Place
message_place w =
    if bytes_eq w (codes "verdict") then Verdict
    else if bytes_eq w (codes "stale") then Only
    else if bytes_eq w (codes "open") then Only
    else if bytes_eq w (codes "copy") then Copied
    else Nowhere

-- of a port or a group: port PORT ACTOR ID .., accepted PORT ID .., moving PORT ACTOR, members GROUP PORT ..
unfoldable pub port_place : List ℕ → Place
port_place w =
    if bytes_eq w (codes "port") then Port
    else if bytes_eq w (codes "accepted") then Accepts
    else if bytes_eq w (codes "moving") then Moving
    else if bytes_eq w (codes "members") then Group
    else Nowhere

-- of a script: answer SCRIPT COMMAND ACT .., next SCRIPT COMMAND, outstanding SCRIPT NUMBER, hand SCRIPT CLIENT NUMBER
unfoldable pub script_place : List ℕ → Place
script_place w =
    if bytes_eq w (codes "answer") then Script
    else if bytes_eq w (codes "next") then Goer
    else if bytes_eq w (codes "outstanding") then Caller
    else if bytes_eq w (codes "hand") then Holder
    else Nowhere

abbrev pub is_nowhere : Place → Bool
is_nowhere Nowhere = true
is_nowhere _ = false

-- the place itself, or else another
abbrev pub place_or : Place → Place → Place
place_or p q = if is_nowhere p then q else p

abbrev pub first_place : List ℕ → Place
first_place w = place_or (message_place w) (place_or (port_place w) (script_place w))

abbrev pub fact_behind : Place → List ℕ → Place
fact_behind Start w = first_place w
fact_behind Script w = Command (number_in w)
fact_behind (Command script) w = Act
fact_behind Act w = Untested
fact_behind Verdict w = Answer
fact_behind Answer w = Untested
fact_behind Only w = Ended
fact_behind Copied w = Member
fact_behind Member w = Ended
fact_behind Port w = Actor
fact_behind Actor w = Messages
fact_behind Accepts w = Messages
fact_behind Messages w = Messages
fact_behind Moving w = Mover
fact_behind Mover w = Ended
fact_behind Group w = Members
fact_behind Members w = Members
fact_behind Goer w = NextCommand (number_in w)
fact_behind (NextCommand script) w = Ended
fact_behind Holder w = Caller
fact_behind Caller w = Call
fact_behind Call w = Ended
fact_behind Untested w = Untested
fact_behind Ended w = Ended
fact_behind Nowhere w = Nowhere

-- what a word is, at its place
abbrev pub kind_of : Place → Kind
kind_of Script = kinds.Script
kind_of Goer = kinds.Script
kind_of Caller = kinds.Script
kind_of Holder = kinds.Script
kind_of (Command script) = kinds.Command script
kind_of (NextCommand script) = kinds.Command script
kind_of Call = kinds.Number
kind_of Verdict = kinds.Message
kind_of Only = kinds.Message
kind_of Copied = kinds.Message
kind_of Messages = kinds.Message
kind_of Port = kinds.Port
kind_of Accepts = kinds.Port
kind_of Moving = kinds.Port
kind_of Member = kinds.Port
kind_of Members = kinds.Port
kind_of Actor = kinds.Actor
kind_of Mover = kinds.Actor
kind_of Group = kinds.Group
kind_of _ = kinds.Other

abbrev pub is_start : Place → Bool
is_start Start = true
is_start _ = false

-- a fact starts behind a mark, and what stands behind `..` is not tested
abbrev pub place_behind : Place → List ℕ → Place
place_behind p w =
    if is_mark w then Start else if is_rest w && not (is_start p) then Untested else fact_behind p w

-- a fact may end in front of it
abbrev pub may_end : Place → Bool
may_end Messages = true
may_end Members = true
may_end Untested = true
may_end Ended = true
may_end Nowhere = true
may_end _ = false

-- Words that stand for others, which are tested nowhere.

-- `*` or a letter
abbrev pub is_free : List ℕ → Bool
is_free w = is_any w || is_some (letter_in w)

-- these, `..`, or a mark between facts
abbrev pub is_open : List ℕ → Bool
is_open w = is_free w || is_rest w || is_mark w

-- Test 5: the words are those of a fact.

-- an act that answers a command
unfoldable pub is_post_act : List ℕ → Bool
is_post_act w =
    bytes_eq w (codes "post") || bytes_eq w (codes "take") || bytes_eq w (codes "empty") || bytes_eq w (codes "not-here")
    || bytes_eq w (codes "outstanding") || bytes_eq w (codes "no-call") || bytes_eq w (codes "no-request")
    || bytes_eq w (codes "cancel")

unfoldable pub is_port_act : List ℕ → Bool
is_port_act w =
    bytes_eq w (codes "rehome") || bytes_eq w (codes "depart") || bytes_eq w (codes "delete") || bytes_eq w (codes "make")
    || bytes_eq w (codes "make-full") || bytes_eq w (codes "no-actor") || bytes_eq w (codes "no-site")

unfoldable pub is_group_act : List ℕ → Bool
is_group_act w =
    bytes_eq w (codes "group") || bytes_eq w (codes "groups-full") || bytes_eq w (codes "join") || bytes_eq w (codes "leave")
    || bytes_eq w (codes "there") || bytes_eq w (codes "not-there") || bytes_eq w (codes "members-full")
    || bytes_eq w (codes "no-group")

abbrev pub is_act : List ℕ → Bool
is_act w = is_post_act w || is_port_act w || is_group_act w

-- an answer that is a verdict
unfoldable pub is_refusal : List ℕ → Bool
is_refusal w =
    bytes_eq w (codes "full") || bytes_eq w (codes "early") || bytes_eq w (codes "no-port") || bytes_eq w (codes "already")
    || bytes_eq w (codes "clients-full") || bytes_eq w (codes "elsewhere") || bytes_eq w (codes "no-member")
    || bytes_eq w (codes "gone")

abbrev pub is_answer : List ℕ → Bool
is_answer w = bytes_eq w (codes "accepted") || bytes_eq w (codes "chosen") || is_refusal w

-- the first word of a fact
abbrev pub is_fact : List ℕ → Bool
is_fact w = not (is_nowhere (first_place w))

abbrev pub word_fits : Place → List ℕ → Bool
word_fits Start w = is_fact w
word_fits Act w = is_free w || is_rest w || is_act w
word_fits Answer w = is_free w || is_rest w || is_answer w
word_fits Ended w = is_rest w
word_fits _ w = not (is_empty w)

abbrev pub is_word : Place → List ℕ → Bool
is_word p w = if is_mark w then may_end p else word_fits p w

-- Test 6: it is spelled as said.

-- a message: three decimals between colons (58)
abbrev pub id_of : Option ℕ → Option ℕ → Option ℕ → Option Id
id_of (Some s) (Some n) (Some c) = Some (record { seat = s; number = n; copy = c })
id_of (Some s) (Some n) None = None
id_of (Some s) None c = None
id_of None n c = None

abbrev pub id_in_parts : List (List ℕ) → Option Id
id_in_parts [] = None
id_in_parts (s ∷ []) = None
id_in_parts (s ∷ n ∷ []) = None
id_in_parts (s ∷ n ∷ c ∷ []) = id_of (number_in s) (number_in n) (number_in c)
id_in_parts (s ∷ n ∷ c ∷ d ∷ ds) = None

abbrev pub id_in : List ℕ → Option Id
id_in w = id_in_parts (parts 58 w)

abbrev pub is_named : (Name → Bool) → Option Name → Bool
is_named test None = false
is_named test (Some u) = test u

abbrev pub spelled : Kind → List ℕ → Bool
spelled kinds.Script w = is_decimal w
spelled (kinds.Command script) w = is_decimal w
spelled kinds.Number w = is_decimal w
spelled kinds.Message w = is_some (id_in w)
spelled kinds.Port w = is_named is_port (parse_name w)
spelled kinds.Actor w = is_named is_actor (parse_name w)
spelled kinds.Group w = is_named is_group (parse_name w)
spelled kinds.Other w = true

abbrev pub is_spelled : Place → List ℕ → Bool
is_spelled p w = is_open w || spelled (kind_of p) w

-- Test 7: decimals are below 2^64.

abbrev pub is_small : Option ℕ → Bool
is_small None = true
is_small (Some n) = nat_lt n (2 ^ 64)

abbrev pub is_small_id : Option Id → Bool
is_small_id None = true
is_small_id (Some x) = nat_lt x.seat (2 ^ 64) && nat_lt x.number (2 ^ 64) && nat_lt x.copy (2 ^ 64)

abbrev pub within : Kind → List ℕ → Bool
within kinds.Script w = is_small (number_in w)
within (kinds.Command script) w = is_small (number_in w)
within kinds.Number w = is_small (number_in w)
within kinds.Message w = is_small_id (id_in w)
within _ w = true

abbrev pub is_within : Place → List ℕ → Bool
is_within p w = is_open w || within (kind_of p) w

-- Test 8: there is such a one.

-- scripts and commands are numbered from 1
abbrev pub is_numbered : ℕ → ℕ → Bool
is_numbered most n = nat_le 1 n && nat_le n most

-- how many commands the script has
abbrev pub commands_of : List ℕ → ℕ → ℕ
commands_of commands script = if is_numbered (length commands) script then get_or commands (script - 1) 0 else 0

-- a command of the script, or of any
abbrev pub is_command : List ℕ → Option ℕ → ℕ → Bool
is_command commands None n = nat_le 1 n && list_any (λ (most : ℕ). nat_le n most) commands
is_command commands (Some script) n = is_numbered (commands_of commands script) n

abbrev pub is_a_script : List ℕ → Option ℕ → Bool
is_a_script commands None = false
is_a_script commands (Some n) = is_numbered (length commands) n

abbrev pub is_some_command : List ℕ → Option ℕ → Option ℕ → Bool
is_some_command commands script None = false
is_some_command commands script (Some n) = is_command commands script n

abbrev pub is_posted : List ℕ → Option Id → Bool
is_posted commands None = false
is_posted commands (Some x) = is_numbered (commands_of commands x.seat) x.number

abbrev pub is_at_a_site : ℕ → Name → Bool
is_at_a_site sites u = nat_le u.site sites

abbrev pub is_at_an_actor : ℕ → Name → Bool
is_at_an_actor sites u = nat_le u.site sites && nat_le u.number ACTORS_PER_SITE_LIMIT

abbrev pub known : ℕ → List ℕ → Kind → List ℕ → Bool
known sites commands kinds.Script w = is_a_script commands (number_in w)
known sites commands (kinds.Command script) w = is_some_command commands script (number_in w)
known sites commands kinds.Number w = true
known sites commands kinds.Message w = is_posted commands (id_in w)
known sites commands kinds.Port w = is_named (is_at_a_site sites) (parse_name w)
known sites commands kinds.Actor w = is_named (is_at_an_actor sites) (parse_name w)
known sites commands kinds.Group w = is_named (is_at_a_site sites) (parse_name w)
known sites commands kinds.Other w = true

abbrev pub is_known : ℕ → List ℕ → Place → List ℕ → Bool
is_known sites commands p w = is_open w || known sites commands (kind_of p) w
