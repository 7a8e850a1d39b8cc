-- Reading: what the words of a line say.
-- Of the words of an entry's line this is the entry. Of other words it may be anything: whether they are an entry's
-- line is told by printing what they say.
use Rattle.std.specs.Prelude.{ℕ, ◌+◌, ◌-◌, ◌*◌, ◌^◌, ◌==◌, nat_lt, nat_le, ◌&&◌, Bool, not, if◌then◌else◌, Option, Some, None, option_map, List, [], ◌∷◌, codes}
use Rattle.std.specs.List.{slice_split, join_with_byte, list_all}
use Rattle.std.specs.Str.{bytes_eq}
use Rattle.chorus_ui.specs.Decimals.{parse_decimal}
use Rattle.chorus_ui.specs.Text.{parse_name}
use Rattle.chorus_entry.specs.declared.id.MsgId.{MsgId}
use Rattle.chorus_entry.specs.declared.dest.Dest.{Dest}
use Rattle.chorus_entry.specs.declared.dest.Dest.TheVariants as D
use Rattle.chorus_entry.specs.declared.tag.Tag.{Tag}
use Rattle.chorus_entry.specs.declared.tag.Tag.TheVariants as T
use Rattle.chorus_entry.specs.declared.answer.Answer.{Answer}
use Rattle.chorus_entry.specs.declared.answer.Answer.TheVariants as A
use Rattle.chorus_entry.specs.declared.act.Act.{Act}
use Rattle.chorus_entry.specs.declared.act.Act.TheVariants.{Make, MakeFull, NoActor, NoSite, Post, Accept, Full, Already, ClientsFull, Stale, Early, NoPort, Elsewhere, NoMember, Choose, Try, Told, Heard, Take, Done, Late, Empty, NotHere, Rehome, Depart, Arrive, GroupMake, GroupsFull, Join, Leave, NoGroup, There, NotThere, MembersFull, Outstanding, NoCall, NoRequest, Cancel, Delete, Gone}
use Rattle.chorus_entry.specs.declared.entry.Entry.{Entry}

-- the byte is not in the text
abbrev pub lacks : ℕ → List ℕ → Bool
lacks c t = list_all (λ x. not (x == c)) t

-- the words of a text, cut at a byte: at 32, the space, or at 58, the colon
abbrev pub parts : ℕ → List ℕ → List (List ℕ)
parts c = slice_split (λ x. x == c)

-- the first word, and those behind it
abbrev pub first : List (List ℕ) → List ℕ
first [] = []
first (t ∷ ts) = t

abbrev pub rest : List (List ℕ) → List (List ℕ)
rest [] = []
rest (t ∷ ts) = ts

abbrev pub second : List (List ℕ) → List ℕ
second ts = first (rest ts)

abbrev pub third : List (List ℕ) → List ℕ
third ts = second (rest ts)

abbrev pub fourth : List (List ℕ) → List ℕ
fourth ts = third (rest ts)

abbrev pub fifth : List (List ℕ) → List ℕ
fifth ts = fourth (rest ts)

-- several things, where each is there
abbrev pub two : {A B : Type 0} → Option A → Option B → Option (A × B)
two (Some a) (Some b) = Some (a, b)
two (Some a) None = None
two None b = None

abbrev pub three : {A B C : Type 0} → Option A → Option B → Option C → Option (A × B × C)
three (Some a) (Some b) (Some c) = Some (a, b, c)
three (Some a) (Some b) None = None
three (Some a) None c = None
three None b c = None

abbrev pub four : {A B C D : Type 0} → Option A → Option B → Option C → Option D → Option (A × B × C × D)
four (Some a) (Some b) (Some c) (Some d) = Some (a, b, c, d)
four (Some a) (Some b) (Some c) None = None
four (Some a) (Some b) None d = None
four (Some a) None c d = None
four None b c d = None

abbrev pub five : {A B C D E : Type 0} → Option A → Option B → Option C → Option D → Option E →
    Option (A × B × C × D × E)
five (Some a) (Some b) (Some c) (Some d) (Some e) = Some (a, b, c, d, e)
five (Some a) (Some b) (Some c) (Some d) None = None
five (Some a) (Some b) (Some c) None e = None
five (Some a) (Some b) None d e = None
five (Some a) None c d e = None
five None b c d e = None

-- what each word says, where each says something
abbrev pub onto : {A : Type 0} → Option A → Option (List A) → Option (List A)
onto (Some a) (Some more) = Some (a ∷ more)
onto (Some a) None = None
onto None more = None

abbrev pub each : {A : Type 0} → (List ℕ → Option A) → List (List ℕ) → Option (List A)
each in_word [] = Some []
each in_word (t ∷ ts) = onto (in_word t) (each in_word ts)

-- a number of so many bits
abbrev pub below : ℕ → Option ℕ → Option ℕ
below bound None = None
below bound (Some n) = if nat_lt n bound then Some n else None

abbrev pub u8_in : List ℕ → Option ℕ
u8_in t = below (2 ^ 8) (parse_decimal t)

abbrev pub u16_in : List ℕ → Option ℕ
u16_in t = below (2 ^ 16) (parse_decimal t)

abbrev pub u32_in : List ℕ → Option ℕ
u32_in t = below (2 ^ 32) (parse_decimal t)

abbrev pub id_of : ℕ × ℕ × ℕ → MsgId
id_of n = record { seat = n.0; number = n.1; copy = n.2 }

abbrev pub id_in_parts : List (List ℕ) → Option MsgId
id_in_parts ps = option_map id_of (three (u32_in (first ps)) (u32_in (second ps)) (u16_in (third ps)))

abbrev pub id_in : List ℕ → Option MsgId
id_in t = id_in_parts (parts 58 t)

-- the value of a hexadecimal digit
abbrev pub digit_in : ℕ → ℕ
digit_in c = if nat_le 48 c && nat_le c 57 then c - 48 else if nat_le 97 c && nat_le c 102 then c - 87 else 0

-- the bytes of an escaped text; `seen` is what was read of an escape: nothing, its `%`, or its first digit too
abbrev pub unescape : Option (Option ℕ) → List ℕ → List ℕ
unescape seen [] = []
unescape None (c ∷ cs) = if c == 37 then unescape (Some None) cs else c ∷ unescape None cs
unescape (Some None) (c ∷ cs) = unescape (Some (Some (digit_in c))) cs
unescape (Some (Some d)) (c ∷ cs) = (d * 16 + digit_in c) ∷ unescape None cs

-- 61 is the `=` before a body
abbrev pub body_in : List ℕ → Option (List ℕ)
body_in [] = None
body_in (c ∷ cs) = if c == 61 then Some (unescape None cs) else None

-- a destination, a tag, and the words behind them
unfoldable pub dest_in : List (List ℕ) → Option Dest
dest_in ts =
    if bytes_eq (first ts) (codes "port") then option_map D.Port (parse_name (second ts))
    else if bytes_eq (first ts) (codes "all") then option_map D.All (parse_name (second ts))
    else if bytes_eq (first ts) (codes "one") then option_map D.One (parse_name (second ts))
    else if bytes_eq (first ts) (codes "at") then option_map (λ p. D.OneAt p.0 p.1)
    (two (parse_name (second ts)) (u16_in (third ts)))
    else None

abbrev pub behind_dest : List (List ℕ) → List (List ℕ)
behind_dest ts = if bytes_eq (first ts) (codes "at") then rest (rest (rest ts)) else rest (rest ts)

unfoldable pub tag_in : List (List ℕ) → Option Tag
tag_in ts =
    if bytes_eq (first ts) (codes "plain") then Some T.Plain
    else if bytes_eq (first ts) (codes "request") then option_map (λ p. T.Request p.0 p.1)
    (two (u32_in (second ts)) (parse_name (third ts)))
    else if bytes_eq (first ts) (codes "reply") then option_map (λ p. T.Reply p.0 p.1)
    (two (u32_in (second ts)) (u32_in (third ts)))
    else None

abbrev pub behind_tag : List (List ℕ) → List (List ℕ)
behind_tag ts = if bytes_eq (first ts) (codes "plain") then rest ts else rest (rest (rest ts))

-- a body goes to the end of its line
abbrev pub post_of : MsgId × Dest × Tag × List ℕ → Act
post_of p = Post (record { id = p.0; tag = p.2; body = p.3 }) p.1

abbrev pub post_in : List (List ℕ) → Option Act
post_in ts =
    option_map post_of (four (id_in (first ts)) (dest_in (rest ts)) (tag_in (behind_dest (rest ts)))
    (body_in (join_with_byte 32 (behind_tag (behind_dest (rest ts))))))

abbrev pub choose_in : List (List ℕ) → Option Act
choose_in ts = option_map (λ p. Choose p.0 p.1 p.2) (three (id_in (first ts)) (parse_name (second ts))
    (each parse_name (rest (rest ts))))

abbrev pub delete_in : List (List ℕ) → Option Act
delete_in ts = option_map (λ p. Delete p.0 p.1) (two (parse_name (first ts)) (each id_in (rest ts)))

unfoldable pub answer_in : List (List ℕ) → Option Answer
answer_in ts =
    if bytes_eq (first ts) (codes "accepted") then option_map A.Accepted (parse_decimal (second ts))
    else if bytes_eq (first ts) (codes "full") then option_map A.Full (u8_in (second ts))
    else if bytes_eq (first ts) (codes "stale") then option_map (λ p. A.Stale p.0 p.1)
    (two (u16_in (second ts)) (parse_decimal (third ts)))
    else if bytes_eq (first ts) (codes "early") then option_map A.Early (parse_decimal (second ts))
    else if bytes_eq (first ts) (codes "no-port") then Some A.NoPort
    else if bytes_eq (first ts) (codes "already") then Some A.Already
    else if bytes_eq (first ts) (codes "clients-full") then Some A.ClientsFull
    else if bytes_eq (first ts) (codes "elsewhere") then option_map (λ p. A.Elsewhere p.0 p.1)
    (two (u16_in (second ts)) (parse_decimal (third ts)))
    else if bytes_eq (first ts) (codes "no-member") then Some A.NoMember
    else if bytes_eq (first ts) (codes "chosen") then option_map A.Chosen (u16_in (second ts))
    else if bytes_eq (first ts) (codes "gone") then Some A.Gone
    else None

-- an act, by its kind and the words behind it
-- the end of calls
unfoldable pub call_of : List ℕ → List (List ℕ) → Option Act
call_of kind ws =
    if bytes_eq kind (codes "outstanding") then option_map Outstanding (u32_in (first ws))
    else if bytes_eq kind (codes "no-call") then Some NoCall
    else if bytes_eq kind (codes "no-request") then Some NoRequest
    else if bytes_eq kind (codes "cancel") then option_map Cancel (u32_in (first ws))
    else None

-- groups
unfoldable pub group_of : List ℕ → List (List ℕ) → Option Act
group_of kind ws =
    if bytes_eq kind (codes "group") then option_map GroupMake (parse_name (first ws))
    else if bytes_eq kind (codes "groups-full") then option_map GroupsFull (u16_in (first ws))
    else if bytes_eq kind (codes "join") then option_map (λ p. Join p.0 p.1)
    (two (parse_name (first ws)) (parse_name (second ws)))
    else if bytes_eq kind (codes "leave") then option_map (λ p. Leave p.0 p.1)
    (two (parse_name (first ws)) (parse_name (second ws)))
    else if bytes_eq kind (codes "no-group") then option_map NoGroup (parse_name (first ws))
    else if bytes_eq kind (codes "there") then option_map (λ p. There p.0 p.1)
    (two (parse_name (first ws)) (parse_name (second ws)))
    else if bytes_eq kind (codes "not-there") then option_map (λ p. NotThere p.0 p.1)
    (two (parse_name (first ws)) (parse_name (second ws)))
    else if bytes_eq kind (codes "members-full") then option_map MembersFull (parse_name (first ws))
    else call_of kind ws

-- ports and what is received from them
unfoldable pub port_of : List ℕ → List (List ℕ) → Option Act
port_of kind ws =
    if bytes_eq kind (codes "take") then option_map (λ p. Take p.0 p.1 p.2)
    (three (parse_name (first ws)) (parse_decimal (second ws)) (id_in (third ws)))
    else if bytes_eq kind (codes "done") then option_map Done (u32_in (first ws))
    else if bytes_eq kind (codes "late") then option_map Late (u32_in (first ws))
    else if bytes_eq kind (codes "empty") then option_map Empty (parse_name (first ws))
    else if bytes_eq kind (codes "not-here") then option_map NotHere (parse_name (first ws))
    else if bytes_eq kind (codes "rehome") then option_map (λ p. Rehome p.0 p.1)
    (two (parse_name (first ws)) (parse_name (second ws)))
    else if bytes_eq kind (codes "depart") then option_map (λ p. Depart p.0 p.1 p.2 p.3)
    (four (parse_name (first ws)) (u16_in (second ws)) (parse_name (third ws)) (parse_decimal (fourth ws)))
    else if bytes_eq kind (codes "arrive") then option_map (λ p. Arrive p.0 p.1)
    (two (parse_name (first ws)) (parse_decimal (second ws)))
    else if bytes_eq kind (codes "delete") then delete_in ws
    else group_of kind ws

-- the choice of members, and what another place says
unfoldable pub news_of : List ℕ → List (List ℕ) → Option Act
news_of kind ws =
    if bytes_eq kind (codes "choose") then choose_in ws
    else if bytes_eq kind (codes "try") then option_map (λ p. Try p.0 p.1 p.2 p.3)
    (four (id_in (first ws)) (parse_name (second ws)) (u16_in (third ws)) (parse_decimal (fourth ws)))
    else if bytes_eq kind (codes "told") then option_map (λ p. Told p.0 p.1)
    (two (id_in (first ws)) (answer_in (rest ws)))
    else if bytes_eq kind (codes "heard") then option_map (λ p. Heard p.0 p.1)
    (two (id_in (first ws)) (answer_in (rest ws)))
    else port_of kind ws

-- how a message is decided
unfoldable pub decision_of : List ℕ → List (List ℕ) → Option Act
decision_of kind ws =
    if bytes_eq kind (codes "accept") then option_map (λ p. Accept p.0 p.1 p.2)
    (three (id_in (first ws)) (parse_name (second ws)) (parse_decimal (third ws)))
    else if bytes_eq kind (codes "full") then option_map (λ p. Full p.0 p.1 p.2)
    (three (id_in (first ws)) (parse_name (second ws)) (u8_in (third ws)))
    else if bytes_eq kind (codes "already") then option_map (λ p. Already p.0 p.1)
    (two (id_in (first ws)) (parse_name (second ws)))
    else if bytes_eq kind (codes "clients-full") then option_map (λ p. ClientsFull p.0 p.1)
    (two (id_in (first ws)) (parse_name (second ws)))
    else if bytes_eq kind (codes "stale") then option_map (λ p. Stale p.0 p.1 p.2 p.3 p.4)
    (five (id_in (first ws)) (parse_name (second ws)) (parse_decimal (third ws)) (u16_in (fourth ws))
    (parse_decimal (fifth ws)))
    else if bytes_eq kind (codes "early") then option_map (λ p. Early p.0 p.1 p.2)
    (three (id_in (first ws)) (parse_name (second ws)) (parse_decimal (third ws)))
    else if bytes_eq kind (codes "no-port") then option_map (λ p. NoPort p.0 p.1)
    (two (id_in (first ws)) (parse_name (second ws)))
    else if bytes_eq kind (codes "elsewhere") then option_map (λ p. Elsewhere p.0 p.1 p.2 p.3)
    (four (id_in (first ws)) (parse_name (second ws)) (u16_in (third ws)) (parse_decimal (fourth ws)))
    else if bytes_eq kind (codes "no-member") then option_map (λ p. NoMember p.0 p.1)
    (two (id_in (first ws)) (parse_name (second ws)))
    else if bytes_eq kind (codes "gone") then option_map (λ p. Gone p.0 p.1)
    (two (id_in (first ws)) (parse_name (second ws)))
    else news_of kind ws

-- what a command makes
unfoldable pub act_of : List ℕ → List (List ℕ) → Option Act
act_of kind ws =
    if bytes_eq kind (codes "make") then option_map (λ p. Make p.0 p.1 p.2)
    (three (parse_name (first ws)) (parse_name (second ws)) (u8_in (third ws)))
    else if bytes_eq kind (codes "make-full") then option_map MakeFull (parse_name (first ws))
    else if bytes_eq kind (codes "no-actor") then option_map NoActor (parse_name (first ws))
    else if bytes_eq kind (codes "no-site") then option_map NoSite (u16_in (first ws))
    else if bytes_eq kind (codes "post") then post_in ws
    else decision_of kind ws

abbrev pub act_in : List (List ℕ) → Option Act
act_in ts = act_of (first ts) (rest ts)

abbrev pub entry_of : ℕ × ℕ × ℕ × Act → Entry
entry_of p = record { clock = p.0; place = p.1; seat = p.2; act = p.3 }

abbrev pub entry_in : List (List ℕ) → Option Entry
entry_in ts = option_map entry_of (four (parse_decimal (first ts)) (u16_in (second ts)) (u32_in (third ts))
    (act_in (rest (rest (rest ts)))))
