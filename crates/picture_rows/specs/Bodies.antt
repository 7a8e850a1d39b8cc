-- Bodies: what is said of a message behind an act that takes it, refuses it or receives it.
-- x is the id of a message, e an entry. A past has its newest entry first.
use Rattle.std.specs.Prelude.{ℕ, ◌≡◌, ◌+◌, ◌==◌, if◌then◌else◌, List, [], ◌++◌, take, codes, Option, Some, None}
use Rattle.std.specs.Option.{option_map, option_or}
use Rattle.std.specs.HashMap.{get}
use Rattle.chorus_entry.specs.declared.entry.Entry.{Entry}
use Rattle.chorus_entry.specs.declared.id.MsgId.{MsgId}
use Rattle.chorus_entry.specs.declared.act.Act.{Act}
use Rattle.chorus_entry.specs.declared.act.Act.TheVariants.{Accept, Full, Already, ClientsFull, Stale, Early, NoPort, Elsewhere, NoMember, Take, Gone}
use Rattle.chorus_entry.specs.MsgId.{same_id}
use Rattle.chorus_show.specs.Phrases.{escaped_body}
use Rattle.chorus_world.specs.Posts.{Posted, post_of, posted_by, source}
use Rattle.picture_texts.specs.Filling.{shown_body}
use Rattle.picture_texts.specs.declared.limits.TheConstants.{SHOWN_BODY_LIMIT}
use Rattle.picture_rows.specs.declared.bodies.Bodies.{Bodies}

-- a port takes it or refuses it, nobody is there for it, or it is received
abbrev pub message_noted : Act → Option MsgId
message_noted (Accept x q n) = Some x
message_noted (Full x q n) = Some x
message_noted (Already x q) = Some x
message_noted (ClientsFull x q) = Some x
message_noted (Stale x q tried to hop) = Some x
message_noted (Early x q hop) = Some x
message_noted (NoPort x q) = Some x
message_noted (Elsewhere x q to hop) = Some x
message_noted (NoMember x g) = Some x
message_noted (Take q n x) = Some x
message_noted (Gone x q) = Some x
message_noted _ = None

-- what is shown of a body; that it is cut, one byte more tells
abbrev pub body_note : List ℕ → List ℕ
body_note body =
    codes "<tspan class='body'>  " ++ shown_body (escaped_body (take (1 + SHOWN_BODY_LIMIT) body)) ++ codes "</tspan>"

abbrev pub note_of : Option Posted → Option (List ℕ)
note_of post = option_map (λ m. body_note m.message.body) post

abbrev pub note_text : Option (List ℕ) → List ℕ
note_text None = []
note_text (Some text) = text

-- the note behind an act, by what was posted so far
abbrev pub note_about : List Entry → Option MsgId → List ℕ
note_about past None = []
note_about past (Some x) = note_text (note_of (post_of x past))

abbrev pub note : List Entry → Act → List ℕ
note past a = note_about past (message_noted a)

-- What is kept of the entries: the note of each message that was posted.

abbrev pub noted : Bodies → MsgId → Option (List ℕ)
noted b x = option_map (λ text. text.items) (get same_id b.notes (source x))

abbrev pub AreNotes : (MsgId → Option (List ℕ)) → List Entry → Type 0
AreNotes notes past = (x : MsgId) → notes x ≡ note_of (post_of x past)

abbrev pub AreBodies : Bodies → List Entry → Type 0
AreBodies b past = AreNotes (noted b) past

-- the note of a message that this entry posts
abbrev pub note_made : MsgId → Entry → Option (List ℕ)
note_made x e = if e.seat == x.seat then note_of (posted_by (source x) e.place e.act) else None

-- the first one stays
abbrev pub NotesAfter : Entry → (MsgId → Option (List ℕ)) → (MsgId → Option (List ℕ)) → Type 0
NotesAfter e old new = (x : MsgId) → new x ≡ option_or (old x) (note_made x e)

abbrev pub BodiesAfter : Entry → Bodies → Bodies → Type 0
BodiesAfter e old new = NotesAfter e (noted old) (noted new)

-- the note behind an act, by what is kept
abbrev pub note_kept : (MsgId → Option (List ℕ)) → Option MsgId → List ℕ
note_kept notes None = []
note_kept notes (Some x) = note_text (notes x)
