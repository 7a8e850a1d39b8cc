-- Messages: what the table has of a message, and what an entry makes of it.
use Rattle.std.specs.Prelude.{ℕ, ◌≡◌, ◌==◌, Bool, true, false, ◌&&◌, ◌||◌, cond, List, [], ◌∷◌, Option, Some, None, unwrap_or}
use Rattle.std.specs.Option.{option_or}
use Rattle.std.specs.HashMap.{HashMap, get}
use Rattle.chorus_entry.specs.declared.entry.Entry.{Entry}
use Rattle.chorus_entry.specs.declared.id.MsgId.{MsgId}
use Rattle.chorus_entry.specs.declared.act.Act.{Act}
use Rattle.chorus_entry.specs.declared.act.Act.TheVariants.{Post, NoMember, Choose}
use Rattle.chorus_entry.specs.MsgId.{same_id}
use Rattle.chorus_world.specs.declared.progress.Progress.TheVariants.{Idle}
use Rattle.chorus_world.specs.declared.place.Sent.{Sent}
use Rattle.chorus_world.specs.Views.{by, about, is_about}
use Rattle.chorus_world.specs.Messages.{progress_after, progress, verdict_by, verdict}
use Rattle.chorus_world.specs.Places.{sent_to, copies, sent_by, find_sent, settles, tried_after}
use Rattle.chorus_world.specs.Posts.{Posted, posted_by, posted_in}
use Rattle.chorus_world.specs.Groups.{chooses, is_chosen}
use Rattle.checker_rows.specs.declared.posting.Posting.{Posting}
use Rattle.checker_rows.specs.declared.sending.Sending.{Sending}
use Rattle.checker_rows.specs.declared.messages.MessageRow.{MessageRow}

-- what a post is without its body
abbrev pub in_brief : Option Posted → Option Posting
in_brief None = None
in_brief (Some m) = Some (record { place = m.place; tag = m.message.tag; dest = m.dest })

-- what was sent, with the place that it was sent from
abbrev pub sending_at : ℕ → Option Sent → Option Sending
sending_at p None = None
sending_at p (Some m) = Some (record { place = p; port = m.port; route = m.route })

-- what an entry sends under the id x, and the first that was sent under it
abbrev pub sending_by : MsgId → Entry → Option Sending
sending_by x e = sending_at e.place (find_sent x (sent_by e.act))

abbrev pub sending : MsgId → List Entry → Option Sending
sending x [] = None
sending x (e ∷ past) = option_or (sending x past) (sending_by x e)

-- it was sent from the place p
abbrev pub is_from : ℕ → Option Sending → Bool
is_from p None = false
is_from p (Some s) = p == s.place

-- as the place p sent it, where it did
abbrev pub sent_from : ℕ → MsgId → Option Sending → Option Sent
sent_from p x None = None
sent_from p x (Some s) = cond (p == s.place) (Some (record { id = x; port = s.port; route = s.route })) None

-- the place that sent it has settled it since
abbrev pub is_over : MsgId → List Entry → Bool
is_over x [] = false
is_over x (e ∷ past) = (is_from e.place (sending x past) && settles x e.act) || is_over x past

-- a try stands there that was not told yet
abbrev pub is_away : MsgId → List Entry → Bool
is_away x [] = false
is_away x (e ∷ past) =
    cond (is_from e.place (sending x past)) (tried_after x e.act (is_away x past)) (is_away x past)

-- The row.

abbrev pub no_message : MessageRow
no_message =
    record { progress = Idle; verdict = None; post = None; sent = None; settled = false; tried = false; chosen = false }

abbrev pub message_in : {S : Type 0} → HashMap MsgId MessageRow S → MsgId → MessageRow
message_in t x = unwrap_or (get same_id t x) no_message

-- what the past says of the message x; the post is the one under this very id
abbrev pub message_row : List Entry → MsgId → MessageRow
message_row past x =
    record {
      progress = progress (about x past);
      verdict = verdict x past;
      post = in_brief (posted_in x (by x.seat past));
      sent = sending x past;
      settled = is_over x past;
      tried = is_away x past;
      chosen = is_chosen x past;
    }

-- as the place p sent it
abbrev pub sent_in : {S : Type 0} → HashMap MsgId MessageRow S → ℕ → MsgId → Option Sent
sent_in t p x = sent_from p x (message_in t x).sent

abbrev pub posted_under : MsgId → Entry → Option Posting
posted_under x e = cond (e.seat == x.seat) (in_brief (posted_by x e.place e.act)) None

-- what the place that sent it knows, after an entry
abbrev pub settled_after : MsgId → Entry → MessageRow → Bool
settled_after x e r = (is_from e.place r.sent && settles x e.act) || r.settled

abbrev pub away_after : MsgId → Entry → MessageRow → Bool
away_after x e r = cond (is_from e.place r.sent) (tried_after x e.act r.tried) r.tried

abbrev pub chosen_after : MsgId → Entry → MessageRow → Bool
chosen_after x e r = chooses x e.act || r.chosen

abbrev pub message_after : MsgId → Entry → MessageRow → MessageRow
message_after x e r =
    record {
      progress = cond (is_about (Some x) e) (progress_after e.place e.act r.progress) r.progress;
      verdict = option_or r.verdict (verdict_by x e.act);
      post = option_or r.post (posted_under x e);
      sent = option_or r.sent (sending_by x e);
      settled = settled_after x e r;
      tried = away_after x e r;
      chosen = chosen_after x e r;
    }

-- the rows after an entry
abbrev pub MessagesAfter : Entry → (MsgId → MessageRow) → (MsgId → MessageRow) → Type 0
MessagesAfter e old new = (x : MsgId) → new x ≡ message_after x e (old x)

-- The parts of it: the entry's message with what a post sends, and the copies of a choice.

abbrev pub is_choosing : Act → Bool
is_choosing (Choose y g qs) = true
is_choosing (NoMember y g) = true
is_choosing _ = false

abbrev pub posts_as : MsgId → ℕ → Act → Option Sending
posts_as x p (Post m d) = sending_at p (find_sent x (sent_to m.id d))
posts_as x p _ = None

abbrev pub copies_as : MsgId → ℕ → Act → Option Sending
copies_as x p (Choose y g qs) = sending_at p (find_sent x (copies y g 1 qs))
copies_as x p _ = None

abbrev pub about_after : MsgId → Entry → MessageRow → MessageRow
about_after x e r = record (message_after x e r) { sent = option_or r.sent (posts_as x e.place e.act) }

abbrev pub AboutAfter : Entry → (MsgId → MessageRow) → (MsgId → MessageRow) → Type 0
AboutAfter e old new = (x : MsgId) → new x ≡ about_after x e (old x)

-- the row has this too, where it has nothing sent
abbrev pub with_sending : Option Sending → MessageRow → MessageRow
with_sending None r = r
with_sending (Some s) r = record r { sent = option_or r.sent (Some s) }

abbrev pub IsAdded : MsgId → Sending → (MsgId → MessageRow) → (MsgId → MessageRow) → Type 0
IsAdded key s old new = (x : MsgId) → new x ≡ cond (same_id key x) (with_sending (Some s) (old x)) (old x)

abbrev pub CopiesAfter : Entry → (MsgId → MessageRow) → (MsgId → MessageRow) → Type 0
CopiesAfter e old new = (x : MsgId) → new x ≡ with_sending (copies_as x e.place e.act) (old x)

abbrev pub AreAdded : ℕ → List Sent → (MsgId → MessageRow) → (MsgId → MessageRow) → Type 0
AreAdded p ms old new = (x : MsgId) → new x ≡ with_sending (sending_at p (find_sent x ms)) (old x)
