-- What is kept of the messages that were posted, behind one entry more.
use Rattle.std.proofs.Common.{◌≡◌, ℕ, ◌==◌, Bool, true, false, cond, List, ◌∷◌, Option, None, Some, refl, sym, ap, ◌∙◌}
use Rattle.std.specs.Option.{option_or}
use Rattle.chorus_entry.specs.declared.entry.Entry.{Entry}
use Rattle.chorus_entry.specs.declared.id.MsgId.{MsgId}
use Rattle.chorus_entry.specs.declared.act.Act.{Act}
use Rattle.chorus_world.specs.Posts.{Posted, post_of, posted_by, posted_in, source}
use Rattle.chorus_world.specs.Views.{by}
use Rattle.picture_rows.specs.Bodies.{AreNotes, NotesAfter, message_noted, note, note_about, note_kept, note_made, note_of, note_text}

or_none : (o : Option (List ℕ)) → option_or o None ≡ o
or_none None = refl
or_none (Some x) = refl

of_or : (a b : Option Posted) → note_of (option_or a b) ≡ option_or (note_of a) (note_of b)
of_or None b = refl
of_or (Some x) b = refl

-- what an entry posts stands where nothing stood
of_next : (x : MsgId) (e : Entry) (past : List Entry) → note_of (post_of x (e ∷ past)) ≡ option_or (note_of (post_of x past)) (note_made x e)
of_next x e past = go (e.seat == x.seat)
  where
    go : (b : Bool)
        → note_of (posted_in (source x) (cond b (e ∷ by x.seat past) (by x.seat past)))
        ≡ option_or (note_of (posted_in (source x) (by x.seat past))) (cond b (note_of (posted_by (source x) e.place e.act)) None)
    go true = of_or (posted_in (source x) (by x.seat past)) (posted_by (source x) e.place e.act)
    go false = sym (or_none (note_of (posted_in (source x) (by x.seat past))))

pub notes_next : (old new : MsgId → Option (List ℕ)) (past : List Entry) (e : Entry) → AreNotes old past → NotesAfter e old new → AreNotes new (e ∷ past)
notes_next old new past e h after = λ x. after x ∙ ap (λ o. option_or o (note_made x e)) (h x) ∙ sym (of_next x e past)

-- the note that is kept is that of what was posted
pub note_is : (notes : MsgId → Option (List ℕ)) (past : List Entry) (a : Act) → AreNotes notes past → note_kept notes (message_noted a) ≡ note past a
note_is notes past a h = go (message_noted a)
  where
    go : (o : Option MsgId) → note_kept notes o ≡ note_about past o
    go None = refl
    go (Some x) = ap note_text (h x)
