-- Posting to a port.
use Rattle.std.proofs.Common.{◌≡◌, ℕ, max, ◌+◌, Result, Ok, Err, OnErr, Option, [], ◌∷◌, ◌++◌, length, length-append, refl, sym, ◌∙◌, ap, arith}
use Rattle.chorus_ui.specs.declared.ui.Ui.{Ui}
use Rattle.chorus_hints.specs.Known.{newest_of}
use Rattle.place_unsettled.specs.declared.wait.Wait.{Wait}
use Rattle.place_unsettled.specs.Queues.{Queue, changed, with_last}
use Rattle.law_machine.specs.PlaceState.{Turn, newest, greatest_clock, say, unchanged}
use Rattle.law_machine.specs.Trying.{go}
use Rattle.law_machine.specs.Doing.{direct, post, does, after_tag}
use Rattle.law_machine.specs.Own.{own}
use Rattle.chorus_entry.specs.declared.tag.Tag.{Tag}
use Rattle.chorus_entry.specs.declared.tag.Tag.TheVariants as tags
use Rattle.chorus_entry.specs.declared.act.Act.{Act}
use Rattle.chorus_entry.specs.declared.dest.Dest.{Dest}
use Rattle.chorus_entry.specs.declared.command.Command.{Command}
use Rattle.chorus_entry.specs.declared.message.Message.{Message}
use Rattle.law_machine.specs.declared.reply.Reply.{Reply}
use Rattle.law_machine.specs.Replies.{reply_to, post_reply}
use Rattle.chorus_place.specs.PlaceTables.Commands.{Performed}
use Rattle.chorus_calls.specs.Callers.{after_post}
use Rattle.chorus_place.specs.PlaceTables.Going.{leaving_to, leaving}
use Rattle.chorus_place.specs.PlaceTables.Steps.{posted}
use Rattle.chorus_place.proofs.PlaceTables.MessagesLeave.{leaving-at}
use Rattle.chorus_place.proofs.PlaceTables.Reports.{at-key}

max-same : (n : ℕ) → max n n ≡ n
max-same n = omega arith

pub posted-length : (q : Ui) (m : Message) (t u : Turn) → u ≡ posted m q t
    → length (u.place.waiting (direct q)).waits ≡ length (t.place.waiting (direct q)).waits + 1
posted-length q m t u e =
    ap (λ (x : Turn). length (x.place.waiting (direct q)).waits) e
    ∙ ap (λ (x : Queue). length x.waits) (at-key (direct q) (with_last (post m t.place.number)) t.place.waiting)
    ∙ length-append (t.place.waiting (direct q)).waits _

pub posted-clock : (q : Ui) (m : Message) (t u : Turn) → u ≡ posted m q t → greatest_clock u ≡ greatest_clock t + 1
posted-clock q m t u e = ap greatest_clock e ∙ max-same (greatest_clock t + 1)

pub posted-leaving : (q : Ui) (m : Message) (t u : Turn) (o : Option Wait) (w : Wait) → u ≡ posted m q t → w ≡ post m t.place.number
    → o ≡ leaving_to t.place.layout t.place.number q (newest_of t.place.layout q (t.place.known q)).0 ((t.place.waiting (direct q)).waits ++ w ∷ [])
    → o ≡ leaving (direct q) u.place
posted-leaving q m t u o w e c h =
    h
    ∙ leaving-at t.place.layout t.place.number q (t.place.known q) ((t.place.waiting (direct q)).waits ++ w ∷ [])
    ∙ ap (λ x. leaving_to t.place.layout t.place.number q (newest t.place q).to ((t.place.waiting (direct q)).waits ++ x ∷ [])) c
    ∙ sym (ap (λ (x : Turn). leaving (direct q) x.place) e
    ∙ ap (λ (x : Queue). leaving_to t.place.layout t.place.number q (newest t.place q).to x.waits) (at-key (direct q) (with_last (post m t.place.number)) t.place.waiting))

pub on_err : {A E : Type 0} (r : Result A E) (P : Type 0) → P → OnErr r P
on_err (Ok a) P p = tt
on_err (Err e) P p = p

-- any command that posts to a port
pub post-performs : (command : Command) (m : Message) (q : Ui) (t u : Turn) (r : Reply) → own command t ≡ Act.Post m (Dest.Port q)
    → u ≡ go (direct q) (posted m q (record t { caller = after_tag m.tag q m.body t.caller })) → r ≡ post_reply m.id u.place.journal → Performed command t u r
post-performs command m q t u r o e a =
    record {
      done = e ∙ sym (same m.tag refl) ∙ sym (ap (λ x. does x t) o);
      answer = a ∙ ap (λ (x : Turn). post_reply m.id x.place.journal) (e ∙ sym (same m.tag refl)) ∙ sym (ap (λ x. reply_to x t (does x t)) o);
    }
  where
    -- the turn of a post by a caller whose client and hand are these
    by_tag : Tag → Turn
    by_tag tag =
        go (direct q) (say (Act.Post m (Dest.Port q)) (record (unchanged t) {
          caller = after_post (after_tag tag q m.body t.caller);
          waiting = changed (direct q) (with_last (post m t.place.number)) t.place.waiting;
        }) t)

    by_caller : Tag → Turn
    by_caller tag = go (direct q) (posted m q (record t { caller = after_tag tag q m.body t.caller }))

    each : (tag : Tag) → by_tag tag ≡ by_caller tag
    each tags.Plain = refl
    each (tags.Request number back) = refl
    each (tags.Reply client number) = refl

    same : (tag : Tag) → m.tag ≡ tag → by_tag m.tag ≡ by_caller m.tag
    same tag f = ap by_tag f ∙ each tag ∙ sym (ap by_caller f)
