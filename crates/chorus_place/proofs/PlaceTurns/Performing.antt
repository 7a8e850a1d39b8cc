-- What the machine does on a command at a port, by what its code found.
use Rattle.std.proofs.Common.{◌≡◌, ℕ, Bool, true, false, not, cond, Option, Some, None, is_some, unwrap_or, List, [], ◌∷◌, refl, sym, ◌∙◌, ap}
use Rattle.std.proofs.lemmas.Bool.{false≢true}
use Rattle.chorus_ui.specs.declared.ui.Ui.{Ui}
use Rattle.chorus_ui.specs.declared.layout.Layout.{Layout}
use Rattle.chorus_ui.specs.Layout.{has_actor, home, creation_place, place_at}
use Rattle.chorus_ui.specs.Name.{same_ui}
use Rattle.chorus_entry.specs.declared.id.MsgId.{MsgId}
use Rattle.chorus_entry.specs.declared.tag.Tag.{Tag}
use Rattle.chorus_entry.specs.declared.tag.Tag.TheVariants as tags
use Rattle.chorus_entry.specs.declared.message.Message.{Message}
use Rattle.chorus_entry.specs.declared.act.Act.{Act}
use Rattle.chorus_entry.specs.declared.command.Command.{Command}
use Rattle.chorus_entry.specs.declared.record.PortRecord.{PortRecord}
use Rattle.chorus_entry.specs.Places.{place_for}
use Rattle.chorus_world.specs.Steps.{is_full_of_ports}
use Rattle.chorus_calls.specs.declared.client.Settle.{Settle}
use Rattle.chorus_calls.specs.Callers.{Seated, after_tick}
use Rattle.chorus_ports.specs.declared.taking.Taken.{Taken}
use Rattle.chorus_ports.specs.declared.taking.Taken.TheVariants as T
use Rattle.chorus_ports.specs.Table.{find, replace}
use Rattle.chorus_ports.specs.Taking.{taken, taken_from, first_at, passed, after_take}
use Rattle.law_machine.specs.declared.reply.Reply.{Reply}
use Rattle.chorus_world.specs.Answer.{make_for}
use Rattle.law_machine.specs.PlaceState.{PlaceState, Turn, next_clock}
use Rattle.law_machine.specs.Own.{own, next_port, take_act}
use Rattle.law_machine.specs.Doing.{does, takes, with_ports, first_message, ends, holding}
use Rattle.law_machine.specs.Replies.{reply_to, settling, taken_reply}
use Rattle.chorus_place.specs.PlaceTables.Ports.{takes_from}
use Rattle.chorus_place.specs.PlaceTables.Commands.{Performed}

-- the command's own act is this one, and it was done
pub performs : (c : Command) (x : Act) (t mid u : Turn) (r : Reply) → mid ≡ t → own c t ≡ x → u ≡ does x mid → r ≡ reply_to x t (does x t) → Performed c t u r
performs c x t mid u r e o d a =
    record {
      done = d ∙ ap (does x) e ∙ sym (ap (λ y. does y t) o);
      answer = a ∙ sym (ap (λ y. reply_to y t (does y t)) o);
    }

-- Making.

pub home-here : (l : Layout) (a caller : Ui) (n p : ℕ) → place_for l caller (Command.Make a n) ≡ p → is_some (home l a) ≡ true → creation_place l a ≡ p
home-here l a caller n p here some = by (has_actor l a) here some
  where
    by : (b : Bool) → unwrap_or (cond b (Some (creation_place l a)) None) (place_at l caller.site caller) ≡ p → is_some (cond b (Some (creation_place l a)) None) ≡ true
        → creation_place l a ≡ p
    by true e h = e
    by false e h = absurd (false≢true h)

pub has-home : (l : Layout) (a : Ui) → is_some (home l a) ≡ true → has_actor l a ≡ true
has-home l a some = by (has_actor l a) some
  where
    by : (b : Bool) → is_some (cond b (Some (creation_place l a)) None) ≡ true → b ≡ true
    by true h = refl
    by false h = h

pub making : (s : PlaceState) (a : Ui) (n : ℕ) → has_actor s.layout a ≡ true → is_full_of_ports s.layout s.journal ≡ false → make_for s.layout s.number s.journal a n ≡ Act.Make (next_port s a) a n
making s a n actor few =
    ap (λ b. cond (not b) (Act.NoActor a) (cond (is_full_of_ports s.layout s.journal) (Act.MakeFull a) (Act.Make (next_port s a) a n))) actor
    ∙ ap (λ b. cond b (Act.MakeFull a) (Act.Make (next_port s a) a n)) few

-- Receiving.

abbrev pub is_message : Taken → Bool
is_message (T.Message pos m) = true
is_message T.Empty = false
is_message T.NotHere = false

-- a record that hands out no message stays as it is
after-refused : (a : Ui) (r : PortRecord) → is_message (taken_from a r) ≡ false → after_take a r ≡ r
after-refused a r = by (same_ui r.actor a) r.pending
  where
    by : (b : Bool) (ms : List Message) → is_message (cond b (first_at r.first ms) T.NotHere) ≡ false → cond b (passed ms r) r ≡ r
    by true [] h = refl
    by true (m ∷ ms) h = absurd (false≢true (sym h))
    by false ms h = refl

replace-refused : (q a : Ui) (rs : List PortRecord) → is_message (taken a (find q rs)) ≡ false → replace q (after_take a) rs ≡ rs
replace-refused q a [] h = refl
replace-refused q a (r ∷ rs) h = by (same_ui r.ui q) h (replace-refused q a rs)
  where
    by : (b : Bool) → is_message (taken a (cond b (Some r) (find q rs))) ≡ false → (is_message (taken a (find q rs)) ≡ false → replace q (after_take a) rs ≡ rs)
        → cond b (after_take a r ∷ rs) (r ∷ replace q (after_take a) rs) ≡ r ∷ rs
    by true h on = ap (λ s. s ∷ rs) (after-refused a r h)
    by false h on = ap (λ ss. r ∷ ss) (on h)

abbrev pub refusal : Taken → Reply
refusal (T.Message pos m) = Reply.NotHere
refusal T.Empty = Reply.Empty
refusal T.NotHere = Reply.NotHere

pub taking-refused : (q : Ui) (t u : Turn) (k : Taken) → k ≡ taken t.caller.actor (find q t.place.ports) → is_message k ≡ false → u ≡ takes_from q k t
    → Performed (Command.Take q) t u (refusal k)
taking-refused q t u k e h d = by k e h d
  where
    same : (k : Taken) → k ≡ taken t.caller.actor (find q t.place.ports) → is_message k ≡ false → replace q (after_take t.caller.actor) t.place.ports ≡ t.place.ports
    same k e h = replace-refused q t.caller.actor t.place.ports (ap is_message (sym e) ∙ h)

    by : (k : Taken) → k ≡ taken t.caller.actor (find q t.place.ports) → is_message k ≡ false → u ≡ takes_from q k t → Performed (Command.Take q) t u (refusal k)
    by (T.Message pos m) e h d = absurd (false≢true (sym h))
    by T.Empty e h d =
        performs (Command.Take q) (Act.Empty q) t t u Reply.Empty refl (ap (take_act q) (sym e)) (d ∙ ap (λ ps. with_ports (Act.Empty q) ps t) (same T.Empty e h)) refl
    by T.NotHere e h d =
        performs (Command.Take q) (Act.NotHere q) t t u Reply.NotHere refl (ap (take_act q) (sym e)) (d ∙ ap (λ ps. with_ports (Act.NotHere q) ps t) (same T.NotHere e h)) refl

-- a message that is handed out is the first one of the record
first-of : (a : Ui) (o : Option PortRecord) (pos : ℕ) (m : Message) → taken a o ≡ T.Message pos m → first_message o ≡ Some m
first-of a None pos m h = absurd (cc)
first-of a (Some r) pos m h = by (same_ui r.actor a) r.pending refl h
  where
    by : (b : Bool) (ms : List Message) → r.pending ≡ ms → cond b (first_at r.first ms) T.NotHere ≡ T.Message pos m → first_message (Some r) ≡ Some m
    by true [] e h = absurd (cc)
    by true (x ∷ xs) e h = let g : x ≡ m = cc in ap (λ ms. first_message (Some (record r { pending = ms }))) e ∙ ap Some g
    by false ms e h = absurd (cc)

holding-tick : (x : MsgId) (tag : Tag) (c : Seated) (k : ℕ) → holding x tag (after_tick c k) ≡ after_tick (holding x tag c) k
holding-tick x tags.Plain c k = refl
holding-tick x (tags.Request n back) c k = refl
holding-tick x (tags.Reply client n) c k = refl

settling-tick : (tag : Tag) (c : Seated) (k : ℕ) → settling tag (after_tick c k) ≡ settling tag c
settling-tick tags.Plain c k = refl
settling-tick (tags.Request n back) c k = refl
settling-tick (tags.Reply client n) c k = refl

abbrev pub holds : Message → Turn → Turn
holds m t = record t { caller = holding m.id m.tag t.caller }

pub taking : (q : Ui) (t mid u : Turn) (pos : ℕ) (m : Message) (settled : Option Settle) → T.Message pos m ≡ taken t.caller.actor (find q t.place.ports)
    → mid ≡ takes_from q (T.Message pos m) t → u ≡ ends m.tag (holds m mid) → settled ≡ settling m.tag mid.caller
    → Performed (Command.Take q) t u (Reply.Taken pos m settled)
taking q t mid u pos m settled e f d s =
    performs (Command.Take q) (Act.Take q pos m.id) t t u (Reply.Taken pos m settled) refl (ap (take_act q) (sym e))
    (d ∙ ap (λ x. ends m.tag (holds m x)) f ∙ ap (λ c. ends m.tag (record (takes_from q (T.Message pos m) t) { caller = c })) (holding-tick m.id m.tag t.caller (next_clock t))
    ∙ ap (λ o. takes q pos m.id o t) (sym first))
    (ap (Reply.Taken pos m) (s ∙ ap (λ x. settling m.tag x.caller) f ∙ settling-tick m.tag t.caller (next_clock t)) ∙ ap (λ o. taken_reply pos o t.caller) (sym first))
  where
    first : first_message (find q t.place.ports) ≡ Some m
    first = first-of t.caller.actor (find q t.place.ports) pos m (sym e)

-- Deleting.
