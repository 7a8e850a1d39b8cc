-- What the machine does on a command with calls, by what its code found.
-- t is the turn before, u the turn after, m a message, q a port, c the caller.
use Rattle.std.proofs.Common.{◌≡◌, ℕ, Option, Some, None, List, refl, sym, ◌∙◌, ap}
use Rattle.chorus_ui.specs.declared.ui.Ui.{Ui}
use Rattle.chorus_entry.specs.declared.dest.Dest.{Dest}
use Rattle.chorus_entry.specs.declared.message.Message.{Message}
use Rattle.chorus_entry.specs.declared.command.Command.{Command}
use Rattle.chorus_entry.specs.declared.act.Act.{Act}
use Rattle.chorus_calls.specs.Clients.{Call, after_begin}
use Rattle.chorus_calls.specs.Callers.{Seated}
use Rattle.law_machine.specs.declared.reply.Reply.{Reply}
use Rattle.law_machine.specs.PlaceState.{Turn}
use Rattle.law_machine.specs.Own.{own}
use Rattle.law_machine.specs.Doing.{direct, after_tag}
use Rattle.law_machine.specs.Trying.{go}
use Rattle.law_machine.specs.Replies.{post_reply}
use Rattle.chorus_place.specs.PlaceTables.Commands.{Performed}
use Rattle.chorus_place.specs.PlaceTables.Steps.{posted}
use Rattle.chorus_place.specs.PlaceTables.Tables.{Tables, turn}
use Rattle.chorus_place.specs.PlaceTurns.CallTurns.{with_call}
use Rattle.chorus_place.proofs.PlaceTurns.Posting.{post-performs}

-- p are the tables before room was made, r behind it, and d the caller as it posts the message n, which is m, to the port q
pub post-done : (command : Command) (m n : Message) (q to : Ui) (p r : Tables) (c d : Seated) (u : Turn) (told : Reply)
    → own command (turn p c) ≡ Act.Post m (Dest.Port q) → to ≡ q → n ≡ m → ((x : Seated) → turn r x ≡ turn p x) → d ≡ after_tag m.tag q m.body c
    → u ≡ go (direct to) (posted n to (turn r d)) → told ≡ post_reply n.id u.place.journal → Performed command (turn p c) u told
post-done command m n q to p r c d u told o at is room caller e a =
    post-performs command m q (turn p c) u told o
    (e ∙ ap (λ x. go (direct x) (posted n x (turn r d))) at ∙ ap (λ x. go (direct q) (posted x q (turn r d))) is
    ∙ ap (λ x. go (direct q) (posted m q x)) (room d ∙ ap (turn p) caller))
    (a ∙ ap (λ (x : Message). post_reply x.id u.place.journal) is)

-- the call that is outstanding already stays as it is
pub same-call : (q back : Ui) (body : List ℕ) (c : Seated) (call : Call) → c.client.outstanding ≡ Some call → c ≡ with_call q back body c
same-call q back body c call h = by c.client.outstanding h refl
  where
    by : (o : Option Call) → o ≡ Some call → c.client.outstanding ≡ o → c ≡ with_call q back body c
    by None e f = absurd (cc)
    by (Some x) e f = sym (ap (λ (o : Option Call). record c { client = after_begin (record c.client { outstanding = o }) q back body }) f ∙ ap (λ (o : Option Call). record c { client = record c.client { outstanding = o } }) (sym f))
