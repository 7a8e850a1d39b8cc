-- What an own act that posts or takes has: a post is no copy, and what is taken waits first.
use Rattle.std.proofs.Common.{◌≡◌, List, Some, refl, ◌∙◌, ap}
use Rattle.chorus_entry.specs.declared.message.Message.{Message}
use Rattle.chorus_entry.specs.declared.act.Act.{Act}
use Rattle.chorus_entry.specs.declared.command.Command.{Command}
use Rattle.chorus_entry.specs.declared.record.PortRecord.{PortRecord}
use Rattle.chorus_ports.specs.Table.{find}
use Rattle.law_machine.specs.PlaceState.{Turn}
use Rattle.law_machine.specs.Own.{own}
use Rattle.law_machine.specs.Doing.{first_in, first_message}
use Rattle.law_machine.proofs.Machine.Owns.{IsOwn, Sends, Calls, Retries, Replies, Takes, takes-first, is-own}

-- of the records of a place
abbrev pub IsFit : List PortRecord → Act → Type 0
IsFit ports (Act.Post m d) = m.id.copy ≡ 0
IsFit ports (Act.Take q position x) = (m : Message) × ((first_message (find q ports) ≡ Some m) × (m.id ≡ x))
IsFit ports _ = Unit {0}

fits : {t : Turn} {c : Command} {a : Act} → IsOwn t c a → IsFit t.place.ports a
fits (Sends d body) = refl
fits (Calls q back body e) = refl
fits (Retries call e) = refl
fits (Replies body hand e) = refl
fits {t} (Takes q position m e) =
    let r = takes-first t.caller.actor (find q t.place.ports) position m e in
    (m, (ap first_message r.found ∙ ap first_in r.pending, refl))
fits _ = tt

pub own-fits : (c : Command) (t : Turn) → IsFit t.place.ports (own c t)
own-fits c t = fits (is-own c t)
