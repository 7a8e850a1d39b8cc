-- What answers a command is the same in turns that are alike.
-- t and u are turns, w is a caller, last a clock, m a message.
use Rattle.std.proofs.Common.{ℕ, ◌≡◌, List, Option, Some, None, refl, sym, ◌∙◌, ap}
use Rattle.chorus_entry.specs.declared.act.Act.{Act}
use Rattle.chorus_entry.specs.declared.act.Act.TheVariants.{Take}
use Rattle.chorus_entry.specs.declared.command.Command.{Command}
use Rattle.chorus_entry.specs.declared.entry.Entry.{Entry}
use Rattle.chorus_entry.specs.declared.message.Message.{Message}
use Rattle.chorus_entry.specs.declared.tag.Tag.{Tag}
use Rattle.chorus_entry.specs.declared.tag.Tag.TheVariants.{Reply}
use Rattle.chorus_calls.specs.Callers.{Seated}
use Rattle.chorus_ports.specs.Table.{find}
use Rattle.law_machine.specs.Doing.{first_message}
use Rattle.law_machine.specs.declared.outgoing.Outgoing.{Outgoing}
use Rattle.law_machine.specs.Own.{own}
use Rattle.law_machine.specs.PlaceState.{Turn}
use Rattle.law_explore.specs.Alike.{SameButLast, with_other, AreAlike}
use Rattle.law_explore.specs.Races.{Told, settles_by, settles_with, settled_by, told_in}
use Rattle.law_explore.proofs.Alike.{Keeping, owns-alike}

by-tag : (tag : Tag) (w : Seated) (last : ℕ) → settles_by tag w ≡ settles_by tag (record w { last = last })
by-tag (Reply client number) w last = refl
by-tag tag w last = refl

by-message : (m : Option Message) (w : Seated) (last : ℕ) → settles_with m w ≡ settles_with m (record w { last = last })
by-message None w last = refl
by-message (Some m) w last = by-tag m.tag w last

by-act : (a : Act) (t : Turn) (j : List Entry) (last : ℕ) (os : List Outgoing) → settled_by a t ≡ settled_by a (with_other j (record t.caller { last = last }) os t)
by-act (Take q position x) t j last os = by-message (first_message (find q t.place.ports)) t.caller last
by-act a t j last os = refl

module _ (J : List Entry → List Entry → Type 0) (keep : Keeping J) where
  pub told-alike : (c : Command) (t u : Turn) → AreAlike J SameButLast t u → told_in c t ≡ told_in c u
  told-alike c t u a =
      ap (λ (s : Option Act). let it : Told = record { act = own c t; settles = s } in it)
      (by-act (own c t) t a.journal a.callers.last a.puts
      ∙ ap (settled_by (own c t)) (sym (a.is ∙ ap (λ (w : Seated). with_other a.journal w a.puts t) a.callers.is)))
      ∙ ap (λ (b : Act). let it : Told = record { act = b; settles = settled_by b u } in it) (owns-alike J keep c t u a)
