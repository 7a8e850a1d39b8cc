-- Looks: a run that performs receives of each answer, and lists of which the law of looks is not so.
use Rattle.std.proofs.Common.{ℕ, ◌≡◌, true, List, [], ◌∷◌, Option, Some, refl, ap, arith}
use Rattle.std.proofs.lemmas.Bool.{false≢true, true≢false}
use Rattle.std.proofs.lemmas.Option.{same_Some}
use Rattle.chorus_ui.specs.declared.ui.Ui.{Ui}
use Rattle.chorus_entry.specs.declared.command.Command.{Command}
use Rattle.chorus_entry.specs.declared.dest.Dest.{Dest}
use Rattle.chorus_entry.specs.declared.entry.Entry.{Entry}
use Rattle.chorus_entry.specs.declared.id.MsgId.{MsgId}
use Rattle.chorus_entry.specs.declared.tag.Tag.{Tag}
use Rattle.chorus_entry.specs.declared.act.Act.{Act}
use Rattle.chorus_world.specs.Runs.{is_run}
use Rattle.chorus_world.specs.Commands.{performs}
use Rattle.chorus_world.proofs.Examples.Names.{actor, away, first, now, other, port, second, two_sites}
use Rattle.law_world.specs.Looks.{TellsWhatWaited}
use Rattle.law_world.proofs.Examples.Numbered.{actor_of, port_of, handed, at_home}
use Rattle.law_world.proofs.Examples.Played.{posted}

abbrev all_in_first : ℕ → Option Ui
all_in_first n = Some actor

-- a message waits, of the port's one holder
abbrev waiting : List Entry
waiting = now 3 (Act.Accept first port 0) ∷ now 2 (posted first Tag.Plain (Dest.Port port)) ∷ now 1 (Act.Make port actor 1) ∷ []

-- it is received, then none waits, and another port is not there
abbrev received : List Entry
received = now 6 (Act.NotHere other) ∷ now 5 (Act.Empty port) ∷ now 4 (Act.Take port 0 first) ∷ waiting

abbrev asked : List Command
asked = Command.Take other ∷ Command.Take port ∷ Command.Take port ∷ Command.Send (Dest.Port port) (7 ∷ []) ∷ Command.Make actor 1 ∷ []

is-performed : (is_run two_sites all_in_first received ≡ true) × (performs two_sites 0 actor received asked ≡ true)
is-performed = (refl, refl)

not-empty : TellsWhatWaited port actor (now 4 (Act.Empty port)) waiting → ⊥
not-empty h = (let same : 0 ≡ 1 = (h.empty refl).1 in omega (arith, same))

not-the-first : TellsWhatWaited port actor (now 4 (Act.Take port 0 second)) waiting → ⊥
not-the-first h =
    let same : first ≡ second = same_Some first second (h.taken 0 second refl).2 in
    let numbers : 1 ≡ 2 = ap (λ (x : MsgId). x.number) same in
    omega (arith, numbers)

not-anothers : TellsWhatWaited port away (now 4 (Act.Take port 0 first)) waiting → ⊥
not-anothers h = false≢true (h.taken 0 first refl).0

-- this NotHere answers no command, and so it tells nothing
not-so-at-home : TellsWhatWaited (port_of 2) (actor_of 1) at_home handed → ⊥
not-so-at-home h = true≢false (h.elsewhere refl)
