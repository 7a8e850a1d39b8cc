-- What a receive told of its port, in what was closed.
use Rattle.std.proofs.Common.{ℕ, ◌≡◌, ⊎_elim, true, List, ◌∷◌, ◌++◌, reverse, Some, sym, ◌∙◌, ap, subst}
use Rattle.std.specs.List.{Contains}
use Rattle.std.proofs.lemmas.List.Elements.{All-contains}
use Rattle.chorus_ui.specs.declared.ui.Ui.{Ui}
use Rattle.chorus_ui.specs.declared.layout.Layout.{Layout}
use Rattle.chorus_ui.specs.Layout.{IsLayout}
use Rattle.chorus_entry.specs.declared.entry.Entry.{Entry}
use Rattle.chorus_entry.specs.declared.command.Command.{Command}
use Rattle.chorus_world.specs.Runs.{is_run}
use Rattle.chorus_world.specs.Commands.{performs}
use Rattle.law_world.specs.Looks.{TellsWhatWaited}
use Rattle.law_world.proofs.Looks.{looks-tell}
use Rattle.law_history.specs.Journals.{Comer}
use Rattle.law_history.specs.Runs.{actor_among, commands_given}
use Rattle.law_closing.specs.Places.{PlaceNote}
use Rattle.law_closing.specs.Remarks.{turns_in}
use Rattle.chorus_turn.specs.declared.knowledge.Note.{Note}
use Rattle.chorus_net.specs.declared.closed.Closed.{Closed}
use Rattle.chorus_net.specs.Closing.{past_of}
use Rattle.chorus_nucleus.specs.Calls.{gave}
use Rattle.chorus_nucleus.specs.Runs.{PerformsFor}
use Rattle.chorus_nucleus.proofs.Running.{a-closed-nucleus-is-a-run}
use Rattle.law_crews.specs.Looks.{LooksToldWhatWaited}

found : (l : Layout) (comers : List Comer) (c : Closed) (s : ℕ) (cs : List Command) (newer older : List Entry) (e : Entry) (q a : Ui) → IsLayout l → is_run l (actor_among comers) (past_of c) ≡ true → past_of c ≡ newer ++ e ∷ older → PerformsFor l comers (past_of c) s cs → s ≡ e.seat
    → actor_among comers e.seat ≡ Some a → TellsWhatWaited q a e older
found l comers c s cs newer older e q a shape run whole does seat who =
    looks-tell l (actor_among comers) newer older e q a (reverse cs) shape (subst (λ past. is_run l (actor_among comers) past ≡ true) whole run) who
    (subst (λ k. performs l k a (newer ++ e ∷ older) (reverse cs) ≡ true) seat
    (subst (λ past. performs l s a past (reverse cs) ≡ true) whole (does a (ap (actor_among comers) seat ∙ who))))

pub looks-told : LooksToldWhatWaited
looks-told l v comers c newer older e q a shape closes whole seat who =
    let r = a-closed-nucleus-is-a-run l v comers c shape closes in
    ⊎_elim
    (λ (own : e.seat ≡ v.seat). found l comers c v.seat (gave v) newer older e q a shape r.run whole r.performed (sym own) who)
    (λ (noted : (m : Note PlaceNote) × Contains v.notes m × (m.seat ≡ e.seat)).
    found l comers c noted.0.seat (commands_given (turns_in noted.0.mine)) newer older e q a shape r.run whole
    (All-contains (λ (m : Note PlaceNote). PerformsFor l comers (past_of c) m.seat (commands_given (turns_in m.mine))) v.notes noted.0 r.noted noted.1) noted.2 who)
    seat
