-- A port joins a group or leaves it, and a group is made, or not.
use Rattle.std.proofs.Common.{ℕ, ◌≡◌, ◌⊎◌, inl, inr, Bool, true, false, not, if◌then◌else◌, List, Some, None, unwrap_or, refl, sym, ◌∙◌, ap, eq-eqb}
use Rattle.chorus_ui.specs.declared.ui.Ui.{Ui}
use Rattle.chorus_ui.specs.Layout.{has_site, first_place, group_place, place_at}
use Rattle.chorus_entry.specs.declared.entry.Entry.{Entry}
use Rattle.chorus_entry.specs.declared.command.Command.{Command}
use Rattle.chorus_entry.specs.declared.command.Command.TheVariants as commands
use Rattle.chorus_entry.specs.declared.act.Act.{Act}
use Rattle.chorus_entry.specs.declared.act.Act.TheVariants as acts
use Rattle.chorus_ui.specs.NameKind as name_kind
use Rattle.chorus_world.specs.Views.{at, is_group}
use Rattle.chorus_entry.specs.Same.{is_number}
use Rattle.chorus_world.specs.Places.{just_taken}
use Rattle.chorus_world.specs.Groups.{is_group_place}
use Rattle.law_machine.specs.Own.{next_group}
use Rattle.law_machine.specs.declared.outgoing.Outgoing.{Outgoing}
use Rattle.law_machine.specs.PlaceState.{Turn}
use Rattle.law_machine.specs.Doing.{does}
use Rattle.law_machine.specs.PlaceMachine.{act}
use Rattle.chorus_world.proofs.Seats.OnlyAnswer.{Fitting}
use Rattle.law_machine.proofs.Machine.Owns.{IsOwn, NoSite, GroupsNone, Groups, JoinsNone, JoinsAgain, JoinsFull, Joins, LeavesNone, Leaves, LeavesNot, is-own}
use Rattle.law_network.specs.Network.{NetState}
use Rattle.law_network.proofs.Commands.OwnIsAnswer.{given-fits}
use Rattle.law_network.proofs.Standing.Steps.{Stood}
use Rattle.law_network.proofs.Standing.Leading.{LeadsOn, notes-on}
use Rattle.law_network.proofs.Standing.Given.{IsGiven}

module _ (n : NetState) (us : List Outgoing) (past : List Entry) (t : Turn) where
  abbrev Goal : Act → Type 0
  Goal a = LeadsOn n us past (does a t)

  abbrev Fit : Command → Act → Type 0
  Fit c a = Fitting t.place.layout past t.place.number t.caller.seat t.caller.actor c a

  -- where the place of a group is not told that it is made; it is looked for at the caller's place where the layout has no such site
  no-group : (g : Ui) (home : ℕ) (w : Stood n us past t) → just_taken past (at t.place.number past) ≡ None → t.place.number ≡ unwrap_or (group_place t.place.layout g) home
      → name_kind.is_group g ≡ true → is_group g t.place.journal ≡ false → Goal (acts.NoGroup g)
  no-group g home w rests place named h =
      notes-on n us past t w rests (acts.NoGroup g) refl refl refl refl refl refl refl (λ now. refl) named
      (ap not (ap (is_group g) (sym w.here.journal) ∙ h)) refl (looks (has_site t.place.layout g.site) refl)
    where
      looks : (b : Bool) → has_site t.place.layout g.site ≡ b → (is_group_place t.place.layout g t.place.number ≡ true) ⊎ (has_site t.place.layout g.site ≡ false)
      looks false e = inr e
      looks true e =
          let there : group_place t.place.layout g ≡ Some (first_place t.place.layout g.site) = ap (λ b. if b then Some (first_place t.place.layout g.site) else None) e in
          let same : first_place t.place.layout g.site ≡ t.place.number = sym (place ∙ ap (λ o. unwrap_or o home) there) in
          inl (ap (is_number t.place.number) there ∙ eq-eqb (first_place t.place.layout g.site) t.place.number same)

  abbrev home : ℕ
  home = place_at t.place.layout t.caller.actor.site t.caller.actor

  joins : (g q : Ui) → IsGiven n us past t (commands.Join g q) → {a : Act} → IsOwn t (commands.Join g q) a → Fit (commands.Join g q) a → Goal a
  joins g q i (JoinsNone _ _ e) f = no-group g home i.stood i.rests i.place f.kinds e
  joins g q i (JoinsAgain _ _ e) f = notes-on n us past t i.stood i.rests (acts.There g q) refl refl refl refl refl refl refl (λ now. refl) f.kinds f.may f.fits tt
  joins g q i (JoinsFull _ _ e) f = notes-on n us past t i.stood i.rests (acts.MembersFull g) refl refl refl refl refl refl refl (λ now. refl) f.kinds f.may f.fits tt
  joins g q i (Joins _ _ e h k) f = notes-on n us past t i.stood i.rests (acts.Join g q) refl refl refl refl refl refl refl (λ now. refl) f.kinds f.may f.fits tt

  leaves : (g q : Ui) → IsGiven n us past t (commands.Leave g q) → {a : Act} → IsOwn t (commands.Leave g q) a → Fit (commands.Leave g q) a → Goal a
  leaves g q i (LeavesNone _ _ e) f = no-group g home i.stood i.rests i.place f.kinds e
  leaves g q i (Leaves _ _ e h) f = notes-on n us past t i.stood i.rests (acts.Leave g q) refl refl refl refl refl refl refl (λ now. refl) f.kinds f.may f.fits tt
  leaves g q i (LeavesNot _ _ e) f = notes-on n us past t i.stood i.rests (acts.NotThere g q) refl refl refl refl refl refl refl (λ now. refl) f.kinds f.may f.fits tt

  makes : (site : ℕ) → IsGiven n us past t (commands.GroupMake site) → {a : Act} → IsOwn t (commands.GroupMake site) a → Fit (commands.GroupMake site) a → Goal a
  makes site i (NoSite _ e) f = notes-on n us past t i.stood i.rests (acts.NoSite site) refl refl refl refl refl refl refl (λ now. refl) f.kinds f.may f.fits tt
  makes site i (GroupsNone _ e) f = notes-on n us past t i.stood i.rests (acts.GroupsFull site) refl refl refl refl refl refl refl (λ now. refl) f.kinds f.may f.fits tt
  makes site i (Groups _ e h) f =
      notes-on n us past t i.stood i.rests (acts.GroupMake (next_group t.place site)) refl refl refl refl refl refl refl (λ now. refl) f.kinds f.may f.fits tt

  pub join-stands : (g q : Ui) → IsGiven n us past t (commands.Join g q) → LeadsOn n us past (act (commands.Join g q) t)
  join-stands g q i = joins g q i (is-own (commands.Join g q) t) (given-fits n us past t (commands.Join g q) i)

  pub leave-stands : (g q : Ui) → IsGiven n us past t (commands.Leave g q) → LeadsOn n us past (act (commands.Leave g q) t)
  leave-stands g q i = leaves g q i (is-own (commands.Leave g q) t) (given-fits n us past t (commands.Leave g q) i)

  pub group-make-stands : (site : ℕ) → IsGiven n us past t (commands.GroupMake site) → LeadsOn n us past (act (commands.GroupMake site) t)
  group-make-stands site i = makes site i (is-own (commands.GroupMake site) t) (given-fits n us past t (commands.GroupMake site) i)
