-- A NoGroup that answers a command stands at the group's place, or the layout has no such site.
use Rattle.std.proofs.Common.{ℕ, ◌≡◌, ◌⊎◌, inl, inr, true, false, ◌==◌, if◌then◌else◌, List, Some, None, unwrap_or, sym, ◌∙◌, ap}
use Rattle.std.proofs.lemmas.Bool.{and_parts, eqb-true, eq-eqb, cases_Bool, false≢true}
use Rattle.chorus_ui.specs.declared.ui.Ui.{Ui}
use Rattle.chorus_ui.specs.declared.layout.Layout.{Layout}
use Rattle.chorus_ui.specs.Layout.{has_site, first_place, group_place, place_at}
use Rattle.chorus_ui.proofs.Names.{from_same_ui}
use Rattle.chorus_entry.specs.declared.entry.Entry.{Entry}
use Rattle.chorus_entry.specs.declared.act.Act.{Act}
use Rattle.chorus_entry.specs.declared.act.Act.TheVariants.{NoGroup}
use Rattle.chorus_entry.specs.declared.command.Command.{Command}
use Rattle.chorus_entry.specs.declared.command.Command.TheVariants as C
use Rattle.chorus_entry.specs.Places.{place_for}
use Rattle.chorus_entry.specs.Same.{is_number}
use Rattle.chorus_world.specs.Groups.{is_group_place}
use Rattle.chorus_world.specs.Commands.{act_answers}
use Rattle.chorus_world.specs.SortingLaws.{LooksAtHome, AnswersLookAtHome}

-- the group's place, or the place where a command stands that has none
pub at_group : (l : Layout) (g : Ui) (p other : ℕ) → p ≡ unwrap_or (group_place l g) other → (is_group_place l g p ≡ true) ⊎ (has_site l g.site ≡ false)
at_group l g p other e =
    elim (cases_Bool (has_site l g.site)) [
      | inl t ↦ (
          let place : group_place l g ≡ Some (first_place l g.site) = ap (λ b. if b then Some (first_place l g.site) else None) t in
          inl (ap (is_number p) place ∙ eq-eqb (first_place l g.site) p (sym (e ∙ ap (λ o. unwrap_or o other) place))))
      | inr f ↦ inr f
    ]

looks_home : (l : Layout) (past : List Entry) (a : Ui) (c : Command) (p s : ℕ) (act : Act) → p ≡ place_for l a c → act_answers past p s a c act ≡ true → LooksAtHome l p act
looks_home l past a (C.Join h q) p s (NoGroup g) e t = at_group l g p (place_at l a.site a) (e ∙ ap (λ z. unwrap_or (group_place l z) (place_at l a.site a)) (sym (from_same_ui g h t)))
looks_home l past a (C.Leave h q) p s (NoGroup g) e t = at_group l g p (place_at l a.site a) (e ∙ ap (λ z. unwrap_or (group_place l z) (place_at l a.site a)) (sym (from_same_ui g h t)))
looks_home l past a c p s (NoGroup g) e t = absurd (false≢true t)
looks_home l past a c p s _ e t = tt

pub answers_look : AnswersLookAtHome
answers_look l past a c e h =
    let two = and_parts (e.place == place_for l a c) (act_answers past e.place e.seat a c e.act) h in
    looks_home l past a c e.place e.seat e.act (eqb-true e.place (place_for l a c) two.0) two.1
