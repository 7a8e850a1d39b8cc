-- A command's place is one of the layout.
use Rattle.std.proofs.Common.{ℕ, ◌≡◌, nat_le, Bool, true, false, ◌&&◌, if◌then◌else◌, cond, Some, None, unwrap_or, refl}
use Rattle.std.proofs.lemmas.Bool.{and_parts}
use Rattle.chorus_ui.specs.declared.ui.Ui.{Ui}
use Rattle.chorus_ui.specs.declared.layout.Layout.{Layout}
use Rattle.chorus_ui.specs.declared.limits.TheConstants.{ACTORS_PER_SITE_LIMIT}
use Rattle.chorus_ui.specs.Layout.{IsLayout, has_site, has_actor, has_place, place_at, first_place, creation_place}
use Rattle.chorus_entry.specs.declared.command.Command.{Command}
use Rattle.chorus_entry.specs.declared.command.Command.TheVariants as commands
use Rattle.chorus_entry.specs.Places.{place_for}
use Rattle.chorus_world.proofs.Ports.Sites.{place-inside, first-inside}

module _ (l : Layout) (a : Ui) (shape : IsLayout l) (has : has_actor l a ≡ true) where
  site : has_site l a.site ≡ true
  site = (and_parts (has_site l a.site) (nat_le 1 a.number) (and_parts (has_site l a.site && nat_le 1 a.number) (nat_le a.number ACTORS_PER_SITE_LIMIT) has).0).0

  home : has_place l (place_at l a.site a) ≡ true
  home = place-inside l a.site a shape site

  at-site : (s : ℕ) (b : Bool) → has_site l s ≡ b → has_place l (unwrap_or (cond b (Some (first_place l s)) None) (place_at l a.site a)) ≡ true
  at-site s true h = first-inside l s shape h
  at-site s false h = home

  at-group : (g : Ui) (b : Bool) → has_site l g.site ≡ b → has_place l (unwrap_or (if b then Some (first_place l g.site) else None) (place_at l a.site a)) ≡ true
  at-group g true h = first-inside l g.site shape h
  at-group g false h = home

  at-home : (actor : Ui) (b : Bool) → has_actor l actor ≡ b → has_place l (unwrap_or (if b then Some (creation_place l actor) else None) (place_at l a.site a)) ≡ true
  at-home actor true h =
      place-inside l actor.site actor shape
      (and_parts (has_site l actor.site) (nat_le 1 actor.number) (and_parts (has_site l actor.site && nat_le 1 actor.number) (nat_le actor.number ACTORS_PER_SITE_LIMIT) h).0).0
  at-home actor false h = home

  pub have-places : (c : Command) → has_place l (place_for l a c) ≡ true
  have-places (commands.Make actor capacity) = at-home actor (has_actor l actor) refl
  have-places (commands.Take q) = place-inside l a.site q shape site
  have-places (commands.Move q actor) = place-inside l a.site q shape site
  have-places (commands.Delete q) = place-inside l a.site q shape site
  have-places (commands.GroupMake s) = at-site s (has_site l s) refl
  have-places (commands.Join g q) = at-group g (has_site l g.site) refl
  have-places (commands.Leave g q) = at-group g (has_site l g.site) refl
  have-places (commands.Send d body) = home
  have-places _ = home
