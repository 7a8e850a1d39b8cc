-- What the machine does where a port moves, by what its code found.
use Rattle.std.proofs.Common.{◌≡◌, ℕ, ◌+◌, ◌==◌, Bool, true, false, not, cond, Option, Some, None, is_some, IfSome, refl, sym, ◌∙◌, ap, arith}
use Rattle.std.proofs.lemmas.Bool.{false≢true}
use Rattle.chorus_ui.specs.declared.ui.Ui.{Ui}
use Rattle.chorus_ui.specs.Layout.{has_actor, home, place_at, site_of}
use Rattle.chorus_ui.specs.Name.{same_ui}
use Rattle.chorus_entry.specs.declared.act.Act.{Act}
use Rattle.chorus_entry.specs.declared.command.Command.{Command}
use Rattle.chorus_entry.specs.declared.record.PortRecord.{PortRecord}
use Rattle.chorus_ports.specs.Table.{find}
use Rattle.law_machine.specs.declared.reply.Reply.{Reply}
use Rattle.law_machine.specs.PlaceState.{PlaceState, Turn}
use Rattle.law_machine.specs.Own.{held_by, move_act}
use Rattle.law_machine.specs.Doing.{does}
use Rattle.chorus_place.specs.PlaceTables.Commands.{Performed}
use Rattle.chorus_place.proofs.PlaceTurns.Performing.{performs, has-home}

same-number : (m n : ℕ) → m ≡ n → (m == n) ≡ true
same-number m n e = grind (arith, e)

other-number : (m n : ℕ) → (m ≡ n → ⊥) → (m == n) ≡ false
other-number m n e = grind (arith, e)

rehomes : (q a : Ui) (s : PlaceState) (o : Option PortRecord) → is_some o ≡ true → has_actor s.layout a ≡ true → (a.site == site_of s.layout s.number) ≡ true → move_act q a s o ≡ Act.Rehome q a
rehomes q a s None held actor here = absurd (false≢true held)
rehomes q a s (Some r) held actor here =
    ap (λ b. cond (not b) (Act.NoActor a) (cond (a.site == site_of s.layout s.number) (Act.Rehome q a) (Act.Depart q (place_at s.layout a.site q) a (r.hop + 1)))) actor
    ∙ ap (λ b. cond b (Act.Rehome q a) (Act.Depart q (place_at s.layout a.site q) a (r.hop + 1))) here

pub rehoming : (q a : Ui) (t u : Turn) → is_some (held_by t.caller.actor (find q t.place.ports)) ≡ true → is_some (home t.place.layout a) ≡ true
    → a.site ≡ site_of t.place.layout t.place.number → u ≡ does (Act.Rehome q a) t → Performed (Command.Move q a) t u Reply.Rehomed
rehoming q a t u held some here d =
    performs (Command.Move q a) (Act.Rehome q a) t t u Reply.Rehomed refl
    (rehomes q a t.place (held_by t.caller.actor (find q t.place.ports)) held (has-home t.place.layout a some) (same-number a.site _ here)) d refl

-- the record that the actor holds departs by this hop
departs : (q a holder : Ui) (s : PlaceState) (hop : ℕ) (o : Option PortRecord) → is_some (held_by holder o) ≡ true → has_actor s.layout a ≡ true
    → (a.site == site_of s.layout s.number) ≡ false → IfSome o (λ r. hop ≡ r.hop + 1) → move_act q a s (held_by holder o) ≡ Act.Depart q (place_at s.layout a.site q) a hop
departs q a holder s hop None held actor away h = absurd (false≢true held)
departs q a holder s hop (Some r) held actor away h = by (same_ui r.actor holder) held
  where
    by : (b : Bool) → is_some (cond b (Some r) None) ≡ true → move_act q a s (cond b (Some r) None) ≡ Act.Depart q (place_at s.layout a.site q) a hop
    by true e =
        ap (λ b. cond (not b) (Act.NoActor a) (cond (a.site == site_of s.layout s.number) (Act.Rehome q a) (Act.Depart q (place_at s.layout a.site q) a (r.hop + 1)))) actor
        ∙ ap (λ b. cond b (Act.Rehome q a) (Act.Depart q (place_at s.layout a.site q) a (r.hop + 1))) away
        ∙ ap (Act.Depart q (place_at s.layout a.site q) a) (sym h)
    by false e = absurd (false≢true e)

pub departing : (q a : Ui) (t u : Turn) (to hop : ℕ) → is_some (held_by t.caller.actor (find q t.place.ports)) ≡ true → is_some (home t.place.layout a) ≡ true
    → (a.site ≡ site_of t.place.layout t.place.number → ⊥) → to ≡ place_at t.place.layout a.site q → IfSome (find q t.place.ports) (λ r. hop ≡ r.hop + 1)
    → u ≡ does (Act.Depart q to a hop) t → Performed (Command.Move q a) t u (Reply.Departed hop)
departing q a t u to hop held some away place h d =
    performs (Command.Move q a) (Act.Depart q to a hop) t t u (Reply.Departed hop) refl
    (departs q a t.caller.actor t.place hop (find q t.place.ports) held (has-home t.place.layout a some) (other-number a.site _ away) h
    ∙ ap (λ p. Act.Depart q p a hop) (sym place)) d refl
