-- After a drain all is done, and rounds that stop where no packet is left come to that.
use Rattle.std.proofs.Common.{ℕ, zero, suc, ◌≡◌, List, [], ◌∷◌, ◌++◌, slice_get, refl, sym, ◌∙◌, ap}
use Rattle.chorus_ui.specs.declared.layout.Layout.{Layout}
use Rattle.law_network.specs.Network.{NetState, after, opening, schedule, round, rounds, drains_on, drained}
use Rattle.law_network.specs.Tasks.{DrainsEnd, DrainsRest}
use Rattle.law_network.proofs.Places.Layouts.{schedule-keeps}
use Rattle.law_machine.specs.declared.outgoing.Outgoing.{Outgoing}
use Rattle.law_network.proofs.Draining.Drains.{after-append, layout-stays, rounds-last}
use Rattle.law_network.proofs.Draining.Ending.{some-caller, caller-actor, drain-ends, rounds-may}
use Rattle.law_network.proofs.Draining.Emptied.{drains-leave-nothing}
use Rattle.law_network.proofs.Promises.Promised.{quiet-at}

pub drains-rest : DrainsRest
drains-rest l k ts es shape may c who =
    quiet-at l es shape may (drains-leave-nothing l k c.0 es shape may who c.1.0)

-- where so many rounds leave no packet, rounds with a stop leave none
stopped : (k m : ℕ) (n : NetState) → (after (rounds n.layout k m) n).packets ≡ [] → (drained k m n).packets ≡ []
stopped k zero n h = h
stopped k (suc m) n h = go n.packets refl (stopped k m (after (round n.layout k) n))
  where
    go : (os : List Outgoing) → n.packets ≡ os → ((after (rounds (after (round n.layout k) n).layout k m) (after (round n.layout k) n)).packets ≡ [] → (drained k m (after (round n.layout k) n)).packets ≡ []) → (drains_on k (drained k m) os n).packets ≡ []
    go [] e ih = e
    go (o ∷ os) e ih =
        ih (ap (λ (l : Layout). (after (rounds l k m) (after (round n.layout k) n)).packets) (layout-stays (round n.layout k) n)
        ∙ ap (λ (z : NetState). z.packets) (rounds-last n.layout k m n) ∙ h)

pub drains-end : DrainsEnd
drains-end l es shape may k some =
    let who = caller-actor (slice_get (schedule l es).callers k) some in
    let d = drain-ends l shape k es who.0 may who.1 in
    let m = d.0 in
    let more = rounds-may l shape k m es who.0 may who.1 in
    let none = drains-leave-nothing l k es (rounds l k m ++ es) shape more.0 (some-caller l shape k (schedule l (rounds l k m ++ es)) who.0 more.1) d.1 in
    (m, stopped k m (schedule l es) (ap (λ (z : Layout). (after (rounds z k m) (schedule l es)).packets) (schedule-keeps l es).layout ∙ ap (λ (z : NetState). z.packets) (sym (after-append (rounds l k m) es (opening l))) ∙ none))
