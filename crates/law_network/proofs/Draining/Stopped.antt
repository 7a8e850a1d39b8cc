-- Where a call stops before its tasks are carried out, the merge performs the first of their commands.
use Rattle.std.proofs.Common.{ℕ, ◌≡◌, Bool, true, false, ◌==◌, cond, List, [], ◌∷◌, ◌++◌, refl, sym, ◌∙◌, ap, inl, inr}
use Rattle.std.proofs.lemmas.List.Elements.{All-head, All-tail}
use Rattle.chorus_ui.specs.declared.layout.Layout.{Layout}
use Rattle.chorus_entry.specs.declared.command.Command.{Command}
use Rattle.law_network.specs.Network.{Event, Enter, Act, Deliver, See}
use Rattle.law_network.specs.Schedules.{command_in, commands_of}
use Rattle.law_network.specs.Tasks.{Task, Do, Drain, commands_in, AreDeliveries, CarryFront, FrontsPerformed}
use Rattle.law_network.proofs.Draining.Drains.{carried-commands}
use Rattle.law_network.proofs.Promises.Promised.{performs-at}

-- deliveries give no command
deliveries-give : (seat k : ℕ) (done older : List Event) → AreDeliveries k done → commands_of seat (done ++ older) ≡ commands_of seat older
deliveries-give seat k [] older h = refl
deliveries-give seat k (e ∷ done) older h =
    let IsDelivery : Event → Type 0 = λ (f : Event). (a : ℕ) × ((b : ℕ) × (f ≡ Deliver k a b)) in
    let head = All-head IsDelivery e done h in
    ap (λ f. command_in seat f (commands_of seat (done ++ older))) head.1.1 ∙ deliveries-give seat k done older (All-tail IsDelivery e done h)

-- an event gives one command more, or none
given-more : (seat : ℕ) (e : Event) (cs ds : List Command) → (later : List Command) × (cs ≡ later ++ ds) → (later : List Command) × (command_in seat e cs ≡ later ++ ds)
given-more seat (Enter actor last) cs ds h = h
given-more seat (Deliver k a b) cs ds h = h
given-more seat (See k c) cs ds h = h
given-more seat (Act k c) cs ds h = go (k == seat)
  where
    go : (b : Bool) → (later : List Command) × (cond b (c ∷ cs) cs ≡ later ++ ds)
    go true = (c ∷ h.0, ap (λ zs. c ∷ zs) h.1)
    go false = h

-- the commands that were given are the first of those of the tasks, both with the latest first
pub fronts-give-fronts : (l : Layout) (ts : List Task) (es : List Event) (seat : ℕ) → CarryFront l ts es → (later : List Command) × (commands_in seat ts ≡ later ++ commands_of seat es)
fronts-give-fronts l [] es seat h = ([], sym (ap (commands_of seat) h))
fronts-give-fronts l (Do e ∷ ts) es seat (inl all) = ([], sym (carried-commands l seat (Do e ∷ ts) es all))
fronts-give-fronts l (Do e ∷ ts) es seat (inr less) = given-more seat e (commands_in seat ts) (commands_of seat es) (fronts-give-fronts l ts es seat less)
fronts-give-fronts l (Drain k ∷ ts) es seat (inl part) =
    let done = part.0 in
    let older = part.1.0 in
    ([], sym (ap (commands_of seat) part.1.1.0 ∙ deliveries-give seat k done older part.1.1.1 ∙ carried-commands l seat ts older part.1.1.2))
fronts-give-fronts l (Drain k ∷ ts) es seat (inr less) = fronts-give-fronts l ts es seat less

pub fronts-performed : FrontsPerformed
fronts-performed l ts es seat actor shape may front who =
    let f = fronts-give-fronts l ts es seat front in
    record { later = f.0; front = f.1; performed = performs-at l es shape may seat actor who }
