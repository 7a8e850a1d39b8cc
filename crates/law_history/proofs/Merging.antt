-- What follows from the law of the network for journals: the merge is a run that performs the commands.
use Rattle.std.proofs.Common.{ℕ, ◌≡◌, ◌==◌, Bool, true, false, cond, List, [], ◌∷◌, ◌++◌, map, reverse, Option, Some, None, slice_get, refl, sym, ◌∙◌, ap, subst}
use Rattle.std.specs.List.{filter}
use Rattle.std.specs.Option.{option_map}
use Rattle.std.proofs.lemmas.Bool.{and_from, eq-eqb}
use Rattle.std.proofs.lemmas.List.{append-nil}
use Rattle.chorus_ui.specs.declared.layout.Layout.{Layout}
use Rattle.chorus_ui.specs.Layout.{IsLayout, places}
use Rattle.chorus_entry.specs.declared.command.Command.{Command}
use Rattle.chorus_entry.specs.declared.packet.Packet.{Packet}
use Rattle.chorus_world.specs.Runs.{is_run}
use Rattle.chorus_world.specs.Commands.{performs}
use Rattle.chorus_world.specs.Views.{at}
use Rattle.chorus_merge.specs.Merge.{merged}
use Rattle.chorus_calls.specs.Callers.{Seated}
use Rattle.law_machine.specs.declared.outgoing.Outgoing.{Outgoing}
use Rattle.law_machine.specs.PlaceState.{PlaceState}
use Rattle.law_network.specs.Packets.{is_link}
use Rattle.law_network.specs.Network.{NetState, Event, See, place_in, schedule}
use Rattle.law_network.specs.Left.{journals, merged_past}
use Rattle.law_network.specs.Quiet.{IsQuiet}
use Rattle.law_network.specs.Stands.{actor_of}
use Rattle.law_network.specs.Schedules.{commands_of, command_in}
use Rattle.law_network.specs.Promises.{Promises}
use Rattle.law_network.proofs.Merge.Journals.{map-places, map-from}
use Rattle.law_network.proofs.Commands.Performing.{actor_in, given-actors, delivered-actors}
use Rattle.law_network.proofs.Events.Seeing.{shown-actors}
use Rattle.law_network.proofs.Places.Layouts.{schedule-keeps}
use Rattle.law_network.proofs.Promises.AllPromises.{keeps-promises}
use Rattle.law_history.specs.Turns.{Input, is_by}
use Rattle.law_history.specs.Network.{Network}
use Rattle.law_history.specs.Journals.{PlaceTurn, Comer, new_from, coming, event_with, event_of, events_after, events, IsTheirSchedule}
use Rattle.law_history.specs.Runs.{with_command, commands_given, journals_at, merged_at, actor_among, MergesAsARun, KeepsPromises, JournalsMergeAsARun, JournalsKeepPromises}
use Rattle.law_history.proofs.Lists.{reverse-first}
use Rattle.law_history.proofs.Showing.{packets_on}
use Rattle.law_history.proofs.Arriving.{all-come}
use Rattle.law_history.proofs.Scheduled.{their-schedule}

-- The commands of the schedule, the latest first, are those of the turns.

given-one : (i : Input Command Packet) (b : Bool) (p seat q : ℕ) (gs cs : List Command) → (seat == q) ≡ b →
    reverse gs ++ command_in q (event_with p seat i) cs ≡ reverse (cond b (with_command i gs) gs) ++ cs
given-one (Input.Command c) true p seat q gs cs e = ap (λ z. reverse gs ++ cond z (c ∷ cs) cs) e ∙ sym (reverse-first c gs cs)
given-one (Input.Command c) false p seat q gs cs e = ap (λ z. reverse gs ++ cond z (c ∷ cs) cs) e
given-one (Input.Packet a k) true p seat q gs cs e = refl
given-one (Input.Packet a k) false p seat q gs cs e = refl

one-command : (q : ℕ) (t : PlaceTurn) (ts : List PlaceTurn) (cs : List Command) →
    reverse (commands_given (filter (is_by q) ts)) ++ command_in q (event_of t) cs ≡ reverse (commands_given (filter (is_by q) (t ∷ ts))) ++ cs
one-command q t ts cs =
    given-one t.input (t.seat == q) t.place t.seat q (commands_given (filter (is_by q) ts)) cs refl ∙ ap (λ gs. reverse gs ++ cs) (sym (by (t.seat == q)))
  where
    by : (b : Bool) → commands_given (cond b (t ∷ filter (is_by q) ts) (filter (is_by q) ts)) ≡ cond b (with_command t.input (commands_given (filter (is_by q) ts))) (commands_given (filter (is_by q) ts))
    by true = refl
    by false = refl

commands-are : (q : ℕ) (ts : List PlaceTurn) (es : List Event) →
    commands_of q (events_after ts es) ≡ reverse (commands_given (filter (is_by q) ts)) ++ commands_of q es
commands-are q [] es = refl
commands-are q (t ∷ ts) es =
    commands-are q ts (event_of t ∷ See t.seat t.before.last ∷ es) ∙ one-command q t ts (commands_of q es)

none-come : (q : ℕ) (cs : List Comer) (es : List Event) → commands_of q (reverse (map coming cs) ++ es) ≡ commands_of q es
none-come q [] es = refl
none-come q (c ∷ cs) es = ap (commands_of q) (reverse-first (coming c) (map coming cs) es) ∙ none-come q cs (coming c ∷ es)

commands-given : (q : ℕ) (comers : List Comer) (ts : List PlaceTurn) → commands_of q (events comers ts) ≡ reverse (commands_given (filter (is_by q) ts))
commands-given q comers ts =
    commands-are q ts (reverse (map coming comers))
    ∙ ap (λ cs. reverse (commands_given (filter (is_by q) ts)) ++ cs)
    (ap (commands_of q) (sym (append-nil (reverse (map coming comers)))) ∙ none-come q comers [])
    ∙ append-nil (reverse (commands_given (filter (is_by q) ts)))

-- The actors of the seats are those in which the callers came.

module _ (l : Layout) where
  turned-by : (t : PlaceTurn) (es : List Event) (q : ℕ) → actor_of (schedule l (event_of t ∷ es)) q ≡ actor_of (schedule l es) q
  turned-by t es q = by t.input
    where
      by : (i : Input Command Packet) → actor_of (schedule l (event_with t.place t.seat i ∷ es)) q ≡ actor_of (schedule l es) q
      by (Input.Command c) = given-actors t.seat c (schedule l es) (slice_get (schedule l es).callers t.seat) q refl
      by (Input.Packet a k) = delivered-actors t.seat a t.place (schedule l es) (slice_get (schedule l es).callers t.seat) q refl

  turned : (t : PlaceTurn) (es : List Event) (q : ℕ) → actor_of (schedule l (event_of t ∷ See t.seat t.before.last ∷ es)) q ≡ actor_of (schedule l es) q
  turned t es q =
      turned-by t (See t.seat t.before.last ∷ es) q ∙ shown-actors (schedule l es) t.seat t.before.last (slice_get (schedule l es).callers t.seat) q refl

  all-turned : (ts : List PlaceTurn) (es : List Event) (q : ℕ) → actor_of (schedule l (events_after ts es)) q ≡ actor_of (schedule l es) q
  all-turned [] es q = refl
  all-turned (t ∷ ts) es q = all-turned ts (event_of t ∷ See t.seat t.before.last ∷ es) q ∙ turned t es q

  came-in : (q : ℕ) (o : Option Comer) → actor_in (option_map (λ (c : Comer). new_from q o) o) ≡ option_map (λ (c : Comer). c.actor) o
  came-in q None = refl
  came-in q (Some c) = refl

  actors-are : (comers : List Comer) (ts : List PlaceTurn) (q : ℕ) → actor_of (schedule l (events comers ts)) q ≡ actor_among comers q
  actors-are comers ts q =
      all-turned ts (reverse (map coming comers)) q ∙ ap (λ fs. actor_of (schedule l fs) q) (sym (append-nil (reverse (map coming comers))))
      ∙ ap actor_in ((all-come l comers).callers q) ∙ came-in q (slice_get comers q)

-- Where no link holds a packet, none is left.

none-left : (us : List Outgoing) → ((a b : ℕ) → packets_on a b us ≡ []) → us ≡ []
none-left [] h = refl
none-left (u ∷ us) h =
    let own : is_link u.packet.from u.to u ≡ true = and_from (u.packet.from == u.packet.from) (u.to == u.to) (eq-eqb u.packet.from u.packet.from refl) (eq-eqb u.to u.to refl) in
    let first : u.packet ∷ packets_on u.packet.from u.to us ≡ [] =
    sym (ap (λ b. map (λ (o : Outgoing). o.packet) (cond b (u ∷ filter (is_link u.packet.from u.to) us) (filter (is_link u.packet.from u.to) us))) own) ∙ h u.packet.from u.to in
    absurd (cc)

module _ (l : Layout) (comers : List Comer) (places-of seats : ℕ → List PlaceTurn) (closing : Network PlaceState Seated Packet) (shape : IsLayout l) (ts : List PlaceTurn) (is : IsTheirSchedule l comers places-of seats closing ts) where
  abbrev n : NetState
  n = schedule l (events comers ts)

  promises : Promises l (events comers ts) n
  promises = keeps-promises l (events comers ts) shape is.may

  journals-are : journals n ≡ journals_at l closing
  journals-are =
      let keeps = schedule-keeps l (events comers ts) in
      map-places (λ (s : PlaceState). reverse s.journal) l n.places (places l) 1 keeps.numbers
      ∙ map-from (λ p. reverse (place_in l p n.places).journal) (λ p. reverse (closing.places p).journal) (places l) 1
      (λ p le. ap (λ (s : PlaceState). reverse s.journal) (ap (λ k. place_in k p n.places) (sym keeps.layout) ∙ is.ends.places p))

  merge-is : merged_past n ≡ merged_at l closing
  merge-is = ap (λ js. reverse (merged js)) journals-are

  pub keeps-all : KeepsPromises l comers places-of seats closing
  keeps-all = record { turns = ts; scheduled = is; promises = promises; merge = merge-is }

  pub merges : MergesAsARun l comers seats closing
  merges =
      record {
        run = sym (λ i. is_run l (λ q. actors-are l comers ts q i) (merge-is i)) ∙ promises.run;
        journals = λ p. ap (at p) (sym merge-is) ∙ promises.journals p ∙ ap (λ (s : PlaceState). s.journal) (is.ends.places p);
        performed = λ q actor who.
            let given : commands_of q (events comers ts) ≡ reverse (commands_given (seats q)) = commands-given q comers ts ∙ ap (λ us. reverse (commands_given us)) (is.by_seat q) in
            sym (λ i. performs l q actor (merge-is i) (given i)) ∙ promises.performed q actor (actors-are l comers ts q ∙ who);
        quiet = λ none.
            let nothing : n.packets ≡ [] = none-left n.packets (λ a b. is.ends.links a b ∙ none a b) in
            subst (λ past. IsQuiet l past []) merge-is (subst (λ ks. IsQuiet l (merged_past n) ks) (ap (map (λ (o : Outgoing). o.packet)) nothing) (promises.quiet nothing));
      }

pub journals-merge-as-a-run : JournalsMergeAsARun
journals-merge-as-a-run l comers places-of seats closing shape h =
    let found = their-schedule l comers places-of seats closing h in merges l comers places-of seats closing shape found.0 found.1

pub journals-keep-promises : JournalsKeepPromises
journals-keep-promises l comers places-of seats closing shape h =
    let found = their-schedule l comers places-of seats closing h in keeps-all l comers places-of seats closing shape found.0 found.1
