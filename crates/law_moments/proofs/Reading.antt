-- What is read of a schedule's network is what is told of it.
use Rattle.std.proofs.Common.{◌≡◌, List, ◌++◌, length, sym, ◌∙◌, ap}
use Rattle.std.specs.List.{flat_map}
use Rattle.chorus_ui.specs.declared.layout.Layout.{Layout}
use Rattle.chorus_entry.specs.declared.entry.Entry.{Entry}
use Rattle.law_machine.specs.PlaceState.{PlaceState}
use Rattle.law_network.specs.History.{history}
use Rattle.law_network.specs.Left.{merged_past}
use Rattle.law_network.specs.Network.{NetState, numbers, schedule}
use Rattle.law_network.specs.Stands.{Stands}
use Rattle.law_network.proofs.Events.InOrder.{in-order}
use Rattle.law_network.proofs.Places.Layouts.{schedule-keeps}
use Rattle.law_explore.specs.Moment.{accept_facts, member_facts, next_facts, post_facts, settled_facts}
use Rattle.law_explore.specs.Outcome.{Fact, answer_facts, message_facts, port_facts, posts_in, stuck_facts}
use Rattle.law_explore.specs.Races.{Told}
use Rattle.law_moments.specs.Answers.{told_in}
use Rattle.law_moments.specs.Read.{MomentsAreRead, OutcomesAreRead, left_behind, places_read, ports_read}
use Rattle.law_moments.proofs.Places.{accepted-same, all_alone, all-posts-same, callers-are, members-same, messages-same, moving-are, places-are, ports-are}

-- the places of a schedule's network, each with its journal alone
module _ (l : Layout) (n : NetState) (hist : List Entry) (s : Stands n hist) (layout : n.layout ≡ l) where
  read-as : (f g : List PlaceState → List Fact) → f (all_alone n.places) ≡ g n.places → f (places_read l (merged_past n)) ≡ g n.places
  read-as f g same =
      ap (λ (m : Layout). f (places_read m (merged_past n))) (sym layout) ∙ ap f (places-are n hist s) ∙ same

  pub messages-read : (told : List (List Told)) → message_facts told (places_read l (merged_past n)) ≡ message_facts told n.places
  messages-read told = read-as (message_facts told) (message_facts told) (messages-same told n.places)

pub outcomes-are-read : OutcomesAreRead
outcomes-are-read l es scripts shape may =
    let n = schedule l es in
    let s = (in-order l es shape may).0 in
    let hist = history l es in
    let layout = (schedule-keeps l es).layout in
    let told = told_in (length scripts) (merged_past (schedule l es)) in
    let messages = messages-read l n hist s layout told in
    let ports = read-as l n hist s layout (ports_read (merged_past n)) port_facts (ports-are n hist s) in
    λ i. answer_facts 1 told ++ messages i ++ ports i ++ stuck_facts scripts (left_behind scripts told)

pub moments-are-read : MomentsAreRead
moments-are-read l es scripts shape may =
    let n = schedule l es in
    let s = (in-order l es shape may).0 in
    let hist = history l es in
    let layout = (schedule-keeps l es).layout in
    let told = told_in (length scripts) (merged_past (schedule l es)) in
    let xs = posts_in told in
    let posts = read-as l n hist s layout (λ ps. flat_map (post_facts ps) xs) (λ ps. flat_map (post_facts ps) xs) (all-posts-same n.places xs) in
    let ports = read-as l n hist s layout (ports_read (merged_past n)) port_facts (ports-are n hist s) in
    let accepted = read-as l n hist s layout accept_facts accept_facts (accepted-same n.places) in
    let members = read-as l n hist s layout (flat_map member_facts) (flat_map member_facts) (members-same n.places) in
    let callers = callers-are n hist s (numbers (length scripts) 1) in
    let moving = moving-are n.packets in
    λ i. settled_facts 1 told ++ posts i ++ (ports i ++ accepted i) ++ moving i ++ members i ++ (callers i ++ next_facts scripts (left_behind scripts told))
