-- The members of groups, and the copies that wait for those that a post chooses.
use Rattle.std.proofs.Common.{ℕ, zero, suc, ◌≡◌, ◌≤◌, ◌<◌, ◌+◌, nat_le, Bool, true, false, cond, List, [], ◌∷◌, ◌++◌, take, drop, remove, length, length-append, Some, refl, arith, All}
use Rattle.std.specs.Prelude.{find}
use Rattle.std.proofs.lemmas.Bool.{and_from, le-leb}
use Rattle.std.proofs.lemmas.List.Elements.{All-nil, All-cons, All-head, All-tail, All-append, All-take, All-drop, All-push}
use Rattle.chorus_ui.specs.declared.ui.Ui.{Ui}
use Rattle.chorus_entry.specs.declared.entry.Entry.{Entry}
use Rattle.chorus_entry.specs.declared.act.Act.{Act}
use Rattle.chorus_entry.specs.declared.answer.Answer.TheVariants as A
use Rattle.chorus_entry.specs.declared.dest.Dest.{Dest}
use Rattle.chorus_entry.specs.declared.dest.Dest.TheVariants as dests
use Rattle.chorus_entry.specs.declared.message.Message.{Message}
use Rattle.chorus_entry.specs.Dest.{site_in}
use Rattle.chorus_ui.specs.NameKind.{is_port, is_group}
use Rattle.chorus_entry.specs.Members.{first_of, listed, without, index_of}
use Rattle.chorus_entry.specs.Ranges.{has_ranges_of_message, is_demanded_site}
use Rattle.chorus_world.specs.Groups.{members, rotation, in_turn}
use Rattle.place_unsettled.specs.declared.wait.Key.{Key}
use Rattle.place_unsettled.specs.Queues.{Queue, changed, with_last}
use Rattle.law_machine.specs.PlaceState.{PlaceState, Turn, unchanged, next_clock}
use Rattle.law_machine.specs.Trying.{report, go}
use Rattle.law_machine.specs.Choosing.{is_at_site, choice, by_group, copy, with_copies, all_go, chooses_all, chooses_these, chooses}
use Rattle.law_bounds.specs.Bounds.{IsWaitWithin, AreMembersWithin, IsWithin, IsTurnWithin}
use Rattle.law_bounds.proofs.Ranges.{message-parts, copy-within}
use Rattle.law_bounds.proofs.Entries.{says, ports-still, known-still, waiting-changed}
use Rattle.law_bounds.proofs.Trying.{report-within, go-within}

abbrev IsPort : Ui → Type 0
IsPort q = is_port q ≡ true

-- One joins, or leaves.

remove-less : (qs : List Ui) (i : ℕ) → length (remove qs i) ≤ length qs
remove-less [] zero = omega arith
remove-less [] (suc i) = omega arith
remove-less (q ∷ qs) zero = omega arith
remove-less (q ∷ qs) (suc i) = let ih = remove-less qs i in omega (arith, ih)

pub left-within : (q : Ui) (qs : List Ui) → AreMembersWithin qs → AreMembersWithin (without q qs)
left-within q qs h =
    let i = index_of q qs in
    let less = remove-less qs i in
    let few = h.few in
    record {
      ports = All-append IsPort (take i qs) (drop (suc i) qs) (All-take IsPort i qs h.ports) (All-drop IsPort (suc i) qs h.ports);
      few = omega (arith, less, few);
    }

pub joined-within : (q : Ui) (qs : List Ui) → is_port q ≡ true → length qs < 32 → AreMembersWithin qs → AreMembersWithin (qs ++ q ∷ [])
joined-within q qs port room h =
    let more = length-append qs (q ∷ []) in
    record { ports = All-push IsPort qs q h.ports port; few = omega (arith, more, room) }

-- Those that are chosen.

first-within : (qs : List Ui) → All IsPort qs → AreMembersWithin (listed (first_of qs))
first-within [] h = record { ports = All-nil IsPort; few = omega arith }
first-within (q ∷ qs) h = record { ports = All-cons IsPort q [] (All-head IsPort q qs h) (All-nil IsPort); few = omega arith }

found-within : (test : Ui → Bool) (qs : List Ui) → All IsPort qs → AreMembersWithin (listed (find test qs))
found-within test [] h = record { ports = All-nil IsPort; few = omega arith }
found-within test (q ∷ qs) h = by (test q) (found-within test qs (All-tail IsPort q qs h))
  where
    by : (b : Bool) → AreMembersWithin (listed (find test qs)) → AreMembersWithin (listed (cond b (Some q) (find test qs)))
    by true ih = record { ports = All-cons IsPort q [] (All-head IsPort q qs h) (All-nil IsPort); few = omega arith }
    by false ih = ih

turn-within : (g : Ui) (here : List Entry) → All IsPort (members g here) → All IsPort (in_turn g here)
turn-within g here h =
    All-append IsPort (drop (rotation g here) (members g here)) (take (rotation g here) (members g here))
    (All-drop IsPort (rotation g here) (members g here) h) (All-take IsPort (rotation g here) (members g here) h)

choice-within : (d : Dest) (s : PlaceState) → IsWithin s → AreMembersWithin (choice d s)
choice-within (dests.Port q) s h = record { ports = All-nil IsPort; few = omega arith }
choice-within (dests.All g) s h = h.members g
choice-within (dests.One g) s h = first-within (in_turn g s.journal) (turn-within g s.journal (h.members g).ports)
choice-within (dests.OneAt g site) s h = found-within (is_at_site site s) (in_turn g s.journal) (turn-within g s.journal (h.members g).ports)

-- Their copies.

abbrev AreWithin : (Key → Queue) → Type 0
AreWithin waiting = (k : Key) → All (IsWaitWithin k) (waiting k).waits

module _ (m : Message) (d : Dest) (g : Ui) (home : ℕ) (message : has_ranges_of_message m ≡ true) (group : is_group g ≡ true) (site : is_demanded_site (site_in d) ≡ true) where
  copies-within : (n : ℕ) (qs : List Ui) (waiting : Key → Queue) → n + length qs ≤ 33 → All IsPort qs → AreWithin waiting → AreWithin (with_copies m d g home n qs waiting)
  copies-within n [] waiting few ports h = h
  copies-within n (q ∷ qs) waiting few ports h =
      copies-within (n + 1) qs (changed (by_group g q) (with_last (copy m d home n)) waiting) (omega (arith, few)) (All-tail IsPort q qs ports)
      (waiting-changed (by_group g q) (with_last (copy m d home n)) waiting h
      (All-push (IsWaitWithin (by_group g q)) (waiting (by_group g q)).waits (copy m d home n) (h (by_group g q))
      (record { port = All-head IsPort q qs ports; route = group; only = site; message = copy-within m n (omega (arith, few)) message })))

  all-go-within : (qs : List Ui) (t : Turn) → IsTurnWithin t → IsTurnWithin (all_go g qs t)
  all-go-within [] t h = h
  all-go-within (q ∷ qs) t h = all-go-within qs (go (by_group g q) t) (go-within (by_group g q) t h)

  these-within : (qs : List Ui) (t : Turn) → AreMembersWithin qs → IsTurnWithin t → IsTurnWithin (chooses_these m d g home qs t)
  these-within [] t w h =
      says (Act.NoMember m.id g) (record (unchanged t) { loads = report t.place.number home m.id A.NoMember }) t h (record {
        ports = ports-still t h;
        known = known-still t h;
        waiting = h.place.waiting;
        members = h.place.members;
        loads = report-within (next_clock t) t.place.number home m.id A.NoMember (message-parts m message).id refl;
      })
  these-within (q ∷ qs) t w h =
      let few = w.few in
      all-go-within (q ∷ qs) (chooses_all m d g home (q ∷ qs) t)
      (says (Act.Choose m.id g (q ∷ qs)) (record (unchanged t) {
        waiting = with_copies m d g home 1 (q ∷ qs) t.place.waiting;
        loads = report t.place.number home m.id (A.Chosen (length (q ∷ qs)));
      }) t h (record {
        ports = ports-still t h;
        known = known-still t h;
        waiting = copies-within 1 (q ∷ qs) t.place.waiting (omega (arith, few)) w.ports h.place.waiting;
        members = h.place.members;
        loads =
            report-within (next_clock t) t.place.number home m.id (A.Chosen (length (q ∷ qs))) (message-parts m message).id
            (and_from (nat_le 1 (length (q ∷ qs))) (nat_le (length (q ∷ qs)) 32) (le-leb 1 (length (q ∷ qs)) (omega arith)) (le-leb (length (q ∷ qs)) 32 few));
      }))

  pub chooses-within : (t : Turn) → IsTurnWithin t → IsTurnWithin (chooses m d g home t)
  chooses-within t h = these-within (choice d t.place) t (choice-within d t.place h.place) h
