-- A legal list is legal at each moment; so what legal pasts have, they always have, and so has each run.
use Rattle.std.proofs.Common.{ℕ, ◌≡◌, true, ◌&&◌, List, [], ◌∷◌, ◌++◌, Option, sym, ◌∙◌, ap}
use Rattle.std.proofs.lemmas.Bool.{and_parts}
use Rattle.chorus_ui.specs.declared.ui.Ui.{Ui}
use Rattle.chorus_ui.specs.declared.layout.Layout.{Layout}
use Rattle.chorus_ui.specs.Layout.{IsLayout}
use Rattle.chorus_entry.specs.declared.entry.Entry.{Entry}
use Rattle.chorus_world.specs.Steps.{may, is_legal}
use Rattle.chorus_world.specs.Runs.{is_run, may_run}
use Rattle.chorus_world.specs.Always.{LayoutAlways, LayoutEntries, LegalAlways, LegalEntries, RunAlways, RunsAreLegal}
use Rattle.chorus_world.specs.AcceptedLaws.{DiscardsTheRest, KeepsEachMessage, KeepsToCapacity, ReceivesInOrder}
use Rattle.chorus_world.specs.RequestLaws.{AcceptsRequestsOnce, RequestsRise}
use Rattle.chorus_world.specs.SenderLaws.{KeepsSenderOrder}
use Rattle.chorus_world.specs.GroupLaws.{AcceptsOnSite, HasOneCopy, IsChosenOnce, KeepsChoiceOrder, ReachesOneMember}
use Rattle.chorus_world.proofs.Ports.PortLaws.{receives_in_order, keeps_to_capacity, discards_the_rest}
use Rattle.chorus_world.proofs.Messages.OnceLaws.{keeps_each_message}
use Rattle.chorus_world.proofs.Seats.RequestLaws.{requests_rise, requests_once}
use Rattle.chorus_world.proofs.Seats.SenderLaws.{keeps_sender_order}
use Rattle.chorus_world.proofs.Groups.FunctionalLaws.{has_one_copy, is_accepted_once, is_accepted_on_site}
use Rattle.chorus_world.proofs.Groups.BroadcastLaws.{is_chosen_once, keeps_choice_order}
use Rattle.chorus_world.proofs.Sorted.Holders.{run_is_legal}

pub legal-older : (l : Layout) (newer older : List Entry) → is_legal l (newer ++ older) ≡ true → is_legal l older ≡ true
legal-older l [] older h = h
legal-older l (e ∷ newer) older h = legal-older l newer older (and_parts (may l (newer ++ older) e) (is_legal l (newer ++ older)) h).1

pub run-older : (l : Layout) (callers : ℕ → Option Ui) (newer older : List Entry) → is_run l callers (newer ++ older) ≡ true → is_run l callers older ≡ true
run-older l callers [] older h = h
run-older l callers (e ∷ newer) older h =
    run-older l callers newer older (and_parts (may l (newer ++ older) e && may_run callers (newer ++ older) e) (is_run l callers (newer ++ older)) h).1

pub always-legal : (P : List Entry → Type 0) → ((l : Layout) (past : List Entry) → is_legal l past ≡ true → P past) → LegalAlways P
always-legal P has l past h newer older e = has l older (legal-older l newer older (ap (is_legal l) (sym e) ∙ h))

pub always-on : (P : List Entry → Type 0) → ((l : Layout) (past : List Entry) → IsLayout l → is_legal l past ≡ true → P past) → LayoutAlways P
always-on P has l past i h newer older e = has l older i (legal-older l newer older (ap (is_legal l) (sym e) ∙ h))

pub always-run : (P : List Entry → Type 0) → ((l : Layout) (past : List Entry) → IsLayout l → is_legal l past ≡ true → P past) → RunAlways P
always-run P has l callers past i h = always-on P has l past i (run_is_legal l callers past h)

pub legal-entries : (P : Layout → List Entry → Entry → Type 0) → ((l : Layout) (past : List Entry) (e : Entry) → is_legal l (e ∷ past) ≡ true → P l past e) → LegalEntries P
legal-entries P has l past h newer older e is = has l older e (legal-older l newer (e ∷ older) (ap (is_legal l) (sym is) ∙ h))

pub layout-entries : (P : Layout → List Entry → Entry → Type 0) → ((l : Layout) (past : List Entry) (e : Entry) → IsLayout l → is_legal l (e ∷ past) ≡ true → P l past e) → LayoutEntries P
layout-entries P has l past i h newer older e is = has l older e i (legal-older l newer (e ∷ older) (ap (is_legal l) (sym is) ∙ h))

pub runs-are-legal : RunsAreLegal
runs-are-legal = run_is_legal

-- The laws at each moment.

pub always-keeps : LegalAlways KeepsEachMessage
always-keeps = always-legal KeepsEachMessage keeps_each_message

receives : (l : Layout) (past : List Entry) → IsLayout l → is_legal l past ≡ true → ReceivesInOrder past
receives l past i h q = (receives_in_order l past q i h).0

pub always-receives : LayoutAlways ReceivesInOrder
always-receives = always-on ReceivesInOrder receives

pub run-receives : RunAlways ReceivesInOrder
run-receives = always-run ReceivesInOrder receives

pub run-keeps : RunAlways KeepsEachMessage
run-keeps = always-run KeepsEachMessage (λ l past i h. keeps_each_message l past h)

pub always-room : LayoutAlways KeepsToCapacity
always-room = always-on KeepsToCapacity keeps_to_capacity

pub always-discards : LayoutAlways DiscardsTheRest
always-discards = always-on DiscardsTheRest (λ l past i h q xs d. discards_the_rest l past q xs i h d)

pub always-rise : LegalAlways RequestsRise
always-rise = always-legal RequestsRise (λ l past h q i j x y n m b c. requests_rise l past q i j x y n m b c h)

pub always-once : LegalAlways AcceptsRequestsOnce
always-once = always-legal AcceptsRequestsOnce (λ l past h q r i j x y n b c. requests_once l past q r i j x y n b c h)

pub always-in-order : LegalAlways KeepsSenderOrder
always-in-order = always-legal KeepsSenderOrder (λ l past h q i j x y. keeps_sender_order l past q i j x y h)

pub always-one-copy : LegalAlways HasOneCopy
always-one-copy = always-legal HasOneCopy (λ l past h x post. has_one_copy l past x post h)

pub always-one-member : LegalAlways ReachesOneMember
always-one-member = always-legal ReachesOneMember (λ l past h q r i j x y post. is_accepted_once l past q r i j x y post h)

pub entries-on-site : LegalEntries AcceptsOnSite
entries-on-site = legal-entries AcceptsOnSite (λ l past e h x q n s. is_accepted_on_site l past e x q n s h)

pub always-chosen-once : LegalAlways IsChosenOnce
always-chosen-once = always-legal IsChosenOnce (λ l past h g k i j x. is_chosen_once l past g k i j x h)

pub always-by-choice : LegalAlways KeepsChoiceOrder
always-by-choice = always-legal KeepsChoiceOrder (λ l past h q i j x y g. keeps_choice_order l past q i j x y g h)
