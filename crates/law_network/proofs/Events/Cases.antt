-- Each command and each packet stands, case by case.
use Rattle.std.proofs.Common.{ℕ, ◌≡◌, ◌==◌, Bool, true, false, cond, List, [], ◌∷◌, Some, None, refl, sym, ◌∙◌, ap, subst}
use Rattle.std.proofs.lemmas.Bool.{and_parts, eqb-true}
use Rattle.chorus_ui.specs.declared.ui.Ui.{Ui}
use Rattle.chorus_entry.specs.declared.entry.Entry.{Entry}
use Rattle.chorus_entry.specs.declared.dest.Dest.{Dest}
use Rattle.chorus_entry.specs.declared.dest.Dest.TheVariants as dests
use Rattle.chorus_entry.specs.declared.message.Message.{Message}
use Rattle.chorus_entry.specs.declared.command.Command.{Command}
use Rattle.chorus_entry.specs.declared.command.Command.TheVariants as commands
use Rattle.chorus_entry.specs.declared.packet.Packet.{Packet}
use Rattle.chorus_entry.specs.declared.packet.Cargo.{Cargo}
use Rattle.chorus_entry.specs.declared.packet.Cargo.TheVariants as cargos
use Rattle.chorus_entry.specs.Dest.{group_in}
use Rattle.law_machine.specs.declared.outgoing.Outgoing.{Outgoing}
use Rattle.law_machine.specs.PlaceState.{Turn}
use Rattle.law_machine.specs.Choosing.{chooses}
use Rattle.law_machine.specs.Working.{opens}
use Rattle.law_machine.specs.PlaceMachine.{act, work}
use Rattle.law_machine.proofs.Machine.Ready.{ReadyHere}
use Rattle.law_network.specs.Packets.{is_link, first_on, rest_on}
use Rattle.law_network.proofs.Standing.Leading.{LeadsOn}
use Rattle.law_network.proofs.Standing.Given.{IsGiven, Comes}
use Rattle.law_network.specs.Schedules.{has_number_left}
use Rattle.law_network.specs.Network.{NetState}
use Rattle.law_network.proofs.Ports.Making.{make-stands}
use Rattle.law_network.proofs.Groups.GroupPosting.{all-stands, one-stands, one-at-stands}
use Rattle.law_network.proofs.Groups.GroupCommands.{group-make-stands, join-stands, leave-stands}
use Rattle.law_network.proofs.Posts.CallerCommands.{send-stands, call-stands, retry-stands, reply-stands, cancel-stands}
use Rattle.law_network.proofs.Ports.AtPorts.{take-given, move-given, delete-given}
use Rattle.law_network.proofs.Packets.Delivering.{try-stands, verdict-stands}
use Rattle.law_network.proofs.Ports.Arriving.{transfer-stands}
use Rattle.law_network.proofs.Groups.Asking.{ask-stands, asks-group}
use Rattle.law_network.proofs.Packets.Reporting.{report-stands}

-- the first packet of a pair comes from its first place
first-from : (a b : ℕ) (us : List Outgoing) (k : Packet) → first_on a b us ≡ Some k → k.from ≡ a
first-from a b [] k h = absurd (let bad : None ≡ Some k = h in cc)
first-from a b (u ∷ us) k h = go (is_link a b u) refl h (first-from a b us k)
  where
    go : (c : Bool) → is_link a b u ≡ c → cond c (Some u.packet) (first_on a b us) ≡ Some k → (first_on a b us ≡ Some k → k.from ≡ a) → k.from ≡ a
    go true e f ih =
        let same : u.packet ≡ k = cc in
        ap (λ (z : Packet). z.from) (sym same) ∙ eqb-true u.packet.from a (and_parts (u.packet.from == a) (u.to == b) e).0
    go false e f ih = ih f

pub commands-stand : (n : NetState) (us : List Outgoing) (past : List Entry) (t : Turn) (c : Command) → t.puts ≡ [] → IsGiven n us past t c → ReadyHere t → has_number_left t.caller c ≡ true → LeadsOn n us past (act c t)
commands-stand n us past t (commands.Make actor capacity) none i ready left = make-stands n us past t actor capacity i
commands-stand n us past t (commands.Send (dests.Port q) body) none i ready left = send-stands n us past t q body i
commands-stand n us past t (commands.Send (dests.All g) body) none i ready left = all-stands n us past t ready body g i
commands-stand n us past t (commands.Send (dests.One g) body) none i ready left = one-stands n us past t ready body g i
commands-stand n us past t (commands.Send (dests.OneAt g s) body) none i ready left = one-at-stands n us past t ready body g s i
commands-stand n us past t (commands.Call q back body) none i ready left = call-stands n us past t q back body i
commands-stand n us past t commands.Retry none i ready left = retry-stands n us past t i
commands-stand n us past t commands.Cancel none i ready left = cancel-stands n us past t i
commands-stand n us past t (commands.Reply body) none i ready left = reply-stands n us past t body i
commands-stand n us past t (commands.Take q) none i ready left = take-given n us past t q i
commands-stand n us past t (commands.Move q actor) none i ready left = move-given n us past t q actor i
commands-stand n us past t (commands.GroupMake s) none i ready left = group-make-stands n us past t s i
commands-stand n us past t (commands.Join g q) none i ready left = join-stands n us past t g q i
commands-stand n us past t (commands.Leave g q) none i ready left = leave-stands n us past t g q i
commands-stand n us past t (commands.Delete q) none i ready left = delete-given n us past t q i

pub packets-stand : (n : NetState) (us : List Outgoing) (past : List Entry) (t : Turn) (a : ℕ) (k : Packet) → Comes n us past t a k → (a == t.place.number) ≡ false → LeadsOn n (rest_on a t.place.number us) past (work k t)
packets-stand n us past t a k i apart = by k.cargo refl
  where
    asked : (m : Message) (d : Dest) (g : Ui) → group_in d ≡ Some g → k.cargo ≡ cargos.Ask m d → LeadsOn n (rest_on a t.place.number us) past (chooses m d g k.from t)
    asked m d g group e =
        subst (λ z. LeadsOn n (rest_on a t.place.number us) past (chooses m d g z t)) (sym (first-from a t.place.number us k i.first)) (ask-stands n us past t a k i m d e g group)

    by : (c : Cargo) → k.cargo ≡ c → LeadsOn n (rest_on a t.place.number us) past (opens k.from c t)
    by (cargos.Try m q r only h) e = try-stands n us past t a k i m q r only h e
    by (cargos.Verdict x q r v) e = verdict-stands n us past t a k i x q r v e
    by (cargos.Transfer port) e = transfer-stands n us past t a k i port e
    by (cargos.Ask m (dests.Port q)) e = absurd (asks-group n us past t a k i m (dests.Port q) e refl)
    by (cargos.Ask m (dests.All g)) e = asked m (dests.All g) g refl e
    by (cargos.Ask m (dests.One g)) e = asked m (dests.One g) g refl e
    by (cargos.Ask m (dests.OneAt g s)) e = asked m (dests.OneAt g s) g refl e
    by (cargos.Report x v) e = report-stands n us past t a k i x v e
