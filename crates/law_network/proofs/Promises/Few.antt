-- A direct post is carried by at most two packets for each place of its port's path.
use Rattle.std.proofs.Common.{◌≡◌, ◌≤◌, ◌+◌, ◌*◌, Bool, true, false, cond, List, [], ◌∷◌, length, Option, Some, None, refl, sym, ◌∙◌, ap, subst, arith}
use Rattle.std.specs.List.{filter}
use Rattle.chorus_ui.specs.declared.ui.Ui.{Ui}
use Rattle.chorus_ui.specs.declared.layout.Layout.{Layout}
use Rattle.chorus_entry.specs.declared.entry.Entry.{Entry}
use Rattle.chorus_entry.specs.declared.id.MsgId.{MsgId}
use Rattle.chorus_entry.specs.declared.act.Act.{Act}
use Rattle.chorus_entry.specs.declared.act.Act.TheVariants as acts
use Rattle.chorus_entry.specs.Act.{message_of}
use Rattle.chorus_entry.specs.MsgId.{same_id}
use Rattle.chorus_world.specs.Views.{on, about, is_about}
use Rattle.chorus_entry.specs.Same.{are_same}
use Rattle.chorus_world.specs.Posts.{post_of, posted_in, source}
use Rattle.chorus_world.specs.Ports.{PortState, fate}
use Rattle.chorus_world.specs.Order.{sort}
use Rattle.chorus_world.specs.LocationLaws.{path_of, tries, tries_after}
use Rattle.chorus_world.proofs.Messages.SendingLemmas.{same_id_sym}
use Rattle.chorus_world.proofs.Messages.DirectTries.{direct-tries}
use Rattle.law_network.specs.Network.{schedule, one_if}
use Rattle.law_network.specs.Schedules.{OfSchedules}
use Rattle.law_network.specs.Left.{merged_past}
use Rattle.law_machine.specs.declared.outgoing.Outgoing.{Outgoing}
use Rattle.law_network.specs.History.{history, all_put}
use Rattle.law_network.specs.Promises.{carries_over, hops_from, hops_of, CarriesFew}
use Rattle.law_network.proofs.Merge.Journals.{views, merge-is}
use Rattle.law_network.proofs.Promises.Promised.{stands-at, legal-history}
use Rattle.law_network.proofs.Promises.Puts.{tries_it, tries_of}
use Rattle.law_network.proofs.Promises.Carrying.{all-carried}

-- the entries that try it are among those about it
tries-about : (x : MsgId) (past : List Entry) → tries_of x past ≡ tries (about x past)
tries-about x [] = refl
tries-about x (e ∷ past) = go (is_about (Some x) e) refl (tries-about x past)
  where
    -- an act about it tries it where it is a Try at all
    this : (a : Act) → are_same same_id (Some x) (message_of a) ≡ true → tries_of x past ≡ tries (about x past) → one_if (tries_it x a) + tries_of x past ≡ tries_after a (tries (about x past))
    this (acts.Try y q to hop) t ih =
        let yes_it : same_id y x ≡ true = same_id_sym y x ∙ t in
        let one : one_if (same_id y x) ≡ 1 = ap one_if yes_it in
        omega (arith, one, ih)
    this a t ih = omega (arith, ih)

    other : (a : Act) → are_same same_id (Some x) (message_of a) ≡ false → tries_it x a ≡ false
    other (acts.Try y q to hop) t = same_id_sym y x ∙ t
    other a t = refl

    go : (b : Bool) → is_about (Some x) e ≡ b → tries_of x past ≡ tries (about x past) → one_if (tries_it x e.act) + tries_of x past ≡ tries (cond b (e ∷ about x past) (about x past))
    go true t ih = this e.act t ih
    go false t ih = (let none : one_if (tries_it x e.act) ≡ 0 = ap one_if (other e.act t) in omega (arith, none, ih))

path-length : (l : Layout) (q : Ui) (o : Option PortState) → length (path_of l q o) ≤ hops_from o + 1
path-length l q None = omega arith
path-length l q (Some f) = omega arith

pub carries-few : OfSchedules CarriesFew
carries-few l es shape may x m q copy posted to_q =
    let n = schedule l es in
    let past = history l es in
    let s = stands-at l es shape may in
    let merged : merged_past n ≡ sort past = merge-is n past s in
    let v = views n past s in
    let known : post_of x past ≡ Some m = ap (posted_in (source x)) (sym (v.seats x.seat)) ∙ ap (post_of x) (sym merged) ∙ posted in
    let hops : hops_of q (merged_past n) ≡ hops_of q past = ap (hops_of q) merged ∙ ap (λ line. hops_from (fate line)) (v.ports q) in
    let carried = all-carried x l es in
    let same = tries-about x past in
    let most = direct-tries l past x m q shape (legal-history l es shape may) known to_q in
    let path = path-length l q (fate (on q past)) in
    let all : 2 * tries_of x past ≤ 2 * (hops_of q past + 1) = omega (arith, same, most, path) in
    subst (λ h. length (filter (λ (o : Outgoing). carries_over x o.packet.cargo) (all_put l es)) ≤ 2 * (h + 1)) (sym hops) (omega (arith, carried, all))
