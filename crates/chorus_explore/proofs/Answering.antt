-- The entry that answers a command of a script.
-- c is a scenario, s a stage, i the place of a script, d its next command, p the number of a place.
use Rattle.std.proofs.Common.{ℕ, suc, ◌≡◌, ◌+◌, ◌^◌, ◌<◌, ◌≤◌, true, List, ◌∷◌, ◌++◌, length, reverse, set, option_to_list, Option, Some, slice_get, sym, ◌∙◌, ap, subst, arith}
use Rattle.std.specs.Option.{option_map}
use Rattle.std.proofs.lemmas.List.{length-reverse, reverse-reverse}
use Rattle.chorus_ui.specs.declared.layout.Layout.{Layout}
use Rattle.chorus_ui.specs.declared.ui.Ui.{Ui}
use Rattle.chorus_ui.specs.declared.limits.TheConstants.{CLOCK_LIMIT}
use Rattle.chorus_ui.specs.Layout.{has_place}
use Rattle.chorus_entry.specs.declared.act.Act as acts
use Rattle.chorus_entry.specs.declared.command.Command.{Command}
use Rattle.chorus_entry.specs.declared.entry.Entry.{Entry}
use Rattle.chorus_entry.specs.Places.{place_for}
use Rattle.law_machine.specs.Own.{own}
use Rattle.law_machine.specs.PlaceState.{next_entry}
use Rattle.chorus_calls.specs.Callers.{Seated}
use Rattle.law_machine.specs.PlaceMachine.{act as act-in}
use Rattle.law_machine.specs.Replies.{reply}
use Rattle.law_network.specs.Network.{NetState, Act, happened, place, replied, turn_for}
use Rattle.law_network.proofs.Events.Said.{act-goes}
use Rattle.law_explore.specs.declared.moves.Move.TheVariants.{Go}
use Rattle.law_explore.specs.Outcome.{post_in}
use Rattle.law_explore.specs.Races.{Order, Told, told_in}
use Rattle.chorus_scene.specs.Limits.{Keeps}
use Rattle.chorus_scene.specs.Scene.{Scene}
use Rattle.chorus_net.specs.Sites.{IsScheduled, net}
use Rattle.chorus_net.specs.Worn.{compared_by}
use Rattle.chorus_explore.specs.declared.race_sites.Progress.{Progress}
use Rattle.chorus_explore.specs.declared.race_sites.Stage.{Stage}
use Rattle.chorus_explore.specs.Tellings.{answered_line, settles_in}
use Rattle.chorus_explore.proofs.Settling.{settles-of-reply}
use Rattle.chorus_explore.specs.Stages.{AreAt, IsNext, IsPlaceFor, IsReached, MayWear, may_go, moves_of, position}
use Rattle.chorus_explore.proofs.Entering.{wears-behind}
use Rattle.chorus_explore.proofs.Keeping.{script-keeps}
use Rattle.chorus_explore.proofs.Moving.{Goes, goes-by, layout-at, order-next, performed, some-same, within}
use Rattle.chorus_explore.proofs.Staging.{orders-long}
use Rattle.chorus_explore.proofs.Racing.{entry-at, own-entry}

-- an entry behind those that were there
behind : (new past newer : List Entry) (e : Entry) (at : ℕ) → reverse new ≡ newer ++ e ∷ past → at ≡ length past → slice_get new at ≡ Some e
behind new past newer e at is long =
    ap (λ (n : ℕ). slice_get new n) (long ∙ sym (length-reverse past)) ∙ entry-at (reverse past) new past newer e (reverse-reverse past) is

pub record IsAnswered (c : Scene) (s : Stage) (i : ℕ) (d : Command) (g : Goes c i s d) (new : List Entry) (at : ℕ) : Type 0 where
  pub entry : Entry
  pub stands : slice_get new at ≡ Some entry
  pub act : entry.act ≡ own d (turn_for d g.caller.caller (position c (moves_of s)).net)

module _ (c : Scene) (s : Stage) (h : IsReached c s) (i : ℕ) (d : Command) (g : Goes c i s d) where
  pub answered : (l : Layout) (p : ℕ) (n : NetState) (new : List Entry) (at : ℕ) → IsScheduled l (net s.sites) → p ≡ place_for c.layout g.at.script.actor d → has_place c.layout p ≡ true
      → n ≡ happened (Act (suc i) d) (net s.sites) → reverse new ≡ (place p n).journal → at ≡ length (place p (net s.sites)).journal → IsAnswered c s i d g new at
  answered l p n new at scheduled where_ has is journal long =
      let before = net s.sites in
      let w = g.caller.caller in
      let t = turn_for d w before in
      let found : slice_get before.callers (suc i) ≡ Some w = ap (λ (m : NetState). slice_get m.callers (suc i)) h.at.net ∙ g.caller.is in
      let same : p ≡ place_for before.layout w.actor d =
      where_ ∙ ap (λ (m : Layout). place_for m g.at.script.actor d) (sym (layout-at c s h)) ∙ ap (λ (a : Ui). place_for before.layout a d) (sym g.caller.actor_is) in
      let there : has_place before.layout (place_for before.layout w.actor d) ≡ true =
      subst (λ (q : ℕ). has_place before.layout q ≡ true) same (ap (λ (m : Layout). has_place m p) (layout-at c s h) ∙ has) in
      let own-is : (place p (happened (Act (suc i) d) before)).journal ≡ (act-goes d t).newer ++ next_entry (own d t) t ∷ (place p before).journal =
      subst (λ (q : ℕ). (place q (happened (Act (suc i) d) before)).journal ≡ (act-goes d t).newer ++ next_entry (own d t) t ∷ (place q before).journal) (sym same)
      (own-entry l before (suc i) d w scheduled found there) in
      record {
        entry = next_entry (own d t) t;
        stands = behind new (place p before).journal (act-goes d t).newer (next_entry (own d t) t) at (journal ∙ ap (λ (m : NetState). (place p m).journal) is ∙ own-is) long;
        act = ap (λ (m : NetState). own d (turn_for d w m)) h.at.net;
      }

-- what answered it: the act of that entry, and what the reply says
told-is : (c : Scene) (s : Stage) (h : IsReached c s) (i : ℕ) (d : Command) (next : IsNext c (moves_of s) i d) (act : acts.Act) (settles : Option acts.Act)
    → act ≡ own d (turn_for d (goes-by c s h i d next).caller.caller (position c (moves_of s)).net)
    → Some settles ≡ option_map settles_in (replied (i + 1) d (net s.sites))
    → (let it : Told = record { act = act; settles = settles } in it) ≡ told_in d (turn_for d (goes-by c s h i d next).caller.caller (position c (moves_of s)).net)
told-is c s h i d next act settles own-is reply-is =
    let g = goes-by c s h i d next in
    let w = g.caller.caller in
    let n = (position c (moves_of s)).net in
    let after : i + 1 ≡ suc i = omega arith in
    let found : replied (i + 1) d (net s.sites) ≡ Some (reply d (turn_for d w n)) =
    ap (λ (k : ℕ). replied k d (net s.sites)) after ∙ ap (replied (suc i) d) h.at.net ∙ ap (option_map (λ (caller : Seated). reply d (turn_for d caller n))) g.caller.is in
    let same = some-same settles (settles_in (reply d (turn_for d w n))) (reply-is ∙ ap (option_map settles_in) found) in
    (λ j. record { act = own-is j; settles = (same ∙ settles-of-reply (own d (turn_for d w n)) (turn_for d w n) (act-in d (turn_for d w n))) j })

-- the stage behind the command
pub performed-by : (c : Scene) (s t : Stage) (i : ℕ) (d : Command) (old new : Progress) (act : acts.Act) (settles : Option acts.Act) → (h : IsReached c s) → (next : IsNext c (moves_of s) i d)
    → net t.sites ≡ happened (Act (i + 1) d) (net s.sites) → slice_get s.scripts.items i ≡ Some old → t.scripts.items ≡ set s.scripts.items i new → t.asks ≡ s.asks
    → act ≡ own d (turn_for d (goes-by c s h i d next).caller.caller (position c (moves_of s)).net)
    → Some settles ≡ option_map settles_in (replied (i + 1) d (net s.sites))
    → new.next ≡ old.next + 1 → new.answers.items ≡ old.answers.items ++ answered_line s.asks (i + 1) (old.next + 1) act settles → new.posts.items ≡ old.posts.items ++ option_to_list (post_in act)
    → AreAt c (Go i ∷ moves_of s) t
performed-by c s t i d old new act settles h next is found scripts asks own-is reply-is more answers posts =
    let g = goes-by c s h i d next in
    let same : old ≡ g.at.p = some-same old g.at.p (sym found ∙ g.at.is_p) in
    let after : i + 1 ≡ suc i = omega arith in
    let number : i + 1 ≡ 1 + i = omega arith in
    performed c i s t d new h g (is ∙ ap (λ (k : ℕ). happened (Act k d) (net s.sites)) after) scripts asks
    (record { act = act; settles = settles }) (told-is c s h i d next act settles own-is reply-is)
    (more ∙ ap (λ (q : Progress). q.next + 1) same)
    (answers ∙ ap (λ (k : ℕ). old.answers.items ++ answered_line s.asks k (old.next + 1) act settles) number ∙ ap (λ (q : Progress). q.answers.items ++ answered_line s.asks (1 + i) (q.next + 1) act settles) same)
    (posts ∙ ap (λ (q : Progress). q.posts.items ++ option_to_list (post_in act)) same)

-- a script that goes on is there, and its command has a number of 32 bits
pub script-below : (c : Scene) (s : Stage) (i : ℕ) (d : Command) → (h : IsReached c s) → IsNext c (moves_of s) i d → i < length s.scripts.items
script-below c s i d h next =
    let g = goes-by c s h i d next in
    within s.scripts.items i g.at.p g.at.is_p

pub next-few : (c : Scene) (s : Stage) (i : ℕ) (d : Command) (old : Progress) → (h : IsReached c s) → IsNext c (moves_of s) i d → Keeps c → slice_get s.scripts.items i ≡ Some old → old.next < 2 ^ 32
next-few c s i d old h next keeps found =
    let g = goes-by c s h i d next in
    let same : old ≡ g.at.p = some-same old g.at.p (sym found ∙ g.at.is_p) in
    let few = (script-keeps c keeps i g.at.script g.at.is_script).few in
    let most = g.at.is.few in
    let long = orders-long g.at.script.waits 0 g.at.script.commands in
    let n = ap (λ (q : Progress). q.next) same in
    omega (arith, n, most, long, few)

-- a clock that the command wears
pub wears-next : (c : Scene) (s : Stage) (i : ℕ) (d : Command) (k clock : ℕ) → IsReached c s → IsNext c (moves_of s) i d → may_go c (Go i) (moves_of s) ≡ true → k ≡ i → compared_by (Act (k + 1) d) (net s.sites) ≡ Some clock → CLOCK_LIMIT ≤ clock
    → MayWear c clock
wears-next c s i d k clock h next may same compared worn =
    let o = order-next c (moves_of s) i d next in
    let after : k + 1 ≡ suc i = omega (arith, same) in
    wears-behind c s (Go i) (Act (suc i) d) clock h may (ap (option_map (λ (x : Order). Act (suc i) x.command)) o.1.0 ∙ ap (λ x. Some (Act (suc i) x)) o.1.1)
    (sym (ap (λ (m : ℕ). compared_by (Act m d) (net s.sites)) after) ∙ compared) worn

-- the entry that answers it, as the seat is counted
pub answered-by : (c : Scene) (s : Stage) (h : IsReached c s) (i : ℕ) (d : Command) (next : IsNext c (moves_of s) i d) (k : ℕ) (l : Layout) (p : ℕ) (n : NetState) (new : List Entry) (at : ℕ) → k ≡ i
    → IsScheduled l (net s.sites) → IsPlaceFor c i d p → has_place c.layout p ≡ true → n ≡ happened (Act (k + 1) d) (net s.sites) → reverse new ≡ (place p n).journal
    → at ≡ length (place p (net s.sites)).journal → IsAnswered c s i d (goes-by c s h i d next) new at
answered-by c s h i d next k l p n new at same scheduled where_ has is journal long =
    let g = goes-by c s h i d next in
    let after : k + 1 ≡ suc i = omega (arith, same) in
    answered c s h i d g l p n new at scheduled (where_ g.at.script g.at.is_script) has (is ∙ ap (λ (m : ℕ). happened (Act m d) (net s.sites)) after) journal long
