-- Whether a script may go on, as it is read from the tables, the scripts and the counts.
-- c is a scenario, k the number of a script and of its seat, q a port, a an actor.
use Rattle.std.proofs.Common.{ℕ, ◌≡◌, ◌<◌, ◌+◌, ◌-◌, ◌==◌, ◌&&◌, ◌||◌, true, List, [], ◌∷◌, length, get_or, Option, Some, None, slice_get, refl, sym, ◌∙◌, ap, subst, arith}
use Rattle.std.specs.Prelude.{slice_set}
use Rattle.std.proofs.lemmas.Bool.{false≢true}
use Rattle.std.proofs.lemmas.Option.{get_or_from_slice_get, slice_get_read, slice_get_within}
use Rattle.chorus_ui.specs.declared.ui.Ui.{Ui}
use Rattle.chorus_entry.specs.declared.command.Command.{Command}
use Rattle.chorus_entry.specs.Places.{place_for}
use Rattle.chorus_ports.specs.Table.{find}
use Rattle.chorus_ports.specs.Taking.{taken}
use Rattle.chorus_calls.specs.Callers.{Seated}
use Rattle.chorus_place.specs.Calls.{Place}
use Rattle.law_machine.specs.Own.{take_act}
use Rattle.law_network.specs.Network.{NetState, Act}
use Rattle.law_network.specs.Schedules.{may_happen}
use Rattle.law_awaits.specs.Awaits.{is_taken, takes_by, would_take}
use Rattle.chorus_net.specs.Sites.{SitesState, IsSites, net}
use Rattle.chorus_net.proofs.Events.{place-found}
use Rattle.chorus_scene.specs.declared.limits.TheConstants.{COMMANDS_LIMIT}
use Rattle.chorus_scene.specs.Scene.{Scene, Script, is_await}
use Rattle.chorus_scene.specs.Grammar.{script_at}
use Rattle.chorus_scene.specs.Limits.{Keeps}
use Rattle.chorus_replay.specs.Waiting.{IsScript, done_by, may_by, may_go_on, next_command, one_more}
use Rattle.chorus_replay.proofs.May.{few-scripts}
use Rattle.chorus_replay.proofs.Standings.{script-at}

-- A take, by the record of its port.

-- and by the place where it is carried out
pub at-place : (s : SitesState) (k i : ℕ) (q : Ui) (x : Seated) (p : Place) → IsSites s → may_happen (Act k (Command.Take q)) (net s) ≡ true → slice_get s.callers k ≡ Some x → place_for s.layout x.actor (Command.Take q) ≡ 1 + i → i < length s.places → p ≡ get_or s.places i p
    → would_take k (Command.Take q) (net s) ≡ is_taken (take_act q (taken x.actor (find q p.ports)))
at-place s k i q x p h may found number lt at =
    ap (takes_by (Command.Take q) (net s)) found
    ∙ ap (λ z. is_taken (take_act q (taken x.actor (find q z.ports)))) (place-found s k i (Command.Take q) x p h may found number lt at)

-- The next command of a script.

pub script-is : (c : Scene) (k : ℕ) → IsScript c k → (items : List Script) (script : Script) → items ≡ c.scripts → script ≡ get_or items (k - 1) script → script ≡ script_at k c.scripts
script-is c k of items script same is =
    let at = script-at c k of in
    let len = ap length same in
    let lt : k - 1 < length items = omega (arith, of.0, of.1, len) in
    let read : slice_get items (k - 1) ≡ Some script = slice_get_read items _ (k - 1) script refl lt is in
    let both : Some script ≡ Some (script_at k c.scripts) = sym read ∙ ap (λ xs. slice_get xs (k - 1)) same ∙ ap (slice_get c.scripts) at.less ∙ at.found in
    cc

pub count-is : (done : List ℕ) (k r : ℕ) → k - 1 < length done → r ≡ get_or done (k - 1) r → done_by done k ≡ r
count-is done k r lt is = get_or_from_slice_get done (k - 1) r 0 (slice_get_read done _ (k - 1) r refl lt is)

-- what is read of the commands at that number is the next one
pub next-is : (c : Scene) (done : List ℕ) (k : ℕ) → IsScript c k → (items : List Script) (script : Script) (commands : List Command) (r : ℕ) → items ≡ c.scripts → script ≡ get_or items (k - 1) script → commands ≡ script.commands
    → k - 1 < length done → r ≡ get_or done (k - 1) r → slice_get commands r ≡ next_command c done k
next-is c done k of items script commands r same is commands-are lt count =
    ap (λ xs. slice_get xs r) (commands-are ∙ ap (λ (s : Script). s.commands) (script-is c k of items script same is))
    ∙ ap (slice_get (script_at k c.scripts).commands) (sym (count-is done k r lt count))

-- one that may go on has a next command
pub goes-next : (c : Scene) (done : List ℕ) (k : ℕ) (n : NetState) → may_go_on c done k n ≡ true → (command : Command) × (next_command c done k ≡ Some command)
goes-next c done k n h = by (next_command c done k) refl
  where
    by : (o : Option Command) → next_command c done k ≡ o → (command : Command) × (next_command c done k ≡ Some command)
    by None e = absurd (false≢true (sym (ap (λ o. may_by (is_await (script_at k c.scripts).waits (done_by done k)) k o n) e) ∙ h))
    by (Some command) e = (command, e)

-- A script by its place.

-- the caller that is read is that of the seat
pub caller-read : (cs items : List Seated) (k : ℕ) (x : Seated) → items ≡ cs → k < length cs → x ≡ get_or items k x → slice_get cs k ≡ Some x
caller-read cs items k x same lt is = subst (λ zs. slice_get zs k ≡ Some x) same (slice_get_read items _ k x refl (let e = ap length same in omega (arith, e, lt)) is)

-- What is read of a script that may go on.
module _ (c : Scene) (keeps : Keeps c) (done : List ℕ) (k : ℕ) (of : IsScript c k) (n : NetState) (goes : may_go_on c done k n ≡ true) (counted : length done ≡ length c.scripts) (items : List Script) (script : Script) (commands : List Command) (r : ℕ)
    (same : items ≡ c.scripts) (is : script ≡ get_or items (k - 1) script) (commands-are : commands ≡ script.commands) (count : r ≡ get_or done (k - 1) r) where
  read : slice_get commands r ≡ next_command c done k
  read = next-is c done k of items script commands r same is commands-are (let low = of.0 in let high = of.1 in omega (arith, low, high, counted)) count

  below : r < length commands
  below = (let next = goes-next c done k n goes in slice_get_within commands r next.0 (read ∙ next.1))

  pub few-read : r < COMMANDS_LIMIT
  few-read =
      let place = script-at c k of in
      let few = few-scripts c.layout c.version c.sites place.place c.scripts (script_at k c.scripts) keeps.scripts place.found in
      let long = ap length (commands-are ∙ ap (λ (s : Script). s.commands) (script-is c k of items script same is)) in
      let lt = below in
      omega (arith, few, long, lt)

  -- its next command
  pub next-read : (x : Command) → x ≡ get_or commands r x → next_command c done k ≡ Some x
  next-read x at = sym read ∙ slice_get_read commands _ r x refl below at

pub one-more-is : (c : Scene) (done : List ℕ) (k : ℕ) → IsScript c k → length done ≡ length c.scripts → (m : ℕ) → m ≡ get_or done (k - 1) m → slice_set done (k - 1) (m + 1) ≡ one_more k done
one-more-is c done k of counted m counts = ap (λ i. slice_set done (k - 1) (i + 1)) (sym (count-is done k m (let low = of.0 in let high = of.1 in omega (arith, low, high, counted)) counts))
