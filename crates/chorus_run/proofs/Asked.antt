-- How scripts stand that were asked.
-- c is a scenario, l a layout, k the number of a script, n how many of its commands were done.
use Rattle.std.proofs.Common.{ℕ, zero, suc, ◌≡◌, ◌+◌, ◌-◌, ◌<◌, ◌≤◌, ◌&&◌, nat_le, not, Bool, true, false, cond, List, [], ◌∷◌, ◌++◌, length, reverse, get_or, Option, Some, None, IfOk, Result, Ok, Err, slice_get, refl, sym, ◌∙◌, ap, subst, inl, inr, arith}
use Rattle.std.specs.Global.{Vec}
use Rattle.std.specs.List.{flat_map}
use Rattle.std.specs.declared.alloc.AllocError.{AllocError}
use Rattle.std.proofs.lemmas.Bool.{and_parts, cases_lt, false≢true, le-ltb}
use Rattle.std.proofs.lemmas.List.{drop_all}
use Rattle.std.proofs.lemmas.Option.{slice_get_read, slice_get-get_or}
use Rattle.chorus_ui.specs.declared.ui.Ui.{Ui}
use Rattle.chorus_ui.specs.declared.layout.Layout.{Layout}
use Rattle.chorus_ui.specs.Layout.{IsLayout, has_site}
use Rattle.chorus_ui.specs.declared.limits.TheConstants.{ACTORS_PER_SITE_LIMIT}
use Rattle.chorus_entry.specs.declared.command.Command.{Command}
use Rattle.chorus_entry.specs.declared.entry.Entry.{Entry}
use Rattle.chorus_entry.specs.Places.{place_for}
use Rattle.chorus_world.specs.Ports.{PortState, fate}
use Rattle.chorus_world.specs.Views.{on}
use Rattle.chorus_world.proofs.Sorted.Holders.{run_is_legal}
use Rattle.law_awaits.specs.Awaits.{gives, own_acts}
use Rattle.law_network.specs.Network.{numbers}
use Rattle.law_network.specs.declared.placed.Placed.{Placed}
use Rattle.law_network.proofs.Ports.HeldPorts.{line-facts}
use Rattle.chorus_net.specs.declared.closed.Closed.{Closed}
use Rattle.chorus_net.specs.Closing.{merge_of, past_of}
use Rattle.chorus_scene.specs.Scene.{Scene, Script, HasNoWait, is_await}
use Rattle.chorus_scene.specs.Grammar.{no_script, script_at}
use Rattle.chorus_scene.specs.Limits.{Keeps}
use Rattle.chorus_show.specs.declared.stuck.Stuck.{Stuck}
use Rattle.chorus_show.specs.declared.status.Status.{Status}
use Rattle.chorus_report.specs.Awaiting.{IsStuck, StandsAt, left_in, stuck_of}
use Rattle.chorus_report.specs.Headline.{Plays}
use Rattle.chorus_report.specs.Reading.{has_wait}
use Rattle.chorus_report.proofs.Awaiting.{none-at, none-take}
use Rattle.chorus_perform.proofs.Comings.{script-actor}
use Rattle.chorus_replay.proofs.Rounds.{left-more, left-same}
use Rattle.chorus_run.specs.Standing.{AreAsked, AreAskedBelow, IsAsked, Stand, done_in, gets_nothing, is_given, is_stuck, next_gets_nothing}
use Rattle.chorus_run.proofs.Countings.{done-at}
use Rattle.chorus_run.proofs.Givings.{given-by}

-- The next command of a script.

pub not-await : (l : Layout) (ports : List Placed) (script : Script) (n : ℕ) (b : Bool) → b ≡ is_await script.waits n → b ≡ false → false ≡ is_stuck l ports script n
not-await l ports script n b is fails = ap (λ x. x && next_gets_nothing l ports script.actor (slice_get script.commands n)) (sym fails ∙ is)

pub next-is : (l : Layout) (ports : List Placed) (script : Script) (n : ℕ) (b r : Bool) (commands : List Command) (command : Command) (actor : Ui) → b ≡ is_await script.waits n → b ≡ true → commands ≡ script.commands → n < length script.commands → command ≡ get_or commands n command → actor ≡ script.actor → r ≡ gets_nothing l ports actor command → r ≡ is_stuck l ports script n
next-is l ports script n b r commands command actor is holds same lt here who asked =
    let at : slice_get script.commands n ≡ Some command = slice_get_read script.commands (length script.commands) n command refl lt (here ∙ ap (λ (cs : List Command). get_or cs n command) same) in
    asked ∙ ap (λ a. gets_nothing l ports a command) who ∙ ap (next_gets_nothing l ports script.actor) (sym at) ∙ ap (λ x. x && next_gets_nothing l ports script.actor (slice_get script.commands n)) (sym holds ∙ is)

-- One script more.

pub found-at : (c : Scene) (items : List Script) (i : ℕ) (script : Script) → items ≡ c.scripts → i < length c.scripts → script ≡ get_or items i script → slice_get c.scripts i ≡ Some script
found-at c items i script same lt is =
    slice_get_read c.scripts (length c.scripts) i script refl lt (is ∙ ap (λ (zs : List Script). get_or zs i script) same)

pub site-at : (c : Scene) → Keeps c → (i : ℕ) (script : Script) → slice_get c.scripts i ≡ Some script → has_site c.layout script.actor.site ≡ true
site-at c keeps i script at =
    let has = (script-actor c keeps i script at).1 in
    (and_parts (has_site c.layout script.actor.site) (nat_le 1 script.actor.number) (and_parts (has_site c.layout script.actor.site && nat_le 1 script.actor.number) (nat_le script.actor.number ACTORS_PER_SITE_LIMIT) has).0).0

some-script : (x y : Script) → Some x ≡ Some y → x ≡ y
some-script x y e = cc

module _ (c : Scene) (ports : List Placed) (es : List Entry) (i k n : ℕ) (items : List Script) (script : Script) (same : items ≡ c.scripts) (lt : i < length c.scripts) (is : script ≡ get_or items i script) (number : k ≡ i + 1)
    (asked : IsAsked c.layout ports k script es n) where
  abbrev counts : List ℕ
  counts = done_in c (reverse es)

  count : n ≡ get_or counts i 0
  count = asked.did.count ∙ ap (λ j. length (own_acts j (reverse es))) (number ∙ up i) ∙ sym (done-at c (reverse es) i lt)
    where
      up : (i : ℕ) → i + 1 ≡ suc i
      up i = omega arith

  pub asked-more : AreAskedBelow c ports es i → AreAskedBelow c ports es (i + 1)
  asked-more below j other less at = elim (cases_lt j i) [
    | inl low ↦ below j other low at
    | inr high ↦
        (let here : i ≡ j = omega (arith, less, high) in
        let one : script ≡ other = some-script script other (sym (found-at c items i script same lt is) ∙ ap (slice_get c.scripts) here ∙ at) in
        subst (λ z. IsAsked c.layout ports (suc z) other es (get_or counts z 0)) here
        (subst (λ (s : Script). IsAsked c.layout ports (suc i) s es (get_or counts i 0)) one
        (subst (λ m. IsAsked c.layout ports (suc i) script es m) count (subst (λ m. IsAsked c.layout ports m script es n) (number ∙ up i) asked))))
  ]
    where
      up : (i : ℕ) → i + 1 ≡ suc i
      up i = omega arith

  module _ (front : List Stuck) (so_far : front ≡ flat_map (left_in c counts) (numbers i 1)) (commands : List Command) (commands-are : commands ≡ script.commands) where
    pub stuck-more : n < length commands → front ++ record { script = k; command = n + 1 } ∷ [] ≡ flat_map (left_in c counts) (numbers (i + 1) 1)
    stuck-more less =
        ap (λ m. front ++ record { script = m; command = n + 1 } ∷ []) number ∙ ap (λ m. front ++ record { script = i + 1; command = m + 1 } ∷ []) count
        ∙ left-more c counts i lt front so_far items script commands same is commands-are (subst (λ m. m < length commands) count less)

    pub stuck-same : length commands ≤ n → front ≡ flat_map (left_in c counts) (numbers (i + 1) 1)
    stuck-same le = left-same c counts i lt front so_far items script commands same is commands-are (subst (λ m. length commands ≤ m) count le)

-- all were asked
pub asked-all : (c : Scene) (ports : List Placed) (es : List Entry) (i : ℕ) (stuck : List Stuck) → length c.scripts ≡ i → AreAskedBelow c ports es i → stuck ≡ flat_map (left_in c (done_in c (reverse es))) (numbers i 1) → AreAsked c ports es stuck
asked-all c ports es i stuck all below is = record {
  each = subst (AreAskedBelow c ports es) (sym all) below;
  stuck_is = is ∙ ap (λ m. flat_map (left_in c (done_in c (reverse es))) (numbers m 1)) (sym all);
}

-- What a run is told of how its scripts stand.

pub none-asked : (c : Scene) (closed : Closed) (stuck : List Stuck) (b : Bool) → b ≡ has_wait c → b ≡ false → stuck ≡ [] → Stand c closed stuck
none-asked c closed stuck b is fails none = record { asked = λ holds. absurd (false≢true (sym fails ∙ is ∙ holds)); none = λ w. none }

pub stand-asked : (c : Scene) (closed : Closed) (ports : List Placed) (es : List Entry) (r : Result (Vec Stuck) AllocError) (b : Bool) → b ≡ has_wait c → b ≡ true → ports ≡ closed.ports.items → es ≡ merge_of closed → IfOk r (λ stuck. AreAsked c ports es stuck.items) → IfOk r (λ stuck. Stand c closed stuck.items)
stand-asked c closed ports es (Err e) b is holds same merges asked = tt
stand-asked c closed ports es (Ok stuck) b is holds same merges asked = record {
  asked = λ w. subst (λ ps. AreAsked c ps (merge_of closed) stuck.items) same (subst (λ xs. AreAsked c ports xs stuck.items) merges asked);
  none = λ fails. absurd (false≢true (sym fails ∙ sym is ∙ holds));
}

-- A script that is stuck by the ports is stuck in the world.

module _ {l : Layout} {callers : ℕ → Option Ui} {commands : ℕ → Option (List Command)} {status : Status} {closed : Closed} (shape : IsLayout l) (plays : Plays l callers commands status closed) where
  abbrev past : List Entry
  past = past_of closed

  abbrev ports : List Placed
  ports = closed.ports.items

  nothing-at : (p : ℕ) (a q : Ui) → is_given ports p a q ≡ false → gives p a (fate (on q past)) ≡ false
  nothing-at p a q none =
      given-by l p a q past ports closed.rest.items plays.stands
      (λ (f : PortState) (e : fate (on q past) ≡ Some f). (line-facts l past q f shape (run_is_legal l callers past plays.run) e).within) none

  not-true : (b : Bool) → not b ≡ true → b ≡ false
  not-true true h = absurd (false≢true h)
  not-true false h = refl

  module _ (script : Script) (n : ℕ) (waits : is_await script.waits n ≡ true) where
    by-command : (command : Command) → slice_get script.commands n ≡ Some command → gets_nothing l ports script.actor command ≡ true → IsStuck l script n past
    by-command (Command.Take q) at h = record {
      waits = waits;
      port = q;
      is = at;
      nothing = nothing-at (place_for l script.actor (Command.Take q)) script.actor q (not-true (is_given ports (place_for l script.actor (Command.Take q)) script.actor q) h);
    }
    by-command (Command.Make actor capacity) at h = absurd (false≢true h)
    by-command (Command.Send dest body) at h = absurd (false≢true h)
    by-command (Command.Call port back body) at h = absurd (false≢true h)
    by-command Command.Retry at h = absurd (false≢true h)
    by-command Command.Cancel at h = absurd (false≢true h)
    by-command (Command.Reply body) at h = absurd (false≢true h)
    by-command (Command.Move port actor) at h = absurd (false≢true h)
    by-command (Command.GroupMake site) at h = absurd (false≢true h)
    by-command (Command.Join group port) at h = absurd (false≢true h)
    by-command (Command.Leave group port) at h = absurd (false≢true h)
    by-command (Command.Delete port) at h = absurd (false≢true h)

    by-next : (o : Option Command) → slice_get script.commands n ≡ o → next_gets_nothing l ports script.actor o ≡ true → IsStuck l script n past
    by-next None at h = absurd (false≢true h)
    by-next (Some command) at h = by-command command at h

  stuck-there : (script : Script) (n : ℕ) → is_stuck l ports script n ≡ true → IsStuck l script n past
  stuck-there script n h =
      let both = and_parts (is_await script.waits n) (next_gets_nothing l ports script.actor (slice_get script.commands n)) h in
      by-next script n both.0 (slice_get script.commands n) refl both.1

  pub stands-there : (k n : ℕ) (script : Script) → IsAsked l ports k script (merge_of closed) n → StandsAt l script k n past
  stands-there k n script asked = record {
    taken = asked.did.taken;
    left = elim (cases_lt n (length script.commands)) [
      | inl lt ↦ inr (stuck-there script n (asked.stuck lt))
      | inr le ↦ inl (drop_all n script.commands le)
    ];
  }

-- Where nothing waits, and all was done.

module _ (l : Layout) (c : Scene) (past : List Entry) (none : HasNoWait c) (all : (i : ℕ) (script : Script) → slice_get c.scripts i ≡ Some script → get_or (done_in c past) i 0 ≡ length script.commands) where
  pub stands-done : (i : ℕ) (script : Script) → slice_get c.scripts i ≡ Some script → StandsAt l script (suc i) (get_or (done_in c past) i 0) past
  stands-done i script at = record {
    taken = none-take script.waits 0 (own_acts (suc i) past) (none-at c.scripts i script none at);
    left = inl (let is = all i script at in drop_all (get_or (done_in c past) i 0) script.commands (omega (arith, is)));
  }

  none-left : (m p : ℕ) → 1 ≤ p → p + m ≤ length c.scripts + 1 → flat_map (left_in c (done_in c past)) (numbers m p) ≡ []
  none-left zero p low high = refl
  none-left (suc m) p low high =
      let script = script_at p c.scripts in
      let at : slice_get c.scripts (p - 1) ≡ Some script = slice_get-get_or c.scripts (p - 1) no_script (omega (arith, low, high)) in
      let is = all (p - 1) script at in
      let full = le-ltb (get_or (done_in c past) (p - 1) 0) (length script.commands) (omega (arith, is)) in
      ap (λ b. cond {A = List Stuck} b (record { script = p; command = get_or (done_in c past) (p - 1) 0 + 1 } ∷ []) [] ++ flat_map (left_in c (done_in c past)) (numbers m (p + 1))) full
      ∙ none-left m (p + 1) (omega arith) (omega (arith, high))

  pub none-stuck : stuck_of c (done_in c past) ≡ []
  none-stuck = none-left (length c.scripts) 1 (omega arith) (omega arith)
