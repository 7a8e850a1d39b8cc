-- A take that is made only where it is answered by a message, put together from what its turn did.
-- l is the layout, p the place, q the port, v and u are what the pass knows before and after, w and x its caller before and after.
use Rattle.std.proofs.Common.{ℕ, ◌≡◌, true, List, Option, Some, None, Result, Ok, Err, IfOk, IfErr, OnErr, sym, ◌∙◌, subst}
use Rattle.std.specs.declared.snapshot.Snapshot.{Snapshot}
use Rattle.chorus_ui.specs.declared.layout.Layout.{Layout}
use Rattle.chorus_ui.specs.declared.ui.Ui.{Ui}
use Rattle.chorus_ui.specs.Layout.{places, has_place}
use Rattle.chorus_entry.specs.declared.command.Command.{Command}
use Rattle.chorus_entry.specs.declared.packet.Packet.{Packet}
use Rattle.chorus_entry.specs.Places.{place_for}
use Rattle.chorus_calls.specs.Callers.{Seated}
use Rattle.chorus_place.specs.Calls.{Place, state}
use Rattle.chorus_place.specs.declared.fault.PlaceFault.{PlaceFault}
use Rattle.chorus_ruled_ends.specs.Ruled.{Ruled}
use Rattle.chorus_turn.specs.declared.turns.Busy.{Busy}
use Rattle.chorus_turn.specs.declared.pass.Pass as turner
use Rattle.chorus_turn.specs.declared.knowledge.Knowledge.{Knowledge}
use Rattle.chorus_turn.specs.Knowing.{IsSamePass}
use Rattle.chorus_turn.specs.Passes as turns
use Rattle.chorus_turn.specs.Calls.{FoundBusy}
use Rattle.law_closing.specs.Closing.{IsPlace}
use Rattle.law_closing.specs.Places.{PlaceNote}
use Rattle.chorus_nucleus.specs.declared.site_turns.site.Site.{Site}
use Rattle.chorus_nucleus.specs.SiteTurns.Readiness.{TookOrLooked}
use Rattle.chorus_nucleus.specs.SiteTurns.Turning.{NotesAct}
use Rattle.chorus_nucleus.specs.declared.nucleus.Nucleus.{Nucleus}
use Rattle.chorus_nucleus.specs.declared.pass.Pass.{Pass}
use Rattle.chorus_nucleus.specs.declared.sight.Sight.{Sight}
use Rattle.chorus_nucleus.specs.declared.fault.CallFault.{CallFault}
use Rattle.chorus_nucleus.specs.declared.taken_message.TakenMessage.{TakenMessage}
use Rattle.chorus_nucleus.specs.Answers.{reply_with}
use Rattle.chorus_nucleus.specs.Passes.{AreSites, IsCallerOf, IsPassOf, desk_of}
use Rattle.chorus_nucleus.specs.Calls.{answered, gave, worn_after, Because, Grows, IsRefused}
use Rattle.chorus_nucleus.specs.Ready.{TakesOrLooks, gave_ready, IsReadyTake}
use Rattle.chorus_nucleus.proofs.Called.{place-is, Turned, looked, call-done}
use Rattle.chorus_nucleus.proofs.Counting.{grows-none}
use Rattle.chorus_nucleus.proofs.Joined.{sight-kept}

-- what the call did
record ReadyDone (l : Layout) (p : ℕ) (q : Ui) (r : Result (Option TakenMessage) CallFault) (v : Knowledge PlaceNote) (w : Seated) (u : Knowledge PlaceNote) (x : Seated) : Type 0 where
  caller : IsCallerOf l u x
  answer : IfOk r (λ a. TakesOrLooks l p q a v w u x)
  fault : IfErr r (λ f. Because f l p v w u x)
  refused : OnErr r (IsRefused v w u x)
  gave_is : gave u ≡ gave_ready q r (gave v)
  grows : Grows w x

module _ (l : Layout) (handed : List (Site Ruled Packet)) (sites : AreSites l handed) (p : ℕ) (is : IsPlace (places l) p) (v u : Knowledge PlaceNote) (w x : Seated) (h : IsCallerOf l v w) (q : Ui) where
  ready-done : (took : Option (Snapshot Place)) (done : Result (Result (Option TakenMessage) PlaceFault) Busy)
      → IfOk done (λ out. Turned handed (λ d e. TookOrLooked (Command.Take q) took out w x d) (NotesAct (Command.Take q) took w x) p v u)
      → IfErr done (λ b. FoundBusy p b.by v u × (x ≡ w)) → ReadyDone l p q (answered done) v w u x
  ready-done took (Ok (Ok (Some m))) ok busy =
      (let k = call-done l handed sites p is v u w x h (Command.Take q) took (Ok (Ok (reply_with m))) ok tt in
      record { caller = k.caller; answer = k.turn; fault = tt; refused = tt; gave_is = k.gave_is; grows = k.grows })
  ready-done (Some z) (Ok (Ok None)) ok busy = absurd ok.ran
  ready-done None (Ok (Ok None)) ok busy =
      (let k = looked l handed sites p is v u w x h ok.before ok.found ok.news ok.marked ok.shows (ok.journal.0, ok.journal.1.0) ok.noted ok.ran.0 ok.knows in
      record { caller = k.0; answer = (state (desk_of ok.before).place, k.2, ok.ran.1); fault = tt; refused = tt; gave_is = k.3; grows = grows-none w x k.1.caller })
  ready-done took (Ok (Err f)) ok busy =
      (let k = call-done l handed sites p is v u w x h (Command.Take q) took (Ok (Err f)) ok tt in
      record { caller = k.caller; answer = tt; fault = k.fault; refused = k.refused; gave_is = k.gave_is; grows = k.grows })
  ready-done took (Err b) ok busy =
      (let k = call-done l handed sites p is v u w x h (Command.Take q) took (Err b) tt busy in
      record { caller = k.caller; answer = tt; fault = k.fault; refused = k.refused; gave_is = k.gave_is; grows = k.grows })

pub as-ready : (n : Nucleus) (q : Ui) (old : Pass) (before after : turner.Pass PlaceNote) (w x : Seated) (p : ℕ) (took : Option (Snapshot Place)) (done : Result (Result (Option TakenMessage) PlaceFault) Busy)
    (r : Result (Option TakenMessage) CallFault) (worn : Option ℕ) (sight : Sight) → IsPassOf n old → before ≡ old.turner → w ≡ old.caller → sight ≡ old.sight → p ≡ place_for n.layout old.caller.actor (Command.Take q) → has_place n.layout p ≡ true
    → turns.IsPassOf n.turns after → IsSamePass (turns.known before) (turns.known after)
    → IfOk done (λ out. Turned (turns.handed n.turns) (λ d e. TookOrLooked (Command.Take q) took out w x d) (NotesAct (Command.Take q) took w x) p (turns.known before) (turns.known after))
    → IfErr done (λ b. FoundBusy p b.by (turns.known before) (turns.known after) × (x ≡ w)) → r ≡ answered done → worn ≡ worn_after old.worn r
    → IsReadyTake n q r old (record { turner = after; caller = x; worn = worn; sight = sight })
as-ready n q old before after w x p took done r worn sight is same caller seeing here has of standing ok busy answer noted =
    let h : IsCallerOf n.layout (turns.known before) w = subst (λ z. IsCallerOf n.layout (turns.known z) w) (sym same) (subst (λ y. IsCallerOf n.layout (turns.known old.turner) y) (sym caller) is.caller) in
    let got = ready-done n.layout (turns.handed n.turns) is.sites p (place-is n.layout p has) (turns.known before) (turns.known after) w x h q took done ok busy in
    let there : ReadyDone n.layout (place_for n.layout old.caller.actor (Command.Take q)) q r (turns.known old.turner) old.caller (turns.known after) x =
    subst (λ z. ReadyDone n.layout z q r (turns.known old.turner) old.caller (turns.known after) x) here
    (subst (λ y. ReadyDone n.layout p q r (turns.known old.turner) y (turns.known after) x) caller
    (subst (λ z. ReadyDone n.layout p q r (turns.known z) w (turns.known after) x) same
    (subst (λ z. ReadyDone n.layout p q z (turns.known before) w (turns.known after) x) (sym answer) got))) in
    let stands = subst (λ z. IsSamePass (turns.known z) (turns.known after)) same standing in
    record {
      pass = record {
        sites = is.sites;
        turner = of;
        caller = there.caller;
        sight = sight-kept n.layout (turns.handed n.turns) (turns.known old.turner) (turns.known after) old.caller x old.sight sight seeing stands.2 there.grows.actor is.sight;
      };
      standing = stands;
      answer = there.answer;
      fault = there.fault;
      refused = there.refused;
      worn = noted;
      gave_is = there.gave_is;
      grows = there.grows;
      sight = seeing;
    }
