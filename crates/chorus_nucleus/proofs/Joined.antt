-- The calls, put together from what their turns did.
use Rattle.std.proofs.Common.{ℕ, ◌≡◌, ◌-◌, ◌^◌, ◌<◌, Bool, true, false, cond, Option, Some, None, Result, Ok, Err, IfOk, IfErr, IfSome, refl, sym, ◌∙◌, ap, subst, List, arith}
use Rattle.std.specs.declared.snapshot.Snapshot.{Snapshot}
use Rattle.std.proofs.lemmas.Bool.{false≢true}
use Rattle.chorus_ui.specs.declared.layout.Layout.{Layout}
use Rattle.chorus_ui.specs.declared.ui.Ui.{Ui}
use Rattle.chorus_ui.specs.Layout.{has_place, has_actor, home, creation_place}
use Rattle.chorus_entry.specs.declared.command.Command.{Command}
use Rattle.chorus_entry.specs.declared.command.Command.TheVariants as commands
use Rattle.chorus_entry.specs.declared.packet.Packet.{Packet}
use Rattle.chorus_entry.specs.Command.{meets_conditions, has_body_in_limit, is_post}
use Rattle.chorus_entry.specs.Places.{place_for}
use Rattle.chorus_calls.specs.Callers.{Seated}
use Rattle.law_machine.specs.declared.reply.Reply.{Reply}
use Rattle.chorus_place.specs.Calls.{Place, is_call}
use Rattle.chorus_place.specs.GivenPosts.{GaveWithinPosts}
use Rattle.chorus_place.specs.declared.fault.PlaceFault.{PlaceFault}
use Rattle.chorus_ruled_ends.specs.Ruled.{Ruled}
use Rattle.chorus_serve.specs.declared.served.Pump.{Pump}
use Rattle.chorus_turn.specs.declared.turns.Busy.{Busy}
use Rattle.chorus_turn.specs.declared.pass.Pass as turner
use Rattle.chorus_turn.specs.declared.knowledge.Knowledge.{Knowledge}
use Rattle.chorus_turn.specs.Knowing.{IsSamePass}
use Rattle.chorus_turn.specs.Passes as turns
use Rattle.chorus_turn.specs.Calls.{IsMarkAt, FoundBusy}
use Rattle.law_closing.specs.Places.{PlaceNote}
use Rattle.chorus_nucleus.specs.declared.site_turns.site.Site.{Site}
use Rattle.chorus_nucleus.specs.declared.site_turns.site.SiteMark.{SiteMark}
use Rattle.chorus_nucleus.specs.SiteTurns.Jobs.{MayAct, Acted, ServedAt}
use Rattle.chorus_nucleus.specs.SiteTurns.Turning.{NotesAct, NotesServe}
use Rattle.chorus_nucleus.specs.declared.nucleus.Nucleus.{Nucleus}
use Rattle.chorus_nucleus.specs.declared.pass.Pass.{Pass}
use Rattle.chorus_nucleus.specs.declared.sight.Sight.{Sight}
use Rattle.chorus_nucleus.specs.declared.fault.CallFault.{CallFault}
use Rattle.chorus_nucleus.specs.Passes.{AreSites, Reads, IsSight, IsCallerOf, IsPassOf, mark_of}
use Rattle.chorus_nucleus.specs.Calls.{answered, worn_after, IsCall, IsServe}
use Rattle.chorus_nucleus.proofs.Called.{place-is, Turned, CallDone, call-done, ServeDone, serve-done}

posts-call : (c : Command) → is_call c ≡ true → is_post c ≡ true
posts-call (commands.Call q back body) h = refl
posts-call (commands.Make a n) h = absurd (false≢true h)
posts-call (commands.Send d b) h = refl
posts-call commands.Retry h = refl
posts-call commands.Cancel h = absurd (false≢true h)
posts-call (commands.Reply b) h = refl
posts-call (commands.Take q) h = absurd (false≢true h)
posts-call (commands.Move q a) h = absurd (false≢true h)
posts-call (commands.GroupMake s) h = absurd (false≢true h)
posts-call (commands.Join g q) h = absurd (false≢true h)
posts-call (commands.Leave g q) h = absurd (false≢true h)
posts-call (commands.Delete q) h = absurd (false≢true h)

-- the caller may give the command at the place of the mark
pub may-there : (l : Layout) (handed : List (Site Ruled Packet)) → AreSites l handed → (p : ℕ) (c : Command) (w : Seated) → has_place l p ≡ true → meets_conditions c ≡ true → has_body_in_limit c ≡ true
    → (is_post c ≡ true → w.posts < 2 ^ 32 - 1) → GaveWithinPosts w → p ≡ place_for l w.actor c → (m : SiteMark) → IsMarkAt mark_of handed p m → MayAct w c m
may-there l handed sites p c w has conditions body posts given here m at =
    let two = sites.marks p m (place-is l p has).0 at in
    record {
      conditions = conditions;
      here = ap (λ z. place_for z w.actor c) two.0 ∙ sym here ∙ sym two.1;
      place = subst (λ z. has_place z m.number ≡ true) (sym two.0) (subst (λ q. has_place l q ≡ true) (sym two.1) has);
      body = body;
      posts = posts;
      given = λ call. (let few = posts (posts-call c call) in omega (arith, given, few));
    }

-- what a pass reads boards with is its own while seat and actor stay
pub sight-kept : (l : Layout) (handed : List (Site Ruled Packet)) (v u : Knowledge PlaceNote) (w x : Seated) (s t : Sight) → t ≡ s → u.keeper ≡ v.keeper → x.actor ≡ w.actor
    → IsSight l handed v w s → IsSight l handed u x t
sight-kept l handed v u w x s t same keeper actor h =
    subst (IsSight l handed u x) (sym same) (record {
      own = subst (λ a. IfSome s.reader (λ r. Reads l handed (creation_place l a) r)) (sym actor) h.own;
      spare = h.spare;
      rows = λ k. h.rows (sym keeper ∙ k);
      none = λ k. h.none (sym keeper ∙ k);
    })

pub as-call : (n : Nucleus) (c : Command) (old : Pass) (before after : turner.Pass PlaceNote) (w x : Seated) (p : ℕ) (took : Option (Snapshot Place)) (done : Result (Result Reply PlaceFault) Busy)
    (r : Result Reply CallFault) (worn : Option ℕ) (sight : Sight) → IsPassOf n old → before ≡ old.turner → w ≡ old.caller → sight ≡ old.sight → p ≡ place_for n.layout old.caller.actor c → has_place n.layout p ≡ true
    → turns.IsPassOf n.turns after → IsSamePass (turns.known before) (turns.known after)
    → IfOk done (λ out. Turned (turns.handed n.turns) (λ d e. Acted c took out w x d) (NotesAct c took w x) p (turns.known before) (turns.known after))
    → IfErr done (λ b. FoundBusy p b.by (turns.known before) (turns.known after) × (x ≡ w)) → r ≡ answered done → worn ≡ worn_after old.worn r
    → IsCall n c old (record { turner = after; caller = x; worn = worn; sight = sight }) r
as-call n c old before after w x p took done r worn sight is same caller seeing here has of standing ok busy answer noted =
    let h : IsCallerOf n.layout (turns.known before) w = subst (λ q. IsCallerOf n.layout (turns.known q) w) (sym same) (subst (λ y. IsCallerOf n.layout (turns.known old.turner) y) (sym caller) is.caller) in
    let got = call-done n.layout (turns.handed n.turns) is.sites p (place-is n.layout p has) (turns.known before) (turns.known after) w x h c took done ok busy in
    let there : CallDone n.layout (place_for n.layout old.caller.actor c) c r (turns.known old.turner) old.caller (turns.known after) x =
    subst (λ q. CallDone n.layout q c r (turns.known old.turner) old.caller (turns.known after) x) here
    (subst (λ y. CallDone n.layout p c r (turns.known old.turner) y (turns.known after) x) caller
    (subst (λ q. CallDone n.layout p c r (turns.known q) w (turns.known after) x) same
    (subst (λ z. CallDone n.layout p c z (turns.known before) w (turns.known after) x) (sym answer) got))) in
    let stands = subst (λ q. IsSamePass (turns.known q) (turns.known after)) same standing in
    record {
      pass = record {
        sites = is.sites;
        turner = of;
        caller = there.caller;
        sight = sight-kept n.layout (turns.handed n.turns) (turns.known old.turner) (turns.known after) old.caller x old.sight sight seeing stands.2 there.grows.actor is.sight;
      };
      standing = stands;
      turn = there.turn;
      fault = there.fault;
      refused = there.refused;
      worn = noted;
      gave_is = there.gave_is;
      grows = there.grows;
      sight = seeing;
    }

pub as-serve : (n : Nucleus) (old : Pass) (before after : turner.Pass PlaceNote) (w x : Seated) (p : ℕ) (took : Option ℕ) (kept : Option (Snapshot Place)) (done : Result (Result Pump PlaceFault) Busy)
    (r : Result Pump CallFault) (worn : Option ℕ) (sight : Sight) → IsPassOf n old → before ≡ old.turner → w ≡ old.caller → sight ≡ old.sight → has_place n.layout p ≡ true
    → turns.IsPassOf n.turns after → IsSamePass (turns.known before) (turns.known after)
    → IfOk done (λ out. Turned (turns.handed n.turns) (λ d e. ServedAt took kept out w x d e) (NotesServe took kept w x) p (turns.known before) (turns.known after))
    → IfErr done (λ b. FoundBusy p b.by (turns.known before) (turns.known after) × (x ≡ w)) → r ≡ answered done → worn ≡ worn_after old.worn r
    → IsServe n p old (record { turner = after; caller = x; worn = worn; sight = sight }) r
as-serve n old before after w x p took kept done r worn sight is same caller seeing has of standing ok busy answer noted =
    let h : IsCallerOf n.layout (turns.known before) w = subst (λ q. IsCallerOf n.layout (turns.known q) w) (sym same) (subst (λ y. IsCallerOf n.layout (turns.known old.turner) y) (sym caller) is.caller) in
    let got = serve-done n is.sites p (place-is n.layout p has) (turns.known before) (turns.known after) w x h took kept done ok busy in
    let there : ServeDone n p r (turns.known old.turner) old.caller (turns.known after) x =
    subst (λ y. ServeDone n p r (turns.known old.turner) y (turns.known after) x) caller
    (subst (λ q. ServeDone n p r (turns.known q) w (turns.known after) x) same
    (subst (λ z. ServeDone n p z (turns.known before) w (turns.known after) x) (sym answer) got)) in
    let stands = subst (λ q. IsSamePass (turns.known q) (turns.known after)) same standing in
    record {
      pass = record {
        sites = is.sites;
        turner = of;
        caller = there.caller;
        sight = sight-kept n.layout (turns.handed n.turns) (turns.known old.turner) (turns.known after) old.caller x old.sight sight seeing stands.2 there.stays.actor is.sight;
      };
      standing = stands;
      served = there.served;
      fault = there.fault;
      refused = there.refused;
      worn = noted;
      gave_is = there.gave_is;
      stays = there.stays;
      sight = seeing;
    }

-- where the job is as it was, so is what it holds
pub same-held : {A J C : Type 0} (F : Busy → Type 0) (of : J → C) (job later : J) (done : Result A Busy) → IfErr done (λ b. F b × (later ≡ job)) → IfErr done (λ b. F b × (of later ≡ of job))
same-held F of job later (Ok a) h = tt
same-held F of job later (Err b) h = (h.0, ap of h.1)

-- the layout has the actor where it has a home, which is its creation place
pub is-there : (l : Layout) (a : Ui) (o : Option ℕ) (p : ℕ) → o ≡ home l a → o ≡ Some p → (has_actor l a ≡ true) × (creation_place l a ≡ p)
is-there l a o p e some = by (has_actor l a) refl
  where
    by : (b : Bool) → has_actor l a ≡ b → (has_actor l a ≡ true) × (creation_place l a ≡ p)
    by true h = (h, (let k : Some (creation_place l a) ≡ Some p = sym (ap (λ b. cond b (Some (creation_place l a)) None) h) ∙ sym e ∙ some in cc))
    by false h = absurd (let k : None ≡ Some p = sym (ap (λ b. cond b (Some (creation_place l a)) None) h) ∙ sym e ∙ some in cc)
