-- What became of a message, put together from what the turn told.
use Rattle.std.proofs.Common.{ℕ, ◌≡◌, ◌==◌, if◌then◌else◌, List, [], Ok, Err, refl, sym, ◌∙◌, ap, subst}
use Rattle.chorus_ui.specs.declared.layout.Layout.{Layout}
use Rattle.chorus_ui.specs.declared.ui.Ui.{Ui}
use Rattle.chorus_ui.specs.Layout.{places, place_at, creation_place}
use Rattle.chorus_entry.specs.declared.id.MsgId.{MsgId}
use Rattle.chorus_entry.specs.declared.packet.Packet.{Packet}
use Rattle.chorus_world.specs.Places.{last_clock}
use Rattle.chorus_calls.specs.Callers.{Seated, raised}
use Rattle.law_machine.specs.declared.outcome.Outcome.{Outcome}
use Rattle.law_machine.specs.declared.outcome.Outcome.TheVariants.{Unknown}
use Rattle.law_machine.specs.Outcomes.{outcome}
use Rattle.chorus_place.specs.Calls.{state}
use Rattle.chorus_ruled_ends.specs.Ruled.{Ruled}
use Rattle.chorus_turn.specs.declared.pass.Pass as turner
use Rattle.chorus_turn.specs.declared.knowledge.Knowledge.{Knowledge}
use Rattle.chorus_turn.specs.Knowing.{IsSamePass}
use Rattle.chorus_turn.specs.Passes as turns
use Rattle.chorus_turn.specs.Calls.{Worked, FoundBusy}
use Rattle.law_closing.specs.Closing.{IsPlace}
use Rattle.law_closing.specs.Places.{PlaceNote}
use Rattle.chorus_nucleus.specs.declared.site_turns.site.Site.{Site}
use Rattle.chorus_nucleus.specs.SiteTurns.Sites.{entries, Fits, IsPublished}
use Rattle.chorus_nucleus.specs.SiteTurns.Turning.{Looks}
use Rattle.chorus_nucleus.specs.SiteTurns.Jobs.{HasSeen}
use Rattle.chorus_nucleus.specs.declared.nucleus.Nucleus.{Nucleus}
use Rattle.chorus_nucleus.specs.declared.pass.Pass.{Pass}
use Rattle.chorus_nucleus.specs.declared.fault.CallFault.TheVariants as call_faults
use Rattle.chorus_nucleus.specs.Passes.{IsPassOf, IsCallerOf, home_of, desk_of, mark_of}
use Rattle.chorus_nucleus.specs.Calls.{IsOutcome}
use Rattle.chorus_nucleus.proofs.Behind.{more-itself}
use Rattle.chorus_nucleus.proofs.Threads.{caller-refused}
use Rattle.chorus_nucleus.proofs.Called.{looked}
use Rattle.chorus_nucleus.proofs.Joined.{sight-kept}

-- the home place, as the code finds it
pub home-is : (l : Layout) (w : Seated) (a : Ui) (site p : ℕ) → a ≡ w.actor → site ≡ a.site → p ≡ place_at l site a → p ≡ home_of l w
home-is l w a site p actor on at = at ∙ ap (λ s. place_at l s a) on ∙ ap (creation_place l) actor

abbrev pub Asked : List (Site Ruled Packet) → MsgId → Outcome × ℕ → ℕ → Knowledge PlaceNote → Knowledge PlaceNote → Type 0
Asked handed x out p v u =
    Worked (λ (s : Site Ruled Packet). entries (desk_of s)) (λ (s : Site Ruled Packet) log. Fits (desk_of s) log × IsPublished (desk_of s) s.board) mark_of handed
    (λ a b. (out.0 ≡ outcome x a.desk.place.journal) × (out.1 ≡ last_clock a.desk.place.journal) × (b ≡ a)) (λ news. news ≡ []) p v u

module _ (n : Nucleus) (x : MsgId) (old : Pass) (after : turner.Pass PlaceNote) (p : ℕ) (is : IsPassOf n old) (of : turns.IsPassOf n.turns after) (standing : IsSamePass (turns.known old.turner) (turns.known after))
    (within : IsPlace (places n.layout) p) (here : p ≡ home_of n.layout old.caller) where
  pub told-outcome : (out : Outcome × ℕ) (told : Outcome) (w : Seated) → Asked (turns.handed n.turns) x out p (turns.known old.turner) (turns.known after) → w ≡ raised out.1 old.caller → told ≡ (if x.seat == w.seat then out.0 else Unknown)
      → IsOutcome n x old (record { turner = after; caller = w; worn = old.worn; sight = old.sight }) (Ok told)
  told-outcome out told w t shown e =
      let seen : HasSeen (desk_of t.before) old.caller w = shown ∙ ap (λ c. raised c old.caller) t.ran.1 in
      let k = looked n.layout (turns.handed n.turns) is.sites p within (turns.known old.turner) (turns.known after) old.caller w is.caller t.before t.found t.news t.marked t.shows (t.journal.0, t.journal.1.0) t.noted seen t.knows in
      let seat : w.seat ≡ old.caller.seat = ap (λ (y : Seated). y.seat) shown in
      let actor : w.actor ≡ old.caller.actor = ap (λ (y : Seated). y.actor) shown in
      record {
        pass = record {
          sites = is.sites;
          turner = of;
          caller = k.0;
          sight = sight-kept n.layout (turns.handed n.turns) (turns.known old.turner) (turns.known after) old.caller w old.sight old.sight refl standing.2 actor is.sight;
        };
        standing = standing;
        told = (
          state (desk_of t.before).place,
          subst (λ q. Looks n.layout q (state (desk_of t.before).place) (turns.known old.turner) old.caller (turns.known after) w) here k.2,
          e ∙ ap (λ q. if x.seat == q then out.0 else Unknown) seat ∙ ap (λ o. if x.seat == old.caller.seat then o else Unknown) t.ran.0,
        );
        fault = tt;
        caller = k.1.caller;
        mine = k.1.mine;
        worn = refl;
        sight = refl;
      }

  pub busy-outcome : (by : ℕ) → FoundBusy p by (turns.known old.turner) (turns.known after)
      → IsOutcome n x old (record { turner = after; caller = old.caller; worn = old.worn; sight = old.sight }) (Err (call_faults.Busy by))
  busy-outcome by busy = record {
    pass = record {
      sites = is.sites;
      turner = of;
      caller = subst (λ k. IsCallerOf n.layout k old.caller) (sym busy.knows) (caller-refused n.layout p by (turns.known old.turner) old.caller is.caller);
      sight = sight-kept n.layout (turns.handed n.turns) (turns.known old.turner) (turns.known after) old.caller old.caller old.sight old.sight refl standing.2 refl is.sight;
    };
    standing = standing;
    told = tt;
    fault = (by, refl, subst (λ q. FoundBusy q by (turns.known old.turner) (turns.known after)) here busy, refl);
    caller = more-itself old.caller;
    mine = ap (λ (k : Knowledge PlaceNote). k.mine) busy.knows;
    worn = refl;
    sight = refl;
  }
