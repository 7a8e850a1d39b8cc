-- The callers, after one entry more.
use Rattle.std.proofs.Common.{ℕ, ◌≡◌, ◌==◌, false, List, ◌∷◌, refl, sym, ◌∙◌, ap, subst, arith, eq-eqb}
use Rattle.std.proofs.lemmas.Bool.{and_from}
use Rattle.chorus_ui.specs.declared.layout.Layout.{Layout}
use Rattle.chorus_ui.specs.Layout.{has_actor, place_at}
use Rattle.chorus_entry.specs.declared.entry.Entry.{Entry}
use Rattle.chorus_entry.specs.declared.act.Act.{Act}
use Rattle.chorus_ui.specs.NameKind.{is_actor}
use Rattle.chorus_world.specs.Views.{by, is_by}
use Rattle.chorus_world.specs.Seats.{posts_after, posts_stay, stays_at, requests_after, hand_after}
use Rattle.chorus_world.proofs.Steps.LegalLemmas.{skips, keeps}
use Rattle.chorus_world.proofs.Messages.Posted.{AllPosted, filtered}
use Rattle.chorus_calls.specs.Callers.{Seated, after_tick}
use Rattle.law_machine.specs.PlaceState.{Turn, next_clock, next_entry}
use Rattle.law_network.specs.Stands.{IsCaller}
use Rattle.law_network.proofs.Standing.Says.{CallerSays}
use Rattle.law_network.proofs.Standing.Grows.{hand-grows}

pub by-here : (e : Entry) (past : List Entry) (k : ℕ) → e.seat ≡ k → by k (e ∷ past) ≡ e ∷ by k past
by-here e past k h = keeps (is_by k) e past (eq-eqb e.seat k h)

pub by-there : (e : Entry) (past : List Entry) (k : ℕ) → (e.seat == k) ≡ false → by k (e ∷ past) ≡ by k past
by-there e past k n = skips (is_by k) e past n

-- a caller whose entries are as they were
still-caller : (l : Layout) (e : Entry) (past mine : List Entry) (k : ℕ) (c : Seated) → AllPosted past mine → IsCaller l past mine k c → IsCaller l (e ∷ past) mine k c
still-caller l e past mine k c all h =
    record {
      seat = h.seat;
      kind = h.kind;
      actor = h.actor;
      posts = h.posts;
      given = h.given;
      call = h.call;
      hand = h.hand ∙ sym (hand-grows e past mine all);
      clock = h.clock;
      stays = h.stays;
    }

pub other-caller : (l : Layout) (e : Entry) (past : List Entry) (k : ℕ) (c : Seated) → (e.seat == k) ≡ false → AllPosted past past → IsCaller l past (by k past) k c → IsCaller l (e ∷ past) (by k (e ∷ past)) k c
other-caller l e past k c n all h =
    subst (λ v. IsCaller l (e ∷ past) v k c) (sym (by-there e past k n))
    (still-caller l e past (by k past) k c (filtered past (is_by k) past all) h)

-- the caller of the turn
mine-says : (past : List Entry) (t : Turn) (a : Act) (c : Seated) → AllPosted past past → CallerSays past t a c → IsCaller t.place.layout past (by t.caller.seat past) t.caller.seat t.caller
    → IsCaller t.place.layout (next_entry a t ∷ past) (next_entry a t ∷ by t.caller.seat past) c.seat (after_tick c (next_clock t))
mine-says past t a c all o h =
    let l = t.place.layout in
    let mine = by t.caller.seat past in
    let e = next_entry a t in
    record {
      seat = refl;
      kind = ap is_actor o.actor ∙ h.kind;
      actor = ap (has_actor l) o.actor ∙ h.actor;
      posts = o.posts ∙ ap (posts_after a) h.posts;
      given = o.given ∙ ap (requests_after a) h.given;
      call = o.call;
      hand = o.hand ∙ ap (hand_after (e ∷ past) a) (h.hand ∙ sym (hand-grows e past mine (filtered past (is_by t.caller.seat) past all)));
      clock = omega arith;
      stays = ap (λ u. posts_stay (place_at l u.site u) (e ∷ mine)) o.actor ∙ and_from (stays_at (place_at l t.caller.actor.site t.caller.actor) t.place.number a) (posts_stay (place_at l t.caller.actor.site t.caller.actor) mine) o.stays h.stays;
    }

pub this-caller : (past : List Entry) (t : Turn) (a : Act) (c : Seated) → AllPosted past past → CallerSays past t a c → IsCaller t.place.layout past (by t.caller.seat past) t.caller.seat t.caller
    → IsCaller t.place.layout (next_entry a t ∷ past) (by c.seat (next_entry a t ∷ past)) c.seat (after_tick c (next_clock t))
this-caller past t a c all o h =
    subst (λ v. IsCaller t.place.layout (next_entry a t ∷ past) v c.seat (after_tick c (next_clock t)))
    (sym (ap (λ k. by k (next_entry a t ∷ past)) o.seat ∙ by-here (next_entry a t) past t.caller.seat refl))
    (mine-says past t a c all o h)
