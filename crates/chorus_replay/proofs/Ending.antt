-- How a replay ends, and how a load does.
use Rattle.std.proofs.Common.{ℕ, ◌≡◌, List, reverse, Option, Some, None, IfSome, IfOk, Result, Ok, Err, refl, sym, ◌∙◌, ap, subst, append-nil}
use Rattle.std.proofs.lemmas.List.{reverse-reverse}
use Rattle.std.specs.declared.alloc.AllocError.{AllocError}
use Rattle.chorus_ui.specs.declared.layout.Layout.{Layout}
use Rattle.chorus_ui.specs.Layout.{IsLayout}
use Rattle.law_network.specs.Network.{schedule}
use Rattle.law_network.specs.Tasks.{Task, CarryOut, MayAll}
use Rattle.chorus_net.specs.declared.closed.Closed.{Closed}
use Rattle.chorus_net.specs.Closing.{HasMark, IsClosed, past_of}
use Rattle.chorus_scene.specs.Scene.{Scene}
use Rattle.chorus_scene.specs.Limits.{Keeps}
use Rattle.chorus_show.specs.declared.status.Status.{Status}
use Rattle.chorus_report.specs.declared.played.Played.{Played}
use Rattle.chorus_report.specs.Reading.{IsGiven}
use Rattle.chorus_report.specs.Awaiting.{StandsUnless, fronts_of, stuck_of}
use Rattle.chorus_show.specs.declared.stuck.Stuck.{Stuck}
use Rattle.chorus_report.specs.Headline.{AreWithinUnless, Plays, Runs, callers_of}
use Rattle.chorus_report.specs.Ending.{EndsFor, HasWorn, IsFinished}
use Rattle.chorus_report.proofs.Ends.{finished-so}
use Rattle.chorus_replay.specs.Load.{Loads, load_layout, load_order, load_tasks}
use Rattle.chorus_replay.specs.Ordered.{IsOrdered, Replays, StuckUnless}
use Rattle.chorus_replay.specs.Performing.{ArePlayed, HasPlayed, IsPlayed}
use Rattle.chorus_replay.proofs.LoadTasks.{loads}
use Rattle.chorus_replay.specs.Waiting.{Standing, Follows, IsOver, IsOverUnless, may_go_on, opened}
use Rattle.chorus_replay.proofs.Over.{plays-so-far, stands-over}
use Rattle.chorus_replay.proofs.Standings.{core-may, good}
use Rattle.chorus_replay.proofs.Stepping.{CanBe, ordered-all, ordered-worn, worn-high, worn-has}

module _ (l : Layout) (all : List Task) (can : CanBe l all) where
  pub has-worn : (r : Result Played AllocError) → IfOk r (λ p. ArePlayed l all p.worn p.closed) → IfOk r HasWorn
  has-worn (Err e) h = tt
  has-worn (Ok p) h = λ clock is.
      (let played = subst (λ w. ArePlayed l all w p.closed) is h in
      (worn-high can clock p.closed played, worn-has can clock p.closed played))

  ordered-for : (worn : Option ℕ) (closed : Closed) → ArePlayed l all worn closed → EndsFor (IsOrdered l (reverse all)) worn closed
  ordered-for None closed h = ordered-all can closed h
  ordered-for (Some clock) closed h = ordered-worn can clock closed h

  ordered-ok : (r : Result Played AllocError) → IfOk r (λ p. ArePlayed l all p.worn p.closed) → IfOk r (λ p. EndsFor (IsOrdered l (reverse all)) p.worn p.closed)
  ordered-ok (Err e) h = tt
  ordered-ok (Ok p) h = ordered-for p.worn p.closed h

  -- what was closed is ordered
  pub ordered-so : (r : Result Played AllocError) (s : Status) (o : Option Closed) → IfOk r (λ p. ArePlayed l all p.worn p.closed) → IfSome o (IsFinished r s) → IfSome o (IsOrdered l (reverse all) s)
  ordered-so r s o h f = finished-so (IsOrdered l (reverse all)) r s o (ordered-ok r h) f

-- How a replay ends.

module _ (c : Scene) (shape : IsLayout c.layout) (keeps : Keeps c) where
  can-of : (s : Standing) → Follows c (opened c) s → CanBe c.layout (reverse s.tasks)
  can-of s f = record { shape = shape; may = subst (MayAll c.layout) (sym (reverse-reverse s.tasks)) (core-may c shape keeps s.tasks s.done (good c shape keeps s f).core) }

  -- a replay of the scenario, in its order, with these scripts stuck
  pub record Ordered (stuck : List Stuck) (status : Status) (closed : Closed) : Type 0 where
    pub standing : Standing
    pub follows : Follows c (opened c) standing
    pub over : IsOverUnless status c standing
    pub ordered : IsOrdered c.layout standing.tasks status closed
    pub stuck_is : StuckUnless status c standing.done stuck

  worn-played : (clock : ℕ) (done : List ℕ) (closed : Closed) → (h : IsPlayed c (Some clock) done closed) → ArePlayed c.layout (reverse h.come.standing.tasks) (Some clock) closed
  worn-played clock done closed h = (h.net, (h.come.stopped, h.closes))

  pub played-worn : (r : Result Played AllocError) (P : Played → List Stuck) → IfOk r (λ p. HasPlayed c p.worn (P p) p.closed) → IfOk r HasWorn
  played-worn (Err e) P h = tt
  played-worn (Ok p) P h = λ clock is.
      (let played : IsPlayed c (Some clock) h.done p.closed = subst (λ w. IsPlayed c w h.done p.closed) is h.played in
      let s = played.come.standing in
      let can = can-of s played.come.follows in
      (worn-high can clock p.closed (worn-played clock h.done p.closed played), worn-has can clock p.closed (worn-played clock h.done p.closed played)))

  ordered-over : (status : Status) (stuck : List Stuck) (closed : Closed) (h : HasPlayed c None stuck closed) → ((s : Standing) → IsOver c s → IsOverUnless status c s) → ((done : List ℕ) → stuck ≡ stuck_of c done → StuckUnless status c done stuck)
      → (IsOrdered c.layout h.played.come.0.standing.tasks Status.Done closed → IsOrdered c.layout h.played.come.0.standing.tasks status closed) → Ordered stuck status closed
  ordered-over status stuck closed h over stuck-so same =
      let at = h.played.come.0 in
      let s = at.standing in
      let none = h.played.come.1 in
      let out : CarryOut c.layout s.tasks at.tasks.events = subst (λ us. CarryOut c.layout us at.tasks.events) (ap reverse (sym (append-nil at.tasks.done) ∙ sym at.tasks.whole) ∙ reverse-reverse s.tasks) at.tasks.carried in
      record {
        standing = s;
        follows = at.follows;
        over = over s (record {
          phase = at.phase_is;
          none = λ k of. record { events = at.tasks.events; carried = out; is = ap (λ d. may_go_on c d k (schedule c.layout at.tasks.events)) at.done_is ∙ ap (may_go_on c h.done k) (sym at.tasks.is) ∙ none k of };
        });
        ordered = same (record { events = at.tasks.events; may = at.tasks.may; unworn = at.tasks.unworn; carried = out; closes = subst (λ n. IsClosed n closed) at.tasks.is h.played.closes });
        stuck_is = subst (λ d. StuckUnless status c d stuck) (sym at.done_is) (stuck-so h.done h.stuck_is);
      }

  ordered-as : (worn : Option ℕ) (stuck : List Stuck) (closed : Closed) → HasPlayed c worn stuck closed → EndsFor (Ordered stuck) worn closed
  ordered-as None stuck closed h = (
    ordered-over Status.Done stuck closed h (λ s o. o) (λ d e. e) (λ o. o),
    ordered-over Status.WriteFault stuck closed h (λ s o. o) (λ d e. e) (λ o. record { events = o.events; may = o.may; unworn = o.unworn; carried = o.carried; closes = o.closes }),
  )
  ordered-as (Some clock) stuck closed h =
      let w = h.played.come in
      record {
        standing = w.standing;
        follows = w.follows;
        over = tt;
        ordered = subst (λ ts. IsOrdered c.layout ts (Status.Worn clock) closed) (reverse-reverse w.standing.tasks) (ordered-worn (can-of w.standing w.follows) clock closed (worn-played clock h.done closed h.played));
        stuck_is = tt;
      }

  orders-ok : (r : Result Played AllocError) (stuck : List Stuck) → IfOk r (λ p. HasPlayed c p.worn stuck p.closed) → IfOk r (λ p. EndsFor (Ordered stuck) p.worn p.closed)
  orders-ok (Err e) stuck h = tt
  orders-ok (Ok p) stuck h = ordered-as p.worn stuck p.closed h

  replays-as : (m : Layout) (told : Option (List ℕ)) (stuck : List Stuck) (status : Status) (closed : Closed) → c.layout ≡ m → IsGiven m told (Ok c) → Ordered stuck status closed → AreWithinUnless status closed → Replays m told stuck status closed
  replays-as m told stuck status closed same given o within =
      let s = o.standing in
      let runs : Runs m told status closed = record {
        scene = c;
        given = given;
        done = s.done;
        plays = subst (λ (z : Layout). Plays z (callers_of c) (fronts_of c s.done) status closed) same (plays-so-far c shape keeps s o.follows status closed o.over o.ordered);
        stands = subst (λ (z : Layout). StandsUnless status z c s.done (past_of closed)) same (stands-over c shape keeps s o.follows status closed o.over o.ordered);
        within = within;
      } in
      record {
        runs = runs;
        standing = s;
        follows = o.follows;
        over = o.over;
        done = refl;
        ordered = subst (λ (z : Layout). IsOrdered z s.tasks status closed) same o.ordered;
        stuck_is = o.stuck_is;
      }

  pub replays-so : (m : Layout) (told : Option (List ℕ)) (r : Result Played AllocError) (stuck : List Stuck) (s : Status) (o : Option Closed) → c.layout ≡ m → IsGiven m told (Ok c) → IfOk r (λ p. HasPlayed c p.worn stuck p.closed)
      → IfSome o (IsFinished r s) → IfSome o (AreWithinUnless s) → IfSome o (Replays m told stuck s)
  replays-so m told r stuck s o same given played f within =
      by o (finished-so (Ordered stuck) r s o (orders-ok r stuck played) f) within
    where
      by : (o : Option Closed) → IfSome o (Ordered stuck s) → IfSome o (AreWithinUnless s) → IfSome o (Replays m told stuck s)
      by None is within = tt
      by (Some closed) is within = replays-as m told stuck s closed same given is within

pub loads-so : (first commands : ℕ) → CanBe load_layout (load_order first commands) → (r : Result Played AllocError) (s : Status) (o : Option Closed) → IfOk r (λ p. ArePlayed load_layout (load_order first commands) p.worn p.closed) → IfSome o (IsFinished r s) → IfSome o (Loads first commands s)
loads-so first commands can r s o played f =
    by o (ordered-so load_layout (load_order first commands) can r s o played f)
  where
    by : (o : Option Closed) → IfSome o (IsOrdered load_layout (load_tasks first commands) s) → IfSome o (Loads first commands s)
    by None is = tt
    by (Some closed) is = loads first commands s closed is

-- what was closed is of the sites with this mark, and so it is when the call is finished
pub still-marked : (mark : ℕ) (r : Result Played AllocError) (s : Status) (o : Option Closed) → IfOk r (λ p. HasMark mark p.closed) → IfSome o (IsFinished r s) → IfSome o (HasMark mark)
still-marked mark r s None h f = tt
still-marked mark r s (Some closed) h f = subst (HasMark mark) (sym f.closed_is) (subst (λ r. IfOk r (λ (p : Played). HasMark mark p.closed)) f.is h)
