-- A schedule that is made of moves is replayed to what they come to.
use Rattle.std.proofs.Common.{◌≡◌, List, [], ◌∷◌, map, reverse, None, inl, inr, refl, sym, ap, subst}
use Rattle.chorus_ui.specs.declared.layout.Layout.{Layout}
use Rattle.law_network.specs.Network.{Event}
use Rattle.law_network.specs.Tasks.{Task, Do, CarryOut}
use Rattle.law_explore.specs.declared.moves.Move.{Move}
use Rattle.law_explore.specs.Search.{IsHistory, state_after}
use Rattle.law_explore.specs.Races.{replaying}
use Rattle.law_explore.proofs.Showing.{moves-are-replayed}
use Rattle.chorus_scene.specs.Scene.{Scene}
use Rattle.chorus_show.specs.declared.status.Status.{Status}
use Rattle.chorus_show.specs.declared.status.Status.TheVariants as statuses
use Rattle.chorus_net.specs.Closing.{IsClosed}
use Rattle.chorus_replay.specs.Ordered.{CarryAsFar}
use Rattle.chorus_replay.specs.Laws.{worn_clock}
use Rattle.chorus_replay.specs.Waiting.{Standing, Follows, IsOver, IsOverUnless, opened}
use Rattle.chorus_replay.proofs.Determined.{either, ends-there}
use Rattle.law_replay.specs.Shown.{race_of, step_of, with_schedule, IsEnded, ScheduleShowsItsOutcome}
use Rattle.law_replay.proofs.Steps.{base, last, comes-last, is-over}

pub not-worn : (status : Status) (l : Layout) (ts : List Task) (es : List Event) → worn_clock status ≡ None → CarryAsFar status l ts es → CarryOut l ts es
not-worn statuses.Done l ts es none h = h
not-worn statuses.Usage l ts es none h = h
not-worn (statuses.Scenario line reason) l ts es none h = h
not-worn statuses.ReadFault l ts es none h = h
not-worn statuses.WriteFault l ts es none h = h
not-worn statuses.Memory l ts es none h = h
not-worn (statuses.Worn clock) l ts es none h = absurd (cc)

pub over-unworn : (status : Status) (c : Scene) (s : Standing) → worn_clock status ≡ None → IsOverUnless status c s → IsOver c s
over-unworn statuses.Done c s none h = h
over-unworn statuses.Usage c s none h = h
over-unworn (statuses.Scenario line reason) c s none h = h
over-unworn statuses.ReadFault c s none h = h
over-unworn statuses.WriteFault c s none h = h
over-unworn statuses.Memory c s none h = h
over-unworn (statuses.Worn clock) c s none h = absurd (cc)

-- two standings that are over are one
one-end : (c : Scene) (s t : Standing) → Follows c (opened c) s → Follows c (opened c) t → IsOver c s → IsOver c t → s ≡ t
one-end c s t f g over end =
    elim (either c (opened c) s t f g) [
      | inl h ↦ ends-there c s t over h
      | inr h ↦ sym (ends-there c t s end h)
    ]

-- a replay of the schedule ends where its moves lead
module _ (c : Scene) (ms : List Move) (h : IsHistory (replaying (race_of c)) ms) (ended : IsEnded (state_after (replaying (race_of c)) ms)) where
  pub ends-so : (s : Standing) (status : Status) → Follows (with_schedule ms c) (opened (with_schedule ms c)) s → IsOverUnless status (with_schedule ms c) s → worn_clock status ≡ None
      → last c (map step_of (reverse ms)) ms h refl ended ≡ s
  ends-so s status f over none =
      one-end (with_schedule ms c) (last c (map step_of (reverse ms)) ms h refl ended) s (comes-last c (map step_of (reverse ms)) ms h refl ended) f
      (is-over c (map step_of (reverse ms)) ms h refl ended) (over-unworn status (with_schedule ms c) s none over)

carried : (l : Layout) (fs : List Event) → CarryOut l (map Do fs) fs
carried l [] = refl
carried l (f ∷ fs) = (fs, (refl, carried l fs))

pub shows : ScheduleShowsItsOutcome
shows c ms status closed h ended played none =
    let l = c.layout in
    let s = played.standing in
    let es = played.ordered.events in
    let out = not-worn status l s.tasks es none played.ordered.carried in
    let same = ends-so c ms h ended s status played.follows played.over none in
    let all = subst (λ (ts : List Task). CarryOut l ts es) (sym (ap (λ (t : Standing). t.tasks) same)) out in
    let is = moves-are-replayed l (map Do (reverse (base c))) (reverse (base c)) es (race_of c) ms (carried l (reverse (base c))) refl ended.1 all in
    subst (λ n. IsClosed n closed) is played.ordered.closes
