-- What the calls of a nucleus do.
-- l is a layout, p the number of a place, c a command, v and w are what a pass knows and its caller before the call, u
-- and x after it.
use Rattle.std.specs.Prelude.{ℕ, ◌≡◌, ◌≤◌, ◌<◌, ◌+◌, ◌==◌, ◌-◌, ◌^◌, ◌⊎◌, min, List, [], ◌∷◌, ◌++◌, Option, Some, None, if◌then◌else◌, Result, Ok, Err, IfOk, IfErr, OnErr}
use Rattle.chorus_ui.specs.declared.limits.TheConstants.{CLOCK_LIMIT}
use Rattle.chorus_ui.specs.declared.layout.Layout.{Layout}
use Rattle.chorus_entry.specs.declared.id.MsgId.{MsgId}
use Rattle.chorus_entry.specs.declared.entry.Entry.{Entry}
use Rattle.chorus_entry.specs.declared.command.Command.{Command}
use Rattle.chorus_entry.specs.declared.packet.Packet.{Packet}
use Rattle.chorus_entry.specs.Places.{place_for}
use Rattle.chorus_calls.specs.Callers.{Seated}
use Rattle.law_machine.specs.declared.reply.Reply.{Reply}
use Rattle.law_machine.specs.declared.outcome.Outcome.{Outcome}
use Rattle.law_machine.specs.declared.outcome.Outcome.TheVariants.{Unknown}
use Rattle.law_machine.specs.PlaceState.{PlaceState, greatest_clock}
use Rattle.law_machine.specs.PlaceMachine.{begun}
use Rattle.law_machine.specs.Own.{own}
use Rattle.law_machine.specs.Replies.{reply}
use Rattle.law_machine.specs.Outcomes.{outcome}
use Rattle.chorus_place.specs.declared.fault.PlaceFault.{PlaceFault}
use Rattle.chorus_place.specs.declared.fault.PlaceFault.TheVariants as faults
use Rattle.chorus_serve.specs.declared.served.Pump.{Pump}
use Rattle.chorus_serve.specs.declared.served.Pump.TheVariants as pumps
use Rattle.chorus_serve.specs.Serving.{KeepsInHand, IsIdle, IsWornBy, AreEmptied}
use Rattle.chorus_turn.specs.declared.turns.Busy.{Busy}
use Rattle.chorus_turn.specs.declared.knowledge.Remarked.{Remarked}
use Rattle.chorus_turn.specs.declared.knowledge.Knowledge.{Knowledge}
use Rattle.chorus_turn.specs.Knowing.{IsSamePass}
use Rattle.chorus_turn.specs.Passes as turns
use Rattle.chorus_turn.specs.Calls.{FoundBusy}
use Rattle.chorus_ruled_ends.specs.Ruled.{Ruled}
use Rattle.law_history.specs.declared.turns.Input.{Input}
use Rattle.law_history.specs.Counts.{put_count, got_count}
use Rattle.law_history.specs.Runs.{commands_given}
use Rattle.law_closing.specs.Remarks.{turns_at, turns_in}
use Rattle.law_closing.specs.Places.{PlaceNote}
use Rattle.chorus_nucleus.specs.SiteTurns.Sites.{IsJournalOf}
use Rattle.chorus_nucleus.specs.SiteTurns.Turning.{HasSeenMore, TakesTurn, Looks, MayWork}
use Rattle.chorus_nucleus.specs.declared.fault.CallFault.{CallFault}
use Rattle.chorus_nucleus.specs.declared.fault.CallFault.TheVariants as call_faults
use Rattle.chorus_nucleus.specs.declared.nucleus.Nucleus.{Nucleus}
use Rattle.chorus_nucleus.specs.declared.pass.Pass.{Pass}
use Rattle.chorus_nucleus.specs.declared.site_turns.site.Site.{Site}
use Rattle.chorus_nucleus.specs.Passes.{layout_of, known, caller_of, worn_by, sight_of, home_of, desk_of, mark_of, IsPlaceOf, IsPassOf}

abbrev pub fault_of : PlaceFault → CallFault
fault_of (faults.Memory none) = call_faults.Memory none
fault_of (faults.Worn clock) = call_faults.Worn clock

-- the answer of a call, from that of its turn
abbrev pub answered : {T : Type 0} → Result (Result T PlaceFault) Busy → Result T CallFault
answered (Ok (Ok x)) = Ok x
answered (Ok (Err f)) = Err (fault_of f)
answered (Err b) = Err (call_faults.Busy b.by)

-- the first worn clock that a call answered
abbrev pub worn_after : {T : Type 0} → Option ℕ → Result T CallFault → Option ℕ
worn_after (Some clock) r = Some clock
worn_after None (Err (call_faults.Worn clock)) = Some clock
worn_after None _ = None

-- the commands that a pass gave, in order
abbrev pub gave : Knowledge PlaceNote → List Command
gave v = commands_given (turns_in v.mine)

-- with the command c behind them where it was performed
abbrev pub gave_after : Command → Result Reply CallFault → List Command → List Command
gave_after c (Ok r) cs = cs ++ c ∷ []
gave_after c (Err f) cs = cs

-- seat and actor stay, and at most one post and one call more is counted
pub record Grows (w x : Seated) : Type 0 where
  pub seat : x.seat ≡ w.seat
  pub actor : x.actor ≡ w.actor
  pub posts : x.posts ≤ w.posts + 1
  pub given : x.client.given ≤ w.client.given + 1

-- seat and actor stay, and no post and no call is counted
pub record Stays (w x : Seated) : Type 0 where
  pub seat : x.seat ≡ w.seat
  pub actor : x.actor ≡ w.actor
  pub posts : x.posts ≡ w.posts
  pub given : x.client.given ≡ w.client.given

-- the command was performed at the place, in one turn: its first entry is the command's own act, and the reply is the
-- machine's
pub record Performs (l : Layout) (p : ℕ) (c : Command) (r : Reply) (v : Knowledge PlaceNote) (w : Seated)
    (u : Knowledge PlaceNote) (x : Seated) : Type 0 where
  pub state : PlaceState
  pub turn : TakesTurn l p (Input.Command c) state v w u x
  pub act : turn.entry.act ≡ own c (begun state w)
  pub answer : r ≡ reply c (begun state w)
  pub unworn : greatest_clock (begun state w) < CLOCK_LIMIT

-- a look at the place found the greater of its clock and the caller's at the limit
pub record FindsWorn (l : Layout) (p clock : ℕ) (v : Knowledge PlaceNote) (w : Seated) (u : Knowledge PlaceNote)
    (x : Seated) : Type 0 where
  pub state : PlaceState
  pub looks : Looks l p state v w u x
  pub worn : CLOCK_LIMIT ≤ clock
  pub greatest : clock ≡ greatest_clock (begun state w)

-- why a command was refused: another pass held the place; or it looked at the place, and found no memory, with both
-- clocks below the limit, or a worn clock
abbrev pub Because : CallFault → Layout → ℕ → Knowledge PlaceNote → Seated → Knowledge PlaceNote → Seated → Type 0
Because (call_faults.Busy by) l p v w u x = FoundBusy p by v u × (x ≡ w)
Because (call_faults.Memory none) l p v w u x =
    (s : PlaceState) × Looks l p s v w u x × (greatest_clock (begun s w) < CLOCK_LIMIT)
Because (call_faults.Worn clock) l p v w u x = FindsWorn l p clock v w u x

-- The place of this number, of those that were handed in, before and after a turn that found this journal: what waited
-- there was sent, or a link was found full.
pub record IsServedAt (handed : List (Site Ruled Packet)) (p : ℕ) (found : List (Remarked PlaceNote))
    (before after : Site Ruled Packet) : Type 0 where
  pub place : IsPlaceOf handed p before
  pub same : mark_of after ≡ mark_of before
  pub journal : IsJournalOf (desk_of before) found
  pub emptied : AreEmptied (desk_of before) (desk_of after)

-- a look at the place found the greatest of these clocks and of that of the packet in hand at the limit
pub record FindsWornBy (n : Nucleus) (p clock : ℕ) (v : Knowledge PlaceNote) (w : Seated)
    (u : Knowledge PlaceNote) (x : Seated) : Type 0 where
  pub state : PlaceState
  pub looks : Looks (layout_of n) p state v w u x
  pub before : Site Ruled Packet
  pub after : Site Ruled Packet
  pub served : IsServedAt (turns.handed n.turns) p looks.found before after
  pub by : IsWornBy clock (desk_of before) (desk_of after) w

-- why a serve was refused: another pass held the place; or it looked at the place, and found no memory, or a worn clock
abbrev pub Unserved : CallFault → Nucleus → ℕ → Knowledge PlaceNote → Seated → Knowledge PlaceNote → Seated → Type 0
Unserved (call_faults.Busy by) n p v w u x = FoundBusy p by v u × (x ≡ w)
Unserved (call_faults.Memory none) n p v w u x = (s : PlaceState) × Looks (layout_of n) p s v w u x
Unserved (call_faults.Worn clock) n p v w u x = FindsWornBy n p clock v w u x

-- the caller is as it was, but for what it was shown, and the pass made nothing
pub record IsRefused (v : Knowledge PlaceNote) (w : Seated) (u : Knowledge PlaceNote) (x : Seated) : Type 0 where
  pub caller : HasSeenMore w x
  pub mine : u.mine ≡ v.mine

-- where the caller carries the command out
abbrev pub place_of : Nucleus → Command → Pass → ℕ
place_of n c pass = place_for (layout_of n) (caller_of pass).actor c

-- what a call with the command c did: at Ok it is one turn at the command's place
pub record IsCall (n : Nucleus) (c : Command) (old new : Pass) (r : Result Reply CallFault) : Type 0 where
  pub pass : IsPassOf n new
  pub standing : IsSamePass (known old) (known new)
  pub turn : IfOk r (λ x. Performs (layout_of n) (place_of n c old) c x (known old) (caller_of old) (known new)
      (caller_of new))
  pub fault : IfErr r (λ f. Because f (layout_of n) (place_of n c old) (known old) (caller_of old) (known new)
      (caller_of new))
  pub refused : OnErr r (IsRefused (known old) (caller_of old) (known new) (caller_of new))
  pub worn : worn_by new ≡ worn_after (worn_by old) r
  pub gave_is : gave (known new) ≡ gave_after c r (gave (known old))
  pub grows : Grows (caller_of old) (caller_of new)
  pub sight : sight_of new ≡ sight_of old

-- the packet from there was worked off: it was lawful, and no clock was worn
abbrev pub WorksOffAt : Nucleus → ℕ → ℕ → Knowledge PlaceNote → Seated → Knowledge PlaceNote → Seated → Type 0
WorksOffAt n p from v w u x =
    (s : PlaceState) × (k : Packet) × (t : TakesTurn (layout_of n) p (Input.Packet from k) s v w u x)
    × MayWork from k s w × (b a : Site Ruled Packet) × IsServedAt (turns.handed n.turns) p t.found b a

-- a packet from there is unlawful, and stays in hand
abbrev pub KeepsInHandAt : Nucleus → ℕ → ℕ → Knowledge PlaceNote → Seated → Knowledge PlaceNote → Seated → Type 0
KeepsInHandAt n p from v w u x =
    (s : PlaceState) × (t : Looks (layout_of n) p s v w u x) × (k : Packet)
    × (b a : Site Ruled Packet) × IsServedAt (turns.handed n.turns) p t.found b a
    × KeepsInHand from k (desk_of b) (desk_of a) w w

-- What a serve of the place did: it worked off a packet, or keeps one in hand that may not be worked off; or it was
-- idle, with nothing in hand and each link found empty, and tells how many packets the turns of the journal that it
-- found put, and, up to 2^64 - 1, how many they worked off.
abbrev pub Serves : Nucleus → ℕ → Pump → Knowledge PlaceNote → Seated → Knowledge PlaceNote → Seated → Type 0
Serves n p (pumps.Served from) v w u x = WorksOffAt n p from v w u x ⊎ KeepsInHandAt n p from v w u x
Serves n p (pumps.Idle put worked) v w u x =
    (s : PlaceState) × (t : Looks (layout_of n) p s v w u x) × (put ≡ put_count (turns_at p t.found))
    × (worked ≡ min (got_count (turns_at p t.found)) (2 ^ 64 - 1))
    × (b a : Site Ruled Packet) × IsServedAt (turns.handed n.turns) p t.found b a
    × IsIdle (desk_of b) (desk_of a) w w

-- what a serve of the place p did
pub record IsServe (n : Nucleus) (p : ℕ) (old new : Pass) (r : Result Pump CallFault) : Type 0 where
  pub pass : IsPassOf n new
  pub standing : IsSamePass (known old) (known new)
  pub served : IfOk r (λ x. Serves n p x (known old) (caller_of old) (known new) (caller_of new))
  pub fault : IfErr r (λ f. Unserved f n p (known old) (caller_of old) (known new) (caller_of new))
  pub refused : OnErr r (IsRefused (known old) (caller_of old) (known new) (caller_of new))
  pub worn : worn_by new ≡ worn_after (worn_by old) r
  pub gave_is : gave (known new) ≡ gave (known old)
  pub stays : Stays (caller_of old) (caller_of new)
  pub sight : sight_of new ≡ sight_of old

-- what became of the message, as its own seat is told by a journal of its home place, the newest entry first
abbrev pub outcome_for : ℕ → MsgId → List Entry → Outcome
outcome_for seat x journal = if x.seat == seat then outcome x journal else Unknown

-- what a call that asks what became of a message did: it looked at the caller's home place
pub record IsOutcome (n : Nucleus) (x : MsgId) (old new : Pass) (r : Result Outcome CallFault) : Type 0 where
  pub pass : IsPassOf n new
  pub standing : IsSamePass (known old) (known new)
  pub told : IfOk r (λ o. (s : PlaceState) × Looks (layout_of n) (home_of (layout_of n) (caller_of old)) s (known old)
      (caller_of old) (known new) (caller_of new)
      × (o ≡ outcome_for (caller_of old).seat x s.journal))
  pub fault : IfErr r (λ f. (by : ℕ) × (f ≡ call_faults.Busy by)
      × FoundBusy (home_of (layout_of n) (caller_of old)) by (known old) (known new)
      × (caller_of new ≡ caller_of old))
  pub caller : HasSeenMore (caller_of old) (caller_of new)
  pub mine : (known new).mine ≡ (known old).mine
  pub worn : worn_by new ≡ worn_by old
  pub sight : sight_of new ≡ sight_of old
