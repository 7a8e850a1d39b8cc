-- A pass goes on by one call more.
-- n is a nucleus, a, b and c are a pass at three moments, p and p' a session before and after, q is a port.
use Rattle.std.proofs.Common.{ℕ, ◌≡◌, ◌≤◌, true, false, List, [], ◌∷◌, ◌++◌, Result, Ok, Err, inl, inr, refl, sym, ◌∙◌, ap, subst, arith, append_assoc}
use Rattle.std.specs.List.{All}
use Rattle.std.proofs.lemmas.List.{append-nil}
use Rattle.std.proofs.lemmas.List.Elements.{All-nil, All-cons, All-append}
use Rattle.chorus_ui.specs.declared.ui.Ui.{Ui}
use Rattle.chorus_entry.specs.declared.act.Act.{Act}
use Rattle.chorus_entry.specs.declared.command.Command.{Command}
use Rattle.chorus_entry.specs.declared.dest.Dest.{Dest}
use Rattle.chorus_entry.specs.declared.id.MsgId.{MsgId}
use Rattle.chorus_calls.specs.Callers.{Seated, raised}
use Rattle.chorus_nucleus.specs.SiteTurns.Turning.{HasSeenMore}
use Rattle.chorus_nucleus.proofs.Behind.{more-itself, more-up}
use Rattle.law_machine.specs.declared.reply.Reply.{Reply}
use Rattle.law_machine.specs.declared.outcome.Outcome.{Outcome}
use Rattle.law_machine.specs.PlaceState.{Turn}
use Rattle.law_machine.specs.PlaceMachine.{begun}
use Rattle.law_machine.specs.Own.{own}
use Rattle.law_replies.specs.Taking.{taken_acts, answers_take, acts_of}
use Rattle.law_replies.proofs.Turns.{takes-append}
use Rattle.law_history.proofs.Lists.{reverse-first}
use Rattle.law_closing.specs.Places.{PlaceNote}
use Rattle.chorus_serve.specs.declared.served.Pump.{Pump}
use Rattle.chorus_serve.specs.declared.served.Pump.TheVariants as pumps
use Rattle.chorus_turn.specs.declared.knowledge.Placed.{Placed}
use Rattle.chorus_turn.specs.declared.knowledge.Knowledge.{Knowledge}
use Rattle.chorus_turn.specs.Knowing.{IsSamePass}
use Rattle.chorus_nucleus.specs.declared.fault.CallFault.{CallFault}
use Rattle.chorus_nucleus.specs.declared.fault.CallFault.TheVariants as faults
use Rattle.chorus_nucleus.specs.declared.nucleus.Nucleus.{Nucleus}
use Rattle.chorus_nucleus.specs.declared.pass.Pass.{Pass}
use Rattle.chorus_nucleus.specs.Passes.{layout_of, known, caller_of, home_of, IsPassOf}
use Rattle.chorus_nucleus.specs.Calls.{IsCall, Unserved, IsServe, IsOutcome, place_of}
use Rattle.chorus_nucleus.specs.Taking.{SeesMore}
use Rattle.chorus_nucleus.proofs.Trying.{sees-then}
use Rattle.chorus_nucleus.proofs.TakeTurns.{sees-turn, sees-same, sees-fault}
use Rattle.chorus_sessions.specs.declared.session.Session.{Session}
use Rattle.chorus_sessions.specs.declared.hand.PortMessage.{PortMessage}
use Rattle.chorus_sessions.specs.Hands.{hands_out, AreDelivered, Holds, HandNothingOut}
use Rattle.chorus_sessions.specs.Sessions.{takes, Goes, IsSession, Takes}
use Rattle.chorus_sessions.proofs.Quiet.{Quiet, IsQuiet, own-make, own-quiet, quiet-by-acts, quiet-command, quiet-packet, quiet-placed}
use Rattle.chorus_sessions.proofs.Holding.{are-delivered-later, holds-later, holds-taken}

abbrev MadeQuiet : Placed PlaceNote → Type 0
MadeQuiet m = hands_out m.remarked.entry.act ≡ false

goes-more : (n : Nucleus) (a b : Pass) (more : List (Placed PlaceNote)) → IsPassOf n b → IsSamePass (known a) (known b) → (known b).mine ≡ (known a).mine ++ more → HandNothingOut more → SeesMore (known a) (known b)
    → (caller_of a).last ≤ (caller_of b).last → Goes n a b
goes-more n a b more pass same mine quiet sees last = record { pass = pass; same = same; more = more; mine = mine; quiet = quiet; sees = sees; last = last }

-- a look raises the caller's clock, if anything
look-last : (clock : ℕ) (w x : Seated) → x ≡ raised clock w → w.last ≤ x.last
look-last clock w x shown = let e = ap (λ (z : Seated). z.last) shown in omega (arith, e)

-- nothing was made
goes-still : (n : Nucleus) (a b : Pass) → IsPassOf n b → IsSamePass (known a) (known b) → (known b).mine ≡ (known a).mine → SeesMore (known a) (known b) → HasSeenMore (caller_of a) (caller_of b) → Goes n a b
goes-still n a b pass same mine sees caller =
    goes-more n a b [] pass same (mine ∙ sym (append-nil (known a).mine)) (All-nil MadeQuiet) sees (more-up (caller_of a) (caller_of b) caller)

pub goes-not : (n : Nucleus) (a : Pass) → IsPassOf n a → Goes n a a
goes-not n a is = goes-still n a a is (refl, refl, refl, refl) refl (sees-same (known a) (known a) refl) (more-itself (caller_of a))

pub goes-then : (n : Nucleus) (a b c : Pass) → Goes n a b → Goes n b c → Goes n a c
goes-then n a b c g h = record {
  pass = h.pass;
  same = (h.same.0 ∙ g.same.0, h.same.1 ∙ g.same.1, h.same.2 ∙ g.same.2, h.same.3 ∙ g.same.3);
  more = g.more ++ h.more;
  mine = h.mine ∙ ap (λ zs. zs ++ h.more) g.mine ∙ append_assoc (known a).mine g.more h.more;
  quiet = All-append MadeQuiet g.more h.more g.quiet h.quiet;
  sees = sees-then (known a) (known b) (known c) g.sees h.sees;
  last = omega (arith, g.last, h.last);
}

-- Commands.

goes-by : (n : Nucleus) (command : Command) (a b : Pass) (x : Reply) (h : IsCall n command a b (Ok x)) → All IsQuiet (h.turn.turn.entry ∷ h.turn.turn.later) → Goes n a b
goes-by n command a b x h quiet =
    let t = h.turn.turn in
    let above = t.above in
    let upto = t.upto in
    goes-more n a b _ h.pass h.standing (ap (λ (z : Knowledge PlaceNote). z.mine) t.knows) (quiet-placed (place_of n command a) 0 _ _ (t.entry ∷ t.later) quiet)
    (sees-turn (place_of n command a) t.found _ (known a) (known b) t.knows t.shows.begins) (omega (arith, above, upto))

pub goes-refused : (n : Nucleus) (command : Command) (a b : Pass) (f : CallFault) → IsCall n command a b (Err f) → Goes n a b
goes-refused n command a b f h =
    goes-still n a b h.pass h.standing h.refused.mine (sees-fault (layout_of n) (place_of n command a) f (known a) (caller_of a) (known b) (caller_of b) h.fault) h.refused.caller

goes-quiet : (n : Nucleus) (command : Command) (a b : Pass) (r : Result Reply CallFault) → ((t : Turn) → Quiet (own command t)) → IsCall n command a b r → Goes n a b
goes-quiet n command a b (Ok x) quiet h =
    let t = h.turn.turn in
    goes-by n command a b x h
    (quiet-command command h.turn.state (caller_of a) (t.entry ∷ t.later) (t.journal ∙ sym (reverse-first t.entry t.later h.turn.state.journal)) (quiet (begun h.turn.state (caller_of a))))
goes-quiet n command a b (Err f) quiet h = goes-refused n command a b f h

pub goes-make : (n : Nucleus) (actor : Ui) (capacity : ℕ) (a b : Pass) (r : Result Reply CallFault) → IsCall n (Command.Make actor capacity) a b r → Goes n a b
goes-make n actor capacity a b r h = goes-quiet n (Command.Make actor capacity) a b r (own-make actor capacity) h

pub goes-send : (n : Nucleus) (d : Dest) (body : List ℕ) (a b : Pass) (r : Result Reply CallFault) → IsCall n (Command.Send d body) a b r → Goes n a b
goes-send n d body a b r h = goes-quiet n (Command.Send d body) a b r (λ t. refl) h

pub goes-act : (n : Nucleus) (c : Command) (a b : Pass) (r : Result Reply CallFault) → takes c ≡ false → IsCall n c a b r → Goes n a b
goes-act n c a b r other h = goes-quiet n c a b r (own-quiet c other) h

sees-unserved : (f : CallFault) (n : Nucleus) (p : ℕ) (v : Knowledge PlaceNote) (w : Seated) (u : Knowledge PlaceNote) (x : Seated) → Unserved f n p v w u x → SeesMore v u
sees-unserved (faults.Busy by) n p v w u x b = sees-same v u (ap (λ (z : Knowledge PlaceNote). z.seen) b.0.knows)
sees-unserved (faults.Memory none) n p v w u x b = sees-turn p b.1.found [] v u b.1.knows b.1.shows.begins
sees-unserved (faults.Worn clock) n p v w u x b = sees-turn p b.looks.found [] v u b.looks.knows b.looks.shows.begins

pub goes-serve : (n : Nucleus) (place : ℕ) (a b : Pass) (r : Result Pump CallFault) → IsServe n place a b r → Goes n a b
goes-serve n place a b (Ok (pumps.Served from)) h = elim h.served [
  | inl works ↦
      (let t = works.2 in
      let above = t.above in
      let upto = t.upto in
      goes-more n a b _ h.pass h.standing (ap (λ (z : Knowledge PlaceNote). z.mine) t.knows)
      (quiet-placed place 0 _ _ (t.entry ∷ t.later) (quiet-packet works.1 works.0 (caller_of a) (t.entry ∷ t.later) (t.journal ∙ sym (reverse-first t.entry t.later works.0.journal))))
      (sees-turn place t.found _ (known a) (known b) t.knows t.shows.begins) (omega (arith, above, upto)))
  | inr keeps ↦
      (let t = keeps.1 in
      goes-more n a b [] h.pass h.standing (ap (λ (z : Knowledge PlaceNote). z.mine) t.knows) (All-nil MadeQuiet) (sees-turn place t.found [] (known a) (known b) t.knows t.shows.begins) (look-last _ (caller_of a) (caller_of b) t.after))
]
goes-serve n place a b (Ok (pumps.Idle put worked)) h =
    let t = h.served.1 in
    goes-more n a b [] h.pass h.standing (ap (λ (z : Knowledge PlaceNote). z.mine) t.knows) (All-nil MadeQuiet) (sees-turn place t.found [] (known a) (known b) t.knows t.shows.begins) (look-last _ (caller_of a) (caller_of b) t.after)
goes-serve n place a b (Err f) h =
    goes-still n a b h.pass h.standing h.refused.mine (sees-unserved f n place (known a) (caller_of a) (known b) (caller_of b) h.fault) h.refused.caller

pub goes-outcome : (n : Nucleus) (x : MsgId) (a b : Pass) (r : Result Outcome CallFault) → IsOutcome n x a b r → Goes n a b
goes-outcome n x a b (Ok o) h =
    let t = h.told.1 in goes-still n a b h.pass h.standing h.mine (sees-turn (home_of (layout_of n) (caller_of a)) t.found [] (known a) (known b) t.knows t.shows.begins) h.caller
goes-outcome n x a b (Err f) h =
    let busy = h.fault.2 in goes-still n a b h.pass h.standing h.mine (sees-same (known a) (known b) (ap (λ (z : Knowledge PlaceNote). z.seen) busy.knows)) h.caller

-- A take.

module _ (n : Nucleus) (q : Ui) (a b : Pass) where
  told : (x : Reply) (h : IsCall n (Command.Take q) a b (Ok x)) → (acts_of (h.turn.turn.entry ∷ h.turn.turn.later) ≡ taken_acts q x) × (answers_take x ≡ true)
  told x h =
      let t = h.turn.turn in
      let all = t.entry ∷ t.later in
      let both = takes-append h.turn.state (caller_of a) q all (t.journal ∙ sym (reverse-first t.entry t.later h.turn.state.journal)) in
      (subst (λ z. acts_of all ≡ taken_acts q z) (sym h.turn.answer) both.0, subst (λ z. answers_take z ≡ true) (sym h.turn.answer) both.1)

  pub answered : (x : Reply) → IsCall n (Command.Take q) a b (Ok x) → answers_take x ≡ true
  answered x h = (told x h).1

  goes-vain : (x : Reply) (act : Act) → Quiet act → taken_acts q x ≡ act ∷ [] → IsCall n (Command.Take q) a b (Ok x) → Goes n a b
  goes-vain x act quiet one h =
      let t = h.turn.turn in
      goes-by n (Command.Take q) a b x h
      (quiet-by-acts (t.entry ∷ t.later) (subst (All Quiet) (sym ((told x h).0 ∙ one)) (All-cons Quiet act [] quiet (All-nil Quiet))))

  pub goes-empty : IsCall n (Command.Take q) a b (Ok Reply.Empty) → Goes n a b
  goes-empty h = goes-vain Reply.Empty (Act.Empty q) refl refl h

  pub goes-not-here : IsCall n (Command.Take q) a b (Ok Reply.NotHere) → Goes n a b
  goes-not-here h = goes-vain Reply.NotHere (Act.NotHere q) refl refl h

-- Sessions.

-- what is in the hand stays, but for what was delivered
pub session-with : (n : Nucleus) (p p' : Session) → IsSession n p → Goes n p.pass p'.pass → p'.hand.seat ≡ p.hand.seat → p'.hand.taken.items ≡ p.hand.taken.items
    → AreDelivered (layout_of n) (known p'.pass) (known p'.pass).mine p'.hand.delivered.items → IsSession n p'
session-with n p p' is g seat taken delivered = record {
  pass = g.pass;
  notes = g.same.1 ∙ is.notes;
  keeper = g.same.2 ∙ is.keeper;
  seat = g.same.0 ∙ is.seat ∙ sym seat;
  holds = subst (λ (js : List PortMessage). Holds (layout_of n) (known p'.pass) (known p'.pass).mine (caller_of p'.pass).last js) (sym taken)
      (holds-later (layout_of n) (known p.pass) (known p'.pass) (known p.pass).mine (known p'.pass).mine g.more (caller_of p.pass).last (caller_of p'.pass).last p.hand.taken.items g.sees g.last g.mine g.quiet is.holds);
  delivered = delivered;
}

-- all of it stays
pub session-goes : (n : Nucleus) (p p' : Session) → IsSession n p → Goes n p.pass p'.pass → p'.hand.seat ≡ p.hand.seat → p'.hand.taken.items ≡ p.hand.taken.items → p'.hand.delivered.items ≡ p.hand.delivered.items → IsSession n p'
session-goes n p p' is g seat taken delivered =
    session-with n p p' is g seat taken
    (subst (λ (js : List PortMessage). AreDelivered (layout_of n) (known p'.pass) (known p'.pass).mine js) (sym delivered)
    (are-delivered-later (layout_of n) (known p.pass) (known p'.pass) (known p.pass).mine (known p'.pass).mine g.more p.hand.delivered.items g.sees g.mine is.delivered))

-- a message more is in the hand
pub session-took : (n : Nucleus) (q : Ui) (p p' : Session) → IsSession n p → Takes n q p p' → p'.hand.seat ≡ p.hand.seat → IsSession n p'
session-took n q p p' is takes seat =
    let got = takes.got in
    let settled = takes.settled in
    let h : IsCall n (Command.Take got.port) p.pass p'.pass (Ok (Reply.Taken got.position got.message settled)) =
    subst (λ port. IsCall n (Command.Take port) p.pass p'.pass (Ok (Reply.Taken got.position got.message settled))) (sym takes.port) takes.call in
    record {
      pass = h.pass;
      notes = h.standing.1 ∙ is.notes;
      keeper = h.standing.2 ∙ is.keeper;
      seat = h.standing.0 ∙ is.seat ∙ sym seat;
      holds = subst (λ (js : List PortMessage). Holds (layout_of n) (known p'.pass) (known p'.pass).mine (caller_of p'.pass).last js) (sym takes.taken)
          (holds-taken n got.port p.pass p'.pass got.position got.message settled p.hand.taken.items h is.holds);
      delivered = subst (λ (js : List PortMessage). AreDelivered (layout_of n) (known p'.pass) (known p'.pass).mine js) (sym takes.delivered)
          (are-delivered-later (layout_of n) (known p.pass) (known p'.pass) (known p.pass).mine (known p'.pass).mine _ p.hand.delivered.items
          (sees-turn (place_of n (Command.Take got.port) p.pass) h.turn.turn.found _ (known p.pass) (known p'.pass) h.turn.turn.knows h.turn.turn.shows.begins) (ap (λ (z : Knowledge PlaceNote). z.mine) h.turn.turn.knows) is.delivered);
    }

pub ruleset calls = (goes-not, goes-make, goes-send, goes-serve, goes-outcome)

pub ruleset taking = (answered)

pub ruleset sessions = (goes-not, session-goes, session-took)
