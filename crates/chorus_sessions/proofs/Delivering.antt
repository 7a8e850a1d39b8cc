-- A delivery goes on by one step more.
-- n is a nucleus, q a port, body the bytes that are sent, x a message's id, a, b and c are a pass at three moments.
use Rattle.std.proofs.Common.{ℕ, ◌≡◌, ◌⊎◌, inl, inr, false, List, [], ◌∷◌, ◌++◌, Option, Some, None, Result, Ok, Err, refl, sym, ◌∙◌, subst}
use Rattle.chorus_ui.specs.declared.ui.Ui.{Ui}
use Rattle.chorus_entry.specs.declared.answer.Answer.{Answer}
use Rattle.chorus_entry.specs.declared.entry.Entry.{Entry}
use Rattle.chorus_entry.specs.declared.id.MsgId.{MsgId}
use Rattle.law_machine.specs.declared.outcome.Outcome.{Outcome}
use Rattle.law_machine.specs.declared.reply.Reply.{Reply}
use Rattle.law_machine.specs.PlaceState.{Turn}
use Rattle.law_machine.specs.Own.{next_message}
use Rattle.chorus_entry.specs.declared.tag.Tag.TheVariants.{Plain}
use Rattle.law_machine.specs.Replies.{decided_reply, post_reply, reply}
use Rattle.law_machine.specs.PlaceMachine.{act, begun}
use Rattle.chorus_entry.specs.Act.{answer_of}
use Rattle.chorus_nucleus.specs.declared.fault.CallFault.{CallFault}
use Rattle.chorus_nucleus.specs.declared.nucleus.Nucleus.{Nucleus}
use Rattle.chorus_nucleus.specs.declared.pass.Pass.{Pass}
use Rattle.chorus_nucleus.specs.Passes.{caller_of, IsPassOf}
use Rattle.chorus_nucleus.specs.Calls.{IsCall, IsOutcome}
use Rattle.chorus_sessions.specs.declared.sending.Accepted.{Accepted}
use Rattle.chorus_sessions.specs.declared.sending.Told.{Told}
use Rattle.chorus_sessions.specs.Delivering.{is_answered, sending, DeliversAs, IsAskedInVain, IsLast, IsServed, IsTry, Posts, Pumps, Steps, Through, Waits}
use Rattle.chorus_sessions.specs.Sending.{told_in, told_of, Awaits, Hears, Sends}
use Rattle.chorus_sessions.specs.Sessions.{Goes}
use Rattle.chorus_sessions.proofs.Steps.{goes-not, goes-send, goes-serve, goes-outcome, goes-then}

-- Steps.

through-then : (step : Pass → Pass → Type 0) (cs ds : List Pass) (a b c : Pass) → Through step cs a b → Through step ds b c → Through step (cs ++ ds) a c
through-then step [] ds a b c h k = subst (λ z. Through step ds z c) h k
through-then step (d ∷ cs) ds a b c h k = (h.0, through-then step cs ds d b c h.1 k)

through-map : (step more : Pass → Pass → Type 0) → ((a b : Pass) → step a b → more a b) → (cs : List Pass) (a b : Pass) → Through step cs a b → Through more cs a b
through-map step more f [] a b h = h
through-map step more f (c ∷ cs) a b h = (f a c h.0, through-map step more f cs c b h.1)

pub steps-none : (step : Pass → Pass → Type 0) (a : Pass) → Steps step a a
steps-none step a = ([], refl)

pub steps-one : (step : Pass → Pass → Type 0) (a b : Pass) → step a b → Steps step a b
steps-one step a b h = (b ∷ [], (h, refl))

pub steps-then : (step : Pass → Pass → Type 0) (a b c : Pass) → Steps step a b → Steps step b c → Steps step a c
steps-then step a b c h k = (h.0 ++ k.0, through-then step h.0 k.0 a b c h.1 k.1)

steps-map : (step more : Pass → Pass → Type 0) → ((a b : Pass) → step a b → more a b) → (a b : Pass) → Steps step a b → Steps more a b
steps-map step more f a b h = (h.0, through-map step more f h.0 a b h.1)

module _ (n : Nucleus) where
  pub pumps-none : (a : Pass) → Pumps n a a
  pumps-none a = steps-none (IsServed n) a

  pub pumps-more : (a b c : Pass) → Pumps n a b → IsServed n b c → Pumps n a c
  pumps-more a b c h k = steps-then (IsServed n) a b c h (steps-one (IsServed n) b c k)

  pub pumps-then : (a b c : Pass) → Pumps n a b → Pumps n b c → Pumps n a c
  pumps-then a b c h k = steps-then (IsServed n) a b c h k

  -- Waiting.

  abbrev WaitStep : MsgId → Pass → Pass → Type 0
  WaitStep x a b = IsServed n a b ⊎ IsAskedInVain n x a b

  pub waits-none : (x : MsgId) (a : Pass) → Waits n x a a
  waits-none x a = steps-none (WaitStep x) a

  pub waits-then : (x : MsgId) (a b c : Pass) → Waits n x a b → Waits n x b c → Waits n x a c
  waits-then x a b c h k = steps-then (WaitStep x) a b c h k

  pub waits-pumped : (x : MsgId) (a b : Pass) → Pumps n a b → Waits n x a b
  waits-pumped x a b h = steps-map (IsServed n) (WaitStep x) (λ c d k. inl k) a b h

  waits-vain : (x : MsgId) (a b : Pass) (r : Result Outcome CallFault) → is_answered r ≡ false → IsOutcome n x a b r → Waits n x a b
  waits-vain x a b r none h = steps-one (WaitStep x) a b (inr (r, h, none))

  pub hears-ok : (x : MsgId) (a b : Pass) (o : Outcome) → IsOutcome n x a b (Ok o) → Hears n x o a b
  hears-ok x a b (Outcome.Answer answer) h = h
  hears-ok x a b Outcome.Pending h = waits-vain x a b (Ok Outcome.Pending) refl h
  hears-ok x a b Outcome.Unknown h = waits-vain x a b (Ok Outcome.Unknown) refl h

  pub hears-err : (x : MsgId) (a b : Pass) (f : CallFault) → IsOutcome n x a b (Err f) → Hears n x Outcome.Pending a b
  hears-err x a b f h = waits-vain x a b (Err f) refl h

  waited : (x : MsgId) (a b : Pass) → WaitStep x a b → Goes n a b
  waited x a b (inl served) = goes-serve n served.0 a b served.1 served.2
  waited x a b (inr asked) = goes-outcome n x a b asked.0 asked.1

  waits-through : (x : MsgId) (cs : List Pass) (a b : Pass) → IsPassOf n a → Through (WaitStep x) cs a b → Goes n a b
  waits-through x [] a b is h = subst (Goes n a) (sym h) (goes-not n a is)
  waits-through x (c ∷ cs) a b is h =
      let one = waited x a c h.0 in goes-then n a c b one (waits-through x cs c b one.pass h.1)

  pub waits-go : (x : MsgId) (a b : Pass) → IsPassOf n a → Waits n x a b → Goes n a b
  waits-go x a b is h = waits-through x h.0 a b is h.1

  -- Sending.

  module _ (q : Ui) (body : List ℕ) where
    pub tries-pumped : (a b : Pass) → Pumps n a b → Steps (IsTry n q body) a b
    tries-pumped a b h = steps-map (IsServed n) (IsTry n q body) (λ c d k. inl k) a b h

    pub tries-then : (a b c d : Pass) → Steps (IsTry n q body) a b → IsTry n q body b c → Pumps n c d → Steps (IsTry n q body) a d
    tries-then a b c d h k m = steps-then (IsTry n q body) a c d (steps-then (IsTry n q body) a b c h (steps-one (IsTry n q body) b c k)) (tries-pumped c d m)

    -- a post that this was told of
    pub sends-told : (x : MsgId) (o : Option Answer) (a b : Pass) → Posts n q body x o a b → Sends n q body (told_of x o) a b
    sends-told x None a b h = inr (inr (x, None, h, refl))
    sends-told x (Some (Answer.Accepted position)) a b h = h
    sends-told x (Some (Answer.Early hop)) a b h = inr (inr (x, hop, h))
    sends-told x (Some answer) a b h = inr (inr (x, Some answer, h, refl))

    pub posts-later : (x : MsgId) (o : Option Answer) (a b c : Pass) → IsCall n (sending q body) a b (Ok (Reply.Posted x)) → Awaits n x o b c → Posts n q body x o a c
    posts-later x None a b c call h = (b, call, h)
    posts-later x (Some answer) a b c call h = inr record { posted = b; between = h.0; call = call; waits = h.1; told = h.2 }

    -- the reply to a post is a verdict on it, or none
    decided : (x : MsgId) (here : List Entry) → (o : Option Answer) × (post_reply x here ≡ decided_reply x o)
    decided x [] = (None, refl)
    decided x (e ∷ here) = (answer_of e.act, refl)

    pub is-decided : (t : Turn) → (o : Option Answer) × (reply (sending q body) t ≡ decided_reply (next_message Plain body t.caller).id o)
    is-decided t = decided (next_message Plain body t.caller).id (act (sending q body) t).place.journal

    sends-decided : (x : MsgId) (o : Option Answer) (a b : Pass) → IsCall n (sending q body) a b (Ok (decided_reply x o)) → Sends n q body (told_in (decided_reply x o)) a b
    sends-decided x None a b h = inr (inr (x, None, (b, h, waits-none x b), refl))
    sends-decided x (Some (Answer.Accepted position)) a b h = inl h
    sends-decided x (Some (Answer.Early hop)) a b h = inr (inr (x, hop, inl h))
    sends-decided x (Some (Answer.Full len)) a b h = inr (inr (x, Some (Answer.Full len), inl h, refl))
    sends-decided x (Some (Answer.Stale to hop)) a b h = inr (inr (x, Some (Answer.Stale to hop), inl h, refl))
    sends-decided x (Some Answer.NoPort) a b h = inr (inr (x, Some Answer.NoPort, inl h, refl))
    sends-decided x (Some Answer.Already) a b h = inr (inr (x, Some Answer.Already, inl h, refl))
    sends-decided x (Some Answer.ClientsFull) a b h = inr (inr (x, Some Answer.ClientsFull, inl h, refl))
    sends-decided x (Some (Answer.Elsewhere to hop)) a b h = inr (inr (x, Some (Answer.Elsewhere to hop), inl h, refl))
    sends-decided x (Some Answer.NoMember) a b h = inr (inr (x, Some Answer.NoMember, inl h, refl))
    sends-decided x (Some (Answer.Chosen count)) a b h = inr (inr (x, Some (Answer.Chosen count), inl h, refl))
    sends-decided x (Some Answer.Gone) a b h = inr (inr (x, Some Answer.Gone, inl h, refl))

    pub sends-now : (r : Reply) (a b : Pass) → IsCall n (sending q body) a b (Ok r) → Sends n q body (told_in r) a b
    sends-now r a b h =
        let t = begun h.turn.state (caller_of a) in
        let x = (next_message Plain body t.caller).id in
        let d = is-decided t in
        let is : r ≡ decided_reply x d.0 = h.turn.answer ∙ d.1 in
        subst (λ z. Sends n q body (told_in z) a b) (sym is) (sends-decided x d.0 a b (subst (λ z. IsCall n (sending q body) a b (Ok z)) is h))

    pub sends-busy : (by : ℕ) (a b : Pass) → IsCall n (sending q body) a b (Err (CallFault.Busy by)) → IsTry n q body a b
    sends-busy by a b h = inr (inl (by, h))

    pub sends-refused : (f : CallFault) (a b : Pass) → IsCall n (sending q body) a b (Err f) → IsLast n q body a b
    sends-refused f a b h = inr (inl (f, h))

    pub sends-none : (a : Pass) → IsLast n q body a a
    sends-none a = inl refl

    -- The whole.

    pub delivers-now : (t : Accepted) (a b c : Pass) → Steps (IsTry n q body) a b → Sends n q body (Told.Accepted t) b c → DeliversAs n q body (Some t) a c
    delivers-now t a b c tries told = record { before = b; tries = tries; told = told }

    pub delivers-not : (a b c : Pass) → Steps (IsTry n q body) a b → IsLast n q body b c → DeliversAs n q body None a c
    delivers-not a b c tries last = record { before = b; tries = tries; last = last }

    pub delivers-none : (a b : Pass) → Steps (IsTry n q body) a b → DeliversAs n q body None a b
    delivers-none a b tries = delivers-not a b b tries (sends-none b)

pub ruleset delivering = (goes-not, goes-send, goes-serve, goes-outcome, pumps-none, waits-none, steps-none, hears-ok, hears-err, sends-now, sends-none)
