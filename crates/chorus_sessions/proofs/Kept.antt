-- Each message that a port accepted is in a hand, or waits once, or was discarded with its port.
-- q is a port, i a position, x a message's id, past a list of entries, the newest first, l a layout, c what was closed.
use Rattle.std.proofs.Common.{ℕ, zero, suc, ◌≡◌, ◌⊎◌, inl, inr, Bool, true, false, List, [], ◌∷◌, ◌++◌, Some, slice_get, refl, sym, ◌∙◌, ap, ap₂, subst}
use Rattle.chorus_ui.specs.declared.ui.Ui.{Ui}
use Rattle.chorus_ui.specs.declared.layout.Layout.{Layout}
use Rattle.chorus_ui.specs.Layout.{IsLayout}
use Rattle.chorus_ui.specs.Name.{same_ui}
use Rattle.chorus_ui.proofs.Names.{from_same_ui}
use Rattle.chorus_entry.specs.declared.entry.Entry.{Entry}
use Rattle.chorus_entry.specs.declared.id.MsgId.{MsgId}
use Rattle.chorus_entry.specs.declared.act.Act.{Act}
use Rattle.chorus_entry.specs.Act.{held_port_of}
use Rattle.chorus_entry.specs.Same.{are_same}
use Rattle.chorus_world.specs.Views.{is_on, on}
use Rattle.chorus_world.specs.AcceptedLaws.{accepted_by, received, received_after, taken_by}
use Rattle.law_network.specs.Fates.{IsReceived}
use Rattle.law_history.specs.Runs.{actor_among}
use Rattle.chorus_net.specs.declared.closed.Closed.{Closed}
use Rattle.chorus_net.specs.Closing.{past_of}
use Rattle.chorus_nucleus.specs.declared.nucleus.Nucleus.{Nucleus}
use Rattle.chorus_nucleus.specs.declared.pass.Pass.{Pass}
use Rattle.chorus_nucleus.specs.Passes.{layout_of}
use Rattle.chorus_nucleus.specs.Closing.{IsClosed}
use Rattle.chorus_sessions.specs.declared.hand.Hand.{Hand}
use Rattle.chorus_sessions.specs.Hands.{AreHandedOut, IsInSomeHand}
use Rattle.chorus_sessions.specs.Sessions.{IsRunOf}
use Rattle.chorus_sessions.specs.Kept.{NoneIsLost}
use Rattle.chorus_sessions.proofs.Lists.{In}
use Rattle.chorus_sessions.proofs.Once.{Once, accepted-once, take-get}
use Rattle.chorus_sessions.proofs.Positions.{has-position}
use Rattle.chorus_sessions.proofs.Received.{found, in-so, keeps, skips, stands-so}

-- What was received was handed out by an entry.

front-or-last : (xs : List MsgId) (y : MsgId) (i : ℕ) (x : MsgId) → slice_get (xs ++ y ∷ []) i ≡ Some x → (slice_get xs i ≡ Some x) ⊎ (y ≡ x)
front-or-last [] y zero x h = inr (cc)
front-or-last [] y (suc i) x h = absurd (cc)
front-or-last (z ∷ xs) y zero x h = inl h
front-or-last (z ∷ xs) y (suc i) x h = front-or-last xs y i x h

received-by : (a : Act) (xs : List MsgId) (i : ℕ) (x : MsgId) → slice_get (received_after a xs) i ≡ Some x → (slice_get xs i ≡ Some x) ⊎ ((r : Ui) × (n : ℕ) × (a ≡ Act.Take r n x))
received-by (Act.Take r n y) xs i x h = elim (front-or-last xs y i x h) [
  | inl front ↦ inl front
  | inr is ↦ inr (r, n, ap (λ z. Act.Take r n z) is)
]
received-by _ xs i x h = inl h

-- an entry of the past hands it out
abbrev Out : Ui → MsgId → List Entry → Type 0
Out q x past = (e : Entry) × (n : ℕ) × In e past × (e.act ≡ Act.Take q n x)

handed-out : (q : Ui) (past : List Entry) (i : ℕ) (x : MsgId) → slice_get (received (on q past)) i ≡ Some x → Out q x past
handed-out q [] i x h = absurd (cc)
handed-out q (e ∷ past) i x h = go (is_on (Some q) e) refl (λ front. handed-out q past i x front)
  where
    behind : Out q x past → Out q x (e ∷ past)
    behind t = (t.0, t.1, inr t.2, t.3)

    here : is_on (Some q) e ≡ true → (slice_get (received (on q past)) i ≡ Some x → Out q x past) → (slice_get (received (on q past)) i ≡ Some x) ⊎ ((r : Ui) × (n : ℕ) × (e.act ≡ Act.Take r n x)) → Out q x (e ∷ past)
    here at old (inl front) = behind (old front)
    here at old (inr out) =
        let port : q ≡ out.0 = from_same_ui q out.0 (sym (ap (λ a. are_same same_ui (Some q) (held_port_of a)) out.2) ∙ at) in
        (e, out.1, inl refl, out.2 ∙ ap (λ r. Act.Take r out.1 x) (sym port))

    go : (b : Bool) → is_on (Some q) e ≡ b → (slice_get (received (on q past)) i ≡ Some x → Out q x past) → Out q x (e ∷ past)
    go true at old = here at old (received-by e.act (received (on q past)) i x (sym (ap (λ es. slice_get (received es) i) (keeps (is_on (Some q)) e past at)) ∙ h))
    go false at old = behind (old (sym (ap (λ es. slice_get (received es) i) (skips (is_on (Some q)) e past at)) ∙ h))

module _ (l : Layout) (c : Closed) (hands : List Hand) (run : IsRunOf l c) (all : AreHandedOut (past_of c) hands) where
  abbrev past : List Entry
  past = past_of c

  once : (q : Ui) → Once (accepted_by q past)
  once q = accepted-once q past (run.is.holds [] past refl)

  -- what is in a hand was received there
  in-received : (q : Ui) (i : ℕ) (x : MsgId) → slice_get (accepted_by q past) i ≡ Some x → IsInSomeHand q i x hands → IsReceived past q i x
  in-received q i x at h =
      let hand = h.3 in
      let was = all.each h.0 hand.index h.1 hand.got h.2 hand.stands in
      let act : was.entry.act ≡ Act.Take q hand.got.position x = was.tells.act ∙ ap₂ (λ r y. Act.Take r hand.got.position y) hand.port hand.id in
      let k = found q x hand.got.position was.entry past (in-so was.entry past was.stands) act in
      let first : slice_get (accepted_by q past) k.0 ≡ Some x = take-get (taken_by q past) (accepted_by q past) k.0 x (sym (ap (λ xs. slice_get xs k.0) (run.is.receives [] past refl q)) ∙ k.1) in
      subst (λ j. slice_get (received (on q past)) j ≡ Some x) (once q k.0 i x first at) k.1

  in-hand : (q : Ui) (i : ℕ) (x : MsgId) → IsLayout l → slice_get (accepted_by q past) i ≡ Some x → IsReceived past q i x → IsInSomeHand q i x hands
  in-hand q i x shape at was =
      let out = handed-out q past i x was in
      let position = has-position l (actor_among run.comers) past q out.1 x out.0 shape run.is.run out.2 out.3 in
      let same : out.1 ≡ i = once q out.1 i x position at in
      all.none_lost out.0 q i x (stands-so out.0 past out.2) (out.3 ∙ ap (λ k. Act.Take q k x) same)

  none-of-run : IsLayout l → NoneIsLost l c hands
  none-of-run shape q i x at =
      let f = run.is.left.each q i x at in
      record {
        what = f.0;
        fate = f.1;
        in_hand = (λ h. f.1.received.0 (in-received q i x at h), λ was. in-hand q i x shape at (f.1.received.1 was));
      }

pub none-is-lost : (n : Nucleus) (l : Layout) (pass : Pass) (c : Closed) (hands : List Hand) → layout_of n ≡ l → IsClosed n pass c → IsRunOf l c → AreHandedOut (past_of c) hands → NoneIsLost l c hands
none-is-lost n l pass c hands same h run all = none-of-run l c hands run all (subst IsLayout same h.shape)
