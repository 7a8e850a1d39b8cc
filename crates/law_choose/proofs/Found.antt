-- What a receive told was so.
-- l is the layout, w what the closing pass knew, comers are those who came, c is what was closed, m the note of the pass, a its actor.
use Rattle.std.proofs.Common.{ℕ, zero, suc, ◌≡◌, inl, inr, List, [], ◌∷◌, ◌++◌, map, Some, Result, Ok, Err, refl, sym, ◌∙◌, ap, subst, arith}
use Rattle.std.specs.List.{Contains}
use Rattle.chorus_ui.specs.declared.ui.Ui.{Ui}
use Rattle.chorus_ui.specs.declared.layout.Layout.{Layout}
use Rattle.chorus_ui.specs.Layout.{IsLayout}
use Rattle.chorus_entry.specs.declared.entry.Entry.{Entry}
use Rattle.chorus_entry.specs.declared.message.Message.{Message}
use Rattle.chorus_entry.specs.declared.act.Act.{Act}
use Rattle.law_world.specs.Looks.{TellsWhatWaited}
use Rattle.law_machine.specs.declared.reply.Reply.{Reply}
use Rattle.law_replies.specs.Taking.{taken_acts, settled_acts}
use Rattle.law_history.specs.Journals.{Comer}
use Rattle.law_history.specs.Runs.{actor_among}
use Rattle.law_closing.specs.Places.{PlaceNote}
use Rattle.chorus_turn.specs.declared.knowledge.Placed.{Placed}
use Rattle.chorus_turn.specs.declared.knowledge.Note.{Note}
use Rattle.chorus_turn.specs.declared.knowledge.Knowledge.{Knowledge}
use Rattle.chorus_net.specs.declared.closed.Closed.{Closed}
use Rattle.chorus_net.specs.Closing.{past_of}
use Rattle.chorus_nucleus.specs.declared.fault.CallFault.{CallFault}
use Rattle.chorus_nucleus.specs.declared.nucleus.Nucleus.{Nucleus}
use Rattle.chorus_nucleus.specs.declared.pass.Pass.{Pass}
use Rattle.chorus_nucleus.specs.Passes.{layout_of, known}
use Rattle.chorus_nucleus.specs.Closing.{ClosesAs}
use Rattle.chorus_nucleus.specs.Taking.{Appends, IsMiss, acts_made}
use Rattle.chorus_choose.specs.declared.received.Received.{Received}
use Rattle.chorus_choose.specs.declared.received.Received.TheVariants as receives
use Rattle.chorus_choose.specs.Rounds.{AreMisses, GivesAfter, IsReceive, Missed, StopsAfter}
use Rattle.law_crews.specs.Crewed.{entries_made}
use Rattle.law_crews.specs.Looks.{IsSeatOf}
use Rattle.law_crews.specs.Passes.{passes_of}
use Rattle.law_crews.proofs.Acts.{entry-acts}
use Rattle.law_crews.proofs.Lists.{In, in-back, in-front}
use Rattle.law_crews.proofs.Looks.{looks-told}
use Rattle.law_crews.proofs.Passes.{contained-in, made-stands, stands-so}
use Rattle.law_choose.specs.Found.{FoundAfter, FoundBy, FoundNothing, FoundNothingAt, IsLook, MadeBetween, ReceivesToldWhatWaited, StoppedBehind}

-- a list behind another
same-back : {A : Type 0} (xs ys zs : List A) → xs ++ ys ≡ xs ++ zs → ys ≡ zs
same-back [] ys zs h = h
same-back (x ∷ xs) ys zs h = let rest : xs ++ ys ≡ xs ++ zs = cc in same-back xs ys zs rest

seat-of : (w : Knowledge PlaceNote) (m : Note PlaceNote) (s : ℕ) → In m (passes_of w) → Contains (passes_of w) m → s ≡ m.seat → IsSeatOf w s
seat-of w m s (inl own) noted is = inl (is ∙ ap (λ (z : Note PlaceNote). z.seat) (sym own))
seat-of w m s (inr among) (zero, lt, own) is = inl (is ∙ ap (λ (z : Note PlaceNote). z.seat) (sym own))
seat-of w m s (inr among) (suc k, lt, there) is = inr (m, (k, omega (arith, lt), there), sym is)

-- entries with the acts of some looks, and then others
record Parts (es : List Entry) (acts : List Act) (rest : List Act) : Type 0 where
  front : List Entry
  back : List Entry
  whole : es ≡ front ++ back
  front_acts : map (λ (e : Entry). e.act) front ≡ acts
  back_acts : map (λ (e : Entry). e.act) back ≡ rest

parts : (es : List Entry) (acts rest : List Act) → map (λ (e : Entry). e.act) es ≡ acts ++ rest → Parts es acts rest
parts es [] rest h = record { front = []; back = es; whole = refl; front_acts = refl; back_acts = h }
parts [] (a ∷ acts) rest h = absurd (cc)
parts (e ∷ es) (a ∷ acts) rest h =
    let more : map (λ (z : Entry). z.act) es ≡ acts ++ rest = cc in
    let here : e.act ≡ a = cc in
    let p = parts es acts rest more in
    record { front = e ∷ p.front; back = p.back; whole = ap (λ zs. e ∷ zs) p.whole; front_acts = ap (λ zs. e.act ∷ zs) p.front_acts ∙ ap (λ z. z ∷ acts) here; back_acts = p.back_acts }

record Starts (es : List Entry) (a : Act) : Type 0 where
  first : Entry
  behind : List Entry
  whole : es ≡ first ∷ behind
  act : first.act ≡ a

starts : (es : List Entry) (a : Act) (rest : List Act) → map (λ (e : Entry). e.act) es ≡ a ∷ rest → Starts es a
starts [] a rest h = absurd (cc)
starts (e ∷ es) a rest h = record { first = e; behind = es; whole = refl; act = cc }

module _ (l : Layout) (w : Knowledge PlaceNote) (comers : List Comer) (c : Closed) (m : Note PlaceNote) (a : Ui) (shape : IsLayout l) (k : ClosesAs l w comers c) (noted : Contains (passes_of w) m) (who : actor_among comers m.seat ≡ Some a) where
  -- an entry that the pass made, and what it tells
  record Look (e : Entry) : Type 0 where
    look : IsLook (past_of c) m.seat e
    tells : (q : Ui) → TellsWhatWaited q a e look.stands.older

  entry-look : (x : Placed PlaceNote) → In x m.mine → Look x.remarked.entry
  entry-look x made =
      let among = contained-in m (passes_of w) noted in
      let e = x.remarked.entry in
      let s = made-stands l w comers c shape k m x among made in
      let st = stands-so e (past_of c) s.there in
      record {
        look = record { stands = st; seat = s.seat_is };
        tells = λ q. looks-told l w comers c st.newer st.older e q a shape k st.is (seat-of w m e.seat among noted s.seat_is) (ap (actor_among comers) s.seat_is ∙ who);
      }

  looks-of : (xs : List (Placed PlaceNote)) → ((x : Placed PlaceNote) → In x xs → In x m.mine) → (e : Entry) → In e (entries_made xs) → Look e
  looks-of [] made e there = absurd there
  looks-of (x ∷ xs) made e (inl is) = subst Look is (entry-look x (made x (inl refl)))
  looks-of (x ∷ xs) made e (inr more) = looks-of xs (λ z z-there. made z (inr z-there)) e more

  nothing-by : (q : Ui) (e : Entry) → IsMiss q e.act → Look e → FoundNothing (past_of c) m.seat a q e
  nothing-by q e (inl empty) look = record { look = look.look; tells = inl (empty, (look.tells q).empty empty) }
  nothing-by q e (inr elsewhere) look = record { look = look.look; tells = inr (elsewhere, (look.tells q).elsewhere elsewhere) }

  nothing-at : (qs : List Ui) (acts : List Act) (es : List Entry) → AreMisses qs acts → map (λ (e : Entry). e.act) es ≡ acts → ((e : Entry) → In e es → Look e) → FoundNothingAt (past_of c) m.seat a qs es
  nothing-at [] [] [] misses is looks = tt
  nothing-at [] [] (e ∷ es) misses is looks = absurd (cc)
  nothing-at [] (b ∷ acts) es misses is looks = absurd misses
  nothing-at (q ∷ qs) [] es misses is looks = absurd misses
  nothing-at (q ∷ qs) (b ∷ acts) [] misses is looks = absurd (cc)
  nothing-at (q ∷ qs) (b ∷ acts) (e ∷ es) misses is looks =
      let here : e.act ≡ b = cc in
      let more : map (λ (z : Entry). z.act) es ≡ acts = cc in
      (nothing-by q e (subst (IsMiss q) (sym here) misses.0) (looks e (inl refl)), nothing-at qs acts es misses.1 more (λ z there. looks z (inr there)))

  -- what the receive made
  module _ (v u : Knowledge PlaceNote) (news : List (Placed PlaceNote)) (b : MadeBetween v u news m) where
    among-mine : (x : Placed PlaceNote) → In x news → In x m.mine
    among-mine x there =
        subst (λ zs. In x zs) (sym b.goes_on)
        (in-front x u.mine b.later (subst (λ zs. In x zs) (sym b.grown) (in-back x v.mine news there)))

    look-at : (e : Entry) → In e (entries_made news) → Look e
    look-at = looks-of news among-mine

    acts-are : (acts : List Act) → Appends acts v u → map (λ (e : Entry). e.act) (entries_made news) ≡ acts
    acts-are acts g = entry-acts news ∙ ap acts_made (same-back v.mine news g.news (sym b.grown ∙ g.grown)) ∙ g.acts_are

    missed : (asked : List Ui) → Missed asked v u → FoundNothingAt (past_of c) m.seat a asked (entries_made news)
    missed asked h = nothing-at asked h.acts (entries_made news) h.misses (acts-are h.acts h.appends) look-at

    gave : (earlier ports : List Ui) (q : Ui) (n : ℕ) (x : Message) (settled : _) → GivesAfter l earlier ports q (Reply.Taken n x settled) v u → FoundAfter (past_of c) m.seat a earlier ports q n x.id (entries_made news)
    gave earlier ports q n x settled h =
        let p = parts (entries_made news) h.acts (taken_acts q (Reply.Taken n x settled)) (acts-are (h.acts ++ taken_acts q (Reply.Taken n x settled)) h.appends) in
        let s = starts p.back (Act.Take q n x.id) (settled_acts x.tag settled) p.back_acts in
        let whole : entries_made news ≡ p.front ++ (s.first ∷ s.behind) = p.whole ∙ ap (λ zs. p.front ++ zs) s.whole in
        let take-look : Look s.first = look-at s.first (subst (λ zs. In s.first zs) (sym whole) (in-back s.first p.front (s.first ∷ s.behind) (inl refl))) in
        record {
          front = h.front;
          rest = h.rest;
          split = h.split;
          looks = p.front;
          take = s.first;
          behind = s.behind;
          entries = whole;
          nothing = nothing-at (earlier ++ h.front) h.acts p.front h.misses p.front_acts (λ e there. look-at e (subst (λ zs. In e zs) (sym p.whole) (in-front e p.front p.back there)));
          first = record { look = take-look.look; act = s.act; waited = (take-look.tells q).taken n x.id s.act };
        }

module _ (n : Nucleus) (w : Knowledge PlaceNote) (comers : List Comer) (c : Closed) (m : Note PlaceNote) (a : Ui) (shape : IsLayout (layout_of n)) (k : ClosesAs (layout_of n) w comers c) (noted : Contains (passes_of w) m) (who : actor_among comers m.seat ≡ Some a) (earlier ports : List Ui) (old new : Pass) (news : List (Placed PlaceNote))
    (b : MadeBetween (known old) (known new) news m) where
  stopped : (f : CallFault) → StopsAfter n earlier ports f old new → StoppedBehind (past_of c) m.seat a earlier ports (entries_made news)
  stopped f h = record {
    front = h.front;
    at = h.at;
    rest = h.rest;
    split = h.split;
    nothing = missed (layout_of n) w comers c m a shape k noted who (known old) (known h.between) news
        record { grown = sym h.fault.mine ∙ b.grown; later = b.later; goes_on = b.goes_on ∙ ap (λ zs. zs ++ b.later) h.fault.mine } (earlier ++ h.front) h.missed;
  }

  found : (r : Result Received CallFault) → IsReceive n earlier ports r old new → FoundBy (past_of c) m.seat a earlier ports r (entries_made news)
  found (Ok (receives.Empty looked)) h = missed (layout_of n) w comers c m a shape k noted who (known old) (known new) news b (earlier ++ ports) h.received.1
  found (Ok (receives.Taken q pos x settled)) h = gave (layout_of n) w comers c m a shape k noted who (known old) (known new) news b earlier ports q pos x settled h.received
  found (Err f) h = stopped f h.stopped

pub receives-told-what-waited : ReceivesToldWhatWaited
receives-told-what-waited n w comers c m a earlier ports r old new news shape k noted who h b =
    found n w comers c m a shape k noted who earlier ports old new news b r h
