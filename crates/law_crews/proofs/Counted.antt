-- The numbers of a crew are those of what was sent.
-- n is the nucleus, l its layout, s a site and the seat of the pass that takes there, q its port, v what the closing pass
-- knows.
use Rattle.std.proofs.Common.{ℕ, zero, suc, ◌≡◌, ◌+◌, ◌%◌, ◌^◌, ◌<◌, ◌≤◌, ◌⊎◌, inl, inr, true, ◌&&◌, min, nat_le, List, [], ◌∷◌, ◌++◌, append_assoc, length, map, reverse, take, sum, Some, refl, sym, ◌∙◌, ap, ap₂, subst, arith}
use Rattle.std.specs.List.{All}
use Rattle.std.proofs.lemmas.Bool.{and_from, le-leb}
use Rattle.std.proofs.lemmas.List.{length-map, reverse-append}
use Rattle.std.proofs.lemmas.List.Elements.{All-nil, All-cons, All-head, All-tail, All-weaker, All-map}
use Rattle.std.proofs.lemmas.List.Sums.{sum_by-cons}
use Rattle.chorus_ui.specs.declared.ui.Ui.{Ui}
use Rattle.chorus_ui.specs.declared.layout.Layout.{Layout}
use Rattle.chorus_ui.specs.Layout.{IsLayout, has_actor}
use Rattle.chorus_ui.specs.NameKind.{is_actor}
use Rattle.chorus_calls.specs.Callers.{Seated}
use Rattle.chorus_entry.specs.declared.entry.Entry.{Entry}
use Rattle.chorus_entry.specs.declared.message.Message.{Message}
use Rattle.chorus_entry.specs.declared.act.Act.{Act}
use Rattle.chorus_entry.specs.declared.command.Command.{Command}
use Rattle.chorus_world.specs.Views.{by}
use Rattle.chorus_world.specs.AcceptedLaws.{received}
use Rattle.chorus_world.specs.Steps.{is_legal}
use Rattle.chorus_world.proofs.Moments.{legal-older}
use Rattle.chorus_world.proofs.Sorted.Holders.{run_is_legal}
use Rattle.law_history.specs.Journals.{Comer}
use Rattle.law_history.specs.Runs.{actor_among, commands_given}
use Rattle.law_replies.specs.AsPosted.{IsAsPosted}
use Rattle.law_replies.proofs.AsPosted.{IsPostOf, post-of}
use Rattle.law_closing.specs.Actors.{AreActors, AreIn}
use Rattle.chorus_turn.specs.declared.knowledge.Knowledge.{Knowledge}
use Rattle.chorus_turn.specs.declared.knowledge.Note.{Note}
use Rattle.law_closing.specs.Places.{PlaceNote}
use Rattle.law_history.specs.Histories.{Follows}
use Rattle.law_history.specs.PlaceTurns.{machine}
use Rattle.law_closing.specs.Remarks.{turns_in}
use Rattle.chorus_net.specs.declared.closed.Closed.{Closed}
use Rattle.chorus_nucleus.specs.declared.nucleus.Nucleus.{Nucleus}
use Rattle.chorus_nucleus.specs.declared.pass.Pass.{Pass}
use Rattle.chorus_nucleus.specs.Passes.{caller_of, known, layout_of}
use Rattle.chorus_nucleus.specs.Closing.{ClosesAs, IsClosed}
use Rattle.chorus_nucleus.specs.declared.taken_message.TakenMessage.{TakenMessage}
use Rattle.chorus_nucleus.specs.Taking.{HasOrigin, IsMiss}
use Rattle.chorus_nucleus.specs.Answers.{reply_with}
use Rattle.chorus_crew.specs.declared.handler.Handled.{Handled}
use Rattle.chorus_crew.specs.Handling.{took_acts, worth as total_worth}
use Rattle.chorus_crew.specs.Crews.{AreHandled, IsHandled}
use Rattle.law_filled.specs.Filled.{ids, messages_to}
use Rattle.law_emptied.specs.Crewed.{AreWithin, EndsInVain, Sending, TookWhatWasSentFirst, actor_on, bodies_to, makes_down, place_on, port_on, script, send_of}
use Rattle.law_emptied.proofs.Taking.{takers-get-what-was-sent-first}
use Rattle.law_crews.specs.Crewed as taking
use Rattle.law_crews.proofs.Crewed.{closed-merges-as-crewed}
use Rattle.chorus_nucleus.proofs.Posted.{messages-taken-were-posted}
use Rattle.law_crews.specs.Crews.{AreCounted, CrewsCountWhatWasSent, HasCrewed, IsActorOf, IsByBody, IsCounted, pairs_from}
use Rattle.law_crews.proofs.Acts.{EndsWith, all-posted, ends-with, entry-acts, handled-acts, handled-ids, messages, same-messages}

-- What they are worth.

abbrev bodies : List Message → List (List ℕ)
bodies ms = map (λ (m : Message). m.body) ms

worth-is : (value : Ui → ℕ → Message → ℕ) (worth : List ℕ → ℕ) (q : Ui) (ts : List TakenMessage) → IsByBody value worth → total_worth value q ts ≡ sum (map worth (bodies (messages ts)))
worth-is value worth q [] is = refl
worth-is value worth q (t ∷ ts) is =
    ap₂ (λ j k. j + k) (is q t.position t.message) (worth-is value worth q ts is) ∙ sym (sum_by-cons (λ x. x) (worth t.message.body) (map worth (bodies (messages ts))))

take-map : {X Y : Type 0} (f : X → Y) (k : ℕ) (xs : List X) → take k (map f xs) ≡ map f (take k xs)
take-map f zero xs = refl
take-map f (suc k) [] = refl
take-map f (suc k) (x ∷ xs) = ap (λ zs. f x ∷ zs) (take-map f k xs)

length-take : {X : Type 0} (k : ℕ) (xs : List X) → length (take k xs) ≡ min k (length xs)
length-take zero xs = omega arith
length-take (suc k) [] = omega arith
length-take (suc k) (x ∷ xs) = let ih = length-take k xs in omega (arith, ih)

all-take : {X : Type 0} (P : X → Type 0) (k : ℕ) (xs : List X) → All P xs → All P (take k xs)
all-take P zero xs a = All-nil P
all-take P (suc k) [] a = All-nil P
all-take P (suc k) (x ∷ xs) a = All-cons P x (take k xs) (All-head P x xs a) (all-take P k xs (All-tail P x xs a))

-- The passes of the crew.

takers : (value : Ui → ℕ → Message → ℕ) (l : Layout) (v : Knowledge PlaceNote) (clock s k : ℕ) (notes : List (Note PlaceNote)) (handled : List Handled) → AreHandled value l v clock s (pairs_from s k) notes handled
    → taking.AreTakers l clock s notes × (length notes ≡ k)
takers value l v clock s zero [] [] h = (tt, refl)
takers value l v clock s zero [] (x ∷ handled) h = absurd h
takers value l v clock s zero (m ∷ notes) handled h = absurd h
takers value l v clock s (suc k) [] handled h = absurd h
takers value l v clock s (suc k) (m ∷ notes) [] h = absurd h
takers value l v clock s (suc k) (m ∷ notes) (x ∷ handled) h =
    let rest = takers value l v clock (s + 1) k notes handled h.3 in
    ((h.0, h.1, handled-acts value l v (port_on s) m.mine x h.2, rest.0), ap suc rest.1)

abbrev actors : Ui → ℕ → Ui
actors a zero = a
actors a (suc q) = actor_on (suc q)

actors-are : (a : Ui) (s : ℕ) → 1 ≤ s → actors a s ≡ actor_on s
actors-are a zero low = absurd (omega (arith, low))
actors-are a (suc s) low = refl

has-one : (l : Layout) (s : ℕ) → 1 ≤ s → s ≤ l.sites → has_actor l (actor_on s) ≡ true
has-one l s low high = ap (λ b. b && true && true) (and_from (nat_le 1 s) (nat_le s l.sites) (le-leb 1 s low) (le-leb s l.sites high))

are-there : (l : Layout) (a : Ui) (k q : ℕ) → IsActorOf l a → k ≤ l.sites → q < k + 1 → (is_actor (actors a q) ≡ true) × (has_actor l (actors a q) ≡ true)
are-there l a k zero is sites lt = is
are-there l a k (suc q) is sites lt = (refl, has-one l (suc q) (omega arith) (omega (arith, sites, lt)))

noted-in : (l : Layout) (a : Ui) (clock s : ℕ) (notes : List (Note PlaceNote)) → 1 ≤ s → taking.AreTakers l clock s notes → All (λ (m : Note PlaceNote). AreIn (actors a m.seat) m.mine) notes
noted-in l a clock s [] low t = All-nil (λ (m : Note PlaceNote). AreIn (actors a m.seat) m.mine)
noted-in l a clock s (m ∷ notes) low t =
    All-cons (λ (z : Note PlaceNote). AreIn (actors a z.seat) z.mine) m notes
    (subst (λ z. AreIn z m.mine) (sym (ap (actors a) t.0 ∙ actors-are a s low)) t.1.within) (noted-in l a clock (s + 1) notes (omega arith) t.3)

none-cons : {X : Type 0} (xs ys : List X) (y : X) → xs ≡ reverse (ys ++ y ∷ []) → xs ≡ [] → ⊥
none-cons xs ys y is none = (let bad : [] ≡ y ∷ reverse ys = sym none ∙ is ∙ reverse-append ys (y ∷ []) in cc)

-- a script with a port ends, in a list with the latest first, with that of the first site
record HasFirst (cs : List Command) : Type 0 where
  front : List Command
  first : Command
  is : cs ≡ front ++ first ∷ []

made-first : (room k : ℕ) → 1 ≤ k → HasFirst (makes_down room k)
made-first room zero low = absurd (omega (arith, low))
made-first room (suc zero) low = record { front = []; first = Command.Make (actor_on 1) room; is = refl }
made-first room (suc (suc k)) low =
    let h = made-first room (suc k) (omega arith) in
    record { front = Command.Make (actor_on (suc (suc k))) room ∷ h.front; first = h.first; is = ap (λ cs. Command.Make (actor_on (suc (suc k))) room ∷ cs) h.is }

script-first : (room k : ℕ) (later : List Sending) → 1 ≤ k → HasFirst (script room k later)
script-first room k later low =
    let h = made-first room k low in
    record { front = map send_of later ++ h.front; first = h.first; is = ap (λ cs. map send_of later ++ cs) h.is ∙ sym (append_assoc (map send_of later) h.front (h.first ∷ [])) }

module _ (value : Ui → ℕ → Message → ℕ) (worth : List ℕ → ℕ) (n : Nucleus) (actor : Ui) (room k : ℕ) (later : List Sending) (handled : List Handled) (p : Pass) (closed : Closed) (is-worth : IsByBody value worth) (of-layout : IsActorOf (layout_of n) actor) (some : 1 ≤ k) (sites : k ≤ (layout_of n).sites)
    (within : AreWithin k later) (is-closed : IsClosed n p closed) (h : HasCrewed value n actor room k later handled p) where
  abbrev l : Layout
  l = layout_of n

  abbrev v : Knowledge PlaceNote
  v = known p

  abbrev clock : ℕ
  clock = (caller_of h.before).last

  shape : IsLayout l
  shape = is-closed.shape

  took-all : taking.AreTakers l clock 1 v.notes × (length v.notes ≡ k)
  took-all = takers value l v clock 1 k v.notes handled h.handled_is

  are-actors : AreActors l (actors actor) v
  are-actors = record {
    own = subst (λ q. AreIn q v.mine) (sym (ap (actors actor) h.seat ∙ first-is)) h.within;
    noted = noted-in l actor clock 1 v.notes (omega arith) took-all.0;
    kinds = λ q lt. (are-there l actor k q of-layout sites (let e = h.ended in omega (arith, lt, e, took-all.1))).0;
    has = λ q lt. (are-there l actor k q of-layout sites (let e = h.ended in omega (arith, lt, e, took-all.1))).1;
  }
    where
      first-is : actors actor 0 ≡ actor
      first-is = refl

  abbrev comers : List Comer
  comers = (is-closed.for_actors (actors actor) are-actors).0

  who : (q : ℕ) → q < v.made → actor_among comers q ≡ Some (actors actor q)
  who = (is-closed.for_actors (actors actor) are-actors).1

  closes : ClosesAs l v comers closed
  closes = (is-closed.for_actors (actors actor) are-actors).2

  crewed : taking.HasTakers l v (known h.before) clock room later
  crewed = record {
    seat = h.seat;
    gave_is = h.performed ∙ ap (λ c. reverse (script room c later)) (sym took-all.1);
    some = λ none. (let s = script-first room k later some in none-cons (commands_given (turns_in v.mine)) s.front s.first (h.performed ∙ ap reverse s.is) (ap commands_given none));
    first = h.was.caller.thread.first;
    last = h.was.caller.thread.last;
    follows = subst (λ mine. Follows (machine l) h.was.caller.thread.first (turns_in mine) h.was.caller.thread.last) h.settled.mine h.was.caller.thread.follows;
    upto = (let e = ap (λ (w : Seated). w.last) h.was.caller.last in omega (arith, e));
    settled = h.settled;
    takers = took-all.0;
  }

  came : taking.CameSo comers actor (length v.notes)
  came = record {
    first_is = who 0 (let e = h.ended in omega (arith, e)) ∙ first-is;
    others = λ s low high. who s (let e = h.ended in omega (arith, high, e)) ∙ ap (λ a. Some a) (actors-are actor s low);
  }
    where
      first-is : Some (actors actor 0) ≡ Some actor
      first-is = refl

  merges : taking.MergesAsCrewed l v comers closed room later
  merges =
      closed-merges-as-crewed l v (known h.before) comers closed clock room later actor shape closes crewed came h.ended (let e = took-all.1 in omega (arith, e, sites))
      (subst (λ c. AreWithin c later) (sym took-all.1) within)

  abbrev past : List Entry
  past = merges.newer ++ merges.older

  legal : is_legal l past ≡ true
  legal = run_is_legal l (actor_among comers) past merges.crewed.run

  -- at one port
  module _ (s : ℕ) (low : 1 ≤ s) (high : s ≤ k) (m : Note PlaceNote) (x : Handled) (is : IsHandled value l v (port_on s) m.mine x) (mine : by s merges.newer ≡ reverse (taking.entries_made m.mine)) (places-are : All (λ (e : Entry). e.place ≡ place_on l s) (by s merges.newer)) where
    abbrev q : Ui
    q = port_on s

    abbrev ms : List Message
    ms = messages_to q merges.older

    ending : EndsWith (taking.entries_made m.mine) is.last
    ending = ends-with (taking.entries_made m.mine) (took_acts q is.took) is.last (entry-acts m.mine ∙ is.acts)

    turned : by s merges.newer ≡ ending.last ∷ reverse ending.front
    turned = mine ∙ ap reverse ending.is ∙ reverse-append ending.front (ending.last ∷ [])

    vain : (a : Act) → ending.last.act ≡ a → IsMiss q a → (ending.last.act ≡ Act.Empty q) ⊎ (ending.last.act ≡ Act.NotHere q)
    vain a e (inl z) = inl (e ∙ z)
    vain a e (inr z) = inr (e ∙ z)

    in-vain : EndsInVain l (actor_among comers) s (by s merges.newer)
    in-vain = record {
      last = ending.last;
      rest = reverse ending.front;
      is = turned;
      vain = vain is.last ending.act is.missed;
      place = All-head (λ (e : Entry). e.place ≡ place_on l s) ending.last (reverse ending.front) (subst (All (λ (e : Entry). e.place ≡ place_on l s)) turned places-are);
      who = came.others s low (let e = took-all.1 in omega (arith, high, e));
    }

    first-sent : TookWhatWasSentFirst room s later merges.older (by s merges.newer)
    first-sent =
        takers-get-what-was-sent-first l (actor_among comers) room (length v.notes) later merges.newer merges.older s merges.crewed low (let e = took-all.1 in omega (arith, high, e)) in-vain

    same-ids : ids (messages is.took) ≡ ids (take room ms)
    same-ids =
        sym (handled-ids q m.mine is.took is.last is.acts is.missed) ∙ ap received (sym mine) ∙ first-sent.ids_are
        ∙ take-map (λ (z : Message). z.id) room ms

    given-posted : All (λ (z : Message). IsPostOf z past) (messages is.took)
    given-posted =
        All-map (λ (z : Message). IsPostOf z past) (λ (t : TakenMessage). t.message) is.took
        (All-weaker (λ (t : TakenMessage). HasOrigin l q (reply_with t) v) (λ (t : TakenMessage). IsPostOf t.message past)
        (λ t o. post-of l past t.message legal (subst (IsAsPosted t.message) merges.whole (messages-taken-were-posted l v comers closed q t.position t.message t.settled shape closes o))) is.took is.given)

    sent-posted : All (λ (z : Message). IsPostOf z past) (take room ms)
    sent-posted =
        all-take (λ (z : Message). IsPostOf z past) room ms
        (All-weaker (λ (z : Message). IsAsPosted z past) (λ (z : Message). IsPostOf z past) (λ z posted. post-of l past z legal posted) ms (all-posted l merges.newer merges.older q (legal-older l merges.newer merges.older legal)))

    same : messages is.took ≡ take room ms
    same = same-messages past (messages is.took) (take room ms) given-posted sent-posted same-ids

    worth-so : total_worth value q is.took ≡ sum (map worth (take room (bodies_to s later)))
    worth-so =
        worth-is value worth q is.took is-worth ∙ ap (λ zs. sum (map worth (bodies zs))) same
        ∙ ap (λ zs. sum (map worth zs)) (sym (take-map (λ (z : Message). z.body) room ms) ∙ ap (take room) first-sent.bodies_are)

    counted-one : IsCounted worth room (bodies_to s later) x
    counted-one = record {
      count =
          let number = is.counts.number in
          let a : length (messages is.took) ≡ length is.took = length-map is.took (λ (t : TakenMessage). t.message) in
          let b : length (messages is.took) ≡ min room (length ms) = ap length same ∙ length-take room ms in
          let c : length (bodies ms) ≡ length ms = length-map ms (λ (z : Message). z.body) in
          let d : length (bodies ms) ≡ length (bodies_to s later) = ap length first-sent.bodies_are in
          number ∙ sym a ∙ b ∙ ap (min room) (sym c ∙ d);
      total = is.counts.sum ∙ ap (λ z. z % 2 ^ 64) worth-so;
    }

  counted-from : (s count : ℕ) (notes : List (Note PlaceNote)) (xs : List Handled) → 1 ≤ s → s + count ≤ k + 1 → AreHandled value l v clock s (pairs_from s count) notes xs → taking.AreTheirs l s notes merges.newer → AreCounted worth room later s xs
  counted-from s zero [] [] low high a t = tt
  counted-from s zero [] (x ∷ xs) low high a t = absurd a
  counted-from s zero (m ∷ notes) xs low high a t = absurd a
  counted-from s (suc count) [] xs low high a t = absurd a
  counted-from s (suc count) (m ∷ notes) [] low high a t = absurd a
  counted-from s (suc count) (m ∷ notes) (x ∷ xs) low high a t =
      (counted-one s low (omega (arith, high)) m x a.2 t.0 t.1, counted-from (s + 1) count notes xs (omega arith) (omega (arith, high)) a.3 t.2)

  pub all-counted : AreCounted worth room later 1 handled
  all-counted = counted-from 1 k v.notes handled (omega arith) (omega arith) h.handled_is merges.theirs

pub crews-count-what-was-sent : CrewsCountWhatWasSent
crews-count-what-was-sent value worth n actor room k later handled p closed is-worth of-layout some sites within is-closed h = all-counted value worth n actor room k later handled p closed is-worth of-layout some sites within is-closed h
