-- What was closed, when a scenario was performed, plays it.
use Rattle.std.proofs.Common.{ℕ, zero, suc, ◌≡◌, ◌+◌, ◌<◌, ◌≤◌, ◌&&◌, inl, inr, nat_le, Bool, true, List, [], ◌∷◌, ◌++◌, length, reverse, take, Option, Some, None, unwrap_or, slice_get, slice_index_or, refl, sym, ◌∙◌, ap, subst, arith}
use Rattle.std.specs.List.{All, list_all}
use Rattle.std.specs.Option.{option_map}
use Rattle.std.proofs.lemmas.Bool.{and_parts, cases_lt, le-leb}
use Rattle.std.proofs.lemmas.Option.{slice_get-map}
use Rattle.std.proofs.lemmas.List.{append-nil, reverse-append, reverse-reverse, length-reverse}
use Rattle.std.proofs.Math.Seq.{take-append_seam}
use Rattle.std.proofs.lemmas.List.Elements.{All-nil, All-cons, All-head, All-tail, All-append}
use Rattle.chorus_ui.specs.declared.ui.Ui.{Ui}
use Rattle.chorus_ui.specs.declared.layout.Layout.{Layout}
use Rattle.chorus_ui.specs.Layout.{IsLayout, places, has_actor}
use Rattle.chorus_entry.specs.declared.command.Command.{Command}
use Rattle.chorus_entry.specs.declared.packet.Packet.{Packet}
use Rattle.chorus_ui.specs.NameKind.{is_actor}
use Rattle.chorus_world.specs.Views.{by}
use Rattle.chorus_world.specs.Runs.{is_run}
use Rattle.chorus_world.specs.Commands.{performs}
use Rattle.chorus_turn.specs.declared.knowledge.Note.{Note}
use Rattle.chorus_turn.specs.declared.knowledge.Placed.{Placed}
use Rattle.chorus_turn.specs.declared.knowledge.Knowledge.{Knowledge}
use Rattle.law_closing.specs.Places.{PlaceNote}
use Rattle.law_closing.specs.Closing.{IsPlace}
use Rattle.law_closing.specs.Remarks.{turns_at, turns_in}
use Rattle.law_closing.proofs.Seen.{all-seen}
use Rattle.law_history.specs.Counts.{put_count, got_count}
use Rattle.law_history.specs.Journals.{Comer, events}
use Rattle.law_history.specs.Runs.{commands_given, actor_among, merged_at, MergesAsARun, KeepsPromises}
use Rattle.law_history.proofs.Left.{counts-tell}
use Rattle.law_history.proofs.Listed.{schedules-leave-lists}
use Rattle.law_history.proofs.Merging.{journals-merge-as-a-run, journals-keep-promises}
use Rattle.law_network.specs.Calls.{first_actor}
use Rattle.law_network.specs.Network.{NetState, Event, schedule}
use Rattle.law_network.specs.Quiet.{IsQuiet}
use Rattle.chorus_net.specs.declared.closed.Closed.{Closed}
use Rattle.chorus_net.specs.Closing.{IsLeft, past_of}
use Rattle.chorus_show.specs.declared.status.Status.{Status}
use Rattle.chorus_scene.specs.declared.limits.TheConstants.{COMMANDS_LIMIT}
use Rattle.chorus_scene.specs.Scene.{Scene, Script}
use Rattle.chorus_report.specs.Setup.{setup_commands}
use Rattle.chorus_scene.specs.Limits.{Keeps, script_keeps, command_keeps, is_actor_of, is_site}
use Rattle.law_closing.specs.Actors.{AreIn, AreActors}
use Rattle.chorus_nucleus.specs.Closing.{ClosesAs, ClosesFor}
use Rattle.chorus_nucleus.specs.Rounds.{IsEven, turns_seen}
use Rattle.chorus_perform.specs.Scripts.{IsPerformedBy, IsOfScript, HasPerformed, PerformsSetup}
use Rattle.chorus_report.specs.Headline.{PerformsAll, PerformsFirst, Plays, callers_of, commands_by}
use Rattle.chorus_report.specs.Awaiting.{fronts_of}
use Rattle.chorus_report.proofs.Playing.{performs-none, past-is, plays-so}
use Rattle.chorus_report.proofs.Seating.{run-more, run-ungiven}
use Rattle.chorus_run.specs.Standing.{done_in}
use Rattle.chorus_run.proofs.Countings.{done-at, own-count}
use Rattle.chorus_run.proofs.Totals.{none-by-link, total-upto}

abbrev K : Type 0
K = Knowledge PlaceNote

-- The actors of the scenario.

abbrev actors_of : Scene → ℕ → Ui
actors_of c q = unwrap_or (callers_of c q) first_actor

all-get : {X : Type 0} (p : X → Bool) (xs : List X) (i : ℕ) (x : X) → list_all p xs ≡ true → slice_get xs i ≡ Some x → p x ≡ true
all-get p [] i x h found = absurd (cc)
all-get p (y ∷ xs) zero x h found = let is : y ≡ x = cc in ap p (sym is) ∙ (and_parts (p y) (list_all p xs) h).0
all-get p (y ∷ xs) (suc i) x h found = all-get p xs i x (and_parts (p y) (list_all p xs) h).1 found

first-there : (l : Layout) → IsLayout l → has_actor l first_actor ≡ true
first-there l shape =
    let low = shape.sites_from_one in
    let site : nat_le 1 l.sites ≡ true = le-leb 1 l.sites low in
    ap (λ b. b && true) (ap (λ b. b && true) site)

script-parts : (l : Layout) (version n : ℕ) (script : Script) → script_keeps l version n script ≡ true → (is_actor script.actor ≡ true) × (has_actor l script.actor ≡ true)
script-parts l version n script h =
    let few = and_parts (is_actor_of l n script.actor && nat_le (length script.commands) COMMANDS_LIMIT) (list_all (command_keeps l version n) script.commands) h in
    let who = and_parts (is_actor_of l n script.actor) (nat_le (length script.commands) COMMANDS_LIMIT) few.0 in
    and_parts (is_actor script.actor) (has_actor l script.actor) (and_parts (is_actor script.actor && has_actor l script.actor) (is_site n script.actor.site) who.0).0

actor-at : (c : Scene) (i : ℕ) (script : Script) → slice_get c.scripts i ≡ Some script → callers_of c (suc i) ≡ Some script.actor
actor-at c i script h =
    slice_get-map (λ (s : Script). s.actor) c.scripts i ∙ ap (option_map (λ (s : Script). s.actor)) h

commands-at : (c : Scene) (i : ℕ) (script : Script) → slice_get c.scripts i ≡ Some script → commands_by c (suc i) ≡ Some script.commands
commands-at c i script h =
    slice_get-map (λ (s : Script). s.commands) c.scripts i ∙ ap (option_map (λ (s : Script). s.commands)) h

actors-fit : (c : Scene) → IsLayout c.layout → Keeps c → (q : ℕ) → (is_actor (actors_of c q) ≡ true) × (has_actor c.layout (actors_of c q) ≡ true)
actors-fit c shape keeps zero = (refl, first-there c.layout shape)
actors-fit c shape keeps (suc i) = go (slice_get c.scripts i) refl
  where
    go : (o : Option Script) → slice_get c.scripts i ≡ o → (is_actor (actors_of c (suc i)) ≡ true) × (has_actor c.layout (actors_of c (suc i)) ≡ true)
    go None e =
        let is : actors_of c (suc i) ≡ first_actor = ap (λ (o : Option Ui). unwrap_or o first_actor) (slice_get-map (λ (s : Script). s.actor) c.scripts i ∙ ap (option_map (λ (s : Script). s.actor)) e) in
        (ap is_actor is, ap (has_actor c.layout) is ∙ first-there c.layout shape)
    go (Some script) e =
        let is : actors_of c (suc i) ≡ script.actor = ap (λ (o : Option Ui). unwrap_or o first_actor) (actor-at c i script e) in
        let fits = script-parts c.layout c.version c.sites script (all-get (script_keeps c.layout c.version c.sites) c.scripts i script keeps.scripts e) in
        (ap is_actor is ∙ fits.0, ap (has_actor c.layout) is ∙ fits.1)

-- The notes, the latest first, are of the scripts in their order.

All-reverse : {X : Type 0} (P : X → Type 0) (xs : List X) → All P xs → All P (reverse xs)
All-reverse P [] h = h
All-reverse P (x ∷ xs) h =
    subst (All P) (sym (reverse-append (x ∷ []) xs)) (All-append P (reverse xs) (x ∷ []) (All-reverse P xs (All-tail P x xs h)) (All-cons P x [] (All-head P x xs h) (All-nil P)))

at-index : {X : Type 0} (P : X → Type 0) (xs : List X) (i : ℕ) (x : X) → All P xs → slice_get xs i ≡ Some x → P x
at-index P [] i x h found = absurd (cc)
at-index P (y ∷ xs) zero x h found = let is : y ≡ x = cc in subst P is (All-head P y xs h)
at-index P (y ∷ xs) (suc i) x h found = at-index P xs i x (All-tail P y xs h) found

there-is : {X : Type 0} (xs : List X) (i : ℕ) → i < length xs → (x : X) × (slice_get xs i ≡ Some x)
there-is [] i lt = absurd (omega (arith, lt))
there-is (x ∷ xs) zero lt = (x, refl)
there-is (x ∷ xs) (suc i) lt = there-is xs i (omega (arith, lt))

pub inside : {X : Type 0} (xs : List X) (i : ℕ) (x : X) → slice_get xs i ≡ Some x → i < length xs
inside [] i x e = absurd (cc)
inside (y ∷ xs) zero x e = omega arith
inside (y ∷ xs) (suc i) x e = let ih = inside xs i x e in omega (arith, ih)

in-order : {X : Type 0} (P : X → Type 0) (xs : List X) → ((i : ℕ) (x : X) → slice_get xs i ≡ Some x → P x) → All P xs
in-order P [] h = All-nil P
in-order P (x ∷ xs) h = All-cons P x xs (h zero x refl) (in-order P xs (λ i y e. h (suc i) y e))

notes-in : (c : Scene) (all : Bool) (v : K) → HasPerformed all c v → All (λ (n : Note PlaceNote). AreIn (actors_of c n.seat) n.mine) v.notes
notes-in c all v h =
    subst (All (λ (n : Note PlaceNote). AreIn (actors_of c n.seat) n.mine)) (reverse-reverse v.notes)
    (All-reverse (λ (n : Note PlaceNote). AreIn (actors_of c n.seat) n.mine) (reverse v.notes)
    (in-order (λ (n : Note PlaceNote). AreIn (actors_of c n.seat) n.mine) (reverse v.notes) (λ i n e. one i n (h.scripts i n e))))
  where
    succ : (i : ℕ) → i + 1 ≡ suc i
    succ i = omega arith

    one : (i : ℕ) (n : Note PlaceNote) → IsOfScript all c i n → AreIn (actors_of c n.seat) n.mine
    one i n o =
        let is : o.script.actor ≡ actors_of c n.seat = sym (ap (λ (p : Option Ui). unwrap_or p first_actor) (ap (callers_of c) (o.seat ∙ succ i) ∙ actor-at c i o.script o.is)) in
        subst (λ actor. AreIn actor n.mine) is o.performed.within

pub are-actors : (c : Scene) (all : Bool) (v : K) → IsLayout c.layout → Keeps c → HasPerformed all c v → AreActors c.layout (actors_of c) v
are-actors c all v shape keeps h = record {
  own = subst (λ q. AreIn (actors_of c q) v.mine) (sym h.seat) h.setup.within;
  noted = notes-in c all v h;
  kinds = λ q lt. (actors-fit c shape keeps q).0;
  has = λ q lt. (actors-fit c shape keeps q).1;
}

module _ (c : Scene) (shape : IsLayout c.layout) (keeps : Keeps c) (all : Bool) (v : K) (h : HasPerformed all c v) (closed : Closed) (closes : ClosesFor c.layout v closed) where
  abbrev l : Layout
  l = c.layout

  abbrev comers : List Comer
  comers = (closes (actors_of c) (are-actors c all v shape keeps h)).0

  who : (q : ℕ) → q < v.made → actor_among comers q ≡ Some (actors_of c q)
  who = (closes (actors_of c) (are-actors c all v shape keeps h)).1

  abbrev so : ClosesAs c.layout v comers closed
  so = (closes (actors_of c) (are-actors c all v shape keeps h)).2

  kept : KeepsPromises l comers so.of_places so.of_seats so.closing
  kept = journals-keep-promises l comers so.of_places so.of_seats so.closing shape so.histories

  abbrev es : List Event
  es = events comers kept.turns

  abbrev n : NetState
  n = schedule l es

  is_left : IsLeft n closed
  is_left = so.is_left kept.turns kept.scheduled

  merges : MergesAsARun l comers so.of_seats so.closing
  merges = journals-merge-as-a-run l comers so.of_places so.of_seats so.closing shape so.histories

  -- the past by places, as the law of histories says it
  merged-is : past_of closed ≡ merged_at l so.closing
  merged-is = past-is l shape closed es kept.scheduled.may is_left ∙ kept.merge

  -- Who came.

  record Found (i : ℕ) : Type 0 where
    pub note : Note PlaceNote
    pub script : IsOfScript all c i note
    pub turns : so.of_seats (suc i) ≡ turns_in note.mine

  ended-by : (i : ℕ) → suc i < v.made → Found i
  ended-by i lt =
      let e = h.ended in
      let count = length-reverse v.notes in
      let found = there-is (reverse v.notes) i (omega (arith, lt, e, count)) in
      let one = h.scripts i found.0 found.1 in
      record {
        note = found.0;
        script = one;
        turns = ap so.of_seats (sym (one.seat ∙ succ i)) ∙ at-index (λ (m : Note PlaceNote). so.of_seats m.seat ≡ turns_in m.mine) (reverse v.notes) i found.0 (All-reverse (λ (m : Note PlaceNote). so.of_seats m.seat ≡ turns_in m.mine) v.notes so.noted) found.1;
      }
    where
      succ : (i : ℕ) → i + 1 ≡ suc i
      succ i = omega arith

  given-in : (q : ℕ) → q < v.made → callers_of c q ≡ Some (actors_of c q)
  given-in zero lt = refl
  given-in (suc i) lt =
      let one = (ended-by i lt).script in
      let is : callers_of c (suc i) ≡ Some one.script.actor = actor-at c i one.script one.is in
      is ∙ ap (λ (o : Option Ui). Some (unwrap_or o first_actor)) (sym is)

  nobody : (q : ℕ) → v.made ≤ q → actor_among comers q ≡ None
  nobody q le = ap (option_map (λ (x : Comer). x.actor)) (beyond comers q (omega (arith, so.count, le)))
    where
      beyond : (xs : List Comer) (q : ℕ) → length xs ≤ q → slice_get xs q ≡ None
      beyond [] q le = refl
      beyond (x ∷ xs) zero le = absurd (omega (arith, le))
      beyond (x ∷ xs) (suc q) le = beyond xs q (omega (arith, le))

  who-in : (q : ℕ) (a : Ui) → actor_among comers q ≡ Some a → callers_of c q ≡ Some a
  who-in q a is = elim (cases_lt q v.made) [
    | inl lt ↦ given-in q lt ∙ sym (who q lt) ∙ is
    | inr le ↦ absurd (let bad : None ≡ Some a = sym (nobody q le) ∙ is in cc)
  ]

  runs : is_run l (callers_of c) (past_of closed) ≡ true
  runs =
      ap (is_run l (callers_of c)) merged-is ∙ run-more l (actor_among comers) (callers_of c) who-in (merged_at l so.closing) merges.run

  -- What was performed.

  performed-by : (q : ℕ) (actor : Ui) → actor_among comers q ≡ Some actor → performs l q actor (past_of closed) (reverse (commands_given (so.of_seats q))) ≡ true
  performed-by q actor is =
      ap (λ past. performs l q actor past (reverse (commands_given (so.of_seats q)))) merged-is ∙ merges.performed q actor is

  -- what of its commands a seat performed, and which are left
  record Did (q : ℕ) (actor : Ui) (given : List Command) : Type 0 where
    pub done : List Command
    pub left : List Command
    pub whole : given ≡ done ++ left
    pub performs_them : PerformsAll l q actor closed done
    pub none_left : all ≡ true → left ≡ []

  some-of : {X : Type 0} (x y : X) → Some x ≡ Some y → x ≡ y
  some-of x y e = cc

  did-made : (q : ℕ) (actor who_ : Ui) (given commands : List Command) (mine : List (Placed PlaceNote)) → so.of_seats q ≡ turns_in mine → IsPerformedBy all who_ commands mine → commands ≡ given → actor_among comers q ≡ Some actor → Did q actor given
  did-made q actor who_ given commands mine turns made same came = record {
    done = commands_given (turns_in mine);
    left = made.left;
    whole = sym same ∙ made.whole;
    performs_them = ap (λ us. performs l q actor (past_of closed) (reverse (commands_given us))) (sym turns) ∙ performed-by q actor came;
    none_left = made.none_left;
  }

  did : (q : ℕ) (actor : Ui) (given : List Command) → callers_of c q ≡ Some actor → commands_by c q ≡ Some given → Did q actor given
  did zero actor given is what =
      let came : actor_among comers 0 ≡ Some actor = who 0 (omega (arith, h.ended)) ∙ is in
      did-made 0 actor first_actor given (setup_commands c) v.mine (ap so.of_seats (sym h.seat) ∙ so.mine) h.setup (some-of (setup_commands c) given what) came
  did (suc i) actor given is what = elim (cases_lt (suc i) v.made) [
    | inl lt ↦
        (let found = ended-by i lt in
        let one = found.script in
        let came : actor_among comers (suc i) ≡ Some actor = who (suc i) lt ∙ sym (given-in (suc i) lt) ∙ is in
        did-made (suc i) actor one.script.actor given one.script.commands found.note.mine found.turns one.performed (some-of one.script.commands given (sym (commands-at c i one.script one.is) ∙ what)) came)
    | inr le ↦ record {
      done = [];
      left = given;
      whole = refl;
      performs_them = performs-none l (suc i) actor (past_of closed) (ap (by (suc i)) merged-is ∙ run-ungiven l (actor_among comers) (suc i) (merged_at l so.closing) merges.run (nobody (suc i) le));
      none_left = λ t. absurd (let beyond = too-many t le in let there = within (slice_get c.scripts i) refl (sym (slice_get-map (λ (s : Script). s.actor) c.scripts i) ∙ is) in omega (arith, beyond, there));
    }
  ]
    where
      too-many : all ≡ true → v.made ≤ suc i → length c.scripts ≤ i
      too-many t le = let count = h.count t in let e = h.ended in omega (arith, count, e, le)

      within : (o : Option Script) → slice_get c.scripts i ≡ o → option_map (λ (s : Script). s.actor) o ≡ Some actor → i < length c.scripts
      within None e none = absurd (cc)
      within (Some x) e some = inside c.scripts i x e

  performs-first : (q : ℕ) (actor : Ui) (given : List Command) → callers_of c q ≡ Some actor → commands_by c q ≡ Some given → PerformsFirst l q actor closed given
  performs-first q actor given is what = let d = did q actor given is what in (d.done, (d.left, (d.whole, d.performs_them)))

  -- So many of its commands were done.

  abbrev counts : List ℕ
  counts = done_in c (past_of closed)

  counted : (i : ℕ) (actor : Ui) (given : List Command) (d : Did (suc i) actor given) → i < length c.scripts → slice_index_or counts i 0 ≡ length d.done
  counted i actor given d lt = done-at c (past_of closed) i lt ∙ own-count l (suc i) actor (past_of closed) d.done d.performs_them

  front-is : (i : ℕ) (actor : Ui) (given : List Command) (d : Did (suc i) actor given) → i < length c.scripts → d.done ≡ take (slice_index_or counts i 0) given
  front-is i actor given d lt =
      sym (ap (take (slice_index_or counts i 0)) d.whole ∙ ap (λ m. take m (d.done ++ d.left)) (counted i actor given d lt) ∙ take-append_seam d.done d.left)

  -- the script with these commands was done so far
  performs-front : (i : ℕ) (actor : Ui) (script : Script) → callers_of c (suc i) ≡ Some actor → slice_get c.scripts i ≡ Some script → PerformsAll l (suc i) actor closed (take (slice_index_or counts i 0) script.commands)
  performs-front i actor script is at =
      let d = did (suc i) actor script.commands is (commands-at c i script at) in
      subst (PerformsAll l (suc i) actor closed) (front-is i actor script.commands d (inside c.scripts i script at)) d.performs_them

  -- each front of a script, where what is so of it is so of the setup
  of-fronts : (P : ℕ → Ui → List Command → Type 0) → ((actor : Ui) → callers_of c 0 ≡ Some actor → P 0 actor (setup_commands c))
      → ((i : ℕ) (actor : Ui) (script : Script) → callers_of c (suc i) ≡ Some actor → slice_get c.scripts i ≡ Some script → P (suc i) actor (take (slice_index_or counts i 0) script.commands))
      → (q : ℕ) (actor : Ui) (given : List Command) → callers_of c q ≡ Some actor → fronts_of c counts q ≡ Some given → P q actor given
  of-fronts P first each zero actor given is what = subst (P 0 actor) (some-of (setup_commands c) given what) (first actor is)
  of-fronts P first each (suc i) actor given is what = go (slice_get c.scripts i) refl what
    where
      go : (o : Option Script) → slice_get c.scripts i ≡ o → option_map (λ (script : Script). take (slice_index_or counts i 0) script.commands) o ≡ Some given → P (suc i) actor given
      go None e k = absurd (cc)
      go (Some script) e k = subst (P (suc i) actor) (some-of (take (slice_index_or counts i 0) script.commands) given k) (each i actor script is e)

  first-fronts : (q : ℕ) (actor : Ui) (given : List Command) → callers_of c q ≡ Some actor → fronts_of c counts q ≡ Some given → PerformsFirst l q actor closed given
  first-fronts =
      of-fronts (λ q actor given. PerformsFirst l q actor closed given) (λ actor is. performs-first 0 actor (setup_commands c) is refl)
      (λ i actor script is at. (take (slice_index_or counts i 0) script.commands, ([], (sym (append-nil (take (slice_index_or counts i 0) script.commands)), performs-front i actor script is at))))

  pub plays-first : (clock : ℕ) → Plays l (callers_of c) (fronts_of c counts) (Status.Worn clock) closed
  plays-first clock =
      plays-so l shape closed es kept.scheduled.may is_left (callers_of c) (fronts_of c counts) (Status.Worn clock) runs first-fronts tt

  -- where all was performed, all commands of a script were done
  pub all-done : all ≡ true → (i : ℕ) (script : Script) → slice_get c.scripts i ≡ Some script → slice_index_or counts i 0 ≡ length script.commands
  all-done t i script at =
      let d = did (suc i) script.actor script.commands (actor-at c i script at) (commands-at c i script at) in
      counted i script.actor script.commands d (inside c.scripts i script at)
      ∙ ap (λ (cs : List Command). length cs) (sym (append-nil d.done) ∙ ap (λ cs. d.done ++ cs) (sym (d.none_left t)) ∙ sym d.whole)

  -- Where nothing is left, and the setup was performed.

  module _ (even : IsEven c.layout v) (setup : PerformsSetup c v.mine) where
    performs-setup : (actor : Ui) → callers_of c 0 ≡ Some actor → PerformsAll l 0 actor closed (setup_commands c)
    performs-setup actor is =
        let came : actor_among comers 0 ≡ Some actor = who 0 (omega (arith, h.ended)) ∙ is in
        let turns : so.of_seats 0 ≡ turns_in v.mine = ap so.of_seats (sym h.seat) ∙ so.mine in
        let whole : setup_commands c ≡ commands_given (turns_in v.mine) = setup.whole ∙ ap (λ cs. commands_given (turns_in v.mine) ++ cs) (setup.none_left refl) ∙ append-nil (commands_given (turns_in v.mine)) in
        subst (PerformsAll l 0 actor closed) (sym whole) (ap (λ us. performs l 0 actor (past_of closed) (reverse (commands_given us))) (sym turns) ∙ performed-by 0 actor came)

    fronts : (q : ℕ) (actor : Ui) (given : List Command) → callers_of c q ≡ Some actor → fronts_of c counts q ≡ Some given → PerformsAll l q actor closed given
    fronts = of-fronts (λ q actor given. PerformsAll l q actor closed given) performs-setup performs-front

    same-turns : (p : ℕ) → p < places l → so.of_places (p + 1) ≡ turns_seen v (p + 1)
    same-turns p lt =
        let is : IsPlace (places l) (p + 1) = (omega arith, omega (arith, lt)) in
        so.made (p + 1) is ∙ ap (turns_at (p + 1)) (all-seen (places l) so.log v so.tells even.seen (p + 1) is)

    no-links : (a b : ℕ) → so.closing.links a b ≡ []
    no-links =
        (counts-tell l comers so.of_places so.of_seats so.closing shape so.histories).even
        (total-upto (places l) (λ k. put_count (so.of_places (k + 1))) (λ k. put_count (turns_seen v (k + 1))) (λ k lt. ap put_count (same-turns k lt))
        ∙ even.even
        ∙ sym (total-upto (places l) (λ k. got_count (so.of_places (k + 1))) (λ k. got_count (turns_seen v (k + 1))) (λ k lt. ap got_count (same-turns k lt))))

    no-rest : closed.rest.items ≡ []
    no-rest =
        is_left.rest ∙ (schedules-leave-lists l comers so.of_places so.of_seats so.closing kept.turns shape kept.scheduled).packets
        ∙ none-by-link (places l) so.closing.links no-links

    rests : IsQuiet l (past_of closed) closed.rest.items
    rests =
        subst (λ past. IsQuiet l past closed.rest.items) (sym merged-is)
        (subst (λ (rest : List Packet). IsQuiet l (merged_at l so.closing) rest) (sym no-rest) (merges.quiet no-links))

    pub plays-done : Plays l (callers_of c) (fronts_of c counts) Status.Done closed
    plays-done = plays-so l shape closed es kept.scheduled.may is_left (callers_of c) (fronts_of c counts) Status.Done runs fronts rests

    pub plays-write : Plays l (callers_of c) (fronts_of c counts) Status.WriteFault closed
    plays-write = plays-so l shape closed es kept.scheduled.may is_left (callers_of c) (fronts_of c counts) Status.WriteFault runs fronts rests
