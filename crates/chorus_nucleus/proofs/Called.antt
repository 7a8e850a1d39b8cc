-- What a call of a nucleus did, from what its turn did.
-- l is the layout, p the place, d the desk before the turn, s its state, v and u what the pass knows before and after, w and x its
-- caller before and after.
use Rattle.std.proofs.Common.{ℕ, ◌≡◌, ◌<◌, ◌≤◌, ◌-◌, ◌^◌, nat_le, min, true, List, [], reverse, Option, Some, None, Result, Ok, Err, IfOk, IfErr, OnErr, refl, sym, ◌∙◌, ap, subst, inl, inr}
use Rattle.std.specs.declared.snapshot.Snapshot.{Snapshot}
use Rattle.chorus_ui.specs.declared.limits.TheConstants.{CLOCK_LIMIT}
use Rattle.std.proofs.lemmas.List.{append-nil}
use Rattle.std.proofs.lemmas.Bool.{and_parts, leb-true}
use Rattle.chorus_ui.specs.declared.layout.Layout.{Layout}
use Rattle.chorus_ui.specs.Layout.{places, has_place}
use Rattle.chorus_entry.specs.declared.command.Command.{Command}
use Rattle.chorus_entry.specs.declared.packet.Packet.{Packet}
use Rattle.chorus_world.specs.Places.{last_clock}
use Rattle.chorus_calls.specs.Callers.{Seated}
use Rattle.law_machine.specs.declared.reply.Reply.{Reply}
use Rattle.law_machine.specs.PlaceState.{PlaceState, started, greatest_clock}
use Rattle.law_machine.specs.PlaceMachine.{begun}
use Rattle.law_machine.specs.Replies.{reply}
use Rattle.chorus_place.specs.Calls.{Place, state}
use Rattle.chorus_place.specs.declared.fault.PlaceFault.{PlaceFault}
use Rattle.chorus_place.specs.declared.fault.PlaceFault.TheVariants as faults
use Rattle.chorus_serve.specs.declared.served.Pump.{Pump}
use Rattle.chorus_serve.specs.declared.served.Pump.TheVariants as pumps
use Rattle.chorus_serve.specs.Desks.{DeskState}
use Rattle.chorus_serve.specs.Serving.{AreEmptied}
use Rattle.chorus_ruled_ends.specs.Ruled.{Ruled}
use Rattle.chorus_turn.specs.declared.turns.Busy.{Busy}
use Rattle.chorus_turn.specs.declared.knowledge.Remarked.{Remarked}
use Rattle.chorus_turn.specs.declared.knowledge.Knowledge.{Knowledge}
use Rattle.chorus_turn.specs.Journals.{entries_of}
use Rattle.chorus_turn.specs.Knowing.{Shows, after_turn, after_refusal}
use Rattle.chorus_turn.specs.Calls.{IsMarkAt, Worked, FoundBusy}
use Rattle.chorus_turn.specs.Passes as turns
use Rattle.law_history.specs.declared.turns.Input.{Input}
use Rattle.law_history.specs.Counts.{put_count, got_count}
use Rattle.law_history.specs.Histories.{Takes}
use Rattle.law_history.specs.PlaceTurns.{may_take, machine, turn}
use Rattle.law_history.proofs.Rising.{place-rises}
use Rattle.law_closing.specs.Remarks.{turns_at}
use Rattle.law_closing.specs.Places.{PlaceNote}
use Rattle.law_closing.specs.Closing.{IsPlace}
use Rattle.chorus_nucleus.specs.declared.site_turns.site.Site.{Site}
use Rattle.chorus_nucleus.specs.SiteTurns.Sites.{IsJournalOf, IsPublished, entries, Fits}
use Rattle.chorus_nucleus.specs.SiteTurns.Jobs.{HasSeen, Acted, ServedAt}
use Rattle.chorus_nucleus.specs.SiteTurns.Turning.{IsNews, HasSeenMore, NotesAct, NotesServe, TakesTurn, Looks}
use Rattle.chorus_nucleus.specs.declared.fault.CallFault.{CallFault}
use Rattle.chorus_nucleus.specs.declared.nucleus.Nucleus.{Nucleus}
use Rattle.chorus_nucleus.specs.Passes.{AreSites, IsCallerOf, desk_of, mark_of}
use Rattle.chorus_nucleus.specs.Calls.{answered, gave, gave_after, IsRefused, IsServedAt, WorksOffAt, Because, Unserved, Performs, Serves, Grows, Stays}
use Rattle.chorus_nucleus.proofs.Threads.{caller-turned, caller-looked, caller-refused}
use Rattle.chorus_nucleus.proofs.Behind.{clocked, found-upto, seen-before, more-itself, more-raised}
use Rattle.chorus_nucleus.proofs.Gave.{gave-turn, gave-look}
use Rattle.chorus_nucleus.proofs.Counting.{command-grows, packet-stays, grows-none, stays-none}

pub place-is : (l : Layout) (p : ℕ) → has_place l p ≡ true → IsPlace (places l) p
place-is l p h = (let two = and_parts (nat_le 1 p) (nat_le p (places l)) h in (leb-true 1 p two.0, leb-true p (places l) two.1))

-- the desk is that of the place p
pub record IsAt (l : Layout) (p : ℕ) (d : DeskState) : Type 0 where
  pub layout : d.place.layout ≡ l
  pub number : d.place.number ≡ p

leads-at : (l m : Layout) (p q : ℕ) (found : List (Remarked PlaceNote)) (s : PlaceState) → l ≡ m → p ≡ q
    → Takes (machine l) p (started l p) (turns_at p found) s → Takes (machine m) q (started m q) (turns_at q found) s
leads-at l m p q found s a b h =
    subst (λ z. Takes (machine z) q (started z q) (turns_at q found) s) a (subst (λ z. Takes (machine l) z (started l z) (turns_at z found) s) b h)

module _ (l : Layout) (p : ℕ) (d : DeskState) (is : IsAt l p d) (v u : Knowledge PlaceNote) (w x : Seated) (found news : List (Remarked PlaceNote)) where
  pub takes-turn : (i : Input Command Packet) (z : Place) → z ≡ d.place → IsCallerOf l v w → Shows p v found → IsJournalOf d found → IsNews i (state z) w x news
      → u ≡ after_turn p found news v → TakesTurn l p i (state z) v w u x
  takes-turn i z same h shows journal n knows =
      let s : PlaceState = state z in
      let same_layout : s.layout ≡ l = ap (λ (q : Place). q.layout) same ∙ is.layout in
      let same_number : s.number ≡ p = ap (λ (q : Place). q.number) same ∙ is.number in
      let may : may_take l p i s w ≡ true = subst (λ m. may_take m p i s w ≡ true) same_layout (subst (λ q. may_take s.layout q i s w ≡ true) same_number n.may) in
      let entries_are : entries_of found ≡ reverse s.journal = journal.0 ∙ sym (ap (λ (q : Place). reverse q.journal) same) in
      let leads_to : Takes (machine l) p (started l p) (turns_at p found) s =
      subst (λ (q : Place). Takes (machine l) p (started l p) (turns_at p found) (state q)) (sym same)
      (leads-at d.place.layout l d.place.number p found (state d.place) is.layout is.number journal.1.keeps.takes) in
      let clocks = clocked l p i s w x found news entries_are leads_to n in
      let over : w.last < n.entry.clock = subst (λ (k : ℕ). w.last < k) (sym n.clock) ((place-rises l).above_caller p i s w may) in
      record {
        found = found;
        shows = shows;
        entries = entries_are;
        leads = leads_to;
        may = may;
        entry = n.entry;
        later = n.later;
        clock = n.clock;
        own_act = n.own_act;
        journal = n.journal;
        above = over;
        behind = seen-before p v w n.entry.clock found h.seen over clocks.below;
        rises = clocks.rises;
        upto = subst (λ (k : ℕ). k ≤ x.last) (sym n.clock) (subst (λ (y : Seated). (turn i s w).first ≤ y.last) (sym n.after) ((place-rises l).to_caller p i s w may));
        after = n.after;
        knows = knows ∙ ap (λ ns. after_turn p found ns v) n.is;
      }

  pub looks-on : Shows p v found → IsJournalOf d found → news ≡ [] → HasSeen d w x → u ≡ after_turn p found news v → Looks l p (state d.place) v w u x
  looks-on shows journal none shown knows = record {
    found = found;
    shows = shows;
    entries = journal.0;
    leads = leads-at d.place.layout l d.place.number p found (state d.place) is.layout is.number journal.1.keeps.takes;
    after = shown;
    knows = knows ∙ ap (λ ns. after_turn p found ns v) none;
  }

-- A turn on a site of the nucleus.
abbrev pub Turned : List (Site Ruled Packet) → (DeskState → DeskState → Type 0) → (List (Remarked PlaceNote) → Type 0) → ℕ → Knowledge PlaceNote → Knowledge PlaceNote → Type 0
Turned handed did notes p v u =
    Worked (λ (s : Site Ruled Packet). entries (desk_of s)) (λ (s : Site Ruled Packet) log. Fits (desk_of s) log × IsPublished (desk_of s) s.board) mark_of handed
    (λ a b. did (desk_of a) (desk_of b)) notes p v u

pub at-place : (l : Layout) (handed : List (Site Ruled Packet)) → AreSites l handed → (p : ℕ) → IsPlace (places l) p → (s : Site Ruled Packet) → IsMarkAt mark_of handed p (mark_of s) → IsAt l p (desk_of s)
at-place l handed sites p is s marked = (let m = sites.marks p (mark_of s) is.0 marked in record { layout = m.0; number = m.1 })

-- what a call with a command did
pub record CallDone (l : Layout) (p : ℕ) (c : Command) (r : Result Reply CallFault) (v : Knowledge PlaceNote) (w : Seated) (u : Knowledge PlaceNote) (x : Seated) : Type 0 where
  pub caller : IsCallerOf l u x
  pub turn : IfOk r (λ y. Performs l p c y v w u x)
  pub fault : IfErr r (λ f. Because f l p v w u x)
  pub refused : OnErr r (IsRefused v w u x)
  pub gave_is : gave u ≡ gave_after c r (gave v)
  pub grows : Grows w x

-- what a serve did
pub record ServeDone (n : Nucleus) (p : ℕ) (r : Result Pump CallFault) (v : Knowledge PlaceNote) (w : Seated) (u : Knowledge PlaceNote) (x : Seated) : Type 0 where
  pub caller : IsCallerOf n.layout u x
  pub served : IfOk r (λ y. Serves n p y v w u x)
  pub fault : IfErr r (λ f. Unserved f n p v w u x)
  pub refused : OnErr r (IsRefused v w u x)
  pub gave_is : gave u ≡ gave v
  pub stays : Stays w x

pub mine-looked : (p : ℕ) (found news : List (Remarked PlaceNote)) (v : Knowledge PlaceNote) → news ≡ [] → (after_turn p found news v).mine ≡ v.mine
mine-looked p found news v e = ap (λ ns. (after_turn p found ns v).mine) e ∙ append-nil v.mine

module _ (l : Layout) (handed : List (Site Ruled Packet)) (sites : AreSites l handed) (p : ℕ) (is : IsPlace (places l) p) (v u : Knowledge PlaceNote) (w x : Seated) (h : IsCallerOf l v w) where
  -- another pass had the place
  found-busy : (by : ℕ) → FoundBusy p by v u → x ≡ w → IsCallerOf l u x × IsRefused v w u x × (gave u ≡ gave v)
  found-busy by b same = (
    subst (λ k. IsCallerOf l k x) (sym b.knows) (subst (λ y. IsCallerOf l (after_refusal p by v) y) (sym same) (caller-refused l p by v w h)),
    record { caller = subst (HasSeenMore w) (sym same) (more-itself w); mine = ap (λ (k : Knowledge PlaceNote). k.mine) b.knows },
    ap gave b.knows,
  )

  -- the turn had no news
  pub looked : (b : Site Ruled Packet) (found news : List (Remarked PlaceNote)) → IsMarkAt mark_of handed p (mark_of b) → Shows p v found → IsJournalOf (desk_of b) found → news ≡ [] → HasSeen (desk_of b) w x
      → u ≡ after_turn p found news v → IsCallerOf l u x × IsRefused v w u x × Looks l p (state (desk_of b).place) v w u x × (gave u ≡ gave v)
  unfolding looks-on
  looked b found news marked shows journal none shown knows =
      let s : PlaceState = state (desk_of b).place in
      let look = looks-on l p (desk_of b) (at-place l handed sites p is b marked) v u w x found news shows journal none shown knows in
      let clocks = found-upto l p s found look.entries look.leads in (
        subst (λ k. IsCallerOf l k x) (sym knows) (caller-looked l p (last_clock s.journal) v w x found news h shows.begins clocks none shown),
        record {
          caller = subst (HasSeenMore w) (sym shown) (more-raised (last_clock s.journal) w);
          mine = ap (λ (k : Knowledge PlaceNote). k.mine) knows ∙ mine-looked p found news v none;
        },
        look,
        gave-look l p s v u w x look,
      )

  module _ (c : Command) where
    ok-done : (took : Option (Snapshot Place)) (r : Reply) → Turned handed (λ d e. Acted c took (Ok r) w x d) (NotesAct c took w x) p v u → CallDone l p c (Ok r) v w u x
    unfolding takes-turn
    ok-done None r t = absurd t.ran
    ok-done (Some z) r t =
        let at = at-place l handed sites p is t.before t.marked in
        let d = desk_of t.before in
        let has = t.ran in
        let s : PlaceState = state z.value in
        let same : state d.place ≡ s = ap state (sym has.0) in
        let turn = takes-turn l p d at v u w x t.found t.news (Input.Command c) z.value has.0 h t.shows (t.journal.0, t.journal.1.0) t.noted t.knows in
        record {
          caller = subst (λ k. IsCallerOf l k x) (sym t.knows) (caller-turned l p (Input.Command c) s v w x t.found t.news (ap (λ (q : Place). q.layout) has.0 ∙ at.layout) is h t.noted t.shows.begins turn.above
              (clocked l p (Input.Command c) s w x t.found t.news turn.entries turn.leads t.noted));
          turn = record {
            state = s;
            turn = turn;
            act = turn.own_act;
            answer = has.1 ∙ ap (λ q. reply c (begun q w)) same;
            unworn = subst (λ q. greatest_clock (begun q w) < CLOCK_LIMIT) same has.2;
          };
          fault = tt;
          refused = tt;
          gave_is = gave-turn l p (Input.Command c) s v u w x turn;
          grows = subst (Grows w) (sym t.noted.after) (command-grows c s w);
        }

    err-done : (took : Option (Snapshot Place)) (f : PlaceFault) → Turned handed (λ d e. Acted c took (Err f) w x d) (NotesAct c took w x) p v u
        → CallDone l p c (answered (Ok (Err f))) v w u x
    err-done (Some z) f t = absurd t.ran
    err-done None (faults.Memory none) t =
        (let k = looked t.before t.found t.news t.marked t.shows (t.journal.0, t.journal.1.0) t.noted t.ran.0 t.knows in
        record { caller = k.0; turn = tt; fault = (state (desk_of t.before).place, k.2, t.ran.1); refused = k.1; gave_is = k.3; grows = grows-none w x k.1.caller })
    err-done None (faults.Worn clock) t =
        (let k = looked t.before t.found t.news t.marked t.shows (t.journal.0, t.journal.1.0) t.noted t.ran.0 t.knows in
        record {
          caller = k.0;
          turn = tt;
          fault = record { state = state (desk_of t.before).place; looks = k.2; worn = t.ran.1; greatest = t.ran.2 };
          refused = k.1;
          gave_is = k.3;
          grows = grows-none w x k.1.caller;
        })

    pub call-done : (took : Option (Snapshot Place)) (done : Result (Result Reply PlaceFault) Busy)
        → IfOk done (λ out. Turned handed (λ d e. Acted c took out w x d) (NotesAct c took w x) p v u)
        → IfErr done (λ b. FoundBusy p b.by v u × (x ≡ w)) → CallDone l p c (answered done) v w u x
    call-done took (Ok (Ok r)) ok busy = ok-done took r ok
    call-done took (Ok (Err f)) ok busy = err-done took f ok
    call-done took (Err b) ok busy =
        (let k = found-busy b.by busy.0 busy.1 in
        record { caller = k.0; turn = tt; fault = busy; refused = k.1; gave_is = k.2; grows = grows-none w x k.1.caller })

-- The same of a serve.
module _ (n : Nucleus) (sites : AreSites n.layout (turns.handed n.turns)) (p : ℕ) (is : IsPlace (places n.layout) p) (v u : Knowledge PlaceNote) (w x : Seated) (h : IsCallerOf n.layout v w) where
  abbrev l : Layout
  l = n.layout

  abbrev handed : List (Site Ruled Packet)
  handed = turns.handed n.turns

  served : (b a : Site Ruled Packet) (found : List (Remarked PlaceNote)) → IsMarkAt mark_of handed p (mark_of b) → mark_of a ≡ mark_of b → IsJournalOf (desk_of b) found → AreEmptied (desk_of b) (desk_of a)
      → IsServedAt handed p found b a
  served b a found marked same journal emptied = record { place = marked; same = same; journal = journal; emptied = emptied }

  served-ok : (took : Option ℕ) (before : Option (Snapshot Place)) (r : Pump) → Turned handed (λ d e. ServedAt took before (Ok r) w x d e) (NotesServe took before w x) p v u → ServeDone n p (Ok r) v w u x
  unfolding looked looks-on takes-turn
  served-ok took None r t = absurd t.ran
  served-ok (Some a) (Some z) (pumps.Served from) t =
      let at = at-place l handed sites p is t.before t.marked in
      let d = desk_of t.before in
      let same = t.ran.0 in
      let k = t.noted.0 in
      let s : PlaceState = state z.value in
      let turn = takes-turn l p d at v u w x t.found t.news (Input.Packet a k) z.value same h t.shows (t.journal.0, t.journal.1.0) t.noted.2 t.knows in
      let all : WorksOffAt n p a v w u x = (s, k, turn, t.noted.1, t.before, t.after, served t.before t.after t.found t.marked t.same_mark (t.journal.0, t.journal.1.0) t.ran.3) in
      record {
        caller = subst (λ q. IsCallerOf l q x) (sym t.knows) (caller-turned l p (Input.Packet a k) s v w x t.found t.news (ap (λ (q : Place). q.layout) same ∙ at.layout) is h t.noted.2 t.shows.begins turn.above
            (clocked l p (Input.Packet a k) s w x t.found t.news turn.entries turn.leads t.noted.2));
        served = inl (subst (λ q. WorksOffAt n p q v w u x) t.ran.1.0 all);
        fault = tt;
        refused = tt;
        gave_is = gave-turn l p (Input.Packet a k) s v u w x turn ∙ append-nil (gave v);
        stays = subst (Stays w) (sym t.noted.2.after) (packet-stays a k s w);
      }
  served-ok (Some a) (Some z) (pumps.Idle put done) t = absurd t.ran.1
  served-ok None (Some z) (pumps.Served from) t =
      let k = looked l handed sites p is v u w x h t.before t.found t.news t.marked t.shows (t.journal.0, t.journal.1.0) t.noted t.ran.1.0 t.knows in
      record {
        caller = k.0;
        served = inr (
          state (desk_of t.before).place,
          k.2,
          t.ran.1.1,
          t.before,
          t.after,
          served t.before t.after t.found t.marked t.same_mark (t.journal.0, t.journal.1.0) t.ran.3,
          t.ran.1.2,
        );
        fault = tt;
        refused = tt;
        gave_is = k.3;
        stays = stays-none w x k.1.caller;
      }
  served-ok None (Some z) (pumps.Idle put done) t =
      let k = looked l handed sites p is v u w x h t.before t.found t.news t.marked t.shows (t.journal.0, t.journal.1.0) t.noted t.ran.1.0 t.knows in
      let d = desk_of t.before in
      let at = at-place l handed sites p is t.before t.marked in
      record {
        caller = k.0;
        served = (
          state d.place,
          k.2,
          t.ran.1.2 ∙ subst (λ q. d.place.out.puts ≡ put_count (turns_at q t.found)) at.number t.journal.1.0.puts,
          t.ran.1.3 ∙ subst (λ q. d.worked ≡ min (got_count (turns_at q t.found)) (2 ^ 64 - 1)) at.number t.journal.1.0.worked,
          t.before,
          t.after,
          served t.before t.after t.found t.marked t.same_mark (t.journal.0, t.journal.1.0) t.ran.3,
          t.ran.1.1,
        );
        fault = tt;
        refused = tt;
        gave_is = k.3;
        stays = stays-none w x k.1.caller;
      }

  served-err : (took : Option ℕ) (before : Option (Snapshot Place)) (f : PlaceFault) → Turned handed (λ d e. ServedAt took before (Err f) w x d e) (NotesServe took before w x) p v u
      → ServeDone n p (answered (Ok (Err f))) v w u x
  unfolding looked looks-on
  served-err took None f t = absurd t.ran
  served-err (Some a) (Some z) f t = absurd t.ran.1
  served-err None (Some z) (faults.Memory none) t =
      (let k = looked l handed sites p is v u w x h t.before t.found t.news t.marked t.shows (t.journal.0, t.journal.1.0) t.noted t.ran.1.0 t.knows in
      record { caller = k.0; served = tt; fault = (state (desk_of t.before).place, k.2); refused = k.1; gave_is = k.3; stays = stays-none w x k.1.caller })
  served-err None (Some z) (faults.Worn clock) t =
      (let k = looked l handed sites p is v u w x h t.before t.found t.news t.marked t.shows (t.journal.0, t.journal.1.0) t.noted t.ran.1.0 t.knows in
      let worn = t.ran.2 clock refl in
      record {
        caller = k.0;
        served = tt;
        fault = record {
          state = state (desk_of t.before).place;
          looks = k.2;
          before = t.before;
          after = t.after;
          served = served t.before t.after t.found t.marked t.same_mark (t.journal.0, t.journal.1.0) worn.emptied;
          by = worn;
        };
        refused = k.1;
        gave_is = k.3;
        stays = stays-none w x k.1.caller;
      })

  pub serve-done : (took : Option ℕ) (before : Option (Snapshot Place)) (done : Result (Result Pump PlaceFault) Busy)
      → IfOk done (λ out. Turned handed (λ d e. ServedAt took before out w x d e) (NotesServe took before w x) p v u)
      → IfErr done (λ b. FoundBusy p b.by v u × (x ≡ w)) → ServeDone n p (answered done) v w u x
  serve-done took before (Ok (Ok r)) ok busy = served-ok took before r ok
  serve-done took before (Ok (Err f)) ok busy = served-err took before f ok
  serve-done took before (Err b) ok busy =
      (let k = found-busy l handed sites p is v u w x h b.by busy.0 busy.1 in
      record { caller = k.0; served = tt; fault = busy; refused = k.1; gave_is = k.2; stays = stays-none w x k.1.caller })
