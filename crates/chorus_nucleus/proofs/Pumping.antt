-- A pump, put together from what its turn did.
use Rattle.std.proofs.Common.{ℕ, ◌≡◌, ◌≢◌, ◌++◌, Bool, cond, List, length, Option, None, Result, Ok, Err, IfOk, IfErr, OnOk, IfSome, refl, sym, ◌∙◌, ap, subst, inl, inr}
use Rattle.std.specs.Global.{Vec}
use Rattle.std.specs.declared.alloc.AllocError.{AllocError}
use Rattle.std.specs.declared.snapshot.Snapshot.{Snapshot}
use Rattle.std.proofs.lemmas.Bool.{eq-eqb, ne_eqb}
use Rattle.chorus_ui.specs.Layout.{places, creation_place}
use Rattle.chorus_entry.specs.declared.packet.Packet.{Packet}
use Rattle.chorus_calls.specs.Callers.{Seated}
use Rattle.chorus_place.specs.Calls.{Place}
use Rattle.chorus_place.specs.declared.fault.PlaceFault.{PlaceFault}
use Rattle.chorus_serve.specs.declared.served.Pump.{Pump}
use Rattle.chorus_ruled_ends.specs.Ruled.{Ruled}
use Rattle.chorus_board.specs.declared.reader.BoardReader.{BoardReader}
use Rattle.chorus_turn.specs.declared.turns.Busy.{Busy}
use Rattle.chorus_turn.specs.declared.pass.Pass as turner
use Rattle.chorus_turn.specs.declared.knowledge.Knowledge.{Knowledge}
use Rattle.chorus_turn.specs.Journals.{entries_of}
use Rattle.chorus_turn.specs.Knowing.{IsSamePass, seen_at}
use Rattle.chorus_turn.specs.Passes as turns
use Rattle.chorus_turn.specs.Calls.{Worked, FoundBusy}
use Rattle.chorus_turn.proofs.Fronts.{put_here}
use Rattle.law_closing.specs.Closing.{IsPlace}
use Rattle.law_closing.specs.Places.{PlaceNote}
use Rattle.chorus_nucleus.specs.declared.site_turns.site.Site.{Site}
use Rattle.chorus_nucleus.specs.SiteTurns.Sites.{entries, Fits, IsPublished}
use Rattle.chorus_nucleus.specs.SiteTurns.Reading.{Follows, PublishedBehind}
use Rattle.chorus_nucleus.specs.SiteTurns.Jobs.{ServedAt}
use Rattle.chorus_nucleus.specs.SiteTurns.Turning.{NotesServe}
use Rattle.chorus_nucleus.specs.declared.nucleus.Nucleus.{Nucleus}
use Rattle.chorus_nucleus.specs.declared.pass.Pass.{Pass}
use Rattle.chorus_nucleus.specs.declared.sight.Sight.{Sight}
use Rattle.chorus_nucleus.specs.declared.fault.CallFault.{CallFault}
use Rattle.chorus_nucleus.specs.Passes.{AreSites, Reads, AreSpare, IsCallerOf, IsPassOf, row_at, home_of, desk_of, mark_of}
use Rattle.chorus_nucleus.specs.Calls.{answered, worn_after}
use Rattle.chorus_nucleus.specs.Reading.{FollowsAt}
use Rattle.chorus_nucleus.specs.Pumping.{pumped, PumpDone, IsPump}
use Rattle.chorus_nucleus.proofs.Called.{Turned, ServeDone, serve-done}
use Rattle.chorus_nucleus.proofs.Joined.{sight-kept}
use Rattle.chorus_nucleus.proofs.Publishing.{reads-followed, followed-so, kept-so, still-there}

abbrev Sites : Type 0
Sites = List (Site Ruled Packet)

-- a turn that serves and then publishes with the reader o, which became q
abbrev pub Pumped : Sites → Option ℕ → Option (Snapshot Place) → Option BoardReader → Option BoardReader → Result (Unit {0}) AllocError → Result Pump PlaceFault → ℕ → Knowledge PlaceNote → Seated → Knowledge PlaceNote → Seated → Type 0
Pumped handed took kept o q published out p v w u x =
    Worked (λ (s : Site Ruled Packet). entries (desk_of s)) (λ (s : Site Ruled Packet) log. Fits (desk_of s) log × IsPublished (desk_of s) s.board) mark_of handed
    (λ a b. ServedAt took kept out w x (desk_of a) (desk_of b) × PublishedBehind o q published (entries (desk_of b)) b.board out) (NotesServe took kept w x) p v u

module _ (handed : Sites) (took : Option ℕ) (kept : Option (Snapshot Place)) (o q : Option BoardReader) (published : Result (Unit {0}) AllocError) (out : Result Pump PlaceFault) (p : ℕ) (v : Knowledge PlaceNote) (w : Seated) (u : Knowledge PlaceNote) (x : Seated)
    (t : Pumped handed took kept o q published out p v w u x) where
  -- its serving
  turned : Turned handed (λ d e. ServedAt took kept out w x d e) (NotesServe took kept w x) p v u
  turned = record {
    before = t.before;
    after = t.after;
    found = t.found;
    news = t.news;
    ran = t.ran.0;
    marked = t.marked;
    same_mark = t.same_mark;
    journal = t.journal;
    shows = t.shows;
    own = t.own;
    noted = t.noted;
    left = t.left;
    knows = t.knows;
  }

  -- what the pass has then seen is the place's journal
  all-seen : entries (desk_of t.after) ≡ entries_of (seen_at p u)
  all-seen =
      sym t.left.0 ∙ ap entries_of (sym (put_here p (t.found ++ t.news) v.seen)) ∙ ap (λ (k : Knowledge PlaceNote). entries_of (seen_at p k)) (sym t.knows)

module _ (n : Nucleus) (sites : AreSites n.layout (turns.handed n.turns)) (p : ℕ) (is : IsPlace (places n.layout) p) (took : Option ℕ) (kept : Option (Snapshot Place)) (o q : Option BoardReader) (published : Result (Unit {0}) AllocError)
    (v u : Knowledge PlaceNote) (w x : Seated) (h : IsCallerOf n.layout v w) (reads : IfSome o (λ r. Reads n.layout (turns.handed n.turns) p r)) where
  abbrev handed : Sites
  handed = turns.handed n.turns

  ok-done : (served : Pump) (done : Result (Unit {0}) AllocError) → Pumped handed took kept o q done (Ok served) p v w u x → PumpDone n p o q (pumped (Ok served) done) v w u x
  ok-done served (Ok y) t =
      let s = serve-done n sites p is v u w x h took kept (Ok (Ok served)) (turned handed took kept o q (Ok y) (Ok served) p v w u x t) tt in
      let all = all-seen handed took kept o q (Ok y) (Ok served) p v w u x t in
      record {
        caller = s.caller;
        served = s.served;
        board = (t.after, still-there handed p t.before t.after t.marked t.same_mark, t.ran.1.1 ∙ all);
        follows = followed-so AllocError CallFault o q (entries_of (seen_at p u)) y (subst (λ es. Follows {E = AllocError} o q es (Ok y)) all t.ran.1.0);
        fault = tt;
        kept = tt;
        reads = reads-followed n.layout handed p o q (entries (desk_of t.after)) (Ok y) t.ran.1.0 reads;
        gave_is = s.gave_is;
        stays = s.stays;
      }
  ok-done served (Err none) t =
      let s = serve-done n sites p is v u w x h took kept (Ok (Ok served)) (turned handed took kept o q (Err none) (Ok served) p v w u x t) tt in
      record {
        caller = s.caller;
        served = tt;
        board = tt;
        follows = tt;
        fault = inr (none, refl, served, s.served);
        kept = kept-so o q (entries (desk_of t.after)) none t.ran.1.0;
        reads = reads-followed n.layout handed p o q (entries (desk_of t.after)) (Err none) t.ran.1.0 reads;
        gave_is = s.gave_is;
        stays = s.stays;
      }

  not-done : (f : CallFault) → ServeDone n p (Err f) v w u x → q ≡ o → PumpDone n p o q (pumped (Err f) published) v w u x
  not-done f s same = record {
    caller = s.caller;
    served = tt;
    board = tt;
    follows = tt;
    fault = inl (s.fault, s.refused);
    kept = same;
    reads = subst (λ z. IfSome z (λ r. Reads n.layout handed p r)) (sym same) reads;
    gave_is = s.gave_is;
    stays = s.stays;
  }

  pub pump-done : (done : Result (Result Pump PlaceFault) Busy) → IfOk done (λ out. Pumped handed took kept o q published out p v w u x)
      → IfErr done (λ b. FoundBusy p b.by v u × (x ≡ w)) → IfErr done (λ b. FoundBusy p b.by v u × (q ≡ o)) → PumpDone n p o q (pumped (answered done) published) v w u x
  pump-done (Ok (Ok served)) ok busy same = ok-done served published ok
  pump-done (Ok (Err (PlaceFault.Memory none))) ok busy same =
      not-done (CallFault.Memory none)
      (serve-done n sites p is v u w x h took kept (Ok (Err (PlaceFault.Memory none))) (turned handed took kept o q published (Err (PlaceFault.Memory none)) p v w u x ok) tt) ok.ran.1
  pump-done (Ok (Err (PlaceFault.Worn clock))) ok busy same =
      not-done (CallFault.Worn clock)
      (serve-done n sites p is v u w x h took kept (Ok (Err (PlaceFault.Worn clock))) (turned handed took kept o q published (Err (PlaceFault.Worn clock)) p v w u x ok) tt) ok.ran.1
  pump-done (Err b) ok busy same = not-done (CallFault.Busy b.by) (serve-done n sites p is v u w x h took kept (Err b) tt busy) same.1

-- The whole call, at the pass's home place and elsewhere.
module _ (n : Nucleus) (p : ℕ) (old : Pass) (after : turner.Pass PlaceNote) (is : IsPassOf n old) (of : turns.IsPassOf n.turns after) (standing : IsSamePass (turns.known old.turner) (turns.known after)) (w : Seated) (worn : Option ℕ)
    (r : Result Pump CallFault) (noted : worn ≡ worn_after old.worn r) where
  abbrev home : ℕ
  home = home_of n.layout old.caller

  pub at-home : (q : Option BoardReader) (sight : Sight) → p ≡ home → sight.reader ≡ q → sight.spare ≡ old.sight.spare
      → PumpDone n p old.sight.reader q r (turns.known old.turner) old.caller (turns.known after) w
      → IsPump n p old (record { turner = after; caller = w; worn = worn; sight = sight }) r
  at-home q sight here reader spare done =
      let own : IfSome sight.reader (λ s. Reads n.layout (turns.handed n.turns) home s) =
      subst (λ z. IfSome z (λ s. Reads n.layout (turns.handed n.turns) home s)) (sym reader) (subst (λ k. IfSome q (λ s. Reads n.layout (turns.handed n.turns) k s)) here done.reads) in
      record {
        pass = record {
          sites = is.sites;
          turner = of;
          caller = done.caller;
          sight = record {
            own = subst (λ a. IfSome sight.reader (λ s. Reads n.layout (turns.handed n.turns) (creation_place n.layout a) s)) (sym done.stays.actor) own;
            spare = subst (λ (z : Vec (Vec BoardReader)). AreSpare n.layout (turns.handed n.turns) z.items) (sym spare) is.sight.spare;
            rows = λ k. ap (λ (z : Vec (Vec BoardReader)). length z.items) spare ∙ is.sight.rows (sym standing.2 ∙ k);
            none = λ k. ap (λ (z : Vec (Vec BoardReader)). z.items) spare ∙ is.sight.none (sym standing.2 ∙ k);
          };
        };
        standing = standing;
        served = done.served;
        board = done.board;
        follows = followed r done.follows;
        fault = done.fault;
        worn = noted;
        gave_is = done.gave_is;
        stays = done.stays;
        readers = λ k. ap (λ (z : Vec (Vec BoardReader)). length (row_at k z.items)) spare;
      }
    where
      followed : (z : Result Pump CallFault) → OnOk z (Follows {E = CallFault} old.sight.reader q (entries_of (seen_at p (turns.known after))) (Ok tt)) → OnOk z (FollowsAt home p old.sight.reader sight.reader (entries_of (seen_at p (turns.known after))))
      followed (Err f) h = tt
      followed (Ok y) h =
          subst (λ (b : Bool). cond b (Follows {E = CallFault} old.sight.reader sight.reader (entries_of (seen_at p (turns.known after))) (Ok tt)) (sight.reader ≡ old.sight.reader)) (sym (eq-eqb p home here))
          (subst (λ z. Follows {E = CallFault} old.sight.reader z (entries_of (seen_at p (turns.known after))) (Ok tt)) (sym reader) h)

  pub away : (q : Option BoardReader) → p ≢ home → PumpDone n p None q r (turns.known old.turner) old.caller (turns.known after) w
      → IsPump n p old (record { turner = after; caller = w; worn = worn; sight = old.sight }) r
  away q other done = record {
    pass = record {
      sites = is.sites;
      turner = of;
      caller = done.caller;
      sight = sight-kept n.layout (turns.handed n.turns) (turns.known old.turner) (turns.known after) old.caller w old.sight old.sight refl standing.2 done.stays.actor is.sight;
    };
    standing = standing;
    served = done.served;
    board = done.board;
    follows = elsewhere r;
    fault = done.fault;
    worn = noted;
    gave_is = done.gave_is;
    stays = done.stays;
    readers = λ k. refl;
  }
    where
      elsewhere : (z : Result Pump CallFault) → OnOk z (FollowsAt home p old.sight.reader old.sight.reader (entries_of (seen_at p (turns.known after))))
      elsewhere (Err f) = tt
      elsewhere (Ok y) =
          subst (λ (b : Bool). cond b (Follows {E = CallFault} old.sight.reader old.sight.reader (entries_of (seen_at p (turns.known after))) (Ok tt)) (old.sight.reader ≡ old.sight.reader)) (sym (ne_eqb p home other)) refl
