-- A publish, put together from what its turn did.
use Rattle.std.proofs.Common.{ℕ, ◌≡◌, ◌≢◌, ◌-◌, Bool, cond, List, [], length, Option, Some, None, Result, Ok, Err, IfOk, IfErr, OnOk, IfSome, refl, sym, ◌∙◌, ap, subst}
use Rattle.std.specs.Global.{Vec}
use Rattle.std.specs.declared.alloc.AllocError.{AllocError}
use Rattle.std.proofs.lemmas.Bool.{eq-eqb, ne_eqb}
use Rattle.chorus_ui.specs.declared.layout.Layout.{Layout}
use Rattle.chorus_ui.specs.Layout.{places, creation_place}
use Rattle.chorus_entry.specs.declared.entry.Entry.{Entry}
use Rattle.chorus_entry.specs.declared.packet.Packet.{Packet}
use Rattle.chorus_world.specs.Places.{last_clock}
use Rattle.chorus_calls.specs.Callers.{Seated, raised}
use Rattle.law_machine.specs.PlaceState.{PlaceState}
use Rattle.chorus_place.specs.Calls.{state}
use Rattle.chorus_ruled_ends.specs.Ruled.{Ruled}
use Rattle.chorus_turn.specs.declared.turns.Busy.{Busy}
use Rattle.chorus_turn.specs.declared.pass.Pass as turner
use Rattle.chorus_turn.specs.declared.knowledge.Knowledge.{Knowledge}
use Rattle.chorus_turn.specs.Journals.{entries_of}
use Rattle.chorus_turn.specs.Knowing.{IsSamePass, after_refusal}
use Rattle.chorus_turn.specs.Passes as turns
use Rattle.chorus_turn.specs.Calls.{IsMarkAt, Worked, FoundBusy}
use Rattle.law_closing.specs.Closing.{IsPlace}
use Rattle.law_closing.specs.Places.{PlaceNote}
use Rattle.chorus_board.specs.declared.reader.BoardReader.{BoardReader}
use Rattle.chorus_board.specs.Boards.{name_of_book, entries_published, IsSameReader}
use Rattle.chorus_nucleus.specs.declared.site_turns.site.Site.{Site}
use Rattle.chorus_nucleus.specs.declared.site_turns.site.SiteMark.{SiteMark}
use Rattle.chorus_nucleus.specs.SiteTurns.Sites.{entries, Fits, IsPublished}
use Rattle.chorus_nucleus.specs.SiteTurns.Reading.{Follows, AcceptsReader}
use Rattle.chorus_nucleus.specs.SiteTurns.Turning.{Looks, HasSeenMore}
use Rattle.chorus_nucleus.specs.SiteTurns.Jobs.{HasSeen}
use Rattle.chorus_nucleus.specs.declared.nucleus.Nucleus.{Nucleus}
use Rattle.chorus_nucleus.specs.declared.pass.Pass.{Pass}
use Rattle.chorus_nucleus.specs.declared.sight.Sight.{Sight}
use Rattle.chorus_nucleus.specs.declared.fault.CallFault.{CallFault}
use Rattle.chorus_nucleus.specs.Passes.{AreSites, Reads, AreSpare, row_at, IsCallerOf, IsPassOf, home_of, desk_of, mark_of, IsPlaceOf}
use Rattle.chorus_nucleus.specs.Reading.{HasPublished, Publishes, Unpublished, PublishDone, IsPublish, answered_publish}
use Rattle.chorus_nucleus.proofs.Threads.{caller-refused}
use Rattle.chorus_nucleus.proofs.Called.{looked}
use Rattle.chorus_nucleus.proofs.Joined.{sight-kept}
use Rattle.chorus_nucleus.proofs.Behind.{more-itself, raised-zero}

abbrev Sites : Type 0
Sites = List (Site Ruled Packet)

-- a turn that publishes with the reader o, which became q
abbrev pub Published : Sites → Option BoardReader → Option BoardReader → ℕ → Result (Unit {0}) AllocError → ℕ → Knowledge PlaceNote → Knowledge PlaceNote → Type 0
Published handed o q clock out p v u =
    Worked (λ (s : Site Ruled Packet). entries (desk_of s)) (λ (s : Site Ruled Packet) log. Fits (desk_of s) log × IsPublished (desk_of s) s.board) mark_of handed
    (λ x y. Follows o q (entries (desk_of x)) out × OnOk out (entries_published y.board ≡ entries (desk_of x)) × (y.desk ≡ x.desk) × (clock ≡ last_clock (desk_of x).place.journal)) (λ news. news ≡ []) p v u

-- the job accepts a reader of the place's board
pub may-read : (l : Layout) (handed : Sites) → AreSites l handed → (p : ℕ) → IsPlace (places l) p → (o : Option BoardReader) → IfSome o (λ r. Reads l handed p r)
    → (m : SiteMark) → IsMarkAt mark_of handed p m → AcceptsReader o m
may-read l handed sites p is None h m at = tt
may-read l handed sites p is (Some r) h m at = (let two = sites.marks p m is.0 at in (h.board m at, h.layout ∙ sym two.0, h.place ∙ sym two.1))

-- a reader that has the board, layout and place that it had
pub reads-same : (l : Layout) (handed : Sites) (p : ℕ) (r s : BoardReader) → IsSameReader r s → Reads l handed p r → Reads l handed p s
reads-same l handed p r s same h = record {
  layout = same.1 ∙ h.layout;
  place = same.2 ∙ h.place;
  board = λ m at. ap name_of_book same.0 ∙ h.board m at;
}

pub reads-followed : {E : Type 0} (l : Layout) (handed : Sites) (p : ℕ) (o q : Option BoardReader) (es : List Entry) (out : Result (Unit {0}) E) → Follows o q es out
    → IfSome o (λ r. Reads l handed p r) → IfSome q (λ r. Reads l handed p r)
reads-followed l handed p None None es out f h = tt
reads-followed l handed p None (Some s) es out f h = absurd (cc)
reads-followed l handed p (Some r) None es out f h = absurd f
reads-followed l handed p (Some r) (Some s) es (Ok u) f h = reads-same l handed p r s f.0 h
reads-followed l handed p (Some r) (Some s) es (Err e) f h = subst (λ x. Reads l handed p x) (sym f) h

pub still-reads : (l : Layout) (handed : Sites) (p : ℕ) (o q : Option BoardReader) (clock : ℕ) (v u : Knowledge PlaceNote) (done : Result (Result (Unit {0}) AllocError) Busy)
    → IfOk done (λ out. Published handed o q clock out p v u) → IfErr done (λ b. FoundBusy p b.by v u × (q ≡ o)) → IfSome o (λ r. Reads l handed p r) → IfSome q (λ r. Reads l handed p r)
still-reads l handed p o q clock v u (Ok out) ok busy h = reads-followed l handed p o q (entries (desk_of ok.before)) out ok.ran.0 h
still-reads l handed p o q clock v u (Err b) ok busy h = subst (λ x. IfSome x (λ r. Reads l handed p r)) (sym busy.1) h

pub followed-so : (E F : Type 0) (o q : Option BoardReader) (es : List Entry) (u : Unit {0}) → Follows {E = E} o q es (Ok u) → Follows {E = F} o q es (Ok tt)
followed-so E F None q es u f = f
followed-so E F (Some r) None es u f = absurd f
followed-so E F (Some r) (Some s) es u f = f

pub kept-so : (o q : Option BoardReader) (es : List Entry) (e : AllocError) → Follows o q es (Err e) → q ≡ o
kept-so None q es e f = f
kept-so (Some r) None es e f = absurd f
kept-so (Some r) (Some s) es e f = ap Some f

-- the place after a turn is the same one
pub still-there : (handed : Sites) (p : ℕ) (b a : Site Ruled Packet) → IsPlaceOf handed p b → mark_of a ≡ mark_of b → IsPlaceOf handed p a
still-there handed p b a at same = subst (λ m. IsMarkAt mark_of handed p m) (sym same) at

module _ (l : Layout) (handed : Sites) (sites : AreSites l handed) (p : ℕ) (is : IsPlace (places l) p) (o q : Option BoardReader) (clock : ℕ) (v u : Knowledge PlaceNote) (w x : Seated) (shown : x ≡ raised clock w) (h : IsCallerOf l v w) where
  pub publish-done : (done : Result (Result (Unit {0}) AllocError) Busy) → IfOk done (λ out. Published handed o q clock out p v u)
      → IfErr done (λ b. FoundBusy p b.by v u × (q ≡ o)) → IfErr done (λ b. FoundBusy p b.by v u × (clock ≡ 0)) → PublishDone l handed p o q (answered_publish done) v u w x
  publish-done (Ok (Ok y)) t busy zero =
      let seen : HasSeen (desk_of t.before) w x = shown ∙ ap (λ c. raised c w) t.ran.3 in
      let k = looked l handed sites p is v u w x h t.before t.found t.news t.marked t.shows (t.journal.0, t.journal.1.0) t.noted seen t.knows in
      record {
        caller = k.0;
        same = k.1.caller;
        looks = (
          state (desk_of t.before).place,
          k.2,
          (t.after, still-there handed p t.before t.after t.marked t.same_mark, t.ran.1 ∙ sym k.2.entries),
          followed-so AllocError CallFault o q (entries_of k.2.found) y (subst (λ es. Follows {E = AllocError} o q es (Ok y)) (sym k.2.entries) t.ran.0),
        );
        fault = tt;
        mine = k.1.mine;
      }
  publish-done (Ok (Err f)) t busy zero =
      let seen : HasSeen (desk_of t.before) w x = shown ∙ ap (λ c. raised c w) t.ran.3 in
      let k = looked l handed sites p is v u w x h t.before t.found t.news t.marked t.shows (t.journal.0, t.journal.1.0) t.noted seen t.knows in
      record {
        caller = k.0;
        same = k.1.caller;
        looks = tt;
        fault = ((state (desk_of t.before).place, k.2), kept-so o q (entries (desk_of t.before)) f t.ran.0);
        mine = k.1.mine;
      }
  publish-done (Err b) t busy zero =
      (let same : x ≡ w = shown ∙ ap (λ c. raised c w) zero.1 ∙ raised-zero w in record {
        caller = subst (λ k. IsCallerOf l k x) (sym busy.0.knows) (subst (IsCallerOf l (after_refusal p b.by v)) (sym same) (caller-refused l p b.by v w h));
        same = subst (HasSeenMore w) (sym same) (more-itself w);
        looks = tt;
        fault = ((busy.0, same), busy.1);
        mine = ap (λ (k : Knowledge PlaceNote). k.mine) busy.0.knows;
      })

module _ (n : Nucleus) (p : ℕ) (old : Pass) (after : turner.Pass PlaceNote) (is : IsPassOf n old) (of : turns.IsPassOf n.turns after) (standing : IsSamePass (turns.known old.turner) (turns.known after)) where
  abbrev home : ℕ
  home = home_of n.layout old.caller

  pub at-home : (q : Option BoardReader) (sight : Sight) (r : Result (Unit {0}) CallFault) → p ≡ home → sight.reader ≡ q → sight.spare ≡ old.sight.spare → IfSome q (λ s. Reads n.layout (turns.handed n.turns) p s)
      → (w : Seated) → PublishDone n.layout (turns.handed n.turns) p old.sight.reader q r (turns.known old.turner) (turns.known after) old.caller w
      → IsPublish n p old (record { turner = after; caller = w; worn = old.worn; sight = sight }) r
  at-home q sight r here reader spare reads w done =
      let actor : w.actor ≡ old.caller.actor = ap (λ (y : Seated). y.actor) done.same in
      let own : IfSome sight.reader (λ s. Reads n.layout (turns.handed n.turns) home s) =
      subst (λ o. IfSome o (λ s. Reads n.layout (turns.handed n.turns) home s)) (sym reader) (subst (λ k. IfSome q (λ s. Reads n.layout (turns.handed n.turns) k s)) here reads) in
      record {
        pass = record {
          sites = is.sites;
          turner = of;
          caller = done.caller;
          sight = record {
            own = subst (λ a. IfSome sight.reader (λ s. Reads n.layout (turns.handed n.turns) (creation_place n.layout a) s)) (sym actor) own;
            spare = subst (λ (z : Vec (Vec BoardReader)). AreSpare n.layout (turns.handed n.turns) z.items) (sym spare) is.sight.spare;
            rows = λ k. ap (λ (z : Vec (Vec BoardReader)). length z.items) spare ∙ is.sight.rows (sym standing.2 ∙ k);
            none = λ k. ap (λ (z : Vec (Vec BoardReader)). z.items) spare ∙ is.sight.none (sym standing.2 ∙ k);
          };
        };
        standing = standing;
        published = published r done.looks;
        fault = failed r done.fault;
        caller = done.same;
        mine = done.mine;
        worn = refl;
        readers = λ k. ap (λ (z : Vec (Vec BoardReader)). length (row_at k z.items)) spare;
      }
    where
      published : (z : Result (Unit {0}) CallFault) → IfOk z (λ x. (s : PlaceState) × (t : Looks n.layout p s (turns.known old.turner) old.caller (turns.known after) w) × HasPublished (turns.handed n.turns) p (entries_of t.found) × Follows {E = CallFault} old.sight.reader q (entries_of t.found) (Ok tt))
          → IfOk z (λ x. Publishes n.layout (turns.handed n.turns) p old.sight.reader sight.reader (turns.known old.turner) old.caller (turns.known after) w)
      published (Err f) h = tt
      published (Ok x) h = record {
        state = h.0;
        looks = h.1;
        board = h.2;
        follows = subst (λ (b : Bool). cond b (Follows {E = CallFault} old.sight.reader sight.reader (entries_of h.1.found) (Ok tt)) (sight.reader ≡ old.sight.reader)) (sym (eq-eqb p home here))
            (subst (λ z. Follows {E = CallFault} old.sight.reader z (entries_of h.1.found) (Ok tt)) (sym reader) h.3);
      }

      failed : (z : Result (Unit {0}) CallFault) → IfErr z (λ f. Unpublished f n.layout p (turns.known old.turner) old.caller (turns.known after) w × (q ≡ old.sight.reader))
          → IfErr z (λ f. Unpublished f n.layout p (turns.known old.turner) old.caller (turns.known after) w × (sight.reader ≡ old.sight.reader))
      failed (Ok x) h = tt
      failed (Err f) h = (h.0, reader ∙ h.1)

  pub away : (q : Option BoardReader) (r : Result (Unit {0}) CallFault) → p ≢ home
      → (w : Seated) → PublishDone n.layout (turns.handed n.turns) p None q r (turns.known old.turner) (turns.known after) old.caller w
      → IsPublish n p old (record { turner = after; caller = w; worn = old.worn; sight = old.sight }) r
  away q r other w done =
      let actor : w.actor ≡ old.caller.actor = ap (λ (y : Seated). y.actor) done.same in
      record {
        pass = record {
          sites = is.sites;
          turner = of;
          caller = done.caller;
          sight = sight-kept n.layout (turns.handed n.turns) (turns.known old.turner) (turns.known after) old.caller w old.sight old.sight refl standing.2 actor is.sight;
        };
        standing = standing;
        published = published r done.looks;
        fault = failed r done.fault;
        caller = done.same;
        mine = done.mine;
        worn = refl;
        readers = λ k. refl;
      }
    where
      published : (z : Result (Unit {0}) CallFault) → IfOk z (λ x. (s : PlaceState) × (t : Looks n.layout p s (turns.known old.turner) old.caller (turns.known after) w) × HasPublished (turns.handed n.turns) p (entries_of t.found) × Follows {E = CallFault} None q (entries_of t.found) (Ok tt))
          → IfOk z (λ x. Publishes n.layout (turns.handed n.turns) p old.sight.reader old.sight.reader (turns.known old.turner) old.caller (turns.known after) w)
      published (Err f) h = tt
      published (Ok x) h = record {
        state = h.0;
        looks = h.1;
        board = h.2;
        follows = subst (λ (b : Bool). cond b (Follows {E = CallFault} old.sight.reader old.sight.reader (entries_of h.1.found) (Ok tt)) (old.sight.reader ≡ old.sight.reader)) (sym (ne_eqb p home other)) refl;
      }

      failed : (z : Result (Unit {0}) CallFault) → IfErr z (λ f. Unpublished f n.layout p (turns.known old.turner) old.caller (turns.known after) w × (q ≡ None))
          → IfErr z (λ f. Unpublished f n.layout p (turns.known old.turner) old.caller (turns.known after) w × (old.sight.reader ≡ old.sight.reader))
      failed (Ok x) h = tt
      failed (Err f) h = (h.0, refl)
