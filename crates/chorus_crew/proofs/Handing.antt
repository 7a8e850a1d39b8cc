-- What a crew hands on: the passes of the jobs, and what they gave.
-- n is the nucleus, l its layout, a, b and c are the caller's pass before the call, with all passes drawn, and at the end.
use Rattle.std.proofs.Common.{◌≡◌, ◌≤◌, ℕ, zero, suc, ◌+◌, Bool, true, false, ◌&&◌, Option, Some, None, is_none, Result, Ok, Err, IfOk, IfErr, OnOk, OnErr, inr, List, [], ◌∷◌, ◌++◌, map, length, reverse, refl, sym, ap, ◌∙◌, subst, arith, append-nil, slice_get}
use Rattle.std.specs.List.{All}
use Rattle.std.specs.Global.{Vec}
use Rattle.std.proofs.lemmas.Bool.{and_parts, false≢true}
use Rattle.std.proofs.lemmas.List.Elements.{All-nil, All-cons, All-head, All-tail}
use Rattle.chorus_ui.specs.declared.ui.Ui.{Ui}
use Rattle.chorus_ui.specs.declared.layout.Layout.{Layout}
use Rattle.chorus_ui.specs.NameKind.{is_port}
use Rattle.chorus_entry.specs.declared.act.Act.{Act}
use Rattle.chorus_entry.specs.declared.command.Command.{Command}
use Rattle.chorus_entry.specs.Places.{place_for}
use Rattle.law_history.specs.declared.turns.Input.{Input}
use Rattle.law_history.specs.Journals.{PlaceTurn}
use Rattle.chorus_turn.specs.declared.knowledge.Knowledge.{Knowledge}
use Rattle.chorus_turn.specs.declared.knowledge.Note.{Note}
use Rattle.chorus_turn.specs.declared.knowledge.Placed.{Placed}
use Rattle.chorus_turn.specs.Lists.{somes}
use Rattle.chorus_turn.specs.Knowing.{note_of}
use Rattle.law_closing.specs.Places.{PlaceNote}
use Rattle.chorus_nucleus.specs.SiteTurns.Turning.{HasSeenMore}
use Rattle.chorus_nucleus.proofs.Behind.{more-itself}
use Rattle.chorus_nucleus.specs.declared.fault.CallFault.{CallFault}
use Rattle.chorus_nucleus.specs.declared.nucleus.Nucleus.{Nucleus}
use Rattle.chorus_nucleus.specs.declared.pass.Pass.{Pass}
use Rattle.chorus_nucleus.specs.Passes.{layout_of, known, caller_of, worn_by, IsPassOf}
use Rattle.chorus_nucleus.specs.Taking.{acts_made, Appends, IsByTakes, SeesMore}
use Rattle.chorus_nucleus.proofs.Trying.{sees-then}
use Rattle.chorus_nucleus.proofs.TakeTurns.{sees-same}
use Rattle.chorus_crew.specs.declared.fault.Unfinished.{Unfinished}
use Rattle.chorus_crew.specs.declared.folding.EndedBy.{EndedBy}
use Rattle.chorus_crew.specs.declared.folding.EndedBy.TheVariants as ends
use Rattle.chorus_crew.specs.declared.folding.Folded.{Folded}
use Rattle.chorus_crew.specs.declared.job.Done.{Done}
use Rattle.chorus_crew.specs.declared.job.Job.{Job}
use Rattle.chorus_crew.specs.declared.job.Tally.{Tally}
use Rattle.chorus_crew.specs.Endings.{last_acts, fault_of}
use Rattle.chorus_crew.specs.Handling.{Way, took_acts, Drains}
use Rattle.chorus_crew.specs.Jobs.{IsPlain, IsJobOf, IsDoneOf, AreDoneOf, IsNumbered, IsEntered, AreEntered, BeginAt, HasDrawn}
use Rattle.chorus_crew.specs.Retiring.{TakesIn, TookAlone, IsRetired, HasTakenNothing, IsFullSlot, passes_of, folded_of, folded_with, is_done}
use Rattle.chorus_crew.specs.Crews.{IsFolded, AreEach, HasFolded, HasFoldedAll, HasStopped, HasCause}
use Rattle.chorus_crew.proofs.Draining.{given-later}
use Rattle.chorus_crew.proofs.Ended.{all-reverse}

abbrev notes_of : List Pass → List (Note PlaceNote)
notes_of ps = map (λ (p : Pass). note_of (known p)) ps

-- Jobs that were made.

pub entered-jobs : (n : Nucleus) (index seat : ℕ) (pairs : List (Ui × Ui)) (jobs : List Job) → All (λ (p : Ui × Ui). is_port p.0 ≡ true) pairs → AreEntered n index seat pairs jobs → All (IsJobOf n) jobs
entered-jobs n index seat [] [] ports e = All-nil (IsJobOf n)
entered-jobs n index seat [] (j ∷ jobs) ports e = absurd e
entered-jobs n index seat (p ∷ pairs) [] ports e = absurd e
entered-jobs n index seat (p ∷ pairs) (j ∷ jobs) ports e =
    All-cons (IsJobOf n) j jobs
    (e.0.plain.of_nucleus, subst (λ q. is_port q ≡ true) (sym e.0.of_port) (All-head (λ (z : Ui × Ui). is_port z.0 ≡ true) p pairs ports))
    (entered-jobs n (index + 1) (seat + 1) pairs jobs (All-tail (λ (z : Ui × Ui). is_port z.0 ≡ true) p pairs ports) e.1)

numbered-from : (n : Nucleus) (index seat : ℕ) (pairs : List (Ui × Ui)) (jobs : List Job) → AreEntered n index seat pairs jobs → (i : ℕ) (j : Job) → slice_get jobs i ≡ Some j → j.index ≡ index + i
numbered-from n index seat [] [] e i j at = absurd (cc)
numbered-from n index seat [] (x ∷ jobs) e i j at = absurd e
numbered-from n index seat (p ∷ pairs) [] e i j at = absurd e
numbered-from n index seat (p ∷ pairs) (x ∷ jobs) e zero j at = let same : x ≡ j = cc in let k = ap (λ (z : Job). z.index) same in let m = e.0.number in omega (arith, k, m)
numbered-from n index seat (p ∷ pairs) (x ∷ jobs) e (suc i) j at = let more = numbered-from n (index + 1) (seat + 1) pairs jobs e.1 i j at in omega (arith, more)

pub entered-numbers : (n : Nucleus) (seat : ℕ) (pairs : List (Ui × Ui)) (jobs : List Job) → AreEntered n 0 seat pairs jobs → IsNumbered jobs
entered-numbers n seat pairs jobs e i j at = let is = numbered-from n 0 seat pairs jobs e i j at in omega (arith, is)

pub entered-count : (n : Nucleus) (index seat : ℕ) (pairs : List (Ui × Ui)) (jobs : List Job) → AreEntered n index seat pairs jobs → length jobs ≡ length pairs
entered-count n index seat [] [] e = refl
entered-count n index seat [] (j ∷ jobs) e = absurd e
entered-count n index seat (p ∷ pairs) [] e = absurd e
entered-count n index seat (p ∷ pairs) (j ∷ jobs) e = ap suc (entered-count n (index + 1) (seat + 1) pairs jobs e.1)

pub entered-more : (n : Nucleus) (index seat at next : ℕ) (pairs : List (Ui × Ui)) (p : Ui × Ui) (jobs : List Job) (j : Job) → AreEntered n index seat pairs jobs → at ≡ index + length pairs → next ≡ seat + length pairs
    → IsEntered n at next p j → AreEntered n index seat (pairs ++ p ∷ []) (jobs ++ j ∷ [])
entered-more n index seat at next [] p [] j e a b here =
    (subst (λ z. IsEntered n z seat p j) (let e1 : at ≡ index = omega (arith, a) in e1) (subst (λ z. IsEntered n at z p j) (let e2 : next ≡ seat = omega (arith, b) in e2) here), tt)
entered-more n index seat at next [] p (x ∷ jobs) j e a b here = absurd e
entered-more n index seat at next (q ∷ pairs) p [] j e a b here = absurd e
entered-more n index seat at next (q ∷ pairs) p (x ∷ jobs) j e a b here =
    (e.0, entered-more n (index + 1) (seat + 1) at next pairs p jobs j e.1 (omega (arith, a)) (omega (arith, b)) here)

-- Jobs that are done: their passes end in the caller's.

done-plain : {S : Type 0} (way : Way S) (n : Nucleus) (j : Job) (d : Done S) → IsPlain n j.pass → IsDoneOf way n j d → IsPlain n d.pass
done-plain way n j d p is = record { of_nucleus = is.work.keeps.pass; keeper = is.work.keeps.standing.2 ∙ p.keeper; notes = is.work.keeps.standing.1 ∙ p.notes }

pub done-slots : {S : Type 0} (way : Way S) (n : Nucleus) (index seat : ℕ) (pairs : List (Ui × Ui)) (jobs : List Job) (dones : List (Done S)) → AreEntered n index seat pairs jobs → AreDoneOf way n jobs dones
    → All (IsFullSlot n) (somes dones)
done-slots way n index seat [] [] [] e d = All-nil (IsFullSlot n)
done-slots way n index seat [] [] (x ∷ dones) e d = absurd d
done-slots way n index seat [] (j ∷ jobs) dones e d = absurd e
done-slots way n index seat (p ∷ pairs) [] dones e d = absurd e
done-slots way n index seat (p ∷ pairs) (j ∷ jobs) [] e d = absurd d
done-slots way n index seat (p ∷ pairs) (j ∷ jobs) (x ∷ dones) e d =
    All-cons (IsFullSlot n) (Some x) (somes dones) (x, refl, done-plain way n j x e.0.plain d.0) (done-slots way n (index + 1) (seat + 1) pairs jobs dones e.1 d.1)

pub done-count : {S : Type 0} (way : Way S) (n : Nucleus) (jobs : List Job) (dones : List (Done S)) → AreDoneOf way n jobs dones → length (somes dones) ≡ length jobs
done-count way n [] [] d = refl
done-count way n [] (x ∷ dones) d = absurd d
done-count way n (j ∷ jobs) [] d = absurd d
done-count way n (j ∷ jobs) (x ∷ dones) d = ap suc (done-count way n jobs dones d.1)

made-acts : (acts : List Act) (v u : Knowledge PlaceNote) → v.mine ≡ [] → Appends acts v u → acts_made u.mine ≡ acts
made-acts acts v u none a = ap acts_made (a.grown ∙ ap (λ zs. zs ++ a.news) none) ∙ a.acts_are

worked-alone : {S : Type 0} (way : Way S) (l : Layout) (q : Ui) (from count : ℕ) (state : S) (ended : EndedBy) (v u : Knowledge PlaceNote) → v.mine ≡ [] → Drains way l q from count state ended v u → TookAlone u.mine
worked-alone way l q from count state ended v u none w = record { port = q; took = w.took; ended = ended; acts = made-acts (took_acts q w.took ++ last_acts q ended) v u none w.appends }

pub done-alone : {S : Type 0} (way : Way S) (n : Nucleus) (index seat : ℕ) (pairs : List (Ui × Ui)) (jobs : List Job) (dones : List (Done S)) → AreEntered n index seat pairs jobs → AreDoneOf way n jobs dones
    → All (λ (m : Note PlaceNote). TookAlone m.mine) (notes_of (passes_of dones)) × (length (notes_of (passes_of dones)) ≡ length pairs)
done-alone way n index seat [] [] [] e d = (All-nil (λ (m : Note PlaceNote). TookAlone m.mine), refl)
done-alone way n index seat [] [] (x ∷ dones) e d = absurd d
done-alone way n index seat [] (j ∷ jobs) dones e d = absurd e
done-alone way n index seat (p ∷ pairs) [] dones e d = absurd e
done-alone way n index seat (p ∷ pairs) (j ∷ jobs) [] e d = absurd d
done-alone way n index seat (p ∷ pairs) (j ∷ jobs) (x ∷ dones) e d =
    let more = done-alone way n (index + 1) (seat + 1) pairs jobs dones e.1 d.1 in
    (All-cons (λ (m : Note PlaceNote). TookAlone m.mine) (note_of (known x.pass)) (notes_of (passes_of dones)) (worked-alone way (layout_of n) j.port x.tally.from x.tally.count x.tally.state x.tally.ended (known j.pass) (known x.pass) e.0.nothing d.0.work.work) more.0, ap suc more.1)

fresh-alone : (n : Nucleus) (index seat : ℕ) (p : Ui × Ui) (j : Job) → IsEntered n index seat p j → TookAlone (known j.pass).mine
fresh-alone n index seat p j e = record { port = p.0; took = []; ended = ends.Fault (CallFault.Busy 0); acts = ap acts_made e.nothing }

pub fresh-all : (n : Nucleus) (index seat : ℕ) (pairs : List (Ui × Ui)) (jobs : List Job) → AreEntered n index seat pairs jobs → All (λ (j : Job). IsPlain n j.pass × TookAlone (known j.pass).mine) jobs
fresh-all n index seat [] [] e = All-nil (λ (j : Job). IsPlain n j.pass × TookAlone (known j.pass).mine)
fresh-all n index seat [] (j ∷ jobs) e = absurd e
fresh-all n index seat (p ∷ pairs) [] e = absurd e
fresh-all n index seat (p ∷ pairs) (j ∷ jobs) e =
    All-cons (λ (j : Job). IsPlain n j.pass × TookAlone (known j.pass).mine) j jobs (e.0.plain, fresh-alone n index seat p j e.0) (fresh-all n (index + 1) (seat + 1) pairs jobs e.1)

pub notes-alone : (jobs : List Job) → All (λ (j : Job). TookAlone (known j.pass).mine) jobs → All (λ (m : Note PlaceNote). TookAlone m.mine) (notes_of (map (λ (j : Job). j.pass) jobs))
notes-alone [] a = All-nil (λ (m : Note PlaceNote). TookAlone m.mine)
notes-alone (j ∷ jobs) a = All-cons (λ (m : Note PlaceNote). TookAlone m.mine) (note_of (known j.pass)) (notes_of (map (λ (x : Job). x.pass) jobs))
    (All-head (λ (x : Job). TookAlone (known x.pass).mine) j jobs a) (notes-alone jobs (All-tail (λ (x : Job). TookAlone (known x.pass).mine) j jobs a))

pub notes-count : (ps : List Pass) → length (notes_of ps) ≡ length ps
notes-count [] = refl
notes-count (p ∷ ps) = ap suc (notes-count ps)

-- The caller's pass, with all that were drawn retired.
pub retired : (n : Nucleus) (count : ℕ) (a b c : Pass) (ended : List Pass) → (known a).keeper ≡ true → HasDrawn n count a b → TakesIn n b c ended → length (notes_of ended) ≡ count
    → All (λ (m : Note PlaceNote). TookAlone m.mine) (notes_of ended) → IsRetired n a c
retired n count a b c ended keeper d t len alone = record {
  pass = t.pass;
  keeper = t.keeper ∙ ap (λ (v : Knowledge PlaceNote). v.keeper) d.knows ∙ keeper;
  seat = t.seat ∙ ap (λ (v : Knowledge PlaceNote). v.seat) d.knows;
  mine = t.mine ∙ ap (λ (v : Knowledge PlaceNote). v.mine) d.knows;
  caller = subst (λ w. HasSeenMore w (caller_of c)) d.caller t.caller;
  news = notes_of ended;
  notes = t.notes ∙ ap (λ zs. zs ++ notes_of ended) (ap (λ (v : Knowledge PlaceNote). v.notes) d.knows);
  drawn = let m = t.made in let k = ap (λ (v : Knowledge PlaceNote). v.made) d.knows in omega (arith, m, k, len);
  alone = alone;
}

-- with none drawn
pub retired-none : (n : Nucleus) (a : Pass) → IsPassOf n a → (known a).keeper ≡ true → IsRetired n a a
retired-none n a is keeper = record {
  pass = is;
  keeper = keeper;
  seat = refl;
  mine = refl;
  caller = more-itself (caller_of a);
  news = [];
  notes = sym (append-nil (known a).notes);
  drawn = let e : (known a).made ≡ (known a).made + 0 = omega arith in e;
  alone = All-nil (λ (m : Note PlaceNote). TookAlone m.mine);
}

-- What the jobs gave.

folded-one : {S : Type 0} (way : Way S) (l : Layout) (q port : Ui) (t : Tally S) (v u w : Knowledge PlaceNote) → port ≡ q → v.mine ≡ [] → SeesMore u w → Drains way l q t.from t.count t.state t.ended v u
    → IsFolded way l w q u.mine (folded_with port t)
folded-one way l q port t v u w same none more d = record {
  port = same;
  took = d.took;
  given = given-later l q d.took u w more d.given;
  acts = made-acts (took_acts q d.took ++ last_acts q t.ended) v u none d.appends;
  folds = d.folds;
}

-- a pass that made nothing
by-none : (l : Layout) (q actor : Ui) (clock : ℕ) (mine : List (Placed PlaceNote)) → mine ≡ [] → IsByTakes l q actor clock mine
by-none l q actor clock mine none = subst (IsByTakes l q actor clock) (sym none) record {
  places = All-nil (λ (m : Placed PlaceNote). m.place ≡ place_for l actor (Command.Take q));
  within = All-nil (λ (m : Placed PlaceNote). m.remarked.remark.before.actor ≡ actor);
  turns = All-nil (λ (t : PlaceTurn). t.input ≡ Input.Command (Command.Take q));
  first = λ m rest e. absurd (cc);
}

done-takes : {S : Type 0} (way : Way S) (n : Nucleus) (clock index seat : ℕ) (p : Ui × Ui) (j : Job) (d : Done S) → IsEntered n index seat p j → clock ≤ (caller_of j.pass).last → IsDoneOf way n j d
    → IsByTakes (layout_of n) p.0 p.1 clock (known d.pass).mine
done-takes way n clock index seat p j d e le is =
    let l = layout_of n in
    let made = is.work.goes.takes clock le (by-none l j.port (caller_of j.pass).actor clock (known j.pass).mine e.nothing) in
    subst (λ a. IsByTakes l p.0 a clock (known d.pass).mine) e.of_actor (subst (λ q. IsByTakes l q (caller_of j.pass).actor clock (known d.pass).mine) e.of_port made)

module _ {S : Type 0} (way : Way S) (n : Nucleus) (w : Knowledge PlaceNote) (clock : ℕ) where
  pub all-folded : (index seat : ℕ) (pairs : List (Ui × Ui)) (jobs : List Job) (dones : List (Done S)) → AreEntered n index seat pairs jobs → BeginAt clock jobs → AreDoneOf way n jobs dones
      → All (λ (p : Pass). SeesMore (known p) w) (passes_of dones) → AreEach (IsFolded way (layout_of n) w) (layout_of n) clock seat pairs (notes_of (passes_of dones)) (folded_of dones)
  all-folded index seat [] [] [] e b d more = tt
  all-folded index seat [] [] (x ∷ dones) e b d more = absurd d
  all-folded index seat [] (j ∷ jobs) dones e b d more = absurd e
  all-folded index seat (p ∷ pairs) [] dones e b d more = absurd e
  all-folded index seat (p ∷ pairs) (j ∷ jobs) [] e b d more = absurd d
  all-folded index seat (p ∷ pairs) (j ∷ jobs) (x ∷ dones) e b d more =
      let sees = All-head (λ (z : Pass). SeesMore (known z) w) x.pass (passes_of dones) more in
      let one = folded-one way (layout_of n) j.port x.port x.tally (known j.pass) (known x.pass) w d.0.port e.0.nothing sees d.0.work.work in
      let rest = all-folded (index + 1) (seat + 1) pairs jobs dones e.1 (All-tail (λ (z : Job). clock ≤ (caller_of z.pass).last) j jobs b) d.1 (All-tail (λ (z : Pass). SeesMore (known z) w) x.pass (passes_of dones) more) in
      (d.0.work.keeps.standing.0 ∙ e.0.seat_is, done-takes way n clock index seat p j x e.0 (All-head (λ (z : Job). clock ≤ (caller_of z.pass).last) j jobs b) d.0, subst (λ q. IsFolded way (layout_of n) w q (known x.pass).mine (folded_with x.port x.tally)) e.0.of_port one, rest)

is-none : (o : Option CallFault) → is_none o ≡ true → o ≡ None
is-none None e = refl
is-none (Some f) e = absurd (cc)

all-whole : {S : Type 0} (dones : List (Done S)) → is_done dones ≡ true → All (λ (f : Folded S). fault_of f.ended ≡ None) (folded_of dones)
all-whole {S} [] all = All-nil (λ (f : Folded S). fault_of f.ended ≡ None)
all-whole {S} (x ∷ dones) all =
    let both = and_parts (is_none (fault_of x.tally.ended)) (is_done dones) all in
    All-cons (λ (f : Folded S). fault_of f.ended ≡ None) (folded_with x.port x.tally) (folded_of dones) (is-none (fault_of x.tally.ended) both.0) (all-whole dones both.1)

-- All that was drawn ended in the caller's pass.

pub all-retired : {S : Type 0} (way : Way S) (n : Nucleus) (pairs : List (Ui × Ui)) (jobs : List Job) (dones : List (Done S)) (a b c : Pass) → (known a).keeper ≡ true → HasDrawn n (length pairs) a b
    → AreEntered n 0 (known a).made pairs jobs → AreDoneOf way n jobs dones → TakesIn n b c (passes_of dones) → IsRetired n a c
all-retired way n pairs jobs dones a b c keeper drawn e d t =
    let k = done-alone way n 0 (known a).made pairs jobs dones e d in retired n (length pairs) a b c (passes_of dones) keeper drawn t k.1 k.0

pub has-folded : {S : Type 0} (way : Way S) (n : Nucleus) (pairs : List (Ui × Ui)) (jobs : List Job) (dones : List (Done S)) (a b c : Pass) (folded : List (Folded S)) → HasDrawn n (length pairs) a b
    → AreEntered n 0 (known a).made pairs jobs → BeginAt (caller_of a).last jobs → AreDoneOf way n jobs dones → TakesIn n b c (passes_of dones) → folded ≡ folded_of dones → HasFolded way n pairs folded a c
has-folded way n pairs jobs dones a b c folded drawn e later d t is = record {
  news = notes_of (passes_of dones);
  notes = t.notes ∙ ap (λ zs. zs ++ notes_of (passes_of dones)) (ap (λ (v : Knowledge PlaceNote). v.notes) drawn.knows);
  each = subst (AreEach (IsFolded way (layout_of n) (known c)) (layout_of n) (caller_of a).last (known a).made pairs (notes_of (passes_of dones))) (sym is) (all-folded way n (known c) (caller_of a).last 0 (known a).made pairs jobs dones e later d t.seen);
  sees = sees-then (known a) (known b) (known c) (sees-same (known a) (known b) (ap (λ (v : Knowledge PlaceNote). v.seen) drawn.knows)) t.sees;
}

-- What the crew answers with these.

pub ok-folded : {S : Type 0} (way : Way S) (n : Nucleus) (pairs : List (Ui × Ui)) (dones : List (Done S)) (a c : Pass) (folded : Vec (Folded S)) (all : Bool) (worn : Option ℕ) (r : Result (Vec (Folded S)) (Unfinished S))
    → IfOk r (λ v. (v ≡ folded) × (all ≡ true) × (worn ≡ None)) → folded.items ≡ folded_of dones → all ≡ is_done dones → HasFolded way n pairs folded.items a c → IfOk r (λ v. HasFoldedAll way n pairs v.items a c)
ok-folded {S} way n pairs dones a c folded all worn (Ok v) h is done f =
    subst (λ (w : Vec (Folded S)). HasFoldedAll way n pairs w.items a c) (sym h.0)
    (f, subst (λ (fs : List (Folded S)). All (λ (x : Folded S). fault_of x.ended ≡ None) fs) (sym is) (all-whole dones (sym done ∙ h.1)))
ok-folded way n pairs dones a c folded all worn (Err e) h is done f = tt

none-is : (o : Option CallFault) → o ≡ None → is_none o ≡ true
none-is o e = ap is_none e

whole-done : {S : Type 0} (dones : List (Done S)) → All (λ (f : Folded S). fault_of f.ended ≡ None) (folded_of dones) → is_done dones ≡ true
whole-done [] all = refl
whole-done {S} (x ∷ dones) all =
    let P = λ (f : Folded S). fault_of f.ended ≡ None in
    let first = none-is (fault_of x.tally.ended) (All-head P (folded_with x.port x.tally) (folded_of dones) all) in
    let rest = whole-done dones (All-tail P (folded_with x.port x.tally) (folded_of dones) all) in
    (λ i. first i && rest i)

not-whole : (b : Bool) → b ≡ true → b ≡ false → ⊥
not-whole b is is_not = absurd (false≢true (sym is_not ∙ is))

has-cause : {S : Type 0} (dones : List (Done S)) (worn now : Option ℕ) (folded : List (Folded S)) (all : Bool) → now ≡ worn → folded ≡ folded_of dones → all ≡ is_done dones → (worn ≡ None → all ≡ false) → HasCause now folded
has-cause {S} dones worn now folded all same is done stopped none whole =
    not-whole all (done ∙ whole-done dones (subst (λ (fs : List (Folded S)). All (λ (f : Folded S). fault_of f.ended ≡ None) fs) is whole)) (stopped (sym same ∙ none))

pub err-folded : {S : Type 0} (way : Way S) (n : Nucleus) (pairs : List (Ui × Ui)) (dones : List (Done S)) (a c : Pass) (folded : Vec (Folded S)) (all : Bool) (worn : Option ℕ) (r : Result (Vec (Folded S)) (Unfinished S))
    → worn_by c ≡ worn → IfErr r (λ s. s.folded ≡ folded) → OnErr r (worn ≡ None → all ≡ false) → folded.items ≡ folded_of dones → all ≡ is_done dones → HasFolded way n pairs folded.items a c → IfErr r (λ s. HasStopped way n pairs s.folded.items a c)
err-folded way n pairs dones a c folded all worn (Ok v) same h stopped is done f = tt
err-folded {S} way n pairs dones a c folded all worn (Err e) same h stopped is done f =
    inr (subst (λ (w : Vec (Folded S)). HasFolded way n pairs w.items a c × HasCause (worn_by c) w.items) (sym h) (f, has-cause dones worn (worn_by c) folded.items all same is done stopped))

-- with none drawn nothing was taken
pub took-nothing : (a : Pass) → HasTakenNothing a a
took-nothing a = record { news = []; notes = sym (append-nil (known a).notes); nothing = All-nil (λ (m : Note PlaceNote). m.mine ≡ []) }

fresh-nothing : (n : Nucleus) (index seat : ℕ) (pairs : List (Ui × Ui)) (jobs : List Job) → AreEntered n index seat pairs jobs → All (λ (j : Job). (known j.pass).mine ≡ []) jobs
fresh-nothing n index seat [] [] e = All-nil (λ (j : Job). (known j.pass).mine ≡ [])
fresh-nothing n index seat [] (j ∷ jobs) e = absurd e
fresh-nothing n index seat (p ∷ pairs) [] e = absurd e
fresh-nothing n index seat (p ∷ pairs) (j ∷ jobs) e = All-cons (λ (j : Job). (known j.pass).mine ≡ []) j jobs e.0.nothing (fresh-nothing n (index + 1) (seat + 1) pairs jobs e.1)

notes-nothing : (jobs : List Job) → All (λ (j : Job). (known j.pass).mine ≡ []) jobs → All (λ (m : Note PlaceNote). m.mine ≡ []) (notes_of (map (λ (j : Job). j.pass) jobs))
notes-nothing [] a = All-nil (λ (m : Note PlaceNote). m.mine ≡ [])
notes-nothing (j ∷ jobs) a = All-cons (λ (m : Note PlaceNote). m.mine ≡ []) (note_of (known j.pass)) (notes_of (map (λ (x : Job). x.pass) jobs))
    (All-head (λ (x : Job). (known x.pass).mine ≡ []) j jobs a) (notes-nothing jobs (All-tail (λ (x : Job). (known x.pass).mine ≡ []) j jobs a))

-- the jobs that were made are retired again
pub undone-nothing : (n : Nucleus) (k seat : ℕ) (pairs : List (Ui × Ui)) (jobs : List Job) (a b c : Pass) → AreEntered n 0 seat pairs jobs → HasDrawn n k a b → TakesIn n b c (map (λ (j : Job). j.pass) (reverse jobs)) → HasTakenNothing a c
undone-nothing n k seat pairs jobs a b c e d t = record {
  news = notes_of (map (λ (j : Job). j.pass) (reverse jobs));
  notes = t.notes ∙ ap (λ zs. zs ++ notes_of (map (λ (j : Job). j.pass) (reverse jobs))) (ap (λ (v : Knowledge PlaceNote). v.notes) d.knows);
  nothing = notes-nothing (reverse jobs) (all-reverse (λ (j : Job). (known j.pass).mine ≡ []) jobs (fresh-nothing n 0 seat pairs jobs e));
}

pub ok-unworn : {S : Type 0} (a worn : Option ℕ) (folded : Vec (Folded S)) (all : Bool) (r : Result (Vec (Folded S)) (Unfinished S)) → IfOk r (λ v. (v ≡ folded) × (all ≡ true) × (worn ≡ None)) → a ≡ worn → OnOk r (a ≡ None)
ok-unworn a worn folded all (Ok v) h e = e ∙ h.2
ok-unworn a worn folded all (Err x) h e = tt
