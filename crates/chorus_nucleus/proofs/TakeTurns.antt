-- What a call with a Take did, as a take.
-- n is a nucleus, l a layout, p the number of a place, q a port, v and u are what a pass knows before and after, w and x its caller.
use Rattle.std.proofs.Common.{ℕ, ◌≡◌, ◌+◌, ◌<◌, ◌≤◌, arith, true, List, [], ◌∷◌, ◌++◌, Option, Some, None, Result, Ok, Err, refl, sym, ◌∙◌, ap, subst}
use mathlib.Core.Logic.{dite}
use native.Mathlib.Decide.{ℕ_discrete}
use Rattle.std.specs.List.{All}
use Rattle.std.proofs.lemmas.Bool.{and_parts}
use Rattle.std.proofs.lemmas.List.Elements.{All-nil, All-cons, All-append}
use Rattle.chorus_ui.specs.declared.ui.Ui.{Ui}
use Rattle.chorus_ui.specs.declared.layout.Layout.{Layout}
use Rattle.chorus_ui.specs.Layout.{has_place}
use Rattle.chorus_entry.specs.declared.entry.Entry.{Entry}
use Rattle.chorus_entry.specs.declared.command.Command.{Command}
use Rattle.chorus_entry.specs.declared.message.Message.{Message}
use Rattle.chorus_entry.specs.Places.{place_for}
use Rattle.chorus_calls.specs.declared.client.Settle.{Settle}
use Rattle.chorus_calls.specs.Callers.{Seated}
use Rattle.law_machine.specs.declared.reply.Reply.{Reply}
use Rattle.law_replies.specs.Taking.{taken_acts, answers_take, acts_of}
use Rattle.law_replies.proofs.Turns.{takes-append}
use Rattle.law_history.specs.declared.turns.Input.{Input}
use Rattle.law_history.specs.Journals.{PlaceTurn}
use Rattle.law_history.specs.PlaceTurns.{may_come, machine}
use Rattle.law_history.proofs.Lists.{reverse-first}
use Rattle.chorus_turn.specs.declared.knowledge.Remarked.{Remarked}
use Rattle.chorus_turn.specs.declared.knowledge.Placed.{Placed}
use Rattle.chorus_turn.specs.declared.knowledge.Knowledge.{Knowledge}
use Rattle.chorus_turn.specs.Lists.{StartsWith, list_at, list_put}
use Rattle.chorus_turn.specs.Journals.{with_place}
use Rattle.chorus_turn.specs.Knowing.{seen_at, after_turn}
use Rattle.chorus_turn.proofs.Fronts.{put_here, put_elsewhere, starts_itself, starts_more, starts_same}
use Rattle.law_closing.specs.Actors.{AreIn}
use Rattle.law_closing.specs.Growth.{noted}
use Rattle.law_closing.specs.Remarks.{numbered, remarked, turn_of, turns_in}
use Rattle.law_closing.proofs.Growth.{turns_in-append, turns_in-placed, turns_at-remarked}
use Rattle.law_closing.specs.Places.{PlaceNote}
use Rattle.chorus_nucleus.specs.declared.fault.CallFault.{CallFault}
use Rattle.chorus_nucleus.specs.declared.fault.CallFault.TheVariants as faults
use Rattle.chorus_nucleus.specs.declared.nucleus.Nucleus.{Nucleus}
use Rattle.chorus_nucleus.specs.declared.pass.Pass.{Pass}
use Rattle.chorus_nucleus.specs.SiteTurns.Turning.{HasSeenMore}
use Rattle.chorus_nucleus.proofs.Behind.{more-up}
use Rattle.chorus_nucleus.specs.Passes.{layout_of, known, caller_of, worn_by}
use Rattle.chorus_nucleus.specs.Calls.{Because, Performs, IsCall, place_of, worn_after}
use Rattle.chorus_nucleus.specs.declared.taken_message.TakeAnswer.{TakeAnswer}
use Rattle.chorus_nucleus.specs.declared.taken_message.TakeAnswer.TheVariants as answers
use Rattle.chorus_nucleus.specs.Taking.{acts_made, Appends, Gives, HasOrigin, SeesMore, KeepsPass, IsByTakes, TakesOn, IsTake}
use Rattle.chorus_nucleus.specs.Answers.{reply_of}

made-acts : (p k : ℕ) (seen : List (List (Remarked PlaceNote))) (r : PlaceNote) (es : List Entry) → acts_made (with_place p seen (numbered k r es)) ≡ acts_of es
made-acts p k seen r [] = refl
made-acts p k seen r (e ∷ es) = ap (λ zs. e.act ∷ zs) (made-acts p (k + 1) seen r es)

-- What a pass has seen grows.

sees-put : (p : ℕ) (all : List (Remarked PlaceNote)) (v : Knowledge PlaceNote) (row : List (List (Remarked PlaceNote))) → row ≡ list_put p all v.seen
    → StartsWith all (seen_at p v) → (k : ℕ) → StartsWith (list_at k row) (seen_at k v)
sees-put p all v row is starts k =
    subst (λ z. StartsWith (list_at k z) (seen_at k v)) (sym is)
    (dite (ℕ_discrete k p)
    (λ e. subst (λ j. StartsWith (list_at j (list_put p all v.seen)) (seen_at j v)) (sym e)
    (starts_same all (list_at p (list_put p all v.seen)) (seen_at p v) (put_here p all v.seen) starts))
    (λ apart. starts_same (seen_at k v) (list_at k (list_put p all v.seen)) (seen_at k v) (put_elsewhere p k all v.seen apart) (starts_itself (seen_at k v))))

pub sees-turn : (p : ℕ) (found news : List (Remarked PlaceNote)) (v u : Knowledge PlaceNote) → u ≡ after_turn p found news v → StartsWith found (seen_at p v) → SeesMore v u
sees-turn p found news v u knows starts k = sees-put p (found ++ news) v u.seen (ap (λ (z : Knowledge PlaceNote). z.seen) knows) (starts_more found (seen_at p v) news starts) k

pub sees-same : (v u : Knowledge PlaceNote) → u.seen ≡ v.seen → SeesMore v u
sees-same v u same k = starts_same (seen_at k v) (seen_at k u) (seen_at k v) (ap (λ row. list_at k row) same) (starts_itself (seen_at k v))

pub sees-fault : (l : Layout) (p : ℕ) (f : CallFault) (v : Knowledge PlaceNote) (w : Seated) (u : Knowledge PlaceNote) (x : Seated) → Because f l p v w u x → SeesMore v u
sees-fault l p (faults.Busy by) v w u x b = sees-same v u (ap (λ (z : Knowledge PlaceNote). z.seen) b.0.knows)
sees-fault l p (faults.Memory none) v w u x b = sees-turn p b.1.found [] v u b.1.knows b.1.shows.begins
sees-fault l p (faults.Worn clock) v w u x b = sees-turn p b.looks.found [] v u b.looks.knows b.looks.shows.begins

-- What a turn with a Take made.

module _ (l : Layout) (p : ℕ) (q : Ui) (r : Reply) (v u : Knowledge PlaceNote) (w x : Seated) (h : Performs l p (Command.Take q) r v w u x) where
  abbrev all : List Entry
  all = h.turn.entry ∷ h.turn.later

  told : (acts_of all ≡ taken_acts q r) × (answers_take r ≡ true)
  told =
      let t = takes-append h.state w q all (h.turn.journal ∙ sym (reverse-first h.turn.entry h.turn.later h.state.journal)) in
      (subst (λ z. acts_of all ≡ taken_acts q z) (sym h.answer) t.0, subst (λ z. answers_take z ≡ true) (sym h.answer) t.1)

  pub appends : Appends (taken_acts q r) v u
  appends = record {
    news = with_place p v.seen (remarked _ all);
    grown = ap (λ (z : Knowledge PlaceNote). z.mine) h.turn.knows;
    acts_are = made-acts p 0 v.seen _ all ∙ told.0;
  }

  pub is-answer : answers_take r ≡ true
  is-answer = told.1

  pub sees : SeesMore v u
  sees = sees-turn p h.turn.found (remarked _ all) v u h.turn.knows h.turn.shows.begins

  pub origin : HasOrigin l q r u
  origin = record {
    place = p;
    found = h.turn.found;
    state = h.state;
    caller = w;
    there = (and_parts (has_place l p) (may_come l p (Input.Command (Command.Take q)) w) h.turn.may).0;
    leads = h.turn.leads;
    gives = sym h.answer;
    seen = starts_same (h.turn.found ++ remarked _ all) (seen_at p u) h.turn.found
        (ap (λ (z : Knowledge PlaceNote). seen_at p z) h.turn.knows ∙ put_here p (h.turn.found ++ remarked _ all) v.seen)
        (starts_more h.turn.found h.turn.found (remarked _ all) (starts_itself h.turn.found));
  }

-- A turn with a Take, as one of several.

abbrev IsIn : Ui → Placed PlaceNote → Type 0
IsIn actor m = m.remarked.remark.before.actor ≡ actor

placed-at : (p k : ℕ) (seen : List (List (Remarked PlaceNote))) (r : PlaceNote) (es : List Entry) → All (λ (m : Placed PlaceNote). m.place ≡ p) (with_place p seen (numbered k r es))
placed-at p k seen r [] = All-nil (λ (m : Placed PlaceNote). m.place ≡ p)
placed-at p k seen r (e ∷ es) =
    All-cons (λ (m : Placed PlaceNote). m.place ≡ p) (record { place = p; seen = seen; remarked = record { entry = e; remark = record r { nth = k } } }) (with_place p seen (numbered (k + 1) r es)) refl
    (placed-at p (k + 1) seen r es)

placed-in : (p k : ℕ) (seen : List (List (Remarked PlaceNote))) (r : PlaceNote) (es : List Entry) → AreIn r.before.actor (with_place p seen (numbered k r es))
placed-in p k seen r [] = All-nil (IsIn r.before.actor)
placed-in p k seen r (e ∷ es) =
    All-cons (IsIn r.before.actor) (record { place = p; seen = seen; remarked = record { entry = e; remark = record r { nth = k } } }) (with_place p seen (numbered (k + 1) r es)) refl
    (placed-in p (k + 1) seen r es)

first-above : (clock : ℕ) (mine news : List (Placed PlaceNote)) (n : Placed PlaceNote) (more : List (Placed PlaceNote)) → news ≡ n ∷ more → clock < n.remarked.entry.clock
    → ((m : Placed PlaceNote) (rest : List (Placed PlaceNote)) → mine ≡ m ∷ rest → clock < m.remarked.entry.clock)
    → (m : Placed PlaceNote) (rest : List (Placed PlaceNote)) → mine ++ news ≡ m ∷ rest → clock < m.remarked.entry.clock
first-above clock [] news n more is lt old m rest e =
    let same : n ≡ m = (let both = sym is ∙ e in cc) in subst (λ (z : Placed PlaceNote). clock < z.remarked.entry.clock) same lt
first-above clock (z ∷ mine) news n more is lt old m rest e =
    let same : z ≡ m = cc in subst (λ (y : Placed PlaceNote). clock < y.remarked.entry.clock) same (old z mine refl)

module _ (l : Layout) (p : ℕ) (q : Ui) (r : Reply) (v u : Knowledge PlaceNote) (w x : Seated) (h : Performs l p (Command.Take q) r v w u x) where
  abbrev remark : PlaceNote
  remark = noted (machine l) p (Input.Command (Command.Take q)) h.state w

  abbrev news : List (Placed PlaceNote)
  news = with_place p v.seen (remarked remark (h.turn.entry ∷ h.turn.later))

  grown : u.mine ≡ v.mine ++ news
  grown = ap (λ (z : Knowledge PlaceNote). z.mine) h.turn.knows

  one-turn : turns_in u.mine ≡ turns_in v.mine ++ turn_of p (record { entry = h.turn.entry; remark = remark }) ∷ []
  one-turn =
      ap turns_in grown ∙ turns_in-append v.mine news
      ∙ ap (λ ts. turns_in v.mine ++ ts) (turns_in-placed p v.seen (remarked remark (h.turn.entry ∷ h.turn.later)) ∙ turns_at-remarked p remark h.turn.entry h.turn.later)

  pub by-takes : (clock : ℕ) → clock ≤ w.last → p ≡ place_for l w.actor (Command.Take q) → IsByTakes l q w.actor clock v.mine → IsByTakes l q w.actor clock u.mine
  by-takes clock le place i =
      let at : All (λ (m : Placed PlaceNote). m.place ≡ place_for l w.actor (Command.Take q)) news = subst (λ z. All (λ (m : Placed PlaceNote). m.place ≡ z) news) place (placed-at p 0 v.seen remark (h.turn.entry ∷ h.turn.later)) in
      let above = h.turn.above in
      let T = λ (t : PlaceTurn). t.input ≡ Input.Command (Command.Take q) in
      record {
        places = subst (All (λ (m : Placed PlaceNote). m.place ≡ place_for l w.actor (Command.Take q))) (sym grown) (All-append (λ (m : Placed PlaceNote). m.place ≡ place_for l w.actor (Command.Take q)) v.mine news i.places at);
        within = subst (AreIn w.actor) (sym grown) (All-append (IsIn w.actor) v.mine news i.within (placed-in p 0 v.seen remark (h.turn.entry ∷ h.turn.later)));
        turns = subst (All T) (sym one-turn) (All-append T (turns_in v.mine) (turn_of p (record { entry = h.turn.entry; remark = remark }) ∷ []) i.turns (All-cons T (turn_of p (record { entry = h.turn.entry; remark = remark })) [] refl (All-nil T)));
        first = λ m rest e. first-above clock v.mine news
            (record { place = p; seen = v.seen; remarked = record { entry = h.turn.entry; remark = record remark { nth = 0 } } }) (with_place p v.seen (numbered 1 remark h.turn.later)) refl (omega (arith, le, above)) i.first m rest (sym grown ∙ e);
      }

  pub clock-rises : w.last ≤ x.last
  clock-rises = let above = h.turn.above in let upto = h.turn.upto in omega (arith, above, upto)

-- nothing was made, and the caller is as it was, but for what it was shown
pub takes-nothing : (n : Nucleus) (q : Ui) (a b : Pass) → (known b).mine ≡ (known a).mine → HasSeenMore (caller_of a) (caller_of b) → TakesOn n q a b
takes-nothing n q a b mine caller = record {
  last = more-up (caller_of a) (caller_of b) caller;
  takes = λ clock le i. subst (IsByTakes (layout_of n) q (caller_of a).actor clock) (sym mine) i;
}

-- The worn clock of an answer that is handed on.

pub worn-ok : {T : Type 0} (o : Option ℕ) (x : T) → worn_after o (Ok x) ≡ o
worn-ok None x = refl
worn-ok (Some clock) x = refl

pub worn-err : (S T : Type 0) (o : Option ℕ) (f : CallFault) → worn_after {T = S} o (Err f) ≡ worn_after {T = T} o (Err f)
worn-err S T (Some clock) f = refl
worn-err S T None (faults.Busy by) = refl
worn-err S T None (faults.Memory none) = refl
worn-err S T None (faults.Worn clock) = refl

-- The call.

module _ (n : Nucleus) (q : Ui) (old new : Pass) where
  kept : (r : Result Reply CallFault) → IsCall n (Command.Take q) old new r → SeesMore (known old) (known new) → KeepsPass n old new
  kept r h more = record { pass = h.pass; standing = h.standing; sees = more; seat = h.grows.seat; actor = h.grows.actor; sight = h.sight }

  sees-ok : (r : Reply) → IsCall n (Command.Take q) old new (Ok r) → SeesMore (known old) (known new)
  sees-ok r h = sees (layout_of n) (place_of n (Command.Take q) old) q r (known old) (known new) (caller_of old) (caller_of new) h.turn

  made : (r : Reply) → IsCall n (Command.Take q) old new (Ok r) → Appends (taken_acts q r) (known old) (known new)
  made r h = appends (layout_of n) (place_of n (Command.Take q) old) q r (known old) (known new) (caller_of old) (caller_of new) h.turn

  goes : (r : Reply) → IsCall n (Command.Take q) old new (Ok r) → TakesOn n q old new
  goes r h = record {
    last = clock-rises (layout_of n) (place_of n (Command.Take q) old) q r (known old) (known new) (caller_of old) (caller_of new) h.turn;
    takes = λ clock le i. by-takes (layout_of n) (place_of n (Command.Take q) old) q r (known old) (known new) (caller_of old) (caller_of new) h.turn clock le refl i;
  }

  pub answered : (r : Reply) → IsCall n (Command.Take q) old new (Ok r) → answers_take r ≡ true
  answered r h = is-answer (layout_of n) (place_of n (Command.Take q) old) q r (known old) (known new) (caller_of old) (caller_of new) h.turn

  pub gives : (r : Reply) → IsCall n (Command.Take q) old new (Ok r) → Gives (layout_of n) q r (known old) (known new)
  gives r h = record {
    appends = made r h;
    origin = origin (layout_of n) (place_of n (Command.Take q) old) q r (known old) (known new) (caller_of old) (caller_of new) h.turn;
  }

  answers-with : (a : TakeAnswer) → IsCall n (Command.Take q) old new (Ok (reply_of a)) → IsTake n q (Ok a) old new
  answers-with a h = let r = reply_of a in
      record {
        keeps = kept (Ok r) h (sees-ok r h);
        goes = goes r h;
        answer = gives r h;
        fault = tt;
        worn = h.worn ∙ worn-ok (worn_by old) r ∙ sym (worn-ok (worn_by old) a);
      }

  pub taken : (pos : ℕ) (m : Message) (settled : Option Settle) → IsCall n (Command.Take q) old new (Ok (Reply.Taken pos m settled))
      → IsTake n q (Ok (answers.Took record { position = pos; message = m; settled = settled; by_take = record {} })) old new
  taken pos m settled h = answers-with (answers.Took record { position = pos; message = m; settled = settled; by_take = record {} }) h

  pub empty : IsCall n (Command.Take q) old new (Ok Reply.Empty) → IsTake n q (Ok answers.Empty) old new
  empty h = answers-with answers.Empty h

  pub not-here : IsCall n (Command.Take q) old new (Ok Reply.NotHere) → IsTake n q (Ok answers.NotHere) old new
  not-here h = answers-with answers.NotHere h

  pub refused : (f : CallFault) → IsCall n (Command.Take q) old new (Err f) → IsTake n q (Err f) old new
  refused f h = record {
    keeps = kept (Err f) h (sees-fault (layout_of n) (place_of n (Command.Take q) old) f (known old) (caller_of old) (known new) (caller_of new) h.fault);
    goes = takes-nothing n q old new h.refused.mine h.refused.caller;
    answer = tt;
    fault = record { tried = known old; before = refl; because = h.fault; mine = h.refused.mine; caller = h.refused.caller };
    worn = h.worn ∙ worn-err Reply TakeAnswer (worn_by old) f;
  }

pub ruleset calls = (answered, taken, empty, not-here, refused)
