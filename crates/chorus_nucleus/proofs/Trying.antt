-- Takes one after another, and a take after tries that found the place held.
-- n is a nucleus, l a layout, q a port, v, m and u are what a pass knows at three moments.
use Rattle.std.proofs.Common.{ℕ, ◌≡◌, List, [], ◌∷◌, ◌++◌, Option, Some, None, Result, Ok, Err, refl, sym, ◌∙◌, ap, subst, append_assoc, append-nil, ◌≤◌, arith}
use Rattle.chorus_ui.specs.declared.ui.Ui.{Ui}
use Rattle.chorus_ui.specs.declared.layout.Layout.{Layout}
use Rattle.chorus_entry.specs.declared.act.Act.{Act}
use Rattle.chorus_entry.specs.declared.command.Command.{Command}
use Rattle.chorus_entry.specs.Places.{place_for}
use Rattle.law_machine.specs.declared.reply.Reply.{Reply}
use Rattle.law_replies.specs.Taking.{taken_acts}
use Rattle.chorus_turn.specs.declared.knowledge.Placed.{Placed}
use Rattle.chorus_turn.specs.declared.knowledge.Knowledge.{Knowledge}
use Rattle.chorus_turn.specs.Lists.{StartsWith}
use Rattle.chorus_turn.specs.Knowing.{IsSamePass, seen_at}
use Rattle.law_closing.specs.Places.{PlaceNote}
use Rattle.chorus_nucleus.specs.declared.fault.CallFault.{CallFault}
use Rattle.chorus_nucleus.specs.declared.nucleus.Nucleus.{Nucleus}
use Rattle.chorus_nucleus.specs.declared.pass.Pass.{Pass}
use Rattle.chorus_nucleus.specs.SiteTurns.Turning.{HasSeenMore}
use Rattle.chorus_nucleus.specs.Passes.{layout_of, known, caller_of, worn_by, IsPassOf}
use Rattle.chorus_nucleus.specs.Calls.{Because, worn_after}
use Rattle.chorus_nucleus.specs.declared.taken_message.TakeAnswer.{TakeAnswer}
use Rattle.chorus_nucleus.specs.Taking.{acts_made, Appends, Gives, HasOrigin, SeesMore, KeepsPass, IsByTakes, TakesOn, IsFault, IsTake}
use Rattle.chorus_nucleus.specs.Answers.{reply_of}
use Rattle.chorus_nucleus.proofs.Behind.{more-itself}
use Rattle.chorus_nucleus.proofs.TakeTurns.{sees-same, takes-nothing}

-- Entries.

acts-append : (xs ys : List (Placed PlaceNote)) → acts_made (xs ++ ys) ≡ acts_made xs ++ acts_made ys
acts-append [] ys = refl
acts-append (x ∷ xs) ys = ap (λ zs. x.remarked.entry.act ∷ zs) (acts-append xs ys)

pub appends-none : (v u : Knowledge PlaceNote) → u.mine ≡ v.mine → Appends [] v u
appends-none v u same = record { news = []; grown = same ∙ sym (append-nil v.mine); acts_are = refl }

pub appends-then : (first second : List Act) (v m u : Knowledge PlaceNote) → Appends first v m → Appends second m u → Appends (first ++ second) v u
appends-then first second v m u f s = record {
  news = f.news ++ s.news;
  grown = s.grown ∙ ap (λ zs. zs ++ s.news) f.grown ∙ append_assoc v.mine f.news s.news;
  acts_are = acts-append f.news s.news ∙ (λ i. f.acts_are i ++ s.acts_are i);
}

pub appends-from : (acts : List Act) (v m u : Knowledge PlaceNote) → m.mine ≡ v.mine → Appends acts m u → Appends acts v u
appends-from acts v m u same a = record { news = a.news; grown = a.grown ∙ ap (λ zs. zs ++ a.news) same; acts_are = a.acts_are }

pub appends-still : (acts : List Act) (v m u : Knowledge PlaceNote) → Appends acts v m → u.mine ≡ m.mine → Appends acts v u
appends-still acts v m u a same = record { news = a.news; grown = same ∙ a.grown; acts_are = a.acts_are }

-- What was seen.

starts-then : {A : Type 0} (c b a : List A) → StartsWith c b → StartsWith b a → StartsWith c a
starts-then c b a s t = (t.0 ++ s.0, s.1 ∙ ap (λ zs. zs ++ s.0) t.1 ∙ append_assoc a t.0 s.0)

pub sees-then : (v m u : Knowledge PlaceNote) → SeesMore v m → SeesMore m u → SeesMore v u
sees-then v m u a b k = starts-then (seen_at k u) (seen_at k m) (seen_at k v) (b k) (a k)

pub origin-later : (l : Layout) (q : Ui) (r : Reply) (v u : Knowledge PlaceNote) → SeesMore v u → HasOrigin l q r v → HasOrigin l q r u
origin-later l q r v u more o = record {
  place = o.place;
  found = o.found;
  state = o.state;
  caller = o.caller;
  there = o.there;
  leads = o.leads;
  gives = o.gives;
  seen = starts-then (seen_at o.place u) (seen_at o.place v) o.found (more o.place) o.seen;
}

-- The pass.

same-then : (v m u : Knowledge PlaceNote) → IsSamePass v m → IsSamePass m u → IsSamePass v u
same-then v m u a b = (b.0 ∙ a.0, b.1 ∙ a.1, b.2 ∙ a.2, b.3 ∙ a.3)

pub keeps-none : (n : Nucleus) (p : Pass) → IsPassOf n p → KeepsPass n p p
keeps-none n p is = record { pass = is; standing = (refl, refl, refl, refl); sees = sees-same (known p) (known p) refl; seat = refl; actor = refl; sight = refl }

pub keeps-then : (n : Nucleus) (a b c : Pass) → KeepsPass n a b → KeepsPass n b c → KeepsPass n a c
keeps-then n a b c f s = record {
  pass = s.pass;
  standing = same-then (known a) (known b) (known c) f.standing s.standing;
  sees = sees-then (known a) (known b) (known c) f.sees s.sees;
  seat = s.seat ∙ f.seat;
  actor = s.actor ∙ f.actor;
  sight = s.sight ∙ f.sight;
}

pub takes-then : (n : Nucleus) (q : Ui) (a b c : Pass) → (caller_of b).actor ≡ (caller_of a).actor → TakesOn n q a b → TakesOn n q b c → TakesOn n q a c
takes-then n q a b c actor f s = record {
  last = (let x = f.last in let y = s.last in omega (arith, x, y));
  takes = λ clock le i.
      let more = f.last in
      subst (λ z. IsByTakes (layout_of n) q z clock (known c).mine) actor
      (s.takes clock (omega (arith, le, more)) (subst (λ z. IsByTakes (layout_of n) q z clock (known b).mine) (sym actor) (f.takes clock le i)));
}

-- A take after tries in vain.

-- so far each try found the place held: nothing was made, and the caller is as it was
pub record Waited (n : Nucleus) (old new : Pass) : Type 0 where
  pub keeps : KeepsPass n old new
  pub mine : (known new).mine ≡ (known old).mine
  pub caller : caller_of new ≡ caller_of old
  pub worn : worn_by new ≡ worn_by old

pub waited-none : (n : Nucleus) (p : Pass) → IsPassOf n p → Waited n p p
waited-none n p is = record { keeps = keeps-none n p is; mine = refl; caller = refl; worn = refl }

worn-busy : (o : Option ℕ) (by : ℕ) → worn_after {T = TakeAnswer} o (Err (CallFault.Busy by)) ≡ o
worn-busy None by = refl
worn-busy (Some clock) by = refl

pub waited-more : (n : Nucleus) (q : Ui) (by : ℕ) (a b c : Pass) → Waited n a b → IsTake n q (Err (CallFault.Busy by)) b c → Waited n a c
waited-more n q by a b c w t = record {
  keeps = keeps-then n a b c w.keeps t.keeps;
  mine = t.fault.mine ∙ w.mine;
  caller = t.fault.because.1 ∙ w.caller;
  worn = t.worn ∙ worn-busy (worn_by b) by ∙ w.worn;
}

gives-from : (l : Layout) (q : Ui) (r : Reply) (v m u : Knowledge PlaceNote) → m.mine ≡ v.mine → Gives l q r m u → Gives l q r v u
gives-from l q r v m u same h = record { appends = appends-from (taken_acts q r) v m u same h.appends; origin = h.origin }

fault-from : (n : Nucleus) (q : Ui) (f : CallFault) (a b c : Pass) → Waited n a b → IsFault n q f b c → IsFault n q f a c
fault-from n q f a b c w h = record {
  tried = h.tried;
  before = h.before ∙ w.mine;
  because = subst (λ caller. Because f (layout_of n) (place_for (layout_of n) caller.actor (Command.Take q)) h.tried caller (known c) (caller_of c)) w.caller h.because;
  mine = h.mine ∙ w.mine;
  caller = subst (λ z. HasSeenMore z (caller_of c)) w.caller h.caller;
}

pub take-after : (n : Nucleus) (q : Ui) (r : Result TakeAnswer CallFault) (a b c : Pass) → Waited n a b → IsTake n q r b c → IsTake n q r a c
take-after n q (Ok t) a b c w h = record {
  keeps = keeps-then n a b c w.keeps h.keeps;
  goes = takes-then n q a b c w.keeps.actor (takes-nothing n q a b w.mine (subst (HasSeenMore (caller_of a)) (sym w.caller) (more-itself (caller_of a)))) h.goes;
  answer = gives-from (layout_of n) q (reply_of t) (known a) (known b) (known c) w.mine h.answer;
  fault = tt;
  worn = h.worn ∙ ap (λ o. worn_after {T = TakeAnswer} o (Ok t)) w.worn;
}
take-after n q (Err f) a b c w h = record {
  keeps = keeps-then n a b c w.keeps h.keeps;
  goes = takes-then n q a b c w.keeps.actor (takes-nothing n q a b w.mine (subst (HasSeenMore (caller_of a)) (sym w.caller) (more-itself (caller_of a)))) h.goes;
  answer = tt;
  fault = fault-from n q f a b c w h.fault;
  worn = h.worn ∙ ap (λ o. worn_after {T = TakeAnswer} o (Err f)) w.worn;
}

pub ruleset trying = (waited-none, waited-more, take-after)
