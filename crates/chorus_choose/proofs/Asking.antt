-- Ports that are asked one after another.
-- n is a nucleus, l a layout, q a port, a, b and c are the pass at three moments, v, m and u are what a pass knows at three moments.
use Rattle.std.proofs.Common.{◌≡◌, ℕ, zero, suc, ◌+◌, ◌*◌, ◌<◌, length, length-append, append-nil, take, drop, get_or, arith, Some, None, Result, Ok, Err, List, [], ◌∷◌, ◌++◌, refl, inl, inr, sym, ap, subst, ◌∙◌, append_assoc}
use Rattle.chorus_ui.specs.declared.ui.Ui.{Ui}
use Rattle.chorus_ui.specs.declared.layout.Layout.{Layout}
use Rattle.chorus_entry.specs.declared.act.Act.{Act}
use Rattle.law_machine.specs.declared.reply.Reply.{Reply}
use Rattle.law_replies.specs.Taking.{taken_acts}
use Rattle.std.proofs.lemmas.List.{length-map}
use Rattle.chorus_turn.specs.declared.knowledge.Knowledge.{Knowledge}
use Rattle.chorus_turn.specs.declared.knowledge.Placed.{Placed}
use Rattle.law_closing.specs.Places.{PlaceNote}
use Rattle.chorus_nucleus.specs.declared.fault.CallFault.{CallFault}
use Rattle.chorus_nucleus.specs.declared.nucleus.Nucleus.{Nucleus}
use Rattle.chorus_nucleus.specs.declared.pass.Pass.{Pass}
use Rattle.chorus_nucleus.specs.Passes.{layout_of, known, worn_by, IsPassOf}
use Rattle.chorus_nucleus.specs.Calls.{worn_after}
use Rattle.chorus_nucleus.specs.declared.taken_message.TakenMessage.{TakenMessage}
use Rattle.chorus_nucleus.specs.declared.taken_message.TakeAnswer.{TakeAnswer}
use Rattle.chorus_nucleus.specs.declared.taken_message.TakeAnswer.TheVariants as answers
use Rattle.chorus_nucleus.specs.Answers.{reply_of, reply_with, taken_of}
use Rattle.chorus_nucleus.specs.Taking.{Appends, Gives, KeepsPass, IsTake}
use Rattle.chorus_nucleus.proofs.TakeTurns.{worn-ok, worn-err}
use Rattle.chorus_nucleus.proofs.Trying.{appends-none, appends-then, keeps-none, keeps-then}
use Rattle.chorus_choose.specs.declared.chooser.Enabled.{Enabled}
use Rattle.chorus_choose.specs.declared.received.Received.{Received}
use Rattle.chorus_choose.specs.declared.received.Received.TheVariants as receives
use Rattle.chorus_choose.specs.Looking.{ports_of}
use Rattle.chorus_choose.specs.declared.bell_ends.Waiter.{Waiter}
use Rattle.chorus_choose.specs.Bells.{notes_of}
use Rattle.chorus_choose.specs.Rounds.{AreMisses, Missed, GivesAfter, Receives, IsReceive, rounds}
use Rattle.chorus_choose.specs.Waits.{HasWaited, made_behind}

-- Ports in vain.

misses-append : (ps qs : List Ui) (xs ys : List Act) → AreMisses ps xs → AreMisses qs ys → AreMisses (ps ++ qs) (xs ++ ys)
misses-append [] qs [] ys a b = b
misses-append [] qs (x ∷ xs) ys a b = absurd a
misses-append (p ∷ ps) qs [] ys a b = absurd a
misses-append (p ∷ ps) qs (x ∷ xs) ys a b = (a.0, misses-append ps qs xs ys a.1 b)

missed-append : (ps qs : List Ui) (v m u : Knowledge PlaceNote) → Missed ps v m → Missed qs m u → Missed (ps ++ qs) v u
missed-append ps qs v m u a b = record {
  acts = a.acts ++ b.acts;
  misses = misses-append ps qs a.acts b.acts a.misses b.misses;
  appends = appends-then a.acts b.acts v m u a.appends b.appends;
}

missed-one : (l : Layout) (q : Ui) (a : TakeAnswer) (v u : Knowledge PlaceNote) → taken_of a ≡ None → Gives l q (reply_of a) v u → Missed (q ∷ []) v u
missed-one l q (answers.Took t) v u none g = absurd (cc)
missed-one l q answers.Empty v u none g = record { acts = Act.Empty q ∷ []; misses = (inl refl, tt); appends = g.appends }
missed-one l q answers.NotHere v u none g = record { acts = Act.NotHere q ∷ []; misses = (inr refl, tt); appends = g.appends }

gives-after : (l : Layout) (earlier ports : List Ui) (q : Ui) (r : Reply) (v m u : Knowledge PlaceNote) → Missed earlier v m → GivesAfter l [] ports q r m u → GivesAfter l earlier ports q r v u
gives-after l earlier ports q r v m u a b = record {
  front = b.front;
  rest = b.rest;
  split = b.split;
  acts = a.acts ++ b.acts;
  misses = misses-append earlier b.front a.acts b.acts a.misses b.misses;
  appends = subst (λ zs. Appends zs v u) (sym (append_assoc a.acts b.acts (taken_acts q r))) (appends-then a.acts (b.acts ++ taken_acts q r) v m u a.appends b.appends);
  origin = b.origin;
}

-- A look at some ports in vain.

pub record Looked (n : Nucleus) (asked : List Ui) (old new : Pass) : Type 0 where
  pub keeps : KeepsPass n old new
  pub missed : Missed asked (known old) (known new)
  pub worn : worn_by new ≡ worn_by old

pub looked-none : (n : Nucleus) (a : Pass) → IsPassOf n a → Looked n [] a a
looked-none n a is = record { keeps = keeps-none n a is; missed = record { acts = []; misses = tt; appends = appends-none (known a) (known a) refl }; worn = refl }

pub looked-append : (n : Nucleus) (ps qs : List Ui) (a b c : Pass) → Looked n ps a b → Looked n qs b c → Looked n (ps ++ qs) a c
looked-append n ps qs a b c f s = record {
  keeps = keeps-then n a b c f.keeps s.keeps;
  missed = missed-append ps qs (known a) (known b) (known c) f.missed s.missed;
  worn = s.worn ∙ f.worn;
}

looked-one : (n : Nucleus) (q : Ui) (a : TakeAnswer) (b c : Pass) → taken_of a ≡ None → IsTake n q (Ok a) b c → Looked n (q ∷ []) b c
looked-one n q a b c none t = record { keeps = t.keeps; missed = missed-one (layout_of n) q a (known b) (known c) none t.answer; worn = t.worn ∙ worn-ok (worn_by b) a }

pub looked-all : (n : Nucleus) (ports : List Ui) (looked : ℕ) (a b : Pass) → looked ≡ length ports → Looked n ports a b → IsReceive n [] ports (Ok (receives.Empty looked)) a b
looked-all n ports looked a b count h = record {
  keeps = h.keeps;
  received = (count, h.missed);
  stopped = tt;
  worn = h.worn ∙ sym (worn-ok (worn_by a) (receives.Empty looked));
}

-- The ports before one, in their order.

ports-more : (xs : List Enabled) (i : ℕ) (d : Enabled) → i < length xs → ports_of (take (i + 1) xs) ≡ ports_of (take i xs) ++ (get_or xs i d).port ∷ []
ports-more [] i d h = absurd (omega arith)
ports-more (x ∷ xs) zero d h = refl
ports-more (x ∷ xs) (suc i) d h = let e : suc i + 1 ≡ suc (i + 1) = omega arith in rw e (ap (λ zs. x.port ∷ zs) (ports-more xs i d (omega arith)))

ports-split : (xs : List Enabled) (i : ℕ) (d : Enabled) → i < length xs → ports_of xs ≡ ports_of (take i xs) ++ ((get_or xs i d).port ∷ ports_of (drop (i + 1) xs))
ports-split [] i d h = absurd (omega arith)
ports-split (x ∷ xs) zero d h = refl
ports-split (x ∷ xs) (suc i) d h = let e : suc i + 1 ≡ suc (i + 1) = omega arith in rw e (ap (λ zs. x.port ∷ zs) (ports-split xs i d (omega arith)))

-- The take of the port at i, when those before it were asked in vain.
module _ (n : Nucleus) (xs : List Enabled) (i : ℕ) (x : Enabled) (a b c : Pass) (h : i < length xs) (is : x ≡ get_or xs i x) (looked : Looked n (ports_of (take i xs)) a b) where
  split : ports_of xs ≡ ports_of (take i xs) ++ (x.port ∷ ports_of (drop (i + 1) xs))
  split = subst (λ (y : Enabled). ports_of xs ≡ ports_of (take i xs) ++ (y.port ∷ ports_of (drop (i + 1) xs))) (sym is) (ports-split xs i x h)

  pub in-vain : (z : TakeAnswer) → taken_of z ≡ None → IsTake n x.port (Ok z) b c → Looked n (ports_of (take (i + 1) xs)) a c
  in-vain z none t =
      subst (λ zs. Looked n zs a c) (sym (ports-more xs i x h))
      (subst (λ (y : Enabled). Looked n (ports_of (take i xs) ++ y.port ∷ []) a c) is (looked-append n (ports_of (take i xs)) (x.port ∷ []) a b c looked (looked-one n x.port z b c none t)))

  took : (t : TakenMessage) → IsTake n x.port (Ok (answers.Took t)) b c → IsReceive n [] (ports_of xs) (Ok (receives.Taken x.port t.position t.message t.settled)) a c
  took t h = record {
    keeps = keeps-then n a b c looked.keeps h.keeps;
    received = record {
      front = ports_of (take i xs);
      rest = ports_of (drop (i + 1) xs);
      split = split;
      acts = looked.missed.acts;
      misses = looked.missed.misses;
      appends = appends-then looked.missed.acts (taken_acts x.port (reply_with t)) (known a) (known b) (known c) looked.missed.appends h.answer.appends;
      origin = h.answer.origin;
    };
    stopped = tt;
    worn = h.worn ∙ worn-ok (worn_by b) (answers.Took t) ∙ looked.worn ∙ sym (worn-ok (worn_by a) (receives.Taken x.port t.position t.message t.settled));
  }

  pub gives : (z : TakeAnswer) (t : TakenMessage) → taken_of z ≡ Some t → IsTake n x.port (Ok z) b c → IsReceive n [] (ports_of xs) (Ok (receives.Taken x.port t.position t.message t.settled)) a c
  gives answers.Empty t e h = absurd (cc)
  gives answers.NotHere t e h = absurd (cc)
  gives (answers.Took s) t e h = let same : s ≡ t = cc in took t (subst (λ z. IsTake n x.port (Ok (answers.Took z)) b c) same h)

  pub stops : (f : CallFault) → IsTake n x.port (Err f) b c → IsReceive n [] (ports_of xs) (Err f) a c
  stops f h = record {
    keeps = keeps-then n a b c looked.keeps h.keeps;
    received = tt;
    stopped = record {
      front = ports_of (take i xs);
      at = x.port;
      rest = ports_of (drop (i + 1) xs);
      split = split;
      between = b;
      missed = looked.missed;
      fault = h.fault;
    };
    worn = h.worn ∙ ap (λ o. worn_after {T = TakeAnswer} o (Err f)) looked.worn ∙ worn-err TakeAnswer Received (worn_by a) f;
  }

-- A receive behind rounds in vain.

after-received : (l : Layout) (earlier ports : List Ui) (x : Received) (v m u : Knowledge PlaceNote) → Missed earlier v m → Receives l [] ports x m u → Receives l earlier ports x v u
after-received l earlier ports (receives.Taken q pos message settled) v m u a b = gives-after l earlier ports q (Reply.Taken pos message settled) v m u a b
after-received l earlier ports (receives.Empty looked) v m u a b = (b.0, missed-append earlier ports v m u a b.1)

pub after-rounds : (n : Nucleus) (earlier ports : List Ui) (r : Result Received CallFault) (a b c : Pass) → Looked n earlier a b → IsReceive n [] ports r b c → IsReceive n earlier ports r a c
after-rounds n earlier ports (Ok x) a b c f s = record {
  keeps = keeps-then n a b c f.keeps s.keeps;
  received = after-received (layout_of n) earlier ports x (known a) (known b) (known c) f.missed s.received;
  stopped = tt;
  worn = s.worn ∙ ap (λ o. worn_after {T = Received} o (Ok x)) f.worn;
}
after-rounds n earlier ports (Err e) a b c f s = record {
  keeps = keeps-then n a b c f.keeps s.keeps;
  received = tt;
  stopped = record {
    front = s.stopped.front;
    at = s.stopped.at;
    rest = s.stopped.rest;
    split = s.stopped.split;
    between = s.stopped.between;
    missed = missed-append earlier s.stopped.front (known a) (known b) (known s.stopped.between) f.missed s.stopped.missed;
    fault = s.stopped.fault;
  };
  worn = s.worn ∙ ap (λ o. worn_after {T = Received} o (Err e)) f.worn;
}

pub round-more : (n : Nucleus) (earlier ports : List Ui) (looked : ℕ) (a b c : Pass) → Looked n earlier a b → IsReceive n [] ports (Ok (receives.Empty looked)) b c → Looked n (earlier ++ ports) a c
round-more n earlier ports looked a b c f s =
    looked-append n earlier ports a b c f record { keeps = s.keeps; missed = s.received.1; worn = s.worn ∙ worn-ok (worn_by b) (receives.Empty looked) }

-- How much a pass has made behind rounds in vain.

misses-length : (qs : List Ui) (acts : List Act) → AreMisses qs acts → length acts ≡ length qs
misses-length [] [] m = refl
misses-length [] (b ∷ acts) m = absurd m
misses-length (q ∷ qs) [] m = absurd m
misses-length (q ∷ qs) (b ∷ acts) m = ap suc (misses-length qs acts m.1)

looked-length : (n : Nucleus) (asked : List Ui) (a b : Pass) → Looked n asked a b → length (known b).mine ≡ length (known a).mine + length asked
looked-length n asked a b h =
    let g = h.missed.appends in
    let whole : length (known b).mine ≡ length ((known a).mine ++ g.news) = ap (λ (zs : List (Placed PlaceNote)). length zs) g.grown in
    let parts = length-append (known a).mine g.news in
    let made = length-map g.news (λ (m : Placed PlaceNote). m.remarked.entry.act) in
    let acts = ap (λ (zs : List Act). length zs) g.acts_are in
    let each = misses-length asked h.missed.acts h.missed.misses in
    omega (arith, whole, parts, made, acts, each)

rounds-length : (count : ℕ) (ports : List Ui) → length (rounds count ports) ≡ count * length ports
rounds-length zero ports = let e : 0 ≡ 0 * length ports = grind arith in e
rounds-length (suc count) ports =
    let parts = length-append (rounds count ports) ports in
    let more = rounds-length count ports in
    let times : suc count * length ports ≡ count * length ports + length ports = grind arith in
    omega (arith, parts, more, times)

pub waited-none : (ports : List Ui) (a : Pass) (w : Waiter) → HasWaited 0 ports a w w
waited-none ports a w = record { taken = omega arith; behind = sym (append-nil (notes_of w)) }

-- one wait more, behind one round more
pub waited-more : (n : Nucleus) (count : ℕ) (ports : List Ui) (a b : Pass) (w x y : Waiter) → HasWaited count ports a w x → Looked n (rounds (suc count) ports) a b → notes_of y ≡ notes_of x ++ (length (known b).mine ∷ []) → HasWaited (suc count) ports a w y
waited-more n count ports a b w x y h looked noted =
    let made = looked-length n (rounds (suc count) ports) a b looked in
    let each = rounds-length (suc count) ports in
    let one : suc count * length ports ≡ (count + 1) * length ports = (let e : suc count ≡ count + 1 = omega arith in ap (λ k. k * length ports) e) in
    let is : length (known b).mine ≡ length (known a).mine + (count + 1) * length ports = omega (arith, made, each, one) in
    let longer = ap (λ (zs : List ℕ). length zs) noted in
    let push = length-append (notes_of x) (length (known b).mine ∷ []) in
    let before = h.taken in
    record {
      taken = omega (arith, longer, push, before);
      behind = noted ∙ ap (λ zs. zs ++ (length (known b).mine ∷ [])) h.behind
          ∙ append_assoc (notes_of w) (made_behind (length (known a).mine) (length ports) count) (length (known b).mine ∷ [])
          ∙ ap (λ k. notes_of w ++ (made_behind (length (known a).mine) (length ports) count ++ (k ∷ []))) is;
    }

pub ruleset looks = (looked-none, looked-all)
