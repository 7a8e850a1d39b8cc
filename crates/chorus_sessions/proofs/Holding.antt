-- What is in hand, as a pass goes on.
-- q is a port, n a nucleus, l a layout, a and b are a pass before and after, v and u are what a pass knows.
use Rattle.std.proofs.Common.{ℕ, ◌≡◌, ◌<◌, ◌≤◌, ◌+◌, ◌==◌, ◌⊎◌, cond, true, false, List, [], ◌∷◌, ◌++◌, length, Option, Some, Ok, slice_get, refl, sym, ◌∙◌, ap, subst, inl, inr, arith, append_assoc}
use Rattle.std.specs.List.{All}
use Rattle.std.proofs.lemmas.Bool.{cases_lt, false≢true}
use Rattle.std.proofs.lemmas.Bool.Decides.{nat_tests}
use Rattle.std.proofs.lemmas.List.{length-append, map-append}
use Rattle.std.proofs.lemmas.List.Elements.{All-nil, All-weaker}
use Rattle.chorus_ui.specs.declared.ui.Ui.{Ui}
use Rattle.chorus_ui.specs.declared.layout.Layout.{Layout}
use Rattle.chorus_entry.specs.declared.entry.Entry.{Entry}
use Rattle.chorus_entry.specs.declared.act.Act.{Act}
use Rattle.chorus_entry.specs.declared.answer.Answer.{Answer}
use Rattle.chorus_entry.specs.declared.id.MsgId.{MsgId}
use Rattle.chorus_entry.specs.declared.command.Command.{Command}
use Rattle.chorus_entry.specs.declared.message.Message.{Message}
use Rattle.chorus_calls.specs.declared.client.Settle.{Settle}
use Rattle.chorus_world.specs.SentLaws.{StandsIn}
use Rattle.law_machine.specs.declared.reply.Reply.{Reply}
use Rattle.law_replies.specs.Taking.{taken_acts, acts_of, settled_acts}
use Rattle.law_replies.proofs.Turns.{takes-append}
use Rattle.law_history.proofs.Lists.{reverse-first}
use Rattle.law_closing.specs.Remarks.{numbered}
use Rattle.law_closing.specs.Places.{PlaceNote}
use Rattle.chorus_turn.specs.declared.knowledge.Placed.{Placed}
use Rattle.chorus_turn.specs.declared.knowledge.Knowledge.{Knowledge}
use Rattle.chorus_turn.specs.declared.knowledge.Remarked.{Remarked}
use Rattle.chorus_turn.specs.Journals.{entries_of, with_place}
use Rattle.chorus_turn.specs.Knowing.{seen_at}
use Rattle.chorus_turn.specs.Lists.{StartsWith}
use Rattle.chorus_nucleus.specs.declared.nucleus.Nucleus.{Nucleus}
use Rattle.chorus_nucleus.specs.declared.pass.Pass.{Pass}
use Rattle.chorus_nucleus.specs.Passes.{layout_of, known, caller_of}
use Rattle.chorus_nucleus.specs.Calls.{IsCall, place_of}
use Rattle.chorus_nucleus.specs.Taking.{SeesMore}
use Rattle.chorus_nucleus.proofs.Trying.{origin-later}
use Rattle.chorus_nucleus.proofs.TakeTurns.{origin, sees}
use Rattle.chorus_sessions.specs.declared.hand.PortMessage.{PortMessage}
use Rattle.chorus_sessions.specs.Hands.{entries_made, hands_out, AreDelivered, HandNothingOut, HasHeard, IsDelivered, IsInHand, IsHandedOutBy, Holds}
use Rattle.chorus_sessions.proofs.Lists.{In, in-either, in-map-back, all-in, get-low, get-some, get-front, get-longer, get-seam}
use Rattle.chorus_sessions.proofs.Received.{in-so, stands-so}
use Rattle.chorus_sessions.proofs.Quiet.{Quiet, IsQuiet, settled-quiet, quiet-by-acts, quiet-placed}

pub entries-append : (xs ys : List (Placed PlaceNote)) → entries_made (xs ++ ys) ≡ entries_made xs ++ entries_made ys
entries-append [] ys = refl
entries-append (x ∷ xs) ys = ap (λ zs. x.remarked.entry ∷ zs) (entries-append xs ys)

pub stands-later : (e : Entry) (xs ys : List Entry) → StandsIn e xs → StandsIn e (xs ++ ys)
stands-later e xs ys s = record {
  newer = s.newer;
  older = s.older ++ ys;
  is = ap (λ zs. zs ++ ys) s.is ∙ append_assoc s.newer (e ∷ s.older) ys;
}

by-later : (l : Layout) (v u : Knowledge PlaceNote) (xs ys : List (Placed PlaceNote)) (last later : ℕ) (got : PortMessage) (e : Entry) → SeesMore v u → last ≤ later → StartsWith ys xs → IsHandedOutBy l v xs last got e → IsHandedOutBy l u ys later got e
by-later l v u xs ys last later got e sees le starts h = record {
  stands = subst (λ zs. StandsIn e (entries_made zs)) (sym starts.1) (subst (λ zs. StandsIn e zs) (sym (entries-append xs starts.0)) (stands-later e (entries_made xs) (entries_made starts.0) h.stands));
  act = h.act;
  upto = omega (arith, h.upto, le);
  settled = h.settled;
  origin = origin-later l got.port (Reply.Taken got.position got.message h.settled) v u sees h.origin;
}

-- nothing was handed out by an entry that stands there
none-out : (q : Ui) (mine : List (Placed PlaceNote)) → HandNothingOut mine → (e : Entry) (n : ℕ) (x : MsgId) → In e (entries_made mine) → e.act ≡ Act.Take q n x → ⊥
none-out q mine quiet e n x a act =
    let m = in-map-back (λ (z : Placed PlaceNote). z.remarked.entry) e mine a in
    let is = all-in (λ (z : Placed PlaceNote). hands_out z.remarked.entry.act ≡ false) m.0 mine quiet m.2 in
    false≢true (sym is ∙ ap (λ (z : Entry). hands_out z.act) m.1 ∙ ap hands_out act)

-- an entry was made before, or since
entry-either : (e : Entry) (xs more ys : List (Placed PlaceNote)) → ys ≡ xs ++ more → StandsIn e (entries_made ys) → StandsIn e (entries_made xs) ⊎ In e (entries_made more)
entry-either e xs more ys grown stands =
    let here : In e (entries_made xs ++ entries_made more) = subst (λ zs. In e zs) (entries-append xs more) (subst (λ zs. In e (entries_made zs)) grown (in-so e (entries_made ys) stands)) in
    elim (in-either e (entries_made xs) (entries_made more) here) [
      | inl old ↦ inl (stands-so e (entries_made xs) old)
      | inr new ↦ inr new
    ]

in-hand-longer : (q : Ui) (n : ℕ) (x : MsgId) (taken more : List PortMessage) → IsInHand q n x taken → IsInHand q n x (taken ++ more)
in-hand-longer q n x taken more h = record { index = h.index; got = h.got; stands = get-longer taken more h.index h.got h.stands; port = h.port; position = h.position; id = h.id }

nothing : Entry
nothing = record { clock = 0; place = 0; seat = 0; act = Act.NoCall }

pub holds-none : (l : Layout) (v : Knowledge PlaceNote) (mine : List (Placed PlaceNote)) (last : ℕ) (taken : List PortMessage) → HandNothingOut mine → taken ≡ [] → Holds l v mine last taken
holds-none l v mine last taken quiet none = record {
  entry = λ i. nothing;
  by = λ i got found. (let at : slice_get [] i ≡ Some got = ap (λ (xs : List PortMessage). slice_get xs i) (sym none) ∙ found in absurd (cc));
  apart = λ i j lt low. (let count = ap (λ (xs : List PortMessage). length xs) none in absurd (omega (arith, low, count)));
  all = λ e q n x stands act. absurd (none-out q mine quiet e n x (in-so e (entries_made mine) stands) act);
}

pub holds-later : (l : Layout) (v u : Knowledge PlaceNote) (xs ys more : List (Placed PlaceNote)) (last later : ℕ) (taken : List PortMessage) → SeesMore v u → last ≤ later → ys ≡ xs ++ more → HandNothingOut more → Holds l v xs last taken
    → Holds l u ys later taken
holds-later l v u xs ys more last later taken sees le grown quiet h = record {
  entry = h.entry;
  by = λ i got found. by-later l v u xs ys last later got (h.entry i) sees le (more, grown) (h.by i got found);
  apart = h.apart;
  all = λ e q n x stands act. elim (entry-either e xs more ys grown stands) [
    | inl old ↦ h.all e q n x old act
    | inr new ↦ absurd (none-out q more quiet e n x new act)
  ];
}

-- One got more.

differs : (i k : ℕ) → i < k → (i == k) ≡ false
differs i k lt = grind (arith, nat_tests)

same-test : (i k : ℕ) → i ≡ k → (i == k) ≡ true
same-test i k is = grind (arith, nat_tests)

module _ (l : Layout) (v u : Knowledge PlaceNote) (mine : List (Placed PlaceNote)) (last : ℕ) (taken : List PortMessage) (got : PortMessage) (e : Entry) (h : Holds l v mine last taken) where
  abbrev entries : ℕ → Entry
  entries i = cond (i == length taken) e (h.entry i)

  low-is : (i : ℕ) → i < length taken → entries i ≡ h.entry i
  low-is i lt = ap (λ b. cond b e (h.entry i)) (differs i (length taken) lt)

  last-is : (i : ℕ) → i ≡ length taken → entries i ≡ e
  last-is i is = ap (λ b. cond b e (h.entry i)) (same-test i (length taken) is)

  -- of the entries that were made since, this one alone handed a message out
  abbrev OneSince : List (Placed PlaceNote) → Type 0
  OneSince more = (f : Entry) (q : Ui) (n : ℕ) (x : MsgId) → In f (entries_made more) → f.act ≡ Act.Take q n x → f ≡ e

  -- so it is the message with this port, position and id
  is-it : (f : Entry) (q : Ui) (n : ℕ) (x : MsgId) → e.act ≡ Act.Take got.port got.position got.message.id → f.act ≡ Act.Take q n x → f ≡ e → IsInHand q n x (taken ++ got ∷ [])
  is-it f q n x act other same =
      let both : Act.Take got.port got.position got.message.id ≡ Act.Take q n x = sym act ∙ sym (ap (λ (z : Entry). z.act) same) ∙ other in
      let port : got.port ≡ q = cc in
      let position : got.position ≡ n = cc in
      let id : got.message.id ≡ x = cc in
      record { index = length taken; got = got; stands = get-seam taken got; port = port; position = position; id = id }

  pub holds-more : (ys more : List (Placed PlaceNote)) (later : ℕ) → SeesMore v u → last ≤ later → ys ≡ mine ++ more → OneSince more → last < e.clock → IsHandedOutBy l u ys later got e → Holds l u ys later (taken ++ got ∷ [])
  holds-more ys more later sees le grown since above new = record {
    entry = entries;
    by = λ i x found.
        (let low = get-low (taken ++ got ∷ []) i x found in
        let count = length-append taken (got ∷ []) in
        elim (cases_lt i (length taken)) [
          | inl lt ↦
              subst (λ (z : Entry). IsHandedOutBy l u ys later x z) (sym (low-is i lt))
              (by-later l v u mine ys last later x (h.entry i) sees le (more, grown) (h.by i x (sym (get-front taken (got ∷ []) i lt) ∙ found)))
          | inr high ↦
              (let is : i ≡ length taken = omega (arith, low, high, count) in
              let both : Some got ≡ Some x = sym (get-seam taken got) ∙ sym (ap (λ j. slice_get (taken ++ got ∷ []) j) is) ∙ found in
              let same : got ≡ x = cc in
              subst (λ (z : PortMessage). IsHandedOutBy l u ys later z (entries i)) same (subst (λ (z : Entry). IsHandedOutBy l u ys later got z) (sym (last-is i is)) new))
        ]);
    apart = λ i j lt low.
        (let count = length-append taken (got ∷ []) in
        let below : i < length taken = omega (arith, lt, low, count) in
        elim (cases_lt j (length taken)) [
          | inl inside ↦
              (let clocks = h.apart i j lt inside in
              let one = ap (λ (z : Entry). z.clock) (low-is i below) in
              let two = ap (λ (z : Entry). z.clock) (low-is j inside) in omega (arith, clocks, one, two))
          | inr high ↦
              (let is : j ≡ length taken = omega (arith, low, high, count) in
              let first = (h.by i (get-some taken i below).0 (get-some taken i below).1).upto in
              let one = ap (λ (z : Entry). z.clock) (low-is i below) in
              let two = ap (λ (z : Entry). z.clock) (last-is j is) in omega (arith, first, above, one, two))
        ]);
    all = λ f q n x stands act. elim (entry-either f mine more ys grown stands) [
      | inl old ↦ in-hand-longer q n x taken (got ∷ []) (h.all f q n x old act)
      | inr new-one ↦ is-it f q n x new.act act (since f q n x new-one act)
    ];
  }

-- A take.

pub stands-new : (p k : ℕ) (seen : List (List (Remarked PlaceNote))) (r : PlaceNote) (e : Entry) (es : List Entry) (xs ys : List (Placed PlaceNote)) → ys ≡ xs ++ with_place p seen (numbered k r (e ∷ es)) → StandsIn e (entries_made ys)
stands-new p k seen r e es xs ys is = record {
  newer = entries_made xs;
  older = entries_made (with_place p seen (numbered (k + 1) r es));
  is = ap entries_made is ∙ entries-append xs (with_place p seen (numbered k r (e ∷ es)));
}

-- the first of a turn's entries hands a message out, and those behind it nothing
one-of-turn : (p k : ℕ) (seen : List (List (Remarked PlaceNote))) (r : PlaceNote) (e : Entry) (es : List Entry) → All IsQuiet es → (f : Entry) (q : Ui) (n : ℕ) (x : MsgId) → In f (entries_made (with_place p seen (numbered k r (e ∷ es)))) → f.act ≡ Act.Take q n x → f ≡ e
one-of-turn p k seen r e es quiet f q n x (inl is) act = sym is
one-of-turn p k seen r e es quiet f q n x (inr a) act = absurd (none-out q (with_place p seen (numbered (k + 1) r es)) (quiet-placed p (k + 1) seen r es quiet) f n x a act)

pub holds-taken : (n : Nucleus) (q : Ui) (a b : Pass) (pos : ℕ) (m : Message) (settled : Option Settle) (taken : List PortMessage) → IsCall n (Command.Take q) a b (Ok (Reply.Taken pos m settled)) → Holds (layout_of n) (known a) (known a).mine (caller_of a).last taken
    → Holds (layout_of n) (known b) (known b).mine (caller_of b).last (taken ++ record { port = q; position = pos; message = m } ∷ [])
holds-taken n q a b pos m settled taken h holds =
    let t = h.turn.turn in
    let all = t.entry ∷ t.later in
    let r = Reply.Taken pos m settled in
    let told : acts_of all ≡ taken_acts q r = subst (λ z. acts_of all ≡ taken_acts q z) (sym h.turn.answer)
    (takes-append h.turn.state (caller_of a) q all (t.journal ∙ sym (reverse-first t.entry t.later h.turn.state.journal))).0 in
    let both : (t.entry.act ∷ acts_of t.later) ≡ (Act.Take q pos m.id ∷ settled_acts m.tag settled) = told in
    let act : t.entry.act ≡ Act.Take q pos m.id = cc in
    let behind : acts_of t.later ≡ settled_acts m.tag settled = cc in
    let quiet = quiet-by-acts t.later (subst (All Quiet) (sym behind) (settled-quiet m.tag settled)) in
    let grown = ap (λ (z : Knowledge PlaceNote). z.mine) t.knows in
    let above = t.above in
    let upto = t.upto in
    let p = place_of n (Command.Take q) a in
    holds-more (layout_of n) (known a) (known b) (known a).mine (caller_of a).last taken (record { port = q; position = pos; message = m }) t.entry holds (known b).mine _ (caller_of b).last
    (sees (layout_of n) p q r (known a) (known b) (caller_of a) (caller_of b) h.turn) (omega (arith, above, upto)) grown (one-of-turn p 0 _ _ t.entry t.later quiet) above
    record {
      stands = stands-new p 0 _ _ t.entry t.later (known a).mine (known b).mine grown;
      act = act;
      upto = upto;
      settled = settled;
      origin = origin (layout_of n) p q r (known a) (known b) (caller_of a) (caller_of b) h.turn;
    }

-- What was delivered.

heard-later : (l : Layout) (v u : Knowledge PlaceNote) (x : MsgId) (answer : Answer) → SeesMore v u → HasHeard l v x answer → HasHeard l u x answer
heard-later l v u x answer sees h =
    let more = sees h.place in
    let E = λ (r : Remarked PlaceNote). r.entry in
    record {
      place = h.place;
      there = h.there;
      entry = h.entry;
      seen = subst (λ zs. StandsIn h.entry zs) (sym (ap entries_of more.1 ∙ map-append E (seen_at h.place v) more.0)) (stands-later h.entry (entries_of (seen_at h.place v)) (entries_of more.0) h.seen);
      tells = h.tells;
    }

delivered-later : (l : Layout) (v u : Knowledge PlaceNote) (xs ys more : List (Placed PlaceNote)) (sent : PortMessage) → SeesMore v u → ys ≡ xs ++ more → IsDelivered l v xs sent → IsDelivered l u ys sent
delivered-later l v u xs ys more sent sees grown h = record {
  entry = h.entry;
  stands = subst (λ zs. StandsIn h.entry zs) (sym (ap entries_made grown ∙ entries-append xs more)) (stands-later h.entry (entries_made xs) (entries_made more) h.stands);
  posts = h.posts;
  heard = heard-later l v u sent.message.id (Answer.Accepted sent.position) sees h.heard;
}

pub are-delivered-later : (l : Layout) (v u : Knowledge PlaceNote) (xs ys more : List (Placed PlaceNote)) (sent : List PortMessage) → SeesMore v u → ys ≡ xs ++ more → AreDelivered l v xs sent → AreDelivered l u ys sent
are-delivered-later l v u xs ys more sent sees grown h =
    All-weaker (IsDelivered l v xs) (IsDelivered l u ys) (λ d k. delivered-later l v u xs ys more d sees grown k) sent h

pub are-delivered-none : (l : Layout) (v : Knowledge PlaceNote) (mine : List (Placed PlaceNote)) (sent : List PortMessage) → sent ≡ [] → AreDelivered l v mine sent
are-delivered-none l v mine sent none = subst (λ ds. AreDelivered l v mine ds) (sym none) (All-nil (IsDelivered l v mine))
