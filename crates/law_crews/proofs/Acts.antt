-- What a pass that took received, and that it was posted.
-- l is the layout, q the port from which it took, v what the closing pass knows. A past has its newest entry first.
use Rattle.std.proofs.Common.{ℕ, ◌≡◌, inl, inr, Bool, true, false, cond, List, [], ◌∷◌, ◌++◌, append-nil, append_assoc, map, reverse, Option, Some, None, refl, sym, ◌∙◌, ap, ap₂, subst}
use Rattle.std.specs.List.{All}
use Rattle.std.proofs.lemmas.List.{reverse-append}
use Rattle.std.proofs.lemmas.List.Elements.{All-nil, All-cons, All-head, All-tail, All-append}
use Rattle.chorus_ui.specs.declared.ui.Ui.{Ui}
use Rattle.chorus_ui.specs.declared.layout.Layout.{Layout}
use Rattle.chorus_ui.specs.Name.{same_ui}
use Rattle.chorus_calls.specs.declared.client.Settle.{Settle}
use Rattle.chorus_calls.specs.declared.client.Settle.TheVariants as settles
use Rattle.chorus_entry.specs.declared.entry.Entry.{Entry}
use Rattle.chorus_entry.specs.declared.id.MsgId.{MsgId}
use Rattle.chorus_entry.specs.declared.message.Message.{Message}
use Rattle.chorus_entry.specs.declared.tag.Tag.{Tag}
use Rattle.chorus_entry.specs.declared.dest.Dest.{Dest}
use Rattle.chorus_entry.specs.declared.act.Act.{Act}
use Rattle.chorus_world.specs.Views.{views}
use Rattle.chorus_world.specs.AcceptedLaws.{received, received_after}
use Rattle.chorus_world.specs.Steps.{act_may, is_legal}
use Rattle.chorus_world.proofs.Steps.LegalLemmas.{legal_parts}
use Rattle.chorus_world.proofs.Messages.PostLemmas.{own_source, post_needs}
use Rattle.law_replies.specs.AsPosted.{IsAsPosted}
use Rattle.law_replies.specs.Taking.{settled_acts, taken_acts}
use Rattle.law_replies.proofs.AsPosted.{IsPostOf, one-message}
use Rattle.law_closing.specs.Places.{PlaceNote}
use Rattle.chorus_turn.specs.declared.knowledge.Knowledge.{Knowledge}
use Rattle.chorus_turn.specs.declared.knowledge.Placed.{Placed}
use Rattle.chorus_nucleus.specs.declared.taken_message.TakenMessage.{TakenMessage}
use Rattle.chorus_nucleus.specs.Taking.{acts_made, IsMiss}
use Rattle.chorus_nucleus.specs.Answers.{reply_with}
use Rattle.chorus_crew.specs.declared.handler.Handled.{Handled}
use Rattle.chorus_crew.specs.Handling.{took_acts}
use Rattle.chorus_crew.specs.Crews.{IsHandled}
use Rattle.law_filled.specs.Filled.{ids, messages_to, posted_to}
use Rattle.law_emptied.specs.Crewed.{IsOfTake}
use Rattle.law_crews.specs.Crewed.{entries_made}

-- The acts of a pass that took.

settled-of-take : (q : Ui) (tag : Tag) (o : Option Settle) → All (IsOfTake q) (settled_acts tag o)
settled-of-take q Tag.Plain o = All-nil (IsOfTake q)
settled-of-take q (Tag.Request n back) o = All-nil (IsOfTake q)
settled-of-take q (Tag.Reply c n) None = All-nil (IsOfTake q)
settled-of-take q (Tag.Reply c n) (Some settles.Done) = All-cons (IsOfTake q) (Act.Done n) [] tt (All-nil (IsOfTake q))
settled-of-take q (Tag.Reply c n) (Some settles.Late) = All-cons (IsOfTake q) (Act.Late n) [] tt (All-nil (IsOfTake q))

took-of-take : (q : Ui) (ts : List TakenMessage) → All (IsOfTake q) (took_acts q ts)
took-of-take q [] = All-nil (IsOfTake q)
took-of-take q (t ∷ ts) =
    All-append (IsOfTake q) (taken_acts q (reply_with t)) (took_acts q ts)
    (All-cons (IsOfTake q) (Act.Take q t.position t.message.id) (settled_acts t.message.tag t.settled) refl (settled-of-take q t.message.tag t.settled))
    (took-of-take q ts)

miss-of-take : (q : Ui) (a : Act) → IsMiss q a → IsOfTake q a
miss-of-take q a (inl e) = subst (IsOfTake q) (sym e) refl
miss-of-take q a (inr e) = subst (IsOfTake q) (sym e) refl

pub entry-acts : (mine : List (Placed PlaceNote)) → map (λ (e : Entry). e.act) (entries_made mine) ≡ acts_made mine
entry-acts [] = refl
entry-acts (m ∷ mine) = ap (λ acts. m.remarked.entry.act ∷ acts) (entry-acts mine)

all-unmap : {X Y : Type 0} (P : Y → Type 0) (f : X → Y) (xs : List X) → All P (map f xs) → All (λ (x : X). P (f x)) xs
all-unmap P f [] a = All-nil (λ x. P (f x))
all-unmap P f (x ∷ xs) a = All-cons (λ z. P (f z)) x xs (All-head P (f x) (map f xs) a) (all-unmap P f xs (All-tail P (f x) (map f xs) a))

pub handled-acts : (value : Ui → ℕ → Message → ℕ) (l : Layout) (v : Knowledge PlaceNote) (q : Ui) (mine : List (Placed PlaceNote)) (h : Handled) → IsHandled value l v q mine h → All (λ (e : Entry). IsOfTake q e.act) (entries_made mine)
handled-acts value l v q mine h is =
    all-unmap (IsOfTake q) (λ (e : Entry). e.act) (entries_made mine)
    (subst (All (IsOfTake q)) (sym (entry-acts mine ∙ is.acts))
    (All-append (IsOfTake q) (took_acts q is.took) (is.last ∷ []) (took-of-take q is.took) (All-cons (IsOfTake q) is.last [] (miss-of-take q is.last is.missed) (All-nil (IsOfTake q)))))

-- The ids that it received.

abbrev ids_taken : List Act → List MsgId
ids_taken [] = []
ids_taken (a ∷ acts) = received_after a [] ++ ids_taken acts

after-more : (a : Act) (xs : List MsgId) → received_after a xs ≡ xs ++ received_after a []
after-more (Act.Take q n x) xs = refl
after-more _ xs = sym (append-nil xs)

received-more : (xs ys : List Entry) → received (xs ++ ys) ≡ received ys ++ received xs
received-more [] ys = sym (append-nil (received ys))
received-more (e ∷ xs) ys =
    after-more e.act (received (xs ++ ys)) ∙ ap (λ zs. zs ++ received_after e.act []) (received-more xs ys)
    ∙ append_assoc (received ys) (received xs) (received_after e.act []) ∙ ap (λ zs. received ys ++ zs) (sym (after-more e.act (received xs)))

received-ids : (es : List Entry) → received (reverse es) ≡ ids_taken (map (λ (e : Entry). e.act) es)
received-ids [] = refl
received-ids (e ∷ es) =
    ap received (reverse-append (e ∷ []) es) ∙ received-more (reverse es) (e ∷ []) ∙ ap (λ zs. received_after e.act [] ++ zs) (received-ids es)

ids-more : (xs ys : List Act) → ids_taken (xs ++ ys) ≡ ids_taken xs ++ ids_taken ys
ids-more [] ys = refl
ids-more (a ∷ xs) ys = ap (λ zs. received_after a [] ++ zs) (ids-more xs ys) ∙ sym (append_assoc (received_after a []) (ids_taken xs) (ids_taken ys))

settled-none : (tag : Tag) (o : Option Settle) → ids_taken (settled_acts tag o) ≡ []
settled-none Tag.Plain o = refl
settled-none (Tag.Request n back) o = refl
settled-none (Tag.Reply c n) None = refl
settled-none (Tag.Reply c n) (Some settles.Done) = refl
settled-none (Tag.Reply c n) (Some settles.Late) = refl

abbrev pub messages : List TakenMessage → List Message
messages ts = map (λ (t : TakenMessage). t.message) ts

took-ids : (q : Ui) (ts : List TakenMessage) → ids_taken (took_acts q ts) ≡ ids (messages ts)
took-ids q [] = refl
took-ids q (t ∷ ts) =
    ids-more (taken_acts q (reply_with t)) (took_acts q ts)
    ∙ ap₂ (λ xs ys. (t.message.id ∷ xs) ++ ys) (settled-none t.message.tag t.settled) (took-ids q ts)

miss-none : (q : Ui) (a : Act) → IsMiss q a → ids_taken (a ∷ []) ≡ []
miss-none q a (inl e) = ap (λ z. ids_taken (z ∷ [])) e
miss-none q a (inr e) = ap (λ z. ids_taken (z ∷ [])) e

pub handled-ids : (q : Ui) (mine : List (Placed PlaceNote)) (took : List TakenMessage) (last : Act) → acts_made mine ≡ took_acts q took ++ last ∷ [] → IsMiss q last → received (reverse (entries_made mine)) ≡ ids (messages took)
handled-ids q mine took last acts miss =
    received-ids (entries_made mine) ∙ ap ids_taken (entry-acts mine ∙ acts) ∙ ids-more (took_acts q took) (last ∷ [])
    ∙ ap₂ (λ xs ys. xs ++ ys) (took-ids q took) (miss-none q last miss) ∙ append-nil (ids (messages took))

-- Its last entry.

pub record EndsWith (es : List Entry) (a : Act) : Type 0 where
  pub front : List Entry
  pub last : Entry
  pub is : es ≡ front ++ last ∷ []
  pub act : last.act ≡ a

pub ends-with : (es : List Entry) (acts : List Act) (a : Act) → map (λ (e : Entry). e.act) es ≡ acts ++ a ∷ [] → EndsWith es a
ends-with [] [] a h = absurd (cc)
ends-with [] (b ∷ acts) a h = absurd (cc)
ends-with (e ∷ []) [] a h = record { front = []; last = e; is = refl; act = cc }
ends-with (e ∷ f ∷ es) [] a h = absurd (cc)
ends-with (e ∷ es) (b ∷ acts) a h =
    let rest : map (λ (z : Entry). z.act) es ≡ acts ++ a ∷ [] = cc in
    let i = ends-with es acts a rest in
    record { front = e ∷ i.front; last = i.last; is = ap (λ zs. e ∷ zs) i.is; act = i.act }

-- Messages of the same ids that were posted are the same.

pub same-messages : (past : List Entry) (xs ys : List Message) → All (λ (m : Message). IsPostOf m past) xs → All (λ (m : Message). IsPostOf m past) ys → ids xs ≡ ids ys → xs ≡ ys
same-messages past [] [] a b h = refl
same-messages past [] (y ∷ ys) a b h = absurd (cc)
same-messages past (x ∷ xs) [] a b h = absurd (cc)
same-messages past (x ∷ xs) (y ∷ ys) a b h =
    let P = λ (m : Message). IsPostOf m past in
    let id : x.id ≡ y.id = cc in
    let more : ids xs ≡ ids ys = cc in
    let here = one-message past x y (All-head P x xs a) (All-head P y ys b) id in
    let rest = same-messages past xs ys (All-tail P x xs a) (All-tail P y ys b) more in
    (λ i. here i ∷ rest i)

posted-here : (l : Layout) (front past : List Entry) (e : Entry) (q : Ui) → is_legal l (e ∷ past) ≡ true → All (λ (m : Message). IsAsPosted m (front ++ e ∷ past)) (posted_to q e.act)
posted-here l front past e q h = go e.act refl
  where
    P : Message → Type 0
    P m = IsAsPosted m (front ++ e ∷ past)

    one : (b : Bool) (m : Message) (r : Ui) → e.act ≡ Act.Post m (Dest.Port r) → All P (cond b (m ∷ []) [])
    one false m r is = All-nil P
    one true m r is =
        let may = subst (λ z. act_may l (views past e.place e.seat z) e.place e.seat z ≡ true) is (legal_parts l e past h).0 in
        let needs = post_needs l past e.place e.seat m (Dest.Port r) may in
        All-cons P m [] (record {
          entry = e;
          message = m;
          dest = Dest.Port r;
          stands = record { newer = front; older = past; is = refl };
          posts = is;
          id = sym (own_source m.id needs.copy);
          tag = refl;
          body = refl;
        }) (All-nil P)

    go : (a : Act) → e.act ≡ a → All P (posted_to q a)
    go (Act.Post m (Dest.Port r)) is = one (same_ui r q) m r is
    go (Act.Post m (Dest.All g)) is = All-nil P
    go (Act.Post m (Dest.One g)) is = All-nil P
    go (Act.Post m (Dest.OneAt g t)) is = All-nil P
    go _ is = All-nil P

pub all-posted : (l : Layout) (front past : List Entry) (q : Ui) → is_legal l past ≡ true → All (λ (m : Message). IsAsPosted m (front ++ past)) (messages_to q past)
all-posted l front [] q h = All-nil (λ (m : Message). IsAsPosted m (front ++ []))
all-posted l front (e ∷ past) q h =
    All-append (λ (m : Message). IsAsPosted m (front ++ e ∷ past)) (messages_to q past) (posted_to q e.act)
    (subst (λ z. All (λ (m : Message). IsAsPosted m z) (messages_to q past)) (append_assoc front (e ∷ []) past) (all-posted l (front ++ e ∷ []) past q (legal_parts l e past h).1))
    (posted-here l front past e q h)
