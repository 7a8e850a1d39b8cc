-- What a port accepted was posted, to it or as a copy that a Choose made for it.
use Rattle.std.proofs.Common.{ℕ, suc, ◌≡◌, ◌+◌, Bool, true, false, ◌⊎◌, cond, List, [], ◌∷◌, ◌++◌, Some, None, refl, sym, ◌∙◌, ap, subst, inl, inr, arith}
use Rattle.std.specs.Prelude.{slice_get}
use Rattle.std.specs.Option.{option_or}
use Rattle.std.proofs.lemmas.Bool.{cases_Bool}
use Rattle.chorus_ui.specs.declared.ui.Ui.{Ui}
use Rattle.chorus_ui.specs.declared.layout.Layout.{Layout}
use Rattle.chorus_entry.specs.declared.entry.Entry.{Entry}
use Rattle.chorus_entry.specs.declared.id.MsgId.{MsgId}
use Rattle.chorus_entry.specs.declared.dest.Dest.TheVariants.{Port, All, One, OneAt}
use Rattle.chorus_entry.specs.declared.act.Act.{Act}
use Rattle.chorus_entry.specs.declared.act.Act.TheVariants.{Post, Choose}
use Rattle.chorus_entry.specs.Dest.{group_in}
use Rattle.chorus_entry.specs.MsgId.{same_id}
use Rattle.chorus_entry.specs.Order.{is_at}
use Rattle.chorus_entry.proofs.Same.{from_same_id}
use Rattle.chorus_world.specs.declared.place.Sent.{Sent}
use Rattle.chorus_world.specs.Views.{at, by, is_by, views}
use Rattle.chorus_world.specs.Places.{copies, find_sent, sent, sent_by}
use Rattle.chorus_world.specs.Posts.{Posted, posted_by, posted_in, source}
use Rattle.chorus_world.specs.Steps.{act_may, is_legal}
use Rattle.chorus_world.specs.SentLaws.{AcceptsWhatWasSent, IsCopiedTo, IsPostedTo, IsPostedToGroup, StandsIn}
use Rattle.chorus_world.proofs.Steps.LegalLemmas.{keeps, legal_parts, skips}
use Rattle.chorus_world.proofs.Ports.LineLemmas.{none_some}
use Rattle.chorus_world.proofs.Messages.SendingLemmas.{from_or, sent_as, some_is}
use Rattle.chorus_world.proofs.Messages.SentLemmas.{find_sent_append}
use Rattle.chorus_world.proofs.Messages.PostLemmas.{asked_facts, choose_needs, own_source}
use Rattle.chorus_world.proofs.Messages.MessageInvariant.{legal_messages}
use Rattle.chorus_world.proofs.Messages.AcceptedLemmas.{accepted_belongs}

-- a copy is for the member at its place
find-copy : (x y : MsgId) (g : Ui) (n : ℕ) (qs : List Ui) (m : Sent) → find_sent x (copies y g n qs) ≡ Some m → (i : ℕ) × (slice_get qs i ≡ Some m.port) × (x ≡ record y { copy = n + i })
find-copy x y g n [] m h = none_some m h
find-copy x y g n (q ∷ qs) m h = go (same_id (record y { copy = n }) x) refl h (λ k. find-copy x y g (n + 1) qs m k)
  where
    go : (b : Bool) → same_id (record y { copy = n }) x ≡ b → cond b (Some (record { id = record y { copy = n }; port = q; route = Some g })) (find_sent x (copies y g (n + 1) qs)) ≡ Some m → (find_sent x (copies y g (n + 1) qs) ≡ Some m → (i : ℕ) × (slice_get qs i ≡ Some m.port) × (x ≡ record y { copy = n + 1 + i })) → (i : ℕ) × (slice_get (q ∷ qs) i ≡ Some m.port) × (x ≡ record y { copy = n + i })
    go true e k later =
        let same : record { id = record y { copy = n }; port = q; route = Some g } ≡ m = some_is (record { id = record y { copy = n }; port = q; route = Some g }) m k in
        (0, ap (λ (z : Sent). Some z.port) same, sym (from_same_id (record y { copy = n }) x e) ∙ ap (λ (k : ℕ). record y { copy = k }) (omega arith))
    go false e k later =
        let ih = later k in
        let i = ih.0 in
        (suc i, ih.1, ih.2 ∙ ap (λ (k : ℕ). record y { copy = k }) (omega arith))

abbrev WasSent : MsgId → Ui → List Entry → Type 0
WasSent x q past = IsPostedTo x q past ⊎ IsCopiedTo x q past

abbrev stands-later : (e f : Entry) (past : List Entry) → StandsIn f past → StandsIn f (e ∷ past)
stands-later e f past h = record { newer = e ∷ h.newer; older = h.older; is = ap (λ zs. e ∷ zs) h.is }

was-grows : (x : MsgId) (q : Ui) (e : Entry) (past : List Entry) → WasSent x q past → WasSent x q (e ∷ past)
was-grows x q e past (inl h) = inl (record { entry = h.entry; message = h.message; stands = stands-later e h.entry past h.stands; posts = h.posts; id = h.id })
was-grows x q e past (inr h) =
    inr (record {
      entry = h.entry;
      post = h.post;
      group = h.group;
      members = h.members;
      position = h.position;
      stands = stands-later e h.entry past h.stands;
      chooses = h.chooses;
      posted = h.posted;
      member = h.member;
      copy = h.copy;
      source = h.source;
    })

abbrev now-stands : (e : Entry) (past : List Entry) → StandsIn e (e ∷ past)
now-stands e past = record { newer = []; older = past; is = refl }

-- what is found among the posts of a seat was posted
to-group-later : (x : MsgId) (g : Ui) (e : Entry) (past : List Entry) → IsPostedToGroup x g past → IsPostedToGroup x g (e ∷ past)
to-group-later x g e past h =
    record { entry = h.entry; message = h.message; dest = h.dest; stands = stands-later e h.entry past h.stands; posts = h.posts; group = h.group; id = h.id }

to-group-now : (x : MsgId) (g : Ui) (m : Posted) (e : Entry) (past : List Entry) (a : Act) → e.act ≡ a → posted_by x e.place a ≡ Some m → group_in m.dest ≡ Some g → IsPostedToGroup x g (e ∷ past)
to-group-now x g m e past (Post k d) is h group = go (same_id k.id x) refl h
  where
    go : (b : Bool) → same_id k.id x ≡ b → cond b (Some (record { place = e.place; message = k; dest = d })) None ≡ Some m → IsPostedToGroup x g (e ∷ past)
    go true t j =
        let same : record { place = e.place; message = k; dest = d } ≡ m = some_is (record { place = e.place; message = k; dest = d }) m j in
        record {
          entry = e;
          message = k;
          dest = d;
          stands = now-stands e past;
          posts = is;
          group = ap (λ (z : Posted). group_in z.dest) same ∙ group;
          id = from_same_id k.id x t;
        }
    go false t j = none_some m j
to-group-now x g m e past _ is h group = none_some m h

to-group-stands : (past : List Entry) (s : ℕ) (x : MsgId) (g : Ui) (m : Posted) → posted_in x (by s past) ≡ Some m → group_in m.dest ≡ Some g → IsPostedToGroup x g past
to-group-stands [] s x g m h group = none_some m h
to-group-stands (e ∷ past) s x g m h group =
    elim (cases_Bool (is_by s e)) [
      | inl t ↦ (
          let mine : option_or (posted_in x (by s past)) (posted_by x e.place e.act) ≡ Some m = ap (posted_in x) (sym (keeps (is_by s) e past t)) ∙ h in
          elim (from_or (posted_in x (by s past)) (posted_by x e.place e.act) m mine) [
            | inl old ↦ to-group-later x g e past (to-group-stands past s x g m old group)
            | inr new ↦ to-group-now x g m e past e.act refl new.1 group
          ])
      | inr n ↦ to-group-later x g e past (to-group-stands past s x g m (ap (posted_in x) (sym (skips (is_by s) e past n)) ∙ h) group)
    ]

-- the post of a Choose was posted to its group
chosen-posted : (l : Layout) (past : List Entry) (e : Entry) (y : MsgId) (g : Ui) (qs : List Ui) → is_legal l (e ∷ past) ≡ true → e.act ≡ Choose y g qs → IsPostedToGroup y g past
chosen-posted l past e y g qs legal is =
    let two = legal_parts l e past legal in
    let may = subst (λ z. act_may l (views past e.place e.seat z) e.place e.seat z ≡ true) is two.0 in
    let needs = choose_needs l past e.place e.seat y g qs may in
    let asked = (asked_facts y past needs.from needs.dest (legal_messages l past two.1 y) needs.asked).1 in
    subst (λ z. IsPostedToGroup z g past) (own_source y asked.copy)
    (to-group-stands past y.seat (source y) g asked.post asked.posted (ap group_in asked.dest ∙ needs.group))

was-now : (l : Layout) (x : MsgId) (m : Sent) (e : Entry) (past : List Entry) (a : Act) → is_legal l (e ∷ past) ≡ true → e.act ≡ a → find_sent x (sent_by a) ≡ Some m → WasSent x m.port (e ∷ past)
was-now l x m e past (Post k (Port q)) legal is h = go (same_id k.id x) refl h
  where
    go : (b : Bool) → same_id k.id x ≡ b → cond b (Some (record { id = k.id; port = q; route = None })) None ≡ Some m → WasSent x m.port (e ∷ past)
    go true t j =
        let same : record { id = k.id; port = q; route = None } ≡ m = some_is (record { id = k.id; port = q; route = None }) m j in
        inl (record {
          entry = e;
          message = k;
          stands = now-stands e past;
          posts = is ∙ ap (λ (z : Sent). Post k (Port z.port)) same;
          id = from_same_id k.id x t;
        })
    go false t j = none_some m j
was-now l x m e past (Post k (All g)) legal is h = none_some m h
was-now l x m e past (Post k (One g)) legal is h = none_some m h
was-now l x m e past (Post k (OneAt g s)) legal is h = none_some m h
was-now l x m e past (Choose y g qs) legal is h =
    let found = find-copy x y g 1 qs m h in
    inr (record {
      entry = e;
      post = y;
      group = g;
      members = qs;
      position = found.0;
      stands = now-stands e past;
      chooses = is;
      posted = chosen-posted l past e y g qs legal is;
      member = found.1;
      copy = ap (λ (z : MsgId). z.copy) found.2 ∙ omega arith;
      source = ap source found.2;
    })
was-now l x m e past _ legal is h = none_some m h

was-sent : (l : Layout) (past : List Entry) (p : ℕ) (x : MsgId) (m : Sent) → is_legal l past ≡ true → sent_as x p past ≡ Some m → WasSent x m.port past
was-sent l [] p x m legal h = none_some m h
was-sent l (e ∷ past) p x m legal h =
    let before = (legal_parts l e past legal).1 in
    elim (cases_Bool (is_at p e)) [
      | inl t ↦ (
          let here : find_sent x (sent (at p past) ++ sent_by e.act) ≡ Some m = ap (λ z. find_sent x (sent z)) (sym (keeps (is_at p) e past t)) ∙ h in
          elim (from_or (find_sent x (sent (at p past))) (find_sent x (sent_by e.act)) m (sym (find_sent_append x (sent (at p past)) (sent_by e.act)) ∙ here)) [
            | inl old ↦ was-grows x m.port e past (was-sent l past p x m before old)
            | inr new ↦ was-now l x m e past e.act legal refl new.1
          ])
      | inr n ↦ was-grows x m.port e past (was-sent l past p x m before (ap (λ z. find_sent x (sent z)) (sym (skips (is_at p) e past n)) ∙ h))
    ]

pub accepts_what_was_sent : (l : Layout) (past : List Entry) → is_legal l past ≡ true → AcceptsWhatWasSent past
accepts_what_was_sent l past h q i x at =
    let b = accepted_belongs l past q i x h at in
    subst (λ z. WasSent x z past) b.port (was-sent l past b.place x b.message h b.is)
