-- What each entry began: what was sent, and posts to groups; and that whatever is under way was begun.
use Rattle.std.proofs.Common.{ℕ, ◌≡◌, Bool, true, false, ◌⊎◌, cond, List, [], ◌∷◌, ◌++◌, Some, refl, sym, ◌∙◌, ap, subst, inl, inr}
use Rattle.std.proofs.lemmas.Bool.{and_parts, false≢true, cases_Bool}
use Rattle.chorus_ui.specs.declared.ui.Ui.{Ui}
use Rattle.chorus_ui.specs.declared.layout.Layout.{Layout}
use Rattle.chorus_entry.specs.declared.entry.Entry.{Entry}
use Rattle.chorus_entry.specs.declared.id.MsgId.{MsgId}
use Rattle.chorus_entry.specs.declared.dest.Dest.TheVariants as D
use Rattle.chorus_entry.specs.declared.act.Act.{Act}
use Rattle.chorus_entry.specs.declared.act.Act.TheVariants.{Post, Accept, Full, Already, ClientsFull, Stale, Early, NoPort, Elsewhere, NoMember, Choose, Try, Told, Heard, Gone}
use Rattle.chorus_entry.specs.Act.{message_of}
use Rattle.chorus_entry.specs.MsgId.{same_id}
use Rattle.chorus_entry.specs.Order.{is_at}
use Rattle.chorus_entry.proofs.Same.{same_id-self, from_same_id}
use Rattle.chorus_world.specs.declared.place.Sent.{Sent}
use Rattle.chorus_world.specs.declared.progress.Progress.{Progress}
use Rattle.chorus_world.specs.Views.{views, at, about, is_about}
use Rattle.chorus_world.specs.Messages.{progress, progress_after, is_to_be_heard}
use Rattle.chorus_world.specs.Places.{sent, sent_by, copies, find_sent, is_first}
use Rattle.chorus_world.specs.Posts.{post_of}
use Rattle.chorus_world.specs.Steps.{act_may, is_legal, is_asked_from}
use Rattle.chorus_world.proofs.Steps.LegalLemmas.{legal_parts, keeps, skips}
use Rattle.chorus_world.proofs.Ports.LineLemmas.{none_some, id_is}
use Rattle.chorus_world.proofs.Messages.Posted.{is_idle, heard_busy}
use Rattle.chorus_world.proofs.Messages.SendingLemmas.{sent_as, sent_stays, some_is, first_here, at_same}
use Rattle.chorus_world.proofs.Messages.DueLemmas.{IsDue, first_try}
use Rattle.chorus_world.proofs.Messages.VerdictLemmas.{decision_due}
use Rattle.chorus_world.proofs.Messages.PostLemmas.{choose_needs, no_member_needs}
use Rattle.chorus_world.proofs.Messages.MessageInvariant.{told_needs}
use Rattle.chorus_world.proofs.Messages.SentFacts.{EachSent, IsFound, each-append, each-map, all-found}
use Rattle.law_judge.specs.Open.{open_by, open_message}
use Rattle.law_judge.proofs.Lists.{NoneOpen, each-empty}
use Rattle.law_judge.proofs.Stages.{Busy, stays-busy}

-- What was sent was begun.

module _ (l : Layout) (all : List Entry) where
  abbrev pub IsClosed : MsgId → Type 0
  IsClosed x = open_message l all x ≡ []

  by-closed : (c p : ℕ) (a : Act) → open_by l all c p a ≡ [] → EachSent (λ m. IsClosed m.id) (sent_by a)
  by-closed c p (Post m (D.Port q)) h = (h, tt)
  by-closed c p (Post m (D.All g)) h = tt
  by-closed c p (Post m (D.One g)) h = tt
  by-closed c p (Post m (D.OneAt g s)) h = tt
  by-closed c p (Choose x g qs) h = each-empty (λ m. open_message l all m.id) (copies x g 1 qs) h
  by-closed c p _ h = tt

  pub sent-closed : (p : ℕ) (past : List Entry) → NoneOpen l all past → EachSent (λ m. IsClosed m.id) (sent (at p past))
  sent-closed p [] h = tt
  sent-closed p (e ∷ past) h = go (is_at p e) (sent-closed p past h.1)
    where
      go : (b : Bool) → EachSent (λ m. IsClosed m.id) (sent (at p past)) → EachSent (λ m. IsClosed m.id) (sent (cond b (e ∷ at p past) (at p past)))
      go false k = k
      go true k = each-append (λ m. IsClosed m.id) (sent (at p past)) (sent_by e.act) k (by-closed e.clock e.place e.act h.0)

  found-closed : (x : MsgId) (ms : List Sent) (m : Sent) → EachSent (λ m. IsClosed m.id) ms → find_sent x ms ≡ Some m → IsClosed x
  found-closed x [] m h e = none_some m e
  found-closed x (k ∷ ms) m h e =
      elim (cases_Bool (same_id k.id x)) [
        | inl t ↦ subst IsClosed (from_same_id k.id x t) h.0
        | inr n ↦ found-closed x ms m h.1 (sym (ap (λ b. cond b (Some k) (find_sent x ms)) n) ∙ e)
      ]

  -- Whatever is not idle was begun.

  module _ (past : List Entry) (none : NoneOpen l all past) (c p s : ℕ) (x : MsgId) (idle : is_idle (progress (about x past)) ≡ true) where
    busy-idle : (z : Progress) → progress (about x past) ≡ z → is_idle z ≡ false → IsClosed x
    busy-idle z is busy = absurd (false≢true (sym busy ∙ sym (ap is_idle is) ∙ idle))

    first-closed : (q : Ui) → is_first x q (at p past) ≡ true → IsClosed x
    first-closed q h =
        let first = first_here x q p past h in
        found-closed x (sent (at p past)) first.message (sent-closed p past none) first.is

    due-closed : (q : Ui) → IsDue x q p past → IsClosed x
    due-closed q (inl t) = busy-idle _ t.is refl
    due-closed q (inr h) = first-closed q h

    now-closed : (a : Act) → message_of a ≡ Some x → act_may l (views past p s a) p s a ≡ true → open_by l all c p a ≡ [] → IsClosed x
    now-closed (Post m d) e h new = subst IsClosed (some_is m.id x e) new
    now-closed (Choose y g qs) e h new =
        let needs = choose_needs l past p s y g qs h in
        busy-idle _ (ap (λ z. progress (about z past)) (sym (some_is y x e)) ∙ needs.asked) refl
    now-closed (NoMember y g) e h new =
        let needs = no_member_needs l past p s y g h in
        busy-idle _ (ap (λ z. progress (about z past)) (sym (some_is y x e)) ∙ needs.asked) refl
    now-closed (Heard y a) e h new =
        let was = and_parts (is_asked_from l p (post_of y past)) (is_to_be_heard a (progress (about y past))) h in
        busy-idle (progress (about y past)) (ap (λ z. progress (about z past)) (sym (some_is y x e))) (heard_busy a (progress (about y past)) was.1)
    now-closed (Told y a) e h new =
        let needs = told_needs l past p s y a h in
        busy-idle _ (ap (λ z. progress (about z past)) (sym (some_is y x e)) ∙ needs.is) refl
    now-closed (Try y q to hop) e h new =
        first-closed q (subst (λ z. is_first z q (at p past) ≡ true) (some_is y x e) (first_try l past p s y q to hop h))
    now-closed (Accept y q n) e h new = due-closed q (decision_due l past p s (Accept y q n) x q refl e refl h)
    now-closed (Full y q n) e h new = due-closed q (decision_due l past p s (Full y q n) x q refl e refl h)
    now-closed (Already y q) e h new = due-closed q (decision_due l past p s (Already y q) x q refl e refl h)
    now-closed (ClientsFull y q) e h new = due-closed q (decision_due l past p s (ClientsFull y q) x q refl e refl h)
    now-closed (Stale y q k to hop) e h new = due-closed q (decision_due l past p s (Stale y q k to hop) x q refl e refl h)
    now-closed (Early y q hop) e h new = due-closed q (decision_due l past p s (Early y q hop) x q refl e refl h)
    now-closed (NoPort y q) e h new = due-closed q (decision_due l past p s (NoPort y q) x q refl e refl h)
    now-closed (Elsewhere y q to hop) e h new = due-closed q (decision_due l past p s (Elsewhere y q to hop) x q refl e refl h)
    now-closed (Gone y q) e h new = due-closed q (decision_due l past p s (Gone y q) x q refl e refl h)
    now-closed _ e h new = none_some x e

  pub busy-closed : (past : List Entry) (x : MsgId) → is_legal l past ≡ true → NoneOpen l all past → is_idle (progress (about x past)) ≡ false → IsClosed x
  busy-closed [] x h none busy = absurd (false≢true (sym busy))
  busy-closed (e ∷ past) x h none busy =
      go (busy-closed past x (legal_parts l e past h).1 none.1) (is_about (Some x) e) refl
    where
      go : (is_idle (progress (about x past)) ≡ false → IsClosed x) → (b : Bool) → is_about (Some x) e ≡ b → IsClosed x
      go older false off = older (sym (ap (λ z. is_idle (progress z)) (skips (is_about (Some x)) e past off)) ∙ busy)
      go older true on =
          elim (cases_Bool (is_idle (progress (about x past)))) [
            | inl idle ↦ now-closed past none.1 e.clock e.place e.seat x idle e.act (id_is x (message_of e.act) on) (legal_parts l e past h).0 none.0
            | inr was ↦ older was
          ]

-- What was begun was sent, or was posted to a group and waits for its choice or has it.

abbrev pub IsBegun : List Entry → MsgId → Type 0
IsBegun all x = ((p : ℕ) × (m : Sent) × (sent_as x p all ≡ Some m)) ⊎ Busy (progress (about x all))

abbrev pub Begins : List Entry → Act → Type 0
Begins all (Post m d) = IsBegun all m.id
Begins all (Choose x g qs) = EachSent (λ m. IsBegun all m.id) (copies x g 1 qs)
Begins all _ = Unit {0}

abbrev pub AllBegun : List Entry → List Entry → Type 0
AllBegun all [] = Unit {0}
AllBegun all (e ∷ past) = Begins all e.act × AllBegun all past

module _ (l : Layout) (all : List Entry) (e : Entry) (h : is_legal l (e ∷ all) ≡ true) where
  one-more : (x : MsgId) → IsBegun all x → IsBegun (e ∷ all) x
  one-more x (inl k) = inl (k.0, k.1, sent_stays x k.0 all e k.1 k.2)
  one-more x (inr k) = inr (stays-busy l all e x h k)

  act-more : (a : Act) → Begins all a → Begins (e ∷ all) a
  act-more (Post m d) k = one-more m.id k
  act-more (Choose x g qs) k =
      each-map (λ m. IsBegun all m.id) (λ m. IsBegun (e ∷ all) m.id) (λ m. one-more m.id) (copies x g 1 qs) k
  act-more _ k = tt

  all-more : (past : List Entry) → AllBegun all past → AllBegun (e ∷ all) past
  all-more [] k = tt
  all-more (f ∷ past) k = (act-more f.act k.0, all-more past k.1)

  right : (P : Sent → Type 0) (ms ns : List Sent) → EachSent P (ms ++ ns) → EachSent P ns
  right P [] ns k = k
  right P (m ∷ ms) ns k = right P ms ns k.1

  sent-now : EachSent (λ m. IsBegun (e ∷ all) m.id) (sent_by e.act)
  sent-now =
      let here = at_same e.place e all refl in
      let found = all-found l (e ∷ all) e.place h in
      let ms = sent (at e.place all) in
      let mine = right (IsFound (ms ++ sent_by e.act)) ms (sent_by e.act) (subst (λ z. EachSent (IsFound (sent z)) (sent z)) here found) in
      each-map (IsFound (ms ++ sent_by e.act)) (λ m. IsBegun (e ∷ all) m.id)
      (λ m k. inl (e.place, m, ap (λ z. find_sent m.id (sent z)) here ∙ k)) (sent_by e.act) mine

  posted-now : (m : MsgId) (z : Progress) → (is_about (Some m) e ≡ true) → progress_after e.place e.act (progress (about m all)) ≡ z → Busy z → IsBegun (e ∷ all) m
  posted-now m z on now busy = inr (subst Busy (sym (ap progress (keeps (is_about (Some m)) e all on) ∙ now)) busy)

  by-now : (a : Act) → e.act ≡ a → EachSent (λ m. IsBegun (e ∷ all) m.id) (sent_by a) → Begins (e ∷ all) a
  by-now (Post m (D.Port q)) is k = k.0
  by-now (Post m (D.All g)) is k =
      posted-now m.id _ (ap (λ a. is_about (Some m.id) (record e { act = a })) is ∙ same_id-self m.id) (ap (λ a. progress_after e.place a (progress (about m.id all))) is) tt
  by-now (Post m (D.One g)) is k =
      posted-now m.id _ (ap (λ a. is_about (Some m.id) (record e { act = a })) is ∙ same_id-self m.id) (ap (λ a. progress_after e.place a (progress (about m.id all))) is) tt
  by-now (Post m (D.OneAt g s)) is k =
      posted-now m.id _ (ap (λ a. is_about (Some m.id) (record e { act = a })) is ∙ same_id-self m.id) (ap (λ a. progress_after e.place a (progress (about m.id all))) is) tt
  by-now (Choose x g qs) is k = k
  by-now _ is k = tt

pub all-begun : (l : Layout) (all : List Entry) → is_legal l all ≡ true → AllBegun all all
all-begun l [] h = tt
all-begun l (e ∷ all) h =
    (by-now l all e h e.act refl (sent-now l all e h), all-more l all e h all (all-begun l all (legal_parts l e all h).1))
