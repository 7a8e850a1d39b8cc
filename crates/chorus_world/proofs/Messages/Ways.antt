-- Facts of legal lists: a message that is under way goes between two different places of the layout, and a post was made at one.
use Rattle.std.proofs.Common.{ℕ, zero, suc, ◌≡◌, ◌≢◌, ◌==◌, Bool, true, false, ◌&&◌, not, cond, List, [], ◌∷◌, Option, Some, None, refl, sym, ◌∙◌, ap, subst, inl, inr}
use Rattle.std.specs.List.{All, slice_get}
use Rattle.std.specs.Option.{option_or}
use Rattle.std.proofs.lemmas.Bool.{eqb-true, eqb-false, eq-eqb, and_parts, and_from, not-true, cond_both}
use Rattle.std.proofs.lemmas.List.Elements.{All-nil, All-cons, All-head, All-tail}
use Rattle.chorus_ui.specs.declared.ui.Ui.{Ui}
use Rattle.chorus_ui.specs.declared.layout.Layout.{Layout}
use Rattle.chorus_ui.specs.Layout.{IsLayout, has_site, has_place, creation_place}
use Rattle.chorus_ui.specs.Name.{same_ui}
use Rattle.chorus_ui.proofs.Names.{same_ui-self}
use Rattle.chorus_entry.specs.declared.entry.Entry.{Entry}
use Rattle.chorus_entry.specs.declared.id.MsgId.{MsgId}
use Rattle.chorus_entry.specs.declared.dest.Dest.TheVariants as D
use Rattle.chorus_entry.specs.declared.answer.Answer.{Answer}
use Rattle.chorus_entry.specs.declared.answer.Answer.TheVariants as A
use Rattle.chorus_entry.specs.declared.act.Act.{Act}
use Rattle.chorus_entry.specs.declared.act.Act.TheVariants.{Post, Accept, Full, Already, ClientsFull, Stale, Early, NoPort, Elsewhere, NoMember, Choose, Try, Told, Heard, Gone}
use Rattle.chorus_entry.specs.Act.{message_of}
use Rattle.chorus_entry.specs.Answer.{is_final}
use Rattle.chorus_entry.specs.MsgId.{same_id}
use Rattle.chorus_world.specs.declared.progress.Progress.{Progress}
use Rattle.chorus_world.specs.declared.progress.Progress.TheVariants.{Idle, Asked, Tried, Decided, Settled}
use Rattle.chorus_world.specs.Views.{views, at, on, about, is_about}
use Rattle.chorus_world.specs.Messages.{progress, progress_after, decided, told, settled}
use Rattle.chorus_world.specs.Ports.{PortState, fate}
use Rattle.chorus_world.specs.Posts.{Posted, posted_in, posted_by, site_asked, is_on_site}
use Rattle.chorus_world.specs.Places.{located, named_location, is_first}
use Rattle.chorus_world.specs.Steps.{act_may, may, is_legal, is_to_go, is_beyond}
use Rattle.chorus_world.specs.LocationLaws.{path_of}
use Rattle.chorus_world.proofs.Steps.LegalLemmas.{legal_parts, keeps, skips}
use Rattle.chorus_world.proofs.Ports.LineLemmas.{none_some, id_is}
use Rattle.chorus_world.proofs.Messages.SendingLemmas.{some_is, first_here}
use Rattle.chorus_world.proofs.Messages.StageLemmas.{MessageFacts, first_is_idle}
use Rattle.chorus_world.proofs.Messages.DueLemmas.{IsDue}
use Rattle.chorus_world.proofs.Messages.VerdictLemmas.{decision_due}
use Rattle.chorus_world.proofs.Messages.MessageSteps.{locates}
use Rattle.chorus_world.proofs.Messages.MessageInvariant.{told_needs, legal_messages}
use Rattle.chorus_world.proofs.Ports.Sites.{place-inside}
use Rattle.chorus_world.proofs.Ports.Paths.{PathIn, path-in, timely-place}

abbrev pub Has : Layout → ℕ → Type 0
Has l p = has_place l p ≡ true

abbrev pub Passes : Layout → Progress → Type 0
Passes l (Asked from d) = Has l from
Passes l (Tried from q to hop) = Has l from × Has l to × (to ≢ from)
Passes l (Decided from b q a) = Has l from × Has l b × (b ≢ from)
Passes l _ = Unit {0}

-- a port is located at a place of the layout, where the layout has its site
pub located-in : (l : Layout) (past : List Entry) (p : ℕ) (q : Ui) → IsLayout l → is_legal l past ≡ true → has_site l q.site ≡ true → Has l (located l q (at p past)).to
located-in l past p q shape legal site = go (fate (on q past)) (path-in l past q shape legal) (locates l past p q shape legal)
  where
    get-all : (xs : List ℕ) (i z : ℕ) → All (Has l) xs → slice_get xs i ≡ Some z → Has l z
    get-all [] i z h e = absurd (cc)
    get-all (x ∷ xs) zero z h e = (let same : x ≡ z = cc in subst (Has l) same (All-head (Has l) x xs h))
    get-all (x ∷ xs) (suc i) z h e = get-all xs i z (All-tail (Has l) x xs h) e

    named : Has l (named_location l q).to
    named = ap (λ b. has_place l (cond b (creation_place l q) 0)) site ∙ place-inside l q.site q shape site

    go : (o : Option PortState) → PathIn l q o → slice_get (path_of l q o) (located l q (at p past)).hop ≡ Some (located l q (at p past)).to → Has l (located l q (at p past)).to
    go None h e = get-all ((named_location l q).to ∷ []) (located l q (at p past)).hop (located l q (at p past)).to (All-cons (Has l) (named_location l q).to [] named (All-nil (Has l))) e
    go (Some f) h e = get-all f.path (located l q (at p past)).hop (located l q (at p past)).to h.0 e

passes-settled : (l : Layout) (a : Answer) → Passes l (settled a)
passes-settled l a = cond_both (is_final a) (Settled a) Idle (Passes l) (λ _. tt) (λ _. tt)

module _ (l : Layout) (shape : IsLayout l) (past : List Entry) (legal : is_legal l past ≡ true) (r s : ℕ) (has : has_place l r ≡ true) (x : MsgId) (f : MessageFacts x past) (old : Passes l (progress (about x past))) where
  decides : (a : Act) (q : Ui) (answer : Answer) → ((z : Progress) → progress_after r a z ≡ decided r q answer z) → IsDue x q r past → Passes l (progress_after r a (progress (about x past)))
  decides a q answer gives (inl t) =
      let now : progress_after r a (progress (about x past)) ≡ Decided t.from r q answer =
      gives (progress (about x past)) ∙ ap (decided r q answer) t.is
      ∙ ap (λ b. cond b (Decided t.from r q answer) Idle) (and_from (r == r) (same_ui q q) (eq-eqb r r refl) (same_ui-self q)) in
      let was : Passes l (Tried t.from q r t.hop) = subst (Passes l) t.is old in
      subst (Passes l) (sym now) (was.0, has, was.2)
  decides a q answer gives (inr first) =
      let idle = (first_is_idle x q r past f (first_here x q r past first)).0 in
      let now : progress_after r a (progress (about x past)) ≡ settled answer = gives (progress (about x past)) ∙ ap (decided r q answer) idle in
      subst (Passes l) (sym now) (passes-settled l answer)

  step : (a : Act) → message_of a ≡ Some x → act_may l (views past r s a) r s a ≡ true → Passes l (progress_after r a (progress (about x past)))
  step (Post m (D.Port q)) e h = tt
  step (Post m (D.All g)) e h = has
  step (Post m (D.One g)) e h = has
  step (Post m (D.OneAt g n)) e h = has
  step (Choose y g qs) e h = tt
  step (NoMember y g) e h = tt
  step (Heard y a) e h = tt
  step (Try y q to hop) e h =
      let three = and_parts (is_to_go l (views past r s (Try y q to hop)) y q to && ((located l q (at r past)).hop == hop) && not (to == r)) (is_on_site l (site_asked y past) to) h in
      let two = and_parts (is_to_go l (views past r s (Try y q to hop)) y q to && ((located l q (at r past)).hop == hop)) (not (to == r)) three.0 in
      let one = and_parts (is_to_go l (views past r s (Try y q to hop)) y q to) ((located l q (at r past)).hop == hop) two.0 in
      let near = and_parts (is_first y q (at r past) && not (is_beyond l q)) ((located l q (at r past)).to == to) one.0 in
      let site : has_site l q.site ≡ true = (let b = (and_parts (is_first y q (at r past)) (not (is_beyond l q)) near.0).1 in twice (has_site l q.site) b) in
      let there : Has l to = subst (Has l) (eqb-true (located l q (at r past)).to to near.1) (located-in l past r q shape legal site) in
      (has, there, eqb-false to r (not-true (to == r) two.1))
    where
      twice : (b : Bool) → not (not b) ≡ true → b ≡ true
      twice true k = refl
      twice false k = k
  step (Told y a) e h =
      let same : y ≡ x = some_is y x e in
      let needs = told_needs l past r s x a (subst (λ z. act_may l (views past r s (Told z a)) r s (Told z a) ≡ true) same h) in
      subst (λ z. Passes l (told a z)) (sym needs.is) (passes-settled l a)
  step (Accept y q n) e h = decides (Accept y q n) q (A.Accepted n) (λ z. refl) (decision_due l past r s (Accept y q n) x q refl e refl h)
  step (Full y q n) e h = decides (Full y q n) q (A.Full n) (λ z. refl) (decision_due l past r s (Full y q n) x q refl e refl h)
  step (Already y q) e h = decides (Already y q) q A.Already (λ z. refl) (decision_due l past r s (Already y q) x q refl e refl h)
  step (ClientsFull y q) e h = decides (ClientsFull y q) q A.ClientsFull (λ z. refl) (decision_due l past r s (ClientsFull y q) x q refl e refl h)
  step (Stale y q k to hop) e h = decides (Stale y q k to hop) q (A.Stale to hop) (λ z. refl) (decision_due l past r s (Stale y q k to hop) x q refl e refl h)
  step (Early y q hop) e h = decides (Early y q hop) q (A.Early hop) (λ z. refl) (decision_due l past r s (Early y q hop) x q refl e refl h)
  step (NoPort y q) e h = decides (NoPort y q) q A.NoPort (λ z. refl) (decision_due l past r s (NoPort y q) x q refl e refl h)
  step (Elsewhere y q to hop) e h = decides (Elsewhere y q to hop) q (A.Elsewhere to hop) (λ z. refl) (decision_due l past r s (Elsewhere y q to hop) x q refl e refl h)
  step (Gone y q) e h = decides (Gone y q) q A.Gone (λ z. refl) (decision_due l past r s (Gone y q) x q refl e refl h)
  step _ e h = none_some x e

pub passes : (l : Layout) (past : List Entry) (x : MsgId) → IsLayout l → is_legal l past ≡ true → Passes l (progress (about x past))
passes l [] x shape h = tt
passes l (e ∷ past) x shape h = go (is_about (Some x) e) refl (passes l past x shape)
  where
    two : (act_may l (views past e.place e.seat e.act) e.place e.seat e.act ≡ true) × (is_legal l past ≡ true)
    two = legal_parts l e past h

    go : (b : Bool) → is_about (Some x) e ≡ b → (is_legal l past ≡ true → Passes l (progress (about x past))) → Passes l (progress (about x (e ∷ past)))
    go true t ih =
        subst (Passes l) (sym (ap progress (keeps (is_about (Some x)) e past t)))
        (step l shape past two.1 e.place e.seat (timely-place l past e (and_parts (may l past e) (is_legal l past) h).0) x (legal_messages l past two.1 x) (ih two.1) e.act (id_is x (message_of e.act) t) two.0)
    go false t ih = subst (Passes l) (sym (ap progress (skips (is_about (Some x)) e past t))) (ih two.1)

-- Posts.

pub all-places : (l : Layout) (past : List Entry) → is_legal l past ≡ true → All (λ (e : Entry). has_place l e.place ≡ true) past
all-places l [] h = All-nil (λ (e : Entry). has_place l e.place ≡ true)
all-places l (e ∷ past) h =
    let two = and_parts (may l past e) (is_legal l past) h in
    All-cons (λ (f : Entry). has_place l f.place ≡ true) e past (timely-place l past e two.0) (all-places l past two.1)

pub posted-place : (l : Layout) (x : MsgId) (es : List Entry) (m : Posted) → All (λ (e : Entry). has_place l e.place ≡ true) es → posted_in x es ≡ Some m → has_place l m.place ≡ true
posted-place l x [] m h e = absurd (cc)
posted-place l x (f ∷ es) m h e =
    let P : Entry → Type 0 = λ (g : Entry). has_place l g.place ≡ true in
    go (posted_in x es) refl e (posted-place l x es m (All-tail P f es h))
  where
    by-act : (a : Act) → posted_by x f.place a ≡ Some m → f.place ≡ m.place
    by-act (Post k d) g = choice (same_id k.id x) g
      where
        choice : (b : Bool) → cond b (Some (record { place = f.place; message = k; dest = d })) None ≡ Some m → f.place ≡ m.place
        choice true i = ap place_in i
          where
            place_in : Option Posted → ℕ
            place_in None = 0
            place_in (Some z) = z.place
        choice false i = absurd (cc)
    by-act _ g = absurd (cc)

    go : (o : Option Posted) → posted_in x es ≡ o → option_or o (posted_by x f.place f.act) ≡ Some m → (posted_in x es ≡ Some m → has_place l m.place ≡ true) → has_place l m.place ≡ true
    go None i g ih = subst (Has l) (by-act f.act g) (All-head (λ (z : Entry). has_place l z.place ≡ true) f es h)
    go (Some z) i g ih = ih (i ∙ g)
