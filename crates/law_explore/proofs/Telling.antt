-- Journals of which the same is told: one entry more of each, the same act, keeps them so, and what comes of them is the same.
use Rattle.std.proofs.Common.{ℕ, ◌≡◌, Bool, ◌||◌, List, [], ◌∷◌, ◌++◌, map, Option, Some, None, refl, sym, ◌∙◌, ap, subst}
use Rattle.std.specs.List.{flat_map, filter_map}
use Rattle.std.specs.Option.{option_map, option_or}
use Rattle.std.proofs.lemmas.List.{map-append}
use Rattle.chorus_ui.specs.declared.ui.Ui.{Ui}
use Rattle.chorus_entry.specs.declared.act.Act.{Act}
use Rattle.chorus_entry.specs.declared.entry.Entry.{Entry}
use Rattle.chorus_entry.specs.declared.id.MsgId.{MsgId}
use Rattle.chorus_world.specs.declared.place.Sent.{Sent}
use Rattle.chorus_world.specs.GroupLaws.{copies_of, copies_by}
use Rattle.chorus_world.specs.Messages.{verdict, verdict_by}
use Rattle.chorus_ports.specs.Table as table
use Rattle.law_machine.specs.PlaceState.{PlaceState}
use Rattle.law_explore.specs.Alike.{ActAlike, PlacesAlike}
use Rattle.law_explore.specs.Outcome.{answer_facts, plain_answer, Judged, port_fact, posts_in, verdict_in, copies_in, is_stale_by, is_stale_at, is_stale_in, stale_facts, stuck_facts, made_in, made_by, made_at, held_in, outcome_with}
use Rattle.law_explore.specs.Races.{Order, Told}
use Rattle.law_explore.specs.Moment.{accept_in}
use Rattle.law_explore.specs.Positions.{TellAlike, OrderAlike, AskAlike}
use Rattle.law_explore.proofs.Alike.{Keeping, read-more, acts-read}

map-or : {A B : Type 0} (f : A → B) (o p : Option A) → option_map f (option_or o p) ≡ option_or (option_map f o) (option_map f p)
map-or f None p = refl
map-or f (Some x) p = refl

-- One entry more.

abbrev ids : List Sent → List MsgId
ids ms = map (λ (m : Sent). m.id) ms

tell-more : (a : Act) (j k : List Entry) (c d p q s r : ℕ) → TellAlike j k
    → TellAlike (record { clock = c; place = p; seat = s; act = a } ∷ j) (record { clock = d; place = q; seat = r; act = a } ∷ k)
tell-more a j k c d p q s r h =
    record {
      reads = read-more a j k c d p q s r h.reads;
      verdicts = λ x. map-or plain_answer (verdict x j) (verdict_by x a)
          ∙ ap (λ o. option_or o (option_map plain_answer (verdict_by x a))) (h.verdicts x)
          ∙ sym (map-or plain_answer (verdict x k) (verdict_by x a));
      copies = λ x. map-append (λ (m : Sent). m.id) (copies_of x j) (copies_by x a)
          ∙ ap (λ xs. xs ++ ids (copies_by x a)) (h.copies x)
          ∙ sym (map-append (λ (m : Sent). m.id) (copies_of x k) (copies_by x a));
      stale = λ x. ap (λ b. b || is_stale_by x a) (h.stale x);
      made = ap (λ qs. qs ++ made_in a) h.made;
    }

tell-none : TellAlike [] []
tell-none = record { reads = acts-read [] [] refl; verdicts = λ x. refl; copies = λ x. refl; stale = λ x. refl; made = refl }

pub keep_tells : Keeping TellAlike
keep_tells = record { none = tell-none; more = tell-more; reads = λ j k h. h.reads }

-- where claims are asked too
order-more : (a : Act) (j k : List Entry) (c d p q s r : ℕ) → OrderAlike j k
    → OrderAlike (record { clock = c; place = p; seat = s; act = a } ∷ j) (record { clock = d; place = q; seat = r; act = a } ∷ k)
order-more a j k c d p q s r h = record {
  accepts = λ u. ap (λ xs. xs ++ accept_in u a) (h.accepts u);
  sent = λ x. map-append (λ (m : Sent). (m.id, m.port)) (copies_of x j) (copies_by x a)
      ∙ ap (λ xs. xs ++ map (λ (m : Sent). (m.id, m.port)) (copies_by x a)) (h.sent x)
      ∙ sym (map-append (λ (m : Sent). (m.id, m.port)) (copies_of x k) (copies_by x a));
}

pub keep_asks : (asks : Bool) → Keeping (AskAlike asks)
keep_asks asks = record {
  none = record { tells = tell-none; order = λ b. record { accepts = λ u. refl; sent = λ x. refl } };
  more = λ a j k c d p q s r h. record { tells = tell-more a j k c d p q s r h.tells; order = λ b. order-more a j k c d p q s r (h.order b) };
  reads = λ j k h. h.tells.reads;
}

-- so the same is told of journals with the same acts
pub acts-tell : (j k : List Entry) → ActAlike j k → TellAlike j k
acts-tell [] [] h = tell-none
acts-tell [] (f ∷ k) h = absurd (cc)
acts-tell (e ∷ j) [] h = absurd (cc)
acts-tell (e ∷ j) (f ∷ k) h =
    let same : e.act ≡ f.act = cc in
    let rest : ActAlike j k = cc in
    subst (λ (a : Act). TellAlike (e ∷ j) (record f { act = a } ∷ k)) same
    (tell-more e.act j k e.clock f.clock e.place f.place e.seat f.seat (acts-tell j k rest))

-- What is told of places, for any relation of journals of which the same is told.

module _ (J : List Entry → List Entry → Type 0) (tell : (j k : List Entry) → J j k → TellAlike j k) where
  pub places-verdict : (x : MsgId) (ss rs : List PlaceState) → PlacesAlike J ss rs → option_map plain_answer (verdict_in x ss) ≡ option_map plain_answer (verdict_in x rs)
  places-verdict x [] [] h = refl
  places-verdict x [] (r ∷ rs) h = absurd h
  places-verdict x (s ∷ ss) [] h = absurd h
  places-verdict x (s ∷ ss) (r ∷ rs) h =
      map-or plain_answer (verdict x s.journal) (verdict_in x ss)
      ∙ (λ i. option_or ((tell s.journal (h.0).journal (h.0).journals).verdicts x i) (places-verdict x ss rs h.1 i))
      ∙ sym (map-or plain_answer (verdict x (h.0).journal) (verdict_in x rs))
      ∙ ap (λ (z : PlaceState). option_map plain_answer (option_or (verdict x z.journal) (verdict_in x rs))) (sym (h.0).is)

  pub places-copies : (x : MsgId) (ss rs : List PlaceState) → PlacesAlike J ss rs → copies_in x ss ≡ copies_in x rs
  places-copies x [] [] h = refl
  places-copies x [] (r ∷ rs) h = absurd h
  places-copies x (s ∷ ss) [] h = absurd h
  places-copies x (s ∷ ss) (r ∷ rs) h =
      (λ i. (tell s.journal (h.0).journal (h.0).journals).copies x i ++ places-copies x ss rs h.1 i)
      ∙ ap (λ (z : PlaceState). ids (copies_of x z.journal) ++ copies_in x rs) (sym (h.0).is)

  pub places-stale : (x : MsgId) (ss rs : List PlaceState) → PlacesAlike J ss rs → is_stale_in x ss ≡ is_stale_in x rs
  places-stale x [] [] h = refl
  places-stale x [] (r ∷ rs) h = absurd h
  places-stale x (s ∷ ss) [] h = absurd h
  places-stale x (s ∷ ss) (r ∷ rs) h =
      (λ i. (tell s.journal (h.0).journal (h.0).journals).stale x i || places-stale x ss rs h.1 i)
      ∙ ap (λ (z : PlaceState). is_stale_at x z.journal || is_stale_in x rs) (sym (h.0).is)

  pub places-made : (ss rs : List PlaceState) → PlacesAlike J ss rs → made_at ss ≡ made_at rs
  places-made [] [] h = refl
  places-made [] (r ∷ rs) h = absurd h
  places-made (s ∷ ss) [] h = absurd h
  places-made (s ∷ ss) (r ∷ rs) h =
      (λ i. (tell s.journal (h.0).journal (h.0).journals).made i ++ places-made ss rs h.1 i)
      ∙ ap (λ (z : PlaceState). made_by z.journal ++ made_at rs) (sym (h.0).is)

  pub places-held : (q : Ui) (ss rs : List PlaceState) → PlacesAlike J ss rs → held_in q ss ≡ held_in q rs
  places-held q [] [] h = refl
  places-held q [] (r ∷ rs) h = absurd h
  places-held q (s ∷ ss) [] h = absurd h
  places-held q (s ∷ ss) (r ∷ rs) h =
      ap (option_or (table.find q s.ports)) (places-held q ss rs h.1)
      ∙ ap (λ (z : PlaceState). option_or (table.find q z.ports) (held_in q rs)) (sym (h.0).is)

  pub outcomes : (scripts left : List (List Order)) (told : List (List Told)) (ss rs : List PlaceState) → PlacesAlike J ss rs → outcome_with scripts left told ss ≡ outcome_with scripts left told rs
  outcomes scripts left told ss rs h =
      λ i. answer_facts 1 told
      ++ flat_map (λ (x : MsgId). Judged x (places-verdict x ss rs h i) ∷ stale_facts x (places-stale x ss rs h i))
      (flat_map (λ (x : MsgId). x ∷ places-copies x ss rs h i) (posts_in told))
      ++ filter_map (λ (q : Ui). option_map port_fact (places-held q ss rs h i)) (places-made ss rs h i)
      ++ stuck_facts scripts left
