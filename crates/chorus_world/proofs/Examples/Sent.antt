-- What a port accepts that was not sent to it, each time in a past that is not legal; and a copy that was.
use Rattle.std.proofs.Common.{◌≡◌, ◌⊎◌, Bool, true, false, List, [], ◌∷◌, ◌++◌, append_assoc, Some, refl, sym, ◌∙◌, ap, subst, inl, inr}
use Rattle.std.specs.List.{list_all}
use Rattle.std.proofs.lemmas.Bool.{and_parts, false≢true}
use Rattle.chorus_ui.specs.declared.ui.Ui.{Ui}
use Rattle.chorus_ui.specs.Name.{same_ui}
use Rattle.chorus_ui.proofs.Names.{from_same_ui}
use Rattle.chorus_entry.specs.declared.dest.Dest.{Dest}
use Rattle.chorus_entry.specs.declared.entry.Entry.{Entry}
use Rattle.chorus_entry.specs.declared.id.MsgId.{MsgId}
use Rattle.chorus_entry.specs.declared.tag.Tag.{Tag}
use Rattle.chorus_entry.specs.declared.act.Act.{Act}
use Rattle.chorus_entry.specs.Dest.{group_in}
use Rattle.chorus_entry.specs.Same.{are_same}
use Rattle.chorus_world.specs.SentLaws.{AcceptsWhatWasSent, IsCopiedTo, IsPostedTo}
use Rattle.chorus_world.proofs.Examples.Names.{actor, copied, first, group, now, port, third}

abbrev made : List Entry
made = now 1 (Act.Make port actor 2) ∷ []

abbrev posts_nothing : Act → Bool
posts_nothing (Act.Post m d) = false
posts_nothing _ = true

-- a test that each entry of a past passes is passed by one that stands there
stands-passes : (test : Entry → Bool) (past newer older : List Entry) (e : Entry) → past ≡ newer ++ e ∷ older → list_all test past ≡ true → test e ≡ true
stands-passes test [] [] older e h all = absurd (cc)
stands-passes test [] (f ∷ newer) older e h all = absurd (cc)
stands-passes test (g ∷ past) [] older e h all =
    let same : g ≡ e = cc in subst (λ z. test z ≡ true) same (and_parts (test g) (list_all test past) all).0
stands-passes test (g ∷ past) (f ∷ newer) older e h all =
    let rest : past ≡ newer ++ e ∷ older = cc in
    stands-passes test past newer older e rest (and_parts (test g) (list_all test past) all).1

-- so is a test by the post of a copy
post-passes : (test : Entry → Bool) (past : List Entry) (x : MsgId) (q : Ui) (c : IsCopiedTo x q past) → list_all test past ≡ true → test c.posted.entry ≡ true
post-passes test past x q c all =
    let post = c.posted in
    stands-passes test past (c.stands.newer ++ c.entry ∷ post.stands.newer) post.stands.older post.entry
    (c.stands.is ∙ (ap (λ zs. c.stands.newer ++ c.entry ∷ zs) post.stands.is ∙ sym (append_assoc c.stands.newer (c.entry ∷ post.stands.newer) (post.entry ∷ post.stands.older)))) all

-- where no Post stands, nothing was posted, and no copy has a post
nothing-posted : (past : List Entry) (x : MsgId) (q : Ui) → list_all (λ e. posts_nothing e.act) past ≡ true → IsPostedTo x q past ⊎ IsCopiedTo x q past → ⊥
nothing-posted past x q none (inl p) =
    false≢true (sym (ap posts_nothing p.posts) ∙ stands-passes (λ e. posts_nothing e.act) past p.stands.newer p.stands.older p.entry p.stands.is none)
nothing-posted past x q none (inr c) =
    false≢true (sym (ap posts_nothing c.posted.posts) ∙ post-passes (λ e. posts_nothing e.act) past x q c none)

-- a message that was never sent is accepted
not-sent : AcceptsWhatWasSent (now 2 (Act.Accept first port 0) ∷ made) → ⊥
not-sent h = nothing-posted (now 2 (Act.Accept first port 0) ∷ made) first port refl (h port 0 first refl)

-- a copy is accepted that was made of no post
abbrev unposted : List Entry
unposted = now 3 (Act.Accept (copied 1) port 0) ∷ now 2 (Act.Choose third group (port ∷ [])) ∷ made

not-copied : AcceptsWhatWasSent unposted → ⊥
not-copied h = nothing-posted unposted (copied 1) port refl (h port 0 (copied 1) refl)

-- the post was posted to another group than the one that its Choose names
abbrev second_group : Ui
second_group = record group { number = 2 }

abbrev post : Ui → Act
post g = Act.Post (record { id = third; tag = Tag.Plain; body = 7 ∷ [] }) (Dest.All g)

abbrev misled : List Entry
misled = now 4 (Act.Accept (copied 1) port 0) ∷ now 3 (Act.Choose third group (port ∷ [])) ∷ now 2 (post second_group) ∷ made

-- a Post goes to the second group, and a Choose names the first one
abbrev differ : Act → Bool
differ (Act.Post m d) = are_same same_ui (Some second_group) (group_in d)
differ (Act.Choose x g qs) = same_ui g group
differ _ = true

not-of-the-group : AcceptsWhatWasSent misled → ⊥
not-of-the-group h =
    elim (h port 0 (copied 1) refl) [
      | inl p ↦ false≢true (sym (ap differ p.posts) ∙ stands-passes (λ e. differ e.act) misled p.stands.newer p.stands.older p.entry p.stands.is refl)
      | inr c ↦ (
          let chosen : c.group ≡ group = from_same_ui c.group group (sym (ap differ c.chooses) ∙ stands-passes (λ e. differ e.act) misled c.stands.newer c.stands.older c.entry c.stands.is refl) in
          let posted : are_same same_ui (Some second_group) (group_in c.posted.dest) ≡ true = sym (ap differ c.posted.posts) ∙ post-passes (λ e. differ e.act) misled (copied 1) port c refl in
          let both : false ≡ true = sym (ap (λ o. are_same same_ui (Some second_group) o) (c.posted.group ∙ ap (λ g. Some g) chosen)) ∙ posted in
          false≢true both)
    ]

-- it was posted to this one
of-a-post : IsCopiedTo (copied 1) port (now 3 (Act.Choose third group (port ∷ [])) ∷ now 2 (post group) ∷ made)
of-a-post =
    record {
      entry = now 3 (Act.Choose third group (port ∷ []));
      post = third;
      group = group;
      members = port ∷ [];
      position = 0;
      stands = record { newer = []; older = now 2 (post group) ∷ made; is = refl };
      chooses = refl;
      posted = record {
        entry = now 2 (post group);
        message = record { id = third; tag = Tag.Plain; body = 7 ∷ [] };
        dest = Dest.All group;
        stands = record { newer = []; older = made; is = refl };
        posts = refl;
        group = refl;
        id = refl;
      };
      member = refl;
      copy = refl;
      source = refl;
    }
