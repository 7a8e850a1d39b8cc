-- Entries that stand in a past, and posts: the post of an id stands there, and what stands there as a Post is the post of its id.
-- x is an id, e an entry. A past has its newest entry first.
use Rattle.std.proofs.Common.{◌≡◌, ◌<◌, Bool, true, false, cond, List, [], ◌∷◌, ◌++◌, Some, None, refl, sym, ◌∙◌, ap, subst, inl, inr, append_assoc, arith}
use Rattle.std.specs.List.{filter}
use Rattle.std.specs.Option.{option_or}
use Rattle.std.proofs.lemmas.Bool.{eq-eqb}
use Rattle.chorus_ui.specs.declared.layout.Layout.{Layout}
use Rattle.chorus_entry.specs.declared.entry.Entry.{Entry}
use Rattle.chorus_entry.specs.declared.id.MsgId.{MsgId}
use Rattle.chorus_entry.specs.declared.message.Message.{Message}
use Rattle.chorus_entry.specs.declared.dest.Dest.{Dest}
use Rattle.chorus_entry.specs.declared.act.Act.{Act}
use Rattle.chorus_entry.specs.declared.act.Act.TheVariants.{Post}
use Rattle.chorus_entry.specs.MsgId.{same_id}
use Rattle.chorus_entry.proofs.Same.{same_id-self}
use Rattle.chorus_world.specs.Views.{views, is_by, by}
use Rattle.chorus_world.specs.Posts.{Posted, posted_by, posted_in, post_of, source}
use Rattle.chorus_world.specs.Seats.{posts}
use Rattle.chorus_world.specs.Steps.{act_may, is_legal}
use Rattle.chorus_world.specs.SentLaws.{StandsIn}
use Rattle.chorus_world.proofs.Steps.LegalLemmas.{legal_parts, keeps}
use Rattle.chorus_world.proofs.Ports.LineLemmas.{none_some}
use Rattle.chorus_world.proofs.Messages.SendingLemmas.{from_or}
use Rattle.chorus_world.proofs.Messages.PostLemmas.{post_needs, post_kept, own_source}
use Rattle.chorus_world.proofs.Messages.MessageInvariant.{legal_messages}
use Rattle.chorus_world.proofs.Groups.ChoiceLemmas.{posted_is}
use Rattle.chorus_world.proofs.Moments.{legal-older}

pub stands-behind : (e : Entry) (more past : List Entry) → StandsIn e past → StandsIn e (more ++ past)
stands-behind e more past s =
    record { newer = more ++ s.newer; older = s.older; is = ap (λ es. more ++ es) s.is ∙ sym (append_assoc more s.newer (e ∷ s.older)) }

-- an entry of a view stands among all
pub within : (test : Entry → Bool) (past : List Entry) (e : Entry) → StandsIn e (filter test past) → StandsIn e past
within test [] e s = absurd (none s.newer s.is)
  where
    none : (newer : List Entry) → [] ≡ newer ++ e ∷ s.older → ⊥
    none [] h = cc
    none (f ∷ newer) h = cc
within test (f ∷ past) e s = go (test f) s (within test past e)
  where
    go : (b : Bool) → StandsIn e (cond b (f ∷ filter test past) (filter test past)) → (StandsIn e (filter test past) → StandsIn e past) → StandsIn e (f ∷ past)
    go false k ih = stands-behind e (f ∷ []) past (ih k)
    go true k ih = first k.newer k.is
      where
        first : (newer : List Entry) → f ∷ filter test past ≡ newer ++ e ∷ k.older → StandsIn e (f ∷ past)
        first [] is = let same : f ≡ e = cc in record { newer = []; older = past; is = ap (λ z. z ∷ past) same }
        first (g ∷ newer) is =
            let rest : filter test past ≡ newer ++ e ∷ k.older = cc in
            stands-behind e (f ∷ []) past (ih (record { newer = newer; older = k.older; is = rest }))

-- what stands there and before was legal when it came
pub legal-at : (l : Layout) (past : List Entry) (e : Entry) (s : StandsIn e past) → is_legal l past ≡ true → is_legal l (e ∷ s.older) ≡ true
legal-at l past e s h = legal-older l s.newer (e ∷ s.older) (ap (is_legal l) (sym s.is) ∙ h)

-- and its act was allowed
pub stood-may : (l : Layout) (past : List Entry) (e : Entry) (a : Act) (s : StandsIn e past) → is_legal l past ≡ true → e.act ≡ a → act_may l (views s.older e.place e.seat a) e.place e.seat a ≡ true
stood-may l past e a s h is =
    subst (λ z. act_may l (views s.older e.place e.seat z) e.place e.seat z ≡ true) is (legal_parts l e s.older (legal-at l past e s h)).0

-- the post of x stands in the past
pub record PostStands (x : MsgId) (past : List Entry) (d : Posted) : Type 0 where
  pub entry : Entry
  pub stands : StandsIn entry past
  pub posts : entry.act ≡ Post d.message d.dest

pub post-stands : (past : List Entry) (x : MsgId) (d : Posted) → post_of x past ≡ Some d → PostStands x past d
post-stands [] x d h = none_some d h
post-stands (e ∷ past) x d h = go (is_by x.seat e) h (λ k. post-stands past x d k)
  where
    later : PostStands x past d → PostStands x (e ∷ past) d
    later p = record { entry = p.entry; stands = stands-behind p.entry (e ∷ []) past p.stands; posts = p.posts }

    go : (b : Bool) → posted_in (source x) (cond b (e ∷ by x.seat past) (by x.seat past)) ≡ Some d → (post_of x past ≡ Some d → PostStands x past d) → PostStands x (e ∷ past) d
    go false k ih = later (ih k)
    go true k ih =
        elim (from_or (posted_in (source x) (by x.seat past)) (posted_by (source x) e.place e.act) d k) [
          | inl old ↦ later (ih old)
          | inr new ↦ record { entry = e; stands = record { newer = []; older = past; is = refl }; posts = (posted_is (source x) e.place e.act d new.1).act }
        ]

-- what a Post in a legal past posts is the post of its id, and no copy
pub stood-post : (l : Layout) (past : List Entry) (e : Entry) (m : Message) (d : Dest) → is_legal l past ≡ true → StandsIn e past → e.act ≡ Post m d → (post_of m.id past ≡ Some (record { place = e.place; message = m; dest = d })) × (m.id.seat ≡ e.seat)
stood-post l past e m d h s is =
    let x = m.id in
    let older = s.older in
    let legal = legal-at l past e s h in
    let needs = post_needs l older e.place e.seat m d (stood-may l past e (Post m d) s h is) in
    let number = needs.number in
    let fresh : posts (by x.seat older) < x.number = subst (λ k. posts (by k older) < x.number) (sym needs.seat) (omega (arith, number)) in
    let none : post_of x older ≡ None = (legal_messages l older (legal_parts l e older legal).1 x).unposted fresh in
    let view : by x.seat (e ∷ older) ≡ e ∷ by x.seat older = keeps (is_by x.seat) e older (eq-eqb e.seat x.seat (sym needs.seat)) in
    let p : Posted = record { place = e.place; message = m; dest = d } in
    let own : same_id x (source x) ≡ true = ap (same_id x) (own_source x needs.copy) ∙ same_id-self x in
    let now : post_of x (e ∷ older) ≡ Some p =
    ap (posted_in (source x)) view
    ∙ (ap (λ o. option_or o (posted_by (source x) e.place e.act)) none
    ∙ (ap (posted_by (source x) e.place) is ∙ ap (λ b. cond b (Some p) None) own)) in
    (ap (post_of x) s.is ∙ post_kept x s.newer (e ∷ older) p now, needs.seat)
