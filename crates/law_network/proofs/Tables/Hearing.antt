-- What a place may hear of: a Heard takes one message out, and a post that is asked for brings in all its copies.
use Rattle.chorus_world.specs.Places.{hears, is_heard}
use Rattle.std.proofs.Common.{ℕ, ◌≡◌, ◌==◌, ◌||◌, ◌&&◌, Bool, true, false, not, cond, List, ◌∷◌, Option, Some, None, refl, sym, ◌∙◌, ap}
use Rattle.std.specs.List.{filter}
use Rattle.std.specs.Option.{option_or}
use Rattle.chorus_ui.specs.declared.layout.Layout.{Layout}
use Rattle.chorus_entry.specs.declared.entry.Entry.{Entry}
use Rattle.chorus_entry.specs.declared.id.MsgId.{MsgId}
use Rattle.chorus_entry.specs.declared.message.Message.{Message}
use Rattle.chorus_entry.specs.declared.dest.Dest.{Dest}
use Rattle.chorus_entry.specs.declared.answer.Answer.{Answer}
use Rattle.chorus_entry.specs.declared.act.Act.TheVariants as acts
use Rattle.chorus_entry.specs.Dest.{group_in}
use Rattle.chorus_entry.specs.MsgId.{same_id}
use Rattle.chorus_world.specs.Views.{at, is_by}
use Rattle.chorus_world.specs.Posts.{Posted, posted_by, posted_in, source, post_of}
use Rattle.chorus_world.specs.Steps.{is_asked_from, is_asking_place}
use Rattle.place_unsettled.specs.Unheard.{is_of, asked, heard}
use Rattle.law_network.specs.Records.{is_unheard}

-- the row, at one place
abbrev pub IsUnheard : Layout → List Entry → ℕ → (MsgId → Bool) → Type 0
IsUnheard l past p f = (x : MsgId) → f x ≡ is_unheard l past p x

-- the post of which the message is a copy, or which it is
of-post : (m x : MsgId) → m.copy ≡ 0 → is_of m.seat m.number x ≡ same_id m (source x)
of-post m x none =
    sym (ap (λ k. (m.seat == x.seat) && (m.number == x.number) && (k == 0)) none ∙ by ((m.seat == x.seat) && (m.number == x.number)))
  where
    by : (b : Bool) → (b && true) ≡ b
    by true = refl
    by false = refl

none-behind : (o : Option Posted) → option_or o None ≡ o
none-behind None = refl
none-behind (Some m) = refl

-- what was posted under the id stays, where the entry posts nothing under it
post-stays : (x : MsgId) (e : Entry) (past : List Entry) → posted_by (source x) e.place e.act ≡ None → post_of x (e ∷ past) ≡ post_of x past
post-stays x e past h = by (e.seat == x.seat)
  where
    by : (b : Bool) → posted_in (source x) (cond b (e ∷ filter (is_by x.seat) past) (filter (is_by x.seat) past)) ≡ post_of x past
    by true = ap (λ o. option_or (post_of x past) o) h ∙ none-behind (post_of x past)
    by false = refl

-- the row after an entry at the place
after : (l : Layout) (past : List Entry) (p : ℕ) (e : Entry) (x : MsgId) → (e.place == p) ≡ true
    → is_unheard l (e ∷ past) p x ≡ (is_asked_from l p (post_of x (e ∷ past)) && not (hears x e.act || is_heard x (at p past)))
after l past p e x place = ap (λ b. is_asked_from l p (post_of x (e ∷ past)) && not (is_heard x (cond b (e ∷ at p past) (at p past)))) place

pub unheard-heard : (l : Layout) (past : List Entry) (p : ℕ) (e : Entry) (f : MsgId → Bool) (y : MsgId) (a : Answer) → (e.place == p) ≡ true
    → e.act ≡ acts.Heard y a → IsUnheard l past p f → IsUnheard l (e ∷ past) p (heard y f)
unheard-heard l past p e f y a place act h x =
    ap (λ b. not (same_id y x) && b) (h x)
    ∙ by (same_id y x) (is_asked_from l p (post_of x past)) (is_heard x (at p past))
    ∙ sym (ap (λ o. is_asked_from l p o && not (same_id y x || is_heard x (at p past))) (post-stays x e past (ap (posted_by (source x) e.place) act)))
    ∙ sym (ap (λ b. is_asked_from l p (post_of x (e ∷ past)) && not (hears x b || is_heard x (at p past))) act)
    ∙ sym (after l past p e x place)
  where
    by : (b c d : Bool) → (not b && (c && not d)) ≡ (c && not (b || d))
    by true true d = refl
    by true false d = refl
    by false c d = refl

pub unheard-asked : (l : Layout) (past : List Entry) (p : ℕ) (e : Entry) (f : MsgId → Bool) (m : Message) (d : Dest) → m.id.copy ≡ 0 → (e.place == p) ≡ true
    → e.act ≡ acts.Post m d → is_asking_place l p (group_in d) ≡ true
    → ((x : MsgId) → same_id m.id (source x) ≡ true → (e.seat == x.seat) ≡ true)
    → ((x : MsgId) → same_id m.id (source x) ≡ true → post_of x past ≡ None)
    → ((x : MsgId) → same_id m.id (source x) ≡ true → is_heard x (at p past) ≡ false)
    → IsUnheard l past p f → IsUnheard l (e ∷ past) p (asked m.id.seat m.id.number f)
unheard-asked l past p e f m d none place act asking seat fresh silent h x =
    ap (λ b. b || f x) (of-post m.id x none)
    ∙ by (same_id m.id (source x)) refl
    ∙ sym (ap (λ b. is_asked_from l p (post_of x (e ∷ past)) && not (hears x b || is_heard x (at p past))) act)
    ∙ sym (after l past p e x place)
  where
    posted : (b : Bool) → same_id m.id (source x) ≡ b → posted_by (source x) e.place e.act ≡ cond b (Some (record { place = e.place; message = m; dest = d })) None
    posted b g = ap (posted_by (source x) e.place) act ∙ ap (λ c. cond c (Some (record { place = e.place; message = m; dest = d })) None) g

    new : same_id m.id (source x) ≡ true → post_of x (e ∷ past) ≡ Some (record { place = e.place; message = m; dest = d })
    new g =
        ap (λ b. posted_in (source x) (cond b (e ∷ filter (is_by x.seat) past) (filter (is_by x.seat) past))) (seat x g)
        ∙ ap (λ o. option_or o (posted_by (source x) e.place e.act)) (fresh x g)
        ∙ posted true g

    by : (b : Bool) → same_id m.id (source x) ≡ b → (b || f x) ≡ (is_asked_from l p (post_of x (e ∷ past)) && not (is_heard x (at p past)))
    by true g =
        sym (ap (λ o. is_asked_from l p o && not (is_heard x (at p past))) (new g)
        ∙ ap (λ c. (c && is_asking_place l p (group_in d)) && not (is_heard x (at p past))) place
        ∙ ap (λ c. c && not (is_heard x (at p past))) asking
        ∙ ap (λ c. not c) (silent x g))
    by false g = h x ∙ sym (ap (λ o. is_asked_from l p o && not (is_heard x (at p past))) (post-stays x e past (posted false g)))
