-- Facts of legal lists: whom a post chooses is a member of its group, and what holds of all members holds of those chosen.
use Rattle.std.proofs.Common.{ℕ, suc, ◌≡◌, nat_lt, Bool, true, false, ◌&&◌, cond, List, [], ◌∷◌, take, drop, length, Some, ◌∙◌, ap, subst}
use Rattle.std.specs.Prelude.{find}
use Rattle.std.specs.List.{All}
use Rattle.std.proofs.lemmas.Bool.{and_parts}
use Rattle.std.proofs.lemmas.List.Elements.{All-nil, All-cons, All-head, All-tail, All-append, All-take, All-drop}
use Rattle.chorus_ui.specs.declared.ui.Ui.{Ui}
use Rattle.chorus_ui.specs.declared.layout.Layout.{Layout}
use Rattle.chorus_entry.specs.declared.entry.Entry.{Entry}
use Rattle.chorus_entry.specs.declared.id.MsgId.{MsgId}
use Rattle.chorus_entry.specs.declared.dest.Dest.{Dest}
use Rattle.chorus_entry.specs.declared.dest.Dest.TheVariants as dests
use Rattle.chorus_entry.specs.declared.act.Act.TheVariants.{Choose}
use Rattle.chorus_entry.specs.Dest.{group_in}
use Rattle.chorus_entry.specs.Members.{same_uis, first_of, listed, without, index_of}
use Rattle.chorus_entry.proofs.Same.{from_same_uis}
use Rattle.chorus_world.specs.Views.{views, at, about}
use Rattle.chorus_world.specs.Messages.{progress}
use Rattle.chorus_world.specs.Groups.{members, in_turn, rotation, is_at_site, choice}
use Rattle.chorus_world.specs.Steps.{act_may, may_choose_from, choice_from}
use Rattle.chorus_world.proofs.Messages.PostLemmas.{choose_needs}

-- of a list without one of its ports
pub all-without : (P : Ui → Type 0) (q : Ui) (qs : List Ui) → All P qs → All P (without q qs)
all-without P q qs h =
    let i = index_of q qs in
    All-append P (take i qs) (drop (suc i) qs) (All-take P i qs h) (All-drop P (suc i) qs h)

all-first : (P : Ui → Type 0) (qs : List Ui) → All P qs → All P (listed (first_of qs))
all-first P [] h = All-nil P
all-first P (q ∷ qs) h = All-cons P q [] (All-head P q qs h) (All-nil P)

all-found : (P : Ui → Type 0) (t : Ui → Bool) (qs : List Ui) → All P qs → All P (listed (find t qs))
all-found P t [] h = All-nil P
all-found P t (q ∷ qs) h = go (t q) (all-found P t qs (All-tail P q qs h))
  where
    go : (b : Bool) → All P (listed (find t qs)) → All P (listed (cond b (Some q) (find t qs)))
    go true ih = All-cons P q [] (All-head P q qs h) (All-nil P)
    go false ih = ih

all-turn : (P : Ui → Type 0) (g : Ui) (here : List Entry) → All P (members g here) → All P (in_turn g here)
all-turn P g here h =
    All-append P (drop (rotation g here) (members g here)) (take (rotation g here) (members g here))
    (All-drop P (rotation g here) (members g here) h) (All-take P (rotation g here) (members g here) h)

-- of those that a post to the group chooses
pub all-chosen : (P : Ui → Type 0) (l : Layout) (d : Dest) (g : Ui) (here : List Entry) → group_in d ≡ Some g → All P (members g here) → All P (choice l d here)
all-chosen P l (dests.Port q) g here e h = All-nil P
all-chosen P l (dests.All f) g here e h = (let same : g ≡ f = cc in subst (λ z. All P (members z here)) same h)
all-chosen P l (dests.One f) g here e h =
    let same : g ≡ f = cc in
    subst (λ z. All P (listed (first_of (in_turn z here)))) same (all-first P (in_turn g here) (all-turn P g here h))
all-chosen P l (dests.OneAt f s) g here e h =
    let same : g ≡ f = cc in
    subst (λ z. All P (listed (find (is_at_site l s here) (in_turn z here)))) same (all-found P (is_at_site l s here) (in_turn g here) (all-turn P g here h))

-- whom a Choose names
pub choose-names : (l : Layout) (past : List Entry) (p s : ℕ) (x : MsgId) (g : Ui) (qs : List Ui) → act_may l (views past p s (Choose x g qs)) p s (Choose x g qs) ≡ true → (d : Dest) × (group_in d ≡ Some g) × (qs ≡ choice l d (at p past))
choose-names l past p s x g qs h =
    let v = views past p s (Choose x g qs) in
    let needs = choose_needs l past p s x g qs h in
    let same = (and_parts (may_choose_from l v p x g (progress (about x past)) && nat_lt 0 (length qs)) (same_uis qs (choice_from l (at p past) (progress (about x past)))) h).1 in
    (needs.dest, needs.group, from_same_uis qs (choice_from l (at p past) (progress (about x past))) same ∙ ap (choice_from l (at p past)) needs.asked)
