-- Of a moment the same is told of networks that are alike, where claims are asked.
-- n and m are networks, ss and rs are places, x is an id, q a port, os and ps are packets, k is the number of a seat.
use Rattle.std.proofs.Common.{ℕ, zero, suc, ◌≡◌, ◌+◌, ◌≤◌, true, List, [], ◌∷◌, ◌++◌, length, map, Option, Some, None, slice_get, refl, sym, ◌∙◌, ap, ap₂, arith}
use Rattle.std.specs.List.{flat_map, filter_map}
use Rattle.std.specs.Option.{option_map}
use Rattle.chorus_ui.specs.declared.ui.Ui.{Ui}
use Rattle.chorus_entry.specs.declared.answer.Answer.{Answer}
use Rattle.chorus_entry.specs.declared.entry.Entry.{Entry}
use Rattle.chorus_entry.specs.declared.id.MsgId.{MsgId}
use Rattle.chorus_world.specs.Groups.{groups_made, members}
use Rattle.chorus_calls.specs.Callers.{Seated}
use Rattle.law_machine.specs.declared.outgoing.Outgoing.{Outgoing}
use Rattle.law_machine.specs.PlaceState.{PlaceState}
use Rattle.law_network.specs.Network.{numbers}
use Rattle.law_explore.specs.Alike.{CallerAlike, PlaceAlike, PlacesAlike, unclocked}
use Rattle.law_explore.specs.Outcome.{Fact, Judged, Open, Copied, Accepted, Members, plain_answer, posts_in, verdict_in, copies_in, is_stale_in, stale_facts, port_fact, port_facts}
use Rattle.law_explore.specs.Moment.{settled_facts, judged_or_open, facts_of, sent_by, sent_in, copy_facts, post_facts, accepts_by, accepts_in, in_order, accept_facts, moving_in, moving_facts, group_at, member_facts, call_facts, hand_facts, caller_facts, next_facts, place_facts}
use Rattle.law_explore.specs.Positions.{AskAlike}
use Rattle.law_explore.specs.Merging.{NetsTellTheSame}
use Rattle.law_explore.proofs.Telling.{places-verdict, places-copies, places-stale, places-made, places-held}

abbrev J : List Entry → List Entry → Type 0
J = AskAlike true

-- Messages.

abbrev plainly : MsgId → Option Answer → List MsgId → Fact
plainly x (Some answer) copies = Judged x (Some answer)
plainly x None [] = Open x
plainly x None (y ∷ copies) = Judged x None

by-plain : (x : MsgId) (o : Option Answer) (copies : List MsgId) → judged_or_open x o copies ≡ plainly x (option_map plain_answer o) copies
by-plain x (Some answer) copies = refl
by-plain x None [] = refl
by-plain x None (y ∷ copies) = refl

module _ (ss rs : List PlaceState) (h : PlacesAlike J ss rs) where
  facts-same : (x : MsgId) → facts_of ss x ≡ facts_of rs x
  facts-same x =
      ap (λ (f : Fact). f ∷ stale_facts x (is_stale_in x ss)) (by-plain x (verdict_in x ss) (copies_in x ss))
      ∙ (λ i. plainly x (places-verdict J (λ j k a. a.tells) x ss rs h i) (places-copies J (λ j k a. a.tells) x ss rs h i) ∷ stale_facts x (places-stale J (λ j k a. a.tells) x ss rs h i))
      ∙ sym (ap (λ (f : Fact). f ∷ stale_facts x (is_stale_in x rs)) (by-plain x (verdict_in x rs) (copies_in x rs)))

sent-same : (x : MsgId) (ss rs : List PlaceState) → PlacesAlike J ss rs → sent_in x ss ≡ sent_in x rs
sent-same x [] [] h = refl
sent-same x [] (r ∷ rs) h = absurd h
sent-same x (s ∷ ss) [] h = absurd h
sent-same x (s ∷ ss) (r ∷ rs) h =
    ap₂ (λ (xs ys : List (MsgId × Ui)). xs ++ ys) (((h.0).journals.order refl).sent x) (sent-same x ss rs h.1)
    ∙ ap (λ (z : PlaceState). sent_by x z.journal ++ sent_in x rs) (sym (h.0).is)

accepts-same : (q : Ui) (ss rs : List PlaceState) → PlacesAlike J ss rs → accepts_in q ss ≡ accepts_in q rs
accepts-same q [] [] h = refl
accepts-same q [] (r ∷ rs) h = absurd h
accepts-same q (s ∷ ss) [] h = absurd h
accepts-same q (s ∷ ss) (r ∷ rs) h =
    ap₂ (λ (xs ys : List (ℕ × MsgId)). xs ++ ys) (((h.0).journals.order refl).accepts q) (accepts-same q ss rs h.1)
    ∙ ap (λ (z : PlaceState). accepts_by q z.journal ++ accepts_in q rs) (sym (h.0).is)

flat-same : {X Y : Type 0} (f g : X → List Y) → ((x : X) → f x ≡ g x) → (xs : List X) → flat_map f xs ≡ flat_map g xs
flat-same f g same [] = refl
flat-same f g same (x ∷ xs) = ap₂ (λ a b. a ++ b) (same x) (flat-same f g same xs)

map-same : {X Y : Type 0} (f g : X → Y) → ((x : X) → f x ≡ g x) → (xs : List X) → map f xs ≡ map g xs
map-same f g same [] = refl
map-same f g same (x ∷ xs) = ap₂ (λ a b. a ∷ b) (same x) (map-same f g same xs)

module _ (ss rs : List PlaceState) (h : PlacesAlike J ss rs) where
  post-same : (x : MsgId) → post_facts ss x ≡ post_facts rs x
  post-same x =
      ap₂ (λ (a b : List Fact). a ++ b) (facts-same ss rs h x)
      (flat-same (copy_facts ss) (copy_facts rs) (λ copy. ap (λ (fs : List Fact). Copied copy.0 copy.1 ∷ fs) (facts-same ss rs h copy.0)) (sent_in x ss)
      ∙ ap (flat_map (copy_facts rs)) (sent-same x ss rs h))

  ports-same : port_facts ss ≡ port_facts rs
  ports-same =
      λ i. filter_map (λ (q : Ui). option_map port_fact (places-held J (λ j k a. a.tells) q ss rs h i)) (places-made J (λ j k a. a.tells) ss rs h i)

  accepted-same : accept_facts ss ≡ accept_facts rs
  accepted-same =
      λ i. map (λ (q : Ui). Accepted q (in_order (accepts-same q ss rs h i))) (places-made J (λ j k a. a.tells) ss rs h i)

  places-same : place_facts ss ≡ place_facts rs
  places-same = λ i. ports-same i ++ accepted-same i

-- Groups.

member-same : (s r : PlaceState) → PlaceAlike J s r → member_facts s ≡ member_facts r
member-same s r h =
    let reads = h.journals.tells.reads in
    map-same (λ (n : ℕ). Members (group_at s n) (members (group_at s n) s.journal)) (λ (n : ℕ). Members (group_at s n) (members (group_at s n) h.journal))
    (λ n. ap (Members (group_at s n)) (reads.members_are (group_at s n))) (numbers (groups_made s.journal) 1)
    ∙ ap (λ (count : ℕ). map (λ (n : ℕ). Members (group_at s n) (members (group_at s n) h.journal)) (numbers count 1)) reads.groups
    ∙ ap member_facts (sym h.is)

groups-same : (ss rs : List PlaceState) → PlacesAlike J ss rs → flat_map member_facts ss ≡ flat_map member_facts rs
groups-same [] [] h = refl
groups-same [] (r ∷ rs) h = absurd h
groups-same (s ∷ ss) [] h = absurd h
groups-same (s ∷ ss) (r ∷ rs) h = ap₂ (λ (a b : List Fact). a ++ b) (member-same s r h.0) (groups-same ss rs h.1)

-- Packets.

moving-unclocked : (os : List Outgoing) → moving_facts (map unclocked os) ≡ moving_facts os
moving-unclocked [] = refl
moving-unclocked (o ∷ os) = ap (λ (fs : List Fact). moving_in o.packet.cargo ++ fs) (moving-unclocked os)

moving-same : (os ps : List Outgoing) → map unclocked os ≡ map unclocked ps → moving_facts os ≡ moving_facts ps
moving-same os ps h = sym (moving-unclocked os) ∙ ap moving_facts h ∙ moving-unclocked ps

-- Callers.

caller-same : (k : ℕ) (o p : Option Seated) → CallerAlike o p → caller_facts k o ≡ caller_facts k p
caller-same k None None h = refl
caller-same k None (Some v) h = absurd h
caller-same k (Some w) None h = absurd h
caller-same k (Some w) (Some v) h = ap (λ (x : Seated). call_facts k x.client.outstanding ++ hand_facts k x.hand) (sym h.is)

callers-from : (f g : ℕ → List Fact) (count first : ℕ) → ((k : ℕ) → first ≤ k → k + 1 ≤ first + count → f k ≡ g k) → flat_map f (numbers count first) ≡ flat_map g (numbers count first)
callers-from f g zero first same = refl
callers-from f g (suc count) first same =
    ap₂ (λ (a b : List Fact). a ++ b) (same first (omega arith) (omega arith))
    (callers-from f g count (first + 1) (λ k low high. same k (omega (arith, low)) (omega (arith, high))))

callers-same : (count : ℕ) (cs ds : List Seated) → ((k : ℕ) → 1 ≤ k → k ≤ count → CallerAlike (slice_get cs k) (slice_get ds k))
    → flat_map (λ (k : ℕ). caller_facts k (slice_get cs k)) (numbers count 1) ≡ flat_map (λ (k : ℕ). caller_facts k (slice_get ds k)) (numbers count 1)
callers-same count cs ds h =
    callers-from (λ (k : ℕ). caller_facts k (slice_get cs k)) (λ (k : ℕ). caller_facts k (slice_get ds k)) count 1
    (λ k low high. caller-same k (slice_get cs k) (slice_get ds k) (h k low (omega (arith, high))))

pub nets-tell-the-same : NetsTellTheSame
nets-tell-the-same scripts left told n m h =
    λ i. settled_facts 1 told ++ flat-same (post_facts n.places) (post_facts m.places) (post-same n.places m.places h.places) (posts_in told) i ++ places-same n.places m.places h.places i
    ++ moving-same n.packets m.packets h.packets i ++ groups-same n.places m.places h.places i
    ++ (callers-same (length scripts) n.callers m.callers h.callers i ++ next_facts scripts left)
