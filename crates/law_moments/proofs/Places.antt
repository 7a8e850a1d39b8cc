-- What is told of journals is told of places with their journals alone, and what is told of ports and callers is what the past tells.
-- n is a network, hist the past that it stands for, past the merge, l a layout, ss are places, x is an id, q a port, k a seat.
use Rattle.std.proofs.Common.{ℕ, ◌≡◌, Bool, true, false, ◌||◌, cond, List, [], ◌∷◌, ◌++◌, map, drop, Option, Some, None, slice_get, refl, sym, ◌∙◌, ap, ap₂, append_assoc}
use Rattle.std.specs.List.{cons_option, filter, filter_map, flat_map}
use Rattle.std.specs.Option.{option_map, option_or}
use Rattle.std.proofs.lemmas.List.Elements.{filter-append}
use Rattle.chorus_ui.specs.declared.layout.Layout.{Layout}
use Rattle.chorus_ui.specs.declared.ui.Ui.{Ui}
use Rattle.chorus_ui.specs.Layout as layout
use Rattle.chorus_ui.specs.Name.{same_ui}
use Rattle.chorus_entry.specs.declared.act.Act.{Act}
use Rattle.chorus_entry.specs.declared.act.Act.TheVariants as acts
use Rattle.chorus_entry.specs.declared.entry.Entry.{Entry}
use Rattle.chorus_entry.specs.declared.id.MsgId.{MsgId}
use Rattle.chorus_entry.specs.declared.message.Message.{Message}
use Rattle.chorus_entry.specs.declared.packet.Cargo.{Cargo}
use Rattle.chorus_entry.specs.declared.packet.Cargo.TheVariants as cargos
use Rattle.chorus_entry.specs.declared.record.PortRecord.{PortRecord}
use Rattle.chorus_world.specs.GroupLaws.{copies_of}
use Rattle.chorus_world.specs.Messages.{verdict}
use Rattle.chorus_world.specs.Ports.{PortState, fate}
use Rattle.chorus_world.specs.Posts.{Posted, as_posted, post_of, posted_in, source, tag_from, tag_of}
use Rattle.chorus_world.specs.Seats.{hand, hand_after, hand_with, hand_without}
use Rattle.chorus_world.specs.Views.{at, by, on}
use Rattle.chorus_world.specs.declared.place.Sent.{Sent}
use Rattle.chorus_world.specs.declared.spot.Spot.{Spot}
use Rattle.chorus_world.specs.declared.spot.Spot.TheVariants as spots
use Rattle.chorus_calls.specs.Callers.{Seated}
use Rattle.chorus_ports.specs.Table as table
use Rattle.law_machine.specs.declared.outgoing.Outgoing.{Outgoing}
use Rattle.law_machine.specs.PlaceState.{PlaceState, started}
use Rattle.law_network.specs.Holdings.{At, Holding, OnTheWay, held_at, holds, moved_by, moved_in, told_in, told_of}
use Rattle.law_network.specs.Left.{merged_past}
use Rattle.law_network.specs.Network.{NetState, place, place_numbers}
use Rattle.law_network.specs.Records.{message, outstanding}
use Rattle.law_network.specs.Stands.{Stands}
use Rattle.law_network.proofs.Holdings.Shows.{shows-merge}
use Rattle.law_network.proofs.Merge.Journals.{map-places, merge-is, merge-journal, views}
use Rattle.law_explore.specs.Outcome.{Copied, Fact, copies_in, facts_about, held_in, is_stale_at, is_stale_in, made_at, made_by, message_facts, plain_answer, port_fact, port_facts, posts_in, stale_facts, verdict_in, Judged}
use Rattle.law_explore.specs.Outcome as facts
use Rattle.law_explore.specs.Races.{Told}
use Rattle.law_explore.specs.Moment.{accept_facts, accepts_by, accepts_in, call_facts, caller_facts, copy_facts, facts_of, hand_facts, in_order, judged_or_open, member_facts, moving_facts, moving_in, post_facts, sent_by, sent_in}
use Rattle.law_moments.specs.Read.{caller_read, held_read, moving_read, place_read, places_read, port_read, ports_read}

-- Lists.

flat-same : {X Y : Type 0} (f g : X → List Y) → ((x : X) → f x ≡ g x) → (xs : List X) → flat_map f xs ≡ flat_map g xs
flat-same f g same [] = refl
flat-same f g same (x ∷ xs) = ap₂ (λ a b. a ++ b) (same x) (flat-same f g same xs)

filter-same : {X Y : Type 0} (f g : X → Option Y) → ((x : X) → f x ≡ g x) → (xs : List X) → filter_map f xs ≡ filter_map g xs
filter-same f g same [] = refl
filter-same f g same (x ∷ xs) = ap₂ cons_option (same x) (filter-same f g same xs)

-- Places with their journals alone.

abbrev pub alone : PlaceState → PlaceState
alone s = record (started s.layout s.number) { journal = s.journal }

abbrev pub all_alone : List PlaceState → List PlaceState
all_alone ss = map alone ss

verdicts : (x : MsgId) (ss : List PlaceState) → verdict_in x (all_alone ss) ≡ verdict_in x ss
verdicts x [] = refl
verdicts x (s ∷ ss) = ap (option_or (verdict x s.journal)) (verdicts x ss)

copies : (x : MsgId) (ss : List PlaceState) → copies_in x (all_alone ss) ≡ copies_in x ss
copies x [] = refl
copies x (s ∷ ss) = ap (λ xs. map (λ (m : Sent). m.id) (copies_of x s.journal) ++ xs) (copies x ss)

stales : (x : MsgId) (ss : List PlaceState) → is_stale_in x (all_alone ss) ≡ is_stale_in x ss
stales x [] = refl
stales x (s ∷ ss) = ap (λ b. is_stale_at x s.journal || b) (stales x ss)

sents : (x : MsgId) (ss : List PlaceState) → sent_in x (all_alone ss) ≡ sent_in x ss
sents x [] = refl
sents x (s ∷ ss) = ap (λ xs. sent_by x s.journal ++ xs) (sents x ss)

accepts : (q : Ui) (ss : List PlaceState) → accepts_in q (all_alone ss) ≡ accepts_in q ss
accepts q [] = refl
accepts q (s ∷ ss) = ap (λ xs. accepts_by q s.journal ++ xs) (accepts q ss)

made : (ss : List PlaceState) → made_at (all_alone ss) ≡ made_at ss
made [] = refl
made (s ∷ ss) = ap (λ qs. made_by s.journal ++ qs) (made ss)

pub members-same : (ss : List PlaceState) → flat_map member_facts (all_alone ss) ≡ flat_map member_facts ss
members-same [] = refl
members-same (s ∷ ss) = ap (λ fs. member_facts s ++ fs) (members-same ss)

facts-same : (ss : List PlaceState) (x : MsgId) → facts_of (all_alone ss) x ≡ facts_of ss x
facts-same ss x = λ i. judged_or_open x (verdicts x ss i) (copies x ss i) ∷ stale_facts x (stales x ss i)

about-same : (ss : List PlaceState) (x : MsgId) → facts_about (all_alone ss) x ≡ facts_about ss x
about-same ss x = λ i. Judged x (option_map plain_answer (verdicts x ss i)) ∷ stale_facts x (stales x ss i)

pub posts-same : (ss : List PlaceState) (x : MsgId) → post_facts (all_alone ss) x ≡ post_facts ss x
posts-same ss x =
    ap₂ (λ (a b : List Fact). a ++ b) (facts-same ss x)
    (flat-same (copy_facts (all_alone ss)) (copy_facts ss) (λ copy. ap (λ (fs : List Fact). Copied copy.0 copy.1 ∷ fs) (facts-same ss copy.0)) (sent_in x (all_alone ss))
    ∙ ap (flat_map (copy_facts ss)) (sents x ss))

pub all-posts-same : (ss : List PlaceState) (xs : List MsgId) → flat_map (post_facts (all_alone ss)) xs ≡ flat_map (post_facts ss) xs
all-posts-same ss xs = flat-same (post_facts (all_alone ss)) (post_facts ss) (posts-same ss) xs

pub messages-same : (told : List (List Told)) (ss : List PlaceState) → message_facts told (all_alone ss) ≡ message_facts told ss
messages-same told ss =
    flat-same (facts_about (all_alone ss)) (facts_about ss) (about-same ss) (flat_map (λ (x : MsgId). x ∷ copies_in x (all_alone ss)) (posts_in told))
    ∙ ap (flat_map (facts_about ss))
    (flat-same (λ (x : MsgId). x ∷ copies_in x (all_alone ss)) (λ (x : MsgId). x ∷ copies_in x ss) (λ x. ap (λ xs. x ∷ xs) (copies x ss)) (posts_in told))

map-same : {X Y : Type 0} (f g : X → Y) → ((x : X) → f x ≡ g x) → (xs : List X) → map f xs ≡ map g xs
map-same f g same [] = refl
map-same f g same (x ∷ xs) = ap₂ (λ a b. a ∷ b) (same x) (map-same f g same xs)

pub accepted-same : (ss : List PlaceState) → accept_facts (all_alone ss) ≡ accept_facts ss
accepted-same ss =
    map-same (λ (q : Ui). facts.Accepted q (in_order (accepts_in q (all_alone ss)))) (λ (q : Ui). facts.Accepted q (in_order (accepts_in q ss)))
    (λ q. ap (λ xs. facts.Accepted q (in_order xs)) (accepts q ss)) (made_at (all_alone ss))
    ∙ ap (map (λ (q : Ui). facts.Accepted q (in_order (accepts_in q ss)))) (made ss)

-- The first of holdings that is at a place.

abbrev first_at : List Holding → Option PortRecord
first_at [] = None
first_at (At place port ∷ hs) = Some port
first_at (OnTheWay from to port ∷ hs) = first_at hs

-- those that are on their way are none
none-moved : (q : Ui) (os : List Outgoing) → first_at (filter (holds q) (flat_map moved_by os)) ≡ None
none-moved q [] = refl
none-moved q (o ∷ os) = ap first_at (filter-append (holds q) (moved_by o) (flat_map moved_by os)) ∙ by-cargo o.packet.cargo (none-moved q os)
  where
    by-cargo : (k : Cargo) → first_at (filter (holds q) (flat_map moved_by os)) ≡ None → first_at (filter (holds q) (moved_in o.packet.from o.to k) ++ filter (holds q) (flat_map moved_by os)) ≡ None
    by-cargo (cargos.Transfer port) ih = kept (same_ui port.ui q) ih
      where
        kept : (b : Bool) → first_at (filter (holds q) (flat_map moved_by os)) ≡ None → first_at (cond b (OnTheWay o.packet.from o.to port ∷ []) [] ++ filter (holds q) (flat_map moved_by os)) ≡ None
        kept true ih = ih
        kept false ih = ih
    by-cargo (cargos.Try m r route only tried) ih = ih
    by-cargo (cargos.Verdict x r route answer) ih = ih
    by-cargo (cargos.Ask m d) ih = ih
    by-cargo (cargos.Report x answer) ih = ih

first-found : (q : Ui) (p : ℕ) (rs : List PortRecord) (rest : Option PortRecord) (hs : List Holding) → rest ≡ first_at (filter (holds q) hs)
    → option_or (table.find q rs) rest ≡ first_at (filter (holds q) (map (At p) rs ++ hs))
first-found q p [] rest hs h = h
first-found q p (r ∷ rs) rest hs h = go (same_ui r.ui q) (first-found q p rs rest hs h)
  where
    go : (b : Bool) → option_or (table.find q rs) rest ≡ first_at (filter (holds q) (map (At p) rs ++ hs))
        → option_or (cond b (Some r) (table.find q rs)) rest ≡ first_at (cond b (At p r ∷ filter (holds q) (map (At p) rs ++ hs)) (filter (holds q) (map (At p) rs ++ hs)))
    go true ih = refl
    go false ih = ih

first-held : (q : Ui) (ss : List PlaceState) (hs : List Holding) → first_at (filter (holds q) hs) ≡ None → held_in q ss ≡ first_at (filter (holds q) (flat_map held_at ss ++ hs))
first-held q [] hs none = sym none
first-held q (s ∷ ss) hs none =
    first-found q s.number s.ports (held_in q ss) (flat_map held_at ss ++ hs) (first-held q ss hs none)
    ∙ ap (λ xs. first_at (filter (holds q) xs)) (sym (append_assoc (map (At s.number) s.ports) (flat_map held_at ss) hs))

-- What the past tells of a port.

id-is : (x : MsgId) (o : Option Posted) → (as_posted x o).id ≡ x
id-is x None = refl
id-is x (Some m) = refl

ids-are : (past : List Entry) (xs : List MsgId) → map (λ (m : Message). m.id) (map (message past) xs) ≡ xs
ids-are past [] = refl
ids-are past (x ∷ xs) = ap₂ (λ (y : MsgId) ys. y ∷ ys) (id-is x (post_of x past)) (ids-are past xs)

told-port : (past : List Entry) (q : Ui) (o : Option PortState) → option_map port_fact (first_at (told_of past q o)) ≡ port_read q o
told-port past q None = refl
told-port past q (Some f) = go f.spot
  where
    go : (spot : Spot) → option_map port_fact (first_at (told_in past q f spot)) ≡ held_read q f spot
    go (spots.Held actor) = ap (λ (xs : List MsgId). Some (facts.Held q actor xs)) (ids-are past (drop f.taken f.accepted))
    go (spots.Moving actor) = refl
    go spots.Ended = refl

-- Of a network.

hand-same : (past hist mine : List Entry) → ((x : MsgId) → tag_of x past ≡ tag_of x hist) → hand past mine ≡ hand hist mine
hand-same past hist [] same = refl
hand-same past hist (e ∷ mine) same = go e.act (hand-same past hist mine same)
  where
    go : (a : Act) → hand past mine ≡ hand hist mine → hand_after past a (hand past mine) ≡ hand_after hist a (hand hist mine)
    go (acts.Take q n x) ih = ap₂ (hand_with x.seat) (same x) ih
    go (acts.Post m d) ih = ap (hand_without m.tag) ih
    go a ih = ih

module _ (n : NetState) (hist : List Entry) (s : Stands n hist) where
  zip : (ss : List PlaceState) (ks : List ℕ) → map (λ (r : PlaceState). r.number) ss ≡ ks → map (λ (r : PlaceState). r.layout) ss ≡ map (λ (k : ℕ). n.layout) ks
      → map (λ (r : PlaceState). r.journal) ss ≡ map (λ (k : ℕ). at k (merged_past n)) ks → map (place_read n.layout (merged_past n)) ks ≡ all_alone ss
  zip [] [] a b c = refl
  zip [] (k ∷ ks) a b c = absurd (cc)
  zip (r ∷ ss) [] a b c = absurd (cc)
  zip (r ∷ ss) (k ∷ ks) a b c =
      let number : r.number ≡ k = cc in
      let lay : r.layout ≡ n.layout = cc in
      let journal : r.journal ≡ at k (merged_past n) = cc in
      let numbers_are : map (λ (z : PlaceState). z.number) ss ≡ ks = cc in
      let layouts_are : map (λ (z : PlaceState). z.layout) ss ≡ map (λ (k : ℕ). n.layout) ks = cc in
      let journals_are : map (λ (z : PlaceState). z.journal) ss ≡ map (λ (k : ℕ). at k (merged_past n)) ks = cc in
      sym
      (ap₂ (λ (x : PlaceState) xs. x ∷ xs)
      (ap (λ (p : ℕ). let z : PlaceState = record (started r.layout p) { journal = r.journal } in z) number
      ∙ ap (λ (m : Layout). let z : PlaceState = record (started m k) { journal = r.journal } in z) lay
      ∙ ap (λ (j : List Entry). let z : PlaceState = record (started n.layout k) { journal = j } in z) journal)
      (sym (zip ss ks numbers_are layouts_are journals_are)))

  pub places-are : places_read n.layout (merged_past n) ≡ all_alone n.places
  places-are =
      zip n.places (place_numbers n.layout) s.places.numbers s.places.layouts
      (map-places (λ (r : PlaceState). r.journal) n.layout n.places (layout.places n.layout) 1 s.places.numbers
      ∙ map-same (λ (k : ℕ). (place k n).journal) (λ (k : ℕ). at k (merged_past n)) (λ k. sym (merge-journal n hist s k)) (place_numbers n.layout))

  port-is : (q : Ui) → port_read q (fate (on q (merged_past n))) ≡ option_map port_fact (held_in q n.places)
  port-is q =
      sym
      (ap (option_map port_fact)
      (first-held q n.places (flat_map moved_by n.packets) (none-moved q n.packets) ∙ ap first_at ((shows-merge n hist s).shown q))
      ∙ told-port (merged_past n) q (fate (on q (merged_past n))))

  pub ports-are : ports_read (merged_past n) (all_alone n.places) ≡ port_facts n.places
  ports-are =
      filter-same (λ (q : Ui). port_read q (fate (on q (merged_past n)))) (λ (q : Ui). option_map port_fact (held_in q n.places)) port-is (made_at (all_alone n.places))
      ∙ ap (filter_map (λ (q : Ui). option_map port_fact (held_in q n.places))) (made n.places)

  mine-is : (k : ℕ) → by k (merged_past n) ≡ by k hist
  mine-is k = ap (by k) (merge-is n hist s) ∙ (views n hist s).seats k

  tag-is : (x : MsgId) → tag_of x (merged_past n) ≡ tag_of x hist
  tag-is x = ap (λ mine. tag_from (posted_in (source x) mine)) (mine-is x.seat)

  caller-is : (k : ℕ) (o : Option Seated) → slice_get n.callers k ≡ o → caller_read (merged_past n) k ≡ caller_facts k o
  caller-is k None e =
      let none : by k (merged_past n) ≡ [] = mine-is k ∙ s.strangers k e in
      ap (λ mine. call_facts k (outstanding mine) ++ hand_facts k (hand (merged_past n) mine)) none
  caller-is k (Some w) e =
      let is = s.callers k w e in
      ap (λ mine. call_facts k (outstanding mine) ++ hand_facts k (hand (merged_past n) mine)) (mine-is k)
      ∙ sym (ap₂ (λ call h. call_facts k call ++ hand_facts k h) is.call (is.hand ∙ sym (hand-same (merged_past n) hist (by k hist) tag-is)))

  pub callers-are : (ks : List ℕ) → flat_map (caller_read (merged_past n)) ks ≡ flat_map (λ (k : ℕ). caller_facts k (slice_get n.callers k)) ks
  callers-are ks =
      flat-same (caller_read (merged_past n)) (λ (k : ℕ). caller_facts k (slice_get n.callers k)) (λ k. caller-is k (slice_get n.callers k) refl) ks

pub moving-are : (os : List Outgoing) → moving_read (map (λ (o : Outgoing). o.packet) os) ≡ moving_facts os
moving-are [] = refl
moving-are (o ∷ os) = ap (λ fs. moving_in o.packet.cargo ++ fs) (moving-are os)
