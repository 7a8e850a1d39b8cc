-- Choices: legal lists in which members are chosen, and lists of which the laws of choices are not so.
use Rattle.std.proofs.Common.{◌≡◌, ◌<◌, true, false, List, [], ◌∷◌, Some, refl, sym, ap, subst, arith}
use Rattle.std.proofs.lemmas.Bool.{false≢true, true≢false}
use Rattle.chorus_ui.specs.declared.ui.Ui.{Ui}
use Rattle.chorus_entry.specs.declared.dest.Dest.{Dest}
use Rattle.chorus_entry.specs.declared.entry.Entry.{Entry}
use Rattle.chorus_entry.specs.declared.tag.Tag.{Tag}
use Rattle.chorus_entry.specs.declared.act.Act.{Act}
use Rattle.chorus_world.specs.Always.{EachEntry}
use Rattle.chorus_world.specs.Posts.{Posted, post_of}
use Rattle.chorus_world.specs.Views.{at}
use Rattle.chorus_world.specs.Steps.{is_legal, may}
use Rattle.chorus_world.proofs.Examples.Names.{first, group, now, other, port, second, two_sites}
use Rattle.law_world.specs.Choices.{ChoosesMembers, FindsNoMember, HasNoMember, NamesMembers, TurnsGoOn, belongs}
use Rattle.law_world.proofs.Examples.Played.{posted}

-- two ports belong to the group, and one that did has left it
abbrev joined : List Entry
joined =
    now 7 (Act.Leave group (record port { number = 3 }))
    ∷ now 6 (Act.Join group other)
    ∷ now 5 (Act.Join group port)
    ∷ now 4 (Act.Join group (record port { number = 3 }))
    ∷ now 3 (Act.GroupMake group)
    ∷ []

abbrev asks : Dest → List Entry
asks d = now 8 (posted first Tag.Plain d) ∷ joined

-- all are chosen, in the order in which they joined
all-are-chosen : (is_legal two_sites (now 9 (Act.Choose first group (port ∷ other ∷ [])) ∷ asks (Dest.All group)) ≡ true) × (may two_sites (asks (Dest.All group)) (now 9 (Act.Choose first group (other ∷ port ∷ []))) ≡ false) × (may two_sites (asks (Dest.All group)) (now 9 (Act.NoMember first group)) ≡ false)
all-are-chosen = (refl, refl, refl)

-- the first, and then the second
abbrev one_by_one : List Entry
one_by_one = now 10 (posted second Tag.Plain (Dest.One group)) ∷ now 9 (Act.Choose first group (port ∷ [])) ∷ asks (Dest.One group)

one-is-chosen : (is_legal two_sites (now 11 (Act.Choose second group (other ∷ [])) ∷ one_by_one) ≡ true) × (may two_sites one_by_one (now 11 (Act.Choose second group (port ∷ []))) ≡ false)
one-is-chosen = (refl, refl)

-- where the first one leaves that was just chosen, the second keeps its turn
left-keeps-turns : may two_sites (now 11 (Act.Leave group port) ∷ one_by_one) (now 12 (Act.Choose second group (other ∷ []))) ≡ true
left-keeps-turns = refl

-- of three members the first is chosen, and leaves: the second is the next
abbrev third : Ui
third = record port { number = 3 }

abbrev left : List Entry
left =
    now 8 (posted second Tag.Plain (Dest.One group))
    ∷ now 7 (Act.Leave group port)
    ∷ now 6 (Act.Choose first group (port ∷ []))
    ∷ now 5 (posted first Tag.Plain (Dest.One group))
    ∷ now 4 (Act.Join group third)
    ∷ now 3 (Act.Join group other)
    ∷ now 2 (Act.Join group port)
    ∷ now 1 (Act.GroupMake group)
    ∷ []

second-is-next : (is_legal two_sites left ≡ true) × (may two_sites left (now 9 (Act.Choose second group (other ∷ []))) ≡ true) × (may two_sites left (now 9 (Act.Choose second group (third ∷ []))) ≡ false)
second-is-next = (refl, refl, refl)

-- where nobody has joined, nobody is chosen
abbrev nobody : List Entry
nobody = now 2 (posted first Tag.Plain (Dest.All group)) ∷ now 1 (Act.GroupMake group) ∷ []

nobody-is-chosen : (may two_sites nobody (now 3 (Act.NoMember first group)) ≡ true) × (may two_sites nobody (now 3 (Act.Choose first group [])) ≡ false)
nobody-is-chosen = (refl, refl)

-- none is located on the second site
none-there : (may two_sites (asks (Dest.OneAt group 2)) (now 9 (Act.NoMember first group)) ≡ true) × (may two_sites (asks (Dest.OneAt group 1)) (now 9 (Act.NoMember first group)) ≡ false) × (may two_sites (asks (Dest.OneAt group 1)) (now 9 (Act.Choose first group (port ∷ []))) ≡ true)
none-there = (refl, refl, refl)

-- What the laws refuse.

known : (d : Dest) (post : Posted) → post_of first (asks d) ≡ Some post → post.dest ≡ d
known d post h =
    let e : Some (record { place = 1; message = record { id = first; tag = Tag.Plain; body = 7 ∷ [] }; dest = d }) ≡ Some post = h in
    let same : record { place = 1; message = record { id = first; tag = Tag.Plain; body = 7 ∷ [] }; dest = d } ≡ post = cc in
    ap (λ (p : Posted). p.dest) (sym same)

chosen-from : (d : Dest) (qs : List Ui) → EachEntry (ChoosesMembers two_sites) (now 9 (Act.Choose first group qs) ∷ asks d) → NamesMembers two_sites group (at 1 (asks d)) d qs
chosen-from d qs h =
    let c = h [] (asks d) (now 9 (Act.Choose first group qs)) refl first group qs refl in
    subst (λ z. NamesMembers two_sites group (at 1 (asks d)) z qs) (known d c.0 c.1.posted) c.2

-- a member is left out; and the members are named in another order
not-all : EachEntry (ChoosesMembers two_sites) (now 9 (Act.Choose first group (port ∷ [])) ∷ asks (Dest.All group)) → ⊥
not-all h = false≢true ((chosen-from (Dest.All group) (port ∷ []) h).0.all other)

not-ordered : EachEntry (ChoosesMembers two_sites) (now 9 (Act.Choose first group (other ∷ port ∷ [])) ∷ asks (Dest.All group)) → ⊥
not-ordered h = (let lt : 3 < 2 = (chosen-from (Dest.All group) (other ∷ port ∷ []) h).0.order.0 port refl in omega (arith, lt))

-- two are chosen for one; and one that left
not-one : EachEntry (ChoosesMembers two_sites) (now 9 (Act.Choose first group (port ∷ other ∷ [])) ∷ asks (Dest.One group)) → ⊥
not-one h =
    let c = chosen-from (Dest.One group) (port ∷ other ∷ []) h in
    let e : port ∷ other ∷ [] ≡ c.member ∷ [] = c.is in
    let rest : other ∷ [] ≡ [] = cc in
    cc

not-belongs : EachEntry (ChoosesMembers two_sites) (now 9 (Act.Choose first group (record port { number = 3 } ∷ [])) ∷ asks (Dest.One group)) → ⊥
not-belongs h =
    let c = chosen-from (Dest.One group) (record port { number = 3 } ∷ []) h in
    let e : record port { number = 3 } ∷ [] ≡ c.member ∷ [] = c.is in
    let same : record port { number = 3 } ≡ c.member = cc in
    false≢true (subst (λ z. belongs group z (at 1 (asks (Dest.One group))) ≡ true) (sym same) c.belongs)

-- nobody is found, though there are members
not-nobody : EachEntry (FindsNoMember two_sites) (now 9 (Act.NoMember first group) ∷ asks (Dest.All group)) → ⊥
not-nobody h =
    let c = h [] (asks (Dest.All group)) (now 9 (Act.NoMember first group)) refl first group refl in
    let none : HasNoMember two_sites group (at 1 (asks (Dest.All group))) (Dest.All group) = subst (λ z. HasNoMember two_sites group (at 1 (asks (Dest.All group))) z) (known (Dest.All group) c.0 c.1.posted) c.2 in
    true≢false (none port)

-- a port that joined twice: where it is chosen, the others do not keep their turn
abbrev joined_twice : List Entry
joined_twice = now 4 (Act.Join group port) ∷ now 3 (Act.Join group other) ∷ now 2 (Act.Join group port) ∷ now 1 (Act.GroupMake group) ∷ []

not-in-turn : EachEntry TurnsGoOn (now 5 (Act.Choose first group (port ∷ [])) ∷ joined_twice) → ⊥
not-in-turn h =
    let k = (h [] joined_twice (now 5 (Act.Choose first group (port ∷ []))) refl group).1 in
    let e : other ∷ port ∷ port ∷ [] ≡ port ∷ other ∷ port ∷ [] = k.chosen first port (port ∷ other ∷ []) [] refl refl in
    let same : other ≡ port = cc in
    let numbers : 2 ≡ 1 = ap (λ (q : Ui). q.number) same in
    omega (arith, numbers)
