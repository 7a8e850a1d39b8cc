-- A fact of legal lists: the members of a group are names of ports, and so are those that a post chooses.
use Rattle.std.proofs.Common.{ℕ, zero, suc, ◌≡◌, Bool, true, false, cond, List, [], ◌∷◌, ◌++◌, take, drop, Some, refl}
use Rattle.std.specs.Prelude.{find}
use Rattle.std.specs.List.{list_all}
use Rattle.std.proofs.lemmas.Bool.{and_from, and_parts}
use Rattle.chorus_ui.specs.declared.ui.Ui.{Ui}
use Rattle.chorus_ui.specs.Name.{same_ui}
use Rattle.chorus_ui.specs.declared.layout.Layout.{Layout}
use Rattle.chorus_entry.specs.declared.entry.Entry.{Entry}
use Rattle.chorus_entry.specs.declared.dest.Dest.{Dest}
use Rattle.chorus_entry.specs.declared.dest.Dest.TheVariants.{Port, All, One, OneAt}
use Rattle.chorus_entry.specs.declared.act.Act.{Act}
use Rattle.chorus_entry.specs.declared.act.Act.TheVariants.{Join, Leave}
use Rattle.chorus_ui.specs.NameKind.{is_port, is_group}
use Rattle.chorus_entry.specs.Kinds.{has_kinds}
use Rattle.chorus_world.specs.Views.{at}
use Rattle.chorus_entry.specs.Order.{is_at}
use Rattle.chorus_world.specs.Groups.{members, members_after, in_turn, rotation, is_at_site, choice}
use Rattle.chorus_entry.specs.Members.{first_of, listed, without, index_of}
use Rattle.chorus_world.specs.Steps.{is_legal}
use Rattle.chorus_world.proofs.Messages.SentFacts.{legal-kinds}

-- each is the name of a port
abbrev AreNamed : List Ui → Type 0
AreNamed [] = Unit {0}
AreNamed (q ∷ qs) = (is_port q ≡ true) × AreNamed qs

named-all : (qs : List Ui) → AreNamed qs → list_all is_port qs ≡ true
named-all [] h = refl
named-all (q ∷ qs) h = and_from (is_port q) (list_all is_port qs) h.0 (named-all qs h.1)

named-append : (qs rs : List Ui) → AreNamed qs → AreNamed rs → AreNamed (qs ++ rs)
named-append [] rs a b = b
named-append (q ∷ qs) rs a b = (a.0, named-append qs rs a.1 b)

named-take : (n : ℕ) (qs : List Ui) → AreNamed qs → AreNamed (take n qs)
named-take zero qs h = tt
named-take (suc n) [] h = tt
named-take (suc n) (q ∷ qs) h = (h.0, named-take n qs h.1)

named-drop : (n : ℕ) (qs : List Ui) → AreNamed qs → AreNamed (drop n qs)
named-drop zero [] h = tt
named-drop zero (q ∷ qs) h = h
named-drop (suc n) [] h = tt
named-drop (suc n) (q ∷ qs) h = named-drop n qs h.1

named-after : (g : Ui) (a : Act) (qs : List Ui) → has_kinds a ≡ true → AreNamed qs → AreNamed (members_after g a qs)
named-after g (Join h q) qs k n = go (same_ui h g)
  where
    go : (b : Bool) → AreNamed (cond b (qs ++ q ∷ []) qs)
    go true = named-append qs (q ∷ []) n ((and_parts (is_group h) (is_port q) k).1, tt)
    go false = n
named-after g (Leave h q) qs k n = go (same_ui h g)
  where
    go : (b : Bool) → AreNamed (cond b (without q qs) qs)
    go true = named-append (take (index_of q qs) qs) (drop (suc (index_of q qs)) qs) (named-take (index_of q qs) qs n) (named-drop (suc (index_of q qs)) qs n)
    go false = n
named-after g _ qs k n = n

members-named : (l : Layout) (past : List Entry) (g : Ui) (p : ℕ) → is_legal l past ≡ true → AreNamed (members g (at p past))
members-named l [] g p h = tt
members-named l (e ∷ past) g p h = go (is_at p e) (members-named l past g p two.1)
  where
    two : (has_kinds e.act ≡ true) × (is_legal l past ≡ true)
    two = legal-kinds l e past h

    go : (b : Bool) → AreNamed (members g (at p past)) → AreNamed (members g (cond b (e ∷ at p past) (at p past)))
    go true n = named-after g e.act (members g (at p past)) two.0 n
    go false n = n

named-first : (qs : List Ui) → AreNamed qs → AreNamed (listed (first_of qs))
named-first [] h = tt
named-first (q ∷ qs) h = (h.0, tt)

named-found : (t : Ui → Bool) (qs : List Ui) → AreNamed qs → AreNamed (listed (find t qs))
named-found t [] h = tt
named-found t (q ∷ qs) h = go (t q) (named-found t qs h.1)
  where
    go : (b : Bool) → AreNamed (listed (find t qs)) → AreNamed (listed (cond b (Some q) (find t qs)))
    go true n = (h.0, tt)
    go false n = n

pub choice-named : (l : Layout) (past : List Entry) (p : ℕ) (d : Dest) → is_legal l past ≡ true → list_all is_port (choice l d (at p past)) ≡ true
choice-named l past p d h = named-all (choice l d (at p past)) (by d)
  where
    here : List Entry
    here = at p past

    turns : (g : Ui) → AreNamed (in_turn g here)
    turns g =
        let n = members-named l past g p h in
        named-append (drop (rotation g here) (members g here)) (take (rotation g here) (members g here)) (named-drop (rotation g here) (members g here) n) (named-take (rotation g here) (members g here) n)

    by : (d : Dest) → AreNamed (choice l d (at p past))
    by (Port q) = tt
    by (All g) = members-named l past g p h
    by (One g) = named-first (in_turn g here) (turns g)
    by (OneAt g s) = named-found (is_at_site l s here) (in_turn g here) (turns g)
