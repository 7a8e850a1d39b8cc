-- What holds of each element of a list holds of the list, and so of an act with a list.
use Rattle.std.proofs.Common.{◌≡◌, ℕ, ◌≤◌, List, [], ◌∷◌, length, refl, sym, subst}
use Rattle.std.specs.List.{All}
use Rattle.std.proofs.lemmas.Bool.{le-leb}
use Rattle.std.proofs.lemmas.List.Elements.{All-head, All-tail, All-same}
use Rattle.chorus_ui.specs.declared.ui.Ui.{Ui}
use Rattle.chorus_ui.specs.declared.limits.TheConstants.{MEMBERS_LIMIT}
use Rattle.chorus_ui.specs.Name.{IsName}
use Rattle.chorus_entry.specs.declared.id.MsgId.{MsgId}
use Rattle.chorus_entry.specs.declared.act.Act.{Act}
use Rattle.chorus_entry.specs.declared.act.Act.TheVariants.{Choose, Delete}
use Rattle.chorus_entry.specs.declared.entry.Entry.{Entry}
use Rattle.chorus_show.specs.Bounds.{Is8, IsId, AreNames, AreIds, AreBytes, IsActWithin, IsWithin, AreWithin}

pub are_names : (qs : List Ui) → All IsName qs → AreNames qs
are_names [] h = tt
are_names (q ∷ qs) h = (All-head IsName q qs h, are_names qs (All-tail IsName q qs h))

pub are_ids : (xs : List MsgId) → All IsId xs → AreIds xs
are_ids [] h = tt
are_ids (x ∷ xs) h = (All-head IsId x xs h, are_ids xs (All-tail IsId x xs h))

pub are_bytes : (bytes : List ℕ) → All Is8 bytes → AreBytes bytes
are_bytes [] h = tt
are_bytes (c ∷ cs) h = (All-head Is8 c cs h, are_bytes cs (All-tail Is8 c cs h))

pub all_within : (es : List Entry) → All IsWithin es → AreWithin es
all_within [] h = tt
all_within (e ∷ es) h = (All-head IsWithin e es h, all_within es (All-tail IsWithin e es h))

pub choose_within : (act : Act) (x : MsgId) (g : Ui) (members uis : List Ui) → act ≡ Choose x g members → IsId x × IsName g → uis ≡ members → length members ≤ MEMBERS_LIMIT → All IsName uis → IsActWithin act
choose_within act x g members uis is names same few all =
    subst IsActWithin (sym is) ((names.0, names.1, are_names members (All-same IsName members uis (sym same) all)), le-leb (length members) MEMBERS_LIMIT few)

pub delete_within : (act : Act) (q : Ui) (discarded ids : List MsgId) → act ≡ Delete q discarded → IsName q → ids ≡ discarded → All IsId ids → IsActWithin act
delete_within act q discarded ids is name same all =
    subst IsActWithin (sym is) ((name, are_ids discarded (All-same IsId discarded ids (sym same) all)), refl)
