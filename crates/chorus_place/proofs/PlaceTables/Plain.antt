-- What an act that changes no count leaves.
use Rattle.std.proofs.Common.{◌≡◌, ℕ, true, false, List, refl}
use Rattle.std.proofs.lemmas.Bool.{false≢true}
use Rattle.chorus_ui.specs.declared.ui.Ui.{Ui}
use Rattle.chorus_ui.specs.declared.layout.Layout.{Layout}
use Rattle.chorus_entry.specs.declared.act.Act.{Act}
use Rattle.chorus_entry.specs.declared.act.Act.TheVariants as acts
use Rattle.chorus_groups.specs.Groups.{Table}
use Rattle.chorus_world.specs.Places.{ports_after, makes}
use Rattle.chorus_world.specs.Groups.{members_after}
use Rattle.place_journal.specs.Counting.{MayFollow}
use Rattle.chorus_place.specs.PlaceTables.Plain.{is_plain}

pub may_follow : (a : Act) (l : Layout) (t : Table) → is_plain a ≡ true → MayFollow l t a
may_follow (acts.Make q b n) l t h = absurd (false≢true h)
may_follow (acts.Delete q xs) l t h = absurd (false≢true h)
may_follow (acts.GroupMake g) l t h = absurd (false≢true h)
may_follow (acts.Join g q) l t h = absurd (false≢true h)
may_follow (acts.Leave g q) l t h = absurd (false≢true h)
may_follow _ l t h = tt

pub makes_none : (a : Act) (n : ℕ) → is_plain a ≡ true → ports_after a n ≡ n
makes_none (acts.Make q b m) n h = absurd (false≢true h)
makes_none _ n h = refl

pub makes_not : (a : Act) (q : Ui) → is_plain a ≡ true → makes q a ≡ false
makes_not (acts.Make r b m) q h = absurd (false≢true h)
makes_not _ q h = refl

pub same_members : (a : Act) (g : Ui) (qs : List Ui) → is_plain a ≡ true → members_after g a qs ≡ qs
same_members (acts.Join h q) g qs e = absurd (false≢true e)
same_members (acts.Leave h q) g qs e = absurd (false≢true e)
same_members _ g qs e = refl
