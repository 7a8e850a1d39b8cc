-- The number of the rule of each act, computed: they count in the order in which FORMATS lists the acts.
use Rattle.std.proofs.Common.{ℕ, ◌≡◌, List, [], ◌∷◌, map, refl}
use Rattle.chorus_ui.specs.declared.kind.Kind.TheVariants as kinds
use Rattle.chorus_ui.specs.declared.ui.Ui.{Ui}
use Rattle.chorus_entry.specs.declared.act.Act.{Act}
use Rattle.chorus_entry.specs.declared.answer.Answer.TheVariants as A
use Rattle.chorus_entry.specs.declared.dest.Dest.{Dest}
use Rattle.chorus_entry.specs.declared.id.MsgId.{MsgId}
use Rattle.chorus_entry.specs.declared.message.Message.{Message}
use Rattle.chorus_entry.specs.declared.tag.Tag.{Tag}
use Rattle.chorus_checker.specs.Rules.{act_number}

abbrev p : Ui
p = record { site = 1; kind = kinds.Port; number = 1 }

abbrev a : Ui
a = record { site = 1; kind = kinds.Actor; number = 1 }

abbrev g : Ui
g = record { site = 1; kind = kinds.Group; number = 1 }

abbrev x : MsgId
x = record { seat = 0; number = 1; copy = 0 }

abbrev m : Message
m = record { id = x; tag = Tag.Plain; body = [] }

abbrev first_ten : List Act
first_ten =
    Act.Make p a 1
    ∷ Act.MakeFull a
    ∷ Act.NoActor a
    ∷ Act.NoSite 1
    ∷ Act.Post m (Dest.Port p)
    ∷ Act.Accept x p 0
    ∷ Act.Full x p 1
    ∷ Act.Already x p
    ∷ Act.ClientsFull x p
    ∷ Act.Stale x p 0 2 1
    ∷ []

abbrev second_ten : List Act
second_ten =
    Act.Early x p 1
    ∷ Act.NoPort x p
    ∷ Act.Elsewhere x p 2 1
    ∷ Act.NoMember x g
    ∷ Act.Choose x g (p ∷ [])
    ∷ Act.Try x p 2 1
    ∷ Act.Told x A.Gone
    ∷ Act.Heard x A.Gone
    ∷ Act.Take p 0 x
    ∷ Act.Done 1
    ∷ []

abbrev third_ten : List Act
third_ten =
    Act.Late 1
    ∷ Act.Empty p
    ∷ Act.NotHere p
    ∷ Act.Rehome p a
    ∷ Act.Depart p 2 a 1
    ∷ Act.Arrive p 1
    ∷ Act.GroupMake g
    ∷ Act.GroupsFull 1
    ∷ Act.Join g p
    ∷ Act.Leave g p
    ∷ []

abbrev fourth_ten : List Act
fourth_ten =
    Act.NoGroup g
    ∷ Act.There g p
    ∷ Act.NotThere g p
    ∷ Act.MembersFull g
    ∷ Act.Outstanding 1
    ∷ Act.NoCall
    ∷ Act.NoRequest
    ∷ Act.Cancel 1
    ∷ Act.Delete p []
    ∷ Act.Gone x p
    ∷ []

numbers : (map act_number first_ten ≡ 1 ∷ 2 ∷ 3 ∷ 4 ∷ 5 ∷ 6 ∷ 7 ∷ 8 ∷ 9 ∷ 10 ∷ []) × (map act_number second_ten ≡ 11 ∷ 12 ∷ 13 ∷ 14 ∷ 15 ∷ 16 ∷ 17 ∷ 18 ∷ 19 ∷ 20 ∷ []) × (map act_number third_ten ≡ 21 ∷ 22 ∷ 23 ∷ 24 ∷ 25 ∷ 26 ∷ 27 ∷ 28 ∷ 29 ∷ 30 ∷ []) × (map act_number fourth_ten ≡ 31 ∷ 32 ∷ 33 ∷ 34 ∷ 35 ∷ 36 ∷ 37 ∷ 38 ∷ 39 ∷ 40 ∷ [])
numbers = (refl, refl, refl, refl)
