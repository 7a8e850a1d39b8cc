-- The positions of the messages that are taken from a port.
-- q is a port, s a seat, n and k are positions. A past has its newest entry first.
use Rattle.std.specs.Prelude.{ℕ, zero, suc, ◌≡◌, ◌≢◌, ◌⊎◌, ◌+◌, ◌<◌, true, List, [], ◌∷◌, ◌++◌, length, take}
use Rattle.std.specs.List.{All}
use Rattle.chorus_ui.specs.declared.ui.Ui.{Ui}
use Rattle.chorus_ui.specs.declared.layout.Layout.{Layout}
use Rattle.chorus_ui.specs.Layout.{IsLayout}
use Rattle.chorus_entry.specs.declared.entry.Entry.{Entry}
use Rattle.chorus_entry.specs.declared.id.MsgId.{MsgId}
use Rattle.chorus_entry.specs.declared.act.Act.{Act}
use Rattle.chorus_world.specs.Views.{on, by}
use Rattle.chorus_world.specs.AcceptedLaws.{accepted_by, received, taken_by}
use Rattle.chorus_world.specs.SentLaws.{StandsIn}
use Rattle.chorus_world.specs.Steps.{is_legal}

-- the positions that the Take entries name, in order
abbrev pub positions_after : Act → List ℕ → List ℕ
positions_after (Act.Take q n x) ns = ns ++ n ∷ []
positions_after _ ns = ns

abbrev pub positions : List Entry → List ℕ
positions [] = []
positions (e ∷ port) = positions_after e.act (positions port)

-- 0, 1, 2 and so on, so many
abbrev pub count_to : ℕ → List ℕ
count_to zero = []
count_to (suc n) = count_to n ++ n ∷ []

-- The takes of a port, whoever made them, stand in acceptance order: their positions are 0, 1, 2 and so on, and their
-- messages the first that the port accepted.
pub record TakesCountUp (past : List Entry) (q : Ui) : Type 0 where
  pub positions_are : positions (on q past) ≡ count_to (taken_by q past)
  pub messages_are : received (on q past) ≡ take (taken_by q past) (accepted_by q past)

abbrev pub LegalTakesCountUp : Type 0
LegalTakesCountUp =
    (l : Layout) (past : List Entry) (q : Ui) → IsLayout l → is_legal l past ≡ true → TakesCountUp past q

-- From one take to a later one the position grows by one, and by one for each take of the port between them. So the
-- positions of one seat's takes rise, and follow one another wherever no other seat takes between.
abbrev pub LegalTakesFollow : Type 0
LegalTakesFollow =
    (l : Layout) (newer between older : List Entry) (late early : Entry) (q : Ui) (m n : ℕ) (y x : MsgId) →
    IsLayout l → is_legal l (newer ++ late ∷ (between ++ early ∷ older)) ≡ true → late.act ≡ Act.Take q m y →
    early.act ≡ Act.Take q n x → m ≡ (n + 1) + length (positions (on q between))

-- Of one seat alone.

-- another seat took the message at this position from the port
pub record TookOther (past : List Entry) (s : ℕ) (q : Ui) (n : ℕ) : Type 0 where
  pub entry : Entry
  pub id : MsgId
  pub stands : StandsIn entry past
  pub act : entry.act ≡ Act.Take q n id
  pub other : entry.seat ≢ s

-- they rise, each above all before it
abbrev pub IsRising : List ℕ → Type 0
IsRising [] = Unit {0}
IsRising (n ∷ ns) = All (λ (k : ℕ). n < k) ns × IsRising ns

-- from n on: other seats took at each position between one and the next
abbrev pub OthersBetweenFrom : List Entry → ℕ → Ui → ℕ → List ℕ → Type 0
OthersBetweenFrom past s q n [] = Unit {0}
OthersBetweenFrom past s q n (m ∷ ns) =
    ((k : ℕ) → n < k → k < m → TookOther past s q k) × OthersBetweenFrom past s q m ns

abbrev pub OthersBetween : List Entry → ℕ → Ui → List ℕ → Type 0
OthersBetween past s q [] = Unit {0}
OthersBetween past s q (n ∷ ns) = OthersBetweenFrom past s q n ns

-- they are n, n + 1 and so on
abbrev pub CountsFrom : ℕ → List ℕ → Type 0
CountsFrom n [] = Unit {0}
CountsFrom n (m ∷ ns) = (m ≡ n) × CountsFrom (n + 1) ns

-- they follow one another without a gap
abbrev pub AreInARow : List ℕ → Type 0
AreInARow [] = Unit {0}
AreInARow (n ∷ ns) = CountsFrom (n + 1) ns

-- what other seats took from the port stands before all of these, or behind all of them
abbrev pub NoneTakesBetween : List Entry → ℕ → Ui → List ℕ → Type 0
NoneTakesBetween past s q ns =
    (k : ℕ) → TookOther past s q k → All (λ (n : ℕ). k < n) ns ⊎ All (λ (n : ℕ). n < k) ns

-- So the positions that one seat takes at, one after another: they rise, other seats took at all that are left out
-- between them, and there is none where no other seat takes between.
pub record TakesInOrder (past : List Entry) (s : ℕ) (q : Ui) (ns : List ℕ) : Type 0 where
  pub rising : IsRising ns
  pub between : OthersBetween past s q ns
  pub in_a_row : NoneTakesBetween past s q ns → AreInARow ns

-- the takes of each seat are so in each legal list
abbrev pub LegalTakesOfASeat : Type 0
LegalTakesOfASeat =
    (l : Layout) (past : List Entry) (s : ℕ) (q : Ui) → IsLayout l → is_legal l past ≡ true →
    TakesInOrder past s q (positions (on q (by s past)))
