-- What is kept after a list of lessons, in which places and hops of ports are learned one after the other.
use Rattle.std.specs.Prelude.{ℕ, ◌≡◌, ◌⊎◌, List, [], ◌∷◌, ◌++◌, Option, Some, None}
use Rattle.chorus_ui.specs.declared.ui.Ui.{Ui}
use Rattle.chorus_ui.specs.declared.layout.Layout.{Layout}
use Rattle.chorus_ui.specs.Layout.{creation_place}
use Rattle.chorus_hints.specs.Known.{Pairs, learned}

pub record Lesson : Type 0 where
  pub port : Ui
  pub place : ℕ
  pub hop : ℕ

abbrev pub after : List Lesson → Pairs → Pairs
after [] pairs = pairs
after (l ∷ ls) pairs = after ls (learned l.port l.place l.hop pairs)

-- the pair was learned of the port, in one of the lessons
pub record WasLearned (lessons : List Lesson) (port : Ui) (pair : ℕ × ℕ) : Type 0 where
  pub earlier : List Lesson
  pub lesson : Lesson
  pub later : List Lesson
  pub among : lessons ≡ earlier ++ lesson ∷ later
  pub of_port : lesson.port ≡ port
  pub is : (lesson.place, lesson.hop) ≡ pair

-- what is kept of a port was kept of it at first, or was learned of it
abbrev pub WasKeptOrLearned : Pairs → List Lesson → Ui → Option (ℕ × ℕ) → Type 0
WasKeptOrLearned pairs lessons port None = pairs port ≡ None
WasKeptOrLearned pairs lessons port (Some pair) = (pairs port ≡ Some pair) ⊎ WasLearned lessons port pair

-- where nothing is kept at first, the newest place of a port is its creation place, with hop 0, or was learned of it
abbrev pub IsMadeOrLearned : Layout → List Lesson → Ui → ℕ × ℕ → Type 0
IsMadeOrLearned layout lessons port pair = (pair ≡ (creation_place layout port, 0)) ⊎ WasLearned lessons port pair
