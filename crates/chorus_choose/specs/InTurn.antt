-- That no enabled port starves where ports give in turn.
-- q and r are ports, p is the priority of q, xs are enabled ports in the order in which they are looked at, cs is what
-- is done to a chooser, one after another.
use Rattle.std.specs.Prelude.{◌≡◌, ℕ, ◌+◌, ◌<◌, Bool, true, false, if◌then◌else◌, List, [], ◌∷◌, ◌++◌, length, Result, Ok, Err}
use Rattle.std.specs.List.{Contains}
use Rattle.chorus_ui.specs.declared.ui.Ui.{Ui}
use Rattle.chorus_ui.specs.Name.{same_ui}
use Rattle.chorus_nucleus.specs.declared.fault.CallFault.{CallFault}
use Rattle.chorus_choose.specs.declared.chooser.Enabled.{Enabled}
use Rattle.chorus_choose.specs.declared.laws.Change.{Change}
use Rattle.chorus_choose.specs.declared.laws.Change.TheVariants as changes
use Rattle.chorus_choose.specs.declared.received.Received.{Received}
use Rattle.chorus_choose.specs.declared.received.Received.TheVariants as receives
use Rattle.chorus_choose.specs.Looking.{ports_of, turned, is_enabled, AreApart, IsFalling}
use Rattle.chorus_choose.specs.Changes.{changed, of_priority}

-- the order behind a receive in turn: the port that gave stands behind all others of its priority
abbrev pub after_receive : Result Received CallFault → List Enabled → List Enabled
after_receive (Ok (receives.Taken q position m settled)) xs = turned q xs
after_receive (Ok (receives.Empty looked)) xs = xs
after_receive (Err f) xs = xs

-- r gave, and q, which stands behind it, was not looked at
pub record PassesOver (q r : Ui) (xs : List Enabled) : Type 0 where
  pub front : List Ui
  pub rest : List Ui
  pub split : ports_of xs ≡ front ++ r ∷ rest
  pub behind : Contains rest q

-- meanwhile q is not looked at, and not disabled
abbrev pub IsNotLookedAt : Ui → List Enabled → List Change → Type 0
IsNotLookedAt q xs [] = Unit {0}
IsNotLookedAt q xs (changes.Enable r p ∷ cs) = IsNotLookedAt q (changed (changes.Enable r p) xs) cs
IsNotLookedAt q xs (changes.Disable r ∷ cs) =
    (same_ui r q ≡ false) × IsNotLookedAt q (changed (changes.Disable r) xs) cs
IsNotLookedAt q xs (changes.Give r ∷ cs) = PassesOver q r xs × IsNotLookedAt q (changed (changes.Give r) xs) cs

abbrev pub is_of : ℕ → Ui → List Enabled → Bool
is_of p q xs = is_enabled q (of_priority p xs)

-- how many messages ports of the priority give meanwhile
abbrev pub given_at : ℕ → List Enabled → List Change → ℕ
given_at p xs [] = 0
given_at p xs (changes.Enable r o ∷ cs) = given_at p (changed (changes.Enable r o) xs) cs
given_at p xs (changes.Disable r ∷ cs) = given_at p (changed (changes.Disable r) xs) cs
given_at p xs (changes.Give r ∷ cs) = (if is_of p r xs then 1 else 0) + given_at p (changed (changes.Give r) xs) cs

-- Where n ports of its priority are enabled, a port is looked at after at most n - 1 messages from the others of them,
-- whatever else is enabled and disabled meanwhile, and whatever ports of higher priority give.
abbrev pub NoneStarves : Type 0
NoneStarves =
    (xs : List Enabled) (q : Ui) (p : ℕ) (cs : List Change) → AreApart xs → IsFalling xs → is_of p q xs ≡ true →
    IsNotLookedAt q xs cs → given_at p xs cs < length (of_priority p xs)
