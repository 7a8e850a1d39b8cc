-- What is said of an entry that may not come next is so.
use Rattle.std.specs.Prelude.{◌≡◌, ◌⊎◌, ℕ, ◌+◌, true, false, List, ◌∷◌, ◌++◌, length, if◌then◌else◌}
use Rattle.chorus_ui.specs.declared.layout.Layout.{Layout}
use Rattle.chorus_entry.specs.declared.entry.Entry.{Entry}
use Rattle.chorus_entry.specs.declared.act.Act.{Act}
use Rattle.chorus_entry.specs.Kinds.{has_kinds}
use Rattle.chorus_checker.specs.Rules.{rule_of}
use Rattle.chorus_world.specs.Views.{at, views}
use Rattle.chorus_world.specs.Places.{just_taken}
use Rattle.chorus_world.specs.Steps.{act_may, is_timely, may, may_stand_behind}
use Rattle.judge_rules.specs.declared.failing.Failed.{Failed}
use Rattle.judge_rules.specs.declared.about.About.TheVariants.{Nothing}
use Rattle.judge_rules.specs.declared.blame.Blame.{Blame}
use Rattle.judge_rules.specs.Blames.{blame, blamed, reply_blamed, timely}
use Rattle.judge_rules.specs.Conditions.{Condition, all_hold, conditions, first_failing, that}

-- an act may come next, by its rule, exactly where all its conditions hold; and so is a clock
pub record ConditionsAreTheRules : Type 0 where
  pub acts : (l : Layout) (past : List Entry) (p s : ℕ) (act : Act) →
      all_hold (conditions l past p s act) ≡ act_may l (views past p s act) p s act
  pub clocks : (l : Layout) (past : List Entry) (e : Entry) →
      all_hold (timely l past e) ≡ is_timely l (views past e.place e.seat e.act) e

-- the condition is the first that fails: those before it hold, and it does not
pub record IsFirstFailing (n : ℕ) (cs : List Condition) (found : Failed) : Type 0 where
  pub before : List Condition
  pub failing : Condition
  pub behind : List Condition
  pub are : cs ≡ before ++ failing ∷ behind
  pub hold : all_hold before ≡ true
  pub fails : failing.holds ≡ false
  pub number : found.number ≡ n + length before
  pub about : found.about ≡ failing.about

abbrev pub FirstThatFailsIsFound : Type 0
FirstThatFailsIsFound =
    (n : ℕ) (cs : List Condition) → all_hold cs ≡ false → IsFirstFailing n cs (first_failing n cs)

-- the conditions of the rule that refuses the entry: of its clock, or of its act, of which the first is that its names are
-- of the kinds that they should be
abbrev pub asked_by : Layout → List Entry → Entry → List Condition
asked_by l past e =
    if is_timely l (views past e.place e.seat e.act) e then that (has_kinds e.act) Nothing ∷ conditions l past e.place e.seat e.act
    else timely l past e

-- the entry is blamed, by the rule of an audit, and by the first condition of that rule that fails
pub record IsOwnBlame (l : Layout) (past : List Entry) (e : Entry) (b : Blame) : Type 0 where
  pub found : Failed
  pub is : b ≡ blamed past (rule_of l past e) found
  pub first : IsFirstFailing 1 (asked_by l past e) found

-- or the take before it at its place is: a reply was taken, and neither a done nor a late comes next
pub record IsTakeBlame (past : List Entry) (e : Entry) (b : Blame) : Type 0 where
  pub is : b ≡ reply_blamed past e.place
  pub unanswered : may_stand_behind (just_taken past (at e.place past)) e.act ≡ false

abbrev pub BlamesAgree : Type 0
BlamesAgree =
    (l : Layout) (past : List Entry) (e : Entry) → may l past e ≡ false →
    IsOwnBlame l past e (blame l past e) ⊎ IsTakeBlame past e (blame l past e)
