-- What is blamed is the entry that an audit refuses, by its rule and by the first of its conditions that fails; or the take before it.
use Rattle.std.proofs.Common.{◌≡◌, Bool, true, false, ◌&&◌, cond, List, ◌∷◌, refl, sym, ◌∙◌, ap, subst, inl, inr}
use Rattle.std.specs.Prelude.{◌⊎◌}
use Rattle.std.proofs.lemmas.Bool.{and_from, false≢true}
use Rattle.chorus_ui.specs.declared.layout.Layout.{Layout}
use Rattle.chorus_entry.specs.declared.entry.Entry.{Entry}
use Rattle.chorus_entry.specs.Kinds.{has_kinds}
use Rattle.chorus_checker.specs.Rules.{act_number}
use Rattle.chorus_world.specs.Views.{at, views}
use Rattle.chorus_world.specs.Places.{just_taken}
use Rattle.chorus_world.specs.Steps.{act_may, is_timely, may, may_stand_behind}
use Rattle.judge_rules.specs.declared.about.About.TheVariants.{Nothing}
use Rattle.judge_rules.specs.declared.blame.Blame.{Blame}
use Rattle.judge_rules.specs.declared.failing.Failed.{Failed}
use Rattle.judge_rules.specs.Blames.{act_blamed, blamed, reply_blamed, timely}
use Rattle.judge_rules.specs.Conditions.{Condition, all_hold, conditions, first_failing, that}
use Rattle.judge_rules.specs.Laws.{BlamesAgree, IsFirstFailing, IsOwnBlame, IsTakeBlame}
use Rattle.judge_rules.proofs.Finding.{at_first, first_found, with_first}
use Rattle.judge_rules.proofs.Rules.{conditions_are}

and-false : (x y : Bool) → x ≡ true → (x && y) ≡ false → y ≡ false
and-false true y h k = k
and-false false y h k = absurd (false≢true h)

module _ (l : Layout) (past : List Entry) (e : Entry) (wrong : may l past e ≡ false) where
  abbrev acts : Bool
  acts = act_may l (views past e.place e.seat e.act) e.place e.seat e.act

  abbrev behind : Bool
  behind = may_stand_behind (just_taken past (at e.place past)) e.act

  abbrev timed : Bool
  timed = is_timely l (views past e.place e.seat e.act) e

  abbrev asked : List Condition
  asked = that (has_kinds e.act) Nothing ∷ conditions l past e.place e.seat e.act

  abbrev Agrees : Blame → Type 0
  Agrees b = IsOwnBlame l past e b ⊎ IsTakeBlame past e b

  own : (t : Bool) (f : Failed) → timed ≡ t → IsFirstFailing 1 (cond t asked (timely l past e)) f → Agrees (blamed past (cond t (act_number e.act) 0) f)
  own t f is first = inl (record {
    found = f;
    is = ap (λ b. blamed past (cond b (act_number e.act) 0) f) (sym is);
    first = subst (λ b. IsFirstFailing 1 (cond b asked (timely l past e)) f) (sym is) first;
  })

  -- where its names are of their kinds, and a reply that was taken is followed
  rest-false : timed ≡ true → has_kinds e.act ≡ true → behind ≡ true → all_hold (conditions l past e.place e.seat e.act) ≡ false
  rest-false t k b =
      let follows : (has_kinds e.act && behind && acts) ≡ false = and-false timed (has_kinds e.act && behind && acts) t wrong in
      conditions_are.acts l past e.place e.seat e.act ∙ and-false (has_kinds e.act && behind) acts (and_from (has_kinds e.act) behind k b) follows

  by-behind : (b : Bool) → behind ≡ b → timed ≡ true → has_kinds e.act ≡ true → Agrees (cond b (blamed past (act_number e.act) (first_failing 2 (conditions l past e.place e.seat e.act))) (reply_blamed past e.place))
  by-behind true b t k =
      let f = first_failing 2 (conditions l past e.place e.seat e.act) in
      own true f t (with_first 1 (that (has_kinds e.act) Nothing) (conditions l past e.place e.seat e.act) f k (first_found 2 (conditions l past e.place e.seat e.act) (rest-false t k b)))
  by-behind false b t k = inr (record { is = refl; unanswered = b })

  by-kinds : (k : Bool) → has_kinds e.act ≡ k → timed ≡ true → Agrees (cond k (cond behind (blamed past (act_number e.act) (first_failing 2 (conditions l past e.place e.seat e.act))) (reply_blamed past e.place)) (blamed past (act_number e.act) (record { number = 1; about = Nothing })))
  by-kinds true k t = by-behind behind refl t k
  by-kinds false k t = own true (record { number = 1; about = Nothing }) t (at_first 1 (that (has_kinds e.act) Nothing) (conditions l past e.place e.seat e.act) k)

  by-time : (t : Bool) → timed ≡ t → Agrees (cond t (act_blamed l past e) (blamed past 0 (first_failing 1 (timely l past e))))
  by-time true t = by-kinds (has_kinds e.act) refl t
  by-time false t = own false (first_failing 1 (timely l past e)) t (first_found 1 (timely l past e) (conditions_are.clocks l past e ∙ t))

pub blames_agree : BlamesAgree
blames_agree l past e wrong = by-time l past e wrong (is_timely l (views past e.place e.seat e.act) e) refl
