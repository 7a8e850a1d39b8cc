-- Lists of members and of posts to a group, one behind another.
use Rattle.std.proofs.Common.{ℕ, ◌≡◌, ◌+◌, Bool, true, false, ◌||◌, cond, List, [], ◌∷◌, ◌++◌, Option, Some, refl, ◌∙◌, ap}
use Rattle.std.specs.Option.{option_or}
use Rattle.chorus_entry.specs.declared.entry.Entry.{Entry}
use Rattle.chorus_entry.specs.declared.id.MsgId.{MsgId}
use Rattle.chorus_world.specs.Groups.{first_unchosen, is_chosen}

unchosen_cases : (b : Bool) (x : MsgId) (o m : Option MsgId) → cond b (option_or o m) (Some x) ≡ option_or (cond b o (Some x)) m
unchosen_cases true x o m = refl
unchosen_cases false x o m = refl

pub first_unchosen_append : (here : List Entry) (xs ys : List MsgId) → first_unchosen here (xs ++ ys) ≡ option_or (first_unchosen here xs) (first_unchosen here ys)
first_unchosen_append here [] ys = refl
first_unchosen_append here (x ∷ xs) ys =
    ap (λ o. cond (is_chosen x here) o (Some x)) (first_unchosen_append here xs ys)
    ∙ unchosen_cases (is_chosen x here) x (first_unchosen here xs) (first_unchosen here ys)
