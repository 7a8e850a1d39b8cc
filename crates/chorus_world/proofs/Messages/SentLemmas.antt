-- What was sent, one list behind another.
use Rattle.std.proofs.Common.{ℕ, ◌≡◌, ◌+◌, suc, Bool, true, false, ◌&&◌, cond, List, [], ◌∷◌, ◌++◌, ◌<◌, length, Option, Some, refl, ◌∙◌, ap, arith}
use Rattle.std.specs.Option.{option_or}
use Rattle.chorus_ui.specs.declared.ui.Ui.{Ui}
use Rattle.chorus_entry.specs.declared.id.MsgId.{MsgId}
use Rattle.chorus_entry.specs.MsgId.{same_id}
use Rattle.chorus_world.specs.declared.place.Sent.{Sent}
use Rattle.chorus_world.specs.Places.{copies, find_sent}

or-cond : {A : Type 0} (b : Bool) (x : A) (o m : Option A) → cond b (Some x) (option_or o m) ≡ option_or (cond b (Some x) o) m
or-cond true x o m = refl
or-cond false x o m = refl

pub find_sent_append : (x : MsgId) (ms ns : List Sent) → find_sent x (ms ++ ns) ≡ option_or (find_sent x ms) (find_sent x ns)
find_sent_append x [] ns = refl
find_sent_append x (m ∷ ms) ns =
    ap (λ o. cond (same_id m.id x) (Some m) o) (find_sent_append x ms ns)
    ∙ or-cond (same_id m.id x) m (find_sent x ms) (find_sent x ns)

abbrev pub copy : MsgId → Ui → ℕ → Ui → Sent
copy x g n q = record { id = record x { copy = n }; port = q; route = Some g }

pub copies_push : (x : MsgId) (g : Ui) (n : ℕ) (qs : List Ui) (q : Ui) → copies x g n (qs ++ q ∷ []) ≡ copies x g n qs ++ copy x g (n + length qs) q ∷ []
copies_push x g n [] q = ap (λ k. copy x g k q ∷ []) (let e : n ≡ n + 0 = omega arith in e)
copies_push x g n (r ∷ rs) q =
    ap (λ ms. copy x g n r ∷ ms)
    (copies_push x g (n + 1) rs q ∙ ap (λ k. copies x g (n + 1) rs ++ copy x g k q ∷ []) (let e : n + 1 + length rs ≡ n + suc (length rs) = omega arith in e))

-- the copy for one member more
pub find_copies_push : (x y : MsgId) (g : Ui) (qs : List Ui) (q : Ui) → find_sent y (copies x g 1 (qs ++ q ∷ [])) ≡ option_or (find_sent y (copies x g 1 qs)) (find_sent y (copy x g (1 + length qs) q ∷ []))
find_copies_push x y g qs q =
    ap (find_sent y) (copies_push x g 1 qs q) ∙ find_sent_append y (copies x g 1 qs) (copy x g (1 + length qs) q ∷ [])
