-- What a step does to the ports.
use Rattle.std.proofs.Common.{ℕ, ◌≡◌, ◌==◌, ◌<◌, nat_le, not, true, ◌&&◌, List, [], ◌∷◌, ◌++◌, length, reverse, Option, Some, None, refl, sym, ◌∙◌, ap, arith}
use Rattle.std.specs.Cmp.Derive.{both_true}
use Rattle.std.specs.List.{slice_get}
use Rattle.std.proofs.lemmas.Bool.{and_parts, eqb-true, leb-true, false≢true}
use Rattle.std.proofs.lemmas.List.{reverse-append}
use Rattle.std.proofs.lemmas.Option.{slice_get_within}
use Rattle.chorus_ui.specs.declared.ui.Ui.{Ui}
use Rattle.chorus_ui.specs.declared.layout.Layout.{Layout}
use Rattle.chorus_ui.specs.Name.{same_ui}
use Rattle.chorus_ui.proofs.Names.{from_same_ui}
use Rattle.chorus_entry.specs.declared.entry.Entry.{Entry}
use Rattle.chorus_entry.specs.declared.id.MsgId.{MsgId}
use Rattle.chorus_entry.specs.declared.act.Act.{Act}
use Rattle.chorus_entry.specs.declared.act.Act.TheVariants.{Make, Take}
use Rattle.chorus_entry.specs.Act.{held_port_of}
use Rattle.chorus_entry.specs.MsgId.{same_id}
use Rattle.chorus_world.specs.Views.{Views, views, on, is_on}
use Rattle.chorus_entry.specs.Same.{are_same}
use Rattle.chorus_world.specs.Places.{just_taken}
use Rattle.chorus_world.specs.Ports.{PortState, fate, is_held_at, is_first_waiting}
use Rattle.checker_ledger.specs.Ports.{MakeFits, TakeFits}
use Rattle.chorus_world.specs.Steps.{is_home, is_full_of_ports, next_number, act_may, act_follows, may, is_timely, may_stand_behind, is_legal}
use Rattle.chorus_entry.specs.Kinds.{has_kinds}

there : (x : MsgId) (o : Option MsgId) → are_same same_id (Some x) o ≡ true → (y : MsgId) × (o ≡ Some y)
there x None h = absurd (false≢true h)
there x (Some y) h = (y, refl)

first_fits : (n : ℕ) (x : MsgId) (f : PortState) → is_first_waiting n x (Some f) ≡ true → f.taken < length f.accepted
first_fits n x f h =
    let two = and_parts (n == f.taken) (are_same same_id (Some x) (slice_get f.accepted n)) h in
    let is : n ≡ f.taken = eqb-true n f.taken two.0 in
    let y = there x (slice_get f.accepted n) two.1 in
    let lt : n < length f.accepted = slice_get_within f.accepted n y.0 y.1 in
    omega arith

fits_case : (l : Layout) (past : List Entry) (p s : ℕ) (a : Act) (q : Ui) (f : PortState) → act_may l (views past p s a) p s a ≡ true → are_same same_ui (Some q) (held_port_of a) ≡ true → fate (on q past) ≡ Some f → TakeFits a f
fits_case l past p s (Take r n x) q f h e m =
    let same : q ≡ r = from_same_ui q r e in
    let two = and_parts (is_held_at p (fate (on r past))) (is_first_waiting n x (fate (on r past))) h in
    let here : fate (on r past) ≡ Some f = ap (λ u. fate (on u past)) (sym same) ∙ m in
    first_fits n x f (ap (is_first_waiting n x) (sym here) ∙ two.1)
fits_case l past p s _ q f h e m = tt

-- a Take that may come next finds a message that waits
pub take_fits : (l : Layout) (past : List Entry) (e : Entry) (q : Ui) (f : PortState) → may l past e ≡ true → is_on (Some q) e ≡ true → fate (on q past) ≡ Some f → TakeFits e.act f
take_fits l past e q f h o m =
    let v = views past e.place e.seat e.act in
    let follows = (and_parts (is_timely l v e) (act_follows l v e.place e.seat e.act) h).1 in
    let needs = (and_parts (has_kinds e.act && may_stand_behind (just_taken past v.here) e.act) (act_may l v e.place e.seat e.act) follows).1 in
    fits_case l past e.place e.seat e.act q f needs o m

-- the past stays legal
pub legal_grows : (l : Layout) (es xs : List Entry) (e : Entry) → is_legal l (reverse es) ≡ true → may l (reverse es) e ≡ true → xs ≡ es ++ e ∷ [] → is_legal l (reverse xs) ≡ true
legal_grows l es xs e old now is =
    ap (λ ys. is_legal l (reverse ys)) is
    ∙ (ap (is_legal l) (reverse-append es (e ∷ []))
    ∙ both_true now old)

makes_case : (l : Layout) (v : Views) (p s : ℕ) (a : Act) → act_may l v p s a ≡ true → MakeFits a
makes_case l v p s (Make q a c) h =
    let site = is_home l a p && nat_le 1 c && nat_le c 64 && not (is_full_of_ports l v.here) && (q.site == a.site) in
    let room = is_home l a p && nat_le 1 c && nat_le c 64 && not (is_full_of_ports l v.here) in
    let most = is_home l a p && nat_le 1 c && nat_le c 64 in
    let one = and_parts site (q.number == next_number l p v.here) h in
    let two = and_parts room (q.site == a.site) one.0 in
    let three = and_parts most (not (is_full_of_ports l v.here)) two.0 in
    let four = and_parts (is_home l a p && nat_le 1 c) (nat_le c 64) three.0 in
    let five = and_parts (is_home l a p) (nat_le 1 c) four.0 in
    (leb-true 1 c five.1, leb-true c 64 four.1)
makes_case l v p s _ h = tt

-- a Make that may come next has a capacity
pub make_fits : (l : Layout) (past : List Entry) (e : Entry) → may l past e ≡ true → MakeFits e.act
make_fits l past e h =
    let v = views past e.place e.seat e.act in
    let follows = (and_parts (is_timely l v e) (act_follows l v e.place e.seat e.act) h).1 in
    let needs = (and_parts (has_kinds e.act && may_stand_behind (just_taken past v.here) e.act) (act_may l v e.place e.seat e.act) follows).1 in
    makes_case l v e.place e.seat e.act needs
