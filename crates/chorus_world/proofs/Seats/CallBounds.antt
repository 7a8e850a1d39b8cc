-- A fact of legal lists: the outstanding call of a seat was posted.
use Rattle.std.proofs.Common.{ℕ, ◌≡◌, ◌==◌, Bool, true, false, cond, List, [], ◌∷◌, Option, Some, None, is_some, refl, sym, ◌∙◌, ap, subst}
use Rattle.std.specs.Option.{option_or}
use Rattle.std.proofs.lemmas.Bool.{and_parts, false≢true, eqb-true}
use Rattle.chorus_ui.specs.declared.layout.Layout.{Layout}
use Rattle.chorus_entry.specs.declared.entry.Entry.{Entry}
use Rattle.chorus_entry.specs.declared.tag.Tag.{Tag}
use Rattle.chorus_entry.specs.declared.tag.Tag.TheVariants.{Plain, Request, Reply}
use Rattle.chorus_entry.specs.declared.act.Act.{Act}
use Rattle.chorus_entry.specs.declared.act.Act.TheVariants.{Post, Done, Cancel}
use Rattle.chorus_world.specs.Views.{by, is_by, views}
use Rattle.chorus_world.specs.Seats.{Call, call, call_after, call_with, call_by, call_in, ended, first_call}
use Rattle.chorus_world.specs.Steps.{act_may, is_legal, may_tag}
use Rattle.chorus_world.proofs.Steps.LegalLemmas.{legal_parts}

-- the call of this number was posted
abbrev pub WasCalled : ℕ → List Entry → Type 0
WasCalled n mine = (c : Call) × (first_call n mine ≡ Some c)

stays-called : (n : ℕ) (e : Entry) (mine : List Entry) → WasCalled n mine → WasCalled n (e ∷ mine)
stays-called n e mine h = (h.0, ap (λ o. option_or o (call_by n e.act)) h.1)

or-called : (o m : Option Call) → is_some m ≡ true → (c : Call) × (option_or o m ≡ Some c)
or-called None None h = absurd (false≢true h)
or-called None (Some c) h = (c, refl)
or-called (Some c) m h = (c, refl)

was-ended : (k n : ℕ) (o : Option ℕ) → ended k o ≡ Some n → o ≡ Some n
was-ended k n None h = absurd (cc)
was-ended k n (Some m) h = by (m == k) h
  where
    by : (b : Bool) → cond b None (Some m) ≡ Some n → Some m ≡ Some n
    by true e = absurd (cc)
    by false e = e

call-step : (l : Layout) (past : List Entry) (e : Entry) (n : ℕ) → act_may l (views past e.place e.seat e.act) e.place e.seat e.act ≡ true → (call (by e.seat past) ≡ Some n → WasCalled n (by e.seat past))
    → call (e ∷ by e.seat past) ≡ Some n → WasCalled n (e ∷ by e.seat past)
call-step l past e n may ih h = go e.act refl may h
  where
    mine : List Entry
    mine = by e.seat past

    old : call mine ≡ Some n → WasCalled n (e ∷ mine)
    old k = stays-called n e mine (ih k)

    go : (a : Act) → e.act ≡ a → act_may l (views past e.place e.seat a) e.place e.seat a ≡ true → call_after a (call mine) ≡ Some n → WasCalled n (e ∷ mine)
    go (Post m d) is k j = tag m.tag refl (and_parts _ (may_tag (views past e.place e.seat (Post m d)) m d m.tag) k).1 j
      where
        tag : (z : Tag) → m.tag ≡ z → may_tag (views past e.place e.seat (Post m d)) m d z ≡ true → call_with z (call mine) ≡ Some n → WasCalled n (e ∷ mine)
        tag Plain t y x = old x
        tag (Reply c r) t y x = old x
        tag (Request r back) t y x =
            let same : r ≡ n = cc in
            let some : is_some (call_in r m.tag d m.body) ≡ true = (and_parts (is_some (call_in r m.tag d m.body)) _ y).0 in
            let found = or-called (first_call n mine) (call_by n e.act) (ap (λ b. is_some (call_by n b)) is ∙ subst (λ z. is_some (call_in z m.tag d m.body) ≡ true) same some) in
            found
    go (Done r) is k j = old (was-ended r n (call mine) j)
    go (Cancel r) is k j = old (was-ended r n (call mine) j)
    go a is k j = old j

pub outstanding-posted : (l : Layout) (past : List Entry) (s n : ℕ) → is_legal l past ≡ true → call (by s past) ≡ Some n → WasCalled n (by s past)
outstanding-posted l [] s n h k = absurd (cc)
outstanding-posted l (e ∷ past) s n h k = go (is_by s e) refl k (outstanding-posted l past s n (legal_parts l e past h).1)
  where
    go : (b : Bool) → is_by s e ≡ b → call (cond b (e ∷ by s past) (by s past)) ≡ Some n → (call (by s past) ≡ Some n → WasCalled n (by s past)) → WasCalled n (cond b (e ∷ by s past) (by s past))
    go false t j ih = ih j
    go true t j ih =
        let same : e.seat ≡ s = eqb-true e.seat s t in
        subst (λ z. WasCalled n (e ∷ by z past)) same
        (call-step l past e n (legal_parts l e past h).0 (λ c. subst (λ z. WasCalled n (by z past)) (sym same) (ih (subst (λ z. call (by z past) ≡ Some n) same c))) (subst (λ z. call (e ∷ by z past) ≡ Some n) (sym same) j))
