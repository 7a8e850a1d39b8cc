-- Each accepted message has its fate, in the world of a legal past and in all holdings that stand for it.
use Rattle.std.proofs.Common.{ℕ, ◌≡◌, ◌<◌, ◌≤◌, ◌-◌, Bool, true, false, cond, nat_lt, List, [], ◌∷◌, ◌++◌, Option, Some, None, slice_get, refl, sym, ◌∙◌, ap, subst, inl, inr, arith}
use Rattle.std.specs.List.{filter, flat_map}
use Rattle.std.proofs.lemmas.Bool.{cases_Bool, false≢true, ltb-false}
use Rattle.std.proofs.lemmas.List.{append-nil}
use Rattle.std.proofs.lemmas.Option.{slice_get_within}
use Rattle.chorus_ui.specs.declared.ui.Ui.{Ui}
use Rattle.chorus_ui.specs.declared.layout.Layout.{Layout}
use Rattle.chorus_ui.specs.Layout.{IsLayout}
use Rattle.chorus_ui.specs.Name.{same_ui}
use Rattle.chorus_ui.proofs.Names.{from_same_ui, same_ui-self}
use Rattle.chorus_entry.specs.declared.entry.Entry.{Entry}
use Rattle.chorus_entry.specs.declared.id.MsgId.{MsgId}
use Rattle.chorus_entry.specs.declared.act.Act.{Act}
use Rattle.chorus_entry.specs.declared.act.Act.TheVariants.{Make}
use Rattle.chorus_world.specs.declared.spot.Spot.{Spot}
use Rattle.chorus_world.specs.declared.spot.Spot.TheVariants as spots
use Rattle.chorus_world.specs.Views.{on, is_on, views}
use Rattle.chorus_world.specs.Ports.{PortState, fate, fate_after, is_made, last_of}
use Rattle.chorus_world.specs.Fates.{MessageFate, fate_at, fate_left}
use Rattle.chorus_world.specs.Fates.MessageFate.{Received, Discarded}
use Rattle.chorus_world.specs.AcceptedLaws.{accepted_from, taken_by, taken_from}
use Rattle.chorus_world.specs.Steps.{is_legal, act_may}
use Rattle.chorus_world.proofs.Steps.LegalLemmas.{legal_parts}
use Rattle.chorus_world.proofs.Ports.ByFate.{received_by_fate, discarded_by_fate}
use Rattle.chorus_world.proofs.Ports.PortMoves.{make_new}
use Rattle.chorus_world.proofs.Messages.MessageSteps.{legal_inv}
use Rattle.chorus_world.proofs.Messages.OnceLaws.{stands_once, keeps_each_message}
use Rattle.law_network.specs.Records.{record_for}
use Rattle.law_network.specs.UnderWay.{before_last}
use Rattle.law_network.specs.Holdings.{Holding, At, OnTheWay, holds, told_in, told_of, holding_told, StandsFor}
use Rattle.law_network.specs.EachMessage.{StandsByFate}
use Rattle.law_network.proofs.Holdings.EachMessage.{holdings-hold-each}
use Rattle.law_network.specs.Fates.{ports_in, with_made, holdings_told, HasFate, HoldsByFate, WorldHolds}

-- Each port is made once.

-- the name, where the port was made
abbrev once : Ui → Bool → List Ui
once q b = cond b (q ∷ []) []

abbrev named : Ui → List Ui → List Ui
named q qs = filter (λ r. same_ui r q) qs

not-same : (q r : Ui) → same_ui q r ≡ false → same_ui r q ≡ false
not-same q r off =
    elim (cases_Bool (same_ui r q)) [
      | inl t ↦ absurd (false≢true (sym off ∙ subst (λ z. same_ui q z ≡ true) (sym (from_same_ui r q t)) (same_ui-self q)))
      | inr f ↦ f
    ]

abbrev IsNoMake : Act → Type 0
IsNoMake (Make r c n) = ⊥
IsNoMake _ = Unit {0}

-- an act that makes no port leaves it made or not
as-made : (p : ℕ) (a : Act) (o : Option PortState) → IsNoMake a → is_made (fate_after p a o) ≡ is_made o
as-made p (Make r c n) o h = absurd h
as-made p _ None h = refl
as-made p _ (Some f) h = refl

module _ (q : Ui) (past : List Entry) (e : Entry) (a : Act) (act : e.act ≡ a) where
  line-fate : (b : Bool) → fate (cond b (e ∷ on q past) (on q past)) ≡ cond b (fate_after e.place a (fate (on q past))) (fate (on q past))
  line-fate true = ap (λ z. fate_after e.place z (fate (on q past))) act
  line-fate false = refl

  still-made : IsNoMake a → is_made (fate (on q (e ∷ past))) ≡ is_made (fate (on q past))
  still-made other = ap is_made (line-fate (is_on (Some q) e)) ∙ by (is_on (Some q) e)
    where
      by : (b : Bool) → is_made (cond b (fate_after e.place a (fate (on q past))) (fate (on q past))) ≡ is_made (fate (on q past))
      by true = as-made e.place a (fate (on q past)) other
      by false = refl

module _ (l : Layout) (layout : IsLayout l) (q : Ui) where
  ports-once : (past : List Entry) → is_legal l past ≡ true → named q (ports_in past) ≡ once q (is_made (fate (on q past)))
  ports-once [] h = refl
  ports-once (e ∷ past) h =
      let two = legal_parts l e past h in by e.act refl (ports-once past two.1)
    where
      may : act_may l (views past e.place e.seat e.act) e.place e.seat e.act ≡ true
      may = (legal_parts l e past h).0

      older : is_legal l past ≡ true
      older = (legal_parts l e past h).1

      by : (a : Act) → e.act ≡ a → named q (ports_in past) ≡ once q (is_made (fate (on q past))) → named q (with_made a (ports_in past)) ≡ once q (is_made (fate (on q (e ∷ past))))
      by (Make r c n) act ih =
          elim (cases_Bool (same_ui q r)) [
            | inl t ↦ (
                let same : q ≡ r = from_same_ui q r t in
                let makes : act_may l (views past e.place e.seat (Make q c n)) e.place e.seat (Make q c n) ≡ true =
                subst (λ z. act_may l (views past e.place e.seat z) e.place e.seat z ≡ true) (act ∙ ap (λ z. Make z c n) (sym same)) may in
                let new = (make_new l past e.place e.seat q c n layout ((legal_inv l past layout older).ports q) makes).0 in
                let none : named q (ports_in past) ≡ [] = ih ∙ ap (λ o. once q (is_made o)) new in
                let on-it : is_on (Some q) e ≡ true = ap (λ z. is_on (Some q) (record e { act = z })) act ∙ t in
                let made : is_made (fate (on q (e ∷ past))) ≡ true =
                ap is_made (line-fate q past e (Make r c n) act (is_on (Some q) e))
                ∙ ap (λ b. is_made (cond b (fate_after e.place (Make r c n) (fate (on q past))) (fate (on q past)))) on-it in
                subst (λ z. cond (same_ui z q) (z ∷ named q (ports_in past)) (named q (ports_in past)) ≡ once q (is_made (fate (on q (e ∷ past))))) same
                (ap (λ b. cond b (q ∷ named q (ports_in past)) (named q (ports_in past))) (same_ui-self q) ∙ ap (λ zs. q ∷ zs) none ∙ ap (once q) (sym made)))
            | inr f ↦ (
                let off : is_on (Some q) e ≡ false = ap (λ z. is_on (Some q) (record e { act = z })) act ∙ f in
                ap (λ b. cond b (r ∷ named q (ports_in past)) (named q (ports_in past))) (not-same q r f) ∙ ih
                ∙ ap (λ b. once q (is_made (fate (cond b (e ∷ on q past) (on q past))))) (sym off))
          ]
      by _ act ih = ih ∙ ap (once q) (sym (still-made q past e _ act tt))

-- So the records and Transfers that it tells stand for a legal past.

append-filter : (f : Holding → Bool) (xs ys : List Holding) → filter f (xs ++ ys) ≡ filter f xs ++ filter f ys
append-filter f [] ys = refl
append-filter f (x ∷ xs) ys = go (f x) (append-filter f xs ys)
  where
    go : (b : Bool) → filter f (xs ++ ys) ≡ filter f xs ++ filter f ys → cond b (x ∷ filter f (xs ++ ys)) (filter f (xs ++ ys)) ≡ cond b (x ∷ filter f xs) (filter f xs) ++ filter f ys
    go true ih = ap (λ zs. x ∷ zs) ih
    go false ih = ih

module _ (past : List Entry) (q : Ui) where
  -- what is told of a port is of that port
  of-port : (r : Ui) (b : Bool) → same_ui r q ≡ b → filter (holds q) (holding_told past r) ≡ cond b (holding_told past r) []
  of-port r b e = by (fate (on r past))
    where
      at-spot : (f : PortState) (spot : Spot) → filter (holds q) (told_in past r f spot) ≡ cond b (told_in past r f spot) []
      at-spot f (spots.Held actor) = ap (λ c. cond c (At (last_of 0 f.path) (record_for past (on r past) r actor f) ∷ []) []) e
      at-spot f (spots.Moving actor) = ap (λ c. cond c (OnTheWay (before_last 0 0 f.path) (last_of 0 f.path) (record_for past (on r past) r actor f) ∷ []) []) e
      at-spot f spots.Ended = neither b
        where
          neither : (b : Bool) → [] ≡ cond b (told_in past r f spots.Ended) []
          neither true = refl
          neither false = refl

      by : (o : Option PortState) → filter (holds q) (told_of past r o) ≡ cond b (told_of past r o) []
      by None = neither b
        where
          neither : (b : Bool) → [] ≡ cond b (told_of past r None) []
          neither true = refl
          neither false = refl
      by (Some f) = at-spot f f.spot

  of-ports : (qs : List Ui) → filter (holds q) (flat_map (holding_told past) qs) ≡ flat_map (holding_told past) (named q qs)
  of-ports [] = refl
  of-ports (r ∷ qs) =
      append-filter (holds q) (holding_told past r) (flat_map (holding_told past) qs)
      ∙ ap (λ hs. hs ++ filter (holds q) (flat_map (holding_told past) qs)) (of-port r (same_ui r q) refl)
      ∙ ap (λ hs. cond (same_ui r q) (holding_told past r) [] ++ hs) (of-ports qs)
      ∙ join (same_ui r q)
    where
      join : (b : Bool) → cond b (holding_told past r) [] ++ flat_map (holding_told past) (named q qs) ≡ flat_map (holding_told past) (cond b (r ∷ named q qs) (named q qs))
      join true = refl
      join false = refl

  told-once : (o : Option PortState) → fate (on q past) ≡ o → flat_map (holding_told past) (once q (is_made o)) ≡ holding_told past q
  told-once None e = sym (ap (told_of past q) e)
  told-once (Some f) e = append-nil (holding_told past q)

pub told-stand : (l : Layout) (past : List Entry) → IsLayout l → is_legal l past ≡ true → StandsFor past (holdings_told past)
told-stand l past layout h =
    record {
      shown = λ q.
          of-ports past q (ports_in past)
          ∙ ap (flat_map (holding_told past)) (ports-once l layout q past h)
          ∙ told-once past q (fate (on q past)) refl;
    }

-- In holdings that stand for a legal past each message has its fate.

behind-taken : (i : ℕ) (f : PortState) → fate_at i f ≡ Discarded → f.taken ≤ i
behind-taken i f h = go (nat_lt i f.taken) refl h
  where
    go : (b : Bool) → nat_lt i f.taken ≡ b → cond b Received (fate_left f.spot) ≡ Discarded → f.taken ≤ i
    go true e k = absurd (cc)
    go false e k = ltb-false i f.taken e

module _ (l : Layout) (past : List Entry) (layout : IsLayout l) (h : is_legal l past ≡ true) (holdings : List Holding) where
  has-fate : (q : Ui) (i : ℕ) (x : MsgId) (f : PortState) → fate (on q past) ≡ Some f → slice_get f.accepted i ≡ Some x → StandsByFate holdings q i x (fate_at i f) → HasFate past holdings q i x (fate_at i f)
  has-fate q i x f made at stands =
      let got = received_by_fate l past layout h q i x f made at in
      let gone = discarded_by_fate l past layout h q i x f made at in
      let taken : taken_by q past ≡ f.taken = ap taken_from made in
      record {
        received = (got.1, got.0);
        discarded = (
          λ d. gone.1 d.0 d.1 (subst (λ n. n ≤ i) taken d.2),
          λ is. (let d = gone.0 is in (d.0, d.1, subst (λ n. n ≤ i) (sym taken) (behind-taken i f is), ap (λ n. slice_get d.0 (i - n)) taken ∙ d.2)),
        );
        waits = stands;
      }

  pub holds-by-fate : StandsFor past holdings → HoldsByFate past holdings
  holds-by-fate stands =
      let each = holdings-hold-each past holdings stands (keeps_each_message l past h) in
      record {
        alone = λ q r i j x a b. stands_once l past q r i j x h a b;
        each = λ q i x at. by q i x each.each (fate (on q past)) refl at;
        only = each.only;
      }
    where
      by : (q : Ui) (i : ℕ) (x : MsgId) → ((q : Ui) (i : ℕ) (x : MsgId) (f : PortState) → fate (on q past) ≡ Some f → slice_get f.accepted i ≡ Some x → StandsByFate holdings q i x (fate_at i f)) → (o : Option PortState) → fate (on q past) ≡ o → slice_get (accepted_from o) i ≡ Some x → (what : MessageFate) × HasFate past holdings q i x what
      by q i x each None made at = absurd (let lt : i < 0 = slice_get_within [] i x at in omega arith)
      by q i x each (Some f) made at = (fate_at i f, has-fate q i x f made at (each q i x f made at))

-- so it has in the world
pub world-holds : (l : Layout) (past : List Entry) → IsLayout l → is_legal l past ≡ true → WorldHolds past
world-holds l past layout h = holds-by-fate l past layout h (holdings_told past) (told-stand l past layout h)
